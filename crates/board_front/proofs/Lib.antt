pub mod Onwards
pub mod Rooms
pub mod Refused
pub mod Amply
