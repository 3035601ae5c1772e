pub mod Outlets
pub mod Suffices
pub mod Refused
pub mod Passed
