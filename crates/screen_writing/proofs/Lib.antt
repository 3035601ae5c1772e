pub mod Having
pub mod Stays
pub mod Twice
pub mod Mosaics
