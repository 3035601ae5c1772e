pub mod Worked
pub mod Codes
pub mod Stays
pub mod Opened
