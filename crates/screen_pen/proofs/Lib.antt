pub mod Worked
pub mod Stays
