pub mod Stays
pub mod Reading
