pub mod Corners
pub mod Stays
