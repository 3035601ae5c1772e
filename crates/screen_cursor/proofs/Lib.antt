pub mod Corners
pub mod Tested
