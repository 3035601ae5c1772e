pub mod Feeding
pub mod Plain
