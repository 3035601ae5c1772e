pub mod Written
pub mod Tested
pub mod Equal
pub mod Takers
