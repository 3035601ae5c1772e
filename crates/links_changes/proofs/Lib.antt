pub mod Written
pub mod Pairs
pub mod Selves
