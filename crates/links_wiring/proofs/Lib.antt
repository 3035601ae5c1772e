pub mod Written
pub mod Selves
pub mod Small
pub mod Parts
