pub mod Echoes
pub mod Written
pub mod Known
