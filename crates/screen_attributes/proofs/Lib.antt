pub mod Literal
pub mod Written
pub mod Stays
pub mod Mosaics
