pub mod Written
pub mod Stays
pub mod Grounds
pub mod Mosaics
