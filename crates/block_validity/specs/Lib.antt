pub mod Block
pub mod Changed
pub mod Units
pub mod Mending
