pub mod Staying
pub mod Anew
