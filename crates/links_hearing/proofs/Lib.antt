pub mod Codes
pub mod Escapes
pub mod Written
pub mod Spelling
pub mod Flowing
pub mod Ranges
pub mod Apart
