pub mod Pages
pub mod Ranges
pub mod Reading
