pub mod Numbered
pub mod Removed
pub mod Seen
