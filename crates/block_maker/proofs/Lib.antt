pub mod Blocks
pub mod Stores
pub mod Numbered
pub mod Left
