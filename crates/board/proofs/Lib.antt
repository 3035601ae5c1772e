pub mod Ranges
pub mod Parts
pub mod Events
pub mod Fresh
pub mod Linked
pub mod Shown
pub mod Refusals
