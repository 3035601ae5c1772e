pub mod Clearing
pub mod Within
