pub mod States
pub mod Calls
pub mod Runs
pub mod Cards
