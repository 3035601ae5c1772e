pub mod States
pub mod Calls
pub mod Hearing
pub mod Runs
