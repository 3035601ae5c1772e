pub mod States
pub mod Calls
pub mod Runs
pub mod Page
pub mod Standing
pub mod Alike
pub mod Line
