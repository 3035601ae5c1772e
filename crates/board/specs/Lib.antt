pub mod Boards
pub mod Calls
pub mod Runs
pub mod Pages
