pub mod Screens
pub mod Calls
pub mod Claims
pub mod Others
