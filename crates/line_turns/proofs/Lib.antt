pub mod Held
pub mod Steps
pub mod Noted
