pub mod Notes
pub mod Turns
pub mod Card
