pub mod Bytes
pub mod Steps
pub mod Linear
pub mod Divides
pub mod Entering
