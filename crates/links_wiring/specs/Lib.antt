pub mod Each
pub mod Modules
pub mod Tables
pub mod Reading
