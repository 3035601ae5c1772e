pub mod Tags
pub mod Written
pub mod Statuses
