pub mod Written
pub mod Given
