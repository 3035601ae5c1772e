pub mod Counts
pub mod Written
pub mod Getting
pub mod Echoes
