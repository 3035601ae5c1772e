pub mod Stays
pub mod Blanked
