pub mod Edges
pub mod Stays
pub mod Rows
