pub mod Characters
pub mod Cells
