pub mod SoFar
pub mod Gathered
