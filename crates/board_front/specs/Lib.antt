pub mod LineBytes
pub mod Fitting
pub mod Ample
