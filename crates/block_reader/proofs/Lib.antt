pub mod Verdicts
pub mod Mending
pub mod Mendable
pub mod Handed
pub mod AsZeros
