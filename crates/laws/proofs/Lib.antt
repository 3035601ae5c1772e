pub mod Computed
pub mod Xor
pub mod Sums
pub mod Lists
