pub mod Attributing
pub mod Within
