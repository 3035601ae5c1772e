pub mod Judging
pub mod Claims
pub mod Quick
