pub mod Writing
pub mod Having
