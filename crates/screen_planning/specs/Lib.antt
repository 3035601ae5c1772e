pub mod Changing
pub mod Obeying
pub mod Planning
pub mod Grounds
pub mod Lasts
pub mod Naming
pub mod Reach
