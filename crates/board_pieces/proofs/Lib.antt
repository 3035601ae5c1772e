pub mod Single
pub mod Numbered
pub mod Noting
pub mod Taken
pub mod Cut
pub mod Shown
