pub mod Arrays
pub mod Answers
pub mod Listening
pub mod Kept
pub mod Asked
