pub mod Pieces
pub mod Noted
pub mod Claims
pub mod Cuts
