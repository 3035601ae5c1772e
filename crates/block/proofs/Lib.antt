pub mod Returned
pub mod Handing
