pub mod Division
pub mod Polynomials
pub mod Table
