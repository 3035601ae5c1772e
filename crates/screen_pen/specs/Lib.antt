pub mod Pens
pub mod Strokes
