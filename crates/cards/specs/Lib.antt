pub mod Drawn
pub mod Cards
pub mod ScreenAttributes
pub mod ScreenPlaces
pub mod ScreenSequences
pub mod ScreenCards
