pub mod Computed
pub mod ScreenRuns
