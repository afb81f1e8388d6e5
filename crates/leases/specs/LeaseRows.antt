pub mod CleanRows
pub mod Taking
pub mod LeftBehind
