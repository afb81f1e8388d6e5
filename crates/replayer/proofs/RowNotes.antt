pub mod Kept
pub mod Placings
pub mod Lists
pub mod Looks
pub mod Notings
