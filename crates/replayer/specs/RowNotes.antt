pub mod Added
pub mod Noted
