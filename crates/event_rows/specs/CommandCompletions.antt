pub mod Commands
pub mod OneRing
pub mod Places
