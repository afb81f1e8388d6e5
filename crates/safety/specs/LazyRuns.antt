pub mod LateEvents
pub mod Needs
pub mod Lazy
pub mod Law
pub mod OnLiterals
