pub mod Classes
pub mod Colors
pub mod Layout
