pub mod Notes
pub mod Passes
pub mod Law
pub mod Tables
pub mod Shapes
pub mod Goals
pub mod Headers
