pub mod Pieces
pub mod Sinks
pub mod Spelling
