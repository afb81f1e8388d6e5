pub mod Words
mod VersionNotes
pub mod Certified
pub mod HeldAnswers
pub mod Replayed
pub mod Streamed
pub mod Laws
