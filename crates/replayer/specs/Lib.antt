pub mod Replays
pub mod LazySteps
pub mod RowNotes
pub mod Schedules
