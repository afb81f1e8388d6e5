pub mod Sources
pub mod RowByRow
pub mod Ahead
pub mod Answers
pub mod ReaderState
pub mod WholeTexts
pub mod Streams
