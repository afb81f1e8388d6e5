pub mod Verdicts
pub mod RowsFit
pub mod BaseWords
pub mod Laws
