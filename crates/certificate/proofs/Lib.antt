pub mod Appending
pub mod Filling
pub mod Pieces
pub mod Records
pub mod RoundTrip
pub mod Words
pub mod Laws
