pub mod RingLents
pub mod Moving
