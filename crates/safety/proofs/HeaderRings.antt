pub mod RingsOfHeader
pub mod OpenRings
pub mod CodesTold
pub mod Headers
pub mod RingIds
pub mod OneCommandRing
pub mod NamedRings
pub mod Lenient
