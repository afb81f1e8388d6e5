mod FreshRecords
pub mod BoundRings
pub mod WordsInside
mod BesideFree
pub mod OneRingHas
mod TableWords
mod OpenAreas
mod OpenEntries
pub mod GivenCommands
pub mod CommandRing
pub mod ResetRecords
pub mod ListPlaces
pub mod LivingRings
pub mod ReadRegisters
pub mod BesideCommands
pub mod PlacedRows
pub mod FirstBroken
pub mod BaseWords
pub mod Words
pub mod RangeWords
pub mod RingFinder
pub mod DeviceSlots
pub mod LowerLaws
pub mod MiddleLaws
pub mod UpperLaws
pub mod Laws
