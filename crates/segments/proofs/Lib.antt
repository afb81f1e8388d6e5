pub mod Blocks
pub mod ShapeFacts
pub mod DataPlaces
pub mod Positions
pub mod Search
pub mod Crossings
pub mod PlaceAtLemmas
pub mod Pairs
pub mod Lookups
pub mod IndexSearch
pub mod Touching
pub mod PutIn
pub mod Apart
pub mod Grown
pub mod GrownPositions
pub mod GrownCrossings
pub mod SpotOrder
pub mod NamedSpots
mod Examples
mod GrowthExamples
pub mod InsideLemmas
pub mod GivenCount
pub mod Giving
pub mod DueLists
pub mod StepFacts
pub mod MemoryWords
pub mod NewRing
pub mod NewPlacement
pub mod Declaring
pub mod Writing
pub mod Reaching
pub mod Withdrawing
pub mod Elsewhere
pub mod OneGiving
pub mod ReachedSpots
pub mod GivenBorder
pub mod WalkSteps
pub mod WalkReads
pub mod Named
mod WalkExamples
mod WithdrawnExamples
pub mod MoveTargets
pub mod MovesStay
pub mod Words
pub mod LowerLaws
pub mod MiddleLaws
pub mod UpperLaws
