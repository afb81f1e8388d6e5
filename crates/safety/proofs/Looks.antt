pub mod LookedRing
pub mod LookKinds
pub mod LookSpots
pub mod LookRuns
