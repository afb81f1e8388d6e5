pub mod StandingTargets
pub mod Placings
pub mod DeclaredMoves
pub mod DeclaredTargets
pub mod PlacedTargets
