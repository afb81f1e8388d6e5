pub mod Lists
pub mod BindingLists
pub mod SlotWalk
pub mod BoundFlags
pub mod RingRecords
pub mod KeptRings
pub mod LeftRings
