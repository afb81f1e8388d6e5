pub mod EventRing
pub mod EventPlaceValue
