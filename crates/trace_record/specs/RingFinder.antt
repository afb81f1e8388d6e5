pub mod Finding
pub mod RecordsOfRings
