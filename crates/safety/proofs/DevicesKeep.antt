pub mod AreaFacts
pub mod TakenDevices
pub mod DeviceFrames
pub mod DevicesWritten
pub mod KeptDevices
