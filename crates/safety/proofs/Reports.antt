pub mod NamedData
pub mod ReportedRing
pub mod ReportSuccess
pub mod BrokenRing
pub mod ReportError
pub mod StopRead
pub mod ReportRuns
