mod RingsNow
pub mod BaseWords
