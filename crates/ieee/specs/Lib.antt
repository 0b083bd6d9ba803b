pub mod Double
pub mod Sqrt
pub mod Whole
pub mod Close
