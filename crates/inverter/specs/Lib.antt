pub mod Day
pub mod Finite
