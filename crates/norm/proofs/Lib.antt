pub mod Sums
pub mod Finite
pub mod Ways
pub mod Bounds
pub mod Infinite
pub mod Cases
