pub mod Roots
pub mod Stepping
