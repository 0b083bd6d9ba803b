pub mod Readings
pub mod Soundness
