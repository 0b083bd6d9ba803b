pub mod Norm
pub mod Infinite
pub mod Entries
