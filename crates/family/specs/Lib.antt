pub mod Family
pub mod Reach
pub mod Marked
pub mod Divided
