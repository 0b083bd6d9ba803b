pub mod Int
pub mod Ring
pub mod FracLaws
pub mod Combine
pub mod NatRing
pub mod Order
pub mod Values
pub mod ListLaws
