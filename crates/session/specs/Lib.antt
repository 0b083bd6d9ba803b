pub mod Attempt
pub mod Claim
pub mod Refusals
pub mod Alike
pub mod Session
pub mod Concluded
