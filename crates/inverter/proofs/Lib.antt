mod Said
mod Calls
pub mod Ends
pub mod Run
mod Outset
pub mod Finite
