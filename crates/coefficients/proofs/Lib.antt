mod Bits
mod Stars
mod Late
mod Doubles
mod RowTable
pub mod CloseRows
pub mod Zeros
pub mod CloseTable
pub mod Carried
mod Normalized
mod PaperValues
mod Multiplier
mod Begins
pub mod Stable
pub mod Example
