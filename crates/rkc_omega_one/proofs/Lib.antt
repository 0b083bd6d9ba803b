pub mod Ranges
mod Derivatives
mod Squaring
mod Near
pub mod CloseTable
