pub mod Minute
pub mod Listing
mod Lists
pub mod Hours
pub mod Day
pub mod KeptOut
