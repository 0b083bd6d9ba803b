pub mod Frac
pub mod Lists
pub mod Polynomial
