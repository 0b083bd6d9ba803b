pub mod Table
pub mod Rows
pub mod Paper
pub mod Closeness
pub mod Chebyshev
pub mod Exact
pub mod Multiplier
