pub mod Beyond
pub mod Table
pub mod Chebyshev
