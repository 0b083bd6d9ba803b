pub mod Vectors
pub mod Kernel
pub mod Reads
