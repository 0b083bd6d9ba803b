pub mod Phases
pub mod Cells
pub mod Told
