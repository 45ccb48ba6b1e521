pub mod Acts
pub mod Callers
pub mod Queue
pub mod Cells
pub mod Seen
