pub mod Seen
pub mod Checks
pub mod Steps
pub mod Finished
pub mod Views
pub mod Whole
pub mod Front
