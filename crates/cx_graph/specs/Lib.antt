pub mod Graph
pub mod Tally
pub mod Hubs
pub mod Marks
