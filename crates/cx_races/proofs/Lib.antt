pub mod Lanes
pub mod Reaching
pub mod Pairs
pub mod Lines
