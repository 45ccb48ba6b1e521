pub mod Arrivals
pub mod Bounds
pub mod LastPhases
pub mod Passing
pub mod Going
