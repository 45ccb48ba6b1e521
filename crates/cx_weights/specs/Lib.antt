pub mod Weights
pub mod World
pub mod Laws
pub mod Ends
