pub mod Earlier
pub mod Faults
pub mod Walk
pub mod Script
pub mod Numbered
pub mod Laws
pub mod WellFormed
pub mod InOrder
