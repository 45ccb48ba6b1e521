pub mod Seeds
pub mod Plain
pub mod Found
pub mod Ranges
