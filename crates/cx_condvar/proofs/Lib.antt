pub mod Members
pub mod Entering
pub mod Passes
pub mod Logging
