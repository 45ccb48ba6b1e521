pub mod Positions
pub mod Views
pub mod Turning
pub mod Picked
pub mod Passes
pub mod Lending
pub mod Acts
