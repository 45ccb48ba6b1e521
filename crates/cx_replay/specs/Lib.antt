pub mod SplitMix
pub mod Starting
pub mod Schedule
pub mod Views
pub mod Standing
pub mod Knowing
