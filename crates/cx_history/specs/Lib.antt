pub mod Histories
pub mod Legal
pub mod IsRecord
pub mod Follows
pub mod Flaw
pub mod Views
