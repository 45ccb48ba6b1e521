pub mod Turns
pub mod Starts
pub mod SharedStarts
pub mod Meetings
pub mod HandOvers
