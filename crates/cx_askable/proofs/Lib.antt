pub mod Calls
pub mod Completions
pub mod Lines
pub mod Totals
pub mod Latches
pub mod Starts
pub mod Askable
