pub mod AmongReaders
pub mod Owners
pub mod Seen
pub mod Passes
pub mod Tries
