pub mod Kinds
pub mod Owners
pub mod Mutexes
pub mod Recursives
pub mod Keys
pub mod Together
pub mod Trying
