pub mod Kinds
pub mod Owners
pub mod SharedMutexes
pub mod Keys
