pub mod Kinds
pub mod Condvars
pub mod Acts
pub mod Waiting
pub mod Logs
