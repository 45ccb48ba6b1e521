pub mod Always
pub mod Running
pub mod Executions
