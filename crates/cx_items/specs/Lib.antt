pub mod Form
pub mod Memory
pub mod Calls
pub mod Next
pub mod Room
pub mod Steps
