pub mod Room
pub mod Attempting
pub mod Bits
pub mod Queues
pub mod Lasting
pub mod Telling
