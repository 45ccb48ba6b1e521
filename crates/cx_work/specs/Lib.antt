pub mod Accesses
pub mod Reserves
pub mod Acting
pub mod Steps
pub mod Bodies
pub mod RunNow
