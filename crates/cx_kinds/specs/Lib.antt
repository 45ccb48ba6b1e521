pub mod AnyKind
pub mod Holding
pub mod Tokens
pub mod Seats
pub mod Acts
pub mod Sights
pub mod Accesses
