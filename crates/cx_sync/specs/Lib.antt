pub mod Kinds
pub mod Sync
pub mod Takes
pub mod Onces
