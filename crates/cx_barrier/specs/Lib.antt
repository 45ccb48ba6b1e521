pub mod Kinds
pub mod Completions
pub mod Phases
pub mod Barriers
pub mod Arriving
