pub mod Counts
pub mod Moving
pub mod Owners
pub mod Rising
