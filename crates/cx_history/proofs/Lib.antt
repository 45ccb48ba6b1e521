pub mod Appending
pub mod Sound
pub mod Clean
