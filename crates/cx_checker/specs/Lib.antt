pub mod Views
pub mod Placing
pub mod Knowledge
pub mod Marks
pub mod Looks
pub mod Buckets
pub mod Verdict
