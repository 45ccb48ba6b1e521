pub mod Sums
pub mod Checks
pub mod Closed
pub mod Cases
pub mod Shares
pub mod Bodies
pub mod Meant
pub mod Makes
