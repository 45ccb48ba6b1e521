pub mod PartLines
pub mod PartRead
pub mod Values
pub mod AccessFaults
pub mod AccessesRead
pub mod AccessPoints
