pub mod RecordPart
pub mod PartFound
pub mod AccessLines
pub mod AccessesMeant
pub mod AccessSteps
pub mod AccessesSeen
