pub mod Races
pub mod Sheets
pub mod Report
