pub mod Fields
pub mod Rows
pub mod Alone
pub mod AloneItems
pub mod BackItems
pub mod Lexing
pub mod LinesLeft
pub mod WordsKept
pub mod Digits
pub mod Written
pub mod Taken
pub mod Among
mod Telling
