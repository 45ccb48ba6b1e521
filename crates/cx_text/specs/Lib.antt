pub mod Table
pub mod Lines
pub mod Words
pub mod Items
pub mod Views
