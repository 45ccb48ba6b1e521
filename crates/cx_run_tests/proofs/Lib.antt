pub mod Running
pub mod Beginning
