pub mod Asks
pub mod Forms
pub mod Scenes
pub mod Offers
pub mod Spent
pub mod Laws
