pub mod Walks
pub mod Offers
pub mod Ends
pub mod Bodies
pub mod Replies
