pub mod Numbers
pub mod Arcs
pub mod Spreading
pub mod Searches
pub mod Adding
pub mod Hubbing
pub mod Tallies
