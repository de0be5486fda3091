pub mod Minutes
pub mod Meets
pub mod Standing
pub mod Orders
pub mod Events
pub mod Played
pub mod Deciding
