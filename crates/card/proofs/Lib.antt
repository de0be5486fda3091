pub mod Room
pub mod Telling
