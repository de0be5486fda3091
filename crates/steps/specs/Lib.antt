pub mod Makes
pub mod Reading
pub mod Prints
