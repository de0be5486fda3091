pub mod Runs
pub mod Plays
pub mod Whole
