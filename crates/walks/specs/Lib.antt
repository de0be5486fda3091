pub mod Minutes
pub mod Pairs
pub mod Tables
pub mod Walks
pub mod Wholes
