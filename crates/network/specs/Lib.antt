pub mod Model
pub mod Kept
