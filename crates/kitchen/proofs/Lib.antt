pub mod Made
pub mod Endings
pub mod Rested
