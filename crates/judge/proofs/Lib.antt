pub mod Writing
pub mod Heights
pub mod Deriving
pub mod Holding
pub mod Chaining
pub mod Beginning
pub mod Telling
