pub mod Closures
pub mod Closing
pub mod Falling
pub mod Marks
