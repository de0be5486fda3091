pub mod Numbers
pub mod Making
pub mod Reading
