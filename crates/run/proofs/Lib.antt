pub mod Stand
pub mod History
