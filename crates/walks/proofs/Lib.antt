pub mod Bests
pub mod Tables
pub mod Walking
