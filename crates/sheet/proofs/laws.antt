-- The laws that belong to no one function, by topic. Each topic says which of its files the crates above may cite.
pub mod base
pub mod literals
pub mod format
pub mod reader
