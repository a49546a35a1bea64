-- The laws that belong to no one function, by topic. Each topic says which of its files the crates above may cite.
pub mod runs
pub mod searches
pub mod exchanges
pub mod rows
pub mod text
pub mod examples
