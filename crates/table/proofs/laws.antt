-- The laws that belong to no one function, by topic. Each topic says which of its files the crates above may cite.
pub mod arrays
pub mod slots
pub mod starts
pub mod steps
pub mod pictures
pub mod answers
pub mod examples
