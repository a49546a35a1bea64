-- The laws by topic, and the theorems that a reader looks for.
pub mod laws
mod Demands
