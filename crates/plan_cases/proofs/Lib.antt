-- A law from the walk by hand that the proof of `run_here` was; nothing cites it today.
pub mod LentArrays
