-- Inner tools: no promise of a call and no demand speaks of them.
--   Masks     what src/masks.rt works out beside the operations of Literals
--   Widths    bounds and widths of the packed array
--   Packed    the packed array: clauses, goal and moves as numbers (src/packed.rt)
--   Reads     what a method of the reader gives (src/reader.rt)
--   Decoded   what `decode` gives the layers above
pub mod Masks
pub mod Widths
pub mod Packed
pub mod Reads
pub mod Decoded
