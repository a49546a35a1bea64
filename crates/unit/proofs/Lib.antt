-- What the proofs of several functions use, and the laws of the numbers.
mod StoredNumbers
mod ReplyCases
mod RowNumbers
mod Demands
