-- Laws that the functions' own proofs cite. Assumes nothing.
pub mod Stores
pub mod Wrote
pub mod Exprs
