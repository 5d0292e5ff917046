-- Laws that the functions' own proofs cite. Assumes nothing.
pub mod Linked
pub mod Joined
pub mod Verdict
pub mod Reads
