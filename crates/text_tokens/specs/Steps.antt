-- Laws that the functions' own proofs cite. Assumes nothing.
pub mod Scan
pub mod Names
pub mod Seen
pub mod Marks
pub mod Runs
