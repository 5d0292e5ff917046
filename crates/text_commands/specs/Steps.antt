-- Laws that the functions' own proofs cite. Assumes nothing.
pub mod Effects
pub mod Commands
