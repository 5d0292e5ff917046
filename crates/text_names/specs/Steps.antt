-- Laws that the functions' own proofs cite. Assumes nothing.
pub mod Find
pub mod Lists
pub mod Tables
