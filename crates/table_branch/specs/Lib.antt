-- What the functions of a branch and of a row's end answer, and the laws that their proofs cite. Assumes nothing.
pub mod Mirror
pub mod Steps
