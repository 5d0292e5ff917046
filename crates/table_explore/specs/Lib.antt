-- What the exploration's functions answer, and the laws that their proofs cite. Assumes nothing.
pub mod Mirror
pub mod Steps
