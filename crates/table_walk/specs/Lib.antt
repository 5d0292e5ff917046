-- What the walk from fork to fork answers, and the laws that its proof cites. Assumes nothing.
pub mod Mirror
pub mod Steps
