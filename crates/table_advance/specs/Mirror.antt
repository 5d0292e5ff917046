-- What a path comes to on words, and one command of it: nobody's promise. Assumes nothing.
pub mod Followed
