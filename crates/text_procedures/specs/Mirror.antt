-- What each function answers, in the code's own terms: nobody's promise. Assumes nothing.
pub mod Lists
pub mod Words
pub mod Procedures
