-- What each function answers, in the code's own terms: nobody's promise. Assumes nothing.
pub mod Keys
pub mod Numbers
pub mod Words
