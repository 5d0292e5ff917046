-- Laws that other crates cite: a word read and stored (Words), words read back from where they were written (Reads), words in a room (Rooms),
-- in parts one after another (Parts), and a row's (Row). Assumes nothing.
pub mod Words
pub mod Reads
pub mod Rooms
pub mod Parts
pub mod Row
