-- What is written from the bytes of a table and its pool is document 01's printed form. In order: words read from the bytes of things that
-- stand one after another (Places), the texts of terms (Texts), what printing relies on (Printable), the lines of a table (Lines), and that
-- 262,144 bytes are enough (Room). Assumes nothing.
pub mod Places
pub mod Texts
pub mod Printable
pub mod Lines
pub mod Room
