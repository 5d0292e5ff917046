-- The laws that the proof of `print_table` cites: what exploring leaves is printable (Explored), and from there to the printed table (Comes).
-- And that the names of an accepted text are short, whatever table has them (Short). Assumes nothing.
pub mod Short
pub mod Explored
pub mod Comes
