-- What is proved of the words that are read (Laws). It stands here and not in specs/, so that an edit of a definition is read, and is refused by a
-- theorem.
pub mod Laws
