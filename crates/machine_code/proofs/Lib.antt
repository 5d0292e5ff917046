-- What is proved of the definitions of specs/: every accepted text gives a well-formed program (Accepted). It stands here, so that an edit of a
-- definition is read, and is refused by a theorem.
pub mod Accepted
