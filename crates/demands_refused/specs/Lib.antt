pub mod Examples
pub mod WrongVersions
