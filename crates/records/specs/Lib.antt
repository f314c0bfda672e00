pub mod FieldType
pub mod Outcome
pub mod Kind
pub mod Lexicographic
pub mod Line
pub mod Text
pub mod Payload
pub mod Meaning
