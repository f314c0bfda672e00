pub mod History
pub mod Answers
pub mod Sheet
pub mod Reading
pub mod Law
