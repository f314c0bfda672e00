pub mod Slots
pub mod Calls
pub mod Reached
pub mod Rows
pub mod Commands
pub mod Texts
pub mod Taken
