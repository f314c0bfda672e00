pub mod Refusals
pub mod Handed
