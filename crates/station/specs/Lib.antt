pub mod Output
pub mod Identified
pub mod Handed
