pub mod Puts
pub mod Hex
pub mod TextsRun
pub mod Outputs
pub mod Identified
pub mod Spread
pub mod Given
