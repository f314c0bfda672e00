pub mod Said
pub mod Verdicts
