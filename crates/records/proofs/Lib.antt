pub mod Lines
pub mod Numbering
pub mod Lexicographic
pub mod Regular
pub mod Payloads
pub mod RoundTrip
