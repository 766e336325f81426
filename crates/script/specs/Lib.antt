pub mod Faults
pub mod Generators
pub mod Lines
pub mod Messages
pub mod Numbers
pub mod Quotes
pub mod Readings
