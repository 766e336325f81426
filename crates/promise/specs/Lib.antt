pub mod Back
pub mod Cases
pub mod Promise
pub mod Runs
pub mod System
