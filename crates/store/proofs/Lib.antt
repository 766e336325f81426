pub mod Equality
pub mod Exact
pub mod Loops
pub mod States
pub mod Tables
