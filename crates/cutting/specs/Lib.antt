pub mod Rule
pub mod Promise
pub mod Refusals
pub mod Results
pub mod Finds
