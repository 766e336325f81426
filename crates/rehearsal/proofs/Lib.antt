mod Digits
pub mod InSystem
mod Kept
mod Lists
mod Machines
pub mod Reached
pub mod Refused
pub mod Returned
mod Same
