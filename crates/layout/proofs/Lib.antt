mod Signings
mod Splitting
mod Noting
mod LinesRead
mod Written
pub mod Added
