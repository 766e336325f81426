mod Window
mod Cuts
pub mod Keeps
mod Collected
mod Further
