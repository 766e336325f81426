mod Fields
mod Finding
mod Loop
pub mod Names
pub mod OneForm
mod Parts
pub mod Rising
mod Whole
