mod Absorbing
mod BigEndian
mod Blocks
mod Chunks
mod Digits
mod Filling
pub mod Order
mod Padding
mod Rounds
