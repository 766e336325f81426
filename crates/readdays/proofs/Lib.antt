mod Digits
mod Frames
