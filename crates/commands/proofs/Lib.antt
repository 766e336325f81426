mod Lines
mod Shown
mod Splitting
mod Values
mod Words
