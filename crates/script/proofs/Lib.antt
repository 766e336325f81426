mod Blanks
mod Generating
mod Reading
mod Shown
