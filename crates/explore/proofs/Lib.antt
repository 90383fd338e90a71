mod Draws
mod Drawing
mod Crashes
mod Explained
mod Sizes
mod Copied
mod Sweeps
mod Numbers
mod Shapes
mod InOrder
mod Attempted
mod StoppedCalls
pub mod Facts
