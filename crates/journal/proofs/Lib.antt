mod Chunks
mod Frames
mod Replays
mod Heads
mod Writes
mod FramesRead
mod HeadsRead
mod JournalsRead
mod Cuts
mod Appends
mod FramesWritten
mod HeadsWritten
mod OnlyJournals
pub mod Facts
