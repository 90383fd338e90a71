pub use Rattle.recording.specs.Recording
pub use Rattle.findings.specs.Findings
pub use Rattle.findings.specs.Filling
pub mod Steps
pub mod Fates
