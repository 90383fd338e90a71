pub use Rattle.findings.specs.Findings
pub use Rattle.findings.specs.Filling
pub use Rattle.findings.specs.Shows
pub use Rattle.prefixes.specs.Steps
pub use Rattle.recording.specs.Recording
pub mod Answers
