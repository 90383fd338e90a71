pub mod Sound
pub mod Recovering
pub mod RecoveryEnds
pub mod RecoveryBound
pub mod RecoveryTelling
pub mod SoundForRecovery
pub mod Nowhere
