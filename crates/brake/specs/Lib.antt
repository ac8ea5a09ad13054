pub mod Refusals
pub mod Meaning
pub mod Applying
pub mod LettingOff
pub mod PlainBrake
pub mod Rehearsal
