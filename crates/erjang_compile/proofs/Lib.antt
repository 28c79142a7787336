mod OneWeight
mod OneCount
mod OneSource
pub mod OneAnswer
mod Left
mod Mapped
mod Longest
mod PrintBytes
mod Reading
mod Passing
