pub mod Acting
pub mod Acts
pub mod ActsLawful
pub mod Running
