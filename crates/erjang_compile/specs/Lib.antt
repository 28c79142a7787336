pub mod Accepted
pub mod Faults
pub mod Messages
pub mod Laws
pub mod Raised
pub mod Answers
