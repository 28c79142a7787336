pub mod Full
pub mod Gave
pub mod Read
pub mod Texts
