pub mod Growing
pub mod Placing
pub mod Tops
pub mod Places
pub mod Keeping
