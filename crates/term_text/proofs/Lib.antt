mod Fronts
pub mod Quoted
mod Names
mod Numbers
pub mod Ascii
mod Spelled
mod Sound
mod Lexing
mod Grammatical
mod Valued
mod Depth
pub mod GoodTokens
mod SoundForms
pub mod Law
pub mod Atoms
pub mod Reading
pub mod PlainText
pub mod Opened
pub mod Steps
