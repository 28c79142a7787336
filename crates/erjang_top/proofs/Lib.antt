mod Said
mod Worked
mod ManyFiles
mod Answered
pub mod OneFault
pub mod OneClass
mod Verifying
mod AnsweredVerify
pub mod Reading
pub mod OneFirst
pub mod GoodTerms
pub mod FirstPath
