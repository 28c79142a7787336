pub mod AfterLaw
pub mod Checking
pub mod ClassNames
pub mod FirstFrame
pub mod FitsLaw
pub mod Found
mod Left
pub mod LinksFound
pub mod LocalsLaw
pub mod NameSets
pub mod OpParts
pub mod Placed
pub mod Places
pub mod Room
pub mod Starts
pub mod VerdictLaw
pub mod Walking
