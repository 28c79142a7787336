mod Left
pub mod Entries
pub mod Defined
pub mod Breaks
pub mod Found
