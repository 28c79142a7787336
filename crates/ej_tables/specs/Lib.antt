pub mod Bytes
pub mod RowEntries
pub mod Rows
