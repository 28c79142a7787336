pub mod BytesLaw
pub mod FindLaw
