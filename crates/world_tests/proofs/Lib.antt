pub mod ActsLaw
