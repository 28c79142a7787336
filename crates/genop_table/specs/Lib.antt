pub mod BuiltinRows
pub mod Builtins
pub mod InstructionRows
pub mod Instructions
pub mod Places
pub mod TestRows
pub mod Tests
