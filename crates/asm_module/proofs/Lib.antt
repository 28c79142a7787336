pub mod InRange
mod FunctionLemmas
mod KeySets
mod KeysRead
mod ModuleLemmas
pub mod OneModule
mod OperandLemmas
mod ReadingLemmas
