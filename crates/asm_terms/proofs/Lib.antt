pub mod GrammarLaw
pub mod FormsLaw
mod JoinLemmas
pub mod SplitLaw
mod SpelledIsRead
mod ReadIsSpelled
pub mod TextLemmas
pub mod DigitLemmas
pub mod Shorter
pub mod QuoteLemmas
mod FormsRead
pub mod TokensWithin
pub mod TokenLemmas
pub mod CharactersLemmas
mod WorkedLemmas
