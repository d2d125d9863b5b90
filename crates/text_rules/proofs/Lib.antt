mod Characters
mod CommentsPassed
mod NodeTurns
mod PartTurns
mod QuietTexts
mod Together
pub mod Turns
mod EvenTexts
