mod Items
mod CommentTurns
mod WordTurns
mod LeftTurns
mod UnusedTurns
mod WordExamples
mod DecisionExamples
