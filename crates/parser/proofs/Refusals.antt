-- A refusal of what is read is one of the whole.
use Rattle.std.proofs.Common.{ℕ, List, Err}
use Rattle.source_text.specs.declared.fault.Fault.{Fault}
use Rattle.source_text.specs.declared.fault.Fault.TheVariants.{TooDeep, OutOfMemory}
use Rattle.language.specs.declared.Language.{Language}
use Rattle.recursive_descent.specs.Scripts as Reading
use Rattle.parser.specs.Scripts.{IsAnswered}

pub refused_alike : (language : Language) (text : List ℕ) (fault : Fault) → Reading.IsAnswered language text (Err fault) → IsAnswered language text (Err fault)
refused_alike language text TooDeep h = h
refused_alike language text OutOfMemory h = h
refused_alike language text _ h = h
