-- Refusals of the layers below, as refusals of the text.
use Rattle.std.proofs.Common.{◌≡◌, ℕ, sym, subst}
use Rattle.source_text.specs.Source.{IsPlace}
use Rattle.source_text.specs.declared.fault.Fault.{Fault}
use Rattle.source_text.specs.declared.fault.Fault.TheVariants.{Syntax, TooDeep, OutOfMemory}
use Rattle.covers.specs.Refusals.{IsRefusedAt, IsMemory}
use Rattle.token_cursor.specs.SourceText.{SourceText}
use Rattle.token_cursor.specs.CursorState.{IsSyntax}
use Rattle.token_cursor.specs.Refusals.{IsLimit, IsStop, IsRefusal}

pub of_limit : (text : SourceText) (fault : Fault) → IsLimit fault → IsRefusal text fault
of_limit text TooDeep h = tt
of_limit text OutOfMemory h = tt
of_limit text _ h = absurd h

pub of_memory : (text : SourceText) (fault : Fault) → IsMemory fault → IsRefusal text fault
of_memory text OutOfMemory h = tt
of_memory text _ h = absurd h

pub of_place : (text : SourceText) (at : ℕ) (fault : Fault) → IsPlace text.bytes at → IsRefusedAt at fault → IsRefusal text fault
of_place text at (Syntax place) p h = subst (IsPlace text.bytes) (sym h) p
of_place text at OutOfMemory p h = tt
of_place text at _ p h = absurd h

pub of_stop : (text : SourceText) (at : ℕ) (fault : Fault) → IsPlace text.bytes at → IsStop at fault → IsRefusal text fault
of_stop text at (Syntax place) p h = subst (IsPlace text.bytes) (sym h) p
of_stop text at TooDeep p h = tt
of_stop text at OutOfMemory p h = tt
of_stop text at _ p h = absurd h

pub of_cursor : (text : SourceText) (at : ℕ) (fault : Fault) → IsSyntax text at fault → IsRefusal text fault
of_cursor text at (Syntax place) h = h.1
of_cursor text at _ h = absurd h

pub of_syntax : (text : SourceText) (at : ℕ) (fault : Fault) → IsPlace text.bytes at → fault ≡ Syntax at → IsRefusal text fault
of_syntax text at fault p h = subst (IsRefusal text) (sym h) p

pub of_deep : (text : SourceText) (fault : Fault) → fault ≡ TooDeep → IsRefusal text fault
of_deep text fault h = subst (IsRefusal text) (sym h) tt

pub of_alloc : (text : SourceText) (fault : Fault) → fault ≡ OutOfMemory → IsRefusal text fault
of_alloc text fault h = subst (IsRefusal text) (sym h) tt

pub limit_of_deep : (fault : Fault) → fault ≡ TooDeep → IsLimit fault
limit_of_deep fault h = subst IsLimit (sym h) tt

pub limit_of_alloc : (fault : Fault) → fault ≡ OutOfMemory → IsLimit fault
limit_of_alloc fault h = subst IsLimit (sym h) tt

pub stop_of_limit : (at : ℕ) (fault : Fault) → IsLimit fault → IsStop at fault
stop_of_limit at TooDeep h = tt
stop_of_limit at OutOfMemory h = tt
stop_of_limit at _ h = absurd h

pub stop_of_deep : (at : ℕ) (fault : Fault) → fault ≡ TooDeep → IsStop at fault
stop_of_deep at fault h = subst (IsStop at) (sym h) tt

pub ruleset refusals = (of_limit, of_memory, of_place, of_stop, of_cursor, of_syntax, of_deep, of_alloc, limit_of_deep, limit_of_alloc, stop_of_limit, stop_of_deep)
