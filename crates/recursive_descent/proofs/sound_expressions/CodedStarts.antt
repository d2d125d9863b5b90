-- What the code has for what an expression begins with, in a language, is what the definition has.
use Rattle.std.proofs.Common.{◌≡◌, ℕ, Bool, true, false, cond, List, refl, sym, ap, ◌∙◌}
use Rattle.std.specs.Prelude.{◌&&◌, Some}
use Rattle.std.proofs.lemmas.Bool.{false≢true}
use Rattle.std.proofs.lemmas.Option.{none-some, same_Some}
use Rattle.tree.specs.declared.kind.Kind.TheVariants.{Identifier}
use Rattle.language.specs.declared.Language.{Language}
use Rattle.language.specs.Vocabulary.{is}
use Rattle.language.specs.Languages.{is_of_2022}
use Rattle.language.specs.ExpressionStart.{ExpressionStart, with_name, with_yield, with_private_name, no_start}
use Rattle.parser_tables.specs.declared.expression_starts.ExpressionStart.{ExpressionStart as Coded}
use Rattle.parser_tables.specs.declared.expression_starts.ExpressionStart.TheVariants as code
use Rattle.parser_tables.specs.ExpressionStarts.{coded_start, start_in, with_async}

-- all but `async`
abbrev pub is_plain : Coded → Bool
is_plain code.Async = false
is_plain _ = true

plain_name : (b : Bool) (c : Coded) → Some (cond b code.Async (code.OneToken Identifier)) ≡ Some c → is_plain c ≡ true → Some (code.OneToken Identifier) ≡ Some c
plain_name true c h p = absurd (false≢true (ap is_plain (same_Some _ _ h) ∙ p))
plain_name false c h p = h

plain_later : (l : Language) (w : List ℕ) (b : Bool) (x : ExpressionStart) (c : Coded) → (with_async l w (coded_start x) ≡ Some c → coded_start x ≡ Some c) → with_async l w (coded_start (cond b x no_start)) ≡ Some c → coded_start x ≡ Some c
plain_later l w true x c f h = f h
plain_later l w false x c f h = absurd (none-some _ h)

pub coded_plain : (l : Language) (x : ExpressionStart) (w : List ℕ) (c : Coded) → with_async l w (coded_start (start_in l x)) ≡ Some c → is_plain c ≡ true → coded_start x ≡ Some c
coded_plain l with_name w c h p = plain_name (is_of_2022 l && is w "async") c h p
coded_plain l with_yield w c h p = plain_later l w (is_of_2022 l) with_yield c (λ k. k) h
coded_plain l with_private_name w c h p = plain_later l w (is_of_2022 l) with_private_name c (λ k. k) h
coded_plain l x w c h p = h

-- `async` is a name of the language of 2022
pub async_name : (a b : Bool) → Some (cond (a && b) code.Async (code.OneToken Identifier)) ≡ Some code.Async → (a ≡ true) × (b ≡ true)
async_name true true h = (refl, refl)
async_name true false h = absurd (false≢true (sym (ap is_plain (same_Some _ _ h))))
async_name false b h = absurd (false≢true (sym (ap is_plain (same_Some _ _ h))))
