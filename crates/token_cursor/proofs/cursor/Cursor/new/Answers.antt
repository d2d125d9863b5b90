use Rattle.std.proofs.Common.{refl, sym, ap, ◌∙◌, subst, arith}
use Rattle.std.specs.Str.{chars}
use Rattle.source_text.specs.Source.{IsPlace}
use Rattle.std.proofs.lemmas.Str.{IsCharBoundary-start}
use Rattle.tokens.specs.Comments.{hashbang}
use Rattle.tokens.specs.Tokens.{size}
use Rattle.token_cursor.proofs.ScanResults.{begins_behind, begins_first}
use Rattle.token_cursor.proofs.cursor.Cursor.new.Goals as goal
use Rattle.token_cursor.proofs.cursor.Cursor.new.Goals.{in-true, in-false}

pub scan_in-ahead-requires : goal.scan_in-ahead-requires
scan_in-ahead-requires c = elim c.if-is_of_2022.branch [
  | in-true w ↦ rw w.at-is (subst (λ t. IsPlace t w.hashbang_end-at.result) c.text-text.ensures.value w.hashbang_end-at.ensures.place)
  | in-false w ↦ rw w.at-is (IsCharBoundary-start _ c.text-text.ensures.utf8)
]

pub invariant_of-result : goal.invariant_of-result
invariant_of-result c = (
  elim c.if-is_of_2022.branch [
    | in-true w ↦ rw w.at-is (subst (λ t. IsPlace t w.hashbang_end-at.result) c.text-text.ensures.value w.hashbang_end-at.ensures.place)
    | in-false w ↦ rw w.at-is (IsCharBoundary-start _ c.text-text.ensures.utf8)
  ],
  omega arith,
  c.scan_in-ahead.ensures,
  refl,
)

pub returns-clause-last : goal.returns-clause-last
returns-clause-last c = elim c.if-is_of_2022.branch [
  | in-true w ↦ begins_behind _ _ _ (sym c.is_of_2022.ensures ∙ w.in-true.is) (w.at-is ∙ w.hashbang_end-at.ensures.value ∙ ap (λ t. size (hashbang (chars t))) c.text-text.ensures.value)
  | in-false w ↦ begins_first _ _ _ (sym c.is_of_2022.ensures ∙ w.in-false.is) w.at-is
]
