-- Where no item of a given list is left: before an item, and behind the last (ECMA-262 12.2, 12.16, 13.3, 13.12, 14.1, 14.6).
use Rattle.std.proofs.Common.{◌≡◌, ◌⊎◌, inl, inr, ℕ, Bool, true, false, not, cond, List, [], refl, sym, ap, ◌∙◌, subst}
use Rattle.std.specs.Prelude.{codes, ◌&&◌, nat_lt}
use Rattle.std.proofs.lemmas.Bool.{and_parts, false≢true, true≢false}
use Rattle.tokens.specs.declared.token.TokenClass.TheVariants.{Punctuator}
use Rattle.tree.specs.declared.kind.Pair.{Pair}
use Rattle.tree.specs.Tree.{Parts, none, part, gap, part_count}
use Rattle.language.specs.declared.Start.TheVariants.{Any}
use Rattle.language.specs.Covers.{Reading, as_expression, as_pattern}
use Rattle.language.specs.Pieces.{is_none}
use Rattle.language.specs.Token.{Token}
use Rattle.language.proofs.list_loops.FirstPieces.{run_none}
use Rattle.covers.specs.declared.list.ListKind.{ListKind}
use Rattle.covers.specs.declared.list.ListKind.TheVariants as listed
use Rattle.covers.specs.declared.list.ListSummary.{ListSummary}
use Rattle.covers.specs.declared.list.ListBuilder.{ListBuilder as ListOf}
use Rattle.covers.specs.Lists.{closing, is_ended, separated}
use Rattle.recursive_descent.specs.Soundness.{RunsIn}
use Rattle.recursive_descent.specs.SoundnessOfLists.{has_reading, seen_fits, stood_in, left_of, ClosedBy, is_stuck, stuck_at, asks_some, is_chunked}
use Rattle.recursive_descent.specs.Follows.{FirstMisses, end_before}
use Rattle.recursive_descent.specs.CompletenessOfLists.{ListGiven, RestGiven, minds_rest, is_last_rest}
use Rattle.parser_tables.specs.Items.{is_unseparated, are_some}
use Rattle.token_cursor.specs.Seen.{Misses}
use Rattle.recursive_descent.proofs.complete_lists.ListKinds.{list_step}
use Rattle.recursive_descent.proofs.complete_lists.ListLoop.{no_item, asked, asked_stuck}
use Rattle.recursive_descent.proofs.complete_lists.ListSteps.{Behind, ended, comma, next}
use Rattle.recursive_descent.proofs.complete_lists.ListTurns.{EndSeen, before_item, not_members, stuck_kind}
use Rattle.recursive_descent.proofs.sound_lists.WholeLists.{SemicolonsBefore}
use Rattle.token_cursor.specs.SourceText.{SourceText, SeenNext, behind_in}
use Rattle.recursive_descent.proofs.complete_expressions.Agreement.{not_missed}

-- nothing is left, and of what parentheses group something was read
abbrev pub Nothing : ListOf → Reading → Parts → Token → Token → List Pair → Type 0
Nothing l a ps t e P = (ps ≡ none) × (e ≡ t) × (P ≡ []) × (cond (asks_some l.listed a) (are_some l.nodes && not l.seen.has_comma) true ≡ true)

uncounted : (ps : Parts) → not (is_none ps) ≡ false → nat_lt 0 (part_count ps) ≡ false
uncounted none h = refl
uncounted (part n ps) h = absurd (true≢false h)
uncounted (gap ps) h = absurd (true≢false h)

module _ (text : SourceText) where
  -- before an item, where none stands
  pub none_there : (l : ListOf) (a : Reading) {o : ℕ} {ps : Parts} {s t to : Token} {P : List Pair} → (g : ListGiven text l a o ps s to P) → SemicolonsBefore text l.listed s t → FirstMisses text l.listed t → (is_ended l.listed l.seen (part_count l.nodes) ≡ true) ⊎ EndSeen text (end_before l.listed) t → Nothing l a ps t g.mid P
  none_there l a {o} {ps} {s} {t} {to} {P} g passed first over = of (is_stuck l a) refl g.runs
    where
      lone : is_stuck l a ≡ false → l.listed ≡ listed.OneParameter → nat_lt 0 (part_count l.nodes) ≡ false
      lone h is = uncounted l.nodes (ap (λ x. stuck_at x a l.nodes l.seen.has_comma) (sym is) ∙ h)

      of : (b : Bool) → is_stuck l a ≡ b → RestGiven text b l a o ps s g.mid P → Nothing l a ps t g.mid P
      of true h r = (r.0, r.1 ∙ sym (not_members text l.listed s t (stuck_kind text l.listed a l.nodes l.seen.has_comma h) passed), r.2, asked_stuck text l.listed a l.nodes l.seen.has_comma h)
      of false h r =
          let d = before_item text l.listed l.seen.is_flagged a ps s t g.mid to passed g.closes r in
          let reads = (and_parts _ _ (and_parts _ _ g.left).0).0 in
          let z = no_item text l.listed a (part_count l.nodes) l.seen g.no_rest (lone h) over (list_step text l.listed l.seen.is_flagged a ps to reads first g.closes g.last d) d in
          let e : RunsIn text o (stood_in Any l.listed (left_of l.listed l.seen.is_flagged a none)) none t t [] = subst (λ x. x) (λ i. RunsIn text o (stood_in Any l.listed (left_of l.listed l.seen.is_flagged a (z.0 i))) (z.0 i) t (z.1 i) (z.2 i)) d in
          (z.0, z.1, z.2, asked text l.listed a l.nodes l.seen.has_comma l.seen.is_flagged e)

  -- behind an item, where the list is ended or no comma stands
  pub none_behind : (x : ListKind) (a : Reading) (k : ListSummary) (count : ℕ) {o : ℕ} {last : Bool} {one rest : Parts} {e mid : Token} {R : List Pair} → has_reading x a ≡ true → (is_last_rest x a one ≡ false → minds_rest x a ≡ true → k.is_rest ≡ false) → (is_chunked x ≡ true → k.is_flagged ≡ last) →
      (is_ended x k count ≡ true) ⊎ ((is_unseparated x ≡ false) × Misses text Punctuator (codes ",") e) → Behind text x a last one o rest e mid R → (rest ≡ none) × (mid ≡ e) × (R ≡ [])
  none_behind x a k count reads plain marked over (ended p z q u l) = (p, z, q)
  none_behind x a k count reads plain marked (inr over) (comma {k = v} u single free sign r l) = absurd (not_missed over.1 sign)
  none_behind x a k count reads plain marked (inr over) (next u r) = absurd (false≢true (sym over.0 ∙ u))
  none_behind listed.ParenthesizedItems a k count reads plain marked (inl over) (comma u single free sign r l) = absurd (false≢true (sym (plain free refl) ∙ over))
  none_behind listed.Parameters as_expression k count reads plain marked (inl over) (comma u single free sign r l) = cc
  none_behind listed.Parameters (as_pattern b) k count reads plain marked (inl over) (comma u single free sign r l) = absurd (false≢true (sym (plain free refl) ∙ over))
  none_behind listed.NoParameter a k count reads plain marked (inl over) (comma u single free sign r l) = cc
  none_behind listed.OneParameter a k count reads plain marked (inl over) (comma u single free sign r l) = cc
  none_behind listed.Template a k count reads plain marked (inl over) (comma u single free sign r l) = cc
  none_behind _ a k count reads plain marked (inl over) (comma u single free sign r l) = cc
  none_behind listed.Template a k count {o} {last} {rest = rest} {e} {mid} {R} reads plain marked (inl over) (next u r) =
      let z = run_none Token (SeenNext text) (behind_in text) (subst (λ b. RunsIn text o (stood_in Any listed.Template (left_of listed.Template b a rest)) rest e mid R) (sym (marked refl) ∙ over) r) in (z.parts, sym z.place, z.pairs)
  none_behind _ a k count reads plain marked (inl over) (next u r) = cc

-- what is read of a list with its last item is all of it
pub whole_left : (x : ListKind) (l : ListOf) (a : Reading) → ((has_reading x a && seen_fits x l a) && Rattle.covers.specs.Lists.reads x l.seen.shape) ≡ true → cond (asks_some x a) (are_some l.nodes && not l.seen.has_comma) true ≡ true → Rattle.recursive_descent.specs.SoundnessOfLists.whole_of x l a ≡ true
whole_left x l a h k = let u = and_parts (has_reading x a && seen_fits x l a) _ h in ap (λ b. b && cond (asks_some x a) (are_some l.nodes && not l.seen.has_comma) true) u.0 ∙ k
