-- The loop over a list that is given: what is left of it before each item, and behind the last (ECMA-262 12.2, 12.16, 13.3, 13.12, 14.1, 14.6).
use Rattle.std.proofs.Common.{◌+◌, ◌≡◌, ◌⊎◌, inl, inr, ℕ, Bool, true, false, not, cond, List, [], ◌++◌, refl, sym, ap, ◌∙◌, subst, arith}
use Rattle.std.specs.Prelude.{Option, Some, None, ◌&&◌, nat_le, nat_lt}
use Rattle.std.proofs.lemmas.Bool.{false≢true, true≢false}
use Rattle.std.proofs.lemmas.Bool.Decides.{nat_tests}
use Rattle.std.proofs.lemmas.List.{append-nil}
use Rattle.tokens.specs.declared.token.TokenClass.TheVariants.{Punctuator}
use Rattle.token_cursor.specs.CursorState.{CursorState}
use Rattle.tree.specs.declared.kind.Pair.{Pair}
use Rattle.tree.specs.Tree.{Parts, none, part, gap, join, part_count}
use Rattle.language.specs.declared.Start.TheVariants.{Any}
use Rattle.language.specs.Covers.{Reading, as_expression, as_pattern}
use Rattle.language.specs.Pieces.{is_none}
use Rattle.language.proofs.list_loops.FirstPieces.{run_none}
use Rattle.language.specs.Token.{Token}
use Rattle.covers.specs.declared.list.ListKind.{ListKind}
use Rattle.covers.specs.declared.list.ListKind.TheVariants as listed
use Rattle.covers.specs.declared.list.ListSummary.{ListSummary}
use Rattle.covers.specs.declared.list.ListBuilder.{ListBuilder as ListOf}
use Rattle.covers.specs.Lists.{closing, is_ended, reads}
use Rattle.covers.specs.Shapes.{unassigned, is_either, is_element}
use Rattle.recursive_descent.specs.Soundness.{RunsIn, all_read_as, fits_as}
use Rattle.recursive_descent.specs.SoundnessOfLists.{has_reading, seen_fits, stood_in, left_of, ClosedBy, case_count, is_stuck, stuck_at, asks_some}
use Rattle.recursive_descent.specs.Follows.{end_before}
use Rattle.recursive_descent.specs.Completeness.{EndsWith}
use Rattle.recursive_descent.specs.CompletenessOfLists.{ListGiven, RestGiven, LoneRead, LastGiven, ItemGiven, is_left, is_full, is_lone, default_seen}
use Rattle.parser_tables.specs.Items.{are_some}
use Rattle.token_cursor.specs.Seen.{ReadsHere, Misses}
use Rattle.recursive_descent.proofs.sound_lists.OneMoreItem.{join_none}
use Rattle.recursive_descent.proofs.complete_lists.ListSteps.{Behind, Step as ListStep, over, further, nothing_there}
use Rattle.recursive_descent.proofs.complete_lists.ListTurns.{Ahead, stuck, unstuck, EndSeen, item_apart}
use Rattle.token_cursor.specs.SourceText.{SourceText, SeenNext, behind_in}
use Rattle.recursive_descent.proofs.complete_expressions.Agreement.{not_missed}
use Rattle.recursive_descent.specs.Spelled.{AllOfLanguage}
use Rattle.recursive_descent.proofs.reading.LanguageTrees.{join_of_language}

-- What was read of a given list, and what is left of it.
pub record Reached (text : SourceText) (l0 l : ListOf) (a : Reading) (o : ℕ) (ps : Parts) (to : Token) (P : List Pair) (s e : CursorState) (old new : List Pair) : Type 0 where
  pub done : Parts
  pub rest : Parts
  pub one : List Pair
  pub more : List Pair
  pub nodes : all_read_as a l.nodes ≡ join (all_read_as a l0.nodes) done
  pub parts : ps ≡ join done rest
  pub pairs : P ≡ one ++ more
  pub read : EndsWith s e old new e.last one
  pub left : ListGiven text l a o rest e.last to more
  pub lone : l0.listed ≡ listed.ParenthesizedItems → a ≡ as_expression → LoneRead l0 → LoneRead l

-- what is left is of the language with the whole
pub left_own : (text : SourceText) (done rest : Parts) {ps : Parts} → ps ≡ join done rest → AllOfLanguage text ps → AllOfLanguage text rest
left_own text done rest is own = (join_of_language {text = text} done rest (subst (λ y. AllOfLanguage text y) is own)).1

-- of each that is given
abbrev pub Reaches : SourceText → ListOf → ListOf → CursorState → CursorState → List Pair → List Pair → Type 0
Reaches text l0 l s e old new = (a : Reading) (o : ℕ) (ps : Parts) (to : Token) (P : List Pair) → ListGiven text l0 a o ps s.last to P → AllOfLanguage text ps → Reached text l0 l a o ps to P s e old new

fits_places : (x : ListKind) (l k : ListOf) (a : Reading) → k.nodes ≡ l.nodes → k.seen ≡ l.seen → seen_fits x k a ≡ seen_fits x l a
fits_places (listed.Declarators i) l k as_expression b c = ap (λ (y : ListSummary). not y.is_flagged) c
fits_places (listed.Declarators i) l k (as_pattern z) b c = λ j. nat_le (part_count (b j)) 1 && Rattle.parser_tables.specs.StatementNodes.is_closed (c j).edge
fits_places listed.Arguments l k a b c = refl
fits_places listed.Template l k a b c = refl
fits_places (listed.Sequence i) l k a b c = refl
fits_places (listed.Cases r) l k a b c = refl
fits_places listed.Members l k a b c = refl
fits_places _ l k a b c = ap (λ (y : ListSummary). fits_as y.shape a) c

left_places : (l k : ListOf) (a : Reading) → k.listed ≡ l.listed → k.nodes ≡ l.nodes → k.seen ≡ l.seen → is_left k a ≡ is_left l a
left_places l k a b c d = (λ i. (has_reading (b i) a && seen_fits (b i) k a) && reads (b i) (d i).shape) ∙ ap (λ x. (has_reading l.listed a && x) && reads l.listed l.seen.shape) (fits_places l.listed l k a c d)

rest_moved : (text : SourceText) (l k : ListOf) (a : Reading) (o : ℕ) (ps : Parts) (s e : Token) (P : List Pair) → k.listed ≡ l.listed → k.seen ≡ l.seen → (u v : Bool) → v ≡ u → RestGiven text u l a o ps s e P → RestGiven text v k a o ps s e P
rest_moved text l k a o ps s e P b d true true h r = r
rest_moved text l k a o ps s e P b d true false h r = cc
rest_moved text l k a o ps s e P b d false true h r = cc
rest_moved text l k a o ps s e P b d false false h r = subst (λ x. x) (λ j. RunsIn text o (stood_in Any (sym b j) (left_of (sym b j) (sym d j).is_flagged a ps)) ps s e P) r

-- where the list stands matters to none
pub moved_given : {text : SourceText} {l k : ListOf} {a : Reading} {o : ℕ} {ps : Parts} {s to : Token} {P : List Pair} → k.listed ≡ l.listed → k.nodes ≡ l.nodes → k.seen ≡ l.seen → ListGiven text l a o ps s to P → ListGiven text k a o ps s to P
moved_given {text} {l} {k} {a} {o} {ps} {s} {to} {P} b c d g = record {
  left = left_places l k a b c d ∙ g.left;
  mid = g.mid;
  runs = rest_moved text l k a o ps s g.mid P b d (is_stuck l a) (is_stuck k a) (λ j. stuck_at (b j) a (c j) (d j).has_comma) g.runs;
  closes = subst (λ x. ClosedBy text (closing x) g.mid to) (sym b) g.closes;
  last = subst (λ x. LastGiven text x ps g.mid) (sym b) g.last;
  no_rest = (λ j. is_full (b j) (d j)) ∙ g.no_rest;
  lone = (λ j. is_lone (b j) a (part_count (c j) + part_count ps)) ∙ g.lone;
  one_default = (λ j. nat_le (case_count (b j) ps + default_seen (b j) (d j).is_flagged) 1) ∙ g.one_default;
}

moved_lone : {l k : ListOf} → k.nodes ≡ l.nodes → k.seen ≡ l.seen → LoneRead l → LoneRead k
moved_lone {l} {k} c d h = record {
  value = λ n p. ap (λ (y : ListSummary). y.last.is_expression) d ∙ h.value n (sym c ∙ p);
  target = λ n p t. ap (λ (y : ListSummary). Rattle.covers.specs.Shapes.is_target y.last.assigned) d ∙ h.target n (sym c ∙ p) t;
}

pub reaches_first : (text : SourceText) (l0 l : ListOf) (s : CursorState) (old : List Pair) → l.listed ≡ l0.listed → l.nodes ≡ l0.nodes → l.seen ≡ l0.seen → Reaches text l0 l s s old old
reaches_first text l0 l s old b c d a o ps to P g own = record {
  done = none;
  rest = ps;
  one = [];
  more = P;
  nodes = ap (all_read_as a) c ∙ sym (join_none (all_read_as a l0.nodes));
  parts = refl;
  pairs = refl;
  read = record { place = refl; more = []; added = sym (append-nil old); pairs = refl };
  left = moved_given b c d g;
  lone = λ p q h. moved_lone c d h;
}

-- an item that stands there, and what is given behind it
pub record ItemHere (text : SourceText) (l : ListOf) (a : Reading) (o : ℕ) (ps : Parts) (t e : Token) (P : List Pair) : Type 0 where
  pub last : Bool
  pub one : Parts
  pub rest : Parts
  pub mid : Token
  pub pairs_one : List Pair
  pub pairs_more : List Pair
  pub given : ItemGiven text l.listed a o t mid pairs_one last one
  pub behind : Behind text l.listed a last one o rest mid e pairs_more
  pub parts : ps ≡ join one rest
  pub pairs : P ≡ pairs_one ++ pairs_more

counted : (ps : Parts) → not (is_none ps) ≡ true → nat_lt 0 (part_count ps) ≡ true
counted none h = absurd (false≢true h)
counted (part n ps) h = positive (part_count ps)
  where
    positive : (c : ℕ) → nat_lt 0 (c + 1) ≡ true
    positive c = grind (arith, nat_tests)
counted (gap ps) h = positive (part_count ps)
  where
    positive : (c : ℕ) → nat_lt 0 (c + 1) ≡ true
    positive c = grind (arith, nat_tests)

module _ (text : SourceText) where
  -- what ends the items doesn't stand there
  abbrev pub EndMissed : Option (List ℕ) → Token → Type 0
  EndMissed None s = Unit {0}
  EndMissed (Some w) s = Misses text Punctuator w s

  closes_there : {w : List ℕ} {m t to : Token} → Misses text Punctuator w t → m ≡ t → ReadsHere text Punctuator w m to → ⊥
  closes_there {w} {m} {t} {to} miss at r = not_missed miss (subst (λ v. ReadsHere text Punctuator w v to) at r)

  -- so the list isn't over
  not_stuck : (x : ListKind) (a : Reading) (ps : Parts) (c : Bool) (u : ListSummary) (m t to : Token) → is_ended x u (part_count ps) ≡ false → EndMissed (end_before x) t → ClosedBy text (closing x) m to → m ≡ t → stuck_at x a ps c ≡ true → ⊥
  not_stuck listed.ParenthesizedItems a ps c u m t to open_list miss closed at h = closes_there miss at closed
  not_stuck listed.OneParameter a ps c u m t to open_list miss closed at h = false≢true (sym open_list ∙ counted ps h)
  not_stuck _ a ps c u m t to open_list miss closed at h = absurd (false≢true h)

  not_over : (x : ListKind) (a : Reading) (count : ℕ) (u : ListSummary) {o : ℕ} (m t to : Token) → is_ended x u count ≡ false → EndMissed (end_before x) t → ClosedBy text (closing x) m to → m ≡ t → RunsIn text o (stood_in Any x (left_of x u.is_flagged a none)) none t t [] → ⊥
  not_over listed.NoParameter a count u m t to open_list miss closed at d = absurd (true≢false open_list)
  not_over listed.OneParameter a count u m t to open_list miss closed at d = nothing_there text d
  not_over listed.Template a count u {o} m t to open_list miss closed at d = nothing_there text (subst (λ b. RunsIn text o (stood_in Any listed.Template (left_of listed.Template b a none)) none t t []) open_list d)
  not_over (listed.Sequence i) a count u m t to open_list miss closed at d = nothing_there text d
  not_over (listed.Declarators i) as_expression count u m t to open_list miss closed at d = nothing_there text d
  not_over (listed.Declarators i) (as_pattern b) count u m t to open_list miss closed at d = nothing_there text d
  not_over listed.Arguments a count u m t to open_list miss closed at d = closes_there miss at closed
  not_over listed.Elements a count u m t to open_list miss closed at d = closes_there miss at closed
  not_over listed.Properties a count u m t to open_list miss closed at d = closes_there miss at closed
  not_over listed.ParenthesizedItems a count u m t to open_list miss closed at d = closes_there miss at closed
  not_over listed.AsyncArguments a count u m t to open_list miss closed at d = closes_there miss at closed
  not_over listed.Parameters a count u m t to open_list miss closed at d = closes_there miss at closed
  not_over (listed.Cases r) a count u m t to open_list miss closed at d = closes_there miss at closed
  not_over listed.Members a count u m t to open_list miss closed at d = closes_there miss at closed

  pub item_here : (l : ListOf) (a : Reading) {o : ℕ} {ps : Parts} {t e : Token} (to : Token) {P : List Pair} → is_ended l.listed l.seen (part_count l.nodes) ≡ false → EndMissed (end_before l.listed) t → ClosedBy text (closing l.listed) e to → Ahead text l a o ps t e P → ItemHere text l a o ps t e P
  item_here l a {t = t} {e} to open_list miss closed (stuck h p z q) = absurd (not_stuck l.listed a l.nodes l.seen.has_comma l.seen e t to open_list miss closed z h)
  item_here l a {t = t} {e} to open_list miss closed (unstuck h (over p z q d)) = absurd (not_over l.listed a (part_count l.nodes) l.seen e t to open_list miss closed z d)
  item_here l a to open_list miss closed (unstuck h (further {last = last} {one = one} {rest = rest} {m = m} {Q = Q} {R = R} g b p q)) = record { last = last; one = one; rest = rest; mid = m; pairs_one = Q; pairs_more = R; given = g; behind = b; parts = p; pairs = q }

  pub asked : (x : ListKind) (a : Reading) (ps : Parts) (c : Bool) {o : ℕ} {t : Token} (b : Bool) → RunsIn text o (stood_in Any x (left_of x b a none)) none t t [] → cond (asks_some x a) (are_some ps && not c) true ≡ true
  asked listed.ParenthesizedItems as_expression ps c b d = nothing_there text d
  asked listed.ParenthesizedItems (as_pattern z) ps c b d = refl
  asked _ a ps c b d = refl

  pub asked_stuck : (x : ListKind) (a : Reading) (ps : Parts) (c : Bool) → stuck_at x a ps c ≡ true → cond (asks_some x a) (are_some ps && not c) true ≡ true
  asked_stuck listed.ParenthesizedItems as_expression ps c h = h
  asked_stuck listed.ParenthesizedItems (as_pattern z) ps c h = refl
  asked_stuck _ a ps c h = refl

  -- a list that is ended has no item, and none stands before what ends its items
  pub no_item : (x : ListKind) (a : Reading) (count : ℕ) (u : ListSummary) {o : ℕ} {ps : Parts} {t e : Token} {P : List Pair} → is_full x u ≡ false → (x ≡ listed.OneParameter → nat_lt 0 count ≡ false) → (is_ended x u count ≡ true) ⊎ EndSeen text (end_before x) t → ListStep text x u.is_flagged a o ps t e P → RunsIn text o (stood_in Any x (left_of x u.is_flagged a ps)) ps t e P →
      (ps ≡ none) × (e ≡ t) × (P ≡ [])
  no_item x a count u free one over_there (over p z q d) r = (p, z, q)
  no_item x a count u free one (inr seen) (further g b p q) r = absurd (item_apart text x g seen)
  no_item listed.ParenthesizedItems a count u free one (inl h) (further g b p q) r = absurd (false≢true (sym free ∙ h))
  no_item listed.Parameters a count u free one (inl h) (further g b p q) r = absurd (false≢true (sym free ∙ h))
  no_item listed.NoParameter a count u {ps = none} free one (inl h) (further g b p q) r = let z = run_none Token (SeenNext text) (behind_in text) r in (refl, sym z.place, z.pairs)
  no_item listed.NoParameter a count u {ps = part n ps} free one (inl h) (further g b p q) r = nothing_there text r
  no_item listed.NoParameter a count u {ps = gap ps} free one (inl h) (further g b p q) r = nothing_there text r
  no_item listed.OneParameter a count u free one (inl h) (further g b p q) r = absurd (false≢true (sym (one refl) ∙ h))
  no_item listed.Template a count u {o} {ps} {t} {e} {P = P} free one (inl h) (further g b p q) r = let z = run_none Token (SeenNext text) (behind_in text) (subst (λ v. RunsIn text o (stood_in Any listed.Template (left_of listed.Template v a ps)) ps t e P) h r) in (z.parts, sym z.place, z.pairs)
  no_item _ a count u free one (inl h) (further g b p q) r = cc
