-- A list that is given, read item by item: what is given before and behind each, and where none follows (ECMA-262 12.2, 12.16, 13.3, 13.12, 14.1, 14.6).
use Rattle.std.proofs.Common.{◌+◌, ◌≤◌, ◌≡◌, ◌⊎◌, inl, inr, ℕ, Bool, true, false, cond, List, [], ◌∷◌, refl, sym, ap, ◌∙◌, subst, arith}
use Rattle.std.specs.Prelude.{Option, Some, None, codes, ◌&&◌}
use Rattle.std.proofs.lemmas.Bool.{and_parts, false≢true, true≢false}
use Rattle.std.proofs.lemmas.Bool.Decides.{nat_tests}
use Rattle.tokens.specs.declared.token.TokenClass.TheVariants.{IdentifierName, Punctuator}
use Rattle.tokens.specs.declared.token.Goal.TheVariants.{Div}
use Rattle.tree.specs.declared.kind.Pair.{Pair}
use Rattle.tree.specs.Tree.{Parts, none, part, gap, join, part_count, parts_height}
use Rattle.language.specs.declared.Start.TheVariants.{Any}
use Rattle.language.specs.declared.Rank.TheVariants.{Assignment}
use Rattle.language.specs.Covers.{Reading, as_expression, as_pattern}
use Rattle.language.specs.Pieces.{Role, PieceOf, expr, spread, many}
use Rattle.language.specs.Statements.{defaults, member_lines}
use Rattle.language.specs.Vocabulary.{is}
use Rattle.language.specs.Token.{Token}
use Rattle.language.specs.Derivation.{step, one_more as another, no_more}
use Rattle.language.proofs.list_loops.CommaLists.{by_closing}
use Rattle.language.proofs.covers.CoverEnds.{a_bracket, a_parenthesis, a_brace}
use Rattle.language.proofs.covers.CoverSpreads.{expression_kind}
use Rattle.language.proofs.list_loops.ClassBodies.{no_member_begins}
use Rattle.language.proofs.list_loops.FirstPieces.{run_none, run_laid, run_the_part}
use Rattle.token_cursor.proofs.SeenTokens.{seen_determined}
use Rattle.unambiguity_laws.proofs.list_items.Crossings.{no_element_there, no_property_there}
use Rattle.covers.specs.declared.list.ListKind.{ListKind}
use Rattle.covers.specs.declared.list.ListKind.TheVariants as listed
use Rattle.covers.specs.declared.list.ListBuilder.{ListBuilder as ListOf}
use Rattle.covers.specs.Lists.{closing}
use Rattle.tree.specs.Patterns.{pattern_parts}
use Rattle.recursive_descent.specs.Soundness.{RunsIn, all_read_as}
use Rattle.recursive_descent.specs.SoundnessOfLists.{has_reading, seen_fits, stood_in, left_of, ClosedBy, case_count, is_chunked, is_stuck, stuck_at}
use Rattle.recursive_descent.specs.Follows.{Semicolons, none_passed, one_more, FirstMisses, end_before}
use Rattle.recursive_descent.specs.CompletenessOfLists.{ListGiven, RestGiven, ItemGiven, an_item, a_hole, a_chunk, is_lone}
use Rattle.parser_tables.specs.Items.{is_unseparated}
use Rattle.token_cursor.specs.Seen.{ReadsHere, Sees}
use Rattle.recursive_descent.proofs.complete_expressions.Agreement.{marks_same}
use Rattle.recursive_descent.proofs.complete_lists.ListSteps.{Step as ListStep, nothing_there}
use Rattle.recursive_descent.proofs.complete_lists.ListKinds.{list_step, case_begins}
use Rattle.token_cursor.proofs.TokensAhead.{mark_by, name_by}
use Rattle.recursive_descent.proofs.sound_lists.WholeLists.{SemicolonsBefore}
use Rattle.token_cursor.specs.SourceText.{SourceText, SeenNext, behind_in}
use Rattle.recursive_descent.specs.Spelled.{SpellsIn}

-- the parts in a reading are as many
pub count_read : (a : Reading) (ps : Parts) → part_count (all_read_as a ps) ≡ part_count ps
count_read as_expression ps = refl
count_read (as_pattern b) ps = of ps
  where
    of : (ps : Parts) → part_count (pattern_parts 0 ps) ≡ part_count ps
    of none = refl
    of (part n ps) = ap (λ x. x + 1) (of ps)
    of (gap ps) = ap (λ x. x + 1) (of ps)

pub count_join : (ps qs : Parts) → part_count (join ps qs) ≡ part_count ps + part_count qs
count_join none qs = omega arith
count_join (part n ps) qs = let h = count_join ps qs in omega arith
count_join (gap ps) qs = let h = count_join ps qs in omega arith

pub defaults_join : (ps qs : Parts) → defaults (join ps qs) ≡ defaults ps + defaults qs
defaults_join none qs = omega arith
defaults_join (part n ps) qs = let h = defaults_join ps qs in omega arith
defaults_join (gap ps) qs = let h = defaults_join ps qs in omega arith

pub cases_join : (x : ListKind) (ps qs : Parts) → case_count x (join ps qs) ≡ case_count x ps + case_count x qs
cases_join (listed.Cases r) ps qs = defaults_join ps qs
cases_join _ ps qs = omega arith

pub high_join : (ps qs : Parts) → (parts_height ps ≤ parts_height (join ps qs)) × (parts_height qs ≤ parts_height (join ps qs))
high_join none qs = (omega arith, omega arith)
high_join (part n ps) qs = let h = high_join ps qs in let u = h.0 in let v = h.1 in (omega arith, omega arith)
high_join (gap ps) qs = high_join ps qs

pub join_again : (ps qs rs : Parts) → join (join ps qs) rs ≡ join ps (join qs rs)
join_again none qs rs = refl
join_again (part n ps) qs rs = ap (part n) (join_again ps qs rs)
join_again (gap ps) qs rs = ap gap (join_again ps qs rs)

-- fewer parts are lone as well
pub lone_less : (x : ListKind) (a : Reading) (c d f : ℕ) → c ≡ d + f → is_lone x a c ≡ true → is_lone x a d ≡ true
lone_less (listed.Declarators i) as_expression c d f is h = refl
lone_less (listed.Declarators i) (as_pattern b) c d f is h = grind (arith, nat_tests)
lone_less _ a c d f is h = refl

-- only in a template it matters what was seen of the parts
pub left_same : (x : ListKind) (u v : Bool) (a : Reading) (ps : Parts) → (is_chunked x ≡ true → u ≡ v) → left_of x u a ps ≡ left_of x v a ps
left_same listed.Template u v a ps h = ap (λ b. left_of listed.Template b a ps) (h refl)
left_same listed.Arguments u v a ps h = refl
left_same listed.Elements u v a ps h = refl
left_same listed.Properties u v a ps h = refl
left_same listed.ParenthesizedItems u v a ps h = refl
left_same listed.AsyncArguments u v a ps h = refl
left_same listed.Parameters u v a ps h = refl
left_same listed.NoParameter u v a ps h = refl
left_same listed.OneParameter u v a ps h = refl
left_same (listed.Sequence i) u v a ps h = refl
left_same (listed.Declarators i) u v a ps h = refl
left_same (listed.Cases r) u v a ps h = refl
left_same listed.Members u v a ps h = refl

some_is : {a b : Role} → Some a ≡ Some b → a ≡ b
some_is e = cc

pub unlike : {v w : List ℕ} (p : List ℕ → Bool) → p v ≡ true → p w ≡ false → v ≡ w → ⊥
unlike p h k e = false≢true (sym k ∙ ap p (sym e) ∙ h)

module _ (text : SourceText) where
  -- two signs aren't read at one place
  pub signs_apart : {v w : List ℕ} {s t u : Token} → (v ≡ w → ⊥) → ReadsHere text Punctuator v s t → ReadsHere text Punctuator w s u → ⊥
  signs_apart other a b = other (sym a.text ∙ ap (λ (x : Token). x.text) (marks_same text a b).0 ∙ b.text)

  sign_no_word : {v w : List ℕ} {s t u : Token} → ReadsHere text Punctuator v s t → ReadsHere text IdentifierName w s u → ⊥
  sign_no_word {v} {w} {s} {t} {u} a b = clash (sym a.class ∙ ap (λ (x : Token). x.class) ((seen_determined text).same Div s (behind_in text t) (behind_in text u) t u a.next b.next (mark_by text a).allowed (name_by text b).allowed).0 ∙ b.class)
    where
      clash : Punctuator ≡ IdentifierName → ⊥
      clash e = cc

  -- what ends the items of a list stands there
  abbrev pub EndSeen : Option (List ℕ) → Token → Type 0
  EndSeen None s = ⊥
  EndSeen (Some w) s = Sees text Punctuator w s

  -- no item begins with it
  pub item_apart : (x : ListKind) {a : Reading} {o : ℕ} {s m : Token} {Q : List Pair} {last : Bool} {one : Parts} → ItemGiven text x a o s m Q last one → EndSeen (end_before x) s → ⊥
  item_apart listed.Arguments {a = as_expression} (an_item c it sp e) h = no_element_there Token (SeenNext text) (behind_in text) (seen_determined text) a_parenthesis as_expression it sp (by_closing h.1)
  item_apart listed.Arguments {a = as_pattern b} (an_item c it sp e) h = no_element_there Token (SeenNext text) (behind_in text) (seen_determined text) a_parenthesis (as_pattern b) it sp (by_closing h.1)
  item_apart listed.Arguments (a_hole l c z q) h = cc
  item_apart listed.Arguments (a_chunk l x y z) h = cc
  item_apart listed.Elements {a = as_expression} (an_item c it sp e) h = no_element_there Token (SeenNext text) (behind_in text) (seen_determined text) a_bracket as_expression it sp (by_closing h.1)
  item_apart listed.Elements {a = as_pattern b} (an_item c it sp e) h = no_element_there Token (SeenNext text) (behind_in text) (seen_determined text) a_bracket (as_pattern b) it sp (by_closing h.1)
  item_apart listed.Elements (a_hole l c z q) h = signs_apart (unlike (λ w. is w "]") refl refl) h.1 c.1
  item_apart listed.Elements (a_chunk l x y z) h = cc
  item_apart listed.Properties {a} (an_item c it sp e) h = no_property_there Token (SeenNext text) (behind_in text) (seen_determined text) a_brace a it sp (by_closing h.1)
  item_apart listed.Properties (a_hole l c z q) h = cc
  item_apart listed.Properties (a_chunk l x y z) h = cc
  item_apart listed.ParenthesizedItems {a = as_expression} {o = o} {s} {m} {Q} (an_item {r = r} {n = n} c it sp e) h =
      let d : SpellsIn text o (expr Assignment true Any) n s m Q = subst (λ v. SpellsIn text o v n s m Q) (sym (some_is it)) sp in
      no_element_there Token (SeenNext text) (behind_in text) (seen_determined text) a_parenthesis as_expression (ap (λ b. Some (cond b spread (expr Assignment true Any))) (expression_kind Token (SeenNext text) (behind_in text) (seen_determined text) d)) d (by_closing h.1)
  item_apart listed.ParenthesizedItems {a = as_pattern b} (an_item c it sp e) h = no_element_there Token (SeenNext text) (behind_in text) (seen_determined text) a_parenthesis (as_pattern b) it sp (by_closing h.1)
  item_apart listed.ParenthesizedItems (a_hole l c z q) h = cc
  item_apart listed.ParenthesizedItems (a_chunk l x y z) h = cc
  item_apart listed.AsyncArguments {a = as_expression} (an_item c it sp e) h = no_element_there Token (SeenNext text) (behind_in text) (seen_determined text) a_parenthesis as_expression it sp (by_closing h.1)
  item_apart listed.AsyncArguments {a = as_pattern b} (an_item c it sp e) h = no_element_there Token (SeenNext text) (behind_in text) (seen_determined text) a_parenthesis (as_pattern b) it sp (by_closing h.1)
  item_apart listed.AsyncArguments (a_hole l c z q) h = cc
  item_apart listed.AsyncArguments (a_chunk l x y z) h = cc
  item_apart listed.Parameters {a = as_expression} (an_item c it sp e) h = no_element_there Token (SeenNext text) (behind_in text) (seen_determined text) a_parenthesis as_expression it sp (by_closing h.1)
  item_apart listed.Parameters {a = as_pattern b} (an_item c it sp e) h = no_element_there Token (SeenNext text) (behind_in text) (seen_determined text) a_parenthesis (as_pattern b) it sp (by_closing h.1)
  item_apart listed.Parameters (a_hole l c z q) h = cc
  item_apart listed.Parameters (a_chunk l x y z) h = cc
  item_apart listed.NoParameter {a = as_expression} (an_item c it sp e) h = no_element_there Token (SeenNext text) (behind_in text) (seen_determined text) a_parenthesis as_expression it sp (by_closing h.1)
  item_apart listed.NoParameter {a = as_pattern b} (an_item c it sp e) h = no_element_there Token (SeenNext text) (behind_in text) (seen_determined text) a_parenthesis (as_pattern b) it sp (by_closing h.1)
  item_apart listed.NoParameter (a_hole l c z q) h = cc
  item_apart listed.NoParameter (a_chunk l x y z) h = cc
  item_apart listed.OneParameter g h = h
  item_apart listed.Template g h = h
  item_apart (listed.Sequence i) g h = h
  item_apart (listed.Declarators i) g h = h
  item_apart (listed.Cases r) {o = o} {s} {m} {Q} (an_item {n = n} c it sp e) h = of (case_begins text {r = r} (subst (λ v. SpellsIn text o v n s m Q) (sym (some_is it)) sp))
    where
      of : (Sees text IdentifierName (codes "case") s) ⊎ (Sees text IdentifierName (codes "default") s) → ⊥
      of (inl u) = sign_no_word h.1 u.1
      of (inr u) = sign_no_word h.1 u.1
  item_apart (listed.Cases r) (a_hole l c z q) h = cc
  item_apart (listed.Cases r) (a_chunk l x y z) h = cc
  item_apart listed.Members {o = o} {s} {m} {Q} (an_item {n = n} c it sp e) h = no_member_begins Token (SeenNext text) (behind_in text) (seen_determined text) refl (λ k. unlike (λ w. is w "}") refl refl k) (λ k. unlike (λ w. is w "}") refl refl k) h.1 (subst (λ v. SpellsIn text o v n s m Q) (sym (some_is it)) sp)
  item_apart listed.Members (a_hole l c z q) h = cc
  item_apart listed.Members (a_chunk l x y z) h = cc

  -- semicolons before the next member
  one_semicolon : {o : ℕ} (ps : Parts) {s t e to : Token} {P : List Pair} → ReadsHere text Punctuator (codes ";") s t → ReadsHere text Punctuator (codes "}") e to → RunsIn text o (stood_in Any listed.Members (many (codes ";") ∷ member_lines ps)) ps s e P → RunsIn text o (stood_in Any listed.Members (many (codes ";") ∷ member_lines ps)) ps t e P
  one_semicolon {o} ps {s} {t} {e} {P = P} r closed (step (another c q) d) = subst (λ v. RunsIn text o (stood_in Any listed.Members (many (codes ";") ∷ member_lines ps)) ps v e P) (sym (marks_same text r c).1) (step q d)
  one_semicolon none {to = to} r closed (step no_more d) = let z = run_none Token (SeenNext text) (behind_in text) d in absurd (signs_apart (unlike (λ w. is w ";") refl refl) r (subst (λ v. ReadsHere text Punctuator (codes "}") v to) (sym z.place) closed))
  one_semicolon (gap ps) r closed (step no_more d) = nothing_there text d
  one_semicolon (part n ps) r closed (step no_more d) =
      let v = run_the_part Token (SeenNext text) (behind_in text) (run_laid Token (SeenNext text) (behind_in text) d) in
      absurd (no_member_begins Token (SeenNext text) (behind_in text) (seen_determined text) refl (λ k. unlike (λ w. is w ";") refl refl k) (λ k. unlike (λ w. is w ";") refl refl k) r v.spelled)

  semicolons_off : {o : ℕ} (ps : Parts) {s t e to : Token} {P : List Pair} → Semicolons text s t → ReadsHere text Punctuator (codes "}") e to → RunsIn text o (stood_in Any listed.Members (many (codes ";") ∷ member_lines ps)) ps s e P → RunsIn text o (stood_in Any listed.Members (many (codes ";") ∷ member_lines ps)) ps t e P
  semicolons_off ps none_passed closed d = d
  semicolons_off ps (one_more before r) closed d = one_semicolon ps r closed (semicolons_off ps before closed d)

  still_there : {qs : List (PieceOf Role)} {o : ℕ} {ps : Parts} {s t e : Token} {P : List Pair} → t ≡ s → RunsIn text o qs ps s e P → RunsIn text o qs ps t e P
  still_there {qs} {o} {ps} {e = e} {P} at d = subst (λ v. RunsIn text o qs ps v e P) (sym at) d

  pub before_item : (x : ListKind) (b : Bool) (a : Reading) {o : ℕ} (ps : Parts) (s t e to : Token) {P : List Pair} → SemicolonsBefore text x s t → ClosedBy text (closing x) e to → RunsIn text o (stood_in Any x (left_of x b a ps)) ps s e P → RunsIn text o (stood_in Any x (left_of x b a ps)) ps t e P
  before_item listed.Members b a ps s t e to passed closed d = semicolons_off ps passed closed d
  before_item listed.Arguments b a ps s t e to passed closed d = still_there passed d
  before_item listed.Elements b a ps s t e to passed closed d = still_there passed d
  before_item listed.Properties b a ps s t e to passed closed d = still_there passed d
  before_item listed.ParenthesizedItems b a ps s t e to passed closed d = still_there passed d
  before_item listed.AsyncArguments b a ps s t e to passed closed d = still_there passed d
  before_item listed.Parameters b a ps s t e to passed closed d = still_there passed d
  before_item listed.NoParameter b a ps s t e to passed closed d = still_there passed d
  before_item listed.OneParameter b a ps s t e to passed closed d = still_there passed d
  before_item listed.Template b a ps s t e to passed closed d = still_there passed d
  before_item (listed.Sequence i) b a ps s t e to passed closed d = still_there passed d
  before_item (listed.Declarators i) b a ps s t e to passed closed d = still_there passed d
  before_item (listed.Cases r) b a ps s t e to passed closed d = still_there passed d

  -- nothing is left, or an item stands there, of a list that isn't stuck; of a stuck one nothing is left
  pub data Ahead (l : ListOf) (a : Reading) (o : ℕ) (ps : Parts) (t e : Token) (P : List Pair) : Type 0 where
    stuck : is_stuck l a ≡ true → ps ≡ none → e ≡ t → P ≡ [] → Ahead l a o ps t e P
    unstuck : is_stuck l a ≡ false → ListStep text l.listed l.seen.is_flagged a o ps t e P → Ahead l a o ps t e P

  pub not_members : (x : ListKind) (s t : Token) → is_unseparated x ≡ false → SemicolonsBefore text x s t → t ≡ s
  not_members listed.Members s t h p = absurd (true≢false h)
  not_members (listed.Cases r) s t h p = absurd (true≢false h)
  not_members listed.Template s t h p = absurd (true≢false h)
  not_members listed.Arguments s t h p = p
  not_members listed.Elements s t h p = p
  not_members listed.Properties s t h p = p
  not_members listed.ParenthesizedItems s t h p = p
  not_members listed.AsyncArguments s t h p = p
  not_members listed.Parameters s t h p = p
  not_members listed.NoParameter s t h p = p
  not_members listed.OneParameter s t h p = p
  not_members (listed.Sequence i) s t h p = p
  not_members (listed.Declarators i) s t h p = p

  pub stuck_kind : (x : ListKind) (a : Reading) (ps : Parts) (c : Bool) → stuck_at x a ps c ≡ true → is_unseparated x ≡ false
  stuck_kind listed.ParenthesizedItems a ps c h = refl
  stuck_kind listed.OneParameter a ps c h = refl
  stuck_kind listed.Members a ps c h = absurd (false≢true h)
  stuck_kind (listed.Cases r) a ps c h = absurd (false≢true h)
  stuck_kind listed.Template a ps c h = absurd (false≢true h)
  stuck_kind _ a ps c h = refl

  pub ahead_of : (l : ListOf) (a : Reading) {o : ℕ} {ps : Parts} {s t to : Token} {P : List Pair} → (g : ListGiven text l a o ps s to P) → SemicolonsBefore text l.listed s t → FirstMisses text l.listed t → Ahead l a o ps t g.mid P
  ahead_of l a {o} {ps} {s} {t} {to} {P} g passed first = of (is_stuck l a) refl g.runs
    where
      of : (b : Bool) → is_stuck l a ≡ b → RestGiven text b l a o ps s g.mid P → Ahead l a o ps t g.mid P
      of true h r = stuck h r.0 (r.1 ∙ sym (not_members l.listed s t (stuck_kind l.listed a l.nodes l.seen.has_comma h) passed)) r.2
      of false h r = unstuck h (list_step text l.listed l.seen.is_flagged a ps to (and_parts (has_reading l.listed a) (seen_fits l.listed l a) (and_parts (has_reading l.listed a && seen_fits l.listed l a) _ g.left).0).0 first g.closes g.last
          (before_item l.listed l.seen.is_flagged a ps s t g.mid to passed g.closes r))
