-- Parenthesized lists, sequences, declarators, templates, cases and members; and all lists (ECMA-262 12.2, 12.16, 13.3, 13.12, 14.6).
use Rattle.std.proofs.Common.{◌+◌, ◌-◌, ◌≡◌, ◌⊎◌, inl, inr, ℕ, Bool, true, false, not, List, [], ◌∷◌, ◌++◌, refl, sym, ap, ◌∙◌, subst}
use Rattle.std.specs.Prelude.{Option, Some, None, codes, ◌&&◌, ◌||◌}
use Rattle.std.proofs.lemmas.Bool.{false≢true}
use Rattle.tokens.specs.declared.token.TokenClass.TheVariants.{IdentifierName, Punctuator}
use Rattle.tokens.specs.declared.token.Goal.TheVariants.{Div}
use Rattle.tree.specs.declared.kind.Kind.TheVariants.{TemplateElement}
use Rattle.tree.specs.declared.kind.Pair.{Pair}
use Rattle.tree.specs.Tree.{Tree, node, plain, Parts, none, part, gap, kind_of, bare_parts}
use Rattle.language.specs.declared.Rank.{Rank}
use Rattle.language.specs.declared.Rank.TheVariants.{Expression, Assignment}
use Rattle.language.specs.declared.Start.TheVariants.{Any}
use Rattle.language.specs.declared.Edge.{Edge}
use Rattle.language.specs.Covers.{Reading, as_expression, as_pattern, element_as, property_as}
use Rattle.language.specs.Edges.{edge, edge_as_written}
use Rattle.language.specs.Continuations.{operation, rank_made_by, stops_at, holds}
use Rattle.language.specs.Vocabulary.{takes, is}
use Rattle.language.specs.Pieces.{expr, template_element, declarator, switch_case, tail, sub, put, many, argument, pattern_element, with_default}
use Rattle.language.specs.Expressions.{assignment, template_elements, object_part, object_pattern_part}
use Rattle.language.specs.Statements.{declarators, member_lines}
use Rattle.language.specs.Token.{Token}
use Rattle.language.specs.Promises.{ReadBy, LaterStop}
use Rattle.language.specs.Derivation.{done, step, one_more, no_more}
use Rattle.language.proofs.table.Begins.{goes_to, retell}
use Rattle.language.proofs.statements.Blocks.{one_case, case_pieces}
use Rattle.language.proofs.list_loops.DeclaratorLists.{comma_declared}
use Rattle.language.proofs.table.OneKind.{one_kind}
use Rattle.language.proofs.list_loops.FirstPieces.{run_none, run_laid, run_token, run_the_part, run_the_gap}
use Rattle.language.proofs.table.SoleWays.{Anyhow}
use Rattle.language.proofs.list_loops.TemplateElements.{chunk_told, before_chunk}
use Rattle.token_cursor.proofs.SeenTokens.{seen_determined}
use Rattle.unambiguity_laws.proofs.list_items.MemberEnds.{MemberEnds, member_ahead, ahead_ends, sign_ends}
use Rattle.unambiguity_laws.proofs.list_items.MemberForms.{member_seen}
use Rattle.recursive_descent.proofs.reading.OnlyDerivation.{alike}
use Rattle.covers.specs.declared.list.ListKind.{ListKind}
use Rattle.covers.specs.declared.list.ListKind.TheVariants as listed
use Rattle.covers.specs.Lists.{closing}
use Rattle.parser_tables.specs.declared.statements.StatementListEnd.TheVariants as until
use Rattle.recursive_descent.specs.Soundness.{RunsIn}
use Rattle.recursive_descent.specs.SoundnessOfLists.{has_reading, stood_in, left_of, item_role, ClosedBy, several}
use Rattle.recursive_descent.specs.Follows.{ChunkAt, FirstMisses}
use Rattle.recursive_descent.specs.Completeness.{StopsIn, DeclaredIn}
use Rattle.recursive_descent.specs.CompletenessOfLists.{LastDeclared, LastGiven, follows_member, an_item, a_chunk}
use Rattle.token_cursor.specs.Seen.{ReadsHere, Sees, SeesBy, Misses}
use Rattle.parser_tables.specs.Tests.{ends}
use Rattle.recursive_descent.proofs.complete_expressions.Agreement.{read_here, not_missed}
use Rattle.recursive_descent.proofs.complete_lists.ListTails.{Settled, Tail, at_end, and_comma, First, item_then, several_first, declarators_first}
use Rattle.recursive_descent.proofs.complete_lists.ListSteps.{ended, next, Step as ListStep, over, further, object_piece, pattern_piece, ends_at, with_commas, nothing_there, listed_step, elements_step}
use Rattle.token_cursor.proofs.TokensAhead.{mark_by, name_by}
use Rattle.token_cursor.specs.SourceText.{SourceText, SeenNext, behind_in}
use Rattle.recursive_descent.specs.Spelled.{SpellsIn}

-- what stops a sequence stops each of its expressions
stops_inside : (i : Bool) (x : Edge) (t : Token) (z : Option Rank) → stops_at Expression i x t z ≡ true → stops_at Assignment i x t z ≡ true
stops_inside i x t None h = refl
stops_inside i x t (Some z) h = of (takes Expression z) (takes Assignment z) ((is t.text "in" && not i) || not (holds x z)) (all z) h
  where
    all : (z : Rank) → takes Expression z ≡ true
    all Expression = refl
    all _ = refl

    of : (b c d : Bool) → b ≡ true → (not b || d) ≡ true → (not c || d) ≡ true
    of true false d e h = refl
    of true true d e h = h
    of false c d e h = cc

bare_chunks : (b : Bool) (ps : Parts) → template_elements b (bare_parts ps) ≡ template_elements b ps
bare_chunks b none = refl
bare_chunks b (gap ps) = refl
bare_chunks b (part q none) = refl
bare_chunks b (part q (gap ps)) = refl
bare_chunks b (part q (part e ps)) = ap (λ x. put (template_element b false) ∷ put (expr Expression true Any) ∷ x) (bare_chunks false ps)

module _ (text : SourceText) where
  -- a sequence
  sequence_step : (marked i : Bool) (a : Reading) {o : ℕ} (ps : Parts) {s e : Token} {P : List Pair} → LastGiven text (listed.Sequence i) ps e → RunsIn text o (Settled text i (several (sub (tail Assignment Any)) ps)) ps s e P → ListStep text (listed.Sequence i) marked a o ps s e P
  sequence_step marked i a none l d = nothing_there text d
  sequence_step marked i a (gap ps) l d = nothing_there text d
  sequence_step marked i a {o} (part n ps) {s} {e} {P} l d =
      let f = several_first text i (λ k. Some (expr Assignment i Any)) (sub (tail Assignment Any)) n refl refl ps d in
      with_commas text (listed.Sequence i) marked a refl refl refl refl (λ h. refl) f (ending f.tail) (λ p. subst (λ qs. LastGiven text (listed.Sequence i) (part n qs) e) p l) (λ k Q r. (r, inner ps l r))
    where
      inner : (ps : Parts) {k : Token} {Q : List Pair} → LastGiven text (listed.Sequence i) (part n ps) e → RunsIn text o (Settled text i (several (sub (tail Assignment Any)) ps)) ps k e Q → LastGiven text (listed.Sequence i) ps e
      inner none l r = nothing_there text r
      inner (gap ps) l r = nothing_there text r
      inner (part m ps) l r = record { before = l.before; apart = l.apart }

      ending : {m : Token} {Q : List Pair} → Tail text i (several (sub (tail Assignment Any))) false o ps m e Q → StopsIn text Assignment i n m
      ending {m} (at_end p z q) =
          let st : LaterStop Token (SeenNext text) (behind_in text) i (part n none) m = subst (λ v. LaterStop Token (SeenNext text) (behind_in text) i (part n none) v) z (subst (λ qs. LastGiven text (listed.Sequence i) (part n qs) e) p l) in
          record { before = λ t k r. stops_inside i (edge_as_written (edge n) (behind_in text m)) t (rank_made_by (operation t) t.after_break) (st.before t k r); apart = st.apart }
      ending (and_comma h c r) = (comma_declared Token (SeenNext text) (behind_in text) (seen_determined text) {i = i} {n = n} c).stopped

  -- what parentheses group
  covers_step : (marked : Bool) {o : ℕ} (ps : Parts) {s e to : Token} {P : List Pair} → ReadsHere text Punctuator (codes ")") e to → RunsIn text o (Settled text true (several assignment ps)) ps s e P → ListStep text listed.ParenthesizedItems marked as_expression o ps s e P
  covers_step marked none closed d = nothing_there text d
  covers_step marked (gap ps) closed d = nothing_there text d
  covers_step marked (part n ps) closed d =
      let f = several_first text true (λ k. Some (expr Assignment true Any)) assignment n refl refl ps d in
      with_commas text listed.ParenthesizedItems marked as_expression refl refl refl refl (λ h. refl) f (ends_at text f.tail closed) (λ p. tt) (λ k Q r. (r, tt))

  -- declarators
  declarators_step : (marked i : Bool) (a : Reading) (b : Bool) → ((k : _) → item_role (listed.Declarators i) a k ≡ Some (declarator i b)) → {o : ℕ} (ps : Parts) {s e : Token} {P : List Pair} → LastGiven text (listed.Declarators i) ps e →
      ((qs : Parts) (k : Token) (Q : List Pair) → RunsIn text o (Settled text true (declarators (declarator i b) qs)) qs k e Q → RunsIn text o (stood_in Any (listed.Declarators i) (left_of (listed.Declarators i) false a qs)) qs k e Q) →
      RunsIn text o (Settled text true (declarators (declarator i b) ps)) ps s e P → ListStep text (listed.Declarators i) marked a o ps s e P
  declarators_step marked i a b role none l on d = nothing_there text d
  declarators_step marked i a b role (gap ps) l on d = nothing_there text d
  declarators_step marked i a b role {o} (part n ps) {s} {e} l on d =
      let f = declarators_first text true (declarator i b) n ps d in
      with_commas text (listed.Declarators i) marked a refl refl refl (role (kind_of n)) (λ h. refl) f (ending f.tail) (λ p. subst (λ qs. LastGiven text (listed.Declarators i) (part n qs) e) p l) (λ k Q r. (on ps k Q r, inner ps l r))
    where
      inner : (ps : Parts) {k : Token} {Q : List Pair} → LastGiven text (listed.Declarators i) (part n ps) e → RunsIn text o (Settled text true (declarators (declarator i b) ps)) ps k e Q → LastGiven text (listed.Declarators i) ps e
      inner none l r = nothing_there text r
      inner (gap ps) l r = nothing_there text r
      inner (part m ps) l r = l

      ending : {m : Token} {Q : List Pair} → Tail text true (declarators (declarator i b)) false o ps m e Q → DeclaredIn text i n m
      ending {m} (at_end p z q) = subst (λ v. DeclaredIn text i n v) z (subst (λ qs. LastDeclared text i (part n qs) e) p l.0)
      ending (and_comma h c r) = comma_declared Token (SeenNext text) (behind_in text) (seen_determined text) {i = i} {n = n} c

  -- a setter's parameter
  lone_of : (marked : Bool) (n : Tree) {o : ℕ} {s e to : Token} {P : List Pair} → ReadsHere text Punctuator (codes ")") e to → First text true (λ k. with_default true k) (λ ps. []) true o n none s e P → ListStep text listed.OneParameter marked (as_pattern true) o (part n none) s e P
  lone_of marked n {o} {s} {e} {to} {P} closed f = of f.tail
    where
      of : Tail text true (λ ps. []) true o none f.mid e f.more → ListStep text listed.OneParameter marked (as_pattern true) o (part n none) s e P
      of (at_end p z q) = further (an_item refl f.is f.spelled (ends_at text {i = true} {pieces = λ ps. []} {rest = true} {o = o} {ps = none} (at_end p z q) closed)) (ended p z q refl tt) refl f.pairs
      of (and_comma h c r) = cc

  lone_step : (marked : Bool) {o : ℕ} (ps : Parts) {s e to : Token} {P : List Pair} → ReadsHere text Punctuator (codes ")") e to → RunsIn text o (stood_in Any listed.OneParameter (left_of listed.OneParameter marked (as_pattern true) ps)) ps s e P → ListStep text listed.OneParameter marked (as_pattern true) o ps s e P
  lone_step marked none closed d = nothing_there text d
  lone_step marked (gap ps) closed d = nothing_there text d
  lone_step marked (part n (part m ps)) closed d = nothing_there text d
  lone_step marked (part n (gap ps)) closed d = nothing_there text d
  lone_step marked (part n none) closed d = lone_of marked n closed (item_then text true (with_default true (kind_of n)) refl d (λ m Q r. let z = run_none Token (SeenNext text) (behind_in text) r in at_end z.parts (sym z.place) z.pairs))

  -- a part of a template that isn't the first
  chunk_at : {last : Bool} {o : ℕ} {c : Tree} {s e : Token} {P : List Pair} → SpellsIn text o (template_element false last) c s e P → ChunkAt text s e c last × (P ≡ [])
  chunk_at {last = true} {c = c} {s} {e} d =
      let v = chunk_told Token (SeenNext text) (behind_in text) (seen_determined text) d in
      let same : v.sign ≡ behind_in text e = sym ((seen_determined text).last s v.sign e v.reads.next) in
      ((v.text, read_here text v.reads, v.tree ∙ ap (λ (k : Token). node TemplateElement v.text plain (k.start + 1) (e.stop - 1) none) same), v.pairs)
  chunk_at {last = false} {c = c} {s} {e} d =
      let v = chunk_told Token (SeenNext text) (behind_in text) (seen_determined text) d in
      let same : v.sign ≡ behind_in text e = sym ((seen_determined text).last s v.sign e v.reads.next) in
      ((v.text, read_here text v.reads, v.tree ∙ ap (λ (k : Token). node TemplateElement v.text plain (k.start + 1) (e.stop - 2) none) same), v.pairs)

  -- what stands behind an expression in a template
  pub chunk_stops : {o : ℕ} (m : Tree) (ps : Parts) {k e : Token} {P : List Pair} → RunsIn text o (Settled text true (template_elements false ps)) ps k e P → StopsIn text Expression true m k
  chunk_stops m ps d = before_chunk Token (SeenNext text) (behind_in text) (seen_determined text) (alike text) m ps (retell Token (SeenNext text) (behind_in text) (ap (goes_to Expression true Any) (sym (bare_chunks false ps))) d)

  template_step : (marked : Bool) (a : Reading) {o : ℕ} (ps : Parts) {s e : Token} {P : List Pair} → RunsIn text o (stood_in Any listed.Template (left_of listed.Template marked a ps)) ps s e P → ListStep text listed.Template marked a o ps s e P
  template_step true a ps d = let z = run_none Token (SeenNext text) (behind_in text) d in over z.parts (sym z.place) z.pairs done
  template_step false a none d = nothing_there text d
  template_step false a (gap ps) d = nothing_there text d
  template_step false a {o} (part n ps) {s} {e} {P} d = let v = run_the_part Token (SeenNext text) (behind_in text) d in of ps v.mid v.one v.more v.pairs v.spelled v.runs
    where
      of : (ps : Parts) (m : Token) (Q R : List Pair) → P ≡ Q ++ R → SpellsIn text o (expr Expression true Any) n s m Q → RunsIn text o (Settled text true (template_elements false ps)) ps m e R → ListStep text listed.Template false a o (part n ps) s e P
      of none m Q R z x r = nothing_there text r
      of (gap ps) m Q R z x r = nothing_there text r
      of (part c none) m Q R z x r =
          let v = run_the_part Token (SeenNext text) (behind_in text) r in
          let w = chunk_at v.spelled in
          let y = run_none Token (SeenNext text) (behind_in text) v.runs in
          further {last = true} {one = part n (part c none)} {rest = none} (a_chunk refl x (chunk_stops n (part c none) r) w.0) (next refl (subst (λ k. RunsIn text o [] none v.mid k []) y.place done)) refl (z ∙ ap (λ k. Q ++ k) (v.pairs ∙ (λ j. w.1 j ++ y.pairs j)))
      of (part c (gap ps)) m Q R z x r = nothing_there text r
      of (part c (part k ps)) m Q R z x r =
          let v = run_the_part Token (SeenNext text) (behind_in text) r in
          let w = chunk_at v.spelled in
          further {last = false} {one = part n (part c none)} {rest = part k ps} (a_chunk refl x (chunk_stops n (part c (part k ps)) r) w.0) (next refl v.runs) refl (z ∙ ap (λ k. Q ++ k) (v.pairs ∙ ap (λ k. k ++ v.more) w.1))

  -- a case begins with its word
  pub case_begins : {r : Bool} {o : ℕ} {n : Tree} {s e : Token} {P : List Pair} → SpellsIn text o (switch_case r) n s e P → (Sees text IdentifierName (codes "case") s) ⊎ (Sees text IdentifierName (codes "default") s)
  case_begins {r} {o} {n} {s} {e} {P} d = let told = (one_kind Token (SeenNext text) (behind_in text) (seen_determined text) {Fine = Anyhow} {s = s} (one_case r)).told d tt in of told.parts told.runs
    where
      of : (ps : Parts) {Q : List Pair} → RunsIn text o (goes_to Expression true Any (case_pieces r (bare_parts ps))) ps s e Q → (Sees text IdentifierName (codes "case") s) ⊎ (Sees text IdentifierName (codes "default") s)
      of none d = nothing_there text d
      of (part t ps) d = let c = run_token Token (SeenNext text) (behind_in text) d in inl (c.mid, read_here text c.reads)
      of (gap ps) d = let c = run_token Token (SeenNext text) (behind_in text) (run_the_gap Token (SeenNext text) (behind_in text) d) in inr (c.mid, read_here text c.reads)

  -- the token ends the items of a case
  ends_by : {w : List ℕ} {s t : Token} → ReadsHere text IdentifierName w s t → ends until.NextCase (record { class = IdentifierName; text = w; start = 0; stop = 0; after_break = false }) ≡ true → SeesBy text Div (ends until.NextCase) s
  ends_by {w} {s} {t} r h = (t, (name_by text r, (ap (λ c. ends until.NextCase (record { class = c; text = t.text; start = 0; stop = 0; after_break = false })) r.class ∙ ap (λ x. ends until.NextCase (record { class = IdentifierName; text = x; start = 0; stop = 0; after_break = false })) r.text ∙ h)))

  brace_ends : {s t : Token} → ReadsHere text Punctuator (codes "}") s t → SeesBy text Div (ends until.NextCase) s
  brace_ends {s} {t} r = (t, (mark_by text r, (ap (λ c. ends until.NextCase (record { class = c; text = t.text; start = 0; stop = 0; after_break = false })) r.class ∙ ap (λ x. ends until.NextCase (record { class = Punctuator; text = x; start = 0; stop = 0; after_break = false })) r.text)))

  cases_step : (marked r : Bool) (a : Reading) {o : ℕ} (ps : Parts) {s e to : Token} {P : List Pair} → ReadsHere text Punctuator (codes "}") e to → RunsIn text o (stood_in Any (listed.Cases r) (left_of (listed.Cases r) marked a ps)) ps s e P → ListStep text (listed.Cases r) marked a o ps s e P
  cases_step marked r a none closed d = let z = run_none Token (SeenNext text) (behind_in text) d in over refl (sym z.place) z.pairs done
  cases_step marked r a (gap ps) closed d = nothing_there text d
  cases_step marked r a {o} (part n ps) {s} {e} {to} closed d =
      let v = run_the_part Token (SeenNext text) (behind_in text) (run_laid Token (SeenNext text) (behind_in text) d) in
      further {last = false} {one = part n none} {rest = ps} (an_item refl refl v.spelled (ending ps v.runs)) (next refl v.runs) refl v.pairs
    where
      ending : (ps : Parts) {m : Token} {Q : List Pair} → RunsIn text o (stood_in Any (listed.Cases r) (left_of (listed.Cases r) false a ps)) ps m e Q → SeesBy text Div (ends until.NextCase) m
      ending none x = let z = run_none Token (SeenNext text) (behind_in text) x in brace_ends (subst (λ v. ReadsHere text Punctuator (codes "}") v to) (sym z.place) closed)
      ending (gap ps) x = nothing_there text x
      ending (part k ps) x = of (case_begins (run_the_part Token (SeenNext text) (behind_in text) (run_laid Token (SeenNext text) (behind_in text) x)).spelled)
        where
          of : {m : Token} → (Sees text IdentifierName (codes "case") m) ⊎ (Sees text IdentifierName (codes "default") m) → SeesBy text Div (ends until.NextCase) m
          of (inl u) = ends_by u.1 refl
          of (inr u) = ends_by u.1 refl

  -- what may follow a member is seen there
  follows_seen : {s : Token} → MemberEnds Token (SeenNext text) (behind_in text) (seen_determined text) s → SeesBy text Div follows_member s
  follows_seen {s} a = (a.mid, subst (λ t. ReadBy Token (SeenNext text) (behind_in text) Div s t a.mid × (follows_member t ≡ true)) (sym ((seen_determined text).last s a.token a.mid a.read.next)) (a.read, a.follows))

  -- behind a member stands another, a semicolon, or the brace
  member_ends : {o : ℕ} (ps : Parts) {s e to : Token} {P : List Pair} → ReadsHere text Punctuator (codes "}") e to → RunsIn text o (stood_in Any listed.Members (many (codes ";") ∷ member_lines ps)) ps s e P → SeesBy text Div follows_member s
  member_ends ps closed (step (one_more r q) d) = follows_seen (sign_ends Token (SeenNext text) (behind_in text) (seen_determined text) refl refl r)
  member_ends none {to = to} closed (step no_more d) =
      let z = run_none Token (SeenNext text) (behind_in text) d in
      follows_seen (sign_ends Token (SeenNext text) (behind_in text) (seen_determined text) refl refl (subst (λ v. ReadsHere text Punctuator (codes "}") v to) (sym z.place) closed))
  member_ends (gap ps) closed (step no_more d) = nothing_there text d
  member_ends (part n ps) closed (step no_more d) =
      let v = run_the_part Token (SeenNext text) (behind_in text) (run_laid Token (SeenNext text) (behind_in text) d) in
      follows_seen (ahead_ends Token (SeenNext text) (behind_in text) (seen_determined text) (member_ahead Token (SeenNext text) (behind_in text) (seen_determined text) (member_seen Token (SeenNext text) (behind_in text) (seen_determined text) v.spelled)))

  -- members, where no semicolon stands before the next
  members_step : (marked : Bool) (a : Reading) {o : ℕ} (ps : Parts) {s e to : Token} {P : List Pair} → Misses text Punctuator (codes ";") s → ReadsHere text Punctuator (codes "}") e to → RunsIn text o (stood_in Any listed.Members (left_of listed.Members marked a ps)) ps s e P → ListStep text listed.Members marked a o ps s e P
  members_step marked a ps miss closed (step (one_more r q) d) = absurd (not_missed miss r)
  members_step marked a none miss closed (step no_more d) = let z = run_none Token (SeenNext text) (behind_in text) d in over refl (sym z.place) z.pairs (step no_more done)
  members_step marked a (gap ps) miss closed (step no_more d) = nothing_there text d
  members_step marked a (part n ps) miss closed (step no_more d) =
      let v = run_the_part Token (SeenNext text) (behind_in text) (run_laid Token (SeenNext text) (behind_in text) d) in
      further {last = false} {one = part n none} {rest = ps} (an_item refl refl v.spelled (member_ends ps closed v.runs)) (next refl v.runs) refl v.pairs

  -- each list
  pub list_step : (x : ListKind) (marked : Bool) (a : Reading) {o : ℕ} (ps : Parts) {s e : Token} (to : Token) {P : List Pair} → has_reading x a ≡ true → FirstMisses text x s → ClosedBy text (closing x) e to → LastGiven text x ps e → RunsIn text o (stood_in Any x (left_of x marked a ps)) ps s e P → ListStep text x marked a o ps s e P
  list_step listed.Arguments marked as_expression ps to h f closed l d = listed_step text listed.Arguments marked as_expression (element_as as_expression) argument ps refl refl refl (λ k. refl) (λ n. refl) (λ n. refl) (λ n m c. c) (λ qs. tt) (λ qs k Q r. r) done closed d
  list_step listed.Arguments marked (as_pattern b) ps to h f closed l d = absurd (false≢true h)
  list_step listed.Elements marked as_expression ps to h f closed l d = elements_step text marked as_expression (element_as as_expression) argument ps (λ k. refl) (λ n. refl) (λ n. refl) (λ qs k Q r. r) done closed d
  list_step listed.Elements marked (as_pattern b) ps to h f closed l d = elements_step text marked (as_pattern b) (element_as (as_pattern b)) (pattern_element b) ps (λ k. refl) (λ n. refl) (λ n. refl) (λ qs k Q r. r) done closed d
  list_step listed.Properties marked as_expression ps to h f closed l d = listed_step text listed.Properties marked as_expression (property_as as_expression) object_part ps refl refl refl (λ k. refl) object_piece (λ n. refl) (λ n m c. c) (λ qs. tt) (λ qs k Q r. r) done closed d
  list_step listed.Properties marked (as_pattern b) ps to h f closed l d = listed_step text listed.Properties marked (as_pattern b) (property_as (as_pattern b)) (object_pattern_part b) ps refl refl refl (λ k. refl) (pattern_piece b) (λ n. refl) (λ n m c. c) (λ qs. tt) (λ qs k Q r. r) done closed d
  list_step listed.ParenthesizedItems marked as_expression ps to h f closed l d = covers_step marked ps closed d
  list_step listed.ParenthesizedItems marked (as_pattern b) ps to h f closed l d = listed_step text listed.ParenthesizedItems marked (as_pattern b) (element_as (as_pattern b)) (pattern_element b) ps refl refl refl (λ k. refl) (λ n. refl) (λ n. refl) (λ n m c. c) (λ qs. tt) (λ qs k Q r. r) done closed d
  list_step listed.AsyncArguments marked as_expression ps to h f closed l d = listed_step text listed.AsyncArguments marked as_expression (element_as as_expression) argument ps refl refl refl (λ k. refl) (λ n. refl) (λ n. refl) (λ n m c. c) (λ qs. tt) (λ qs k Q r. r) done closed d
  list_step listed.AsyncArguments marked (as_pattern true) ps to h f closed l d = listed_step text listed.AsyncArguments marked (as_pattern true) (element_as (as_pattern true)) (pattern_element true) ps refl refl refl (λ k. refl) (λ n. refl) (λ n. refl) (λ n m c. c) (λ qs. tt) (λ qs k Q r. r) done closed d
  list_step listed.AsyncArguments marked (as_pattern false) ps to h f closed l d = absurd (false≢true h)
  list_step listed.Parameters marked as_expression ps to h f closed l d = absurd (false≢true h)
  list_step listed.Parameters marked (as_pattern true) ps to h f closed l d = listed_step text listed.Parameters marked (as_pattern true) (element_as (as_pattern true)) (pattern_element true) ps refl refl refl (λ k. refl) (λ n. refl) (λ n. refl) (λ n m c. c) (λ qs. tt) (λ qs k Q r. r) done closed d
  list_step listed.Parameters marked (as_pattern false) ps to h f closed l d = absurd (false≢true h)
  list_step listed.NoParameter marked a none to h f closed l d = let z = run_none Token (SeenNext text) (behind_in text) d in over refl (sym z.place) z.pairs done
  list_step listed.NoParameter marked a (part n ps) to h f closed l d = nothing_there text d
  list_step listed.NoParameter marked a (gap ps) to h f closed l d = nothing_there text d
  list_step listed.OneParameter marked as_expression ps to h f closed l d = absurd (false≢true h)
  list_step listed.OneParameter marked (as_pattern true) ps to h f closed l d = lone_step marked ps closed d
  list_step listed.OneParameter marked (as_pattern false) ps to h f closed l d = absurd (false≢true h)
  list_step listed.Template marked a ps to h f closed l d = template_step marked a ps d
  list_step (listed.Sequence i) marked a ps to h f closed l d = sequence_step marked i a ps l d
  list_step (listed.Declarators i) marked as_expression ps to h f closed l d = declarators_step marked i as_expression true (λ k. refl) ps l (λ qs k Q r. r) d
  list_step (listed.Declarators i) marked (as_pattern b) ps to h f closed l d = declarators_step marked i (as_pattern b) false (λ k. refl) ps l (λ qs k Q r. r) d
  list_step (listed.Cases r) marked a ps to h f closed l d = cases_step marked r a ps closed d
  list_step listed.Members marked a ps to h f closed l d = members_step marked a ps f closed d
