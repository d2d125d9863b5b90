-- A script or module from its items, up to the end of the text (ECMA-262 15.1; 16.2 of the 13th edition).
use Rattle.std.proofs.Common.{◌≡◌, ℕ, suc, ◌-◌, ◌≤◌, arith, Bool, true, false, List, [], ◌∷◌, ◌++◌, length, drop, refl, sym, ap, ◌∙◌, subst}
use Rattle.std.specs.Prelude.{IsTrue, ◌&&◌, cond, codes, not}
use Rattle.std.specs.Str.{chars, IsUtf8}
use Rattle.std.specs.Str.{encode_utf8_all}
use Rattle.std.proofs.lemmas.Str.{IsUtf8-drop, encodes-chars}
use Rattle.std.proofs.lemmas.List.{length-drop}
use Rattle.std.proofs.lemmas.Bool.{false≢true}
use Rattle.source_text.specs.Source.{IsPlace}
use Rattle.tokens.specs.declared.token.TokenClass.{TokenClass}
use Rattle.tokens.specs.declared.token.TokenClass.TheVariants.{End}
use Rattle.tokens.specs.declared.token.Goal.{Goal}
use Rattle.tokens.specs.declared.token.Goal.TheVariants.{Div}
use Rattle.tokens.specs.Tokens.{LexicalToken}
use Rattle.tokens.specs.Reading.{Reads, behind, any_goal}
use Rattle.tokens.specs.Lexical.{is_token}
use Rattle.tokens.proofs.Bounds.{token_places}
use Rattle.token_cursor.specs.CursorState.{CursorState}
use Rattle.tree.specs.declared.kind.Kind.TheVariants.{Program}
use Rattle.tree.specs.declared.kind.Pair.{Pair}
use Rattle.tree.specs.Tree.{Tree, node, Parts, none, part, gap, plain, bare_parts, program_tree, height, parts_height, bare}
use Rattle.language.specs.declared.Rank.TheVariants.{Expression, Primary}
use Rattle.language.specs.declared.Start.TheVariants.{Any}
use Rattle.language.specs.Claims.{max_height, max_open}
use Rattle.language.specs.Edges.{is_end}
use Rattle.language.specs.Pieces.{Role, script, PieceOf, Spelling, at, tok, lay, feed, Piece, sub, module_item, opening, item}
use Rattle.language.specs.Statements.{prologue, is_directive, module_prologue, is_module_item}
use Rattle.language.specs.Grammar.{spellings}
use Rattle.language.specs.Token.{Token, table_text}
use Rattle.language.specs.Places.{next_in, NextIn}
use Rattle.language.specs.Derivation.{Step, token, with_mark, without_mark, one_more, no_more, seen, same_line, left_bare, explicit, implicit, laid, direct, grouped, done, step, opened, closed, within, missing, first, placed, reserved_key, reserved_word, Among}
use Rattle.language.proofs.table.Begins.{retell}
use Rattle.language.proofs.lower_bound.Domination.{settled}
use Rattle.language.proofs.table.Productions.{way_from, runs_can}
use Rattle.language.proofs.list_loops.FirstPieces.{run_never}
use Rattle.recursive_descent.specs.Soundness.{RunsIn, anywhere, Adds, grouping}
use Rattle.token_cursor.specs.Seen.{ReadsHere, SeesBy}
use Rattle.parser_tables.specs.Tests.{ends}
use Rattle.parser_tables.specs.declared.statements.StatementListEnd.TheVariants as until
use Rattle.token_cursor.specs.SourceText.{SourceText, SeenNext, behind_in}
use Rattle.recursive_descent.specs.Spelled.{SpellsIn, AllOfLanguage}
use Rattle.language.specs.Languages.{seen_next, beginning_in, is_tree_of}
use Rattle.recursive_descent.proofs.reading.SeenClasses.{steady_class}
use Rattle.language.proofs.climbing.OperatorNodes.{kind_bare}
use Rattle.language.specs.declared.Language.{Language}
use Rattle.recursive_descent.specs.Limits.{WithinLimitsIn}
use Rattle.recursive_descent.specs.Scripts.{program_text}
use Rattle.language.specs.Later.{has_later, some_has_later}
use Rattle.language.specs.declared.Language.TheVariants.{Base, Script as strict_script, Module}

-- whether it is a directive doesn't depend on places
pub directive_bare : (n : Tree) → is_directive (Rattle.tree.specs.Tree.bare n) ≡ is_directive n
directive_bare (node k w g s e ps) = refl

module _ (text : SourceText) (utf8 : IsUtf8 text.bytes) where
  next_place : {s t e : Token} → SeenNext text s t e → IsPlace text.bytes s.stop → IsPlace text.bytes e.stop
  next_place (seen_next x) p = of x p
    where
      of : {s t e : Token} → NextIn text.bytes any_goal s t e → IsPlace text.bytes s.stop → IsPlace text.bytes e.stop
      of (next_in {s = s} {t = t} goal g h) p = (token_places text.bytes goal s.stop t utf8 p h).1

  step_place : {q : PieceOf Role} {s e : Token} → Step Token (SeenNext text) (behind_in text) q s e → IsPlace text.bytes s.stop → IsPlace text.bytes e.stop
  step_place (token r) p = next_place r.next p
  step_place (with_mark r) p = next_place r.next p
  step_place without_mark p = p
  step_place (one_more r q) p = step_place q (next_place r.next p)
  step_place no_more p = p
  step_place (seen r) p = p
  step_place (same_line nx h) p = p
  step_place (left_bare nx h) p = p
  step_place (explicit r) p = next_place r.next p
  step_place (implicit nx h) p = p
  step_place laid p = p

  mutual
    spells_place : {o : ℕ} {a : Role} {n : Tree} {s e : Token} {P : List Pair} → SpellsIn text o a n s e P → IsPlace text.bytes s.stop → IsPlace text.bytes e.stop
    spells_place (direct qs h pl d) p = runs_place d p
    spells_place (reserved_key r k is) p = next_place r.next p
    spells_place (reserved_word r k is) p = next_place r.next p
    spells_place (grouped r d q) p = next_place q.next (spells_place d (next_place r.next p))

    pub runs_place : {o : ℕ} {qs : List (PieceOf Role)} {ps : Parts} {s e : Token} {P : List Pair} → RunsIn text o qs ps s e P → IsPlace text.bytes s.stop → IsPlace text.bytes e.stop
    runs_place done p = p
    runs_place (step q d) p = runs_place d (step_place q p)
    runs_place (opened r d) p = runs_place d (next_place r.next p)
    runs_place (closed r d) p = runs_place d (next_place r.next p)
    runs_place (within u d) p = runs_place d (spells_place u p)
    runs_place (missing d) p = runs_place d p

  -- nothing is behind the last place
  nothing_behind : (at : ℕ) → IsPlace text.bytes at → behind text.bytes at ≡ [] → at ≡ length text.bytes
  nothing_behind at p h =
      let empty : drop at text.bytes ≡ [] = sym (encodes-chars (drop at text.bytes) (IsUtf8-drop text.bytes at utf8 p)) ∙ ap encode_utf8_all h in
      let none_left : length text.bytes - at ≡ 0 = sym (length-drop at text.bytes) ∙ ap length empty in
      let within : at ≤ length text.bytes = p.0 in
      omega arith

  -- the end token is empty, and stands at the end
  end_token : (goal : Goal) (at : ℕ) (t : LexicalToken) → IsPlace text.bytes at → Reads text.bytes goal at t → t.class ≡ End → (t.text ≡ []) × (t.stop ≡ length text.bytes)
  end_token goal at t p h class = of h.word (behind text.bytes t.stop) refl (subst (λ c. IsTrue (is_token c h.word (behind text.bytes t.stop))) class h.longest) h.text
    where
      of : (word rest : List ℕ) → behind text.bytes t.stop ≡ rest → IsTrue (is_token End word rest) → t.text ≡ Rattle.std.specs.Str.encode_utf8_all word → (t.text ≡ []) × (t.stop ≡ length text.bytes)
      of [] [] r k w = (w, nothing_behind t.stop (token_places text.bytes goal at t utf8 p h).1 r)
      of [] (c ∷ cs) r k w = absurd (false≢true k)
      of (c ∷ cs) [] r k w = absurd (false≢true k)
      of (c ∷ cs) (b ∷ bs) r k w = absurd (false≢true k)

  pub end_read : {s t e : Token} → SeenNext text s t e → t.class ≡ End → IsPlace text.bytes s.stop → (t.text ≡ []) × (e.stop ≡ length text.bytes)
  end_read (seen_next {t = v} x) class p = of x (steady_class text.language v.class End v.text refl class) p
    where
      of : {s t e : Token} → NextIn text.bytes any_goal s t e → t.class ≡ End → IsPlace text.bytes s.stop → (t.text ≡ []) × (e.stop ≡ length text.bytes)
      of (next_in {s = s} {t = u} goal g h) class p = let v = end_token goal s.stop u p h class in ((λ i. table_text (class i) u.text) ∙ v.0, v.1)

ended_class : (t : Token) → is_end t ≡ true → t.class ≡ End
ended_class t h = of t.class h
  where
    of : (c : TokenClass) → Rattle.language.specs.Edges.is_end (record t { class = c }) ≡ true → c ≡ End
    of End h = refl
    of _ h = absurd (false≢true h)

module _ (text : SourceText) where
  -- what spells a node begins with a token
  begun : {o : ℕ} {a : Role} {n : Tree} {s e : Token} {P : List Pair} → SpellsIn text o a n s e P → (t : Token) × (m : Token) × SeenNext text s t m
  begun (direct qs h (placed {t = t} {m = m} nx p) d) = (t, m, nx)
  begun (grouped {left = left} {m = m} r d q) = (left, m, r.next)
  begun (reserved_key {t = t} {e = e} r k is) = (t, e, r.next)
  begun (reserved_word {t = t} {e = e} r k is) = (t, e, r.next)

  -- the items of a script, and the end
  to_end : {o : ℕ} (b : Bool) (ps : Parts) {s m e : Token} {P : List Pair} → RunsIn text o (anywhere (prologue false b [] [] ps)) ps s m P → ReadsHere text End [] m e → RunsIn text o (anywhere (prologue false b [] (lay feed ∷ []) (bare_parts ps) ++ tok End [] ∷ [])) ps s e P
  to_end b none done h = step (token h) done
  to_end b (part n ps) (within d run) h = within d (step laid (retell Token (SeenNext text) (behind_in text) (ap (λ x. anywhere (prologue false (b && x) [] (lay feed ∷ []) (bare_parts ps) ++ tok End [] ∷ [])) (sym (directive_bare n))) (to_end (b && is_directive n) ps run h)))
  to_end b (part n ps) (step q run) h = elim q [ ]
  to_end b (gap ps) run h = absurd (run_never Token (SeenNext text) (behind_in text) run)

  -- such items begin with a token, or the end does
  first_token : {o : ℕ} (b : Bool) (ps : Parts) {s m e : Token} {P : List Pair} → RunsIn text o (anywhere (prologue false b [] [] ps)) ps s m P → ReadsHere text End [] m e → (t : Token) × (k : Token) × SeenNext text s t k
  first_token b none {e = e} done h = (behind_in text e, e, h.next)
  first_token b (part n ps) (within d run) h = begun d
  first_token b (part n ps) (step q run) h = elim q [ ]
  first_token b (gap ps) run h = absurd (run_never Token (SeenNext text) (behind_in text) run)

  -- the items of a module run to its end
  module_to_end : {o : ℕ} (b : Bool) (ps : Parts) {s m e : Token} {P : List Pair} → RunsIn text o (anywhere (module_prologue b ps)) ps s m P → ReadsHere text End [] m e → RunsIn text o (anywhere (module_prologue b (bare_parts ps) ++ tok End [] ∷ [])) ps s e P
  module_to_end b none done h = step (token h) done
  module_to_end {o} b (part n ps) {s} {m} {e} {P} (within {Q = Q} d (step laid run)) h =
      let rest = retell Token (SeenNext text) (behind_in text) (ap (λ x. anywhere (module_prologue (b && x) (bare_parts ps) ++ tok End [] ∷ [])) (sym (directive_bare n))) (module_to_end (b && is_directive n) ps run h) in
      retell Token (SeenNext text) (behind_in text) (ap (λ k. sub (cond (is_module_item k) module_item (cond b (opening false) (item false))) ∷ lay feed ∷ anywhere (module_prologue (b && is_directive (bare n)) (bare_parts ps) ++ tok End [] ∷ [])) (sym (kind_bare n))) (within d (step laid rest))
  module_to_end b (part n ps) (step q run) h = elim q [ ]
  module_to_end b (gap ps) run h = absurd (run_never Token (SeenNext text) (behind_in text) run)

  module_token : {o : ℕ} (b : Bool) (ps : Parts) {s m e : Token} {P : List Pair} → RunsIn text o (anywhere (module_prologue b ps)) ps s m P → ReadsHere text End [] m e → (t : Token) × (k : Token) × SeenNext text s t k
  module_token b none {e = e} done h = (behind_in text e, e, h.next)
  module_token b (part n ps) (within d run) h = begun d
  module_token b (part n ps) (step q run) h = elim q [ ]
  module_token b (gap ps) run h = absurd (run_never Token (SeenNext text) (behind_in text) run)

-- the pieces of the items, by the language
abbrev pub items_of : Language → Parts → List Piece
items_of Module ps = module_prologue true ps
items_of language ps = prologue false true [] [] ps

abbrev script_way : Parts → Spelling
script_way ps = at Primary (prologue false true [] (lay feed ∷ []) (bare_parts ps) ++ tok End [] ∷ [])

abbrev module_way : Parts → Spelling
module_way ps = at Primary (module_prologue true (bare_parts ps) ++ tok End [] ∷ [])

module _ (text : SourceText) {o : ℕ} {s m e : Token} {P : List Pair} (ps : Parts) where
  as_script : (w : List ℕ) → Among (script_way ps) (spellings script (node Program w plain 0 0 (bare_parts ps))) → RunsIn text o (anywhere (prologue false true [] [] ps)) ps s m P → ReadsHere text End [] m e → SpellsIn text o script (node Program w plain 0 e.stop ps) s e P
  as_script w listed run h =
      let d = to_end text true ps run h in
      direct (settled script (script_way ps)) (way_from script (node Program w plain 0 e.stop ps) (script_way ps) refl listed (runs_can Token (SeenNext text) (behind_in text) Expression true Any (script_way ps).pieces d)) (placed (first_token text true ps run h).2 refl) d

  as_module : (w : List ℕ) → Among (module_way ps) (spellings script (node Program w plain 0 0 (bare_parts ps))) → RunsIn text o (anywhere (module_prologue true ps)) ps s m P → ReadsHere text End [] m e → SpellsIn text o script (node Program w plain 0 e.stop ps) s e P
  as_module w listed run h =
      let d = module_to_end text true ps run h in
      direct (settled script (module_way ps)) (way_from script (node Program w plain 0 e.stop ps) (module_way ps) refl listed (runs_can Token (SeenNext text) (behind_in text) Expression true Any (module_way ps).pieces d)) (placed (module_token text true ps run h).2 refl) d

  program_spelled : (l : Language) → RunsIn text o (anywhere (items_of l ps)) ps s m P → ReadsHere text End [] m e → SpellsIn text o script (node Program (program_text l) plain 0 e.stop ps) s e P
  unfolding spellings
  program_spelled Base run h = as_script [] first run h
  program_spelled strict_script run h = as_script (codes "2022") first run h
  program_spelled Module run h = as_module (codes "module") first run h

-- the Program is of its language, if its items are
program_of : (l : Language) (st en : ℕ) (ps : Parts) → (l ≡ Base → some_has_later ps ≡ false) → is_tree_of l (node Program (program_text l) plain st en ps) ≡ true
unfolding has_later
program_of Base st en ps own = ap not (own refl)
program_of strict_script st en ps own = refl
program_of Module st en ps own = refl

-- the whole, as it is returned
pub parsed : {s e : CursorState} {old new kept : List Pair} (text : SourceText) (nodes : Parts) (program : Tree) → IsUtf8 text.bytes → s.text ≡ text → s.last ≡ beginning_in text.language text.bytes → IsPlace text.bytes s.last.stop → s.opened ≡ 0 → old ≡ [] → Adds s e old new (λ o a b P. RunsIn s.text o (anywhere (items_of text.language nodes)) nodes a b P) →
    e.text ≡ s.text → SeesBy e.text Div (ends until.EndOfText) e.last → AllOfLanguage text nodes → kept ≡ grouping new → program ≡ program_tree (program_text text.language) nodes (record { start = 0; end = length text.bytes }) → parts_height nodes ≤ max_height - 1 → WithinLimitsIn text.language text.bytes program kept
parsed {s} {e} {old} {new} {kept} text nodes program utf8 text_is last_is begins open_is old_is a same sees own kept_is tree low =
    let P = grouping a.more in
    let start : Token = beginning_in text.language text.bytes in
    let qs = anywhere (items_of text.language nodes) in
    let runs : RunsIn text max_open qs nodes start e.last P =
    subst (λ t. RunsIn t max_open qs nodes start e.last P) text_is
    (subst (λ m. RunsIn s.text max_open qs nodes m e.last P) last_is
    (subst (λ o. RunsIn s.text (max_open - o) qs nodes s.last e.last P) open_is a.is)) in
    let place : IsPlace text.bytes e.last.stop = runs_place text utf8 runs (subst (λ m. IsPlace text.bytes m.stop) last_is begins) in
    let end = sees.0 in
    let shown = behind_in text end in
    let here : SeesBy text Div (ends until.EndOfText) e.last = subst (λ t. SeesBy t Div (ends until.EndOfText) e.last) (same ∙ text_is) sees in
    let next : SeenNext text e.last (behind_in text here.0) here.0 = here.1.0.next in
    let class = ended_class (behind_in text here.0) here.1.1 in
    let read = end_read text utf8 next class place in
    let spelled = program_spelled text nodes text.language runs (record { next = next; class = class; text = read.0 }) in
    let tree_is : node Program (program_text text.language) plain 0 here.0.stop nodes ≡ program = ap (λ x. node Program (program_text text.language) plain 0 x nodes) read.1 ∙ sym tree in
    let pairs_are : P ≡ kept = sym (kept_is ∙ ap grouping (a.pairs ∙ ap (λ x. x ++ a.more) old_is)) in
    let high : height program ≡ suc (parts_height nodes) = ap height tree in
    let tree_of : is_tree_of text.language program ≡ true = ap (is_tree_of text.language) tree ∙ program_of text.language 0 (length text.bytes) nodes own.none_later in
    (omega arith, (tree_of, here.0, subst (λ x. SpellsIn text max_open script program start here.0 x) pairs_are (subst (λ n. SpellsIn text max_open script n start here.0 P) tree_is spelled)))
