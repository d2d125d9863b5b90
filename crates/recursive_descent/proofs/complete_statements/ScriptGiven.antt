-- A script or module that is given: its items, up to the end of the text (ECMA-262 15.1; 16.2 of the 13th edition).
use Rattle.std.proofs.Common.{◌≡◌, ℕ, suc, ◌-◌, ◌≤◌, arith, Bool, true, false, cond, List, [], ◌∷◌, ◌++◌, length, Result, Ok, Err, refl, sym, ap, ◌∙◌, subst}
use Rattle.std.specs.Prelude.{codes, not, ◌&&◌, ◌||◌, IsTrue}
use Rattle.std.specs.Result.{IsErrAnd}
use Rattle.std.specs.Str.{IsUtf8}
use Rattle.std.proofs.lemmas.Bool.{false≢true}
use Rattle.std.proofs.lemmas.Slice.Eq.{bytes_eq-Decides}
use Rattle.source_text.specs.Source.{IsPlace}
use Rattle.source_text.specs.declared.fault.Fault.{Fault}
use Rattle.tokens.specs.declared.token.TokenClass.TheVariants.{End}
use Rattle.tokens.specs.declared.token.Goal.TheVariants.{Div}
use Rattle.tokens.specs.Goals.{allows}
use Rattle.token_cursor.specs.CursorState.{CursorState}
use Rattle.tree.specs.declared.kind.Kind.TheVariants.{Program}
use Rattle.tree.specs.declared.kind.Flags.{Flags}
use Rattle.tree.specs.declared.kind.Pair.{Pair}
use Rattle.tree.specs.Tree.{Tree, node, Parts, none, part, gap, plain, bare, bare_parts, program_tree, height, parts_height}
use Rattle.tree.proofs.Lean.{lean_flags}
use Rattle.language.specs.declared.Language.{Language}
use Rattle.language.specs.declared.Language.TheVariants.{Base, Script as strict_script, Module}
use Rattle.language.specs.Claims.{max_height, max_open}
use Rattle.language.specs.Edges.{is_end}
use Rattle.language.specs.Languages.{DerivesOpenIn, beginning_in, is_tree_of}
use Rattle.language.specs.Later.{has_later, some_has_later}
use Rattle.language.specs.Pieces.{Piece, Spelling, script, tok, lay, feed, sub, module_item, opening, item}
use Rattle.language.specs.Statements.{prologue, module_prologue, is_directive, is_module_item}
use Rattle.language.specs.Grammar.{spellings, programs}
use Rattle.language.specs.Promises.{is_free, ReadBy}
use Rattle.language.specs.Token.{Token}
use Rattle.language.specs.Derivation.{Among, direct, placed, done, step, within, laid}
use Rattle.language.proofs.table.Begins.{retell}
use Rattle.language.proofs.list_loops.FirstPieces.{run_never, run_none, run_token, run_laid, run_the_part}
use Rattle.language.proofs.climbing.BinaryTurns.{same_node}
use Rattle.language.proofs.climbing.OperatorNodes.{kind_bare}
use Rattle.language.proofs.table.StatementWays.{pieces_of_one}
use Rattle.language.proofs.table.ViewIsComplete.{way_of}
use Rattle.tree.specs.Uses.{is_empty}
use Rattle.token_cursor.proofs.SeenTokens.{seen_determined}
use Rattle.recursive_descent.specs.Soundness.{RunsIn, anywhere, grouping}
use Rattle.recursive_descent.specs.Completeness.{Agrees, Room, EndsWith}
use Rattle.recursive_descent.specs.Scripts.{program_text}
use Rattle.token_cursor.specs.Seen.{ReadsHere, SeesBy}
use Rattle.parser_tables.specs.Tests.{ends}
use Rattle.parser_tables.specs.declared.statements.StatementListEnd.TheVariants as until
use Rattle.recursive_descent.proofs.complete_expressions.Agreement.{agrees_on, read_here}
use Rattle.recursive_descent.proofs.sound_statements.Scripts.{items_of, directive_bare, runs_place, end_read}
use Rattle.token_cursor.specs.SourceText.{SourceText, SeenNext, behind_in}
use Rattle.recursive_descent.specs.Spelled.{SpellsIn, OfLanguage, AllOfLanguage}
use Rattle.recursive_descent.proofs.reading.LanguageTrees.{parts_of_language}

not_true : (b : Bool) → not b ≡ true → b ≡ false
not_true true h = absurd (false≢true h)
not_true false h = refl

-- the pieces of a Program in the table, by the language that its text says
abbrev pieces_of : Language → Parts → List Piece
pieces_of Module ps = module_prologue true ps ++ tok End [] ∷ []
pieces_of language ps = prologue false true [] (lay feed ∷ []) ps ++ tok End [] ∷ []

empty_text : (w : List ℕ) (b : Bool) → not (not (is_empty w) || b) ≡ true → w ≡ []
empty_text [] b h = refl
empty_text (c ∷ w) b h = absurd (false≢true h)

-- a tree of the language has its text
told_text : (l : Language) (w : List ℕ) (g : Flags) (st en : ℕ) (ps : Parts) → is_tree_of l (node Program w g st en ps) ≡ true → w ≡ program_text l
unfolding has_later
told_text Base w g st en ps h = empty_text w (some_has_later ps) h
told_text strict_script w g st en ps h = (bytes_eq-Decides w (codes "2022")).0 h
told_text Module w g st en ps h = (bytes_eq-Decides w (codes "module")).0 h

module _ (text : SourceText) where
  record ToEnd (b : Bool) (o : ℕ) (ps : Parts) (s e : Token) (P : List Pair) : Type 0 where
    mid : Token
    runs : RunsIn text o (anywhere (prologue false b [] [] ps)) ps s mid P
    reads : ReadsHere text End [] mid e

  record ModuleToEnd (b : Bool) (o : ℕ) (ps : Parts) (s e : Token) (P : List Pair) : Type 0 where
    mid : Token
    runs : RunsIn text o (anywhere (module_prologue b ps)) ps s mid P
    reads : ReadsHere text End [] mid e

  -- the items, and the end
  from_end : {o : ℕ} (b : Bool) (ps : Parts) {s e : Token} {P : List Pair} → RunsIn text o (anywhere (prologue false b [] (lay feed ∷ []) (bare_parts ps) ++ tok End [] ∷ [])) ps s e P → ToEnd b o ps s e P
  from_end {o} b none {s} {e} {P} d =
      let t = run_token Token (SeenNext text) (behind_in text) d in
      let z = run_none Token (SeenNext text) (behind_in text) t.runs in
      record { mid = s; runs = subst (λ Q. RunsIn text o [] none s s Q) (sym z.pairs) done; reads = subst (λ k. ReadsHere text End [] s k) z.place (read_here text t.reads) }
  from_end b (gap ps) d = absurd (run_never Token (SeenNext text) (behind_in text) d)
  from_end {o} b (part n ps) {s} {e} {P} d =
      let v = run_the_part Token (SeenNext text) (behind_in text) d in
      let w = from_end (b && is_directive n) ps (retell Token (SeenNext text) (behind_in text) (ap (λ x. anywhere (prologue false (b && x) [] (lay feed ∷ []) (bare_parts ps) ++ tok End [] ∷ [])) (directive_bare n)) (run_laid Token (SeenNext text) (behind_in text) v.runs)) in
      record { mid = w.mid; runs = subst (λ Q. RunsIn text o (anywhere (prologue false b [] [] (part n ps))) (part n ps) s w.mid Q) (sym v.pairs) (within v.spelled w.runs); reads = w.reads }

  -- of a module
  from_module : {o : ℕ} (b : Bool) (ps : Parts) {s e : Token} {P : List Pair} → RunsIn text o (anywhere (module_prologue b (bare_parts ps) ++ tok End [] ∷ [])) ps s e P → ModuleToEnd b o ps s e P
  from_module {o} b none {s} {e} {P} d =
      let t = run_token Token (SeenNext text) (behind_in text) d in
      let z = run_none Token (SeenNext text) (behind_in text) t.runs in
      record { mid = s; runs = subst (λ Q. RunsIn text o [] none s s Q) (sym z.pairs) done; reads = subst (λ k. ReadsHere text End [] s k) z.place (read_here text t.reads) }
  from_module b (gap ps) d = absurd (run_never Token (SeenNext text) (behind_in text) d)
  from_module {o} b (part n ps) {s} {e} {P} d =
      let here = retell Token (SeenNext text) (behind_in text) (ap (λ k. sub (cond (is_module_item k) module_item (cond b (opening false) (item false))) ∷ lay feed ∷ anywhere (module_prologue (b && is_directive (bare n)) (bare_parts ps) ++ tok End [] ∷ [])) (kind_bare n)) d in
      let v = run_the_part Token (SeenNext text) (behind_in text) here in
      let w = from_module (b && is_directive n) ps (retell Token (SeenNext text) (behind_in text) (ap (λ x. anywhere (module_prologue (b && x) (bare_parts ps) ++ tok End [] ∷ [])) (directive_bare n)) (run_laid Token (SeenNext text) (behind_in text) v.runs)) in
      record { mid = w.mid; runs = subst (λ Q. RunsIn text o (anywhere (module_prologue b (part n ps))) (part n ps) s w.mid Q) (sym v.pairs) (within v.spelled (step laid w.runs)); reads = w.reads }

  record ProgramForm (o : ℕ) (n : Tree) (s e : Token) (P : List Pair) : Type 0 where
    parts : Parts
    tree : n ≡ node Program (program_text text.language) plain 0 e.stop parts
    mid : Token
    runs : RunsIn text o (anywhere (items_of text.language parts)) parts s mid P
    reads : ReadsHere text End [] mid e

  -- the items of each language
  record Items (l : Language) (o : ℕ) (ps : Parts) (s e : Token) (P : List Pair) : Type 0 where
    mid : Token
    runs : RunsIn text o (anywhere (items_of l ps)) ps s mid P
    reads : ReadsHere text End [] mid e

  items_told : {o : ℕ} (l : Language) (ps : Parts) {s e : Token} {P : List Pair} → RunsIn text o (anywhere (pieces_of l (bare_parts ps))) ps s e P → Items l o ps s e P
  items_told Base ps d = let v = from_end true ps d in record { mid = v.mid; runs = v.runs; reads = v.reads }
  items_told strict_script ps d = let v = from_end true ps d in record { mid = v.mid; runs = v.runs; reads = v.reads }
  items_told Module ps d = let v = from_module true ps d in record { mid = v.mid; runs = v.runs; reads = v.reads }

  program_form : {o : ℕ} {n : Tree} {s e : Token} {P : List Pair} → is_tree_of text.language n ≡ true → SpellsIn text o script n s e P → ProgramForm o n s e P
  unfolding spellings
  program_form {o} {n = node Program w g st en ps} {s} {e} {P} told (direct qs h (placed nx p) d) =
      let v = way_of h in
      let word : w ≡ program_text text.language = told_text text.language w g st en ps told in
      let pieces : v.spelling.pieces ≡ pieces_of text.language (bare_parts ps) = of text.language (subst (λ x. Among v.spelling (programs x (bare_parts ps))) word v.listed) in
      let u = items_told text.language ps (retell Token (SeenNext text) (behind_in text) (v.is ∙ ap anywhere pieces) d) in
      record {
        parts = ps;
        tree = same_node refl word (lean_flags (bare (node Program w g st en ps)) v.lean) (sym (ap (λ (c : ℕ × ℕ). c.0) p)) (sym (ap (λ (c : ℕ × ℕ). c.1) p)) refl;
        mid = u.mid;
        runs = u.runs;
        reads = u.reads;
      }
    where
      of : {x : Spelling} (l : Language) → Among x (programs (program_text l) (bare_parts ps)) → x.pieces ≡ pieces_of l (bare_parts ps)
      of Base h = pieces_of_one h
      of strict_script h = pieces_of_one h
      of Module h = pieces_of_one h
  program_form {n = node _ w g st en ps} told (direct qs h pl d) = elim ((way_of h).listed) [ ]

  -- the end of the text is seen there
  sees_end : {m e : Token} → ReadsHere text End [] m e → SeesBy text Div (ends until.EndOfText) m
  sees_end {m} {e} r =
      let t = behind_in text e in
      let allowed : IsTrue (allows Div t.class t.text) = (seen_determined text).free Div m t e r.next (ap is_free r.class) in
      let by : ReadBy Token (SeenNext text) (behind_in text) Div m t e = record { next = r.next; allowed = allowed } in
      let end : is_end t ≡ true = ap (λ c. is_end (record t { class = c })) r.class in
      (e, (by, end))

module _ (s e : CursorState) (old new : List Pair) (text : SourceText) (text_is : s.text ≡ text) (last_is : s.last ≡ beginning_in text.language text.bytes) where
  -- whatever items are given
  abbrev pub ItemsComplete : Result Parts Fault → Type 0
  ItemsComplete result = (ps : Parts) (o : ℕ) (to : Token) (P : List Pair) → RunsIn s.text o (anywhere (items_of text.language ps)) ps s.last to P → SeesBy s.text Div (ends until.EndOfText) to → AllOfLanguage s.text ps →
      Agrees (Room s o (parts_height ps) (max_height - 1)) (λ nodes. (nodes ≡ ps) × EndsWith s e old new to P) result

  module _ (o : ℕ) (n : Tree) (P : List Pair) (given : DerivesOpenIn text.language o text.bytes n P) where
    form : ProgramForm text o n (beginning_in text.language text.bytes) given.1 P
    form = program_form text given.0 given.2

    items_run : RunsIn s.text o (anywhere (items_of text.language form.parts)) form.parts s.last form.mid P
    items_run = subst (λ t. RunsIn t o (anywhere (items_of text.language form.parts)) form.parts s.last form.mid P) (sym text_is) (subst (λ m. RunsIn text o (anywhere (items_of text.language form.parts)) form.parts m form.mid P) (sym last_is) form.runs)

    items_end : SeesBy s.text Div (ends until.EndOfText) form.mid
    items_end = subst (λ t. SeesBy t Div (ends until.EndOfText) form.mid) (sym text_is) (sees_end text form.reads)

    items_own : AllOfLanguage s.text form.parts
    items_own =
        let whole : OfLanguage text n = record { none_later = λ b. not_true (has_later n) (subst (λ l. is_tree_of l n ≡ true) b given.0) } in
        subst (λ t. AllOfLanguage t form.parts) (sym text_is) (parts_of_language (subst (OfLanguage text) form.tree whole))

    high : height n ≡ suc (parts_height form.parts)
    high = ap height form.tree

  -- its items are refused
  pub script_refused : {X : Type 0} (Same : Tree → List Pair → X → Type 0) (result : Result X Fault) (fault : Fault) → s.opened ≡ 0 → IsErrAnd result (λ x. x ≡ fault) → ItemsComplete (Err fault) →
      (o : ℕ) (n : Tree) (P : List Pair) → DerivesOpenIn text.language o text.bytes n P → Agrees ((o ≤ max_open) × (height n ≤ max_height)) (Same n P) result
  script_refused Same result fault open_is is complete o n P given =
      agrees_on (Room s o (parts_height (form o n P given).parts) (max_height - 1)) ((o ≤ max_open) × (height n ≤ max_height)) (Same n P) result fault is (complete (form o n P given).parts o (form o n P given).mid P (items_run o n P given) (items_end o n P given) (items_own o n P given))
      (λ w. let tall = high o n P given in let low = w.1 in (subst (λ k. o ≤ max_open - k) (sym open_is) w.0, omega arith))

  -- the whole, as it is returned
  pub script_read : (nodes : Parts) (program : Tree) (kept : List Pair) → IsUtf8 text.bytes → IsPlace text.bytes s.last.stop → old ≡ [] → kept ≡ grouping new → program ≡ program_tree (program_text text.language) nodes (record { start = 0; end = length text.bytes }) → ItemsComplete (Ok nodes) →
      (o : ℕ) (n : Tree) (P : List Pair) → DerivesOpenIn text.language o text.bytes n P → (program ≡ n) × (kept ≡ P)
  script_read nodes program kept utf8 begins old_is kept_is tree complete o n P given =
      let f = form o n P given in
      let agrees = complete f.parts o f.mid P (items_run o n P given) (items_end o n P given) (items_own o n P given) in
      let place : IsPlace text.bytes f.mid.stop = runs_place text utf8 f.runs (subst (λ (m : Token). IsPlace text.bytes m.stop) last_is begins) in
      let stop = (end_read text utf8 f.reads.next f.reads.class place).1 in (
        tree ∙ (λ i. node Program (program_text text.language) plain 0 (sym stop i) (agrees.0 i)) ∙ sym f.tree,
        kept_is ∙ ap grouping (agrees.1.added ∙ ap (λ x. x ++ agrees.1.more) old_is) ∙ agrees.1.pairs,
      )
