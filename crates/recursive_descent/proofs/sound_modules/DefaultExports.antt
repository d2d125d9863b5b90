-- What `export default` exports: a function or a class whose name may be missing, or a value (ECMA-262, 13th edition, 16.2.3).
use Rattle.std.proofs.Common.{◌≡◌, ℕ, Bool, true, false, not, cond, List, [], ◌∷◌, refl, sym, ap, ◌∙◌, subst}
use Rattle.std.specs.Prelude.{codes, ◌&&◌}
use Rattle.std.proofs.lemmas.Bool.{false≢true}
use Rattle.std.proofs.lemmas.List.{append-nil}
use Rattle.tokens.specs.declared.token.TokenClass.TheVariants.{IdentifierName}
use Rattle.tokens.specs.declared.token.Goal.TheVariants.{Div}
use Rattle.tree.specs.declared.kind.Kind.{Kind}
use Rattle.tree.specs.declared.kind.Kind.TheVariants.{FunctionDeclaration, ClassDeclaration, ExportDefaultDeclaration}
use Rattle.tree.specs.declared.kind.Flags.{Flags}
use Rattle.tree.specs.declared.kind.Form.{Form}
use Rattle.tree.specs.declared.kind.Form.TheVariants as form
use Rattle.tree.specs.declared.kind.Pair.{Pair}
use Rattle.tree.specs.Tree.{Tree, node, plain, Parts, none, part, gap, bare, bare_parts, kind_of}
use Rattle.tree.specs.Uses.{is_lean}
use Rattle.language.specs.declared.Rank.{Rank}
use Rattle.language.specs.declared.Rank.TheVariants.{Expression, Assignment, Primary}
use Rattle.language.specs.declared.Start.{Start}
use Rattle.language.specs.declared.Start.TheVariants.{Any, Statement}
use Rattle.language.specs.FirstPart.{goes_left, is_braced, begins_with_brace, first_begins_with_brace}
use Rattle.language.specs.Vocabulary.{among}
use Rattle.language.specs.Pieces.{expr, default_item, module_item, Spelling, at, put, sp, term, ending, behind}
use Rattle.language.specs.Expressions.{expressions, function_words, function_pieces, class_pieces}
use Rattle.language.specs.Statements.{exported_default, end_of}
use Rattle.language.specs.Edges.{edge}
use Rattle.language.specs.Token.{Token, same_class}
use Rattle.language.specs.Grammar.{spellings}
use Rattle.language.specs.Derivation.{first, Reads, Step, direct, grouped, placed, step, within, done, token, laid}
use Rattle.language.proofs.table.Begins.{retell}
use Rattle.language.proofs.table.Productions.{way_from, runs_can}
use Rattle.language.proofs.table.ViewIsComplete.{way_of}
use Rattle.language.proofs.lower_bound.Domination.{settled}
use Rattle.language.proofs.climbing.BraceStarts.{default_spelled}
use Rattle.token_cursor.specs.SourceText.{SourceText, SeenNext, behind_in}
use Rattle.token_cursor.specs.Seen.{ReadsHere, MissesBy}
use Rattle.token_cursor.proofs.SeenTokens.{seen_determined}
use Rattle.token_cursor.proofs.TokensAhead.{name_by}
use Rattle.parser_tables.specs.StatementStarts.{NoAsyncFunction}
use Rattle.recursive_descent.specs.Soundness.{RunsIn, anywhere, Begins}
use Rattle.recursive_descent.specs.SoundnessOfStatements.{behind_words, after_word}
use Rattle.recursive_descent.specs.Spelled.{SpellsIn}
use Rattle.recursive_descent.specs.ModuleItems.{begins_default, ExportBehind}
use Rattle.recursive_descent.proofs.complete_expressions.Agreement.{read_here}
use Rattle.recursive_descent.proofs.sound_expressions.KeywordExpressions.{function_bare, class_bare, whole_function}
use Rattle.recursive_descent.proofs.sound_modules.ModuleEnds.{item_spelled}

function_lean : (x : Form) (st en : ℕ) (ps : Parts) → is_lean (bare (node FunctionDeclaration [] (record plain { form = x }) st en ps)) ≡ true
function_lean form.Init st en ps = refl
function_lean _ st en ps = refl

module _ (text : SourceText) {o : ℕ} {s m e : Token} {P : List Pair} where
  pub default_function : {from : ℕ} (x : Form) → Begins text from s → RunsIn text o (anywhere (function_words x)) none s m [] → (ps : Parts) → RunsIn text o (anywhere (behind_words ps)) ps m e P → SpellsIn text o default_item (node FunctionDeclaration [] (record plain { form = x }) from e.stop ps) s e P
  unfolding spellings
  default_function {from} x begins words ps run =
      let made : Tree = node FunctionDeclaration [] (record plain { form = x }) from e.stop ps in
      let way : Spelling = at Primary (function_pieces x (bare_parts ps)) in
      let whole : RunsIn text o (anywhere way.pieces) ps s e P = retell Token (SeenNext text) (behind_in text) (ap anywhere (function_bare x ps)) (whole_function x words run) in
      direct (settled default_item way) (way_from default_item made way (function_lean x from e.stop ps) first (runs_can Token (SeenNext text) (behind_in text) Expression true Any way.pieces whole)) (placed begins.next (ap (λ (v : ℕ). (v, e.stop)) begins.start)) whole

  pub default_class : {from : ℕ} → Begins text from s → ReadsHere text IdentifierName (codes "class") s m → (ps : Parts) → RunsIn text o (anywhere (after_word (class_pieces ps))) ps m e P → SpellsIn text o default_item (node ClassDeclaration [] plain from e.stop ps) s e P
  unfolding spellings
  default_class {from} begins word ps run =
      let made : Tree = node ClassDeclaration [] plain from e.stop ps in
      let way : Spelling = at Primary (class_pieces (bare_parts ps)) in
      let whole : RunsIn text o (anywhere way.pieces) ps s e P = step (token word) (step laid (retell Token (SeenNext text) (behind_in text) (ap anywhere (class_bare ps)) run)) in
      direct (settled default_item way) (way_from default_item made way refl first (runs_can Token (SeenNext text) (behind_in text) Expression true Any way.pieces whole)) (placed begins.next (ap (λ (v : ℕ). (v, e.stop)) begins.start)) whole

-- no value is a declaration
abbrev declares_default : Kind → Bool
declares_default FunctionDeclaration = true
declares_default ClassDeclaration = true
declares_default _ = false

mutual
  -- whether a tree begins with a brace doesn't depend on places
  pub brace_bare : (n : Tree) → begins_with_brace (bare n) ≡ begins_with_brace n
  brace_bare (node k w g s e ps) = ap (λ x. cond (goes_left k g) x (is_braced k)) (first_brace_bare ps)

  first_brace_bare : (ps : Parts) → first_begins_with_brace (bare_parts ps) ≡ first_begins_with_brace ps
  first_brace_bare none = refl
  first_brace_bare (part n ps) = brace_bare n
  first_brace_bare (gap ps) = refl

value_pieces : (k : Kind) (w : List ℕ) (g : Flags) (st en : ℕ) (ns : Parts) → declares_default k ≡ false →
    exported_default (bare (node k w g st en ns)) ≡ put (expr Assignment true (cond (begins_with_brace (bare (node k w g st en ns))) Any Statement)) ∷ end_of (edge (bare (node k w g st en ns))) ∷ []
value_pieces FunctionDeclaration w g st en ns h = absurd (false≢true (sym h))
value_pieces ClassDeclaration w g st en ns h = absurd (false≢true (sym h))
value_pieces _ w g st en ns h = refl

module _ (text : SourceText) where
  pub value_kind : {o : ℕ} {y : Rank} {i : Bool} {f : Start} {n : Tree} {s e : Token} {P : List Pair} → SpellsIn text o (expr y i f) n s e P → declares_default (kind_of n) ≡ false
  unfolding spellings expressions
  value_kind (grouped l d r) = value_kind d
  value_kind {n = node FunctionDeclaration w g st en ps} (direct qs h pl d) = elim ((way_of h).listed) [ ]
  value_kind {n = node ClassDeclaration w g st en ps} (direct qs h pl d) = elim ((way_of h).listed) [ ]
  value_kind {n = node _ w g st en ps} (direct qs h pl d) = refl

  -- where neither `function` nor `class` stands, nor an async function
  value_spelled : {o : ℕ} {n : Tree} {s e : Token} {P : List Pair} → MissesBy text Div begins_default s → NoAsyncFunction text s → SpellsIn text o (expr Assignment true Any) n s e P → SpellsIn text o (expr Assignment true (cond (begins_with_brace n) Any Statement)) n s e P
  value_spelled {s = s} missed no_async d = default_spelled Token (SeenNext text) (behind_in text) (seen_determined text) word async d
    where
      word : (w : List ℕ) (t : Token) (m : Token) → Reads Token (SeenNext text) (behind_in text) IdentifierName w s t m → not (among w ("function" ∷ "class" ∷ [])) ≡ true
      word w t m r = ap not (ap (λ v. among v ("function" ∷ "class" ∷ [])) (sym r.text) ∙ sym (ap (λ c. same_class IdentifierName c && among t.text ("function" ∷ "class" ∷ [])) r.class) ∙ missed t m (name_by text r))

      async : (t v : Token) (m k : Token) → Reads Token (SeenNext text) (behind_in text) IdentifierName (codes "async") s t m → Reads Token (SeenNext text) (behind_in text) IdentifierName (codes "function") m v k → v.after_break ≡ false → ⊥
      async t v m k a b line = no_async (record { mid = m; async = read_here text a; behind = k; function = read_here text b; same_line = ap (λ (x : Token). x.after_break) ((seen_determined text).last m v k b.next) ∙ line })

  -- as an export
  pub exported_item : {o from : ℕ} {m e : Token} {P : List Pair} (k : Kind) (w : List ℕ) (g : Flags) (st en : ℕ) (ns : Parts) → declares_default k ≡ true → SpellsIn text o default_item (node k w g st en ns) m e P →
      ExportBehind text IdentifierName (codes "default") from (node ExportDefaultDeclaration [] plain from e.stop (part (node k w g st en ns) none)) o m e P
  exported_item {o} {from} {m} {e} {P} FunctionDeclaration w g st en ns h d b k r stands default_word =
      subst (λ v. SpellsIn text o module_item (node ExportDefaultDeclaration [] plain v e.stop (part (node FunctionDeclaration w g st en ns) none)) b e P) stands
      (subst (λ v. SpellsIn text o module_item (node ExportDefaultDeclaration [] plain k.start e.stop (part (node FunctionDeclaration w g st en ns) none)) b e v) (append-nil P)
      (item_spelled text {m = k} (at Primary (term "export" ∷ sp ∷ term "default" ∷ sp ∷ put default_item ∷ [])) r.next refl first refl (step (token r) (step laid (step (token default_word) (step laid (within d done)))))))
  exported_item {o} {from} {m} {e} {P} ClassDeclaration w g st en ns h d b k r stands default_word =
      subst (λ v. SpellsIn text o module_item (node ExportDefaultDeclaration [] plain v e.stop (part (node ClassDeclaration w g st en ns) none)) b e P) stands
      (subst (λ v. SpellsIn text o module_item (node ExportDefaultDeclaration [] plain k.start e.stop (part (node ClassDeclaration w g st en ns) none)) b e v) (append-nil P)
      (item_spelled text {m = k} (at Primary (term "export" ∷ sp ∷ term "default" ∷ sp ∷ put default_item ∷ [])) r.next refl first refl (step (token r) (step laid (step (token default_word) (step laid (within d done)))))))
  exported_item _ w g st en ns h d b k r stands default_word = absurd (false≢true h)

  -- a value and its end
  pub value_item : {o from : ℕ} {m j e : Token} {P : List Pair} (n : Tree) → MissesBy text Div begins_default m → NoAsyncFunction text m → SpellsIn text o (expr Assignment true Any) n m j P → Step Token (SeenNext text) (behind_in text) (ending (behind (edge (bare n)))) j e →
      ExportBehind text IdentifierName (codes "default") from (node ExportDefaultDeclaration [] plain from e.stop (part n none)) o m e P
  value_item {o} {from} {m} {j} {e} {P} (node k' w g st en ns) missed no_async d ends b k r stands default_word =
      let n = node k' w g st en ns in
      let value = put (expr Assignment true (cond (begins_with_brace (bare n)) Any Statement)) ∷ end_of (edge (bare n)) ∷ [] in
      let here : SpellsIn text o (expr Assignment true (cond (begins_with_brace (bare n)) Any Statement)) n m j P = subst (λ x. SpellsIn text o (expr Assignment true (cond x Any Statement)) n m j P) (sym (brace_bare n)) (value_spelled missed no_async d) in
      let run : RunsIn text o (anywhere value) (part n none) m e P = subst (λ v. RunsIn text o (anywhere value) (part n none) m e v) (append-nil P) (within here (step ends done)) in
      let qs = term "export" ∷ sp ∷ term "default" ∷ sp ∷ exported_default (bare n) in
      let whole : RunsIn text o (anywhere qs) (part n none) b e P = step (token r) (step laid (step (token default_word) (step laid (retell Token (SeenNext text) (behind_in text) (ap anywhere (sym (value_pieces k' w g st en ns (value_kind d)))) run)))) in
      subst (λ v. SpellsIn text o module_item (node ExportDefaultDeclaration [] plain v e.stop (part n none)) b e P) stands
      (item_spelled text {m = k} (at Primary qs) r.next refl first (runs_can Token (SeenNext text) (behind_in text) Expression true Any qs whole) whole)
