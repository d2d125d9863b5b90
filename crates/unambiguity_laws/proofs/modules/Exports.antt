-- What stands behind `export` in a module (ExportDeclaration; 16.2.3 of the 13th edition).
use Rattle.std.proofs.Common.{◌≡◌, ℕ, Bool, true, false, cond, List, [], ◌∷◌, ◌++◌, refl, sym, ap, ◌∙◌, subst}
use Rattle.std.specs.Prelude.{codes}
use Rattle.tokens.specs.declared.token.TokenClass.TheVariants.{IdentifierName, Punctuator}
use Rattle.tree.specs.declared.kind.Kind.{Kind}
use Rattle.tree.specs.declared.kind.Kind.TheVariants.{FunctionDeclaration, ClassDeclaration, VariableDeclaration, ExportNamedDeclaration, ExportDefaultDeclaration, ExportAllDeclaration, ExportSpecifier, ImportDeclaration}
use Rattle.tree.specs.declared.kind.Flags.{Flags}
use Rattle.tree.specs.declared.kind.Form.{Form}
use Rattle.tree.specs.declared.kind.Pair.{Pair}
use Rattle.tree.specs.Tree.{Tree, node, Parts, none, part, gap, plain, bare, bare_parts, kind_of}
use Rattle.language.specs.declared.Rank.TheVariants.{Expression, Assignment}
use Rattle.language.specs.declared.Start.TheVariants.{Any, Statement}
use Rattle.language.specs.FirstPart.{goes_left, is_braced, begins_with_brace, first_begins_with_brace}
use Rattle.language.specs.Vocabulary.{is_identifier}
use Rattle.language.specs.Edges.{edge}
use Rattle.language.specs.Pieces.{Role, Piece, expr, item, default_item, Spelling, tok, sub, absent, ending, sign, term, sp, PieceOf, settle_piece}
use Rattle.language.specs.Statements.{from_source, export_list, exported_declaration, exported_default, module_items, default_items, is_module_item}
use Rattle.language.specs.Token.{Token}
use Rattle.language.specs.Promises.{IsDetermined}
use Rattle.language.specs.Grammar.{ways, spellings}
use Rattle.language.specs.Derivation.{Among, Reads, Spells, direct, Runs, Step, Placed}
use Rattle.language.proofs.table.Begins.{goes_to, retell}
use Rattle.language.proofs.table.Beginnings.{form_flags}
use Rattle.language.proofs.table.BareEdges.{edge_bare}
use Rattle.language.proofs.table.ViewIsComplete.{way_of}
use Rattle.language.proofs.table.StatementWays.{pieces_of_one}
use Rattle.language.proofs.climbing.FunctionsAndClasses.{class_behind}
use Rattle.language.proofs.climbing.SingleStarts.{class_parts}
use Rattle.language.proofs.list_loops.FirstPieces.{run_none, run_token, run_laid, run_never, run_the_part, run_the_gap}
use Rattle.language.proofs.list_loops.PiecesSoFar.{run_end}
use Rattle.std.proofs.lemmas.List.{append-nil}
use Rattle.unambiguity_laws.proofs.statements.FunctionForms.{FunctionWords, function_words}
use Rattle.unambiguity_laws.proofs.statements.StatementEnds.{end_behind}
use Rattle.unambiguity_laws.proofs.modules.ModuleWords.{Leaf, module_leaf, From, from_form}
use Rattle.unambiguity_laws.proofs.modules.Specifiers.{lean_node}
use Rattle.unambiguity_laws.proofs.modules.SpecifierLists.{Listed, Exports, export_names}

-- a declaration that may be exported by its names
abbrev pub is_exported : Kind → Bool
is_exported FunctionDeclaration = true
is_exported ClassDeclaration = true
is_exported VariableDeclaration = true
is_exported _ = false

mutual
  -- whether a tree begins with a brace doesn't depend on places
  brace_bare : (n : Tree) → begins_with_brace (bare n) ≡ begins_with_brace n
  brace_bare (node k w g s e ps) = ap (λ x. cond (goes_left k g) x (is_braced k)) (first_brace_bare ps)

  first_brace_bare : (ps : Parts) → first_begins_with_brace (bare_parts ps) ≡ first_begins_with_brace ps
  first_brace_bare none = refl
  first_brace_bare (part n ps) = brace_bare n
  first_brace_bare (gap ps) = refl

module _ (S : Type 0) (Next : S → Token → S → Type 0) (behind : S → Token) (det : IsDetermined S Next behind) where
  -- a function or class whose name may be missing
  pub data DefaultItem (o : ℕ) (n : Tree) (s e : S) (P : List Pair) : Type 0 where
    a_function : {x : Form} {st en : ℕ} {qs : Parts} → n ≡ node FunctionDeclaration [] (form_flags x) st en qs → Placed S Next behind default_item n s e → FunctionWords S Next behind det x o qs s e P → DefaultItem o n s e P
    a_class : {st en : ℕ} {qs : Parts} {x : S} {t : Token} → n ≡ node ClassDeclaration [] plain st en qs → Placed S Next behind default_item n s e → Reads S Next behind IdentifierName (codes "class") s t x → Runs ways S Next behind o (class_behind qs) qs x e P → DefaultItem o n s e P

  -- behind `default`: that, or an expression
  pub data Default (o : ℕ) (s e : S) (ps : Parts) (P : List Pair) : Type 0 where
    an_item : {n : Tree} → DefaultItem o n s e P → ps ≡ part n none → Default o s e ps P
    a_value : {n : Tree} {k : S} → Spells ways S Next behind o (expr Assignment true (cond (begins_with_brace n) Any Statement)) n s k P → Step S Next behind (end_behind (edge n)) k e → ps ≡ part n none → Default o s e ps P

  -- behind `*`: a source, perhaps with a name for all
  pub data All (s e : S) (ps : Parts) (P : List Pair) : Type 0 where
    without_name : {qs : Parts} → From S Next behind det s e qs P → ps ≡ gap qs → All s e ps P
    with_name : {n : Tree} {x k : S} {t : Token} {qs : Parts} → Reads S Next behind IdentifierName (codes "as") s t x → Leaf S Next behind det n x k [] → From S Next behind det k e qs P → ps ≡ part n qs → All s e ps P

  -- behind `export`
  pub data Export (o : ℕ) (s e : S) (ps : Parts) (P : List Pair) : Kind → Type 0 where
    names : {x : S} {t : Token} {qs : Parts} → Reads S Next behind Punctuator (codes "{") s t x → Listed S Next behind det ExportSpecifier (Exports S Next behind det) x e qs P → ps ≡ gap qs → Export o s e ps P ExportNamedDeclaration
    declared : {n : Tree} → Spells ways S Next behind o (item false) n s e P → is_exported (kind_of n) ≡ true → ps ≡ part n (gap none) → Export o s e ps P ExportNamedDeclaration
    by_default : {x : S} {t : Token} → Reads S Next behind IdentifierName (codes "default") s t x → Default o x e ps P → Export o s e ps P ExportDefaultDeclaration
    all : {x : S} {t : Token} → Reads S Next behind Punctuator (codes "*") s t x → All x e ps P → Export o s e ps P ExportAllDeclaration

  -- with the word
  pub data ExportAt (o : ℕ) (s e : S) (ps : Parts) (P : List Pair) (K : Kind) : Type 0 where
    export_at : {x : S} {t : Token} → Reads S Next behind IdentifierName (codes "export") s t x → Export o x e ps P K → ExportAt o s e ps P K

  exported_kind : {o : ℕ} {rs : List (PieceOf Role)} {ps : Parts} (k : Kind) {s e : S} {P : List Pair} → Runs ways S Next behind o (goes_to Expression true Any (exported_declaration k ∷ []) ++ rs) ps s e P → is_exported k ≡ true
  exported_kind FunctionDeclaration d = refl
  exported_kind ClassDeclaration d = refl
  exported_kind VariableDeclaration d = refl
  exported_kind _ d = absurd (run_never S Next behind d)

  -- a declaration and a gap
  declaration : {o : ℕ} (k : Kind) {w : List ℕ} {g : Flags} {st en : ℕ} {rs : Parts} {s e : S} {P : List Pair} → is_exported k ≡ true → Runs ways S Next behind o (goes_to Expression true Any (exported_declaration k ∷ absent ∷ [])) (part (node k w g st en rs) (gap none)) s e P →
      Export o s e (part (node k w g st en rs) (gap none)) P ExportNamedDeclaration
  declaration {o} k {w} {g} {st} {en} {rs} {s} {e} {P} h d = of (retell S Next behind (ap (λ (q : PieceOf Role). q ∷ absent ∷ []) (piece k h)) d)
    where
      piece : (k : Kind) → is_exported k ≡ true → settle_piece Expression true Any (exported_declaration k) ≡ sub (item false)
      piece FunctionDeclaration h = refl
      piece ClassDeclaration h = refl
      piece VariableDeclaration h = refl
      piece _ h = cc

      of : Runs ways S Next behind o (sub (item false) ∷ absent ∷ []) (part (node k w g st en rs) (gap none)) s e P → Export o s e (part (node k w g st en rs) (gap none)) P ExportNamedDeclaration
      of d =
          let a = run_the_part S Next behind d in
          let z = run_none S Next behind (run_the_gap S Next behind a.runs) in
          declared (subst (λ v. Spells ways S Next behind o (item false) (node k w g st en rs) s v P) z.place (subst (λ v. Spells ways S Next behind o (item false) (node k w g st en rs) s a.mid v) (sym (a.pairs ∙ ap (λ v. a.one ++ v) z.pairs ∙ append-nil a.one)) a.spelled)) h refl

  function_item : {o : ℕ} {w : List ℕ} {g : Flags} {st en : ℕ} {ps : Parts} {s e : S} {P : List Pair} → Spells ways S Next behind o default_item (node FunctionDeclaration w g st en ps) s e P → DefaultItem o (node FunctionDeclaration w g st en ps) s e P
  unfolding spellings
  function_item {w = w} {g} {st} {en} {ps} (direct qs h pl d) =
      let v = way_of h in
      a_function (lean_node FunctionDeclaration w g st en ps refl v.lean) pl (function_words S Next behind det g.form (retell S Next behind (v.is ∙ ap (goes_to Expression true Any) (pieces_of_one v.listed)) d))

  class_item : {o : ℕ} {w : List ℕ} {g : Flags} {st en : ℕ} (ps : Parts) {s e : S} {P : List Pair} → Spells ways S Next behind o default_item (node ClassDeclaration w g st en ps) s e P → DefaultItem o (node ClassDeclaration w g st en ps) s e P
  unfolding spellings
  class_item {o} {w} {g} {st} {en} ps {s} {e} {P} (direct qs h pl d) = let v = way_of h in of ps (lean_node ClassDeclaration w g st en ps refl v.lean) pl (retell S Next behind (v.is ∙ ap (goes_to Expression true Any) (pieces_of_one v.listed)) d)
    where
      of : {n : Tree} (rs : Parts) → n ≡ node ClassDeclaration [] plain st en rs → Placed S Next behind default_item n s e → Runs ways S Next behind o (class_parts rs) rs s e P → DefaultItem o n s e P
      of none tree pl d = let a = run_token S Next behind d in a_class tree pl a.reads a.runs
      of (part n none) tree pl d = let a = run_token S Next behind d in a_class tree pl a.reads a.runs
      of (part n (part m ps)) tree pl d = let a = run_token S Next behind d in a_class tree pl a.reads a.runs
      of (part n (gap ps)) tree pl d = let a = run_token S Next behind d in a_class tree pl a.reads a.runs
      of (gap none) tree pl d = let a = run_token S Next behind d in a_class tree pl a.reads a.runs
      of (gap (part m ps)) tree pl d = let a = run_token S Next behind d in a_class tree pl a.reads a.runs
      of (gap (gap ps)) tree pl d = let a = run_token S Next behind d in a_class tree pl a.reads a.runs

  sole_part : {o : ℕ} {a : Role} {n : Tree} {s e : S} {P : List Pair} → Runs ways S Next behind o (sub a ∷ []) (part n none) s e P → Spells ways S Next behind o a n s e P
  sole_part {o} {a} {n} {s} {e} {P} d =
      let b = run_the_part S Next behind d in
      let z = run_none S Next behind b.runs in
      subst (λ v. Spells ways S Next behind o a n s v P) z.place (subst (λ v. Spells ways S Next behind o a n s b.mid v) (sym (b.pairs ∙ ap (λ v. b.one ++ v) z.pairs ∙ append-nil b.one)) b.spelled)

  -- what `export default` exports
  default_at : {o : ℕ} (n : Tree) {s e : S} {P : List Pair} → Runs ways S Next behind o (goes_to Expression true Any (exported_default (bare n))) (part n none) s e P → Default o s e (part n none) P
  default_at (node FunctionDeclaration w g st en ps) d = an_item (function_item (sole_part d)) refl
  default_at (node ClassDeclaration w g st en ps) d = an_item (class_item ps (sole_part d)) refl
  default_at {o} (node k w g st en ps) {s} {e} {P} d =
      let n : Tree = node k w g st en ps in
      let a = run_the_part S Next behind d in
      let z = run_end S Next behind det a.runs in
      a_value (subst (λ b. Spells ways S Next behind o (expr Assignment true (cond b Any Statement)) n s a.mid P) (brace_bare n) (subst (λ v. Spells ways S Next behind o (expr Assignment true (cond (begins_with_brace (bare n)) Any Statement)) n s a.mid v) (sym (a.pairs ∙ ap (λ v. a.one ++ v) z.pairs ∙ append-nil a.one)) a.spelled))
      (subst (λ x. Step S Next behind (end_behind x) a.mid e) (edge_bare n) z.ends) refl

  -- what stands behind the word, by the kind of the node
  pub export_parts : {o : ℕ} (k : Kind) (ps : Parts) {x : Spelling} {s e : S} {P : List Pair} → is_module_item k ≡ true → (k ≡ ImportDeclaration → ⊥) → Among x (module_items k (bare_parts ps)) → Runs ways S Next behind o (goes_to Expression true Any x.pieces) ps s e P → ExportAt o s e ps P k
  export_parts ExportNamedDeclaration (part (node k w g st en rs) (gap none)) i other h d =
      let a = run_token S Next behind (retell S Next behind (ap (goes_to Expression true Any) (pieces_of_one h)) d) in
      let b = run_laid S Next behind a.runs in
      export_at a.reads (declaration k (exported_kind k b) b)
  export_parts ExportNamedDeclaration (gap ps) i other h d =
      let a = run_token S Next behind (retell S Next behind (ap (goes_to Expression true Any) (pieces_of_one h)) d) in
      let b = run_token S Next behind (run_the_gap S Next behind (run_laid S Next behind a.runs)) in
      export_at a.reads (names b.reads (export_names S Next behind det ps b.runs) refl)
  export_parts ExportNamedDeclaration none i other h d = elim h [ ]
  export_parts ExportNamedDeclaration (part n none) i other h d = elim h [ ]
  export_parts ExportNamedDeclaration (part n (part m ps)) i other h d = elim h [ ]
  export_parts ExportNamedDeclaration (part n (gap (part m ps))) i other h d = elim h [ ]
  export_parts ExportNamedDeclaration (part n (gap (gap ps))) i other h d = elim h [ ]
  export_parts ExportDefaultDeclaration (part n none) i other h d =
      let a = run_token S Next behind (retell S Next behind (ap (goes_to Expression true Any) (pieces_of_one h)) d) in
      let b = run_token S Next behind (run_laid S Next behind a.runs) in
      export_at a.reads (by_default b.reads (default_at n (run_laid S Next behind b.runs)))
  export_parts ExportDefaultDeclaration none i other h d = elim h [ ]
  export_parts ExportDefaultDeclaration (gap ps) i other h d = elim h [ ]
  export_parts ExportDefaultDeclaration (part n (part m ps)) i other h d = elim h [ ]
  export_parts ExportDefaultDeclaration (part n (gap ps)) i other h d = elim h [ ]
  export_parts ExportAllDeclaration (gap (part n none)) i other h d =
      let a = run_token S Next behind (retell S Next behind (ap (goes_to Expression true Any) (pieces_of_one h)) d) in
      let b = run_token S Next behind (run_the_gap S Next behind (run_laid S Next behind a.runs)) in
      export_at a.reads (all b.reads (without_name (from_form S Next behind det b.runs) refl))
  export_parts ExportAllDeclaration (part n (part m none)) {s = s} {e} {P} i other h d =
      let a = run_token S Next behind (retell S Next behind (ap (goes_to Expression true Any) (pieces_of_one h)) d) in
      let b = run_token S Next behind (run_laid S Next behind a.runs) in
      let c = run_token S Next behind (run_laid S Next behind b.runs) in
      let l = run_the_part S Next behind (run_laid S Next behind c.runs) in
      let f = module_leaf S Next behind det (is_identifier (kind_of (bare n))) l.spelled in
      export_at a.reads (all b.reads (with_name c.reads (subst (λ v. Leaf S Next behind det n c.mid l.mid v) f.pairs f) (subst (λ v. From S Next behind det l.mid e (part m none) v) (sym (l.pairs ∙ ap (λ v. v ++ l.more) f.pairs)) (from_form S Next behind det l.runs)) refl))
  export_parts ExportAllDeclaration none i other h d = elim h [ ]
  export_parts ExportAllDeclaration (gap none) i other h d = elim h [ ]
  export_parts ExportAllDeclaration (gap (gap ps)) i other h d = elim h [ ]
  export_parts ExportAllDeclaration (gap (part n (part m ps))) i other h d = elim h [ ]
  export_parts ExportAllDeclaration (gap (part n (gap ps))) i other h d = elim h [ ]
  export_parts ExportAllDeclaration (part n none) i other h d = elim h [ ]
  export_parts ExportAllDeclaration (part n (gap ps)) i other h d = elim h [ ]
  export_parts ExportAllDeclaration (part n (part m (part l ps))) i other h d = elim h [ ]
  export_parts ExportAllDeclaration (part n (part m (gap ps))) i other h d = elim h [ ]
  export_parts ImportDeclaration ps i other h d = absurd (other refl)
  export_parts _ ps i other h d = cc
