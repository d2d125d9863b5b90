-- Names between the braces of an import or export, and what stands behind these (NamedImports, NamedExports; 16.2 of the 13th edition).
use Rattle.std.proofs.Common.{◌≡◌, ℕ, Bool, true, false, List, [], ◌∷◌, ◌++◌, refl, sym, ap, ◌∙◌, subst}
use Rattle.std.specs.Prelude.{codes}
use Rattle.std.proofs.lemmas.Bool.{false≢true}
use Rattle.tokens.specs.declared.token.TokenClass.TheVariants.{IdentifierName, Punctuator}
use Rattle.tree.specs.declared.kind.Kind.{Kind}
use Rattle.tree.specs.declared.kind.Kind.TheVariants.{ImportSpecifier, ExportSpecifier}
use Rattle.tree.specs.declared.kind.Pair.{Pair}
use Rattle.tree.specs.Tree.{Tree, node, Parts, none, part, gap, bare_parts}
use Rattle.language.specs.declared.Rank.TheVariants.{Expression}
use Rattle.language.specs.declared.Start.TheVariants.{Any}
use Rattle.language.specs.Vocabulary.{is}
use Rattle.language.specs.Edges.{may_omit_semicolon}
use Rattle.language.specs.Pieces.{Role, PieceOf, specifier, of_export, sign, listed_before, sub, may, ending}
use Rattle.language.specs.Statements.{from_source, imported, export_list}
use Rattle.language.specs.Token.{Token}
use Rattle.language.specs.Promises.{IsDetermined, is_free}
use Rattle.language.specs.Grammar.{ways}
use Rattle.language.specs.Derivation.{Reads, Runs, Step, explicit, implicit, with_mark, without_mark}
use Rattle.language.proofs.table.Begins.{goes_to}
use Rattle.language.proofs.table.ForDeclarationWays.{two_signs}
use Rattle.language.proofs.climbing.Conditionals.{same_sign}
use Rattle.language.proofs.covers.CoverReadings.{name_or_sign}
use Rattle.language.proofs.list_loops.FirstPieces.{run_token, run_laid, run_never, run_the_part, run_the_gap}
use Rattle.language.proofs.list_loops.PiecesSoFar.{run_step, run_end}
use Rattle.unambiguity_laws.proofs.statements.StatementEnds.{some_goal, end_once}
use Rattle.unambiguity_laws.proofs.modules.ModuleWords.{From, from_form, from_same}
use Rattle.unambiguity_laws.proofs.modules.Specifiers.{Specified, import_form, export_form, specified_no_sign, specified_same}
use Rattle.tree.specs.declared.kind.Flags.{Flags}

-- before `from` no `;` may be missing
cut : (l : Token) (st en : ℕ) (b : Bool) → may_omit_semicolon of_export l (record { class = IdentifierName; text = codes "from"; start = st; stop = en; after_break = b }) ≡ true → ⊥
cut l st en true h = false≢true h
cut l st en false h = false≢true h

module _ (S : Type 0) (Next : S → Token → S → Type 0) (behind : S → Token) (det : IsDetermined S Next behind) where
  -- names up to the closing brace, and what stands behind it
  pub data Listed (K : Kind) (End : S → S → Parts → List Pair → Type 0) : S → S → Parts → List Pair → Type 0 where
    close : {s e x : S} {t : Token} {ps : Parts} {P : List Pair} → Reads S Next behind Punctuator (codes "}") s t x → End x e ps P → Listed K End s e ps P
    item_more : {n : Tree} {s e k x : S} {t : Token} {ps : Parts} {P : List Pair} → Specified S Next behind det K n s k → Reads S Next behind Punctuator (codes ",") k t x → Listed K End x e ps P → Listed K End s e (part n ps) P
    item_last : {n : Tree} {s e k x : S} {t : Token} {ps : Parts} {P : List Pair} → Specified S Next behind det K n s k → Reads S Next behind Punctuator (codes "}") k t x → End x e ps P → Listed K End s e (part n ps) P

  -- an item, and what stands behind it
  record Item (K : Kind) (o : ℕ) (qs : List (PieceOf Role)) (n : Tree) (ps : Parts) (s e : S) (P : List Pair) : Type 0 where
    mid : S
    item : Specified S Next behind det K n s mid
    runs : Runs ways S Next behind o qs ps mid e P

  import_item : {o : ℕ} {qs : List (PieceOf Role)} {w : List ℕ} {g : Flags} {st en : ℕ} {rs ps : Parts} {s e : S} {P : List Pair} → Runs ways S Next behind o (sub specifier ∷ qs) (part (node ImportSpecifier w g st en rs) ps) s e P → Item ImportSpecifier o qs (node ImportSpecifier w g st en rs) ps s e P
  import_item {o} {qs} {rs = rs} {ps} {e = e} d =
      let a = run_the_part S Next behind d in
      let f = import_form S Next behind det rs a.spelled in
      record { mid = a.mid; item = f.specified; runs = subst (λ v. Runs ways S Next behind o qs ps a.mid e v) (sym (a.pairs ∙ ap (λ v. v ++ a.more) f.pairs)) a.runs }

  export_item : {o : ℕ} {qs : List (PieceOf Role)} {w : List ℕ} {g : Flags} {st en : ℕ} {rs ps : Parts} {s e : S} {P : List Pair} → Runs ways S Next behind o (sub specifier ∷ qs) (part (node ExportSpecifier w g st en rs) ps) s e P → Item ExportSpecifier o qs (node ExportSpecifier w g st en rs) ps s e P
  export_item {o} {qs} {rs = rs} {ps} {e = e} d =
      let a = run_the_part S Next behind d in
      let f = export_form S Next behind det rs a.spelled in
      record { mid = a.mid; item = f.specified; runs = subst (λ v. Runs ways S Next behind o qs ps a.mid e v) (sym (a.pairs ∙ ap (λ v. v ++ a.more) f.pairs)) a.runs }

  -- the last item, perhaps with a comma behind it
  last_item : {K : Kind} {End : S → S → Parts → List Pair → Type 0} {n : Tree} {s k m x e : S} {t : Token} {ps : Parts} {P : List Pair} → Specified S Next behind det K n s k → Step S Next behind (may (codes ",")) k m → Reads S Next behind Punctuator (codes "}") m t x → End x e ps P → Listed K End s e (part n ps) P
  last_item i without_mark r z = item_last i r z
  last_item i (with_mark c) r z = item_more i c (close r z)

  -- what stands behind the braces of an export: a source, or the end
  pub data Exports (s e : S) : Parts → List Pair → Type 0 where
    with_source : {ps : Parts} {P : List Pair} → From S Next behind det s e ps P → Exports s e ps P
    own_names : Step S Next behind (ending of_export) s e → Exports s e (gap none) []

  pub import_list : {o : ℕ} (ps : Parts) {s e : S} {P : List Pair} → Runs ways S Next behind o (goes_to Expression true Any (listed_before imported (sign "}" ∷ from_source) (bare_parts ps))) ps s e P → Listed ImportSpecifier (From S Next behind det) s e ps P
  import_list none d = absurd (run_never S Next behind d)
  import_list (gap ps) d = absurd (run_never S Next behind d)
  import_list (part n none) d = let a = run_token S Next behind d in close a.reads (from_form S Next behind det a.runs)
  import_list (part n (gap ps)) d = absurd (run_never S Next behind d)
  import_list (part (node ImportSpecifier w g st en rs) (part m none)) d =
      let i = import_item d in
      let c = run_step S Next behind det without_mark i.runs in
      let a = run_token S Next behind c.runs in
      last_item i.item c.one a.reads (from_form S Next behind det a.runs)
  import_list (part (node ImportSpecifier w g st en rs) (part m (gap ps))) d =
      let i = import_item d in
      let c = run_token S Next behind i.runs in
      absurd (run_never S Next behind (run_laid S Next behind c.runs))
  import_list (part (node ImportSpecifier w g st en rs) (part m (part l ps))) d =
      let i = import_item d in
      let c = run_token S Next behind i.runs in
      item_more i.item c.reads (import_list (part m (part l ps)) (run_laid S Next behind c.runs))
  import_list (part (node _ w g st en rs) (part m ps)) d = absurd (run_never S Next behind d)

  pub export_names : {o : ℕ} (ps : Parts) {s e : S} {P : List Pair} → Runs ways S Next behind o (goes_to Expression true Any (export_list (bare_parts ps))) ps s e P → Listed ExportSpecifier Exports s e ps P
  export_names none d = absurd (run_never S Next behind d)
  export_names (gap none) {s} {e} d =
      let a = run_token S Next behind d in
      let z = run_end S Next behind det (run_the_gap S Next behind a.runs) in
      subst (λ v. Listed ExportSpecifier Exports s e (gap none) v) (sym z.pairs) (close a.reads (own_names z.ends))
  export_names (gap (part n ps)) d = absurd (run_never S Next behind d)
  export_names (gap (gap ps)) d = absurd (run_never S Next behind d)
  export_names (part n none) d = let a = run_token S Next behind d in close a.reads (with_source (from_form S Next behind det a.runs))
  export_names (part (node ExportSpecifier w g st en rs) (gap none)) {s} {e} {P} d =
      let i = export_item d in
      let c = run_step S Next behind det without_mark i.runs in
      let a = run_token S Next behind c.runs in
      let z = run_end S Next behind det (run_the_gap S Next behind a.runs) in
      subst (λ v. Listed ExportSpecifier Exports s e (part (node ExportSpecifier w g st en rs) (gap none)) v) (sym z.pairs) (last_item i.item c.one a.reads (own_names z.ends))
  export_names (part (node ExportSpecifier w g st en rs) (part m none)) d =
      let i = export_item d in
      let c = run_step S Next behind det without_mark i.runs in
      let a = run_token S Next behind c.runs in
      last_item i.item c.one a.reads (with_source (from_form S Next behind det a.runs))
  export_names (part (node ExportSpecifier w g st en rs) (gap (part m ps))) d =
      let i = export_item d in
      let c = run_token S Next behind i.runs in
      absurd (run_never S Next behind (run_laid S Next behind c.runs))
  export_names (part (node ExportSpecifier w g st en rs) (gap (gap ps))) d =
      let i = export_item d in
      let c = run_token S Next behind i.runs in
      absurd (run_never S Next behind (run_laid S Next behind c.runs))
  export_names (part (node ExportSpecifier w g st en rs) (part m (part l ps))) d =
      let i = export_item d in
      let c = run_token S Next behind i.runs in
      item_more i.item c.reads (export_names (part m (part l ps)) (run_laid S Next behind c.runs))
  export_names (part (node ExportSpecifier w g st en rs) (part m (gap ps))) d =
      let i = export_item d in
      let c = run_token S Next behind i.runs in
      item_more i.item c.reads (export_names (part m (gap ps)) (run_laid S Next behind c.runs))
  export_names (part (node _ w g st en rs) (part m ps)) d = absurd (run_never S Next behind d)
  export_names (part (node _ w g st en rs) (gap ps)) d = absurd (run_never S Next behind d)

  comma_brace : {A : Type 0} {s k k' : S} {t t' : Token} → Reads S Next behind Punctuator (codes ",") s t k → Reads S Next behind Punctuator (codes "}") s t' k' → A
  comma_brace r r' = absurd (false≢true (ap (λ w. is w ",") (two_signs S Next behind det refl refl r' r).0))

  -- where what stands behind the brace is the only thing there, so is the list
  pub listed_same : {K : Kind} {End : S → S → Parts → List Pair → Type 0} → ((x e e' : S) (ps ps' : Parts) (P P' : List Pair) → End x e ps P → End x e' ps' P' → (e' ≡ e) × (ps' ≡ ps) × (P' ≡ P)) → {s e e' : S} {ps ps' : Parts} {P P' : List Pair} →
      Listed K End s e ps P → Listed K End s e' ps' P' → (e' ≡ e) × (ps' ≡ ps) × (P' ≡ P)
  listed_same {End = End} ends {e = e} {e'} {ps = ps} {ps'} {P = P} {P'} (close {x = x} r z) (close {x = x'} r' z') = ends x e e' ps ps' P P' z (subst (λ c. End c e' ps' P') (same_sign S Next behind det r' r refl).1 z')
  listed_same ends (close r z) (item_more i c l) = specified_no_sign S Next behind det refl i r
  listed_same ends (close r z) (item_last i c l) = specified_no_sign S Next behind det refl i r
  listed_same ends (item_more i c l) (close r z) = specified_no_sign S Next behind det refl i r
  listed_same ends (item_last i c l) (close r z) = specified_no_sign S Next behind det refl i r
  listed_same {K} {End} ends {e' = e'} {P' = P'} (item_more i c l) (item_more {k = k'} {x = x'} {t = t'} {ps = qs} i' c' l') =
      let one = specified_same S Next behind det i refl c i' refl c' in
      let there = (same_sign S Next behind det (subst (λ v. Reads S Next behind Punctuator (codes ",") v t' x') one.0 c') c refl).1 in
      let rest = listed_same ends l (subst (λ v. Listed K End v e' qs P') there l') in
      (rest.0, (λ a. part (one.1 a) (rest.1 a)), rest.2)
  listed_same {K} {End} ends {e = e} {e'} {P = P} {P'} (item_last {x = x} {ps = ps} i c z) (item_last {k = k'} {x = x'} {t = t'} {ps = qs} i' c' z') =
      let one = specified_same S Next behind det i refl c i' refl c' in
      let there = (same_sign S Next behind det (subst (λ v. Reads S Next behind Punctuator (codes "}") v t' x') one.0 c') c refl).1 in
      let rest = ends x e e' ps qs P P' z (subst (λ v. End v e' qs P') there z') in
      (rest.0, (λ a. part (one.1 a) (rest.1 a)), rest.2)
  listed_same ends (item_more i c l) (item_last {k = k'} {x = x'} {t = t'} i' c' z') =
      let one = specified_same S Next behind det i refl c i' refl c' in
      comma_brace c (subst (λ v. Reads S Next behind Punctuator (codes "}") v t' x') one.0 c')
  listed_same ends (item_last {k = k} {x = x} {t = t} i c z) (item_more i' c' l') =
      let one = specified_same S Next behind det i' refl c' i refl c in
      comma_brace c' (subst (λ v. Reads S Next behind Punctuator (codes "}") v t x) one.0 c)

  -- an export without a source doesn't end before `from`
  no_from : {A : Type 0} {s k e : S} {t : Token} → Reads S Next behind IdentifierName (codes "from") s t k → Step S Next behind (ending of_export) s e → A
  no_from r (explicit z) = absurd (name_or_sign S Next behind det refl r z)
  no_from {s = s} {k} {t = t} r (implicit {t = u} {e = m} nx may_end) =
      let g = some_goal u.class u.text in
      let same : u ≡ t = (det.same g.0 s u t m k nx r.next g.1 (det.free g.0 s t k r.next (ap is_free r.class))).0 in
      let first = ap (λ c. may_omit_semicolon of_export (behind s) (record { class = c; text = t.text; start = t.start; stop = t.stop; after_break = t.after_break })) r.class in
      let second = ap (λ w. may_omit_semicolon of_export (behind s) (record { class = IdentifierName; text = w; start = t.start; stop = t.stop; after_break = t.after_break })) r.text in
      absurd (cut (behind s) t.start t.stop t.after_break (sym second ∙ sym first ∙ ap (may_omit_semicolon of_export (behind s)) (sym same) ∙ may_end))

  pub exports_same : (x e e' : S) (ps ps' : Parts) (P P' : List Pair) → Exports x e ps P → Exports x e' ps' P' → (e' ≡ e) × (ps' ≡ ps) × (P' ≡ P)
  exports_same x e e' ps ps' P P' (with_source f) (with_source f') = from_same S Next behind det f f'
  exports_same x e e' _ _ _ _ (own_names z) (own_names z') = (end_once S Next behind det z z', refl, refl)
  exports_same x e e' ps _ P _ (with_source f) (own_names z) = no_from f.reads z
  exports_same x e e' _ ps' _ P' (own_names z) (with_source f) = no_from f.reads z
