-- Specifiers in their braces, from one to the next, of an import or an export (ECMA-262, 13th edition, 16.2).
use Rattle.std.proofs.Common.{◌≡◌, ℕ, true, [], ◌∷◌, refl, sym, ap, ◌∙◌, subst}
use Rattle.std.specs.Prelude.{codes}
use Rattle.tokens.specs.declared.token.TokenClass.TheVariants.{Punctuator}
use Rattle.token_cursor.specs.CursorState.{CursorState}
use Rattle.tree.specs.declared.kind.Kind.{Kind}
use Rattle.tree.specs.declared.kind.Kind.TheVariants.{ImportSpecifier, ExportSpecifier}
use Rattle.tree.specs.Tree.{Tree, node, Parts, none, part, gap, push, join, kind_of}
use Rattle.tree.proofs.Shapes.{join-none, push-join, join-assoc}
use Rattle.language.specs.Pieces.{specifier, sign}
use Rattle.language.specs.Statements.{named_imports, export_list}
use Rattle.language.specs.Token.{Token}
use Rattle.language.specs.Derivation.{step, token}
use Rattle.token_cursor.specs.SourceText.{SourceText}
use Rattle.token_cursor.specs.Seen.{ReadsHere}
use Rattle.recursive_descent.specs.Soundness.{RunsIn, anywhere}
use Rattle.recursive_descent.specs.Spelled.{SpellsIn}
use Rattle.recursive_descent.specs.ModuleItems.{is_listed, SpecifierAt, SpecifiersAt}
use Rattle.recursive_descent.proofs.sound_modules.SpecifierLists.{NamesSoFar, no_names, one_more_name, last_name, names_closed}
use Rattle.recursive_descent.proofs.sound_modules.ExportLists.{ExportsSoFar, no_exports, one_more_export, exports_closed, last_export, a_source, no_source}

-- specifiers that were read behind the opening brace, each with its comma
abbrev NamesRead : SourceText → Kind → Parts → Token → Token → Type 0
NamesRead text ImportSpecifier ps s a = NamesSoFar text ps s a
NamesRead text ExportSpecifier ps s a = ExportsSoFar text ps s a
NamesRead text _ ps s a = Unit {0}

pub record SpecifiersRead (text : SourceText) (kind : Kind) (before nodes : Parts) (s a : Token) : Type 0 where
  pub parts : Parts
  pub nodes_are : nodes ≡ join before parts
  pub mid : Token
  pub brace : ReadsHere text Punctuator (codes "{") s mid
  pub read : NamesRead text kind parts mid a

-- and what they are in the end
abbrev pub SpecifiersDone : Kind → CursorState → CursorState → Parts → Parts → Type 0
SpecifiersDone kind s e before nodes = (ps : Parts) × (nodes ≡ join before ps) × SpecifiersAt kind s e ps

module _ (text : SourceText) where
  nothing_read : (kind : Kind) (m : Token) → NamesRead text kind none m m
  nothing_read ImportSpecifier m = no_names text m
  nothing_read ExportSpecifier m = no_exports text m
  nothing_read _ m = tt

  pub no_specifiers : (kind : Kind) (before : Parts) {s m : Token} → ReadsHere text Punctuator (codes "{") s m → SpecifiersRead text kind before before s m
  no_specifiers kind before {m = m} brace = record { parts = none; nodes_are = sym (join-none before); mid = m; brace = brace; read = nothing_read kind m }

  pushed : (before parts nodes more : Parts) (n : Tree) → nodes ≡ join before parts → more ≡ push nodes n → more ≡ join before (push parts n)
  pushed before parts nodes more n is added = added ∙ ap (λ ps. push ps n) is ∙ push-join (join before parts) n ∙ join-assoc before parts (part n none) ∙ ap (join before) (sym (push-join parts n))

  -- one more with its comma
  more_read : (kind : Kind) (n : Tree) (ps : Parts) (m a b c : Token) → NamesRead text kind ps m a → (is_listed kind ≡ true → (kind_of n ≡ kind) × ((o : ℕ) → SpellsIn text o specifier n a b [])) → ReadsHere text Punctuator (codes ",") b c → NamesRead text kind (push ps n) m c
  more_read ImportSpecifier (node k w g st en ns) ps m a b c before its comma =
      let u = its refl in
      subst (λ k. NamesSoFar text (push ps (node k w g st en ns)) m c) (sym u.0) (one_more_name text ps before (λ o. subst (λ k. SpellsIn text o specifier (node k w g st en ns) a b []) u.0 (u.1 o)) comma)
  more_read ExportSpecifier (node k w g st en ns) ps m a b c before its comma =
      let u = its refl in
      subst (λ k. ExportsSoFar text (push ps (node k w g st en ns)) m c) (sym u.0) (one_more_export text ps before (λ o. subst (λ k. SpellsIn text o specifier (node k w g st en ns) a b []) u.0 (u.1 o)) comma)
  more_read _ n ps m a b c before its comma = tt

module _ (s : CursorState) (kind : Kind) (before nodes : Parts) {a : Token} (r : SpecifiersRead s.text kind before nodes s.last a) where
  pub one_more_specifier : (b e : CursorState) (more : Parts) (n : Tree) {c : Token} → b.text ≡ s.text → b.last ≡ a → SpecifierAt kind b e n → more ≡ push nodes n → ReadsHere s.text Punctuator (codes ",") e.last c → SpecifiersRead s.text kind before more s.last c
  one_more_specifier b e more n {c} text place d added comma = record {
    parts = push r.parts n;
    nodes_are = pushed s.text before r.parts nodes more n r.nodes_are added;
    mid = r.mid;
    brace = r.brace;
    read = more_read s.text kind n r.parts r.mid a e.last c r.read (λ h. let u = d h in (u.0, λ o. subst (λ x. SpellsIn s.text o specifier n x e.last []) place (subst (λ x. SpellsIn x o specifier n b.last e.last []) text (u.1 o)))) comma;
  }

  -- the brace
  pub specifiers_closed : (e : CursorState) → ReadsHere s.text Punctuator (codes "}") a e.last → SpecifiersDone kind s e before nodes
  specifiers_closed e brace = (r.parts, r.nodes_are, of kind r.read)
    where
      of : (K : Kind) → NamesRead s.text K r.parts r.mid a → SpecifiersAt K s e r.parts
      of ImportSpecifier read = λ source o to d. step (token r.brace) (names_closed s.text r.parts source read brace d)
      of ExportSpecifier read = (λ source o to. (
        (λ d. subst (λ (ps : Parts). RunsIn s.text o (anywhere (sign "{" ∷ export_list ps)) ps s.last to []) (sym (push-join r.parts source)) (step (token r.brace) (exports_closed s.text r.parts a_source read brace d))),
        λ d. step (token r.brace) (exports_closed s.text r.parts no_source read brace d),
      ))
      of _ read = tt

  -- behind the last without a comma
  pub last_specifier : (b e z : CursorState) (more : Parts) (n : Tree) → b.text ≡ s.text → b.last ≡ a → SpecifierAt kind b e n → more ≡ push nodes n → ReadsHere s.text Punctuator (codes "}") e.last z.last → SpecifiersDone kind s z before more
  last_specifier b e z more n text place d added brace = (push r.parts n, pushed s.text before r.parts nodes more n r.nodes_are added, of kind n r.read (λ h. let u = d h in (u.0, λ o. subst (λ x. SpellsIn s.text o specifier n x e.last []) place (subst (λ x. SpellsIn x o specifier n b.last e.last []) text (u.1 o)))))
    where
      of : (K : Kind) (n : Tree) → NamesRead s.text K r.parts r.mid a → (is_listed K ≡ true → (kind_of n ≡ K) × ((o : ℕ) → SpellsIn s.text o specifier n a e.last [])) → SpecifiersAt K s z (push r.parts n)
      of ImportSpecifier (node k w g st en ns) read its = λ source o to d.
          let u = its refl in
          subst (λ k. RunsIn s.text o (anywhere (named_imports (push (push r.parts (node k w g st en ns)) source))) (push (push r.parts (node k w g st en ns)) source) s.last to []) (sym u.0)
          (step (token r.brace) (last_name s.text r.parts source read (λ o. subst (λ k. SpellsIn s.text o specifier (node k w g st en ns) a e.last []) u.0 (u.1 o)) brace d))
      of ExportSpecifier (node k w g st en ns) read its = λ source o to.
          let u = its refl in
          let spelled : (o : ℕ) → SpellsIn s.text o specifier (node ExportSpecifier w g st en ns) a e.last [] = λ o. subst (λ k. SpellsIn s.text o specifier (node k w g st en ns) a e.last []) u.0 (u.1 o) in (
            (λ d. subst (λ (ps : Parts). RunsIn s.text o (anywhere (sign "{" ∷ export_list ps)) ps s.last to []) (sym (push-join (push r.parts (node k w g st en ns)) source))
                (subst (λ k. RunsIn s.text o (anywhere (sign "{" ∷ export_list (join (push r.parts (node k w g st en ns)) (part source none)))) (join (push r.parts (node k w g st en ns)) (part source none)) s.last to []) (sym u.0) (step (token r.brace) (last_export s.text r.parts a_source read spelled brace d)))),
            λ d. subst (λ k. RunsIn s.text o (anywhere (sign "{" ∷ export_list (join (push r.parts (node k w g st en ns)) (gap none)))) (join (push r.parts (node k w g st en ns)) (gap none)) s.last to []) (sym u.0) (step (token r.brace) (last_export s.text r.parts no_source read spelled brace d)),
          )
      of _ n read its = tt
