-- The names between the braces of an import, as they are read one by one (ECMA-262, 13th edition, 16.2.2).
use Rattle.std.proofs.Common.{◌≡◌, ℕ, List, [], ◌∷◌, ◌++◌, refl, sym, ◌∙◌, subst}
use Rattle.std.specs.Prelude.{codes}
use Rattle.tokens.specs.declared.token.TokenClass.TheVariants.{Punctuator}
use Rattle.tree.specs.declared.kind.Kind.TheVariants.{ImportSpecifier}
use Rattle.tree.specs.declared.kind.Flags.{Flags}
use Rattle.tree.specs.Tree.{Tree, node, Parts, none, part, gap, push, join, bare_parts}
use Rattle.tree.proofs.Shapes.{join-none, join-push}
use Rattle.language.specs.Pieces.{specifier, Piece, sign, separator, is_none, listed_before}
use Rattle.language.specs.Statements.{from_source, imported}
use Rattle.language.specs.Token.{Token}
use Rattle.language.specs.Derivation.{step, within, token, with_mark, without_mark, laid}
use Rattle.token_cursor.specs.SourceText.{SourceText}
use Rattle.token_cursor.specs.Seen.{ReadsHere}
use Rattle.recursive_descent.specs.Soundness.{RunsIn, anywhere}
use Rattle.recursive_descent.specs.Spelled.{SpellsIn}

-- the pieces from a name on, up to the source
abbrev pub names_on : Parts → List Piece
names_on parts = listed_before imported (sign "}" ∷ from_source) parts

none_bare : (ps : Parts) → is_none (bare_parts ps) ≡ is_none ps
none_bare none = refl
none_bare (part n ps) = refl
none_bare (gap ps) = refl

-- places change none of them
pub names_bare : (ps : Parts) → names_on (bare_parts ps) ≡ names_on ps
names_bare none = refl
names_bare (gap ps) = refl
names_bare (part n none) = refl
names_bare (part n (gap ps)) = refl
names_bare (part (node k w g st en ns) (part m ps)) = λ i. (imported (node k w g st en ns) ∷ separator k (none_bare ps i)) ++ names_bare (part m ps) i

module _ (text : SourceText) where
  -- names from a place up to another, each with its comma: what is read behind them goes on as they do
  abbrev pub NamesSoFar : Parts → Token → Token → Type 0
  NamesSoFar ps s a = (o : ℕ) (qs : Parts) (source : Tree) (to : Token) → RunsIn text o (anywhere (names_on (push qs source))) (push qs source) a to [] →
      RunsIn text o (anywhere (names_on (push (join ps qs) source))) (push (join ps qs) source) s to []

  pub no_names : (s : Token) → NamesSoFar none s s
  no_names s o qs source to d = d

  -- one name before others, or before the source
  ahead : {o : ℕ} {a b c to : Token} {w : List ℕ} {g : Flags} {st en : ℕ} {ns : Parts} (qs : Parts) (source : Tree) → SpellsIn text o specifier (node ImportSpecifier w g st en ns) a b [] → ReadsHere text Punctuator (codes ",") b c →
      RunsIn text o (anywhere (names_on (push qs source))) (push qs source) c to [] → RunsIn text o (anywhere (names_on (part (node ImportSpecifier w g st en ns) (push qs source)))) (part (node ImportSpecifier w g st en ns) (push qs source)) a to []
  ahead none source n comma d = within n (step (with_mark comma) d)
  ahead (part m none) source n comma d = within n (step (token comma) (step laid d))
  ahead (part m (part k qs)) source n comma d = within n (step (token comma) (step laid d))
  ahead (part m (gap qs)) source n comma d = within n (step (token comma) (step laid d))
  ahead (gap qs) source n comma (step x d) = elim x [ ]

  -- one more, with its comma
  pub one_more_name : {s a b c : Token} {w : List ℕ} {g : Flags} {st en : ℕ} {ns : Parts} (ps : Parts) → NamesSoFar ps s a → ((k : ℕ) → SpellsIn text k specifier (node ImportSpecifier w g st en ns) a b []) → ReadsHere text Punctuator (codes ",") b c →
      NamesSoFar (push ps (node ImportSpecifier w g st en ns)) s c
  one_more_name {s = s} {w = w} {g} {st} {en} {ns} ps before n comma o qs source to d =
      subst (λ (rs : Parts). RunsIn text o (anywhere (names_on (push rs source))) (push rs source) s to []) (sym (join-push ps qs (node ImportSpecifier w g st en ns)))
      (before o (part (node ImportSpecifier w g st en ns) qs) source to (ahead qs source (n o) comma d))

  -- the last one, without a comma
  pub last_name : {o : ℕ} {s a b e to : Token} {w : List ℕ} {g : Flags} {st en : ℕ} {ns : Parts} (ps : Parts) (source : Tree) → NamesSoFar ps s a → ((k : ℕ) → SpellsIn text k specifier (node ImportSpecifier w g st en ns) a b []) → ReadsHere text Punctuator (codes "}") b e →
      RunsIn text o (anywhere from_source) (part source none) e to [] → RunsIn text o (anywhere (names_on (push (push ps (node ImportSpecifier w g st en ns)) source))) (push (push ps (node ImportSpecifier w g st en ns)) source) s to []
  last_name {o} {s = s} {to = to} {w = w} {g} {st} {en} {ns} ps source before n brace d =
      subst (λ (rs : Parts). RunsIn text o (anywhere (names_on (push rs source))) (push rs source) s to []) (sym (join-push ps none (node ImportSpecifier w g st en ns)) ∙ join-none (push ps (node ImportSpecifier w g st en ns)))
      (before o (part (node ImportSpecifier w g st en ns) none) source to (within (n o) (step without_mark (step (token brace) d))))

  -- or none behind a comma
  pub names_closed : {o : ℕ} {s a e to : Token} (ps : Parts) (source : Tree) → NamesSoFar ps s a → ReadsHere text Punctuator (codes "}") a e → RunsIn text o (anywhere from_source) (part source none) e to [] →
      RunsIn text o (anywhere (names_on (push ps source))) (push ps source) s to []
  names_closed {o} {s = s} {to = to} ps source before brace d =
      subst (λ (rs : Parts). RunsIn text o (anywhere (names_on (push rs source))) (push rs source) s to []) (join-none ps) (before o none source to (step (token brace) d))
