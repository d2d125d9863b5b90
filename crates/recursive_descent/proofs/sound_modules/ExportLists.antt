-- The names between the braces of an export, as they are read one by one (ECMA-262, 13th edition, 16.2.3).
use Rattle.std.proofs.Common.{ℕ, List, [], ◌∷◌, sym, ◌∙◌, subst}
use Rattle.std.specs.Prelude.{codes}
use Rattle.tokens.specs.declared.token.TokenClass.TheVariants.{Punctuator}
use Rattle.tree.specs.declared.kind.Kind.TheVariants.{ExportSpecifier}
use Rattle.tree.specs.declared.kind.Flags.{Flags}
use Rattle.tree.specs.Tree.{Tree, node, Parts, none, part, gap, push, join}
use Rattle.tree.proofs.Shapes.{join-none, join-push}
use Rattle.language.specs.Pieces.{specifier, Piece, absent, ending, of_export}
use Rattle.language.specs.Statements.{from_source, export_list}
use Rattle.language.specs.Token.{Token}
use Rattle.language.specs.Derivation.{step, within, token, with_mark, without_mark, laid}
use Rattle.token_cursor.specs.SourceText.{SourceText}
use Rattle.token_cursor.specs.Seen.{ReadsHere}
use Rattle.recursive_descent.specs.Soundness.{RunsIn, anywhere}
use Rattle.recursive_descent.specs.Spelled.{SpellsIn}

-- what stands behind the braces: a source, or none
pub data BehindBraces : Parts → List Piece → Type 0 where
  a_source : {source : Tree} → BehindBraces (part source none) from_source
  no_source : BehindBraces (gap none) (absent ∷ ending of_export ∷ [])

module _ (text : SourceText) where
  -- names from a place up to another, each with its comma: what is read behind them goes on as they do
  abbrev pub ExportsSoFar : Parts → Token → Token → Type 0
  ExportsSoFar ps s a = (o : ℕ) (qs others : Parts) (rest : List Piece) (to : Token) → BehindBraces others rest → RunsIn text o (anywhere (export_list (join qs others))) (join qs others) a to [] →
      RunsIn text o (anywhere (export_list (join (join ps qs) others))) (join (join ps qs) others) s to []

  pub no_exports : (s : Token) → ExportsSoFar none s s
  no_exports s o qs others rest to b d = d

  -- one name before others, or before the closing brace
  ahead : {o : ℕ} {a b c to : Token} {w : List ℕ} {g : Flags} {st en : ℕ} {ns others : Parts} {rest : List Piece} (qs : Parts) → BehindBraces others rest → SpellsIn text o specifier (node ExportSpecifier w g st en ns) a b [] → ReadsHere text Punctuator (codes ",") b c →
      RunsIn text o (anywhere (export_list (join qs others))) (join qs others) c to [] → RunsIn text o (anywhere (export_list (part (node ExportSpecifier w g st en ns) (join qs others)))) (part (node ExportSpecifier w g st en ns) (join qs others)) a to []
  ahead none a_source n comma d = within n (step (with_mark comma) d)
  ahead none no_source n comma d = within n (step (with_mark comma) d)
  ahead (part m none) a_source n comma d = within n (step (token comma) (step laid d))
  ahead (part m none) no_source n comma d = within n (step (token comma) (step laid d))
  ahead (part m (part k qs)) b n comma d = within n (step (token comma) (step laid d))
  ahead (part m (gap qs)) b n comma d = within n (step (token comma) (step laid d))
  ahead (gap none) a_source n comma (step x d) = elim x [ ]
  ahead (gap none) no_source n comma (step x d) = elim x [ ]
  ahead (gap (part m qs)) b n comma (step x d) = elim x [ ]
  ahead (gap (gap qs)) b n comma (step x d) = elim x [ ]

  -- one more, with its comma
  pub one_more_export : {s a b c : Token} {w : List ℕ} {g : Flags} {st en : ℕ} {ns : Parts} (ps : Parts) → ExportsSoFar ps s a → ((k : ℕ) → SpellsIn text k specifier (node ExportSpecifier w g st en ns) a b []) → ReadsHere text Punctuator (codes ",") b c →
      ExportsSoFar (push ps (node ExportSpecifier w g st en ns)) s c
  one_more_export {s = s} {w = w} {g} {st} {en} {ns} ps before n comma o qs others rest to b d =
      subst (λ (rs : Parts). RunsIn text o (anywhere (export_list (join rs others))) (join rs others) s to []) (sym (join-push ps qs (node ExportSpecifier w g st en ns)))
      (before o (part (node ExportSpecifier w g st en ns) qs) others rest to b (ahead qs b (n o) comma d))

  -- the closing brace behind a comma, or behind the opening brace
  pub exports_closed : {o : ℕ} {s a e to : Token} {others : Parts} {rest : List Piece} (ps : Parts) → BehindBraces others rest → ExportsSoFar ps s a → ReadsHere text Punctuator (codes "}") a e → RunsIn text o (anywhere rest) others e to [] →
      RunsIn text o (anywhere (export_list (join ps others))) (join ps others) s to []
  exports_closed {o} {s = s} {to = to} {others} {rest} ps b before brace d =
      subst (λ (rs : Parts). RunsIn text o (anywhere (export_list (join rs others))) (join rs others) s to []) (join-none ps) (before o none others rest to b (closed b brace d))
    where
      closed : {o : ℕ} {a e to : Token} {others : Parts} {rest : List Piece} → BehindBraces others rest → ReadsHere text Punctuator (codes "}") a e → RunsIn text o (anywhere rest) others e to [] → RunsIn text o (anywhere (export_list others)) others a to []
      closed a_source brace d = step (token brace) d
      closed no_source brace d = step (token brace) d

  -- behind the last name, without a comma
  pub last_export : {o : ℕ} {s a b e to : Token} {w : List ℕ} {g : Flags} {st en : ℕ} {ns others : Parts} {rest : List Piece} (ps : Parts) → BehindBraces others rest → ExportsSoFar ps s a → ((k : ℕ) → SpellsIn text k specifier (node ExportSpecifier w g st en ns) a b []) →
      ReadsHere text Punctuator (codes "}") b e → RunsIn text o (anywhere rest) others e to [] → RunsIn text o (anywhere (export_list (join (push ps (node ExportSpecifier w g st en ns)) others))) (join (push ps (node ExportSpecifier w g st en ns)) others) s to []
  last_export {o} {s = s} {to = to} {w = w} {g} {st} {en} {ns} {others} {rest} ps b before n brace d =
      subst (λ (rs : Parts). RunsIn text o (anywhere (export_list (join rs others))) (join rs others) s to []) (sym (join-push ps none (node ExportSpecifier w g st en ns)) ∙ join-none (push ps (node ExportSpecifier w g st en ns)))
      (before o (part (node ExportSpecifier w g st en ns) none) others rest to b (closing b (n o) brace d))
    where
      closing : {o : ℕ} {a c e to : Token} {others : Parts} {rest : List Piece} → BehindBraces others rest → SpellsIn text o specifier (node ExportSpecifier w g st en ns) a c [] → ReadsHere text Punctuator (codes "}") c e → RunsIn text o (anywhere rest) others e to [] →
          RunsIn text o (anywhere (export_list (part (node ExportSpecifier w g st en ns) others))) (part (node ExportSpecifier w g st en ns) others) a to []
      closing a_source n brace d = within n (step without_mark (step (token brace) d))
      closing no_source n brace d = within n (step without_mark (step (token brace) d))
