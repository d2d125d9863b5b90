-- What the rules find in a script.
use Rattle.std.specs.Prelude.{◌≡◌, ℕ, Bool, List}
use Rattle.std.specs.List.Sorted.{IsPermutation, IsSorted}
use Rattle.tokens.specs.Reading.{any_goal}
use Rattle.tree.specs.declared.kind.Pair.{Pair}
use Rattle.tree.specs.declared.kind.Span.{Span}
use Rattle.tree.specs.Tree.{Tree}
use Rattle.language.specs.Token.{Token}
use Rattle.language.specs.Pieces.{script}
use Rattle.language.specs.Grammar.{ways}
use Rattle.language.specs.declared.Language.{Language}
use Rattle.language.specs.Languages.{Seen, beginning_in, seen_in}
use Rattle.language.specs.Places.{NextIn}
use Rattle.language.specs.Derivation.{Spells}
use Rattle.language.specs.Layout.{has_number, wrapped_rows}
use Rattle.wrap_flags.specs.Flags.{is_flagged}
use Rattle.paren_planner.specs.PairNodes.{pair_rows, spans_but_needed}
use Rattle.scopes.specs.Found.{found}
use Rattle.rules.specs.Reports.{Report}
use Rattle.rules.specs.Order.{report_cmp}
use Rattle.rules.specs.Settings.{Settings}
use Rattle.rules.specs.Rules.{View}

-- All grouping pairs of a script's derivation but the innermost of each node that the fixer wraps.
pub record IsExtra (language : Language) (text : List ℕ) (n : Tree) (P : List Pair) (extra : List Span) : Type 0 where
  pub wrapped : List Bool
  pub is_wrapped : (r : ℕ) → is_flagged wrapped r ≡ has_number (wrapped_rows n script 1) r
  pub but_needed : (o : ℕ) (last : Token) (d : Spells ways Token (Seen Token (NextIn text any_goal) language) (seen_in language) o script n (beginning_in language text) last P) → extra ≡ spans_but_needed wrapped P (pair_rows ways Token (Seen Token (NextIn text any_goal) language) (seen_in language) d 1)

-- What rules look at in a script: its tree, its text, its scopes, its extra pairs, and the settings.
pub record IsView (language : Language) (text : List ℕ) (n : Tree) (P : List Pair) (settings : Settings) (view : View) : Type 0 where
  pub of_tree : view.tree ≡ n
  pub of_text : view.text ≡ text
  pub of_scopes : view.found ≡ found n
  pub of_extra : IsExtra language text n P view.extra
  pub of_settings : view.settings ≡ settings

-- All that the rules find in that view, by start, rule, end and text.
pub record Reports (finds : View → List Report) (language : Language) (text : List ℕ) (n : Tree) (P : List Pair) (settings : Settings) (reports : List Report) : Type 0 where
  pub view : View
  pub is_view : IsView language text n P settings view
  pub all : IsPermutation (finds view) reports
  pub sorted : IsSorted report_cmp reports
