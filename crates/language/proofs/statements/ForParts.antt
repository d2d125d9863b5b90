-- The first part of the head of a `for` (ECMA-262 13.7), by what was read there: a declaration, an expression, a target or a pattern.
use Rattle.std.proofs.Common.{◌≡◌, ℕ, Bool, false, List, refl}
use Rattle.std.specs.Prelude.{codes}
use Rattle.tree.specs.declared.kind.Kind.TheVariants.{VariableDeclaration}
use Rattle.tree.specs.declared.kind.Pair.{Pair}
use Rattle.tree.specs.Tree.{Tree, node, kind_of}
use Rattle.language.specs.declared.Rank.{Rank}
use Rattle.language.specs.declared.Rank.TheVariants.{Expression}
use Rattle.language.specs.declared.Start.{Start}
use Rattle.language.specs.Pieces.{expr}
use Rattle.language.specs.Statements.{is_declaration}
use Rattle.language.specs.Token.{Token}
use Rattle.language.specs.Promises.{IsDetermined, Stops}
use Rattle.language.specs.Grammar.{ways, spellings}
use Rattle.language.specs.Derivation.{Spells, direct, grouped}
use Rattle.language.proofs.table.ViewIsComplete.{way_of}
use Rattle.language.proofs.statements.StatementFollow.{idle_stops}
use Rattle.language.proofs.statements.ForHeads.{Worded, Parted, word_stops}

module _ (S : Type 0) (Next : S → Token → S → Type 0) (behind : S → Token) (det : IsDetermined S Next behind) where
  -- nothing goes on before these
  pub before_in : (n : Tree) (e : S) → Worded S Next behind det (codes "in") e → Stops S Next behind Expression false n e
  before_in n e u = word_stops S Next behind det Expression false n refl (λ x b. refl) u

  pub before_of : (n : Tree) (e : S) → Worded S Next behind det (codes "of") e → Stops S Next behind Expression false n e
  before_of n e u = word_stops S Next behind det Expression false n refl (λ x b. refl) u

  pub before_semicolon : (n : Tree) (e : S) → Parted S Next behind det e → Stops S Next behind Expression false n e
  before_semicolon n e u = idle_stops S Next behind det Expression false n refl (λ x b. refl) u.reads

  -- no expression is a declaration
  pub undeclared : {o : ℕ} {y : Rank} {i : Bool} {f : Start} {n : Tree} {s e : S} {P : List Pair} → Spells ways S Next behind o (expr y i f) n s e P → is_declaration (kind_of n) ≡ false
  unfolding spellings Rattle.language.specs.Expressions.expressions
  undeclared (grouped p d q) = undeclared d
  undeclared {n = node VariableDeclaration w g st en ps} (direct qs h pl d) = elim ((way_of h).listed) [ ]
  undeclared {n = node _ w g st en ps} (direct qs h pl d) = refl
