-- What a walk says of a node's parts from a place on.
use Rattle.std.specs.Prelude.{◌≡◌, ℕ, zero, suc, Bool, true, false, not, cond, ◌&&◌, nat_eq, Option, List, [], ◌++◌, IfSome}
use Rattle.tree.specs.declared.kind.Kind.{Kind}
use Rattle.tree.specs.declared.kind.Kind.TheVariants.{Identifier, Literal, ThisExpression, VariableDeclaration}
use Rattle.language.specs.Vocabulary.{is, literal_class}
use Rattle.tree.specs.Tree.{Tree, Parts, part_at}
use Rattle.early_errors.specs.declared.around.Context.{Context as Code}
use Rattle.early_errors.specs.Around.{Around, labels_loop}
use Rattle.early_errors.specs.Names.{Named, var_names}
use Rattle.early_errors.specs.Literals.{is_reg_exp}
use Rattle.early_errors.specs.Early.{Error, errors_within}
use Rattle.name_tables.specs.PatternParts.{at_part}

-- so many lists, from a place on
abbrev pub ranged : {B : Type 0} → (ℕ → List B) → ℕ → ℕ → List B
ranged f i zero = []
ranged f i (suc n) = f i ++ ranged f (suc i) n

-- the errors of a part, by its place
abbrev pub errors_at : Around → Around → Parts → ℕ → List Error
errors_at y z parts i = at_part (errors_within (cond (nat_eq i 0) y z)) (part_at parts i)

-- a declaration by `var`
abbrev pub is_var : Kind → List ℕ → Bool
is_var VariableDeclaration text = is text "var"
is_var _ text = false

abbrev pub vars_at : Parts → ℕ → List Named
vars_at parts i = at_part var_names (part_at parts i)

abbrev pub range_errors : Around → Around → Parts → ℕ → ℕ → List Error
range_errors y z parts from n = ranged (errors_at y z parts) from n

abbrev pub range_vars : Parts → ℕ → ℕ → List Named
range_vars parts from n = ranged (vars_at parts) from n

-- what is known of a label's statement holds of the node
abbrev pub Fits : Code → Tree → Type 0
Fits a tree = IfSome a.labels_loop (λ b. b ≡ labels_loop tree)

-- a node that has no errors whatever stands round it, and no `var`s; the flag says whether it may have no `arguments`
abbrev pub IsQuiet : Bool → Tree → Type 0
IsQuiet b tree = ((z : Around) → z.no_arguments ≡ b → errors_within z tree ≡ []) × (var_names tree ≡ [])

-- a part that may be missing
abbrev pub IsSilent : Bool → Option Tree → Type 0
IsSilent b o = ((z : Around) → z.no_arguments ≡ b → at_part (errors_within z) o ≡ []) × (at_part var_names o ≡ [])

-- a leaf is quiet that is a name, but `arguments` where that may not stand, `this`, or a literal but for a regular expression
abbrev pub is_quiet : Bool → Kind → List ℕ → Bool
is_quiet b Identifier text = not (b && is text "arguments")
is_quiet b ThisExpression text = true
is_quiet b Literal text = not (is_reg_exp (literal_class text))
is_quiet b _ text = false
