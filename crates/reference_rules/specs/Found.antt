-- What rules on names find in a script: of each reference, then of each declaration, scope by scope.
use Rattle.std.specs.Prelude.{ℕ, zero, suc, ◌+◌, cond, List, [], ◌∷◌, ◌++◌, Option, Some, None, slice_get, codes}
use Rattle.scopes.specs.Bindings.{Binding}
use Rattle.scopes.specs.Found.{Found, Reference, Scope}
use Rattle.rule_words.specs.Reports.{Report}
use Rattle.reference_rules.specs.declared.reference_rule.Profile.{Profile}
use Rattle.reference_rules.specs.declared.reference_rule.ReferenceRule.{ReferenceRule}
use Rattle.reference_rules.specs.declared.reference_rule.Standing.{Standing}
use Rattle.reference_rules.specs.declared.reference_rule.Standing.TheVariants.{Again, InScope, InScript}
use Rattle.reference_rules.specs.Rows.{called, of_declaration, of_reference, says, says_declared}

-- the binding at a place of a scope
abbrev pub binding_in : Option Scope → ℕ → Option Binding
binding_in None place = None
binding_in (Some scope) place = slice_get scope.bindings place

-- the binding that a reference means
abbrev pub meant : List Scope → Option (ℕ × ℕ) → Option Binding
meant scopes None = None
meant scopes (Some m) = binding_in (slice_get scopes m.0) m.1

-- a report of a name
abbrev pub named : ReferenceRule → List ℕ → (start stop : ℕ) → List ℕ → Report
named rule name start stop words = record { start = start; stop = stop; rule = called rule; text = codes "'" ++ (name ++ (codes "' " ++ words)) }

-- what is said of each
abbrev pub each : {X : Type 0} → (X → List Report) → List X → List Report
each f [] = []
each f (x ∷ xs) = f x ++ each f xs

-- what a rule says of a reference
abbrev pub by_reference : Profile → Reference → Option Binding → ReferenceRule → List Report
by_reference profile r b rule = cond (of_reference profile rule r b) (named rule r.name r.start r.stop (says rule) ∷ []) []

-- of a declaration
abbrev pub by_declaration : Profile → Standing → Binding → ReferenceRule → List Report
by_declaration profile standing b rule = cond (of_declaration profile rule standing b) (named rule b.name b.start b.stop (says_declared rule standing) ∷ []) []

-- what rules say of references
abbrev pub over_references : Profile → List ReferenceRule → List Scope → List Reference → List Report
over_references profile rules scopes rs = each (λ r. each (by_reference profile r (meant scopes r.meaning)) rules) rs

-- of declarations that stand alike
abbrev pub over_declarations : Profile → List ReferenceRule → Standing → List Binding → List Report
over_declarations profile rules standing bs = each (λ b. each (by_declaration profile standing b) rules) bs

-- of those of a scope
abbrev pub over_scope : Profile → List ReferenceRule → Standing → (bindings redeclared : List Binding) → List Report
over_scope profile rules standing bs rs = over_declarations profile rules standing bs ++ over_declarations profile rules Again rs

-- the first scope is the script's own
abbrev pub standing_in : ℕ → Standing
standing_in zero = InScript
standing_in (suc n) = InScope

-- of scopes, the first of them with this number
abbrev pub over_scopes : Profile → List ReferenceRule → ℕ → List Scope → List Report
over_scopes profile rules n [] = []
over_scopes profile rules n (s ∷ ss) = over_scope profile rules (standing_in n) s.bindings s.redeclared ++ over_scopes profile rules (n + 1) ss

-- all that rules say of a script
abbrev pub found_by_rules : Profile → List ReferenceRule → Found → List Report
found_by_rules profile rules found = over_references profile rules found.scopes found.references ++ over_scopes profile rules 0 found.scopes

-- one rule
abbrev pub found_by_rule : Profile → ReferenceRule → Found → List Report
found_by_rule profile rule found = found_by_rules profile (rule ∷ []) found
