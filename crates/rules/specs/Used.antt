-- Bindings that references use, as the code keeps them: a flag for each binding, those of a scope behind those of the scopes before it.
use Rattle.std.specs.Prelude.{◌≡◌, ◌+◌, ◌<◌, ℕ, zero, suc, Bool, true, false, List, [], ◌∷◌, ◌++◌, length, get_or, nat_eq}
use Rattle.std.specs.List.{list_any}
use Rattle.scopes.specs.Bindings.{Binding}
use Rattle.scopes.specs.Found.{Scope}
use Rattle.rules.specs.declared.bindings.BindingRule.{BindingRule}
use Rattle.rules.specs.declared.bindings.BindingRule.TheVariants.{Shadow, Unused, Constant}
use Rattle.rules.specs.declared.rule_option.CheckedParams.{CheckedParams}
use Rattle.rules.specs.declared.rule_option.CheckedParams.TheVariants.{AfterUsed}
use Rattle.rules.specs.declared.used_bindings.UsedBindings.{UsedBindings}
use Rattle.rule_words.specs.Reports.{Report}
use Rattle.rules.specs.Rules.{of_const, of_shadow, of_unused}
use Rattle.rules.specs.Settings.{Settings}

-- the index of a scope's first flag; behind all flags where there is no such scope
abbrev pub first_flag : UsedBindings → ℕ → ℕ
first_flag u n = get_or u.firsts.items n (length u.flags.items)

abbrev pub flag_index : UsedBindings → ℕ × ℕ → ℕ
flag_index u m = first_flag u m.0 + m.1

abbrev pub is_marked : UsedBindings → ℕ × ℕ → Bool
is_marked u m = get_or u.flags.items (flag_index u m) false

-- how many bindings the scope of a number has; none where there is no such scope
abbrev pub binding_count : List Scope → ℕ → ℕ
binding_count [] n = 0
binding_count (s ∷ ss) zero = length s.bindings
binding_count (s ∷ ss) (suc n) = binding_count ss n

-- how many bindings the scopes before a number have
abbrev pub bindings_before : ℕ → List Scope → ℕ
bindings_before zero ss = 0
bindings_before (suc n) [] = 0
bindings_before (suc n) (s ∷ ss) = length s.bindings + bindings_before n ss

abbrev pub HasBinding : List Scope → ℕ × ℕ → Type 0
HasBinding ss m = m.1 < binding_count ss m.0

-- where the flags of the first scopes begin
abbrev pub first_flags : List Scope → ℕ → List ℕ
first_flags ss zero = []
first_flags ss (suc n) = first_flags ss n ++ bindings_before n ss ∷ []

-- there are flags for just the bindings of the first scopes
pub record IsLaidOut (ss : List Scope) (n : ℕ) (u : UsedBindings) : Type 0 where
  pub firsts : u.firsts.items ≡ first_flags ss n
  pub flags : length u.flags.items ≡ bindings_before n ss

-- each binding has a flag, which says whether it is used
pub record Notes (ss : List Scope) (used : ℕ × ℕ → Bool) (u : UsedBindings) : Type 0 where
  pub laid_out : IsLaidOut ss (length ss) u
  pub marked : (m : ℕ × ℕ) → HasBinding ss m → is_marked u m ≡ used m

abbrev pub is_after_used : CheckedParams → Bool
is_after_used AfterUsed = true
is_after_used _ = false

-- a number is one of these
abbrev pub is_in : List ℕ → ℕ → Bool
is_in xs at = list_any (nat_eq at) xs

-- what a rule that looks at bindings says of one
abbrev pub of_binding : BindingRule → Settings → (ℕ → Bool) → (ℕ × ℕ → Bool) → ℕ × ℕ → Binding → List Binding → List Report
of_binding Shadow s alone used m b bs = of_shadow s b
of_binding Unused s alone used m b bs = of_unused s alone used m b bs
of_binding Constant s alone used m b bs = of_const used m b

-- a rule asks which bindings are written, and not which are read
abbrev pub asks_writes : BindingRule → Bool
asks_writes Constant = true
asks_writes _ = false

-- a rule looks at the parameters behind a binding
abbrev pub looks_behind : BindingRule → Settings → Bool
looks_behind Unused s = is_after_used s.options.params
looks_behind _ s = false
