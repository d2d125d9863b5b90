-- Rules that look at no scopes find the same in a view without them; and so with the extra pairs.
use Rattle.std.proofs.Common.{◌≡◌, Bool, true, false, cond, List, [], ◌∷◌, ◌++◌, refl, sym, ap, ap₂, ◌∙◌}
use Rattle.std.specs.Prelude.{◌||◌, ◌&&◌}
use Rattle.std.proofs.lemmas.Bool.{false≢true}
use Rattle.tree.specs.declared.kind.Span.{Span}
use Rattle.scopes.specs.Found.{Found}
use Rattle.rule_words.specs.Reports.{Report}
use Rattle.rules.specs.RuleNames.{called, looks_at_pairs, looks_at_scopes}
use Rattle.rules.specs.Rules.{View}
use Rattle.rules.specs.Run.{found_by_name, found_by_names, look_at_pairs, look_at_scopes}
use Rattle.rules.specs.Settings.{is_on}
use Rattle.rules.specs.declared.rule_list.RuleName.{RuleName}
use Rattle.rules.specs.declared.rule_list.RuleName.TheVariants.{OnNodes, OnReferences, OnRepetitions, OnFlow, OnLiterals, OnTexts, NoExtraParens, NoShadow, NoUndef, NoUnusedPrivateClassMembers, NoUnusedVars, PreferConst, OnValues, NoExtendNative}

-- a view with other scopes
abbrev pub with_found : View → Found → View
with_found v f = record { tree = v.tree; text = v.text; found = f; extra = v.extra; settings = v.settings }

off : (on : Bool) (xs ys : List Report) → on ≡ false → cond on xs [] ≡ cond on ys []
off on xs ys h = ap (λ b. cond b xs []) h ∙ sym (ap (λ b. cond b ys []) h)

same_by_name : (name : RuleName) (v : View) (f : Found) → (looks_at_scopes name && is_on (called name) v.settings) ≡ false → found_by_name name (with_found v f) ≡ found_by_name name v
same_by_name (OnNodes r) v f h = refl
same_by_name (OnReferences r) v f h = off _ _ _ h
same_by_name (OnRepetitions r) v f h = refl
same_by_name (OnFlow r) v f h = refl
same_by_name (OnLiterals r) v f h = refl
same_by_name (OnTexts r) v f h = refl
same_by_name (OnValues r) v f h = refl
same_by_name NoExtendNative v f h = off _ _ _ h
same_by_name NoExtraParens v f h = refl
same_by_name NoShadow v f h = off _ _ _ h
same_by_name NoUndef v f h = off _ _ _ h
same_by_name NoUnusedPrivateClassMembers v f h = refl
same_by_name NoUnusedVars v f h = off _ _ _ h
same_by_name PreferConst v f h = off _ _ _ h

neither : (a b : Bool) → (a || b) ≡ false → (a ≡ false) × (b ≡ false)
neither true b h = absurd (false≢true (sym h))
neither false b h = (refl, h)

pub same_without_scopes : (names : List RuleName) (v : View) (f : Found) → look_at_scopes names v.settings ≡ false → found_by_names names (with_found v f) ≡ found_by_names names v
same_without_scopes [] v f h = refl
same_without_scopes (name ∷ names) v f h =
    let both = neither (looks_at_scopes name && is_on (called name) v.settings) (look_at_scopes names v.settings) h in
    ap₂ (λ one rest. one ++ rest) (same_by_name name v f both.0) (same_without_scopes names v f both.1)

-- a view with other pairs
abbrev pub with_extra : View → List Span → View
with_extra v spans = record { tree = v.tree; text = v.text; found = v.found; extra = spans; settings = v.settings }

same_by_name_but_pairs : (name : RuleName) (v : View) (spans : List Span) → (looks_at_pairs name && is_on (called name) v.settings) ≡ false → found_by_name name (with_extra v spans) ≡ found_by_name name v
same_by_name_but_pairs (OnNodes r) v spans h = refl
same_by_name_but_pairs (OnReferences r) v spans h = refl
same_by_name_but_pairs (OnRepetitions r) v spans h = refl
same_by_name_but_pairs (OnFlow r) v spans h = refl
same_by_name_but_pairs (OnLiterals r) v spans h = refl
same_by_name_but_pairs (OnTexts r) v spans h = refl
same_by_name_but_pairs (OnValues r) v spans h = refl
same_by_name_but_pairs NoExtendNative v spans h = refl
same_by_name_but_pairs NoExtraParens v spans h = off _ _ _ h
same_by_name_but_pairs NoShadow v spans h = refl
same_by_name_but_pairs NoUndef v spans h = refl
same_by_name_but_pairs NoUnusedPrivateClassMembers v spans h = refl
same_by_name_but_pairs NoUnusedVars v spans h = refl
same_by_name_but_pairs PreferConst v spans h = refl

pub same_without_pairs : (names : List RuleName) (v : View) (spans : List Span) → look_at_pairs names v.settings ≡ false → found_by_names names (with_extra v spans) ≡ found_by_names names v
same_without_pairs [] v spans h = refl
same_without_pairs (name ∷ names) v spans h =
    let both = neither (looks_at_pairs name && is_on (called name) v.settings) (look_at_pairs names v.settings) h in
    ap₂ (λ one rest. one ++ rest) (same_by_name_but_pairs name v spans both.0) (same_without_pairs names v spans both.1)
