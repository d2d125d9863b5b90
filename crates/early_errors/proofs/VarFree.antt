-- Nodes below which no `var` stands.
use Rattle.std.proofs.Common.{◌≡◌, ℕ, ◌+◌, ◌-◌, ◌<◌, ◌≤◌, Bool, true, false, cond, List, [], ◌++◌, Option, refl, sym, ap, ◌∙◌, arith, append_assoc, append-nil}
use Rattle.std.specs.Prelude.{◌||◌}
use Rattle.std.specs.Bool.{OnTrue}
use Rattle.std.proofs.lemmas.Bool.{false≢true}
use Rattle.tree.specs.declared.kind.Kind.{Kind}
use Rattle.tree.specs.declared.kind.Kind.TheVariants.{VariableDeclaration}
use Rattle.tree.specs.Tree.{Tree, node, Parts, none, part, gap, kind_of, text_of, parts_of, part_at, part_count}
use Rattle.early_errors.specs.Names.{Named, is_function, is_static_block, declared_names, own_vars, var_names, parts_vars}
use Rattle.name_tables.specs.PatternParts.{at_part}
use Rattle.early_errors.specs.Owns.{vars_of}
use Rattle.early_errors.specs.Walks.{is_var, range_vars, vars_at}
use Rattle.early_errors.proofs.PartRanges.{ranged-step, ranged-past, vars_whole}

no_own : (k : Kind) (w : List ℕ) (ps : Parts) → is_var k w ≡ false → own_vars k w ps ≡ []
no_own VariableDeclaration w ps h = ap (λ b. cond b (declared_names ps) []) h
no_own _ w ps h = refl

nothing : (b : Bool) → ◌≡◌ {A = List Named} (cond b [] []) []
nothing true = refl
nothing false = refl

-- what holds where a test says yes
pub is_free : {P : Type 0} (b : Bool) → b ≡ true → OnTrue b P → P
is_free true e h = h
is_free false e h = absurd (false≢true e)

-- a function or a static block has none of those round it
pub function_free : (t : Tree) → (is_function (kind_of t) || is_static_block (kind_of t)) ≡ true → var_names t ≡ []
unfolding var_names
function_free (node k w g s e ps) h = ap (λ b. cond b [] (own_vars k w ps ++ parts_vars ps)) h

-- nor has a node that is no `var`, and whose parts have none
pub parts_free : (t : Tree) (n : ℕ) → is_var (kind_of t) (text_of t) ≡ false → n ≡ part_count (parts_of t) → range_vars (parts_of t) 0 n ≡ [] → var_names t ≡ []
unfolding var_names
parts_free (node k w g s e ps) n h c r =
    ap (cond (is_function k || is_static_block k) []) (λ i. no_own k w ps h i ++ (vars_whole ps n c ∙ r) i) ∙ nothing (is_function k || is_static_block k)

-- behind a part that has none
pub free_step : (ps : Parts) (i n : ℕ) (o : Option Tree) (b : Bool) → i < n → o ≡ part_at ps i → b ≡ true → OnTrue b (at_part var_names o ≡ []) → range_vars ps i (n - i) ≡ range_vars ps (i + 1) (n - (i + 1))
free_step ps i n o b l p t h =
    ranged-step (vars_at ps) i n l ∙ ap (λ v. v ++ range_vars ps (i + 1) (n - (i + 1))) (ap (at_part var_names) (sym p) ∙ is_free b t h)

pub free_past : (ps : Parts) (i n : ℕ) → n ≤ i → range_vars ps i (n - i) ≡ []
free_past ps i n l = ranged-past (vars_at ps) i n l

pub function_given : (t : Tree) (k : Kind) (b : Bool) → k ≡ kind_of t → b ≡ (is_function k || is_static_block k) → b ≡ true → var_names t ≡ []
function_given t k b h e i = function_free t (ap (λ k. is_function k || is_static_block k) (sym h) ∙ sym e ∙ i)

pub plain_given : (t : Tree) (v b : Bool) → v ≡ is_var (kind_of t) (text_of t) → v ≡ false → OnTrue b (range_vars (parts_of t) 0 (part_count (parts_of t) - 0) ≡ []) → OnTrue b (var_names t ≡ [])
plain_given t v true h e r =
    let all : part_count (parts_of t) - 0 ≡ part_count (parts_of t) = omega arith in
    parts_free t (part_count (parts_of t)) (sym h ∙ e) refl (ap (range_vars (parts_of t) 0) (sym all) ∙ r)
plain_given t v false h e r = tt

-- ---- names of `var`s, as they are pushed

pub own_vars-given : (t : Tree) (b : Bool) → b ≡ is_var (kind_of t) (text_of t) → b ≡ true → declared_names (parts_of t) ≡ vars_of t
own_vars-given (node VariableDeclaration w g s e ps) b h k = ap (λ x. cond x (declared_names ps) []) (sym k ∙ h)
own_vars-given (node _ w g s e ps) b h k = absurd (false≢true (sym h ∙ k))

pub own_vars-none : (t : Tree) (b : Bool) → b ≡ is_var (kind_of t) (text_of t) → b ≡ false → vars_of t ≡ []
own_vars-none t b h k = no_own (kind_of t) (text_of t) (parts_of t) (sym h ∙ k)

vars_of-whole : (t : Tree) → (is_function (kind_of t) || is_static_block (kind_of t)) ≡ false → var_names t ≡ vars_of t ++ parts_vars (parts_of t)
unfolding var_names
vars_of-whole (node k w g s e ps) h = ap (λ b. cond b [] (own_vars k w ps ++ parts_vars ps)) h

pub vars-given : (t : Tree) (k : Kind) (b : Bool) → k ≡ kind_of t → b ≡ (is_function k || is_static_block k) → b ≡ false → var_names t ≡ vars_of t ++ parts_vars (parts_of t)
vars-given t k b h e i = vars_of-whole t (ap (λ k. is_function k || is_static_block k) (sym h) ∙ sym e ∙ i)

pub vars-step : (old new total : List Named) (ps rest : Parts) (u : Tree) → ps ≡ part u rest → new ≡ old ++ var_names u → old ++ parts_vars ps ≡ total → new ++ parts_vars rest ≡ total
unfolding parts_vars
vars-step old new total ps rest u e h so = ap (λ l. l ++ parts_vars rest) h ∙ append_assoc old (var_names u) (parts_vars rest) ∙ sym (ap (λ q. old ++ parts_vars q) e) ∙ so

pub vars-gap : (old new total : List Named) (ps rest : Parts) → ps ≡ gap rest → new ≡ old → old ++ parts_vars ps ≡ total → new ++ parts_vars rest ≡ total
unfolding parts_vars
vars-gap old new total ps rest e h so = ap (λ l. l ++ parts_vars rest) h ∙ sym (ap (λ q. old ++ parts_vars q) e) ∙ so

pub vars-end : (old total : List Named) (ps : Parts) → ps ≡ none → old ++ parts_vars ps ≡ total → old ≡ total
unfolding parts_vars
vars-end old total ps e so = sym (append-nil old) ∙ sym (ap (λ q. old ++ parts_vars q) e) ∙ so
