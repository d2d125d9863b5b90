-- What a node's kind says of the labels round its parts, of its `var`s and of its own errors.
use Rattle.std.proofs.Common.{◌≡◌, ℕ, zero, suc, ◌<◌, Bool, true, false, cond, List, [], ◌++◌, Option, Some, None, refl, sym, ap, ◌∙◌, arith}
use Rattle.std.specs.Prelude.{◌||◌}
use Rattle.std.specs.Str.{bytes_eq}
use Rattle.std.proofs.lemmas.Bool.{false≢true}
use Rattle.std.proofs.lemmas.Slice.Eq.{bytes_eq-Decides}
use Rattle.tree.specs.declared.kind.Kind.TheVariants.{Program, StaticBlock, BlockStatement, SwitchStatement, CatchClause, ClassBody, ForStatement, ForInStatement, ForOfStatement, FunctionDeclaration, FunctionExpression, ArrowFunctionExpression, MethodDefinition, PropertyDefinition, Property, LabeledStatement, VariableDeclaration}
use Rattle.tree.specs.Tree.{Tree, node, Parts, none, part, gap, kind_of, text_of, flags_of, parts_of, part_at, part_count}
use Rattle.language.specs.FirstPart.{others}
use Rattle.early_errors.specs.declared.walk.WalkKind.{WalkKind}
use Rattle.early_errors.specs.declared.walk.WalkKind.TheVariants as inside
use Rattle.early_errors.specs.Around.{Around, Label, is_method, labels_loop, last_loop, own_label, private_keys}
use Rattle.early_errors.specs.Names.{Named, var_names, parts_vars}
use Rattle.early_errors.specs.Early.{own_errors}
use Rattle.early_errors.specs.Owns.{Beside, label_of, or_false, inside_of, makes_scope, inner_beside, first_beside, unlabelled, plain_errors, vars_of}
use Rattle.name_tables.specs.Tables.{Agree, with_value}

-- what holds beside round the first part and round the others, all the node's `var`s, its errors
abbrev Facts : Tree → Around → Beside → (first others : Beside) → (vars : List Named) → Type 0
Facts t z r x y vs =
    (first_beside (kind_of t) (flags_of t) (parts_of t) r ≡ x) × ((inner_beside (kind_of t) (flags_of t) (parts_of t) r ≡ y) × ((var_names t ≡ vs) × (plain_errors z t ≡ own_errors z t)))

abbrev in_function : WalkKind → Bool
in_function inside.Function = true
in_function _ = false

abbrev in_method : WalkKind → Bool
in_method inside.Method = true
in_method _ = false

abbrev in_plain : WalkKind → Bool
in_plain inside.Plain = true
in_plain _ = false

abbrev in_label : WalkKind → Bool
in_label inside.Label = true
in_label _ = false

abbrev in_scope : WalkKind → Bool
in_scope inside.Scope = true
in_scope _ = false

abbrev in_class : WalkKind → Bool
in_class inside.ClassBody = true
in_class _ = false

abbrev in_block : WalkKind → Bool
in_block inside.StaticBlock = true
in_block _ = false

never : (b : Bool) → cond b inside.Method inside.Plain ≡ inside.Function → ⊥
never true h = false≢true (ap in_function h)
never false h = false≢true (ap in_function h)

a_method : (b : Bool) (r : Beside) → cond b inside.Method inside.Plain ≡ inside.Method → cond b (unlabelled r) r ≡ unlabelled r
a_method true r h = refl
a_method false r h = absurd (false≢true (ap in_method h))

no_method : (b : Bool) (r : Beside) → cond b inside.Method inside.Plain ≡ inside.Plain → cond b (unlabelled r) r ≡ r
no_method true r h = absurd (false≢true (ap in_plain h))
no_method false r h = refl

not_scope : (b : Bool) → cond b inside.Method inside.Plain ≡ inside.Scope → ⊥
not_scope true h = false≢true (ap in_scope h)
not_scope false h = false≢true (ap in_scope h)

not_label : (b : Bool) → cond b inside.Method inside.Plain ≡ inside.Label → ⊥
not_label true h = false≢true (ap in_label h)
not_label false h = false≢true (ap in_label h)

not_class : (b : Bool) → cond b inside.Method inside.Plain ≡ inside.ClassBody → ⊥
not_class true h = false≢true (ap in_class h)
not_class false h = false≢true (ap in_class h)

not_block : (b : Bool) → cond b inside.Method inside.Plain ≡ inside.StaticBlock → ⊥
not_block true h = false≢true (ap in_block h)
not_block false h = false≢true (ap in_block h)

pub function_facts : (t : Tree) (z : Around) (r : Beside) → inside_of (kind_of t) (flags_of t).form ≡ inside.Function → Facts t z r (unlabelled r) (unlabelled r) [] × (vars_of t ≡ [])
unfolding var_names
function_facts (node FunctionDeclaration w g s e ps) z r h = ((refl, (refl, (refl, refl))), refl)
function_facts (node FunctionExpression w g s e ps) z r h = ((refl, (refl, (refl, refl))), refl)
function_facts (node ArrowFunctionExpression w g s e ps) z r h = ((refl, (refl, (refl, refl))), refl)
function_facts (node Property w g s e ps) z r h = absurd (never (is_method g.form) h)
function_facts (node _ w g s e ps) z r h = absurd (false≢true (ap in_function h))

pub method_facts : (t : Tree) (z : Around) (r : Beside) → inside_of (kind_of t) (flags_of t).form ≡ inside.Method → Facts t z r r (unlabelled r) (vars_of t ++ parts_vars (parts_of t))
unfolding var_names
method_facts (node MethodDefinition w g s e ps) z r h = (refl, (refl, (refl, refl)))
method_facts (node PropertyDefinition w g s e ps) z r h = (refl, (refl, (refl, refl)))
method_facts (node Property w g s e ps) z r h = (refl, (a_method (is_method g.form) r h, (refl, refl)))
method_facts (node _ w g s e ps) z r h = absurd (false≢true (ap in_method h))

pub plain_facts : (t : Tree) (z : Around) (r : Beside) → inside_of (kind_of t) (flags_of t).form ≡ inside.Plain → Facts t z r r r (vars_of t ++ parts_vars (parts_of t))
unfolding var_names
plain_facts (node FunctionDeclaration w g s e ps) z r h = absurd (false≢true (ap in_plain h))
plain_facts (node FunctionExpression w g s e ps) z r h = absurd (false≢true (ap in_plain h))
plain_facts (node ArrowFunctionExpression w g s e ps) z r h = absurd (false≢true (ap in_plain h))
plain_facts (node MethodDefinition w g s e ps) z r h = absurd (false≢true (ap in_plain h))
plain_facts (node PropertyDefinition w g s e ps) z r h = absurd (false≢true (ap in_plain h))
plain_facts (node ClassBody w g s e ps) z r h = absurd (false≢true (ap in_plain h))
plain_facts (node StaticBlock w g s e ps) z r h = absurd (false≢true (ap in_plain h))
plain_facts (node LabeledStatement w g s e ps) z r h = absurd (false≢true (ap in_plain h))
plain_facts (node VariableDeclaration w g s e ps) z r h = absurd (false≢true (ap in_plain h))
plain_facts (node Program w g s e ps) z r h = absurd (false≢true (ap in_plain h))
plain_facts (node BlockStatement w g s e ps) z r h = absurd (false≢true (ap in_plain h))
plain_facts (node SwitchStatement w g s e ps) z r h = absurd (false≢true (ap in_plain h))
plain_facts (node CatchClause w g s e ps) z r h = absurd (false≢true (ap in_plain h))
plain_facts (node ForStatement w g s e ps) z r h = absurd (false≢true (ap in_plain h))
plain_facts (node ForInStatement w g s e ps) z r h = absurd (false≢true (ap in_plain h))
plain_facts (node ForOfStatement w g s e ps) z r h = absurd (false≢true (ap in_plain h))
plain_facts (node Property w g s e ps) z r h = (refl, (no_method (is_method g.form) r h, (refl, refl)))
plain_facts (node _ w g s e ps) z r h = (refl, (refl, (refl, refl)))

pub label_facts : (t : Tree) (z : Around) (r : Beside) → inside_of (kind_of t) (flags_of t).form ≡ inside.Label →
    Facts t z r r (record r { labels = own_label (parts_of t) r.labels }) (vars_of t ++ parts_vars (parts_of t))
unfolding var_names
label_facts (node LabeledStatement w g s e ps) z r h = (refl, (refl, (refl, refl)))
label_facts (node Property w g s e ps) z r h = absurd (not_label (is_method g.form) h)
label_facts (node _ w g s e ps) z r h = absurd (false≢true (ap in_label h))

-- the private names of a class body stand round all its elements
pub class_facts : (t : Tree) (z : Around) (r : Beside) → inside_of (kind_of t) (flags_of t).form ≡ inside.ClassBody →
    let y : Beside = record r { privates = private_keys (parts_of t) ++ r.privates } in Facts t z r y y (vars_of t ++ parts_vars (parts_of t))
unfolding var_names
class_facts (node ClassBody w g s e ps) z r h = (refl, (refl, (refl, refl)))
class_facts (node Property w g s e ps) z r h = absurd (not_class (is_method g.form) h)
class_facts (node _ w g s e ps) z r h = absurd (false≢true (ap in_class h))

-- what holds beside round the parts of a scope, its `var`s, its own
abbrev ScopeFacts : Tree → Beside → Type 0
ScopeFacts t r = (first_beside (kind_of t) (flags_of t) (parts_of t) r ≡ r) × ((inner_beside (kind_of t) (flags_of t) (parts_of t) r ≡ r) × (vars_of t ≡ []))

-- no label stands beside a static block
pub scope_facts : (t : Tree) (r : Beside) → makes_scope (kind_of t) ≡ true → (kind_of t ≡ StaticBlock → r.labels ≡ []) → ScopeFacts t r
scope_facts (node Program w g s e ps) r h b = (refl, (refl, refl))
scope_facts (node StaticBlock w g s e ps) r h b = let same : unlabelled r ≡ r = λ i. record r { labels = sym (b refl) i } in (same, (same, refl))
scope_facts (node BlockStatement w g s e ps) r h b = (refl, (refl, refl))
scope_facts (node SwitchStatement w g s e ps) r h b = (refl, (refl, refl))
scope_facts (node CatchClause w g s e ps) r h b = (refl, (refl, refl))
scope_facts (node ForStatement w g s e ps) r h b = (refl, (refl, refl))
scope_facts (node ForInStatement w g s e ps) r h b = (refl, (refl, refl))
scope_facts (node ForOfStatement w g s e ps) r h b = (refl, (refl, refl))
scope_facts (node _ w g s e ps) r h b = absurd (false≢true h)

-- a scope that a walk goes into as such is no static block
pub is_scope : (t : Tree) → inside_of (kind_of t) (flags_of t).form ≡ inside.Scope → (makes_scope (kind_of t) ≡ true) × (kind_of t ≡ StaticBlock → ⊥)
is_scope (node Program w g s e ps) h = (refl, (λ x. cc))
is_scope (node BlockStatement w g s e ps) h = (refl, (λ x. cc))
is_scope (node SwitchStatement w g s e ps) h = (refl, (λ x. cc))
is_scope (node CatchClause w g s e ps) h = (refl, (λ x. cc))
is_scope (node ForStatement w g s e ps) h = (refl, (λ x. cc))
is_scope (node ForInStatement w g s e ps) h = (refl, (λ x. cc))
is_scope (node ForOfStatement w g s e ps) h = (refl, (λ x. cc))
is_scope (node Property w g s e ps) h = absurd (not_scope (is_method g.form) h)
is_scope (node _ w g s e ps) h = absurd (false≢true (ap in_scope h))

pub is_labelled : (t : Tree) → inside_of (kind_of t) (flags_of t).form ≡ inside.Label → kind_of t ≡ LabeledStatement
is_labelled (node LabeledStatement w g s e ps) h = refl
is_labelled (node Property w g s e ps) h = absurd (not_label (is_method g.form) h)
is_labelled (node _ w g s e ps) h = absurd (false≢true (ap in_label h))

pub is_static_block : (t : Tree) → inside_of (kind_of t) (flags_of t).form ≡ inside.StaticBlock → kind_of t ≡ StaticBlock
is_static_block (node StaticBlock w g s e ps) h = refl
is_static_block (node Property w g s e ps) h = absurd (not_block (is_method g.form) h)
is_static_block (node _ w g s e ps) h = absurd (false≢true (ap in_block h))

-- ---- labels

pub no_own_label : (ps : Parts) (ls : List Label) → None ≡ part_at ps 0 → own_label ps ls ≡ ls
no_own_label none ls h = refl
no_own_label (gap ps) ls h = refl
no_own_label (part t ps) ls h = absurd (cc)

-- a table with one label more knows it
pub one_label : (f g : List ℕ → Option Bool) (ls : List Label) (ps : Parts) (t : Tree) (n : List ℕ) (b a : Bool) (v : Option Bool) → Some t ≡ part_at ps 0 → n ≡ text_of t → b ≡ last_loop (others ps) → v ≡ f n → a ≡ (b || or_false v) →
    ((w : List ℕ) → f w ≡ label_of ls w) → Agree g (with_value f n (Some a)) → (w : List ℕ) → g w ≡ label_of (own_label ps ls) w
one_label f g ls none t n b a v e m l x y k h w = absurd (cc)
one_label f g ls (gap ps) t n b a v e m l x y k h w = absurd (cc)
one_label f g ls (part u ps) t n b a v e m l x y k h w =
    h w ∙ pick (bytes_eq n w) refl ∙ ap (λ c. cond (bytes_eq c w) (Some (last_loop ps || or_false (label_of ls w))) (label_of ls w)) (m ∙ ap text e)
  where
    text : Option Tree → List ℕ
    text None = []
    text (Some t) = text_of t

    pick : (c : Bool) → bytes_eq n w ≡ c → cond c (Some a) (f w) ≡ cond c (Some (last_loop ps || or_false (label_of ls w))) (label_of ls w)
    pick true i = ap (λ c. Some c) (y ∙ (λ j. l j || or_false ((x ∙ ap f ((bytes_eq-Decides n w).0 i) ∙ k w) j)))
    pick false i = k w

abbrev loops_of : Option Tree → Bool
loops_of None = false
loops_of (Some t) = labels_loop t

only : (ps : Parts) (i : ℕ) (u : Tree) → part_count ps ≡ 1 → Some u ≡ part_at ps i → last_loop ps ≡ labels_loop u
unfolding last_loop
only none i u n e = absurd (cc)
only (part t none) zero u n e = sym (ap loops_of e)
only (part t none) (suc i) u n e = absurd (cc)
only (part t (part v ps)) i u n e = absurd (omega (arith, n))
only (part t (gap ps)) i u n e = absurd (omega (arith, n))
only (gap none) zero u n e = absurd (cc)
only (gap none) (suc i) u n e = absurd (cc)
only (gap (part v ps)) i u n e = absurd (omega (arith, n))
only (gap (gap ps)) i u n e = absurd (omega (arith, n))

-- of two parts the second is the label's statement
pub the_second : (ps : Parts) (i : ℕ) (u : Tree) → part_count ps ≡ 2 → 0 < i → Some u ≡ part_at ps i → last_loop (others ps) ≡ labels_loop u
unfolding last_loop
the_second none i u n l e = absurd (cc)
the_second (part t none) i u n l e = absurd (omega (arith, n))
the_second (gap none) i u n l e = absurd (omega (arith, n))
the_second (part t ps) zero u n l e = absurd (omega (arith, l))
the_second (gap ps) zero u n l e = absurd (omega (arith, l))
the_second (part t ps) (suc i) u n l e = only ps i u (omega (arith, n)) e
the_second (gap ps) (suc i) u n l e = only ps i u (omega (arith, n)) e
