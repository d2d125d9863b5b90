-- What a walk has found behind one part and behind the next, where the same stands round all of them.
use Rattle.std.proofs.Common.{Bool, true, false, cond, ◌≡◌, ℕ, List, Option, None, sym, ap, ◌∙◌, ◌++◌}
use Rattle.std.proofs.lemmas.Bool.{false≢true}
use Rattle.tree.specs.declared.kind.Kind.TheVariants.{Property, VariableDeclaration}
use Rattle.early_errors.specs.declared.walk.WalkKind.{WalkKind}
use Rattle.early_errors.specs.declared.walk.WalkKind.TheVariants as inside
use Rattle.early_errors.specs.Owns.{inside_of, plain_errors, vars_of}
use Rattle.tree.specs.Tree.{Tree, node, kind_of, flags_of, Parts, none, part, gap, parts_of}
use Rattle.early_errors.specs.Around.{Around, around_first, around_others, is_method, settled, within}
use Rattle.early_errors.specs.Passed.{IsOpen}
use Rattle.early_errors.specs.Names.{var_names, parts_vars}
use Rattle.early_errors.specs.Early.{Error, own_errors, errors_within, parts_errors}
use Rattle.name_tables.specs.Tables.{Agree}
use Rattle.early_errors.specs.Walk.{sooner, after, hits}
use Rattle.early_errors.proofs.JoinedHits.{joined}
use Rattle.early_errors.proofs.PartsByKind.{same_round}
use Rattle.early_errors.proofs.Least.{sooner-none}
use Rattle.early_errors.proofs.VarConflictSymmetry.{hits-agree}

-- what is found once these parts are walked too
abbrev pub ahead : (List ℕ → Option Error) → Around → Option Error → Parts → Option Error
ahead f z q ps = sooner (after q (parts_errors z z ps)) (hits f (parts_vars ps))

pub ahead-part : (f g : List ℕ → Option Error) (z : Around) (q r total : Option Error) (ps rest : Parts) (u : Tree) → Agree g f → ps ≡ part u rest → r ≡ sooner (after q (errors_within z u)) (hits g (var_names u)) → ahead f z q ps ≡ total →
    ahead f z r rest ≡ total
unfolding parts_errors parts_vars
ahead-part f g z q r total ps rest u a e h so =
    ap (λ p. ahead f z p rest) (h ∙ ap (sooner (after q (errors_within z u))) (hits-agree g f (var_names u) a))
    ∙ joined f q (errors_within z u) (parts_errors z z rest) (var_names u) (parts_vars rest) ∙ sym (ap (ahead f z q) e) ∙ so

pub ahead-gap : (f : List ℕ → Option Error) (z : Around) (q r total : Option Error) (ps rest : Parts) → ps ≡ gap rest → r ≡ q → ahead f z q ps ≡ total → ahead f z r rest ≡ total
unfolding parts_errors parts_vars
ahead-gap f z q r total ps rest e h so = ap (λ p. ahead f z p rest) h ∙ sym (ap (ahead f z q) e) ∙ so

pub ahead-end : (f : List ℕ → Option Error) (z : Around) (q total : Option Error) (ps : Parts) → ps ≡ none → ahead f z q ps ≡ total → q ≡ total
unfolding parts_errors parts_vars
ahead-end f z q total ps e so = sym (sooner-none q) ∙ sym (sooner-none (sooner q None)) ∙ sym (ap (ahead f z q) e) ∙ so

-- of a node that was passed
pub open_found : (f : List ℕ → Option Error) (b : Bool) (y z : Around) (t : Tree) (q r : Option Error) → IsOpen b t → z.no_arguments ≡ b → settled z (kind_of t) ≡ z → y ≡ within z → r ≡ ahead f y q (parts_of t) → r ≡ sooner (after q (errors_within z t)) (hits f (var_names t))
open_found f b y z t q r h a still e found = found ∙ (λ i. sooner (after q ((ap (λ x. parts_errors x x (parts_of t)) e ∙ sym (h.0 z a still)) i)) (hits f (sym h.1 i)))

abbrev in_declaration : WalkKind → Bool
in_declaration inside.Declaration = true
in_declaration _ = false

no_declaration : (b : Bool) → cond b inside.Method inside.Plain ≡ inside.Declaration → ⊥
no_declaration true h = false≢true (ap in_declaration h)
no_declaration false h = false≢true (ap in_declaration h)

-- of a declaration behind its own errors
pub declared_found : (f : List ℕ → Option Error) (y z : Around) (t : Tree) (o q r : Option Error) → inside_of (kind_of t) (flags_of t).form ≡ inside.Declaration → settled z (kind_of t) ≡ z → y ≡ within z → q ≡ sooner (after o (plain_errors z t)) (hits f (vars_of t)) →
    r ≡ ahead f y q (parts_of t) → r ≡ sooner (after o (errors_within z t)) (hits f (var_names t))
unfolding errors_within var_names
declared_found f y z (node VariableDeclaration w g s e ps) o q r h still x d found =
    let t = node VariableDeclaration w g s e ps in
    found ∙ (λ i. ahead f (x i) (d i) ps) ∙ joined f o (own_errors z t) (parts_errors (within z) (within z) ps) (vars_of t) (parts_vars ps)
    ∙ ap (λ v. sooner (after o (own_errors z t ++ parts_errors v v ps)) (hits f (vars_of t ++ parts_vars ps))) (sym (same_round z))
    ∙ ap (λ v. sooner (after o (own_errors v t ++ parts_errors (around_first v VariableDeclaration g ps) (around_others v VariableDeclaration g ps) ps)) (hits f (vars_of t ++ parts_vars ps))) (sym still)
declared_found f y z (node Property w g s e ps) o q r h still x d found = absurd (no_declaration (is_method g.form) h)
declared_found f y z (node _ w g s e ps) o q r h still x d found = absurd (false≢true (ap in_declaration h))
