-- A node's own errors, and the hits of its `var`s.
use Rattle.std.proofs.Common.{◌≡◌, ℕ, Bool, true, false, not, cond, List, [], ◌++◌, Option, filter, refl, sym, ap, ◌∙◌, append-nil}
use Rattle.std.specs.Prelude.{◌&&◌, codes}
use Rattle.std.proofs.lemmas.Slice.Eq.{bytes_eq-Decides}
use Rattle.tree.specs.declared.kind.Kind.TheVariants.{VariableDeclaration}
use Rattle.tree.specs.Tree.{Tree, node, Parts, kind_of, text_of, parts_of}
use Rattle.language.specs.Vocabulary.{is}
use Rattle.early_errors.specs.declared.EarlyError.TheVariants.{EvalOrArguments, DuplicateLexicalName, ConstWithoutInitializer}
use Rattle.early_errors.specs.declared.own.OwnErrors.{OwnErrors}
use Rattle.early_errors.specs.declared.own.OwnErrors.TheVariants as own
use Rattle.early_errors.specs.declared.own.OwnErrorInput.TheVariants as sort
use Rattle.early_errors.specs.Around.{Around}
use Rattle.name_tables.specs.BoundNames.{each_part}
use Rattle.early_errors.specs.Names.{Named, places, when, twice, declared_names}
use Rattle.early_errors.specs.Strict.{is_restricted}
use Rattle.early_errors.specs.Scopes.{without_initializer}
use Rattle.early_errors.specs.Early.{Error, each, own_errors}
use Rattle.early_errors.specs.Owns.{own_of, sort_of, doubled, plain_errors, named_errors, nameless, vars_of}
use Rattle.early_errors.specs.Walk.{sooner, after, hits}
use Rattle.early_errors.proofs.Least.{sooner-none, after-append}
use Rattle.early_errors.proofs.OwnErrorsByKind.{small_given, names_of, named_plain, nameless_plain, function_plain, is_function}

no_hits : (f : List ℕ → Option Error) (o : Option Error) (vs : List Named) → vs ≡ [] → o ≡ sooner o (hits f vs)
no_hits f o vs e = sym (sooner-none o) ∙ ap (λ v. sooner o (hits f v)) (sym e)

pub named_found : (z : Around) (t : Tree) (f : List ℕ → Option Error) (w : OwnErrors) (o q : Option Error) → w ≡ own_of (kind_of t) → sort_of w ≡ sort.Named → q ≡ after o (named_errors w z t) →
    q ≡ sooner (after o (plain_errors z t)) (hits f (vars_of t))
named_found z t f w o q e s x =
    let p = named_plain z t (ap sort_of (sym e) ∙ s) in
    x ∙ ap (λ v. after o (named_errors v z t)) e ∙ ap (after o) p.0 ∙ no_hits f (after o (plain_errors z t)) (vars_of t) p.1

pub nameless_found : (z : Around) (t : Tree) (f : List ℕ → Option Error) (w : OwnErrors) (o q : Option Error) → w ≡ own_of (kind_of t) → sort_of w ≡ sort.Nameless → q ≡ after o (nameless w z t) →
    q ≡ sooner (after o (plain_errors z t)) (hits f (vars_of t))
nameless_found z t f w o q e s x =
    let p = nameless_plain z t (ap sort_of (sym e) ∙ s) in
    x ∙ ap (λ v. after o (nameless v z t)) e ∙ ap (after o) p.0 ∙ no_hits f (after o (plain_errors z t)) (vars_of t) p.1

pub function_found : (z : Around) (t : Tree) (f : List ℕ → Option Error) (w : OwnErrors) (o q : Option Error) → w ≡ own_of (kind_of t) → sort_of w ≡ sort.Parameters → q ≡ after o (own_errors z t) →
    q ≡ sooner (after o (plain_errors z t)) (hits f (vars_of t))
function_found z t f w o q e s x =
    let p = function_plain z t (sym e ∙ is_function w s) in
    x ∙ ap (after o) p.0 ∙ no_hits f (after o (plain_errors z t)) (vars_of t) p.1

no_const : (w : List ℕ) → is w "var" ≡ true → is w "const" ≡ false
no_const w e = ap (λ v. is v "const") ((bytes_eq-Decides w (codes "var")).0 e)

abbrev declaration_errors : Around → Parts → Bool → Bool → List Error
declaration_errors z ps b c = names_of VariableDeclaration ps ++ (each DuplicateLexicalName (places (twice (cond b [] (declared_names ps)))) ++ each ConstWithoutInitializer (when (c && not z.in_head) (each_part without_initializer ps)))

pub variables_found : (z : Around) (t : Tree) (f : List ℕ → Option Error) (ns : List Named) (o p q : Option Error) → own_of (kind_of t) ≡ own.Variables → ns ≡ declared_names (parts_of t) →
    p ≡ after o (each EvalOrArguments (places (filter is_restricted ns))) → (is (text_of t) "var" ≡ true → q ≡ sooner p (hits f ns)) →
    (is (text_of t) "var" ≡ false → q ≡ after (after p (doubled DuplicateLexicalName ns)) (each ConstWithoutInitializer (when (is (text_of t) "const" && not z.in_head) (each_part without_initializer (parts_of t))))) →
    q ≡ sooner (after o (own_errors z t)) (hits f (vars_of t))
variables_found z (node VariableDeclaration w g s e ps) f ns o p q k n x y v =
    pick (is w "var") refl ∙ ap (λ l. sooner (after o l) (hits f (vars_of (node VariableDeclaration w g s e ps)))) (sym (small_given own.Variables z (node VariableDeclaration w g s e ps) k))
  where
    first : p ≡ after o (names_of VariableDeclaration ps)
    first = x ∙ ap (λ l. after o (each EvalOrArguments (places (filter is_restricted l)))) n

    pick : (b : Bool) → is w "var" ≡ b → q ≡ sooner (after o (declaration_errors z ps (is w "var") (is w "const"))) (hits f (cond (is w "var") (declared_names ps) []))
    pick true h =
        y h ∙ (λ i. sooner (first i) (hits f (n i))) ∙ ap (λ l. sooner (after o l) (hits f (declared_names ps))) (sym (append-nil (names_of VariableDeclaration ps)))
        ∙ sym (λ i. sooner (after o (declaration_errors z ps (h i) (no_const w h i))) (hits f (cond (h i) (declared_names ps) [])))
    pick false h =
        let dup = doubled DuplicateLexicalName (declared_names ps) in
        let bare = each ConstWithoutInitializer (when (is w "const" && not z.in_head) (each_part without_initializer ps)) in
        v h ∙ (λ i. after (after (first i) (doubled DuplicateLexicalName (n i))) bare)
        ∙ sym (after-append o (names_of VariableDeclaration ps) (dup ++ bare) ∙ after-append (after o (names_of VariableDeclaration ps)) dup bare) ∙ sym (sooner-none (after o (declaration_errors z ps false (is w "const"))))
        ∙ sym (λ i. sooner (after o (declaration_errors z ps (h i) (is w "const"))) (hits f (cond (h i) (declared_names ps) [])))
variables_found z (node _ w g s e ps) f ns o p q k n x y v = absurd (cc)
