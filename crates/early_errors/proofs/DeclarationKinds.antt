-- Declarations that a walk passes: of one name, with an initializer.
use Rattle.std.proofs.Common.{◌≡◌, ℕ, ◌≤◌, Bool, true, false, not, cond, List, [], ◌∷◌, ◌++◌, filter, Some, refl, ap, subst, ◌∙◌, arith, append-nil}
use Rattle.std.specs.Prelude.{◌&&◌}
use Rattle.std.specs.Bool.{OnFalse}
use Rattle.std.proofs.lemmas.Bool.{false≢true}
use Rattle.tree.specs.declared.kind.Kind.TheVariants as kind
use Rattle.tree.specs.Tree.{Tree, node, none, part, gap, kind_of, text_of, start_of, parts_of, part_at, part_count}
use Rattle.language.specs.Vocabulary.{is, among}
use Rattle.early_errors.specs.declared.EarlyError.TheVariants as error
use Rattle.early_errors.specs.declared.own.OwnErrors.TheVariants as own
use Rattle.early_errors.specs.declared.skipping.SkipTest.{SkipTest}
use Rattle.early_errors.specs.declared.skipping.SkipTest.TheVariants as telling
use Rattle.name_tables.specs.BoundNames.{first_bound_names}
use Rattle.early_errors.specs.Names.{places, twice, first_names, names_in, var_names}
use Rattle.early_errors.specs.Scopes.{without_initializer}
use Rattle.early_errors.specs.Strict.{is_restricted}
use Rattle.early_errors.specs.Early.{each, parts_errors}
use Rattle.early_errors.specs.Passed.{IsOpen, AreFree, BindsOne, telling_of}
use Rattle.early_errors.proofs.OwnErrorsByKind.{small_given}
use Rattle.early_errors.proofs.PartsByKind.{opened, same_round, never, none_where, name_free}

abbrev is_declaration : SkipTest → Bool
is_declaration telling.Declaration = true
is_declaration _ = false

pub open_declaration : (c : Bool) (t d : Tree) → telling_of (kind_of t) ≡ telling.Declaration → is (text_of t) "var" ≡ false → part_count (parts_of t) ≤ 1 → Some d ≡ part_at (parts_of t) 0 → BindsOne d → IsOpen c t
unfolding var_names
open_declaration c (node kind.VariableDeclaration w g s e none) d h v l k n = absurd (cc)
open_declaration c (node kind.VariableDeclaration w g s e (gap ps)) d h v l k n = absurd (cc)
open_declaration c (node kind.VariableDeclaration w g s e (part u (part o ps))) d h v l k n = absurd (omega (arith, l))
open_declaration c (node kind.VariableDeclaration w g s e (part u (gap ps))) d h v l k n = absurd (omega (arith, l))
open_declaration c (node kind.VariableDeclaration w g s e (part u none)) d h v l k n =
    let t = node kind.VariableDeclaration w g s e (part u none) in
    let same : d ≡ u = cc in
    let m : BindsOne u = subst BindsOne same n in
    let names : first_names (parts_of u) ++ [] ≡ first_names (parts_of u) = append-nil (first_names (parts_of u)) in
    opened c t
    (λ z a. small_given own.Variables z t refl
    ∙ (λ i. each error.EvalOrArguments (places ((ap (filter is_restricted) names ∙ m.1.0) i))
    ++ (each error.DuplicateLexicalName (places ((ap (λ b. twice (cond b [] (first_names (parts_of u) ++ []))) v ∙ ap twice names ∙ m.1.1) i))
    ++ never error.ConstWithoutInitializer (is w "const" && not z.in_head) (without_initializer u ++ []) (ap (λ x. x ++ []) m.0) i)))
    ((λ z a. ap (λ y. parts_errors y y (part u none)) (same_round z)), ap (λ b. cond b (first_names (parts_of u) ++ []) [] ++ (var_names u ++ [])) v)
open_declaration c (node _ w g s e ps) d h v l k n = absurd (false≢true (ap is_declaration h))

pub declaration_given : (t d : Tree) (b : Bool) → telling_of (kind_of t) ≡ telling.Declaration → is (text_of t) "var" ≡ false → part_count (parts_of t) ≤ 1 → Some d ≡ part_at (parts_of t) 0 → OnFalse b (BindsOne d) → OnFalse b ((c : Bool) → IsOpen c t)
declaration_given t d b h v l k n = none_where b (λ m c. open_declaration c t d h v l k m) n

-- a declarator with an initializer, and with a target given
binds : (t u x : Tree) → Some x ≡ part_at (parts_of t) 1 → Some u ≡ part_at (parts_of t) 0 → AreFree (names_in u) → BindsOne t
unfolding first_bound_names
binds (node k w g s e none) u x i h n = absurd (cc)
binds (node k w g s e (gap ps)) u x i h n = absurd (cc)
binds (node k w g s e (part v none)) u x i h n = absurd (cc)
binds (node k w g s e (part v (gap ps))) u x i h n = absurd (cc)
binds (node k w g s e (part v (part y ps))) u x i h n =
    let same : u ≡ v = cc in
    (refl, subst (λ o. AreFree (names_in o)) same n)

pub binds_given : (t u x : Tree) (b : Bool) → Some x ≡ part_at (parts_of t) 1 → Some u ≡ part_at (parts_of t) 0 → OnFalse b (AreFree (names_in u)) → OnFalse b (BindsOne t)
binds_given t u x b i e h = none_where b (binds t u x i e) h

pub one_free : (t : Tree) (w : List ℕ) (b : Bool) → w ≡ text_of t → b ≡ among w ("eval" ∷ "arguments" ∷ []) → names_in t ≡ (text_of t, start_of t) ∷ [] → OnFalse b (AreFree (names_in t))
one_free t w true h e n = tt
one_free t w false h e n = (name_free t w false h e n, ap twice n)
