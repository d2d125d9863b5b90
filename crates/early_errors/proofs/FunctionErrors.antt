-- How the errors of a function come together.
use Rattle.std.proofs.Common.{◌≡◌, ℕ, Bool, false, not, List, ◌++◌, Option, filter, refl, sym, ap, ◌∙◌}
use Rattle.std.proofs.lemmas.List.{map-append}
use Rattle.std.proofs.lemmas.List.Elements.{filter-append}
use Rattle.tree.specs.declared.kind.Kind.{Kind}
use Rattle.tree.specs.declared.kind.Kind.TheVariants.{FunctionDeclaration, FunctionExpression, ArrowFunctionExpression}
use Rattle.tree.specs.Tree.{Tree, Parts, kind_of, parts_of, parts_drop}
use Rattle.early_errors.specs.declared.EarlyError.TheVariants.{EvalOrArguments, DuplicateParameter, ParameterIsLexicalName, UseStrictBehindPattern}
use Rattle.early_errors.specs.declared.own.OwnErrors.TheVariants as own
use Rattle.early_errors.specs.Around.{Around}
use Rattle.name_tables.specs.BoundNames.{each_part}
use Rattle.early_errors.specs.Names.{Named, places, when, twice, shared, lexical_names, parameter_names, parameters_on, body_items}
use Rattle.early_errors.specs.Functions.{is_simple, use_strict}
use Rattle.early_errors.specs.Strict.{is_restricted, names_given}
use Rattle.early_errors.specs.Early.{Error, each, own_errors}
use Rattle.early_errors.specs.Owns.{own_of, items_at, parameter_place, function_name}
use Rattle.early_errors.specs.Walk.{after, names_at}
use Rattle.early_errors.proofs.Least.{after-append, each-append}
use Rattle.early_errors.proofs.FirstNames.{first_names-at}
use Rattle.early_errors.proofs.FunctionLists.{others-drop}
use Rattle.early_errors.proofs.OwnErrorsByKind.{small_given, names_of, doubles_of, lexicals_of, directives_of}

parameters-from : (k : Kind) (ps : Parts) → own_of k ≡ own.Function → parts_drop (parameter_place k) ps ≡ parameters_on k ps
parameters-from FunctionDeclaration ps e = sym (others-drop ps)
parameters-from FunctionExpression ps e = sym (others-drop ps)
parameters-from ArrowFunctionExpression ps e = refl
parameters-from _ ps e = absurd (cc)

names-from : (k : Kind) (ps : Parts) → own_of k ≡ own.Function → names_at (function_name (parameter_place k) ps) ++ parameter_names (parts_drop (parameter_place k) ps) ≡ names_given k ps
names-from FunctionDeclaration ps e = λ i. sym (first_names-at ps) i ++ parameter_names (sym (others-drop ps) i)
names-from FunctionExpression ps e = λ i. sym (first_names-at ps) i ++ parameter_names (sym (others-drop ps) i)
names-from ArrowFunctionExpression ps e = refl
names-from _ ps e = absurd (cc)

restricted-both : (o : Option Error) (xs ys : List Named) →
    after (after o (each EvalOrArguments (places (filter is_restricted xs)))) (each EvalOrArguments (places (filter is_restricted ys))) ≡ after o (each EvalOrArguments (places (filter is_restricted (xs ++ ys))))
restricted-both o xs ys =
    sym (after-append o (each EvalOrArguments (places (filter is_restricted xs))) (each EvalOrArguments (places (filter is_restricted ys))))
    ∙ ap (after o) (sym (ap (λ l. each EvalOrArguments (places l)) (filter-append is_restricted xs ys) ∙ ap (each EvalOrArguments) (map-append (λ x. x.1) (filter is_restricted xs) (filter is_restricted ys))
    ∙ each-append EvalOrArguments (places (filter is_restricted xs)) (places (filter is_restricted ys))))

four : (o : Option Error) (a b c d : List Error) → after (after (after (after o a) b) c) d ≡ after o (a ++ (b ++ (c ++ d)))
four o a b c d = sym (after-append o a (b ++ (c ++ d)) ∙ after-append (after o a) b (c ++ d) ∙ after-append (after (after o a) b) c d)

pub functions : (z : Around) (t : Tree) (k : Kind) (from : ℕ) (n b : Option Tree) (ns vs : List Named) (s : Bool) (o p q r u : Option Error) → own_of (kind_of t) ≡ own.Function → k ≡ kind_of t → from ≡ parameter_place k →
    n ≡ function_name from (parts_of t) → ns ≡ names_at n → p ≡ after o (each EvalOrArguments (places (filter is_restricted ns))) → vs ≡ parameter_names (parts_drop from (parts_of t)) →
    q ≡ after p (each EvalOrArguments (places (filter is_restricted vs))) → r ≡ after q (each DuplicateParameter (places (twice vs))) → items_at b ≡ body_items (parts_drop from (parts_of t)) → s ≡ is_simple (parts_drop from (parts_of t)) →
    u ≡ after (after r (each ParameterIsLexicalName (places (shared (each_part (lexical_names false) (items_at b)) vs)))) (each UseStrictBehindPattern (when (not s) (each_part use_strict (items_at b)))) →
    u ≡ after o (own_errors z t)
functions z t k from n b ns vs s o p q r u f e g h x y v w l m j d =
    let ps = parts_of t in
    let place : from ≡ parameter_place (kind_of t) = g ∙ ap parameter_place e in
    let drop : parts_drop from ps ≡ parameters_on (kind_of t) ps = ap (λ a. parts_drop a ps) place ∙ parameters-from (kind_of t) ps f in
    let given : ns ++ vs ≡ names_given (kind_of t) ps =
    (λ i. (x ∙ ap names_at h) i ++ v i) ∙ ap (λ a. names_at (function_name a ps) ++ parameter_names (parts_drop a ps)) place ∙ names-from (kind_of t) ps f
    in
    let bound : vs ≡ parameter_names (parameters_on (kind_of t) ps) = v ∙ ap parameter_names drop in
    let body : items_at b ≡ body_items (parameters_on (kind_of t) ps) = m ∙ ap body_items drop in
    let first : q ≡ after o (names_of (kind_of t) ps) = w ∙ ap (λ a. after a (each EvalOrArguments (places (filter is_restricted vs)))) y ∙ restricted-both o ns vs ∙ ap (λ a. after o (each EvalOrArguments (places (filter is_restricted a)))) given in
    let second : r ≡ after (after o (names_of (kind_of t) ps)) (doubles_of (kind_of t) ps) = l ∙ (λ i. after (first i) (each DuplicateParameter (places (twice (bound i))))) in
    let third : u ≡ after (after (after (after o (names_of (kind_of t) ps)) (doubles_of (kind_of t) ps)) (lexicals_of (kind_of t) ps)) (directives_of (kind_of t) ps) =
    d ∙ (λ i. after (after (second i) (each ParameterIsLexicalName (places (shared (each_part (lexical_names false) (body i)) (bound i))))) (each UseStrictBehindPattern (when (not ((j ∙ ap is_simple drop) i)) (each_part use_strict (body i)))))
    in
    third ∙ four o (names_of (kind_of t) ps) (doubles_of (kind_of t) ps) (lexicals_of (kind_of t) ps) (directives_of (kind_of t) ps) ∙ sym (ap (after o) (small_given own.Function z t f))
