-- Behind an item of a given list: what is left behind a comma, or where nothing stands between items; and where the list ends (ECMA-262 12.2, 12.16, 13.3, 13.12).
use Rattle.std.proofs.Common.{◌+◌, ◌≡◌, ℕ, Bool, true, false, List, refl, ap, ◌∙◌, arith}
use Rattle.std.specs.Prelude.{◌&&◌, ◌||◌, if◌then◌else◌, nat_le}
use Rattle.std.proofs.lemmas.Bool.{and_parts, false≢true, true≢false}
use Rattle.std.proofs.lemmas.Bool.Decides.{nat_tests}
use Rattle.tree.specs.declared.kind.Pair.{Pair}
use Rattle.tree.specs.Tree.{Parts}
use Rattle.language.specs.declared.Start.TheVariants.{Any}
use Rattle.language.specs.Covers.{Reading, as_expression, as_pattern}
use Rattle.language.specs.Token.{Token}
use Rattle.covers.specs.declared.list.ListKind.{ListKind}
use Rattle.covers.specs.declared.list.ListKind.TheVariants as listed
use Rattle.covers.specs.declared.list.ListBuilder.{ListBuilder as ListOf}
use Rattle.covers.specs.declared.shape.CoverShape.{CoverShape}
use Rattle.covers.specs.Lists.{separated, reads}
use Rattle.covers.specs.Shapes.{unassigned, is_either, is_element, is_bound}
use Rattle.recursive_descent.specs.Soundness.{RunsIn, fits_as}
use Rattle.recursive_descent.specs.SoundnessOfLists.{has_reading, seen_fits, stood_in, left_of, stuck_at}
use Rattle.recursive_descent.specs.CompletenessOfLists.{RestGiven, minds_rest}
use Rattle.parser_tables.specs.Items.{is_unseparated, are_some}
use Rattle.recursive_descent.proofs.complete_lists.ListSteps.{is_single}
use Rattle.token_cursor.specs.SourceText.{SourceText}

and_both : {b c : Bool} → b ≡ true → c ≡ true → (b && c) ≡ true
and_both {b} {c} h k = ap (λ x. x && c) h ∙ k

-- a comma behind a rest leaves an expression, and behind another item all readings
abbrev comma_shape : Bool → CoverShape → CoverShape
comma_shape b s = if true && b then unassigned s else s

kept_value : (b : Bool) (s : CoverShape) → (comma_shape b s).is_expression ≡ s.is_expression
kept_value true s = refl
kept_value false s = refl

value_either : (s : CoverShape) → s.is_expression ≡ true → is_either s ≡ true
value_either s h = ap (λ b. b || is_element s.assigned) h

value_covers : (s : CoverShape) → s.is_expression ≡ true → reads listed.AsyncArguments s ≡ true
value_covers s h = ap (λ b. b || is_bound s) h

-- the list behind a comma, in terms of its kind
abbrev left_at : ListKind → ListOf → Reading → Bool
left_at x l a = (has_reading x a && seen_fits x l a) && reads x l.seen.shape

abbrev with_comma : ListOf → ListOf
with_comma l = record l { seen = separated l.seen true }

both_shaped : (x : ListKind) (l : ListOf) (a : Reading) → l.seen.is_rest ≡ false → (fits_as l.seen.shape a && reads x l.seen.shape) ≡ true → (fits_as (comma_shape l.seen.is_rest l.seen.shape) a && reads x (comma_shape l.seen.is_rest l.seen.shape)) ≡ true
both_shaped x l a h k = of l.seen.is_rest h
  where
    of : (b : Bool) → b ≡ false → (fits_as (comma_shape b l.seen.shape) a && reads x (comma_shape b l.seen.shape)) ≡ true
    of true q = absurd (true≢false q)
    of false q = k

pub comma_left : (x : ListKind) (l : ListOf) (a : Reading) → (minds_rest x a ≡ true → l.seen.is_rest ≡ false) → left_at x l a ≡ true → left_at x (with_comma l) a ≡ true
comma_left listed.Arguments l as_expression rest h = kept_value l.seen.is_rest l.seen.shape ∙ h
comma_left listed.Arguments l (as_pattern b) rest h = absurd (false≢true h)
comma_left listed.Elements l as_expression rest h =
    let v = kept_value l.seen.is_rest l.seen.shape ∙ (and_parts l.seen.shape.is_expression (is_either l.seen.shape) h).0 in
    and_both v (value_either (comma_shape l.seen.is_rest l.seen.shape) v)
comma_left listed.Elements l (as_pattern b) rest h = both_shaped listed.Elements l (as_pattern b) (rest refl) h
comma_left listed.Properties l as_expression rest h =
    let v = kept_value l.seen.is_rest l.seen.shape ∙ (and_parts l.seen.shape.is_expression (is_either l.seen.shape) h).0 in
    and_both v (value_either (comma_shape l.seen.is_rest l.seen.shape) v)
comma_left listed.Properties l (as_pattern b) rest h = both_shaped listed.Properties l (as_pattern b) (rest refl) h
comma_left listed.ParenthesizedItems l as_expression rest h = both_shaped listed.ParenthesizedItems l as_expression (rest refl) h
comma_left listed.ParenthesizedItems l (as_pattern true) rest h = both_shaped listed.ParenthesizedItems l (as_pattern true) (rest refl) h
comma_left listed.ParenthesizedItems l (as_pattern false) rest h = absurd (false≢true h)
comma_left listed.AsyncArguments l as_expression rest h =
    let v = kept_value l.seen.is_rest l.seen.shape ∙ (and_parts l.seen.shape.is_expression (reads listed.AsyncArguments l.seen.shape) h).0 in
    and_both v (value_covers (comma_shape l.seen.is_rest l.seen.shape) v)
comma_left listed.AsyncArguments l (as_pattern true) rest h = both_shaped listed.AsyncArguments l (as_pattern true) (rest refl) h
comma_left listed.AsyncArguments l (as_pattern false) rest h = absurd (false≢true h)
comma_left listed.Parameters l as_expression rest h = absurd (false≢true h)
comma_left listed.Parameters l (as_pattern true) rest h = both_shaped listed.Parameters l (as_pattern true) (rest refl) h
comma_left listed.Parameters l (as_pattern false) rest h = absurd (false≢true h)
comma_left listed.NoParameter l as_expression rest h = absurd (false≢true h)
comma_left listed.NoParameter l (as_pattern true) rest h = both_shaped listed.NoParameter l (as_pattern true) (rest refl) h
comma_left listed.NoParameter l (as_pattern false) rest h = absurd (false≢true h)
comma_left listed.OneParameter l as_expression rest h = absurd (false≢true h)
comma_left listed.OneParameter l (as_pattern true) rest h = both_shaped listed.OneParameter l (as_pattern true) (rest refl) h
comma_left listed.OneParameter l (as_pattern false) rest h = absurd (false≢true h)
comma_left listed.Template l as_expression rest h = kept_value l.seen.is_rest l.seen.shape ∙ h
comma_left listed.Template l (as_pattern b) rest h = absurd (false≢true h)
comma_left (listed.Sequence i) l as_expression rest h = kept_value l.seen.is_rest l.seen.shape ∙ h
comma_left (listed.Sequence i) l (as_pattern b) rest h = absurd (false≢true h)
comma_left (listed.Declarators i) l as_expression rest h = let u = and_parts _ l.seen.shape.is_expression h in and_both u.0 (kept_value l.seen.is_rest l.seen.shape ∙ u.1)
comma_left (listed.Declarators i) l (as_pattern true) rest h = let u = and_parts _ l.seen.shape.is_expression h in and_both u.0 (kept_value l.seen.is_rest l.seen.shape ∙ u.1)
comma_left (listed.Declarators i) l (as_pattern false) rest h = absurd (false≢true h)
comma_left (listed.Cases r) l as_expression rest h = kept_value l.seen.is_rest l.seen.shape ∙ h
comma_left (listed.Cases r) l (as_pattern b) rest h = absurd (false≢true h)
comma_left listed.Members l as_expression rest h = kept_value l.seen.is_rest l.seen.shape ∙ h
comma_left listed.Members l (as_pattern b) rest h = absurd (false≢true h)

-- behind a comma no list but a setter's is stuck
pub comma_free : (x : ListKind) (a : Reading) (ps : Parts) → is_single x ≡ false → stuck_at x a ps true ≡ false
comma_free listed.ParenthesizedItems as_expression ps h = no_and (are_some ps)
  where
    no_and : (b : Bool) → (b && false) ≡ false
    no_and true = refl
    no_and false = refl
comma_free listed.ParenthesizedItems (as_pattern b) ps h = refl
comma_free listed.OneParameter a ps h = absurd (true≢false h)
comma_free listed.NoParameter a ps h = absurd (true≢false h)
comma_free _ a ps h = refl

-- where nothing stands between items none is stuck either
pub next_free : (x : ListKind) (a : Reading) (ps : Parts) (c : Bool) → is_unseparated x ≡ true → stuck_at x a ps c ≡ false
next_free listed.Members a ps c h = refl
next_free (listed.Cases r) a ps c h = refl
next_free listed.Template a ps c h = refl
next_free _ a ps c h = absurd (false≢true h)

-- what runs is what is left, where the list isn't stuck
pub rest_runs : (text : SourceText) (b : Bool) (l : ListOf) (a : Reading) (o : ℕ) (ps : Parts) (s e : Token) (P : List Pair) → b ≡ false → RunsIn text o (stood_in Any l.listed (left_of l.listed l.seen.is_flagged a ps)) ps s e P → RestGiven text b l a o ps s e P
rest_runs text true l a o ps s e P h d = absurd (true≢false h)
rest_runs text false l a o ps s e P h d = d

-- no more than one default is left
pub defaults_left : (a b c d : ℕ) → nat_le ((a + b) + c) 1 ≡ true → nat_le d (a + c) ≡ true → nat_le (b + d) 1 ≡ true
defaults_left a b c d h k = grind (arith, nat_tests)
