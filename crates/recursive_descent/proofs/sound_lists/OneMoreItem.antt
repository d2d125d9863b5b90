-- A list with one more item: what runs over the rest behind it runs over both (ECMA-262 12.2, 12.3.8, 12.16, 13.3, 13.12, 14.1, 14.6).
use Rattle.std.proofs.Common.{◌≡◌, ℕ, Bool, true, false, cond, List, [], ◌∷◌, ◌++◌, refl, sym, ap, ◌∙◌, subst}
use Rattle.std.specs.Prelude.{Option, Some, None, codes, map}
use Rattle.std.proofs.lemmas.List.{append-nil}
use Rattle.std.proofs.lemmas.Bool.{true≢false}
use Rattle.tokens.specs.declared.token.TokenClass.TheVariants.{Punctuator}
use Rattle.tree.specs.declared.kind.Kind.{Kind}
use Rattle.tree.specs.declared.kind.Kind.TheVariants.{SpreadElement, RestElement, Property}
use Rattle.tree.specs.declared.kind.Pair.{Pair}
use Rattle.tree.specs.Tree.{Tree, node, Parts, none, part, gap, push, push_gap, join, kind_of}
use Rattle.language.specs.declared.Rank.TheVariants.{Expression, Assignment}
use Rattle.language.specs.declared.Start.{Start}
use Rattle.language.specs.declared.Start.TheVariants.{Any}
use Rattle.language.specs.Covers.{Reading, as_expression, as_pattern, element_as, property_as}
use Rattle.language.specs.Vocabulary.{is_rest}
use Rattle.language.specs.Pieces.{Role, expr, declarator, switch_case, member, Piece, PieceOf, settle_piece, sign, sp, put_at, sub, tail, many, may, nothing, separator, is_none, listed as listed_pieces, elements, argument, pattern_element, with_default}
use Rattle.language.specs.Expressions.{assignment, sequence, object_part, object_pattern_part}
use Rattle.language.specs.Statements.{lines, declarators, member_lines}
use Rattle.language.specs.Token.{Token}
use Rattle.language.specs.Derivation.{done, step, within, missing, token, with_mark, without_mark, no_more, one_more as another, laid}
use Rattle.language.proofs.list_loops.FirstPieces.{run_never}
use Rattle.covers.specs.declared.list.ListKind.{ListKind}
use Rattle.covers.specs.declared.list.ListKind.TheVariants as listed
use Rattle.tree.specs.Patterns.{pattern_tree, pattern_parts}
use Rattle.recursive_descent.specs.Soundness.{RunsIn, SpelledAs, read_as, all_read_as}
use Rattle.recursive_descent.specs.SoundnessOfLists.{stood_in, left_of, has_reading, item_role, several, is_chunked}
use Rattle.recursive_descent.specs.Follows.{Semicolons, none_passed, one_more}
use Rattle.token_cursor.specs.Seen.{ReadsHere}
use Rattle.token_cursor.specs.SourceText.{SourceText, SeenNext, behind_in}
use Rattle.recursive_descent.specs.Spelled.{SpellsIn}

-- the parts in a reading, with one more
join_push : (qs : Parts) (n : Tree) (ps : Parts) → join (push qs n) ps ≡ join qs (part n ps)
join_push none n ps = refl
join_push (part k qs) n ps = ap (λ x. part k x) (join_push qs n ps)
join_push (gap qs) n ps = ap (λ x. gap x) (join_push qs n ps)

join_gap : (qs ps : Parts) → join (push_gap qs) ps ≡ join qs (gap ps)
join_gap none ps = refl
join_gap (part k qs) ps = ap (λ x. part k x) (join_gap qs ps)
join_gap (gap qs) ps = ap (λ x. gap x) (join_gap qs ps)

pattern_push : (qs : Parts) (n : Tree) → pattern_parts 0 (push qs n) ≡ push (pattern_parts 0 qs) (pattern_tree n)
pattern_push none n = refl
pattern_push (part k qs) n = ap (λ x. part (pattern_tree k) x) (pattern_push qs n)
pattern_push (gap qs) n = ap (λ x. gap x) (pattern_push qs n)

pattern_gap : (qs : Parts) → pattern_parts 0 (push_gap qs) ≡ push_gap (pattern_parts 0 qs)
pattern_gap none = refl
pattern_gap (part k qs) = ap (λ x. part (pattern_tree k) x) (pattern_gap qs)
pattern_gap (gap qs) = ap (λ x. gap x) (pattern_gap qs)

pub read_push : (a : Reading) (qs : Parts) (n : Tree) (ps : Parts) → join (all_read_as a qs) (part (read_as a n) ps) ≡ join (all_read_as a (push qs n)) ps
read_push as_expression qs n ps = sym (join_push qs n ps)
read_push (as_pattern b) qs n ps = sym (join_push (pattern_parts 0 qs) (pattern_tree n) ps) ∙ ap (λ x. join x ps) (sym (pattern_push qs n))

pub read_gap : (a : Reading) (qs ps : Parts) → join (all_read_as a qs) (gap ps) ≡ join (all_read_as a (push_gap qs)) ps
read_gap as_expression qs ps = sym (join_gap qs ps)
read_gap (as_pattern b) qs ps = sym (join_gap (pattern_parts 0 qs) ps) ∙ ap (λ x. join x ps) (sym (pattern_gap qs))

pub join_none : (ps : Parts) → join ps none ≡ ps
join_none none = refl
join_none (part n ps) = ap (λ x. part n x) (join_none ps)
join_none (gap ps) = ap (λ x. gap x) (join_none ps)

-- an object's part by its kind
object_piece : (n : Tree) → put_at (property_as as_expression (kind_of n)) ≡ object_part n
object_piece (node SpreadElement w g s e ps) = refl
object_piece (node Property w g s e ps) = refl
object_piece (node _ w g s e ps) = refl

pattern_piece : (b : Bool) (n : Tree) → put_at (property_as (as_pattern b) (kind_of n)) ≡ object_pattern_part b n
pattern_piece b (node RestElement w g s e ps) = refl
pattern_piece b (node Property w g s e ps) = refl
pattern_piece b (node _ w g s e ps) = refl

-- a comma, where one stands between items
abbrev pub CommaBetween : SourceText → ListKind → Token → Token → Type 0
CommaBetween text listed.Members s e = e ≡ s
CommaBetween text (listed.Cases r) s e = e ≡ s
CommaBetween text listed.Template s e = e ≡ s
CommaBetween text _ s e = ReadsHere text Punctuator (codes ",") s e

module _ (text : SourceText) (i : Bool) (f : Start) where
  abbrev Settled : List Piece → List (PieceOf Role)
  Settled qs = map (settle_piece Expression i f) qs

  -- an item at a position that its kind has, and what follows it
  item_on : {o : ℕ} {a : Role} {qs : List (PieceOf Role)} {n : Tree} {ps : Parts} {s m e : Token} {P Q : List Pair} (x : Option Role) → x ≡ Some a → SpellsIn text o a n s m P → RunsIn text o qs ps m e Q → RunsIn text o (settle_piece Expression i f (put_at x) ∷ qs) (part n ps) s e (P ++ Q)
  item_on None h p d = cc
  item_on {o} {a} {n = n} {s = s} {m = m} {P = P} (Some b) h p d = let same : a ≡ b = cc in within (subst (λ v. SpellsIn text o v n s m P) same p) d

  -- one more item where its piece is written otherwise
  item_by : {o : ℕ} {a : Role} {qs : List (PieceOf Role)} {n : Tree} {ps : Parts} {s m e : Token} {P Q : List Pair} (x : Option Role) (q : Piece) → put_at x ≡ q → x ≡ Some a → SpellsIn text o a n s m P → RunsIn text o qs ps m e Q → RunsIn text o (settle_piece Expression i f q ∷ qs) (part n ps) s e (P ++ Q)
  item_by {o} {qs = qs} {n = n} {ps = ps} {s = s} {e = e} {P = P} {Q = Q} x q w h p d = subst (λ y. RunsIn text o (settle_piece Expression i f y ∷ qs) (part n ps) s e (P ++ Q)) w (item_on x h p d)

  -- a comma behind an item that is no rest
  module _ {o : ℕ} {m x e : Token} {R : List Pair} (comma : ReadsHere text Punctuator (codes ",") m x) where
    listed_comma : (g : Tree → Piece) (k : Kind) (ps : Parts) → is_rest k ≡ false → RunsIn text o (Settled (listed_pieces g ps)) ps x e R → RunsIn text o (Settled (separator k (is_none ps) ++ listed_pieces g ps)) ps m e R
    listed_comma g k none h d = of (is_rest k) h
      where
        of : (c : Bool) → c ≡ false → RunsIn text o (Settled (cond c [] (may (codes ",") ∷ []) ++ [])) none m e R
        of true h = absurd (true≢false h)
        of false h = step (with_mark comma) d
    listed_comma g k (part n ps) h d = of (is_rest k) h
      where
        of : (c : Bool) → c ≡ false → RunsIn text o (Settled (cond c nothing (sign "," ∷ sp ∷ []) ++ listed_pieces g (part n ps))) (part n ps) m e R
        of true h = absurd (true≢false h)
        of false h = step (token comma) (step laid d)
    listed_comma g k (gap ps) h d = absurd (run_never Token (SeenNext text) (behind_in text) d)

    elements_comma : (g : Tree → Piece) (k : Kind) (ps : Parts) → is_rest k ≡ false → RunsIn text o (Settled (elements g ps)) ps x e R → RunsIn text o (Settled (separator k (is_none ps) ++ elements g ps)) ps m e R
    elements_comma g k none h d = of (is_rest k) h
      where
        of : (c : Bool) → c ≡ false → RunsIn text o (Settled (cond c [] (may (codes ",") ∷ []) ++ [])) none m e R
        of true h = absurd (true≢false h)
        of false h = step (with_mark comma) d
    elements_comma g k (part n ps) h d = of (is_rest k) h
      where
        of : (c : Bool) → c ≡ false → RunsIn text o (Settled (cond c nothing (sign "," ∷ sp ∷ []) ++ elements g (part n ps))) (part n ps) m e R
        of true h = absurd (true≢false h)
        of false h = step (token comma) (step laid d)
    elements_comma g k (gap ps) h d = of (is_rest k) h
      where
        of : (c : Bool) → c ≡ false → RunsIn text o (Settled (cond c nothing (sign "," ∷ sp ∷ []) ++ elements g (gap ps))) (gap ps) m e R
        of true h = absurd (true≢false h)
        of false h = step (token comma) (step laid d)

    -- a hole
    pub hole_comma : (g : Tree → Piece) (ps : Parts) → RunsIn text o (Settled (elements g ps)) ps x e R → RunsIn text o (Settled (elements g (gap ps))) (gap ps) m e R
    hole_comma g none d = missing (step (token comma) d)
    hole_comma g (part n ps) d = missing (step (token comma) (step laid d))
    hole_comma g (gap ps) d = missing (step (token comma) (step laid d))

    -- expressions
    several_comma : (q : Piece) (ps : Parts) → settle_piece Expression i f q ≡ settle_piece Expression i f (sub (tail Assignment Any)) → RunsIn text o (Settled (several q ps)) ps x e R → RunsIn text o (Settled (sequence ps)) ps m e R
    several_comma q none same d = absurd (run_never Token (SeenNext text) (behind_in text) d)
    several_comma q (part n ps) same d = step (token comma) (step laid (subst (λ y. RunsIn text o (y ∷ Settled (sequence ps)) (part n ps) x e R) same d))
    several_comma q (gap ps) same d = absurd (run_never Token (SeenNext text) (behind_in text) d)

    declarators_comma : {n : Tree} {s : Token} {P : List Pair} (a : Role) (ps : Parts) → SpellsIn text o a n s m P → RunsIn text o (Settled (declarators a ps)) ps x e R → RunsIn text o (Settled (declarators a (part n ps))) (part n ps) s e (P ++ R)
    declarators_comma a none p d = absurd (run_never Token (SeenNext text) (behind_in text) d)
    declarators_comma a (part k ps) p d = within p (step (token comma) (step laid d))
    declarators_comma a (gap ps) p d = absurd (run_never Token (SeenNext text) (behind_in text) d)

  -- no comma behind the last
  listed_end : {o : ℕ} {m : Token} (k : Kind) → RunsIn text o (Settled (separator k true ++ [])) none m m []
  listed_end {o} {m} k = of (is_rest k)
    where
      of : (c : Bool) → RunsIn text o (Settled (cond c [] (may (codes ",") ∷ []) ++ [])) none m m []
      of true = done
      of false = step without_mark done

  -- semicolons between members
  a_semicolon : {o : ℕ} {qs : List (PieceOf Role)} {ps : Parts} {s m e : Token} {P : List Pair} → ReadsHere text Punctuator (codes ";") s m → RunsIn text o (many (codes ";") ∷ qs) ps m e P → RunsIn text o (many (codes ";") ∷ qs) ps s e P
  a_semicolon r (step q d) = step (another r q) d

  pub semicolons_on : {o : ℕ} {qs : List (PieceOf Role)} {ps : Parts} {s m e : Token} {P : List Pair} → Semicolons text s m → RunsIn text o (many (codes ";") ∷ qs) ps m e P → RunsIn text o (many (codes ";") ∷ qs) ps s e P
  semicolons_on none_passed d = d
  semicolons_on (one_more before r) d = semicolons_on before (a_semicolon r d)

-- lists whose next item may be read: no setter's parameter, which is alone, and none of what has none
abbrev pub goes_on_at : ListKind → Bool
goes_on_at listed.OneParameter = false
goes_on_at listed.NoParameter = false
goes_on_at listed.Template = false
goes_on_at _ = true

-- lists in which a comma may stand behind the last item
abbrev pub trails_at : ListKind → Bool
trails_at listed.Arguments = true
trails_at listed.Elements = true
trails_at listed.Properties = true
trails_at listed.ParenthesizedItems = true
trails_at listed.AsyncArguments = true
trails_at listed.Parameters = true
trails_at _ = false

-- lists that may have an item
abbrev pub has_items : ListKind → Bool
has_items listed.NoParameter = false
has_items _ = true

some_is : {a b : Role} → Some a ≡ Some b → a ≡ b
some_is e = cc

module _ (text : SourceText) (f : Start) {o : ℕ} {s m x e : Token} {Q R : List Pair} where
  -- one more item and a comma, where one stands between items
  pub next_runs : (l : ListKind) (before after : Bool) (a : Reading) (n : Tree) (ps : Parts) → goes_on_at l ≡ true → has_reading l a ≡ true → SpelledAs (item_role l a) text o n s m Q → (trails_at l ≡ true → is_rest (kind_of n) ≡ false) → CommaBetween text l m x →
      RunsIn text o (stood_in f l (left_of l after a ps)) ps x e R → RunsIn text o (stood_in f l (left_of l before a (part n ps))) (part n ps) s e (Q ++ R)
  next_runs listed.Arguments u v as_expression n ps g h it plain comma d = item_on text true f (element_as as_expression (kind_of n)) it.it_is it.spelled (listed_comma text true f comma argument (kind_of n) ps (plain refl) d)
  next_runs listed.Arguments u v (as_pattern b) n ps g h it plain comma d = cc
  next_runs listed.Elements u v as_expression n ps g h it plain comma d = item_on text true f (element_as as_expression (kind_of n)) it.it_is it.spelled (elements_comma text true f comma argument (kind_of n) ps (plain refl) d)
  next_runs listed.Elements u v (as_pattern b) n ps g h it plain comma d = item_on text true f (element_as (as_pattern b) (kind_of n)) it.it_is it.spelled (elements_comma text true f comma (pattern_element b) (kind_of n) ps (plain refl) d)
  next_runs listed.Properties u v as_expression n ps g h it plain comma d = item_by text true f (property_as as_expression (kind_of n)) (object_part n) (object_piece n) it.it_is it.spelled (listed_comma text true f comma object_part (kind_of n) ps (plain refl) d)
  next_runs listed.Properties u v (as_pattern b) n ps g h it plain comma d = item_by text true f (property_as (as_pattern b) (kind_of n)) (object_pattern_part b n) (pattern_piece b n) it.it_is it.spelled (listed_comma text true f comma (object_pattern_part b) (kind_of n) ps (plain refl) d)
  next_runs listed.ParenthesizedItems u v as_expression n ps g h it plain comma d = item_on text true f (Some (expr Assignment true Any)) it.it_is it.spelled (several_comma text true f comma assignment ps refl d)
  next_runs listed.ParenthesizedItems u v (as_pattern b) n ps g h it plain comma d = item_on text true f (element_as (as_pattern b) (kind_of n)) it.it_is it.spelled (listed_comma text true f comma (pattern_element b) (kind_of n) ps (plain refl) d)
  next_runs listed.AsyncArguments u v as_expression n ps g h it plain comma d = item_on text true f (element_as as_expression (kind_of n)) it.it_is it.spelled (listed_comma text true f comma argument (kind_of n) ps (plain refl) d)
  next_runs listed.AsyncArguments u v (as_pattern true) n ps g h it plain comma d = item_on text true f (element_as (as_pattern true) (kind_of n)) it.it_is it.spelled (listed_comma text true f comma (pattern_element true) (kind_of n) ps (plain refl) d)
  next_runs listed.AsyncArguments u v (as_pattern false) n ps g h it plain comma d = cc
  next_runs listed.Parameters u v as_expression n ps g h it plain comma d = cc
  next_runs listed.Parameters u v (as_pattern true) n ps g h it plain comma d = item_on text true f (element_as (as_pattern true) (kind_of n)) it.it_is it.spelled (listed_comma text true f comma (pattern_element true) (kind_of n) ps (plain refl) d)
  next_runs listed.Parameters u v (as_pattern false) n ps g h it plain comma d = cc
  next_runs listed.NoParameter u v a n ps g h it plain comma d = cc
  next_runs listed.OneParameter u v a n ps g h it plain comma d = cc
  next_runs listed.Template u v a n ps g h it plain comma d = cc
  next_runs (listed.Sequence i) u v as_expression n ps g h it plain comma d = item_on text i f (Some (expr Assignment i Any)) it.it_is it.spelled (several_comma text i f comma (sub (tail Assignment Any)) ps refl d)
  next_runs (listed.Sequence i) u v (as_pattern b) n ps g h it plain comma d = cc
  next_runs (listed.Declarators i) u v as_expression n ps g h it plain comma d = declarators_comma text true f comma (declarator i true) ps (the_role it) d
    where
      the_role : SpelledAs (item_role (listed.Declarators i) as_expression) text o n s m Q → SpellsIn text o (declarator i true) n s m Q
      the_role y = subst (λ c. SpellsIn text o c n s m Q) (sym (some_is y.it_is)) y.spelled
  next_runs (listed.Declarators i) u v (as_pattern b) n ps g h it plain comma d = declarators_comma text true f comma (declarator i false) ps (the_role it) d
    where
      the_role : SpelledAs (item_role (listed.Declarators i) (as_pattern b)) text o n s m Q → SpellsIn text o (declarator i false) n s m Q
      the_role y = subst (λ c. SpellsIn text o c n s m Q) (sym (some_is y.it_is)) y.spelled
  next_runs (listed.Cases r) u v a n ps g h it plain comma d = step laid (item_on text true f (Some (switch_case r)) it.it_is it.spelled (subst (λ y. RunsIn text o (stood_in f (listed.Cases r) (lines (switch_case r) ps)) ps y e R) comma d))
  next_runs listed.Members u v a n ps g h it plain comma d = step no_more (step laid (item_on text true f (Some member) it.it_is it.spelled (subst (λ y. RunsIn text o (stood_in f listed.Members (many (codes ";") ∷ member_lines ps)) ps y e R) comma d)))

-- the last item
module _ (text : SourceText) (f : Start) {o : ℕ} {s m : Token} {Q : List Pair} where
  -- what ends behind it
  ends_with : {qs : List (PieceOf Role)} {n : Tree} → RunsIn text o qs (part n none) s m (Q ++ []) → RunsIn text o qs (part n none) s m Q
  ends_with {qs} {n} d = subst (λ R. RunsIn text o qs (part n none) s m R) (append-nil Q) d

  pub last_runs : (l : ListKind) (before : Bool) (a : Reading) (n : Tree) → is_chunked l ≡ false → has_items l ≡ true → has_reading l a ≡ true → SpelledAs (item_role l a) text o n s m Q → RunsIn text o (stood_in f l (left_of l before a (part n none))) (part n none) s m Q
  last_runs listed.Arguments u as_expression n c k h it = ends_with (item_on text true f (element_as as_expression (kind_of n)) it.it_is it.spelled (listed_end text true f (kind_of n)))
  last_runs listed.Arguments u (as_pattern b) n c k h it = cc
  last_runs listed.Elements u as_expression n c k h it = ends_with (item_on text true f (element_as as_expression (kind_of n)) it.it_is it.spelled (listed_end text true f (kind_of n)))
  last_runs listed.Elements u (as_pattern b) n c k h it = ends_with (item_on text true f (element_as (as_pattern b) (kind_of n)) it.it_is it.spelled (listed_end text true f (kind_of n)))
  last_runs listed.Properties u as_expression n c k h it = ends_with (item_by text true f (property_as as_expression (kind_of n)) (object_part n) (object_piece n) it.it_is it.spelled (listed_end text true f (kind_of n)))
  last_runs listed.Properties u (as_pattern b) n c k h it = ends_with (item_by text true f (property_as (as_pattern b) (kind_of n)) (object_pattern_part b n) (pattern_piece b n) it.it_is it.spelled (listed_end text true f (kind_of n)))
  last_runs listed.ParenthesizedItems u as_expression n c k h it = ends_with (item_on text true f (Some (expr Assignment true Any)) it.it_is it.spelled done)
  last_runs listed.ParenthesizedItems u (as_pattern b) n c k h it = ends_with (item_on text true f (element_as (as_pattern b) (kind_of n)) it.it_is it.spelled (listed_end text true f (kind_of n)))
  last_runs listed.AsyncArguments u as_expression n c k h it = ends_with (item_on text true f (element_as as_expression (kind_of n)) it.it_is it.spelled (listed_end text true f (kind_of n)))
  last_runs listed.AsyncArguments u (as_pattern true) n c k h it = ends_with (item_on text true f (element_as (as_pattern true) (kind_of n)) it.it_is it.spelled (listed_end text true f (kind_of n)))
  last_runs listed.AsyncArguments u (as_pattern false) n c k h it = cc
  last_runs listed.Parameters u as_expression n c k h it = cc
  last_runs listed.Parameters u (as_pattern true) n c k h it = ends_with (item_on text true f (element_as (as_pattern true) (kind_of n)) it.it_is it.spelled (listed_end text true f (kind_of n)))
  last_runs listed.Parameters u (as_pattern false) n c k h it = cc
  last_runs listed.NoParameter u a n c k h it = cc
  last_runs listed.OneParameter u as_expression n c k h it = cc
  last_runs listed.OneParameter u (as_pattern true) n c k h it = ends_with (item_on text true f (with_default true (kind_of n)) it.it_is it.spelled done)
  last_runs listed.OneParameter u (as_pattern false) n c k h it = cc
  last_runs listed.Template u a n c k h it = cc
  last_runs (listed.Sequence i) u as_expression n c k h it = ends_with (item_on text i f (Some (expr Assignment i Any)) it.it_is it.spelled done)
  last_runs (listed.Sequence i) u (as_pattern b) n c k h it = cc
  last_runs (listed.Declarators i) u as_expression n c k h it = ends_with (item_on text true f (Some (declarator i true)) it.it_is it.spelled done)
  last_runs (listed.Declarators i) u (as_pattern b) n c k h it = ends_with (item_on text true f (Some (declarator i false)) it.it_is it.spelled done)
  last_runs (listed.Cases r) u a n c k h it = ends_with (step laid (item_on text true f (Some (switch_case r)) it.it_is it.spelled done))
  last_runs listed.Members u a n c k h it = ends_with (step no_more (step laid (item_on text true f (Some member) it.it_is it.spelled (step no_more done))))
