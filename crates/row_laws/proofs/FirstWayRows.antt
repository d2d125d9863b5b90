-- Each node of what is derived stands as its first way says.
use Rattle.tree.specs.declared.kind.Kind.TheVariants.{Identifier}
use Rattle.std.proofs.Common.{◌≡◌, ℕ, Bool, true, false, List, [], ◌∷◌, refl, sym, subst, ◌∙◌, is_some}
use Rattle.std.specs.Prelude.{Option, Some, None, IsTrue, ◌&&◌}
use Rattle.std.proofs.lemmas.Bool.{and_from, false≢true, true≢false}
use Rattle.language.specs.declared.Rank.{Rank}
use Rattle.language.specs.declared.Rank.TheVariants.{Expression}
use Rattle.language.specs.declared.Start.{Start}
use Rattle.language.specs.declared.Start.TheVariants.{Any}
use Rattle.tree.specs.declared.kind.Pair.{Pair}
use Rattle.tree.specs.Tree.{Tree, node, Parts, parts_of, plain, none}
use Rattle.tree.specs.Uses.{implies}
use Rattle.tokens.specs.Reading.{any_goal}
use Rattle.language.specs.Vocabulary.{precedence}
use Rattle.language.specs.Pieces.{Role, expr, script, PieceOf, key, word}
use Rattle.language.specs.Token.{Token}
use Rattle.language.specs.Places.{NextIn, itself}
use Rattle.language.specs.Grammar.{ways, ways_bare, spellings}
use Rattle.language.specs.RowPositions.{roles, first_roles}
use Rattle.language.specs.Derivation.{Among, Spells, direct, grouped, Runs, done, step, opened, closed, within, missing, Step, token, with_mark, without_mark, one_more, no_more, seen, same_line, left_bare, explicit, implicit, laid, reserved_key, reserved_word}
use Rattle.language.specs.Cost.{add_cost, lesser, AtMost, at_most, if_any, least, parts_least}
use Rattle.language.specs.Layout.{some_way, first_way}
use Rattle.language.specs.LayoutFits.{lines_up}
use Rattle.language.specs.Claims.{Derives}
use Rattle.language.proofs.table.LooserPositions.{looser, same as looser_same}
use Rattle.language.proofs.table.Ranks.{looser_all}
use Rattle.language.proofs.lower_bound.LowerBound.{lower_bound, Step-roles}
use Rattle.language.proofs.table.Alike.{Like, same, at_expressions, AllLike, next}
use Rattle.language.proofs.layout.DerivedFits.{first_alike}
use Rattle.row_laws.specs.Lined.{leads, lined, parts_lined}
use Rattle.row_laws.proofs.Table.{is_row}

-- a name where reserved words stand too
key_lined : (w : List ℕ) (a b : ℕ) → lined (node Identifier w plain a b none) key ≡ true
unfolding lined parts_lined ways ways_bare spellings
key_lined w a b = refl

word_lined : (w : List ℕ) (a b : ℕ) → lined (node Identifier w plain a b none) word ≡ true
unfolding lined parts_lined ways ways_bare spellings
word_lined w a b = refl

if_any_parts : (qss : List (List (PieceOf Role))) (x : Option ℕ) → is_some (if_any qss x) ≡ true → (some_way qss ≡ true) × (is_some x ≡ true)
unfolding if_any
if_any_parts [] x h = absurd (false≢true h)
if_any_parts (qs ∷ qss) x h = (refl, h)

add_parts : (x y : Option ℕ) → is_some (add_cost x y) ≡ true → (is_some x ≡ true) × (is_some y ≡ true)
unfolding add_cost
add_parts None y h = absurd (false≢true h)
add_parts (Some m) None h = absurd (false≢true h)
add_parts (Some m) (Some n) h = (refl, refl)

lesser_one : (c : Option ℕ) → is_some (lesser c (add_cost (Some 1) c)) ≡ true → is_some c ≡ true
unfolding lesser add_cost
lesser_one None h = h
lesser_one (Some m) h = refl

some_number : {x : Option ℕ} {m : ℕ} → AtMost x m → is_some x ≡ true
some_number (at_most h) = refl

any_in : (b : Bool) → IsTrue (implies b true)
any_in true = refl
any_in false = refl

-- an expression can be spelled in a pair, and each of its parts so
whole_parts : (n : Tree) → is_some (least n (expr Expression true Any)) ≡ true →
    (some_way (ways (expr Expression true Any) n) ≡ true) × (is_some (parts_least (parts_of n) (first_roles (ways (expr Expression true Any) n))) ≡ true)
unfolding least
whole_parts (node k w g s e ps) h = if_any_parts (ways (expr Expression true Any) (node k w g s e ps)) _ (lesser_one _ h)

-- what is known of the parts
abbrev Inside : List (PieceOf Role) → Parts → Type 0
Inside qs ps = (xs : List Role) → AllLike false (roles qs) xs → is_some (parts_least ps xs) ≡ true → parts_lined ps xs ≡ true

leads_from : (qss : List (List (PieceOf Role))) (ps : Parts) → some_way qss ≡ true → lines_up (first_way qss) ps ≡ true → leads qss ps ≡ true
leads_from qss ps h l = and_from (some_way qss) (lines_up (first_way qss) ps) h l

node_lined : (a b : Role) (n : Tree) (qs : List (PieceOf Role)) → Like false a b → Among qs (ways a n) → lines_up qs (parts_of n) ≡ true → Inside qs (parts_of n) → some_way (ways b n) ≡ true → is_some (parts_least (parts_of n) (first_roles (ways b n))) ≡ true →
    (leads (ways b n) (parts_of n) && parts_lined (parts_of n) (first_roles (ways b n))) ≡ true
node_lined a b n qs l h u f w c =
    let v = first_alike {b = false} n l (λ e. absurd (false≢true e)) h w in
    and_from (leads (ways b n) (parts_of n)) (parts_lined (parts_of n) (first_roles (ways b n))) (leads_from (ways b n) (parts_of n) w (sym (v.1 (parts_of n)) ∙ u)) (f (first_roles (ways b n)) v.0 c)

like_whole : {a : Role} {y : Rank} {i : Bool} {f : Start} → Like false a (expr y i f) → Like false a (expr Expression true Any)
like_whole same = at_expressions
like_whole at_expressions = at_expressions

expression_lined : (a : Role) (y : Rank) (i : Bool) (f : Start) (n : Tree) (qs : List (PieceOf Role)) → Like false a (expr y i f) → Among qs (ways a n) → lines_up qs (parts_of n) ≡ true → Inside qs (parts_of n) → is_some (least n (expr Expression true Any)) ≡ true →
    lined n (expr y i f) ≡ true
unfolding lined
expression_lined a y i f (node k w g s e ps) qs l h u inner c =
    let p = whole_parts (node k w g s e ps) c in
    node_lined a (expr Expression true Any) (node k w g s e ps) qs (like_whole l) h u inner p.0 p.1

other_lined : (a b : Role) (n : Tree) (qs : List (PieceOf Role)) → is_row b ≡ false → Like false a b → Among qs (ways a n) → lines_up qs (parts_of n) ≡ true → Inside qs (parts_of n) → is_some (least n b) ≡ true → lined n b ≡ true
unfolding lined least
other_lined a (expr y i f) n qs r l h u inner c = absurd (true≢false r)
other_lined a b (node k w g s e ps) qs r l h u inner c =
    let p = if_any_parts (ways b (node k w g s e ps)) (parts_least ps (first_roles (ways b (node k w g s e ps)))) c in
    node_lined a b (node k w g s e ps) qs l h u inner p.0 p.1

module _ (S : Type 0) (Next : S → Token → S → Type 0) (behind : S → Token) where
  runs_line_up : {o : ℕ} {qs : List (PieceOf Role)} {ps : Parts} {s e : S} {P : List Pair} → Runs ways S Next behind o qs ps s e P → lines_up qs ps ≡ true
  runs_line_up done = refl
  runs_line_up (step p d) = step_lines _ _ p (runs_line_up d)
    where
      step_lines : {q : PieceOf Role} (qs : List (PieceOf Role)) (ps : Parts) {s m : S} → Step S Next behind q s m → lines_up qs ps ≡ true → lines_up (q ∷ qs) ps ≡ true
      step_lines qs ps (token x) h = h
      step_lines qs ps (with_mark x) h = h
      step_lines qs ps without_mark h = h
      step_lines qs ps (one_more x y) h = h
      step_lines qs ps no_more h = h
      step_lines qs ps (seen x) h = h
      step_lines qs ps (same_line x y) h = h
      step_lines qs ps (left_bare x y) h = h
      step_lines qs ps (explicit x) h = h
      step_lines qs ps (implicit x y) h = h
      step_lines qs ps laid h = h
  runs_line_up (opened p d) = runs_line_up d
  runs_line_up (closed p d) = runs_line_up d
  runs_line_up (within p d) = runs_line_up d
  runs_line_up (missing d) = runs_line_up d

  -- with a pair round it, a cost
  whole_some : {o : ℕ} {y : Rank} {i : Bool} {f : Start} {n : Tree} {s e : S} {P : List Pair} → Spells ways S Next behind o (expr y i f) n s e P → is_some (least n (expr Expression true Any)) ≡ true
  whole_some {y = y} {i = i} d = some_number (lower_bound S Next behind d (expr Expression true Any) (looser (looser_all (precedence y)) (any_in i) refl))

  mutual
    unfolding parts_least parts_lined

    pub spelled_lined : {o : ℕ} {a : Role} {n : Tree} {s e : S} {P : List Pair} → Spells ways S Next behind o a n s e P → (b : Role) → Like false a b → is_some (least n b) ≡ true → lined n b ≡ true
    spelled_lined {n = n} (direct qs h p d) (expr y i f) same c = expression_lined _ y i f n qs same h (runs_line_up d) (λ xs l k. runs_lined d xs l k) (whole_some (direct qs h p d))
    spelled_lined {n = n} (direct qs h p d) (expr y i f) at_expressions c = expression_lined _ y i f n qs at_expressions h (runs_line_up d) (λ xs l k. runs_lined d xs l k) (whole_some (direct qs h p d))
    spelled_lined {a = a} {n = n} (direct qs h p d) b l c = other_lined a b n qs refl l h (runs_line_up d) (λ xs l k. runs_lined d xs l k) c
    spelled_lined (reserved_key {w = w} r k e) b same c = subst (λ n. lined n key ≡ true) (sym e) (key_lined w _ _)
    spelled_lined (reserved_word {w = w} r k e) b same c = subst (λ n. lined n word ≡ true) (sym e) (word_lined w _ _)
    spelled_lined (grouped p d q) b same c = spelled_lined d b at_expressions c
    spelled_lined (grouped p d q) b at_expressions c = spelled_lined d b at_expressions c

    runs_lined : {o : ℕ} {qs : List (PieceOf Role)} {ps : Parts} {s e : S} {P : List Pair} → Runs ways S Next behind o qs ps s e P →
        (xs : List Role) → AllLike false (roles qs) xs → is_some (parts_least ps xs) ≡ true → parts_lined ps xs ≡ true
    runs_lined done xs l c = refl
    runs_lined (step {qs = qs} p d) xs l c = runs_lined d xs (subst (λ zs. AllLike false zs xs) (Step-roles S Next behind qs p) l) c
    runs_lined (opened p d) xs l c = runs_lined d xs l c
    runs_lined (closed p d) xs l c = runs_lined d xs l c
    runs_lined (within {n = n} p d) (x ∷ xs) (next l ls) c = let k = add_parts (least n x) _ c in and_from _ _ (spelled_lined p x l k.0) (runs_lined d xs ls k.1)
    runs_lined (within p d) [] l c = elim l [ ]
    runs_lined (missing d) xs l c = runs_lined d xs l c

-- a script that some text derives
pub derived_lined : (text : List ℕ) (n : Tree) (P : List Pair) → Derives text n P → lined n script ≡ true
derived_lined text n P d = spelled_lined Token (NextIn text any_goal) itself d.1.1 script same (some_number (lower_bound Token (NextIn text any_goal) itself d.1.1 script looser_same))
