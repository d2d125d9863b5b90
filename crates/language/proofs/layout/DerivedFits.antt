-- What is derived can be laid out: each of its nodes can be spelled where it stands, or in parentheses where it is wrapped.
use Rattle.tree.specs.declared.kind.Kind.TheVariants.{Identifier}
use Rattle.std.proofs.Common.{◌≡◌, ℕ, ◌+◌, Bool, true, false, cond, List, [], ◌∷◌, refl, sym, ◌∙◌, subst, ◌⊎◌, inl, inr, is_some}
use Rattle.std.specs.Prelude.{Option, Some, None, IsTrue, ◌&&◌, nat_eq}
use Rattle.std.proofs.lemmas.Bool.{and_from, false≢true, true≢false}
use Rattle.language.specs.declared.Rank.{Rank}
use Rattle.language.specs.declared.Rank.TheVariants.{Expression}
use Rattle.language.specs.declared.Start.{Start}
use Rattle.language.specs.declared.Start.TheVariants.{Any}
use Rattle.tree.specs.declared.kind.Pair.{Pair}
use Rattle.tree.specs.Tree.{plain, none, Tree, node, Parts, parts_of, bare}
use Rattle.tree.specs.Uses.{implies, is_lean}
use Rattle.language.specs.Vocabulary.{precedence}
use Rattle.language.specs.Pieces.{key, word, Role, expr, PieceOf, Spelling}
use Rattle.language.specs.Token.{Token}
use Rattle.language.specs.Grammar.{ways, ways_bare, spellings, own_start}
use Rattle.language.specs.RowPositions.{has_row, rows, roles, first_roles}
use Rattle.language.specs.Derivation.{Among, first, Spells, direct, grouped, Runs, done, step, opened, closed, within, missing, Step, token, with_mark, without_mark, one_more, no_more, seen, same_line, left_bare, explicit, implicit, laid, reserved_key, reserved_word}
use Rattle.language.specs.Cost.{add_cost, lesser, AtMost, at_most, if_any, cell, cell_position, least, parts_least}
use Rattle.language.specs.Layout.{exceeds, some_way, wants_pair, inside, first_way}
use Rattle.language.specs.LayoutFits.{lines_up, fits, parts_fit, Marks, PartsMark}
use Rattle.language.proofs.table.Ranks.{looser_all}
use Rattle.language.proofs.table.LooserPositions.{looser}
use Rattle.language.proofs.lower_bound.Domination.{Tidy, none_at_all, one_way, two_ways, Among-one, Among-two, ways_of, settled}
use Rattle.language.proofs.lower_bound.Domination.{fits as fits_at}
use Rattle.language.proofs.table.TidyTable.{tidy_table}
use Rattle.language.proofs.lower_bound.LowerBound.{lower_bound, Step-roles}
use Rattle.language.proofs.table.Alike.{Like, same, at_expressions, AllLike, next, NamesAlike, names_back, itself_alike, cell_like, cell_start, spellings_alike}

-- Ways of a node at positions of one sort

renamed : {b : Bool} {qs qs' rs rs' : List (PieceOf Role)} → qs ≡ qs' → rs ≡ rs' → NamesAlike b qs' rs' → NamesAlike b qs rs
renamed {b} {qs} {qs'} {rs} {rs'} p q h = subst (λ z. NamesAlike b qs z) (sym q) (subst (λ z. NamesAlike b z rs') (sym p) h)

tidy_alike : {t b : Bool} (a c : Role) {xs : List Spelling} {qs rs : List (PieceOf Role)} → (b ≡ true → own_start a ≡ own_start c) → Tidy t xs →
    Among qs (ways_of a xs) → Among rs (ways_of c xs) → NamesAlike b qs rs
tidy_alike a c s none_at_all h k = elim h [ ]
tidy_alike {b = b} a c s (one_way {x = x} n) h k =
    renamed (Among-one a x (fits_at a x) refl h).1 (Among-one c x (fits_at c x) refl k).1 (itself_alike b a c x.pieces s)
tidy_alike {b = b} a c {qs = qs} {rs = rs} s (two_ways {x = x} {y = y} n v l) h k =
    of (Among-two a x y (fits_at a x) (fits_at a y) refl refl h) (Among-two c x y (fits_at c x) (fits_at c y) refl refl k)
  where
    of : (IsTrue (fits_at a x) × (qs ≡ settled a x)) ⊎ (IsTrue (fits_at a y) × (qs ≡ settled a y)) → (IsTrue (fits_at c x) × (rs ≡ settled c x)) ⊎ (IsTrue (fits_at c y) × (rs ≡ settled c y)) → NamesAlike b qs rs
    of (inl p) (inl q) = renamed p.1 q.1 (itself_alike b a c x.pieces s)
    of (inl p) (inr q) = renamed p.1 q.1 (l b a c)
    of (inr p) (inl q) = renamed p.1 q.1 (names_back (l b c a))
    of (inr p) (inr q) = renamed p.1 q.1 (itself_alike b a c y.pieces s)

pub ways_alike : {b : Bool} {a c : Role} (n : Tree) {qs rs : List (PieceOf Role)} → Like b a c → (b ≡ true → own_start a ≡ own_start c) →
    Among qs (ways a n) → Among rs (ways c n) → NamesAlike b qs rs
unfolding ways ways_bare
ways_alike {b} {a} {c} n {qs} {rs} l s h k = go (is_lean (bare n)) h k
  where
    go : (t : Bool) → Among qs (cond t (ways_of a (spellings a (bare n))) []) → Among rs (cond t (ways_of c (spellings c (bare n))) []) → NamesAlike b qs rs
    go false h k = elim h [ ]
    go true h k = tidy_alike a c s (tidy_table a (bare n)) h (subst (λ xs. Among rs (ways_of c xs)) (sym (spellings_alike l (bare n))) k)

pub first_among : (qss : List (List (PieceOf Role))) → some_way qss ≡ true → Among (first_way qss) qss
first_among [] h = absurd (false≢true h)
first_among (qs ∷ qss) h = first

pub first_roles_are : (qss : List (List (PieceOf Role))) → roles (first_way qss) ≡ first_roles qss
first_roles_are [] = refl
first_roles_are (qs ∷ qss) = refl

-- the first way at a position, beside any way at a position of its sort
pub first_alike : {b : Bool} {a c : Role} (n : Tree) {qs : List (PieceOf Role)} → Like b a c → (b ≡ true → own_start a ≡ own_start c) → Among qs (ways a n) → some_way (ways c n) ≡ true →
    AllLike b (roles qs) (first_roles (ways c n)) × ((ps : Parts) → lines_up qs ps ≡ lines_up (first_way (ways c n)) ps)
first_alike {b} {a} {c} n {qs} l s h k =
    let u = ways_alike n l s h (first_among (ways c n) k) in (subst (λ xs. AllLike b (roles qs) xs) (first_roles_are (ways c n)) u.roles, u.lines)

-- Costs that are some number

if_any_parts : (qss : List (List (PieceOf Role))) (x : Option ℕ) → is_some (if_any qss x) ≡ true → (some_way qss ≡ true) × (is_some x ≡ true)
unfolding if_any
if_any_parts [] x h = absurd (false≢true h)
if_any_parts (qs ∷ qss) x h = (refl, h)

cell_parts : (n : Tree) (a : Role) → is_some (cell n a) ≡ true → (some_way (ways a n) ≡ true) × (is_some (parts_least (parts_of n) (first_roles (ways a n))) ≡ true)
unfolding cell
cell_parts n a h = if_any_parts (ways a n) _ h

exceeds_parts : (s : Bool) (x z : Option ℕ) → exceeds (cond s x None) z ≡ false → (s ≡ true) × (is_some x ≡ true)
exceeds_parts false x z h = absurd (true≢false h)
exceeds_parts true None z h = absurd (true≢false h)
exceeds_parts true (Some m) z h = (refl, refl)

add_parts : (x y : Option ℕ) → is_some (add_cost x y) ≡ true → (is_some x ≡ true) × (is_some y ≡ true)
unfolding add_cost
add_parts None y h = absurd (false≢true h)
add_parts (Some m) None h = absurd (false≢true h)
add_parts (Some m) (Some n) h = (refl, refl)

add_from : (x y : Option ℕ) → is_some x ≡ true → is_some y ≡ true → is_some (add_cost x y) ≡ true
unfolding add_cost
add_from None y h k = absurd (false≢true h)
add_from (Some m) None h k = absurd (false≢true k)
add_from (Some m) (Some n) h k = refl

lesser_one : (c : Option ℕ) → is_some (lesser c (add_cost (Some 1) c)) ≡ true → is_some c ≡ true
unfolding lesser add_cost
lesser_one None h = h
lesser_one (Some m) h = refl

lesser_from : (d c : Option ℕ) → is_some c ≡ true → is_some (lesser d (add_cost (Some 1) c)) ≡ true
unfolding lesser add_cost
lesser_from d None h = absurd (false≢true h)
lesser_from None (Some m) h = refl
lesser_from (Some k) (Some m) h = refl

some_number : {x : Option ℕ} {m : ℕ} → AtMost x m → is_some x ≡ true
some_number (at_most h) = refl

whole_least : (n : Tree) → least n (expr Expression true Any) ≡ lesser (cell n (expr Expression true Any)) (add_cost (Some 1) (cell n (expr Expression true Any)))
unfolding least cell
whole_least (node k w g s e ps) = refl

-- in a pair it can stand at each expression's position
pub anywhere : (n : Tree) (y : Rank) (i : Bool) (f : Start) → is_some (cell n (expr Expression true Any)) ≡ true → is_some (least n (expr y i f)) ≡ true
unfolding least cell
anywhere (node k w g s e ps) y i f h = lesser_from _ _ h

abbrev pub is_expression : Role → Bool
is_expression (expr y i f) = true
is_expression _ = false

other_least : (n : Tree) (b : Role) → is_expression b ≡ false → least n b ≡ if_any (ways b n) (parts_least (parts_of n) (first_roles (ways b n)))
unfolding least
other_least n (expr y i f) h = absurd (true≢false h)
other_least (node k w g s e ps) _ h = refl

-- What is known of a node that is spelled directly

record Known (a : Role) (n : Tree) (qs : List (PieceOf Role)) : Type 0 where
  among : Among qs (ways a n)
  lines : lines_up qs (parts_of n) ≡ true
  near : (xs ys : List Role) → AllLike false (roles qs) ys → AllLike true xs ys → is_some (parts_least (parts_of n) xs) ≡ true → is_some (parts_least (parts_of n) ys) ≡ true
  whole : is_expression a ≡ true → is_some (cell n (expr Expression true Any)) ≡ true

-- it can be spelled at a position, in a pair or not, with its parts
record Placeable (n : Tree) (t : Bool) (b : Role) : Type 0 where
  way : some_way (ways (inside t b) n) ≡ true
  parts : is_some (parts_least (parts_of n) (first_roles (ways (inside t b) n))) ≡ true

at_expression : {a : Role} {n : Tree} {qs : List (PieceOf Role)} → Known a n qs → (y : Rank) (i : Bool) (f : Start) → Like false a (expr y i f) → is_some (cell n (expr Expression true Any)) ≡ true →
    (t : Bool) → wants_pair n (expr y i f) ≡ t → Placeable n t (expr y i f)
at_expression {a} {n} h y i f l c true w = let p = cell_parts n (expr Expression true Any) c in record { way = p.0; parts = p.1 }
at_expression {a} {n} {qs} h y i f l c false w =
    let p = exceeds_parts (some_way (ways (expr y i f) n)) (cell n (cell_position (expr y i f))) (add_cost (Some 1) (cell n (expr Expression true Any))) w in
    let q = cell_parts n (cell_position (expr y i f)) p.1 in
    let u = first_alike {b = false} n l (λ e. absurd (false≢true e)) h.among p.0 in
    let v = first_alike {b = true} n (cell_like y i f) (λ e. cell_start y i f) (first_among (ways (cell_position (expr y i f)) n) q.0) p.0 in
    record { way = p.0; parts = h.near (first_roles (ways (cell_position (expr y i f)) n)) _ u.0 (subst (λ xs. AllLike true xs (first_roles (ways (expr y i f) n))) (first_roles_are (ways (cell_position (expr y i f)) n)) v.0) q.1 }

like_expression : {a : Role} {y : Rank} {i : Bool} {f : Start} → Like false a (expr y i f) → is_expression a ≡ true
like_expression same = refl
like_expression at_expressions = refl

at_other : {n : Tree} (b : Role) → is_expression b ≡ false → is_some (least n b) ≡ true → (t : Bool) → wants_pair n b ≡ t → Placeable n t b
at_other (expr y i f) e h t w = absurd (true≢false e)
at_other {n = n} _ e h true w = absurd (false≢true w)
at_other {n = n} b e h false w = let p = if_any_parts (ways b n) _ (subst (λ x. is_some x ≡ true) (other_least n b e) h) in record { way = p.0; parts = p.1 }

placeable : {a : Role} {n : Tree} {qs : List (PieceOf Role)} → Known a n qs → (b : Role) → Like false a b → is_some (least n b) ≡ true → (t : Bool) → wants_pair n b ≡ t → Placeable n t b
placeable h (expr y i f) l s t w = at_expression h y i f l (h.whole (like_expression l)) t w
placeable {n = n} h _ l s t w = at_other _ refl s t w

inside_like : {a : Role} (n : Tree) (t : Bool) (b : Role) → Like false a b → wants_pair n b ≡ t → Like false a (inside t b)
inside_like n false b l w = l
inside_like n true (expr y i f) same w = at_expressions
inside_like n true (expr y i f) at_expressions w = at_expressions
inside_like n true _ l w = absurd (false≢true w)

module _ (W : ℕ → Bool) where
  node_fits : {a : Role} {n : Tree} {qs : List (PieceOf Role)} → Known a n qs → (b : Role) → Like false a b → is_some (least n b) ≡ true → (r : ℕ) → Marks W n b r →
      ((xs : List Role) (q : ℕ) → AllLike false (roles qs) xs → is_some (parts_least (parts_of n) xs) ≡ true → PartsMark W (parts_of n) xs q → parts_fit W (parts_of n) xs q ≡ true) → fits W n b r ≡ true
  unfolding fits Marks
  node_fits {n = node k w g s e ps} h b l c r m f = go (wants_pair (node k w g s e ps) b) refl m.0 m.1
    where
      go : (t : Bool) → wants_pair (node k w g s e ps) b ≡ t → (nat_eq (has_row b) 1 && W r) ≡ t → PartsMark W ps (first_roles (ways (inside t b) (node k w g s e ps))) (has_row b + r) →
          (some_way (ways (inside (nat_eq (has_row b) 1 && W r) b) (node k w g s e ps)) && (lines_up (first_way (ways (inside (nat_eq (has_row b) 1 && W r) b) (node k w g s e ps))) ps && parts_fit W ps (first_roles (ways (inside (nat_eq (has_row b) 1 && W r) b) (node k w g s e ps))) (has_row b + r))) ≡ true
      go t want is m =
          let x = placeable h b l c t want in
          let u = first_alike {b = false} (node k w g s e ps) (inside_like (node k w g s e ps) t b l want) (λ e. absurd (false≢true e)) h.among x.way in
          subst (λ z. (some_way (ways (inside z b) (node k w g s e ps)) && (lines_up (first_way (ways (inside z b) (node k w g s e ps))) ps && parts_fit W ps (first_roles (ways (inside z b) (node k w g s e ps))) (has_row b + r))) ≡ true) (sym is)
          (and_from _ _ x.way (and_from _ _ (sym (u.1 ps) ∙ h.lines) (f (first_roles (ways (inside t b) (node k w g s e ps))) (has_row b + r) u.0 x.parts m)))

-- a name can be laid out where reserved words stand too
key_fits : (W : ℕ → Bool) (w : List ℕ) (a b r : ℕ) → fits W (node Identifier w plain a b none) key r ≡ true
unfolding fits parts_fit ways ways_bare spellings
key_fits W w a b r = refl

word_fits : (W : ℕ → Bool) (w : List ℕ) (a b r : ℕ) → fits W (node Identifier w plain a b none) word r ≡ true
unfolding fits parts_fit ways ways_bare spellings
word_fits W w a b r = refl

module _ (S : Type 0) (Next : S → Token → S → Type 0) (behind : S → Token) where
  whole_cell : {o : ℕ} {y : Rank} {i : Bool} {f : Start} {n : Tree} {s e : S} {P : List Pair} → Spells ways S Next behind o (expr y i f) n s e P → is_some (cell n (expr Expression true Any)) ≡ true
  whole_cell {y = y} {i = i} {f = f} {n = n} d =
      lesser_one _ (subst (λ x. is_some x ≡ true) (whole_least n) (some_number (lower_bound S Next behind d (expr Expression true Any) (looser (looser_all (precedence y)) (any_in i) refl))))
    where
      any_in : (b : Bool) → IsTrue (implies b true)
      any_in true = refl
      any_in false = refl

  cell_known : {o : ℕ} {a : Role} {n : Tree} {s e : S} {P : List Pair} → Spells ways S Next behind o a n s e P → is_expression a ≡ true → is_some (cell n (expr Expression true Any)) ≡ true
  cell_known {a = expr y i f} d h = whole_cell d
  cell_known {a = _} d h = absurd (false≢true h)

  -- an expression has a cost wherever it stands, any other node where it stands so
  near_least : {o : ℕ} {a : Role} {n : Tree} {s e : S} {P : List Pair} → Spells ways S Next behind o a n s e P → (x y : Role) → Like false a y → Like true x y → is_some (least n x) ≡ true → is_some (least n y) ≡ true
  near_least d x y l same h = h
  near_least {n = n} d x (expr z i f) l at_expressions h = anywhere n z i f (cell_known d (like_expression l))

  near_parts : {o : ℕ} {qs : List (PieceOf Role)} {ps : Parts} {s e : S} {P : List Pair} → Runs ways S Next behind o qs ps s e P →
      (xs ys : List Role) → AllLike false (roles qs) ys → AllLike true xs ys → is_some (parts_least ps xs) ≡ true → is_some (parts_least ps ys) ≡ true
  unfolding parts_least
  near_parts done xs ys l u h = refl
  near_parts (step {qs = qs} p d) xs ys l u h = near_parts d xs ys (subst (λ zs. AllLike false zs ys) (Step-roles S Next behind qs p) l) u h
  near_parts (opened p d) xs ys l u h = near_parts d xs ys l u h
  near_parts (closed p d) xs ys l u h = near_parts d xs ys l u h
  near_parts (within p d) (x ∷ xs) (y ∷ ys) (next l ls) (next u us) h =
      let k = add_parts (least _ x) _ h in add_from (least _ y) _ (near_least p x y l u k.0) (near_parts d xs ys ls us k.1)
  near_parts (within p d) [] [] l u h = elim l [ ]
  near_parts (within p d) [] (y ∷ ys) l u h = elim u [ ]
  near_parts (within p d) (x ∷ xs) [] l u h = elim l [ ]
  near_parts (missing d) xs ys l u h = near_parts d xs ys l u h

  pub runs_line_up : {o : ℕ} {qs : List (PieceOf Role)} {ps : Parts} {s e : S} {P : List Pair} → Runs ways S Next behind o qs ps s e P → lines_up qs ps ≡ true
  runs_line_up done = refl
  runs_line_up (step p d) = step_lines _ _ p (runs_line_up d)
    where
      step_lines : {q : PieceOf Role} (qs : List (PieceOf Role)) (ps : Parts) {s m : S} → Step S Next behind q s m → lines_up qs ps ≡ true → lines_up (q ∷ qs) ps ≡ true
      step_lines qs ps (token x) h = h
      step_lines qs ps (with_mark x) h = h
      step_lines qs ps without_mark h = h
      step_lines qs ps (one_more x y) h = h
      step_lines qs ps no_more h = h
      step_lines qs ps (seen x) h = h
      step_lines qs ps (same_line x y) h = h
      step_lines qs ps (left_bare x y) h = h
      step_lines qs ps (explicit x) h = h
      step_lines qs ps (implicit x y) h = h
      step_lines qs ps laid h = h
  runs_line_up (opened p d) = runs_line_up d
  runs_line_up (closed p d) = runs_line_up d
  runs_line_up (within p d) = runs_line_up d
  runs_line_up (missing d) = runs_line_up d

  module _ (W : ℕ → Bool) where
    mutual
      unfolding parts_least PartsMark parts_fit

      pub spelled_fits : {o : ℕ} {a : Role} {n : Tree} {s e : S} {P : List Pair} → Spells ways S Next behind o a n s e P →
          (b : Role) → Like false a b → is_some (least n b) ≡ true → (r : ℕ) → Marks W n b r → fits W n b r ≡ true
      spelled_fits (direct qs h p d) b l c r m =
          node_fits W (record { among = h; lines = runs_line_up d; near = λ xs ys u v x. near_parts d xs ys u v x; whole = λ e. cell_known (direct qs h p d) e }) b l c r m (λ xs q u v x. runs_fit d xs q u v x)
      spelled_fits (grouped p d q) b same c r m = spelled_fits d b at_expressions c r m
      spelled_fits (grouped p d q) b at_expressions c r m = spelled_fits d b at_expressions c r m
      spelled_fits (reserved_key {w = w} x k e) b same c r m = subst (λ v. fits W v key r ≡ true) (sym e) (key_fits W w _ _ r)
      spelled_fits (reserved_word {w = w} x k e) b same c r m = subst (λ v. fits W v word r ≡ true) (sym e) (word_fits W w _ _ r)

      pub runs_fit : {o : ℕ} {qs : List (PieceOf Role)} {ps : Parts} {s e : S} {P : List Pair} → Runs ways S Next behind o qs ps s e P →
          (xs : List Role) (r : ℕ) → AllLike false (roles qs) xs → is_some (parts_least ps xs) ≡ true → PartsMark W ps xs r → parts_fit W ps xs r ≡ true
      runs_fit done xs r l c m = refl
      runs_fit (step {qs = qs} p d) xs r l c m = runs_fit d xs r (subst (λ zs. AllLike false zs xs) (Step-roles S Next behind qs p) l) c m
      runs_fit (opened p d) xs r l c m = runs_fit d xs r l c m
      runs_fit (closed p d) xs r l c m = runs_fit d xs r l c m
      runs_fit (within {n = n} p d) (x ∷ xs) r (next l ls) c m =
          let k = add_parts (least n x) _ c in and_from _ _ (spelled_fits p x l k.0 r m.0) (runs_fit d xs (r + rows n x) ls k.1 m.1)
      runs_fit (within p d) [] r l c m = elim l [ ]
      runs_fit (missing d) xs r l c m = runs_fit d xs r l c m

    -- a node that is spelled at a position can be laid out there
    pub derived_fits : {o : ℕ} {a : Role} {n : Tree} {s e : S} {P : List Pair} → Spells ways S Next behind o a n s e P → (r : ℕ) → Marks W n a r → fits W n a r ≡ true
    derived_fits {a = a} d r m = spelled_fits d a same (some_number (lower_bound S Next behind d a Rattle.language.proofs.table.LooserPositions.same)) r m
