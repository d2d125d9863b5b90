-- How many parts the pieces of a form name: a count that computes over the form's shape.
use Rattle.std.proofs.Common.{◌≡◌, ◌≤◌, ℕ, zero, suc, ◌+◌, min, Bool, true, false, List, [], ◌∷◌, length, map, refl, sym, ap, ◌∙◌, subst, arith, append-nil}
use Rattle.std.specs.Prelude.{◌&&◌, nat_eq, nat_le}
use Prim.Native.String.{String}
use Rattle.std.proofs.lemmas.Bool.{false≢true, and_parts}
use Rattle.std.proofs.lemmas.Bool.Decides.{nat_tests}
use Rattle.language.specs.declared.Rank.{Rank}
use Rattle.language.specs.declared.Start.{Start}
use Rattle.tree.specs.declared.kind.Flags.{Flags}
use Rattle.tree.specs.declared.kind.Form.{Form}
use Rattle.tree.specs.declared.kind.Form.TheVariants.{Init, Shorthand}
use Rattle.tree.specs.Tree.{Parts, none, part, gap, part_count}
use Rattle.language.specs.Pieces.{Piece, tok, may, many, ahead, unbroken, no_operand, ending, open_parameters, close_parameters, sub, absent, never, lay, settle_piece}
use Rattle.language.specs.Grammar.{can_run}
use Rattle.language.specs.LayoutFits.{lines_up}
use Rattle.language.specs.Forms.{Item, OwnText, a_name, own_piece, pieces_of}
use Rattle.language.proofs.table.Shapes.{Shape, empty, piece, own, an_ending, then, or, many_of, Fits, nothing, a_piece, an_own, ended, both, at_left, at_right, stop, more, shape_of, items_spelled}
use Rattle.json_laws.proofs.Told.{Names, names, a_list, first_list, list_last, turns, alias, first_list_last}
use Rattle.json_laws.proofs.Lists.{count_fits, as_many, at_least}

-- the parts and gaps that pieces name
abbrev piece_parts : Piece → ℕ
piece_parts (sub x) = 1
piece_parts absent = 1
piece_parts _ = 0

abbrev named_parts : List Piece → ℕ
named_parts [] = 0
named_parts (q ∷ qs) = piece_parts q + named_parts qs

-- none where nothing spells it; else the least number, and whether that is the only one
pub data Count : Type 0 where
  no_way : Count
  from : ℕ → Bool → Count

abbrev added : Count → Count → Count
added no_way y = no_way
added (from a x) no_way = no_way
added (from a x) (from b y) = from (a + b) (x && y)

abbrev either : Count → Count → Count
either no_way y = y
either (from a x) no_way = from a x
either (from a x) (from b y) = from (min a b) ((x && y) && nat_eq a b)

abbrev repeated : Count → Count
repeated no_way = from 0 true
repeated (from a x) = from 0 (x && nat_eq a 0)

abbrev piece_count : Piece → Count
piece_count never = no_way
piece_count q = from (piece_parts q) true

abbrev pub count_of : Shape → Count
count_of empty = from 0 true
count_of (piece q) = piece_count q
count_of (own o) = from 0 true
count_of an_ending = from 0 true
count_of (then r s) = added (count_of r) (count_of s)
count_of (or r s) = either (count_of r) (count_of s)
count_of (many_of r) = repeated (count_of r)

-- a number is one of these
pub data IsOf : Count → ℕ → Type 0 where
  is_of : {a n : ℕ} {x : Bool} → a ≤ n → (x ≡ true → n ≡ a) → IsOf (from a x) n

add_of : (c d : Count) (m n : ℕ) → IsOf c m → IsOf d n → IsOf (added c d) (m + n)
add_of no_way d m n h k = elim h [ ]
add_of (from a x) no_way m n h k = elim k [ ]
add_of (from a x) (from b y) m n (is_of h e) (is_of k f) = is_of (omega (arith, h, k)) (λ t. let u = and_parts x y t in let p = e u.0 in let q = f u.1 in omega (arith, p, q))

left_of : (c d : Count) (n : ℕ) → IsOf c n → IsOf (either c d) n
left_of no_way d n h = elim h [ ]
left_of (from a x) no_way n h = h
left_of (from a x) (from b y) n (is_of h e) = is_of (omega (arith, h)) (λ t. let u = and_parts (x && y) (nat_eq a b) t in let v = and_parts x y u.0 in let p = e v.0 in let q = u.1 in grind (arith, nat_tests, p, q))

right_of : (c d : Count) (n : ℕ) → IsOf d n → IsOf (either c d) n
right_of no_way d n h = h
right_of (from a x) no_way n h = elim h [ ]
right_of (from a x) (from b y) n (is_of h e) = is_of (omega (arith, h)) (λ t. let u = and_parts (x && y) (nat_eq a b) t in let v = and_parts x y u.0 in let p = e v.1 in let q = u.1 in grind (arith, nat_tests, p, q))

none_of : (c : Count) → IsOf (repeated c) 0
none_of no_way = is_of (omega arith) (λ t. refl)
none_of (from a x) = is_of (omega arith) (λ t. refl)

more_of : (c : Count) (m n : ℕ) → IsOf c m → IsOf (repeated c) n → IsOf (repeated c) (m + n)
more_of no_way m n h k = elim h [ ]
more_of (from a x) m n (is_of h e) (is_of k f) = is_of (omega (arith, k)) (λ t. let u = and_parts x (nat_eq a 0) t in let p = e u.0 in let q = u.1 in let r = f t in grind (arith, nat_tests, p, q, r))

run_first : (q : Piece) (qs : List Piece) → can_run (q ∷ qs) ≡ true → IsOf (piece_count q) (piece_parts q) × (can_run qs ≡ true)
run_first never qs h = absurd (false≢true h)
run_first (sub x) qs h = (is_of (omega arith) (λ t. refl), h)
run_first _ qs h = (is_of (omega arith) (λ t. refl), h)

own_parts : (w : List ℕ) (o : OwnText) → piece_parts (own_piece o w) ≡ 0
own_parts w a_name = refl
own_parts w _ = refl

own_runs : (w : List ℕ) (o : OwnText) (qs : List Piece) → can_run (own_piece o w ∷ qs) ≡ true → can_run qs ≡ true
own_runs w a_name qs h = h
own_runs w _ qs h = h

-- what the pieces of a shape name before the others
record Counted (c : Count) (xs ys : List Piece) : Type 0 where
  number : ℕ
  is : IsOf c number
  all : named_parts xs ≡ number + named_parts ys
  runs : can_run ys ≡ true

module _ {w : List ℕ} where
  counted : {r : Shape} {xs ys : List Piece} → Fits w r xs ys → can_run xs ≡ true → Counted (count_of r) xs ys
  counted nothing h = record { number = 0; is = is_of (omega arith) (λ t. refl); all = omega arith; runs = h }
  counted (a_piece {q = q} {xs = xs}) h = let u = run_first q xs h in record { number = piece_parts q; is = u.0; all = refl; runs = u.1 }
  counted (an_own {o = o} {q = q} {xs = xs} e) h =
      record {
        number = 0;
        is = is_of (omega arith) (λ t. refl);
        all = ap (λ x. piece_parts x + named_parts xs) e ∙ ap (λ n. n + named_parts xs) (own_parts w o);
        runs = own_runs w o xs (ap (λ x. can_run (x ∷ xs)) (sym e) ∙ h);
      }
  counted ended h = record { number = 0; is = is_of (omega arith) (λ t. refl); all = omega arith; runs = h }
  counted (both {r = r} {s = s} u v) h =
      let a = counted u h in
      let b = counted v a.runs in
      record { number = a.number + b.number; is = add_of (count_of r) (count_of s) a.number b.number a.is b.is; all = let p = a.all in let q = b.all in omega (arith, p, q); runs = b.runs }
  counted (at_left {r = r} {s = s} u) h = let a = counted u h in record { number = a.number; is = left_of (count_of r) (count_of s) a.number a.is; all = a.all; runs = a.runs }
  counted (at_right {r = r} {s = s} u) h = let a = counted u h in record { number = a.number; is = right_of (count_of r) (count_of s) a.number a.is; all = a.all; runs = a.runs }
  counted (stop {r = r}) h = record { number = 0; is = none_of (count_of r); all = omega arith; runs = h }
  counted (more {r = r} u v) h =
      let a = counted u h in
      let b = counted v a.runs in
      record { number = a.number + b.number; is = more_of (count_of r) a.number b.number a.is b.is; all = let p = a.all in let q = b.all in omega (arith, p, q); runs = b.runs }

-- where pieces name a node's parts, there are as many
lined_up : (z : Rank) (y : Bool) (x : Start) (qs : List Piece) (ps : Parts) → can_run qs ≡ true → lines_up (map (settle_piece z y x) qs) ps ≡ true → part_count ps ≡ named_parts qs
lined_up z y x [] none r h = refl
lined_up z y x [] (part n ps) r h = absurd (false≢true h)
lined_up z y x [] (gap ps) r h = absurd (false≢true h)
lined_up z y x (sub s ∷ qs) none r h = absurd (false≢true h)
lined_up z y x (sub s ∷ qs) (gap ps) r h = absurd (false≢true h)
lined_up z y x (sub s ∷ qs) (part n ps) r h = let k = lined_up z y x qs ps r h in omega (arith, k)
lined_up z y x (absent ∷ qs) none r h = absurd (false≢true h)
lined_up z y x (absent ∷ qs) (part n ps) r h = absurd (false≢true h)
lined_up z y x (absent ∷ qs) (gap ps) r h = let k = lined_up z y x qs ps r h in omega (arith, k)
lined_up z y x (never ∷ qs) ps r h = absurd (false≢true r)
lined_up z y x (tok c w ∷ qs) ps r h = let k = lined_up z y x qs ps r h in omega (arith, k)
lined_up z y x (may w ∷ qs) ps r h = let k = lined_up z y x qs ps r h in omega (arith, k)
lined_up z y x (many w ∷ qs) ps r h = let k = lined_up z y x qs ps r h in omega (arith, k)
lined_up z y x (ahead w ∷ qs) ps r h = let k = lined_up z y x qs ps r h in omega (arith, k)
lined_up z y x (unbroken ∷ qs) ps r h = let k = lined_up z y x qs ps r h in omega (arith, k)
lined_up z y x (no_operand ∷ qs) ps r h = let k = lined_up z y x qs ps r h in omega (arith, k)
lined_up z y x (ending e ∷ qs) ps r h = let k = lined_up z y x qs ps r h in omega (arith, k)
lined_up z y x (open_parameters ∷ qs) ps r h = let k = lined_up z y x qs ps r h in omega (arith, k)
lined_up z y x (close_parameters ∷ qs) ps r h = let k = lined_up z y x qs ps r h in omega (arith, k)
lined_up z y x (lay l ∷ qs) ps r h = let k = lined_up z y x qs ps r h in omega (arith, k)

-- a count that suits what the members of a kind ask for
abbrev pub suits : Names → Form → Count → Bool
suits x form no_way = true
suits (names ss) form (from a exact) = exact && nat_eq a (length ss)
suits (a_list s) form (from a exact) = true
suits (first_list s t) form (from a exact) = nat_le 1 a
suits (list_last s t) form (from a exact) = nat_le 1 a
suits (first_list_last s t u) form (from a exact) = nat_le 2 a
suits (turns s t) form (from a exact) = true
suits (alias s t) Shorthand (from a exact) = exact && nat_eq a 1
suits (alias s t) Init (from a exact) = exact && nat_eq a 2
suits (alias s t) _ (from a exact) = false

so_many : (ss : List String) (n : ℕ) → n ≡ length ss → as_many ss n ≡ true
so_many ss n h = subst (λ m. as_many ss m ≡ true) (sym h) (itself ss)
  where
    itself : (ss : List String) → as_many ss (length ss) ≡ true
    itself [] = refl
    itself (s ∷ ss) = itself ss

no_fewer : (m n : ℕ) → m ≤ n → at_least m n ≡ true
no_fewer zero n h = refl
no_fewer (suc m) zero h = absurd (omega (arith, h))
no_fewer (suc m) (suc n) h = no_fewer m n (omega (arith, h))

suited : (x : Names) (form : Form) (c : Count) (n : ℕ) → suits x form c ≡ true → IsOf c n → count_fits x form n ≡ true
suited x form no_way n s h = elim h [ ]
suited (names ss) form (from a exact) n s (is_of h e) = let u = and_parts exact _ s in let p = e u.0 in let q = u.1 in so_many ss n (grind (arith, nat_tests, p, q))
suited (a_list s) form (from a exact) n t (is_of h e) = refl
suited (first_list s t) form (from a exact) n r (is_of h e) = no_fewer 1 n (grind (arith, nat_tests, r, h))
suited (list_last s t) form (from a exact) n r (is_of h e) = no_fewer 1 n (grind (arith, nat_tests, r, h))
suited (first_list_last s t u) form (from a exact) n r (is_of h e) = no_fewer 2 n (grind (arith, nat_tests, r, h))
suited (turns s t) form (from a exact) n r (is_of h e) = refl
suited (alias s t) Shorthand (from a exact) n r (is_of h e) = let u = and_parts exact _ r in let p = e u.0 in let q = u.1 in so_many (s ∷ []) n (grind (arith, nat_tests, p, q))
suited (alias s t) Init (from a exact) n r (is_of h e) = let u = and_parts exact _ r in let p = e u.0 in let q = u.1 in so_many (s ∷ t ∷ []) n (grind (arith, nat_tests, p, q))
suited (alias s t) _ (from a exact) n r (is_of h e) = absurd (false≢true r)

-- the parts of a node that a form spells are as many as its kind's members ask for, if the form's shape says so
pub form_counts : (x : Names) (form : Form) (items : List Item) (w : List ℕ) (g : Flags) (qs ps : Parts) (z : Rank) (y : Bool) (a : Start) → suits x form (count_of (shape_of items)) ≡ true →
    can_run (pieces_of items w g qs) ≡ true → lines_up (map (settle_piece z y a) (pieces_of items w g qs)) ps ≡ true → count_fits x form (part_count ps) ≡ true
form_counts x form items w g qs ps z y a s r l =
    let c = counted ((items_spelled items g qs).fits []) (ap can_run (append-nil (pieces_of items w g qs)) ∙ r) in
    let n : named_parts (pieces_of items w g qs) ≡ c.number + 0 = ap named_parts (sym (append-nil (pieces_of items w g qs))) ∙ c.all in
    let k = lined_up z y a (pieces_of items w g qs) ps r l in
    let m : part_count ps ≡ c.number = omega (arith, n, k) in
    subst (λ j. count_fits x form j ≡ true) (sym m) (suited x form (count_of (shape_of items)) c.number s c.is)
