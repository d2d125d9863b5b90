-- What the search finds is spelled.
use Rattle.language.specs.Vocabulary.{is_keyword}
use Rattle.tree.proofs.Lean.{lean_flags}
use Rattle.tree.specs.Uses.{is_lean}
use Rattle.tree.specs.declared.kind.Kind.TheVariants.{Identifier}
use Rattle.std.proofs.Common.{◌≡◌, ℕ, zero, suc, ◌+◌, Bool, true, false, cond, List, [], ◌∷◌, ◌++◌, refl, sym, subst, arith, inl, inr}
use Rattle.std.specs.Prelude.{◌&&◌, IsTrue, ◌⊎◌, not, nat_eq, codes, map}
use Rattle.std.proofs.lemmas.Bool.{and_parts}
use Rattle.std.proofs.lemmas.Bool.Decides.{nat_tests}
use Rattle.std.proofs.lemmas.Slice.Eq.{bytes_eq-Decides}
use Rattle.tokens.specs.declared.token.TokenClass.{TokenClass}
use Rattle.tokens.specs.declared.token.TokenClass.TheVariants.{IdentifierName, Punctuator, NumericLiteral, StringLiteral, Template, RegularExpressionLiteral, PrivateName, Keyword, End}
use Rattle.language.specs.declared.Rank.{Rank}
use Rattle.language.specs.declared.Rank.TheVariants.{Expression}
use Rattle.language.specs.declared.Start.{Start}
use Rattle.language.specs.declared.Start.TheVariants.{Any}
use Rattle.tree.specs.declared.kind.Pair.{Pair}
use Rattle.tree.specs.Tree.{Tree, node, Parts, none, part, gap, parts_of, start_of, stop_of, plain}
use Rattle.language.specs.Pieces.{Role, expr, PieceOf, tok, may, many, ahead, unbroken, no_operand, ending, open_parameters, close_parameters, sub, absent, lay, Hint, Ending, key, word}
use Rattle.language.specs.Token.{Token, same_class, is_token, is_mark}
use Rattle.language.specs.Edges.{begins_no_operand, may_omit_semicolon, is_sign_class, is_semicolon}
use Rattle.language.specs.Grammar.{ways}
use Rattle.language.specs.Cursor.{Next, next, behind}
use Rattle.language.specs.Derivation.{Among, first, later, Reads, Step, token, with_mark, without_mark, one_more, no_more, seen, same_line, left_bare, explicit, implicit, laid, Placed, placed, place, pair_of, Spells, direct, grouped, Runs, done, step, opened, closed, within, missing, reserved_key, reserved_word}
use Rattle.language.specs.Search.{Result, each, over, if_next, over_many, steps_of, lead_steps, tail_pieces, in_place, close, groups, directly, everywhere, at_end, at_gap, at_part, spelled, parts_spelled, reserved}
use Rattle.language.proofs.table.ViewIsComplete.{cases, from_map, from_filter}

-- classes that are the same
same_class_is : (c d : TokenClass) → IsTrue (same_class c d) → d ≡ c
same_class_is IdentifierName IdentifierName h = refl
same_class_is Punctuator Punctuator h = refl
same_class_is NumericLiteral NumericLiteral h = refl
same_class_is StringLiteral StringLiteral h = refl
same_class_is Template Template h = refl
same_class_is RegularExpressionLiteral RegularExpressionLiteral h = refl
same_class_is PrivateName PrivateName h = refl
same_class_is Keyword Keyword h = refl
same_class_is End End h = refl
same_class_is _ _ h = cc

module _ (S : Type 0) (N : S → Token → S → Type 0) (B : S → Token) where
  mutual
    -- one more parenthesis may be open
    spells_more : {o : ℕ} {a : Role} {n : Tree} {s e : S} {P : List Pair} → Spells ways S N B o a n s e P → Spells ways S N B (suc o) a n s e P
    spells_more (direct qs h p d) = direct qs h p (runs_more d)
    spells_more (grouped p d q) = grouped p (spells_more d) q
    spells_more (reserved_key r k p) = reserved_key r k p
    spells_more (reserved_word r k p) = reserved_word r k p

    runs_more : {o : ℕ} {qs : List (PieceOf Role)} {ps : Parts} {s e : S} {P : List Pair} → Runs ways S N B o qs ps s e P → Runs ways S N B (suc o) qs ps s e P
    runs_more done = done
    runs_more (step p d) = step p (runs_more d)
    runs_more (opened p d) = opened p (runs_more d)
    runs_more (closed p d) = closed p (runs_more d)
    runs_more (within p d) = within (spells_more p) (runs_more d)
    runs_more (missing d) = missing (runs_more d)

  spells_wider : (k : ℕ) {o : ℕ} {a : Role} {n : Tree} {s e : S} {P : List Pair} → Spells ways S N B o a n s e P → Spells ways S N B (o + k) a n s e P
  spells_wider zero {o} {a} {n} {s} {e} {P} d = subst (λ m. Spells ways S N B m a n s e P) (omega arith) d
  spells_wider (suc k) {o} {a} {n} {s} {e} {P} d = subst (λ m. Spells ways S N B m a n s e P) (omega arith) (spells_more (spells_wider k d))

  runs_wider : (k : ℕ) {o : ℕ} {qs : List (PieceOf Role)} {ps : Parts} {s e : S} {P : List Pair} → Runs ways S N B o qs ps s e P → Runs ways S N B (k + o) qs ps s e P
  runs_wider zero {o} {qs} {ps} {s} {e} {P} d = subst (λ m. Runs ways S N B m qs ps s e P) (omega arith) d
  runs_wider (suc k) {o} {qs} {ps} {s} {e} {P} d = subst (λ m. Runs ways S N B m qs ps s e P) (omega arith) (runs_more (runs_wider k d))

  -- a part and what follows it
  pub within_both : {o k : ℕ} {a : Role} {qs : List (PieceOf Role)} {n : Tree} {ps : Parts} {s m e : S} {P Q : List Pair} →
      Spells ways S N B o a n s m P → Runs ways S N B k qs ps m e Q → Runs ways S N B (o + k) (sub a ∷ qs) (part n ps) s e (P ++ Q)
  within_both {o} {k} p d = within (spells_wider k p) (runs_wider o d)

-- some number of open parentheses
abbrev pub SpellsTo : Tree → Role → List Token → Result → Type 0
SpellsTo n a ts x = (o : ℕ) × Spells ways (List Token) Next behind o a n ts x.0 x.1

abbrev pub RunsTo : List (PieceOf Role) → Parts → List Token → Result → Type 0
RunsTo qs ps ts x = (o : ℕ) × Runs ways (List Token) Next behind o qs ps ts x.0 x.1

further : {X : Type 0} {x z : X} {xs ys : List X} → Among x xs ⊎ Among x ys → Among x (z ∷ xs) ⊎ Among x ys
further (inl k) = inl (later k)
further (inr k) = inr k

from_append : {X : Type 0} {x : X} (xs ys : List X) → Among x (xs ++ ys) → Among x xs ⊎ Among x ys
from_append [] ys h = inr h
from_append (z ∷ xs) ys first = inl first
from_append (z ∷ xs) ys (later h) = further (from_append xs ys h)

from_one : {X Y : Type 0} {y : Y} (f : X → List Y) (x : X) (xs : List X) → (Among y (each f xs) → (z : X) × Among z xs × Among y (f z)) →
    Among y (f x) ⊎ Among y (each f xs) → (z : X) × Among z (x ∷ xs) × Among y (f z)
from_one f x xs k (inl h) = (x, first, h)
from_one f x xs k (inr h) = let u = k h in (u.0, later u.1, u.2)

pub from_each : {X Y : Type 0} {y : Y} (f : X → List Y) (xs : List X) → Among y (each f xs) → (x : X) × Among x xs × Among y (f x)
from_each f [] h = elim h [ ]
from_each f (x ∷ xs) h = from_one f x xs (λ k. from_each f xs k) (from_append (f x) (each f xs) h)

reads : (c : TokenClass) (w : List ℕ) {b t : Token} {ts : List Token} → is_token c w t ≡ true → Reads (List Token) Next behind c w (b ∷ t ∷ ts) t (t ∷ ts)
reads c w {t = t} h = let u = and_parts _ _ h in record { next = next; class = same_class_is c t.class u.0; text = (bytes_eq-Decides t.text w).0 u.1 }

data Over (p : Token → Bool) : List Token → List Token → Type 0 where
  over_one : {b t : Token} {ts : List Token} → p t ≡ true → Over p (b ∷ t ∷ ts) (t ∷ ts)

over_by : (p : Token → Bool) {b t : Token} {ts vs : List Token} (x : Bool) → p t ≡ x → Among vs (cond x ((t ∷ ts) ∷ []) []) → Over p (b ∷ t ∷ ts) vs
over_by p true e first = over_one e
over_by p true e (later k) = elim k [ ]
over_by p false e k = elim k [ ]

over_sound : (p : Token → Bool) (ts : List Token) {vs : List Token} → Among vs (over p ts) → Over p ts vs
over_sound p [] h = elim h [ ]
over_sound p (b ∷ []) h = elim h [ ]
over_sound p (b ∷ t ∷ ts) h = over_by p (p t) refl h

data Here (p : Token → Token → Bool) : List Token → List Token → Type 0 where
  here : {b t : Token} {ts : List Token} → p b t ≡ true → Here p (b ∷ t ∷ ts) (b ∷ t ∷ ts)

here_by : (p : Token → Token → Bool) {b t : Token} {ts vs : List Token} (x : Bool) → p b t ≡ x → Among vs (cond x ((b ∷ t ∷ ts) ∷ []) []) → Here p (b ∷ t ∷ ts) vs
here_by p true e first = here e
here_by p true e (later k) = elim k [ ]
here_by p false e k = elim k [ ]

here_sound : (p : Token → Token → Bool) (ts : List Token) {vs : List Token} → Among vs (if_next p ts) → Here p ts vs
here_sound p [] h = elim h [ ]
here_sound p (b ∷ []) h = elim h [ ]
here_sound p (b ∷ t ∷ ts) h = here_by p (p b t) refl h

-- a piece that is no part, from one cursor to another
data Walk : PieceOf Role → List Token → List Token → Type 0 where
  stepped : {q : PieceOf Role} {ts vs : List Token} → Step (List Token) Next behind q ts vs → Walk q ts vs
  walked_open : {ts vs : List Token} → Over (is_mark (codes "(")) ts vs → Walk open_parameters ts vs
  walked_close : {ts vs : List Token} → Over (is_mark (codes ")")) ts vs → Walk close_parameters ts vs

no_more_by : (w : List ℕ) {ts vs : List Token} → Among vs (ts ∷ []) → Step (List Token) Next behind (many w) ts vs
no_more_by w first = no_more
no_more_by w (later k) = elim k [ ]

many_by : (w : List ℕ) {b t : Token} {ts vs : List Token} (x : Bool) → is_mark w t ≡ x → (Among vs (over_many w (t ∷ ts)) → Step (List Token) Next behind (many w) (t ∷ ts) vs) →
    Among vs (cond x (over_many w (t ∷ ts)) []) ⊎ Among vs ((b ∷ t ∷ ts) ∷ []) → Step (List Token) Next behind (many w) (b ∷ t ∷ ts) vs
many_by w true e k (inl h) = one_more (reads Punctuator w e) (k h)
many_by w false e k (inl h) = elim h [ ]
many_by w x e k (inr h) = no_more_by w h

many_sound : (w : List ℕ) (ts : List Token) {vs : List Token} → Among vs (over_many w ts) → Step (List Token) Next behind (many w) ts vs
many_sound w [] h = no_more_by w h
many_sound w (b ∷ []) h = no_more_by w h
many_sound w (b ∷ t ∷ ts) h = many_by w (is_mark w t) refl (λ k. many_sound w (t ∷ ts) k) (from_append (cond (is_mark w t) (over_many w (t ∷ ts)) []) ((b ∷ t ∷ ts) ∷ []) h)

-- the token is `;`
sign_class : (c : TokenClass) → is_sign_class c ≡ true → c ≡ Punctuator
sign_class Punctuator e = refl
sign_class _ e = cc

semicolon : {b t : Token} {ts : List Token} → is_semicolon t ≡ true → Reads (List Token) Next behind Punctuator (codes ";") (b ∷ t ∷ ts) t (t ∷ ts)
semicolon {t = t} e = record { next = next; class = sign_class t.class (and_parts _ _ e).0; text = (bytes_eq-Decides t.text (codes ";")).0 (and_parts _ _ e).1 }

token_walk : {c : TokenClass} {w : List ℕ} {ts vs : List Token} → Over (is_token c w) ts vs → Walk (tok c w) ts vs
token_walk {c} {w} (over_one e) = stepped (token (reads c w e))

may_walk : {w : List ℕ} {ts vs : List Token} → Over (is_mark w) ts vs ⊎ Among vs (ts ∷ []) → Walk (may w) ts vs
may_walk {w} (inl (over_one e)) = stepped (with_mark (reads Punctuator w e))
may_walk (inr first) = stepped without_mark
may_walk (inr (later k)) = elim k [ ]

ahead_walk : {w : List ℕ} {ts vs : List Token} → Here (λ b t. is_token IdentifierName w t) ts vs → Walk (ahead w) ts vs
ahead_walk {w} (here e) = stepped (seen (reads IdentifierName w e))

not_true : (b : Bool) → not b ≡ true → b ≡ false
not_true false e = refl
not_true true e = cc

line_walk : {ts vs : List Token} → Here (λ b t. not t.after_break) ts vs → Walk unbroken ts vs
line_walk (here {t = t} e) = stepped (same_line next (not_true t.after_break e))

bare_walk : {ts vs : List Token} → Here (λ b t. begins_no_operand t) ts vs → Walk no_operand ts vs
bare_walk (here e) = stepped (left_bare next e)

ending_walk : {x : Ending} {ts vs : List Token} → Over is_semicolon ts vs ⊎ Here (may_omit_semicolon x) ts vs → Walk (ending x) ts vs
ending_walk (inl (over_one e)) = stepped (explicit (semicolon e))
ending_walk (inr (here e)) = stepped (implicit next e)

lay_walk : {x : Hint} {ts vs : List Token} → Among vs (ts ∷ []) → Walk (lay x) ts vs
lay_walk first = stepped laid
lay_walk (later k) = elim k [ ]

on_left : {A B C : Type 0} → (A → C) → A ⊎ B → C ⊎ B
on_left f (inl h) = inl (f h)
on_left f (inr h) = inr h

on_both : {A B C D : Type 0} → (A → C) → (B → D) → A ⊎ B → C ⊎ D
on_both f g (inl h) = inl (f h)
on_both f g (inr h) = inr (g h)

walk : (q : PieceOf Role) (ts : List Token) {vs : List Token} → Among vs (steps_of q ts) → Walk q ts vs
walk (tok c w) ts h = token_walk (over_sound (is_token c w) ts h)
walk (may w) ts h = may_walk (on_left (over_sound (is_mark w) ts) (from_append (over (is_mark w) ts) (ts ∷ []) h))
walk (many w) ts h = stepped (many_sound w ts h)
walk (ahead w) ts h = ahead_walk (here_sound (λ b t. is_token IdentifierName w t) ts h)
walk unbroken ts h = line_walk (here_sound (λ b t. not t.after_break) ts h)
walk no_operand ts h = bare_walk (here_sound (λ b t. begins_no_operand t) ts h)
walk (ending x) ts h = ending_walk (on_both (over_sound is_semicolon ts) (here_sound (may_omit_semicolon x) ts) (from_append (over is_semicolon ts) (if_next (may_omit_semicolon x) ts) h))
walk open_parameters ts h = walked_open (over_sound (is_mark (codes "(")) ts h)
walk close_parameters ts h = walked_close (over_sound (is_mark (codes ")")) ts h)
walk (lay x) ts h = lay_walk h
walk _ ts h = elim h [ ]

walk_runs : {q : PieceOf Role} {qs : List (PieceOf Role)} {ps : Parts} {ts vs : List Token} {x : Result} → Walk q ts vs → RunsTo qs ps vs x → RunsTo (q ∷ qs) ps ts x
walk_runs (stepped s) d = (d.0, step s d.1)
walk_runs (walked_open (over_one e)) d = (suc d.0, opened (reads Punctuator (codes "(") e) d.1)
walk_runs (walked_close (over_one e)) d = (d.0, closed (reads Punctuator (codes ")") e) (runs_more (List Token) Next behind d.1))

lead_sound : (qs : List (PieceOf Role)) {ps : Parts} (ts : List Token) {vs : List Token} {x : Result} → Among vs (lead_steps qs ts) → RunsTo (tail_pieces qs) ps vs x → RunsTo qs ps ts x
lead_sound [] ts first d = d
lead_sound [] ts (later h) d = elim h [ ]
lead_sound (sub a ∷ qs) ts first d = d
lead_sound (sub a ∷ qs) ts (later h) d = elim h [ ]
lead_sound (absent ∷ qs) ts first d = d
lead_sound (absent ∷ qs) ts (later h) d = elim h [ ]
lead_sound (q ∷ qs) ts h d = let u = from_each (lead_steps qs) (steps_of q ts) h in walk_runs (walk q ts u.1) (lead_sound qs u.0 u.2 d)

-- the pieces from the next part on
end_case : {qs : List (PieceOf Role)} {ts : List Token} {x : Result} (rest : List (PieceOf Role)) → tail_pieces qs ≡ rest →
    Among x (at_end rest (map (λ (us : List Token). (us, [])) (lead_steps qs ts))) → RunsTo qs none ts x
end_case {qs} {ts} {x} [] e h =
    let u = from_map (λ (us : List Token). (us, [])) (lead_steps qs ts) h in
    subst (λ y. RunsTo qs none ts y) (sym u.2) (lead_sound qs ts {x = (u.0, [])} u.1 (subst (λ rest. RunsTo rest none u.0 (u.0, [])) (sym e) (0, done)))
end_case (q ∷ rest) e h = elim h [ ]

gap_case : {qs : List (PieceOf Role)} {ps : Parts} {ts : List Token} {x : Result} (g : List (PieceOf Role) → List Token → List Result) →
    ((rest : List (PieceOf Role)) (vs : List Token) (y : Result) → Among y (g rest vs) → RunsTo rest ps vs y) → (rest : List (PieceOf Role)) → tail_pieces qs ≡ rest →
    Among x (at_gap rest (λ rest. each (λ us. g rest us) (lead_steps qs ts))) → RunsTo qs (gap ps) ts x
gap_case {qs} {ps} {ts} {x} g sound (absent ∷ rest) e h =
    let u = from_each (λ us. g rest us) (lead_steps qs ts) h in let d = sound rest u.0 x u.2 in
    lead_sound qs ts u.1 (subst (λ rest. RunsTo rest (gap ps) u.0 x) (sym e) (d.0, missing d.1))
gap_case g sound _ e h = elim h [ ]

part_case : {qs : List (PieceOf Role)} {n : Tree} {ps : Parts} {ts : List Token} {x : Result} (f : Role → List Token → List Result) (g : List (PieceOf Role) → List Token → List Result) →
    ((a : Role) (vs : List Token) (y : Result) → Among y (f a vs) → SpellsTo n a vs y) →
    ((rest : List (PieceOf Role)) (vs : List Token) (y : Result) → Among y (g rest vs) → RunsTo rest ps vs y) → (rest : List (PieceOf Role)) → tail_pieces qs ≡ rest →
    Among x (at_part rest (λ a rest. each (λ us. each (λ x. map (λ y. (y.0, x.1 ++ y.1)) (g rest x.0)) (f a us)) (lead_steps qs ts))) → RunsTo qs (part n ps) ts x
part_case {qs} {n} {ps} {ts} {x} f g spells runs (sub a ∷ rest) e h =
    let u = from_each (λ us. each (λ x. map (λ y. (y.0, x.1 ++ y.1)) (g rest x.0)) (f a us)) (lead_steps qs ts) h in
    let v = from_each (λ x. map (λ y. (y.0, x.1 ++ y.1)) (g rest x.0)) (f a u.0) u.2 in
    let w = from_map (λ y. (y.0, v.0.1 ++ y.1)) (g rest v.0.0) v.2 in
    let p = spells a u.0 v.0 v.1 in let d = runs rest v.0.0 w.0 w.1 in
    subst (λ y. RunsTo qs (part n ps) ts y) (sym w.2)
    (lead_sound qs ts {x = (w.0.0, v.0.1 ++ w.0.1)} u.1 (subst (λ rest. RunsTo rest (part n ps) u.0 (w.0.0, v.0.1 ++ w.0.1)) (sym e) (p.0 + d.0, within_both (List Token) Next behind p.1 d.1)))
part_case f g spells runs _ e h = elim h [ ]

placed_sound : (a : Role) (n : Tree) (ts us : List Token) → IsTrue (in_place a n ts us) → Placed (List Token) Next behind a n ts us
placed_sound a n [] us h = cc h
placed_sound a n (b ∷ []) us h = cc h
placed_sound a n (b ∷ t ∷ ts) [] h = cc h
placed_sound a n (b ∷ t ∷ ts) (l ∷ us) h = let u = and_parts _ _ h in placed next (λ i. (same (place a t l).0 (start_of n) u.0 i, same (place a t l).1 (stop_of n) u.1 i))
  where
    same : (x y : ℕ) → nat_eq x y ≡ true → x ≡ y
    same x y h = grind (arith, nat_tests)

-- a reserved word that is found is read
record Reserved (n : Tree) (ts : List Token) (x : Result) : Type 0 where
  text : List ℕ
  sign : Token
  reads : Reads (List Token) Next behind TokenClass.Keyword text ts sign x.0
  keyword : is_keyword text ≡ true
  tree : n ≡ node Identifier text plain sign.start (behind x.0).stop none
  pairs : x.1 ≡ []

reserved_read : (n : Tree) (ts : List Token) (x : Result) → Among x (reserved n ts) → Reserved n ts x
reserved_read (node Identifier w g a b none) [] x h = elim h [ ]
reserved_read (node Identifier w g a b none) (c ∷ []) x h = elim h [ ]
reserved_read (node Identifier w g a b none) (c ∷ t ∷ ts) x h = cases _ h (λ e k. of x e k) (λ e k. elim k [ ])
  where
    equal : (m k : ℕ) → nat_eq m k ≡ true → m ≡ k
    equal m k h = grind (arith, nat_tests)

    of : (x : Result) → ((is_token TokenClass.Keyword w t && is_keyword w) && ((nat_eq t.start a && nat_eq t.stop b) && is_lean (node Identifier w g 0 0 none))) ≡ true → Among x ((t ∷ ts, []) ∷ []) → Reserved (node Identifier w g a b none) (c ∷ t ∷ ts) x
    of x e first =
        let u = and_parts _ _ e in
        let v = and_parts _ _ u.0 in
        let z = and_parts _ _ u.1 in
        let p = and_parts _ _ z.0 in
        let flags : g ≡ plain = lean_flags (node Identifier w g 0 0 none) z.1 in
        record {
          text = w;
          sign = t;
          reads = reads TokenClass.Keyword w v.0;
          keyword = v.1;
          tree = λ i. node Identifier w (flags i) (sym (equal t.start a p.0) i) (sym (equal t.stop b p.1) i) none;
          pairs = refl;
        }
    of x e (later k) = elim k [ ]
reserved_read (node Identifier w g a b (part m ps)) ts x h = elim h [ ]
reserved_read (node Identifier w g a b (gap ps)) ts x h = elim h [ ]
reserved_read (node _ w g a b ps) ts x h = elim h [ ]

module _ (inner : List (PieceOf Role) → List Token → List Result) (n : Tree) (sound : (qs : List (PieceOf Role)) (vs : List Token) (y : Result) → Among y (inner qs vs) → RunsTo qs (parts_of n) vs y) where
  directly_sound : (a : Role) (ts : List Token) (x : Result) → Among x (directly inner n a ts) → SpellsTo n a ts x
  directly_sound a ts x h =
      let u = from_filter (λ x. in_place a n ts x.0) (each (λ qs. inner qs ts) (ways a n)) h in
      let v = from_each (λ qs. inner qs ts) (ways a n) u.1 in let d = sound v.0 ts x v.2 in
      (d.0, direct v.0 v.1 (placed_sound a n ts x.0 u.0) d.1)

  -- a node in one group
  shut : {y : Rank} {i : Bool} {f : Start} {o : ℕ} {b left c right : Token} {ts us : List Token} {P : List Pair} {x : Result} (t : Bool) → is_mark (codes "(") left ≡ true → is_mark (codes ")") right ≡ t →
      Spells ways (List Token) Next behind o (expr Expression true Any) n (left ∷ ts) (c ∷ right ∷ us) P → Among x (cond t ((right ∷ us, pair_of left right ∷ P) ∷ []) []) → SpellsTo n (expr y i f) (b ∷ left ∷ ts) x
  shut {o = o} true e k p first = (suc o, grouped (reads Punctuator (codes "(") e) p (reads Punctuator (codes ")") k))
  shut true e k p (later m) = elim m [ ]
  shut false e k p m = elim m [ ]

  group : {y : Rank} {i : Bool} {f : Start} {o : ℕ} {b left : Token} {ts : List Token} {x : Result} (us : List Token) (P : List Pair) → is_mark (codes "(") left ≡ true →
      Spells ways (List Token) Next behind o (expr Expression true Any) n (left ∷ ts) us P → Among x (close left us P) → SpellsTo n (expr y i f) (b ∷ left ∷ ts) x
  group [] P e p h = elim h [ ]
  group (c ∷ []) P e p h = elim h [ ]
  group (c ∷ right ∷ us) P e p h = shut (is_mark (codes ")") right) e refl p h

  abbrev inside : List Token → List Result
  inside ts = directly inner n (expr Expression true Any) ts

  either_sound : {ts : List Token} {z : Result} → ((k : Among z (groups inside ts)) → SpellsTo n (expr Expression true Any) ts z) → Among z (inside ts) ⊎ Among z (groups inside ts) → SpellsTo n (expr Expression true Any) ts z
  either_sound f (inl k) = directly_sound (expr Expression true Any) _ _ k
  either_sound f (inr k) = f k

  groups_sound : (y : Rank) (i : Bool) (f : Start) (ts : List Token) (x : Result) → Among x (groups inside ts) → SpellsTo n (expr y i f) ts x
  groups_sound y i f [] x h = elim h [ ]
  groups_sound y i f (b ∷ []) x h = elim h [ ]
  groups_sound y i f (b ∷ left ∷ ts) x h = cases (is_mark (codes "(") left) h
      (λ e k. let u = from_each (λ z. close left z.0 z.1) (inside (left ∷ ts) ++ groups inside (left ∷ ts)) k in
      let d = either_sound {z = u.0} (λ k. groups_sound Expression true Any (left ∷ ts) u.0 k) (from_append (inside (left ∷ ts)) (groups inside (left ∷ ts)) u.1) in
      group u.0.0 u.0.1 e d.1 u.2)
      (λ e k. elim k [ ])

  everywhere_sound : (a : Role) (ts : List Token) (x : Result) → Among x (everywhere inner n a ts) → SpellsTo n a ts x
  everywhere_sound (expr y i f) ts x h = either (from_append (directly inner n (expr y i f) ts) (groups inside ts) h)
    where
      either : Among x (directly inner n (expr y i f) ts) ⊎ Among x (groups inside ts) → SpellsTo n (expr y i f) ts x
      either (inl k) = directly_sound (expr y i f) ts x k
      either (inr k) = groups_sound y i f ts x k
  everywhere_sound key ts x h = either (from_append (directly inner n key ts) (reserved n ts) h)
    where
      either : Among x (directly inner n key ts) ⊎ Among x (reserved n ts) → SpellsTo n key ts x
      either (inl k) = directly_sound key ts x k
      either (inr k) = let u = reserved_read n ts x k in (0, subst (λ P. Spells ways (List Token) Next behind 0 key n ts x.0 P) (sym u.pairs) (reserved_key u.reads u.keyword u.tree))
  everywhere_sound word ts x h = either (from_append (directly inner n word ts) (reserved n ts) h)
    where
      either : Among x (directly inner n word ts) ⊎ Among x (reserved n ts) → SpellsTo n word ts x
      either (inl k) = directly_sound word ts x k
      either (inr k) = let u = reserved_read n ts x k in (0, subst (λ P. Spells ways (List Token) Next behind 0 word n ts x.0 P) (sym u.pairs) (reserved_word u.reads u.keyword u.tree))
  everywhere_sound a ts x h = directly_sound a ts x h

mutual
  unfolding spelled parts_spelled

  pub spelled_sound : (n : Tree) (a : Role) (ts : List Token) (x : Result) → Among x (spelled n a ts) → SpellsTo n a ts x
  spelled_sound (node k w g s e ps) a ts x h = everywhere_sound (λ qs us. parts_spelled ps qs us) (node k w g s e ps) (λ qs vs y h. parts_sound ps qs vs y h) a ts x h

  pub parts_sound : (ps : Parts) (qs : List (PieceOf Role)) (ts : List Token) (x : Result) → Among x (parts_spelled ps qs ts) → RunsTo qs ps ts x
  parts_sound none qs ts x h = end_case (tail_pieces qs) refl h
  parts_sound (gap ps) qs ts x h = gap_case (λ rest vs. parts_spelled ps rest vs) (λ rest vs y h. parts_sound ps rest vs y h) (tail_pieces qs) refl h
  parts_sound (part n ps) qs ts x h =
      part_case (λ a vs. spelled n a vs) (λ rest vs. parts_spelled ps rest vs) (λ a vs y h. spelled_sound n a vs y h) (λ rest vs y h. parts_sound ps rest vs y h) (tail_pieces qs) refl h
