-- The search finds all that is spelled.
use Rattle.language.specs.Vocabulary.{is_keyword}
use Rattle.tree.specs.declared.kind.Kind.TheVariants.{Identifier}
use Rattle.std.proofs.Common.{◌≡◌, ℕ, Bool, true, false, cond, List, [], ◌∷◌, ◌++◌, refl, sym, ap, subst, arith}
use Rattle.std.specs.Prelude.{IsTrue, not, nat_eq, codes, map, filter}
use Rattle.std.proofs.lemmas.Bool.{and_from}
use Rattle.std.proofs.lemmas.Bool.Decides.{nat_tests}
use Rattle.std.proofs.lemmas.Slice.Eq.{bytes_eq-Decides}
use Rattle.tokens.specs.declared.token.TokenClass.{TokenClass}
use Rattle.tokens.specs.declared.token.TokenClass.TheVariants.{IdentifierName, Punctuator, NumericLiteral, StringLiteral, Template, RegularExpressionLiteral, PrivateName, Keyword, End}
use Rattle.language.specs.declared.Rank.TheVariants.{Expression}
use Rattle.language.specs.declared.Start.TheVariants.{Any}
use Rattle.tree.specs.declared.kind.Pair.{Pair}
use Rattle.tree.specs.Tree.{plain, Tree, node, Parts, none, part, gap, start_of, stop_of}
use Rattle.language.specs.Pieces.{key, word, Role, expr, PieceOf, open_parameters, close_parameters, sub, absent}
use Rattle.language.specs.Token.{Token, same_class, is_token, is_mark}
use Rattle.language.specs.Edges.{begins_no_operand, may_omit_semicolon, is_sign_class, is_semicolon}
use Rattle.language.specs.Cursor.{Next, next, behind}
use Rattle.language.specs.Grammar.{ways}
use Rattle.language.specs.Derivation.{Among, first, later, Reads, Step, token, with_mark, without_mark, one_more, no_more, seen, same_line, left_bare, explicit, implicit, laid, Placed, placed, place, pair_of, Spells, direct, grouped, Runs, done, step, opened, closed, within, missing, reserved_key, reserved_word}
use Rattle.language.specs.Search.{Result, each, over, if_next, over_many, steps_of, lead_steps, tail_pieces, in_place, close, groups, directly, everywhere, at_end, at_gap, at_part, spelled, parts_spelled, reserved}
use Rattle.language.proofs.table.ViewIsComplete.{from_map}
use Rattle.language.proofs.table.SearchIsSound.{from_each}

in_left : {X : Type 0} {x : X} {xs : List X} (ys : List X) → Among x xs → Among x (xs ++ ys)
in_left ys first = first
in_left ys (later h) = later (in_left ys h)

in_right : {X : Type 0} {x : X} (xs : List X) {ys : List X} → Among x ys → Among x (xs ++ ys)
in_right [] h = h
in_right (y ∷ xs) h = later (in_right xs h)

in_each : {X Y : Type 0} {z : X} {y : Y} (f : X → List Y) {xs : List X} → Among z xs → Among y (f z) → Among y (each f xs)
in_each f {xs = []} k h = elim k [ ]
in_each f {xs = x ∷ xs} first h = in_left (each f xs) h
in_each f {xs = x ∷ xs} (later k) h = in_right (f x) (in_each f k h)

in_map : {X Y : Type 0} {x : X} (f : X → Y) {xs : List X} → Among x xs → Among (f x) (map f xs)
in_map f first = first
in_map f (later h) = later (in_map f h)

in_cond : {X : Type 0} {x : X} {xs : List X} (b : Bool) (ys : List X) → b ≡ true → Among x xs → Among x (cond b xs ys)
in_cond true ys e h = h
in_cond false ys e h = cc e

in_both : {X : Type 0} {x : X} {xs : List X} (b : Bool) (y : X) → Among x xs → Among x (cond b (y ∷ xs) xs)
in_both true y h = later h
in_both false y h = h

pub in_filter : {X : Type 0} {x : X} (f : X → Bool) {xs : List X} → Among x xs → f x ≡ true → Among x (filter f xs)
in_filter {x = x} f first e = in_cond (f x) _ e first
in_filter f {xs = y ∷ ys} (later h) e = in_both (f y) y (in_filter f h e)

same_class_refl : (c : TokenClass) → IsTrue (same_class c c)
same_class_refl IdentifierName = refl
same_class_refl Punctuator = refl
same_class_refl NumericLiteral = refl
same_class_refl StringLiteral = refl
same_class_refl Template = refl
same_class_refl RegularExpressionLiteral = refl
same_class_refl PrivateName = refl
same_class_refl Keyword = refl
same_class_refl End = refl

token_true : {c : TokenClass} {w : List ℕ} {s e : List Token} {t : Token} → Reads (List Token) Next behind c w s t e → is_token c w t ≡ true
token_true {c} {w} {t = t} r = and_from _ _ (subst (λ d. IsTrue (same_class c d)) (sym r.class) (same_class_refl c)) ((bytes_eq-Decides t.text w).1 r.text)

semicolon_true : {s e : List Token} {t : Token} → Reads (List Token) Next behind Punctuator (codes ";") s t e → is_semicolon t ≡ true
semicolon_true {t = t} r = and_from _ _ (subst (λ d. IsTrue (is_sign_class d)) (sym r.class) refl) ((bytes_eq-Decides t.text (codes ";")).1 r.text)

in_over : (p : Token → Bool) {s e : List Token} {t : Token} → Next s t e → p t ≡ true → Among e (over p s)
in_over p {t = t} next h = in_cond (p t) _ h first

in_next : (p : Token → Token → Bool) {s e : List Token} {t : Token} → Next s t e → p (behind s) t ≡ true → Among s (if_next p s)
in_next p {t = t} (next {b = b}) h = in_cond (p b t) _ h first

in_many : (w : List ℕ) (ts : List Token) → Among ts (over_many w ts)
in_many w [] = first
in_many w (b ∷ []) = first
in_many w (b ∷ t ∷ ts) = in_right (cond (is_mark w t) (over_many w (t ∷ ts)) []) first

in_more : (w : List ℕ) {s m e : List Token} {t : Token} → Next s t m → is_mark w t ≡ true → Among e (over_many w m) → Among e (over_many w s)
in_more w {t = t} (next {b = b} {ts = ts}) h k = in_left ((b ∷ t ∷ ts) ∷ []) (in_cond (is_mark w t) _ h k)

not_false : (b : Bool) → b ≡ false → not b ≡ true
not_false false e = refl
not_false true e = cc

step_found : {q : PieceOf Role} {ts vs : List Token} → Step (List Token) Next behind q ts vs → Among vs (steps_of q ts)
step_found (token {c = c} {w = w} r) = in_over (is_token c w) r.next (token_true r)
step_found (with_mark {w = w} {s = s} r) = in_left (s ∷ []) (in_over (is_mark w) r.next (token_true r))
step_found (without_mark {w = w} {s = s}) = in_right (over (is_mark w) s) first
step_found (one_more {w = w} r d) = in_more w r.next (token_true r) (step_found d)
step_found (no_more {w = w} {s = s}) = in_many w s
step_found (seen {w = w} r) = in_next (λ b t. is_token IdentifierName w t) r.next (token_true r)
step_found (same_line {t = t} n h) = in_next (λ b t. not t.after_break) n (not_false t.after_break h)
step_found (left_bare {t = t} n h) = in_next (λ b t. begins_no_operand t) n h
step_found (explicit {x = x} {s = s} r) = in_left (if_next (may_omit_semicolon x) s) (in_over is_semicolon r.next (semicolon_true r))
step_found (implicit {x = x} {s = s} n h) = in_right (over is_semicolon s) (in_next (may_omit_semicolon x) n h)
step_found laid = first

-- some token stands behind
abbrev pub some_behind : List Token → Bool
some_behind [] = false
some_behind (t ∷ ts) = true

next_some : {s e : List Token} {t : Token} → Next s t e → some_behind e ≡ true
next_some next = refl

before_some : {s e : List Token} {t : Token} → Next s t e → some_behind s ≡ true
before_some next = refl

step_some : {q : PieceOf Role} {s e : List Token} → Step (List Token) Next behind q s e → some_behind s ≡ true → some_behind e ≡ true
step_some (token r) h = next_some r.next
step_some (with_mark r) h = next_some r.next
step_some without_mark h = h
step_some (one_more r d) h = step_some d (next_some r.next)
step_some no_more h = h
step_some (seen r) h = h
step_some (same_line n k) h = h
step_some (left_bare n k) h = h
step_some (explicit r) h = next_some r.next
step_some (implicit n k) h = h
step_some laid h = h

mutual
  spells_some : {o : ℕ} {a : Role} {n : Tree} {s e : List Token} {P : List Pair} → Spells ways (List Token) Next behind o a n s e P → some_behind s ≡ true → some_behind e ≡ true
  spells_some (direct qs h p d) k = runs_some d k
  spells_some (grouped p d q) k = next_some q.next
  spells_some (reserved_key r k p) h = next_some r.next
  spells_some (reserved_word r k p) h = next_some r.next

  runs_some : {o : ℕ} {qs : List (PieceOf Role)} {ps : Parts} {s e : List Token} {P : List Pair} → Runs ways (List Token) Next behind o qs ps s e P → some_behind s ≡ true → some_behind e ≡ true
  runs_some done h = h
  runs_some (step p d) h = runs_some d (step_some p h)
  runs_some (opened r d) h = runs_some d (next_some r.next)
  runs_some (closed r d) h = runs_some d (next_some r.next)
  runs_some (within p d) h = runs_some d (spells_some p h)
  runs_some (missing d) h = runs_some d h

in_place_found : (a : Role) (n : Tree) {ts : List Token} (us : List Token) → some_behind us ≡ true → Placed (List Token) Next behind a n ts us → in_place a n ts us ≡ true
in_place_found a n [] h p = cc h
in_place_found a n (l ∷ us) h (placed {t = t} next e) =
    and_from _ _ (same (place a t l).0 (start_of n) (ap (λ x. x.0) e)) (same (place a t l).1 (stop_of n) (ap (λ x. x.1) e))
  where
    same : (x y : ℕ) → x ≡ y → IsTrue (nat_eq x y)
    same x y h = grind (arith, nat_tests)

placed_some : {a : Role} {n : Tree} {s e : List Token} → Placed (List Token) Next behind a n s e → some_behind s ≡ true
placed_some (placed x h) = before_some x

-- a piece that is no part
lead_pass : (q : PieceOf Role) (qs : List (PieceOf Role)) (ts : List Token) {vs : List Token} → Among vs (steps_of q ts) → (v : List Token) → Among v (lead_steps qs vs) → Among v (lead_steps (q ∷ qs) ts)
lead_pass (sub a) qs ts h v k = elim h [ ]
lead_pass absent qs ts h v k = elim h [ ]
lead_pass q qs ts h v k = in_each (lead_steps qs) h k

tail_pass : (q : PieceOf Role) (qs : List (PieceOf Role)) (ts : List Token) {vs : List Token} → Among vs (steps_of q ts) → tail_pieces (q ∷ qs) ≡ tail_pieces qs
tail_pass (sub a) qs ts h = elim h [ ]
tail_pass absent qs ts h = elim h [ ]
tail_pass q qs ts h = refl

end_more : {x : Result} (rest : List (PieceOf Role)) {L M : List (List Token)} → ((v : List Token) → Among v L → Among v M) →
    Among x (at_end rest (map (λ (us : List Token). (us, [])) L)) → Among x (at_end rest (map (λ (us : List Token). (us, [])) M))
end_more {x} [] {L} {M} f h = let u = from_map (λ (us : List Token). (us, [])) L h in subst (λ y. Among y (map (λ (us : List Token). (us, [])) M)) (sym u.2) (in_map (λ (us : List Token). (us, [])) (f u.0 u.1))
end_more (q ∷ rest) f h = elim h [ ]

gap_more : {x : Result} (rest : List (PieceOf Role)) (g : List (PieceOf Role) → List Token → List Result) {L M : List (List Token)} → ((v : List Token) → Among v L → Among v M) →
    Among x (at_gap rest (λ rest. each (λ us. g rest us) L)) → Among x (at_gap rest (λ rest. each (λ us. g rest us) M))
gap_more (absent ∷ rest) g {L} f h = let u = from_each (λ us. g rest us) L h in in_each (λ us. g rest us) (f u.0 u.1) u.2
gap_more _ g f h = elim h [ ]

part_more : {x : Result} (rest : List (PieceOf Role)) (g : Role → List (PieceOf Role) → List Token → List Result) {L M : List (List Token)} → ((v : List Token) → Among v L → Among v M) →
    Among x (at_part rest (λ a rest. each (λ us. g a rest us) L)) → Among x (at_part rest (λ a rest. each (λ us. g a rest us) M))
part_more (sub a ∷ rest) g {L} f h = let u = from_each (λ us. g a rest us) L h in in_each (λ us. g a rest us) (f u.0 u.1) u.2
part_more _ g f h = elim h [ ]

parts_pass : (ps : Parts) (q : PieceOf Role) (qs : List (PieceOf Role)) (ts : List Token) {vs : List Token} {x : Result} → Among vs (steps_of q ts) → Among x (parts_spelled ps qs vs) → Among x (parts_spelled ps (q ∷ qs) ts)
unfolding parts_spelled
parts_pass none q qs ts {vs} {x} k h =
    subst (λ rest. Among x (at_end rest (map (λ (us : List Token). (us, [])) (lead_steps (q ∷ qs) ts)))) (sym (tail_pass q qs ts k)) (end_more (tail_pieces qs) (lead_pass q qs ts k) h)
parts_pass (gap ps) q qs ts {vs} {x} k h =
    subst (λ rest. Among x (at_gap rest (λ rest. each (λ us. parts_spelled ps rest us) (lead_steps (q ∷ qs) ts)))) (sym (tail_pass q qs ts k))
    (gap_more (tail_pieces qs) (λ rest us. parts_spelled ps rest us) (lead_pass q qs ts k) h)
parts_pass (part n ps) q qs ts {vs} {x} k h =
    subst (λ rest. Among x (at_part rest (λ a rest. each (λ us. each (λ x. map (λ y. (y.0, x.1 ++ y.1)) (parts_spelled ps rest x.0)) (spelled n a us)) (lead_steps (q ∷ qs) ts)))) (sym (tail_pass q qs ts k))
    (part_more (tail_pieces qs) (λ a rest us. each (λ x. map (λ y. (y.0, x.1 ++ y.1)) (parts_spelled ps rest x.0)) (spelled n a us)) (lead_pass q qs ts k) h)

in_everywhere : (inner : List (PieceOf Role) → List Token → List Result) (n : Tree) (a : Role) (ts : List Token) {x : Result} → Among x (directly inner n a ts) → Among x (everywhere inner n a ts)
in_everywhere inner n (expr y i f) ts h = in_left (groups (directly inner n (expr Expression true Any)) ts) h
in_everywhere inner n key ts h = in_left (reserved n ts) h
in_everywhere inner n word ts h = in_left (reserved n ts) h
in_everywhere inner n _ ts h = h

-- a reserved word that is read is found
reserved_found : {w : List ℕ} {n : Tree} {t : Token} {ts us : List Token} → Reads (List Token) Next behind TokenClass.Keyword w ts t us → is_keyword w ≡ true → n ≡ node Identifier w plain t.start (behind us).stop none → Among (us, []) (reserved n ts)
reserved_found {w} {n} {t} {ts} {us} r h p = subst (λ v. Among (us, []) (reserved v ts)) (sym p) (of r.next (token_true r))
  where
    same : (m : ℕ) → nat_eq m m ≡ true
    same m = grind (arith, nat_tests)

    of : {ts us : List Token} → Next ts t us → is_token TokenClass.Keyword w t ≡ true → Among (us, []) (reserved (node Identifier w plain t.start (behind us).stop none) ts)
    of next e = in_cond _ _ (and_from _ _ (and_from _ _ e h) (and_from _ _ (and_from _ _ (same t.start) (same t.stop)) refl)) first

in_close : (left : Token) {s e : List Token} {right : Token} {P : List Pair} → Next s right e → is_mark (codes ")") right ≡ true → Among (e, pair_of left right ∷ P) (close left s P)
in_close left {right = right} next h = in_cond (is_mark (codes ")") right) _ h first

in_groups : (inner : List Token → List Result) {s m : List Token} {left : Token} {x z : Result} → Next s left m → is_mark (codes "(") left ≡ true → Among z (inner m ++ groups inner m) → Among x (close left z.0 z.1) → Among x (groups inner s)
in_groups inner {left = left} next h k l = in_cond (is_mark (codes "(") left) _ h (in_each (λ z. close left z.0 z.1) k l)

mutual
  unfolding spelled parts_spelled

  pub spells_found : {o : ℕ} {a : Role} {n : Tree} {ts us : List Token} {P : List Pair} → Spells ways (List Token) Next behind o a n ts us P → Among (us, P) (spelled n a ts)
  spells_found {a = a} {n = node k w g b c ps} {ts = ts} {us = us} (direct qs h p d) =
      in_everywhere (λ qs us. parts_spelled ps qs us) (node k w g b c ps) a ts (in_filter (λ x. in_place a (node k w g b c ps) ts x.0) (in_each (λ qs. parts_spelled ps qs ts) h (runs_found d))
      (in_place_found a (node k w g b c ps) us (runs_some d (placed_some p)) p))
  spells_found {a = expr y i f} {n = node k w g b c ps} {ts = ts} (grouped {left = left} p d q) =
      in_right (directly (λ qs us. parts_spelled ps qs us) (node k w g b c ps) (expr y i f) ts)
      (in_groups (directly (λ qs us. parts_spelled ps qs us) (node k w g b c ps) (expr Expression true Any)) p.next (token_true p) (spells_found d) (in_close left q.next (token_true q)))
  spells_found {n = node k w g b c ps} {ts = ts} (reserved_key r h p) = in_right (directly (λ qs us. parts_spelled ps qs us) (node k w g b c ps) key ts) (reserved_found r h p)
  spells_found {n = node k w g b c ps} {ts = ts} (reserved_word r h p) = in_right (directly (λ qs us. parts_spelled ps qs us) (node k w g b c ps) word ts) (reserved_found r h p)

  pub runs_found : {o : ℕ} {qs : List (PieceOf Role)} {ps : Parts} {ts us : List Token} {P : List Pair} → Runs ways (List Token) Next behind o qs ps ts us P → Among (us, P) (parts_spelled ps qs ts)
  runs_found done = first
  runs_found {ps = ps} {ts = ts} (step {q = q} {qs = qs} p d) = parts_pass ps q qs ts (step_found p) (runs_found d)
  runs_found {ps = ps} {ts = ts} (opened {qs = qs} r d) = parts_pass ps open_parameters qs ts (in_over (is_mark (codes "(")) r.next (token_true r)) (runs_found d)
  runs_found {ps = ps} {ts = ts} (closed {qs = qs} r d) = parts_pass ps close_parameters qs ts (in_over (is_mark (codes ")")) r.next (token_true r)) (runs_found d)
  runs_found {ts = ts} (within {a = a} {qs = qs} {n = n} {ps = ps} {P = P} {Q = Q} p d) =
      in_each (λ us. each (λ x. map (λ y. (y.0, x.1 ++ y.1)) (parts_spelled ps qs x.0)) (spelled n a us)) {xs = ts ∷ []} first
      (in_each (λ x. map (λ y. (y.0, x.1 ++ y.1)) (parts_spelled ps qs x.0)) (spells_found p) (in_map (λ y. (y.0, P ++ y.1)) (runs_found d)))
  runs_found {ts = ts} (missing {qs = qs} {ps = ps} d) = in_each (λ us. parts_spelled ps qs us) {xs = ts ∷ []} first (runs_found d)
