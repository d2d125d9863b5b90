-- Between which places the `(` of each grouping pair of a node stands, in each language.
use Rattle.std.proofs.Common.{◌≡◌, ℕ, ◌-◌, ◌≤◌, ◌<◌, Bool, true, false, cond, List, [], ◌∷◌, ◌++◌, length, refl, sym, ap, subst, ◌∙◌, arith, ◌⊎◌, inl, inr}
use Rattle.std.specs.Prelude.{IsTrue, codes, encode_utf8_all, if◌then◌else◌, ◌&&◌}
use Rattle.std.specs.Bool.{beq}
use Rattle.tokens.specs.Alphabet.{one_of, begins_with}
use Rattle.tokens.specs.declared.token.Goal.{Goal}
use Rattle.tokens.specs.declared.token.Goal.TheVariants.{Div, RegExp, TemplateTail}
use Rattle.tokens.specs.Goals.{allows, is_regexp, is_template_part, reads_regexps, reads_template_parts}
use Rattle.tokens.specs.declared.token.TokenClass.{TokenClass}
use Rattle.tokens.specs.declared.token.TokenClass.TheVariants.{IdentifierName, Punctuator, Keyword}
use Rattle.tokens.specs.Reading.{any_goal}
use Rattle.tree.specs.declared.kind.Pair.{Pair}
use Rattle.tree.specs.Tree.{Tree, Parts, none, start_of, stop_of, parts_of}
use Rattle.language.specs.declared.Rank.{Rank}
use Rattle.language.specs.declared.Rank.TheVariants.{Expression}
use Rattle.language.specs.declared.Start.{Start}
use Rattle.language.specs.declared.Start.TheVariants.{Any}
use Rattle.language.specs.Pieces.{Role, expr, shorthand_key, template_element, script, PieceOf}
use Rattle.language.specs.Token.{Token, table_text}
use Rattle.language.specs.Promises.{is_free}
use Rattle.language.specs.declared.Language.{Language}
use Rattle.language.specs.Languages.{is_of_2022, class_in, seen_in, Seen, seen_next}
use Rattle.language.specs.Vocabulary.{is_keyword}
use Rattle.language.specs.Places.{NextIn, next_in, itself}
use Rattle.language.specs.Grammar.{ways}
use Rattle.language.specs.Derivation.{Among, first, later, pair_of, Reads, Step, token, with_mark, without_mark, one_more, no_more, seen, same_line, left_bare, explicit, implicit, laid, Placed, placed, Spells, direct, grouped, Runs, done, step, opened, closed, within, missing, reserved_key, reserved_word}
use Rattle.language.proofs.covers.CoverKeys.{echo_form}
use Rattle.language.proofs.list_loops.TemplateElements.{chunk_told}
use Rattle.language.specs.Promises.{IsDetermined}
use Rattle.language.proofs.texts.TextOffsets.{text_determined}
use Rattle.language.proofs.texts.SeenTokens.{seen_determined}
use Rattle.pairless_laws.specs.Pairless.{IsPairless}

pub by_side : {X R : Type 0} {x : X} (xs ys : List X) → Among x (xs ++ ys) → (Among x xs → R) → (Among x ys → R) → R
by_side [] ys a f g = g a
by_side (x ∷ xs) ys first f g = f first
by_side (x ∷ xs) ys (later a) f g = by_side xs ys a (λ b. f (later b)) g

-- the `(` of each pair stands at the first place or behind it, and before the second
abbrev Opens : ℕ → ℕ → List Pair → Type 0
Opens from to P = (p : Pair) → Among p P → (from ≤ p.left) × (p.left < to)

opens_later : (from m to : ℕ) (P : List Pair) → m ≤ to → Opens from m P → Opens from to P
opens_later from m to P x h p a = let u = h p a in let v = u.1 in (u.0, omega (arith, v, x))

opens_first : (from to : ℕ) (x : Pair) (P : List Pair) → from ≤ x.left → x.left < to → Opens from to P → Opens from to (x ∷ P)
opens_first from to x P a b h _ first = (a, b)
opens_first from to x P a b h p (later i) = h p i

-- where none opens, there is none
none_opens : (from to : ℕ) (P : List Pair) → Opens from to P → IsPairless P from to → P ≡ []
none_opens from to [] h k = refl
none_opens from to (p ∷ P) h k = absurd (of (k p first))
  where
    of : (p.left < from) ⊎ (to ≤ p.left) → ⊥
    of (inl x) = let u = (h p first).0 in omega (arith, u, x)
    of (inr x) = let u = (h p first).1 in omega (arith, u, x)

-- some goal reads each token
some_goal : (c : TokenClass) (w : List ℕ) → (g : Goal) × IsTrue (allows g c w)
some_goal c w = go (is_regexp c) (is_template_part c) (begins_with (one_of "/") w) (begins_with (one_of "}") w)
  where
    go : (p q x y : Bool) → (g : Goal) × IsTrue (if x then beq p (reads_regexps g) else if y then beq q (reads_template_parts g) else true)
    go true q true y = (RegExp, refl)
    go false q true y = (Div, refl)
    go p true false true = (TemplateTail, refl)
    go p false false true = (Div, refl)
    go p q false false = (Div, refl)

-- a language sees a punctuator where one stands
pub punctuator_seen : (m : Language) (c : TokenClass) (w : List ℕ) → class_in m c w ≡ Punctuator → c ≡ Punctuator
punctuator_seen m IdentifierName w h = of (is_of_2022 m && is_keyword w) h
  where
    of : (b : Bool) → cond b Keyword IdentifierName ≡ Punctuator → IdentifierName ≡ Punctuator
    of true h = cc
    of false h = h
punctuator_seen m _ w h = h

module _ (m : Language) (text : List ℕ) where
  -- the next token, as the language sees it
  abbrev pub After : Token → Token → Token → Type 0
  After = Seen Token (NextIn text any_goal) m

  abbrev pub seen_by : Token → Token
  seen_by = seen_in m

  tokens_are : IsDetermined Token After seen_by
  tokens_are = seen_determined Token (NextIn text any_goal) itself m (text_determined text)

  abbrev pub SpellsIn : ℕ → Role → Tree → Token → Token → List Pair → Type 0
  SpellsIn o a n s e P = Spells ways Token After seen_by o a n s e P

  abbrev pub RunsIn : ℕ → List (PieceOf Role) → Parts → Token → Token → List Pair → Type 0
  RunsIn o qs ps s e P = Runs ways Token After seen_by o qs ps s e P

  abbrev pub ReadsIn : TokenClass → List ℕ → Token → Token → Token → Type 0
  ReadsIn = Reads Token After seen_by

  pub next_on : {s t e : Token} → After s t e → (s.stop ≤ t.start) × (t.start ≤ t.stop) × (e.stop ≡ t.stop)
  next_on {s} (seen_next (next_in {t = u} g any x)) =
      let a = x.start in
      let b = x.stop in
      (omega arith, omega arith, refl)

  -- a parenthesis is no empty token
  pub mark_wide : {s t e : Token} → ReadsIn Punctuator (codes "(") s t e → t.start < t.stop
  mark_wide {s} r = of r.next r.class r.text
    where
      of : {t e : Token} → After s t e → t.class ≡ Punctuator → t.text ≡ codes "(" → t.start < t.stop
      of (seen_next (next_in {t = t} goal any h)) class is =
          let text_is : t.text ≡ codes "(" = sym (ap (λ c. table_text c t.text) (punctuator_seen m t.class (table_text t.class t.text) class)) ∙ is in
          let one : length t.text ≡ 1 = ap length text_is in
          let word : length t.text ≡ length (encode_utf8_all h.word) = ap length h.text in
          let stop = h.stop in
          omega (arith, one, word, stop)

  -- no `(` that is read at the place starts before the number, and no token ends before it
  pub record From (f : ℕ) (s : Token) : Type 0 where
    pub opens : {t m : Token} → ReadsIn Punctuator (codes "(") s t m → f ≤ t.start
    pub ends : {t m : Token} → After s t m → f ≤ t.stop

  pub from_place : (f : ℕ) (s : Token) → f ≤ s.stop → From f s
  from_place f s l = record {
    opens = λ r. (let a = next_on r.next in omega (arith, l, a));
    ends = λ n. (let a = next_on n in omega (arith, l, a));
  }

  -- where the next token starts
  pub from_start : {s t m : Token} → After s t m → From t.start s
  from_start {s} {t} {m} x = record {
    opens = λ {t = u} {m = k} r. (let q = tokens_are.start s t u m k x r.next in omega (arith, q));
    ends = λ {t = u} {m = k} n. (let q = tokens_are.start s t u m k x n in let a = next_on n in omega (arith, q, a));
  }

  only_name : {w : List ℕ} {s e e' t t' : Token} → ReadsIn IdentifierName w s t e → After s t' e' → t' ≡ t
  only_name {s = s} {e = e} {e' = e'} {t = t} {t' = t'} h nx =
      let det = tokens_are in
      let g = some_goal t'.class t'.text in
      (det.same g.0 s t' t e' e nx h.next g.1 (det.free g.0 s t e h.next (ap is_free h.class))).0

  -- where the next token is a name, behind it
  pub from_name : {w : List ℕ} {s t m : Token} → ReadsIn IdentifierName w s t m → From t.stop s
  from_name {s = s} {t = t} x = record {
    opens = λ r. absurd (other (sym x.class ∙ ap (λ (u : Token). u.class) (sym (only_name x r.next)) ∙ r.class));
    ends = λ n. (let same = ap (λ (u : Token). u.stop) (only_name x n) in omega (arith, same));
  }
    where
      other : IdentifierName ≡ Punctuator → ⊥
      other h = cc

  read_from : {f : ℕ} {s t e : Token} → After s t e → From f s → From f e
  read_from {f = f} {e = e} n h = let a = h.ends n in let b = next_on n in from_place f e (omega (arith, a, b))

  -- from one place to another
  pub record Passed (f : ℕ) (s e : Token) : Type 0 where
    pub on : s.stop ≤ e.stop
    pub from : From f e

  pub read_passed : {f : ℕ} {s t e : Token} → After s t e → From f s → Passed f s e
  read_passed {s = s} {e = e} n h = let a = next_on n in record { on = omega (arith, a); from = read_from n h }

  stays : {f : ℕ} (s : Token) → From f s → Passed f s s
  stays s h = record { on = omega arith; from = h }

  pub step_passed : {f : ℕ} {q : PieceOf Role} {s e : Token} → Step Token After seen_by q s e → From f s → Passed f s e
  step_passed (token r) h = read_passed r.next h
  step_passed (with_mark r) h = read_passed r.next h
  step_passed (without_mark {s = s}) h = stays s h
  step_passed {s = s} {e = e} (one_more r d) h =
      let u = read_passed r.next h in
      let v = step_passed d u.from in
      let a = u.on in
      let b = v.on in
      record { on = omega (arith, a, b); from = v.from }
  step_passed (no_more {s = s}) h = stays s h
  step_passed (seen {s = s} r) h = stays s h
  step_passed (same_line {s = s} n k) h = stays s h
  step_passed (left_bare {s = s} n k) h = stays s h
  step_passed (explicit r) h = read_passed r.next h
  step_passed (implicit {s = s} n k) h = stays s h
  step_passed (laid {s = s}) h = stays s h

  -- from one place to another, with these pairs
  record Held (f : ℕ) (s e : Token) (P : List Pair) : Type 0 where
    on : s.stop ≤ e.stop
    from : From f e
    opens : Opens f e.stop P

  behind_passed : {f : ℕ} {s m e : Token} {P : List Pair} → Passed f s m → Held f m e P → Held f s e P
  behind_passed {s = s} {m = m} {e = e} u v = let a = u.on in let b = v.on in record { on = omega (arith, a, b); from = v.from; opens = v.opens }

  mutual
    spells_held : {o : ℕ} {a : Role} {n : Tree} {s e : Token} {P : List Pair} → SpellsIn o a n s e P → (f : ℕ) → From f s → Held f s e P
    spells_held (direct qs h pl d) f k = runs_held d f k
    spells_held (reserved_key r w e) f k = let u = read_passed r.next k in record { on = u.on; from = u.from; opens = λ p i. elim i [ ] }
    spells_held (reserved_word r w e) f k = let u = read_passed r.next k in record { on = u.on; from = u.from; opens = λ p i. elim i [ ] }
    spells_held {s = s} {e = e} (grouped {left = left} {right = right} {m = m} {l = l} {P = P} p d q) f k =
        let u = read_passed p.next k in
        let v = spells_held d f u.from in
        let w = read_passed q.next v.from in
        let at_left = k.opens p in
        let wide = mark_wide p in
        let at = next_on p.next in
        let a = u.on in
        let b = v.on in
        let c = w.on in
        record {
          on = omega (arith, a, b, c);
          from = w.from;
          opens = opens_first f e.stop (pair_of left right) P at_left (omega (arith, wide, at, b, c)) (opens_later f l.stop e.stop P c v.opens);
        }

    runs_held : {o : ℕ} {qs : List (PieceOf Role)} {ps : Parts} {s e : Token} {P : List Pair} → RunsIn o qs ps s e P → (f : ℕ) → From f s → Held f s e P
    runs_held (done {s = s}) f k = record { on = omega arith; from = k; opens = λ p i. elim i [ ] }
    runs_held (step q d) f k = let u = step_passed q k in behind_passed u (runs_held d f u.from)
    runs_held (opened p d) f k = let u = read_passed p.next k in behind_passed u (runs_held d f u.from)
    runs_held (closed p d) f k = let u = read_passed p.next k in behind_passed u (runs_held d f u.from)
    runs_held {s = s} {e = e} (within {m = m} {P = P} {Q = Q} p d) f k =
        let u = spells_held p f k in
        let v = runs_held d f u.from in
        let a = u.on in
        let b = v.on in
        record { on = omega (arith, a, b); from = v.from; opens = λ x i. by_side P Q i (λ j. opens_later f m.stop e.stop P b u.opens x j) (λ j. v.opens x j) }
    runs_held (missing d) f k = runs_held d f k

  -- A node that no pair stands round

  abbrev PlacedIn : Role → Tree → Token → Token → Type 0
  PlacedIn = Placed Token After seen_by

  -- there is none in it where none opens between where its text may begin and its end
  pub no_pairs : {o : ℕ} {n : Tree} {s e : Token} {P : List Pair} (a : Role) (qs : List (PieceOf Role)) → Among qs (ways a n) → PlacedIn a n s e → RunsIn o qs (parts_of n) s e P → (f : ℕ) → From f s → IsPairless P f (stop_of n) → P ≡ []
  no_pairs shorthand_key qs h pl d f k i = (echo_form Token After seen_by tokens_are (direct qs h pl d)).pairs
  no_pairs (template_element b l) qs h pl d f k i = (chunk_told Token After seen_by tokens_are (direct qs h pl d)).pairs
  no_pairs {n = n} {e = e} {P = P} _ qs h (placed nx at) d f k i =
      let stop : e.stop ≡ stop_of n = ap (λ (x : ℕ × ℕ). x.1) at in
      none_opens f e.stop P (runs_held d f k).opens (subst (IsPairless P f) (sym stop) i)

  -- its parts begin at its start, or it has none
  pub first_part : {o : ℕ} {n : Tree} {s e : Token} {P : List Pair} (a : Role) (qs : List (PieceOf Role)) → Among qs (ways a n) → PlacedIn a n s e → RunsIn o qs (parts_of n) s e P → From (start_of n) s ⊎ (parts_of n ≡ none)
  first_part shorthand_key qs h pl d = inr (ap parts_of (echo_form Token After seen_by tokens_are (direct qs h pl d)).tree)
  first_part (template_element b l) qs h pl d = inr (ap parts_of (chunk_told Token After seen_by tokens_are (direct qs h pl d)).tree)
  first_part {n = n} {s = s} script qs h (placed nx at) d = let start : 0 ≡ start_of n = ap (λ (x : ℕ × ℕ). x.0) at in inl (from_place (start_of n) s (omega (arith, start)))
  first_part {s = s} _ qs h (placed nx at) d = inl (subst (λ x. From x s) (ap (λ (x : ℕ × ℕ). x.0) at) (from_start nx))

  -- what has no parts has no pairs
  none_held : {o : ℕ} {qs : List (PieceOf Role)} {ps : Parts} {s e : Token} {P : List Pair} → RunsIn o qs ps s e P → ps ≡ none → P ≡ []
  none_held done z = refl
  none_held (step q d) z = none_held d z
  none_held (opened p d) z = none_held d z
  none_held (closed p d) z = none_held d z
  none_held (within p d) z = absurd (cc)
  none_held (missing d) z = absurd (cc)

  -- there is none in it where none opens in its span
  pub no_pairs_in_span : {o : ℕ} {n : Tree} {s e : Token} {P : List Pair} (a : Role) (qs : List (PieceOf Role)) → Among qs (ways a n) → PlacedIn a n s e → RunsIn o qs (parts_of n) s e P → IsPairless P (start_of n) (stop_of n) → P ≡ []
  no_pairs_in_span {n = n} {s = s} {P = P} a qs h pl d i = of (first_part a qs h pl d)
    where
      of : From (start_of n) s ⊎ (parts_of n ≡ none) → P ≡ []
      of (inl k) = no_pairs a qs h pl d (start_of n) k i
      of (inr z) = none_held d z

  -- Behind a node

  -- an expression ends between the two places
  expression_ends : {o : ℕ} {y : Rank} {i : Bool} {g : Start} {n : Tree} {s e : Token} {P : List Pair} → SpellsIn o (expr y i g) n s e P → (s.stop ≤ stop_of n) × (stop_of n ≤ e.stop)
  expression_ends {n = n} {s = s} {e = e} (direct qs h (placed nx at) d) =
      let stop : e.stop ≡ stop_of n = ap (λ (x : ℕ × ℕ). x.1) at in
      let on = (runs_held d 0 (from_place 0 s (omega arith))).on in
      (omega (arith, stop, on), omega (arith, stop))
  expression_ends (grouped p d q) =
      let u = expression_ends d in
      let a = next_on p.next in
      let c = next_on q.next in
      (omega (arith, a, u), omega (arith, c, u))

  -- the `(` of a pair round a node stands before the node's end
  pub group_opens : {o : ℕ} {n : Tree} {s left m l : Token} {P : List Pair} → ReadsIn Punctuator (codes "(") s left m → SpellsIn o (expr Expression true Any) n m l P → left.start < stop_of n
  group_opens p d =
      let u = expression_ends d in
      let a = next_on p.next in
      let b = mark_wide p in
      omega (arith, a, b, u)

  pub behind_node : {o : ℕ} {n : Tree} {s e : Token} {P : List Pair} (a : Role) → SpellsIn o a n s e P → From (stop_of n) e
  behind_node {n = n} {s = s} {e = e} (expr y i g) d = from_place (stop_of n) e (expression_ends d).1
  behind_node {s = s} {e = e} shorthand_key d =
      let u = echo_form Token After seen_by tokens_are d in
      subst (λ x. From x e) (sym (ap stop_of u.tree)) (subst (From u.sign.stop) u.place (from_name u.reads))
  behind_node {n = n} {e = e} (template_element b l) d =
      let u = chunk_told Token After seen_by tokens_are d in
      let stop : stop_of n ≡ e.stop - cond l 1 2 = ap stop_of u.tree in
      from_place (stop_of n) e (shorter l stop)
    where
      shorter : {x y : ℕ} (l : Bool) → x ≡ y - cond l 1 2 → x ≤ y
      shorter true h = omega (arith, h)
      shorter false h = omega (arith, h)
  behind_node {n = n} {e = e} _ (reserved_key r w z) = let stop : stop_of n ≡ e.stop = ap stop_of z in from_place (stop_of n) e (omega (arith, stop))
  behind_node {n = n} {e = e} _ (reserved_word r w z) = let stop : stop_of n ≡ e.stop = ap stop_of z in from_place (stop_of n) e (omega (arith, stop))
  behind_node {n = n} {e = e} _ (direct qs h (placed nx at) d) = let stop : e.stop ≡ stop_of n = ap (λ (x : ℕ × ℕ). x.1) at in from_place (stop_of n) e (omega (arith, stop))
