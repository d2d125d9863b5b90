-- A text that derived before the 12th edition derives the same tree now: no earlier derivation has `&&`, `||` or `??` directly before `=`,
-- since an operand stands behind them, and none begins with `=`.
use Rattle.std.proofs.Common.{◌≡◌, ℕ, ◌+◌, ◌-◌, Bool, true, false, cond, not, ◌&&◌, ◌||◌, List, [], ◌∷◌, ◌++◌, refl, sym, ap, ◌∙◌, subst, arith, IsTrue, append_assoc, codes}
use Rattle.std.specs.Prelude.{encode_utf8_all}
use Rattle.std.specs.Char.{encode_utf8}
use Rattle.std.specs.Str.{IsUtf8}
use Rattle.std.proofs.lemmas.Bool.Decides.{nat_tests}
use Rattle.std.proofs.lemmas.Str.{IsCharBoundary-from_drop}
use Rattle.std.proofs.lemmas.Bool.{false≢true, and_parts}
use Rattle.tokens.specs.Alphabet.{one_of, begins_with}
use Rattle.tokens.specs.Comments.{begins_comment, nothing}
use Rattle.tokens.specs.declared.token.TokenClass.{TokenClass}
use Rattle.tokens.specs.declared.token.TokenClass.TheVariants.{IdentifierName, Punctuator}
use Rattle.tokens.specs.declared.token.Goal.TheVariants.{Div}
use Rattle.tokens.specs.TokenStarts.{class_of}
use Rattle.tokens.specs.Lexical.{is_of}
use Rattle.tokens.specs.Tokens.{LexicalToken}
use Rattle.tokens.specs.Reading.{behind, any_goal}
use Rattle.tokens.specs.Scanned.{IsSolid}
use Rattle.tokens.proofs.Beginnings.{true_false}
use Rattle.tokens.proofs.Classes.{class_fits, token_is}
use Rattle.tokens.proofs.TokenUniqueness.{gap_same, token_solid, comment_begins}
use Rattle.tokens.proofs.EarlierWords.{longer_today}
use Rattle.tree.specs.declared.kind.Kind.{Kind}
use Rattle.tree.specs.declared.kind.Kind.TheVariants as kind
use Rattle.tree.specs.declared.kind.Flags.{Flags}
use Rattle.tree.specs.declared.kind.Pair.{Pair}
use Rattle.tree.specs.Tree.{Tree, node, Parts}
use Rattle.language.specs.declared.Rank.{Rank}
use Rattle.language.specs.declared.Start.{Start}
use Rattle.language.specs.declared.Edge.{Edge}
use Rattle.language.specs.declared.Edge.TheVariants.{Arrow, Postfix, Other, Closed}
use Rattle.language.specs.Vocabulary.{is, among}
use Rattle.language.specs.Pieces.{Role, expr, chain_part, shorthand_key, template_element, script, Ending, of_do, PieceOf, tok, may, many, ahead, unbroken, ending, open_parameters, close_parameters, sub, absent, never, lay}
use Rattle.language.specs.Pieces as pieces
use Rattle.language.specs.Token.{Token, as_read, table_text}
use Rattle.language.specs.Edges.{begins_no_operand, goes_on, may_omit_semicolon, edge_as_written, is_semicolon, is_end, is_sign, value_goes_on, key_goes_on, begins_key}
use Rattle.language.specs.ExpressionStart.{ExpressionStart, no_start, expression_start, expression_start_by}
use Rattle.language.specs.Grammar.{ways, spellings}
use Rattle.language.specs.Places.{NextIn, next_in, itself}
use Rattle.language.specs.Promises.{is_free, IsDetermined}
use Rattle.language.specs.Derivation.{Among, Reads, Step, token, with_mark, without_mark, one_more, no_more, seen, same_line, explicit, implicit, laid, Placed, placed, place, Spells, direct, grouped, Runs, done, step, opened, closed, within, missing, left_bare, reserved_key, reserved_word}
use Rattle.language.specs.Claims.{DerivesOpen}
use Rattle.language.specs.Earlier.{EarlierNextIn, earlier_next_in, is_new_node, earlier_ways, EarlierDerivesOpen}
use Rattle.language.proofs.table.Begins.{among_by, div_allows}
use Rattle.language.proofs.climbing.LeftmostParts.{Cored, in_group, in_way, core_of, no_spine_core}
use Rattle.language.proofs.lower_bound.Domination.{settled}
use Rattle.language.proofs.texts.EarlierTokens.{joined, GoesOn, Today, as_it_is, goes_on as goes_further, Good, stays_good, read_today, first_is, equals_is}
use Rattle.language.proofs.texts.Frame.{Carries, Spells-good}
use Rattle.language.proofs.table.TokenFirstWays as headed
use Rattle.language.proofs.table.TokenFirstWays.{Headed, Opens}
use Rattle.language.proofs.table.LogicalPieces.{is_mark, is_operand, ready_here, guarded_here}
use Rattle.language.proofs.table.LogicalTable.{way_guarded}
use Rattle.language.proofs.climbing.Spine.{Core, on_spine, grows_on_spine, spine_of}
use Rattle.language.proofs.texts.TextOffsets.{text_determined}
use Rattle.language.proofs.table.ViewIsComplete.{way_of, one}

-- What an operand begins with

abbrev pub opens_any : ExpressionStart → Bool
opens_any no_start = false
opens_any _ = true

headed_opens : {y : Rank} {i : Bool} {f : Start} {k : Kind} {w : List ℕ} {g : Flags} {ps : Parts} {qs : List (PieceOf Role)} {x : ExpressionStart} → Headed y i f k w g ps qs x → opens_any x ≡ true
headed_opens (headed.head_identifier a b c) = refl
headed_opens _ = refl

module _ (S : Type 0) (Next : S → Token → S → Type 0) (before : S → Token) (det : IsDetermined S Next before) where
  cored_opens : {o : ℕ} {y : Rank} {i : Bool} {f : Start} {n : Tree} {s e : S} {P : List Pair} {x : ExpressionStart} → Cored S Next before det o y i f n s e P x → opens_any x ≡ true
  cored_opens (in_group a p d q b) = refl
  cored_opens (in_way a h b pl d) = headed_opens h

  -- the token with which an operand begins, by the goal for operands
  pub record Operand (s : S) : Type 0 where
    pub opening : ExpressionStart
    pub any : opens_any opening ≡ true
    pub begins : Opens S Next before det opening s

  pub operand : {o : ℕ} {y : Rank} {i : Bool} {f : Start} {n : Tree} {s e : S} {P : List Pair} → Spells ways S Next before o (expr y i f) n s e P → Operand s
  operand {o} {s = s} d = let u = spine_of S Next before d in of u.role (grows_on_spine S Next before refl u.grows) u.core
    where
      of : {m : Tree} {e : S} {P : List Pair} (a : Role) → on_spine a ≡ true → Core S Next before o a m s e P → Operand s
      of (expr y i f) h c = let v = core_of S Next before det c in record { opening = v.opening; any = cored_opens v.cored; begins = v.begins }
      of (chain_part f) h c = absurd (no_spine_core S Next before det c)
      of _ h c = absurd (false≢true h)

  -- it stands next
  operand_next : {o : ℕ} {ps : Parts} {s e : S} {P : List Pair} (qs : List (PieceOf Role)) → ready_here qs ≡ true → Runs ways S Next before o qs ps s e P → Operand s
  operand_next (lay h ∷ qs) k (step laid d) = operand_next qs k d
  operand_next (sub a ∷ qs) k (step p d) = elim p [ ]
  operand_next {s = s} (sub a ∷ qs) k (within p d) = of a k p
    where
      of : {o : ℕ} {n : Tree} {e : S} {P : List Pair} (a : Role) → is_operand a ≡ true → Spells ways S Next before o a n s e P → Operand s
      of (expr y i f) k p = operand p
      of _ k p = absurd (false≢true k)
  operand_next [] k d = absurd (false≢true k)
  operand_next (tok c w ∷ qs) k d = absurd (false≢true k)
  operand_next (may w ∷ qs) k d = absurd (false≢true k)
  operand_next (many w ∷ qs) k d = absurd (false≢true k)
  operand_next (ahead w ∷ qs) k d = absurd (false≢true k)
  operand_next (unbroken ∷ qs) k d = absurd (false≢true k)
  operand_next (pieces.no_operand ∷ qs) k d = absurd (false≢true k)
  operand_next (ending x ∷ qs) k d = absurd (false≢true k)
  operand_next (open_parameters ∷ qs) k d = absurd (false≢true k)
  operand_next (close_parameters ∷ qs) k d = absurd (false≢true k)
  operand_next (absent ∷ qs) k d = absurd (false≢true k)
  operand_next (never ∷ qs) k d = absurd (false≢true k)

-- Where `=` stands directly behind, none begins

equals_solid : (cs : List ℕ) → IsSolid (61 ∷ cs)
equals_solid cs = record { no_blank = refl; no_comment = λ w r e c. true_false _ (subst (λ x. IsTrue (begins_comment x)) (sym e) (comment_begins w r c)) refl }

sign_opens : (k : LexicalToken) (w : List ℕ) → k.class ≡ Punctuator → k.text ≡ encode_utf8_all (61 ∷ w) → expression_start (as_read k) ≡ no_start
unfolding encode_utf8
sign_opens k w c e = ap (λ x. expression_start_by x (table_text x k.text)) c ∙ ap (expression_start_by Punctuator) e ∙ refl

no_operand : (text : List ℕ) (s t e : Token) → IsTrue (begins_with (one_of "=") (behind text s.stop)) → NextIn text any_goal s t e → expression_start t ≡ no_start
no_operand text s t e h (next_in {t = k} goal any x) =
    let f = first_is (one_of "=") (behind text s.stop) h in
    let is : behind text s.stop ≡ 61 ∷ f.1 = f.2 ∙ ap (λ c. c ∷ f.1) (equals_is f.0 f.3) in
    let rest : List ℕ = behind text k.stop in
    let no : x.gap ≡ [] = gap_same x.gap [] (x.word ++ rest) (61 ∷ f.1) x.separated nothing (sym (append_assoc x.gap x.word rest) ∙ sym x.split ∙ is) (token_solid k.class x.word rest x.longest x.no_comment) (equals_solid f.1) in
    let word : x.word ++ rest ≡ 61 ∷ f.1 = sym (ap (λ g. g ++ x.word ++ rest) no) ∙ sym x.split ∙ is in
    let class : k.class ≡ Punctuator = class_fits goal k.class x.word rest x.longest x.allowed ∙ ap (class_of goal) word in
    of rest f.1 x.word class word (subst (λ c. IsTrue (is_of c x.word)) class (token_is k.class x.word rest x.longest)) x.text
  where
    of : (rest cs w : List ℕ) → k.class ≡ Punctuator → w ++ rest ≡ 61 ∷ cs → IsTrue (is_of Punctuator w) → k.text ≡ encode_utf8_all w → expression_start (as_read k) ≡ no_start
    of rest cs [] c e h q = absurd (true_false _ h refl)
    of rest cs (d ∷ w) c e h q = let p : d ≡ 61 = cc in sign_opens k w c (q ∙ ap (λ z. encode_utf8_all (z ∷ w)) p)

-- Where a token that goes on with `=` ends a statement, what it goes on to does

longer_codes : (w : List ℕ) → among w longer_today ≡ true → (R : List ℕ → Type 0) → R (codes "&&") → R (codes "||") → R (codes "??") → R w
longer_codes w h R a b c = among_by R w longer_today h (a, (b, (c, tt)))

-- nothing that ends goes on with the joined token
joined_ending : (x : Edge) (t : Token) → among t.text longer_today ≡ true → goes_on x (joined t) ≡ false
joined_ending Arrow t h = refl
joined_ending Closed t h = refl
joined_ending Postfix t h = longer_codes t.text h (λ v. goes_on Postfix (joined (record t { text = v })) ≡ false) refl refl refl
joined_ending Other t h = longer_codes t.text h (λ v. goes_on Other (joined (record t { text = v })) ≡ false) refl refl refl

joined_value : (x : Edge) (t : Token) → among t.text longer_today ≡ true → value_goes_on x (joined t) ≡ false
joined_value Arrow t h = refl
joined_value Closed t h = refl
joined_value Postfix t h = longer_codes t.text h (λ v. value_goes_on Postfix (joined (record t { text = v })) ≡ false) refl refl refl
joined_value Other t h = longer_codes t.text h (λ v. value_goes_on Other (joined (record t { text = v })) ≡ false) refl refl refl

joined_key : (w : List ℕ) (s : Bool) (t : Token) → among t.text longer_today ≡ true → key_goes_on w s (joined t) ≡ false
joined_key w s t h = neither (among w ("get" ∷ "set" ∷ [])) (is w "static" && not s) (begins_key (joined t)) (is_sign (joined t) && is (joined t).text "*")
    (longer_codes t.text h (λ v. begins_key (joined (record t { text = v })) ≡ false) refl refl refl) (longer_codes t.text h (λ v. is (v ++ 61 ∷ []) "*" ≡ false) refl refl refl)
  where
    neither : (a c b d : Bool) → b ≡ false → d ≡ false → ((a && b) || (c && (b || d))) ≡ false
    neither true true b d h k = ap (λ z. z || (z || d)) h ∙ k
    neither true false b d h k = ap (λ z. z || false) h
    neither false true b d h k = ap (λ z. z || d) h ∙ k
    neither false false b d h k = refl

joined_misses : (x : Ending) (last t : Token) → among t.text longer_today ≡ true → t.class ≡ Punctuator → IsTrue (may_omit_semicolon x last t) → IsTrue (may_omit_semicolon x last (joined t))
joined_misses x last t h c k = of x k
  where
    semicolon : is_semicolon (joined t) ≡ false
    semicolon = longer_codes t.text h (λ v. is_semicolon (joined (record t { text = v })) ≡ false) refl refl refl

    this_ends : (is_end t || (is_sign t && is t.text "}")) ≡ false
    this_ends = by_class t.class t.text c h
      where
        by_class : (k : TokenClass) (w : List ℕ) → k ≡ Punctuator → among w longer_today ≡ true → (is_end (record t { class = k; text = w }) || (is_sign (record t { class = k; text = w }) && is w "}")) ≡ false
        by_class k w c h = ap (λ z. is_end (record t { class = z; text = w }) || (is_sign (record t { class = z; text = w }) && is w "}")) c ∙ longer_codes w h (λ v. is v "}" ≡ false) refl refl refl

    move : (a b d g a' b' g' : Bool) → IsTrue (not a && (b || (d && not g))) → b ≡ false → a' ≡ false → g' ≡ false → IsTrue (not a' && (b' || (d && not g')))
    move a b d g a' b' g' h k l m = grind (arith, nat_tests)

    of : (x : Ending) → IsTrue (may_omit_semicolon x last t) → IsTrue (may_omit_semicolon x last (joined t))
    of of_do k = yes _ _ semicolon
      where
        yes : (a b : Bool) → a ≡ false → IsTrue (not a && (b || true))
        yes true b e = absurd (false≢true (sym e))
        yes false true e = refl
        yes false false e = refl
    of (pieces.behind y) k = move _ _ _ _ _ _ _ k this_ends semicolon (joined_ending (edge_as_written y last) t h)
    of (pieces.behind_value y) k = move _ _ _ _ _ _ _ k this_ends semicolon (joined_value (edge_as_written y last) t h)
    of (pieces.behind_key w s) k = move _ _ _ _ _ _ _ k this_ends semicolon (joined_key w s t h)
    of pieces.of_export k = move _ _ _ _ _ _ _ k this_ends semicolon refl

-- nor does a bare `yield` end before it that did not before
joined_bare : (t : Token) → among t.text longer_today ≡ true → t.class ≡ Punctuator → IsTrue (begins_no_operand t) → IsTrue (begins_no_operand (joined t))
joined_bare t h c k = longer_codes t.text h (λ v. IsTrue (begins_no_operand (record t { class = Punctuator; text = v })) → IsTrue (begins_no_operand (joined (record t { text = v })))) (λ z. z) (λ z. z) (λ z. z)
    (subst (λ y. IsTrue (begins_no_operand (record t { class = y }))) c k)

-- a node's place looks at the start of its first token, that of a shorthand key aside
place_same : (a : Role) (t v l : Token) → (a ≡ shorthand_key → ⊥) → v.start ≡ t.start → place a v l ≡ place a t l
place_same shorthand_key t v l n h = absurd (n refl)
place_same (template_element b c) t v l n h = ap (λ z. (z + 1, l.stop - cond c 1 2)) h
place_same script t v l n h = refl
place_same _ t v l n h = ap (λ z. (z, l.stop)) h

not_true : (b : Bool) → not b ≡ true → b ≡ false
not_true true h = sym h
not_true false h = refl

was_way : (a : Role) (n : Tree) {qs : List (PieceOf Role)} → Among qs (earlier_ways a n) → Among qs (ways a n)
was_way a n {qs} h = go (is_new_node n) h
  where
    go : (b : Bool) → Among qs (cond b [] (ways a n)) → Among qs (ways a n)
    go true h = elim h [ ]
    go false h = h

module _ (text : List ℕ) (u : IsUtf8 text) where
  abbrev Before : Token → Token → Token → Type 0
  Before = EarlierNextIn text

  abbrev After : Token → Token → Token → Type 0
  After = NextIn text any_goal

  det : IsDetermined Token After itself
  det = text_determined text

  carries : Carries Token Before itself Token Before itself itself (Good text u)
  carries = record { next = λ s t e g h. h; stays = stays_good text u; before = λ s t e h. refl; after = λ s t e h. refl }

  good_behind : {o : ℕ} {a : Role} {n : Tree} {s e : Token} {P : List Pair} → Good text u s → Spells earlier_ways Token Before itself o a n s e P → Good text u e
  good_behind g d = Spells-good earlier_ways Token Before itself Token Before itself itself (Good text u) carries g d

  is_place : (s t e : Token) → Before s t e → e ≡ t
  is_place s t e (earlier_next_in goal r) = refl

  -- a token that isn't one of the three
  as_now : {s t e : Token} {c : TokenClass} {w : List ℕ} → (is_mark c && among w longer_today) ≡ false → Good text u s → Reads Token Before itself c w s t e → Reads Token After itself c w s t e
  as_now {s} {t} {e} {c} {w} h g r = record { next = subst (λ z. After s t z) (sym (is_place s t e r.next)) (of (read_today text u s t e g r.next)); class = r.class; text = r.text }
    where
      of : Today text s t → After s t t
      of (as_it_is n) = n
      of (goes_further x) = absurd (false≢true (sym h ∙ ap (λ z. is_mark z && among w longer_today) (sym r.class ∙ x.class) ∙ ap (λ v. among v longer_today) (sym r.text) ∙ x.word))

  -- one that may be, where an operand stands behind it
  as_now_before : {o : ℕ} {ps : Parts} {s t m e : Token} {P : List Pair} {c : TokenClass} {w : List ℕ} (qs : List (PieceOf Role)) → (not (is_mark c && among w longer_today) || ready_here qs) ≡ true → Good text u s →
      Reads Token Before itself c w s t m → Runs ways Token After itself o qs ps m e P → Reads Token After itself c w s t m
  as_now_before {s = s} {t} {m} {c = c} {w} qs h g r d = by_test (is_mark c && among w longer_today) refl h
    where
      by_test : (b : Bool) → (is_mark c && among w longer_today) ≡ b → (not b || ready_here qs) ≡ true → Reads Token After itself c w s t m
      by_test false e k = as_now e g r
      by_test true e k = record { next = subst (λ z. After s t z) (sym (is_place s t m r.next)) (of (read_today text u s t m g r.next)); class = r.class; text = r.text }
        where
          of : Today text s t → After s t t
          of (as_it_is n) = n
          of (goes_further x) =
              let a = operand_next Token After itself det qs k d in
              let none = no_operand text m a.begins.token a.begins.mid (subst (λ z. IsTrue (begins_with (one_of "=") (behind text z.stop))) (sym (is_place s t m r.next)) x.equals) a.begins.read.next in
              absurd (false≢true (ap opens_any (sym none ∙ a.begins.opens) ∙ a.any))

  -- what is seen and stays
  same_line_now : {s t e : Token} → Good text u s → Before s t e → t.after_break ≡ false → Step Token After itself unbroken s s
  same_line_now {s} {t} {e} g x h = of (read_today text u s t e g x)
    where
      of : Today text s t → Step Token After itself unbroken s s
      of (as_it_is n) = same_line n h
      of (goes_further y) = same_line y.next h

  left_bare_now : {s t e : Token} → Good text u s → Before s t e → IsTrue (begins_no_operand t) → Step Token After itself pieces.no_operand s s
  left_bare_now {s} {t} {e} g x h = of (read_today text u s t e g x)
    where
      of : Today text s t → Step Token After itself pieces.no_operand s s
      of (as_it_is n) = left_bare n h
      of (goes_further y) = left_bare y.next (joined_bare t y.word y.class h)

  implicit_now : {x : Ending} {s t e : Token} → Good text u s → Before s t e → IsTrue (may_omit_semicolon x s t) → Step Token After itself (ending x) s s
  implicit_now {x} {s} {t} {e} g y h = of (read_today text u s t e g y)
    where
      of : Today text s t → Step Token After itself (ending x) s s
      of (as_it_is n) = implicit n h
      of (goes_further z) = implicit z.next (joined_misses x s t z.word z.class h)

  many_now : {w : List ℕ} {s e : Token} → among w longer_today ≡ false → Good text u s → Step Token Before itself (many w) s e → Step Token After itself (many w) s e
  many_now h g (one_more {t = t} r d) = one_more (as_now h g r) (many_now h (stays_good text u _ _ _ g r.next) d)
  many_now h g no_more = no_more

  many_good : {w : List ℕ} {s e : Token} → Good text u s → Step Token Before itself (many w) s e → Good text u e
  many_good g (one_more r d) = many_good (stays_good text u _ _ _ g r.next) d
  many_good g no_more = g

  -- a shorthand key is a name
  echo_name : {o : ℕ} (n : Tree) {ps : Parts} {s e : Token} {P : List Pair} (qs : List (PieceOf Role)) → Among qs (ways shorthand_key n) → Runs ways Token After itself o qs ps s e P → (t : Token) × (m : Token) × After s t m × (t.class ≡ IdentifierName)
  unfolding spellings
  echo_name {o} (node kind.Identifier w g a b qs') {ps} {s} {e} {P} qs h d = let v = way_of h in of (subst (λ z. Runs ways Token After itself o z ps s e P) (v.is ∙ ap (λ x. settled shorthand_key x) (one v.listed)) d)
    where
      of : {o : ℕ} {ps : Parts} {s e : Token} {P : List Pair} → Runs ways Token After itself o (ahead w ∷ []) ps s e P → (t : Token) × (m : Token) × After s t m × (t.class ≡ IdentifierName)
      of (step (seen {t = t} {e = m} r) x) = (t, m, r.next, r.class)
  echo_name (node _ w g a b qs') qs h d = elim ((way_of h).listed) [ ]

  echo_is : {o : ℕ} (n : Tree) {ps : Parts} {s e t : Token} {P : List Pair} (a : Role) (qs : List (PieceOf Role)) → Among qs (ways a n) → Runs ways Token After itself o qs ps s e P → GoesOn text s t → a ≡ shorthand_key → ⊥
  echo_is n {s = s} {t = t} a qs h d x q =
      let k = echo_name n qs (subst (λ z. Among qs (ways z n)) q h) d in
      let same = det.same Div s k.0 (joined t) k.1 (joined t) k.2 x.next (det.free Div s k.0 k.1 k.2 (ap is_free k.3)) (div_allows false (joined t).text) in
      let z : IdentifierName ≡ Punctuator = sym k.3 ∙ ap (λ (y : Token). y.class) same.0 in cc

  placed_now : {o : ℕ} (n : Tree) {ps : Parts} {s e : Token} {P : List Pair} (a : Role) (qs : List (PieceOf Role)) → Among qs (ways a n) → Good text u s → Placed Token Before itself a n s e → Runs ways Token After itself o qs ps s e P →
      Placed Token After itself a n s e
  placed_now n {s = s} {e = e} a qs h g (placed {t = t} {m = m} x p) d = of (read_today text u s t m g x)
    where
      of : Today text s t → Placed Token After itself a n s e
      of (as_it_is k) = placed k p
      of (goes_further y) = placed y.next (place_same a t (joined t) e (echo_is n a qs h d y) refl ∙ p)

  mutual
    Spells-now : {o : ℕ} {a : Role} {n : Tree} {s e : Token} {P : List Pair} → Good text u s → Spells earlier_ways Token Before itself o a n s e P → Spells ways Token After itself o a n s e P
    Spells-now {a = a} {n = n} g (direct qs h p d) =
        let k = was_way a n h in let d' = Runs-now (way_guarded a n k) g d in direct qs k (placed_now n a qs k g p d') d'
    Spells-now g (grouped p d q) =
        let k = stays_good text u _ _ _ g p.next in grouped (as_now refl g p) (Spells-now k d) (as_now refl (good_behind k d) q)
    Spells-now g (reserved_key r b p) = reserved_key (as_now refl g r) b p
    Spells-now g (reserved_word r b p) = reserved_word (as_now refl g r) b p

    Runs-now : {o : ℕ} {qs : List (PieceOf Role)} {ps : Parts} {s e : Token} {P : List Pair} → guarded_here qs ≡ true → Good text u s → Runs earlier_ways Token Before itself o qs ps s e P → Runs ways Token After itself o qs ps s e P
    Runs-now h g done = done
    Runs-now h g (step {qs = qs} (token r) d) = let k = and_parts _ _ h in let d' = Runs-now k.1 (stays_good text u _ _ _ g r.next) d in step (token (as_now_before qs k.0 g r d')) d'
    Runs-now h g (step (with_mark {w = w} r) d) = let k = and_parts _ _ h in step (with_mark (as_now (not_true (among w longer_today) k.0) g r)) (Runs-now k.1 (stays_good text u _ _ _ g r.next) d)
    Runs-now h g (step without_mark d) = let k = and_parts _ _ h in step without_mark (Runs-now k.1 g d)
    Runs-now h g (step (one_more {w = w} r x) d) = let k = and_parts _ _ h in step (many_now (not_true (among w longer_today) k.0) g (one_more r x)) (Runs-now k.1 (many_good g (one_more r x)) d)
    Runs-now h g (step no_more d) = let k = and_parts _ _ h in step no_more (Runs-now k.1 g d)
    Runs-now h g (step (seen r) d) = step (seen (as_now refl g r)) (Runs-now h g d)
    Runs-now h g (step (same_line x k) d) = step (same_line_now g x k) (Runs-now h g d)
    Runs-now h g (step (left_bare x k) d) = step (left_bare_now g x k) (Runs-now h g d)
    Runs-now h g (step (explicit r) d) = step (explicit (as_now refl g r)) (Runs-now h (stays_good text u _ _ _ g r.next) d)
    Runs-now h g (step (implicit x k) d) = step (implicit_now g x k) (Runs-now h g d)
    Runs-now h g (step laid d) = step laid (Runs-now h g d)
    Runs-now h g (opened r d) = opened (as_now refl g r) (Runs-now h (stays_good text u _ _ _ g r.next) d)
    Runs-now h g (closed r d) = closed (as_now refl g r) (Runs-now h (stays_good text u _ _ _ g r.next) d)
    Runs-now h g (within p d) = within (Spells-now g p) (Runs-now h (good_behind g p) d)
    Runs-now h g (missing d) = missing (Runs-now h g d)

pub earlier_scripts_stay : (o : ℕ) (text : List ℕ) (n : Tree) (P : List Pair) → IsUtf8 text → EarlierDerivesOpen o text n P → DerivesOpen o text n P
earlier_scripts_stay o text n P u d = (d.0, Spells-now text u (IsCharBoundary-from_drop text 0 (omega arith) u) d.1)
