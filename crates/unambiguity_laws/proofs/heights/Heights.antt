-- What a derivation spells is at most twice as high as the bytes are many, and one. And no more parentheses are open at one point than
-- there are bytes.
use Rattle.std.proofs.Common.{ap, ◌≡◌, ◌≢◌, ℕ, zero, suc, pred, ◌+◌, ◌≤◌, ◌<◌, max, Bool, true, false, List, [], ◌++◌, ◌∷◌, length, refl, sym, ◌∙◌, subst, arith}
use Rattle.std.specs.Prelude.{IsTrue, codes, cond, ◌&&◌}
use Rattle.std.proofs.lemmas.Bool.{and_parts, false≢true}
use Rattle.std.specs.Str.{IsUtf8, IsCharBoundary, chars}
use Rattle.std.proofs.lemmas.Str.{IsCharBoundary-from_drop, len_utf8_bounds}
use Rattle.tokens.specs.declared.token.TokenClass.{TokenClass}
use Rattle.tokens.specs.declared.token.TokenClass.TheVariants.{IdentifierName, Punctuator, NumericLiteral, StringLiteral, Template, RegularExpressionLiteral, PrivateName, Keyword, End}
use Rattle.tokens.specs.declared.token.Goal.{Goal}
use Rattle.tokens.specs.Alphabet.{one_of}
use Rattle.tokens.specs.Templates.{closes_template}
use Rattle.tokens.specs.Lexical.{is_token, is_of}
use Rattle.tokens.specs.Tokens.{LexicalToken, size}
use Rattle.tokens.specs.Reading.{Reads as ReadsIn, behind, any_goal}
use Rattle.tokens.proofs.Bounds.{IsWithin, token_within, token_places, token_goes_on, pass_word}
use Rattle.tokens.proofs.Classes.{token_is}
use Rattle.tokens.proofs.PassedCharacters.{size_append, size_one}
use Rattle.tree.specs.declared.kind.Pair.{Pair}
use Rattle.tree.specs.Tree.{Tree, node, Parts, parts_of, height, parts_height}
use Rattle.language.specs.declared.Rank.{Rank}
use Rattle.language.specs.declared.Rank.TheVariants.{Expression}
use Rattle.language.specs.declared.Start.{Start}
use Rattle.language.specs.declared.Start.TheVariants.{Any}
use Rattle.language.specs.Pieces.{Role, expr, PieceOf, open_parameters}
use Rattle.language.specs.Token.{Token}
use Rattle.language.specs.Places.{NextIn, next_in, itself}
use Rattle.language.specs.Claims.{DerivesOpen, Derives, max_open}
use Rattle.language.specs.Derivation.{pair_of, Among, Reads, Step, token, with_mark, without_mark, one_more, no_more, seen, same_line, left_bare, explicit, implicit, laid, Spells, direct, grouped, Runs, done, step, opened, closed, within, missing, reserved_key, reserved_word}
use Rattle.language.specs.Grammar.{ways}
use Rattle.unambiguity_laws.specs.Laws.{ShortScriptsFit, ShortScriptsFitIn}
use Rattle.unambiguity_laws.proofs.heights.Levels.{level, token_gain, piece_gain, gain, owing, debt, debt_one}
use Rattle.unambiguity_laws.proofs.heights.LevelsOfNodes.{way_paid}
use Rattle.language.specs.declared.Language.{Language}
use Rattle.language.specs.declared.Language.TheVariants.{Base, Script, Module}
use Rattle.language.specs.Languages.{is_of_2022, class_in, seen_in, Seen, seen_next, beginning_in}
use Rattle.language.specs.Vocabulary.{is_keyword}
use Rattle.tokens.specs.Comments.{first_line, hashbang}
use Rattle.source_text.specs.Lines.{is_line_terminator}

-- a node counts
height_one : (n : Tree) → 1 ≤ height n
height_one (node k w g s e ps) = omega arith

height_of : (n : Tree) → height n ≡ suc (parts_height (parts_of n))
height_of (node k w g s e ps) = refl

-- A first part of level l and height h from place s to place m, and what stands behind it up to place e: what all give, and the height of all.
joined_far : (l h g s m e : ℕ) → 1 ≤ h → h + l + (s + s) ≤ suc (m + m) → g + (m + m) ≤ e + e → pred l + g + (s + s) ≤ e + e
joined_far zero h g s m e a b c = omega (arith, a, b, c)
joined_far (suc l) h g s m e a b c = omega (arith, a, b, c)

joined_high : (l h p g d s m e : ℕ) → 1 ≤ h → d ≤ 1 → h + l + (s + s) ≤ suc (m + m) → g + (m + m) ≤ e + e → p + g + (m + m) ≤ d + (e + e) → max h p + (pred l + g) + (s + s) ≤ owing l d + (e + e)
joined_high zero h p g d s m e a o b c f = omega (arith, a, o, b, c, f)
joined_high (suc l) h p g d s m e a o b c f = omega (arith, a, o, b, c, f)

-- a token is passed: of each class with so many bytes at least
pub record Passes (S : Type 0) (Ok : S → Type 0) (at : S → ℕ) (s e : S) (c : TokenClass) : Type 0 where
  pub ok : Ok e
  pub far : token_gain c + (at s + at s) ≤ at e + at e

module _ (S : Type 0) (Next : S → Token → S → Type 0) (behind : S → Token) (Ok : S → Type 0) (at : S → ℕ) (passes : (s e : S) (t : Token) → Next s t e → Ok s → Passes S Ok at s e t.class) where
  pub record Forward (s e : S) (g : ℕ) : Type 0 where
    pub ok : Ok e
    pub far : g + (at s + at s) ≤ at e + at e

  -- and what is spelled has this height, less a level, more a debt
  record High (s e : S) (g h d : ℕ) : Type 0 where
    ok : Ok e
    far : g + (at s + at s) ≤ at e + at e
    high : h + g + (at s + at s) ≤ d + (at e + at e)

  record Spelled (s e : S) (l h : ℕ) : Type 0 where
    ok : Ok e
    high : h + l + (at s + at s) ≤ suc (at e + at e)

  pub read_forward : {c : TokenClass} {w : List ℕ} {s e : S} {t : Token} → Reads S Next behind c w s t e → Ok s → Forward s e (token_gain c)
  read_forward {c = c} {s = s} {e = e} {t = t} r k =
      let m = passes s e t r.next k in
      record { ok = m.ok; far = subst (λ c. token_gain c + (at s + at s) ≤ at e + at e) r.class m.far }

  pub step_forward : {q : PieceOf Role} {s e : S} → Step S Next behind q s e → Ok s → Forward s e (piece_gain level q)
  step_forward (token r) k = read_forward r k
  step_forward (with_mark r) k = let f = read_forward r k in let x = f.far in record { ok = f.ok; far = omega (arith, x) }
  step_forward without_mark k = record { ok = k; far = omega arith }
  step_forward (one_more r d) k =
      let f = read_forward r k in
      let g = step_forward d f.ok in
      let x = f.far in
      let y = g.far in
      record { ok = g.ok; far = omega (arith, x, y) }
  step_forward no_more k = record { ok = k; far = omega arith }
  step_forward (seen r) k = record { ok = k; far = omega arith }
  step_forward (same_line r h) k = record { ok = k; far = omega arith }
  step_forward (left_bare r h) k = record { ok = k; far = omega arith }
  step_forward (explicit r) k = let f = read_forward r k in let x = f.far in record { ok = f.ok; far = omega (arith, x) }
  step_forward (implicit r h) k = record { ok = k; far = omega arith }
  step_forward laid k = record { ok = k; far = omega arith }

  -- a piece that is no node owes nothing
  step_debt : {q : PieceOf Role} {s m : S} (qs : List (PieceOf Role)) → Step S Next behind q s m → debt level (q ∷ qs) ≡ debt level qs
  step_debt qs (token h) = refl
  step_debt qs (with_mark h) = refl
  step_debt qs without_mark = refl
  step_debt qs (one_more h d) = refl
  step_debt qs no_more = refl
  step_debt qs (seen h) = refl
  step_debt qs (same_line h k) = refl
  step_debt qs (left_bare h k) = refl
  step_debt qs (explicit h) = refl
  step_debt qs (implicit h k) = refl
  step_debt qs laid = refl

  direct_high : (a : Role) (n : Tree) {s e : S} (qs : List (PieceOf Role)) → Among qs (ways a n) → High s e (gain level qs) (parts_height (parts_of n)) (debt level qs) → Spelled s e (level a) (height n)
  direct_high a n qs h f =
      let x = f.high in
      let t = way_paid a n qs h in
      let m = height_of n in
      record { ok = f.ok; high = omega (arith, x, t, m) }

  mutual
    spells_high : {o : ℕ} {a : Role} {n : Tree} {s e : S} {P : List Pair} → Spells ways S Next behind o a n s e P → Ok s → Spelled s e (level a) (height n)
    spells_high {a = a} {n = n} (direct qs h p d) k = direct_high a n qs h (runs_high d k)
    spells_high (grouped p d q) k =
        let u = read_forward p k in
        let v = spells_high d u.ok in
        let w = read_forward q v.ok in
        let x = u.far in
        let z = v.high in
        let t = w.far in
        record { ok = w.ok; high = omega (arith, x, z, t) }
    spells_high (reserved_key {n = n} r b p) k =
        let u = read_forward r k in
        let x = u.far in
        let m : height n ≡ 1 = ap height p in
        record { ok = u.ok; high = omega (arith, x, m) }
    spells_high (reserved_word {n = n} r b p) k =
        let u = read_forward r k in
        let x = u.far in
        let m : height n ≡ 1 = ap height p in
        record { ok = u.ok; high = omega (arith, x, m) }

    runs_high : {o : ℕ} {qs : List (PieceOf Role)} {ps : Parts} {s e : S} {P : List Pair} → Runs ways S Next behind o qs ps s e P → Ok s → High s e (gain level qs) (parts_height ps) (debt level qs)
    runs_high done k = record { ok = k; far = omega arith; high = omega arith }
    runs_high (step {q = q} {qs = qs} {ps = ps} p d) k =
        let u = step_forward p k in
        let v = runs_high d u.ok in
        let x = u.far in
        let y = v.far in
        let z = v.high in
        let r = step_debt qs p in
        record { ok = v.ok; far = omega (arith, x, y); high = omega (arith, x, z, r) }
    runs_high (opened p d) k =
        let u = read_forward p k in
        let v = runs_high d u.ok in
        let x = u.far in
        let y = v.far in
        let z = v.high in
        record { ok = v.ok; far = omega (arith, x, y); high = omega (arith, x, z) }
    runs_high (closed p d) k =
        let u = read_forward p k in
        let v = runs_high d u.ok in
        let x = u.far in
        let y = v.far in
        let z = v.high in
        record { ok = v.ok; far = omega (arith, x, y); high = omega (arith, x, z) }
    runs_high (within {a = a} {qs = qs} {n = n} {ps = ps} {s = s} {m = m} {e = e} p d) k =
        let u = spells_high p k in
        let v = runs_high d u.ok in
        record {
          ok = v.ok;
          far = joined_far (level a) (height n) (gain level qs) (at s) (at m) (at e) (height_one n) u.high v.far;
          high = joined_high (level a) (height n) (parts_height ps) (gain level qs) (debt level qs) (at s) (at m) (at e) (height_one n) (debt_one level qs) u.high v.far v.high;
        }
    runs_high (missing d) k =
        let u = runs_high d k in
        let x = u.far in
        let y = u.high in
        record { ok = u.ok; far = omega (arith, x); high = omega (arith, y) }

  -- what is spelled stands ahead
  spells_on : {o : ℕ} {a : Role} {n : Tree} {s e : S} {P : List Pair} → Spells ways S Next behind o a n s e P → Ok s → Forward s e 0
  spells_on {n = n} d k =
      let u = spells_high d k in
      let x = u.high in
      let h = height_one n in
      record { ok = u.ok; far = omega (arith, x, h) }

  runs_on : {o : ℕ} {qs : List (PieceOf Role)} {ps : Parts} {s e : S} {P : List Pair} → Runs ways S Next behind o qs ps s e P → Ok s → Forward s e 0
  runs_on d k = let u = runs_high d k in let x = u.far in record { ok = u.ok; far = omega (arith, x) }

  -- inside a pair one fewer is open, and two bytes fewer stand
  group_nested : {y : Rank} {i : Bool} {f : Start} {n : Tree} {left right : Token} {s m l e : S} {P : List Pair} →
      Reads S Next behind Punctuator (codes "(") s left m → Reads S Next behind Punctuator (codes ")") l right e →
      ((j : ℕ) → at l ≤ at m + j → Spells ways S Next behind j (expr Expression true Any) n m l P) →
      Forward s m 2 → Forward m l 0 → Forward l e 2 → (k : ℕ) → at e ≤ at s + k → Spells ways S Next behind k (expr y i f) n s e (pair_of left right ∷ P)
  group_nested p q inside u f g zero b = let x = u.far in let y = f.far in let z = g.far in absurd (omega (arith, b, x, y, z))
  group_nested p q inside u f g (suc k) b = let x = u.far in let y = f.far in let z = g.far in grouped p (inside k (omega (arith, b, x, y, z))) q

  open_nested : {qs : List (PieceOf Role)} {ps : Parts} {t : Token} {s m e : S} {P : List Pair} → Reads S Next behind Punctuator (codes "(") s t m →
      ((j : ℕ) → at e ≤ at m + j → Runs ways S Next behind j qs ps m e P) →
      Forward s m 2 → Forward m e 0 → (k : ℕ) → at e ≤ at s + k → Runs ways S Next behind k (open_parameters ∷ qs) ps s e P
  open_nested p inside u f zero b = let x = u.far in let y = f.far in absurd (omega (arith, b, x, y))
  open_nested p inside u f (suc k) b = let x = u.far in let y = f.far in opened p (inside k (omega (arith, b, x, y)))

  mutual
    -- no more parentheses are open than there are bytes from one place to the other
    spells_nested : {o : ℕ} {a : Role} {n : Tree} {s e : S} {P : List Pair} → Spells ways S Next behind o a n s e P → Ok s → (k : ℕ) → at e ≤ at s + k → Spells ways S Next behind k a n s e P
    spells_nested (direct qs h p d) v k b = direct qs h p (runs_nested d v k b)
    spells_nested (grouped p d q) v k b =
        let u = read_forward p v in
        let f = spells_on d u.ok in
        let g = read_forward q f.ok in
        group_nested p q (λ j c. spells_nested d u.ok j c) u f g k b
    spells_nested (reserved_key r h p) v k b = reserved_key r h p
    spells_nested (reserved_word r h p) v k b = reserved_word r h p

    runs_nested : {o : ℕ} {qs : List (PieceOf Role)} {ps : Parts} {s e : S} {P : List Pair} → Runs ways S Next behind o qs ps s e P → Ok s → (k : ℕ) → at e ≤ at s + k → Runs ways S Next behind k qs ps s e P
    runs_nested done v k b = done
    runs_nested (step p d) v k b =
        let f = step_forward p v in
        let x = f.far in
        step p (runs_nested d f.ok k (omega (arith, b, x)))
    runs_nested (opened p d) v k b =
        let u = read_forward p v in
        let f = runs_on d u.ok in
        open_nested p (λ j c. runs_nested d u.ok j c) u f k b
    runs_nested (closed p d) v k b =
        let f = read_forward p v in
        let x = f.far in
        closed p (runs_nested d f.ok (suc k) (omega (arith, b, x)))
    runs_nested (within p d) v k b =
        let f = spells_on p v in
        let g = runs_on d f.ok in
        let x = f.far in
        let y = g.far in
        within (spells_nested p v k (omega (arith, b, y))) (runs_nested d f.ok k (omega (arith, b, x)))
    runs_nested (missing d) v k b = missing (runs_nested d v k b)

-- In a text

-- a part of a template has both its delimiters
template_size : (word rest : List ℕ) → IsTrue (is_token Template word rest) → 2 ≤ size word
template_size word rest h = of word (token_is Template word rest h)
  where
    of : (word : List ℕ) → IsTrue (is_of Template word) → 2 ≤ size word
    of [] h = absurd (false≢true h)
    of (c ∷ []) h = absurd (false≢true (and_parts (one_of "`}" c) (closes_template false []) h).1)
    of (c ∷ d ∷ cs) h =
        let s = size_append (c ∷ []) (d ∷ cs) in
        let t = size_append (d ∷ []) cs in
        let u = size_one c in
        let v = size_one d in
        let a = (len_utf8_bounds c).0 in
        let b = (len_utf8_bounds d).0 in
        omega (arith, s, t, u, v, a, b)

-- a token of a text has so many bytes
token_passes : (text : List ℕ) (goal : Goal) (at : ℕ) (t : LexicalToken) → IsUtf8 text → IsCharBoundary text at → ReadsIn text goal at t → token_gain t.class + (at + at) ≤ t.stop + t.stop
token_passes text goal at t u p h =
    let w : IsWithin text at t = token_within text goal at t u p h in
    let a = w.behind_place in
    let b = w.ordered in
    of t.class refl a b
  where
    by_more : (c : TokenClass) → t.class ≡ c → c ≢ End → t.start < t.stop
    by_more c e ne = token_goes_on text goal at t u p h (λ f. ne (sym e ∙ f))

    of : (c : TokenClass) → t.class ≡ c → at ≤ t.start → t.start ≤ t.stop → token_gain c + (at + at) ≤ t.stop + t.stop
    of End e a b = omega (arith, a, b)
    of Template e a b =
        let x = template_size h.word (behind text t.stop) (subst (λ c. IsTrue (is_token c h.word (behind text t.stop))) e h.longest) in
        let y = h.stop in
        omega (arith, a, x, y)
    of IdentifierName e a b = let x = by_more IdentifierName e (λ f. absurd (cc)) in omega (arith, a, x)
    of Punctuator e a b = let x = by_more Punctuator e (λ f. absurd (cc)) in omega (arith, a, x)
    of NumericLiteral e a b = let x = by_more NumericLiteral e (λ f. absurd (cc)) in omega (arith, a, x)
    of StringLiteral e a b = let x = by_more StringLiteral e (λ f. absurd (cc)) in omega (arith, a, x)
    of RegularExpressionLiteral e a b = let x = by_more RegularExpressionLiteral e (λ f. absurd (cc)) in omega (arith, a, x)
    of PrivateName e a b = let x = by_more PrivateName e (λ f. absurd (cc)) in omega (arith, a, x)
    of Keyword e a b = let x = by_more Keyword e (λ f. absurd (cc)) in omega (arith, a, x)

pub text_passes : (text : List ℕ) → IsUtf8 text → (s e t : Token) → NextIn text any_goal s t e → IsCharBoundary text s.stop → Passes Token (λ p. IsCharBoundary text p.stop) (λ p. p.stop) s e t.class
text_passes text u s _ _ (next_in {t = t} goal g h) p = record { ok = (token_places text goal s.stop t u p h).1; far = token_passes text goal s.stop t u p h }

-- a script is no higher than twice the bytes of its text, and one
pub script_height : (text : List ℕ) (n : Tree) (P : List Pair) → IsUtf8 text → Derives text n P → height n ≤ suc (length text + length text)
script_height text n P u d =
    let start : IsCharBoundary text 0 = IsCharBoundary-from_drop text 0 (omega arith) u in
    let f = spells_high Token (NextIn text any_goal) itself (λ p. IsCharBoundary text p.stop) (λ p. p.stop) (text_passes text u) d.1.1 start in
    let x = f.high in
    let y = f.ok.0 in
    omega (arith, x, y)

-- and a script of a text with at most so many bytes has at most so many parentheses open at one point
pub script_nesting : (text : List ℕ) (n : Tree) (P : List Pair) (k : ℕ) → IsUtf8 text → length text ≤ k → Derives text n P → DerivesOpen k text n P
script_nesting text n P k u b d =
    let start : IsCharBoundary text 0 = IsCharBoundary-from_drop text 0 (omega arith) u in
    let f = spells_high Token (NextIn text any_goal) itself (λ p. IsCharBoundary text p.stop) (λ p. p.stop) (text_passes text u) d.1.1 start in
    let y = f.ok.0 in
    (d.1.0, spells_nested Token (NextIn text any_goal) itself (λ p. IsCharBoundary text p.stop) (λ p. p.stop) (text_passes text u) d.1.1 start k (omega (arith, b, y)))

pub short_fits : ShortScriptsFit
short_fits text n P u b d =
    let h = script_height text n P u d in
    (omega (arith, b, h), script_nesting text n P max_open u (omega (arith, b)) d)

-- In a language

-- what stands before a line's end begins a text, and so does the line of `#!`
first_line_begins : (cs : List ℕ) → (rest : List ℕ) × (cs ≡ first_line cs ++ rest)
first_line_begins [] = ([], refl)
first_line_begins (c ∷ cs) = let u = first_line_begins cs in of (is_line_terminator c) u
  where
    of : (b : Bool) → (rest : List ℕ) × (cs ≡ first_line cs ++ rest) → (rest : List ℕ) × (c ∷ cs ≡ cond b [] (c ∷ first_line cs) ++ rest)
    of true u = (c ∷ cs, refl)
    of false u = (u.0, ap (λ x. c ∷ x) u.1)

hashbang_begins : (cs : List ℕ) → (rest : List ℕ) × (cs ≡ hashbang cs ++ rest)
hashbang_begins [] = ([], refl)
hashbang_begins (c ∷ []) = (c ∷ [], refl)
hashbang_begins (c ∷ d ∷ cs) = of (one_of "#" c && one_of "!" d) (first_line_begins cs)
  where
    of : (b : Bool) → (rest : List ℕ) × (cs ≡ first_line cs ++ rest) → (rest : List ℕ) × (c ∷ d ∷ cs ≡ cond b (c ∷ d ∷ first_line cs) [] ++ rest)
    of true u = (u.0, ap (λ x. c ∷ d ∷ x) u.1)
    of false u = (c ∷ d ∷ cs, refl)

-- the place before the first token
pub beginning_places : (language : Language) (text : List ℕ) → IsUtf8 text → IsCharBoundary text (beginning_in language text).stop
beginning_places language text u = of language
  where
    start : IsCharBoundary text 0
    start = IsCharBoundary-from_drop text 0 (omega arith) u

    behind_line : IsCharBoundary text (size (hashbang (chars text)))
    behind_line = let h = hashbang_begins (chars text) in subst (IsCharBoundary text) (omega arith) (pass_word text 0 (hashbang (chars text)) h.0 u start h.1).place

    of : (language : Language) → IsCharBoundary text (beginning_in language text).stop
    of Base = start
    of Script = behind_line
    of Module = behind_line

same_gain : (language : Language) (c : TokenClass) (w : List ℕ) → token_gain (class_in language c w) ≡ token_gain c
same_gain language IdentifierName w = of (is_of_2022 language && is_keyword w)
  where
    of : (b : Bool) → token_gain (cond b Keyword IdentifierName) ≡ 2
    of true = refl
    of false = refl
same_gain language _ w = refl

pub seen_passes : (language : Language) (text : List ℕ) → IsUtf8 text → (s e t : Token) → Seen Token (NextIn text any_goal) language s t e → IsCharBoundary text s.stop → Passes Token (λ p. IsCharBoundary text p.stop) (λ p. p.stop) s e t.class
seen_passes language text u s e _ (seen_next {t = t} n) p =
    let v = text_passes text u s e t n p in
    record { ok = v.ok; far = subst (λ g. g + (s.stop + s.stop) ≤ e.stop + e.stop) (sym (same_gain language t.class t.text)) v.far }

pub short_fits_in : ShortScriptsFitIn
short_fits_in language text n P u b d =
    let start = beginning_places language text u in
    let f = spells_high Token (Seen Token (NextIn text any_goal) language) (seen_in language) (λ p. IsCharBoundary text p.stop) (λ p. p.stop) (seen_passes language text u) d.1.2 start in
    let x = f.high in
    let y = f.ok.0 in
    (omega (arith, b, x, y), (d.1.0, d.1.1, spells_nested Token (Seen Token (NextIn text any_goal) language) (seen_in language) (λ p. IsCharBoundary text p.stop) (λ p. p.stop) (seen_passes language text u) d.1.2 start max_open (omega (arith, b, y))))
