-- What is spelled goes forward, and reads a token at least where it is no shorthand key.
use Rattle.std.proofs.Common.{◌≡◌, ℕ, ◌≤◌, Bool, true, false, List, refl, ap, subst, arith}
use Rattle.std.specs.Prelude.{IsTrue, if◌then◌else◌}
use Rattle.std.specs.Bool.{beq}
use Rattle.std.proofs.lemmas.Bool.{false≢true}
use Rattle.tokens.specs.declared.token.TokenClass.{TokenClass}
use Rattle.tokens.specs.declared.token.TokenClass.TheVariants.{IdentifierName}
use Rattle.tokens.specs.declared.token.Goal.{Goal}
use Rattle.tokens.specs.declared.token.Goal.TheVariants as goal
use Rattle.tokens.specs.Alphabet.{one_of, begins_with}
use Rattle.tokens.specs.Goals.{allows, is_regexp, is_template_part, reads_regexps, reads_template_parts}
use Rattle.tokens.specs.Reading.{any_goal}
use Rattle.tree.specs.declared.kind.Pair.{Pair}
use Rattle.tree.specs.Tree.{Tree, Parts}
use Rattle.language.specs.Pieces.{Role, shorthand_key, PieceOf}
use Rattle.language.specs.Token.{Token}
use Rattle.language.specs.declared.Language.{Language}
use Rattle.language.specs.Promises.{is_free, IsDetermined}
use Rattle.language.specs.Places.{NextIn, next_in, itself}
use Rattle.language.specs.Languages.{seen_in, Seen, seen_next}
use Rattle.language.specs.Grammar.{ways}
use Rattle.language.specs.Derivation.{Reads, Step, token, with_mark, without_mark, one_more, no_more, seen, same_line, left_bare, explicit, implicit, laid, Spells, direct, grouped, reserved_key, reserved_word, Runs, done, step, opened, closed, within, missing}
use Rattle.language.proofs.table.ShorthandPieces.{is_echo}
use Rattle.language.proofs.covers.CoverKeys.{echo_form}
use Rattle.language.proofs.texts.TextOffsets.{text_determined}
use Rattle.language.proofs.texts.SeenTokens.{seen_determined}
use Rattle.location_laws.proofs.Ways.{has_token, way_token}

-- some goal reads each token
some_goal : (c : TokenClass) (w : List ℕ) → (g : Goal) × IsTrue (allows g c w)
some_goal c w = go (is_regexp c) (is_template_part c) (begins_with (one_of "/") w) (begins_with (one_of "}") w)
  where
    go : (p q x y : Bool) → (g : Goal) × IsTrue (if x then beq p (reads_regexps g) else if y then beq q (reads_template_parts g) else true)
    go true q true y = (goal.RegExp, refl)
    go false q true y = (goal.Div, refl)
    go p true false true = (goal.TemplateTail, refl)
    go p false false true = (goal.Div, refl)
    go p q false false = (goal.Div, refl)

module _ (language : Language) (text : List ℕ) where
  -- what is read in the language
  abbrev pub NextSeen : Token → Token → Token → Type 0
  NextSeen = Seen Token (NextIn text any_goal) language

  abbrev pub seen_as : Token → Token
  seen_as t = seen_in language t

  abbrev pub SpellsSeen : ℕ → Role → Tree → Token → Token → List Pair → Type 0
  SpellsSeen o a n s e P = Spells ways Token NextSeen seen_as o a n s e P

  abbrev pub RunsSeen : ℕ → List (PieceOf Role) → Parts → Token → Token → List Pair → Type 0
  RunsSeen o qs ps s e P = Runs ways Token NextSeen seen_as o qs ps s e P

  pub determined : IsDetermined Token NextSeen seen_as
  determined = seen_determined Token (NextIn text any_goal) itself language (text_determined text)

  pub next_on : {s t e : Token} → NextSeen s t e → (s.stop ≤ t.start) × (t.start ≤ t.stop) × (e.stop ≡ t.stop)
  next_on {s} (seen_next (next_in {t = u} g any x)) =
      let a = x.start in
      let b = x.stop in
      (omega arith, omega arith, refl)

  -- what is read at a place starts at one place
  pub same_start : {s t u e f : Token} → NextSeen s t e → NextSeen s u f → t.start ≡ u.start
  same_start {s} {t} {u} {e} {f} n m = determined.start s t u e f n m

  -- a name that is read is the only token there
  pub only_name : {w : List ℕ} {s e f t u : Token} → Reads Token NextSeen seen_as IdentifierName w s t e → NextSeen s u f → u ≡ t
  only_name {s = s} {e = e} {f = f} {t = t} {u = u} h n =
      let g = some_goal u.class u.text in
      (determined.same g.0 s u t f e n h.next g.1 (determined.free g.0 s t e h.next (ap is_free h.class))).0

  pub step_on : {q : PieceOf Role} {s e : Token} → Step Token NextSeen seen_as q s e → s.stop ≤ e.stop
  step_on {s = s} {e = e} (token r) = let f = next_on r.next in omega (arith, f)
  step_on {s = s} {e = e} (with_mark r) = let f = next_on r.next in omega (arith, f)
  step_on without_mark = omega arith
  step_on (one_more r d) = let f = next_on r.next in let g = step_on d in omega (arith, f, g)
  step_on no_more = omega arith
  step_on (seen r) = omega arith
  step_on (same_line n h) = omega arith
  step_on (left_bare n h) = omega arith
  step_on (explicit r) = let f = next_on r.next in omega (arith, f)
  step_on (implicit n h) = omega arith
  step_on laid = omega arith

  mutual
    pub spells_on : {o : ℕ} {a : Role} {n : Tree} {s e : Token} {P : List Pair} → SpellsSeen o a n s e P → s.stop ≤ e.stop
    spells_on (direct qs h pl d) = runs_on d
    spells_on (reserved_key r k q) = let f = next_on r.next in omega (arith, f)
    spells_on (reserved_word r k q) = let f = next_on r.next in omega (arith, f)
    spells_on (grouped p d q) = let f = next_on p.next in let g = next_on q.next in let k = spells_on d in omega (arith, f, g, k)

    pub runs_on : {o : ℕ} {qs : List (PieceOf Role)} {ps : Parts} {s e : Token} {P : List Pair} → RunsSeen o qs ps s e P → s.stop ≤ e.stop
    runs_on done = omega arith
    runs_on (step q d) = let a = step_on q in let b = runs_on d in omega (arith, a, b)
    runs_on (opened p d) = let f = next_on p.next in let b = runs_on d in omega (arith, f, b)
    runs_on (closed p d) = let f = next_on p.next in let b = runs_on d in omega (arith, f, b)
    runs_on (within p d) = let a = spells_on p in let b = runs_on d in omega (arith, a, b)
    runs_on (missing d) = runs_on d

  -- each token that is read at the place ends there or behind it
  abbrev pub EndsFrom : ℕ → Token → Type 0
  EndsFrom c s = (t m : Token) → NextSeen s t m → c ≤ t.stop

  read_ends : {c k : ℕ} {s t m : Token} → NextSeen s t m → EndsFrom c s → m.stop ≤ k → c ≤ k
  read_ends {t = t} {m = m} n h l = let f = next_on n in let x = h t m n in omega (arith, f, x, l)

  mutual
    -- so does what is spelled there
    pub spelled_ends : {o : ℕ} {a : Role} {n : Tree} {s e : Token} {P : List Pair} → SpellsSeen o a n s e P → is_echo a ≡ false → (c : ℕ) → EndsFrom c s → c ≤ e.stop
    spelled_ends {a = a} {n = n} (direct qs h pl d) ne c f = run_ends d (way_token a n ne h) c f
    spelled_ends (reserved_key r k q) ne c f = read_ends r.next f (omega arith)
    spelled_ends (reserved_word r k q) ne c f = read_ends r.next f (omega arith)
    spelled_ends (grouped p d q) ne c f = read_ends p.next f (let g = next_on q.next in let k = spells_on d in omega (arith, g, k))

    pub run_ends : {o : ℕ} {qs : List (PieceOf Role)} {ps : Parts} {s e : Token} {P : List Pair} → RunsSeen o qs ps s e P → has_token qs ≡ true → (c : ℕ) → EndsFrom c s → c ≤ e.stop
    run_ends done h c f = absurd (false≢true h)
    run_ends (step (token r) d) h c f = read_ends r.next f (runs_on d)
    run_ends (step (with_mark r) d) h c f = read_ends r.next f (runs_on d)
    run_ends (step without_mark d) h c f = run_ends d h c f
    run_ends (step (one_more r x) d) h c f = read_ends r.next f (let a = step_on x in let b = runs_on d in omega (arith, a, b))
    run_ends (step no_more d) h c f = run_ends d h c f
    run_ends (step (seen r) d) h c f = run_ends d h c f
    run_ends (step (same_line n k) d) h c f = run_ends d h c f
    run_ends (step (left_bare n k) d) h c f = run_ends d h c f
    run_ends (step (explicit r) d) h c f = read_ends r.next f (runs_on d)
    run_ends (step (implicit n k) d) h c f = run_ends d h c f
    run_ends (step laid d) h c f = run_ends d h c f
    run_ends (opened p d) h c f = read_ends p.next f (runs_on d)
    run_ends (closed p d) h c f = read_ends p.next f (runs_on d)
    run_ends (within {a = shorthand_key} p d) h c f = run_ends d h c (subst (EndsFrom c) (echo_form Token NextSeen seen_as determined p).place f)
    run_ends (within p d) h c f = let a = spelled_ends p refl c f in let b = runs_on d in omega (arith, a, b)
    run_ends (missing d) h c f = run_ends d h c f
