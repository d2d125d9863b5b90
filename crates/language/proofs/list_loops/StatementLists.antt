-- Lists of statements: a loop reads an item, as long as the next token doesn't end the list.
use Rattle.std.proofs.Common.{◌≡◌, ℕ, Bool, true, false, List, [], ◌∷◌, ◌++◌, refl, sym, ap, ◌∙◌, subst, append_assoc}
use Rattle.std.specs.Prelude.{IsTrue, codes, ◌||◌}
use Rattle.std.proofs.lemmas.Bool.{false≢true}
use Rattle.tokens.specs.declared.token.TokenClass.{TokenClass}
use Rattle.tokens.specs.declared.token.TokenClass.TheVariants.{IdentifierName, Punctuator, NumericLiteral, StringLiteral, Template, End}
use Rattle.tokens.specs.declared.token.Goal.{Goal}
use Rattle.tokens.specs.Goals.{allows}
use Rattle.tree.specs.declared.kind.Pair.{Pair}
use Rattle.tree.specs.Tree.{Tree, Parts, none, part, gap, bare_parts}
use Rattle.language.specs.declared.Rank.TheVariants.{Expression}
use Rattle.language.specs.declared.Start.TheVariants.{Any}
use Rattle.language.specs.Vocabulary.{among, is_reserved}
use Rattle.language.specs.Pieces.{Role, Piece, PieceOf, tok, sub, never, lay, line, shallower, sign}
use Rattle.language.specs.Statements.{lines}
use Rattle.language.specs.Token.{Token}
use Rattle.language.specs.StatementStart.{begins_item}
use Rattle.language.specs.Promises.{IsDetermined}
use Rattle.language.specs.Following.{Followed, ListEnds, Finished, ends_list, may_follow, FoundWhere, FoundPartsWhere}
use Rattle.language.specs.Grammar.{ways}
use Rattle.language.specs.Derivation.{Reads, Runs, step, within, laid}
use Rattle.language.proofs.table.Begins.{among_by, goes_to, retell}
use Rattle.std.proofs.lemmas.List.{append-nil}
use Rattle.language.proofs.list_loops.FirstPieces.{run_none, run_token, run_laid, run_never, run_the_part}
use Rattle.language.proofs.table.StatementWays.{behind_brace, Stands}
use Rattle.language.proofs.table.ItemTokens.{Started, item_starts}
use Rattle.language.proofs.statements.StatementFollow.{token_follows}
use Rattle.language.proofs.list_loops.PiecesSoFar.{Sofar, turned, part_is}

-- items one behind the other, and what closes the list
abbrev pub plain_lines : Role → List (PieceOf Role) → Parts → List (PieceOf Role)
plain_lines a zs none = zs
plain_lines a zs (part n ps) = sub a ∷ plain_lines a zs ps
plain_lines a zs (gap ps) = never ∷ []

-- no part, and what closes the list
abbrev pub closed_by : List (PieceOf Role) → Parts → List (PieceOf Role)
closed_by zs none = zs
closed_by zs (part n ps) = never ∷ []
closed_by zs (gap ps) = never ∷ []

-- the token that closes a block or a body
abbrev pub closing_brace : List (PieceOf Role)
closing_brace = tok Punctuator (codes "}") ∷ []

either_follows : (b : Bool) (t : Token) → begins_item t ≡ true → may_follow b t ≡ true
either_follows b t h = or_true (begins_item t) _ h
  where
    or_true : (x y : Bool) → x ≡ true → (x || y) ≡ true
    or_true true y h = refl
    or_true false y h = cc

end_follows : (b : Bool) (t : Token) → ends_list t ≡ true → may_follow b t ≡ true
end_follows b t h = or_right (begins_item t) _ (or_left (ends_list t) _ h)
  where
    or_left : (x y : Bool) → x ≡ true → (x || y) ≡ true
    or_left true y h = refl
    or_left false y h = cc

    or_right : (x y : Bool) → y ≡ true → (x || y) ≡ true
    or_right true y h = refl
    or_right false y h = h

-- what ends a list begins no item
end_begins_none : (t : Token) → ends_list t ≡ true → begins_item t ≡ false
unfolding is_reserved
end_begins_none t h = of t.class t.text h
  where
    of : (c : TokenClass) (w : List ℕ) → ends_list (record { class = c; text = w; start = 0; stop = 0; after_break = false }) ≡ true → begins_item (record { class = c; text = w; start = 0; stop = 0; after_break = false }) ≡ false
    of End w h = refl
    of Punctuator w h = go (among w ("}" ∷ [])) refl h
      where
        go : (x : Bool) → among w ("}" ∷ []) ≡ x → (x || false) ≡ true → begins_item (record { class = Punctuator; text = w; start = 0; stop = 0; after_break = false }) ≡ false
        go true e h = among_by (λ v. begins_item (record { class = Punctuator; text = v; start = 0; stop = 0; after_break = false }) ≡ false) w ("}" ∷ []) e (refl, tt)
        go false e h = cc
    of IdentifierName w h = among_by (λ v. begins_item (record { class = IdentifierName; text = v; start = 0; stop = 0; after_break = false }) ≡ false) w ("case" ∷ "default" ∷ "export" ∷ []) h (refl, (refl, (refl, tt)))
    of NumericLiteral w h = cc
    of StringLiteral w h = cc
    of Template w h = cc
    of TokenClass.RegularExpressionLiteral w h = cc
    of TokenClass.PrivateName w h = cc
    of TokenClass.Keyword w h = cc

module _ (S : Type 0) (Next : S → Token → S → Type 0) (behind : S → Token) (det : IsDetermined S Next behind) where
  -- layout aside, the lines of the table are these
  from_lines : (a : Role) {o : ℕ} (zs : List Piece) (ps : Parts) {s e : S} {P : List Pair} → Runs ways S Next behind o (goes_to Expression true Any (lines a (bare_parts ps) ++ zs)) ps s e P → Runs ways S Next behind o (plain_lines a (goes_to Expression true Any zs) ps) ps s e P
  from_lines a zs none d = d
  from_lines a zs (gap ps) d = absurd (run_never S Next behind d)
  from_lines a {o} zs (part n ps) {s} {e} d =
      let u = run_the_part S Next behind (run_laid S Next behind d) in
      subst (λ v. Runs ways S Next behind o (plain_lines a (goes_to Expression true Any zs) (part n ps)) (part n ps) s e v) (sym u.pairs) (within u.spelled (from_lines a zs ps u.runs))

  to_lines : (a : Role) {o : ℕ} (zs : List Piece) (ps : Parts) {s e : S} {P : List Pair} → Runs ways S Next behind o (plain_lines a (goes_to Expression true Any zs) ps) ps s e P → Runs ways S Next behind o (goes_to Expression true Any (lines a (bare_parts ps) ++ zs)) ps s e P
  to_lines a zs none d = d
  to_lines a zs (gap ps) d = absurd (run_never S Next behind d)
  to_lines a {o} zs (part n ps) {s} {e} d =
      let u = run_the_part S Next behind d in
      subst (λ v. Runs ways S Next behind o (goes_to Expression true Any (lines a (bare_parts (part n ps)) ++ zs)) (part n ps) s e v) (sym u.pairs) (step laid (within u.spelled (to_lines a zs ps u.runs)))

  -- another end over which the same runs
  other_end : (a : Role) {o : ℕ} (xs ys : List (PieceOf Role)) → ((s e : S) (P : List Pair) → Runs ways S Next behind o xs none s e P → Runs ways S Next behind o ys none s e P) → (ps : Parts) {s e : S} {P : List Pair} →
      Runs ways S Next behind o (plain_lines a xs ps) ps s e P → Runs ways S Next behind o (plain_lines a ys ps) ps s e P
  other_end a xs ys f none {s} {e} {P} d = f s e P d
  other_end a xs ys f (gap ps) d = absurd (run_never S Next behind d)
  other_end a {o} xs ys f (part n ps) {s} {e} d =
      let u = run_the_part S Next behind d in
      subst (λ v. Runs ways S Next behind o (plain_lines a ys (part n ps)) (part n ps) s e v) (sym u.pairs) (within u.spelled (other_end a xs ys f ps u.runs))

  abbrev spaced : List Piece
  spaced = lay shallower ∷ lay line ∷ sign "}" ∷ []

  unspaced : {o : ℕ} (s e : S) (P : List Pair) → Runs ways S Next behind o (goes_to Expression true Any spaced) none s e P → Runs ways S Next behind o closing_brace none s e P
  unspaced s e P d = run_laid S Next behind (run_laid S Next behind d)

  respaced : {o : ℕ} (s e : S) (P : List Pair) → Runs ways S Next behind o closing_brace none s e P → Runs ways S Next behind o (goes_to Expression true Any spaced) none s e P
  respaced s e P d = step laid (step laid d)

  -- a list in braces
  from_brace : (a : Role) {o : ℕ} (ps : Parts) {s e : S} {P : List Pair} → Runs ways S Next behind o (goes_to Expression true Any (behind_brace (bare_parts ps) (lines a (bare_parts ps)))) ps s e P → Runs ways S Next behind o (plain_lines a closing_brace ps) ps s e P
  from_brace a none d = d
  from_brace a (gap ps) d = absurd (run_never S Next behind (run_laid S Next behind d))
  from_brace a {o} (part n ps) {s} {e} d =
      let u = run_the_part S Next behind (run_laid S Next behind (run_laid S Next behind d)) in
      let v = from_lines a spaced ps (retell S Next behind (ap (goes_to Expression true Any) (append_assoc (lines a (bare_parts ps)) (lay shallower ∷ lay line ∷ []) (sign "}" ∷ []))) u.runs) in
      subst (λ v. Runs ways S Next behind o (plain_lines a closing_brace (part n ps)) (part n ps) s e v) (sym u.pairs) (within u.spelled (other_end a (goes_to Expression true Any spaced) closing_brace unspaced ps v))

  to_brace : (a : Role) {o : ℕ} (ps : Parts) {s e : S} {P : List Pair} → Runs ways S Next behind o (plain_lines a closing_brace ps) ps s e P → Runs ways S Next behind o (goes_to Expression true Any (behind_brace (bare_parts ps) (lines a (bare_parts ps)))) ps s e P
  to_brace a none d = d
  to_brace a (gap ps) d = absurd (run_never S Next behind d)
  to_brace a {o} (part n ps) {s} {e} d =
      let u = run_the_part S Next behind d in
      let v = to_lines a spaced ps (other_end a closing_brace (goes_to Expression true Any spaced) respaced ps u.runs) in
      let w = retell S Next behind (sym (ap (goes_to Expression true Any) (append_assoc (lines a (bare_parts ps)) (lay shallower ∷ lay line ∷ []) (sign "}" ∷ [])))) v in
      subst (λ v. Runs ways S Next behind o (goes_to Expression true Any (behind_brace (bare_parts (part n ps)) (lines a (bare_parts (part n ps))))) (part n ps) s e v) (sym u.pairs) (step laid (step laid (within u.spelled w)))

  -- behind `{`: a list of such items and `}`
  pub block_begins : {Fine : Parts → S → Type 0} {o : ℕ} {m : S} (a : Role) → Sofar S Next behind det Fine o (λ ps. goes_to Expression true Any (behind_brace (bare_parts ps) (lines a (bare_parts ps)))) m (plain_lines a closing_brace) m (λ ps. ps) []
  block_begins a = turned S Next behind det (λ o' ps e P d. from_brace a ps d) (λ o' ps e P d. to_brace a ps d)

  -- What closes a list of items: what follows them may follow a statement, but begins none. `End` says what stands behind the list.
  pub record Closing (End : S → Type 0) (zs : List (PieceOf Role)) : Type 0 where
    pub closes : {o : ℕ} {b : Bool} {k e : S} {P : List Pair} → Runs ways S Next behind o zs none k e P → End e → Followed S Next behind b k
    pub no_item : {o : ℕ} {k e : S} {P : List Pair} → Runs ways S Next behind o zs none k e P → End e → Started S Next behind det k → ⊥

  -- so what begins an item may follow a statement
  pub started_follows : {b : Bool} {k : S} → Started S Next behind det k → Followed S Next behind b k
  started_follows {b} u = record { token = u.token; mid = u.mid; read = u.read; follows = either_follows b u.token u.starts }

  module _ {End : S → Type 0} {zs : List (PieceOf Role)} (closing : Closing End zs) where
    -- what stands behind an item is what may follow a statement
    lines_follow : {b p d r : Bool} {a : Role} → Stands a p d r → (o : ℕ) (ps : Parts) (k e : S) (P : List Pair) → Runs ways S Next behind o (plain_lines a zs ps) ps k e P → End e → Followed S Next behind b k
    lines_follow st o none k e P d end = closing.closes d end
    lines_follow st o (gap ps) k e P d end = absurd (run_never S Next behind d)
    lines_follow st o (part m ps) k e P d end = started_follows (item_starts S Next behind det st (run_the_part S Next behind d).spelled)

    module _ {p d r : Bool} {a : Role} (stands : Stands a p d r) where
      -- an item, and on it goes
      pub line_more : {o : ℕ} {mid k : S} {n : Tree} {A : List Pair} → FoundWhere S Next behind (Finished S Next behind) o a mid k n A → Sofar S Next behind det (λ ps e. End e) o (plain_lines a zs) mid (plain_lines a zs) k (part n) A
      line_more {o} {mid} found = part_is S Next behind det {last = λ m ps. plain_lines a zs ps} (λ m ps. refl)
          (λ o' e P d end. closing.no_item d end (item_starts S Next behind det stands found.spelled)) (λ o' ps e P d end. absurd (run_never S Next behind d)) found
          (λ o' m ps k' e A' P sp d end. lines_follow stands o' ps k' e P d end)

      -- where no item begins, the list is at its end
      pub line_end : {o : ℕ} {mid : S} → (Started S Next behind det mid → ⊥) → Sofar S Next behind det (λ ps e. End e) o (plain_lines a zs) mid (λ ps. closed_by zs ps) mid (λ ps. ps) []
      line_end {o} {mid} no_more = turned S Next behind det there back
        where
          there : (o' : ℕ) (ps : Parts) (e : S) (P : List Pair) → Runs ways S Next behind o' (plain_lines a zs ps) ps mid e P → Runs ways S Next behind o' (closed_by zs ps) ps mid e P
          there o' none e P d = d
          there o' (gap ps) e P d = absurd (run_never S Next behind d)
          there o' (part m ps) e P d = absurd (no_more (item_starts S Next behind det stands (run_the_part S Next behind d).spelled))

          back : (o' : ℕ) (ps : Parts) (e : S) (P : List Pair) → Runs ways S Next behind o' (closed_by zs ps) ps mid e P → Runs ways S Next behind o' (plain_lines a zs ps) ps mid e P
          back o' none e P d = d
          back o' (gap ps) e P d = absurd (run_never S Next behind d)
          back o' (part m ps) e P d = absurd (run_never S Next behind d)

  -- no item begins with such a token
  pub no_start : {c : TokenClass} {w : List ℕ} {k m : S} {t : Token} → IsTrue (allows Goal.RegExp c w) → begins_item (record { class = c; text = w; start = 0; stop = 0; after_break = false }) ≡ false → Reads S Next behind c w k t m → Started S Next behind det k → ⊥
  no_start {c} {w} {k} {m} {t} al none_begins h u =
      let al' : IsTrue (allows Goal.RegExp t.class t.text) = subst (λ x. IsTrue (allows Goal.RegExp x t.text)) (sym h.class) (subst (λ x. IsTrue (allows Goal.RegExp c x)) (sym h.text) al) in
      let same = (det.same Goal.RegExp k u.token t u.mid m u.read.next h.next u.read.allowed al').0 in
      false≢true (sym none_begins ∙ sym (ap (λ x. begins_item (record { class = c; text = x; start = 0; stop = 0; after_break = false })) h.text) ∙ sym (ap (λ x. begins_item (record { class = x; text = t.text; start = 0; stop = 0; after_break = false })) h.class) ∙ sym (ap begins_item same) ∙ u.starts)

  -- `}` closes a list, whatever stands behind it
  pub brace_closes : Closing (λ e. Unit {0}) closing_brace
  brace_closes = record {
    closes = λ {o} {b} {k} {e} {P} d end. token_follows S Next behind det {b = b} refl refl (run_token S Next behind d).reads;
    no_item = λ {o} {k} {e} {P} d end u. no_start refl refl (run_token S Next behind d).reads u;
  }

  -- the end of the text closes a script
  pub end_closes : Closing (λ e. Unit {0}) (tok End [] ∷ [])
  end_closes = record {
    closes = λ {o} {b} {k} {e} {P} d end. token_follows S Next behind det {b = b} refl refl (run_token S Next behind d).reads;
    no_item = λ {o} {k} {e} {P} d end u. no_start refl refl (run_token S Next behind d).reads u;
  }

  -- the list of a case ends where the next token says so
  pub case_closes : Closing (ListEnds S Next behind) []
  case_closes = record {
    closes = λ {o} {b} {k} {e} {P} d end. subst (λ x. Followed S Next behind b x) (sym (run_none S Next behind d).place) (record { token = end.token; mid = end.mid; read = end.read; follows = end_follows b end.token end.ends });
    no_item = λ {o} {k} {e} {P} d end u.
        let here : Started S Next behind det e = subst (λ x. Started S Next behind det x) (run_none S Next behind d).place u in
        let same = (det.same Goal.RegExp e here.token end.token here.mid end.mid here.read.next end.read.next here.read.allowed end.read.allowed).0 in
        false≢true (sym (end_begins_none end.token end.ends) ∙ sym (ap begins_item same) ∙ here.starts);
  }

  -- where what closes the list is read, it is found
  pub lines_close : {Fine : Parts → S → Type 0} {o : ℕ} {all : Parts → List (PieceOf Role)} {zs : List (PieceOf Role)} {s mid e : S} {f : Parts → Parts} {Q : List Pair} → Sofar S Next behind det Fine o all s (closed_by zs) mid f Q → Runs ways S Next behind o zs none mid e [] →
      ((o' : ℕ) (e' : S) (P' : List Pair) → Runs ways S Next behind o' zs none mid e' P' → Fine (f none) e' → (e' ≡ e) × (P' ≡ [])) → FoundPartsWhere S Next behind Fine o all s e (f none) Q
  lines_close {Fine} {o} {all} {zs} {s} {mid} {e} {f} {Q} a run only = record {
    runs = subst (λ v. Runs ways S Next behind o (all (f none)) (f none) s e v) (append-nil Q) (a.runs run);
    only = λ o' e' ps' P' d fine. let u = a.leads d fine in of o' e' u.rest u.more u.runs (subst (λ w. Fine w e') u.parts fine) u.parts u.pairs;
  }
    where
      of : (o' : ℕ) (e' : S) (rest : Parts) (more : List Pair) {ps' : Parts} {P' : List Pair} → Runs ways S Next behind o' (closed_by zs rest) rest mid e' more → Fine (f rest) e' → ps' ≡ f rest → P' ≡ Q ++ more → (e' ≡ e) × (ps' ≡ f none) × (P' ≡ Q)
      of o' e' none more d fine p q = let v = only o' e' more d fine in (v.0, p, q ∙ ap (λ w. Q ++ w) v.1 ∙ append-nil Q)
      of o' e' (part n ps) more d fine p q = absurd (run_never S Next behind d)
      of o' e' (gap ps) more d fine p q = absurd (run_never S Next behind d)
