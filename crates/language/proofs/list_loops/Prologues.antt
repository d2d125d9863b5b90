-- The items of a script or a body, of which the first may be directives: a loop reads them as it reads other lists of statements.
use Rattle.std.proofs.Common.{◌≡◌, ℕ, Bool, true, false, cond, List, [], ◌∷◌, ◌++◌, refl, sym, ap, subst, append_assoc}
use Rattle.std.specs.Prelude.{◌&&◌}
use Rattle.tokens.specs.declared.token.TokenClass.TheVariants.{End}
use Rattle.tree.specs.declared.kind.Pair.{Pair}
use Rattle.tree.specs.Tree.{Tree, node, Parts, none, part, gap, bare, bare_parts}
use Rattle.language.specs.declared.Rank.TheVariants.{Expression}
use Rattle.language.specs.declared.Start.TheVariants.{Any}
use Rattle.language.specs.Pieces.{Role, item, opening, Piece, PieceOf, tok, sub, never, lay, line, feed, shallower, sign}
use Rattle.language.specs.Statements.{prologue, is_directive}
use Rattle.language.specs.Token.{Token}
use Rattle.language.specs.Promises.{IsDetermined}
use Rattle.language.specs.Following.{Followed, Finished, FoundWhere}
use Rattle.language.specs.Grammar.{ways}
use Rattle.language.specs.Derivation.{Runs, step, within, laid}
use Rattle.language.proofs.table.Begins.{goes_to, retell}
use Rattle.language.proofs.list_loops.FirstPieces.{run_laid, run_never, run_the_part}
use Rattle.language.proofs.table.StatementWays.{behind_brace, Stands, as_item, as_opening}
use Rattle.language.proofs.table.ItemTokens.{Started, item_starts}
use Rattle.language.proofs.list_loops.StatementLists.{closing_brace, closed_by, Closing, started_follows}
use Rattle.language.proofs.list_loops.PiecesSoFar.{Sofar, turned, part_is}

-- the pieces of a script or a body, whose first items may be directives
abbrev pub plain_prologue : Bool → Bool → List (PieceOf Role) → Parts → List (PieceOf Role)
plain_prologue r b zs none = zs
plain_prologue r b zs (part n ps) = sub (cond b (opening r) (item r)) ∷ plain_prologue r (b && is_directive n) zs ps
plain_prologue r b zs (gap ps) = never ∷ []

directive_bare : (n : Tree) → is_directive (bare n) ≡ is_directive n
directive_bare (node k w g s e ps) = refl

-- an item of a prologue stands before other items, or behind directives alone
stands_first : (r b : Bool) → Stands (cond b (opening r) (item r)) b true r
stands_first r true = as_opening
stands_first r false = as_item

module _ (S : Type 0) (Next : S → Token → S → Type 0) (behind : S → Token) (det : IsDetermined S Next behind) where
  -- layout aside, the items of the table are these
  from_body : (r b : Bool) {o : ℕ} (zs : List Piece) (ps : Parts) {s e : S} {P : List Pair} → Runs ways S Next behind o (goes_to Expression true Any (prologue r b (lay line ∷ []) [] (bare_parts ps) ++ zs)) ps s e P → Runs ways S Next behind o (plain_prologue r b (goes_to Expression true Any zs) ps) ps s e P
  from_body r b zs none d = d
  from_body r b zs (gap ps) d = absurd (run_never S Next behind d)
  from_body r b {o} zs (part n ps) {s} {e} d =
      let u = run_the_part S Next behind (run_laid S Next behind d) in
      let v = retell S Next behind (ap (λ x. goes_to Expression true Any (prologue r (b && x) (lay line ∷ []) [] (bare_parts ps) ++ zs)) (directive_bare n)) u.runs in
      subst (λ v. Runs ways S Next behind o (plain_prologue r b (goes_to Expression true Any zs) (part n ps)) (part n ps) s e v) (sym u.pairs) (within u.spelled (from_body r (b && is_directive n) zs ps v))

  to_body : (r b : Bool) {o : ℕ} (zs : List Piece) (ps : Parts) {s e : S} {P : List Pair} → Runs ways S Next behind o (plain_prologue r b (goes_to Expression true Any zs) ps) ps s e P → Runs ways S Next behind o (goes_to Expression true Any (prologue r b (lay line ∷ []) [] (bare_parts ps) ++ zs)) ps s e P
  to_body r b zs none d = d
  to_body r b zs (gap ps) d = absurd (run_never S Next behind d)
  to_body r b {o} zs (part n ps) {s} {e} d =
      let u = run_the_part S Next behind d in
      let v = retell S Next behind (sym (ap (λ x. goes_to Expression true Any (prologue r (b && x) (lay line ∷ []) [] (bare_parts ps) ++ zs)) (directive_bare n))) (to_body r (b && is_directive n) zs ps u.runs) in
      subst (λ v. Runs ways S Next behind o (goes_to Expression true Any (prologue r b (lay line ∷ []) [] (bare_parts (part n ps)) ++ zs)) (part n ps) s e v) (sym u.pairs) (step laid (within u.spelled v))

  -- another end over which the same runs
  other_last : (r b : Bool) {o : ℕ} (xs ys : List (PieceOf Role)) → ((s e : S) (P : List Pair) → Runs ways S Next behind o xs none s e P → Runs ways S Next behind o ys none s e P) → (ps : Parts) {s e : S} {P : List Pair} →
      Runs ways S Next behind o (plain_prologue r b xs ps) ps s e P → Runs ways S Next behind o (plain_prologue r b ys ps) ps s e P
  other_last r b xs ys f none {s} {e} {P} d = f s e P d
  other_last r b xs ys f (gap ps) d = absurd (run_never S Next behind d)
  other_last r b {o} xs ys f (part n ps) {s} {e} d =
      let u = run_the_part S Next behind d in
      subst (λ v. Runs ways S Next behind o (plain_prologue r b ys (part n ps)) (part n ps) s e v) (sym u.pairs) (within u.spelled (other_last r (b && is_directive n) xs ys f ps u.runs))

  abbrev spaced : List Piece
  spaced = lay shallower ∷ lay line ∷ sign "}" ∷ []

  from_braces : {o : ℕ} (ps : Parts) {s e : S} {P : List Pair} → Runs ways S Next behind o (goes_to Expression true Any (behind_brace (bare_parts ps) (prologue true true (lay line ∷ []) [] (bare_parts ps)))) ps s e P → Runs ways S Next behind o (plain_prologue true true closing_brace ps) ps s e P
  from_braces none d = d
  from_braces (gap ps) d = absurd (run_never S Next behind (run_laid S Next behind d))
  from_braces {o} (part n ps) d =
      let v = retell S Next behind (ap (goes_to Expression true Any) (append_assoc (prologue true true (lay line ∷ []) [] (bare_parts (part n ps))) (lay shallower ∷ lay line ∷ []) (sign "}" ∷ []))) (run_laid S Next behind d) in
      other_last true true (goes_to Expression true Any spaced) closing_brace (λ s e P d. run_laid S Next behind (run_laid S Next behind d)) (part n ps) (from_body true true spaced (part n ps) v)

  to_braces : {o : ℕ} (ps : Parts) {s e : S} {P : List Pair} → Runs ways S Next behind o (plain_prologue true true closing_brace ps) ps s e P → Runs ways S Next behind o (goes_to Expression true Any (behind_brace (bare_parts ps) (prologue true true (lay line ∷ []) [] (bare_parts ps)))) ps s e P
  to_braces none d = d
  to_braces (gap ps) d = absurd (run_never S Next behind d)
  to_braces {o} (part n ps) d =
      let v = to_body true true spaced (part n ps) (other_last true true closing_brace (goes_to Expression true Any spaced) (λ s e P d. step laid (step laid d)) (part n ps) d) in
      step laid (retell S Next behind (sym (ap (goes_to Expression true Any) (append_assoc (prologue true true (lay line ∷ []) [] (bare_parts (part n ps))) (lay shallower ∷ lay line ∷ []) (sign "}" ∷ [])))) v)

  -- behind the `{` of a body: such items and `}`
  pub body_begins : {Fine : Parts → S → Type 0} {o : ℕ} {m : S} → Sofar S Next behind det Fine o (λ ps. goes_to Expression true Any (behind_brace (bare_parts ps) (prologue true true (lay line ∷ []) [] (bare_parts ps)))) m (plain_prologue true true closing_brace) m (λ ps. ps) []
  body_begins = turned S Next behind det (λ o' ps e P d. from_braces ps d) (λ o' ps e P d. to_braces ps d)

  from_script : (r b : Bool) {o : ℕ} (zs : List Piece) (ps : Parts) {s e : S} {P : List Pair} → Runs ways S Next behind o (goes_to Expression true Any (prologue r b [] (lay feed ∷ []) (bare_parts ps) ++ zs)) ps s e P → Runs ways S Next behind o (plain_prologue r b (goes_to Expression true Any zs) ps) ps s e P
  from_script r b zs none d = d
  from_script r b zs (gap ps) d = absurd (run_never S Next behind d)
  from_script r b {o} zs (part n ps) {s} {e} d =
      let u = run_the_part S Next behind d in
      let v = retell S Next behind (ap (λ x. goes_to Expression true Any (prologue r (b && x) [] (lay feed ∷ []) (bare_parts ps) ++ zs)) (directive_bare n)) (run_laid S Next behind u.runs) in
      subst (λ v. Runs ways S Next behind o (plain_prologue r b (goes_to Expression true Any zs) (part n ps)) (part n ps) s e v) (sym u.pairs) (within u.spelled (from_script r (b && is_directive n) zs ps v))

  to_script : (r b : Bool) {o : ℕ} (zs : List Piece) (ps : Parts) {s e : S} {P : List Pair} → Runs ways S Next behind o (plain_prologue r b (goes_to Expression true Any zs) ps) ps s e P → Runs ways S Next behind o (goes_to Expression true Any (prologue r b [] (lay feed ∷ []) (bare_parts ps) ++ zs)) ps s e P
  to_script r b zs none d = d
  to_script r b zs (gap ps) d = absurd (run_never S Next behind d)
  to_script r b {o} zs (part n ps) {s} {e} d =
      let u = run_the_part S Next behind d in
      let v = retell S Next behind (sym (ap (λ x. goes_to Expression true Any (prologue r (b && x) [] (lay feed ∷ []) (bare_parts ps) ++ zs)) (directive_bare n))) (to_script r (b && is_directive n) zs ps u.runs) in
      subst (λ v. Runs ways S Next behind o (goes_to Expression true Any (prologue r b [] (lay feed ∷ []) (bare_parts (part n ps)) ++ zs)) (part n ps) s e v) (sym u.pairs) (within u.spelled (step laid v))

  -- a script: such items and the end of the text
  pub script_begins : {Fine : Parts → S → Type 0} {o : ℕ} {m : S} → Sofar S Next behind det Fine o (λ ps. goes_to Expression true Any (prologue false true [] (lay feed ∷ []) (bare_parts ps) ++ tok End [] ∷ [])) m (plain_prologue false true (tok End [] ∷ [])) m (λ ps. ps) []
  script_begins = turned S Next behind det (λ o' ps e P d. from_script false true (tok End [] ∷ []) ps d) (λ o' ps e P d. to_script false true (tok End [] ∷ []) ps d)

  module _ {End : S → Type 0} {zs : List (PieceOf Role)} (closing : Closing S Next behind det End zs) where
    -- what stands behind an item is what may follow a statement
    prologue_follows : {c : Bool} (r b : Bool) (o : ℕ) (ps : Parts) (k e : S) (P : List Pair) → Runs ways S Next behind o (plain_prologue r b zs ps) ps k e P → End e → Followed S Next behind c k
    prologue_follows r b o none k e P d end = closing.closes d end
    prologue_follows r b o (gap ps) k e P d end = absurd (run_never S Next behind d)
    prologue_follows r b o (part m ps) k e P d end = started_follows S Next behind det (item_starts S Next behind det (stands_first r b) (run_the_part S Next behind d).spelled)

    -- an item, and on it goes: behind one that is no directive there are none
    pub prologue_more : {o : ℕ} {mid k : S} {n : Tree} {A : List Pair} (r b : Bool) → FoundWhere S Next behind (Finished S Next behind) o (cond b (opening r) (item r)) mid k n A →
        Sofar S Next behind det (λ ps e. End e) o (plain_prologue r b zs) mid (plain_prologue r (b && is_directive n) zs) k (part n) A
    prologue_more {o} {mid} r b found = part_is S Next behind det {last = λ m ps. plain_prologue r (b && is_directive m) zs ps} (λ m ps. refl)
        (λ o' e P d end. closing.no_item d end (item_starts S Next behind det (stands_first r b) found.spelled)) (λ o' ps e P d end. absurd (run_never S Next behind d)) found
        (λ o' m ps k' e A' P sp d end. prologue_follows r (b && is_directive m) o' ps k' e P d end)

    -- where no item begins, the list is at its end
    pub prologue_end : {o : ℕ} {mid : S} (r b : Bool) → (Started S Next behind det mid → ⊥) → Sofar S Next behind det (λ ps e. End e) o (plain_prologue r b zs) mid (λ ps. closed_by zs ps) mid (λ ps. ps) []
    prologue_end {o} {mid} r b no_more = turned S Next behind det there back
      where
        there : (o' : ℕ) (ps : Parts) (e : S) (P : List Pair) → Runs ways S Next behind o' (plain_prologue r b zs ps) ps mid e P → Runs ways S Next behind o' (closed_by zs ps) ps mid e P
        there o' none e P d = d
        there o' (gap ps) e P d = absurd (run_never S Next behind d)
        there o' (part m ps) e P d = absurd (no_more (item_starts S Next behind det (stands_first r b) (run_the_part S Next behind d).spelled))

        back : (o' : ℕ) (ps : Parts) (e : S) (P : List Pair) → Runs ways S Next behind o' (closed_by zs ps) ps mid e P → Runs ways S Next behind o' (plain_prologue r b zs ps) ps mid e P
        back o' none e P d = d
        back o' (gap ps) e P d = absurd (run_never S Next behind d)
        back o' (part m ps) e P d = absurd (run_never S Next behind d)
