-- Lists of statements and declarations: their items are the only ones, one behind the other, up to what closes the list.
use Rattle.std.proofs.Common.{◌≡◌, ℕ, ◌≤◌, Bool, true, false, cond, List, [], ◌∷◌, sym, ◌∙◌, subst, arith}
use Rattle.std.specs.Prelude.{IsTrue, ◌&&◌}
use Rattle.tokens.specs.declared.token.TokenClass.{TokenClass}
use Rattle.tokens.specs.declared.token.Goal.{Goal}
use Rattle.tokens.specs.Goals.{allows}
use Rattle.tree.specs.declared.kind.Pair.{Pair}
use Rattle.tree.specs.Tree.{Parts, none, part, gap, height, parts_height}
use Rattle.language.specs.Edges.{ends_in_if}
use Rattle.language.specs.Pieces.{Role, item, opening, PieceOf, tok}
use Rattle.language.specs.Statements.{is_directive}
use Rattle.language.specs.Token.{Token}
use Rattle.language.specs.Promises.{IsDetermined}
use Rattle.language.specs.Following.{IsAlike, Followed, FoundPartsWhere}
use Rattle.language.specs.Grammar.{ways}
use Rattle.language.specs.Derivation.{Runs}
use Rattle.language.proofs.list_loops.FirstPieces.{run_none, run_token, run_never, run_the_part}
use Rattle.language.proofs.table.StatementWays.{Stands, as_item, as_opening}
use Rattle.language.proofs.table.ItemTokens.{item_starts}
use Rattle.language.proofs.list_loops.StatementLists.{plain_lines, Closing, started_follows, line_more, line_end, lines_close}
use Rattle.language.proofs.list_loops.Prologues.{plain_prologue, prologue_more, prologue_end}
use Rattle.language.proofs.statements.OptionalParts.{and_found}
use Rattle.unambiguity_laws.proofs.Unique.{Unique}
use Rattle.unambiguity_laws.proofs.list_items.UniqueRuns.{UniqueRuns}

-- an item of a prologue stands before other items, or behind directives alone
pub stands_first : (r b : Bool) → Stands (cond b (opening r) (item r)) b true r
stands_first r true = as_opening
stands_first r false = as_item

module _ (S : Type 0) (Next : S → Token → S → Type 0) (behind : S → Token) (det : IsDetermined S Next behind) where
  -- what closes a list runs in one way
  pub record ClosesOnce (zs : List (PieceOf Role)) : Type 0 where
    pub once : {o o' : ℕ} {mid e e' : S} {P P' : List Pair} → Runs ways S Next behind o zs none mid e P → Runs ways S Next behind o' zs none mid e' P' → (e' ≡ e) × (P' ≡ [])

  pub token_once : {c : TokenClass} {w : List ℕ} (g : Goal) → IsTrue (allows g c w) → ClosesOnce (tok c w ∷ [])
  token_once {c} {w} g al = record {
    once = λ {o} {o'} {mid} {e} {e'} d d'.
        let v = run_token S Next behind d in
        let v' = run_token S Next behind d' in
        let z = run_none S Next behind v.runs in
        let z' = run_none S Next behind v'.runs in
        let same = det.same g mid v'.sign v.sign v'.mid v.mid v'.reads.next v.reads.next (allowed v'.sign v'.reads.class v'.reads.text) (allowed v.sign v.reads.class v.reads.text) in
        (sym z'.place ∙ same.1 ∙ z.place, z'.pairs);
  }
    where
      allowed : (u : Token) → u.class ≡ c → u.text ≡ w → IsTrue (allows g u.class u.text)
      allowed u p q = subst (λ x. IsTrue (allows g x u.text)) (sym p) (subst (λ x. IsTrue (allows g c x)) (sym q) al)

module _ (S : Type 0) (Next : S → Token → S → Type 0) (behind : S → Token) (det : IsDetermined S Next behind) (alike : IsAlike S Next behind) {h : ℕ} (u : Unique S Next behind det h) where
  module _ {End : S → Type 0} {zs : List (PieceOf Role)} (closing : Closing S Next behind det End zs) (closes : ClosesOnce S Next behind det zs) where
    -- what stands behind an item is what may follow a statement
    lines_follow : {b p d r : Bool} {a : Role} {o : ℕ} {k e : S} {P : List Pair} → Stands a p d r → (ps : Parts) → Runs ways S Next behind o (plain_lines a zs ps) ps k e P → End e → Followed S Next behind b k
    lines_follow st none d end = closing.closes d end
    lines_follow st (gap ps) d end = absurd (run_never S Next behind d)
    lines_follow st (part m ps) d end = started_follows S Next behind det (item_starts S Next behind det st (run_the_part S Next behind d).spelled)

    prologue_follows : {c : Bool} {o : ℕ} {k e : S} {P : List Pair} (r b : Bool) (ps : Parts) → Runs ways S Next behind o (plain_prologue r b zs ps) ps k e P → End e → Followed S Next behind c k
    prologue_follows r b none d end = closing.closes d end
    prologue_follows r b (gap ps) d end = absurd (run_never S Next behind d)
    prologue_follows r b (part m ps) d end = started_follows S Next behind det (item_starts S Next behind det (stands_first r b) (run_the_part S Next behind d).spelled)

    lines_of : {p d r : Bool} {a : Role} {o : ℕ} → Stands a p d r → (ps : Parts) (mid e : S) (P : List Pair) → parts_height ps ≤ h → Runs ways S Next behind o (plain_lines a zs ps) ps mid e P → End e →
        FoundPartsWhere S Next behind (λ ps e. End e) o (plain_lines a zs) mid e ps P
    lines_of {a = a} {o} st none mid e P low d end =
        let pairs : P ≡ [] = (closes.once d d).1 in
        let d0 : Runs ways S Next behind o zs none mid e [] = subst (λ v. Runs ways S Next behind o zs none mid e v) pairs d in
        subst (λ v. FoundPartsWhere S Next behind (λ ps e. End e) o (plain_lines a zs) mid e none v) (sym pairs)
        (lines_close S Next behind det (line_end S Next behind det closing st (λ v. closing.no_item d end v)) d0 (λ o' e' P' d' end'. closes.once d0 d'))
    lines_of st (gap ps) mid e P low d end = absurd (run_never S Next behind d)
    lines_of {a = a} {o} st (part n ps) mid e P low d end =
        let v = run_the_part S Next behind d in
        let low1 : height n ≤ h = omega arith in
        let low2 : parts_height ps ≤ h = omega arith in
        let found = u.statement st low1 v.spelled (lines_follow {b = ends_in_if n} st ps v.runs end) in
        subst (λ w. FoundPartsWhere S Next behind (λ ps e. End e) o (plain_lines a zs) mid e (part n ps) w) (sym v.pairs)
        (and_found S Next behind det (line_more S Next behind det closing st found) (lines_of st ps v.mid e v.more low2 v.runs end))

    prologue_of : {o : ℕ} (r b : Bool) (ps : Parts) (mid e : S) (P : List Pair) → parts_height ps ≤ h → Runs ways S Next behind o (plain_prologue r b zs ps) ps mid e P → End e → FoundPartsWhere S Next behind (λ ps e. End e) o (plain_prologue r b zs) mid e ps P
    prologue_of {o} r b none mid e P low d end =
        let pairs : P ≡ [] = (closes.once d d).1 in
        let d0 : Runs ways S Next behind o zs none mid e [] = subst (λ v. Runs ways S Next behind o zs none mid e v) pairs d in
        subst (λ v. FoundPartsWhere S Next behind (λ ps e. End e) o (plain_prologue r b zs) mid e none v) (sym pairs)
        (lines_close S Next behind det (prologue_end S Next behind det closing r b (λ v. closing.no_item d end v)) d0 (λ o' e' P' d' end'. closes.once d0 d'))
    prologue_of r b (gap ps) mid e P low d end = absurd (run_never S Next behind d)
    prologue_of {o} r b (part n ps) mid e P low d end =
        let v = run_the_part S Next behind d in
        let low1 : height n ≤ h = omega arith in
        let low2 : parts_height ps ≤ h = omega arith in
        let found = u.statement (stands_first r b) low1 v.spelled (prologue_follows {c = ends_in_if n} r (b && is_directive n) ps v.runs end) in
        subst (λ w. FoundPartsWhere S Next behind (λ ps e. End e) o (plain_prologue r b zs) mid e (part n ps) w) (sym v.pairs)
        (and_found S Next behind det (prologue_more S Next behind det closing r b found) (prologue_of r (b && is_directive n) ps v.mid e v.more low2 v.runs end))

    -- items, of which the first may be directives in a prologue
    pub lines_unique : {p d r : Bool} {a : Role} → Stands a p d r → UniqueRuns S Next behind det h (λ ps e. End e) (plain_lines a zs)
    lines_unique st = record { found = λ {o} {ps} {mid} {e} {P} low d end. lines_of st ps mid e P low d end }

    pub prologue_unique : (r b : Bool) → UniqueRuns S Next behind det h (λ ps e. End e) (plain_prologue r b zs)
    prologue_unique r b = record { found = λ {o} {ps} {mid} {e} {P} low d end. prologue_of r b ps mid e P low d end }
