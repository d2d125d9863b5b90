-- Pieces one behind the other: what runs over them is the only thing that does, where each part is the only one at its place.
use Rattle.std.proofs.Common.{◌≡◌, ℕ, ◌≤◌, List, [], ◌∷◌, ◌++◌, sym, ap, subst, arith}
use Rattle.std.specs.Prelude.{IsTrue}
use Rattle.tokens.specs.declared.token.TokenClass.{TokenClass}
use Rattle.tokens.specs.declared.token.Goal.{Goal}
use Rattle.tokens.specs.Goals.{allows}
use Rattle.tree.specs.declared.kind.Pair.{Pair}
use Rattle.tree.specs.Tree.{Tree, Parts, none, part, height, parts_height}
use Rattle.language.specs.Pieces.{Role, PieceOf, Hint, tok, lay, unbroken, sub}
use Rattle.language.specs.Token.{Token}
use Rattle.language.specs.Promises.{IsDetermined, FoundParts}
use Rattle.language.specs.Following.{FoundWhere, FoundPartsWhere}
use Rattle.language.specs.Grammar.{ways}
use Rattle.language.specs.Derivation.{Spells, Runs}
use Rattle.language.proofs.table.Begins.{retell}
use Rattle.language.proofs.list_loops.FirstPieces.{run_none, run_token, run_part, run_unbroken}
use Rattle.language.proofs.list_loops.PiecesSoFar.{Sofar, Fits, at_first, all_read, token_on, lay_on, part_on}
use Rattle.language.proofs.statements.OptionalParts.{and_found, unbroken_on}

module _ (S : Type 0) (Next : S → Token → S → Type 0) (behind : S → Token) (det : IsDetermined S Next behind) where
  -- parts of at most this height over which these pieces run, with what may follow, are the only ones
  pub record UniqueRuns (h : ℕ) (Fine : Parts → S → Type 0) (left : Parts → List (PieceOf Role)) : Type 0 where
    pub found : {o : ℕ} {ps : Parts} {mid e : S} {P : List Pair} → parts_height ps ≤ h → Runs ways S Next behind o (left ps) ps mid e P → Fine ps e → FoundPartsWhere S Next behind Fine o left mid e ps P

  -- nodes at a position are the only ones, and none is found elsewhere
  pub record UniqueWhere (h : ℕ) (Fine : Tree → S → Type 0) (a : Role) : Type 0 where
    pub found : {o : ℕ} {n : Tree} {s e : S} {P : List Pair} → height n ≤ h → Spells ways S Next behind o a n s e P → Fine n e → FoundWhere S Next behind Fine o a s e n P

  module _ {h : ℕ} {Fine : Parts → S → Type 0} where
    -- what goes before is read, and the rest is unique
    pub runs_after : {all left : Parts → List (PieceOf Role)} → ((o : ℕ) (s : S) → Sofar S Next behind det Fine o all s left s (λ ps. ps) []) → UniqueRuns h Fine left → UniqueRuns h Fine all
    runs_after {all} {left} before rest = record {
      found = λ {o} {ps} {mid = s} {e} {P} low d fine.
          let v = (before o s).leads d fine in
          let same : v.rest ≡ ps = sym v.parts in
          let pairs : v.more ≡ P = sym v.pairs in
          let d' : Runs ways S Next behind o (left ps) ps s e P = subst (λ w. Runs ways S Next behind o (left ps) ps s e w) pairs (subst (λ w. Runs ways S Next behind o (left w) w s e v.more) same v.runs) in
          and_found S Next behind det (before o s) (rest.found low d' fine);
    }

    pub runs_none : UniqueRuns h Fine (λ ps. [])
    runs_none = record {
      found = λ {o} {ps} {mid = s} {e} {P} low d fine.
          let z = run_none S Next behind d in
          subst (λ w. FoundPartsWhere S Next behind Fine o (λ ps. []) s e ps w) (sym z.pairs)
          (subst (λ w. FoundPartsWhere S Next behind Fine o (λ ps. []) s e w []) (sym z.parts)
          (subst (λ w. FoundPartsWhere S Next behind Fine o (λ ps. []) s w none []) z.place (all_read S Next behind det (at_first S Next behind det))));
    }

    pub runs_lay : {x : Hint} {last : Parts → List (PieceOf Role)} → UniqueRuns h Fine last → UniqueRuns h Fine (λ ps. lay x ∷ last ps)
    runs_lay rest = runs_after (λ o s. lay_on S Next behind det) rest

    pub runs_token : {c : TokenClass} {w : List ℕ} {last : Parts → List (PieceOf Role)} (g : Goal) → IsTrue (allows g c w) → UniqueRuns h Fine last → UniqueRuns h Fine (λ ps. tok c w ∷ last ps)
    runs_token g al rest = record {
      found = λ low d fine.
          let v = run_token S Next behind d in
          and_found S Next behind det (token_on S Next behind det g al v.reads) (rest.found low v.runs fine);
    }

    pub runs_unbroken : {last : Parts → List (PieceOf Role)} → UniqueRuns h Fine last → UniqueRuns h Fine (λ ps. unbroken ∷ last ps)
    runs_unbroken rest = record {
      found = λ low d fine.
          let v = run_unbroken S Next behind d in
          and_found S Next behind det (unbroken_on S Next behind det v.next v.unbroken) (rest.found low v.runs fine);
    }

    -- a part, where what follows it lets it be unique, and the rest behind each such part
    pub runs_part : {FineNode : Tree → S → Type 0} {a : Role} {after : Parts → List (PieceOf Role)} → UniqueWhere h FineNode a → ((mid : S) → Fits S Next behind det Fine FineNode a after mid) →
        ((n : Tree) → height n ≤ h → UniqueRuns h (λ ps e. Fine (part n ps) e) (λ ps. after (part n ps))) → UniqueRuns h Fine (λ ps. sub a ∷ after ps)
    runs_part {FineNode} {a} {after} one fits rest = record {
      found = λ {o} {ps} {mid = s} {e} {P} low d fine.
          let v = run_part S Next behind d in
          let all : parts_height ps ≡ parts_height (part v.item v.rest) = ap parts_height v.parts in
          let low1 : height v.item ≤ h = omega arith in
          let low2 : parts_height v.rest ≤ h = omega arith in
          let d' : Runs ways S Next behind o (after (part v.item v.rest)) v.rest v.mid e v.more = retell S Next behind (ap after v.parts) v.runs in
          let fine' : Fine (part v.item v.rest) e = subst (λ w. Fine w e) v.parts fine in
          let found = one.found low1 v.spelled (fits s o v.item v.rest v.mid e v.one v.more v.spelled d' fine') in
          subst (λ w. FoundPartsWhere S Next behind Fine o (λ ps. sub a ∷ after ps) s e ps w) (sym v.pairs)
          (subst (λ w. FoundPartsWhere S Next behind Fine o (λ ps. sub a ∷ after ps) s e w (v.one ++ v.more)) (sym v.parts)
          (and_found S Next behind det (part_on S Next behind det {Fine = Fine} {after = after} found (fits s)) ((rest v.item low1).found low2 d' fine')));
    }

  -- whatever may follow
  pub anyhow_found : {h o : ℕ} {left : Parts → List (PieceOf Role)} {ps : Parts} {mid e : S} {P : List Pair} → UniqueRuns h (λ ps e. Unit {0}) left → parts_height ps ≤ h → Runs ways S Next behind o (left ps) ps mid e P → FoundParts S Next behind o left mid e ps P
  anyhow_found all low d = let v = all.found low d tt in record { runs = v.runs; only = λ o' e' ps' P' d'. v.only o' e' ps' P' d' tt }
