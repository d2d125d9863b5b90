-- Pieces that run over at most one list of parts: from what stands behind a piece to the whole, and from the pieces to the node.
use Rattle.std.proofs.Common.{◌≡◌, ℕ, suc, ◌≤◌, List, [], ◌∷◌, ◌++◌, max, sym, ap, ◌∙◌, subst, arith}
use Rattle.std.specs.Prelude.{IsTrue}
use Rattle.tokens.specs.declared.token.TokenClass.{TokenClass}
use Rattle.tokens.specs.declared.token.Goal.{Goal}
use Rattle.tokens.specs.Goals.{allows}
use Rattle.tree.specs.declared.kind.Kind.{Kind}
use Rattle.tree.specs.declared.kind.Flags.{Flags}
use Rattle.tree.specs.declared.kind.Pair.{Pair}
use Rattle.tree.specs.Tree.{Tree, Parts, part, gap, height, parts_height}
use Rattle.language.specs.Pieces.{Role, PieceOf, Hint, tok, sub, absent, lay}
use Rattle.language.specs.Token.{Token}
use Rattle.language.specs.Promises.{IsDetermined, FoundAt, FoundParts}
use Rattle.language.specs.Following.{FoundWhere}
use Rattle.language.specs.Grammar.{ways}
use Rattle.language.specs.Derivation.{Spells, Runs, Placed}
use Rattle.language.proofs.table.Begins.{retell}
use Rattle.language.proofs.list_loops.FirstPieces.{run_none, run_token, run_part, run_absent}
use Rattle.language.proofs.table.SoleWays.{Sole, Anyhow, sole_found, parts_where}
use Rattle.language.proofs.list_loops.PiecesSoFar.{Sofar, Fits, lay_on, token_on, part_on}
use Rattle.unambiguity_laws.proofs.Unique.{UniqueParts}

-- what stands behind a gap
abbrev pub behind_gap : Parts → Parts
behind_gap (gap ps) = ps
behind_gap ps = ps

module _ (S : Type 0) (Next : S → Token → S → Type 0) (behind : S → Token) (det : IsDetermined S Next behind) where
  -- what is read so far, and at most one rest
  pub further : {h o : ℕ} {all left : Parts → List (PieceOf Role)} {s mid : S} {f : Parts → Parts} {Q : List Pair} → Sofar S Next behind det Anyhow o all s left mid f Q → UniqueParts S Next behind det h left → {e : S} {ps : Parts} {P : List Pair} → parts_height ps ≤ h →
      Runs ways S Next behind o (all ps) ps s e P → FoundParts S Next behind o all s e ps P
  further {h} {f = f} {Q = Q} a unique {e} {ps} {P} low d =
      let w = a.leads d tt in
      let up : parts_height w.rest ≤ parts_height (f w.rest) = a.higher w.rest in
      let same : parts_height ps ≡ parts_height (f w.rest) = ap parts_height w.parts in
      let found = unique.gives (omega arith) w.runs in
      record {
        runs = d;
        only = λ o' e' ps' P' d'. let v = a.leads d' tt in
            let one = found.only o' e' v.rest v.more v.runs in
            (one.0, v.parts ∙ ap f one.1 ∙ sym w.parts, v.pairs ∙ ap (λ x. Q ++ x) one.2 ∙ sym w.pairs);
      }

  -- pieces over which only that runs which runs over others
  pub turned_unique : {h : ℕ} {all last : Parts → List (PieceOf Role)} → ((o : ℕ) (ps : Parts) (s e : S) (P : List Pair) → Runs ways S Next behind o (all ps) ps s e P → Runs ways S Next behind o (last ps) ps s e P) → UniqueParts S Next behind det h last → UniqueParts S Next behind det h all
  turned_unique there unique = record {
    gives = λ {o} {s} {e} {ps} {P} low d.
        let found = unique.gives low (there o ps s e P d) in
        record { runs = d; only = λ o' e' ps' P' d'. found.only o' e' ps' P' (there o' ps' s e' P' d') };
  }

  -- no piece
  pub nothing_unique : {h : ℕ} → UniqueParts S Next behind det h (λ ps. [])
  nothing_unique = record {
    gives = λ low d.
        let z = run_none S Next behind d in
        record { runs = d; only = λ o' e' ps' P' d'. (let v = run_none S Next behind d' in (sym v.place ∙ z.place, v.parts ∙ sym z.parts, v.pairs ∙ sym z.pairs)) };
  }

  pub laid_unique : {h : ℕ} {x : Hint} {left : Parts → List (PieceOf Role)} → UniqueParts S Next behind det h left → UniqueParts S Next behind det h (λ ps. lay x ∷ left ps)
  laid_unique {left = left} unique = record { gives = λ low d. further (lay_on S Next behind det {last = left}) unique low d }

  -- a part that is missing
  pub gap_unique : {h : ℕ} {left : Parts → List (PieceOf Role)} → UniqueParts S Next behind det h left → UniqueParts S Next behind det h (λ ps. absent ∷ left (behind_gap ps))
  gap_unique {left = left} unique = record {
    gives = λ {o} {s} {e} {ps} {P} low d.
        let v = run_absent S Next behind d in
        let high : parts_height ps ≡ parts_height v.rest = ap parts_height v.parts in
        let found = unique.gives (omega arith) (retell S Next behind (ap (λ c. left (behind_gap c)) v.parts) v.runs) in
        record {
          runs = d;
          only = λ o' e' ps' P' d'. let w = run_absent S Next behind d' in
              let same = found.only o' e' w.rest P' (retell S Next behind (ap (λ c. left (behind_gap c)) w.parts) w.runs) in
              (same.0, w.parts ∙ ap gap same.1 ∙ sym v.parts, same.2);
        };
  }

  -- a token that some goal reads
  pub token_unique : {h : ℕ} {c : TokenClass} {w : List ℕ} {left : Parts → List (PieceOf Role)} (g : Goal) → IsTrue (allows g c w) → UniqueParts S Next behind det h left → UniqueParts S Next behind det h (λ ps. tok c w ∷ left ps)
  token_unique {left = left} g al unique = record { gives = λ low d. let v = run_token S Next behind d in further (token_on S Next behind det {last = left} g al v.reads) unique low d }

  -- a part that is the only one where what follows it is fine
  pub part_unique : {h : ℕ} {a : Role} {after : Parts → List (PieceOf Role)} (FineNode : Tree → S → Type 0) → ((o : ℕ) (s e : S) (n : Tree) (P : List Pair) → height n ≤ h → Spells ways S Next behind o a n s e P → FineNode n e → FoundWhere S Next behind FineNode o a s e n P) →
      ((mid : S) → Fits S Next behind det Anyhow FineNode a after mid) → ((n : Tree) → UniqueParts S Next behind det h (λ ps. after (part n ps))) → UniqueParts S Next behind det h (λ ps. sub a ∷ after ps)
  part_unique {h} {a} {after} FineNode found fits unique = record {
    gives = λ {o} {s} {e} {ps} {P} low d.
        let v = run_part S Next behind d in
        let high : parts_height ps ≡ max (height v.item) (parts_height v.rest) = ap parts_height v.parts in
        let fine = fits s o v.item v.rest v.mid e v.one v.more v.spelled (retell S Next behind (ap after v.parts) v.runs) tt in
        further (part_on S Next behind det {Fine = Anyhow} {FineNode = FineNode} {after = after} (found o s v.mid v.item v.one (omega arith) v.spelled fine) (fits s)) (unique v.item) low d;
  }

  -- where one way alone is possible, from its parts to the node
  pub sole_unique : {h : ℕ} {Fine : Tree → S → Type 0} {a : Role} {k : Kind} {w : List ℕ} {g : Flags} {s m : S} {tail : Parts → List (PieceOf Role)} → Sole S Next behind det Fine a k w g s m tail → UniqueParts S Next behind det h tail → {o : ℕ} {n : Tree} {e : S} {P : List Pair} →
      height n ≤ suc h → Spells ways S Next behind o a n s e P → Fine n e → FoundWhere S Next behind Fine o a s e n P
  sole_unique {h} {Fine} {a} {s = s} sole unique {o} {n} {e} {P} low d fine =
      let t = sole.told d fine in
      let high : height n ≡ suc (parts_height t.parts) = ap height t.tree in
      subst (λ v. FoundWhere S Next behind Fine o a s e v P) (sym t.tree)
      (sole_found S Next behind det sole {FineParts = Anyhow} (λ st en ps e h. tt) (parts_where S Next behind det (unique.gives (omega arith) t.runs)) (subst (λ v. Placed S Next behind a v s e) t.tree t.placed))

  pub sole_closed : {h : ℕ} {a : Role} {k : Kind} {w : List ℕ} {g : Flags} {s m : S} {tail : Parts → List (PieceOf Role)} → Sole S Next behind det Anyhow a k w g s m tail → UniqueParts S Next behind det h tail → {o : ℕ} {n : Tree} {e : S} {P : List Pair} →
      height n ≤ suc h → Spells ways S Next behind o a n s e P → FoundAt S Next behind o a s e n P
  sole_closed sole unique low d = let u = sole_unique sole unique low d tt in record { spelled = u.spelled; only = λ o' e' n' P' d'. u.only o' e' n' P' d' tt }
