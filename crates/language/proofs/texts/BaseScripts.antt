-- Without the later productions a text derives just the trees of the base profile that it derives with them.
use Rattle.std.proofs.Common.{◌≡◌, ℕ, Bool, true, false, cond, List, [], refl, sym, ap, ◌∙◌}
use Rattle.std.proofs.lemmas.Bool.{false≢true}
use Rattle.tree.specs.declared.kind.Pair.{Pair}
use Rattle.tree.specs.Tree.{Tree, node, Parts}
use Rattle.language.specs.Token.{Token}
use Rattle.language.specs.Pieces.{Role, PieceOf}
use Rattle.language.specs.Grammar.{ways}
use Rattle.language.specs.Later.{is_later, has_later, some_has_later}
use Rattle.language.specs.Derivation.{Among, Spells, direct, grouped, Runs, done, step, opened, closed, within, missing, reserved_key, reserved_word}
use Rattle.language.specs.Languages.{base_ways, BaseScriptsStay}
use Rattle.language.proofs.languages.BaseTrees.{neither, not_first, not_second}

base_way : (b : Bool) {x : List (PieceOf Role)} {xs : List (List (PieceOf Role))} → Among x (cond b [] xs) → Among x xs × (b ≡ false)
base_way true h = elim h [ ]
base_way false h = (h, refl)

way_base : (b : Bool) {x : List (PieceOf Role)} {xs : List (List (PieceOf Role))} → b ≡ false → Among x xs → Among x (cond b [] xs)
way_base true e h = absurd (false≢true (sym e))
way_base false e h = h

-- a name's node is none of these
name_stays : {n m : Tree} → n ≡ m → has_later m ≡ false → has_later n ≡ false
name_stays e h = ap has_later e ∙ h

module _ (S : Type 0) (Next : S → Token → S → Type 0) (behind : S → Token) where
  mutual
    unfolding has_later some_has_later

    Spells-all : {o : ℕ} {a : Role} {n : Tree} {s e : S} {P : List Pair} → Spells base_ways S Next behind o a n s e P → Spells ways S Next behind o a n s e P × (has_later n ≡ false)
    Spells-all {n = node k w g st en ps} (direct qs h pl d) = let u = base_way (is_later (node k w g st en ps)) h in let v = Runs-all d in (direct qs u.0 pl v.0, neither _ _ u.1 v.1)
    Spells-all (grouped p d q) = let u = Spells-all d in (grouped p u.0 q, u.1)
    Spells-all (reserved_key r k e) = (reserved_key r k e, name_stays e refl)
    Spells-all (reserved_word r k e) = (reserved_word r k e, name_stays e refl)

    Runs-all : {o : ℕ} {qs : List (PieceOf Role)} {ps : Parts} {s e : S} {P : List Pair} → Runs base_ways S Next behind o qs ps s e P → Runs ways S Next behind o qs ps s e P × (some_has_later ps ≡ false)
    Runs-all done = (done, refl)
    Runs-all (step p d) = let u = Runs-all d in (step p u.0, u.1)
    Runs-all (opened p d) = let u = Runs-all d in (opened p u.0, u.1)
    Runs-all (closed p d) = let u = Runs-all d in (closed p u.0, u.1)
    Runs-all (within p d) = let u = Spells-all p in let v = Runs-all d in (within u.0 v.0, neither _ _ u.1 v.1)
    Runs-all (missing d) = let u = Runs-all d in (missing u.0, u.1)

  mutual
    unfolding has_later some_has_later

    Spells-base : {o : ℕ} {a : Role} {n : Tree} {s e : S} {P : List Pair} → has_later n ≡ false → Spells ways S Next behind o a n s e P → Spells base_ways S Next behind o a n s e P
    Spells-base {n = node k w g st en ps} b (direct qs h pl d) = direct qs (way_base (is_later (node k w g st en ps)) (not_first _ _ b) h) pl (Runs-base (not_second (is_later (node k w g st en ps)) _ b) d)
    Spells-base b (grouped p d q) = grouped p (Spells-base b d) q
    Spells-base b (reserved_key r k e) = reserved_key r k e
    Spells-base b (reserved_word r k e) = reserved_word r k e

    Runs-base : {o : ℕ} {qs : List (PieceOf Role)} {ps : Parts} {s e : S} {P : List Pair} → some_has_later ps ≡ false → Runs ways S Next behind o qs ps s e P → Runs base_ways S Next behind o qs ps s e P
    Runs-base b done = done
    Runs-base b (step p d) = step p (Runs-base b d)
    Runs-base b (opened p d) = opened p (Runs-base b d)
    Runs-base b (closed p d) = closed p (Runs-base b d)
    Runs-base b (within {n = n} p d) = within (Spells-base (not_first _ _ b) p) (Runs-base (not_second (has_later n) _ b) d)
    Runs-base b (missing d) = missing (Runs-base b d)

pub base_scripts_stay : BaseScriptsStay
base_scripts_stay o text n P = (λ d. (let u = Spells-all Token _ _ d.1 in ((d.0, u.0), u.1)), λ d. (d.0.0, Spells-base Token _ _ d.1 d.0.1))
