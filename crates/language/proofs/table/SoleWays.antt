-- Where only one way is possible at a place: from what is found of its parts to what is found of the node.
use Rattle.std.proofs.Common.{◌≡◌, ℕ, List, refl, sym, ap, ◌∙◌, subst}
use Rattle.tree.specs.declared.kind.Kind.{Kind}
use Rattle.tree.specs.declared.kind.Flags.{Flags}
use Rattle.tree.specs.declared.kind.Pair.{Pair}
use Rattle.tree.specs.Tree.{Tree, node, Parts}
use Rattle.language.specs.Pieces.{Role, PieceOf}
use Rattle.language.specs.Token.{Token}
use Rattle.language.specs.Promises.{IsDetermined, FoundAt, FoundParts}
use Rattle.language.specs.Following.{FoundWhere, FoundPartsWhere}
use Rattle.language.specs.Grammar.{ways}
use Rattle.language.specs.Derivation.{Spells, Runs, Placed, placed, place}
use Rattle.language.proofs.climbing.BinaryTurns.{same_node}

-- whatever follows
abbrev pub Anyhow : {X Y : Type 0} → X → Y → Type 0
Anyhow x y = Unit {0}

module _ (S : Type 0) (Next : S → Token → S → Type 0) (behind : S → Token) (det : IsDetermined S Next behind) where
  -- the node that is spelled, with its parts, over which the pieces run from m on
  pub record Told (o : ℕ) (a : Role) (k : Kind) (w : List ℕ) (g : Flags) (m : S) (tail : Parts → List (PieceOf Role)) (n : Tree) (s e : S) (P : List Pair) : Type 0 where
    pub st : ℕ
    pub en : ℕ
    pub parts : Parts
    pub tree : n ≡ node k w g st en parts
    pub placed : Placed S Next behind a n s e
    pub runs : Runs ways S Next behind o (tail parts) parts m e P

  -- What is spelled here, with what may follow, has this kind, text and flags, and the pieces run over its parts from m on; and where
  -- they run, it is spelled.
  pub record Sole (Fine : Tree → S → Type 0) (a : Role) (k : Kind) (w : List ℕ) (g : Flags) (s m : S) (tail : Parts → List (PieceOf Role)) : Type 0 where
    pub spans : (t l : Token) → place a t l ≡ (t.start, l.stop)
    pub told : {o : ℕ} {n : Tree} {e : S} {P : List Pair} → Spells ways S Next behind o a n s e P → Fine n e → Told o a k w g m tail n s e P
    pub spells : {o st en : ℕ} {ps : Parts} {e : S} {P : List Pair} → Placed S Next behind a (node k w g st en ps) s e → Runs ways S Next behind o (tail ps) ps m e P → Spells ways S Next behind o a (node k w g st en ps) s e P

  -- the places of a node are those of its first and its last token
  pub same_span : {a : Role} {k k' : Kind} {w w' : List ℕ} {g g' : Flags} {st st' en en' : ℕ} {ps ps' : Parts} {s e e' : S} → ((t l : Token) → place a t l ≡ (t.start, l.stop)) → Placed S Next behind a (node k w g st en ps) s e →
      Placed S Next behind a (node k' w' g' st' en' ps') s e' → e ≡ e' → (st ≡ st') × (en ≡ en')
  same_span {s = s} {e = e} {e' = e'} spans (placed {t = t} {m = m} nx p) (placed {t = t'} {m = m'} nx' p') h =
      let u = sym (spans t (behind e)) ∙ p in
      let v = sym (spans t' (behind e')) ∙ p' in
      (sym (ap (λ (v : ℕ × ℕ). v.0) u) ∙ det.start s t t' m m' nx nx' ∙ ap (λ (v : ℕ × ℕ). v.0) v, sym (ap (λ (v : ℕ × ℕ). v.1) u) ∙ ap (λ v. (behind v).stop) h ∙ ap (λ (v : ℕ × ℕ). v.1) v)

  -- the place of a node from a token that is read where it begins
  pub place_node : {a : Role} {k : Kind} {w : List ℕ} {g : Flags} {ps : Parts} {s m e : S} {t : Token} → ((t l : Token) → place a t l ≡ (t.start, l.stop)) → Next s t m → Placed S Next behind a (node k w g t.start (behind e).stop ps) s e
  place_node {e = e} {t = t} spans nx = placed nx (spans t (behind e))

  module _ {Fine : Tree → S → Type 0} {a : Role} {k : Kind} {w : List ℕ} {g : Flags} {s m : S} {tail : Parts → List (PieceOf Role)} (sole : Sole Fine a k w g s m tail) where
    -- where its parts are found, the node is
    pub sole_found : {FineParts : Parts → S → Type 0} {o st en : ℕ} {ps : Parts} {e : S} {P : List Pair} → ((st en : ℕ) (ps : Parts) (e : S) → Fine (node k w g st en ps) e → FineParts ps e) → FoundPartsWhere S Next behind FineParts o tail m e ps P →
        Placed S Next behind a (node k w g st en ps) s e → FoundWhere S Next behind Fine o a s e (node k w g st en ps) P
    sole_found {FineParts} {o} {st} {en} {ps} {e} {P} turn found pl = record {
      spelled = sole.spells pl found.runs;
      only = λ o' e' n' P' d fine.
          let u = sole.told d fine in
          let same = found.only o' e' u.parts P' u.runs (turn u.st u.en u.parts e' (subst (λ v. Fine v e') u.tree fine)) in
          let span = same_span sole.spans (subst (λ v. Placed S Next behind a v s e') u.tree u.placed) pl same.0 in
          (same.0, u.tree ∙ same_node refl refl refl span.0 span.1 same.1, same.2);
    }

  -- whatever may follow, less may follow
  module _ {Fine : Tree → S → Type 0} {a : Role} {s : S} where
    pub found_where : {o : ℕ} {e : S} {n : Tree} {P : List Pair} → FoundAt S Next behind o a s e n P → FoundWhere S Next behind Fine o a s e n P
    found_where u = record { spelled = u.spelled; only = λ o' e' n' P' d fine. u.only o' e' n' P' d }

  module _ {Fine : Parts → S → Type 0} {pieces : Parts → List (PieceOf Role)} {s : S} where
    pub parts_where : {o : ℕ} {e : S} {ps : Parts} {P : List Pair} → FoundParts S Next behind o pieces s e ps P → FoundPartsWhere S Next behind Fine o pieces s e ps P
    parts_where u = record { runs = u.runs; only = λ o' e' ps' P' d fine. u.only o' e' ps' P' d }

  -- where only one way is possible whatever follows
  module _ {a : Role} {k : Kind} {w : List ℕ} {g : Flags} {s m : S} {tail : Parts → List (PieceOf Role)} (sole : Sole Anyhow a k w g s m tail) where
    pub sole_found_at : {o st en : ℕ} {ps : Parts} {e : S} {P : List Pair} → FoundParts S Next behind o tail m e ps P → Placed S Next behind a (node k w g st en ps) s e → FoundAt S Next behind o a s e (node k w g st en ps) P
    sole_found_at found pl = let u = sole_found sole {FineParts = Anyhow} (λ st en ps e h. tt) (parts_where found) pl in record { spelled = u.spelled; only = λ o' e' n' P' d. u.only o' e' n' P' d tt }
