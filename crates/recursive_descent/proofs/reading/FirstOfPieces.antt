-- Pieces that were read one behind the other, by the first of them.
use Rattle.std.proofs.Common.{◌≡◌, ℕ, ◌-◌, List, [], ◌∷◌, ◌++◌, refl, sym, ap, ◌∙◌, subst}
use Rattle.std.proofs.lemmas.List.{append-nil}
use Rattle.tree.specs.declared.kind.Pair.{Pair}
use Rattle.tree.specs.Tree.{Tree, Parts, none, part, gap, join}
use Rattle.tree.proofs.Shapes.{join-none}
use Rattle.language.specs.declared.Edge.{Edge}
use Rattle.language.specs.Pieces.{Role, PieceOf, sub}
use Rattle.language.specs.Token.{Token}
use Rattle.language.specs.Derivation.{within}
use Rattle.language.specs.Claims.{max_open}
use Rattle.token_cursor.specs.CursorState.{CursorState}
use Rattle.recursive_descent.specs.Soundness.{RunsIn, Adds, grouping}
use Rattle.recursive_descent.specs.SoundnessOfStatements.{OneMore, IsToken, IsGap}
use Rattle.token_cursor.specs.SourceText.{SourceText}
use Rattle.recursive_descent.specs.Spelled.{SpellsIn}

-- what a piece is from a place on, by where it ends, the right edge behind it, its parts and its pairs
abbrev pub Reading : Type 1
Reading = Token → Edge → Parts → List Pair → Type 0

module _ {F : Reading} {ps : Parts} {P : List Pair} where
  -- the last piece
  pub last_one : {e : Token} {z : Edge} → OneMore F (λ m y rest Q. (e ≡ m) × (z ≡ y) × (rest ≡ none) × (Q ≡ [])) ps P → F e z ps P
  last_one {e} {z} u =
      let parts : ps ≡ u.put = u.parts ∙ ap (join u.put) u.others.2 ∙ join-none u.put in
      let pairs : P ≡ u.put_pairs = u.pairs ∙ ap (λ x. u.put_pairs ++ x) u.others.3 ∙ append-nil u.put_pairs in
      subst (λ m. F m z ps P) (sym u.others.0) (subst (λ y. F u.mid y ps P) (sym u.others.1) (subst (λ k. F u.mid u.right k P) (sym parts) (subst (λ Q. F u.mid u.right u.put Q) (sym pairs) u.first)))

-- one more part, and the others behind it
pub record PartThen (Is : Tree → Token → Edge → List Pair → Type 0) (Others : Token → Edge → Parts → List Pair → Type 0) (ps : Parts) (P : List Pair) : Type 0 where
  pub item : Tree
  pub mid : Token
  pub right : Edge
  pub rest : Parts
  pub one : List Pair
  pub more : List Pair
  pub first : Is item mid right one
  pub others : Others mid right rest more
  pub parts : ps ≡ part item rest
  pub pairs : P ≡ one ++ more

-- a gap, and the others behind it
pub record GapThen (s : Token) (x : Edge) (Others : Token → Edge → Parts → List Pair → Type 0) (ps : Parts) (P : List Pair) : Type 0 where
  pub rest : Parts
  pub others : Others s x rest P
  pub parts : ps ≡ gap rest

-- nothing that is a part, and the others behind it
pub record TokenThen (Is : Token → Type 0) (x : Edge) (Others : Token → Edge → Parts → List Pair → Type 0) (ps : Parts) (P : List Pair) : Type 0 where
  pub mid : Token
  pub first : Is mid
  pub others : Others mid x ps P

module _ {First Others : Reading} {ps : Parts} {P : List Pair} (u : OneMore First Others ps P) where
  others_by : {m : Token} {y : Edge} {k : Parts} {Q : List Pair} → u.mid ≡ m → u.right ≡ y → u.rest ≡ k → u.more_pairs ≡ Q → Others m y k Q
  others_by {m} {y} {k} {Q} a b c d = subst (λ Q. Others m y k Q) d (subst (λ k. Others m y k u.more_pairs) c (subst (λ y. Others m y u.rest u.more_pairs) b (subst (λ m. Others m u.right u.rest u.more_pairs) a u.others)))

  -- tokens alone
  pub token_then : {Is : Token → Type 0} {x : Edge} → Is u.mid × IsToken x u.right u.put u.put_pairs → TokenThen Is x Others ps P
  token_then h = record {
    mid = u.mid;
    first = h.0;
    others = others_by refl h.1.0 (sym (u.parts ∙ ap (λ k. join k u.rest) h.1.1)) (sym (u.pairs ∙ ap (λ Q. Q ++ u.more_pairs) h.1.2));
  }

  -- a gap
  pub gap_then : {s : Token} {x : Edge} → IsGap s u.mid x u.right u.put u.put_pairs → GapThen s x Others ps P
  gap_then h = record {
    rest = u.rest;
    others = others_by h.0 h.1 refl (sym (u.pairs ∙ ap (λ Q. Q ++ u.more_pairs) h.3));
    parts = u.parts ∙ ap (λ k. join k u.rest) h.2;
  }

  -- a part
  pub part_then : {Is : Tree → Token → Edge → List Pair → Type 0} (n : Tree) → u.put ≡ part n none → Is n u.mid u.right u.put_pairs → PartThen Is Others ps P
  part_then n is h = record {
    item = n;
    mid = u.mid;
    right = u.right;
    rest = u.rest;
    one = u.put_pairs;
    more = u.more_pairs;
    first = h;
    others = u.others;
    parts = u.parts ∙ ap (λ k. join k u.rest) is;
    pairs = u.pairs;
  }

module _ (text : SourceText) {o : ℕ} where
  -- a part and the rest, whatever is known to be these
  pub part_runs : {a : Role} {qs rs : List (PieceOf Role)} {n : Tree} {rest ps : Parts} {s m e : Token} {one more P : List Pair} → rs ≡ sub a ∷ qs → ps ≡ part n rest → P ≡ one ++ more → SpellsIn text o a n s m one → RunsIn text o qs rest m e more → RunsIn text o rs ps s e P
  part_runs {a} {qs} {rs} {n} {rest} {ps} {s} {e = e} {P = P} told parts pairs d run =
      subst (λ x. RunsIn text o x ps s e P) (sym told) (subst (λ x. RunsIn text o (sub a ∷ qs) x s e P) (sym parts) (subst (λ x. RunsIn text o (sub a ∷ qs) (part n rest) s e x) (sym pairs) (within d run)))

-- Before what added nothing to the pairs, and as many are open as before.
pub adds_before : {s m e : CursorState} {old mid new : List Pair} {A B : ℕ → Token → Token → List Pair → Type 0} → Adds s m old mid A → e.opened ≡ m.opened → new ≡ mid → ((o : ℕ) (P : List Pair) → A o s.last m.last P → B o s.last e.last P) → Adds s e old new B
adds_before {s} a open_same same f = record {
  more = a.more;
  same_open = open_same ∙ a.same_open;
  pairs = same ∙ a.pairs;
  is = f (max_open - s.opened) (grouping a.more) a.is;
}
