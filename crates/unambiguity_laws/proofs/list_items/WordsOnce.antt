-- Names, private names and strings that stand alone are the only ones at their place.
use Rattle.std.proofs.Common.{◌≡◌, ℕ, List, refl, sym, ap, ◌∙◌, subst}
use Rattle.tokens.specs.declared.token.Goal.TheVariants.{Div}
use Rattle.tree.specs.declared.kind.Kind.TheVariants.{Identifier}
use Rattle.tree.specs.declared.kind.Pair.{Pair}
use Rattle.tree.specs.Tree.{Tree, node, none, plain}
use Rattle.language.specs.Pieces.{word, private_name}
use Rattle.language.specs.Token.{Token}
use Rattle.language.specs.Promises.{is_free, IsDetermined, FoundAt}
use Rattle.language.specs.Grammar.{ways}
use Rattle.language.specs.Derivation.{Spells}
use Rattle.language.proofs.climbing.BinaryTurns.{same_node}
use Rattle.language.proofs.climbing.Leaves.{word_form, word_found, private_form}

module _ (S : Type 0) (Next : S → Token → S → Type 0) (behind : S → Token) (det : IsDetermined S Next behind) where
  -- a word
  pub word_unique : {o : ℕ} {n : Tree} {s e : S} {P : List Pair} → Spells ways S Next behind o word n s e P → FoundAt S Next behind o word s e n P
  word_unique {o} {n} {s} {e} {P} d =
      let u = word_form S Next behind det d in
      subst (λ w. FoundAt S Next behind o word s e w P) (sym u.tree) (subst (λ w. FoundAt S Next behind o word s e (node Identifier u.text plain u.sign.start (behind e).stop none) w) (sym u.pairs) (word_found S Next behind det u.is_word u.reads))

  -- a private name
  pub private_unique : {o : ℕ} {n : Tree} {s e : S} {P : List Pair} → Spells ways S Next behind o private_name n s e P → FoundAt S Next behind o private_name s e n P
  private_unique {o} {n} {s} {e} {P} d =
      let u = private_form S Next behind det d in
      record {
        spelled = d;
        only = λ o' e' n' P' d'.
            let v = private_form S Next behind det d' in
            let same = det.same Div s v.sign u.sign e' e v.reads.next u.reads.next (det.free Div s v.sign e' v.reads.next (ap is_free v.reads.class)) (det.free Div s u.sign e u.reads.next (ap is_free u.reads.class)) in
            let whole = sym v.reads.text ∙ ap (λ (x : Token). x.text) same.0 ∙ u.reads.text in
            let text : v.text ≡ u.text = cc in
            (same.1, v.tree ∙ same_node refl text refl (ap (λ (x : Token). x.start) same.0) (ap (λ x. (behind x).stop) same.1) refl ∙ sym u.tree, v.pairs ∙ sym u.pairs);
      }
