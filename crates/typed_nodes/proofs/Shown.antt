-- What a view shows of a part that must be there: there or missing.
use Rattle.std.proofs.Common.{◌≡◌, Option, Some, None, option_map, ap, ◌∙◌}
use Rattle.tree.specs.Tree.{Tree}
use Rattle.tree.specs.Fields.{with_one}

module _ {A : Type 0} where
  pub one-there : (o : Option Tree) (f : Tree → A) (a : Tree) (v : A) → Some a ≡ o → v ≡ f a → Some v ≡ with_one o f
  one-there o f a v h e = ap Some e ∙ ap (λ x. with_one x f) h

  pub one-missing : {B : Type 0} (s : B → A) (r : Option B) (o : Option Tree) (f : Tree → A) → r ≡ None → None ≡ o → option_map s r ≡ with_one o f
  one-missing s r o f e h = ap (option_map s) e ∙ ap (λ x. with_one x f) h
