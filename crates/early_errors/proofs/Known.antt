-- What the walk's tables know of what holds beside a node, and beside its parts.
use Rattle.std.proofs.Common.{◌≡◌, ℕ, Bool, true, cond, List, [], ◌∷◌, ◌++◌, Option, Some, None, is_some, refl, sym, ap, ◌∙◌}
use Rattle.std.specs.Prelude.{◌||◌}
use Rattle.std.specs.Str.{bytes_eq}
use Rattle.std.proofs.lemmas.Slice.Eq.{bytes_eq-Decides}
use Rattle.tree.specs.Tree.{Parts}
use Rattle.name_tables.specs.Tables.{Agree, with_value}
use Rattle.name_tables.proofs.Undone.{restored}
use Rattle.early_errors.specs.declared.profile.Language.{Language}
use Rattle.early_errors.specs.Around.{Label, own_label}
use Rattle.early_errors.specs.Owns.{Beside, Declares, Knows, Labelled, label_of, or_false, program_beside, unlabelled}

-- beside a Program
pub known_program : (f : List ℕ → Option Bool) (p : List ℕ → Option (Unit {0})) (l : Language) → Agree f (λ w. None) → Agree p (λ w. None) → Knows f p l (program_beside l)
known_program f p l a b = record { labelled = a; private = λ w. ap is_some (b w); of_2022 = refl; in_module = refl }

-- other tables that agree with them
pub known_still : (f g : List ℕ → Option Bool) (p q : List ℕ → Option (Unit {0})) (l m : Language) (r : Beside) → Agree g f → Agree q p → m ≡ l → Knows f p l r → Knows g q m r
known_still f g p q l m r a b e k = record {
  labelled = λ w. a w ∙ k.labelled w;
  private = λ w. ap is_some (b w) ∙ k.private w;
  of_2022 = ap (λ x. x.is_2022) e ∙ k.of_2022;
  in_module = ap (λ x. x.is_module) e ∙ k.in_module;
}

-- without labels
pub known_unlabelled : (f g : List ℕ → Option Bool) (p : List ℕ → Option (Unit {0})) (l : Language) (r : Beside) → Agree g (λ w. None) → Knows f p l r → Knows g p l (unlabelled r)
known_unlabelled f g p l r a k = record { labelled = a; private = k.private; of_2022 = k.of_2022; in_module = k.in_module }

-- with a label more
pub known_labelled : (f g : List ℕ → Option Bool) (p : List ℕ → Option (Unit {0})) (l : Language) (r : Beside) (ps : Parts) → ((w : List ℕ) → g w ≡ label_of (own_label ps r.labels) w) → Knows f p l r →
    Knows g p l (record r { labels = own_label ps r.labels })
known_labelled f g p l r ps a k = record { labelled = a; private = k.private; of_2022 = k.of_2022; in_module = k.in_module }

-- with the private names of a class
pub known_class : (f : List ℕ → Option Bool) (p q : List ℕ → Option (Unit {0})) (l : Language) (r : Beside) (ws : List (List ℕ)) → Declares q (ws ++ r.privates) → Knows f p l r →
    Knows f q l (record r { privates = ws ++ r.privates })
known_class f p q l r ws a k = record { labelled = k.labelled; private = a; of_2022 = k.of_2022; in_module = k.in_module }

no_labels : (ls : List Label) → ((w : List ℕ) → label_of ls w ≡ None) → ls ≡ []
no_labels [] h = refl
no_labels (l ∷ ls) h =
    let same : bytes_eq l.0 l.0 ≡ true = (bytes_eq-Decides l.0 l.0).1 refl in
    let given : Some (l.1 || or_false (label_of ls l.0)) ≡ None = sym (ap (λ b. cond b (Some (l.1 || or_false (label_of ls l.0))) (label_of ls l.0)) same) ∙ h l.0 in
    absurd (cc)

-- where a table knows no label there is none
pub known_none : (f : List ℕ → Option Bool) (r : Beside) → Labelled f r → Agree f (λ w. None) → r.labels ≡ []
known_none f r k a = no_labels r.labels (λ w. sym (k w) ∙ a w)

-- a label that stood in a table for a while
pub restored_as : (f f' g h k : List ℕ → Option Bool) (n : List ℕ) (v r : Option Bool) → Agree f' f → v ≡ f n → Agree g (with_value f' n r) → Agree h g → Agree k (with_value h n v) → Agree k f
restored_as f f' g h k n v r s e a b c w = restored f' g h k n v r (e ∙ sym (s n)) a b c w ∙ s w
