-- Rules in one pass find what each of them finds, in another order: once, for any list of rules.
use Rattle.std.proofs.Common.{◌≡◌, ℕ, ◌+◌, true, nat_eq, length, List, [], ◌∷◌, ◌++◌, refl, sym, ap, ◌∙◌, subst, append_assoc, IsPermutation}
use Rattle.std.proofs.lemmas.Bool.{eqb-true}
use Rattle.std.proofs.lemmas.List.{nil_from_length}
use Rattle.std.proofs.lemmas.List.Sorted.{IsPermutation-refl, IsPermutation-trans, IsPermutation-append, IsPermutation-append_left, IsPermutation-append_right, IsPermutation-append_comm}
use Rattle.scopes.specs.Bindings.{Binding}
use Rattle.scopes.specs.Found.{Found, Reference, Scope}
use Rattle.rule_words.specs.Reports.{Report}
use Rattle.reference_rules.specs.declared.reference_rule.Profile.{Profile}
use Rattle.reference_rules.specs.declared.reference_rule.ReferenceRule.{ReferenceRule}
use Rattle.reference_rules.specs.declared.reference_rule.Standing.{Standing}
use Rattle.reference_rules.specs.declared.reference_rule.Standing.TheVariants.{Again}
use Rattle.reference_rules.specs.Found.{by_declaration, by_reference, each, found_by_rule, found_by_rules, meant, over_declarations, over_references, over_scope, over_scopes, standing_in}
use Rattle.reference_rules.specs.Laws.{FindTogether}

equal-permutation : {X : Type 0} (xs ys : List X) → xs ≡ ys → IsPermutation xs ys
equal-permutation xs ys e = subst (IsPermutation xs) e (IsPermutation-refl xs)

-- the two in the middle change places
crossed : {X : Type 0} (a b c d : List X) → IsPermutation ((a ++ b) ++ (c ++ d)) ((a ++ c) ++ (b ++ d))
crossed a b c d =
    IsPermutation-trans _ _ _ (equal-permutation _ _ (append_assoc a b (c ++ d) ∙ ap (λ l. a ++ l) (sym (append_assoc b c d))))
    (IsPermutation-trans _ _ _ (IsPermutation-append_right a _ _ (IsPermutation-append_left d _ _ (IsPermutation-append_comm b c)))
    (equal-permutation _ _ (ap (λ l. a ++ l) (append_assoc c b d) ∙ sym (append_assoc a c (b ++ d)))))

each-append : {X : Type 0} (f : X → List Report) (xs ys : List X) → each f (xs ++ ys) ≡ each f xs ++ each f ys
each-append f [] ys = refl
each-append f (x ∷ xs) ys = ap (λ l. f x ++ l) (each-append f xs ys) ∙ sym (append_assoc (f x) (each f xs) (each f ys))

each-both : {X : Type 0} (f g : X → List Report) (xs : List X) → IsPermutation (each f xs ++ each g xs) (each (λ x. f x ++ g x) xs)
each-both f g [] = IsPermutation-refl []
each-both f g (x ∷ xs) = IsPermutation-trans _ _ _ (crossed (f x) (each f xs) (g x) (each g xs)) (IsPermutation-append_right (f x ++ g x) _ _ (each-both f g xs))

each-nothing : {X : Type 0} (xs : List X) → each (λ x. []) xs ≡ []
each-nothing [] = refl
each-nothing (x ∷ xs) = each-nothing xs

module _ (p : Profile) (rs qs : List ReferenceRule) where
  both-references : (ss : List Scope) (xs : List Reference) → IsPermutation (over_references p rs ss xs ++ over_references p qs ss xs) (over_references p (rs ++ qs) ss xs)
  both-references ss xs =
      subst (IsPermutation (over_references p rs ss xs ++ over_references p qs ss xs)) (λ i. each (λ r. sym (each-append (by_reference p r (meant ss r.meaning)) rs qs) i) xs)
      (each-both (λ r. each (by_reference p r (meant ss r.meaning)) rs) (λ r. each (by_reference p r (meant ss r.meaning)) qs) xs)

  both-declarations : (k : Standing) (bs : List Binding) → IsPermutation (over_declarations p rs k bs ++ over_declarations p qs k bs) (over_declarations p (rs ++ qs) k bs)
  both-declarations k bs =
      subst (IsPermutation (over_declarations p rs k bs ++ over_declarations p qs k bs)) (λ i. each (λ b. sym (each-append (by_declaration p k b) rs qs) i) bs)
      (each-both (λ b. each (by_declaration p k b) rs) (λ b. each (by_declaration p k b) qs) bs)

  both-scope : (k : Standing) (bs ds : List Binding) → IsPermutation (over_scope p rs k bs ds ++ over_scope p qs k bs ds) (over_scope p (rs ++ qs) k bs ds)
  both-scope k bs ds =
      IsPermutation-trans _ _ _ (crossed (over_declarations p rs k bs) (over_declarations p rs Again ds) (over_declarations p qs k bs) (over_declarations p qs Again ds))
      (IsPermutation-append _ _ _ _ (both-declarations k bs) (both-declarations Again ds))

  both-scopes : (n : ℕ) (ss : List Scope) → IsPermutation (over_scopes p rs n ss ++ over_scopes p qs n ss) (over_scopes p (rs ++ qs) n ss)
  both-scopes n [] = IsPermutation-refl []
  both-scopes n (s ∷ ss) =
      IsPermutation-trans _ _ _ (crossed (over_scope p rs (standing_in n) s.bindings s.redeclared) (over_scopes p rs (n + 1) ss) (over_scope p qs (standing_in n) s.bindings s.redeclared) (over_scopes p qs (n + 1) ss))
      (IsPermutation-append _ _ _ _ (both-scope (standing_in n) s.bindings s.redeclared) (both-scopes (n + 1) ss))

  -- two lists of rules, one behind the other
  pub both : (f : Found) → IsPermutation (found_by_rules p rs f ++ found_by_rules p qs f) (found_by_rules p (rs ++ qs) f)
  both f =
      IsPermutation-trans _ _ _ (crossed (over_references p rs f.scopes f.references) (over_scopes p rs 0 f.scopes) (over_references p qs f.scopes f.references) (over_scopes p qs 0 f.scopes))
      (IsPermutation-append _ _ _ _ (both-references f.scopes f.references) (both-scopes 0 f.scopes))

-- no rules find nothing
none-declared : (p : Profile) (n : ℕ) (ss : List Scope) → over_scopes p [] n ss ≡ []
none-declared p n [] = refl
none-declared p n (s ∷ ss) =
    ap (λ l. (l ++ over_declarations p [] Again s.redeclared) ++ over_scopes p [] (n + 1) ss) (each-nothing s.bindings) ∙ ap (λ l. l ++ over_scopes p [] (n + 1) ss) (each-nothing s.redeclared) ∙ none-declared p (n + 1) ss

none-found : (p : Profile) (f : Found) → found_by_rules p [] f ≡ []
none-found p f = ap (λ l. l ++ over_scopes p [] 0 f.scopes) (each-nothing f.references) ∙ none-declared p 0 f.scopes

pub no-rules : (p : Profile) (rules : List ReferenceRule) (f : Found) → nat_eq (length rules) 0 ≡ true → found_by_rules p rules f ≡ []
no-rules p rules f h = ap (λ rs. found_by_rules p rs f) (nil_from_length rules (eqb-true (length rules) 0 h)) ∙ none-found p f

pub together : FindTogether
together p [] f = equal-permutation [] (found_by_rules p [] f) (sym (none-found p f))
together p (r ∷ rs) f = IsPermutation-trans _ _ _ (IsPermutation-append_right (found_by_rule p r f) _ _ (together p rs f)) (both p (r ∷ []) rs f)
