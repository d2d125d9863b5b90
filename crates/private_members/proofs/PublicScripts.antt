-- Scripts without private names, of which nothing is reported.
use Rattle.std.proofs.Common.{◌≡◌, ℕ, suc, ◌+◌, ◌<◌, ◌≤◌, List, [], ◌∷◌, ◌++◌, Bool, true, false, Option, Some, None, length, drop, get_or, refl, sym, ap, ◌∙◌, add-one, append-nil}
use Rattle.std.specs.Prelude.{◌||◌, cond}
use Rattle.std.specs.List.{list_any, slice_get}
use Rattle.std.proofs.Math.Seq.{drop-cons}
use Rattle.std.proofs.lemmas.Bool.{false≢true}
use Rattle.std.proofs.lemmas.List.{drop_all}
use Rattle.std.proofs.lemmas.List.Folds.{list_any-append}
use Rattle.std.proofs.lemmas.Option.{get_or_from_slice_get, slice_get_within}
use Rattle.tree.specs.Flat.{parts_post_order, post_order}
use Rattle.tree.specs.Kinds.{is_private}
use Rattle.tree.specs.declared.kind.Form.{Form}
use Rattle.tree.specs.declared.kind.Kind.{Kind}
use Rattle.tree.specs.Tree.{Tree, node, Parts, none, part, gap, flags_of, kind_of, parts_of, part_at}
use Rattle.name_tables.specs.BoundNames.{each_part}
use Rattle.rule_words.specs.Reports.{Report}
use Rattle.private_members.specs.declared.standing.Standing.TheVariants.{Other}
use Rattle.private_members.specs.Found.{found, found_in, is_used, of_class, of_key, of_member}
use Rattle.private_members.specs.Sets.{has_private}
use Rattle.private_members.specs.Uses.{Use, if_private, is_class_body, private_key, uses_in}

none-true : (a b : Bool) → (a || b) ≡ false → (a ≡ false) × (b ≡ false)
none-true false b h = (refl, h)
none-true true b h = absurd (false≢true (sym h))

apart : (xs ys : List Tree) → has_private (xs ++ ys) ≡ false → (has_private xs ≡ false) × (has_private ys ≡ false)
apart xs ys h = none-true (has_private xs) (has_private ys) (sym (list_any-append (λ tree. is_private (kind_of tree)) xs ys) ∙ h)

-- a node among those below itself
itself : (t : Tree) → has_private (post_order t) ≡ false → is_private (kind_of t) ≡ false
itself (node k w g a b ps) h = (none-true (is_private k) false ((apart (parts_post_order ps) (node k w g a b ps ∷ []) h).1)).0

below : (t : Tree) → has_private (post_order t) ≡ false → has_private (parts_post_order (parts_of t)) ≡ false
below (node k w g a b ps) h = (apart (parts_post_order ps) (node k w g a b ps ∷ []) h).0

no-key : (ps : Parts) → has_private (parts_post_order ps) ≡ false → if_private (part_at ps 0) ≡ None
no-key none h = refl
no-key (part t ps) h = ap (λ b. cond b (Some t) None) (itself t ((apart (post_order t) (parts_post_order ps) h).0))
no-key (gap ps) h = refl

no-member : (used : Form → List ℕ → Bool) (t : Tree) → has_private (post_order t) ≡ false → of_member used t ≡ []
no-member used t h = ap (of_key used (flags_of t).form) (no-key (parts_of t) (below t h))

no-members : (used : Form → List ℕ → Bool) (ps : Parts) → has_private (parts_post_order ps) ≡ false → each_part (of_member used) ps ≡ []
no-members used none h = refl
no-members used (part t ps) h =
    let p = apart (post_order t) (parts_post_order ps) h in
    ap (λ l. l ++ each_part (of_member used) ps) (no-member used t p.0) ∙ no-members used ps p.1
no-members used (gap ps) h = no-members used ps h

either : (b : Bool) (xs : List Report) → xs ≡ [] → cond b xs [] ≡ []
either true xs h = h
either false xs h = refl

no-class : (k : Kind) (ps : Parts) (us : List Use) → has_private (parts_post_order ps) ≡ false → of_class k ps us ≡ []
no-class k ps us h = either (is_class_body k) (each_part (of_member (is_used us)) ps) (no-members (is_used us) ps h)

mutual
  unfolding found

  none-found : (t : Tree) → has_private (post_order t) ≡ false → found t ≡ []
  none-found (node k w g a b ps) h =
      let q = (apart (parts_post_order ps) (node k w g a b ps ∷ []) h).0 in
      ap (λ l. l ++ of_class k ps (uses_in Other k w 0 ps)) (none-found-in ps q) ∙ no-class k ps (uses_in Other k w 0 ps) q

  none-found-in : (ps : Parts) → has_private (parts_post_order ps) ≡ false → found_in ps ≡ []
  none-found-in none h = refl
  none-found-in (part t ps) h =
      let p = apart (post_order t) (parts_post_order ps) h in
      ap (λ l. l ++ found_in ps) (none-found t p.0) ∙ none-found-in ps p.1
  none-found-in (gap ps) h = none-found-in ps h

pub nothing-found : (t : Tree) (old : List Report) → has_private (post_order t) ≡ false → old ≡ old ++ found t
nothing-found t old h = sym (append-nil old) ∙ ap (λ l. old ++ l) (sym (none-found t h))

-- ---- the search, node by node

module _ (ts : List Tree) (i : ℕ) (total : Bool) (so : has_private (drop i ts) ≡ total) where
  step : (t : Tree) → slice_get ts i ≡ Some t → has_private (drop i ts) ≡ (is_private (kind_of t) || has_private (drop (i + 1) ts))
  step t e =
      rw (add-one i) (ap has_private (drop-cons ts i t (slice_get_within ts i t e)) ∙ ap (λ u. is_private (kind_of u) || has_private (drop (suc i) ts)) (get_or_from_slice_get ts i t t e))

  pub private-found : (t : Tree) → slice_get ts i ≡ Some t → is_private (kind_of t) ≡ true → true ≡ total
  private-found t e h = sym (ap (λ b. b || has_private (drop (i + 1) ts)) h) ∙ sym (step t e) ∙ so

  pub private-turn : (t : Tree) → slice_get ts i ≡ Some t → is_private (kind_of t) ≡ false → has_private (drop (i + 1) ts) ≡ total
  private-turn t e h = sym (ap (λ b. b || has_private (drop (i + 1) ts)) h) ∙ sym (step t e) ∙ so

  pub private-end : length ts ≤ i → false ≡ total
  private-end l = sym (ap has_private (drop_all i ts l)) ∙ so
