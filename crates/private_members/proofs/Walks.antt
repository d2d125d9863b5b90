-- Uses and reports of a node and of its parts, as the walk goes over them.
use Rattle.std.proofs.Common.{◌≡◌, ℕ, ◌+◌, ◌<◌, ◌≤◌, List, [], ◌++◌, true, false, Option, Some, None, refl, sym, ap, ◌∙◌, append_assoc, append-nil, subst}
use Rattle.std.specs.Prelude.{cond}
use Rattle.tree.specs.declared.kind.Kind.{Kind}
use Rattle.tree.specs.declared.kind.Kind.TheVariants.{ClassBody}
use Rattle.tree.specs.Tree.{Tree, node, Parts, none, part, gap, kind_of, text_of, parts_of, part_at, part_count}
use Rattle.tree.proofs.PartWalk.{parts_drop, parts_drop-some, parts_drop-gap, parts_drop-past}
use Rattle.name_tables.specs.BoundNames.{each_part}
use Rattle.name_tables.specs.PatternParts.{at_part}
use Rattle.rule_words.specs.Appends.{Grows}
use Rattle.rule_words.specs.Reports.{Report}
use Rattle.private_members.specs.declared.standing.Standing.{Standing}
use Rattle.private_members.specs.declared.standing.Standing.TheVariants.{Other}
use Rattle.private_members.specs.Found.{found, found_in, is_used, of_class, of_member}
use Rattle.private_members.specs.Uses.{Use, declared_names, free, free_of, has_name, is_class_body, own_use, standing_at, uses_in, uses_of}

-- what is appended to a longer list is appended to the shorter one too
pub grown : (xs ys zs : List Report) → Grows xs ys → Grows ys zs → Grows xs zs
grown xs ys zs g h = (g.0 ++ h.0, h.1 ∙ ap (λ a. a ++ h.0) g.1 ∙ append_assoc xs g.0 h.0)

-- of a node, by its parts
uses-node : (s : Standing) (t : Tree) → uses_of s t ≡ own_use s (kind_of t) (text_of t) ++ free_of (kind_of t) (parts_of t) (uses_in s (kind_of t) (text_of t) 0 (parts_of t))
unfolding uses_of
uses-node s (node k w g a b ps) = refl

found-node : (t : Tree) → found t ≡ found_in (parts_of t) ++ of_class (kind_of t) (parts_of t) (uses_in Other (kind_of t) (text_of t) 0 (parts_of t))
unfolding found
found-node (node k w g a b ps) = refl

class-kind : (k : Kind) → is_class_body k ≡ true → k ≡ ClassBody
class-kind ClassBody e = refl
class-kind _ e = absurd (cc)

-- members stand in one way, however their class does
members-alike : (s : Standing) (w : List ℕ) (i : ℕ) (ps : Parts) → uses_in s ClassBody w i ps ≡ uses_in Other ClassBody w i ps
unfolding uses_of
members-alike s w i none = refl
members-alike s w i (part t ps) = ap (λ l. uses_of (standing_at Other ClassBody w i) t ++ l) (members-alike s w (i + 1) ps)
members-alike s w i (gap ps) = members-alike s w (i + 1) ps

class-uses : (s : Standing) (k : Kind) (w : List ℕ) (ps : Parts) → is_class_body k ≡ true → uses_in s k w 0 ps ≡ uses_in Other k w 0 ps
class-uses s k w ps h = subst (λ x. uses_in s x w 0 ps ≡ uses_in Other x w 0 ps) (sym (class-kind k h)) (members-alike s w 0 ps)

pub found-plain : (t : Tree) → is_class_body (kind_of t) ≡ false → (old new : List Report) → new ≡ old ++ found_in (parts_of t) → new ≡ old ++ found t
found-plain t h old new n =
    n ∙ ap (λ l. old ++ l) (sym (append-nil (found_in (parts_of t))))
    ∙ ap (λ b. old ++ (found_in (parts_of t) ++ cond b (each_part (of_member (is_used (uses_in Other (kind_of t) (text_of t) 0 (parts_of t)))) (parts_of t)) [])) (sym h) ∙ ap (λ l. old ++ l) (sym (found-node t))

module _ (s : Standing) (t : Tree) where
  abbrev below : List Use
  below = uses_in s (kind_of t) (text_of t) 0 (parts_of t)

  -- a node that is no class body
  pub uses-plain : is_class_body (kind_of t) ≡ false → (old own new : List Use) → own ≡ old ++ own_use s (kind_of t) (text_of t) → new ≡ own ++ uses_in s (kind_of t) (text_of t) 0 (parts_of t) → new ≡ old ++ uses_of s t
  uses-plain h old own new o n =
      n ∙ ap (λ l. l ++ below) o ∙ append_assoc old (own_use s (kind_of t) (text_of t)) below
      ∙ ap (λ b. old ++ (own_use s (kind_of t) (text_of t) ++ cond b (free (has_name (declared_names (parts_of t))) below) below)) (sym h) ∙ ap (λ l. old ++ l) (sym (uses-node s t))

  -- a class body
  pub uses-class : is_class_body (kind_of t) ≡ true → (old own inner new : List Use) → own ≡ old ++ own_use s (kind_of t) (text_of t) → inner ≡ uses_in s (kind_of t) (text_of t) 0 (parts_of t)
      → new ≡ own ++ free (has_name (declared_names (parts_of t))) inner → new ≡ old ++ uses_of s t
  uses-class h old own inner new o i n =
      n ∙ ap (λ l. own ++ free (has_name (declared_names (parts_of t))) l) i ∙ ap (λ l. l ++ free (has_name (declared_names (parts_of t))) below) o
      ∙ append_assoc old (own_use s (kind_of t) (text_of t)) (free (has_name (declared_names (parts_of t))) below)
      ∙ ap (λ b. old ++ (own_use s (kind_of t) (text_of t) ++ cond b (free (has_name (declared_names (parts_of t))) below) below)) (sym h) ∙ ap (λ l. old ++ l) (sym (uses-node s t))

  pub found-class : is_class_body (kind_of t) ≡ true → (old mid new : List Report) (inner : List Use) → mid ≡ old ++ found_in (parts_of t) → inner ≡ uses_in s (kind_of t) (text_of t) 0 (parts_of t)
      → new ≡ mid ++ each_part (of_member (is_used inner)) (parts_of t) → new ≡ old ++ found t
  found-class h old mid new inner m i n =
      let us = uses_in Other (kind_of t) (text_of t) 0 (parts_of t) in
      n ∙ ap (λ vs. mid ++ each_part (of_member (is_used vs)) (parts_of t)) (i ∙ class-uses s (kind_of t) (text_of t) (parts_of t) h) ∙ ap (λ l. l ++ each_part (of_member (is_used us)) (parts_of t)) m
      ∙ append_assoc old (found_in (parts_of t)) (each_part (of_member (is_used us)) (parts_of t))
      ∙ ap (λ b. old ++ (found_in (parts_of t) ++ cond b (each_part (of_member (is_used us)) (parts_of t)) [])) (sym h) ∙ ap (λ l. old ++ l) (sym (found-node t))

-- A turn of the loop over parts

further : {X : Type 0} (acc x rest all new total : List X) → new ≡ acc ++ x → all ≡ x ++ rest → acc ++ all ≡ total → new ++ rest ≡ total
further acc x rest all new total n e so = ap (λ l. l ++ rest) n ∙ append_assoc acc x rest ∙ ap (λ l. acc ++ l) (sym e) ∙ so

module _ (s : Standing) (k : Kind) (w : List ℕ) (ps : Parts) (i : ℕ) where
  uses-step : (o : Option Tree) → i < part_count ps → o ≡ part_at ps i → uses_in s k w i (parts_drop i ps) ≡ at_part (uses_of (standing_at s k w i)) o ++ uses_in s k w (i + 1) (parts_drop (i + 1) ps)
  unfolding uses_of
  uses-step (Some u) l e = ap (uses_in s k w i) (parts_drop-some ps i u e)
  uses-step None l e = ap (uses_in s k w i) (parts_drop-gap ps i e l)

  pub uses-turn : (o : Option Tree) (acc new total : List Use) → i < part_count ps → o ≡ part_at ps i → new ≡ acc ++ at_part (uses_of (standing_at s k w i)) o
      → acc ++ uses_in s k w i (parts_drop i ps) ≡ total → new ++ uses_in s k w (i + 1) (parts_drop (i + 1) ps) ≡ total
  uses-turn o acc new total l e n so = further acc (at_part (uses_of (standing_at s k w i)) o) (uses_in s k w (i + 1) (parts_drop (i + 1) ps)) (uses_in s k w i (parts_drop i ps)) new total n (uses-step o l e) so

  pub uses-end : (acc total : List Use) → part_count ps ≤ i → acc ++ uses_in s k w i (parts_drop i ps) ≡ total → acc ≡ total
  unfolding uses_of
  uses-end acc total l so = sym (append-nil acc) ∙ ap (λ ys. acc ++ ys) (sym (ap (uses_in s k w i) (parts_drop-past ps i l))) ∙ so

module _ (ps : Parts) (i : ℕ) where
  found-step : (o : Option Tree) → i < part_count ps → o ≡ part_at ps i → found_in (parts_drop i ps) ≡ at_part found o ++ found_in (parts_drop (i + 1) ps)
  unfolding found
  found-step (Some u) l e = ap found_in (parts_drop-some ps i u e)
  found-step None l e = ap found_in (parts_drop-gap ps i e l)

  pub found-turn : (o : Option Tree) (acc new total : List Report) → i < part_count ps → o ≡ part_at ps i → new ≡ acc ++ at_part found o → acc ++ found_in (parts_drop i ps) ≡ total → new ++ found_in (parts_drop (i + 1) ps) ≡ total
  found-turn o acc new total l e n so = further acc (at_part found o) (found_in (parts_drop (i + 1) ps)) (found_in (parts_drop i ps)) new total n (found-step o l e) so

  pub found-end : (acc total : List Report) → part_count ps ≤ i → acc ++ found_in (parts_drop i ps) ≡ total → acc ≡ total
  unfolding found
  found-end acc total l so = sym (append-nil acc) ∙ ap (λ ys. acc ++ ys) (sym (ap found_in (parts_drop-past ps i l))) ∙ so
