-- What is reported, as the pass goes over nodes.
use Rattle.std.proofs.Common.{◌≡◌, ℕ, suc, ◌+◌, ◌≤◌, Bool, true, false, List, [], ◌∷◌, ◌++◌, length, drop, Option, Some, None, refl, sym, ap, ◌∙◌, add-one, append_assoc, append-nil, map}
use Rattle.std.specs.Prelude.{◌&&◌, ◌||◌, cond, not, is_some}
use Rattle.std.specs.List.{slice_get}
use Rattle.std.specs.Str.{bytes_eq}
use Rattle.std.proofs.Math.Seq.{drop-cons}
use Rattle.std.proofs.lemmas.List.{drop_all}
use Rattle.std.proofs.lemmas.Option.{get_or_from_slice_get, slice_get_within}
use Rattle.rule_words.specs.Appends.{Grows}
use Rattle.rule_words.specs.Reports.{Report}
use Rattle.scopes.specs.Shown.{reference_shown}
use Rattle.scopes.specs.declared.binding.Reference.{Reference}
use Rattle.tree.specs.Tree.{Tree, kind_of, text_of, start_of, stop_of}
use Rattle.tree.specs.Kinds.{is_identifier}
use Rattle.reference_rules.specs.BuiltIn.{is_built_in_for}
use Rattle.native_prototypes.specs.Found.{called, extended_by, is_bound, is_capital, is_native, of_node, over_nodes, says}
use Rattle.native_prototypes.specs.Sets.{is_meant}

pub grown : (xs ys zs : List Report) → Grows xs ys → Grows ys zs → Grows xs zs
grown xs ys zs g h = (g.0 ++ h.0, h.1 ∙ ap (λ a. a ++ h.0) g.1 ∙ append_assoc xs g.0 h.0)

module _ (of_2022 : Bool) (bound : List ℕ → Bool) (ts : List Tree) (i : ℕ) (acc total : List Report) (so : acc ++ over_nodes of_2022 bound (drop i ts) ≡ total) where
  pub nodes-turn : (t : Tree) (new : List Report) → slice_get ts i ≡ Some t → new ≡ acc ++ of_node of_2022 bound t → new ++ over_nodes of_2022 bound (drop (i + 1) ts) ≡ total
  nodes-turn t new e n =
      rw (add-one i) (
      ap (λ a. a ++ over_nodes of_2022 bound (drop (suc i) ts)) n ∙ append_assoc acc (of_node of_2022 bound t) (over_nodes of_2022 bound (drop (suc i) ts))
      ∙ ap (λ u. acc ++ (of_node of_2022 bound u ++ over_nodes of_2022 bound (drop (suc i) ts))) (sym (get_or_from_slice_get ts i t t e))
      ∙ ap (λ us. acc ++ over_nodes of_2022 bound us) (sym (drop-cons ts i t (slice_get_within ts i t e))) ∙ so
      )

  pub nodes-end : length ts ≤ i → acc ≡ total
  nodes-end l = sym (append-nil acc) ∙ ap (λ us. acc ++ over_nodes of_2022 bound us) (sym (drop_all i ts l)) ∙ so

native-same : (of_2022 : Bool) (f g : List ℕ → Bool) → ((w : List ℕ) → f w ≡ g w) → (o : Option Tree) → is_native of_2022 f o ≡ is_native of_2022 g o
native-same of_2022 f g same None = refl
native-same of_2022 f g same (Some t) = ap (λ b. is_identifier (kind_of t) && (is_capital (text_of t) && (is_built_in_for of_2022 (text_of t) && not b))) (same (text_of t))

-- two sets that say the same of each name
pub nodes-same : (of_2022 : Bool) (f g : List ℕ → Bool) → ((w : List ℕ) → f w ≡ g w) → (ts : List Tree) → over_nodes of_2022 f ts ≡ over_nodes of_2022 g ts
nodes-same of_2022 f g same [] = refl
nodes-same of_2022 f g same (t ∷ ts) =
    ap (λ b. cond b (record { start = start_of t; stop = stop_of t; rule = called; text = says } ∷ []) [] ++ over_nodes of_2022 f ts) (native-same of_2022 f g same (extended_by t))
    ∙ ap (λ l. of_node of_2022 g t ++ l) (nodes-same of_2022 f g same ts)

-- references as they are shown
pub meant-shown : (rs : List Reference) (w : List ℕ) → is_meant rs w ≡ is_bound (map reference_shown rs) w
meant-shown [] w = refl
meant-shown (r ∷ rs) w = ap (λ b. (is_some r.meaning && bytes_eq w r.name.now) || b) (meant-shown rs w)

or-nothing : (b : Bool) → (b || false) ≡ b
or-nothing true = refl
or-nothing false = refl

pub meant-end : (rs : List Reference) (i : ℕ) (w : List ℕ) (old total : Bool) → length rs ≤ i → (old || is_meant (drop i rs) w) ≡ total → old ≡ total
meant-end rs i w old total l so = sym (or-nothing old) ∙ ap (λ ys. old || is_meant ys w) (sym (drop_all i rs l)) ∙ so
