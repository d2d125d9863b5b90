-- What a key is drawn from, node by node and part by part.
use Rattle.std.proofs.Common.{◌≡◌, ℕ, suc, ◌+◌, ◌<◌, ◌≤◌, List, ◌∷◌, ◌++◌, length, drop, Option, Some, sym, ap, ◌∙◌, add-one}
use Rattle.std.specs.List.{slice_get}
use Rattle.std.proofs.Math.Seq.{drop-cons}
use Rattle.std.proofs.lemmas.List.{drop_all}
use Rattle.std.proofs.lemmas.List.Sums.{fold-append}
use Rattle.std.proofs.lemmas.Option.{get_or_from_slice_get, slice_get_within}
use Rattle.std.specs.declared.hash.DefaultHasher.{DefaultHasher}
use Rattle.tree.specs.Tree.{Tree, Parts, part_at, part_count, parts_drop}
use Rattle.name_tables.specs.PatternParts.{at_part}
use Rattle.name_tables.specs.BoundNames.{each_part}
use Rattle.name_tables.specs.Keys.{among_each, declarable_among, identifier_name, read_name, read_names}
use Rattle.name_tables.proofs.EachPart as each

-- what was read, and then the rest
further : (h k total : DefaultHasher) (old new rest : List (List ℕ)) → k ≡ read_names h new → old ≡ new ++ rest → read_names h old ≡ total → read_names k rest ≡ total
further h k total old new rest r e so = ap (λ x. read_names x rest) r ∙ sym (fold-append read_name h new rest) ∙ sym (ap (read_names h) e) ∙ so

module _ (ps : Parts) (i : ℕ) (h total : DefaultHasher) (so : read_names h (each_part identifier_name (parts_drop i ps)) ≡ total) where
  pub part-turn : (o : Option Tree) (k : DefaultHasher) → i < part_count ps → o ≡ part_at ps i → k ≡ read_names h (at_part identifier_name o) → read_names k (each_part identifier_name (parts_drop (i + 1) ps)) ≡ total
  part-turn o k l e r = further h k total _ (at_part identifier_name o) _ r (each.drop-step identifier_name ps i o l e) so

  pub part-end : part_count ps ≤ i → h ≡ total
  part-end l = sym (ap (read_names h) (each.drop-past identifier_name ps i l)) ∙ so

module _ (ts : List Tree) (i : ℕ) (h total : DefaultHasher) (so : read_names h (among_each (drop i ts)) ≡ total) where
  pub node-turn : (t : Tree) (k : DefaultHasher) → slice_get ts i ≡ Some t → k ≡ read_names h (declarable_among t) → read_names k (among_each (drop (i + 1) ts)) ≡ total
  node-turn t k e r =
      let at : drop i ts ≡ t ∷ drop (suc i) ts = drop-cons ts i t (slice_get_within ts i t e) ∙ ap (λ u. u ∷ drop (suc i) ts) (get_or_from_slice_get ts i t t e) in
      rw (add-one i) (further h k total _ (declarable_among t) _ r (ap among_each at) so)

  pub node-end : length ts ≤ i → h ≡ total
  node-end l = sym (ap (λ us. read_names h (among_each us)) (drop_all i ts l)) ∙ so
