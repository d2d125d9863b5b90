-- Trees without nodes of later languages: a node and its parts, lists of parts, and the pattern that an expression covers.
use Rattle.std.proofs.Common.{◌≡◌, ℕ, Bool, true, false, ◌||◌, not, List, refl, sym, ap, ◌∙◌}
use Rattle.std.proofs.lemmas.Bool.{false≢true}
use Rattle.tree.specs.declared.kind.Kind.{Kind}
use Rattle.tree.specs.declared.kind.Flags.{Flags}
use Rattle.tree.specs.declared.kind.Kind.TheVariants.{MetaProperty}
use Rattle.tree.specs.Tree.{Tree, node, Parts, none, part, gap, push, join, bare, bare_parts, text_of, SameTree}
use Rattle.language.specs.declared.Language.{Language}
use Rattle.language.specs.declared.Language.TheVariants.{Base, Script, Module}
use Rattle.language.specs.Languages.{is_tree_of}
use Rattle.language.specs.Vocabulary.{is}
use Rattle.language.specs.Later.{is_later, has_later, some_has_later}

pub neither : (a b : Bool) → a ≡ false → b ≡ false → (a || b) ≡ false
neither true b h k = h
neither false b h k = k

pub not_first : (a b : Bool) → (a || b) ≡ false → a ≡ false
not_first true b h = h
not_first false b h = refl

pub not_second : (a b : Bool) → (a || b) ≡ false → b ≡ false
not_second true b h = absurd (false≢true (sym h))
not_second false b h = h

-- a tree, and parts, of the base profile
pub record IsBase (tree : Tree) : Type 0 where
  pub none_later : has_later tree ≡ false

pub record AreBase (parts : Parts) : Type 0 where
  pub none_later : some_has_later parts ≡ false

-- a node is just where it is none of the later ones and its parts are
pub base_node : {k : Kind} {w : List ℕ} {g : Flags} {st en : ℕ} {ps : Parts} → is_later (node k w g st en ps) ≡ false → AreBase ps → IsBase (node k w g st en ps)
unfolding has_later some_has_later
base_node h l = record { none_later = neither _ _ h l.none_later }

pub base_kind : {k : Kind} {w : List ℕ} {g : Flags} {st en : ℕ} {ps : Parts} → IsBase (node k w g st en ps) → is_later (node k w g st en ps) ≡ false
unfolding has_later some_has_later
base_kind h = not_first _ _ h.none_later

pub base_parts : {k : Kind} {w : List ℕ} {g : Flags} {st en : ℕ} {ps : Parts} → IsBase (node k w g st en ps) → AreBase ps
unfolding has_later some_has_later
base_parts {k} {w} {g} {st} {en} {ps} h = record { none_later = not_second (is_later (node k w g st en ps)) _ h.none_later }

-- so with lists of parts
pub base_none : AreBase none
unfolding has_later some_has_later
base_none = record { none_later = refl }

pub base_part : {n : Tree} {ps : Parts} → IsBase n → AreBase ps → AreBase (part n ps)
unfolding has_later some_has_later
base_part h l = record { none_later = neither _ _ h.none_later l.none_later }

pub base_gap : {ps : Parts} → AreBase ps → AreBase (gap ps)
unfolding has_later some_has_later
base_gap h = record { none_later = h.none_later }

pub base_first : {n : Tree} {ps : Parts} → AreBase (part n ps) → IsBase n
unfolding has_later some_has_later
base_first h = record { none_later = not_first _ _ h.none_later }

pub base_others : {n : Tree} {ps : Parts} → AreBase (part n ps) → AreBase ps
unfolding has_later some_has_later
base_others {n} h = record { none_later = not_second (has_later n) _ h.none_later }

pub base_behind_gap : {ps : Parts} → AreBase (gap ps) → AreBase ps
unfolding has_later some_has_later
base_behind_gap h = record { none_later = h.none_later }

pub base_join : (ps qs : Parts) → AreBase ps → AreBase qs → AreBase (join ps qs)
base_join none qs h l = l
base_join (part n ps) qs h l = base_part (base_first h) (base_join ps qs (base_others h) l)
base_join (gap ps) qs h l = base_gap (base_join ps qs (base_behind_gap h) l)

pub join_base : (ps qs : Parts) → AreBase (join ps qs) → AreBase ps × AreBase qs
join_base none qs h = (base_none, h)
join_base (part n ps) qs h = let u = join_base ps qs (base_others h) in (base_part (base_first h) u.0, u.1)
join_base (gap ps) qs h = let u = join_base ps qs (base_behind_gap h) in (base_gap u.0, u.1)

pub base_push : (ps : Parts) (n : Tree) → AreBase ps → IsBase n → AreBase (push ps n)
base_push none n h l = base_part l base_none
base_push (part m ps) n h l = base_part (base_first h) (base_push ps n (base_others h) l)
base_push (gap ps) n h l = base_gap (base_push ps n (base_behind_gap h) l)

pub push_base : (ps : Parts) (n : Tree) → AreBase (push ps n) → AreBase ps × IsBase n
push_base none n h = (base_none, base_first h)
push_base (part m ps) n h = let u = push_base ps n (base_others h) in (base_part (base_first h) u.0, u.1)
push_base (gap ps) n h = let u = push_base ps n (base_behind_gap h) in (base_gap u.0, u.1)

-- places don't count
later_bare_kind : (k : Kind) (w : List ℕ) (g : Flags) (st en : ℕ) (ps : Parts) → is_later (node k w g 0 0 (bare_parts ps)) ≡ is_later (node k w g st en ps)
later_bare_kind MetaProperty w g st en none = refl
later_bare_kind MetaProperty w g st en (part (node k v f a b qs) ps) = refl
later_bare_kind MetaProperty w g st en (gap ps) = refl
later_bare_kind _ w g st en ps = refl

mutual
  unfolding has_later some_has_later

  pub later_bare : (n : Tree) → has_later (bare n) ≡ has_later n
  later_bare (node k w g st en ps) = (λ i. later_bare_kind k w g st en ps i || later_bare_parts ps i)

  later_bare_parts : (ps : Parts) → some_has_later (bare_parts ps) ≡ some_has_later ps
  later_bare_parts none = refl
  later_bare_parts (part n ps) = (λ i. later_bare n i || later_bare_parts ps i)
  later_bare_parts (gap ps) = later_bare_parts ps

text_bare : (n : Tree) → text_of (bare n) ≡ text_of n
text_bare (node k w g st en ps) = refl

tree_bare : (m : Language) (n : Tree) → is_tree_of m (bare n) ≡ is_tree_of m n
tree_bare Base n = ap not (later_bare n)
tree_bare Script n = ap (λ w. is w "2022") (text_bare n)
tree_bare Module n = ap (λ w. is w "module") (text_bare n)

-- nor for whose tree it is
pub same_language : (m : Language) (t n : Tree) → SameTree t n → is_tree_of m n ≡ true → is_tree_of m t ≡ true
same_language m t n h k = sym (tree_bare m t) ∙ (ap (is_tree_of m) h ∙ (tree_bare m n ∙ k))
