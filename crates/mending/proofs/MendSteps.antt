-- Steps of the comparison of two trees.
use Rattle.std.proofs.Common.{◌≡◌, ◌+◌, ◌<◌, ◌≤◌, ℕ, zero, suc, true, List, [], Option, Some, None, refl, sym, ap, ◌∙◌, subst, arith, add-one}
use Rattle.tree.specs.declared.kind.Kind.{Kind}
use Rattle.tree.specs.declared.kind.Kind.TheVariants.{BlockStatement}
use Rattle.tree.specs.Tree.{Tree, node, Parts, none, part, gap, kind_of, text_of, flags_of, parts_of, part_count, part_at, parts_drop, maybe, plain, node_total, parts_total}
use Rattle.std.specs.Prelude.{IfSome, option_map}
use Rattle.tree.specs.declared.node.Node.{Node}
use Rattle.tree.specs.Node.{node_tree}
use Rattle.mending.specs.declared.change.Change.{Change}
use Rattle.mending.specs.declared.change.MendRule.{MendRule}
use Rattle.mending.specs.declared.label.Label.{Label}
use Rattle.mending.specs.Changes.{change, first_of, is_wrapped}
use Rattle.mending.specs.Mends.{is_asked, Mends, MendsParts, kept, changed, all, one, hole, wrapped, gone}
use Rattle.mending.specs.Making.{is_made, Leads, labelled, MendsPart, GoesPart, HasLabel, TakesPlace, BeginsParts, IsBlockOf, AreLeft}

-- ---- parts from a place on

pub drop_some : (ps : Parts) (i : ℕ) (u : Tree) → Some u ≡ part_at ps i → parts_drop i ps ≡ part u (parts_drop (suc i) ps)
drop_some none i u h = absurd (cc)
drop_some (part t ps) zero u h = let same : t ≡ u = cc in ap (λ v. part v ps) same
drop_some (part t ps) (suc i) u h = drop_some ps i u h
drop_some (gap ps) zero u h = absurd (cc)
drop_some (gap ps) (suc i) u h = drop_some ps i u h

drop_gap : (ps : Parts) (i : ℕ) → None ≡ part_at ps i → i < part_count ps → parts_drop i ps ≡ gap (parts_drop (suc i) ps)
drop_gap none i h l = absurd (omega (arith, l))
drop_gap (part t ps) zero h l = absurd (cc)
drop_gap (part t ps) (suc i) h l = drop_gap ps i h (omega (arith, l))
drop_gap (gap ps) zero h l = refl
drop_gap (gap ps) (suc i) h l = drop_gap ps i h (omega (arith, l))

pub drop_past : (ps : Parts) (i : ℕ) → part_count ps ≤ i → parts_drop i ps ≡ none
drop_past none zero h = refl
drop_past none (suc i) h = refl
drop_past (part t ps) zero h = absurd (omega (arith, h))
drop_past (part t ps) (suc i) h = drop_past ps i (omega (arith, h))
drop_past (gap ps) zero h = absurd (omega (arith, h))
drop_past (gap ps) (suc i) h = drop_past ps i (omega (arith, h))

drop_total : (ps : Parts) (i : ℕ) → parts_total (parts_drop i ps) ≤ parts_total ps
drop_total ps zero = omega arith
drop_total none (suc i) = omega arith
drop_total (part t ps) (suc i) = omega (arith, drop_total ps i)
drop_total (gap ps) (suc i) = omega (arith, drop_total ps i)

-- the parts of a node from a place on have fewer nodes than it
pub drop_smaller : (n : Tree) (i : ℕ) → parts_total (parts_drop i (parts_of n)) < node_total n
drop_smaller (node k w g s e ps) i = omega (arith, drop_total ps i)

pub total_at : (ps : Parts) (i : ℕ) (u : Tree) → Some u ≡ part_at ps i → node_total u ≤ parts_total ps
total_at none i u h = absurd (cc)
total_at (part t ps) zero u h = let same : t ≡ u = cc in omega (arith, ap node_total same)
total_at (part t ps) (suc i) u h = omega (arith, total_at ps i u h)
total_at (gap ps) zero u h = absurd (cc)
total_at (gap ps) (suc i) u h = total_at ps i u h

pub part_smaller : (n u : Tree) (i : ℕ) → Some u ≡ part_at (parts_of n) i → node_total u < node_total n
part_smaller (node k w g s e ps) u i h = omega (arith, total_at ps i u h)

-- the nodes of a part that may be missing
abbrev pub optional_total : Option Tree → ℕ
optional_total None = 0
optional_total (Some t) = node_total t

pub optional_at : (ps : Parts) (i : ℕ) (o : Option Tree) → o ≡ part_at ps i → optional_total o ≤ parts_total ps
optional_at ps i None h = omega arith
optional_at ps i (Some u) h = total_at ps i u h

pub optional_smaller : (n : Tree) (i : ℕ) (o : Option Tree) → o ≡ part_at (parts_of n) i → optional_total o < node_total n
optional_smaller (node k w g s e ps) i o h = omega (arith, optional_at ps i o h)

pub ruleset part_steps = (part_smaller, optional_smaller)

-- ---- labels

pub leads_by : (changes : List Change) (n c : Tree) (rule : MendRule) → is_asked (is_made changes) rule n ≡ true → Some c ≡ change rule n → Leads changes n c
leads_by changes n c rule a e m h = changed rule a e h

labelled_mends : (changes : List Change) (n m : Tree) (label : Label) → Leads changes n (labelled n label) → HasLabel m (kind_of n) label →
    MendsParts (is_made changes) (kind_of n) (parts_drop label.first (parts_of n)) (parts_of m) → Mends (is_made changes) n m
labelled_mends changes (node k w g s e ps) (node l v f t u qs) label leads same parts =
    leads (node l v f t u qs)
    (subst (λ z. Mends (is_made changes) (node k label.text.now label.flags s e (parts_drop label.first ps)) (node z v f t u qs)) same.kinds
    (subst (λ z. Mends (is_made changes) (node k label.text.now label.flags s e (parts_drop label.first ps)) (node k z f t u qs)) same.text
    (subst (λ z. Mends (is_made changes) (node k label.text.now label.flags s e (parts_drop label.first ps)) (node k label.text.now z t u qs)) same.flags (kept parts))))

pub mends_labelled : (changes : List Change) (n m : Tree) (label : Label) (kind : Kind) (ps qs : Parts) → kind ≡ kind_of n → ps ≡ parts_drop label.first (parts_of n) → qs ≡ parts_of m → Leads changes n (labelled n label) → HasLabel m kind label →
    MendsParts (is_made changes) kind ps qs → Mends (is_made changes) n m
mends_labelled changes n m label kind ps qs a b c leads same parts =
    labelled_mends changes n m label leads (subst (λ k. HasLabel m k label) a same)
    (subst (λ k. MendsParts (is_made changes) k (parts_drop label.first (parts_of n)) (parts_of m)) a (subst (λ z. MendsParts (is_made changes) kind z (parts_of m)) b (subst (λ z. MendsParts (is_made changes) kind ps z) c parts)))

-- ---- lists of parts

pub begins_alike : (changes : List Change) (kind : Kind) (o p : Option Tree) → MendsPart changes o p → BeginsParts changes kind o p
begins_alike changes kind None None g ps qs h = hole h
begins_alike changes kind (Some n) (Some m) g ps qs h = one g h
begins_alike changes kind None (Some m) g ps qs h = absurd g
begins_alike changes kind (Some n) None g ps qs h = absurd g

one_part : (ps : Parts) (n : Tree) → part_count ps ≡ 1 → Some n ≡ part_at ps 0 → ps ≡ part n none
one_part none n c e = absurd (cc)
one_part (gap ps) n c e = absurd (cc)
one_part (part t none) n c e = let same : t ≡ n = cc in ap (λ v. part v none) same
one_part (part t (part u ps)) n c e = absurd (omega (arith, c))
one_part (part t (gap ps)) n c e = absurd (omega (arith, c))

pub begins_wrapped : (changes : List Change) (kind : Kind) (n inner after : Tree) (rule : MendRule) → is_wrapped rule kind n ≡ true → is_asked (is_made changes) rule n ≡ true → IsBlockOf inner after → Mends (is_made changes) n inner → BeginsParts changes kind (Some n) (Some after)
begins_wrapped changes kind n inner (node l v f t u qs) rule is asked block g ps rest h =
    subst (λ z. MendsParts (is_made changes) kind (part n ps) (part (node z v f t u qs) rest)) block.block.kinds
    (subst (λ z. MendsParts (is_made changes) kind (part n ps) (part (node BlockStatement z f t u qs) rest)) block.block.text
    (subst (λ z. MendsParts (is_made changes) kind (part n ps) (part (node BlockStatement [] z t u qs) rest)) block.block.flags
    (subst (λ z. MendsParts (is_made changes) kind (part n ps) (part (node BlockStatement [] plain t u z) rest)) (sym (one_part qs inner block.block.count block.at)) (wrapped rule is asked g h))))

module _ (changes : List Change) (kind : Kind) (ps qs : Parts) where
  -- a part goes
  pub left_gone : (i j : ℕ) (o : Option Tree) → o ≡ part_at ps i → GoesPart changes kind o → AreLeft changes kind ps qs i j → AreLeft changes kind ps qs (i + 1) j
  left_gone i j None e g left h = absurd g
  left_gone i j (Some n) e g left h =
      left (subst (λ z. MendsParts (is_made changes) kind z (parts_drop j qs)) (sym (drop_some ps i n e))
      (gone g.rule g.listed g.goes g.asked (subst (λ k. MendsParts (is_made changes) kind (parts_drop k ps) (parts_drop j qs)) (add-one i) h)))

  drop_any : (xs : Parts) (k : ℕ) (o : Option Tree) → o ≡ part_at xs k → k < part_count xs → parts_drop k xs ≡ maybe o (parts_drop (k + 1) xs)
  drop_any xs k None e l = drop_gap xs k e l ∙ ap (λ z. gap (parts_drop z xs)) (sym (add-one k))
  drop_any xs k (Some n) e l = drop_some xs k n e ∙ ap (λ z. part n (parts_drop z xs)) (sym (add-one k))

  -- a part stays, or what is missing does, or a block comes round it
  pub left_part : (i j : ℕ) (o p : Option Tree) → o ≡ part_at ps i → p ≡ part_at qs j → i < part_count ps → j < part_count qs → BeginsParts changes kind o p → AreLeft changes kind ps qs i j → AreLeft changes kind ps qs (i + 1) (j + 1)
  left_part i j o p e f a b begins left h =
      left (subst (λ z. MendsParts (is_made changes) kind z (parts_drop j qs)) (sym (drop_any ps i o e a)) (subst (λ z. MendsParts (is_made changes) kind (maybe o (parts_drop (i + 1) ps)) z) (sym (drop_any qs j p f b))
      (begins (parts_drop (i + 1) ps) (parts_drop (j + 1) qs) h)))

  -- all were passed
  pub left_none : (i j : ℕ) → part_count ps ≤ i → part_count qs ≤ j → AreLeft changes kind ps qs i j → MendsParts (is_made changes) kind ps qs
  left_none i j a b left =
      left (subst (λ z. MendsParts (is_made changes) kind z (parts_drop j qs)) (sym (drop_past ps i a)) (subst (λ z. MendsParts (is_made changes) kind none z) (sym (drop_past qs j b)) all))

-- ---- parts that take the place of their nodes

pub takes_place : (changes : List Change) (n : Tree) (rule : MendRule) (o : Option Node) → is_asked (is_made changes) rule n ≡ true → IfSome o (λ part. Some (node_tree part) ≡ change rule n) → IfSome o (λ part. node_total (node_tree part) < node_total n) →
    IfSome o (λ part. TakesPlace changes n (node_tree part))
takes_place changes n rule None a e s = tt
takes_place changes n rule (Some inner) a e s = record { leads = leads_by changes n (node_tree inner) rule a e; smaller = s }

pub first_smaller : (n : Tree) (o : Option Tree) (r : Option Node) → o ≡ part_at (parts_of n) 0 → option_map node_tree r ≡ first_of o → IfSome r (λ inner. node_total (node_tree inner) < node_total n)
first_smaller n o None e f = tt
first_smaller n None (Some inner) e f = absurd (cc)
first_smaller n (Some u) (Some inner) e f = omega (arith, part_smaller u (node_tree inner) 0 f, part_smaller n u 0 e)

pub begins_only : (changes : List Change) (kind : Kind) (n after : Tree) (rule : MendRule) (o : Option Node) → is_wrapped rule kind n ≡ true → is_asked (is_made changes) rule n ≡ true → IfSome o (λ inner. IsBlockOf (node_tree inner) after) →
    MendsPart changes (Some n) (option_map node_tree o) → BeginsParts changes kind (Some n) (Some after)
begins_only changes kind n after rule None is asked block g = absurd g
begins_only changes kind n after rule (Some inner) is asked block g = begins_wrapped changes kind n (node_tree inner) after rule is asked block g

pub ruleset begin_steps = (begins_alike, begins_wrapped)
