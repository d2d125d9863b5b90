-- What is known of a script's nodes, from the root to each part, and the step of one that is passed.
use Rattle.std.proofs.Common.{◌≡◌, ℕ, ◌+◌, ◌≤◌, Bool, true, List, [], ◌∷◌, ◌++◌, length, Some, refl, sym, ap, ◌∙◌, subst, arith}
use Rattle.std.specs.Prelude.{◌&&◌}
use Rattle.std.proofs.lemmas.Bool.{and_parts}
use Rattle.tree.specs.declared.kind.Kind.{Kind}
use Rattle.tree.specs.declared.kind.Flags.{Flags}
use Rattle.tree.specs.declared.kind.Pair.{Pair}
use Rattle.tree.specs.declared.node.Node.{Node}
use Rattle.tree.specs.declared.node_use.NodeUse.{NodeUse}
use Rattle.tree.specs.declared.node_use.NodeUse.TheVariants.{NotEvaluated}
use Rattle.tree.specs.declared.node_use.ParentUse.{ParentUse}
use Rattle.tree.specs.HeldRows.{HoldsRows, use_below}
use Rattle.tree.specs.Node.{node_tree}
use Rattle.tree.specs.NodeUses.{use_in, rows_in}
use Rattle.tree.specs.Tree.{Tree, node, Parts, none, part, gap, kind_of, flags_of, start_of, stop_of, parts_of, part_count}
use Rattle.language.specs.declared.Rank.TheVariants.{Expression}
use Rattle.language.specs.declared.Start.TheVariants.{Any}
use Rattle.language.specs.Pieces.{Role, expr, chain_part, pattern, script, Slot, fixed, left as left_slot, lead, tail, callee, lead_chain, lead_pattern}
use Rattle.language.specs.Grammar.{ways}
use Rattle.language.specs.Layout.{some_way, first_way}
use Rattle.language.specs.LayoutFits.{lines_up}
use Rattle.language.specs.RowPositions.{first_roles, has_row, widest, rows, parts_rows}
use Rattle.row_laws.specs.Agreements.{agrees, PartsAgree}
use Rattle.row_laws.specs.Lined.{leads, lined, parts_lined}
use Rattle.row_laws.proofs.Walk.{node_suits}
use Rattle.spellings.specs.Spelled.{settled_roles}
use Rattle.spellings.specs.Remaining.{left}
use Rattle.spellings.specs.Wherever.{NodeSpelling, IsSpelledWherever}
use Rattle.cost_table.specs.Weighed.{settled_at}
use Rattle.cost_table.proofs.NodeRowNumbers.{roles_some}
use Rattle.paren_planner.specs.declared.steps.Step.{Step}
use Rattle.paren_planner.specs.declared.steps.Step.TheVariants.{Passed}
use Rattle.paren_planner.specs.Noted.{is_fixed, passed, Noted}
use Rattle.pairless_laws.specs.Pairless.{IsPairless, PairlessAreFree, PairlessPartsAreFree}
use Rattle.paren_planner.specs.Passing.{AreOrdered, IsKnown, Passable, PassableParts, Passing, PassingBelow, PassingParts, ScriptPassing}
use Rattle.tree.proofs.PartWalk.{parts_drop}
use Rattle.paren_planner.proofs.WrappedRows.{SlotsOf, slots_of}
use Rattle.paren_planner.proofs.WalkSteps.{Begun, begun_first, begun_skip, begun_next}
use Rattle.paren_planner.proofs.PairlessSpans.{ascending}
use Rattle.paren_planner.proofs.LinedRows.{rows_agree}
use Rattle.paren_planner.proofs.Bytes.{rows_within}
use Rattle.paren_planner.specs.Plans.{IsDerived}
use Rattle.pairless_laws.proofs.PairlessNodes.{derived_free_in}
use Rattle.paren_planner.proofs.RowStarts.{spelled_lined_in}
use Rattle.unambiguity_laws.proofs.OrderedPairs.{pairs_ordered_in}

-- Positions with the same widest

slot_widest : (c b : Role) (s : Slot) → widest (settled_at c s) ≡ widest (settled_at b s)
slot_widest c b (fixed a) = refl
slot_widest c b (left_slot y) = refl
slot_widest c b (lead y) = refl
slot_widest c b (tail y x) = refl
slot_widest c b callee = refl
slot_widest c b lead_chain = refl
slot_widest c b lead_pattern = refl

row_widest : (a : Role) → has_row a ≡ has_row (widest a)
row_widest (expr y i f) = refl
row_widest (chain_part f) = refl
row_widest (pattern b f) = refl
row_widest a = refl

-- a node has as many rows at both
rows_widest : (n : Tree) (c a : Role) → widest c ≡ widest a → rows n c ≡ rows n a
unfolding rows
rows_widest (node k w g s e ps) c a h =
    let below : Role → ℕ = λ r. parts_rows ps (first_roles (ways r (node k w g s e ps))) in
    ap (λ m. m + below (widest c)) (row_widest c) ∙ ap (λ r. has_row r + below r) h ∙ sym (ap (λ m. m + below (widest a)) (row_widest a))

-- What is known of the root is known of each node

-- at the position at which a node is laid out
record Laid (st : NodeUse) (k : Kind) (w : List ℕ) (g : Flags) (s e : ℕ) (ps : Parts) (c : Role) : Type 0 where
  role : Role
  same : widest role ≡ widest c
  stands : agrees st role k ≡ true
  led : leads (ways role (node k w g s e ps)) ps ≡ true
  parts : parts_lined ps (first_roles (ways role (node k w g s e ps))) ≡ true

laid : (st : NodeUse) (k : Kind) (w : List ℕ) (g : Flags) (s e : ℕ) (ps : Parts) (c : Role) → agrees st c k ≡ true → lined (node k w g s e ps) c ≡ true → Laid st k w g s e ps c
unfolding lined
laid st k w g s e ps (expr y i f) h l =
    let q = and_parts (leads (ways (expr Expression true Any) (node k w g s e ps)) ps) (parts_lined ps (first_roles (ways (expr Expression true Any) (node k w g s e ps)))) l in
    record { role = expr Expression true Any; same = refl; stands = h; led = q.0; parts = q.1 }
laid st k w g s e ps c h l =
    let q = and_parts (leads (ways c (node k w g s e ps)) ps) (parts_lined ps (first_roles (ways c (node k w g s e ps)))) l in
    record { role = c; same = refl; stands = h; led = q.0; parts = q.1 }

mutual
  unfolding parts_lined PairlessAreFree PairlessPartsAreFree Passable PassableParts rows parts_rows

  passable : (P : List Pair) (st : NodeUse) (f : ℕ) (n : Tree) (c a : Role) → widest c ≡ widest a → agrees st c (kind_of n) ≡ true → lined n c ≡ true → rows n a ≤ 16777216 → PairlessAreFree P f n a → Passable P st f n a
  passable P st f (node k w g s e ps) c a v h l few x =
      let n : Tree = node k w g s e ps in
      let y : Laid st k w g s e ps c = laid st k w g s e ps c h l in
      let b : Role = y.role in
      let z : SlotsOf b n = slots_of b n (and_parts (some_way (ways b n)) (lines_up (first_way (ways b n)) ps) y.led).0 in
      let wide : widest b ≡ widest a = y.same ∙ v in
      let roles : settled_roles (widest b) z.slots ≡ first_roles (ways (widest a) n) = sym z.widely ∙ ap (λ r. first_roles (ways r n)) wide in
      let suits = (node_suits st b k w g s e ps y.stands y.led).1 in
      let u : ParentUse = record { node_use = st; kind = k; flags = g } in (
        record { counted = rows_agree st c n h l ∙ rows_widest n c a v; few = few; free = x.0 },
        subst (PassableParts P u (part_count ps) 0 s ps) roles
            (passable_parts P u (part_count ps) 0 s ps b (widest b) z.slots
            (subst (PartsAgree u (part_count ps) 0 ps) z.here suits)
            (subst (λ rs. parts_lined ps rs ≡ true) z.here y.parts)
            (subst (λ rs. parts_rows ps rs ≤ 16777216) (sym roles) (omega (arith, few)))
            (subst (PairlessPartsAreFree P s ps) (sym roles) x.1)),
      )

  passable_parts : (P : List Pair) (u : ParentUse) (m i f : ℕ) (ps : Parts) (c b : Role) (ss : List Slot) → PartsAgree u m i ps (settled_roles c ss) → parts_lined ps (settled_roles c ss) ≡ true → parts_rows ps (settled_roles b ss) ≤ 16777216 → PairlessPartsAreFree P f ps (settled_roles b ss) →
      PassableParts P u m i f ps (settled_roles b ss)
  passable_parts P u m i f none c b ss h l few x = tt
  passable_parts P u m i f (gap ps) c b ss h l few x = passable_parts P u m (i + 1) f ps c b ss h l few x
  passable_parts P u m i f (part n ps) c b [] h l few x = tt
  passable_parts P u m i f (part n ps) c b (s ∷ ss) h l few x =
      let q = and_parts (lined n (settled_at c s)) (parts_lined ps (settled_roles c ss)) l in (
        passable P (use_in u m i n) f n (settled_at c s) (settled_at b s) (slot_widest c b s) h.0 q.0 (omega (arith, few)) x.0,
        passable_parts P u m (i + 1) (stop_of n) ps c b ss h.1 q.1 (omega (arith, few)) x.1,
      )

pub script_passable : (P : List Pair) (n : Tree) → lined n script ≡ true → rows n script ≤ 16777216 → PairlessAreFree P 0 n script → Passable P NotEvaluated 0 n script
script_passable P n l few x = passable P NotEvaluated 0 n script script refl refl l few x

pub script_passing : (P : List Pair) (n : Tree) (m : Node) → ScriptPassing P n → node_tree m ≡ n → HoldsRows NotEvaluated m → Passing P 0 m script
script_passing P n m h e r = record { ordered = h.ordered; node_use = NotEvaluated; rows = r; passable = subst (λ t. Passable P NotEvaluated 0 t script) (sym e) h.passable }

-- A walk

passable_here : (P : List Pair) (st : NodeUse) (f : ℕ) (n : Tree) (a : Role) → Passable P st f n a → IsKnown P st f n a
unfolding Passable
passable_here P st f (node k w g s e ps) a h = h.0

passable_below : (P : List Pair) (st : NodeUse) (f : ℕ) (n : Tree) (a : Role) → Passable P st f n a →
    PassableParts P (record { node_use = st; kind = kind_of n; flags = flags_of n }) (part_count (parts_of n)) 0 (start_of n) (parts_of n) (first_roles (ways (widest a) n))
unfolding Passable
passable_below P st f (node k w g s e ps) a h = h.1

pub passing_below : (P : List Pair) (f : ℕ) (n : Node) (a : Role) → Passing P f n a → PassingBelow P n a
passing_below P f n a h = record { ordered = h.ordered; node_use = h.node_use; rows = h.rows; passable = passable_below P h.node_use f (node_tree n) a h.passable }

pub passing_parts : (P : List Pair) (n : Node) (a b : Role) (x : NodeSpelling) → b ≡ widest a → IsSpelledWherever b (node_tree n) (Some x) → PassingBelow P n a → PassingParts P n 0 (start_of (node_tree n)) (parts_of (node_tree n)) (settled_roles b (left x.slots))
passing_parts P n a b x w k h =
    let t : Tree = node_tree n in
    subst (PassingParts P n 0 (start_of t) (parts_of t)) (roles_some a t x (subst (λ c. IsSpelledWherever c t (Some x)) w k) ∙ ap (λ c. settled_roles c (left x.slots)) (sym w)) h

passable_gap : (P : List Pair) (u : ParentUse) (c i f : ℕ) (ps : Parts) (xs : List Role) → PassableParts P u c i f (gap ps) xs → PassableParts P u c (i + 1) f ps xs
unfolding PassableParts
passable_gap P u c i f ps xs h = h

pub passing_gap : (P : List Pair) (n : Node) (i f : ℕ) (ps qs : Parts) (xs : List Role) → PassingParts P n i f ps xs → ps ≡ gap qs → PassingParts P n (i + 1) f qs xs
passing_gap P n i f ps qs xs h e = record {
  ordered = h.ordered;
  node_use = h.node_use;
  rows = h.rows;
  passable = passable_gap P _ _ i f qs xs (subst (λ rs. PassableParts P (record { node_use = h.node_use; kind = kind_of (node_tree n); flags = flags_of (node_tree n) }) (part_count (parts_of (node_tree n))) i f rs xs) e h.passable);
}

passable_part : (P : List Pair) (u : ParentUse) (c i f : ℕ) (n : Tree) (ps : Parts) (a : Role) (xs : List Role) → PassableParts P u c i f (part n ps) (a ∷ xs) → Passable P (use_in u c i n) f n a × PassableParts P u c (i + 1) (stop_of n) ps xs
unfolding PassableParts
passable_part P u c i f n ps a xs h = h

pub passing_part : (P : List Pair) (n m : Node) (i f : ℕ) (ps qs : Parts) (b : Role) (s : Slot) (ss rest : List Slot) → PassingParts P n i f ps (settled_roles b ss) → ps ≡ part (node_tree m) qs → ss ≡ s ∷ rest →
    ((st : NodeUse) → HoldsRows st n → HoldsRows (use_below st (node_tree n) i (node_tree m)) m) → Passing P f m (settled_at b s) × PassingParts P n (i + 1) (stop_of (node_tree m)) qs (settled_roles b rest)
passing_part P n m i f ps qs b s ss rest h e r k =
    let u : ParentUse = record { node_use = h.node_use; kind = kind_of (node_tree n); flags = flags_of (node_tree n) } in
    let c : ℕ = part_count (parts_of (node_tree n)) in
    let x = passable_part P u c i f (node_tree m) qs (settled_at b s) (settled_roles b rest)
    (subst (λ ts. PassableParts P u c i f (part (node_tree m) qs) (settled_roles b ts)) r (subst (λ rs. PassableParts P u c i f rs (settled_roles b ss)) e h.passable)) in (
      record { ordered = h.ordered; node_use = use_below h.node_use (node_tree n) i (node_tree m); rows = k h.node_use h.rows; passable = x.0 },
      record { ordered = h.ordered; node_use = h.node_use; rows = h.rows; passable = x.1 },
    )

-- A node that is passed

pub noted_passed : (may_pass : Bool) (P : List Pair) (a : Role) (s : Slot) (f : ℕ) (n : Node) (m : ℕ) (old new : List Step) → may_pass ≡ true → is_fixed s ≡ true → (AreOrdered P → IsPairless P f (stop_of (node_tree n))) → Passing P f n (settled_at a s) →
    ((st : NodeUse) → HoldsRows st n → rows_in st (node_tree n) ≤ 4294967295 → m ≡ rows_in st (node_tree n)) → new ≡ old ++ Passed m ∷ [] → Noted may_pass a s (node_tree n) true old new
noted_passed may_pass P a s f n m old new l t q h c e =
    let k : IsKnown P h.node_use f (node_tree n) (settled_at a s) = passable_here P h.node_use f (node_tree n) (settled_at a s) h.passable in
    let all = k.counted in
    let few = k.few in
    record {
      steps = Passed m ∷ [];
      added = e;
      are = passed m l t (k.free (q h.ordered)) (c h.node_use h.rows (omega (arith, all, few)) ∙ all) refl;
      free = λ z. refl;
    }

-- The walk over the parts of a node

-- what was noted of the parts before an index, and what is known of those from it on, whose text comes from a place on
pub record Reached (may_pass : Bool) (P : List Pair) (n : Node) (a : Role) (ss rest : List Slot) (ps : Parts) (i f : ℕ) (known : Bool) (old now : List Step) : Type 0 where
  pub begun : Begun may_pass a ss rest ps (parts_drop i ps) known old now
  pub passing : may_pass ≡ true → PassingParts P n i f (parts_drop i ps) (settled_roles a rest)

pub reached_first : (may_pass : Bool) (P : List Pair) (n : Node) (a : Role) (ss rest : List Slot) (ps : Parts) (f : ℕ) (old : List Step) → rest ≡ ss → ps ≡ parts_of (node_tree n) → f ≡ start_of (node_tree n) → (may_pass ≡ true → PassingParts P n 0 (start_of (node_tree n)) (parts_of (node_tree n)) (settled_roles a ss)) →
    Reached may_pass P n a ss rest ps 0 f true old old
reached_first may_pass P n a ss rest ps f old e q l h = record {
  begun = subst (λ ts. Begun may_pass a ss ts ps ps true old old) (sym e) (begun_first may_pass a ss ps old);
  passing = λ m.
      subst (λ ts. PassingParts P n 0 f ps (settled_roles a ts)) (sym e)
      (subst (λ rs. PassingParts P n 0 f rs (settled_roles a ss)) (sym q) (subst (λ x. PassingParts P n 0 x (parts_of (node_tree n)) (settled_roles a ss)) (sym l) (h m)));
}

pub reached_skip : (may_pass : Bool) (P : List Pair) (n : Node) (a : Role) (ss rest : List Slot) (ps : Parts) (i f : ℕ) (g : Bool) (old now : List Step) → Reached may_pass P n a ss rest ps i f g old now → parts_drop i ps ≡ gap (parts_drop (i + 1) ps) → Reached may_pass P n a ss rest ps (i + 1) f g old now
reached_skip may_pass P n a ss rest ps i f g old now h e = record {
  begun = begun_skip may_pass a ss rest ps (parts_drop i ps) (parts_drop (i + 1) ps) g old now h.begun e;
  passing = λ m. passing_gap P n i f (parts_drop i ps) (parts_drop (i + 1) ps) (settled_roles a rest) (h.passing m) e;
}

pub reached_part : (may_pass : Bool) (P : List Pair) (n p : Node) (a : Role) (s : Slot) (ss rest later : List Slot) (ps : Parts) (i f : ℕ) (g : Bool) (old now : List Step) → Reached may_pass P n a ss rest ps i f g old now → parts_drop i ps ≡ part (node_tree p) (parts_drop (i + 1) ps) → rest ≡ s ∷ later →
    ((st : NodeUse) → HoldsRows st n → HoldsRows (use_below st (node_tree n) i (node_tree p)) p) → may_pass ≡ true → Passing P f p (settled_at a s)
reached_part may_pass P n p a s ss rest later ps i f g old now h e r k m = (passing_part P n p i f (parts_drop i ps) (parts_drop (i + 1) ps) a s rest later (h.passing m) e r k).0

pub reached_next : (may_pass : Bool) (P : List Pair) (n p : Node) (a : Role) (s : Slot) (ss rest later : List Slot) (ps : Parts) (i f l : ℕ) (g free : Bool) (old now new : List Step) → Reached may_pass P n a ss rest ps i f g old now → parts_drop i ps ≡ part (node_tree p) (parts_drop (i + 1) ps) → rest ≡ s ∷ later →
    ((st : NodeUse) → HoldsRows st n → HoldsRows (use_below st (node_tree n) i (node_tree p)) p) → l ≡ stop_of (node_tree p) → Noted may_pass a s (node_tree p) free now new → Reached may_pass P n a ss later ps (i + 1) l (g && free) old new
reached_next may_pass P n p a s ss rest later ps i f l g free old now new h e r k t z = record {
  begun = begun_next may_pass a ss rest later s ps (parts_drop i ps) (parts_drop (i + 1) ps) (node_tree p) g free old now new h.begun e r z;
  passing = λ m. subst (λ x. PassingParts P n (i + 1) x (parts_drop (i + 1) ps) (settled_roles a later)) (sym t) (passing_part P n p i f (parts_drop i ps) (parts_drop (i + 1) ps) a s rest later (h.passing m) e r k).1;
}

-- what is known of a script that a text derives
pub derived_few : (n : Tree) (P : List Pair) → IsDerived n P → rows n script ≤ 16777216
derived_few n P is =
    let within : rows n script ≤ length is.text = rows_within is.language is.text n P is.utf8 is.derived in
    let short = is.short in
    omega (arith, within, short)

pub derived_passing : (n : Tree) (P : List Pair) → IsDerived n P → ScriptPassing P n
derived_passing n P is = record {
  ordered = ascending P (pairs_ordered_in is.language is.text n P is.utf8 is.derived);
  passable = script_passable P n (spelled_lined_in is.language is.text is.derived.1.2) (derived_few n P is) (derived_free_in is.language is.text n P is.derived);
}
