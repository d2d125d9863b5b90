-- What the walk over a script has noted, turn by turn.
use Rattle.std.proofs.Common.{◌≡◌, Bool, true, false, ◌&&◌, List, [], ◌∷◌, ◌++◌, Some, None, arith, refl, sym, ap, ◌∙◌, subst, append_assoc, append-nil, length-append}
use Rattle.tree.specs.Tree.{Tree, Parts, none, part, gap, kind_of, parts_of, part_count}
use Rattle.language.specs.Pieces.{Role, Slot}
use Rattle.language.specs.RowPositions.{widest}
use Rattle.std.specs.Prelude.{ℕ, ◌<◌, Result, IfOk, Ok, Err, length, set}
use Rattle.std.proofs.Math.Seq.{set-append_seam}
use Rattle.std.proofs.lemmas.Bool.{false≢true, and_parts}
use Rattle.spelling_table.specs.declared.outline.FixedSlots.{FixedSlots}
use Rattle.spelling_table.specs.declared.outline.FixedSlots.TheVariants as front
use Rattle.spelling_table.specs.declared.outline.ListSlots.{ListSlots}
use Rattle.spelling_table.specs.declared.outline.ListSlots.TheVariants as tail
use Rattle.spelling_table.specs.declared.outline.Outline.{Outline}
use Rattle.tree.specs.declared.kind.Kind.{Kind}
use Rattle.language.specs.declared.Rank.TheVariants.{Primary}
use Rattle.spelling_table.specs.Outlines.{slot_of, leaf}
use Rattle.spellings.specs.Remaining.{left, slots_left, front_left}
use Rattle.spellings.specs.Wherever.{NodeSpelling, IsSpelledWherever}
use Rattle.paren_planner.specs.declared.steps.NodeStep.{NodeStep}
use Rattle.paren_planner.specs.declared.steps.Step.{Step}
use Rattle.paren_planner.specs.declared.steps.Step.TheVariants.{Free, Leaf, Enter, Leave}
use Rattle.cost_table.specs.Weighed.{settled_at, slot_free, is_plain_outline}
use Rattle.spelling_table.specs.Requirements.{requirements_of}
use Rattle.paren_planner.specs.Steps.{nowhere, has_row_at}
use Rattle.paren_planner.specs.Noted.{IsVisit, is_settled_slot, is_fixed, are_fixed, fixed_front, fixed_tail, fixed_outline, is_free_step, are_free, Steps, unspelled, alone, around, costless, hidden, through, PartsSteps, over, skipped, unplaced, next, Noted, PartsNoted}

-- whatever the parts that are left show, with what was noted all parts show
pub record Begun (may_pass : Bool) (a : Role) (ss rest : List Slot) (ps others : Parts) (known : Bool) (old now : List Step) : Type 0 where
  pub steps : List Step
  pub added : now ≡ old ++ steps
  pub free : known ≡ true → are_free steps ≡ true
  pub more : (ys : List Step) → PartsSteps may_pass a rest others ys → PartsSteps may_pass a ss ps (steps ++ ys)

pub begun_first : (may_pass : Bool) (a : Role) (ss : List Slot) (ps : Parts) (old : List Step) → Begun may_pass a ss ss ps ps true old old
begun_first may_pass a ss ps old = record { steps = []; added = sym (append-nil old); free = λ h. refl; more = λ ys q. q }

pub begun_skip : (may_pass : Bool) (a : Role) (ss rest : List Slot) (ps P Q : Parts) (g : Bool) (old now : List Step) → Begun may_pass a ss rest ps P g old now → P ≡ gap Q → Begun may_pass a ss rest ps Q g old now
begun_skip may_pass a ss rest ps P Q g old now b e = record { steps = b.steps; added = b.added; free = b.free; more = λ ys q. b.more ys (subst (λ u. PartsSteps may_pass a rest u ys) (sym e) (skipped q)) }

pub begun_stop : (may_pass : Bool) (a : Role) (ss rest : List Slot) (ps P Q : Parts) (u : Tree) (g : Bool) (old now new : List Step) → Begun may_pass a ss rest ps P g old now → P ≡ part u Q → rest ≡ [] → new ≡ now ++ Leaf (nowhere (kind_of u)) ∷ [] → PartsNoted may_pass a ss ps false old new
begun_stop may_pass a ss rest ps P Q u g old now new b e r k =
    let last : PartsSteps may_pass a rest P (Leaf (nowhere (kind_of u)) ∷ []) = subst (λ p. PartsSteps may_pass a rest p (Leaf (nowhere (kind_of u)) ∷ [])) (sym e) (subst (λ q. PartsSteps may_pass a q (part u Q) (Leaf (nowhere (kind_of u)) ∷ [])) (sym r) unplaced) in
    record {
      steps = b.steps ++ Leaf (nowhere (kind_of u)) ∷ [];
      added = k ∙ ap (λ xs. xs ++ Leaf (nowhere (kind_of u)) ∷ []) b.added ∙ append_assoc old b.steps (Leaf (nowhere (kind_of u)) ∷ []);
      are = b.more (Leaf (nowhere (kind_of u)) ∷ []) last;
      free = λ h. absurd (false≢true h);
    }

pub begun_finish : (may_pass : Bool) (a : Role) (ss rest : List Slot) (ps P : Parts) (g : Bool) (old now : List Step) → Begun may_pass a ss rest ps P g old now → P ≡ none → PartsNoted may_pass a ss ps g old now
begun_finish may_pass a ss rest ps P g old now b e = record {
  steps = b.steps ++ [];
  added = b.added ∙ ap (λ xs. old ++ xs) (sym (append-nil b.steps));
  are = b.more [] (subst (λ p. PartsSteps may_pass a rest p []) (sym e) over);
  free = λ h. subst (λ xs. are_free xs ≡ true) (sym (append-nil b.steps)) (b.free h);
}

both : (a b : Bool) → a ≡ true → b ≡ true → (a && b) ≡ true
both true true h e = refl
both true false h e = e
both false b h e = h

free_append : (xs ys : List Step) → are_free xs ≡ true → are_free ys ≡ true → are_free (xs ++ ys) ≡ true
free_append [] ys h e = e
free_append (x ∷ xs) ys h e = let p = and_parts (is_free_step x) (are_free xs) h in both (is_free_step x) (are_free (xs ++ ys)) p.0 (free_append xs ys p.1 e)

pub begun_next : (may_pass : Bool) (a : Role) (ss rest later : List Slot) (s : Slot) (ps P Q : Parts) (u : Tree) (g f : Bool) (old now new : List Step) → Begun may_pass a ss rest ps P g old now → P ≡ part u Q → rest ≡ s ∷ later → Noted may_pass a s u f now new → Begun may_pass a ss later ps Q (g && f) old new
begun_next may_pass a ss rest later s ps P Q u g f old now new b e r n = record {
  steps = b.steps ++ n.steps;
  added = n.added ∙ ap (λ xs. xs ++ n.steps) b.added ∙ append_assoc old b.steps n.steps;
  free = λ h. let p = and_parts g f h in free_append b.steps n.steps (b.free p.0) (n.free p.1);
  more = λ ys q.
      let here : PartsSteps may_pass a (s ∷ later) (part u Q) (n.steps ++ ys) = next n.steps ys n.are q refl in
      let there : PartsSteps may_pass a rest P (n.steps ++ ys) = subst (λ p. PartsSteps may_pass a rest p (n.steps ++ ys)) (sym e) (subst (λ t. PartsSteps may_pass a t (part u Q) (n.steps ++ ys)) (sym r) here) in
      subst (PartsSteps may_pass a ss ps) (sym (append_assoc b.steps n.steps ys)) (b.more (n.steps ++ ys) there);
}

-- A node

pub no_parts : (ps : Parts) → part_count ps ≡ 0 → ps ≡ none
no_parts none h = refl
no_parts (gap ps) h = absurd (omega (arith, h))
no_parts (part n ps) h = absurd (omega (arith, h))

pub noted_unspelled : (may_pass : Bool) (a b : Role) (s : Slot) (n : Tree) (v : NodeStep) (old new : List Step) → IsVisit a s n v → v.requirements ≡ None → b ≡ widest (settled_at a s) → IsSpelledWherever b n None → new ≡ old ++ Leaf v ∷ [] → Noted may_pass a s n false old new
noted_unspelled may_pass a b s n v old new i l w k e = record { steps = Leaf v ∷ []; added = e; are = unspelled v i l (subst (λ c. IsSpelledWherever c n None) w k) refl; free = λ h. absurd (false≢true h) }

pub noted_alone : (may_pass : Bool) (a b : Role) (s : Slot) (n : Tree) (v : NodeStep) (x : NodeSpelling) (old new : List Step) → IsVisit a s n v → v.requirements ≡ Some (requirements_of x.outline) → b ≡ widest (settled_at a s) → IsSpelledWherever b n (Some x) → part_count (parts_of n) ≡ 0 →
    new ≡ old ++ Leaf v ∷ [] → Noted may_pass a s n false old new
noted_alone may_pass a b s n v x old new i l w k p e = record { steps = Leaf v ∷ []; added = e; are = alone v x i l (subst (λ c. IsSpelledWherever c n (Some x)) w k) (no_parts (parts_of n) p) refl; free = λ h. absurd (false≢true h) }

pub noted_around : (may_pass : Bool) (a b : Role) (s : Slot) (n : Tree) (v : NodeStep) (x : NodeSpelling) (g : Bool) (old mid within new : List Step) → IsVisit a s n v → v.requirements ≡ Some (requirements_of x.outline) → b ≡ widest (settled_at a s) → IsSpelledWherever b n (Some x) →
    mid ≡ old ++ Enter v ∷ [] → PartsNoted may_pass b (left x.slots) (parts_of n) g mid within → new ≡ within ++ Leave ∷ [] → Noted may_pass a s n false old new
noted_around may_pass a b s n v x g old mid within new i l w k e p f = record {
  steps = Enter v ∷ (p.steps ++ Leave ∷ []);
  added = f ∙ ap (λ xs. xs ++ Leave ∷ []) (p.added ∙ ap (λ xs. xs ++ p.steps) e ∙ append_assoc old (Enter v ∷ []) p.steps) ∙ append_assoc old (Enter v ∷ p.steps) (Leave ∷ []);
  are = around v x p.steps i l (subst (λ c. IsSpelledWherever c n (Some x)) w k) (subst (λ c. PartsSteps may_pass c (left x.slots) (parts_of n) p.steps) w p.are) refl;
  free = λ h. absurd (false≢true h);
}

-- what was noted behind a step that another takes the place of
pub within_parts : (may_pass : Bool) (a : Role) (ss : List Slot) (ps : Parts) (g : Bool) (v : NodeStep) (old mid within : List Step) → mid ≡ old ++ Enter v ∷ [] → (p : PartsNoted may_pass a ss ps g mid within) → within ≡ old ++ Enter v ∷ p.steps
within_parts may_pass a ss ps g v old mid within e p = p.added ∙ ap (λ xs. xs ++ p.steps) e ∙ append_assoc old (Enter v ∷ []) p.steps

pub place_within : (may_pass : Bool) (a : Role) (ss : List Slot) (ps : Parts) (g : Bool) (v : NodeStep) (i : ℕ) (old mid within : List Step) → i ≡ length old → mid ≡ old ++ Enter v ∷ [] → PartsNoted may_pass a ss ps g mid within → i < length within
place_within may_pass a ss ps g v i old mid within k e p = omega (arith, k, ap length (within_parts may_pass a ss ps g v old mid within e p), length-append old (Enter v ∷ p.steps))

pub noted_free : (may_pass : Bool) (a b : Role) (s : Slot) (n : Tree) (v : NodeStep) (x : NodeSpelling) (k : Kind) (g : Bool) (i : ℕ) (old mid within new : List Step) → k ≡ kind_of n → b ≡ widest (settled_at a s) → IsSpelledWherever b n (Some x) →
    is_plain_outline x.outline ≡ true → has_row_at s ≡ true → slot_free s x.outline.rank ≡ true → g ≡ true → i ≡ length old →
    mid ≡ old ++ Enter v ∷ [] → PartsNoted may_pass b (left x.slots) (parts_of n) g mid within → new ≡ set within i (Free k x.outline.rank) → Noted may_pass a s n true old new
noted_free may_pass a b s n v x k g i old mid within new q w h o r f y c e p z = record {
  steps = Free k x.outline.rank ∷ p.steps;
  added = z ∙ (λ j. set (within_parts may_pass b (left x.slots) (parts_of n) g v old mid within e p j) (c j) (Free k x.outline.rank)) ∙ set-append_seam old (Enter v) p.steps (Free k x.outline.rank);
  are = costless x p.steps (subst (λ c. IsSpelledWherever c n (Some x)) w h) o r f (subst (λ c. PartsSteps may_pass c (left x.slots) (parts_of n) p.steps) w p.are) (p.free y) (ap (λ u. Free u x.outline.rank ∷ p.steps) q);
  free = λ t. p.free y;
}

pub noted_word : (may_pass : Bool) (a b : Role) (s : Slot) (n : Tree) (x : NodeSpelling) (k : Kind) (old new : List Step) → b ≡ widest (settled_at a s) → IsSpelledWherever b n (Some x) → x.outline ≡ leaf Primary → part_count (parts_of n) ≡ 0 → has_row_at s ≡ true → slot_free s Primary ≡ true → k ≡ kind_of n → new ≡ old ++ Free k Primary ∷ [] → Noted may_pass a s n true old new
noted_word may_pass a b s n x k old new w h o p r f q e = record {
  steps = Free k Primary ∷ [];
  added = e;
  are = costless x [] (subst (λ c. IsSpelledWherever c n (Some x)) w h) (ap is_plain_outline o) r (ap (λ u. slot_free s u.rank) o ∙ f) (subst (λ ps. PartsSteps may_pass (widest (settled_at a s)) (left x.slots) ps []) (sym (no_parts (parts_of n) p)) over) refl
      (λ j. Free (q j) (sym o j).rank ∷ []);
  free = λ t. refl;
}

pub noted_hidden : (may_pass : Bool) (a b : Role) (s : Slot) (n : Tree) (x : NodeSpelling) (old : List Step) → b ≡ widest (settled_at a s) → IsSpelledWherever b n (Some x) → is_plain_outline x.outline ≡ true → part_count (parts_of n) ≡ 0 → has_row_at s ≡ false → Noted may_pass a s n true old old
noted_hidden may_pass a b s n x old w k o p r = record { steps = []; added = sym (append-nil old); are = hidden x (subst (λ c. IsSpelledWherever c n (Some x)) w k) o (no_parts (parts_of n) p) r refl; free = λ h. refl }

pub noted_through : {E : Type 0} (q : Result Bool E) (may_pass : Bool) (a b : Role) (s : Slot) (n : Tree) (x : NodeSpelling) (old new : List Step) → b ≡ widest (settled_at a s) → IsSpelledWherever b n (Some x) → is_settled_slot s ≡ true → are_fixed (left x.slots) ≡ true →
    IfOk q (λ g. PartsNoted may_pass b (left x.slots) (parts_of n) g old new) → IfOk q (λ g. Noted may_pass a s n g old new)
noted_through (Ok u) may_pass a b s n x old new w k r g p = record {
  steps = p.steps;
  added = p.added;
  are = through x (subst (λ c. IsSpelledWherever c n (Some x)) w k) r g (subst (λ c. PartsSteps may_pass c (left x.slots) (parts_of n) p.steps) w p.are);
  free = p.free;
}
noted_through (Err u) may_pass a b s n x old new w k r g p = p

-- Slots that are positions

tail_fixed : (t : ListSlots) (ps : Parts) → fixed_tail t ≡ true → are_fixed (slots_left t ps) ≡ true
tail_fixed t none h = refl
tail_fixed tail.Nothing (gap ps) h = refl
tail_fixed tail.Nothing (part n ps) h = refl
tail_fixed (tail.Each a) (gap ps) h = refl
tail_fixed (tail.Each a) (part n ps) h = both (is_fixed (slot_of a)) (are_fixed (slots_left (tail.Each a) ps)) h (tail_fixed (tail.Each a) ps h)
tail_fixed (tail.Some a) (gap ps) h = refl
tail_fixed (tail.Some a) (part n ps) h = both (is_fixed (slot_of a)) (are_fixed (slots_left (tail.Each a) ps)) h (tail_fixed (tail.Each a) ps h)
tail_fixed (tail.Prologue r b) (gap ps) h = refl
tail_fixed (tail.Prologue r b) (part n ps) h = tail_fixed (tail.Prologue r (b && (Rattle.tree.specs.Tree.flags_of n).directive)) ps refl
tail_fixed _ ps h = absurd (Rattle.std.proofs.lemmas.Bool.false≢true h)

front_fixed : (f : FixedSlots) (ss : List Slot) → fixed_front f ≡ true → are_fixed ss ≡ true → are_fixed (front_left f ss) ≡ true
front_fixed front.Zero ss h e = e
front_fixed (front.One a) ss h e = both _ _ h e
front_fixed (front.Two a b) ss h e =
    let p = and_parts (is_fixed (slot_of a)) (is_fixed (slot_of b)) h in
    both _ _ p.0 (both _ _ p.1 e)
front_fixed (front.Three a b c) ss h e =
    let p = and_parts (is_fixed (slot_of a)) (is_fixed (slot_of b) && is_fixed (slot_of c)) h in
    let q = and_parts (is_fixed (slot_of b)) (is_fixed (slot_of c)) p.1 in
    both _ _ p.0 (both _ _ q.0 (both _ _ q.1 e))
front_fixed (front.Four a b c d) ss h e =
    let p = and_parts (is_fixed (slot_of a)) (is_fixed (slot_of b) && (is_fixed (slot_of c) && is_fixed (slot_of d))) h in
    let q = and_parts (is_fixed (slot_of b)) (is_fixed (slot_of c) && is_fixed (slot_of d)) p.1 in
    let r = and_parts (is_fixed (slot_of c)) (is_fixed (slot_of d)) q.1 in
    both _ _ p.0 (both _ _ q.0 (both _ _ r.0 (both _ _ r.1 e)))

pub outline_fixed : (x : Outline) (ps : Parts) → fixed_outline x ≡ true → are_fixed (front_left x.front (slots_left x.tail ps)) ≡ true
outline_fixed x ps h =
    let p = and_parts (fixed_front x.front) (fixed_tail x.tail) h in
    front_fixed x.front (slots_left x.tail ps) p.0 (tail_fixed x.tail ps p.1)

-- the steps of a whole script
pub noted_first : (may_pass : Bool) (a : Role) (s : Slot) (n m : Tree) (g : Bool) (old new : List Step) → n ≡ m → old ≡ [] → Noted may_pass a s n g old new → Steps may_pass a s m new
noted_first may_pass a s n m g old new e o h = subst (λ u. Steps may_pass a s u new) e (subst (Steps may_pass a s n) (sym (h.added ∙ ap (λ u. u ++ h.steps) o)) h.are)
