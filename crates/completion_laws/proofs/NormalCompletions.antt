-- What completes normally can, by `normal`.
use Rattle.std.proofs.Common.{◌≡◌, ℕ, Bool, true, false, cond, List, [], ◌∷◌, refl, sym, ap, subst, ◌∙◌, ◌⊎◌, inl, inr, arith, nat_le, nat_eq}
use Rattle.std.specs.Prelude.{not, ◌&&◌, ◌||◌, Option, Some, None, is_none}
use Rattle.std.specs.Str.{bytes_eq}
use Rattle.std.proofs.lemmas.Bool.Decides.{nat_tests}
use Rattle.std.proofs.lemmas.Slice.Eq.{bytes_eq-Decides}
use Rattle.tree.specs.declared.kind.Kind.{Kind}
use Rattle.tree.specs.declared.kind.Kind.TheVariants as kind
use Rattle.tree.specs.declared.kind.Flags.{Flags}
use Rattle.std.proofs.lemmas.Bool.{false≢true}
use Rattle.tree.specs.Kinds.{is_identifier}
use Rattle.tree.specs.Tree.{Tree, node, Parts, none, part, gap, kind_of, part_at, text_of}
use Rattle.language.specs.Vocabulary.{is}
use Rattle.flow_rules.specs.Completion as flow
use Rattle.completion_laws.specs.Completions.{Completion, Normal, Break, Continue, Return, Throw, Labels, loop_continues, after_break, after_label, is_normal, is_simple, is_decimal, has_nonzero, may_be_false, may_end, has_default, From, here, later, Completes, simple, throws, returns_at_yield, program, block, if_true, if_false, if_neither, do_left, do_goes_on, while, for, for_in, for_of, continue, continue_to, break, break_to, return, return_value, switch_entered, switch_passed, case, default, labelled, try_passed, try_caught, try_alone, catch, catch_all, ListCompletes, all_done, done, left, Rounds, ended, leaves, again, Finally, no_finalizer, kept, overridden}
use Rattle.completion_laws.proofs.Leaving.{Seeks, a_break, a_break_of, a_continue, a_labelled_continue, Stands, SomeStands, or_left, or_right, in_first, in_rest, at_place, some_entered, sought, sought_list, either}

pub record Can (t : Tree) : Type 0 where
  pub normal : flow.normal t ≡ true

pub record AllCan (ps : Parts) : Type 0 where
  pub all_normal : flow.all_normal ps ≡ true

pub both : {a b : Bool} → a ≡ true → b ≡ true → (a && b) ≡ true
both {a = a} {b = b} h i = ap (λ c. c && b) h ∙ i

-- Lists

no_parts : AllCan none
unfolding flow.all_normal
no_parts = record { all_normal = refl }

one_more : {t : Tree} {ps : Parts} → Can t → AllCan ps → AllCan (part t ps)
unfolding flow.all_normal
one_more h i = record { all_normal = both h.normal i.all_normal }

gap_more : {ps : Parts} → AllCan ps → AllCan (gap ps)
unfolding flow.all_normal
gap_more h = record { all_normal = h.all_normal }

first_can : (t : Tree) (ps : Parts) → AllCan (part t ps) → Can t × AllCan ps
unfolding flow.all_normal
first_can t ps h = of (flow.normal t) (flow.all_normal ps) refl refl h.all_normal
  where
    of : (a b : Bool) → flow.normal t ≡ a → flow.all_normal ps ≡ b → (a && b) ≡ true → Can t × AllCan ps
    of true true p q i = (record { normal = p }, record { all_normal = q })
    of true false p q i = absurd (cc)
    of false b p q i = absurd (cc)

-- the last of them, if all can
last_can : (missing : Bool) (ps : Parts) → missing ≡ true → AllCan ps → flow.last_normal missing ps ≡ true
unfolding flow.last_normal flow.all_normal
last_can missing none m h = m
last_can missing (part t ps) m h = let o = first_can t ps h in last_can (flow.normal t) ps o.0.normal o.1
last_can missing (gap ps) m h = last_can missing ps m (record { all_normal = h.all_normal })

-- of the cases from one of them on
last_entered : {cases entered : Parts} → From cases entered → (missing : Bool) → AllCan entered →
    flow.last_normal missing cases ≡ true
unfolding flow.last_normal
last_entered (here {case = t} {rest = ps}) missing h = let o = first_can t ps h in last_can (flow.normal t) ps o.0.normal o.1
last_entered (later {case = t} f) missing h = last_entered f (flow.normal t) h

-- Tests

same_digits : (w : List ℕ) → flow.are_digits w ≡ is_decimal w
same_digits [] = refl
same_digits (c ∷ cs) = ap (λ b. flow.is_digit c && b) (same_digits cs)

from_one : (c : ℕ) → (nat_le 49 c && nat_le c 57) ≡ true → ((nat_le 48 c && nat_le c 57) ≡ true) × (nat_eq c 48 ≡ false)
from_one c h = (grind (arith, nat_tests, h), grind (arith, nat_tests, h))

first_of_both : (a b : Bool) → (a && b) ≡ true → (a ≡ true) × (b ≡ true)
first_of_both true b h = (refl, h)
first_of_both false b h = absurd (cc)

positive : (w : List ℕ) → flow.is_positive w ≡ true → (is_decimal w && has_nonzero w) ≡ true
positive [] h = absurd (cc)
positive (c ∷ cs) h =
    let o = first_of_both _ _ h in
    let p = from_one c o.0 in
    both (both p.0 (sym (same_digits cs) ∙ o.1)) (ap (λ b. not b || has_nonzero cs) p.1)

known : (a b c : Bool) → (b ≡ true → c ≡ true) → not (a || c) ≡ true → (a || b) ≡ false
known true b c f h = absurd (cc)
known false true c f h = let i = f refl in absurd (cc)
known false false c f h = refl

not_always : (t : Tree) → may_be_false t ≡ true → flow.always (Some t) ≡ false
not_always (node kind.Literal w g s e ps) h =
    known (is w "true") (flow.is_positive w) (is_decimal w && has_nonzero w) (positive w) h
not_always (node k w g s e ps) h = refl

not_always_or_gap : (o : Option Tree) → may_end o ≡ true → flow.always_or_gap o ≡ false
not_always_or_gap None h = absurd (cc)
not_always_or_gap (Some t) h = not_always t h

-- A `default`

one_of : (a b c : Bool) → (b ≡ false → c ≡ false) → (a || b) ≡ false → (a || c) ≡ false
one_of true b c f h = h
one_of false b c f h = f h

no_default : (ps : Parts) → has_default ps ≡ false → flow.any_default ps ≡ false
no_default none h = refl
no_default (part (node kind.SwitchCase w g s e qs) ps) h = one_of (is_none (part_at qs 0)) _ _ (no_default ps) h
no_default (part (node k w g s e qs) ps) h = no_default ps h
no_default (gap ps) h = no_default ps h

-- What completes a loop or a `switch` normally

pub broken : (labels : Labels) (c : Completion) → loop_continues labels c ≡ false → is_normal (after_break c) ≡ true →
    Seeks c flow.Break
broken labels Normal l h = absurd (cc)
broken labels (Break None) l h = a_break
broken labels (Break (Some w)) l h = absurd (cc)
broken labels (Continue o) l h = absurd (cc)
broken labels (Return r) l h = absurd (cc)
broken labels Throw l h = absurd (cc)

normal_or_broken : (c : Completion) → is_normal (after_break c) ≡ true → (is_normal c ≡ true) ⊎ Seeks c flow.Break
normal_or_broken Normal h = inl refl
normal_or_broken (Break None) h = inr a_break
normal_or_broken (Break (Some w)) h = absurd (cc)
normal_or_broken (Continue o) h = absurd (cc)
normal_or_broken (Return r) h = absurd (cc)
normal_or_broken Throw h = absurd (cc)

-- how a round ended behind which a loop goes on
data GoesOn (c : Completion) : Type 0 where
  normally : is_normal c ≡ true → GoesOn c
  continued : Seeks c flow.Continue → GoesOn c
  continued_to : Seeks c flow.LabelledContinue → GoesOn c

goes_on : (labels : Labels) (c : Completion) → loop_continues labels c ≡ true → GoesOn c
goes_on labels Normal h = normally refl
goes_on labels (Break o) h = absurd (cc)
goes_on labels (Continue None) h = continued a_continue
goes_on labels (Continue (Some w)) h = continued_to a_labelled_continue
goes_on labels (Return r) h = absurd (cc)
goes_on labels Throw h = absurd (cc)

-- Nodes

simple_can : {k : Kind} {w : List ℕ} {g : Flags} {s e : ℕ} {ps : Parts} → is_simple k ≡ true → Can (node k w g s e ps)
unfolding flow.normal
simple_can {k = kind.BlockStatement} h = absurd (cc)
simple_can {k = kind.IfStatement} h = absurd (cc)
simple_can {k = kind.DoWhileStatement} h = absurd (cc)
simple_can {k = kind.WhileStatement} h = absurd (cc)
simple_can {k = kind.ForStatement} h = absurd (cc)
simple_can {k = kind.ContinueStatement} h = absurd (cc)
simple_can {k = kind.BreakStatement} h = absurd (cc)
simple_can {k = kind.ReturnStatement} h = absurd (cc)
simple_can {k = kind.SwitchStatement} h = absurd (cc)
simple_can {k = kind.SwitchCase} h = absurd (cc)
simple_can {k = kind.LabeledStatement} h = absurd (cc)
simple_can {k = kind.ThrowStatement} h = absurd (cc)
simple_can {k = kind.TryStatement} h = absurd (cc)
simple_can {k = kind.CatchClause} h = absurd (cc)
simple_can {k = k} h = record { normal = refl }

test_can : (t : Tree) → is_simple (kind_of t) ≡ true → Can t
test_can (node k w g s e ps) h = simple_can h

named_can : (t : Tree) → is_identifier (kind_of t) ≡ true → Can t
named_can (node kind.Identifier w g s e ps) h = simple_can refl
named_can (node k w g s e ps) h = absurd (false≢true h)

block_can : {w : List ℕ} {g : Flags} {s e : ℕ} {ps : Parts} → AllCan ps → Can (node kind.BlockStatement w g s e ps)
unfolding flow.normal
block_can h = record { normal = h.all_normal }

case_can : {w : List ℕ} {g : Flags} {s e : ℕ} {ps : Parts} → AllCan ps → Can (node kind.SwitchCase w g s e ps)
unfolding flow.normal
case_can h = record { normal = h.all_normal }

catch_can : {w : List ℕ} {g : Flags} {s e : ℕ} {ps : Parts} → AllCan ps → Can (node kind.CatchClause w g s e ps)
unfolding flow.normal
catch_can h = record { normal = h.all_normal }

program_can : {w : List ℕ} {g : Flags} {s e : ℕ} {ps : Parts} → Can (node kind.Program w g s e ps)
unfolding flow.normal
program_can = record { normal = refl }

for_in_can : {w : List ℕ} {g : Flags} {s e : ℕ} {ps : Parts} → Can (node kind.ForInStatement w g s e ps)
unfolding flow.normal
for_in_can = record { normal = refl }

for_of_can : {w : List ℕ} {g : Flags} {s e : ℕ} {ps : Parts} → Can (node kind.ForOfStatement w g s e ps)
unfolding flow.normal
for_of_can = record { normal = refl }

first_branch_can : {w : List ℕ} {g : Flags} {s e : ℕ} {test t : Tree} {rest : Parts} → Can t →
    Can (node kind.IfStatement w g s e (part test (part t rest)))
unfolding flow.normal flow.nth_normal
first_branch_can {t = t} {rest = ps} h = record { normal = or_left (flow.normal t) (flow.nth_normal 0 true ps) h.normal }

second_branch_can : {w : List ℕ} {g : Flags} {s e : ℕ} {test t u : Tree} → Can u →
    Can (node kind.IfStatement w g s e (part test (part t (part u none))))
unfolding flow.normal flow.nth_normal
second_branch_can {t = t} {u = u} h = record { normal = or_right (flow.normal t) (flow.normal u) h.normal }

no_branch_can : {w : List ℕ} {g : Flags} {s e : ℕ} {test t : Tree} →
    Can (node kind.IfStatement w g s e (part test (part t (gap none))))
unfolding flow.normal flow.nth_normal
no_branch_can {t = t} = record { normal = or_right (flow.normal t) true refl }

-- Loops

while_can : {w : List ℕ} {g : Flags} {s e : ℕ} {test body : Tree} → (may_be_false test ≡ true) ⊎ Stands flow.Break body →
    Can (node kind.WhileStatement w g s e (part test (part body none)))
unfolding flow.normal
while_can {test = t} {body = u} (inl h) =
    record {
      normal = or_left (not (flow.always (Some t))) (flow.some flow.Break (part t (part u none)))
          (ap not (not_always t h));
    }
while_can {test = t} {body = u} (inr h) =
    let i : SomeStands flow.Break (part t (part u none)) = in_rest (in_first h) in
    record { normal = or_right (not (flow.always (Some t))) (flow.some flow.Break (part t (part u none))) i.some_stands }

for_can : {w : List ℕ} {g : Flags} {s e : ℕ} (ps : Parts) {body : Tree} → part_at ps 3 ≡ Some body →
    (may_end (part_at ps 1) ≡ true) ⊎ Stands flow.Break body → Can (node kind.ForStatement w g s e ps)
unfolding flow.normal
for_can ps p (inl h) =
    record {
      normal = or_left (not (flow.always_or_gap (part_at ps 1))) (flow.some flow.Break ps)
          (ap not (not_always_or_gap (part_at ps 1) h));
    }
for_can ps p (inr h) =
    let i : SomeStands flow.Break ps = at_place ps 3 p h in
    record { normal = or_right (not (flow.always_or_gap (part_at ps 1))) (flow.some flow.Break ps) i.some_stands }

broken_do_can : {w : List ℕ} {g : Flags} {s e : ℕ} {body test : Tree} → Stands flow.Break body →
    Can (node kind.DoWhileStatement w g s e (part body (part test none)))
unfolding flow.normal
broken_do_can {body = u} {test = t} h =
    let i : SomeStands flow.Break (part u (part t none)) = in_first h in
    record { normal = or_right _ _ i.some_stands }

-- a round may end with the test
data Tested (body : Tree) : Type 0 where
  completed : Can body → Tested body
  jumped : Stands flow.Continue body → Tested body
  jumped_to : Stands flow.LabelledContinue body → Tested body

tested : {c : Completion} {body : Tree} → GoesOn c → (is_normal c ≡ true → Can body) →
    ((x : flow.Sought) → Seeks c x → Stands x body) → Tested body
tested (normally h) f g = completed (f h)
tested (continued s) f g = jumped (g flow.Continue s)
tested (continued_to s) f g = jumped_to (g flow.LabelledContinue s)

tested_do_can : {w : List ℕ} {g : Flags} {s e : ℕ} {body test : Tree} → is_simple (kind_of test) ≡ true →
    may_be_false test ≡ true → Tested body → Can (node kind.DoWhileStatement w g s e (part body (part test none)))
unfolding flow.normal
tested_do_can {body = u} {test = t} h m d = record { normal = or_left _ _ (both (ap not (not_always t m)) (of d)) }
  where
    in_body : {x : flow.Sought} → Stands x u → SomeStands x (part u (part t none))
    in_body i = in_first i

    of : Tested u →
        (flow.all_normal (part u (part t none)) ||
        (flow.some flow.Continue (part u (part t none)) || flow.some flow.LabelledContinue (part u (part t none)))) ≡ true
    of (completed i) = or_left _ _ (one_more i (one_more (test_can t h) no_parts)).all_normal
    of (jumped i) = or_right _ _ (or_left _ _ (in_body i).some_stands)
    of (jumped_to i) = or_right _ _ (or_right _ _ (in_body i).some_stands)

-- Labels

-- what a labelled statement completes normally behind
data LabelEnded (label : List ℕ) (c : Completion) : Type 0 where
  unlabelled : is_normal c ≡ true → LabelEnded label c
  broken_off : Seeks c (flow.BreakOf label) → LabelEnded label c

label_ends : (label : List ℕ) (c : Completion) → is_normal (after_label label c) ≡ true → LabelEnded label c
label_ends w Normal h = unlabelled refl
label_ends w (Break None) h = absurd (cc)
label_ends w (Break (Some v)) h = of (bytes_eq v w) refl h
  where
    of : (b : Bool) → bytes_eq v w ≡ b → is_normal (cond b Normal (Break (Some v))) ≡ true → LabelEnded w (Break (Some v))
    of true e i = broken_off (subst (λ u. Seeks (Break (Some v)) (flow.BreakOf u)) ((bytes_eq-Decides v w).0 e) a_break_of)
    of false e i = absurd (cc)
label_ends w (Continue o) h = absurd (cc)
label_ends w (Return r) h = absurd (cc)
label_ends w Throw h = absurd (cc)

label_left : {label : List ℕ} {c : Completion} {body : Tree} → LabelEnded label c → (is_normal c ≡ true → Can body) →
    (Seeks c (flow.BreakOf label) → Stands (flow.BreakOf label) body) → Can body ⊎ Stands (flow.BreakOf label) body
label_left (unlabelled h) f g = inl (f h)
label_left (broken_off s) f g = inr (g s)

labelled_can : {w : List ℕ} {g : Flags} {s e : ℕ} {label body : Tree} → is_identifier (kind_of label) ≡ true →
    Can body ⊎ Stands (flow.BreakOf (text_of label)) body → Can (node kind.LabeledStatement w g s e (part label (part body none)))
unfolding flow.normal
labelled_can {label = t} h (inl i) = record { normal = or_left _ _ (one_more (named_can t h) (one_more i no_parts)).all_normal }
labelled_can {label = t} {body = u} h (inr i) =
    let j : SomeStands (flow.BreakOf (text_of t)) (part t (part u none)) = in_rest (in_first i) in
    record { normal = or_right _ _ j.some_stands }

-- `switch` and `try`

passed_can : {w : List ℕ} {g : Flags} {s e : ℕ} (ps : Parts) → has_default ps ≡ false → Can (node kind.SwitchStatement w g s e ps)
unfolding flow.normal
passed_can ps h = record { normal = or_left _ _ (ap not (no_default ps h)) }

entered_can : {w : List ℕ} {g : Flags} {s e : ℕ} {value : Tree} {cases entered : Parts} → From cases entered →
    AllCan entered ⊎ SomeStands flow.Break entered → Can (node kind.SwitchStatement w g s e (part value cases))
unfolding flow.normal flow.last_normal
entered_can {value = t} f (inl h) = record { normal = or_right _ _ (or_left _ _ (last_entered f (flow.normal t) h)) }
entered_can {value = t} {cases = ps} f (inr h) =
    let i : SomeStands flow.Break (part t ps) = in_rest (some_entered f h) in
    record { normal = or_right _ _ (or_right _ _ i.some_stands) }

-- the finalizer can, if there is one
pub record FinalizerCan (rest : Parts) : Type 0 where
  pub finalizer_normal : flow.nth_normal 0 true rest ≡ true

no_finalizer_can : FinalizerCan (gap none)
unfolding flow.nth_normal
no_finalizer_can = record { finalizer_normal = refl }

finalizer_can : {t : Tree} → Can t → FinalizerCan (part t none)
unfolding flow.nth_normal
finalizer_can h = record { finalizer_normal = h.normal }

block_tried : {w : List ℕ} {g : Flags} {s e : ℕ} {body handler : Tree} {rest : Parts} → Can body → FinalizerCan rest →
    Can (node kind.TryStatement w g s e (part body (part handler rest)))
unfolding flow.normal flow.nth_normal
block_tried h i = record { normal = both (or_left _ _ h.normal) i.finalizer_normal }

handler_tried : {w : List ℕ} {g : Flags} {s e : ℕ} {body handler : Tree} {rest : Parts} → Can handler → FinalizerCan rest →
    Can (node kind.TryStatement w g s e (part body (part handler rest)))
unfolding flow.normal flow.nth_normal
handler_tried h i = record { normal = both (or_right _ _ h.normal) i.finalizer_normal }

block_tried_alone : {w : List ℕ} {g : Flags} {s e : ℕ} {body : Tree} {rest : Parts} → Can body → FinalizerCan rest →
    Can (node kind.TryStatement w g s e (part body (gap rest)))
unfolding flow.normal flow.nth_normal
block_tried_alone h i = record { normal = both (or_left _ _ h.normal) i.finalizer_normal }

mutual
  pub can : {labels : Labels} {t : Tree} {c : Completion} → Completes labels t c → is_normal c ≡ true → Can t
  can (simple h) n = simple_can h
  can throws n = absurd (cc)
  can returns_at_yield n = absurd (cc)
  can (program d) n = program_can
  can (block d) n = block_can (all_can d n)
  can (if_true d) n = first_branch_can (can d n)
  can (if_false d) n = second_branch_can (can d n)
  can if_neither n = no_branch_can
  can {labels = labels} (do_left {c = c} d l e) n = broken_do_can (sought d (broken labels c l (ap is_normal e ∙ n)))
  can {labels = labels} (do_goes_on {c = c} h d l r) n =
      either (rounds_can r n) (λ m. tested_do_can h m (tested (goes_on labels c l) (λ i. can d i) (λ x s. sought d s)))
      (λ i. broken_do_can i)
  can (while r) n = while_can (rounds_can r n)
  can (for {parts = ps} h r) n = for_can ps h (rounds_can r n)
  can (for_in r) n = for_in_can
  can (for_of r) n = for_of_can
  can continue n = absurd (cc)
  can (continue_to i) n = absurd (cc)
  can break n = absurd (cc)
  can (break_to i) n = absurd (cc)
  can return n = absurd (cc)
  can return_value n = absurd (cc)
  can (switch_entered {c = c} f d e) n =
      either (normal_or_broken c (ap is_normal e ∙ n)) (λ i. entered_can f (inl (all_can d i)))
      (λ s. entered_can f (inr (sought_list d s)))
  can (switch_passed {parts = ps} h) n = passed_can ps h
  can (case {test = t} h d) n = case_can (one_more (test_can t h) (all_can d n))
  can (default d) n = case_can (gap_more (all_can d n))
  can (labelled {label = t} {c = c} h d e) n =
      labelled_can h (label_left (label_ends (text_of t) c (ap is_normal e ∙ n)) (λ i. can d i) (λ s. sought d s))
  can (try_passed d h f) n = let o = finally_can f n in block_tried (can d o.0) o.1
  can (try_caught d h f) n = let o = finally_can f n in handler_tried (can h o.0) o.1
  can (try_alone d f) n = let o = finally_can f n in block_tried_alone (can d o.0) o.1
  can (catch {parameter = t} h d) n = catch_can (one_more (test_can t h) (one_more (can d n) no_parts))
  can (catch_all d) n = catch_can (gap_more (one_more (can d n) no_parts))

  pub all_can : {ps : Parts} {c : Completion} → ListCompletes ps c → is_normal c ≡ true → AllCan ps
  all_can all_done n = no_parts
  all_can (done d l) n = one_more (can d refl) (all_can l n)
  all_can (left d h) n = absurd (cc)

  -- a loop ends by its test, or a `break` leaves it
  rounds_can : {labels : Labels} {body : Tree} {b : Bool} {c : Completion} → Rounds labels body b c → is_normal c ≡ true →
      (b ≡ true) ⊎ Stands flow.Break body
  rounds_can ended n = inl refl
  rounds_can {labels = labels} (leaves {c = c} d l e) n = inr (sought d (broken labels c l (ap is_normal e ∙ n)))
  rounds_can (again d l r) n = rounds_can r n

  finally_can : {rest : Parts} {c d : Completion} → Finally rest c d → is_normal d ≡ true →
      (is_normal c ≡ true) × FinalizerCan rest
  finally_can no_finalizer n = (n, no_finalizer_can)
  finally_can (kept d) n = (n, finalizer_can (can d refl))
  finally_can (overridden d h) n = absurd (cc)
