-- What a statement completes abruptly by stands in it and leaves it.
use Rattle.std.proofs.Common.{◌≡◌, ℕ, zero, suc, Bool, true, false, cond, List, refl, sym, ap, subst, ◌∙◌, ◌⊎◌, inl, inr}
use Rattle.std.specs.Prelude.{not, ◌&&◌, ◌||◌, Option, Some, None}
use Rattle.std.specs.Str.{bytes_eq}
use Rattle.std.proofs.lemmas.Slice.Eq.{bytes_eq-Decides}
use Rattle.tree.specs.declared.kind.Kind.{Kind}
use Rattle.tree.specs.declared.kind.Kind.TheVariants as kind
use Rattle.tree.specs.declared.kind.Flags.{Flags}
use Rattle.tree.specs.Kinds.{is_loop}
use Rattle.tree.specs.Tree.{Tree, node, Parts, none, part, gap, part_at, text_of}
use Rattle.flow_rules.specs.Completion as flow
use Rattle.flow_rules.specs.KindSets.{is_code, is_switch}
use Rattle.completion_laws.specs.Completions.{Completion, Normal, Break, Continue, Return, Throw, WithArgument, WithoutArgument, Labels, loop_continues, after_break, after_label, From, here, later, Completes, simple, throws, returns_at_yield, program, block, if_true, if_false, if_neither, do_left, do_goes_on, while, for, for_in, for_of, continue, continue_to, break, break_to, return, return_value, switch_entered, switch_passed, case, default, labelled, try_passed, try_caught, try_alone, catch, catch_all, ListCompletes, all_done, done, left, Rounds, ended, leaves, again, Finally, no_finalizer, kept, overridden}

-- what is looked for in what completes so
pub data Seeks : Completion → flow.Sought → Type 0 where
  a_break : Seeks (Break None) flow.Break
  a_break_of : {label : List ℕ} → Seeks (Break (Some label)) (flow.BreakOf label)
  a_labelled_break : {label : List ℕ} → Seeks (Break (Some label)) flow.LabelledBreak
  a_continue : Seeks (Continue None) flow.Continue
  a_labelled_continue : {label : List ℕ} → Seeks (Continue (Some label)) flow.LabelledContinue
  a_value : Seeks (Return WithArgument) flow.ReturnsValue
  an_empty : Seeks (Return WithoutArgument) flow.ReturnsNothing

pub record Stands (x : flow.Sought) (t : Tree) : Type 0 where
  pub stands : flow.has x t ≡ true

pub record SomeStands (x : flow.Sought) (ps : Parts) : Type 0 where
  pub some_stands : flow.some x ps ≡ true

pub or_left : (a b : Bool) → a ≡ true → (a || b) ≡ true
or_left a b h = ap (λ c. c || b) h

pub or_right : (a b : Bool) → b ≡ true → (a || b) ≡ true
or_right true b h = refl
or_right false b h = h

neither : (a b c : Bool) → (a || (b || c)) ≡ false → (a || b) ≡ false
neither true b c h = h
neither false true c h = h
neither false false c h = refl

not_first : (a b : Bool) → (a || b) ≡ false → a ≡ false
not_first true b h = h
not_first false b h = refl

-- Where it stands

pub in_first : {x : flow.Sought} {t : Tree} {ps : Parts} → Stands x t → SomeStands x (part t ps)
unfolding flow.some
in_first {x = x} {t = t} {ps = ps} h = record { some_stands = or_left (flow.has x t) (flow.some x ps) h.stands }

pub in_rest : {x : flow.Sought} {t : Tree} {ps : Parts} → SomeStands x ps → SomeStands x (part t ps)
unfolding flow.some
in_rest {x = x} {t = t} {ps = ps} h = record { some_stands = or_right (flow.has x t) (flow.some x ps) h.some_stands }

pub behind_gap : {x : flow.Sought} {ps : Parts} → SomeStands x ps → SomeStands x (gap ps)
unfolding flow.some
behind_gap h = record { some_stands = h.some_stands }

pub at_place : {x : flow.Sought} {t : Tree} (ps : Parts) (i : ℕ) → part_at ps i ≡ Some t → Stands x t → SomeStands x ps
at_place none i e h = absurd (cc)
at_place {x = x} (part u ps) zero e h = in_first (subst (λ o. of o) (sym e) h)
  where
    of : Option Tree → Type 0
    of None = Stands x u
    of (Some v) = Stands x v
at_place (part u ps) (suc i) e h = in_rest (at_place ps i e h)
at_place (gap ps) zero e h = absurd (cc)
at_place (gap ps) (suc i) e h = behind_gap (at_place ps i e h)

-- a node that doesn't end the search hands on what stands in its parts
pub below : {x : flow.Sought} {k : Kind} {w : List ℕ} {g : Flags} {s e : ℕ} {ps : Parts} → flow.ends x k ≡ false →
    SomeStands x ps → Stands x (node k w g s e ps)
unfolding flow.has
below {x = x} {k = k} {ps = ps} c h =
    record {
      stands = or_right (flow.is_sought x k (part_at ps 0)) (not (flow.ends x k) && flow.some x ps)
          (ap (λ b. not b && flow.some x ps) c ∙ h.some_stands);
    }

pub itself : {x : flow.Sought} {k : Kind} {w : List ℕ} {g : Flags} {s e : ℕ} {ps : Parts} →
    flow.is_sought x k (part_at ps 0) ≡ true → Stands x (node k w g s e ps)
unfolding flow.has
itself {x = x} {k = k} {ps = ps} h =
    record { stands = or_left (flow.is_sought x k (part_at ps 0)) (not (flow.ends x k) && flow.some x ps) h }

-- What ends a search

-- code, loops and `switch`, at most
passes : {c : Completion} {x : flow.Sought} → Seeks c x → (k : Kind) → flow.ends flow.Break k ≡ false → flow.ends x k ≡ false
passes a_break k h = h
passes a_break_of k h = not_first (is_code k) _ h
passes a_labelled_break k h = not_first (is_code k) _ h
passes a_continue k h = neither (is_code k) (is_loop k) (is_switch k) h
passes a_labelled_continue k h = not_first (is_code k) _ h
passes a_value k h = not_first (is_code k) _ h
passes an_empty k h = not_first (is_code k) _ h

-- but for what has no label, code alone
abbrev PassesLoops : flow.Sought → Type 0
PassesLoops x = (k : Kind) → flow.ends x k ≡ is_code k

-- what a loop hands on has a label, or is a `return`
abbrev goes_far : Completion → Bool
goes_far (Break (Some label)) = true
goes_far (Continue (Some label)) = true
goes_far (Return r) = true
goes_far _ = false

far : {c : Completion} {x : flow.Sought} → Seeks c x → goes_far c ≡ true → PassesLoops x
far a_break h k = absurd (cc)
far a_break_of h k = refl
far a_labelled_break h k = refl
far a_continue h k = absurd (cc)
far a_labelled_continue h k = refl
far a_value h k = refl
far an_empty h k = refl

-- what leaves a loop
out_of_loop : (labels : Labels) (c : Completion) (x : flow.Sought) → loop_continues labels c ≡ false → Seeks (after_break c) x →
    Seeks c x × PassesLoops x
out_of_loop labels Normal x l h = elim h [ ]
out_of_loop labels (Break None) x l h = elim h [ ]
out_of_loop labels (Break (Some w)) x l h = (h, far h refl)
out_of_loop labels (Continue None) x l h = absurd (cc)
out_of_loop labels (Continue (Some w)) x l h = (h, far h refl)
out_of_loop labels (Return r) x l h = (h, far h refl)
out_of_loop labels Throw x l h = elim h [ ]

abbrev continues : Completion → Bool
continues (Continue None) = true
continues _ = false

unlabelled : {c : Completion} {x : flow.Sought} → Seeks c x → continues c ≡ true → flow.ends x kind.SwitchStatement ≡ false
unlabelled a_break h = absurd (cc)
unlabelled a_break_of h = absurd (cc)
unlabelled a_labelled_break h = absurd (cc)
unlabelled a_continue h = refl
unlabelled a_labelled_continue h = absurd (cc)
unlabelled a_value h = absurd (cc)
unlabelled an_empty h = absurd (cc)

-- what leaves a `switch`
out_of_switch : (c : Completion) (x : flow.Sought) → Seeks (after_break c) x →
    Seeks c x × (flow.ends x kind.SwitchStatement ≡ false)
out_of_switch Normal x h = elim h [ ]
out_of_switch (Break None) x h = elim h [ ]
out_of_switch (Break (Some w)) x h = (h, far h refl kind.SwitchStatement)
out_of_switch (Continue None) x h = (h, unlabelled h refl)
out_of_switch (Continue (Some w)) x h = (h, far h refl kind.SwitchStatement)
out_of_switch (Return r) x h = (h, far h refl kind.SwitchStatement)
out_of_switch Throw x h = elim h [ ]

-- what leaves a labelled statement
out_of_label : (label : List ℕ) (c : Completion) (x : flow.Sought) → Seeks (after_label label c) x → Seeks c x
out_of_label label Normal x h = h
out_of_label label (Break None) x h = h
out_of_label label (Break (Some w)) x h = of (bytes_eq w label) h
  where
    of : (b : Bool) → Seeks (cond b Normal (Break (Some w))) x → Seeks (Break (Some w)) x
    of true i = elim i [ ]
    of false i = i
out_of_label label (Continue o) x h = h
out_of_label label (Return r) x h = h
out_of_label label Throw x h = h

pub either : {A B C : Type 0} → A ⊎ B → (A → C) → (B → C) → C
either (inl a) f g = f a
either (inr b) f g = g b

same_text : (w : List ℕ) → bytes_eq w w ≡ true
same_text w = (bytes_eq-Decides w w).1 refl

pub some_entered : {x : flow.Sought} {cases entered : Parts} → From cases entered → SomeStands x entered → SomeStands x cases
some_entered here h = h
some_entered (later f) h = in_rest (some_entered f h)

mutual
  pub sought : {labels : Labels} {t : Tree} {c : Completion} {x : flow.Sought} → Completes labels t c → Seeks c x → Stands x t
  sought (simple h) s = elim s [ ]
  sought throws s = elim s [ ]
  sought returns_at_yield s = elim s [ ]
  sought (program d) s = below (passes s kind.Program refl) (sought_list d s)
  sought (block d) s = below (passes s kind.BlockStatement refl) (sought_list d s)
  sought (if_true d) s = below (passes s kind.IfStatement refl) (in_rest (in_first (sought d s)))
  sought (if_false d) s = below (passes s kind.IfStatement refl) (in_rest (in_rest (in_first (sought d s))))
  sought if_neither s = elim s [ ]
  sought {labels = labels} {x = x} (do_left {c = c} d l e) s =
      let o : Seeks c x × PassesLoops x = out_of_loop labels c x l (subst (λ d. Seeks d x) (sym e) s) in
      below (o.1 kind.DoWhileStatement) (in_first (sought d o.0))
  sought (do_goes_on h d l r) s = let o = sought_rounds r s in below (o.1 kind.DoWhileStatement) (in_first o.0)
  sought (while r) s = let o = sought_rounds r s in below (o.1 kind.WhileStatement) (in_rest (in_first o.0))
  sought (for {parts = ps} h r) s = let o = sought_rounds r s in below (o.1 kind.ForStatement) (at_place ps 3 h o.0)
  sought (for_in r) s = let o = sought_rounds r s in below (o.1 kind.ForInStatement) (in_rest (in_rest (in_first o.0)))
  sought (for_of r) s = let o = sought_rounds r s in below (o.1 kind.ForOfStatement) (in_rest (in_rest (in_first o.0)))
  sought continue a_continue = itself refl
  sought (continue_to i) a_labelled_continue = itself refl
  sought break a_break = itself refl
  sought (break_to {label = t} i) a_break_of = itself (same_text (text_of t))
  sought (break_to i) a_labelled_break = itself refl
  sought return an_empty = itself refl
  sought return_value a_value = itself refl
  sought {x = x} (switch_entered {c = c} f d e) s =
      let o = out_of_switch c x (subst (λ d. Seeks d x) (sym e) s) in
      below o.1 (in_rest (some_entered f (sought_list d o.0)))
  sought (switch_passed h) s = elim s [ ]
  sought (case h d) s = below (passes s kind.SwitchCase refl) (in_rest (sought_list d s))
  sought (default d) s = below (passes s kind.SwitchCase refl) (behind_gap (sought_list d s))
  sought {x = x} (labelled {label = t} {c = c} h d e) s =
      let o = out_of_label (text_of t) c x (subst (λ d. Seeks d x) (sym e) s) in
      below (passes s kind.LabeledStatement refl) (in_rest (in_first (sought d o)))
  sought (try_passed d h f) s =
      below (passes s kind.TryStatement refl)
      (either (sought_finally f s) (λ o. in_first (sought d o)) (λ o. in_rest (in_rest o)))
  sought (try_caught d h f) s =
      below (passes s kind.TryStatement refl)
      (either (sought_finally f s) (λ o. in_rest (in_first (sought h o))) (λ o. in_rest (in_rest o)))
  sought (try_alone d f) s =
      below (passes s kind.TryStatement refl)
      (either (sought_finally f s) (λ o. in_first (sought d o)) (λ o. in_rest (behind_gap o)))
  sought (catch h d) s = below (passes s kind.CatchClause refl) (in_rest (in_first (sought d s)))
  sought (catch_all d) s = below (passes s kind.CatchClause refl) (behind_gap (in_first (sought d s)))

  pub sought_list : {ps : Parts} {c : Completion} {x : flow.Sought} → ListCompletes ps c → Seeks c x → SomeStands x ps
  sought_list all_done s = elim s [ ]
  sought_list (done d l) s = in_rest (sought_list l s)
  sought_list (left d h) s = in_first (sought d s)

  sought_rounds : {labels : Labels} {body : Tree} {b : Bool} {c : Completion} {x : flow.Sought} → Rounds labels body b c →
      Seeks c x → Stands x body × PassesLoops x
  sought_rounds ended s = elim s [ ]
  sought_rounds {labels = labels} {x = x} (leaves {c = c} d l e) s =
      let o : Seeks c x × PassesLoops x = out_of_loop labels c x l (subst (λ d. Seeks d x) (sym e) s) in
      (sought d o.0, o.1)
  sought_rounds (again d l r) s = sought_rounds r s

  -- in the finalizer, or in what it is behind
  sought_finally : {ps : Parts} {c d : Completion} {x : flow.Sought} → Finally ps c d → Seeks d x → Seeks c x ⊎ SomeStands x ps
  sought_finally no_finalizer s = inl s
  sought_finally (kept d) s = inl s
  sought_finally (overridden d h) s = inr (in_first (sought d s))
