-- In a script without early errors no jump leaves code.
use Rattle.std.proofs.Common.{◌≡◌, ℕ, zero, suc, Bool, true, false, cond, List, [], ◌∷◌, ◌++◌, map, refl, sym, subst, ◌⊎◌, inl, inr}
use Rattle.std.specs.Prelude.{not, ◌&&◌, ◌||◌, Option, Some, None}
use Rattle.std.specs.Str.{bytes_eq}
use Rattle.std.proofs.lemmas.Bool.{false≢true}
use Rattle.std.proofs.lemmas.Slice.Eq.{bytes_eq-Decides}
use Rattle.tree.specs.declared.kind.Kind.{Kind}
use Rattle.tree.specs.declared.kind.Kind.TheVariants as kind
use Rattle.tree.specs.declared.kind.Flags.{Flags}
use Rattle.tree.specs.Kinds.{is_identifier, is_function}
use Rattle.tree.specs.Tree.{Tree, node, Parts, none, part, gap, kind_of, part_at, text_of}
use Rattle.name_tables.specs.BoundNames.{bound_names, first_bound_names}
use Rattle.flow_rules.specs.Completion as flow
use Rattle.early_errors.specs.Around.{Around, Label, is_parameter, settled, around_first, around_others, labels_loop, last_loop, outside_of}
use Rattle.early_errors.specs.Labels.{misplaced_jump, undefined_label, labels_statement, labels_a_loop}
use Rattle.early_errors.specs.declared.EarlyError.{EarlyError}
use Rattle.early_errors.specs.Early.{Error, number, each, each_of, own_places, own_errors, errors_within, parts_errors, errors}
use Rattle.completion_laws.specs.Completions.{Completion, Normal, Break, Continue, Return, Throw, WithArgument, WithoutArgument, AtYield, Labels, is_label, loop_continues, after_break, after_label, From, here, later, Completes, simple, throws, returns_at_yield, program, block, if_true, if_false, if_neither, do_left, do_goes_on, while, for, for_in, for_of, continue, continue_to, break, break_to, return, return_value, switch_entered, switch_passed, case, default, labelled, try_passed, try_caught, try_alone, catch, catch_all, ListCompletes, all_done, done, left, Rounds, ended, leaves, again, Finally, no_finalizer, kept, overridden}
use Rattle.completion_laws.specs.FunctionBodies.{FunctionBody, here as here_in, below as below_it}
use Rattle.completion_laws.specs.Laws.{gives_or_throws, gives_undefined, leaves_no_code}
use Rattle.completion_laws.proofs.Leaving.{either}
use Rattle.completion_laws.proofs.RuleLaws.{never_without}

-- Errors of parts

pub record Fine (z : Around) (t : Tree) : Type 0 where
  pub fine : errors_within z t ≡ []

pub record FineParts (y z : Around) (ps : Parts) : Type 0 where
  pub fine_parts : parts_errors y z ps ≡ []

nils : {X : Type 0} (xs ys : List X) → xs ++ ys ≡ [] → (xs ≡ []) × (ys ≡ [])
nils [] ys h = (refl, h)
nils (x ∷ xs) ys h = absurd (cc)

in_parts : {z : Around} {k : Kind} {w : List ℕ} {g : Flags} {s e : ℕ} {ps : Parts} → Fine z (node k w g s e ps) →
    FineParts (around_first (settled z k) k g ps) (around_others (settled z k) k g ps) ps
unfolding errors_within
in_parts h = record { fine_parts = (nils _ _ h.fine).1 }

own : {z : Around} {k : Kind} {w : List ℕ} {g : Flags} {s e : ℕ} {ps : Parts} → Fine z (node k w g s e ps) →
    own_errors (settled z k) (node k w g s e ps) ≡ []
unfolding errors_within
own h = (nils _ _ h.fine).0

first_fine : {y z : Around} {t : Tree} {ps : Parts} → FineParts y z (part t ps) → Fine y t
unfolding parts_errors
first_fine h = record { fine = (nils _ _ h.fine_parts).0 }

rest_fine : {y z : Around} {t : Tree} {ps : Parts} → FineParts y z (part t ps) → FineParts z z ps
unfolding parts_errors
rest_fine h = record { fine_parts = (nils _ _ h.fine_parts).1 }

gap_fine : {y z : Around} {ps : Parts} → FineParts y z (gap ps) → FineParts z z ps
unfolding parts_errors
gap_fine h = record { fine_parts = h.fine_parts }

-- What may leave a place

abbrev stays : Bool → Bool → List Label → Completion → Bool
stays in_loop in_switch labels Normal = true
stays in_loop in_switch labels (Break None) = in_loop || in_switch
stays in_loop in_switch labels (Break (Some target)) = labels_statement labels target
stays in_loop in_switch labels (Continue None) = in_loop
stays in_loop in_switch labels (Continue (Some target)) = labels_a_loop labels target
stays in_loop in_switch labels (Return returner) = true
stays in_loop in_switch labels Throw = true

pub record Stays (z : Around) (c : Completion) : Type 0 where
  pub place : stays z.in_loop z.in_switch z.labels c ≡ true

at_settled : {z : Around} (k : Kind) {c : Completion} → Stays (settled z k) c → Stays z c
at_settled {z = z} k {c = c} h = of (z.is_body && not (is_parameter k)) h
  where
    of : (b : Bool) → Stays (cond b (record z { yields = z.of_generator; awaits = z.of_async }) z) c → Stays z c
    of true i = record { place = i.place }
    of false i = i

not_in_loop : (a s : Bool) (ls : List Label) (c : Completion) → stays (a || false) s ls c ≡ true → stays a s ls c ≡ true
not_in_loop true s ls c h = h
not_in_loop false s ls c h = h

-- what nothing need be round of
freely : (a s : Bool) (ls : List Label) (c : Completion) → stays false false ls c ≡ true → stays a s ls c ≡ true
freely a s ls Normal h = refl
freely a s ls (Break None) h = absurd (false≢true h)
freely a s ls (Break (Some v)) h = h
freely a s ls (Continue None) h = absurd (false≢true h)
freely a s ls (Continue (Some v)) h = h
freely a s ls (Return r) h = refl
freely a s ls Throw h = refl

out_of_loop : (labels : Labels) (a s : Bool) (ls : List Label) (c : Completion) → stays a s ls c ≡ true →
    loop_continues labels c ≡ false →
    stays false false ls (after_break c) ≡ true
out_of_loop labels a s ls Normal h l = refl
out_of_loop labels a s ls (Break None) h l = refl
out_of_loop labels a s ls (Break (Some v)) h l = h
out_of_loop labels a s ls (Continue None) h l = absurd (cc)
out_of_loop labels a s ls (Continue (Some v)) h l = h
out_of_loop labels a s ls (Return r) h l = refl
out_of_loop labels a s ls Throw h l = refl

out_of_switch : (a s : Bool) (ls : List Label) (c : Completion) → stays a true ls c ≡ true → stays a s ls (after_break c) ≡ true
out_of_switch a s ls Normal h = refl
out_of_switch a s ls (Break None) h = refl
out_of_switch a s ls (Break (Some v)) h = h
out_of_switch a s ls (Continue None) h = h
out_of_switch a s ls (Continue (Some v)) h = h
out_of_switch a s ls (Return r) h = refl
out_of_switch a s ls Throw h = refl

-- A loop takes each `continue` with a label of its own

abbrev is_own : Labels → Completion → Bool
is_own labels (Continue None) = true
is_own labels (Continue (Some target)) = is_label target labels
is_own labels _ = false

left_isnt_own : (labels : Labels) (c : Completion) → loop_continues labels c ≡ false → is_own labels (after_break c) ≡ false
left_isnt_own labels Normal l = refl
left_isnt_own labels (Break None) l = refl
left_isnt_own labels (Break (Some v)) l = refl
left_isnt_own labels (Continue None) l = absurd (cc)
left_isnt_own labels (Continue (Some v)) l = l
left_isnt_own labels (Return r) l = refl
left_isnt_own labels Throw l = refl

rounds_arent_own : {labels : Labels} {body : Tree} {b : Bool} {c : Completion} → Rounds labels body b c → is_own labels c ≡ false
rounds_arent_own ended = refl
rounds_arent_own {labels = labels} (leaves {c = c} d l e) = subst (λ d. is_own labels d ≡ false) e (left_isnt_own labels c l)
rounds_arent_own (again d l r) = rounds_arent_own r

second_false : (a b : Bool) → (a || b) ≡ false → b ≡ false
second_false true b h = absurd (cc)
second_false false b h = h

first_false : (a b : Bool) → (a || b) ≡ false → a ≡ false
first_false true b h = h
first_false false b h = refl

label_isnt_own : (labels : Labels) (w : List ℕ) (c : Completion) → is_own (w ∷ labels) c ≡ false →
    is_own labels (after_label w c) ≡ false
label_isnt_own labels w Normal h = refl
label_isnt_own labels w (Break None) h = refl
label_isnt_own labels w (Break (Some v)) h = of (bytes_eq v w)
  where
    of : (b : Bool) → is_own labels (cond b Normal (Break (Some v))) ≡ false
    of true = refl
    of false = refl
label_isnt_own labels w (Continue None) h = h
label_isnt_own labels w (Continue (Some v)) h = second_false (bytes_eq v w) (is_label v labels) h
label_isnt_own labels w (Return r) h = refl
label_isnt_own labels w Throw h = refl

isnt_own : {labels : Labels} {t : Tree} {c : Completion} → Completes labels t c → labels_loop t ≡ true → is_own labels c ≡ false
unfolding labels_loop last_loop
isnt_own (simple i) h = refl
isnt_own throws h = refl
isnt_own returns_at_yield h = refl
isnt_own (program d) h = absurd (false≢true h)
isnt_own (block d) h = absurd (false≢true h)
isnt_own (if_true d) h = absurd (false≢true h)
isnt_own (if_false d) h = absurd (false≢true h)
isnt_own if_neither h = refl
isnt_own {labels = labels} (do_left {c = c} d l e) h = subst (λ d. is_own labels d ≡ false) e (left_isnt_own labels c l)
isnt_own (do_goes_on i d l r) h = rounds_arent_own r
isnt_own (while r) h = rounds_arent_own r
isnt_own (for i r) h = rounds_arent_own r
isnt_own (for_in r) h = rounds_arent_own r
isnt_own (for_of r) h = rounds_arent_own r
isnt_own continue h = absurd (false≢true h)
isnt_own (continue_to i) h = absurd (false≢true h)
isnt_own break h = refl
isnt_own (break_to i) h = refl
isnt_own return h = refl
isnt_own return_value h = refl
isnt_own (switch_entered f d e) h = absurd (false≢true h)
isnt_own (switch_passed i) h = refl
isnt_own (case i d) h = absurd (false≢true h)
isnt_own (default d) h = absurd (false≢true h)
isnt_own {labels = labels} (labelled {label = t} {c = c} i d e) h =
    subst (λ d. is_own labels d ≡ false) e (label_isnt_own labels (text_of t) c (isnt_own d h))
isnt_own (try_passed d i f) h = absurd (false≢true h)
isnt_own (try_caught d i f) h = absurd (false≢true h)
isnt_own (try_alone d f) h = absurd (false≢true h)
isnt_own (catch i d) h = absurd (false≢true h)
isnt_own (catch_all d) h = absurd (false≢true h)

-- Labels

different : (v w : List ℕ) → bytes_eq v w ≡ false → bytes_eq w v ≡ false
different v w h = of (bytes_eq w v) refl
  where
    of : (b : Bool) → bytes_eq w v ≡ b → bytes_eq w v ≡ false
    of true e = let i = (bytes_eq-Decides v w).1 (sym ((bytes_eq-Decides w v).0 e)) in absurd (cc)
    of false e = e

without_first : (a b : Bool) → a ≡ false → (a || b) ≡ true → b ≡ true
without_first true b h i = absurd (cc)
without_first false b h i = i

both_false : (a b : Bool) → (b ≡ true → a ≡ false) → (a && b) ≡ false
both_false true true f = f refl
both_false true false f = refl
both_false false b f = refl

out_of_label : (labels : Labels) (a s b : Bool) (ls : List Label) (w : List ℕ) (c : Completion) →
    (b ≡ true → is_own (w ∷ labels) c ≡ false) →
    stays a s ((w, b) ∷ ls) c ≡ true → stays a s ls (after_label w c) ≡ true
out_of_label labels a s b ls w Normal f h = refl
out_of_label labels a s b ls w (Break None) f h = h
out_of_label labels a s b ls w (Break (Some v)) f h = of (bytes_eq v w) refl
  where
    of : (d : Bool) → bytes_eq v w ≡ d → stays a s ls (cond d Normal (Break (Some v))) ≡ true
    of true e = refl
    of false e = without_first (bytes_eq w v) (labels_statement ls v) (different v w e) h
out_of_label labels a s b ls w (Continue None) f h = h
out_of_label labels a s b ls w (Continue (Some v)) f h =
    without_first (bytes_eq w v && b) (labels_a_loop ls v)
    (both_false (bytes_eq w v) b (λ e. different v w (first_false (bytes_eq v w) (is_label v labels) (f e)))) h
out_of_label labels a s b ls w (Return r) f h = refl
out_of_label labels a s b ls w Throw f h = refl

-- Jumps themselves

map_nil : (xs : List ℕ) (f : ℕ → Error) → map f xs ≡ [] → xs ≡ []
map_nil [] f h = refl
map_nil (x ∷ xs) f h = absurd (cc)

abbrev nth_places : ℕ → List (EarlyError × List ℕ) → List ℕ
nth_places i [] = []
nth_places zero (x ∷ xs) = x.1
nth_places (suc i) (x ∷ xs) = nth_places i xs

no_places : (i : ℕ) (xs : List (EarlyError × List ℕ)) → each_of xs ≡ [] → nth_places i xs ≡ []
no_places i [] h = refl
no_places zero (x ∷ xs) h = map_nil x.1 (λ p. (number x.0, p)) (nils (each x.0 x.1) (each_of xs) h).0
no_places (suc i) (x ∷ xs) h = no_places i xs (nils (each x.0 x.1) (each_of xs) h).1

misplaced : (y : Around) (t : Tree) → own_errors y t ≡ [] → (misplaced_jump y t ≡ []) × (undefined_label y t ≡ [])
unfolding own_errors
misplaced y t h = (no_places 8 (own_places y t) h, no_places 9 (own_places y t) h)

-- nothing is reported where what is asked for is so
asked : (b : Bool) (p : ℕ) → cond (not b) (p ∷ []) [] ≡ [] → b ≡ true
asked true p h = refl
asked false p h = absurd (cc)

asked_label : (b : Bool) (x : List ℕ × ℕ) → map (λ y. y.1) (cond (not b) (x ∷ []) []) ≡ [] → b ≡ true
asked_label true x h = refl
asked_label false x h = absurd (cc)

own_jump : {z : Around} {k : Kind} {w : List ℕ} {g : Flags} {s e : ℕ} {ps : Parts} → Fine z (node k w g s e ps) →
    (misplaced_jump (settled z k) (node k w g s e ps) ≡ []) × (undefined_label (settled z k) (node k w g s e ps) ≡ [])
own_jump {z = z} {k = k} {w = w} {g = g} {s = s} {e = e} {ps = ps} f = misplaced (settled z k) (node k w g s e ps) (own f)

broken_here : {z : Around} {w : List ℕ} {g : Flags} {s e : ℕ} → Fine z (node kind.BreakStatement w g s e (gap none)) →
    Stays z (Break None)
unfolding misplaced_jump
broken_here {z = z} {s = s} f = at_settled kind.BreakStatement (record { place = asked _ s (own_jump f).0 })

continued_here : {z : Around} {w : List ℕ} {g : Flags} {s e : ℕ} → Fine z (node kind.ContinueStatement w g s e (gap none)) →
    Stays z (Continue None)
unfolding misplaced_jump
continued_here {z = z} {s = s} f = at_settled kind.ContinueStatement (record { place = asked _ s (own_jump f).0 })

broken_off : {z : Around} {w : List ℕ} {g : Flags} {s e : ℕ} (t : Tree) → is_identifier (kind_of t) ≡ true →
    Fine z (node kind.BreakStatement w g s e (part t none)) → Stays z (Break (Some (text_of t)))
unfolding undefined_label bound_names first_bound_names
broken_off (node kind.Identifier v h a b ps) i f =
    at_settled kind.BreakStatement (record { place = asked_label _ (v, a) (own_jump f).1 })
broken_off (node k v h a b ps) i f = absurd (false≢true i)

continued_off : {z : Around} {w : List ℕ} {g : Flags} {s e : ℕ} (t : Tree) → is_identifier (kind_of t) ≡ true →
    Fine z (node kind.ContinueStatement w g s e (part t none)) → Stays z (Continue (Some (text_of t)))
unfolding undefined_label bound_names first_bound_names
continued_off (node kind.Identifier v h a b ps) i f =
    at_settled kind.ContinueStatement (record { place = asked_label _ (v, a) (own_jump f).1 })
continued_off (node k v h a b ps) i f = absurd (false≢true i)

-- Statements

-- what has no place of its own
data Plain : Kind → Type 0 where
  a_program : Plain kind.Program
  a_block : Plain kind.BlockStatement
  an_if : Plain kind.IfStatement
  a_case : Plain kind.SwitchCase
  a_try : Plain kind.TryStatement
  a_catch : Plain kind.CatchClause

plainly : (y : Around) (c : Completion) → stays (y.in_loop || false) y.in_switch y.labels c ≡ true → Stays y c
plainly y c h = record { place = not_in_loop y.in_loop y.in_switch y.labels c h }

up : {z : Around} {k : Kind} (g : Flags) (ps : Parts) {c : Completion} → Plain k → Stays (around_others (settled z k) k g ps) c →
    Stays z c
up {z = z} g ps {c = c} a_program h = at_settled kind.Program (plainly (settled z kind.Program) c h.place)
up {z = z} g ps {c = c} a_block h = at_settled kind.BlockStatement (plainly (settled z kind.BlockStatement) c h.place)
up {z = z} g ps {c = c} an_if h = at_settled kind.IfStatement (plainly (settled z kind.IfStatement) c h.place)
up {z = z} g ps {c = c} a_case h = at_settled kind.SwitchCase (plainly (settled z kind.SwitchCase) c h.place)
up {z = z} g ps {c = c} a_try h = at_settled kind.TryStatement (plainly (settled z kind.TryStatement) c h.place)
up {z = z} g ps {c = c} a_catch h = at_settled kind.CatchClause (plainly (settled z kind.CatchClause) c h.place)

up_loop : {z : Around} (k : Kind) {c : Completion} → stays false false (settled z k).labels c ≡ true → Stays z c
up_loop {z = z} k {c = c} h =
    at_settled k (record { place = freely (settled z k).in_loop (settled z k).in_switch (settled z k).labels c h })

up_switch : {z : Around} (g : Flags) (ps : Parts) {c d : Completion} →
    Stays (around_others (settled z kind.SwitchStatement) kind.SwitchStatement g ps) c →
    after_break c ≡ d → Stays z d
up_switch {z = z} g ps {c = c} h e =
    let y : Around = settled z kind.SwitchStatement in
    at_settled kind.SwitchStatement
    (record {
      place = subst (λ d. stays y.in_loop y.in_switch y.labels d ≡ true) e
          (out_of_switch y.in_loop y.in_switch y.labels c h.place);
    })

up_label : (labels : Labels) {z : Around} (g : Flags) (t u : Tree) {c d : Completion} →
    Stays (around_others (settled z kind.LabeledStatement) kind.LabeledStatement g (part t (part u none))) c →
    (labels_loop u ≡ true → is_own (text_of t ∷ labels) c ≡ false) → after_label (text_of t) c ≡ d → Stays z d
unfolding last_loop
up_label labels {z = z} g t u {c = c} h f e =
    let y : Around = settled z kind.LabeledStatement in
    at_settled kind.LabeledStatement
    (record {
      place = subst (λ d. stays y.in_loop y.in_switch y.labels d ≡ true) e
          (out_of_label labels y.in_loop y.in_switch (labels_loop u) y.labels (text_of t) c f h.place);
    })

left_loop : (labels : Labels) {z : Around} {c d : Completion} → Stays z c → loop_continues labels c ≡ false → after_break c ≡ d →
    stays false false z.labels d ≡ true
left_loop labels {z = z} {c = c} h l e =
    subst (λ d. stays false false z.labels d ≡ true) e (out_of_loop labels z.in_loop z.in_switch z.labels c h.place l)

entered_fine : {z : Around} {cases entered : Parts} → From cases entered → FineParts z z cases → FineParts z z entered
entered_fine here f = f
entered_fine (later i) f = entered_fine i (rest_fine f)

fine_at : {z : Around} (ps : Parts) (i : ℕ) {t : Tree} → part_at ps i ≡ Some t → FineParts z z ps → Fine z t
fine_at none i e f = absurd (cc)
fine_at {z = z} (part u ps) zero e f = subst (λ o. of o) e (first_fine f)
  where
    of : Option Tree → Type 0
    of None = Fine z u
    of (Some v) = Fine z v
fine_at (part u ps) (suc i) e f = fine_at ps i e (rest_fine f)
fine_at (gap ps) zero e f = absurd (cc)
fine_at (gap ps) (suc i) e f = fine_at ps i e (gap_fine f)

mutual
  pub stay : {labels : Labels} {t : Tree} {c : Completion} {z : Around} → Completes labels t c → Fine z t → Stays z c
  stay (simple i) f = record { place = refl }
  stay throws f = record { place = refl }
  stay returns_at_yield f = record { place = refl }
  stay (program {flags = g} {parts = ps} d) f = up g ps a_program (stay_list d (in_parts f))
  stay (block {flags = g} {parts = ps} d) f = up g ps a_block (stay_list d (in_parts f))
  stay (if_true {flags = g} {test = t} {first = u} {rest = ps} d) f =
      up g (part t (part u ps)) an_if (stay d (first_fine (rest_fine (in_parts f))))
  stay (if_false {flags = g} {test = t} {first = u} {second = v} d) f =
      up g (part t (part u (part v none))) an_if (stay d (first_fine (rest_fine (rest_fine (in_parts f)))))
  stay if_neither f = record { place = refl }
  stay {labels = labels} (do_left d l e) f =
      up_loop kind.DoWhileStatement (left_loop labels (stay d (first_fine (in_parts f))) l e)
  stay (do_goes_on i d l r) f = up_loop kind.DoWhileStatement (stay_rounds r (first_fine (in_parts f)))
  stay (while r) f = up_loop kind.WhileStatement (stay_rounds r (first_fine (rest_fine (in_parts f))))
  stay (for {parts = ps} i r) f = up_loop kind.ForStatement (stay_rounds r (fine_at ps 3 i (in_parts f)))
  stay (for_in r) f = up_loop kind.ForInStatement (stay_rounds r (first_fine (rest_fine (rest_fine (in_parts f)))))
  stay (for_of r) f = up_loop kind.ForOfStatement (stay_rounds r (first_fine (rest_fine (rest_fine (in_parts f)))))
  stay continue f = continued_here f
  stay (continue_to {label = t} i) f = continued_off t i f
  stay break f = broken_here f
  stay (break_to {label = t} i) f = broken_off t i f
  stay return f = record { place = refl }
  stay return_value f = record { place = refl }
  stay (switch_entered {flags = g} {value = t} {cases = ps} i d e) f =
      up_switch g (part t ps) (stay_list d (entered_fine i (rest_fine (in_parts f)))) e
  stay (switch_passed i) f = record { place = refl }
  stay (case {flags = g} {test = t} {statements = ps} i d) f = up g (part t ps) a_case (stay_list d (rest_fine (in_parts f)))
  stay (default {flags = g} {statements = ps} d) f = up g (gap ps) a_case (stay_list d (gap_fine (in_parts f)))
  stay {labels = labels} (labelled {flags = g} {label = t} {body = u} i d e) f =
      up_label labels g t u (stay d (first_fine (rest_fine (in_parts f)))) (λ h. isnt_own d h) e
  stay (try_passed {flags = g} {body = t} {handler = u} {rest = ps} d i h) f =
      up g (part t (part u ps)) a_try (stay_finally h (rest_fine (rest_fine (in_parts f))) (stay d (first_fine (in_parts f))))
  stay (try_caught {flags = g} {body = t} {handler = u} {rest = ps} d i h) f =
      up g (part t (part u ps)) a_try
      (stay_finally h (rest_fine (rest_fine (in_parts f))) (stay i (first_fine (rest_fine (in_parts f)))))
  stay (try_alone {flags = g} {body = t} {rest = ps} d h) f =
      up g (part t (gap ps)) a_try (stay_finally h (gap_fine (rest_fine (in_parts f))) (stay d (first_fine (in_parts f))))
  stay (catch {flags = g} {parameter = t} {body = u} i d) f =
      up g (part t (part u none)) a_catch (stay d (first_fine (rest_fine (in_parts f))))
  stay (catch_all {flags = g} {body = u} d) f = up g (gap (part u none)) a_catch (stay d (first_fine (gap_fine (in_parts f))))

  stay_list : {ps : Parts} {c : Completion} {z : Around} → ListCompletes ps c → FineParts z z ps → Stays z c
  stay_list all_done f = record { place = refl }
  stay_list (done d l) f = stay_list l (rest_fine f)
  stay_list (left d i) f = stay d (first_fine f)

  stay_rounds : {labels : Labels} {body : Tree} {b : Bool} {c : Completion} {z : Around} → Rounds labels body b c → Fine z body →
      stays false false z.labels c ≡ true
  stay_rounds ended f = refl
  stay_rounds {labels = labels} (leaves d l e) f = left_loop labels (stay d f) l e
  stay_rounds (again d l r) f = stay_rounds r f

  stay_finally : {ps : Parts} {c d : Completion} {z : Around} → Finally ps c d → FineParts z z ps → Stays z c → Stays z d
  stay_finally no_finalizer f h = h
  stay_finally (kept d) f h = h
  stay_finally (overridden d i) f h = stay d (first_fine f)

-- Code

-- a part that is the first, or another
part_fine : {y z : Around} (ps : Parts) (i : ℕ) {t : Tree} → part_at ps i ≡ Some t → FineParts y z ps → Fine y t ⊎ Fine z t
part_fine none i e f = absurd (cc)
part_fine {y = y} (part u ps) zero e f = inl (subst (λ o. of o) e (first_fine f))
  where
    of : Option Tree → Type 0
    of None = Fine y u
    of (Some v) = Fine y v
part_fine (part u ps) (suc i) e f = inr (fine_at ps i e (rest_fine f))
part_fine (gap ps) zero e f = absurd (cc)
part_fine (gap ps) (suc i) e f = inr (fine_at ps i e (gap_fine f))

code_stays : (c : Completion) → stays false false [] c ≡ true → leaves_no_code c ≡ true
code_stays Normal h = refl
code_stays (Break None) h = h
code_stays (Break (Some w)) h = h
code_stays (Continue None) h = h
code_stays (Continue (Some w)) h = h
code_stays (Return r) h = refl
code_stays Throw h = refl

function_stays : (k : Kind) (y : Around) (g : Flags) (ps : Parts) {c : Completion} → is_function k ≡ true →
    Stays (around_first y k g ps) c ⊎ Stays (around_others y k g ps) c → leaves_no_code c ≡ true
function_stays kind.FunctionDeclaration y g ps {c = c} i (inl h) = code_stays c h.place
function_stays kind.FunctionDeclaration y g ps {c = c} i (inr h) = code_stays c h.place
function_stays kind.FunctionExpression y g ps {c = c} i (inl h) = code_stays c h.place
function_stays kind.FunctionExpression y g ps {c = c} i (inr h) = code_stays c h.place
function_stays kind.ArrowFunctionExpression y g ps {c = c} i (inl h) = code_stays c h.place
function_stays kind.ArrowFunctionExpression y g ps {c = c} i (inr h) = code_stays c h.place
function_stays k y g ps i h = absurd (false≢true i)

pub body_stays : {body t : Tree} {c : Completion} → FunctionBody body t → (z : Around) → Fine z t → Completes [] body c →
    leaves_no_code c ≡ true
body_stays (here_in {function = node k w g s e ps} n i b p) z f d =
    function_stays k (settled z k) g ps i (either (part_fine ps n p (in_parts f)) (λ h. inl (stay d h)) (λ h. inr (stay d h)))
body_stays (below_it {tree = node k w g s e ps} n p u) z f d =
    either (part_fine ps n p (in_parts f)) (λ h. body_stays u _ h d) (λ h. body_stays u _ h d)

pub script_stays : (t : Tree) (c : Completion) → errors t ≡ [] → Completes [] t c → leaves_no_code c ≡ true
script_stays (node k w g s e ps) c h d =
    let f : Fine (outside_of (node k w g s e ps)) (node k w g s e ps) = record { fine = h } in
    code_stays c (stay d f).place

-- A body that can't complete normally, and has no `return` without an argument

gives : (c : Completion) → gives_undefined c ≡ false → leaves_no_code c ≡ true → gives_or_throws c ≡ true
gives Normal h i = absurd (cc)
gives (Break o) h i = i
gives (Continue o) h i = i
gives (Return WithArgument) h i = refl
gives (Return WithoutArgument) h i = absurd (cc)
gives (Return AtYield) h i = refl
gives Throw h i = refl

pub body_gives : {script body : Tree} (c : Completion) → errors script ≡ [] → FunctionBody body script → flow.normal body ≡ false →
    flow.has flow.ReturnsNothing body ≡ false → Completes [] body c → gives_or_throws c ≡ true
body_gives {script = script} c h b i j d =
    let f : Fine (outside_of script) script = record { fine = h } in
    gives c (never_without c i j d) (body_stays b (outside_of script) f d)
