-- Tests of a chain, as the loop goes over them.
use Rattle.std.proofs.Common.{◌≡◌, ℕ, zero, suc, ◌+◌, ◌<◌, List, [], ◌∷◌, ◌++◌, Bool, true, false, Option, Some, None, length, take, drop, get_or, refl, sym, ap, ◌∙◌, map, add-one, append_assoc, append-nil}
use Rattle.std.specs.Prelude.{◌&&◌, ◌||◌, cond, codes}
use Rattle.std.specs.List.{list_any, list_all}
use Rattle.std.specs.Str.{bytes_eq}
use Rattle.std.proofs.Math.Seq.{drop-cons, take-suc}
use Rattle.std.proofs.lemmas.List.Folds.{list_any-append, list_all-append}
use Rattle.std.proofs.lemmas.List.{map-append}
use Rattle.name_tables.specs.BoundNames.{each_part}
use Rattle.name_tables.specs.PatternParts.{at_part}
use Rattle.name_tables.specs.Sets.{contains}
use Rattle.name_tables.specs.declared.set.NameSet.{NameSet}
use Rattle.rule_words.specs.Reports.{Report}
use Rattle.tree.specs.Tree.{Tree, node, Parts, none, part, gap, kind_of, part_at, parts_of}
use Rattle.repetition_rules.specs.declared.repetition_rule.RepetitionRule.{RepetitionRule}
use Rattle.repetition_rules.specs.Rows.{moot_report, of_test}
use Rattle.repetition_rules.specs.Written.{written}
use Rattle.repetition_rules.specs.Tests.{Choice, alone, asked, choices, is_covered_test, is_if, is_logical, moot_among, moot_at, moot_below, moot_tests, never_holds, split, tests, tests_at}
use Rattle.repetition_rules.specs.Chains.{Asking, Knows, are_full, asked_before, asking, chain_reports, is_all_covered, is_chain, is_full, is_if_at, is_last_of, is_moot, last_of, moot_reports}

all-asked : (before : List Choice) (trees : List Tree) → list_any (λ condition. is_all_covered before condition) (map choices trees) ≡ list_any (λ t. is_covered_test before t) trees
all-asked before [] = refl
all-asked before (t ∷ ts) = ap (λ b. is_covered_test before t || b) (all-asked before ts)

-- what is known of a test tells whether it never holds
moot-is : (before : List Asking) (t : Tree) → is_moot before (asking t) ≡ never_holds (asked_before before) t
moot-is before t = ap (λ b. is_covered_test (asked_before before) t || b) (all-asked (asked_before before) (split (codes "&&") t))

pub asked-behind : (before : List Asking) (x : Asking) → asked_before (before ++ x ∷ []) ≡ asked_before before ++ x.whole
asked-behind [] x = append-nil x.whole
asked-behind (y ∷ ys) x = ap (λ l. y.whole ++ l) (asked-behind ys x) ∙ sym (append_assoc y.whole (asked_before ys) x.whole)

report-is : (rule : RepetitionRule) (b : Bool) (t : Tree) → moot_report b rule (asking t).start (asking t).stop ≡ map (of_test rule) (cond b (t ∷ []) [])
report-is rule true t = refl
report-is rule false t = refl

-- what is reported of a chain's tests is reported of those that never hold
pub reports-of : (rule : RepetitionRule) (before : List Asking) (ts : List Tree) → moot_reports rule before (map asking ts) ≡ map (of_test rule) (moot_among (asked_before before) ts)
reports-of rule before [] = refl
reports-of rule before (t ∷ ts) =
    ap (λ l. l ++ moot_reports rule (before ++ asking t ∷ []) (map asking ts)) (ap (λ b. moot_report b rule (asking t).start (asking t).stop) (moot-is before t) ∙ report-is rule (never_holds (asked_before before) t) t)
    ∙ ap (λ l. map (of_test rule) (cond (never_holds (asked_before before) t) (t ∷ []) []) ++ l)
    (reports-of rule (before ++ asking t ∷ []) ts ∙ ap (λ b. map (of_test rule) (moot_among b ts)) (asked-behind before (asking t)))
    ∙ sym (map-append (of_test rule) (cond (never_holds (asked_before before) t) (t ∷ []) []) (moot_among (asked_before before ++ choices t) ts))

-- Each choice has an operand

-- a list that begins
abbrev Begun : List Tree → Type 0
Begun ts = (x : Tree) × ((xs : List Tree) × (ts ≡ x ∷ xs))

begun-by : (b : Bool) (ts : List Tree) (t : Tree) → Begun ts → Begun (cond b ts (t ∷ []))
begun-by true ts t h = h
begun-by false ts t h = (t, ([], refl))

split-first : (operator : List ℕ) (t : Tree) → Begun (split operator t)
unfolding split
split-first operator (node k w g s e none) = begun-by (is_logical k && bytes_eq w operator) _ (node k w g s e none) (node k w g s e none, ([], refl))
split-first operator (node k w g s e (gap qs)) = begun-by (is_logical k && bytes_eq w operator) _ (node k w g s e (gap qs)) (node k w g s e (gap qs), ([], refl))
split-first operator (node k w g s e (part l none)) = begun-by (is_logical k && bytes_eq w operator) _ (node k w g s e (part l none)) (node k w g s e (part l none), ([], refl))
split-first operator (node k w g s e (part l (gap qs))) = begun-by (is_logical k && bytes_eq w operator) _ (node k w g s e (part l (gap qs))) (node k w g s e (part l (gap qs)), ([], refl))
split-first operator (node k w g s e (part l (part r qs))) =
    let i = split-first operator l in
    begun-by (is_logical k && bytes_eq w operator) (split operator l ++ split operator r) (node k w g s e (part l (part r qs))) (i.0, (i.1.0 ++ split operator r, ap (λ xs. xs ++ split operator r) i.1.1))

asked-full : (t : Tree) → is_full (asked t) ≡ true
asked-full t = let i = split-first (codes "&&") t in ap (λ xs. is_full (map written xs)) i.1.1

all-full : (ts : List Tree) → list_all (λ c. is_full c) (map asked ts) ≡ true
all-full [] = refl
all-full (t ∷ ts) = ap (λ b. b && list_all (λ c. is_full c) (map asked ts)) (asked-full t) ∙ all-full ts

pub are-full : (ts : List Tree) → are_full (map asking ts) ≡ true
are-full [] = refl
are-full (t ∷ ts) =
    list_all-append (λ c. is_full c) (choices t) (asked_before (map asking ts))
    ∙ ap (λ b. b && are_full (map asking ts)) (all-full (split (codes "||") t)) ∙ are-full ts

-- A turn of the loop over a chain's tests

module _ (xs : List Asking) (i : ℕ) (d x : Asking) (l : i < length xs) (at : x ≡ get_or xs i d) where
  drop-at : drop i xs ≡ x ∷ drop (suc i) xs
  drop-at = drop-cons xs i d l ∙ ap (λ y. y ∷ drop (suc i) xs) (sym at)

  take-at : take (suc i) xs ≡ take i xs ++ x ∷ []
  take-at = take-suc xs i d l ∙ ap (λ y. take i xs ++ y ∷ []) (sym at)

  pub reports-turn : (rule : RepetitionRule) (acc new total : List Report) (b : Bool) → b ≡ is_moot (take i xs) x → new ≡ acc ++ moot_report b rule x.start x.stop
      → acc ++ moot_reports rule (take i xs) (drop i xs) ≡ total → new ++ moot_reports rule (take (i + 1) xs) (drop (i + 1) xs) ≡ total
  reports-turn rule acc new total b m n so =
      rw (add-one i) (
      ap (λ a. a ++ moot_reports rule (take (suc i) xs) (drop (suc i) xs)) (n ∙ ap (λ c. acc ++ moot_report c rule x.start x.stop) m)
      ∙ append_assoc acc (moot_report (is_moot (take i xs) x) rule x.start x.stop) (moot_reports rule (take (suc i) xs) (drop (suc i) xs))
      ∙ ap (λ ys. acc ++ (moot_report (is_moot (take i xs) x) rule x.start x.stop ++ moot_reports rule ys (drop (suc i) xs))) take-at
      ∙ ap (λ ys. acc ++ moot_reports rule (take i xs) ys) (sym drop-at) ∙ so
      )

  -- the set has what is last in one more
  pub knows-turn : (old new : NameSet) → ((w : List ℕ) → contains new w ≡ (contains old w || is_last_of x.whole w)) → Knows old (take i xs) → Knows new (take (i + 1) xs)
  knows-turn old new put knows w =
      rw (add-one i) (
      put w ∙ ap (λ b. b || is_last_of x.whole w) (knows w) ∙ sym (list_any-append (λ c. bytes_eq w (last_of c)) (asked_before (take i xs)) x.whole)
      ∙ ap (λ cs. is_last_of cs w) (sym (asked-behind (take i xs) x)) ∙ ap (λ ys. is_last_of (asked_before ys) w) (sym take-at)
      )

full-by : (x : Asking) (xs ys : List Asking) (b : Bool) → list_all (λ c. is_full c) x.whole ≡ b → (are_full xs ≡ true → are_full ys ≡ true) → (b && are_full xs) ≡ true → are_full (x ∷ ys) ≡ true
full-by x xs ys true e f h = list_all-append (λ c. is_full c) x.whole (asked_before ys) ∙ ap (λ b. b && are_full ys) e ∙ f h
full-by x xs ys false e f h = absurd (cc)

-- all choices of those before are full
pub full-before : (xs : List Asking) (i : ℕ) → are_full xs ≡ true → are_full (take i xs) ≡ true
full-before xs zero f = refl
full-before [] (suc i) f = refl
full-before (x ∷ xs) (suc i) f =
    full-by x xs (take i xs) (list_all (λ c. is_full c) x.whole) refl (full-before xs i) (sym (list_all-append (λ c. is_full c) x.whole (asked_before xs)) ∙ f)

-- The tests of a chain

tests-place : (i : ℕ) (ps : Parts) (u : Tree) → Some u ≡ part_at ps i → tests_at i ps ≡ tests u
unfolding tests
tests-place i none u e = absurd (cc)
tests-place zero (part t ps) u e = let same : t ≡ u = cc in ap tests same
tests-place zero (gap ps) u e = absurd (cc)
tests-place (suc i) (part t ps) u e = tests-place i ps u e
tests-place (suc i) (gap ps) u e = tests-place i ps u e

tests-no-place : (i : ℕ) (ps : Parts) → None ≡ part_at ps i → tests_at i ps ≡ []
unfolding tests
tests-no-place i none e = refl
tests-no-place zero (part t ps) e = absurd (cc)
tests-no-place zero (gap ps) e = refl
tests-no-place (suc i) (part t ps) e = tests-no-place i ps e
tests-no-place (suc i) (gap ps) e = tests-no-place i ps e

pub tests-none : (t : Tree) → is_if (kind_of t) ≡ false → tests t ≡ []
unfolding tests
tests-none (node k w g s e ps) h = ap (λ b. cond b (alone (part_at ps 0) ++ tests_at 2 ps) []) h

tests-both : (t : Tree) → is_if (kind_of t) ≡ true → tests t ≡ alone (part_at (parts_of t) 0) ++ tests_at 2 (parts_of t)
unfolding tests
tests-both (node k w g s e ps) h = ap (λ b. cond b (alone (part_at ps 0) ++ tests_at 2 ps) []) h

-- with and without an alternate, as they are asked
pub asked-more : (t u : Tree) (o : Option Tree) → is_if (kind_of t) ≡ true → o ≡ part_at (parts_of t) 0 → Some u ≡ part_at (parts_of t) 2 → map asking (tests t) ≡ map asking (alone o) ++ map asking (tests u)
asked-more t u o h first e =
    ap (map asking) (tests-both t h ∙ ap (λ l. alone (part_at (parts_of t) 0) ++ l) (tests-place 2 (parts_of t) u e) ∙ ap (λ p. alone p ++ tests u) (sym first)) ∙ map-append asking (alone o) (tests u)

pub asked-last : (t : Tree) (o : Option Tree) → is_if (kind_of t) ≡ true → o ≡ part_at (parts_of t) 0 → None ≡ part_at (parts_of t) 2 → map asking (tests t) ≡ map asking (alone o)
asked-last t o h first e =
    ap (map asking) (tests-both t h ∙ ap (λ l. alone (part_at (parts_of t) 0) ++ l) (tests-no-place 2 (parts_of t) e) ∙ append-nil (alone (part_at (parts_of t) 0)) ∙ ap alone (sym first))

-- where chains begin, part by part
each-moot : (rule : RepetitionRule) (ps : Parts) → each_part (chain_reports rule) ps ≡ map (of_test rule) (each_part moot_tests ps)
each-moot rule none = refl
each-moot rule (part t ps) = ap (λ l. chain_reports rule t ++ l) (each-moot rule ps) ∙ sym (map-append (of_test rule) (moot_tests t) (each_part moot_tests ps))
each-moot rule (gap ps) = each-moot rule ps

pub at-chain : (rule : RepetitionRule) (o : Option Tree) → map (of_test rule) (moot_at o) ≡ at_part (chain_reports rule) o
at-chain rule None = refl
at-chain rule (Some t) = refl

pub below-if : (rule : RepetitionRule) (t : Tree) → is_if (kind_of t) ≡ true → map (of_test rule) (moot_at (part_at (parts_of t) 1)) ≡ map (of_test rule) (moot_below t)
below-if rule t h = ap (λ b. map (of_test rule) (cond b (moot_at (part_at (parts_of t) 1)) (each_part moot_tests (parts_of t)))) (sym h)

pub below-other : (rule : RepetitionRule) (t : Tree) → is_if (kind_of t) ≡ false → each_part (chain_reports rule) (parts_of t) ≡ map (of_test rule) (moot_below t)
below-other rule t h = each-moot rule (parts_of t) ∙ ap (λ b. map (of_test rule) (cond b (moot_at (part_at (parts_of t) 1)) (each_part moot_tests (parts_of t)))) (sym h)

-- Chains of which nothing is reported

pub no-chain : (t : Tree) → is_if (kind_of t) ≡ false → moot_tests t ≡ []
no-chain t h = ap (λ ts. moot_among [] ts) (tests-none t h)

-- nothing stands before a first test
uncovered : (t : Tree) → is_covered_test [] t ≡ false
uncovered t = let i = split-first (codes "||") t in ap (λ xs. list_all (λ choice. false) (map asked xs)) i.1.1

all-uncovered : (ts : List Tree) → list_any (λ t. is_covered_test [] t) ts ≡ false
all-uncovered [] = refl
all-uncovered (t ∷ ts) = ap (λ b. b || list_any (λ t. is_covered_test [] t) ts) (uncovered t) ∙ all-uncovered ts

first-holds : (t : Tree) → never_holds [] t ≡ false
first-holds t = ap (λ b. b || list_any (λ operand. is_covered_test [] operand) (split (codes "&&") t)) (uncovered t) ∙ all-uncovered (split (codes "&&") t)

one-test : (o : Option Tree) → moot_among [] (alone o) ≡ []
one-test None = refl
one-test (Some t) = ap (λ b. cond b (t ∷ []) [] ++ []) (first-holds t)

tests-alone : (t : Tree) (o : Option Tree) → o ≡ part_at (parts_of t) 2 → is_if_at o ≡ false → tests_at 2 (parts_of t) ≡ []
tests-alone t None e h = tests-no-place 2 (parts_of t) e
tests-alone t (Some u) e h = tests-place 2 (parts_of t) u e ∙ tests-none u h

single : (t : Tree) → is_if (kind_of t) ≡ true → is_if_at (part_at (parts_of t) 2) ≡ false → moot_tests t ≡ []
single t h g =
    ap (λ ts. moot_among [] ts) (tests-both t h ∙ ap (λ l. alone (part_at (parts_of t) 0) ++ l) (tests-alone t (part_at (parts_of t) 2) refl g) ∙ append-nil (alone (part_at (parts_of t) 0)))
    ∙ one-test (part_at (parts_of t) 0)

by-kind : (t : Tree) (b : Bool) → is_if (kind_of t) ≡ b → (b && is_if_at (part_at (parts_of t) 2)) ≡ false → moot_tests t ≡ []
by-kind t true e h = single t e h
by-kind t false e h = no-chain t e

-- a node at which no chain of more than one test begins
pub short-chain : (t : Tree) → is_chain t ≡ false → moot_tests t ≡ []
short-chain t h = by-kind t (is_if (kind_of t)) refl h
