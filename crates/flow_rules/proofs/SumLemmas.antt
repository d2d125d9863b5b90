-- What is known of parts, as a walk adds it up part by part, is what the definitions say of them.
use Rattle.std.proofs.Common.{◌≡◌, Bool, true, false, refl, sym, ap, ◌∙◌}
use Rattle.std.specs.Prelude.{◌&&◌, ◌||◌}
use Rattle.tree.specs.Tree.{Tree, node, Parts, none, part, gap, parts_of}
use Rattle.flow_rules.specs.declared.flow.Place.{Place}
use Rattle.flow_rules.specs.declared.flow.Place.TheVariants.{First, Later, Second, Third}
use Rattle.flow_rules.specs.declared.flow.Sums.{Sums}
use Rattle.flow_rules.specs.Completion.{Sought, Break, LabelledBreak, Continue, LabelledContinue, ReturnsValue, ReturnsNothing, SuperCall, all_normal, any_default, has, is_default, last_normal, normal, nth_normal, some, sums_of}
use Rattle.flow_rules.specs.Flows.{flow_by, flow_of, next_place, no_sums, with_part}

-- with the parts from this place on
abbrev pub folded : Place → Sums → Parts → Sums
folded p s none = s
folded p s (part t rest) = folded (next_place p) (with_part s p (flow_of t) t) rest
folded p s (gap rest) = folded (next_place p) s rest

or_false : (a : Bool) → (a || false) ≡ a
or_false true = refl
or_false false = refl

or_or : (a b c : Bool) → ((a || b) || c) ≡ (a || (b || c))
or_or true b c = refl
or_or false b c = refl

and_true : (a : Bool) → (a && true) ≡ a
and_true true = refl
and_true false = refl

and_and : (a b c : Bool) → ((a && b) && c) ≡ (a && (b && c))
and_and true b c = refl
and_and false b c = refl

all-folded : (p : Place) (s : Sums) (ps : Parts) → (folded p s ps).all ≡ (s.all && all_normal ps)
unfolding all_normal
all-folded p s none = sym (and_true s.all)
all-folded p s (part t rest) = all-folded (next_place p) (with_part s p (flow_of t) t) rest ∙ and_and s.all (normal t) (all_normal rest)
all-folded p s (gap rest) = all-folded (next_place p) s rest

last-folded : (p : Place) (s : Sums) (ps : Parts) → (folded p s ps).last ≡ last_normal s.last ps
unfolding last_normal
last-folded p s none = refl
last-folded p s (part t rest) = last-folded (next_place p) (with_part s p (flow_of t) t) rest
last-folded p s (gap rest) = last-folded (next_place p) s rest

default-folded : (p : Place) (s : Sums) (ps : Parts) → (folded p s ps).has_default ≡ (s.has_default || any_default ps)
default-folded p s none = sym (or_false s.has_default)
default-folded p s (part t rest) = default-folded (next_place p) (with_part s p (flow_of t) t) rest ∙ or_or s.has_default (is_default t) (any_default rest)
default-folded p s (gap rest) = default-folded (next_place p) s rest

-- what leaves some part, in one field of the sums
some-folded : (x : Sought) (g : Sums → Bool) → ((p : Place) (s : Sums) (t : Tree) → g (with_part s p (flow_of t) t) ≡ (g s || has x t)) → (p : Place) (s : Sums) (ps : Parts) → g (folded p s ps) ≡ (g s || some x ps)
unfolding some
some-folded x g step p s none = sym (or_false (g s))
some-folded x g step p s (part t rest) = some-folded x g step (next_place p) (with_part s p (flow_of t) t) rest ∙ ap (λ b. b || some x rest) (step p s t) ∙ or_or (g s) (has x t) (some x rest)
some-folded x g step p s (gap rest) = some-folded x g step (next_place p) s rest

-- behind the third part nothing is said of the first three
first-later : (s : Sums) (ps : Parts) → (folded Later s ps).first ≡ s.first
first-later s none = refl
first-later s (part t rest) = first-later (with_part s Later (flow_of t) t) rest
first-later s (gap rest) = first-later s rest

second-later : (s : Sums) (ps : Parts) → (folded Later s ps).second ≡ s.second
second-later s none = refl
second-later s (part t rest) = second-later (with_part s Later (flow_of t) t) rest
second-later s (gap rest) = second-later s rest

third-later : (s : Sums) (ps : Parts) → (folded Later s ps).third ≡ s.third
third-later s none = refl
third-later s (part t rest) = third-later (with_part s Later (flow_of t) t) rest
third-later s (gap rest) = third-later s rest

first-third : (s : Sums) (ps : Parts) → (folded Third s ps).first ≡ s.first
first-third s none = refl
first-third s (part t rest) = first-later (with_part s Third (flow_of t) t) rest
first-third s (gap rest) = first-later s rest

first-second : (s : Sums) (ps : Parts) → (folded Second s ps).first ≡ s.first
first-second s none = refl
first-second s (part t rest) = first-third (with_part s Second (flow_of t) t) rest
first-second s (gap rest) = first-third s rest

second-third : (s : Sums) (ps : Parts) → (folded Third s ps).second ≡ s.second
second-third s none = refl
second-third s (part t rest) = second-later (with_part s Third (flow_of t) t) rest
second-third s (gap rest) = second-later s rest

first-folded : (s : Sums) (ps : Parts) → (folded First s ps).first ≡ nth_normal 0 s.first ps
unfolding nth_normal
first-folded s none = refl
first-folded s (part t rest) = first-second (with_part s First (flow_of t) t) rest
first-folded s (gap rest) = first-second s rest

second-from : (s : Sums) (ps : Parts) → (folded Second s ps).second ≡ nth_normal 0 s.second ps
unfolding nth_normal
second-from s none = refl
second-from s (part t rest) = second-third (with_part s Second (flow_of t) t) rest
second-from s (gap rest) = second-third s rest

second-folded : (s : Sums) (ps : Parts) → (folded First s ps).second ≡ nth_normal 1 s.second ps
unfolding nth_normal
second-folded s none = refl
second-folded s (part t rest) = second-from (with_part s First (flow_of t) t) rest
second-folded s (gap rest) = second-from s rest

third-from : (s : Sums) (ps : Parts) → (folded Third s ps).third ≡ nth_normal 0 s.third ps
unfolding nth_normal
third-from s none = refl
third-from s (part t rest) = third-later (with_part s Third (flow_of t) t) rest
third-from s (gap rest) = third-later s rest

third-second : (s : Sums) (ps : Parts) → (folded Second s ps).third ≡ nth_normal 1 s.third ps
unfolding nth_normal
third-second s none = refl
third-second s (part t rest) = third-from (with_part s Second (flow_of t) t) rest
third-second s (gap rest) = third-from s rest

third-folded : (s : Sums) (ps : Parts) → (folded First s ps).third ≡ nth_normal 2 s.third ps
unfolding nth_normal
third-folded s none = refl
third-folded s (part t rest) = third-second (with_part s First (flow_of t) t) rest
third-folded s (gap rest) = third-second s rest

-- all parts
pub sums-are : (ps : Parts) → folded First no_sums ps ≡ sums_of ps
sums-are ps = λ i. record {
  all = all-folded First no_sums ps i;
  first = first-folded no_sums ps i;
  second = second-folded no_sums ps i;
  third = third-folded no_sums ps i;
  last = last-folded First no_sums ps i;
  has_default = default-folded First no_sums ps i;
  leaving = record {
    breaks = some-folded Break (λ s. s.leaving.breaks) (λ p s t. refl) First no_sums ps i;
    labelled_breaks = some-folded LabelledBreak (λ s. s.leaving.labelled_breaks) (λ p s t. refl) First no_sums ps i;
    continues = some-folded Continue (λ s. s.leaving.continues) (λ p s t. refl) First no_sums ps i;
    labelled_continues = some-folded LabelledContinue (λ s. s.leaving.labelled_continues) (λ p s t. refl) First no_sums ps i;
    values = some-folded ReturnsValue (λ s. s.leaving.values) (λ p s t. refl) First no_sums ps i;
    empties = some-folded ReturnsNothing (λ s. s.leaving.empties) (λ p s t. refl) First no_sums ps i;
    supers = some-folded SuperCall (λ s. s.leaving.supers) (λ p s t. refl) First no_sums ps i;
  };
}

-- a node, by its parts
flow-is : (t : Tree) → flow_by t (sums_of (parts_of t)) ≡ flow_of t
unfolding normal has
flow-is (node k w g s e ps) = refl

pub flow-by-sums : (t : Tree) (s : Sums) → s ≡ folded First no_sums (parts_of t) → flow_by t s ≡ flow_of t
flow-by-sums t s h = ap (flow_by t) (h ∙ sums-are (parts_of t)) ∙ flow-is t
