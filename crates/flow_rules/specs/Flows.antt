-- What is known of a node once its parts are known.
use Rattle.std.specs.Prelude.{Bool, true, false, not, ◌&&◌, ◌||◌}
use Rattle.tree.specs.Tree.{Tree, kind_of, part_at, parts_of}
use Rattle.flow_rules.specs.declared.flow.Flow.{Flow}
use Rattle.flow_rules.specs.declared.flow.Leaving.{Leaving}
use Rattle.flow_rules.specs.declared.flow.Place.{Place}
use Rattle.flow_rules.specs.declared.flow.Place.TheVariants.{First, Later, Second, Third}
use Rattle.flow_rules.specs.declared.flow.Sums.{Sums}
use Rattle.flow_rules.specs.Completion.{Sought, Break, LabelledBreak, Continue, LabelledContinue, ReturnsValue, ReturnsNothing, SuperCall, completes, ends, is_default, is_sought, leaving, normal}

abbrev pub flow_of : Tree → Flow
flow_of tree = record { normal = normal tree; leaving = leaving tree }

abbrev pub no_leaving : Leaving
no_leaving = record { breaks = false; labelled_breaks = false; continues = false; labelled_continues = false; values = false; empties = false; supers = false }

-- of no parts
abbrev pub no_sums : Sums
no_sums = record { all = true; first = false; second = false; third = true; last = true; has_default = false; leaving = no_leaving }

abbrev pub next_place : Place → Place
next_place First = Second
next_place Second = Third
next_place Third = Later
next_place Later = Later

abbrev pub at_first : Place → (new old : Bool) → Bool
at_first First new old = new
at_first _ new old = old

abbrev pub at_second : Place → (new old : Bool) → Bool
at_second Second new old = new
at_second _ new old = old

abbrev pub at_third : Place → (new old : Bool) → Bool
at_third Third new old = new
at_third _ new old = old

abbrev pub both_leaving : Leaving → Leaving → Leaving
both_leaving a b = record {
  breaks = a.breaks || b.breaks;
  labelled_breaks = a.labelled_breaks || b.labelled_breaks;
  continues = a.continues || b.continues;
  labelled_continues = a.labelled_continues || b.labelled_continues;
  values = a.values || b.values;
  empties = a.empties || b.empties;
  supers = a.supers || b.supers;
}

-- with one more part
abbrev pub with_part : Sums → Place → Flow → Tree → Sums
with_part sums place flow tree = record {
  all = sums.all && flow.normal;
  first = at_first place flow.normal sums.first;
  second = at_second place flow.normal sums.second;
  third = at_third place flow.normal sums.third;
  last = flow.normal;
  has_default = sums.has_default || is_default tree;
  leaving = both_leaving sums.leaving flow.leaving;
}

-- one leaves a node, where that is known of its parts
abbrev pub leaves : Sought → Tree → Bool → Bool
leaves x tree below = is_sought x (kind_of tree) (part_at (parts_of tree) 0) || (not (ends x (kind_of tree)) && below)

abbrev pub leaving_by : Tree → Leaving → Leaving
leaving_by tree below = record {
  breaks = leaves Break tree below.breaks;
  labelled_breaks = leaves LabelledBreak tree below.labelled_breaks;
  continues = leaves Continue tree below.continues;
  labelled_continues = leaves LabelledContinue tree below.labelled_continues;
  values = leaves ReturnsValue tree below.values;
  empties = leaves ReturnsNothing tree below.empties;
  supers = leaves SuperCall tree below.supers;
}

abbrev pub flow_by : Tree → Sums → Flow
flow_by tree sums = record { normal = completes (kind_of tree) (parts_of tree) sums; leaving = leaving_by tree sums.leaving }
