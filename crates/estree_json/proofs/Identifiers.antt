-- What an identifier's object sends.
use Rattle.std.proofs.Common.{◌≡◌, ℕ, Bool, List, Result, OnOk, None, codes, sym, ap, ◌∙◌}
use Rattle.serde.specs.Event as event
use Rattle.serde.specs.Event.{Log, Logs}
use Rattle.serde_json.specs.Data.{Data, number, unsigned, string, object, Members, no_members, member}
use Rattle.tree.specs.declared.kind.Kind.{Kind}
use Rattle.tree.specs.declared.kind.Kind.TheVariants.{Identifier}
use Rattle.tree.specs.Kinds.{type_name}
use Rattle.tree.specs.Tree.{Tree, node, kind_of, text_of, start_of, stop_of}
use Rattle.estree_json.specs.Fields.{Label, fields}
use Rattle.estree_json.specs.Json.{begun, label_of, node_json, parts_json, with_fields, with_value}
use Rattle.estree_json.specs.Sent.{Adds, Sends}
use Rattle.estree_json.proofs.Sent.{object_sent, then_sent, value_as}

abbrev members : List ℕ → ℕ → ℕ → Members → Members
members text start stop ms = member (codes "end") (number (unsigned stop)) (member (codes "name") (string text) (member (codes "start") (number (unsigned start)) (member (codes "type") (string (type_name Identifier)) ms)))

named_so : (b : Bool) (l : Label) (start stop : ℕ) (values : List Data) (k : Kind) → k ≡ Identifier → object (members l.text start stop no_members) ≡ object (with_fields (fields b k l) (begun k start stop values)).members
unfolding with_value
named_so b l start stop values k e = ap (λ j. object (with_fields (fields b j l) (begun j start stop values)).members) (sym e)

identifier_json : (b : Bool) (t : Tree) → kind_of t ≡ Identifier → object (members (text_of t) (start_of t) (stop_of t) no_members) ≡ node_json b t
unfolding node_json
identifier_json b (node k w g s e ps) h = named_so b (label_of (node k w g s e ps)) s e (parts_json ps) k h

pub identifier_sent : {A E : Type 0} (r : Result A E) (b : Bool) (t : Tree) (text : List ℕ) (start stop : ℕ) (old first one two three last new : Log) → kind_of t ≡ Identifier → text ≡ text_of t → start ≡ start_of t → stop ≡ stop_of t
    → Logs old first (event.map_begins None) → Adds (member (codes "end") (number (unsigned stop))) first one → Adds (member (codes "name") (string text)) one two
    → Adds (member (codes "start") (number (unsigned start))) two three → Adds (member (codes "type") (string (type_name Identifier))) three last
    → OnOk r (Logs last new event.map_ends) → OnOk r (Sends (node_json b t) old new)
identifier_sent r b t text start stop old first one two three last new h w s e begins ended named started typed ends =
    let from_start : Members → Members = λ ms. member (codes "start") (number (unsigned start)) (member (codes "type") (string (type_name Identifier)) ms) in
    let from_name : Members → Members = λ ms. member (codes "name") (string text) (from_start ms) in
    let whole = object_sent r (members text start stop) old first last new begins
    (then_sent (member (codes "end") (number (unsigned stop))) from_name first one last ended
    (then_sent (member (codes "name") (string text)) from_start one two last named
    (then_sent (member (codes "start") (number (unsigned start))) (member (codes "type") (string (type_name Identifier))) two three last started typed))) ends in
    value_as r (object (members text start stop no_members)) (node_json b t) old new ((λ j. object (members (w j) (s j) (e j) no_members)) ∙ identifier_json b t h) whole
