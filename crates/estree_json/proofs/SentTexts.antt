-- The text that serde_json writes for what a tree sends.
use Rattle.std.proofs.Common.{◌≡◌, ℕ, List, [], ◌∷◌, ◌++◌, Bool, true, false, ◌||◌, Some, None, inl, inr, refl, sym, ap, ◌∙◌, subst, arith, append_assoc, append-nil}
use Rattle.std.proofs.lemmas.Grind.{common_steps}
use Rattle.json.specs.Token as json
use Rattle.json.specs.Token.{Token}
use Rattle.json.specs.Lex.{tokens}
use Rattle.json.specs.Print.{print}
use Rattle.json.specs.Tree.{json_tokens, items_tokens, members_tokens}
use Rattle.serde.specs.Event as event
use Rattle.serde.specs.Event.{Event, Log, Logs}
use Rattle.serde.specs.declared.name.Case.TheVariants.{AsIs}
use Rattle.serde.specs.declared.name.NameKind.TheVariants.{Field}
use Rattle.serde.proofs.Spellings.{spelled-AsIs}
use Rattle.serde_json.specs.Data.{Num, unsigned, negative, float, Data, null, boolean, number, string, array, object, Items, no_items, item, Members, no_members, member}
use Rattle.serde_json.specs.Events.{number_event, items_len}
use Rattle.serde_json.specs.Sent.{State, start, Takes, TakesAll, IsTextOf}
use Rattle.serde_json.specs.Written.{outline, items_outline, members_outline, has_float, items_have_float, members_have_float, compact_text}
use Rattle.serde_json.proofs.Texts.{print-outline}
use Rattle.serde_json.proofs.FreeTexts.{tokens_by}
use Rattle.estree_json.specs.Sent.{Sends, SendsItems, SendsMembers}

abbrev mutual
  events_of : Data → List Event
  events_of null = event.nothing ∷ []
  events_of (boolean b) = event.boolean b ∷ []
  events_of (number n) = number_event n ∷ []
  events_of (string s) = event.text s ∷ []
  events_of (array ds) = event.seq_begins (Some (items_len ds)) ∷ items_events ds
  events_of (object ms) = event.map_begins None ∷ members_events ms

  items_events : Items → List Event
  items_events no_items = event.seq_ends ∷ []
  items_events (item d ds) = events_of d ++ items_events ds

  members_events : Members → List Event
  members_events no_members = event.map_ends ∷ []
  members_events (member k d ms) = event.field_key k AsIs ∷ (events_of d ++ members_events ms)

mutual
  value_known : (d : Data) (es : List Event) (log : Log) → Sends d (Some es) log → log ≡ Some (es ++ events_of d)
  value_known null es log h = h
  value_known (boolean b) es log h = h
  value_known (number n) es log h = h
  value_known (string s) es log h = h
  value_known (array ds) es log h = items_known ds _ log (subst (λ l. SendsItems ds l log) h.1 h.2) ∙ ap Some (append_assoc es (event.seq_begins (Some (items_len ds)) ∷ []) (items_events ds))
  value_known (object ms) es log h = members_known ms _ log (subst (λ l. SendsMembers ms l log) h.1 h.2) ∙ ap Some (append_assoc es (event.map_begins None ∷ []) (members_events ms))

  items_known : (ds : Items) (es : List Event) (log : Log) → SendsItems ds (Some es) log → log ≡ Some (es ++ items_events ds)
  items_known no_items es log h = h
  items_known (item d ds) es log h = items_known ds _ log (subst (λ l. SendsItems ds l log) (value_known d es h.0 h.1) h.2) ∙ ap Some (append_assoc es (events_of d) (items_events ds))

  members_known : (ms : Members) (es : List Event) (log : Log) → SendsMembers ms (Some es) log → log ≡ Some (es ++ members_events ms)
  members_known no_members es log h = h
  members_known (member k d ms) es log h =
      let named = es ++ event.field_key k AsIs ∷ [] in
      members_known ms _ log (subst (λ l. SendsMembers ms l log) (value_known d named h.1 (subst (λ l. Sends d l h.1) h.2 h.3)) h.4)
      ∙ ap Some (append_assoc named (events_of d) (members_events ms) ∙ append_assoc es (event.field_key k AsIs ∷ []) (events_of d ++ members_events ms))

-- no key is due, and every object has its braces
abbrev IsPlain : State → Type 0
IsPlain s = (s.at_key ≡ false) × (s.flattens ≡ false) × (s.flat ≡ [])

abbrev Added : State → List Token → State → Type 0
Added old ts new = IsPlain new × (new.tokens ≡ old.tokens ++ ts)

abbrev Leads : State → List Token → List Event → State → Type 0
Leads old ts rest last = (mid : State) × Added old ts mid × TakesAll mid rest last

number_added : (n : Num) (s m : State) → has_float (number n) ≡ false → IsPlain s → Takes s (number_event n) m → Added s (json_tokens (outline (number n))) m
number_added (unsigned n) s m whole plain step = grind (arith, common_steps)
number_added (negative z) s m whole plain step = grind (arith, common_steps)
number_added (float x) s m whole plain step = absurd cc

map_ended : (s m : State) → IsPlain s → Takes s event.map_ends m → Added s (json.end_object ∷ []) m
map_ended s m plain step = elim step [
  | inl flat ↦ absurd (grind (arith, common_steps, flat.1, plain.2))
  | inr braced ↦ grind (arith, common_steps, braced.1)
]

left_false : (a b : Bool) → (a || b) ≡ false → a ≡ false
left_false true b h = h
left_false false b h = refl

right_false : (a b : Bool) → (a || b) ≡ false → b ≡ false
right_false true b h = absurd cc
right_false false b h = h

after : (s m : State) (ts us : List Token) (rest : List Event) (last : State) → Added s ts m → Leads m us rest last → Leads s (ts ++ us) rest last
after s m ts us rest last first more = (more.0, (more.1.0, more.1.1 ∙ ap (λ xs. xs ++ us) first.1 ∙ append_assoc s.tokens ts us), more.2)

mutual
  value_leads : (d : Data) (rest : List Event) (s last : State) → has_float d ≡ false → IsPlain s → TakesAll s (events_of d ++ rest) last → Leads s (json_tokens (outline d)) rest last
  value_leads null rest s last whole plain run = (run.0, grind (arith, common_steps, run.1.1), run.2)
  value_leads (boolean b) rest s last whole plain run = (run.0, grind (arith, common_steps, run.1.1), run.2)
  value_leads (number n) rest s last whole plain run = (run.0, number_added n s run.0 whole plain run.1, run.2)
  value_leads (string t) rest s last whole plain run = (run.0, grind (arith, common_steps, run.1.1), run.2)
  value_leads (array ds) rest s last whole plain run =
      let opened : Added s (json.begin_array ∷ []) run.0 = grind (arith, common_steps, run.1.1.1) in
      after s run.0 (json.begin_array ∷ []) _ rest last opened (items_lead ds rest run.0 last whole opened.0 run.2)
  value_leads (object ms) rest s last whole plain run =
      let opened : Added s (json.begin_object ∷ []) run.0 = grind (arith, common_steps, run.1.1) in
      after s run.0 (json.begin_object ∷ []) _ rest last opened (members_lead ms rest run.0 last whole opened.0 run.2)

  items_lead : (ds : Items) (rest : List Event) (s last : State) → items_have_float ds ≡ false → IsPlain s → TakesAll s (items_events ds ++ rest) last → Leads s (items_tokens (items_outline ds)) rest last
  items_lead no_items rest s last whole plain run = (run.0, grind (arith, common_steps, run.1), run.2)
  items_lead (item d ds) rest s last whole plain run =
      let first = value_leads d (items_events ds ++ rest) s last (left_false _ _ whole) plain (subst (λ es. TakesAll s es last) (append_assoc (events_of d) (items_events ds) rest) run) in
      after s first.0 _ _ rest last first.1 (items_lead ds rest first.0 last (right_false _ _ whole) first.1.0 first.2)

  members_lead : (ms : Members) (rest : List Event) (s last : State) → members_have_float ms ≡ false → IsPlain s → TakesAll s (members_events ms ++ rest) last → Leads s (members_tokens (members_outline ms)) rest last
  members_lead no_members rest s last whole plain run = (run.0, map_ended s run.0 plain run.1, run.2)
  members_lead (member k d ms) rest s last whole plain run =
      let named : Added s (json.key k ∷ []) run.0 = grind (arith, common_steps, run.1, spelled-AsIs Field k) in
      let first = value_leads d (members_events ms ++ rest) run.0 last (left_false _ _ whole) named.0 (subst (λ es. TakesAll run.0 es last) (append_assoc (events_of d) (members_events ms) rest) run.2) in
      after s run.0 (json.key k ∷ []) _ rest last named (after run.0 first.0 _ _ rest last first.1 (members_lead ms rest first.0 last (right_false _ _ whole) first.1.0 first.2))

-- it is the compact one
pub text_of_sent : (d : Data) (log : Log) (text : List ℕ) → Sends d (Some []) log → IsTextOf log text → has_float d ≡ false → text ≡ compact_text d
text_of_sent d log text sent h whole =
    let same = tokens_by false (events_of d) log (tokens text) (json_tokens (outline d)) (value_known d [] log sent) h.0 (λ s run.
    let led = value_leads d [] (start false) s whole (refl, refl, refl) (subst (λ es. TakesAll (start false) es s) (sym (append-nil (events_of d))) run) in
    ap (λ x. x.tokens) led.2 ∙ led.1.1) in
    h.1 ∙ ap print same ∙ print-outline d
