-- The events that a value sends to a serializer: those that serde_json's own values send, but that an object doesn't say before its first
-- member how many there are.
use Rattle.std.specs.Prelude.{Some, None}
use Rattle.serde.specs.Event as event
use Rattle.serde.specs.Event.{Log, Logs}
use Rattle.serde.specs.declared.name.Case.TheVariants.{AsIs}
use Rattle.serde_json.specs.Data.{Data, null, boolean, number, string, array, object, Items, no_items, item, Members, no_members, member}
use Rattle.serde_json.specs.Events.{number_event, items_len}

abbrev mutual
  pub Sends : Data → Log → Log → Type 0
  Sends null old new = Logs old new event.nothing
  Sends (boolean b) old new = Logs old new (event.boolean b)
  Sends (number n) old new = Logs old new (number_event n)
  Sends (string s) old new = Logs old new (event.text s)
  Sends (array ds) old new = (first : Log) × Logs old first (event.seq_begins (Some (items_len ds))) × SendsItems ds first new
  Sends (object ms) old new = (first : Log) × Logs old first (event.map_begins None) × SendsMembers ms first new

  -- with the end
  pub SendsItems : Items → Log → Log → Type 0
  SendsItems no_items old new = Logs old new event.seq_ends
  SendsItems (item d ds) old new = (mid : Log) × Sends d old mid × SendsItems ds mid new

  pub SendsMembers : Members → Log → Log → Type 0
  SendsMembers no_members old new = Logs old new event.map_ends
  SendsMembers (member k d ms) old new = (named mid : Log) × Logs old named (event.field_key k AsIs) × Sends d named mid × SendsMembers ms mid new

-- whatever members come behind: what sends those from here has sent what stands before them too
abbrev pub Adds : (Members → Members) → Log → Log → Type 0
Adds add old new = (ms : Members) (end : Log) → SendsMembers ms new end → SendsMembers (add ms) old end
