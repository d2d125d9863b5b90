-- What is sent for members, values and lists, one after the other.
use Rattle.std.proofs.Common.{◌≡◌, ℕ, ◌+◌, ◌<◌, ◌≤◌, Bool, true, false, not, List, [], ◌∷◌, length, drop, get_or, Result, Ok, Err, OnOk, Option, Some, None, codes, refl, sym, ap, ◌∙◌, subst}
use Rattle.std.proofs.lemmas.Bool.{false≢true}
use Rattle.std.proofs.lemmas.List.{drop_more}
use Rattle.std.specs.Str.{chars}
use Rattle.serde.specs.Event as event
use Rattle.serde.specs.Event.{Log, Logs}
use Rattle.serde.specs.declared.name.Case.TheVariants.{AsIs}
use Rattle.serde_json.specs.Data.{Data, string, array, object, Members, no_members, member}
use Rattle.serde_json.specs.View.{items_of}
use Rattle.serde_json.specs.Events.{items_len}
use Rattle.tokens.specs.Templates.{cooked_value}
use Rattle.tree.specs.declared.kind.Kind.{Kind}
use Rattle.tree.specs.Tree.{Tree, node, kind_of}
use Rattle.estree_json.specs.declared.table.Member.{Member}
use Rattle.estree_json.specs.Texts.{literal_regex, regex_of, unquoted, cooked_of_units, template_value, with_cooked, before_slash, after_slash}
use Rattle.estree_json.specs.Fields.{Label, directive}
use Rattle.estree_json.specs.Json.{first_or_null, label_of, node_json, parts_json}
use Rattle.estree_json.specs.Table.{Subject, subject_of, from, option_member, by_line, by_lines, InOrder}
use Rattle.estree_json.specs.Sent.{Sends, SendsItems, SendsMembers, Adds}
use Rattle.estree_json.proofs.Lists.{between, between_more, in_turns, turns_taken, turns_passed}
use Rattle.estree_json.proofs.Objects.{no_lines}

-- a key and a value
pub member_sent : {A E : Type 0} (r : Result A E) (name : List ℕ) (d : Data) (old named new : Log) → Logs old named (event.field_key name AsIs) → OnOk r (Sends d named new) → OnOk r (Adds (member name d) old new)
member_sent (Err x) name d old named new k v = tt
member_sent (Ok x) name d old named new k v = λ ms end s. (named, new, k, v, s)

-- one after the other
pub then_sent : (one two : Members → Members) (old mid new : Log) → Adds one old mid → Adds two mid new → Adds (λ ms. one (two ms)) old new
then_sent one two old mid new h k ms end s = h (two ms) end (k ms end s)

-- an object
pub object_sent : {A E : Type 0} (r : Result A E) (add : Members → Members) (old first last new : Log) → Logs old first (event.map_begins None) → Adds add first last → OnOk r (Logs last new event.map_ends) → OnOk r (Sends (object (add no_members)) old new)
object_sent (Err x) add old first last new b h e = tt
object_sent (Ok x) add old first last new b h e = (first, b, h no_members new e)

pub member_as : {A E : Type 0} (r : Result A E) (name : List ℕ) (x y : Data) (old new : Log) → x ≡ y → OnOk r (Adds (member name x) old new) → OnOk r (Adds (member name y) old new)
member_as r name x y old new e h = let P : Data → Type 0 = λ d. OnOk r (Adds (member name d) old new) in subst P e h

-- a value that may be missing
pub option_as : {A E : Type 0} (r : Result A E) (name : List ℕ) (x y : Option Data) (old new : Log) → x ≡ y → OnOk r (Adds (option_member name x) old new) → OnOk r (Adds (option_member name y) old new)
option_as r name x y old new e h = let P : Option Data → Type 0 = λ o. OnOk r (Adds (option_member name o) old new) in subst P e h

pub option_none : (name : List ℕ) (o : Option Data) (old : Log) → None ≡ o → Adds (option_member name o) old old
option_none name o old e ms end s = subst (λ x. SendsMembers (option_member name x ms) old end) e s

pub regex_some : (w rest : List ℕ) → w ≡ 47 ∷ rest → Some (regex_of rest) ≡ literal_regex w
regex_some w rest e = rw e

pub directive_some : (l : Label) → l.flags.directive ≡ true → Some (string (unquoted l.first_text)) ≡ directive l
directive_some l e = rw e

-- flags and pattern of a regular expression
pub regex_sent : {A E : Type 0} (r : Result A E) (rest pattern flags : List ℕ) (old named first mid last new : Log) → pattern ≡ before_slash rest → flags ≡ after_slash rest
    → Logs old named (event.field_key (codes "regex") AsIs) → Logs named first (event.map_begins None)
    → Adds (member (codes "flags") (string flags)) first mid → Adds (member (codes "pattern") (string pattern)) mid last
    → OnOk r (Logs last new event.map_ends) → OnOk r (Adds (member (codes "regex") (regex_of rest)) old new)
regex_sent r rest pattern flags old named first mid last new p f k b one two e =
    let add : Members → Members = λ ms. member (codes "flags") (string flags) (member (codes "pattern") (string pattern) ms) in
    let sent = object_sent r add named first last new b (then_sent (member (codes "flags") (string flags)) (member (codes "pattern") (string pattern)) first mid last one two) e in
    let same : object (add no_members) ≡ regex_of rest = rw (p, f) in
    member_as r (codes "regex") (object (add no_members)) (regex_of rest) old new same (member_sent r (codes "regex") (object (add no_members)) old named new k sent)

cooked_same : (o : Option Data) (ms : Members) → option_member (codes "cooked") o ms ≡ with_cooked o ms
cooked_same None ms = refl
cooked_same (Some d) ms = refl

-- the value of a template's part
pub template_sent : {A E : Type 0} (r : Result A E) (raw : List ℕ) (cooked : Option Data) (old named first mid last new : Log) → cooked ≡ cooked_of_units (cooked_value (chars raw))
    → Logs old named (event.field_key (codes "value") AsIs) → Logs named first (event.map_begins None)
    → Adds (option_member (codes "cooked") cooked) first mid → Adds (member (codes "raw") (string raw)) mid last
    → OnOk r (Logs last new event.map_ends) → OnOk r (Adds (member (codes "value") (template_value raw)) old new)
template_sent r raw cooked old named first mid last new c k b one two e =
    let add : Members → Members = λ ms. option_member (codes "cooked") cooked (member (codes "raw") (string raw) ms) in
    let sent = object_sent r add named first last new b (then_sent (option_member (codes "cooked") cooked) (member (codes "raw") (string raw)) first mid last one two) e in
    let same : object (add no_members) ≡ template_value raw =
    ap object (cooked_same cooked (member (codes "raw") (string raw) no_members)) ∙ ap (λ o. object (with_cooked o (member (codes "raw") (string raw) no_members))) c in
    member_as r (codes "value") (object (add no_members)) (template_value raw) old new same (member_sent r (codes "value") (object (add no_members)) old named new k sent)

pub value_as : {A E : Type 0} (r : Result A E) (x y : Data) (old new : Log) → x ≡ y → OnOk r (Sends x old new) → OnOk r (Sends y old new)
value_as r x y old new e h = let P : Data → Type 0 = λ d. OnOk r (Sends d old new) in subst P e h

-- one more value of those that are left: whatever sends what comes behind it sends all
item_more : (d : Data) (rest more : List Data) (old new : Log) (All : Log → Type 0) → Sends d old new → more ≡ d ∷ rest
    → ((end : Log) → SendsItems (items_of more) old end → All end) → (end : Log) → SendsItems (items_of rest) new end → All end
item_more d rest more old new All v m w end s = w end (subst (λ ds. SendsItems (items_of ds) old end) (sym m) (new, v, s))

pub between_next : (i j : ℕ) (ds : List Data) (old new : Log) (All : Log → Type 0) → i < j → j ≤ length ds → Sends (first_or_null (from i ds)) old new
    → ((end : Log) → SendsItems (items_of (between i j ds)) old end → All end) → (end : Log) → SendsItems (items_of (between (i + 1) j ds)) new end → All end
between_next i j ds old new All l m v w = item_more (first_or_null (from i ds)) (between (i + 1) j ds) (between i j ds) old new All v (between_more i j ds l m) w

pub turns_next : (b : Bool) (i : ℕ) (ds : List Data) (old new : Log) (All : Log → Type 0) → b ≡ true → i < length ds → Sends (first_or_null (from i ds)) old new
    → ((end : Log) → SendsItems (items_of (in_turns b (drop i ds))) old end → All end) → (end : Log) → SendsItems (items_of (in_turns (not b) (drop (i + 1) ds))) new end → All end
turns_next true i ds old new All e l v w = item_more (first_or_null (from i ds)) (in_turns false (drop (i + 1) ds)) (in_turns true (drop i ds)) old new All v (turns_taken i ds l) w
turns_next false i ds old new All e l v w = absurd (false≢true e)

pub turns_skip : (b : Bool) (i : ℕ) (ds : List Data) (old : Log) (All : Log → Type 0) → b ≡ false → i < length ds
    → ((end : Log) → SendsItems (items_of (in_turns b (drop i ds))) old end → All end) → (end : Log) → SendsItems (items_of (in_turns (not b) (drop (i + 1) ds))) old end → All end
turns_skip false i ds old All e l w end s = w end (subst (λ es. SendsItems (items_of es) old end) (sym (turns_passed i ds l)) s)
turns_skip true i ds old All e l w end s = absurd (false≢true (sym e))

-- an array of these values under a key
pub list_sent : {A E : Type 0} (r : Result A E) (name : List ℕ) (ds left : List Data) (count : ℕ) (old named first last new : Log) → count ≡ items_len (items_of ds)
    → Logs old named (event.field_key name AsIs) → Logs named first (event.seq_begins (Some count))
    → ((end : Log) → SendsItems (items_of left) last end → SendsItems (items_of ds) first end) → left ≡ [] → OnOk r (Logs last new event.seq_ends)
    → OnOk r (Adds (member name (array (items_of ds))) old new)
list_sent (Err x) name ds left count old named first last new n k b w none e = tt
list_sent (Ok x) name ds left count old named first last new n k b w none e = λ ms end s. (
  named,
  new,
  k,
  (first, subst (λ c. Logs named first (event.seq_begins (Some c))) n b, w new (subst (λ es. SendsItems (items_of es) last new) (sym none) e)),
  s,
)

-- one more line of those that are left
pub line_more : (x : Subject) (ls : List Member) (i : ℕ) (d : Member) (old new : Log) (All : Log → Type 0) → i < length ls → Adds (by_line x (get_or ls i d)) old new
    → ((end : Log) → SendsMembers (by_lines x (drop i ls)) old end → All end) → (end : Log) → SendsMembers (by_lines x (drop (i + 1) ls)) new end → All end
line_more x ls i d old new All l h w end s = w end (subst (λ ys. SendsMembers (by_lines x ys) old end) (sym (drop_more ls i d l)) (h (by_lines x (drop (i + 1) ls)) end s))

-- a node's object
pub node_sent : {A E : Type 0} (r : Result A E) (is_last : Bool) (t : Tree) (kind : Kind) (lines : List Member) (i : ℕ) (old first last new : Log) → kind ≡ kind_of t → InOrder kind lines
    → Logs old first (event.map_begins None) → ((end : Log) → SendsMembers (by_lines (subject_of is_last t) (drop i lines)) last end → SendsMembers (by_lines (subject_of is_last t) lines) first end)
    → length lines ≤ i → OnOk r (Logs last new event.map_ends) → OnOk r (Sends (node_json is_last t) old new)
unfolding node_json
node_sent (Err x) is_last t kind lines i old first last new is table b w l e = tt
node_sent (Ok x) is_last (node k t g s e ps) kind lines i old first last new is table b w l ends =
    let x = subject_of is_last (node k t g s e ps) in
    let right : InOrder k lines = subst (λ v. InOrder v lines) is table in
    let whole : SendsMembers (by_lines x lines) first new = w new (subst (λ ys. SendsMembers (by_lines x ys) last new) (sym (no_lines lines i l)) ends) in
    (first, b, subst (λ ms. SendsMembers ms first new) (right is_last (label_of (node k t g s e ps)) s e (parts_json ps)) whole)
