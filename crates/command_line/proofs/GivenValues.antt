-- An argument that no flag names has a value where words were given to it.
use Rattle.std.proofs.Common.{◌≡◌, ◌&&◌, ◌||◌, not, ℕ, Bool, cond, min, ◌+◌, zero, suc, true, false, refl, sym, subst, List, [], ◌∷◌, ◌++◌, length, drop, encode_utf8, Option, Some, None, is_some, IfSome, find, fold, bytes_eq, true≢false}
use Rattle.std.specs.Prelude.{⊤, option_and_then, slice_get}
use Rattle.std.specs.List.{list_all}
use Rattle.std.specs.Option.{option_map_or}
use Rattle.std.specs.Str.{chars}
use Rattle.std.proofs.lemmas.Slice.Eq.{bytes_eq-Decides}
use Rattle.clap.specs.Lexer.{long_of, short_of}
use Rattle.clap.specs.Matches.{count_text}
use Rattle.clap.specs.Facts.{explicit_source}
use Rattle.clap.specs.Takes.{is_given}
use Rattle.clap.specs.Walk.{done, has_long, has_short, next, option, plain, subcommand, trailing, value, waits, Held, Names, Outcome, Row, Rule, Step, Text, Waiting, Walk, action_of, after_flag, after_step, arg_by_id, arg_by_index, arg_by_long, arg_by_short, at_row, attached_value, bundle, count_of, bundle_met, bundle_step, default_rows, first_of, flag_met, has_row, is_pending, long_met, long_or_other, more_values, new_count, nothing_held, option_met, option_word, plain_word, positional_held, pushed, reacted, reading_by, rows_after, settled, settled_rows, short_met, short_or_plain, subcommand_met, subcommand_or_other, takes_several, takes_values, to_positional, used, used_as, used_by_id, values_or_missing, walk, walk_from, walked, walked_from, with_count, with_default, with_values, without, word_met}
use Rattle.clap.specs.declared.builder.action.ArgAction.{ArgAction}
use Rattle.clap.specs.declared.builder.action.ArgAction.TheVariants as action
use Rattle.clap.specs.declared.builder.value_parser.Reading.{Reading}
use Rattle.clap.specs.declared.parser.matches.ValueSource.{ValueSource}
use Rattle.clap.specs.declared.parser.matches.ValueSource.TheVariants.{CommandLine, DefaultValue}

abbrev HasFirst : List Text → Type 0
HasFirst [] = ⊥
HasFirst (v ∷ vs) = ⊤

-- the row has a value, where it is that of x
abbrev IsFilled : Text → Row → Type 0
IsFilled x r = bytes_eq r.id x ≡ true → HasFirst r.values

abbrev AreFilled : Text → List Row → Type 0
AreFilled x [] = ⊤
AreFilled x (r ∷ rs) = IsFilled x r × AreFilled x rs

abbrev IsPendingFilled : Text → Option (Text × List Text) → Type 0
IsPendingFilled x None = ⊤
IsPendingFilled x (Some p) = bytes_eq p.0 x ≡ true → HasFirst p.1

-- so have the rows that are held, and x, where it is pending
abbrev IsHeldFilled : Text → Held → Type 0
IsHeldFilled x h = AreFilled x h.rows × IsPendingFilled x h.pending

abbrev IsOther : Text → Rule → Type 0
IsOther x a = bytes_eq a.id x ≡ true → ⊥

-- ---- lists

longer_first : (xs ys : List Text) → HasFirst xs → HasFirst (xs ++ ys)
longer_first [] ys h = absurd h
longer_first (x ∷ xs) ys h = tt

first_before : (xs : List Text) (v : Text) → HasFirst (xs ++ v ∷ [])
first_before [] v = tt
first_before (x ∷ xs) v = tt

both_filled : (x : Text) (rs more : List Row) → AreFilled x rs → AreFilled x more → AreFilled x (rs ++ more)
both_filled x [] more p q = q
both_filled x (r ∷ rs) more p q = (p.0, both_filled x rs more p.1 q)

-- what is found passes the test
find_passes : {X : Type 0} (p : X → Bool) (P : X → Type 0) (xs : List X) → ((y : X) → p y ≡ true → P y) → IfSome (find p xs) P
find_passes p P [] h = tt
find_passes {X} p P (y ∷ ys) h = go (p y) (h y) (find_passes p P ys h)
  where
    go : (b : Bool) → (b ≡ true → P y) → IfSome (find p ys) P → IfSome (cond b (Some y) (find p ys)) P
    go true here rest = here refl
    go false here rest = rest

and_both : (a b : Bool) → (a && b) ≡ true → (a ≡ true) × (b ≡ true)
and_both true b e = (refl, e)
and_both false b e = absurd (true≢false (sym e))

-- and a test that all pass
find_among : {X : Type 0} (p q : X → Bool) (P : X → Type 0) (xs : List X) → list_all q xs ≡ true → ((y : X) → q y ≡ true → p y ≡ true → P y) → IfSome (find p xs) P
find_among p q P [] all h = tt
find_among p q P (y ∷ ys) all h = go (p y) (h y (and_both _ _ all).0) (find_among p q P ys (and_both _ _ all).1 h)
  where
    go : (b : Bool) → (b ≡ true → P y) → IfSome (find p ys) P → IfSome (cond b (Some y) (find p ys)) P
    go true here rest = here refl
    go false here rest = rest

-- ---- rows

at_row_filled : (x id : Text) (change : Row → List Row) (missing rows : List Row) → ((r : Row) → IsFilled x r → AreFilled x (change r)) → AreFilled x missing → AreFilled x rows
    → AreFilled x (at_row id change missing rows)
at_row_filled x id change missing [] p m h = m
at_row_filled x id change missing (r ∷ rs) p m h = go (bytes_eq r.id id) (at_row_filled x id change missing rs p m h.1)
  where
    go : (b : Bool) → AreFilled x (at_row id change missing rs) → AreFilled x (cond b (change r ++ rs) (r ∷ at_row id change missing rs))
    go true rest = both_filled x (change r) rs (p r h.0) h.1
    go false rest = (h.0, rest)

without_filled : (x id : Text) (rows : List Row) → AreFilled x rows → AreFilled x (without id rows)
without_filled x id rows h = at_row_filled x id (λ _. []) [] rows (λ r f. tt) tt h

with_values_filled : (x id : Text) (how : Reading) (s : ValueSource) (values : List Text) (rows : List Row) → (bytes_eq id x ≡ true → HasFirst values) → AreFilled x rows
    → AreFilled x (with_values id how s values rows)
with_values_filled x id how s values rows given h =
    at_row_filled x id (more_values s values) _ rows (λ r f. (λ e. longer_first r.values values (f e), tt)) (given, tt) h

with_count_filled : (x id : Text) (how : Reading) (s : ValueSource) (n : ℕ) (rows : List Row) → AreFilled x rows → AreFilled x (with_count id how s n rows)
with_count_filled x id how s n rows h = at_row_filled x id (new_count s n) _ rows (λ r f. (λ e. first_before r.values (count_text n), tt)) ((λ e. tt), tt) h

used_as_filled : (by : ArgAction) (x id : Text) (how : Reading) (values : List Text) (rows : List Row) → (bytes_eq id x ≡ true → HasFirst values) → AreFilled x rows
    → AreFilled x (used_as by id how values rows)
used_as_filled action.Set x id how values rows given h = with_values_filled x id how CommandLine values _ given (without_filled x id rows h)
used_as_filled action.SetTrue x id how values rows given h = with_values_filled x id how CommandLine values _ given (without_filled x id rows h)
used_as_filled action.SetFalse x id how values rows given h = with_values_filled x id how CommandLine values _ given (without_filled x id rows h)
used_as_filled action.Append x id how values rows given h = with_values_filled x id how CommandLine values rows given h
used_as_filled action.Count x id how [] rows given h = with_count_filled x id how CommandLine (min (count_of id rows + 1) 255) _ (without_filled x id rows h)
used_as_filled action.Count x id how (v ∷ vs) rows given h = with_values_filled x id how CommandLine (v ∷ vs) _ given (without_filled x id rows h)
used_as_filled other x id how values rows given h = h

missing_first : (a : Rule) (values : List Text) → HasFirst values → HasFirst (values_or_missing a values)
missing_first a [] h = absurd h
missing_first a (v ∷ vs) h = tt

used_filled : (x : Text) (a : Rule) (values : List Text) (rows : List Row) → (bytes_eq a.id x ≡ true → HasFirst values) → AreFilled x rows → AreFilled x (used a values rows)
used_filled x a values rows given h = used_as_filled (action_of a) x a.id (reading_by a) (values_or_missing a values) rows (λ e. missing_first a values (given e)) h

used_by_id_filled : (x : Text) (o : Option Rule) (values : List Text) (rows : List Row) → IfSome o (λ a. bytes_eq a.id x ≡ true → HasFirst values) → AreFilled x rows
    → AreFilled x (used_by_id o values rows)
used_by_id_filled x None values rows given h = h
used_by_id_filled x (Some a) values rows given h = used_filled x a values rows given h

same_id : (id key x : Text) → bytes_eq id key ≡ true → bytes_eq id x ≡ true → bytes_eq key x ≡ true
same_id id key x e is = subst (λ t. bytes_eq t x ≡ true) ((bytes_eq-Decides id key).0 e) is

settled_rows_filled : (x : Text) (c : List Rule) (pending : Option (Text × List Text)) (rows : List Row) → IsPendingFilled x pending → AreFilled x rows → AreFilled x (settled_rows c pending rows)
settled_rows_filled x c None rows p h = h
settled_rows_filled x c (Some q) rows p h =
    used_by_id_filled x (arg_by_id c q.0) q.1 rows (find_passes (λ a. bytes_eq a.id q.0) (λ a. bytes_eq a.id x ≡ true → HasFirst q.1) c (λ a e is. p (same_id a.id q.0 x e is))) h

-- ---- what is held

settled_filled : (x : Text) (c : List Rule) (h : Held) → IsHeldFilled x h → IsHeldFilled x (settled c h)
settled_filled x c h f = (settled_rows_filled x c h.pending h.rows f.1 f.0, tt)

reacted_filled : (x : Text) (c : List Rule) (a : Rule) (values : List Text) (h : Held) → (bytes_eq a.id x ≡ true → HasFirst values) → IsHeldFilled x h → IsHeldFilled x (reacted c a values h)
reacted_filled x c a values h given f = (used_filled x a values (settled c h).rows given (settled_filled x c h f).0, tt)

pushed_filled : (x id word : Text) (h : Held) → AreFilled x h.rows → IsHeldFilled x (pushed id word h)
pushed_filled x id word h f = (f, λ e. first_before _ word)

option_met_filled : (x : Text) (c : List Rule) (a : Rule) (v : Option Text) (h : Held) → IsOther x a → IsHeldFilled x h → IsHeldFilled x (option_met c a v h).0
option_met_filled x c a (Some v) h other f = reacted_filled x c a (v ∷ []) h (λ e. tt) f
option_met_filled x c a None h other f = ((settled_filled x c h f).0, λ e. absurd (other e))

flag_met_filled : (x : Text) (c : List Rule) (a : Rule) (v : Option Text) (h : Held) → IsOther x a → IsHeldFilled x h → IsHeldFilled x (flag_met c a v h).0
flag_met_filled x c a (Some v) h other f = f
flag_met_filled x c a None h other f = reacted_filled x c a [] h (λ e. absurd (other e)) f

long_met_filled : (x : Text) (c : List Rule) (o : Option Rule) (v : Option Text) (h : Held) → IfSome o (IsOther x) → IsHeldFilled x h → IsHeldFilled x (long_met c o v h).0
long_met_filled x c None v h other f = f
long_met_filled x c (Some a) v h other f = go (takes_values a)
  where
    go : (b : Bool) → IsHeldFilled x (cond b (option_met c a v h) (flag_met c a v h)).0
    go true = option_met_filled x c a v h other f
    go false = flag_met_filled x c a v h other f

short_met_filled : (x : Text) (c : List Rule) (o : Option Rule) (rest : Text) (h : Held) (onward : Held → Held × Outcome) → IfSome o (IsOther x)
    → ((k : Held) → IsHeldFilled x k → IsHeldFilled x (onward k).0) → IsHeldFilled x h → IsHeldFilled x (short_met c o rest h onward).0
short_met_filled x c None rest h onward other keeps f = f
short_met_filled x c (Some a) rest h onward other keeps f = go (takes_values a)
  where
    go : (b : Bool) → IsHeldFilled x (cond b (option_met c a (attached_value rest) h) (onward (reacted c a [] h))).0
    go true = option_met_filled x c a (attached_value rest) h other f
    go false = keeps (reacted c a [] h) (reacted_filled x c a [] h (λ e. absurd (other e)) f)

-- ---- the walk, over rules by which no flag is x

abbrev pub is_unflagged : Text → Rule → Bool
is_unflagged x a = is_some a.index || not (bytes_eq a.id x)

flag_is_other : (index is named : Bool) → (index || not is) ≡ true → (not index && named) ≡ true → is ≡ true → ⊥
flag_is_other true is named q p e = true≢false (sym p)
flag_is_other false true named q p e = true≢false (sym q)
flag_is_other false false named q p e = true≢false (sym e)

module _ (x : Text) (c : List Rule) (unflagged : list_all (is_unflagged x) c ≡ true) where
  flag_among : (named : Rule → Bool) → IfSome (find (λ a. not (is_some a.index) && named a) c) (IsOther x)
  flag_among named = find_among (λ a. not (is_some a.index) && named a) (is_unflagged x) (IsOther x) c unflagged
      (λ a q p. flag_is_other (is_some a.index) (bytes_eq a.id x) (named a) q p)

  bundle_step_filled : (o : Option ℕ) (flags : Text) (skip : ℕ) (so_far : Outcome) (h : Held) (onward : Text → ℕ → Outcome → Held → Held × Outcome)
      → ((t : Text) (n : ℕ) (s : Outcome) (k : Held) → IsHeldFilled x k → IsHeldFilled x (onward t n s k).0) → IsHeldFilled x h → IsHeldFilled x (bundle_step c o flags skip so_far h onward).0
  bundle_step_filled None flags skip so_far h onward keeps f = f
  bundle_step_filled (Some y) flags zero so_far h onward keeps f =
      let rest = drop (length (encode_utf8 y)) flags in
      short_met_filled x c (arg_by_short c y) rest h (onward rest 0 done) (flag_among (λ a. has_short a y)) (keeps rest 0 done) f
  bundle_step_filled (Some y) flags (suc skip) so_far h onward keeps f = keeps (drop (length (encode_utf8 y)) flags) skip so_far h f

  bundle_met_filled : (k : ℕ) (flags : Text) (skip : ℕ) (so_far : Outcome) (h : Held) → IsHeldFilled x h → IsHeldFilled x (bundle_met c k flags skip so_far h).0
  unfolding bundle_met
  bundle_met_filled zero flags skip so_far h f = f
  bundle_met_filled (suc k) flags skip so_far h f = bundle_step_filled (slice_get (chars flags) 0) flags skip so_far h (bundle_met c k) (bundle_met_filled k) f

  option_word_filled : (o : Option Rule) (id word : Text) (h : Held) → IsHeldFilled x h → IsHeldFilled x (option_word o id word h).0
  option_word_filled None id word h f = f
  option_word_filled (Some a) id word h f = pushed_filled x id word h f.0

  plain_word_filled : (waiting : Waiting) (word : Text) (h : Held) → IsHeldFilled x h → IsHeldFilled x (plain_word c waiting word h).0
  plain_word_filled (option id) word h f = option_word_filled (arg_by_id c id) id word h f
  plain_word_filled other word h f = f

  after_flag_filled : (waiting : Waiting) (word : Text) (h : Held) (o : Outcome) → IsHeldFilled x h → IsHeldFilled x (after_flag c waiting word h o).0
  after_flag_filled waiting word h done f = f
  after_flag_filled waiting word h (waits id) f = f
  after_flag_filled waiting word h other f = plain_word_filled waiting word h f

  short_or_plain_filled : (waiting : Waiting) (word : Text) (o : Option Text) (h : Held) → IsHeldFilled x h → IsHeldFilled x (short_or_plain c waiting word o h).0
  short_or_plain_filled waiting word None h f = plain_word_filled waiting word h f
  short_or_plain_filled waiting word (Some flags) h f =
      after_flag_filled waiting word (bundle c flags h).0 (bundle c flags h).1 (bundle_met_filled (length flags) flags h.skip plain (record h { skip = 0 }) f)

  long_or_other_filled : (waiting : Waiting) (word : Text) (o : Option (Text × Option Text)) (h : Held) → IsHeldFilled x h → IsHeldFilled x (long_or_other c waiting word o h).0
  long_or_other_filled waiting word None h f = short_or_plain_filled waiting word (short_of word) h f
  long_or_other_filled waiting word (Some p) h f =
      let met = long_met c (arg_by_long c p.0) p.1 h in
      after_flag_filled waiting word met.0 met.1 (long_met_filled x c (arg_by_long c p.0) p.1 h (flag_among (λ a. has_long a p.0)) f)

  subcommand_or_other_filled : (o : Option Text) (waiting : Waiting) (position : ℕ) (word : Text) (h : Held) → IsHeldFilled x h → IsHeldFilled x (subcommand_or_other c o waiting position word h).0
  subcommand_or_other_filled (Some name) waiting position word h f = f
  subcommand_or_other_filled None waiting position word h f = go (bytes_eq word (45 ∷ 45 ∷ []))
    where
      go : (b : Bool) → IsHeldFilled x (cond b (h, trailing position) (long_or_other c waiting word (long_of word) h)).0
      go true = f
      go false = long_or_other_filled waiting word (long_of word) h f

  word_met_filled : (names : Names) (is_trailing : Bool) (waiting : Waiting) (position : ℕ) (word : Text) (h : Held) → IsHeldFilled x h
      → IsHeldFilled x (word_met c names is_trailing waiting position word h).0
  word_met_filled names true waiting position word h f = f
  word_met_filled names false waiting position word h f = subcommand_or_other_filled (subcommand_met names waiting word) waiting position word h f

  positional_filled : (a : Rule) (word : Text) (h : Held) → IsHeldFilled x h → IsHeldFilled x (positional_held c a word h)
  positional_filled a word h f = go (is_pending a h.pending && takes_several a)
    where
      go : (b : Bool) → IsHeldFilled x (pushed a.id word (cond b h (settled c h)))
      go true = pushed_filled x a.id word h f.0
      go false = pushed_filled x a.id word (settled c h) (settled_filled x c h f).0

  to_positional_filled : (o : Option Rule) (word : Text) (w : Walk) (h : Held) → IsHeldFilled x h → IsHeldFilled x (to_positional c o word w h).held
  to_positional_filled None word w h f = f
  to_positional_filled (Some a) word w h f = positional_filled a word h f

  after_step_filled : (word : Text) (w : Walk) (h : Held) (step : Step) → IsHeldFilled x h → IsHeldFilled x (after_step c word w h step).held
  after_step_filled word w h (next waiting) f = f
  after_step_filled word w h (trailing position) f = f
  after_step_filled word w h (subcommand name) f = f
  after_step_filled word w h value f = to_positional_filled (arg_by_index c w.position) word w h f

  walked_from_filled : (names : Names) (o : Option (Text × List Text)) (w : Walk) (word : Text) → IsHeldFilled x w.held → IsHeldFilled x (walked_from c names o w word).held
  walked_from_filled names (Some p) w word f = f
  walked_from_filled names None w word f =
      let met = word_met c names w.is_trailing w.waiting w.position word w.held in
      after_step_filled word w met.0 met.1 (word_met_filled names w.is_trailing w.waiting w.position word w.held f)

  walked_filled : (names : Names) (w : Walk) (word : Text) → IsHeldFilled x w.held → IsHeldFilled x (walked c names w word).held
  unfolding walked
  walked_filled names w word f = walked_from_filled names w.stopped w word f

  walk_filled : (names : Names) (words : List Text) (w : Walk) → IsHeldFilled x w.held → IsHeldFilled x (fold (walked c names) w words).held
  walk_filled names [] w f = f
  walk_filled names (word ∷ rest) w f = walk_filled names rest (walked c names w word) (walked_filled names w word f)

-- ---- after the walk

default_rows_filled : (x id : Text) (how : Reading) (values : List Text) (rows : List Row) → AreFilled x rows → AreFilled x (default_rows id how values rows)
default_rows_filled x id how [] rows f = f
default_rows_filled x id how (v ∷ vs) rows f = with_values_filled x id how DefaultValue (v ∷ vs) rows (λ e. tt) f

with_default_filled : (x : Text) (rows : List Row) (a : Rule) → AreFilled x rows → AreFilled x (with_default rows a)
with_default_filled x rows a f = go (has_row a.id rows)
  where
    go : (b : Bool) → AreFilled x (cond b rows (default_rows a.id (reading_by a) a.defaults rows))
    go true = f
    go false = default_rows_filled x a.id (reading_by a) a.defaults rows f

defaults_filled : (x : Text) (c : List Rule) (rows : List Row) → AreFilled x rows → AreFilled x (fold with_default rows c)
defaults_filled x [] rows f = f
defaults_filled x (a ∷ rest) rows f = defaults_filled x rest (with_default rows a) (with_default_filled x rows a f)

rows_filled : (x : Text) (c : List Rule) (names : Names) (words : List Text) → list_all (is_unflagged x) c ≡ true → AreFilled x (rows_after c names words)
rows_filled x c names words unflagged =
    let end = (walk c names nothing_held words).held in
    defaults_filled x c (settled c end).rows (settled_filled x c end (walk_filled x c unflagged names words (walk_from nothing_held) (tt, tt))).0

first_in : (vs : List Text) → HasFirst vs → is_some (slice_get vs 0) ≡ true
first_in [] h = absurd h
first_in (v ∷ vs) h = refl

found_filled : (x : Text) (rows : List Row) → AreFilled x rows → IfSome (find (λ r. bytes_eq r.id x) rows) (λ r. HasFirst r.values)
found_filled x [] f = tt
found_filled x (r ∷ rs) f = go (bytes_eq r.id x) f.0 (found_filled x rs f.1)
  where
    go : (b : Bool) → (b ≡ true → HasFirst r.values) → IfSome (find (λ y. bytes_eq y.id x) rs) (λ y. HasFirst y.values) → IfSome (cond b (Some r) (find (λ y. bytes_eq y.id x) rs)) (λ y. HasFirst y.values)
    go true here rest = here refl
    go false here rest = rest

-- an argument that no flag names has a value where it was given
pub value_of_given : (x : Text) (c : List Rule) (names : Names) (words : List Text) → list_all (is_unflagged x) c ≡ true
    → is_given x (rows_after c names words) ≡ true → is_some (first_of x (rows_after c names words)) ≡ true
value_of_given x c names words unflagged given =
    let rows = rows_after c names words in
    go (find (λ r. bytes_eq r.id x) rows) (found_filled x rows (rows_filled x c names words unflagged)) given
  where
    go : (o : Option Row) → IfSome o (λ r. HasFirst r.values) → option_map_or (λ r. explicit_source r.source) o false ≡ true → is_some (option_and_then (λ r. slice_get r.values 0) o) ≡ true
    go None f e = absurd (true≢false (sym e))
    go (Some r) f e = first_in r.values f
