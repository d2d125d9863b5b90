-- The end of a list: its items up to where none follows, and what closes it (ECMA-262 12.2, 12.3.8, 12.16, 13.3, 13.12, 14.1, 14.6).
use Rattle.std.proofs.Common.{◌≡◌, ℕ, ◌-◌, Bool, true, false, cond, List, [], ◌++◌, ◌⊎◌, inl, inr, refl, sym, ap, ◌∙◌, subst, append_assoc}
use Rattle.std.specs.Prelude.{not, ◌&&◌, ◌||◌, if◌then◌else◌, nat_lt, codes}
use Rattle.std.proofs.lemmas.Bool.{and_parts, false≢true, true≢false}
use Rattle.std.proofs.lemmas.List.{append-nil}
use Rattle.tokens.specs.declared.token.TokenClass.TheVariants.{Punctuator}
use Rattle.token_cursor.specs.CursorState.{CursorState}
use Rattle.tree.specs.declared.kind.Pair.{Pair}
use Rattle.tree.specs.declared.kind.Span.{Span}
use Rattle.tree.specs.Tree.{Tree, Parts, none, part, gap, push, part_count}
use Rattle.language.specs.declared.Start.{Start}
use Rattle.language.specs.declared.Start.TheVariants.{Any}
use Rattle.language.specs.declared.Rank.TheVariants.{Expression}
use Rattle.language.specs.Covers.{Reading, as_expression, as_pattern}
use Rattle.language.specs.Derivation.{done, step, no_more}
use Rattle.language.specs.Edges.{edge, last_edge, edge_as_written}
use Rattle.language.specs.Pieces.{expr, is_none}
use Rattle.language.specs.Token.{Token}
use Rattle.language.specs.Claims.{max_open}
use Rattle.covers.specs.declared.list.ListItem.{ListItem}
use Rattle.covers.specs.declared.list.ListSummary.{ListSummary}
use Rattle.covers.specs.declared.list.ListKind.{ListKind}
use Rattle.covers.specs.declared.list.ListKind.TheVariants as listed
use Rattle.covers.specs.declared.list.ListBuilder.{ListBuilder as ListOf}
use Rattle.covers.specs.Lists.{closing, is_ended, seen_with, separated}
use Rattle.recursive_descent.specs.Soundness.{Adds, RunsIn, all_read_as, grouping}
use Rattle.recursive_descent.specs.SoundnessOfLists.{SoFarAt, Unless, ListAt, ClosedBy, is_stuck, is_whole, whole_of, asks_some, asks_edge, asks_last, so_far_fits, seen_fits, has_reading, stood_in, left_of, item_pieces, ItemAt, an_item, a_hole, a_chunk, stuck_at}
use Rattle.recursive_descent.specs.Follows.{PassedBefore, CommaAt, SeesEnd, end_before}
use Rattle.parser_tables.specs.Items.{after_item, are_some, is_unseparated}
use Rattle.token_cursor.specs.Seen.{Misses}
use Rattle.recursive_descent.proofs.reading.AddedPairs.{adds_behind, adds_both}
use Rattle.recursive_descent.proofs.sound_lists.OneMoreItem.{has_items, join_none, semicolons_on}
use Rattle.recursive_descent.proofs.sound_lists.ListReadings.{seen_step}
use Rattle.recursive_descent.proofs.sound_lists.WholeLists.{FurtherOn, SemicolonsBefore, after_listed, after_nodes, semicolons_before, so_far_chunk, unless_is, whole_item, item_up_to}
use Rattle.token_cursor.specs.SourceText.{SourceText, behind_in}
use Rattle.recursive_descent.specs.Spelled.{SpellsIn}

-- The items from s to where none follows, in each reading that the whole has; the last right edge, and the last place.
pub record ItemsAt (text : SourceText) (f : Start) (l : ListOf) (o : ℕ) (s e : Token) (P : List Pair) : Type 0 where
  pub runs : (a : Reading) → is_whole l a ≡ true → RunsIn text o (stood_in f l.listed (item_pieces l.listed a (all_read_as a l.nodes))) (all_read_as a l.nodes) s e P
  pub edge : asks_edge l.listed ≡ true → l.seen.edge ≡ edge_as_written (last_edge l.nodes) e
  pub inside : asks_last l.listed as_expression ≡ true → is_whole l as_expression ≡ true → l.inside.end ≡ e.stop

-- from a list as far as it was read to all its items
abbrev pub ItemsFrom : SourceText → ListOf → ListOf → ℕ → Token → Token → List Pair → Type 0
ItemsFrom text l k o m e Q = (f : Start) (s : Token) (P : List Pair) → SoFarAt text f l o s m P → ItemsAt text f k o s e (P ++ Q)

pushed_edge : (ps : Parts) (n : Tree) → last_edge (push ps n) ≡ edge n
pushed_edge none n = refl
pushed_edge (part k none) n = refl
pushed_edge (part k (part j ps)) n = pushed_edge (part j ps) n
pushed_edge (part k (gap ps)) n = pushed_edge ps n
pushed_edge (gap ps) n = pushed_edge ps n

unless_never : (X : Type 0) (b : Bool) → b ≡ true → Unless b X → ⊥
unless_never X true h u = u
unless_never X false h u = absurd (false≢true h)

or_second : (b c : Bool) → c ≡ true → (b || c) ≡ true
or_second true c h = refl
or_second false c h = h

and_of : {b c : Bool} → b ≡ true → c ≡ true → (b && c) ≡ true
and_of {b} {c} h k = ap (λ x. x && c) h ∙ k

-- the reading of a whole list was left before
whole_fits : (l : ListOf) (a : Reading) → is_whole l a ≡ true → so_far_fits l a ≡ true
whole_fits l a h =
    let u = and_parts (has_reading l.listed a) (seen_fits l.listed l a) (and_parts (has_reading l.listed a && seen_fits l.listed l a) _ h).0 in
    and_of u.0 (or_second (is_none l.nodes) (seen_fits l.listed l a) u.1)

-- the list is ended, or what ends it stands ahead
abbrev IsOver : ListKind → ListOf → CursorState → Type 0
IsOver x l t = (is_ended x l.seen (part_count l.nodes) ≡ true) ⊎ SeesEnd (end_before x) t

some_counted : (ps : Parts) → nat_lt 0 (part_count ps) ≡ true → not (is_none ps) ≡ true
some_counted none h = absurd (false≢true h)
some_counted (part n ps) h = refl
some_counted (gap ps) h = refl

module _ (text : SourceText) (f : Start) {o : ℕ} where
  still : {m t : Token} → t ≡ m → RunsIn text o [] none m t []
  still {m} h = subst (λ z. RunsIn text o [] none m z []) (sym h) done

  marked_still : (b : Bool) (a : Reading) {m t : Token} → b ≡ true → t ≡ m → RunsIn text o (stood_in f listed.Template (left_of listed.Template b a none)) none m t []
  marked_still true a h k = still k
  marked_still false a h k = absurd (false≢true h)

  -- nothing is left then, or the list was stuck
  nothing_left : (x : ListKind) (l : ListOf) (a : Reading) (m : Token) (t : CursorState) → whole_of x l a ≡ true → IsOver x l t → SemicolonsBefore text x m t.last → (stuck_at x a l.nodes l.seen.has_comma ≡ true) ⊎ RunsIn text o (stood_in f x (left_of x l.seen.is_flagged a none)) none m t.last []
  nothing_left listed.Arguments l a m t w over passed = inr (still passed)
  nothing_left listed.AsyncArguments l as_expression m t w over passed = inr (still passed)
  nothing_left listed.AsyncArguments l (as_pattern b) m t w over passed = inr (still passed)
  nothing_left listed.Elements l as_expression m t w over passed = inr (still passed)
  nothing_left listed.Elements l (as_pattern b) m t w over passed = inr (still passed)
  nothing_left listed.Properties l as_expression m t w over passed = inr (still passed)
  nothing_left listed.Properties l (as_pattern b) m t w over passed = inr (still passed)
  nothing_left listed.ParenthesizedItems l as_expression m t w over passed = inl (and_parts (has_reading listed.ParenthesizedItems as_expression && seen_fits listed.ParenthesizedItems l as_expression) _ w).1
  nothing_left listed.ParenthesizedItems l (as_pattern b) m t w over passed = inr (still passed)
  nothing_left listed.Parameters l a m t w over passed = inr (still passed)
  nothing_left listed.NoParameter l a m t w over passed = inr (still passed)
  nothing_left listed.OneParameter l a m t w (inl h) passed = inl (some_counted l.nodes h)
  nothing_left listed.OneParameter l a m t w (inr h) passed = absurd h
  nothing_left listed.Template l a m t w (inl h) passed = inr (marked_still l.seen.is_flagged a h passed)
  nothing_left listed.Template l a m t w (inr h) passed = absurd h
  nothing_left (listed.Sequence i) l a m t w (inl h) passed = cc
  nothing_left (listed.Sequence i) l a m t w (inr h) passed = absurd h
  nothing_left (listed.Declarators i) l a m t w (inl h) passed = cc
  nothing_left (listed.Declarators i) l a m t w (inr h) passed = absurd h
  nothing_left (listed.Cases r) l a m t w over passed = inr (still passed)
  nothing_left listed.Members l a m t w over passed = inr (semicolons_on text true f passed (step no_more done))

-- before an item no list without brackets is over
over_edge : {X : Type 0} (x : ListKind) (l : ListOf) (t : CursorState) → IsOver x l t → asks_edge x ≡ true → X
over_edge (listed.Sequence i) l t (inl h) k = cc
over_edge (listed.Sequence i) l t (inr h) k = absurd h
over_edge (listed.Declarators i) l t (inl h) k = cc
over_edge (listed.Declarators i) l t (inr h) k = absurd h
over_edge _ l t over k = cc

over_stuck : (x : ListKind) (l : ListOf) (t : CursorState) → IsOver x l t → asks_last x as_expression ≡ true → whole_of x l as_expression ≡ true → stuck_at x as_expression l.nodes l.seen.has_comma ≡ true
over_stuck listed.ParenthesizedItems l t over k w = (and_parts (has_reading listed.ParenthesizedItems as_expression && seen_fits listed.ParenthesizedItems l as_expression) _ w).1
over_stuck (listed.Sequence i) l t over k w = over_edge (listed.Sequence i) l t over refl
over_stuck (listed.Declarators i) l t over k w = over_edge (listed.Declarators i) l t over refl
over_stuck _ l t over k w = absurd (false≢true k)

-- where the list is over, all its items were read
pub over_there : (text : SourceText) (f : Start) (l : ListOf) (o : ℕ) (s m : Token) (t : CursorState) (P : List Pair) → SoFarAt text f l o s m P → SemicolonsBefore text l.listed m t.last → IsOver l.listed l t → ItemsAt text f l o s t.last (P ++ [])
over_there text f l o s m t P before passed over = record {
  runs = λ a w. of a w (nothing_left text f l.listed l a m t w over passed);
  edge = λ h. over_edge l.listed l t over h;
  inside = λ h w. absurd (never as_expression w (over_stuck l.listed l t over h w));
}
  where
    never : (a : Reading) → is_whole l a ≡ true → is_stuck l a ≡ true → ⊥
    never a w h = unless_never _ (is_stuck l a) h (before a (whole_fits l a w))

    of : (a : Reading) → is_whole l a ≡ true → (is_stuck l a ≡ true) ⊎ RunsIn text o (stood_in f l.listed (left_of l.listed l.seen.is_flagged a none)) none m t.last [] → RunsIn text o (stood_in f l.listed (item_pieces l.listed a (all_read_as a l.nodes))) (all_read_as a l.nodes) s t.last (P ++ [])
    of a w (inl h) = absurd (never a w h)
    of a w (inr d) = subst (λ y. RunsIn text o (stood_in f l.listed (item_pieces l.listed a y)) y s t.last (P ++ [])) (join_none (all_read_as a l.nodes)) (unless_is (is_stuck l a) (before a (whole_fits l a w)) none t.last [] d)

-- no item follows
pub none_follows : {s m t : CursorState} {old mid new : List Pair} (l0 l : ListOf) → Adds s m old mid (FurtherOn s.text l0 l) → m.text ≡ s.text → PassedBefore l.listed m t → t.opened ≡ m.opened → new ≡ mid → IsOver l.listed l t → Adds s t old new (ItemsFrom s.text l0 l)
none_follows {s} {m} {t} l0 l before here passed open_same same over = record {
  more = before.more;
  same_open = open_same ∙ before.same_open;
  pairs = same ∙ before.pairs;
  is = λ f z R h. subst (λ y. ItemsAt s.text f l (max_open - s.opened) z t.last y) (append-nil (R ++ grouping before.more))
      (over_there s.text f l (max_open - s.opened) z m.last t (R ++ grouping before.more) (before.is f z R h) (subst (λ y. SemicolonsBefore y l.listed m.last t.last) here (semicolons_before l.listed m t passed)) over);
}

-- behind the last item stands no comma
after_seen_none : (k : ListOf) → k.seen.has_comma ≡ false → (after_item k false).seen ≡ k.seen
after_seen_none k h = of (is_ended k.listed k.seen (part_count k.nodes) || is_unseparated k.listed)
  where
    of : (c : Bool) → (if c then k else record k { seen = separated k.seen false }).seen ≡ k.seen
    of true = refl
    of false = λ i. record k.seen { has_comma = sym h i }

after_inside_end : (k : ListOf) → (after_item k false).inside.end ≡ k.inside.end
after_inside_end k = of (is_ended k.listed k.seen (part_count k.nodes) || is_unseparated k.listed)
  where
    of : (c : Bool) → (if c then k else record k { seen = separated k.seen false }).inside.end ≡ k.inside.end
    of true = refl
    of false = refl

after_marked_none : (k : ListOf) → (after_item k false).seen.is_flagged ≡ k.seen.is_flagged
after_marked_none k = of (is_ended k.listed k.seen (part_count k.nodes) || is_unseparated k.listed)
  where
    of : (c : Bool) → (if c then k else record k { seen = separated k.seen false }).seen.is_flagged ≡ k.seen.is_flagged
    of true = refl
    of false = refl

seen_none : (x : ListKind) (s : ListSummary) (it : ListItem) → seen_with s it x ≡ seen_step false x s it
seen_none x s it = of (is_unseparated x)
  where
    of : (c : Bool) → seen_with s it x ≡ (if c then seen_with s it x else separated (seen_with s it x) false)
    of true = refl
    of false = refl

-- a list that isn't ended may have items
may_have : (x : ListKind) (s : ListSummary) (c : ℕ) → is_ended x s c ≡ false → has_items x ≡ true
may_have listed.NoParameter s c h = absurd (true≢false h)
may_have _ s c h = refl

-- the last item, whatever it is
last_there : (text : SourceText) (f : Start) (l k1 k2 k : ListOf) {o : ℕ} (s m t : Token) (e x : CursorState) (P Q : List Pair) → SoFarAt text f l o s m P → SemicolonsBefore text l.listed m t → is_ended l.listed l.seen (part_count l.nodes) ≡ false → ItemAt text l k1 o t e.last Q →
    e.text ≡ text → k2.listed ≡ k1.listed → k2.nodes ≡ k1.nodes → k2.seen ≡ k1.seen → k2.inside.end ≡ e.last.stop → CommaAt e x k2 false → k ≡ after_item k2 false → ItemsAt text f k o s x.last (P ++ Q)
last_there text f l k1 k2 k {o} s m t e x P Q before passed open_list (an_item it plain pushed took item target) here same nodes seen inside comma is =
    let sees : k2.seen ≡ seen_with l.seen it l.listed = seen ∙ ap (λ y. y.seen) pushed in
    let after : k.seen ≡ seen_with l.seen it l.listed = ap (λ y. y.seen) is ∙ after_seen_none k2 (ap (λ (y : ListSummary). y.has_comma) sees) ∙ sees in
    let kind : k.listed ≡ l.listed = ap (λ y. y.listed) is ∙ after_listed k2 false ∙ same ∙ ap (λ y. y.listed) pushed in
    let parts : k.nodes ≡ push l.nodes it.node = ap (λ y. y.nodes) is ∙ after_nodes k2 false ∙ nodes ∙ ap (λ y. y.nodes) pushed in
    let still_at : x.last ≡ e.last = comma.0 in
    record {
      runs = λ a w.
          let u = and_parts (has_reading k.listed a) (seen_fits k.listed k a) (and_parts (has_reading k.listed a && seen_fits k.listed k a) _ w).0 in
          subst (λ y. RunsIn text o (stood_in f k.listed (item_pieces k.listed a (all_read_as a k.nodes))) (all_read_as a k.nodes) s y (P ++ Q)) (sym still_at)
          (whole_item text f l k it s m P before passed (may_have l.listed l.seen (part_count l.nodes) open_list) plain took item kind parts (after ∙ seen_none l.listed l.seen it) a (ap (λ y. has_reading y a) (sym kind) ∙ u.0) (ap (λ y. seen_fits y k a) (sym kind) ∙ u.1));
      edge = λ h. ap (λ (y : ListSummary). y.edge) after ∙ item.edge (ap asks_edge (sym kind) ∙ h) ∙ sym (λ i. edge_as_written ((ap last_edge parts ∙ pushed_edge l.nodes it.node) i) (still_at i));
      inside = λ h w. ap (λ y. y.inside.end) is ∙ after_inside_end k2 ∙ inside ∙ ap (λ (y : Token). y.stop) (sym still_at);
    }
last_there text f l k1 k2 k {o} s m t e x P Q before passed open_list (a_hole elements pushed still_at none_added comma_ahead) here same nodes seen inside comma is = absurd (of comma.1)
  where
    kind : k2.listed ≡ listed.Elements
    kind = same ∙ ap (λ y. y.listed) pushed ∙ elements

    of : (is_ended k2.listed k2.seen (part_count k2.nodes) ≡ true) ⊎ ((is_unseparated k2.listed ≡ false) × Misses e.text Punctuator (codes ",") e.last) → ⊥
    of (inl h) = false≢true (sym (ap (λ y. is_ended y k2.seen (part_count k2.nodes)) kind) ∙ h)
    of (inr h) = subst (λ y. Misses y Punctuator (codes ",") t) here (subst (λ y. Misses e.text Punctuator (codes ",") y) still_at h.1) (behind_in text comma_ahead.0) comma_ahead.0 comma_ahead.1
last_there text f l k1 k2 k {o} s m t e x P Q before passed open_list (a_chunk template n c mid pushed expression part_read) here same nodes seen inside comma is =
    let listed : k2.listed ≡ l.listed = same ∙ ap (λ y. y.listed) pushed in
    let kind : k.listed ≡ l.listed = ap (λ y. y.listed) is ∙ after_listed k2 false ∙ listed in
    let parts : k.nodes ≡ push (push l.nodes n) c.node = ap (λ y. y.nodes) is ∙ after_nodes k2 false ∙ nodes ∙ ap (λ y. y.nodes) pushed in
    let unmarked : l.seen.is_flagged ≡ false = sym (ap (λ y. is_ended y l.seen (part_count l.nodes)) template) ∙ open_list in
    let marked : k2.seen.is_flagged ≡ c.is_flagged = ap (λ (y : ListSummary). y.is_flagged) seen ∙ ap (λ y. y.seen.is_flagged) pushed ∙ ap (λ b. (b || false) || c.is_flagged) unmarked in
    let kept : k.seen.is_flagged ≡ k2.seen.is_flagged = ap (λ y. y.seen.is_flagged) is ∙ after_marked_none k2 in
    let at : t ≡ m = subst (λ y. SemicolonsBefore text y m t) template passed in
    let last : k2.seen.is_flagged ≡ true = ended_template k2.listed k2.seen (part_count k2.nodes) _ (listed ∙ template) comma.1 in
    let so_far : SoFarAt text f k o s e.last (P ++ Q) = so_far_chunk text f l k n c.node c.is_flagged s m mid e.last P Q before template unmarked (subst (λ y. SpellsIn text o (expr Expression true Any) n y mid Q) at expression) part_read kind parts (kept ∙ marked) in
    let over : IsOver k.listed k x = inl (ap (λ y. is_ended y k.seen (part_count k.nodes)) (kind ∙ template) ∙ kept ∙ last) in
    subst (ItemsAt text f k o s x.last) (append-nil (P ++ Q)) (over_there text f k o s e.last x (P ++ Q) so_far (subst (λ y. SemicolonsBefore text y e.last x.last) (sym (kind ∙ template)) comma.0) over)
  where
    ended_template : (y : ListKind) (u : ListSummary) (n : ℕ) (X : Type 0) → y ≡ listed.Template → (is_ended y u n ≡ true) ⊎ ((is_unseparated y ≡ false) × X) → u.is_flagged ≡ true
    ended_template y u n X h (inl w) = sym (ap (λ v. is_ended v u n) h) ∙ w
    ended_template y u n X h (inr w) = absurd (false≢true (sym w.0 ∙ ap is_unseparated h))

-- behind the last item the list is ended, or stands no comma
pub last_follows : {s m t e x : CursorState} {old mid tmid emid new : List Pair} (l0 l k1 k2 k : ListOf) → Adds s m old mid (FurtherOn s.text l0 l) → m.text ≡ s.text → PassedBefore l.listed m t → t.text ≡ m.text → t.opened ≡ m.opened → tmid ≡ mid → is_ended l.listed l.seen (part_count l.nodes) ≡ false →
    Adds t e tmid emid (ItemAt t.text l k1) → e.text ≡ t.text → k2.listed ≡ k1.listed → k2.nodes ≡ k1.nodes → k2.seen ≡ k1.seen → k2.inside.end ≡ e.last.stop → x.opened ≡ e.opened → new ≡ emid → CommaAt e x k2 false → k ≡ after_item k2 false → Adds s x old new (ItemsFrom s.text l0 k)
last_follows {s} {m} {t} {e} {x} l0 l k1 k2 k before here passed there open_same same goes item further_on a b c inside open_after after comma is =
    let text : t.text ≡ s.text = there ∙ here in
    let passed' : SemicolonsBefore s.text l.listed m.last t.last = subst (λ y. SemicolonsBefore y l.listed m.last t.last) here (semicolons_before l.listed m t passed) in
    let more : Adds t x _ _ (λ o _ z Q. ItemAt s.text l k1 o t.last e.last Q) = item_up_to s.text l k1 text item open_after after in
    adds_both before (adds_behind {B = λ o _ z Q. ItemAt s.text l k1 o t.last e.last Q} open_same same more (λ o P h. h)) (λ o P Q u v f z R h.
    subst (λ y. ItemsAt s.text f k o z x.last y) (append_assoc R P Q) (last_there s.text f l k1 k2 k z m.last t.last e x (R ++ P) Q (u f z R h) passed' goes v (further_on ∙ text) a b c inside comma is))

-- where the list stands matters to no reading
placed_fits : (x : ListKind) (k : ListOf) (p : Span) (a : Reading) → seen_fits x (record k { span = p }) a ≡ seen_fits x k a
placed_fits listed.Arguments k p a = refl
placed_fits listed.Template k p a = refl
placed_fits (listed.Sequence i) k p a = refl
placed_fits (listed.Cases r) k p a = refl
placed_fits listed.Members k p a = refl
placed_fits (listed.Declarators i) k p as_expression = refl
placed_fits (listed.Declarators i) k p (as_pattern b) = refl
placed_fits _ k p a = refl

placed_whole : (k : ListOf) (p : Span) (a : Reading) → is_whole (record k { span = p }) a ≡ true → is_whole k a ≡ true
placed_whole k p a h = sym (ap (λ b. (has_reading k.listed a && b) && cond (asks_some k.listed a) (are_some k.nodes && not k.seen.has_comma) true) (placed_fits k.listed k p a)) ∙ h

-- the whole list, with what closes it
pub closed_list : {s m e : CursorState} {old mid new : List Pair} (l0 k : ListOf) (p : Span) → Adds s m old mid (ItemsFrom s.text l0 k) → ClosedBy s.text (closing k.listed) m.last e.last × (e.opened ≡ m.opened) × (new ≡ mid) → p.end ≡ e.last.stop →
    Adds s e old new (λ o a z Q. (f : Start) (y : Token) (P : List Pair) → SoFarAt s.text f l0 o y a P → ListAt s.text f (record k { span = p }) o y z (P ++ Q))
closed_list {s} {m} l0 k p items closes ends = record {
  more = items.more;
  same_open = closes.1 ∙ items.same_open;
  pairs = closes.2 ∙ items.pairs;
  is = λ f y P h.
      let w = items.is f y P h in
      record { mid = m.last; closes = closes.0; runs = λ a v. w.runs a (placed_whole k p a v); edge = w.edge; inside = λ v u. w.inside v (placed_whole k p as_expression u); ends = ends };
}
