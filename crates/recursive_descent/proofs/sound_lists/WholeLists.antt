-- A list as far as it is read, with one more item; and the whole (ECMA-262 12.2, 12.3.8, 12.16, 13.3, 13.12, 14.1, 14.6).
use Rattle.std.proofs.Common.{arith, ◌≡◌, ℕ, ◌+◌, ◌-◌, Bool, true, false, List, [], ◌++◌, refl, sym, ap, ◌∙◌, subst, append_assoc}
use Rattle.std.specs.Prelude.{not, ◌&&◌, ◌||◌, if◌then◌else◌, nat_le, nat_lt, codes}
use Rattle.std.proofs.lemmas.Bool.{and_parts, false≢true, true≢false}
use Rattle.std.proofs.lemmas.Bool.Decides.{nat_tests}
use Rattle.std.proofs.lemmas.List.{append-nil}
use Rattle.tree.specs.declared.kind.Pair.{Pair}
use Rattle.tree.specs.Tree.{Tree, Parts, none, part, gap, push, push_gap, join, part_count}
use Rattle.language.specs.declared.Start.{Start}
use Rattle.language.specs.Covers.{Reading, as_expression, as_pattern}
use Rattle.language.specs.declared.Rank.TheVariants.{Expression}
use Rattle.language.specs.declared.Start.TheVariants.{Any}
use Rattle.tokens.specs.declared.token.TokenClass.TheVariants.{Punctuator}
use Rattle.language.specs.Pieces.{expr, template_element, is_none, argument, pattern_element}
use Rattle.language.specs.Expressions.{template_elements}
use Rattle.language.specs.Token.{Token}
use Rattle.language.specs.Derivation.{within}
use Rattle.language.specs.Claims.{max_open}
use Rattle.language.proofs.list_loops.FirstPieces.{run_never}
use Rattle.language.proofs.list_loops.TemplateElements.{chunk_found}
use Rattle.token_cursor.proofs.SeenTokens.{seen_determined}
use Rattle.covers.specs.declared.list.ListItem.{ListItem}
use Rattle.covers.specs.declared.list.ListSummary.{ListSummary}
use Rattle.covers.specs.declared.list.ListKind.{ListKind}
use Rattle.covers.specs.declared.list.ListKind.TheVariants as listed
use Rattle.covers.specs.declared.list.ListBuilder.{ListBuilder as ListOf}
use Rattle.covers.specs.Lists.{is_ended, takes, seen_with, separated, with_hole}
use Rattle.token_cursor.specs.CursorState.{CursorState}
use Rattle.recursive_descent.specs.Soundness.{Adds, grouping, RunsIn, fits_as, read_as, all_read_as}
use Rattle.recursive_descent.specs.SoundnessOfLists.{SoFarAt, Unless, is_stuck, so_far_fits, seen_fits, has_reading, stood_in, left_of, left_pieces, item_pieces, ItemReads, ItemAt, an_item, a_hole, a_chunk, SeenRight, is_chunked, stuck_at}
use Rattle.recursive_descent.specs.Follows.{Semicolons, PassedBefore, ChunkAt, CommaAt}
use Rattle.token_cursor.specs.Seen.{ReadsHere}
use Rattle.parser_tables.specs.Items.{after_item, are_some, is_unseparated}
use Rattle.parser_tables.specs.StatementNodes.{is_closed}
use Rattle.recursive_descent.proofs.reading.AddedPairs.{adds_behind, adds_both}
use Rattle.recursive_descent.proofs.sound_lists.OneMoreItem.{CommaBetween, goes_on_at, next_runs, has_items, last_runs, read_push, read_gap, join_none, semicolons_on, hole_comma}
use Rattle.recursive_descent.proofs.sound_lists.ListReadings.{fits_step, seen_step}
use Rattle.token_cursor.specs.SourceText.{SourceText, SeenNext, behind_in}
use Rattle.recursive_descent.specs.Spelled.{SpellsIn}

-- what isn't stuck goes on
pub unless_is : {X : Type 0} (b : Bool) → Unless b X → X
unless_is true h = absurd h
unless_is false h = h

pub unless_not : {X : Type 0} (b : Bool) → b ≡ false → X → Unless b X
unless_not true h x = absurd (true≢false h)
unless_not false h x = x

-- the semicolons that were passed
abbrev pub SemicolonsBefore : SourceText → ListKind → Token → Token → Type 0
SemicolonsBefore text listed.Members s e = Semicolons text s e
SemicolonsBefore text _ s e = e ≡ s

before_left : (text : SourceText) (f : Start) {o : ℕ} (x : ListKind) (b : Bool) (a : Reading) (ps : Parts) {s m e : Token} {Q : List Pair} → SemicolonsBefore text x s m → RunsIn text o (stood_in f x (left_of x b a ps)) ps m e Q → RunsIn text o (stood_in f x (left_of x b a ps)) ps s e Q
before_left text f listed.Members b a ps passed d = semicolons_on text true f passed d
before_left text f {o} x b a ps {e = e} {Q = Q} passed d = of x passed d
  where
    of : {s m : Token} (y : ListKind) → SemicolonsBefore text y s m → RunsIn text o (stood_in f y (left_of y b a ps)) ps m e Q → RunsIn text o (stood_in f y (left_of y b a ps)) ps s e Q
    of listed.Members passed d = semicolons_on text true f passed d
    of listed.Arguments passed d = subst (λ z. RunsIn text o (stood_in f listed.Arguments (left_of listed.Arguments b a ps)) ps z e Q) passed d
    of listed.AsyncArguments passed d = subst (λ z. RunsIn text o (stood_in f listed.AsyncArguments (left_of listed.AsyncArguments b a ps)) ps z e Q) passed d
    of listed.Elements passed d = subst (λ z. RunsIn text o (stood_in f listed.Elements (left_of listed.Elements b a ps)) ps z e Q) passed d
    of listed.Properties passed d = subst (λ z. RunsIn text o (stood_in f listed.Properties (left_of listed.Properties b a ps)) ps z e Q) passed d
    of listed.ParenthesizedItems passed d = subst (λ z. RunsIn text o (stood_in f listed.ParenthesizedItems (left_of listed.ParenthesizedItems b a ps)) ps z e Q) passed d
    of listed.Parameters passed d = subst (λ z. RunsIn text o (stood_in f listed.Parameters (left_of listed.Parameters b a ps)) ps z e Q) passed d
    of listed.NoParameter passed d = subst (λ z. RunsIn text o (stood_in f listed.NoParameter (left_of listed.NoParameter b a ps)) ps z e Q) passed d
    of listed.OneParameter passed d = subst (λ z. RunsIn text o (stood_in f listed.OneParameter (left_of listed.OneParameter b a ps)) ps z e Q) passed d
    of listed.Template passed d = subst (λ z. RunsIn text o (stood_in f listed.Template (left_of listed.Template b a ps)) ps z e Q) passed d
    of (listed.Sequence i) passed d = subst (λ z. RunsIn text o (stood_in f (listed.Sequence i) (left_of (listed.Sequence i) b a ps)) ps z e Q) passed d
    of (listed.Declarators i) passed d = subst (λ z. RunsIn text o (stood_in f (listed.Declarators i) (left_of (listed.Declarators i) b a ps)) ps z e Q) passed d
    of (listed.Cases r) passed d = subst (λ z. RunsIn text o (stood_in f (listed.Cases r) (left_of (listed.Cases r) b a ps)) ps z e Q) passed d

none_pushed : (ps : Parts) (n : Tree) → is_none (push ps n) ≡ false
none_pushed none n = refl
none_pushed (part k ps) n = refl
none_pushed (gap ps) n = refl

counted_pushed : (ps : Parts) (n : Tree) → nat_lt 0 (part_count (push ps n)) ≡ true
counted_pushed none n = refl
counted_pushed (part k ps) n = positive (part_count (push ps n))
  where
    positive : (c : ℕ) → nat_lt 0 (c + 1) ≡ true
    positive c = grind (arith, nat_tests)
counted_pushed (gap ps) n = positive (part_count (push ps n))
  where
    positive : (c : ℕ) → nat_lt 0 (c + 1) ≡ true
    positive c = grind (arith, nat_tests)

or_false_left : (b c : Bool) → b ≡ false → (b || c) ≡ true → c ≡ true
or_false_left true c h k = cc
or_false_left false c h k = k

no_and : (b c : Bool) → c ≡ false → (b && c) ≡ false
no_and true true h = absurd (true≢false h)
no_and true false h = refl
no_and false c h = refl

-- a comma stands behind an item, or nothing stands between items: another may follow
not_stuck : (x : ListKind) (a : Reading) (ps : Parts) (has_comma : Bool) → goes_on_at x ≡ true → (x ≡ listed.ParenthesizedItems → has_comma ≡ true) → stuck_at x a ps has_comma ≡ false
not_stuck listed.ParenthesizedItems as_expression ps has_comma g h = no_and (are_some ps) (not has_comma) (ap not (h refl))
not_stuck listed.ParenthesizedItems (as_pattern b) ps has_comma g h = refl
not_stuck listed.OneParameter a ps has_comma g h = absurd (false≢true g)
not_stuck _ a ps has_comma g h = refl

seen_comma : (x : ListKind) (it : ListItem) (s : ListSummary) → is_unseparated x ≡ false → (seen_step true x s it).has_comma ≡ true
seen_comma x it s h = of (is_unseparated x) h
  where
    of : (b : Bool) → b ≡ false → (if b then seen_with s it x else separated (seen_with s it x) true).has_comma ≡ true
    of true q = absurd (true≢false q)
    of false q = refl

covers_separated : (x : ListKind) → x ≡ listed.ParenthesizedItems → is_unseparated x ≡ false
covers_separated x h = ap is_unseparated h

and_of : {b c : Bool} → b ≡ true → c ≡ true → (b && c) ≡ true
and_of {b} {c} h k = ap (λ x. x && c) h ∙ k

-- so far, with one more item behind which another may follow
pub so_far_item : (text : SourceText) (f : Start) (l k : ListOf) (it : ListItem) {o : ℕ} (s m : Token) {t e : Token} (x : Token) (P : List Pair) {Q : List Pair} → SoFarAt text f l o s m P → SemicolonsBefore text l.listed m t → goes_on_at l.listed ≡ true → is_chunked l.listed ≡ false → takes l.listed l.seen it ≡ true → ItemReads text l.listed it o t e Q → CommaBetween text l.listed e x →
    k.listed ≡ l.listed → k.nodes ≡ push l.nodes it.node → k.seen ≡ seen_step true l.listed l.seen it → SoFarAt text f k o s x (P ++ Q)
so_far_item text f l k it {o} s m {t} {e} x P {Q} before passed goes plain took item comma same nodes seen a fits =
    let reads : has_reading l.listed a ≡ true = ap (λ y. has_reading y a) (sym same) ∙ (and_parts (has_reading k.listed a) (is_none k.nodes || seen_fits k.listed k a) fits).0 in
    let left : seen_fits l.listed k a ≡ true = ap (λ y. seen_fits y k a) (sym same) ∙ or_false_left (is_none k.nodes) (seen_fits k.listed k a) (ap is_none nodes ∙ none_pushed l.nodes it.node) (and_parts (has_reading k.listed a) (is_none k.nodes || seen_fits k.listed k a) fits).1 in
    let u = fits_step true l.listed l k it a plain reads took nodes seen left in
    let so_far = unless_is (is_stuck l a) (before a (and_of reads u.0)) in
    unless_not (is_stuck k a) (not_stuck k.listed a k.nodes k.seen.has_comma (ap goes_on_at same ∙ goes) (λ h. ap (λ (y : ListSummary). y.has_comma) seen ∙ seen_comma l.listed it l.seen (covers_separated l.listed (sym same ∙ h)))) (λ ps z R d.
    let d' : RunsIn text o (stood_in f l.listed (left_of l.listed k.seen.is_flagged a ps)) ps x z R = subst (λ y. RunsIn text o (stood_in f y (left_of y k.seen.is_flagged a ps)) ps x z R) same d in
    let more : RunsIn text o (stood_in f l.listed (left_of l.listed l.seen.is_flagged a (part (read_as a it.node) ps))) (part (read_as a it.node) ps) t z (Q ++ R) =
    next_runs text f l.listed l.seen.is_flagged k.seen.is_flagged a (read_as a it.node) ps goes reads (item.reads a reads u.1) (λ h. item.no_rest a reads u.1 (u.2 h refl)) comma d' in
    let whole = so_far (part (read_as a it.node) ps) z (Q ++ R) (before_left text f l.listed l.seen.is_flagged a (part (read_as a it.node) ps) passed more) in
    subst (λ y. RunsIn text o (stood_in f y (item_pieces y a (join (all_read_as a k.nodes) ps))) (join (all_read_as a k.nodes) ps) s z ((P ++ Q) ++ R)) (sym same)
    (subst (λ y. RunsIn text o (stood_in f l.listed (item_pieces l.listed a y)) y s z ((P ++ Q) ++ R)) (read_push a l.nodes it.node ps ∙ ap (λ y. join (all_read_as a y) ps) (sym nodes))
    (subst (λ y. RunsIn text o (stood_in f l.listed (item_pieces l.listed a (join (all_read_as a l.nodes) (part (read_as a it.node) ps)))) (join (all_read_as a l.nodes) (part (read_as a it.node) ps)) s z y) (sym (append_assoc P Q R)) whole)))

-- the whole, with its last item
pub whole_item : (text : SourceText) (f : Start) (l k : ListOf) (it : ListItem) {o : ℕ} (s m : Token) {t e : Token} (P : List Pair) {Q : List Pair} → SoFarAt text f l o s m P → SemicolonsBefore text l.listed m t → has_items l.listed ≡ true → is_chunked l.listed ≡ false → takes l.listed l.seen it ≡ true → ItemReads text l.listed it o t e Q →
    k.listed ≡ l.listed → k.nodes ≡ push l.nodes it.node → k.seen ≡ seen_step false l.listed l.seen it → (a : Reading) → has_reading l.listed a ≡ true → seen_fits l.listed k a ≡ true →
    RunsIn text o (stood_in f k.listed (item_pieces k.listed a (all_read_as a k.nodes))) (all_read_as a k.nodes) s e (P ++ Q)
whole_item text f l k it {o} s m {t} {e} P {Q} before passed some plain took item same nodes seen a reads left =
    let u = fits_step false l.listed l k it a plain reads took nodes seen left in
    let so_far = unless_is (is_stuck l a) (before a (and_of reads u.0)) in
    let more = last_runs text f l.listed l.seen.is_flagged a (read_as a it.node) plain some reads (item.reads a reads u.1) in
    let whole = so_far (part (read_as a it.node) none) e Q (before_left text f l.listed l.seen.is_flagged a (part (read_as a it.node) none) passed more) in
    subst (λ y. RunsIn text o (stood_in f y (item_pieces y a (all_read_as a k.nodes))) (all_read_as a k.nodes) s e (P ++ Q)) (sym same)
    (subst (λ y. RunsIn text o (stood_in f l.listed (item_pieces l.listed a y)) y s e (P ++ Q)) (read_push a l.nodes it.node none ∙ join_none (all_read_as a (push l.nodes it.node)) ∙ ap (all_read_as a) (sym nodes)) whole)

-- from one list as far as it is read to another
abbrev pub FurtherOn : SourceText → ListOf → ListOf → ℕ → Token → Token → List Pair → Type 0
FurtherOn text l k o m e Q = (f : Start) (s : Token) (P : List Pair) → SoFarAt text f l o s m P → SoFarAt text f k o s e (P ++ Q)

-- what is seen and the items tell how far a list is read
only_places : (l k : ListOf) → k.listed ≡ l.listed → k.nodes ≡ l.nodes → k.seen ≡ l.seen → k ≡ record { listed = l.listed; nodes = l.nodes; seen = l.seen; inside = k.inside; span = k.span }
only_places l k a b c = λ i. record { listed = a i; nodes = b i; seen = c i; inside = k.inside; span = k.span }

same_fits : (x : ListKind) (l k : ListOf) (a : Reading) → k.nodes ≡ l.nodes → k.seen ≡ l.seen → seen_fits x k a ≡ seen_fits x l a
same_fits (listed.Declarators i) l k as_expression b c = ap (λ (y : ListSummary). not y.is_flagged) c
same_fits (listed.Declarators i) l k (as_pattern z) b c = λ j. nat_le (part_count (b j)) 1 && is_closed (c j).edge
same_fits listed.Arguments l k a b c = refl
same_fits listed.Template l k a b c = refl
same_fits (listed.Sequence i) l k a b c = refl
same_fits (listed.Cases r) l k a b c = refl
same_fits listed.Members l k a b c = refl
same_fits _ l k a b c = ap (λ (y : ListSummary). fits_as y.shape a) c

-- what runs over the rest completes it
abbrev Completes : SourceText → Start → ListOf → Reading → ℕ → Token → Token → List Pair → Type 0
Completes text f l a o s m P = (ps : Parts) (e : Token) (Q : List Pair) → RunsIn text o (stood_in f l.listed (left_pieces l a ps)) ps m e Q → RunsIn text o (stood_in f l.listed (item_pieces l.listed a (join (all_read_as a l.nodes) ps))) (join (all_read_as a l.nodes) ps) s e (P ++ Q)

pub same_so_far : (text : SourceText) (f : Start) (l k : ListOf) (o : ℕ) (s m : Token) (P : List Pair) → k.listed ≡ l.listed → k.nodes ≡ l.nodes → k.seen ≡ l.seen → SoFarAt text f l o s m P → SoFarAt text f k o s m P
same_so_far text f l k o s m P a b c h = λ y fits.
    let same : seen_fits k.listed k y ≡ seen_fits l.listed l y = ap (λ x. seen_fits x k y) a ∙ same_fits l.listed l k y b c in
    let before : so_far_fits l y ≡ true = sym (λ i. has_reading (a i) y && (is_none (b i) || same i)) ∙ fits in
    subst (λ (z : ListOf). Unless (is_stuck z y) (Completes text f z y o s m P)) (sym (only_places l k a b c)) (h y before)

pub same_right : (l k : ListOf) → k.listed ≡ l.listed → k.nodes ≡ l.nodes → k.seen ≡ l.seen → SeenRight l → SeenRight k
same_right l k a b c h = subst SeenRight (sym (only_places l k a b c)) (record { together = h.together; target = h.target; one_default = h.one_default })

pub further_first : (text : SourceText) (l k : ListOf) (o : ℕ) (m : Token) → k.listed ≡ l.listed → k.nodes ≡ l.nodes → k.seen ≡ l.seen → FurtherOn text l k o m m []
further_first text l k o m a b c f s P h = subst (λ x. SoFarAt text f k o s m x) (sym (append-nil P)) (same_so_far text f l k o s m P a b c h)

-- a list without brackets is no other
pub not_a_sequence : {X : Type 0} (l : ListKind) (i : Bool) → l ≡ listed.Sequence i → l ≡ listed.ParenthesizedItems → X
not_a_sequence l i h k = absurd (of (sym h ∙ k))
  where
    of : listed.Sequence i ≡ listed.ParenthesizedItems → ⊥
    of e = cc

-- the places of a comma
comma_between : (x : ListKind) (s e : CursorState) → (is_unseparated x ≡ true → e.last ≡ s.last) → (is_unseparated x ≡ false → ReadsHere s.text Punctuator (codes ",") s.last e.last) → CommaBetween s.text x s.last e.last
comma_between listed.Members s e a b = a refl
comma_between (listed.Cases r) s e a b = a refl
comma_between listed.Template s e a b = a refl
comma_between listed.Arguments s e a b = b refl
comma_between listed.AsyncArguments s e a b = b refl
comma_between listed.Elements s e a b = b refl
comma_between listed.Properties s e a b = b refl
comma_between listed.ParenthesizedItems s e a b = b refl
comma_between listed.Parameters s e a b = b refl
comma_between listed.NoParameter s e a b = b refl
comma_between listed.OneParameter s e a b = b refl
comma_between (listed.Sequence i) s e a b = b refl
comma_between (listed.Declarators i) s e a b = b refl

pub semicolons_before : (x : ListKind) (s e : CursorState) → PassedBefore x s e → SemicolonsBefore s.text x s.last e.last
semicolons_before listed.Members s e h = h
semicolons_before (listed.Cases r) s e h = h
semicolons_before listed.Template s e h = h
semicolons_before listed.Arguments s e h = h
semicolons_before listed.AsyncArguments s e h = h
semicolons_before listed.Elements s e h = h
semicolons_before listed.Properties s e h = h
semicolons_before listed.ParenthesizedItems s e h = h
semicolons_before listed.Parameters s e h = h
semicolons_before listed.NoParameter s e h = h
semicolons_before listed.OneParameter s e h = h
semicolons_before (listed.Sequence i) s e h = h
semicolons_before (listed.Declarators i) s e h = h

-- behind the last item, where none ends the list
pub after_seen : (k : ListOf) (b : Bool) → is_ended k.listed k.seen (part_count k.nodes) ≡ false → (after_item k b).seen ≡ (if is_unseparated k.listed then k.seen else separated k.seen b)
after_seen k b h = of (is_ended k.listed k.seen (part_count k.nodes)) (is_unseparated k.listed) h
  where
    of : (c d : Bool) → c ≡ false → (if c || d then k else record k { seen = separated k.seen b }).seen ≡ (if d then k.seen else separated k.seen b)
    of true d q = absurd (true≢false q)
    of false true q = refl
    of false false q = refl

pub after_nodes : (k : ListOf) (b : Bool) → (after_item k b).nodes ≡ k.nodes
after_nodes k b = of (is_ended k.listed k.seen (part_count k.nodes) || is_unseparated k.listed)
  where
    of : (c : Bool) → (if c then k else record k { seen = separated k.seen b }).nodes ≡ k.nodes
    of true = refl
    of false = refl

pub after_listed : (k : ListOf) (b : Bool) → (after_item k b).listed ≡ k.listed
after_listed k b = of (is_ended k.listed k.seen (part_count k.nodes) || is_unseparated k.listed)
  where
    of : (c : Bool) → (if c then k else record k { seen = separated k.seen b }).listed ≡ k.listed
    of true = refl
    of false = refl

after_marked : (k : ListOf) (b : Bool) → (after_item k b).seen.is_flagged ≡ k.seen.is_flagged
after_marked k b = of (is_ended k.listed k.seen (part_count k.nodes) || is_unseparated k.listed)
  where
    of : (c : Bool) → (if c then k else record k { seen = separated k.seen b }).seen.is_flagged ≡ k.seen.is_flagged
    of true = refl
    of false = refl

goes_by : (x : ListKind) (u v : ListSummary) (a b : ℕ) → is_chunked x ≡ false → is_ended x u a ≡ false → is_ended x v b ≡ false → nat_lt 0 b ≡ true → goes_on_at x ≡ true
goes_by listed.Template u v a b c h k p = cc
goes_by listed.NoParameter u v a b c h k p = cc
goes_by listed.OneParameter u v a b c h k p = absurd (false≢true (sym k ∙ p))
goes_by _ u v a b c h k p = refl

-- a hole and its comma
pub so_far_hole : (text : SourceText) (f : Start) (l k : ListOf) (o : ℕ) (s m x : Token) (P : List Pair) → SoFarAt text f l o s m P → l.listed ≡ listed.Elements → ReadsHere text Punctuator (codes ",") m x → k.listed ≡ l.listed → k.nodes ≡ push_gap l.nodes → k.seen ≡ separated (with_hole l.seen) true → SoFarAt text f k o s x (P ++ [])
so_far_hole text f l k o s m x P before is comma same nodes seen a fits =
    let kind : k.listed ≡ listed.Elements = same ∙ is in
    let left : fits_as l.seen.shape a ≡ true = sym (ap (λ (y : ListSummary). fits_as y.shape a) seen) ∙ ap (λ y. seen_fits y k a) (sym kind) ∙ or_false_left (is_none k.nodes) (seen_fits k.listed k a) (ap is_none nodes ∙ none_gap l.nodes) (and_parts (has_reading k.listed a) (is_none k.nodes || seen_fits k.listed k a) fits).1 in
    let so_far = unless_is (is_stuck l a) (before a (and_of (ap (λ y. has_reading y a) is) (or_of (is_none l.nodes) (seen_fits l.listed l a) (ap (λ y. seen_fits y l a) is ∙ left)))) in
    unless_not (is_stuck k a) (ap (λ y. stuck_at y a k.nodes k.seen.has_comma) kind) (λ ps z R d.
    let d' : RunsIn text o (stood_in f listed.Elements (left_of listed.Elements k.seen.is_flagged a ps)) ps x z R = subst (λ y. RunsIn text o (stood_in f y (left_of y k.seen.is_flagged a ps)) ps x z R) kind d in
    let more : RunsIn text o (stood_in f listed.Elements (left_of listed.Elements l.seen.is_flagged a (gap ps))) (gap ps) m z R = hole_as a ps k.seen.is_flagged l.seen.is_flagged d' in
    let whole = so_far (gap ps) z R (subst (λ y. RunsIn text o (stood_in f y (left_of y l.seen.is_flagged a (gap ps))) (gap ps) m z R) (sym is) more) in
    subst (λ y. RunsIn text o (stood_in f y (item_pieces y a (join (all_read_as a k.nodes) ps))) (join (all_read_as a k.nodes) ps) s z ((P ++ []) ++ R)) (sym same)
    (subst (λ y. RunsIn text o (stood_in f l.listed (item_pieces l.listed a y)) y s z ((P ++ []) ++ R)) (read_gap a l.nodes ps ∙ ap (λ y. join (all_read_as a y) ps) (sym nodes))
    (subst (λ y. RunsIn text o (stood_in f l.listed (item_pieces l.listed a (join (all_read_as a l.nodes) (gap ps)))) (join (all_read_as a l.nodes) (gap ps)) s z y) (ap (λ y. y ++ R) (sym (append-nil P))) whole)))
  where
    none_gap : (ps : Parts) → is_none (push_gap ps) ≡ false
    none_gap none = refl
    none_gap (part n ps) = refl
    none_gap (gap ps) = refl

    or_of : (b c : Bool) → c ≡ true → (b || c) ≡ true
    or_of true c h = refl
    or_of false c h = h

    hole_as : (a : Reading) (ps : Parts) (u v : Bool) {z : Token} {R : List Pair} → RunsIn text o (stood_in f listed.Elements (left_of listed.Elements u a ps)) ps x z R → RunsIn text o (stood_in f listed.Elements (left_of listed.Elements v a (gap ps))) (gap ps) m z R
    hole_as as_expression ps u v d = hole_comma text true f comma argument ps d
    hole_as (as_pattern b) ps u v d = hole_comma text true f comma (pattern_element b) ps d

chunk_there : (text : SourceText) {o : ℕ} {t e : Token} (c : Tree) (last : Bool) → ChunkAt text t e c last → SpellsIn text o (template_element false last) c t e []
chunk_there text {o} {t} {e} c true h = subst (λ y. SpellsIn text o (template_element false true) y t e []) (sym h.2) (chunk_found Token (SeenNext text) (behind_in text) (seen_determined text) {b = false} {l = true} {w = h.0} h.1).spelled
chunk_there text {o} {t} {e} c false h = subst (λ y. SpellsIn text o (template_element false false) y t e []) (sym h.2) (chunk_found Token (SeenNext text) (behind_in text) (seen_determined text) {b = false} {l = false} {w = h.0} h.1).spelled

chunk_behind : (text : SourceText) (f : Start) {o : ℕ} {t e z : Token} {R : List Pair} (last : Bool) (c : Tree) → ChunkAt text t e c last → (ps : Parts) → RunsIn text o (stood_in f listed.Template (left_of listed.Template last as_expression ps)) ps e z R → RunsIn text o (stood_in f listed.Template (template_elements false (part c ps))) (part c ps) t z R
chunk_behind text f true c h none d = within (chunk_there text c true h) d
chunk_behind text f true c h (part n ps) d = elim d [ ]
chunk_behind text f true c h (gap ps) d = elim d [ ]
chunk_behind text f false c h none d = absurd (run_never Token (SeenNext text) (behind_in text) d)
chunk_behind text f false c h (part n ps) d = within (chunk_there text c false h) d
chunk_behind text f false c h (gap ps) d = absurd (run_never Token (SeenNext text) (behind_in text) d)

-- an expression in a template, and the part behind it
pub so_far_chunk : (text : SourceText) (f : Start) (l k : ListOf) (n c : Tree) (last : Bool) {o : ℕ} (s m t e : Token) (P Q : List Pair) → SoFarAt text f l o s m P → l.listed ≡ listed.Template → l.seen.is_flagged ≡ false → SpellsIn text o (expr Expression true Any) n m t Q → ChunkAt text t e c last →
    k.listed ≡ l.listed → k.nodes ≡ push (push l.nodes n) c → k.seen.is_flagged ≡ last → SoFarAt text f k o s e (P ++ Q)
so_far_chunk text f l k n c last {o} s m t e P Q before is open_end expression part_read same nodes marked (as_pattern b) fits =
    absurd (false≢true (sym (ap (λ y. has_reading y (as_pattern b)) (same ∙ is)) ∙ (and_parts (has_reading k.listed (as_pattern b)) (is_none k.nodes || seen_fits k.listed k (as_pattern b)) fits).0))
so_far_chunk text f l k n c last {o} s m t e P Q before is open_end expression part_read same nodes marked as_expression fits =
    let kind : k.listed ≡ listed.Template = same ∙ is in
    let so_far = unless_is (is_stuck l as_expression) (before as_expression (and_of (ap (λ y. has_reading y as_expression) is) (or_of (is_none l.nodes) (seen_fits l.listed l as_expression) (ap (λ y. seen_fits y l as_expression) is)))) in
    unless_not (is_stuck k as_expression) (ap (λ y. stuck_at y as_expression k.nodes k.seen.has_comma) kind) (λ ps z R d.
    let d' : RunsIn text o (stood_in f listed.Template (left_of listed.Template last as_expression ps)) ps e z R = subst (λ b. RunsIn text o (stood_in f listed.Template (left_of listed.Template b as_expression ps)) ps e z R) marked (subst (λ y. RunsIn text o (stood_in f y (left_of y k.seen.is_flagged as_expression ps)) ps e z R) kind d) in
    let more : RunsIn text o (stood_in f listed.Template (left_of listed.Template false as_expression (part n (part c ps)))) (part n (part c ps)) m z (Q ++ R) = within expression (chunk_behind text f last c part_read ps d') in
    let whole = so_far (part n (part c ps)) z (Q ++ R) (subst (λ y. RunsIn text o (stood_in f y (left_of y l.seen.is_flagged as_expression (part n (part c ps)))) (part n (part c ps)) m z (Q ++ R)) (sym is) (subst (λ b. RunsIn text o (stood_in f listed.Template (left_of listed.Template b as_expression (part n (part c ps)))) (part n (part c ps)) m z (Q ++ R)) (sym open_end) more)) in
    subst (λ y. RunsIn text o (stood_in f y (item_pieces y as_expression (join k.nodes ps))) (join k.nodes ps) s z ((P ++ Q) ++ R)) (sym same)
    (subst (λ y. RunsIn text o (stood_in f l.listed (item_pieces l.listed as_expression y)) y s z ((P ++ Q) ++ R)) (read_push as_expression l.nodes n (part c ps) ∙ read_push as_expression (push l.nodes n) c ps ∙ ap (λ y. join y ps) (sym nodes))
    (subst (λ y. RunsIn text o (stood_in f l.listed (item_pieces l.listed as_expression (join l.nodes (part n (part c ps))))) (join l.nodes (part n (part c ps))) s z y) (sym (append_assoc P Q R)) whole)))
  where
    or_of : (b c : Bool) → c ≡ true → (b || c) ≡ true
    or_of true c h = refl
    or_of false c h = h

-- one more item, whatever it is, behind which another may follow
further : (text : SourceText) (f : Start) (l k1 k2 k : ListOf) {o : ℕ} (s m t : Token) (e x : CursorState) (P Q : List Pair) → SoFarAt text f l o s m P → SemicolonsBefore text l.listed m t → is_ended l.listed l.seen (part_count l.nodes) ≡ false → ItemAt text l k1 o t e.last Q →
    e.text ≡ text → k2.listed ≡ k1.listed → k2.nodes ≡ k1.nodes → k2.seen ≡ k1.seen → CommaAt e x k2 true → k ≡ after_item k2 true → SoFarAt text f k o s x.last (P ++ Q)
further text f l k1 k2 k {o} s m t e x P Q before passed open_list (an_item it plain pushed took item target) here same nodes seen comma is =
    let listed : k2.listed ≡ l.listed = same ∙ ap (λ y. y.listed) pushed in
    let parts : k2.nodes ≡ push l.nodes it.node = nodes ∙ ap (λ y. y.nodes) pushed in
    let sees : k2.seen ≡ seen_with l.seen it l.listed = seen ∙ ap (λ y. y.seen) pushed in
    let ended : is_ended l.listed k2.seen (part_count (push l.nodes it.node)) ≡ false = (λ i. is_ended (sym listed i) k2.seen (part_count (sym parts i))) ∙ comma.0 in
    let goes = goes_by l.listed l.seen k2.seen (part_count l.nodes) (part_count (push l.nodes it.node)) plain open_list ended (counted_pushed l.nodes it.node) in
    let between : CommaBetween text l.listed e.last x.last = subst (λ y. CommaBetween text y e.last x.last) listed (subst (λ y. CommaBetween y k2.listed e.last x.last) here (comma_between k2.listed e x comma.1.0 comma.1.1)) in
    let after : k.seen ≡ seen_step true l.listed l.seen it = ap (λ y. y.seen) is ∙ after_seen k2 true comma.0 ∙ (λ i. if is_unseparated (listed i) then sees i else separated (sees i) true) in
    so_far_item text f l k it s m x.last P before passed goes plain took item between (ap (λ y. y.listed) is ∙ after_listed k2 true ∙ listed) (ap (λ y. y.nodes) is ∙ after_nodes k2 true ∙ parts) after
further text f l k1 k2 k {o} s m t e x P Q before passed open_list (a_hole elements pushed still none_added comma_ahead) here same nodes seen comma is =
    let listed : k2.listed ≡ l.listed = same ∙ ap (λ y. y.listed) pushed in
    let parts : k2.nodes ≡ push_gap l.nodes = nodes ∙ ap (λ y. y.nodes) pushed in
    let sees : k2.seen ≡ with_hole l.seen = seen ∙ ap (λ y. y.seen) pushed in
    let at : t ≡ m = subst (λ y. SemicolonsBefore text y m t) elements passed in
    let read : ReadsHere e.text Punctuator (codes ",") e.last x.last = comma.1.1 (ap is_unseparated (listed ∙ elements)) in
    let from : ReadsHere text Punctuator (codes ",") m x.last = subst (λ y. ReadsHere text Punctuator (codes ",") y x.last) (still ∙ at) (subst (λ y. ReadsHere y Punctuator (codes ",") e.last x.last) here read) in
    let after : k.seen ≡ separated (with_hole l.seen) true = ap (λ y. y.seen) is ∙ after_seen k2 true comma.0 ∙ (λ i. if is_unseparated ((listed ∙ elements) i) then sees i else separated (sees i) true) in
    subst (λ y. SoFarAt text f k o s x.last (P ++ y)) (sym none_added) (so_far_hole text f l k o s m x.last P before elements from (ap (λ y. y.listed) is ∙ after_listed k2 true ∙ listed) (ap (λ y. y.nodes) is ∙ after_nodes k2 true ∙ parts) after)
further text f l k1 k2 k {o} s m t e x P Q before passed open_list (a_chunk template n c mid pushed expression part_read) here same nodes seen comma is =
    let listed : k2.listed ≡ l.listed = same ∙ ap (λ y. y.listed) pushed in
    let parts : k2.nodes ≡ push (push l.nodes n) c.node = nodes ∙ ap (λ y. y.nodes) pushed in
    let unmarked : l.seen.is_flagged ≡ false = sym (ap (λ y. is_ended y l.seen (part_count l.nodes)) template) ∙ open_list in
    let marked : k2.seen.is_flagged ≡ c.is_flagged = ap (λ (y : ListSummary). y.is_flagged) seen ∙ ap (λ y. y.seen.is_flagged) pushed ∙ ap (λ b. (b || false) || c.is_flagged) unmarked in
    let kept : (after_item k2 true).seen.is_flagged ≡ k2.seen.is_flagged = after_marked k2 true in
    let still : x.last ≡ e.last = comma.1.0 (ap is_unseparated (listed ∙ template)) in
    let at : t ≡ m = subst (λ y. SemicolonsBefore text y m t) template passed in
    subst (λ y. SoFarAt text f k o s y (P ++ Q)) (sym still)
    (so_far_chunk text f l k n c.node c.is_flagged s m mid e.last P Q before template unmarked (subst (λ y. SpellsIn text o (expr Expression true Any) n y mid Q) at expression) part_read (ap (λ y. y.listed) is ∙ after_listed k2 true ∙ listed) (ap (λ y. y.nodes) is ∙ after_nodes k2 true ∙ parts) (ap (λ y. y.seen.is_flagged) is ∙ kept ∙ marked))

-- an item, and what is read behind it that adds nothing
pub item_up_to : (text : SourceText) {t e x : CursorState} {tmid emid new : List Pair} (l k : ListOf) → t.text ≡ text → Adds t e tmid emid (ItemAt t.text l k) → x.opened ≡ e.opened → new ≡ emid → Adds t x tmid new (λ o _ z Q. ItemAt text l k o t.last e.last Q)
item_up_to text {t = t} {e = e} l k same item open_after after = record {
  more = item.more;
  same_open = open_after ∙ item.same_open;
  pairs = after ∙ item.pairs;
  is = subst (λ y. ItemAt y l k (max_open - t.opened) t.last e.last (grouping item.more)) same item.is;
}

-- from where the list was entered
pub further_item : {s m t e x : CursorState} {old mid tmid emid new : List Pair} (l0 l k1 k2 k : ListOf) → Adds s m old mid (FurtherOn s.text l0 l) → m.text ≡ s.text → PassedBefore l.listed m t → t.text ≡ m.text → t.opened ≡ m.opened → tmid ≡ mid → is_ended l.listed l.seen (part_count l.nodes) ≡ false →
    Adds t e tmid emid (ItemAt t.text l k1) → e.text ≡ t.text → k2.listed ≡ k1.listed → k2.nodes ≡ k1.nodes → k2.seen ≡ k1.seen → x.opened ≡ e.opened → new ≡ emid → CommaAt e x k2 true → k ≡ after_item k2 true → Adds s x old new (FurtherOn s.text l0 k)
further_item {s} {m} {t} {e} {x} l0 l k1 k2 k before here passed there open_same same goes item further_on a b c open_after after comma is =
    let text : t.text ≡ s.text = there ∙ here in
    let passed' : SemicolonsBefore s.text l.listed m.last t.last = subst (λ y. SemicolonsBefore y l.listed m.last t.last) here (semicolons_before l.listed m t passed) in
    let more : Adds t x _ _ (λ o _ z Q. ItemAt s.text l k1 o t.last e.last Q) = item_up_to s.text l k1 text item open_after after in
    adds_both before (adds_behind {B = λ o _ z Q. ItemAt s.text l k1 o t.last e.last Q} open_same same more (λ o P h. h)) (λ o P Q u v f z R h.
    subst (λ y. SoFarAt s.text f k o z x.last y) (append_assoc R P Q) (further s.text f l k1 k2 k z m.last t.last e x (R ++ P) Q (u f z R h) passed' goes v (further_on ∙ text) a b c comma is))

-- the places of a list stay
item_kept : {text : SourceText} (l k : ListOf) {o : ℕ} {s e : Token} {P : List Pair} → ItemAt text l k o s e P → (k.span.start ≡ l.span.start) × (k.inside.start ≡ l.inside.start)
item_kept l k (an_item it plain pushed took item target) = (ap (λ y. y.span.start) pushed, ap (λ y. y.inside.start) pushed)
item_kept l k (a_hole elements pushed still none_added comma) = (ap (λ y. y.span.start) pushed, ap (λ y. y.inside.start) pushed)
item_kept l k (a_chunk template n c mid pushed expression part_read) = (ap (λ y. y.span.start) pushed, ap (λ y. y.inside.start) pushed)

pub item_places : {s e : CursorState} {old new : List Pair} {text : SourceText} {l k : ListOf} → Adds s e old new (ItemAt text l k) → (k.span.start ≡ l.span.start) × (k.inside.start ≡ l.inside.start)
item_places {l = l} {k = k} a = item_kept l k a.is

pub after_start : (k : ListOf) (b : Bool) → (after_item k b).span.start ≡ k.span.start
after_start k b = of (is_ended k.listed k.seen (part_count k.nodes) || is_unseparated k.listed)
  where
    of : (c : Bool) → (if c then k else record k { seen = separated k.seen b }).span.start ≡ k.span.start
    of true = refl
    of false = refl

pub after_inside : (k : ListOf) (b : Bool) → (after_item k b).inside.start ≡ k.inside.start
after_inside k b = of (is_ended k.listed k.seen (part_count k.nodes) || is_unseparated k.listed)
  where
    of : (c : Bool) → (if c then k else record k { seen = separated k.seen b }).inside.start ≡ k.inside.start
    of true = refl
    of false = refl
