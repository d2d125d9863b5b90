-- Behind the last item of a given list: all of it was read, and what closes it is left (ECMA-262 12.2, 12.16, 13.3, 13.12, 14.1, 14.6).
use Rattle.std.proofs.Common.{◌≡◌, ◌⊎◌, inl, inr, ℕ, Bool, true, false, not, cond, List, ◌++◌, Result, Ok, refl, sym, ap, ◌∙◌, subst}
use Rattle.std.specs.Prelude.{Some, codes, ◌&&◌, ◌||◌, if◌then◌else◌, nat_le}
use Rattle.std.specs.Result.{IsErrAnd}
use Rattle.std.proofs.lemmas.Bool.{and_parts}
use Rattle.std.proofs.lemmas.List.{append-nil}
use Rattle.source_text.specs.declared.fault.Fault.{Fault}
use Rattle.tokens.specs.declared.token.TokenClass.TheVariants.{Punctuator}
use Rattle.token_cursor.specs.CursorState.{CursorState}
use Rattle.tree.specs.declared.kind.Pair.{Pair}
use Rattle.tree.specs.Tree.{Tree, Parts, none, part, gap, join, part_count}
use Rattle.language.specs.Covers.{Reading, as_expression, as_pattern}
use Rattle.language.specs.Token.{Token}
use Rattle.covers.specs.declared.list.ListKind.{ListKind}
use Rattle.covers.specs.declared.list.ListKind.TheVariants as listed
use Rattle.covers.specs.declared.list.ListSummary.{ListSummary}
use Rattle.covers.specs.declared.list.ListBuilder.{ListBuilder as ListOf}
use Rattle.covers.specs.Lists.{closing, is_ended, separated, reads}
use Rattle.covers.specs.Shapes.{is_target}
use Rattle.recursive_descent.specs.Complete.{ItemComplete, ListComplete}
use Rattle.recursive_descent.specs.Soundness.{all_read_as}
use Rattle.recursive_descent.specs.SoundnessOfLists.{ClosedBy, has_reading, seen_fits, asks_some}
use Rattle.recursive_descent.specs.Follows.{PassedBefore, FirstMisses, MissesEnd, CommaAt, end_before}
use Rattle.recursive_descent.specs.CompletenessOfLists.{ListGiven, ItemGiven, an_item, a_hole, a_chunk, is_left}
use Rattle.parser_tables.specs.Items.{after_item, is_unseparated, are_some}
use Rattle.token_cursor.specs.Seen.{Misses}
use Rattle.recursive_descent.proofs.complete_expressions.Agreement.{ends_behind, ends_before, ends_both, ends_same, not_missed}
use Rattle.recursive_descent.proofs.sound_lists.OneMoreItem.{join_none}
use Rattle.recursive_descent.proofs.complete_lists.WholeListAnswers.{Done, closes_at}
use Rattle.recursive_descent.proofs.complete_lists.ListLoop.{Reaches, left_own}
use Rattle.recursive_descent.proofs.complete_lists.ReachedItems.{asked_item}
use Rattle.recursive_descent.proofs.complete_lists.ListTurns.{join_again}
use Rattle.recursive_descent.proofs.complete_lists.ListWhole.{none_behind, whole_left}
use Rattle.recursive_descent.proofs.sound_lists.WholeLists.{after_nodes, after_listed}
use Rattle.token_cursor.specs.SourceText.{SourceText}
use Rattle.recursive_descent.specs.Spelled.{AllOfLanguage}

-- what is seen behind the last item: the same, or that no comma stands there
abbrev behind_last : Bool → ListSummary → ListSummary
behind_last c s = if c then s else separated s false

after_last : (k : ListOf) → (after_item k false).seen ≡ behind_last (is_ended k.listed k.seen (part_count k.nodes) || is_unseparated k.listed) k.seen
after_last k = of (is_ended k.listed k.seen (part_count k.nodes) || is_unseparated k.listed)
  where
    of : (c : Bool) → (if c then k else record k { seen = separated k.seen false }).seen ≡ behind_last c k.seen
    of true = refl
    of false = refl

last_value : (c : Bool) (s : ListSummary) → (behind_last c s).last.is_expression ≡ s.last.is_expression
last_value true s = refl
last_value false s = refl

last_target : (c : Bool) (s : ListSummary) → is_target (behind_last c s).last.assigned ≡ is_target s.last.assigned
last_target true s = refl
last_target false s = refl

last_comma : (c : Bool) (s : ListSummary) → s.has_comma ≡ false → (behind_last c s).has_comma ≡ false
last_comma true s h = h
last_comma false s h = refl

last_shape : (c : Bool) (s : ListSummary) → (behind_last c s).shape ≡ s.shape
last_shape true s = refl
last_shape false s = refl

last_marked : (c : Bool) (s : ListSummary) → (behind_last c s).is_flagged ≡ s.is_flagged
last_marked true s = refl
last_marked false s = refl

last_edge : (c : Bool) (s : ListSummary) → (behind_last c s).edge ≡ s.edge
last_edge true s = refl
last_edge false s = refl

-- what fits a list before fits it behind its last item
last_fits : (x : ListKind) (k k' : ListOf) (a : Reading) (c : Bool) → k'.nodes ≡ k.nodes → k'.seen ≡ behind_last c k.seen → seen_fits x k' a ≡ seen_fits x k a
last_fits (listed.Declarators i) k k' as_expression c b d = ap (λ (y : ListSummary). not y.is_flagged) d ∙ ap not (last_marked c k.seen)
last_fits (listed.Declarators i) k k' (as_pattern z) c b d = λ j. nat_le (part_count (b j)) 1 && Rattle.parser_tables.specs.StatementNodes.is_closed ((ap (λ (y : ListSummary). y.edge) d ∙ last_edge c k.seen) j)
last_fits listed.Arguments k k' a c b d = refl
last_fits listed.Template k k' a c b d = refl
last_fits (listed.Sequence i) k k' a c b d = refl
last_fits (listed.Cases r) k k' a c b d = refl
last_fits listed.Members k k' a c b d = refl
last_fits _ k k' a c b d = ap (λ y. Rattle.recursive_descent.specs.Soundness.fits_as y a) (ap (λ (y : ListSummary). y.shape) d ∙ last_shape c k.seen)

last_left : (k k' : ListOf) (a : Reading) (c : Bool) → k'.listed ≡ k.listed → k'.nodes ≡ k.nodes → k'.seen ≡ behind_last c k.seen → is_left k' a ≡ is_left k a
last_left k k' a c l b d =
    let shape : k'.seen.shape ≡ k.seen.shape = ap (λ (y : ListSummary). y.shape) d ∙ last_shape c k.seen in
    (λ i. (has_reading (l i) a && seen_fits (l i) k' a) && reads (l i) (shape i)) ∙ ap (λ x. (has_reading k.listed a && x) && reads k.listed k.seen.shape) (last_fits k.listed k k' a c b d)

-- one part more is some
some_more : (ps : Parts) (n : Tree) → are_some (join ps (part n none)) ≡ true
some_more none n = refl
some_more (part m ps) n = refl
some_more (gap none) n = refl
some_more (gap (part m ps)) n = refl
some_more (gap (gap ps)) n = refl

-- what parentheses hold has an item then, and no comma is the last
some_asked : {text : SourceText} {o : ℕ} {s e : Token} {Q : List Pair} {last : Bool} {one : Parts} (x : ListKind) (a : Reading) (ps qs : Parts) (b : Bool) → ItemGiven text x a o s e Q last one → (x ≡ listed.ParenthesizedItems → b ≡ false) → all_read_as a qs ≡ join (all_read_as a ps) one → cond (asks_some x a) (are_some qs && not b) true ≡ true
some_asked listed.ParenthesizedItems as_expression ps qs b (an_item {n = n} ch it d en) free is = ap (λ z. z && not b) (ap are_some is ∙ some_more ps n) ∙ ap not (free refl)
some_asked listed.ParenthesizedItems as_expression ps qs b (a_hole k c z q) free is = cc
some_asked listed.ParenthesizedItems as_expression ps qs b (a_chunk k x y z) free is = cc
some_asked listed.ParenthesizedItems (as_pattern z) ps qs b g free is = refl
some_asked _ a ps qs b g free is = refl

-- behind the last item
pub done_behind : {s m t e x : CursorState} {old mid tmid emid new : List Pair} (high : ℕ) (l0 l k k2 k' : ListOf) (u : Unit {0}) → Reaches s.text l0 l s m old mid → l.listed ≡ l0.listed → m.text ≡ s.text → PassedBefore l.listed m t → FirstMisses t.text l.listed t.last → t.text ≡ m.text → tmid ≡ mid →
    is_ended l.listed l.seen (part_count l.nodes) ≡ false → MissesEnd (end_before l.listed) t → ItemComplete t e tmid emid high l k (Ok u) → e.text ≡ t.text → k.listed ≡ l.listed → k2.listed ≡ k.listed → k2.nodes ≡ k.nodes → k2.seen ≡ k.seen → CommaAt e x k2 false → k' ≡ after_item k2 false → new ≡ emid →
    (a : Reading) (o : ℕ) (ps : Parts) (to : Token) (P : List Pair) → ListGiven s.text l0 a o ps s.last to P → AllOfLanguage s.text ps → Done s.text l0 k' a ps to P s x old new
done_behind {s} {m} {t} {e} {x} {old} {mid} {tmid} {emid} {new} high l0 l k k2 k' u before kind here passed first there same open_list miss item here_e kl b c d comma is added a o ps to P g own =
    let v = before a o ps to P g own in
    let q = asked_item l a m t v.left here there passed first open_list miss in
    let w = q.here in
    let text : t.text ≡ s.text = there ∙ here in
    let r = item a o w.last w.one w.mid w.pairs_one open_list v.left.left q.lone q.once (subst (λ y. ItemGiven y l.listed a o t.last w.mid w.pairs_one w.last w.one) (sym text) w.given) (subst (λ y. AllOfLanguage y w.one) (sym text) (q.own (left_own s.text v.done v.rest v.parts own))) in
    let at : e.last ≡ w.mid = r.1.place in
    let listed2 : k2.listed ≡ l.listed = b ∙ kl in
    let ending : Bool = is_ended k2.listed k2.seen (part_count k2.nodes) || is_unseparated k2.listed in
    let nodes : k'.nodes ≡ k.nodes = ap (λ y. y.nodes) is ∙ after_nodes k2 false ∙ c in
    let kind' : k'.listed ≡ k.listed = ap (λ y. y.listed) is ∙ after_listed k2 false ∙ b in
    let seen : k'.seen ≡ behind_last ending k.seen = ap (λ y. y.seen) is ∙ after_last k2 ∙ ap (behind_last ending) d in
    let over : (is_ended l.listed k.seen (part_count k.nodes) ≡ true) ⊎ ((is_unseparated l.listed ≡ false) × Misses s.text Punctuator (codes ",") w.mid) = over_of listed2 text at comma.1 in
    let reads_it = (and_parts (has_reading l.listed a) (seen_fits l.listed l a) (and_parts (has_reading l.listed a && seen_fits l.listed l a) (reads l.listed l.seen.shape) v.left.left).0).0 in
    let z = none_behind s.text l.listed a k.seen (part_count k.nodes) reads_it r.0.no_rest r.0.marked over w.behind in
    let all_nodes : all_read_as a k'.nodes ≡ join (all_read_as a l.nodes) w.one = ap (all_read_as a) nodes ∙ r.0.nodes in
    record {
      whole = whole_left k'.listed k' a (last_left k k' a ending kind' nodes seen ∙ r.0.left)
          (some_asked k'.listed a l.nodes k'.nodes k'.seen.has_comma (subst (λ y. ItemGiven s.text y a o t.last w.mid w.pairs_one w.last w.one) (sym (kind' ∙ kl)) w.given) (λ h. ap (λ (y : ListSummary). y.has_comma) seen ∙ last_comma ending k.seen (r.0.no_comma (sym (kind' ∙ kl) ∙ h))) all_nodes);
      nodes = all_nodes ∙ ap (λ y. join y w.one) v.nodes ∙ join_again (all_read_as a l0.nodes) v.done w.one ∙ ap (join (all_read_as a l0.nodes)) (sym (v.parts ∙ ap (join v.done) (w.parts ∙ ap (join w.one) z.0 ∙ join_none w.one)));
      read = ends_same (sym (v.pairs ∙ ap (λ y. v.one ++ y) (w.pairs ∙ ap (λ y. w.pairs_one ++ y) z.2 ∙ append-nil w.pairs_one))) (ends_before (ends_both v.read (ends_behind {s = m} same r.1)) refl added);
      closes = subst (λ y. ClosedBy s.text (closing y) x.last to) (sym (kind' ∙ kl)) (subst (λ y. ClosedBy s.text (closing l.listed) y to) (z.1 ∙ sym at ∙ sym comma.0) v.left.closes);
      lone = λ p y h. let f = r.0.lone (kind ∙ p) y in record {
        value = λ n j. ap (λ (w : ListSummary). w.last.is_expression) seen ∙ last_value ending k.seen ∙ f.value n (sym nodes ∙ j);
        target = λ n j i. ap (λ (w : ListSummary). is_target w.last.assigned) seen ∙ last_target ending k.seen ∙ f.target n (sym nodes ∙ j) i;
      };
    }
  where
    over_of : {m : Token} → k2.listed ≡ l.listed → t.text ≡ s.text → e.last ≡ m → (is_ended k2.listed k2.seen (part_count k2.nodes) ≡ true) ⊎ ((is_unseparated k2.listed ≡ false) × Misses e.text Punctuator (codes ",") e.last) → (is_ended l.listed k.seen (part_count k.nodes) ≡ true) ⊎ ((is_unseparated l.listed ≡ false) × Misses s.text Punctuator (codes ",") m)
    over_of listed2 text at (inl h) = inl ((λ i. is_ended (sym listed2 i) (sym d i) (part_count (sym c i))) ∙ h)
    over_of listed2 text at (inr h) = inr (ap is_unseparated (sym listed2) ∙ h.0, subst (λ y. Misses s.text Punctuator (codes ",") y) at (subst (λ y. Misses y Punctuator (codes ",") e.last) (here_e ∙ text) h.1))

-- all that is given was read
abbrev pub AllDone : SourceText → ListOf → ListOf → CursorState → CursorState → List Pair → List Pair → Type 0
AllDone text l0 l s e old new = (a : Reading) (o : ℕ) (ps : Parts) (to : Token) (P : List Pair) → ListGiven text l0 a o ps s.last to P → AllOfLanguage text ps → Done text l0 l a ps to P s e old new

-- what closes it isn't missed
pub close_refused : (s m x : CursorState) (old mid new : List Pair) (high : ℕ) (l0 l : ListOf) {w : List ℕ} (answer : Result ListOf Fault) (fault : Fault) → AllDone s.text l0 l s m old mid → m.text ≡ s.text → closing l.listed ≡ Some w → IsErrAnd answer (λ y. y ≡ fault) → Misses m.text Punctuator w m.last → ListComplete s x old new high l0 answer
close_refused s m x old mid new high l0 l {w} answer fault done same mark err missed a o ps to P g own =
    let v = done a o ps to P g own in
    absurd (not_missed (subst (λ y. Misses y Punctuator w m.last) same missed) (subst (λ y. ClosedBy s.text y m.last to) mark v.closes))

-- the whole list
pub list_answered : (s m e : CursorState) (old mid new : List Pair) (high : ℕ) (l0 l whole : ListOf) → AllDone s.text l0 l s m old mid → ClosedBy s.text (closing l.listed) m.last e.last → new ≡ mid → whole.listed ≡ l.listed → whole.nodes ≡ l.nodes → whole.seen ≡ l.seen → ListComplete s e old new high l0 (Ok whole)
list_answered s m e old mid new high l0 l whole done closes added b c d a o ps to P g own =
    let v = done a o ps to P g own in
    let fits : seen_fits l.listed whole a ≡ seen_fits l.listed l a = last_fits l.listed l whole a true c d in (
      (λ i. (has_reading (b i) a && seen_fits (b i) whole a) && cond (asks_some (b i) a) (are_some (c i) && not (d i).has_comma) true) ∙ ap (λ y. (has_reading l.listed a && y) && cond (asks_some l.listed a) (are_some l.nodes && not l.seen.has_comma) true) fits ∙ v.whole,
      ap (all_read_as a) c ∙ v.nodes,
      ends_before v.read (closes_at s.text (closing l.listed) m.last e.last to v.closes closes) added,
      λ p q h. let z = v.lone p q h in record {
        value = λ n j. ap (λ (y : ListSummary). y.last.is_expression) d ∙ z.value n (sym c ∙ j);
        target = λ n j i. ap (λ (y : ListSummary). is_target y.last.assigned) d ∙ z.target n (sym c ∙ j) i;
      },
    )
