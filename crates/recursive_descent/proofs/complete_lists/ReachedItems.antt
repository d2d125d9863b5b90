-- The loop over a given list, from the points between which its items were read (ECMA-262 12.2, 12.16, 13.3, 13.12, 14.1, 14.6).
use Rattle.std.proofs.Common.{◌+◌, ◌-◌, ◌≤◌, ◌≡◌, ℕ, Bool, true, false, List, ◌++◌, Result, Ok, Err, refl, sym, ap, ◌∙◌, subst, append_assoc, arith}
use Rattle.std.specs.Prelude.{Option, Some, None, codes, if◌then◌else◌, nat_le}
use Rattle.std.specs.Result.{IsErrAnd}
use Rattle.std.proofs.lemmas.Bool.Decides.{nat_tests}
use Rattle.source_text.specs.declared.fault.Fault.{Fault}
use Rattle.tokens.specs.declared.token.TokenClass.TheVariants.{Punctuator}
use Rattle.token_cursor.specs.CursorState.{CursorState}
use Rattle.tree.specs.declared.kind.Pair.{Pair}
use Rattle.tree.specs.Tree.{Parts, join, part_count, parts_height}
use Rattle.language.specs.Covers.{Reading}
use Rattle.language.specs.Token.{Token}
use Rattle.language.specs.Claims.{max_open}
use Rattle.covers.specs.declared.list.ListSummary.{ListSummary}
use Rattle.covers.specs.declared.list.ListBuilder.{ListBuilder as ListOf}
use Rattle.covers.specs.Lists.{is_ended, separated}
use Rattle.recursive_descent.specs.Complete.{ItemComplete, ListComplete}
use Rattle.recursive_descent.specs.Soundness.{all_read_as}
use Rattle.recursive_descent.specs.SoundnessOfLists.{case_count}
use Rattle.recursive_descent.specs.Follows.{PassedBefore, FirstMisses, MissesEnd, CommaAt, end_before}
use Rattle.recursive_descent.specs.Completeness.{Room}
use Rattle.recursive_descent.specs.CompletenessOfLists.{ListGiven, ItemGiven, is_lone, default_seen}
use Rattle.parser_tables.specs.Items.{after_item, is_unseparated}
use Rattle.token_cursor.specs.Seen.{ReadsHere}
use Rattle.recursive_descent.proofs.complete_expressions.Agreement.{agrees_on, ends_behind, ends_before, ends_both}
use Rattle.recursive_descent.proofs.complete_lists.ListTurns.{ahead_of, count_join, cases_join, lone_less, join_again, high_join}
use Rattle.recursive_descent.proofs.complete_lists.ListLoop.{Reaches, ItemHere, item_here, EndMissed, left_own}
use Rattle.recursive_descent.proofs.complete_lists.RemainingList.{next_given}
use Rattle.recursive_descent.proofs.sound_lists.WholeLists.{semicolons_before, SemicolonsBefore, after_seen, after_nodes, after_listed}
use Rattle.token_cursor.specs.SourceText.{SourceText}
use Rattle.recursive_descent.specs.Spelled.{AllOfLanguage}
use Rattle.recursive_descent.proofs.reading.LanguageTrees.{join_of_language}

end_missed : (w : Option (List ℕ)) (t : CursorState) → MissesEnd w t → EndMissed t.text w t.last
end_missed None t h = tt
end_missed (Some w) t h = h

one_less : (a b c : ℕ) → nat_le ((a + b) + c) 1 ≡ true → nat_le (a + c) 1 ≡ true
one_less a b c h = grind (arith, nat_tests)

-- the item that stands there, with what an item is asked
pub record Asked (text : SourceText) (l : ListOf) (a : Reading) (o : ℕ) (ps : Parts) (s t : CursorState) (to : Token) (P : List Pair) (g : ListGiven text l a o ps s.last to P) : Type 0 where
  pub here : ItemHere text l a o ps t.last g.mid P
  pub lone : is_lone l.listed a (part_count l.nodes + part_count here.one) ≡ true
  pub once : nat_le (case_count l.listed here.one + default_seen l.listed l.seen.is_flagged) 1 ≡ true
  pub lower : parts_height here.one ≤ parts_height ps
  pub own : AllOfLanguage text ps → AllOfLanguage text here.one

pub asked_item : {text : SourceText} (l : ListOf) (a : Reading) {o : ℕ} {ps : Parts} (m t : CursorState) {to : Token} {P : List Pair} → (g : ListGiven text l a o ps m.last to P) → m.text ≡ text → t.text ≡ m.text → PassedBefore l.listed m t → FirstMisses t.text l.listed t.last → is_ended l.listed l.seen (part_count l.nodes) ≡ false → MissesEnd (end_before l.listed) t → Asked text l a o ps m t to P g
asked_item {text} l a {o} {ps} m t {to} {P} g here there passed first open_list miss =
    let before : SemicolonsBefore text l.listed m.last t.last = subst (λ y. SemicolonsBefore y l.listed m.last t.last) here (semicolons_before l.listed m t passed) in
    let first' : FirstMisses text l.listed t.last = subst (λ y. FirstMisses y l.listed t.last) (there ∙ here) first in
    let miss' : EndMissed text (end_before l.listed) t.last = subst (λ y. EndMissed y (end_before l.listed) t.last) (there ∙ here) (end_missed (end_before l.listed) t miss) in
    let w = item_here text l a to open_list miss' g.closes (ahead_of text l a g before first') in
    let count : part_count ps ≡ part_count w.one + part_count w.rest = ap part_count w.parts ∙ count_join w.one w.rest in
    let cases : case_count l.listed ps ≡ case_count l.listed w.one + case_count l.listed w.rest = ap (case_count l.listed) w.parts ∙ cases_join l.listed w.one w.rest in
    record {
      here = w;
      lone = lone_less l.listed a (part_count l.nodes + part_count ps) (part_count l.nodes + part_count w.one) (part_count w.rest) (omega arith) g.lone;
      once = one_less (case_count l.listed w.one) (case_count l.listed w.rest) (default_seen l.listed l.seen.is_flagged) (ap (λ y. nat_le (y + default_seen l.listed l.seen.is_flagged) 1) (sym cases) ∙ g.one_default);
      lower = subst (λ y. parts_height w.one ≤ parts_height y) (sym w.parts) (high_join w.one w.rest).0;
      own = λ whole. (join_of_language {text = text} w.one w.rest (subst (λ y. AllOfLanguage text y) w.parts whole)).0;
    }

-- an item was read, and another may follow
pub reached_more : {s m t e x : CursorState} {old mid tmid emid new : List Pair} (high : ℕ) (l0 l k k2 k' : ListOf) (u : Unit {0}) → Reaches s.text l0 l s m old mid → l.listed ≡ l0.listed → m.text ≡ s.text → PassedBefore l.listed m t → FirstMisses t.text l.listed t.last → t.text ≡ m.text → tmid ≡ mid →
    is_ended l.listed l.seen (part_count l.nodes) ≡ false → MissesEnd (end_before l.listed) t → ItemComplete t e tmid emid high l k (Ok u) → e.text ≡ t.text → k.listed ≡ l.listed → k2.listed ≡ k.listed → k2.nodes ≡ k.nodes → k2.seen ≡ k.seen → CommaAt e x k2 true → k' ≡ after_item k2 true → new ≡ emid → Reaches s.text l0 k' s x old new
reached_more {s} {m} {t} {e} {x} {old} {mid} {tmid} {emid} {new} high l0 l k k2 k' u before kind here passed first there same open_list miss item here_e kl b c d comma is added a o ps to P g own =
    let v = before a o ps to P g own in
    let q = asked_item l a m t v.left here there passed first open_list miss in
    let w = q.here in
    let text : t.text ≡ s.text = there ∙ here in
    let r = item a o w.last w.one w.mid w.pairs_one open_list v.left.left q.lone q.once (subst (λ y. ItemGiven y l.listed a o t.last w.mid w.pairs_one w.last w.one) (sym text) w.given) (subst (λ y. AllOfLanguage y w.one) (sym text) (q.own (left_own s.text v.done v.rest v.parts own))) in
    let at : e.last ≡ w.mid = r.1.place in
    let listed : k2.listed ≡ l.listed = b ∙ kl in
    let seen : k'.seen ≡ (if is_unseparated l.listed then k.seen else separated k.seen true) = ap (λ y. y.seen) is ∙ after_seen k2 true comma.0 ∙ (λ i. if is_unseparated (listed i) then d i else separated (d i) true) in
    let nodes : k'.nodes ≡ k.nodes = ap (λ y. y.nodes) is ∙ after_nodes k2 true ∙ c in
    let ended : is_ended l.listed k.seen (part_count k.nodes) ≡ false = (λ i. is_ended (sym listed i) (sym d i) (part_count (sym c i))) ∙ comma.0 in
    record {
      done = join v.done w.one;
      rest = w.rest;
      one = v.one ++ w.pairs_one;
      more = w.pairs_more;
      nodes = ap (all_read_as a) nodes ∙ r.0.nodes ∙ ap (λ y. join y w.one) v.nodes ∙ join_again (all_read_as a l0.nodes) v.done w.one;
      parts = v.parts ∙ ap (join v.done) w.parts ∙ sym (join_again v.done w.one w.rest);
      pairs = v.pairs ∙ ap (λ z. v.one ++ z) w.pairs ∙ sym (append_assoc v.one w.pairs_one w.pairs_more);
      read = ends_before (ends_both v.read (ends_behind {s = m} same r.1)) refl added;
      left = next_given s.text l k k' a r.0 kl (ap (λ y. y.listed) is ∙ after_listed k2 true ∙ b) nodes seen ended
          (λ h. comma.1.0 (ap is_unseparated listed ∙ h) ∙ at)
          (λ h. subst (λ y. ReadsHere s.text Punctuator (codes ",") y x.last) at (subst (λ y. ReadsHere y Punctuator (codes ",") e.last x.last) (here_e ∙ text) (comma.1.1 (ap is_unseparated listed ∙ h))))
          w.given w.behind v.left.closes (ap (λ y. is_lone l.listed a (part_count l.nodes + part_count y)) (sym w.parts) ∙ v.left.lone) (ap (λ y. nat_le (case_count l.listed y + default_seen l.listed l.seen.is_flagged) 1) (sym w.parts) ∙ v.left.one_default);
      lone = λ p y h. let z = r.0.lone (kind ∙ p) y in record {
        value = λ n f. ap (λ (w : ListSummary). w.last.is_expression) seen ∙ kept_last (is_unseparated l.listed) k.seen ∙ z.value n (sym nodes ∙ f);
        target = λ n f j. ap (λ (w : ListSummary). Rattle.covers.specs.Shapes.is_target w.last.assigned) seen ∙ kept_target (is_unseparated l.listed) k.seen ∙ z.target n (sym nodes ∙ f) j;
      };
    }
  where
    kept_last : (c : Bool) (y : ListSummary) → (if c then y else separated y true).last.is_expression ≡ y.last.is_expression
    kept_last true y = refl
    kept_last false y = refl

    kept_target : (c : Bool) (y : ListSummary) → Rattle.covers.specs.Shapes.is_target (if c then y else separated y true).last.assigned ≡ Rattle.covers.specs.Shapes.is_target y.last.assigned
    kept_target true y = refl
    kept_target false y = refl

-- an item is refused
pub item_refused : (s m t e x : CursorState) (old mid tmid emid new : List Pair) (high : ℕ) (l0 l k : ListOf) (answer : Result ListOf Fault) (fault : Fault) → Reaches s.text l0 l s m old mid → m.text ≡ s.text → PassedBefore l.listed m t → FirstMisses t.text l.listed t.last → t.text ≡ m.text → t.opened ≡ s.opened →
    is_ended l.listed l.seen (part_count l.nodes) ≡ false → MissesEnd (end_before l.listed) t → ItemComplete t e tmid emid high l k (Err fault) → IsErrAnd answer (λ y. y ≡ fault) → ListComplete s x old new high l0 answer
item_refused s m t e x old mid tmid emid new high l0 l k answer fault before here passed first there opened open_list miss item err a o ps to P g own =
    let v = before a o ps to P g own in
    let q = asked_item l a m t v.left here there passed first open_list miss in
    let w = q.here in
    let lower = q.lower in
    let whole : parts_height v.rest ≤ parts_height ps = subst (λ y. parts_height v.rest ≤ parts_height y) (sym v.parts) (high_join v.done v.rest).1 in
    agrees_on (Room t o (parts_height w.one) high) _ _ answer fault err
    (item a o w.last w.one w.mid w.pairs_one open_list v.left.left q.lone q.once (subst (λ y. ItemGiven y l.listed a o t.last w.mid w.pairs_one w.last w.one) (sym (there ∙ here)) w.given) (subst (λ y. AllOfLanguage y w.one) (sym (there ∙ here)) (q.own (left_own s.text v.done v.rest v.parts own))))
    (λ room. (subst (λ y. o ≤ max_open - y) (sym opened) room.0, let high' = room.1 in omega arith))
