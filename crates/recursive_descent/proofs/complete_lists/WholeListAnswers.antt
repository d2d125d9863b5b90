-- A given list that was read: where no item follows, and with what closes it (ECMA-262 12.2, 12.16, 13.3, 13.12, 14.1, 14.6).
use Rattle.std.proofs.Common.{◌≡◌, ◌⊎◌, inl, inr, ℕ, true, List, ◌++◌, refl, sym, ap, ◌∙◌, subst}
use Rattle.std.specs.Prelude.{Option, Some, None}
use Rattle.std.proofs.lemmas.List.{append-nil}
use Rattle.token_cursor.specs.CursorState.{CursorState}
use Rattle.tree.specs.declared.kind.Pair.{Pair}
use Rattle.tree.specs.Tree.{Parts, join, part_count}
use Rattle.language.specs.Covers.{Reading, as_expression}
use Rattle.language.specs.Token.{Token}
use Rattle.covers.specs.declared.list.ListKind.TheVariants as listed
use Rattle.covers.specs.declared.list.ListBuilder.{ListBuilder as ListOf}
use Rattle.covers.specs.Lists.{closing, is_ended}
use Rattle.recursive_descent.specs.Soundness.{all_read_as}
use Rattle.recursive_descent.specs.SoundnessOfLists.{ClosedBy, is_whole}
use Rattle.recursive_descent.specs.Follows.{PassedBefore, FirstMisses, SeesEnd, end_before}
use Rattle.recursive_descent.specs.Completeness.{EndsWith}
use Rattle.recursive_descent.specs.CompletenessOfLists.{ListGiven, LoneRead}
use Rattle.recursive_descent.proofs.complete_expressions.Agreement.{ends_before, ends_same, marks_same}
use Rattle.recursive_descent.proofs.sound_lists.OneMoreItem.{join_none}
use Rattle.recursive_descent.proofs.complete_lists.ListLoop.{Reaches}
use Rattle.recursive_descent.proofs.complete_lists.ListTurns.{EndSeen}
use Rattle.recursive_descent.proofs.complete_lists.ListWhole.{none_there, whole_left}
use Rattle.recursive_descent.proofs.sound_lists.WholeLists.{semicolons_before, SemicolonsBefore}
use Rattle.token_cursor.specs.SourceText.{SourceText}
use Rattle.recursive_descent.specs.Spelled.{AllOfLanguage}

-- All items of a given list were read, and what closes it is left.
pub record Done (text : SourceText) (l0 l : ListOf) (a : Reading) (ps : Parts) (to : Token) (P : List Pair) (s e : CursorState) (old new : List Pair) : Type 0 where
  pub whole : is_whole l a ≡ true
  pub nodes : all_read_as a l.nodes ≡ join (all_read_as a l0.nodes) ps
  pub read : EndsWith s e old new e.last P
  pub closes : ClosedBy text (closing l.listed) e.last to
  pub lone : l0.listed ≡ listed.ParenthesizedItems → a ≡ as_expression → LoneRead l0 → LoneRead l

end_seen : (w : Option (List ℕ)) (t : CursorState) → SeesEnd w t → EndSeen t.text w t.last
end_seen None t h = h
end_seen (Some w) t h = h

-- before an item, where none stands
pub done_before : {s m t : CursorState} {old mid new : List Pair} (l0 l : ListOf) → Reaches s.text l0 l s m old mid → m.text ≡ s.text → PassedBefore l.listed m t → FirstMisses t.text l.listed t.last → t.text ≡ m.text → new ≡ mid → (is_ended l.listed l.seen (part_count l.nodes) ≡ true) ⊎ SeesEnd (end_before l.listed) t →
    (a : Reading) (o : ℕ) (ps : Parts) (to : Token) (P : List Pair) → ListGiven s.text l0 a o ps s.last to P → AllOfLanguage s.text ps → Done s.text l0 l a ps to P s t old new
done_before {s} {m} {t} {old} {mid} {new} l0 l before here passed first there same over a o ps to P g own =
    let v = before a o ps to P g own in
    let text = there ∙ here in
    let passed' : SemicolonsBefore s.text l.listed m.last t.last = subst (λ y. SemicolonsBefore y l.listed m.last t.last) here (semicolons_before l.listed m t passed) in
    let z = none_there s.text l a v.left passed' (subst (λ y. FirstMisses y l.listed t.last) text first) (over_there over) in
    record {
      whole = whole_left l.listed l a v.left.left z.3;
      nodes = v.nodes ∙ ap (join (all_read_as a l0.nodes)) (sym (v.parts ∙ ap (join v.done) z.0 ∙ join_none v.done));
      read = ends_same (sym (v.pairs ∙ ap (λ q. v.one ++ q) z.2 ∙ append-nil v.one)) (ends_before v.read refl same);
      closes = subst (λ y. ClosedBy s.text (closing l.listed) y to) z.1 v.left.closes;
      lone = v.lone;
    }
  where
    over_there : (is_ended l.listed l.seen (part_count l.nodes) ≡ true) ⊎ SeesEnd (end_before l.listed) t → (is_ended l.listed l.seen (part_count l.nodes) ≡ true) ⊎ EndSeen s.text (end_before l.listed) t.last
    over_there (inl h) = inl h
    over_there (inr h) = inr (subst (λ y. EndSeen y (end_before l.listed) t.last) (there ∙ here) (end_seen (end_before l.listed) t h))

-- what closes it was read
pub closes_at : (text : SourceText) (w : Option (List ℕ)) (m e to : Token) → ClosedBy text w m to → ClosedBy text w m e → e ≡ to
closes_at text None m e to a b = b ∙ sym a
closes_at text (Some w) m e to a b = sym (marks_same text a b).1
