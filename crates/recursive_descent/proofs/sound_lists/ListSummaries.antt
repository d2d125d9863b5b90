-- What is seen of the items is right with one more (ECMA-262 12.2.10, 12.15.5, 13.12).
use Rattle.std.proofs.Common.{arith, ◌≡◌, ℕ, ◌+◌, Bool, true, false, cond, List, refl, sym, ap, ◌∙◌, subst}
use Rattle.std.specs.Prelude.{◌&&◌, ◌||◌, if◌then◌else◌, nat_le}
use Rattle.std.proofs.lemmas.Bool.{false≢true}
use Rattle.std.proofs.lemmas.Bool.Decides.{nat_tests}
use Rattle.tree.specs.Tree.{Tree, Parts, none, part, gap, push, push_gap, kind_of, part_count}
use Rattle.language.specs.Statements.{defaults}
use Rattle.language.specs.Vocabulary.{is_target as is_simple}
use Rattle.covers.specs.declared.shape.TargetForm.{TargetForm}
use Rattle.covers.specs.declared.shape.TargetForm.TheVariants as assigned
use Rattle.covers.specs.declared.shape.CoverShape.{CoverShape}
use Rattle.covers.specs.declared.list.ListItem.{ListItem}
use Rattle.covers.specs.declared.list.ListKind.{ListKind}
use Rattle.covers.specs.declared.list.ListKind.TheVariants as listed
use Rattle.covers.specs.declared.list.ListBuilder.{ListBuilder as ListOf}
use Rattle.covers.specs.Lists.{is_ended, separated, shape_with, takes}
use Rattle.token_cursor.specs.CursorState.{CursorState}
use Rattle.tree.specs.declared.kind.Pair.{Pair}
use Rattle.language.specs.Token.{Token}
use Rattle.covers.specs.Shapes.{is_pattern, is_element, unassigned, value}
use Rattle.recursive_descent.specs.Soundness.{Adds}
use Rattle.parser_tables.specs.Items.{after_item, is_unseparated}
use Rattle.recursive_descent.specs.SoundnessOfLists.{ItemAt, an_item, a_hole, a_chunk, SeenRight, case_count, is_list_shape}
use Rattle.token_cursor.specs.SourceText.{SourceText}

abbrev is_cases : ListKind → Bool
is_cases (listed.Cases r) = true
is_cases _ = false

picked_shape : (b : Bool) (y : TargetForm) → is_list_shape y ≡ true → is_list_shape (if b then y else assigned.Nothing) ≡ true
picked_shape true y h = h
picked_shape false y h = refl

pub shape_right : (sp : Bool) (x : ListKind) (s p : CoverShape) → is_list_shape s.assigned ≡ true → is_list_shape (shape_with sp x s p).assigned ≡ true
shape_right false x s p h = picked_shape (is_element p.assigned) s.assigned h
shape_right true listed.ParenthesizedItems s p h = picked_shape (is_pattern p.assigned) s.assigned h
shape_right true _ s p h = picked_shape (is_pattern p.assigned) s.assigned h

defaults_push : (ps : Parts) (n : Tree) → defaults (push ps n) ≡ defaults ps + defaults (part n none)
defaults_push none n = omega arith
defaults_push (part k ps) n =
    let more = defaults_push ps n in
    omega arith
defaults_push (gap ps) n = defaults_push ps n

pub counted_both : (m n : Bool) (c d : ℕ) → (m && n) ≡ false → nat_le c (cond m 1 0) ≡ true → nat_le d (cond n 1 0) ≡ true → nat_le (c + d) (cond (m || n) 1 0) ≡ true
counted_both true true c d h a b = cc
counted_both true false c d h a b = grind (arith, nat_tests)
counted_both false true c d h a b = grind (arith, nat_tests)
counted_both false false c d h a b = grind (arith, nat_tests)

push_alone : (ps : Parts) (m n : Tree) → push ps m ≡ part n none → m ≡ n
push_alone none m n e = cc
push_alone (part k none) m n e = cc
push_alone (part k (part j ps)) m n e = cc
push_alone (part k (gap ps)) m n e = cc
push_alone (gap ps) m n e = cc

alone_covers : (sp : Bool) (x : ListKind) (s p : CoverShape) → x ≡ listed.ParenthesizedItems → (shape_with sp x s p).is_expression ≡ true → sp ≡ false
alone_covers false x s p h k = refl
alone_covers true listed.ParenthesizedItems s p h k = cc
alone_covers true _ s p h k = cc

none_le : (b : Bool) → nat_le 0 (cond b 1 0) ≡ true
none_le true = refl
none_le false = refl

not_excess : (b y : Bool) → (if b then false else y) ≡ true → b ≡ false
not_excess true y h = absurd (false≢true h)
not_excess false y h = refl

counted_item : (x : ListKind) (l : ListOf) (it : ListItem) → takes x l.seen it ≡ true → nat_le (case_count x l.nodes) (cond l.seen.is_flagged 1 0) ≡ true → nat_le (case_count x (part it.node none)) (cond it.is_flagged 1 0) ≡ true → nat_le (case_count x (push l.nodes it.node)) (cond (l.seen.is_flagged || it.is_flagged) 1 0) ≡ true
counted_item (listed.Cases r) l it took a b = ap (λ c. nat_le c (cond (l.seen.is_flagged || it.is_flagged) 1 0)) (defaults_push l.nodes it.node) ∙ counted_both l.seen.is_flagged it.is_flagged (defaults l.nodes) (defaults (part it.node none)) (not_excess (l.seen.is_flagged && it.is_flagged) _ took) a b
counted_item _ l it took a b = none_le (l.seen.is_flagged || it.is_flagged)

no_cases : (x y : ListKind) (ps : Parts) (b : Bool) → x ≡ y → is_cases y ≡ false → nat_le (case_count x ps) (cond b 1 0) ≡ true
no_cases (listed.Cases r) y ps b h k = absurd (false≢true (sym k ∙ ap is_cases (sym h)))
no_cases _ y ps b h k = none_le b

pub right_item : {text : SourceText} (l k : ListOf) {o : ℕ} {s e : Token} {P : List Pair} → ItemAt text l k o s e P → SeenRight l → SeenRight k
right_item l k (an_item it plain pushed took item target) h = subst SeenRight (sym pushed) (record {
  together = shape_right it.spreads l.listed l.seen.shape it.shape h.together;
  target = λ n covers nodes expression tg. subst (λ m. is_simple (kind_of m) ≡ true) (push_alone l.nodes it.node n nodes) (target covers (alone_covers it.spreads l.listed l.seen.shape it.shape covers expression) tg);
  one_default = counted_item l.listed l it took h.one_default item.is_default;
})
right_item l k (a_hole elements pushed still none_added comma) h = subst SeenRight (sym pushed) (record {
  together = h.together;
  target = λ n covers nodes expression tg. absurd (other (sym elements ∙ covers));
  one_default = no_cases l.listed listed.Elements (push_gap l.nodes) l.seen.is_flagged elements refl;
})
  where
    other : listed.Elements ≡ listed.ParenthesizedItems → ⊥
    other e = cc
right_item l k (a_chunk template n c mid pushed expression part_read) h = subst SeenRight (sym pushed) (record {
  together = shape_right c.spreads l.listed (shape_with false l.listed l.seen.shape value) c.shape (shape_right false l.listed l.seen.shape value h.together);
  target = λ m covers nodes ex tg. absurd (other (sym template ∙ covers));
  one_default = no_cases l.listed listed.Template (push (push l.nodes n) c.node) ((l.seen.is_flagged || false) || c.is_flagged) template refl;
})
  where
    other : listed.Template ≡ listed.ParenthesizedItems → ⊥
    other e = cc

pub right_items : {s e : CursorState} {old new : List Pair} {text : SourceText} (l k : ListOf) → Adds s e old new (ItemAt text l k) → SeenRight l → SeenRight k
right_items l k a h = right_item l k a.is h

pub right_after : (k : ListOf) (b : Bool) → SeenRight k → SeenRight (after_item k b)
right_after k b h = of (is_ended k.listed k.seen (part_count k.nodes) || is_unseparated k.listed)
  where
    apart : (c : Bool) → SeenRight (record k { seen = record k.seen { shape = if c then unassigned k.seen.shape else k.seen.shape; has_comma = b } })
    apart true = record { together = refl; target = λ n covers nodes ex tg. h.target n covers nodes ex tg; one_default = h.one_default }
    apart false = record { together = h.together; target = λ n covers nodes ex tg. h.target n covers nodes ex tg; one_default = h.one_default }

    of : (c : Bool) → SeenRight (if c then k else record k { seen = separated k.seen b })
    of true = h
    of false = apart (b && k.seen.is_rest)
