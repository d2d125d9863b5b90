-- Which arm of a choice is left: lists of more than expressions; arguments and an index behind an expression.
use Rattle.std.specs.Prelude.{◌≡◌, ◌⊎◌, ◌&&◌, ℕ, List, Bool, true, false, not, Some, None, codes, bytes_eq, cond}
use Rattle.std.proofs.Common.{refl, sym, ap, ◌∙◌, inl, inr}
use Rattle.std.proofs.lemmas.Bool.{false≢true}
use Rattle.std.proofs.lemmas.Slice.Eq.{bytes_eq-Decides}
use Rattle.std.proofs.lemmas.Option.{none-some, same_Some}
use Rattle.covers.specs.declared.list.ListKind.{ListKind}
use Rattle.covers.specs.declared.list.ListKind.TheVariants as listed
use Rattle.recursive_descent.specs.Arms.{is_apart}
use Rattle.recursive_descent.specs.SoundnessOfLists.{asks_edge}
use Rattle.recursive_descent.specs.Follows.{LinkedAt}
use Rattle.recursive_descent.proofs.sound_lists.ReadItems.{lists_elements}
use Rattle.recursive_descent.specs.Subscripts.{link_by}
use Rattle.recursive_descent.specs.declared.subscripts.Subscript.{Subscript}
use Rattle.recursive_descent.specs.declared.subscripts.Subscript.TheVariants as link
use Rattle.tokens.specs.declared.token.TokenClass.{TokenClass}
use Rattle.tokens.specs.declared.token.TokenClass.TheVariants.{IdentifierName, Keyword, PrivateName, Punctuator, Template}
use Rattle.tokens.specs.declared.token.Goal.TheVariants.{Div}
use Rattle.tokens.specs.Tokens.{LexicalToken}
use Rattle.token_cursor.specs.CursorState.{CursorState, IsAhead}
use Rattle.language.specs.Token.{as_read, is_token, same_class, table_text}
use Rattle.language.specs.Vocabulary.{is}
use Rattle.token_cursor.specs.Seen.{Misses}
use Rattle.token_cursor.proofs.TokensAhead.{mark_missed}

pub is_other_list : {l : ListKind} → (l ≡ listed.Properties) ⊎ ((l ≡ listed.Members) ⊎ ((l ≡ listed.Template) ⊎ (((i : Bool) × l ≡ listed.Declarators i) ⊎ (((r : Bool) × l ≡ listed.Cases r) ⊎ ((i : Bool) × l ≡ listed.Sequence i))))) → is_apart l ≡ true
is_other_list (inl e) = ap is_apart e
is_other_list (inr (inl e)) = ap is_apart e
is_other_list (inr (inr (inl e))) = ap is_apart e
is_other_list (inr (inr (inr (inl e)))) = ap is_apart e.1
is_other_list (inr (inr (inr (inr (inl e))))) = ap is_apart e.1
is_other_list (inr (inr (inr (inr (inr e))))) = ap is_apart e.1

pub of_elements : (l : ListKind) → is_apart l ≡ false → (lists_elements l && not (asks_edge l)) ≡ true
of_elements listed.Properties h = absurd (false≢true (sym h))
of_elements listed.Members h = absurd (false≢true (sym h))
of_elements listed.Template h = absurd (false≢true (sym h))
of_elements (listed.Sequence i) h = absurd (false≢true (sym h))
of_elements (listed.Declarators i) h = absurd (false≢true (sym h))
of_elements (listed.Cases r) h = absurd (false≢true (sym h))
of_elements _ h = refl

pub not_apart : (l : ListKind) → (l ≡ listed.Properties → ⊥) → (l ≡ listed.Members → ⊥) → (l ≡ listed.Template → ⊥) → ((i : Bool) → l ≡ listed.Sequence i → ⊥) → ((i : Bool) → l ≡ listed.Declarators i → ⊥) → ((r : Bool) → l ≡ listed.Cases r → ⊥) → is_apart l ≡ false
not_apart listed.Properties a b c d e f = absurd (a refl)
not_apart listed.Members a b c d e f = absurd (b refl)
not_apart listed.Template a b c d e f = absurd (c refl)
not_apart (listed.Sequence i) a b c d e f = absurd (d i refl)
not_apart (listed.Declarators i) a b c d e f = absurd (e i refl)
not_apart (listed.Cases r) a b c d e f = absurd (f r refl)
not_apart _ a b c d e f = refl

-- what stands before arguments or an index
abbrev pub is_enclosed : Subscript → Bool
is_enclosed link.Arguments = true
is_enclosed link.Index = true
is_enclosed _ = false

pub is_one : {l : Subscript} → (l ≡ link.Arguments) ⊎ (l ≡ link.Index) → is_enclosed l ≡ true
is_one (inl e) = ap is_enclosed e
is_one (inr e) = ap is_enclosed e

enclosing : (l : Subscript) (w : List ℕ) (a b : Bool) → is w "[" ≡ a → is w "(" ≡ b → cond a (Some link.Index) (cond b (Some link.Arguments) None) ≡ Some l → (bytes_eq w (codes "?.") ≡ false) × (bytes_eq w (codes ".") ≡ false)
enclosing l w true b x y h = let e = (bytes_eq-Decides w (codes "[")).0 x in (ap (λ v. bytes_eq v (codes "?.")) e, ap (λ v. bytes_eq v (codes ".")) e)
enclosing l w false true x y h = let e = (bytes_eq-Decides w (codes "(")).0 y in (ap (λ v. bytes_eq v (codes "?.")) e, ap (λ v. bytes_eq v (codes ".")) e)
enclosing l w false false x y h = absurd (none-some _ h)

pub enclosed_by : (l : Subscript) (c : TokenClass) (w : List ℕ) → is_enclosed l ≡ true → link_by c w ≡ Some l → (c ≡ Punctuator) × (bytes_eq w (codes "?.") ≡ false) × (bytes_eq w (codes ".") ≡ false)
enclosed_by l Punctuator w k h = let e = enclosing l w (is w "[") (is w "(") refl refl h in (refl, e.0, e.1)
enclosed_by l Template w k h = absurd (false≢true (ap is_enclosed (same_Some _ _ h) ∙ k))
enclosed_by l IdentifierName w k h = absurd (false≢true (ap is_enclosed (same_Some _ _ h) ∙ k))
enclosed_by l Keyword w k h = absurd (false≢true (ap is_enclosed (same_Some _ _ h) ∙ k))
enclosed_by l PrivateName w k h = absurd (false≢true (ap is_enclosed (same_Some _ _ h) ∙ k))
enclosed_by l _ w k h = absurd (none-some _ h)

no_sign : (u : LexicalToken) (w : List ℕ) → u.class ≡ Punctuator → bytes_eq u.text w ≡ false → is_token Punctuator w (as_read u) ≡ false
no_sign u w e h = (λ i. same_class Punctuator (e i) && bytes_eq (table_text (e i) u.text) w) ∙ h

pub enclosed_ahead : (l : Subscript) (s : CursorState) (u : LexicalToken) → is_enclosed l ≡ true → IsAhead Div s.text s.last.stop u → link_by u.class u.text ≡ Some l → LinkedAt s s l false
enclosed_ahead l s u k ahead by = of l k by
  where
    e : (l : Subscript) → is_enclosed l ≡ true → link_by u.class u.text ≡ Some l → Misses s.text Punctuator (codes "?.") s.last × Misses s.text Punctuator (codes ".") s.last
    e l k by = let e = enclosed_by l u.class u.text k by in (mark_missed s.text (codes "?.") s.last u ahead (no_sign u (codes "?.") e.0 e.1), mark_missed s.text (codes ".") s.last u ahead (no_sign u (codes ".") e.0 e.2))

    of : (l : Subscript) → is_enclosed l ≡ true → link_by u.class u.text ≡ Some l → LinkedAt s s l false
    of link.Arguments k by = (let m = e link.Arguments k by in (refl, m.0, m.1), refl, (u, ahead, by))
    of link.Index k by = (let m = e link.Index k by in (refl, m.0, m.1), refl, (u, ahead, by))
    of link.Name k by = absurd (false≢true k)
    of link.Quasi k by = absurd (false≢true k)
