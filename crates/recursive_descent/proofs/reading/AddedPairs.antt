-- What was read one behind the other, and the pairs that were added.
use Rattle.std.proofs.Common.{◌≡◌, ℕ, ◌-◌, true, List, [], ◌∷◌, ◌++◌, refl, sym, ap, ◌∙◌, subst, append_assoc}
use Rattle.std.specs.Prelude.{codes}
use Rattle.std.proofs.lemmas.List.{append-nil}
use Rattle.std.proofs.lemmas.List.Elements.{filter-append}
use Rattle.tokens.specs.declared.token.TokenClass.TheVariants.{Punctuator}
use Rattle.token_cursor.specs.CursorState.{CursorState}
use Rattle.tree.specs.declared.kind.Pair.{Pair}
use Rattle.tree.specs.Tree.{Parts}
use Rattle.covers.specs.declared.list.ListKind.TheVariants as listed
use Rattle.covers.specs.declared.list.ListBuilder.{ListBuilder as ListOf}
use Rattle.language.specs.declared.Rank.TheVariants.{Expression}
use Rattle.language.specs.declared.Start.{Start}
use Rattle.language.specs.declared.Start.TheVariants.{Any}
use Rattle.covers.specs.Lists.{opening, closing}
use Rattle.language.specs.Covers.{as_expression, as_pattern}
use Rattle.language.specs.Pieces.{Role, Piece, PieceOf, settle_piece, sign, listed, argument}
use Rattle.language.specs.Token.{Token}
use Rattle.language.specs.Derivation.{done, step, opened, closed, within, missing, Step, token}
use Rattle.language.specs.Claims.{max_open}
use Rattle.recursive_descent.specs.Soundness.{RunsIn, anywhere, groups, grouping, Adds, ArgumentsAt}
use Rattle.recursive_descent.specs.SoundnessOfLists.{SoFarAt, ListAt, is_whole, whole_of, stood_in, item_pieces, ClosedBy}
use Rattle.recursive_descent.specs.Follows.{BegunAt}
use Rattle.parser_tables.specs.Items.{list_from}
use Rattle.token_cursor.specs.Seen.{ReadsHere}
use Rattle.token_cursor.specs.SourceText.{SourceText, SeenNext, behind_in}

-- the pairs of both
pub grouping_both : (xs ys : List Pair) → grouping (xs ++ ys) ≡ grouping xs ++ grouping ys
grouping_both xs ys = filter-append groups xs ys

-- Behind what added nothing to the pairs, and as many are open as before.
pub adds_behind : {s m e : CursorState} {old mid new : List Pair} {A B : ℕ → Token → Token → List Pair → Type 0} → m.opened ≡ s.opened → mid ≡ old → Adds m e mid new A → ((o : ℕ) (P : List Pair) → A o m.last e.last P → B o s.last e.last P) → Adds s e old new B
adds_behind {s} {m} {e} {A = A} {B = B} open_same same a f = record {
  more = a.more;
  same_open = a.same_open ∙ open_same;
  pairs = a.pairs ∙ ap (λ x. x ++ a.more) same;
  is = f (max_open - s.opened) (grouping a.more) (subst (λ x. A (max_open - x) m.last e.last (grouping a.more)) open_same a.is);
}

-- one behind the other
pub adds_both : {s m e : CursorState} {old mid new : List Pair} {A B C : ℕ → Token → Token → List Pair → Type 0} → Adds s m old mid A → Adds m e mid new B → ((o : ℕ) (P Q : List Pair) → A o s.last m.last P → B o m.last e.last Q → C o s.last e.last (P ++ Q)) → Adds s e old new C
adds_both {s} {m} {e} {old} {A = A} {B = B} {C = C} a b f = record {
  more = a.more ++ b.more;
  same_open = b.same_open ∙ a.same_open;
  pairs = b.pairs ∙ ap (λ x. x ++ b.more) a.pairs ∙ append_assoc old a.more b.more;
  is = subst (λ x. C (max_open - s.opened) s.last e.last x) (sym (grouping_both a.more b.more))
      (f (max_open - s.opened) (grouping a.more) (grouping b.more) a.is (subst (λ x. B (max_open - x) m.last e.last (grouping b.more)) a.same_open b.is));
}

-- what added nothing
pub adds_none : {s e : CursorState} {old new : List Pair} {C : ℕ → Token → Token → List Pair → Type 0} → e.opened ≡ s.opened → new ≡ old → ((o : ℕ) → C o s.last e.last []) → Adds s e old new C
adds_none {s} {old = old} open_same same f = record { more = []; same_open = open_same; pairs = same ∙ sym (append-nil old); is = f (max_open - s.opened) }

module _ (text : SourceText) where
  -- one more piece that is no node
  pub runs_on : {o : ℕ} {qs : List (PieceOf Role)} {q : PieceOf Role} {ps : Parts} {s m e : Token} {P : List Pair} → RunsIn text o qs ps s m P → Step Token (SeenNext text) (behind_in text) q m e → RunsIn text o (qs ++ q ∷ []) ps s e P
  runs_on done p = step p done
  runs_on (step q d) p = step q (runs_on d p)
  runs_on (opened q d) p = opened q (runs_on d p)
  runs_on (closed q d) p = closed q (runs_on d p)
  runs_on (within q d) p = within q (runs_on d p)
  runs_on (missing d) p = missing (runs_on d p)

pub map_both : (qs : List Piece) (q : Piece) → anywhere (qs ++ q ∷ []) ≡ anywhere qs ++ settle_piece Expression true Any q ∷ []
map_both [] q = refl
map_both (r ∷ qs) q = ap (λ x. settle_piece Expression true Any r ∷ x) (map_both qs q)

-- nothing of a list of arguments so far
nothing_so_far : (text : SourceText) (at : ℕ) (o : ℕ) (m : Token) → SoFarAt text Any (list_from listed.Arguments at) o m m []
nothing_so_far text at o m as_expression fits ps e Q d = d
nothing_so_far text at o m (as_pattern b) fits ps e Q d = cc

-- arguments, with their parentheses
arguments_from : (text : SourceText) (l : ListOf) (o : ℕ) (s m e : Token) (Q : List Pair) → l.listed ≡ listed.Arguments → ReadsHere text Punctuator (codes "(") s m → ListAt text Any l o m e ([] ++ Q) → ArgumentsAt text l.nodes o s e Q
arguments_from text l o s m e Q is left_sign w =
    let whole : is_whole l as_expression ≡ true = ap (λ x. whole_of x l as_expression) is in
    let items : RunsIn text o (anywhere (listed argument l.nodes)) l.nodes m w.mid Q = subst (λ x. RunsIn text o (stood_in Any x (item_pieces x as_expression l.nodes)) l.nodes m w.mid Q) is (w.runs as_expression whole) in
    let right_sign : ReadsHere text Punctuator (codes ")") w.mid e = subst (λ x. ClosedBy text (closing x) w.mid e) is w.closes in
    step (token left_sign) (subst (λ qs. RunsIn text o qs l.nodes m e Q) (sym (map_both (listed argument l.nodes) (sign ")"))) (runs_on text items (token right_sign)))

pub arguments_read : {s m e : CursorState} {old mid new : List Pair} (l0 l : ListOf) → m.text ≡ s.text → m.opened ≡ s.opened → mid ≡ old → l0.listed ≡ listed.Arguments → BegunAt s m l0 → l.listed ≡ l0.listed →
    Adds m e mid new (λ o a b Q. (f : Start) (z : Token) (P : List Pair) → SoFarAt m.text f l0 o z a P → ListAt m.text f l o z b (P ++ Q)) → Adds s e old new (ArgumentsAt s.text l.nodes)
arguments_read {s} {m} {e} l0 l text open_same same is begun kept a =
    let here = begun.1 (codes "(") (ap opening is) in
    let so_far : (o : ℕ) → SoFarAt m.text Any l0 o m.last m.last [] = λ o. subst (λ k. SoFarAt m.text Any k o m.last m.last []) (sym (here.1 ∙ ap (λ x. list_from x l0.span.start) is)) (nothing_so_far m.text l0.span.start o m.last) in
    adds_behind open_same same a (λ o Q d. arguments_from s.text l o s.last m.last e.last Q (kept ∙ is) here.0 (subst (λ x. ListAt x Any l o m.last e.last ([] ++ Q)) text (d Any m.last [] (so_far o))))
