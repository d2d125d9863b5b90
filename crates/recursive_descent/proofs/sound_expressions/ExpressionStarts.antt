-- What an expression begins with (ECMA-262 12.2 to 12.5, 14.2).
use Rattle.std.proofs.Common.{◌≡◌, ℕ, true, List, [], ◌++◌, refl, sym, ap, ◌∙◌, subst, arith}
use Rattle.std.proofs.lemmas.Bool.Decides.{nat_tests}
use Rattle.std.specs.Prelude.{IsTrue, Some, codes}
use Rattle.std.proofs.lemmas.Bool.{false≢true}
use Rattle.tokens.specs.Tokens.{LexicalToken}
use Rattle.tokens.specs.declared.token.TokenClass.TheVariants.{Template}
use Rattle.tokens.specs.declared.token.Goal.TheVariants.{Div, RegExp}
use Rattle.tokens.specs.Goals.{allows}
use Rattle.token_cursor.specs.CursorState.{CursorState, IsAhead}
use Rattle.tree.specs.declared.kind.Pair.{Pair}
use Rattle.covers.specs.declared.list.ListKind.{ListKind}
use Rattle.covers.specs.declared.list.ListKind.TheVariants as listed
use Rattle.covers.specs.declared.list.ListBuilder.{ListBuilder as ListOf}
use Rattle.covers.specs.Lists.{opening}
use Rattle.language.specs.declared.Rank.{Rank}
use Rattle.language.specs.declared.Rank.TheVariants.{Primary}
use Rattle.language.specs.declared.Start.{Start}
use Rattle.language.specs.declared.Start.TheVariants as start
use Rattle.language.specs.Vocabulary.{takes, takes_number, precedence}
use Rattle.language.specs.Covers.{as_expression, as_pattern}
use Rattle.language.specs.Token.{Token, as_read, same_class}
use Rattle.language.specs.ExpressionStart.{ExpressionStart, with_name, with_literal, with_this, with_bracket, with_brace, with_function, with_class, with_template, with_parenthesis, with_super, with_new, with_import, with_step, with_word, with_sign, no_start, expression_start, with_yield, with_private_name}
use Rattle.language.specs.Promises.{ReadBy}
use Rattle.parser_tables.specs.declared.expression_context.ExpressionContext.{ExpressionContext}
use Rattle.parser_tables.specs.declared.expression_starts.ExpressionStart.TheVariants as code
use Rattle.parser_tables.specs.ExpressionStarts.{coded_start, stands_at, takes_brace, opens_at, coded_in}
use Rattle.recursive_descent.specs.Soundness.{Adds, Begins, PartAt, ReadAt, takes_new}
use Rattle.recursive_descent.specs.SoundnessOfLists.{ListAt, SoFarAt, SeenRight}
use Rattle.recursive_descent.specs.Follows.{BegunAt, TemplateAt}
use Rattle.parser_tables.specs.Items.{list_from, listed_part}
use Rattle.recursive_descent.proofs.sound_expressions.BracketedLists.{array_part, object_read, template_part, begun_so_far}
use Rattle.recursive_descent.proofs.reading.AddedPairs.{adds_behind}
use Rattle.recursive_descent.proofs.reading.Forward.{place_mark, place_token}
use Rattle.recursive_descent.proofs.sound_expressions.StartsByToken.{template_of}
use Rattle.token_cursor.proofs.TokensAhead.{ahead_read, place_seen}
use Rattle.token_cursor.specs.SourceText.{SourceText, SeenNext, behind_in, unseen}
use Rattle.recursive_descent.proofs.sound_expressions.CodedStarts.{coded_plain}
use Rattle.parser_tables.specs.Tests.{is_template}

-- what begins as a list
data ListBegun : ExpressionStart → ListKind → Type 0 where
  an_array : ListBegun with_bracket listed.Elements
  an_object : ListBegun with_brace listed.Properties
  a_template : ListBegun with_template listed.Template

list_begun : (x : ExpressionStart) (what : ListKind) → coded_start x ≡ Some (code.List what) → ListBegun x what
list_begun with_bracket what h = let e : listed.Elements ≡ what = cc in subst (ListBegun with_bracket) e an_array
list_begun with_brace what h = let e : listed.Properties ≡ what = cc in subst (ListBegun with_brace) e an_object
list_begun with_template what h = let e : listed.Template ≡ what = cc in subst (ListBegun with_template) e a_template
list_begun with_name what h = cc
list_begun with_literal what h = cc
list_begun with_this what h = cc
list_begun with_function what h = cc
list_begun with_class what h = cc
list_begun with_parenthesis what h = cc
list_begun with_super what h = cc
list_begun with_new what h = cc
list_begun with_import what h = cc
list_begun with_yield what h = cc
list_begun with_private_name what h = cc
list_begun with_step what h = cc
list_begun with_word what h = cc
list_begun with_sign what h = cc
list_begun no_start what h = cc

new_primary : (h : ℕ) → IsTrue (takes_number h 19) → IsTrue (takes_number h 22)
new_primary h t = grind (arith, nat_tests)

-- what takes a `new` without arguments takes all that stands at Primary
pub loose_primary : (y : Rank) → takes_new y ≡ true → IsTrue (takes y Primary)
loose_primary y h = new_primary (precedence y) h

elements_so_far : (text : SourceText) (from o : ℕ) (m : Token) → SoFarAt text start.Any (list_from listed.Elements from) o m m []
elements_so_far text from o m as_expression fits = λ ps e Q d. d
elements_so_far text from o m (as_pattern b) fits = λ ps e Q d. d

properties_so_far : (text : SourceText) (from o : ℕ) (m : Token) → SoFarAt text start.Any (list_from listed.Properties from) o m m []
properties_so_far text from o m as_expression fits = λ ps e Q d. d
properties_so_far text from o m (as_pattern b) fits = λ ps e Q d. d

elements_seen : (from : ℕ) → SeenRight (list_from listed.Elements from)
elements_seen from = record { together = refl; target = λ n is h v t. cc; one_default = refl }

properties_seen : (from : ℕ) → SeenRight (list_from listed.Properties from)
properties_seen from = record { together = refl; target = λ n is h v t. cc; one_default = refl }

any_start : (f : Start) → takes_brace f ≡ true → start.Any ≡ f
any_start start.Any h = refl
any_start start.NoBrace h = absurd (false≢true h)
any_start start.Statement h = absurd (false≢true h)

pub list_read : (s m e : CursorState) {old mid new : List Pair} (l0 l : ListOf) (p : ExpressionContext) (u : LexicalToken) (what : ListKind) → m.text ≡ s.text → m.opened ≡ s.opened → mid ≡ old → IsAhead RegExp s.text s.last.stop u → coded_in s.text.language (as_read u) ≡ Some (code.List what) → opens_at p (as_read u) ≡ true → l0.listed ≡ what → BegunAt s m l0 → TemplateAt s m l0 →
    Adds m e mid new (λ o a b Q. (f : Start) (z : Token) (P : List Pair) → SoFarAt m.text f l0 o z a P → ListAt m.text f l o z b (P ++ Q)) → (l.listed ≡ l0.listed) × (l.span.start ≡ l0.span.start) → (SeenRight l0 → SeenRight l) → Adds s e old new (ReadAt s.text p (listed_part l))
list_read s m e {old} {mid} {new} l0 l p u what text open_same same ahead coded stands is begun template a kept seen = of (list_begun (expression_start (as_read u)) what (coded_plain s.text.language (expression_start (as_read u)) (as_read u).text (code.List what) coded refl)) refl is
  where
    as_listed : (what : ListKind) → l0.listed ≡ what → l ≡ record l { listed = what }
    as_listed what is = λ i. record l { listed = (kept.0 ∙ is) i }

    of : {x : ExpressionStart} {what : ListKind} → ListBegun x what → expression_start (as_read u) ≡ x → l0.listed ≡ what → Adds s e old new (ReadAt s.text p (listed_part l))
    of an_array opens is =
        let here = begun.1 (codes "[") (ap opening is) in
        let empty : l0 ≡ list_from listed.Elements l0.span.start = here.1 ∙ ap (λ x. list_from x l0.span.start) is in
        let whole : l ≡ record l { listed = listed.Elements } = as_listed listed.Elements is in
        let right = (seen (subst SeenRight (sym empty) (elements_seen l0.span.start))).together in
        adds_behind open_same same a (λ o Q d.
        let w : ListAt m.text start.Any l o m.last e.last Q = d start.Any m.last [] (subst (λ k. SoFarAt m.text start.Any k o m.last m.last []) (sym empty) (elements_so_far m.text l0.span.start o m.last)) in
        let w' : ListAt s.text start.Any (record l { listed = listed.Elements }) o m.last e.last Q = subst (λ k. ListAt s.text start.Any k o m.last e.last Q) whole (subst (λ x. ListAt x start.Any l o m.last e.last Q) text w) in
        record {
          taken = loose_primary p.rank;
          part = subst (λ k. PartAt s.text p.has_in p.start (listed_part k) o s.last e.last Q) (sym whole) (array_part s.text l right (kept.1 ∙ place_mark s begun.0 here.0) w.ends here.0 w');
        })
    of an_object opens is =
        let here = begun.1 (codes "{") (ap opening is) in
        let empty : l0 ≡ list_from listed.Properties l0.span.start = here.1 ∙ ap (λ x. list_from x l0.span.start) is in
        let whole : l ≡ record l { listed = listed.Properties } = as_listed listed.Properties is in
        let right = (seen (subst SeenRight (sym empty) (properties_seen l0.span.start))).together in
        let any = any_start p.start (ap (stands_at p.rank p.has_in p.start) (sym opens) ∙ stands) in
        adds_behind open_same same a (λ o Q d.
        let w : ListAt m.text start.Any l o m.last e.last Q = d start.Any m.last [] (subst (λ k. SoFarAt m.text start.Any k o m.last m.last []) (sym empty) (properties_so_far m.text l0.span.start o m.last)) in
        let w' : ListAt s.text start.Any (record l { listed = listed.Properties }) o m.last e.last Q = subst (λ k. ListAt s.text start.Any k o m.last e.last Q) whole (subst (λ x. ListAt x start.Any l o m.last e.last Q) text w) in
        record {
          taken = loose_primary p.rank;
          part = subst (λ f. PartAt s.text p.has_in f (listed_part l) o s.last e.last Q) any (subst (λ k. PartAt s.text p.has_in start.Any (listed_part k) o s.last e.last Q) (sym whole) (object_read s.text l right (kept.1 ∙ place_mark s begun.0 here.0) w.ends here.0 w'));
        })
    of a_template opens is =
        let begins = template_of u.class (as_read u).text opens in
        let read : ReadBy Token (SeenNext s.text) (behind_in s.text) Div s.last (as_read u) (unseen (as_read u)) = record { next = (ahead_read s.text RegExp s.last u ahead).next; allowed = subst (λ c. IsTrue (allows Div c (as_read u).text)) (sym begins.0) begins.1 } in
        let first = template is (unseen (as_read u), subst (λ t. ReadBy Token (SeenNext s.text) (behind_in s.text) Div s.last t (unseen (as_read u)) × (is_template t ≡ true)) (sym (place_seen s.text ahead)) (read, ap (same_class Template) begins.0)) in
        let whole : l ≡ record l { listed = listed.Template } = as_listed listed.Template is in
        let at_start : l.span.start ≡ u.start = kept.1 ∙ place_token s begun.0 read in
        let here : Begins s.text l.span.start s.last = record { token = as_read u; place = unseen (as_read u); next = read.next; start = sym at_start } in
        adds_behind open_same same a (λ o Q d.
        let w : ListAt m.text start.Any l o s.last e.last Q = d start.Any s.last [] (subst (λ x. SoFarAt x start.Any l0 o s.last m.last []) (sym text) (begun_so_far s m l0 start.Any o first)) in
        let w' : ListAt s.text start.Any (record l { listed = listed.Template }) o s.last e.last Q = subst (λ k. ListAt s.text start.Any k o s.last e.last Q) whole (subst (λ x. ListAt x start.Any l o s.last e.last Q) text w) in
        record {
          taken = loose_primary p.rank;
          part = subst (λ k. PartAt s.text p.has_in p.start (listed_part k) o s.last e.last Q) (sym whole) (template_part s.text l here w.ends w');
        })
