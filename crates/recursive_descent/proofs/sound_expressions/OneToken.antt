-- What begins with one token: a name, a literal or `this`, and an arrow function with a name for its parameter (ECMA-262 12.1, 12.2, 14.2).
use Rattle.std.proofs.Common.{◌≡◌, ℕ, Bool, true, false, cond, List, [], ◌∷◌, refl, sym, ap, ◌∙◌, subst}
use Rattle.std.specs.Prelude.{IsTrue, Some, None, codes, not, ◌&&◌}
use Rattle.std.proofs.lemmas.Bool.{false≢true}
use Rattle.std.proofs.lemmas.Option.{none-some}
use Rattle.tokens.specs.Tokens.{LexicalToken}
use Rattle.tokens.specs.declared.token.TokenClass.{TokenClass}
use Rattle.tokens.specs.declared.token.TokenClass.TheVariants.{IdentifierName, Punctuator, NumericLiteral, StringLiteral, RegularExpressionLiteral}
use Rattle.token_cursor.specs.CursorState.{CursorState}
use Rattle.tree.specs.declared.kind.Kind.{Kind}
use Rattle.tree.specs.declared.kind.Kind.TheVariants.{Identifier, Literal, ThisExpression}
use Rattle.tree.specs.declared.kind.Pair.{Pair}
use Rattle.tree.specs.Tree.{Tree, node, plain, Parts, part, none, push}
use Rattle.covers.specs.Shapes.{is_element}
use Rattle.covers.specs.Shapes as shapes
use Rattle.covers.specs.declared.shape.TargetForm.TheVariants as assigned
use Rattle.language.specs.declared.Rank.{Rank}
use Rattle.language.specs.declared.Rank.TheVariants.{Assignment, LeftHandSide, Primary}
use Rattle.language.specs.declared.Start.{Start}
use Rattle.language.specs.declared.Start.TheVariants.{Any, NoBrace, Statement}
use Rattle.language.specs.declared.Edge.TheVariants.{Other}
use Rattle.language.specs.Vocabulary.{is, among, takes, is_identifier, is_reserved, is_name, is_string, literal_class}
use Rattle.language.specs.Covers.{as_pattern}
use Rattle.language.specs.Pieces.{Role, expr, name, directive_string, tok, put, at, fixed, Spelling}
use Rattle.language.specs.Token.{Token, as_read, table_text}
use Rattle.language.specs.ExpressionStart.{ExpressionStart, with_name, with_literal, with_this, with_bracket, with_brace, with_function, with_class, with_template, with_parenthesis, with_super, with_new, with_import, with_step, with_word, with_sign, no_start, expression_start, with_yield, with_private_name}
use Rattle.language.specs.Expressions.{arrow_end}
use Rattle.language.specs.Grammar.{starts, spellings}
use Rattle.language.specs.Derivation.{direct, step, token, done, within, placed, first}
use Rattle.language.proofs.table.NodeForms.{identifier, literal, this, short_arrow}
use Rattle.language.proofs.table.Begins.{among_by}
use Rattle.language.proofs.lower_bound.Domination.{settled}
use Rattle.language.proofs.climbing.Leaves.{name_found}
use Rattle.language.proofs.table.Productions.{spell, way_from, in_true, starts_led}
use Rattle.token_cursor.proofs.SeenTokens.{seen_determined}
use Rattle.parser_tables.specs.declared.operand.Operand.{Operand}
use Rattle.parser_tables.specs.declared.expression_context.ExpressionContext.{ExpressionContext}
use Rattle.parser_tables.specs.declared.expression_starts.ExpressionStart.TheVariants as code
use Rattle.parser_tables.specs.ExpressionStarts.{coded_start, coded_in}
use Rattle.recursive_descent.specs.Soundness.{RunsIn, Adds, Begins, SpelledAs, assigned_at, fits_as, PartAt, ReadAt, ArrowAt}
use Rattle.parser_tables.specs.Operands.{plain_part}
use Rattle.token_cursor.specs.Seen.{ReadsHere}
use Rattle.parser_tables.specs.Tokens.{single_node}
use Rattle.recursive_descent.proofs.reading.AddedPairs.{adds_behind, adds_none}
use Rattle.recursive_descent.proofs.reading.LiteralTokens.{is_literal_class, literal_read}
use Rattle.recursive_descent.proofs.sound_expressions.StartsByToken.{name_of, this_of, LiteralBy, a_word, a_token, literal_of}
use Rattle.recursive_descent.proofs.sound_expressions.ExpressionStarts.{loose_primary}
use Rattle.recursive_descent.proofs.sound_expressions.Parenthesized.{arrow_part, lean_arrow, end_same}
use Rattle.recursive_descent.proofs.sound_expressions.ExpressionParts.{placed_at, value_part}
use Rattle.token_cursor.specs.SourceText.{SourceText, SeenNext, behind_in}
use Rattle.recursive_descent.specs.Spelled.{SpellsIn}
use Rattle.recursive_descent.proofs.sound_expressions.ArrowFunctions.{flagged}
use Rattle.recursive_descent.proofs.sound_expressions.CodedStarts.{coded_plain}
use Rattle.recursive_descent.proofs.reading.SeenClasses.{as_here}
use Rattle.tree.specs.declared.kind.Form.TheVariants as form

starts_name : (f : Start) (w : List ℕ) → is_reserved w ≡ false → starts f (tok IdentifierName w ∷ []) ≡ true
unfolding is_reserved
starts_name Any w h = refl
starts_name NoBrace w h = refl
starts_name Statement w h = of (among w ("function" ∷ "class" ∷ [])) refl
  where
    of : (b : Bool) → among w ("function" ∷ "class" ∷ []) ≡ b → not b ≡ true
    of false e = refl
    of true e = absurd (false≢true (sym h ∙ among_by (λ v. is_reserved v ≡ true) w ("function" ∷ "class" ∷ []) e (refl, (refl, tt))))

starts_this : (f : Start) → starts f (tok IdentifierName (codes "this") ∷ []) ≡ true
starts_this Any = refl
starts_this NoBrace = refl
starts_this Statement = refl

-- a literal's token may stand at each start
starts_token : (f : Start) (c : TokenClass) (w : List ℕ) → is_literal_class c ≡ true → starts f (tok c w ∷ []) ≡ true
starts_token Any c w h = refl
starts_token NoBrace StringLiteral w h = refl
starts_token NoBrace NumericLiteral w h = refl
starts_token NoBrace RegularExpressionLiteral w h = refl
starts_token Statement StringLiteral w h = refl
starts_token Statement NumericLiteral w h = refl
starts_token Statement RegularExpressionLiteral w h = refl
starts_token NoBrace _ w h = absurd (false≢true h)
starts_token Statement _ w h = absurd (false≢true h)

starts_word : (f : Start) (w : List ℕ) → among w ("true" ∷ "false" ∷ "null" ∷ []) ≡ true → starts f (tok IdentifierName w ∷ []) ≡ true
starts_word Any w h = refl
starts_word NoBrace w h = refl
starts_word Statement w h = among_by (λ v. not (among v ("function" ∷ "class" ∷ [])) ≡ true) w ("true" ∷ "false" ∷ "null" ∷ []) h (refl, (refl, (refl, tt)))

literal_same : (c : TokenClass) (w : List ℕ) → is_literal_class c ≡ true → (table_text c w ≡ w) × (is_name c ≡ false)
literal_same StringLiteral w h = (refl, refl)
literal_same NumericLiteral w h = (refl, refl)
literal_same RegularExpressionLiteral w h = (refl, refl)
literal_same _ w h = absurd (false≢true h)

string_class : (c : TokenClass) → is_string c ≡ true → c ≡ StringLiteral
string_class StringLiteral h = refl
string_class _ h = absurd (false≢true h)

-- What a literal's token is: of the class that its text has, and no name but three.
record LiteralRead (f : Start) (c : TokenClass) (w v : List ℕ) : Type 0 where
  class : literal_class w ≡ c
  text : v ≡ w
  free : (is_name (literal_class w) && not (among w ("true" ∷ "false" ∷ "null" ∷ []))) ≡ false
  begins : starts f (tok (literal_class w) w ∷ []) ≡ true

word_literal : (f : Start) (c : TokenClass) (w : List ℕ) → c ≡ IdentifierName → among (table_text c w) ("true" ∷ "false" ∷ "null" ∷ []) ≡ true → LiteralRead f c w (table_text c w)
word_literal f c w h k =
    let same : table_text c w ≡ w = ap (λ x. table_text x w) h in
    let found : among w ("true" ∷ "false" ∷ "null" ∷ []) ≡ true = ap (λ x. among x ("true" ∷ "false" ∷ "null" ∷ [])) (sym same) ∙ k in
    let named : literal_class w ≡ IdentifierName = among_by (λ v. literal_class v ≡ IdentifierName) w ("true" ∷ "false" ∷ "null" ∷ []) found (refl, (refl, (refl, tt))) in
    record {
      class = named ∙ sym h;
      text = same;
      free = (λ i. is_name (named i) && not (found i));
      begins = ap (λ x. starts f (tok x w ∷ [])) named ∙ starts_word f w found;
    }

token_literal : (f : Start) (c : TokenClass) (w : List ℕ) → is_literal_class c ≡ true → literal_class (table_text c w) ≡ c → LiteralRead f c w (table_text c w)
token_literal f c w h k =
    let same = (literal_same c w h).0 in
    let class : literal_class w ≡ c = ap literal_class (sym same) ∙ k in
    record {
      class = class;
      text = same;
      free = ap (λ x. is_name x && not (among w ("true" ∷ "false" ∷ "null" ∷ []))) class ∙ ap (λ b. b && not (among w ("true" ∷ "false" ∷ "null" ∷ []))) (literal_same c w h).1;
      begins = ap (λ x. starts f (tok x w ∷ [])) class ∙ starts_token f c w h;
    }

module _ (text : SourceText) where
  -- a name
  name_at : {o : ℕ} {h : Rank} {j : Bool} {f : Start} {w : List ℕ} {s m : Token} → ReadsHere text IdentifierName w s m → is_reserved w ≡ false → IsTrue (takes h Primary) → SpellsIn text o (expr h j f) (node Identifier w plain m.start m.stop none) s m []
  name_at {f = f} {w} r free tk = spell Token (SeenNext text) (behind_in text) (at Primary (tok IdentifierName w ∷ [])) (identifier free) refl tk refl (starts_name f w free) (placed r.next refl) (step (token r) done)

  pub name_part : {i : Bool} {f : Start} {w : List ℕ} {o : ℕ} {s m : Token} → ReadsHere text IdentifierName w s m → is_reserved w ≡ false → PartAt text i f (plain_part (node Identifier w plain m.start m.stop none) Primary Other) o s m []
  name_part {i} {f} {w} {o} {s} {m} r free = record {
    begins = record { token = behind_in text m; place = m; next = r.next; start = refl };
    edge = refl;
    goes_on = refl;
    stands = λ v h j tk lo. name_at r free tk;
    assigned = as_name;
    bare = λ a h is. let same : name ≡ a = cc in subst (λ x. SpellsIn text o x (node Identifier w plain m.start m.stop none) s m []) same bound;
    newly = λ h. cc;
  }
    where
      bound : SpellsIn text o name (node Identifier w plain m.start m.stop none) s m []
      bound = (name_found Token (SeenNext text) (behind_in text) (seen_determined text) {o = o} r free).spelled

      as_name : (b : Bool) → fits_as shapes.name (as_pattern b) ≡ true → (assigned.Target ≡ assigned.Defaulted → (f ≡ Any) × (i ≡ true)) → SpelledAs (assigned_at assigned.Target f b) text o (node Identifier w plain m.start m.stop none) s m []
      as_name true h d = record { role = name; it_is = refl; spelled = bound }
      as_name false h d = record { role = expr LeftHandSide true f; it_is = refl; spelled = name_at r free refl }

  -- `this`
  this_part : {i : Bool} {f : Start} {o : ℕ} {s m : Token} → ReadsHere text IdentifierName (codes "this") s m → PartAt text i f (plain_part (node ThisExpression [] plain m.start m.stop none) Primary Other) o s m []
  this_part {f = f} {m = m} r = value_part text refl (record { token = behind_in text m; place = m; next = r.next; start = refl }) refl refl (λ h. cc)
      (λ h j tk lo. spell Token (SeenNext text) (behind_in text) (at Primary (tok IdentifierName (codes "this") ∷ [])) this refl tk refl (starts_this f) (placed r.next refl) (step (token r) done))

  -- a string, alone
  quoted_at : {o : ℕ} {w : List ℕ} {s m : Token} → ReadsHere text StringLiteral w s m → is_string (literal_class w) ≡ true → SpellsIn text o directive_string (node Literal w plain m.start m.stop none) s m []
  unfolding spellings
  quoted_at {o} {w} {s} {m} r h =
      let n : Tree = node Literal w plain m.start m.stop none in
      let x : Spelling = at Primary (tok StringLiteral w ∷ []) in
      direct (settled directive_string x) (way_from directive_string n x refl (in_true [] (is_string (literal_class w)) h first) refl) (placed r.next refl) (step (token r) done)

  -- a literal
  literal_part : {i : Bool} {f : Start} {c : TokenClass} {w v : List ℕ} {o : ℕ} {s m : Token} → LiteralRead f c w v → ReadsHere text c v s m → PartAt text i f (plain_part (node Literal w plain m.start m.stop none) Primary Other) o s m []
  literal_part {i} {f} {c} {w} {v} {o} {s} {m} l r = record {
    begins = record { token = behind_in text m; place = m; next = r.next; start = refl };
    edge = refl;
    goes_on = refl;
    stands = λ x h j tk lo. spell Token (SeenNext text) (behind_in text) (at Primary (tok (literal_class w) w ∷ [])) (literal l.free) refl tk refl l.begins (placed r.next refl) (step (token here) done);
    assigned = λ b fits d. absurd (no_pattern b fits);
    bare = λ a h is. as_quoted a (is_string (literal_class w)) refl is;
    newly = λ h. cc;
  }
    where
      here : ReadsHere text (literal_class w) w s m
      here = subst (λ x. ReadsHere text x w s m) (sym l.class) (subst (λ x. ReadsHere text c x s m) l.text r)

      no_pattern : (b : Bool) → fits_as shapes.value (as_pattern b) ≡ true → ⊥
      no_pattern true h = absurd (false≢true h)
      no_pattern false h = absurd (false≢true h)

      as_quoted : (a : Role) (b : Bool) → is_string (literal_class w) ≡ b → cond b (Some directive_string) None ≡ Some a → SpellsIn text o a (node Literal w plain m.start m.stop none) s m []
      as_quoted a true h is = let same : directive_string ≡ a = cc in subst (λ x. SpellsIn text o x (node Literal w plain m.start m.stop none) s m []) same (quoted_at (subst (λ x. ReadsHere text x w s m) (string_class (literal_class w) h) here) h)
      as_quoted a false h is = absurd (none-some _ is)

-- what is one token
data SingleBegun : ExpressionStart → Kind → Type 0 where
  a_name : SingleBegun with_name Identifier
  a_literal : SingleBegun with_literal Literal
  a_this : SingleBegun with_this ThisExpression

single_begun : (x : ExpressionStart) (k : Kind) → coded_start x ≡ Some (code.OneToken k) → SingleBegun x k
single_begun with_name k h = let e : Identifier ≡ k = cc in subst (SingleBegun with_name) e a_name
single_begun with_literal k h = let e : Literal ≡ k = cc in subst (SingleBegun with_literal) e a_literal
single_begun with_this k h = let e : ThisExpression ≡ k = cc in subst (SingleBegun with_this) e a_this
single_begun with_bracket k h = cc
single_begun with_brace k h = cc
single_begun with_template k h = cc
single_begun with_function k h = cc
single_begun with_class k h = cc
single_begun with_parenthesis k h = cc
single_begun with_super k h = cc
single_begun with_new k h = cc
single_begun with_import k h = cc
single_begun with_yield k h = cc
single_begun with_private_name k h = cc
single_begun with_step k h = cc
single_begun with_word k h = cc
single_begun with_sign k h = cc
single_begun no_start k h = cc

pub single_read : (s m : CursorState) {old mid : List Pair} (p : ExpressionContext) (t : LexicalToken) (k : Kind) → m.opened ≡ s.opened → mid ≡ old → SeenNext s.text s.last (as_read t) m.last → coded_in s.text.language (as_read t) ≡ Some (code.OneToken k) →
    Adds s m old mid (ReadAt s.text p (plain_part (single_node k t) Primary Other))
single_read s m {old} {mid} p t k open_same same next coded = adds_none open_same same (λ o. record { taken = loose_primary p.rank; part = of (single_begun (expression_start (as_read t)) k (coded_plain s.text.language (expression_start (as_read t)) (as_read t).text (code.OneToken k) coded refl)) refl })
  where
    here : ReadsHere s.text t.class (table_text t.class t.text) s.last m.last
    here = as_here s.text (record { next = next; class = refl; text = refl })

    shown : behind_in s.text m.last ≡ as_read t
    shown = (seen_determined s.text).last s.last (as_read t) m.last next

    of : {o : ℕ} {x : ExpressionStart} {k : Kind} → SingleBegun x k → expression_start (as_read t) ≡ x → PartAt s.text p.has_in p.start (plain_part (single_node k t) Primary Other) o s.last m.last []
    of {o} a_name opens =
        let by = name_of t.class (as_read t).text opens in
        let same_text : (as_read t).text ≡ t.text = ap (λ x. table_text x t.text) by.0 in
        subst (λ (x : Token). PartAt s.text p.has_in p.start (plain_part (node Identifier t.text plain x.start x.stop none) Primary Other) o s.last m.last []) shown
        (name_part s.text (subst (λ c. ReadsHere s.text c t.text s.last m.last) by.0 (subst (λ w. ReadsHere s.text t.class w s.last m.last) same_text here)) (ap is_reserved (sym same_text) ∙ by.1))
    of {o} a_this opens =
        let by = this_of t.class (as_read t).text opens in
        let this_text : (as_read t).text ≡ codes "this" = among_by (λ v. v ≡ codes "this") (as_read t).text ("this" ∷ []) by.1 (refl, tt) in
        subst (λ (x : Token). PartAt s.text p.has_in p.start (plain_part (node ThisExpression [] plain x.start x.stop none) Primary Other) o s.last m.last []) shown
        (this_part s.text (subst (λ c. ReadsHere s.text c (codes "this") s.last m.last) by.0 (subst (λ w. ReadsHere s.text t.class w s.last m.last) this_text here)))
    of {o} a_literal opens =
        subst (λ (x : Token). PartAt s.text p.has_in p.start (plain_part (node Literal t.text plain x.start x.stop none) Primary Other) o s.last m.last []) shown
        (literal_part s.text (which (literal_of t.class (as_read t).text opens)) here)
      where
        which : LiteralBy t.class (as_read t).text → LiteralRead p.start t.class t.text (table_text t.class t.text)
        which (a_word c w) = word_literal p.start t.class t.text c w
        which (a_token c) = token_literal p.start t.class t.text c (literal_read next c)

-- the kind of a name
pub name_kind : (k : Kind) → is_identifier k ≡ true → k ≡ Identifier
name_kind Identifier h = refl
name_kind _ h = absurd (false≢true h)

-- an arrow function whose parameter is a name
pub name_arrow : (s m e : CursorState) {old mid new : List Pair} (p : ExpressionContext) (t : LexicalToken) (k : Kind) (ps : Parts) (from : ℕ) (r : Operand) (x : Token) → m.text ≡ s.text → m.opened ≡ s.opened → mid ≡ old → SeenNext s.text s.last (as_read t) m.last → coded_in s.text.language (as_read t) ≡ Some (code.OneToken k) → k ≡ Identifier →
    ps ≡ part (single_node k t) none → from ≡ t.start → ReadsHere m.text Punctuator (codes "=>") m.last x → x.after_break ≡ false → takes p.rank Assignment ≡ true → Adds m e mid new (ArrowAt m.text form.Init p.has_in ps from r) → Adds s e old new (ReadAt s.text p r)
name_arrow s m e {old} {mid} {new} p t k ps from r x text open_same same next coded is_name_kind given begin sign line tk a =
    adds_behind open_same same a (λ o Q w.
    let v : ArrowAt s.text form.Init p.has_in parameters t.start r o m.last e.last Q = subst (λ y. ArrowAt s.text form.Init p.has_in parameters y r o m.last e.last Q) begin (subst (λ y. ArrowAt s.text form.Init p.has_in y from r o m.last e.last Q) (given ∙ ap (λ y. part (single_node y t) none) is_name_kind) (subst (λ y. ArrowAt y form.Init p.has_in ps from r o m.last e.last Q) text w)) in
    record { taken = λ h. subst (λ y. IsTrue (takes p.rank y)) (sym v.rank) tk; part = whole o Q v })
  where
    parameters : Parts
    parameters = part (single_node Identifier t) none

    opens : expression_start (as_read t) ≡ with_name
    opens = of (expression_start (as_read t)) (coded_plain s.text.language (expression_start (as_read t)) (as_read t).text (code.OneToken k) coded refl ∙ ap (λ y. Some (code.OneToken y)) is_name_kind)
      where
        of : (y : ExpressionStart) → coded_start y ≡ Some (code.OneToken Identifier) → y ≡ with_name
        of with_name h = refl
        of with_literal h = cc
        of with_this h = cc
        of with_bracket h = cc
        of with_brace h = cc
        of with_template h = cc
        of with_function h = cc
        of with_class h = cc
        of with_parenthesis h = cc
        of with_super h = cc
        of with_new h = cc
        of with_import h = cc
        of with_yield h = cc
        of with_private_name h = cc
        of with_step h = cc
        of with_word h = cc
        of with_sign h = cc
        of no_start h = cc

    begins : Begins s.text t.start s.last
    begins = record { token = as_read t; place = m.last; next = next; start = refl }

    on_line : (u y : Token) → SeenNext s.text m.last u y → u.after_break ≡ false
    on_line u y n = let here_sign : ReadsHere s.text Punctuator (codes "=>") m.last x = subst (λ z. ReadsHere z Punctuator (codes "=>") m.last x) text sign in
        (seen_determined s.text).break m.last u (behind_in s.text x) y x n here_sign.next ∙ line

    bound : (o : ℕ) → SpellsIn s.text o name (single_node Identifier t) s.last m.last []
    bound o =
        let by = name_of t.class (as_read t).text opens in
        let same_text : (as_read t).text ≡ t.text = ap (λ y. table_text y t.text) by.0 in
        let here : ReadsHere s.text IdentifierName t.text s.last m.last = as_here s.text (record { next = next; class = by.0; text = same_text }) in
        subst (λ (y : Token). SpellsIn s.text o name (node Identifier t.text plain y.start y.stop none) s.last m.last []) ((seen_determined s.text).last s.last (as_read t) m.last next) (name_found Token (SeenNext s.text) (behind_in s.text) (seen_determined s.text) {o = o} here (ap is_reserved (sym same_text) ∙ by.1)).spelled

    whole : (o : ℕ) (Q : List Pair) → ArrowAt s.text form.Init p.has_in parameters t.start r o m.last e.last Q → PartAt s.text p.has_in p.start r o s.last e.last Q
    whole o Q v = arrow_part s.text v begins (λ n u b h j tree tk same runs.
        subst (λ y. SpellsIn s.text o (expr h j p.start) y s.last e.last Q) (sym tree)
        (spell Token (SeenNext s.text) (behind_in s.text) (at Assignment (put name ∷ arrow_end (flagged form.Init b))) (short_arrow refl) (lean_arrow s.text form.Init b t.start e.last.stop (push parameters u)) tk refl (starts_led p.start (fixed name) (arrow_end (flagged form.Init b))) (placed_at s.text begins)
        (within (bound o) (subst (λ qs. RunsIn s.text o qs (part u none) m.last e.last Q) (end_same s.text h j p.start form.Init b) runs)))) on_line
