-- Operators before their operand (ECMA-262 12.4, 12.5).
use Rattle.std.proofs.Common.{◌≡◌, ℕ, ◌≤◌, Bool, true, false, cond, List, [], ◌∷◌, ◌++◌, refl, sym, ap, ◌∙◌, subst, codes}
use Rattle.std.specs.Prelude.{IsTrue, Some, None, not, ◌||◌}
use Rattle.std.proofs.lemmas.Slice.Eq.{bytes_eq-Decides}
use Rattle.std.proofs.lemmas.Bool.{false≢true}
use Rattle.std.proofs.lemmas.Option.{none-some}
use Rattle.tokens.specs.Tokens.{LexicalToken}
use Rattle.tokens.specs.declared.token.TokenClass.{TokenClass}
use Rattle.tokens.specs.declared.token.TokenClass.TheVariants.{IdentifierName, Punctuator, Keyword}
use Rattle.token_cursor.specs.CursorState.{CursorState}
use Rattle.tree.specs.declared.kind.Kind.TheVariants.{UnaryExpression, UpdateExpression, AwaitExpression}
use Rattle.tree.specs.declared.kind.Pair.{Pair}
use Rattle.tree.specs.Tree.{Tree, node, plain, Parts, part, none, kind_of, height}
use Rattle.covers.specs.declared.shape.TargetForm.{TargetForm}
use Rattle.covers.specs.declared.shape.TargetForm.TheVariants as assigned
use Rattle.tree.specs.Patterns.{pattern_tree}
use Rattle.covers.specs.Shapes.{is_target, is_element, value}
use Rattle.language.specs.declared.Rank.{Rank}
use Rattle.language.specs.declared.Rank.TheVariants.{Unary, Update, LeftHandSide}
use Rattle.language.specs.declared.Start.{Start}
use Rattle.language.specs.declared.Start.TheVariants.{Any, NoBrace, Statement}
use Rattle.language.specs.Vocabulary as words
use Rattle.language.specs.Vocabulary.{is, among, takes, is_prefix, is_word_operator, operator_of, op_update, is_keyword}
use Rattle.language.specs.Pieces.{Role, expr, Piece, at, apart, tok, lay, put, sp}
use Rattle.language.specs.Token.{Token, as_read, table_text}
use Rattle.language.specs.ExpressionStart.{ExpressionStart, with_name, with_literal, with_this, with_bracket, with_brace, with_function, with_class, with_template, with_parenthesis, with_super, with_new, with_import, with_step, with_word, with_sign, no_start, expression_start, with_yield, with_private_name}
use Rattle.language.specs.Grammar.{starts}
use Rattle.language.specs.Derivation.{step, token, laid, Placed}
use Rattle.language.proofs.table.NodeForms.{prefix, unary_word, unary_sign, await}
use Rattle.language.proofs.table.Begins.{AllLaid, no_piece, one_laid, among_by}
use Rattle.language.proofs.climbing.OperatorNodes.{kind_bare, last_runs, lay_runs}
use Rattle.language.proofs.table.TokenFirstWays.{unary_space}
use Rattle.language.proofs.table.Productions.{spell}
use Rattle.parser_tables.specs.declared.operand.Operand.{Operand}
use Rattle.parser_tables.specs.declared.expression_context.ExpressionContext.{ExpressionContext}
use Rattle.parser_tables.specs.declared.expression_starts.ExpressionStart.TheVariants as code
use Rattle.parser_tables.specs.ExpressionStarts.{coded_start, stands_at, opens_at, coded_in}
use Rattle.recursive_descent.specs.Soundness.{Adds, Begins, SpelledAs, assigned_at, target_at, PartAt, ReadAt, bare_role}
use Rattle.token_cursor.specs.Seen.{ReadsHere}
use Rattle.recursive_descent.specs.LeftOperands.{before, is_prefix_update, takes_operand, prefixed_node, prefixed_part}
use Rattle.recursive_descent.proofs.reading.AddedPairs.{adds_behind}
use Rattle.recursive_descent.proofs.sound_expressions.StartsByToken.{word_of, sign_of, step_of, WordBy, a_name, a_keyword_of}
use Rattle.recursive_descent.proofs.sound_expressions.ExpressionParts.{placed_at, value_part}
use Rattle.token_cursor.specs.SourceText.{SourceText, SeenNext, behind_in}
use Rattle.recursive_descent.specs.Spelled.{SpellsIn}
use Rattle.recursive_descent.proofs.sound_expressions.CodedStarts.{coded_plain}
use Rattle.recursive_descent.proofs.reading.SeenClasses.{as_here}
use Rattle.language.specs.Edges.{edge, edge_as_written}
use Rattle.parser_tables.specs.Operands.{plain_part, part_from}

unary_laid : (w : List ℕ) → AllLaid (unary_space w)
unary_laid w = of (is w "+") (is w "-")
  where
    of : (b c : Bool) → AllLaid (cond b (lay (apart 43) ∷ []) (cond c (lay (apart 45) ∷ []) []))
    of true c = one_laid
    of false true = one_laid
    of false false = no_piece

starts_word : (f : Start) (w : List ℕ) (qs : List Piece) → among w ("delete" ∷ "void" ∷ "typeof" ∷ []) ≡ true → starts f (tok IdentifierName w ∷ sp ∷ qs) ≡ true
starts_word Any w qs h = refl
starts_word NoBrace w qs h = refl
starts_word Statement w qs h = among_by (λ v. not (among v ("function" ∷ "class" ∷ [])) ≡ true) w ("delete" ∷ "void" ∷ "typeof" ∷ []) h (refl, (refl, (refl, tt)))

starts_mark : (f : Start) (w : List ℕ) (qs : List Piece) → not (is w "{") ≡ true → starts f (tok Punctuator w ∷ qs) ≡ true
starts_mark Any w qs h = refl
starts_mark NoBrace w qs h = h
starts_mark Statement w qs h = h

starts_keyword : (f : Start) → starts f (tok Keyword (codes "await") ∷ sp ∷ put (expr Unary true Any) ∷ []) ≡ true
starts_keyword Any = refl
starts_keyword NoBrace = refl
starts_keyword Statement = refl

-- a target, from its shape
target_kind : (b : Bool) {a : Role} → cond b (Some (expr LeftHandSide true Any)) None ≡ Some a → (b ≡ true) × (a ≡ expr LeftHandSide true Any)
target_kind true k = (refl, cc)
target_kind false k = absurd (none-some _ k)

target_is : (a : TargetForm) → is_target a ≡ true → a ≡ assigned.Target
target_is assigned.Target k = refl
target_is assigned.Nothing k = absurd (false≢true k)
target_is assigned.Pattern k = absurd (false≢true k)
target_is assigned.Defaulted k = absurd (false≢true k)

target_spelled : {text : SourceText} {i : Bool} {q : Operand} {o : ℕ} {s e : Token} {P : List Pair} → PartAt text i Any q o s e P → is_target q.cover.shape.assigned ≡ true →
    (words.is_target (kind_of (pattern_tree q.cover.node)) ≡ true) × SpellsIn text o (expr LeftHandSide true Any) (pattern_tree q.cover.node) s e P
target_spelled {text} {q = q} {o} {s} {e} {P} d h =
    let same = target_is q.cover.shape.assigned h in
    let v : SpelledAs (target_at Any false) text o (pattern_tree q.cover.node) s e P = subst (λ a. SpelledAs (assigned_at a Any false) text o (pattern_tree q.cover.node) s e P) same (d.assigned false (ap is_element same) (λ x. no_default (sym same ∙ x))) in
    let k = target_kind (words.is_target (kind_of (pattern_tree q.cover.node))) v.it_is in
    (k.0, subst (λ a. SpellsIn text o a (pattern_tree q.cover.node) s e P) k.1 v.spelled)
  where
    no_default : {A : Type 0} → assigned.Target ≡ assigned.Defaulted → A
    no_default x = cc

module _ (text : SourceText) where
  -- a unary operator
  unary_at : {o : ℕ} {h : Rank} {j : Bool} {f : Start} {w : List ℕ} {u : Tree} {st : ℕ} {s m e : Token} {P : List Pair} (c : TokenClass) → (c ≡ IdentifierName) × (among w ("delete" ∷ "void" ∷ "typeof" ∷ []) ≡ true) → ReadsHere text c w s m → IsTrue (takes h Unary) → SpellsIn text o (expr Unary true Any) u m e P →
      Placed Token (SeenNext text) (behind_in text) (expr h j f) (node UnaryExpression w plain st e.stop (part u none)) s e → SpellsIn text o (expr h j f) (node UnaryExpression w plain st e.stop (part u none)) s e P
  unary_at {o} {h} {j} {f} {w} {u} {s = s} {m} c by r tk d pl =
      let r' : ReadsHere text IdentifierName w s m = subst (λ x. ReadsHere text x w s m) by.0 r in
      let prefix_is : is_prefix w ≡ true = among_by (λ v. is_prefix v ≡ true) w ("delete" ∷ "void" ∷ "typeof" ∷ []) by.1 (refl, (refl, (refl, tt))) in
      let word_is : is_word_operator w ≡ true = among_by (λ v. is_word_operator v ≡ true) w ("delete" ∷ "void" ∷ "typeof" ∷ []) by.1 (refl, (refl, (refl, tt))) in
      spell Token (SeenNext text) (behind_in text) (at Unary (tok IdentifierName w ∷ sp ∷ put (expr Unary true Any) ∷ [])) (unary_word prefix_is word_is) refl tk refl (starts_word f w (put (expr Unary true Any) ∷ []) by.1) pl
      (step (token r') (step laid (last_runs Token (SeenNext text) (behind_in text) d)))

  -- `await`
  await_at : {o : ℕ} {h : Rank} {j : Bool} {f : Start} {u : Tree} {st : ℕ} {s m e : Token} {P : List Pair} → ReadsHere text Keyword (codes "await") s m → IsTrue (takes h Unary) → SpellsIn text o (expr Unary true Any) u m e P →
      Placed Token (SeenNext text) (behind_in text) (expr h j f) (node AwaitExpression [] plain st e.stop (part u none)) s e → SpellsIn text o (expr h j f) (node AwaitExpression [] plain st e.stop (part u none)) s e P
  await_at {f = f} r tk d pl =
      spell Token (SeenNext text) (behind_in text) (at Unary (tok Keyword (codes "await") ∷ sp ∷ put (expr Unary true Any) ∷ [])) await refl tk refl (starts_keyword f) pl (step (token r) (step laid (last_runs Token (SeenNext text) (behind_in text) d)))

  sign_at : {o : ℕ} {h : Rank} {j : Bool} {f : Start} {w : List ℕ} {u : Tree} {st : ℕ} {s m e : Token} {P : List Pair} (c : TokenClass) → (c ≡ Punctuator) × (among w ("+" ∷ "-" ∷ "~" ∷ "!" ∷ []) ≡ true) → ReadsHere text c w s m → IsTrue (takes h Unary) → SpellsIn text o (expr Unary true Any) u m e P →
      Placed Token (SeenNext text) (behind_in text) (expr h j f) (node UnaryExpression w plain st e.stop (part u none)) s e → SpellsIn text o (expr h j f) (node UnaryExpression w plain st e.stop (part u none)) s e P
  sign_at {o} {h} {j} {f} {w} {u} {s = s} {m} c by r tk d pl =
      let r' : ReadsHere text Punctuator w s m = subst (λ x. ReadsHere text x w s m) by.0 r in
      let prefix_is : is_prefix w ≡ true = among_by (λ v. is_prefix v ≡ true) w ("+" ∷ "-" ∷ "~" ∷ "!" ∷ []) by.1 (refl, (refl, (refl, (refl, tt)))) in
      let word_is : is_word_operator w ≡ false = among_by (λ v. is_word_operator v ≡ false) w ("+" ∷ "-" ∷ "~" ∷ "!" ∷ []) by.1 (refl, (refl, (refl, (refl, tt)))) in
      let no_brace : not (is w "{") ≡ true = among_by (λ v. not (is v "{") ≡ true) w ("+" ∷ "-" ∷ "~" ∷ "!" ∷ []) by.1 (refl, (refl, (refl, (refl, tt)))) in
      spell Token (SeenNext text) (behind_in text) (at Unary (tok Punctuator w ∷ unary_space w ++ put (expr Unary true Any) ∷ [])) (unary_sign prefix_is word_is) refl tk refl (starts_mark f w (unary_space w ++ put (expr Unary true Any) ∷ []) no_brace) pl
      (step (token r') (lay_runs Token (SeenNext text) (behind_in text) h j f (put (expr Unary true Any) ∷ []) (unary_laid w) (last_runs Token (SeenNext text) (behind_in text) d)))

  -- `++` or `--`
  step_at : {o : ℕ} {h : Rank} {j : Bool} {f : Start} {w : List ℕ} {u : Tree} {st : ℕ} {s m e : Token} {P : List Pair} (c : TokenClass) → (c ≡ Punctuator) × (among w ("++" ∷ "--" ∷ []) ≡ true) → ReadsHere text c w s m → IsTrue (takes h Update) → words.is_target (kind_of u) ≡ true → SpellsIn text o (expr LeftHandSide true Any) u m e P →
      Placed Token (SeenNext text) (behind_in text) (expr h j f) (node UpdateExpression w before st e.stop (part u none)) s e → SpellsIn text o (expr h j f) (node UpdateExpression w before st e.stop (part u none)) s e P
  step_at {o} {h} {j} {f} {w} {u} {s = s} {m} c by r tk target d pl =
      let r' : ReadsHere text Punctuator w s m = subst (λ x. ReadsHere text x w s m) by.0 r in
      let steps_it : operator_of w ≡ op_update = among_by (λ v. operator_of v ≡ op_update) w ("++" ∷ "--" ∷ []) by.1 (refl, (refl, tt)) in
      let no_brace : not (is w "{") ≡ true = among_by (λ v. not (is v "{") ≡ true) w ("++" ∷ "--" ∷ []) by.1 (refl, (refl, tt)) in
      let qs : List Piece = lay (apart (cond (is w "++") 43 45)) ∷ put (expr LeftHandSide true Any) ∷ [] in
      spell Token (SeenNext text) (behind_in text) (at Update (tok Punctuator w ∷ lay (apart (cond (is w "++") 43 45)) ∷ put (expr LeftHandSide true Any) ∷ [])) (prefix steps_it (ap words.is_target (kind_bare u) ∙ target) refl) refl tk refl (starts_mark f w qs no_brace) pl
      (step (token r') (step laid (last_runs Token (SeenNext text) (behind_in text) d)))

-- what such an operator begins with
pub data PrefixBegun : ExpressionStart → Rank → Rank → Type 0 where
  a_step : PrefixBegun with_step Update LeftHandSide
  a_word : PrefixBegun with_word Unary Unary
  a_sign : PrefixBegun with_sign Unary Unary

pub prefix_begun : (x : ExpressionStart) (own side : Rank) → coded_start x ≡ Some (code.Prefix own side) → PrefixBegun x own side
prefix_begun with_step own side h = let a : Update ≡ own = cc in let b : LeftHandSide ≡ side = cc in subst (λ x. PrefixBegun with_step x side) a (subst (PrefixBegun with_step Update) b a_step)
prefix_begun with_word own side h = let a : Unary ≡ own = cc in let b : Unary ≡ side = cc in subst (λ x. PrefixBegun with_word x side) a (subst (PrefixBegun with_word Unary) b a_word)
prefix_begun with_sign own side h = let a : Unary ≡ own = cc in let b : Unary ≡ side = cc in subst (λ x. PrefixBegun with_sign x side) a (subst (PrefixBegun with_sign Unary) b a_sign)
prefix_begun with_bracket own side h = cc
prefix_begun with_brace own side h = cc
prefix_begun with_template own side h = cc
prefix_begun with_name own side h = cc
prefix_begun with_literal own side h = cc
prefix_begun with_this own side h = cc
prefix_begun with_function own side h = cc
prefix_begun with_class own side h = cc
prefix_begun with_parenthesis own side h = cc
prefix_begun with_super own side h = cc
prefix_begun with_new own side h = cc
prefix_begun with_import own side h = cc
prefix_begun with_yield own side h = cc
prefix_begun with_private_name own side h = cc
prefix_begun no_start own side h = cc

-- the words of operators that are names are no keywords
plain_words : (w : List ℕ) → among w ("delete" ∷ "void" ∷ "typeof" ∷ []) ≡ true → is_keyword w ≡ false
unfolding is_keyword
plain_words w h = among_by (λ v. is_keyword v ≡ false) w ("delete" ∷ "void" ∷ "typeof" ∷ []) h (refl, (refl, (refl, tt)))

plain_signs : (w : List ℕ) → among w ("+" ∷ "-" ∷ "~" ∷ "!" ∷ []) ≡ true → is_keyword w ≡ false
unfolding is_keyword
plain_signs w h = among_by (λ v. is_keyword v ≡ false) w ("+" ∷ "-" ∷ "~" ∷ "!" ∷ []) h (refl, (refl, (refl, (refl, tt))))

await_alone : (w : List ℕ) → is_keyword w ≡ true → w ≡ codes "await"
unfolding is_keyword
await_alone w h = among_by (λ v. v ≡ codes "await") w ("await" ∷ []) h (refl, tt)

sign_text : (t : LexicalToken) → t.class ≡ Punctuator → (as_read t).text ≡ t.text
sign_text t h = ap (λ x. table_text x t.text) h

name_text : (t : LexicalToken) → t.class ≡ IdentifierName → (as_read t).text ≡ t.text
name_text t h = ap (λ x. table_text x t.text) h

pub prefix_read : (s m e : CursorState) {old mid new : List Pair} (p q : ExpressionContext) (r : Operand) (t : LexicalToken) (own side : Rank) → m.text ≡ s.text → m.opened ≡ s.opened → mid ≡ old → SeenNext s.text s.last (as_read t) m.last → coded_in s.text.language (as_read t) ≡ Some (code.Prefix own side) → opens_at p (as_read t) ≡ true →
    q ≡ record { rank = side; has_in = true; start = Any } → Adds m e mid new (ReadAt m.text q r) → takes_operand (is_prefix_update t.text) r.cover.shape ≡ true → Adds s e old new (ReadAt s.text p (prefixed_part (is_prefix_update t.text) t.text t.start e.last.stop r))
prefix_read s m e {old} {mid} {new} p q r t own side text open_same same next coded stands position a fits = of (prefix_begun (expression_start (as_read t)) own side (coded_plain s.text.language (expression_start (as_read t)) (as_read t).text (code.Prefix own side) coded refl)) refl position
  where
    first : Begins s.text t.start s.last
    first = record { token = as_read t; place = m.last; next = next; start = refl }

    here : ReadsHere s.text t.class (as_read t).text s.last m.last
    here = as_here s.text (record { next = next; class = refl; text = refl })

    operand : (z : Rank) → q ≡ record { rank = z; has_in = true; start = Any } → (o : ℕ) (Q : List Pair) → ReadAt m.text q r o m.last e.last Q → ReadAt s.text (record { rank = z; has_in = true; start = Any }) r o m.last e.last Q
    operand z is o Q w = subst (λ x. ReadAt x (record { rank = z; has_in = true; start = Any }) r o m.last e.last Q) text (subst (λ x. ReadAt m.text x r o m.last e.last Q) is w)

    value_of : is_prefix_update t.text ≡ false → r.cover.shape.is_expression ≡ true
    value_of h = sym (ap (λ b. takes_operand b r.cover.shape) h) ∙ fits

    target_of : is_prefix_update t.text ≡ true → is_target r.cover.shape.assigned ≡ true
    target_of h = sym (ap (λ b. takes_operand b r.cover.shape) h) ∙ fits

    -- what is no step, by the node that it makes
    unary : (made : Tree → Tree) → ((u : Tree) → bare_role (made u) ≡ None) → ((u : Tree) → edge (made u) ≡ edge u) → ((u : Tree) → plain_part (prefixed_node false t.text t.start e.last.stop u) Unary r.edge ≡ part_from (made u) value t.start Unary r.edge) → q ≡ record { rank = Unary; has_in = true; start = Any } → is_prefix_update t.text ≡ false → takes p.rank Unary ≡ true →
        ((o : ℕ) (h : Rank) (j : Bool) (u : Tree) (P : List Pair) → IsTrue (takes h Unary) → SpellsIn s.text o (expr Unary true Any) u m.last e.last P → SpellsIn s.text o (expr h j p.start) (made u) s.last e.last P) →
        Adds s e old new (ReadAt s.text p (prefixed_part (is_prefix_update t.text) t.text t.start e.last.stop r))
    unary made no_name right same_node is no_step tk spelled = adds_behind open_same same a (λ o Q w.
        let v = operand Unary is o Q w in
        let d : SpellsIn s.text o (expr Unary true Any) r.cover.node m.last e.last Q = v.part.stands (value_of no_step) Unary true (v.taken refl) (λ k. refl) in
        subst (λ b. ReadAt s.text p (prefixed_part b t.text t.start e.last.stop r) o s.last e.last Q) (sym no_step)
        (subst (λ x. ReadAt s.text p x o s.last e.last Q) (sym (same_node r.cover.node)) (record {
          taken = λ h. tk;
          part = value_part s.text (no_name r.cover.node) first (v.part.edge ∙ ap (λ x. edge_as_written x e.last) (sym (right r.cover.node))) v.part.goes_on (λ h. cc) (λ h j k lo. spelled o h j r.cover.node Q k d);
        })))

    no_keyword : is_keyword t.text ≡ false → (u : Tree) → plain_part (prefixed_node false t.text t.start e.last.stop u) Unary r.edge ≡ part_from (node UnaryExpression t.text plain t.start e.last.stop (part u none)) value t.start Unary r.edge
    no_keyword h u = ap (λ b. plain_part (cond b (node AwaitExpression [] plain t.start e.last.stop (part u none)) (node UnaryExpression t.text plain t.start e.last.stop (part u none))) Unary r.edge) h

    keyword_node : is_keyword t.text ≡ true → (u : Tree) → plain_part (prefixed_node false t.text t.start e.last.stop u) Unary r.edge ≡ part_from (node AwaitExpression [] plain t.start e.last.stop (part u none)) value t.start Unary r.edge
    keyword_node h u = ap (λ b. plain_part (cond b (node AwaitExpression [] plain t.start e.last.stop (part u none)) (node UnaryExpression t.text plain t.start e.last.stop (part u none))) Unary r.edge) h

    of : {x : ExpressionStart} {own side : Rank} → PrefixBegun x own side → expression_start (as_read t) ≡ x → q ≡ record { rank = side; has_in = true; start = Any } → Adds s e old new (ReadAt s.text p (prefixed_part (is_prefix_update t.text) t.text t.start e.last.stop r))
    of a_word opens is = by_word (word_of t.class (as_read t).text opens)
      where
        stood : takes p.rank Unary ≡ true
        stood = ap (stands_at p.rank p.has_in p.start) (sym opens) ∙ stands

        by_word : WordBy t.class (as_read t).text → Adds s e old new (ReadAt s.text p (prefixed_part (is_prefix_update t.text) t.text t.start e.last.stop r))
        by_word (a_name class among_them) =
            let same_text = name_text t class in
            let among_it : among t.text ("delete" ∷ "void" ∷ "typeof" ∷ []) ≡ true = ap (λ w. among w ("delete" ∷ "void" ∷ "typeof" ∷ [])) (sym same_text) ∙ among_them in
            let no_step : is_prefix_update t.text ≡ false = among_by (λ v. is_prefix_update v ≡ false) t.text ("delete" ∷ "void" ∷ "typeof" ∷ []) among_it (refl, (refl, (refl, tt))) in
            let plain_word : is_keyword t.text ≡ false = plain_words t.text among_it in
            unary (λ u. node UnaryExpression t.text plain t.start e.last.stop (part u none)) (λ u. refl) (λ u. refl) (no_keyword plain_word) is no_step stood (λ o h j u P k d. unary_at s.text t.class (class, among_it) (subst (λ w. ReadsHere s.text t.class w s.last m.last) same_text here) k d (placed_at s.text first))
        by_word (a_keyword_of class keyword) =
            let same_text : (as_read t).text ≡ t.text = ap (λ x. table_text x t.text) class in
            let await_is : (as_read t).text ≡ codes "await" = await_alone (as_read t).text keyword in
            let text_is : t.text ≡ codes "await" = sym same_text ∙ await_is in
            unary (λ u. node AwaitExpression [] plain t.start e.last.stop (part u none)) (λ u. refl) (λ u. refl) (keyword_node (ap is_keyword (sym same_text) ∙ keyword)) is (ap is_prefix_update text_is) stood
            (λ o h j u P k d. await_at s.text (subst (λ c. ReadsHere s.text c (codes "await") s.last m.last) class (subst (λ w. ReadsHere s.text t.class w s.last m.last) await_is here)) k d (placed_at s.text first))
    of a_sign opens is =
        let by = sign_of t.class (as_read t).text opens in
        let same_text = sign_text t by.0 in
        let among_it : among t.text ("+" ∷ "-" ∷ "~" ∷ "!" ∷ []) ≡ true = ap (λ w. among w ("+" ∷ "-" ∷ "~" ∷ "!" ∷ [])) (sym same_text) ∙ by.1 in
        let no_step : is_prefix_update t.text ≡ false = among_by (λ v. is_prefix_update v ≡ false) t.text ("+" ∷ "-" ∷ "~" ∷ "!" ∷ []) among_it (refl, (refl, (refl, (refl, tt)))) in
        let plain_sign : is_keyword t.text ≡ false = plain_signs t.text among_it in
        unary (λ u. node UnaryExpression t.text plain t.start e.last.stop (part u none)) (λ u. refl) (λ u. refl) (no_keyword plain_sign) is no_step (ap (stands_at p.rank p.has_in p.start) (sym opens) ∙ stands) (λ o h j u P k d. sign_at s.text t.class (by.0, among_it) (subst (λ w. ReadsHere s.text t.class w s.last m.last) same_text here) k d (placed_at s.text first))
    of a_step opens is =
        let by = step_of t.class (as_read t).text opens in
        let same_text = sign_text t by.0 in
        let is_step : is_prefix_update t.text ≡ true = ap (λ w. among w ("++" ∷ "--" ∷ [])) (sym same_text) ∙ by.1 in
        adds_behind open_same same a (λ o Q w.
        let v = operand LeftHandSide is o Q w in
        let d = target_spelled v.part (target_of is_step) in
        subst (λ b. ReadAt s.text p (prefixed_part b t.text t.start e.last.stop r) o s.last e.last Q) (sym is_step) (record {
          taken = λ h. ap (stands_at p.rank p.has_in p.start) (sym opens) ∙ stands;
          part = value_part s.text refl first refl refl (λ h. cc) (λ h j k lo. step_at s.text t.class (by.0, is_step) (subst (λ w. ReadsHere s.text t.class w s.last m.last) same_text here) k d.0 d.1 (placed_at s.text first));
        }))

-- and no higher
pub prefix_low : (b : Bool) (w : List ℕ) (st en : ℕ) (r : Operand) (high : ℕ) → height (prefixed_node b w st en r.cover.node) ≤ high → height (prefixed_part b w st en r).cover.node ≤ high
prefix_low true w st en r high h = h
prefix_low false w st en r high h = h

-- the node that is made of an operator that doesn't step: of `await`, and of another
pub no_steps : (w : List ℕ) → (w ≡ codes "++" → ⊥) → (w ≡ codes "--" → ⊥) → is_prefix_update w ≡ false
no_steps w a b = of (is w "++") (is w "--") refl refl
  where
    of : (x y : Bool) → is w "++" ≡ x → is w "--" ≡ y → (is w "++" || (is w "--" || false)) ≡ false
    of true y h k = absurd (a ((bytes_eq-Decides w (codes "++")).0 h))
    of false true h k = absurd (b ((bytes_eq-Decides w (codes "--")).0 k))
    of false false h k = λ i. h i || (k i || false)

module _ (w : List ℕ) (s e : ℕ) (p r : Operand) {high : ℕ} {m n : Tree} {ns : Parts} (no_step : is_prefix_update w ≡ false) (made : r ≡ plain_part n Unary p.edge) (low : height n ≤ high) (parts : ns ≡ part m none) (operand : m ≡ p.cover.node) (value : p.cover.shape.is_expression ≡ true) where
  unstepped : n ≡ prefixed_node false w s e p.cover.node → (r ≡ prefixed_part (is_prefix_update w) w s e p) × (takes_operand (is_prefix_update w) p.cover.shape ≡ true) × (height (prefixed_node (is_prefix_update w) w s e p.cover.node) ≤ high)
  unstepped tree = subst (λ b. (r ≡ prefixed_part b w s e p) × (takes_operand b p.cover.shape ≡ true) × (height (prefixed_node b w s e p.cover.node) ≤ high)) (sym no_step) (made ∙ ap (λ x. plain_part x Unary p.edge) tree, value, subst (λ x. height x ≤ high) tree low)

  pub await_made : is w "await" ≡ true → n ≡ node AwaitExpression [] plain s e ns → (r ≡ prefixed_part (is_prefix_update w) w s e p) × (takes_operand (is_prefix_update w) p.cover.shape ≡ true) × (height (prefixed_node (is_prefix_update w) w s e p.cover.node) ≤ high)
  unfolding is_keyword
  await_made await tree = unstepped (tree ∙ ap (λ x. node AwaitExpression [] plain s e x) (parts ∙ ap (λ x. part x none) operand) ∙ sym (ap (λ b. cond (b || false) (node AwaitExpression [] plain s e (part p.cover.node none)) (node UnaryExpression w plain s e (part p.cover.node none))) await))

  pub unary_made : is w "await" ≡ false → n ≡ node UnaryExpression w plain s e ns → (r ≡ prefixed_part (is_prefix_update w) w s e p) × (takes_operand (is_prefix_update w) p.cover.shape ≡ true) × (height (prefixed_node (is_prefix_update w) w s e p.cover.node) ≤ high)
  unfolding is_keyword
  unary_made other tree = unstepped (tree ∙ ap (λ x. node UnaryExpression w plain s e x) (parts ∙ ap (λ x. part x none) operand) ∙ sym (ap (λ b. cond (b || false) (node AwaitExpression [] plain s e (part p.cover.node none)) (node UnaryExpression w plain s e (part p.cover.node none))) other))
