-- What begins with `async`: a function, an arrow with one name or with parentheses, a call, or the name alone (ECMA-262, 13th edition, 15.8, 15.9).
use Rattle.std.proofs.Common.{◌≡◌, ℕ, ◌-◌, Bool, true, false, List, [], ◌∷◌, ◌++◌, refl, sym, ap, ◌∙◌, subst}
use Rattle.std.specs.Prelude.{IsTrue, codes, not, ◌&&◌}
use Rattle.std.proofs.lemmas.Bool.{false≢true}
use Rattle.tokens.specs.Tokens.{LexicalToken}
use Rattle.tokens.specs.Scanned.{token_of}
use Rattle.tokens.specs.declared.token.TokenClass.TheVariants.{IdentifierName, Punctuator}
use Rattle.tokens.specs.declared.token.Token.{Token as Scanned}
use Rattle.token_cursor.specs.CursorState.{CursorState}
use Rattle.tree.specs.declared.kind.Form.{Form}
use Rattle.tree.specs.declared.kind.Form.TheVariants as form
use Rattle.tree.specs.declared.kind.Kind.TheVariants.{Identifier, ArrowFunctionExpression}
use Rattle.tree.specs.declared.kind.Pair.{Pair}
use Rattle.tree.specs.Tree.{Tree, node, plain, Parts, none, part, push, join, bare_parts}
use Rattle.tree.specs.Uses.{is_async}
use Rattle.covers.specs.declared.list.ListBuilder.{ListBuilder as ListOf}
use Rattle.covers.specs.declared.list.ListKind.TheVariants as listed
use Rattle.covers.specs.Lists.{opening, closing}
use Rattle.tree.specs.Patterns.{pattern_parts}
use Rattle.covers.specs.Shapes.{is_bound}
use Rattle.language.specs.declared.Rank.{Rank}
use Rattle.language.specs.declared.Rank.TheVariants.{Expression, Assignment, Call, Primary}
use Rattle.language.specs.declared.Start.{Start}
use Rattle.language.specs.declared.Start.TheVariants.{Any, NoBrace, Statement}
use Rattle.language.specs.declared.Edge.TheVariants.{Other}
use Rattle.language.specs.Vocabulary.{takes, is_reserved}
use Rattle.language.specs.Covers.{as_expression, as_pattern}
use Rattle.language.specs.Pieces.{Piece, expr, name, put, at, fixed, sign, listed as listing, argument, parameters}
use Rattle.language.specs.Token.{Token, as_read}
use Rattle.language.specs.Expressions.{arrow_end, async_word, function_words}
use Rattle.language.specs.Claims.{max_open}
use Rattle.language.specs.Grammar.{starts}
use Rattle.language.specs.Promises.{is_free}
use Rattle.tokens.specs.declared.token.Goal.TheVariants.{Div}
use Rattle.language.specs.Derivation.{step, token, laid, same_line, within}
use Rattle.language.proofs.table.NodeForms.{arrow, short_arrow}
use Rattle.language.proofs.table.TokenFirstWays.{async_free}
use Rattle.language.proofs.table.Productions.{spell, starts_led}
use Rattle.language.proofs.climbing.Leaves.{name_found}
use Rattle.language.proofs.list_loops.ParameterLists.{parameter_list, parameters_join, function_closer}
use Rattle.token_cursor.proofs.SeenTokens.{seen_determined}
use Rattle.token_cursor.specs.Seen.{ReadsHere, NameHere, is_free_name}
use Rattle.token_cursor.specs.SourceText.{SourceText, SeenNext, behind_in}
use Rattle.parser_tables.specs.declared.functions_and_classes.FunctionOrClass.TheVariants as closure
use Rattle.parser_tables.specs.declared.operand.Operand.{Operand}
use Rattle.parser_tables.specs.declared.expression_context.ExpressionContext.{ExpressionContext}
use Rattle.parser_tables.specs.Items.{list_from}
use Rattle.parser_tables.specs.Operands.{plain_part}
use Rattle.parser_tables.specs.Tokens.{single_node}
use Rattle.recursive_descent.specs.declared.async_and_yield.AsyncStart.TheVariants as begun
use Rattle.recursive_descent.specs.Soundness.{RunsIn, Adds, Begins, anywhere, PartAt, ReadAt, ArrowAt, ArgumentsAt, grouping}
use Rattle.recursive_descent.specs.SoundnessOfLists.{ListAt, SoFarAt, ClosedBy, is_whole, whole_of, stood_in, item_pieces}
use Rattle.recursive_descent.specs.SoundnessOfStatements.{ClosureAt}
use Rattle.recursive_descent.specs.Follows.{BegunAt}
use Rattle.recursive_descent.specs.Expectations.{IsUnbroken}
use Rattle.recursive_descent.specs.Later.{WordsAt, AsyncBegun, NamedAsync, AsyncAt, async_call_node, behind_first}
use Rattle.parser_tables.specs.ExpressionStarts.{takes_function_or_class}
use Rattle.recursive_descent.specs.Spelled.{SpellsIn}
use Rattle.recursive_descent.proofs.reading.AddedPairs.{adds_behind, adds_none, adds_both, runs_on, map_both}
use Rattle.recursive_descent.proofs.sound_expressions.ArrowFunctions.{flagged, join_one}
use Rattle.recursive_descent.proofs.sound_expressions.ExpressionParts.{placed_at}
use Rattle.recursive_descent.proofs.sound_expressions.ExpressionStarts.{loose_primary}
use Rattle.recursive_descent.proofs.sound_expressions.KeywordExpressions.{Passed, passed, read_name, function_part}
use Rattle.recursive_descent.proofs.reading.SeenClasses.{seen_name}
use Rattle.language.proofs.table.ForDeclarationWays.{two_signs}
use Rattle.recursive_descent.proofs.sound_expressions.OneToken.{name_part}
use Rattle.recursive_descent.proofs.sound_expressions.Parenthesized.{arrow_part, lean_arrow, end_same, parameters_at}
use Rattle.recursive_descent.proofs.sound_subscripts.SubscriptNodes.{call_part}

-- where an arrow may stand, so may a call
call_taken : (y : Rank) → IsTrue (takes y Assignment) → IsTrue (takes y Call)
call_taken Expression h = refl
call_taken Assignment h = refl
call_taken _ h = cc

starts_name : (f : Start) (qs : List Piece) → IsTrue (starts f (async_word ++ put name ∷ qs))
starts_name Any qs = refl
starts_name NoBrace qs = refl
starts_name Statement qs = refl

starts_parenthesis : (f : Start) (qs : List Piece) → IsTrue (starts f (async_word ++ sign "(" ∷ qs))
starts_parenthesis Any qs = refl
starts_parenthesis NoBrace qs = refl
starts_parenthesis Statement qs = refl

-- the last token that was passed is `async`
pub async_passed : {text : SourceText} (t : Scanned) {s m : Token} → behind_in text m ≡ as_read (token_of t) → ReadsHere text IdentifierName (codes "async") s m → Passed text t (codes "async") s m
async_passed {text} t {s} {m} same r = passed (subst (λ v. SeenNext text s v m) same r.next) (sym (ap (λ (v : Token). v.class) same) ∙ r.class, sym (ap (λ (v : Token). v.text) same) ∙ r.text)

-- a name that was passed, as its node
pub record NamedHere (text : SourceText) (t : LexicalToken) (s m : Token) : Type 0 where
  pub word : List ℕ
  pub reads : ReadsHere text IdentifierName word s m
  pub free : is_reserved word ≡ false
  pub tree : single_node Identifier t ≡ node Identifier word plain m.start m.stop none

module _ (text : SourceText) where
  -- it is spelled where a name binds
  bound_name : {t : LexicalToken} {o : ℕ} {s m : Token} → NamedHere text t s m → SpellsIn text o name (single_node Identifier t) s m []
  bound_name {o = o} {s = s} {m = m} v = subst (λ n. SpellsIn text o name n s m []) (sym v.tree) (name_found Token (SeenNext text) (behind_in text) (seen_determined text) {o = o} v.reads v.free).spelled

  async_tree : {t : Scanned} {s m : Token} → Passed text t (codes "async") s m → single_node Identifier (token_of t) ≡ node Identifier (codes "async") plain m.start m.stop none
  async_tree {m = m} w = (λ i. single_node Identifier (sym w.same i)) ∙ ap (λ v. node Identifier v plain m.start m.stop none) w.reads.text

  named_async : {t : Scanned} {s m : Token} → Passed text t (codes "async") s m → NamedHere text (token_of t) s m
  named_async w = record { word = codes "async"; reads = w.reads; free = async_free; tree = async_tree w }

  named_token : (v : Scanned) {s m : Token} → NameHere text is_free_name s m → m ≡ as_read (token_of v) → NamedHere text (token_of v) s m
  named_token v {s} {m} r same =
      let class : m.class ≡ IdentifierName = seen_name text.language m.class m.text r.0.class in
      let told : m ≡ token_of v = same ∙ read_name (token_of v) (sym (ap (λ (z : Token). z.class) same) ∙ class) in
      record { word = m.text; reads = r.0; free = unreserved (is_reserved m.text) r.1; tree = λ i. single_node Identifier (sym told i) }
    where
      unreserved : (b : Bool) → not b ≡ true → b ≡ false
      unreserved false h = refl
      unreserved true h = absurd (false≢true h)

  module _ (p : ExpressionContext) {t : Scanned} {s m : Token} (w : Passed text t (codes "async") s m) where
    -- the name alone
    async_name : {o : ℕ} → PartAt text p.has_in p.start (plain_part (single_node Identifier (token_of t)) Primary Other) o s m []
    async_name {o} = subst (λ n. PartAt text p.has_in p.start (plain_part n Primary Other) o s m []) (sym (async_tree w)) (name_part text w.reads async_free)

    -- an arrow with it for its parameter
    async_parameter : {from o : ℕ} {r : Operand} {e : Token} {Q : List Pair} → from ≡ t.start → ArrowAt text form.Init p.has_in (part (single_node Identifier (token_of t)) none) from r o m e Q → ((u x : Token) → SeenNext text m u x → u.after_break ≡ false) → PartAt text p.has_in p.start r o s e Q
    async_parameter {from} {o} {r} {e} {Q} begin a line =
        let begins : Begins text from s = subst (λ k. Begins text k s) (sym begin) w.begins in
        arrow_part text a begins (λ n u b h j tree tk same runs.
        subst (λ y. SpellsIn text o (expr h j p.start) y s e Q) (sym tree)
        (spell Token (SeenNext text) (behind_in text) (at Assignment (put name ∷ arrow_end (flagged form.Init b))) (short_arrow refl) (lean_arrow text form.Init b from e.stop (push (part (single_node Identifier (token_of t)) none) u)) tk refl (starts_led p.start (fixed name) (arrow_end (flagged form.Init b))) (placed_at text begins)
        (within (bound_name (named_async w)) (subst (λ qs. RunsIn text o qs (part u none) m e Q) (end_same text h j p.start form.Init b) runs)))) line

    -- an async arrow with one name
    name_arrow : {v : LexicalToken} {from o : ℕ} {r : Operand} {k e : Token} {Q : List Pair} → NamedHere text v m k → k.after_break ≡ false → from ≡ t.start → ArrowAt text form.Async p.has_in (part (single_node Identifier v) none) from r o k e Q → ((u x : Token) → SeenNext text k u x → u.after_break ≡ false) → PartAt text p.has_in p.start r o s e Q
    name_arrow {v} {from} {o} {r} {k} {e} {Q} named on begin a line =
        let begins : Begins text from s = subst (λ z. Begins text z s) (sym begin) w.begins in
        arrow_part text a begins (λ n u b h j tree tk same runs.
        subst (λ y. SpellsIn text o (expr h j p.start) y s e Q) (sym tree)
        (spell Token (SeenNext text) (behind_in text) (at Assignment (async_word ++ put name ∷ arrow_end (flagged form.Async b))) (short_arrow refl) (lean_arrow text form.Async b from e.stop (push (part (single_node Identifier v) none) u)) tk refl (starts_name p.start (arrow_end (flagged form.Async b))) (placed_at text begins)
        (step (token w.reads) (step (same_line named.reads.next on) (step laid (within (bound_name named) (subst (λ qs. RunsIn text o qs (part u none) k e Q) (end_same text h j p.start form.Async b) runs))))))) line

    -- an async arrow with its parameters in parentheses
    parameters_arrow : {ps : Parts} {from o : ℕ} {r : Operand} {x k e : Token} {P Q : List Pair} → ReadsHere text Punctuator (codes "(") m x → x.after_break ≡ false → RunsIn text o (parameter_list ps) ps x k P → from ≡ t.start → ArrowAt text form.Async p.has_in ps from r o k e Q →
        ((u x : Token) → SeenNext text k u x → u.after_break ≡ false) → PartAt text p.has_in p.start r o s e (P ++ Q)
    parameters_arrow {ps} {from} {o} {r} {x} {k} {e} {P} {Q} left on d begin a line =
        let begins : Begins text from s = subst (λ z. Begins text z s) (sym begin) w.begins in
        arrow_part text a begins (λ n u b h j tree tk same runs.
        let g = flagged form.Async b in
        subst (λ y. SpellsIn text o (expr h j p.start) y s e (P ++ Q)) (sym (tree ∙ ap (node ArrowFunctionExpression [] g from e.stop) (sym (join_one ps u))))
        (spell Token (SeenNext text) (behind_in text) (at Assignment (async_word ++ sign "(" ∷ parameters (sign ")" ∷ arrow_end g) (bare_parts (join ps (part u none))))) arrow (lean_arrow text form.Async b from e.stop (join ps (part u none))) tk refl
        (starts_parenthesis p.start (parameters (sign ")" ∷ arrow_end g) (bare_parts (join ps (part u none))))) (placed_at text begins)
        (step (token w.reads) (step (same_line left.next on) (step laid (step (token left)
        (parameters_join Token (SeenNext text) (behind_in text) (arrow_end g) (function_closer Token (SeenNext text) (behind_in text) h j p.start o) ps d (subst (λ qs. RunsIn text o qs (part u none) k e Q) (end_same text h j p.start form.Async b) runs)))))))) line

    -- the call
    async_call : {o : ℕ} {ps : Parts} {e : Token} {Q : List Pair} → ArgumentsAt text ps o m e Q → PartAt text p.has_in p.start (plain_part (async_call_node (token_of t) e.stop ps) Call Other) o s e Q
    async_call d = call_part text async_name refl refl d

    -- a function
    async_function : {y : Form} {o : ℕ} {n : Tree} {from : ℕ} {k e : Token} {Q : List Pair} → is_async y ≡ true → RunsIn text o (anywhere (behind_first (function_words y))) none m k [] → takes_function_or_class p.start ≡ true → from ≡ t.start → ClosureAt text (closure.Function y) from n o k e Q →
        ReadAt text p (plain_part n Primary Other) o s e Q
    async_function {y} {o} {n} {from} {k} {e} {Q} is words start begin c = function_part text y (subst (λ z. Begins text z s) (sym begin) w.begins) (all y is words) start c
      where
        all : (y : Form) → is_async y ≡ true → RunsIn text o (anywhere (behind_first (function_words y))) none m k [] → RunsIn text o (anywhere (function_words y)) none s k []
        all form.Async h d = step (token w.reads) d
        all form.AsyncGenerator h d = step (token w.reads) d
        all _ h d = cc

-- the word `function` stands on its line
pub async_unbroken : (s : CursorState) (p : ExpressionContext) → AsyncBegun s.text p s.last begun.Function → IsUnbroken s
async_unbroken s p start t e r = (seen_determined s.text).break s.last t (behind_in s.text start.0) e start.0 r.next start.1.next ∙ start.2

module _ (s e : CursorState) {old new : List Pair} (p : ExpressionContext) (t : Scanned) (here : behind_in s.text s.last ≡ as_read (token_of t)) where
  -- the name alone, behind which nothing is read
  pub async_alone : {n : Tree} {r : Operand} → e.opened ≡ s.opened → e.last ≡ s.last → new ≡ old → n ≡ single_node Identifier (token_of t) → r ≡ plain_part n Primary Other → Adds s e old new (NamedAsync s.text p r)
  async_alone {n} {r} open_same last same tree is = adds_none open_same same (λ o z name.
      let w = async_passed t here name in
      subst (λ q. ReadAt s.text p q o z e.last []) (sym (is ∙ ap (λ c. plain_part c Primary Other) tree))
      (subst (λ q. ReadAt s.text p (plain_part (single_node Identifier (token_of t)) Primary Other) o z q []) (sym last) (record { taken = loose_primary p.rank; part = async_name s.text p w })))

  -- an arrow with it for its parameter
  pub async_single : {n : Tree} {ps : Parts} {from : ℕ} {r : Operand} (x : Token) → n ≡ single_node Identifier (token_of t) → ps ≡ part n none → from ≡ t.start → ReadsHere s.text Punctuator (codes "=>") s.last x → x.after_break ≡ false → takes p.rank Assignment ≡ true →
      Adds s e old new (ArrowAt s.text form.Init p.has_in ps from r) → Adds s e old new (NamedAsync s.text p r)
  async_single {n} {ps} {from} {r} x tree given begin sign line tk a = adds_behind refl refl a (λ o Q w z name.
      let v : ArrowAt s.text form.Init p.has_in (part (single_node Identifier (token_of t)) none) from r o s.last e.last Q = subst (λ q. ArrowAt s.text form.Init p.has_in q from r o s.last e.last Q) (given ∙ ap (λ c. part c none) tree) w in
      record { taken = λ h. subst (λ q. IsTrue (takes p.rank q)) (sym v.rank) tk; part = async_parameter s.text p (async_passed t here name) begin v (λ u y n. (seen_determined s.text).break s.last u (behind_in s.text x) y x n sign.next ∙ line) })

  -- an async arrow with one name
  pub async_one_name : {m : CursorState} {mid : List Pair} {n : Tree} {ps : Parts} {from : ℕ} {r : Operand} (v : Scanned) → AsyncBegun s.text p s.last begun.Parameter → m.text ≡ s.text → m.opened ≡ s.opened → mid ≡ old → NameHere s.text is_free_name s.last m.last → m.last ≡ as_read (token_of v) →
      n ≡ single_node Identifier (token_of v) → ps ≡ part n none → from ≡ t.start → Adds m e mid new (ArrowAt m.text form.Async p.has_in ps from r) → Adds s e old new (NamedAsync s.text p r)
  async_one_name {m} {mid} {n} {ps} {from} {r} v start text open_same same named last tree given begin a = adds_behind open_same same a (λ o Q w z word.
      let k = start.0 in
      let place : k ≡ m.last = same_place start.2 named in
      let x = start.1 in
      let sign : ReadsHere s.text Punctuator (codes "=>") m.last x = subst (λ c. ReadsHere s.text Punctuator (codes "=>") c x) place start.4 in
      let arrow : ArrowAt s.text form.Async p.has_in (part (single_node Identifier (token_of v)) none) from r o m.last e.last Q =
      subst (λ q. ArrowAt s.text form.Async p.has_in q from r o m.last e.last Q) (given ∙ ap (λ c. part c none) tree) (subst (λ c. ArrowAt c form.Async p.has_in ps from r o m.last e.last Q) text w) in
      record {
        taken = λ h. subst (λ q. IsTrue (takes p.rank q)) (sym arrow.rank) start.6;
        part = name_arrow s.text p (async_passed t here word) (named_token s.text v named last) (ap (λ (c : Token). c.after_break) (sym place) ∙ start.3) begin arrow (λ u y n. (seen_determined s.text).break m.last u (behind_in s.text x) y x n sign.next ∙ start.5);
      })
    where
      same_place : {k l : Token} → NameHere s.text is_free_name s.last k → NameHere s.text is_free_name s.last l → k ≡ l
      same_place {k} {l} a b = ((seen_determined s.text).same Div s.last (behind_in s.text k) (behind_in s.text l) k l a.0.next b.0.next ((seen_determined s.text).free Div s.last (behind_in s.text k) k a.0.next (ap is_free a.0.class)) ((seen_determined s.text).free Div s.last (behind_in s.text l) l b.0.next (ap is_free b.0.class))).1

  -- a function
  pub async_closure : {m : CursorState} {mid : List Pair} {y : Form} {n : Tree} {from : ℕ} {r : Operand} → AsyncBegun s.text p s.last begun.Function → m.text ≡ s.text → m.opened ≡ s.opened → mid ≡ old → WordsAt s m y → is_async y ≡ true → from ≡ t.start → r ≡ plain_part n Primary Other →
      Adds m e mid new (ClosureAt m.text (closure.Function y) from n) → Adds s e old new (NamedAsync s.text p r)
  async_closure {m} {mid} {y} {n} {from} {r} opening text open_same same words is begin made a = adds_behind open_same same a (λ o Q c z word.
      subst (λ q. ReadAt s.text p q o z e.last Q) (sym made) (async_function s.text p (async_passed t here word) is (words.1 o) opening.3 begin (subst (λ v. ClosureAt v (closure.Function y) from n o m.last e.last Q) text c)))

-- the list in parentheses behind `async`
abbrev pub AsyncListAt : SourceText → ListOf → ℕ → Token → Token → List Pair → Type 0
AsyncListAt text l o s e P = (left : Token) × ReadsHere text Punctuator (codes "(") s left × ListAt text Any l o left e P

-- nothing of it so far
nothing_so_far : (text : SourceText) (at : ℕ) (o : ℕ) (m : Token) → SoFarAt text Any (list_from listed.AsyncArguments at) o m m []
nothing_so_far text at o m as_expression fits ps e Q d = d
nothing_so_far text at o m (as_pattern b) fits ps e Q d = d

pub async_list : {s m e : CursorState} {old mid new : List Pair} (l0 l : ListOf) → m.text ≡ s.text → m.opened ≡ s.opened → mid ≡ old → l0.listed ≡ listed.AsyncArguments → BegunAt s m l0 →
    Adds m e mid new (λ o a b Q. (f : Start) (z : Token) (P : List Pair) → SoFarAt m.text f l0 o z a P → ListAt m.text f l o z b (P ++ Q)) → Adds s e old new (AsyncListAt s.text l)
async_list {s} {m} {e} l0 l text open_same same is begun a =
    let here = begun.1 (codes "(") (ap opening is) in
    let so_far : (o : ℕ) → SoFarAt m.text Any l0 o m.last m.last [] = λ o. subst (λ k. SoFarAt m.text Any k o m.last m.last []) (sym (here.1 ∙ ap (λ x. list_from x l0.span.start) is)) (nothing_so_far m.text l0.span.start o m.last) in
    adds_behind open_same same a (λ o Q d. (m.last, here.0, subst (λ x. ListAt x Any l o m.last e.last Q) text (d Any m.last [] (so_far o))))

module _ (text : SourceText) (l : ListOf) (is : l.listed ≡ listed.AsyncArguments) {o : ℕ} {s e : Token} {P : List Pair} (w : AsyncListAt text l o s e P) where
  closed : ReadsHere text Punctuator (codes ")") w.2.mid e
  closed = subst (λ x. ClosedBy text (closing x) w.2.mid e) is w.2.closes

  -- as arguments
  async_arguments : l.seen.shape.is_expression ≡ true → ArgumentsAt text l.nodes o s e P
  async_arguments fits =
      let whole : is_whole l as_expression ≡ true = ap (λ x. whole_of x l as_expression) is ∙ ap (λ b. (true && b) && true) fits in
      let items : RunsIn text o (anywhere (listing argument l.nodes)) l.nodes w.0 w.2.mid P = subst (λ x. RunsIn text o (stood_in Any x (item_pieces x as_expression l.nodes)) l.nodes w.0 w.2.mid P) is (w.2.runs as_expression whole) in
      step (token w.1) (subst (λ qs. RunsIn text o qs l.nodes w.0 e P) (sym (map_both (listing argument l.nodes) (sign ")"))) (runs_on text items (token closed)))

  -- as parameters
  async_parameters : is_bound l.seen.shape ≡ true → RunsIn text o (parameter_list (pattern_parts 0 l.nodes)) (pattern_parts 0 l.nodes) w.0 e P
  async_parameters bound =
      let whole : is_whole l (as_pattern true) ≡ true = ap (λ x. whole_of x l (as_pattern true)) is ∙ ap (λ b. (true && b) && true) bound in
      parameters_at text (pattern_parts 0 l.nodes) (subst (λ x. RunsIn text o (stood_in Any x (item_pieces x (as_pattern true) (pattern_parts 0 l.nodes))) (pattern_parts 0 l.nodes) w.0 w.2.mid P) is (w.2.runs (as_pattern true) whole)) closed

module _ (s k : CursorState) {old mid : List Pair} (p : ExpressionContext) (t : Scanned) (l : ListOf) (is : l.listed ≡ listed.AsyncArguments) (a : Adds s k old mid (AsyncListAt s.text l)) where
  -- a call
  pub async_called : {e : CursorState} {new : List Pair} {r : Operand} → e.last ≡ k.last → e.opened ≡ k.opened → new ≡ mid → l.seen.shape.is_expression ≡ true → r ≡ plain_part (async_call_node (token_of t) e.last.stop l.nodes) Call Other → Adds s e old new (AsyncAt s.text p t r)
  async_called {e} {new} {r} last open_same same fits made = record {
    more = a.more;
    same_open = open_same ∙ a.same_open;
    pairs = same ∙ a.pairs;
    is = λ z next class word start. subst (λ q. ReadAt s.text p q (max_open - s.opened) z e.last (grouping a.more)) (sym made)
        (subst (λ (c : Token). ReadAt s.text p (plain_part (async_call_node (token_of t) c.stop l.nodes) Call Other) (max_open - s.opened) z c (grouping a.more)) (sym last) (record { taken = λ h. call_taken p.rank start.3; part = async_call s.text p (passed {t = t} next (class, word)) (async_arguments s.text l is a.is fits) }));
  }

  -- an arrow
  pub async_arrow : {e : CursorState} {new later : List Pair} {ps : Parts} {from : ℕ} {r : Operand} (x : Token) → k.text ≡ s.text → later ≡ mid → is_bound l.seen.shape ≡ true → ps ≡ pattern_parts 0 l.nodes → from ≡ t.start → ReadsHere k.text Punctuator (codes "=>") k.last x → x.after_break ≡ false →
      Adds k e later new (ArrowAt k.text form.Async p.has_in ps from r) → Adds s e old new (AsyncAt s.text p t r)
  async_arrow {e} {new} {later} {ps} {from} {r} x text same bound given begin sign line b = adds_both a (subst (λ q. Adds k e q new (ArrowAt k.text form.Async p.has_in ps from r)) same b) (λ o P Q w v z next class word start.
      let here : ReadsHere s.text Punctuator (codes "=>") k.last x = subst (λ c. ReadsHere c Punctuator (codes "=>") k.last x) text sign in
      let left : start.0 ≡ w.0 = (two_signs Token (SeenNext s.text) (behind_in s.text) (seen_determined s.text) refl refl start.1 w.1).1 in
      let arrow : ArrowAt s.text form.Async p.has_in ps from r o k.last e.last Q = subst (λ c. ArrowAt c form.Async p.has_in ps from r o k.last e.last Q) text v in
      record {
        taken = λ h. subst (λ q. IsTrue (takes p.rank q)) (sym arrow.rank) start.3;
        part = parameters_arrow s.text p (passed {t = t} next (class, word)) w.1 (ap (λ (c : Token). c.after_break) (sym left) ∙ start.2) (subst (λ q. RunsIn s.text o (parameter_list q) q w.0 k.last P) (sym given) (async_parameters s.text l is w bound)) begin arrow
            (λ u y n. (seen_determined s.text).break k.last u (behind_in s.text x) y x n here.next ∙ line);
      })
