-- Parentheses behind `async`, against what is given of them: an arrow's parameters, or a call's arguments (ECMA-262, 13th edition, 15.9).
use Rattle.std.proofs.Common.{◌≡◌, ℕ, suc, ◌-◌, ◌≤◌, Bool, true, false, List, [], ◌++◌, refl, sym, ap, ◌∙◌, subst, arith, Result, Ok, Err}
use Rattle.std.specs.Prelude.{IsTrue, codes, ◌&&◌}
use Rattle.std.specs.Result.{IfOk, IsErrAnd}
use Rattle.std.proofs.lemmas.Bool.{false≢true}
use Rattle.source_text.specs.declared.fault.Fault.{Fault}
use Rattle.tokens.specs.Scanned.{token_of}
use Rattle.tokens.specs.declared.token.TokenClass.TheVariants.{IdentifierName, Punctuator}
use Rattle.tokens.specs.declared.token.Token.{Token as Scanned}
use Rattle.token_cursor.specs.CursorState.{CursorState}
use Rattle.tree.specs.declared.kind.Form.TheVariants.{Async}
use Rattle.tree.specs.declared.kind.Kind.TheVariants.{CallExpression, Identifier}
use Rattle.tree.specs.declared.kind.Pair.{Pair}
use Rattle.tree.specs.Tree.{Tree, node, plain, Parts, none, part, push, join, kind_of, height, parts_height}
use Rattle.tree.proofs.Shapes.{parts_height-push}
use Rattle.covers.specs.declared.list.ListBuilder.{ListBuilder as ListOf}
use Rattle.covers.specs.declared.list.ListKind.TheVariants as listed
use Rattle.covers.specs.Lists.{opening}
use Rattle.tree.specs.Patterns.{pattern_parts}
use Rattle.covers.specs.Shapes.{is_bound, Becomes}
use Rattle.language.specs.declared.Rank.{Rank}
use Rattle.language.specs.declared.Rank.TheVariants.{Call}
use Rattle.language.specs.declared.Edge.TheVariants.{Other}
use Rattle.language.specs.Languages.{is_of_2022}
use Rattle.language.specs.Claims.{max_open}
use Rattle.language.specs.Covers.{Reading, as_expression, as_pattern}
use Rattle.language.specs.Edges.{edge}
use Rattle.language.specs.Expressions.{arguments}
use Rattle.language.specs.Pieces.{sign, listed as listing, argument}
use Rattle.language.specs.Vocabulary.{is, takes, is_target as is_simple}
use Rattle.language.specs.Token.{Token, as_read}
use Rattle.language.proofs.table.ForDeclarationWays.{two_signs}
use Rattle.language.proofs.covers.CoverReadings.{name_or_sign}
use Rattle.language.proofs.list_loops.ParameterLists.{parameter_list}
use Rattle.unambiguity_laws.proofs.cores.AsyncCalls.{arrow_behind}
use Rattle.token_cursor.proofs.SeenTokens.{seen_determined}
use Rattle.token_cursor.specs.Seen.{ReadsHere}
use Rattle.token_cursor.specs.SourceText.{SourceText, SeenNext, behind_in}
use Rattle.parser_tables.specs.Items.{list_from}
use Rattle.parser_tables.specs.Operands.{plain_part}
use Rattle.parser_tables.specs.Outcomes.{YieldsWhere}
use Rattle.parser_tables.specs.Tokens.{single_node}
use Rattle.parser_tables.specs.declared.expression_context.ExpressionContext.{ExpressionContext}
use Rattle.parser_tables.specs.declared.operand.Operand.{Operand}
use Rattle.recursive_descent.specs.declared.async_and_yield.AsyncStart.TheVariants as begun
use Rattle.recursive_descent.specs.Soundness.{RunsIn, Adds, ArrowAt, anywhere}
use Rattle.recursive_descent.specs.SoundnessOfLists.{is_whole, whole_of}
use Rattle.recursive_descent.specs.Follows.{BegunAt}
use Rattle.recursive_descent.specs.Complete.{ArrowComplete, ListComplete}
use Rattle.recursive_descent.specs.Completeness.{Agrees, Room, EndsWith, FirstAs, IsFirst}
use Rattle.recursive_descent.specs.CompletenessOfLists.{ListGiven}
use Rattle.recursive_descent.specs.Later.{AsyncBegun, AsyncCallComplete, async_call_node}
use Rattle.recursive_descent.specs.Spelled.{OfLanguage, AllOfLanguage}
use Rattle.recursive_descent.proofs.reading.LanguageTrees.{parts_of_language, push_of_language, others_of_language}
use Rattle.recursive_descent.proofs.sound_expressions.KeywordExpressions.{passed}
use Rattle.recursive_descent.proofs.complete_subscripts.ArgumentsGiven.{arguments_given}
use Rattle.recursive_descent.proofs.complete_expressions.Agreement.{Refuses, refuses_on, refuses_where, agrees_err, marks_same, words_same, ends_both, ends_behind, ends_same}
use Rattle.recursive_descent.proofs.complete_expressions.AsyncAgreed.{arrow_agrees}
use Rattle.recursive_descent.proofs.complete_expressions.AsyncFirst as first
use Rattle.recursive_descent.proofs.complete_expressions.AsyncFirst.{ArrowBehind, AsyncFirst, async_first}
use Rattle.recursive_descent.proofs.complete_expressions.FunctionsAndClassesGiven.{made_first}
use Rattle.recursive_descent.proofs.complete_expressions.GroupListsGiven.{parameters_before}

-- what is given where a `(` stands behind `async` on its line: an arrow with its parameters in parentheses, or a call, behind which no `=>` goes on
pub data ParenthesesGiven (text : SourceText) (p : ExpressionContext) (o : ℕ) (h : Rank) (n : Tree) (m to : Token) (Q : List Pair) (a : Reading) : Type 0 where
  an_arrow : {x k : Token} {ps : Parts} {P R : List Pair} → a ≡ as_expression → ReadsHere text Punctuator (codes "(") m x → RunsIn text o (parameter_list ps) ps x k P → ArrowBehind text p o h Async m.start ps n k to R → Q ≡ P ++ R → ParenthesesGiven text p o h n m to Q a
  a_call : {given : Parts} → a ≡ as_expression → IsTrue (takes h Call) → n ≡ node CallExpression [] plain m.start to.stop (part (node Identifier (codes "async") plain m.start m.stop none) given) → RunsIn text o (anywhere (arguments given)) given m to Q →
      ((v : Token) → ReadsHere text Punctuator (codes "=>") to v → v.after_break ≡ false → ⊥) → ParenthesesGiven text p o h n m to Q a

module _ (text : SourceText) {p : ExpressionContext} {o : ℕ} {h : Rank} {n : Tree} {s m to : Token} {Q : List Pair} {a : Reading} where
  pub parentheses_only : ReadsHere text IdentifierName (codes "async") s m → AsyncBegun text p m begun.Parentheses → AsyncFirst text p o h n s m to Q a → ParenthesesGiven text p o h n m to Q a
  parentheses_only word start (first.the_name tree place pairs tk b alone) = absurd (false≢true (sym start.2 ∙ alone.parenthesis start.3 start.0 start.1))
  parentheses_only word start (first.its_arrow reading arrow) = absurd (false≢true (ap (λ w. is w "(") (two_signs Token (SeenNext text) (behind_in text) (seen_determined text) refl refl arrow.reads start.1).0))
  parentheses_only word start (first.a_function reading begins r line behind) = absurd (name_or_sign Token (SeenNext text) (behind_in text) (seen_determined text) refl r start.1)
  parentheses_only word start (first.one_name reading name line tree arrow) = absurd (name_or_sign Token (SeenNext text) (behind_in text) (seen_determined text) refl name.0 start.1)
  parentheses_only word start (first.in_parentheses reading paren line d arrow pairs) = an_arrow reading paren d arrow pairs
  parentheses_only word start (first.a_call reading tk fits call st d gs) =
      let same = (words_same text call.name word).1 in
      let tree : n ≡ node CallExpression [] plain m.start to.stop (part (node Identifier (codes "async") plain m.start m.stop none) call.given) = call.tree ∙ (λ i. node CallExpression [] plain (same i).start to.stop (part (node Identifier (codes "async") plain (same i).start (same i).stop none) call.given)) in
      a_call reading fits tree (subst (λ c. RunsIn text o (anywhere (arguments call.given)) call.given c to Q) same call.runs)
      (λ v arrow line. arrow_behind Token (SeenNext text) (behind_in text) (seen_determined text) st tk (ap edge tree) arrow line d gs)

module _ (text : SourceText) where
  -- the items of a call, and of an arrow, as those of a list
  arguments_listed : {at o : ℕ} {ps : Parts} {x k to : Token} {P : List Pair} → RunsIn text o (anywhere (listing argument ps)) ps x k P → ReadsHere text Punctuator (codes ")") k to → ListGiven text (list_from listed.AsyncArguments at) as_expression o ps x to P
  arguments_listed {k = k} d closes = record { left = refl; mid = k; runs = d; closes = closes; last = tt; no_rest = refl; lone = refl; one_default = refl }

  parameters_listed : {at o : ℕ} {ps : Parts} {x e : Token} {P : List Pair} → RunsIn text o (parameter_list ps) ps x e P → ListGiven text (list_from listed.AsyncArguments at) (as_pattern true) o ps x e P
  parameters_listed d = let b = parameters_before text d in record { left = refl; mid = b.mid; runs = b.runs; closes = b.sign; last = tt; no_rest = refl; lone = refl; one_default = refl }

-- what of the answer is asked
abbrev Same : CursorState → CursorState → List Pair → List Pair → Reading → Rank → Tree → Token → List Pair → Operand → Type 0
Same s e old new a h n to P r = IsFirst a h r n × EndsWith s e old new to P

-- parentheses, from the one that opens them on
module _ (s m : CursorState) (old mid : List Pair) (high inner : ℕ) (p : ExpressionContext) (t : Scanned) (l : ListOf) (is : l.listed ≡ listed.AsyncArguments) (text : m.text ≡ s.text) (open_same : m.opened ≡ s.opened) (same : mid ≡ old) (lower : inner ≡ high - 1) (opened : BegunAt s m l) where
  opens : ReadsHere s.text Punctuator (codes "(") s.last m.last
  opens = (opened.1 (codes "(") (ap opening is)).0

  list_is : l ≡ list_from listed.AsyncArguments l.span.start
  list_is = (opened.1 (codes "(") (ap opening is)).1 ∙ ap (λ x. list_from x l.span.start) is

  abbrev Given : Reading → Rank → ℕ → Tree → Token → List Pair → Type 0
  Given a h o n to P = ParenthesesGiven s.text p o h n s.last to P a

  -- by what the clause says
  given : {a : Reading} {h : Rank} {o : ℕ} {n : Tree} {from to : Token} {P : List Pair} → is_of_2022 s.text.language ≡ true → SeenNext s.text from (as_read (token_of t)) s.last → t.class ≡ IdentifierName → (as_read (token_of t)).text ≡ codes "async" → AsyncBegun s.text p s.last begun.Parentheses →
      FirstAs s.text p o n from to P a h → Given a h o n to P
  given later next class word start f = let w = passed {t = t} next (class, word) in parentheses_only s.text w.reads start (async_first s.text later w.reads f)

  -- the node of the name
  named : {from : Token} → SeenNext s.text from (as_read (token_of t)) s.last → t.class ≡ IdentifierName → (as_read (token_of t)).text ≡ codes "async" → single_node Identifier (token_of t) ≡ node Identifier (codes "async") plain s.last.start s.last.stop none
  named next class word = let w = passed {t = t} next (class, word) in (λ i. single_node Identifier (sym w.same i)) ∙ ap (λ c. node Identifier c plain s.last.start s.last.stop none) w.reads.text

  listed_from : {a : Reading} {o : ℕ} {ps : Parts} {e : Token} {P : List Pair} → ListGiven s.text (list_from listed.AsyncArguments l.span.start) a o ps m.last e P → ListGiven m.text l a o ps m.last e P
  listed_from {a} {o} {ps} {e} {P} d = subst (λ x. ListGiven x l a o ps m.last e P) (sym text) (subst (λ x. ListGiven s.text x a o ps m.last e P) (sym list_is) d)

  -- the list of an arrow's parameters
  arrow_list : {o : ℕ} {x k : Token} {ps : Parts} {P : List Pair} → ReadsHere s.text Punctuator (codes "(") s.last x → RunsIn s.text o (parameter_list ps) ps x k P → ListGiven m.text l (as_pattern true) o ps m.last k P
  arrow_list {o} {x} {k} {ps} {P} sign d = listed_from (parameters_listed s.text (subst (λ c. RunsIn s.text o (parameter_list ps) ps c k P) (marks_same s.text sign opens).1 d))

  arrow_own : {o : ℕ} {h : Rank} {n : Tree} {ps : Parts} {k to : Token} {R : List Pair} (v : ArrowBehind s.text p o h Async s.last.start ps n k to R) → OfLanguage s.text n → AllOfLanguage m.text ps
  arrow_own {ps = ps} v own = subst (λ c. AllOfLanguage c ps) (sym text) (push_of_language ps v.operand (parts_of_language (subst (OfLanguage s.text) v.tree own))).0

  arrow_low : {o : ℕ} {h : Rank} {n : Tree} {ps : Parts} {k to : Token} {R : List Pair} (v : ArrowBehind s.text p o h Async s.last.start ps n k to R) → height n ≤ high → parts_height ps ≤ inner
  arrow_low {n = n} {ps = ps} v low =
      let tall : height n ≡ suc (parts_height (push ps v.operand)) = ap height v.tree in
      let all = parts_height-push ps v.operand in
      omega arith

  -- the list of a call's arguments
  call_list : {o : ℕ} {ps : Parts} {to : Token} {P : List Pair} → RunsIn s.text o (anywhere (arguments ps)) ps s.last to P → ListGiven m.text l as_expression o ps m.last to P
  call_list {o} {ps} {to} {P} d =
      let v = arguments_given d in
      listed_from (arguments_listed s.text (subst (λ c. RunsIn s.text o (anywhere (listing argument ps)) ps c v.mid P) (marks_same s.text v.opens opens).1 v.runs) v.closes)

  call_own : {n : Tree} {en : ℕ} {ps : Parts} → n ≡ node CallExpression [] plain s.last.start en (part (node Identifier (codes "async") plain s.last.start s.last.stop none) ps) → OfLanguage s.text n → AllOfLanguage m.text ps
  call_own {ps = ps} tree own = subst (λ c. AllOfLanguage c ps) (sym text) (others_of_language (parts_of_language (subst (OfLanguage s.text) tree own)))

  call_low : {n : Tree} {en : ℕ} {ps : Parts} → n ≡ node CallExpression [] plain s.last.start en (part (node Identifier (codes "async") plain s.last.start s.last.stop none) ps) → height n ≤ high → parts_height ps ≤ inner
  call_low {n = n} {en = en} {ps = ps} tree low =
      let tall : height n ≡ height (node CallExpression [] plain s.last.start en (part (node Identifier (codes "async") plain s.last.start s.last.stop none) ps)) = ap height tree in
      omega arith

  inner_room : {o less : ℕ} (n : Tree) → (height n ≤ high → less ≤ inner) → Room s o (height n) high → Room m o less inner
  inner_room {o} n low room = (subst (λ c. o ≤ max_open - c) (sym open_same) room.0, low room.1)

  -- the list is refused
  pub async_list_refused : (e k : CursorState) (new newer : List Pair) (answer : Result Operand Fault) (fault : Fault) → IsErrAnd answer (λ x. x ≡ fault) → ListComplete m k mid newer inner l (Err fault) → AsyncCallComplete s e old new high t p answer
  async_list_refused e k new newer answer fault err complete = λ a h o n from to P later next class word start f own.
      agrees_err (Room s o (height n) high) (Same s e old new a h n to P) answer fault err (of (given later next class word start f) own)
    where
      of : {a : Reading} {h : Rank} {o : ℕ} {n : Tree} {to : Token} {P : List Pair} → Given a h o n to P → OfLanguage s.text n → Refuses (Room s o (height n) high) fault
      of {o = o} {n = n} (an_arrow {x} {k} {ps} {P} reading sign d v pairs) own = refuses_on (Room m o (parts_height ps) inner) (Room s o (height n) high) fault (complete (as_pattern true) o ps k P (arrow_list sign d) (arrow_own v own)) (inner_room n (arrow_low v))
      of {o = o} {n = n} {to} {P} (a_call {given = ps} reading fits tree d quiet) own = refuses_on (Room m o (parts_height ps) inner) (Room s o (height n) high) fault (complete as_expression o ps to P (call_list d) (call_own tree own)) (inner_room n (call_low tree))

  -- the list was read
  module _ (k : CursorState) (newer : List Pair) (whole : ListOf) (kept : whole.listed ≡ l.listed) (complete : ListComplete m k mid newer inner l (Ok whole)) where
    whole_is : whole.listed ≡ listed.AsyncArguments
    whole_is = kept ∙ is

    record Whole (a : Reading) (ps : Parts) (to : Token) (Q : List Pair) : Type 0 where
      fits : is_whole whole a ≡ true
      ends : EndsWith s k old newer to Q

    no_items : l.nodes ≡ none
    no_items = ap (λ (x : ListOf). x.nodes) list_is

    arrow_whole : {o : ℕ} {h : Rank} {n : Tree} {x z to : Token} {ps : Parts} {P R : List Pair} → ReadsHere s.text Punctuator (codes "(") s.last x → RunsIn s.text o (parameter_list ps) ps x z P → ArrowBehind s.text p o h Async s.last.start ps n z to R → OfLanguage s.text n → Whole (as_pattern true) ps z P × (pattern_parts 0 whole.nodes ≡ ps)
    arrow_whole {o} {z = z} {ps = ps} {P = P} sign d v own =
        let w = complete (as_pattern true) o ps z P (arrow_list sign d) (arrow_own v own) in
        (record { fits = w.0; ends = ends_behind same w.2 }, w.1 ∙ ap (λ c. join (pattern_parts 0 c) ps) no_items)

    call_whole : {o : ℕ} {n : Tree} {to : Token} {ps : Parts} {P : List Pair} → RunsIn s.text o (anywhere (arguments ps)) ps s.last to P → n ≡ node CallExpression [] plain s.last.start to.stop (part (node Identifier (codes "async") plain s.last.start s.last.stop none) ps) → OfLanguage s.text n → Whole as_expression ps to P × (whole.nodes ≡ ps)
    call_whole {o} {to = to} {ps = ps} {P = P} d tree own =
        let w = complete as_expression o ps to P (call_list d) (call_own tree own) in
        (record { fits = w.0; ends = ends_behind same w.2 }, w.1 ∙ ap (λ c. join c ps) no_items)

    bound : is_whole whole (as_pattern true) ≡ true → is_bound whole.seen.shape ≡ true
    bound h = last_true (is_bound whole.seen.shape) (sym (ap (λ x. whole_of x whole (as_pattern true)) whole_is) ∙ h)
      where
        last_true : (b : Bool) → ((true && b) && true) ≡ true → b ≡ true
        last_true true h = refl
        last_true false h = absurd (false≢true h)

    value : is_whole whole as_expression ≡ true → whole.seen.shape.is_expression ≡ true
    value h = last_true whole.seen.shape.is_expression (sym (ap (λ x. whole_of x whole as_expression) whole_is) ∙ h)
      where
        last_true : (b : Bool) → ((true && b) && true) ≡ true → b ≡ true
        last_true true h = refl
        last_true false h = absurd (false≢true h)

    -- `=>` stands behind it on its line
    module _ (x : Token) (text2 : k.text ≡ s.text) (sign : ReadsHere k.text Punctuator (codes "=>") k.last x) (line : x.after_break ≡ false) where
      no_call : {to : Token} → k.last ≡ to → ((v : Token) → ReadsHere s.text Punctuator (codes "=>") to v → v.after_break ≡ false → ⊥) → ⊥
      no_call at quiet = quiet x (subst (λ c. ReadsHere s.text Punctuator (codes "=>") c x) at (subst (λ c. ReadsHere c Punctuator (codes "=>") k.last x) text2 sign)) line

      -- its items are no parameters
      pub async_unbound : (e : CursorState) (new : List Pair) (answer : Result Operand Fault) (fault : Fault) (n0 : Parts) (at : ℕ) → IsErrAnd answer (λ z. z ≡ fault) → Becomes n0 (is_bound whole.seen.shape) at (Err fault) → AsyncCallComplete s e old new high t p answer
      async_unbound e new answer fault n0 at err made = λ a h o n from to P later next class word start f own.
          agrees_err (Room s o (height n) high) (Same s e old new a h n to P) answer fault err (of (given later next class word start f) own)
        where
          of : {a : Reading} {h : Rank} {o : ℕ} {n : Tree} {to : Token} {P : List Pair} → Given a h o n to P → OfLanguage s.text n → Refuses (Room s o (height n) high) fault
          of (an_arrow reading paren d v pairs) own = absurd (false≢true (sym made.1 ∙ bound (arrow_whole paren d v own).0.fits))
          of (a_call reading fits tree d quiet) own = absurd (no_call (call_whole d tree own).0.ends.place quiet)

      -- the arrow
      pub async_arrow_agrees : (e : CursorState) (new later_pairs : List Pair) (parameters : Parts) (from0 : ℕ) (result : Result Operand Fault) → k.opened ≡ s.opened → later_pairs ≡ newer → parameters ≡ pattern_parts 0 whole.nodes → from0 ≡ t.start →
          IfOk result (λ r. Adds k e later_pairs new (ArrowAt k.text Async p.has_in parameters from0 r)) → ArrowComplete k e later_pairs new high parameters from0 Async p.has_in result → AsyncCallComplete s e old new high t p result
      async_arrow_agrees e new later_pairs parameters from0 result open2 same2 params begin derived complete2 = λ a h o n from to P later next class word start f own. of (begin ∙ starts next) (given later next class word start f) own
        where
          starts : {from : Token} → SeenNext s.text from (as_read (token_of t)) s.last → t.start ≡ s.last.start
          starts {from} next = sym (ap (λ (c : Token). c.start) ((seen_determined s.text).last from (as_read (token_of t)) s.last next))

          of : {a : Reading} {h : Rank} {o : ℕ} {n : Tree} {to : Token} {P : List Pair} → from0 ≡ s.last.start → Given a h o n to P → OfLanguage s.text n → Agrees (Room s o (height n) high) (Same s e old new a h n to P) result
          of begin (a_call reading fits tree d quiet) own = absurd (no_call (call_whole d tree own).0.ends.place quiet)
          of {a} {h} {o} {n} {to} {P} begin (an_arrow {k = z} {ps = ps} {P = Q} {R = R} reading paren d v pairs) own =
              let w = arrow_whole paren d v own in
              let inner_answer = arrow_agrees s k e later_pairs new high p Async parameters from0 result text2 open2 (sym w.0.ends.place) (params ∙ w.1) begin derived complete2 v own in
              subst (λ c. Agrees (Room s o (height n) high) (Same s e old new c h n to P) result) (sym reading)
              (through (Room s o (height n) high) (λ r. IsFirst as_expression h r n) result (λ g. ends_same (sym pairs) (ends_both w.0.ends (ends_behind same2 g))) inner_answer)
            where
              through : (W : Type 0) (Is : Operand → Type 0) (result : Result Operand Fault) → (EndsWith k e later_pairs new to R → EndsWith s e old new to P) → Agrees W (λ r. Is r × EndsWith k e later_pairs new to R) result → Agrees W (λ r. Is r × EndsWith s e old new to P) result
              through W Is (Ok r) f h = (h.0, f h.1)
              through W Is (Err fault) f h = refuses_on W W fault h (λ w. w)

    -- none does: it is a call
    pub async_call_agrees : (e : CursorState) (new : List Pair) (At : ℕ → Type 0) (result : Result Operand Fault) → ((v : Token) → ReadsHere s.text Punctuator (codes "=>") k.last v → v.after_break ≡ false → ⊥) → e.last ≡ k.last → new ≡ newer →
        (let call = async_call_node (token_of t) e.last.stop whole.nodes in YieldsWhere (plain_part call Call Other) At whole.seen.shape.is_expression (height call) high result) → AsyncCallComplete s e old new high t p result
    async_call_agrees e new At result quiet last same2 made = λ a h o n from to P later next class word start f own. of result made (named next class word) (starts next) (given later next class word start f) own
      where
        starts : {from : Token} → SeenNext s.text from (as_read (token_of t)) s.last → t.start ≡ s.last.start
        starts {from} next = sym (ap (λ (c : Token). c.start) ((seen_determined s.text).last from (as_read (token_of t)) s.last next))

        call : Tree
        call = async_call_node (token_of t) e.last.stop whole.nodes

        of : {a : Reading} {h : Rank} {o : ℕ} {n : Tree} {to : Token} {P : List Pair} (result : Result Operand Fault) → YieldsWhere (plain_part call Call Other) At whole.seen.shape.is_expression (height call) high result → single_node Identifier (token_of t) ≡ node Identifier (codes "async") plain s.last.start s.last.stop none → t.start ≡ s.last.start →
            Given a h o n to P → OfLanguage s.text n → Agrees (Room s o (height n) high) (Same s e old new a h n to P) result
        of result made name begin (an_arrow reading paren d v pairs) own = absurd (quiet v.sign (subst (λ c. ReadsHere s.text Punctuator (codes "=>") c v.sign) (sym (arrow_whole paren d v own).0.ends.place) v.reads) v.line)
        of {a} {h} {o} {n} {to} {P} result made name begin (a_call {given = ps} reading fits tree d no_arrow) own =
            let w = call_whole d tree own in
            let end : e.last ≡ to = last ∙ w.0.ends.place in
            let same : call ≡ n = (λ i. node CallExpression [] plain (begin i) (end i).stop (part (name i) (w.1 i))) ∙ sym tree in
            answered result made same (value w.0.fits) (record { place = end; more = w.0.ends.more; added = same2 ∙ w.0.ends.added; pairs = w.0.ends.pairs })
          where
            answered : (result : Result Operand Fault) → YieldsWhere (plain_part call Call Other) At whole.seen.shape.is_expression (height call) high result → call ≡ n → whole.seen.shape.is_expression ≡ true → EndsWith s e old new to P → Agrees (Room s o (height n) high) (Same s e old new a h n to P) result
            answered (Ok r) made same value ends = (subst (λ c. IsFirst a h c n) (sym made.0) (made_first reading same (λ c. absurd (false≢true (sym (ap (λ (z : Tree). is_simple (kind_of z)) tree) ∙ c))) fits), ends)
            answered (Err fault) made same value ends = refuses_where (Room s o (height n) high) At whole.seen.shape.is_expression (height call) high fault made value (λ room. subst (λ c. height c ≤ high) (sym same) room.1)
