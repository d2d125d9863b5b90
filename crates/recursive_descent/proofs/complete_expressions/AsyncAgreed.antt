-- What is read behind `async` agrees with what is given: functions, arrows and the name alone (ECMA-262, 13th edition, 15.8, 15.9).
use Rattle.std.proofs.Common.{◌≡◌, ℕ, suc, ◌-◌, ◌≤◌, Bool, true, false, List, [], refl, sym, ap, ◌∙◌, subst, arith, Result, Ok, Err}
use Rattle.std.specs.Prelude.{IsTrue, codes, not, map}
use Rattle.std.specs.Result.{IfOk, IsErrAnd}
use Rattle.std.proofs.lemmas.Bool.{false≢true}
use Rattle.source_text.specs.declared.fault.Fault.{Fault}
use Rattle.tokens.specs.Scanned.{token_of}
use Rattle.tokens.specs.declared.token.TokenClass.TheVariants.{IdentifierName, Punctuator}
use Rattle.tokens.specs.declared.token.Token.{Token as Scanned}
use Rattle.token_cursor.specs.CursorState.{CursorState}
use Rattle.tree.specs.declared.kind.Form.{Form}
use Rattle.tree.specs.declared.kind.Form.TheVariants.{Init, Async, AsyncGenerator}
use Rattle.tree.specs.declared.kind.Kind.TheVariants.{Identifier, ArrowFunctionExpression}
use Rattle.tree.specs.declared.kind.Pair.{Pair}
use Rattle.tree.specs.Tree.{Tree, node, plain, Parts, none, part, push, kind_of, height, parts_height}
use Rattle.tree.specs.Uses.{is_async}
use Rattle.language.specs.declared.Rank.{Rank}
use Rattle.language.specs.declared.Rank.TheVariants.{Assignment, Primary}
use Rattle.language.specs.declared.Edge.TheVariants.{Other}
use Rattle.language.specs.Languages.{is_of_2022}
use Rattle.language.specs.Claims.{max_open}
use Rattle.language.specs.Covers.{Reading, as_expression, as_pattern}
use Rattle.language.specs.Vocabulary.{takes, is_reserved, is_target as is_simple}
use Rattle.language.specs.Token.{Token, as_read}
use Rattle.language.specs.Expressions.{arrow_end, function_words}
use Rattle.language.specs.Pieces.{settle_piece}
use Rattle.language.specs.declared.Start.TheVariants.{Any}
use Rattle.recursive_descent.specs.SoundnessOfStatements.{behind_words}
use Rattle.recursive_descent.proofs.reading.SeenClasses.{seen_name}
use Rattle.language.specs.Derivation.{Reads, step, token, laid, same_line, done}
use Rattle.language.proofs.climbing.NamesBehind.{no_function_behind, no_arrow_behind}
use Rattle.language.proofs.covers.CoverReadings.{name_or_sign}
use Rattle.productions.specs.Made.{Makes}
use Rattle.token_cursor.proofs.SeenTokens.{seen_determined}
use Rattle.token_cursor.specs.Seen.{ReadsHere, NameHere, is_free_name}
use Rattle.token_cursor.specs.SourceText.{SourceText, SeenNext, behind_in}
use Rattle.parser_tables.specs.Operands.{plain_part}
use Rattle.parser_tables.specs.Tokens.{single_node}
use Rattle.parser_tables.specs.declared.expression_context.ExpressionContext.{ExpressionContext}
use Rattle.parser_tables.specs.declared.functions_and_classes.FunctionOrClass.TheVariants as closure
use Rattle.parser_tables.specs.declared.operand.Operand.{Operand}
use Rattle.recursive_descent.specs.declared.async_and_yield.AsyncStart.TheVariants as begun
use Rattle.recursive_descent.specs.Soundness.{RunsIn, Adds, ArrowAt, anywhere}
use Rattle.recursive_descent.specs.Complete.{ArrowComplete, FunctionOrClassComplete}
use Rattle.recursive_descent.specs.Completeness.{Agrees, Room, EndsWith, IsFirst, StopsIn}
use Rattle.recursive_descent.specs.Later.{WordsAt, AsyncBegun, AsyncComplete, behind_first}
use Rattle.recursive_descent.specs.Spelled.{OfLanguage, AllOfLanguage}
use Rattle.recursive_descent.proofs.reading.LanguageTrees.{parts_of_language, push_of_language}
use Rattle.recursive_descent.proofs.sound_expressions.ArrowFunctions.{flagged}
use Rattle.recursive_descent.proofs.sound_expressions.AsyncExpressions.{async_passed}
use Rattle.recursive_descent.proofs.sound_expressions.KeywordExpressions.{read_name}
use Rattle.recursive_descent.proofs.complete_expressions.Agreement.{refuses_on, refuses_made, agrees_err, marks_same, words_same, not_missed, ends_none, ends_same, ends_behind, agrees_as}
use Rattle.recursive_descent.proofs.complete_expressions.AsyncFirst.{FunctionBehind, unstarred, starred, ArrowBehind, NameAlone, AsyncFirst, the_name, its_arrow, a_function, one_name, in_parentheses, a_call, async_first}
use Rattle.recursive_descent.proofs.complete_expressions.FunctionsAndClassesGiven.{ClosureGiven}
use Rattle.recursive_descent.proofs.complete_expressions.KeywordExpressionsGiven.{closure_first}
use Rattle.recursive_descent.proofs.complete_expressions.StartsGiven.{has_height}

function_reserved : is_reserved (codes "function") ≡ true
unfolding is_reserved
function_reserved = refl

-- what is given where the word `function` stands behind on its line
pub record FunctionGiven (text : SourceText) (o : ℕ) (h : Rank) (n : Tree) (m to : Token) (Q : List Pair) (a : Reading) : Type 0 where
  pub word : Token
  pub reads : ReadsHere text IdentifierName (codes "function") m word
  pub behind : FunctionBehind text o h m n word to Q a

-- where a name stands there, and `=>`
pub record NameGiven (text : SourceText) (p : ExpressionContext) (o : ℕ) (h : Rank) (n : Tree) (m to : Token) (Q : List Pair) (a : Reading) : Type 0 where
  pub reading : a ≡ as_expression
  pub place : Token
  pub given : Tree
  pub name : NameHere text is_free_name m place
  pub tree : given ≡ node Identifier place.text plain place.start place.stop none
  pub arrow : ArrowBehind text p o h Async m.start (part given none) n place to Q

-- else the name alone, or an arrow with it
pub data AloneGiven (text : SourceText) (p : ExpressionContext) (o : ℕ) (h : Rank) (n : Tree) (m to : Token) (Q : List Pair) (a : Reading) : Type 0 where
  a_name : n ≡ node Identifier (codes "async") plain m.start m.stop none → to ≡ m → Q ≡ [] → IsTrue (takes h Primary) → ((b : Bool) → a ≡ as_pattern b → b ≡ true) → NameAlone text p m → AloneGiven text p o h n m to Q a
  an_arrow : a ≡ as_expression → ArrowBehind text p o h Init m.start (part (node Identifier (codes "async") plain m.start m.stop none) none) n m to Q → AloneGiven text p o h n m to Q a

free : (w : List ℕ) → not (is_reserved w) ≡ true → is_reserved w ≡ false
free w k = of (is_reserved w) k
  where
    of : (b : Bool) → not b ≡ true → b ≡ false
    of false k = refl
    of true k = absurd (false≢true k)

module _ (text : SourceText) where
  -- a name that isn't reserved is no `function`
  no_function : {m k word : Token} → NameHere text is_free_name m k → ReadsHere text IdentifierName (codes "function") m word → ⊥
  no_function {k} {word} name r =
      let texts : k.text ≡ codes "function" = ap (λ (t : Token). t.text) (words_same text name.0 r).0 ∙ r.text in
      false≢true (sym (ap not (ap is_reserved texts ∙ function_reserved)) ∙ name.1)

  -- the name of a call ends where `async` does
  called_there : {s m k x : Token} → ReadsHere text IdentifierName (codes "async") s m → ReadsHere text IdentifierName (codes "async") s k → ReadsHere text Punctuator (codes "(") k x → ReadsHere text Punctuator (codes "(") m x
  called_there {x = x} word r sign = subst (λ c. ReadsHere text Punctuator (codes "(") c x) (words_same text r word).1 sign

  module _ {p : ExpressionContext} {o : ℕ} {h : Rank} {n : Tree} {s m to : Token} {Q : List Pair} {a : Reading} where
    pub function_only : ReadsHere text IdentifierName (codes "async") s m → AsyncBegun text p m begun.Function → AsyncFirst text p o h n s m to Q a → FunctionGiven text o h n m to Q a
    function_only word start (the_name tree place pairs tk b alone) = absurd (no_function_behind Token (SeenNext text) (behind_in text) (seen_determined text) alone.apart start.1 start.2)
    function_only word start (its_arrow reading arrow) = absurd (name_or_sign Token (SeenNext text) (behind_in text) (seen_determined text) refl start.1 arrow.reads)
    function_only word start (a_function reading begins r line behind) = record { word = _; reads = r; behind = behind }
    function_only word start (one_name reading name line tree arrow) = absurd (no_function name start.1)
    function_only word start (in_parentheses reading sign line d arrow pairs) = absurd (name_or_sign Token (SeenNext text) (behind_in text) (seen_determined text) refl start.1 sign)
    function_only word start (a_call reading tk fits call st d gs) = absurd (name_or_sign Token (SeenNext text) (behind_in text) (seen_determined text) refl start.1 (called_there word call.name call.sign))

    pub name_only : ReadsHere text IdentifierName (codes "async") s m → AsyncBegun text p m begun.Parameter → AsyncFirst text p o h n s m to Q a → NameGiven text p o h n m to Q a
    name_only word start (the_name tree place pairs tk b alone) = absurd (no_arrow_behind Token (SeenNext text) (behind_in text) (seen_determined text) alone.apart start.2.0 (free start.0.text start.2.1) start.3 start.4)
    name_only word start (its_arrow reading arrow) = absurd (name_or_sign Token (SeenNext text) (behind_in text) (seen_determined text) refl start.2.0 arrow.reads)
    name_only word start (a_function reading begins r line behind) = absurd (no_function start.2 r)
    name_only word start (one_name {k = k} {v = v} reading name line tree arrow) = record { reading = reading; place = k; given = v; name = name; tree = tree; arrow = arrow }
    name_only word start (in_parentheses reading sign line d arrow pairs) = absurd (name_or_sign Token (SeenNext text) (behind_in text) (seen_determined text) refl start.2.0 sign)
    name_only word start (a_call reading tk fits call st d gs) = absurd (name_or_sign Token (SeenNext text) (behind_in text) (seen_determined text) refl start.2.0 (called_there word call.name call.sign))

    pub alone_only : ReadsHere text IdentifierName (codes "async") s m → AsyncBegun text p m begun.Name → AsyncFirst text p o h n s m to Q a → AloneGiven text p o h n m to Q a
    alone_only word start (the_name tree place pairs tk b alone) = a_name tree place pairs tk b alone
    alone_only word start (its_arrow reading arrow) = an_arrow reading arrow
    alone_only word start (a_function {word = k} reading begins r line behind) = absurd (false≢true (sym (start.0 k r line) ∙ begins))
    alone_only word start (one_name {k = k} reading name line tree arrow) = absurd (false≢true (sym (start.1 k arrow.sign name line arrow.reads arrow.line) ∙ arrow.taken))
    alone_only word start (in_parentheses {x = x} reading sign line d arrow pairs) = absurd (false≢true (sym (start.2 x sign line) ∙ arrow.taken))
    alone_only word start (a_call reading tk fits call st d gs) = absurd (false≢true (sym (start.2 call.paren (called_there word call.name call.sign) call.line) ∙ tk))

-- the words of the function that was read, against those that are given
words_agree : (s m : CursorState) {y : Form} {o : ℕ} {h : Rank} {n : Tree} {word to : Token} {Q : List Pair} {a : Reading} → is_of_2022 s.text.language ≡ true → WordsAt s m y → is_async y ≡ true → ReadsHere s.text IdentifierName (codes "function") s.last word → FunctionBehind s.text o h s.last n word to Q a →
    ClosureGiven s.text o h s.last n m.last to Q a (closure.Function y)
words_agree s m {y} {o} {h} {n} {word} {to} {Q} {a} later words is r v = of y is words v
  where
    ended : {t : Token} → Reads Token (SeenNext s.text) (behind_in s.text) IdentifierName (codes "function") s.last t m.last → word ≡ m.last
    ended q = (words_same s.text r q).1

    of : (y : Form) → is_async y ≡ true → WordsAt s m y → FunctionBehind s.text o h s.last n word to Q a → ClosureGiven s.text o h s.last n m.last to Q a (closure.Function y)
    of Async is w v = by (w.1 0) v
      where
        by : RunsIn s.text 0 (anywhere (behind_first (function_words Async))) none s.last m.last [] → FunctionBehind s.text o h s.last n word to Q a → ClosureGiven s.text o h s.last n m.last to Q a (closure.Function Async)
        by (step (same_line next line) (step laid (step (token q) done))) (unstarred missed v) = subst (λ c. ClosureGiven s.text o h s.last n c to Q a (closure.Function Async)) (ended q) v
        by (step (same_line next line) (step laid (step (token q) done))) (starred {mid = mid} sign v) = absurd (not_missed (w.2.1 refl later) (subst (λ c. ReadsHere s.text Punctuator (codes "*") c mid) (ended q) sign))
    of AsyncGenerator is w v = by (w.1 0) v
      where
        by : RunsIn s.text 0 (anywhere (behind_first (function_words AsyncGenerator))) none s.last m.last [] → FunctionBehind s.text o h s.last n word to Q a → ClosureGiven s.text o h s.last n m.last to Q a (closure.Function AsyncGenerator)
        by (step (same_line next line) (step laid (step (token q) (step (token star) done)))) v = with_star star (words_same s.text r q).1 v
          where
            with_star : {at : Token} {t : Token} → Reads Token (SeenNext s.text) (behind_in s.text) Punctuator (codes "*") at t m.last → word ≡ at → FunctionBehind s.text o h s.last n word to Q a → ClosureGiven s.text o h s.last n m.last to Q a (closure.Function AsyncGenerator)
            with_star {t = t} star at (unstarred missed v) = absurd (not_missed missed (subst (λ c. Reads Token (SeenNext s.text) (behind_in s.text) Punctuator (codes "*") c t m.last) (sym at) star))
            with_star {t = t} star at (starred sign v) = subst (λ c. ClosureGiven s.text o h s.last n c to Q a (closure.Function AsyncGenerator)) (marks_same s.text sign (subst (λ c. Reads Token (SeenNext s.text) (behind_in s.text) Punctuator (codes "*") c t m.last) (sym at) star)).1 v
    of _ is w v = cc

-- an arrow that is given, against what is read behind its parameters
pub arrow_agrees : (s k e : CursorState) (mid new : List Pair) (high : ℕ) (p : ExpressionContext) (x : Form) (parameters : Parts) (start : ℕ) (result : Result Operand Fault) {o : ℕ} {h : Rank} {n : Tree} {from : ℕ} {place to : Token} {Q : List Pair} {given : Parts} → k.text ≡ s.text → k.opened ≡ s.opened → place ≡ k.last → parameters ≡ given → start ≡ from →
    IfOk result (λ r. Adds k e mid new (ArrowAt k.text x p.has_in parameters start r)) → ArrowComplete k e mid new high parameters start x p.has_in result → ArrowBehind s.text p o h x from given n place to Q → OfLanguage s.text n →
    Agrees (Room s o (height n) high) (λ (r : Operand). IsFirst as_expression h r n × EndsWith k e mid new to Q) result
arrow_agrees s k e mid new high p x parameters start result {o} {h} {n} {from} {place} {to} {Q} {given} text open_same at same begin derived complete v own =
    let made : Tree = node ArrowFunctionExpression [] (flagged x v.flag) start to.stop (push parameters v.operand) in
    let alike : made ≡ n = (λ i. node ArrowFunctionExpression [] (flagged x v.flag) (begin i) to.stop (push (same i) v.operand)) ∙ sym v.tree in
    let levels : height made ≡ height n = ap height alike in
    let inner : OfLanguage s.text v.operand = (push_of_language given v.operand (parts_of_language (subst (OfLanguage s.text) v.tree own))).1 in
    let runs = subst (λ c. RunsIn c o (map (settle_piece Assignment p.has_in Any) (arrow_end (flagged x v.flag))) (part v.operand none) k.last to Q) (sym text)
    (subst (λ c. RunsIn s.text o (map (settle_piece Assignment p.has_in Any) (arrow_end (flagged x v.flag))) (part v.operand none) c to Q) at v.runs) in
    let answer = complete (flagged x v.flag) v.operand o to Q refl runs (λ is. subst (λ c. StopsIn c Assignment p.has_in v.operand to) (sym text) (v.stops is)) (subst (λ c. OfLanguage c v.operand) (sym text) inner) in
    agrees_as (Room k o (height made) high) (Room s o (height n) high) (λ r. Adds k e mid new (ArrowAt k.text x p.has_in parameters start r)) (λ r. (r.cover.node ≡ made) × EndsWith k e mid new to Q) (λ r. IsFirst as_expression h r n × EndsWith k e mid new to Q) result derived answer
    (λ room. (subst (λ c. o ≤ max_open - c) (sym open_same) room.0, let below = room.1 in omega arith))
    (λ r a w. (
      record {
        read = record { fits = a.is.simple.0; tree = w.0 ∙ alike; target = λ c. absurd (false≢true (sym (ap (λ (t : Tree). is_simple (kind_of t)) v.tree) ∙ c)); pattern = λ b c d. cc };
        taken = subst (λ c. IsTrue (takes h c)) (sym a.is.rank) v.stands;
        alone = λ b c. cc;
      },
      w.1,
    ))

-- an answer whose pairs follow others
agrees_behind : {k e : CursorState} {s : CursorState} {old mid new : List Pair} {to : Token} {Q : List Pair} (W : Type 0) (Is : Operand → Type 0) (result : Result Operand Fault) → (EndsWith k e mid new to Q → EndsWith s e old new to Q) → Agrees W (λ r. Is r × EndsWith k e mid new to Q) result → Agrees W (λ r. Is r × EndsWith s e old new to Q) result
agrees_behind W Is (Ok r) f h = (h.0, f h.1)
agrees_behind W Is (Err fault) f h = refuses_on W W fault h (λ w. w)

module _ (s e : CursorState) (old new : List Pair) (high : ℕ) (p : ExpressionContext) (t : Scanned) (here : behind_in s.text s.last ≡ as_read (token_of t)) where
  begins_there : t.start ≡ s.last.start
  begins_there = sym (ap (λ (c : Token). c.start) here)

  -- the node of the name
  named_there : {from : Token} → ReadsHere s.text IdentifierName (codes "async") from s.last → single_node Identifier (token_of t) ≡ node Identifier (codes "async") plain s.last.start s.last.stop none
  named_there r = let w = async_passed t here r in (λ i. single_node Identifier (sym w.same i)) ∙ ap (λ c. node Identifier c plain s.last.start s.last.stop none) w.reads.text

  -- a function
  module _ (m : CursorState) (mid : List Pair) (y : Form) (start : ℕ) (opening : AsyncBegun s.text p s.last begun.Function) (text : m.text ≡ s.text) (open_same : m.opened ≡ s.opened) (same : mid ≡ old) (words : WordsAt s m y) (is : is_async y ≡ true) (begin : start ≡ t.start) where
    function_given : {a : Reading} {h : Rank} {o : ℕ} {n : Tree} {from to : Token} {P : List Pair} → is_of_2022 s.text.language ≡ true → ReadsHere s.text IdentifierName (codes "async") from s.last → AsyncFirst s.text p o h n from s.last to P a → ClosureGiven s.text o h s.last n m.last to P a (closure.Function y)
    function_given later word v = let g = function_only s.text word opening v in words_agree s m later words is g.reads g.behind

    function_own : {a : Reading} {h : Rank} {o : ℕ} {n : Tree} {to : Token} {P : List Pair} (v : ClosureGiven s.text o h s.last n m.last to P a (closure.Function y)) → OfLanguage s.text n → AllOfLanguage m.text v.parts
    function_own v own = subst (λ c. AllOfLanguage c v.parts) (sym text) (parts_of_language (subst (OfLanguage s.text) v.tree own))

    pub async_function_refused : (answer : Result Operand Fault) (fault : Fault) → IsErrAnd answer (λ x. x ≡ fault) → FunctionOrClassComplete m e mid new high (closure.Function y) start (Err fault) → AsyncComplete s e old new high p answer
    async_function_refused answer fault err complete = λ a h o n from to P later word first own.
        let v = function_given later word (async_first s.text later word first) in
        let tall : height n ≡ suc (parts_height v.parts) = ap height v.tree in
        agrees_err (Room s o (height n) high) (λ (r : Operand). IsFirst a h r n × EndsWith s e old new to P) answer fault err
        (refuses_on (Room m o (suc (parts_height v.parts)) high) (Room s o (height n) high) fault (complete v.parts o to P (subst (λ c. RunsIn c o (anywhere (behind_words v.parts)) v.parts m.last to P) (sym text) v.runs) (λ c. absurd (false≢true c)) (function_own v own))
        (λ room. (subst (λ c. o ≤ max_open - c) (sym open_same) room.0, let below = room.1 in omega arith)))

    pub async_function_read : {n : Tree} {r : Operand} → FunctionOrClassComplete m e mid new high (closure.Function y) start (Ok n) → r ≡ plain_part n Primary Other → AsyncComplete s e old new high p (Ok r)
    async_function_read {n = made} {r = r} complete part_is = λ a h o n from to P later word first own.
        let v = function_given later word (async_first s.text later word first) in
        let u = complete v.parts o to P (subst (λ c. RunsIn c o (anywhere (behind_words v.parts)) v.parts m.last to P) (sym text) v.runs) (λ c. absurd (false≢true c)) (function_own v own) in
        (closure_first v start made r (begin ∙ begins_there) u.0 part_is, ends_behind same u.1)

  -- an arrow with one name
  module _ (m : CursorState) (mid : List Pair) (v : Scanned) (opening : AsyncBegun s.text p s.last begun.Parameter) (text : m.text ≡ s.text) (open_same : m.opened ≡ s.opened) (same : mid ≡ old) (name : NameHere s.text is_free_name s.last m.last) (last : m.last ≡ as_read (token_of v)) where
    parameter_given : {a : Reading} {h : Rank} {o : ℕ} {n : Tree} {from to : Token} {P : List Pair} → ReadsHere s.text IdentifierName (codes "async") from s.last → AsyncFirst s.text p o h n from s.last to P a → (g : NameGiven s.text p o h n s.last to P a) × (g.place ≡ m.last) × (g.given ≡ single_node Identifier (token_of v))
    parameter_given word f =
        let g = name_only s.text word opening f in
        let same = words_same s.text g.name.0 name.0 in
        let class : m.last.class ≡ IdentifierName = seen_name s.text.language m.last.class m.last.text name.0.class in
        let told : m.last ≡ token_of v = last ∙ read_name (token_of v) (sym (ap (λ (z : Token). z.class) last) ∙ class) in
        (g, same.1, g.tree ∙ (λ i. single_node Identifier (same.1 i)) ∙ (λ i. single_node Identifier (told i)))

    pub async_name_refused : (answer : Result Operand Fault) (fault : Fault) → IsErrAnd answer (λ x. x ≡ fault) → Makes (single_node Identifier (token_of v)) high (Err fault) → AsyncComplete s e old new high p answer
    async_name_refused answer fault err made = λ a h o n from to P later word first own.
        let low = has_height n in
        agrees_err (Room s o (height n) high) (λ (r : Operand). IsFirst a h r n × EndsWith s e old new to P) answer fault err (refuses_made (Room s o (height n) high) (single_node Identifier (token_of v)) high fault made (λ room. let below = room.1 in omega arith))

    pub async_name_arrow : {n0 : Tree} {ps : Parts} {start : ℕ} (result : Result Operand Fault) → n0 ≡ single_node Identifier (token_of v) → ps ≡ part n0 none → start ≡ t.start → IfOk result (λ r. Adds m e mid new (ArrowAt m.text Async p.has_in ps start r)) → ArrowComplete m e mid new high ps start Async p.has_in result → AsyncComplete s e old new high p result
    async_name_arrow {n0} {ps} {start} result made given begin derived complete = λ a h o n from to P later word first own.
        let g = parameter_given word (async_first s.text later word first) in
        subst (λ c. Agrees (Room s o (height n) high) (λ (r : Operand). IsFirst c h r n × EndsWith s e old new to P) result) (sym g.0.reading)
        (agrees_behind (Room s o (height n) high) (λ r. IsFirst as_expression h r n) result (ends_behind same)
        (arrow_agrees s m e mid new high p Async ps start result text open_same g.1 (given ∙ ap (λ c. part c none) (made ∙ sym g.2)) (begin ∙ begins_there) derived complete g.0.arrow own))

  -- the name
  module _ (opening : AsyncBegun s.text p s.last begun.Name) where
    -- with `=>` behind it, where the position takes an arrow
    pub async_alone_arrow : {n0 : Tree} {ps : Parts} {start : ℕ} (result : Result Operand Fault) (x : Token) → n0 ≡ single_node Identifier (token_of t) → ps ≡ part n0 none → start ≡ t.start → ReadsHere s.text Punctuator (codes "=>") s.last x → x.after_break ≡ false → takes p.rank Assignment ≡ true →
        IfOk result (λ r. Adds s e old new (ArrowAt s.text Init p.has_in ps start r)) → ArrowComplete s e old new high ps start Init p.has_in result → AsyncComplete s e old new high p result
    async_alone_arrow {n0} {ps} {start} result x made given begin sign line tk derived complete = λ a h o n from to P later word first own. of word (alone_only s.text word opening (async_first s.text later word first)) own
      where
        of : {a : Reading} {h : Rank} {o : ℕ} {n : Tree} {from to : Token} {P : List Pair} → ReadsHere s.text IdentifierName (codes "async") from s.last → AloneGiven s.text p o h n s.last to P a → OfLanguage s.text n → Agrees (Room s o (height n) high) (λ (r : Operand). IsFirst a h r n × EndsWith s e old new to P) result
        of word (a_name tree place pairs fits b alone) own = absurd (false≢true (sym line ∙ alone.arrow tk x sign))
        of {a} {h} {o} {n} {from} {to} {P} word (an_arrow reading arrow) own =
            subst (λ c. Agrees (Room s o (height n) high) (λ (r : Operand). IsFirst c h r n × EndsWith s e old new to P) result) (sym reading)
            (arrow_agrees s s e old new high p Init ps start result refl refl refl (given ∙ ap (λ c. part c none) (made ∙ named_there word)) (begin ∙ begins_there) derived complete arrow own)

    -- else alone
    pub async_alone_read : {n0 : Tree} {r : Operand} → ((x : Token) → ReadsHere s.text Punctuator (codes "=>") s.last x → x.after_break ≡ false → IsTrue (takes p.rank Assignment) → ⊥) → n0 ≡ single_node Identifier (token_of t) → r ≡ plain_part n0 Primary Other → e.last ≡ s.last → new ≡ old → AsyncComplete s e old new high p (Ok r)
    async_alone_read {n0} {r} quiet made part_is last same = λ a h o n from to P later word first own. of word (alone_only s.text word opening (async_first s.text later word first))
      where
        of : {a : Reading} {h : Rank} {o : ℕ} {n : Tree} {from to : Token} {P : List Pair} → ReadsHere s.text IdentifierName (codes "async") from s.last → AloneGiven s.text p o h n s.last to P a → IsFirst a h r n × EndsWith s e old new to P
        of word (an_arrow reading arrow) = absurd (quiet arrow.sign arrow.reads arrow.line arrow.taken)
        of {a} {h} {o} {n} {from} {to} {P} word (a_name tree place pairs fits b alone) = (
          subst (λ c. IsFirst a h c n) (sym part_is) (subst (λ c. IsFirst a h (plain_part c Primary Other) n) (sym (made ∙ named_there word)) (subst (λ c. IsFirst a h (plain_part (node Identifier (codes "async") plain s.last.start s.last.stop none) Primary Other) c) (sym tree) (name_first a fits b))),
          ends_same (sym pairs) (ends_none (last ∙ sym place) same),
        )
          where
            name_first : (a : Reading) → IsTrue (takes h Primary) → ((b : Bool) → a ≡ as_pattern b → b ≡ true) → IsFirst a h (plain_part (node Identifier (codes "async") plain s.last.start s.last.stop none) Primary Other) (node Identifier (codes "async") plain s.last.start s.last.stop none)
            name_first as_expression fits b = record { read = record { fits = refl; tree = refl; target = λ k. refl; pattern = λ c k l. cc }; taken = fits; alone = λ c k. refl }
            name_first (as_pattern true) fits b = record { read = record { fits = refl; tree = refl; target = λ k. refl; pattern = λ c k l. cc }; taken = fits; alone = λ c k. refl }
            name_first (as_pattern false) fits b = absurd (false≢true (b false refl))
