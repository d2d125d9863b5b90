-- What begins with `async` where an expression is given, by what stands behind that name (ECMA-262, 13th edition, 15.8, 15.9).
use Rattle.std.proofs.Common.{◌≡◌, ℕ, Bool, true, false, cond, List, [], ◌∷◌, ◌++◌, refl, sym, ap, ◌∙◌, subst, arith}
use Rattle.std.specs.Prelude.{IsTrue, codes, map, not}
use Rattle.std.proofs.lemmas.Bool.{false≢true}
use Rattle.tokens.specs.declared.token.TokenClass.TheVariants.{IdentifierName, Punctuator}
use Rattle.tokens.specs.declared.token.Goal.TheVariants.{Div, RegExp}
use Rattle.tree.specs.declared.kind.Form.{Form}
use Rattle.tree.specs.declared.kind.Form.TheVariants.{Init, Async, AsyncGenerator}
use Rattle.tree.specs.declared.kind.Kind.TheVariants.{Identifier, ArrowFunctionExpression, FunctionExpression}
use Rattle.tree.specs.declared.kind.Pair.{Pair}
use Rattle.tree.specs.Tree.{Tree, node, plain, Parts, none, part, push, join, bare, bare_parts, kind_of, start_of, stop_of}
use Rattle.tree.specs.Uses.{is_lean, used_flags, has_text, is_async}
use Rattle.tree.proofs.Lean.{lean_flags, lean_text}
use Rattle.language.specs.declared.Rank.{Rank}
use Rattle.language.specs.declared.Rank.TheVariants.{Assignment, Call, Primary}
use Rattle.language.specs.declared.Start.{Start}
use Rattle.language.specs.declared.Start.TheVariants.{Any, NoBrace, Statement}
use Rattle.language.specs.Languages.{is_of_2022}
use Rattle.language.specs.Covers.{Reading, as_expression, as_pattern}
use Rattle.language.specs.Vocabulary.{takes, is_reserved}
use Rattle.language.specs.Token.{Token}
use Rattle.language.specs.Edges.{edge, edge_as_written}
use Rattle.language.specs.Expressions.{arrow_end, function_pieces}
use Rattle.language.specs.ExpressionStart.{with_name}
use Rattle.language.specs.Pieces.{expr, body, settle_piece}
use Rattle.language.specs.Promises.{ReadBy, Apart, is_free}
use Rattle.language.specs.Grammar.{starts}
use Rattle.language.specs.Derivation.{Reads, Placed, placed, step, token, laid, same_line}
use Rattle.language.proofs.table.Begins.{retell}
use Rattle.language.proofs.table.TokenFirstWays.{head_identifier, head_short_arrow, head_async, opens, identifier_opens, async_free}
use Rattle.unambiguity_laws.proofs.cores.AsyncCores.{Parameters, Arrow, Function, Part, part_of}
use Rattle.unambiguity_laws.proofs.cores.AsyncCores as core
use Rattle.unambiguity_laws.proofs.cores.WordCores.{leaf_same}
use Rattle.language.proofs.table.Reaches.{loose_of}
use Rattle.language.proofs.table.Tails.{tails_assign}
use Rattle.language.proofs.climbing.FirstTurn.{Begun, begun_stops}
use Rattle.language.proofs.climbing.LeftmostParts.{Cored, in_way, core_by}
use Rattle.language.proofs.climbing.Leaves.{by_name, name_form, core_primary}
use Rattle.language.proofs.climbing.NamesBehind.{apart_inside}
use Rattle.language.proofs.climbing.OperatorNodes.{last_runs}
use Rattle.language.proofs.climbing.RightOperands.{one_part}
use Rattle.language.proofs.climbing.BinaryTurns.{same_node}
use Rattle.language.proofs.climbing.Spine.{Grows}
use Rattle.language.proofs.list_loops.FirstPieces.{run_token, run_laid, run_unbroken, run_part}
use Rattle.language.proofs.list_loops.ParameterLists.{parameter_list}
use Rattle.language.proofs.climbing.SingleStarts.{function_parts}
use Rattle.token_cursor.proofs.SeenTokens.{seen_determined}
use Rattle.token_cursor.specs.Seen.{ReadsHere, Misses, NameHere, is_free_name}
use Rattle.token_cursor.specs.SourceText.{SourceText, SeenNext, behind_in}
use Rattle.parser_tables.specs.ExpressionStarts.{takes_function_or_class}
use Rattle.parser_tables.specs.declared.expression_context.ExpressionContext.{ExpressionContext}
use Rattle.parser_tables.specs.declared.functions_and_classes.FunctionOrClass.TheVariants as closure
use Rattle.recursive_descent.specs.Soundness.{RunsIn, anywhere}
use Rattle.recursive_descent.specs.SoundnessOfStatements.{behind_words}
use Rattle.language.proofs.climbing.SpineContinuations.{makes}
use Rattle.tokens.specs.Goals.{allows}
use Rattle.language.specs.Pieces.{sub, tail, put}
use Rattle.language.proofs.climbing.RightOperands.{OnePart}
use Rattle.language.proofs.table.Begins.{goes_to}
use Rattle.language.proofs.table.PatternStarts.{pattern_moves}
use Rattle.language.proofs.covers.CoverReadings.{named_unbracketed}
use Rattle.recursive_descent.specs.Completeness.{StopsIn, Unparenthesized, AsyncCalled, FirstAs, a_core, a_pattern, a_name, an_async_call, Wholly}
use Rattle.recursive_descent.specs.Spelled.{SpellsIn}
use Rattle.recursive_descent.proofs.sound_expressions.ArrowFunctions.{flagged, join_one}
use Rattle.recursive_descent.proofs.sound_expressions.KeywordExpressions.{function_bare}
use Rattle.recursive_descent.proofs.complete_expressions.Agreement.{read_here, words_same}
use Rattle.recursive_descent.proofs.complete_expressions.FunctionsAndClassesGiven.{ClosureGiven, no_star_behind}
use Rattle.recursive_descent.proofs.complete_expressions.OneTokenGiven.{arrow_follows, wholly_back}
use Rattle.recursive_descent.proofs.complete_expressions.StartsGiven.{wholly_takes}
use Rattle.recursive_descent.proofs.complete_expressions.GroupsGiven.{joined_edge}

-- an async function stands where a function may
async_starts : (f : Start) (x : Form) (ps : Parts) → is_async x ≡ true → IsTrue (starts f (function_pieces x ps)) → takes_function_or_class f ≡ true
async_starts Any x ps h st = refl
async_starts NoBrace x ps h st = refl
async_starts Statement Async ps h st = absurd (false≢true st)
async_starts Statement AsyncGenerator ps h st = absurd (false≢true st)
async_starts Statement x ps h st = cc

pushed_edge : (x : Form) (st en : ℕ) (ps : Parts) (n : Tree) (b : Bool) → b ≡ true → edge (node ArrowFunctionExpression [] (flagged x b) st en (join ps (part n none))) ≡ edge n
pushed_edge x st en ps n true e = joined_edge ps n
pushed_edge x st en ps n false e = cc

-- a function behind `function`: with a `*`, or none stands there
pub data FunctionBehind (text : SourceText) (o : ℕ) (h : Rank) (u : Token) (n : Tree) (word to : Token) (Q : List Pair) (a : Reading) : Type 0 where
  unstarred : Misses text Punctuator (codes "*") word → ClosureGiven text o h u n word to Q a (closure.Function Async) → FunctionBehind text o h u n word to Q a
  starred : {mid : Token} → ReadsHere text Punctuator (codes "*") word mid → ClosureGiven text o h u n mid to Q a (closure.Function AsyncGenerator) → FunctionBehind text o h u n word to Q a

-- an arrow behind its parameters, which end here
pub record ArrowBehind (text : SourceText) (p : ExpressionContext) (o : ℕ) (h : Rank) (x : Form) (from : ℕ) (parameters : Parts) (n : Tree) (k to : Token) (Q : List Pair) : Type 0 where
  pub flag : Bool
  pub operand : Tree
  pub sign : Token
  pub reads : ReadsHere text Punctuator (codes "=>") k sign
  pub line : sign.after_break ≡ false
  pub tree : n ≡ node ArrowFunctionExpression [] (flagged x flag) from to.stop (push parameters operand)
  pub runs : RunsIn text o (map (settle_piece Assignment p.has_in Any) (arrow_end (flagged x flag))) (part operand none) k to Q
  pub stops : flag ≡ true → StopsIn text Assignment p.has_in operand to
  pub stands : IsTrue (takes h Assignment)
  pub taken : IsTrue (takes p.rank Assignment)

-- a name that ends at a place
pub record NameAlone (text : SourceText) (p : ExpressionContext) (e : Token) : Type 0 where
  pub arrow : IsTrue (takes p.rank Assignment) → (x : Token) → ReadsHere text Punctuator (codes "=>") e x → x.after_break ≡ true
  pub parenthesis : IsTrue (takes p.rank Assignment) → Unparenthesized text e
  pub apart : Apart Token (SeenNext text) (behind_in text) e

-- What is given, where the name `async` ends at m: that name; an arrow with it for its parameter; a function; an async arrow with one name, or with
-- parentheses; a call.
pub data AsyncFirst (text : SourceText) (p : ExpressionContext) (o : ℕ) (h : Rank) (n : Tree) (s m to : Token) (Q : List Pair) (a : Reading) : Type 0 where
  the_name : n ≡ node Identifier (codes "async") plain m.start m.stop none → to ≡ m → Q ≡ [] → IsTrue (takes h Primary) → ((b : Bool) → a ≡ as_pattern b → b ≡ true) → NameAlone text p m → AsyncFirst text p o h n s m to Q a
  its_arrow : a ≡ as_expression → ArrowBehind text p o h Init m.start (part (node Identifier (codes "async") plain m.start m.stop none) none) n m to Q → AsyncFirst text p o h n s m to Q a
  a_function : {word : Token} → a ≡ as_expression → takes_function_or_class p.start ≡ true → ReadsHere text IdentifierName (codes "function") m word → word.after_break ≡ false → FunctionBehind text o h m n word to Q a → AsyncFirst text p o h n s m to Q a
  one_name : {k : Token} {v : Tree} → a ≡ as_expression → NameHere text is_free_name m k → k.after_break ≡ false → v ≡ node Identifier k.text plain k.start k.stop none → ArrowBehind text p o h Async m.start (part v none) n k to Q → AsyncFirst text p o h n s m to Q a
  in_parentheses : {x k : Token} {ps : Parts} {P R : List Pair} → a ≡ as_expression → ReadsHere text Punctuator (codes "(") m x → x.after_break ≡ false → RunsIn text o (parameter_list ps) ps x k P → ArrowBehind text p o h Async m.start ps n k to R → Q ≡ P ++ R → AsyncFirst text p o h n s m to Q a
  a_call : {whole : Tree} {e : Token} {P : List Pair} {j : Bool} {g : Start} → a ≡ as_expression → IsTrue (takes p.rank Assignment) → IsTrue (takes h Call) → AsyncCalled text o n s to Q → StopsIn text p.rank p.has_in whole e → SpellsIn text o (expr h j g) n s to Q →
      Grows Token (SeenNext text) (behind_in text) o s (expr p.rank p.has_in p.start) whole e P (expr h j g) n to Q → AsyncFirst text p o h n s m to Q a

module _ (text : SourceText) where
  end_runs : (x : Form) (i flag : Bool) {o : ℕ} {u : Tree} {s k e : Token} {P : List Pair} → ReadsHere text Punctuator (codes "=>") s k → k.after_break ≡ false → SpellsIn text o (cond flag (expr Assignment i NoBrace) body) u k e P → RunsIn text o (map (settle_piece Assignment i Any) (arrow_end (flagged x flag))) (part u none) s e P
  end_runs x i true eq line d = step (same_line eq.next line) (step laid (step (token eq) (step laid (last_runs Token (SeenNext text) (behind_in text) d))))
  end_runs x i false eq line d = step (same_line eq.next line) (step laid (step (token eq) (step laid (last_runs Token (SeenNext text) (behind_in text) d))))

  -- the places of a node
  spans : {y : Rank} {j : Bool} {f : Start} {n : Tree} {s m e : Token} → ReadsHere text IdentifierName (codes "async") s m → Placed Token (SeenNext text) (behind_in text) (expr y j f) n s e → (start_of n ≡ m.start) × (stop_of n ≡ e.stop)
  spans {s = s} {m = m} r (placed {t = t} {m = k} nx q) = (sym (ap (λ (v : ℕ × ℕ). v.0) q) ∙ (seen_determined text).start s t (behind_in text m) k m nx r.next, sym (ap (λ (v : ℕ × ℕ). v.1) q))

  -- a sign that is read, at its place
  sign_here : {w : List ℕ} {s e : Token} {t : Token} → Reads Token (SeenNext text) (behind_in text) Punctuator w s t e → t.after_break ≡ false → ReadsHere text Punctuator w s e × (e.after_break ≡ false)
  sign_here {s = s} {e = e} {t = t} r line = (read_here text r, ap (λ (v : Token). v.after_break) ((seen_determined text).last s t e r.next) ∙ line)

  word_read : {s m : Token} → ReadsHere text IdentifierName (codes "async") s m → ReadBy Token (SeenNext text) (behind_in text) RegExp s (behind_in text m) m
  word_read {s} {m} word = record { next = word.next; allowed = (seen_determined text).free RegExp s (behind_in text m) m word.next (ap is_free word.class) }

  module _ {p : ExpressionContext} {o : ℕ} {s m to : Token} {y h : Rank} {j : Bool} {n whole : Tree} {e : Token} {P Q : List Pair} {a : Reading} (word : ReadsHere text IdentifierName (codes "async") s m) (reading : a ≡ as_expression) (w : Wholly y p.rank)
      (b : Begun Token (SeenNext text) (behind_in text) (seen_determined text) o s y p.has_in p.start whole e P h j n to Q) where
    r : ReadBy Token (SeenNext text) (behind_in text) RegExp s (behind_in text m) m
    r = word_read word

    -- an arrow, from what follows its parameters
    arrow_behind : (x : Form) (flag : Bool) (st en : ℕ) {ps : Parts} {u : Tree} {k sign z : Token} {R : List Pair} → n ≡ node ArrowFunctionExpression [] (flagged x flag) st en (join ps (part u none)) → IsTrue (takes h Assignment) → Placed Token (SeenNext text) (behind_in text) (expr h j p.start) n s to →
        Reads Token (SeenNext text) (behind_in text) Punctuator (codes "=>") k sign z → sign.after_break ≡ false → SpellsIn text o (cond flag (expr Assignment j NoBrace) body) u z to R → ArrowBehind text p o h x m.start ps n k to R
    arrow_behind x flag st en {ps} {u} {k} {sign} {z} {R} tree tk pl eq line d =
        let span = spans word pl in
        let first : st ≡ m.start = sym (ap start_of tree) ∙ span.0 in
        let last : en ≡ to.stop = sym (ap stop_of tree) ∙ span.1 in
        let here = sign_here eq line in
        let taken = b.reached.taken Assignment tk in
        let inside : j ≡ p.has_in = (b.reached.same_in (loose_of h Assignment tk refl)).1 in
        record {
          flag = flag;
          operand = u;
          sign = z;
          reads = here.0;
          line = here.1;
          tree = tree ∙ (λ i. node ArrowFunctionExpression [] (flagged x flag) (first i) (last i) (join_one ps u i));
          runs = end_runs x p.has_in flag here.0 here.1 (subst (λ c. SpellsIn text o (cond flag (expr Assignment c NoBrace) body) u z to R) inside d);
          stops = λ is. subst (λ c. StopsIn text Assignment c u to) inside (begun_stops Token (SeenNext text) (behind_in text) (seen_determined text) Assignment Assignment j u tails_assign (λ l. omega arith) tk (λ k. refl) (ap (λ c. edge_as_written (edge c) (behind_in text to)) tree ∙ ap (λ c. edge_as_written c (behind_in text to)) (pushed_edge x st en ps u flag is)) b);
          stands = tk;
          taken = wholly_takes w Assignment taken;
        }

    of_arrow : Arrow Token (SeenNext text) (behind_in text) (seen_determined text) o h j p.start n s m to Q → AsyncFirst text p o h n s m to Q a
    of_arrow v = of v.parameters_are (arrow_behind Async v.flag v.st v.en v.tree v.stands v.placed v.reads v.line v.spelled) v.pairs
      where
        of : {ps : Parts} {R : List Pair} → Parameters Token (SeenNext text) (behind_in text) (seen_determined text) o m v.z ps R → ArrowBehind text p o h Async m.start ps n v.z to v.more → Q ≡ R ++ v.more → AsyncFirst text p o h n s m to Q a
        of {R = R} (core.a_name {n = u} {t = t} {w = w} d named free line) arrow pairs =
            let u_is = (name_form Token (SeenNext text) (behind_in text) (seen_determined text) d).0 in
            let same : u_is.text ≡ v.z.text = sym u_is.reads.text ∙ ap (λ (c : Token). c.text) (sym ((seen_determined text).last m u_is.sign v.z u_is.reads.next)) in
            let span : u_is.sign.start ≡ v.z.start = ap (λ (c : Token). c.start) (sym ((seen_determined text).last m u_is.sign v.z u_is.reads.next)) in
            let here = read_here text named in
            let texts : w ≡ v.z.text = sym here.text in
            one_name reading (subst (λ c. ReadsHere text IdentifierName c m v.z) texts here, ap not (ap is_reserved (sym texts) ∙ free)) (ap (λ (c : Token). c.after_break) ((seen_determined text).last m t v.z named.next) ∙ line)
            (u_is.tree ∙ (λ i. node Identifier (same i) plain (span i) v.z.stop none)) (subst (λ c. ArrowBehind text p o h Async m.start (part u none) n v.z to c) (sym (pairs ∙ ap (λ c. c ++ v.more) u_is.pairs)) arrow)
        of (core.in_parentheses paren line d) arrow pairs = let here = sign_here paren line in let place = (seen_determined text).last in in_parentheses reading here.0 here.1 d arrow pairs

    of_function : Function Token (SeenNext text) (behind_in text) (seen_determined text) o h j p.start n s m to Q → AsyncFirst text p o h n s m to Q a
    of_function v = by v.form v.asynchronous v.tree v.runs (async_starts p.start v.form (bare_parts v.parts) v.asynchronous v.starting)
      where
        word_read : ReadsHere text IdentifierName (codes "function") m v.k
        word_read = read_here text v.word

        on_line : v.k.after_break ≡ false
        on_line = ap (λ (c : Token). c.after_break) ((seen_determined text).last m v.sign_read v.k v.word.next) ∙ v.line

        span : (start_of n ≡ m.start) × (stop_of n ≡ to.stop)
        span = spans word v.placed

        first : v.st ≡ m.start
        first = sym (ap start_of v.tree) ∙ span.0

        last : v.en ≡ to.stop
        last = sym (ap stop_of v.tree) ∙ span.1

        by : (x : Form) → is_async x ≡ true → n ≡ node FunctionExpression [] (record plain { form = x }) v.st v.en v.parts → RunsIn text o (function_parts x v.parts) v.parts s to Q → takes_function_or_class p.start ≡ true → AsyncFirst text p o h n s m to Q a
        by Async is tree d start =
            let one = run_token Token (SeenNext text) (behind_in text) (retell Token (SeenNext text) (behind_in text) (ap anywhere (sym (function_bare Async v.parts))) d) in
            let line = run_unbroken Token (SeenNext text) (behind_in text) one.runs in
            let two = run_token Token (SeenNext text) (behind_in text) (run_laid Token (SeenNext text) (behind_in text) line.runs) in
            let at : one.mid ≡ m = (words_same text one.reads word).1 in
            let there : two.mid ≡ v.k = (words_same text (subst (λ c. Reads Token (SeenNext text) (behind_in text) IdentifierName (codes "function") c two.sign two.mid) at two.reads) word_read).1 in
            let runs : RunsIn text o (anywhere (behind_words v.parts)) v.parts v.k to Q = subst (λ c. RunsIn text o (anywhere (behind_words v.parts)) v.parts c to Q) there two.runs in
            a_function reading start word_read on_line (unstarred (λ t e z. no_star_behind text v.parts runs z) (record { reading = reading; parts = v.parts; tree = tree ∙ (λ i. node FunctionExpression [] (record plain { form = Async }) (first i) (last i) v.parts); taken = v.stands; runs = runs }))
        by AsyncGenerator is tree d start =
            let one = run_token Token (SeenNext text) (behind_in text) (retell Token (SeenNext text) (behind_in text) (ap anywhere (sym (function_bare AsyncGenerator v.parts))) d) in
            let line = run_unbroken Token (SeenNext text) (behind_in text) one.runs in
            let two = run_token Token (SeenNext text) (behind_in text) (run_laid Token (SeenNext text) (behind_in text) line.runs) in
            let star = run_token Token (SeenNext text) (behind_in text) two.runs in
            let at : one.mid ≡ m = (words_same text one.reads word).1 in
            let there : two.mid ≡ v.k = (words_same text (subst (λ c. Reads Token (SeenNext text) (behind_in text) IdentifierName (codes "function") c two.sign two.mid) at two.reads) word_read).1 in
            a_function reading start word_read on_line (starred (read_here text (subst (λ c. Reads Token (SeenNext text) (behind_in text) Punctuator (codes "*") c star.sign star.mid) there star.reads))
            (record { reading = reading; parts = v.parts; tree = tree ∙ (λ i. node FunctionExpression [] (record plain { form = AsyncGenerator }) (first i) (last i) v.parts); taken = v.stands; runs = star.runs }))
        by _ is tree d start = cc

    -- by the core that begins with the word
    of_cored : ((tk : IsTrue (takes p.rank Assignment)) → kind_of n ≡ Identifier → Unparenthesized text to) → IsTrue (takes h Primary) → Cored Token (SeenNext text) (behind_in text) (seen_determined text) o h j p.start n s to Q with_name → AsyncFirst text p o h n s m to Q a
    of_cored closed tk (in_way {k = k0} {w = v} {g = g} {st = st} {en = en} {ps = ps} is (head_identifier kd c q) lean pl d) =
        let bares : is_lean (bare (node k0 v g st en ps)) ≡ true = ap (λ z. is_lean (bare z)) (sym is) ∙ lean in
        let one = run_token Token (SeenNext text) (behind_in text) (retell Token (SeenNext text) (behind_in text) q d) in
        let here = (by_name Token (SeenNext text) (behind_in text) (seen_determined text) r one.sign one.mid one.reads).0 in
        let word_is : v ≡ codes "async" = sym one.reads.text ∙ ap (λ (z : Token). z.text) here ∙ word.text in
        let leaf = leaf_same Token (SeenNext text) (behind_in text) (seen_determined text) is kd (lean_flags (bare (node k0 v g st en ps)) bares ∙ ap (λ z. used_flags z g) kd) pl (retell Token (SeenNext text) (behind_in text) q d) (by_name Token (SeenNext text) (behind_in text) (seen_determined text) r) in
        let tree : n ≡ node Identifier (codes "async") plain m.start m.stop none = leaf.1 ∙ ap (λ z. node Identifier z plain m.start m.stop none) word_is in
        the_name tree leaf.0 leaf.2 tk (λ c k. expression_only c (sym reading ∙ k)) (record {
          arrow = λ taken x sign. not_line x.after_break (λ line. arrow_follows text b (wholly_back text w taken) (ap edge tree) (subst (λ z. ReadsHere text Punctuator (codes "=>") z x) (sym leaf.0) sign) line);
          parenthesis = λ taken. subst (Unparenthesized text) leaf.0 (closed taken (ap kind_of tree));
          apart = subst (Apart Token (SeenNext text) (behind_in text)) leaf.0 (apart_inside Token (SeenNext text) (behind_in text) (seen_determined text) b.grows b.stopped.apart);
        })
      where
        expression_only : (c : Bool) → as_expression ≡ as_pattern c → c ≡ true
        expression_only c k = cc

        not_line : (c : Bool) → (c ≡ false → ⊥) → c ≡ true
        not_line true f = refl
        not_line false f = absurd (f refl)
    of_cored closed tk (in_way {g = g} {st = st} {en = en} {ps = ps} is (head_short_arrow kd form_is c i tk' q) lean pl d) =
        let bares = ap (λ z. is_lean (bare z)) (sym is) ∙ lean in
        let one = run_part Token (SeenNext text) (behind_in text) (retell Token (SeenNext text) (behind_in text) q d) in
        let first = name_form Token (SeenNext text) (behind_in text) (seen_determined text) one.spelled in
        let here = by_name Token (SeenNext text) (behind_in text) (seen_determined text) r first.0.sign one.mid first.0.reads in
        let texts : first.0.text ≡ codes "async" = sym first.0.reads.text ∙ ap (λ (z : Token). z.text) here.0 ∙ word.text in
        let named : one.item ≡ node Identifier (codes "async") plain m.start m.stop none = first.0.tree ∙ (λ i. node Identifier (texts i) plain (here.0 i).start (here.1 i).stop none) in
        let line = run_unbroken Token (SeenNext text) (behind_in text) one.runs in
        let sign = run_token Token (SeenNext text) (behind_in text) (run_laid Token (SeenNext text) (behind_in text) line.runs) in
        let z = body_part h j p.start g.expression (run_laid Token (SeenNext text) (behind_in text) sign.runs) in
        let flags : g ≡ flagged Init g.expression = lean_flags (bare (node _ _ g st en ps)) bares ∙ ap (λ v. used_flags v g) kd ∙ (λ i. record plain { expression = g.expression; form = form_is i }) in
        let parts : ps ≡ part (node Identifier (codes "async") plain m.start m.stop none) (part z.operand none) = one.parts ∙ ap (λ v. part v one.rest) named ∙ ap (part (node Identifier (codes "async") plain m.start m.stop none)) z.parts in
        let tree : n ≡ node ArrowFunctionExpression [] (flagged Init g.expression) st en (part (node Identifier (codes "async") plain m.start m.stop none) (part z.operand none)) = is ∙ same_node kd (lean_text (bare (node _ _ g st en ps)) bares (ap has_text kd)) flags refl refl parts in
        let broken = (seen_determined text).break one.mid sign.sign line.sign sign.mid line.mid sign.reads.next line.next ∙ line.unbroken in
        let pairs : one.more ≡ Q = sym (one.pairs ∙ ap (λ v. v ++ one.more) first.0.pairs) in
        its_arrow reading (arrow_behind Init g.expression st en tree tk' pl (subst (λ v. Reads Token (SeenNext text) (behind_in text) Punctuator (codes "=>") v sign.sign sign.mid) here.1 sign.reads) broken (subst (λ v. SpellsIn text o (cond g.expression (expr Assignment j NoBrace) body) z.operand sign.mid to v) pairs z.spelled))
      where
        body_part : (q : Rank) (j : Bool) (f : Start) {s e : Token} {ps : Parts} {P : List Pair} (c : Bool) → RunsIn text o (goes_to q j f (cond c (sub (tail Assignment NoBrace)) (put body) ∷ [])) ps s e P → OnePart Token (SeenNext text) (behind_in text) (seen_determined text) o (cond c (expr Assignment j NoBrace) body) ps s e P
        body_part q j f true d = one_part Token (SeenNext text) (behind_in text) (seen_determined text) d
        body_part q j f false d = one_part Token (SeenNext text) (behind_in text) (seen_determined text) d
    of_cored closed tk (in_way is (head_async z st q) lean pl d) = of (part_of Token (SeenNext text) (behind_in text) (seen_determined text) r word.class word.text h j p.start is lean pl tk z st (retell Token (SeenNext text) (behind_in text) q d))
      where
        of : Part Token (SeenNext text) (behind_in text) (seen_determined text) o h j p.start n s m to Q → AsyncFirst text p o h n s m to Q a
        of (core.a_function v) = of_function v
        of (core.an_arrow v) = of_arrow v

  -- what is given where `async` was read
  pub async_first : {p : ExpressionContext} {o : ℕ} {n : Tree} {s m to : Token} {Q : List Pair} {a : Reading} {h : Rank} → is_of_2022 text.language ≡ true → ReadsHere text IdentifierName (codes "async") s m → FirstAs text p o n s to Q a h → AsyncFirst text p o h n s m to Q a
  async_first {p} {o} {n} {s} {m} {to} {Q} later word (a_core no_test w b uncalled lone unasync) =
      let read = word_read word in
      let opens_name = opens (behind_in text m) word.class word.text (identifier_opens (codes "async") async_free) in
      of_cored word refl w b (λ taken kd. unasync later taken kd m word) (core_primary Token (SeenNext text) (behind_in text) (seen_determined text) b.core read (λ c. (let z = sym c ∙ opens_name in cc))) (core_by Token (SeenNext text) (behind_in text) (seen_determined text) read opens_name b.core)
  async_first {o = o} {n = n} {to = to} {Q = Q} later word (a_pattern d) = absurd ((named_unbracketed Token (SeenNext text) (behind_in text) (seen_determined text) word).nothing o to n Q (pattern_moves Token (SeenNext text) (behind_in text) (seen_determined text) (λ k. refl) d))
  async_first {p} {m = m} {to = to} later word (a_name d ends) =
      let u = (name_form Token (SeenNext text) (behind_in text) (seen_determined text) d).0 in
      let same = words_same text u.reads word in
      let texts : u.text ≡ codes "async" = sym u.reads.text ∙ ap (λ (z : Token). z.text) same.0 ∙ word.text in
      the_name (u.tree ∙ (λ i. node Identifier (texts i) plain (same.0 i).start (same.1 i).stop none)) same.1 u.pairs refl (λ b k. bound_of b k) (subst (NameAlone text p) same.1 (record { arrow = λ taken x sign. ends.arrow taken (behind_in text x) x (arrow_by sign) (makes (behind_in text x) sign.class sign.text refl); parenthesis = ends.parenthesis; apart = ends.apart }))
    where
      arrow_by : {e x : Token} → ReadsHere text Punctuator (codes "=>") e x → ReadBy Token (SeenNext text) (behind_in text) Div e (behind_in text x) x
      arrow_by {x = x} sign = record { next = sign.next; allowed = subst (λ c. IsTrue (allows Div c (behind_in text x).text)) (sym sign.class) (subst (λ c. IsTrue (allows Div Punctuator c)) (sym sign.text) refl) }

      bound_of : (b : Bool) → as_pattern true ≡ as_pattern b → b ≡ true
      bound_of true e = refl
      bound_of false e = cc
  async_first later word (an_async_call tk call fits d st gs) = a_call refl tk fits call st d gs
