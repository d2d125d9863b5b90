-- What `function`, `class`, `super`, `new` and `import` begin (ECMA-262 12.3, 14.1, 14.6).
use Rattle.std.proofs.Common.{◌≡◌, ◌⊎◌, ◌≤◌, inl, inr, ℕ, Bool, true, false, cond, List, [], ◌∷◌, ◌++◌, Option, Some, None, Result, Ok, Err, refl, sym, ap, ◌∙◌, subst, arith}
use Rattle.std.specs.Prelude.{IsTrue, IfOk, codes, ◌&&◌, ◌||◌, ◌⊎◌}
use Rattle.std.specs.Str.{bytes_eq}
use Prim.Native.String.{String}
use Rattle.std.proofs.lemmas.Bool.Decides.{nat_tests}
use Rattle.std.proofs.lemmas.List.{append-nil}
use Rattle.std.proofs.lemmas.Slice.Eq.{bytes_eq-Decides}
use Rattle.std.proofs.lemmas.Bool.{false≢true}
use Rattle.source_text.specs.declared.fault.Fault.{Fault}
use Rattle.tokens.specs.declared.token.TokenClass.{TokenClass}
use Rattle.tokens.specs.declared.token.TokenClass.TheVariants.{IdentifierName, Punctuator, NumericLiteral, StringLiteral, Template, RegularExpressionLiteral, End, PrivateName, Keyword}
use Rattle.tokens.specs.declared.token.Goal.TheVariants.{Div, RegExp}
use Rattle.tokens.specs.declared.token.Token.{Token as Scanned}
use Rattle.tokens.specs.Scanned.{token_of}
use Rattle.tokens.specs.Tokens.{LexicalToken}
use Rattle.token_cursor.specs.CursorState.{CursorState}
use Rattle.tree.specs.declared.kind.Kind.TheVariants.{Identifier, Super, NewExpression, ImportExpression, MetaProperty}
use Rattle.tree.specs.declared.kind.Pair.{Pair}
use Rattle.tree.specs.Tree.{Tree, node, Parts, none, part, gap, join, plain, kind_of, flags_of, bare_parts, start_of}
use Rattle.language.specs.declared.Edge.TheVariants.{Other}
use Rattle.language.specs.declared.Rank.{Rank}
use Rattle.language.specs.declared.Rank.TheVariants as rank
use Rattle.language.specs.declared.Rank.TheVariants.{Expression, Assignment, Primary, Member, Call, New}
use Rattle.language.specs.declared.Start.{Start}
use Rattle.language.specs.declared.Start.TheVariants.{Any, NoBrace, Statement}
use Rattle.language.specs.Vocabulary.{is, among, is_reserved, takes, takes_number, is_keyword}
use Rattle.language.specs.Pieces.{Role, expr, base, word, Piece, Spelling, fixed, tok, sub, put, sign, term, sp, at, listed, argument, separator, parameters}
use Rattle.language.specs.Expressions.{function_pieces, class_pieces, arguments, function_words}
use Rattle.language.specs.ExpressionStart.{ExpressionStart, expression_start_by, expression_start, start_among, start_words, start_punctuators, no_start, with_name, with_template, with_word}
use Rattle.language.specs.Token.{Token, as_read, table_text, same_class}
use Rattle.language.specs.Continuations.{of_class, rank_made_by}
use Rattle.language.specs.Grammar.{spellings, starts}
use Rattle.tokens.specs.Goals.{allows}
use Rattle.language.specs.Derivation.{first, direct, done, step, within, token, laid, placed, Reads}
use Rattle.language.proofs.table.NodeForms.{new_with, new_without, new_target, Made, import_meta}
use Rattle.language.proofs.table.Begins.{Each, among_by, retell}
use Rattle.language.proofs.lower_bound.Domination.{settled}
use Rattle.language.proofs.climbing.OperatorNodes.{last_runs}
use Rattle.language.proofs.climbing.Leaves.{word_found}
use Rattle.language.proofs.climbing.SingleStarts.{function_production, class_production, import_production}
use Rattle.language.proofs.table.Productions.{spell, starts_led, way_from}
use Rattle.language.proofs.climbing.Suffixes.{arguments_fixed}
use Rattle.token_cursor.proofs.SeenTokens.{seen_determined}
use Rattle.parser_tables.specs.declared.functions_and_classes.FunctionOrClass.TheVariants as closure
use Rattle.parser_tables.specs.declared.expression_starts.ExpressionStart.{ExpressionStart as Coded}
use Rattle.parser_tables.specs.declared.expression_starts.ExpressionStart.TheVariants as code
use Rattle.parser_tables.specs.declared.operand.Operand.{Operand}
use Rattle.parser_tables.specs.declared.expression_context.ExpressionContext.{ExpressionContext}
use Rattle.recursive_descent.specs.Soundness.{anywhere, Adds, Begins, ReadAt, SuperAt, Links, ArgumentsAt, WordedAt, Stands, takes_new, UnprivateBehind, RunsIn}
use Rattle.recursive_descent.specs.SoundnessOfStatements.{ClosureAt, after_word, behind_words}
use Rattle.recursive_descent.specs.Follows.{target_node}
use Rattle.parser_tables.specs.ExpressionStarts.{coded_start, stands_at, opens_at, takes_function_or_class, coded_in}
use Rattle.recursive_descent.proofs.complete_expressions.Agreement.{marks_same, words_same}
use Rattle.parser_tables.specs.Operands.{plain_part}
use Rattle.token_cursor.specs.Seen.{ReadsHere, Sees, Misses, SeesBy}
use Rattle.parser_tables.specs.Tests.{continues_super}
use Rattle.parser_tables.specs.Tokens.{single_node}
use Rattle.recursive_descent.proofs.sound_statements.FunctionsAndClasses.{closing_and_body, parameters_bare}
use Rattle.recursive_descent.proofs.reading.AddedPairs.{adds_behind, adds_both, adds_none}
use Rattle.recursive_descent.proofs.sound_subscripts.SubscriptNodes.{no_template_behind_super}
use Rattle.recursive_descent.proofs.reading.FirstOfPieces.{adds_before}
use Rattle.recursive_descent.proofs.sound_expressions.ExpressionParts.{placed_at, value_part}
use Rattle.token_cursor.specs.SourceText.{SourceText, SeenNext, behind_in}
use Rattle.recursive_descent.specs.Spelled.{SpellsIn}
use Rattle.recursive_descent.proofs.sound_expressions.CodedStarts.{is_plain, coded_plain}
use Rattle.language.specs.declared.Language.{Language}
use Rattle.recursive_descent.proofs.reading.SeenClasses.{as_here}
use Rattle.tree.specs.declared.kind.Form.{Form}
use Rattle.tree.specs.declared.kind.Form.TheVariants as form
use Rattle.language.proofs.list_loops.FirstPieces.{run_never}
use Rattle.recursive_descent.specs.Later.{StarredAt}
use Rattle.language.specs.Promises.{ReadBy, is_free}
use Rattle.recursive_descent.proofs.sound_expressions.GroupContents.{arguments_bare}

-- the first token of these
abbrev CodedWord : Coded → TokenClass → List ℕ → Type 0
CodedWord code.Function c w = (c ≡ IdentifierName) × (w ≡ codes "function")
CodedWord code.Class c w = (c ≡ IdentifierName) × (w ≡ codes "class")
CodedWord code.Super c w = (c ≡ IdentifierName) × (w ≡ codes "super")
CodedWord code.New c w = (c ≡ IdentifierName) × (w ≡ codes "new")
CodedWord code.Import c w = (c ≡ IdentifierName) × (w ≡ codes "import")
CodedWord code.Yield c w = (c ≡ IdentifierName) × (w ≡ codes "yield")
CodedWord code.PrivateName c w = c ≡ PrivateName
CodedWord _ c w = Unit {0}

abbrev WordIf : Option Coded → TokenClass → List ℕ → Type 0
WordIf None c w = Unit {0}
WordIf (Some y) c w = CodedWord y c w

abbrev EachRow : (ExpressionStart → List ℕ → Type 0) → List (List String × ExpressionStart) → Type 0
EachRow R [] = Unit {0}
EachRow R (row ∷ rows) = Each (R row.1) row.0 × EachRow R rows

among_rows : (R : ExpressionStart → List ℕ → Type 0) (w : List ℕ) (rows : List (List String × ExpressionStart)) (other : ExpressionStart) → EachRow R rows → R other w → R (start_among w rows other) w
among_rows R w [] other all h = h
among_rows R w (row ∷ rows) other all h = go (among w row.0) refl (among_rows R w rows other all.1 h)
  where
    go : (b : Bool) → among w row.0 ≡ b → R (start_among w rows other) w → R (cond b row.1 (start_among w rows other)) w
    go true e later = among_by (R row.1) w row.0 e all.0
    go false e later = later

token_opens : (c : TokenClass) (w : List ℕ) → WordIf (coded_start (expression_start_by c w)) c w
token_opens IdentifierName w = among_rows (λ x v. WordIf (coded_start x) IdentifierName v) w start_words (cond (is_reserved w) no_start with_name)
    ((tt, (tt, (tt, tt))), ((tt, tt), (((refl, refl), tt), (((refl, refl), tt), (((refl, refl), tt), (((refl, refl), tt), (((refl, refl), tt), (((refl, refl), tt), ((tt, (tt, (tt, tt))), tt))))))))) (none_there (is_reserved w))
  where
    none_there : (b : Bool) → WordIf (coded_start (cond b no_start with_name)) IdentifierName w
    none_there true = tt
    none_there false = tt
token_opens Punctuator w = among_rows (λ x v. WordIf (coded_start x) Punctuator v) w start_punctuators no_start ((tt, tt), ((tt, tt), ((tt, tt), ((tt, (tt, tt)), ((tt, (tt, (tt, (tt, tt)))), tt))))) tt
token_opens NumericLiteral w = tt
token_opens StringLiteral w = tt
token_opens RegularExpressionLiteral w = tt
token_opens PrivateName w = refl
token_opens Keyword w = there (is_keyword w)
  where
    there : (b : Bool) → WordIf (coded_start (cond b with_word no_start)) Keyword w
    there true = tt
    there false = tt
token_opens End w = tt
token_opens Template w = there (Rattle.std.specs.Prelude.nat_eq (Rattle.std.specs.Prelude.slice_index_or w 0 0) 96)
  where
    there : (b : Bool) → WordIf (coded_start (cond b with_template no_start)) Template w
    there true = tt
    there false = tt

-- a word is read as it stands
pub read_name : (t : LexicalToken) → t.class ≡ IdentifierName → as_read t ≡ t
read_name t h = λ i. record t { text = table_text (h i) t.text }

-- a word that was passed
pub record Passed (text : SourceText) (t : Scanned) (w : List ℕ) (s m : Token) : Type 0 where
  pub reads : ReadsHere text IdentifierName w s m
  pub begins : Begins text t.start s
  pub same : behind_in text m ≡ token_of t

pub passed : {text : SourceText} {w : List ℕ} {t : Scanned} {s m : Token} → SeenNext text s (as_read (token_of t)) m → (t.class ≡ IdentifierName) × ((as_read (token_of t)).text ≡ w) → Passed text t w s m
passed {text} {t = t} {s = s} {m = m} next h = record {
  reads = as_here text (record { next = next; class = h.0; text = h.1 });
  begins = record { token = as_read (token_of t); place = m; next = next; start = refl };
  same = (seen_determined text).last s (as_read (token_of t)) m next ∙ read_name (token_of t) h.0;
}

coded_word : (l : Language) (t : Token) (y x : Coded) → y ≡ x → is_plain x ≡ true → coded_in l t ≡ Some y → CodedWord x t.class t.text
coded_word l t y x is plain coded = subst (λ z. CodedWord z t.class t.text) is (subst (λ z. WordIf z t.class t.text) (coded_plain l (expression_start t) t.text y coded (ap is_plain is ∙ plain)) (token_opens t.class t.text))

word_passed : {text : SourceText} {t : Scanned} {s m : Token} (y x : Coded) {w : List ℕ} → is_plain x ≡ true → ((c : TokenClass) (v : List ℕ) → CodedWord x c v → (c ≡ IdentifierName) × (v ≡ w)) → y ≡ x → SeenNext text s (as_read (token_of t)) m → coded_in text.language (as_read (token_of t)) ≡ Some y → Passed text t w s m
word_passed {text} {t} y x plain told is next coded = passed next (told (as_read (token_of t)).class (as_read (token_of t)).text (coded_word text.language (as_read (token_of t)) y x is plain coded))

-- what takes a `new` without arguments takes these
primary_number : (y : ℕ) → IsTrue (takes_number y 19) → IsTrue (takes_number y 22)
primary_number y h = grind (arith, nat_tests)

member_number : (y : ℕ) → IsTrue (takes_number y 19) → IsTrue (takes_number y 21)
member_number y h = grind (arith, nat_tests)

primary_taken : (y : Rank) → takes_new y ≡ true → IsTrue (takes y Primary)
primary_taken y h = primary_number (Rattle.language.specs.Vocabulary.precedence y) h

member_taken : (y : Rank) → takes_new y ≡ true → IsTrue (takes y Member)
member_taken y h = member_number (Rattle.language.specs.Vocabulary.precedence y) h

-- where a function and a class may begin
function_starts : (f : Start) → takes_function_or_class f ≡ true → IsTrue (starts f (term "function" ∷ []))
function_starts Any h = refl
function_starts NoBrace h = refl
function_starts Statement h = absurd (false≢true h)

class_starts : (f : Start) → takes_function_or_class f ≡ true → IsTrue (starts f (term "class" ∷ []))
class_starts Any h = refl
class_starts NoBrace h = refl
class_starts Statement h = absurd (false≢true h)

starts_new : (f : Start) (qs : List Piece) → IsTrue (starts f (term "new" ∷ sp ∷ qs))
starts_new Any qs = refl
starts_new NoBrace qs = refl
starts_new Statement qs = refl

-- places aside, the pieces are the same
pub function_bare : (x : Form) (ps : Parts) → function_pieces x ps ≡ function_pieces x (bare_parts ps)
function_bare x none = refl
function_bare x (gap ps) = ap (λ y. (function_words x ++ (sp ∷ Rattle.language.specs.Pieces.absent ∷ [])) ++ sign "(" ∷ y) (sym (parameters_bare closing_and_body ps))
function_bare x (part n ps) = ap (λ y. (function_words x ++ (sp ∷ put Rattle.language.specs.Pieces.name ∷ [])) ++ sign "(" ∷ y) (sym (parameters_bare closing_and_body ps))

-- the words of a function, and what stands behind them
pub whole_function : {text : SourceText} {o : ℕ} {ps : Parts} {s m e : Token} {Q : List Pair} (x : Form) → RunsIn text o (anywhere (function_words x)) none s m [] → RunsIn text o (anywhere (behind_words ps)) ps m e Q → RunsIn text o (anywhere (function_pieces x ps)) ps s e Q
whole_function form.Init (step r done) d = step r d
whole_function form.Generator (step r (step q done)) d = step r (step q d)
whole_function form.Async (step a (step b (step c (step r done)))) d = step a (step b (step c (step r d)))
whole_function form.AsyncGenerator (step a (step b (step c (step r (step q done))))) d = step a (step b (step c (step r (step q d))))
whole_function {text} _ w d = absurd (run_never Token (SeenNext text) (behind_in text) w)

pub class_bare : (ps : Parts) → after_word (class_pieces ps) ≡ after_word (class_pieces (bare_parts ps))
class_bare none = refl
class_bare (gap none) = refl
class_bare (gap (gap ps)) = refl
class_bare (gap (part m ps)) = refl
class_bare (part n none) = refl
class_bare (part n (gap ps)) = refl
class_bare (part n (part m ps)) = refl

word_by : (text : SourceText) {w : List ℕ} {s t e : Token} → Reads Token (SeenNext text) (behind_in text) IdentifierName w s t e → ReadBy Token (SeenNext text) (behind_in text) RegExp s t e
word_by text {s = s} {t = t} {e = e} r = record { next = r.next; allowed = (seen_determined text).free RegExp s t e r.next (ap is_free r.class) }

module _ (text : SourceText) {p : ExpressionContext} {o : ℕ} {s m e : Token} {Q : List Pair} where
  pub function_part : {n : Tree} {from : ℕ} (x : Form) → Begins text from s → RunsIn text o (anywhere (function_words x)) none s m [] → takes_function_or_class p.start ≡ true → ClosureAt text (closure.Function x) from n o m e Q → ReadAt text p (plain_part n Primary Other) o s e Q
  function_part {n} {from} x begins words start c = subst (λ v. ReadAt text p (plain_part v Primary Other) o s e Q) (sym c.tree) (record {
    taken = primary_taken p.rank;
    part = value_part text refl begins refl refl (λ h. cc)
        (λ h j tk lo. (function_production Token (SeenNext text) (behind_in text) (seen_determined text) p.start s (function_starts p.start start)).spells o h j from e.stop (record plain { form = x }) c.parts e Q tk (placed_at text begins)
        (retell Token (SeenNext text) (behind_in text) (ap anywhere (function_bare x c.parts)) (whole_function x words c.runs)));
  })

module _ (text : SourceText) {p : ExpressionContext} {t : Scanned} {o : ℕ} {s m e : Token} {Q : List Pair} where
  class_part : {n : Tree} → Passed text t (codes "class") s m → takes_function_or_class p.start ≡ true → ClosureAt text closure.Class t.start n o m e Q → ReadAt text p (plain_part n Primary Other) o s e Q
  class_part {n} w start c = subst (λ v. ReadAt text p (plain_part v Primary Other) o s e Q) (sym c.tree) (record {
    taken = primary_taken p.rank;
    part = value_part text refl w.begins refl refl (λ h. cc)
        (λ h j tk lo. (class_production Token (SeenNext text) (behind_in text) (seen_determined text) p.start s (class_starts p.start start)).spells o h j t.start e.stop plain c.parts e Q tk (placed_at text w.begins)
        (step (token w.reads) (step laid (retell Token (SeenNext text) (behind_in text) (ap anywhere (class_bare c.parts)) c.runs))));
  })

  -- the call of `import`
  import_part : {x z : Token} {l : Operand} → Passed text t (codes "import") s m → IsTrue (takes p.rank Call) → ReadsHere text Punctuator (codes "(") m x → ReadAt text (record { rank = Assignment; has_in = true; start = Any }) l o x z Q → l.cover.shape.is_expression ≡ true →
      ReadsHere text Punctuator (codes ")") z e → ReadAt text p (plain_part (node ImportExpression [] plain t.start e.stop (part l.cover.node none)) Call Other) o s e Q
  import_part {x} {z} {l} w tk left source fits right = record {
    taken = λ h. tk;
    part = value_part text refl w.begins refl refl (λ h. cc)
        (λ h j tk lo. subst (λ R. SpellsIn text o (expr h j p.start) (node ImportExpression [] plain t.start e.stop (part l.cover.node none)) s e R) (append-nil Q)
        ((import_production Token (SeenNext text) (behind_in text) (seen_determined text) p.start (word_by text w.reads) left).spells o h j t.start e.stop plain (part l.cover.node none) e (Q ++ []) tk (placed_at text w.begins)
        (step (token w.reads) (step (token left) (within (source.part.stands fits Assignment true (source.taken refl) (λ h. refl)) (step (token right) done))))));
  }

  -- `new` without arguments
  new_alone : {l : Operand} → Passed text t (codes "new") s m → ReadAt text (record { rank = New; has_in = true; start = Any }) l o m e Q → l.cover.shape.is_expression ≡ true → Misses text Punctuator (codes "(") e →
      ReadAt text p (plain_part (node NewExpression [] plain t.start e.stop (part l.cover.node none)) New Other) o s e Q
  new_alone {l} w callee fits missed = record {
    taken = λ h. h;
    part = value_part text refl w.begins refl refl (λ h. missed)
        (λ h j tk lo. spell Token (SeenNext text) (behind_in text) (at New (term "new" ∷ sp ∷ put (expr New true Any) ∷ [])) (new_without refl) refl tk refl (starts_new p.start (put (expr New true Any) ∷ [])) (placed_at text w.begins)
        (step (token w.reads) (step laid (last_runs Token (SeenNext text) (behind_in text) (callee.part.stands fits New true (callee.taken refl) (λ h. refl))))));
  }

module _ (text : SourceText) {p : ExpressionContext} {t : Scanned} {o : ℕ} {s m e : Token} where
  -- `new.target`
  pub target_part : {x : Token} (v w : List ℕ) → Passed text t v s m → ReadsHere text Punctuator (codes ".") m x → ReadsHere text IdentifierName w x e →
      ((is v "new" && is w "target") ≡ true) ⊎ ((is v "import" && is w "meta") ≡ true) → ReadAt text p (plain_part (target_node (token_of t) e) Member Other) o s e []
  target_part {x} v w passed_by dot name which =
      let first_text : (token_of t).text ≡ v = sym (ap (λ (x : Token). x.text) passed_by.same) ∙ passed_by.reads.text in
      let first_word : SpellsIn text o word (single_node Identifier (token_of t)) s m [] = subst (λ v. SpellsIn text o word (single_node Identifier v) s m []) passed_by.same (subst (λ (v : List ℕ). SpellsIn text o word (Rattle.tree.specs.Tree.node Identifier v plain m.start m.stop none) s m []) (sym passed_by.reads.text) (word_found Token (SeenNext text) (behind_in text) (seen_determined text) {o = o} {c = IdentifierName} refl passed_by.reads).spelled) in
      let other_word : SpellsIn text o word (single_node Identifier e) x e [] = subst (λ (v : List ℕ). SpellsIn text o word (Rattle.tree.specs.Tree.node Identifier v plain e.start e.stop none) x e []) (sym name.text) (word_found Token (SeenNext text) (behind_in text) (seen_determined text) {o = o} {c = IdentifierName} refl name).spelled in
      record {
        taken = member_taken p.rank;
        part = value_part text refl passed_by.begins refl refl (λ h. cc)
            (λ h j tk lo. spell Token (SeenNext text) (behind_in text) (at Member (put word ∷ sign "." ∷ put word ∷ [])) (made first_text which) refl tk refl (starts_led p.start (fixed word) (sign "." ∷ put word ∷ [])) (placed_at text passed_by.begins)
            (within first_word (step (token dot) (last_runs Token (SeenNext text) (behind_in text) other_word))));
      }
    where
      made : (token_of t).text ≡ v → ((is v "new" && is w "target") ≡ true) ⊎ ((is v "import" && is w "meta") ≡ true) → Made MetaProperty [] plain (bare_parts (part (single_node Identifier (token_of t)) (part (single_node Identifier e) none))) (at Member (put word ∷ sign "." ∷ put word ∷ []))
      made told (inl h) = new_target ((λ i. is (told i) "new" && is (name.text i) "target") ∙ h)
      made told (inr h) = import_meta ((λ i. is (told i) "import" && is (name.text i) "meta") ∙ h)

-- what stands at New and is no `new` without arguments stands at Member
new_member : (r : Rank) → IsTrue (takes New r) → (r ≡ New → ⊥) → IsTrue (takes Member r)
new_member New t h = absurd (h refl)
new_member Member t h = refl
new_member Primary t h = refl
new_member rank.Grouped t h = refl
new_member _ t h = absurd (false≢true t)

module _ (text : SourceText) {p : ExpressionContext} {t : Scanned} {o : ℕ} {s m x e : Token} {P Q : List Pair} where
  -- `new` with arguments
  new_part : {l : Operand} {ps : Parts} → Passed text t (codes "new") s m → ReadAt text (record { rank = New; has_in = true; start = Any }) l o m x P → l.cover.shape.is_expression ≡ true → Sees text Punctuator (codes "(") x → ArgumentsAt text ps o x e Q →
      ReadAt text p (plain_part (node NewExpression [] plain t.start e.stop (part l.cover.node ps)) Member Other) o s e (P ++ Q)
  new_part {l} {ps} w callee fits sees run = record {
    taken = member_taken p.rank;
    part = value_part text refl w.begins refl refl (λ h. cc)
        (λ h j tk lo. spell Token (SeenNext text) (behind_in text) (at Member (term "new" ∷ sp ∷ put (expr Member true Any) ∷ arguments (bare_parts ps))) new_with refl tk refl (starts_new p.start (put (expr Member true Any) ∷ arguments (bare_parts ps))) (placed_at text w.begins)
        (step (token w.reads) (step laid (within (callee.part.stands fits Member true (new_member l.rank (callee.taken refl) (λ k. callee.part.newly k (behind_in text sees.0) sees.0 sees.1)) (λ h. refl))
        (retell Token (SeenNext text) (behind_in text) (ap anywhere (sym (arguments_bare ps)) ∙ ap (λ qs. tok Punctuator (codes "(") ∷ qs) (sym (arguments_fixed h j p.start (bare_parts ps)))) run)))));
  }

-- behind the callee: arguments, or no `(`
pub data NewTail (text : SourceText) (k : Tree) (nodes : Parts) (r : Rank) (o : ℕ) (x e : Token) (Q : List Pair) : Type 0 where
  with_arguments : (ps : Parts) → nodes ≡ part k ps → r ≡ Member → Sees text Punctuator (codes "(") x → ArgumentsAt text ps o x e Q → NewTail text k nodes r o x e Q
  alone : nodes ≡ part k none → r ≡ New → Misses text Punctuator (codes "(") x → e ≡ x → Q ≡ [] → NewTail text k nodes r o x e Q

module _ (text : SourceText) {p : ExpressionContext} {t : Scanned} {o : ℕ} {s m x e : Token} {P Q : List Pair} where
  new_either : {l : Operand} {nodes : Parts} {r : Rank} → Passed text t (codes "new") s m → ReadAt text (record { rank = New; has_in = true; start = Any }) l o m x P → l.cover.shape.is_expression ≡ true → NewTail text l.cover.node nodes r o x e Q →
      ReadAt text p (plain_part (node NewExpression [] plain t.start e.stop nodes) r Other) o s e (P ++ Q)
  new_either {l} {nodes} {r} w callee fits (with_arguments ps is r_is sees run) =
      subst (λ k. ReadAt text p (plain_part (node NewExpression [] plain t.start e.stop k) r Other) o s e (P ++ Q)) (sym is)
      (subst (λ y. ReadAt text p (plain_part (node NewExpression [] plain t.start e.stop (part l.cover.node ps)) y Other) o s e (P ++ Q)) (sym r_is) (new_part text w callee fits sees run))
  new_either {l} {nodes} {r} w callee fits (alone is r_is missed same none_more) =
      subst (λ k. ReadAt text p (plain_part (node NewExpression [] plain t.start e.stop k) r Other) o s e (P ++ Q)) (sym is)
      (subst (λ y. ReadAt text p (plain_part (node NewExpression [] plain t.start e.stop (part l.cover.node none)) y Other) o s e (P ++ Q)) (sym r_is)
      (subst (λ c. ReadAt text p (plain_part (node NewExpression [] plain t.start c.stop (part l.cover.node none)) New Other) o s c (P ++ Q)) (sym same)
      (subst (λ R. ReadAt text p (plain_part (node NewExpression [] plain t.start x.stop (part l.cover.node none)) New Other) o s x R) (sym (ap (λ R. P ++ R) none_more ∙ append-nil P)) (new_alone text w callee fits missed))))

-- `super`, and what goes on with it
base_spelled : (text : SourceText) {o : ℕ} {s m : Token} → ReadsHere text IdentifierName (codes "super") s m → SpellsIn text o base (single_node Super m) s m []
unfolding spellings
base_spelled text {m = m} h =
    let x : Spelling = at Primary (tok IdentifierName (codes "super") ∷ []) in
    direct (settled base x) (way_from base (single_node Super m) x refl first refl) (placed h.next refl) (step (token h) done)

-- a token that goes on with it is one of three
abbrev goes : TokenClass → Bool → Bool → Bool → Bool → Bool
goes c a b d k = (same_class Punctuator c && a) || ((same_class Punctuator c && b) || (k && (same_class Punctuator c && d)))

data Onward (c : TokenClass) (w : List ℕ) (k : Bool) : Type 0 where
  to_member : c ≡ Punctuator → (w ≡ codes ".") ⊎ (w ≡ codes "[") → Onward c w k
  to_call : c ≡ Punctuator → w ≡ codes "(" → k ≡ true → Onward c w k

onward_of : (c : TokenClass) (w : List ℕ) (k : Bool) → goes c (bytes_eq w (codes ".")) (bytes_eq w (codes "[")) (bytes_eq w (codes "(")) k ≡ true → Onward c w k
onward_of Punctuator w k h = go (bytes_eq w (codes ".")) (bytes_eq w (codes "[")) (bytes_eq w (codes "(")) k refl refl refl refl h
  where
    go : (a b d j : Bool) → bytes_eq w (codes ".") ≡ a → bytes_eq w (codes "[") ≡ b → bytes_eq w (codes "(") ≡ d → k ≡ j → goes Punctuator a b d j ≡ true → Onward Punctuator w k
    go true b d j x y z v h = to_member refl (inl ((bytes_eq-Decides w (codes ".")).0 x))
    go false true d j x y z v h = to_member refl (inr ((bytes_eq-Decides w (codes "[")).0 y))
    go false false true true x y z v h = to_call refl ((bytes_eq-Decides w (codes "(")).0 z) v
    go false false true false x y z v h = cc
    go false false false true x y z v h = cc
    go false false false false x y z v h = cc
onward_of _ w true h = cc
onward_of _ w false h = cc

onward_token : (t : Token) (k : Bool) → continues_super k t ≡ true → Onward t.class t.text k
onward_token t k h = onward_of t.class t.text k h

-- the symbol of what it makes, which the position takes
onward_taken : {c : TokenClass} {w : List ℕ} {k : Bool} (b : Bool) (y : Rank) → k ≡ takes y Call → takes_new y ≡ true → Onward c w k → (z : Rank) × (rank_made_by (of_class c w) b ≡ Some z) × IsTrue (takes y z)
onward_taken b y same h (to_member c (inl w)) = (Member, (λ i. rank_made_by (of_class (c i) (w i)) b), member_taken y h)
onward_taken b y same h (to_member c (inr w)) = (Member, (λ i. rank_made_by (of_class (c i) (w i)) b), member_taken y h)
onward_taken b y same h (to_call c w k) = (Call, (λ i. rank_made_by (of_class (c i) (w i)) b), sym same ∙ k)

-- and it is no `?.`
onward_sign : {c : TokenClass} {w : List ℕ} {k : Bool} → Onward c w k → w ≡ codes "?." → ⊥
onward_sign (to_member c (inl w)) h = (let e = sym w ∙ h in cc)
onward_sign (to_member c (inr w)) h = (let e = sym w ∙ h in cc)
onward_sign (to_call c w k) h = (let e = sym w ∙ h in cc)

no_chain : (text : SourceText) {m : Token} (k b : Bool) → SeesBy text Div (continues_super k) m → cond b (Sees text Punctuator (codes "?.") m) (Misses text Punctuator (codes "?.") m) → b ≡ false
no_chain text {m} k false h optional = refl
no_chain text {m} k true h optional =
    let x = optional.1 in
    let u = h.1 in
    let first = behind_in text optional.0 in
    let second = behind_in text h.0 in
    let allowed : IsTrue (allows Div first.class first.text) = λ i. allows Div (x.class i) (x.text i) in
    let same : first ≡ second = ((seen_determined text).same Div m first second optional.0 h.0 x.next u.0.next allowed u.0.allowed).0 in
    absurd (onward_sign (onward_token second k u.1) (sym (ap (λ (v : Token). v.text) same) ∙ x.text))

module _ (text : SourceText) {p : ExpressionContext} {t : Scanned} {o : ℕ} {s m e : Token} {Q : List Pair} where
  super_part : {r : Operand} (k : Bool) → k ≡ takes p.rank Call → Passed text t (codes "super") s m → SeesBy text Div (continues_super k) m → UnprivateBehind text m → Links text (plain_part (single_node Super (token_of t)) Primary Other) r o m e Q → ReadAt text p r o s e Q
  super_part {r} k takes_call w sees unprivate links =
      let none_optional = no_chain text k (flags_of r.cover.node).optional sees links.optional in
      let super_at : SuperAt text (plain_part (single_node Super (token_of t)) Primary Other) o s m [] = record { begins = w.begins; kind = refl; spelled = subst (λ v. SpellsIn text o base (single_node Super v) s m []) w.same (base_spelled text w.reads) } in
      record {
        taken = λ h. let z = onward_taken sees.0.after_break p.rank takes_call h (onward_token (behind_in text sees.0) k sees.1.1) in
            links.taken none_optional (behind_in text sees.0) sees.0 p.rank z.0 sees.1.0 z.1 (primary_taken p.rank h) z.2;
        part = links.super (no_template_behind_super text k m sees) unprivate none_optional p.has_in p.start s [] super_at;
      }

-- where the opening may stand
function_stands : (x : ExpressionStart) → coded_start x ≡ Some code.Function → (f : Start) (i : Bool) (r : Rank) → stands_at r i f x ≡ true → takes_function_or_class f ≡ true
function_stands Rattle.language.specs.ExpressionStart.with_function h f i r k = k
function_stands _ h f i r k = cc

class_stands : (x : ExpressionStart) → coded_start x ≡ Some code.Class → (f : Start) (i : Bool) (r : Rank) → stands_at r i f x ≡ true → takes_function_or_class f ≡ true
class_stands Rattle.language.specs.ExpressionStart.with_class h f i r k = k
class_stands _ h f i r k = cc

import_stands : (x : ExpressionStart) → coded_start x ≡ Some code.Import → (f : Start) (i : Bool) (r : Rank) → stands_at r i f x ≡ true → IsTrue (takes r Call)
import_stands Rattle.language.specs.ExpressionStart.with_import h f i r k = k
import_stands _ h f i r k = cc

-- what the word of the opening began
stood : (l : Language) (t : Token) {y : Coded} (x : Coded) → y ≡ x → is_plain x ≡ true → coded_in l t ≡ Some y → coded_start (expression_start t) ≡ Some x
stood l t {y} x this plain coded = coded_plain l (expression_start t) t.text y coded (ap is_plain this ∙ plain) ∙ ap Some this

-- a `*` behind `function`, or none
star_words : (s e : CursorState) {x : Form} → StarredAt s e form.Init x → {o : ℕ} {z : Token} → ReadsHere s.text IdentifierName (codes "function") z s.last → RunsIn s.text o (anywhere (function_words x)) none z e.last []
star_words s e {x} (inl h) {o} {z} r = subst (λ y. RunsIn s.text o (anywhere (function_words y)) none z e.last []) (sym h.2) (step (token r) (step (token h.1) done))
star_words s e {x} (inr h) {o} {z} r = subst (λ y. RunsIn s.text o (anywhere (function_words y)) none z e.last []) (sym h.1) (subst (λ k. RunsIn s.text o (anywhere (function_words form.Init)) none z k []) (sym h.0) (step (token r) done))

-- what isn't `import` stands where the position takes it
pub stands_plainly : (text : SourceText) (p : ExpressionContext) (t : Token) {s : Token} {y : Coded} (x : Coded) → y ≡ x → (x ≡ code.Import → ⊥) → Stands text p t y s → opens_at p t ≡ true
stands_plainly text p t x this other (inl h) = h
stands_plainly text p t x this other (inr h) = absurd (other (sym this ∙ h.0))

-- where `(` follows it, no `import.meta` stands
import_call_stands : {text : SourceText} (p : ExpressionContext) {t : Scanned} {s m x : Token} {y : Coded} → y ≡ code.Import → Passed text t (codes "import") s m → coded_in text.language (as_read (token_of t)) ≡ Some y → ReadsHere text Punctuator (codes "(") m x → Stands text p (as_read (token_of t)) y s → IsTrue (takes p.rank Call)
import_call_stands {text} p {t} this w coded left (inl h) = import_stands (expression_start (as_read (token_of t))) (stood text.language (as_read (token_of t)) code.Import this refl coded) p.start p.has_in p.rank h
import_call_stands {text} p {t} {m = m} this w coded left (inr h) =
    let at : h.2.mid ≡ m = (words_same text h.2.import_word w.reads).1 in
    let dot = subst (λ c. Sees text Punctuator (codes ".") c) at h.2.dot in
    absurd (other (sym dot.1.text ∙ ap (λ (z : Token). z.text) (marks_same text dot.1 left).0 ∙ left.text))
  where
    other : codes "." ≡ codes "(" → ⊥
    other e = cc

pub function_worded : {s m e : CursorState} {old mid new : List Pair} (t : Scanned) (x : Form) {n : Tree} {r : Operand} (p : ExpressionContext) (y : Coded) → y ≡ code.Function → m.text ≡ s.text → m.opened ≡ s.opened → mid ≡ old → StarredAt s m form.Init x → r ≡ plain_part n Primary Other → Adds m e mid new (ClosureAt m.text (closure.Function x) t.start n) → Adds s e old new (WordedAt s.text p t y r)
function_worded {s} {m} {e} t x {n} p y this text open_same same starred made a = adds_behind open_same same a (λ o Q c z next coded opens.
    let w = word_passed {t = t} y code.Function refl (λ c v h. h) this next coded in
    subst (λ v. ReadAt s.text p v o z e.last Q) (sym made) (function_part s.text x w.begins (star_words s m starred w.reads) (function_stands (expression_start (as_read (token_of t))) (stood s.text.language (as_read (token_of t)) code.Function this refl coded) p.start p.has_in p.rank (stands_plainly s.text p (as_read (token_of t)) code.Function this (λ e. cc) opens)) (subst (λ v. ClosureAt v (closure.Function x) t.start n o m.last e.last Q) text c)))

pub class_worded : {s e : CursorState} {old new : List Pair} (t : Scanned) {n : Tree} {r : Operand} (p : ExpressionContext) (y : Coded) → y ≡ code.Class → r ≡ plain_part n Primary Other → Adds s e old new (ClosureAt s.text closure.Class t.start n) → Adds s e old new (WordedAt s.text p t y r)
class_worded {s} {e} t p y this made a = adds_behind refl refl a (λ o Q c z next coded opens.
    subst (λ v. ReadAt s.text p v o z e.last Q) (sym made) (class_part s.text (word_passed {t = t} y code.Class refl (λ c v h. h) this next coded) (class_stands (expression_start (as_read (token_of t))) (stood s.text.language (as_read (token_of t)) code.Class this refl coded) p.start p.has_in p.rank (stands_plainly s.text p (as_read (token_of t)) code.Class this (λ e. cc) opens)) c))

pub target_worded : (s m e : CursorState) {old new : List Pair} (t : Scanned) (p : ExpressionContext) (y : Coded) (high : ℕ) (result : Result Operand Fault) → y ≡ code.New → m.text ≡ s.text → e.opened ≡ s.opened → new ≡ old → ReadsHere s.text Punctuator (codes ".") s.last m.last →
    IfOk result (λ r. ReadsHere m.text IdentifierName (codes "target") m.last e.last × (r ≡ plain_part (target_node (token_of t) e.last) Member Other) × (2 ≤ high)) → IfOk result (λ r. Adds s e old new (WordedAt s.text p t y r))
target_worded s m e t p y high (Ok r) this text open_same same_pairs dot h = adds_none open_same same_pairs (λ o z next coded opens.
    subst (λ v. ReadAt s.text p v o z e.last []) (sym h.1) (target_part s.text (codes "new") (codes "target") (word_passed {t = t} y code.New refl (λ c v h. h) this next coded) dot (subst (λ x. ReadsHere x IdentifierName (codes "target") m.last e.last) text h.0) (inl refl)))
target_worded s m e t p y high (Err fault) this text open_same same_pairs dot h = tt

-- `import.meta`
pub meta_worded : (s m e : CursorState) {old new : List Pair} (t : Scanned) (p : ExpressionContext) (y : Coded) (high : ℕ) (result : Result Operand Fault) → y ≡ code.Import → m.text ≡ s.text → e.opened ≡ s.opened → new ≡ old → ReadsHere s.text Punctuator (codes ".") s.last m.last →
    IfOk result (λ r. ReadsHere m.text IdentifierName (codes "meta") m.last e.last × (r ≡ plain_part (target_node (token_of t) e.last) Member Other) × (2 ≤ high)) → IfOk result (λ r. Adds s e old new (WordedAt s.text p t y r))
meta_worded s m e t p y high (Ok r) this text open_same same_pairs dot h = adds_none open_same same_pairs (λ o z next coded opens.
    subst (λ v. ReadAt s.text p v o z e.last []) (sym h.1) (target_part s.text (codes "import") (codes "meta") (word_passed {t = t} y code.Import refl (λ c v h. h) this next coded) dot (subst (λ x. ReadsHere x IdentifierName (codes "meta") m.last e.last) text h.0) (inr refl)))
meta_worded s m e t p y high (Err fault) this text open_same same_pairs dot h = tt

-- the word `new`
pub new_word : (l : Language) (t : Token) → coded_in l t ≡ Some code.New → (t.class ≡ IdentifierName) × (t.text ≡ codes "new")
new_word l t coded = coded_word l t code.New code.New refl refl coded

-- the tokens of `yield` and of a private name
pub yield_passed : {text : SourceText} {t : Scanned} {s m : Token} → SeenNext text s (as_read (token_of t)) m → coded_in text.language (as_read (token_of t)) ≡ Some code.Yield → Passed text t (codes "yield") s m
yield_passed {t = t} next coded = word_passed {t = t} code.Yield code.Yield refl (λ c v h. h) refl next coded

pub private_passed : (l : Language) (t : Token) → coded_in l t ≡ Some code.PrivateName → t.class ≡ PrivateName
private_passed l t coded = coded_word l t code.PrivateName code.PrivateName refl refl coded

pub super_worded : (s e : CursorState) (old new : List Pair) (t : Scanned) {l : Operand} (p : ExpressionContext) (y : Coded) (k : Bool) (result : Result Operand Fault) → y ≡ code.Super → k ≡ takes p.rank Call → l ≡ plain_part (single_node Super (token_of t)) Primary Other →
    SeesBy s.text Div (continues_super k) s.last → UnprivateBehind s.text s.last → IfOk result (λ r. Adds s e old new (Links s.text l r)) → IfOk result (λ r. Adds s e old new (WordedAt s.text p t y r))
super_worded s e old new t p y k (Ok r) this calls made sees unprivate a = adds_behind refl refl a (λ o Q v z next coded opens.
    super_part s.text k calls (word_passed {t = t} y code.Super refl (λ c v h. h) this next coded) sees unprivate (subst (λ x. Links s.text x r o s.last e.last Q) made v))
super_worded s e old new t p y k (Err fault) this calls made sees unprivate a = tt

pub import_worded : {s a m e : CursorState} {old start mid new : List Pair} (t : Scanned) {l r : Operand} (p : ExpressionContext) (y : Coded) → y ≡ code.Import → a.text ≡ s.text → m.text ≡ s.text → a.opened ≡ s.opened → start ≡ old → e.opened ≡ m.opened → new ≡ mid →
    ReadsHere s.text Punctuator (codes "(") s.last a.last → Adds a m start mid (ReadAt a.text (record { rank = Assignment; has_in = true; start = Any }) l) → l.cover.shape.is_expression ≡ true → ReadsHere m.text Punctuator (codes ")") m.last e.last →
    r ≡ plain_part (node ImportExpression [] plain t.start e.last.stop (part l.cover.node none)) Call Other → Adds s e old new (WordedAt s.text p t y r)
import_worded {s} {a} {m} {e} t {l} p y this text more open_a same_a open_e same_e left read fits right made =
    adds_before {A = λ o x b Q. ReadsHere s.text Punctuator (codes "(") x a.last × ReadAt s.text (record { rank = Assignment; has_in = true; start = Any }) l o a.last b Q} (adds_behind open_a same_a read (λ o Q u. (left, subst (λ x. ReadAt x (record { rank = Assignment; has_in = true; start = Any }) l o a.last m.last Q) text u))) open_e same_e
    (λ o Q u z next coded opens. subst (λ v. ReadAt s.text p v o z e.last Q) (sym made)
    (import_part s.text (word_passed {t = t} y code.Import refl (λ c v h. h) this next coded) (import_call_stands p this (word_passed {t = t} y code.Import refl (λ c v h. h) this next coded) coded u.0 opens) u.0 u.1 fits (subst (λ x. ReadsHere x Punctuator (codes ")") m.last e.last) more right)))

pub new_worded : {s m e : CursorState} {old mid new : List Pair} (t : Scanned) {l r : Operand} (q : ExpressionContext) (p : ExpressionContext) (y : Coded) (x : Rank) (nodes : Parts) → y ≡ code.New → q ≡ record { rank = New; has_in = true; start = Any } → Adds s m old mid (ReadAt s.text q l) → l.cover.shape.is_expression ≡ true →
    Adds m e mid new (NewTail s.text l.cover.node nodes x) → r ≡ plain_part (node NewExpression [] plain t.start e.last.stop nodes) x Other → Adds s e old new (WordedAt s.text p t y r)
new_worded {s} {m} {e} t {l} q p y x nodes this at callee fits tail made = adds_both callee tail (λ o P Q u v z next coded opens.
    subst (λ k. ReadAt s.text p k o z e.last (P ++ Q)) (sym made) (new_either s.text (word_passed {t = t} y code.New refl (λ c v h. h) this next coded) (subst (λ k. ReadAt s.text k l o s.last m.last P) at u) fits v))

pub tail_with : {m e : CursorState} {mid new : List Pair} {text : SourceText} (k : Tree) (ps nodes : Parts) (x : Rank) → m.text ≡ text → nodes ≡ part k ps → x ≡ Member → Sees m.text Punctuator (codes "(") m.last → Adds m e mid new (ArgumentsAt m.text ps) → Adds m e mid new (NewTail text k nodes x)
tail_with {m} {e} k ps nodes x same are this sees a = adds_behind refl refl a (λ o Q u. with_arguments ps are this (subst (λ v. Sees v Punctuator (codes "(") m.last) same sees) (subst (λ v. ArgumentsAt v ps o m.last e.last Q) same u))

pub tail_alone : {m : CursorState} {mid : List Pair} {text : SourceText} (k : Tree) (nodes : Parts) (x : Rank) → m.text ≡ text → nodes ≡ part k none → x ≡ New → Misses m.text Punctuator (codes "(") m.last → Adds m m mid mid (NewTail text k nodes x)
tail_alone {m} k nodes x same are this missed = adds_none refl refl (λ o. alone are this (subst (λ v. Misses v Punctuator (codes "(") m.last) same missed) refl refl)

-- from where nothing was passed
pub worded_here : {s a e : CursorState} {old start new : List Pair} (t : Scanned) {p : ExpressionContext} {y : Coded} {r : Operand} → a.text ≡ s.text → a.last ≡ s.last → a.opened ≡ s.opened → start ≡ old → Adds a e start new (WordedAt a.text p t y r) → Adds s e old new (WordedAt s.text p t y r)
worded_here {s} {a} {e} t {p} {y} {r} text last open_same same w = adds_behind open_same same w (λ o Q v. subst (λ z. WordedAt z p t y r o s.last e.last Q) text (subst (λ m. WordedAt a.text p t y r o m e.last Q) last v))
