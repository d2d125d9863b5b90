-- Methods, getters and setters of objects and of classes (ECMA-262 14.3, 14.6), from their names and functions.
use Rattle.std.proofs.Common.{◌≡◌, ℕ, Bool, true, false, cond, List, [], ◌∷◌, ◌++◌, refl, sym, ap, subst}
use Rattle.std.specs.Prelude.{codes}
use Rattle.std.proofs.lemmas.Bool.{false≢true}
use Rattle.tokens.specs.Tokens.{LexicalToken}
use Rattle.tokens.specs.Reading.{Reads as Scans}
use Rattle.tokens.specs.declared.token.TokenClass.TheVariants.{Punctuator}
use Rattle.tokens.specs.declared.token.Goal.TheVariants.{Div}
use Rattle.tree.specs.declared.kind.Kind.TheVariants.{FunctionExpression}
use Rattle.tree.specs.declared.kind.Form.{Form}
use Rattle.tree.specs.declared.kind.Form.TheVariants.{Get, Set, Method, Init, Shorthand, Constructor, Generator, Async, AsyncGenerator}
use Rattle.tree.specs.declared.kind.Pair.{Pair}
use Rattle.tree.specs.Tree.{Tree, node, Parts, none, part, gap, kind_of, bare, bare_parts}
use Rattle.language.specs.declared.Rank.TheVariants.{Expression}
use Rattle.language.specs.declared.Start.TheVariants.{Any}
use Rattle.language.specs.Vocabulary.{is_rest}
use Rattle.language.specs.Pieces.{Role, method, body, Piece, PieceOf, Spelling, absent, sign, sp, tok, put, put_at, only, with_default, parameters, pattern_element, separator}
use Rattle.language.specs.Expressions.{methods}
use Rattle.language.specs.Token.{Token}
use Rattle.language.specs.Grammar.{spellings}
use Rattle.language.specs.Derivation.{Among, first, placed, direct, done, step, missing, token, laid}
use Rattle.language.proofs.lower_bound.Domination.{settled}
use Rattle.language.proofs.climbing.OperatorNodes.{kind_bare, none_bare}
use Rattle.language.proofs.table.Productions.{way_from, runs_can}
use Rattle.language.proofs.list_loops.FirstPieces.{run_never}
use Rattle.parser_tables.specs.declared.functions_and_classes.FunctionOrClass.TheVariants as closure
use Rattle.recursive_descent.specs.Soundness.{RunsIn, anywhere}
use Rattle.recursive_descent.specs.SoundnessOfLists.{is_called}
use Rattle.recursive_descent.specs.SoundnessOfStatements.{pieces_of, method_form, ClosureAt}
use Rattle.token_cursor.specs.SourceText.{SourceText, SeenNext, behind_in}
use Rattle.recursive_descent.specs.Spelled.{SpellsIn}
use Rattle.recursive_descent.proofs.reading.Forward.{place_by}
use Rattle.token_cursor.proofs.TokensAhead.{mark_by}
use Rattle.parser_tables.specs.StatementSymbols.{function_or_class_flags}
use Rattle.tree.specs.Uses.{is_lean}
use Rattle.tree.specs.declared.kind.Flags.{Flags}

element_bare : (n : Tree) → pattern_element true (bare n) ≡ pattern_element true n
element_bare (node k w g s e ps) = refl

-- the pieces of a method's function don't depend on places
parameters_bare : (after : List Piece) (ps : Parts) → parameters after (bare_parts ps) ≡ parameters after ps
parameters_bare after none = refl
parameters_bare after (gap ps) = refl
parameters_bare after (part n none) = refl
parameters_bare after (part n (gap ps)) = refl
parameters_bare after (part n (part m ps)) = λ i. (element_bare n i ∷ separator (kind_bare n i) (none_bare ps i)) ++ parameters_bare after (part m ps) i

pub methods_bare : (f : Form) (ps : Parts) → is_called f ≡ true → methods f (bare_parts ps) ≡ methods f ps
methods_bare Get none h = refl
methods_bare Get (part n ps) h = refl
methods_bare Get (gap none) h = refl
methods_bare Get (gap (gap ps)) h = refl
methods_bare Get (gap (part b none)) h = refl
methods_bare Get (gap (part b (part c ps))) h = refl
methods_bare Get (gap (part b (gap ps))) h = refl
methods_bare Set none h = refl
methods_bare Set (part n ps) h = refl
methods_bare Set (gap none) h = refl
methods_bare Set (gap (gap ps)) h = refl
methods_bare Set (gap (part n none)) h = refl
methods_bare Set (gap (part n (gap ps))) h = refl
methods_bare Set (gap (part n (part b none))) h = ap (λ k. cond (is_rest k) [] (only (absent ∷ sign "(" ∷ put_at (with_default true k) ∷ sign ")" ∷ sp ∷ put body ∷ []))) (kind_bare n)
methods_bare Set (gap (part n (part b (part c ps)))) h = refl
methods_bare Set (gap (part n (part b (gap ps)))) h = refl
methods_bare Method none h = refl
methods_bare Method (part n ps) h = refl
methods_bare Method (gap ps) h = ap (λ qs. only (absent ∷ sign "(" ∷ qs)) (parameters_bare (sign ")" ∷ sp ∷ put body ∷ []) ps)
methods_bare Init ps h = absurd (false≢true h)
methods_bare _ none h = refl
methods_bare _ (part n ps) h = refl
methods_bare _ (gap ps) h = ap (λ qs. only (absent ∷ sign "(" ∷ qs)) (parameters_bare (sign ")" ∷ sp ∷ put body ∷ []) ps)

method_form_called : (f : Form) → is_called (method_form f) ≡ true
method_form_called Get = refl
method_form_called Set = refl
method_form_called _ = refl

-- it is a way of the table at the position of its own form
function_listed : (f : Form) → is_called f ≡ true → (ps : Parts) {x : Spelling} → Among x (methods (method_form f) ps) → Among x (spellings (method f) (node FunctionExpression [] (function_or_class_flags (closure.Method f)) 0 0 ps))
unfolding spellings
function_listed Get h ps m = m
function_listed Set h ps m = m
function_listed Method h ps m = m
function_listed Init h ps m = absurd (false≢true h)
function_listed Shorthand h ps m = absurd (false≢true h)
function_listed Constructor h ps m = absurd (false≢true h)
function_listed Generator h none m = m
function_listed Generator h (part n ps) m = m
function_listed Generator h (gap ps) m = m
function_listed Async h none m = m
function_listed Async h (part n ps) m = m
function_listed Async h (gap ps) m = m
function_listed AsyncGenerator h none m = m
function_listed AsyncGenerator h (part n ps) m = m
function_listed AsyncGenerator h (gap ps) m = m

function_lean : (f : Form) → is_called f ≡ true → (st en : ℕ) (ps : Parts) → is_lean (bare (node FunctionExpression [] (function_or_class_flags (closure.Method f)) st en ps)) ≡ true
function_lean Get h st en ps = refl
function_lean _ h st en ps = refl

module _ (text : SourceText) where
  -- it begins with a `(`
  record Opens (s : Token) : Type 0 where
    sign_is : Token
    place : Token
    reads : Rattle.language.specs.Derivation.Reads Token (SeenNext text) (behind_in text) Punctuator (codes "(") s sign_is place

  opens : {o : ℕ} {qs : List (PieceOf Role)} {ps : Parts} {s e : Token} {P : List Pair} → RunsIn text o (absent ∷ tok Punctuator (codes "(") ∷ qs) ps s e P → Opens s
  opens (missing (step (token {t = t} {e = x} r) d)) = record { sign_is = t; place = x; reads = r }
  opens (step p d) = elim p [ ]

  setter_opens : (b : Bool) {o : ℕ} (qs : List Piece) {ps : Parts} {s e : Token} {P : List Pair} → RunsIn text o (anywhere (pieces_of (cond b [] (only (absent ∷ sign "(" ∷ qs))))) ps s e P → Opens s
  setter_opens true qs d = absurd (run_never Token (SeenNext text) (behind_in text) d)
  setter_opens false qs d = opens d

  method_opens : (f : Form) (ps : Parts) {o : ℕ} {s e : Token} {P : List Pair} → is_called f ≡ true → RunsIn text o (anywhere (pieces_of (methods f ps))) ps s e P → Opens s
  method_opens Get none h d = absurd (run_never Token (SeenNext text) (behind_in text) d)
  method_opens Get (part n ps) h d = absurd (run_never Token (SeenNext text) (behind_in text) d)
  method_opens Get (gap none) h d = absurd (run_never Token (SeenNext text) (behind_in text) d)
  method_opens Get (gap (gap ps)) h d = absurd (run_never Token (SeenNext text) (behind_in text) d)
  method_opens Get (gap (part b none)) h d = opens d
  method_opens Get (gap (part b (part c ps))) h d = absurd (run_never Token (SeenNext text) (behind_in text) d)
  method_opens Get (gap (part b (gap ps))) h d = absurd (run_never Token (SeenNext text) (behind_in text) d)
  method_opens Set none h d = absurd (run_never Token (SeenNext text) (behind_in text) d)
  method_opens Set (part n ps) h d = absurd (run_never Token (SeenNext text) (behind_in text) d)
  method_opens Set (gap none) h d = absurd (run_never Token (SeenNext text) (behind_in text) d)
  method_opens Set (gap (gap ps)) h d = absurd (run_never Token (SeenNext text) (behind_in text) d)
  method_opens Set (gap (part n none)) h d = absurd (run_never Token (SeenNext text) (behind_in text) d)
  method_opens Set (gap (part n (gap ps))) h d = absurd (run_never Token (SeenNext text) (behind_in text) d)
  method_opens Set (gap (part n (part b none))) h d = setter_opens (is_rest (kind_of n)) (put_at (with_default true (kind_of n)) ∷ sign ")" ∷ sp ∷ put body ∷ []) d
  method_opens Set (gap (part n (part b (part c ps)))) h d = absurd (run_never Token (SeenNext text) (behind_in text) d)
  method_opens Set (gap (part n (part b (gap ps)))) h d = absurd (run_never Token (SeenNext text) (behind_in text) d)
  method_opens Method none h d = absurd (run_never Token (SeenNext text) (behind_in text) d)
  method_opens Method (part n ps) h d = absurd (run_never Token (SeenNext text) (behind_in text) d)
  method_opens Method (gap ps) h d = opens d
  method_opens _ none h d = absurd (run_never Token (SeenNext text) (behind_in text) d)
  method_opens _ (part n ps) h d = absurd (run_never Token (SeenNext text) (behind_in text) d)
  method_opens _ (gap ps) h d = opens d

  record OneWay (xs : List Spelling) (o : ℕ) (ps : Parts) (s e : Token) (P : List Pair) : Type 0 where
    way : Spelling
    listed : Among way xs
    runs : RunsIn text o (anywhere way.pieces) ps s e P

  one_way : {o : ℕ} {ps : Parts} {s e : Token} {P : List Pair} (xs : List Spelling) → RunsIn text o (anywhere (pieces_of xs)) ps s e P → OneWay xs o ps s e P
  one_way [] d = absurd (run_never Token (SeenNext text) (behind_in text) d)
  one_way (x ∷ xs) d = record { way = x; listed = first; runs = d }

  -- the function of a method, from its `(` on
  pub function_spelled : {f : Form} {from o : ℕ} {n : Tree} {s e : Token} {P : List Pair} → is_called f ≡ true → ((u : LexicalToken) → Scans text.bytes Div s.stop u → from ≡ u.start) → ClosureAt text (closure.Method f) from n o s e P → SpellsIn text o (method f) n s e P
  function_spelled {f} {from} {o} {n} {s} {e} {P} called here d =
      let g = method_form f in
      let made : Flags = function_or_class_flags (closure.Method f) in
      let tree : Tree = node FunctionExpression [] made from e.stop d.parts in
      let mark = method_opens g d.parts (method_form_called f) d.runs in
      let w = one_way (methods g (bare_parts d.parts)) (subst (λ xs. RunsIn text o (anywhere (pieces_of xs)) d.parts s e P) (sym (methods_bare g d.parts (method_form_called f))) d.runs) in
      subst (λ v. SpellsIn text o (method f) v s e P) (sym d.tree)
      (direct (settled (method f) w.way) (way_from (method f) tree w.way (function_lean f called from e.stop d.parts) (function_listed f called (bare_parts d.parts) w.listed) (runs_can Token (SeenNext text) (behind_in text) Expression true Any w.way.pieces w.runs))
      (placed mark.reads.next (ap (λ (x : ℕ). (x, e.stop)) (sym (place_by text here (mark_by text mark.reads))))) w.runs)
