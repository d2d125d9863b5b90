-- Statements and declarations whose first token is their own, at the position of their context (ECMA-262 13, 14.1, 14.6).
use Rattle.std.proofs.Common.{◌≡◌, ◌⊎◌, inl, inr, ℕ, Bool, true, false, cond, List, ◌∷◌, Result, Ok, Err, refl, sym, ap, subst, ◌∙◌}
use Rattle.std.specs.Prelude.{IfOk, ◌&&◌, cond, codes, [], ◌∷◌, List, not}
use Rattle.std.proofs.lemmas.Bool.{false≢true, and_parts}
use Rattle.source_text.specs.declared.fault.Fault.{Fault}
use Rattle.tokens.specs.declared.token.Goal.TheVariants.{RegExp}
use Rattle.tokens.specs.declared.token.Token.{Token as Scanned}
use Rattle.tokens.specs.Scanned.{token_of}
use Rattle.tokens.specs.Tokens.{LexicalToken}
use Rattle.token_cursor.specs.CursorState.{CursorState, IsAhead}
use Rattle.tree.specs.declared.kind.Kind.{Kind}
use Rattle.tree.specs.declared.kind.Kind.TheVariants as kind
use Rattle.tree.specs.declared.kind.Pair.{Pair}
use Rattle.tree.specs.Tree.{Tree, node, Parts, none, part, gap, plain, bare, bare_parts}
use Rattle.language.specs.StatementStart.{StatementStart, a_function, a_class, statement_start, is_own, statement_start_by, statement_start_among, statement_words, statement_signs, a_variable, an_expression}
use Rattle.language.specs.Pieces.{Role, statement, item, opening, Spelling, at}
use Rattle.language.specs.Expressions.{function_pieces, class_pieces, function_words}
use Rattle.language.specs.Token.{Token, as_read}
use Rattle.language.specs.Derivation.{place, placed, laid, step, Among, first, direct, token}
use Rattle.language.proofs.table.Begins.{retell, among_by}
use Rattle.language.proofs.table.Beginnings.{text_as, settled_at}
use Rattle.language.proofs.table.OwnTokenWays.{own_spells, statement_fits, statement_spans}
use Rattle.language.proofs.table.StatementWays.{Stands, as_statement, as_item, as_opening, begins_as}
use Rattle.token_cursor.proofs.SeenTokens.{seen_determined}
use Rattle.parser_tables.specs.declared.functions_and_classes.FunctionOrClass.{FunctionOrClass}
use Rattle.parser_tables.specs.declared.functions_and_classes.FunctionOrClass.TheVariants as closure
use Rattle.parser_tables.specs.declared.statements.StatementStart.TheVariants as code
use Rattle.parser_tables.specs.declared.statements.StatementContext.{StatementContext}
use Rattle.parser_tables.specs.StatementStarts.{coded_statement_start, AsyncFunctionAhead, BegunWith}
use Rattle.recursive_descent.specs.Soundness.{RunsIn, anywhere, Adds, Begins}
use Rattle.recursive_descent.specs.SoundnessOfStatements.{StatementAt, ClosureAt, context_role, after_word, begins_with_part, behind_words}
use Rattle.recursive_descent.proofs.reading.AddedPairs.{adds_behind}
use Rattle.token_cursor.proofs.TokensAhead.{ahead_read, ahead_next, not_true}
use Rattle.recursive_descent.proofs.sound_statements.StatementWays.{StatedBy}
use Rattle.token_cursor.specs.SourceText.{SourceText, SeenNext, behind_in, unseen}
use Rattle.tree.specs.declared.kind.Form.{Form}
use Rattle.tree.specs.declared.kind.Flags.{Flags}
use Rattle.tree.specs.Uses.{is_function_form, is_async, is_lean}
use Rattle.language.specs.Grammar.{spellings}
use Rattle.tree.specs.declared.kind.Kind.TheVariants.{FunctionDeclaration}
use Rattle.recursive_descent.specs.Later.{behind_first, WordsOf, WordsAt}
use Rattle.recursive_descent.specs.Spelled.{SpellsIn}
use Rattle.language.proofs.table.Productions.{way_from, runs_can}
use Rattle.language.proofs.lower_bound.Domination.{settled}
use Rattle.recursive_descent.proofs.sound_expressions.KeywordExpressions.{function_bare, whole_function}
use Rattle.language.specs.declared.Rank.TheVariants.{Expression, Primary}
use Rattle.language.specs.declared.Start.TheVariants.{Any}
use Rattle.token_cursor.specs.Seen.{ReadsHere}
use Rattle.tokens.specs.declared.token.TokenClass.TheVariants.{IdentifierName, Punctuator}
use Rattle.tree.specs.declared.kind.Form.TheVariants as form
use Rattle.language.specs.Statements.{statements, items, openings}
use Rattle.recursive_descent.proofs.reading.SeenClasses.{as_here}
use Rattle.language.specs.Promises.{is_free}
use Rattle.language.specs.Vocabulary.{among}
use Rattle.tokens.specs.declared.token.TokenClass.{TokenClass}
use Prim.Native.String.{String}

abbrev pub role_of : Bool → Bool → Bool → Role
role_of i p r = cond i (cond p (opening r) (item r)) (statement r)

stands_of : (i p r : Bool) → Stands (role_of i p r) (i && p) i r
stands_of true true r = as_opening
stands_of true false r = as_item
stands_of false p r = as_statement

pub place_of : (i p r : Bool) (t l : Token) → place (role_of i p r) t l ≡ (t.start, l.stop)
place_of true true r t l = refl
place_of true false r t l = refl
place_of false p r t l = refl

-- the span of a statement is that of its tokens
function_pieces_listed : {a : Role} {p r : Bool} (w : List ℕ) (g : Flags) (st en : ℕ) (n : Tree) (qs : Parts) → Stands a p true r → Among (at Primary (function_pieces g.form (part n qs))) (spellings a (node FunctionDeclaration w g st en (part n qs)))
unfolding spellings statements items openings
function_pieces_listed w g st en n qs as_item = first
function_pieces_listed w g st en n qs as_opening = first

function_lean : (x : Form) (st en : ℕ) (ps : Parts) → is_lean (bare (node FunctionDeclaration [] (record plain { form = x }) st en ps)) ≡ true
function_lean form.Init st en ps = refl
function_lean _ st en ps = refl

-- the words of a function, by the first of them
pub words_from : {text : SourceText} {o : ℕ} {z m e : Token} (y : Form) → is_function_form y ≡ true → ReadsHere text IdentifierName (cond (is_async y) (codes "async") (codes "function")) z m → RunsIn text o (anywhere (behind_first (function_words y))) none m e [] → RunsIn text o (anywhere (function_words y)) none z e []
words_from form.Init h r d = step (token r) d
words_from form.Generator h r d = step (token r) d
words_from form.Async h r d = step (token r) d
words_from form.AsyncGenerator h r d = step (token r) d
words_from form.Get h r d = absurd (false≢true h)
words_from form.Set h r d = absurd (false≢true h)
words_from form.Method h r d = absurd (false≢true h)
words_from form.Shorthand h r d = absurd (false≢true h)
words_from form.Constructor h r d = absurd (false≢true h)

module _ (text : SourceText) {o : ℕ} {s m e : Token} {P : List Pair} where
  -- a function that is declared, behind its words
  pub declared_function : {a : Role} {p r : Bool} {from : ℕ} (x : Form) → Stands a p true r → Begins text from s → RunsIn text o (anywhere (function_words x)) none s m [] → (ps : Parts) → begins_with_part ps ≡ true → RunsIn text o (anywhere (behind_words ps)) ps m e P →
      SpellsIn text o a (node FunctionDeclaration [] (record plain { form = x }) from e.stop ps) s e P
  declared_function {a} {p} {r} {from} x stands begins words (part n qs) named run =
      let g : Flags = record plain { form = x } in
      let made : Tree = node FunctionDeclaration [] g from e.stop (part n qs) in
      let way : Spelling = at Primary (function_pieces x (bare_parts (part n qs))) in
      let whole : RunsIn text o (anywhere way.pieces) (part n qs) s e P = retell Token (SeenNext text) (behind_in text) (ap anywhere (function_bare x (part n qs))) (whole_function x words run) in
      direct (settled a way) (way_from a made way (function_lean x from e.stop (part n qs)) (function_pieces_listed [] g 0 0 (bare n) (bare_parts qs) stands) (statement_fits stands way ∙ runs_can Token (SeenNext text) (behind_in text) Expression true Any way.pieces whole))
      (placed begins.next (statement_spans stands begins.token (behind_in text e) ∙ ap (λ (v : ℕ). (v, e.stop)) begins.start)) (retell Token (SeenNext text) (behind_in text) (sym (settled_at stands way)) whole)
  declared_function x stands begins words none named run = absurd (false≢true named)
  declared_function x stands begins words (gap ps) named run = absurd (false≢true named)

module _ (text : SourceText) {o : ℕ} {e : Token} {P : List Pair} where
  declared_class : (r : Bool) {m : Token} (ps : Parts) → begins_with_part ps ≡ true → RunsIn text o (anywhere (after_word (class_pieces ps))) ps m e P → StatedBy text r kind.ClassDeclaration ps o m e P
  declared_class r (part n none) h run = record { runs = step laid run; dangles = λ h. cc }
  declared_class r (part n (gap ps)) h run = record { runs = step laid run; dangles = λ h. cc }
  declared_class r (part n (part k ps)) h run = record { runs = step laid run; dangles = λ h. cc }
  declared_class r none h run = absurd (false≢true h)
  declared_class r (gap ps) h run = absurd (false≢true h)

-- which words the closure has, whose first was passed, where a statement begins so
pub coded_closure : (c : FunctionOrClass) (x : StatementStart) → code.FunctionOrClass c ≡ coded_statement_start x → ((x ≡ a_function) × (c ≡ closure.FunctionDeclaration form.Init)) ⊎ ((x ≡ a_class) × (c ≡ closure.ClassDeclaration))
coded_closure c a_function h = inl (refl, cc)
coded_closure c a_class h = inr (refl, cc)
coded_closure c _ h = cc

module _ (text : SourceText) {o : ℕ} {s e : Token} {P : List Pair} where
  -- with its first token
  pub own_stated : (c : StatementContext) (t : LexicalToken) (k : Kind) {ps : Parts} → IsAhead RegExp text s.stop t → statement_start c.is_item c.returns (as_read t) ≡ begins_as k → is_own (begins_as k) ≡ true → StatedBy text c.returns k ps o (unseen (as_read t)) e P →
      StatementAt text (context_role c) (node k (text_as (begins_as k) (as_read t).text) plain t.start e.stop ps) o s e P
  own_stated c t k ahead begun own u =
      let read = ahead_read text RegExp s t ahead in
      record {
        spelled = own_spells Token (SeenNext text) (behind_in text) (seen_determined text) k (stands_of c.is_item c.is_prologue c.returns) read begun own (placed read.next (place_of c.is_item c.is_prologue c.returns (as_read t) (behind_in text e))) u.runs;
        dangles = u.dangles;
      }

-- the word of a declaration that is told by its first token
abbrev is_function_start : StatementStart → Bool
is_function_start a_function = true
is_function_start _ = false

abbrev none_in : (StatementStart → Bool) → List (List String × StatementStart) → Bool
none_in f [] = not (f an_expression)
none_in f (row ∷ rows) = not (f row.1) && none_in f rows

none_among : (f : StatementStart → Bool) (w : List ℕ) (rows : List (List String × StatementStart)) → none_in f rows ≡ true → f (statement_start_among w rows) ≡ false
none_among f w [] h = not_true (f an_expression) h
none_among f w (row ∷ rows) h = let u = and_parts (not (f row.1)) (none_in f rows) h in of (among w row.0) (not_true (f row.1) u.0) (none_among f w rows u.1)
  where
    of : (b : Bool) → f row.1 ≡ false → f (statement_start_among w rows) ≡ false → f (cond b row.1 (statement_start_among w rows)) ≡ false
    of true h k = h
    of false h k = k

none_of_words : (r : Bool) → (none_in is_function_start (statement_words r) ≡ true) × (none_in is_function_start (("class" ∷ [], a_class) ∷ ("let" ∷ "const" ∷ [], a_variable) ∷ statement_words r) ≡ true)
none_of_words true = (refl, refl)
none_of_words false = (refl, refl)

function_told : (d r : Bool) (k : TokenClass) (w : List ℕ) → statement_start_by d r k w ≡ a_function → (d ≡ true) × (k ≡ IdentifierName) × (w ≡ codes "function")
function_told true r IdentifierName w h = of (among w ("function" ∷ [])) refl h
  where
    of : (b : Bool) → among w ("function" ∷ []) ≡ b → cond b a_function (statement_start_among w (("class" ∷ [], a_class) ∷ ("let" ∷ "const" ∷ [], a_variable) ∷ statement_words r)) ≡ a_function → (true ≡ true) × (IdentifierName ≡ IdentifierName) × (w ≡ codes "function")
    of true e k = (refl, refl, among_by (λ v. v ≡ codes "function") w ("function" ∷ []) e (refl, tt))
    of false e k = absurd (false≢true (sym (none_among is_function_start w (("class" ∷ [], a_class) ∷ ("let" ∷ "const" ∷ [], a_variable) ∷ statement_words r) (none_of_words r).1) ∙ ap is_function_start k))
function_told false r IdentifierName w h = absurd (false≢true (sym (none_among is_function_start w (statement_words r) (none_of_words r).0) ∙ ap is_function_start h))
function_told d r Punctuator w h = absurd (false≢true (sym (none_among is_function_start w statement_signs refl) ∙ ap is_function_start h))
function_told d r _ w h = cc

module _ (text : SourceText) (c : StatementContext) (s : Token) (t : LexicalToken) (ahead : IsAhead RegExp text s.stop t) where
  abbrev pub first_place : Token
  first_place = unseen (as_read t)

  record Worded (w : List ℕ) : Type 0 where
    item : c.is_item ≡ true
    read : ReadsHere text IdentifierName w s first_place

  function_word : statement_start c.is_item c.returns (as_read t) ≡ a_function → Worded (codes "function")
  function_word h =
      let u = function_told c.is_item c.returns t.class (as_read t).text h in
      record { item = u.0; read = as_here text (record { next = ahead_next text RegExp s t ahead; class = u.1; text = u.2 }) }

  async_word : AsyncFunctionAhead text s → ReadsHere text IdentifierName (codes "async") s first_place
  async_word h =
      let read = ahead_read text RegExp s t ahead in
      let free = (seen_determined text).free RegExp s (behind_in text h.mid) h.mid h.async.next (ap is_free h.async.class) in
      let same = (seen_determined text).same RegExp s (as_read t) (behind_in text h.mid) first_place h.mid read.next h.async.next read.allowed free in
      subst (λ m. ReadsHere text IdentifierName (codes "async") s m) (sym same.1) h.async

  module _ {o : ℕ} {e : Token} {P : List Pair} where
    function_stated : {n : Tree} (x y : Form) (m k : CursorState) → c.is_item ≡ true → ReadsHere text IdentifierName (cond (is_async x) (codes "async") (codes "function")) s first_place → m.text ≡ text → m.last ≡ first_place → WordsAt m k y × (is_async y ≡ is_async x) → ClosureAt text (closure.FunctionDeclaration y) t.start n o k.last e P →
        StatementAt text (context_role c) n o s e P
    function_stated x y m k is_an_item read text_is last words d =
        let first_word : ReadsHere text IdentifierName (cond (is_async y) (codes "async") (codes "function")) s m.last = subst (λ b. ReadsHere text IdentifierName (cond b (codes "async") (codes "function")) s m.last) (sym words.1) (subst (λ z. ReadsHere text IdentifierName (cond (is_async x) (codes "async") (codes "function")) s z) (sym last) read) in
        let all_words : RunsIn text o (anywhere (function_words y)) none s k.last [] = words_from y words.0.0 first_word (subst (λ z. RunsIn z o (anywhere (behind_first (function_words y))) none m.last k.last []) text_is (words.0.1 o)) in
        let begins : Begins text t.start s = record { token = as_read t; place = first_place; next = ahead_next text RegExp s t ahead; start = refl } in
        let stands : Stands (context_role c) (c.is_item && c.is_prologue) true c.returns = subst (λ b. Stands (context_role c) (c.is_item && c.is_prologue) b c.returns) is_an_item (stands_of c.is_item c.is_prologue c.returns) in
        subst (λ z. StatementAt text (context_role c) z o s e P) (sym d.tree) (record {
          spelled = declared_function text y stands begins all_words d.parts (d.named refl) d.runs;
          dangles = λ h. cc;
        })

    -- a declaration, behind its words
    pub declared : {n : Tree} (w v : FunctionOrClass) (m k : CursorState) → BegunWith text s c.is_item (coded_statement_start (statement_start c.is_item c.returns (as_read t))) (code.FunctionOrClass w) → m.text ≡ text → m.last ≡ first_place → WordsOf w v m k → ClosureAt text v t.start n o k.last e P → StatementAt text (context_role c) n o s e P
    declared {n} w v m k (inl h) text_is last words d = of v (subst (λ z. WordsOf z v m k) (closure_is h.0) words) d
      where
        closure_is : {a b : FunctionOrClass} → code.FunctionOrClass a ≡ code.FunctionOrClass b → a ≡ b
        closure_is q = cc

        of : (v : FunctionOrClass) → WordsOf (closure.FunctionDeclaration form.Async) v m k → ClosureAt text v t.start n o k.last e P → StatementAt text (context_role c) n o s e P
        of (closure.FunctionDeclaration y) words d = function_stated form.Async y m k h.3 (async_word h.4) text_is last words d
        of v words d = (let q = words.0 in cc)
    declared {n} w v m k (inr h) text_is last words d = elim (coded_closure w (statement_start c.is_item c.returns (as_read t)) h.0) [
      | inl u ↦ of v (subst (λ z. WordsOf z v m k) u.1 words) u.0 d
      | inr u ↦ (let here : WordsOf closure.ClassDeclaration v m k = subst (λ z. WordsOf z v m k) u.1 words in
          let d' : ClosureAt text closure.ClassDeclaration t.start n o first_place e P = subst (λ z. ClosureAt text closure.ClassDeclaration t.start n o z e P) (here.1 ∙ last) (subst (λ z. ClosureAt text z t.start n o k.last e P) here.0 d) in
          subst (λ z. StatementAt text (context_role c) z o s e P) (sym d'.tree) (own_stated text c t kind.ClassDeclaration ahead u.0 refl (declared_class text c.returns d'.parts (d'.named refl) d'.runs)))
    ]
      where
        of : (v : FunctionOrClass) → WordsOf (closure.FunctionDeclaration form.Init) v m k → statement_start c.is_item c.returns (as_read t) ≡ a_function → ClosureAt text v t.start n o k.last e P → StatementAt text (context_role c) n o s e P
        of (closure.FunctionDeclaration y) words begun d = let f = function_word begun in function_stated form.Init y m k f.item f.read text_is last words d
        of v words begun d = (let q = words.0 in cc)

pub closure_stated : (s m k e : CursorState) (old mid new : List Pair) (c : StatementContext) (t : Scanned) (w v : FunctionOrClass) (result : Result Tree Fault) → IsAhead RegExp s.text s.last.stop (token_of t) → BegunWith s.text s.last c.is_item (coded_statement_start (statement_start c.is_item c.returns (as_read (token_of t)))) (code.FunctionOrClass w) →
    m.text ≡ s.text → m.last ≡ unseen (as_read (token_of t)) → WordsOf w v m k → k.text ≡ s.text → k.opened ≡ s.opened → mid ≡ old → IfOk result (λ n. Adds k e mid new (ClosureAt k.text v t.start n)) → IfOk result (λ n. Adds s e old new (StatementAt s.text (context_role c) n))
closure_stated s m k e old mid new c t w v (Ok n) ahead begun text last words text_k open_same same a =
    adds_behind open_same same a (λ o P u. declared s.text c s.last (token_of t) ahead w v m k begun text last words (subst (λ x. ClosureAt x v t.start n o k.last e.last P) text_k u))
closure_stated s m k e old mid new c t w v (Err fault) ahead begun text last words text_k open_same same a = tt
