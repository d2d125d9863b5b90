-- A given function or class that is exported by default, behind its words (ECMA-262, 13th edition, 16.2.3).
use Rattle.std.proofs.Common.{◌≡◌, ℕ, suc, max, ◌-◌, ◌≤◌, arith, Bool, true, false, cond, not, List, [], ◌∷◌, Result, Ok, Err, refl, sym, ap, ◌∙◌, subst}
use Rattle.std.specs.Prelude.{codes}
use Rattle.std.specs.Result.{IsErrAnd}
use Rattle.std.proofs.lemmas.Bool.{false≢true}
use Rattle.source_text.specs.declared.fault.Fault.{Fault}
use Rattle.tokens.specs.declared.token.TokenClass.TheVariants.{IdentifierName, Punctuator}
use Rattle.tokens.specs.declared.token.Goal.TheVariants.{Div}
use Rattle.tokens.specs.declared.token.Token.{Token as Scanned}
use Rattle.tokens.specs.Scanned.{token_of}
use Rattle.token_cursor.specs.CursorState.{CursorState, IsAhead}
use Rattle.token_cursor.specs.SourceText.{SourceText, SeenNext, behind_in, unseen}
use Rattle.token_cursor.specs.Seen.{ReadsHere}
use Rattle.token_cursor.proofs.SeenTokens.{seen_determined}
use Rattle.token_cursor.proofs.TokensAhead.{ahead_next}
use Rattle.tree.specs.declared.kind.Kind.{Kind}
use Rattle.tree.specs.declared.kind.Kind.TheVariants.{FunctionDeclaration, ExportDefaultDeclaration}
use Rattle.tree.specs.declared.kind.Flags.{Flags}
use Rattle.tree.specs.declared.kind.Form.{Form}
use Rattle.tree.specs.declared.kind.Form.TheVariants.{Init, Async}
use Rattle.tree.specs.declared.kind.Pair.{Pair}
use Rattle.tree.specs.Tree.{Tree, node, plain, Parts, none, part, height, parts_height}
use Rattle.tree.specs.Uses.{is_async}
use Rattle.productions.specs.Made.{Makes}
use Rattle.language.specs.Claims.{max_open}
use Rattle.language.specs.Vocabulary.{is, among}
use Rattle.language.specs.Pieces.{default_item}
use Rattle.language.specs.Expressions.{function_words}
use Rattle.language.specs.Token.{Token, as_read}
use Rattle.language.specs.Derivation.{Reads, Placed, placed, laid, step}
use Rattle.language.proofs.table.Begins.{retell}
use Rattle.language.proofs.table.Beginnings.{form_flags}
use Rattle.language.proofs.climbing.BraceStarts.{default_begins, default_no_async}
use Rattle.language.proofs.climbing.NamesBehind.{apart_ended}
use Rattle.language.proofs.list_loops.FirstPieces.{run_laid}
use Rattle.unambiguity_laws.proofs.modules.Exports.{DefaultItem, a_function, a_class}
use Rattle.unambiguity_laws.proofs.statements.FunctionForms.{FunctionWords, AsyncWord, with_async, without_async, Star, with_star, without_star, form_of}
use Rattle.parser_tables.specs.declared.functions_and_classes.FunctionOrClass.{FunctionOrClass}
use Rattle.parser_tables.specs.declared.functions_and_classes.FunctionOrClass.TheVariants as closure
use Rattle.parser_tables.specs.StatementSymbols.{function_or_class_kind, function_or_class_flags}
use Rattle.recursive_descent.specs.Spelled.{OfLanguage, AllOfLanguage}
use Rattle.recursive_descent.specs.Soundness.{RunsIn, anywhere}
use Rattle.recursive_descent.specs.SoundnessOfStatements.{closure_pieces, behind_words, is_declared, begins_with_part}
use Rattle.recursive_descent.specs.Complete.{FunctionOrClassComplete}
use Rattle.recursive_descent.specs.Completeness.{Agrees, Room, EndsWith}
use Rattle.recursive_descent.specs.Later.{behind_first, WordsOf, StarTold}
use Rattle.recursive_descent.specs.ModuleItems.{DefaultBegun, DefaultComplete}
use Rattle.recursive_descent.proofs.reading.LanguageTrees.{first_of_language, parts_of_language, kind_of_language}
use Rattle.recursive_descent.proofs.complete_expressions.Agreement.{agrees_on, ends_behind, read_here, words_same}
use Rattle.recursive_descent.proofs.complete_expressions.FunctionsAndClassesGiven.{no_star_behind}
use Rattle.recursive_descent.proofs.complete_expressions.StartsGiven.{later_language}
use Rattle.recursive_descent.proofs.complete_statements.DeclarationsGiven.{WordsRead, one_word, a_star, a_word, word_and_star, words_read, behind_run, same_words}
use Rattle.recursive_descent.proofs.complete_statements.StatementGiven.{starred_later}
use Rattle.recursive_descent.proofs.sound_expressions.KeywordExpressions.{class_bare}
use Rattle.recursive_descent.proofs.sound_modules.DefaultReads.{word_here}
use Rattle.recursive_descent.proofs.complete_modules.ImportNodes.{node_agrees}
use Rattle.recursive_descent.proofs.complete_modules.DefaultGiven.{DefaultForm, item_given, value_given, default_form}

abbrev first_of : Bool → List ℕ
first_of b = cond b (codes "async") (codes "function")

async_of : (b c : Bool) → is_async (form_of b c) ≡ b
async_of true true = refl
async_of true false = refl
async_of false true = refl
async_of false false = refl

module _ (text : SourceText) {s : Token} where
  -- one word stands there
  clash : {A : Type 0} {m k t : Token} {w v : List ℕ} → Reads Token (SeenNext text) (behind_in text) IdentifierName w s t m → ReadsHere text IdentifierName v s k → (w ≡ v → ⊥) → A
  clash r r' other = absurd (other (sym r.text ∙ ap (λ (x : Token). x.text) (words_same text r r').0 ∙ r'.text))

  -- the first word of a function tells whether it is async
  first_async : {b : Bool} (c : Bool) {p m q t : Token} → AsyncWord Token (SeenNext text) (behind_in text) (seen_determined text) b s p → Reads Token (SeenNext text) (behind_in text) IdentifierName (codes "function") p t m → ReadsHere text IdentifierName (first_of c) s q → b ≡ c
  first_async true without_async r first = clash r first (λ e. false≢true (ap (λ w. is w "async") e))
  first_async false without_async r first = refl
  first_async true (with_async a nx line) r first = refl
  first_async false (with_async a nx line) r first = clash a first (λ e. false≢true (ap (λ w. is w "function") e))

  -- its words, behind the first
  words_of : {b c : Bool} {p q m z t : Token} → AsyncWord Token (SeenNext text) (behind_in text) (seen_determined text) b s p → Reads Token (SeenNext text) (behind_in text) IdentifierName (codes "function") p t m → Star Token (SeenNext text) (behind_in text) (seen_determined text) c m z → ReadsHere text IdentifierName (first_of b) s q →
      WordsRead text q (form_of b c) z
  words_of {q = q} without_async r without_star first = subst (WordsRead text q Init) (sym (words_same text r first).1) one_word
  words_of {z = z} without_async r (with_star x) first = a_star (subst (λ v. ReadsHere text Punctuator (codes "*") v z) (words_same text r first).1 (read_here text x))
  words_of {m = m} (with_async a nx line) r without_star first = a_word (subst (λ v. ReadsHere text IdentifierName (codes "function") v m) (words_same text a first).1 (read_here text r))
  words_of {m = m} (with_async a nx line) r (with_star x) first = word_and_star (subst (λ v. ReadsHere text IdentifierName (codes "function") v m) (words_same text a first).1 (read_here text r)) (read_here text x)

  -- where it stands
  spans : {K : Kind} {g : Flags} {st en : ℕ} {ps : Parts} {d : Tree} {to m t : Token} → d ≡ node K [] g st en ps → Placed Token (SeenNext text) (behind_in text) default_item d s to → SeenNext text s t m → d ≡ node K [] g t.start to.stop ps
  spans {K} {g} {st} {en} {ps} {to = to} {m} {t} tree pl next = tree ∙ (let u = of (subst (λ v. Placed Token (SeenNext text) (behind_in text) default_item v s to) tree pl) in (λ i. node K [] g (u.0 i) (u.1 i) ps))
    where
      of : Placed Token (SeenNext text) (behind_in text) default_item (node K [] g st en ps) s to → (st ≡ t.start) × (en ≡ to.stop)
      of (placed {t = u} {m = k} nx p) = (sym (ap (λ (x : ℕ × ℕ). x.0) p) ∙ (seen_determined text).start s u t k m nx next, sym (ap (λ (x : ℕ × ℕ). x.1) p))

module _ (s m k : CursorState) (t : Scanned) (w v : FunctionOrClass) (ahead : IsAhead Div s.text s.last.stop (token_of t)) (begun : DefaultBegun s.text s.last t w) (text : m.text ≡ s.text) (last : m.last ≡ unseen (as_read (token_of t))) (words : WordsOf w v m k) (from : ℕ) where
  record ClosureTold (y : FunctionOrClass) (o : ℕ) (n : Tree) (to : Token) (P : List Pair) : Type 0 where
    parts : Parts
    tree : n ≡ node ExportDefaultDeclaration [] plain from to.stop (part (node (function_or_class_kind y) [] (function_or_class_flags y) t.start to.stop parts) none)
    named : is_declared y ≡ true → begins_with_part parts ≡ true
    runs : RunsIn s.text o (anywhere (closure_pieces y parts)) parts k.last to P

  first_read : (x : List ℕ) → t.class ≡ IdentifierName → t.text.now ≡ x → ReadsHere s.text IdentifierName x s.last m.last
  first_read x a b = subst (λ z. ReadsHere s.text IdentifierName x s.last z) (sym last) (word_here s.text s.last t ahead x a b)

  next_read : SeenNext s.text s.last (as_read (token_of t)) (unseen (as_read (token_of t)))
  next_read = ahead_next s.text Div s.last (token_of t) ahead

  module _ {o : ℕ} {n d : Tree} {to : Token} {P : List Pair} (tree : n ≡ node ExportDefaultDeclaration [] plain from to.stop (part d none)) (own : OfLanguage s.text n) where
    function_given : (x : Form) (y : FunctionOrClass) {z : Form} {st en : ℕ} {ps : Parts} → ReadsHere s.text IdentifierName (first_of (is_async x)) s.last m.last → WordsOf (closure.DefaultFunction x) y m k → d ≡ node FunctionDeclaration [] (form_flags z) st en ps → Placed Token (SeenNext s.text) (behind_in s.text) default_item d s.last to →
        FunctionWords Token (SeenNext s.text) (behind_in s.text) (seen_determined s.text) z o ps s.last to P → ClosureTold y o n to P
    function_given x (closure.DefaultFunction y) {z} {st} {en} {ps} first words its pl f =
        let same_async : f.is_async ≡ is_async x = first_async s.text (is_async x) f.word f.reads first in
        let given : WordsRead s.text m.last (form_of f.is_async f.star) f.rest.place = words_of s.text f.word f.reads f.rest.starred (subst (λ b. ReadsHere s.text IdentifierName (first_of b) s.last m.last) (sym same_async) first) in
        let runs : RunsIn s.text o (anywhere (behind_words ps)) ps f.rest.place to P = behind_run s.text ps (step laid f.rest.runs) in
        let read : WordsRead s.text m.last y k.last = words_read s.text y words.0.0 (subst (λ z. RunsIn z 0 (anywhere (behind_first (function_words y))) none m.last k.last []) text (words.0.1 0)) in
        let told = subst (λ z. StarTold z k.last y) text words.0.2 in
        let here : d ≡ node FunctionDeclaration [] (form_flags (form_of f.is_async f.star)) st en ps = its ∙ ap (λ q. node FunctionDeclaration [] (form_flags q) st en ps) f.form in
        let own' : OfLanguage s.text (node FunctionDeclaration [] (form_flags (form_of f.is_async f.star)) st en ps) = subst (OfLanguage s.text) here (first_of_language (parts_of_language (subst (λ x. OfLanguage s.text x) tree own))) in
        let one = same_words s.text given read (words.1 ∙ sym (async_of f.is_async f.star ∙ same_async)) (λ t e r. no_star_behind s.text ps runs r)
        (λ bare starred. told.1 bare (later_language s.text.language (λ b. false≢true (sym (kind_of_language own' b) ∙ starred_later (form_of f.is_async f.star) starred)))) in
        record {
          parts = ps;
          tree = tree ∙ ap (λ q. node ExportDefaultDeclaration [] plain from to.stop (part q none)) (spans s.text here pl next_read ∙ ap (λ q. node FunctionDeclaration [] (form_flags q) t.start to.stop ps) (sym one.0));
          named = λ h. absurd (false≢true h);
          runs = subst (λ q. RunsIn s.text o (anywhere (behind_words ps)) ps q to P) (sym one.1) runs;
        }
    function_given x (closure.Function y) first words its pl f = (let q = words.0 in cc)
    function_given x (closure.FunctionDeclaration y) first words its pl f = (let q = words.0 in cc)
    function_given x (closure.Method y) first words its pl f = (let q = words.0 in cc)
    function_given x closure.Class first words its pl f = (let q = words.0 in cc)
    function_given x closure.ClassDeclaration first words its pl f = (let q = words.0 in cc)
    function_given x closure.DefaultClass first words its pl f = (let q = words.0 in cc)

    item_told : (w : FunctionOrClass) → DefaultBegun s.text s.last t w → WordsOf w v m k → DefaultItem Token (SeenNext s.text) (behind_in s.text) (seen_determined s.text) o d s.last to P → ClosureTold v o n to P
    item_told (closure.DefaultFunction Init) begun words (a_function its pl f) = function_given Init v (first_read (codes "function") begun.0 begun.1) words its pl f
    item_told (closure.DefaultFunction Init) begun words (a_class its pl r d) = clash s.text r (first_read (codes "function") begun.0 begun.1) (λ e. false≢true (ap (λ w. is w "function") e))
    item_told (closure.DefaultFunction Async) begun words (a_function its pl f) = function_given Async v (first_read (codes "async") begun.0 begun.1) words its pl f
    item_told (closure.DefaultFunction Async) begun words (a_class its pl r d) = clash s.text r (first_read (codes "async") begun.0 begun.1) (λ e. false≢true (ap (λ w. is w "async") e))
    item_told closure.DefaultClass begun words (a_function its pl f) = of f.word f.reads
      where
        first : ReadsHere s.text IdentifierName (codes "class") s.last m.last
        first = first_read (codes "class") begun.0 begun.1

        of : {b : Bool} {p m t : Token} → AsyncWord Token (SeenNext s.text) (behind_in s.text) (seen_determined s.text) b s.last p → Reads Token (SeenNext s.text) (behind_in s.text) IdentifierName (codes "function") p t m → ClosureTold v o n to P
        of without_async r = clash s.text r first (λ e. false≢true (ap (λ w. is w "class") e))
        of (with_async a nx line) r = clash s.text a first (λ e. false≢true (ap (λ w. is w "class") e))
    item_told closure.DefaultClass begun words (a_class {st = st} {en} {qs} its pl r run) =
        let first : ReadsHere s.text IdentifierName (codes "class") s.last m.last = first_read (codes "class") begun.0 begun.1 in
        let there = (words_same s.text r first).1 ∙ sym words.1 in
        subst (λ z. ClosureTold z o n to P) (sym words.0) (record {
          parts = qs;
          tree = tree ∙ ap (λ q. node ExportDefaultDeclaration [] plain from to.stop (part q none)) (spans s.text its pl next_read);
          named = λ h. absurd (false≢true h);
          runs = subst (λ q. RunsIn s.text o (anywhere (closure_pieces closure.DefaultClass qs)) qs q to P) there (retell Token (SeenNext s.text) (behind_in s.text) (ap anywhere (sym (class_bare qs))) (run_laid Token (SeenNext s.text) (behind_in s.text) run));
        })
    item_told _ begun words u = absurd begun

  closure_told : {o : ℕ} {n : Tree} {to : Token} {P : List Pair} → OfLanguage s.text n → DefaultForm s.text o n from s.last to P → ClosureTold v o n to P
  closure_told own (item_given u tree) = item_told tree own w begun words u
  closure_told {o} {n} {to} {P} own (value_given {d = d} {k = z} given ends tree) = absurd (none w begun)
    where
      begins_none : (x : List ℕ) → ReadsHere s.text IdentifierName x s.last m.last → not (among x ("function" ∷ "class" ∷ [])) ≡ true
      begins_none x r = default_begins Token (SeenNext s.text) (behind_in s.text) (seen_determined s.text) given r

      none : (w : FunctionOrClass) → DefaultBegun s.text s.last t w → ⊥
      none (closure.DefaultFunction Init) begun = false≢true (begins_none (codes "function") (first_read (codes "function") begun.0 begun.1))
      none (closure.DefaultFunction Async) begun = default_no_async Token (SeenNext s.text) (behind_in s.text) (seen_determined s.text) (apart_ended Token (SeenNext s.text) (behind_in s.text) (seen_determined s.text) refl ends) given begun.2.async begun.2.function begun.2.same_line
      none closure.DefaultClass begun = false≢true (begins_none (codes "class") (first_read (codes "class") begun.0 begun.1))
      none _ begun = begun

  module _ (e : CursorState) (old mid new : List Pair) (inner high : ℕ) (less : inner ≡ high - 1) (text_k : k.text ≡ s.text) (same_open : k.opened ≡ s.opened) (kept : mid ≡ old) where
    given : (result : Result Tree Fault) → FunctionOrClassComplete k e mid new inner v t.start result → {o : ℕ} {n : Tree} {to : Token} {P : List Pair} → OfLanguage s.text n → (u : ClosureTold v o n to P) →
        Agrees (Room k o (suc (parts_height u.parts)) inner) (λ x. (x ≡ node (function_or_class_kind v) [] (function_or_class_flags v) t.start to.stop u.parts) × EndsWith k e mid new to P) result
    given result complete {o} {n} {to} {P} own u =
        let parts_own : AllOfLanguage k.text u.parts = subst (λ z. AllOfLanguage z u.parts) (sym text_k) (parts_of_language (first_of_language (parts_of_language (subst (λ x. OfLanguage s.text x) u.tree own)))) in
        complete u.parts o to P (subst (λ z. RunsIn z o (anywhere (closure_pieces v u.parts)) u.parts k.last to P) (sym text_k) u.runs) u.named parts_own

    pub closure_refused : (result : Result Tree Fault) (fault : Fault) → IsErrAnd result (λ x. x ≡ fault) → FunctionOrClassComplete k e mid new inner v t.start (Err fault) → DefaultComplete s e old new high from result
    closure_refused result fault told complete o n b x to P word stands default_word d fine own =
        let u = closure_told own (default_form s.text word stands default_word d) in
        let tall : height n ≡ suc (max (suc (parts_height u.parts)) 0) = ap height u.tree in
        agrees_on (Room k o (suc (parts_height u.parts)) inner) (Room s o (height n) high) (λ x. (x ≡ n) × EndsWith s e old new to P) result fault told (given (Err fault) complete own u)
        (λ room. let low = room.1 in (subst (λ z. o ≤ max_open - z) (sym same_open) room.0, subst (λ k. suc (parts_height u.parts) ≤ k) (sym less) (omega arith)))

    pub closure_answered : (x : Tree) (result : Result Tree Fault) → FunctionOrClassComplete k e mid new inner v t.start (Ok x) → Makes (node ExportDefaultDeclaration [] plain from e.last.stop (part x none)) high result → DefaultComplete s e old new high from result
    closure_answered x result complete made o n b y to P word stands default_word d fine own =
        let u = closure_told own (default_form s.text word stands default_word d) in
        let a = given (Ok x) complete own u in
        node_agrees s e old new o to P (node ExportDefaultDeclaration [] plain from e.last.stop (part x none)) n high result ((λ i. node ExportDefaultDeclaration [] plain from ((a.1.place i).stop) (part (a.0 i) none)) ∙ sym u.tree) (ends_behind kept a.1) made
