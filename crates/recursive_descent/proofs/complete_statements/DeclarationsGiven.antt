-- Functions that are declared, as they are given: their words, and what stands behind them (ECMA-262, 13th edition, 15.2, 15.5, 15.6, 15.8).
use Rattle.std.proofs.Common.{◌≡◌, ℕ, Bool, true, false, List, [], ◌∷◌, ◌++◌, refl, sym, ap, ◌∙◌, subst}
use Rattle.std.specs.Prelude.{codes}
use Rattle.std.proofs.lemmas.Bool.{false≢true}
use Rattle.tokens.specs.declared.token.TokenClass.TheVariants.{IdentifierName, Punctuator}
use Rattle.tokens.specs.declared.token.Goal.TheVariants.{RegExp}
use Rattle.tree.specs.declared.kind.Form.{Form}
use Rattle.tree.specs.declared.kind.Form.TheVariants.{Init, Generator, Async, AsyncGenerator}
use Rattle.tree.specs.declared.kind.Flags.{Flags}
use Rattle.tree.specs.declared.kind.Kind.{Kind}
use Rattle.tree.specs.declared.kind.Kind.TheVariants.{FunctionDeclaration}
use Rattle.tree.specs.declared.kind.Pair.{Pair}
use Rattle.tree.specs.Tree.{Tree, node, Parts, none, part, gap, bare_parts}
use Rattle.tree.specs.Uses.{is_function_form, is_async}
use Rattle.language.specs.declared.Rank.TheVariants.{Expression}
use Rattle.language.specs.declared.Start.TheVariants.{Any}
use Rattle.language.specs.FirstPart.{others}
use Rattle.language.specs.Expressions.{named, function_words, function_pieces}
use Rattle.language.specs.Pieces.{Role, absent, name, put, sign, sp, parameters}
use Rattle.language.specs.Promises.{ReadBy}
use Rattle.language.specs.StatementStart.{StatementStart, a_function, an_expression, is_own, statement_start}
use Rattle.language.specs.Statements.{statements, items, openings}
use Rattle.language.specs.Grammar.{spellings}
use Rattle.language.specs.Token.{Token}
use Rattle.language.specs.Derivation.{Placed, direct}
use Rattle.language.proofs.table.Beginnings.{form_flags, later_for, Viewed, its_own, another, later, viewed, later_generator, later_async, OwnWay, LaterWay}
use Rattle.language.proofs.table.Begins.{retell, goes_to}
use Rattle.language.proofs.table.Begins as begins
use Rattle.language.proofs.table.StatementWays.{Stands, as_statement, as_item, as_opening, begins_as, behind_own}
use Rattle.language.proofs.table.ViewIsComplete.{way_of}
use Rattle.language.proofs.list_loops.FirstPieces.{run_none, run_token, run_laid, run_unbroken, run_never}
use Rattle.language.proofs.statements.ExpressionStatements.{other_no_function}
use Rattle.token_cursor.proofs.SeenTokens.{seen_determined}
use Rattle.token_cursor.specs.Seen.{ReadsHere, Misses}
use Rattle.token_cursor.specs.SourceText.{SourceText, SeenNext, behind_in}
use Rattle.recursive_descent.specs.Soundness.{RunsIn, anywhere}
use Rattle.recursive_descent.specs.SoundnessOfStatements.{behind_words, begins_with_part}
use Rattle.recursive_descent.specs.Later.{behind_first, is_starred}
use Rattle.recursive_descent.specs.Completeness.{FinishedIn}
use Rattle.recursive_descent.specs.Spelled.{SpellsIn}
use Rattle.recursive_descent.proofs.complete_expressions.Agreement.{read_here, marks_same, words_same, not_missed}
use Rattle.recursive_descent.proofs.complete_subscripts.SubscriptsGiven.{alike}
use Rattle.recursive_descent.proofs.sound_statements.FunctionsAndClasses.{parameters_bare, closing_and_body}

-- places aside, what stands behind the words is the same
behind_bare : (ps : Parts) → (sp ∷ named (bare_parts ps)) ++ sign "(" ∷ parameters closing_and_body (others (bare_parts ps)) ≡ behind_words ps
behind_bare none = refl
behind_bare (gap ps) = ap (λ y. sp ∷ absent ∷ sign "(" ∷ y) (parameters_bare closing_and_body ps)
behind_bare (part n ps) = ap (λ y. sp ∷ put name ∷ sign "(" ∷ y) (parameters_bare closing_and_body ps)

async_plain : true ≡ false → ⊥
async_plain e = false≢true (sym e)

module _ (text : SourceText) where
  -- the words of a function behind the first of them, as they are read
  pub data WordsRead (s : Token) : Form → Token → Type 0 where
    one_word : WordsRead s Init s
    a_star : {m : Token} → ReadsHere text Punctuator (codes "*") s m → WordsRead s Generator m
    a_word : {m : Token} → ReadsHere text IdentifierName (codes "function") s m → WordsRead s Async m
    word_and_star : {m k : Token} → ReadsHere text IdentifierName (codes "function") s m → ReadsHere text Punctuator (codes "*") m k → WordsRead s AsyncGenerator k

  -- words that the code went past
  pub words_read : (y : Form) {s e : Token} → is_function_form y ≡ true → RunsIn text 0 (anywhere (behind_first (function_words y))) none s e [] → WordsRead s y e
  words_read Init {s} h d = subst (WordsRead s Init) (run_none Token (SeenNext text) (behind_in text) d).place one_word
  words_read Generator {s} h d =
      let t = run_token Token (SeenNext text) (behind_in text) d in
      subst (WordsRead s Generator) (run_none Token (SeenNext text) (behind_in text) t.runs).place (a_star (read_here text t.reads))
  words_read Async {s} h d =
      let t = run_token Token (SeenNext text) (behind_in text) (run_laid Token (SeenNext text) (behind_in text) (run_unbroken Token (SeenNext text) (behind_in text) d).runs) in
      subst (WordsRead s Async) (run_none Token (SeenNext text) (behind_in text) t.runs).place (a_word (read_here text t.reads))
  words_read AsyncGenerator {s} h d =
      let t = run_token Token (SeenNext text) (behind_in text) (run_laid Token (SeenNext text) (behind_in text) (run_unbroken Token (SeenNext text) (behind_in text) d).runs) in
      let u = run_token Token (SeenNext text) (behind_in text) t.runs in
      subst (WordsRead s AsyncGenerator) (run_none Token (SeenNext text) (behind_in text) u.runs).place (word_and_star (read_here text t.reads) (read_here text u.reads))
  words_read _ h d = absurd (false≢true h)

  -- a function behind its first word: its other words, and what stands behind them
  pub record BehindFirst (o : ℕ) (x : Form) (ps : Parts) (s to : Token) (P : List Pair) : Type 0 where
    pub mid : Token
    pub words : WordsRead s x mid
    pub runs : RunsIn text o (anywhere (behind_words ps)) ps mid to P

  pub behind_run : {o : ℕ} (ps : Parts) {s e : Token} {P : List Pair} → RunsIn text o (anywhere ((sp ∷ named (bare_parts ps)) ++ sign "(" ∷ parameters closing_and_body (others (bare_parts ps)))) ps s e P → RunsIn text o (anywhere (behind_words ps)) ps s e P
  behind_run ps d = retell Token (SeenNext text) (behind_in text) (ap anywhere (behind_bare ps)) d

  pub given_words : {o : ℕ} (x : Form) (ps : Parts) {s to : Token} {P : List Pair} → is_function_form x ≡ true → RunsIn text o (begins.behind_first (goes_to Expression true Any (function_pieces x (bare_parts ps)))) ps s to P → BehindFirst o x ps s to P
  given_words Init ps {s} h d = record { mid = s; words = one_word; runs = behind_run ps d }
  given_words Generator ps h d =
      let t = run_token Token (SeenNext text) (behind_in text) d in
      record { mid = t.mid; words = a_star (read_here text t.reads); runs = behind_run ps t.runs }
  given_words Async ps h d =
      let t = run_token Token (SeenNext text) (behind_in text) (run_laid Token (SeenNext text) (behind_in text) (run_unbroken Token (SeenNext text) (behind_in text) d).runs) in
      record { mid = t.mid; words = a_word (read_here text t.reads); runs = behind_run ps t.runs }
  given_words AsyncGenerator ps h d =
      let t = run_token Token (SeenNext text) (behind_in text) (run_laid Token (SeenNext text) (behind_in text) (run_unbroken Token (SeenNext text) (behind_in text) d).runs) in
      let u = run_token Token (SeenNext text) (behind_in text) t.runs in
      record { mid = u.mid; words = word_and_star (read_here text t.reads) (read_here text u.reads); runs = behind_run ps u.runs }
  given_words _ ps h d = absurd (false≢true h)

  abbrev Starless : Token → Type 0
  Starless k = Misses text Punctuator (codes "*") k

  -- they are those that are given: a `*` was passed where it stands
  pub same_words : {x y : Form} {s k l : Token} → WordsRead s x k → WordsRead s y l → is_async y ≡ is_async x → Starless k → (is_starred y ≡ false → is_starred x ≡ true → Starless l) → (y ≡ x) × (l ≡ k)
  same_words one_word one_word h no_star told = (refl, refl)
  same_words one_word (a_star q) h no_star told = absurd (not_missed no_star q)
  same_words one_word (a_word q) h no_star told = absurd (async_plain h)
  same_words one_word (word_and_star q z) h no_star told = absurd (async_plain h)
  same_words (a_star r) one_word h no_star told = absurd (not_missed (told refl refl) r)
  same_words (a_star r) (a_star q) h no_star told = (refl, (marks_same text q r).1)
  same_words (a_star r) (a_word q) h no_star told = absurd (async_plain h)
  same_words (a_star r) (word_and_star q z) h no_star told = absurd (async_plain h)
  same_words (a_word r) one_word h no_star told = absurd (false≢true h)
  same_words (a_word r) (a_star q) h no_star told = absurd (false≢true h)
  same_words (a_word r) (a_word q) h no_star told = (refl, (words_same text q r).1)
  same_words (a_word r) (word_and_star {k = v} q z) h no_star told = absurd (not_missed no_star (subst (λ m. ReadsHere text Punctuator (codes "*") m v) (words_same text q r).1 z))
  same_words (word_and_star r u) one_word h no_star told = absurd (false≢true h)
  same_words (word_and_star r u) (a_star q) h no_star told = absurd (false≢true h)
  same_words (word_and_star {k = v} r u) (a_word q) h no_star told = absurd (not_missed (told refl refl) (subst (λ m. ReadsHere text Punctuator (codes "*") m v) (words_same text r q).1 u))
  same_words (word_and_star r u) (word_and_star {k = v} q z) h no_star told = (refl, (marks_same text (subst (λ m. ReadsHere text Punctuator (codes "*") m v) (words_same text q r).1 z) u).1)

  -- a function that is declared has a name
  named_declaration : {a : Role} {p d r : Bool} {o : ℕ} {w : List ℕ} {g : Flags} {st en : ℕ} (ps : Parts) {s e : Token} {P : List Pair} → Stands a p d r → SpellsIn text o a (node FunctionDeclaration w g st en ps) s e P → begins_with_part ps ≡ true
  unfolding spellings statements items openings
  named_declaration (part n ps) stands d = refl
  named_declaration none as_statement (direct qs h pl d) = elim (way_of h).listed [ ]
  named_declaration none as_item (direct qs h pl d) = elim (way_of h).listed [ ]
  named_declaration none as_opening (direct qs h pl d) = elim (way_of h).listed [ ]
  named_declaration (gap ps) as_statement (direct qs h pl d) = elim (way_of h).listed [ ]
  named_declaration (gap ps) as_item (direct qs h pl d) = elim (way_of h).listed [ ]
  named_declaration (gap ps) as_opening (direct qs h pl d) = elim (way_of h).listed [ ]

  -- and is no statement but an item
  pub item_declaration : {a : Role} {p d r : Bool} {o : ℕ} {w : List ℕ} {g : Flags} {st en : ℕ} {ps : Parts} {s e : Token} {P : List Pair} → Stands a p d r → SpellsIn text o a (node FunctionDeclaration w g st en ps) s e P → d ≡ true
  unfolding spellings statements
  item_declaration as_statement (direct qs h pl d) = elim (way_of h).listed [ ]
  item_declaration as_item d = refl
  item_declaration as_opening d = refl

  -- a function that is given as a statement, behind its first token
  pub record FunctionTold (async : Bool) (o : ℕ) (a : Role) (n : Tree) (s m to : Token) (P : List Pair) : Type 0 where
    pub form : Form
    pub is_form : is_function_form form ≡ true
    pub async_is : is_async form ≡ async
    pub st : ℕ
    pub en : ℕ
    pub parts : Parts
    pub tree : n ≡ node FunctionDeclaration [] (form_flags form) st en parts
    pub placed : Placed Token (SeenNext text) (behind_in text) a n s to
    pub named : begins_with_part parts ≡ true
    pub behind : BehindFirst o form parts m to P

  function_only : (k : Kind) → begins_as k ≡ a_function → k ≡ FunctionDeclaration
  function_only FunctionDeclaration h = refl
  function_only _ h = cc

  module _ {a : Role} {p d r : Bool} {o : ℕ} {n : Tree} {s m e : Token} {P : List Pair} {t : Token} (stands : Stands a p d r) (read : ReadBy Token (SeenNext text) (behind_in text) RegExp s t m) (spelled : SpellsIn text o a n s e P) where
    told : {x : Form} {st en : ℕ} {ps : Parts} → is_function_form x ≡ true → n ≡ node FunctionDeclaration [] (form_flags x) st en ps → Placed Token (SeenNext text) (behind_in text) a n s e →
        RunsIn text o (begins.behind_first (goes_to Expression true Any (function_pieces x (bare_parts ps)))) ps m e P → FunctionTold (is_async x) o a n s m e P
    told {x} {st} {en} {ps} h tree pl run = record {
      form = x;
      is_form = h;
      async_is = refl;
      st = st;
      en = en;
      parts = ps;
      tree = tree;
      placed = pl;
      named = named_declaration ps stands (subst (λ k. SpellsIn text o a k s e P) tree spelled);
      behind = given_words x ps h run;
    }

    -- behind `function`
    pub function_told : statement_start d r t ≡ a_function → FunctionTold false o a n s m e P
    function_told begun = of (viewed Token (SeenNext text) (behind_in text) (seen_determined text) stands read spelled)
      where
        own_told : OwnWay Token (SeenNext text) (behind_in text) (seen_determined text) r o a a_function t.text m n s e P → FunctionTold false o a n s m e P
        own_told u =
            let kind = function_only u.kind u.begins in
            let tree : n ≡ node FunctionDeclaration [] (form_flags Init) u.st u.en u.parts = u.tree ∙ ap (λ k. node k [] (form_flags Init) u.st u.en u.parts) kind in
            let run = subst (λ k. RunsIn text o (goes_to Expression true Any (behind_own r k (bare_parts u.parts))) u.parts m e P) kind u.runs in
            told {x = Init} refl tree u.placed (plain u.parts run)
          where
            plain : (ps : Parts) → RunsIn text o (goes_to Expression true Any (behind_own r FunctionDeclaration (bare_parts ps))) ps m e P → RunsIn text o (begins.behind_first (goes_to Expression true Any (function_pieces Init (bare_parts ps)))) ps m e P
            plain (part n ps) d = d
            plain none d = absurd (run_never Token (SeenNext text) (behind_in text) d)
            plain (gap ps) d = absurd (run_never Token (SeenNext text) (behind_in text) d)

        later_told : {b : StatementStart} → b ≡ a_function → LaterWay Token (SeenNext text) (behind_in text) (seen_determined text) r o a t m n s e P b → FunctionTold false o a n s m e P
        later_told is (later_generator tree pl run) = told {x = Generator} refl tree pl run
        later_told is (later_for z tree pl run) = cc
        later_told is (later_async c w z tree pl run) = cc

        of : Viewed Token (SeenNext text) (behind_in text) (seen_determined text) p r o a t m n s e P (statement_start d r t) → FunctionTold false o a n s m e P
        of (its_own h u) = own_told (subst (λ b. OwnWay Token (SeenNext text) (behind_in text) (seen_determined text) r o a b t.text m n s e P) begun u)
        of (another h u) = (let q : a_function ≡ an_expression = sym begun ∙ h in cc)
        of (later u) = later_told begun u

    -- behind an `async` with `function` on its line
    pub async_told : {k v : Token} → statement_start d r t ≡ an_expression → FinishedIn text n e → ReadsHere text IdentifierName (codes "async") s v → ReadsHere text IdentifierName (codes "function") v k → k.after_break ≡ false → FunctionTold true o a n s m e P
    async_told begun fine word function line = of (viewed Token (SeenNext text) (behind_in text) (seen_determined text) stands read spelled)
      where
        later_told : {b : StatementStart} → b ≡ an_expression → LaterWay Token (SeenNext text) (behind_in text) (seen_determined text) r o a t m n s e P b → FunctionTold true o a n s m e P
        later_told is (later_async {z = z} c w h tree pl run) = by z h tree run
          where
            by : (z : Form) {st en : ℕ} {ps : Parts} → is_async z ≡ true → n ≡ node FunctionDeclaration [] (form_flags z) st en ps → RunsIn text o (begins.behind_first (goes_to Expression true Any (function_pieces z (bare_parts ps)))) ps m e P → FunctionTold true o a n s m e P
            by Async h tree run = told {x = Async} refl tree pl run
            by AsyncGenerator h tree run = told {x = AsyncGenerator} refl tree pl run
            by _ h tree run = absurd (false≢true h)
        later_told is (later_generator tree pl run) = cc
        later_told is (later_for z tree pl run) = cc

        of : Viewed Token (SeenNext text) (behind_in text) (seen_determined text) p r o a t m n s e P (statement_start d r t) → FunctionTold true o a n s m e P
        of (its_own h u) = absurd (false≢true (ap is_own (sym begun) ∙ h))
        of (another h u) = absurd (other_no_function Token (SeenNext text) (behind_in text) (seen_determined text) (alike text) fine u word function line)
        of (later u) = later_told begun u
