-- A `for await` is derived, from the pieces that are read behind its words (ECMA-262, 13th edition, 14.7.5).
use Rattle.std.proofs.Common.{◌≡◌, Some, ℕ, Bool, true, false, cond, List, [], ◌∷◌, ◌++◌, Result, Ok, Err, refl, sym, ap, ◌∙◌, subst}
use Rattle.std.specs.Prelude.{IfOk, codes}
use Prim.Native.String.{String}
use Rattle.source_text.specs.declared.fault.Fault.{Fault}
use Rattle.tokens.specs.declared.token.TokenClass.{TokenClass}
use Rattle.tokens.specs.declared.token.TokenClass.TheVariants.{IdentifierName, Punctuator, Keyword}
use Rattle.tokens.specs.declared.token.Goal.TheVariants.{RegExp}
use Rattle.tokens.specs.declared.token.Token.{Token as Scanned}
use Rattle.tokens.specs.Scanned.{token_of}
use Rattle.token_cursor.specs.CursorState.{CursorState, IsAhead}
use Rattle.token_cursor.specs.Seen.{ReadsHere}
use Rattle.token_cursor.specs.SourceText.{SourceText, SeenNext, behind_in, unseen}
use Rattle.token_cursor.proofs.SeenTokens.{no_keyword}
use Rattle.tokens.specs.Reading.{any_goal}
use Rattle.token_cursor.proofs.TokensAhead.{ahead_read}
use Rattle.tree.specs.declared.kind.Form.TheVariants.{Async}
use Rattle.tree.specs.declared.kind.Kind.TheVariants.{ForOfStatement}
use Rattle.tree.specs.declared.kind.Pair.{Pair}
use Rattle.tree.specs.Tree.{Tree, node, Parts, none, part, gap, join, bare_parts}
use Rattle.productions.specs.Made.{Makes}
use Rattle.language.specs.declared.Edge.TheVariants.{Closed}
use Rattle.language.specs.declared.Rank.TheVariants.{Expression, Primary}
use Rattle.language.specs.declared.Start.TheVariants.{Any}
use Rattle.language.specs.declared.Language.TheVariants.{Base}
use Rattle.language.specs.Languages.{class_in, seen_next}
use Rattle.language.specs.Places.{NextIn, next_in}
use Rattle.language.specs.FirstPart.{lead}
use Rattle.language.specs.Pieces.{Role, Piece, Spelling, at, tok, sp, sign, term, put, put_at, statement, head, bound}
use Rattle.language.specs.Edges.{ends_in_if}
use Rattle.language.specs.Expressions.{assignment}
use Rattle.language.specs.Statements.{is_declaration, for_left, statements, items, openings}
use Rattle.language.specs.StatementStart.{StatementStart, a_for, statement_start, statement_start_by, statement_start_among, statement_words, declaration_words, statement_signs}
use Rattle.language.specs.Vocabulary.{among}
use Rattle.language.specs.Grammar.{spellings}
use Rattle.language.specs.Promises.{ReadBy}
use Rattle.language.specs.Token.{Token, as_read}
use Rattle.language.specs.Derivation.{Among, first, direct, placed, step, laid, token}
use Rattle.language.proofs.climbing.OperatorNodes.{kind_bare}
use Rattle.language.proofs.lower_bound.Domination.{settled}
use Rattle.language.proofs.table.Begins.{Each, among_by, retell}
use Rattle.language.proofs.table.Beginnings.{settled_at, form_flags}
use Rattle.language.proofs.table.OwnTokenWays.{statement_fits, statement_spans}
use Rattle.language.proofs.table.Productions.{way_from, runs_can}
use Rattle.language.proofs.table.StatementWays.{Stands, as_statement, as_item, as_opening, for_of_pieces}
use Rattle.parser_tables.specs.declared.statements.StatementContext.{StatementContext}
use Rattle.parser_tables.specs.declared.statements.StatementKind.TheVariants as headed
use Rattle.parser_tables.specs.declared.symbol_lists.PartialStatement.{PartialStatement}
use Rattle.parser_tables.specs.StatementSymbols.{Piece as Parsed, statement_parts}
use Rattle.recursive_descent.specs.Soundness.{RunsIn, anywhere, Adds}
use Rattle.recursive_descent.specs.SoundnessOfStatements.{context_role, StatementAt, PiecesAt, BuiltAt}
use Rattle.recursive_descent.specs.Later.{ForAwaitAt}
use Rattle.recursive_descent.specs.Spelled.{OfLanguage, AllOfLanguage}
use Rattle.recursive_descent.proofs.reading.LanguageTrees.{of_node, of_none}
use Rattle.recursive_descent.proofs.reading.AddedPairs.{adds_both, adds_behind}
use Rattle.recursive_descent.proofs.sound_statements.ForWays.{for_stated}
use Rattle.recursive_descent.proofs.sound_statements.StatementWays.{StatedBy}
use Rattle.recursive_descent.proofs.sound_statements.WholeStatements.{context_stands}

-- places aside, what stands first is of the same kind
lead_bare : (ps : Parts) → lead (bare_parts ps) ≡ lead ps
lead_bare none = refl
lead_bare (gap ps) = refl
lead_bare (part n ps) = kind_bare n

pub for_left_bare : (ps : Parts) → for_left (bare_parts ps) ≡ for_left ps
for_left_bare ps = ap (λ k. put_at (cond (is_declaration k) (Some (head false)) (bound false k))) (lead_bare ps)

-- behind `await` stands what stands behind `for` without it
abbrev pub behind_await : Bool → Piece → List Piece
behind_await r left = sp ∷ sign "(" ∷ left ∷ sp ∷ term "of" ∷ sp ∷ assignment ∷ sign ")" ∷ sp ∷ put (statement r) ∷ []

-- the word of a `for`
abbrev EachFor : (List ℕ → Type 0) → List (List String × StatementStart) → Type 0
EachFor R [] = Unit {0}
EachFor R (row ∷ rows) = (row.1 ≡ a_for → Each R row.0) × EachFor R rows

by_rows : (R : List ℕ → Type 0) (w : List ℕ) (rows : List (List String × StatementStart)) → statement_start_among w rows ≡ a_for → EachFor R rows → R w
by_rows R w [] h all = cc
by_rows R w (row ∷ rows) h all = of (among w row.0) refl h (λ k. by_rows R w rows k all.1)
  where
    of : (b : Bool) → among w row.0 ≡ b → cond b row.1 (statement_start_among w rows) ≡ a_for → (statement_start_among w rows ≡ a_for → R w) → R w
    of true e k rest = among_by R w row.0 e (all.0 k)
    of false e k rest = rest k

abbrev IsFor : List ℕ → Type 0
IsFor w = w ≡ codes "for"

words_for : (r : Bool) → EachFor IsFor (statement_words r)
words_for true = ((λ k. cc), ((λ k. cc), ((λ k. cc), ((λ k. cc), ((λ k. (refl, tt)), ((λ k. cc), ((λ k. cc), ((λ k. cc), ((λ k. cc), ((λ k. cc), ((λ k. cc), ((λ k. cc), tt))))))))))))
words_for false = ((λ k. cc), ((λ k. cc), ((λ k. cc), ((λ k. cc), ((λ k. (refl, tt)), ((λ k. cc), ((λ k. cc), ((λ k. cc), ((λ k. cc), ((λ k. cc), ((λ k. cc), ((λ k. cc), tt))))))))))))

for_told : (d r : Bool) (c : TokenClass) (w : List ℕ) → statement_start_by d r c w ≡ a_for → (c ≡ IdentifierName) × (w ≡ codes "for")
for_told true r IdentifierName w h = (refl, by_rows IsFor w (declaration_words ++ statement_words r) h ((λ k. cc), ((λ k. cc), ((λ k. cc), words_for r))))
for_told false r IdentifierName w h = (refl, by_rows IsFor w (statement_words r) h (words_for r))
for_told d r Punctuator w h = (let q = by_rows (λ w. ⊥) w statement_signs h ((λ k. cc), ((λ k. cc), tt)) in absurd q)
for_told d r _ w h = cc

for_listed : {a : Role} {p d r : Bool} (w : List ℕ) (ps : Parts) → Stands a p d r → Among (at Primary (for_of_pieces r Async ps)) (spellings a (node ForOfStatement w (form_flags Async) 0 0 ps))
unfolding spellings statements items openings
for_listed w ps as_statement = first
for_listed w ps as_item = first
for_listed w ps as_opening = first

module _ (text : SourceText) {o : ℕ} {s m e : Token} {P : List Pair} where
  -- from its first token on it is derived
  pub await_stated : {a : Role} {p d r : Bool} {t : Token} {n : Tree} → Stands a p d r → ReadBy Token (SeenNext text) (behind_in text) RegExp s t m → statement_start d r t ≡ a_for → ForAwaitAt text r t.start n o m e P → StatementAt text a n o s e P
  await_stated {a} {p} {d} {r} {t} stands read begun u =
      let word = for_told d r t.class t.text begun in
      let ps = u.parts in
      let made : Tree = node ForOfStatement [] (form_flags Async) t.start e.stop ps in
      let way : Spelling = at Primary (for_of_pieces r Async (bare_parts ps)) in
      let behind = retell Token (SeenNext text) (behind_in text) (ap (λ x. anywhere (tok Keyword (codes "await") ∷ behind_await r x)) (sym (for_left_bare ps))) u.runs in
      let whole : RunsIn text o (anywhere way.pieces) ps s e P = step (token (record { next = read.next; class = word.0; text = word.1 })) (step laid behind) in
      subst (λ k. StatementAt text a k o s e P) (sym u.tree) (record {
        spelled = direct (settled a way) (way_from a made way refl (for_listed [] (bare_parts ps) stands) (statement_fits stands way ∙ runs_can Token (SeenNext text) (behind_in text) Expression true Any way.pieces whole))
            (placed read.next (statement_spans stands t (behind_in text e))) (retell Token (SeenNext text) (behind_in text) (sym (settled_at stands way)) whole);
        dangles = λ h. u.dangles (ap ends_in_if u.tree ∙ h);
      })

  -- a `for` with `of` behind its `await`
  await_at : (r : Bool) (start : ℕ) (ps : Parts) → ReadsHere text Keyword (codes "await") s m → StatedBy text r ForOfStatement ps o m e P → ForAwaitAt text r start (node ForOfStatement [] (form_flags Async) start e.stop ps) o s e P
  await_at r start ps word u = record {
    parts = ps;
    tree = refl;
    runs = step (token word) (retell Token (SeenNext text) (behind_in text) (ap (λ x. anywhere (behind_await r x)) (for_left_bare ps)) u.runs);
    dangles = u.dangles;
  }

-- the statement that begins with `for`, from what was read behind it
pub await_whole : (s m e : CursorState) (old mid new : List Pair) (c : StatementContext) (t : Scanned) (result : Result Tree Fault) → IsAhead RegExp s.text s.last.stop (token_of t) → statement_start c.is_item c.returns (as_read (token_of t)) ≡ a_for → m.text ≡ s.text → m.last ≡ unseen (as_read (token_of t)) → m.opened ≡ s.opened → mid ≡ old →
    IfOk result (λ n. Adds m e mid new (ForAwaitAt m.text c.returns t.start n)) → IfOk result (λ n. Adds s e old new (StatementAt s.text (context_role c) n))
await_whole s m e old mid new c t (Ok n) ahead begun text last same_open same a =
    adds_behind same_open same a (λ o P u.
    await_stated s.text (context_stands c) (ahead_read s.text RegExp s.last (token_of t) ahead) begun (subst (λ z. ForAwaitAt s.text c.returns t.start n o z e.last P) last (subst (λ z. ForAwaitAt z c.returns t.start n o m.last e.last P) text u)))
await_whole s m e old mid new c t (Err fault) ahead begun text last same_open same a = tt

-- behind its `for`, from its two runs of pieces
pub await_read : (s m k e : CursorState) (old q0 mid new : List Pair) (r : Bool) (start high : ℕ) (heads rests : List Parsed) (b c d : PartialStatement) (result : Result Tree Fault) → ReadsHere s.text Keyword (codes "await") s.last m.last → m.text ≡ s.text → m.opened ≡ s.opened → q0 ≡ old → b.nodes ≡ none → b.edge ≡ Closed → heads ≡ statement_parts headed.For r → rests ≡ statement_parts headed.ForOf r →
    Adds m k q0 mid (BuiltAt m.text r heads b c) → k.text ≡ m.text → Adds k e mid new (BuiltAt k.text r rests c d) → Makes (node ForOfStatement [] (form_flags Async) start e.last.stop d.nodes) high result → IfOk result (λ n. Adds s e old new (ForAwaitAt s.text r start n))
await_read s m k e old q0 mid new r start high heads rests b c d (Ok n) word text same_open same empty edge heads_are rests_are a text_k z makes =
    let both : Adds m e q0 new (λ o x y P. (z : Parts) × (d.nodes ≡ z) × StatedBy s.text r ForOfStatement z o x y P) = adds_both a z (λ o P Q u v.
    let first : PiecesAt s.text r o (statement_parts headed.For r) m.last k.last Closed c.edge u.added P =
    subst (λ y. PiecesAt s.text r o (statement_parts headed.For r) m.last k.last y c.edge u.added P) edge (subst (λ qs. PiecesAt s.text r o qs m.last k.last b.edge c.edge u.added P) heads_are (subst (λ x. PiecesAt x r o heads m.last k.last b.edge c.edge u.added P) text u.read)) in
    let rest : PiecesAt s.text r o (statement_parts headed.ForOf r) k.last e.last c.edge d.edge v.added Q = subst (λ qs. PiecesAt s.text r o qs k.last e.last c.edge d.edge v.added Q) rests_are (subst (λ x. PiecesAt x r o rests k.last e.last c.edge d.edge v.added Q) (text_k ∙ text) v.read) in
    (join u.added v.added, v.nodes ∙ ap (λ x. join x v.added) (u.nodes ∙ ap (λ x. join x u.added) empty), for_stated s.text r headed.ForOf c.edge d.edge v.added Q first (rest.mid, rest.first.0) rest)) in
    adds_behind same_open same both (λ o P u.
    subst (λ x. ForAwaitAt s.text r start x o s.last e.last P) ((λ i. node ForOfStatement [] (form_flags Async) start e.last.stop (sym u.1 i)) ∙ sym makes.0) (await_at s.text r start u.0 word u.2))
await_read s m k e old q0 mid new r start high heads rests b c d (Err fault) word text same_open same empty edge heads_are rests_are a text_k z makes = tt

-- a keyword is seen in no text of the base profile
base_class : (c : TokenClass) (w : List ℕ) → class_in Base c w ≡ Keyword → c ≡ Keyword
base_class IdentifierName w h = cc
base_class c w h = h

no_base_keyword : {text : SourceText} {s t e : Token} → SeenNext text s t e → t.class ≡ Keyword → text.language ≡ Base → ⊥
no_base_keyword {text} (seen_next {t = v} x) h base = never x (base_class v.class v.text (ap (λ l. class_in l v.class v.text) (sym base) ∙ h))
  where
    never : {s v e : Token} → NextIn text.bytes any_goal s v e → v.class ≡ Keyword → ⊥
    never (next_in {s = s} {t = u} g any y) k = no_keyword text.bytes g s.stop u y k

-- so the node is of the language, if its parts are
pub await_own : {text : SourceText} {s m : Token} (start high en : ℕ) (ps : Parts) (result : Result Tree Fault) → ReadsHere text Keyword (codes "await") s m → AllOfLanguage text ps → Makes (node ForOfStatement [] (form_flags Async) start en ps) high result → IfOk result (λ n. OfLanguage text n)
await_own {text} start high en ps (Ok n) word own makes = subst (OfLanguage text) (sym makes.0) (of_node {k = ForOfStatement} {w = []} {g = form_flags Async} {st = start} {en = en} {ps = ps} (λ base. absurd (no_base_keyword word.next word.class base)) own)
await_own start high en ps (Err fault) word own makes = tt

-- so are parts that were read in two runs
pub own_twice : {text one two : SourceText} {ps qs rs : Parts} → one ≡ text → two ≡ one → ps ≡ none → (AllOfLanguage one ps → AllOfLanguage one qs) → (AllOfLanguage two qs → AllOfLanguage two rs) → AllOfLanguage text rs
own_twice {text} {one} {two} {ps} {qs} {rs} text_one text_two empty f g =
    let before : AllOfLanguage one qs = f (subst (AllOfLanguage one) (sym empty) of_none) in
    subst (λ t. AllOfLanguage t rs) (text_two ∙ text_one) (g (subst (λ t. AllOfLanguage t qs) (sym text_two) before))
