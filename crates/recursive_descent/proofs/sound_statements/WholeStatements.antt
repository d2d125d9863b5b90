-- Statements, from their first token and their pieces to what is derived (ECMA-262 13, 14.1, 14.6).
use Rattle.std.proofs.Common.{◌≡◌, ℕ, Bool, true, false, cond, List, [], ◌∷◌, ◌++◌, Some, None, Result, Ok, Err, refl, sym, ap, ◌∙◌, subst}
use denote.Enum.Bare.{sameb, same_true}
use Rattle.parser_tables.specs.contracts.statements.StatementKind.{the_type}
use Rattle.std.proofs.lemmas.Bool.{false≢true}
use Rattle.std.specs.Prelude.{IfOk, ◌&&◌}
use Rattle.source_text.specs.declared.fault.Fault.{Fault}
use Rattle.tokens.specs.declared.token.TokenClass.{TokenClass}
use Rattle.tokens.specs.declared.token.TokenClass.TheVariants.{IdentifierName, Punctuator}
use Rattle.tokens.specs.declared.token.Goal.{Goal}
use Rattle.tokens.specs.declared.token.Token.{Token as Scanned}
use Rattle.tokens.specs.Scanned.{token_of}
use Rattle.token_cursor.specs.CursorState.{CursorState, IsAhead}
use Rattle.tree.specs.declared.kind.Kind.{Kind}
use Rattle.tree.specs.declared.kind.Kind.TheVariants.{Identifier, ForStatement, ForInStatement, ForOfStatement}
use Rattle.tree.specs.declared.kind.Pair.{Pair}
use Rattle.tree.specs.Tree.{Tree, node, Parts, none, part, join, plain, kind_of, text_of}
use Rattle.productions.specs.Made.{Makes}
use Rattle.language.specs.declared.Edge.{Edge}
use Rattle.language.specs.declared.Edge.TheVariants.{Closed}
use Rattle.language.specs.declared.Rank.TheVariants.{Expression}
use Rattle.language.specs.declared.Start.TheVariants.{Statement}
use Rattle.language.specs.Statements.{is_string_literal}
use Rattle.language.specs.Vocabulary.{among, is_identifier}
use Rattle.language.specs.Pieces.{Role, name, directive_string, statement, item, opening}
use Rattle.language.specs.StatementStart.{StatementStart, a_block, an_empty, a_variable, an_if, a_do, a_while, a_for, a_continue, a_break, a_return, a_throw, a_switch, a_try, a_debugger, a_function, a_class, an_expression, is_own, statement_start, statement_start_by}
use Rattle.language.specs.Token.{Token, as_read, table_text}
use Rattle.language.specs.Promises.{ReadBy}
use Rattle.language.specs.Derivation.{placed}
use Rattle.language.proofs.table.Beginnings.{text_as}
use Rattle.language.proofs.table.OwnTokenWays.{own_spells, statement_spans}
use Rattle.language.proofs.table.StatementWays.{begins_as, Stands, as_statement, as_item, as_opening}
use Rattle.token_cursor.proofs.SeenTokens.{seen_determined}
use Rattle.parser_tables.specs.declared.symbol_lists.PartialStatement.{PartialStatement}
use Rattle.parser_tables.specs.declared.statements.StatementStart.{StatementStart as Coded}
use Rattle.parser_tables.specs.declared.statements.StatementStart.TheVariants as code
use Rattle.parser_tables.specs.declared.statements.StatementContext.{StatementContext}
use Rattle.parser_tables.specs.declared.statements.StatementKind.{StatementKind}
use Rattle.parser_tables.specs.declared.statements.StatementKind.TheVariants as headed
use Rattle.parser_tables.specs.StatementStarts.{coded_statement_start, KindFollowed}
use Rattle.parser_tables.specs.declared.operand.Operand.{Operand}
use Rattle.recursive_descent.specs.Soundness.{Adds, ReadAt}
use Rattle.parser_tables.specs.Operands.{is_group}
use Rattle.recursive_descent.specs.SoundnessOfStatements.{context_role, StatementAt, PiecesAt, BuiltAt}
use Rattle.parser_tables.specs.StatementSymbols.{Piece as Parsed, statement_parts}
use Rattle.parser_tables.specs.StatementNodes.{statement_node_kind}
use Rattle.recursive_descent.proofs.reading.AddedPairs.{adds_both, adds_none}
use Rattle.recursive_descent.proofs.reading.FirstOfPieces.{adds_before}
use Rattle.token_cursor.proofs.TokensAhead.{ahead_read}
use Rattle.recursive_descent.proofs.sound_statements.ForWays.{for_stated}
use Rattle.recursive_descent.proofs.sound_statements.StatementWays as Direct
use Rattle.recursive_descent.proofs.sound_statements.StatementWays.{StatedBy}
use Rattle.recursive_descent.proofs.sound_statements.KeywordStatements as Worded
use Rattle.recursive_descent.proofs.sound_statements.KeywordStatements.{a_label}
use Rattle.token_cursor.specs.SourceText.{SourceText, SeenNext, behind_in, unseen}
use Rattle.recursive_descent.specs.Spelled.{SpellsIn}

-- the position of a context
pub context_stands : (c : StatementContext) → Stands (context_role c) (c.is_item && c.is_prologue) c.is_item c.returns
context_stands c = of c.is_item c.is_prologue c.returns
  where
    of : (i p r : Bool) → Stands (cond i (cond p (opening r) (item r)) (statement r)) (i && p) i r
    of true true r = as_opening
    of true false r = as_item
    of false p r = as_statement

abbrev pub headed_of : Coded → StatementKind
headed_of (code.OfKind h) = h
headed_of _ = headed.Label

-- what a statement begins with
abbrev headed_beginning : StatementKind → StatementStart
headed_beginning headed.Block = a_block
headed_beginning headed.Empty = an_empty
headed_beginning headed.Variable = a_variable
headed_beginning headed.If = an_if
headed_beginning headed.Do = a_do
headed_beginning headed.While = a_while
headed_beginning headed.For = a_for
headed_beginning headed.ForLoop = a_for
headed_beginning headed.ForIn = a_for
headed_beginning headed.ForOf = a_for
headed_beginning headed.Continue = a_continue
headed_beginning headed.Break = a_break
headed_beginning headed.Return = a_return
headed_beginning headed.Throw = a_throw
headed_beginning headed.Switch = a_switch
headed_beginning headed.Try = a_try
headed_beginning headed.Debugger = a_debugger
headed_beginning headed.Label = an_expression

pub headed_begins : (b : StatementStart) (h : StatementKind) → code.OfKind h ≡ coded_statement_start b → b ≡ headed_beginning h
headed_begins a_block h e = ap headed_beginning (sym (ap headed_of e))
headed_begins an_empty h e = ap headed_beginning (sym (ap headed_of e))
headed_begins a_variable h e = ap headed_beginning (sym (ap headed_of e))
headed_begins an_if h e = ap headed_beginning (sym (ap headed_of e))
headed_begins a_do h e = ap headed_beginning (sym (ap headed_of e))
headed_begins a_while h e = ap headed_beginning (sym (ap headed_of e))
headed_begins a_for h e = ap headed_beginning (sym (ap headed_of e))
headed_begins a_continue h e = ap headed_beginning (sym (ap headed_of e))
headed_begins a_break h e = ap headed_beginning (sym (ap headed_of e))
headed_begins a_return h e = ap headed_beginning (sym (ap headed_of e))
headed_begins a_throw h e = ap headed_beginning (sym (ap headed_of e))
headed_begins a_switch h e = ap headed_beginning (sym (ap headed_of e))
headed_begins a_try h e = ap headed_beginning (sym (ap headed_of e))
headed_begins a_debugger h e = ap headed_beginning (sym (ap headed_of e))
headed_begins a_function h e = cc
headed_begins a_class h e = cc
headed_begins an_expression h e = cc

-- the class of a word that declares
variable_class : (d r : Bool) (c : TokenClass) (w : List ℕ) → statement_start_by d r c w ≡ a_variable → c ≡ IdentifierName
variable_class d r IdentifierName w h = refl
variable_class d r Punctuator w h = of (among w ("{" ∷ [])) (among w (";" ∷ [])) h
  where
    of : (a b : Bool) → cond a a_block (cond b an_empty an_expression) ≡ a_variable → Punctuator ≡ IdentifierName
    of true b h = cc
    of false true h = cc
    of false false h = cc
variable_class d r _ w h = cc

-- the text of the node, by that of its first token
abbrev pub headed_text : StatementKind → List ℕ → List ℕ
headed_text headed.Variable w = w
headed_text _ w = []

module _ (text : SourceText) (r : Bool) (o : ℕ) where
  -- a statement whose first token is its own
  record OwnBy (h : StatementKind) (b : StatementStart) (ps : Parts) (m e : Token) (P : List Pair) : Type 0 where
    stated : StatedBy text r (statement_node_kind h) ps o m e P
    begins : b ≡ begins_as (statement_node_kind h)
    own : is_own (begins_as (statement_node_kind h)) ≡ true
    named : (w : List ℕ) → headed_text h w ≡ text_as (begins_as (statement_node_kind h)) w

  turned : {h k : StatementKind} {b : StatementStart} (z : Edge) {ps : Parts} {m e : Token} {P : List Pair} → h ≡ k → (PiecesAt text r o (statement_parts k r) m e Closed z ps P → OwnBy k b ps m e P) → PiecesAt text r o (statement_parts h r) m e Closed z ps P → OwnBy h b ps m e P
  turned {b = b} z {ps = ps} {m = m} {e = e} {P = P} q f u = subst (λ j. OwnBy j b ps m e P) (sym q) (f (subst (λ j. PiecesAt text r o (statement_parts j r) m e Closed z ps P) q u))

  own_by : (b : StatementStart) (h : StatementKind) (z : Edge) {ps : Parts} {m e : Token} {P : List Pair} → code.OfKind h ≡ coded_statement_start b → (h ≡ headed.For → ⊥) → PiecesAt text r o (statement_parts h r) m e Closed z ps P → OwnBy h b ps m e P
  own_by a_block h z q loop u = turned z (ap headed_of q) (λ v. record { stated = Direct.a_block text r Closed v; begins = refl; own = refl; named = λ w. refl }) u
  own_by an_empty h z q loop u = turned z (ap headed_of q) (λ v. record { stated = Direct.an_empty text r Closed v; begins = refl; own = refl; named = λ w. refl }) u
  own_by a_variable h z q loop u = turned z (ap headed_of q) (λ v. record { stated = Direct.a_variable text r Closed v; begins = refl; own = refl; named = λ w. refl }) u
  own_by an_if h z q loop u = turned z (ap headed_of q) (λ v. record { stated = Direct.an_if text r Closed v; begins = refl; own = refl; named = λ w. refl }) u
  own_by a_do h z q loop u = turned z (ap headed_of q) (λ v. record { stated = Direct.a_do text r Closed v; begins = refl; own = refl; named = λ w. refl }) u
  own_by a_while h z q loop u = turned z (ap headed_of q) (λ v. record { stated = Direct.a_while text r Closed v; begins = refl; own = refl; named = λ w. refl }) u
  own_by a_for h z q loop u = absurd (loop (ap headed_of q))
  own_by a_continue h z q loop u = turned z (ap headed_of q) (λ v. record { stated = Worded.a_continue text r v; begins = refl; own = refl; named = λ w. refl }) u
  own_by a_break h z q loop u = turned z (ap headed_of q) (λ v. record { stated = Worded.a_break text r v; begins = refl; own = refl; named = λ w. refl }) u
  own_by a_return h z q loop u = turned z (ap headed_of q) (λ v. record { stated = Worded.a_return text r v; begins = refl; own = refl; named = λ w. refl }) u
  own_by a_throw h z q loop u = turned z (ap headed_of q) (λ v. record { stated = Worded.a_throw text r Closed v; begins = refl; own = refl; named = λ w. refl }) u
  own_by a_switch h z q loop u = turned z (ap headed_of q) (λ v. record { stated = Worded.a_switch text r Closed v; begins = refl; own = refl; named = λ w. refl }) u
  own_by a_try h z q loop u = turned z (ap headed_of q) (λ v. record { stated = Direct.a_try text r Closed v; begins = refl; own = refl; named = λ w. refl }) u
  own_by a_debugger h z q loop u = turned z (ap headed_of q) (λ v. record { stated = Direct.a_debugger text r v; begins = refl; own = refl; named = λ w. refl }) u
  own_by a_function h z q loop u = cc
  own_by a_class h z q loop u = cc
  own_by an_expression h z q loop u = cc

module _ (text : SourceText) where
  -- from its first token on it is derived
  own_at : {a : Role} {p d r : Bool} {o : ℕ} {s m e t : Token} {ps : Parts} {P : List Pair} (k : Kind) → Stands a p d r → ReadBy Token (SeenNext text) (behind_in text) Goal.RegExp s t m → statement_start d r t ≡ begins_as k → is_own (begins_as k) ≡ true → StatedBy text r k ps o m e P →
      StatementAt text a (node k (text_as (begins_as k) t.text) plain t.start e.stop ps) o s e P
  own_at {e = e} {t = t} k stands read begun own u = record {
    spelled = own_spells Token (SeenNext text) (behind_in text) (seen_determined text) k stands read begun own (placed read.next (statement_spans stands t (behind_in text e))) u.runs;
    dangles = u.dangles;
  }

-- what was read of a statement before its pieces: its first token, or a label
pub data FirstAt (text : SourceText) (c : StatementContext) (t : Token) (h : StatementKind) : Parts → ℕ → Token → Token → List Pair → Type 0 where
  own_first : {o : ℕ} {s : Token} → code.OfKind h ≡ coded_statement_start (statement_start c.is_item c.returns t) → FirstAt text c t h none o s (unseen t) []
  label_first : {o : ℕ} {l : Tree} {s m : Token} {P : List Pair} → h ≡ headed.Label → SpellsIn text o name l s m P → FirstAt text c t h (part l none) o s m P

-- with the pieces behind it
pub record OnceAt (text : SourceText) (c : StatementContext) (t : Token) (h : StatementKind) (nodes : Parts) (y : Edge) (o : ℕ) (s e : Token) (P : List Pair) : Type 0 where
  pub mid : Token
  pub first : Parts
  pub added : Parts
  pub one : List Pair
  pub more : List Pair
  pub begun : FirstAt text c t h first o s mid one
  pub read : PiecesAt text c.returns o (statement_parts h c.returns) mid e Closed y added more
  pub parts : nodes ≡ join first added
  pub pairs : P ≡ one ++ more

pub own_begun : {s m : CursorState} {old mid : List Pair} (c : StatementContext) (t : Scanned) (h : StatementKind) (nodes : Parts) → code.OfKind h ≡ coded_statement_start (statement_start c.is_item c.returns (as_read (token_of t))) → m.last ≡ unseen (as_read (token_of t)) → m.opened ≡ s.opened → mid ≡ old → nodes ≡ none → Adds s m old mid (FirstAt s.text c (as_read (token_of t)) h nodes)
own_begun {s} {m} c t h nodes coded last same_open same empty =
    adds_none same_open same (λ o. subst (λ ps. FirstAt s.text c (as_read (token_of t)) h ps o s.last m.last []) (sym empty) (subst (λ x. FirstAt s.text c (as_read (token_of t)) h none o s.last x []) (sym last) (own_first coded)))

pub pieces_read : {s m e : CursorState} {old mid new : List Pair} {text : SourceText} {pieces : List Parsed} (c : StatementContext) (t : Token) (h : StatementKind) (nodes : Parts) (b d : PartialStatement) → Adds s m old mid (FirstAt s.text c t h nodes) → b.nodes ≡ nodes → b.edge ≡ Closed → text ≡ s.text → pieces ≡ statement_parts h c.returns →
    Adds m e mid new (BuiltAt text c.returns pieces b d) → Adds s e old new (OnceAt s.text c t h d.nodes d.edge)
pieces_read {s} {m} {e} {text = text} {pieces} c t h nodes b d a begun edge same its built = adds_both a built (λ o P Q u v. record {
  mid = m.last;
  first = nodes;
  added = v.added;
  one = P;
  more = Q;
  begun = u;
  read = subst (λ x. PiecesAt s.text c.returns o (statement_parts h c.returns) m.last e.last x d.edge v.added Q) edge (subst (λ qs. PiecesAt s.text c.returns o qs m.last e.last b.edge d.edge v.added Q) its (subst (λ x. PiecesAt x c.returns o pieces m.last e.last b.edge d.edge v.added Q) same v.read));
  parts = v.nodes ∙ ap (λ ps. join ps v.added) begun;
  pairs = refl;
})

-- the text of a node whose first token is its own
pub text_told : (d r : Bool) (t : Scanned) (h : StatementKind) → headed_beginning h ≡ statement_start d r (as_read (token_of t)) → headed_text h t.text.now ≡ headed_text h (as_read (token_of t)).text
text_told d r t headed.Variable q =
    let class : t.class ≡ IdentifierName = variable_class d r (as_read (token_of t)).class (as_read (token_of t)).text (sym q) in
    ap (λ c. table_text c t.text.now) (sym class)
text_told d r t _ q = refl

module _ (text : SourceText) (c : StatementContext) (t : Scanned) where
  abbrev Start : Token
  Start = as_read (token_of t)

  module _ {s : Token} (read : ReadBy Token (SeenNext text) (behind_in text) Goal.RegExp s Start (unseen Start)) where
    -- one whose first token is its own, but for `for`
    own_whole : (h : StatementKind) {o : ℕ} (y : Edge) {e : Token} {ps : Parts} {P : List Pair} → code.OfKind h ≡ coded_statement_start (statement_start c.is_item c.returns Start) → (h ≡ headed.For → ⊥) → PiecesAt text c.returns o (statement_parts h c.returns) (unseen Start) e Closed y ps P →
        StatementAt text (context_role c) (node (statement_node_kind h) (headed_text h t.text.now) plain t.start e.stop ps) o s e P
    own_whole h {o} y {e} {ps} {P} coded loop u =
        let b = statement_start c.is_item c.returns Start in
        let v = own_by text c.returns o b h y coded loop u in
        subst (λ w. StatementAt text (context_role c) (node (statement_node_kind h) w plain t.start e.stop ps) o s e P) (sym (text_told c.is_item c.returns t h (sym (headed_begins b h coded)) ∙ v.named Start.text))
        (own_at text (statement_node_kind h) (context_stands c) read v.begins v.own v.stated)

    whole_by : (h : StatementKind) {o : ℕ} (y : Edge) {e m : Token} {first : Parts} (added : Parts) {P : List Pair} (Q : List Pair) → FirstAt text c Start h first o s m P → (h ≡ headed.For → ⊥) → PiecesAt text c.returns o (statement_parts h c.returns) m e Closed y added Q →
        StatementAt text (context_role c) (node (statement_node_kind h) (headed_text h t.text.now) plain t.start e.stop (join first added)) o s e (P ++ Q)
    whole_by h y added Q (own_first coded) loop u = own_whole h y coded loop u
    whole_by h {o} y {e} {m} added {P} Q (label_first {l = l} is d) loop u =
        subst (λ j. StatementAt text (context_role c) (node (statement_node_kind j) (headed_text j t.text.now) plain t.start e.stop (part l added)) o s e (P ++ Q)) (sym is)
        (a_label text (context_stands c) read.next refl d (subst (λ j. PiecesAt text c.returns o (statement_parts j c.returns) m e Closed y added Q) is u))

    -- but for `for`
    pub once_whole : (h : StatementKind) {o : ℕ} {y : Edge} {e : Token} {nodes : Parts} {P : List Pair} → OnceAt text c Start h nodes y o s e P → (h ≡ headed.For → ⊥) → StatementAt text (context_role c) (node (statement_node_kind h) (headed_text h t.text.now) plain t.start e.stop nodes) o s e P
    once_whole h {o} {y} {e} {nodes} {P} u loop =
        subst (λ R. StatementAt text (context_role c) (node (statement_node_kind h) (headed_text h t.text.now) plain t.start e.stop nodes) o s e R) (sym u.pairs)
        (subst (λ ps. StatementAt text (context_role c) (node (statement_node_kind h) (headed_text h t.text.now) plain t.start e.stop ps) o s e (u.one ++ u.more)) (sym u.parts) (whole_by h y u.added u.more u.begun loop u.read))

    -- a `for`, by what follows its first part
    for_by : (what : StatementKind) {o : ℕ} (y z : Edge) {m k e : Token} {first : Parts} (added more : Parts) {P : List Pair} (Q R : List Pair) → FirstAt text c Start headed.For first o s m P → PiecesAt text c.returns o (statement_parts headed.For c.returns) m k Closed y added Q → KindFollowed text k what →
        PiecesAt text c.returns o (statement_parts what c.returns) k e y z more R → StatementAt text (context_role c) (node (statement_node_kind what) (headed_text what t.text.now) plain t.start e.stop (join (join first added) more)) o s e ((P ++ Q) ++ R)
    for_by headed.ForLoop y z added more Q R (own_first coded) u followed v = own_at text ForStatement (context_stands c) read (headed_begins (statement_start c.is_item c.returns Start) headed.For coded) refl (for_stated text c.returns headed.ForLoop y z more R u followed v)
    for_by headed.ForIn y z added more Q R (own_first coded) u followed v = own_at text ForInStatement (context_stands c) read (headed_begins (statement_start c.is_item c.returns Start) headed.For coded) refl (for_stated text c.returns headed.ForIn y z more R u followed v)
    for_by headed.ForOf y z added more Q R (own_first coded) u followed v = own_at text ForOfStatement (context_stands c) read (headed_begins (statement_start c.is_item c.returns Start) headed.For coded) refl (for_stated text c.returns headed.ForOf y z more R u followed v)
    for_by _ y z added more Q R (own_first coded) u followed v = absurd followed
    for_by what y z added more Q R (label_first is d) u followed v = cc

-- of a `for`, with the pieces behind its first part
pub for_read : {s m e : CursorState} {old mid new : List Pair} {text : SourceText} {pieces : List Parsed} (c : StatementContext) (t : Scanned) (what : StatementKind) (b d : PartialStatement) → IsAhead Goal.RegExp s.text s.last.stop (token_of t) → Adds s m old mid (OnceAt s.text c (as_read (token_of t)) headed.For b.nodes b.edge) → KindFollowed text m.last what → text ≡ s.text →
    pieces ≡ statement_parts what c.returns → Adds m e mid new (BuiltAt text c.returns pieces b d) →
    Adds s e old new (λ o x y P. StatementAt s.text (context_role c) (node (statement_node_kind what) (headed_text what t.text.now) plain t.start y.stop d.nodes) o x y P)
for_read {s} {m} {e} {text = text} {pieces} c t what b d ahead a followed same its built = adds_both a built (λ o P Q u v.
    let read : PiecesAt s.text c.returns o (statement_parts what c.returns) m.last e.last b.edge d.edge v.added Q = subst (λ qs. PiecesAt s.text c.returns o qs m.last e.last b.edge d.edge v.added Q) its (subst (λ x. PiecesAt x c.returns o pieces m.last e.last b.edge d.edge v.added Q) same v.read) in
    let ahead_here = ahead_read s.text Goal.RegExp s.last (token_of t) ahead in
    let here = subst (λ x. KindFollowed x m.last what) same followed in
    let parts : d.nodes ≡ join (join u.first u.added) v.added = v.nodes ∙ ap (λ ps. join ps v.added) u.parts in
    let w = for_by s.text c t ahead_here what b.edge d.edge u.added v.added u.more Q u.begun u.read here read in
    subst (λ R. StatementAt s.text (context_role c) (node (statement_node_kind what) (headed_text what t.text.now) plain t.start e.last.stop d.nodes) o s.last e.last R) (ap (λ R. R ++ Q) (sym u.pairs))
    (subst (λ ps. StatementAt s.text (context_role c) (node (statement_node_kind what) (headed_text what t.text.now) plain t.start e.last.stop ps) o s.last e.last ((u.one ++ u.more) ++ Q)) (sym parts) w))

-- of any other
pub once_read : {s e : CursorState} {old new : List Pair} (c : StatementContext) (t : Scanned) (h : StatementKind) (nodes : Parts) (y : Edge) → IsAhead Goal.RegExp s.text s.last.stop (token_of t) → (h ≡ headed.For → ⊥) → Adds s e old new (OnceAt s.text c (as_read (token_of t)) h nodes y) →
    Adds s e old new (λ o x z P. StatementAt s.text (context_role c) (node (statement_node_kind h) (headed_text h t.text.now) plain t.start z.stop nodes) o x z P)
once_read {s} c t h nodes y ahead loop a = adds_before a refl refl (λ o P u. once_whole s.text c t (ahead_read s.text Goal.RegExp s.last (token_of t) ahead) h u loop)

-- what is made of them
pub statement_made : {s e : CursorState} {old new : List Pair} (c : StatementContext) (k : Kind) (w : List ℕ) (at high : ℕ) (nodes : Parts) (result : Result Tree Fault) → Makes (node k w plain at e.last.stop nodes) high result →
    Adds s e old new (λ o x y P. StatementAt s.text (context_role c) (node k w plain at y.stop nodes) o x y P) → IfOk result (λ n. Adds s e old new (StatementAt s.text (context_role c) n))
statement_made {s} {e} c k w at high nodes (Ok n) makes a = adds_before a refl refl (λ o P u. subst (λ v. StatementAt s.text (context_role c) v o s.last e.last P) (sym makes.0) u)
statement_made c k w at high nodes (Err fault) makes a = tt

-- a label that was read as an expression
pub label_begun : {s m : CursorState} {old mid : List Pair} (c : StatementContext) (t : Token) (h : StatementKind) (p : Operand) (nodes : Parts) → Adds s m old mid (ReadAt s.text (record { rank = Expression; has_in = true; start = Statement }) p) → kind_of p.cover.node ≡ Identifier → is_group p.rank ≡ false → h ≡ headed.Label → nodes ≡ part p.cover.node none →
    Adds s m old mid (FirstAt s.text c t h nodes)
label_begun {s} {m} c t h p nodes a named free is one = adds_before a refl refl (λ o P u.
    subst (λ ps. FirstAt s.text c t h ps o s.last m.last P) (sym one)
    (label_first is (u.part.bare name free (ap (λ k. cond (is_identifier k) (Some name) (cond (is_string_literal (kind_of p.cover.node) (text_of p.cover.node)) (Some directive_string) None)) named))))

-- the same statement
pub whole_as : {s e : CursorState} {old new : List Pair} (c : StatementContext) (t : Scanned) (h k : StatementKind) (ns ms : Parts) → k ≡ h → ms ≡ ns → Adds s e old new (λ o x y P. StatementAt s.text (context_role c) (node (statement_node_kind h) (headed_text h t.text.now) plain t.start y.stop ns) o x y P) →
    Adds s e old new (λ o x y P. StatementAt s.text (context_role c) (node (statement_node_kind k) (headed_text k t.text.now) plain t.start y.stop ms) o x y P)
whole_as {s} {e} c t h k ns ms same nodes a = adds_before a refl refl (λ o P u.
    subst (λ j. StatementAt s.text (context_role c) (node (statement_node_kind j) (headed_text j t.text.now) plain t.start e.last.stop ms) o s.last e.last P) (sym same)
    (subst (λ ps. StatementAt s.text (context_role c) (node (statement_node_kind h) (headed_text h t.text.now) plain t.start e.last.stop ps) o s.last e.last P) (sym nodes) u))

pub is_for : (h : StatementKind) → sameb the_type h headed.For ≡ true → h ≡ headed.For
is_for h e = same_true the_type tt h headed.For e

pub no_for : (h : StatementKind) → sameb the_type h headed.For ≡ false → h ≡ headed.For → ⊥
no_for h e q = false≢true (sym e ∙ ap (λ k. sameb the_type k headed.For) q ∙ refl)

-- what declares nothing has no text
pub no_text : (h : StatementKind) (w : List ℕ) → (h ≡ headed.Variable → ⊥) → [] ≡ headed_text h w
no_text headed.Variable w f = absurd (f refl)
no_text _ w f = refl
