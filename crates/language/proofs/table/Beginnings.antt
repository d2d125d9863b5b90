-- Statements and declarations by their first token: one whose first token is its own, or an expression, a directive or a label.
use Rattle.std.proofs.Common.{◌≡◌, ℕ, ◌≤◌, Bool, true, false, cond, List, [], ◌∷◌, ◌++◌, refl, sym, ap, ◌∙◌, subst, ◌⊎◌, inl, inr, arith}
use Rattle.std.specs.Prelude.{IsTrue, codes}
use Prim.Native.String.{String}
use Rattle.std.proofs.lemmas.Bool.{and_parts, false≢true}
use Rattle.std.proofs.lemmas.Bool.Decides.{nat_tests}
use Rattle.tokens.specs.declared.token.TokenClass.{TokenClass}
use Rattle.tokens.specs.declared.token.TokenClass.TheVariants.{IdentifierName, Punctuator, NumericLiteral, StringLiteral, Template, End}
use Rattle.tokens.specs.declared.token.Goal.{Goal}
use Rattle.tokens.specs.Goals.{allows}
use Rattle.tree.specs.declared.kind.Kind.{Kind}
use Rattle.tree.specs.declared.kind.Kind.TheVariants.{Literal, ExpressionStatement, BlockStatement, LabeledStatement, VariableDeclaration, ObjectPattern, ForOfStatement, FunctionDeclaration}
use Rattle.tree.specs.declared.kind.Flags.{Flags}
use Rattle.tree.specs.declared.kind.Pair.{Pair}
use Rattle.tree.specs.Tree.{Tree, node, Parts, part, kind_of, bare, bare_parts, plain}
use Rattle.tree.specs.Uses.{is_lean, used_flags, has_text, is_init, is_async}
use Rattle.tree.proofs.Lean.{lean_flags, lean_text}
use Rattle.language.specs.declared.Rank.{Rank}
use Rattle.language.specs.declared.Rank.TheVariants.{Expression, Grouped}
use Rattle.language.specs.declared.Start.TheVariants.{Any, Statement}
use Rattle.language.specs.declared.Edge.TheVariants.{Other}
use Rattle.language.specs.FirstPart.{lead as lead_kind}
use Rattle.language.specs.Vocabulary.{is, among, takes_number, precedence, is_reserved, literal_class, is_string}
use Rattle.language.specs.Edges.{last_edge}
use Rattle.language.specs.Pieces.{Role, expr, chain_part, name, directive_string, pattern, statement, Piece, PieceOf, tok, ending, sub, lay, space, Spelling}
use Rattle.language.specs.Statements.{first_is_string}
use Rattle.language.specs.Token.{Token}
use Rattle.language.specs.ExpressionStart.{ExpressionStart, with_brace, with_function, with_class, no_start, expression_start_by, expression_start}
use Rattle.language.specs.StatementStart.{StatementStart, a_block, an_empty, a_variable, a_return, a_function, a_class, an_expression, is_own, statement_words, declaration_words, statement_signs, statement_start_among, statement_start_by, statement_start, a_for}
use Rattle.language.specs.Promises.{is_free, IsDetermined, ReadBy}
use Rattle.language.specs.Grammar.{ways, spellings, starts}
use Rattle.language.specs.Derivation.{Spells, direct, grouped, Runs, Placed, reserved_key, reserved_word, Reads}
use Rattle.language.proofs.lower_bound.Domination.{settled, fits}
use Rattle.language.proofs.table.ViewIsComplete.{way_of, made, one, cases}
use Rattle.language.proofs.climbing.Spine.{Core, on_spine, grows_on_spine, spine_of}
use Rattle.language.proofs.climbing.FirstTurn.{grows_start}
use Rattle.language.proofs.table.Begins.{Each, among_by, first_of, goes_to, retell, Taken, taken, taken_free, behind_first}
use Rattle.language.proofs.table.TokenFirstWays.{identifier_opens, head_object, head_function, head_class, head_object_pattern, async_free}
use Rattle.language.proofs.climbing.LeftmostParts.{Cored, in_group, in_way, core_by, no_spine_core}
use Rattle.language.proofs.climbing.Leaves.{name_form}
pub use Rattle.language.proofs.climbing.Leaves.{made_rank}
use Rattle.language.proofs.climbing.BinaryTurns.{same_node}
use Rattle.language.proofs.list_loops.FirstPieces.{run_part, run_never, run_unbroken, run_laid, run_token}
use Rattle.language.proofs.table.StatementWays.{begins_as, own_class, own_text, may_stand, behind_own, own_pieces, Stands, as_statement, as_item, as_opening, Stated, by_own, by_for, by_function, is_plainly, for_of_pieces, by_label, by_expression, by_directive, by_group, stated}
use Rattle.tree.specs.declared.kind.Form.{Form}
use Rattle.tree.specs.declared.kind.Form.TheVariants.{Init, Generator, Async, AsyncGenerator}
use Rattle.language.specs.Expressions.{function_pieces}

-- the first token of such a statement begins it
pub own_begins : (d r : Bool) (b : StatementStart) (w : List ℕ) → is_own b ≡ true → may_stand d r b w ≡ true → statement_start_by d r (own_class b) (own_text b w) ≡ b
own_begins false r a_variable w h m = among_by (λ v. statement_start_by false r IdentifierName v ≡ a_variable) w ("var" ∷ []) m (refl, tt)
own_begins true r a_variable w h m = among_by (λ v. statement_start_by true r IdentifierName v ≡ a_variable) w ("var" ∷ "let" ∷ "const" ∷ []) m (refl, (refl, (refl, tt)))
own_begins false true a_return w h m = refl
own_begins true true a_return w h m = refl
own_begins d false a_return w h m = cc
own_begins true r a_function w h m = refl
own_begins false r a_function w h m = cc
own_begins true r a_class w h m = refl
own_begins false r a_class w h m = cc
own_begins d r a_block w h m = refl
own_begins d r an_empty w h m = refl
own_begins d r an_expression w h m = cc
own_begins true r _ w h m = refl
own_begins false r _ w h m = refl

for_begins : (d r : Bool) → statement_start_by d r IdentifierName (codes "for") ≡ a_for
for_begins true r = own_begins true r a_for [] refl refl
for_begins false r = own_begins false r a_for [] refl refl

-- and the goal for operands reads it
pub own_allowed : (b : StatementStart) (w : List ℕ) → is_own b ≡ true → (is_free (own_class b) ≡ true) ⊎ IsTrue (allows Goal.RegExp (own_class b) (own_text b w))
own_allowed a_block w h = inr refl
own_allowed an_empty w h = inr refl
own_allowed an_expression w h = cc
own_allowed _ w h = inl refl

-- the text of the node, of that of its first token
abbrev pub text_as : StatementStart → List ℕ → List ℕ
text_as a_variable w = w
text_as _ w = []

abbrev is_variable : StatementStart → Bool
is_variable a_variable = true
is_variable _ = false

own_has_text : (k : Kind) → is_own (begins_as k) ≡ true → has_text k ≡ is_variable (begins_as k)
own_has_text VariableDeclaration h = refl
own_has_text _ h = cc

own_node_text : (k : Kind) (g : Flags) (st en : ℕ) (ps : Parts) {v w : List ℕ} → is_own (begins_as k) ≡ true → is_lean (bare (node k w g st en ps)) ≡ true → v ≡ own_text (begins_as k) w → w ≡ text_as (begins_as k) v
own_node_text k g st en ps {v} {w} h l e = of (begins_as k) e (own_has_text k h)
  where
    of : (b : StatementStart) → v ≡ own_text b w → has_text k ≡ is_variable b → w ≡ text_as b v
    of a_variable e t = sym e
    of _ e t = lean_text (bare (node k w g st en ps)) l t

-- the flags of a node that has a form alone
abbrev pub form_flags : Form → Flags
form_flags x = record plain { form = x }

plain_form : (x : Form) → is_init x ≡ true → form_flags x ≡ plain
plain_form Init h = refl
plain_form _ h = cc

own_flags : (k : Kind) (g : Flags) → is_own (begins_as k) ≡ true → is_plainly k g ≡ true → used_flags k g ≡ plain
own_flags BlockStatement g h f = refl
own_flags ForOfStatement g h f = plain_form g.form f
own_flags FunctionDeclaration g h f = plain_form g.form f
own_flags _ g h f = cc

-- the flags of a directive
abbrev pub directive_flags : Flags
directive_flags = record plain { directive = true }

-- what an expression that is a statement may begin with
abbrev pub begins_statement : ExpressionStart → Bool
begins_statement no_start = false
begins_statement with_brace = false
begins_statement with_function = false
begins_statement with_class = false
begins_statement _ = true

-- a text that passes a test which no text of the rows passes is in none of them
abbrev EachRow : (List ℕ → Type 0) → List (List String × StatementStart) → Type 0
EachRow R [] = Unit {0}
EachRow R (row ∷ rows) = Each R row.0 × EachRow R rows

not_there : (test : List ℕ → Bool) (w : List ℕ) (ss : List String) → test w ≡ true → Each (λ v. test v ≡ false) ss → among w ss ≡ false
not_there test w ss h all = go (among w ss) refl
  where
    go : (b : Bool) → among w ss ≡ b → b ≡ false
    go false e = refl
    go true e = absurd (false≢true (sym (among_by (λ v. test v ≡ false) w ss e all) ∙ h))

in_no_row : (test : List ℕ → Bool) (w : List ℕ) (rows : List (List String × StatementStart)) → test w ≡ true → EachRow (λ v. test v ≡ false) rows → statement_start_among w rows ≡ an_expression
in_no_row test w [] h all = refl
in_no_row test w (row ∷ rows) h all = ap (λ b. cond b row.1 (statement_start_among w rows)) (not_there test w row.0 h all.0) ∙ in_no_row test w rows h all.1

-- so a statement that begins so is an expression
opening_begins : (d r : Bool) (c : TokenClass) (w : List ℕ) → begins_statement (expression_start_by c w) ≡ true → statement_start_by d r c w ≡ an_expression
unfolding is_reserved
opening_begins true r IdentifierName w h = in_no_row (λ v. begins_statement (expression_start_by IdentifierName v)) w (declaration_words ++ statement_words r) h
    ((refl, tt), ((refl, tt), ((refl, (refl, tt)), ((refl, tt), ((refl, tt), ((refl, tt), ((refl, tt), ((refl, tt), ((refl, tt), ((refl, tt), ((refl, tt), ((refl, tt), ((refl, tt), ((refl, tt), ((refl, tt), tt)))))))))))))))
opening_begins false r IdentifierName w h = in_no_row (λ v. begins_statement (expression_start_by IdentifierName v)) w (statement_words r) h
    ((refl, tt), ((refl, tt), ((refl, tt), ((refl, tt), ((refl, tt), ((refl, tt), ((refl, tt), ((refl, tt), ((refl, tt), ((refl, tt), ((refl, tt), ((refl, tt), tt))))))))))))
opening_begins d r Punctuator w h = in_no_row (λ v. begins_statement (expression_start_by Punctuator v)) w statement_signs h ((refl, tt), ((refl, tt), tt))
opening_begins d r NumericLiteral w h = refl
opening_begins d r StringLiteral w h = refl
opening_begins d r Template w h = refl
opening_begins d r TokenClass.RegularExpressionLiteral w h = refl
opening_begins d r TokenClass.PrivateName w h = refl
opening_begins d r TokenClass.Keyword w h = refl
opening_begins d r End w h = refl

-- so nothing but a group stands at Grouped
pub too_tight : (z : ℕ) → z ≤ 22 → IsTrue (takes_number 23 z) → ⊥
too_tight z l h = grind (arith, nat_tests)

-- a statement's pieces are settled as those of a whole expression
pub settled_at : {a : Role} {p d r : Bool} → Stands a p d r → (x : Spelling) → settled a x ≡ goes_to Expression true Any x.pieces
settled_at as_statement x = refl
settled_at as_item x = refl
settled_at as_opening x = refl

abbrev is_object_pattern : Kind → Bool
is_object_pattern ObjectPattern = true
is_object_pattern _ = false

module _ (S : Type 0) (Next : S → Token → S → Type 0) (behind : S → Token) (det : IsDetermined S Next behind) where
  -- no pattern of an object begins a statement
  no_object_pattern : {o : ℕ} {c : Bool} {n : Tree} {s e : S} {P : List Pair} → Spells ways S Next behind o (pattern c Statement) n s e P → kind_of n ≡ ObjectPattern → ⊥
  unfolding spellings
  no_object_pattern {c = c} {n = node ObjectPattern w g st en ps} (direct qs h pl d) k = let v = way_of h in
      false≢true (ap (λ x. fits (pattern c Statement) x) (sym (one v.listed)) ∙ v.fit)
  no_object_pattern {n = node _ w g st en ps} (direct qs h pl d) k = absurd (false≢true (ap is_object_pattern k))

  kind_bare : (n : Tree) (ps : Parts) {k : Kind} → lead_kind (bare_parts (part n ps)) ≡ k → kind_of n ≡ k
  kind_bare (node k w g s e qs) ps h = h

  cored_begins : {o : ℕ} {y : Rank} {i : Bool} {n : Tree} {s e : S} {P : List Pair} (x : ExpressionStart) → Cored S Next behind det o y i Statement n s e P x → begins_statement x ≡ true
  cored_begins x (in_group less p d q all) = refl
  cored_begins x (in_way is (head_object k b q) lean pl d) = cc
  cored_begins x (in_way is (head_function k z b q) lean pl d) = cc
  cored_begins x (in_way is (head_class k b q) lean pl d) = cc
  cored_begins x (in_way is (head_object_pattern k op e l tk q) lean pl d) =
      let u = run_part S Next behind (retell S Next behind q d) in
      absurd (no_object_pattern u.spelled (kind_bare u.item u.rest (ap (λ v. lead_kind (bare_parts v)) (sym u.parts) ∙ l)))
  cored_begins x (in_way is h lean pl d) = refl

  -- an expression that is a statement begins neither with `{` nor with `function` or `class`
  pub expression_begins : {o : ℕ} {y : Rank} {i : Bool} {n : Tree} {s e m : S} {P : List Pair} {t : Token} → ReadBy S Next behind Goal.RegExp s t m → Spells ways S Next behind o (expr y i Statement) n s e P → begins_statement (expression_start t) ≡ true
  expression_begins {o} {s = s} {t = t} r d = let u = spine_of S Next behind d in of u.role (grows_on_spine S Next behind refl u.grows) (grows_start S Next behind u.grows) u.core
    where
      of : {n : Tree} {e : S} {P : List Pair} (b : Role) → on_spine b ≡ true → Rattle.language.specs.Grammar.own_start b ≡ Statement → Core S Next behind o b n s e P → begins_statement (expression_start t) ≡ true
      of {n} {e} {P} (expr h j g) on st c = cored_begins (expression_start t) (core_by S Next behind det r refl (subst (λ v. Core S Next behind o (expr h j v) n s e P) st c))
      of (chain_part g) on st c = absurd (no_spine_core S Next behind det c)
      of _ on st c = absurd (false≢true on)

  -- a statement whose first token is its own, and what stands behind that token
  pub record OwnWay (r : Bool) (o : ℕ) (a : Role) (b : StatementStart) (v : List ℕ) (m : S) (n : Tree) (s e : S) (P : List Pair) : Type 0 where
    pub kind : Kind
    pub begins : begins_as kind ≡ b
    pub st : ℕ
    pub en : ℕ
    pub parts : Parts
    pub tree : n ≡ node kind (text_as b v) plain st en parts
    pub placed : Placed S Next behind a n s e
    pub runs : Runs ways S Next behind o (goes_to Expression true Any (behind_own r kind (bare_parts parts))) parts m e P

  -- a `for await`, a generator, and an async function, whose first token other statements have too
  pub data LaterWay (r : Bool) (o : ℕ) (a : Role) (t : Token) (m : S) (n : Tree) (s e : S) (P : List Pair) : StatementStart → Type 0 where
    later_for : {z : Form} {st en : ℕ} {ps : Parts} → is_init z ≡ false → n ≡ node ForOfStatement [] (form_flags z) st en ps → Placed S Next behind a n s e →
        Runs ways S Next behind o (behind_first (goes_to Expression true Any (for_of_pieces r z (bare_parts ps)))) ps m e P → LaterWay r o a t m n s e P a_for
    later_generator : {st en : ℕ} {ps : Parts} → n ≡ node FunctionDeclaration [] (form_flags Generator) st en ps → Placed S Next behind a n s e →
        Runs ways S Next behind o (behind_first (goes_to Expression true Any (function_pieces Generator (bare_parts ps)))) ps m e P → LaterWay r o a t m n s e P a_function
    later_async : {z : Form} {st en : ℕ} {ps : Parts} → t.class ≡ IdentifierName → t.text ≡ codes "async" → is_async z ≡ true → n ≡ node FunctionDeclaration [] (form_flags z) st en ps → Placed S Next behind a n s e →
        Runs ways S Next behind o (behind_first (goes_to Expression true Any (function_pieces z (bare_parts ps)))) ps m e P → LaterWay r o a t m n s e P an_expression

  -- behind the word `async` of such a function its own word stands, on the same line
  pub later_next : {r : Bool} {o : ℕ} {a : Role} {t : Token} {m : S} {n : Tree} {s e : S} {P : List Pair} → LaterWay r o a t m n s e P an_expression → (v : Token) × (k : S) × Reads S Next behind IdentifierName (codes "function") m v k × (v.after_break ≡ false)
  later_next {o = o} {m = m} {e = e} {P = P} (later_async {z = z} {ps = ps} c w h tree pl d) = of z h d
    where
      of : (z : Form) → is_async z ≡ true → Runs ways S Next behind o (behind_first (goes_to Expression true Any (function_pieces z (bare_parts ps)))) ps m e P → (v : Token) × (k : S) × Reads S Next behind IdentifierName (codes "function") m v k × (v.after_break ≡ false)
      of Async h d =
          let a = run_unbroken S Next behind d in
          let b = run_token S Next behind (run_laid S Next behind a.runs) in
          (b.sign, b.mid, b.reads, det.break m b.sign a.sign b.mid a.mid b.reads.next a.next ∙ a.unbroken)
      of AsyncGenerator h d =
          let a = run_unbroken S Next behind d in
          let b = run_token S Next behind (run_laid S Next behind a.runs) in
          (b.sign, b.mid, b.reads, det.break m b.sign a.sign b.mid a.mid b.reads.next a.next ∙ a.unbroken)
      of _ h d = cc

  -- any other statement: a label; an expression; in a prologue a directive, or a group with a string alone
  pub data OtherWay (p r : Bool) (o : ℕ) (a : Role) (n : Tree) (s e : S) (P : List Pair) : Type 0 where
    a_label : {st en : ℕ} {ps : Parts} → n ≡ node LabeledStatement [] plain st en ps → Placed S Next behind a n s e →
        Runs ways S Next behind o (sub name ∷ tok Punctuator (codes ":") ∷ lay space ∷ sub (statement r) ∷ []) ps s e P → OtherWay p r o a n s e P
    evaluated : {st en : ℕ} {ps : Parts} → n ≡ node ExpressionStatement [] plain st en ps → Placed S Next behind a n s e → (p ≡ true → first_is_string (bare_parts ps) ≡ false) →
        Runs ways S Next behind o (sub (expr Expression true Statement) ∷ ending (Rattle.language.specs.Pieces.behind (last_edge (bare_parts ps))) ∷ []) ps s e P → OtherWay p r o a n s e P
    a_directive : {st en : ℕ} {ps : Parts} → p ≡ true → n ≡ node ExpressionStatement [] directive_flags st en ps → Placed S Next behind a n s e → first_is_string (bare_parts ps) ≡ true →
        Runs ways S Next behind o (sub directive_string ∷ ending (Rattle.language.specs.Pieces.behind Other) ∷ []) ps s e P → OtherWay p r o a n s e P
    a_group : {st en : ℕ} {ps : Parts} → p ≡ true → n ≡ node ExpressionStatement [] plain st en ps → Placed S Next behind a n s e → first_is_string (bare_parts ps) ≡ true →
        Runs ways S Next behind o (sub (expr Grouped true Any) ∷ ending (Rattle.language.specs.Pieces.behind (last_edge (bare_parts ps))) ∷ []) ps s e P → OtherWay p r o a n s e P

  -- the token that is read, as the pieces say
  own_taken : {o : ℕ} {ps : Parts} {s e m : S} {P : List Pair} {t : Token} (r : Bool) (k : Kind) (w : List ℕ) → is_own (begins_as k) ≡ true → ReadBy S Next behind Goal.RegExp s t m →
      Runs ways S Next behind o (goes_to Expression true Any (own_pieces r k w (bare_parts ps))) ps s e P → Taken S Next behind o (own_class (begins_as k)) (own_text (begins_as k) w) t m (goes_to Expression true Any (own_pieces r k w (bare_parts ps))) ps e P
  own_taken {o} {ps} {s} {e} {m} {P} {t} r k w h read d = of (own_allowed (begins_as k) w h)
    where
      qs : List (PieceOf Role)
      qs = goes_to Expression true Any (own_pieces r k w (bare_parts ps))

      of : (is_free (own_class (begins_as k)) ≡ true) ⊎ IsTrue (allows Goal.RegExp (own_class (begins_as k)) (own_text (begins_as k) w)) → Taken S Next behind o (own_class (begins_as k)) (own_text (begins_as k) w) t m qs ps e P
      of (inl f) = taken_free S Next behind det Goal.RegExp qs refl f d read
      of (inr al) = taken S Next behind det Goal.RegExp qs refl al d read

  -- the string of a directive, and the parenthesis of a group
  quoted_begins : (d r : Bool) {o : ℕ} {n : Tree} {s e m : S} {P : List Pair} {t : Token} → ReadBy S Next behind Goal.RegExp s t m → Spells ways S Next behind o directive_string n s e P → statement_start d r t ≡ an_expression
  unfolding spellings
  quoted_begins d r {n = node Literal w g st en ps} {t = t} read (direct qs h pl run) = let v = way_of h in
      cases {ys = []} (is_string (literal_class w)) v.listed (λ b k. let u = taken_free S Next behind det Goal.RegExp qs (ap first_of (v.is ∙ ap (settled directive_string) (one k))) refl run read in ap (λ c. statement_start_by d r c t.text) u.class) (λ b k. elim k [ ])
  quoted_begins d r {n = node _ w g st en ps} read (direct qs h pl run) = elim ((way_of h).listed) [ ]

  group_begins : (d r : Bool) {o : ℕ} {n : Tree} {s e m : S} {P : List Pair} {t : Token} → ReadBy S Next behind Goal.RegExp s t m → Spells ways S Next behind o (expr Grouped true Any) n s e P → statement_start d r t ≡ an_expression
  unfolding spellings
  group_begins d r {s = s} {m = m} {t = t} read (grouped {left = u} {m = k} p q z) =
      let al : IsTrue (allows Goal.RegExp u.class u.text) = subst (λ c. IsTrue (allows Goal.RegExp c u.text)) (sym p.class) (subst (λ x. IsTrue (allows Goal.RegExp Punctuator x)) (sym p.text) refl) in
      let same = det.same Goal.RegExp s t u m k read.next p.next read.allowed al in
      ap (statement_start d r) same.0 ∙ ap (λ c. statement_start_by d r c u.text) p.class ∙ ap (statement_start_by d r Punctuator) p.text
  group_begins d r {n = node k w g st en ps} read (direct qs h pl run) = let v = way_of h in absurd (too_tight (precedence v.spelling.rank) (made_rank (made k v.listed)) (and_parts _ _ (and_parts _ _ v.fit).0).0)

  name_begins : (d r : Bool) {o : ℕ} {n : Tree} {s e m : S} {P : List Pair} {t : Token} → ReadBy S Next behind Goal.RegExp s t m → Spells ways S Next behind o name n s e P → statement_start d r t ≡ an_expression
  name_begins d r {s = s} {e = e} {m = m} {t = t} read run =
      let u = name_form S Next behind det run in
      let same = det.same Goal.RegExp s t u.0.sign m e read.next u.0.reads.next read.allowed (det.free Goal.RegExp s u.0.sign e u.0.reads.next (ap is_free u.0.reads.class)) in
      ap (statement_start d r) same.0 ∙ ap (λ c. statement_start_by d r c u.0.sign.text) u.0.reads.class ∙ ap (statement_start_by d r IdentifierName) u.0.reads.text ∙ opening_begins d r IdentifierName u.0.text (ap begins_statement (identifier_opens u.0.text u.1))

  -- what a statement is, with its beginning
  pub data Viewed (p r : Bool) (o : ℕ) (a : Role) (t : Token) (m : S) (n : Tree) (s e : S) (P : List Pair) (b : StatementStart) : Type 0 where
    its_own : is_own b ≡ true → OwnWay r o a b t.text m n s e P → Viewed p r o a t m n s e P b
    another : b ≡ an_expression → OtherWay p r o a n s e P → Viewed p r o a t m n s e P b
    later : LaterWay r o a t m n s e P b → Viewed p r o a t m n s e P b

  pub viewed : {p d r : Bool} {o : ℕ} {a : Role} {n : Tree} {s e m : S} {P : List Pair} {t : Token} → Stands a p d r → ReadBy S Next behind Goal.RegExp s t m → Spells ways S Next behind o a n s e P → Viewed p r o a t m n s e P (statement_start d r t)
  viewed st read (grouped x y z) = elim st [ ]
  viewed st read (reserved_key x y z) = elim st [ ]
  viewed st read (reserved_word x y z) = elim st [ ]
  viewed {p} {d} {r} {o} {a} {n = node k w g stt en ps} {s} {e} {m} {P} {t} st read (direct qs h pl run) =
      let v = way_of h in
      of (retell S Next behind (v.is ∙ settled_at st v.spelling) run) v.lean (stated k w g 0 0 (bare_parts ps) st v.listed)
    where
      async_begins : t.class ≡ IdentifierName → t.text ≡ codes "async" → statement_start d r t ≡ an_expression
      async_begins c v = opening_begins d r t.class t.text (ap (λ x. begins_statement (expression_start_by x t.text)) c ∙ ap (λ x. begins_statement (expression_start_by IdentifierName x)) v ∙ ap begins_statement (identifier_opens (codes "async") async_free))

      own_here : (b : StatementStart) → b ≡ begins_as k → is_own (begins_as k) ≡ true → w ≡ text_as (begins_as k) t.text → g ≡ plain → Runs ways S Next behind o (goes_to Expression true Any (behind_own r k (bare_parts ps))) ps m e P →
          Viewed p r o a t m (node k w g stt en ps) s e P b
      own_here b begun own text flags run = its_own (ap is_own begun ∙ own) (record {
        kind = k;
        begins = sym begun;
        st = stt;
        en = en;
        parts = ps;
        tree = same_node refl (text ∙ ap (λ x. text_as x t.text) (sym begun)) flags refl refl refl;
        placed = pl;
        runs = run;
      })

      -- a function of another form
      of_function : (z : Form) → is_init z ≡ false → d ≡ true → node k w g stt en ps ≡ node FunctionDeclaration [] (form_flags z) stt en ps → Runs ways S Next behind o (goes_to Expression true Any (function_pieces z (bare_parts ps))) ps s e P → Viewed p r o a t m (node k w g stt en ps) s e P (statement_start d r t)
      of_function Generator h all tree run =
          let u = taken_free S Next behind det Goal.RegExp (goes_to Expression true Any (function_pieces Generator (bare_parts ps))) refl refl run read in
          let begun : statement_start d r t ≡ a_function = ap (λ b. statement_start b r t) all ∙ ap (λ c. statement_start_by true r c t.text) u.class ∙ ap (statement_start_by true r IdentifierName) u.text ∙ own_begins true r a_function [] refl refl in
          subst (Viewed p r o a t m (node k w g stt en ps) s e P) (sym begun) (later (later_generator tree pl u.runs))
      of_function Async h all tree run =
          let u = taken_free S Next behind det Goal.RegExp (goes_to Expression true Any (function_pieces Async (bare_parts ps))) refl refl run read in
          subst (Viewed p r o a t m (node k w g stt en ps) s e P) (sym (async_begins u.class u.text)) (later (later_async u.class u.text refl tree pl u.runs))
      of_function AsyncGenerator h all tree run =
          let u = taken_free S Next behind det Goal.RegExp (goes_to Expression true Any (function_pieces AsyncGenerator (bare_parts ps))) refl refl run read in
          subst (Viewed p r o a t m (node k w g stt en ps) s e P) (sym (async_begins u.class u.text)) (later (later_async u.class u.text refl tree pl u.runs))
      of_function Init h all tree run = absurd (false≢true (sym h))
      of_function _ h all tree run = absurd (run_never S Next behind run)

      of : {ql : List Piece} → Runs ways S Next behind o (goes_to Expression true Any ql) ps s e P → is_lean (bare (node k w g stt en ps)) ≡ true → Stated p d r k w g (bare_parts ps) ql → Viewed p r o a t m (node k w g stt en ps) s e P (statement_start d r t)
      of run lean (by_for kind z q) =
          let u = taken_free S Next behind det Goal.RegExp (goes_to Expression true Any (for_of_pieces r g.form (bare_parts ps))) refl refl (retell S Next behind (ap (goes_to Expression true Any) q) run) read in
          let begun : statement_start d r t ≡ a_for = ap (λ c. statement_start_by d r c t.text) u.class ∙ ap (statement_start_by d r IdentifierName) u.text ∙ for_begins d r in
          let tree : node k w g stt en ps ≡ node ForOfStatement [] (form_flags g.form) stt en ps = same_node kind (lean_text (bare (node k w g stt en ps)) lean (ap has_text kind)) (lean_flags (bare (node k w g stt en ps)) lean ∙ ap (λ v. used_flags v g) kind) refl refl refl in
          subst (Viewed p r o a t m (node k w g stt en ps) s e P) (sym begun) (later (later_for z tree pl u.runs))
      of run lean (by_function kind all z q) =
          of_function g.form z all (same_node kind (lean_text (bare (node k w g stt en ps)) lean (ap has_text kind)) (lean_flags (bare (node k w g stt en ps)) lean ∙ ap (λ v. used_flags v g) kind) refl refl refl) (retell S Next behind (ap (goes_to Expression true Any) q) run)
      of run lean (by_own own may plainly q) =
          let u = own_taken r k w own read (retell S Next behind (ap (goes_to Expression true Any) q) run) in
          own_here (statement_start d r t) (ap (λ c. statement_start_by d r c t.text) u.class ∙ ap (statement_start_by d r (own_class (begins_as k))) u.text ∙ own_begins d r (begins_as k) w own may) own
          (own_node_text k g stt en ps own lean u.text) (lean_flags (bare (node k w g stt en ps)) lean ∙ own_flags k g own plainly) u.runs
      of run lean (by_label kind q) =
          let run' = retell S Next behind (ap (goes_to Expression true Any) q) run in
          let tree : node k w g stt en ps ≡ node LabeledStatement [] plain stt en ps = same_node kind (lean_text (bare (node k w g stt en ps)) lean (ap has_text kind)) (lean_flags (bare (node k w g stt en ps)) lean ∙ ap (λ v. used_flags v g) kind) refl refl refl in
          another (name_begins d r read (run_part S Next behind run').spelled) (a_label tree pl run')
      of run lean (by_expression kind plainly single q) =
          let run' = retell S Next behind (ap (goes_to Expression true Any) q) run in
          let flags : g ≡ plain = lean_flags (bare (node k w g stt en ps)) lean ∙ ap (λ v. used_flags v g) kind ∙ ap (λ b. record plain { directive = b }) plainly in
          let tree : node k w g stt en ps ≡ node ExpressionStatement [] plain stt en ps = same_node kind (lean_text (bare (node k w g stt en ps)) lean (ap has_text kind)) flags refl refl refl in
          another (opening_begins d r t.class t.text (expression_begins read (run_part S Next behind run').spelled)) (evaluated tree pl single run')
      of run lean (by_directive kind first_ones flag single q) =
          let run' = retell S Next behind (ap (goes_to Expression true Any) q) run in
          let flags : g ≡ directive_flags = lean_flags (bare (node k w g stt en ps)) lean ∙ ap (λ v. used_flags v g) kind ∙ ap (λ b. record plain { directive = b }) flag in
          let tree : node k w g stt en ps ≡ node ExpressionStatement [] directive_flags stt en ps = same_node kind (lean_text (bare (node k w g stt en ps)) lean (ap has_text kind)) flags refl refl refl in
          another (quoted_begins d r read (run_part S Next behind run').spelled) (a_directive first_ones tree pl single run')
      of run lean (by_group kind first_ones flag single q) =
          let run' = retell S Next behind (ap (goes_to Expression true Any) q) run in
          let flags : g ≡ plain = lean_flags (bare (node k w g stt en ps)) lean ∙ ap (λ v. used_flags v g) kind ∙ ap (λ b. record plain { directive = b }) flag in
          let tree : node k w g stt en ps ≡ node ExpressionStatement [] plain stt en ps = same_node kind (lean_text (bare (node k w g stt en ps)) lean (ap has_text kind)) flags refl refl refl in
          another (group_begins d r read (run_part S Next behind run').spelled) (a_group first_ones tree pl single run')

  module _ {p d r : Bool} {o : ℕ} {a : Role} {s e m : S} {P : List Pair} {t : Token} (st : Stands a p d r) (read : ReadBy S Next behind Goal.RegExp s t m) where
    -- where the token is a statement's own, this statement is spelled
    pub own_way : {n : Tree} {b : StatementStart} → statement_start d r t ≡ b → is_own b ≡ true → (LaterWay r o a t m n s e P b → ⊥) → Spells ways S Next behind o a n s e P → OwnWay r o a b t.text m n s e P
    own_way {n} {b} begun own no_later run = of (viewed st read run)
      where
        of : Viewed p r o a t m n s e P (statement_start d r t) → OwnWay r o a b t.text m n s e P
        of (its_own h u) = subst (λ x. OwnWay r o a x t.text m n s e P) begun u
        of (another h u) = absurd (false≢true (sym (ap is_own h) ∙ ap is_own begun ∙ own))
        of (later u) = absurd (no_later (subst (LaterWay r o a t m n s e P) begun u))

    -- where it is none's, another
    pub other_way : {n : Tree} → statement_start d r t ≡ an_expression → (LaterWay r o a t m n s e P an_expression → ⊥) → Spells ways S Next behind o a n s e P → OtherWay p r o a n s e P
    other_way {n} begun no_later run = of (viewed st read run)
      where
        of : Viewed p r o a t m n s e P (statement_start d r t) → OtherWay p r o a n s e P
        of (its_own h u) = absurd (false≢true (sym (ap is_own begun) ∙ h))
        of (another h u) = u
        of (later u) = absurd (no_later (subst (LaterWay r o a t m n s e P) begun u))
