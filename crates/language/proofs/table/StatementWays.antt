-- The view of the table of statements and declarations: those whose first token is their own, by their kind; labels, expressions, directives.
use Rattle.std.proofs.Common.{◌≡◌, ℕ, Bool, true, false, cond, List, [], ◌∷◌, ◌++◌, refl, sym, ap, ◌∙◌}
use Rattle.std.specs.Prelude.{codes, nat_le, ◌||◌}
use Rattle.std.proofs.lemmas.Bool.{false≢true}
use Rattle.tokens.specs.declared.token.TokenClass.{TokenClass}
use Rattle.tokens.specs.declared.token.TokenClass.TheVariants.{IdentifierName, Punctuator}
use Rattle.tree.specs.declared.kind.Kind.{Kind}
use Rattle.tree.specs.declared.kind.Kind.TheVariants.{ExpressionStatement, BlockStatement, EmptyStatement, DebuggerStatement, ReturnStatement, ThrowStatement, BreakStatement, ContinueStatement, LabeledStatement, IfStatement, SwitchStatement, TryStatement, WhileStatement, DoWhileStatement, ForStatement, ForInStatement, ForOfStatement, VariableDeclaration, FunctionDeclaration, ClassDeclaration}
use Rattle.tree.specs.declared.kind.Flags.{Flags}
use Rattle.tree.specs.declared.kind.Form.{Form}
use Rattle.tree.specs.declared.kind.Form.TheVariants.{Init}
use Rattle.tree.specs.Uses.{is_init}
use Rattle.tree.specs.Tree.{Tree, node, Parts, none, part, gap, plain}
use Rattle.language.specs.declared.Rank.TheVariants.{Expression, Assignment, Grouped, Primary, LeftHandSide}
use Rattle.language.specs.declared.Start.TheVariants.{Any, Statement}
use Rattle.language.specs.declared.Edge.TheVariants.{Closed, Other}
use Rattle.language.specs.FirstPart.{lead, others}
use Rattle.language.specs.Vocabulary.{is, among}
use Rattle.language.specs.Edges.{last_edge, ends_in_if}
use Rattle.language.specs.Pieces.{Role, expr, name, directive_string, body, class_body, statement, item, opening, block, head, declarator, switch_case, handler, of_do, line, deeper, shallower, Piece, tok, unbroken, ending, put, absent, lay, Spelling, at, only, sign, term, sp, nothing, is_none, parameters}
use Rattle.language.specs.Statements.{statements, items, openings, whole, lines, declarators, is_declaration, for_words, for_left, defaults, after_word, end_of, first_is_string}
use Rattle.language.specs.Expressions.{given, function_pieces}
use Rattle.language.specs.StatementStart.{StatementStart, a_block, an_empty, a_variable, an_if, a_do, a_while, a_for, a_continue, a_break, a_return, a_throw, a_switch, a_try, a_debugger, a_function, a_class, an_expression, is_own}
use Rattle.language.specs.Grammar.{spellings, can_run}
use Rattle.language.specs.Derivation.{Among, first}
use Rattle.language.proofs.table.ViewIsComplete.{one, cases, unless}
use Rattle.language.proofs.table.Productions.{in_true, in_false}
use Rattle.language.proofs.table.Begins.{among_by}

-- what a statement of the kind begins with
abbrev pub begins_as : Kind → StatementStart
begins_as BlockStatement = a_block
begins_as EmptyStatement = an_empty
begins_as VariableDeclaration = a_variable
begins_as IfStatement = an_if
begins_as DoWhileStatement = a_do
begins_as WhileStatement = a_while
begins_as ForStatement = a_for
begins_as ForInStatement = a_for
begins_as ForOfStatement = a_for
begins_as ContinueStatement = a_continue
begins_as BreakStatement = a_break
begins_as ReturnStatement = a_return
begins_as ThrowStatement = a_throw
begins_as SwitchStatement = a_switch
begins_as TryStatement = a_try
begins_as DebuggerStatement = a_debugger
begins_as FunctionDeclaration = a_function
begins_as ClassDeclaration = a_class
begins_as _ = an_expression

-- the kind of the statement with such a beginning; of those with `for` the first
abbrev pub kind_as : StatementStart → Kind
kind_as a_block = BlockStatement
kind_as an_empty = EmptyStatement
kind_as a_variable = VariableDeclaration
kind_as an_if = IfStatement
kind_as a_do = DoWhileStatement
kind_as a_while = WhileStatement
kind_as a_for = ForStatement
kind_as a_continue = ContinueStatement
kind_as a_break = BreakStatement
kind_as a_return = ReturnStatement
kind_as a_throw = ThrowStatement
kind_as a_switch = SwitchStatement
kind_as a_try = TryStatement
kind_as a_debugger = DebuggerStatement
kind_as a_function = FunctionDeclaration
kind_as a_class = ClassDeclaration
kind_as an_expression = ExpressionStatement

-- the class and the text of its first token; w is the node's text
abbrev pub own_class : StatementStart → TokenClass
own_class a_block = Punctuator
own_class an_empty = Punctuator
own_class _ = IdentifierName

abbrev pub own_text : StatementStart → List ℕ → List ℕ
own_text a_block w = codes "{"
own_text an_empty w = codes ";"
own_text a_variable w = w
own_text an_if w = codes "if"
own_text a_do w = codes "do"
own_text a_while w = codes "while"
own_text a_for w = codes "for"
own_text a_continue w = codes "continue"
own_text a_break w = codes "break"
own_text a_return w = codes "return"
own_text a_throw w = codes "throw"
own_text a_switch w = codes "switch"
own_text a_try w = codes "try"
own_text a_debugger w = codes "debugger"
own_text a_function w = codes "function"
own_text a_class w = codes "class"
own_text an_expression w = []

-- where it may stand: a declaration that is no statement among items, `return` in a function
abbrev pub may_stand : Bool → Bool → StatementStart → List ℕ → Bool
may_stand d r a_variable w = among w (cond d ("var" ∷ "let" ∷ "const" ∷ []) ("var" ∷ []))
may_stand d r a_return w = r
may_stand d r a_function w = d
may_stand d r a_class w = d
may_stand d r _ w = true

-- behind `{`: each part on a line of its own, `}`
abbrev pub behind_brace : Parts → List Piece → List Piece
behind_brace ps qs = cond (is_none ps) [] (lay deeper ∷ []) ++ qs ++ cond (is_none ps) [] (lay shallower ∷ lay line ∷ []) ++ sign "}" ∷ []

-- a condition in parentheses, then a statement
abbrev pub condition : Bool → List Piece → List Piece
condition r qs = sp ∷ sign "(" ∷ whole ∷ sign ")" ∷ sp ∷ put (statement r) ∷ qs

abbrev pub behind_if : Bool → Parts → List Piece
behind_if r (part t (part c (gap none))) = condition r (absent ∷ [])
behind_if r (part t (part c (part a none))) = cond (ends_in_if c) nothing (condition r (sp ∷ term "else" ∷ sp ∷ put (statement r) ∷ []))
behind_if r _ = nothing

abbrev pub behind_for : Bool → Parts → List Piece
behind_for r ps =
    sp ∷ sign "(" ∷ given ps (put (cond (is_declaration (lead ps)) (head true) (expr Expression false Any)) ∷ [])
    ++ sign ";" ∷ given (others ps) (sp ∷ whole ∷ [])
    ++ sign ";" ∷ given (others (others ps)) (sp ∷ whole ∷ [])
    ++ sign ")" ∷ sp ∷ put (statement r) ∷ []

abbrev pub behind_try : Bool → Parts → List Piece
behind_try r (part b (part h (gap none))) = sp ∷ put (block r) ∷ sp ∷ put (handler r) ∷ absent ∷ []
behind_try r (part b (part h (part f none))) = sp ∷ put (block r) ∷ sp ∷ put (handler r) ∷ sp ∷ term "finally" ∷ sp ∷ put (block r) ∷ []
behind_try r (part b (gap (part f none))) = sp ∷ put (block r) ∷ absent ∷ sp ∷ term "finally" ∷ sp ∷ put (block r) ∷ []
behind_try r _ = nothing

abbrev pub behind_switch : Bool → Parts → List Piece
behind_switch r ps = cond (nat_le (defaults (others ps)) 1) (sp ∷ sign "(" ∷ whole ∷ sign ")" ∷ sp ∷ sign "{" ∷ behind_brace (others ps) (lines (switch_case r) (others ps))) nothing

-- behind `function`, and behind `class`, of a declaration, which has a name
abbrev pub behind_function : Parts → List Piece
behind_function (part n ps) = sp ∷ put name ∷ sign "(" ∷ parameters (sign ")" ∷ sp ∷ put body ∷ []) ps
behind_function _ = nothing

abbrev pub behind_class : Parts → List Piece
behind_class (part n ps) = sp ∷ put name ∷ sp ∷ given ps (term "extends" ∷ sp ∷ put (expr LeftHandSide true Any) ∷ sp ∷ []) ++ put class_body ∷ []
behind_class _ = nothing

-- a for-of, by its form
abbrev pub for_of_pieces : Bool → Form → Parts → List Piece
for_of_pieces r z ps = term "for" ∷ sp ∷ for_words z ++ sign "(" ∷ for_left ps ∷ sp ∷ term "of" ∷ sp ∷ put (expr Assignment true Any) ∷ sign ")" ∷ sp ∷ put (statement r) ∷ []

-- whether the node has the form that the plain ways of its kind have
abbrev pub is_plainly : Kind → Flags → Bool
is_plainly ForOfStatement g = is_init g.form
is_plainly FunctionDeclaration g = is_init g.form
is_plainly _ g = true

pub plain_is_plainly : (k : Kind) → is_plainly k plain ≡ true
plain_is_plainly ForOfStatement = refl
plain_is_plainly _ = refl

-- the pieces of each behind its first token
abbrev pub behind_own : Bool → Kind → Parts → List Piece
behind_own r BlockStatement ps = behind_brace ps (lines (item r) ps)
behind_own r EmptyStatement ps = []
behind_own r VariableDeclaration ps = (sp ∷ declarators (declarator true true) ps) ++ end_of (last_edge ps) ∷ []
behind_own r IfStatement ps = behind_if r ps
behind_own r DoWhileStatement ps = sp ∷ put (statement r) ∷ sp ∷ term "while" ∷ sp ∷ sign "(" ∷ whole ∷ sign ")" ∷ ending of_do ∷ []
behind_own r WhileStatement ps = condition r []
behind_own r ForStatement ps = behind_for r ps
behind_own r ForInStatement ps = sp ∷ sign "(" ∷ for_left ps ∷ sp ∷ term "in" ∷ sp ∷ whole ∷ sign ")" ∷ sp ∷ put (statement r) ∷ []
behind_own r ForOfStatement ps = sp ∷ sign "(" ∷ for_left ps ∷ sp ∷ term "of" ∷ sp ∷ put (expr Assignment true Any) ∷ sign ")" ∷ sp ∷ put (statement r) ∷ []
behind_own r ContinueStatement ps = after_word ps (put name) ++ end_of Closed ∷ []
behind_own r BreakStatement ps = after_word ps (put name) ++ end_of Closed ∷ []
behind_own r ReturnStatement ps = after_word ps whole ++ end_of (last_edge ps) ∷ []
behind_own r ThrowStatement ps = sp ∷ unbroken ∷ whole ∷ end_of (last_edge ps) ∷ []
behind_own r SwitchStatement ps = behind_switch r ps
behind_own r TryStatement ps = behind_try r ps
behind_own r DebuggerStatement ps = end_of Closed ∷ []
behind_own r FunctionDeclaration ps = behind_function ps
behind_own r ClassDeclaration ps = behind_class ps
behind_own r _ ps = nothing

abbrev pub own_pieces : Bool → Kind → List ℕ → Parts → List Piece
own_pieces r k w ps = tok (own_class (begins_as k)) (own_text (begins_as k) w) ∷ behind_own r k ps

-- The positions of statements: whether all before it are directives, whether declarations may stand there, and `return`.
pub data Stands : Role → Bool → Bool → Bool → Type 0 where
  as_statement : {r : Bool} → Stands (statement r) false false r
  as_item : {r : Bool} → Stands (item r) false true r
  as_opening : {r : Bool} → Stands (opening r) true true r

-- The ways to spell a statement: one whose first token is its own, a `for await`, a function of another form, a label, an expression; in a
-- prologue a directive, or a group with a string alone.
pub data Stated (p d r : Bool) (k : Kind) (w : List ℕ) (g : Flags) (ps : Parts) (qs : List Piece) : Type 0 where
  by_own : is_own (begins_as k) ≡ true → may_stand d r (begins_as k) w ≡ true → is_plainly k g ≡ true → qs ≡ own_pieces r k w ps → Stated p d r k w g ps qs
  by_for : k ≡ ForOfStatement → is_init g.form ≡ false → qs ≡ for_of_pieces r g.form ps → Stated p d r k w g ps qs
  by_function : k ≡ FunctionDeclaration → d ≡ true → is_init g.form ≡ false → qs ≡ function_pieces g.form ps → Stated p d r k w g ps qs
  by_label : k ≡ LabeledStatement → qs ≡ put name ∷ sign ":" ∷ sp ∷ put (statement r) ∷ [] → Stated p d r k w g ps qs
  by_expression : k ≡ ExpressionStatement → g.directive ≡ false → (p ≡ true → first_is_string ps ≡ false) → qs ≡ put (expr Expression true Statement) ∷ end_of (last_edge ps) ∷ [] → Stated p d r k w g ps qs
  by_directive : k ≡ ExpressionStatement → p ≡ true → g.directive ≡ true → first_is_string ps ≡ true → qs ≡ put directive_string ∷ end_of Other ∷ [] → Stated p d r k w g ps qs
  by_group : k ≡ ExpressionStatement → p ≡ true → g.directive ≡ false → first_is_string ps ≡ true → qs ≡ put (expr Grouped true Any) ∷ end_of (last_edge ps) ∷ [] → Stated p d r k w g ps qs

-- the one way of a list
pub pieces_of_one : {x : Spelling} {qs : List Piece} → Among x (only qs) → x.pieces ≡ qs
pieces_of_one h = ap (λ (y : Spelling). y.pieces) (one h)

-- what may stand as a statement may stand as an item
may_more : (d r : Bool) (b : StatementStart) (w : List ℕ) → may_stand false r b w ≡ true → may_stand d r b w ≡ true
may_more false r b w h = h
may_more true r a_variable w h = among_by (λ v. among v ("var" ∷ "let" ∷ "const" ∷ []) ≡ true) w ("var" ∷ []) h (refl, tt)
may_more true r a_function w h = refl
may_more true r a_class w h = refl
may_more true r _ w h = h

module _ (r : Bool) (w : List ℕ) (g : Flags) where
  as_item_too : {k : Kind} {ps : Parts} {qs : List Piece} → Stated false false r k w g ps qs → Stated false true r k w g ps qs
  as_item_too (by_own h m f q) = by_own h (may_more true r _ w m) f q
  as_item_too (by_for k h q) = by_for k h q
  as_item_too (by_function k c h q) = cc
  as_item_too (by_label k q) = by_label k q
  as_item_too (by_expression k h f q) = by_expression k h f q
  as_item_too (by_directive k c h f q) = cc
  as_item_too (by_group k c h f q) = cc

  as_opening_too : {k : Kind} {ps : Parts} {qs : List Piece} → (k ≡ ExpressionStatement → ⊥) → Stated false true r k w g ps qs → Stated true true r k w g ps qs
  as_opening_too other (by_own h m f q) = by_own h m f q
  as_opening_too other (by_for k h q) = by_for k h q
  as_opening_too other (by_function k c h q) = by_function k c h q
  as_opening_too other (by_label k q) = by_label k q
  as_opening_too other (by_expression k h f q) = absurd (other k)
  as_opening_too other (by_directive k c h f q) = cc
  as_opening_too other (by_group k c h f q) = cc

module _ (r : Bool) (w : List ℕ) (g : Flags) {x : Spelling} where
  stated_if : (ps : Parts) → Among x (statements r IfStatement w g ps) → x.pieces ≡ own_pieces r IfStatement w ps
  unfolding statements
  stated_if (part t (part c (gap none))) h = pieces_of_one h
  stated_if (part t (part c (part a none))) h = of (ends_in_if c) h
    where
      of : (b : Bool) → Among x (cond b [] (only (term "if" ∷ condition r (sp ∷ term "else" ∷ sp ∷ put (statement r) ∷ [])))) → x.pieces ≡ term "if" ∷ cond b nothing (condition r (sp ∷ term "else" ∷ sp ∷ put (statement r) ∷ []))
      of true h = elim h [ ]
      of false h = pieces_of_one h
  stated_if _ h = elim h [ ]

  stated_try : (ps : Parts) → Among x (statements r TryStatement w g ps) → x.pieces ≡ own_pieces r TryStatement w ps
  unfolding statements
  stated_try (part b (part h (gap none))) k = pieces_of_one k
  stated_try (part b (part h (part f none))) k = pieces_of_one k
  stated_try (part b (gap (part f none))) k = pieces_of_one k
  stated_try _ k = elim k [ ]

  stated_switch : (ps : Parts) → Among x (statements r SwitchStatement w g ps) → x.pieces ≡ own_pieces r SwitchStatement w ps
  unfolding statements
  stated_switch ps h = of (nat_le (defaults (others ps)) 1) h
    where
      of : (b : Bool) → Among x (cond b (only (term "switch" ∷ sp ∷ sign "(" ∷ whole ∷ sign ")" ∷ sp ∷ sign "{" ∷ behind_brace (others ps) (lines (switch_case r) (others ps)))) []) →
          x.pieces ≡ term "switch" ∷ cond b (sp ∷ sign "(" ∷ whole ∷ sign ")" ∷ sp ∷ sign "{" ∷ behind_brace (others ps) (lines (switch_case r) (others ps))) nothing
      of true h = pieces_of_one h
      of false h = elim h [ ]

  stated_for : (z : Form) (ps : Parts) → g.form ≡ z → Among x (only (for_of_pieces r z ps)) → Stated false false r ForOfStatement w g ps x.pieces
  stated_for Init ps e h = by_own refl refl (ap is_init e) (pieces_of_one h)
  stated_for z ps e h = by_for refl (ap is_init e) (pieces_of_one h ∙ ap (λ y. for_of_pieces r y ps) (sym e))

  stated_function : (z : Form) (n : Tree) (ps : Parts) → g.form ≡ z → Among x (only (function_pieces z (part n ps))) → Stated false true r FunctionDeclaration w g (part n ps) x.pieces
  stated_function Init n ps e h = by_own refl refl (ap is_init e) (pieces_of_one h)
  stated_function z n ps e h = by_function refl refl (ap is_init e) (pieces_of_one h ∙ ap (λ y. function_pieces y (part n ps)) (sym e))

  -- each way of a statement is one of these
  pub stated_statement : (k : Kind) (ps : Parts) → Among x (statements r k w g ps) → Stated false false r k w g ps x.pieces
  unfolding statements
  stated_statement BlockStatement ps h = by_own refl refl refl (pieces_of_one h)
  stated_statement EmptyStatement ps h = by_own refl refl refl (pieces_of_one h)
  stated_statement VariableDeclaration ps h = cases {ys = []} (is w "var") h (λ b k. by_own refl (ap (λ c. c || false) b) refl (pieces_of_one k)) (λ b k. elim k [ ])
  stated_statement ExpressionStatement ps h = unless _ h (λ b k. by_expression refl b (λ c. cc) (pieces_of_one k))
  stated_statement IfStatement ps h = by_own refl refl refl (stated_if ps h)
  stated_statement DoWhileStatement ps h = by_own refl refl refl (pieces_of_one h)
  stated_statement WhileStatement ps h = by_own refl refl refl (pieces_of_one h)
  stated_statement ForStatement ps h = by_own refl refl refl (pieces_of_one h)
  stated_statement ForInStatement ps h = by_own refl refl refl (pieces_of_one h)
  stated_statement ForOfStatement ps h = stated_for g.form ps refl h
  stated_statement ContinueStatement ps h = by_own refl refl refl (pieces_of_one h)
  stated_statement BreakStatement ps h = by_own refl refl refl (pieces_of_one h)
  stated_statement ReturnStatement ps h = cases {ys = []} r h (λ b k. by_own refl b refl (pieces_of_one k)) (λ b k. elim k [ ])
  stated_statement ThrowStatement ps h = by_own refl refl refl (pieces_of_one h)
  stated_statement LabeledStatement ps h = by_label refl (pieces_of_one h)
  stated_statement SwitchStatement ps h = by_own refl refl refl (stated_switch ps h)
  stated_statement TryStatement ps h = by_own refl refl refl (stated_try ps h)
  stated_statement DebuggerStatement ps h = by_own refl refl refl (pieces_of_one h)
  stated_statement _ ps h = elim h [ ]

  -- each way of an item
  pub stated_item : (k : Kind) (ps : Parts) → Among x (items r k w g ps) → Stated false true r k w g ps x.pieces
  unfolding items
  stated_item FunctionDeclaration (part n ps) h = stated_function g.form n ps refl h
  stated_item FunctionDeclaration none h = elim h [ ]
  stated_item FunctionDeclaration (gap ps) h = elim h [ ]
  stated_item ClassDeclaration (part n ps) h = by_own refl refl refl (pieces_of_one h)
  stated_item ClassDeclaration none h = elim h [ ]
  stated_item ClassDeclaration (gap ps) h = elim h [ ]
  stated_item VariableDeclaration ps h = cases {ys = []} (among w ("var" ∷ "let" ∷ "const" ∷ [])) h (λ b k. by_own refl b refl (pieces_of_one k)) (λ b k. elim k [ ])
  stated_item k ps h = as_item_too r w g (stated_statement k ps h)

  -- each way of an item before which all are directives
  pub stated_opening : (k : Kind) (ps : Parts) → Among x (openings r k w g ps) → Stated true true r k w g ps x.pieces
  unfolding openings
  stated_opening ExpressionStatement ps h = cases g.directive h
      (λ b k. cases {ys = []} (first_is_string ps) k (λ c j. by_directive refl refl b c (pieces_of_one j)) (λ c j. elim j [ ]))
      (λ b k. cases (first_is_string ps) k (λ c j. by_group refl refl b c (pieces_of_one j)) (λ c j. by_expression refl b (λ z. c) (pieces_of_one j)))
  stated_opening k ps h = as_opening_too r w g (λ e. cc) (stated_item k ps h)

-- each way of a statement at its position
pub stated : {a : Role} {p d r : Bool} (k : Kind) (w : List ℕ) (g : Flags) (st en : ℕ) (ps : Parts) {x : Spelling} → Stands a p d r → Among x (spellings a (node k w g st en ps)) → Stated p d r k w g ps x.pieces
unfolding spellings
stated k w g st en ps (as_statement {r = r}) h = stated_statement r w g k ps h
stated k w g st en ps (as_item {r = r}) h = stated_item r w g k ps h
stated k w g st en ps (as_opening {r = r}) h = stated_opening r w g k ps h

module _ (r : Bool) (w : List ℕ) (g : Flags) where
  -- a statement whose first token is its own is a way of the table, where its pieces can run
  own_statement : (k : Kind) (ps : Parts) → is_own (begins_as k) ≡ true → is_plainly k g ≡ true → may_stand false r (begins_as k) w ≡ true → can_run (own_pieces r k w ps) ≡ true → Among (at Primary (own_pieces r k w ps)) (statements r k w g ps)
  unfolding statements
  own_statement BlockStatement ps h f m c = first
  own_statement EmptyStatement ps h f m c = first
  own_statement VariableDeclaration ps h f m c = in_true [] (is w "var") (or_false (is w "var") m) first
    where
      or_false : (b : Bool) → (b || false) ≡ true → b ≡ true
      or_false true e = refl
      or_false false e = cc
  own_statement IfStatement (part t (part c (gap none))) h f m can = first
  own_statement IfStatement (part t (part c (part a none))) h f m can = of (ends_in_if c) can
    where
      of : (b : Bool) → can_run (term "if" ∷ cond b nothing (condition r (sp ∷ term "else" ∷ sp ∷ put (statement r) ∷ []))) ≡ true →
          Among (at Primary (term "if" ∷ cond b nothing (condition r (sp ∷ term "else" ∷ sp ∷ put (statement r) ∷ [])))) (cond b [] (only (term "if" ∷ condition r (sp ∷ term "else" ∷ sp ∷ put (statement r) ∷ []))))
      of true c = cc
      of false c = first
  own_statement IfStatement _ h f m c = absurd (false≢true c)
  own_statement DoWhileStatement ps h f m c = first
  own_statement WhileStatement ps h f m c = first
  own_statement ForStatement ps h f m c = first
  own_statement ForInStatement ps h f m c = first
  own_statement ForOfStatement ps h f m c = of g.form f
    where
      of : (z : Form) → is_init z ≡ true → Among (at Primary (own_pieces r ForOfStatement w ps)) (only (for_of_pieces r z ps))
      of Init e = first
      of _ e = absurd (false≢true e)
  own_statement ContinueStatement ps h f m c = first
  own_statement BreakStatement ps h f m c = first
  own_statement ReturnStatement ps h f m c = in_true [] r m first
  own_statement ThrowStatement ps h f m c = first
  own_statement SwitchStatement ps h f m can = of (nat_le (defaults (others ps)) 1) can
    where
      of : (b : Bool) → can_run (term "switch" ∷ cond b (sp ∷ sign "(" ∷ whole ∷ sign ")" ∷ sp ∷ sign "{" ∷ behind_brace (others ps) (lines (switch_case r) (others ps))) nothing) ≡ true →
          Among (at Primary (term "switch" ∷ cond b (sp ∷ sign "(" ∷ whole ∷ sign ")" ∷ sp ∷ sign "{" ∷ behind_brace (others ps) (lines (switch_case r) (others ps))) nothing)) (cond b (only (term "switch" ∷ sp ∷ sign "(" ∷ whole ∷ sign ")" ∷ sp ∷ sign "{" ∷ behind_brace (others ps) (lines (switch_case r) (others ps)))) [])
      of true c = first
      of false c = cc
  own_statement TryStatement (part b (part h (gap none))) i f m c = first
  own_statement TryStatement (part b (part h (part l none))) i f m c = first
  own_statement TryStatement (part b (gap (part l none))) i f m c = first
  own_statement TryStatement _ i f m c = absurd (false≢true c)
  own_statement DebuggerStatement ps h f m c = first
  own_statement FunctionDeclaration ps h f m c = absurd (false≢true m)
  own_statement ClassDeclaration ps h f m c = absurd (false≢true m)
  own_statement _ ps h f m c = absurd (false≢true h)

  own_item : (k : Kind) (ps : Parts) → is_own (begins_as k) ≡ true → is_plainly k g ≡ true → may_stand true r (begins_as k) w ≡ true → can_run (own_pieces r k w ps) ≡ true → Among (at Primary (own_pieces r k w ps)) (items r k w g ps)
  unfolding items
  own_item FunctionDeclaration (part n ps) h f m c = of g.form f
    where
      of : (z : Form) → is_init z ≡ true → Among (at Primary (own_pieces r FunctionDeclaration w (part n ps))) (only (function_pieces z (part n ps)))
      of Init e = first
      of _ e = absurd (false≢true e)
  own_item FunctionDeclaration none h f m c = cc
  own_item FunctionDeclaration (gap ps) h f m c = cc
  own_item ClassDeclaration (part n ps) h f m c = first
  own_item ClassDeclaration none h f m c = cc
  own_item ClassDeclaration (gap ps) h f m c = cc
  own_item VariableDeclaration ps h f m c = in_true [] (among w ("var" ∷ "let" ∷ "const" ∷ [])) m first
  own_item ReturnStatement ps h f m c = own_statement ReturnStatement ps h f m c
  own_item k ps h f m c = own_statement k ps h f m c

  own_opening : (k : Kind) (ps : Parts) → is_own (begins_as k) ≡ true → is_plainly k g ≡ true → may_stand true r (begins_as k) w ≡ true → can_run (own_pieces r k w ps) ≡ true → Among (at Primary (own_pieces r k w ps)) (openings r k w g ps)
  unfolding openings
  own_opening ExpressionStatement ps h f m c = absurd (false≢true h)
  own_opening k ps h f m c = own_item k ps h f m c

-- at its position
pub own_listed : {a : Role} {p d r : Bool} (k : Kind) (w : List ℕ) (g : Flags) (st en : ℕ) (ps : Parts) → Stands a p d r → is_own (begins_as k) ≡ true → is_plainly k g ≡ true → may_stand d r (begins_as k) w ≡ true → can_run (own_pieces r k w ps) ≡ true →
    Among (at Primary (own_pieces r k w ps)) (spellings a (node k w g st en ps))
unfolding spellings
own_listed k w g st en ps (as_statement {r = r}) h f m c = own_statement r w g k ps h f m c
own_listed k w g st en ps (as_item {r = r}) h f m c = own_item r w g k ps h f m c
own_listed k w g st en ps (as_opening {r = r}) h f m c = own_opening r w g k ps h f m c

module _ (w : List ℕ) (g : Flags) (st en : ℕ) (ps : Parts) where
  -- a label is a way of the table
  pub label_listed : {a : Role} {p d r : Bool} → Stands a p d r → Among (at Primary (put name ∷ sign ":" ∷ sp ∷ put (statement r) ∷ [])) (spellings a (node LabeledStatement w g st en ps))
  unfolding spellings statements items openings
  label_listed as_statement = first
  label_listed as_item = first
  label_listed as_opening = first

  -- and an expression, but for a string in a prologue
  pub expression_listed : {a : Role} {p d r : Bool} → Stands a p d r → g.directive ≡ false → (p ≡ true → first_is_string ps ≡ false) →
      Among (at Primary (put (expr Expression true Statement) ∷ end_of (last_edge ps) ∷ [])) (spellings a (node ExpressionStatement w g st en ps))
  unfolding spellings statements items openings
  expression_listed as_statement h f = in_false [] g.directive h first
  expression_listed as_item h f = in_false [] g.directive h first
  expression_listed as_opening h f = in_false _ g.directive h (in_false _ (first_is_string ps) (f refl) first)

  -- in a prologue a directive, and a group with a string
  pub directive_listed : (r : Bool) → g.directive ≡ true → first_is_string ps ≡ true → Among (at Primary (put directive_string ∷ end_of Other ∷ [])) (spellings (opening r) (node ExpressionStatement w g st en ps))
  unfolding spellings openings
  directive_listed r h f = in_true _ g.directive h (in_true [] (first_is_string ps) f first)

  pub group_listed : (r : Bool) → g.directive ≡ false → first_is_string ps ≡ true → Among (at Primary (put (expr Grouped true Any) ∷ end_of (last_edge ps) ∷ [])) (spellings (opening r) (node ExpressionStatement w g st en ps))
  unfolding spellings openings
  group_listed r h f = in_false _ g.directive h (in_true _ (first_is_string ps) f first)
