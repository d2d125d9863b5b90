-- What each function that reads makes of a derivation that is given: s is where it begins and e where it ends, the lists are the pairs before and behind it.
use Rattle.std.specs.Prelude.{◌≡◌, ℕ, suc, ◌≤◌, Bool, true, false, List, [], Result, Some, map, codes, IsTrue, ◌+◌, nat_le, ◌-◌}
use Rattle.source_text.specs.declared.fault.Fault.{Fault}
use Rattle.tokens.specs.declared.token.TokenClass.TheVariants.{Punctuator}
use Rattle.tokens.specs.declared.token.Token.{Token as Scanned}
use Rattle.tokens.specs.Scanned.{token_of}
use Rattle.token_cursor.specs.CursorState.{CursorState}
use Rattle.tree.specs.declared.kind.Kind.TheVariants.{ArrowFunctionExpression, ChainExpression}
use Rattle.tree.specs.declared.kind.Flags.{Flags}
use Rattle.tree.specs.declared.kind.Pair.{Pair}
use Rattle.tree.specs.Tree.{Tree, node, plain, Parts, part, none, join, push, height, parts_height, kind_of, part_count}
use Rattle.language.specs.declared.Rank.{Rank}
use Rattle.language.specs.declared.Rank.TheVariants.{Assignment, Call, LeftHandSide}
use Rattle.language.specs.declared.Start.TheVariants.{Any}
use Rattle.language.specs.declared.Edge.{Edge}
use Rattle.language.specs.Vocabulary.{takes, is_rest}
use Rattle.language.specs.Token.{Token, as_read}
use Rattle.language.specs.Pieces.{Role, settle_piece}
use Rattle.language.specs.Expressions.{arguments, arrow_end}
use Rattle.language.specs.Statements.{prologue}
use Rattle.language.specs.Covers.{Reading, as_expression}
use Rattle.covers.specs.declared.list.ListItem.{ListItem}
use Rattle.covers.specs.declared.list.ListKind.TheVariants as listed
use Rattle.covers.specs.declared.list.ListBuilder.{ListBuilder as ListOf}
use Rattle.covers.specs.Lists.{is_ended}
use Rattle.parser_tables.specs.declared.functions_and_classes.FunctionOrClass.{FunctionOrClass}
use Rattle.recursive_descent.specs.declared.subscripts.Subscript.{Subscript}
use Rattle.parser_tables.specs.declared.expression_starts.ExpressionStart.{ExpressionStart}
use Rattle.grammar.specs.declared.infix.InfixOperator.{InfixOperator}
use Rattle.parser_tables.specs.declared.operand.Operand.{Operand}
use Rattle.parser_tables.specs.declared.symbol_lists.PartialStatement.{PartialStatement}
use Rattle.parser_tables.specs.declared.expression_context.ExpressionContext.{ExpressionContext}
use Rattle.parser_tables.specs.declared.statements.StatementContext.{StatementContext}
use Rattle.parser_tables.specs.declared.statements.StatementListEnd.{StatementListEnd}
use Rattle.recursive_descent.specs.Soundness.{RunsIn, anywhere, read_as, all_read_as}
use Rattle.recursive_descent.specs.SoundnessOfLists.{is_whole, item_fits, item_role, defined, has_reading, may_trail, case_count}
use Rattle.recursive_descent.specs.SoundnessOfStatements.{context_role, closure_pieces, is_declared, begins_with_part}
use Rattle.recursive_descent.specs.Completeness.{Agrees, Room, EndsWith, StopsIn, FinishedIn, DeclaredIn, GivenAs, IsRead, FirstAs, IsFirst, SidesGiven, subscript_after, ChainGiven}
use Rattle.recursive_descent.specs.CompletenessOfLists.{ListGiven, declarator_as, DefinitionEnds, LoneRead, is_left, is_lone, default_seen, ItemGiven, ItemRead}
use Rattle.recursive_descent.specs.CompletenessOfStatements.{PiecesGiven, has_edges}
use Rattle.recursive_descent.specs.Subscripts.{link_kind, link_flags, link_rank, is_calling}
use Rattle.parser_tables.specs.ExpressionStarts.{coded_in, is_by_word}
use Rattle.parser_tables.specs.StatementSymbols as Piece
use Rattle.parser_tables.specs.StatementSymbols.{function_or_class_kind, function_or_class_flags}
use Rattle.token_cursor.specs.Seen.{Sees, SeesBy}
use Rattle.recursive_descent.specs.LeftOperands.{left_of, takes_left, operator_text_of}
use Rattle.parser_tables.specs.Tests.{ends}
use Rattle.tokens.specs.declared.token.Goal.TheVariants.{Div}
use Rattle.language.specs.declared.Edge.TheVariants.{Other}
use Rattle.parser_tables.specs.Operands.{plain_part}
use Rattle.tree.specs.declared.kind.Form.{Form}
use Rattle.recursive_descent.specs.declared.properties.PropertyName.{PropertyName}
use Rattle.recursive_descent.specs.declared.properties.Modifiers.{Modifiers}
use Rattle.recursive_descent.specs.CompletenessOfProperties.{NameGiven, TokenIs, ValueGiven}
use Rattle.token_cursor.specs.SourceText.{SeenNext}
use Rattle.recursive_descent.specs.Spelled.{AllOfLanguage, OfLanguage, SpellsIn}

module _ (s e : CursorState) (old new : List Pair) (high : ℕ) where
  abbrev pub ExpressionComplete : ExpressionContext → Result Operand Fault → Type 0
  ExpressionComplete p result = (a : Reading) (o : ℕ) (n : Tree) (to : Token) (P : List Pair) → GivenAs s.text p o n s.last to P a → OfLanguage s.text n → Agrees (Room s o (height n) high) (λ r. IsRead a r n × EndsWith s e old new to P) result

  abbrev pub OperandComplete : ExpressionContext → Result Operand Fault → Type 0
  OperandComplete p result = (a : Reading) (h : Rank) (o : ℕ) (t : Tree) (to : Token) (P : List Pair) → FirstAs s.text p o t s.last to P a h → OfLanguage s.text t → Agrees (Room s o (height t) high) (λ r. IsFirst a h r t × EndsWith s e old new to P) result

  abbrev pub ParenthesizedComplete : ExpressionContext → Result Operand Fault → Type 0
  ParenthesizedComplete p result = Sees s.text Punctuator (codes "(") s.last → OperandComplete p result

  -- behind a word that was passed
  abbrev pub KeywordExpressionComplete : Scanned → ExpressionStart → ExpressionContext → Result Operand Fault → Type 0
  KeywordExpressionComplete t opening p result = (a : Reading) (h : Rank) (o : ℕ) (n : Tree) (from to : Token) (P : List Pair) → SeenNext s.text from (as_read (token_of t)) s.last → coded_in s.text.language (as_read (token_of t)) ≡ Some opening → is_by_word opening ≡ true →
      FirstAs s.text p o n from to P a h → OfLanguage s.text n → Agrees (Room s o (height n) high) (λ r. IsFirst a h r n × EndsWith s e old new to P) result

  -- an arrow function behind its parameters, which begin here
  abbrev pub ArrowComplete : Parts → ℕ → Form → Bool → Result Operand Fault → Type 0
  ArrowComplete parameters start x i result = (flags : Flags) (body : Tree) (o : ℕ) (to : Token) (P : List Pair) → flags ≡ record plain { expression = flags.expression; form = x } → RunsIn s.text o (map (settle_piece Assignment i Any) (arrow_end flags)) (part body none) s.last to P →
      (flags.expression ≡ true → StopsIn s.text Assignment i body to) → OfLanguage s.text body →
      Agrees (Room s o (height (node ArrowFunctionExpression [] flags start to.stop (push parameters body))) high) (λ r. (r.cover.node ≡ node ArrowFunctionExpression [] flags start to.stop (push parameters body)) × EndsWith s e old new to P) result

  -- an operator that stands ahead, with its right sides; its left side fits
  abbrev pub BinaryRestComplete : Operand → Scanned → InfixOperator → Bool → Result Operand Fault → Type 0
  BinaryRestComplete left t operator i result = (sides : Parts) (o : ℕ) (from to : Token) (P : List Pair) → SeenNext s.text s.last (as_read (token_of t)) from → SidesGiven s.text i o from to operator (left_of operator left).right sides P → takes_left operator left ≡ true → AllOfLanguage s.text sides →
      let made = node (left_of operator left).kind (operator_text_of (left_of operator left).kind t.text.now) plain left.start to.stop (part (left_of operator left).node sides) in
      Agrees (Room s o (height made) high) (λ r. (r.cover.node ≡ made) × (r.cover.shape ≡ (left_of operator left).shape) × EndsWith s e old new to P) result

  -- a member, arguments or a template behind an expression that may have them
  abbrev pub SubscriptComplete : Operand → Result Operand Fault → Type 0
  SubscriptComplete left result = (link : Subscript) (optional : Bool) (ps : Parts) (o : ℕ) (to : Token) (P : List Pair) → RunsIn s.text o (anywhere (subscript_after link optional ps)) ps s.last to P → IsTrue (takes Call left.rank) → left.cover.shape.is_expression ≡ true → AllOfLanguage s.text ps →
      let made = node (link_kind link) [] (link_flags link optional) left.start to.stop (part left.cover.node ps) in
      Agrees (Room s o (height made) high) (λ r. (r ≡ plain_part made (link_rank link (is_calling left.rank)) Other) × EndsWith s e old new to P) result

  -- a chain from its base on
  abbrev pub ChainComplete : Operand → Result Operand Fault → Type 0
  ChainComplete left result = (n : Tree) (o : ℕ) (to : Token) (P : List Pair) → ChainGiven s.text o left.start left.cover.node n s.last to P → IsTrue (takes Call left.rank) → left.cover.shape.is_expression ≡ true → OfLanguage s.text n →
      let made = node ChainExpression [] plain left.start to.stop (part n none) in
      Agrees (Room s o (height made) high) (λ r. (r ≡ plain_part made LeftHandSide Other) × EndsWith s e old new to P) result

  abbrev pub ArgumentsComplete : Result Parts Fault → Type 0
  ArgumentsComplete result = (ps : Parts) (o : ℕ) (to : Token) (P : List Pair) → RunsIn s.text o (anywhere (arguments ps)) ps s.last to P → AllOfLanguage s.text ps → Agrees (Room s o (parts_height ps) high) (λ nodes. (nodes ≡ ps) × EndsWith s e old new to P) result

  abbrev pub ListComplete : ListOf → Result ListOf Fault → Type 0
  ListComplete l result = (a : Reading) (o : ℕ) (ps : Parts) (to : Token) (P : List Pair) → ListGiven s.text l a o ps s.last to P → AllOfLanguage s.text ps →
      Agrees (Room s o (parts_height ps) high) (λ whole. (is_whole whole a ≡ true) × (all_read_as a whole.nodes ≡ join (all_read_as a l.nodes) ps) × EndsWith s e old new to P × (l.listed ≡ listed.ParenthesizedItems → a ≡ as_expression → LoneRead l → LoneRead whole)) result

  -- one item of a list that isn't ended, with which the list is k; a default is in no list a second time
  abbrev pub ItemComplete : ListOf → ListOf → Result (Unit {0}) Fault → Type 0
  ItemComplete l k result = (a : Reading) (o : ℕ) (last : Bool) (one : Parts) (to : Token) (P : List Pair) → is_ended l.listed l.seen (part_count l.nodes) ≡ false → is_left l a ≡ true → is_lone l.listed a (part_count l.nodes + part_count one) ≡ true → nat_le (case_count l.listed one + default_seen l.listed l.seen.is_flagged) 1 ≡ true →
      ItemGiven s.text l.listed a o s.last to P last one → AllOfLanguage s.text one → Agrees (Room s o (parts_height one) high) (λ _. ItemRead a l k last one × EndsWith s e old new to P) result

  abbrev pub DeclaratorComplete : Bool → Result ListItem Fault → Type 0
  DeclaratorComplete i result = (a : Reading) (o : ℕ) (n : Tree) (to : Token) (P : List Pair) → SpellsIn s.text o (declarator_as i a) n s.last to P → DeclaredIn s.text i n to → OfLanguage s.text n →
      Agrees (Room s o (height n) high) (λ item. (item_fits (listed.Declarators i) item a ≡ true) × (item.shape.is_expression ≡ true) × (item.node ≡ n) × EndsWith s e old new to P) result

  -- a property of an object or its pattern, or a member of a class
  abbrev pub PropertyOrMemberComplete : Bool → Result ListItem Fault → Type 0
  PropertyOrMemberComplete in_class result = (a : Reading) (o : ℕ) (r : Role) (n : Tree) (to : Token) (P : List Pair) → has_reading (defined in_class) a ≡ true → item_role (defined in_class) a (kind_of n) ≡ Some r → SpellsIn s.text o r n s.last to P → DefinitionEnds s.text in_class to → OfLanguage s.text n →
      Agrees (Room s o (height n) high) (λ item. (item_fits (defined in_class) item a ≡ true) × (read_as a item.node ≡ n) × (is_rest (kind_of n) ≡ false → may_trail item a ≡ true) × EndsWith s e old new to P) result

  -- the name of one, with the words before it
  abbrev pub NameComplete : Bool → Result (Modifiers × PropertyName) Fault → Type 0
  NameComplete in_class result = (is_static : Bool) (f : Form) (computed : Bool) (o : ℕ) (k : Tree) (to : Token) (P : List Pair) → NameGiven s.text in_class is_static f computed o k s.last to P → OfLanguage s.text k →
      Agrees (Room s o (height k) high) (λ named. (named.0.is_static ≡ is_static) × (named.0.form ≡ f) × (named.1.computed ≡ computed) × (computed ≡ false → TokenIs s.text named.1.token to) × (e.last ≡ to)) result

  -- what follows the key of a property that is no method; where it ends, and that it fits
  abbrev pub ValueComplete : PropertyName → Result ListItem Fault → Type 0
  ValueComplete key result = (a : Reading) (o levels : ℕ) (to : Token) → height key.node ≤ high - 1 → (key.computed ≡ false → TokenIs s.text key.token s.last) → ValueGiven s.text key.computed a o levels s.last to →
      Agrees (Room s o levels high) (λ item. (item_fits listed.Properties item a ≡ true) × (item.spreads ≡ false) × (e.last ≡ to)) result

  -- a function or a class behind its word, which begins here
  abbrev pub FunctionOrClassComplete : FunctionOrClass → ℕ → Result Tree Fault → Type 0
  FunctionOrClassComplete c start result = (ps : Parts) (o : ℕ) (to : Token) (P : List Pair) → RunsIn s.text o (anywhere (closure_pieces c ps)) ps s.last to P → (is_declared c ≡ true → begins_with_part ps ≡ true) → AllOfLanguage s.text ps →
      Agrees (Room s o (suc (parts_height ps)) high) (λ n. (n ≡ node (function_or_class_kind c) [] (function_or_class_flags c) start to.stop ps) × EndsWith s e old new to P) result

  abbrev pub SymbolsComplete : List Piece.Piece → Bool → PartialStatement → PartialStatement → Result (Unit {0}) Fault → Type 0
  SymbolsComplete pieces r b c result = (o : ℕ) (y : Edge) (ps : Parts) (to : Token) (P : List Pair) → has_edges pieces ≡ true → PiecesGiven s.text r o pieces s.last to b.edge y ps P → AllOfLanguage s.text ps →
      Agrees (Room s o (parts_height ps) high) (λ _. (c.nodes ≡ join b.nodes ps) × EndsWith s e old new to P) result

  -- the items of a script, a body, a block or a case, up to where they end
  abbrev pub StatementsComplete : StatementListEnd → StatementContext → Result Parts Fault → Type 0
  StatementsComplete until c result = (ps : Parts) (o : ℕ) (to : Token) (P : List Pair) → c.is_item ≡ true → RunsIn s.text o (anywhere (prologue c.returns c.is_prologue [] [] ps)) ps s.last to P → SeesBy s.text Div (ends until) to → AllOfLanguage s.text ps →
      Agrees (Room s o (parts_height ps) high) (λ nodes. (nodes ≡ ps) × EndsWith s e old new to P) result

  abbrev pub StatementComplete : StatementContext → Result Tree Fault → Type 0
  StatementComplete c result = (o : ℕ) (n : Tree) (to : Token) (P : List Pair) → SpellsIn s.text o (context_role c) n s.last to P → FinishedIn s.text n to → OfLanguage s.text n →
      Agrees (Room s o (height n) high) (λ m. (m ≡ n) × EndsWith s e old new to P) result
