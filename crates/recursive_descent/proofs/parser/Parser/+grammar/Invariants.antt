use Rattle.std.proofs.Common.{◌≡◌, ◌-◌, ◌+◌, ◌*◌, ◌≤◌, ◌<◌, length, ℕ, List, []}
use Rattle.std.specs.Prelude.{◌&&◌, map, take, drop}
use Rattle.tree.specs.Tree.{height, parts_height, Tree, Parts, push, join}
use Rattle.recursive_descent.specs.Soundness.{Adds, ReadAt}
use Rattle.covers.specs.declared.list.ListKind.TheVariants.{ParenthesizedItems}
use Rattle.recursive_descent.specs.SoundnessOfLists.{SeenRight}
use Rattle.recursive_descent.specs.SoundnessOfStatements.{StatementsAt, BuiltAt}
use Rattle.parser_tables.specs.Outcomes.{BeginsBy}
use Rattle.parser_tables.specs.StatementSymbols.{piece_of}
use Rattle.recursive_descent.proofs.sound_subscripts.OptionalChains.{ChainedOn}
use Rattle.recursive_descent.proofs.sound_statements.StatementLists.{all_directive}
use Rattle.recursive_descent.proofs.sound_lists.WholeLists.{FurtherOn}
use Rattle.recursive_descent.proofs.parser.Parser.+grammar.Given as goal
use Rattle.tree.specs.declared.kind.Pair.{Pair}
use Rattle.language.specs.Token.{Token}
use Rattle.language.specs.Covers.{Reading}
use Rattle.recursive_descent.specs.Completeness.{GivenAs}
use Rattle.recursive_descent.specs.Stages.{Staged}
use Rattle.recursive_descent.specs.Spelled.{OfLanguage, AllOfLanguage}
use Rattle.recursive_descent.proofs.complete_subscripts.ChainsGiven.{ChainAgrees}
use Rattle.recursive_descent.proofs.complete_lists.ListLoop.{Reaches}
use Rattle.recursive_descent.proofs.complete_statements.SymbolsLeft.{LeftOf}
use Rattle.recursive_descent.proofs.complete_statements.StatementListsGiven.{AllLeft}

abbrev pub decreases-keyword_expression : goal.decreases-keyword_expression
decreases-keyword_expression l = 12 * (length l.self.now.cursor.text.bytes - l.self.now.cursor.last.stop) + 11

abbrev pub decreases-super_expression : goal.decreases-super_expression
decreases-super_expression l = 12 * (length l.self.now.cursor.text.bytes - l.self.now.cursor.last.stop) + 10

abbrev pub decreases-new_expression : goal.decreases-new_expression
decreases-new_expression l = 12 * (length l.self.now.cursor.text.bytes - l.self.now.cursor.last.stop) + 10

abbrev pub decreases-import_call : goal.decreases-import_call
decreases-import_call l = 12 * (length l.self.now.cursor.text.bytes - l.self.now.cursor.last.stop) + 10

abbrev pub decreases-yield_expression : goal.decreases-yield_expression
decreases-yield_expression l = 12 * (length l.self.now.cursor.text.bytes - l.self.now.cursor.last.stop) + 10

abbrev pub decreases-private_in : goal.decreases-private_in
decreases-private_in l = 12 * (length l.self.now.cursor.text.bytes - l.self.now.cursor.last.stop) + 10

abbrev pub decreases-async_expression : goal.decreases-async_expression
decreases-async_expression l = 12 * (length l.self.now.cursor.text.bytes - l.self.now.cursor.last.stop) + 10

abbrev pub decreases-function_or_class : goal.decreases-function_or_class
decreases-function_or_class l = 12 * (length l.self.now.cursor.text.bytes - l.self.now.cursor.last.stop) + 9

abbrev pub decreases-read_symbols : goal.decreases-read_symbols
decreases-read_symbols l = 12 * (length l.self.now.cursor.text.bytes - l.self.now.cursor.last.stop) + 8

abbrev pub decreases-list : goal.decreases-list
decreases-list l = 12 * (length l.self.now.cursor.text.bytes - l.self.now.cursor.last.stop) + 7

abbrev pub decreases-statements : goal.decreases-statements
decreases-statements l = 12 * (length l.self.now.cursor.text.bytes - l.self.now.cursor.last.stop) + 7

abbrev pub decreases-item : goal.decreases-item
decreases-item l = 12 * (length l.self.now.cursor.text.bytes - l.self.now.cursor.last.stop) + 6

abbrev pub decreases-statement : goal.decreases-statement
decreases-statement l = 12 * (length l.self.now.cursor.text.bytes - l.self.now.cursor.last.stop) + 6

abbrev pub decreases-for_await : goal.decreases-for_await
decreases-for_await l = 12 * (length l.self.now.cursor.text.bytes - l.self.now.cursor.last.stop) + 6

abbrev pub decreases-special_item : goal.decreases-special_item
decreases-special_item l = 12 * (length l.self.now.cursor.text.bytes - l.self.now.cursor.last.stop) + 5

abbrev pub decreases-infix : goal.decreases-infix
decreases-infix l = 12 * (length l.self.now.cursor.text.bytes - l.self.now.cursor.last.stop) + 4

abbrev pub decreases-expression : goal.decreases-expression
decreases-expression l = 12 * (length l.self.now.cursor.text.bytes - l.self.now.cursor.last.stop) + 4

abbrev pub decreases-declarator : goal.decreases-declarator
decreases-declarator l = 12 * (length l.self.now.cursor.text.bytes - l.self.now.cursor.last.stop) + 4

abbrev pub decreases-optional_chain : goal.decreases-optional_chain
decreases-optional_chain l = 12 * (length l.self.now.cursor.text.bytes - l.self.now.cursor.last.stop) + 3

abbrev pub decreases-leftmost_operand : goal.decreases-leftmost_operand
decreases-leftmost_operand l = 12 * (length l.self.now.cursor.text.bytes - l.self.now.cursor.last.stop) + 3

abbrev pub decreases-subscript : goal.decreases-subscript
decreases-subscript l = 12 * (length l.self.now.cursor.text.bytes - l.self.now.cursor.last.stop) + 2

abbrev pub decreases-parenthesized : goal.decreases-parenthesized
decreases-parenthesized l = 12 * (length l.self.now.cursor.text.bytes - l.self.now.cursor.last.stop) + 1

abbrev pub decreases-arrow_function : goal.decreases-arrow_function
decreases-arrow_function l = 12 * (length l.self.now.cursor.text.bytes - l.self.now.cursor.last.stop) + 1

abbrev pub decreases-binary_rest : goal.decreases-binary_rest
decreases-binary_rest l = 12 * (length l.self.now.cursor.text.bytes - l.self.now.cursor.last.stop) + 1

abbrev pub decreases-other_subscript : goal.decreases-other_subscript
decreases-other_subscript l = 12 * (length l.self.now.cursor.text.bytes - l.self.now.cursor.last.stop) + 1

abbrev pub decreases-call_expression : goal.decreases-call_expression
decreases-call_expression l = 12 * (length l.self.now.cursor.text.bytes - l.self.now.cursor.last.stop) + 1

abbrev pub decreases-index_member : goal.decreases-index_member
decreases-index_member l = 12 * (length l.self.now.cursor.text.bytes - l.self.now.cursor.last.stop) + 1

abbrev pub decreases-property_or_member : goal.decreases-property_or_member
decreases-property_or_member l = 12 * (length l.self.now.cursor.text.bytes - l.self.now.cursor.last.stop) + 1

abbrev pub decreases-property_value : goal.decreases-property_value
decreases-property_value l = 12 * (length l.self.now.cursor.text.bytes - l.self.now.cursor.last.stop) + 1

abbrev pub decreases-update_or_comma : goal.decreases-update_or_comma
decreases-update_or_comma l = 12 * (length l.self.now.cursor.text.bytes - l.self.now.cursor.last.stop) + 1

abbrev pub decreases-bracketed_list : goal.decreases-bracketed_list
decreases-bracketed_list l = 12 * (length l.self.now.cursor.text.bytes - l.self.now.cursor.last.stop) + 1

abbrev pub decreases-one_token : goal.decreases-one_token
decreases-one_token l = 12 * (length l.self.now.cursor.text.bytes - l.self.now.cursor.last.stop) + 1

abbrev pub decreases-prefix_expression : goal.decreases-prefix_expression
decreases-prefix_expression l = 12 * (length l.self.now.cursor.text.bytes - l.self.now.cursor.last.stop)

abbrev pub decreases-spread_item : goal.decreases-spread_item
decreases-spread_item l = 12 * (length l.self.now.cursor.text.bytes - l.self.now.cursor.last.stop) + 1

abbrev pub decreases-arrow_of_name : goal.decreases-arrow_of_name
decreases-arrow_of_name l = 12 * (length l.self.now.cursor.text.bytes - l.self.now.cursor.last.stop) + 2

abbrev pub decreases-async_call : goal.decreases-async_call
decreases-async_call l = 12 * (length l.self.now.cursor.text.bytes - l.self.now.cursor.last.stop) + 1

abbrev pub decreases-arguments : goal.decreases-arguments
decreases-arguments l = 12 * (length l.self.now.cursor.text.bytes - l.self.now.cursor.last.stop) + 0

abbrev pub decreases-property_name : goal.decreases-property_name
decreases-property_name l = 12 * (length l.self.now.cursor.text.bytes - l.self.now.cursor.last.stop) + 0

abbrev pub decreases-field : goal.decreases-field
decreases-field l = 12 * (length l.self.now.cursor.text.bytes - l.self.now.cursor.last.stop) + 0

abbrev pub decreases-static_block : goal.decreases-static_block
decreases-static_block l = 12 * (length l.self.now.cursor.text.bytes - l.self.now.cursor.last.stop) + 0

abbrev pub invariant-expression-turns : goal.invariant-expression-turns
invariant-expression-turns l = record {
  same : l.self.cursor.text ≡ l.fn.self.cursor.text;
  forward : l.fn.self.cursor.last.stop < l.self.cursor.last.stop;
  within : l.fn.self.cursor.last.stop < length l.fn.self.cursor.text.bytes;
  derived : Adds l.fn.self.cursor l.self.cursor l.fn.self.pairs.items l.self.pairs.items (ReadAt l.fn.self.cursor.text l.fn.position l.part);
  waits : l.self.tree ≡ push l.fn.self.tree l.part.cover.node;
  low : height l.part.cover.node ≤ l.fn.high;
  own : OfLanguage l.fn.self.cursor.text l.part.cover.node;
  complete : (a : Reading) (o : ℕ) (n : Tree) (to : Token) (P : List Pair) → GivenAs l.fn.self.cursor.text l.fn.position o n l.fn.self.cursor.last to P a → OfLanguage l.fn.self.cursor.text n →
      Staged l.fn.self.cursor.text l.fn.position o l.fn.self.cursor.last to P l.part l.self.cursor.last [] l.fn.self.pairs.items l.self.pairs.items a n;
}

abbrev pub decreases-expression-turns : goal.decreases-expression-turns
decreases-expression-turns l = length l.self.cursor.text.bytes - l.self.cursor.last.stop

abbrev pub invariant-optional_chain-links : goal.invariant-optional_chain-links
invariant-optional_chain-links l = record {
  same : l.self.cursor.text ≡ l.fn.self.cursor.text;
  forward : l.fn.self.cursor.last.stop < l.self.cursor.last.stop;
  within : l.fn.self.cursor.last.stop < length l.fn.self.cursor.text.bytes;
  derived : Adds l.fn.self.cursor l.self.cursor l.fn.self.pairs.items l.self.pairs.items (ChainedOn l.fn.self.cursor.text l.fn.left l.part);
  waits : (base : Parts) → l.fn.self.tree ≡ push base l.fn.left.cover.node → l.self.tree ≡ push base l.part.cover.node;
  own : OfLanguage l.fn.self.cursor.text l.fn.left.cover.node → OfLanguage l.fn.self.cursor.text l.part.cover.node;
  agrees : ChainAgrees l.fn.self.cursor l.self.cursor l.fn.self.pairs.items l.self.pairs.items l.fn.left l.part;
}

abbrev pub decreases-optional_chain-links : goal.decreases-optional_chain-links
decreases-optional_chain-links l = length l.self.cursor.text.bytes - l.self.cursor.last.stop

abbrev pub invariant-list-items : goal.invariant-list-items
invariant-list-items l = record {
  same : l.self.cursor.text ≡ l.fn.self.cursor.text;
  forward : l.fn.self.cursor.last.stop ≤ l.self.cursor.last.stop;
  derived : Adds l.fn.self.cursor l.self.cursor l.fn.self.pairs.items l.self.pairs.items (FurtherOn l.fn.self.cursor.text l.fn.list l.list);
  waits : (base : Parts) → l.fn.self.tree ≡ join base l.fn.list.nodes → l.self.tree ≡ join base l.list.nodes;
  listed : l.list.listed ≡ l.fn.list.listed;
  start : l.list.span.start ≡ l.fn.list.span.start;
  low : parts_height l.fn.list.nodes ≤ l.fn.high → parts_height l.list.nodes ≤ l.fn.high;
  own : AllOfLanguage l.fn.self.cursor.text l.fn.list.nodes → AllOfLanguage l.fn.self.cursor.text l.list.nodes;
  seen : SeenRight l.fn.list → SeenRight l.list;
  begins : l.fn.list.listed ≡ ParenthesizedItems → BeginsBy l.fn.self.cursor l.list.inside.start;
  complete : Reaches l.fn.self.cursor.text l.fn.list l.list l.fn.self.cursor l.self.cursor l.fn.self.pairs.items l.self.pairs.items;
}

abbrev pub decreases-list-items : goal.decreases-list-items
decreases-list-items l = length l.self.cursor.text.bytes - l.self.cursor.last.stop

abbrev pub invariant-read_symbols-each : goal.invariant-read_symbols-each
invariant-read_symbols-each l = record {
  same : l.self.cursor.text ≡ l.fn.self.cursor.text;
  forward : l.fn.self.cursor.last.stop ≤ l.self.cursor.last.stop;
  derived : Adds l.fn.self.cursor l.self.cursor l.fn.self.pairs.items l.self.pairs.items (BuiltAt l.fn.self.cursor.text l.fn.context.returns (map piece_of (take l.piece-index l.pieces)) l.fn.built l.built);
  waits : (base : Parts) → l.fn.self.tree ≡ join base l.fn.built.nodes → l.self.tree ≡ join base l.built.nodes;
  low : parts_height l.fn.built.nodes ≤ l.fn.high → parts_height l.built.nodes ≤ l.fn.high;
  own : AllOfLanguage l.fn.self.cursor.text l.fn.built.nodes → AllOfLanguage l.fn.self.cursor.text l.built.nodes;
  complete : LeftOf l.fn.context.returns (map piece_of l.pieces) (map piece_of (drop l.piece-index l.pieces)) l.fn.self.cursor l.self.cursor l.fn.self.pairs.items l.self.pairs.items l.fn.built l.built;
}

abbrev pub invariant-statements-statements : goal.invariant-statements-statements
invariant-statements-statements l = record {
  same : l.self.cursor.text ≡ l.fn.self.cursor.text;
  forward : l.fn.self.cursor.last.stop ≤ l.self.cursor.last.stop;
  derived : Adds l.fn.self.cursor l.self.cursor l.fn.self.pairs.items l.self.pairs.items (StatementsAt l.fn.self.cursor.text l.fn.context l.nodes);
  waits : l.self.tree ≡ join l.fn.self.tree l.nodes;
  items : l.context.is_item ≡ l.fn.context.is_item;
  returns : l.context.returns ≡ l.fn.context.returns;
  before : l.context.is_prologue ≡ (l.fn.context.is_prologue && all_directive l.nodes);
  low : parts_height l.nodes ≤ l.fn.high;
  own : AllOfLanguage l.fn.self.cursor.text l.nodes;
  left : AllLeft l.fn.self.cursor l.self.cursor l.fn.self.pairs.items l.self.pairs.items l.fn.until l.fn.context l.context l.nodes;
}

abbrev pub decreases-statements-statements : goal.decreases-statements-statements
decreases-statements-statements l = length l.self.cursor.text.bytes - l.self.cursor.last.stop
