-- What the functions of the cycle derive.
use Rattle.recursive_descent.proofs.parser.Parser.+grammar.Goals as goal
use Rattle.parser_tables.specs.declared.statements.StatementStart.TheVariants as code
use Rattle.parser_tables.specs.declared.statements.StatementKind.TheVariants as headed
use Rattle.std.proofs.Common.{rules, ◌≡◌, ◌≤◌, true, false, sym, refl, ap, subst, ◌∙◌, arith, ◌+◌, ◌-◌, ◌<◌, length, set, Some, Ok, Err, suc, ◌⊎◌, inl, inr}
use Rattle.std.specs.Prelude.{◌&&◌, not, [], Some, true, false, codes, IsTrue, IfOk, None, map}
use Rattle.std.proofs.lemmas.Bool.{false≢true}
use Rattle.tree.specs.declared.kind.Kind.TheVariants.{ForOfStatement, PropertyDefinition, StaticBlock, ChainExpression, SwitchCase, VariableDeclarator, ArrowFunctionExpression, Identifier, Property, AssignmentExpression, UpdateExpression, SequenceExpression, BlockStatement, CatchClause, CallExpression, ImportExpression, MemberExpression, NewExpression}
use Rattle.tree.specs.Tree.{Parts, node, plain, kind_of, part, gap, none, push, push_gap, height, parts_height, join}
use Rattle.tokens.specs.Scanned.{token_of}
use Rattle.tokens.specs.declared.token.TokenClass.TheVariants.{IdentifierName, Punctuator}
use Rattle.covers.specs.Shapes.{initialized, is_target, value}
use Rattle.language.specs.Token.{same_class, Token, as_read}
use Rattle.token_cursor.specs.Seen.{is_free_name, ReadsHere, Misses, Sees}
use Rattle.recursive_descent.specs.SoundnessOfLists.{ValueAt, ItemReads, SeenRight, asks_edge, is_chunked, ClosedBy}
use Rattle.tree.specs.declared.kind.Form.TheVariants.{Init, Shorthand, Method}
use Rattle.language.specs.Statements.{is_directive}
use Rattle.language.specs.declared.Rank.TheVariants.{LeftHandSide, Primary, Call, Expression, Update, Assignment}
use Rattle.language.specs.declared.Edge.TheVariants.{Other, Closed, Postfix}
use Rattle.covers.specs.declared.list.ListItem.{ListItem}
use Rattle.covers.specs.declared.list.ListKind.TheVariants.{Cases, Declarators, Elements, Members, Properties, Sequence}
use Rattle.tree.specs.Patterns.{pattern_tree, pattern_parts}
use Rattle.language.specs.Vocabulary.{is_target as is_simple, takes, is_identifier}
use Rattle.recursive_descent.specs.Soundness.{Adds, ReadAt, WordedAt, ArrowAt, RunsIn, anywhere}
use Rattle.recursive_descent.specs.Complete.{KeywordExpressionComplete, ArrowComplete, SymbolsComplete}
use Rattle.recursive_descent.specs.SoundnessOfStatements.{BuiltAt}
use Rattle.parser_tables.specs.declared.expression_starts.ExpressionStart.TheVariants.{Super, New, Import}
use Rattle.parser_tables.specs.Moves.{BeginsList}
use Rattle.recursive_descent.specs.Arms.{is_apart}
use Rattle.recursive_descent.proofs.reading.RemainingArms.{is_other_list, not_apart, of_elements}
use Rattle.parser_tables.specs.Outcomes.{BeginsBy}
use Rattle.token_cursor.specs.CursorState.{IsPlaceHere, CursorState, Passes}
use Rattle.parser_tables.specs.Items.{group_levels, is_grouped, list_group, after_item, item_from, with_item, listed_node, listed_part, property_item}
use Rattle.parser_tables.specs.declared.operand.Operand.{Operand}
use Rattle.parser_tables.specs.Methods.{member_flags}
use Rattle.recursive_descent.specs.Subscripts.{link_kind, link_flags, link_rank}
use Rattle.recursive_descent.specs.declared.subscripts.Subscript.TheVariants.{Arguments, Index}
use Rattle.parser_tables.specs.Operands.{plain_part, part_from}
use Rattle.parser_tables.specs.Tokens.{single_node, key_node}
use Rattle.productions.specs.Made.{Makes}
use Rattle.recursive_descent.specs.SoundnessOfStatements.{StatementsAt, StatementAt, context_role}
use Rattle.recursive_descent.specs.Follows.{ChunkAt}
use Rattle.covers.specs.declared.list.ListBuilder.{ListBuilder}
use Rattle.recursive_descent.proofs.sound_lists.CaseClauses.{case_nodes, case_taken}
use Rattle.recursive_descent.proofs.sound_expressions.ArrowFunctions.{bodied, concise, arrow_block, arrow_concise}
use Rattle.recursive_descent.proofs.sound_subscripts.OptionalChains.{chain_first, chain_on, chain_returned, chain_whole}
use Rattle.recursive_descent.proofs.reading.AddedPairs.{adds_none, arguments_read}
use Rattle.recursive_descent.proofs.sound_lists.ReadItems.{alone_item, chunk_item, element_low, is_an_element, low_chunk, low_hole, low_item, alone_behind, default_kind, elements_only, lists_elements, never_spreads, not_covers, of_text, simple_part, spread_item, taken_item}
use Rattle.recursive_descent.proofs.sound_lists.Declarators.{declared_valued, declared_valueless, named_where}
use Rattle.recursive_descent.proofs.sound_statements.OwnSymbols.{expected_own, gap_own, push_own, join_own, part_own, block_own, handler_own, with_list_own}
use Rattle.recursive_descent.proofs.sound_lists.OwnItems.{own_item, own_hole, own_chunk, element_own, valued_own, valueless_own, case_own}
use Rattle.recursive_descent.proofs.sound_lists.ListSummaries.{right_after, right_items}
use Rattle.recursive_descent.proofs.sound_expressions.BracketedLists.{makes_ok}
use Rattle.recursive_descent.proofs.sound_expressions.OneToken.{name_arrow, name_kind, single_read}
use Rattle.recursive_descent.proofs.sound_expressions.ExpressionStarts.{list_read}
use Rattle.recursive_descent.proofs.sound_expressions.PrefixOperators.{prefix_low, prefix_read}
use Rattle.recursive_descent.specs.LeftOperands.{is_prefix_update, takes_operand, prefixed_node, prefixed_part, left_of}
use Rattle.recursive_descent.proofs.sound_expressions.Parenthesized.{InParens, yields_ok, ok_map, in_parens, pair_place, group_read, group_low, first_low, arrow_read}
use Rattle.recursive_descent.proofs.sound_properties.PropertyNames.{named_alone, named_plain, named_computed, word_class}
use Rattle.recursive_descent.proofs.sound_properties.OwnMembers.{key_height, single_owned, property_owned, assignment_owned, method_owned, word_owned, spread_owned, form_owned, method_language}
use Rattle.recursive_descent.proofs.sound_subscripts.SubscriptNodes.{is_call}
use Rattle.recursive_descent.proofs.sound_subscripts.SubscriptReads.{BehindOn, name_read, index_read, arguments_read_behind, template_read, call_is, call_is_not, links_read, link_own, list_own, chain_own}
use Rattle.recursive_descent.proofs.reading.LanguageTrees.{of_node, of_part, of_none, of_push, pattern_of_language}
use Rattle.recursive_descent.proofs.sound_expressions.OperatorNodes.{left_language, sided_language}
use Rattle.recursive_descent.proofs.sound_expressions.BinaryNodes.{rank_of, SidedFrom, sided_one, sided_two, sided_whole, right_at}
use Rattle.recursive_descent.proofs.sound_statements.FunctionsAndClasses.{closed}
use Rattle.recursive_descent.proofs.sound_expressions.ExpressionParts.{turn_on}
use Rattle.recursive_descent.proofs.sound_properties.Definitions.{spread_item as rest_item, value_item, map_ok}
use Rattle.recursive_descent.proofs.sound_properties.PropertyValues.{is_free, pair_value, lone_value, default_value}
use Rattle.recursive_descent.proofs.reading.WaitingNodes.{waits_none, waits_one, waits_first, waits_two, waits_push, waits_on, waits_gap, waits_join, waits_behind, hole_waits, item_waits}
use Rattle.recursive_descent.proofs.reading.PassedTokens.{passes_behind, passes_further}
use Rattle.recursive_descent.proofs.sound_expressions.InfixTurns.{step_reads, sequence_reads, no_tag_there, in_there, sided_on, call_there, chain_there, dot_there, chain_reads, no_chain_there, linked_reads, meant_symbol}
use Rattle.recursive_descent.proofs.sound_statements.StatementLists.{all_directive, and_true, still, push_low, statements_first, statements_on}
use Rattle.recursive_descent.proofs.sound_lists.WholeLists.{after_inside, after_nodes, after_start, further_first, further_item, item_places, not_a_sequence, same_right}
use Rattle.recursive_descent.proofs.sound_statements.BlockSymbols.{block_piece, handler_piece}
use Rattle.recursive_descent.proofs.sound_statements.OneMoreSymbol.{built_first, piece_on, piece_low}
use Rattle.recursive_descent.proofs.sound_statements.ListSymbols.{list_piece}
use Rattle.recursive_descent.proofs.sound_statements.PartSymbols.{expression_piece, binding_piece, statement_piece, items_piece}
use Rattle.recursive_descent.proofs.sound_statements.TokenSymbols.{passed_piece, nothing_passed, gap_wanted}
use Rattle.recursive_descent.proofs.sound_statements.ExpressionStatements.{evaluated_stated}
use Rattle.recursive_descent.proofs.sound_statements.OwnTokenStatements.{closure_stated}
use Rattle.recursive_descent.proofs.sound_expressions.KeywordExpressions.{function_worded, class_worded, super_worded, target_worded, import_worded, new_worded, worded_here, NewTail, tail_with, tail_alone}
use Rattle.parser_tables.specs.StatementNodes.{statement_node_kind}
use Rattle.recursive_descent.proofs.sound_statements.WholeStatements.{headed_begins, FirstAt, OnceAt, own_begun, label_begun, pieces_read, for_read, once_read, whole_as, is_for, no_for, headed_text, no_text, statement_made}
use Rattle.recursive_descent.proofs.sound_properties.MethodItems.{method_node, method_item}
use Rattle.covers.specs.Lists.{closing}
use Rattle.recursive_descent.specs.declared.parser.Parser.{Parser}
use Rattle.recursive_descent.proofs.sound_lists.ListEnds.{ItemsFrom, closed_list, last_follows, none_follows}
use Rattle.recursive_descent.proofs.parser.Parser.+grammar.Goals.{declarator-else-has_value+in_ok-push_gap, declarator-else-not-is_name, declarator-then-has_value+in_ok-value+in_ok-into_expression+in_ok-push, declarator-then-not-is_name, property_or_member-else-not-in_class-via-else-not-in_class, property_or_member-else-not-in_class-via-then-not-in_class+else-accept_punctuator, property_or_member-else-not-matches, property_or_member-in-Method, property_or_member-in_default, property_or_member-then-not-matches, special_item-else-is_default, item-in_default-via-in-Elements+else-sees_punctuator, item-in_default-via-in_default, special_item-then-is_default+in_ok-push_gap-in-Cases, other_subscript-in-Arguments+in_ok-arguments-in-Arguments+in_ok-append-in-Arguments, index_member-in-Call, index_member-in_default, other_subscript-in-Call, other_subscript-in-Index+in_ok-expect_punctuator-in-Index+in_ok-index-in-Index+in_ok-into_expression-in-Index+in_ok-push-in-Index+in_ok-expect_punctuator-in-Index-2, other_subscript-in-Name+in_ok-name-in-Name+in_ok-token_node-in-Name+in_ok-push-in-Name, other_subscript-in-Quasi+in_ok-list-in-Quasi+in_ok-list-in-Quasi-2+in_ok-finish_list-in-Quasi+in_ok-push-in-Quasi, other_subscript-in_default, list-else-items-test, list-else-not-matches, list-in-Sequence, list-in-Some+in_ok-expect_punctuator, list-in_default, list-in_default-closer, list-then-items-test+in_ok-item+then-not-is_separated, list-then-not-matches, read_symbols-in-Binding+in_ok-part-in-Binding+in_ok-add_expression-in-Binding, read_symbols-in-Block+in_ok-left-in-Block+in_ok-list-in-Block+in_ok-expect_punctuator-in-Block+in_ok-block-in-Block+in_ok-push-in-Block, read_symbols-in-Expression+in_ok-part-in-Expression+in_ok-add_expression-in-Expression, read_symbols-in-Gap+in_ok-push_gap-in-Gap, read_symbols-in-Handler+in_ok-read_symbols-in-Handler+in_ok-handler-in-Handler+in_ok-push-in-Handler, read_symbols-in-Items+in_ok-statements-in-Items+in_ok-append-in-Items, read_symbols-in-List+in_ok-list-in-List+in_ok-list-in-List-2+in_ok-add_list-in-List, read_symbols-in-Nothing, read_symbols-in-Statement+in_ok-statement-in-Statement+in_ok-push-in-Statement, binary_rest-in-Question+in_ok-part+in_ok-into_expression+in_ok-push+in_ok-expect_punctuator, binary_rest-in_default, statement-else-eq-2, statement-in-Expression+in_ok-part-in-Expression+else-not-is_label+in_ok-push-in-Expression, statement-in-OfKind+else-eq, statement-else-eq-via-then-eq+else-sees_await, statement-else-eq-via-else-eq, statement-in-Variable, statement-in_default, statement-then-eq-2+in_ok-what+in_ok-read_symbols-2, statements-else-context, statements-then-context, property_value-else-accept_punctuator-2, property_value-then-accept_punctuator-2+in_ok-right+in_ok-into_expression+in_ok-value-3, new_expression-else-sees_punctuator, new_expression-then-sees_punctuator+in_ok-arguments+in_ok-append, one_token-else-is_name-via-else-is_name, one_token-else-is_name-via-then-is_name+else-sees_arrow, one_token-else-is_name-via-then-is_name+then-sees_arrow+else-accepts_rank, parenthesized-else-sees_arrow-via-else-sees_arrow, parenthesized-else-sees_arrow-via-then-sees_arrow+else-accepts_rank}
use Rattle.recursive_descent.proofs.parser.Parser.+grammar.Goals.{property_or_member-then-in_class-2, property_or_member-else-in_class-2, property_or_member-then-not-is_of_2022, property_or_member-else-not-is_of_2022, property_or_member-else-in_class-via-then-in_class+else-begins_static_block, property_or_member-else-in_class-via-else-in_class, field-then-accept_punctuator+in_ok-value+in_ok-into_expression+in_ok-push, field-else-accept_punctuator+in_ok-push_gap}
use Rattle.language.specs.Continuations.{operation}
use Rattle.recursive_descent.proofs.complete_expressions.Stages.{starts}
use Rattle.recursive_descent.proofs.complete_expressions.LastStage.{concluded, stage_first, stage_next, stage_turned, same_room}
use Rattle.recursive_descent.proofs.complete_expressions.StageTurns.{turn_sided, turn_linked}
use Rattle.recursive_descent.proofs.complete_subscripts.ChainsOnSpine.{turn_chain}
use Rattle.recursive_descent.proofs.complete_expressions.SequenceTurns.{sequence_staged, sequence_refused, commas_refused, sequence_high}
use Rattle.recursive_descent.proofs.complete_expressions.NoArrowTurns.{no_arrow}
use Rattle.recursive_descent.proofs.sound_expressions.UpdateTurns.{own_there, stepping, step_staged, step_unfit, step_high}
use Rattle.recursive_descent.proofs.complete_expressions.Agreement.{agrees_on, not_missed, agrees_err, refuses_high, refuses_memory, room_part, ends_behind, ends_before}
use Rattle.recursive_descent.specs.Completeness.{Room, EndsWith, IsRead, IsFirst}
use Rattle.recursive_descent.specs.Spelled.{OfLanguage, AllOfLanguage}
use Rattle.parser_tables.specs.Operators.{StopsHere}
use Rattle.recursive_descent.proofs.complete_expressions.StartsGiven.{opens_here, has_height, first_in}
use Rattle.recursive_descent.proofs.complete_expressions.ParenthesisGiven.{parenthesis_ahead}
use Rattle.recursive_descent.proofs.complete_expressions.FunctionsAndClassesGiven.{function_given, class_given}
use Rattle.recursive_descent.proofs.complete_lists.ListRestsGiven.{list_rest, list_refuses}
use Rattle.recursive_descent.proofs.complete_subscripts.CalleesGiven.{tail_low, TailRead, tail_with as tail_read_with, tail_alone as tail_read_alone, callee_given, callee_at, with_given, alone_given, seen_at, missed_at, new_first, target_agrees}
use Rattle.language.specs.Expressions.{arguments}
use Rattle.recursive_descent.proofs.complete_subscripts.NewGiven.{new_given_so}
use Rattle.recursive_descent.proofs.complete_subscripts.SuperGiven.{super_given}
use Rattle.recursive_descent.proofs.complete_expressions.KeywordExpressionsGiven.{is_worded, function_coded, class_coded, super_coded, new_coded, import_coded, word_here, closure_first, misses_not, same_mark, import_first, import_low, by_word, other_word, super_missed, super_low, super_agrees}
use Rattle.recursive_descent.proofs.complete_expressions.OneTokenGiven.{NoArrow, arrow_behind, arrow_before, single_given}
use Rattle.recursive_descent.proofs.complete_expressions.OneTokenNodes.{single_read as token_read, arrow_given, arrow_agrees}
use Rattle.recursive_descent.proofs.complete_expressions.PrefixesGiven.{prefix_given, operand_low, operand_symbols, prefix_made, prefix_text}
use Rattle.recursive_descent.proofs.complete_expressions.AgreedNodes.{FirstWith, agrees_where, agrees_made_as, agrees_more, expression_given}
use Rattle.language.specs.ExpressionStart.{expression_start}
use Rattle.language.specs.Covers.{as_expression}
use Rattle.language.specs.declared.Start.TheVariants.{Any}
use Rattle.language.specs.Claims.{max_open}
use Rattle.recursive_descent.proofs.complete_expressions.ArrowFunctionsGiven.{arrow_unsigned, arrow_block_refused, arrow_block_high, arrow_block_done, arrow_value_refused, arrow_value_settles, arrow_value_high, arrow_value_done}
use Rattle.recursive_descent.proofs.complete_expressions.ParenthesizedGiven.{paren_unopened, paren_list_refused, paren_unbound, paren_arrow_done, paren_group_done, opened_here, arrow_missed}
use Rattle.recursive_descent.proofs.reading.Forward.{place_mark}
use Rattle.recursive_descent.proofs.complete_subscripts.SubscriptAgreement.{linked_answered, linked_high, name_high, link_once, unlinked_refused, word_refused, bracket_refused, index_refused, index_unsettled, unclosed_refused, called_refused, unopened_refused, unlisted_refused, unmade_refused}
use Rattle.recursive_descent.specs.declared.expressions.LeftOperand.{LeftOperand}
use Rattle.recursive_descent.proofs.complete_expressions.RightOperandsGiven.{Ready, passed, ready_one, ready_two, first_refused, first_unsettled, colon_refused, right_refused, right_unsettled, sided_high, sided_answered}
use Rattle.recursive_descent.proofs.complete_subscripts.ChainsGiven.{first_linked, next_linked, first_linked_refused, next_refused, template_refused, chain_unsettled, chain_high, chain_answered}
use Rattle.recursive_descent.proofs.complete_subscripts.ArgumentsGiven.{arguments_refused, arguments_answered}
use Rattle.recursive_descent.proofs.complete_lists.CaseItems.{case_unworded, case_refused, case_too_high, case_taken as case_taken_given}
use Rattle.recursive_descent.proofs.complete_lists.TemplateItems.{chunk_refused, chunk_unsettled, chunk_missing, chunk_taken}
use Rattle.recursive_descent.proofs.complete_lists.DeclaratorItems.{declarator_refused, declarator_taken, sequence_item_refused, sequence_item_taken}
use Rattle.recursive_descent.proofs.complete_lists.ElementAnswers.{of_kind, dotted_refused, dotted_taken, alone_refused, alone_taken, hole_taken}
use Rattle.recursive_descent.proofs.complete_lists.ItemAnswers.{definition_refused, definition_taken}
use Rattle.recursive_descent.proofs.complete_lists.ListLoop.{reaches_first}
use Rattle.recursive_descent.proofs.complete_lists.ReachedItems.{reached_more, item_refused as list_item_refused}
use Rattle.recursive_descent.proofs.complete_lists.WholeListAnswers.{done_before}
use Rattle.recursive_descent.proofs.complete_lists.ListClosers.{AllDone, close_refused, done_behind, list_answered}
use Rattle.recursive_descent.proofs.complete_statements.DeclaratorsGiven.{declarator_opening, declarator_bound, declarator_value, declarator_settled, declarator_valued_made, declarator_valued, declarator_lone_made, declarator_lone, unmarked_name}
use Rattle.recursive_descent.proofs.complete_properties.FieldsComplete.{field_value_refused, field_unsettled, field_value_unended, field_value_made, field_value_answered, field_unended, field_made, field_answered}
use Rattle.recursive_descent.proofs.complete_properties.StaticBlocksComplete.{unbegun, block_no_brace, static_items_refused, block_made, block_answered}
use Rattle.recursive_descent.proofs.sound_properties.Fields.{field_item, field_alone, field_valued, class_field_item}
use Rattle.recursive_descent.proofs.sound_properties.StaticBlocks.{block_begins_at, static_block_item}
use Rattle.token_cursor.specs.StatementEnds.{EndsAt, IsEnd}
use Rattle.recursive_descent.proofs.complete_properties.NamesGiven.{name_made, name_alone, name_no_key, name_plain, name_index, name_settled, name_closed, name_computed}
use Rattle.recursive_descent.proofs.complete_properties.ValuesGiven.{value_made, value_refused, value_answered, value_no_token, value_no_name, value_single, value_lone, value_default_made, value_right, value_settled, value_default}
use Rattle.recursive_descent.proofs.complete_properties.DefinitionsComplete.{when_true, when_false, not_true, not_untrue, definition_field, spread_trails, definition_argument, definition_element, definition_spread, definition_name, definition_value, definition_function, definition_made, definition_method}
use Rattle.parser_tables.specs.StatementSymbols.{piece_of}
use Rattle.recursive_descent.proofs.complete_statements.SymbolsLeft.{left_first, pieces_on, pieces_err, pieces_ok, pieces_memory}
use Rattle.recursive_descent.proofs.complete_statements.TokenSymbolsGiven.{nothing_same, gap_missing, wanted_refused}
use Rattle.recursive_descent.proofs.complete_statements.ValueSymbolsGiven.{value_refused as piece_value_refused, value_unput, value_same}
use Rattle.recursive_descent.proofs.complete_statements.PartSymbolsGiven.{binding_refused, binding_unput, binding_same, statement_refused, statement_same, items_refused, items_same}
use Rattle.recursive_descent.proofs.complete_statements.BlockSymbolsGiven.{block_unopened, block_items_refused, block_unclosed, block_high, block_same, handler_refused, handler_high, handler_same}
use Rattle.recursive_descent.proofs.complete_statements.ListSymbolsGiven.{list_unopened, list_refused, list_unput, list_same}
use Rattle.recursive_descent.proofs.complete_statements.FunctionsAndClassesBodies.{name_refused, closure_refused, closure_made}
use Rattle.tree.specs.declared.kind.Form.TheVariants.{Async}
use Rattle.language.proofs.table.Beginnings.{form_flags}
use Rattle.recursive_descent.proofs.sound_statements.OwnStatements.{own_on, statement_own, evaluated_own, closure_own, arrow_own, named_own, made_own}
use Rattle.recursive_descent.proofs.sound_statements.FunctionWords.{first_word, words_there}
use Rattle.recursive_descent.proofs.sound_statements.ForAwait.{await_read, await_own, await_whole, own_twice}
use Rattle.recursive_descent.proofs.complete_statements.ForAwaitGiven.{await_missed, head_refused, rest_refused, await_made, await_stated_given}
use Rattle.recursive_descent.proofs.complete_statements.StatementListsGiven.{AllLeft, all_first, all_on, item_refused, items_unheld, all_read}
use Rattle.recursive_descent.proofs.complete_statements.StatementGiven.{closure_stated_given, statement_unbegun}
use Rattle.recursive_descent.proofs.complete_statements.StatementDone.{begun_as, own_begins, TheStatement, the_same, own_begun_there, label_begun_there, for_unfollowed, for_refused, for_done}
use Rattle.recursive_descent.proofs.complete_statements.ExpressionLedStatements.{expression_refused, evaluated_given}
use Rattle.recursive_descent.proofs.complete_statements.StatementAfterRead.{MainThere, main_refused, main_read, for_on, statement_whole}
use Rattle.token_cursor.specs.SourceText.{SeenNext, behind_in}
use Rattle.tree.specs.declared.kind.Kind.TheVariants.{PrivateIdentifier, BinaryExpression}
use Rattle.recursive_descent.proofs.sound_expressions.KeywordExpressions.{private_passed}
use Rattle.recursive_descent.proofs.sound_expressions.PrivateIn.{private_worded}
use Rattle.recursive_descent.proofs.complete_expressions.PrivateInGiven.{private_given, private_low, private_own, private_first}
use Rattle.recursive_descent.proofs.complete_expressions.KeywordExpressionsGiven.{private_coded}
use Rattle.recursive_descent.proofs.complete_expressions.Agreement.{words_same}
use Rattle.tree.specs.declared.kind.Kind.TheVariants.{YieldExpression}
use Rattle.language.specs.declared.Edge.TheVariants.{Arrow}
use Rattle.recursive_descent.proofs.sound_expressions.Yields.{yield_bare, yield_worded}
use Rattle.recursive_descent.proofs.complete_expressions.YieldsGiven.{yield_given, yield_later, alone_given as yield_alone_given, operand_given, yield_low, yield_own, yield_first}
use Rattle.recursive_descent.proofs.complete_expressions.KeywordExpressionsGiven.{yield_coded}
use Rattle.recursive_descent.proofs.complete_expressions.Agreement.{ends_none, ends_same}
use Rattle.recursive_descent.proofs.complete_expressions.PrefixesGiven.{prefix_own}
use Rattle.recursive_descent.proofs.complete_expressions.OneTokenGiven.{single_place, single_language}
use Rattle.recursive_descent.proofs.complete_expressions.StartsGiven.{begins_nothing}
use Rattle.recursive_descent.proofs.sound_expressions.CodedStarts.{coded_plain}
use Rattle.parser_tables.specs.declared.expression_starts.ExpressionStart.TheVariants.{List}
use Rattle.recursive_descent.proofs.sound_expressions.StartsOfLanguage.{prefix_language, list_language, word_first}
use Rattle.recursive_descent.proofs.sound_expressions.KeywordExpressions.{stands_plainly}
use Rattle.parser_tables.specs.ExpressionStarts.{coded_in}
use Rattle.recursive_descent.specs.Later.{FormOfLanguage}
use Rattle.recursive_descent.proofs.sound_expressions.StartsOfLanguage.{starred_form, later_tree, async_told, private_later, named_worded, named_complete, each_ok}
use Rattle.recursive_descent.proofs.complete_expressions.FunctionsAndClassesGiven.{function_starred}
use Rattle.recursive_descent.proofs.complete_expressions.KeywordExpressionsGiven.{closure_runs, closure_own as given_closure_own, import_own, super_private}
use Rattle.recursive_descent.proofs.complete_subscripts.CalleesGiven.{callee_own, with_own}
use Rattle.recursive_descent.proofs.complete_subscripts.NewGiven.{import_begun}
use Rattle.recursive_descent.proofs.sound_expressions.KeywordExpressions.{meta_worded}
use Rattle.recursive_descent.specs.Later.{NamedAsync, AsyncAt, async_call_node}
use Rattle.recursive_descent.proofs.sound_expressions.StartsOfLanguage.{target_language}
use Rattle.recursive_descent.specs.Follows.{target_node}
use Rattle.language.specs.declared.Rank.TheVariants.{Member}
use Rattle.recursive_descent.specs.Soundness.{UnprivateBehind}
use Rattle.recursive_descent.proofs.parser.Parser.+grammar.Goals.{super_expression-then-is_of_2022+in_ok-refuse_private_name, super_expression-else-is_of_2022}
use Rattle.recursive_descent.proofs.complete_subscripts.CalleesGiven.{import_called, meta_agrees}
use Rattle.language.specs.Languages.{is_of_2022}
use Rattle.recursive_descent.proofs.parser.Parser.+grammar.Goals.{import_call-else-is_of_2022-via-then-is_of_2022+else-accept_punctuator, import_call-else-is_of_2022-via-else-is_of_2022, async_expression-else-sees_arrow-via-then-sees_arrow+else-accepts_rank, async_expression-else-sees_arrow-via-else-sees_arrow}
use Rattle.recursive_descent.proofs.sound_expressions.AsyncExpressions.{async_unbroken, async_alone, async_single, async_one_name, async_closure, async_list, async_called, async_arrow}
use Rattle.recursive_descent.proofs.complete_expressions.AsyncAgreed.{async_function_refused, async_function_read, async_name_refused, async_name_arrow, async_alone_arrow, async_alone_read}
use Rattle.recursive_descent.proofs.complete_expressions.AsyncCallsGiven.{async_list_refused, async_unbound, async_arrow_agrees, async_call_agrees}
use Rattle.recursive_descent.specs.Later.{BeginsStaticBlock}
use Rattle.recursive_descent.proofs.sound_expressions.GroupsOfLanguage.{group_language, patterns_language}

pub arguments-returns-clause-derived : goal.arguments-returns-clause-derived
arguments-returns-clause-derived t c = arguments_read c.in_ok-list.list c.in_ok-list-2.field-0 c.open.ensures.text c.open.ensures.same_open c.open.ensures.same_pairs c.in_ok-list.ensures.listed c.in_ok-list.ensures.begun c.in_ok-list-2.ensures.same.0 c.in_ok-list-2.ensures.derived

pub expression-turns-init : goal.expression-turns-init
expression-turns-init t c =
    let passed = c.in_ok-part.ensures.passes in
    record {
      same = c.leftmost_operand.ensures.text;
      forward = passed.0;
      within = passed.1;
      derived = c.in_ok-part.ensures.derived;
      waits = c.in_ok-part.ensures.waits;
      low = c.in_ok-part.ensures.low;
      own = c.in_ok-part.ensures.own;
      complete = λ a o n to P g own. let u = starts c.args.self.now.cursor.text c.args.position a g in
          let read = c.in_ok-part.ensures.complete u.reading u.rank o u.tree u.mid u.pairs u.first (u.of_language own) in
          stage_first {s = c.args.self.now.cursor} c.in_ok-part.part u read.0 read.1;
    }

pub arguments-returns-in_err-list-2-clause-complete : goal.arguments-returns-in_err-list-2-clause-complete
arguments-returns-in_err-list-2-clause-complete t c = arguments_refused c.args.self.now.cursor c.open.new.self.cursor c.list.new.self.cursor c.args.self.now.pairs.items c.open.new.self.pairs.items c.list.new.self.pairs.items c.args.high c.in_ok-list.list c.open.ensures.text c.open.ensures.same_open c.open.ensures.same_pairs c.in_ok-list.ensures.listed c.in_ok-list.ensures.begun
    c.from_residual-in_err-list-2.result c.in_err-list-2.field-0.0 c.from_residual-in_err-list-2.ensures.1 c.in_err-list-2.ensures.complete

pub arguments-returns-clause-complete : goal.arguments-returns-clause-complete
arguments-returns-clause-complete t c = arguments_answered c.args.self.now.cursor c.open.new.self.cursor c.list.new.self.cursor c.args.self.now.pairs.items c.open.new.self.pairs.items c.list.new.self.pairs.items c.args.high c.in_ok-list.list c.open.ensures.text c.open.ensures.same_open c.open.ensures.same_pairs c.in_ok-list.ensures.listed c.in_ok-list.ensures.begun
    c.in_ok-list-2.field-0 c.in_ok-list-2.ensures.complete

pub expression-turns-preserved : goal.expression-turns-preserved
expression-turns-preserved t c =
    let v = c.turns.invariant in
    let on = v.forward in
    let further = c.infix.ensures.forward in
    record {
      same = c.infix.ensures.text ∙ v.same;
      forward = omega arith;
      within = v.within;
      derived = turn_on v.same v.derived c.in_ok-part-2.ensures.derived;
      waits = c.in_ok-part-2.ensures.waits c.args.self.now.tree v.waits;
      low = c.in_ok-part-2.ensures.low;
      own = subst (λ x. OfLanguage x c.in_ok-part-2.part.cover.node) v.same (c.in_ok-part-2.ensures.own (subst (λ x. OfLanguage x c.turns.part.cover.node) (sym v.same) v.own));
      complete = λ a o n to P g own. let u = v.complete a o n to P g own in stage_next u (stage_turned c.infix.new.self.cursor c.infix.new.self.pairs.items c.args.high (Ok c.in_ok-part-2.part) v.same v.derived u own c.in_ok-part-2.ensures.complete);
    }

pub statements-statements-init : goal.statements-statements-init
statements-statements-init t c =
    let flat : parts_height c.new-nodes.result ≡ 0 = ap parts_height c.new-nodes.ensures in
    record {
      same = refl;
      forward = omega arith;
      derived = statements_first c.args.context c.new-nodes.result c.new-nodes.ensures;
      waits = waits_none c.new-nodes.ensures;
      items = refl;
      returns = refl;
      before = sym (ap (λ ps. c.args.context.is_prologue && all_directive ps) c.new-nodes.ensures ∙ and_true c.args.context.is_prologue);
      low = omega arith;
      own = subst (AllOfLanguage c.args.self.now.cursor.text) (sym c.new-nodes.ensures) of_none;
      left = all_first c.args.self.now.cursor c.args.self.now.pairs.items c.args.until c.args.context c.new-nodes.result c.new-nodes.ensures;
    }

pub statements-statements-preserved : goal.statements-statements-preserved
statements-statements-preserved t c =
    let v = c.statements.invariant in
    let n = c.in_ok-statement.statement in
    let pushed = c.in_ok-push.ensures.pushed in
    let on = v.forward in
    let further = c.statement.ensures.forward in
    let context : c.if-context.context ≡ (c.statements.context.is_prologue && is_directive n) =
    elim c.if-context.branch [
      | statements-then-context w ↦ w.context-is ∙ w.is_directive.ensures ∙ sym (ap (λ x. x && is_directive n) w.if-context.true)
      | statements-else-context w ↦ w.context-is ∙ w.if-context.false ∙ sym (ap (λ x. x && is_directive n) w.if-context.false)
    ] in
    record {
      same = c.statement.ensures.text ∙ v.same;
      forward = omega arith;
      derived = subst (λ ps. Adds c.args.self.now.cursor c.statement.new.self.cursor c.args.self.now.pairs.items c.statement.new.self.pairs.items (StatementsAt c.args.self.now.cursor.text c.args.context ps)) (sym pushed)
          (statements_on c.args.context c.statements.context c.statements.nodes n v.same v.items v.returns v.before v.derived c.in_ok-statement.ensures.derived);
      waits = waits_push c.args.self.now.tree c.statements.nodes n v.waits c.in_ok-statement.ensures.waits pushed;
      items = v.items;
      returns = v.returns;
      before = context ∙ still c.statements.context.is_prologue c.args.context.is_prologue c.statements.nodes n v.before ∙ ap (λ ps. c.args.context.is_prologue && all_directive ps) (sym pushed);
      low = subst (λ ps. parts_height ps ≤ c.args.high) (sym pushed) (push_low c.statements.nodes n c.args.high v.low c.in_ok-statement.ensures.low);
      own = subst (AllOfLanguage c.args.self.now.cursor.text) (sym pushed) (of_push c.statements.nodes n v.own (subst (λ x. OfLanguage x n) v.same c.in_ok-statement.ensures.own));
      left = subst (λ ps. AllLeft c.args.self.now.cursor c.statement.new.self.cursor c.args.self.now.pairs.items c.statement.new.self.pairs.items c.args.until c.args.context (record c.statements.context { is_prologue = c.if-context.context }) ps) (sym pushed)
          (all_on c.args.self.now.cursor c.statements.self.cursor c.statement.new.self.cursor c.args.self.now.pairs.items c.statements.self.pairs.items c.statement.new.self.pairs.items c.args.high c.args.until c.args.context c.statements.context c.statements.nodes v.same v.items v.returns
          c.statements-test.ensures.missed v.left (record c.statements.context { is_prologue = c.if-context.context }) n context c.in_ok-statement.ensures.complete);
    }

pub statements-returns-in_err-statement-clause-complete : goal.statements-returns-in_err-statement-clause-complete
statements-returns-in_err-statement-clause-complete t c =
    let v = c.statements.invariant in
    item_refused c.args.self.now.cursor c.statements.self.cursor c.statement.new.self.cursor c.args.self.now.pairs.items c.statements.self.pairs.items c.statement.new.self.pairs.items c.args.high c.args.until c.args.context c.statements.context c.statements.nodes v.same v.items v.returns
    c.statements-test.ensures.missed v.left c.statement.new.self.cursor c.statement.new.self.pairs.items c.from_residual.result c.in_err-statement.field-0.0 c.from_residual.ensures.1 v.derived.same_open c.in_err-statement.ensures.complete

pub statements-returns-in_err-push-clause-complete : goal.statements-returns-in_err-push-clause-complete
statements-returns-in_err-push-clause-complete t c =
    items_unheld c.args.self.now.cursor c.statement.new.self.cursor c.args.self.now.pairs.items c.statement.new.self.pairs.items c.args.high c.args.until c.args.context c.from_residual-in_err-push.result c.in_err-push.field-0.0 c.from_residual-in_err-push.ensures.1 c.in_err-push.ensures.kept.0

pub statements-returns-clause-complete : goal.statements-returns-clause-complete
statements-returns-clause-complete t c =
    all_read c.args.self.now.cursor c.statements.self.cursor c.args.self.now.pairs.items c.statements.self.pairs.items c.args.high c.args.until c.args.context c.statements.context c.statements.nodes c.statements.invariant.same c.statements-test.ensures.seen c.statements.invariant.left

pub statements-returns-clause-own : goal.statements-returns-clause-own
statements-returns-clause-own t c = c.statements.invariant.own

pub for_await-returns-then-not-accept_await-clause-complete : goal.for_await-returns-then-not-accept_await-clause-complete
for_await-returns-then-not-accept_await-clause-complete t c = λ ps o to P d fine own. absurd (await_missed {r = c.args.context.returns} {ps = ps} c.if-not-accept_await.ensures.missed.0 d)

pub for_await-returns-in_err-read_symbols-clause-complete : goal.for_await-returns-in_err-read_symbols-clause-complete
for_await-returns-in_err-read_symbols-clause-complete t c =
    head_refused c.args.self.now.cursor c.accept_await.new.self c.args.self.now.pairs.items c.args.self.now.pairs.items c.args.context.returns c.args.start c.args.high c.saturating_sub-inner.result _ c.new-built.result c.if-not-accept_await.ensures.accepted c.accept_await.ensures.text c.accept_await.ensures.same_open refl
    c.saturating_sub-inner.ensures (ap (λ d. d.nodes) c.new-built.ensures) (ap (λ d. d.edge) c.new-built.ensures) c.statement_symbols-head.ensures c.read_symbols.new.self.cursor _ c.read_symbols.new.self.pairs.items _ c.read_symbols.new.built _ c.in_err-read_symbols.field-0.0 c.from_residual.ensures.1 c.in_err-read_symbols.ensures.complete

pub for_await-returns-in_err-read_symbols-2-clause-complete : goal.for_await-returns-in_err-read_symbols-2-clause-complete
for_await-returns-in_err-read_symbols-2-clause-complete t c =
    rest_refused c.args.self.now.cursor c.accept_await.new.self c.args.self.now.pairs.items c.args.self.now.pairs.items c.args.context.returns c.args.start c.args.high c.saturating_sub-inner.result _ c.new-built.result c.if-not-accept_await.ensures.accepted c.accept_await.ensures.text c.accept_await.ensures.same_open refl
    c.saturating_sub-inner.ensures (ap (λ d. d.nodes) c.new-built.ensures) (ap (λ d. d.edge) c.new-built.ensures) c.statement_symbols-head.ensures c.read_symbols.new.self.cursor c.read_symbols.new.self.pairs.items c.read_symbols.new.built c.read_symbols.ensures.text c.in_ok-read_symbols.ensures.derived.same_open c.in_ok-read_symbols.ensures.complete
    _ c.statement_symbols-rest.ensures c.read_symbols-2.new.self.cursor _ c.read_symbols-2.new.self.pairs.items _ c.read_symbols-2.new.built _ c.in_err-read_symbols-2.field-0.0 c.from_residual-in_err-read_symbols-2.ensures.1 c.in_err-read_symbols-2.ensures.complete

pub for_await-returns-clause-derived : goal.for_await-returns-clause-derived
for_await-returns-clause-derived t c =
    await_read c.args.self.now.cursor c.accept_await.new.self c.read_symbols.new.self.cursor c.read_symbols-2.new.self.cursor c.args.self.now.pairs.items c.args.self.now.pairs.items c.read_symbols.new.self.pairs.items c.read_symbols-2.new.self.pairs.items c.args.context.returns c.args.start c.args.high _ _ c.new-built.result c.read_symbols.new.built c.read_symbols-2.new.built
    c.finish_node.result c.if-not-accept_await.ensures.accepted c.accept_await.ensures.text c.accept_await.ensures.same_open refl (ap (λ d. d.nodes) c.new-built.ensures) (ap (λ d. d.edge) c.new-built.ensures) c.statement_symbols-head.ensures c.statement_symbols-rest.ensures c.in_ok-read_symbols.ensures.derived c.read_symbols.ensures.text c.in_ok-read_symbols-2.ensures.derived
    (subst (λ x. Makes (node ForOfStatement [] (form_flags Async) x.start x.end c.read_symbols-2.new.built.nodes) c.args.high c.finish_node.result) c.span_from-span.ensures c.finish_node.ensures.made)

pub for_await-returns-clause-own : goal.for_await-returns-clause-own
for_await-returns-clause-own t c =
    await_own c.args.start c.args.high _ c.read_symbols-2.new.built.nodes c.finish_node.result c.if-not-accept_await.ensures.accepted (own_twice c.accept_await.ensures.text c.read_symbols.ensures.text (ap (λ d. d.nodes) c.new-built.ensures) c.in_ok-read_symbols.ensures.own c.in_ok-read_symbols-2.ensures.own)
    (subst (λ x. Makes (node ForOfStatement [] (form_flags Async) x.start x.end c.read_symbols-2.new.built.nodes) c.args.high c.finish_node.result) c.span_from-span.ensures c.finish_node.ensures.made)

pub for_await-returns-clause-complete : goal.for_await-returns-clause-complete
for_await-returns-clause-complete t c =
    await_made c.args.self.now.cursor c.accept_await.new.self c.args.self.now.pairs.items c.args.self.now.pairs.items c.args.context.returns c.args.start c.args.high c.saturating_sub-inner.result _ c.new-built.result c.if-not-accept_await.ensures.accepted c.accept_await.ensures.text c.accept_await.ensures.same_open refl
    c.saturating_sub-inner.ensures (ap (λ d. d.nodes) c.new-built.ensures) (ap (λ d. d.edge) c.new-built.ensures) c.statement_symbols-head.ensures c.read_symbols.new.self.cursor c.read_symbols.new.self.pairs.items c.read_symbols.new.built c.read_symbols.ensures.text c.in_ok-read_symbols.ensures.derived.same_open c.in_ok-read_symbols.ensures.complete
    _ c.statement_symbols-rest.ensures c.read_symbols-2.new.self.cursor c.read_symbols-2.new.self.pairs.items c.read_symbols-2.new.built c.finish_node.result c.in_ok-read_symbols-2.ensures.complete
    (subst (λ x. Makes (node ForOfStatement [] (form_flags Async) x.start x.end c.read_symbols-2.new.built.nodes) c.args.high c.finish_node.result) c.span_from-span.ensures c.finish_node.ensures.made)

pub optional_chain-links-init : goal.optional_chain-links-init
optional_chain-links-init t c = record {
  same = c.subscript.ensures.text;
  forward = c.in_ok-part.ensures.passes.0;
  within = c.in_ok-part.ensures.passes.1;
  derived = chain_first c.requires.chains c.in_ok-part.ensures.derived;
  waits = c.in_ok-part.ensures.waits;
  own = c.in_ok-part.ensures.own;
  agrees = first_linked c.args.self.now.cursor c.subscript.new.self.cursor c.args.self.now.pairs.items c.subscript.new.self.pairs.items c.saturating_sub-inner.result c.args.left c.in_ok-part.part c.in_ok-part.ensures.complete;
}

pub optional_chain-links-preserved : goal.optional_chain-links-preserved
optional_chain-links-preserved t c =
    let on = c.links.invariant.forward in
    let further = c.subscript-in-links.ensures.forward in
    record {
      same = c.subscript-in-links.ensures.text ∙ c.links.invariant.same;
      forward = omega arith;
      within = c.links.invariant.within;
      derived = chain_on c.links.invariant.same c.links.invariant.derived c.if-sees_template.ensures.missed c.in_ok-part-2.ensures.derived;
      waits = λ base h. c.in_ok-part-2.ensures.waits base (c.links.invariant.waits base h);
      own = λ object. subst (λ x. OfLanguage x c.in_ok-part-2.part.cover.node) c.links.invariant.same (c.in_ok-part-2.ensures.own (subst (λ x. OfLanguage x c.links.part.cover.node) (sym c.links.invariant.same) (c.links.invariant.own object)));
      agrees = next_linked c.args.self.now.cursor c.links.self.cursor c.args.self.now.pairs.items c.links.self.pairs.items c.args.left c.links.part c.links.invariant.agrees c.links.invariant.same c.links.invariant.derived.same_open c.links-test.ensures.seen c.subscript-in-links.new.self.cursor c.subscript-in-links.new.self.pairs.items c.saturating_sub-inner.result c.in_ok-part-2.part c.in_ok-part-2.ensures.complete;
    }

pub optional_chain-returns-clause-derived : goal.optional_chain-returns-clause-derived
optional_chain-returns-clause-derived t c =
    let parts = c.one-nodes.ensures ∙ ap (λ n. part n none) c.in_ok-into_expression.ensures.settled.0 in
    let span = c.span_from-span.ensures in
    let tree : c.in_ok-node.node ≡ node ChainExpression [] plain c.args.left.start c.links.self.cursor.last.stop (part c.links.part.cover.node none) = c.in_ok-node.ensures.made.0 ∙ (λ i. node ChainExpression [] plain (span i).start (span i).end (parts i)) in
    let result : c.plain.result ≡ plain_part (node ChainExpression [] plain c.args.left.start c.links.self.cursor.last.stop (part c.links.part.cover.node none)) LeftHandSide Other = c.plain.ensures ∙ ap (λ n. plain_part n LeftHandSide Other) tree in
    chain_returned c.links.part result (chain_whole c.links.invariant.derived)

pub optional_chain-returns-in_err-part-clause-complete : goal.optional_chain-returns-in_err-part-clause-complete
optional_chain-returns-in_err-part-clause-complete t c = first_linked_refused c.args.self.now.cursor c.subscript.new.self.cursor c.args.self.now.pairs.items c.subscript.new.self.pairs.items c.args.high c.saturating_sub-inner.result c.args.left _ c.in_err-part.field-0.0 c.from_residual.ensures.1 c.saturating_sub-inner.ensures c.in_err-part.ensures.complete

pub optional_chain-returns-then-sees_template-clause-complete : goal.optional_chain-returns-then-sees_template-clause-complete
optional_chain-returns-then-sees_template-clause-complete t c = template_refused c.args.self.now.cursor c.links.self.cursor c.args.self.now.pairs.items c.links.self.pairs.items c.args.left c.links.part c.links.invariant.agrees c.links.invariant.same c.links.invariant.derived.same_open c.links-test.ensures.seen c.links.self.cursor c.links.self.pairs.items c.args.high c.saturating_sub-inner.result (Err c.syntax_error.result) c.syntax_error.result refl c.saturating_sub-inner.ensures c.if-sees_template.ensures.seen

pub optional_chain-returns-in_err-part-2-clause-complete : goal.optional_chain-returns-in_err-part-2-clause-complete
optional_chain-returns-in_err-part-2-clause-complete t c = next_refused c.args.self.now.cursor c.links.self.cursor c.args.self.now.pairs.items c.links.self.pairs.items c.args.left c.links.part c.links.invariant.agrees c.links.invariant.same c.links.invariant.derived.same_open c.links-test.ensures.seen c.subscript-in-links.new.self.cursor c.subscript-in-links.new.self.pairs.items c.args.high c.saturating_sub-inner.result _ c.in_err-part-2.field-0.0 c.from_residual-in_err-part-2.ensures.1 c.saturating_sub-inner.ensures c.in_err-part-2.ensures.complete

pub optional_chain-returns-in_err-into_expression-clause-complete : goal.optional_chain-returns-in_err-into_expression-clause-complete
optional_chain-returns-in_err-into_expression-clause-complete t c = chain_unsettled c.args.self.now.cursor c.links.self.cursor c.args.self.now.pairs.items c.links.self.pairs.items c.args.high c.args.left c.links.part c.links.invariant.agrees c.links.invariant.same c.links-test.ensures.missed _ c.in_err-into_expression.ensures.settled.1

pub optional_chain-returns-in_err-node-clause-complete : goal.optional_chain-returns-in_err-node-clause-complete
optional_chain-returns-in_err-node-clause-complete t c = chain_high c.args.self.now.cursor c.links.self.cursor c.args.self.now.pairs.items c.links.self.pairs.items c.args.high c.args.left c.links.part c.links.invariant.agrees c.links.invariant.same c.links-test.ensures.missed _ c.in_err-node.field-0.0 _ c.from_residual-in_err-node.ensures.1 (c.one-nodes.ensures ∙ ap (λ n. part n none) c.in_ok-into_expression.ensures.settled.0) refl c.in_err-node.ensures.made.0 c.in_err-node.ensures.made.1

pub optional_chain-returns-clause-complete : goal.optional_chain-returns-clause-complete
optional_chain-returns-clause-complete t c =
    let parts = c.one-nodes.ensures ∙ ap (λ n. part n none) c.in_ok-into_expression.ensures.settled.0 in
    let span = c.span_from-span.ensures in
    let tree : c.in_ok-node.node ≡ node ChainExpression [] plain c.args.left.start c.links.self.cursor.last.stop (part c.links.part.cover.node none) = c.in_ok-node.ensures.made.0 ∙ (λ i. node ChainExpression [] plain (span i).start (span i).end (parts i)) in
    let result : c.plain.result ≡ plain_part (node ChainExpression [] plain c.args.left.start c.links.self.cursor.last.stop (part c.links.part.cover.node none)) LeftHandSide Other = c.plain.ensures ∙ ap (λ n. plain_part n LeftHandSide Other) tree in
    chain_answered c.args.self.now.cursor c.links.self.cursor c.args.self.now.pairs.items c.links.self.pairs.items c.args.high c.args.left c.links.part c.links.invariant.agrees c.links.invariant.same c.links-test.ensures.missed c.plain.result refl result

pub optional_chain-returns-clause-own : goal.optional_chain-returns-clause-own
optional_chain-returns-clause-own t c = λ object.
    let parts = c.one-nodes.ensures ∙ ap (λ n. part n none) c.in_ok-into_expression.ensures.settled.0 in
    let span = c.span_from-span.ensures in
    let tree : c.in_ok-node.node ≡ node ChainExpression [] plain c.args.left.start c.links.self.cursor.last.stop (part c.links.part.cover.node none) = c.in_ok-node.ensures.made.0 ∙ (λ i. node ChainExpression [] plain (span i).start (span i).end (parts i)) in
    chain_own (ap (λ (p : Operand). p.cover.node) c.plain.ensures ∙ tree) (c.links.invariant.own object)

pub declarator-returns-clause-derived : goal.declarator-returns-clause-derived
declarator-returns-clause-derived t c =
    let starts = c.next_start-start.ensures.starts in
    let fits = c.in_ok-name.ensures.bound.1 in
    let target : c.one-nodes.result ≡ part (pattern_tree c.in_ok-part.part.cover.node) none = c.one-nodes.ensures ∙ ap (λ n. part n none) c.in_ok-name.ensures.bound.0 in
    let tree : c.plain-item.result.node ≡ node VariableDeclarator [] plain c.next_start-start.result c.if-has_value.self.cursor.last.stop c.if-has_value.nodes = ap (λ x. x.node) c.plain-item.ensures ∙ c.in_ok-node.ensures.made.0 ∙ (λ i. node VariableDeclarator [] plain (c.span_from-span.ensures i).start (c.span_from-span.ensures i).end c.if-has_value.nodes) in
    let it : ListItem = record { node = c.plain-item.result.node; shape = c.plain-item.result.shape; spreads = c.plain-item.result.spreads; is_flagged = c.if-not-is_name.item; edge = c.if-has_value.edge } in
    let shape = ap (λ x. x.shape) c.plain-item.ensures in
    let spreads = ap (λ x. x.spreads) c.plain-item.ensures in
    let here = c.accept_punctuator-has_value.ensures in
    elim c.if-has_value.branch [
      | declarator-then-has_value+in_ok-value+in_ok-into_expression+in_ok-push w ↦
          let e = w.expression.new.self.cursor in
          let parts : c.if-has_value.nodes ≡ part (pattern_tree c.in_ok-part.part.cover.node) (part w.in_ok-value.value.cover.node none) = w.nodes-is ∙ w.in_ok-push.ensures.pushed ∙ (λ i. push (target i) (w.in_ok-into_expression.ensures.settled.0 i)) in
          let unmarked : c.if-not-is_name.item ≡ false = elim c.if-not-is_name.branch [
            | declarator-then-not-is_name u ↦ u.item-is ∙ ap not w.if-has_value.true
            | declarator-else-not-is_name u ↦ u.item-is ∙ ap not u.if-not-is_name.false
          ] in
          let is : it ≡ record { node = node VariableDeclarator [] plain c.next_start-start.result e.last.stop (part (pattern_tree c.in_ok-part.part.cover.node) (part w.in_ok-value.value.cover.node none)); shape = value; spreads = false; is_flagged = false; edge = w.in_ok-value.value.edge } =
          (λ i. record { node = (tree ∙ (λ j. node VariableDeclarator [] plain c.next_start-start.result (w.self-is j).cursor.last.stop (parts j))) i; shape = shape i; spreads = spreads i; is_flagged = unmarked i; edge = w.edge-is i }) in
          subst (λ z. Adds c.args.self.now.cursor z.cursor c.args.self.now.pairs.items z.pairs.items (ItemReads c.args.self.now.cursor.text (Declarators c.args.has_in) it)) (sym w.self-is)
          (declared_valued it starts c.at.ensures w.at-then-has_value.ensures c.in_ok-part.ensures.derived fits c.leftmost_operand.ensures.text (here.text ∙ c.leftmost_operand.ensures.text) here.same_open here.same_pairs w.if-has_value.ensures.accepted w.in_ok-value.ensures.derived w.in_ok-into_expression.ensures.settled.1 is)
      | declarator-else-has_value+in_ok-push_gap w ↦
          let e = c.accept_punctuator-has_value.new.self.cursor in
          let parts : c.if-has_value.nodes ≡ part (pattern_tree c.in_ok-part.part.cover.node) (gap none) = w.nodes-is ∙ w.in_ok-push_gap.ensures.pushed ∙ ap push_gap target in
          let named = named_where c.if-not-is_name.item c.is_ungrouped-is_name.result (elim c.if-not-is_name.branch [
            | declarator-then-not-is_name u ↦ u.item-is ∙ ap not w.if-has_value.false ∙ sym (ap not u.if-not-is_name.true)
            | declarator-else-not-is_name u ↦ u.item-is
          ]) c.is_ungrouped-is_name.ensures.bare in
          let is : it ≡ record { node = node VariableDeclarator [] plain c.next_start-start.result e.last.stop (part (pattern_tree c.in_ok-part.part.cover.node) (gap none)); shape = value; spreads = false; is_flagged = c.if-not-is_name.item; edge = Closed } =
          (λ i. record { node = (tree ∙ (λ j. node VariableDeclarator [] plain c.next_start-start.result (w.self-is j).cursor.last.stop (parts j))) i; shape = shape i; spreads = spreads i; is_flagged = c.if-not-is_name.item; edge = w.edge-is i }) in
          subst (λ z. Adds c.args.self.now.cursor z.cursor c.args.self.now.pairs.items z.pairs.items (ItemReads c.args.self.now.cursor.text (Declarators c.args.has_in) it)) (sym w.self-is)
          (declared_valueless it starts c.at.ensures c.in_ok-part.ensures.derived fits here.same_open here.same_pairs w.if-has_value.ensures.missed.1 (λ k. (named k).0) is)
    ]

pub declarator-returns-clause-own : goal.declarator-returns-clause-own
declarator-returns-clause-own t c =
    let text = c.args.self.now.cursor.text in
    let target : c.one-nodes.result ≡ part (pattern_tree c.in_ok-part.part.cover.node) none = c.one-nodes.ensures ∙ ap (λ n. part n none) c.in_ok-name.ensures.bound.0 in
    let tree : c.plain-item.result.node ≡ node VariableDeclarator [] plain c.next_start-start.result c.if-has_value.self.cursor.last.stop c.if-has_value.nodes = ap (λ x. x.node) c.plain-item.ensures ∙ c.in_ok-node.ensures.made.0 ∙ (λ i. node VariableDeclarator [] plain (c.span_from-span.ensures i).start (c.span_from-span.ensures i).end c.if-has_value.nodes) in
    elim c.if-has_value.branch [
      | declarator-then-has_value+in_ok-value+in_ok-into_expression+in_ok-push w ↦
          let parts : c.if-has_value.nodes ≡ part (pattern_tree c.in_ok-part.part.cover.node) (part w.in_ok-value.value.cover.node none) = w.nodes-is ∙ w.in_ok-push.ensures.pushed ∙ (λ i. push (target i) (w.in_ok-into_expression.ensures.settled.0 i)) in
          valued_own text c.in_ok-part.part.cover.node w.in_ok-value.value.cover.node tree parts c.in_ok-part.ensures.own (subst (λ x. OfLanguage x w.in_ok-value.value.cover.node) (c.accept_punctuator-has_value.ensures.text ∙ c.leftmost_operand.ensures.text) w.in_ok-value.ensures.own)
      | declarator-else-has_value+in_ok-push_gap w ↦
          let parts : c.if-has_value.nodes ≡ part (pattern_tree c.in_ok-part.part.cover.node) (gap none) = w.nodes-is ∙ w.in_ok-push_gap.ensures.pushed ∙ ap push_gap target in
          valueless_own text c.in_ok-part.part.cover.node tree parts c.in_ok-part.ensures.own
    ]

pub declarator-returns-in_err-part-clause-complete : goal.declarator-returns-in_err-part-clause-complete
declarator-returns-in_err-part-clause-complete t c =
    declarator_opening c.args.self.now.cursor c.leftmost_operand.new.self.cursor c.args.self.now.pairs.items c.leftmost_operand.new.self.pairs.items c.args.high c.args.has_in c.leftmost_operand.new.self.cursor c.leftmost_operand.new.self.pairs.items c.from_residual.result c.in_err-part.field-0.0 c.from_residual.ensures.1 c.at.ensures c.saturating_sub-inner.ensures c.in_err-part.ensures.complete

pub declarator-returns-in_err-name-clause-complete : goal.declarator-returns-in_err-name-clause-complete
declarator-returns-in_err-name-clause-complete t c =
    declarator_bound c.args.self.now.cursor c.leftmost_operand.new.self.cursor c.args.self.now.pairs.items c.leftmost_operand.new.self.pairs.items c.args.high c.args.has_in c.leftmost_operand.new.self.cursor c.leftmost_operand.new.self.pairs.items c.saturating_sub-inner.result c.in_ok-part.part c.at.ensures c.in_ok-part.ensures.complete
    c.leftmost_operand.new.self.cursor c.from_residual-in_err-name.result c.in_err-name.field-0.0 c.from_residual-in_err-name.ensures.1 c.in_err-name.ensures.bound

pub declarator-returns-in_err-value-clause-complete : goal.declarator-returns-in_err-value-clause-complete
declarator-returns-in_err-value-clause-complete t c =
    let here = c.accept_punctuator-has_value.ensures in
    let equals = subst (λ z. ReadsHere z Punctuator (codes "=") c.leftmost_operand.new.self.cursor.last c.accept_punctuator-has_value.new.self.cursor.last) c.leftmost_operand.ensures.text c.if-has_value.ensures.accepted in
    declarator_value c.args.self.now.cursor c.expression.new.self.cursor c.args.self.now.pairs.items c.expression.new.self.pairs.items c.args.high c.args.has_in c.leftmost_operand.new.self.cursor c.leftmost_operand.new.self.pairs.items c.saturating_sub-inner.result c.in_ok-part.part c.at.ensures c.in_ok-part.ensures.complete
    c.accept_punctuator-has_value.new.self.cursor equals c.next_start-start.ensures.starts c.expression.new.self.cursor c.accept_punctuator-has_value.new.self.pairs.items c.expression.new.self.pairs.items c.at-then-has_value.ensures (here.text ∙ c.leftmost_operand.ensures.text) c.from_residual-in_err-value.result c.in_err-value.field-0.0 c.from_residual-in_err-value.ensures.1 c.saturating_sub-inner.ensures
    (here.same_open ∙ c.in_ok-part.ensures.derived.same_open) c.in_err-value.ensures.complete

pub declarator-returns-in_err-into_expression-clause-complete : goal.declarator-returns-in_err-into_expression-clause-complete
declarator-returns-in_err-into_expression-clause-complete t c =
    let here = c.accept_punctuator-has_value.ensures in
    let equals = subst (λ z. ReadsHere z Punctuator (codes "=") c.leftmost_operand.new.self.cursor.last c.accept_punctuator-has_value.new.self.cursor.last) c.leftmost_operand.ensures.text c.if-has_value.ensures.accepted in
    declarator_settled c.args.self.now.cursor c.expression.new.self.cursor c.args.self.now.pairs.items c.expression.new.self.pairs.items c.args.high c.args.has_in c.leftmost_operand.new.self.cursor c.leftmost_operand.new.self.pairs.items c.saturating_sub-inner.result c.in_ok-part.part c.at.ensures c.in_ok-part.ensures.complete
    c.accept_punctuator-has_value.new.self.cursor equals c.next_start-start.ensures.starts c.expression.new.self.cursor c.accept_punctuator-has_value.new.self.pairs.items c.expression.new.self.pairs.items c.at-then-has_value.ensures (here.text ∙ c.leftmost_operand.ensures.text) c.in_ok-value.value c.in_ok-value.ensures.complete c.expression.new.self.cursor c.from_residual-in_err-into_expression.result c.in_err-into_expression.field-0.0 c.from_residual-in_err-into_expression.ensures.1 c.in_err-into_expression.ensures.settled

pub declarator-returns-in_err-node-clause-complete : goal.declarator-returns-in_err-node-clause-complete
declarator-returns-in_err-node-clause-complete t c =
    let here = c.accept_punctuator-has_value.ensures in
    let target : c.one-nodes.result ≡ part (pattern_tree c.in_ok-part.part.cover.node) none = c.one-nodes.ensures ∙ ap (λ n. part n none) c.in_ok-name.ensures.bound.0 in
    let span = c.span_from-span.ensures in
    elim c.if-has_value.branch [
      | declarator-then-has_value+in_ok-value+in_ok-into_expression+in_ok-push w ↦
          let equals = subst (λ z. ReadsHere z Punctuator (codes "=") c.leftmost_operand.new.self.cursor.last c.accept_punctuator-has_value.new.self.cursor.last) c.leftmost_operand.ensures.text w.if-has_value.ensures.accepted in
          let parts : c.if-has_value.nodes ≡ part (pattern_tree c.in_ok-part.part.cover.node) (part w.in_ok-value.value.cover.node none) = w.nodes-is ∙ w.in_ok-push.ensures.pushed ∙ (λ i. push (target i) (w.in_ok-into_expression.ensures.settled.0 i)) in
          declarator_valued_made c.args.self.now.cursor c.if-has_value.self.cursor c.args.self.now.pairs.items c.if-has_value.self.pairs.items c.args.high c.args.has_in c.leftmost_operand.new.self.cursor c.leftmost_operand.new.self.pairs.items c.saturating_sub-inner.result c.in_ok-part.part c.at.ensures c.in_ok-part.ensures.complete
          c.accept_punctuator-has_value.new.self.cursor equals c.next_start-start.ensures.starts w.expression.new.self.cursor c.accept_punctuator-has_value.new.self.pairs.items w.expression.new.self.pairs.items w.at-then-has_value.ensures (here.text ∙ c.leftmost_operand.ensures.text) w.in_ok-value.value w.in_ok-value.ensures.complete c.from_residual-in_err-node.result c.in_err-node.field-0.0 _ c.from_residual-in_err-node.ensures.1
          (λ j. node VariableDeclarator [] plain (span j).start (ap (λ (z : Parser). z.cursor.last.stop) w.self-is j) (parts j)) c.in_err-node.ensures.made
      | declarator-else-has_value+in_ok-push_gap w ↦
          let missed = subst (λ z. Misses z Punctuator (codes "=") c.leftmost_operand.new.self.cursor.last) c.leftmost_operand.ensures.text w.if-has_value.ensures.missed.0 in
          let last = ap (λ (z : Parser). z.cursor.last.stop) w.self-is ∙ ap (λ (z : Token). z.stop) w.if-has_value.ensures.missed.1 in
          let parts : c.if-has_value.nodes ≡ part (pattern_tree c.in_ok-part.part.cover.node) (gap none) = w.nodes-is ∙ w.in_ok-push_gap.ensures.pushed ∙ ap push_gap target in
          declarator_lone_made c.args.self.now.cursor c.if-has_value.self.cursor c.args.self.now.pairs.items c.if-has_value.self.pairs.items c.args.high c.args.has_in c.leftmost_operand.new.self.cursor c.leftmost_operand.new.self.pairs.items c.saturating_sub-inner.result c.in_ok-part.part c.at.ensures c.in_ok-part.ensures.complete
          missed c.next_start-start.ensures.starts c.from_residual-in_err-node.result c.in_err-node.field-0.0 _ c.from_residual-in_err-node.ensures.1
          (λ j. node VariableDeclarator [] plain (span j).start ((ap (λ x. x.end) span ∙ last) j) (parts j)) c.in_err-node.ensures.made
    ]

pub declarator-returns-clause-complete : goal.declarator-returns-clause-complete
declarator-returns-clause-complete t c =
    let here = c.accept_punctuator-has_value.ensures in
    let target : c.one-nodes.result ≡ part (pattern_tree c.in_ok-part.part.cover.node) none = c.one-nodes.ensures ∙ ap (λ n. part n none) c.in_ok-name.ensures.bound.0 in
    let tree : c.plain-item.result.node ≡ node VariableDeclarator [] plain c.next_start-start.result c.if-has_value.self.cursor.last.stop c.if-has_value.nodes = ap (λ x. x.node) c.plain-item.ensures ∙ c.in_ok-node.ensures.made.0 ∙ (λ i. node VariableDeclarator [] plain (c.span_from-span.ensures i).start (c.span_from-span.ensures i).end c.if-has_value.nodes) in
    let it : ListItem = record { node = c.plain-item.result.node; shape = c.plain-item.result.shape; spreads = c.plain-item.result.spreads; is_flagged = c.if-not-is_name.item; edge = c.if-has_value.edge } in
    elim c.if-has_value.branch [
      | declarator-then-has_value+in_ok-value+in_ok-into_expression+in_ok-push w ↦
          let e = w.expression.new.self in
          let equals = subst (λ z. ReadsHere z Punctuator (codes "=") c.leftmost_operand.new.self.cursor.last c.accept_punctuator-has_value.new.self.cursor.last) c.leftmost_operand.ensures.text w.if-has_value.ensures.accepted in
          let parts : c.if-has_value.nodes ≡ part (pattern_tree c.in_ok-part.part.cover.node) (part w.in_ok-value.value.cover.node none) = w.nodes-is ∙ w.in_ok-push.ensures.pushed ∙ (λ i. push (target i) (w.in_ok-into_expression.ensures.settled.0 i)) in
          let unmarked : c.if-not-is_name.item ≡ false = elim c.if-not-is_name.branch [
            | declarator-then-not-is_name u ↦ u.item-is ∙ ap not w.if-has_value.true
            | declarator-else-not-is_name u ↦ u.item-is ∙ ap not u.if-not-is_name.false
          ] in
          declarator_valued c.args.self.now.cursor c.if-has_value.self.cursor c.args.self.now.pairs.items c.if-has_value.self.pairs.items c.args.high c.args.has_in c.leftmost_operand.new.self.cursor c.leftmost_operand.new.self.pairs.items c.saturating_sub-inner.result c.in_ok-part.part c.at.ensures c.in_ok-part.ensures.complete
          c.accept_punctuator-has_value.new.self.cursor equals c.next_start-start.ensures.starts w.expression.new.self.cursor c.accept_punctuator-has_value.new.self.pairs.items w.expression.new.self.pairs.items w.at-then-has_value.ensures (here.text ∙ c.leftmost_operand.ensures.text) w.in_ok-value.value w.in_ok-value.ensures.complete it unmarked (ap (λ x. x.shape.is_expression) c.plain-item.ensures)
          (tree ∙ (λ j. node VariableDeclarator [] plain c.next_start-start.result (w.self-is j).cursor.last.stop (parts j))) here.same_pairs (ap (λ z. z.cursor.last) w.self-is) (ap (λ z. z.pairs.items) w.self-is)
      | declarator-else-has_value+in_ok-push_gap w ↦
          let missed = subst (λ z. Misses z Punctuator (codes "=") c.leftmost_operand.new.self.cursor.last) c.leftmost_operand.ensures.text w.if-has_value.ensures.missed.0 in
          let last = ap (λ z. z.cursor.last) w.self-is ∙ w.if-has_value.ensures.missed.1 in
          let parts : c.if-has_value.nodes ≡ part (pattern_tree c.in_ok-part.part.cover.node) (gap none) = w.nodes-is ∙ w.in_ok-push_gap.ensures.pushed ∙ ap push_gap target in
          let marked : c.if-not-is_name.item ≡ not c.is_ungrouped-is_name.result = elim c.if-not-is_name.branch [
            | declarator-then-not-is_name u ↦ u.item-is ∙ ap not w.if-has_value.false ∙ sym (ap not u.if-not-is_name.true)
            | declarator-else-not-is_name u ↦ u.item-is
          ] in
          declarator_lone c.args.self.now.cursor c.if-has_value.self.cursor c.args.self.now.pairs.items c.if-has_value.self.pairs.items c.args.high c.args.has_in c.leftmost_operand.new.self.cursor c.leftmost_operand.new.self.pairs.items c.saturating_sub-inner.result c.in_ok-part.part c.at.ensures c.in_ok-part.ensures.complete
          missed c.next_start-start.ensures.starts it (λ k g. unmarked_name c.if-not-is_name.item c.is_ungrouped-is_name.result _ marked c.is_ungrouped-is_name.ensures.other k g) w.edge-is (ap (λ x. x.shape.is_expression) c.plain-item.ensures)
          (tree ∙ (λ j. node VariableDeclarator [] plain c.next_start-start.result ((ap (λ (x : Token). x.stop) last) j) (parts j))) last (ap (λ z. z.pairs.items) w.self-is ∙ here.same_pairs)
    ]

pub item-returns-in-Elements-clause-low : goal.item-returns-in-Elements-clause-low
item-returns-in-Elements-clause-low t c = low_hole c.args.list.now _ c.args.high c.push_hole.result c.push_hole.ensures.pushed

pub item-returns-in-Elements-clause-own : goal.item-returns-in-Elements-clause-own
item-returns-in-Elements-clause-own t c = own_hole c.args.self.now.cursor.text c.args.list.now _ c.push_hole.result c.push_hole.ensures.pushed

pub special_item-returns-in_ok-item-in-Properties-clause-low : goal.special_item-returns-in_ok-item-in-Properties-clause-low
special_item-returns-in_ok-item-in-Properties-clause-low t c = low_item c.args.list.now _ c.in_ok-item-in-Properties.item c.args.high c.push.result c.push.ensures.pushed c.in_ok-item-in-Properties.ensures.low

pub special_item-returns-in_ok-item-in-Properties-clause-own : goal.special_item-returns-in_ok-item-in-Properties-clause-own
special_item-returns-in_ok-item-in-Properties-clause-own t c = own_item c.args.self.now.cursor.text c.args.list.now _ c.in_ok-item-in-Properties.item c.push.result c.push.ensures.pushed c.in_ok-item-in-Properties.ensures.own

pub special_item-returns-in_ok-item-in-Members-clause-own : goal.special_item-returns-in_ok-item-in-Members-clause-own
special_item-returns-in_ok-item-in-Members-clause-own t c = own_item c.args.self.now.cursor.text c.args.list.now _ c.in_ok-item-in-Members.item c.push-in-Members.result c.push-in-Members.ensures.pushed c.in_ok-item-in-Members.ensures.own

pub special_item-returns-in_ok-item-in-Declarators-clause-own : goal.special_item-returns-in_ok-item-in-Declarators-clause-own
special_item-returns-in_ok-item-in-Declarators-clause-own t c = own_item c.args.self.now.cursor.text c.args.list.now _ c.in_ok-item-in-Declarators.item c.push-in-Declarators.result c.push-in-Declarators.ensures.pushed c.in_ok-item-in-Declarators.ensures.own

pub special_item-returns-in_ok-next_template_element-in-Template-clause-own : goal.special_item-returns-in_ok-next_template_element-in-Template-clause-own
special_item-returns-in_ok-next_template_element-in-Template-clause-own t c =
    let settled = c.in_ok-into_expression-in-Template.ensures.settled in
    let first = c.in_ok-push-in-Template.ensures.pushed ∙ ap (with_item c.args.list.now) (c.plain.ensures ∙ ap (λ n. item_from n value false Closed) settled.0) in
    own_chunk c.args.self.now.cursor.text _ _ c.args.list.now c.push-in-Template.new.self _ c.in_ok-part-in-Template.part c.in_ok-next_template_element-in-Template.field-0 c.push-in-Template-2.result first c.push-in-Template-2.ensures.pushed c.in_ok-part-in-Template.ensures.own c.in_ok-next_template_element-in-Template.ensures.read

pub special_item-returns-in_ok-item-in-Sequence-clause-own : goal.special_item-returns-in_ok-item-in-Sequence-clause-own
special_item-returns-in_ok-item-in-Sequence-clause-own t c =
    own_item c.args.self.now.cursor.text c.args.list.now _ c.in_ok-item-in-Sequence.item c.push-in-Sequence.result c.push-in-Sequence.ensures.pushed
    (element_own c.args.self.now.cursor.text false c.next_start-start.result c.expression-in-Sequence.new.self.cursor.last.stop c.in_ok-part-in-Sequence.part c.in_ok-item-in-Sequence.item c.in_ok-item-in-Sequence.ensures.made.0 c.in_ok-part-in-Sequence.ensures.own)

pub special_item-returns-in_ok-finish_plain-in-Cases-clause-own : goal.special_item-returns-in_ok-finish_plain-in-Cases-clause-own
special_item-returns-in_ok-finish_plain-in-Cases-clause-own t c =
    let d = c.in_ok-is_default-in-Cases.is_default in
    let it : ListItem = record { node = c.plain-item.result.node; shape = c.plain-item.result.shape; spreads = c.plain-item.result.spreads; is_flagged = d; edge = c.plain-item.result.edge } in
    let tree : c.plain-item.result.node ≡ node SwitchCase [] plain c.next_start-start.result c.read_symbols.new.self.cursor.last.stop c.read_symbols.new.built.nodes = ap (λ (x : ListItem). x.node) c.plain-item.ensures ∙ c.in_ok-finish_plain-in-Cases.ensures.made.0 ∙ (λ i. node SwitchCase [] plain (c.span_from-span.ensures i).start (c.span_from-span.ensures i).end c.read_symbols.new.built.nodes) in
    let empty : c.if-is_default.built.nodes ≡ case_nodes d none = elim c.if-is_default.branch [
      | special_item-then-is_default+in_ok-push_gap-in-Cases w ↦ ap (λ x. x.nodes) w.built-is ∙ w.in_ok-push_gap-in-Cases.ensures.pushed ∙ ap push_gap (ap (λ x. x.nodes) c.new-built.ensures) ∙ ap (λ b. case_nodes b none) (sym w.if-is_default.true)
      | special_item-else-is_default w ↦ ap (λ x. x.nodes) w.built-is ∙ ap (λ x. x.nodes) c.new-built.ensures ∙ ap (λ b. case_nodes b none) (sym w.if-is_default.false)
    ] in
    let there : c.if-is_default.self.cursor ≡ c.is_default.new.self.cursor = elim c.if-is_default.branch [
      | special_item-then-is_default+in_ok-push_gap-in-Cases w ↦ ap (λ v. v.cursor) w.self-is
      | special_item-else-is_default w ↦ ap (λ v. v.cursor) w.self-is
    ] in
    own_item c.args.self.now.cursor.text c.args.list.now _ it c.push-in-Cases.result c.push-in-Cases.ensures.pushed
    (subst (λ x. OfLanguage x c.plain-item.result.node) (ap (λ z. z.text) there ∙ c.is_default.ensures.text) (case_own c.if-is_default.self.cursor.text d tree empty c.in_ok-read_symbols-in-Cases.ensures.own))

pub special_item-returns-in_ok-item-in-Properties-clause-derived : goal.special_item-returns-in_ok-item-in-Properties-clause-derived
special_item-returns-in_ok-item-in-Properties-clause-derived t c = taken_item c.args.list.now _ c.in_ok-item-in-Properties.item _ c.push.result (ap is_chunked c.in-Properties.is) c.push.ensures.pushed c.push.ensures.taken (not_covers c.args.list.now.listed Properties c.in-Properties.is refl) (of_text c.in_ok-item-in-Properties.item c.in-Properties.is c.in_ok-item-in-Properties.ensures.derived)

pub special_item-returns-in_ok-item-in-Members-clause-low : goal.special_item-returns-in_ok-item-in-Members-clause-low
special_item-returns-in_ok-item-in-Members-clause-low t c = low_item c.args.list.now _ c.in_ok-item-in-Members.item c.args.high c.push-in-Members.result c.push-in-Members.ensures.pushed c.in_ok-item-in-Members.ensures.low

pub special_item-returns-in_ok-item-in-Members-clause-derived : goal.special_item-returns-in_ok-item-in-Members-clause-derived
special_item-returns-in_ok-item-in-Members-clause-derived t c = taken_item c.args.list.now _ c.in_ok-item-in-Members.item _ c.push-in-Members.result (ap is_chunked c.in-Members.is) c.push-in-Members.ensures.pushed c.push-in-Members.ensures.taken (not_covers c.args.list.now.listed Members c.in-Members.is refl) (of_text c.in_ok-item-in-Members.item c.in-Members.is c.in_ok-item-in-Members.ensures.derived)

pub special_item-returns-in_ok-item-in-Declarators-clause-low : goal.special_item-returns-in_ok-item-in-Declarators-clause-low
special_item-returns-in_ok-item-in-Declarators-clause-low t c = low_item c.args.list.now _ c.in_ok-item-in-Declarators.item c.args.high c.push-in-Declarators.result c.push-in-Declarators.ensures.pushed c.in_ok-item-in-Declarators.ensures.low

pub special_item-returns-in_ok-item-in-Declarators-clause-derived : goal.special_item-returns-in_ok-item-in-Declarators-clause-derived
special_item-returns-in_ok-item-in-Declarators-clause-derived t c = taken_item c.args.list.now _ c.in_ok-item-in-Declarators.item _ c.push-in-Declarators.result (ap is_chunked c.in-Declarators.is) c.push-in-Declarators.ensures.pushed c.push-in-Declarators.ensures.taken
    (not_covers c.args.list.now.listed (Declarators c.in-Declarators.has_in) c.in-Declarators.is refl) (of_text c.in_ok-item-in-Declarators.item c.in-Declarators.is c.in_ok-item-in-Declarators.ensures.derived)

pub special_item-returns-in_ok-next_template_element-in-Template-clause-low : goal.special_item-returns-in_ok-next_template_element-in-Template-clause-low
special_item-returns-in_ok-next_template_element-in-Template-clause-low t c =
    let settled = c.in_ok-into_expression-in-Template.ensures.settled in
    let first = c.in_ok-push-in-Template.ensures.pushed ∙ ap (with_item c.args.list.now) (c.plain.ensures ∙ ap (λ n. item_from n value false Closed) settled.0) in
    low_chunk c.next_template_element.new.self.cursor.text _ c.next_template_element.new.self.cursor.last c.args.list.now c.push-in-Template.new.self _ c.in_ok-part-in-Template.part c.in_ok-next_template_element-in-Template.field-0 c.args.high c.push-in-Template-2.result first c.push-in-Template-2.ensures.pushed c.in_ok-part-in-Template.ensures.low
    (subst (λ t. ChunkAt t c.expression.new.self.cursor.last c.next_template_element.new.self.cursor.last c.in_ok-next_template_element-in-Template.field-0.node c.in_ok-next_template_element-in-Template.field-0.is_flagged) (sym c.next_template_element.ensures.text) c.in_ok-next_template_element-in-Template.ensures.read)

pub special_item-returns-in_ok-next_template_element-in-Template-clause-derived : goal.special_item-returns-in_ok-next_template_element-in-Template-clause-derived
special_item-returns-in_ok-next_template_element-in-Template-clause-derived t c =
    let settled = c.in_ok-into_expression-in-Template.ensures.settled in
    let first = c.in_ok-push-in-Template.ensures.pushed ∙ ap (with_item c.args.list.now) (c.plain.ensures ∙ ap (λ n. item_from n value false Closed) settled.0) in
    chunk_item _ c.args.list.now c.push-in-Template.new.self _ c.in_ok-part-in-Template.part c.in_ok-next_template_element-in-Template.field-0 c.push-in-Template-2.result refl c.in-Template.is first c.push-in-Template-2.ensures.pushed c.expression.ensures.text c.in_ok-part-in-Template.ensures.derived settled.1 c.next_template_element.ensures.same_open c.next_template_element.ensures.same_pairs c.in_ok-next_template_element-in-Template.ensures.read

pub special_item-returns-in_ok-item-in-Sequence-clause-low : goal.special_item-returns-in_ok-item-in-Sequence-clause-low
special_item-returns-in_ok-item-in-Sequence-clause-low t c =
    low_item c.args.list.now _ c.in_ok-item-in-Sequence.item c.args.high c.push-in-Sequence.result c.push-in-Sequence.ensures.pushed
    (element_low false c.next_start-start.result c.expression-in-Sequence.new.self.cursor.last.stop c.in_ok-part-in-Sequence.part c.in_ok-item-in-Sequence.item c.args.high c.in_ok-item-in-Sequence.ensures.made.0 c.in_ok-item-in-Sequence.ensures.made.1 (λ h. c.in_ok-part-in-Sequence.ensures.low))

pub special_item-returns-in_ok-item-in-Sequence-clause-derived : goal.special_item-returns-in_ok-item-in-Sequence-clause-derived
special_item-returns-in_ok-item-in-Sequence-clause-derived t c =
    taken_item c.args.list.now _ c.in_ok-item-in-Sequence.item _ c.push-in-Sequence.result (ap is_chunked c.in-Sequence.is) c.push-in-Sequence.ensures.pushed c.push-in-Sequence.ensures.taken
    (not_covers c.args.list.now.listed (Sequence c.in-Sequence.has_in) c.in-Sequence.is refl)
    (of_text c.in_ok-item-in-Sequence.item c.in-Sequence.is (alone_item (Sequence c.in-Sequence.has_in) c.next_start-start.result c.in_ok-part-in-Sequence.part c.in_ok-item-in-Sequence.item c.at.ensures refl c.in_ok-item-in-Sequence.ensures.made.0 c.in_ok-part-in-Sequence.ensures.derived))

pub spread_item-returns-clause-derived : goal.spread_item-returns-clause-derived
spread_item-returns-clause-derived t c =
    let kind = of_elements c.args.list.now.listed c.requires.element in
    let part = c.in_ok-part.part in
    let item = c.in_ok-item.item in
    let made = c.in_ok-item.ensures.made.0 in
    let is = elements_only c.args.list.now.listed kind in
    taken_item c.args.list.now _ item _ c.push.result is.2 c.push.ensures.pushed c.push.ensures.taken
    (λ covers alone. never_spreads _ _ part item made alone)
    (spread_item c.args.list.now.listed c.next_start-start.result part item refl is.0 is.1 made c.next_start-start.ensures.starts c.in_ok-expect_punctuator.ensures.accepted.0 c.expect_punctuator.ensures.text c.expect_punctuator.ensures.same_open c.expect_punctuator.ensures.same_pairs c.in_ok-part.ensures.derived)

pub spread_item-returns-clause-low : goal.spread_item-returns-clause-low
spread_item-returns-clause-low t c =
    low_item c.args.list.now _ c.in_ok-item.item c.args.high c.push.result c.push.ensures.pushed
    (element_low true c.next_start-start.result c.expression.new.self.cursor.last.stop c.in_ok-part.part c.in_ok-item.item c.args.high c.in_ok-item.ensures.made.0 c.in_ok-item.ensures.made.1 (λ h. cc))

pub spread_item-returns-clause-own : goal.spread_item-returns-clause-own
spread_item-returns-clause-own t c =
    own_item c.args.self.now.cursor.text c.args.list.now _ c.in_ok-item.item c.push.result c.push.ensures.pushed
    (element_own c.args.self.now.cursor.text true c.next_start-start.result c.expression.new.self.cursor.last.stop c.in_ok-part.part c.in_ok-item.item c.in_ok-item.ensures.made.0 (subst (λ x. OfLanguage x c.in_ok-part.part.cover.node) c.expect_punctuator.ensures.text c.in_ok-part.ensures.own))

pub item-returns-in_ok-item-in_default-clause-own : goal.item-returns-in_ok-item-in_default-clause-own
item-returns-in_ok-item-in_default-clause-own t c =
    own_item c.args.self.now.cursor.text c.args.list.now _ c.in_ok-item-in_default.item c.push.result c.push.ensures.pushed
    (element_own c.args.self.now.cursor.text false c.next_start-start.result c.expression.new.self.cursor.last.stop c.in_ok-part-in_default.part c.in_ok-item-in_default.item c.in_ok-item-in_default.ensures.made.0 c.in_ok-part-in_default.ensures.own)

pub item-returns-in_ok-item-in_default-clause-low : goal.item-returns-in_ok-item-in_default-clause-low
item-returns-in_ok-item-in_default-clause-low t c =
    low_item c.args.list.now _ c.in_ok-item-in_default.item c.args.high c.push.result c.push.ensures.pushed
    (element_low false c.next_start-start.result c.expression.new.self.cursor.last.stop c.in_ok-part-in_default.part c.in_ok-item-in_default.item c.args.high c.in_ok-item-in_default.ensures.made.0 c.in_ok-item-in_default.ensures.made.1 (λ h. c.in_ok-part-in_default.ensures.low))

pub item-returns-in_ok-item-in_default-clause-derived : goal.item-returns-in_ok-item-in_default-clause-derived
item-returns-in_ok-item-in_default-clause-derived t c =
    let kind : (lists_elements c.args.list.now.listed && not (asks_edge c.args.list.now.listed)) ≡ true = elim c.in_default.branch [
      | item-in_default-via-in-Elements+else-sees_punctuator w ↦ is_an_element c.args.list.now.listed Elements w.in-Elements.is refl
      | item-in_default-via-in_default w ↦ default_kind c.args.list.now.listed w.in_default.not-Properties w.in_default.not-Members w.in_default.not-Template w.in_default.not-Sequence w.in_default.not-Declarators w.in_default.not-Cases
    ] in
    let is = elements_only c.args.list.now.listed kind in
    let part = c.in_ok-part-in_default.part in
    let item = c.in_ok-item-in_default.item in
    let made = c.in_ok-item-in_default.ensures.made.0 in
    taken_item c.args.list.now _ item _ c.push.result is.2 c.push.ensures.pushed c.push.ensures.taken
    (λ covers alone target. subst (λ x. is_simple (kind_of x) ≡ true) (sym (ap (λ (x : ListItem). x.node) made)) (simple_part part refl c.in_ok-part-in_default.ensures.derived (sym (ap (λ (x : ListItem). is_target x.shape.assigned) made) ∙ target)))
    (alone_behind c.args.list.now.listed c.next_start-start.result part item refl is.0 is.1 made refl refl refl refl c.in_ok-part-in_default.ensures.derived)

pub special_item-returns-in_ok-finish_plain-in-Cases-clause-low : goal.special_item-returns-in_ok-finish_plain-in-Cases-clause-low
special_item-returns-in_ok-finish_plain-in-Cases-clause-low t c =
    let d = c.in_ok-is_default-in-Cases.is_default in
    let it : ListItem = record { node = c.plain-item.result.node; shape = c.plain-item.result.shape; spreads = c.plain-item.result.spreads; is_flagged = d; edge = c.plain-item.result.edge } in
    let tree : c.plain-item.result.node ≡ c.in_ok-finish_plain-in-Cases.field-0 = ap (λ (x : ListItem). x.node) c.plain-item.ensures in
    low_item c.args.list.now _ it c.args.high c.push-in-Cases.result c.push-in-Cases.ensures.pushed (subst (λ x. height x ≤ c.args.high) (sym (tree ∙ c.in_ok-finish_plain-in-Cases.ensures.made.0)) c.in_ok-finish_plain-in-Cases.ensures.made.1)

pub special_item-returns-in_ok-finish_plain-in-Cases-clause-derived : goal.special_item-returns-in_ok-finish_plain-in-Cases-clause-derived
special_item-returns-in_ok-finish_plain-in-Cases-clause-derived t c =
    let d = c.in_ok-is_default-in-Cases.is_default in
    let it : ListItem = record { node = c.plain-item.result.node; shape = c.plain-item.result.shape; spreads = c.plain-item.result.spreads; is_flagged = d; edge = c.plain-item.result.edge } in
    let tree : c.plain-item.result.node ≡ node SwitchCase [] plain c.next_start-start.result c.read_symbols.new.self.cursor.last.stop c.read_symbols.new.built.nodes = ap (λ (x : ListItem). x.node) c.plain-item.ensures ∙ c.in_ok-finish_plain-in-Cases.ensures.made.0 ∙ (λ i. node SwitchCase [] plain (c.span_from-span.ensures i).start (c.span_from-span.ensures i).end c.read_symbols.new.built.nodes) in
    let item : it ≡ record { node = node SwitchCase [] plain c.next_start-start.result c.read_symbols.new.self.cursor.last.stop c.read_symbols.new.built.nodes; shape = value; spreads = false; is_flagged = d; edge = Closed } =
    (λ i. record { node = tree i; shape = (c.plain-item.ensures i).shape; spreads = (c.plain-item.ensures i).spreads; is_flagged = d; edge = (c.plain-item.ensures i).edge }) in
    let empty : c.if-is_default.built.nodes ≡ case_nodes d none = elim c.if-is_default.branch [
      | special_item-then-is_default+in_ok-push_gap-in-Cases w ↦ ap (λ x. x.nodes) w.built-is ∙ w.in_ok-push_gap-in-Cases.ensures.pushed ∙ ap push_gap (ap (λ x. x.nodes) c.new-built.ensures) ∙ ap (λ b. case_nodes b none) (sym w.if-is_default.true)
      | special_item-else-is_default w ↦ ap (λ x. x.nodes) w.built-is ∙ ap (λ x. x.nodes) c.new-built.ensures ∙ ap (λ b. case_nodes b none) (sym w.if-is_default.false)
    ] in
    let there : c.if-is_default.self.cursor ≡ c.is_default.new.self.cursor = elim c.if-is_default.branch [
      | special_item-then-is_default+in_ok-push_gap-in-Cases w ↦ ap (λ v. v.cursor) w.self-is
      | special_item-else-is_default w ↦ ap (λ v. v.cursor) w.self-is
    ] in
    let paired : c.if-is_default.self.pairs.items ≡ c.is_default.new.self.pairs.items = elim c.if-is_default.branch [
      | special_item-then-is_default+in_ok-push_gap-in-Cases w ↦ ap (λ v. v.pairs.items) w.self-is
      | special_item-else-is_default w ↦ ap (λ v. v.pairs.items) w.self-is
    ] in
    let read = subst (λ z. Adds z c.read_symbols.new.self.cursor c.is_default.new.self.pairs.items c.read_symbols.new.self.pairs.items (BuiltAt z.text c.item-context.result.returns (map piece_of c.case_symbols.result.now) c.if-is_default.built c.read_symbols.new.built)) there
    (subst (λ ps. Adds c.if-is_default.self.cursor c.read_symbols.new.self.cursor ps c.read_symbols.new.self.pairs.items (BuiltAt c.if-is_default.self.cursor.text c.item-context.result.returns (map piece_of c.case_symbols.result.now) c.if-is_default.built c.read_symbols.new.built)) paired c.in_ok-read_symbols-in-Cases.ensures.derived) in
    taken_item c.args.list.now _ it _ c.push-in-Cases.result (ap is_chunked c.in-Cases.is) c.push-in-Cases.ensures.pushed c.push-in-Cases.ensures.taken (not_covers c.args.list.now.listed (Cases c.in-Cases.returns) c.in-Cases.is refl)
    (of_text it c.in-Cases.is (case_taken c.in-Cases.returns d c.next_start-start.result c.if-is_default.built c.read_symbols.new.built c.item-context.result _ it c.item-context.ensures c.case_symbols.ensures c.next_start-start.ensures.starts c.in_ok-is_default-in-Cases.ensures.accepted c.is_default.ensures.text c.is_default.ensures.same_open c.is_default.ensures.same_pairs empty read item))

pub list-items-init : goal.list-items-init
list-items-init t c =
    let listed : c.if-not-matches.list.listed ≡ c.args.list.listed = elim c.if-not-matches.branch [
      | list-then-not-matches w ↦ ap (λ x. x.listed) w.list-is
      | list-else-not-matches w ↦ ap (λ x. x.listed) w.list-is
    ] in
    let nodes : c.if-not-matches.list.nodes ≡ c.args.list.nodes = elim c.if-not-matches.branch [
      | list-then-not-matches w ↦ ap (λ x. x.nodes) w.list-is
      | list-else-not-matches w ↦ ap (λ x. x.nodes) w.list-is
    ] in
    let seen : c.if-not-matches.list.seen ≡ c.args.list.seen = elim c.if-not-matches.branch [
      | list-then-not-matches w ↦ ap (λ x. x.seen) w.list-is
      | list-else-not-matches w ↦ ap (λ x. x.seen) w.list-is
    ] in
    let span : c.if-not-matches.list.span ≡ c.args.list.span = elim c.if-not-matches.branch [
      | list-then-not-matches w ↦ ap (λ x. x.span) w.list-is
      | list-else-not-matches w ↦ ap (λ x. x.span) w.list-is
    ] in
    record {
      same = refl;
      forward = omega arith;
      derived = adds_none refl refl (λ o. further_first c.args.self.now.cursor.text c.args.list c.if-not-matches.list o c.args.self.now.cursor.last listed nodes seen);
      waits = λ base h. h ∙ ap (join base) (sym nodes);
      listed = listed;
      start = ap (λ x. x.start) span;
      low = λ h. subst (λ x. parts_height x ≤ c.args.high) (sym nodes) h;
      own = λ h. subst (λ x. AllOfLanguage c.args.self.now.cursor.text x) (sym nodes) h;
      seen = same_right c.args.list c.if-not-matches.list listed nodes seen;
      complete = reaches_first c.args.self.now.cursor.text c.args.list c.if-not-matches.list c.args.self.now.cursor c.args.self.now.pairs.items listed nodes seen;
      begins = λ covers. elim c.if-not-matches.branch [
        | list-then-not-matches w ↦ subst (BeginsBy c.args.self.now.cursor) (sym (ap (λ x. x.inside.start) w.list-is ∙ ap (λ x. x.start) w.span_from-list.ensures)) w.operand_start.ensures
        | list-else-not-matches w ↦ elim c.match-matches.branch [
          | list-in-Sequence u ↦ not_a_sequence c.args.list.listed u.in-Sequence.has_in u.in-Sequence.is covers
          | list-in_default u ↦ absurd (false≢true (sym u.matches-is ∙ w.if-not-matches.false))
        ]
      ];
    }

pub list-items-preserved : goal.list-items-preserved
list-items-preserved t c =
    let v = c.items.invariant in
    let on = v.forward in
    let passed = c.has_item.ensures.forward in
    let further = c.item.ensures.forward in
    let after = c.is_separated.ensures.forward in
    let separated = c.is_separated.ensures.separated in
    let places = item_places c.in_ok-item.ensures.derived in
    let k2 : ListBuilder = record c.item.new.list { inside = c.span_from-list-in-items.result } in
    record {
      same = c.is_separated.ensures.text ∙ c.item.ensures.text ∙ c.has_item.ensures.text ∙ v.same;
      forward = omega arith;
      derived = further_item c.args.list c.items.list c.item.new.list k2 c.is_separated.new.list v.derived v.same c.items-test.ensures.passed c.has_item.ensures.text c.has_item.ensures.same_open c.has_item.ensures.same_pairs c.items-test.ensures.item.0 c.in_ok-item.ensures.derived c.item.ensures.text refl refl refl c.is_separated.ensures.same_open c.is_separated.ensures.same_pairs c.if-not-is_separated.ensures.comma (separated ∙ ap (after_item k2) c.if-not-is_separated.false);
      waits = λ base h. c.is_separated.ensures.same_tree ∙ c.in_ok-item.ensures.waits base (c.has_item.ensures.same_tree ∙ v.waits base h) ∙ ap (join base) (sym (ap (λ x. x.nodes) separated ∙ after_nodes k2 c.is_separated.result));
      listed = c.is_separated.ensures.listed ∙ c.item.ensures.listed ∙ v.listed;
      start = ap (λ x. x.span.start) separated ∙ after_start k2 c.is_separated.result ∙ places.0 ∙ v.start;
      low = λ h. subst (λ x. parts_height x ≤ c.args.high) (sym (ap (λ x. x.nodes) separated ∙ after_nodes k2 c.is_separated.result)) (c.in_ok-item.ensures.low (v.low h));
      own = λ h. subst (λ x. AllOfLanguage c.args.self.now.cursor.text x) (sym (ap (λ x. x.nodes) separated ∙ after_nodes k2 c.is_separated.result))
          (subst (λ y. AllOfLanguage y c.items.list.nodes → AllOfLanguage y c.item.new.list.nodes) (c.has_item.ensures.text ∙ v.same) c.in_ok-item.ensures.own (v.own h));
      seen = λ h. subst SeenRight (sym separated) (right_after k2 c.is_separated.result (same_right c.item.new.list k2 refl refl refl (right_items c.items.list c.item.new.list c.in_ok-item.ensures.derived (v.seen h))));
      complete = reached_more {s = c.args.self.now.cursor} {m = c.items.self.cursor} {t = c.has_item.new.self.cursor} {e = c.item.new.self.cursor} {x = c.is_separated.new.self.cursor} {old = c.args.self.now.pairs.items} {mid = c.items.self.pairs.items} {tmid = c.has_item.new.self.pairs.items} {emid = c.item.new.self.pairs.items} {new = c.is_separated.new.self.pairs.items} c.args.high c.args.list c.items.list c.item.new.list k2 c.is_separated.new.list tt v.complete v.listed v.same c.items-test.ensures.passed c.items-test.ensures.first c.has_item.ensures.text c.has_item.ensures.same_pairs c.items-test.ensures.item.0 c.items-test.ensures.item.1 c.in_ok-item.ensures.complete c.item.ensures.text c.item.ensures.listed refl refl refl c.if-not-is_separated.ensures.comma (separated ∙ ap (after_item k2) c.if-not-is_separated.false) c.is_separated.ensures.same_pairs;
      begins = λ covers. subst (BeginsBy c.args.self.now.cursor) (sym (ap (λ x. x.inside.start) separated ∙ after_inside k2 c.is_separated.result ∙ ap (λ x. x.start) c.span_from-list-in-items.ensures ∙ places.1)) (v.begins covers);
    }

pub list-returns-clause-seen : goal.list-returns-clause-seen
list-returns-clause-seen t c = λ h. same_right c.items-test.list _ refl refl refl (elim c.items-test.branch [
  | list-else-items-test w ↦ subst SeenRight (sym w.list-is) (c.items.invariant.seen h)
  | list-then-items-test+in_ok-item+then-not-is_separated w ↦
      let k2 : ListBuilder = record w.item.new.list { inside = w.span_from-list-in-items.result } in
      subst SeenRight (sym (w.list-is ∙ w.is_separated.ensures.separated)) (right_after k2 w.is_separated.result (same_right w.item.new.list k2 refl refl refl (right_items c.items.list w.item.new.list w.in_ok-item.ensures.derived (c.items.invariant.seen h))))
])

pub arrow_function-returns-then-sees_punctuator-clause-derived : goal.arrow_function-returns-then-sees_punctuator-clause-derived
arrow_function-returns-then-sees_punctuator-clause-derived t c =
    let tree : c.in_ok-node.node ≡ node ArrowFunctionExpression [] (bodied c.args.form) c.args.start c.read_symbols.new.self.cursor.last.stop c.read_symbols.new.built.nodes =
    c.in_ok-node.ensures.made.0 ∙ ap (λ g. node ArrowFunctionExpression [] g c.args.start c.read_symbols.new.self.cursor.last.stop c.read_symbols.new.built.nodes) c.arrow_flags-flags.ensures in
    arrow_block c.of-built.result c.read_symbols.new.built c.in_ok-node.node c.plain.result c.expect_punctuator.ensures.text c.expect_punctuator.ensures.same_open c.expect_punctuator.ensures.same_pairs c.in_ok-expect_punctuator.ensures.accepted.0 c.of-built.ensures c.body_symbols.ensures c.in_ok-read_symbols.ensures.derived tree c.plain.ensures

pub arrow_function-returns-clause-derived : goal.arrow_function-returns-clause-derived
arrow_function-returns-clause-derived t c =
    let parts : c.push.new.self ≡ push c.args.parameters c.in_ok-into_expression.field-0 = c.in_ok-push.ensures.pushed ∙ ap (λ b. push b.nodes c.in_ok-into_expression.field-0) c.of-built.ensures in
    let tree : c.in_ok-node-2.node ≡ node ArrowFunctionExpression [] (concise c.args.form) c.args.start c.expression.new.self.cursor.last.stop c.push.new.self =
    c.in_ok-node-2.ensures.made.0 ∙ ap (λ g. node ArrowFunctionExpression [] g c.args.start c.expression.new.self.cursor.last.stop c.push.new.self) c.arrow_flags-flags-2.ensures in
    arrow_concise c.in_ok-body.body c.in_ok-node-2.node c.in_ok-into_expression.field-0 c.plain-2.result c.expect_punctuator.ensures.text c.expect_punctuator.ensures.same_open c.expect_punctuator.ensures.same_pairs c.in_ok-expect_punctuator.ensures.accepted.0 c.concise_body.ensures c.in_ok-body.ensures.derived c.in_ok-into_expression.ensures.settled.0 c.in_ok-into_expression.ensures.settled.1 parts tree c.plain-2.ensures

pub arrow_function-returns-in_err-expect_punctuator-clause-complete : goal.arrow_function-returns-in_err-expect_punctuator-clause-complete
arrow_function-returns-in_err-expect_punctuator-clause-complete t c =
    arrow_unsigned c.args.self.now.cursor c.args.self.now.cursor c.args.self.now.pairs.items c.args.self.now.pairs.items c.args.high c.args.high c.args.parameters c.args.start c.args.form c.args.has_in c.expect_punctuator.new.self.cursor c.expect_punctuator.new.self.pairs.items c.from_residual.result c.in_err-expect_punctuator.field-0.0
    c.from_residual.ensures.1 c.in_err-expect_punctuator.ensures.missed.0

pub arrow_function-returns-in_err-read_symbols-clause-complete : goal.arrow_function-returns-in_err-read_symbols-clause-complete
arrow_function-returns-in_err-read_symbols-clause-complete t c =
    arrow_block_refused c.args.self.now.cursor c.expect_punctuator.new.self.cursor c.args.self.now.pairs.items c.expect_punctuator.new.self.pairs.items c.args.high c.saturating_sub-inner.result c.args.parameters c.args.start c.args.form c.args.has_in c.expect_punctuator.ensures.text c.expect_punctuator.ensures.same_open c.expect_punctuator.ensures.same_pairs c.in_ok-expect_punctuator.ensures.accepted.0 c.saturating_sub-inner.ensures
    c.read_symbols.new.self.cursor c.read_symbols.new.self.pairs.items c.from_residual-in_err-read_symbols.result c.in_err-read_symbols.field-0.0 true _ c.of-built.result c.read_symbols.new.built c.from_residual-in_err-read_symbols.ensures.1 c.if-sees_punctuator.ensures.seen c.body_symbols.ensures c.in_err-read_symbols.ensures.complete

pub arrow_function-returns-in_err-node-clause-complete : goal.arrow_function-returns-in_err-node-clause-complete
arrow_function-returns-in_err-node-clause-complete t c =
    arrow_block_high c.args.self.now.cursor c.expect_punctuator.new.self.cursor c.args.self.now.pairs.items c.expect_punctuator.new.self.pairs.items c.args.high c.saturating_sub-inner.result c.args.parameters c.args.start c.args.form c.args.has_in c.expect_punctuator.ensures.text c.expect_punctuator.ensures.same_open c.expect_punctuator.ensures.same_pairs c.in_ok-expect_punctuator.ensures.accepted.0 c.saturating_sub-inner.ensures
    c.read_symbols.new.self.cursor c.read_symbols.new.self.pairs.items c.from_residual-in_err-node.result c.in_err-node.field-0.0 true _ c.of-built.result c.read_symbols.new.built c.arrow_flags-flags.result c.args.start c.read_symbols.new.self.cursor.last.stop c.from_residual-in_err-node.ensures.1 c.if-sees_punctuator.ensures.seen c.body_symbols.ensures c.of-built.ensures
    c.in_ok-read_symbols.ensures.complete c.in_err-node.ensures.made

pub arrow_function-returns-then-sees_punctuator-clause-complete : goal.arrow_function-returns-then-sees_punctuator-clause-complete
arrow_function-returns-then-sees_punctuator-clause-complete t c =
    let tree : c.in_ok-node.node ≡ node ArrowFunctionExpression [] (bodied c.args.form) c.args.start c.read_symbols.new.self.cursor.last.stop c.read_symbols.new.built.nodes =
    c.in_ok-node.ensures.made.0 ∙ ap (λ g. node ArrowFunctionExpression [] g c.args.start c.read_symbols.new.self.cursor.last.stop c.read_symbols.new.built.nodes) c.arrow_flags-flags.ensures in
    arrow_block_done c.args.self.now.cursor c.expect_punctuator.new.self.cursor c.args.self.now.pairs.items c.expect_punctuator.new.self.pairs.items c.args.high c.saturating_sub-inner.result c.args.parameters c.args.start c.args.form c.args.has_in c.expect_punctuator.ensures.text c.expect_punctuator.ensures.same_open c.expect_punctuator.ensures.same_pairs c.in_ok-expect_punctuator.ensures.accepted.0 c.saturating_sub-inner.ensures
    c.read_symbols.new.self.cursor c.read_symbols.new.self.pairs.items true _ c.of-built.result c.read_symbols.new.built c.in_ok-node.node c.plain.result c.if-sees_punctuator.ensures.seen c.body_symbols.ensures c.of-built.ensures c.in_ok-read_symbols.ensures.complete tree c.plain.ensures

pub arrow_function-returns-in_err-body-clause-complete : goal.arrow_function-returns-in_err-body-clause-complete
arrow_function-returns-in_err-body-clause-complete t c =
    arrow_value_refused c.args.self.now.cursor c.expect_punctuator.new.self.cursor c.args.self.now.pairs.items c.expect_punctuator.new.self.pairs.items c.args.high c.saturating_sub-inner.result c.args.parameters c.args.start c.args.form c.args.has_in c.expect_punctuator.ensures.text c.expect_punctuator.ensures.same_open c.expect_punctuator.ensures.same_pairs c.in_ok-expect_punctuator.ensures.accepted.0 c.saturating_sub-inner.ensures
    c.expression.new.self.cursor c.expression.new.self.pairs.items c.from_residual-in_err-body.result c.in_err-body.field-0.0 c.concise_body.result c.from_residual-in_err-body.ensures.1 c.if-sees_punctuator.ensures.missed c.concise_body.ensures c.in_err-body.ensures.complete

pub arrow_function-returns-in_err-into_expression-clause-complete : goal.arrow_function-returns-in_err-into_expression-clause-complete
arrow_function-returns-in_err-into_expression-clause-complete t c =
    arrow_value_settles c.args.self.now.cursor c.expect_punctuator.new.self.cursor c.args.self.now.pairs.items c.expect_punctuator.new.self.pairs.items c.args.high c.saturating_sub-inner.result c.args.parameters c.args.start c.args.form c.args.has_in c.expect_punctuator.ensures.text c.expect_punctuator.ensures.same_open c.expect_punctuator.ensures.same_pairs c.in_ok-expect_punctuator.ensures.accepted.0 c.saturating_sub-inner.ensures
    c.expression.new.self.cursor c.expression.new.self.pairs.items c.from_residual-in_err-into_expression.result c.in_err-into_expression.field-0.0 c.concise_body.result c.in_ok-body.body c.expression.new.self.cursor c.if-sees_punctuator.ensures.missed c.concise_body.ensures c.in_ok-body.ensures.complete c.in_err-into_expression.ensures.settled

pub arrow_function-returns-in_err-node-2-clause-complete : goal.arrow_function-returns-in_err-node-2-clause-complete
arrow_function-returns-in_err-node-2-clause-complete t c =
    arrow_value_high c.args.self.now.cursor c.expect_punctuator.new.self.cursor c.args.self.now.pairs.items c.expect_punctuator.new.self.pairs.items c.args.high c.saturating_sub-inner.result c.args.parameters c.args.start c.args.form c.args.has_in c.expect_punctuator.ensures.text c.expect_punctuator.ensures.same_open c.expect_punctuator.ensures.same_pairs c.in_ok-expect_punctuator.ensures.accepted.0 c.saturating_sub-inner.ensures
    c.expression.new.self.cursor c.expression.new.self.pairs.items c.from_residual-in_err-node-2.result c.in_err-node-2.field-0.0 c.concise_body.result c.in_ok-body.body c.in_ok-into_expression.field-0 c.push.new.self c.arrow_flags-flags-2.result c.args.start c.expression.new.self.cursor.last.stop c.from_residual-in_err-node-2.ensures.1 c.if-sees_punctuator.ensures.missed
    c.concise_body.ensures c.in_ok-body.ensures.complete c.in_ok-into_expression.ensures.settled.0 (c.in_ok-push.ensures.pushed ∙ ap (λ b. push b.nodes c.in_ok-into_expression.field-0) c.of-built.ensures) c.in_err-node-2.ensures.made

pub arrow_function-returns-clause-complete : goal.arrow_function-returns-clause-complete
arrow_function-returns-clause-complete t c =
    let parts : c.push.new.self ≡ push c.args.parameters c.in_ok-into_expression.field-0 = c.in_ok-push.ensures.pushed ∙ ap (λ b. push b.nodes c.in_ok-into_expression.field-0) c.of-built.ensures in
    let tree : c.in_ok-node-2.node ≡ node ArrowFunctionExpression [] (concise c.args.form) c.args.start c.expression.new.self.cursor.last.stop c.push.new.self =
    c.in_ok-node-2.ensures.made.0 ∙ ap (λ g. node ArrowFunctionExpression [] g c.args.start c.expression.new.self.cursor.last.stop c.push.new.self) c.arrow_flags-flags-2.ensures in
    arrow_value_done c.args.self.now.cursor c.expect_punctuator.new.self.cursor c.args.self.now.pairs.items c.expect_punctuator.new.self.pairs.items c.args.high c.saturating_sub-inner.result c.args.parameters c.args.start c.args.form c.args.has_in c.expect_punctuator.ensures.text c.expect_punctuator.ensures.same_open c.expect_punctuator.ensures.same_pairs c.in_ok-expect_punctuator.ensures.accepted.0 c.saturating_sub-inner.ensures
    c.expression.new.self.cursor c.expression.new.self.pairs.items c.concise_body.result c.in_ok-body.body c.in_ok-into_expression.field-0 c.in_ok-node-2.node c.push.new.self c.plain-2.result c.if-sees_punctuator.ensures.missed c.concise_body.ensures c.in_ok-body.ensures.complete c.in_ok-into_expression.ensures.settled.0 parts tree c.plain-2.ensures

pub arrow_function-returns-then-sees_punctuator-clause-own : goal.arrow_function-returns-then-sees_punctuator-clause-own
arrow_function-returns-then-sees_punctuator-clause-own t c = λ own form.
    let s = c.args.self.now.cursor in
    let begun : AllOfLanguage s.text c.of-built.result.nodes = subst (AllOfLanguage s.text) (sym (ap (λ b. b.nodes) c.of-built.ensures)) own in
    let tree : c.in_ok-node.node ≡ node ArrowFunctionExpression [] (bodied c.args.form) c.args.start c.read_symbols.new.self.cursor.last.stop c.read_symbols.new.built.nodes =
    c.in_ok-node.ensures.made.0 ∙ ap (λ g. node ArrowFunctionExpression [] g c.args.start c.read_symbols.new.self.cursor.last.stop c.read_symbols.new.built.nodes) c.arrow_flags-flags.ensures in
    subst (OfLanguage s.text) (sym (ap (λ k. k.cover.node) c.plain.ensures)) (arrow_own c.args.form false c.args.start c.read_symbols.new.self.cursor.last.stop c.read_symbols.new.built.nodes c.in_ok-node.node tree (own_on c.expect_punctuator.ensures.text begun c.in_ok-read_symbols.ensures.own) form)

pub arrow_function-returns-clause-own : goal.arrow_function-returns-clause-own
arrow_function-returns-clause-own t c = λ own form.
    let s = c.args.self.now.cursor in
    let body : OfLanguage s.text c.in_ok-into_expression.field-0 = subst (OfLanguage s.text) (sym c.in_ok-into_expression.ensures.settled.0) (subst (λ x. OfLanguage x c.in_ok-body.body.cover.node) c.expect_punctuator.ensures.text c.in_ok-body.ensures.own) in
    let parts : c.push.new.self ≡ push c.args.parameters c.in_ok-into_expression.field-0 = c.in_ok-push.ensures.pushed ∙ ap (λ b. push b.nodes c.in_ok-into_expression.field-0) c.of-built.ensures in
    let tree : c.in_ok-node-2.node ≡ node ArrowFunctionExpression [] (concise c.args.form) c.args.start c.expression.new.self.cursor.last.stop c.push.new.self =
    c.in_ok-node-2.ensures.made.0 ∙ ap (λ g. node ArrowFunctionExpression [] g c.args.start c.expression.new.self.cursor.last.stop c.push.new.self) c.arrow_flags-flags-2.ensures in
    subst (OfLanguage s.text) (sym (ap (λ k. k.cover.node) c.plain-2.ensures)) (arrow_own c.args.form true c.args.start c.expression.new.self.cursor.last.stop c.push.new.self c.in_ok-node-2.node tree (subst (AllOfLanguage s.text) (sym parts) (of_push c.args.parameters c.in_ok-into_expression.field-0 own body)) form)

pub parenthesized-returns-clause-derived : goal.parenthesized-returns-clause-derived
parenthesized-returns-clause-derived t c =
    let w = in_parens c.args.self.now.cursor c.enter.new.self.cursor c.open.new.self.cursor c.list.new.self.cursor c.in_ok-list.list c.in_ok-list-2.list c.enter.ensures.text c.enter.ensures.last c.open.ensures.text c.open.ensures.same_open c.open.ensures.same_pairs c.in_ok-list.ensures.listed c.in_ok-list.ensures.begun c.in_ok-list-2.ensures.derived c.in_ok-list-2.ensures.same c.in_ok-list-2.ensures.seen c.in_ok-list-2.ensures.inside in
    let l = c.in_ok-list-2.list in
    let s = c.args.self.now.cursor in
    let room : s.opened < max_open = c.in_ok-place.ensures.opened.0 in
    let more_open : c.enter.new.self.cursor.opened ≡ s.opened + 1 = c.in_ok-place.ensures.opened.1 in
    let less_open = ap (λ (p : CursorState). p.opened) c.close_pair.ensures.cursor ∙ c.leave-at.ensures.closed in
    let inner_open : c.list.new.self.cursor.opened ≡ c.enter.new.self.cursor.opened = w.1 in
    let same_open : c.close_pair.new.self.cursor.opened ≡ s.opened = omega arith in
    let last : c.close_pair.new.self.cursor.last ≡ c.list.new.self.cursor.last = ap (λ (p : CursorState). p.last) c.close_pair.ensures.cursor ∙ c.leave-at.ensures.last in
    let end : c.saturating_sub-end.result ≡ c.list.new.self.cursor.last.stop - 1 = c.saturating_sub-end.ensures ∙ ap (λ x. x - 1) (c.last_end.ensures ∙ ap (λ (t : Token). t.stop) c.leave-at.ensures.last) in
    let long : length c.args.self.now.pairs.items ≡ c.in_ok-place.place = sym (c.in_ok-place.ensures.place.0 ∙ c.args.self.now.pairs.ok.0) in
    let kept : c.leave-at.new.self.pairs.items ≡ c.list.new.self.pairs.items = c.leave-at.ensures.same_pairs in
    let inside = pair_place c.args.self.now.pairs.items w.0.more c.enter.new.self.pairs.items c.list.new.self.pairs.items (record { left = c.in_ok-place.start; right = c.in_ok-place.start }) c.in_ok-place.place w.0.pairs c.in_ok-place.ensures.pairs (sym long) in
    let within = subst (λ x. c.in_ok-place.place < x) (sym (c.leave-at.new.self.pairs.ok.0 ∙ ap length kept)) inside in
    let closed = c.close_pair.ensures.pairs within ∙ ap (λ x. set x c.in_ok-place.place (record { left = c.in_ok-place.start; right = c.saturating_sub-end.result })) kept in
    yields_ok (list_group l) (λ place. place ≡ c.leave-at.result) (is_grouped l) (group_levels l.nodes) c.args.high (λ part. Adds s c.close_pair.new.self.cursor c.args.self.now.pairs.items c.close_pair.new.self.pairs.items (ReadAt s.text c.args.position part)) c.finish_group.result c.finish_group.ensures.made (λ fits low.
    group_read s c.enter.new.self.cursor c.close_pair.new.self.cursor l c.args.position c.in_ok-place.place c.in_ok-place.start c.saturating_sub-end.result room more_open c.in_ok-place.ensures.place.1 c.in_ok-place.ensures.pairs w.0 last same_open end long closed fits)

pub parenthesized-returns-clause-low : goal.parenthesized-returns-clause-low
parenthesized-returns-clause-low t c =
    let l = c.in_ok-list-2.list in
    yields_ok (list_group l) (λ place. place ≡ c.leave-at.result) (is_grouped l) (group_levels l.nodes) c.args.high (λ part. height part.cover.node ≤ c.args.high) c.finish_group.result c.finish_group.ensures.made (λ fits low.
    group_low l.nodes l.inside.start l.inside.end c.args.high (c.in_ok-list-2.ensures.low (first_low c.enter.new.self.cursor c.open.new.self.cursor c.in_ok-list.list c.args.high c.in_ok-list.ensures.listed c.in_ok-list.ensures.begun)) low)

pub parenthesized-returns-then-accepts_rank-clause-derived : goal.parenthesized-returns-then-accepts_rank-clause-derived
parenthesized-returns-then-accepts_rank-clause-derived t c =
    let w = in_parens c.args.self.now.cursor c.enter.new.self.cursor c.open.new.self.cursor c.list.new.self.cursor c.in_ok-list.list c.in_ok-list-2.list c.enter.ensures.text c.enter.ensures.last c.open.ensures.text c.open.ensures.same_open c.open.ensures.same_pairs c.in_ok-list.ensures.listed c.in_ok-list.ensures.begun c.in_ok-list-2.ensures.derived c.in_ok-list-2.ensures.same c.in_ok-list-2.ensures.seen c.in_ok-list-2.ensures.inside in
    let l = c.in_ok-list-2.list in
    let s = c.args.self.now.cursor in
    let k = c.leave-at.new.self.cursor in
    let room : s.opened < max_open = c.in_ok-place.ensures.opened.0 in
    let more_open : c.enter.new.self.cursor.opened ≡ s.opened + 1 = c.in_ok-place.ensures.opened.1 in
    let less_open = c.leave-at.ensures.closed in
    let inner_open : c.list.new.self.cursor.opened ≡ c.enter.new.self.cursor.opened = w.1 in
    let same_open : k.opened ≡ s.opened = omega arith in
    let texts : k.text ≡ s.text = c.leave-at.ensures.text ∙ c.list.ensures.text ∙ c.open.ensures.text ∙ c.enter.ensures.text in
    let whole = subst (λ x. InParens s.text s.last c.open.new.self.cursor.last x (max_open - c.enter.new.self.cursor.opened) l c.enter.new.self.pairs.items c.list.new.self.pairs.items) (sym c.leave-at.ensures.last) w.0 in
    let sign = c.if-sees_arrow.ensures.seen in
    ok_map (λ part. Adds k c.arrow_function.new.self.cursor c.leave-at.new.self.pairs.items c.arrow_function.new.self.pairs.items (ArrowAt k.text Init c.args.position.has_in c.in_ok-parameters.parameters c.in_ok-place.start part)) (λ part. Adds s c.arrow_function.new.self.cursor c.args.self.now.pairs.items c.arrow_function.new.self.pairs.items (ReadAt s.text c.args.position part)) c.arrow_function.result c.arrow_function.ensures.derived (λ part a.
    arrow_read s c.enter.new.self.cursor k c.arrow_function.new.self.cursor l c.args.position c.in_ok-parameters.parameters c.in_ok-place.start part sign.0 room more_open c.in_ok-place.ensures.place.1 c.in_ok-place.ensures.pairs whole texts same_open c.leave-at.ensures.same_pairs c.in_ok-parameters.ensures.made.0 c.in_ok-parameters.ensures.made.1 sign.1 sign.2 (sym c.accepts_rank.ensures ∙ c.if-accepts_rank.true) a)

pub parenthesized-returns-in_err-place-clause-complete : goal.parenthesized-returns-in_err-place-clause-complete
parenthesized-returns-in_err-place-clause-complete t c =
    paren_unopened c.args.self.now.cursor c.enter.new.self.cursor c.args.self.now.pairs.items c.enter.new.self.pairs.items c.args.high c.args.position c.from_residual.result c.in_err-place.field-0.0 c.from_residual.ensures.1 c.in_err-place.ensures.too_deep

pub parenthesized-returns-in_err-list-2-clause-complete : goal.parenthesized-returns-in_err-list-2-clause-complete
parenthesized-returns-in_err-list-2-clause-complete t c =
    let s = c.args.self.now.cursor in
    let here = opened_here s c.enter.new.self.cursor c.open.new.self.cursor c.in_ok-list.list c.enter.ensures.text c.enter.ensures.last c.in_ok-list.ensures.listed c.in_ok-list.ensures.begun in
    paren_list_refused s c.open.new.self.cursor c.args.self.now.pairs.items c.open.new.self.pairs.items c.args.high c.args.position c.in_ok-list.list (c.open.ensures.text ∙ c.enter.ensures.text) (c.open.ensures.same_open ∙ c.in_ok-place.ensures.opened.1) here.0 here.1
    c.list.new.self.cursor c.list.new.self.cursor c.list.new.self.pairs.items c.list.new.self.pairs.items c.from_residual-in_err-list-2.result c.in_err-list-2.field-0.0 c.from_residual-in_err-list-2.ensures.1 c.in_err-list-2.ensures.complete

pub parenthesized-returns-in_err-parameters-clause-complete : goal.parenthesized-returns-in_err-parameters-clause-complete
parenthesized-returns-in_err-parameters-clause-complete t c =
    let s = c.args.self.now.cursor in
    let here = opened_here s c.enter.new.self.cursor c.open.new.self.cursor c.in_ok-list.list c.enter.ensures.text c.enter.ensures.last c.in_ok-list.ensures.listed c.in_ok-list.ensures.begun in
    paren_unbound s c.open.new.self.cursor c.args.self.now.pairs.items c.open.new.self.pairs.items c.args.high c.args.position c.in_ok-list.list (c.open.ensures.text ∙ c.enter.ensures.text) (c.open.ensures.same_open ∙ c.in_ok-place.ensures.opened.1) here.0 here.1
    c.list.new.self.cursor c.list.new.self.pairs.items c.in_ok-list-2.list (c.in_ok-list-2.ensures.same.0 ∙ c.in_ok-list.ensures.listed) c.in_ok-list-2.ensures.complete c.leave-at.new.self.cursor c.leave-at.ensures.last (c.leave-at.ensures.text ∙ c.list.ensures.text ∙ c.open.ensures.text ∙ c.enter.ensures.text) c.if-sees_arrow.ensures.seen.0 c.if-sees_arrow.ensures.seen.1 c.if-sees_arrow.ensures.seen.2 (sym c.accepts_rank.ensures ∙ c.if-accepts_rank.true)
    c.leave-at.new.self.cursor c.leave-at.new.self.pairs.items c.from_residual-in_err-parameters.result c.in_err-parameters.field-0.0 (pattern_parts 0 c.in_ok-list-2.list.nodes) c.leave-at.result c.from_residual-in_err-parameters.ensures.1 c.in_err-parameters.ensures.made

pub parenthesized-returns-then-accepts_rank-clause-complete : goal.parenthesized-returns-then-accepts_rank-clause-complete
parenthesized-returns-then-accepts_rank-clause-complete t c =
    let s = c.args.self.now.cursor in
    let here = opened_here s c.enter.new.self.cursor c.open.new.self.cursor c.in_ok-list.list c.enter.ensures.text c.enter.ensures.last c.in_ok-list.ensures.listed c.in_ok-list.ensures.begun in
    let room : s.opened < max_open = c.in_ok-place.ensures.opened.0 in
    let more_open : c.enter.new.self.cursor.opened ≡ s.opened + 1 = c.in_ok-place.ensures.opened.1 in
    let open_same : c.open.new.self.cursor.opened ≡ c.enter.new.self.cursor.opened = c.open.ensures.same_open in
    let list_same : c.list.new.self.cursor.opened ≡ c.open.new.self.cursor.opened = c.in_ok-list-2.ensures.derived.same_open in
    let less_open = c.leave-at.ensures.closed in
    paren_arrow_done s c.open.new.self.cursor c.args.self.now.pairs.items c.open.new.self.pairs.items c.args.high c.args.position c.in_ok-list.list (c.open.ensures.text ∙ c.enter.ensures.text) (c.open.ensures.same_open ∙ c.in_ok-place.ensures.opened.1) here.0 here.1
    c.list.new.self.cursor c.list.new.self.pairs.items c.in_ok-list-2.list (c.in_ok-list-2.ensures.same.0 ∙ c.in_ok-list.ensures.listed) c.in_ok-list-2.ensures.complete c.leave-at.new.self.cursor c.leave-at.ensures.last (c.leave-at.ensures.text ∙ c.list.ensures.text ∙ c.open.ensures.text ∙ c.enter.ensures.text) c.if-sees_arrow.ensures.seen.0 c.if-sees_arrow.ensures.seen.1 c.if-sees_arrow.ensures.seen.2 (sym c.accepts_rank.ensures ∙ c.if-accepts_rank.true)
    c.arrow_function.new.self.cursor c.leave-at.new.self.pairs.items c.arrow_function.new.self.pairs.items c.in_ok-parameters.parameters c.in_ok-place.start c.arrow_function.result (c.open.ensures.same_pairs ∙ c.in_ok-place.ensures.pairs) c.leave-at.ensures.same_pairs (omega arith) (place_mark s c.in_ok-place.ensures.place.1 here.0) c.in_ok-parameters.ensures.made.0
    c.arrow_function.ensures.derived c.arrow_function.ensures.complete

pub parenthesized-returns-clause-complete : goal.parenthesized-returns-clause-complete
parenthesized-returns-clause-complete t c =
    let s = c.args.self.now.cursor in
    let here = opened_here s c.enter.new.self.cursor c.open.new.self.cursor c.in_ok-list.list c.enter.ensures.text c.enter.ensures.last c.in_ok-list.ensures.listed c.in_ok-list.ensures.begun in
    let w = in_parens c.args.self.now.cursor c.enter.new.self.cursor c.open.new.self.cursor c.list.new.self.cursor c.in_ok-list.list c.in_ok-list-2.list c.enter.ensures.text c.enter.ensures.last c.open.ensures.text c.open.ensures.same_open c.open.ensures.same_pairs c.in_ok-list.ensures.listed c.in_ok-list.ensures.begun c.in_ok-list-2.ensures.derived c.in_ok-list-2.ensures.same c.in_ok-list-2.ensures.seen c.in_ok-list-2.ensures.inside in
    let l = c.in_ok-list-2.list in
    let room : s.opened < max_open = c.in_ok-place.ensures.opened.0 in
    let more_open : c.enter.new.self.cursor.opened ≡ s.opened + 1 = c.in_ok-place.ensures.opened.1 in
    let less_open = ap (λ (p : CursorState). p.opened) c.close_pair.ensures.cursor ∙ c.leave-at.ensures.closed in
    let inner_open : c.list.new.self.cursor.opened ≡ c.enter.new.self.cursor.opened = w.1 in
    let same_open : c.close_pair.new.self.cursor.opened ≡ s.opened = omega arith in
    let last : c.close_pair.new.self.cursor.last ≡ c.list.new.self.cursor.last = ap (λ (p : CursorState). p.last) c.close_pair.ensures.cursor ∙ c.leave-at.ensures.last in
    let end : c.saturating_sub-end.result ≡ c.list.new.self.cursor.last.stop - 1 = c.saturating_sub-end.ensures ∙ ap (λ x. x - 1) (c.last_end.ensures ∙ ap (λ (t : Token). t.stop) c.leave-at.ensures.last) in
    let long : length c.args.self.now.pairs.items ≡ c.in_ok-place.place = sym (c.in_ok-place.ensures.place.0 ∙ c.args.self.now.pairs.ok.0) in
    let kept : c.leave-at.new.self.pairs.items ≡ c.list.new.self.pairs.items = c.leave-at.ensures.same_pairs in
    let inside = pair_place c.args.self.now.pairs.items w.0.more c.enter.new.self.pairs.items c.list.new.self.pairs.items (record { left = c.in_ok-place.start; right = c.in_ok-place.start }) c.in_ok-place.place w.0.pairs c.in_ok-place.ensures.pairs (sym long) in
    let within = subst (λ x. c.in_ok-place.place < x) (sym (c.leave-at.new.self.pairs.ok.0 ∙ ap length kept)) inside in
    let closed = c.close_pair.ensures.pairs within ∙ ap (λ x. set x c.in_ok-place.place (record { left = c.in_ok-place.start; right = c.saturating_sub-end.result })) kept in
    let derived : IfOk c.finish_group.result (λ part. Adds s c.close_pair.new.self.cursor c.args.self.now.pairs.items c.close_pair.new.self.pairs.items (ReadAt s.text c.args.position part)) = yields_ok (list_group l) (λ place. place ≡ c.leave-at.result) (is_grouped l) (group_levels l.nodes) c.args.high (λ part. Adds s c.close_pair.new.self.cursor c.args.self.now.pairs.items c.close_pair.new.self.pairs.items (ReadAt s.text c.args.position part)) c.finish_group.result c.finish_group.ensures.made (λ fits low. group_read s c.enter.new.self.cursor c.close_pair.new.self.cursor l c.args.position c.in_ok-place.place c.in_ok-place.start c.saturating_sub-end.result room more_open c.in_ok-place.ensures.place.1 c.in_ok-place.ensures.pairs w.0 last same_open end long closed fits) in
    let quiet : (v : Token) → ReadsHere s.text Punctuator (codes "=>") c.list.new.self.cursor.last v → v.after_break ≡ false → IsTrue (takes c.args.position.rank Assignment) → ⊥ =
    elim c.else-sees_arrow.branch [
      | parenthesized-else-sees_arrow-via-then-sees_arrow+else-accepts_rank w ↦ λ v eq line tk. false≢true (sym w.if-accepts_rank.false ∙ w.accepts_rank.ensures ∙ tk)
      | parenthesized-else-sees_arrow-via-else-sees_arrow w ↦ λ v eq line tk. arrow_missed s c.list.new.self.cursor c.leave-at.new.self.cursor c.leave-at.ensures.last (c.leave-at.ensures.text ∙ c.list.ensures.text ∙ c.open.ensures.text ∙ c.enter.ensures.text) w.if-sees_arrow.ensures.missed v eq line
    ] in
    paren_group_done s c.open.new.self.cursor c.args.self.now.pairs.items c.open.new.self.pairs.items c.args.high c.args.position c.in_ok-list.list (c.open.ensures.text ∙ c.enter.ensures.text) (c.open.ensures.same_open ∙ c.in_ok-place.ensures.opened.1) here.0 here.1
    c.list.new.self.cursor c.list.new.self.pairs.items c.in_ok-list-2.list (c.in_ok-list-2.ensures.same.0 ∙ c.in_ok-list.ensures.listed) c.in_ok-list-2.ensures.complete quiet
    c.close_pair.new.self.cursor c.close_pair.new.self.pairs.items (λ place. place ≡ c.leave-at.result) c.finish_group.result c.finish_group.ensures.made derived

pub parenthesized-returns-clause-own : goal.parenthesized-returns-clause-own
parenthesized-returns-clause-own t c =
    let s = c.args.self.now.cursor in
    let l = c.in_ok-list-2.list in
    let first = subst (λ x. AllOfLanguage x c.in_ok-list.list.nodes) (sym c.open.ensures.text) c.in_ok-list.ensures.own in
    let whole = subst (λ x. AllOfLanguage x l.nodes) (c.open.ensures.text ∙ c.enter.ensures.text) (c.in_ok-list-2.ensures.own first) in
    yields_ok (list_group l) (λ place. place ≡ c.leave-at.result) (is_grouped l) (group_levels l.nodes) c.args.high (λ part. OfLanguage s.text part.cover.node) c.finish_group.result c.finish_group.ensures.made (λ fits low. group_language s.text l.nodes l.inside.start l.inside.end whole)

pub parenthesized-returns-then-accepts_rank-clause-own : goal.parenthesized-returns-then-accepts_rank-clause-own
parenthesized-returns-then-accepts_rank-clause-own t c =
    let s = c.args.self.now.cursor in
    let k = c.leave-at.new.self.cursor in
    let l = c.in_ok-list-2.list in
    let first = subst (λ x. AllOfLanguage x c.in_ok-list.list.nodes) (sym c.open.ensures.text) c.in_ok-list.ensures.own in
    let whole = subst (λ x. AllOfLanguage x l.nodes) (sym c.list.ensures.text ∙ sym c.leave-at.ensures.text) (c.in_ok-list-2.ensures.own first) in
    let texts = c.leave-at.ensures.text ∙ c.list.ensures.text ∙ c.open.ensures.text ∙ c.enter.ensures.text in
    ok_map (λ part. AllOfLanguage k.text c.in_ok-parameters.parameters → FormOfLanguage k.text Init → OfLanguage k.text part.cover.node) (λ part. OfLanguage s.text part.cover.node) c.arrow_function.result c.arrow_function.ensures.own
    (λ part own. subst (λ x. OfLanguage x part.cover.node) texts (own (subst (λ x. AllOfLanguage k.text x) (sym c.in_ok-parameters.ensures.made.0) (patterns_language k.text l.nodes whole)) (λ b. refl)))

pub bracketed_list-returns-clause-derived : goal.bracketed_list-returns-clause-derived
bracketed_list-returns-clause-derived t c =
    let s = c.args.self.now.cursor in
    let l0 = c.in_ok-list.list in
    let l = c.in_ok-list-2.list in
    let coded = c.requires.coded in
    makes_ok (listed_part l) (height (listed_node l)) c.args.high (λ part. Adds s c.list.new.self.cursor c.args.self.now.pairs.items c.list.new.self.pairs.items (ReadAt s.text c.args.position part)) c.finish_list.result c.finish_list.ensures.made (λ low.
    list_read s c.open.new.self.cursor c.list.new.self.cursor l0 l c.args.position (token_of c.args.token) c.args.what c.open.ensures.text c.open.ensures.same_open c.open.ensures.same_pairs c.requires.ahead coded c.requires.stands c.in_ok-list.ensures.listed c.in_ok-list.ensures.begun c.in_ok-list.ensures.template
    c.in_ok-list-2.ensures.derived c.in_ok-list-2.ensures.same c.in_ok-list-2.ensures.seen)

pub prefix_expression-returns-clause-derived : goal.prefix_expression-returns-clause-derived
prefix_expression-returns-clause-derived t c =
    let s = c.args.self.now.cursor in
    let e = c.expression.new.self.cursor in
    let t = token_of c.args.token in
    let r = c.in_ok-operand.operand in
    let coded = c.requires.coded in
    yields_ok (prefixed_part (is_prefix_update t.text) t.text t.start e.last.stop r) (IsPlaceHere e) (takes_operand (is_prefix_update t.text) r.cover.shape) (height (prefixed_node (is_prefix_update t.text) t.text t.start e.last.stop r.cover.node)) c.args.high (λ part. Adds s e c.args.self.now.pairs.items c.expression.new.self.pairs.items (ReadAt s.text c.args.position part)) c.prefix_operand.result c.prefix_operand.ensures.made (λ fits low.
    prefix_read s c.advance.new.self.cursor e c.args.position c.at-place.result r t c.args.own c.args.side c.advance.ensures.text c.advance.ensures.same_open c.advance.ensures.same_pairs c.advance.ensures.reads coded c.requires.stands c.at-place.ensures c.in_ok-operand.ensures.derived fits)

pub prefix_expression-returns-clause-low : goal.prefix_expression-returns-clause-low
prefix_expression-returns-clause-low t c =
    let e = c.expression.new.self.cursor in
    let t = token_of c.args.token in
    let r = c.in_ok-operand.operand in
    yields_ok (prefixed_part (is_prefix_update t.text) t.text t.start e.last.stop r) (IsPlaceHere e) (takes_operand (is_prefix_update t.text) r.cover.shape) (height (prefixed_node (is_prefix_update t.text) t.text t.start e.last.stop r.cover.node)) c.args.high (λ part. height part.cover.node ≤ c.args.high) c.prefix_operand.result c.prefix_operand.ensures.made (λ fits low.
    prefix_low (is_prefix_update t.text) t.text t.start e.last.stop r c.args.high low)

pub one_token-returns-clause-derived : goal.one_token-returns-clause-derived
one_token-returns-clause-derived t c =
    let s = c.args.self.now.cursor in
    let m = c.advance.new.self.cursor in
    let coded = c.requires.coded in
    let result = c.plain.ensures ∙ ap (λ n. plain_part n Primary Other) c.in_ok-node.ensures.made.0 in
    subst (λ part. Adds s m c.args.self.now.pairs.items c.advance.new.self.pairs.items (ReadAt s.text c.args.position part)) (sym result)
    (single_read s m c.args.position (token_of c.args.token) c.args.kind c.advance.ensures.same_open c.advance.ensures.same_pairs c.advance.ensures.reads coded)

pub one_token-returns-then-accepts_rank-clause-derived : goal.one_token-returns-then-accepts_rank-clause-derived
one_token-returns-then-accepts_rank-clause-derived t c =
    let s = c.args.self.now.cursor in
    let m = c.advance.new.self.cursor in
    let coded = c.requires.coded in
    let kind = name_kind c.args.kind (sym c.is_name.ensures ∙ c.if-is_name.true) in
    let parameter = c.one-parameter.ensures ∙ ap (λ n. part n none) c.in_ok-node.ensures.made.0 in
    let sign = c.if-sees_arrow.ensures.seen in
    ok_map (λ r. Adds m c.arrow_function.new.self.cursor c.advance.new.self.pairs.items c.arrow_function.new.self.pairs.items (ArrowAt m.text Init c.args.position.has_in c.one-parameter.result c.args.token.start r)) (λ r. Adds s c.arrow_function.new.self.cursor c.args.self.now.pairs.items c.arrow_function.new.self.pairs.items (ReadAt s.text c.args.position r)) c.arrow_function.result c.arrow_function.ensures.derived (λ r a.
    name_arrow s m c.arrow_function.new.self.cursor c.args.position (token_of c.args.token) c.args.kind c.one-parameter.result c.args.token.start r sign.0 c.advance.ensures.text c.advance.ensures.same_open c.advance.ensures.same_pairs c.advance.ensures.reads coded kind parameter refl sign.1 sign.2 (sym c.accepts_rank.ensures ∙ c.if-accepts_rank.true) a)

pub leftmost_operand-returns-in_default-clause-complete : goal.leftmost_operand-returns-in_default-clause-complete
leftmost_operand-returns-in_default-clause-complete t c = λ a h o n to P g own. begins_nothing c.args.self.now.cursor.text c.in_default.ensures.none (opens_here c.args.self.now.cursor.text g own)

pub leftmost_operand-returns-then-high-eq0-clause-complete : goal.leftmost_operand-returns-then-high-eq0-clause-complete
leftmost_operand-returns-then-high-eq0-clause-complete t c = λ a h o n to P g own room. let up = has_height n in let low = room.1 in let none_left = c.if-high-eq0.true in omega arith

pub leftmost_operand-returns-in-Parenthesis-clause-complete : goal.leftmost_operand-returns-in-Parenthesis-clause-complete
leftmost_operand-returns-in-Parenthesis-clause-complete t c = λ a h o n to P g own. c.parenthesized.ensures.complete (parenthesis_ahead c.args.self.now.cursor.text c.args.self.now.cursor.last (token_of c.in-Some.token) c.in-Some.ensures.ahead (c.in-Some.ensures.coded ∙ ap Some c.in-Parenthesis.is)) a h o n to P g own

pub bracketed_list-returns-in_err-list-clause-complete : goal.bracketed_list-returns-in_err-list-clause-complete
bracketed_list-returns-in_err-list-clause-complete t c = λ a h o n to P g own.
    let s = c.args.self.now.cursor in
    let u = token_of c.args.token in
    let coded = (coded_plain s.text.language (expression_start (as_read u)) (as_read u).text (List c.args.what) c.requires.coded refl) in
    let less = c.saturating_sub.ensures in
    agrees_err (Room s o (height n) c.args.high) (FirstWith s c.open.new.self.cursor c.args.self.now.pairs.items c.open.new.self.pairs.items a h n to P) c.from_residual.result c.in_err-list.field-0.0 c.from_residual.ensures.1
    (list_refuses s u c.args.what c.saturating_sub.result c.args.high c.in_err-list.field-0.0 c.requires.ahead coded c.in_err-list.ensures.not_begun c.in_err-list.ensures.untemplated less g)

pub bracketed_list-returns-in_err-list-2-clause-complete : goal.bracketed_list-returns-in_err-list-2-clause-complete
bracketed_list-returns-in_err-list-2-clause-complete t c = λ a h o n to P g own.
    let s = c.args.self.now.cursor in
    let m = c.open.new.self.cursor in
    let u = token_of c.args.token in
    let coded = (coded_plain s.text.language (expression_start (as_read u)) (as_read u).text (List c.args.what) c.requires.coded refl) in
    let l0 = c.in_ok-list.list in
    let v = list_rest s m l0 u c.args.what c.open.ensures.text c.requires.ahead coded c.in_ok-list.ensures.listed c.in_ok-list.ensures.begun c.in_ok-list.ensures.template g in
    let low = v.low in
    let less = c.saturating_sub-2.ensures in
    agrees_on (Room m o (parts_height v.ps) c.saturating_sub-2.result) (Room s o (height n) c.args.high) (FirstWith s c.list.new.self.cursor c.args.self.now.pairs.items c.list.new.self.pairs.items a h n to P) c.from_residual-in_err-list-2.result c.in_err-list-2.field-0.0
    c.from_residual-in_err-list-2.ensures.1 (c.in_err-list-2.ensures.complete a o v.ps to P v.given (v.own own)) (room_part s m c.open.ensures.same_open (λ l. omega arith))

pub prefix_expression-returns-in_err-operand-clause-complete : goal.prefix_expression-returns-in_err-operand-clause-complete
prefix_expression-returns-in_err-operand-clause-complete t c = λ a h o n to P g own.
    let s = c.args.self.now.cursor in
    let m = c.advance.new.self.cursor in
    let v = prefix_given s.text (token_of c.args.token) c.args.own c.args.side c.requires.ahead c.requires.coded g in
    let symbols = operand_symbols (is_prefix_update (token_of c.args.token).text) in
    let given = expression_given c.advance.ensures.text c.advance.ensures.last (c.at-place.ensures ∙ ap (λ y. record { rank = y; has_in = true; start = Any }) v.1) symbols.0 symbols.1 v.2.spelled v.2.stopped in
    let low = operand_low v.2 in
    agrees_on (Room m o (height v.2.operand) c.saturating_sub.result) (Room s o (height n) c.args.high) (λ r. IsFirst a h r n × EndsWith s c.expression.new.self.cursor c.args.self.now.pairs.items c.expression.new.self.pairs.items to P) c.from_residual.result c.in_err-operand.field-0.0
    c.from_residual.ensures.1 (c.in_err-operand.ensures.complete as_expression o v.2.operand to P given (prefix_own v.2 c.advance.ensures.text own)) (room_part s m c.advance.ensures.same_open (λ l. let less = c.saturating_sub.ensures in omega arith))

pub one_token-returns-then-accepts_rank-clause-complete : goal.one_token-returns-then-accepts_rank-clause-complete
one_token-returns-then-accepts_rank-clause-complete t c = λ a h o n to P g own.
    let s = c.args.self.now.cursor in
    let m = c.advance.new.self.cursor in
    let u = token_of c.args.token in
    let k = c.args.kind in
    let kind = name_kind k (sym c.is_name.ensures ∙ c.if-is_name.true) in
    let parameter = c.one-parameter.ensures ∙ ap (λ n. part n none) (c.in_ok-node.ensures.made.0 ∙ ap (λ k. single_node k u) kind) in
    let sign = c.if-sees_arrow.ensures.seen in
    let last : m.last ≡ as_read u = c.advance.ensures.last ∙ single_place s.text.language u k c.requires.coded in
    let v = single_given s.text u k c.requires.ahead c.requires.coded g own in
    let w = arrow_given u k v kind (sym c.accepts_rank.ensures ∙ c.if-accepts_rank.true) (arrow_before s m c.advance.ensures.text last sign.1) sign.2 in
    arrow_agrees s m c.arrow_function.new.self.cursor c.args.self.now.pairs.items c.advance.new.self.pairs.items c.arrow_function.new.self.pairs.items c.args.position u c.one-parameter.result c.args.high c.arrow_function.result w own c.advance.ensures.text last c.advance.ensures.same_open c.advance.ensures.same_pairs parameter c.arrow_function.ensures.complete c.arrow_function.ensures.derived

pub bracketed_list-returns-clause-complete : goal.bracketed_list-returns-clause-complete
bracketed_list-returns-clause-complete t c = λ a h o n to P g own.
    let s = c.args.self.now.cursor in
    let m = c.open.new.self.cursor in
    let u = token_of c.args.token in
    let coded = (coded_plain s.text.language (expression_start (as_read u)) (as_read u).text (List c.args.what) c.requires.coded refl) in
    let l0 = c.in_ok-list.list in
    let v = list_rest s m l0 u c.args.what c.open.ensures.text c.requires.ahead coded c.in_ok-list.ensures.listed c.in_ok-list.ensures.begun c.in_ok-list.ensures.template g in
    let low = v.low in
    let l = c.in_ok-list-2.list in
    let here = c.in_ok-list-2.ensures in
    let answer = here.complete a o v.ps to P v.given (v.own own) in
    let first = v.first c.list.new.self.cursor c.open.new.self.pairs.items c.list.new.self.pairs.items l here.derived here.seen here.same answer.0 answer.1 answer.2.place in
    let less = c.saturating_sub-2.ensures in
    let inner = here.low in
    agrees_made_as (Room s o (height n) c.args.high) (FirstWith s c.list.new.self.cursor c.args.self.now.pairs.items c.list.new.self.pairs.items a h n to P) (listed_part l) (height (listed_node l)) c.args.high c.finish_list.result c.finish_list.ensures.made (λ room. let fits = room.1 in let starts = v.start_low in let whole = inner (omega arith) in omega arith) (first, ends_behind c.open.ensures.same_pairs answer.2)

pub prefix_expression-returns-clause-complete : goal.prefix_expression-returns-clause-complete
prefix_expression-returns-clause-complete t c = λ a h o n to P g own.
    let s = c.args.self.now.cursor in
    let m = c.advance.new.self.cursor in
    let e = c.expression.new.self.cursor in
    let u = token_of c.args.token in
    let q = c.in_ok-operand.operand in
    let v = prefix_given s.text u c.args.own c.args.side c.requires.ahead c.requires.coded g in
    let symbols = operand_symbols (is_prefix_update u.text) in
    let given = expression_given c.advance.ensures.text c.advance.ensures.last (c.at-place.ensures ∙ ap (λ y. record { rank = y; has_in = true; start = Any }) v.1) symbols.0 symbols.1 v.2.spelled v.2.stopped in
    let answer = c.in_ok-operand.ensures.complete as_expression o v.2.operand to P given (prefix_own v.2 c.advance.ensures.text own) in
    let first = prefix_made u e.last.stop q (prefix_text s.text.language u c.args.own c.args.side c.requires.coded) (ap (λ (x : Token). x.stop) answer.1.place) v.2 answer.0 in
    let levels = first.1 in
    agrees_where (Room s o (height n) c.args.high) (λ r. IsFirst a h r n × EndsWith s e c.args.self.now.pairs.items c.expression.new.self.pairs.items to P) (prefixed_part (is_prefix_update u.text) u.text u.start e.last.stop q) (IsPlaceHere e) (takes_operand (is_prefix_update u.text) q.cover.shape) (height (prefixed_node (is_prefix_update u.text) u.text u.start e.last.stop q.cover.node)) c.args.high
    c.prefix_operand.result c.prefix_operand.ensures.made first.0 (λ room. let low = room.1 in omega arith) (subst (λ x. IsFirst x h (prefixed_part (is_prefix_update u.text) u.text u.start e.last.stop q) n) (sym v.0) first.2, ends_behind c.advance.ensures.same_pairs answer.1)

pub one_token-returns-clause-complete : goal.one_token-returns-clause-complete
one_token-returns-clause-complete t c = λ a h o n to P g own.
    let s = c.args.self.now.cursor in
    let m = c.advance.new.self.cursor in
    let u = token_of c.args.token in
    let k = c.args.kind in
    let last : m.last ≡ as_read u = c.advance.ensures.last ∙ single_place s.text.language u k c.requires.coded in
    let v = single_given s.text u k c.requires.ahead c.requires.coded g own in
    let without : k ≡ Identifier → IsTrue (takes c.args.position.rank Assignment) → NoArrow s.text (as_read u) =
    elim c.else-is_name.branch [
      | one_token-else-is_name-via-then-is_name+then-sees_arrow+else-accepts_rank w ↦ λ e tk x y sign line. absurd (false≢true (sym (sym w.accepts_rank.ensures ∙ w.if-accepts_rank.false) ∙ tk))
      | one_token-else-is_name-via-then-is_name+else-sees_arrow w ↦ λ e tk x y sign line. absurd (false≢true (sym line ∙ w.if-sees_arrow.ensures.missed x y (arrow_behind s m c.advance.ensures.text last sign)))
      | one_token-else-is_name-via-else-is_name w ↦ λ e tk x y sign line. absurd (false≢true (sym (sym c.is_name.ensures ∙ w.if-is_name.false) ∙ ap is_identifier e))
    ] in
    token_read u k v without last c.advance.ensures.same_pairs c.plain.result (c.plain.ensures ∙ ap (λ n. plain_part n Primary Other) c.in_ok-node.ensures.made.0)

pub leftmost_operand-returns-in_default-opening : goal.leftmost_operand-returns-in_default-opening
leftmost_operand-returns-in_default-opening t c = record {
  text = search rules;
  forward = search rules;
  passes = search rules;
  derived = ok_map (λ r. Adds c.advance.new.self.cursor c.keyword_expression.new.self.cursor c.advance.new.self.pairs.items c.keyword_expression.new.self.pairs.items (WordedAt c.advance.new.self.cursor.text c.args.position c.in-Some.token c.in-Some.opening r)) (λ r. Adds c.args.self.now.cursor c.keyword_expression.new.self.cursor c.args.self.now.pairs.items c.keyword_expression.new.self.pairs.items (ReadAt c.args.self.now.cursor.text c.args.position r)) c.keyword_expression.result c.keyword_expression.ensures.derived (λ r a.
      word_first c.in-Some.token c.advance.ensures.text c.advance.ensures.same_open c.advance.ensures.same_pairs c.advance.ensures.reads c.in-Some.ensures.coded c.in-Some.ensures.stands a);
  waits = waits_behind _ (λ (p : Operand). p.cover.node) c.keyword_expression.result c.advance.ensures.same_tree c.keyword_expression.ensures.waits;
  low = search rules;
  own = ok_map (λ r. coded_in c.advance.new.self.cursor.text.language (as_read (token_of c.in-Some.token)) ≡ Some c.in-Some.opening → OfLanguage c.advance.new.self.cursor.text r.cover.node) (λ r. OfLanguage c.args.self.now.cursor.text r.cover.node) c.keyword_expression.result c.keyword_expression.ensures.own (λ r f.
      subst (λ x. OfLanguage x r.cover.node) c.advance.ensures.text (f (ap (λ x. coded_in x.language (as_read (token_of c.in-Some.token))) c.advance.ensures.text ∙ c.in-Some.ensures.coded)));
  complete = λ a h o n to P g own.
      let s = c.args.self.now.cursor in
      let m = c.advance.new.self.cursor in
      let behind = c.advance.ensures in
      let answer = c.keyword_expression.ensures.complete a h o n s.last to P (subst (λ x. SeenNext x s.last (as_read (token_of c.in-Some.token)) m.last) (sym behind.text) behind.reads) (ap (λ x. coded_in x.language (as_read (token_of c.in-Some.token))) behind.text ∙ c.in-Some.ensures.coded) (by_word c.in-Some.opening c.in_default-opening.not-OneToken c.in_default-opening.not-List c.in_default-opening.not-Parenthesis c.in_default-opening.not-Prefix) (first_in (sym behind.text) g) (subst (λ x. OfLanguage x n) (sym behind.text) own) in
      agrees_more (Room m o (height n) c.args.high) (Room s o (height n) c.args.high) (λ r. IsFirst a h r n × EndsWith m c.keyword_expression.new.self.cursor c.advance.new.self.pairs.items c.keyword_expression.new.self.pairs.items to P) (λ r. IsFirst a h r n × EndsWith s c.keyword_expression.new.self.cursor c.args.self.now.pairs.items c.keyword_expression.new.self.pairs.items to P) c.keyword_expression.result answer
      (room_part s m behind.same_open (λ low. low)) (λ r is_ok found. (found.0, ends_behind behind.same_pairs found.1));
  refused = search rules;
}

pub other_subscript-returns-clause-derived : goal.other_subscript-returns-clause-derived
other_subscript-returns-clause-derived t c =
    let text = c.subscript_start.ensures.text in
    let opened = c.subscript_start.ensures.same_open in
    let same = c.subscript_start.ensures.same_pairs in
    let found = c.in_ok-found.found in
    let optional = c.in_ok-found.optional in
    let passed = c.in_ok-found.ensures.linked in
    let value = c.in_ok-into_expression.ensures.settled.1 in
    let object : takes Call c.args.left.rank ≡ true = sym c.accepts_rank.ensures ∙ c.if-not-accepts_rank.false in
    let called : c.match-matches.matches ≡ is_call c.args.left.rank = elim c.match-matches.branch [ other_subscript-in-Call w ↦ w.matches-is ∙ call_is c.args.left.rank w.in-Call.is | other_subscript-in_default w ↦ w.matches-is ∙ call_is_not c.args.left.rank w.in_default.not-Call ] in
    let one : c.one-nodes.result ≡ part c.args.left.cover.node none = c.one-nodes.ensures ∙ ap (λ n. part n none) c.in_ok-into_expression.ensures.settled.0 in
    let span = c.span_from-span.ensures in
    let tree : c.in_ok-node.node ≡ node (link_kind found) [] (link_flags found optional) c.args.left.start c.match-found.self.cursor.last.stop c.match-found.nodes = c.in_ok-node.ensures.made.0 ∙ (λ i. node (c.kind.ensures i) [] (c.flags.ensures i) (span i).start (span i).end c.match-found.nodes) in
    let made : c.plain.result ≡ plain_part (node (link_kind found) [] (link_flags found optional) c.args.left.start c.match-found.self.cursor.last.stop c.match-found.nodes) (link_rank found c.match-matches.matches) Other = c.plain.ensures ∙ (λ i. plain_part (tree i) (c.rank.ensures i) Other) in
    elim c.match-found.branch [
      | other_subscript-in-Name+in_ok-name-in-Name+in_ok-token_node-in-Name+in_ok-push-in-Name w ↦
          let nodes : c.match-found.nodes ≡ part c.args.left.cover.node (part (key_node (token_of w.in_ok-name-in-Name.name)) none) = w.nodes-is ∙ w.in_ok-push-in-Name.ensures.pushed ∙ (λ i. push (one i) ((w.in_ok-token_node-in-Name.ensures.made.0 ∙ w.member_kind.ensures w.in_ok-name-in-Name.ensures.named) i)) in
          links_read found optional c.match-matches.matches value object called nodes made
          (subst (λ v. Adds c.args.self.now.cursor v.cursor c.args.self.now.pairs.items v.pairs.items (BehindOn c.args.self.now.cursor.text found optional (part (key_node (token_of w.in_ok-name-in-Name.name)) none))) (sym w.self-is)
          (name_read found optional (key_node (token_of w.in_ok-name-in-Name.name)) text opened same w.in-Name.is passed w.member_name.ensures.same_open w.member_name.ensures.same_pairs w.in_ok-name-in-Name.ensures.derived w.in_ok-name-in-Name.ensures.own))
      | other_subscript-in-Index+in_ok-expect_punctuator-in-Index+in_ok-index-in-Index+in_ok-into_expression-in-Index+in_ok-push-in-Index+in_ok-expect_punctuator-in-Index-2 w ↦
          let index = w.in_ok-index-in-Index.index in
          let nodes : c.match-found.nodes ≡ part c.args.left.cover.node (part index.cover.node none) = w.nodes-is ∙ w.in_ok-push-in-Index.ensures.pushed ∙ (λ i. push (one i) (w.in_ok-into_expression-in-Index.ensures.settled.0 i)) in
          links_read found optional c.match-matches.matches value object called nodes made
          (subst (λ v. Adds c.args.self.now.cursor v.cursor c.args.self.now.pairs.items v.pairs.items (BehindOn c.args.self.now.cursor.text found optional (part index.cover.node none))) (sym w.self-is)
          (index_read found optional text opened same w.in-Index.is passed w.expect_punctuator.ensures.text w.expect_punctuator.ensures.same_open w.expect_punctuator.ensures.same_pairs w.in_ok-expect_punctuator-in-Index.ensures.accepted.0 refl refl refl w.expression.ensures.text w.in_ok-index-in-Index.ensures.derived w.in_ok-into_expression-in-Index.ensures.settled.1
          w.expect_punctuator-in-Index.ensures.same_open w.expect_punctuator-in-Index.ensures.same_pairs w.in_ok-expect_punctuator-in-Index-2.ensures.accepted.0))
      | other_subscript-in-Arguments+in_ok-arguments-in-Arguments+in_ok-append-in-Arguments w ↦
          let nodes : c.match-found.nodes ≡ part c.args.left.cover.node w.in_ok-arguments-in-Arguments.field-0 = w.nodes-is ∙ w.in_ok-append-in-Arguments.ensures.joined ∙ (λ i. join (one i) w.in_ok-arguments-in-Arguments.field-0) in
          links_read found optional c.match-matches.matches value object called nodes made
          (subst (λ v. Adds c.args.self.now.cursor v.cursor c.args.self.now.pairs.items v.pairs.items (BehindOn c.args.self.now.cursor.text found optional w.in_ok-arguments-in-Arguments.field-0)) (sym w.self-is)
          (arguments_read_behind found optional text opened same w.in-Arguments.is passed w.in_ok-arguments-in-Arguments.ensures.derived))
      | other_subscript-in-Quasi+in_ok-list-in-Quasi+in_ok-list-in-Quasi-2+in_ok-finish_list-in-Quasi+in_ok-push-in-Quasi w ↦
          let template = w.in_ok-finish_list-in-Quasi.field-0.cover.node in
          let nodes : c.match-found.nodes ≡ part c.args.left.cover.node (part template none) = w.nodes-is ∙ w.in_ok-push-in-Quasi.ensures.pushed ∙ (λ i. push (one i) template) in
          let list = w.in_ok-list-in-Quasi-2.ensures in
          links_read found optional c.match-matches.matches value object called nodes made
          (subst (λ v. Adds c.args.self.now.cursor v.cursor c.args.self.now.pairs.items v.pairs.items (BehindOn c.args.self.now.cursor.text found optional (part template none))) (sym w.self-is)
          (template_read found optional w.in_ok-list-in-Quasi.list w.in_ok-list-in-Quasi-2.list template text opened same w.in-Quasi.is passed w.open.ensures.text w.open.ensures.same_open w.open.ensures.same_pairs w.in_ok-list-in-Quasi.ensures.listed w.in_ok-list-in-Quasi.ensures.begun w.in_ok-list-in-Quasi.ensures.template
          list.same.0 list.same.1 (ap (λ (p : Operand). p.cover.node) w.in_ok-finish_list-in-Quasi.ensures.made.0) list.derived))
    ]

pub other_subscript-returns-clause-passes : goal.other_subscript-returns-clause-passes
other_subscript-returns-clause-passes t c =
    let start = c.args.self.now.cursor in
    let middle = c.subscript_start.new.self.cursor in
    let forward = c.subscript_start.ensures.forward in
    let text = c.subscript_start.ensures.text in
    elim c.match-found.branch [
      | other_subscript-in-Name+in_ok-name-in-Name+in_ok-token_node-in-Name+in_ok-push-in-Name w ↦
          subst (λ v. Passes start v.cursor) (sym w.self-is) (passes_behind start middle w.member_name.new.self.cursor forward text w.in_ok-name-in-Name.ensures.passes)
      | other_subscript-in-Index+in_ok-expect_punctuator-in-Index+in_ok-index-in-Index+in_ok-into_expression-in-Index+in_ok-push-in-Index+in_ok-expect_punctuator-in-Index-2 w ↦
          let first = passes_behind start middle w.expect_punctuator.new.self.cursor forward text w.in_ok-expect_punctuator-in-Index.ensures.passes in
          let second = passes_further start w.expect_punctuator.new.self.cursor w.expression.new.self.cursor first w.expression.ensures.forward in
          subst (λ v. Passes start v.cursor) (sym w.self-is) (passes_further start w.expression.new.self.cursor w.expect_punctuator-in-Index.new.self.cursor second w.expect_punctuator-in-Index.ensures.forward)
      | other_subscript-in-Arguments+in_ok-arguments-in-Arguments+in_ok-append-in-Arguments w ↦
          subst (λ v. Passes start v.cursor) (sym w.self-is) (passes_behind start middle w.arguments.new.self.cursor forward text w.in_ok-arguments-in-Arguments.ensures.passes)
      | other_subscript-in-Quasi+in_ok-list-in-Quasi+in_ok-list-in-Quasi-2+in_ok-finish_list-in-Quasi+in_ok-push-in-Quasi w ↦
          let first = passes_behind start middle w.open.new.self.cursor forward text (w.in_ok-list-in-Quasi.ensures.passes tt) in
          subst (λ v. Passes start v.cursor) (sym w.self-is) (passes_further start w.open.new.self.cursor w.list.new.self.cursor first w.list.ensures.forward)
    ]

pub other_subscript-returns-in_err-found-clause-complete : goal.other_subscript-returns-in_err-found-clause-complete
other_subscript-returns-in_err-found-clause-complete t c = unlinked_refused c.args.self.now.cursor c.subscript_start.new.self.cursor c.subscript_start.new.self.cursor c.args.self.now.pairs.items c.subscript_start.new.self.pairs.items c.args.high c.args.left _ c.in_err-found.field-0.0 c.from_residual-in_err-found.ensures.1 c.subscript_start.ensures.text c.in_err-found.ensures.failed

pub other_subscript-returns-in_err-name-in-Name-clause-complete : goal.other_subscript-returns-in_err-name-in-Name-clause-complete
other_subscript-returns-in_err-name-in-Name-clause-complete t c = word_refused c.args.self.now.cursor c.subscript_start.new.self.cursor c.member_name.new.self.cursor c.args.self.now.pairs.items c.member_name.new.self.pairs.items c.args.high c.args.left c.in_ok-found.found c.in_ok-found.optional _ c.in_err-name-in-Name.field-0.0 c.from_residual-in_err-name-in-Name.ensures.1 c.subscript_start.ensures.text c.subscript_start.ensures.same_open c.in_ok-found.ensures.linked c.in-Name.is c.in_err-name-in-Name.ensures.none

pub other_subscript-returns-in_err-expect_punctuator-in-Index-clause-complete : goal.other_subscript-returns-in_err-expect_punctuator-in-Index-clause-complete
other_subscript-returns-in_err-expect_punctuator-in-Index-clause-complete t c = bracket_refused c.args.self.now.cursor c.subscript_start.new.self.cursor c.expect_punctuator.new.self.cursor c.args.self.now.pairs.items c.expect_punctuator.new.self.pairs.items c.args.high c.args.left c.in_ok-found.found c.in_ok-found.optional _ c.in_err-expect_punctuator-in-Index.field-0.0 c.from_residual-in_err-expect_punctuator-in-Index.ensures.1 c.subscript_start.ensures.text c.subscript_start.ensures.same_open c.in_ok-found.ensures.linked c.in-Index.is c.in_err-expect_punctuator-in-Index.ensures.missed.0

pub other_subscript-returns-in_err-index-in-Index-clause-complete : goal.other_subscript-returns-in_err-index-in-Index-clause-complete
other_subscript-returns-in_err-index-in-Index-clause-complete t c = index_refused c.args.self.now.cursor c.subscript_start.new.self.cursor c.expression.new.self.cursor c.args.self.now.pairs.items c.expression.new.self.pairs.items c.args.high c.args.left c.in_ok-found.found c.in_ok-found.optional _ c.in_err-index-in-Index.field-0.0 c.from_residual-in_err-index-in-Index.ensures.1 c.subscript_start.ensures.text c.subscript_start.ensures.same_open c.in_ok-found.ensures.linked c.expect_punctuator.new.self.cursor c.expression.new.self.cursor c.expect_punctuator.new.self.pairs.items c.expression.new.self.pairs.items c.saturating_sub-inner.result c.in-Index.is c.expect_punctuator.ensures.text c.expect_punctuator.ensures.same_open c.in_ok-expect_punctuator-in-Index.ensures.accepted.0 c.saturating_sub-inner.ensures c.in_err-index-in-Index.ensures.complete

pub other_subscript-returns-in_err-into_expression-in-Index-clause-complete : goal.other_subscript-returns-in_err-into_expression-in-Index-clause-complete
other_subscript-returns-in_err-into_expression-in-Index-clause-complete t c = index_unsettled c.args.self.now.cursor c.subscript_start.new.self.cursor c.expression.new.self.cursor c.args.self.now.pairs.items c.expression.new.self.pairs.items c.args.high c.args.left c.in_ok-found.found c.in_ok-found.optional _ c.in_err-into_expression-in-Index.field-0.0 c.from_residual-in_err-into_expression-in-Index.ensures.1 c.subscript_start.ensures.text c.subscript_start.ensures.same_open c.in_ok-found.ensures.linked c.expect_punctuator.new.self.cursor c.expression.new.self.cursor c.expect_punctuator.new.self.pairs.items c.expression.new.self.pairs.items c.saturating_sub-inner.result c.in-Index.is c.expect_punctuator.ensures.text c.expect_punctuator.ensures.same_open c.in_ok-expect_punctuator-in-Index.ensures.accepted.0 c.saturating_sub-inner.ensures c.in_ok-index-in-Index.index c.in_ok-index-in-Index.ensures.complete c.in_err-into_expression-in-Index.ensures.settled.1

pub other_subscript-returns-in_err-expect_punctuator-in-Index-2-clause-complete : goal.other_subscript-returns-in_err-expect_punctuator-in-Index-2-clause-complete
other_subscript-returns-in_err-expect_punctuator-in-Index-2-clause-complete t c = unclosed_refused c.args.self.now.cursor c.subscript_start.new.self.cursor c.expect_punctuator-in-Index.new.self.cursor c.args.self.now.pairs.items c.expect_punctuator-in-Index.new.self.pairs.items c.args.high c.args.left c.in_ok-found.found c.in_ok-found.optional _ c.in_err-expect_punctuator-in-Index-2.field-0.0 c.from_residual-in_err-expect_punctuator-in-Index-2.ensures.1 c.subscript_start.ensures.text c.subscript_start.ensures.same_open c.in_ok-found.ensures.linked c.expect_punctuator.new.self.cursor c.expression.new.self.cursor c.expect_punctuator.new.self.pairs.items c.expression.new.self.pairs.items c.saturating_sub-inner.result c.in-Index.is c.expect_punctuator.ensures.text c.expect_punctuator.ensures.same_open c.in_ok-expect_punctuator-in-Index.ensures.accepted.0 c.saturating_sub-inner.ensures c.in_ok-index-in-Index.index c.in_ok-index-in-Index.ensures.complete c.expression.ensures.text c.in_err-expect_punctuator-in-Index-2.ensures.missed.0

pub other_subscript-returns-in_err-arguments-in-Arguments-clause-complete : goal.other_subscript-returns-in_err-arguments-in-Arguments-clause-complete
other_subscript-returns-in_err-arguments-in-Arguments-clause-complete t c = called_refused c.args.self.now.cursor c.subscript_start.new.self.cursor c.arguments.new.self.cursor c.args.self.now.pairs.items c.arguments.new.self.pairs.items c.args.high c.args.left c.in_ok-found.found c.in_ok-found.optional _ c.in_err-arguments-in-Arguments.field-0.0 c.from_residual-in_err-arguments-in-Arguments.ensures.1 c.subscript_start.ensures.text c.subscript_start.ensures.same_open c.in_ok-found.ensures.linked c.arguments.new.self.cursor c.subscript_start.new.self.pairs.items c.arguments.new.self.pairs.items c.saturating_sub-inner.result c.in-Arguments.is c.saturating_sub-inner.ensures c.in_err-arguments-in-Arguments.ensures.complete

pub other_subscript-returns-in_err-list-in-Quasi-clause-complete : goal.other_subscript-returns-in_err-list-in-Quasi-clause-complete
other_subscript-returns-in_err-list-in-Quasi-clause-complete t c = unopened_refused c.args.self.now.cursor c.subscript_start.new.self.cursor c.open.new.self.cursor c.args.self.now.pairs.items c.open.new.self.pairs.items c.args.high c.args.left c.in_ok-found.found c.in_ok-found.optional _ c.in_err-list-in-Quasi.field-0.0 c.from_residual-in_err-list-in-Quasi.ensures.1 c.subscript_start.ensures.text c.subscript_start.ensures.same_open c.in_ok-found.ensures.linked _ _ c.in-Quasi.is refl c.in_err-list-in-Quasi.ensures.not_begun c.in_err-list-in-Quasi.ensures.untemplated (omega arith)

pub other_subscript-returns-in_err-list-in-Quasi-2-clause-complete : goal.other_subscript-returns-in_err-list-in-Quasi-2-clause-complete
other_subscript-returns-in_err-list-in-Quasi-2-clause-complete t c = unlisted_refused c.args.self.now.cursor c.subscript_start.new.self.cursor c.list.new.self.cursor c.args.self.now.pairs.items c.list.new.self.pairs.items c.args.high c.args.left c.in_ok-found.found c.in_ok-found.optional _ c.in_err-list-in-Quasi-2.field-0.0 c.from_residual-in_err-list-in-Quasi-2.ensures.1 c.subscript_start.ensures.text c.subscript_start.ensures.same_open c.in_ok-found.ensures.linked c.open.new.self.cursor c.list.new.self.cursor c.open.new.self.pairs.items c.list.new.self.pairs.items c.saturating_sub-inner.result _ c.in_ok-list-in-Quasi.list c.in-Quasi.is c.open.ensures.text c.open.ensures.same_open c.in_ok-list-in-Quasi.ensures.listed c.in_ok-list-in-Quasi.ensures.template c.saturating_sub-inner.ensures c.in_err-list-in-Quasi-2.ensures.complete (omega arith)

pub other_subscript-returns-in_err-finish_list-in-Quasi-clause-complete : goal.other_subscript-returns-in_err-finish_list-in-Quasi-clause-complete
other_subscript-returns-in_err-finish_list-in-Quasi-clause-complete t c = unmade_refused c.args.self.now.cursor c.subscript_start.new.self.cursor c.list.new.self.cursor c.args.self.now.pairs.items c.list.new.self.pairs.items c.args.high c.args.left c.in_ok-found.found c.in_ok-found.optional _ c.in_err-finish_list-in-Quasi.field-0.0 c.from_residual-in_err-finish_list-in-Quasi.ensures.1 c.subscript_start.ensures.text c.subscript_start.ensures.same_open c.in_ok-found.ensures.linked c.open.new.self.cursor c.list.new.self.cursor c.open.new.self.pairs.items c.list.new.self.pairs.items c.saturating_sub-inner.result c.saturating_sub-inner.result c.in_ok-list-in-Quasi.list c.in-Quasi.is c.open.ensures.text c.open.ensures.same_open c.in_ok-list-in-Quasi.ensures.listed c.in_ok-list-in-Quasi.ensures.template c.saturating_sub-inner.ensures c.in_ok-list-in-Quasi-2.list c.in_ok-list-in-Quasi-2.ensures.complete c.in_err-finish_list-in-Quasi.ensures.made

pub other_subscript-returns-in_err-node-clause-complete : goal.other_subscript-returns-in_err-node-clause-complete
other_subscript-returns-in_err-node-clause-complete t c =
    let text = c.subscript_start.ensures.text in
    let opened = c.subscript_start.ensures.same_open in
    let same = c.subscript_start.ensures.same_pairs in
    let found = c.in_ok-found.found in
    let optional = c.in_ok-found.optional in
    let passed = c.in_ok-found.ensures.linked in
    let one : c.one-nodes.result ≡ part c.args.left.cover.node none = c.one-nodes.ensures ∙ ap (λ n. part n none) c.in_ok-into_expression.ensures.settled.0 in
    elim c.match-found.branch [
      | other_subscript-in-Name+in_ok-name-in-Name+in_ok-token_node-in-Name+in_ok-push-in-Name w ↦
          let nodes : c.match-found.nodes ≡ part c.args.left.cover.node (part (key_node (token_of w.in_ok-name-in-Name.name)) none) = w.nodes-is ∙ w.in_ok-push-in-Name.ensures.pushed ∙ (λ i. push (one i) ((w.in_ok-token_node-in-Name.ensures.made.0 ∙ w.member_kind.ensures w.in_ok-name-in-Name.ensures.named) i)) in
          linked_high c.args.high _ c.args.left _ c.in_err-node.field-0.0 c.from_residual-in_err-node.ensures.1 (link_once c.args.self.now.cursor c.subscript_start.new.self.cursor text passed
          (subst (λ v. Adds c.args.self.now.cursor v.cursor c.args.self.now.pairs.items v.pairs.items (BehindOn c.args.self.now.cursor.text found optional (part (key_node (token_of w.in_ok-name-in-Name.name)) none))) (sym w.self-is)
          (name_read found optional (key_node (token_of w.in_ok-name-in-Name.name)) text opened same w.in-Name.is passed w.member_name.ensures.same_open w.member_name.ensures.same_pairs w.in_ok-name-in-Name.ensures.derived w.in_ok-name-in-Name.ensures.own))) c.in_err-node.ensures.made.0 c.in_err-node.ensures.made.1 (ap (λ ps. suc (parts_height ps)) nodes)
      | other_subscript-in-Index+in_ok-expect_punctuator-in-Index+in_ok-index-in-Index+in_ok-into_expression-in-Index+in_ok-push-in-Index+in_ok-expect_punctuator-in-Index-2 w ↦
          let index = w.in_ok-index-in-Index.index in
          let nodes : c.match-found.nodes ≡ part c.args.left.cover.node (part index.cover.node none) = w.nodes-is ∙ w.in_ok-push-in-Index.ensures.pushed ∙ (λ i. push (one i) (w.in_ok-into_expression-in-Index.ensures.settled.0 i)) in
          linked_high c.args.high _ c.args.left _ c.in_err-node.field-0.0 c.from_residual-in_err-node.ensures.1 (link_once c.args.self.now.cursor c.subscript_start.new.self.cursor text passed
          (subst (λ v. Adds c.args.self.now.cursor v.cursor c.args.self.now.pairs.items v.pairs.items (BehindOn c.args.self.now.cursor.text found optional (part index.cover.node none))) (sym w.self-is)
          (index_read found optional text opened same w.in-Index.is passed w.expect_punctuator.ensures.text w.expect_punctuator.ensures.same_open w.expect_punctuator.ensures.same_pairs w.in_ok-expect_punctuator-in-Index.ensures.accepted.0 refl refl refl w.expression.ensures.text w.in_ok-index-in-Index.ensures.derived w.in_ok-into_expression-in-Index.ensures.settled.1
          w.expect_punctuator-in-Index.ensures.same_open w.expect_punctuator-in-Index.ensures.same_pairs w.in_ok-expect_punctuator-in-Index-2.ensures.accepted.0))) c.in_err-node.ensures.made.0 c.in_err-node.ensures.made.1 (ap (λ ps. suc (parts_height ps)) nodes)
      | other_subscript-in-Arguments+in_ok-arguments-in-Arguments+in_ok-append-in-Arguments w ↦
          let nodes : c.match-found.nodes ≡ part c.args.left.cover.node w.in_ok-arguments-in-Arguments.field-0 = w.nodes-is ∙ w.in_ok-append-in-Arguments.ensures.joined ∙ (λ i. join (one i) w.in_ok-arguments-in-Arguments.field-0) in
          linked_high c.args.high _ c.args.left _ c.in_err-node.field-0.0 c.from_residual-in_err-node.ensures.1 (link_once c.args.self.now.cursor c.subscript_start.new.self.cursor text passed
          (subst (λ v. Adds c.args.self.now.cursor v.cursor c.args.self.now.pairs.items v.pairs.items (BehindOn c.args.self.now.cursor.text found optional w.in_ok-arguments-in-Arguments.field-0)) (sym w.self-is)
          (arguments_read_behind found optional text opened same w.in-Arguments.is passed w.in_ok-arguments-in-Arguments.ensures.derived))) c.in_err-node.ensures.made.0 c.in_err-node.ensures.made.1 (ap (λ ps. suc (parts_height ps)) nodes)
      | other_subscript-in-Quasi+in_ok-list-in-Quasi+in_ok-list-in-Quasi-2+in_ok-finish_list-in-Quasi+in_ok-push-in-Quasi w ↦
          let template = w.in_ok-finish_list-in-Quasi.field-0.cover.node in
          let nodes : c.match-found.nodes ≡ part c.args.left.cover.node (part template none) = w.nodes-is ∙ w.in_ok-push-in-Quasi.ensures.pushed ∙ (λ i. push (one i) template) in
          let list = w.in_ok-list-in-Quasi-2.ensures in
          linked_high c.args.high _ c.args.left _ c.in_err-node.field-0.0 c.from_residual-in_err-node.ensures.1 (link_once c.args.self.now.cursor c.subscript_start.new.self.cursor text passed
          (subst (λ v. Adds c.args.self.now.cursor v.cursor c.args.self.now.pairs.items v.pairs.items (BehindOn c.args.self.now.cursor.text found optional (part template none))) (sym w.self-is)
          (template_read found optional w.in_ok-list-in-Quasi.list w.in_ok-list-in-Quasi-2.list template text opened same w.in-Quasi.is passed w.open.ensures.text w.open.ensures.same_open w.open.ensures.same_pairs w.in_ok-list-in-Quasi.ensures.listed w.in_ok-list-in-Quasi.ensures.begun w.in_ok-list-in-Quasi.ensures.template
          list.same.0 list.same.1 (ap (λ (p : Operand). p.cover.node) w.in_ok-finish_list-in-Quasi.ensures.made.0) list.derived))) c.in_err-node.ensures.made.0 c.in_err-node.ensures.made.1 (ap (λ ps. suc (parts_height ps)) nodes)
    ]

pub other_subscript-returns-clause-complete : goal.other_subscript-returns-clause-complete
other_subscript-returns-clause-complete t c =
    let text = c.subscript_start.ensures.text in
    let opened = c.subscript_start.ensures.same_open in
    let same = c.subscript_start.ensures.same_pairs in
    let found = c.in_ok-found.found in
    let optional = c.in_ok-found.optional in
    let passed = c.in_ok-found.ensures.linked in
    let value = c.in_ok-into_expression.ensures.settled.1 in
    let object : takes Call c.args.left.rank ≡ true = sym c.accepts_rank.ensures ∙ c.if-not-accepts_rank.false in
    let called : c.match-matches.matches ≡ is_call c.args.left.rank = elim c.match-matches.branch [ other_subscript-in-Call w ↦ w.matches-is ∙ call_is c.args.left.rank w.in-Call.is | other_subscript-in_default w ↦ w.matches-is ∙ call_is_not c.args.left.rank w.in_default.not-Call ] in
    let one : c.one-nodes.result ≡ part c.args.left.cover.node none = c.one-nodes.ensures ∙ ap (λ n. part n none) c.in_ok-into_expression.ensures.settled.0 in
    let span = c.span_from-span.ensures in
    let tree : c.in_ok-node.node ≡ node (link_kind found) [] (link_flags found optional) c.args.left.start c.match-found.self.cursor.last.stop c.match-found.nodes = c.in_ok-node.ensures.made.0 ∙ (λ i. node (c.kind.ensures i) [] (c.flags.ensures i) (span i).start (span i).end c.match-found.nodes) in
    let made : c.plain.result ≡ plain_part (node (link_kind found) [] (link_flags found optional) c.args.left.start c.match-found.self.cursor.last.stop c.match-found.nodes) (link_rank found c.match-matches.matches) Other = c.plain.ensures ∙ (λ i. plain_part (tree i) (c.rank.ensures i) Other) in
    elim c.match-found.branch [
      | other_subscript-in-Name+in_ok-name-in-Name+in_ok-token_node-in-Name+in_ok-push-in-Name w ↦
          let nodes : c.match-found.nodes ≡ part c.args.left.cover.node (part (key_node (token_of w.in_ok-name-in-Name.name)) none) = w.nodes-is ∙ w.in_ok-push-in-Name.ensures.pushed ∙ (λ i. push (one i) ((w.in_ok-token_node-in-Name.ensures.made.0 ∙ w.member_kind.ensures w.in_ok-name-in-Name.ensures.named) i)) in
          linked_answered c.args.high c.args.left c.plain.result (link_once c.args.self.now.cursor c.subscript_start.new.self.cursor text passed
          (subst (λ v. Adds c.args.self.now.cursor v.cursor c.args.self.now.pairs.items v.pairs.items (BehindOn c.args.self.now.cursor.text found optional (part (key_node (token_of w.in_ok-name-in-Name.name)) none))) (sym w.self-is)
          (name_read found optional (key_node (token_of w.in_ok-name-in-Name.name)) text opened same w.in-Name.is passed w.member_name.ensures.same_open w.member_name.ensures.same_pairs w.in_ok-name-in-Name.ensures.derived w.in_ok-name-in-Name.ensures.own))) called nodes made
      | other_subscript-in-Index+in_ok-expect_punctuator-in-Index+in_ok-index-in-Index+in_ok-into_expression-in-Index+in_ok-push-in-Index+in_ok-expect_punctuator-in-Index-2 w ↦
          let index = w.in_ok-index-in-Index.index in
          let nodes : c.match-found.nodes ≡ part c.args.left.cover.node (part index.cover.node none) = w.nodes-is ∙ w.in_ok-push-in-Index.ensures.pushed ∙ (λ i. push (one i) (w.in_ok-into_expression-in-Index.ensures.settled.0 i)) in
          linked_answered c.args.high c.args.left c.plain.result (link_once c.args.self.now.cursor c.subscript_start.new.self.cursor text passed
          (subst (λ v. Adds c.args.self.now.cursor v.cursor c.args.self.now.pairs.items v.pairs.items (BehindOn c.args.self.now.cursor.text found optional (part index.cover.node none))) (sym w.self-is)
          (index_read found optional text opened same w.in-Index.is passed w.expect_punctuator.ensures.text w.expect_punctuator.ensures.same_open w.expect_punctuator.ensures.same_pairs w.in_ok-expect_punctuator-in-Index.ensures.accepted.0 refl refl refl w.expression.ensures.text w.in_ok-index-in-Index.ensures.derived w.in_ok-into_expression-in-Index.ensures.settled.1
          w.expect_punctuator-in-Index.ensures.same_open w.expect_punctuator-in-Index.ensures.same_pairs w.in_ok-expect_punctuator-in-Index-2.ensures.accepted.0))) called nodes made
      | other_subscript-in-Arguments+in_ok-arguments-in-Arguments+in_ok-append-in-Arguments w ↦
          let nodes : c.match-found.nodes ≡ part c.args.left.cover.node w.in_ok-arguments-in-Arguments.field-0 = w.nodes-is ∙ w.in_ok-append-in-Arguments.ensures.joined ∙ (λ i. join (one i) w.in_ok-arguments-in-Arguments.field-0) in
          linked_answered c.args.high c.args.left c.plain.result (link_once c.args.self.now.cursor c.subscript_start.new.self.cursor text passed
          (subst (λ v. Adds c.args.self.now.cursor v.cursor c.args.self.now.pairs.items v.pairs.items (BehindOn c.args.self.now.cursor.text found optional w.in_ok-arguments-in-Arguments.field-0)) (sym w.self-is)
          (arguments_read_behind found optional text opened same w.in-Arguments.is passed w.in_ok-arguments-in-Arguments.ensures.derived))) called nodes made
      | other_subscript-in-Quasi+in_ok-list-in-Quasi+in_ok-list-in-Quasi-2+in_ok-finish_list-in-Quasi+in_ok-push-in-Quasi w ↦
          let template = w.in_ok-finish_list-in-Quasi.field-0.cover.node in
          let nodes : c.match-found.nodes ≡ part c.args.left.cover.node (part template none) = w.nodes-is ∙ w.in_ok-push-in-Quasi.ensures.pushed ∙ (λ i. push (one i) template) in
          let list = w.in_ok-list-in-Quasi-2.ensures in
          linked_answered c.args.high c.args.left c.plain.result (link_once c.args.self.now.cursor c.subscript_start.new.self.cursor text passed
          (subst (λ v. Adds c.args.self.now.cursor v.cursor c.args.self.now.pairs.items v.pairs.items (BehindOn c.args.self.now.cursor.text found optional (part template none))) (sym w.self-is)
          (template_read found optional w.in_ok-list-in-Quasi.list w.in_ok-list-in-Quasi-2.list template text opened same w.in-Quasi.is passed w.open.ensures.text w.open.ensures.same_open w.open.ensures.same_pairs w.in_ok-list-in-Quasi.ensures.listed w.in_ok-list-in-Quasi.ensures.begun w.in_ok-list-in-Quasi.ensures.template
          list.same.0 list.same.1 (ap (λ (p : Operand). p.cover.node) w.in_ok-finish_list-in-Quasi.ensures.made.0) list.derived))) called nodes made
    ]

pub other_subscript-returns-in_err-token_node-in-Name-clause-complete : goal.other_subscript-returns-in_err-token_node-in-Name-clause-complete
other_subscript-returns-in_err-token_node-in-Name-clause-complete t c = name_high c.args.self.now.cursor c.member_name.new.self.cursor c.args.self.now.pairs.items c.member_name.new.self.pairs.items c.args.high c.saturating_sub-inner.result c.args.left _ c.in_err-token_node-in-Name.field-0.0 c.from_residual-in_err-token_node-in-Name.ensures.1 c.saturating_sub-inner.ensures c.in_err-token_node-in-Name.ensures.made.0 c.in_err-token_node-in-Name.ensures.made.1

pub other_subscript-returns-clause-own : goal.other_subscript-returns-clause-own
other_subscript-returns-clause-own t c = λ object.
    let text = c.args.self.now.cursor.text in
    let at = c.subscript_start.ensures.text in
    let found = c.in_ok-found.found in
    let optional = c.in_ok-found.optional in
    let one : c.one-nodes.result ≡ part c.args.left.cover.node none = c.one-nodes.ensures ∙ ap (λ n. part n none) c.in_ok-into_expression.ensures.settled.0 in
    let span = c.span_from-span.ensures in
    let tree : c.in_ok-node.node ≡ node (link_kind found) [] (link_flags found optional) c.args.left.start c.match-found.self.cursor.last.stop c.match-found.nodes = c.in_ok-node.ensures.made.0 ∙ (λ i. node (c.kind.ensures i) [] (c.flags.ensures i) (span i).start (span i).end c.match-found.nodes) in
    subst (OfLanguage text) (sym (ap (λ (p : Operand). p.cover.node) c.plain.ensures ∙ tree))
    (elim c.match-found.branch [
      | other_subscript-in-Name+in_ok-name-in-Name+in_ok-token_node-in-Name+in_ok-push-in-Name w ↦
          let name = key_node (token_of w.in_ok-name-in-Name.name) in
          let nodes : c.match-found.nodes ≡ part c.args.left.cover.node (part name none) = w.nodes-is ∙ w.in_ok-push-in-Name.ensures.pushed ∙ (λ i. push (one i) ((w.in_ok-token_node-in-Name.ensures.made.0 ∙ w.member_kind.ensures w.in_ok-name-in-Name.ensures.named) i)) in
          link_own found optional nodes (of_part (subst (λ x. OfLanguage x name) at w.in_ok-name-in-Name.ensures.own) of_none) object
      | other_subscript-in-Index+in_ok-expect_punctuator-in-Index+in_ok-index-in-Index+in_ok-into_expression-in-Index+in_ok-push-in-Index+in_ok-expect_punctuator-in-Index-2 w ↦
          let index = w.in_ok-index-in-Index.index in
          let nodes : c.match-found.nodes ≡ part c.args.left.cover.node (part index.cover.node none) = w.nodes-is ∙ w.in_ok-push-in-Index.ensures.pushed ∙ (λ i. push (one i) (w.in_ok-into_expression-in-Index.ensures.settled.0 i)) in
          link_own found optional nodes (of_part (subst (λ x. OfLanguage x index.cover.node) (w.expect_punctuator.ensures.text ∙ at) w.in_ok-index-in-Index.ensures.own) of_none) object
      | other_subscript-in-Arguments+in_ok-arguments-in-Arguments+in_ok-append-in-Arguments w ↦
          let nodes : c.match-found.nodes ≡ part c.args.left.cover.node w.in_ok-arguments-in-Arguments.field-0 = w.nodes-is ∙ w.in_ok-append-in-Arguments.ensures.joined ∙ (λ i. join (one i) w.in_ok-arguments-in-Arguments.field-0) in
          link_own found optional nodes (subst (λ x. AllOfLanguage x w.in_ok-arguments-in-Arguments.field-0) at w.in_ok-arguments-in-Arguments.ensures.own) object
      | other_subscript-in-Quasi+in_ok-list-in-Quasi+in_ok-list-in-Quasi-2+in_ok-finish_list-in-Quasi+in_ok-push-in-Quasi w ↦
          let template = w.in_ok-finish_list-in-Quasi.field-0.cover.node in
          let nodes : c.match-found.nodes ≡ part c.args.left.cover.node (part template none) = w.nodes-is ∙ w.in_ok-push-in-Quasi.ensures.pushed ∙ (λ i. push (one i) template) in
          let items = w.in_ok-list-in-Quasi-2.ensures.own (subst (λ x. AllOfLanguage x w.in_ok-list-in-Quasi.list.nodes) (sym w.open.ensures.text) w.in_ok-list-in-Quasi.ensures.own) in
          let whole = subst (OfLanguage text) (sym (ap (λ (p : Operand). p.cover.node) w.in_ok-finish_list-in-Quasi.ensures.made.0)) (list_own w.in_ok-list-in-Quasi-2.list (subst (λ x. AllOfLanguage x w.in_ok-list-in-Quasi-2.list.nodes) (w.open.ensures.text ∙ at) items)) in
          link_own found optional nodes (of_part whole of_none) object
    ])

pub property_name-returns-in-Some-clause-derived : goal.property_name-returns-in-Some-clause-derived
property_name-returns-in-Some-clause-derived t c =
    let m = c.modifiers-modifiers.ensures in
    named_alone c.args.in_class c.modifiers-modifiers.result m.same_open m.same_pairs m.modified c.in_ok-key.key c.in-Some.token c.in-Some.is c.in_ok-key.ensures.made.0

pub property_name-returns-then-not-accept_punctuator-clause-derived : goal.property_name-returns-then-not-accept_punctuator-clause-derived
property_name-returns-then-not-accept_punctuator-clause-derived t c =
    let m = c.modifiers-modifiers.ensures in
    named_plain c.args.in_class c.modifiers-modifiers.result m.same_open m.same_pairs m.modified m.text c.in_default.is c.in_ok-key-2.key c.accept_punctuator.ensures.text c.accept_punctuator.ensures.same_open c.accept_punctuator.ensures.same_pairs c.if-not-accept_punctuator.ensures.missed.1 c.plain_property_name.ensures.same_open c.plain_property_name.ensures.same_pairs c.in_ok-key-2.ensures.read.0 c.in_ok-key-2.ensures.read.1

pub property_name-returns-clause-derived : goal.property_name-returns-clause-derived
property_name-returns-clause-derived t c =
    let m = c.modifiers-modifiers.ensures in
    named_computed c.args.in_class c.modifiers-modifiers.result m.same_open m.same_pairs m.modified m.text c.in_default.is c.in_ok-node.node c.accept_punctuator.ensures.text c.accept_punctuator.ensures.same_open c.accept_punctuator.ensures.same_pairs c.if-not-accept_punctuator.ensures.accepted refl refl refl c.expression.ensures.text c.in_ok-part.ensures.derived c.in_ok-node.ensures.settled.0
    c.in_ok-node.ensures.settled.1 c.expect_punctuator.ensures.same_open c.expect_punctuator.ensures.same_pairs c.in_ok-expect_punctuator.ensures.accepted.0

pub property_name-returns-in-Some-clause-own : goal.property_name-returns-in-Some-clause-own
property_name-returns-in-Some-clause-own t c =
    subst (λ k. OfLanguage c.args.self.now.cursor.text k.node) (sym c.in_ok-key.ensures.made.0) (word_owned c.in-Some.token (word_class c.args.self.now.cursor.text c.in-Some.token c.in-Some.is c.modifiers-modifiers.ensures.modified))

pub property_name-returns-in-Some-clause-form : goal.property_name-returns-in-Some-clause-form
property_name-returns-in-Some-clause-form t c = form_owned c.modifiers-modifiers.ensures.modified

pub property_name-returns-then-not-accept_punctuator-clause-form : goal.property_name-returns-then-not-accept_punctuator-clause-form
property_name-returns-then-not-accept_punctuator-clause-form t c = form_owned c.modifiers-modifiers.ensures.modified

pub property_name-returns-clause-form : goal.property_name-returns-clause-form
property_name-returns-clause-form t c = form_owned c.modifiers-modifiers.ensures.modified

pub property_name-returns-in_err-key-clause-complete : goal.property_name-returns-in_err-key-clause-complete
property_name-returns-in_err-key-clause-complete t c =
    name_made c.args.self.now.cursor c.modifiers-modifiers.new.self.cursor c.args.self.now.pairs.items c.modifiers-modifiers.new.self.pairs.items c.args.high c.args.in_class c.from_residual.result c.in_err-key.field-0.0 c.from_residual.ensures.1 c.in_err-key.ensures.made.0 (subst (λ z. c.args.high < z) (key_height (token_of c.in-Some.token)) c.in_err-key.ensures.made.1)

pub property_name-returns-in-Some-clause-complete : goal.property_name-returns-in-Some-clause-complete
property_name-returns-in-Some-clause-complete t c =
    let m = c.modifiers-modifiers.ensures in
    let made = c.in_ok-key.ensures.made.0 in
    name_alone c.args.self.now.cursor c.modifiers-modifiers.new.self.cursor c.args.self.now.pairs.items c.modifiers-modifiers.new.self.pairs.items c.args.high c.args.in_class c.modifiers-modifiers.new.self.cursor c.modifiers-modifiers.result m.modified c.in_ok-key.key c.in-Some.token c.in-Some.is (ap (λ k. k.computed) made) (ap (λ k. k.token) made) refl

pub property_name-returns-in_err-key-2-clause-complete : goal.property_name-returns-in_err-key-2-clause-complete
property_name-returns-in_err-key-2-clause-complete t c =
    let m = c.modifiers-modifiers.ensures in
    let missed = subst (λ z. Misses z Punctuator (codes "[") c.modifiers-modifiers.new.self.cursor.last) m.text c.if-not-accept_punctuator.ensures.missed.0 in
    name_no_key c.args.self.now.cursor c.plain_property_name.new.self.cursor c.args.self.now.pairs.items c.plain_property_name.new.self.pairs.items c.args.high c.args.in_class c.modifiers-modifiers.new.self.cursor c.modifiers-modifiers.result m.modified c.in_default.is missed c.accept_punctuator.new.self.cursor c.from_residual-in_err-key-2.result c.in_err-key-2.field-0.0 c.from_residual-in_err-key-2.ensures.1 (c.accept_punctuator.ensures.text ∙ m.text) c.if-not-accept_punctuator.ensures.missed.1 c.in_err-key-2.ensures.no_key

pub property_name-returns-then-not-accept_punctuator-clause-complete : goal.property_name-returns-then-not-accept_punctuator-clause-complete
property_name-returns-then-not-accept_punctuator-clause-complete t c =
    let m = c.modifiers-modifiers.ensures in
    let missed = subst (λ z. Misses z Punctuator (codes "[") c.modifiers-modifiers.new.self.cursor.last) m.text c.if-not-accept_punctuator.ensures.missed.0 in
    name_plain c.args.self.now.cursor c.plain_property_name.new.self.cursor c.args.self.now.pairs.items c.plain_property_name.new.self.pairs.items c.args.high c.args.in_class c.modifiers-modifiers.new.self.cursor c.modifiers-modifiers.result m.modified c.in_default.is missed c.accept_punctuator.new.self.cursor c.in_ok-key-2.key (c.accept_punctuator.ensures.text ∙ m.text) c.if-not-accept_punctuator.ensures.missed.1 c.in_ok-key-2.ensures.read.0 c.in_ok-key-2.ensures.read.1

pub property_name-returns-in_err-part-clause-complete : goal.property_name-returns-in_err-part-clause-complete
property_name-returns-in_err-part-clause-complete t c =
    let m = c.modifiers-modifiers.ensures in
    let opens = subst (λ z. ReadsHere z Punctuator (codes "[") c.modifiers-modifiers.new.self.cursor.last c.accept_punctuator.new.self.cursor.last) m.text c.if-not-accept_punctuator.ensures.accepted in
    name_index c.args.self.now.cursor c.expression.new.self.cursor c.args.self.now.pairs.items c.expression.new.self.pairs.items c.args.high c.args.in_class c.modifiers-modifiers.new.self.cursor c.modifiers-modifiers.result m.modified c.in_default.is c.accept_punctuator.new.self.cursor opens c.expression.new.self.cursor c.accept_punctuator.new.self.pairs.items c.expression.new.self.pairs.items refl (c.accept_punctuator.ensures.text ∙ m.text) c.from_residual-in_err-part.result c.in_err-part.field-0.0 c.from_residual-in_err-part.ensures.1 (c.accept_punctuator.ensures.same_open ∙ m.same_open) c.in_err-part.ensures.complete

pub property_name-returns-in_err-node-clause-complete : goal.property_name-returns-in_err-node-clause-complete
property_name-returns-in_err-node-clause-complete t c =
    let m = c.modifiers-modifiers.ensures in
    let opens = subst (λ z. ReadsHere z Punctuator (codes "[") c.modifiers-modifiers.new.self.cursor.last c.accept_punctuator.new.self.cursor.last) m.text c.if-not-accept_punctuator.ensures.accepted in
    name_settled c.args.self.now.cursor c.expression.new.self.cursor c.args.self.now.pairs.items c.expression.new.self.pairs.items c.args.high c.args.in_class c.modifiers-modifiers.new.self.cursor c.modifiers-modifiers.result m.modified c.in_default.is c.accept_punctuator.new.self.cursor opens c.expression.new.self.cursor c.accept_punctuator.new.self.pairs.items c.expression.new.self.pairs.items refl (c.accept_punctuator.ensures.text ∙ m.text) c.in_ok-part.part c.in_ok-part.ensures.complete c.expression.new.self.cursor c.from_residual-in_err-node.result c.in_err-node.field-0.0 c.from_residual-in_err-node.ensures.1 c.in_err-node.ensures.settled

pub property_name-returns-in_err-expect_punctuator-clause-complete : goal.property_name-returns-in_err-expect_punctuator-clause-complete
property_name-returns-in_err-expect_punctuator-clause-complete t c =
    let m = c.modifiers-modifiers.ensures in
    let opens = subst (λ z. ReadsHere z Punctuator (codes "[") c.modifiers-modifiers.new.self.cursor.last c.accept_punctuator.new.self.cursor.last) m.text c.if-not-accept_punctuator.ensures.accepted in
    name_closed c.args.self.now.cursor c.expect_punctuator.new.self.cursor c.args.self.now.pairs.items c.expect_punctuator.new.self.pairs.items c.args.high c.args.in_class c.modifiers-modifiers.new.self.cursor c.modifiers-modifiers.result m.modified c.in_default.is c.accept_punctuator.new.self.cursor opens c.expression.new.self.cursor c.accept_punctuator.new.self.pairs.items c.expression.new.self.pairs.items refl (c.accept_punctuator.ensures.text ∙ m.text) c.in_ok-part.part c.in_ok-part.ensures.complete c.expect_punctuator.new.self.cursor c.from_residual-in_err-expect_punctuator.result c.in_err-expect_punctuator.field-0.0 c.from_residual-in_err-expect_punctuator.ensures.1
    (c.expression.ensures.text ∙ c.accept_punctuator.ensures.text ∙ m.text) c.in_err-expect_punctuator.ensures.here c.in_err-expect_punctuator.ensures.missed.0

pub property_name-returns-clause-complete : goal.property_name-returns-clause-complete
property_name-returns-clause-complete t c =
    let m = c.modifiers-modifiers.ensures in
    let opens = subst (λ z. ReadsHere z Punctuator (codes "[") c.modifiers-modifiers.new.self.cursor.last c.accept_punctuator.new.self.cursor.last) m.text c.if-not-accept_punctuator.ensures.accepted in
    name_computed c.args.self.now.cursor c.expect_punctuator.new.self.cursor c.args.self.now.pairs.items c.expect_punctuator.new.self.pairs.items c.args.high c.args.in_class c.modifiers-modifiers.new.self.cursor c.modifiers-modifiers.result m.modified c.in_default.is c.accept_punctuator.new.self.cursor opens c.expression.new.self.cursor c.accept_punctuator.new.self.pairs.items c.expression.new.self.pairs.items refl (c.accept_punctuator.ensures.text ∙ m.text) c.in_ok-part.part c.in_ok-part.ensures.complete (record { node = c.in_ok-node.node; computed = true; token = None; is_constructor = false })
    (c.expression.ensures.text ∙ c.accept_punctuator.ensures.text ∙ m.text) refl c.in_ok-expect_punctuator.ensures.accepted.0

pub property_value-returns-then-accept_punctuator-clause-own : goal.property_value-returns-then-accept_punctuator-clause-own
property_value-returns-then-accept_punctuator-clause-own t c = λ own.
    let made = c.in_ok-node.ensures.made.0 ∙ (λ i. node Property [] (c.property_flags-flags.ensures i) c.span_from-span.result.start c.span_from-span.result.end (c.two-nodes.ensures i)) in
    property_owned {f = Init} refl (ap (λ (x : ListItem). x.node) c.property_item.ensures ∙ made) own (subst (λ z. OfLanguage z c.in_ok-value.value.cover.node) c.accept_punctuator.ensures.text c.in_ok-value.ensures.own)

pub property_value-returns-clause-own : goal.property_value-returns-clause-own
property_value-returns-clause-own t c = λ own.
    let made = c.in_ok-node-2.ensures.made.0 ∙ (λ i. node Property [] (c.property_flags-flags-2.ensures i) c.span_from-span-2.result.start c.span_from-span-2.result.end (c.two-nodes-2.ensures i)) in
    let text = c.args.self.now.cursor.text in
    let name : OfLanguage text c.in_ok-value-2.value = subst (λ n. OfLanguage text n) (sym c.in_ok-value-2.ensures.made.0) (single_owned (token_of c.in-Some.token)) in
    let value : OfLanguage text c.if-accept_punctuator-2.value = elim c.if-accept_punctuator-2.branch [
      | property_value-then-accept_punctuator-2+in_ok-right+in_ok-into_expression+in_ok-value-3 w ↦
          let right : OfLanguage text w.in_ok-into_expression.field-0 = subst (λ n. OfLanguage text n) (sym w.in_ok-into_expression.ensures.settled.0) (subst (λ z. OfLanguage z w.in_ok-right.right.cover.node) (c.accept_punctuator-2.ensures.text ∙ c.accept_punctuator.ensures.text) w.in_ok-right.ensures.own) in
          subst (λ n. OfLanguage text n) (sym w.value-is) (assignment_owned (w.in_ok-value-3.ensures.made.0 ∙ (λ i. node AssignmentExpression (codes "=") plain w.span_from-span-then-accept_punctuator-2.result.start w.span_from-span-then-accept_punctuator-2.result.end (w.two-nodes-then-accept_punctuator-2.ensures i))) name right)
      | property_value-else-accept_punctuator-2 w ↦ subst (λ n. OfLanguage text n) (sym w.value-is) name
    ] in
    property_owned {f = Shorthand} refl (ap (λ (x : ListItem). x.node) c.property_item-2.ensures ∙ made) own value

pub property_value-returns-in_err-value-clause-complete : goal.property_value-returns-in_err-value-clause-complete
property_value-returns-in_err-value-clause-complete t c =
    value_refused c.args.self.now.cursor c.expression.new.self.cursor c.args.self.now.pairs.items c.expression.new.self.pairs.items c.args.high c.args.key c.accept_punctuator.new.self.cursor c.if-accept_punctuator.ensures.accepted c.expression.new.self.cursor c.accept_punctuator.new.self.pairs.items c.expression.new.self.pairs.items refl c.accept_punctuator.ensures.text c.from_residual.result c.in_err-value.field-0.0 c.from_residual.ensures.1 c.saturating_sub-inner.ensures c.accept_punctuator.ensures.same_open c.in_err-value.ensures.complete

pub property_value-returns-in_err-node-clause-complete : goal.property_value-returns-in_err-node-clause-complete
property_value-returns-in_err-node-clause-complete t c =
    value_made c.args.self.now.cursor c.expression.new.self.cursor c.args.self.now.pairs.items c.expression.new.self.pairs.items c.args.high c.args.key c.in_ok-value.value.cover.node _ c.from_residual-in_err-node.result c.in_err-node.field-0.0 c.from_residual-in_err-node.ensures.1 c.saturating_sub-inner.ensures
    (λ i. node Property [] c.property_flags-flags.result c.span_from-span.result.start c.span_from-span.result.end (c.two-nodes.ensures i)) c.in_ok-value.ensures.low c.in_err-node.ensures.made

pub property_value-returns-then-accept_punctuator-clause-complete : goal.property_value-returns-then-accept_punctuator-clause-complete
property_value-returns-then-accept_punctuator-clause-complete t c =
    value_answered c.args.self.now.cursor c.expression.new.self.cursor c.args.self.now.pairs.items c.expression.new.self.pairs.items c.args.high c.args.key c.accept_punctuator.new.self.cursor c.if-accept_punctuator.ensures.accepted c.expression.new.self.cursor c.accept_punctuator.new.self.pairs.items c.expression.new.self.pairs.items refl c.accept_punctuator.ensures.text c.saturating_sub-inner.result c.in_ok-value.value c.property_item.result c.in_ok-value.ensures.complete refl (ap (λ x. x.shape) c.property_item.ensures) (ap (λ x. x.spreads) c.property_item.ensures)

pub property_value-returns-in_default-clause-complete : goal.property_value-returns-in_default-clause-complete
property_value-returns-in_default-clause-complete t c = value_no_token c.args.self.now.cursor c.accept_punctuator.new.self.cursor c.args.self.now.pairs.items c.accept_punctuator.new.self.pairs.items c.args.high c.args.key c.if-accept_punctuator.ensures.missed.0 (Err c.syntax_error.result) c.in_default.is

pub property_value-returns-then-not-is_identifier-clause-complete : goal.property_value-returns-then-not-is_identifier-clause-complete
property_value-returns-then-not-is_identifier-clause-complete t c = value_no_name c.args.self.now.cursor c.accept_punctuator.new.self.cursor c.args.self.now.pairs.items c.accept_punctuator.new.self.pairs.items c.args.high c.args.key c.if-accept_punctuator.ensures.missed.0 (Err c.syntax_error-then-not-is_identifier.result) c.in-Some.token c.is_identifier.result c.in-Some.is c.is_identifier.ensures.is c.if-not-is_identifier.true

pub property_value-returns-in_err-value-2-clause-complete : goal.property_value-returns-in_err-value-2-clause-complete
property_value-returns-in_err-value-2-clause-complete t c =
    value_single c.args.self.now.cursor c.accept_punctuator.new.self.cursor c.args.self.now.pairs.items c.accept_punctuator.new.self.pairs.items c.args.high c.args.key c.if-accept_punctuator.ensures.missed.0 c.from_residual-in_err-value-2.result c.in_err-value-2.field-0.0 c.from_residual-in_err-value-2.ensures.1 c.saturating_sub-inner.ensures c.in_err-value-2.ensures.made.0 c.in_err-value-2.ensures.made.1

pub property_value-returns-in_err-right-clause-complete : goal.property_value-returns-in_err-right-clause-complete
property_value-returns-in_err-right-clause-complete t c =
    let equals = subst (λ z. ReadsHere c.args.self.now.cursor.text Punctuator (codes "=") z c.accept_punctuator-2.new.self.cursor.last) c.if-accept_punctuator.ensures.missed.1 (subst (λ z. ReadsHere z Punctuator (codes "=") c.accept_punctuator.new.self.cursor.last c.accept_punctuator-2.new.self.cursor.last) c.accept_punctuator.ensures.text c.if-accept_punctuator-2.ensures.accepted) in
    value_right c.args.self.now.cursor c.expression-then-accept_punctuator-2.new.self.cursor c.args.self.now.pairs.items c.expression-then-accept_punctuator-2.new.self.pairs.items c.args.high c.args.key c.if-accept_punctuator.ensures.missed.0 c.accept_punctuator-2.new.self.cursor equals c.expression-then-accept_punctuator-2.new.self.cursor c.accept_punctuator-2.new.self.pairs.items c.expression-then-accept_punctuator-2.new.self.pairs.items refl (c.accept_punctuator-2.ensures.text ∙ c.accept_punctuator.ensures.text) c.from_residual-in_err-right.result c.in_err-right.field-0.0 c.from_residual-in_err-right.ensures.1 c.saturating_sub-inner.ensures
    c.saturating_sub.ensures (c.accept_punctuator-2.ensures.same_open ∙ c.accept_punctuator.ensures.same_open) c.in_err-right.ensures.complete

pub property_value-returns-in_err-into_expression-clause-complete : goal.property_value-returns-in_err-into_expression-clause-complete
property_value-returns-in_err-into_expression-clause-complete t c =
    let equals = subst (λ z. ReadsHere c.args.self.now.cursor.text Punctuator (codes "=") z c.accept_punctuator-2.new.self.cursor.last) c.if-accept_punctuator.ensures.missed.1 (subst (λ z. ReadsHere z Punctuator (codes "=") c.accept_punctuator.new.self.cursor.last c.accept_punctuator-2.new.self.cursor.last) c.accept_punctuator.ensures.text c.if-accept_punctuator-2.ensures.accepted) in
    value_settled c.args.self.now.cursor c.expression-then-accept_punctuator-2.new.self.cursor c.args.self.now.pairs.items c.expression-then-accept_punctuator-2.new.self.pairs.items c.args.high c.args.key c.if-accept_punctuator.ensures.missed.0 c.accept_punctuator-2.new.self.cursor equals c.expression-then-accept_punctuator-2.new.self.cursor c.accept_punctuator-2.new.self.pairs.items c.expression-then-accept_punctuator-2.new.self.pairs.items refl (c.accept_punctuator-2.ensures.text ∙ c.accept_punctuator.ensures.text) c.saturating_sub.result c.in_ok-right.right c.in_ok-right.ensures.complete c.expression-then-accept_punctuator-2.new.self.cursor
    c.from_residual-in_err-into_expression.result c.in_err-into_expression.field-0.0 c.from_residual-in_err-into_expression.ensures.1 c.in_err-into_expression.ensures.settled

pub property_value-returns-in_err-value-3-clause-complete : goal.property_value-returns-in_err-value-3-clause-complete
property_value-returns-in_err-value-3-clause-complete t c =
    let equals = subst (λ z. ReadsHere c.args.self.now.cursor.text Punctuator (codes "=") z c.accept_punctuator-2.new.self.cursor.last) c.if-accept_punctuator.ensures.missed.1 (subst (λ z. ReadsHere z Punctuator (codes "=") c.accept_punctuator.new.self.cursor.last c.accept_punctuator-2.new.self.cursor.last) c.accept_punctuator.ensures.text c.if-accept_punctuator-2.ensures.accepted) in
    let left = c.in_ok-value-2.ensures.made.0 in
    let settled = c.in_ok-into_expression.ensures.settled.0 in
    value_default_made c.args.self.now.cursor c.expression-then-accept_punctuator-2.new.self.cursor c.args.self.now.pairs.items c.expression-then-accept_punctuator-2.new.self.pairs.items c.args.high c.args.key c.if-accept_punctuator.ensures.missed.0 c.accept_punctuator-2.new.self.cursor equals (single_node Identifier (token_of c.in-Some.token)) c.in_ok-right.right.cover.node _ c.from_residual-in_err-value-3.result c.in_err-value-3.field-0.0 c.from_residual-in_err-value-3.ensures.1
    c.saturating_sub-inner.ensures (λ i. node AssignmentExpression (codes "=") plain c.span_from-span-then-accept_punctuator-2.result.start c.span_from-span-then-accept_punctuator-2.result.end ((c.two-nodes-then-accept_punctuator-2.ensures ∙ (λ j. part (left j) (part (settled j) none))) i)) refl
    (subst (λ x. height c.in_ok-right.right.cover.node ≤ x) c.saturating_sub.ensures c.in_ok-right.ensures.low) c.in_err-value-3.ensures.made

pub property_value-returns-in_err-node-2-clause-complete : goal.property_value-returns-in_err-node-2-clause-complete
property_value-returns-in_err-node-2-clause-complete t c =
    let low : height c.if-accept_punctuator-2.value ≤ c.saturating_sub-inner.result = elim c.if-accept_punctuator-2.branch [
      | property_value-then-accept_punctuator-2+in_ok-right+in_ok-into_expression+in_ok-value-3 w ↦ subst (λ x. height x ≤ c.saturating_sub-inner.result) (sym (w.value-is ∙ w.in_ok-value-3.ensures.made.0)) w.in_ok-value-3.ensures.made.1
      | property_value-else-accept_punctuator-2 w ↦ subst (λ x. height x ≤ c.saturating_sub-inner.result) (sym (w.value-is ∙ c.in_ok-value-2.ensures.made.0)) c.in_ok-value-2.ensures.made.1
    ] in
    value_made c.args.self.now.cursor c.if-accept_punctuator-2.self.cursor c.args.self.now.pairs.items c.if-accept_punctuator-2.self.pairs.items c.args.high c.args.key c.if-accept_punctuator-2.value _ c.from_residual-in_err-node-2.result c.in_err-node-2.field-0.0 c.from_residual-in_err-node-2.ensures.1 c.saturating_sub-inner.ensures
    (λ i. node Property [] c.property_flags-flags-2.result c.span_from-span-2.result.start c.span_from-span-2.result.end (c.two-nodes-2.ensures i)) low c.in_err-node-2.ensures.made

pub property_value-returns-clause-complete : goal.property_value-returns-clause-complete
property_value-returns-clause-complete t c =
    let made = c.property_item-2.ensures in
    elim c.if-accept_punctuator-2.branch [
      | property_value-then-accept_punctuator-2+in_ok-right+in_ok-into_expression+in_ok-value-3 w ↦
          let equals = subst (λ z. ReadsHere c.args.self.now.cursor.text Punctuator (codes "=") z c.accept_punctuator-2.new.self.cursor.last) c.if-accept_punctuator.ensures.missed.1 (subst (λ z. ReadsHere z Punctuator (codes "=") c.accept_punctuator.new.self.cursor.last c.accept_punctuator-2.new.self.cursor.last) c.accept_punctuator.ensures.text w.if-accept_punctuator-2.ensures.accepted) in
          let shape = w.shape-is ∙ w.initialized-shape.ensures ∙ ap initialized w.defaulted.ensures in
          value_default c.args.self.now.cursor c.if-accept_punctuator-2.self.cursor c.args.self.now.pairs.items c.if-accept_punctuator-2.self.pairs.items c.args.high c.args.key c.if-accept_punctuator.ensures.missed.0 c.accept_punctuator-2.new.self.cursor equals w.expression-then-accept_punctuator-2.new.self.cursor c.accept_punctuator-2.new.self.pairs.items w.expression-then-accept_punctuator-2.new.self.pairs.items refl (c.accept_punctuator-2.ensures.text ∙ c.accept_punctuator.ensures.text) w.saturating_sub.result w.in_ok-right.right w.in_ok-right.ensures.complete c.property_item-2.result (ap (λ x. x.cursor.last) w.self-is) (ap (λ x. x.shape) made ∙ shape) (ap (λ x. x.spreads) made)
      | property_value-else-accept_punctuator-2 w ↦
          let missed = subst (λ z. Misses c.args.self.now.cursor.text Punctuator (codes "=") z) c.if-accept_punctuator.ensures.missed.1 (subst (λ z. Misses z Punctuator (codes "=") c.accept_punctuator.new.self.cursor.last) c.accept_punctuator.ensures.text w.if-accept_punctuator-2.ensures.missed.0) in
          value_lone c.args.self.now.cursor c.if-accept_punctuator-2.self.cursor c.args.self.now.pairs.items c.if-accept_punctuator-2.self.pairs.items c.args.high c.args.key c.if-accept_punctuator.ensures.missed.0 c.property_item-2.result missed (ap (λ x. x.cursor.last) w.self-is ∙ w.if-accept_punctuator-2.ensures.missed.1 ∙ c.if-accept_punctuator.ensures.missed.1) (ap (λ x. x.shape) made ∙ w.shape-is) (ap (λ x. x.spreads) made)
    ]

pub property_value-returns-then-accept_punctuator-clause-derived : goal.property_value-returns-then-accept_punctuator-clause-derived
property_value-returns-then-accept_punctuator-clause-derived t c =
    let span = c.span_from-span.ensures in
    let value = c.in_ok-value.value in
    let tree : c.in_ok-node.node ≡ node Property [] (member_flags c.args.key.computed false Init) c.args.start c.expression.new.self.cursor.last.stop (part c.args.key.node (part value.cover.node none)) = c.in_ok-node.ensures.made.0 ∙ (λ i. node Property [] (c.property_flags-flags.ensures i) (span i).start (span i).end (c.two-nodes.ensures i)) in
    pair_value c.args.key c.args.start value c.property_item.result c.accept_punctuator.ensures.text c.accept_punctuator.ensures.same_open c.accept_punctuator.ensures.same_pairs c.if-accept_punctuator.ensures.accepted c.in_ok-value.ensures.derived (c.property_item.ensures ∙ ap (λ n. property_item n value.cover.shape) tree)

pub property_value-returns-clause-derived : goal.property_value-returns-clause-derived
property_value-returns-clause-derived t c =
    let key = c.args.key in
    let t = c.in-Some.token in
    let span = c.span_from-span-2.ensures in
    let class : t.class ≡ IdentifierName = c.if-not-is_identifier.ensures.class in
    let free : is_free_name t.text.now ≡ true = is_free (same_class IdentifierName t.class) (is_free_name t.text.now) c.if-not-is_identifier.false c.is_identifier.ensures.is in
    let stays = c.if-accept_punctuator.ensures.missed.1 in
    let tree : c.in_ok-node-2.node ≡ node Property [] (member_flags false false Shorthand) c.args.start c.if-accept_punctuator-2.self.cursor.last.stop (part key.node (part c.if-accept_punctuator-2.value none)) = c.in_ok-node-2.ensures.made.0 ∙ (λ i. node Property [] (c.property_flags-flags-2.ensures i) (span i).start (span i).end (c.two-nodes-2.ensures i)) in
    let it : c.property_item-2.result ≡ property_item (node Property [] (member_flags false false Shorthand) c.args.start c.if-accept_punctuator-2.self.cursor.last.stop (part key.node (part c.if-accept_punctuator-2.value none))) c.if-accept_punctuator-2.shape = c.property_item-2.ensures ∙ ap (λ n. property_item n c.if-accept_punctuator-2.shape) tree in
    elim c.if-accept_punctuator-2.branch [
      | property_value-then-accept_punctuator-2+in_ok-right+in_ok-into_expression+in_ok-value-3 w ↦
          let own = w.span_from-span-then-accept_punctuator-2.ensures in
          let one = c.in_ok-value-2.ensures.made.0 in
          let value : c.if-accept_punctuator-2.value ≡ node AssignmentExpression (codes "=") plain t.start w.expression-then-accept_punctuator-2.new.self.cursor.last.stop (part (single_node Identifier (token_of t)) (part w.in_ok-into_expression.field-0 none)) = w.value-is ∙ w.in_ok-value-3.ensures.made.0 ∙ (λ i. node AssignmentExpression (codes "=") plain (own i).start (own i).end ((w.two-nodes-then-accept_punctuator-2.ensures ∙ ap (λ n. part n (part w.in_ok-into_expression.field-0 none)) one) i)) in
          let shape = w.shape-is ∙ w.initialized-shape.ensures ∙ ap initialized w.defaulted.ensures in
          let last : c.if-accept_punctuator-2.self.cursor.last.stop ≡ w.expression-then-accept_punctuator-2.new.self.cursor.last.stop = ap (λ s. s.cursor.last.stop) w.self-is in
          subst (λ v. Adds c.args.self.now.cursor v.cursor c.args.self.now.pairs.items v.pairs.items (ValueAt c.args.self.now.cursor.text key c.args.start c.property_item-2.result)) (sym w.self-is)
          (default_value key c.args.start t w.in_ok-right.right w.in_ok-into_expression.field-0 c.if-accept_punctuator-2.value c.if-accept_punctuator-2.shape c.property_item-2.result c.accept_punctuator.ensures.text c.accept_punctuator.ensures.same_open c.accept_punctuator.ensures.same_pairs stays c.accept_punctuator-2.ensures.text c.accept_punctuator-2.ensures.same_open c.accept_punctuator-2.ensures.same_pairs w.if-accept_punctuator-2.ensures.accepted
          w.in_ok-right.ensures.derived w.in_ok-into_expression.ensures.settled.0 w.in_ok-into_expression.ensures.settled.1 c.in-Some.is class free value shape (it ∙ ap (λ x. property_item (node Property [] (member_flags false false Shorthand) c.args.start x (part key.node (part c.if-accept_punctuator-2.value none))) c.if-accept_punctuator-2.shape) last))
      | property_value-else-accept_punctuator-2 w ↦
          let last : c.if-accept_punctuator-2.self.cursor.last.stop ≡ c.accept_punctuator-2.new.self.cursor.last.stop = ap (λ s. s.cursor.last.stop) w.self-is in
          subst (λ v. Adds c.args.self.now.cursor v.cursor c.args.self.now.pairs.items v.pairs.items (ValueAt c.args.self.now.cursor.text key c.args.start c.property_item-2.result)) (sym w.self-is)
          (lone_value key c.args.start t c.if-accept_punctuator-2.value c.if-accept_punctuator-2.shape c.property_item-2.result (c.accept_punctuator-2.ensures.same_open ∙ c.accept_punctuator.ensures.same_open) (c.accept_punctuator-2.ensures.same_pairs ∙ c.accept_punctuator.ensures.same_pairs) (w.if-accept_punctuator-2.ensures.missed.1 ∙ stays) c.in-Some.is class free
          (w.value-is ∙ c.in_ok-value-2.ensures.made.0) w.shape-is (it ∙ ap (λ x. property_item (node Property [] (member_flags false false Shorthand) c.args.start x (part key.node (part c.if-accept_punctuator-2.value none))) c.if-accept_punctuator-2.shape) last))
    ]

pub binary_rest-returns-clause-rank : goal.binary_rest-returns-clause-rank
binary_rest-returns-clause-rank t c = rank_of c.args.next.operator c.args.left c.args.next.token.after_break c.in_ok-left.ensures.taken.1 ∙ ap (λ x. Some x.own) (sym c.in_ok-left.ensures.taken.0)

pub binary_rest-returns-clause-derived : goal.binary_rest-returns-clause-derived
binary_rest-returns-clause-derived t c =
    let left = c.in_ok-left.ensures.taken in
    let one = c.one-nodes.ensures in
    let op = c.args.next.operator in
    let t = token_of c.args.next.token in
    let before : SidedFrom c.args.self.now.cursor c.match-next.self.cursor c.args.self.now.pairs.items c.match-next.self.pairs.items c.args.has_in c.args.left c.in_ok-left.left c.args.next.token.text.now c.match-next.nodes =
    elim c.match-next.branch [
      | binary_rest-in-Question+in_ok-part+in_ok-into_expression+in_ok-push+in_ok-expect_punctuator w ↦
          let part = w.in_ok-part.part in
          let parts = w.nodes-is ∙ w.in_ok-push.ensures.pushed ∙ (λ k. push (one k) (w.in_ok-into_expression.ensures.settled.0 k)) in
          subst (λ k. SidedFrom c.args.self.now.cursor k.cursor c.args.self.now.pairs.items k.pairs.items c.args.has_in c.args.left c.in_ok-left.left c.args.next.token.text.now c.match-next.nodes) (sym w.self-is)
          (sided_two c.args.has_in c.args.left op t part c.advance.ensures.text c.advance.ensures.same_open c.advance.ensures.same_pairs c.advance.ensures.reads c.requires.coded left.1 left.0 parts w.in-Question.is
          w.expression.ensures.text w.in_ok-part.ensures.derived w.in_ok-into_expression.ensures.settled.1 w.expect_punctuator.ensures.text w.expect_punctuator.ensures.same_open w.expect_punctuator.ensures.same_pairs w.in_ok-expect_punctuator.ensures.accepted.0)
      | binary_rest-in_default w ↦
          subst (λ k. SidedFrom c.args.self.now.cursor k.cursor c.args.self.now.pairs.items k.pairs.items c.args.has_in c.args.left c.in_ok-left.left c.args.next.token.text.now c.match-next.nodes) (sym w.self-is)
          (sided_one c.args.has_in c.args.left op t c.advance.ensures.text c.advance.ensures.same_open c.advance.ensures.same_pairs c.advance.ensures.reads c.requires.coded c.requires.has_in left.1 left.0 (w.nodes-is ∙ one) w.in_default.not-Question)
    ] in
    let span = c.span_from-span.ensures in
    let sign = c.operator_text.ensures in
    let parts = c.in_ok-push-2.ensures.pushed ∙ ap (λ n. push c.match-next.nodes n) c.in_ok-into_expression-2.ensures.settled.0 in
    let tree = c.in_ok-node.ensures.made.0 ∙ (λ k. node c.in_ok-left.left.kind (sign k) plain (span k).start (span k).end (parts k)) in
    let right = c.in_ok-right.right in
    sided_whole right _ before c.at.ensures c.in_ok-right.ensures.derived c.in_ok-into_expression-2.ensures.settled.1 (ap (λ n. part_from n c.in_ok-left.left.shape c.args.left.start c.in_ok-left.left.own right.edge) tree)

pub binary_rest-returns-in_err-part-clause-complete : goal.binary_rest-returns-in_err-part-clause-complete
binary_rest-returns-in_err-part-clause-complete t c = first_refused c.args.self.now.cursor c.expression.new.self.cursor c.args.self.now.pairs.items c.expression.new.self.pairs.items c.args.high c.args.left c.args.next.token c.args.next.operator c.args.has_in _ c.in_err-part.field-0.0 c.from_residual-in_err-part.ensures.1 c.advance.new.self.cursor c.expression.new.self.cursor c.advance.new.self.pairs.items c.expression.new.self.pairs.items c.saturating_sub-inner.result c.in-Question.is c.advance.ensures.text c.advance.ensures.same_open c.advance.ensures.same_pairs (passed c.args.self.now.cursor c.advance.new.self.cursor c.args.next.token c.requires.ahead c.advance.ensures.reads) c.saturating_sub-inner.ensures c.in_err-part.ensures.complete

pub binary_rest-returns-in_err-into_expression-clause-complete : goal.binary_rest-returns-in_err-into_expression-clause-complete
binary_rest-returns-in_err-into_expression-clause-complete t c = first_unsettled c.args.self.now.cursor c.expression.new.self.cursor c.args.self.now.pairs.items c.expression.new.self.pairs.items c.args.high c.args.left c.args.next.token c.args.next.operator c.args.has_in _ c.in_err-into_expression.field-0.0 c.from_residual-in_err-into_expression.ensures.1 c.advance.new.self.cursor c.expression.new.self.cursor c.advance.new.self.pairs.items c.expression.new.self.pairs.items c.saturating_sub-inner.result c.in-Question.is c.advance.ensures.text c.advance.ensures.same_open c.advance.ensures.same_pairs (passed c.args.self.now.cursor c.advance.new.self.cursor c.args.next.token c.requires.ahead c.advance.ensures.reads) c.saturating_sub-inner.ensures c.in_ok-part.part c.in_ok-part.ensures.complete c.in_err-into_expression.ensures.settled.1

pub binary_rest-returns-in_err-expect_punctuator-clause-complete : goal.binary_rest-returns-in_err-expect_punctuator-clause-complete
binary_rest-returns-in_err-expect_punctuator-clause-complete t c = colon_refused c.args.self.now.cursor c.expect_punctuator.new.self.cursor c.args.self.now.pairs.items c.expect_punctuator.new.self.pairs.items c.args.high c.args.left c.args.next.token c.args.next.operator c.args.has_in _ c.in_err-expect_punctuator.field-0.0 c.from_residual-in_err-expect_punctuator.ensures.1 c.advance.new.self.cursor c.expression.new.self.cursor c.advance.new.self.pairs.items c.expression.new.self.pairs.items c.saturating_sub-inner.result c.in-Question.is c.advance.ensures.text c.advance.ensures.same_open c.advance.ensures.same_pairs (passed c.args.self.now.cursor c.advance.new.self.cursor c.args.next.token c.requires.ahead c.advance.ensures.reads) c.saturating_sub-inner.ensures c.in_ok-part.part c.in_ok-part.ensures.complete c.expression.ensures.text c.in_err-expect_punctuator.ensures.missed.0

pub binary_rest-returns-in_err-right-clause-complete : goal.binary_rest-returns-in_err-right-clause-complete
binary_rest-returns-in_err-right-clause-complete t c =
    let left = c.in_ok-left.ensures.taken in
    let one = c.one-nodes.ensures in
    let rank_is = ap (λ (l : LeftOperand). l.right) left.0 in
    let ready : Ready c.args.self.now.cursor c.match-next.self.cursor c.args.self.now.pairs.items c.match-next.self.pairs.items c.args.next.token c.args.next.operator c.args.has_in (left_of c.args.next.operator c.args.left).right (left_of c.args.next.operator c.args.left).node c.match-next.nodes =
    elim c.match-next.branch [
      | binary_rest-in-Question+in_ok-part+in_ok-into_expression+in_ok-push+in_ok-expect_punctuator w ↦
          subst (λ k. Ready c.args.self.now.cursor k.cursor c.args.self.now.pairs.items k.pairs.items c.args.next.token c.args.next.operator c.args.has_in (left_of c.args.next.operator c.args.left).right (left_of c.args.next.operator c.args.left).node c.match-next.nodes) (sym w.self-is)
          (ready_two c.args.self.now.cursor c.advance.new.self.cursor w.expression.new.self.cursor c.args.self.now.pairs.items c.advance.new.self.pairs.items w.expression.new.self.pairs.items c.args.next.token c.args.next.operator c.args.has_in c.saturating_sub-inner.result w.in-Question.is c.advance.ensures.text c.advance.ensures.same_open c.advance.ensures.same_pairs (passed c.args.self.now.cursor c.advance.new.self.cursor c.args.next.token c.requires.ahead c.advance.ensures.reads)
          w.in_ok-part.part w.in_ok-part.ensures.complete w.in_ok-into_expression.ensures.settled.0 (ap (λ o. (left_of o c.args.left).right) w.in-Question.is) w.expression.ensures.text w.in_ok-part.ensures.derived.same_open w.expect_punctuator.ensures.text w.expect_punctuator.ensures.same_open w.expect_punctuator.ensures.same_pairs w.in_ok-expect_punctuator.ensures.accepted.0
          (w.nodes-is ∙ w.in_ok-push.ensures.pushed ∙ (λ k. push ((one ∙ ap (λ (l : LeftOperand). part l.node none) left.0) k) w.in_ok-into_expression.field-0)))
      | binary_rest-in_default w ↦
          subst (λ k. Ready c.args.self.now.cursor k.cursor c.args.self.now.pairs.items k.pairs.items c.args.next.token c.args.next.operator c.args.has_in (left_of c.args.next.operator c.args.left).right (left_of c.args.next.operator c.args.left).node c.match-next.nodes) (sym w.self-is)
          (ready_one c.advance.ensures.text c.advance.ensures.same_open c.advance.ensures.same_pairs (passed c.args.self.now.cursor c.advance.new.self.cursor c.args.next.token c.requires.ahead c.advance.ensures.reads) w.in_default.not-Question (w.nodes-is ∙ one ∙ ap (λ (l : LeftOperand). part l.node none) left.0))
    ] in
    right_refused c.args.self.now.cursor c.match-next.self.cursor c.expression-2.new.self.cursor c.args.self.now.pairs.items c.match-next.self.pairs.items c.expression-2.new.self.pairs.items c.args.high c.args.left c.args.next.token c.args.next.operator c.args.has_in ready c.at.result c.saturating_sub-inner.result c.requires.coded (c.at.ensures ∙ ap (λ q. right_at q c.args.has_in) rank_is) c.saturating_sub-inner.ensures c.expression-2.new.self.cursor c.expression-2.new.self.pairs.items _ c.in_err-right.field-0.0 c.from_residual-in_err-right.ensures.1 c.in_err-right.ensures.complete

pub binary_rest-returns-in_err-into_expression-2-clause-complete : goal.binary_rest-returns-in_err-into_expression-2-clause-complete
binary_rest-returns-in_err-into_expression-2-clause-complete t c =
    let left = c.in_ok-left.ensures.taken in
    let one = c.one-nodes.ensures in
    let rank_is = ap (λ (l : LeftOperand). l.right) left.0 in
    let ready : Ready c.args.self.now.cursor c.match-next.self.cursor c.args.self.now.pairs.items c.match-next.self.pairs.items c.args.next.token c.args.next.operator c.args.has_in (left_of c.args.next.operator c.args.left).right (left_of c.args.next.operator c.args.left).node c.match-next.nodes =
    elim c.match-next.branch [
      | binary_rest-in-Question+in_ok-part+in_ok-into_expression+in_ok-push+in_ok-expect_punctuator w ↦
          subst (λ k. Ready c.args.self.now.cursor k.cursor c.args.self.now.pairs.items k.pairs.items c.args.next.token c.args.next.operator c.args.has_in (left_of c.args.next.operator c.args.left).right (left_of c.args.next.operator c.args.left).node c.match-next.nodes) (sym w.self-is)
          (ready_two c.args.self.now.cursor c.advance.new.self.cursor w.expression.new.self.cursor c.args.self.now.pairs.items c.advance.new.self.pairs.items w.expression.new.self.pairs.items c.args.next.token c.args.next.operator c.args.has_in c.saturating_sub-inner.result w.in-Question.is c.advance.ensures.text c.advance.ensures.same_open c.advance.ensures.same_pairs (passed c.args.self.now.cursor c.advance.new.self.cursor c.args.next.token c.requires.ahead c.advance.ensures.reads)
          w.in_ok-part.part w.in_ok-part.ensures.complete w.in_ok-into_expression.ensures.settled.0 (ap (λ o. (left_of o c.args.left).right) w.in-Question.is) w.expression.ensures.text w.in_ok-part.ensures.derived.same_open w.expect_punctuator.ensures.text w.expect_punctuator.ensures.same_open w.expect_punctuator.ensures.same_pairs w.in_ok-expect_punctuator.ensures.accepted.0
          (w.nodes-is ∙ w.in_ok-push.ensures.pushed ∙ (λ k. push ((one ∙ ap (λ (l : LeftOperand). part l.node none) left.0) k) w.in_ok-into_expression.field-0)))
      | binary_rest-in_default w ↦
          subst (λ k. Ready c.args.self.now.cursor k.cursor c.args.self.now.pairs.items k.pairs.items c.args.next.token c.args.next.operator c.args.has_in (left_of c.args.next.operator c.args.left).right (left_of c.args.next.operator c.args.left).node c.match-next.nodes) (sym w.self-is)
          (ready_one c.advance.ensures.text c.advance.ensures.same_open c.advance.ensures.same_pairs (passed c.args.self.now.cursor c.advance.new.self.cursor c.args.next.token c.requires.ahead c.advance.ensures.reads) w.in_default.not-Question (w.nodes-is ∙ one ∙ ap (λ (l : LeftOperand). part l.node none) left.0))
    ] in
    right_unsettled c.args.self.now.cursor c.match-next.self.cursor c.expression-2.new.self.cursor c.args.self.now.pairs.items c.match-next.self.pairs.items c.expression-2.new.self.pairs.items c.args.high c.args.left c.args.next.token c.args.next.operator c.args.has_in ready c.at.result c.saturating_sub-inner.result c.requires.coded (c.at.ensures ∙ ap (λ q. right_at q c.args.has_in) rank_is) c.saturating_sub-inner.ensures c.expression-2.new.self.cursor c.expression-2.new.self.pairs.items _ c.in_err-into_expression-2.field-0.0 c.from_residual-in_err-into_expression-2.ensures.1 c.in_ok-right.right c.in_ok-right.ensures.complete c.in_err-into_expression-2.ensures.settled.1

pub binary_rest-returns-in_err-node-clause-complete : goal.binary_rest-returns-in_err-node-clause-complete
binary_rest-returns-in_err-node-clause-complete t c =
    let left = c.in_ok-left.ensures.taken in
    let one = c.one-nodes.ensures in
    let rank_is = ap (λ (l : LeftOperand). l.right) left.0 in
    let ready : Ready c.args.self.now.cursor c.match-next.self.cursor c.args.self.now.pairs.items c.match-next.self.pairs.items c.args.next.token c.args.next.operator c.args.has_in (left_of c.args.next.operator c.args.left).right (left_of c.args.next.operator c.args.left).node c.match-next.nodes =
    elim c.match-next.branch [
      | binary_rest-in-Question+in_ok-part+in_ok-into_expression+in_ok-push+in_ok-expect_punctuator w ↦
          subst (λ k. Ready c.args.self.now.cursor k.cursor c.args.self.now.pairs.items k.pairs.items c.args.next.token c.args.next.operator c.args.has_in (left_of c.args.next.operator c.args.left).right (left_of c.args.next.operator c.args.left).node c.match-next.nodes) (sym w.self-is)
          (ready_two c.args.self.now.cursor c.advance.new.self.cursor w.expression.new.self.cursor c.args.self.now.pairs.items c.advance.new.self.pairs.items w.expression.new.self.pairs.items c.args.next.token c.args.next.operator c.args.has_in c.saturating_sub-inner.result w.in-Question.is c.advance.ensures.text c.advance.ensures.same_open c.advance.ensures.same_pairs (passed c.args.self.now.cursor c.advance.new.self.cursor c.args.next.token c.requires.ahead c.advance.ensures.reads)
          w.in_ok-part.part w.in_ok-part.ensures.complete w.in_ok-into_expression.ensures.settled.0 (ap (λ o. (left_of o c.args.left).right) w.in-Question.is) w.expression.ensures.text w.in_ok-part.ensures.derived.same_open w.expect_punctuator.ensures.text w.expect_punctuator.ensures.same_open w.expect_punctuator.ensures.same_pairs w.in_ok-expect_punctuator.ensures.accepted.0
          (w.nodes-is ∙ w.in_ok-push.ensures.pushed ∙ (λ k. push ((one ∙ ap (λ (l : LeftOperand). part l.node none) left.0) k) w.in_ok-into_expression.field-0)))
      | binary_rest-in_default w ↦
          subst (λ k. Ready c.args.self.now.cursor k.cursor c.args.self.now.pairs.items k.pairs.items c.args.next.token c.args.next.operator c.args.has_in (left_of c.args.next.operator c.args.left).right (left_of c.args.next.operator c.args.left).node c.match-next.nodes) (sym w.self-is)
          (ready_one c.advance.ensures.text c.advance.ensures.same_open c.advance.ensures.same_pairs (passed c.args.self.now.cursor c.advance.new.self.cursor c.args.next.token c.requires.ahead c.advance.ensures.reads) w.in_default.not-Question (w.nodes-is ∙ one ∙ ap (λ (l : LeftOperand). part l.node none) left.0))
    ] in
    sided_high c.args.self.now.cursor c.match-next.self.cursor c.expression-2.new.self.cursor c.args.self.now.pairs.items c.match-next.self.pairs.items c.expression-2.new.self.pairs.items c.args.high c.args.left c.args.next.token c.args.next.operator c.args.has_in ready c.at.result c.saturating_sub-inner.result c.requires.coded (c.at.ensures ∙ ap (λ q. right_at q c.args.has_in) rank_is) c.saturating_sub-inner.ensures c.expression-2.new.self.cursor c.expression-2.new.self.pairs.items _ c.in_err-node.field-0.0 c.from_residual-in_err-node.ensures.1 c.in_ok-right.right _ c.in_ok-right.ensures.complete c.in_ok-into_expression-2.ensures.settled.0 c.in_ok-push-2.ensures.pushed c.in_err-node.ensures.made.0 c.in_err-node.ensures.made.1 refl

pub binary_rest-returns-clause-complete : goal.binary_rest-returns-clause-complete
binary_rest-returns-clause-complete t c =
    let left = c.in_ok-left.ensures.taken in
    let one = c.one-nodes.ensures in
    let rank_is = ap (λ (l : LeftOperand). l.right) left.0 in
    let ready : Ready c.args.self.now.cursor c.match-next.self.cursor c.args.self.now.pairs.items c.match-next.self.pairs.items c.args.next.token c.args.next.operator c.args.has_in (left_of c.args.next.operator c.args.left).right (left_of c.args.next.operator c.args.left).node c.match-next.nodes =
    elim c.match-next.branch [
      | binary_rest-in-Question+in_ok-part+in_ok-into_expression+in_ok-push+in_ok-expect_punctuator w ↦
          subst (λ k. Ready c.args.self.now.cursor k.cursor c.args.self.now.pairs.items k.pairs.items c.args.next.token c.args.next.operator c.args.has_in (left_of c.args.next.operator c.args.left).right (left_of c.args.next.operator c.args.left).node c.match-next.nodes) (sym w.self-is)
          (ready_two c.args.self.now.cursor c.advance.new.self.cursor w.expression.new.self.cursor c.args.self.now.pairs.items c.advance.new.self.pairs.items w.expression.new.self.pairs.items c.args.next.token c.args.next.operator c.args.has_in c.saturating_sub-inner.result w.in-Question.is c.advance.ensures.text c.advance.ensures.same_open c.advance.ensures.same_pairs (passed c.args.self.now.cursor c.advance.new.self.cursor c.args.next.token c.requires.ahead c.advance.ensures.reads)
          w.in_ok-part.part w.in_ok-part.ensures.complete w.in_ok-into_expression.ensures.settled.0 (ap (λ o. (left_of o c.args.left).right) w.in-Question.is) w.expression.ensures.text w.in_ok-part.ensures.derived.same_open w.expect_punctuator.ensures.text w.expect_punctuator.ensures.same_open w.expect_punctuator.ensures.same_pairs w.in_ok-expect_punctuator.ensures.accepted.0
          (w.nodes-is ∙ w.in_ok-push.ensures.pushed ∙ (λ k. push ((one ∙ ap (λ (l : LeftOperand). part l.node none) left.0) k) w.in_ok-into_expression.field-0)))
      | binary_rest-in_default w ↦
          subst (λ k. Ready c.args.self.now.cursor k.cursor c.args.self.now.pairs.items k.pairs.items c.args.next.token c.args.next.operator c.args.has_in (left_of c.args.next.operator c.args.left).right (left_of c.args.next.operator c.args.left).node c.match-next.nodes) (sym w.self-is)
          (ready_one c.advance.ensures.text c.advance.ensures.same_open c.advance.ensures.same_pairs (passed c.args.self.now.cursor c.advance.new.self.cursor c.args.next.token c.requires.ahead c.advance.ensures.reads) w.in_default.not-Question (w.nodes-is ∙ one ∙ ap (λ (l : LeftOperand). part l.node none) left.0))
    ] in
    let span = c.span_from-span.ensures in
    let sign = c.operator_text.ensures in
    let tree = c.in_ok-node.ensures.made.0 ∙ (λ k. node c.in_ok-left.left.kind (sign k) plain (span k).start (span k).end c.push-2.new.self) in
    sided_answered c.args.self.now.cursor c.match-next.self.cursor c.expression-2.new.self.cursor c.args.self.now.pairs.items c.match-next.self.pairs.items c.expression-2.new.self.pairs.items c.args.high c.args.left c.args.next.token c.args.next.operator c.args.has_in ready c.at.result c.saturating_sub-inner.result c.requires.coded (c.at.ensures ∙ ap (λ q. right_at q c.args.has_in) rank_is) c.saturating_sub-inner.ensures c.in_ok-right.right (part_from c.in_ok-node.node c.in_ok-left.left.shape c.args.left.start c.in_ok-left.left.own c.in_ok-right.right.edge) c.in_ok-right.ensures.complete c.in_ok-into_expression-2.ensures.settled.0 c.in_ok-push-2.ensures.pushed left.0 tree refl refl

pub binary_rest-returns-clause-own : goal.binary_rest-returns-clause-own
binary_rest-returns-clause-own t c = λ own.
    let s = c.args.self.now.cursor in
    let left = c.in_ok-left.ensures.taken in
    let one = c.one-nodes.ensures in
    let first : AllOfLanguage s.text (part c.in_ok-left.left.node none) = of_part (left_language c.args.next.operator c.args.left left.0 own) of_none in
    let before : (c.match-next.self.cursor.text ≡ s.text) × AllOfLanguage s.text c.match-next.nodes = elim c.match-next.branch [
      | binary_rest-in-Question+in_ok-part+in_ok-into_expression+in_ok-push+in_ok-expect_punctuator w ↦ (
        ap (λ k. k.cursor.text) w.self-is ∙ w.expect_punctuator.ensures.text ∙ w.expression.ensures.text ∙ c.advance.ensures.text,
        subst (AllOfLanguage s.text) (sym (w.nodes-is ∙ w.in_ok-push.ensures.pushed ∙ ap (λ k. push k w.in_ok-into_expression.field-0) one)) (of_push (part c.in_ok-left.left.node none) w.in_ok-into_expression.field-0 first
            (subst (OfLanguage s.text) (sym w.in_ok-into_expression.ensures.settled.0) (subst (λ x. OfLanguage x w.in_ok-part.part.cover.node) c.advance.ensures.text w.in_ok-part.ensures.own))),
      )
      | binary_rest-in_default w ↦ (ap (λ k. k.cursor.text) w.self-is ∙ c.advance.ensures.text, subst (AllOfLanguage s.text) (sym (w.nodes-is ∙ one)) first)
    ] in
    let right = c.in_ok-right.right in
    let second : OfLanguage s.text c.in_ok-into_expression-2.field-0 = subst (OfLanguage s.text) (sym c.in_ok-into_expression-2.ensures.settled.0) (subst (λ x. OfLanguage x right.cover.node) before.0 c.in_ok-right.ensures.own) in
    let sides : AllOfLanguage s.text c.push-2.new.self = subst (AllOfLanguage s.text) (sym c.in_ok-push-2.ensures.pushed) (of_push c.match-next.nodes c.in_ok-into_expression-2.field-0 before.1 second) in
    subst (OfLanguage s.text) (sym c.in_ok-node.ensures.made.0) (sided_language (operation (as_read (token_of c.args.next.token))) c.args.next.token.text.now c.args.left c.requires.coded left.0 sides)

pub infix-binary_rest-requires : goal.infix-binary_rest-requires
infix-binary_rest-requires t c = (search rules, (c.requires.ahead, (c.requires.real, (c.requires.coded, in_there c.args.position c.args.left.edge (token_of c.args.next.token) c.requires.coded (no_tag_there c.in-Binary.is) c.requires.goes))))

pub infix-returns-in-Binary-clause-derived : goal.infix-returns-in-Binary-clause-derived
infix-returns-in-Binary-clause-derived t c = sided_on c.args.self.now.cursor c.binary_rest.new.self.cursor c.args.self.now.pairs.items c.binary_rest.new.self.pairs.items c.args.position c.args.left (token_of c.args.next.token) c.binary_rest.result c.requires.coded c.requires.goes c.binary_rest.ensures.derived c.binary_rest.ensures.rank

pub infix-optional_chain-requires : goal.infix-optional_chain-requires
infix-optional_chain-requires t c = (search rules, chain_there c.args.self.now.cursor (token_of c.args.next.token) c.requires.ahead c.requires.coded c.in-QuestionDot.is)

pub infix-returns-in-QuestionDot-clause-derived : goal.infix-returns-in-QuestionDot-clause-derived
infix-returns-in-QuestionDot-clause-derived t c = chain_reads c.args.self.now.cursor c.optional_chain.new.self.cursor c.args.self.now.pairs.items c.optional_chain.new.self.pairs.items c.args.position c.args.left (token_of c.args.next.token) c.optional_chain.result c.requires.coded c.in-QuestionDot.is c.requires.goes c.optional_chain.ensures.derived c.optional_chain.ensures.rank

pub infix-dot_member-requires : goal.infix-dot_member-requires
infix-dot_member-requires t c = record { dot = dot_there c.args.self.now.cursor (token_of c.args.next.token) c.requires.ahead c.requires.coded c.in-Dot.is }

pub infix-returns-in-Dot-clause-derived : goal.infix-returns-in-Dot-clause-derived
infix-returns-in-Dot-clause-derived t c = linked_reads c.args.self.now.cursor c.dot_member.new.self.cursor c.args.self.now.pairs.items c.dot_member.new.self.pairs.items c.args.position c.args.left (token_of c.args.next.token) c.dot_member.result c.requires.ahead c.requires.coded (no_chain_there (inl c.in-Dot.is)) c.requires.goes c.dot_member.ensures.derived

pub infix-call_expression-requires : goal.infix-call_expression-requires
infix-call_expression-requires t c = (search rules, call_there c.args.self.now.cursor (token_of c.args.next.token) c.requires.ahead c.requires.coded c.in-OpenParen.is)

pub infix-returns-in-OpenParen-clause-derived : goal.infix-returns-in-OpenParen-clause-derived
infix-returns-in-OpenParen-clause-derived t c = linked_reads c.args.self.now.cursor c.call_expression.new.self.cursor c.args.self.now.pairs.items c.call_expression.new.self.pairs.items c.args.position c.args.left (token_of c.args.next.token) c.call_expression.result c.requires.ahead c.requires.coded (no_chain_there (inr (inl c.in-OpenParen.is))) c.requires.goes c.call_expression.ensures.derived

pub infix-returns-in-OpenBracket-clause-derived : goal.infix-returns-in-OpenBracket-clause-derived
infix-returns-in-OpenBracket-clause-derived t c = linked_reads c.args.self.now.cursor c.subscript.new.self.cursor c.args.self.now.pairs.items c.subscript.new.self.pairs.items c.args.position c.args.left (token_of c.args.next.token) c.subscript.result c.requires.ahead c.requires.coded (no_chain_there (inr (inr c.in-OpenBracket.is))) c.requires.goes c.subscript.ensures.derived

pub update_or_comma-returns-in_ok-node-in-PostUpdate-clause-derived : goal.update_or_comma-returns-in_ok-node-in-PostUpdate-clause-derived
update_or_comma-returns-in_ok-node-in-PostUpdate-clause-derived t c =
    let parts = c.one-nodes.ensures ∙ ap (λ n. part n none) c.in_ok-operand-in-PostUpdate.ensures.target.0 in
    let span = c.span_from-span.ensures in
    let tree = c.in_ok-node-in-PostUpdate.ensures.made.0 ∙ (λ k. node UpdateExpression c.args.next.token.text.now plain (span k).start (span k).end (parts k)) in
    step_reads c.args.self.now.cursor c.advance.new.self.cursor c.args.self.now.pairs.items c.advance.new.self.pairs.items c.args.position c.args.left (token_of c.args.next.token) c.plain.result c.requires.coded c.in-PostUpdate.is c.requires.goes c.in_ok-operand-in-PostUpdate.ensures.target.1
    c.advance.ensures.reads c.advance.ensures.same_open c.advance.ensures.same_pairs (c.plain.ensures ∙ ap (λ n. plain_part n Update Postfix) tree)

pub update_or_comma-returns-in_ok-node-in-Comma-clause-derived : goal.update_or_comma-returns-in_ok-node-in-Comma-clause-derived
update_or_comma-returns-in_ok-node-in-Comma-clause-derived t c =
    let begun = c.in_ok-list-in-Comma.ensures.begun in
    let list = c.in_ok-list-in-Comma-2.list in
    let pass = c.advance-in-Comma in
    let span = c.span_from-span-in-Comma.ensures in
    let tree = c.in_ok-node-in-Comma.ensures.made.0 ∙ (λ k. node SequenceExpression [] plain (span k).start (span k).end list.nodes) in
    sequence_reads c.args.self.now.cursor pass.new.self.cursor c.list.new.self.cursor c.args.self.now.pairs.items pass.new.self.pairs.items c.list.new.self.pairs.items c.args.position c.args.left (token_of c.args.next.token) c.plain-in-Comma.result c.in_ok-list-in-Comma.list list
    c.requires.coded c.in-Comma.is c.requires.goes begun.0 begun.1 c.in_ok-list-in-Comma.ensures.listed c.in_ok-list-in-Comma-2.ensures.same.0 pass.ensures.text pass.ensures.same_open pass.ensures.same_pairs pass.ensures.reads
    c.in_ok-list-in-Comma-2.ensures.derived (c.plain-in-Comma.ensures ∙ ap (λ n. plain_part n Expression list.seen.edge) tree)

pub update_or_comma-returns-in_ok-node-in-PostUpdate-clause-own : goal.update_or_comma-returns-in_ok-node-in-PostUpdate-clause-own
update_or_comma-returns-in_ok-node-in-PostUpdate-clause-own t c = λ own.
    let s = c.args.self.now.cursor in
    let target = c.in_ok-operand-in-PostUpdate.ensures.target.0 in
    let tree = ap (λ (p : Operand). p.cover.node) c.plain.ensures ∙ c.in_ok-node-in-PostUpdate.ensures.made.0 in
    subst (OfLanguage s.text) (sym tree) (of_node (λ b. refl) (subst (AllOfLanguage s.text) (sym (c.one-nodes.ensures ∙ ap (λ n. part n none) target)) (of_part (pattern_of_language c.args.left.cover.node own) of_none)))

pub update_or_comma-returns-in_ok-node-in-Comma-clause-own : goal.update_or_comma-returns-in_ok-node-in-Comma-clause-own
update_or_comma-returns-in_ok-node-in-Comma-clause-own t c = λ own.
    let s = c.args.self.now.cursor in
    let first = c.in_ok-list-in-Comma.list in
    let list = c.in_ok-list-in-Comma-2.list in
    let same = c.advance-in-Comma.ensures.text in
    let tree = ap (λ (p : Operand). p.cover.node) c.plain-in-Comma.ensures ∙ c.in_ok-node-in-Comma.ensures.made.0 in
    let begun : AllOfLanguage s.text first.nodes = subst (λ (l : ListBuilder). AllOfLanguage s.text l.nodes) (sym c.in_ok-list-in-Comma.ensures.begun.0) (of_part own of_none) in
    let whole : AllOfLanguage s.text list.nodes = subst (λ x. AllOfLanguage x list.nodes) same (c.in_ok-list-in-Comma-2.ensures.own (subst (λ x. AllOfLanguage x first.nodes) (sym same) begun)) in
    subst (OfLanguage s.text) (sym tree) (of_node (λ b. refl) whole)

pub read_symbols-each-init : goal.read_symbols-each-init
read_symbols-each-init t c = record { same = refl; waits = λ base h. h; forward = omega arith; derived = built_first; low = λ h. h; own = λ h. h; complete = left_first (map piece_of c.args.pieces.now) }

pub read_symbols-each-preserved : goal.read_symbols-each-preserved
read_symbols-each-preserved t c =
    let v = c.each.invariant in
    let on = v.forward in
    let read = c.in_ok-expected.ensures.read in
    let text = c.args.self.now.cursor.text in
    let before : AllOfLanguage text c.args.built.now.nodes → AllOfLanguage text c.expected.new.built.nodes = λ h. expected_own text _ c.args.context.returns c.each.self.cursor c.expected.new.self.cursor c.each.built c.expected.new.built c.args.high _ read (v.own h) in
    let ready : (base : Parts) → c.args.self.now.tree ≡ join base c.args.built.now.nodes → c.expected.new.self.tree ≡ join base c.expected.new.built.nodes = λ base h. c.in_ok-expected.ensures.waits base (v.waits base h) in
    elim c.match-branch-2.branch [
      | read_symbols-in-Nothing w ↦ rw (w.self-is, w.built-is) (
          let p = passed_piece c.expected.ensures.same_open c.expected.ensures.same_pairs (nothing_passed _ (rw w.in-Nothing.is at read)) in
          let further = c.expected.ensures.forward in
          record { same = c.expected.ensures.text ∙ v.same; forward = omega arith; waits = ready; derived = piece_on c.args.pieces.now _ c.each.piece-index v.same c.each-test.true v.derived p; low = λ h. piece_low p (v.low h); own = before; complete = pieces_on c.args.pieces.now _ c.each.piece-index v.same c.each-test.true v.complete (nothing_same _ c.args.context.returns c.args.high c.expected.ensures.same_pairs (rw w.in-Nothing.is at read)) })
      | read_symbols-in-Gap+in_ok-push_gap-in-Gap w ↦ rw (w.self-is, w.built-is) (
          let p = passed_piece c.expected.ensures.same_open c.expected.ensures.same_pairs (gap_wanted _ c.expected.new.built (rw w.in-Gap.is at read) (ap (λ ps. record c.expected.new.built { nodes = ps }) w.in_ok-push_gap-in-Gap.ensures.pushed)) in
          let further = c.expected.ensures.forward in
          record { same = c.expected.ensures.text ∙ v.same; forward = omega arith; waits = λ base h. waits_gap base c.expected.new.built.nodes (ready base h) w.in_ok-push_gap-in-Gap.ensures.waits w.in_ok-push_gap-in-Gap.ensures.pushed; derived = piece_on c.args.pieces.now _ c.each.piece-index v.same c.each-test.true v.derived p; low = λ h. piece_low p (v.low h); own = λ h. gap_own text w.in_ok-push_gap-in-Gap.ensures.pushed (before h); complete = pieces_on c.args.pieces.now _ c.each.piece-index v.same c.each-test.true v.complete (gap_missing _ c.args.context.returns c.args.high c.expected.new.built c.expected.ensures.same_pairs (rw w.in-Gap.is at read) (ap (λ ps. record c.expected.new.built { nodes = ps }) w.in_ok-push_gap-in-Gap.ensures.pushed)) })
      | read_symbols-in-Expression+in_ok-part-in-Expression+in_ok-add_expression-in-Expression w ↦ rw (w.self-is, w.built-is) (
          let q = c.expected.ensures in
          let p = expression_piece _ c.expected.new.built w.sees_in_or_of-each.result q.text w.expression.ensures.text q.same_open q.same_pairs (rw w.in-Expression.is at read) w.in_ok-part-in-Expression.ensures.derived w.sees_in_or_of-each.ensures.seen w.sees_in_or_of-each.ensures.missed w.in_ok-add_expression-in-Expression.ensures.fits w.in_ok-add_expression-in-Expression.ensures.put w.in_ok-part-in-Expression.ensures.low in
          let further = c.expected.ensures.forward in
          let behind = w.expression.ensures.forward in
          record { same = w.expression.ensures.text ∙ q.text ∙ v.same; forward = omega arith; waits = λ base h. w.in_ok-add_expression-in-Expression.ensures.waits base (w.in_ok-part-in-Expression.ensures.waits ∙ ap (λ ps. push ps w.in_ok-part-in-Expression.part.cover.node) (ready base h)); derived = piece_on c.args.pieces.now _ c.each.piece-index v.same c.each-test.true v.derived p; low = λ h. piece_low p (v.low h); own = λ h. part_own text _ w.sees_in_or_of-each.result w.in_ok-part-in-Expression.part.cover.node c.expected.new.built w.in_ok-add_expression-in-Expression.ensures.put (subst (λ x. OfLanguage x w.in_ok-part-in-Expression.part.cover.node) (q.text ∙ v.same) w.in_ok-part-in-Expression.ensures.own) (before h); complete = pieces_on c.args.pieces.now _ c.each.piece-index v.same c.each-test.true v.complete (value_same c.args.context.returns c.each.self.cursor c.expected.new.self.cursor w.expression.new.self.cursor c.expected.new.self.pairs.items w.expression.new.self.pairs.items c.each.built c.expected.new.built c.args.high w.in-Expression.position _ _ w.sees_in_or_of-each.result q.text w.expression.ensures.text (rw w.in-Expression.is at read) w.in_ok-part-in-Expression.ensures.complete w.sees_in_or_of-each.ensures.seen w.sees_in_or_of-each.ensures.missed q.same_pairs w.in_ok-part-in-Expression.ensures.derived w.in_ok-add_expression-in-Expression.ensures.put) })
      | read_symbols-in-Binding+in_ok-part-in-Binding+in_ok-add_expression-in-Binding w ↦ rw (w.self-is, w.built-is) (
          let q = c.expected.ensures in
          let p = binding_piece _ c.expected.new.built q.text q.same_open q.same_pairs (rw w.in-Binding.is at read) w.at.ensures w.in_ok-part-in-Binding.ensures.derived w.in_ok-add_expression-in-Binding.ensures.fits w.in_ok-add_expression-in-Binding.ensures.put w.in_ok-part-in-Binding.ensures.low in
          let further = c.expected.ensures.forward in
          let behind = w.leftmost_operand.ensures.forward in
          record { same = w.leftmost_operand.ensures.text ∙ q.text ∙ v.same; forward = omega arith; waits = λ base h. w.in_ok-add_expression-in-Binding.ensures.waits base (w.in_ok-part-in-Binding.ensures.waits ∙ ap (λ ps. push ps w.in_ok-part-in-Binding.part.cover.node) (ready base h)); derived = piece_on c.args.pieces.now _ c.each.piece-index v.same c.each-test.true v.derived p; low = λ h. piece_low p (v.low h); own = λ h. part_own text _ false w.in_ok-part-in-Binding.part.cover.node c.expected.new.built w.in_ok-add_expression-in-Binding.ensures.put (subst (λ x. OfLanguage x w.in_ok-part-in-Binding.part.cover.node) (q.text ∙ v.same) w.in_ok-part-in-Binding.ensures.own) (before h); complete = pieces_on c.args.pieces.now _ c.each.piece-index v.same c.each-test.true v.complete (binding_same c.args.context.returns c.each.self.cursor c.expected.new.self.cursor c.each.built c.expected.new.built c.args.high w.at.result _ q.text (rw w.in-Binding.is at read) w.at.ensures w.leftmost_operand.new.self.cursor c.expected.new.self.pairs.items w.leftmost_operand.new.self.pairs.items _ w.in_ok-part-in-Binding.ensures.complete q.same_pairs w.in_ok-add_expression-in-Binding.ensures.put) })
      | read_symbols-in-Statement+in_ok-statement-in-Statement+in_ok-push-in-Statement w ↦ rw (w.self-is, w.built-is) (
          let q = c.expected.ensures in
          let p = statement_piece _ c.expected.new.built q.text q.same_open q.same_pairs (rw w.in-Statement.is at read) w.inside.ensures w.in_ok-statement-in-Statement.ensures.derived (ap (λ ps. record c.expected.new.built { nodes = ps }) w.in_ok-push-in-Statement.ensures.pushed) w.in_ok-statement-in-Statement.ensures.low in
          let further = c.expected.ensures.forward in
          let behind = w.statement.ensures.forward in
          record { same = w.statement.ensures.text ∙ q.text ∙ v.same; forward = omega arith; waits = λ base h. waits_push base c.expected.new.built.nodes w.in_ok-statement-in-Statement.field-0 (ready base h) w.in_ok-statement-in-Statement.ensures.waits w.in_ok-push-in-Statement.ensures.pushed; derived = piece_on c.args.pieces.now _ c.each.piece-index v.same c.each-test.true v.derived p; low = λ h. piece_low p (v.low h); own = λ h. push_own text _ w.in_ok-push-in-Statement.ensures.pushed (subst (λ x. OfLanguage x w.in_ok-statement-in-Statement.field-0) (q.text ∙ v.same) w.in_ok-statement-in-Statement.ensures.own) (before h); complete = pieces_on c.args.pieces.now _ c.each.piece-index v.same c.each-test.true v.complete (statement_same c.args.context.returns c.each.self.cursor c.expected.new.self.cursor c.each.built c.expected.new.built c.args.high w.inside.result _ q.text (rw w.in-Statement.is at read) w.inside.ensures w.statement.new.self.cursor c.expected.new.self.pairs.items w.statement.new.self.pairs.items _ w.in_ok-statement-in-Statement.ensures.complete q.same_pairs (ap (λ ps. record c.expected.new.built { nodes = ps }) w.in_ok-push-in-Statement.ensures.pushed)) })
      | read_symbols-in-Block+in_ok-left-in-Block+in_ok-list-in-Block+in_ok-expect_punctuator-in-Block+in_ok-block-in-Block+in_ok-push-in-Block w ↦ rw (w.self-is, w.built-is) (
          let q = c.expected.ensures in
          let further = c.expected.ensures.forward in
          let behind = w.expect_punctuator.ensures.forward in
          let later = w.statements.ensures.forward in
          let last = w.expect_punctuator-in-Block.ensures.forward in
          let ahead : c.args.self.now.cursor.last.stop ≤ w.expect_punctuator-in-Block.new.self.cursor.last.stop = omega arith in
          let span = w.span_from-span.ensures in
          let made = w.in_ok-block-in-Block.ensures.made.0 ∙ (λ i. node BlockStatement [] plain (span i).start (span i).end w.in_ok-list-in-Block.list) in
          let low : height w.in_ok-block-in-Block.block ≤ c.args.high = subst (λ n. height n ≤ c.args.high) (sym w.in_ok-block-in-Block.ensures.made.0) w.in_ok-block-in-Block.ensures.made.1 in
          let p = block_piece _ c.expected.new.built w.in-Block.context q.text w.expect_punctuator.ensures.text w.statements.ensures.text q.same_open q.same_pairs w.expect_punctuator.ensures.same_open w.expect_punctuator.ensures.same_pairs w.expect_punctuator-in-Block.ensures.same_open w.expect_punctuator-in-Block.ensures.same_pairs (rw w.in-Block.is at read)
          w.in_ok-left-in-Block.ensures.accepted.0 w.in_ok-left-in-Block.ensures.accepted.1 w.in_ok-list-in-Block.ensures.derived w.in_ok-expect_punctuator-in-Block.ensures.accepted.0 made (ap (λ ps. record c.expected.new.built { nodes = ps }) w.in_ok-push-in-Block.ensures.pushed) low in
          record { same = w.expect_punctuator-in-Block.ensures.text ∙ w.statements.ensures.text ∙ w.expect_punctuator.ensures.text ∙ q.text ∙ v.same; forward = ahead; waits = λ base h. waits_push base c.expected.new.built.nodes w.in_ok-block-in-Block.block (ready base h) (w.in_ok-block-in-Block.ensures.waits c.expected.new.self.tree (w.expect_punctuator-in-Block.ensures.same_tree ∙ w.in_ok-list-in-Block.ensures.waits ∙ ap (λ ps. join ps w.in_ok-list-in-Block.list) w.expect_punctuator.ensures.same_tree)) w.in_ok-push-in-Block.ensures.pushed; derived = piece_on c.args.pieces.now _ c.each.piece-index v.same c.each-test.true v.derived p; low = λ h. piece_low p (v.low h); own = λ h. push_own text _ w.in_ok-push-in-Block.ensures.pushed (block_own text made (subst (λ x. AllOfLanguage x w.in_ok-list-in-Block.list) (w.expect_punctuator.ensures.text ∙ q.text ∙ v.same) w.in_ok-list-in-Block.ensures.own)) (before h); complete = pieces_on c.args.pieces.now _ c.each.piece-index v.same c.each-test.true v.complete (block_same c.args.context.returns c.each.self.cursor c.expected.new.self.cursor c.each.built c.expected.new.built c.args.high w.in-Block.context _ q.text q.same_open (rw w.in-Block.is at read) w.expect_punctuator.new.self.cursor c.saturating_sub-inner.result w.expect_punctuator.ensures.text w.expect_punctuator.ensures.same_open w.in_ok-left-in-Block.ensures.accepted.0 c.saturating_sub-inner.ensures w.statements.new.self.cursor w.expect_punctuator.new.self.pairs.items w.statements.new.self.pairs.items _ w.in_ok-list-in-Block.ensures.complete q.same_pairs w.expect_punctuator.ensures.same_pairs w.expect_punctuator-in-Block.ensures.same_pairs w.statements.ensures.text w.in_ok-left-in-Block.ensures.accepted.1 w.in_ok-expect_punctuator-in-Block.ensures.accepted.0 made (ap (λ ps. record c.expected.new.built { nodes = ps }) w.in_ok-push-in-Block.ensures.pushed)) })
      | read_symbols-in-Handler+in_ok-read_symbols-in-Handler+in_ok-handler-in-Handler+in_ok-push-in-Handler w ↦ rw (w.self-is, w.built-is) (
          let q = c.expected.ensures in
          let span = w.span_from-span-in-Handler.ensures in
          let made = w.in_ok-handler-in-Handler.ensures.made.0 ∙ (λ i. node CatchClause [] plain (span i).start (span i).end w.read_symbols.new.built.nodes) in
          let low : height w.in_ok-handler-in-Handler.handler ≤ c.args.high = subst (λ n. height n ≤ c.args.high) (sym w.in_ok-handler-in-Handler.ensures.made.0) w.in_ok-handler-in-Handler.ensures.made.1 in
          let p = handler_piece _ c.expected.new.built w.in-Handler.start w.new-caught.result w.read_symbols.new.built q.text q.same_open q.same_pairs (rw w.in-Handler.is at read) w.catch_symbols.ensures w.new-caught.ensures w.in_ok-read_symbols-in-Handler.ensures.derived made (ap (λ ps. record c.expected.new.built { nodes = ps }) w.in_ok-push-in-Handler.ensures.pushed) low in
          let further = c.expected.ensures.forward in
          let behind = w.read_symbols.ensures.forward in
          record { same = w.read_symbols.ensures.text ∙ q.text ∙ v.same; forward = omega arith; waits = λ base h. waits_push base c.expected.new.built.nodes w.in_ok-handler-in-Handler.handler (ready base h) (w.in_ok-handler-in-Handler.ensures.waits c.expected.new.self.tree (w.in_ok-read_symbols-in-Handler.ensures.waits c.expected.new.self.tree (waits_none (ap (λ x. x.nodes) w.new-caught.ensures)))) w.in_ok-push-in-Handler.ensures.pushed; derived = piece_on c.args.pieces.now _ c.each.piece-index v.same c.each-test.true v.derived p; low = λ h. piece_low p (v.low h); own = λ h. push_own text _ w.in_ok-push-in-Handler.ensures.pushed (handler_own text made (ap (λ x. x.nodes) w.new-caught.ensures) (subst (λ x. AllOfLanguage x w.new-caught.result.nodes → AllOfLanguage x w.read_symbols.new.built.nodes) (q.text ∙ v.same) w.in_ok-read_symbols-in-Handler.ensures.own)) (before h); complete = pieces_on c.args.pieces.now _ c.each.piece-index v.same c.each-test.true v.complete (handler_same c.args.context.returns c.each.self.cursor c.expected.new.self.cursor c.each.built c.expected.new.built c.args.high w.in-Handler.start c.saturating_sub-inner.result w.new-caught.result _ _ q.text q.same_open (rw w.in-Handler.is at read) w.new-caught.ensures w.catch_symbols.ensures c.saturating_sub-inner.ensures w.read_symbols.new.self.cursor c.expected.new.self.pairs.items w.read_symbols.new.self.pairs.items w.read_symbols.new.built _ w.in_ok-read_symbols-in-Handler.ensures.complete q.same_pairs made (ap (λ ps. record c.expected.new.built { nodes = ps }) w.in_ok-push-in-Handler.ensures.pushed)) })
      | read_symbols-in-Items+in_ok-statements-in-Items+in_ok-append-in-Items w ↦ rw (w.self-is, w.built-is) (
          let q = c.expected.ensures in
          let further = c.expected.ensures.forward in
          let behind = w.statements-in-Items.ensures.forward in
          let ahead : c.args.self.now.cursor.last.stop ≤ w.statements-in-Items.new.self.cursor.last.stop = omega arith in
          let p = items_piece _ c.expected.new.built {d = record c.expected.new.built { nodes = w.append.new.self }} w.in-Items.until q.text q.same_open q.same_pairs (rw w.in-Items.is at read) w.item-context.ensures w.in_ok-statements-in-Items.ensures.derived w.in_ok-append-in-Items.ensures.joined refl w.in_ok-statements-in-Items.ensures.low in
          record { same = w.statements-in-Items.ensures.text ∙ q.text ∙ v.same; forward = ahead; waits = λ base h. waits_join base c.expected.new.built.nodes w.in_ok-statements-in-Items.field-0 (ready base h) w.in_ok-statements-in-Items.ensures.waits w.in_ok-append-in-Items.ensures.joined; derived = piece_on c.args.pieces.now _ c.each.piece-index v.same c.each-test.true v.derived p; low = λ h. piece_low p (v.low h); own = λ h. join_own text _ w.in_ok-append-in-Items.ensures.joined (subst (λ x. AllOfLanguage x w.in_ok-statements-in-Items.field-0) (q.text ∙ v.same) w.in_ok-statements-in-Items.ensures.own) (before h); complete = pieces_on c.args.pieces.now _ c.each.piece-index v.same c.each-test.true v.complete (items_same c.args.context.returns c.each.self.cursor c.expected.new.self.cursor c.each.built c.expected.new.built c.args.high w.in-Items.until w.item-context.result _ q.text (rw w.in-Items.is at read) w.item-context.ensures w.statements-in-Items.new.self.cursor c.expected.new.self.pairs.items w.statements-in-Items.new.self.pairs.items _ w.in_ok-statements-in-Items.ensures.complete q.same_pairs w.in_ok-append-in-Items.ensures.joined) })
      | read_symbols-in-List+in_ok-list-in-List+in_ok-list-in-List-2+in_ok-add_list-in-List w ↦ rw (w.self-is, w.built-is) (
          let q = c.expected.ensures in
          let whole = w.in_ok-list-in-List-2.ensures in
          let p = list_piece _ c.expected.new.built w.in_ok-list-in-List.list w.in_ok-list-in-List-2.list w.in-List.listed w.sees_in_or_of-each-in-List.result w.saturating_sub-limit.result q.text w.open.ensures.text w.list.ensures.text q.same_open q.same_pairs w.open.ensures.same_open w.open.ensures.same_pairs (rw w.in-List.is at read)
          w.in_ok-list-in-List.ensures.listed w.in_ok-list-in-List.ensures.begun whole.same whole.seen whole.derived w.sees_in_or_of-each-in-List.ensures.seen w.sees_in_or_of-each-in-List.ensures.missed w.in_ok-add_list-in-List.ensures.put w.in_ok-add_list-in-List.ensures.fits whole.low (w.saturating_sub-limit.ensures ∙ ap (λ n. c.args.high - n) w.list_node_height.ensures) in
          let further = c.expected.ensures.forward in
          let behind = w.open.ensures.forward in
          let later = w.list.ensures.forward in
          record { same = w.list.ensures.text ∙ w.open.ensures.text ∙ q.text ∙ v.same; forward = omega arith; waits = λ base h. w.in_ok-add_list-in-List.ensures.waits base (w.in_ok-list-in-List-2.ensures.waits c.expected.new.self.tree w.in_ok-list-in-List.ensures.waits ∙ ap (λ ps. join ps w.in_ok-list-in-List-2.list.nodes) (ready base h)); derived = piece_on c.args.pieces.now _ c.each.piece-index v.same c.each-test.true v.derived p; low = λ h. piece_low p (v.low h); own = λ h. with_list_own text w.in_ok-list-in-List-2.list w.list.new.self.cursor.last.stop c.expected.new.built w.in_ok-add_list-in-List.ensures.put (subst (λ x. AllOfLanguage x w.in_ok-list-in-List-2.list.nodes) (w.open.ensures.text ∙ q.text ∙ v.same) (w.in_ok-list-in-List-2.ensures.own (subst (λ x. AllOfLanguage x w.in_ok-list-in-List.list.nodes) (sym w.open.ensures.text) w.in_ok-list-in-List.ensures.own))) (before h); complete = pieces_on c.args.pieces.now _ c.each.piece-index v.same c.each-test.true v.complete (list_same c.args.context.returns c.each.self.cursor c.expected.new.self.cursor c.each.built c.expected.new.built c.args.high w.in-List.listed _ q.text (rw w.in-List.is at read) w.open.new.self.cursor w.saturating_sub-limit.result w.in_ok-list-in-List.list q.same_open w.open.ensures.text w.open.ensures.same_open w.in_ok-list-in-List.ensures.listed w.in_ok-list-in-List.ensures.begun (w.saturating_sub-limit.ensures ∙ ap (λ n. c.args.high - n) w.list_node_height.ensures) w.list.new.self.cursor w.open.new.self.pairs.items w.list.new.self.pairs.items w.in_ok-list-in-List-2.list w.sees_in_or_of-each-in-List.result w.list.ensures.text w.in_ok-list-in-List-2.ensures.complete w.in_ok-list-in-List-2.ensures.same w.in_ok-list-in-List-2.ensures.derived w.sees_in_or_of-each-in-List.ensures.seen w.sees_in_or_of-each-in-List.ensures.missed q.same_pairs w.open.ensures.same_pairs w.in_ok-add_list-in-List.ensures.put) })
    ]

pub read_symbols-returns-in_err-expected-clause-complete : goal.read_symbols-returns-in_err-expected-clause-complete
read_symbols-returns-in_err-expected-clause-complete t c =
    let v = c.each.invariant in
    pieces_err c.expected.new.self.cursor c.expected.new.self.pairs.items c.args.high _ c.from_residual.result c.args.pieces.now _ c.each.piece-index c.in_err-expected.field-0.0 v.same c.each-test.true v.derived.same_open v.complete c.from_residual.ensures.1
    (wanted_refused _ c.args.context.returns c.each.self.cursor c.each.built c.args.high c.in_err-expected.field-0.0 c.in_err-expected.ensures.failed)

pub read_symbols-returns-in_err-push_gap-in-Gap-clause-complete : goal.read_symbols-returns-in_err-push_gap-in-Gap-clause-complete
read_symbols-returns-in_err-push_gap-in-Gap-clause-complete t c =
    let v = c.each.invariant in
    pieces_memory c.expected.new.self.cursor c.expected.new.self.pairs.items c.args.high _ c.from_residual-in_err-push_gap-in-Gap.result c.args.pieces.now c.each.piece-index c.in_err-push_gap-in-Gap.field-0.0 v.same c.each-test.true v.derived.same_open v.complete c.from_residual-in_err-push_gap-in-Gap.ensures.1 c.in_err-push_gap-in-Gap.ensures.kept.0

pub read_symbols-returns-in_err-part-in-Expression-clause-complete : goal.read_symbols-returns-in_err-part-in-Expression-clause-complete
read_symbols-returns-in_err-part-in-Expression-clause-complete t c =
    let v = c.each.invariant in
    pieces_err c.expression.new.self.cursor c.expression.new.self.pairs.items c.args.high _ c.from_residual-in_err-part-in-Expression.result c.args.pieces.now _ c.each.piece-index c.in_err-part-in-Expression.field-0.0 v.same c.each-test.true v.derived.same_open v.complete c.from_residual-in_err-part-in-Expression.ensures.1
    (piece_value_refused c.args.context.returns c.each.self.cursor c.expected.new.self.cursor c.expression.new.self.cursor c.expected.new.self.pairs.items c.expression.new.self.pairs.items c.each.built c.expected.new.built c.args.high c.in-Expression.position _ c.in_err-part-in-Expression.field-0.0 c.expected.ensures.text c.expected.ensures.same_open (rw c.in-Expression.is at c.in_ok-expected.ensures.read) c.in_err-part-in-Expression.ensures.complete)

pub read_symbols-returns-in_err-add_expression-in-Expression-clause-complete : goal.read_symbols-returns-in_err-add_expression-in-Expression-clause-complete
read_symbols-returns-in_err-add_expression-in-Expression-clause-complete t c =
    let v = c.each.invariant in
    pieces_err c.expression.new.self.cursor c.expression.new.self.pairs.items c.args.high _ c.from_residual-in_err-add_expression-in-Expression.result c.args.pieces.now _ c.each.piece-index c.in_err-add_expression-in-Expression.field-0.0 v.same c.each-test.true v.derived.same_open v.complete c.from_residual-in_err-add_expression-in-Expression.ensures.1
    (value_unput c.args.context.returns c.each.self.cursor c.expected.new.self.cursor c.expression.new.self.cursor c.expected.new.self.pairs.items c.expression.new.self.pairs.items c.each.built c.expected.new.built c.args.high c.in-Expression.position _ _ c.sees_in_or_of-each.result c.expected.ensures.text c.expression.ensures.text (rw c.in-Expression.is at c.in_ok-expected.ensures.read) c.in_ok-part-in-Expression.ensures.complete c.sees_in_or_of-each.ensures.seen c.sees_in_or_of-each.ensures.missed (IsPlaceHere c.expression.new.self.cursor) c.in_err-add_expression-in-Expression.field-0.0 c.in_err-add_expression-in-Expression.ensures.failed)

pub read_symbols-returns-in_err-part-in-Binding-clause-complete : goal.read_symbols-returns-in_err-part-in-Binding-clause-complete
read_symbols-returns-in_err-part-in-Binding-clause-complete t c =
    let v = c.each.invariant in
    pieces_err c.leftmost_operand.new.self.cursor c.leftmost_operand.new.self.pairs.items c.args.high _ c.from_residual-in_err-part-in-Binding.result c.args.pieces.now _ c.each.piece-index c.in_err-part-in-Binding.field-0.0 v.same c.each-test.true v.derived.same_open v.complete c.from_residual-in_err-part-in-Binding.ensures.1
    (binding_refused c.args.context.returns c.each.self.cursor c.expected.new.self.cursor c.each.built c.expected.new.built c.args.high c.at.result _ c.expected.ensures.text (rw c.in-Binding.is at c.in_ok-expected.ensures.read) c.at.ensures c.leftmost_operand.new.self.cursor c.expected.new.self.pairs.items c.leftmost_operand.new.self.pairs.items c.in_err-part-in-Binding.field-0.0 c.expected.ensures.same_open c.in_err-part-in-Binding.ensures.complete)

pub read_symbols-returns-in_err-add_expression-in-Binding-clause-complete : goal.read_symbols-returns-in_err-add_expression-in-Binding-clause-complete
read_symbols-returns-in_err-add_expression-in-Binding-clause-complete t c =
    let v = c.each.invariant in
    pieces_err c.leftmost_operand.new.self.cursor c.leftmost_operand.new.self.pairs.items c.args.high _ c.from_residual-in_err-add_expression-in-Binding.result c.args.pieces.now _ c.each.piece-index c.in_err-add_expression-in-Binding.field-0.0 v.same c.each-test.true v.derived.same_open v.complete c.from_residual-in_err-add_expression-in-Binding.ensures.1
    (binding_unput c.args.context.returns c.each.self.cursor c.expected.new.self.cursor c.each.built c.expected.new.built c.args.high c.at.result _ c.expected.ensures.text (rw c.in-Binding.is at c.in_ok-expected.ensures.read) c.at.ensures c.leftmost_operand.new.self.cursor c.expected.new.self.pairs.items c.leftmost_operand.new.self.pairs.items _ c.in_ok-part-in-Binding.ensures.complete (IsPlaceHere c.leftmost_operand.new.self.cursor) c.in_err-add_expression-in-Binding.field-0.0 c.in_err-add_expression-in-Binding.ensures.failed)

pub read_symbols-returns-in_err-statement-in-Statement-clause-complete : goal.read_symbols-returns-in_err-statement-in-Statement-clause-complete
read_symbols-returns-in_err-statement-in-Statement-clause-complete t c =
    let v = c.each.invariant in
    pieces_err c.statement.new.self.cursor c.statement.new.self.pairs.items c.args.high _ c.from_residual-in_err-statement-in-Statement.result c.args.pieces.now _ c.each.piece-index c.in_err-statement-in-Statement.field-0.0 v.same c.each-test.true v.derived.same_open v.complete c.from_residual-in_err-statement-in-Statement.ensures.1
    (statement_refused c.args.context.returns c.each.self.cursor c.expected.new.self.cursor c.each.built c.expected.new.built c.args.high c.inside.result _ c.expected.ensures.text (rw c.in-Statement.is at c.in_ok-expected.ensures.read) c.inside.ensures c.statement.new.self.cursor c.expected.new.self.pairs.items c.statement.new.self.pairs.items c.in_err-statement-in-Statement.field-0.0 c.expected.ensures.same_open c.in_err-statement-in-Statement.ensures.complete)

pub read_symbols-returns-in_err-push-in-Statement-clause-complete : goal.read_symbols-returns-in_err-push-in-Statement-clause-complete
read_symbols-returns-in_err-push-in-Statement-clause-complete t c =
    let v = c.each.invariant in
    pieces_memory c.statement.new.self.cursor c.statement.new.self.pairs.items c.args.high _ c.from_residual-in_err-push-in-Statement.result c.args.pieces.now c.each.piece-index c.in_err-push-in-Statement.field-0.0 v.same c.each-test.true v.derived.same_open v.complete c.from_residual-in_err-push-in-Statement.ensures.1 c.in_err-push-in-Statement.ensures.kept.0

pub read_symbols-returns-in_err-left-in-Block-clause-complete : goal.read_symbols-returns-in_err-left-in-Block-clause-complete
read_symbols-returns-in_err-left-in-Block-clause-complete t c =
    let v = c.each.invariant in
    pieces_err c.expect_punctuator.new.self.cursor c.expect_punctuator.new.self.pairs.items c.args.high _ c.from_residual-in_err-left-in-Block.result c.args.pieces.now _ c.each.piece-index c.in_err-left-in-Block.field-0.0 v.same c.each-test.true v.derived.same_open v.complete c.from_residual-in_err-left-in-Block.ensures.1
    (block_unopened c.args.context.returns c.each.self.cursor c.expected.new.self.cursor c.each.built c.expected.new.built c.args.high c.in-Block.context _ c.expected.ensures.text c.expected.ensures.same_open (rw c.in-Block.is at c.in_ok-expected.ensures.read) c.in_err-left-in-Block.field-0.0 c.in_err-left-in-Block.ensures.missed.0)

pub read_symbols-returns-in_err-list-in-Block-clause-complete : goal.read_symbols-returns-in_err-list-in-Block-clause-complete
read_symbols-returns-in_err-list-in-Block-clause-complete t c =
    let v = c.each.invariant in
    pieces_err c.statements.new.self.cursor c.statements.new.self.pairs.items c.args.high _ c.from_residual-in_err-list-in-Block.result c.args.pieces.now _ c.each.piece-index c.in_err-list-in-Block.field-0.0 v.same c.each-test.true v.derived.same_open v.complete c.from_residual-in_err-list-in-Block.ensures.1
    (block_items_refused c.args.context.returns c.each.self.cursor c.expected.new.self.cursor c.each.built c.expected.new.built c.args.high c.in-Block.context _ c.expected.ensures.text c.expected.ensures.same_open (rw c.in-Block.is at c.in_ok-expected.ensures.read) c.expect_punctuator.new.self.cursor c.saturating_sub-inner.result c.expect_punctuator.ensures.text c.expect_punctuator.ensures.same_open c.in_ok-left-in-Block.ensures.accepted.0 c.saturating_sub-inner.ensures c.statements.new.self.cursor c.expect_punctuator.new.self.pairs.items c.statements.new.self.pairs.items c.in_err-list-in-Block.field-0.0 c.in_err-list-in-Block.ensures.complete)

pub read_symbols-returns-in_err-expect_punctuator-in-Block-clause-complete : goal.read_symbols-returns-in_err-expect_punctuator-in-Block-clause-complete
read_symbols-returns-in_err-expect_punctuator-in-Block-clause-complete t c =
    let v = c.each.invariant in
    pieces_err c.expect_punctuator-in-Block.new.self.cursor c.expect_punctuator-in-Block.new.self.pairs.items c.args.high _ c.from_residual-in_err-expect_punctuator-in-Block.result c.args.pieces.now _ c.each.piece-index c.in_err-expect_punctuator-in-Block.field-0.0 v.same c.each-test.true v.derived.same_open v.complete c.from_residual-in_err-expect_punctuator-in-Block.ensures.1
    (block_unclosed c.args.context.returns c.each.self.cursor c.expected.new.self.cursor c.each.built c.expected.new.built c.args.high c.in-Block.context _ c.expected.ensures.text c.expected.ensures.same_open (rw c.in-Block.is at c.in_ok-expected.ensures.read) c.expect_punctuator.new.self.cursor c.saturating_sub-inner.result c.expect_punctuator.ensures.text c.expect_punctuator.ensures.same_open c.in_ok-left-in-Block.ensures.accepted.0 c.saturating_sub-inner.ensures c.statements.new.self.cursor c.expect_punctuator.new.self.pairs.items c.statements.new.self.pairs.items _ c.in_ok-list-in-Block.ensures.complete c.in_err-expect_punctuator-in-Block.field-0.0 c.statements.ensures.text c.in_err-expect_punctuator-in-Block.ensures.missed.0)

pub read_symbols-returns-in_err-block-in-Block-clause-complete : goal.read_symbols-returns-in_err-block-in-Block-clause-complete
read_symbols-returns-in_err-block-in-Block-clause-complete t c =
    let v = c.each.invariant in
    pieces_err c.expect_punctuator-in-Block.new.self.cursor c.expect_punctuator-in-Block.new.self.pairs.items c.args.high _ c.from_residual-in_err-block-in-Block.result c.args.pieces.now _ c.each.piece-index c.in_err-block-in-Block.field-0.0 v.same c.each-test.true v.derived.same_open v.complete c.from_residual-in_err-block-in-Block.ensures.1
    (block_high c.args.context.returns c.each.self.cursor c.expected.new.self.cursor c.each.built c.expected.new.built c.args.high c.in-Block.context _ c.expected.ensures.text c.expected.ensures.same_open (rw c.in-Block.is at c.in_ok-expected.ensures.read) c.expect_punctuator.new.self.cursor c.saturating_sub-inner.result c.expect_punctuator.ensures.text c.expect_punctuator.ensures.same_open c.in_ok-left-in-Block.ensures.accepted.0 c.saturating_sub-inner.ensures c.statements.new.self.cursor c.expect_punctuator.new.self.pairs.items c.statements.new.self.pairs.items _ c.in_ok-list-in-Block.ensures.complete c.in_err-block-in-Block.field-0.0 c.in_err-block-in-Block.ensures.made.0 c.in_err-block-in-Block.ensures.made.1)

pub read_symbols-returns-in_err-push-in-Block-clause-complete : goal.read_symbols-returns-in_err-push-in-Block-clause-complete
read_symbols-returns-in_err-push-in-Block-clause-complete t c =
    let v = c.each.invariant in
    pieces_memory c.expect_punctuator-in-Block.new.self.cursor c.expect_punctuator-in-Block.new.self.pairs.items c.args.high _ c.from_residual-in_err-push-in-Block.result c.args.pieces.now c.each.piece-index c.in_err-push-in-Block.field-0.0 v.same c.each-test.true v.derived.same_open v.complete c.from_residual-in_err-push-in-Block.ensures.1 c.in_err-push-in-Block.ensures.kept.0

pub read_symbols-returns-in_err-read_symbols-in-Handler-clause-complete : goal.read_symbols-returns-in_err-read_symbols-in-Handler-clause-complete
read_symbols-returns-in_err-read_symbols-in-Handler-clause-complete t c =
    let v = c.each.invariant in
    pieces_err c.read_symbols.new.self.cursor c.read_symbols.new.self.pairs.items c.args.high _ c.from_residual-in_err-read_symbols-in-Handler.result c.args.pieces.now _ c.each.piece-index c.in_err-read_symbols-in-Handler.field-0.0 v.same c.each-test.true v.derived.same_open v.complete c.from_residual-in_err-read_symbols-in-Handler.ensures.1
    (handler_refused c.args.context.returns c.each.self.cursor c.expected.new.self.cursor c.each.built c.expected.new.built c.args.high c.in-Handler.start c.saturating_sub-inner.result c.new-caught.result _ _ c.expected.ensures.text c.expected.ensures.same_open (rw c.in-Handler.is at c.in_ok-expected.ensures.read) c.new-caught.ensures c.catch_symbols.ensures c.saturating_sub-inner.ensures c.read_symbols.new.self.cursor c.expected.new.self.pairs.items c.read_symbols.new.self.pairs.items c.read_symbols.new.built c.in_err-read_symbols-in-Handler.field-0.0 c.in_err-read_symbols-in-Handler.ensures.complete)

pub read_symbols-returns-in_err-handler-in-Handler-clause-complete : goal.read_symbols-returns-in_err-handler-in-Handler-clause-complete
read_symbols-returns-in_err-handler-in-Handler-clause-complete t c =
    let v = c.each.invariant in
    pieces_err c.read_symbols.new.self.cursor c.read_symbols.new.self.pairs.items c.args.high _ c.from_residual-in_err-handler-in-Handler.result c.args.pieces.now _ c.each.piece-index c.in_err-handler-in-Handler.field-0.0 v.same c.each-test.true v.derived.same_open v.complete c.from_residual-in_err-handler-in-Handler.ensures.1
    (handler_high c.args.context.returns c.each.self.cursor c.expected.new.self.cursor c.each.built c.expected.new.built c.args.high c.in-Handler.start c.saturating_sub-inner.result c.new-caught.result _ _ c.expected.ensures.text c.expected.ensures.same_open (rw c.in-Handler.is at c.in_ok-expected.ensures.read) c.new-caught.ensures c.catch_symbols.ensures c.saturating_sub-inner.ensures c.read_symbols.new.self.cursor c.expected.new.self.pairs.items c.read_symbols.new.self.pairs.items c.read_symbols.new.built c.in_err-handler-in-Handler.field-0.0 c.in_ok-read_symbols-in-Handler.ensures.complete c.in_err-handler-in-Handler.ensures.made.0 c.in_err-handler-in-Handler.ensures.made.1)

pub read_symbols-returns-in_err-push-in-Handler-clause-complete : goal.read_symbols-returns-in_err-push-in-Handler-clause-complete
read_symbols-returns-in_err-push-in-Handler-clause-complete t c =
    let v = c.each.invariant in
    pieces_memory c.read_symbols.new.self.cursor c.read_symbols.new.self.pairs.items c.args.high _ c.from_residual-in_err-push-in-Handler.result c.args.pieces.now c.each.piece-index c.in_err-push-in-Handler.field-0.0 v.same c.each-test.true v.derived.same_open v.complete c.from_residual-in_err-push-in-Handler.ensures.1 c.in_err-push-in-Handler.ensures.kept.0

pub read_symbols-returns-in_err-statements-in-Items-clause-complete : goal.read_symbols-returns-in_err-statements-in-Items-clause-complete
read_symbols-returns-in_err-statements-in-Items-clause-complete t c =
    let v = c.each.invariant in
    pieces_err c.statements-in-Items.new.self.cursor c.statements-in-Items.new.self.pairs.items c.args.high _ c.from_residual-in_err-statements-in-Items.result c.args.pieces.now _ c.each.piece-index c.in_err-statements-in-Items.field-0.0 v.same c.each-test.true v.derived.same_open v.complete c.from_residual-in_err-statements-in-Items.ensures.1
    (items_refused c.args.context.returns c.each.self.cursor c.expected.new.self.cursor c.each.built c.expected.new.built c.args.high c.in-Items.until c.item-context.result _ c.expected.ensures.text (rw c.in-Items.is at c.in_ok-expected.ensures.read) c.item-context.ensures c.statements-in-Items.new.self.cursor c.expected.new.self.pairs.items c.statements-in-Items.new.self.pairs.items c.in_err-statements-in-Items.field-0.0 c.expected.ensures.same_open c.in_err-statements-in-Items.ensures.complete)

pub read_symbols-returns-in_err-append-in-Items-clause-complete : goal.read_symbols-returns-in_err-append-in-Items-clause-complete
read_symbols-returns-in_err-append-in-Items-clause-complete t c =
    let v = c.each.invariant in
    pieces_memory c.statements-in-Items.new.self.cursor c.statements-in-Items.new.self.pairs.items c.args.high _ c.from_residual-in_err-append-in-Items.result c.args.pieces.now c.each.piece-index c.in_err-append-in-Items.field-0.0 v.same c.each-test.true v.derived.same_open v.complete c.from_residual-in_err-append-in-Items.ensures.1 c.in_err-append-in-Items.ensures.kept.0

pub read_symbols-returns-in_err-list-in-List-clause-complete : goal.read_symbols-returns-in_err-list-in-List-clause-complete
read_symbols-returns-in_err-list-in-List-clause-complete t c =
    let v = c.each.invariant in
    pieces_err c.open.new.self.cursor c.open.new.self.pairs.items c.args.high _ c.from_residual-in_err-list-in-List.result c.args.pieces.now _ c.each.piece-index c.in_err-list-in-List.field-0.0 v.same c.each-test.true v.derived.same_open v.complete c.from_residual-in_err-list-in-List.ensures.1
    (list_unopened c.args.context.returns c.each.self.cursor c.expected.new.self.cursor c.each.built c.expected.new.built c.args.high c.in-List.listed _ c.expected.ensures.text (rw c.in-List.is at c.in_ok-expected.ensures.read) c.saturating_sub-limit.result c.in_err-list-in-List.field-0.0 c.in_err-list-in-List.ensures.not_begun c.in_err-list-in-List.ensures.unopened)

pub read_symbols-returns-in_err-list-in-List-2-clause-complete : goal.read_symbols-returns-in_err-list-in-List-2-clause-complete
read_symbols-returns-in_err-list-in-List-2-clause-complete t c =
    let v = c.each.invariant in
    pieces_err c.list.new.self.cursor c.list.new.self.pairs.items c.args.high _ c.from_residual-in_err-list-in-List-2.result c.args.pieces.now _ c.each.piece-index c.in_err-list-in-List-2.field-0.0 v.same c.each-test.true v.derived.same_open v.complete c.from_residual-in_err-list-in-List-2.ensures.1
    (list_refused c.args.context.returns c.each.self.cursor c.expected.new.self.cursor c.each.built c.expected.new.built c.args.high c.in-List.listed _ c.expected.ensures.text (rw c.in-List.is at c.in_ok-expected.ensures.read) c.open.new.self.cursor c.saturating_sub-limit.result c.in_ok-list-in-List.list c.expected.ensures.same_open c.open.ensures.text c.open.ensures.same_open c.in_ok-list-in-List.ensures.listed c.in_ok-list-in-List.ensures.begun (c.saturating_sub-limit.ensures ∙ ap (λ n. c.args.high - n) c.list_node_height.ensures) c.list.new.self.cursor c.open.new.self.pairs.items c.list.new.self.pairs.items c.in_err-list-in-List-2.field-0.0 c.in_err-list-in-List-2.ensures.complete)

pub read_symbols-returns-in_err-add_list-in-List-clause-complete : goal.read_symbols-returns-in_err-add_list-in-List-clause-complete
read_symbols-returns-in_err-add_list-in-List-clause-complete t c =
    let v = c.each.invariant in
    pieces_err c.list.new.self.cursor c.list.new.self.pairs.items c.args.high _ c.from_residual-in_err-add_list-in-List.result c.args.pieces.now _ c.each.piece-index c.in_err-add_list-in-List.field-0.0 v.same c.each-test.true v.derived.same_open v.complete c.from_residual-in_err-add_list-in-List.ensures.1
    (list_unput c.args.context.returns c.each.self.cursor c.expected.new.self.cursor c.each.built c.expected.new.built c.args.high c.in-List.listed _ c.expected.ensures.text (rw c.in-List.is at c.in_ok-expected.ensures.read) c.open.new.self.cursor c.saturating_sub-limit.result c.in_ok-list-in-List.list c.expected.ensures.same_open c.open.ensures.text c.open.ensures.same_open c.in_ok-list-in-List.ensures.listed c.in_ok-list-in-List.ensures.begun (c.saturating_sub-limit.ensures ∙ ap (λ n. c.args.high - n) c.list_node_height.ensures) c.list.new.self.cursor c.open.new.self.pairs.items c.list.new.self.pairs.items c.in_ok-list-in-List-2.list c.sees_in_or_of-each-in-List.result c.list.ensures.text c.in_ok-list-in-List-2.ensures.complete c.in_ok-list-in-List-2.ensures.same c.in_ok-list-in-List-2.ensures.derived c.sees_in_or_of-each-in-List.ensures.seen c.sees_in_or_of-each-in-List.ensures.missed (IsPlaceHere c.list.new.self.cursor) c.in_err-add_list-in-List.field-0.0 c.in_err-add_list-in-List.ensures.failed)

pub read_symbols-returns-clause-complete : goal.read_symbols-returns-clause-complete
read_symbols-returns-clause-complete t c = let over = c.each-test.false in let end = c.each.auto.piece-index-end in pieces_ok c.args.high c.args.pieces.now c.each.piece-index (omega arith) c.each.invariant.complete

pub function_or_class-returns-in_err-function_or_class_name-clause-complete : goal.function_or_class-returns-in_err-function_or_class_name-clause-complete
function_or_class-returns-in_err-function_or_class_name-clause-complete t c =
    name_refused c.args.self.now.cursor c.function_or_class_name.new.self.cursor c.args.self.now.pairs.items c.function_or_class_name.new.self.pairs.items c.args.high c.saturating_sub-inner.result c.args.closure c.args.start c.from_residual.result c.in_err-function_or_class_name.field-0.0 c.from_residual.ensures.1 c.saturating_sub-inner.ensures c.in_err-function_or_class_name.ensures.unnamed

pub function_or_class-returns-in_err-read_symbols-clause-complete : goal.function_or_class-returns-in_err-read_symbols-clause-complete
function_or_class-returns-in_err-read_symbols-clause-complete t c =
    closure_refused c.args.self.now.cursor c.function_or_class_name.new.self.cursor c.args.self.now.pairs.items c.function_or_class_name.new.self.pairs.items c.args.high c.saturating_sub-inner.result c.args.closure c.args.start _ _ c.of-built.result c.function_or_class_name.ensures.text c.function_or_class_name.ensures.same_open c.function_or_class_name.ensures.same_pairs c.saturating_sub-inner.ensures
    c.in_ok-function_or_class_name.ensures.named (ap (λ b. b.nodes) c.of-built.ensures) c.symbols.ensures c.read_symbols.new.self.cursor c.read_symbols.new.self.pairs.items true c.read_symbols.new.built c.from_residual-in_err-read_symbols.result c.in_err-read_symbols.field-0.0 c.from_residual-in_err-read_symbols.ensures.1 c.in_err-read_symbols.ensures.complete

pub function_or_class-returns-clause-complete : goal.function_or_class-returns-clause-complete
function_or_class-returns-clause-complete t c =
    let made = subst (λ n. Makes n c.args.high c.finish_node.result) (λ i. node (c.kind.ensures i) [] (c.flags.ensures i) (c.span_from-span.ensures i).start (c.span_from-span.ensures i).end c.read_symbols.new.built.nodes) c.finish_node.ensures.made in
    closure_made c.args.self.now.cursor c.function_or_class_name.new.self.cursor c.args.self.now.pairs.items c.function_or_class_name.new.self.pairs.items c.args.high c.saturating_sub-inner.result c.args.closure c.args.start _ _ c.of-built.result c.function_or_class_name.ensures.text c.function_or_class_name.ensures.same_open c.function_or_class_name.ensures.same_pairs c.saturating_sub-inner.ensures
    c.in_ok-function_or_class_name.ensures.named (ap (λ b. b.nodes) c.of-built.ensures) c.symbols.ensures c.read_symbols.new.self.cursor c.read_symbols.new.self.pairs.items true c.read_symbols.new.built c.finish_node.result c.in_ok-read_symbols.ensures.complete made

pub function_or_class-returns-clause-derived : goal.function_or_class-returns-clause-derived
function_or_class-returns-clause-derived t c =
    let made = subst (λ n. Makes n c.args.high c.finish_node.result) (λ i. node (c.kind.ensures i) [] (c.flags.ensures i) (c.span_from-span.ensures i).start (c.span_from-span.ensures i).end c.read_symbols.new.built.nodes) c.finish_node.ensures.made in
    closed c.args.closure true c.args.start c.args.high c.saturating_sub-inner.result c.in_ok-function_or_class_name.field-0 c.of-built.result c.read_symbols.new.built c.finish_node.result c.function_or_class_name.ensures.text c.function_or_class_name.ensures.same_open c.function_or_class_name.ensures.same_pairs
    c.in_ok-function_or_class_name.ensures.named (ap (λ b. b.nodes) c.of-built.ensures) c.symbols.ensures c.in_ok-read_symbols.ensures.derived made

pub function_or_class-returns-clause-own : goal.function_or_class-returns-clause-own
function_or_class-returns-clause-own t c =
    let s = c.args.self.now.cursor in
    let made = subst (λ n. Makes n c.args.high c.finish_node.result) (λ i. node (c.kind.ensures i) [] (c.flags.ensures i) (c.span_from-span.ensures i).start (c.span_from-span.ensures i).end c.read_symbols.new.built.nodes) c.finish_node.ensures.made in
    let named : AllOfLanguage s.text c.of-built.result.nodes = subst (AllOfLanguage s.text) (sym (ap (λ b. b.nodes) c.of-built.ensures)) (named_own c.args.closure c.args.self.now.cursor c.function_or_class_name.new.self.cursor _ c.in_ok-function_or_class_name.field-0 c.in_ok-function_or_class_name.ensures.named) in
    made_own c.args.closure _ _ c.args.high c.read_symbols.new.built.nodes c.finish_node.result (own_on c.function_or_class_name.ensures.text named c.in_ok-read_symbols.ensures.own) made

pub keyword_expression-returns-in_ok-node-in-Function-clause-derived : goal.keyword_expression-returns-in_ok-node-in-Function-clause-derived
keyword_expression-returns-in_ok-node-in-Function-clause-derived t c = function_worded c.args.token c.starred.result c.args.position c.args.opening c.in-Function.is c.starred.ensures.text c.starred.ensures.same_open c.starred.ensures.same_pairs c.starred.ensures.starred c.plain.ensures c.in_ok-node-in-Function.ensures.derived

pub keyword_expression-returns-in_ok-node-in-Class-clause-derived : goal.keyword_expression-returns-in_ok-node-in-Class-clause-derived
keyword_expression-returns-in_ok-node-in-Class-clause-derived t c = class_worded c.args.token c.args.position c.args.opening c.in-Class.is c.plain-in-Class.ensures c.in_ok-node-in-Class.ensures.derived

pub super_expression-returns-clause-derived : goal.super_expression-returns-clause-derived
super_expression-returns-clause-derived t c =
    let unprivate : UnprivateBehind c.args.self.now.cursor.text c.args.self.now.cursor.last =
    elim c.if-is_of_2022.branch [
      | super_expression-then-is_of_2022+in_ok-refuse_private_name w ↦ λ later. w.in_ok-refuse_private_name.ensures.none
      | super_expression-else-is_of_2022 w ↦ λ later. absurd (false≢true (sym w.if-is_of_2022.false ∙ c.is_of_2022.ensures ∙ later))
    ] in
    super_worded c.args.self.now.cursor c.subscript.new.self.cursor c.args.self.now.pairs.items c.subscript.new.self.pairs.items c.args.token c.args.position Super c.accepts_rank.result c.subscript.result refl c.accepts_rank.ensures
    (c.plain.ensures ∙ ap (λ n. plain_part n Primary Other) c.in_ok-node.ensures.made.0) c.if-not-sees_super_continuation.ensures.seen unprivate c.subscript.ensures.derived

pub new_expression-returns-then-accept_punctuator-clause-derived : goal.new_expression-returns-then-accept_punctuator-clause-derived
new_expression-returns-then-accept_punctuator-clause-derived t c =
    target_worded c.args.self.now.cursor c.accept_punctuator.new.self.cursor c.meta_property.new.self.cursor c.args.token c.args.position New c.args.high c.meta_property.result refl c.accept_punctuator.ensures.text (c.meta_property.ensures.same_open ∙ c.accept_punctuator.ensures.same_open)
    (c.meta_property.ensures.same_pairs ∙ c.accept_punctuator.ensures.same_pairs) c.if-accept_punctuator.ensures.accepted c.meta_property.ensures.target

pub new_expression-returns-clause-derived : goal.new_expression-returns-clause-derived
new_expression-returns-clause-derived t c =
    let callee = c.in_ok-callee.callee in
    let first = c.one-nodes.ensures ∙ ap (λ n. part n none) c.in_ok-into_expression.ensures.settled.0 in
    let tail : Adds c.expression.new.self.cursor c.if-sees_punctuator.self.cursor c.expression.new.self.pairs.items c.if-sees_punctuator.self.pairs.items (NewTail c.accept_punctuator.new.self.cursor.text callee.cover.node c.if-sees_punctuator.nodes c.if-sees_punctuator.rank) =
    elim c.if-sees_punctuator.branch [
      | new_expression-then-sees_punctuator+in_ok-arguments+in_ok-append w ↦
          subst (λ v. Adds c.expression.new.self.cursor v.cursor c.expression.new.self.pairs.items v.pairs.items (NewTail c.accept_punctuator.new.self.cursor.text callee.cover.node c.if-sees_punctuator.nodes c.if-sees_punctuator.rank)) (sym w.self-is)
          (tail_with callee.cover.node w.in_ok-arguments.field-0 c.if-sees_punctuator.nodes c.if-sees_punctuator.rank c.expression.ensures.text (w.nodes-is ∙ w.in_ok-append.ensures.joined ∙ ap (λ ps. join ps w.in_ok-arguments.field-0) first) w.rank-is w.if-sees_punctuator.ensures.seen w.in_ok-arguments.ensures.derived)
      | new_expression-else-sees_punctuator w ↦
          subst (λ v. Adds c.expression.new.self.cursor v.cursor c.expression.new.self.pairs.items v.pairs.items (NewTail c.accept_punctuator.new.self.cursor.text callee.cover.node c.if-sees_punctuator.nodes c.if-sees_punctuator.rank)) (sym w.self-is)
          (tail_alone callee.cover.node c.if-sees_punctuator.nodes c.if-sees_punctuator.rank c.expression.ensures.text (w.nodes-is ∙ first) w.rank-is w.if-sees_punctuator.ensures.missed)
    ] in
    let span = c.span_from-span.ensures in
    let tree = c.in_ok-node.ensures.made.0 ∙ (λ i. node NewExpression [] plain (span i).start (span i).end c.if-sees_punctuator.nodes) in
    worded_here c.args.token c.accept_punctuator.ensures.text c.if-accept_punctuator.ensures.missed.1 c.accept_punctuator.ensures.same_open c.accept_punctuator.ensures.same_pairs
    (new_worded c.args.token c.at.result c.args.position New c.if-sees_punctuator.rank c.if-sees_punctuator.nodes refl c.at.ensures c.in_ok-callee.ensures.derived c.in_ok-into_expression.ensures.settled.1 tail (c.plain.ensures ∙ ap (λ n. plain_part n c.if-sees_punctuator.rank Other) tree))

pub import_call-returns-clause-derived : goal.import_call-returns-clause-derived
import_call-returns-clause-derived t c =
    let s = c.args.self.now.cursor in
    let k = c.else-is_of_2022.self.cursor in
    let same_text : k.text ≡ s.text = elim c.else-is_of_2022.branch [ import_call-else-is_of_2022-via-then-is_of_2022+else-accept_punctuator w ↦ ap (λ (v : Parser). v.cursor.text) w.self-is ∙ w.accept_punctuator.ensures.text | import_call-else-is_of_2022-via-else-is_of_2022 w ↦ ap (λ (v : Parser). v.cursor.text) w.self-is ] in
    let same_last : k.last ≡ s.last = elim c.else-is_of_2022.branch [ import_call-else-is_of_2022-via-then-is_of_2022+else-accept_punctuator w ↦ ap (λ (v : Parser). v.cursor.last) w.self-is ∙ w.if-accept_punctuator.ensures.missed.1 | import_call-else-is_of_2022-via-else-is_of_2022 w ↦ ap (λ (v : Parser). v.cursor.last) w.self-is ] in
    let same_open : k.opened ≡ s.opened = elim c.else-is_of_2022.branch [ import_call-else-is_of_2022-via-then-is_of_2022+else-accept_punctuator w ↦ ap (λ (v : Parser). v.cursor.opened) w.self-is ∙ w.accept_punctuator.ensures.same_open | import_call-else-is_of_2022-via-else-is_of_2022 w ↦ ap (λ (v : Parser). v.cursor.opened) w.self-is ] in
    let same_pairs : c.else-is_of_2022.self.pairs.items ≡ c.args.self.now.pairs.items = elim c.else-is_of_2022.branch [ import_call-else-is_of_2022-via-then-is_of_2022+else-accept_punctuator w ↦ ap (λ (v : Parser). v.pairs.items) w.self-is ∙ w.accept_punctuator.ensures.same_pairs | import_call-else-is_of_2022-via-else-is_of_2022 w ↦ ap (λ (v : Parser). v.pairs.items) w.self-is ] in
    let parts = c.one-nodes.ensures ∙ ap (λ n. part n none) c.in_ok-into_expression.ensures.settled.0 in
    let span = c.span_from-span.ensures in
    let tree = c.in_ok-node.ensures.made.0 ∙ (λ i. node ImportExpression [] plain (span i).start (span i).end (parts i)) in
    worded_here c.args.token same_text same_last same_open same_pairs
    (import_worded c.args.token c.args.position Import refl c.expect_punctuator.ensures.text (c.expression.ensures.text ∙ c.expect_punctuator.ensures.text) c.expect_punctuator.ensures.same_open c.expect_punctuator.ensures.same_pairs c.expect_punctuator-2.ensures.same_open c.expect_punctuator-2.ensures.same_pairs
    c.in_ok-expect_punctuator.ensures.accepted.0 c.in_ok-source.ensures.derived c.in_ok-into_expression.ensures.settled.1 c.in_ok-expect_punctuator-2.ensures.accepted.0 (c.plain.ensures ∙ ap (λ n. plain_part n Call Other) tree))

pub keyword_expression-returns-in_err-node-in-Function-clause-complete : goal.keyword_expression-returns-in_err-node-in-Function-clause-complete
keyword_expression-returns-in_err-node-in-Function-clause-complete t c = λ a h o n from to P next coded word g own.
    let s = c.args.self.now.cursor in
    let m = c.starred.new.self.cursor in
    let u = token_of c.args.token in
    let opens = function_coded s.text.language (as_read u) (coded ∙ ap Some c.in-Function.is) in
    let w = word_here s.text u next (ap is_worded opens) in
    let v = function_starred s m (function_given s.text w.read (w.begins ∙ opens) g own) c.starred.ensures.starred in
    let runs = closure_runs v c.starred.ensures.text in
    let inner = given_closure_own v c.starred.ensures.text own in
    let tall = ap height v.tree in
    agrees_on (Room m o (suc (parts_height v.parts)) c.args.high) (Room s o (height n) c.args.high) (FirstWith s c.function_or_class.new.self.cursor c.args.self.now.pairs.items c.function_or_class.new.self.pairs.items a h n to P) c.from_residual.result c.in_err-node-in-Function.field-0.0 c.from_residual.ensures.1
    (c.in_err-node-in-Function.ensures.complete v.parts o to P runs (λ e. cc) inner) (room_part s m c.starred.ensures.same_open (λ low. subst (λ k. k ≤ c.args.high) tall low))

pub keyword_expression-returns-in_ok-node-in-Function-clause-complete : goal.keyword_expression-returns-in_ok-node-in-Function-clause-complete
keyword_expression-returns-in_ok-node-in-Function-clause-complete t c = λ a h o n from to P next coded word g own.
    let s = c.args.self.now.cursor in
    let m = c.starred.new.self.cursor in
    let u = token_of c.args.token in
    let opens = function_coded s.text.language (as_read u) (coded ∙ ap Some c.in-Function.is) in
    let w = word_here s.text u next (ap is_worded opens) in
    let v = function_starred s m (function_given s.text w.read (w.begins ∙ opens) g own) c.starred.ensures.starred in
    let runs = closure_runs v c.starred.ensures.text in
    let inner = given_closure_own v c.starred.ensures.text own in
    let answer = c.in_ok-node-in-Function.ensures.complete v.parts o to P runs (λ e. cc) inner in
    (closure_first v u.start c.in_ok-node-in-Function.node c.plain.result (sym (ap (λ (x : Token). x.start) w.same)) answer.0 c.plain.ensures, ends_behind c.starred.ensures.same_pairs answer.1)

pub keyword_expression-returns-in_err-node-in-Class-clause-complete : goal.keyword_expression-returns-in_err-node-in-Class-clause-complete
keyword_expression-returns-in_err-node-in-Class-clause-complete t c = λ a h o n from to P next coded word g own.
    let s = c.args.self.now.cursor in
    let u = token_of c.args.token in
    let opens = class_coded s.text.language (as_read u) (coded ∙ ap Some c.in-Class.is) in
    let w = word_here s.text u next (ap is_worded opens) in
    let v = class_given s.text w.read (w.begins ∙ opens) g in
    let tall = ap height v.tree in
    agrees_on (Room s o (suc (parts_height v.parts)) c.args.high) (Room s o (height n) c.args.high) (FirstWith s c.function_or_class-in-Class.new.self.cursor c.args.self.now.pairs.items c.function_or_class-in-Class.new.self.pairs.items a h n to P) c.from_residual-in_err-node-in-Class.result c.in_err-node-in-Class.field-0.0 c.from_residual-in_err-node-in-Class.ensures.1
    (c.in_err-node-in-Class.ensures.complete v.parts o to P v.runs (λ e. cc) (given_closure_own v refl own)) (λ room. (room.0, subst (λ k. k ≤ c.args.high) tall room.1))

pub keyword_expression-returns-in_ok-node-in-Class-clause-complete : goal.keyword_expression-returns-in_ok-node-in-Class-clause-complete
keyword_expression-returns-in_ok-node-in-Class-clause-complete t c = λ a h o n from to P next coded word g own.
    let s = c.args.self.now.cursor in
    let u = token_of c.args.token in
    let opens = class_coded s.text.language (as_read u) (coded ∙ ap Some c.in-Class.is) in
    let w = word_here s.text u next (ap is_worded opens) in
    let v = class_given s.text w.read (w.begins ∙ opens) g in
    let answer = c.in_ok-node-in-Class.ensures.complete v.parts o to P v.runs (λ e. cc) (given_closure_own v refl own) in
    (closure_first v u.start c.in_ok-node-in-Class.node c.plain-in-Class.result (sym (ap (λ (x : Token). x.start) w.same)) answer.0 c.plain-in-Class.ensures, answer.1)

pub super_expression-returns-in_err-node-clause-complete : goal.super_expression-returns-in_err-node-clause-complete
super_expression-returns-in_err-node-clause-complete t c = λ a h o n from to P next coded word g own.
    let s = c.args.self.now.cursor in
    let u = token_of c.args.token in
    let opens = super_coded s.text.language (as_read u) coded in
    let w = word_here s.text u next (ap is_worded opens) in
    let v = super_given s.text w.read (w.begins ∙ opens) g in
    let tall = super_low v.1 in
    let less = c.saturating_sub.ensures in
    let above = c.in_err-node.ensures.made in
    agrees_err (Room s o (height n) c.args.high) (FirstWith s s c.args.self.now.pairs.items c.args.self.now.pairs.items a h n to P) c.from_residual-in_err-node.result c.in_err-node.field-0.0 c.from_residual-in_err-node.ensures.1
    (refuses_high (Room s o (height n) c.args.high) 1 c.saturating_sub.result c.in_err-node.field-0.0 above.0 above.1 (λ room. let l = room.1 in omega arith))

pub super_expression-returns-clause-complete : goal.super_expression-returns-clause-complete
super_expression-returns-clause-complete t c = λ a h o n from to P next coded word g own.
    let s = c.args.self.now.cursor in
    let u = token_of c.args.token in
    let opens = super_coded s.text.language (as_read u) coded in
    let w = word_here s.text u next (ap is_worded opens) in
    let v = super_given s.text w.read (w.begins ∙ opens) g in
    super_agrees s c.subscript.new.self.cursor c.args.self.now.pairs.items c.subscript.new.self.pairs.items c.args.high u c.plain.result c.subscript.result (c.plain.ensures ∙ ap (λ n. plain_part n Primary Other) c.in_ok-node.ensures.made.0) w.same c.subscript.ensures.complete v.0 v.1 own

pub new_expression-returns-then-accept_punctuator-clause-complete : goal.new_expression-returns-then-accept_punctuator-clause-complete
new_expression-returns-then-accept_punctuator-clause-complete t c = λ a h o n from to P next coded word g own.
    let s = c.args.self.now.cursor in
    let u = token_of c.args.token in
    let opens = new_coded s.text.language (as_read u) coded in
    let w = word_here s.text u next (ap is_worded opens) in
    let v = new_given_so s.text w.read (w.begins ∙ opens) g in
    target_agrees s c.accept_punctuator.new.self.cursor c.meta_property.new.self.cursor c.args.self.now.pairs.items c.meta_property.new.self.pairs.items c.args.high u c.meta_property.result v.0 v.1 w.same c.accept_punctuator.ensures.text c.if-accept_punctuator.ensures.accepted (c.meta_property.ensures.same_pairs ∙ c.accept_punctuator.ensures.same_pairs) c.meta_property.ensures.target c.meta_property.ensures.no_target

pub new_expression-returns-in_err-callee-clause-complete : goal.new_expression-returns-in_err-callee-clause-complete
new_expression-returns-in_err-callee-clause-complete t c = λ a h o n from to P next coded word g own.
    let s = c.args.self.now.cursor in
    let u = token_of c.args.token in
    let opens = new_coded s.text.language (as_read u) coded in
    let w = word_here s.text u next (ap is_worded opens) in
    let v = new_given_so s.text w.read (w.begins ∙ opens) g in
    let m = c.accept_punctuator.new.self.cursor in
    let k = callee_given v.1 c.if-accept_punctuator.ensures.missed.0 in
    let given = callee_at c.accept_punctuator.ensures.text c.if-accept_punctuator.ensures.missed.1 c.at.ensures k.is k.stopped in
    let low = k.low in
    let less = c.saturating_sub-inner.ensures in
    agrees_on (Room m o (height k.callee) c.saturating_sub-inner.result) (Room s o (height n) c.args.high) (FirstWith s c.expression.new.self.cursor c.args.self.now.pairs.items c.expression.new.self.pairs.items a h n to P) c.from_residual.result c.in_err-callee.field-0.0
    c.from_residual.ensures.1 (c.in_err-callee.ensures.complete as_expression o k.callee k.mid k.A given (callee_own k c.accept_punctuator.ensures.text own)) (room_part s m c.accept_punctuator.ensures.same_open (λ l. omega arith))

pub new_expression-returns-in_err-into_expression-clause-complete : goal.new_expression-returns-in_err-into_expression-clause-complete
new_expression-returns-in_err-into_expression-clause-complete t c = λ a h o n from to P next coded word g own.
    let s = c.args.self.now.cursor in
    let u = token_of c.args.token in
    let opens = new_coded s.text.language (as_read u) coded in
    let w = word_here s.text u next (ap is_worded opens) in
    let v = new_given_so s.text w.read (w.begins ∙ opens) g in
    let m = c.accept_punctuator.new.self.cursor in
    let k = callee_given v.1 c.if-accept_punctuator.ensures.missed.0 in
    let given = callee_at c.accept_punctuator.ensures.text c.if-accept_punctuator.ensures.missed.1 c.at.ensures k.is k.stopped in
    let low = k.low in
    let less = c.saturating_sub-inner.ensures in
    let answer = c.in_ok-callee.ensures.complete as_expression o k.callee k.mid k.A given (callee_own k c.accept_punctuator.ensures.text own) in
    absurd (false≢true (sym c.in_err-into_expression.ensures.settled.1 ∙ answer.0.fits))

pub new_expression-returns-in_err-arguments-clause-complete : goal.new_expression-returns-in_err-arguments-clause-complete
new_expression-returns-in_err-arguments-clause-complete t c = λ a h o n from to P next coded word g own.
    let s = c.args.self.now.cursor in
    let u = token_of c.args.token in
    let opens = new_coded s.text.language (as_read u) coded in
    let w = word_here s.text u next (ap is_worded opens) in
    let v = new_given_so s.text w.read (w.begins ∙ opens) g in
    let m = c.accept_punctuator.new.self.cursor in
    let k = callee_given v.1 c.if-accept_punctuator.ensures.missed.0 in
    let given = callee_at c.accept_punctuator.ensures.text c.if-accept_punctuator.ensures.missed.1 c.at.ensures k.is k.stopped in
    let low = k.low in
    let less = c.saturating_sub-inner.ensures in
    let answer = c.in_ok-callee.ensures.complete as_expression o k.callee k.mid k.A given (callee_own k c.accept_punctuator.ensures.text own) in
    let e = c.expression.new.self.cursor in
    let text_same : e.text ≡ s.text = c.expression.ensures.text ∙ c.accept_punctuator.ensures.text in
    let x = seen_at e text_same answer.1.place c.if-sees_punctuator.ensures.seen in
    let z = with_given k.tail x.1 in
    let lower = z.low in
    agrees_on (Room e o (parts_height z.ps) c.saturating_sub-inner.result) (Room s o (height n) c.args.high) (FirstWith s c.arguments.new.self.cursor c.args.self.now.pairs.items c.arguments.new.self.pairs.items a h n to P) c.from_residual-in_err-arguments.result c.in_err-arguments.field-0.0
    c.from_residual-in_err-arguments.ensures.1 (c.in_err-arguments.ensures.complete z.ps o to z.B (subst (λ i. RunsIn i o (anywhere (arguments z.ps)) z.ps e.last to z.B) (sym text_same) (subst (λ i. RunsIn s.text o (anywhere (arguments z.ps)) z.ps i to z.B) (sym answer.1.place) z.runs)) (with_own z text_same own)) (room_part s e (c.in_ok-callee.ensures.derived.same_open ∙ c.accept_punctuator.ensures.same_open) (λ l. omega arith))

pub new_expression-returns-in_err-append-clause-complete : goal.new_expression-returns-in_err-append-clause-complete
new_expression-returns-in_err-append-clause-complete t c = λ a h o n from to P next coded word g own.
    let s = c.args.self.now.cursor in
    let u = token_of c.args.token in
    let opens = new_coded s.text.language (as_read u) coded in
    let w = word_here s.text u next (ap is_worded opens) in
    let v = new_given_so s.text w.read (w.begins ∙ opens) g in
    agrees_err (Room s o (height n) c.args.high) (FirstWith s c.arguments.new.self.cursor c.args.self.now.pairs.items c.arguments.new.self.pairs.items a h n to P) c.from_residual-in_err-append.result c.in_err-append.field-0.0 c.from_residual-in_err-append.ensures.1
    (refuses_memory (Room s o (height n) c.args.high) c.in_err-append.field-0.0 c.in_err-append.ensures.kept.0)

pub new_expression-returns-in_err-node-clause-complete : goal.new_expression-returns-in_err-node-clause-complete
new_expression-returns-in_err-node-clause-complete t c = λ a h o n from to P next coded word g own.
    let s = c.args.self.now.cursor in
    let u = token_of c.args.token in
    let opens = new_coded s.text.language (as_read u) coded in
    let w0 = word_here s.text u next (ap is_worded opens) in
    let v = new_given_so s.text w0.read (w0.begins ∙ opens) g in
    let m = c.accept_punctuator.new.self.cursor in
    let k = callee_given v.1 c.if-accept_punctuator.ensures.missed.0 in
    let given = callee_at c.accept_punctuator.ensures.text c.if-accept_punctuator.ensures.missed.1 c.at.ensures k.is k.stopped in
    let answer = c.in_ok-callee.ensures.complete as_expression o k.callee k.mid k.A given (callee_own k c.accept_punctuator.ensures.text own) in
    let e = c.expression.new.self.cursor in
    let text_same : e.text ≡ s.text = c.expression.ensures.text ∙ c.accept_punctuator.ensures.text in
    let callee = c.in_ok-callee.callee in
    let first = c.one-nodes.ensures ∙ ap (λ n. part n none) c.in_ok-into_expression.ensures.settled.0 in
    let ends : EndsWith s e c.args.self.now.pairs.items c.expression.new.self.pairs.items k.mid k.A = ends_behind c.accept_punctuator.ensures.same_pairs answer.1 in
    let tail : TailRead h s.last n to s c.if-sees_punctuator.self.cursor c.args.self.now.pairs.items c.if-sees_punctuator.self.pairs.items P c.if-sees_punctuator.nodes c.if-sees_punctuator.rank =
    elim c.if-sees_punctuator.branch [
      | new_expression-then-sees_punctuator+in_ok-arguments+in_ok-append w ↦
          let x = seen_at e text_same answer.1.place w.if-sees_punctuator.ensures.seen in
          let z = with_given k.tail x.1 in
          let args = w.in_ok-arguments.ensures.complete z.ps o to z.B (subst (λ i. RunsIn i o (anywhere (arguments z.ps)) z.ps e.last to z.B) (sym text_same) (subst (λ i. RunsIn s.text o (anywhere (arguments z.ps)) z.ps i to z.B) (sym answer.1.place) z.runs)) (with_own z text_same own) in
          subst (λ v. TailRead h s.last n to s v.cursor c.args.self.now.pairs.items v.pairs.items P c.if-sees_punctuator.nodes c.if-sees_punctuator.rank) (sym w.self-is)
          (tail_read_with z (w.nodes-is ∙ w.in_ok-append.ensures.joined ∙ ap (λ ps. join ps w.in_ok-arguments.field-0) first) answer.0.tree args.0 w.rank-is ends args.1)
      | new_expression-else-sees_punctuator w ↦
          let z = alone_given k.tail (missed_at e text_same answer.1.place w.if-sees_punctuator.ensures.missed) in
          subst (λ v. TailRead h s.last n to s v.cursor c.args.self.now.pairs.items v.pairs.items P c.if-sees_punctuator.nodes c.if-sees_punctuator.rank) (sym w.self-is) (tail_read_alone z (w.nodes-is ∙ first) answer.0.tree w.rank-is ends)
    ] in
    let above = c.in_err-node.ensures.made in
    agrees_err (Room s o (height n) c.args.high) (FirstWith s c.if-sees_punctuator.self.cursor c.args.self.now.pairs.items c.if-sees_punctuator.self.pairs.items a h n to P) c.from_residual-in_err-node.result c.in_err-node.field-0.0 c.from_residual-in_err-node.ensures.1
    (refuses_high (Room s o (height n) c.args.high) (suc (parts_height c.if-sees_punctuator.nodes)) c.args.high c.in_err-node.field-0.0 above.0 above.1 (λ room. tail_low tail room.1))

pub new_expression-returns-clause-complete : goal.new_expression-returns-clause-complete
new_expression-returns-clause-complete t c = λ a h o n from to P next coded word g own.
    let s = c.args.self.now.cursor in
    let u = token_of c.args.token in
    let opens = new_coded s.text.language (as_read u) coded in
    let w0 = word_here s.text u next (ap is_worded opens) in
    let v = new_given_so s.text w0.read (w0.begins ∙ opens) g in
    let m = c.accept_punctuator.new.self.cursor in
    let k = callee_given v.1 c.if-accept_punctuator.ensures.missed.0 in
    let given = callee_at c.accept_punctuator.ensures.text c.if-accept_punctuator.ensures.missed.1 c.at.ensures k.is k.stopped in
    let answer = c.in_ok-callee.ensures.complete as_expression o k.callee k.mid k.A given (callee_own k c.accept_punctuator.ensures.text own) in
    let e = c.expression.new.self.cursor in
    let text_same : e.text ≡ s.text = c.expression.ensures.text ∙ c.accept_punctuator.ensures.text in
    let callee = c.in_ok-callee.callee in
    let first = c.one-nodes.ensures ∙ ap (λ n. part n none) c.in_ok-into_expression.ensures.settled.0 in
    let ends : EndsWith s e c.args.self.now.pairs.items c.expression.new.self.pairs.items k.mid k.A = ends_behind c.accept_punctuator.ensures.same_pairs answer.1 in
    let tail : TailRead h s.last n to s c.if-sees_punctuator.self.cursor c.args.self.now.pairs.items c.if-sees_punctuator.self.pairs.items P c.if-sees_punctuator.nodes c.if-sees_punctuator.rank =
    elim c.if-sees_punctuator.branch [
      | new_expression-then-sees_punctuator+in_ok-arguments+in_ok-append w ↦
          let x = seen_at e text_same answer.1.place w.if-sees_punctuator.ensures.seen in
          let z = with_given k.tail x.1 in
          let args = w.in_ok-arguments.ensures.complete z.ps o to z.B (subst (λ i. RunsIn i o (anywhere (arguments z.ps)) z.ps e.last to z.B) (sym text_same) (subst (λ i. RunsIn s.text o (anywhere (arguments z.ps)) z.ps i to z.B) (sym answer.1.place) z.runs)) (with_own z text_same own) in
          subst (λ v. TailRead h s.last n to s v.cursor c.args.self.now.pairs.items v.pairs.items P c.if-sees_punctuator.nodes c.if-sees_punctuator.rank) (sym w.self-is)
          (tail_read_with z (w.nodes-is ∙ w.in_ok-append.ensures.joined ∙ ap (λ ps. join ps w.in_ok-arguments.field-0) first) answer.0.tree args.0 w.rank-is ends args.1)
      | new_expression-else-sees_punctuator w ↦
          let z = alone_given k.tail (missed_at e text_same answer.1.place w.if-sees_punctuator.ensures.missed) in
          subst (λ v. TailRead h s.last n to s v.cursor c.args.self.now.pairs.items v.pairs.items P c.if-sees_punctuator.nodes c.if-sees_punctuator.rank) (sym w.self-is) (tail_read_alone z (w.nodes-is ∙ first) answer.0.tree w.rank-is ends)
    ] in
    let span = c.span_from-span.ensures in
    let tree = c.in_ok-node.ensures.made.0 ∙ (λ i. node NewExpression [] plain (span i).start (span i).end c.if-sees_punctuator.nodes) in
    (new_first c.in_ok-node.node c.plain.result u.start c.if-sees_punctuator.self.cursor.last.stop c.if-sees_punctuator.nodes tail.ps v.0 tail.tree tail.taken tree (sym (ap (λ (x : Token). x.start) w0.same)) (ap (λ (x : Token). x.stop) tail.ends.place) tail.same c.plain.ensures, tail.ends)

pub import_call-returns-in_err-expect_punctuator-clause-complete : goal.import_call-returns-in_err-expect_punctuator-clause-complete
import_call-returns-in_err-expect_punctuator-clause-complete t c = λ a h o n from to P next coded word g own.
    let s = c.args.self.now.cursor in
    let u = token_of c.args.token in
    let k = c.else-is_of_2022.self.cursor in
    let same_text : k.text ≡ s.text = elim c.else-is_of_2022.branch [ import_call-else-is_of_2022-via-then-is_of_2022+else-accept_punctuator w ↦ ap (λ (v : Parser). v.cursor.text) w.self-is ∙ w.accept_punctuator.ensures.text | import_call-else-is_of_2022-via-else-is_of_2022 w ↦ ap (λ (v : Parser). v.cursor.text) w.self-is ] in
    let same_last : k.last ≡ s.last = elim c.else-is_of_2022.branch [ import_call-else-is_of_2022-via-then-is_of_2022+else-accept_punctuator w ↦ ap (λ (v : Parser). v.cursor.last) w.self-is ∙ w.if-accept_punctuator.ensures.missed.1 | import_call-else-is_of_2022-via-else-is_of_2022 w ↦ ap (λ (v : Parser). v.cursor.last) w.self-is ] in
    let same_open : k.opened ≡ s.opened = elim c.else-is_of_2022.branch [ import_call-else-is_of_2022-via-then-is_of_2022+else-accept_punctuator w ↦ ap (λ (v : Parser). v.cursor.opened) w.self-is ∙ w.accept_punctuator.ensures.same_open | import_call-else-is_of_2022-via-else-is_of_2022 w ↦ ap (λ (v : Parser). v.cursor.opened) w.self-is ] in
    let same_pairs : c.else-is_of_2022.self.pairs.items ≡ c.args.self.now.pairs.items = elim c.else-is_of_2022.branch [ import_call-else-is_of_2022-via-then-is_of_2022+else-accept_punctuator w ↦ ap (λ (v : Parser). v.pairs.items) w.self-is ∙ w.accept_punctuator.ensures.same_pairs | import_call-else-is_of_2022-via-else-is_of_2022 w ↦ ap (λ (v : Parser). v.pairs.items) w.self-is ] in
    let dotless : is_of_2022 s.text.language ≡ true → Misses s.text Punctuator (codes ".") s.last =
    elim c.else-is_of_2022.branch [ import_call-else-is_of_2022-via-then-is_of_2022+else-accept_punctuator w ↦ λ later. w.if-accept_punctuator.ensures.missed.0 | import_call-else-is_of_2022-via-else-is_of_2022 w ↦ λ later. absurd (false≢true (sym w.if-is_of_2022.false ∙ c.is_of_2022.ensures ∙ later)) ] in
    let opens = import_coded s.text.language (as_read u) coded in
    let w = word_here s.text u next (ap is_worded opens) in
    let v = import_called (import_begun s.text w.read (w.begins ∙ opens) g own) dotless in
    absurd (misses_not k same_text same_last c.in_err-expect_punctuator.ensures.missed.0 v.left)

pub import_call-returns-in_err-source-clause-complete : goal.import_call-returns-in_err-source-clause-complete
import_call-returns-in_err-source-clause-complete t c = λ a h o n from to P next coded word g own.
    let s = c.args.self.now.cursor in
    let u = token_of c.args.token in
    let k = c.else-is_of_2022.self.cursor in
    let same_text : k.text ≡ s.text = elim c.else-is_of_2022.branch [ import_call-else-is_of_2022-via-then-is_of_2022+else-accept_punctuator w ↦ ap (λ (v : Parser). v.cursor.text) w.self-is ∙ w.accept_punctuator.ensures.text | import_call-else-is_of_2022-via-else-is_of_2022 w ↦ ap (λ (v : Parser). v.cursor.text) w.self-is ] in
    let same_last : k.last ≡ s.last = elim c.else-is_of_2022.branch [ import_call-else-is_of_2022-via-then-is_of_2022+else-accept_punctuator w ↦ ap (λ (v : Parser). v.cursor.last) w.self-is ∙ w.if-accept_punctuator.ensures.missed.1 | import_call-else-is_of_2022-via-else-is_of_2022 w ↦ ap (λ (v : Parser). v.cursor.last) w.self-is ] in
    let same_open : k.opened ≡ s.opened = elim c.else-is_of_2022.branch [ import_call-else-is_of_2022-via-then-is_of_2022+else-accept_punctuator w ↦ ap (λ (v : Parser). v.cursor.opened) w.self-is ∙ w.accept_punctuator.ensures.same_open | import_call-else-is_of_2022-via-else-is_of_2022 w ↦ ap (λ (v : Parser). v.cursor.opened) w.self-is ] in
    let same_pairs : c.else-is_of_2022.self.pairs.items ≡ c.args.self.now.pairs.items = elim c.else-is_of_2022.branch [ import_call-else-is_of_2022-via-then-is_of_2022+else-accept_punctuator w ↦ ap (λ (v : Parser). v.pairs.items) w.self-is ∙ w.accept_punctuator.ensures.same_pairs | import_call-else-is_of_2022-via-else-is_of_2022 w ↦ ap (λ (v : Parser). v.pairs.items) w.self-is ] in
    let dotless : is_of_2022 s.text.language ≡ true → Misses s.text Punctuator (codes ".") s.last =
    elim c.else-is_of_2022.branch [ import_call-else-is_of_2022-via-then-is_of_2022+else-accept_punctuator w ↦ λ later. w.if-accept_punctuator.ensures.missed.0 | import_call-else-is_of_2022-via-else-is_of_2022 w ↦ λ later. absurd (false≢true (sym w.if-is_of_2022.false ∙ c.is_of_2022.ensures ∙ later)) ] in
    let opens = import_coded s.text.language (as_read u) coded in
    let w = word_here s.text u next (ap is_worded opens) in
    let v = import_called (import_begun s.text w.read (w.begins ∙ opens) g own) dotless in
    let m = c.expect_punctuator.new.self.cursor in
    let m_text : m.text ≡ s.text = c.expect_punctuator.ensures.text ∙ same_text in
    let less = c.saturating_sub-inner.ensures in
    let low = import_low v in
    let at : m.last ≡ v.first = same_mark k same_text same_last c.in_ok-expect_punctuator.ensures.accepted.0 v.left in
    let given = expression_given m_text at refl (λ e. cc) (λ e. cc) v.spelled v.stopped in
    let inner = import_own v m_text own in
    agrees_on (Room m o (height v.source) c.saturating_sub-inner.result) (Room s o (height n) c.args.high) (FirstWith s c.expression.new.self.cursor c.args.self.now.pairs.items c.expression.new.self.pairs.items a h n to P) c.from_residual-in_err-source.result c.in_err-source.field-0.0 c.from_residual-in_err-source.ensures.1
    (c.in_err-source.ensures.complete as_expression o v.source v.mid P given inner) (room_part s m (c.expect_punctuator.ensures.same_open ∙ same_open) (λ l. omega arith))

pub import_call-returns-in_err-into_expression-clause-complete : goal.import_call-returns-in_err-into_expression-clause-complete
import_call-returns-in_err-into_expression-clause-complete t c = λ a h o n from to P next coded word g own.
    let s = c.args.self.now.cursor in
    let u = token_of c.args.token in
    let k = c.else-is_of_2022.self.cursor in
    let same_text : k.text ≡ s.text = elim c.else-is_of_2022.branch [ import_call-else-is_of_2022-via-then-is_of_2022+else-accept_punctuator w ↦ ap (λ (v : Parser). v.cursor.text) w.self-is ∙ w.accept_punctuator.ensures.text | import_call-else-is_of_2022-via-else-is_of_2022 w ↦ ap (λ (v : Parser). v.cursor.text) w.self-is ] in
    let same_last : k.last ≡ s.last = elim c.else-is_of_2022.branch [ import_call-else-is_of_2022-via-then-is_of_2022+else-accept_punctuator w ↦ ap (λ (v : Parser). v.cursor.last) w.self-is ∙ w.if-accept_punctuator.ensures.missed.1 | import_call-else-is_of_2022-via-else-is_of_2022 w ↦ ap (λ (v : Parser). v.cursor.last) w.self-is ] in
    let same_open : k.opened ≡ s.opened = elim c.else-is_of_2022.branch [ import_call-else-is_of_2022-via-then-is_of_2022+else-accept_punctuator w ↦ ap (λ (v : Parser). v.cursor.opened) w.self-is ∙ w.accept_punctuator.ensures.same_open | import_call-else-is_of_2022-via-else-is_of_2022 w ↦ ap (λ (v : Parser). v.cursor.opened) w.self-is ] in
    let same_pairs : c.else-is_of_2022.self.pairs.items ≡ c.args.self.now.pairs.items = elim c.else-is_of_2022.branch [ import_call-else-is_of_2022-via-then-is_of_2022+else-accept_punctuator w ↦ ap (λ (v : Parser). v.pairs.items) w.self-is ∙ w.accept_punctuator.ensures.same_pairs | import_call-else-is_of_2022-via-else-is_of_2022 w ↦ ap (λ (v : Parser). v.pairs.items) w.self-is ] in
    let dotless : is_of_2022 s.text.language ≡ true → Misses s.text Punctuator (codes ".") s.last =
    elim c.else-is_of_2022.branch [ import_call-else-is_of_2022-via-then-is_of_2022+else-accept_punctuator w ↦ λ later. w.if-accept_punctuator.ensures.missed.0 | import_call-else-is_of_2022-via-else-is_of_2022 w ↦ λ later. absurd (false≢true (sym w.if-is_of_2022.false ∙ c.is_of_2022.ensures ∙ later)) ] in
    let opens = import_coded s.text.language (as_read u) coded in
    let w = word_here s.text u next (ap is_worded opens) in
    let v = import_called (import_begun s.text w.read (w.begins ∙ opens) g own) dotless in
    let m = c.expect_punctuator.new.self.cursor in
    let m_text : m.text ≡ s.text = c.expect_punctuator.ensures.text ∙ same_text in
    let less = c.saturating_sub-inner.ensures in
    let low = import_low v in
    let at : m.last ≡ v.first = same_mark k same_text same_last c.in_ok-expect_punctuator.ensures.accepted.0 v.left in
    let given = expression_given m_text at refl (λ e. cc) (λ e. cc) v.spelled v.stopped in
    let inner = import_own v m_text own in
    let answer = c.in_ok-source.ensures.complete as_expression o v.source v.mid P given inner in
    let e = c.expression.new.self.cursor in
    let text_same : e.text ≡ s.text = c.expression.ensures.text ∙ m_text in
    absurd (false≢true (sym c.in_err-into_expression.ensures.settled.1 ∙ answer.0.fits))

pub import_call-returns-in_err-expect_punctuator-2-clause-complete : goal.import_call-returns-in_err-expect_punctuator-2-clause-complete
import_call-returns-in_err-expect_punctuator-2-clause-complete t c = λ a h o n from to P next coded word g own.
    let s = c.args.self.now.cursor in
    let u = token_of c.args.token in
    let k = c.else-is_of_2022.self.cursor in
    let same_text : k.text ≡ s.text = elim c.else-is_of_2022.branch [ import_call-else-is_of_2022-via-then-is_of_2022+else-accept_punctuator w ↦ ap (λ (v : Parser). v.cursor.text) w.self-is ∙ w.accept_punctuator.ensures.text | import_call-else-is_of_2022-via-else-is_of_2022 w ↦ ap (λ (v : Parser). v.cursor.text) w.self-is ] in
    let same_last : k.last ≡ s.last = elim c.else-is_of_2022.branch [ import_call-else-is_of_2022-via-then-is_of_2022+else-accept_punctuator w ↦ ap (λ (v : Parser). v.cursor.last) w.self-is ∙ w.if-accept_punctuator.ensures.missed.1 | import_call-else-is_of_2022-via-else-is_of_2022 w ↦ ap (λ (v : Parser). v.cursor.last) w.self-is ] in
    let same_open : k.opened ≡ s.opened = elim c.else-is_of_2022.branch [ import_call-else-is_of_2022-via-then-is_of_2022+else-accept_punctuator w ↦ ap (λ (v : Parser). v.cursor.opened) w.self-is ∙ w.accept_punctuator.ensures.same_open | import_call-else-is_of_2022-via-else-is_of_2022 w ↦ ap (λ (v : Parser). v.cursor.opened) w.self-is ] in
    let same_pairs : c.else-is_of_2022.self.pairs.items ≡ c.args.self.now.pairs.items = elim c.else-is_of_2022.branch [ import_call-else-is_of_2022-via-then-is_of_2022+else-accept_punctuator w ↦ ap (λ (v : Parser). v.pairs.items) w.self-is ∙ w.accept_punctuator.ensures.same_pairs | import_call-else-is_of_2022-via-else-is_of_2022 w ↦ ap (λ (v : Parser). v.pairs.items) w.self-is ] in
    let dotless : is_of_2022 s.text.language ≡ true → Misses s.text Punctuator (codes ".") s.last =
    elim c.else-is_of_2022.branch [ import_call-else-is_of_2022-via-then-is_of_2022+else-accept_punctuator w ↦ λ later. w.if-accept_punctuator.ensures.missed.0 | import_call-else-is_of_2022-via-else-is_of_2022 w ↦ λ later. absurd (false≢true (sym w.if-is_of_2022.false ∙ c.is_of_2022.ensures ∙ later)) ] in
    let opens = import_coded s.text.language (as_read u) coded in
    let w = word_here s.text u next (ap is_worded opens) in
    let v = import_called (import_begun s.text w.read (w.begins ∙ opens) g own) dotless in
    let m = c.expect_punctuator.new.self.cursor in
    let m_text : m.text ≡ s.text = c.expect_punctuator.ensures.text ∙ same_text in
    let less = c.saturating_sub-inner.ensures in
    let low = import_low v in
    let at : m.last ≡ v.first = same_mark k same_text same_last c.in_ok-expect_punctuator.ensures.accepted.0 v.left in
    let given = expression_given m_text at refl (λ e. cc) (λ e. cc) v.spelled v.stopped in
    let inner = import_own v m_text own in
    let answer = c.in_ok-source.ensures.complete as_expression o v.source v.mid P given inner in
    let e = c.expression.new.self.cursor in
    let text_same : e.text ≡ s.text = c.expression.ensures.text ∙ m_text in
    absurd (misses_not e text_same answer.1.place c.in_err-expect_punctuator-2.ensures.missed.0 v.right)

pub import_call-returns-in_err-node-clause-complete : goal.import_call-returns-in_err-node-clause-complete
import_call-returns-in_err-node-clause-complete t c = λ a h o n from to P next coded word g own.
    let s = c.args.self.now.cursor in
    let u = token_of c.args.token in
    let k = c.else-is_of_2022.self.cursor in
    let same_text : k.text ≡ s.text = elim c.else-is_of_2022.branch [ import_call-else-is_of_2022-via-then-is_of_2022+else-accept_punctuator w ↦ ap (λ (v : Parser). v.cursor.text) w.self-is ∙ w.accept_punctuator.ensures.text | import_call-else-is_of_2022-via-else-is_of_2022 w ↦ ap (λ (v : Parser). v.cursor.text) w.self-is ] in
    let same_last : k.last ≡ s.last = elim c.else-is_of_2022.branch [ import_call-else-is_of_2022-via-then-is_of_2022+else-accept_punctuator w ↦ ap (λ (v : Parser). v.cursor.last) w.self-is ∙ w.if-accept_punctuator.ensures.missed.1 | import_call-else-is_of_2022-via-else-is_of_2022 w ↦ ap (λ (v : Parser). v.cursor.last) w.self-is ] in
    let same_open : k.opened ≡ s.opened = elim c.else-is_of_2022.branch [ import_call-else-is_of_2022-via-then-is_of_2022+else-accept_punctuator w ↦ ap (λ (v : Parser). v.cursor.opened) w.self-is ∙ w.accept_punctuator.ensures.same_open | import_call-else-is_of_2022-via-else-is_of_2022 w ↦ ap (λ (v : Parser). v.cursor.opened) w.self-is ] in
    let same_pairs : c.else-is_of_2022.self.pairs.items ≡ c.args.self.now.pairs.items = elim c.else-is_of_2022.branch [ import_call-else-is_of_2022-via-then-is_of_2022+else-accept_punctuator w ↦ ap (λ (v : Parser). v.pairs.items) w.self-is ∙ w.accept_punctuator.ensures.same_pairs | import_call-else-is_of_2022-via-else-is_of_2022 w ↦ ap (λ (v : Parser). v.pairs.items) w.self-is ] in
    let dotless : is_of_2022 s.text.language ≡ true → Misses s.text Punctuator (codes ".") s.last =
    elim c.else-is_of_2022.branch [ import_call-else-is_of_2022-via-then-is_of_2022+else-accept_punctuator w ↦ λ later. w.if-accept_punctuator.ensures.missed.0 | import_call-else-is_of_2022-via-else-is_of_2022 w ↦ λ later. absurd (false≢true (sym w.if-is_of_2022.false ∙ c.is_of_2022.ensures ∙ later)) ] in
    let opens = import_coded s.text.language (as_read u) coded in
    let w = word_here s.text u next (ap is_worded opens) in
    let v = import_called (import_begun s.text w.read (w.begins ∙ opens) g own) dotless in
    let m = c.expect_punctuator.new.self.cursor in
    let m_text : m.text ≡ s.text = c.expect_punctuator.ensures.text ∙ same_text in
    let less = c.saturating_sub-inner.ensures in
    let low = import_low v in
    let at : m.last ≡ v.first = same_mark k same_text same_last c.in_ok-expect_punctuator.ensures.accepted.0 v.left in
    let given = expression_given m_text at refl (λ e. cc) (λ e. cc) v.spelled v.stopped in
    let inner = import_own v m_text own in
    let answer = c.in_ok-source.ensures.complete as_expression o v.source v.mid P given inner in
    let e = c.expression.new.self.cursor in
    let text_same : e.text ≡ s.text = c.expression.ensures.text ∙ m_text in
    let source : c.in_ok-into_expression.field-0 ≡ v.source = c.in_ok-into_expression.ensures.settled.0 ∙ answer.0.tree in
    let parts = c.one-nodes.ensures ∙ ap (λ n. part n none) source in
    let above = c.in_err-node.ensures.made in
    let tall = ap parts_height parts in
    agrees_err (Room s o (height n) c.args.high) (FirstWith s c.expect_punctuator-2.new.self.cursor c.args.self.now.pairs.items c.expect_punctuator-2.new.self.pairs.items a h n to P) c.from_residual-in_err-node.result c.in_err-node.field-0.0 c.from_residual-in_err-node.ensures.1
    (refuses_high (Room s o (height n) c.args.high) (suc (parts_height c.one-nodes.result)) c.args.high c.in_err-node.field-0.0 above.0 above.1 (λ room. let l = room.1 in omega arith))

pub import_call-returns-clause-complete : goal.import_call-returns-clause-complete
import_call-returns-clause-complete t c = λ a h o n from to P next coded word g own.
    let s = c.args.self.now.cursor in
    let u = token_of c.args.token in
    let k = c.else-is_of_2022.self.cursor in
    let same_text : k.text ≡ s.text = elim c.else-is_of_2022.branch [ import_call-else-is_of_2022-via-then-is_of_2022+else-accept_punctuator w ↦ ap (λ (v : Parser). v.cursor.text) w.self-is ∙ w.accept_punctuator.ensures.text | import_call-else-is_of_2022-via-else-is_of_2022 w ↦ ap (λ (v : Parser). v.cursor.text) w.self-is ] in
    let same_last : k.last ≡ s.last = elim c.else-is_of_2022.branch [ import_call-else-is_of_2022-via-then-is_of_2022+else-accept_punctuator w ↦ ap (λ (v : Parser). v.cursor.last) w.self-is ∙ w.if-accept_punctuator.ensures.missed.1 | import_call-else-is_of_2022-via-else-is_of_2022 w ↦ ap (λ (v : Parser). v.cursor.last) w.self-is ] in
    let same_open : k.opened ≡ s.opened = elim c.else-is_of_2022.branch [ import_call-else-is_of_2022-via-then-is_of_2022+else-accept_punctuator w ↦ ap (λ (v : Parser). v.cursor.opened) w.self-is ∙ w.accept_punctuator.ensures.same_open | import_call-else-is_of_2022-via-else-is_of_2022 w ↦ ap (λ (v : Parser). v.cursor.opened) w.self-is ] in
    let same_pairs : c.else-is_of_2022.self.pairs.items ≡ c.args.self.now.pairs.items = elim c.else-is_of_2022.branch [ import_call-else-is_of_2022-via-then-is_of_2022+else-accept_punctuator w ↦ ap (λ (v : Parser). v.pairs.items) w.self-is ∙ w.accept_punctuator.ensures.same_pairs | import_call-else-is_of_2022-via-else-is_of_2022 w ↦ ap (λ (v : Parser). v.pairs.items) w.self-is ] in
    let dotless : is_of_2022 s.text.language ≡ true → Misses s.text Punctuator (codes ".") s.last =
    elim c.else-is_of_2022.branch [ import_call-else-is_of_2022-via-then-is_of_2022+else-accept_punctuator w ↦ λ later. w.if-accept_punctuator.ensures.missed.0 | import_call-else-is_of_2022-via-else-is_of_2022 w ↦ λ later. absurd (false≢true (sym w.if-is_of_2022.false ∙ c.is_of_2022.ensures ∙ later)) ] in
    let opens = import_coded s.text.language (as_read u) coded in
    let w = word_here s.text u next (ap is_worded opens) in
    let v = import_called (import_begun s.text w.read (w.begins ∙ opens) g own) dotless in
    let m = c.expect_punctuator.new.self.cursor in
    let m_text : m.text ≡ s.text = c.expect_punctuator.ensures.text ∙ same_text in
    let less = c.saturating_sub-inner.ensures in
    let low = import_low v in
    let at : m.last ≡ v.first = same_mark k same_text same_last c.in_ok-expect_punctuator.ensures.accepted.0 v.left in
    let given = expression_given m_text at refl (λ e. cc) (λ e. cc) v.spelled v.stopped in
    let inner = import_own v m_text own in
    let answer = c.in_ok-source.ensures.complete as_expression o v.source v.mid P given inner in
    let e = c.expression.new.self.cursor in
    let text_same : e.text ≡ s.text = c.expression.ensures.text ∙ m_text in
    let source : c.in_ok-into_expression.field-0 ≡ v.source = c.in_ok-into_expression.ensures.settled.0 ∙ answer.0.tree in
    let parts = c.one-nodes.ensures ∙ ap (λ n. part n none) source in
    let last : c.expect_punctuator-2.new.self.cursor.last ≡ to = same_mark e text_same answer.1.place c.in_ok-expect_punctuator-2.ensures.accepted.0 v.right in
    let span = c.span_from-span.ensures in
    let tree = c.in_ok-node.ensures.made.0 ∙ (λ i. node ImportExpression [] plain (span i).start (span i).end (parts i)) in (
      import_first v u.start c.expect_punctuator-2.new.self.cursor.last.stop c.in_ok-node.node c.plain.result v.source (sym (ap (λ (x : Token). x.start) w.same)) (ap (λ (x : Token). x.stop) last) refl tree c.plain.ensures,
      ends_before (ends_behind (c.expect_punctuator.ensures.same_pairs ∙ same_pairs) answer.1) last c.expect_punctuator-2.ensures.same_pairs,
    )

pub keyword_expression-returns-in_default-clause-complete : goal.keyword_expression-returns-in_default-clause-complete
keyword_expression-returns-in_default-clause-complete t c = λ a h o n from to P next coded word g own. other_word c.args.opening word c.in_default.not-Function c.in_default.not-Class c.in_default.not-Super c.in_default.not-New c.in_default.not-Import c.in_default.not-Async c.in_default.not-Yield c.in_default.not-PrivateName

pub statement-returns-in_err-token-clause-complete : goal.statement-returns-in_err-token-clause-complete
statement-returns-in_err-token-clause-complete t c =
    statement_unbegun c.args.self.now.cursor c.args.self.now.cursor c.args.self.now.pairs.items c.args.self.now.pairs.items c.args.high c.args.context c.from_residual.result c.in_err-token.field-0.0 c.from_residual.ensures.1 c.in_err-token.ensures.failed

pub statement-returns-in_err-part-in-Expression-clause-complete : goal.statement-returns-in_err-part-in-Expression-clause-complete
statement-returns-in_err-part-in-Expression-clause-complete t c =
    expression_refused c.args.self.now.cursor c.expression.new.self.cursor c.args.self.now.pairs.items c.expression.new.self.pairs.items c.saturating_sub-inner.result c.args.high c.args.context c.in_ok-token.token c.in_ok-token.ensures.ahead (begun_as c.in-Expression.is c.in_ok-token.ensures.coded) c.saturating_sub-inner.ensures
    c.expression.new.self.cursor c.expression.new.self.pairs.items c.from_residual-in_err-part-in-Expression.result c.in_err-part-in-Expression.field-0.0 c.from_residual-in_err-part-in-Expression.ensures.1 c.in_err-part-in-Expression.ensures.complete

pub statement-returns-then-not-is_label-clause-complete : goal.statement-returns-then-not-is_label-clause-complete
statement-returns-then-not-is_label-clause-complete t c =
    evaluated_given c.args.self.now.cursor c.expression.new.self.cursor c.args.self.now.pairs.items c.expression.new.self.pairs.items c.saturating_sub-inner.result c.args.high c.args.context c.in_ok-token.token c.in_ok-token.ensures.ahead (begun_as c.in-Expression.is c.in_ok-token.ensures.coded) c.saturating_sub-inner.ensures
    c.in_ok-part-in-Expression.part c.expression.ensures.text c.in_ok-part-in-Expression.ensures.complete c.in_ok-part-in-Expression.ensures.derived c.expression_statement.new.self.cursor c.expression_statement.new.self.pairs.items c.expression_statement.result c.if-not-is_label.ensures.no_label c.expression_statement.ensures.same_pairs c.expression_statement.ensures.made
    c.expression_statement.ensures.ends c.expression_statement.ensures.failed

pub statement-returns-in_err-read_symbols-clause-complete : goal.statement-returns-in_err-read_symbols-clause-complete
statement-returns-in_err-read_symbols-clause-complete t c =
    let s = c.args.self.now in
    let t = c.in_ok-token.token in
    let b = c.match-beginning.built in
    let m = c.match-beginning.self in
    let there : MainThere s.cursor m.cursor s.pairs.items m.pairs.items c.args.context t c.match-beginning.what b = elim c.match-beginning.branch [
      | statement-in-OfKind+else-eq w ↦
          own_begun_there s.cursor w.advance.new.self.cursor m.cursor s.pairs.items w.advance.new.self.pairs.items m.pairs.items c.args.context t c.match-beginning.what b (ap (λ v. v.cursor) w.self-is) (ap (λ v. v.pairs.items) w.self-is) c.in_ok-token.ensures.ahead (begun_as (w.in-OfKind.is ∙ ap code.OfKind (sym w.what-is)) c.in_ok-token.ensures.coded)
          (elim w.else-eq.branch [
            | statement-else-eq-via-then-eq+else-sees_await w' ↦ λ loop. w'.if-sees_await.ensures.missed
            | statement-else-eq-via-else-eq w' ↦ λ loop. absurd (no_for w.in-OfKind.what (sym w.eq.ensures ∙ w'.if-eq.false) (sym w.what-is ∙ loop))
          ])
          w.advance.ensures.text w.advance.ensures.last w.advance.ensures.same_open w.advance.ensures.same_pairs (ap (λ d. d.nodes) (w.built-is ∙ c.new-built.ensures)) (ap (λ d. d.edge) (w.built-is ∙ c.new-built.ensures))
      | statement-in-Expression+in_ok-part-in-Expression+else-not-is_label+in_ok-push-in-Expression w ↦
          label_begun_there s.cursor w.expression.new.self.cursor m.cursor s.pairs.items w.expression.new.self.pairs.items m.pairs.items c.saturating_sub-inner.result c.args.high c.args.context t c.match-beginning.what b w.in_ok-part-in-Expression.part (ap (λ v. v.cursor) w.self-is) (ap (λ v. v.pairs.items) w.self-is)
          c.in_ok-token.ensures.ahead (begun_as w.in-Expression.is c.in_ok-token.ensures.coded) c.saturating_sub-inner.ensures w.expression.ensures.text w.in_ok-part-in-Expression.ensures.complete w.in_ok-part-in-Expression.ensures.derived w.what-is w.if-not-is_label.ensures.label
          (ap (λ d. d.nodes) w.built-is ∙ w.in_ok-push-in-Expression.ensures.pushed ∙ ap (λ ps. push ps w.in_ok-part-in-Expression.part.cover.node) (ap (λ d. d.nodes) c.new-built.ensures)) (ap (λ d. d.edge) w.built-is ∙ ap (λ d. d.edge) c.new-built.ensures)
    ] in
    main_refused s.cursor m.cursor s.pairs.items m.pairs.items c.args.context t c.match-beginning.what b there c.args.high c.saturating_sub-inner.result _ c.saturating_sub-inner.ensures c.statement_symbols.ensures c.read_symbols.new.self.cursor _ c.read_symbols.new.self.pairs.items _ c.read_symbols.new.built _ c.in_err-read_symbols.field-0.0
    c.from_residual-in_err-read_symbols.ensures.1 c.in_err-read_symbols.ensures.complete

pub statement-returns-in_err-what-clause-complete : goal.statement-returns-in_err-what-clause-complete
statement-returns-in_err-what-clause-complete t c =
    let s = c.args.self.now in
    let t = c.in_ok-token.token in
    let b = c.match-beginning.built in
    let m = c.match-beginning.self in
    let there : MainThere s.cursor m.cursor s.pairs.items m.pairs.items c.args.context t c.match-beginning.what b = elim c.match-beginning.branch [
      | statement-in-OfKind+else-eq w ↦
          own_begun_there s.cursor w.advance.new.self.cursor m.cursor s.pairs.items w.advance.new.self.pairs.items m.pairs.items c.args.context t c.match-beginning.what b (ap (λ v. v.cursor) w.self-is) (ap (λ v. v.pairs.items) w.self-is) c.in_ok-token.ensures.ahead (begun_as (w.in-OfKind.is ∙ ap code.OfKind (sym w.what-is)) c.in_ok-token.ensures.coded)
          (elim w.else-eq.branch [
            | statement-else-eq-via-then-eq+else-sees_await w' ↦ λ loop. w'.if-sees_await.ensures.missed
            | statement-else-eq-via-else-eq w' ↦ λ loop. absurd (no_for w.in-OfKind.what (sym w.eq.ensures ∙ w'.if-eq.false) (sym w.what-is ∙ loop))
          ])
          w.advance.ensures.text w.advance.ensures.last w.advance.ensures.same_open w.advance.ensures.same_pairs (ap (λ d. d.nodes) (w.built-is ∙ c.new-built.ensures)) (ap (λ d. d.edge) (w.built-is ∙ c.new-built.ensures))
      | statement-in-Expression+in_ok-part-in-Expression+else-not-is_label+in_ok-push-in-Expression w ↦
          label_begun_there s.cursor w.expression.new.self.cursor m.cursor s.pairs.items w.expression.new.self.pairs.items m.pairs.items c.saturating_sub-inner.result c.args.high c.args.context t c.match-beginning.what b w.in_ok-part-in-Expression.part (ap (λ v. v.cursor) w.self-is) (ap (λ v. v.pairs.items) w.self-is)
          c.in_ok-token.ensures.ahead (begun_as w.in-Expression.is c.in_ok-token.ensures.coded) c.saturating_sub-inner.ensures w.expression.ensures.text w.in_ok-part-in-Expression.ensures.complete w.in_ok-part-in-Expression.ensures.derived w.what-is w.if-not-is_label.ensures.label
          (ap (λ d. d.nodes) w.built-is ∙ w.in_ok-push-in-Expression.ensures.pushed ∙ ap (λ ps. push ps w.in_ok-part-in-Expression.part.cover.node) (ap (λ d. d.nodes) c.new-built.ensures)) (ap (λ d. d.edge) w.built-is ∙ ap (λ d. d.edge) c.new-built.ensures)
    ] in
    for_unfollowed {e = c.read_symbols.new.self.cursor} {d = c.read_symbols.new.built} _ _ c.args.high _
    (for_on s.cursor m.cursor s.pairs.items m.pairs.items c.args.context t c.match-beginning.what b there c.args.high c.saturating_sub-inner.result _ c.saturating_sub-inner.ensures c.statement_symbols.ensures c.read_symbols.new.self.cursor c.read_symbols.new.self.pairs.items c.read_symbols.new.built
    (is_for c.match-beginning.what (sym c.eq-2.ensures ∙ c.if-eq-2.true)) c.in_ok-read_symbols.ensures.complete) (c.read_symbols.ensures.text ∙ there.same) c.in_err-what.ensures.unfollowed

pub statement-returns-in_err-read_symbols-2-clause-complete : goal.statement-returns-in_err-read_symbols-2-clause-complete
statement-returns-in_err-read_symbols-2-clause-complete t c =
    let s = c.args.self.now in
    let t = c.in_ok-token.token in
    let b = c.match-beginning.built in
    let m = c.match-beginning.self in
    let there : MainThere s.cursor m.cursor s.pairs.items m.pairs.items c.args.context t c.match-beginning.what b = elim c.match-beginning.branch [
      | statement-in-OfKind+else-eq w ↦
          own_begun_there s.cursor w.advance.new.self.cursor m.cursor s.pairs.items w.advance.new.self.pairs.items m.pairs.items c.args.context t c.match-beginning.what b (ap (λ v. v.cursor) w.self-is) (ap (λ v. v.pairs.items) w.self-is) c.in_ok-token.ensures.ahead (begun_as (w.in-OfKind.is ∙ ap code.OfKind (sym w.what-is)) c.in_ok-token.ensures.coded)
          (elim w.else-eq.branch [
            | statement-else-eq-via-then-eq+else-sees_await w' ↦ λ loop. w'.if-sees_await.ensures.missed
            | statement-else-eq-via-else-eq w' ↦ λ loop. absurd (no_for w.in-OfKind.what (sym w.eq.ensures ∙ w'.if-eq.false) (sym w.what-is ∙ loop))
          ])
          w.advance.ensures.text w.advance.ensures.last w.advance.ensures.same_open w.advance.ensures.same_pairs (ap (λ d. d.nodes) (w.built-is ∙ c.new-built.ensures)) (ap (λ d. d.edge) (w.built-is ∙ c.new-built.ensures))
      | statement-in-Expression+in_ok-part-in-Expression+else-not-is_label+in_ok-push-in-Expression w ↦
          label_begun_there s.cursor w.expression.new.self.cursor m.cursor s.pairs.items w.expression.new.self.pairs.items m.pairs.items c.saturating_sub-inner.result c.args.high c.args.context t c.match-beginning.what b w.in_ok-part-in-Expression.part (ap (λ v. v.cursor) w.self-is) (ap (λ v. v.pairs.items) w.self-is)
          c.in_ok-token.ensures.ahead (begun_as w.in-Expression.is c.in_ok-token.ensures.coded) c.saturating_sub-inner.ensures w.expression.ensures.text w.in_ok-part-in-Expression.ensures.complete w.in_ok-part-in-Expression.ensures.derived w.what-is w.if-not-is_label.ensures.label
          (ap (λ d. d.nodes) w.built-is ∙ w.in_ok-push-in-Expression.ensures.pushed ∙ ap (λ ps. push ps w.in_ok-part-in-Expression.part.cover.node) (ap (λ d. d.nodes) c.new-built.ensures)) (ap (λ d. d.edge) w.built-is ∙ ap (λ d. d.edge) c.new-built.ensures)
    ] in
    for_refused s.cursor c.read_symbols.new.self.cursor s.pairs.items c.read_symbols.new.self.pairs.items c.args.context t c.read_symbols.new.built c.args.high c.saturating_sub-inner.result c.in_ok-what.what _
    (for_on s.cursor m.cursor s.pairs.items m.pairs.items c.args.context t c.match-beginning.what b there c.args.high c.saturating_sub-inner.result _ c.saturating_sub-inner.ensures c.statement_symbols.ensures c.read_symbols.new.self.cursor c.read_symbols.new.self.pairs.items c.read_symbols.new.built
    (is_for c.match-beginning.what (sym c.eq-2.ensures ∙ c.if-eq-2.true)) c.in_ok-read_symbols.ensures.complete) (c.read_symbols.ensures.text ∙ there.same) (c.in_ok-read_symbols.ensures.derived.same_open ∙ there.same_open) c.saturating_sub-inner.ensures c.statement_symbols-then-eq-2.ensures c.in_ok-what.ensures.followed c.read_symbols-then-eq-2.new.self.cursor _ c.read_symbols-then-eq-2.new.self.pairs.items _ c.read_symbols-then-eq-2.new.built _
    c.in_err-read_symbols-2.field-0.0 c.from_residual-in_err-read_symbols-2.ensures.1 c.in_err-read_symbols-2.ensures.complete

pub statement-returns-clause-complete : goal.statement-returns-clause-complete
statement-returns-clause-complete t c =
    let s = c.args.self.now in
    let t = c.in_ok-token.token in
    let b = c.match-beginning.built in
    let m = c.match-beginning.self in
    let there : MainThere s.cursor m.cursor s.pairs.items m.pairs.items c.args.context t c.match-beginning.what b = elim c.match-beginning.branch [
      | statement-in-OfKind+else-eq w ↦
          own_begun_there s.cursor w.advance.new.self.cursor m.cursor s.pairs.items w.advance.new.self.pairs.items m.pairs.items c.args.context t c.match-beginning.what b (ap (λ v. v.cursor) w.self-is) (ap (λ v. v.pairs.items) w.self-is) c.in_ok-token.ensures.ahead (begun_as (w.in-OfKind.is ∙ ap code.OfKind (sym w.what-is)) c.in_ok-token.ensures.coded)
          (elim w.else-eq.branch [
            | statement-else-eq-via-then-eq+else-sees_await w' ↦ λ loop. w'.if-sees_await.ensures.missed
            | statement-else-eq-via-else-eq w' ↦ λ loop. absurd (no_for w.in-OfKind.what (sym w.eq.ensures ∙ w'.if-eq.false) (sym w.what-is ∙ loop))
          ])
          w.advance.ensures.text w.advance.ensures.last w.advance.ensures.same_open w.advance.ensures.same_pairs (ap (λ d. d.nodes) (w.built-is ∙ c.new-built.ensures)) (ap (λ d. d.edge) (w.built-is ∙ c.new-built.ensures))
      | statement-in-Expression+in_ok-part-in-Expression+else-not-is_label+in_ok-push-in-Expression w ↦
          label_begun_there s.cursor w.expression.new.self.cursor m.cursor s.pairs.items w.expression.new.self.pairs.items m.pairs.items c.saturating_sub-inner.result c.args.high c.args.context t c.match-beginning.what b w.in_ok-part-in-Expression.part (ap (λ v. v.cursor) w.self-is) (ap (λ v. v.pairs.items) w.self-is)
          c.in_ok-token.ensures.ahead (begun_as w.in-Expression.is c.in_ok-token.ensures.coded) c.saturating_sub-inner.ensures w.expression.ensures.text w.in_ok-part-in-Expression.ensures.complete w.in_ok-part-in-Expression.ensures.derived w.what-is w.if-not-is_label.ensures.label
          (ap (λ d. d.nodes) w.built-is ∙ w.in_ok-push-in-Expression.ensures.pushed ∙ ap (λ ps. push ps w.in_ok-part-in-Expression.part.cover.node) (ap (λ d. d.nodes) c.new-built.ensures)) (ap (λ d. d.edge) w.built-is ∙ ap (λ d. d.edge) c.new-built.ensures)
    ] in
    let d = c.read_symbols.new.built in
    let word : c.match-what.text.now ≡ headed_text c.if-eq-2.what t.text.now = elim c.match-what.branch [
      | statement-in-Variable w ↦ ap (λ x. x.now) w.text-is ∙ ap (λ h. headed_text h t.text.now) (sym w.in-Variable.is)
      | statement-in_default w ↦ ap (λ x. x.now) w.text-is ∙ no_text c.if-eq-2.what t.text.now w.in_default.not-Variable
    ] in
    let told : TheStatement s.cursor c.if-eq-2.self.cursor s.pairs.items c.if-eq-2.self.pairs.items c.args.context t c.if-eq-2.what c.if-eq-2.built.nodes = elim c.if-eq-2.branch [
      | statement-then-eq-2+in_ok-what+in_ok-read_symbols-2 w ↦
          the_same c.args.context t w.in_ok-what.what c.if-eq-2.what w.read_symbols-then-eq-2.new.built.nodes c.if-eq-2.built.nodes (ap (λ v. v.cursor) w.self-is) (ap (λ v. v.pairs.items) w.self-is) w.what-is (ap (λ k. k.nodes) w.built-is)
          (for_done s.cursor c.read_symbols.new.self.cursor s.pairs.items c.read_symbols.new.self.pairs.items c.args.context t d c.args.high c.saturating_sub-inner.result w.in_ok-what.what _
          (for_on s.cursor m.cursor s.pairs.items m.pairs.items c.args.context t c.match-beginning.what b there c.args.high c.saturating_sub-inner.result _ c.saturating_sub-inner.ensures c.statement_symbols.ensures c.read_symbols.new.self.cursor c.read_symbols.new.self.pairs.items d (is_for c.match-beginning.what (sym c.eq-2.ensures ∙ w.if-eq-2.true)) c.in_ok-read_symbols.ensures.complete)
          (c.read_symbols.ensures.text ∙ there.same) (c.in_ok-read_symbols.ensures.derived.same_open ∙ there.same_open) c.saturating_sub-inner.ensures w.statement_symbols-then-eq-2.ensures w.in_ok-what.ensures.followed w.read_symbols-then-eq-2.new.self.cursor w.read_symbols-then-eq-2.new.self.pairs.items w.read_symbols-then-eq-2.new.built w.in_ok-read_symbols-2.ensures.complete)
      | statement-else-eq-2 w ↦
          the_same c.args.context t c.match-beginning.what c.if-eq-2.what d.nodes c.if-eq-2.built.nodes (ap (λ v. v.cursor) w.self-is) (ap (λ v. v.pairs.items) w.self-is) w.what-is (ap (λ k. k.nodes) w.built-is)
          (main_read s.cursor m.cursor s.pairs.items m.pairs.items c.args.context t c.match-beginning.what b there c.args.high c.saturating_sub-inner.result _ c.saturating_sub-inner.ensures c.statement_symbols.ensures c.read_symbols.new.self.cursor c.read_symbols.new.self.pairs.items d (no_for c.match-beginning.what (sym c.eq-2.ensures ∙ w.if-eq-2.false)) c.in_ok-read_symbols.ensures.complete)
    ] in
    statement_whole s.cursor c.if-eq-2.self.cursor s.pairs.items c.if-eq-2.self.pairs.items c.args.high c.args.context (statement_node_kind c.if-eq-2.what) (headed_text c.if-eq-2.what t.text.now) t.start c.if-eq-2.built.nodes c.finish_node.result
    (subst (λ n. Makes n c.args.high c.finish_node.result) (λ i. node (c.kind.ensures i) (word i) plain (c.span_from-span.ensures i).start (c.span_from-span.ensures i).end c.if-eq-2.built.nodes) c.finish_node.ensures.made) told

pub statement-function_words-requires : goal.statement-function_words-requires
statement-function_words-requires t c = record {
  first = first_word c.args.self.now.cursor c.advance-in-FunctionOrClass.new.self.cursor c.args.context.is_item _ c.in-FunctionOrClass.closure (begun_as c.in-FunctionOrClass.is c.in_ok-token.ensures.coded) c.advance-in-FunctionOrClass.ensures.text (token_of c.in_ok-token.token) c.in_ok-token.ensures.ahead c.advance-in-FunctionOrClass.ensures.last;
}

pub statement-returns-in_err-closure-in-FunctionOrClass-clause-complete : goal.statement-returns-in_err-closure-in-FunctionOrClass-clause-complete
statement-returns-in_err-closure-in-FunctionOrClass-clause-complete t c = λ o n to P d fine own.
    absurd (words_there c.args.self.now.cursor c.advance-in-FunctionOrClass.new.self.cursor c.args.context.is_item _ c.in-FunctionOrClass.closure (begun_as c.in-FunctionOrClass.is c.in_ok-token.ensures.coded) c.advance-in-FunctionOrClass.ensures.text (token_of c.in_ok-token.token) c.in_ok-token.ensures.ahead c.advance-in-FunctionOrClass.ensures.last
    c.in_err-closure-in-FunctionOrClass.ensures.missed)

pub statement-returns-in-FunctionOrClass-clause-complete : goal.statement-returns-in-FunctionOrClass-clause-complete
statement-returns-in-FunctionOrClass-clause-complete t c =
    closure_stated_given c.args.self.now.cursor c.advance-in-FunctionOrClass.new.self.cursor c.function_words.new.self.cursor c.args.context c.in_ok-token.token c.in-FunctionOrClass.closure c.in_ok-closure-in-FunctionOrClass.closure c.in_ok-token.ensures.ahead (begun_as c.in-FunctionOrClass.is c.in_ok-token.ensures.coded)
    c.advance-in-FunctionOrClass.ensures.text c.advance-in-FunctionOrClass.ensures.last c.in_ok-closure-in-FunctionOrClass.ensures.words c.function_or_class.new.self.cursor c.args.self.now.pairs.items c.function_words.new.self.pairs.items c.function_or_class.new.self.pairs.items c.args.high c.function_or_class.result
    (c.function_words.ensures.text ∙ c.advance-in-FunctionOrClass.ensures.text) (c.function_words.ensures.same_open ∙ c.advance-in-FunctionOrClass.ensures.same_open) (c.function_words.ensures.same_pairs ∙ c.advance-in-FunctionOrClass.ensures.same_pairs) c.function_or_class.ensures.complete

pub statement-returns-in-FunctionOrClass-clause-own : goal.statement-returns-in-FunctionOrClass-clause-own
statement-returns-in-FunctionOrClass-clause-own t c =
    closure_own c.args.self.now.cursor c.advance-in-FunctionOrClass.new.self.cursor c.function_words.new.self.cursor c.args.context.is_item _ c.in-FunctionOrClass.closure c.in_ok-closure-in-FunctionOrClass.closure (begun_as c.in-FunctionOrClass.is c.in_ok-token.ensures.coded) c.advance-in-FunctionOrClass.ensures.text
    c.in_ok-closure-in-FunctionOrClass.ensures.words c.function_words.ensures.text c.function_or_class.result c.function_or_class.ensures.own

pub statement-returns-in-FunctionOrClass-clause-derived : goal.statement-returns-in-FunctionOrClass-clause-derived
statement-returns-in-FunctionOrClass-clause-derived t c =
    closure_stated c.args.self.now.cursor c.advance-in-FunctionOrClass.new.self.cursor c.function_words.new.self.cursor c.function_or_class.new.self.cursor c.args.self.now.pairs.items c.function_words.new.self.pairs.items c.function_or_class.new.self.pairs.items c.args.context c.in_ok-token.token c.in-FunctionOrClass.closure
    c.in_ok-closure-in-FunctionOrClass.closure c.function_or_class.result c.in_ok-token.ensures.ahead (begun_as c.in-FunctionOrClass.is c.in_ok-token.ensures.coded) c.advance-in-FunctionOrClass.ensures.text c.advance-in-FunctionOrClass.ensures.last c.in_ok-closure-in-FunctionOrClass.ensures.words
    (c.function_words.ensures.text ∙ c.advance-in-FunctionOrClass.ensures.text) (c.function_words.ensures.same_open ∙ c.advance-in-FunctionOrClass.ensures.same_open) (c.function_words.ensures.same_pairs ∙ c.advance-in-FunctionOrClass.ensures.same_pairs) c.function_or_class.ensures.derived

pub statement-returns-then-sees_await-clause-derived : goal.statement-returns-then-sees_await-clause-derived
statement-returns-then-sees_await-clause-derived t c =
    await_whole c.args.self.now.cursor c.advance.new.self.cursor c.for_await.new.self.cursor c.args.self.now.pairs.items c.advance.new.self.pairs.items c.for_await.new.self.pairs.items c.args.context c.in_ok-token.token c.for_await.result c.in_ok-token.ensures.ahead
    (headed_begins _ headed.For (own_begins (begun_as (c.in-OfKind.is ∙ ap code.OfKind (is_for c.in-OfKind.what (sym c.eq.ensures ∙ c.if-eq.true))) c.in_ok-token.ensures.coded))) c.advance.ensures.text c.advance.ensures.last c.advance.ensures.same_open c.advance.ensures.same_pairs c.for_await.ensures.derived

pub statement-returns-then-sees_await-clause-complete : goal.statement-returns-then-sees_await-clause-complete
statement-returns-then-sees_await-clause-complete t c =
    await_stated_given c.args.self.now.cursor c.advance.new.self.cursor c.args.context c.in_ok-token.token c.in_ok-token.ensures.ahead
    (headed_begins _ headed.For (own_begins (begun_as (c.in-OfKind.is ∙ ap code.OfKind (is_for c.in-OfKind.what (sym c.eq.ensures ∙ c.if-eq.true))) c.in_ok-token.ensures.coded))) c.advance.ensures.text c.advance.ensures.last c.if-sees_await.ensures.seen c.for_await.new.self.cursor c.args.self.now.pairs.items c.advance.new.self.pairs.items c.for_await.new.self.pairs.items c.args.high
    c.for_await.result c.advance.ensures.same_open c.advance.ensures.same_pairs c.for_await.ensures.complete

pub statement-returns-then-not-is_label-clause-own : goal.statement-returns-then-not-is_label-clause-own
statement-returns-then-not-is_label-clause-own t c = evaluated_own _ _ _ c.in_ok-part-in-Expression.part.cover.node c.expression_statement.result c.in_ok-part-in-Expression.ensures.own c.expression_statement.ensures.made

pub statement-returns-clause-own : goal.statement-returns-clause-own
statement-returns-clause-own t c =
    let s = c.args.self.now in
    let t = c.in_ok-token.token in
    let b = c.match-beginning.built in
    let same : c.match-beginning.self.cursor.text ≡ s.cursor.text = elim c.match-beginning.branch [
      | statement-in-OfKind+else-eq w ↦ ap (λ v. v.cursor.text) w.self-is ∙ w.advance.ensures.text
      | statement-in-Expression+in_ok-part-in-Expression+else-not-is_label+in_ok-push-in-Expression w ↦ ap (λ v. v.cursor.text) w.self-is ∙ w.expression.ensures.text
    ] in
    let first : AllOfLanguage s.cursor.text b.nodes = elim c.match-beginning.branch [
      | statement-in-OfKind+else-eq w ↦ subst (AllOfLanguage s.cursor.text) (sym (ap (λ d. d.nodes) (w.built-is ∙ c.new-built.ensures))) of_none
      | statement-in-Expression+in_ok-part-in-Expression+else-not-is_label+in_ok-push-in-Expression w ↦
          subst (AllOfLanguage s.cursor.text) (sym (ap (λ d. d.nodes) w.built-is ∙ w.in_ok-push-in-Expression.ensures.pushed ∙ ap (λ ps. push ps w.in_ok-part-in-Expression.part.cover.node) (ap (λ d. d.nodes) c.new-built.ensures))) (of_part w.in_ok-part-in-Expression.ensures.own of_none)
    ] in
    let second : AllOfLanguage s.cursor.text c.read_symbols.new.built.nodes = own_on same first c.in_ok-read_symbols.ensures.own in
    let third : AllOfLanguage s.cursor.text c.if-eq-2.built.nodes = elim c.if-eq-2.branch [
      | statement-then-eq-2+in_ok-what+in_ok-read_symbols-2 w ↦ subst (AllOfLanguage s.cursor.text) (sym (ap (λ k. k.nodes) w.built-is)) (own_on (c.read_symbols.ensures.text ∙ same) second w.in_ok-read_symbols-2.ensures.own)
      | statement-else-eq-2 w ↦ subst (AllOfLanguage s.cursor.text) (sym (ap (λ k. k.nodes) w.built-is)) second
    ] in
    let word : c.match-what.text.now ≡ headed_text c.if-eq-2.what t.text.now = elim c.match-what.branch [
      | statement-in-Variable w ↦ ap (λ x. x.now) w.text-is ∙ ap (λ h. headed_text h t.text.now) (sym w.in-Variable.is)
      | statement-in_default w ↦ ap (λ x. x.now) w.text-is ∙ no_text c.if-eq-2.what t.text.now w.in_default.not-Variable
    ] in
    statement_own c.if-eq-2.what (headed_text c.if-eq-2.what t.text.now) _ _ c.args.high c.if-eq-2.built.nodes c.finish_node.result third
    (subst (λ n. Makes n c.args.high c.finish_node.result) (λ i. node (c.kind.ensures i) (word i) plain (c.span_from-span.ensures i).start (c.span_from-span.ensures i).end c.if-eq-2.built.nodes) c.finish_node.ensures.made)

pub statement-returns-then-not-is_label-clause-derived : goal.statement-returns-then-not-is_label-clause-derived
statement-returns-then-not-is_label-clause-derived t c =
    evaluated_stated c.args.self.now.cursor c.expression.new.self.cursor c.expression_statement.new.self.cursor c.args.self.now.pairs.items c.expression.new.self.pairs.items c.expression_statement.new.self.pairs.items c.args.context c.in_ok-part-in-Expression.part c.args.high c.expression_statement.result
    c.in_ok-part-in-Expression.ensures.derived c.expression.ensures.text c.expression_statement.ensures.same_open c.expression_statement.ensures.same_pairs c.expression_statement.ensures.made c.expression_statement.ensures.fits c.expression_statement.ensures.ends

pub statement-returns-clause-derived : goal.statement-returns-clause-derived
statement-returns-clause-derived t c =
    let s = c.args.self.now in
    let t = c.in_ok-token.token in
    let d = c.read_symbols.new.built in
    let empty : c.new-built.result.nodes ≡ none = ap (λ b. b.nodes) c.new-built.ensures in
    let closed_edge : c.new-built.result.edge ≡ Closed = ap (λ b. b.edge) c.new-built.ensures in
    let first : Adds s.cursor c.match-beginning.self.cursor s.pairs.items c.match-beginning.self.pairs.items (FirstAt s.cursor.text c.args.context (as_read (token_of t)) c.match-beginning.what c.match-beginning.built.nodes) =
    elim c.match-beginning.branch [
      | statement-in-OfKind+else-eq w ↦
          subst (λ v. Adds s.cursor v.cursor s.pairs.items v.pairs.items (FirstAt s.cursor.text c.args.context (as_read (token_of t)) c.match-beginning.what c.match-beginning.built.nodes)) (sym w.self-is)
          (own_begun c.args.context t c.match-beginning.what c.match-beginning.built.nodes (own_begins (begun_as (w.in-OfKind.is ∙ ap code.OfKind (sym w.what-is)) c.in_ok-token.ensures.coded)) w.advance.ensures.last w.advance.ensures.same_open w.advance.ensures.same_pairs (ap (λ b. b.nodes) w.built-is ∙ empty))
      | statement-in-Expression+in_ok-part-in-Expression+else-not-is_label+in_ok-push-in-Expression w ↦
          subst (λ v. Adds s.cursor v.cursor s.pairs.items v.pairs.items (FirstAt s.cursor.text c.args.context (as_read (token_of t)) c.match-beginning.what c.match-beginning.built.nodes)) (sym w.self-is)
          (label_begun c.args.context (as_read (token_of t)) c.match-beginning.what w.in_ok-part-in-Expression.part c.match-beginning.built.nodes w.in_ok-part-in-Expression.ensures.derived w.if-not-is_label.ensures.label.0 w.if-not-is_label.ensures.label.1 w.what-is
          (ap (λ b. b.nodes) w.built-is ∙ w.in_ok-push-in-Expression.ensures.pushed ∙ ap (λ ps. push ps w.in_ok-part-in-Expression.part.cover.node) empty))
    ] in
    let edge : c.match-beginning.built.edge ≡ Closed = elim c.match-beginning.branch [
      | statement-in-OfKind+else-eq w ↦ ap (λ b. b.edge) w.built-is ∙ closed_edge
      | statement-in-Expression+in_ok-part-in-Expression+else-not-is_label+in_ok-push-in-Expression w ↦ ap (λ b. b.edge) w.built-is ∙ closed_edge
    ] in
    let same : c.match-beginning.self.cursor.text ≡ s.cursor.text = elim c.match-beginning.branch [
      | statement-in-OfKind+else-eq w ↦ ap (λ v. v.cursor.text) w.self-is ∙ w.advance.ensures.text
      | statement-in-Expression+in_ok-part-in-Expression+else-not-is_label+in_ok-push-in-Expression w ↦ ap (λ v. v.cursor.text) w.self-is ∙ w.expression.ensures.text
    ] in
    let once : Adds s.cursor c.read_symbols.new.self.cursor s.pairs.items c.read_symbols.new.self.pairs.items (OnceAt s.cursor.text c.args.context (as_read (token_of t)) c.match-beginning.what d.nodes d.edge) =
    pieces_read c.args.context (as_read (token_of t)) c.match-beginning.what c.match-beginning.built.nodes c.match-beginning.built d first refl edge same c.statement_symbols.ensures c.in_ok-read_symbols.ensures.derived in
    let whole : Adds s.cursor c.if-eq-2.self.cursor s.pairs.items c.if-eq-2.self.pairs.items (λ o x y P. StatementAt s.cursor.text (context_role c.args.context) (node (statement_node_kind c.if-eq-2.what) (headed_text c.if-eq-2.what t.text.now) plain t.start y.stop c.if-eq-2.built.nodes) o x y P) =
    elim c.if-eq-2.branch [
      | statement-then-eq-2+in_ok-what+in_ok-read_symbols-2 w ↦
          subst (λ v. Adds s.cursor v.cursor s.pairs.items v.pairs.items (λ o x y P. StatementAt s.cursor.text (context_role c.args.context) (node (statement_node_kind c.if-eq-2.what) (headed_text c.if-eq-2.what t.text.now) plain t.start y.stop c.if-eq-2.built.nodes) o x y P)) (sym w.self-is)
          (whole_as c.args.context t w.in_ok-what.what c.if-eq-2.what w.read_symbols-then-eq-2.new.built.nodes c.if-eq-2.built.nodes w.what-is (ap (λ b. b.nodes) w.built-is)
          (for_read c.args.context t w.in_ok-what.what d w.read_symbols-then-eq-2.new.built c.in_ok-token.ensures.ahead
          (subst (λ h. Adds s.cursor c.read_symbols.new.self.cursor s.pairs.items c.read_symbols.new.self.pairs.items (OnceAt s.cursor.text c.args.context (as_read (token_of t)) h d.nodes d.edge)) (is_for c.match-beginning.what (sym c.eq-2.ensures ∙ w.if-eq-2.true)) once) w.in_ok-what.ensures.followed
          (c.read_symbols.ensures.text ∙ same) w.statement_symbols-then-eq-2.ensures w.in_ok-read_symbols-2.ensures.derived))
      | statement-else-eq-2 w ↦
          subst (λ v. Adds s.cursor v.cursor s.pairs.items v.pairs.items (λ o x y P. StatementAt s.cursor.text (context_role c.args.context) (node (statement_node_kind c.if-eq-2.what) (headed_text c.if-eq-2.what t.text.now) plain t.start y.stop c.if-eq-2.built.nodes) o x y P)) (sym w.self-is)
          (whole_as c.args.context t c.match-beginning.what c.if-eq-2.what d.nodes c.if-eq-2.built.nodes w.what-is (ap (λ b. b.nodes) w.built-is) (once_read c.args.context t c.match-beginning.what d.nodes d.edge c.in_ok-token.ensures.ahead (no_for c.match-beginning.what (sym c.eq-2.ensures ∙ w.if-eq-2.false)) once))
    ] in
    let word : c.match-what.text.now ≡ headed_text c.if-eq-2.what t.text.now = elim c.match-what.branch [
      | statement-in-Variable w ↦ ap (λ x. x.now) w.text-is ∙ ap (λ h. headed_text h t.text.now) (sym w.in-Variable.is)
      | statement-in_default w ↦ ap (λ x. x.now) w.text-is ∙ no_text c.if-eq-2.what t.text.now w.in_default.not-Variable
    ] in
    statement_made c.args.context (statement_node_kind c.if-eq-2.what) (headed_text c.if-eq-2.what t.text.now) t.start c.args.high c.if-eq-2.built.nodes c.finish_node.result
    (subst (λ n. Makes n c.args.high c.finish_node.result) (λ i. node (c.kind.ensures i) (word i) plain (c.span_from-span.ensures i).start (c.span_from-span.ensures i).end c.if-eq-2.built.nodes) c.finish_node.ensures.made) whole

pub field-returns-in_err-value-clause-complete : goal.field-returns-in_err-value-clause-complete
field-returns-in_err-value-clause-complete t c =
    field_value_refused c.args.self.now.cursor c.expression.new.self.cursor c.args.self.now.pairs.items c.expression.new.self.pairs.items c.args.high c.args.key c.args.is_static c.args.start c.accept_punctuator.new.self.cursor c.if-accept_punctuator.ensures.accepted c.expression.new.self.cursor c.accept_punctuator.new.self.pairs.items c.expression.new.self.pairs.items refl c.accept_punctuator.ensures.text
    c.from_residual.result c.in_err-value.field-0.0 c.from_residual.ensures.1 c.saturating_sub-inner.ensures c.accept_punctuator.ensures.same_open c.in_err-value.ensures.complete

pub field-returns-in_err-into_expression-clause-complete : goal.field-returns-in_err-into_expression-clause-complete
field-returns-in_err-into_expression-clause-complete t c =
    field_unsettled c.args.self.now.cursor c.expression.new.self.cursor c.args.self.now.pairs.items c.expression.new.self.pairs.items c.args.high c.args.key c.args.is_static c.args.start c.accept_punctuator.new.self.cursor c.if-accept_punctuator.ensures.accepted c.expression.new.self.cursor c.accept_punctuator.new.self.pairs.items c.expression.new.self.pairs.items refl c.accept_punctuator.ensures.text
    c.saturating_sub-inner.result c.in_ok-value.value c.in_ok-value.ensures.complete c.expression.new.self.cursor c.from_residual-in_err-into_expression.result c.in_err-into_expression.field-0.0 c.from_residual-in_err-into_expression.ensures.1 c.in_err-into_expression.ensures.settled

pub field-returns-in_err-semicolon-clause-complete : goal.field-returns-in_err-semicolon-clause-complete
field-returns-in_err-semicolon-clause-complete t c =
    let end = c.semicolon.new.self in
    let pairs = c.if-accept_punctuator.self.pairs.items in
    let behind = c.accept_punctuator.new.self.cursor in
    elim c.if-accept_punctuator.branch [
      | field-then-accept_punctuator+in_ok-value+in_ok-into_expression+in_ok-push w ↦
          let r = w.in_ok-value.value in
          let y = w.expression.new.self.cursor in
          field_value_unended c.args.self.now.cursor end c.args.self.now.pairs.items pairs c.args.high c.args.key c.args.is_static c.args.start behind w.if-accept_punctuator.ensures.accepted y c.accept_punctuator.new.self.pairs.items w.expression.new.self.pairs.items refl c.accept_punctuator.ensures.text
          w.saturating_sub-inner.result r w.in_ok-value.ensures.complete w.in_ok-value.ensures.derived.is.part.edge (w.expression.ensures.text ∙ c.accept_punctuator.ensures.text) c.from_residual-in_err-semicolon.result c.in_err-semicolon.field-0.0 c.from_residual-in_err-semicolon.ensures.1
          (λ u d. c.in_err-semicolon.ensures.err.1 u (subst (λ v. EndsAt v.cursor.text c.if-accept_punctuator.ending v.cursor.last u) (sym w.self-is) (subst (λ v. EndsAt y.text v y.last u) (sym w.ending-is) d)))
      | field-else-accept_punctuator+in_ok-push_gap w ↦
          field_unended c.args.self.now.cursor end c.args.self.now.pairs.items pairs c.args.high c.args.key c.args.is_static c.args.start behind c.accept_punctuator.ensures.text w.if-accept_punctuator.ensures.missed.1 w.if-accept_punctuator.ensures.missed.0 c.key_of_field.result c.key_of_field.ensures
          c.from_residual-in_err-semicolon.result c.in_err-semicolon.field-0.0 c.from_residual-in_err-semicolon.ensures.1
          (λ u d. c.in_err-semicolon.ensures.err.1 u (subst (λ v. EndsAt v.cursor.text c.if-accept_punctuator.ending v.cursor.last u) (sym w.self-is) (subst (λ v. EndsAt behind.text v behind.last u) (sym w.ending-is) d)))
    ]

pub field-returns-in_err-node-clause-complete : goal.field-returns-in_err-node-clause-complete
field-returns-in_err-node-clause-complete t c =
    let tree = node PropertyDefinition [] c.property_flags-flags.result c.span_from-span.result.start c.span_from-span.result.end c.if-accept_punctuator.nodes in
    let end = c.semicolon.new.self in
    let pairs = c.if-accept_punctuator.self.pairs.items in
    let behind = c.accept_punctuator.new.self.cursor in
    let key = c.one-nodes.ensures in
    elim c.if-accept_punctuator.branch [
      | field-then-accept_punctuator+in_ok-value+in_ok-into_expression+in_ok-push w ↦
          let r = w.in_ok-value.value in
          let y = w.expression.new.self.cursor in
          let parts = w.nodes-is ∙ w.in_ok-push.ensures.pushed ∙ (λ i. push (key i) (w.in_ok-into_expression.ensures.settled.0 i)) in
          field_value_made c.args.self.now.cursor end c.args.self.now.pairs.items pairs c.args.high c.args.key c.args.is_static c.args.start behind w.if-accept_punctuator.ensures.accepted y c.accept_punctuator.new.self.pairs.items w.expression.new.self.pairs.items refl c.accept_punctuator.ensures.text
          w.saturating_sub-inner.result r w.in_ok-value.ensures.complete w.in_ok-value.ensures.derived.is.part.edge (w.expression.ensures.text ∙ c.accept_punctuator.ensures.text) tree c.from_residual-in_err-node.result c.in_err-node.field-0.0 c.from_residual-in_err-node.ensures.1
          (λ i. node PropertyDefinition [] (c.property_flags-flags.ensures i) c.span_from-span.result.start c.span_from-span.result.end (parts i)) c.in_err-node.ensures.made
      | field-else-accept_punctuator+in_ok-push_gap w ↦
          let parts = w.nodes-is ∙ w.in_ok-push_gap.ensures.pushed ∙ ap push_gap key in
          field_made c.args.self.now.cursor end c.args.self.now.pairs.items pairs c.args.high c.args.key c.args.is_static c.args.start behind c.accept_punctuator.ensures.text w.if-accept_punctuator.ensures.missed.1 w.if-accept_punctuator.ensures.missed.0 c.key_of_field.result c.key_of_field.ensures
          tree c.from_residual-in_err-node.result c.in_err-node.field-0.0 c.from_residual-in_err-node.ensures.1 (λ i. node PropertyDefinition [] (c.property_flags-flags.ensures i) c.span_from-span.result.start c.span_from-span.result.end (parts i)) c.in_err-node.ensures.made
    ]

pub field-returns-clause-derived : goal.field-returns-clause-derived
field-returns-clause-derived t c =
    let span = c.span_from-span.ensures in
    let made = c.in_ok-node.ensures.made.0 ∙ (λ i. node PropertyDefinition [] (c.property_flags-flags.ensures i) (span i).start (span i).end c.if-accept_punctuator.nodes) in
    let it = c.plain.ensures ∙ ap field_item made in
    let behind = c.accept_punctuator.new.self.cursor in
    let key = c.one-nodes.ensures in
    elim c.if-accept_punctuator.branch [
      | field-then-accept_punctuator+in_ok-value+in_ok-into_expression+in_ok-push w ↦
          let n = w.in_ok-into_expression.field-0 in
          let y = w.expression.new.self.cursor in
          let parts = w.nodes-is ∙ w.in_ok-push.ensures.pushed ∙ (λ i. push (key i) n) in
          let ends = subst (λ v. IsEnd y.text v y.last c.semicolon.new.self.last) w.ending-is (subst (λ v. IsEnd v.cursor.text c.if-accept_punctuator.ending v.cursor.last c.semicolon.new.self.last) w.self-is c.in_ok-semicolon.ensures.ok) in
          field_valued c.args.key c.args.is_static c.args.start c.plain.result n c.accept_punctuator.ensures.text c.accept_punctuator.ensures.same_open c.accept_punctuator.ensures.same_pairs w.if-accept_punctuator.ensures.accepted w.expression.ensures.text w.in_ok-value.ensures.derived w.in_ok-into_expression.ensures.settled.0 w.in_ok-into_expression.ensures.settled.1
          (c.semicolon.ensures.same_open ∙ ap (λ v. v.cursor.opened) w.self-is) (ap (λ v. v.pairs.items) w.self-is) ends (it ∙ (λ i. field_item (node PropertyDefinition [] (member_flags c.args.key.computed c.args.is_static Init) c.args.start c.semicolon.new.self.last.stop (parts i))))
      | field-else-accept_punctuator+in_ok-push_gap w ↦
          let parts = w.nodes-is ∙ w.in_ok-push_gap.ensures.pushed ∙ ap push_gap key in
          let ends = subst (λ v. IsEnd behind.text v behind.last c.semicolon.new.self.last) w.ending-is (subst (λ v. IsEnd v.cursor.text c.if-accept_punctuator.ending v.cursor.last c.semicolon.new.self.last) w.self-is c.in_ok-semicolon.ensures.ok) in
          field_alone c.args.key c.args.is_static c.args.start c.plain.result c.key_of_field.result c.accept_punctuator.ensures.text c.accept_punctuator.ensures.same_open c.accept_punctuator.ensures.same_pairs w.if-accept_punctuator.ensures.missed.1 c.key_of_field.ensures
          (c.semicolon.ensures.same_open ∙ ap (λ v. v.cursor.opened) w.self-is) (ap (λ v. v.pairs.items) w.self-is) ends (it ∙ (λ i. field_item (node PropertyDefinition [] (member_flags c.args.key.computed c.args.is_static Init) c.args.start c.semicolon.new.self.last.stop (parts i))))
    ]

pub field-returns-clause-complete : goal.field-returns-clause-complete
field-returns-clause-complete t c =
    let span = c.span_from-span.ensures in
    let made = ap (λ (x : ListItem). x.node) c.plain.ensures ∙ c.in_ok-node.ensures.made.0 ∙ (λ i. node PropertyDefinition [] (c.property_flags-flags.ensures i) (span i).start (span i).end c.if-accept_punctuator.nodes) in
    let end = c.semicolon.new.self in
    let pairs = c.if-accept_punctuator.self.pairs.items in
    let behind = c.accept_punctuator.new.self.cursor in
    let key = c.one-nodes.ensures in
    elim c.if-accept_punctuator.branch [
      | field-then-accept_punctuator+in_ok-value+in_ok-into_expression+in_ok-push w ↦
          let r = w.in_ok-value.value in
          let y = w.expression.new.self.cursor in
          let parts = w.nodes-is ∙ w.in_ok-push.ensures.pushed ∙ (λ i. push (key i) (w.in_ok-into_expression.ensures.settled.0 i)) in
          let ends = subst (λ v. IsEnd y.text v y.last end.last) w.ending-is (subst (λ v. IsEnd v.cursor.text c.if-accept_punctuator.ending v.cursor.last end.last) w.self-is c.in_ok-semicolon.ensures.ok) in
          field_value_answered c.args.self.now.cursor end c.args.self.now.pairs.items pairs c.args.high c.args.key c.args.is_static c.args.start behind w.if-accept_punctuator.ensures.accepted y c.accept_punctuator.new.self.pairs.items w.expression.new.self.pairs.items refl c.accept_punctuator.ensures.text
          w.saturating_sub-inner.result r w.in_ok-value.ensures.complete w.in_ok-value.ensures.derived.is.part.edge (w.expression.ensures.text ∙ c.accept_punctuator.ensures.text) c.plain.result c.accept_punctuator.ensures.same_pairs (ap (λ v. v.pairs.items) w.self-is) ends
          (made ∙ (λ i. node PropertyDefinition [] (member_flags c.args.key.computed c.args.is_static Init) c.args.start end.last.stop (parts i)))
      | field-else-accept_punctuator+in_ok-push_gap w ↦
          let parts = w.nodes-is ∙ w.in_ok-push_gap.ensures.pushed ∙ ap push_gap key in
          let ends = subst (λ v. IsEnd behind.text v behind.last end.last) w.ending-is (subst (λ v. IsEnd v.cursor.text c.if-accept_punctuator.ending v.cursor.last end.last) w.self-is c.in_ok-semicolon.ensures.ok) in
          field_answered c.args.self.now.cursor end c.args.self.now.pairs.items pairs c.args.high c.args.key c.args.is_static c.args.start behind c.accept_punctuator.ensures.text w.if-accept_punctuator.ensures.missed.1 w.if-accept_punctuator.ensures.missed.0 c.key_of_field.result c.key_of_field.ensures
          c.plain.result (ap (λ v. v.pairs.items) w.self-is ∙ c.accept_punctuator.ensures.same_pairs) ends (made ∙ (λ i. node PropertyDefinition [] (member_flags c.args.key.computed c.args.is_static Init) c.args.start end.last.stop (parts i)))
    ]

pub static_block-returns-in_err-expect_punctuator-clause-complete : goal.static_block-returns-in_err-expect_punctuator-clause-complete
static_block-returns-in_err-expect_punctuator-clause-complete t c =
    block_no_brace c.args.self.now.cursor c.expect_punctuator.new.self.cursor c.args.self.now.pairs.items c.expect_punctuator.new.self.pairs.items c.args.high c.requires.ahead c.expect_word.new.self.cursor c.in_ok-expect_word.ensures.accepted.0 c.expect_word.ensures.text c.from_residual-in_err-expect_punctuator.result c.in_err-expect_punctuator.field-0.0 c.from_residual-in_err-expect_punctuator.ensures.1 c.in_err-expect_punctuator.ensures.missed.0

pub static_block-returns-in_err-items-clause-complete : goal.static_block-returns-in_err-items-clause-complete
static_block-returns-in_err-items-clause-complete t c =
    static_items_refused c.args.self.now.cursor c.statements.new.self.cursor c.args.self.now.pairs.items c.statements.new.self.pairs.items c.args.high c.requires.ahead c.expect_word.new.self.cursor c.in_ok-expect_word.ensures.accepted.0 c.expect_word.ensures.text c.expect_punctuator.new.self.cursor c.in_ok-expect_punctuator.ensures.accepted.0 (c.expect_punctuator.ensures.text ∙ c.expect_word.ensures.text)
    c.statements.new.self.cursor c.expect_punctuator.new.self.pairs.items c.statements.new.self.pairs.items c.item-context.result (ap (λ x. x.is_item) c.item-context.ensures) (ap (λ x. x.returns) c.item-context.ensures) (ap (λ x. x.is_prologue) c.item-context.ensures)
    c.from_residual-in_err-items.result c.in_err-items.field-0.0 c.from_residual-in_err-items.ensures.1 c.saturating_sub-inner.ensures (c.expect_punctuator.ensures.same_open ∙ c.expect_word.ensures.same_open) c.in_err-items.ensures.complete

pub static_block-returns-in_err-node-clause-complete : goal.static_block-returns-in_err-node-clause-complete
static_block-returns-in_err-node-clause-complete t c =
    block_made c.args.self.now.cursor c.expect_punctuator-2.new.self.cursor c.args.self.now.pairs.items c.expect_punctuator-2.new.self.pairs.items c.args.high c.requires.ahead c.expect_word.new.self.cursor c.in_ok-expect_word.ensures.accepted.0 c.expect_word.ensures.text c.expect_punctuator.new.self.cursor c.in_ok-expect_punctuator.ensures.accepted.0 (c.expect_punctuator.ensures.text ∙ c.expect_word.ensures.text)
    c.statements.new.self.cursor c.expect_punctuator.new.self.pairs.items c.statements.new.self.pairs.items c.item-context.result (ap (λ x. x.is_item) c.item-context.ensures) (ap (λ x. x.returns) c.item-context.ensures) (ap (λ x. x.is_prologue) c.item-context.ensures)
    c.saturating_sub-inner.result c.in_ok-items.items c.in_ok-items.ensures.complete (c.statements.ensures.text ∙ c.expect_punctuator.ensures.text ∙ c.expect_word.ensures.text) (node StaticBlock [] plain c.span_from-span.result.start c.span_from-span.result.end c.in_ok-items.items) c.from_residual-in_err-node.result c.in_err-node.field-0.0 c.from_residual-in_err-node.ensures.1 refl c.in_err-node.ensures.made

pub static_block-returns-clause-derived : goal.static_block-returns-clause-derived
static_block-returns-clause-derived t c =
    let span = c.span_from-span.ensures in
    let made = c.in_ok-node.ensures.made.0 ∙ (λ i. node StaticBlock [] plain (span i).start (span i).end c.in_ok-items.items) in
    static_block_item c.args.start c.in_ok-items.items c.plain.result c.requires.here c.expect_word.ensures.text c.expect_word.ensures.same_open c.expect_word.ensures.same_pairs c.in_ok-expect_word.ensures.accepted.0 c.expect_punctuator.ensures.text c.expect_punctuator.ensures.same_open c.expect_punctuator.ensures.same_pairs c.in_ok-expect_punctuator.ensures.accepted.0
    (ap (λ x. x.is_item) c.item-context.ensures) (ap (λ x. x.returns) c.item-context.ensures) (ap (λ x. x.is_prologue) c.item-context.ensures) c.statements.ensures.text c.in_ok-items.ensures.derived c.expect_punctuator-2.ensures.same_open c.expect_punctuator-2.ensures.same_pairs c.in_ok-expect_punctuator-2.ensures.accepted.0 (c.plain.ensures ∙ ap field_item made)

pub static_block-returns-clause-complete : goal.static_block-returns-clause-complete
static_block-returns-clause-complete t c =
    block_answered c.args.self.now.cursor c.expect_punctuator-2.new.self.cursor c.args.self.now.pairs.items c.expect_punctuator-2.new.self.pairs.items c.args.high c.requires.ahead c.expect_word.new.self.cursor c.in_ok-expect_word.ensures.accepted.0 c.expect_word.ensures.text c.expect_punctuator.new.self.cursor c.in_ok-expect_punctuator.ensures.accepted.0 (c.expect_punctuator.ensures.text ∙ c.expect_word.ensures.text)
    c.statements.new.self.cursor c.expect_punctuator.new.self.pairs.items c.statements.new.self.pairs.items c.item-context.result (ap (λ x. x.is_item) c.item-context.ensures) (ap (λ x. x.returns) c.item-context.ensures) (ap (λ x. x.is_prologue) c.item-context.ensures)
    c.saturating_sub-inner.result c.in_ok-items.items c.in_ok-items.ensures.complete (c.statements.ensures.text ∙ c.expect_punctuator.ensures.text ∙ c.expect_word.ensures.text) c.plain.result (static_block-returns-clause-derived t c) (c.plain.ensures ∙ ap field_item (sym (ap (λ (x : ListItem). x.node) c.plain.ensures))) c.in_ok-expect_punctuator-2.ensures.accepted.0

pub property_or_member-returns-then-accept_punctuator-clause-derived : goal.property_or_member-returns-then-accept_punctuator-clause-derived
property_or_member-returns-then-accept_punctuator-clause-derived t c =
    let r = c.in_ok-argument.argument in
    let made = c.in_ok-item.ensures.made.0 in
    let shape = c.simple-shape.ensures in
    rest_item c.args.in_class r c.next_start-start.result _ c.if-not-in_class.true c.next_start-start.ensures.starts c.accept_punctuator.ensures.text c.accept_punctuator.ensures.same_open c.accept_punctuator.ensures.same_pairs c.if-accept_punctuator.ensures.accepted c.in_ok-argument.ensures.derived (λ i. record { node = (made i).node; shape = shape i; spreads = (made i).spreads; is_flagged = (made i).is_flagged; edge = (made i).edge })

pub property_or_member-returns-clause-derived : goal.property_or_member-returns-clause-derived
property_or_member-returns-clause-derived t c =
    let start = c.args.self.now.cursor in
    let here = c.else-not-in_class.self.cursor in
    let key = c.in_ok-modifiers.key in
    let words = c.in_ok-modifiers.modifiers in
    let function = c.in_ok-function.function in
    let span = c.span_from-span.ensures in
    let text : here.text ≡ start.text = elim c.else-not-in_class.branch [ property_or_member-else-not-in_class-via-then-not-in_class+else-accept_punctuator w ↦ ap (λ v. v.cursor.text) w.self-is ∙ w.accept_punctuator.ensures.text | property_or_member-else-not-in_class-via-else-not-in_class w ↦ ap (λ v. v.cursor.text) w.self-is ] in
    let opened : here.opened ≡ start.opened = elim c.else-not-in_class.branch [ property_or_member-else-not-in_class-via-then-not-in_class+else-accept_punctuator w ↦ ap (λ v. v.cursor.opened) w.self-is ∙ w.accept_punctuator.ensures.same_open | property_or_member-else-not-in_class-via-else-not-in_class w ↦ ap (λ v. v.cursor.opened) w.self-is ] in
    let same : c.else-not-in_class.self.pairs.items ≡ c.args.self.now.pairs.items = elim c.else-not-in_class.branch [ property_or_member-else-not-in_class-via-then-not-in_class+else-accept_punctuator w ↦ ap (λ v. v.pairs.items) w.self-is ∙ w.accept_punctuator.ensures.same_pairs | property_or_member-else-not-in_class-via-else-not-in_class w ↦ ap (λ v. v.pairs.items) w.self-is ] in
    let stays : here.last ≡ start.last = elim c.else-not-in_class.branch [ property_or_member-else-not-in_class-via-then-not-in_class+else-accept_punctuator w ↦ ap (λ v. v.cursor.last) w.self-is ∙ w.if-accept_punctuator.ensures.missed.1 | property_or_member-else-not-in_class-via-else-not-in_class w ↦ ap (λ v. v.cursor.last) w.self-is ] in
    let tree : c.in_ok-node.node ≡ method_node c.args.in_class words key function c.next_start-start.result c.function_or_class.new.self.cursor.last.stop = c.in_ok-node.ensures.made.0 ∙ (λ i. node (c.method_kind-kind.ensures.kind i) [] (c.method_kind-kind.ensures.flags i) (span i).start (span i).end (c.two-nodes.ensures i)) in
    method_item c.args.in_class words key function c.next_start-start.result c.next_start-from.result c.plain.result c.next_start-start.ensures.starts text opened same stays c.property_name.ensures.text c.in_ok-modifiers.ensures.derived c.next_start-from.ensures.starts c.in_ok-function.ensures.derived (c.plain.ensures ∙ ap (λ n. property_item n value) tree)

pub property_or_member-returns-then-accept_punctuator-clause-own : goal.property_or_member-returns-then-accept_punctuator-clause-own
property_or_member-returns-then-accept_punctuator-clause-own t c =
    spread_owned (ap (λ (x : ListItem). x.node) c.in_ok-item.ensures.made.0) (subst (λ z. OfLanguage z c.in_ok-argument.argument.cover.node) c.accept_punctuator.ensures.text c.in_ok-argument.ensures.own)

pub property_or_member-static_block-requires : goal.property_or_member-static_block-requires
property_or_member-static_block-requires t c =
    let start = c.args.self.now.cursor in
    let here = c.else-not-in_class.self.cursor in
    let text : here.text ≡ start.text = elim c.else-not-in_class.branch [ property_or_member-else-not-in_class-via-then-not-in_class+else-accept_punctuator w ↦ ap (λ v. v.cursor.text) w.self-is ∙ w.accept_punctuator.ensures.text | property_or_member-else-not-in_class-via-else-not-in_class w ↦ ap (λ v. v.cursor.text) w.self-is ] in
    let stays : here.last ≡ start.last = elim c.else-not-in_class.branch [ property_or_member-else-not-in_class-via-then-not-in_class+else-accept_punctuator w ↦ ap (λ v. v.cursor.last) w.self-is ∙ w.if-accept_punctuator.ensures.missed.1 | property_or_member-else-not-in_class-via-else-not-in_class w ↦ ap (λ v. v.cursor.last) w.self-is ] in
    let begins = when_true c.begins_static_block.result c.if-begins_static_block.true c.begins_static_block.ensures.begins in
    (search rules, (block_begins_at start here text stays c.next_start-start.ensures.starts begins, begins))

pub property_or_member-field-requires : goal.property_or_member-field-requires
property_or_member-field-requires t c =
    let of_2022 : is_of_2022 c.property_name.new.self.cursor.text.language ≡ true = elim c.if-not-matches.branch [
      | property_or_member-then-not-matches w ↦ let e : false ≡ true = cc (c.if-not-is_method.true, w.is_method-is) in absurd (false≢true e)
      | property_or_member-else-not-matches w ↦ elim c.if-not-is_of_2022.branch [
        | property_or_member-then-not-is_of_2022 v ↦ let e : false ≡ true = cc (w.if-not-matches.false, v.value-is, v.if-not-is_of_2022.true) in absurd (false≢true e)
        | property_or_member-else-not-is_of_2022 v ↦ elim c.if-in_class-2.branch [
          | property_or_member-then-in_class-2 x ↦ sym x.is_of_2022.ensures ∙ not_untrue x.is_of_2022.result (sym x.value-is ∙ v.if-not-is_of_2022.false)
          | property_or_member-else-in_class-2 x ↦ absurd (false≢true (sym x.if-in_class-2.false ∙ c.in-true.is))
        ]
      ]
    ] in
    (search rules, of_2022)

pub property_or_member-returns-in-true-clause-derived : goal.property_or_member-returns-in-true-clause-derived
property_or_member-returns-in-true-clause-derived t c =
    let start = c.args.self.now.cursor in
    let here = c.else-not-in_class.self.cursor in
    let text : here.text ≡ start.text = elim c.else-not-in_class.branch [ property_or_member-else-not-in_class-via-then-not-in_class+else-accept_punctuator w ↦ ap (λ v. v.cursor.text) w.self-is ∙ w.accept_punctuator.ensures.text | property_or_member-else-not-in_class-via-else-not-in_class w ↦ ap (λ v. v.cursor.text) w.self-is ] in
    let stays : here.last ≡ start.last = elim c.else-not-in_class.branch [ property_or_member-else-not-in_class-via-then-not-in_class+else-accept_punctuator w ↦ ap (λ v. v.cursor.last) w.self-is ∙ w.if-accept_punctuator.ensures.missed.1 | property_or_member-else-not-in_class-via-else-not-in_class w ↦ ap (λ v. v.cursor.last) w.self-is ] in
    let opened : here.opened ≡ start.opened = elim c.else-not-in_class.branch [ property_or_member-else-not-in_class-via-then-not-in_class+else-accept_punctuator w ↦ ap (λ v. v.cursor.opened) w.self-is ∙ w.accept_punctuator.ensures.same_open | property_or_member-else-not-in_class-via-else-not-in_class w ↦ ap (λ v. v.cursor.opened) w.self-is ] in
    let same : c.else-not-in_class.self.pairs.items ≡ c.args.self.now.pairs.items = elim c.else-not-in_class.branch [ property_or_member-else-not-in_class-via-then-not-in_class+else-accept_punctuator w ↦ ap (λ v. v.pairs.items) w.self-is ∙ w.accept_punctuator.ensures.same_pairs | property_or_member-else-not-in_class-via-else-not-in_class w ↦ ap (λ v. v.pairs.items) w.self-is ] in
    let plain : (c.in_ok-modifiers.modifiers.form ≡ Method) × Misses c.property_name.new.self.cursor.text Punctuator (codes "(") c.property_name.new.self.cursor.last = elim c.if-not-matches.branch [
      | property_or_member-then-not-matches w ↦ let e : false ≡ true = cc (c.if-not-is_method.true, w.is_method-is) in absurd (false≢true e)
      | property_or_member-else-not-matches w ↦ elim c.if-not-is_of_2022.branch [
        | property_or_member-then-not-is_of_2022 v ↦ let e : false ≡ true = cc (w.if-not-matches.false, v.value-is, v.if-not-is_of_2022.true) in absurd (false≢true e)
        | property_or_member-else-not-is_of_2022 v ↦ elim v.match-matches.branch [
          | property_or_member-in-Method u ↦ (u.in-Method.is, when_false w.sees_punctuator-is_method.result (sym w.is_method-is ∙ c.if-not-is_method.true) w.sees_punctuator-is_method.ensures.missed)
          | property_or_member-in_default u ↦ let e : false ≡ true = cc (w.if-not-matches.false, v.value-is, ap not u.matches-is) in absurd (false≢true e)
        ]
      ]
    ] in
    map_ok c.field.result (λ item d. class_field_item c.args.in_class c.in_ok-modifiers.modifiers c.in_ok-modifiers.key c.next_start-start.result item c.in-true.is plain.0 c.next_start-start.ensures.starts text opened same stays c.property_name.ensures.text c.in_ok-modifiers.ensures.derived d) c.field.ensures.derived

pub property_or_member-returns-in-false-clause-derived : goal.property_or_member-returns-in-false-clause-derived
property_or_member-returns-in-false-clause-derived t c =
    let start = c.args.self.now.cursor in
    let here = c.else-not-in_class.self.cursor in
    let text : here.text ≡ start.text = elim c.else-not-in_class.branch [ property_or_member-else-not-in_class-via-then-not-in_class+else-accept_punctuator w ↦ ap (λ v. v.cursor.text) w.self-is ∙ w.accept_punctuator.ensures.text | property_or_member-else-not-in_class-via-else-not-in_class w ↦ ap (λ v. v.cursor.text) w.self-is ] in
    let stays : here.last ≡ start.last = elim c.else-not-in_class.branch [ property_or_member-else-not-in_class-via-then-not-in_class+else-accept_punctuator w ↦ ap (λ v. v.cursor.last) w.self-is ∙ w.if-accept_punctuator.ensures.missed.1 | property_or_member-else-not-in_class-via-else-not-in_class w ↦ ap (λ v. v.cursor.last) w.self-is ] in
    let opened : here.opened ≡ start.opened = elim c.else-not-in_class.branch [ property_or_member-else-not-in_class-via-then-not-in_class+else-accept_punctuator w ↦ ap (λ v. v.cursor.opened) w.self-is ∙ w.accept_punctuator.ensures.same_open | property_or_member-else-not-in_class-via-else-not-in_class w ↦ ap (λ v. v.cursor.opened) w.self-is ] in
    let same : c.else-not-in_class.self.pairs.items ≡ c.args.self.now.pairs.items = elim c.else-not-in_class.branch [ property_or_member-else-not-in_class-via-then-not-in_class+else-accept_punctuator w ↦ ap (λ v. v.pairs.items) w.self-is ∙ w.accept_punctuator.ensures.same_pairs | property_or_member-else-not-in_class-via-else-not-in_class w ↦ ap (λ v. v.pairs.items) w.self-is ] in
    let plain : (c.in_ok-modifiers.modifiers.form ≡ Method) × Misses c.property_name.new.self.cursor.text Punctuator (codes "(") c.property_name.new.self.cursor.last = elim c.if-not-matches.branch [
      | property_or_member-then-not-matches w ↦ let e : false ≡ true = cc (c.if-not-is_method.true, w.is_method-is) in absurd (false≢true e)
      | property_or_member-else-not-matches w ↦ elim c.if-not-is_of_2022.branch [
        | property_or_member-then-not-is_of_2022 v ↦ let e : false ≡ true = cc (w.if-not-matches.false, v.value-is, v.if-not-is_of_2022.true) in absurd (false≢true e)
        | property_or_member-else-not-is_of_2022 v ↦ elim v.match-matches.branch [
          | property_or_member-in-Method u ↦ (u.in-Method.is, when_false w.sees_punctuator-is_method.result (sym w.is_method-is ∙ c.if-not-is_method.true) w.sees_punctuator-is_method.ensures.missed)
          | property_or_member-in_default u ↦ let e : false ≡ true = cc (w.if-not-matches.false, v.value-is, ap not u.matches-is) in absurd (false≢true e)
        ]
      ]
    ] in
    map_ok c.property_value.result (λ item d. value_item c.args.in_class c.in_ok-modifiers.modifiers c.in_ok-modifiers.key c.next_start-start.result item c.in-false.is plain.0 c.next_start-start.ensures.starts text opened same stays c.property_name.ensures.text c.in_ok-modifiers.ensures.derived d) c.property_value.ensures.derived

pub property_or_member-returns-clause-own : goal.property_or_member-returns-clause-own
property_or_member-returns-clause-own t c =
    let start = c.args.self.now.cursor in
    let here = c.else-not-in_class.self.cursor in
    let text : here.text ≡ start.text = elim c.else-not-in_class.branch [ property_or_member-else-not-in_class-via-then-not-in_class+else-accept_punctuator w ↦ ap (λ v. v.cursor.text) w.self-is ∙ w.accept_punctuator.ensures.text | property_or_member-else-not-in_class-via-else-not-in_class w ↦ ap (λ v. v.cursor.text) w.self-is ] in
    let stays : here.last ≡ start.last = elim c.else-not-in_class.branch [ property_or_member-else-not-in_class-via-then-not-in_class+else-accept_punctuator w ↦ ap (λ v. v.cursor.last) w.self-is ∙ w.if-accept_punctuator.ensures.missed.1 | property_or_member-else-not-in_class-via-else-not-in_class w ↦ ap (λ v. v.cursor.last) w.self-is ] in
    let words = c.in_ok-modifiers.modifiers in
    let key = subst (λ z. OfLanguage z c.in_ok-modifiers.key.node) text c.in_ok-modifiers.ensures.own in
    let function = subst (λ z. OfLanguage z c.in_ok-function.function) (c.property_name.ensures.text ∙ text) (c.in_ok-function.ensures.own (method_language c.property_name.new.self.cursor.text words.form (subst (λ z. FormOfLanguage z words.form) (sym c.property_name.ensures.text) c.in_ok-modifiers.ensures.form))) in
    method_owned c.args.in_class words.form words.is_static c.in_ok-modifiers.key.is_constructor (ap (λ (x : ListItem). x.node) c.plain.ensures ∙ c.in_ok-node.ensures.made.0 ∙ (λ i. node (c.method_kind-kind.ensures.kind i) [] (c.method_kind-kind.ensures.flags i) c.span_from-span.result.start c.span_from-span.result.end (c.two-nodes.ensures i))) key function

pub property_or_member-returns-in-true-clause-complete : goal.property_or_member-returns-in-true-clause-complete
property_or_member-returns-in-true-clause-complete t c =
    let start = c.args.self.now.cursor in
    let here = c.else-not-in_class.self.cursor in
    let text : here.text ≡ start.text = elim c.else-not-in_class.branch [ property_or_member-else-not-in_class-via-then-not-in_class+else-accept_punctuator w ↦ ap (λ v. v.cursor.text) w.self-is ∙ w.accept_punctuator.ensures.text | property_or_member-else-not-in_class-via-else-not-in_class w ↦ ap (λ v. v.cursor.text) w.self-is ] in
    let stays : here.last ≡ start.last = elim c.else-not-in_class.branch [ property_or_member-else-not-in_class-via-then-not-in_class+else-accept_punctuator w ↦ ap (λ v. v.cursor.last) w.self-is ∙ w.if-accept_punctuator.ensures.missed.1 | property_or_member-else-not-in_class-via-else-not-in_class w ↦ ap (λ v. v.cursor.last) w.self-is ] in
    let opened : here.opened ≡ start.opened = elim c.else-not-in_class.branch [ property_or_member-else-not-in_class-via-then-not-in_class+else-accept_punctuator w ↦ ap (λ v. v.cursor.opened) w.self-is ∙ w.accept_punctuator.ensures.same_open | property_or_member-else-not-in_class-via-else-not-in_class w ↦ ap (λ v. v.cursor.opened) w.self-is ] in
    let no_dots : (c.args.in_class ≡ true) ⊎ Misses start.text Punctuator (codes "...") start.last = elim c.else-not-in_class.branch [ property_or_member-else-not-in_class-via-then-not-in_class+else-accept_punctuator w ↦ inr w.if-accept_punctuator.ensures.missed.0 | property_or_member-else-not-in_class-via-else-not-in_class w ↦ inl w.if-not-in_class.false ] in
    let no_block : c.args.in_class ≡ true → BeginsStaticBlock start.text start.last → ⊥ = λ k. elim c.else-in_class.branch [
      | property_or_member-else-in_class-via-then-in_class+else-begins_static_block w ↦ unbegun start here text stays (when_false w.begins_static_block.result w.if-begins_static_block.false w.begins_static_block.ensures.other)
      | property_or_member-else-in_class-via-else-in_class w ↦ absurd (false≢true (sym w.if-in_class.false ∙ k))
    ] in
    let plain : (c.in_ok-modifiers.modifiers.form ≡ Method) × Misses c.property_name.new.self.cursor.text Punctuator (codes "(") c.property_name.new.self.cursor.last = elim c.if-not-matches.branch [
      | property_or_member-then-not-matches w ↦ let e : false ≡ true = cc (c.if-not-is_method.true, w.is_method-is) in absurd (false≢true e)
      | property_or_member-else-not-matches w ↦ elim c.if-not-is_of_2022.branch [
        | property_or_member-then-not-is_of_2022 v ↦ let e : false ≡ true = cc (w.if-not-matches.false, v.value-is, v.if-not-is_of_2022.true) in absurd (false≢true e)
        | property_or_member-else-not-is_of_2022 v ↦ elim v.match-matches.branch [
          | property_or_member-in-Method u ↦ (u.in-Method.is, when_false w.sees_punctuator-is_method.result (sym w.is_method-is ∙ c.if-not-is_method.true) w.sees_punctuator-is_method.ensures.missed)
          | property_or_member-in_default u ↦ let e : false ≡ true = cc (w.if-not-matches.false, v.value-is, ap not u.matches-is) in absurd (false≢true e)
        ]
      ]
    ] in
    let m_text = c.property_name.ensures.text ∙ text in
    let facts = map_ok c.field.result (λ item d. (ap (λ (x : ListItem). x.shape) d.is.plain, ap (λ (x : ListItem). x.spreads) d.is.plain)) c.field.ensures.derived in
    definition_field c.args.self.now.cursor c.field.new.self.cursor c.args.self.now.pairs.items c.field.new.self.pairs.items c.args.high c.args.in_class here text opened stays no_dots no_block c.property_name.new.self.cursor c.else-not-in_class.self.pairs.items c.property_name.new.self.pairs.items c.saturating_sub-inner.ensures c.in_ok-modifiers.modifiers c.in_ok-modifiers.key c.in_ok-modifiers.ensures.complete m_text (c.in_ok-modifiers.ensures.derived.same_open ∙ opened) c.field.result c.next_start-start.result (property_or_member-returns-in-true-clause-derived t c) facts c.in-true.is plain.0 plain.1 c.in_ok-modifiers.ensures.low (λ h. (c.in_ok-modifiers.ensures.derived.is.key.computed h).0) c.field.ensures.complete

pub property_or_member-returns-in-false-clause-complete : goal.property_or_member-returns-in-false-clause-complete
property_or_member-returns-in-false-clause-complete t c =
    let start = c.args.self.now.cursor in
    let here = c.else-not-in_class.self.cursor in
    let text : here.text ≡ start.text = elim c.else-not-in_class.branch [ property_or_member-else-not-in_class-via-then-not-in_class+else-accept_punctuator w ↦ ap (λ v. v.cursor.text) w.self-is ∙ w.accept_punctuator.ensures.text | property_or_member-else-not-in_class-via-else-not-in_class w ↦ ap (λ v. v.cursor.text) w.self-is ] in
    let stays : here.last ≡ start.last = elim c.else-not-in_class.branch [ property_or_member-else-not-in_class-via-then-not-in_class+else-accept_punctuator w ↦ ap (λ v. v.cursor.last) w.self-is ∙ w.if-accept_punctuator.ensures.missed.1 | property_or_member-else-not-in_class-via-else-not-in_class w ↦ ap (λ v. v.cursor.last) w.self-is ] in
    let opened : here.opened ≡ start.opened = elim c.else-not-in_class.branch [ property_or_member-else-not-in_class-via-then-not-in_class+else-accept_punctuator w ↦ ap (λ v. v.cursor.opened) w.self-is ∙ w.accept_punctuator.ensures.same_open | property_or_member-else-not-in_class-via-else-not-in_class w ↦ ap (λ v. v.cursor.opened) w.self-is ] in
    let no_dots : (c.args.in_class ≡ true) ⊎ Misses start.text Punctuator (codes "...") start.last = elim c.else-not-in_class.branch [ property_or_member-else-not-in_class-via-then-not-in_class+else-accept_punctuator w ↦ inr w.if-accept_punctuator.ensures.missed.0 | property_or_member-else-not-in_class-via-else-not-in_class w ↦ inl w.if-not-in_class.false ] in
    let no_block : c.args.in_class ≡ true → BeginsStaticBlock start.text start.last → ⊥ = λ k. elim c.else-in_class.branch [
      | property_or_member-else-in_class-via-then-in_class+else-begins_static_block w ↦ unbegun start here text stays (when_false w.begins_static_block.result w.if-begins_static_block.false w.begins_static_block.ensures.other)
      | property_or_member-else-in_class-via-else-in_class w ↦ absurd (false≢true (sym w.if-in_class.false ∙ k))
    ] in
    let plain : (c.in_ok-modifiers.modifiers.form ≡ Method) × Misses c.property_name.new.self.cursor.text Punctuator (codes "(") c.property_name.new.self.cursor.last = elim c.if-not-matches.branch [
      | property_or_member-then-not-matches w ↦ let e : false ≡ true = cc (c.if-not-is_method.true, w.is_method-is) in absurd (false≢true e)
      | property_or_member-else-not-matches w ↦ elim c.if-not-is_of_2022.branch [
        | property_or_member-then-not-is_of_2022 v ↦ let e : false ≡ true = cc (w.if-not-matches.false, v.value-is, v.if-not-is_of_2022.true) in absurd (false≢true e)
        | property_or_member-else-not-is_of_2022 v ↦ elim v.match-matches.branch [
          | property_or_member-in-Method u ↦ (u.in-Method.is, when_false w.sees_punctuator-is_method.result (sym w.is_method-is ∙ c.if-not-is_method.true) w.sees_punctuator-is_method.ensures.missed)
          | property_or_member-in_default u ↦ let e : false ≡ true = cc (w.if-not-matches.false, v.value-is, ap not u.matches-is) in absurd (false≢true e)
        ]
      ]
    ] in
    let m_text = c.property_name.ensures.text ∙ text in
    definition_value c.args.self.now.cursor c.property_value.new.self.cursor c.args.self.now.pairs.items c.property_value.new.self.pairs.items c.args.high c.args.in_class here text opened stays no_dots no_block c.property_name.new.self.cursor c.else-not-in_class.self.pairs.items c.property_name.new.self.pairs.items c.saturating_sub-inner.ensures c.in_ok-modifiers.modifiers c.in_ok-modifiers.key c.in_ok-modifiers.ensures.complete m_text (c.in_ok-modifiers.ensures.derived.same_open ∙ opened) c.property_value.result (property_or_member-returns-in-false-clause-derived t c) c.in-false.is plain.0 plain.1 c.in_ok-modifiers.ensures.low c.property_value.ensures.complete

pub property_or_member-returns-in_err-modifiers-clause-complete : goal.property_or_member-returns-in_err-modifiers-clause-complete
property_or_member-returns-in_err-modifiers-clause-complete t c =
    let start = c.args.self.now.cursor in
    let here = c.else-not-in_class.self.cursor in
    let text : here.text ≡ start.text = elim c.else-not-in_class.branch [ property_or_member-else-not-in_class-via-then-not-in_class+else-accept_punctuator w ↦ ap (λ v. v.cursor.text) w.self-is ∙ w.accept_punctuator.ensures.text | property_or_member-else-not-in_class-via-else-not-in_class w ↦ ap (λ v. v.cursor.text) w.self-is ] in
    let stays : here.last ≡ start.last = elim c.else-not-in_class.branch [ property_or_member-else-not-in_class-via-then-not-in_class+else-accept_punctuator w ↦ ap (λ v. v.cursor.last) w.self-is ∙ w.if-accept_punctuator.ensures.missed.1 | property_or_member-else-not-in_class-via-else-not-in_class w ↦ ap (λ v. v.cursor.last) w.self-is ] in
    let opened : here.opened ≡ start.opened = elim c.else-not-in_class.branch [ property_or_member-else-not-in_class-via-then-not-in_class+else-accept_punctuator w ↦ ap (λ v. v.cursor.opened) w.self-is ∙ w.accept_punctuator.ensures.same_open | property_or_member-else-not-in_class-via-else-not-in_class w ↦ ap (λ v. v.cursor.opened) w.self-is ] in
    let no_dots : (c.args.in_class ≡ true) ⊎ Misses start.text Punctuator (codes "...") start.last = elim c.else-not-in_class.branch [ property_or_member-else-not-in_class-via-then-not-in_class+else-accept_punctuator w ↦ inr w.if-accept_punctuator.ensures.missed.0 | property_or_member-else-not-in_class-via-else-not-in_class w ↦ inl w.if-not-in_class.false ] in
    let no_block : c.args.in_class ≡ true → BeginsStaticBlock start.text start.last → ⊥ = λ k. elim c.else-in_class.branch [
      | property_or_member-else-in_class-via-then-in_class+else-begins_static_block w ↦ unbegun start here text stays (when_false w.begins_static_block.result w.if-begins_static_block.false w.begins_static_block.ensures.other)
      | property_or_member-else-in_class-via-else-in_class w ↦ absurd (false≢true (sym w.if-in_class.false ∙ k))
    ] in
    definition_name c.args.self.now.cursor c.property_name.new.self.cursor c.args.self.now.pairs.items c.property_name.new.self.pairs.items c.args.high c.args.in_class here text opened stays no_dots no_block c.property_name.new.self.cursor c.else-not-in_class.self.pairs.items c.property_name.new.self.pairs.items c.saturating_sub-inner.ensures c.from_residual-in_err-modifiers.result c.in_err-modifiers.field-0.0 c.from_residual-in_err-modifiers.ensures.1 c.in_err-modifiers.ensures.complete

pub property_or_member-returns-in_err-function-clause-complete : goal.property_or_member-returns-in_err-function-clause-complete
property_or_member-returns-in_err-function-clause-complete t c =
    let start = c.args.self.now.cursor in
    let here = c.else-not-in_class.self.cursor in
    let text : here.text ≡ start.text = elim c.else-not-in_class.branch [ property_or_member-else-not-in_class-via-then-not-in_class+else-accept_punctuator w ↦ ap (λ v. v.cursor.text) w.self-is ∙ w.accept_punctuator.ensures.text | property_or_member-else-not-in_class-via-else-not-in_class w ↦ ap (λ v. v.cursor.text) w.self-is ] in
    let stays : here.last ≡ start.last = elim c.else-not-in_class.branch [ property_or_member-else-not-in_class-via-then-not-in_class+else-accept_punctuator w ↦ ap (λ v. v.cursor.last) w.self-is ∙ w.if-accept_punctuator.ensures.missed.1 | property_or_member-else-not-in_class-via-else-not-in_class w ↦ ap (λ v. v.cursor.last) w.self-is ] in
    let opened : here.opened ≡ start.opened = elim c.else-not-in_class.branch [ property_or_member-else-not-in_class-via-then-not-in_class+else-accept_punctuator w ↦ ap (λ v. v.cursor.opened) w.self-is ∙ w.accept_punctuator.ensures.same_open | property_or_member-else-not-in_class-via-else-not-in_class w ↦ ap (λ v. v.cursor.opened) w.self-is ] in
    let no_dots : (c.args.in_class ≡ true) ⊎ Misses start.text Punctuator (codes "...") start.last = elim c.else-not-in_class.branch [ property_or_member-else-not-in_class-via-then-not-in_class+else-accept_punctuator w ↦ inr w.if-accept_punctuator.ensures.missed.0 | property_or_member-else-not-in_class-via-else-not-in_class w ↦ inl w.if-not-in_class.false ] in
    let no_block : c.args.in_class ≡ true → BeginsStaticBlock start.text start.last → ⊥ = λ k. elim c.else-in_class.branch [
      | property_or_member-else-in_class-via-then-in_class+else-begins_static_block w ↦ unbegun start here text stays (when_false w.begins_static_block.result w.if-begins_static_block.false w.begins_static_block.ensures.other)
      | property_or_member-else-in_class-via-else-in_class w ↦ absurd (false≢true (sym w.if-in_class.false ∙ k))
    ] in
    let m_text = c.property_name.ensures.text ∙ text in
    let called : ((c.args.in_class ≡ true) × (is_of_2022 start.text.language ≡ false)) ⊎ ((c.in_ok-modifiers.modifiers.form ≡ Method → ⊥) ⊎ Sees c.property_name.new.self.cursor.text Punctuator (codes "(") c.property_name.new.self.cursor.last) = elim c.if-not-matches.branch [
      | property_or_member-then-not-matches w ↦ elim c.if-not-is_of_2022.branch [
        | property_or_member-then-not-is_of_2022 v ↦ elim c.if-in_class-2.branch [
          | property_or_member-then-in_class-2 x ↦ inl (x.if-in_class-2.true, ap (λ z. is_of_2022 z.language) (sym m_text) ∙ sym x.is_of_2022.ensures ∙ not_true x.is_of_2022.result (sym x.value-is ∙ v.if-not-is_of_2022.true))
          | property_or_member-else-in_class-2 x ↦ let e : false ≡ true = cc (v.if-not-is_of_2022.true, x.value-is, x.if-in_class-2.false) in absurd (false≢true e)
        ]
        | property_or_member-else-not-is_of_2022 v ↦ elim v.match-matches.branch [
          | property_or_member-in-Method u ↦ let e : false ≡ true = cc (w.if-not-matches.true, v.value-is, ap not u.matches-is) in absurd (false≢true e)
          | property_or_member-in_default u ↦ inr (inl u.in_default.not-Method)
        ]
      ]
      | property_or_member-else-not-matches w ↦ inr (inr (when_true w.sees_punctuator-is_method.result (sym w.is_method-is ∙ c.if-not-is_method.false) w.sees_punctuator-is_method.ensures.seen))
    ] in
    definition_function c.args.self.now.cursor c.function_or_class.new.self.cursor c.args.self.now.pairs.items c.function_or_class.new.self.pairs.items c.args.high c.args.in_class here text opened stays no_dots no_block c.property_name.new.self.cursor c.else-not-in_class.self.pairs.items c.property_name.new.self.pairs.items c.saturating_sub-inner.ensures c.in_ok-modifiers.modifiers c.in_ok-modifiers.key c.in_ok-modifiers.ensures.complete m_text (c.in_ok-modifiers.ensures.derived.same_open ∙ opened) called c.function_or_class.new.self.cursor c.function_or_class.new.self.pairs.items c.next_start-from.result c.from_residual-in_err-function.result c.in_err-function.field-0.0 c.from_residual-in_err-function.ensures.1 c.in_err-function.ensures.complete

pub property_or_member-returns-in_err-node-clause-complete : goal.property_or_member-returns-in_err-node-clause-complete
property_or_member-returns-in_err-node-clause-complete t c =
    let start = c.args.self.now.cursor in
    let here = c.else-not-in_class.self.cursor in
    let text : here.text ≡ start.text = elim c.else-not-in_class.branch [ property_or_member-else-not-in_class-via-then-not-in_class+else-accept_punctuator w ↦ ap (λ v. v.cursor.text) w.self-is ∙ w.accept_punctuator.ensures.text | property_or_member-else-not-in_class-via-else-not-in_class w ↦ ap (λ v. v.cursor.text) w.self-is ] in
    let stays : here.last ≡ start.last = elim c.else-not-in_class.branch [ property_or_member-else-not-in_class-via-then-not-in_class+else-accept_punctuator w ↦ ap (λ v. v.cursor.last) w.self-is ∙ w.if-accept_punctuator.ensures.missed.1 | property_or_member-else-not-in_class-via-else-not-in_class w ↦ ap (λ v. v.cursor.last) w.self-is ] in
    let opened : here.opened ≡ start.opened = elim c.else-not-in_class.branch [ property_or_member-else-not-in_class-via-then-not-in_class+else-accept_punctuator w ↦ ap (λ v. v.cursor.opened) w.self-is ∙ w.accept_punctuator.ensures.same_open | property_or_member-else-not-in_class-via-else-not-in_class w ↦ ap (λ v. v.cursor.opened) w.self-is ] in
    let no_dots : (c.args.in_class ≡ true) ⊎ Misses start.text Punctuator (codes "...") start.last = elim c.else-not-in_class.branch [ property_or_member-else-not-in_class-via-then-not-in_class+else-accept_punctuator w ↦ inr w.if-accept_punctuator.ensures.missed.0 | property_or_member-else-not-in_class-via-else-not-in_class w ↦ inl w.if-not-in_class.false ] in
    let no_block : c.args.in_class ≡ true → BeginsStaticBlock start.text start.last → ⊥ = λ k. elim c.else-in_class.branch [
      | property_or_member-else-in_class-via-then-in_class+else-begins_static_block w ↦ unbegun start here text stays (when_false w.begins_static_block.result w.if-begins_static_block.false w.begins_static_block.ensures.other)
      | property_or_member-else-in_class-via-else-in_class w ↦ absurd (false≢true (sym w.if-in_class.false ∙ k))
    ] in
    let m_text = c.property_name.ensures.text ∙ text in
    let called : ((c.args.in_class ≡ true) × (is_of_2022 start.text.language ≡ false)) ⊎ ((c.in_ok-modifiers.modifiers.form ≡ Method → ⊥) ⊎ Sees c.property_name.new.self.cursor.text Punctuator (codes "(") c.property_name.new.self.cursor.last) = elim c.if-not-matches.branch [
      | property_or_member-then-not-matches w ↦ elim c.if-not-is_of_2022.branch [
        | property_or_member-then-not-is_of_2022 v ↦ elim c.if-in_class-2.branch [
          | property_or_member-then-in_class-2 x ↦ inl (x.if-in_class-2.true, ap (λ z. is_of_2022 z.language) (sym m_text) ∙ sym x.is_of_2022.ensures ∙ not_true x.is_of_2022.result (sym x.value-is ∙ v.if-not-is_of_2022.true))
          | property_or_member-else-in_class-2 x ↦ let e : false ≡ true = cc (v.if-not-is_of_2022.true, x.value-is, x.if-in_class-2.false) in absurd (false≢true e)
        ]
        | property_or_member-else-not-is_of_2022 v ↦ elim v.match-matches.branch [
          | property_or_member-in-Method u ↦ let e : false ≡ true = cc (w.if-not-matches.true, v.value-is, ap not u.matches-is) in absurd (false≢true e)
          | property_or_member-in_default u ↦ inr (inl u.in_default.not-Method)
        ]
      ]
      | property_or_member-else-not-matches w ↦ inr (inr (when_true w.sees_punctuator-is_method.result (sym w.is_method-is ∙ c.if-not-is_method.false) w.sees_punctuator-is_method.ensures.seen))
    ] in
    definition_made c.args.self.now.cursor c.function_or_class.new.self.cursor c.args.self.now.pairs.items c.function_or_class.new.self.pairs.items c.args.high c.args.in_class here text opened stays no_dots no_block c.property_name.new.self.cursor c.else-not-in_class.self.pairs.items c.property_name.new.self.pairs.items c.saturating_sub-inner.ensures c.in_ok-modifiers.modifiers c.in_ok-modifiers.key c.in_ok-modifiers.ensures.complete m_text (c.in_ok-modifiers.ensures.derived.same_open ∙ opened) called c.function_or_class.new.self.cursor c.function_or_class.new.self.pairs.items c.next_start-from.result c.in_ok-function.function _ c.from_residual-in_err-node.result c.in_err-node.field-0.0 c.from_residual-in_err-node.ensures.1
    (λ i. node c.method_kind-kind.result.0 [] c.method_kind-kind.result.1 c.span_from-span.result.start c.span_from-span.result.end (c.two-nodes.ensures i)) c.in_ok-modifiers.ensures.low c.in_ok-function.ensures.low c.in_err-node.ensures.made

pub property_or_member-returns-clause-complete : goal.property_or_member-returns-clause-complete
property_or_member-returns-clause-complete t c =
    let start = c.args.self.now.cursor in
    let here = c.else-not-in_class.self.cursor in
    let text : here.text ≡ start.text = elim c.else-not-in_class.branch [ property_or_member-else-not-in_class-via-then-not-in_class+else-accept_punctuator w ↦ ap (λ v. v.cursor.text) w.self-is ∙ w.accept_punctuator.ensures.text | property_or_member-else-not-in_class-via-else-not-in_class w ↦ ap (λ v. v.cursor.text) w.self-is ] in
    let stays : here.last ≡ start.last = elim c.else-not-in_class.branch [ property_or_member-else-not-in_class-via-then-not-in_class+else-accept_punctuator w ↦ ap (λ v. v.cursor.last) w.self-is ∙ w.if-accept_punctuator.ensures.missed.1 | property_or_member-else-not-in_class-via-else-not-in_class w ↦ ap (λ v. v.cursor.last) w.self-is ] in
    let opened : here.opened ≡ start.opened = elim c.else-not-in_class.branch [ property_or_member-else-not-in_class-via-then-not-in_class+else-accept_punctuator w ↦ ap (λ v. v.cursor.opened) w.self-is ∙ w.accept_punctuator.ensures.same_open | property_or_member-else-not-in_class-via-else-not-in_class w ↦ ap (λ v. v.cursor.opened) w.self-is ] in
    let no_dots : (c.args.in_class ≡ true) ⊎ Misses start.text Punctuator (codes "...") start.last = elim c.else-not-in_class.branch [ property_or_member-else-not-in_class-via-then-not-in_class+else-accept_punctuator w ↦ inr w.if-accept_punctuator.ensures.missed.0 | property_or_member-else-not-in_class-via-else-not-in_class w ↦ inl w.if-not-in_class.false ] in
    let no_block : c.args.in_class ≡ true → BeginsStaticBlock start.text start.last → ⊥ = λ k. elim c.else-in_class.branch [
      | property_or_member-else-in_class-via-then-in_class+else-begins_static_block w ↦ unbegun start here text stays (when_false w.begins_static_block.result w.if-begins_static_block.false w.begins_static_block.ensures.other)
      | property_or_member-else-in_class-via-else-in_class w ↦ absurd (false≢true (sym w.if-in_class.false ∙ k))
    ] in
    let m_text = c.property_name.ensures.text ∙ text in
    let called : ((c.args.in_class ≡ true) × (is_of_2022 start.text.language ≡ false)) ⊎ ((c.in_ok-modifiers.modifiers.form ≡ Method → ⊥) ⊎ Sees c.property_name.new.self.cursor.text Punctuator (codes "(") c.property_name.new.self.cursor.last) = elim c.if-not-matches.branch [
      | property_or_member-then-not-matches w ↦ elim c.if-not-is_of_2022.branch [
        | property_or_member-then-not-is_of_2022 v ↦ elim c.if-in_class-2.branch [
          | property_or_member-then-in_class-2 x ↦ inl (x.if-in_class-2.true, ap (λ z. is_of_2022 z.language) (sym m_text) ∙ sym x.is_of_2022.ensures ∙ not_true x.is_of_2022.result (sym x.value-is ∙ v.if-not-is_of_2022.true))
          | property_or_member-else-in_class-2 x ↦ let e : false ≡ true = cc (v.if-not-is_of_2022.true, x.value-is, x.if-in_class-2.false) in absurd (false≢true e)
        ]
        | property_or_member-else-not-is_of_2022 v ↦ elim v.match-matches.branch [
          | property_or_member-in-Method u ↦ let e : false ≡ true = cc (w.if-not-matches.true, v.value-is, ap not u.matches-is) in absurd (false≢true e)
          | property_or_member-in_default u ↦ inr (inl u.in_default.not-Method)
        ]
      ]
      | property_or_member-else-not-matches w ↦ inr (inr (when_true w.sees_punctuator-is_method.result (sym w.is_method-is ∙ c.if-not-is_method.false) w.sees_punctuator-is_method.ensures.seen))
    ] in
    definition_method c.args.self.now.cursor c.function_or_class.new.self.cursor c.args.self.now.pairs.items c.function_or_class.new.self.pairs.items c.args.high c.args.in_class here text opened stays no_dots no_block c.property_name.new.self.cursor c.else-not-in_class.self.pairs.items c.property_name.new.self.pairs.items c.saturating_sub-inner.ensures c.in_ok-modifiers.modifiers c.in_ok-modifiers.key c.in_ok-modifiers.ensures.complete m_text (c.in_ok-modifiers.ensures.derived.same_open ∙ opened) called c.function_or_class.new.self.cursor c.function_or_class.new.self.pairs.items c.next_start-from.result c.in_ok-function.function c.plain.result (property_or_member-returns-clause-derived t c) c.in_ok-function.ensures.complete (ap (λ x. x.shape) c.plain.ensures) (ap (λ x. x.spreads) c.plain.ensures) refl

pub property_or_member-returns-in_err-argument-clause-complete : goal.property_or_member-returns-in_err-argument-clause-complete
property_or_member-returns-in_err-argument-clause-complete t c =
    definition_argument c.args.self.now.cursor c.expression.new.self.cursor c.args.self.now.pairs.items c.expression.new.self.pairs.items c.args.high c.args.in_class c.accept_punctuator.new.self.cursor c.if-not-in_class.true c.if-accept_punctuator.ensures.accepted c.expression.new.self.cursor c.accept_punctuator.new.self.pairs.items c.expression.new.self.pairs.items refl c.accept_punctuator.ensures.text c.from_residual.result c.in_err-argument.field-0.0 c.from_residual.ensures.1 c.saturating_sub-inner.ensures c.accept_punctuator.ensures.same_open c.in_err-argument.ensures.complete

pub property_or_member-returns-in_err-item-clause-complete : goal.property_or_member-returns-in_err-item-clause-complete
property_or_member-returns-in_err-item-clause-complete t c =
    definition_element c.args.self.now.cursor c.expression.new.self.cursor c.args.self.now.pairs.items c.expression.new.self.pairs.items c.args.high c.args.in_class c.accept_punctuator.new.self.cursor c.if-not-in_class.true c.if-accept_punctuator.ensures.accepted c.expression.new.self.cursor c.accept_punctuator.new.self.pairs.items c.expression.new.self.pairs.items refl c.accept_punctuator.ensures.text c.saturating_sub-inner.result c.in_ok-argument.argument c.in_ok-argument.ensures.complete c.from_residual-in_err-item.result c.in_err-item.field-0.0 c.from_residual-in_err-item.ensures.1 c.in_err-item.ensures.made

pub property_or_member-returns-then-accept_punctuator-clause-complete : goal.property_or_member-returns-then-accept_punctuator-clause-complete
property_or_member-returns-then-accept_punctuator-clause-complete t c =
    let made = c.in_ok-item.ensures.made.0 in
    let item : ListItem = record { node = c.in_ok-item.item.node; shape = c.simple-shape.result; spreads = c.in_ok-item.item.spreads; is_flagged = c.in_ok-item.item.is_flagged; edge = c.in_ok-item.item.edge } in
    definition_spread c.args.self.now.cursor c.expression.new.self.cursor c.args.self.now.pairs.items c.expression.new.self.pairs.items c.args.high c.args.in_class c.accept_punctuator.new.self.cursor c.if-not-in_class.true c.if-accept_punctuator.ensures.accepted c.expression.new.self.cursor c.accept_punctuator.new.self.pairs.items c.expression.new.self.pairs.items refl c.accept_punctuator.ensures.text c.saturating_sub-inner.result c.in_ok-argument.argument c.in_ok-argument.ensures.complete item (property_or_member-returns-then-accept_punctuator-clause-derived t c) c.simple-shape.ensures (ap (λ x. x.spreads) made) refl (spread_trails item (ap (λ x. x.node) made))

pub list-returns-clause-derived : goal.list-returns-clause-derived
list-returns-clause-derived t c =
    let items : Ends c.items-test.self c.items-test.list =
    elim c.items-test.branch [
      | list-else-items-test w ↦ subst (Ends c.items-test.self) (sym w.list-is) (subst (λ x. Ends x c.items.list) (sym w.self-is) (none_follows c.args.list c.items.list c.items.invariant.derived c.items.invariant.same c.has_item.ensures.passed c.has_item.ensures.same_open c.has_item.ensures.same_pairs (w.items-test.ensures.no_item)))
      | list-then-items-test+in_ok-item+then-not-is_separated w ↦
          let k2 : ListBuilder = record w.item.new.list { inside = w.span_from-list-in-items.result } in
          subst (Ends c.items-test.self) (sym w.list-is) (subst (λ x. Ends x w.is_separated.new.list) (sym w.self-is)
          (last_follows c.args.list c.items.list w.item.new.list k2 w.is_separated.new.list c.items.invariant.derived c.items.invariant.same w.items-test.ensures.passed c.has_item.ensures.text c.has_item.ensures.same_open c.has_item.ensures.same_pairs w.items-test.ensures.item.0 w.in_ok-item.ensures.derived w.item.ensures.text refl refl refl (ap (λ x. x.end) w.span_from-list-in-items.ensures) w.is_separated.ensures.same_open w.is_separated.ensures.same_pairs w.if-not-is_separated.ensures.comma (w.is_separated.ensures.separated ∙ ap (after_item k2) w.if-not-is_separated.true)))
    ] in
    let same : c.items-test.self.cursor.text ≡ c.args.self.now.cursor.text = elim c.items-test.branch [
      | list-else-items-test w ↦ ap (λ x. x.cursor.text) w.self-is ∙ c.has_item.ensures.text ∙ c.items.invariant.same
      | list-then-items-test+in_ok-item+then-not-is_separated w ↦ ap (λ x. x.cursor.text) w.self-is ∙ w.is_separated.ensures.text ∙ w.item.ensures.text ∙ c.has_item.ensures.text ∙ c.items.invariant.same
    ] in
    let closes : Closes c.match-closer.self = elim c.match-closer.branch [
      | list-in-Some+in_ok-expect_punctuator w ↦ subst Closes (sym w.self-is) (subst (λ y. ClosedBy c.args.self.now.cursor.text y c.items-test.self.cursor.last w.expect_punctuator.new.self.cursor.last) w.in-Some.ensures (subst (λ y. ReadsHere y Punctuator w.in-Some.mark.now c.items-test.self.cursor.last w.expect_punctuator.new.self.cursor.last) same w.in_ok-expect_punctuator.ensures.accepted.0), w.expect_punctuator.ensures.same_open, w.expect_punctuator.ensures.same_pairs)
      | list-in_default-closer w ↦ subst Closes (sym w.self-is) (subst (λ y. ClosedBy c.args.self.now.cursor.text y c.items-test.self.cursor.last c.items-test.self.cursor.last) w.in_default-closer.ensures refl, refl, refl)
    ] in
    closed_list c.args.list c.items-test.list c.span_from-list-2.result items closes (ap (λ x. x.end) c.span_from-list-2.ensures)
  where
    Ends : Parser → ListBuilder → Type 0
    Ends x l = Adds c.args.self.now.cursor x.cursor c.args.self.now.pairs.items x.pairs.items (ItemsFrom c.args.self.now.cursor.text c.args.list l)

    Closes : Parser → Type 0
    Closes x = ClosedBy c.args.self.now.cursor.text (closing c.items-test.list.listed) c.items-test.self.cursor.last x.cursor.last × (x.cursor.opened ≡ c.items-test.self.cursor.opened) × (x.pairs.items ≡ c.items-test.self.pairs.items)

pub expression-returns-in_err-part-clause-complete : goal.expression-returns-in_err-part-clause-complete
expression-returns-in_err-part-clause-complete t c = λ a o n to P g own.
    let u = starts c.args.self.now.cursor.text c.args.position a g in
    let low = u.low in
    agrees_on (Room c.args.self.now.cursor o (height u.tree) c.args.high) (Room c.args.self.now.cursor o (height n) c.args.high)
    (λ r. IsRead a r n × EndsWith c.args.self.now.cursor c.leftmost_operand.new.self.cursor c.args.self.now.pairs.items c.leftmost_operand.new.self.pairs.items to P) c.from_residual.result c.in_err-part.field-0.0 c.from_residual.ensures.1
    (c.in_err-part.ensures.complete u.reading u.rank o u.tree u.mid u.pairs u.first (u.of_language own)) (λ room. (room.0, let high = room.1 in omega arith))

pub expression-returns-in_err-part-2-clause-complete : goal.expression-returns-in_err-part-2-clause-complete
expression-returns-in_err-part-2-clause-complete t c = λ a o n to P g own.
    let v = c.turns.invariant in
    agrees_on (Room c.turns.self.cursor o (height n) c.args.high) (Room c.args.self.now.cursor o (height n) c.args.high)
    (λ r. IsRead a r n × EndsWith c.args.self.now.cursor c.infix.new.self.cursor c.args.self.now.pairs.items c.infix.new.self.pairs.items to P) c.from_residual-in_err-part-2.result c.in_err-part-2.field-0.0 c.from_residual-in_err-part-2.ensures.1
    (stage_turned c.infix.new.self.cursor c.infix.new.self.pairs.items c.args.high (Err c.in_err-part-2.field-0.0) v.same v.derived (v.complete a o n to P g own) own c.in_err-part-2.ensures.complete) (λ room. same_room c.args.self.now.cursor c.turns.self.cursor v.derived.same_open room)

pub expression-returns-clause-complete : goal.expression-returns-clause-complete
expression-returns-clause-complete t c = λ a o n to P g own.
    let v = c.turns.invariant in
    let u = v.complete a o n to P g own in
    let stops = subst (λ x. StopsHere x c.args.position c.turns.part.edge c.turns.self.cursor.last) v.same c.in_default.ensures.none in
    let done = concluded c.args.self.now.cursor.text u.stage v.derived.is.part.edge stops in
    (done.0, record { place = done.1; more = u.more; added = u.added; pairs = done.2 })

pub infix-returns-in-Binary-clause-complete : goal.infix-returns-in-Binary-clause-complete
infix-returns-in-Binary-clause-complete t c =
    turn_sided c.args.self.now.cursor c.binary_rest.new.self.cursor c.args.self.now.pairs.items c.binary_rest.new.self.pairs.items c.args.high c.args.position c.args.left c.args.next.token c.args.next.operator c.binary_rest.result c.requires.ahead
    (own_there (token_of c.args.next.token) c.requires.coded (no_tag_there c.in-Binary.is)) c.requires.coded c.in-Binary.is c.requires.goes c.binary_rest.ensures.complete c.binary_rest.ensures.rank (meant_symbol (operation (as_read (token_of c.args.next.token))) c.args.next.token.text.now c.args.next.token.after_break c.requires.coded)

pub update_or_comma-returns-in_ok-node-in-PostUpdate-clause-complete : goal.update_or_comma-returns-in_ok-node-in-PostUpdate-clause-complete
update_or_comma-returns-in_ok-node-in-PostUpdate-clause-complete t c = λ a o n from to P Q R read stage own.
    let u = stepping c.args.self.now.cursor c.args.position c.args.left (token_of c.args.next.token) c.requires.ahead c.requires.coded c.in-PostUpdate.is c.requires.goes a o n from to P Q R read stage in
    let parts = c.one-nodes.ensures ∙ ap (λ n. part n none) c.in_ok-operand-in-PostUpdate.ensures.target.0 in
    let span = c.span_from-span.ensures in
    let tree = c.in_ok-node-in-PostUpdate.ensures.made.0 ∙ (λ k. node UpdateExpression c.args.next.token.text.now plain (span k).start (span k).end (parts k)) in
    step_staged c.args.self.now.cursor c.args.position c.args.left (token_of c.args.next.token) c.requires.ahead c.requires.coded c.in-PostUpdate.is c.requires.goes u c.plain.result c.advance.new.self.cursor c.args.self.now.pairs.items c.advance.new.self.pairs.items
    c.advance.ensures.last c.advance.ensures.same_pairs (c.plain.ensures ∙ ap (λ n. plain_part n Update Postfix) tree)

pub update_or_comma-returns-in_ok-node-in-Comma-clause-complete : goal.update_or_comma-returns-in_ok-node-in-Comma-clause-complete
update_or_comma-returns-in_ok-node-in-Comma-clause-complete t c =
    let list = c.in_ok-list-in-Comma-2.list in
    let pass = c.advance-in-Comma in
    let span = c.span_from-span-in-Comma.ensures in
    let tree = c.in_ok-node-in-Comma.ensures.made.0 ∙ (λ k. node SequenceExpression [] plain (span k).start (span k).end list.nodes) in
    sequence_staged c.args.self.now.cursor c.args.high c.args.position c.args.left (token_of c.args.next.token) c.requires.ahead c.requires.coded c.in-Comma.is c.requires.goes pass.new.self.cursor c.in_ok-list-in-Comma.list c.in_ok-list-in-Comma.ensures.begun.0 pass.ensures.text pass.ensures.last pass.ensures.same_open c.list.new.self.cursor c.args.self.now.pairs.items pass.new.self.pairs.items c.list.new.self.pairs.items
    c.saturating_sub.result list pass.ensures.same_pairs c.in_ok-list-in-Comma-2.ensures.complete c.plain-in-Comma.result list.seen.edge (c.plain-in-Comma.ensures ∙ ap (λ n. plain_part n Expression list.seen.edge) tree)

pub infix-returns-in-QuestionDot-clause-complete : goal.infix-returns-in-QuestionDot-clause-complete
infix-returns-in-QuestionDot-clause-complete t c =
    turn_chain c.args.self.now.cursor c.optional_chain.new.self.cursor c.args.self.now.pairs.items c.optional_chain.new.self.pairs.items c.args.high c.args.position c.args.left (token_of c.args.next.token) c.optional_chain.result c.requires.ahead c.requires.coded c.in-QuestionDot.is c.requires.goes c.optional_chain.ensures.complete

pub infix-returns-in-Dot-clause-complete : goal.infix-returns-in-Dot-clause-complete
infix-returns-in-Dot-clause-complete t c =
    turn_linked c.args.self.now.cursor c.dot_member.new.self.cursor c.args.self.now.pairs.items c.dot_member.new.self.pairs.items c.args.high c.args.position c.args.left (token_of c.args.next.token) c.args.next.operator c.dot_member.result c.requires.ahead c.requires.coded (inl c.in-Dot.is) c.requires.goes c.dot_member.ensures.complete

pub infix-returns-in-OpenParen-clause-complete : goal.infix-returns-in-OpenParen-clause-complete
infix-returns-in-OpenParen-clause-complete t c =
    turn_linked c.args.self.now.cursor c.call_expression.new.self.cursor c.args.self.now.pairs.items c.call_expression.new.self.pairs.items c.args.high c.args.position c.args.left (token_of c.args.next.token) c.args.next.operator c.call_expression.result c.requires.ahead c.requires.coded (inr (inl c.in-OpenParen.is)) c.requires.goes c.call_expression.ensures.complete

pub infix-returns-in-OpenBracket-clause-complete : goal.infix-returns-in-OpenBracket-clause-complete
infix-returns-in-OpenBracket-clause-complete t c =
    turn_linked c.args.self.now.cursor c.subscript.new.self.cursor c.args.self.now.pairs.items c.subscript.new.self.pairs.items c.args.high c.args.position c.args.left (token_of c.args.next.token) c.args.next.operator c.subscript.result c.requires.ahead c.requires.coded (inr (inr c.in-OpenBracket.is)) c.requires.goes c.subscript.ensures.complete

pub infix-returns-in-FatArrow-clause-complete : goal.infix-returns-in-FatArrow-clause-complete
infix-returns-in-FatArrow-clause-complete t c = λ a o n from to P Q R read stage own. absurd (no_arrow c.args.self.now.cursor c.args.position c.args.left (token_of c.args.next.token) c.requires.ahead c.requires.coded c.in-FatArrow.is c.requires.goes a o n from to P Q R read stage)

pub update_or_comma-returns-in_err-operand-in-PostUpdate-clause-complete : goal.update_or_comma-returns-in_err-operand-in-PostUpdate-clause-complete
update_or_comma-returns-in_err-operand-in-PostUpdate-clause-complete t c =
    step_unfit c.args.self.now.cursor c.args.position c.args.left (token_of c.args.next.token) c.requires.ahead c.requires.coded c.in-PostUpdate.is c.requires.goes c.args.high c.args.self.now.cursor c.args.self.now.pairs.items c.args.self.now.pairs.items c.from_residual.result c.in_err-operand-in-PostUpdate.field-0.0 c.from_residual.ensures.1 (pattern_tree c.args.left.cover.node) c.in_err-operand-in-PostUpdate.ensures.target

pub update_or_comma-returns-in_err-node-in-PostUpdate-clause-complete : goal.update_or_comma-returns-in_err-node-in-PostUpdate-clause-complete
update_or_comma-returns-in_err-node-in-PostUpdate-clause-complete t c =
    step_high c.args.self.now.cursor c.args.position c.args.left (token_of c.args.next.token) c.requires.ahead c.requires.coded c.in-PostUpdate.is c.requires.goes c.args.high c.advance.new.self.cursor c.args.self.now.pairs.items c.advance.new.self.pairs.items c.from_residual-in_err-node-in-PostUpdate.result c.in_err-node-in-PostUpdate.field-0.0 c.from_residual-in_err-node-in-PostUpdate.ensures.1 _
    (c.one-nodes.ensures ∙ ap (λ n. part n none) c.in_ok-operand-in-PostUpdate.ensures.target.0) refl c.in_err-node-in-PostUpdate.ensures.made.0 c.in_err-node-in-PostUpdate.ensures.made.1

pub update_or_comma-returns-in_err-list-in-Comma-clause-complete : goal.update_or_comma-returns-in_err-list-in-Comma-clause-complete
update_or_comma-returns-in_err-list-in-Comma-clause-complete t c =
    sequence_refused c.args.self.now.cursor c.args.high c.args.position c.args.left (token_of c.args.next.token) c.requires.ahead c.requires.coded c.in-Comma.is c.requires.goes c.args.self.now.cursor c.args.self.now.pairs.items c.args.self.now.pairs.items c.from_residual-in_err-list-in-Comma.result c.in_err-list-in-Comma.field-0.0 (IsPlaceHere c.args.self.now.cursor) c.from_residual-in_err-list-in-Comma.ensures.1 c.in_err-list-in-Comma.ensures.failed

pub update_or_comma-returns-in_err-list-in-Comma-2-clause-complete : goal.update_or_comma-returns-in_err-list-in-Comma-2-clause-complete
update_or_comma-returns-in_err-list-in-Comma-2-clause-complete t c =
    let pass = c.advance-in-Comma in
    commas_refused c.args.self.now.cursor c.args.high c.args.position c.args.left (token_of c.args.next.token) c.requires.ahead c.requires.coded c.in-Comma.is c.requires.goes pass.new.self.cursor c.in_ok-list-in-Comma.list c.in_ok-list-in-Comma.ensures.begun.0 pass.ensures.text pass.ensures.last pass.ensures.same_open c.list.new.self.cursor c.list.new.self.cursor c.args.self.now.pairs.items c.list.new.self.pairs.items pass.new.self.pairs.items c.list.new.self.pairs.items c.saturating_sub.result
    c.from_residual-in_err-list-in-Comma-2.result c.in_err-list-in-Comma-2.field-0.0 c.saturating_sub.ensures c.from_residual-in_err-list-in-Comma-2.ensures.1 c.in_err-list-in-Comma-2.ensures.complete

pub update_or_comma-returns-in_err-node-in-Comma-clause-complete : goal.update_or_comma-returns-in_err-node-in-Comma-clause-complete
update_or_comma-returns-in_err-node-in-Comma-clause-complete t c =
    let list = c.in_ok-list-in-Comma-2.list in
    let pass = c.advance-in-Comma in
    sequence_high c.args.self.now.cursor c.args.high c.args.position c.args.left (token_of c.args.next.token) c.requires.ahead c.requires.coded c.in-Comma.is c.requires.goes pass.new.self.cursor c.in_ok-list-in-Comma.list c.in_ok-list-in-Comma.ensures.begun.0 pass.ensures.text pass.ensures.last pass.ensures.same_open c.list.new.self.cursor c.args.self.now.pairs.items pass.new.self.pairs.items c.list.new.self.pairs.items
    c.saturating_sub.result list pass.ensures.same_pairs c.in_ok-list-in-Comma-2.ensures.complete c.list.new.self.cursor c.list.new.self.pairs.items c.from_residual-in_err-node-in-Comma.result c.in_err-node-in-Comma.field-0.0 _ refl
    c.from_residual-in_err-node-in-Comma.ensures.1 c.in_err-node-in-Comma.ensures.made.0 c.in_err-node-in-Comma.ensures.made.1

pub list-returns-in_err-item-clause-complete : goal.list-returns-in_err-item-clause-complete
list-returns-in_err-item-clause-complete t c =
    list_item_refused c.args.self.now.cursor c.items.self.cursor c.has_item.new.self.cursor c.item.new.self.cursor c.item.new.self.cursor c.args.self.now.pairs.items c.items.self.pairs.items c.has_item.new.self.pairs.items c.item.new.self.pairs.items c.item.new.self.pairs.items c.args.high c.args.list c.items.list c.item.new.list c.from_residual.result c.in_err-item.field-0.0
    c.items.invariant.complete c.items.invariant.same c.items-test.ensures.passed c.items-test.ensures.first c.has_item.ensures.text (c.has_item.ensures.same_open ∙ c.items.invariant.derived.same_open) c.items-test.ensures.item.0 c.items-test.ensures.item.1 c.in_err-item.ensures.complete c.from_residual.ensures.1

pub list-returns-in_err-expect_punctuator-clause-complete : goal.list-returns-in_err-expect_punctuator-clause-complete
list-returns-in_err-expect_punctuator-clause-complete t c =
    let done : Dones c.items-test.self c.items-test.list = elim c.items-test.branch [
      | list-else-items-test w ↦ subst (Dones c.items-test.self) (sym w.list-is) (subst (λ x. Dones x c.items.list) (sym w.self-is)
          (done_before {s = c.args.self.now.cursor} {m = c.items.self.cursor} {t = c.has_item.new.self.cursor} {old = c.args.self.now.pairs.items} {mid = c.items.self.pairs.items} {new = c.has_item.new.self.pairs.items} c.args.list c.items.list c.items.invariant.complete c.items.invariant.same c.has_item.ensures.passed c.has_item.ensures.first c.has_item.ensures.text c.has_item.ensures.same_pairs w.items-test.ensures.no_item))
      | list-then-items-test+in_ok-item+then-not-is_separated w ↦
          let k2 : ListBuilder = record w.item.new.list { inside = w.span_from-list-in-items.result } in
          subst (Dones c.items-test.self) (sym w.list-is) (subst (λ x. Dones x w.is_separated.new.list) (sym w.self-is)
          (done_behind {s = c.args.self.now.cursor} {m = c.items.self.cursor} {t = c.has_item.new.self.cursor} {e = w.item.new.self.cursor} {x = w.is_separated.new.self.cursor} {old = c.args.self.now.pairs.items} {mid = c.items.self.pairs.items} {tmid = c.has_item.new.self.pairs.items} {emid = w.item.new.self.pairs.items} {new = w.is_separated.new.self.pairs.items} c.args.high c.args.list c.items.list w.item.new.list k2 w.is_separated.new.list tt c.items.invariant.complete c.items.invariant.listed c.items.invariant.same w.items-test.ensures.passed w.items-test.ensures.first c.has_item.ensures.text c.has_item.ensures.same_pairs w.items-test.ensures.item.0 w.items-test.ensures.item.1 w.in_ok-item.ensures.complete w.item.ensures.text w.item.ensures.listed refl refl refl w.if-not-is_separated.ensures.comma (w.is_separated.ensures.separated ∙ ap (after_item k2) w.if-not-is_separated.true) w.is_separated.ensures.same_pairs))
    ] in
    let same : c.items-test.self.cursor.text ≡ c.args.self.now.cursor.text = elim c.items-test.branch [
      | list-else-items-test w ↦ ap (λ x. x.cursor.text) w.self-is ∙ c.has_item.ensures.text ∙ c.items.invariant.same
      | list-then-items-test+in_ok-item+then-not-is_separated w ↦ ap (λ x. x.cursor.text) w.self-is ∙ w.is_separated.ensures.text ∙ w.item.ensures.text ∙ c.has_item.ensures.text ∙ c.items.invariant.same
    ] in
    close_refused c.args.self.now.cursor c.items-test.self.cursor c.expect_punctuator.new.self.cursor c.args.self.now.pairs.items c.items-test.self.pairs.items c.expect_punctuator.new.self.pairs.items c.args.high c.args.list c.items-test.list c.from_residual-in_err-expect_punctuator.result c.in_err-expect_punctuator.field-0.0
    done same (sym c.in-Some.ensures) c.from_residual-in_err-expect_punctuator.ensures.1 c.in_err-expect_punctuator.ensures.missed.0
  where
    Dones : Parser → ListBuilder → Type 0
    Dones x l = AllDone c.args.self.now.cursor.text c.args.list l c.args.self.now.cursor x.cursor c.args.self.now.pairs.items x.pairs.items

pub list-returns-clause-complete : goal.list-returns-clause-complete
list-returns-clause-complete t c =
    let done : Dones c.items-test.self c.items-test.list = elim c.items-test.branch [
      | list-else-items-test w ↦ subst (Dones c.items-test.self) (sym w.list-is) (subst (λ x. Dones x c.items.list) (sym w.self-is)
          (done_before {s = c.args.self.now.cursor} {m = c.items.self.cursor} {t = c.has_item.new.self.cursor} {old = c.args.self.now.pairs.items} {mid = c.items.self.pairs.items} {new = c.has_item.new.self.pairs.items} c.args.list c.items.list c.items.invariant.complete c.items.invariant.same c.has_item.ensures.passed c.has_item.ensures.first c.has_item.ensures.text c.has_item.ensures.same_pairs w.items-test.ensures.no_item))
      | list-then-items-test+in_ok-item+then-not-is_separated w ↦
          let k2 : ListBuilder = record w.item.new.list { inside = w.span_from-list-in-items.result } in
          subst (Dones c.items-test.self) (sym w.list-is) (subst (λ x. Dones x w.is_separated.new.list) (sym w.self-is)
          (done_behind {s = c.args.self.now.cursor} {m = c.items.self.cursor} {t = c.has_item.new.self.cursor} {e = w.item.new.self.cursor} {x = w.is_separated.new.self.cursor} {old = c.args.self.now.pairs.items} {mid = c.items.self.pairs.items} {tmid = c.has_item.new.self.pairs.items} {emid = w.item.new.self.pairs.items} {new = w.is_separated.new.self.pairs.items} c.args.high c.args.list c.items.list w.item.new.list k2 w.is_separated.new.list tt c.items.invariant.complete c.items.invariant.listed c.items.invariant.same w.items-test.ensures.passed w.items-test.ensures.first c.has_item.ensures.text c.has_item.ensures.same_pairs w.items-test.ensures.item.0 w.items-test.ensures.item.1 w.in_ok-item.ensures.complete w.item.ensures.text w.item.ensures.listed refl refl refl w.if-not-is_separated.ensures.comma (w.is_separated.ensures.separated ∙ ap (after_item k2) w.if-not-is_separated.true) w.is_separated.ensures.same_pairs))
    ] in
    let same : c.items-test.self.cursor.text ≡ c.args.self.now.cursor.text = elim c.items-test.branch [
      | list-else-items-test w ↦ ap (λ x. x.cursor.text) w.self-is ∙ c.has_item.ensures.text ∙ c.items.invariant.same
      | list-then-items-test+in_ok-item+then-not-is_separated w ↦ ap (λ x. x.cursor.text) w.self-is ∙ w.is_separated.ensures.text ∙ w.item.ensures.text ∙ c.has_item.ensures.text ∙ c.items.invariant.same
    ] in
    let closes : Closes c.match-closer.self = elim c.match-closer.branch [
      | list-in-Some+in_ok-expect_punctuator w ↦ subst Closes (sym w.self-is) (subst (λ y. ClosedBy c.args.self.now.cursor.text y c.items-test.self.cursor.last w.expect_punctuator.new.self.cursor.last) w.in-Some.ensures (subst (λ y. ReadsHere y Punctuator w.in-Some.mark.now c.items-test.self.cursor.last w.expect_punctuator.new.self.cursor.last) same w.in_ok-expect_punctuator.ensures.accepted.0), w.expect_punctuator.ensures.same_pairs)
      | list-in_default-closer w ↦ subst Closes (sym w.self-is) (subst (λ y. ClosedBy c.args.self.now.cursor.text y c.items-test.self.cursor.last c.items-test.self.cursor.last) w.in_default-closer.ensures refl, refl)
    ] in
    list_answered c.args.self.now.cursor c.items-test.self.cursor c.match-closer.self.cursor c.args.self.now.pairs.items c.items-test.self.pairs.items c.match-closer.self.pairs.items c.args.high c.args.list c.items-test.list (record c.items-test.list { span = c.span_from-list-2.result }) done closes.0 closes.1 refl refl refl
  where
    Dones : Parser → ListBuilder → Type 0
    Dones x l = AllDone c.args.self.now.cursor.text c.args.list l c.args.self.now.cursor x.cursor c.args.self.now.pairs.items x.pairs.items

    Closes : Parser → Type 0
    Closes x = ClosedBy c.args.self.now.cursor.text (closing c.items-test.list.listed) c.items-test.self.cursor.last x.cursor.last × (x.pairs.items ≡ c.items-test.self.pairs.items)

pub special_item-returns-in_err-item-in-Properties-clause-complete : goal.special_item-returns-in_err-item-in-Properties-clause-complete
special_item-returns-in_err-item-in-Properties-clause-complete t c =
    definition_refused c.args.self.now.cursor c.property_or_member.new.self.cursor c.args.self.now.pairs.items c.property_or_member.new.self.pairs.items c.args.list.now c.args.list.now c.args.high false c.from_residual.result c.in_err-item-in-Properties.field-0.0 c.in-Properties.is c.from_residual.ensures.1 c.in_err-item-in-Properties.ensures.complete

pub special_item-returns-in_err-item-in-Members-clause-complete : goal.special_item-returns-in_err-item-in-Members-clause-complete
special_item-returns-in_err-item-in-Members-clause-complete t c =
    definition_refused c.args.self.now.cursor c.property_or_member-in-Members.new.self.cursor c.args.self.now.pairs.items c.property_or_member-in-Members.new.self.pairs.items c.args.list.now c.args.list.now c.args.high true c.from_residual-in_err-item-in-Members.result c.in_err-item-in-Members.field-0.0 c.in-Members.is c.from_residual-in_err-item-in-Members.ensures.1 c.in_err-item-in-Members.ensures.complete

pub special_item-returns-in_ok-item-in-Properties-clause-complete : goal.special_item-returns-in_ok-item-in-Properties-clause-complete
special_item-returns-in_ok-item-in-Properties-clause-complete t c =
    definition_taken c.args.self.now.cursor c.property_or_member.new.self.cursor c.args.self.now.pairs.items c.property_or_member.new.self.pairs.items c.args.list.now c.push.new.self c.args.high false c.in_ok-item-in-Properties.item _ c.push.result c.in-Properties.is c.push.ensures.pushed c.push.ensures.taken c.in_ok-item-in-Properties.ensures.complete

pub special_item-returns-in_ok-item-in-Members-clause-complete : goal.special_item-returns-in_ok-item-in-Members-clause-complete
special_item-returns-in_ok-item-in-Members-clause-complete t c =
    definition_taken c.args.self.now.cursor c.property_or_member-in-Members.new.self.cursor c.args.self.now.pairs.items c.property_or_member-in-Members.new.self.pairs.items c.args.list.now c.push-in-Members.new.self c.args.high true c.in_ok-item-in-Members.item _ c.push-in-Members.result c.in-Members.is c.push-in-Members.ensures.pushed c.push-in-Members.ensures.taken c.in_ok-item-in-Members.ensures.complete

pub special_item-returns-in_err-part-in-Template-clause-complete : goal.special_item-returns-in_err-part-in-Template-clause-complete
special_item-returns-in_err-part-in-Template-clause-complete t c =
    chunk_refused c.args.self.now.cursor c.args.self.now.pairs.items c.args.list.now c.args.list.now c.args.high c.in-Template.is _ refl c.expression.new.self.cursor c.expression.new.self.pairs.items c.from_residual-in_err-part-in-Template.result c.in_err-part-in-Template.field-0.0 c.from_residual-in_err-part-in-Template.ensures.1 c.in_err-part-in-Template.ensures.complete

pub special_item-returns-in_err-into_expression-in-Template-clause-complete : goal.special_item-returns-in_err-into_expression-in-Template-clause-complete
special_item-returns-in_err-into_expression-in-Template-clause-complete t c =
    chunk_unsettled c.args.self.now.cursor c.args.self.now.pairs.items c.args.list.now c.args.list.now c.args.high c.in-Template.is _ refl c.expression.new.self.cursor c.expression.new.self.pairs.items c.in_ok-part-in-Template.part c.in_ok-part-in-Template.ensures.complete c.expression.new.self.cursor c.expression.new.self.cursor c.expression.new.self.pairs.items c.from_residual-in_err-into_expression-in-Template.result c.in_err-into_expression-in-Template.field-0.0 c.from_residual-in_err-into_expression-in-Template.ensures.1 c.in_err-into_expression-in-Template.ensures.settled

pub special_item-returns-in_err-next_template_element-in-Template-clause-complete : goal.special_item-returns-in_err-next_template_element-in-Template-clause-complete
special_item-returns-in_err-next_template_element-in-Template-clause-complete t c =
    chunk_missing c.args.self.now.cursor c.args.self.now.pairs.items c.args.list.now c.push-in-Template.new.self c.args.high c.in-Template.is _ refl c.expression.new.self.cursor c.expression.new.self.pairs.items c.in_ok-part-in-Template.part c.in_ok-part-in-Template.ensures.complete c.next_template_element.new.self.cursor c.next_template_element.new.self.pairs.items c.from_residual-in_err-next_template_element-in-Template.result c.in_err-next_template_element-in-Template.field-0.0 c.expression.ensures.text c.from_residual-in_err-next_template_element-in-Template.ensures.1 c.in_err-next_template_element-in-Template.ensures.no_chunk

pub special_item-returns-in_err-item-in-Declarators-clause-complete : goal.special_item-returns-in_err-item-in-Declarators-clause-complete
special_item-returns-in_err-item-in-Declarators-clause-complete t c =
    declarator_refused c.args.self.now.cursor c.declarator.new.self.cursor c.args.self.now.pairs.items c.declarator.new.self.pairs.items c.args.list.now c.args.list.now c.args.high c.in-Declarators.has_in c.from_residual-in_err-item-in-Declarators.result c.in_err-item-in-Declarators.field-0.0 c.in-Declarators.is c.from_residual-in_err-item-in-Declarators.ensures.1 c.in_err-item-in-Declarators.ensures.complete

pub special_item-returns-in_err-is_default-in-Cases-clause-complete : goal.special_item-returns-in_err-is_default-in-Cases-clause-complete
special_item-returns-in_err-is_default-in-Cases-clause-complete t c =
    case_unworded c.args.self.now.cursor c.is_default.new.self.cursor c.args.self.now.pairs.items c.is_default.new.self.pairs.items c.args.list.now c.args.list.now c.args.high c.in-Cases.returns c.in-Cases.is c.from_residual-in_err-is_default-in-Cases.result c.in_err-is_default-in-Cases.ensures.missed.0 c.in_err-is_default-in-Cases.ensures.missed.1

pub special_item-returns-in_err-read_symbols-in-Cases-clause-complete : goal.special_item-returns-in_err-read_symbols-in-Cases-clause-complete
special_item-returns-in_err-read_symbols-in-Cases-clause-complete t c =
    let there : c.if-is_default.self.cursor ≡ c.is_default.new.self.cursor = elim c.if-is_default.branch [
      | special_item-then-is_default+in_ok-push_gap-in-Cases w ↦ ap (λ v. v.cursor) w.self-is
      | special_item-else-is_default w ↦ ap (λ v. v.cursor) w.self-is
    ] in
    let paired : c.if-is_default.self.pairs.items ≡ c.is_default.new.self.pairs.items = elim c.if-is_default.branch [
      | special_item-then-is_default+in_ok-push_gap-in-Cases w ↦ ap (λ v. v.pairs.items) w.self-is
      | special_item-else-is_default w ↦ ap (λ v. v.pairs.items) w.self-is
    ] in
    let read = subst (λ z. SymbolsComplete z c.read_symbols.new.self.cursor c.is_default.new.self.pairs.items c.read_symbols.new.self.pairs.items c.saturating_sub-inner.result (map piece_of c.case_symbols.result.now) c.item-context.result.returns c.if-is_default.built c.read_symbols.new.built (Err c.in_err-read_symbols-in-Cases.field-0.0)) there
    (subst (λ ps. SymbolsComplete c.if-is_default.self.cursor c.read_symbols.new.self.cursor ps c.read_symbols.new.self.pairs.items c.saturating_sub-inner.result (map piece_of c.case_symbols.result.now) c.item-context.result.returns c.if-is_default.built c.read_symbols.new.built (Err c.in_err-read_symbols-in-Cases.field-0.0)) paired c.in_err-read_symbols-in-Cases.ensures.complete) in
    case_refused c.args.self.now.cursor c.read_symbols.new.self.cursor c.args.self.now.pairs.items c.read_symbols.new.self.pairs.items c.args.list.now c.args.list.now c.args.high c.in-Cases.returns c.in-Cases.is c.is_default.new.self.cursor c.is_default.new.self.pairs.items c.in_ok-is_default-in-Cases.is_default c.if-is_default.built c.item-context.result c.saturating_sub-inner.result _ c.in_ok-is_default-in-Cases.ensures.accepted c.is_default.ensures.text c.item-context.ensures c.case_symbols.ensures c.saturating_sub-inner.ensures c.read_symbols.new.built c.from_residual-in_err-read_symbols-in-Cases.result c.in_err-read_symbols-in-Cases.field-0.0 c.is_default.ensures.same_open c.from_residual-in_err-read_symbols-in-Cases.ensures.1 read

pub special_item-returns-in_err-finish_plain-in-Cases-clause-complete : goal.special_item-returns-in_err-finish_plain-in-Cases-clause-complete
special_item-returns-in_err-finish_plain-in-Cases-clause-complete t c =
    let d = c.in_ok-is_default-in-Cases.is_default in
    let empty : c.if-is_default.built.nodes ≡ case_nodes d none = elim c.if-is_default.branch [
      | special_item-then-is_default+in_ok-push_gap-in-Cases w ↦ ap (λ x. x.nodes) w.built-is ∙ w.in_ok-push_gap-in-Cases.ensures.pushed ∙ ap push_gap (ap (λ x. x.nodes) c.new-built.ensures) ∙ ap (λ b. case_nodes b none) (sym w.if-is_default.true)
      | special_item-else-is_default w ↦ ap (λ x. x.nodes) w.built-is ∙ ap (λ x. x.nodes) c.new-built.ensures ∙ ap (λ b. case_nodes b none) (sym w.if-is_default.false)
    ] in
    let there : c.if-is_default.self.cursor ≡ c.is_default.new.self.cursor = elim c.if-is_default.branch [
      | special_item-then-is_default+in_ok-push_gap-in-Cases w ↦ ap (λ v. v.cursor) w.self-is
      | special_item-else-is_default w ↦ ap (λ v. v.cursor) w.self-is
    ] in
    let paired : c.if-is_default.self.pairs.items ≡ c.is_default.new.self.pairs.items = elim c.if-is_default.branch [
      | special_item-then-is_default+in_ok-push_gap-in-Cases w ↦ ap (λ v. v.pairs.items) w.self-is
      | special_item-else-is_default w ↦ ap (λ v. v.pairs.items) w.self-is
    ] in
    let read = subst (λ z. SymbolsComplete z c.read_symbols.new.self.cursor c.is_default.new.self.pairs.items c.read_symbols.new.self.pairs.items c.saturating_sub-inner.result (map piece_of c.case_symbols.result.now) c.item-context.result.returns c.if-is_default.built c.read_symbols.new.built (Ok tt)) there
    (subst (λ ps. SymbolsComplete c.if-is_default.self.cursor c.read_symbols.new.self.cursor ps c.read_symbols.new.self.pairs.items c.saturating_sub-inner.result (map piece_of c.case_symbols.result.now) c.item-context.result.returns c.if-is_default.built c.read_symbols.new.built (Ok tt)) paired c.in_ok-read_symbols-in-Cases.ensures.complete) in
    case_too_high c.args.self.now.cursor c.read_symbols.new.self.cursor c.args.self.now.pairs.items c.read_symbols.new.self.pairs.items c.args.list.now c.args.list.now c.args.high c.in-Cases.returns c.in-Cases.is c.is_default.new.self.cursor c.is_default.new.self.pairs.items c.in_ok-is_default-in-Cases.is_default c.if-is_default.built c.item-context.result c.saturating_sub-inner.result _ c.in_ok-is_default-in-Cases.ensures.accepted c.is_default.ensures.text c.item-context.ensures c.case_symbols.ensures c.saturating_sub-inner.ensures c.read_symbols.new.built _ empty read c.next_start-start.result _ c.from_residual-in_err-finish_plain-in-Cases.result c.in_err-finish_plain-in-Cases.field-0.0 c.next_start-start.ensures.starts (λ i. node SwitchCase [] plain (c.span_from-span.ensures i).start (c.span_from-span.ensures i).end c.read_symbols.new.built.nodes) c.from_residual-in_err-finish_plain-in-Cases.ensures.1 c.in_err-finish_plain-in-Cases.ensures.made

pub special_item-returns-in_err-part-in-Sequence-clause-complete : goal.special_item-returns-in_err-part-in-Sequence-clause-complete
special_item-returns-in_err-part-in-Sequence-clause-complete t c =
    sequence_item_refused c.args.self.now.cursor c.expression-in-Sequence.new.self.cursor c.args.self.now.pairs.items c.expression-in-Sequence.new.self.pairs.items c.args.list.now c.args.list.now c.args.high c.in-Sequence.has_in c.at.result c.from_residual-in_err-part-in-Sequence.result c.in_err-part-in-Sequence.field-0.0 c.at.ensures c.in-Sequence.is c.from_residual-in_err-part-in-Sequence.ensures.1 c.in_err-part-in-Sequence.ensures.complete

pub spread_item-returns-in_err-part-clause-complete : goal.spread_item-returns-in_err-part-clause-complete
spread_item-returns-in_err-part-clause-complete t c =
    let kind = of_elements c.args.list.now.listed c.requires.element in
    of_kind c.args.self.now.cursor c.expression.new.self.cursor c.args.self.now.pairs.items c.expression.new.self.pairs.items c.args.list.now c.args.list.now c.args.high c.from_residual-in_err-part.result kind (λ is. dotted_refused c.args.self.now.cursor c.expression.new.self.cursor c.args.self.now.pairs.items c.expression.new.self.pairs.items c.args.list.now c.args.list.now c.args.high is c.expect_punctuator.new.self.cursor c.expect_punctuator.new.self.pairs.items c.saturating_sub.result _ c.in_ok-expect_punctuator.ensures.accepted.0 c.expect_punctuator.ensures.text c.expect_punctuator.ensures.same_open c.saturating_sub.ensures refl c.from_residual-in_err-part.result c.in_err-part.field-0.0 c.from_residual-in_err-part.ensures.1 c.in_err-part.ensures.complete)

pub spread_item-returns-clause-complete : goal.spread_item-returns-clause-complete
spread_item-returns-clause-complete t c =
    let kind = of_elements c.args.list.now.listed c.requires.element in
    of_kind c.args.self.now.cursor c.expression.new.self.cursor c.args.self.now.pairs.items c.expression.new.self.pairs.items c.args.list.now c.push.new.self c.args.high c.push.result kind (λ is. dotted_taken c.args.self.now.cursor c.expression.new.self.cursor c.args.self.now.pairs.items c.expression.new.self.pairs.items c.args.list.now c.push.new.self c.args.high is c.expect_punctuator.new.self.cursor c.expect_punctuator.new.self.pairs.items c.saturating_sub.result _ c.in_ok-expect_punctuator.ensures.accepted.0 c.expect_punctuator.ensures.text c.expect_punctuator.ensures.same_open c.saturating_sub.ensures refl c.in_ok-part.part c.in_ok-item.item c.next_start-start.result _ c.push.result c.next_start-start.ensures.starts c.in_ok-item.ensures.made.0 c.expect_punctuator.ensures.same_pairs c.push.ensures.pushed c.push.ensures.taken c.in_ok-part.ensures.complete)

pub item-returns-in_err-part-in_default-clause-complete : goal.item-returns-in_err-part-in_default-clause-complete
item-returns-in_err-part-in_default-clause-complete t c =
    let kind : (lists_elements c.args.list.now.listed && not (asks_edge c.args.list.now.listed)) ≡ true = elim c.in_default.branch [
      | item-in_default-via-in-Elements+else-sees_punctuator w ↦ is_an_element c.args.list.now.listed Elements w.in-Elements.is refl
      | item-in_default-via-in_default w ↦ default_kind c.args.list.now.listed w.in_default.not-Properties w.in_default.not-Members w.in_default.not-Template w.in_default.not-Sequence w.in_default.not-Declarators w.in_default.not-Cases
    ] in
    let no_comma : c.args.list.now.listed ≡ Elements → Misses c.args.self.now.cursor.text Punctuator (codes ",") c.args.self.now.cursor.last = elim c.in_default.branch [
      | item-in_default-via-in-Elements+else-sees_punctuator w ↦ λ h. w.if-sees_punctuator.ensures.missed
      | item-in_default-via-in_default w ↦ λ h. absurd (w.in_default.not-Elements h)
    ] in
    of_kind c.args.self.now.cursor c.expression.new.self.cursor c.args.self.now.pairs.items c.expression.new.self.pairs.items c.args.list.now c.args.list.now c.args.high c.from_residual.result kind (λ is. alone_refused c.args.self.now.cursor c.expression.new.self.cursor c.args.self.now.pairs.items c.expression.new.self.pairs.items c.args.list.now c.args.list.now c.args.high is c.args.self.now.cursor c.args.self.now.pairs.items _ c.if-sees_punctuator-2.ensures.missed refl no_comma refl refl c.from_residual.result c.in_err-part-in_default.field-0.0 refl c.from_residual.ensures.1 c.in_err-part-in_default.ensures.complete)

pub item-returns-in-Elements-clause-complete : goal.item-returns-in-Elements-clause-complete
item-returns-in-Elements-clause-complete t c =
    hole_taken c.args.self.now.cursor c.args.self.now.cursor c.args.self.now.pairs.items c.args.self.now.pairs.items c.args.list.now c.push_hole.new.self c.args.high c.push_hole.result c.in-Elements.is c.if-sees_punctuator.ensures.seen refl refl c.push_hole.ensures.pushed c.push_hole.ensures.refused

pub special_item-returns-in_ok-next_template_element-in-Template-clause-complete : goal.special_item-returns-in_ok-next_template_element-in-Template-clause-complete
special_item-returns-in_ok-next_template_element-in-Template-clause-complete t c =
    let settled = c.in_ok-into_expression-in-Template.ensures.settled in
    let first = c.in_ok-push-in-Template.ensures.pushed ∙ ap (with_item c.args.list.now) (c.plain.ensures ∙ ap (λ n. item_from n value false Closed) settled.0) in
    chunk_taken c.args.self.now.cursor c.args.self.now.pairs.items c.args.list.now c.push-in-Template-2.new.self c.args.high c.in-Template.is _ refl c.expression.new.self.cursor c.expression.new.self.pairs.items c.in_ok-part-in-Template.part c.in_ok-part-in-Template.ensures.complete c.next_template_element.new.self.cursor c.next_template_element.new.self.pairs.items c.push-in-Template.new.self c.in_ok-next_template_element-in-Template.field-0 _ c.push-in-Template-2.result c.expression.ensures.text first c.in_ok-next_template_element-in-Template.ensures.read c.in_ok-next_template_element-in-Template.ensures.plain.0 c.in_ok-next_template_element-in-Template.ensures.plain.1
    c.next_template_element.ensures.same_pairs c.push-in-Template-2.ensures.pushed c.push-in-Template-2.ensures.taken

pub special_item-returns-in_ok-item-in-Declarators-clause-complete : goal.special_item-returns-in_ok-item-in-Declarators-clause-complete
special_item-returns-in_ok-item-in-Declarators-clause-complete t c =
    declarator_taken c.args.self.now.cursor c.declarator.new.self.cursor c.args.self.now.pairs.items c.declarator.new.self.pairs.items c.args.list.now c.push-in-Declarators.new.self c.args.high c.in-Declarators.has_in c.in_ok-item-in-Declarators.item _ c.push-in-Declarators.result c.in-Declarators.is c.push-in-Declarators.ensures.pushed c.push-in-Declarators.ensures.taken c.in_ok-item-in-Declarators.ensures.complete

pub special_item-returns-in_ok-finish_plain-in-Cases-clause-complete : goal.special_item-returns-in_ok-finish_plain-in-Cases-clause-complete
special_item-returns-in_ok-finish_plain-in-Cases-clause-complete t c =
    let d = c.in_ok-is_default-in-Cases.is_default in
    let empty : c.if-is_default.built.nodes ≡ case_nodes d none = elim c.if-is_default.branch [
      | special_item-then-is_default+in_ok-push_gap-in-Cases w ↦ ap (λ x. x.nodes) w.built-is ∙ w.in_ok-push_gap-in-Cases.ensures.pushed ∙ ap push_gap (ap (λ x. x.nodes) c.new-built.ensures) ∙ ap (λ b. case_nodes b none) (sym w.if-is_default.true)
      | special_item-else-is_default w ↦ ap (λ x. x.nodes) w.built-is ∙ ap (λ x. x.nodes) c.new-built.ensures ∙ ap (λ b. case_nodes b none) (sym w.if-is_default.false)
    ] in
    let it : ListItem = record { node = c.plain-item.result.node; shape = c.plain-item.result.shape; spreads = c.plain-item.result.spreads; is_flagged = d; edge = c.plain-item.result.edge } in
    let tree : c.plain-item.result.node ≡ node SwitchCase [] plain c.next_start-start.result c.read_symbols.new.self.cursor.last.stop c.read_symbols.new.built.nodes = ap (λ (x : ListItem). x.node) c.plain-item.ensures ∙ c.in_ok-finish_plain-in-Cases.ensures.made.0 ∙ (λ i. node SwitchCase [] plain (c.span_from-span.ensures i).start (c.span_from-span.ensures i).end c.read_symbols.new.built.nodes) in
    let item : it ≡ record { node = node SwitchCase [] plain c.next_start-start.result c.read_symbols.new.self.cursor.last.stop c.read_symbols.new.built.nodes; shape = value; spreads = false; is_flagged = d; edge = Closed } =
    (λ i. record { node = tree i; shape = (c.plain-item.ensures i).shape; spreads = (c.plain-item.ensures i).spreads; is_flagged = d; edge = (c.plain-item.ensures i).edge }) in
    let there : c.if-is_default.self.cursor ≡ c.is_default.new.self.cursor = elim c.if-is_default.branch [
      | special_item-then-is_default+in_ok-push_gap-in-Cases w ↦ ap (λ v. v.cursor) w.self-is
      | special_item-else-is_default w ↦ ap (λ v. v.cursor) w.self-is
    ] in
    let paired : c.if-is_default.self.pairs.items ≡ c.is_default.new.self.pairs.items = elim c.if-is_default.branch [
      | special_item-then-is_default+in_ok-push_gap-in-Cases w ↦ ap (λ v. v.pairs.items) w.self-is
      | special_item-else-is_default w ↦ ap (λ v. v.pairs.items) w.self-is
    ] in
    let read = subst (λ z. SymbolsComplete z c.read_symbols.new.self.cursor c.is_default.new.self.pairs.items c.read_symbols.new.self.pairs.items c.saturating_sub-inner.result (map piece_of c.case_symbols.result.now) c.item-context.result.returns c.if-is_default.built c.read_symbols.new.built (Ok tt)) there
    (subst (λ ps. SymbolsComplete c.if-is_default.self.cursor c.read_symbols.new.self.cursor ps c.read_symbols.new.self.pairs.items c.saturating_sub-inner.result (map piece_of c.case_symbols.result.now) c.item-context.result.returns c.if-is_default.built c.read_symbols.new.built (Ok tt)) paired c.in_ok-read_symbols-in-Cases.ensures.complete) in
    case_taken_given c.args.self.now.cursor c.read_symbols.new.self.cursor c.args.self.now.pairs.items c.read_symbols.new.self.pairs.items c.args.list.now c.push-in-Cases.new.self c.args.high c.in-Cases.returns c.in-Cases.is c.is_default.new.self.cursor c.is_default.new.self.pairs.items c.in_ok-is_default-in-Cases.is_default c.if-is_default.built c.item-context.result c.saturating_sub-inner.result _ c.in_ok-is_default-in-Cases.ensures.accepted c.is_default.ensures.text c.item-context.ensures c.case_symbols.ensures c.saturating_sub-inner.ensures c.read_symbols.new.built _ empty read c.next_start-start.result _ it c.push-in-Cases.result c.next_start-start.ensures.starts item c.is_default.ensures.same_pairs c.push-in-Cases.ensures.pushed c.push-in-Cases.ensures.taken

pub special_item-returns-in_ok-item-in-Sequence-clause-complete : goal.special_item-returns-in_ok-item-in-Sequence-clause-complete
special_item-returns-in_ok-item-in-Sequence-clause-complete t c =
    sequence_item_taken c.args.self.now.cursor c.expression-in-Sequence.new.self.cursor c.args.self.now.pairs.items c.expression-in-Sequence.new.self.pairs.items c.args.list.now c.push-in-Sequence.new.self c.args.high c.in-Sequence.has_in c.at.result c.in_ok-part-in-Sequence.part c.in_ok-item-in-Sequence.item c.next_start-start.result c.expression-in-Sequence.new.self.cursor.last.stop _ c.push-in-Sequence.result c.at.ensures c.in-Sequence.is c.in_ok-item-in-Sequence.ensures.made.0 c.push-in-Sequence.ensures.pushed c.push-in-Sequence.ensures.taken c.in_ok-part-in-Sequence.ensures.complete

pub item-returns-in_ok-item-in_default-clause-complete : goal.item-returns-in_ok-item-in_default-clause-complete
item-returns-in_ok-item-in_default-clause-complete t c =
    let kind : (lists_elements c.args.list.now.listed && not (asks_edge c.args.list.now.listed)) ≡ true = elim c.in_default.branch [
      | item-in_default-via-in-Elements+else-sees_punctuator w ↦ is_an_element c.args.list.now.listed Elements w.in-Elements.is refl
      | item-in_default-via-in_default w ↦ default_kind c.args.list.now.listed w.in_default.not-Properties w.in_default.not-Members w.in_default.not-Template w.in_default.not-Sequence w.in_default.not-Declarators w.in_default.not-Cases
    ] in
    let no_comma : c.args.list.now.listed ≡ Elements → Misses c.args.self.now.cursor.text Punctuator (codes ",") c.args.self.now.cursor.last = elim c.in_default.branch [
      | item-in_default-via-in-Elements+else-sees_punctuator w ↦ λ h. w.if-sees_punctuator.ensures.missed
      | item-in_default-via-in_default w ↦ λ h. absurd (w.in_default.not-Elements h)
    ] in
    of_kind c.args.self.now.cursor c.expression.new.self.cursor c.args.self.now.pairs.items c.expression.new.self.pairs.items c.args.list.now c.push.new.self c.args.high c.push.result kind (λ is. alone_taken c.args.self.now.cursor c.expression.new.self.cursor c.args.self.now.pairs.items c.expression.new.self.pairs.items c.args.list.now c.push.new.self c.args.high is c.args.self.now.cursor c.args.self.now.pairs.items _ c.if-sees_punctuator-2.ensures.missed refl no_comma refl refl c.in_ok-part-in_default.part c.in_ok-item-in_default.item c.next_start-start.result c.expression.new.self.cursor.last.stop _ c.push.result c.in_ok-item-in_default.ensures.made.0 refl c.push.ensures.pushed c.push.ensures.taken c.in_ok-part-in_default.ensures.complete)

pub infix-update_or_comma-requires : goal.infix-update_or_comma-requires
infix-update_or_comma-requires t c = (search rules, (c.in-PostUpdate.is, (c.requires.ahead, (c.requires.real, (c.requires.coded, c.requires.goes)))))

pub special_item-returns-in_default-clause-complete : goal.special_item-returns-in_default-clause-complete
special_item-returns-in_default-clause-complete t c = absurd (false≢true (sym (not_apart c.args.list.now.listed c.in_default.not-Properties c.in_default.not-Members c.in_default.not-Template c.in_default.not-Sequence c.in_default.not-Declarators c.in_default.not-Cases) ∙ c.requires.apart))

pub item-special_item-requires : goal.item-special_item-requires
item-special_item-requires t c = (search rules, is_other_list c.in-Properties.is)

pub item-spread_item-requires : goal.item-spread_item-requires
item-spread_item-requires t c =
    let kind : is_apart c.args.list.now.listed ≡ false = elim c.in_default.branch [
      | item-in_default-via-in-Elements+else-sees_punctuator w ↦ ap is_apart w.in-Elements.is
      | item-in_default-via-in_default w ↦ not_apart c.args.list.now.listed w.in_default.not-Properties w.in_default.not-Members w.in_default.not-Template w.in_default.not-Sequence w.in_default.not-Declarators w.in_default.not-Cases
    ] in
    (search rules, (kind, c.if-sees_punctuator-2.ensures.seen))

pub spread_item-returns-in_err-expect_punctuator-clause-complete : goal.spread_item-returns-in_err-expect_punctuator-clause-complete
spread_item-returns-in_err-expect_punctuator-clause-complete t c = absurd (not_missed c.in_err-expect_punctuator.ensures.missed.0 c.requires.spreads.1)

pub super_expression-returns-then-not-sees_super_continuation-clause-complete : goal.super_expression-returns-then-not-sees_super_continuation-clause-complete
super_expression-returns-then-not-sees_super_continuation-clause-complete t c = λ a h o n from to P next coded word g own.
    let s = c.args.self.now.cursor in
    let u = token_of c.args.token in
    let opens = super_coded s.text.language (as_read u) coded in
    let here = word_here s.text u next (ap is_worded opens) in
    super_missed c.accepts_rank.result (takes c.args.position.rank Call) c.accepts_rank.ensures c.if-not-sees_super_continuation.ensures.missed (super_given s.text here.read (here.begins ∙ opens) g).1.sees

pub keyword_expression-returns-in-Super-clause-derived : goal.keyword_expression-returns-in-Super-clause-derived
keyword_expression-returns-in-Super-clause-derived t c = subst (λ x. IfOk c.super_expression.result (λ part. Adds c.args.self.now.cursor c.super_expression.new.self.cursor c.args.self.now.pairs.items c.super_expression.new.self.pairs.items (WordedAt c.args.self.now.cursor.text c.args.position c.args.token x part))) (sym c.in-Super.is) c.super_expression.ensures.derived

pub keyword_expression-returns-in-Super-clause-complete : goal.keyword_expression-returns-in-Super-clause-complete
keyword_expression-returns-in-Super-clause-complete t c = subst (λ x. KeywordExpressionComplete c.args.self.now.cursor c.super_expression.new.self.cursor c.args.self.now.pairs.items c.super_expression.new.self.pairs.items c.args.high c.args.token x c.args.position c.super_expression.result) (sym c.in-Super.is) c.super_expression.ensures.complete

pub keyword_expression-returns-in-New-clause-derived : goal.keyword_expression-returns-in-New-clause-derived
keyword_expression-returns-in-New-clause-derived t c = subst (λ x. IfOk c.new_expression.result (λ part. Adds c.args.self.now.cursor c.new_expression.new.self.cursor c.args.self.now.pairs.items c.new_expression.new.self.pairs.items (WordedAt c.args.self.now.cursor.text c.args.position c.args.token x part))) (sym c.in-New.is) c.new_expression.ensures.derived

pub keyword_expression-returns-in-New-clause-complete : goal.keyword_expression-returns-in-New-clause-complete
keyword_expression-returns-in-New-clause-complete t c = subst (λ x. KeywordExpressionComplete c.args.self.now.cursor c.new_expression.new.self.cursor c.args.self.now.pairs.items c.new_expression.new.self.pairs.items c.args.high c.args.token x c.args.position c.new_expression.result) (sym c.in-New.is) c.new_expression.ensures.complete

pub keyword_expression-returns-in-Import-clause-derived : goal.keyword_expression-returns-in-Import-clause-derived
keyword_expression-returns-in-Import-clause-derived t c = subst (λ x. IfOk c.import_call.result (λ part. Adds c.args.self.now.cursor c.import_call.new.self.cursor c.args.self.now.pairs.items c.import_call.new.self.pairs.items (WordedAt c.args.self.now.cursor.text c.args.position c.args.token x part))) (sym c.in-Import.is) c.import_call.ensures.derived

pub keyword_expression-returns-in-Import-clause-complete : goal.keyword_expression-returns-in-Import-clause-complete
keyword_expression-returns-in-Import-clause-complete t c = subst (λ x. KeywordExpressionComplete c.args.self.now.cursor c.import_call.new.self.cursor c.args.self.now.pairs.items c.import_call.new.self.pairs.items c.args.high c.args.token x c.args.position c.import_call.result) (sym c.in-Import.is) c.import_call.ensures.complete

pub call_expression-returns-in_err-arguments-clause-complete : goal.call_expression-returns-in_err-arguments-clause-complete
call_expression-returns-in_err-arguments-clause-complete t c = called_refused c.args.self.now.cursor c.args.self.now.cursor c.arguments.new.self.cursor c.args.self.now.pairs.items c.arguments.new.self.pairs.items c.args.high c.args.left Arguments false _ c.in_err-arguments.field-0.0 c.from_residual-in_err-arguments.ensures.1 refl refl c.requires.calls c.arguments.new.self.cursor c.args.self.now.pairs.items c.arguments.new.self.pairs.items c.saturating_sub.result refl c.saturating_sub.ensures c.in_err-arguments.ensures.complete

pub call_expression-returns-in_err-node-clause-complete : goal.call_expression-returns-in_err-node-clause-complete
call_expression-returns-in_err-node-clause-complete t c =
    let s = c.args.self.now.cursor in
    let passed = c.requires.calls in
    let one : c.one-nodes.result ≡ part c.args.left.cover.node none = c.one-nodes.ensures ∙ ap (λ n. part n none) c.in_ok-callee.ensures.settled.0 in
    let nodes : c.append.new.self ≡ part c.args.left.cover.node c.in_ok-arguments.arguments = c.in_ok-append.ensures.joined ∙ (λ i. join (one i) c.in_ok-arguments.arguments) in
    let read = arguments_read_behind Arguments false refl refl refl refl passed c.in_ok-arguments.ensures.derived in
    linked_high c.args.high _ c.args.left _ c.in_err-node.field-0.0 c.from_residual-in_err-node.ensures.1 (link_once s s refl passed read) c.in_err-node.ensures.made.0 c.in_err-node.ensures.made.1 (ap (λ ps. suc (parts_height ps)) nodes)

pub call_expression-returns-clause-complete : goal.call_expression-returns-clause-complete
call_expression-returns-clause-complete t c =
    let s = c.args.self.now.cursor in
    let passed = c.requires.calls in
    let one : c.one-nodes.result ≡ part c.args.left.cover.node none = c.one-nodes.ensures ∙ ap (λ n. part n none) c.in_ok-callee.ensures.settled.0 in
    let nodes : c.append.new.self ≡ part c.args.left.cover.node c.in_ok-arguments.arguments = c.in_ok-append.ensures.joined ∙ (λ i. join (one i) c.in_ok-arguments.arguments) in
    let read = arguments_read_behind Arguments false refl refl refl refl passed c.in_ok-arguments.ensures.derived in
    let object : takes Call c.args.left.rank ≡ true = sym c.accepts_rank.ensures ∙ c.if-not-accepts_rank.false in
    let span = c.span_from-span.ensures in
    let tree : c.in_ok-node.node ≡ node CallExpression [] plain c.args.left.start c.arguments.new.self.cursor.last.stop c.append.new.self = c.in_ok-node.ensures.made.0 ∙ (λ i. node CallExpression [] plain (span i).start (span i).end c.append.new.self) in
    let made : c.plain.result ≡ plain_part (node (link_kind Arguments) [] (link_flags Arguments false) c.args.left.start c.arguments.new.self.cursor.last.stop c.append.new.self) (link_rank Arguments (is_call c.args.left.rank)) Other = c.plain.ensures ∙ ap (λ n. plain_part n Call Other) tree in
    linked_answered c.args.high c.args.left c.plain.result (link_once s s refl passed read) refl nodes made

pub call_expression-returns-clause-derived : goal.call_expression-returns-clause-derived
call_expression-returns-clause-derived t c =
    let s = c.args.self.now.cursor in
    let passed = c.requires.calls in
    let one : c.one-nodes.result ≡ part c.args.left.cover.node none = c.one-nodes.ensures ∙ ap (λ n. part n none) c.in_ok-callee.ensures.settled.0 in
    let nodes : c.append.new.self ≡ part c.args.left.cover.node c.in_ok-arguments.arguments = c.in_ok-append.ensures.joined ∙ (λ i. join (one i) c.in_ok-arguments.arguments) in
    let read = arguments_read_behind Arguments false refl refl refl refl passed c.in_ok-arguments.ensures.derived in
    let object : takes Call c.args.left.rank ≡ true = sym c.accepts_rank.ensures ∙ c.if-not-accepts_rank.false in
    let span = c.span_from-span.ensures in
    let tree : c.in_ok-node.node ≡ node CallExpression [] plain c.args.left.start c.arguments.new.self.cursor.last.stop c.append.new.self = c.in_ok-node.ensures.made.0 ∙ (λ i. node CallExpression [] plain (span i).start (span i).end c.append.new.self) in
    let made : c.plain.result ≡ plain_part (node (link_kind Arguments) [] (link_flags Arguments false) c.args.left.start c.arguments.new.self.cursor.last.stop c.append.new.self) (link_rank Arguments (is_call c.args.left.rank)) Other = c.plain.ensures ∙ ap (λ n. plain_part n Call Other) tree in
    links_read Arguments false (is_call c.args.left.rank) c.in_ok-callee.ensures.settled.1 object refl nodes made read

pub call_expression-returns-clause-own : goal.call_expression-returns-clause-own
call_expression-returns-clause-own t c = λ object.
    let one : c.one-nodes.result ≡ part c.args.left.cover.node none = c.one-nodes.ensures ∙ ap (λ n. part n none) c.in_ok-callee.ensures.settled.0 in
    let nodes : c.append.new.self ≡ part c.args.left.cover.node c.in_ok-arguments.arguments = c.in_ok-append.ensures.joined ∙ (λ i. join (one i) c.in_ok-arguments.arguments) in
    let span = c.span_from-span.ensures in
    let tree : c.in_ok-node.node ≡ node CallExpression [] plain c.args.left.start c.arguments.new.self.cursor.last.stop c.append.new.self = c.in_ok-node.ensures.made.0 ∙ (λ i. node CallExpression [] plain (span i).start (span i).end c.append.new.self) in
    subst (OfLanguage c.args.self.now.cursor.text) (sym (ap (λ (p : Operand). p.cover.node) c.plain.ensures ∙ tree)) (link_own Arguments false nodes c.in_ok-arguments.ensures.own object)

pub index_member-returns-in_err-expect_punctuator-clause-complete : goal.index_member-returns-in_err-expect_punctuator-clause-complete
index_member-returns-in_err-expect_punctuator-clause-complete t c = bracket_refused c.args.self.now.cursor c.args.self.now.cursor c.expect_punctuator.new.self.cursor c.args.self.now.pairs.items c.expect_punctuator.new.self.pairs.items c.args.high c.args.left Index false _ c.in_err-expect_punctuator.field-0.0 c.from_residual-in_err-expect_punctuator.ensures.1 refl refl c.requires.indexes refl c.in_err-expect_punctuator.ensures.missed.0

pub index_member-returns-in_err-index-clause-complete : goal.index_member-returns-in_err-index-clause-complete
index_member-returns-in_err-index-clause-complete t c = index_refused c.args.self.now.cursor c.args.self.now.cursor c.expression.new.self.cursor c.args.self.now.pairs.items c.expression.new.self.pairs.items c.args.high c.args.left Index false _ c.in_err-index.field-0.0 c.from_residual-in_err-index.ensures.1 refl refl c.requires.indexes c.expect_punctuator.new.self.cursor c.expression.new.self.cursor c.expect_punctuator.new.self.pairs.items c.expression.new.self.pairs.items c.saturating_sub-inner.result refl c.expect_punctuator.ensures.text c.expect_punctuator.ensures.same_open c.in_ok-expect_punctuator.ensures.accepted.0 c.saturating_sub-inner.ensures c.in_err-index.ensures.complete

pub index_member-returns-in_err-into_expression-2-clause-complete : goal.index_member-returns-in_err-into_expression-2-clause-complete
index_member-returns-in_err-into_expression-2-clause-complete t c = index_unsettled c.args.self.now.cursor c.args.self.now.cursor c.expression.new.self.cursor c.args.self.now.pairs.items c.expression.new.self.pairs.items c.args.high c.args.left Index false _ c.in_err-into_expression-2.field-0.0 c.from_residual-in_err-into_expression-2.ensures.1 refl refl c.requires.indexes c.expect_punctuator.new.self.cursor c.expression.new.self.cursor c.expect_punctuator.new.self.pairs.items c.expression.new.self.pairs.items c.saturating_sub-inner.result refl c.expect_punctuator.ensures.text c.expect_punctuator.ensures.same_open c.in_ok-expect_punctuator.ensures.accepted.0 c.saturating_sub-inner.ensures c.in_ok-index.index c.in_ok-index.ensures.complete c.in_err-into_expression-2.ensures.settled.1

pub index_member-returns-in_err-expect_punctuator-2-clause-complete : goal.index_member-returns-in_err-expect_punctuator-2-clause-complete
index_member-returns-in_err-expect_punctuator-2-clause-complete t c = unclosed_refused c.args.self.now.cursor c.args.self.now.cursor c.expect_punctuator-2.new.self.cursor c.args.self.now.pairs.items c.expect_punctuator-2.new.self.pairs.items c.args.high c.args.left Index false _ c.in_err-expect_punctuator-2.field-0.0 c.from_residual-in_err-expect_punctuator-2.ensures.1 refl refl c.requires.indexes c.expect_punctuator.new.self.cursor c.expression.new.self.cursor c.expect_punctuator.new.self.pairs.items c.expression.new.self.pairs.items c.saturating_sub-inner.result refl c.expect_punctuator.ensures.text c.expect_punctuator.ensures.same_open c.in_ok-expect_punctuator.ensures.accepted.0 c.saturating_sub-inner.ensures c.in_ok-index.index c.in_ok-index.ensures.complete c.expression.ensures.text c.in_err-expect_punctuator-2.ensures.missed.0

pub index_member-returns-in_err-node-clause-complete : goal.index_member-returns-in_err-node-clause-complete
index_member-returns-in_err-node-clause-complete t c =
    let s = c.args.self.now.cursor in
    let passed = c.requires.indexes in
    let index = c.in_ok-index.index in
    let one : c.one-nodes.result ≡ part c.args.left.cover.node none = c.one-nodes.ensures ∙ ap (λ n. part n none) c.in_ok-into_expression.ensures.settled.0 in
    let nodes : c.push.new.self ≡ part c.args.left.cover.node (part index.cover.node none) = c.in_ok-push.ensures.pushed ∙ (λ i. push (one i) (c.in_ok-into_expression-2.ensures.settled.0 i)) in
    let read = index_read Index false refl refl refl refl passed c.expect_punctuator.ensures.text c.expect_punctuator.ensures.same_open c.expect_punctuator.ensures.same_pairs c.in_ok-expect_punctuator.ensures.accepted.0 refl refl refl c.expression.ensures.text c.in_ok-index.ensures.derived c.in_ok-into_expression-2.ensures.settled.1
    c.expect_punctuator-2.ensures.same_open c.expect_punctuator-2.ensures.same_pairs c.in_ok-expect_punctuator-2.ensures.accepted.0 in
    linked_high c.args.high _ c.args.left _ c.in_err-node.field-0.0 c.from_residual-in_err-node.ensures.1 (link_once s s refl passed read) c.in_err-node.ensures.made.0 c.in_err-node.ensures.made.1 (ap (λ ps. suc (parts_height ps)) nodes)

pub index_member-returns-clause-complete : goal.index_member-returns-clause-complete
index_member-returns-clause-complete t c =
    let s = c.args.self.now.cursor in
    let passed = c.requires.indexes in
    let index = c.in_ok-index.index in
    let one : c.one-nodes.result ≡ part c.args.left.cover.node none = c.one-nodes.ensures ∙ ap (λ n. part n none) c.in_ok-into_expression.ensures.settled.0 in
    let nodes : c.push.new.self ≡ part c.args.left.cover.node (part index.cover.node none) = c.in_ok-push.ensures.pushed ∙ (λ i. push (one i) (c.in_ok-into_expression-2.ensures.settled.0 i)) in
    let read = index_read Index false refl refl refl refl passed c.expect_punctuator.ensures.text c.expect_punctuator.ensures.same_open c.expect_punctuator.ensures.same_pairs c.in_ok-expect_punctuator.ensures.accepted.0 refl refl refl c.expression.ensures.text c.in_ok-index.ensures.derived c.in_ok-into_expression-2.ensures.settled.1
    c.expect_punctuator-2.ensures.same_open c.expect_punctuator-2.ensures.same_pairs c.in_ok-expect_punctuator-2.ensures.accepted.0 in
    let object : takes Call c.args.left.rank ≡ true = sym c.accepts_rank.ensures ∙ c.if-not-accepts_rank.false in
    let called : c.match-matches.matches ≡ is_call c.args.left.rank = elim c.match-matches.branch [ index_member-in-Call w ↦ w.matches-is ∙ call_is c.args.left.rank w.in-Call.is | index_member-in_default w ↦ w.matches-is ∙ call_is_not c.args.left.rank w.in_default.not-Call ] in
    let span = c.span_from-span.ensures in
    let tree : c.in_ok-node.node ≡ node (link_kind Index) [] (link_flags Index false) c.args.left.start c.expect_punctuator-2.new.self.cursor.last.stop c.push.new.self = c.in_ok-node.ensures.made.0 ∙ (λ i. node MemberExpression [] (c.flags-flags.ensures i) (span i).start (span i).end c.push.new.self) in
    let made : c.plain.result ≡ plain_part (node (link_kind Index) [] (link_flags Index false) c.args.left.start c.expect_punctuator-2.new.self.cursor.last.stop c.push.new.self) (link_rank Index c.match-matches.matches) Other = c.plain.ensures ∙ (λ i. plain_part (tree i) (c.rank.ensures i) Other) in
    linked_answered c.args.high c.args.left c.plain.result (link_once s s refl passed read) called nodes made

pub index_member-returns-clause-derived : goal.index_member-returns-clause-derived
index_member-returns-clause-derived t c =
    let s = c.args.self.now.cursor in
    let passed = c.requires.indexes in
    let index = c.in_ok-index.index in
    let one : c.one-nodes.result ≡ part c.args.left.cover.node none = c.one-nodes.ensures ∙ ap (λ n. part n none) c.in_ok-into_expression.ensures.settled.0 in
    let nodes : c.push.new.self ≡ part c.args.left.cover.node (part index.cover.node none) = c.in_ok-push.ensures.pushed ∙ (λ i. push (one i) (c.in_ok-into_expression-2.ensures.settled.0 i)) in
    let read = index_read Index false refl refl refl refl passed c.expect_punctuator.ensures.text c.expect_punctuator.ensures.same_open c.expect_punctuator.ensures.same_pairs c.in_ok-expect_punctuator.ensures.accepted.0 refl refl refl c.expression.ensures.text c.in_ok-index.ensures.derived c.in_ok-into_expression-2.ensures.settled.1
    c.expect_punctuator-2.ensures.same_open c.expect_punctuator-2.ensures.same_pairs c.in_ok-expect_punctuator-2.ensures.accepted.0 in
    let object : takes Call c.args.left.rank ≡ true = sym c.accepts_rank.ensures ∙ c.if-not-accepts_rank.false in
    let called : c.match-matches.matches ≡ is_call c.args.left.rank = elim c.match-matches.branch [ index_member-in-Call w ↦ w.matches-is ∙ call_is c.args.left.rank w.in-Call.is | index_member-in_default w ↦ w.matches-is ∙ call_is_not c.args.left.rank w.in_default.not-Call ] in
    let span = c.span_from-span.ensures in
    let tree : c.in_ok-node.node ≡ node (link_kind Index) [] (link_flags Index false) c.args.left.start c.expect_punctuator-2.new.self.cursor.last.stop c.push.new.self = c.in_ok-node.ensures.made.0 ∙ (λ i. node MemberExpression [] (c.flags-flags.ensures i) (span i).start (span i).end c.push.new.self) in
    let made : c.plain.result ≡ plain_part (node (link_kind Index) [] (link_flags Index false) c.args.left.start c.expect_punctuator-2.new.self.cursor.last.stop c.push.new.self) (link_rank Index c.match-matches.matches) Other = c.plain.ensures ∙ (λ i. plain_part (tree i) (c.rank.ensures i) Other) in
    links_read Index false c.match-matches.matches c.in_ok-into_expression.ensures.settled.1 object called nodes made read

pub index_member-returns-clause-own : goal.index_member-returns-clause-own
index_member-returns-clause-own t c = λ object.
    let index = c.in_ok-index.index in
    let one : c.one-nodes.result ≡ part c.args.left.cover.node none = c.one-nodes.ensures ∙ ap (λ n. part n none) c.in_ok-into_expression.ensures.settled.0 in
    let nodes : c.push.new.self ≡ part c.args.left.cover.node (part index.cover.node none) = c.in_ok-push.ensures.pushed ∙ (λ i. push (one i) (c.in_ok-into_expression-2.ensures.settled.0 i)) in
    let span = c.span_from-span.ensures in
    let tree : c.in_ok-node.node ≡ node (link_kind Index) [] (link_flags Index false) c.args.left.start c.expect_punctuator-2.new.self.cursor.last.stop c.push.new.self = c.in_ok-node.ensures.made.0 ∙ (λ i. node MemberExpression [] (c.flags-flags.ensures i) (span i).start (span i).end c.push.new.self) in
    subst (OfLanguage c.args.self.now.cursor.text) (sym (ap (λ (p : Operand). p.cover.node) c.plain.ensures ∙ tree)) (link_own Index false nodes (of_part (subst (λ x. OfLanguage x index.cover.node) c.expect_punctuator.ensures.text c.in_ok-index.ensures.own) of_none) object)

pub index_member-returns-clause-passes : goal.index_member-returns-clause-passes
index_member-returns-clause-passes t c =
    let start = c.args.self.now.cursor in
    let second = passes_further start c.expect_punctuator.new.self.cursor c.expression.new.self.cursor c.in_ok-expect_punctuator.ensures.passes c.expression.ensures.forward in
    passes_further start c.expression.new.self.cursor c.expect_punctuator-2.new.self.cursor second c.expect_punctuator-2.ensures.forward

pub one_token-returns-in_err-node-clause-complete : goal.one_token-returns-in_err-node-clause-complete
one_token-returns-in_err-node-clause-complete t c = λ a h o n to P g own.
    let s = c.args.self.now.cursor in
    let up = has_height n in
    let above = c.in_err-node.ensures.made in
    agrees_err (Room s o (height n) c.args.high) (FirstWith s c.advance.new.self.cursor c.args.self.now.pairs.items c.advance.new.self.pairs.items a h n to P) c.from_residual.result c.in_err-node.field-0.0 c.from_residual.ensures.1
    (refuses_high (Room s o (height n) c.args.high) 1 c.args.high c.in_err-node.field-0.0 above.0 above.1 (λ room. let l = room.1 in omega arith))

pub private_in-returns-in_err-left-clause-complete : goal.private_in-returns-in_err-left-clause-complete
private_in-returns-in_err-left-clause-complete t c = λ a h o n from to P next coded word g own.
    let s = c.args.self.now.cursor in
    let u = token_of c.args.token in
    let given = private_given s.text u next (private_passed s.text.language (as_read u) coded) (private_coded s.text.language (as_read u) coded) g in
    let v = given.1 in
    let less = c.saturating_sub-inner.ensures in
    let tall = private_low v in
    let above = c.in_err-left.ensures.made in
    agrees_err (Room s o (height n) c.args.high) (FirstWith s s c.args.self.now.pairs.items c.args.self.now.pairs.items a h n to P) c.from_residual.result c.in_err-left.field-0.0 c.from_residual.ensures.1
    (refuses_high (Room s o (height n) c.args.high) (height (single_node PrivateIdentifier u)) c.saturating_sub-inner.result c.in_err-left.field-0.0 above.0 above.1 (λ room. let l = room.1 in omega arith))

pub private_in-returns-in_err-expect_word-clause-complete : goal.private_in-returns-in_err-expect_word-clause-complete
private_in-returns-in_err-expect_word-clause-complete t c = λ a h o n from to P next coded word g own.
    let s = c.args.self.now.cursor in
    let u = token_of c.args.token in
    let given = private_given s.text u next (private_passed s.text.language (as_read u) coded) (private_coded s.text.language (as_read u) coded) g in
    let v = given.1 in
    let less = c.saturating_sub-inner.ensures in
    let tall = private_low v in
    absurd (not_missed c.in_err-expect_word.ensures.missed.0 v.word)

pub private_in-returns-in_err-right-clause-complete : goal.private_in-returns-in_err-right-clause-complete
private_in-returns-in_err-right-clause-complete t c = λ a h o n from to P next coded word g own.
    let s = c.args.self.now.cursor in
    let u = token_of c.args.token in
    let given = private_given s.text u next (private_passed s.text.language (as_read u) coded) (private_coded s.text.language (as_read u) coded) g in
    let v = given.1 in
    let less = c.saturating_sub-inner.ensures in
    let tall = private_low v in
    let m = c.expect_word.new.self.cursor in
    let at : m.last ≡ v.mid = (words_same s.text c.in_ok-expect_word.ensures.accepted.0 v.word).1 in
    let there = expression_given c.expect_word.ensures.text at c.at.ensures (λ e. cc) (λ e. cc) v.spelled v.stopped in
    let inner = private_own v c.expect_word.ensures.text own in
    agrees_on (Room m o (height v.operand) c.saturating_sub-inner.result) (Room s o (height n) c.args.high) (FirstWith s c.expression.new.self.cursor c.args.self.now.pairs.items c.expression.new.self.pairs.items a h n to P) c.from_residual-in_err-right.result c.in_err-right.field-0.0 c.from_residual-in_err-right.ensures.1
    (c.in_err-right.ensures.complete as_expression o v.operand to P there inner) (room_part s m c.expect_word.ensures.same_open (λ l. omega arith))

pub private_in-returns-in_err-into_expression-clause-complete : goal.private_in-returns-in_err-into_expression-clause-complete
private_in-returns-in_err-into_expression-clause-complete t c = λ a h o n from to P next coded word g own.
    let s = c.args.self.now.cursor in
    let u = token_of c.args.token in
    let given = private_given s.text u next (private_passed s.text.language (as_read u) coded) (private_coded s.text.language (as_read u) coded) g in
    let v = given.1 in
    let less = c.saturating_sub-inner.ensures in
    let tall = private_low v in
    let m = c.expect_word.new.self.cursor in
    let at : m.last ≡ v.mid = (words_same s.text c.in_ok-expect_word.ensures.accepted.0 v.word).1 in
    let there = expression_given c.expect_word.ensures.text at c.at.ensures (λ e. cc) (λ e. cc) v.spelled v.stopped in
    let inner = private_own v c.expect_word.ensures.text own in
    let answer = c.in_ok-right.ensures.complete as_expression o v.operand to P there inner in
    absurd (false≢true (sym c.in_err-into_expression.ensures.settled.1 ∙ answer.0.fits))

pub private_in-returns-clause-derived : goal.private_in-returns-clause-derived
private_in-returns-clause-derived t c =
    let span = c.span_from-span.ensures in
    let parts = c.two-nodes.ensures in
    private_worded c.args.token c.args.position c.at.result c.in_ok-left.left c.in_ok-into_expression.field-0 c.in_ok-node.node c.expect_word.ensures.text c.expect_word.ensures.same_open c.expect_word.ensures.same_pairs c.in_ok-left.ensures.made.0 c.in_ok-expect_word.ensures.accepted.0 c.at.ensures c.in_ok-right.ensures.derived
    c.in_ok-into_expression.ensures.settled.1 c.in_ok-into_expression.ensures.settled.0 (c.in_ok-node.ensures.made.0 ∙ (λ i. node BinaryExpression (codes "in") plain (span i).start (span i).end (parts i))) c.plain.ensures

pub private_in-returns-clause-complete : goal.private_in-returns-clause-complete
private_in-returns-clause-complete t c = λ a h o n from to P next coded word g own.
    let s = c.args.self.now.cursor in
    let u = token_of c.args.token in
    let given = private_given s.text u next (private_passed s.text.language (as_read u) coded) (private_coded s.text.language (as_read u) coded) g in
    let v = given.1 in
    let less = c.saturating_sub-inner.ensures in
    let tall = private_low v in
    let m = c.expect_word.new.self.cursor in
    let at : m.last ≡ v.mid = (words_same s.text c.in_ok-expect_word.ensures.accepted.0 v.word).1 in
    let there = expression_given c.expect_word.ensures.text at c.at.ensures (λ e. cc) (λ e. cc) v.spelled v.stopped in
    let inner = private_own v c.expect_word.ensures.text own in
    let answer = c.in_ok-right.ensures.complete as_expression o v.operand to P there inner in
    let span = c.span_from-span.ensures in
    let parts = c.two-nodes.ensures in
    let same = c.in_ok-node.ensures.made.0 ∙ (λ i. node BinaryExpression (codes "in") plain (span i).start (span i).end (parts i))
    ∙ (λ i. node BinaryExpression (codes "in") plain u.start (answer.1.place i).stop (part (c.in_ok-left.ensures.made.0 i) (part ((c.in_ok-into_expression.ensures.settled.0 ∙ answer.0.tree) i) none))) ∙ sym v.tree in
    (private_first c.in_ok-right.right.edge c.plain.result given.0 same v.tree v.taken c.plain.ensures, ends_behind c.expect_word.ensures.same_pairs answer.1)

pub yield_expression-returns-in_err-node-clause-complete : goal.yield_expression-returns-in_err-node-clause-complete
yield_expression-returns-in_err-node-clause-complete t c = λ a h o n from to P next coded word g own.
    let s = c.args.self.now.cursor in
    let above = c.in_err-node.ensures.made in
    let low = ap parts_height (c.in_ok-push_gap.ensures.pushed ∙ ap push_gap c.new-nodes.ensures) in
    let one = has_height n in
    agrees_err (Room s o (height n) c.args.high) (FirstWith s s c.args.self.now.pairs.items c.args.self.now.pairs.items a h n to P) c.from_residual-in_err-node.result c.in_err-node.field-0.0 c.from_residual-in_err-node.ensures.1
    (refuses_high (Room s o (height n) c.args.high) (suc (parts_height c.push_gap.new.self)) c.args.high c.in_err-node.field-0.0 above.0 above.1 (λ room. let l = room.1 in omega arith))

pub yield_expression-returns-then-sees_no_operand-clause-derived : goal.yield_expression-returns-then-sees_no_operand-clause-derived
yield_expression-returns-then-sees_no_operand-clause-derived t c =
    let span = c.span_from-span.ensures in
    let parts = c.in_ok-push_gap.ensures.pushed ∙ ap push_gap c.new-nodes.ensures in
    yield_bare c.args.token c.args.position c.if-sees_no_operand.ensures.seen (c.in_ok-node.ensures.made.0 ∙ (λ i. node YieldExpression [] plain (span i).start (span i).end (parts i))) c.plain.ensures

pub yield_expression-returns-then-sees_no_operand-clause-complete : goal.yield_expression-returns-then-sees_no_operand-clause-complete
yield_expression-returns-then-sees_no_operand-clause-complete t c = λ a h o n from to P next coded word g own.
    let s = c.args.self.now.cursor in
    let u = token_of c.args.token in
    let opens = yield_coded s.text.language (as_read u) coded in
    let w = word_here s.text u next (ap is_worded opens) in
    let given = yield_given s.text w.read (w.begins ∙ opens) g in
    let v = yield_alone_given given.1 c.if-sees_no_operand.ensures.seen in
    let span = c.span_from-span.ensures in
    let parts = c.in_ok-push_gap.ensures.pushed ∙ ap push_gap c.new-nodes.ensures in
    let same = c.in_ok-node.ensures.made.0 ∙ (λ i. node YieldExpression [] plain (span i).start (span i).end (parts i)) ∙ (λ i. node YieldExpression [] plain (sym w.same i).start (sym v.place i).stop (gap none)) ∙ sym v.tree in
    (yield_first {x = Init} Arrow c.plain.result given.0 same v.tree v.taken c.plain.ensures, ends_same (sym v.pairs) (ends_none (sym v.place) refl))

pub yield_expression-returns-in_err-operand-clause-complete : goal.yield_expression-returns-in_err-operand-clause-complete
yield_expression-returns-in_err-operand-clause-complete t c = λ a h o n from to P next coded word g own.
    let s = c.args.self.now.cursor in
    let u = token_of c.args.token in
    let opens = yield_coded s.text.language (as_read u) coded in
    let w = word_here s.text u next (ap is_worded opens) in
    let given = yield_given s.text w.read (w.begins ∙ opens) g in
    let m = c.starred-flags.new.self.cursor in
    let v = operand_given s m given.1 (yield_later s.text.language (as_read u) coded) c.if-sees_no_operand.ensures.missed c.starred-flags.ensures.starred in
    let there = expression_given c.starred-flags.ensures.text refl c.at-place.ensures (λ e. cc) (λ e. cc) v.spelled v.stopped in
    let inner = yield_own v c.starred-flags.ensures.text own in
    let less = c.saturating_sub.ensures in
    let tall = yield_low v in
    agrees_on (Room m o (height v.operand) c.saturating_sub.result) (Room s o (height n) c.args.high) (FirstWith s c.expression.new.self.cursor c.args.self.now.pairs.items c.expression.new.self.pairs.items a h n to P) c.from_residual-in_err-operand.result c.in_err-operand.field-0.0 c.from_residual-in_err-operand.ensures.1
    (c.in_err-operand.ensures.complete as_expression o v.operand to P there inner) (room_part s m c.starred-flags.ensures.same_open (λ l. omega arith))

pub yield_expression-returns-in_err-into_expression-clause-complete : goal.yield_expression-returns-in_err-into_expression-clause-complete
yield_expression-returns-in_err-into_expression-clause-complete t c = λ a h o n from to P next coded word g own.
    let s = c.args.self.now.cursor in
    let u = token_of c.args.token in
    let opens = yield_coded s.text.language (as_read u) coded in
    let w = word_here s.text u next (ap is_worded opens) in
    let given = yield_given s.text w.read (w.begins ∙ opens) g in
    let m = c.starred-flags.new.self.cursor in
    let v = operand_given s m given.1 (yield_later s.text.language (as_read u) coded) c.if-sees_no_operand.ensures.missed c.starred-flags.ensures.starred in
    let there = expression_given c.starred-flags.ensures.text refl c.at-place.ensures (λ e. cc) (λ e. cc) v.spelled v.stopped in
    let inner = yield_own v c.starred-flags.ensures.text own in
    let less = c.saturating_sub.ensures in
    let tall = yield_low v in
    let answer = c.in_ok-operand.ensures.complete as_expression o v.operand to P there inner in
    absurd (false≢true (sym c.in_err-into_expression.ensures.settled.1 ∙ answer.0.fits))

pub yield_expression-returns-clause-derived : goal.yield_expression-returns-clause-derived
yield_expression-returns-clause-derived t c =
    let span = c.span_from-span-2.ensures in
    let parts = c.in_ok-push.ensures.pushed ∙ ap (λ ps. push ps c.in_ok-into_expression.field-0) c.new-nodes.ensures in
    yield_worded c.args.token c.args.position c.at-place.result c.starred-flags.result c.in_ok-into_expression.field-0 c.in_ok-node-2.node c.starred-flags.ensures.text c.starred-flags.ensures.same_open c.starred-flags.ensures.same_pairs c.if-sees_no_operand.ensures.missed c.starred-flags.ensures.starred c.at-place.ensures c.in_ok-operand.ensures.derived
    c.in_ok-into_expression.ensures.settled.1 c.in_ok-into_expression.ensures.settled.0 (c.in_ok-node-2.ensures.made.0 ∙ (λ i. node YieldExpression [] (record plain { form = c.starred-flags.result }) (span i).start (span i).end (parts i))) c.plain-2.ensures

pub yield_expression-returns-clause-complete : goal.yield_expression-returns-clause-complete
yield_expression-returns-clause-complete t c = λ a h o n from to P next coded word g own.
    let s = c.args.self.now.cursor in
    let u = token_of c.args.token in
    let opens = yield_coded s.text.language (as_read u) coded in
    let w = word_here s.text u next (ap is_worded opens) in
    let given = yield_given s.text w.read (w.begins ∙ opens) g in
    let m = c.starred-flags.new.self.cursor in
    let v = operand_given s m given.1 (yield_later s.text.language (as_read u) coded) c.if-sees_no_operand.ensures.missed c.starred-flags.ensures.starred in
    let there = expression_given c.starred-flags.ensures.text refl c.at-place.ensures (λ e. cc) (λ e. cc) v.spelled v.stopped in
    let inner = yield_own v c.starred-flags.ensures.text own in
    let less = c.saturating_sub.ensures in
    let tall = yield_low v in
    let answer = c.in_ok-operand.ensures.complete as_expression o v.operand to P there inner in
    let span = c.span_from-span-2.ensures in
    let parts = c.in_ok-push.ensures.pushed ∙ ap (λ ps. push ps c.in_ok-into_expression.field-0) c.new-nodes.ensures in
    let same = c.in_ok-node-2.ensures.made.0 ∙ (λ i. node YieldExpression [] (record plain { form = c.starred-flags.result }) (span i).start (span i).end (parts i))
    ∙ (λ i. node YieldExpression [] (record plain { form = c.starred-flags.result }) (sym w.same i).start (answer.1.place i).stop (part ((c.in_ok-into_expression.ensures.settled.0 ∙ answer.0.tree) i) none)) ∙ sym v.tree in
    (yield_first {x = c.starred-flags.result} c.in_ok-operand.operand.edge c.plain-2.result given.0 same v.tree v.taken c.plain-2.ensures, ends_behind c.starred-flags.ensures.same_pairs answer.1)

pub prefix_expression-returns-clause-own : goal.prefix_expression-returns-clause-own
prefix_expression-returns-clause-own t c =
    let s = c.args.self.now.cursor in
    let e = c.expression.new.self.cursor in
    let u = token_of c.args.token in
    let r = c.in_ok-operand.operand in
    yields_ok (prefixed_part (is_prefix_update u.text) u.text u.start e.last.stop r) (IsPlaceHere e) (takes_operand (is_prefix_update u.text) r.cover.shape) (height (prefixed_node (is_prefix_update u.text) u.text u.start e.last.stop r.cover.node)) c.args.high (λ part. OfLanguage s.text part.cover.node) c.prefix_operand.result c.prefix_operand.ensures.made (λ fits low.
    prefix_language s.text u c.args.own c.args.side c.requires.ahead c.requires.coded u.start e.last.stop r (subst (λ x. OfLanguage x r.cover.node) c.advance.ensures.text c.in_ok-operand.ensures.own))

pub one_token-returns-clause-own : goal.one_token-returns-clause-own
one_token-returns-clause-own t c =
    let s = c.args.self.now.cursor in
    subst (λ part. OfLanguage s.text part.cover.node) (sym (c.plain.ensures ∙ ap (λ n. plain_part n Primary Other) c.in_ok-node.ensures.made.0)) (single_language s.text s.text.language (token_of c.args.token) c.args.kind c.requires.coded)

pub one_token-returns-then-accepts_rank-clause-own : goal.one_token-returns-then-accepts_rank-clause-own
one_token-returns-then-accepts_rank-clause-own t c =
    let s = c.args.self.now.cursor in
    let m = c.advance.new.self.cursor in
    let parameter = c.one-parameter.ensures ∙ ap (λ n. part n none) c.in_ok-node.ensures.made.0 in
    let first = single_language m.text s.text.language (token_of c.args.token) c.args.kind c.requires.coded in
    ok_map (λ r. AllOfLanguage m.text c.one-parameter.result → FormOfLanguage m.text Init → OfLanguage m.text r.cover.node) (λ r. OfLanguage s.text r.cover.node) c.arrow_function.result c.arrow_function.ensures.own (λ r f.
    subst (λ x. OfLanguage x r.cover.node) c.advance.ensures.text (f (subst (AllOfLanguage m.text) (sym parameter) (of_part first of_none)) (λ b. refl)))

pub bracketed_list-returns-clause-own : goal.bracketed_list-returns-clause-own
bracketed_list-returns-clause-own t c =
    let s = c.args.self.now.cursor in
    let l = c.in_ok-list-2.list in
    makes_ok (listed_part l) (height (listed_node l)) c.args.high (λ part. OfLanguage s.text part.cover.node) c.finish_list.result c.finish_list.ensures.made (λ low.
    list_language s.text l (subst (λ x. AllOfLanguage x l.nodes) c.open.ensures.text (c.in_ok-list-2.ensures.own (subst (λ x. AllOfLanguage x c.in_ok-list.list.nodes) (sym c.open.ensures.text) c.in_ok-list.ensures.own))))

pub leftmost_operand-bracketed_list-requires : goal.leftmost_operand-bracketed_list-requires
leftmost_operand-bracketed_list-requires t c = (search rules, (c.in-Some.ensures.ahead, (subst BeginsList c.in-List.is c.in-Some.ensures.list, (c.in-Some.ensures.coded ∙ ap Some c.in-List.is, stands_plainly c.args.self.now.cursor.text c.args.position (as_read (token_of c.in-Some.token)) _ c.in-List.is (λ e. cc) c.in-Some.ensures.stands))))

pub leftmost_operand-prefix_expression-requires : goal.leftmost_operand-prefix_expression-requires
leftmost_operand-prefix_expression-requires t c = (search rules, (c.in-Some.ensures.ahead, (c.in-Some.ensures.real, (c.in-Some.ensures.coded ∙ ap Some c.in-Prefix.is, stands_plainly c.args.self.now.cursor.text c.args.position (as_read (token_of c.in-Some.token)) _ c.in-Prefix.is (λ e. cc) c.in-Some.ensures.stands))))

pub leftmost_operand-one_token-requires : goal.leftmost_operand-one_token-requires
leftmost_operand-one_token-requires t c = (search rules, (c.in-Some.ensures.ahead, (c.in-Some.ensures.real, c.in-Some.ensures.coded ∙ ap Some c.in-OneToken.is)))

pub keyword_expression-returns-in-Yield-clause-derived : goal.keyword_expression-returns-in-Yield-clause-derived
keyword_expression-returns-in-Yield-clause-derived t c = subst (λ x. IfOk c.yield_expression.result (λ part. Adds c.args.self.now.cursor c.yield_expression.new.self.cursor c.args.self.now.pairs.items c.yield_expression.new.self.pairs.items (WordedAt c.args.self.now.cursor.text c.args.position c.args.token x part))) (sym c.in-Yield.is) c.yield_expression.ensures.derived

pub keyword_expression-returns-in-Yield-clause-complete : goal.keyword_expression-returns-in-Yield-clause-complete
keyword_expression-returns-in-Yield-clause-complete t c = subst (λ x. KeywordExpressionComplete c.args.self.now.cursor c.yield_expression.new.self.cursor c.args.self.now.pairs.items c.yield_expression.new.self.pairs.items c.args.high c.args.token x c.args.position c.yield_expression.result) (sym c.in-Yield.is) c.yield_expression.ensures.complete

pub keyword_expression-returns-in-PrivateName-clause-derived : goal.keyword_expression-returns-in-PrivateName-clause-derived
keyword_expression-returns-in-PrivateName-clause-derived t c = subst (λ x. IfOk c.private_in.result (λ part. Adds c.args.self.now.cursor c.private_in.new.self.cursor c.args.self.now.pairs.items c.private_in.new.self.pairs.items (WordedAt c.args.self.now.cursor.text c.args.position c.args.token x part))) (sym c.in-PrivateName.is) c.private_in.ensures.derived

pub keyword_expression-returns-in-PrivateName-clause-complete : goal.keyword_expression-returns-in-PrivateName-clause-complete
keyword_expression-returns-in-PrivateName-clause-complete t c = subst (λ x. KeywordExpressionComplete c.args.self.now.cursor c.private_in.new.self.cursor c.args.self.now.pairs.items c.private_in.new.self.pairs.items c.args.high c.args.token x c.args.position c.private_in.result) (sym c.in-PrivateName.is) c.private_in.ensures.complete

pub keyword_expression-returns-in-Async-clause-derived : goal.keyword_expression-returns-in-Async-clause-derived
keyword_expression-returns-in-Async-clause-derived t c = ok_map (λ r. Adds c.args.self.now.cursor c.async_expression.new.self.cursor c.args.self.now.pairs.items c.async_expression.new.self.pairs.items (NamedAsync c.args.self.now.cursor.text c.args.position r)) (λ r. Adds c.args.self.now.cursor c.async_expression.new.self.cursor c.args.self.now.pairs.items c.async_expression.new.self.pairs.items (WordedAt c.args.self.now.cursor.text c.args.position c.args.token c.args.opening r)) c.async_expression.result c.async_expression.ensures.derived (λ r a. named_worded c.args.token c.in-Async.is a)

pub keyword_expression-returns-in-Async-clause-complete : goal.keyword_expression-returns-in-Async-clause-complete
keyword_expression-returns-in-Async-clause-complete t c = named_complete c.args.self.now.cursor c.async_expression.new.self.cursor c.args.self.now.pairs.items c.async_expression.new.self.pairs.items c.args.high c.args.token c.async_expression.result c.in-Async.is c.async_expression.ensures.complete

pub keyword_expression-returns-in-Async-clause-own : goal.keyword_expression-returns-in-Async-clause-own
keyword_expression-returns-in-Async-clause-own t c = each_ok (λ part. coded_in c.args.self.now.cursor.text.language (as_read (token_of c.args.token)) ≡ Some c.args.opening → OfLanguage c.args.self.now.cursor.text part.cover.node) c.async_expression.result (λ part coded. later_tree c.args.self.now.cursor.text part.cover.node ((async_told c.args.self.now.cursor.text.language (as_read (token_of c.args.token)) (coded ∙ ap Some c.in-Async.is)).2))

pub keyword_expression-returns-in-Yield-clause-own : goal.keyword_expression-returns-in-Yield-clause-own
keyword_expression-returns-in-Yield-clause-own t c = each_ok (λ part. coded_in c.args.self.now.cursor.text.language (as_read (token_of c.args.token)) ≡ Some c.args.opening → OfLanguage c.args.self.now.cursor.text part.cover.node) c.yield_expression.result (λ part coded. later_tree c.args.self.now.cursor.text part.cover.node (yield_later c.args.self.now.cursor.text.language (as_read (token_of c.args.token)) (coded ∙ ap Some c.in-Yield.is)))

pub keyword_expression-returns-in-PrivateName-clause-own : goal.keyword_expression-returns-in-PrivateName-clause-own
keyword_expression-returns-in-PrivateName-clause-own t c = each_ok (λ part. coded_in c.args.self.now.cursor.text.language (as_read (token_of c.args.token)) ≡ Some c.args.opening → OfLanguage c.args.self.now.cursor.text part.cover.node) c.private_in.result (λ part coded. later_tree c.args.self.now.cursor.text part.cover.node (private_later c.args.self.now.cursor.text.language (as_read (token_of c.args.token)) (coded ∙ ap Some c.in-PrivateName.is)))

pub keyword_expression-returns-in-Super-clause-own : goal.keyword_expression-returns-in-Super-clause-own
keyword_expression-returns-in-Super-clause-own t c = ok_map (λ part. OfLanguage c.args.self.now.cursor.text part.cover.node) (λ part. coded_in c.args.self.now.cursor.text.language (as_read (token_of c.args.token)) ≡ Some c.args.opening → OfLanguage c.args.self.now.cursor.text part.cover.node) c.super_expression.result c.super_expression.ensures.own (λ part h coded. h)

pub keyword_expression-returns-in-New-clause-own : goal.keyword_expression-returns-in-New-clause-own
keyword_expression-returns-in-New-clause-own t c = ok_map (λ part. coded_in c.args.self.now.cursor.text.language (as_read (token_of c.args.token)) ≡ Some New → OfLanguage c.args.self.now.cursor.text part.cover.node) (λ part. coded_in c.args.self.now.cursor.text.language (as_read (token_of c.args.token)) ≡ Some c.args.opening → OfLanguage c.args.self.now.cursor.text part.cover.node) c.new_expression.result c.new_expression.ensures.own (λ part f coded. f (coded ∙ ap Some c.in-New.is))

pub keyword_expression-returns-in-Import-clause-own : goal.keyword_expression-returns-in-Import-clause-own
keyword_expression-returns-in-Import-clause-own t c = ok_map (λ part. OfLanguage c.args.self.now.cursor.text part.cover.node) (λ part. coded_in c.args.self.now.cursor.text.language (as_read (token_of c.args.token)) ≡ Some c.args.opening → OfLanguage c.args.self.now.cursor.text part.cover.node) c.import_call.result c.import_call.ensures.own (λ part h coded. h)

pub keyword_expression-returns-in_ok-node-in-Function-clause-own : goal.keyword_expression-returns-in_ok-node-in-Function-clause-own
keyword_expression-returns-in_ok-node-in-Function-clause-own t c = λ coded. subst (λ r. OfLanguage c.args.self.now.cursor.text r.cover.node) (sym c.plain.ensures) (subst (λ x. OfLanguage x c.in_ok-node-in-Function.node) c.starred.ensures.text (c.in_ok-node-in-Function.ensures.own (starred_form c.args.self.now.cursor c.starred.new.self.cursor c.starred.ensures.starred c.starred.ensures.text)))

pub keyword_expression-returns-in_ok-node-in-Class-clause-own : goal.keyword_expression-returns-in_ok-node-in-Class-clause-own
keyword_expression-returns-in_ok-node-in-Class-clause-own t c = λ coded. subst (λ r. OfLanguage c.args.self.now.cursor.text r.cover.node) (sym c.plain-in-Class.ensures) (c.in_ok-node-in-Class.ensures.own (λ base. refl))

pub new_expression-returns-then-accept_punctuator-clause-own : goal.new_expression-returns-then-accept_punctuator-clause-own
new_expression-returns-then-accept_punctuator-clause-own t c =
    let s = c.args.self.now.cursor in
    let u = token_of c.args.token in
    let e = c.meta_property.new.self.cursor in
    ok_map (λ part. ReadsHere c.accept_punctuator.new.self.cursor.text IdentifierName (codes "target") c.accept_punctuator.new.self.cursor.last e.last × (part ≡ plain_part (target_node u e.last) Member Other) × (2 ≤ c.args.high)) (λ part. coded_in s.text.language (as_read u) ≡ Some New → OfLanguage s.text part.cover.node) c.meta_property.result c.meta_property.ensures.target
    (λ part h coded. subst (λ r. OfLanguage s.text r.cover.node) (sym h.1) (target_language s.text u e.last coded))

pub new_expression-returns-clause-own : goal.new_expression-returns-clause-own
new_expression-returns-clause-own t c = λ coded.
    let s = c.args.self.now.cursor in
    let callee = c.in_ok-callee.callee in
    let first = c.one-nodes.ensures ∙ ap (λ n. part n none) c.in_ok-into_expression.ensures.settled.0 in
    let before : OfLanguage s.text callee.cover.node = subst (λ x. OfLanguage x callee.cover.node) c.accept_punctuator.ensures.text c.in_ok-callee.ensures.own in
    let all : AllOfLanguage s.text c.if-sees_punctuator.nodes =
    elim c.if-sees_punctuator.branch [
      | new_expression-then-sees_punctuator+in_ok-arguments+in_ok-append w ↦
          subst (AllOfLanguage s.text) (sym (w.nodes-is ∙ w.in_ok-append.ensures.joined ∙ ap (λ ps. join ps w.in_ok-arguments.field-0) first))
          (of_part before (subst (λ x. AllOfLanguage x w.in_ok-arguments.field-0) (c.expression.ensures.text ∙ c.accept_punctuator.ensures.text) w.in_ok-arguments.ensures.own))
      | new_expression-else-sees_punctuator w ↦ subst (AllOfLanguage s.text) (sym (w.nodes-is ∙ first)) (of_part before of_none)
    ] in
    let span = c.span_from-span.ensures in
    let tree = c.in_ok-node.ensures.made.0 ∙ (λ i. node NewExpression [] plain (span i).start (span i).end c.if-sees_punctuator.nodes) in
    subst (λ r. OfLanguage s.text r.cover.node) (sym (c.plain.ensures ∙ ap (λ n. plain_part n c.if-sees_punctuator.rank Other) tree)) (of_node (λ b. refl) all)

pub super_expression-returns-in_err-refuse_private_name-clause-complete : goal.super_expression-returns-in_err-refuse_private_name-clause-complete
super_expression-returns-in_err-refuse_private_name-clause-complete t c = λ a h o n from to P next coded word g own.
    let s = c.args.self.now.cursor in
    let u = token_of c.args.token in
    let opens = super_coded s.text.language (as_read u) coded in
    let w = word_here s.text u next (ap is_worded opens) in
    let v = super_given s.text w.read (w.begins ∙ opens) g in
    let seen = c.in_err-refuse_private_name.ensures.private in
    super_private v.1 seen.3 seen.4 seen.5

pub super_expression-returns-clause-own : goal.super_expression-returns-clause-own
super_expression-returns-clause-own t c =
    let s = c.args.self.now.cursor in
    let left : OfLanguage s.text c.plain.result.cover.node = subst (λ l. OfLanguage s.text l.cover.node) (sym (c.plain.ensures ∙ ap (λ n. plain_part n Primary Other) c.in_ok-node.ensures.made.0)) (of_node (λ b. refl) of_none) in
    ok_map (λ part. OfLanguage s.text c.plain.result.cover.node → OfLanguage s.text part.cover.node) (λ part. OfLanguage s.text part.cover.node) c.subscript.result c.subscript.ensures.own (λ part f. f left)

pub import_call-returns-clause-own : goal.import_call-returns-clause-own
import_call-returns-clause-own t c =
    let s = c.args.self.now.cursor in
    let k = c.else-is_of_2022.self.cursor in
    let same_text : k.text ≡ s.text = elim c.else-is_of_2022.branch [ import_call-else-is_of_2022-via-then-is_of_2022+else-accept_punctuator w ↦ ap (λ (v : Parser). v.cursor.text) w.self-is ∙ w.accept_punctuator.ensures.text | import_call-else-is_of_2022-via-else-is_of_2022 w ↦ ap (λ (v : Parser). v.cursor.text) w.self-is ] in
    let same_last : k.last ≡ s.last = elim c.else-is_of_2022.branch [ import_call-else-is_of_2022-via-then-is_of_2022+else-accept_punctuator w ↦ ap (λ (v : Parser). v.cursor.last) w.self-is ∙ w.if-accept_punctuator.ensures.missed.1 | import_call-else-is_of_2022-via-else-is_of_2022 w ↦ ap (λ (v : Parser). v.cursor.last) w.self-is ] in
    let same_open : k.opened ≡ s.opened = elim c.else-is_of_2022.branch [ import_call-else-is_of_2022-via-then-is_of_2022+else-accept_punctuator w ↦ ap (λ (v : Parser). v.cursor.opened) w.self-is ∙ w.accept_punctuator.ensures.same_open | import_call-else-is_of_2022-via-else-is_of_2022 w ↦ ap (λ (v : Parser). v.cursor.opened) w.self-is ] in
    let same_pairs : c.else-is_of_2022.self.pairs.items ≡ c.args.self.now.pairs.items = elim c.else-is_of_2022.branch [ import_call-else-is_of_2022-via-then-is_of_2022+else-accept_punctuator w ↦ ap (λ (v : Parser). v.pairs.items) w.self-is ∙ w.accept_punctuator.ensures.same_pairs | import_call-else-is_of_2022-via-else-is_of_2022 w ↦ ap (λ (v : Parser). v.pairs.items) w.self-is ] in
    let source : OfLanguage s.text c.in_ok-into_expression.field-0 = subst (OfLanguage s.text) (sym c.in_ok-into_expression.ensures.settled.0) (subst (λ x. OfLanguage x c.in_ok-source.source.cover.node) (c.expect_punctuator.ensures.text ∙ same_text) c.in_ok-source.ensures.own) in
    let span = c.span_from-span.ensures in
    let tree = c.in_ok-node.ensures.made.0 ∙ (λ i. node ImportExpression [] plain (span i).start (span i).end (c.one-nodes.ensures i)) in
    subst (λ r. OfLanguage s.text r.cover.node) (sym (c.plain.ensures ∙ ap (λ n. plain_part n Call Other) tree)) (of_node (λ b. refl) (of_part source of_none))

pub import_call-returns-then-accept_punctuator-clause-derived : goal.import_call-returns-then-accept_punctuator-clause-derived
import_call-returns-then-accept_punctuator-clause-derived t c =
    meta_worded c.args.self.now.cursor c.accept_punctuator.new.self.cursor c.meta_property.new.self.cursor c.args.token c.args.position Import c.args.high c.meta_property.result refl c.accept_punctuator.ensures.text (c.meta_property.ensures.same_open ∙ c.accept_punctuator.ensures.same_open)
    (c.meta_property.ensures.same_pairs ∙ c.accept_punctuator.ensures.same_pairs) c.if-accept_punctuator.ensures.accepted c.meta_property.ensures.target

pub import_call-returns-then-accept_punctuator-clause-own : goal.import_call-returns-then-accept_punctuator-clause-own
import_call-returns-then-accept_punctuator-clause-own t c = each_ok (λ part. OfLanguage c.args.self.now.cursor.text part.cover.node) c.meta_property.result (λ part. later_tree c.args.self.now.cursor.text part.cover.node (sym c.is_of_2022.ensures ∙ c.if-is_of_2022.true))

pub import_call-returns-then-accept_punctuator-clause-complete : goal.import_call-returns-then-accept_punctuator-clause-complete
import_call-returns-then-accept_punctuator-clause-complete t c = λ a h o n from to P next coded word g own.
    let s = c.args.self.now.cursor in
    let u = token_of c.args.token in
    let opens = import_coded s.text.language (as_read u) coded in
    let w = word_here s.text u next (ap is_worded opens) in
    meta_agrees s c.accept_punctuator.new.self.cursor c.meta_property.new.self.cursor c.args.self.now.pairs.items c.meta_property.new.self.pairs.items c.args.high u c.meta_property.result (import_begun s.text w.read (w.begins ∙ opens) g own) w.same c.accept_punctuator.ensures.text c.if-accept_punctuator.ensures.accepted
    (c.meta_property.ensures.same_pairs ∙ c.accept_punctuator.ensures.same_pairs) c.meta_property.ensures.target c.meta_property.ensures.no_target

pub async_call-returns-in_err-list-2-clause-complete : goal.async_call-returns-in_err-list-2-clause-complete
async_call-returns-in_err-list-2-clause-complete t c =
    async_list_refused c.args.self.now.cursor c.open.new.self.cursor c.args.self.now.pairs.items c.open.new.self.pairs.items c.args.high c.saturating_sub-inner.result c.args.position c.args.token c.in_ok-list.list c.in_ok-list.ensures.listed c.open.ensures.text c.open.ensures.same_open c.open.ensures.same_pairs c.saturating_sub-inner.ensures c.in_ok-list.ensures.begun
    c.list.new.self.cursor c.list.new.self.cursor c.list.new.self.pairs.items c.list.new.self.pairs.items c.from_residual-in_err-list-2.result c.in_err-list-2.field-0.0 c.from_residual-in_err-list-2.ensures.1 c.in_err-list-2.ensures.complete

pub async_call-returns-in_err-parameters-clause-complete : goal.async_call-returns-in_err-parameters-clause-complete
async_call-returns-in_err-parameters-clause-complete t c =
    let sign = c.if-sees_arrow.ensures.seen in
    async_unbound c.args.self.now.cursor c.open.new.self.cursor c.args.self.now.pairs.items c.open.new.self.pairs.items c.args.high c.saturating_sub-inner.result c.args.position c.args.token c.in_ok-list.list c.in_ok-list.ensures.listed c.open.ensures.text c.open.ensures.same_open c.open.ensures.same_pairs c.saturating_sub-inner.ensures c.in_ok-list.ensures.begun
    c.list.new.self.cursor c.list.new.self.pairs.items c.in_ok-list-2.list c.in_ok-list-2.ensures.same.0 c.in_ok-list-2.ensures.complete sign.0 (c.list.ensures.text ∙ c.open.ensures.text) sign.1 sign.2
    c.list.new.self.cursor c.list.new.self.pairs.items c.from_residual-in_err-parameters.result c.in_err-parameters.field-0.0 (pattern_parts 0 c.in_ok-list-2.list.nodes) c.next_start-at.result c.from_residual-in_err-parameters.ensures.1 c.in_err-parameters.ensures.made

pub async_call-returns-then-sees_arrow-clause-derived : goal.async_call-returns-then-sees_arrow-clause-derived
async_call-returns-then-sees_arrow-clause-derived t c =
    let s = c.args.self.now.cursor in
    let k = c.list.new.self.cursor in
    let e = c.arrow_function.new.self in
    let a = async_list c.in_ok-list.list c.in_ok-list-2.list c.open.ensures.text c.open.ensures.same_open c.open.ensures.same_pairs c.in_ok-list.ensures.listed c.in_ok-list.ensures.begun c.in_ok-list-2.ensures.derived in
    let is = c.in_ok-list-2.ensures.same.0 ∙ c.in_ok-list.ensures.listed in
    let sign = c.if-sees_arrow.ensures.seen in
    ok_map (λ r. Adds k e.cursor c.list.new.self.pairs.items e.pairs.items (ArrowAt k.text Async c.args.position.has_in c.in_ok-parameters.parameters c.args.token.start r)) (λ r. Adds s e.cursor c.args.self.now.pairs.items e.pairs.items (AsyncAt s.text c.args.position c.args.token r)) c.arrow_function.result c.arrow_function.ensures.derived
    (λ r b. async_arrow s k c.args.position c.args.token c.in_ok-list-2.list is a sign.0 (c.list.ensures.text ∙ c.open.ensures.text) refl c.in_ok-parameters.ensures.made.1 c.in_ok-parameters.ensures.made.0 refl sign.1 sign.2 b)

pub async_call-returns-then-sees_arrow-clause-complete : goal.async_call-returns-then-sees_arrow-clause-complete
async_call-returns-then-sees_arrow-clause-complete t c =
    let sign = c.if-sees_arrow.ensures.seen in
    async_arrow_agrees c.args.self.now.cursor c.open.new.self.cursor c.args.self.now.pairs.items c.open.new.self.pairs.items c.args.high c.saturating_sub-inner.result c.args.position c.args.token c.in_ok-list.list c.in_ok-list.ensures.listed c.open.ensures.text c.open.ensures.same_open c.open.ensures.same_pairs c.saturating_sub-inner.ensures c.in_ok-list.ensures.begun
    c.list.new.self.cursor c.list.new.self.pairs.items c.in_ok-list-2.list c.in_ok-list-2.ensures.same.0 c.in_ok-list-2.ensures.complete sign.0 (c.list.ensures.text ∙ c.open.ensures.text) sign.1 sign.2
    c.arrow_function.new.self.cursor c.arrow_function.new.self.pairs.items c.list.new.self.pairs.items c.in_ok-parameters.parameters c.args.token.start c.arrow_function.result (c.in_ok-list-2.ensures.derived.same_open ∙ c.open.ensures.same_open) refl c.in_ok-parameters.ensures.made.0 refl c.arrow_function.ensures.derived c.arrow_function.ensures.complete

pub async_call-returns-clause-derived : goal.async_call-returns-clause-derived
async_call-returns-clause-derived t c =
    let s = c.args.self.now.cursor in
    let k = c.list.new.self.cursor in
    let l = c.in_ok-list-2.list in
    let a = async_list c.in_ok-list.list l c.open.ensures.text c.open.ensures.same_open c.open.ensures.same_pairs c.in_ok-list.ensures.listed c.in_ok-list.ensures.begun c.in_ok-list-2.ensures.derived in
    let is = c.in_ok-list-2.ensures.same.0 ∙ c.in_ok-list.ensures.listed in
    let call = async_call_node (token_of c.args.token) k.last.stop l.nodes in
    yields_ok (plain_part call Call Other) (IsPlaceHere k) l.seen.shape.is_expression (height call) c.args.high (λ r. Adds s k c.args.self.now.pairs.items c.list.new.self.pairs.items (AsyncAt s.text c.args.position c.args.token r)) c.call_of_async.result c.call_of_async.ensures.made
    (λ fits low. async_called s k c.args.position c.args.token l is a refl refl refl fits refl)

pub async_call-returns-clause-complete : goal.async_call-returns-clause-complete
async_call-returns-clause-complete t c =
    let s = c.args.self.now.cursor in
    let k = c.list.new.self.cursor in
    async_call_agrees s c.open.new.self.cursor c.args.self.now.pairs.items c.open.new.self.pairs.items c.args.high c.saturating_sub-inner.result c.args.position c.args.token c.in_ok-list.list c.in_ok-list.ensures.listed c.open.ensures.text c.open.ensures.same_open c.open.ensures.same_pairs c.saturating_sub-inner.ensures c.in_ok-list.ensures.begun
    k c.list.new.self.pairs.items c.in_ok-list-2.list c.in_ok-list-2.ensures.same.0 c.in_ok-list-2.ensures.complete k c.list.new.self.pairs.items (IsPlaceHere k) c.call_of_async.result (arrow_missed s k k refl (c.list.ensures.text ∙ c.open.ensures.text) c.if-sees_arrow.ensures.missed) refl refl c.call_of_async.ensures.made

pub arrow_of_name-returns-clause-derived : goal.arrow_of_name-returns-clause-derived
arrow_of_name-returns-clause-derived t c =
    let s = c.args.self.now in
    let e = c.arrow_function.new.self in
    let parts = c.one-parameters.ensures in
    subst (λ ps. IfOk c.arrow_function.result (λ made. Adds s.cursor e.cursor s.pairs.items e.pairs.items (ArrowAt s.cursor.text c.args.form c.args.has_in ps c.args.start made))) parts c.arrow_function.ensures.derived

pub arrow_of_name-returns-clause-complete : goal.arrow_of_name-returns-clause-complete
arrow_of_name-returns-clause-complete t c =
    let s = c.args.self.now in
    let e = c.arrow_function.new.self in
    let parts = c.one-parameters.ensures in
    subst (λ ps. ArrowComplete s.cursor e.cursor s.pairs.items e.pairs.items c.args.high ps c.args.start c.args.form c.args.has_in c.arrow_function.result) parts c.arrow_function.ensures.complete

pub async_expression-function_form-requires : goal.async_expression-function_form-requires
async_expression-function_form-requires t c = record { first = inr (refl, async_unbroken c.args.self.now.cursor c.args.position c.in-Function.ensures) }

pub async_expression-returns-in_err-node-in-Function-clause-complete : goal.async_expression-returns-in_err-node-in-Function-clause-complete
async_expression-returns-in_err-node-in-Function-clause-complete t c =
    let words = c.in_ok-function_form-in-Function.ensures.words in
    async_function_refused c.args.self.now.cursor c.function_or_class.new.self.cursor c.args.self.now.pairs.items c.function_or_class.new.self.pairs.items c.args.high c.args.position c.last_token-token.result c.last_token-token.ensures
    c.function_form.new.self.cursor c.function_form.new.self.pairs.items c.in_ok-function_form-in-Function.field-0 c.last_token-token.result.start c.in-Function.ensures c.function_form.ensures.text c.function_form.ensures.same_open c.function_form.ensures.same_pairs words.0 words.1 refl
    c.from_residual-in_err-node-in-Function.result c.in_err-node-in-Function.field-0.0 c.from_residual-in_err-node-in-Function.ensures.1 c.in_err-node-in-Function.ensures.complete

pub async_expression-returns-in_ok-node-in-Function-clause-derived : goal.async_expression-returns-in_ok-node-in-Function-clause-derived
async_expression-returns-in_ok-node-in-Function-clause-derived t c =
    let words = c.in_ok-function_form-in-Function.ensures.words in
    async_closure c.args.self.now.cursor c.function_or_class.new.self.cursor c.args.position c.last_token-token.result c.last_token-token.ensures {m = c.function_form.new.self.cursor} {y = c.in_ok-function_form-in-Function.field-0} c.in-Function.ensures c.function_form.ensures.text c.function_form.ensures.same_open c.function_form.ensures.same_pairs words.0 words.1 refl c.plain.ensures c.in_ok-node-in-Function.ensures.derived

pub async_expression-returns-in_ok-node-in-Function-clause-complete : goal.async_expression-returns-in_ok-node-in-Function-clause-complete
async_expression-returns-in_ok-node-in-Function-clause-complete t c =
    let words = c.in_ok-function_form-in-Function.ensures.words in
    async_function_read c.args.self.now.cursor c.function_or_class.new.self.cursor c.args.self.now.pairs.items c.function_or_class.new.self.pairs.items c.args.high c.args.position c.last_token-token.result c.last_token-token.ensures
    c.function_form.new.self.cursor c.function_form.new.self.pairs.items c.in_ok-function_form-in-Function.field-0 c.last_token-token.result.start c.in-Function.ensures c.function_form.ensures.text c.function_form.ensures.same_open c.function_form.ensures.same_pairs words.0 words.1 refl
    c.in_ok-node-in-Function.ensures.complete c.plain.ensures

pub async_expression-returns-in_err-parameter-in-Parameter-clause-complete : goal.async_expression-returns-in_err-parameter-in-Parameter-clause-complete
async_expression-returns-in_err-parameter-in-Parameter-clause-complete t c =
    let named = c.in_ok-name-in-Parameter.ensures.accepted in
    async_name_refused c.args.self.now.cursor c.identifier.new.self.cursor c.args.self.now.pairs.items c.identifier.new.self.pairs.items c.args.high c.args.position c.last_token-token.result c.last_token-token.ensures
    c.identifier.new.self.cursor c.identifier.new.self.pairs.items c.in_ok-name-in-Parameter.name c.in-Parameter.ensures c.identifier.ensures.text c.identifier.ensures.same_open c.identifier.ensures.same_pairs named.0 named.1
    c.from_residual-in_err-parameter-in-Parameter.result c.in_err-parameter-in-Parameter.field-0.0 c.from_residual-in_err-parameter-in-Parameter.ensures.1 c.in_err-parameter-in-Parameter.ensures.made

pub async_expression-returns-in_ok-parameter-in-Parameter-clause-derived : goal.async_expression-returns-in_ok-parameter-in-Parameter-clause-derived
async_expression-returns-in_ok-parameter-in-Parameter-clause-derived t c =
    let s = c.args.self.now.cursor in
    let m = c.identifier.new.self.cursor in
    let e = c.arrow_of_name.new.self in
    let token = c.last_token-token.result in
    let named = c.in_ok-name-in-Parameter.ensures.accepted in
    ok_map (λ r. Adds m e.cursor c.identifier.new.self.pairs.items e.pairs.items (ArrowAt m.text Async c.args.position.has_in (push none c.in_ok-parameter-in-Parameter.parameter) token.start r)) (λ r. Adds s e.cursor c.args.self.now.pairs.items e.pairs.items (NamedAsync s.text c.args.position r)) c.arrow_of_name.result c.arrow_of_name.ensures.derived
    (λ r a. async_one_name s e.cursor c.args.position token c.last_token-token.ensures c.in_ok-name-in-Parameter.name c.in-Parameter.ensures c.identifier.ensures.text c.identifier.ensures.same_open c.identifier.ensures.same_pairs named.0 named.1 c.in_ok-parameter-in-Parameter.ensures.made.0 refl refl a)

pub async_expression-returns-in_ok-parameter-in-Parameter-clause-complete : goal.async_expression-returns-in_ok-parameter-in-Parameter-clause-complete
async_expression-returns-in_ok-parameter-in-Parameter-clause-complete t c =
    let named = c.in_ok-name-in-Parameter.ensures.accepted in
    async_name_arrow c.args.self.now.cursor c.arrow_of_name.new.self.cursor c.args.self.now.pairs.items c.arrow_of_name.new.self.pairs.items c.args.high c.args.position c.last_token-token.result c.last_token-token.ensures
    c.identifier.new.self.cursor c.identifier.new.self.pairs.items c.in_ok-name-in-Parameter.name c.in-Parameter.ensures c.identifier.ensures.text c.identifier.ensures.same_open c.identifier.ensures.same_pairs named.0 named.1
    c.arrow_of_name.result c.in_ok-parameter-in-Parameter.ensures.made.0 refl refl c.arrow_of_name.ensures.derived c.arrow_of_name.ensures.complete

pub async_expression-returns-then-accepts_rank-clause-derived : goal.async_expression-returns-then-accepts_rank-clause-derived
async_expression-returns-then-accepts_rank-clause-derived t c =
    let s = c.args.self.now.cursor in
    let e = c.arrow_of_name-then-accepts_rank.new.self in
    let token = c.last_token-token.result in
    let sign = c.if-sees_arrow.ensures.seen in
    ok_map (λ r. Adds s e.cursor c.args.self.now.pairs.items e.pairs.items (ArrowAt s.text Init c.args.position.has_in (push none c.in_ok-node-in-Name.node) token.start r)) (λ r. Adds s e.cursor c.args.self.now.pairs.items e.pairs.items (NamedAsync s.text c.args.position r)) c.arrow_of_name-then-accepts_rank.result c.arrow_of_name-then-accepts_rank.ensures.derived
    (λ r a. async_single s e.cursor c.args.position token c.last_token-token.ensures sign.0 c.in_ok-node-in-Name.ensures.made.0 refl refl sign.1 sign.2 (sym c.accepts_rank.ensures ∙ c.if-accepts_rank.true) a)

pub async_expression-returns-then-accepts_rank-clause-complete : goal.async_expression-returns-then-accepts_rank-clause-complete
async_expression-returns-then-accepts_rank-clause-complete t c =
    let s = c.args.self.now.cursor in
    let e = c.arrow_of_name-then-accepts_rank.new.self in
    let sign = c.if-sees_arrow.ensures.seen in
    async_alone_arrow s e.cursor c.args.self.now.pairs.items e.pairs.items c.args.high c.args.position c.last_token-token.result c.last_token-token.ensures c.in-Name.ensures
    c.arrow_of_name-then-accepts_rank.result sign.0 c.in_ok-node-in-Name.ensures.made.0 refl refl sign.1 sign.2 (sym c.accepts_rank.ensures ∙ c.if-accepts_rank.true) c.arrow_of_name-then-accepts_rank.ensures.derived c.arrow_of_name-then-accepts_rank.ensures.complete

pub async_expression-returns-else-sees_arrow-clause-derived : goal.async_expression-returns-else-sees_arrow-clause-derived
async_expression-returns-else-sees_arrow-clause-derived t c =
    async_alone c.args.self.now.cursor c.args.self.now.cursor c.args.position c.last_token-token.result c.last_token-token.ensures refl refl refl c.in_ok-node-in-Name.ensures.made.0 c.plain-in-Name.ensures

pub async_expression-returns-else-sees_arrow-clause-complete : goal.async_expression-returns-else-sees_arrow-clause-complete
async_expression-returns-else-sees_arrow-clause-complete t c =
    let s = c.args.self.now.cursor in
    async_alone_read s s c.args.self.now.pairs.items c.args.self.now.pairs.items c.args.high c.args.position c.last_token-token.result c.last_token-token.ensures c.in-Name.ensures
    (λ x sign line tk. elim c.else-sees_arrow.branch [
      | async_expression-else-sees_arrow-via-then-sees_arrow+else-accepts_rank w ↦ absurd (false≢true (sym w.if-accepts_rank.false ∙ w.accepts_rank.ensures ∙ tk))
      | async_expression-else-sees_arrow-via-else-sees_arrow w ↦ absurd (false≢true (sym line ∙ w.if-sees_arrow.ensures.missed (behind_in s.text x) x sign))
    ]) c.in_ok-node-in-Name.ensures.made.0 c.plain-in-Name.ensures refl refl

-- What waits behind what waited before.
pub arguments-returns-clause-waits : goal.arguments-returns-clause-waits
arguments-returns-clause-waits t c = c.in_ok-list-2.ensures.waits c.args.self.now.tree c.in_ok-list.ensures.waits

pub arrow_function-returns-then-sees_punctuator-clause-waits : goal.arrow_function-returns-then-sees_punctuator-clause-waits
arrow_function-returns-then-sees_punctuator-clause-waits t c = λ base h.
    let first = c.expect_punctuator.ensures.same_tree ∙ h ∙ ap (λ b. join base b.nodes) (sym c.of-built.ensures) in
    c.in_ok-node.ensures.waits base (c.in_ok-read_symbols.ensures.waits base first) ∙ ap (λ (p : Operand). push base p.cover.node) (sym c.plain.ensures)

pub arrow_function-returns-clause-waits : goal.arrow_function-returns-clause-waits
arrow_function-returns-clause-waits t c = λ base h.
    let first = c.expect_punctuator.ensures.same_tree ∙ h ∙ ap (λ b. join base b.nodes) (sym c.of-built.ensures) in
    let whole = waits_on base c.of-built.result.nodes c.in_ok-into_expression.field-0 first c.in_ok-body.ensures.waits c.in_ok-into_expression.ensures.settled.0 c.in_ok-push.ensures.pushed in
    c.in_ok-node-2.ensures.waits base whole ∙ ap (λ (p : Operand). push base p.cover.node) (sym c.plain-2.ensures)

pub arrow_of_name-returns-clause-waits : goal.arrow_of_name-returns-clause-waits
arrow_of_name-returns-clause-waits t c = λ base h. c.arrow_function.ensures.waits base (waits_one base h c.one-parameters.ensures)

pub async_call-returns-then-sees_arrow-clause-waits : goal.async_call-returns-then-sees_arrow-clause-waits
async_call-returns-then-sees_arrow-clause-waits t c =
    let old = c.args.self.now.tree in
    c.arrow_function.ensures.waits old (c.in_ok-parameters.ensures.waits old (c.in_ok-list-2.ensures.waits old c.in_ok-list.ensures.waits))

pub async_call-returns-clause-waits : goal.async_call-returns-clause-waits
async_call-returns-clause-waits t c = let old = c.args.self.now.tree in c.call_of_async.ensures.waits old (c.in_ok-list-2.ensures.waits old c.in_ok-list.ensures.waits)

pub async_expression-returns-in_ok-node-in-Function-clause-waits : goal.async_expression-returns-in_ok-node-in-Function-clause-waits
async_expression-returns-in_ok-node-in-Function-clause-waits t c =
    c.in_ok-node-in-Function.ensures.waits ∙ ap (λ ps. push ps c.in_ok-node-in-Function.node) c.function_form.ensures.same_tree ∙ ap (λ (p : Operand). push c.args.self.now.tree p.cover.node) (sym c.plain.ensures)

pub async_expression-returns-in_ok-parameter-in-Parameter-clause-waits : goal.async_expression-returns-in_ok-parameter-in-Parameter-clause-waits
async_expression-returns-in_ok-parameter-in-Parameter-clause-waits t c =
    c.arrow_of_name.ensures.waits c.args.self.now.tree (c.in_ok-parameter-in-Parameter.ensures.waits ∙ ap (λ ps. push ps c.in_ok-parameter-in-Parameter.parameter) c.identifier.ensures.same_tree)

pub async_expression-returns-then-accepts_rank-clause-waits : goal.async_expression-returns-then-accepts_rank-clause-waits
async_expression-returns-then-accepts_rank-clause-waits t c = c.arrow_of_name-then-accepts_rank.ensures.waits c.args.self.now.tree c.in_ok-node-in-Name.ensures.waits

pub async_expression-returns-else-sees_arrow-clause-waits : goal.async_expression-returns-else-sees_arrow-clause-waits
async_expression-returns-else-sees_arrow-clause-waits t c = c.in_ok-node-in-Name.ensures.waits ∙ ap (λ (p : Operand). push c.args.self.now.tree p.cover.node) (sym c.plain-in-Name.ensures)

pub binary_rest-returns-clause-waits : goal.binary_rest-returns-clause-waits
binary_rest-returns-clause-waits t c = λ base h.
    let first = waits_one base (c.advance.ensures.same_tree ∙ c.in_ok-left.ensures.waits base h) c.one-nodes.ensures in
    let before : c.match-next.self.tree ≡ join base c.match-next.nodes = elim c.match-next.branch [
      | binary_rest-in-Question+in_ok-part+in_ok-into_expression+in_ok-push+in_ok-expect_punctuator w ↦
          ap (λ k. k.tree) w.self-is ∙ w.expect_punctuator.ensures.same_tree
          ∙ waits_on base c.one-nodes.result w.in_ok-into_expression.field-0 first w.in_ok-part.ensures.waits w.in_ok-into_expression.ensures.settled.0 (w.nodes-is ∙ w.in_ok-push.ensures.pushed)
      | binary_rest-in_default w ↦ ap (λ k. k.tree) w.self-is ∙ first ∙ ap (join base) (sym w.nodes-is)
    ] in
    c.in_ok-node.ensures.waits base (waits_on base c.match-next.nodes c.in_ok-into_expression-2.field-0 before c.in_ok-right.ensures.waits c.in_ok-into_expression-2.ensures.settled.0 c.in_ok-push-2.ensures.pushed)

pub bracketed_list-returns-clause-waits : goal.bracketed_list-returns-clause-waits
bracketed_list-returns-clause-waits t c = let old = c.args.self.now.tree in c.finish_list.ensures.waits old (c.in_ok-list-2.ensures.waits old c.in_ok-list.ensures.waits)

pub call_expression-returns-clause-waits : goal.call_expression-returns-clause-waits
call_expression-returns-clause-waits t c = λ base h.
    let first = waits_first base h c.in_ok-callee.ensures.settled.0 c.one-nodes.ensures in
    let whole = waits_join base c.one-nodes.result c.in_ok-arguments.arguments first c.in_ok-arguments.ensures.waits c.in_ok-append.ensures.joined in
    c.in_ok-node.ensures.waits base whole ∙ ap (λ (p : Operand). push base p.cover.node) (sym c.plain.ensures)

pub declarator-returns-clause-waits : goal.declarator-returns-clause-waits
declarator-returns-clause-waits t c =
    let old = c.args.self.now.tree in
    let first = waits_one old (c.in_ok-name.ensures.waits old c.in_ok-part.ensures.waits) c.one-nodes.ensures in
    let equals = c.accept_punctuator-has_value.ensures.same_tree in
    let whole : c.if-has_value.self.tree ≡ join old c.if-has_value.nodes = elim c.if-has_value.branch [
      | declarator-then-has_value+in_ok-value+in_ok-into_expression+in_ok-push w ↦
          ap (λ v. v.tree) w.self-is ∙ waits_on old c.one-nodes.result w.in_ok-into_expression.field-0 (equals ∙ first) w.in_ok-value.ensures.waits w.in_ok-into_expression.ensures.settled.0 (w.nodes-is ∙ w.in_ok-push.ensures.pushed)
      | declarator-else-has_value+in_ok-push_gap w ↦
          ap (λ v. v.tree) w.self-is ∙ waits_gap old c.one-nodes.result (equals ∙ first) w.in_ok-push_gap.ensures.waits (w.nodes-is ∙ w.in_ok-push_gap.ensures.pushed)
    ] in
    c.in_ok-node.ensures.waits old whole ∙ ap (λ (i : ListItem). push old i.node) (sym c.plain-item.ensures)

pub field-returns-clause-waits : goal.field-returns-clause-waits
field-returns-clause-waits t c = λ base h.
    let first = waits_one base h c.one-nodes.ensures in
    let equals = c.accept_punctuator.ensures.same_tree in
    let whole : c.if-accept_punctuator.self.tree ≡ join base c.if-accept_punctuator.nodes = elim c.if-accept_punctuator.branch [
      | field-then-accept_punctuator+in_ok-value+in_ok-into_expression+in_ok-push w ↦
          ap (λ v. v.tree) w.self-is ∙ waits_on base c.one-nodes.result w.in_ok-into_expression.field-0 (equals ∙ first) w.in_ok-value.ensures.waits w.in_ok-into_expression.ensures.settled.0 (w.nodes-is ∙ w.in_ok-push.ensures.pushed)
      | field-else-accept_punctuator+in_ok-push_gap w ↦
          ap (λ v. v.tree) w.self-is ∙ waits_gap base c.one-nodes.result (equals ∙ first) w.in_ok-push_gap.ensures.waits (w.nodes-is ∙ w.in_ok-push_gap.ensures.pushed)
    ] in
    c.in_ok-node.ensures.waits base whole ∙ ap (λ (i : ListItem). push base i.node) (sym c.plain.ensures)

pub for_await-returns-clause-waits : goal.for_await-returns-clause-waits
for_await-returns-clause-waits t c =
    let old = c.args.self.now.tree in
    c.finish_node.ensures.waits old (c.in_ok-read_symbols-2.ensures.waits old (c.in_ok-read_symbols.ensures.waits old (waits_none (ap (λ d. d.nodes) c.new-built.ensures))))

pub function_or_class-returns-clause-waits : goal.function_or_class-returns-clause-waits
function_or_class-returns-clause-waits t c =
    let old = c.args.self.now.tree in
    c.finish_node.ensures.waits old (c.in_ok-read_symbols.ensures.waits old (c.in_ok-function_or_class_name.ensures.waits ∙ ap (λ b. join old b.nodes) (sym c.of-built.ensures)))

pub import_call-returns-then-accept_punctuator-clause-waits : goal.import_call-returns-then-accept_punctuator-clause-waits
import_call-returns-then-accept_punctuator-clause-waits t c = waits_behind _ (λ (p : Operand). p.cover.node) c.meta_property.result c.accept_punctuator.ensures.same_tree c.meta_property.ensures.waits

pub import_call-returns-clause-waits : goal.import_call-returns-clause-waits
import_call-returns-clause-waits t c =
    let old = c.args.self.now.tree in
    let same : c.else-is_of_2022.self.tree ≡ old = elim c.else-is_of_2022.branch [
      | import_call-else-is_of_2022-via-then-is_of_2022+else-accept_punctuator w ↦ ap (λ (v : Parser). v.tree) w.self-is ∙ w.accept_punctuator.ensures.same_tree
      | import_call-else-is_of_2022-via-else-is_of_2022 w ↦ ap (λ (v : Parser). v.tree) w.self-is
    ] in
    let read = c.in_ok-source.ensures.waits ∙ ap (λ ps. push ps c.in_ok-source.source.cover.node) (c.expect_punctuator.ensures.same_tree ∙ same) in
    let whole = c.expect_punctuator-2.ensures.same_tree ∙ waits_first old read c.in_ok-into_expression.ensures.settled.0 c.one-nodes.ensures in
    c.in_ok-node.ensures.waits old whole ∙ ap (λ (p : Operand). push old p.cover.node) (sym c.plain.ensures)

pub index_member-returns-clause-waits : goal.index_member-returns-clause-waits
index_member-returns-clause-waits t c = λ base h.
    let first = waits_first base h c.in_ok-into_expression.ensures.settled.0 c.one-nodes.ensures in
    let whole = waits_on base c.one-nodes.result c.in_ok-into_expression-2.field-0 (c.expect_punctuator.ensures.same_tree ∙ first) c.in_ok-index.ensures.waits c.in_ok-into_expression-2.ensures.settled.0 c.in_ok-push.ensures.pushed in
    c.in_ok-node.ensures.waits base (c.expect_punctuator-2.ensures.same_tree ∙ whole) ∙ ap (λ (p : Operand). push base p.cover.node) (sym c.plain.ensures)

pub item-returns-in-Elements-clause-waits : goal.item-returns-in-Elements-clause-waits
item-returns-in-Elements-clause-waits t c = λ base h. hole_waits _ _ _ base c.args.list.now h c.push_hole.result c.push_hole.ensures.waits c.push_hole.ensures.pushed

pub item-returns-in_ok-item-in_default-clause-waits : goal.item-returns-in_ok-item-in_default-clause-waits
item-returns-in_ok-item-in_default-clause-waits t c = λ base h.
    item_waits _ _ base c.args.list.now c.in_ok-item-in_default.item h (c.in_ok-item-in_default.ensures.waits c.args.self.now.tree c.in_ok-part-in_default.ensures.waits) c.push.result c.push.ensures.pushed

pub list-returns-clause-waits : goal.list-returns-clause-waits
list-returns-clause-waits t c = λ base h.
    let items : c.items-test.self.tree ≡ join base c.items-test.list.nodes = elim c.items-test.branch [
      | list-else-items-test w ↦ ap (λ v. v.tree) w.self-is ∙ c.has_item.ensures.same_tree ∙ c.items.invariant.waits base h ∙ ap (λ (l : ListBuilder). join base l.nodes) (sym w.list-is)
      | list-then-items-test+in_ok-item+then-not-is_separated w ↦
          let k2 : ListBuilder = record w.item.new.list { inside = w.span_from-list-in-items.result } in
          ap (λ v. v.tree) w.self-is ∙ w.is_separated.ensures.same_tree ∙ w.in_ok-item.ensures.waits base (c.has_item.ensures.same_tree ∙ c.items.invariant.waits base h)
          ∙ ap (join base) (sym (ap (λ (l : ListBuilder). l.nodes) (w.list-is ∙ w.is_separated.ensures.separated) ∙ after_nodes k2 w.is_separated.result))
    ] in
    let closed : c.match-closer.self.tree ≡ c.items-test.self.tree = elim c.match-closer.branch [
      | list-in-Some+in_ok-expect_punctuator w ↦ ap (λ v. v.tree) w.self-is ∙ w.expect_punctuator.ensures.same_tree
      | list-in_default-closer w ↦ ap (λ v. v.tree) w.self-is
    ] in
    closed ∙ items

pub new_expression-returns-then-accept_punctuator-clause-waits : goal.new_expression-returns-then-accept_punctuator-clause-waits
new_expression-returns-then-accept_punctuator-clause-waits t c = waits_behind _ (λ (p : Operand). p.cover.node) c.meta_property.result c.accept_punctuator.ensures.same_tree c.meta_property.ensures.waits

pub new_expression-returns-clause-waits : goal.new_expression-returns-clause-waits
new_expression-returns-clause-waits t c =
    let old = c.args.self.now.tree in
    let read = c.in_ok-callee.ensures.waits ∙ ap (λ ps. push ps c.in_ok-callee.callee.cover.node) c.accept_punctuator.ensures.same_tree in
    let first = waits_first old read c.in_ok-into_expression.ensures.settled.0 c.one-nodes.ensures in
    let whole : c.if-sees_punctuator.self.tree ≡ join old c.if-sees_punctuator.nodes = elim c.if-sees_punctuator.branch [
      | new_expression-then-sees_punctuator+in_ok-arguments+in_ok-append w ↦ ap (λ v. v.tree) w.self-is ∙ waits_join old c.one-nodes.result w.in_ok-arguments.field-0 first w.in_ok-arguments.ensures.waits (w.nodes-is ∙ w.in_ok-append.ensures.joined)
      | new_expression-else-sees_punctuator w ↦ ap (λ v. v.tree) w.self-is ∙ first ∙ ap (join old) (sym w.nodes-is)
    ] in
    c.in_ok-node.ensures.waits old whole ∙ ap (λ (p : Operand). push old p.cover.node) (sym c.plain.ensures)

pub optional_chain-returns-clause-waits : goal.optional_chain-returns-clause-waits
optional_chain-returns-clause-waits t c = λ base h.
    let whole = waits_first base (c.links.invariant.waits base h) c.in_ok-into_expression.ensures.settled.0 c.one-nodes.ensures in
    c.in_ok-node.ensures.waits base whole ∙ ap (λ (p : Operand). push base p.cover.node) (sym c.plain.ensures)

pub other_subscript-returns-clause-waits : goal.other_subscript-returns-clause-waits
other_subscript-returns-clause-waits t c = λ base h.
    let first = c.subscript_start.ensures.same_tree ∙ waits_first base h c.in_ok-into_expression.ensures.settled.0 c.one-nodes.ensures in
    let whole : c.match-found.self.tree ≡ join base c.match-found.nodes = elim c.match-found.branch [
      | other_subscript-in-Name+in_ok-name-in-Name+in_ok-token_node-in-Name+in_ok-push-in-Name w ↦
          ap (λ v. v.tree) w.self-is ∙ waits_push base c.one-nodes.result w.in_ok-token_node-in-Name.field-0 (w.member_name.ensures.same_tree ∙ first) w.in_ok-token_node-in-Name.ensures.waits (w.nodes-is ∙ w.in_ok-push-in-Name.ensures.pushed)
      | other_subscript-in-Index+in_ok-expect_punctuator-in-Index+in_ok-index-in-Index+in_ok-into_expression-in-Index+in_ok-push-in-Index+in_ok-expect_punctuator-in-Index-2 w ↦
          ap (λ v. v.tree) w.self-is ∙ w.expect_punctuator-in-Index.ensures.same_tree
          ∙ waits_on base c.one-nodes.result w.in_ok-into_expression-in-Index.field-0 (w.expect_punctuator.ensures.same_tree ∙ first) w.in_ok-index-in-Index.ensures.waits w.in_ok-into_expression-in-Index.ensures.settled.0 (w.nodes-is ∙ w.in_ok-push-in-Index.ensures.pushed)
      | other_subscript-in-Arguments+in_ok-arguments-in-Arguments+in_ok-append-in-Arguments w ↦
          ap (λ v. v.tree) w.self-is ∙ waits_join base c.one-nodes.result w.in_ok-arguments-in-Arguments.field-0 first w.in_ok-arguments-in-Arguments.ensures.waits (w.nodes-is ∙ w.in_ok-append-in-Arguments.ensures.joined)
      | other_subscript-in-Quasi+in_ok-list-in-Quasi+in_ok-list-in-Quasi-2+in_ok-finish_list-in-Quasi+in_ok-push-in-Quasi w ↦
          let old = c.subscript_start.new.self.tree in
          ap (λ v. v.tree) w.self-is ∙ waits_push base c.one-nodes.result w.in_ok-finish_list-in-Quasi.field-0.cover.node first (w.in_ok-finish_list-in-Quasi.ensures.waits old (w.in_ok-list-in-Quasi-2.ensures.waits old w.in_ok-list-in-Quasi.ensures.waits)) (w.nodes-is ∙ w.in_ok-push-in-Quasi.ensures.pushed)
    ] in
    c.in_ok-node.ensures.waits base whole ∙ ap (λ (p : Operand). push base p.cover.node) (sym c.plain.ensures)

pub parenthesized-returns-then-accepts_rank-clause-waits : goal.parenthesized-returns-then-accepts_rank-clause-waits
parenthesized-returns-then-accepts_rank-clause-waits t c =
    let old = c.args.self.now.tree in
    let opened = c.in_ok-list.ensures.waits ∙ ap (λ ps. join ps c.in_ok-list.list.nodes) c.enter.ensures.same_tree in
    c.arrow_function.ensures.waits old (c.in_ok-parameters.ensures.waits old (c.leave-at.ensures.same_tree ∙ c.in_ok-list-2.ensures.waits old opened))

pub parenthesized-returns-clause-waits : goal.parenthesized-returns-clause-waits
parenthesized-returns-clause-waits t c =
    let old = c.args.self.now.tree in
    let opened = c.in_ok-list.ensures.waits ∙ ap (λ ps. join ps c.in_ok-list.list.nodes) c.enter.ensures.same_tree in
    c.finish_group.ensures.waits old (c.close_pair.ensures.same_tree ∙ c.leave-at.ensures.same_tree ∙ c.in_ok-list-2.ensures.waits old opened)

pub prefix_expression-returns-clause-waits : goal.prefix_expression-returns-clause-waits
prefix_expression-returns-clause-waits t c =
    c.prefix_operand.ensures.waits c.args.self.now.tree (c.in_ok-operand.ensures.waits ∙ ap (λ ps. push ps c.in_ok-operand.operand.cover.node) c.advance.ensures.same_tree)

pub private_in-returns-clause-waits : goal.private_in-returns-clause-waits
private_in-returns-clause-waits t c =
    let old = c.args.self.now.tree in
    let n = c.in_ok-into_expression.field-0 in
    let right = c.in_ok-right.ensures.waits ∙ (λ i. push ((c.expect_word.ensures.same_tree ∙ c.in_ok-left.ensures.waits) i) (sym c.in_ok-into_expression.ensures.settled.0 i)) in
    c.in_ok-node.ensures.waits old (waits_two old right c.two-nodes.ensures) ∙ ap (λ (p : Operand). push old p.cover.node) (sym c.plain.ensures)

pub property_name-returns-in-Some-clause-waits : goal.property_name-returns-in-Some-clause-waits
property_name-returns-in-Some-clause-waits t c = c.in_ok-key.ensures.waits ∙ ap (λ ps. push ps c.in_ok-key.key.node) c.modifiers-modifiers.ensures.same_tree

pub property_name-returns-then-not-accept_punctuator-clause-waits : goal.property_name-returns-then-not-accept_punctuator-clause-waits
property_name-returns-then-not-accept_punctuator-clause-waits t c = c.in_ok-key-2.ensures.waits ∙ ap (λ ps. push ps c.in_ok-key-2.key.node) (c.accept_punctuator.ensures.same_tree ∙ c.modifiers-modifiers.ensures.same_tree)

pub property_name-returns-clause-waits : goal.property_name-returns-clause-waits
property_name-returns-clause-waits t c =
    let before = c.accept_punctuator.ensures.same_tree ∙ c.modifiers-modifiers.ensures.same_tree in
    c.expect_punctuator.ensures.same_tree ∙ c.in_ok-part.ensures.waits ∙ (λ i. push (before i) (sym c.in_ok-node.ensures.settled.0 i))

pub special_item-returns-in_ok-item-in-Properties-clause-waits : goal.special_item-returns-in_ok-item-in-Properties-clause-waits
special_item-returns-in_ok-item-in-Properties-clause-waits t c = λ base h. item_waits _ _ base c.args.list.now c.in_ok-item-in-Properties.item h c.in_ok-item-in-Properties.ensures.waits c.push.result c.push.ensures.pushed

pub special_item-returns-in_ok-item-in-Members-clause-waits : goal.special_item-returns-in_ok-item-in-Members-clause-waits
special_item-returns-in_ok-item-in-Members-clause-waits t c = λ base h. item_waits _ _ base c.args.list.now c.in_ok-item-in-Members.item h c.in_ok-item-in-Members.ensures.waits c.push-in-Members.result c.push-in-Members.ensures.pushed

pub special_item-returns-in_ok-item-in-Declarators-clause-waits : goal.special_item-returns-in_ok-item-in-Declarators-clause-waits
special_item-returns-in_ok-item-in-Declarators-clause-waits t c = λ base h. item_waits _ _ base c.args.list.now c.in_ok-item-in-Declarators.item h c.in_ok-item-in-Declarators.ensures.waits c.push-in-Declarators.result c.push-in-Declarators.ensures.pushed

pub special_item-returns-in_ok-item-in-Sequence-clause-waits : goal.special_item-returns-in_ok-item-in-Sequence-clause-waits
special_item-returns-in_ok-item-in-Sequence-clause-waits t c = λ base h.
    item_waits _ _ base c.args.list.now c.in_ok-item-in-Sequence.item h (c.in_ok-item-in-Sequence.ensures.waits c.args.self.now.tree c.in_ok-part-in-Sequence.ensures.waits) c.push-in-Sequence.result c.push-in-Sequence.ensures.pushed

pub special_item-returns-in_ok-next_template_element-in-Template-clause-waits : goal.special_item-returns-in_ok-next_template_element-in-Template-clause-waits
special_item-returns-in_ok-next_template_element-in-Template-clause-waits t c = λ base h.
    let item = ap (λ (l : ListBuilder). l.nodes) c.in_ok-push-in-Template.ensures.pushed ∙ ap (λ (i : ListItem). push c.args.list.now.nodes i.node) c.plain.ensures in
    let first = waits_on base c.args.list.now.nodes c.in_ok-into_expression-in-Template.field-0 h c.in_ok-part-in-Template.ensures.waits c.in_ok-into_expression-in-Template.ensures.settled.0 item in
    item_waits _ _ base c.push-in-Template.new.self c.in_ok-next_template_element-in-Template.field-0 first c.in_ok-next_template_element-in-Template.ensures.waits c.push-in-Template-2.result c.push-in-Template-2.ensures.pushed

pub special_item-returns-in_ok-finish_plain-in-Cases-clause-waits : goal.special_item-returns-in_ok-finish_plain-in-Cases-clause-waits
special_item-returns-in_ok-finish_plain-in-Cases-clause-waits t c = λ base h.
    let old = c.args.self.now.tree in
    let none = c.is_default.ensures.same_tree ∙ waits_none (ap (λ x. x.nodes) c.new-built.ensures) in
    let first : c.if-is_default.self.tree ≡ join old c.if-is_default.built.nodes = elim c.if-is_default.branch [
      | special_item-then-is_default+in_ok-push_gap-in-Cases w ↦ ap (λ v. v.tree) w.self-is ∙ waits_gap old c.new-built.result.nodes none w.in_ok-push_gap-in-Cases.ensures.waits (ap (λ x. x.nodes) w.built-is ∙ w.in_ok-push_gap-in-Cases.ensures.pushed)
      | special_item-else-is_default w ↦ ap (λ v. v.tree) w.self-is ∙ none ∙ ap (λ x. join old x.nodes) (sym w.built-is)
    ] in
    let case = c.in_ok-finish_plain-in-Cases.ensures.waits old (c.in_ok-read_symbols-in-Cases.ensures.waits old first) in
    item_waits _ _ base c.args.list.now (record c.plain-item.result { is_flagged = c.in_ok-is_default-in-Cases.is_default }) h (case ∙ ap (λ (i : ListItem). push old i.node) (sym c.plain-item.ensures)) c.push-in-Cases.result c.push-in-Cases.ensures.pushed

pub spread_item-returns-clause-waits : goal.spread_item-returns-clause-waits
spread_item-returns-clause-waits t c = λ base h.
    item_waits _ _ base c.args.list.now c.in_ok-item.item (c.expect_punctuator.ensures.same_tree ∙ h) (c.in_ok-item.ensures.waits c.expect_punctuator.new.self.tree c.in_ok-part.ensures.waits) c.push.result c.push.ensures.pushed

pub statement-returns-then-not-is_label-clause-waits : goal.statement-returns-then-not-is_label-clause-waits
statement-returns-then-not-is_label-clause-waits t c = c.expression_statement.ensures.waits c.args.self.now.tree c.in_ok-part-in-Expression.ensures.waits

pub statement-returns-in-FunctionOrClass-clause-waits : goal.statement-returns-in-FunctionOrClass-clause-waits
statement-returns-in-FunctionOrClass-clause-waits t c =
    waits_behind _ (λ n. n) c.function_or_class.result (c.function_words.ensures.same_tree ∙ c.advance-in-FunctionOrClass.ensures.same_tree) c.function_or_class.ensures.waits

pub statement-returns-then-sees_await-clause-waits : goal.statement-returns-then-sees_await-clause-waits
statement-returns-then-sees_await-clause-waits t c = waits_behind _ (λ n. n) c.for_await.result c.advance.ensures.same_tree c.for_await.ensures.waits

pub statement-returns-clause-waits : goal.statement-returns-clause-waits
statement-returns-clause-waits t c =
    let old = c.args.self.now.tree in
    let none = waits_none (ap (λ d. d.nodes) c.new-built.ensures) in
    let first : c.match-beginning.self.tree ≡ join old c.match-beginning.built.nodes = elim c.match-beginning.branch [
      | statement-in-OfKind+else-eq w ↦ ap (λ v. v.tree) w.self-is ∙ w.advance.ensures.same_tree ∙ none ∙ ap (λ d. join old d.nodes) (sym w.built-is)
      | statement-in-Expression+in_ok-part-in-Expression+else-not-is_label+in_ok-push-in-Expression w ↦
          ap (λ v. v.tree) w.self-is ∙ waits_push old c.new-built.result.nodes w.in_ok-part-in-Expression.part.cover.node none w.in_ok-part-in-Expression.ensures.waits (ap (λ d. d.nodes) w.built-is ∙ w.in_ok-push-in-Expression.ensures.pushed)
    ] in
    let second = c.in_ok-read_symbols.ensures.waits old first in
    let third : c.if-eq-2.self.tree ≡ join old c.if-eq-2.built.nodes = elim c.if-eq-2.branch [
      | statement-then-eq-2+in_ok-what+in_ok-read_symbols-2 w ↦ ap (λ v. v.tree) w.self-is ∙ w.in_ok-read_symbols-2.ensures.waits old second ∙ ap (λ k. join old k.nodes) (sym w.built-is)
      | statement-else-eq-2 w ↦ ap (λ v. v.tree) w.self-is ∙ second ∙ ap (λ k. join old k.nodes) (sym w.built-is)
    ] in
    c.finish_node.ensures.waits old third

pub static_block-returns-clause-waits : goal.static_block-returns-clause-waits
static_block-returns-clause-waits t c =
    let old = c.args.self.now.tree in
    let items = c.in_ok-items.ensures.waits ∙ ap (λ ps. join ps c.in_ok-items.items) (c.expect_punctuator.ensures.same_tree ∙ c.expect_word.ensures.same_tree) in
    c.in_ok-node.ensures.waits old (c.expect_punctuator-2.ensures.same_tree ∙ items) ∙ ap (λ (i : ListItem). push old i.node) (sym c.plain.ensures)

pub super_expression-returns-clause-waits : goal.super_expression-returns-clause-waits
super_expression-returns-clause-waits t c = c.subscript.ensures.waits c.args.self.now.tree (c.in_ok-node.ensures.waits ∙ ap (λ (p : Operand). push c.args.self.now.tree p.cover.node) (sym c.plain.ensures))

pub one_token-returns-then-accepts_rank-clause-waits : goal.one_token-returns-then-accepts_rank-clause-waits
one_token-returns-then-accepts_rank-clause-waits t c =
    let old = c.args.self.now.tree in
    c.arrow_function.ensures.waits old (waits_one old (c.in_ok-node.ensures.waits ∙ ap (λ ps. push ps c.in_ok-node.node) c.advance.ensures.same_tree) c.one-parameter.ensures)

pub one_token-returns-clause-waits : goal.one_token-returns-clause-waits
one_token-returns-clause-waits t c =
    let old = c.args.self.now.tree in
    c.in_ok-node.ensures.waits ∙ ap (λ ps. push ps c.in_ok-node.node) c.advance.ensures.same_tree ∙ ap (λ (p : Operand). push old p.cover.node) (sym c.plain.ensures)

pub update_or_comma-returns-in_ok-node-in-PostUpdate-clause-waits : goal.update_or_comma-returns-in_ok-node-in-PostUpdate-clause-waits
update_or_comma-returns-in_ok-node-in-PostUpdate-clause-waits t c = λ base h.
    let whole = waits_one base (c.advance.ensures.same_tree ∙ c.in_ok-operand-in-PostUpdate.ensures.waits base h) c.one-nodes.ensures in
    c.in_ok-node-in-PostUpdate.ensures.waits base whole ∙ ap (λ (p : Operand). push base p.cover.node) (sym c.plain.ensures)

pub update_or_comma-returns-in_ok-node-in-Comma-clause-waits : goal.update_or_comma-returns-in_ok-node-in-Comma-clause-waits
update_or_comma-returns-in_ok-node-in-Comma-clause-waits t c = λ base h.
    let first = c.advance-in-Comma.ensures.same_tree ∙ waits_one base h (ap (λ (l : ListBuilder). l.nodes) c.in_ok-list-in-Comma.ensures.begun.0) in
    c.in_ok-node-in-Comma.ensures.waits base (c.in_ok-list-in-Comma-2.ensures.waits base first) ∙ ap (λ (p : Operand). push base p.cover.node) (sym c.plain-in-Comma.ensures)

pub yield_expression-returns-then-sees_no_operand-clause-waits : goal.yield_expression-returns-then-sees_no_operand-clause-waits
yield_expression-returns-then-sees_no_operand-clause-waits t c =
    let old = c.args.self.now.tree in
    let whole = waits_gap old c.new-nodes.result (waits_none c.new-nodes.ensures) c.in_ok-push_gap.ensures.waits c.in_ok-push_gap.ensures.pushed in
    c.in_ok-node.ensures.waits old whole ∙ ap (λ (p : Operand). push old p.cover.node) (sym c.plain.ensures)

pub yield_expression-returns-clause-waits : goal.yield_expression-returns-clause-waits
yield_expression-returns-clause-waits t c =
    let old = c.args.self.now.tree in
    let first = c.starred-flags.ensures.same_tree ∙ waits_none c.new-nodes.ensures in
    let whole = waits_on old c.new-nodes.result c.in_ok-into_expression.field-0 first c.in_ok-operand.ensures.waits c.in_ok-into_expression.ensures.settled.0 c.in_ok-push.ensures.pushed in
    c.in_ok-node-2.ensures.waits old whole ∙ ap (λ (p : Operand). push old p.cover.node) (sym c.plain-2.ensures)

pub keyword_expression-returns-in_ok-node-in-Function-clause-waits : goal.keyword_expression-returns-in_ok-node-in-Function-clause-waits
keyword_expression-returns-in_ok-node-in-Function-clause-waits t c =
    c.in_ok-node-in-Function.ensures.waits ∙ ap (λ ps. push ps c.in_ok-node-in-Function.node) c.starred.ensures.same_tree ∙ ap (λ (p : Operand). push c.args.self.now.tree p.cover.node) (sym c.plain.ensures)

pub keyword_expression-returns-in_ok-node-in-Class-clause-waits : goal.keyword_expression-returns-in_ok-node-in-Class-clause-waits
keyword_expression-returns-in_ok-node-in-Class-clause-waits t c = c.in_ok-node-in-Class.ensures.waits ∙ ap (λ (p : Operand). push c.args.self.now.tree p.cover.node) (sym c.plain-in-Class.ensures)

pub property_or_member-returns-then-accept_punctuator-clause-waits : goal.property_or_member-returns-then-accept_punctuator-clause-waits
property_or_member-returns-then-accept_punctuator-clause-waits t c =
    c.in_ok-item.ensures.waits c.accept_punctuator.new.self.tree c.in_ok-argument.ensures.waits ∙ ap (λ ps. push ps c.in_ok-item.item.node) c.accept_punctuator.ensures.same_tree

pub property_or_member-returns-then-begins_static_block-clause-waits : goal.property_or_member-returns-then-begins_static_block-clause-waits
property_or_member-returns-then-begins_static_block-clause-waits t c =
    let here = c.else-not-in_class.self.tree in
    let same : here ≡ c.args.self.now.tree = elim c.else-not-in_class.branch [ property_or_member-else-not-in_class-via-then-not-in_class+else-accept_punctuator w ↦ ap (λ v. v.tree) w.self-is ∙ w.accept_punctuator.ensures.same_tree | property_or_member-else-not-in_class-via-else-not-in_class w ↦ ap (λ v. v.tree) w.self-is ] in
    waits_behind _ (λ (i : ListItem). i.node) c.static_block.result same c.static_block.ensures.waits

pub property_or_member-returns-in-true-clause-waits : goal.property_or_member-returns-in-true-clause-waits
property_or_member-returns-in-true-clause-waits t c =
    let here = c.else-not-in_class.self.tree in
    let same : here ≡ c.args.self.now.tree = elim c.else-not-in_class.branch [ property_or_member-else-not-in_class-via-then-not-in_class+else-accept_punctuator w ↦ ap (λ v. v.tree) w.self-is ∙ w.accept_punctuator.ensures.same_tree | property_or_member-else-not-in_class-via-else-not-in_class w ↦ ap (λ v. v.tree) w.self-is ] in
    waits_behind _ (λ (i : ListItem). i.node) c.field.result same (c.field.ensures.waits here c.in_ok-modifiers.ensures.waits)

pub property_or_member-returns-in-false-clause-waits : goal.property_or_member-returns-in-false-clause-waits
property_or_member-returns-in-false-clause-waits t c =
    let here = c.else-not-in_class.self.tree in
    let same : here ≡ c.args.self.now.tree = elim c.else-not-in_class.branch [ property_or_member-else-not-in_class-via-then-not-in_class+else-accept_punctuator w ↦ ap (λ v. v.tree) w.self-is ∙ w.accept_punctuator.ensures.same_tree | property_or_member-else-not-in_class-via-else-not-in_class w ↦ ap (λ v. v.tree) w.self-is ] in
    waits_behind _ (λ (i : ListItem). i.node) c.property_value.result same (c.property_value.ensures.waits here c.in_ok-modifiers.ensures.waits)

pub property_or_member-returns-clause-waits : goal.property_or_member-returns-clause-waits
property_or_member-returns-clause-waits t c =
    let here = c.else-not-in_class.self.tree in
    let same : here ≡ c.args.self.now.tree = elim c.else-not-in_class.branch [ property_or_member-else-not-in_class-via-then-not-in_class+else-accept_punctuator w ↦ ap (λ v. v.tree) w.self-is ∙ w.accept_punctuator.ensures.same_tree | property_or_member-else-not-in_class-via-else-not-in_class w ↦ ap (λ v. v.tree) w.self-is ] in
    let whole = waits_two here (c.in_ok-function.ensures.waits ∙ ap (λ ps. push ps c.in_ok-function.function) c.in_ok-modifiers.ensures.waits) c.two-nodes.ensures in
    c.in_ok-node.ensures.waits here whole ∙ ap (λ ps. push ps c.in_ok-node.node) same ∙ ap (λ (i : ListItem). push c.args.self.now.tree i.node) (sym c.plain.ensures)

pub property_value-returns-then-accept_punctuator-clause-waits : goal.property_value-returns-then-accept_punctuator-clause-waits
property_value-returns-then-accept_punctuator-clause-waits t c = λ base h.
    let whole = waits_two base (c.in_ok-value.ensures.waits ∙ ap (λ ps. push ps c.in_ok-value.value.cover.node) (c.accept_punctuator.ensures.same_tree ∙ h)) c.two-nodes.ensures in
    c.in_ok-node.ensures.waits base whole ∙ ap (λ (i : ListItem). push base i.node) (sym c.property_item.ensures)

pub property_value-returns-clause-waits : goal.property_value-returns-clause-waits
property_value-returns-clause-waits t c = λ base h.
    let key = push base c.args.key.node in
    let name = c.in_ok-value-2.ensures.waits ∙ ap (λ ps. push ps c.in_ok-value-2.value) (c.accept_punctuator.ensures.same_tree ∙ h) in
    let value : c.if-accept_punctuator-2.self.tree ≡ push key c.if-accept_punctuator-2.value = elim c.if-accept_punctuator-2.branch [
      | property_value-then-accept_punctuator-2+in_ok-right+in_ok-into_expression+in_ok-value-3 w ↦
          let right = w.in_ok-right.ensures.waits ∙ (λ i. push ((c.accept_punctuator-2.ensures.same_tree ∙ name) i) (sym w.in_ok-into_expression.ensures.settled.0 i)) in
          ap (λ v. v.tree) w.self-is ∙ w.in_ok-value-3.ensures.waits key (waits_two key right w.two-nodes-then-accept_punctuator-2.ensures) ∙ ap (push key) (sym w.value-is)
      | property_value-else-accept_punctuator-2 w ↦ ap (λ v. v.tree) w.self-is ∙ c.accept_punctuator-2.ensures.same_tree ∙ name ∙ ap (push key) (sym w.value-is)
    ] in
    c.in_ok-node-2.ensures.waits base (waits_two base value c.two-nodes-2.ensures) ∙ ap (λ (i : ListItem). push base i.node) (sym c.property_item-2.ensures)
