-- The outline of a node at any position.
use Rattle.std.specs.Prelude.{ℕ, List, Option}
use Rattle.tree.specs.Tree.{Tree, kind_of, text_of, flags_of, parts_of}
use Rattle.tree.specs.declared.kind.Kind.{Kind}
use Rattle.tree.specs.declared.kind.Flags.{Flags}
use Rattle.language.specs.Vocabulary.{is_identifier, is_super}
use Rattle.spelling_table.specs.declared.position.Position.{Position}
use Rattle.spelling_table.specs.declared.position.Position.TheVariants as at
use Rattle.spelling_table.specs.declared.outline.Outline.{Outline}
use Rattle.spellings.specs.Entries.{around}
use Rattle.spellings.specs.Expressions.{Around, kind_at, expression_outline}
use Rattle.spellings.specs.Others.{leaf_if, is_chunk, name_outline, key_outline, quoted_outline, quasi_outline, spread_outline, property_outline, pattern_outline, pattern_property_outline, element_outline, rest_outline, spine_outline, class_body_outline, method_outline, member_outline, private_outline}
use Rattle.spellings.specs.Modules.{default_item_outline, module_item_outline, specifier_outline}
use Rattle.spellings.specs.Statements.{statement_outline, item_outline, opening_outline, block_outline, body_outline, script_outline, head_outline, declarator_outline, case_outline, handler_outline}

abbrev pub outline_by : Position → Kind → List ℕ → Flags → Around → Option Outline
outline_by (at.Expression y i f) k w g a = expression_outline k w g a
outline_by (at.ChainPart f) k w g a = spine_outline k g a.chained (kind_at a.second)
outline_by at.Name k w g a = name_outline k w
outline_by at.IdentifierName k w g a = leaf_if (is_identifier k)
outline_by at.PropertyName k w g a = key_outline k w
outline_by at.ShorthandKey k w g a = leaf_if (is_identifier k)
outline_by at.Super k w g a = leaf_if (is_super k)
outline_by at.DirectiveString k w g a = quoted_outline k w
outline_by at.TaggedQuasi k w g a = quasi_outline k
outline_by (at.TemplateElement b c) k w g a = leaf_if (is_chunk k)
outline_by at.Spread k w g a = spread_outline k
outline_by at.Property k w g a = property_outline k g a.second_form
outline_by (at.Pattern b f) k w g a = pattern_outline b k
outline_by (at.PatternProperty b) k w g a = pattern_property_outline b k g (kind_at a.second)
outline_by (at.Element b) k w g a = element_outline b k (kind_at a.first)
outline_by (at.Rest b o) k w g a = rest_outline b o k (kind_at a.first)
outline_by (at.Method x) k w g a = method_outline x k g a
outline_by at.Body k w g a = body_outline k
outline_by (at.Statement r) k w g a = statement_outline r k w g a
outline_by (at.StatementListItem r) k w g a = item_outline r k w g a
outline_by (at.PrologueItem r) k w g a = opening_outline r k w g a
outline_by (at.Block r) k w g a = block_outline r k
outline_by (at.ForDeclaration b) k w g a = head_outline b k w a
outline_by (at.Declarator i b) k w g a = declarator_outline i b k a
outline_by (at.SwitchCase r) k w g a = case_outline r k a
outline_by (at.CatchClause r) k w g a = handler_outline r k a
outline_by at.ClassBody k w g a = class_body_outline k
outline_by at.Member k w g a = member_outline k g a
outline_by at.PrivateName k w g a = private_outline k
outline_by at.ModuleItem k w g a = module_item_outline k a
outline_by at.Specifier k w g a = specifier_outline k g a
outline_by at.DefaultItem k w g a = default_item_outline k g a
outline_by at.Script k w g a = script_outline k w

-- of a node
abbrev pub outline_at : Position → Tree → Option Outline
outline_at p n = outline_by p (kind_of n) (text_of n) (flags_of n) (around (parts_of n))
