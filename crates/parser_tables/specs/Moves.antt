-- Lists that begin with a token, and statements that are known by it.
use Rattle.covers.specs.declared.list.ListKind.{ListKind}
use Rattle.covers.specs.declared.list.ListKind.TheVariants as listed
use Rattle.parser_tables.specs.declared.expression_starts.ExpressionStart.{ExpressionStart}
use Rattle.parser_tables.specs.declared.expression_starts.ExpressionStart.TheVariants as opening
use Rattle.parser_tables.specs.declared.statements.StatementStart.{StatementStart}
use Rattle.parser_tables.specs.declared.statements.StatementStart.TheVariants as beginning

-- a list that a token opens: a bracket or the first part of a template
abbrev pub IsOpened : ListKind → Type 0
IsOpened (listed.Sequence _) = ⊥
IsOpened (listed.Declarators _) = ⊥
IsOpened _ = Unit {0}

-- a list with nothing between its items
abbrev pub IsUnseparated : ListKind → Type 0
IsUnseparated listed.Members = Unit {0}
IsUnseparated (listed.Cases _) = Unit {0}
IsUnseparated listed.Template = Unit {0}
IsUnseparated _ = ⊥

-- the list that an expression begins with, if it is one, is opened by its first token
abbrev pub BeginsList : ExpressionStart → Type 0
BeginsList (opening.List what) = IsOpened what
BeginsList _ = Unit {0}

-- where a statement is known by its first token
abbrev pub IfKind : StatementStart → Type 0 → Type 0
IfKind beginning.Expression P = Unit {0}
IfKind _ P = P
