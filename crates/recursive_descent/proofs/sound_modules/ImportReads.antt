-- An import as it is read: its clause, its source, its end (ECMA-262, 13th edition, 16.2.2).
use Rattle.std.proofs.Common.{◌≡◌, ℕ, [], sym, subst}
use Rattle.std.specs.Prelude.{codes}
use Rattle.tokens.specs.declared.token.TokenClass.TheVariants.{IdentifierName}
use Rattle.token_cursor.specs.CursorState.{CursorState}
use Rattle.token_cursor.specs.StatementEnds.{EndsAt}
use Rattle.token_cursor.specs.declared.semicolon.StatementEnd.TheVariants.{AfterExpression}
use Rattle.tree.specs.declared.kind.Kind.TheVariants.{ImportDeclaration}
use Rattle.tree.specs.Tree.{Tree, node, plain, Parts, none, push}
use Rattle.language.specs.declared.Edge.TheVariants.{Closed}
use Rattle.language.specs.Pieces.{directive_string}
use Rattle.language.specs.Token.{Token}
use Rattle.token_cursor.specs.Seen.{ReadsHere}
use Rattle.recursive_descent.specs.Spelled.{SpellsIn}
use Rattle.recursive_descent.specs.ModuleItems.{ItemAt, ReadWhole, SourceAt}
use Rattle.recursive_descent.proofs.sound_modules.ModuleEnds.{source_runs}
use Rattle.recursive_descent.proofs.sound_modules.ImportItems.{import_source}
use Rattle.recursive_descent.proofs.sound_modules.ImportClauses.{ClauseDone}

-- what was read before the source: nothing, or a clause and `from`
pub data SourceBefore (s : CursorState) (nodes : Parts) (m : Token) : Type 0 where
  at_first : nodes ≡ none → m ≡ s.last → SourceBefore s nodes m
  behind_clause : (e : CursorState) → ClauseDone s e none nodes → ReadsHere s.text IdentifierName (codes "from") e.last m → SourceBefore s nodes m

pub import_read : (s m e z : CursorState) (from : ℕ) (nodes after : Parts) (k : Tree) → SourceBefore s nodes m.last → m.text ≡ s.text → SourceAt m e k → EndsAt s.text (AfterExpression Closed) e.last z.last → after ≡ push nodes k → ReadWhole s z (codes "import") from (node ImportDeclaration [] plain from z.last.stop after)
import_read s m e z from nodes after k was text d ends added o = subst (λ (ps : Parts). ItemAt s.text (codes "import") from (node ImportDeclaration [] plain from z.last.stop ps) o s.last z.last []) (sym added) (of was)
  where
    spelled : SpellsIn s.text o directive_string k m.last e.last []
    spelled = subst (λ v. SpellsIn v o directive_string k m.last e.last []) text (d o)

    of : SourceBefore s nodes m.last → ItemAt s.text (codes "import") from (node ImportDeclaration [] plain from z.last.stop (push nodes k)) o s.last z.last []
    of (at_first is place) =
        subst (λ (ps : Parts). ItemAt s.text (codes "import") from (node ImportDeclaration [] plain from z.last.stop (push ps k)) o s.last z.last []) (sym is)
        (import_source s.text k (subst (λ v. SpellsIn s.text o directive_string k v e.last []) place spelled) ends)
    of (behind_clause e1 (ps, is, clause) word) =
        subst (λ (ps : Parts). ItemAt s.text (codes "import") from (node ImportDeclaration [] plain from z.last.stop (push ps k)) o s.last z.last []) (sym is)
        (clause k o from z.last (source_runs s.text word spelled ends))
