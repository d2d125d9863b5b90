-- What an item declares lexically, by its kind.
use Rattle.std.proofs.Common.{◌≡◌, Bool, true, false, cond, List, [], Option, Some, None, is_some, refl, sym, ap, ◌∙◌}
use Rattle.std.specs.Prelude.{codes, unwrap_or}
use Rattle.std.specs.Str.{bytes_eq}
use Rattle.tree.specs.declared.kind.Kind.TheVariants.{VariableDeclaration, FunctionDeclaration, ClassDeclaration, ImportDeclaration}
use Rattle.tree.specs.Tree.{Tree, node, parts_of, part_at}
use Rattle.name_tables.specs.declared.declared.LexicalAs.{LexicalAs}
use Rattle.name_tables.specs.declared.declared.Lexical.{Lexical}
use Rattle.name_tables.specs.declared.declared.Lexical.TheVariants as lexical
use Rattle.name_tables.specs.BoundNames.{each_part, bound_names, first_bound_names}
use Rattle.name_tables.specs.DeclaredNames.{declaration_of, declarator_names, own_lexical_names, specifier_names}
use Rattle.name_tables.specs.DeclaratorParts.{by_name, declarator_as, declarators_as, lexical_as, lexical_of}
use Rattle.name_tables.specs.PatternParts.{Bound, at_part, bound_as}
use Rattle.name_tables.proofs.Patterns.{first_bound_names-at}

module _ {H : Type 0} (how : LexicalAs H) where
  abbrev declared_by : Lexical H → Tree → List (Bound H)
  declared_by (lexical.Declarators h) t = declarator_names (declarator_as h) (parts_of t)
  declared_by (lexical.FirstPart h) t = at_part (bound_names (bound_as h)) (part_at (parts_of t) 0)
  declared_by (lexical.Specifiers h) t = each_part (specifier_names (bound_as h)) (parts_of t)
  declared_by lexical.Nothing t = []

  -- the names of an item that exports nothing
  abbrev own_lexical_as : Tree → List (Bound H)
  own_lexical_as t = own_lexical_names (is_some how.function) (λ text. declarator_as (declarators_as how text)) (bound_as (unwrap_or how.function how.class)) (bound_as how.class) (bound_as how.import) t

  lexical_by_kind : (t : Tree) → own_lexical_as t ≡ declared_by (lexical_of how t) t
  lexical_by_kind (node VariableDeclaration w g s e ps) = pick (bytes_eq w (codes "var"))
    where
      pick : (v : Bool) → cond v [] (declarator_names (declarator_as (declarators_as how w)) ps) ≡ declared_by (cond v lexical.Nothing (lexical.Declarators (declarators_as how w))) (node VariableDeclaration w g s e ps)
      pick true = refl
      pick false = refl
  lexical_by_kind (node ClassDeclaration w g s e ps) = first_bound_names-at (bound_as how.class) ps
  lexical_by_kind (node FunctionDeclaration w g s e ps) = pick how.function
    where
      pick : (o : Option H) → cond (is_some o) (first_bound_names (bound_as (unwrap_or o how.class)) ps) [] ≡ declared_by (by_name o) (node FunctionDeclaration w g s e ps)
      pick None = refl
      pick (Some h) = first_bound_names-at (bound_as h) ps
  lexical_by_kind (node ImportDeclaration w g s e ps) = refl
  lexical_by_kind (node _ w g s e ps) = refl

  pub lexical_given : (t d : Tree) (l : Lexical H) → d ≡ declaration_of t → l ≡ lexical_of how d → lexical_as how t ≡ declared_by l d
  lexical_given t d l h e = ap own_lexical_as (sym h) ∙ lexical_by_kind d ∙ ap (λ x. declared_by x d) (sym e)
