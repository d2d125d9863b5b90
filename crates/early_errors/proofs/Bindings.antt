-- What an item gives, by its kind.
use Rattle.std.proofs.Common.{◌≡◌, Bool, true, false, map, sym, ap, ◌∙◌}
use Rattle.tree.specs.declared.kind.Kind.{Kind}
use Rattle.tree.specs.declared.kind.Kind.TheVariants.{FunctionDeclaration}
use Rattle.tree.specs.Tree.{Tree, node, kind_of, parts_of, part_at}
use Rattle.name_tables.specs.BoundNames.{each_part}
use Rattle.name_tables.specs.DeclaratorParts.{lexical_of}
use Rattle.name_tables.specs.DeclaratorParts as parts
use Rattle.name_tables.specs.DeclaredNames as declared
use Rattle.name_tables.proofs.Retold.{lexically, at-case}
use Rattle.early_errors.specs.Names.{lexical_names, function_names}
use Rattle.early_errors.specs.Owns.{case_names, declares_function}
use Rattle.early_errors.specs.Walk.{lexical_as, name_of, names_at}
use Rattle.early_errors.proofs.FunctionLists.{others-drop}
use Rattle.early_errors.proofs.FirstNames.{first_names-at}

-- an item's lexical names are those that are bound so
pub lexically_named : (b : Bool) (t : Tree) → map name_of (parts.lexical_as (lexical_as b) t) ≡ lexical_names b t
lexically_named true t = lexically name_of (lexical_as true) t
lexically_named false t = lexically name_of (lexical_as false) t

pub case_named : (t : Tree) → map name_of (declared.case_names (parts.lexical_as (lexical_as true)) t) ≡ case_names t
case_named t = at-case name_of (parts.lexical_as (lexical_as true)) (lexical_names true) (lexically_named true) t ∙ ap (each_part (lexical_names true)) (sym (others-drop (parts_of t)))

pub function_given : (t : Tree) (k : Kind) (b : Bool) → k ≡ kind_of t → b ≡ declares_function k → b ≡ true → names_at (part_at (parts_of t) 0) ≡ function_names t
function_given t k b e f h = given t (ap declares_function (sym e) ∙ sym f ∙ h)
  where
    given : (t : Tree) → declares_function (kind_of t) ≡ true → names_at (part_at (parts_of t) 0) ≡ function_names t
    given (node FunctionDeclaration w g s e ps) h = sym (first_names-at ps)
    given (node _ w g s e ps) h = absurd (cc)
