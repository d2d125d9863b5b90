-- The outlines of imports, exports and their names are those of the table.
use Rattle.std.proofs.Common.{◌≡◌, Bool, true, false, cond, List, [], ◌∷◌, ◌++◌, refl, ap, ap₂, ◌∙◌}
use Rattle.std.specs.Prelude.{Option, Some, None, ◌&&◌}
use Rattle.tree.specs.declared.kind.Kind.{Kind}
use Rattle.tree.specs.declared.kind.Kind.TheVariants as kind
use Rattle.tree.specs.declared.kind.Flags.{Flags}
use Rattle.tree.specs.declared.kind.Form.{Form}
use Rattle.tree.specs.declared.kind.Form.TheVariants as form
use Rattle.tree.specs.Tree.{Tree, node, Parts, none, part, gap, kind_of}
use Rattle.language.specs.declared.Rank.TheVariants.{Primary}
use Rattle.language.specs.FirstPart.{lead}
use Rattle.language.specs.Vocabulary.{is_identifier}
use Rattle.language.specs.Pieces as piece
use Rattle.language.specs.Pieces.{Piece, Slot, only, put, fixed, sign, term, sp, separator, listed_before, absent}
use Rattle.language.specs.Statements.{imported, exported, from_source, imports, export_list, module_items, specifiers, default_items}
use Rattle.spelling_table.specs.declared.position.Position.TheVariants as position
use Rattle.spelling_table.specs.declared.position.Slot.TheVariants as own
use Rattle.spelling_table.specs.declared.outline.FixedSlots.TheVariants.{Zero, One, Two}
use Rattle.spelling_table.specs.declared.outline.ListSlots.TheVariants as tails
use Rattle.spelling_table.specs.declared.outline.Outline.{Outline}
use Rattle.spelling_table.specs.Outlines.{role_of, before, tail_slots, outline_slots, lined}
use Rattle.spellings.specs.Entries.{entry_at, is_import_specifier, is_export_specifier, specifiers_fit, import_fits, export_fits, around}
use Rattle.spellings.specs.Expressions.{only_if}
use Rattle.spellings.specs.Modules.{module_name_at, imported_outline, exported_outline, module_item_outline, specifier_outline, default_item_outline}
use Rattle.spellings.proofs.SlotPositions.{named}
use Rattle.spellings.proofs.ExpressionTable.{functions, classes}
use Rattle.spellings.proofs.OtherTable.{Placed, nowhere, unnamed, placed, placed_first, places}
use Rattle.spellings.proofs.StatementTable.{outlined_placed}

-- a name between braces, before what names the rest
one_imported : (n : Tree) (l : Bool) (qs : List Piece) → named ((imported n ∷ separator (kind_of n) l) ++ qs) ≡ cond (is_import_specifier (kind_of n)) (before (fixed piece.specifier) (named qs)) None
one_imported (node kind.ImportSpecifier w g s e ps) true qs = refl
one_imported (node kind.ImportSpecifier w g s e ps) false qs = refl
one_imported (node _ w g s e ps) l qs = refl

one_exported : (n : Tree) (l : Bool) (qs : List Piece) → named ((exported n ∷ separator (kind_of n) l) ++ qs) ≡ cond (is_export_specifier (kind_of n)) (before (fixed piece.specifier) (named qs)) None
one_exported (node kind.ExportSpecifier w g s e ps) true qs = refl
one_exported (node kind.ExportSpecifier w g s e ps) false qs = refl
one_exported (node _ w g s e ps) l qs = refl

both : (b c : Bool) (x : Option (List Slot)) → cond b (before (fixed piece.specifier) (cond c x None)) None ≡ cond (b && c) (before (fixed piece.specifier) x) None
both true true x = refl
both true false x = refl
both false c x = refl

imports-named : (ps : Parts) → named (listed_before imported (sign "}" ∷ from_source) ps) ≡ cond (specifiers_fit ps) (tail_slots tails.Specifiers ps) None
imports-named none = refl
imports-named (gap ps) = refl
imports-named (part n none) = refl
imports-named (part n (gap ps)) = refl
imports-named (part n (part m ps)) = one_imported n _ _ ∙ ap (λ x. cond (is_import_specifier (kind_of n)) (before (fixed piece.specifier) x) None) (imports-named (part m ps)) ∙
    both (is_import_specifier (kind_of n)) (specifiers_fit (part m ps)) (tail_slots tails.Specifiers (part m ps))

exports-named : (ps : Parts) → named (export_list ps) ≡ cond (export_fits ps) (tail_slots tails.Specifiers ps) None
exports-named none = refl
exports-named (gap none) = refl
exports-named (gap (gap ps)) = refl
exports-named (gap (part n ps)) = refl
exports-named (part n none) = refl
exports-named (part n (gap ps)) = one_exported n _ _ ∙ ap (λ x. cond (is_export_specifier (kind_of n)) (before (fixed piece.specifier) x) None) (exports-named (gap ps)) ∙
    both (is_export_specifier (kind_of n)) (export_fits (gap ps)) (tail_slots tails.Specifiers (gap ps))
exports-named (part n (part m ps)) = one_exported n _ _ ∙ ap (λ x. cond (is_export_specifier (kind_of n)) (before (fixed piece.specifier) x) None) (exports-named (part m ps)) ∙
    both (is_export_specifier (kind_of n)) (export_fits (part m ps)) (tail_slots tails.Specifiers (part m ps))

-- pieces that name the positions where this holds, and else none
named_if : {ps : Parts} (b : Bool) (qs : List Piece) (x : Outline) → named qs ≡ cond b (outline_slots x ps) None → Placed ps (only qs) (only_if b (Some x))
named_if true qs x e = placed e
named_if false qs x e = unnamed e

abbrev names_from_start : Outline
names_from_start = lined Primary Zero tails.Specifiers 0

behind_first : (n : Tree) (ps : Parts) → Placed (part n ps) (imports kind.ImportDefaultSpecifier (part n ps)) (only_if (import_fits kind.ImportDefaultSpecifier (part n ps)) (Some names_from_start))
behind_first n none = nowhere
behind_first n (gap ps) = nowhere
behind_first n (part (node kind.Literal w g s e us) none) = placed_first refl refl
behind_first n (part (node kind.Literal w g s e us) (gap ps)) = nowhere
behind_first n (part (node kind.Literal w g s e us) (part m ps)) = nowhere
behind_first n (part (node kind.ImportNamespaceSpecifier w g s e us) none) = nowhere
behind_first n (part (node kind.ImportNamespaceSpecifier w g s e us) (gap ps)) = nowhere
behind_first n (part (node kind.ImportNamespaceSpecifier w g s e us) (part m none)) = placed refl
behind_first n (part (node kind.ImportNamespaceSpecifier w g s e us) (part m (gap ps))) = nowhere
behind_first n (part (node kind.ImportNamespaceSpecifier w g s e us) (part m (part l ps))) = nowhere
behind_first n (part (node kind.ImportSpecifier w g s e us) ps) = named_if (specifiers_fit (part (node kind.ImportSpecifier w g s e us) ps)) _ names_from_start
    (ap (before (fixed piece.specifier)) (imports-named (part (node kind.ImportSpecifier w g s e us) ps)) ∙ within (specifiers_fit (part (node kind.ImportSpecifier w g s e us) ps)) (tail_slots tails.Specifiers (part (node kind.ImportSpecifier w g s e us) ps)))
  where
    within : (b : Bool) (x : Option (List Slot)) → before (fixed piece.specifier) (cond b x None) ≡ cond b (before (fixed piece.specifier) x) None
    within true x = refl
    within false x = refl
behind_first n (part (node _ w g s e us) ps) = nowhere

imports_placed : (k : Kind) (ps : Parts) → Placed ps (imports k ps) (only_if (import_fits k ps) (Some names_from_start))
imports_placed kind.Literal none = nowhere
imports_placed kind.Literal (gap ps) = nowhere
imports_placed kind.Literal (part n none) = placed_first refl refl
imports_placed kind.Literal (part n (gap ps)) = nowhere
imports_placed kind.Literal (part n (part m ps)) = nowhere
imports_placed kind.ImportNamespaceSpecifier none = nowhere
imports_placed kind.ImportNamespaceSpecifier (gap ps) = nowhere
imports_placed kind.ImportNamespaceSpecifier (part n none) = nowhere
imports_placed kind.ImportNamespaceSpecifier (part n (gap ps)) = nowhere
imports_placed kind.ImportNamespaceSpecifier (part n (part m none)) = placed refl
imports_placed kind.ImportNamespaceSpecifier (part n (part m (gap ps))) = nowhere
imports_placed kind.ImportNamespaceSpecifier (part n (part m (part l ps))) = nowhere
imports_placed kind.ImportSpecifier ps = named_if (specifiers_fit ps) _ names_from_start (imports-named ps)
imports_placed kind.ImportDefaultSpecifier none = nowhere
imports_placed kind.ImportDefaultSpecifier (gap ps) = nowhere
imports_placed kind.ImportDefaultSpecifier (part n ps) = behind_first n ps
imports_placed _ ps = nowhere

-- exports
declared_placed : (n : Tree) → Placed (part n (gap none)) (module_items kind.ExportNamedDeclaration (part n (gap none))) (module_item_outline kind.ExportNamedDeclaration (around (part n (gap none))))
declared_placed (node kind.FunctionDeclaration w g s e ps) = places (One (own.Fixed (position.StatementListItem false))) _ refl
declared_placed (node kind.ClassDeclaration w g s e ps) = places (One (own.Fixed (position.StatementListItem false))) _ refl
declared_placed (node kind.VariableDeclaration w g s e ps) = places (One (own.Fixed (position.StatementListItem false))) _ refl
declared_placed (node _ w g s e ps) = unnamed refl

exports_placed : (ps : Parts) → Placed ps (module_items kind.ExportNamedDeclaration ps) (module_item_outline kind.ExportNamedDeclaration (around ps))
exports_placed none = nowhere
exports_placed (gap ps) = named_if (export_fits ps) _ (lined Primary Zero tails.Specifiers 1) (exports-named ps)
exports_placed (part n none) = nowhere
exports_placed (part n (part m ps)) = nowhere
exports_placed (part n (gap none)) = declared_placed n
exports_placed (part n (gap (gap ps))) = nowhere
exports_placed (part n (gap (part m ps))) = nowhere

default_placed : (n : Tree) → Placed (part n none) (module_items kind.ExportDefaultDeclaration (part n none)) (module_item_outline kind.ExportDefaultDeclaration (around (part n none)))
default_placed (node kind.FunctionDeclaration w g s e ps) = places (One (own.Fixed position.DefaultItem)) _ refl
default_placed (node kind.ClassDeclaration w g s e ps) = places (One (own.Fixed position.DefaultItem)) _ refl
default_placed (node _ w g s e ps) = places (One (own.Fixed _)) _ refl

-- a name or a string
module_name : (k : Kind) → put (cond (is_identifier k) piece.word piece.directive_string) ≡ put (role_of (module_name_at k))
module_name k = of (is_identifier k)
  where
    of : (b : Bool) → put (cond b piece.word piece.directive_string) ≡ put (role_of (cond b position.IdentifierName position.DirectiveString))
    of true = refl
    of false = refl

pub module_items_placed : (k : Kind) (ps : Parts) → Placed ps (module_items k ps) (module_item_outline k (around ps))
module_items_placed kind.ImportDeclaration ps = imports_placed (lead ps) ps
module_items_placed kind.ExportNamedDeclaration ps = exports_placed ps
module_items_placed kind.ExportDefaultDeclaration none = nowhere
module_items_placed kind.ExportDefaultDeclaration (gap ps) = nowhere
module_items_placed kind.ExportDefaultDeclaration (part n none) = default_placed n
module_items_placed kind.ExportDefaultDeclaration (part n (gap ps)) = nowhere
module_items_placed kind.ExportDefaultDeclaration (part n (part m ps)) = nowhere
module_items_placed kind.ExportAllDeclaration none = nowhere
module_items_placed kind.ExportAllDeclaration (gap none) = nowhere
module_items_placed kind.ExportAllDeclaration (gap (gap ps)) = nowhere
module_items_placed kind.ExportAllDeclaration (gap (part s none)) = places (One (own.Fixed position.DirectiveString)) _ refl
module_items_placed kind.ExportAllDeclaration (gap (part s (gap ps))) = nowhere
module_items_placed kind.ExportAllDeclaration (gap (part s (part m ps))) = nowhere
module_items_placed kind.ExportAllDeclaration (part n none) = nowhere
module_items_placed kind.ExportAllDeclaration (part n (gap ps)) = nowhere
module_items_placed kind.ExportAllDeclaration (part n (part s none)) = places (Two (own.Fixed (module_name_at (kind_of n))) (own.Fixed position.DirectiveString)) _ (ap (λ q. named (q ∷ from_source)) (module_name (kind_of n)))
module_items_placed kind.ExportAllDeclaration (part n (part s (gap ps))) = nowhere
module_items_placed kind.ExportAllDeclaration (part n (part s (part m ps))) = nowhere
module_items_placed _ ps = nowhere

-- names
imported_placed : (x : Form) (ps : Parts) → Placed ps (specifiers kind.ImportSpecifier x ps) (imported_outline x (entry_at ps 0) (entry_at ps 1) (entry_at ps 2))
imported_placed form.Shorthand none = nowhere
imported_placed form.Shorthand (gap ps) = nowhere
imported_placed form.Shorthand (part n none) = places (One (own.Fixed position.Name)) _ refl
imported_placed form.Shorthand (part n (gap ps)) = nowhere
imported_placed form.Shorthand (part n (part m ps)) = nowhere
imported_placed form.Init none = nowhere
imported_placed form.Init (gap ps) = nowhere
imported_placed form.Init (part n none) = nowhere
imported_placed form.Init (part n (gap ps)) = nowhere
imported_placed form.Init (part n (part m none)) = places (Two (own.Fixed (module_name_at (kind_of n))) (own.Fixed position.Name)) _ (ap (λ q. named (q ∷ sp ∷ term "as" ∷ sp ∷ put piece.name ∷ [])) (module_name (kind_of n)))
imported_placed form.Init (part n (part m (gap ps))) = nowhere
imported_placed form.Init (part n (part m (part l ps))) = nowhere
imported_placed _ ps = nowhere

exported_placed : (x : Form) (ps : Parts) → Placed ps (specifiers kind.ExportSpecifier x ps) (exported_outline x (entry_at ps 0) (entry_at ps 1) (entry_at ps 2))
exported_placed form.Shorthand none = nowhere
exported_placed form.Shorthand (gap ps) = nowhere
exported_placed form.Shorthand (part n none) = places (One (own.Fixed (module_name_at (kind_of n)))) _ (ap (λ q. named (q ∷ [])) (module_name (kind_of n)))
exported_placed form.Shorthand (part n (gap ps)) = nowhere
exported_placed form.Shorthand (part n (part m ps)) = nowhere
exported_placed form.Init none = nowhere
exported_placed form.Init (gap ps) = nowhere
exported_placed form.Init (part n none) = nowhere
exported_placed form.Init (part n (gap ps)) = nowhere
exported_placed form.Init (part n (part m none)) = places (Two (own.Fixed (module_name_at (kind_of n))) (own.Fixed (module_name_at (kind_of m)))) _
    (ap₂ (λ p q. named (p ∷ sp ∷ term "as" ∷ sp ∷ q ∷ [])) (module_name (kind_of n)) (module_name (kind_of m)))
exported_placed form.Init (part n (part m (gap ps))) = nowhere
exported_placed form.Init (part n (part m (part l ps))) = nowhere
exported_placed _ ps = nowhere

pub specifiers_placed : (k : Kind) (g : Flags) (ps : Parts) → Placed ps (specifiers k g.form ps) (specifier_outline k g (around ps))
specifiers_placed kind.ImportDefaultSpecifier g none = nowhere
specifiers_placed kind.ImportDefaultSpecifier g (gap ps) = nowhere
specifiers_placed kind.ImportDefaultSpecifier g (part n none) = places (One (own.Fixed position.Name)) _ refl
specifiers_placed kind.ImportDefaultSpecifier g (part n (gap ps)) = nowhere
specifiers_placed kind.ImportDefaultSpecifier g (part n (part m ps)) = nowhere
specifiers_placed kind.ImportNamespaceSpecifier g none = nowhere
specifiers_placed kind.ImportNamespaceSpecifier g (gap ps) = nowhere
specifiers_placed kind.ImportNamespaceSpecifier g (part n none) = places (One (own.Fixed position.Name)) _ refl
specifiers_placed kind.ImportNamespaceSpecifier g (part n (gap ps)) = nowhere
specifiers_placed kind.ImportNamespaceSpecifier g (part n (part m ps)) = nowhere
specifiers_placed kind.ImportSpecifier g ps = imported_placed g.form ps
specifiers_placed kind.ExportSpecifier g ps = exported_placed g.form ps
specifiers_placed _ g ps = nowhere

pub default_items_placed : (k : Kind) (g : Flags) (ps : Parts) → Placed ps (default_items k g.form ps) (default_item_outline k g (around ps))
default_items_placed kind.FunctionDeclaration g ps = outlined_placed (functions g.form ps)
default_items_placed kind.ClassDeclaration g ps = outlined_placed (classes ps)
default_items_placed _ g ps = nowhere
