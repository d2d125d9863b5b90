-- The shapes of imports, exports and their names are those of the table.
use Rattle.std.proofs.Common.{◌≡◌, ℕ, zero, suc, ◌-◌, Bool, true, false, cond, List, [], ◌∷◌, ◌++◌, refl, sym, ap, ap₂, ◌∙◌, arith}
use Rattle.std.specs.Prelude.{Some, None, codes}
use Rattle.std.proofs.lemmas.Bool.{false≢true}
use Rattle.tree.specs.declared.kind.Kind.{Kind}
use Rattle.tree.specs.declared.kind.Kind.TheVariants as kind
use Rattle.tree.specs.declared.kind.Form.{Form}
use Rattle.tree.specs.declared.kind.Form.TheVariants as form
use Rattle.tree.specs.declared.kind.Flags.{Flags}
use Rattle.tree.specs.Tree.{Tree, node, Parts, none, part, gap, kind_of, part_at, part_count}
use Rattle.spelling_table.specs.Outlines.{parts_after}
use Rattle.spellings.proofs.PartsAfter.{some-suc}
use Rattle.language.specs.FirstPart.{lead}
use Rattle.language.specs.Vocabulary.{is_identifier}
use Rattle.language.specs.Pieces as piece
use Rattle.language.specs.Pieces.{Piece, Slot, put, sign}
use Rattle.language.specs.Statements.{imports, module_items, specifiers, default_items, from_source}
use Rattle.language.proofs.table.LooserPositions.{same}
use Rattle.language.proofs.table.TidyTable.{import-covers, default-covers}
use Rattle.printer.specs.declared.site.Site.TheVariants.{Plain}
use Rattle.printer.specs.declared.part_sites.PartSites.TheVariants.{AllPlain}
use Rattle.printer.specs.Sites.{slot_site}
use Rattle.printer.specs.Bits.{Mark, text, here, piece_marks, Bit}
use Rattle.printer.specs.Shapes.{has_part, export_shape, spelled, between}
use Rattle.printer.specs.Printed.{chain_marks, shape_marks}
use Rattle.printer.proofs.ListMarks.{has_source, export_chain, imports-marks, exports-marks}
use Rattle.printer.proofs.FirstWayFragments.{Shaped, nowhere, one, two}
use Rattle.printer.proofs.TableMarks.{with_form}
use Rattle.printer.proofs.OtherMarks.{Of, function_item, class_item}

-- the kind of the first of the parts from a place on
pub lead_some : (ps : Parts) (i : ℕ) (u : Tree) → Some u ≡ part_at ps i → kind_of u ≡ lead (parts_after i ps)
lead_some ps i u h = sym (ap lead (some-suc ps i u h))

pub lead_none : (ps : Parts) (i : ℕ) → None ≡ part_at ps i → kind.Program ≡ lead (parts_after i ps)
lead_none none zero h = refl
lead_none none (suc i) h = lead_none none i refl
lead_none (part n ps) zero h = absurd (cc)
lead_none (part n ps) (suc i) h = lead_none ps i h
lead_none (gap ps) zero h = refl
lead_none (gap ps) (suc i) h = lead_none ps i h

-- the last part is the source
last_source : (ps : Parts) (i : ℕ) → part_count ps ≡ suc i → has_source ps ≡ has_part ps i
last_source none i c = absurd (omega (arith, c))
last_source (part n none) zero c = refl
last_source (part n none) (suc i) c = absurd (omega (arith, c))
last_source (part n (part m ps)) zero c = absurd (omega (arith, c))
last_source (part n (part m ps)) (suc i) c = last_source (part m ps) i (omega (arith, c))
last_source (part n (gap ps)) zero c = absurd (omega (arith, c))
last_source (part n (gap ps)) (suc i) c = last_source (gap ps) i (omega (arith, c))
last_source (gap none) zero c = refl
last_source (gap none) (suc i) c = absurd (omega (arith, c))
last_source (gap (part m ps)) zero c = absurd (omega (arith, c))
last_source (gap (part m ps)) (suc i) c = last_source (part m ps) i (omega (arith, c))
last_source (gap (gap ps)) zero c = absurd (omega (arith, c))
last_source (gap (gap ps)) (suc i) c = last_source (gap ps) i (omega (arith, c))

source_last : (ps : Parts) → has_source ps ≡ has_part (gap ps) (part_count (gap ps) - 1)
source_last ps = last_source (gap ps) (part_count (gap ps) - 1) (omega arith)

-- what is asked of a name or a string
name_plain : (b : Bool) → slot_site (piece.fixed (cond b piece.word piece.directive_string)) ≡ Plain
name_plain true = refl
name_plain false = refl

abbrev source_bits : List Bit
source_bits = spelled "}" ∷ between "from"

abbrev gap_bits : List Bit
gap_bits = spelled "}" ∷ []

module _ (w : List ℕ) where
  imports_shaped : (g : Flags) (ps : Parts) → Shaped ps (Of w kind.ImportDeclaration g ps) (imports (lead ps) ps)
  imports_shaped g none = nowhere
  imports_shaped g (gap ps) = nowhere
  imports_shaped g (part (node kind.Literal v h s e us) none) = two (λ r c. refl) (λ a h'. (import-covers a a same h').0)
  imports_shaped g (part (node kind.Literal v h s e us) (gap ps)) = nowhere
  imports_shaped g (part (node kind.Literal v h s e us) (part m ps)) = nowhere
  imports_shaped g (part (node kind.ImportNamespaceSpecifier v h s e us) none) = nowhere
  imports_shaped g (part (node kind.ImportNamespaceSpecifier v h s e us) (gap ps)) = nowhere
  imports_shaped g (part (node kind.ImportNamespaceSpecifier v h s e us) (part m none)) = one (λ r c. refl)
  imports_shaped g (part (node kind.ImportNamespaceSpecifier v h s e us) (part m (gap ps))) = nowhere
  imports_shaped g (part (node kind.ImportNamespaceSpecifier v h s e us) (part m (part l ps))) = nowhere
  imports_shaped g (part (node kind.ImportSpecifier v h s e us) ps) = one (λ r c. ap (λ t. text (codes "import") ∷ text (codes " ") ∷ text (codes "{") ∷ t)
      (imports-marks w source_bits (sign "}" ∷ from_source) (text (codes ";") ∷ []) refl 0 (part (node kind.ImportSpecifier v h s e us) ps) r))
  imports_shaped g (part (node kind.ImportDefaultSpecifier v h s e us) none) = nowhere
  imports_shaped g (part (node kind.ImportDefaultSpecifier v h s e us) (gap ps)) = nowhere
  imports_shaped g (part (node kind.ImportDefaultSpecifier v h s e us) (part (node kind.Literal v' h' s' e' us') none)) = two (λ r c. refl) (λ a i. (default-covers a a same i).0)
  imports_shaped g (part (node kind.ImportDefaultSpecifier v h s e us) (part (node kind.Literal v' h' s' e' us') (gap ps))) = nowhere
  imports_shaped g (part (node kind.ImportDefaultSpecifier v h s e us) (part (node kind.Literal v' h' s' e' us') (part m ps))) = nowhere
  imports_shaped g (part (node kind.ImportDefaultSpecifier v h s e us) (part (node kind.ImportNamespaceSpecifier v' h' s' e' us') none)) = nowhere
  imports_shaped g (part (node kind.ImportDefaultSpecifier v h s e us) (part (node kind.ImportNamespaceSpecifier v' h' s' e' us') (gap ps))) = nowhere
  imports_shaped g (part (node kind.ImportDefaultSpecifier v h s e us) (part (node kind.ImportNamespaceSpecifier v' h' s' e' us') (part m none))) = one (λ r c. refl)
  imports_shaped g (part (node kind.ImportDefaultSpecifier v h s e us) (part (node kind.ImportNamespaceSpecifier v' h' s' e' us') (part m (gap ps)))) = nowhere
  imports_shaped g (part (node kind.ImportDefaultSpecifier v h s e us) (part (node kind.ImportNamespaceSpecifier v' h' s' e' us') (part m (part l ps)))) = nowhere
  imports_shaped g (part (node kind.ImportDefaultSpecifier v h s e us) (part (node kind.ImportSpecifier v' h' s' e' us') ps)) = one (λ r c. ap (λ t. text (codes "import") ∷ text (codes " ") ∷ here Plain ∷ text (codes ",") ∷ text (codes " ") ∷ text (codes "{") ∷ t)
      (imports-marks w source_bits (sign "}" ∷ from_source) (text (codes ";") ∷ []) refl 1 (part (node kind.ImportSpecifier v' h' s' e' us') ps) r))
  imports_shaped g (part (node kind.ImportDefaultSpecifier v h s e us) (part (node _ v' h' s' e' us') ps)) = nowhere
  imports_shaped g (part (node _ v h s e us) ps) = nowhere

  declared : (g : Flags) (d : Tree) → Shaped (part d (gap none)) (Of w kind.ExportNamedDeclaration g (part d (gap none))) (module_items kind.ExportNamedDeclaration (part d (gap none)))
  declared g (node kind.FunctionDeclaration v h s e us) = one (λ r c. refl)
  declared g (node kind.ClassDeclaration v h s e us) = one (λ r c. refl)
  declared g (node kind.VariableDeclaration v h s e us) = one (λ r c. refl)
  declared g (node _ v h s e us) = one (λ r c. absurd (false≢true r))

  exported_names : (ps : Parts) (b : Bool) → text (codes "export") ∷ text (codes " ") ∷ here Plain ∷ text (codes "{") ∷ (chain_marks w AllPlain (export_chain w source_bits gap_bits b) 1 ps ++ text (codes ";") ∷ []) ≡ shape_marks w (export_shape false b) (gap ps)
  exported_names ps true = refl
  exported_names ps false = refl

  exports_shaped : (g : Flags) (ps : Parts) → Shaped ps (Of w kind.ExportNamedDeclaration g ps) (module_items kind.ExportNamedDeclaration ps)
  exports_shaped g none = nowhere
  exports_shaped g (gap ps) = one (λ r c. ap (λ t. text (codes "export") ∷ text (codes " ") ∷ here Plain ∷ text (codes "{") ∷ t) (exports-marks w source_bits gap_bits (text (codes ";") ∷ []) refl refl 1 ps r)
      ∙ exported_names ps (has_source ps) ∙ ap (λ b. shape_marks w (export_shape false b) (gap ps)) (source_last ps))
  exports_shaped g (part d none) = nowhere
  exports_shaped g (part d (gap none)) = declared g d
  exports_shaped g (part d (gap (gap ps))) = nowhere
  exports_shaped g (part d (gap (part m ps))) = nowhere
  exports_shaped g (part d (part m ps)) = nowhere

  default_shaped : (g : Flags) (d : Tree) → Shaped (part d none) (Of w kind.ExportDefaultDeclaration g (part d none)) (module_items kind.ExportDefaultDeclaration (part d none))
  default_shaped g (node kind.FunctionDeclaration v h s e us) = one (λ r c. refl)
  default_shaped g (node kind.ClassDeclaration v h s e us) = one (λ r c. refl)
  default_shaped g (node _ v h s e us) = one (λ r c. refl)

  pub module_items_shaped : (k : Kind) (g : Flags) (ps : Parts) → Shaped ps (Of w k g ps) (module_items k ps)
  module_items_shaped kind.ImportDeclaration g ps = imports_shaped g ps
  module_items_shaped kind.ExportNamedDeclaration g ps = exports_shaped g ps
  module_items_shaped kind.ExportDefaultDeclaration g none = nowhere
  module_items_shaped kind.ExportDefaultDeclaration g (gap ps) = nowhere
  module_items_shaped kind.ExportDefaultDeclaration g (part d none) = default_shaped g d
  module_items_shaped kind.ExportDefaultDeclaration g (part d (gap ps)) = nowhere
  module_items_shaped kind.ExportDefaultDeclaration g (part d (part m ps)) = nowhere
  module_items_shaped kind.ExportAllDeclaration g none = nowhere
  module_items_shaped kind.ExportAllDeclaration g (gap none) = nowhere
  module_items_shaped kind.ExportAllDeclaration g (gap (gap ps)) = nowhere
  module_items_shaped kind.ExportAllDeclaration g (gap (part s none)) = one (λ r c. refl)
  module_items_shaped kind.ExportAllDeclaration g (gap (part s (gap ps))) = nowhere
  module_items_shaped kind.ExportAllDeclaration g (gap (part s (part m ps))) = nowhere
  module_items_shaped kind.ExportAllDeclaration g (part n none) = nowhere
  module_items_shaped kind.ExportAllDeclaration g (part n (gap ps)) = nowhere
  module_items_shaped kind.ExportAllDeclaration g (part n (part s none)) = one (λ r c. ap (λ x. text (codes "export") ∷ text (codes " ") ∷ text (codes "*") ∷ text (codes " ") ∷ text (codes "as") ∷ text (codes " ") ∷ here x ∷ piece_marks from_source) (name_plain (is_identifier (kind_of n))))
  module_items_shaped kind.ExportAllDeclaration g (part n (part s (gap ps))) = nowhere
  module_items_shaped kind.ExportAllDeclaration g (part n (part s (part m ps))) = nowhere
  module_items_shaped _ g ps = nowhere

  -- two names, of which each may be a string
  aliased : (x y : Bool) → here (slot_site (piece.fixed (cond x piece.word piece.directive_string))) ∷ text (codes " ") ∷ text (codes "as") ∷ text (codes " ") ∷ here (slot_site (piece.fixed (cond y piece.word piece.directive_string))) ∷ []
      ≡ here Plain ∷ text (codes " ") ∷ text (codes "as") ∷ text (codes " ") ∷ here Plain ∷ []
  aliased x y = ap₂ (λ a b. here a ∷ text (codes " ") ∷ text (codes "as") ∷ text (codes " ") ∷ here b ∷ []) (name_plain x) (name_plain y)

  imported_shaped : (x : Form) (g : Flags) (ps : Parts) → Shaped ps (Of w kind.ImportSpecifier (with_form x g) ps) (specifiers kind.ImportSpecifier x ps)
  imported_shaped form.Shorthand g none = nowhere
  imported_shaped form.Shorthand g (gap ps) = nowhere
  imported_shaped form.Shorthand g (part n none) = one (λ r c. refl)
  imported_shaped form.Shorthand g (part n (gap ps)) = nowhere
  imported_shaped form.Shorthand g (part n (part m ps)) = nowhere
  imported_shaped form.Init g none = nowhere
  imported_shaped form.Init g (gap ps) = nowhere
  imported_shaped form.Init g (part n none) = nowhere
  imported_shaped form.Init g (part n (gap ps)) = nowhere
  imported_shaped form.Init g (part n (part m none)) = one (λ r c. aliased (is_identifier (kind_of n)) true)
  imported_shaped form.Init g (part n (part m (gap ps))) = nowhere
  imported_shaped form.Init g (part n (part m (part l ps))) = nowhere
  imported_shaped _ g ps = nowhere

  exported_shaped : (x : Form) (g : Flags) (ps : Parts) → Shaped ps (Of w kind.ExportSpecifier (with_form x g) ps) (specifiers kind.ExportSpecifier x ps)
  exported_shaped form.Shorthand g none = nowhere
  exported_shaped form.Shorthand g (gap ps) = nowhere
  exported_shaped form.Shorthand g (part n none) = one (λ r c. ap (λ x. here x ∷ []) (name_plain (is_identifier (kind_of n))))
  exported_shaped form.Shorthand g (part n (gap ps)) = nowhere
  exported_shaped form.Shorthand g (part n (part m ps)) = nowhere
  exported_shaped form.Init g none = nowhere
  exported_shaped form.Init g (gap ps) = nowhere
  exported_shaped form.Init g (part n none) = nowhere
  exported_shaped form.Init g (part n (gap ps)) = nowhere
  exported_shaped form.Init g (part n (part m none)) = one (λ r c. aliased (is_identifier (kind_of n)) (is_identifier (kind_of m)))
  exported_shaped form.Init g (part n (part m (gap ps))) = nowhere
  exported_shaped form.Init g (part n (part m (part l ps))) = nowhere
  exported_shaped _ g ps = nowhere

  pub specifiers_shaped : (k : Kind) (g : Flags) (ps : Parts) → Shaped ps (Of w k g ps) (specifiers k g.form ps)
  specifiers_shaped kind.ImportDefaultSpecifier g none = nowhere
  specifiers_shaped kind.ImportDefaultSpecifier g (gap ps) = nowhere
  specifiers_shaped kind.ImportDefaultSpecifier g (part n none) = one (λ r c. refl)
  specifiers_shaped kind.ImportDefaultSpecifier g (part n (gap ps)) = nowhere
  specifiers_shaped kind.ImportDefaultSpecifier g (part n (part m ps)) = nowhere
  specifiers_shaped kind.ImportNamespaceSpecifier g none = nowhere
  specifiers_shaped kind.ImportNamespaceSpecifier g (gap ps) = nowhere
  specifiers_shaped kind.ImportNamespaceSpecifier g (part n none) = one (λ r c. refl)
  specifiers_shaped kind.ImportNamespaceSpecifier g (part n (gap ps)) = nowhere
  specifiers_shaped kind.ImportNamespaceSpecifier g (part n (part m ps)) = nowhere
  specifiers_shaped kind.ImportSpecifier g ps = imported_shaped g.form g ps
  specifiers_shaped kind.ExportSpecifier g ps = exported_shaped g.form g ps
  specifiers_shaped _ g ps = nowhere

  pub default_items_shaped : (k : Kind) (g : Flags) (ps : Parts) → Shaped ps (Of w k g ps) (default_items k g.form ps)
  default_items_shaped kind.FunctionDeclaration g ps = one (function_item w g ps)
  default_items_shaped kind.ClassDeclaration g ps = one (class_item w g ps)
  default_items_shaped _ g ps = nowhere
