-- What is read of a list is of the text's language: an item with its parts, and the list with one more.
use Rattle.std.proofs.Common.{◌≡◌, ℕ, Result, Ok, Err, Bool, true, false, [], refl, sym, subst}
use Rattle.std.specs.Result.{IfOk}
use Rattle.source_text.specs.declared.fault.Fault.{Fault}
use Rattle.tree.specs.declared.kind.Kind.TheVariants.{SpreadElement, VariableDeclarator, SwitchCase, TemplateElement}
use Rattle.tree.specs.Tree.{Tree, node, plain, Parts, none, part, gap, push_gap}
use Rattle.covers.specs.declared.list.ListItem.{ListItem}
use Rattle.covers.specs.declared.list.ListBuilder.{ListBuilder as ListOf}
use Rattle.covers.specs.Lists.{with_hole}
use Rattle.tree.specs.Patterns.{pattern_tree}
use Rattle.covers.specs.Shapes.{value}
use Rattle.language.specs.declared.Edge.TheVariants.{Closed}
use Rattle.language.specs.Token.{Token}
use Rattle.parser_tables.specs.declared.operand.Operand.{Operand}
use Rattle.parser_tables.specs.Items.{element_item, item_from, with_item}
use Rattle.recursive_descent.specs.Follows.{ChunkAt}
use Rattle.recursive_descent.specs.Spelled.{OfLanguage, AllOfLanguage}
use Rattle.recursive_descent.proofs.reading.LanguageTrees.{of_node, of_none, of_part, of_gap, of_push, of_push_gap, pattern_of_language}
use Rattle.recursive_descent.proofs.sound_lists.CaseClauses.{case_nodes}
use Rattle.token_cursor.specs.SourceText.{SourceText}

module _ (text : SourceText) where
  -- the list with one more item, and with a hole
  pub own_item : (l k : ListOf) (it : ListItem) (r : Result (Unit {0}) Fault) → IfOk r (λ u. k ≡ with_item l it) → OfLanguage text it.node → IfOk r (λ u. AllOfLanguage text l.nodes → AllOfLanguage text k.nodes)
  own_item l k' it (Ok u) k own = λ before. subst (λ (x : ListOf). AllOfLanguage text x.nodes) (sym k) (of_push l.nodes it.node before own)
  own_item l k' it (Err f) k own = tt

  pub own_hole : (l k : ListOf) (r : Result (Unit {0}) Fault) → IfOk r (λ u. k ≡ record l { nodes = push_gap l.nodes; seen = with_hole l.seen }) → IfOk r (λ u. AllOfLanguage text l.nodes → AllOfLanguage text k.nodes)
  own_hole l k' (Ok u) k = λ before. subst (λ (x : ListOf). AllOfLanguage text x.nodes) (sym k) (of_push_gap l.nodes before)
  own_hole l k' (Err f) k = tt

  -- an element, and one behind `...`
  pub element_own : (spreads : Bool) (s e : ℕ) (p : Operand) (it : ListItem) → it ≡ element_item spreads s e p → OfLanguage text p.cover.node → OfLanguage text it.node
  element_own true s e p it is own = subst (λ (x : ListItem). OfLanguage text x.node) (sym is) (of_node {k = SpreadElement} {w = []} {g = plain} {st = s} {en = e} {ps = part p.cover.node none} (λ b. refl) (of_part {n = p.cover.node} {ps = none} own of_none))
  element_own false s e p it is own = subst (λ (x : ListItem). OfLanguage text x.node) (sym is) own

  -- a declarator with a value, or without
  pub valued_own : {s e : ℕ} {n : Tree} (m v : Tree) {ps : Parts} → n ≡ node VariableDeclarator [] plain s e ps → ps ≡ part (pattern_tree m) (part v none) → OfLanguage text m → OfLanguage text v → OfLanguage text n
  valued_own {s} {e} m v {ps} tree parts own own_value =
      subst (λ x. OfLanguage text x) (sym tree) (of_node {k = VariableDeclarator} {w = []} {g = plain} {st = s} {en = e} {ps = ps} (λ b. refl)
      (subst (λ x. AllOfLanguage text x) (sym parts) (of_part {n = pattern_tree m} {ps = part v none} (pattern_of_language m own) (of_part {n = v} {ps = none} own_value of_none))))

  pub valueless_own : {s e : ℕ} {n : Tree} (m : Tree) {ps : Parts} → n ≡ node VariableDeclarator [] plain s e ps → ps ≡ part (pattern_tree m) (gap none) → OfLanguage text m → OfLanguage text n
  valueless_own {s} {e} m {ps} tree parts own =
      subst (λ x. OfLanguage text x) (sym tree) (of_node {k = VariableDeclarator} {w = []} {g = plain} {st = s} {en = e} {ps = ps} (λ b. refl)
      (subst (λ x. AllOfLanguage text x) (sym parts) (of_part {n = pattern_tree m} {ps = gap none} (pattern_of_language m own) (of_gap {ps = none} of_none))))

  -- a case, from what stands before its parts
  pub case_own : (d : Bool) {s e : ℕ} {n : Tree} {before ps : Parts} → n ≡ node SwitchCase [] plain s e ps → before ≡ case_nodes d none → (AllOfLanguage text before → AllOfLanguage text ps) → OfLanguage text n
  case_own d {s} {e} {n} {before} {ps} tree first own =
      subst (λ x. OfLanguage text x) (sym tree) (of_node {k = SwitchCase} {w = []} {g = plain} {st = s} {en = e} {ps = ps} (λ b. refl) (own (subst (λ x. AllOfLanguage text x) (sym first) (none_yet d))))
    where
      none_yet : (c : Bool) → AllOfLanguage text (case_nodes c none)
      none_yet true = of_gap {ps = none} of_none
      none_yet false = of_none

  -- an expression in a template, and the part behind it
  pub own_chunk : (s e : Token) (l l1 k : ListOf) (p : Operand) (c : ListItem) (r : Result (Unit {0}) Fault) {at : SourceText} → l1 ≡ with_item l (item_from p.cover.node value false Closed) → IfOk r (λ u. k ≡ with_item l1 c) → OfLanguage text p.cover.node → ChunkAt at s e c.node c.is_flagged →
      IfOk r (λ u. AllOfLanguage text l.nodes → AllOfLanguage text k.nodes)
  own_chunk s e l l1 k' p c (Err f) first k own chunk = tt
  own_chunk s e l l1 k' p c (Ok u) first k own chunk = λ before.
      own_item l1 k' c (Ok u) k (subst (λ x. OfLanguage text x) (sym chunk.2) (of_node {k = TemplateElement} {w = chunk.0} {g = plain} {ps = none} (λ b. refl) of_none))
      (own_item l l1 (item_from p.cover.node value false Closed) (Ok u) first own before)
