-- The table of a plan has a text, which is read back.
use Rattle.std.proofs.Common.{◌≡◌, ℕ, zero, suc, ◌+◌, ◌≤◌, Bool, true, false, cond, List, [], ◌∷◌, length, Option, Some, None, refl, sym, ap, ◌∙◌, subst, arith}
use Rattle.std.specs.Prelude.{map, slice_get}
use Rattle.std.proofs.lemmas.Bool.{and_parts, and_from, true≢false}
use Rattle.std.proofs.lemmas.List.{length-map}
use Rattle.tree.specs.declared.kind.Kind.{Kind}
use Rattle.tree.specs.declared.kind.Kind.TheVariants as kind
use Rattle.tree.specs.declared.kind.Flags.{Flags}
use Rattle.tree.specs.declared.kind.Pair.{Pair}
use Rattle.tree.specs.Tree.{Tree, node, Parts, none, part, gap, kind_of, parts_of, bare, bare_parts}
use Rattle.tree.specs.Uses.{is_lean}
use Rattle.language.specs.declared.Rank.{Rank}
use Rattle.language.specs.declared.Rank.TheVariants.{Expression, Member}
use Rattle.language.specs.declared.Start.{Start}
use Rattle.language.specs.declared.Start.TheVariants.{Any, NoBrace, Statement}
use Rattle.language.specs.Pieces.{Role, expr, script, PieceOf, Spelling}
use Rattle.language.specs.Expressions.{expressions}
use Rattle.language.specs.Grammar.{ways, ways_bare, spellings}
use Rattle.language.specs.RowPositions.{first_roles, widest, rows, parts_rows}
use Rattle.language.specs.Derivation.{Among}
use Rattle.language.specs.Cost.{cell, cells, least}
use Rattle.language.specs.Claims.{row_nodes, parts_row_nodes}
use Rattle.language.specs.Token.{Token}
use Rattle.language.specs.declared.Language.{Language}
use Rattle.language.specs.Languages.{DerivesIn}
use Rattle.language.proofs.lower_bound.Domination.{ways_of}
use Rattle.spellings.proofs.Slots.{is_wide, all_pass, parts_wide}
use Rattle.paren_planner.specs.declared.wrap_plan.Plan.{Plan}
use Rattle.paren_planner.specs.Plans.{IsPlan}
use Rattle.cost_table.specs.Rows.{shown, celled}
use Rattle.cost_table.specs.Tables.{table_of}
use Rattle.cost_table.proofs.RowNodes.{split_at, nodes-length, wide_itself, wide_start}
use Rattle.paren_planner.proofs.Bounds.{Below, nothing, something, below_more, least_below, cell_below}
use Rattle.language.proofs.table.Alike.{same}
use Rattle.paren_planner.proofs.Somewhere.{rows_somewhere}
use Rattle.cost_certificate.specs.Types.{has_type}
use Rattle.cost_certificate.specs.Forms.{is_small, is_row, all_rows, is_formed}
use Rattle.cost_certificate.proofs.TableTexts.{small_number}

-- Types

-- a kind that can have no row spells no expression
untyped : (k : Kind) (w : List ℕ) (g : Flags) (ps : Parts) → has_type k ≡ false → expressions k w g ps ≡ []
unfolding expressions
untyped kind.SequenceExpression w g ps h = absurd (true≢false h)
untyped kind.AssignmentExpression w g ps h = absurd (true≢false h)
untyped kind.ArrowFunctionExpression w g ps h = absurd (true≢false h)
untyped kind.ConditionalExpression w g ps h = absurd (true≢false h)
untyped kind.LogicalExpression w g ps h = absurd (true≢false h)
untyped kind.BinaryExpression w g ps h = absurd (true≢false h)
untyped kind.UnaryExpression w g ps h = absurd (true≢false h)
untyped kind.UpdateExpression w g ps h = absurd (true≢false h)
untyped kind.ChainExpression w g ps h = absurd (true≢false h)
untyped kind.CallExpression w g ps h = absurd (true≢false h)
untyped kind.ImportExpression w g ps h = absurd (true≢false h)
untyped kind.MemberExpression w g ps h = absurd (true≢false h)
untyped kind.TaggedTemplateExpression w g ps h = absurd (true≢false h)
untyped kind.NewExpression w g ps h = absurd (true≢false h)
untyped kind.MetaProperty w g ps h = absurd (true≢false h)
untyped kind.Identifier w g ps h = absurd (true≢false h)
untyped kind.Literal w g ps h = absurd (true≢false h)
untyped kind.ThisExpression w g ps h = absurd (true≢false h)
untyped kind.ArrayExpression w g ps h = absurd (true≢false h)
untyped kind.ObjectExpression w g ps h = absurd (true≢false h)
untyped kind.FunctionExpression w g ps h = absurd (true≢false h)
untyped kind.ClassExpression w g ps h = absurd (true≢false h)
untyped kind.TemplateLiteral w g ps h = absurd (true≢false h)
untyped kind.AwaitExpression w g ps h = absurd (true≢false h)
untyped kind.YieldExpression w g ps h = absurd (true≢false h)
untyped _ w g ps h = refl

no_way : (qs : List (PieceOf Role)) (t : Bool) (a : Role) (xs : List Spelling) → xs ≡ [] → Among qs (cond t (ways_of a xs) []) → ⊥
no_way qs true a [] e h = elim h [ ]
no_way qs false a [] e h = elim h [ ]
no_way qs t a (x ∷ xs) e h = absurd (cc)

true_or : (b : Bool) → (b ≡ false → ⊥) → b ≡ true
true_or true h = refl
true_or false h = absurd (h refl)

-- a node that has a way to be spelled at an expression's position can have a row
way_typed : (n : Tree) (y : Rank) (i : Bool) (f : Start) (qs : List (PieceOf Role)) → Among qs (ways (expr y i f) n) → has_type (kind_of n) ≡ true
unfolding ways ways_bare spellings
way_typed (node k w g s e ps) y i f qs h =
    true_or (has_type k) (λ u. no_way qs (is_lean (bare (node k w g s e ps))) (expr y i f) (expressions k w g (bare_parts ps)) (untyped k w g (bare_parts ps) u) h)

-- Numbers

small_cell : {x : Option ℕ} → Below x 16777216 → is_small x ≡ true
small_cell nothing = refl
small_cell (something c h) = small_number c h

-- the rows in a node of a script are no more than the script's
mutual
  unfolding row_nodes parts_row_nodes rows parts_rows

  inner_rows : (n : Tree) (a : Role) → is_wide a ≡ true → (k : ℕ) (m : Tree) → slice_get (row_nodes n a) k ≡ Some m → parts_rows (parts_of m) (first_roles (ways (expr Expression true Any) m)) ≤ rows n a
  inner_rows (node j w g s e ps) (expr y i f) v zero m h =
      let n = node j w g s e ps in
      let same : n ≡ m = cc in
      subst (λ x. parts_rows (parts_of x) (first_roles (ways (expr Expression true Any) x)) ≤ rows n (expr y i f)) same (omega arith)
  inner_rows (node j w g s e ps) (expr y i f) v (suc k) m h =
      let n = node j w g s e ps in
      let l = parts_inner ps (first_roles (ways (expr Expression true Any) n)) (parts_wide (expr Expression true Any) n refl) k m h in
      omega (arith, l)
  inner_rows (node j w g s e ps) a v k m h =
      let n = node j w g s e ps in
      let there : slice_get (parts_row_nodes ps (first_roles (ways (widest a) n))) k ≡ Some m = subst (λ b. slice_get (parts_row_nodes ps (first_roles (ways b n))) k ≡ Some m) (sym (wide_itself a v refl)) h in
      let l = parts_inner ps (first_roles (ways (widest a) n)) (parts_wide (widest a) n (wide_start a)) k m there in
      omega (arith, l)

  parts_inner : (ps : Parts) (xs : List Role) → all_pass is_wide xs ≡ true → (k : ℕ) (m : Tree) → slice_get (parts_row_nodes ps xs) k ≡ Some m → parts_rows (parts_of m) (first_roles (ways (expr Expression true Any) m)) ≤ parts_rows ps xs
  parts_inner none xs v k m h = absurd (cc)
  parts_inner (gap ps) xs v k m h = parts_inner ps xs v k m h
  parts_inner (part n ps) [] v k m h = absurd (cc)
  parts_inner (part n ps) (a ∷ xs) v k m h =
      let w = and_parts (is_wide a) (all_pass is_wide xs) v in
      split_at (row_nodes n a) (parts_row_nodes ps xs) k m (parts_rows (parts_of m) (first_roles (ways (expr Expression true Any) m)) ≤ rows n a + parts_rows ps xs) h
      (λ i. let l = inner_rows n a w.0 k m i in omega (arith, l))
      (λ q e i. let l = parts_inner ps xs w.1 q m i in omega (arith, l))

-- Rows

small_at : (n : Tree) (b : Role) → widest b ≡ expr Expression true Any → parts_rows (parts_of n) (first_roles (ways (expr Expression true Any) n)) ≤ 16777216 → is_small (cell n b) ≡ true
small_at n b w l = small_cell (below_more (cell_below n b) (subst (λ u. parts_rows (parts_of n) (first_roles (ways u n)) ≤ 16777216) (sym w) l))

row_formed : (n : Tree) → has_type (kind_of n) ≡ true → parts_rows (parts_of n) (first_roles (ways (expr Expression true Any) n)) ≤ 16777216 → is_row (celled n) ≡ true
unfolding cells
row_formed n t l =
    and_from _ _ t
    (and_from _ _ (small_at n (expr Expression true Any) refl l) (and_from _ _ (small_at n (expr Expression true NoBrace) refl l) (and_from _ _ (small_at n (expr Expression true Statement) refl l)
    (and_from _ _ (small_at n (expr Expression false Any) refl l) (and_from _ _ (small_at n (expr Expression false NoBrace) refl l)
    (and_from _ _ (small_at n (expr Member true Any) refl l) (and_from _ _ (small_at n (expr Member true NoBrace) refl l) (and_from _ _ (small_at n (expr Member true Statement) refl l) refl))))))))

rows_formed : (ns : List Tree) → ((k : ℕ) (m : Tree) → slice_get ns k ≡ Some m → is_row (celled m) ≡ true) → all_rows (map celled ns) ≡ true
rows_formed [] h = refl
rows_formed (n ∷ ns) h = and_from _ _ (h 0 n refl) (rows_formed ns (λ k m e. h (suc k) m e))

total_small : (x : Option ℕ) (c : ℕ) → Below x 16777216 → Some c ≡ x → c ≤ 16777216
total_small None c h e = absurd (cc)
total_small (Some b) c (something d l) e = let z : c ≡ b = cc in omega (arith, z, l)

-- A plan's table

pub plan_short : (n : Tree) (p : Plan) → rows n script ≤ 16777216 → IsPlan n p → length p.table.rows.items ≤ 16777216
plan_short n p few h =
    let all = sym (length-map p.table.rows.items shown) ∙ ap length h.cells ∙ length-map (row_nodes n script) celled ∙ nodes-length n script refl in
    omega (arith, all, few)

-- any place will do
abbrev Anywhere : Token → Type 0
Anywhere t = Unit {0}

pub plan_formed : (language : Language) (text : List ℕ) (n : Tree) (P : List Pair) (p : Plan) → DerivesIn language text n P → rows n script ≤ 16777216 → IsPlan n p → is_formed (table_of p.table.rows.items p.table.total) ≡ true
plan_formed language text n P p d few h =
    let all = sym (ap length h.cells) ∙ length-map p.table.rows.items shown in
    let short = plan_short n p few h in
    let whole = length-map p.table.rows.items shown in
    let formed : all_rows (map shown p.table.rows.items) ≡ true =
    subst (λ xs. all_rows xs ≡ true) (sym h.cells)
    (rows_formed (row_nodes n script)
    (λ k m e. let x = rows_somewhere Token _ _ Anywhere (λ s e t q p. tt) d.1.2 tt script same refl k m e in row_formed m (way_typed m x.rank x.has_in x.start x.way x.among) (let l = inner_rows n script refl k m e in omega (arith, l, few)))) in
    and_from _ _ (small_number (length (map shown p.table.rows.items)) (omega (arith, short, whole)))
    (and_from _ _ formed (small_number p.table.total (total_small (least n script) p.table.total (below_more (least_below n script) few) h.total)))
