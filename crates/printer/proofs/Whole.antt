-- From marks to the layout of a node.
use Rattle.std.proofs.Common.{◌≡◌, ℕ, zero, suc, ◌+◌, ◌-◌, Bool, true, false, not, cond, nat_eq, List, [], ◌∷◌, ◌++◌, length, refl, sym, ap, ap₂, ◌∙◌, subst, append_assoc, arith}
use Rattle.std.specs.Prelude.{Some, None, ◌&&◌, ◌||◌, codes}
use Prim.Native.String.{String}
use Rattle.std.proofs.lemmas.Slice.Eq.{bytes_eq-Decides}
use Rattle.tree.specs.declared.kind.Kind.{Kind}
use Rattle.tree.specs.declared.kind.Kind.TheVariants as kind
use Rattle.tree.specs.declared.kind.Flags.{Flags}
use Rattle.tree.specs.Uses.{is_async}
use Rattle.tree.specs.Tree.{Tree, node, Parts, none, part, gap, kind_of, text_of, flags_of, parts_of, part_count, bare_parts}
use Rattle.language.specs.declared.Rank.{Rank}
use Rattle.language.specs.declared.Rank.TheVariants.{Expression, LeftHandSide, Update}
use Rattle.tokens.specs.declared.token.TokenClass.TheVariants.{Punctuator}
use Rattle.language.specs.declared.Start.{Start}
use Rattle.language.specs.declared.Start.TheVariants.{Any}
use Rattle.language.specs.FirstPart.{lead, others}
use Rattle.language.specs.Vocabulary.{is, is_target}
use Rattle.language.specs.Pieces as piece
use Rattle.language.specs.Pieces.{Role, expr, PieceOf, tok, may, many, ahead, unbroken, no_operand, ending, open_parameters, close_parameters, sub, absent, never, lay, is_none}
use Rattle.language.specs.Expressions.{expressions, value_form}
use Rattle.language.specs.Statements.{statements, items, openings}
use Rattle.language.specs.Grammar.{ways, spellings}
use Rattle.language.specs.RowPositions.{has_row, rows, roles, parts_rows, first_roles}
use Rattle.language.specs.Layout.{some_way, first_way, layout, parts_layout}
use Rattle.spelling_table.specs.declared.position.Position.{Position}
use Rattle.spelling_table.specs.declared.position.Position.TheVariants as at
use Rattle.spelling_table.specs.Outlines.{role_of, parts_after, is_before_last}
use Rattle.spellings.proofs.Bare.{none-bare, others-bare}
use Rattle.printer.specs.declared.fragments.SignOperator.{SignOperator}
use Rattle.printer.specs.declared.fragments.SignOperator.TheVariants.{Plus, Minus}
use Rattle.printer.specs.declared.part_sites.PartSites.{PartSites}
use Rattle.printer.specs.Sites.{site_in, site_at}
use Rattle.printer.specs.Bits.{Mark, here, marks_of, Bit, Chain, Shape, before_bits, after_bits}
use Rattle.printer.specs.Shapes.{shape_by_kind, sign_of_text, sign_at, has_part, is_single, after_open_number, if_shape, try_shape, for_shape, declarator_shape, word_shape, braced_shape, case_shape, catch_shape, arrow_shape, class_shape, member_shape, yield_shape, field_shape, import_shape, alias_shape, export_shape, export_all_shape, is_default_declaration, default_shape, property_shape, class_member_shape}
use Rattle.printer.proofs.FragmentsByPosition.{shape_by}
use Rattle.printer.specs.Sheets.{View, Writes}
use Rattle.printer.proofs.WrittenTexts.{leads_then, leads_at}
use Rattle.language.specs.LayoutFits.{lines_up, parts_fit}
use Rattle.printer.specs.Printed.{marks_in, chain_marks, front_marks, deep, shape_marks, marks_text, Reads, Printed, Direct, Written, spelled_so, signed_marks}
use Rattle.printer.proofs.Layouts.{layout_marks}
use Rattle.row_laws.proofs.WidestRows.{rows-widest}
use Rattle.printer.proofs.Rows.{rows_inside}
use Rattle.printer.proofs.FirstWayFragments.{Means, counts_up, Shaped, nowhere, one, shaped_ways}
use Rattle.printer.proofs.PlaceMarks.{places_shaped}

-- Places change no shape

part-bare : (ps : Parts) (i : ℕ) → has_part (bare_parts ps) i ≡ has_part ps i
part-bare none i = refl
part-bare (part n ps) zero = refl
part-bare (part n ps) (suc i) = part-bare ps i
part-bare (gap ps) zero = refl
part-bare (gap ps) (suc i) = part-bare ps i

last-bare : (ps : Parts) → is_before_last (bare_parts ps) ≡ is_before_last ps
last-bare none = refl
last-bare (part n ps) = none-bare ps
last-bare (gap ps) = none-bare ps

single-bare : (ps : Parts) → is_single (bare_parts ps) ≡ is_single ps
single-bare none = refl
single-bare (gap ps) = refl
single-bare (part n none) = refl
single-bare (part n (gap ps)) = refl
single-bare (part (node k w g s e us) (part b none)) = refl
single-bare (part n (part b (part m ps))) = refl
single-bare (part n (part b (gap ps))) = refl

open-bare : (ps : Parts) → after_open_number (bare_parts ps) ≡ after_open_number ps
open-bare none = refl
open-bare (gap ps) = refl
open-bare (part (node k w g s e us) ps) = refl

lead-bare : (ps : Parts) → lead (bare_parts ps) ≡ lead ps
lead-bare none = refl
lead-bare (gap ps) = refl
lead-bare (part (node k w g s e us) ps) = refl

form-bare : (ps : Parts) → value_form (bare_parts ps) ≡ value_form ps
form-bare none = refl
form-bare (gap ps) = refl
form-bare (part n none) = refl
form-bare (part n (gap ps)) = refl
form-bare (part n (part (node k w g s e us) ps)) = refl

count-bare : (ps : Parts) → part_count (bare_parts ps) ≡ part_count ps
count-bare none = refl
count-bare (part n ps) = ap (λ c. c + 1) (count-bare ps)
count-bare (gap ps) = ap (λ c. c + 1) (count-bare ps)

shape-bare : (k : Kind) (w : List ℕ) (g : Flags) (ps : Parts) → shape_by_kind k w g (bare_parts ps) ≡ shape_by_kind k w g ps
shape-bare kind.IfStatement w g ps = ap if_shape (part-bare ps 2)
shape-bare kind.TryStatement w g ps = ap₂ try_shape (part-bare ps 1) (part-bare ps 2)
shape-bare kind.ForStatement w g ps = ap₂ for_shape (part-bare ps 1) (part-bare ps 2)
shape-bare kind.VariableDeclarator w g ps = ap declarator_shape (part-bare ps 1)
shape-bare kind.ReturnStatement w g ps = ap (word_shape "return") (part-bare ps 0)
shape-bare kind.BreakStatement w g ps = ap (word_shape "break") (part-bare ps 0)
shape-bare kind.ContinueStatement w g ps = ap (word_shape "continue") (part-bare ps 0)
shape-bare kind.BlockStatement w g ps = ap (λ b. braced_shape [] (Rattle.printer.specs.Shapes.spelled "{" ∷ []) (not b)) (none-bare ps)
shape-bare kind.ClassBody w g ps = ap (λ b. braced_shape [] (Rattle.printer.specs.Shapes.spelled "{" ∷ []) (not b)) (none-bare ps)
shape-bare kind.SwitchStatement w g ps = ap (λ b. braced_shape (Rattle.printer.specs.Shapes.headed "switch" ∷ []) (Rattle.printer.specs.Shapes.spelled ")" ∷ Rattle.printer.specs.Shapes.gapped ∷ Rattle.printer.specs.Shapes.spelled "{" ∷ []) (not b)) (ap is_none (others-bare ps) ∙ none-bare (others ps))
shape-bare kind.SwitchCase w g ps = ap case_shape (part-bare ps 0)
shape-bare kind.CatchClause w g ps = ap catch_shape (part-bare ps 0)
shape-bare kind.ArrowFunctionExpression w g ps = ap (arrow_shape (is_async g.form)) (single-bare ps)
shape-bare kind.YieldExpression w g ps = ap (yield_shape g.form) (part-bare ps 0)
shape-bare kind.Property w g ps = ap (λ x. property_shape g.form x g.computed) (form-bare ps)
shape-bare kind.MethodDefinition w g ps = ap (λ x. class_member_shape g.is_static g.form x g.computed) (form-bare ps)
shape-bare kind.PropertyDefinition w g ps = ap (field_shape g.is_static g.computed) (part-bare ps 1)
shape-bare kind.StaticBlock w g ps = ap (λ b. braced_shape [] (Rattle.printer.specs.Shapes.spelled "static" ∷ Rattle.printer.specs.Shapes.gapped ∷ Rattle.printer.specs.Shapes.spelled "{" ∷ []) (not b)) (none-bare ps)
shape-bare kind.ImportDeclaration w g ps = ap₂ import_shape (lead-bare ps) (ap lead (others-bare ps) ∙ lead-bare (others ps))
shape-bare kind.ImportSpecifier w g ps = ap alias_shape (part-bare ps 1)
shape-bare kind.ExportSpecifier w g ps = ap alias_shape (part-bare ps 1)
shape-bare kind.ExportNamedDeclaration w g ps = ap₂ export_shape (part-bare ps 0) (ap (λ c. has_part (bare_parts ps) (c - 1)) (count-bare ps) ∙ part-bare ps (part_count ps - 1))
shape-bare kind.ExportDefaultDeclaration w g ps = ap (λ k. default_shape (is_default_declaration k)) (lead-bare ps)
shape-bare kind.ExportAllDeclaration w g ps = ap export_all_shape (part-bare ps 0)
shape-bare kind.ClassExpression w g ps = ap₂ class_shape (part-bare ps 0) (part-bare ps 1)
shape-bare kind.ClassDeclaration w g ps = ap₂ class_shape (part-bare ps 0) (part-bare ps 1)
shape-bare kind.MemberExpression w g ps = ap (member_shape g.optional g.computed) (open-bare ps)
shape-bare _ w g ps = refl

place-bare : (p : Position) (k : Kind) (w : List ℕ) (g : Flags) (ps : Parts) → shape_by p k w g (bare_parts ps) ≡ shape_by p k w g ps
place-bare at.ShorthandKey k w g ps = refl
place-bare (at.TemplateElement a b) k w g ps = refl
place-bare (at.Method x) k w g ps = refl
place-bare (at.ForDeclaration b) k w g ps = refl
place-bare _ k w g ps = shape-bare k w g ps

site-bare : (p : PartSites) (i : ℕ) (ps : Parts) → site_at p i (bare_parts ps) ≡ site_at p i ps
site-bare p i ps = ap₂ (site_in p i) (lead-bare ps) (ap is_none (others-bare ps) ∙ none-bare (others ps))

front-bare : (w : List ℕ) (p : PartSites) (i : ℕ) (fs : List (List Bit)) (ps : Parts) (ms : List Mark) → front_marks w p i fs (bare_parts ps) ms ≡ front_marks w p i fs ps ms
front-bare w p i [] ps ms = refl
front-bare w p i (f ∷ fs) ps ms = ap₂ (λ x t. marks_in w f ++ here x ∷ t) (site-bare p i ps) (ap (λ q. front_marks w p (suc i) fs q ms) (others-bare ps) ∙ front-bare w p (suc i) fs (others ps) ms)

chain-bare : (w : List ℕ) (p : PartSites) (t : Chain) (i : ℕ) (ps : Parts) → chain_marks w p t i (bare_parts ps) ≡ chain_marks w p t i ps
chain-bare w p t i none = refl
chain-bare w p t i (part n ps) = λ j. marks_in w (before_bits t (none-bare ps j)) ++ here (site-bare p i (part n ps) j) ∷ (marks_in w (after_bits t false (none-bare ps j) (last-bare ps j)) ++ chain-bare w p t (suc i) ps j)
chain-bare w p t i (gap ps) = λ j. marks_in w (before_bits t (none-bare ps j)) ++ here (site-bare p i (gap ps) j) ∷ (marks_in w (after_bits t true (none-bare ps j) (last-bare ps j)) ++ chain-bare w p t (suc i) ps j)

behind-bare : (i : ℕ) (ps : Parts) → parts_after i (bare_parts ps) ≡ bare_parts (parts_after i ps)
behind-bare zero ps = refl
behind-bare (suc i) ps = ap (parts_after i) (others-bare ps) ∙ behind-bare i (others ps)

marks-bare : (w : List ℕ) (s : Shape) (ps : Parts) → shape_marks w s (bare_parts ps) ≡ shape_marks w s ps
marks-bare w s ps =
    front-bare w s.sites 0 s.front ps (marks_in w s.opener ++ deep s.chain (chain_marks w s.sites s.chain (length s.front) (parts_after (length s.front) (bare_parts ps))) (marks_in w s.closer))
    ∙ ap (λ u. front_marks w s.sites 0 s.front ps (marks_in w s.opener ++ deep s.chain u (marks_in w s.closer))) (ap (chain_marks w s.sites s.chain (length s.front)) (behind-bare (length s.front) ps) ∙ chain-bare w s.sites s.chain (length s.front) (parts_after (length s.front) ps))

counts-bare : (ms : List Mark) (ps : Parts) → counts_up ms (bare_parts ps) ≡ counts_up ms ps
counts-bare [] ps = none-bare ps
counts-bare (here x ∷ ms) ps = ap (counts_up ms) (others-bare ps) ∙ counts-bare ms (others ps)
counts-bare (_ ∷ ms) ps = counts-bare ms ps

lines_counts : (qs : List (PieceOf Role)) (ps : Parts) → lines_up qs ps ≡ true → counts_up (marks_of qs) ps ≡ true
lines_counts [] ps h = h
lines_counts (sub a ∷ qs) none h = absurd (cc)
lines_counts (sub a ∷ qs) (gap ps) h = absurd (cc)
lines_counts (sub a ∷ qs) (part n ps) h = lines_counts qs ps h
lines_counts (absent ∷ qs) none h = absurd (cc)
lines_counts (absent ∷ qs) (gap ps) h = lines_counts qs ps h
lines_counts (absent ∷ qs) (part n ps) h = absurd (cc)
lines_counts (tok c w ∷ qs) ps h = lines_counts qs ps h
lines_counts (may w ∷ qs) ps h = lines_counts qs ps h
lines_counts (many w ∷ qs) ps h = lines_counts qs ps h
lines_counts (ahead w ∷ qs) ps h = lines_counts qs ps h
lines_counts (unbroken ∷ qs) ps h = lines_counts qs ps h
lines_counts (no_operand ∷ qs) ps h = lines_counts qs ps h
lines_counts (ending e ∷ qs) ps h = lines_counts qs ps h
lines_counts (open_parameters ∷ qs) ps h = lines_counts qs ps h
lines_counts (close_parameters ∷ qs) ps h = lines_counts qs ps h
lines_counts (never ∷ qs) ps h = lines_counts qs ps h
lines_counts (lay piece.space ∷ qs) ps h = lines_counts qs ps h
lines_counts (lay piece.line ∷ qs) ps h = lines_counts qs ps h
lines_counts (lay piece.feed ∷ qs) ps h = lines_counts qs ps h
lines_counts (lay piece.deeper ∷ qs) ps h = lines_counts qs ps h
lines_counts (lay piece.shallower ∷ qs) ps h = lines_counts qs ps h
lines_counts (lay (piece.apart c) ∷ qs) ps h = lines_counts qs ps h
lines_counts (lay piece.loose ∷ qs) ps h = lines_counts qs ps h

-- a sign has one part behind it
pub one_part : (qs : List (PieceOf Role)) (ps : Parts) (w : List ℕ) (s : SignOperator) → lines_up qs ps ≡ true → marks_of qs ≡ signed_marks w s → is_none (others ps) ≡ true
one_part qs ps w s h e = sym (ap (λ ms. counts_up ms ps) e) ∙ lines_counts qs ps h

-- Signs

signs : (w : List ℕ) (s : SignOperator) → Some s ≡ sign_of_text w → (P : List ℕ → SignOperator → Type 0) → P (codes "+") Plus → P (codes "++") Plus → P (codes "-") Minus → P (codes "--") Minus → P w s
signs w s h P p q x y = of (is w "+") refl (is w "++") refl (is w "-") refl (is w "--") refl h
  where
    put_text : (t : String) (v : SignOperator) → is w t ≡ true → s ≡ v → P (codes t) v → P w s
    put_text t v e f u = subst (λ z. P w z) (sym f) (subst (λ z. P z v) (sym ((bytes_eq-Decides w (codes t)).0 e)) u)

    of : (a : Bool) → is w "+" ≡ a → (b : Bool) → is w "++" ≡ b → (c : Bool) → is w "-" ≡ c → (d : Bool) → is w "--" ≡ d → Some s ≡ cond (a || (b || false)) (Some Plus) (cond (c || (d || false)) (Some Minus) None) → P w s
    of true ea b eb c ec d ed k = put_text "+" Plus ea (cc) p
    of false ea true eb c ec d ed k = put_text "++" Plus eb (cc) q
    of false ea false eb true ec d ed k = put_text "-" Minus ec (cc) x
    of false ea false eb false ec true ed k = put_text "--" Minus ed (cc) y
    of false ea false eb false ec false ed k = absurd (cc)

unary_signed : (w : List ℕ) (s : SignOperator) (g : Flags) (ps : Parts) → Some s ≡ sign_of_text w → Shaped ps (signed_marks w s) (expressions kind.UnaryExpression w g ps)
unfolding expressions
unary_signed w s g ps h = signs w s h (λ v z. Shaped ps (signed_marks v z) (expressions kind.UnaryExpression v g ps)) (one (λ r c. refl)) nowhere (one (λ r c. refl)) nowhere

signed_if : {ps : Parts} {M : List Mark} (b c : Bool) (x y : piece.Spelling) → c ≡ true → Means ps M x → Shaped ps M (cond b [] (cond c (x ∷ []) (y ∷ [])))
signed_if true c x y e m = nowhere
signed_if false true x y e m = one m
signed_if false false x y e m = absurd (cc)

update_signed : (w : List ℕ) (s : SignOperator) (g : Flags) (ps : Parts) → g.prefix ≡ true → Some s ≡ sign_of_text w → Shaped ps (signed_marks w s) (expressions kind.UpdateExpression w g ps)
unfolding expressions
update_signed w s g ps u h = signs w s h (λ v z. Shaped ps (signed_marks v z) (expressions kind.UpdateExpression v g ps)) nowhere
    (signed_if (not (true && is_target (lead ps))) g.prefix
    (piece.at Update (tok Punctuator (codes "++") ∷ lay (piece.apart 43) ∷ piece.put (expr LeftHandSide true Any) ∷ []))
    (piece.at Update (sub (piece.lead LeftHandSide) ∷ unbroken ∷ tok Punctuator (codes "++") ∷ [])) u (λ r c. refl)) nowhere
    (signed_if (not (true && is_target (lead ps))) g.prefix
    (piece.at Update (tok Punctuator (codes "--") ∷ lay (piece.apart 45) ∷ piece.put (expr LeftHandSide true Any) ∷ []))
    (piece.at Update (sub (piece.lead LeftHandSide) ∷ unbroken ∷ tok Punctuator (codes "--") ∷ [])) u (λ r c. refl))

prefixed : (b : Bool) (w : List ℕ) (s : SignOperator) → Some s ≡ cond b (sign_of_text w) None → (b ≡ true) × (Some s ≡ sign_of_text w)
prefixed true w s h = (refl, h)
prefixed false w s h = absurd (cc)

none_some : {X : Type 0} {x : X} → Some x ≡ None → ⊥
none_some h = cc

unary_placed : (w : List ℕ) (p : Position) (g : Flags) (ps : Parts) (s : SignOperator) → Some s ≡ sign_of_text w → Shaped ps (signed_marks w s) (spellings (role_of p) (node kind.UnaryExpression w g 0 0 ps))
unfolding spellings statements items openings
unary_placed w (at.Expression y i f) g ps s h = unary_signed w s g ps h
unary_placed w _ g ps s h = nowhere

update_placed : (w : List ℕ) (p : Position) (g : Flags) (ps : Parts) (s : SignOperator) → (g.prefix ≡ true) × (Some s ≡ sign_of_text w) → Shaped ps (signed_marks w s) (spellings (role_of p) (node kind.UpdateExpression w g 0 0 ps))
unfolding spellings statements items openings
update_placed w (at.Expression y i f) g ps s u = update_signed w s g ps u.0 u.1
update_placed w _ g ps s u = nowhere

signed_shaped : (w : List ℕ) (p : Position) (k : Kind) (g : Flags) (ps : Parts) (s : SignOperator) → Some s ≡ sign_at k w g → Shaped ps (signed_marks w s) (spellings (role_of p) (node k w g 0 0 ps))
signed_shaped w p kind.UnaryExpression g ps s h = unary_placed w p g ps s h
signed_shaped w p kind.UpdateExpression g ps s h = update_placed w p g ps s (prefixed g.prefix w s h)
signed_shaped w p _ g ps s h = absurd (none_some h)

pub sign_text : (n : Tree) (s : SignOperator) → Some s ≡ sign_at (kind_of n) (text_of n) (flags_of n) → sign_of_text (text_of n) ≡ Some s
sign_text (node kind.UnaryExpression w g b e ps) s h = sym h
sign_text (node kind.UpdateExpression w g b e ps) s h = sym (prefixed g.prefix w s h).1
sign_text (node _ w g b e ps) s h = absurd (none_some h)

-- The marks of a node's first way

module _ (W : ℕ → Bool) where
  pub marks_framed : (p : Position) (n : Tree) (r : ℕ) → None ≡ sign_at (kind_of n) (text_of n) (flags_of n) → some_way (ways (role_of p) n) ≡ true → lines_up (first_way (ways (role_of p) n)) (parts_of n) ≡ true →
      marks_of (first_way (ways (role_of p) n)) ≡ shape_marks (text_of n) (shape_by p (kind_of n) (text_of n) (flags_of n) (parts_of n)) (parts_of n)
  marks_framed p (node k w g s e ps) r h u v =
      shaped_ways (bare_parts ps) (shape_marks w (shape_by p k w g (bare_parts ps)) (bare_parts ps)) (role_of p) (node k w g s e ps) (places_shaped w p k g (bare_parts ps) (sym h)) u
      (counts-bare (marks_of (first_way (ways (role_of p) (node k w g s e ps)))) ps ∙ lines_counts (first_way (ways (role_of p) (node k w g s e ps))) ps v)
      ∙ ap (λ x. shape_marks w x (bare_parts ps)) (place-bare p k w g ps) ∙ marks-bare w (shape_by p k w g ps) ps

  pub marks_signed : (p : Position) (n : Tree) (s : SignOperator) → Some s ≡ sign_at (kind_of n) (text_of n) (flags_of n) → some_way (ways (role_of p) n) ≡ true → lines_up (first_way (ways (role_of p) n)) (parts_of n) ≡ true →
      marks_of (first_way (ways (role_of p) n)) ≡ signed_marks (text_of n) s
  marks_signed p (node k w g b e ps) s h u v =
      shaped_ways (bare_parts ps) (signed_marks w s) (role_of p) (node k w g b e ps) (signed_shaped w p k g (bare_parts ps) s h) u (counts-bare (marks_of (first_way (ways (role_of p) (node k w g b e ps)))) ps ∙ lines_counts (first_way (ways (role_of p) (node k w g b e ps))) ps v)

  both : (u v : Bool) → (u && v) ≡ true → (u ≡ true) × (v ≡ true)
  both true v h = (refl, h)
  both false v h = absurd (cc)

  abbrev pub Spelled : Parts → List (List (PieceOf Role)) → ℕ → Type 0
  Spelled ps qss r = (some_way qss ≡ true) × (lines_up (first_way qss) ps ≡ true) × (parts_fit W ps (first_roles qss) r ≡ true)

  pub spelled_parts : (ps : Parts) (qss : List (List (PieceOf Role))) (r : ℕ) → spelled_so W ps qss r ≡ true → Spelled ps qss r
  spelled_parts ps qss r h = let u = both (some_way qss) (lines_up (first_way qss) ps && parts_fit W ps (first_roles qss) r) h in let v = both (lines_up (first_way qss) ps) (parts_fit W ps (first_roles qss) r) u.1 in (u.0, v.0, v.1)

  first-roles : (qss : List (List (PieceOf Role))) → roles (first_way qss) ≡ first_roles qss
  first-roles [] = refl
  first-roles (qs ∷ qss) = refl

  -- what was written of the marks is the layout
  pub direct_by : {a b : View} {ps : Parts} {qss : List (List (PieceOf Role))} {xs : List Role} {r d : ℕ} (M : List Mark) → marks_of (first_way qss) ≡ M → xs ≡ first_roles qss → lines_up (first_way qss) ps ≡ true →
      Written W a b M ps xs false d r → Direct W a b ps qss r d
  direct_by {a} {b} {ps} {qss} {xs} {r} {d} M e f v p = record {
    reads = subst (λ zs. Reads W (r + parts_rows ps zs) b.flags) f p.reads;
    shows = λ next. leads_at (ap (λ t. t ++ next) (sym whole)) (p.shows next);
  }
    where
      whole : parts_layout W ps (first_way qss) r d false ≡ marks_text W M ps xs r d false
      whole = layout_marks W (first_way qss) ps r d false v ∙ (λ i. marks_text W (e i) ps ((first-roles qss ∙ sym f) i) r d false)

  -- Nodes

  rows_there : (p : Position) (n : Tree) (r : ℕ) → some_way (ways (role_of p) n) ≡ true → (has_row (role_of p) + r) + parts_rows (parts_of n) (first_roles (ways (role_of p) n)) ≡ r + rows n (role_of p)
  rows_there p n r h = let e = rows_inside p n h in omega (arith, e)

  layout_direct : (n : Tree) (a : Role) (r d : ℕ) → (nat_eq (has_row a) 1 && W r) ≡ false → layout W n a r d ≡ parts_layout W (parts_of n) (first_way (ways a n)) (has_row a + r) d false
  unfolding layout parts_layout
  layout_direct (node k w g s e ps) a r d h =
      ap (λ b. cond b (codes "(" ++ parts_layout W ps (first_way (ways (expr Expression true Any) (node k w g s e ps))) (suc r) d false ++ codes ")") (parts_layout W ps (first_way (ways a (node k w g s e ps))) (has_row a + r) d false)) h

  pub printed_direct : {a b : View} (p : Position) (n : Tree) (r d : ℕ) → (nat_eq (has_row (role_of p)) 1 && W r) ≡ false → some_way (ways (role_of p) n) ≡ true →
      Direct W a b (parts_of n) (ways (role_of p) n) (has_row (role_of p) + r) d → Printed W a b n (role_of p) r d
  printed_direct {a} {b} p n r d h u q = record {
    reads = subst (λ m. Reads W m b.flags) (rows_there p n r u) q.reads;
    shows = λ next. leads_at (ap (λ t. t ++ next) (sym (layout_direct n (role_of p) r d h))) (q.shows next);
  }

  layout_wrapped : (n : Tree) (a : Role) (r d : ℕ) → (nat_eq (has_row a) 1 && W r) ≡ true → layout W n a r d ≡ codes "(" ++ parts_layout W (parts_of n) (first_way (ways (expr Expression true Any) n)) (suc r) d false ++ codes ")"
  unfolding layout parts_layout
  layout_wrapped (node k w g s e ps) a r d h =
      ap (λ b. cond b (codes "(" ++ parts_layout W ps (first_way (ways (expr Expression true Any) (node k w g s e ps))) (suc r) d false ++ codes ")") (parts_layout W ps (first_way (ways a (node k w g s e ps))) (has_row a + r) d false)) h

  wrapped_rows : (y : Rank) (i : Bool) (f : Start) (n : Tree) (r : ℕ) → some_way (ways (expr Expression true Any) n) ≡ true → suc r + parts_rows (parts_of n) (first_roles (ways (expr Expression true Any) n)) ≡ r + rows n (expr y i f)
  wrapped_rows y i f n r h = let e = rows_inside (at.Expression Expression true Any) n h in let u = rows-widest n (expr y i f) in omega (arith, e, u)

  -- a node in parentheses
  pub printed_wrapped : {a s t b : View} (y : Rank) (i : Bool) (f : Start) (n : Tree) (r d : ℕ) → W r ≡ true → some_way (ways (expr Expression true Any) n) ≡ true →
      Writes a s (codes "(") → Direct W s t (parts_of n) (ways (expr Expression true Any) n) (suc r) d → Writes t b (codes ")") → Printed W a b n (expr y i f) r d
  printed_wrapped {a} {s} {t} {b} y i f n r d h u p q v = record {
    reads = subst (λ m. Reads W m b.flags) (wrapped_rows y i f n r u) (subst (Reads W _) (sym v.flags) q.reads);
    shows = λ next.
        leads_at (sym (append_assoc (codes "(" ++ inner) (codes ")") next ∙ append_assoc (codes "(") inner (codes ")" ++ next)) ∙ ap (λ x. x ++ next) (sym (layout_wrapped n (expr y i f) r d h)))
        (leads_then (p.follows (inner ++ (codes ")" ++ next))) (leads_then (q.shows (codes ")" ++ next)) (v.follows next)));
  }
    where
      inner : List ℕ
      inner = parts_layout W (parts_of n) (first_way (ways (expr Expression true Any) n)) (suc r) d false
