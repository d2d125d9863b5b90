-- What a site says of the positions that it is a site of.
use Rattle.std.proofs.Common.{◌≡◌, ℕ, true, false, List, nat_eq, refl, sym, ap, ◌∙◌, subst}
use Rattle.std.specs.Prelude.{◌&&◌}
use Rattle.std.proofs.lemmas.Bool.{false≢true}
use Rattle.tree.specs.declared.kind.Kind.{Kind}
use Rattle.tree.specs.declared.kind.Kind.TheVariants as kind
use Rattle.tree.specs.declared.kind.Flags.{Flags}
use Rattle.tree.specs.Tree.{Tree, Parts, kind_of, flags_of, parts_of}
use Rattle.language.specs.Pieces as piece
use Rattle.language.specs.Pieces.{Role, is_none}
use Rattle.language.specs.Grammar.{ways}
use Rattle.language.specs.RowPositions.{has_row, roles, first_roles}
use Rattle.language.specs.Layout.{some_way}
use Rattle.spelling_table.specs.declared.position.Position.{Position}
use Rattle.spelling_table.specs.declared.position.Position.TheVariants as at
use Rattle.spelling_table.specs.Outlines.{role_of, whole_at}
use Rattle.printer.specs.declared.site.Site.TheVariants as site
use Rattle.printer.specs.Shapes.{shape_on}
use Rattle.printer.proofs.FragmentsByPosition.{shape_by, is_plain_at, is_word_at}
use Rattle.std.proofs.Common.{◌+◌, ◌-◌, suc, Bool, [], ◌∷◌, arith}
use Rattle.std.proofs.lemmas.Bool.{and_parts, and_from}
use Rattle.tree.specs.Tree.{node, none, part, gap, part_count}
use Rattle.tree.specs.HeldRows.{use_below}
use Rattle.tree.specs.NodeUses.{has_row as has_row_of}
use Rattle.tree.specs.declared.node_use.NodeUse.{NodeUse}
use Rattle.row_laws.specs.Lined.{leads}
use Rattle.row_laws.specs.Agreements.{agrees, PartsAgree}
use Rattle.row_laws.proofs.Table.{is_row as is_row_role}
use Rattle.row_laws.proofs.Walk.{node_suits}
use Rattle.language.specs.Pieces.{PieceOf, tok, may, many, ahead, unbroken, no_operand, ending, open_parameters, close_parameters, sub, absent, never, lay}
use Rattle.language.specs.Layout.{inside, first_way}
use Rattle.language.specs.LayoutFits.{fits, parts_fit, lines_up}
use Rattle.printer.specs.Printed.{spelled_so, Sited, Stands}
use Rattle.printer.proofs.Nodes.{fits_spelled}
use Rattle.printer.specs.Bits.{Mark, marks_of}
use Rattle.printer.specs.Sites.{site_of, is_plain, is_word, head_site, UsesAgree}

pub row_plain : (a : Role) → nat_eq (has_row a) 1 ≡ true → site_of a ≡ site.Plain
row_plain (piece.expr y i f) h = refl
row_plain _ h = absurd (false≢true h)

pub site_shape : (p : Position) (k : Kind) (w : List ℕ) (g : Flags) (ps : Parts) → shape_by p k w g ps ≡ shape_on (site_of (role_of p)) k w g ps
site_shape (at.TemplateElement true true) k w g ps = refl
site_shape (at.TemplateElement true false) k w g ps = refl
site_shape (at.TemplateElement false true) k w g ps = refl
site_shape (at.TemplateElement false false) k w g ps = refl
site_shape _ k w g ps = refl

site_plain : (p : Position) → is_plain_at p ≡ is_plain (site_of (role_of p))
site_plain (at.TemplateElement true true) = refl
site_plain (at.TemplateElement true false) = refl
site_plain (at.TemplateElement false true) = refl
site_plain (at.TemplateElement false false) = refl
site_plain _ = refl

pub site_word : (p : Position) (k : Kind) (ps : Parts) → is_word_at p k ps ≡ is_word (site_of (role_of p)) k ps
site_word p kind.Identifier ps = ap (λ b. is_none ps && b) (site_plain p)
site_word p kind.Literal ps = ap (λ b. is_none ps && b) (site_plain p)
site_word p _ ps = refl

-- a node at an expression's position has a row, by how it stands, and no other has one
inside_row : (b : Bool) (a : Role) → is_row_role (inside (nat_eq (has_row a) 1 && b) a) ≡ nat_eq (has_row a) 1
inside_row true (piece.expr y i f) = refl
inside_row false (piece.expr y i f) = refl
inside_row b _ = refl

inside_agrees : (st : NodeUse) (b : Bool) (a : Role) (k : Kind) → agrees st a k ≡ true → agrees st (inside (nat_eq (has_row a) 1 && b) a) k ≡ true
inside_agrees st true (piece.expr y i f) k h = h
inside_agrees st false (piece.expr y i f) k h = h
inside_agrees st b _ k h = h

lined_up : (W : ℕ → Bool) (ps : Parts) (qss : List (List (PieceOf Role))) (r : ℕ) → spelled_so W ps qss r ≡ true → leads qss ps ≡ true
lined_up W ps qss r h =
    let a = and_parts (some_way qss) (lines_up (first_way qss) ps && parts_fit W ps (first_roles qss) r) h in
    and_from (some_way qss) (lines_up (first_way qss) ps) a.0 (and_parts (lines_up (first_way qss) ps) (parts_fit W ps (first_roles qss) r) a.1).0

pub row_told : (W : ℕ → Bool) (n : Tree) (a : Role) (r : ℕ) (st : NodeUse) → agrees st a (kind_of n) ≡ true → fits W n a r ≡ true → has_row_of st (kind_of n) ≡ nat_eq (has_row a) 1
row_told W (node k w g s e ps) a r st h f =
    (node_suits st (inside (nat_eq (has_row a) 1 && W r) a) k w g s e ps (inside_agrees st (W r) a k h)
    (lined_up W ps (ways (inside (nat_eq (has_row a) 1 && W r) a) (node k w g s e ps)) (has_row a + r) (sym (fits_spelled W (node k w g s e ps) a r) ∙ f))).0
    ∙ inside_row (W r) a

-- how the parts of a node stand, as their positions ask
uses_left : (st : NodeUse) (top : Tree) (i : ℕ) (ps : Parts) (xs : List Role) → part_count (parts_of top) ≡ i + part_count ps → PartsAgree (record { node_use = st; kind = kind_of top; flags = flags_of top }) (part_count (parts_of top)) i ps xs → UsesAgree st top ps xs
uses_left st top i none xs e h = tt
uses_left st top i (gap ps) xs e h = uses_left st top (i + 1) ps xs (omega (arith, e)) h
uses_left st top i (part n ps) [] e h = tt
uses_left st top i (part n ps) (a ∷ xs) e h =
    let at : i ≡ part_count (parts_of top) - suc (part_count ps) = omega (arith, e) in
    (subst (λ j. agrees (use_below st top j n) a (kind_of n) ≡ true) at h.0, uses_left st top (i + 1) ps xs (omega (arith, e)) h.1)

uses : (W : ℕ → Bool) (p : Position) (n : Tree) (r : ℕ) (st : NodeUse) → agrees st (role_of p) (kind_of n) ≡ true → spelled_so W (parts_of n) (ways (role_of p) n) r ≡ true → UsesAgree st n (parts_of n) (first_roles (ways (role_of p) n))
uses W p (node k w g s e ps) r st h f =
    uses_left st (node k w g s e ps) 0 ps (first_roles (ways (role_of p) (node k w g s e ps))) (omega arith) (node_suits st (role_of p) k w g s e ps h (lined_up W ps (ways (role_of p) (node k w g s e ps)) r f)).1

-- parts that a spelling names are at its sites
sited : (qs : List (PieceOf Role)) (ps : Parts) → lines_up qs ps ≡ true → Sited (marks_of qs) ps (roles qs)
sited [] ps h = tt
sited (sub a ∷ qs) none h = absurd (false≢true h)
sited (sub a ∷ qs) (gap ps) h = absurd (false≢true h)
sited (sub a ∷ qs) (part n ps) h = (refl, sited qs ps h)
sited (absent ∷ qs) none h = absurd (false≢true h)
sited (absent ∷ qs) (gap ps) h = sited qs ps h
sited (absent ∷ qs) (part n ps) h = absurd (false≢true h)
sited (tok c w ∷ qs) ps h = sited qs ps h
sited (may w ∷ qs) ps h = sited qs ps h
sited (many w ∷ qs) ps h = sited qs ps h
sited (ahead w ∷ qs) ps h = sited qs ps h
sited (unbroken ∷ qs) ps h = sited qs ps h
sited (no_operand ∷ qs) ps h = sited qs ps h
sited (ending e ∷ qs) ps h = sited qs ps h
sited (open_parameters ∷ qs) ps h = sited qs ps h
sited (close_parameters ∷ qs) ps h = sited qs ps h
sited (never ∷ qs) ps h = sited qs ps h
sited (lay piece.space ∷ qs) ps h = sited qs ps h
sited (lay piece.line ∷ qs) ps h = sited qs ps h
sited (lay piece.feed ∷ qs) ps h = sited qs ps h
sited (lay piece.deeper ∷ qs) ps h = sited qs ps h
sited (lay piece.shallower ∷ qs) ps h = sited qs ps h
sited (lay (piece.apart c) ∷ qs) ps h = sited qs ps h
sited (lay piece.loose ∷ qs) ps h = sited qs ps h

sited_first : (qss : List (List (PieceOf Role))) (ps : Parts) → lines_up (first_way qss) ps ≡ true → Sited (marks_of (first_way qss)) ps (first_roles qss)
sited_first [] ps h = tt
sited_first (qs ∷ qss) ps h = sited qs ps h

-- the parts of a node, at the marks that its first way has
pub parts_stand : (W : ℕ → Bool) (p : Position) (n : Tree) (r : ℕ) (st : NodeUse) (ms : List Mark) → agrees st (role_of p) (kind_of n) ≡ true → spelled_so W (parts_of n) (ways (role_of p) n) r ≡ true → lines_up (first_way (ways (role_of p) n)) (parts_of n) ≡ true → marks_of (first_way (ways (role_of p) n)) ≡ ms →
    Stands st n ms (parts_of n) (first_roles (ways (role_of p) n))
parts_stand W p n r st ms h f l e = (subst (λ M. Sited M (parts_of n) (first_roles (ways (role_of p) n))) e (sited_first (ways (role_of p) n) (parts_of n) l), uses W p n r st h f)

-- an expression in a pair stands as it does without
pub whole_agrees : (st : NodeUse) (a : Role) (k : Kind) → nat_eq (has_row a) 1 ≡ true → agrees st a k ≡ true → agrees st (role_of whole_at) k ≡ true
whole_agrees st (piece.expr y i f) k e h = h
whole_agrees st _ k e h = absurd (false≢true e)

-- what begins a `for` and is no declaration
pub head_default : (k : Kind) → ¬ (k ≡ kind.VariableDeclaration) → head_site k ≡ site.Plain
head_default kind.VariableDeclaration h = absurd (h refl)
head_default k h = refl
