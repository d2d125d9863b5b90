-- What is written of a tree, mark by mark.
use Rattle.std.specs.Prelude.{◌≡◌, ℕ, zero, suc, ◌+◌, Bool, true, false, not, cond, ◌&&◌, nat_eq, slice_index_or, List, [], ◌∷◌, ◌++◌, codes, length}
use Rattle.tree.specs.Tree.{Tree, Parts, none, part, gap}
use Rattle.language.specs.Pieces.{Role, PieceOf, is_none}
use Rattle.language.specs.RowPositions.{rows, parts_rows, first_roles}
use Rattle.language.specs.Layout.{some_way, indent, first_way, next_role, layout, parts_layout}
use Rattle.spelling_table.specs.Outlines.{parts_after, is_before_last}
use Rattle.printer.specs.Bits.{Mark, text, line, feed, deeper, shallower, loose, here, apart, Bit, token, own_text, newline, feeding, loosely, chunk, hashed, Chain, lines, Shape, before_bits, after_bits}
use Rattle.language.specs.LayoutFits.{lines_up, parts_fit}
use Rattle.printer.specs.Sheets.{View, Leads, flag_at, chunk_text, sign_code}
use Rattle.printer.specs.declared.fragments.SignOperator.{SignOperator}
use Rattle.language.specs.FirstPart.{others}
use Rattle.printer.specs.declared.site.Site.TheVariants.{Plain}
use Rattle.printer.specs.declared.part_sites.PartSites.{PartSites}
use Rattle.tree.specs.declared.node_use.NodeUse.{NodeUse}
use Rattle.printer.specs.Sites.{site_of, site_at, UsesAgree}

-- Marks of a shape, at a node of this text

abbrev pub mark_of : List ℕ → Bit → Mark
mark_of w (token v) = text v
mark_of w own_text = text w
mark_of w newline = line
mark_of w feeding = feed
mark_of w loosely = loose
mark_of w (chunk a b) = text (chunk_text a b w)
mark_of w hashed = text (codes "#" ++ w)

abbrev pub marks_in : List ℕ → List Bit → List Mark
marks_in w [] = []
marks_in w (b ∷ bs) = mark_of w b ∷ marks_in w bs

-- of first parts, and of a list, from a place on
abbrev pub front_marks : List ℕ → PartSites → ℕ → List (List Bit) → Parts → List Mark → List Mark
front_marks w p i [] ps ms = ms
front_marks w p i (f ∷ fs) ps ms = marks_in w f ++ here (site_at p i ps) ∷ front_marks w p (suc i) fs (others ps) ms

abbrev pub chain_marks : List ℕ → PartSites → Chain → ℕ → Parts → List Mark
chain_marks w p t i none = []
chain_marks w p t i (part n ps) = marks_in w (before_bits t (is_none ps)) ++ here (site_at p i (part n ps)) ∷ (marks_in w (after_bits t false (is_none ps) (is_before_last ps)) ++ chain_marks w p t (suc i) ps)
chain_marks w p t i (gap ps) = marks_in w (before_bits t (is_none ps)) ++ here (site_at p i (gap ps)) ∷ (marks_in w (after_bits t true (is_none ps) (is_before_last ps)) ++ chain_marks w p t (suc i) ps)

-- the parts of lines stand a level deeper
abbrev pub deep : Chain → List Mark → List Mark → List Mark
deep lines ms rest = deeper ∷ (ms ++ shallower ∷ rest)
deep _ ms rest = ms ++ rest

abbrev pub shape_marks : List ℕ → Shape → Parts → List Mark
shape_marks w s ps = front_marks w s.sites 0 s.front ps (marks_in w s.opener ++ deep s.chain (chain_marks w s.sites s.chain (length s.front) (parts_after (length s.front) ps)) (marks_in w s.closer))

-- The text of marks

abbrev pub other_roles : List Role → List Role
other_roles [] = []
other_roles (a ∷ xs) = xs

-- of marks over these parts, which stand at these positions, from a row on, at a depth
abbrev pub marks_text : (ℕ → Bool) → List Mark → Parts → List Role → ℕ → ℕ → Bool → List ℕ
marks_text W [] ps xs r d b = []
marks_text W (text w ∷ ms) ps xs r d b = w ++ marks_text W ms ps xs r d b
marks_text W (line ∷ ms) ps xs r d b = 10 ∷ (indent d ++ marks_text W ms ps xs r d b)
marks_text W (feed ∷ ms) ps xs r d b = 10 ∷ marks_text W ms ps xs r d b
marks_text W (deeper ∷ ms) ps xs r d b = marks_text W ms ps xs r (suc d) b
marks_text W (shallower ∷ ms) ps xs r zero b = marks_text W ms ps xs r zero b
marks_text W (shallower ∷ ms) ps xs r (suc d) b = marks_text W ms ps xs r d b
marks_text W (apart c ∷ ms) ps xs r d b = let rest = marks_text W ms ps xs r d b in cond (nat_eq (slice_index_or rest 0 0) c) (32 ∷ rest) rest
marks_text W (loose ∷ ms) ps xs r d b = let rest = marks_text W ms ps xs r d b in cond b (32 ∷ rest) rest
marks_text W (here s ∷ ms) none xs r d b = marks_text W ms none xs r d false
marks_text W (here s ∷ ms) (gap ps) xs r d b = marks_text W ms ps xs r d false
marks_text W (here s ∷ ms) (part n ps) xs r d b = layout W n (next_role xs) r d ++ marks_text W ms ps (other_roles xs) (r + rows n (next_role xs)) d (not (W r))

-- What calls write

-- the flags are those of the rows from this one on
abbrev pub Reads : (ℕ → Bool) → ℕ → List Bool → Type 0
Reads W r bs = (i : ℕ) → W (r + i) ≡ flag_at bs i

-- a node was written, and its rows were passed
pub record Printed (W : ℕ → Bool) (old new : View) (n : Tree) (a : Role) (r d : ℕ) : Type 0 where
  pub reads : Reads W (r + rows n a) new.flags
  pub shows : (next : List ℕ) → Leads old new (layout W n a r d ++ next) next

-- what is printed without parentheses
pub record Direct (W : ℕ → Bool) (old new : View) (ps : Parts) (qss : List (List (PieceOf Role))) (r d : ℕ) : Type 0 where
  pub reads : Reads W (r + parts_rows ps (first_roles qss)) new.flags
  pub shows : (next : List ℕ) → Leads old new (parts_layout W ps (first_way qss) r d false ++ next) next

abbrev pub spelled_so : (ℕ → Bool) → Parts → List (List (PieceOf Role)) → ℕ → Bool
spelled_so W ps qss r = some_way qss && (lines_up (first_way qss) ps && parts_fit W ps (first_roles qss) r)

-- the first marks were written, and their parts and rows were passed
pub record Passed (W : ℕ → Bool) (old new : View) (ms ms' : List Mark) (ps ps' : Parts) (xs xs' : List Role) (b b' : Bool) (d r : ℕ) : Type 0 where
  pub row : ℕ
  pub reads : Reads W row new.flags
  pub counts : row + parts_rows ps' xs' ≡ r + parts_rows ps xs
  pub fit : parts_fit W ps' xs' row ≡ true
  pub shows : (next : List ℕ) → Leads old new (marks_text W ms ps xs r d b ++ next) (marks_text W ms' ps' xs' row d b' ++ next)

-- parts at these positions are at the sites of marks
abbrev pub Sited : List Mark → Parts → List Role → Type 0
Sited [] ps xs = Unit {0}
Sited (here s ∷ ms) none xs = Sited ms none xs
Sited (here s ∷ ms) (gap ps) xs = Sited ms ps xs
Sited (here s ∷ ms) (part n ps) [] = Unit {0}
Sited (here s ∷ ms) (part n ps) (a ∷ xs) = (site_of a ≡ s) × Sited ms ps xs
Sited (_ ∷ ms) ps xs = Sited ms ps xs

-- the marks and the positions left of a node that stands so
abbrev pub Stands : NodeUse → Tree → List Mark → Parts → List Role → Type 0
Stands st m ms ps xs = Sited ms ps xs × UsesAgree st m ps xs

-- what is printed so far, with positions left for the marks that are left
pub record Gone (W : ℕ → Bool) (st : NodeUse) (m : Tree) (old new : View) (ms ms' : List Mark) (ps ps' : Parts) (xs : List Role) (b b' : Bool) (d r : ℕ) : Type 0 where
  pub left : List Role
  pub passed : Passed W old new ms ms' ps ps' xs left b b' d r
  pub stands : Stands st m ms' ps' left

-- all marks were written, with their parts and rows
pub record Written (W : ℕ → Bool) (old new : View) (ms : List Mark) (ps : Parts) (xs : List Role) (b : Bool) (d r : ℕ) : Type 0 where
  pub reads : Reads W (r + parts_rows ps xs) new.flags
  pub shows : (next : List ℕ) → Leads old new (marks_text W ms ps xs r d b ++ next) next

-- a sign, and its operand
abbrev pub signed_marks : List ℕ → SignOperator → List Mark
signed_marks w s = text w ∷ apart (sign_code s) ∷ here Plain ∷ []
