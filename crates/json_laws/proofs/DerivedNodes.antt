-- Each node of what a text derives has the text, the flags and as many parts as its kind asks for.
use Rattle.std.proofs.Common.{◌≡◌, ℕ, Bool, true, false, cond, not, List, [], ◌∷◌, ◌++◌, map, refl, sym, ap, ◌∙◌, subst}
use Rattle.std.specs.Prelude.{◌&&◌, ◌||◌, IsTrue}
use Rattle.std.proofs.lemmas.Bool.{false≢true, true≢false, and_parts, and_from}
use Rattle.tree.specs.declared.kind.Kind.{Kind}
use Rattle.tree.specs.declared.kind.Kind.TheVariants as kind
use Rattle.tree.specs.declared.kind.Flags.{Flags}
use Rattle.tree.specs.declared.kind.Form.{Form}
use Rattle.tree.specs.declared.kind.Form.TheVariants.{Init, Get, Set, Method, Shorthand, Constructor, Generator, Async, AsyncGenerator}
use Rattle.tree.specs.Tree.{Tree, node, Parts, none, part, gap, part_count, bare, bare_parts, kind_of, flags_of, parts_of}
use Rattle.tree.specs.Uses.{is_lean, is_function_form, has_text, is_empty, within, used_flags}
use Rattle.language.specs.declared.Rank.TheVariants.{Expression}
use Rattle.language.specs.declared.Start.TheVariants.{Any}
use Rattle.language.specs.Pieces.{Role, expr, method, member, script, Slot, fixed, Piece, PieceOf, tok, may, many, ahead, unbroken, no_operand, ending, open_parameters, close_parameters, absent, never, lay, sub, settle, settle_piece, Spelling}
use Rattle.language.specs.Grammar.{ways, spellings, can_run, fits_position, own_rank, own_in, own_start, is_function_at}
use Rattle.language.specs.Expressions.{function_words, arrow_words}
use Rattle.language.specs.Statements.{class_members, for_words}
use Rattle.language.specs.RowPositions.{roles, first_roles}
use Rattle.language.specs.LayoutFits.{lines_up}
use Rattle.language.specs.Derivation.{Among, first}
use Rattle.language.specs.Forms as made
use Rattle.language.specs.Forms.{Production, form, pieces_of, OwnText, own_piece, a_name}
use Rattle.language.specs.Chosen as chosen
use Rattle.language.specs.Chosen.{Chosen, ChosenStatement, ChosenDeclaration, at_statement, at_item, at_opening}
use Rattle.language.proofs.lower_bound.Domination.{fits}
use Rattle.language.proofs.table.ViewIsComplete.{way_of}
use Rattle.language.proofs.table.EveryWay.{every_way}
use Rattle.language.proofs.table.EachPiece.{PieceTest, passes, each, each_of}
use Rattle.language.proofs.table.Shapes.{shape_of, of_form}
use Rattle.row_laws.specs.Lined.{leads, lined, parts_lined}
use Rattle.json_laws.proofs.Told.{parts_table, form_fits, is_method_form}
use Rattle.json_laws.proofs.Lists.{count_fits}
use Rattle.json_laws.proofs.Counts.{suits, count_of, form_counts}
use Rattle.json_laws.proofs.SameTrees.{is_fine_node, is_fine, are_fine, is_program}

-- ---- as many parts as the kind's members ask for

abbrev SuitsForm : Kind → Form → Production → Type 0
SuitsForm k x p = suits (parts_table k) x (count_of (shape_of (form p).items)) ≡ true

statement_suits : {w : List ℕ} {g : Flags} {ps : Parts} {r : Bool} {k : Kind} {p : Production} → ChosenStatement w g ps r k p → SuitsForm k g.form p
statement_suits chosen.block_statement = refl
statement_suits {g = g} (chosen.for_of {r = r}) = of_form (λ z. suits (parts_table kind.ForOfStatement) g.form (count_of (shape_of (form (made.for_of z r)).items))) refl g.form
statement_suits _ = refl

declaration_suits : {w : List ℕ} {g : Flags} {ps : Parts} {r : Bool} {k : Kind} {p : Production} → ChosenDeclaration w g ps r k p → SuitsForm k g.form p
declaration_suits (chosen.variables h) = refl
declaration_suits {g = g} (chosen.function_declaration h) = of_form (λ z. suits (parts_table kind.FunctionDeclaration) g.form (count_of (shape_of (form (made.function z)).items))) refl g.form
declaration_suits (chosen.class_declaration h) = refl

chosen_suits : {w : List ℕ} {g : Flags} {ps : Parts} {a : Role} {k : Kind} {p : Production} → Chosen w g ps a k p → SuitsForm k g.form p
chosen_suits (chosen.of_statement s c) = statement_suits c
chosen_suits (chosen.of_declaration s c) = declaration_suits c
chosen_suits {g = g} chosen.function = of_form (λ z. suits (parts_table kind.FunctionExpression) g.form (count_of (shape_of (form (made.function z)).items))) refl g.form
chosen_suits {g = g} chosen.default_function = of_form (λ z. suits (parts_table kind.FunctionDeclaration) g.form (count_of (shape_of (form (made.function z)).items))) refl g.form
chosen_suits {g = g} (chosen.short_arrow h i) = of_form (λ z. suits (parts_table kind.ArrowFunctionExpression) g.form (count_of (shape_of (form (made.short_arrow z)).items))) refl g.form
chosen_suits {g = g} chosen.arrow = of_form (λ z. suits (parts_table kind.ArrowFunctionExpression) g.form (count_of (shape_of (form (made.arrow z)).items))) refl g.form
chosen_suits {g = g} {ps = ps} (chosen.property_method h) = of_form (λ z. suits (parts_table kind.Property) g.form (count_of (shape_of (form (made.property_method z)).items))) refl (Rattle.language.specs.Expressions.value_form ps)
chosen_suits {g = g} {ps = ps} chosen.member_method = of_form (λ z. suits (parts_table kind.MethodDefinition) g.form (count_of (shape_of (form (made.member_method z)).items))) refl (Rattle.language.specs.Expressions.value_form ps)
chosen_suits (chosen.imported_name h i) = ap (λ x. suits (parts_table kind.ImportSpecifier) x (count_of (shape_of (form made.one_name).items))) h
chosen_suits (chosen.imported_as h i) = ap (λ x. suits (parts_table kind.ImportSpecifier) x (count_of (shape_of (form made.name_as_name).items))) h
chosen_suits (chosen.exported_name h i) = ap (λ x. suits (parts_table kind.ExportSpecifier) x (count_of (shape_of (form made.one_module_name).items))) h
chosen_suits (chosen.exported_as h i) = ap (λ x. suits (parts_table kind.ExportSpecifier) x (count_of (shape_of (form made.name_as_module_name).items))) h
chosen_suits _ = refl

-- ---- a form that the kind may have

function_runs : (x : Form) (qs : List Piece) → can_run (function_words x ++ qs) ≡ true → is_function_form x ≡ true
function_runs Init qs h = refl
function_runs Generator qs h = refl
function_runs Async qs h = refl
function_runs AsyncGenerator qs h = refl
function_runs _ qs h = absurd (false≢true h)

arrow_runs : (x : Form) (qs : List Piece) → can_run (arrow_words x ++ qs) ≡ true → is_function_form x ≡ true
arrow_runs Init qs h = refl
arrow_runs Async qs h = refl
arrow_runs _ qs h = absurd (false≢true h)

loop_runs : (x : Form) (qs : List Piece) → can_run (for_words x ++ qs) ≡ true → form_fits kind.ForOfStatement x ≡ true
loop_runs Init qs h = refl
loop_runs Async qs h = refl
loop_runs _ qs h = absurd (false≢true h)

abbrev Runs : Production → List ℕ → Flags → Parts → Type 0
Runs p w g ps = can_run (pieces_of (form p).items w g ps) ≡ true

statement_form : {w : List ℕ} {g : Flags} {ps : Parts} {r : Bool} {k : Kind} {p : Production} → ChosenStatement w g ps r k p → Runs p w g ps → form_fits k g.form ≡ true
statement_form chosen.block_statement h = refl
statement_form {g = g} chosen.for_of h = loop_runs g.form _ h
statement_form _ h = refl

declaration_form : {w : List ℕ} {g : Flags} {ps : Parts} {r : Bool} {k : Kind} {p : Production} → ChosenDeclaration w g ps r k p → Runs p w g ps → form_fits k g.form ≡ true
declaration_form (chosen.variables i) h = refl
declaration_form {g = g} (chosen.function_declaration i) h = function_runs g.form _ h
declaration_form (chosen.class_declaration i) h = refl

-- the kinds whose form another test of the table decides
abbrev OtherForm : Role → Kind → Form → Type 0
OtherForm (method x) kind.FunctionExpression form = is_function_at x form ≡ true
OtherForm member kind.MethodDefinition form = is_method_form form ≡ true
OtherForm _ k form = Unit {0}

function_at : (x form : Form) → is_function_at x form ≡ true → is_function_form form ≡ true
function_at Generator Generator h = refl
function_at Async Async h = refl
function_at AsyncGenerator AsyncGenerator h = refl
function_at x Init h = refl
function_at Generator form h = absurd (false≢true h)
function_at Async form h = absurd (false≢true h)
function_at AsyncGenerator form h = absurd (false≢true h)
function_at x form h = absurd (false≢true h)

chosen_form : {w : List ℕ} {g : Flags} {ps : Parts} {a : Role} {k : Kind} {p : Production} → Chosen w g ps a k p → Runs p w g ps → OtherForm a k g.form → form_fits k g.form ≡ true
chosen_form (chosen.of_statement s c) h o = statement_form c h
chosen_form (chosen.of_declaration s c) h o = declaration_form c h
chosen_form {g = g} chosen.function h o = function_runs g.form _ h
chosen_form {g = g} chosen.default_function h o = function_runs g.form _ h
chosen_form {g = g} (chosen.short_arrow i j) h o = arrow_runs g.form _ h
chosen_form {g = g} chosen.arrow h o = arrow_runs g.form _ h
chosen_form (chosen.yield_alone i j) h o = ap (form_fits kind.YieldExpression) i
chosen_form (chosen.yield_operand i j) h o = ap (form_fits kind.YieldExpression) i
chosen_form (chosen.yield_from i j) h o = ap (form_fits kind.YieldExpression) i
chosen_form (chosen.property_value i) h o = ap (form_fits kind.Property) i
chosen_form (chosen.property_method i) h o = ap (form_fits kind.Property) i
chosen_form (chosen.property_get i) h o = ap (form_fits kind.Property) i
chosen_form (chosen.property_set i) h o = ap (form_fits kind.Property) i
chosen_form (chosen.shorthand i j) h o = ap (form_fits kind.Property) i
chosen_form (chosen.pattern_value i) h o = ap (form_fits kind.Property) i
chosen_form (chosen.pattern_shorthand i j l) h o = ap (form_fits kind.Property) i
chosen_form (chosen.pattern_default i j l) h o = ap (form_fits kind.Property) i
chosen_form {g = g} (chosen.getter i) h o = function_at Get g.form o
chosen_form {g = g} (chosen.setter i j) h o = function_at Set g.form o
chosen_form {g = g} (chosen.method_function {x = x} i) h o = function_at x g.form o
chosen_form (chosen.member_get i) h o = o
chosen_form (chosen.member_set i) h o = o
chosen_form chosen.member_method h o = o
chosen_form _ h o = refl

method_members : (x : Form) (w : List ℕ) (g : Flags) (ps : Parts) {s : Spelling} → Among s (class_members kind.MethodDefinition (record g { form = x }) ps) → is_method_form x ≡ true
method_members Get w g ps h = refl
method_members Set w g ps h = refl
method_members Method w g ps h = refl
method_members Constructor w g ps h = refl
method_members Init w g ps h = elim h [ ]
method_members Shorthand w g ps h = elim h [ ]
method_members Generator w g ps h = elim h [ ]
method_members Async w g ps h = elim h [ ]
method_members AsyncGenerator w g ps h = elim h [ ]

let_through : (b : Bool) (xs : List Spelling) {x : Spelling} → Among x (cond b xs []) → b ≡ true
let_through true xs h = refl
let_through false xs h = elim h [ ]

other_form : (a : Role) (k : Kind) (w : List ℕ) (g : Flags) (s e : ℕ) (ps : Parts) {x : Spelling} → Among x (spellings a (node k w g s e ps)) → OtherForm a k g.form
unfolding spellings
other_form (method x) kind.FunctionExpression w g s e ps h = let_through (is_function_at x g.form) _ h
other_form member kind.MethodDefinition w g s e ps h = method_members g.form w g ps h
other_form _ k w g s e ps h = tt

-- ---- what isn't at the position of a Program is none, and none of its parts is

abbrev is_script : Role → Bool
is_script script = true
is_script _ = false

no_program : {w : List ℕ} {g : Flags} {ps : Parts} {a : Role} {k : Kind} {p : Production} → Chosen w g ps a k p → is_script a ≡ false → is_program k ≡ false
no_program (chosen.of_statement s c) h = of c
  where
    of : {w : List ℕ} {g : Flags} {ps : Parts} {r : Bool} {k : Kind} {p : Production} → ChosenStatement w g ps r k p → is_program k ≡ false
    of chosen.block_statement = refl
    of _ = refl
no_program (chosen.of_declaration s c) h = of c
  where
    of : {w : List ℕ} {g : Flags} {ps : Parts} {r : Bool} {k : Kind} {p : Production} → ChosenDeclaration w g ps r k p → is_program k ≡ false
    of (chosen.variables i) = refl
    of _ = refl
no_program (chosen.whole_script i) h = absurd (true≢false h)
no_program (chosen.whole_module i) h = absurd (true≢false h)
no_program _ h = refl

abbrev inner : Piece → Bool
inner (sub (fixed script)) = false
inner _ = true

own_inner : (w : List ℕ) (o : OwnText) → inner (own_piece o w) ≡ true
own_inner w a_name = refl
own_inner w _ = refl

abbrev inner_pieces : PieceTest
inner_pieces = record { test = inner; of_own = λ o. true; of_endings = true; own_so = λ w o h. own_inner w o; endings_so = λ e h. refl }

abbrev IsInner : Production → Type 0
IsInner p = passes inner (λ o. true) true (shape_of (form p).items) ≡ true

all_inner : (p : Production) → IsInner p
all_inner (made.function x) = of_form (λ z. passes inner (λ o. true) true (shape_of (form (made.function z)).items)) refl x
all_inner (made.short_arrow x) = of_form (λ z. passes inner (λ o. true) true (shape_of (form (made.short_arrow z)).items)) refl x
all_inner (made.arrow x) = of_form (λ z. passes inner (λ o. true) true (shape_of (form (made.arrow z)).items)) refl x
all_inner (made.property_method x) = of_form (λ z. passes inner (λ o. true) true (shape_of (form (made.property_method z)).items)) refl x
all_inner (made.member_method x) = of_form (λ z. passes inner (λ o. true) true (shape_of (form (made.member_method z)).items)) refl x
all_inner (made.for_of x r) = of_form (λ z. passes inner (λ o. true) true (shape_of (form (made.for_of z r)).items)) refl x
all_inner _ = refl

abbrev none_script : List Role → Bool
none_script [] = true
none_script (a ∷ xs) = not (is_script a) && none_script xs

inner_slot : (z : Rattle.language.specs.declared.Rank.Rank) (i : Bool) (x : Rattle.language.specs.declared.Start.Start) (s : Slot) → inner (sub s) ≡ true → not (is_script (settle z i x s)) ≡ true
inner_slot z i x (fixed script) h = absurd (false≢true h)
inner_slot z i x (fixed _) h = refl
inner_slot z i x _ h = refl

inner_roles : (z : Rattle.language.specs.declared.Rank.Rank) (i : Bool) (x : Rattle.language.specs.declared.Start.Start) (qs : List Piece) → each inner qs ≡ true → none_script (roles (map (settle_piece z i x) qs)) ≡ true
inner_roles z i x [] h = refl
inner_roles z i x (sub s ∷ qs) h = let u = and_parts (inner (sub s)) _ h in and_from _ _ (inner_slot z i x s u.0) (inner_roles z i x qs u.1)
inner_roles z i x (tok c w ∷ qs) h = inner_roles z i x qs h
inner_roles z i x (may w ∷ qs) h = inner_roles z i x qs h
inner_roles z i x (many w ∷ qs) h = inner_roles z i x qs h
inner_roles z i x (ahead w ∷ qs) h = inner_roles z i x qs h
inner_roles z i x (unbroken ∷ qs) h = inner_roles z i x qs h
inner_roles z i x (no_operand ∷ qs) h = inner_roles z i x qs h
inner_roles z i x (ending e ∷ qs) h = inner_roles z i x qs h
inner_roles z i x (open_parameters ∷ qs) h = inner_roles z i x qs h
inner_roles z i x (close_parameters ∷ qs) h = inner_roles z i x qs h
inner_roles z i x (absent ∷ qs) h = inner_roles z i x qs h
inner_roles z i x (never ∷ qs) h = inner_roles z i x qs h
inner_roles z i x (lay l ∷ qs) h = inner_roles z i x qs h

-- ---- nodes at their positions

-- a node that its first way spells
record Stands (a : Role) (n : Tree) (ps : Parts) : Type 0 where
  way : List (PieceOf Role)
  listed : Among way (ways a n)
  positions : first_roles (ways a n) ≡ roles way
  lines : lines_up way ps ≡ true

stands : (a : Role) (n : Tree) (ps : Parts) (qss : List (List (PieceOf Role))) → ways a n ≡ qss → leads qss ps ≡ true → Stands a n ps
stands a n ps [] e h = absurd (false≢true h)
stands a n ps (qs ∷ qss) e h = record { way = qs; listed = subst (λ xs. Among qs xs) (sym e) first; positions = ap first_roles e; lines = h }

runs_alone : (a : Role) (x : Spelling) → IsTrue (fits a x) → can_run x.pieces ≡ true
runs_alone a x h = (and_parts (fits_position a x) (can_run x.pieces) h).1

script_kind : {w : List ℕ} {g : Flags} {ps : Parts} {a : Role} {k : Kind} {p : Production} → Chosen w g ps a k p → is_script a ≡ true → k ≡ kind.Program
script_kind (chosen.of_statement at_statement c) h = absurd (false≢true h)
script_kind (chosen.of_statement at_item c) h = absurd (false≢true h)
script_kind (chosen.of_statement at_opening c) h = absurd (false≢true h)
script_kind (chosen.of_declaration at_item c) h = absurd (false≢true h)
script_kind (chosen.of_declaration at_opening c) h = absurd (false≢true h)
script_kind (chosen.whole_script i) h = refl
script_kind (chosen.whole_module i) h = refl
script_kind _ h = absurd (false≢true h)

record NodeIsFine (a : Role) (k : Kind) (w : List ℕ) (g : Flags) (s e : ℕ) (ps : Parts) : Type 0 where
  program : is_script a ≡ true → k ≡ kind.Program
  other : is_script a ≡ false → is_program k ≡ false
  lean : is_lean (node k w g 0 0 (bare_parts ps)) ≡ true
  form : form_fits k g.form ≡ true
  count : count_fits (parts_table k) g.form (part_count ps) ≡ true
  inside : none_script (first_roles (ways a (node k w g s e ps))) ≡ true

node_is_fine : (a : Role) (k : Kind) (w : List ℕ) (g : Flags) (s e : ℕ) (ps : Parts) → leads (ways a (node k w g s e ps)) ps ≡ true → NodeIsFine a k w g s e ps
node_is_fine a k w g s e ps h =
    let n = node k w g s e ps in
    let x = stands a n ps (ways a n) refl h in
    let v = way_of x.listed in
    let u = every_way a (bare n) v.listed in
    let items = (form u.production).items in
    let pieces : v.spelling.pieces ≡ pieces_of items w g (bare_parts ps) = ap (λ (y : Spelling). y.pieces) u.is in
    let runs : can_run (pieces_of items w g (bare_parts ps)) ≡ true = ap can_run (sym pieces) ∙ runs_alone a v.spelling v.fit in
    let way : x.way ≡ map (settle_piece (own_rank a) (own_in a) (own_start a)) (pieces_of items w g (bare_parts ps)) = v.is ∙ ap (λ qs. map (settle_piece (own_rank a) (own_in a) (own_start a)) qs) pieces in
    record {
      program = script_kind u.chosen;
      other = no_program u.chosen;
      lean = v.lean;
      form = chosen_form u.chosen runs (other_form a k w g 0 0 (bare_parts ps) v.listed);
      count = form_counts (parts_table k) g.form items w g (bare_parts ps) ps (own_rank a) (own_in a) (own_start a) (chosen_suits u.chosen) runs (ap (λ q. lines_up q ps) (sym way) ∙ x.lines);
      inside =
          ap none_script (x.positions ∙ ap roles way)
          ∙ inner_roles (own_rank a) (own_in a) (own_start a) (pieces_of items w g (bare_parts ps)) (each_of inner_pieces w items g (bare_parts ps) (all_inner u.production));
    }

from_not : (b : Bool) → not b ≡ true → b ≡ false
from_not true h = sym h
from_not false h = refl

fine_with : (a : Role) (k : Kind) (w : List ℕ) (g : Flags) (s e : ℕ) (ps : Parts) → NodeIsFine a k w g s e ps → is_script a ≡ false → are_fine ps ≡ true → is_fine (node k w g s e ps) ≡ true
fine_with a k w g s e ps x h r =
    let l = and_parts (has_text k || is_empty w) _ x.lean in
    and_from (is_fine_node k w g (part_count ps)) (are_fine ps) (and_from (not (is_program k)) _ (ap not (x.other h)) (and_from _ _ l.0 (and_from _ _ l.1 (and_from _ _ x.form x.count)))) r

mutual
  unfolding lined parts_lined

  pub derived_fine : (n : Tree) (a : Role) → is_script a ≡ false → lined n a ≡ true → is_fine n ≡ true
  derived_fine (node k w g s e ps) (expr y i f) h l =
      let u = and_parts (leads (ways (expr Expression true Any) (node k w g s e ps)) ps) _ l in
      let x = node_is_fine (expr Expression true Any) k w g s e ps u.0 in
      fine_with (expr Expression true Any) k w g s e ps x refl (parts_fine ps (first_roles (ways (expr Expression true Any) (node k w g s e ps))) x.inside u.1)
  derived_fine (node k w g s e ps) a h l =
      let u = and_parts (leads (ways a (node k w g s e ps)) ps) _ l in
      let x = node_is_fine a k w g s e ps u.0 in
      fine_with a k w g s e ps x h (parts_fine ps (first_roles (ways a (node k w g s e ps))) x.inside u.1)

  pub parts_fine : (ps : Parts) (xs : List Role) → none_script xs ≡ true → parts_lined ps xs ≡ true → are_fine ps ≡ true
  parts_fine none xs h l = refl
  parts_fine (gap ps) xs h l = parts_fine ps xs h l
  parts_fine (part n ps) [] h l = absurd (false≢true l)
  parts_fine (part n ps) (a ∷ xs) h l =
      let u = and_parts (lined n a) _ l in
      let v = and_parts (not (is_script a)) _ h in
      and_from _ _ (derived_fine n a (from_not (is_script a) v.0) u.0) (parts_fine ps xs v.1 u.1)

-- a Program, its flags, and what is in it
pub record IsFineProgram (n : Tree) : Type 0 where
  pub kind : kind_of n ≡ kind.Program
  pub lean : within (flags_of n) (used_flags (kind_of n) (flags_of n)) ≡ true
  pub parts : are_fine (parts_of n) ≡ true

pub program_fine : (n : Tree) → lined n script ≡ true → IsFineProgram n
unfolding lined
program_fine (node k w g s e ps) l =
    let u = and_parts (leads (ways script (node k w g s e ps)) ps) _ l in
    let x = node_is_fine script k w g s e ps u.0 in
    record { kind = x.program refl; lean = (and_parts (has_text k || is_empty w) _ x.lean).1; parts = parts_fine ps (first_roles (ways script (node k w g s e ps))) x.inside u.1 }
