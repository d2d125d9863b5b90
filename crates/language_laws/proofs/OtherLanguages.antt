-- Scripts and modules with the same items cost the same, if they cost anything: a module's prologue is a script's, where no import or export is among
-- the items, and these no script has.
use Rattle.std.proofs.Common.{◌≡◌, ℕ, Bool, true, false, cond, List, [], ◌∷◌, ◌++◌, length, refl, sym, ap, ◌∙◌, subst, is_some}
use Rattle.std.specs.Prelude.{Option, Some, None, map}
use Rattle.std.proofs.lemmas.Bool.{false≢true, true≢false}
use Rattle.tokens.specs.declared.token.TokenClass.TheVariants.{End}
use Rattle.tree.specs.declared.kind.Kind.{Kind}
use Rattle.tree.specs.declared.kind.Kind.TheVariants as kind
use Rattle.tree.specs.declared.kind.Flags.{Flags}
use Rattle.tree.specs.Tree.{Tree, node, Parts, none, part, gap, kind_of, parts_of, bare, bare_parts}
use Rattle.tree.specs.Uses.{is_lean}
use Rattle.language.specs.declared.Rank.TheVariants.{Expression}
use Rattle.language.specs.declared.Start.TheVariants.{Any}
use Rattle.language.specs.Pieces.{Role, item, opening, module_item, script, Piece, PieceOf, tok, lay, feed, put, settle_piece, Spelling}
use Rattle.language.specs.Statements.{statements, items, openings, prologue, module_prologue, is_module_item, is_directive}
use Rattle.language.specs.Grammar.{ways, ways_bare, spellings}
use Rattle.language.specs.Forms.{Production, form, pieces_of}
use Rattle.language.specs.Chosen.{Chosen}
use Rattle.language.specs.Chosen as chosen
use Rattle.language.specs.Derivation.{Among, first}
use Rattle.language.specs.RowPositions.{roles, first_roles}
use Rattle.language.specs.Layout.{some_way}
use Rattle.language.specs.Cost.{AtMost, at_most, add_cost, if_any, least, parts_least}
use Rattle.language.proofs.lower_bound.LeastPairs.{parts_least-bare, derived_at_least_in}
use Rattle.language.proofs.table.ViewIsComplete.{way_of}
use Rattle.language.proofs.table.EveryWay.{every_way}
use Rattle.language_laws.specs.Laws.{SameItems, NoFewerPairsAcross}

-- ---- items of scripts

abbrev settled : List Piece → List (PieceOf Role)
settled qs = map (settle_piece Expression true Any) qs

abbrev ended : List Piece → List Piece
ended qs = qs ++ tok End [] ∷ []

-- a script's items, and a module's
abbrev script_items : Bool → Parts → List Piece
script_items b ps = prologue false b [] (lay feed ∷ []) ps

no_way : (b : Bool) → cond {A = List (List (PieceOf Role))} b [] [] ≡ []
no_way true = refl
no_way false = refl

add_parts : (x y : Option ℕ) → is_some (add_cost x y) ≡ true → (is_some x ≡ true) × (is_some y ≡ true)
unfolding add_cost
add_parts None y h = absurd (false≢true h)
add_parts (Some m) None h = absurd (false≢true h)
add_parts (Some m) (Some n) h = (refl, refl)

-- imports and exports are no items of a script
no_item : (b : Bool) (k : Kind) (w : List ℕ) (g : Flags) (ps : Parts) (s e : ℕ) → is_module_item k ≡ true → ways (cond b (opening false) (item false)) (node k w g s e ps) ≡ []
unfolding ways ways_bare spellings openings items statements
no_item true kind.ImportDeclaration w g ps s e h = no_way (is_lean (node kind.ImportDeclaration w g 0 0 (bare_parts ps)))
no_item true kind.ExportNamedDeclaration w g ps s e h = no_way (is_lean (node kind.ExportNamedDeclaration w g 0 0 (bare_parts ps)))
no_item true kind.ExportDefaultDeclaration w g ps s e h = no_way (is_lean (node kind.ExportDefaultDeclaration w g 0 0 (bare_parts ps)))
no_item true kind.ExportAllDeclaration w g ps s e h = no_way (is_lean (node kind.ExportAllDeclaration w g 0 0 (bare_parts ps)))
no_item false kind.ImportDeclaration w g ps s e h = no_way (is_lean (node kind.ImportDeclaration w g 0 0 (bare_parts ps)))
no_item false kind.ExportNamedDeclaration w g ps s e h = no_way (is_lean (node kind.ExportNamedDeclaration w g 0 0 (bare_parts ps)))
no_item false kind.ExportDefaultDeclaration w g ps s e h = no_way (is_lean (node kind.ExportDefaultDeclaration w g 0 0 (bare_parts ps)))
no_item false kind.ExportAllDeclaration w g ps s e h = no_way (is_lean (node kind.ExportAllDeclaration w g 0 0 (bare_parts ps)))
no_item b _ w g ps s e h = absurd (false≢true h)

nothing_costs : (x : Option ℕ) (qss : List (List (PieceOf Role))) → qss ≡ [] → is_some (if_any qss x) ≡ true → ⊥
unfolding if_any
nothing_costs x [] e h = false≢true h
nothing_costs x (qs ∷ qss) e h = true≢false (ap some_way e)

-- so what costs something as an item of a script isn't one of them
item_costs : (b : Bool) (k : Kind) (w : List ℕ) (g : Flags) (s e : ℕ) (ps : Parts) → is_some (least (node k w g s e ps) (cond b (opening false) (item false))) ≡ true →
    is_some (if_any (ways (cond b (opening false) (item false)) (node k w g s e ps)) (parts_least ps (first_roles (ways (cond b (opening false) (item false)) (node k w g s e ps))))) ≡ true
unfolding least
item_costs true k w g s e ps h = h
item_costs false k w g s e ps h = h

own_item : (b : Bool) (n : Tree) → is_some (least n (cond b (opening false) (item false))) ≡ true → is_module_item (kind_of n) ≡ false
own_item b (node k w g s e ps) h = of (is_module_item k) refl
  where
    of : (c : Bool) → is_module_item k ≡ c → is_module_item k ≡ false
    of false d = d
    of true d = absurd (nothing_costs _ (ways (cond b (opening false) (item false)) (node k w g s e ps)) (no_item b k w g ps s e d) (item_costs b k w g s e ps h))

-- the positions of a script's items, then of those behind
module_pieces : (b : Bool) (ps : Parts) → is_some (parts_least ps (roles (settled (ended (script_items b ps))))) ≡ true → module_prologue b ps ≡ script_items b ps
unfolding parts_least
module_pieces b none h = refl
module_pieces b (gap ps) h = refl
module_pieces true (part n ps) h =
    let k = add_parts (least n (opening false)) _ h in
    (λ i. put (cond (own_item true n k.0 i) module_item (opening false)) ∷ lay feed ∷ module_pieces (is_directive n) ps k.1 i)
module_pieces false (part n ps) h =
    let k = add_parts (least n (item false)) _ h in
    (λ i. put (cond (own_item false n k.0 i) module_item (item false)) ∷ lay feed ∷ module_pieces false ps k.1 i)

in_module : (qs : Parts) → is_some (parts_least qs (roles (settled (ended (script_items true qs))))) ≡ true →
    parts_least qs (roles (settled (ended (module_prologue true qs)))) ≡ parts_least qs (roles (settled (ended (script_items true qs))))
in_module qs h = ap (λ xs. parts_least qs (roles (settled (ended xs)))) (module_pieces true qs h)

-- ---- Programs

-- the pieces of a Program's items: of a script, or of a module
abbrev pieces_by : Bool → Parts → List Piece
pieces_by true qs = script_items true qs
pieces_by false qs = module_prologue true qs

abbrev cost_by : Bool → Parts → Option ℕ
cost_by b qs = parts_least qs (roles (settled (ended (pieces_by b qs))))

abbrev items_of : Tree → Parts
items_of n = bare_parts (parts_of n)

-- a tree that costs something at the position of a Program has the pieces of a script's or a module's items
record IsProgram (n : Tree) : Type 0 where
  is_script : Bool
  cost : least n script ≡ cost_by is_script (items_of n)

-- its way
record IsWay (n : Tree) (qs : List (PieceOf Role)) : Type 0 where
  is_script : Bool
  is : qs ≡ settled (ended (pieces_by is_script (items_of n)))

chosen_way : {w : List ℕ} {g : Flags} {ps : Parts} {k : Kind} {p : Production} (n : Tree) (qs : List (PieceOf Role)) → ps ≡ items_of n → Chosen w g ps script k p → qs ≡ settled (pieces_of (form p).items w g ps) → IsWay n qs
chosen_way n qs i (chosen.whole_script h) e = record { is_script = true; is = e ∙ ap (λ qs. settled (ended (script_items true qs))) i }
chosen_way n qs i (chosen.whole_module h) e = record { is_script = false; is = e ∙ ap (λ qs. settled (ended (module_prologue true qs))) i }
chosen_way n qs i (chosen.of_statement s c) e = elim s [ ]
chosen_way n qs i (chosen.of_declaration s c) e = elim s [ ]

way : (n : Tree) {qs : List (PieceOf Role)} → Among qs (ways script n) → IsWay n qs
way (node k w g s e ps) h =
    let n = node k w g s e ps in
    let v = way_of h in
    let u = every_way script (bare n) v.listed in
    chosen_way n _ refl u.chosen (v.is ∙ ap (λ (x : Spelling). settled x.pieces) u.is)

least_script : (n : Tree) → least n script ≡ if_any (ways script n) (parts_least (parts_of n) (first_roles (ways script n)))
unfolding least
least_script (node k w g s e ps) = refl

from_ways : (n : Tree) (qss : List (List (PieceOf Role))) → ways script n ≡ qss → is_some (if_any qss (parts_least (parts_of n) (first_roles qss))) ≡ true → IsProgram n
unfolding if_any
from_ways n [] e h = absurd (false≢true h)
from_ways n (qs ∷ qss) e h =
    let i = way n (subst (λ xs. Among qs xs) (sym e) first) in
    record {
      is_script = i.is_script;
      cost = least_script n ∙ ap (λ xs. if_any xs (parts_least (parts_of n) (first_roles xs))) e ∙ ap (λ q. parts_least (parts_of n) (roles q)) i.is ∙ sym (parts_least-bare (parts_of n) _);
    }

program : (n : Tree) → is_some (least n script) ≡ true → IsProgram n
program n h =
    from_ways n (ways script n) refl (ap is_some (sym (least_script n)) ∙ h)

-- where the items cost something in a script, they cost the same in a module
same_by : (b c : Bool) (qs : Parts) → is_some (cost_by b qs) ≡ true → is_some (cost_by c qs) ≡ true → cost_by b qs ≡ cost_by c qs
same_by true true qs h k = refl
same_by false false qs h k = refl
same_by true false qs h k = sym (in_module qs h)
same_by false true qs h k = in_module qs k

same_cost : (n m : Tree) → SameItems m n → is_some (least n script) ≡ true → is_some (least m script) ≡ true → least m script ≡ least n script
same_cost n m same h k =
    let x = program n h in
    let y = program m k in
    let costs : least m script ≡ cost_by y.is_script (items_of n) = y.cost ∙ ap (cost_by y.is_script) same in
    costs ∙ same_by y.is_script x.is_script (items_of n) (ap is_some (sym costs) ∙ k) (ap is_some (sym x.cost) ∙ h) ∙ sym x.cost

some_number : {x : Option ℕ} {k : ℕ} → AtMost x k → is_some x ≡ true
some_number (at_most h) = refl

pub no_fewer_across : NoFewerPairsAcross
no_fewer_across own other source text n m P Q d same e =
    let low = derived_at_least_in own n n source P refl d in
    let bound = derived_at_least_in other m m text Q refl e in
    subst (λ c. AtMost c (length Q)) (same_cost n m same (some_number low) (some_number bound)) bound
