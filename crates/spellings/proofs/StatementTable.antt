-- The outlines of statements, items, declarations, cases, handlers and bodies are those of the table.
use Rattle.std.proofs.Common.{◌≡◌, ℕ, Bool, true, false, cond, List, [], ◌∷◌, ◌++◌, refl, ap, ◌∙◌, subst}
use Rattle.std.specs.Prelude.{Option, Some, None, ◌&&◌, ◌||◌, not, nat_le, codes}
use Rattle.tokens.specs.declared.token.TokenClass.TheVariants as class
use Rattle.tree.specs.declared.kind.Kind.{Kind}
use Rattle.tree.specs.declared.kind.Kind.TheVariants as kind
use Rattle.tree.specs.declared.kind.Flags.{Flags}
use Rattle.tree.specs.declared.kind.Form.{Form}
use Rattle.tree.specs.declared.kind.Form.TheVariants as form
use Rattle.tree.specs.Uses.{is_empty}
use Rattle.tree.specs.Tree.{Parts, none, part, gap, kind_of, plain}
use Rattle.language.specs.declared.Rank.TheVariants.{Expression, Assignment, Primary, Grouped}
use Rattle.language.specs.declared.Start.TheVariants.{Any, Statement}
use Rattle.language.specs.FirstPart.{lead as lead_kind, others}
use Rattle.language.specs.Vocabulary.{is, is_pattern}
use Rattle.language.specs.Edges.{last_edge, ends_in_if}
use Rattle.language.specs.declared.Edge.TheVariants.{Closed, Other}
use Rattle.language.specs.Pieces as piece
use Rattle.language.specs.Pieces.{Piece, Slot, Spelling, only, only_at, put, put_at, sub, tok, lay, fixed, sign, term, sp, is_none, bound, absent, unbroken, no_operand, ending, nothing}
use Rattle.language.specs.Expressions.{given}
use Rattle.language.specs.Statements.{statements, items, openings, heads, declarator_ways, cases, handlers, braced, lines, prologue, declaration, declarators, end_of, for_left, after_word, whole, is_one, is_declaration, is_string_literal, first_is_string, defaults, for_words, module_prologue}
use Rattle.language.specs.Grammar.{programs}
use Rattle.spelling_table.specs.declared.position.Position.{Position}
use Rattle.spelling_table.specs.declared.position.Position.TheVariants as position
use Rattle.spelling_table.specs.declared.position.Slot as slot
use Rattle.spelling_table.specs.declared.position.Slot.TheVariants as own
use Rattle.spelling_table.specs.declared.outline.FixedSlots.TheVariants.{Zero, One, Two, Three, Four}
use Rattle.spelling_table.specs.declared.outline.ListSlots.TheVariants as tails
use Rattle.spelling_table.specs.declared.outline.Outline.{Outline}
use Rattle.spelling_table.specs.Outlines.{role_of, slot_of, before, tail_slots, assignment_at, whole_at, bound_at, lined}
use Rattle.spellings.specs.Entries.{entry_at, text_at, around}
use Rattle.spellings.specs.Expressions.{kind_at, only_if, is_arrow_form}
use Rattle.spellings.specs.Statements.{program_outline, statement_outline, item_outline, opening_outline, opened_outline, head_outline, declarator_outline, case_outline, handler_outline, items_outline, prologue_outline, declarators_outline, declaration_outline, initialised, bare_name, caught, left_at, each_outline, evaluated, is_declaring, is_one_part, init_at, of_front, given_before, one, two}
use Rattle.spelling_table.specs.Productions.{body_at}
use Rattle.spellings.proofs.SlotPositions.{named, named-closed}
use Rattle.spellings.proofs.Lists.{piece_at, lines-named, modules-named, prologue-named, declarators-named, bound_piece}
use Rattle.spellings.proofs.OutlineWays.{Outlined, never_runs, one_way}
use Rattle.spellings.proofs.ExpressionTable.{lead_entry, functions, classes}
use Rattle.spellings.proofs.OtherTable.{Placed, nowhere, unnamed, placed, places, unless, when, braced-named}

-- what is outlined is placed
pub outlined_placed : {ps : Parts} {s : Spelling} {o : Option Outline} → Outlined ps (s ∷ []) o → Placed ps (s ∷ []) o
outlined_placed (never_runs e) = unnamed e
outlined_placed (one_way d) = placed d.names

pub items_placed : (r : Bool) (ps : Parts) → Placed ps (only (braced ps (lines (piece.item r) ps))) (items_outline r)
items_placed r ps = placed (braced-named ps (lines (piece.item r) ps) ∙ lines-named (position.StatementListItem r) ps)

pub body_placed : (ps : Parts) → Placed ps (only (braced ps (prologue true true (lay piece.line ∷ []) [] ps))) (prologue_outline true)
body_placed ps = placed (braced-named ps (prologue true true (lay piece.line ∷ []) [] ps) ∙ prologue-named true true (lay piece.line ∷ []) [] ps refl refl)

pub script_placed : (w : List ℕ) (ps : Parts) → Placed ps (programs w ps) (program_outline w)
script_placed w ps = of (is_empty w || is w "2022") (is w "module")
  where
    of : (a b : Bool) → Placed ps (cond a (only (prologue false true [] (lay piece.feed ∷ []) ps ++ tok class.End [] ∷ [])) (cond b (only (module_prologue true ps ++ tok class.End [] ∷ [])) []))
        (cond a (prologue_outline false) (cond b (Some (lined Primary Zero (tails.ModuleItems true) 0)) None))
    of true b = placed (named-closed (prologue false true [] (lay piece.feed ∷ []) ps) (tok class.End [] ∷ []) refl ∙ prologue-named false true [] (lay piece.feed ∷ []) ps refl refl)
    of false true = placed (named-closed (module_prologue true ps) (tok class.End [] ∷ []) refl ∙ modules-named true ps)
    of false false = nowhere

-- declarations
declared_placed : (w : List ℕ) (a : Position) (qs : List Piece) (ps : Parts) → named qs ≡ Some [] → Placed ps (only (declaration w (role_of a) ps ++ qs)) (declarators_outline a)
declared_placed w a qs ps h = placed (named-closed (declarators (role_of a) ps) qs h ∙ declarators-named a ps)

head_declared : (w : List ℕ) (b : Bool) (ps : Parts) → Placed ps (only (declaration w (piece.declarator false b) ps)) (declarators_outline (position.Declarator false b))
head_declared w b ps = placed (declarators-named (position.Declarator false b) ps)

one_part : (ps : Parts) → is_one ps ≡ is_one_part (around ps)
one_part none = refl
one_part (gap ps) = refl
one_part (part n none) = refl
one_part (part n (part m ps)) = refl
one_part (part n (gap ps)) = refl

pub heads_placed : (b : Bool) (k : Kind) (w : List ℕ) (ps : Parts) → Placed ps (heads b k w ps) (head_outline b k w (around ps))
heads_placed b kind.VariableDeclaration w ps =
    subst (λ u. Placed ps (heads b kind.VariableDeclaration w ps) (cond (is_declaring w && (b || u)) (declarators_outline (position.Declarator false b)) None)) (one_part ps)
    (when (is_declaring w && (b || is_one ps)) (head_declared w b ps))
heads_placed b _ w ps = nowhere

initialised_placed : {ps : Parts} (i : Bool) (p : Option piece.Role) (a : Option Position) → put_at p ≡ piece_at a → Placed ps (only_at p (sp ∷ sign "=" ∷ sp ∷ put (piece.expr Assignment i Any) ∷ [])) (initialised i a)
initialised_placed i None None e = nowhere
initialised_placed i None (Some a) e = absurd (cc)
initialised_placed i (Some r) None e = absurd (cc)
initialised_placed i (Some r) (Some a) e = places (Two (own.Fixed a) (own.Fixed (position.Expression Assignment i Any))) _ (ap (λ q. named (q ∷ sp ∷ sign "=" ∷ sp ∷ put (piece.expr Assignment i Any) ∷ [])) e)

bare_placed : {ps : Parts} (p : Option piece.Role) (a : Option Position) → put_at p ≡ piece_at a → Placed ps (only_at p (absent ∷ [])) (bare_name a)
bare_placed None None e = nowhere
bare_placed None (Some a) e = absurd (cc)
bare_placed (Some r) None e = absurd (cc)
bare_placed (Some r) (Some a) e = places (One (own.Fixed a)) _ (ap (λ q. named (q ∷ absent ∷ [])) e)

pub declarators_placed : (i b : Bool) (k : Kind) (ps : Parts) → Placed ps (declarator_ways i b k ps) (declarator_outline i b k (around ps))
declarators_placed i b kind.VariableDeclarator none = nowhere
declarators_placed i b kind.VariableDeclarator (gap ps) = nowhere
declarators_placed i b kind.VariableDeclarator (part n none) = nowhere
declarators_placed i b kind.VariableDeclarator (part n (part e none)) = when b (initialised_placed i (bound true (kind_of n)) (bound_at true (kind_of n)) (bound_piece true (kind_of n)))
declarators_placed i b kind.VariableDeclarator (part n (part e (part m ps))) = nowhere
declarators_placed i b kind.VariableDeclarator (part n (part e (gap ps))) = nowhere
declarators_placed i b kind.VariableDeclarator (part n (gap none)) = unless (b && is_pattern (kind_of n)) (bare_placed (bound true (kind_of n)) (bound_at true (kind_of n)) (bound_piece true (kind_of n)))
declarators_placed i b kind.VariableDeclarator (part n (gap (part m ps))) = nowhere
declarators_placed i b kind.VariableDeclarator (part n (gap (gap ps))) = nowhere
declarators_placed i b _ ps = nowhere

-- cases and handlers
case_items : (r : Bool) (ps : Parts) → named (lay piece.deeper ∷ lines (piece.item r) ps ++ lay piece.shallower ∷ []) ≡ tail_slots (tails.Each (own.Fixed (position.StatementListItem r))) ps
case_items r ps = named-closed (lines (piece.item r) ps) (lay piece.shallower ∷ []) refl ∙ lines-named (position.StatementListItem r) ps

pub cases_placed : (r : Bool) (k : Kind) (ps : Parts) → Placed ps (cases r k ps) (case_outline r k (around ps))
cases_placed r kind.SwitchCase none = nowhere
cases_placed r kind.SwitchCase (part t ps) = placed (ap (before (fixed (role_of whole_at))) (case_items r ps))
cases_placed r kind.SwitchCase (gap ps) = placed (case_items r ps)
cases_placed r _ ps = nowhere

caught_placed : {ps : Parts} (r : Bool) (p : Piece) (a : Option Position) → p ≡ piece_at a →
    Placed ps (only (term "catch" ∷ sp ∷ sign "(" ∷ p ∷ sign ")" ∷ sp ∷ put (piece.block r) ∷ [])) (caught r a)
caught_placed r p None e = unnamed (ap (λ q. named (q ∷ sign ")" ∷ sp ∷ put (piece.block r) ∷ [])) e)
caught_placed r p (Some a) e = places (Two (own.Fixed a) (own.Fixed (position.Block r))) _ (ap (λ q. named (q ∷ sign ")" ∷ sp ∷ put (piece.block r) ∷ [])) e)

pub handlers_placed : (r : Bool) (k : Kind) (ps : Parts) → Placed ps (handlers r k ps) (handler_outline r k (around ps))
handlers_placed r kind.CatchClause none = nowhere
handlers_placed r kind.CatchClause (part p ps) = caught_placed r (put_at (bound true (kind_of p))) (bound_at true (kind_of p)) (bound_piece true (kind_of p))
handlers_placed r kind.CatchClause (gap ps) = places (One (own.Fixed (position.Block r))) _ refl
handlers_placed r _ ps = nowhere

-- Statements

if_placed : (r : Bool) (ps : Parts) → Placed ps (statements r kind.IfStatement [] plain ps) (statement_outline r kind.IfStatement [] plain (around ps))
unfolding statements
if_placed r none = nowhere
if_placed r (gap ps) = nowhere
if_placed r (part t none) = nowhere
if_placed r (part t (gap ps)) = nowhere
if_placed r (part t (part c none)) = nowhere
if_placed r (part t (part c (gap none))) = places (Two (own.Fixed whole_at) (body_at r)) _ refl
if_placed r (part t (part c (gap (part m ps)))) = nowhere
if_placed r (part t (part c (gap (gap ps)))) = nowhere
if_placed r (part t (part c (part a none))) = unless (ends_in_if c) (places (Three (own.Fixed whole_at) (body_at r) (body_at r)) _ refl)
if_placed r (part t (part c (part a (part m ps)))) = nowhere
if_placed r (part t (part c (part a (gap ps)))) = nowhere

try_placed : (r : Bool) (ps : Parts) → Placed ps (statements r kind.TryStatement [] plain ps) (statement_outline r kind.TryStatement [] plain (around ps))
unfolding statements
try_placed r none = nowhere
try_placed r (gap ps) = nowhere
try_placed r (part t none) = nowhere
try_placed r (part t (part c none)) = nowhere
try_placed r (part t (part c (gap none))) = places (Two (own.Fixed (position.Block r)) (own.Fixed (position.CatchClause r))) _ refl
try_placed r (part t (part c (gap (part m ps)))) = nowhere
try_placed r (part t (part c (gap (gap ps)))) = nowhere
try_placed r (part t (part c (part a none))) = places (Three (own.Fixed (position.Block r)) (own.Fixed (position.CatchClause r)) (own.Fixed (position.Block r))) _ refl
try_placed r (part t (part c (part a (part m ps)))) = nowhere
try_placed r (part t (part c (part a (gap ps)))) = nowhere
try_placed r (part t (gap none)) = nowhere
try_placed r (part t (gap (gap ps))) = nowhere
try_placed r (part t (gap (part f none))) = places (Two (own.Fixed (position.Block r)) (own.Fixed (position.Block r))) _ refl
try_placed r (part t (gap (part f (part m ps)))) = nowhere
try_placed r (part t (gap (part f (gap ps)))) = nowhere

-- a word, and perhaps what stands behind it
word_placed : (w : List ℕ) (a : Position) (qs : List Piece) (ps : Parts) → named qs ≡ Some [] → Placed ps (only (tok class.IdentifierName w ∷ after_word ps (put (role_of a)) ++ qs)) (Rattle.spellings.specs.Statements.word_outline (entry_at ps 0) a)
word_placed w a qs none h = unnamed refl
word_placed w a qs (gap ps) h = places Zero _ h
word_placed w a qs (part n ps) h = places (One (own.Fixed a)) _ (ap (before (fixed (role_of a))) h)

-- the left side in the head of a for-in or for-of
left_piece : (k : Kind) → put_at (cond (is_declaration k) (Some (piece.head false)) (bound false k)) ≡ piece_at (left_at k)
left_piece k = of (is_declaration k)
  where
    of : (b : Bool) → put_at (cond b (Some (piece.head false)) (bound false k)) ≡ piece_at (cond b (Some (position.ForDeclaration false)) (bound_at false k))
    of true = refl
    of false = bound_piece false k

-- behind `for` and words that name nothing
each_placed : {ps : Parts} (words : List Piece) → ((us : List Piece) → named (words ++ us) ≡ named us) → (r : Bool) (b : Position) (w : Prim.Native.String.String) (p : Piece) (a : Option Position) → p ≡ piece_at a →
    Placed ps (only (term "for" ∷ sp ∷ words ++ sign "(" ∷ p ∷ sp ∷ term w ∷ sp ∷ put (role_of b) ∷ sign ")" ∷ sp ∷ put (piece.statement r) ∷ [])) (each_outline r a b)
each_placed words free r b w p None e = unnamed (free _ ∙ ap (λ q. named (q ∷ sp ∷ term w ∷ sp ∷ put (role_of b) ∷ sign ")" ∷ sp ∷ put (piece.statement r) ∷ [])) e)
each_placed words free r b w p (Some a) e = places (Three (own.Fixed a) (own.Fixed b) (body_at r)) _ (free _ ∙ ap (λ q. named (q ∷ sp ∷ term w ∷ sp ∷ put (role_of b) ∷ sign ")" ∷ sp ∷ put (piece.statement r) ∷ [])) e)

each_formed : {ps : Parts} (x : Form) (r : Bool) (b : Position) (w : Prim.Native.String.String) (p : Piece) (a : Option Position) → p ≡ piece_at a →
    Placed ps (only (term "for" ∷ sp ∷ for_words x ++ sign "(" ∷ p ∷ sp ∷ term w ∷ sp ∷ put (role_of b) ∷ sign ")" ∷ sp ∷ put (piece.statement r) ∷ [])) (only_if (is_arrow_form x) (each_outline r a b))
each_formed form.Init r b w p a e = each_placed [] (λ us. refl) r b w p a e
each_formed form.Async r b w p a e = each_placed (for_words form.Async) (λ us. refl) r b w p a e
each_formed _ r b w p a e = unnamed refl

each_by_kind : (x : Form) (r : Bool) (b : Position) (w : Prim.Native.String.String) (ps : Parts) →
    Placed ps (only (term "for" ∷ sp ∷ for_words x ++ sign "(" ∷ for_left ps ∷ sp ∷ term w ∷ sp ∷ put (role_of b) ∷ sign ")" ∷ sp ∷ put (piece.statement r) ∷ [])) (only_if (is_arrow_form x) (each_outline r (left_at (kind_at (entry_at ps 0))) b))
each_by_kind x r b w ps = subst (λ k. Placed ps (only (term "for" ∷ sp ∷ for_words x ++ sign "(" ∷ for_left ps ∷ sp ∷ term w ∷ sp ∷ put (role_of b) ∷ sign ")" ∷ sp ∷ put (piece.statement r) ∷ [])) (only_if (is_arrow_form x) (each_outline r (left_at k) b))) (lead_entry ps)
    (each_formed x r b w (for_left ps) (left_at (lead_kind ps)) (left_piece (lead_kind ps)))

switch_placed : (r : Bool) (ps : Parts) → Placed ps (statements r kind.SwitchStatement [] plain ps) (statement_outline r kind.SwitchStatement [] plain (around ps))
unfolding statements
switch_placed r ps = of (nat_le (defaults (others ps)) 1)
  where
    of : (b : Bool) → Placed ps (cond b (only (term "switch" ∷ sp ∷ sign "(" ∷ whole ∷ sign ")" ∷ sp ∷ braced (others ps) (lines (piece.switch_case r) (others ps)))) []) (Rattle.spellings.specs.Statements.switch_outline r (not b))
    of true = placed (ap (before (fixed (role_of whole_at))) (braced-named (others ps) (lines (piece.switch_case r) (others ps)) ∙ lines-named (position.SwitchCase r) (others ps)))
    of false = nowhere

-- a `for`, by its first three parts
abbrev for_pieces : Bool → Piece → Parts → List Piece
for_pieces r p ps =
    (term "for" ∷ sp ∷ sign "(" ∷ given ps (p ∷ []))
    ++ sign ";" ∷ given (others ps) (sp ∷ whole ∷ [])
    ++ sign ";" ∷ given (others (others ps)) (sp ∷ whole ∷ [])
    ++ sign ")" ∷ sp ∷ put (piece.statement r) ∷ []

abbrev for_front : Bool → slot.Slot → Parts → Option Outline
for_front r x ps = of_front (given_before (entry_at ps 0) x (given_before (entry_at ps 1) (own.Fixed whole_at) (given_before (entry_at ps 2) (own.Fixed whole_at) (Some (One (body_at r))))))

for_given : (r : Bool) (x : slot.Slot) (ps : Parts) → Placed ps (only (for_pieces r (sub (slot_of x)) ps)) (for_front r x ps)
for_given r x none = unnamed refl
for_given r x (gap none) = unnamed refl
for_given r x (part n none) = unnamed refl
for_given r x (gap (gap none)) = unnamed refl
for_given r x (gap (part m none)) = unnamed refl
for_given r x (part n (gap none)) = unnamed refl
for_given r x (part n (part m none)) = unnamed refl
for_given r x (gap (gap (gap ps))) = places (One (body_at r)) _ refl
for_given r x (gap (gap (part l ps))) = places (Two (own.Fixed whole_at) (body_at r)) _ refl
for_given r x (gap (part m (gap ps))) = places (Two (own.Fixed whole_at) (body_at r)) _ refl
for_given r x (gap (part m (part l ps))) = places (Three (own.Fixed whole_at) (own.Fixed whole_at) (body_at r)) _ refl
for_given r x (part n (gap (gap ps))) = places (Two x (body_at r)) _ refl
for_given r x (part n (gap (part l ps))) = places (Three x (own.Fixed whole_at) (body_at r)) _ refl
for_given r x (part n (part m (gap ps))) = places (Three x (own.Fixed whole_at) (body_at r)) _ refl
for_given r x (part n (part m (part l ps))) = places (Four x (own.Fixed whole_at) (own.Fixed whole_at) (body_at r)) _ refl

init_piece : (k : Kind) → sub (slot_of (init_at k)) ≡ put (cond (is_declaration k) (piece.head true) (piece.expr Expression false Any))
init_piece k = of (is_declaration k)
  where
    of : (b : Bool) → sub (slot_of (own.Fixed (cond b (position.ForDeclaration true) (position.Expression Expression false Any)))) ≡ put (cond b (piece.head true) (piece.expr Expression false Any))
    of true = refl
    of false = refl

for_placed : (r : Bool) (ps : Parts) → Placed ps (statements r kind.ForStatement [] plain ps) (statement_outline r kind.ForStatement [] plain (around ps))
unfolding statements
for_placed r ps =
    subst (λ k. Placed ps (only (for_pieces r (put (cond (is_declaration (lead_kind ps)) (piece.head true) (piece.expr Expression false Any))) ps)) (for_front r (init_at k) ps)) (lead_entry ps)
    (subst (λ q. Placed ps (only (for_pieces r q ps)) (for_front r (init_at (lead_kind ps)) ps)) (init_piece (lead_kind ps)) (for_given r (init_at (lead_kind ps)) ps))

pub statements_placed : (r : Bool) (k : Kind) (w : List ℕ) (g : Flags) (ps : Parts) → Placed ps (statements r k w g ps) (statement_outline r k w g (around ps))
unfolding statements
statements_placed r kind.BlockStatement w g ps = items_placed r ps
statements_placed r kind.VariableDeclaration w g ps = when (is w "var") (declared_placed w (position.Declarator true true) (end_of (last_edge ps) ∷ []) ps refl)
statements_placed r kind.EmptyStatement w g ps = places Zero _ refl
statements_placed r kind.ExpressionStatement w g ps = unless g.directive (places (One evaluated) _ refl)
statements_placed r kind.IfStatement w g ps = if_placed r ps
statements_placed r kind.DoWhileStatement w g ps = places (Two (body_at r) (own.Fixed whole_at)) _ refl
statements_placed r kind.WhileStatement w g ps = places (Two (own.Fixed whole_at) (body_at r)) _ refl
statements_placed r kind.ForStatement w g ps = for_placed r ps
statements_placed r kind.ForInStatement w g ps = each_by_kind form.Init r whole_at "in" ps
statements_placed r kind.ForOfStatement w g ps = each_by_kind g.form r assignment_at "of" ps
statements_placed r kind.ContinueStatement w g ps = word_placed (codes "continue") position.Name (end_of Closed ∷ []) ps refl
statements_placed r kind.BreakStatement w g ps = word_placed (codes "break") position.Name (end_of Closed ∷ []) ps refl
statements_placed r kind.ReturnStatement w g ps = when r (word_placed (codes "return") whole_at (end_of (last_edge ps) ∷ []) ps refl)
statements_placed r kind.ThrowStatement w g ps = places (One (own.Fixed whole_at)) _ refl
statements_placed r kind.LabeledStatement w g ps = places (Two (own.Fixed position.Name) (body_at r)) _ refl
statements_placed r kind.SwitchStatement w g ps = switch_placed r ps
statements_placed r kind.TryStatement w g ps = try_placed r ps
statements_placed r kind.DebuggerStatement w g ps = places Zero _ refl
statements_placed r _ w g ps = nowhere

pub item_placed : (r : Bool) (k : Kind) (w : List ℕ) (g : Flags) (ps : Parts) → Placed ps (items r k w g ps) (item_outline r k w g (around ps))
unfolding items
item_placed r kind.FunctionDeclaration w g none = nowhere
item_placed r kind.FunctionDeclaration w g (gap ps) = nowhere
item_placed r kind.FunctionDeclaration w g (part n ps) = outlined_placed (functions g.form (part n ps))
item_placed r kind.ClassDeclaration w g none = nowhere
item_placed r kind.ClassDeclaration w g (gap ps) = nowhere
item_placed r kind.ClassDeclaration w g (part n ps) = outlined_placed (classes (part n ps))
item_placed r kind.VariableDeclaration w g ps = when (is_declaring w) (declared_placed w (position.Declarator true true) (end_of (last_edge ps) ∷ []) ps refl)
item_placed r k w g ps = statements_placed r k w g ps

-- the string of a directive, and of a statement that is none
string_first : (ps : Parts) → first_is_string ps ≡ is_string_literal (kind_at (entry_at ps 0)) (text_at ps 0)
string_first none = refl
string_first (gap ps) = refl
string_first (part n ps) = refl

opened_placed : {ps : Parts} (d s : Bool) → Placed ps
    (cond d (cond s (only (put piece.directive_string ∷ end_of Other ∷ [])) []) (cond s (only (put (piece.expr Grouped true Any) ∷ end_of (last_edge ps) ∷ [])) (only (put (piece.expr Expression true Statement) ∷ end_of (last_edge ps) ∷ []))))
    (opened_outline d s)
opened_placed true true = places (One (own.Fixed position.DirectiveString)) _ refl
opened_placed true false = nowhere
opened_placed false true = places (One (own.Fixed (position.Expression Grouped true Any))) _ refl
opened_placed false false = places (One evaluated) _ refl

pub opening_placed : (r : Bool) (k : Kind) (w : List ℕ) (g : Flags) (ps : Parts) → Placed ps (openings r k w g ps) (opening_outline r k w g (around ps))
unfolding openings
opening_placed r kind.ExpressionStatement w g ps =
    subst (λ b. Placed ps (openings r kind.ExpressionStatement w g ps) (opened_outline g.directive b)) (string_first ps) (opened_placed g.directive (first_is_string ps))
opening_placed r k w g ps = item_placed r k w g ps
