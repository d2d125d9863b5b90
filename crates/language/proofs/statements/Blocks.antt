-- Blocks, bodies, cases, handlers, spreads, rests, methods, declarators and elements with a default: each position has nodes of one kind.
use Rattle.std.proofs.Common.{◌≡◌, ℕ, Bool, true, false, cond, List, [], ◌∷◌, ◌++◌, refl, ap}
use Rattle.std.specs.Prelude.{Option, Some, None, codes, ◌&&◌}
use Rattle.tree.specs.declared.kind.Kind.{Kind}
use Rattle.tree.specs.declared.kind.Kind.TheVariants.{FunctionExpression, BlockStatement, ClassBody, CatchClause, SwitchCase, VariableDeclarator}
use Rattle.tree.specs.declared.kind.Flags.{Flags}
use Rattle.tree.specs.declared.kind.Form.{Form}
use Rattle.tree.specs.declared.kind.Form.TheVariants.{Init, Get, Set, Method, Shorthand, Constructor, Generator, Async, AsyncGenerator}
use Rattle.tree.specs.Tree.{node, Parts, none, part, gap, kind_of, plain}
use Rattle.language.specs.declared.Rank.TheVariants.{Assignment, Primary}
use Rattle.language.specs.declared.Start.TheVariants.{Any}
use Rattle.language.specs.Vocabulary.{is_rest, is_pattern}
use Rattle.language.specs.Pieces.{Role, expr, method, body, block, declarator, switch_case, handler, class_body, item, Piece, many, absent, lay, line, deeper, shallower, Spelling, at, only, only_at, put, put_at, sign, term, sp, nothing, bound, with_default, parameters}
use Rattle.language.specs.Statements.{lines, prologue, member_lines, whole, declarator_ways}
use Rattle.language.specs.Expressions.{methods}
use Rattle.tree.specs.Uses.{is_init, is_lean}
use Rattle.language.specs.Grammar.{spellings, can_run, is_function_at}
use Rattle.language.specs.Derivation.{Among, first}
use Rattle.language.proofs.table.StatementWays.{behind_brace, pieces_of_one}
use Rattle.language.proofs.table.OneKind.{OneKind}
use Rattle.language.proofs.table.ViewIsComplete.{cases}
use Rattle.language.proofs.table.Productions.{in_true}

-- the pieces of each
abbrev pub block_pieces : Bool → Parts → List Piece
block_pieces r ps = sign "{" ∷ behind_brace ps (lines (item r) ps)

abbrev pub body_pieces : Parts → List Piece
body_pieces ps = sign "{" ∷ behind_brace ps (prologue true true (lay line ∷ []) [] ps)

abbrev pub class_body_pieces : Parts → List Piece
class_body_pieces ps = sign "{" ∷ behind_brace ps (many (codes ";") ∷ member_lines ps)

abbrev pub method_pieces : Form → Parts → List Piece
method_pieces Get (gap (part b none)) = absent ∷ sign "(" ∷ sign ")" ∷ sp ∷ put body ∷ []
method_pieces Get _ = nothing
method_pieces Set (gap (part n (part b none))) = cond (is_rest (kind_of n)) nothing (absent ∷ sign "(" ∷ put_at (with_default true (kind_of n)) ∷ sign ")" ∷ sp ∷ put body ∷ [])
method_pieces Set _ = nothing
method_pieces _ (gap ps) = absent ∷ sign "(" ∷ parameters (sign ")" ∷ sp ∷ put body ∷ []) ps
method_pieces _ _ = nothing

abbrev pub case_pieces : Bool → Parts → List Piece
case_pieces r (part t ps) = term "case" ∷ sp ∷ whole ∷ sign ":" ∷ lay deeper ∷ lines (item r) ps ++ lay shallower ∷ []
case_pieces r (gap ps) = absent ∷ term "default" ∷ sign ":" ∷ lay deeper ∷ lines (item r) ps ++ lay shallower ∷ []
case_pieces r none = nothing

abbrev pub handler_pieces : Bool → Parts → List Piece
handler_pieces r (part p ps) = term "catch" ∷ sp ∷ sign "(" ∷ put_at (bound true (kind_of p)) ∷ sign ")" ∷ sp ∷ put (block r) ∷ []
handler_pieces r (gap ps) = absent ∷ term "catch" ∷ sp ∷ put (block r) ∷ []
handler_pieces r none = nothing

-- a declarator with its In; the flag says that it may have an initialiser
abbrev pub declarator_pieces : Bool → Bool → Parts → List Piece
declarator_pieces i b (part n (part e none)) = cond b (put_at (bound true (kind_of n)) ∷ sp ∷ sign "=" ∷ sp ∷ put (expr Assignment i Any) ∷ []) nothing
declarator_pieces i b (part n (gap none)) = cond (b && is_pattern (kind_of n)) nothing (put_at (bound true (kind_of n)) ∷ absent ∷ [])
declarator_pieces i b _ = nothing

-- where a position may be none
at_pieces : (m : Option Role) (qs : List Piece) {x : Spelling} → Among x (only_at m qs) → x.pieces ≡ put_at m ∷ qs
at_pieces (Some a) qs h = pieces_of_one h
at_pieces None qs h = elim h [ ]

at_there : (m : Option Role) (qs : List Piece) → can_run (put_at m ∷ qs) ≡ true → Among (at Primary (put_at m ∷ qs)) (only_at m qs)
at_there (Some a) qs h = first
at_there None qs h = cc

method_way : (f : Form) (ps : Parts) {x : Spelling} → Among x (methods f ps) → x.pieces ≡ method_pieces f ps
method_way Get (gap (part b none)) h = pieces_of_one h
method_way Get _ h = elim h [ ]
method_way Set (gap (part n (part b none))) h = of (is_rest (kind_of n)) h
  where
    qs : List Piece
    qs = absent ∷ sign "(" ∷ put_at (with_default true (kind_of n)) ∷ sign ")" ∷ sp ∷ put body ∷ []

    of : {x : Spelling} (c : Bool) → Among x (cond c [] (only qs)) → x.pieces ≡ cond c nothing qs
    of true h = elim h [ ]
    of false h = pieces_of_one h
method_way Set _ h = elim h [ ]
method_way _ (gap ps) h = pieces_of_one h
method_way _ _ h = elim h [ ]

method_there : (f : Form) (ps : Parts) → can_run (method_pieces f ps) ≡ true → Among (at Primary (method_pieces f ps)) (methods f ps)
method_there Get (gap (part b none)) h = first
method_there Get _ h = cc
method_there Set (gap (part n (part b none))) h = of (is_rest (kind_of n)) h
  where
    qs : List Piece
    qs = absent ∷ sign "(" ∷ put_at (with_default true (kind_of n)) ∷ sign ")" ∷ sp ∷ put body ∷ []

    of : (c : Bool) → can_run (cond c nothing qs) ≡ true → Among (at Primary (cond c nothing qs)) (cond c [] (only qs))
    of true h = cc
    of false h = first
method_there Set _ h = cc
method_there _ (gap ps) h = first
method_there _ _ h = cc

declarator_way : (i b : Bool) (ps : Parts) {x : Spelling} → Among x (declarator_ways i b VariableDeclarator ps) → x.pieces ≡ declarator_pieces i b ps
declarator_way i true (part n (part e none)) h = at_pieces (bound true (kind_of n)) (sp ∷ sign "=" ∷ sp ∷ put (expr Assignment i Any) ∷ []) h
declarator_way i false (part n (part e none)) h = elim h [ ]
declarator_way i b (part n (gap none)) h = of (b && is_pattern (kind_of n)) h
  where
    of : {x : Spelling} (c : Bool) → Among x (cond c [] (only_at (bound true (kind_of n)) (absent ∷ []))) → x.pieces ≡ cond c nothing (put_at (bound true (kind_of n)) ∷ absent ∷ [])
    of true h = elim h [ ]
    of false h = at_pieces (bound true (kind_of n)) (absent ∷ []) h
declarator_way i b _ h = elim h [ ]

declarator_there : (i b : Bool) (ps : Parts) → can_run (declarator_pieces i b ps) ≡ true → Among (at Primary (declarator_pieces i b ps)) (declarator_ways i b VariableDeclarator ps)
declarator_there i true (part n (part e none)) h = at_there (bound true (kind_of n)) (sp ∷ sign "=" ∷ sp ∷ put (expr Assignment i Any) ∷ []) h
declarator_there i false (part n (part e none)) h = cc
declarator_there i b (part n (gap none)) h = of (b && is_pattern (kind_of n)) h
  where
    of : (c : Bool) → can_run (cond c nothing (put_at (bound true (kind_of n)) ∷ absent ∷ [])) ≡ true → Among (at Primary (cond c nothing (put_at (bound true (kind_of n)) ∷ absent ∷ []))) (cond c [] (only_at (bound true (kind_of n)) (absent ∷ [])))
    of true h = cc
    of false h = at_there (bound true (kind_of n)) (absent ∷ []) h
declarator_there i b _ h = cc

-- a block
pub one_block : (r : Bool) → OneKind (block r) BlockStatement plain (block_pieces r)
unfolding spellings
one_block r = record {
  position = record { spans = λ t l. refl; settles = λ x. refl; fitting = λ x. refl; ungrouped = λ y i f e. cc; unnamed = (λ e. cc, λ e. cc) };
  only = only_one;
  there = λ ps h. first;
  textless = refl;
  flagged = λ w g ps x h. refl;
  lean = λ ps. refl;
}
  where
    only_one : (k' : Kind) (w : List ℕ) (g : Flags) (ps : Parts) (x : Spelling) → Among x (spellings (block r) (node k' w g 0 0 ps)) → (k' ≡ BlockStatement) × (x.pieces ≡ block_pieces r ps)
    only_one BlockStatement w g ps x h = (refl, pieces_of_one h)
    only_one _ w g ps x h = elim h [ ]

-- the body of a function
pub one_body : OneKind (body) BlockStatement plain (body_pieces)
unfolding spellings
one_body = record {
  position = record { spans = λ t l. refl; settles = λ x. refl; fitting = λ x. refl; ungrouped = λ y i f e. cc; unnamed = (λ e. cc, λ e. cc) };
  only = only_one;
  there = λ ps h. first;
  textless = refl;
  flagged = λ w g ps x h. refl;
  lean = λ ps. refl;
}
  where
    only_one : (k' : Kind) (w : List ℕ) (g : Flags) (ps : Parts) (x : Spelling) → Among x (spellings (body) (node k' w g 0 0 ps)) → (k' ≡ BlockStatement) × (x.pieces ≡ body_pieces ps)
    only_one BlockStatement w g ps x h = (refl, pieces_of_one h)
    only_one _ w g ps x h = elim h [ ]

-- the body of a class
pub one_class_body : OneKind (class_body) ClassBody plain (class_body_pieces)
unfolding spellings
one_class_body = record {
  position = record { spans = λ t l. refl; settles = λ x. refl; fitting = λ x. refl; ungrouped = λ y i f e. cc; unnamed = (λ e. cc, λ e. cc) };
  only = only_one;
  there = λ ps h. first;
  textless = refl;
  flagged = λ w g ps x h. refl;
  lean = λ ps. refl;
}
  where
    only_one : (k' : Kind) (w : List ℕ) (g : Flags) (ps : Parts) (x : Spelling) → Among x (spellings (class_body) (node k' w g 0 0 ps)) → (k' ≡ ClassBody) × (x.pieces ≡ class_body_pieces ps)
    only_one ClassBody w g ps x h = (refl, pieces_of_one h)
    only_one _ w g ps x h = elim h [ ]

-- a case
pub one_case : (r : Bool) → OneKind (switch_case r) SwitchCase plain (case_pieces r)
unfolding spellings
one_case r = record {
  position = record { spans = λ t l. refl; settles = λ x. refl; fitting = λ x. refl; ungrouped = λ y i f e. cc; unnamed = (λ e. cc, λ e. cc) };
  only = only_one;
  there = there_one;
  textless = refl;
  flagged = λ w g ps x h. refl;
  lean = λ ps. refl;
}
  where
    only_one : (k' : Kind) (w : List ℕ) (g : Flags) (ps : Parts) (x : Spelling) → Among x (spellings (switch_case r) (node k' w g 0 0 ps)) → (k' ≡ SwitchCase) × (x.pieces ≡ case_pieces r ps)
    only_one SwitchCase w g (part t ps) x h = (refl, pieces_of_one h)
    only_one SwitchCase w g (gap ps) x h = (refl, pieces_of_one h)
    only_one SwitchCase w g none x h = elim h [ ]
    only_one _ w g ps x h = elim h [ ]

    there_one : (ps : Parts) → can_run (case_pieces r ps) ≡ true → Among (at Primary (case_pieces r ps)) (spellings (switch_case r) (node SwitchCase [] plain 0 0 ps))
    there_one (part t ps) h = first
    there_one (gap ps) h = first
    there_one none h = cc

-- a handler
pub one_handler : (r : Bool) → OneKind (handler r) CatchClause plain (handler_pieces r)
unfolding spellings
one_handler r = record {
  position = record { spans = λ t l. refl; settles = λ x. refl; fitting = λ x. refl; ungrouped = λ y i f e. cc; unnamed = (λ e. cc, λ e. cc) };
  only = only_one;
  there = there_one;
  textless = refl;
  flagged = λ w g ps x h. refl;
  lean = λ ps. refl;
}
  where
    only_one : (k' : Kind) (w : List ℕ) (g : Flags) (ps : Parts) (x : Spelling) → Among x (spellings (handler r) (node k' w g 0 0 ps)) → (k' ≡ CatchClause) × (x.pieces ≡ handler_pieces r ps)
    only_one CatchClause w g (part t ps) x h = (refl, pieces_of_one h)
    only_one CatchClause w g (gap ps) x h = (refl, pieces_of_one h)
    only_one CatchClause w g none x h = elim h [ ]
    only_one _ w g ps x h = elim h [ ]

    there_one : (ps : Parts) → can_run (handler_pieces r ps) ≡ true → Among (at Primary (handler_pieces r ps)) (spellings (handler r) (node CatchClause [] plain 0 0 ps))
    there_one (part t ps) h = first
    there_one (gap ps) h = first
    there_one none h = cc

-- the form of the function at a method's position
abbrev pub function_of : Form → Form
function_of Generator = Generator
function_of Async = Async
function_of AsyncGenerator = AsyncGenerator
function_of _ = Init

abbrev pub method_flags : Form → Flags
method_flags f = record plain { form = function_of f }

init_is : (z : Form) → is_init z ≡ true → z ≡ Init
init_is Init e = refl
init_is _ e = cc

form_is : (f z : Form) → is_function_at f z ≡ true → z ≡ function_of f
form_is Generator Generator e = refl
form_is Generator _ e = cc
form_is Async Async e = refl
form_is Async _ e = cc
form_is AsyncGenerator AsyncGenerator e = refl
form_is AsyncGenerator _ e = cc
form_is Init z e = init_is z e
form_is Get z e = init_is z e
form_is Set z e = init_is z e
form_is Method z e = init_is z e
form_is Shorthand z e = init_is z e
form_is Constructor z e = init_is z e

its_own : (f : Form) → is_function_at f (function_of f) ≡ true
its_own Generator = refl
its_own Async = refl
its_own AsyncGenerator = refl
its_own _ = refl

lean_method : (f : Form) (ps : Parts) → is_lean (node FunctionExpression [] (method_flags f) 0 0 ps) ≡ true
lean_method Generator ps = refl
lean_method Async ps = refl
lean_method AsyncGenerator ps = refl
lean_method _ ps = refl

-- the function of a method, a getter or a setter
pub one_method : (f : Form) → OneKind (method f) FunctionExpression (method_flags f) (method_pieces f)
unfolding spellings
one_method f = record {
  position = record { spans = λ t l. refl; settles = λ x. refl; fitting = λ x. refl; ungrouped = λ y i f e. cc; unnamed = (λ e. cc, λ e. cc) };
  only = only_one;
  there = λ ps h. in_true [] (is_function_at f (function_of f)) (its_own f) (method_there f ps h);
  textless = refl;
  flagged = λ w g ps x h. cases {ys = []} (is_function_at f g.form) h (λ e k. ap (λ z. record plain { form = z }) (form_is f g.form e)) (λ e k. elim k [ ]);
  lean = lean_method f;
}
  where
    only_one : (k' : Kind) (w : List ℕ) (g : Flags) (ps : Parts) (x : Spelling) → Among x (spellings (method f) (node k' w g 0 0 ps)) → (k' ≡ FunctionExpression) × (x.pieces ≡ method_pieces f ps)
    only_one FunctionExpression w g ps x h = cases {ys = []} (is_function_at f g.form) h (λ e k. (refl, method_way f ps k)) (λ e k. elim k [ ])
    only_one _ w g ps x h = elim h [ ]

-- a declarator
pub one_declarator : (i b : Bool) → OneKind (declarator i b) VariableDeclarator plain (declarator_pieces i b)
unfolding spellings
one_declarator i b = record {
  position = record { spans = λ t l. refl; settles = λ x. refl; fitting = λ x. refl; ungrouped = λ y i f e. cc; unnamed = (λ e. cc, λ e. cc) };
  only = only_one;
  there = λ ps h. declarator_there i b ps h;
  textless = refl;
  flagged = λ w g ps x h. refl;
  lean = λ ps. refl;
}
  where
    only_one : (k' : Kind) (w : List ℕ) (g : Flags) (ps : Parts) (x : Spelling) → Among x (spellings (declarator i b) (node k' w g 0 0 ps)) → (k' ≡ VariableDeclarator) × (x.pieces ≡ declarator_pieces i b ps)
    only_one VariableDeclarator w g ps x h = (refl, declarator_way i b ps h)
    only_one _ w g ps x h = elim h [ ]
