-- Leftmost parts that begin with `async`: functions and arrows (ECMA-262 15.8, 15.9 of the 13th edition).
use Rattle.std.proofs.Common.{◌≡◌, ℕ, suc, ◌≤◌, Bool, true, false, cond, List, [], ◌∷◌, ◌++◌, refl, sym, ap, ◌∙◌, subst, arith, inr}
use Rattle.std.specs.Prelude.{IsTrue, codes}
use Rattle.std.proofs.lemmas.Bool.{false≢true}
use Rattle.tokens.specs.declared.token.TokenClass.TheVariants.{IdentifierName, Punctuator}
use Rattle.tokens.specs.declared.token.Goal.{Goal}
use Rattle.tree.specs.declared.kind.Kind.{Kind}
use Rattle.tree.specs.declared.kind.Kind.TheVariants.{FunctionExpression, ArrowFunctionExpression}
use Rattle.tree.specs.declared.kind.Flags.{Flags}
use Rattle.tree.specs.declared.kind.Form.{Form}
use Rattle.tree.specs.declared.kind.Form.TheVariants.{Async, AsyncGenerator}
use Rattle.tree.specs.declared.kind.Pair.{Pair}
use Rattle.tree.specs.Tree.{Tree, node, Parts, none, part, gap, height, parts_height, bare, bare_parts, kind_of, plain, join}
use Rattle.tree.proofs.Shapes.{parts_height-join}
use Rattle.tree.specs.Uses.{is_lean, is_async}
use Rattle.tree.proofs.Lean.{lean_flags, lean_text}
use Rattle.language.specs.declared.Rank.{Rank}
use Rattle.language.specs.declared.Rank.TheVariants.{Expression, Assignment, Primary}
use Rattle.language.specs.declared.Start.{Start}
use Rattle.language.specs.declared.Start.TheVariants.{Any, NoBrace, Statement}
use Rattle.language.specs.declared.Edge.TheVariants.{Other}
use Rattle.language.specs.Vocabulary.{is, takes, is_reserved, is_identifier}
use Rattle.language.specs.Pieces.{expr, name, body, Piece, sub, tail, put, sign, term, at, parameters}
use Rattle.language.specs.Expressions.{async_word, arrow_end, function_pieces}
use Rattle.language.specs.Token.{Token}
use Rattle.language.specs.Edges.{edge, edge_as_written, last_edge}
use Rattle.language.specs.ExpressionStart.{with_name, expression_start}
use Rattle.language.specs.Promises.{IsDetermined, ReadBy, Stops}
use Rattle.language.specs.Following.{IsAlike}
use Rattle.language.specs.Grammar.{ways, starts}
use Rattle.language.specs.Derivation.{Reads, Spells, Runs, step, token, laid, same_line, within, Placed}
use Rattle.language.proofs.table.NodeForms.{function, arrow, short_arrow}
use Rattle.language.proofs.table.Productions.{spell}
use Rattle.language.proofs.table.Begins.{goes_to, retell}
use Rattle.language.proofs.table.FixedPieces.{same_pieces}
use Rattle.language.proofs.table.TokenFirstWays.{BehindAsync, async_function, async_name, async_parameters, function_rest, head_identifier, head_short_arrow, head_async}
use Rattle.language.proofs.table.Reaches.{is_loose, loose_of}
use Rattle.language.proofs.table.Tails.{tails_assign}
use Rattle.language.proofs.climbing.LeftmostParts.{Cored, in_way, core_by}
use Rattle.language.proofs.climbing.RightOperands.{OnePart, one_part}
use Rattle.language.proofs.climbing.OperatorNodes.{last_runs}
use Rattle.language.proofs.climbing.Commas.{last_edge_join}
use Rattle.language.proofs.list_loops.FirstPieces.{run_none, run_token, run_laid, run_unbroken, run_part}
use Rattle.language.proofs.list_loops.ParameterLists.{parameter_list, parameters_split, parameters_join, function_closer}
use Rattle.language.proofs.climbing.OperatorLoop.{grows_height}
use Rattle.language.proofs.climbing.BinaryTurns.{same_node, replaced, same_places}
use Rattle.language.proofs.climbing.Conditionals.{same_sign}
use Rattle.language.proofs.climbing.FirstTurn.{Begun, climb_start, begun_stops}
use Rattle.language.proofs.climbing.Arrows.{ArrowBody, as_expression, as_block}
use Rattle.language.proofs.climbing.NamesBehind.{apart_inside, no_function_behind, no_arrow_behind}
use Rattle.language.proofs.climbing.Leaves.{by_name, core_primary, name_form}
use Rattle.language.proofs.climbing.SingleStarts.{form_flags, function_parts, fixed_function}
use Rattle.language.proofs.covers.CoverReadings.{name_or_sign}
use Rattle.language.proofs.table.ForDeclarationWays.{two_signs}
use Rattle.unambiguity_laws.proofs.Unique.{Unique, UniqueParts, Climbed}
use Rattle.unambiguity_laws.proofs.cores.ArrowBodies.{arrow_body}
use Rattle.unambiguity_laws.proofs.cores.AsyncCalls.{no_arrow_call}
use Rattle.unambiguity_laws.proofs.statements.FunctionBodies.{name_unique}
use Rattle.unambiguity_laws.proofs.statements.FunctionForms.{names_same, function_words, functions_same}

-- the flags of an async arrow
abbrev pub async_flags : Bool → Flags
async_flags b = record plain { expression = b; form = Async }

async_lean : (b : Bool) (st en : ℕ) (ps : Parts) → is_lean (bare (node ArrowFunctionExpression [] (async_flags b) st en ps)) ≡ true
async_lean true st en ps = refl
async_lean false st en ps = refl

function_lean : (z : Form) (st en : ℕ) (ps : Parts) → is_async z ≡ true → is_lean (bare (node FunctionExpression [] (form_flags z) st en ps)) ≡ true
function_lean Async st en ps h = refl
function_lean AsyncGenerator st en ps h = refl
function_lean _ st en ps h = cc

async_words : (z : Form) (ps : Parts) → is_async z ≡ true → async_word ++ term "function" ∷ function_rest z ps ≡ function_pieces z ps
async_words Async ps h = refl
async_words AsyncGenerator ps h = refl
async_words _ ps h = cc

starts_name : (f : Start) (qs : List Piece) → IsTrue (starts f (async_word ++ put name ∷ qs))
starts_name Any qs = refl
starts_name NoBrace qs = refl
starts_name Statement qs = refl

starts_parenthesis : (f : Start) (qs : List Piece) → IsTrue (starts f (async_word ++ sign "(" ∷ qs))
starts_parenthesis Any qs = refl
starts_parenthesis NoBrace qs = refl
starts_parenthesis Statement qs = refl

function_reserved : is_reserved (codes "function") ≡ true
unfolding is_reserved
function_reserved = refl

joined_edge : (ps : Parts) (n : Tree) → last_edge (join ps (part n none)) ≡ edge n
joined_edge none n = refl
joined_edge (part m ps) n = last_edge_join ps n m
joined_edge (gap ps) n = joined_edge ps n

-- the right edge of an arrow with an expression
arrow_edge : (st en : ℕ) (ps : Parts) (n : Tree) (c : Bool) → c ≡ true → edge (node ArrowFunctionExpression [] (async_flags c) st en (join ps (part n none))) ≡ edge n
arrow_edge st en ps n true e = joined_edge ps n
arrow_edge st en ps n false e = cc

module _ (S : Type 0) (Next : S → Token → S → Type 0) (behind : S → Token) (det : IsDetermined S Next behind) where
  -- what stands behind `async` in an arrow: a name, or parameters in parentheses
  pub data Parameters (o : ℕ) (x z : S) : Parts → List Pair → Type 0 where
    a_name : {n : Tree} {t : Token} {P : List Pair} {w : List ℕ} → Spells ways S Next behind o name n x z P → Reads S Next behind IdentifierName w x t z → is_reserved w ≡ false → t.after_break ≡ false → Parameters o x z (part n none) P
    in_parentheses : {ps : Parts} {t : Token} {k : S} {R : List Pair} → Reads S Next behind Punctuator (codes "(") x t k → t.after_break ≡ false → Runs ways S Next behind o (parameter_list ps) ps k z R → Parameters o x z ps R

  pub record Arrow (o : ℕ) (q : Rank) (j : Bool) (f : Start) (m : Tree) (s0 x mid : S) (Q : List Pair) : Type 0 where
    pub st : ℕ
    pub en : ℕ
    pub given : Parts
    pub operand : Tree
    pub flag : Bool
    pub z : S
    pub x2 : S
    pub sign_read : Token
    pub one : List Pair
    pub more : List Pair
    pub parameters_are : Parameters o x z given one
    pub reads : Reads S Next behind Punctuator (codes "=>") z sign_read x2
    pub line : sign_read.after_break ≡ false
    pub spelled : Spells ways S Next behind o (cond flag (expr Assignment j NoBrace) body) operand x2 mid more
    pub tree : m ≡ node ArrowFunctionExpression [] (async_flags flag) st en (join given (part operand none))
    pub stands : IsTrue (takes q Assignment)
    pub placed : Placed S Next behind (expr q j f) m s0 mid
    pub pairs : Q ≡ one ++ more

  pub record Function (o : ℕ) (q : Rank) (j : Bool) (f : Start) (m : Tree) (s0 x mid : S) (Q : List Pair) : Type 0 where
    pub st : ℕ
    pub en : ℕ
    pub form : Form
    pub parts : Parts
    pub sign_read : Token
    pub k : S
    pub asynchronous : is_async form ≡ true
    pub starting : IsTrue (starts f (function_pieces form (bare_parts parts)))
    pub word : Reads S Next behind IdentifierName (codes "function") x sign_read k
    pub line : sign_read.after_break ≡ false
    pub runs : Runs ways S Next behind o (function_parts form parts) parts s0 mid Q
    pub tree : m ≡ node FunctionExpression [] (form_flags form) st en parts
    pub stands : IsTrue (takes q Primary)
    pub placed : Placed S Next behind (expr q j f) m s0 mid

  pub data Part (o : ℕ) (q : Rank) (j : Bool) (f : Start) (m : Tree) (s0 x mid : S) (Q : List Pair) : Type 0 where
    a_function : Function o q j f m s0 x mid Q → Part o q j f m s0 x mid Q
    an_arrow : Arrow o q j f m s0 x mid Q → Part o q j f m s0 x mid Q

  module _ {s0 x : S} {t : Token} (r : ReadBy S Next behind Goal.RegExp s0 t x) (class : t.class ≡ IdentifierName) (word : t.text ≡ codes "async") where
    body_part : {o : ℕ} (q : Rank) (j : Bool) (f : Start) {s e : S} {ps : Parts} {P : List Pair} (b : Bool) → Runs ways S Next behind o (goes_to q j f (cond b (sub (tail Assignment NoBrace)) (put body) ∷ [])) ps s e P → OnePart S Next behind det o (cond b (expr Assignment j NoBrace) body) ps s e P
    body_part q j f true d = one_part S Next behind det d
    body_part q j f false d = one_part S Next behind det d

    -- it is one of these
    pub part_of : {o : ℕ} (q : Rank) (j : Bool) (f : Start) {m : Tree} {k : Kind} {w : List ℕ} {g : Flags} {st en : ℕ} {ps : Parts} {rest : List Piece} {mid : S} {Q : List Pair} → m ≡ node k w g st en ps → is_lean (bare m) ≡ true → Placed S Next behind (expr q j f) m s0 mid → IsTrue (takes q Primary) → BehindAsync q g (bare_parts ps) k rest → IsTrue (starts f (async_word ++ rest)) →
        Runs ways S Next behind o (goes_to q j f (async_word ++ rest)) ps s0 mid Q → Part o q j f m s0 x mid Q
    part_of q j f {w = w} {g = g} {st = st} {en = en} {ps = ps} is lean pl tk (async_function z) start d =
        let bares : is_lean (bare (node FunctionExpression w g st en ps)) ≡ true = ap (λ v. is_lean (bare v)) (sym is) ∙ lean in
        let a = run_token S Next behind d in
        let here = (by_name S Next behind det r a.sign a.mid a.reads).1 in
        let b = run_unbroken S Next behind a.runs in
        let c = run_token S Next behind (run_laid S Next behind b.runs) in
        a_function (record {
          st = st;
          en = en;
          form = g.form;
          parts = ps;
          sign_read = c.sign;
          k = c.mid;
          asynchronous = z;
          starting = subst (λ v. IsTrue (starts f v)) (async_words g.form (bare_parts ps) z) start;
          word = subst (λ v. Reads S Next behind IdentifierName (codes "function") v c.sign c.mid) here c.reads;
          line = det.break a.mid c.sign b.sign c.mid b.mid c.reads.next b.next ∙ b.unbroken;
          runs = retell S Next behind (ap (goes_to q j f) (async_words g.form (bare_parts ps) z) ∙ same_pieces q Expression j true f Any (fixed_function g.form (bare_parts ps))) d;
          tree = is ∙ same_node refl (lean_text (bare (node FunctionExpression w g st en ps)) bares refl) (lean_flags (bare (node FunctionExpression w g st en ps)) bares) refl refl refl;
          stands = tk;
          placed = pl;
        })
    part_of {o} q j f {w = w} {g = g} {st = st} {en = en} {ps = ps} is lean pl tk0 (async_name z p i tk) start d =
        let bares : is_lean (bare (node ArrowFunctionExpression w g st en ps)) ≡ true = ap (λ v. is_lean (bare v)) (sym is) ∙ lean in
        let a = run_token S Next behind d in
        let here = (by_name S Next behind det r a.sign a.mid a.reads).1 in
        let b = run_unbroken S Next behind a.runs in
        let c = run_part S Next behind (run_laid S Next behind b.runs) in
        let v = name_form S Next behind det c.spelled in
        let l = run_unbroken S Next behind c.runs in
        let e = run_token S Next behind (run_laid S Next behind l.runs) in
        let y = body_part q j f g.expression (run_laid S Next behind e.runs) in
        an_arrow (record {
          st = st;
          en = en;
          given = part c.item none;
          operand = y.operand;
          flag = g.expression;
          z = c.mid;
          x2 = e.mid;
          sign_read = e.sign;
          one = c.one;
          more = c.more;
          parameters_are = a_name (subst (λ k. Spells ways S Next behind o name c.item k c.mid c.one) here c.spelled) (subst (λ k. Reads S Next behind IdentifierName v.0.text k v.0.sign c.mid) here v.0.reads) v.1 (det.break a.mid v.0.sign b.sign c.mid b.mid v.0.reads.next b.next ∙ b.unbroken);
          reads = e.reads;
          line = det.break c.mid e.sign l.sign e.mid l.mid e.reads.next l.next ∙ l.unbroken;
          spelled = y.spelled;
          tree = is ∙ same_node refl (lean_text (bare (node ArrowFunctionExpression w g st en ps)) bares refl) (lean_flags (bare (node ArrowFunctionExpression w g st en ps)) bares ∙ ap (λ (c : Form). record (async_flags g.expression) { form = c }) z) refl refl (c.parts ∙ ap (part c.item) y.parts);
          stands = tk;
          placed = pl;
          pairs = c.pairs;
        })
    part_of {o} q j f {w = w} {g = g} {st = st} {en = en} {ps = ps} is lean pl tk0 (async_parameters z tk) start d =
        let bares : is_lean (bare (node ArrowFunctionExpression w g st en ps)) ≡ true = ap (λ v. is_lean (bare v)) (sym is) ∙ lean in
        let a = run_token S Next behind d in
        let here = (by_name S Next behind det r a.sign a.mid a.reads).1 in
        let b = run_unbroken S Next behind a.runs in
        let c = run_token S Next behind (run_laid S Next behind b.runs) in
        let v = parameters_split S Next behind (arrow_end g) (function_closer S Next behind q j f o) ps c.runs in
        let l = run_unbroken S Next behind v.runs in
        let e = run_token S Next behind (run_laid S Next behind l.runs) in
        let y = body_part q j f g.expression (run_laid S Next behind e.runs) in
        an_arrow (record {
          st = st;
          en = en;
          given = v.given;
          operand = y.operand;
          flag = g.expression;
          z = v.mid;
          x2 = e.mid;
          sign_read = e.sign;
          one = v.one;
          more = v.more;
          parameters_are = in_parentheses (subst (λ k. Reads S Next behind Punctuator (codes "(") k c.sign c.mid) here c.reads) (det.break a.mid c.sign b.sign c.mid b.mid c.reads.next b.next ∙ b.unbroken) v.list;
          reads = e.reads;
          line = det.break v.mid e.sign l.sign e.mid l.mid e.reads.next l.next ∙ l.unbroken;
          spelled = y.spelled;
          tree = is ∙ same_node refl (lean_text (bare (node ArrowFunctionExpression w g st en ps)) bares refl) (lean_flags (bare (node ArrowFunctionExpression w g st en ps)) bares ∙ ap (λ (c : Form). record (async_flags g.expression) { form = c }) z) refl refl (v.parts ∙ ap (join v.given) y.parts);
          stands = tk;
          placed = pl;
          pairs = v.pairs;
        })

    -- the body that is an expression can't go on
    body_stops : {o : ℕ} {y : Rank} {i : Bool} {f : Start} {n : Tree} {e : S} {P : List Pair} {q : Rank} {j : Bool} {m : Tree} {mid : S} {Q : List Pair} → Begun S Next behind det o s0 y i f n e P q j m mid Q → (a : Arrow o q j f m s0 x mid Q) → a.flag ≡ true → Stops S Next behind Assignment j a.operand mid
    body_stops {j = j} {mid = mid} b a is = begun_stops S Next behind det Assignment Assignment j a.operand tails_assign (λ l. omega arith) a.stands (λ k. refl) (ap (λ c. edge_as_written (edge c) (behind mid)) a.tree ∙ ap (λ c. edge_as_written c (behind mid)) (arrow_edge a.st a.en a.given a.operand a.flag is)) b

    -- an arrow is spelled at each position that takes it
    arrow_spells : {o : ℕ} {q h' : Rank} {j : Bool} {f : Start} {m : Tree} {mid : S} {Q : List Pair} → (a : Arrow o q j f m s0 x mid Q) → IsTrue (takes h' Assignment) → Placed S Next behind (expr h' j f) (node ArrowFunctionExpression [] (async_flags a.flag) a.st a.en (join a.given (part a.operand none))) s0 mid →
        Spells ways S Next behind o (expr h' j f) (node ArrowFunctionExpression [] (async_flags a.flag) a.st a.en (join a.given (part a.operand none))) s0 mid (a.one ++ a.more)
    arrow_spells {o} {h' = h'} {j} {f} {mid = mid} a tk pl = of a.given a.one a.parameters_are pl
      where
        ending_runs : Runs ways S Next behind o (goes_to h' j f (arrow_end (async_flags a.flag))) (part a.operand none) a.z mid a.more
        ending_runs = step (same_line a.reads.next a.line) (step laid (step (token a.reads) (step laid (last a.flag a.spelled))))
          where
            last : (b : Bool) {n : Tree} {s e : S} {P : List Pair} → Spells ways S Next behind o (cond b (expr Assignment j NoBrace) body) n s e P → Runs ways S Next behind o (goes_to h' j f (cond b (sub (tail Assignment NoBrace)) (put body) ∷ [])) (part n none) s e P
            last true d = last_runs S Next behind d
            last false d = last_runs S Next behind d

        first_token : Reads S Next behind IdentifierName (codes "async") s0 t x
        first_token = record { next = r.next; class = class; text = word }

        of : (ps : Parts) (R : List Pair) → Parameters o x a.z ps R → Placed S Next behind (expr h' j f) (node ArrowFunctionExpression [] (async_flags a.flag) a.st a.en (join ps (part a.operand none))) s0 mid →
            Spells ways S Next behind o (expr h' j f) (node ArrowFunctionExpression [] (async_flags a.flag) a.st a.en (join ps (part a.operand none))) s0 mid (R ++ a.more)
        of _ R (a_name {n = n} d v free line) pl =
            spell S Next behind (at Assignment (async_word ++ put name ∷ arrow_end (async_flags a.flag))) (short_arrow (named n d)) (async_lean a.flag a.st a.en (part n (part a.operand none))) tk refl (starts_name f (arrow_end (async_flags a.flag))) pl (step (token first_token) (step (same_line v.next line) (step laid (within d ending_runs))))
          where
            named : (n : Tree) {s e : S} {P : List Pair} → Spells ways S Next behind o name n s e P → is_identifier (kind_of (bare n)) ≡ true
            named n d = ap (λ c. is_identifier (kind_of (bare c))) (name_form S Next behind det d).0.tree
        of ps R (in_parentheses v line d) pl =
            spell S Next behind (at Assignment (async_word ++ sign "(" ∷ parameters (sign ")" ∷ arrow_end (async_flags a.flag)) (bare_parts (join ps (part a.operand none))))) arrow (async_lean a.flag a.st a.en (join ps (part a.operand none))) tk refl
            (starts_parenthesis f (parameters (sign ")" ∷ arrow_end (async_flags a.flag)) (bare_parts (join ps (part a.operand none))))) pl
            (step (token first_token) (step (same_line v.next line) (step laid (step (token v) (parameters_join S Next behind (arrow_end (async_flags a.flag)) (function_closer S Next behind h' j f o) ps d ending_runs)))))

module _ (S : Type 0) (Next : S → Token → S → Type 0) (behind : S → Token) (det : IsDetermined S Next behind) (alike : IsAlike S Next behind) {h : ℕ} (u : Unique S Next behind det h) (listed : UniqueParts S Next behind det h parameter_list) where
  -- an arrow's parameters are the only ones behind `async`
  parameters_same : {o o' : ℕ} {x z z' : S} {ps qs : Parts} {P Q : List Pair} → parts_height ps ≤ h → Parameters S Next behind det o x z ps P → Parameters S Next behind det o' x z' qs Q → (z' ≡ z) × (qs ≡ ps) × (Q ≡ P)
  parameters_same {o' = o'} {z' = z'} {Q = Q} low (a_name d r free line) (a_name {n = m} d' r' free' line') =
      let same = (name_unique S Next behind det d).only o' z' m Q d' in
      (same.0, ap (λ c. part c none) same.1, same.2)
  parameters_same low (a_name d r free line) (in_parentheses r' line' d') = absurd (name_or_sign S Next behind det refl r r')
  parameters_same low (in_parentheses r line d) (a_name d' r' free' line') = absurd (name_or_sign S Next behind det refl r' r)
  parameters_same {o' = o'} {z' = z'} {qs = qs} {Q = Q} low (in_parentheses r line d) (in_parentheses r' line' d') =
      (listed.gives low d).only o' z' qs Q (subst (λ c. Runs ways S Next behind o' (parameter_list qs) qs c z' Q) (same_sign S Next behind det r' r refl).1 d')

  -- so is the body
  body_same : {o o' : ℕ} {i b : Bool} {x mid mid' : S} {w w' : Tree} {P Q : List Pair} → ArrowBody S Next behind det o i x mid w P b → (c : Bool) → Spells ways S Next behind o' (cond c (expr Assignment i NoBrace) body) w' x mid' Q → (c ≡ true → Stops S Next behind Assignment i w' mid') →
      (mid' ≡ mid) × (w' ≡ w) × (Q ≡ P) × (c ≡ b)
  body_same {o' = o'} {mid' = mid'} {w' = w'} {Q = Q} (as_expression found other) true d st = let same = found.only o' mid' w' Q d (st refl) in (same.0, same.1, same.2, refl)
  body_same {o' = o'} {mid' = mid'} {w' = w'} {Q = Q} (as_expression found other) false d st = absurd (other.nothing o' mid' w' Q d)
  body_same {o' = o'} {mid' = mid'} {w' = w'} {Q = Q} (as_block found other) true d st = absurd (other.nothing o' mid' w' Q d (st refl))
  body_same {o' = o'} {mid' = mid'} {w' = w'} {Q = Q} (as_block found other) false d st = let same = found.only o' mid' w' Q d in (same.0, same.1, same.2, refl)

  module _ {s0 x : S} {t : Token} (r : ReadBy S Next behind Goal.RegExp s0 t x) (class : t.class ≡ IdentifierName) (word : t.text ≡ codes "async") (op : expression_start t ≡ with_name) where
    no_function_arrow : {A : Type 0} {o : ℕ} {k z : S} {v : Token} {ps : Parts} {P : List Pair} → Reads S Next behind IdentifierName (codes "function") x v k → Parameters S Next behind det o x z ps P → A
    no_function_arrow f (a_name d n free line) = absurd (false≢true (sym free ∙ ap is_reserved (names_same S Next behind det n f).0 ∙ function_reserved))
    no_function_arrow f (in_parentheses n line d) = absurd (name_or_sign S Next behind det refl f n)

    -- no `=>` is read behind `async` itself there
    no_arrow_alone : {A : Type 0} {o : ℕ} {q : Rank} {j : Bool} {f : Start} {m : Tree} {mid k : S} {Q : List Pair} {v : Token} → Part S Next behind det o q j f m s0 x mid Q → Reads S Next behind Punctuator (codes "=>") x v k → A
    no_arrow_alone (a_function p) eq = absurd (name_or_sign S Next behind det refl p.word eq)
    no_arrow_alone (an_arrow p) eq = of p.parameters_are eq
      where
        of : {A : Type 0} {o : ℕ} {z k : S} {v : Token} {ps : Parts} {P : List Pair} → Parameters S Next behind det o x z ps P → Reads S Next behind Punctuator (codes "=>") x v k → A
        of (a_name d n free line) eq = absurd (name_or_sign S Next behind det refl n eq)
        of (in_parentheses n line d) eq = absurd (false≢true (ap (λ w. is w "(") (two_signs S Next behind det refl refl eq n).0))

    -- nor is `async` a name there
    no_name_alone : {A : Type 0} {o o' : ℕ} {y : Rank} {i : Bool} {f f' : Start} {n : Tree} {e : S} {P : List Pair} {q q' : Rank} {j j' : Bool} {m m' : Tree} {mid mid' : S} {Q Q' : List Pair} → Part S Next behind det o q j f m s0 x mid Q → (IsTrue (takes q Assignment) → IsTrue (takes y Assignment)) → height m ≤ suc h →
        Begun S Next behind det o' s0 y i f' n e P q' j' m' mid' Q' → mid' ≡ x → edge m' ≡ Other → A
    no_name_alone (a_function p) taken low b there at =
        absurd (no_function_behind S Next behind det (apart_inside S Next behind det b.grows b.stopped.apart) (subst (λ c. Reads S Next behind IdentifierName (codes "function") c p.sign_read p.k) (sym there) p.word) p.line)
    no_name_alone {o = o} {m = m} (an_arrow p) taken low b there at = of p.parameters_are p.reads p.line (taken p.stands) lower b there at
      where
        high : height m ≡ suc (parts_height (join p.given (part p.operand none)))
        high = ap height p.tree

        lower : parts_height p.given ≤ h
        lower = let v = parts_height-join p.given (part p.operand none) in let w = high in omega arith

        of : {A : Type 0} {o' : ℕ} {y : Rank} {i : Bool} {f' : Start} {n : Tree} {e : S} {P : List Pair} {q' : Rank} {j' : Bool} {m' : Tree} {mid' z k : S} {Q' R : List Pair} {ps : Parts} {a : Token} → Parameters S Next behind det o x z ps R → Reads S Next behind Punctuator (codes "=>") z a k → a.after_break ≡ false → IsTrue (takes y Assignment) →
            parts_height ps ≤ h → Begun S Next behind det o' s0 y i f' n e P q' j' m' mid' Q' → mid' ≡ x → edge m' ≡ Other → A
        of {z = z} (a_name {t = v} {w = w} d n free line) eq on tk low b there at = absurd (no_arrow_behind S Next behind det (apart_inside S Next behind det b.grows b.stopped.apart) (subst (λ c. Reads S Next behind IdentifierName w c v z) (sym there) n) free line eq)
        of (in_parentheses {t = v} {k = k1} n line d) eq on tk low b there at = absurd (no_arrow_call S Next behind det alike u (inr low) b tk at (subst (λ c. Reads S Next behind Punctuator (codes "(") c v k1) (sym there) n) d eq on)

    -- so what else begins there is one of these too
    others : {o o' : ℕ} {y : Rank} {i : Bool} {f f' : Start} {n : Tree} {e : S} {P : List Pair} {q q' : Rank} {j j' : Bool} {m m' : Tree} {mid mid' : S} {Q Q' : List Pair} → Part S Next behind det o q j f m s0 x mid Q → (IsTrue (takes q Assignment) → IsTrue (takes y Assignment)) → height m ≤ suc h →
        Begun S Next behind det o' s0 y i f' n e P q' j' m' mid' Q' → Part S Next behind det o' q' j' f' m' s0 x mid' Q'
    others {o' = o'} {y} {i} {f' = f'} {n} {e} {P} {q' = q'} {j' = j'} {m' = m'} {mid' = mid'} {Q' = Q'} p taken low b = of (core_by S Next behind det r op b.core) (core_primary S Next behind det b.core r (λ c. (let z = sym c ∙ op in cc)))
      where
        of : Cored S Next behind det o' q' j' f' m' s0 mid' Q' with_name → IsTrue (takes q' Primary) → Part S Next behind det o' q' j' f' m' s0 x mid' Q'
        of (in_way {w = w} {g = g} {st = st} {en = en} {ps = ps} is (head_identifier k c v) lean pl d) tk =
            let a = run_token S Next behind (retell S Next behind v d) in
            let z = run_none S Next behind a.runs in
            no_name_alone p taken low b (sym z.place ∙ (by_name S Next behind det r a.sign a.mid a.reads).1) (ap edge (is ∙ ap (λ c. node c w g st en ps) k))
        of (in_way is (head_short_arrow k z c nm tk' v) lean pl d) tk =
            let a = run_part S Next behind (retell S Next behind v d) in
            let w = (name_form S Next behind det a.spelled).0 in
            let l = run_unbroken S Next behind a.runs in
            let e = run_token S Next behind (run_laid S Next behind l.runs) in
            no_arrow_alone p (subst (λ c. Reads S Next behind Punctuator (codes "=>") c e.sign e.mid) (by_name S Next behind det r w.sign a.mid w.reads).1 e.reads)
        of (in_way is (head_async k st v) lean pl d) tk = part_of S Next behind det r class word q' j' f' is lean pl tk k st (retell S Next behind v d)

    module _ {o : ℕ} {y : Rank} {i : Bool} {f : Start} {n : Tree} {e : S} {P : List Pair} {q : Rank} {j : Bool} {m : Tree} {mid : S} {Q : List Pair} (low : height n ≤ suc h) (b : Begun S Next behind det o s0 y i f n e P q j m mid Q) where
      below : height m ≤ suc h
      below = let v = grows_height S Next behind det b.grows in omega arith

      function_climbed : Function S Next behind det o q j f m s0 x mid Q → Climbed S Next behind det o y i f s0 m mid Q
      function_climbed p = record { symbol = Primary; climbing = climb_start S Next behind det (b.reached.taken Primary p.stands) stands alone }
        where
          high : height m ≡ suc (parts_height p.parts)
          high = ap height p.tree

          lower : parts_height p.parts ≤ h
          lower = let v = high in let w = below in omega arith

          stands : (h' : Rank) (j' : Bool) → IsTrue (takes h' Primary) → (is_loose h' ≡ true → j' ≡ i) → Spells ways S Next behind o (expr h' j' f) m s0 mid Q
          stands h' j' tk lo =
              subst (λ v. Spells ways S Next behind o (expr h' j' f) v s0 mid Q) (sym p.tree)
              (spell S Next behind (at Primary (function_pieces p.form (bare_parts p.parts))) function (function_lean p.form p.st p.en p.parts p.asynchronous) tk refl p.starting (replaced S Next behind det (subst (λ v. Placed S Next behind (expr q j f) v s0 mid) p.tree p.placed))
              (retell S Next behind (same_pieces Expression h' true j' Any f (fixed_function p.form (bare_parts p.parts))) p.runs))

          alone : (o' : ℕ) (n' : Tree) (e' : S) (P' : List Pair) (h' : Rank) (j' : Bool) (m' : Tree) (mid' : S) (Q' : List Pair) → Begun S Next behind det o' s0 y i f n' e' P' h' j' m' mid' Q' → (mid' ≡ mid) × (m' ≡ m) × (Q' ≡ Q) × IsTrue (takes h' Primary)
          alone o' n' e' P' h' j' m' mid' Q' b' = of (others (a_function p) (b.reached.taken Assignment) below b')
            where
              of : Part S Next behind det o' h' j' f m' s0 x mid' Q' → (mid' ≡ mid) × (m' ≡ m) × (Q' ≡ Q) × IsTrue (takes h' Primary)
              of (an_arrow w) = no_function_arrow p.word w.parameters_are
              of (a_function w) =
                  let same = functions_same S Next behind det alike u listed lower (function_words S Next behind det p.form p.runs) (function_words S Next behind det w.form w.runs) in
                  let span = same_places S Next behind det (subst (λ v. Placed S Next behind (expr h' j' f) v s0 mid') w.tree w.placed) (subst (λ v. Placed S Next behind (expr q j f) v s0 mid) p.tree p.placed) same.1 in
                  (same.1, w.tree ∙ same_node refl refl (ap form_flags same.0) span.0 span.1 same.2 ∙ sym p.tree, same.3, w.stands)

      arrow_climbed : Arrow S Next behind det o q j f m s0 x mid Q → Climbed S Next behind det o y i f s0 m mid Q
      arrow_climbed p = record { symbol = Assignment; climbing = climb_start S Next behind det (b.reached.taken Assignment p.stands) stands alone }
        where
          high : height m ≡ suc (parts_height (join p.given (part p.operand none)))
          high = ap height p.tree

          lower : parts_height p.given ≤ h
          lower = let v = parts_height-join p.given (part p.operand none) in let w = high in let z = below in omega arith

          body_low : height p.operand ≤ h
          body_low = let v = parts_height-join p.given (part p.operand none) in let w = high in let z = below in omega arith

          inside : j ≡ i
          inside = (b.reached.same_in (loose_of q Assignment p.stands refl)).1

          arrow_ends : ArrowBody S Next behind det o i p.x2 mid p.operand p.more p.flag
          arrow_ends = arrow_body S Next behind det alike u p.flag body_low (subst (λ c. Spells ways S Next behind o (cond p.flag (expr Assignment c NoBrace) body) p.operand p.x2 mid p.more) inside p.spelled) (λ is. subst (λ c. Stops S Next behind Assignment c p.operand mid) inside (body_stops S Next behind det r class word b p is))

          stands : (h' : Rank) (j' : Bool) → IsTrue (takes h' Assignment) → (is_loose h' ≡ true → j' ≡ i) → Spells ways S Next behind o (expr h' j' f) m s0 mid Q
          stands h' j' tk lo =
              let there : j ≡ j' = inside ∙ sym (lo (loose_of h' Assignment tk refl)) in
              subst (λ c. Spells ways S Next behind o (expr h' c f) m s0 mid Q) there
              (subst (λ v. Spells ways S Next behind o (expr h' j f) v s0 mid Q) (sym p.tree)
              (subst (λ v. Spells ways S Next behind o (expr h' j f) (node ArrowFunctionExpression [] (async_flags p.flag) p.st p.en (join p.given (part p.operand none))) s0 mid v) (sym p.pairs)
              (arrow_spells S Next behind det r class word p tk (replaced S Next behind det (subst (λ v. Placed S Next behind (expr q j f) v s0 mid) p.tree p.placed)))))

          alone : (o' : ℕ) (n' : Tree) (e' : S) (P' : List Pair) (h' : Rank) (j' : Bool) (m' : Tree) (mid' : S) (Q' : List Pair) → Begun S Next behind det o' s0 y i f n' e' P' h' j' m' mid' Q' → (mid' ≡ mid) × (m' ≡ m) × (Q' ≡ Q) × IsTrue (takes h' Assignment)
          alone o' n' e' P' h' j' m' mid' Q' b' = of (others (an_arrow p) (b.reached.taken Assignment) below b')
            where
              of : Part S Next behind det o' h' j' f m' s0 x mid' Q' → (mid' ≡ mid) × (m' ≡ m) × (Q' ≡ Q) × IsTrue (takes h' Assignment)
              of (a_function w) = no_function_arrow w.word p.parameters_are
              of (an_arrow w) =
                  let head = parameters_same lower p.parameters_are w.parameters_are in
                  let sign_same = (same_sign S Next behind det (subst (λ c. Reads S Next behind Punctuator (codes "=>") c w.sign_read w.x2) head.0 w.reads) p.reads refl).1 in
                  let inner : j' ≡ i = (b'.reached.same_in (loose_of h' Assignment w.stands refl)).1 in
                  let spelled = subst (λ c. Spells ways S Next behind o' (cond w.flag (expr Assignment i NoBrace) body) w.operand c mid' w.more) sign_same (subst (λ c. Spells ways S Next behind o' (cond w.flag (expr Assignment c NoBrace) body) w.operand w.x2 mid' w.more) inner w.spelled) in
                  let same = body_same arrow_ends w.flag spelled (λ is. subst (λ c. Stops S Next behind Assignment c w.operand mid') inner (body_stops S Next behind det r class word b' w is)) in
                  let span = same_places S Next behind det (subst (λ v. Placed S Next behind (expr h' j' f) v s0 mid') w.tree w.placed) (subst (λ v. Placed S Next behind (expr q j f) v s0 mid) p.tree p.placed) same.0 in
                  (same.0, w.tree ∙ same_node refl refl (ap async_flags same.3) span.0 span.1 (λ k. join (head.1 k) (part (same.1 k) none)) ∙ sym p.tree, w.pairs ∙ (λ k. head.2 k ++ same.2 k) ∙ sym p.pairs, w.stands)

      pub async_climbed : Part S Next behind det o q j f m s0 x mid Q → Climbed S Next behind det o y i f s0 m mid Q
      async_climbed (a_function p) = function_climbed p
      async_climbed (an_arrow p) = arrow_climbed p
