-- Spellings of expressions are neat.
use Rattle.std.proofs.Common.{◌≡◌, ℕ, Bool, true, false, cond, not, ◌&&◌, ◌||◌, nat_eq, List, [], ◌∷◌, ◌++◌, refl, sym, ap, ◌∙◌, subst}
use Rattle.std.specs.Prelude.{nat_le}
use Rattle.std.proofs.lemmas.Bool.{false≢true, true≢false}
use Rattle.std.proofs.lemmas.Bool.{and_from}
use Rattle.tokens.specs.declared.token.TokenClass.{TokenClass}
use Rattle.tokens.specs.declared.token.TokenClass.TheVariants.{IdentifierName, Punctuator}
use Rattle.tree.specs.declared.kind.Kind.{Kind}
use Rattle.tree.specs.declared.kind.Kind.TheVariants as kind
use Rattle.tree.specs.declared.kind.Form.{Form}
use Rattle.tree.specs.declared.kind.Form.TheVariants as form
use Rattle.tree.specs.declared.kind.Flags.{Flags}
use Rattle.tree.specs.Tree.{node, Parts, none, part, gap, kind_of, text_of}
use Rattle.language.specs.FirstPart.{lead as lead_kind, others}
use Rattle.language.specs.declared.Rank.{Rank}
use Rattle.language.specs.declared.Rank.TheVariants.{Assignment, Unary, Update, LeftHandSide, Call, Member, Exponentiation, New}
use Rattle.language.specs.declared.Start.TheVariants.{Any, NoBrace}
use Rattle.language.specs.Vocabulary.{is, is_reserved, is_name, literal_class, is_open_number, is_super, is_update_operator, is_target, is_prefix, is_word_operator, is_pattern, is_assignment, is_identifier, is_private, among, precedence, Operator, op_binary, op_power, operator_of}
use Rattle.language.specs.Pieces.{Slot, expr, name, word, private_name, tagged_quasi, body, left, lead, tail, callee, Piece, tok, unbroken, close_parameters, sub, lay, apart, loose, put, sign, term, sp, Spelling, at, is_none, argument, parameters}
use Rattle.language.specs.Expressions.{yields, expressions, arguments, in_brackets, selector, after_number, first_has_optional, member_link, call_link, chain_element, chain_parts, named as named_part, function_pieces, class_pieces, arrow_words, arrow_end, op_arrow, infix_pieces, binary_ways, logical_ways, object_part, lead_is, arrow_opening, arrow_closing}
use Rattle.language.proofs.table.NeatPieces.{Touch, fresh, apart_from, broken, solid, named, valued, closed, stated, dotted, starred, signed, echoed, Sort, rank_sort, takes_space, behind_part, behind_sign, neat, is_signed, echo_followed, is_item_touch, NeatBehind}
use Rattle.language.specs.Vocabulary.{is_update_op, operators}
use Rattle.language.proofs.table.Begins.{among_by}
use Rattle.language.proofs.table.OperatorFacts.{text_among}
use Rattle.language.proofs.table.NeatLists.{neat_listed, neat_elements, neat_argument, neat_object_part, neat_parameters, neat_sequence, neat_chunks}

pub data Neat : Bool → List Spelling → Type 0 where
  no_spelling : {b : Bool} → Neat b []
  a_spelling : {b : Bool} {x : Spelling} {xs : List Spelling} → neat b false fresh x.pieces ≡ true → Neat b xs → Neat b (x ∷ xs)

abbrev pub one : {b : Bool} {x : Spelling} → neat b false fresh x.pieces ≡ true → Neat b (x ∷ [])
one h = a_spelling h no_spelling

-- no spelling, or one
abbrev pub sole_neat : Bool → List Spelling → Bool
sole_neat b [] = true
sole_neat b (x ∷ []) = neat b false fresh x.pieces
sole_neat b (x ∷ y ∷ xs) = false

pub neat_sole : {b : Bool} (xs : List Spelling) → sole_neat b xs ≡ true → Neat b xs
neat_sole [] h = no_spelling
neat_sole (x ∷ []) h = one h
neat_sole (x ∷ y ∷ xs) h = cc

pub neat_cond : {b : Bool} (c : Bool) {xs ys : List Spelling} → (c ≡ true → Neat b xs) → (c ≡ false → Neat b ys) → Neat b (cond c xs ys)
neat_cond true h k = h refl
neat_cond false h k = k refl

-- what closes a list

pub bracket_end : NeatBehind false (sign "]" ∷ [])
bracket_end b apart_from h = refl
bracket_end b solid h = refl
bracket_end b named h = refl
bracket_end b valued h = refl
bracket_end b stated h = refl
bracket_end b closed h = refl
bracket_end b fresh h = absurd (false≢true h)
bracket_end b dotted h = absurd (false≢true h)
bracket_end b starred h = absurd (false≢true h)
bracket_end b signed h = absurd (false≢true h)
bracket_end b echoed h = absurd (false≢true h)
bracket_end b broken h = absurd (false≢true h)

pub list_brace_end : NeatBehind false (sign "}" ∷ [])
list_brace_end b apart_from h = refl
list_brace_end b solid h = refl
list_brace_end b named h = refl
list_brace_end b valued h = refl
list_brace_end b stated h = refl
list_brace_end b closed h = refl
list_brace_end b fresh h = absurd (false≢true h)
list_brace_end b dotted h = absurd (false≢true h)
list_brace_end b starred h = absurd (false≢true h)
list_brace_end b signed h = absurd (false≢true h)
list_brace_end b echoed h = absurd (false≢true h)
list_brace_end b broken h = absurd (false≢true h)

pub close_end : NeatBehind false (sign ")" ∷ [])
close_end b apart_from h = refl
close_end b solid h = refl
close_end b named h = refl
close_end b valued h = refl
close_end b stated h = refl
close_end b closed h = refl
close_end b fresh h = absurd (false≢true h)
close_end b dotted h = absurd (false≢true h)
close_end b starred h = absurd (false≢true h)
close_end b signed h = absurd (false≢true h)
close_end b echoed h = absurd (false≢true h)
close_end b broken h = absurd (false≢true h)

-- behind parameters: the body
pub body_end : NeatBehind false (sign ")" ∷ sp ∷ put body ∷ [])
body_end b apart_from h = refl
body_end b solid h = refl
body_end b named h = refl
body_end b valued h = refl
body_end b stated h = refl
body_end b closed h = refl
body_end b fresh h = absurd (false≢true h)
body_end b dotted h = absurd (false≢true h)
body_end b starred h = absurd (false≢true h)
body_end b signed h = absurd (false≢true h)
body_end b echoed h = absurd (false≢true h)
body_end b broken h = absurd (false≢true h)

-- arguments behind a part
pub neat_arguments : (b : Bool) (s : Touch) (ps : Parts) → is_item_touch s ≡ true → neat b false s (arguments ps) ≡ true
neat_arguments b apart_from ps h = neat_listed argument neat_argument ps b false solid (sign ")" ∷ []) refl close_end
neat_arguments b solid ps h = neat_listed argument neat_argument ps b false solid (sign ")" ∷ []) refl close_end
neat_arguments b named ps h = neat_listed argument neat_argument ps b false solid (sign ")" ∷ []) refl close_end
neat_arguments b valued ps h = neat_listed argument neat_argument ps b false solid (sign ")" ∷ []) refl close_end
neat_arguments b stated ps h = neat_listed argument neat_argument ps b false solid (sign ")" ∷ []) refl close_end
neat_arguments b closed ps h = neat_listed argument neat_argument ps b false solid (sign ")" ∷ []) refl close_end
neat_arguments b fresh ps h = absurd (false≢true h)
neat_arguments b dotted ps h = absurd (false≢true h)
neat_arguments b starred ps h = absurd (false≢true h)
neat_arguments b signed ps h = absurd (false≢true h)
neat_arguments b echoed ps h = absurd (false≢true h)
neat_arguments b broken ps h = absurd (false≢true h)

pub tight_item : (b : Bool) → is_item_touch (cond b valued closed) ≡ true
tight_item true = refl
tight_item false = refl

-- a function behind its words
neat_function_rest : (b : Bool) (ps : Parts) → neat b false apart_from (named_part ps ++ sign "(" ∷ parameters (sign ")" ∷ sp ∷ put body ∷ []) (others ps)) ≡ true
neat_function_rest b none = refl
neat_function_rest b (part n ps) = neat_parameters ps true false solid (sign ")" ∷ sp ∷ put body ∷ []) refl body_end
neat_function_rest b (gap ps) = neat_parameters ps true false solid (sign ")" ∷ sp ∷ put body ∷ []) refl body_end

pub neat_function : (b : Bool) (x : Form) (ps : Parts) → neat b false fresh (function_pieces x ps) ≡ true
neat_function b form.Init ps = neat_function_rest b ps
neat_function b form.Generator ps = neat_function_rest b ps
neat_function b form.Async ps = neat_function_rest b ps
neat_function b form.AsyncGenerator ps = neat_function_rest b ps
neat_function b _ ps = refl

pub neat_class : (b : Bool) (ps : Parts) → neat b false fresh (class_pieces ps) ≡ true
neat_class b none = refl
neat_class b (part n none) = refl
neat_class b (part n (part h ps)) = refl
neat_class b (part n (gap ps)) = refl
neat_class b (gap none) = refl
neat_class true (gap (part h ps)) = refl
neat_class false (gap (part h ps)) = refl
neat_class b (gap (gap ps)) = refl

-- arrows

neat_arrow_end : (o : Bool) (b : Bool) (s : Touch) (g : Flags) → is_item_touch s ≡ true → neat b false s (arrow_end g) ≡ true
neat_arrow_end o b s g h = of s g.expression h
  where
    of : (s : Touch) (t : Bool) → is_item_touch s ≡ true → neat b false s (unbroken ∷ sp ∷ sign "=>" ∷ sp ∷ cond t (sub (tail Assignment NoBrace)) (put body) ∷ []) ≡ true
    of apart_from true h = refl
    of apart_from false h = refl
    of solid true h = refl
    of solid false h = refl
    of named true h = refl
    of named false h = refl
    of valued true h = refl
    of stated true h = refl
    of valued false h = refl
    of stated false h = refl
    of closed true h = refl
    of closed false h = refl
    of fresh t h = absurd (false≢true h)
    of dotted t h = absurd (false≢true h)
    of starred t h = absurd (false≢true h)
    of signed t h = absurd (false≢true h)
    of echoed t h = absurd (false≢true h)
    of broken t h = absurd (false≢true h)

arrow_closed : (g : Flags) → NeatBehind true (close_parameters ∷ arrow_end g)
arrow_closed g b apart_from h = neat_arrow_end true b solid g refl
arrow_closed g b solid h = neat_arrow_end true b solid g refl
arrow_closed g b named h = neat_arrow_end true b solid g refl
arrow_closed g b valued h = neat_arrow_end true b solid g refl
arrow_closed g b stated h = neat_arrow_end true b solid g refl
arrow_closed g b closed h = neat_arrow_end true b solid g refl
arrow_closed g b fresh h = absurd (false≢true h)
arrow_closed g b dotted h = absurd (false≢true h)
arrow_closed g b starred h = absurd (false≢true h)
arrow_closed g b signed h = absurd (false≢true h)
arrow_closed g b echoed h = absurd (false≢true h)
arrow_closed g b broken h = absurd (false≢true h)

async_closed : (g : Flags) → NeatBehind false (sign ")" ∷ arrow_end g)
async_closed g b apart_from h = neat_arrow_end false b solid g refl
async_closed g b solid h = neat_arrow_end false b solid g refl
async_closed g b named h = neat_arrow_end false b solid g refl
async_closed g b valued h = neat_arrow_end false b solid g refl
async_closed g b stated h = neat_arrow_end false b solid g refl
async_closed g b closed h = neat_arrow_end false b solid g refl
async_closed g b fresh h = absurd (false≢true h)
async_closed g b dotted h = absurd (false≢true h)
async_closed g b starred h = absurd (false≢true h)
async_closed g b signed h = absurd (false≢true h)
async_closed g b echoed h = absurd (false≢true h)
async_closed g b broken h = absurd (false≢true h)

open_arrow : (b : Bool) (x : Form) (g : Flags) (ps : Parts) → neat b false fresh (arrow_words x ++ arrow_opening x ∷ parameters (arrow_closing x ∷ arrow_end g) ps) ≡ true
open_arrow b form.Init g ps = neat_parameters ps b true solid (close_parameters ∷ arrow_end g) refl (arrow_closed g)
open_arrow b form.Async g ps = neat_parameters ps b false solid (sign ")" ∷ arrow_end g) refl (async_closed g)
open_arrow b _ g ps = refl

short_arrow : (b : Bool) (x : Form) (g : Flags) → neat b false fresh (arrow_words x ++ put name ∷ arrow_end g) ≡ true
short_arrow b form.Init g = neat_arrow_end false true named g refl
short_arrow b form.Async g = neat_arrow_end false true named g refl
short_arrow b _ g = refl

pub neat_arrows : (b : Bool) (g : Flags) (ps : Parts) → Neat b (op_arrow g ps)
neat_arrows b g none = one (open_arrow b g.form g none)
neat_arrows b g (gap ps) = one (open_arrow b g.form g (gap ps))
neat_arrows b g (part n none) = one (open_arrow b g.form g (part n none))
neat_arrows b g (part n (gap ps)) = one (open_arrow b g.form g (part n (gap ps)))
neat_arrows b g (part n (part m (part l ps))) = one (open_arrow b g.form g (part n (part m (part l ps))))
neat_arrows b g (part n (part m (gap ps))) = one (open_arrow b g.form g (part n (part m (gap ps))))
neat_arrows b g (part n (part m none)) = of (is_identifier (kind_of n))
  where
    of : (t : Bool) → Neat b (cond t (at Assignment (arrow_words g.form ++ put name ∷ arrow_end g) ∷ []) [] ++ at Assignment (arrow_words g.form ++ arrow_opening g.form ∷ parameters (arrow_closing g.form ∷ arrow_end g) (part n (part m none))) ∷ [])
    of true = a_spelling (short_arrow b g.form g) (one (open_arrow b g.form g (part n (part m none))))
    of false = one (open_arrow b g.form g (part n (part m none)))

-- operators between two sides

space_behind_sign : (w : List ℕ) → takes_space (behind_sign w) ≡ true
space_behind_sign w = of (Rattle.tokens.specs.Lexical.is_one_of_words Rattle.language.proofs.layout.PunctuatorsApart.closed_signs w) (Rattle.tokens.specs.Lexical.is_one_of_words ("." ∷ "?." ∷ []) w) (Rattle.tokens.specs.Lexical.is_one_of_words ("*" ∷ []) w)
  where
    of : (x y z : Bool) → takes_space (cond x solid (cond y dotted (cond z starred signed))) ≡ true
    of true y z = refl
    of false true z = refl
    of false false true = refl
    of false false false = refl

neat_infix : (b o : Bool) (s : Touch) (w : List ℕ) (qs : List Piece) → takes_space s ≡ true → neat b o apart_from qs ≡ true → neat b o s (infix_pieces w ++ qs) ≡ true
neat_infix b o s w qs h k = ap (λ t. t && neat b o apart_from (tok (cond (is_word_operator w) IdentifierName Punctuator) w ∷ sp ∷ qs)) h ∙ of (is_word_operator w)
  where
    any : (x : Bool) → (x || true) ≡ true
    any true = refl
    any false = refl

    of : (t : Bool) → neat b o apart_from (tok (cond t IdentifierName Punctuator) w ∷ sp ∷ qs) ≡ true
    of true = k
    of false = and_from _ _ (any (not (is_signed (behind_sign w)))) (and_from _ _ (space_behind_sign w) k)

space_behind_rank : (b : Bool) (y : Rank) → takes_space (behind_part b (rank_sort y)) ≡ true
space_behind_rank b y = of b (nat_le 18 (precedence y))
  where
    of : (b t : Bool) → takes_space (behind_part b (cond t Sort.a_tight Sort.an_operand)) ≡ true
    of true true = refl
    of false true = refl
    of true false = refl
    of false false = refl

rank_end : (q : Rank) → neat true false apart_from (sub (tail q Any) ∷ []) ≡ true
rank_end q = of (nat_le 18 (precedence q))
  where
    of : (t : Bool) → (echo_followed {R = Slot} (cond t Sort.a_tight Sort.an_operand) [] && (is_item_touch (behind_part true (cond t Sort.a_tight Sort.an_operand)) && true)) ≡ true
    of true = refl
    of false = refl

rank_followed : (y : Rank) (qs : List Piece) → echo_followed (rank_sort y) qs ≡ true
rank_followed y qs = of (nat_le 18 (precedence y))
  where
    of : (t : Bool) → echo_followed (cond t Sort.a_tight Sort.an_operand) qs ≡ true
    of true = refl
    of false = refl

neat_joined : (b : Bool) (w : List ℕ) (z q : Rank) → neat b false fresh (sub (left z) ∷ infix_pieces w ++ sub (tail q Any) ∷ []) ≡ true
neat_joined b w z q = and_from (echo_followed (rank_sort z) (infix_pieces w ++ sub (tail q Any) ∷ [])) _ (rank_followed z (infix_pieces w ++ sub (tail q Any) ∷ [])) (neat_infix true false (behind_part b (rank_sort z)) w (sub (tail q Any) ∷ []) (space_behind_rank b z) (rank_end q))

pub neat_binary : (b : Bool) (w : List ℕ) (o : Operator) → Neat b (binary_ways w o)
neat_binary b w (op_binary false z q) = one (neat_joined b w z q)
neat_binary b w (op_binary true z q) = no_spelling
neat_binary b w op_power = one (neat_infix true false (behind_part b (rank_sort Update)) w (put (expr Exponentiation true Any) ∷ []) (space_behind_rank b Update) refl)
neat_binary b w _ = no_spelling

pub neat_logical : (b : Bool) (w : List ℕ) (o : Operator) → Neat b (logical_ways w o)
neat_logical b w (op_binary true z q) = one (neat_joined b w z q)
neat_logical b w (op_binary false z q) = no_spelling
neat_logical b w _ = no_spelling

-- members and calls

-- the first part is a number that `.` would join
abbrev pub is_open_literal : Kind → List ℕ → Bool
is_open_literal kind.Literal w = is_open_number (literal_class w) w
is_open_literal _ w = false

abbrev pub first_is_open : Parts → Bool
first_is_open none = false
first_is_open (gap ps) = false
first_is_open (part n ps) = is_open_literal (kind_of n) (text_of n)

neat_selector : (s : Touch) (g : Flags) (k : Kind) → neat true false s (sign "." ∷ put word ∷ []) ≡ true → neat true false s (sign "." ∷ put private_name ∷ []) ≡ true → neat true false s in_brackets ≡ true → neat true false s (selector g k) ≡ true
neat_selector s g k h p q = of g.computed (is_private k)
  where
    of : (t c : Bool) → neat true false s (cond t in_brackets (sign "." ∷ put (cond c private_name word) ∷ [])) ≡ true
    of true c = q
    of false true = p
    of false false = h

neat_after_number : (f c p : Bool) → neat true false (cond f valued closed) (cond (not c && f) (lay loose ∷ []) [] ++ cond c in_brackets (sign "." ∷ put (cond p private_name word) ∷ [])) ≡ true
neat_after_number true true p = refl
neat_after_number true false true = refl
neat_after_number true false false = refl
neat_after_number false true p = refl
neat_after_number false false true = refl
neat_after_number false false false = refl

neat_member : (ps : Parts) (g : Flags) (k : Kind) → neat (first_is_open ps) false fresh (sub callee ∷ after_number ps g ++ selector g k) ≡ true
neat_member none g k = neat_selector closed g k refl refl refl
neat_member (gap ps) g k = neat_selector closed g k refl refl refl
neat_member (part (node kind.Literal w f s e qs) ps) g k = neat_after_number (is_open_number (literal_class w) w) g.computed (is_private k)
neat_member (part (node l w f s e qs) ps) g k = of g.computed (is_private k)
  where
    of : (c p : Bool) → neat true false closed (cond (not c && false) (lay loose ∷ []) [] ++ cond c in_brackets (sign "." ∷ put (cond p private_name word) ∷ [])) ≡ true
    of true p = refl
    of false true = refl
    of false false = refl

target_plain : (ps : Parts) → is_target (lead_kind ps) ≡ true → first_is_open ps ≡ false
target_plain none h = refl
target_plain (gap ps) h = refl
target_plain (part (node kind.Literal w g s e qs) ps) h = absurd (false≢true h)
target_plain (part (node k w g s e qs) ps) h = refl

neat_postfix : (b : Bool) (w : List ℕ) → is_update_operator w ≡ true → b ≡ false → neat b false fresh (sub (lead LeftHandSide) ∷ unbroken ∷ tok Punctuator w ∷ []) ≡ true
neat_postfix true w h k = absurd (true≢false k)
neat_postfix false w h k = among_by (λ v. neat false false fresh (sub (lead LeftHandSide) ∷ unbroken ∷ tok Punctuator v ∷ []) ≡ true) w ("++" ∷ "--" ∷ []) (text_among is_update_op w operators refl h) (refl, (refl, tt))

neat_prefix : (b : Bool) (w : List ℕ) → is_update_operator w ≡ true → neat b false fresh (tok Punctuator w ∷ lay (apart (cond (is w "++") 43 45)) ∷ put (expr LeftHandSide true Any) ∷ []) ≡ true
neat_prefix b w h = among_by (λ v. neat b false fresh (tok Punctuator v ∷ lay (apart (cond (is v "++") 43 45)) ∷ put (expr LeftHandSide true Any) ∷ []) ≡ true) w ("++" ∷ "--" ∷ []) (text_among is_update_op w operators refl h) (of b, (of b, tt))
  where
    of : (b : Bool) → is_item_touch (cond b valued closed) && true ≡ true
    of true = refl
    of false = refl

neat_sign : (b : Bool) (w : List ℕ) → is_prefix w ≡ true → is_word_operator w ≡ false →
    neat b false fresh (tok Punctuator w ∷ cond (is w "+") (lay (apart 43) ∷ []) (cond (is w "-") (lay (apart 45) ∷ []) []) ++ put (expr Unary true Any) ∷ []) ≡ true
neat_sign b w h k =
    among_by (λ v. is_word_operator v ≡ false → neat b false fresh (tok Punctuator v ∷ cond (is v "+") (lay (apart 43) ∷ []) (cond (is v "-") (lay (apart 45) ∷ []) []) ++ put (expr Unary true Any) ∷ []) ≡ true)
    w ("delete" ∷ "void" ∷ "typeof" ∷ "+" ∷ "-" ∷ "~" ∷ "!" ∷ []) h
    ((λ e. absurd (true≢false e)), ((λ e. absurd (true≢false e)), ((λ e. absurd (true≢false e)), ((λ e. refl), ((λ e. refl), ((λ e. refl), ((λ e. refl), tt))))))) k

neat_assign : (b : Bool) (w : List ℕ) → neat b false fresh (sub (lead LeftHandSide) ∷ infix_pieces w ++ sub (tail Assignment Any) ∷ []) ≡ true
neat_assign true w = neat_infix true false valued w (sub (tail Assignment Any) ∷ []) refl refl
neat_assign false w = neat_infix true false closed w (sub (tail Assignment Any) ∷ []) refl refl

not_step : (a b : Bool) → not (a && b) ≡ false → (a ≡ true) × (b ≡ true)
not_step true true h = (refl, refl)
not_step true false h = absurd (true≢false h)
not_step false b h = absurd (true≢false h)

not_prefix : (a : Bool) → not a ≡ false → a ≡ true
not_prefix true h = refl
not_prefix false h = absurd (true≢false h)

neat_tagged : (b : Bool) → neat b false fresh (sub callee ∷ put tagged_quasi ∷ []) ≡ true
neat_tagged true = refl
neat_tagged false = refl

tight_end : (b : Bool) → neat b false fresh (term "new" ∷ sp ∷ put (expr New true Any) ∷ []) ≡ true
tight_end true = refl
tight_end false = refl

neat_call : (b : Bool) (ps : Parts) → neat b false fresh (sub (lead Call) ∷ arguments ps) ≡ true
neat_call b ps = neat_arguments true (cond b valued closed) ps (tight_item b)

neat_new : (b : Bool) (ps : Parts) → neat b false fresh (term "new" ∷ sp ∷ put (expr Member true Any) ∷ arguments ps) ≡ true
neat_new b ps = neat_arguments true (cond b valued closed) ps (tight_item b)

pub neat_literal : (b : Bool) (w : List ℕ) → neat b false fresh (tok (literal_class w) w ∷ []) ≡ true
neat_literal b w = let c = Rattle.std.specs.Prelude.slice_index_or w 0 0 in of (nat_eq c 34 || nat_eq c 39) (nat_eq c 47) (nat_eq c 46 || (nat_le 48 c && nat_le c 57))
  where
    of : (x y z : Bool) → neat b false fresh (tok (cond x TokenClass.StringLiteral (cond y TokenClass.RegularExpressionLiteral (cond z TokenClass.NumericLiteral IdentifierName))) w ∷ []) ≡ true
    of true y z = refl
    of false true z = refl
    of false false true = refl
    of false false false = refl

neat_yields : (b : Bool) (x : Form) (ps : Parts) → Neat b (yields x ps)
neat_yields b form.Init (gap none) = one refl
neat_yields b form.Init (part n none) = one refl
neat_yields b form.Generator (part n none) = one refl
neat_yields b _ ps = no_spelling

pub neat_expressions : (k : Kind) (w : List ℕ) (g : Flags) (ps : Parts) → Neat (first_is_open ps) (expressions k w g ps)
unfolding expressions
neat_expressions kind.Identifier w g ps = neat_cond (is_reserved w) (λ e. no_spelling) (λ e. one refl)
neat_expressions kind.Literal w g ps = neat_cond (is_name (literal_class w) && not (among w ("true" ∷ "false" ∷ "null" ∷ []))) (λ e. no_spelling) (λ e. one (neat_literal (first_is_open ps) w))
neat_expressions kind.ArrayExpression w g ps = one (neat_elements argument neat_argument ps (first_is_open ps) false solid (sign "]" ∷ []) refl bracket_end)
neat_expressions kind.ObjectExpression w g ps = one (neat_listed object_part neat_object_part ps (first_is_open ps) false solid (sign "}" ∷ []) refl list_brace_end)
neat_expressions kind.FunctionExpression w g ps = one (neat_function (first_is_open ps) g.form ps)
neat_expressions kind.ClassExpression w g ps = one (neat_class (first_is_open ps) ps)
neat_expressions kind.TemplateLiteral w g ps = one (neat_chunks true ps (first_is_open ps) fresh refl)
neat_expressions kind.ArrowFunctionExpression w g ps = neat_arrows (first_is_open ps) g ps
neat_expressions kind.TaggedTemplateExpression w g ps = one (neat_tagged (first_is_open ps))
neat_expressions kind.MemberExpression w g ps = neat_cond g.optional (λ e. no_spelling) (λ e. neat_cond (is_super (lead_kind ps)) (λ h. one (neat_selector named g kind.Identifier refl refl refl)) (λ h. one (neat_member ps g (lead_kind (others ps)))))
neat_expressions kind.CallExpression w g ps =
    neat_cond g.optional (λ e. no_spelling) (λ e. neat_cond (is_super (lead_kind ps)) (λ h. one (neat_arguments true named (others ps) refl)) (λ h. one (neat_call (first_is_open ps) (others ps))))
neat_expressions kind.NewExpression w g ps = a_spelling (neat_new (first_is_open ps) (others ps)) (neat_cond (is_none (others ps)) (λ e. one (tight_end (first_is_open ps))) (λ e. no_spelling))
neat_expressions kind.MetaProperty w g ps = neat_cond (lead_is ps "new" && lead_is (others ps) "target") (λ e. one refl) (λ e. neat_cond (lead_is ps "import" && lead_is (others ps) "meta") (λ h. one refl) (λ h. no_spelling))
neat_expressions kind.ChainExpression w g ps = neat_cond (first_has_optional ps) (λ e. one refl) (λ e. no_spelling)
neat_expressions kind.YieldExpression w g ps = neat_yields (first_is_open ps) g.form ps
neat_expressions kind.AwaitExpression w g ps = one refl
neat_expressions kind.UpdateExpression w g ps =
    neat_cond (not (is_update_operator w && is_target (lead_kind ps))) (λ e. no_spelling)
    (λ e. let u = not_step (is_update_operator w) (is_target (lead_kind ps)) e in neat_cond g.prefix (λ h. one (neat_prefix (first_is_open ps) w u.0)) (λ h. one (neat_postfix (first_is_open ps) w u.0 (target_plain ps u.1))))
neat_expressions kind.UnaryExpression w g ps =
    neat_cond (not (is_prefix w)) (λ e. no_spelling) (λ e. neat_cond (is_word_operator w) (λ h. one refl) (λ h. one (neat_sign (first_is_open ps) w (not_prefix (is_prefix w) e) h)))
neat_expressions kind.BinaryExpression w g ps = neat_cond (is_private (lead_kind ps)) (λ p. neat_cond (is w "in") (λ e. one refl) (λ e. no_spelling)) (λ p. neat_binary (first_is_open ps) w (operator_of w))
neat_expressions kind.LogicalExpression w g ps = neat_logical (first_is_open ps) w (operator_of w)
neat_expressions kind.AssignmentExpression w g ps =
    neat_cond (not (is_assignment w)) (λ e. no_spelling)
    (λ e. neat_cond (is_target (lead_kind ps)) (λ h. one (neat_assign (first_is_open ps) w))
    (λ h. neat_cond (is w "=" && is_pattern (lead_kind ps)) (λ k. one (neat_infix true false closed w (sub (tail Assignment Any) ∷ []) refl refl)) (λ k. no_spelling)))
neat_expressions kind.SequenceExpression w g ps = neat_cond (is_none (others ps)) (λ e. no_spelling) (λ e. one (neat_sequence (others ps) true valued refl))
neat_expressions k w g ps = neat_sole (expressions k w g ps) refl

-- parts of chains

neat_member_link : (s : Touch) (g : Flags) (k : Kind) → is_item_touch s ≡ true → (g.optional ≡ false → s ≡ closed) → neat true false s (member_link g k) ≡ true
neat_member_link s g l h k = of s g.optional g.computed (is_private l) h k
  where
    of : (s : Touch) (t c p : Bool) → is_item_touch s ≡ true → (t ≡ false → s ≡ closed) → neat true false s (cond t (sign "?." ∷ cond c in_brackets (put (cond p private_name word) ∷ [])) (cond c in_brackets (sign "." ∷ put (cond p private_name word) ∷ []))) ≡ true
    of s false true p h k = subst (λ z. neat true false z in_brackets ≡ true) (sym (k refl)) refl
    of s false false true h k = subst (λ z. neat true false z (sign "." ∷ put private_name ∷ []) ≡ true) (sym (k refl)) refl
    of s false false false h k = subst (λ z. neat true false z (sign "." ∷ put word ∷ []) ≡ true) (sym (k refl)) refl
    of apart_from true true p h k = refl
    of apart_from true false true h k = refl
    of apart_from true false false h k = refl
    of solid true true p h k = refl
    of solid true false true h k = refl
    of solid true false false h k = refl
    of named true true p h k = refl
    of named true false true h k = refl
    of named true false false h k = refl
    of valued true true p h k = refl
    of valued true false true h k = refl
    of valued true false false h k = refl
    of stated true true p h k = refl
    of stated true false true h k = refl
    of stated true false false h k = refl
    of closed true true p h k = refl
    of closed true false true h k = refl
    of closed true false false h k = refl
    of fresh true c p h k = absurd (false≢true h)
    of dotted true c p h k = absurd (false≢true h)
    of starred true c p h k = absurd (false≢true h)
    of signed true c p h k = absurd (false≢true h)
    of echoed true c p h k = absurd (false≢true h)
    of broken true c p h k = absurd (false≢true h)

dotted_call : (ps : Parts) → neat true false dotted (arguments ps) ≡ true
dotted_call ps = neat_listed argument neat_argument ps true false solid (sign ")" ∷ []) refl close_end

neat_call_link : (s : Touch) (g : Flags) (ps : Parts) → is_item_touch s ≡ true → neat true false s (call_link g ps) ≡ true
neat_call_link s g ps h = of s g.optional h
  where
    of : (s : Touch) (t : Bool) → is_item_touch s ≡ true → neat true false s (cond t (sign "?." ∷ []) [] ++ arguments (others ps)) ≡ true
    of s false h = neat_arguments true s (others ps) h
    of apart_from true h = dotted_call (others ps)
    of solid true h = dotted_call (others ps)
    of named true h = dotted_call (others ps)
    of valued true h = dotted_call (others ps)
    of stated true h = dotted_call (others ps)
    of closed true h = dotted_call (others ps)
    of fresh true h = absurd (false≢true h)
    of dotted true h = absurd (false≢true h)
    of starred true h = absurd (false≢true h)
    of signed true h = absurd (false≢true h)
    of echoed true h = absurd (false≢true h)
    of broken true h = absurd (false≢true h)

neat_linked : (b c : Bool) (ps : Parts) (qs : List Piece) → neat true false closed qs ≡ true → (c ≡ true → (d : Bool) → neat true false (cond d valued closed) qs ≡ true) → Neat b (chain_element c ps qs)
neat_linked b c ps qs h k = neat_cond (first_has_optional ps) (λ e. one h) (λ e. neat_cond c (λ f. one (k f b)) (λ f. no_spelling))

pub neat_spines : (b : Bool) (k : Kind) (g : Flags) (ps : Parts) → Neat b (chain_parts k g ps)
neat_spines b kind.MemberExpression g ps =
    neat_linked b g.optional ps (member_link g (lead_kind (others ps))) (neat_member_link closed g (lead_kind (others ps)) refl (λ e. refl)) (λ e d. neat_member_link (cond d valued closed) g (lead_kind (others ps)) (tight_item d) (λ f. absurd (true≢false (sym e ∙ f))))
neat_spines b kind.CallExpression g ps = neat_linked b g.optional ps (call_link g ps) (neat_call_link closed g ps refl) (λ e d. neat_call_link (cond d valued closed) g ps (tight_item d))
neat_spines b _ g ps = no_spelling
