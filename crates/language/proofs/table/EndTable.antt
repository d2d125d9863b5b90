-- Which spellings of the table end in no number: those of chains, patterns, blocks and names, and of what stands at LeftHandSide or tighter.
use Rattle.std.proofs.Common.{◌≡◌, ℕ, Bool, true, false, cond, not, ◌&&◌, ◌||◌, List, [], ◌∷◌, ◌++◌, refl, sym, ap, ◌∙◌, map, filter, arith}
use Rattle.std.specs.Prelude.{nat_le, codes}
use Rattle.std.proofs.lemmas.Bool.{and_parts, and_from, false≢true, true≢false}
use Rattle.std.proofs.lemmas.Bool.Decides.{nat_tests}
use Rattle.tree.specs.declared.kind.Kind.{Kind}
use Rattle.tree.specs.declared.kind.Kind.TheVariants as kind
use Rattle.tree.specs.declared.kind.Flags.{Flags}
use Rattle.tree.specs.declared.kind.Form.{Form}
use Rattle.tree.specs.declared.kind.Form.TheVariants as form
use Rattle.tree.specs.Tree.{Tree, node, Parts, none, part, gap, kind_of, bare}
use Rattle.tree.specs.Uses.{is_lean}
use Rattle.language.specs.FirstPart.{lead as lead_kind, others}
use Rattle.language.specs.declared.Rank.TheVariants.{Expression, Member, New, Call, Assignment}
use Rattle.language.specs.declared.Start.TheVariants.{Any, NoBrace}
use Rattle.language.specs.Vocabulary.{precedence, takes_number, Operator, op_binary, op_power, operators, operator_of, is_reserved, is_super, is_rest, is_word_operator, is_update_operator, is_target, is_prefix, is_assignment, is_pattern, is_identifier, is_private, is}
use Rattle.language.specs.Pieces.{Role, expr, chain_part, name, word, private_name, base, tagged_quasi, template_element, pattern, method, body, block, class_body, left, tail, callee, lead_chain, lead, PieceOf, Piece, tok, may, many, ahead, unbroken, no_operand, ending, open_parameters, close_parameters, sub, absent, never, lay, put, sign, term, sp, Spelling, settle_piece, is_none, argument, listed, elements, parameters, pattern_element, put_at, with_default}
use Rattle.language.specs.Expressions.{yields, expressions, chain_parts, arguments, in_brackets, selector, after_number, member_link, call_link, chain_element, template_elements, function_words, function_pieces, class_pieces, arrow_words, binary_ways, logical_ways, first_has_optional, methods, infix_pieces, lead_is, object_part, object_pattern_part, arrow_opening, arrow_closing}
use Rattle.language.specs.Statements.{braced, lines, prologue, member_lines}
use Rattle.language.specs.Grammar.{ways, ways_bare, spellings, can_run, fits_position, own_rank, own_in, own_start}
use Rattle.language.specs.Layout.{some_way, first_way}
use Rattle.language.proofs.lower_bound.Domination.{ways_of, settled}
use Rattle.language.proofs.lower_bound.Domination.{fits as fits_at}
use Rattle.language.proofs.table.Alike.{standing_at}
use Rattle.language.proofs.table.OperatorFacts.{operator_meets}
use Rattle.language.proofs.table.NeatPieces.{Sort, sort_of}
use Rattle.language.proofs.table.WayPieces.{settled_sort}
use Rattle.language.proofs.table.EndsOf.{shut_class, shut_sort, shut_piece, ends_shut}

-- The last piece

pub ends_last : (xs : List Piece) (q : Piece) → ends_shut (xs ++ q ∷ []) ≡ shut_piece q
ends_last [] q = refl
ends_last (x ∷ []) q = refl
ends_last (x ∷ y ∷ xs) q = ends_last (y ∷ xs) q

ends_behind : (xs : List Piece) (q : Piece) (qs : List Piece) → ends_shut (xs ++ q ∷ qs) ≡ ends_shut (q ∷ qs)
ends_behind [] q qs = refl
ends_behind (x ∷ []) q qs = refl
ends_behind (x ∷ y ∷ xs) q qs = ends_behind (y ∷ xs) q qs

abbrev shut_at : PieceOf Role → Bool
shut_at (tok c w) = shut_class c
shut_at (sub a) = shut_sort (sort_of a)
shut_at _ = false

abbrev pub ends_shut_at : List (PieceOf Role) → Bool
ends_shut_at [] = false
ends_shut_at (q ∷ []) = shut_at q
ends_shut_at (q ∷ r ∷ qs) = ends_shut_at (r ∷ qs)

shut_settled : (a : Role) (q : Piece) → shut_at (settle_piece (own_rank a) (own_in a) (own_start a) q) ≡ shut_piece q
shut_settled a (sub x) = ap shut_sort (settled_sort (own_rank a) (own_in a) (own_start a) x)
shut_settled a (tok c w) = refl
shut_settled a (may w) = refl
shut_settled a (many w) = refl
shut_settled a (ahead w) = refl
shut_settled a unbroken = refl
shut_settled a no_operand = refl
shut_settled a (ending e) = refl
shut_settled a open_parameters = refl
shut_settled a close_parameters = refl
shut_settled a absent = refl
shut_settled a never = refl
shut_settled a (lay h) = refl

pub shut_standing : (a : Role) (qs : List Piece) → ends_shut_at (standing_at a qs) ≡ ends_shut qs
shut_standing a [] = refl
shut_standing a (q ∷ []) = shut_settled a q
shut_standing a (q ∷ r ∷ qs) = shut_standing a (r ∷ qs)

-- Spellings whose last piece is no number; with true, but for those that stand only at looser symbols
pub data Shuts : Bool → List Spelling → Type 0 where
  no_shuts : {e : Bool} → Shuts e []
  a_shut : {e : Bool} {x : Spelling} {xs : List Spelling} → (can_run x.pieces ≡ true → ends_shut x.pieces ≡ true) → Shuts e xs → Shuts e (x ∷ xs)
  a_slack : {x : Spelling} {xs : List Spelling} → nat_le 18 (precedence x.rank) ≡ false → Shuts true xs → Shuts true (x ∷ xs)
  -- where the second can stand the first can
  covered : {e : Bool} {x y : Spelling} → ends_shut x.pieces ≡ true → ((a : Role) → fits_at a y ≡ true → fits_at a x ≡ true) → Shuts e (x ∷ y ∷ [])

abbrev pub tight_role : Role → Bool
tight_role (expr y i f) = nat_le 18 (precedence y)
tight_role _ = false

not_slack : (a : Role) (x : Spelling) → tight_role a ≡ true → fits_position a x ≡ true → nat_le 18 (precedence x.rank) ≡ false → ⊥
not_slack (expr y i f) x h k l = false≢true (sym l ∙ above (precedence y) (precedence x.rank) h (and_parts _ _ k).0)
  where
    above : (y z : ℕ) → nat_le 18 y ≡ true → takes_number y z ≡ true → nat_le 18 z ≡ true
    above y z h k = grind (arith, nat_tests)
not_slack _ x h k l = false≢true h

first_shut : (a : Role) (e : Bool) (xs : List Spelling) → (e ≡ true → tight_role a ≡ true) → Shuts e xs → some_way (ways_of a xs) ≡ true → ends_shut_at (first_way (ways_of a xs)) ≡ true
first_shut a e _ f no_shuts s = absurd (false≢true s)
first_shut a e _ f (a_shut {x = x} {xs = xs} h k) s = go (fits_at a x) refl (λ t. first_shut a e xs f k t) s
  where
    go : (t : Bool) → fits_at a x ≡ t → (some_way (ways_of a xs) ≡ true → ends_shut_at (first_way (ways_of a xs)) ≡ true) → some_way (map (settled a) (cond t (x ∷ filter (fits_at a) xs) (filter (fits_at a) xs))) ≡ true →
        ends_shut_at (first_way (map (settled a) (cond t (x ∷ filter (fits_at a) xs) (filter (fits_at a) xs)))) ≡ true
    go true i g s = shut_standing a x.pieces ∙ h (and_parts (fits_position a x) _ i).1
    go false i g s = g s
first_shut a _ _ f (a_slack {x = x} {xs = xs} h k) s = go (fits_at a x) refl (λ t. first_shut a true xs f k t) s
  where
    go : (t : Bool) → fits_at a x ≡ t → (some_way (ways_of a xs) ≡ true → ends_shut_at (first_way (ways_of a xs)) ≡ true) → some_way (map (settled a) (cond t (x ∷ filter (fits_at a) xs) (filter (fits_at a) xs))) ≡ true →
        ends_shut_at (first_way (map (settled a) (cond t (x ∷ filter (fits_at a) xs) (filter (fits_at a) xs)))) ≡ true
    go true i g s = absurd (not_slack a x (f refl) (and_parts (fits_position a x) _ i).0 h)
    go false i g s = g s
first_shut a e _ f (covered {x = x} {y = y} h k) s = go (fits_at a x) (fits_at a y) refl refl s
  where
    go : (t u : Bool) → fits_at a x ≡ t → fits_at a y ≡ u → some_way (map (settled a) (cond t (x ∷ cond u (y ∷ []) []) (cond u (y ∷ []) []))) ≡ true →
        ends_shut_at (first_way (map (settled a) (cond t (x ∷ cond u (y ∷ []) []) (cond u (y ∷ []) [])))) ≡ true
    go true u i j s = shut_standing a x.pieces ∙ h
    go false true i j s = absurd (false≢true (sym i ∙ k a j))
    go false false i j s = absurd (false≢true s)

shut_one : {e : Bool} {x : Spelling} → ends_shut x.pieces ≡ true → Shuts e (x ∷ [])
shut_one h = a_shut (λ k. h) no_shuts

slack_one : {x : Spelling} → nat_le 18 (precedence x.rank) ≡ false → Shuts true (x ∷ [])
slack_one h = a_slack h no_shuts

not_true : (b : Bool) → not b ≡ true → b ≡ false
not_true true h = absurd (false≢true h)
not_true false h = refl

-- no spelling, or one whose last piece is no number or that stands only at looser symbols
abbrev sole_shut : List Spelling → Bool
sole_shut [] = true
sole_shut (x ∷ []) = ends_shut x.pieces || not (nat_le 18 (precedence x.rank))
sole_shut (x ∷ y ∷ xs) = false

shut_sole : (xs : List Spelling) → sole_shut xs ≡ true → Shuts true xs
shut_sole [] h = no_shuts
shut_sole (x ∷ []) h = of (ends_shut x.pieces) refl h
  where
    of : (b : Bool) → ends_shut x.pieces ≡ b → (b || not (nat_le 18 (precedence x.rank))) ≡ true → Shuts true (x ∷ [])
    of true e h = shut_one e
    of false e h = slack_one (not_true (nat_le 18 (precedence x.rank)) h)
shut_sole (x ∷ y ∷ xs) h = cc

shut_cond : {e : Bool} (c : Bool) {xs ys : List Spelling} → (c ≡ true → Shuts e xs) → (c ≡ false → Shuts e ys) → Shuts e (cond c xs ys)
shut_cond true h k = h refl
shut_cond false h k = k refl

-- Spellings of expressions

run_later : (q : Piece) (qs : List Piece) → can_run (q ∷ qs) ≡ true → can_run qs ≡ true
run_later never qs h = absurd (false≢true h)
run_later (tok c w) qs h = h
run_later (may w) qs h = h
run_later (many w) qs h = h
run_later (ahead w) qs h = h
run_later unbroken qs h = h
run_later no_operand qs h = h
run_later (ending e) qs h = h
run_later open_parameters qs h = h
run_later close_parameters qs h = h
run_later (sub x) qs h = h
run_later absent qs h = h
run_later (lay x) qs h = h

run_behind : (xs qs : List Piece) → can_run (xs ++ qs) ≡ true → can_run qs ≡ true
run_behind [] qs h = h
run_behind (x ∷ xs) qs h = run_behind xs qs (run_later x (xs ++ qs) h)

abbrev body_pieces : List Piece
body_pieces = sign ")" ∷ sp ∷ put body ∷ []

-- parameters, and the body behind them
joined_end : (xs zs : List Piece) → ends_shut zs ≡ true → ends_shut (xs ++ zs) ≡ true
joined_end xs [] h = absurd (false≢true h)
joined_end xs (q ∷ qs) h = ends_behind xs q qs ∙ h

shut_parameters : (ps : Parts) → can_run (parameters body_pieces ps) ≡ true → ends_shut (parameters body_pieces ps) ≡ true
shut_parameters none h = absurd (false≢true h)
shut_parameters (gap ps) h = absurd (false≢true h)
shut_parameters (part n none) h = refl
shut_parameters (part n (gap ps)) h = absurd (false≢true h)
shut_parameters (part n (part m ps)) h =
    joined_end (pattern_element true n ∷ Rattle.language.specs.Pieces.separator (kind_of n) (is_none ps)) (parameters body_pieces (part m ps))
    (shut_parameters (part m ps) (run_behind (pattern_element true n ∷ Rattle.language.specs.Pieces.separator (kind_of n) (is_none ps)) (parameters body_pieces (part m ps)) h))

shut_chunks : (first : Bool) (ps : Parts) → can_run (template_elements first ps) ≡ true → ends_shut (template_elements first ps) ≡ true
shut_chunks first none h = absurd (false≢true h)
shut_chunks first (gap ps) h = absurd (false≢true h)
shut_chunks first (part q none) h = refl
shut_chunks first (part q (gap ps)) h = absurd (false≢true h)
shut_chunks first (part q (part e ps)) h = joined_end (put (template_element first false) ∷ put (expr Expression true Any) ∷ []) (template_elements false ps) (shut_chunks false ps h)

shut_function : (x : Form) (ps : Parts) → can_run (function_pieces x ps) ≡ true → ends_shut (function_pieces x ps) ≡ true
shut_function x ps h =
    let front = function_words x ++ sp ∷ Rattle.language.specs.Expressions.named ps in
    joined_end front (sign "(" ∷ parameters body_pieces (others ps))
    (joined_end (sign "(" ∷ []) (parameters body_pieces (others ps)) (shut_parameters (others ps) (run_behind front (sign "(" ∷ parameters body_pieces (others ps)) h)))

shut_arguments : (xs : List Piece) (ps : Parts) → ends_shut (xs ++ arguments ps) ≡ true
shut_arguments xs ps = joined_end xs (arguments ps) (ends_last (sign "(" ∷ listed argument ps) (sign ")"))

shut_selector : (xs : List Piece) (g : Flags) (k : Kind) → ends_shut (xs ++ selector g k) ≡ true
shut_selector xs g k = joined_end xs (selector g k) (of g.computed (is_private k))
  where
    of : (c p : Bool) → ends_shut (cond c in_brackets (sign "." ∷ put (cond p private_name word) ∷ [])) ≡ true
    of true p = refl
    of false true = refl
    of false false = refl

shut_class_pieces : (ps : Parts) → can_run (class_pieces ps) ≡ true → ends_shut (class_pieces ps) ≡ true
shut_class_pieces none h = absurd (false≢true h)
shut_class_pieces (part n none) h = absurd (false≢true h)
shut_class_pieces (part n (part m ps)) h = refl
shut_class_pieces (part n (gap ps)) h = refl
shut_class_pieces (gap none) h = absurd (false≢true h)
shut_class_pieces (gap (part m ps)) h = refl
shut_class_pieces (gap (gap ps)) h = refl

loose_operator : Operator → Bool
loose_operator (op_binary b z q) = not (nat_le 18 (precedence z))
loose_operator _ = true

operator_loose : (w : List ℕ) → loose_operator (operator_of w) ≡ true
unfolding loose_operator
operator_loose w = operator_meets loose_operator w operators refl refl

shut_binary : (w : List ℕ) (o : Operator) → loose_operator o ≡ true → Shuts true (binary_ways w o)
unfolding loose_operator
shut_binary w (op_binary false z q) h = slack_one (not_true (nat_le 18 (precedence z)) h)
shut_binary w (op_binary true z q) h = no_shuts
shut_binary w op_power h = slack_one refl
shut_binary w _ h = no_shuts

shut_logical : (w : List ℕ) (o : Operator) → loose_operator o ≡ true → Shuts true (logical_ways w o)
unfolding loose_operator
shut_logical w (op_binary true z q) h = slack_one (not_true (nat_le 18 (precedence z)) h)
shut_logical w (op_binary false z q) h = no_shuts
shut_logical w _ h = no_shuts

shut_arrows : (g : Flags) (ps : Parts) → Shuts true (Rattle.language.specs.Expressions.op_arrow g ps)
shut_arrows g none = slack_one refl
shut_arrows g (gap ps) = slack_one refl
shut_arrows g (part n none) = slack_one refl
shut_arrows g (part n (gap ps)) = slack_one refl
shut_arrows g (part n (part m (part l ps))) = slack_one refl
shut_arrows g (part n (part m (gap ps))) = slack_one refl
shut_arrows g (part n (part m none)) = of (is_identifier (kind_of n))
  where
    of : (t : Bool) → Shuts true (cond t (Rattle.language.specs.Pieces.at Assignment (arrow_words g.form ++ put name ∷ Rattle.language.specs.Expressions.arrow_end g) ∷ []) [] ++ Rattle.language.specs.Pieces.at Assignment (arrow_words g.form ++ arrow_opening g.form ∷ parameters (arrow_closing g.form ∷ Rattle.language.specs.Expressions.arrow_end g) (part n (part m none))) ∷ [])
    of true = a_slack refl (slack_one refl)
    of false = slack_one refl

new_covers : (ps : Parts) → is_none ps ≡ true → (a : Role) → fits_at a (Rattle.language.specs.Pieces.at New (term "new" ∷ sp ∷ put (expr New true Any) ∷ [])) ≡ true → fits_at a (Rattle.language.specs.Pieces.at Member (term "new" ∷ sp ∷ put (expr Member true Any) ∷ arguments ps)) ≡ true
new_covers (part n ps) e a h = absurd (false≢true e)
new_covers (gap ps) e a h = absurd (false≢true e)
new_covers none e (expr y i f) h = let u = and_parts (fits_position (expr y i f) (Rattle.language.specs.Pieces.at New (term "new" ∷ sp ∷ put (expr New true Any) ∷ []))) _ h in let v = and_parts (takes_number (precedence y) 19) _ u.0 in and_from _ _ (and_from _ _ (above (precedence y) v.0) (of f i)) refl
  where
    above : (y : ℕ) → takes_number y 19 ≡ true → takes_number y 21 ≡ true
    above y h = grind (arith, nat_tests)

    of : (f : Rattle.language.specs.declared.Start.Start) (i : Bool) → (Rattle.tree.specs.Uses.implies false i && Rattle.language.specs.Grammar.starts f (term "new" ∷ sp ∷ put (expr Member true Any) ∷ arguments none)) ≡ true
    of Any true = refl
    of NoBrace true = refl
    of Rattle.language.specs.declared.Start.TheVariants.Statement true = refl
    of Any false = refl
    of NoBrace false = refl
    of Rattle.language.specs.declared.Start.TheVariants.Statement false = refl
new_covers none e (pattern b f) h = of f
  where
    of : (f : Rattle.language.specs.declared.Start.Start) → fits_at (pattern b f) (Rattle.language.specs.Pieces.at Member (term "new" ∷ sp ∷ put (expr Member true Any) ∷ arguments none)) ≡ true
    of Any = refl
    of NoBrace = refl
    of Rattle.language.specs.declared.Start.TheVariants.Statement = refl
new_covers none e _ h = refl

abbrev pub is_literal : Kind → Bool
is_literal kind.Literal = true
is_literal _ = false

pub shut_yields : (x : Form) (ps : Parts) → Shuts true (yields x ps)
shut_yields form.Init (gap none) = slack_one refl
shut_yields form.Init (part n none) = slack_one refl
shut_yields form.Generator (part n none) = slack_one refl
shut_yields _ ps = no_shuts

shut_expressions : (k : Kind) (w : List ℕ) (g : Flags) (ps : Parts) → is_literal k ≡ false → Shuts true (expressions k w g ps)
unfolding expressions
shut_expressions kind.Literal w g ps h = absurd (true≢false h)
shut_expressions kind.Identifier w g ps h = shut_cond (is_reserved w) (λ e. no_shuts) (λ e. shut_one refl)
shut_expressions kind.ArrayExpression w g ps h = shut_one (ends_last (sign "[" ∷ elements argument ps) (sign "]"))
shut_expressions kind.ObjectExpression w g ps h = shut_one (ends_last (sign "{" ∷ listed object_part ps) (sign "}"))
shut_expressions kind.FunctionExpression w g ps h = a_shut (λ k. shut_function g.form ps k) no_shuts
shut_expressions kind.ClassExpression w g ps h = a_shut (λ k. shut_class_pieces ps k) no_shuts
shut_expressions kind.TemplateLiteral w g ps h = a_shut (λ k. shut_chunks true ps k) no_shuts
shut_expressions kind.ArrowFunctionExpression w g ps h = shut_arrows g ps
shut_expressions kind.MemberExpression w g ps h = shut_cond g.optional (λ e. no_shuts) (λ e. shut_cond (is_super (lead_kind ps)) (λ i. shut_one (shut_selector (put base ∷ []) g kind.Identifier)) (λ i. shut_one (shut_selector (sub callee ∷ after_number ps g) g (lead_kind (others ps)))))
shut_expressions kind.CallExpression w g ps h = shut_cond g.optional (λ e. no_shuts) (λ e. shut_cond (is_super (lead_kind ps)) (λ i. shut_one (shut_arguments (put base ∷ []) (others ps))) (λ i. shut_one (shut_arguments (sub (lead Call) ∷ []) (others ps))))
shut_expressions kind.NewExpression w g ps h = of (is_none (others ps)) refl
  where
    of : (t : Bool) → is_none (others ps) ≡ t → Shuts true (Rattle.language.specs.Pieces.at Member (term "new" ∷ sp ∷ put (expr Member true Any) ∷ arguments (others ps)) ∷ cond t (Rattle.language.specs.Pieces.at New (term "new" ∷ sp ∷ put (expr New true Any) ∷ []) ∷ []) [])
    of true e = covered (shut_arguments (term "new" ∷ sp ∷ put (expr Member true Any) ∷ []) (others ps)) (new_covers (others ps) e)
    of false e = shut_one (shut_arguments (term "new" ∷ sp ∷ put (expr Member true Any) ∷ []) (others ps))
shut_expressions kind.MetaProperty w g ps h = shut_cond (lead_is ps "new" && lead_is (others ps) "target") (λ e. shut_one refl) (λ e. shut_cond (lead_is ps "import" && lead_is (others ps) "meta") (λ d. shut_one refl) (λ d. no_shuts))
shut_expressions kind.ChainExpression w g ps h = shut_cond (first_has_optional ps) (λ e. shut_one refl) (λ e. no_shuts)
shut_expressions kind.YieldExpression w g ps h = shut_yields g.form ps
shut_expressions kind.UpdateExpression w g ps h = shut_cond (not (is_update_operator w && is_target (lead_kind ps))) (λ e. no_shuts) (λ e. shut_cond g.prefix (λ i. slack_one refl) (λ i. slack_one refl))
shut_expressions kind.UnaryExpression w g ps h = shut_cond (not (is_prefix w)) (λ e. no_shuts) (λ e. shut_cond (is_word_operator w) (λ i. slack_one refl) (λ i. slack_one refl))
shut_expressions kind.AwaitExpression w g ps h = slack_one refl
shut_expressions kind.BinaryExpression w g ps h = shut_cond (is_private (lead_kind ps)) (λ p. shut_cond (is w "in") (λ e. slack_one refl) (λ e. no_shuts)) (λ p. shut_binary w (operator_of w) (operator_loose w))
shut_expressions kind.LogicalExpression w g ps h = shut_logical w (operator_of w) (operator_loose w)
shut_expressions kind.AssignmentExpression w g ps h =
    shut_cond (not (is_assignment w)) (λ e. no_shuts) (λ e. shut_cond (is_target (lead_kind ps)) (λ i. slack_one refl) (λ i. shut_cond (is w "=" && is_pattern (lead_kind ps)) (λ j. slack_one refl) (λ j. no_shuts)))
shut_expressions kind.SequenceExpression w g ps h = shut_cond (is_none (others ps)) (λ e. no_shuts) (λ e. slack_one refl)
shut_expressions k w g ps h = shut_sole (expressions k w g ps) refl

-- Other spellings

shut_linked : (c : Bool) (ps : Parts) (qs : List Piece) → ((x : Piece) → ends_shut (x ∷ qs) ≡ true) → Shuts false (chain_element c ps qs)
shut_linked c ps qs h = shut_cond (first_has_optional ps) (λ e. shut_one (h (sub lead_chain))) (λ e. shut_cond c (λ i. shut_one (h (sub (lead Call)))) (λ i. no_shuts))

shut_member_link : (x : Piece) (g : Flags) (k : Kind) → ends_shut (x ∷ member_link g k) ≡ true
shut_member_link x g k = of g.optional g.computed (is_private k)
  where
    of : (t c p : Bool) → ends_shut (x ∷ cond t (sign "?." ∷ cond c in_brackets (put (cond p private_name word) ∷ [])) (cond c in_brackets (sign "." ∷ put (cond p private_name word) ∷ []))) ≡ true
    of true true p = refl
    of true false true = refl
    of true false false = refl
    of false true p = refl
    of false false true = refl
    of false false false = refl

shut_spines : (k : Kind) (g : Flags) (ps : Parts) → Shuts false (chain_parts k g ps)
shut_spines kind.MemberExpression g ps = shut_linked g.optional ps (member_link g (lead_kind (others ps))) (λ x. shut_member_link x g (lead_kind (others ps)))
shut_spines kind.CallExpression g ps = shut_linked g.optional ps (call_link g ps) (λ x. shut_arguments (x ∷ cond g.optional (sign "?." ∷ []) []) (others ps))
shut_spines _ g ps = no_shuts

shut_methods : (x : Form) (ps : Parts) → Shuts false (methods x ps)
shut_methods form.Get (gap (part m none)) = shut_one refl
shut_methods form.Get _ = no_shuts
shut_methods form.Set (gap (part n (part m none))) = shut_cond (is_rest (kind_of n)) (λ e. no_shuts) (λ e. shut_one refl)
shut_methods form.Set _ = no_shuts
shut_methods _ (gap ps) = a_shut (λ k. joined_end (absent ∷ sign "(" ∷ []) (parameters body_pieces ps) (shut_parameters ps k)) no_shuts
shut_methods _ _ = no_shuts

shut_braced : (ps : Parts) (qs : List Piece) → ends_shut (braced ps qs) ≡ true
shut_braced ps qs = of (is_none ps)
  where
    of : (t : Bool) → ends_shut (sign "{" ∷ cond t [] (lay Rattle.language.specs.Pieces.deeper ∷ []) ++ qs ++ cond t [] (lay Rattle.language.specs.Pieces.shallower ∷ lay Rattle.language.specs.Pieces.line ∷ []) ++ sign "}" ∷ []) ≡ true
    of true = ends_last (sign "{" ∷ (qs ++ [])) (sign "}")
    of false = ends_last (sign "{" ∷ lay Rattle.language.specs.Pieces.deeper ∷ (qs ++ lay Rattle.language.specs.Pieces.shallower ∷ lay Rattle.language.specs.Pieces.line ∷ [])) (sign "}")

table_shut : (a : Role) (n : Tree) → shut_sort (sort_of a) ≡ true → Shuts false (spellings a n)
unfolding spellings
table_shut (chain_part f) (node k w g s e ps) h = shut_spines k g ps
table_shut name (node kind.Identifier w g s e ps) h = shut_cond (is_reserved w) (λ e. no_shuts) (λ e. shut_one refl)
table_shut name (node _ w g s e ps) h = no_shuts
table_shut word (node kind.Identifier w g s e ps) h = shut_one refl
table_shut word (node _ w g s e ps) h = no_shuts
table_shut private_name (node kind.PrivateIdentifier w g s e ps) h = shut_one refl
table_shut private_name (node _ w g s e ps) h = no_shuts
table_shut base (node kind.Super w g s e ps) h = shut_one refl
table_shut base (node _ w g s e ps) h = no_shuts
table_shut tagged_quasi (node kind.TemplateLiteral w g s e ps) h = a_shut (λ k. shut_chunks true ps k) no_shuts
table_shut tagged_quasi (node _ w g s e ps) h = no_shuts
table_shut (template_element x y) (node kind.TemplateElement w g s e ps) h = shut_one refl
table_shut (template_element x y) (node _ w g s e ps) h = no_shuts
table_shut (pattern b f) (node kind.ArrayPattern w g s e ps) h = shut_one (ends_last (sign "[" ∷ elements (pattern_element b) ps) (sign "]"))
table_shut (pattern b f) (node kind.ObjectPattern w g s e ps) h = shut_one (ends_last (sign "{" ∷ listed (object_pattern_part b) ps) (sign "}"))
table_shut (pattern b f) (node _ w g s e ps) h = no_shuts
table_shut (method x) (node kind.FunctionExpression w g s e ps) h = shut_cond _ (λ i. shut_methods x ps) (λ i. no_shuts)
table_shut (method x) (node _ w g s e ps) h = no_shuts
table_shut body (node kind.BlockStatement w g s e ps) h = shut_one (shut_braced ps (prologue true true (lay Rattle.language.specs.Pieces.line ∷ []) [] ps))
table_shut body (node _ w g s e ps) h = no_shuts
table_shut (block r) (node kind.BlockStatement w g s e ps) h = shut_one (shut_braced ps (lines (Rattle.language.specs.Pieces.item r) ps))
table_shut (block r) (node _ w g s e ps) h = no_shuts
table_shut class_body (node kind.ClassBody w g s e ps) h = shut_one (shut_braced ps (many (codes ";") ∷ member_lines ps))
table_shut class_body (node _ w g s e ps) h = no_shuts
table_shut (expr y i f) n h = absurd (sort_loose (nat_le 18 (precedence y)) h)
  where
    sort_loose : (t : Bool) → shut_sort (cond t Sort.a_tight Sort.an_operand) ≡ true → ⊥
    sort_loose true h = false≢true h
    sort_loose false h = false≢true h
table_shut _ n h = absurd (false≢true h)

-- the first way of such a node
pub way_shut : (a : Role) (n : Tree) → shut_sort (sort_of a) ≡ true → some_way (ways a n) ≡ true → ends_shut_at (first_way (ways a n)) ≡ true
unfolding ways ways_bare
way_shut a n h s = go (is_lean (bare n)) s
  where
    go : (t : Bool) → some_way (cond t (ways_of a (spellings a (bare n))) []) ≡ true → ends_shut_at (first_way (cond t (ways_of a (spellings a (bare n))) [])) ≡ true
    go false s = absurd (false≢true s)
    go true s = first_shut a false (spellings a (bare n)) (λ e. absurd (false≢true e)) (table_shut a (bare n) h) s

pub tight_shut : (a : Role) (n : Tree) → tight_role a ≡ true → is_literal (kind_of n) ≡ false → some_way (ways a n) ≡ true → ends_shut_at (first_way (ways a n)) ≡ true
unfolding ways ways_bare spellings
tight_shut (expr y i f) (node k w g x z ps) h l s = go (is_lean (bare (node k w g x z ps))) s
  where
    a : Role
    a = expr y i f

    go : (t : Bool) → some_way (cond t (ways_of (expr y i f) (expressions k w g (Rattle.tree.specs.Tree.bare_parts ps))) []) ≡ true → ends_shut_at (first_way (cond t (ways_of (expr y i f) (expressions k w g (Rattle.tree.specs.Tree.bare_parts ps))) [])) ≡ true
    go false s = absurd (false≢true s)
    go true s = first_shut (expr y i f) true (expressions k w g (Rattle.tree.specs.Tree.bare_parts ps)) (λ e. h) (shut_expressions k w g (Rattle.tree.specs.Tree.bare_parts ps) l) s
tight_shut _ n h l s = absurd (false≢true h)
