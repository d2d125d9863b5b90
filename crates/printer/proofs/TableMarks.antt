-- The shapes of expressions are those of the table.
use Rattle.std.proofs.Common.{◌≡◌, ℕ, Bool, true, false, not, cond, List, [], ◌∷◌, ◌++◌, take, drop, refl, sym, ap, ap₂, ◌∙◌, append-nil}
use Rattle.std.specs.Prelude.{Some, None, ◌&&◌, ◌||◌, codes, length}
use Rattle.std.proofs.lemmas.Bool.{false≢true, true≢false}
use Rattle.tree.specs.declared.kind.Kind.{Kind}
use Rattle.tree.specs.declared.kind.Kind.TheVariants as kind
use Rattle.tree.specs.declared.kind.Flags.{Flags}
use Rattle.tree.specs.declared.kind.Form.{Form}
use Rattle.tree.specs.declared.kind.Form.TheVariants as form
use Rattle.tree.specs.Tree.{Tree, node, Parts, none, part, gap}
use Rattle.tokens.specs.declared.token.TokenClass.TheVariants as class
use Rattle.language.specs.declared.Rank.{Rank}
use Rattle.language.specs.declared.Start.TheVariants.{Any, NoBrace}
use Rattle.language.specs.declared.Rank.TheVariants.{Assignment, Conditional, Exponentiation, Shift, Unary, Update, LeftHandSide, Call, Member, Primary}
use Rattle.language.specs.FirstPart.{lead, others}
use Rattle.language.specs.Vocabulary.{is, among, Operator, op_binary, op_power, op_update, is_update_op, operators, operator_among, operator_of, is_assignment, is_update_operator, is_prefix, is_reserved, literal_class, is_name, is_target, is_pattern, is_super, is_private, is_word_operator, is_open_number}
use Rattle.language.specs.Pieces as piece
use Rattle.language.specs.Pieces.{Piece, Slot, Spelling, at, only, put, sub, tok, lay, sign, term, sp, is_none, listed, elements, argument, parameters, unbroken, no_operand, open_parameters, close_parameters}
use Rattle.language.specs.Expressions.{named as named_pieces, yields, private_in, arrow_words, arrow_opening, arrow_closing, expressions, arguments, selector, after_number, in_brackets, template_elements, object_part, function_pieces, class_pieces, arrow_end, op_arrow, joined as joined_spelling, sequence, first_has_optional, binary_ways, logical_ways, infix_pieces}
use Rattle.language.specs.Grammar.{can_run}
use Rattle.language.proofs.table.LooserPositions.{same}
use Rattle.language.proofs.table.TidyTable.{new-fits, arrow-fits, bare_arrow}
use Rattle.language.proofs.table.Begins.{among_by}
use Rattle.spelling_table.specs.Outlines.{parts_after}
use Rattle.printer.specs.declared.site.Site.TheVariants.{Plain}
use Rattle.printer.specs.declared.part_sites.PartSites.{PartSites}
use Rattle.printer.specs.declared.part_sites.PartSites.TheVariants.{AllPlain}
use Rattle.printer.specs.Sites.{slot_site}
use Rattle.printer.specs.Bits.{Mark, text, here, loose, apart, piece_marks, Bit, own_text, Chain, nothing, commas, joined, Shape, fronted}
use Rattle.printer.specs.Shapes.{shape_by_kind, sign_of_text, sign_at, spelled, gapped, close_space, between, infix_bits, is_single, after_open_number}
use Rattle.printer.specs.declared.fragments.SignOperator.TheVariants.{Plus, Minus}
use Rattle.printer.specs.Printed.{marks_in, front_marks, chain_marks, deep, shape_marks}
use Rattle.printer.proofs.ListMarks.{listed-marks, elements-marks, parameters-marks, sequence-marks, chunks-marks, argument_standing, object_standing}
use Rattle.printer.proofs.FirstWayFragments.{Means, counts_up, Shaped, nowhere, one, two, shaped_if}

-- behind a list nothing is left
pub closed : (ms ns : List Mark) → ms ≡ ns → ms ≡ ns ++ []
closed ms ns e = e ∙ sym (append-nil ns)

abbrev pub with_form : Form → Flags → Flags
with_form x g = record g { form = x }

module _ (w : List ℕ) where
  pub arguments-marks : (i : ℕ) (ps : Parts) → can_run (arguments ps) ≡ true → piece_marks (arguments ps) ≡ text (codes "(") ∷ (chain_marks w AllPlain commas i ps ++ text (codes ")") ∷ [])
  arguments-marks i ps r = ap (λ t. text (codes "(") ∷ t) (listed-marks w argument argument_standing i ps (sign ")" ∷ []) r)

  pub parameters_of : (i : ℕ) (ps : Parts) → can_run (parameters (sign ")" ∷ sp ∷ put piece.body ∷ []) ps) ≡ true → piece_marks (parameters (sign ")" ∷ sp ∷ put piece.body ∷ []) ps) ≡ chain_marks w AllPlain (Rattle.printer.specs.Bits.parameters close_space) i ps ++ []
  parameters_of i ps r = closed _ _ (parameters-marks w close_space (sign ")" ∷ sp ∷ put piece.body ∷ []) refl i ps r)

  ended : (p : PartSites) (i : ℕ) (ps : Parts) → is_none ps ≡ true → chain_marks w p nothing i ps ≡ []
  ended p i none h = refl
  ended p i (part n ps) h = absurd (false≢true h)
  ended p i (gap ps) h = absurd (false≢true h)

  -- a node with no parts but its first ones
  pub fixed_shape : (s : Shape) (ps : Parts) (qs : List Piece) → s.chain ≡ nothing → s.opener ≡ [] → piece_marks qs ≡ front_marks w s.sites 0 s.front ps (marks_in w s.closer) → is_none (parts_after (length s.front) ps) ≡ true →
      piece_marks qs ≡ shape_marks w s ps
  fixed_shape s ps qs e f h c =
      h ∙ ap (λ t. front_marks w s.sites 0 s.front ps (t ++ marks_in w s.closer)) (sym (ended s.sites (length s.front) (parts_after (length s.front) ps) c))
      ∙ sym (ap₂ (λ o t. front_marks w s.sites 0 s.front ps (marks_in w o ++ deep t (chain_marks w s.sites t (length s.front) (parts_after (length s.front) ps)) (marks_in w s.closer))) f e)

  abbrev pub Of : Kind → Flags → Parts → List Mark
  Of k g ps = shape_marks w (shape_by_kind k w g ps) ps

  -- such a node, spelled so
  pub fixed_means : (k : Kind) (g : Flags) (ps : Parts) (z : Rank) (qs : List Piece) → (shape_by_kind k w g ps).chain ≡ nothing → (shape_by_kind k w g ps).opener ≡ [] →
      piece_marks qs ≡ front_marks w (shape_by_kind k w g ps).sites 0 (shape_by_kind k w g ps).front ps (marks_in w (shape_by_kind k w g ps).closer) →
      (counts_up (piece_marks qs) ps ≡ true → is_none (parts_after (length (shape_by_kind k w g ps).front) ps) ≡ true) → Means ps (Of k g ps) (at z qs)
  fixed_means k g ps z qs e f h c r u = fixed_shape (shape_by_kind k w g ps) ps qs e f h (c u)

  abbrev pub same_count : {b : Bool} → b ≡ true → b ≡ true
  same_count h = h

  fixed_one : (k : Kind) (g : Flags) (ps : Parts) (z : Rank) (qs : List Piece) → (shape_by_kind k w g ps).chain ≡ nothing → (shape_by_kind k w g ps).opener ≡ [] →
      piece_marks qs ≡ front_marks w (shape_by_kind k w g ps).sites 0 (shape_by_kind k w g ps).front ps (marks_in w (shape_by_kind k w g ps).closer) →
      (counts_up (piece_marks qs) ps ≡ true → is_none (parts_after (length (shape_by_kind k w g ps).front) ps) ≡ true) → Shaped ps (Of k g ps) (at z qs ∷ [])
  fixed_one k g ps z qs e f h c = one (fixed_means k g ps z qs e f h c)

  -- functions and classes, as expressions and as declarations
  -- what stands behind a function's words
  behind_words : (ps : Parts) → can_run ((sp ∷ named_pieces ps) ++ sign "(" ∷ parameters (sign ")" ∷ sp ∷ put piece.body ∷ []) (others ps)) ≡ true →
      piece_marks ((sp ∷ named_pieces ps) ++ sign "(" ∷ parameters (sign ")" ∷ sp ∷ put piece.body ∷ []) (others ps)) ≡ text (codes " ") ∷ here Plain ∷ text (codes "(") ∷ (chain_marks w AllPlain (Rattle.printer.specs.Bits.parameters close_space) 1 (others ps) ++ [])
  behind_words none r = absurd (false≢true r)
  behind_words (gap ps) r = ap (λ t. text (codes " ") ∷ here Plain ∷ text (codes "(") ∷ t) (parameters_of 1 ps r)
  behind_words (part n ps) r = ap (λ t. text (codes " ") ∷ here Plain ∷ text (codes "(") ∷ t) (parameters_of 1 ps r)

  pub function_means : (x : Form) (g : Flags) (ps : Parts) → Means ps (Of kind.FunctionExpression (with_form x g) ps) (at Primary (function_pieces x ps))
  function_means form.Init g ps r c = ap (λ t. text (codes "function") ∷ t) (behind_words ps r)
  function_means form.Generator g ps r c = ap (λ t. text (codes "function") ∷ text (codes "*") ∷ t) (behind_words ps r)
  function_means form.Async g ps r c = ap (λ t. text (codes "async") ∷ text (codes " ") ∷ text (codes "function") ∷ t) (behind_words ps r)
  function_means form.AsyncGenerator g ps r c = ap (λ t. text (codes "async") ∷ text (codes " ") ∷ text (codes "function") ∷ text (codes "*") ∷ t) (behind_words ps r)
  function_means _ g ps r c = absurd (false≢true r)

  pub class_means : (g : Flags) (ps : Parts) → Means ps (Of kind.ClassExpression g ps) (at Primary (class_pieces ps))
  class_means g none r c = absurd (false≢true r)
  class_means g (gap none) r c = absurd (false≢true r)
  class_means g (part n none) r c = absurd (false≢true r)
  class_means g (gap (gap ps)) r c = fixed_means kind.ClassExpression g (gap (gap ps)) Primary (class_pieces (gap (gap ps))) refl refl refl same_count r c
  class_means g (gap (part m ps)) r c = fixed_means kind.ClassExpression g (gap (part m ps)) Primary (class_pieces (gap (part m ps))) refl refl refl same_count r c
  class_means g (part n (gap ps)) r c = fixed_means kind.ClassExpression g (part n (gap ps)) Primary (class_pieces (part n (gap ps))) refl refl refl same_count r c
  class_means g (part n (part m ps)) r c = fixed_means kind.ClassExpression g (part n (part m ps)) Primary (class_pieces (part n (part m ps))) refl refl refl same_count r c

  -- Words, lists and templates

  named_space : (b : Bool) (qs : List Piece) → piece_marks (cond b (lay piece.loose ∷ []) [] ++ qs) ≡ cond b (loose ∷ []) [] ++ piece_marks qs
  named_space true qs = refl
  named_space false qs = refl

  pub array_means : (g : Flags) (ps : Parts) → Means ps (Of kind.ArrayExpression g ps) (at Primary ((sign "[" ∷ elements argument ps) ++ sign "]" ∷ []))
  array_means g ps r c = ap (λ t. text (codes "[") ∷ t) (elements-marks w argument argument_standing 0 ps (sign "]" ∷ []) r)

  pub object_means : (g : Flags) (ps : Parts) → Means ps (Of kind.ObjectExpression g ps) (at Primary ((sign "{" ∷ listed object_part ps) ++ sign "}" ∷ []))
  object_means g ps r c = ap (λ t. text (codes "{") ∷ t) (listed-marks w object_part object_standing 0 ps (sign "}" ∷ []) r)

  pub template_means : (g : Flags) (ps : Parts) → Means ps (Of kind.TemplateLiteral g ps) (at Primary (template_elements true ps))
  template_means g ps r c = closed _ _ (chunks-marks w true 0 ps refl refl r)

  -- Members and calls

  call_means : (z : Rank) (s : Slot) (g : Flags) (ps : Parts) → slot_site s ≡ Plain → g.optional ≡ false → Means ps (Of kind.CallExpression g ps) (at z (sub s ∷ arguments (others ps)))
  call_means z s g ps e o r c = ap₂ (λ x t. here x ∷ t) e (arguments-marks 1 (others ps) r) ∙ ap (λ b. shape_marks w (Rattle.printer.specs.Shapes.call_shape b) ps) (sym o)

  calls : (g : Flags) (ps : Parts) → Shaped ps (Of kind.CallExpression g ps) (expressions kind.CallExpression w g ps)
  unfolding expressions
  calls g ps = shaped_if g.optional (λ e. nowhere) (λ e. shaped_if (is_super (lead ps)) (λ u. one (call_means Call (piece.fixed piece.base) g ps refl e)) (λ u. one (call_means Call (piece.lead Call) g ps refl e)))

  new_means : (g : Flags) (ps : Parts) → Means ps (Of kind.NewExpression g ps) (at Member (term "new" ∷ sp ∷ put (piece.expr Member true Any) ∷ arguments (others ps)))
  new_means g ps r c = ap (λ t. text (codes "new") ∷ text (codes " ") ∷ here Plain ∷ t) (arguments-marks 1 (others ps) r)

  news : (g : Flags) (ps : Parts) → Shaped ps (Of kind.NewExpression g ps) (expressions kind.NewExpression w g ps)
  unfolding expressions
  news g none = two (new_means g none) (λ a h. new-fits {a = a} {c = a} same h)
  news g (gap none) = two (new_means g (gap none)) (λ a h. new-fits {a = a} {c = a} same h)
  news g (part n none) = two (new_means g (part n none)) (λ a h. new-fits {a = a} {c = a} same h)
  news g (gap (gap ps)) = one (new_means g (gap (gap ps)))
  news g (gap (part m ps)) = one (new_means g (gap (part m ps)))
  news g (part n (gap ps)) = one (new_means g (part n (gap ps)))
  news g (part n (part m ps)) = one (new_means g (part n (part m ps)))

  -- Arrows

  arrow_marks : (g : Flags) → piece_marks (arrow_end g) ≡ text (codes " ") ∷ text (codes "=>") ∷ text (codes " ") ∷ here Plain ∷ []
  arrow_marks g = of g.expression
    where
      of : (b : Bool) → piece_marks (unbroken ∷ sp ∷ sign "=>" ∷ sp ∷ cond b (sub (piece.tail Assignment NoBrace)) (put piece.body) ∷ []) ≡ text (codes " ") ∷ text (codes "=>") ∷ text (codes " ") ∷ here Plain ∷ []
      of true = refl
      of false = refl

  arrow_after : (x : Form) (g : Flags) → piece_marks (arrow_closing x ∷ arrow_end g) ≡ marks_in w (spelled ")" ∷ between "=>") ++ here Plain ∷ []
  arrow_after x g = behind x ∙ ap (λ t. text (codes ")") ∷ t) (arrow_marks g)
    where
      behind : (x : Form) → piece_marks (arrow_closing x ∷ arrow_end g) ≡ text (codes ")") ∷ piece_marks (arrow_end g)
      behind form.Async = refl
      behind _ = refl

  abbrev in_parameters : Form → Flags → Parts → List Piece
  in_parameters x g ps = arrow_words x ++ arrow_opening x ∷ parameters (arrow_closing x ∷ arrow_end g) ps

  behind_open : (x : Form) (g : Flags) (ps : Parts) → can_run (parameters (arrow_closing x ∷ arrow_end g) ps) ≡ true → piece_marks (parameters (arrow_closing x ∷ arrow_end g) ps) ≡ chain_marks w AllPlain (Rattle.printer.specs.Bits.parameters (spelled ")" ∷ between "=>")) 0 ps ++ []
  behind_open x g ps r = closed _ _ (parameters-marks w (spelled ")" ∷ between "=>") (arrow_closing x ∷ arrow_end g) (arrow_after x g) 0 ps r)

  parenthesised : (x : Form) (g : Flags) (ps : Parts) → is_single ps ≡ false → Means ps (Of kind.ArrowFunctionExpression (with_form x g) ps) (at Assignment (in_parameters x g ps))
  parenthesised form.Init g ps e r c = ap (λ t. text (codes "(") ∷ t) (behind_open form.Init g ps r) ∙ ap (λ b. shape_marks w (Rattle.printer.specs.Shapes.arrow_shape false b) ps) (sym e)
  parenthesised form.Async g ps e r c = ap (λ t. text (codes "async") ∷ text (codes " ") ∷ text (codes "(") ∷ t) (behind_open form.Async g ps r) ∙ ap (λ b. shape_marks w (Rattle.printer.specs.Shapes.arrow_shape true b) ps) (sym e)
  parenthesised _ g ps e r c = absurd (false≢true r)

  single_means : (x : Form) (g : Flags) (n b : Tree) → is_single (part n (part b none)) ≡ true → Means (part n (part b none)) (Of kind.ArrowFunctionExpression (with_form x g) (part n (part b none))) (at Assignment (bare_arrow x g))
  single_means form.Init g n b e r c = ap (λ t. here Plain ∷ t) (arrow_marks g) ∙ ap (λ v. shape_marks w (Rattle.printer.specs.Shapes.arrow_shape false v) (part n (part b none))) (sym e)
  single_means form.Async g n b e r c = ap (λ t. text (codes "async") ∷ text (codes " ") ∷ here Plain ∷ t) (arrow_marks g) ∙ ap (λ v. shape_marks w (Rattle.printer.specs.Shapes.arrow_shape true v) (part n (part b none))) (sym e)
  single_means _ g n b e r c = absurd (false≢true r)

  arrow_ways : (x : Form) (g : Flags) (ps : Parts) → Shaped ps (Of kind.ArrowFunctionExpression (with_form x g) ps) (op_arrow (with_form x g) ps)
  arrow_ways x g none = one (parenthesised x g none refl)
  arrow_ways x g (gap ps) = one (parenthesised x g (gap ps) refl)
  arrow_ways x g (part n none) = one (parenthesised x g (part n none) refl)
  arrow_ways x g (part n (part b (part m ps))) = one (parenthesised x g (part n (part b (part m ps))) refl)
  arrow_ways x g (part n (part b (gap ps))) = one (parenthesised x g (part n (part b (gap ps))) refl)
  arrow_ways x g (part n (gap ps)) = one (parenthesised x g (part n (gap ps)) refl)
  arrow_ways x g (part (node kind.Identifier v h s e qs) (part b none)) = two (single_means x g (node kind.Identifier v h s e qs) b refl) (λ a i. arrow-fits x a g i)
  arrow_ways x g (part (node k v h s e qs) (part b none)) = one (parenthesised x g (part (node k v h s e qs) (part b none)) refl)

  -- Members

  lead_open : (n : Tree) (us : Parts) (g : Flags) (qs : List Piece) → piece_marks (after_number (part n us) g ++ qs) ≡ cond (not g.computed && after_open_number (part n us)) (loose ∷ []) [] ++ piece_marks qs
  lead_open (node kind.Literal v h s e ps) us g qs = named_space (not g.computed && is_open_number (literal_class v) v) qs
  lead_open (node _ v h s e ps) us g qs = named_space (not g.computed && false) qs

  dropped : (b : Bool) (ms : List Mark) → ms ≡ cond (not b && false) (loose ∷ []) [] ++ ms
  dropped true ms = refl
  dropped false ms = refl

  after_marks : (ps : Parts) (g : Flags) (qs : List Piece) → piece_marks (after_number ps g ++ qs) ≡ cond (not g.computed && after_open_number ps) (loose ∷ []) [] ++ piece_marks qs
  after_marks none g qs = dropped g.computed (piece_marks qs)
  after_marks (gap ps) g qs = dropped g.computed (piece_marks qs)
  after_marks (part n ps) g qs = lead_open n ps g qs

  super_open : (ps : Parts) → is_super (lead ps) ≡ true → after_open_number ps ≡ false
  super_open none h = refl
  super_open (gap ps) h = refl
  super_open (part (node kind.Super v h s e us) ps) x = refl
  super_open (part (node kind.Literal v h s e us) ps) x = absurd (false≢true x)
  super_open (part (node _ v h s e us) ps) x = refl

  abbrev property_piece : Bool → Piece
  property_piece v = put (cond v piece.private_name piece.word)

  abbrev selector_by : Bool → Bool → List Piece
  selector_by u v = cond u in_brackets (sign "." ∷ property_piece v ∷ [])

  -- what is asked of a property, whatever its kind
  property_plain : (v : Bool) → slot_site (piece.fixed (cond v piece.private_name piece.word)) ≡ Plain
  property_plain true = refl
  property_plain false = refl

  abbrev plainly : Bool → List Mark
  plainly u = cond u (text (codes "[") ∷ here Plain ∷ text (codes "]") ∷ []) (text (codes ".") ∷ here Plain ∷ [])

  selector_marks : (u v : Bool) → piece_marks (selector_by u v) ≡ plainly u
  selector_marks true v = refl
  selector_marks false v = ap (λ x. text (codes ".") ∷ here x ∷ []) (property_plain v)

  member_fits : (s : Slot) (g : Flags) (ps : Parts) (z : Rank) (j : Kind) (qs : List Piece) → slot_site s ≡ Plain → g.optional ≡ false → piece_marks qs ≡ cond (not g.computed && after_open_number ps) (loose ∷ []) [] ++ piece_marks (selector g j) → Means ps (Of kind.MemberExpression g ps) (at z (sub s ∷ qs))
  member_fits s g ps z j qs e o h r c =
      ap₂ (λ x t. here x ∷ t) e (h ∙ ap (λ t. cond (not g.computed && after_open_number ps) (loose ∷ []) [] ++ t) (selector_marks g.computed (is_private j)))
      ∙ of g.computed (after_open_number ps) (sym (ap (λ t. counts_up t (others ps)) (h ∙ ap (λ t. cond (not g.computed && after_open_number ps) (loose ∷ []) [] ++ t) (selector_marks g.computed (is_private j)))) ∙ c)
      ∙ ap (λ b. shape_marks w (Rattle.printer.specs.Shapes.member_shape b g.computed (after_open_number ps)) ps) (sym o)
    where
      of : (u v : Bool) → counts_up (cond (not u && v) (loose ∷ []) [] ++ plainly u) (others ps) ≡ true →
          here Plain ∷ (cond (not u && v) (loose ∷ []) [] ++ plainly u) ≡ shape_marks w (Rattle.printer.specs.Shapes.member_shape false u v) ps
      of true true k = fixed_shape (Rattle.printer.specs.Shapes.member_shape false true true) ps (sub piece.callee ∷ in_brackets) refl refl refl k
      of true false k = fixed_shape (Rattle.printer.specs.Shapes.member_shape false true false) ps (sub piece.callee ∷ in_brackets) refl refl refl k
      of false true k = fixed_shape (Rattle.printer.specs.Shapes.member_shape false false true) ps (sub piece.callee ∷ lay piece.loose ∷ sign "." ∷ put piece.word ∷ []) refl refl refl k
      of false false k = fixed_shape (Rattle.printer.specs.Shapes.member_shape false false false) ps (sub piece.callee ∷ sign "." ∷ put piece.word ∷ []) refl refl refl k

  members : (g : Flags) (ps : Parts) → Shaped ps (Of kind.MemberExpression g ps) (expressions kind.MemberExpression w g ps)
  unfolding expressions
  members g ps = shaped_if g.optional (λ e. nowhere) (λ e. shaped_if (is_super (lead ps))
      (λ u. one (member_fits (piece.fixed piece.base) g ps Member kind.Identifier (selector g kind.Identifier) refl e (sym (ap (λ b. cond b (loose ∷ []) [] ++ piece_marks (selector g kind.Identifier)) (none_behind u)))))
      (λ u. one (member_fits piece.callee g ps Member (lead (others ps)) (after_number ps g ++ selector g (lead (others ps))) refl e (after_marks ps g (selector g (lead (others ps)))))))
    where
      never : (b : Bool) → (not b && false) ≡ false
      never true = refl
      never false = refl

      none_behind : is_super (lead ps) ≡ true → (not g.computed && after_open_number ps) ≡ false
      none_behind u = ap (λ b. not g.computed && b) (super_open ps u) ∙ never g.computed

  -- Operations

  no_signs : sign_of_text w ≡ None → (is w "+" ≡ false) × (is w "++" ≡ false) × (is w "-" ≡ false) × (is w "--" ≡ false)
  no_signs h = of (is w "+") (is w "++") (is w "-") (is w "--") h
    where
      of : (a b c d : Bool) → cond (a || (b || false)) (Some Plus) (cond (c || (d || false)) (Some Minus) None) ≡ None → (a ≡ false) × (b ≡ false) × (c ≡ false) × (d ≡ false)
      of true b c d k = absurd (cc)
      of false true c d k = absurd (cc)
      of false false true d k = absurd (cc)
      of false false false true k = absurd (cc)
      of false false false false k = (refl, refl, refl, refl)

  abbrev Rows : Type 0
  Rows = List (List Prim.Native.String.String × Operator)

  -- the rows of the table before and behind that of `++` and `--`
  abbrev before_steps : Rows
  before_steps = take 12 operators

  abbrev behind_steps : Rows
  behind_steps = drop 13 operators

  abbrev no_steps : Rows → Bool
  no_steps [] = true
  no_steps (row ∷ rows) = not (is_update_op row.1) && no_steps rows

  by_row : (b : Bool) (o : Operator) (r : Operator) → not (is_update_op o) ≡ true → is_update_op (cond b o r) ≡ true → is_update_op r ≡ true
  by_row false o r e h = h
  by_row true o r e h = let i : not true ≡ true = sym (ap not h) ∙ e in absurd (cc)

  halves : (u v : Bool) → (u && v) ≡ true → (u ≡ true) × (v ≡ true)
  halves true v h = (refl, h)
  halves false v h = absurd (false≢true h)

  none_steps : (rows : Rows) → no_steps rows ≡ true → is_update_op (operator_among w rows) ≡ true → ⊥
  none_steps [] e h = cc
  none_steps (row ∷ rows) e h = let q = halves (not (is_update_op row.1)) (no_steps rows) e in none_steps rows q.1 (by_row (among w row.0) row.1 (operator_among w rows) q.0 h)

  row_found : (b : Bool) (r : Operator) → (is_update_op r ≡ true → ⊥) → is_update_op (cond b op_update r) ≡ true → b ≡ true
  row_found true r n h = refl
  row_found false r n h = absurd (n h)

  found_step : (xs : Rows) (ss : List Prim.Native.String.String) (ys : Rows) → no_steps xs ≡ true → no_steps ys ≡ true → is_update_op (operator_among w (xs ++ (ss, op_update) ∷ ys)) ≡ true → among w ss ≡ true
  found_step [] ss ys e f h = row_found (among w ss) (operator_among w ys) (none_steps ys f) h
  found_step (row ∷ xs) ss ys e f h =
      let q = halves (not (is_update_op row.1)) (no_steps xs) e in
      found_step xs ss ys q.1 f (by_row (among w row.0) row.1 (operator_among w (xs ++ (ss, op_update) ∷ ys)) q.0 h)

  only_steps : is_update_operator w ≡ true → among w ("++" ∷ "--" ∷ []) ≡ true
  only_steps h = found_step before_steps ("++" ∷ "--" ∷ []) behind_steps refl refl h

  first_true : (a b : Bool) → not (a && b) ≡ false → a ≡ true
  first_true true b h = refl
  first_true false b h = absurd (true≢false h)

  no_step_sign : is_update_operator w ≡ true → sign_of_text w ≡ None → ⊥
  no_step_sign h n =
      let q = no_signs n in
      let i : false ≡ true = sym (ap₂ (λ a b. a || (b || false)) q.1 q.3) ∙ only_steps h in
      cc

  updates : (g : Flags) (ps : Parts) → sign_at kind.UpdateExpression w g ≡ None → Shaped ps (Of kind.UpdateExpression g ps) (expressions kind.UpdateExpression w g ps)
  unfolding expressions
  updates g ps n = shaped_if (not (is_update_operator w && is_target (lead ps))) (λ e. nowhere) (λ e. shaped_if g.prefix
      (λ u. absurd (no_step_sign (first_true (is_update_operator w) (is_target (lead ps)) e) (sym (ap (λ b. cond b (sign_of_text w) None) u) ∙ n)))
      (λ u. one (λ r c. fixed_shape (Rattle.printer.specs.Shapes.update_shape false) ps (sub (piece.lead LeftHandSide) ∷ unbroken ∷ tok class.Punctuator w ∷ []) refl refl refl c ∙ ap (λ b. shape_marks w (Rattle.printer.specs.Shapes.update_shape b) ps) (sym u))))

  sign_spaces : (a b : Bool) → a ≡ false → b ≡ false → (qs : List Piece) → piece_marks (cond a (lay (piece.apart 43) ∷ []) (cond b (lay (piece.apart 45) ∷ []) []) ++ qs) ≡ piece_marks qs
  sign_spaces true b e f qs = absurd (cc)
  sign_spaces false true e f qs = absurd (cc)
  sign_spaces false false e f qs = refl

  abbrev word_shape_by : Bool → Shape
  word_shape_by b = fronted (cond b (own_text ∷ gapped ∷ []) (own_text ∷ []) ∷ []) []

  unaries : (g : Flags) (ps : Parts) → sign_at kind.UnaryExpression w g ≡ None → Shaped ps (Of kind.UnaryExpression g ps) (expressions kind.UnaryExpression w g ps)
  unfolding expressions
  unaries g ps n = shaped_if (not (is_prefix w)) (λ e. nowhere) (λ e. shaped_if (is_word_operator w)
      (λ u. one (λ r c. fixed_shape (word_shape_by true) ps (tok class.IdentifierName w ∷ sp ∷ put (piece.expr Unary true Any) ∷ []) refl refl refl c ∙ ap (λ b. shape_marks w (word_shape_by b) ps) (sym u)))
      (λ u. one (λ r c.
      ap (λ t. text w ∷ t) (sign_spaces (is w "+") (is w "-") (no_signs n).0 (no_signs n).2 (put (piece.expr Unary true Any) ∷ []))
      ∙ fixed_shape (word_shape_by false) ps (tok class.Punctuator w ∷ put (piece.expr Unary true Any) ∷ []) refl refl refl
      (sym (ap (λ t. counts_up t ps) (sign_spaces (is w "+") (is w "-") (no_signs n).0 (no_signs n).2 (put (piece.expr Unary true Any) ∷ []))) ∙ c)
      ∙ ap (λ b. shape_marks w (word_shape_by b) ps) (sym u))))

  infix_fixed : (k : Kind) (g : Flags) (ps : Parts) (z : Rank) (x y : Slot) → slot_site x ≡ Plain → slot_site y ≡ Plain → shape_by_kind k w g ps ≡ fronted ([] ∷ infix_bits ∷ []) [] → Means ps (Of k g ps) (record { rank = z; needs_in = false; pieces = sub x ∷ infix_pieces w ++ sub y ∷ [] })
  infix_fixed k g ps z x y a b e r c = fixed_shape (fronted ([] ∷ infix_bits ∷ []) []) ps (sub x ∷ infix_pieces w ++ sub y ∷ []) refl refl (ap₂ (λ u v. here u ∷ text (codes " ") ∷ text w ∷ text (codes " ") ∷ here v ∷ []) a b) c ∙ ap (λ s. shape_marks w s ps) (sym e)

  joins : (k : Kind) (g : Flags) (ps : Parts) (z q : Rank) → shape_by_kind k w g ps ≡ fronted ([] ∷ infix_bits ∷ []) [] → Means ps (Of k g ps) (joined_spelling w z q)
  joins k g ps z q e r c = infix_fixed k g ps z (piece.left z) (piece.tail q Any) refl refl e r c

  binaries : (g : Flags) (ps : Parts) (o : Operator) → Shaped ps (Of kind.BinaryExpression g ps) (binary_ways w o)
  binaries g ps (op_binary false z q) = one (joins kind.BinaryExpression g ps z q refl)
  binaries g ps (op_binary true z q) = nowhere
  binaries g ps op_power = one (infix_fixed kind.BinaryExpression g ps Exponentiation (piece.lead Update) (piece.fixed (piece.expr Exponentiation true Any)) refl refl refl)
  binaries g ps _ = nowhere

  private_means : (g : Flags) (ps : Parts) → is w "in" ≡ true → Means ps (Of kind.BinaryExpression g ps) private_in
  private_means g ps e r c = ap (λ v. here Plain ∷ text (codes " ") ∷ text v ∷ text (codes " ") ∷ here Plain ∷ []) (sym (among_by (λ v. v ≡ codes "in") w ("in" ∷ []) (ap (λ b. b || false) e) (refl, tt))) ∙
      fixed_shape (fronted ([] ∷ infix_bits ∷ []) []) ps (put piece.private_name ∷ infix_pieces w ++ sub (piece.tail Shift Any) ∷ []) refl refl refl c

  logicals : (g : Flags) (ps : Parts) (o : Operator) → Shaped ps (Of kind.LogicalExpression g ps) (logical_ways w o)
  logicals g ps (op_binary true z q) = one (joins kind.LogicalExpression g ps z q refl)
  logicals g ps (op_binary false z q) = nowhere
  logicals g ps _ = nowhere

  assignments : (g : Flags) (ps : Parts) → Shaped ps (Of kind.AssignmentExpression g ps) (expressions kind.AssignmentExpression w g ps)
  unfolding expressions
  assignments g ps = shaped_if (not (is_assignment w)) (λ e. nowhere) (λ e. shaped_if (is_target (lead ps)) (λ u. one (infix_fixed kind.AssignmentExpression g ps Assignment (piece.lead LeftHandSide) (piece.tail Assignment Any) refl refl refl))
      (λ u. shaped_if (is w "=" && is_pattern (lead ps)) (λ v. one (infix_fixed kind.AssignmentExpression g ps Assignment piece.lead_pattern (piece.tail Assignment Any) refl refl refl)) (λ v. nowhere)))

  -- a `yield`, by its form
  yields_shaped : (x : Form) (g : Flags) (ps : Parts) → Shaped ps (Of kind.YieldExpression (with_form x g) ps) (yields x ps)
  yields_shaped form.Init g (gap none) = fixed_one kind.YieldExpression (with_form form.Init g) (gap none) Assignment _ refl refl refl same_count
  yields_shaped form.Init g (part n none) = fixed_one kind.YieldExpression (with_form form.Init g) (part n none) Assignment _ refl refl refl same_count
  yields_shaped form.Generator g (part n none) = fixed_one kind.YieldExpression (with_form form.Generator g) (part n none) Assignment _ refl refl refl same_count
  yields_shaped form.Init g none = nowhere
  yields_shaped form.Init g (gap (gap ps)) = nowhere
  yields_shaped form.Init g (gap (part m ps)) = nowhere
  yields_shaped form.Init g (part n (gap ps)) = nowhere
  yields_shaped form.Init g (part n (part m ps)) = nowhere
  yields_shaped form.Generator g none = nowhere
  yields_shaped form.Generator g (gap ps) = nowhere
  yields_shaped form.Generator g (part n (gap ps)) = nowhere
  yields_shaped form.Generator g (part n (part m ps)) = nowhere
  yields_shaped _ g ps = nowhere

  sequences : (g : Flags) (ps : Parts) → Shaped ps (Of kind.SequenceExpression g ps) (expressions kind.SequenceExpression w g ps)
  unfolding expressions
  sequences g none = nowhere
  sequences g (part n none) = nowhere
  sequences g (gap none) = nowhere
  sequences g (part n (part m ps)) = one (λ r c. closed _ _ (sequence-marks w 0 (part m ps) n r))
  sequences g (part n (gap ps)) = one (λ r c. absurd (false≢true r))
  sequences g (gap (part m ps)) = one (λ r c. closed _ _ (sequence-marks w 0 (part m ps) m r))
  sequences g (gap (gap ps)) = one (λ r c. absurd (false≢true r))

  tagged_fixed : (g : Flags) (ps : Parts) → Means ps (Of kind.TaggedTemplateExpression g ps) (at Member (sub piece.callee ∷ put piece.tagged_quasi ∷ []))
  tagged_fixed g ps = fixed_means kind.TaggedTemplateExpression g ps Member (sub piece.callee ∷ put piece.tagged_quasi ∷ []) refl refl refl same_count

  literals : (g : Flags) (ps : Parts) → Shaped ps (Of kind.Literal g ps) (expressions kind.Literal w g ps)
  unfolding expressions
  literals g ps = shaped_if (is_name (literal_class w) && not (among w ("true" ∷ "false" ∷ "null" ∷ []))) (λ e. nowhere) (λ e. fixed_one kind.Literal g ps Primary _ refl refl refl same_count)

  -- every expression, but for the signs that may not touch themselves
  pub expressions_shaped : (k : Kind) (g : Flags) (ps : Parts) → sign_at k w g ≡ None → Shaped ps (Of k g ps) (expressions k w g ps)
  unfolding expressions
  expressions_shaped kind.Identifier g ps n = shaped_if (is_reserved w) (λ e. nowhere) (λ e. fixed_one kind.Identifier g ps Primary _ refl refl refl same_count)
  expressions_shaped kind.Literal g ps n = literals g ps
  expressions_shaped kind.ThisExpression g ps n = fixed_one kind.ThisExpression g ps Primary _ refl refl refl same_count
  expressions_shaped kind.ArrayExpression g ps n = one (array_means g ps)
  expressions_shaped kind.ObjectExpression g ps n = one (object_means g ps)
  expressions_shaped kind.FunctionExpression g ps n = one (function_means g.form g ps)
  expressions_shaped kind.ClassExpression g ps n = one (class_means g ps)
  expressions_shaped kind.TemplateLiteral g ps n = one (template_means g ps)
  expressions_shaped kind.ArrowFunctionExpression g ps n = arrow_ways g.form g ps
  expressions_shaped kind.TaggedTemplateExpression g ps n = one (tagged_fixed g ps)
  expressions_shaped kind.MemberExpression g ps n = members g ps
  expressions_shaped kind.CallExpression g ps n = calls g ps
  expressions_shaped kind.NewExpression g ps n = news g ps
  expressions_shaped kind.MetaProperty g ps n = shaped_if (Rattle.language.specs.Expressions.lead_is ps "new" && Rattle.language.specs.Expressions.lead_is (others ps) "target") (λ e. fixed_one kind.MetaProperty g ps Member _ refl refl refl same_count)
      (λ e. shaped_if (Rattle.language.specs.Expressions.lead_is ps "import" && Rattle.language.specs.Expressions.lead_is (others ps) "meta") (λ u. fixed_one kind.MetaProperty g ps Member _ refl refl refl same_count) (λ u. nowhere))
  expressions_shaped kind.ImportExpression g ps n = fixed_one kind.ImportExpression g ps Call _ refl refl refl same_count
  expressions_shaped kind.ChainExpression g ps n = shaped_if (first_has_optional ps) (λ e. fixed_one kind.ChainExpression g ps LeftHandSide _ refl refl refl same_count) (λ e. nowhere)
  expressions_shaped kind.UpdateExpression g ps n = updates g ps n
  expressions_shaped kind.UnaryExpression g ps n = unaries g ps n
  expressions_shaped kind.AwaitExpression g ps n = fixed_one kind.AwaitExpression g ps Unary _ refl refl refl same_count
  expressions_shaped kind.YieldExpression g ps n = yields_shaped g.form g ps
  expressions_shaped kind.BinaryExpression g ps n = shaped_if (is_private (lead ps)) (λ e. shaped_if (is w "in") (λ u. one (private_means g ps u)) (λ u. nowhere)) (λ e. binaries g ps (operator_of w))
  expressions_shaped kind.LogicalExpression g ps n = logicals g ps (operator_of w)
  expressions_shaped kind.ConditionalExpression g ps n = fixed_one kind.ConditionalExpression g ps Conditional _ refl refl refl same_count
  expressions_shaped kind.AssignmentExpression g ps n = assignments g ps
  expressions_shaped kind.SequenceExpression g ps n = sequences g ps
  expressions_shaped _ g ps n = nowhere
