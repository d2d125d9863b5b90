-- The shapes of nodes that are no expressions are those of the table.
use Rattle.std.proofs.Common.{◌≡◌, ℕ, Bool, true, false, not, cond, List, [], ◌∷◌, ◌++◌, refl, sym, ap, ap₂, ◌∙◌, append_assoc}
use Rattle.std.specs.Prelude.{Some, codes, length, nat_le}
use Rattle.std.proofs.lemmas.Bool.{false≢true}
use Rattle.tree.specs.declared.kind.Kind.{Kind}
use Rattle.tree.specs.declared.kind.Kind.TheVariants as kind
use Rattle.tree.specs.declared.kind.Flags.{Flags}
use Rattle.tree.specs.declared.kind.Form.{Form}
use Rattle.tree.specs.declared.kind.Form.TheVariants as form
use Rattle.tree.specs.Tree.{Parts, none, part, gap}
use Rattle.language.specs.declared.Rank.TheVariants.{Expression, Assignment, Primary}
use Rattle.language.specs.declared.Start.TheVariants.{Any}
use Rattle.language.specs.FirstPart.{lead, others}
use Rattle.language.specs.Vocabulary.{is, among}
use Rattle.language.specs.Pieces as piece
use Rattle.language.specs.Pieces.{Role, Piece, Slot, Spelling, at, only, only_at, put, put_at, sub, tok, may, many, ahead, unbroken, no_operand, ending, absent, never, lay, sign, term, sp, is_none, listed, elements, parameters, pattern_element, open_parameters, close_parameters, bound, with_default}
use Rattle.language.specs.Expressions.{chain_parts, member_link, call_link, arguments, selector, in_brackets, first_has_optional, chain_element, properties, pattern_properties, keyed, object_pattern_part, shorthand_pattern, assignment, methods}
use Rattle.language.specs.Statements.{statements, items, openings, braced, lines as table_lines, prologue, member_lines, members, class_members, heads, declarator_ways, cases, handlers, declaration, declarators, is_declaration, for_left, for_words, whole, end_of}
use Rattle.language.specs.Edges.{last_edge, ends_in_if}
use Rattle.language.specs.Grammar.{can_run}
use Rattle.spelling_table.specs.Outlines.{parts_after}
use Rattle.printer.specs.declared.site.Site.{Site}
use Rattle.printer.specs.declared.site.Site.TheVariants.{Plain, ForDeclaration}
use Rattle.printer.specs.declared.part_sites.PartSites.TheVariants.{AllPlain, LoopHead}
use Rattle.printer.specs.Sites.{site_of, head_site}
use Rattle.printer.specs.Bits.{Mark, text, line, here, deeper, shallower, piece_marks, nothing, lines, asking}
use Rattle.printer.specs.Shapes.{shape_by_kind, method_shape, head_shape}
use Rattle.printer.specs.Printed.{marks_in, front_marks, chain_marks, shape_marks}
use Rattle.printer.proofs.ListMarks.{Standing, stands, refused, put_standing, Asks, bound_plain, lines-marks, members-marks, body-marks, declarators-marks}
use Rattle.printer.proofs.FirstWayFragments.{Means, counts_up, Shaped, nowhere, one, shaped_if}
use Rattle.printer.proofs.TableMarks.{with_form, fixed_shape, fixed_means, function_means, class_means}

module _ (w : List ℕ) where
  abbrev pub Of : Kind → Flags → Parts → List Mark
  Of k g ps = shape_marks w (shape_by_kind k w g ps) ps

  -- a node with no parts but its first ones, spelled so
  pub plain_one : (k : Kind) (g : Flags) (ps : Parts) (qs : List Piece) → (shape_by_kind k w g ps).chain ≡ nothing → (shape_by_kind k w g ps).opener ≡ [] →
      piece_marks qs ≡ front_marks w (shape_by_kind k w g ps).sites 0 (shape_by_kind k w g ps).front ps (marks_in w (shape_by_kind k w g ps).closer) →
      (counts_up (piece_marks qs) ps ≡ true → is_none (parts_after (length (shape_by_kind k w g ps).front) ps) ≡ true) → Shaped ps (Of k g ps) (only qs)
  plain_one k g ps qs e f h c = one (fixed_means w k g ps Primary qs e f h c)

  -- Braces

  filled_braces : (xs ys zs : List Piece) (i : ℕ) (us : Parts) → can_run ((xs ++ ys) ++ zs) ≡ true → (can_run (xs ++ (ys ++ zs)) ≡ true → piece_marks (xs ++ (ys ++ zs)) ≡ chain_marks w AllPlain lines i us ++ piece_marks (ys ++ zs)) →
      piece_marks ((xs ++ ys) ++ zs) ≡ chain_marks w AllPlain lines i us ++ piece_marks (ys ++ zs)
  filled_braces xs ys zs i us r h = ap piece_marks (append_assoc xs ys zs) ∙ h (sym (ap can_run (append_assoc xs ys zs)) ∙ r)

  pub block_means : (g : Flags) (a : Role) → site_of a ≡ Plain → (ps : Parts) → Means ps (Of kind.BlockStatement g ps) (at Primary (braced ps (table_lines a ps)))
  block_means g a e none r c = refl
  block_means g a e (gap ps) r c = absurd (false≢true r)
  block_means g a e (part n ps) r c = ap (λ t. text (codes "{") ∷ deeper ∷ t) (filled_braces (table_lines a (part n ps)) (lay piece.shallower ∷ lay piece.line ∷ []) (sign "}" ∷ []) 0 (part n ps) r (lines-marks w a e 0 (part n ps) (lay piece.shallower ∷ lay piece.line ∷ sign "}" ∷ [])))

  pub body_means : (g : Flags) (ps : Parts) → Means ps (Of kind.BlockStatement g ps) (at Primary (braced ps (prologue true true (lay piece.line ∷ []) [] ps)))
  body_means g none r c = refl
  body_means g (gap ps) r c = absurd (false≢true r)
  body_means g (part n ps) r c = ap (λ t. text (codes "{") ∷ deeper ∷ t) (filled_braces (prologue true true (lay piece.line ∷ []) [] (part n ps)) (lay piece.shallower ∷ lay piece.line ∷ []) (sign "}" ∷ []) 0 (part n ps) r (body-marks w true true 0 (part n ps) (lay piece.shallower ∷ lay piece.line ∷ sign "}" ∷ [])))

  pub class_body_means : (g : Flags) (ps : Parts) → Means ps (Of kind.ClassBody g ps) (at Primary (braced ps (many (codes ";") ∷ member_lines ps)))
  class_body_means g none r c = refl
  class_body_means g (gap ps) r c = absurd (false≢true r)
  class_body_means g (part n ps) r c = ap (λ t. text (codes "{") ∷ deeper ∷ t) (filled_braces (member_lines (part n ps)) (lay piece.shallower ∷ lay piece.line ∷ []) (sign "}" ∷ []) 0 (part n ps) r (members-marks w 0 (part n ps) (lay piece.shallower ∷ lay piece.line ∷ sign "}" ∷ [])))

  -- a static block
  pub static_block_means : (g : Flags) (ps : Parts) → Means ps (Of kind.StaticBlock g ps) (at Primary (term "static" ∷ sp ∷ braced ps (table_lines (piece.item false) ps)))
  static_block_means g none r c = refl
  static_block_means g (gap ps) r c = absurd (false≢true r)
  static_block_means g (part n ps) r c = ap (λ t. text (codes "static") ∷ text (codes " ") ∷ t) (block_means g (piece.item false) refl (part n ps) r c)

  -- the cases of a switch in their braces, by whether there is one
  abbrev case_marks : Bool → Parts → List Mark
  case_marks true us = text (codes "{") ∷ deeper ∷ (chain_marks w AllPlain lines 1 us ++ shallower ∷ line ∷ text (codes "}") ∷ [])
  case_marks false us = text (codes "{") ∷ (chain_marks w AllPlain nothing 1 us ++ text (codes "}") ∷ [])

  switch_lines : (r : Bool) (us : Parts) → can_run (braced us (table_lines (piece.switch_case r) us)) ≡ true → piece_marks (braced us (table_lines (piece.switch_case r) us)) ≡ case_marks (not (is_none us)) us
  switch_lines r none u = refl
  switch_lines r (gap us) u = absurd (false≢true u)
  switch_lines r (part n us) u = ap (λ t. text (codes "{") ∷ deeper ∷ t) (filled_braces (table_lines (piece.switch_case r) (part n us)) (lay piece.shallower ∷ lay piece.line ∷ []) (sign "}" ∷ []) 1 (part n us) u (lines-marks w (piece.switch_case r) refl 1 (part n us) (lay piece.shallower ∷ lay piece.line ∷ sign "}" ∷ [])))

  switch_shape : (ps : Parts) (b : Bool) → text (codes "switch") ∷ text (codes " ") ∷ text (codes "(") ∷ here Plain ∷ text (codes ")") ∷ text (codes " ") ∷ case_marks b (others ps)
      ≡ shape_marks w (Rattle.printer.specs.Shapes.braced_shape (Rattle.printer.specs.Shapes.headed "switch" ∷ []) (Rattle.printer.specs.Shapes.spelled ")" ∷ Rattle.printer.specs.Shapes.gapped ∷ Rattle.printer.specs.Shapes.spelled "{" ∷ []) b) ps
  switch_shape ps true = refl
  switch_shape ps false = refl

  switch_means : (g : Flags) (r : Bool) (ps : Parts) → Means ps (Of kind.SwitchStatement g ps) (at Primary (term "switch" ∷ sp ∷ sign "(" ∷ whole ∷ sign ")" ∷ sp ∷ braced (others ps) (table_lines (piece.switch_case r) (others ps))))
  switch_means g r ps u c = ap (λ t. text (codes "switch") ∷ text (codes " ") ∷ text (codes "(") ∷ here Plain ∷ text (codes ")") ∷ text (codes " ") ∷ t) (switch_lines r (others ps) u) ∙ switch_shape ps (not (is_none (others ps)))

  -- Statements

  declaration_means : (g : Flags) (ps : Parts) (e : piece.Ending) → Means ps (Of kind.VariableDeclaration g ps) (at Primary (declaration w (piece.declarator true true) ps ++ ending e ∷ []))
  declaration_means g ps e r c = ap (λ t. text w ∷ text (codes " ") ∷ t) (declarators-marks w (piece.declarator true true) refl 0 ps (ending e ∷ []) r)

  abbrev each_shape : Prim.Native.String.String → Rattle.printer.specs.Bits.Shape
  each_shape v = asking LoopHead (Rattle.printer.specs.Shapes.headed "for" ∷ Rattle.printer.specs.Shapes.between v ∷ Rattle.printer.specs.Shapes.close_space ∷ []) []

  abbrev each_pieces : Piece → Prim.Native.String.String → Role → Bool → List Piece
  each_pieces p v q r = term "for" ∷ sp ∷ sign "(" ∷ p ∷ sp ∷ term v ∷ sp ∷ put q ∷ sign ")" ∷ sp ∷ put (piece.statement r) ∷ []

  each_means : (k : Kind) (g : Flags) (ps : Parts) (v : Prim.Native.String.String) (q : Role) (r : Bool) (p : Piece) → Standing (head_site (lead ps)) p → site_of q ≡ Plain → shape_marks w (each_shape v) ps ≡ Of k g ps → Means ps (Of k g ps) (at Primary (each_pieces p v q r))
  each_means k g ps v q r p s f e u c = go p s u c ∙ e
    where
      go : (p : Piece) → Standing (head_site (lead ps)) p → can_run (each_pieces p v q r) ≡ true → counts_up (piece_marks (each_pieces p v q r)) ps ≡ true → piece_marks (each_pieces p v q r) ≡ shape_marks w (each_shape v) ps
      go (sub x) (stands h) u y = fixed_shape w (each_shape v) ps (each_pieces (sub x) v q r) refl refl (ap₂ (λ m n. text (codes "for") ∷ text (codes " ") ∷ text (codes "(") ∷ here m ∷ text (codes " ") ∷ text (codes v) ∷ text (codes " ") ∷ here n ∷ text (codes ")") ∷ text (codes " ") ∷ here Plain ∷ []) h f) y
      go never refused u y = absurd (false≢true u)
      go (tok _ _) x u y = elim x [ ]
      go (may _) x u y = elim x [ ]
      go (many _) x u y = elim x [ ]
      go (ahead _) x u y = elim x [ ]
      go unbroken x u y = elim x [ ]
      go no_operand x u y = elim x [ ]
      go (ending _) x u y = elim x [ ]
      go open_parameters x u y = elim x [ ]
      go close_parameters x u y = elim x [ ]
      go absent x u y = elim x [ ]
      go (lay _) x u y = elim x [ ]

  -- what a `for` begins with
  left_standing : (ps : Parts) → Standing (head_site (lead ps)) (for_left ps)
  left_standing ps = put_standing (head_site (lead ps)) (cond (is_declaration (lead ps)) (Some (piece.head false)) (bound false (lead ps))) (of (is_declaration (lead ps)))
    where
      of : (b : Bool) → Asks (cond b ForDeclaration Plain) (cond b (Some (piece.head false)) (bound false (lead ps)))
      of true = refl
      of false = bound_plain false (lead ps)

  abbrev behind_for : List Mark → List Mark
  behind_for (a ∷ b ∷ ms) = ms
  behind_for ms = ms

  -- with the words of a for-of
  for_of_means : (x : Form) (g : Flags) (ps : Parts) (q : Role) (r : Bool) → site_of q ≡ Plain → Means ps (Of kind.ForOfStatement (with_form x g) ps)
      (at Primary (term "for" ∷ sp ∷ for_words x ++ sign "(" ∷ for_left ps ∷ sp ∷ term "of" ∷ sp ∷ put q ∷ sign ")" ∷ sp ∷ put (piece.statement r) ∷ []))
  for_of_means form.Init g ps q r f u c = each_means kind.ForOfStatement (with_form form.Init g) ps "of" q r (for_left ps) (left_standing ps) f refl u c
  for_of_means form.Async g ps q r f u c = ap (λ t. text (codes "for") ∷ text (codes " ") ∷ text (codes "await") ∷ text (codes " ") ∷ behind_for t)
      (each_means kind.ForOfStatement (with_form form.Init g) ps "of" q r (for_left ps) (left_standing ps) f refl u c)
  for_of_means _ g ps q r f u c = absurd (false≢true u)

  begins_asked : (b : Bool) → site_of (cond b (piece.head true) (piece.expr Expression false Any)) ≡ cond b ForDeclaration Plain
  begins_asked true = refl
  begins_asked false = refl

  if_ways : (r : Bool) (g : Flags) (ps : Parts) → Shaped ps (Of kind.IfStatement g ps) (statements r kind.IfStatement w g ps)
  unfolding statements
  if_ways r g none = nowhere
  if_ways r g (gap ps) = nowhere
  if_ways r g (part t none) = nowhere
  if_ways r g (part t (gap ps)) = nowhere
  if_ways r g (part t (part u none)) = nowhere
  if_ways r g (part t (part u (gap none))) = plain_one kind.IfStatement g (part t (part u (gap none))) _ refl refl refl (λ c. c)
  if_ways r g (part t (part u (gap (gap ps)))) = nowhere
  if_ways r g (part t (part u (gap (part m ps)))) = nowhere
  if_ways r g (part t (part u (part a none))) = shaped_if (ends_in_if u) (λ e. nowhere) (λ e. plain_one kind.IfStatement g (part t (part u (part a none))) _ refl refl refl (λ c. c))
  if_ways r g (part t (part u (part a (gap ps)))) = nowhere
  if_ways r g (part t (part u (part a (part m ps)))) = nowhere

  try_ways : (r : Bool) (g : Flags) (ps : Parts) → Shaped ps (Of kind.TryStatement g ps) (statements r kind.TryStatement w g ps)
  unfolding statements
  try_ways r g none = nowhere
  try_ways r g (gap ps) = nowhere
  try_ways r g (part b none) = nowhere
  try_ways r g (part b (part h none)) = nowhere
  try_ways r g (part b (part h (gap none))) = plain_one kind.TryStatement g (part b (part h (gap none))) _ refl refl refl (λ c. c)
  try_ways r g (part b (part h (part f none))) = plain_one kind.TryStatement g (part b (part h (part f none))) _ refl refl refl (λ c. c)
  try_ways r g (part b (part h (gap (gap ps)))) = nowhere
  try_ways r g (part b (part h (gap (part m ps)))) = nowhere
  try_ways r g (part b (part h (part f (gap ps)))) = nowhere
  try_ways r g (part b (part h (part f (part m ps)))) = nowhere
  try_ways r g (part b (gap none)) = nowhere
  try_ways r g (part b (gap (gap ps))) = nowhere
  try_ways r g (part b (gap (part f none))) = plain_one kind.TryStatement g (part b (gap (part f none))) _ refl refl refl (λ c. c)
  try_ways r g (part b (gap (part f (gap ps)))) = nowhere
  try_ways r g (part b (gap (part f (part m ps)))) = nowhere

  -- a word and what may stand behind it
  word_ways : (k : Kind) (s : Prim.Native.String.String) (g : Flags) (ps : Parts) (p : Piece) (e : piece.Ending) → Standing Plain p → ((qs : Parts) → shape_by_kind k w g qs ≡ Rattle.printer.specs.Shapes.word_shape s (Rattle.printer.specs.Shapes.has_part qs 0)) →
      Shaped ps (Of k g ps) (only ((term s ∷ Rattle.language.specs.Statements.after_word ps p) ++ ending e ∷ []))
  word_ways k s g none p e x h = one (λ r c. absurd (false≢true r))
  word_ways k s g (gap ps) p e x h = one (λ r c. fixed_shape w (Rattle.printer.specs.Shapes.word_shape s false) (gap ps) (term s ∷ absent ∷ ending e ∷ []) refl refl refl c ∙ ap (λ v. shape_marks w v (gap ps)) (sym (h (gap ps))))
  word_ways k s g (part n ps) (sub q) e (stands x) h = one (λ r c. fixed_shape w (Rattle.printer.specs.Shapes.word_shape s true) (part n ps) (term s ∷ sp ∷ unbroken ∷ sub q ∷ ending e ∷ []) refl refl (ap (λ y. text (codes s) ∷ text (codes " ") ∷ here y ∷ text (codes ";") ∷ []) x) c ∙ ap (λ v. shape_marks w v (part n ps)) (sym (h (part n ps))))
  word_ways k s g (part n ps) never e refused h = one (λ r c. absurd (false≢true r))
  word_ways k s g (part n ps) (tok _ _) e x h = elim x [ ]
  word_ways k s g (part n ps) (may _) e x h = elim x [ ]
  word_ways k s g (part n ps) (many _) e x h = elim x [ ]
  word_ways k s g (part n ps) (ahead _) e x h = elim x [ ]
  word_ways k s g (part n ps) unbroken e x h = elim x [ ]
  word_ways k s g (part n ps) no_operand e x h = elim x [ ]
  word_ways k s g (part n ps) (ending _) e x h = elim x [ ]
  word_ways k s g (part n ps) open_parameters e x h = elim x [ ]
  word_ways k s g (part n ps) close_parameters e x h = elim x [ ]
  word_ways k s g (part n ps) absent e x h = elim x [ ]
  word_ways k s g (part n ps) (lay _) e x h = elim x [ ]

  begun : {x y : Site} {ms : List Mark} → x ≡ y → ◌≡◌ {A = List Mark} (text (codes "for") ∷ text (codes " ") ∷ text (codes "(") ∷ here x ∷ ms) (text (codes "for") ∷ text (codes " ") ∷ text (codes "(") ∷ here y ∷ ms)
  begun {x} {y} {ms} e = ap (λ z. text (codes "for") ∷ text (codes " ") ∷ text (codes "(") ∷ here z ∷ ms) e

  for_ways : (g : Flags) (ps : Parts) (a : Role) (r : Bool) → site_of a ≡ head_site (lead ps) → Shaped ps (Of kind.ForStatement g ps) (only
      ((term "for" ∷ sp ∷ sign "(" ∷ Rattle.language.specs.Expressions.given ps (put a ∷ []))
      ++ sign ";" ∷ Rattle.language.specs.Expressions.given (others ps) (sp ∷ whole ∷ [])
      ++ sign ";" ∷ Rattle.language.specs.Expressions.given (others (others ps)) (sp ∷ whole ∷ [])
      ++ sign ")" ∷ sp ∷ put (piece.statement r) ∷ []))
  for_ways g none a r e = one (λ u c. absurd (false≢true u))
  for_ways g (part i none) a r e = one (λ u c. absurd (false≢true u))
  for_ways g (gap none) a r e = one (λ u c. absurd (false≢true u))
  for_ways g (part i (part t none)) a r e = one (λ u c. absurd (false≢true u))
  for_ways g (part i (gap none)) a r e = one (λ u c. absurd (false≢true u))
  for_ways g (gap (part t none)) a r e = one (λ u c. absurd (false≢true u))
  for_ways g (gap (gap none)) a r e = one (λ u c. absurd (false≢true u))
  for_ways g (part i (part t (part u ps))) a r e = plain_one kind.ForStatement g (part i (part t (part u ps))) _ refl refl (begun e) (λ c. c)
  for_ways g (part i (part t (gap ps))) a r e = plain_one kind.ForStatement g (part i (part t (gap ps))) _ refl refl (begun e) (λ c. c)
  for_ways g (part i (gap (part u ps))) a r e = plain_one kind.ForStatement g (part i (gap (part u ps))) _ refl refl (begun e) (λ c. c)
  for_ways g (part i (gap (gap ps))) a r e = plain_one kind.ForStatement g (part i (gap (gap ps))) _ refl refl (begun e) (λ c. c)
  for_ways g (gap (part t (part u ps))) a r e = plain_one kind.ForStatement g (gap (part t (part u ps))) _ refl refl refl (λ c. c)
  for_ways g (gap (part t (gap ps))) a r e = plain_one kind.ForStatement g (gap (part t (gap ps))) _ refl refl refl (λ c. c)
  for_ways g (gap (gap (part u ps))) a r e = plain_one kind.ForStatement g (gap (gap (part u ps))) _ refl refl refl (λ c. c)
  for_ways g (gap (gap (gap ps))) a r e = plain_one kind.ForStatement g (gap (gap (gap ps))) _ refl refl refl (λ c. c)

  pub statements_shaped : (r : Bool) (k : Kind) (g : Flags) (ps : Parts) → Shaped ps (Of k g ps) (statements r k w g ps)
  unfolding statements
  statements_shaped r kind.BlockStatement g ps = one (block_means g (piece.item r) refl ps)
  statements_shaped r kind.VariableDeclaration g ps = shaped_if (is w "var") (λ e. one (declaration_means g ps (piece.behind (last_edge ps)))) (λ e. nowhere)
  statements_shaped r kind.EmptyStatement g ps = plain_one kind.EmptyStatement g ps _ refl refl refl (λ c. c)
  statements_shaped r kind.ExpressionStatement g ps = shaped_if g.directive (λ e. nowhere) (λ e. plain_one kind.ExpressionStatement g ps _ refl refl refl (λ c. c))
  statements_shaped r kind.IfStatement g ps = if_ways r g ps
  statements_shaped r kind.DoWhileStatement g ps = plain_one kind.DoWhileStatement g ps _ refl refl refl (λ c. c)
  statements_shaped r kind.WhileStatement g ps = plain_one kind.WhileStatement g ps _ refl refl refl (λ c. c)
  statements_shaped r kind.ForStatement g ps = for_ways g ps _ r (begins_asked (is_declaration (lead ps)))
  statements_shaped r kind.ForInStatement g ps = one (each_means kind.ForInStatement g ps "in" (piece.expr Expression true Any) r (for_left ps) (left_standing ps) refl refl)
  statements_shaped r kind.ForOfStatement g ps = one (for_of_means g.form g ps (piece.expr Assignment true Any) r refl)
  statements_shaped r kind.ContinueStatement g ps = word_ways kind.ContinueStatement "continue" g ps (put piece.name) _ (stands refl) (λ qs. refl)
  statements_shaped r kind.BreakStatement g ps = word_ways kind.BreakStatement "break" g ps (put piece.name) _ (stands refl) (λ qs. refl)
  statements_shaped r kind.ReturnStatement g ps = shaped_if r (λ e. word_ways kind.ReturnStatement "return" g ps whole _ (stands refl) (λ qs. refl)) (λ e. nowhere)
  statements_shaped r kind.ThrowStatement g ps = plain_one kind.ThrowStatement g ps _ refl refl refl (λ c. c)
  statements_shaped r kind.LabeledStatement g ps = plain_one kind.LabeledStatement g ps _ refl refl refl (λ c. c)
  statements_shaped r kind.SwitchStatement g ps = shaped_if (nat_le (Rattle.language.specs.Statements.defaults (others ps)) 1) (λ e. one (switch_means g r ps)) (λ e. nowhere)
  statements_shaped r kind.TryStatement g ps = try_ways r g ps
  statements_shaped r kind.DebuggerStatement g ps = plain_one kind.DebuggerStatement g ps _ refl refl refl (λ c. c)
  statements_shaped r _ g ps = nowhere

  pub function_item : (g : Flags) (ps : Parts) → Means ps (Of kind.FunctionDeclaration g ps) (at Primary (Rattle.language.specs.Expressions.function_pieces g.form ps))
  function_item g ps r c = function_means w g.form g ps r c

  pub class_item : (g : Flags) (ps : Parts) → Means ps (Of kind.ClassDeclaration g ps) (at Primary (Rattle.language.specs.Expressions.class_pieces ps))
  class_item g ps r c = class_means w g ps r c

  pub items_shaped : (r : Bool) (k : Kind) (g : Flags) (ps : Parts) → Shaped ps (Of k g ps) (items r k w g ps)
  unfolding items
  items_shaped r kind.FunctionDeclaration g none = nowhere
  items_shaped r kind.FunctionDeclaration g (gap ps) = nowhere
  items_shaped r kind.FunctionDeclaration g (part n ps) = one (function_item g (part n ps))
  items_shaped r kind.ClassDeclaration g none = nowhere
  items_shaped r kind.ClassDeclaration g (gap ps) = nowhere
  items_shaped r kind.ClassDeclaration g (part n ps) = one (class_item g (part n ps))
  items_shaped r kind.VariableDeclaration g ps = shaped_if (among w ("var" ∷ "let" ∷ "const" ∷ [])) (λ e. one (declaration_means g ps (piece.behind (last_edge ps)))) (λ e. nowhere)
  items_shaped r k g ps = statements_shaped r k g ps

  pub openings_shaped : (r : Bool) (k : Kind) (g : Flags) (ps : Parts) → Shaped ps (Of k g ps) (openings r k w g ps)
  unfolding openings
  openings_shaped r kind.ExpressionStatement g ps =
      shaped_if g.directive
      (λ e. shaped_if (Rattle.language.specs.Statements.first_is_string ps) (λ u. plain_one kind.ExpressionStatement g ps _ refl refl refl (λ c. c)) (λ u. nowhere))
      (λ e. shaped_if (Rattle.language.specs.Statements.first_is_string ps) (λ u. plain_one kind.ExpressionStatement g ps _ refl refl refl (λ c. c)) (λ u. plain_one kind.ExpressionStatement g ps _ refl refl refl (λ c. c)))
  openings_shaped r k g ps = items_shaped r k g ps
