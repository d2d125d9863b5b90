-- The shapes of nodes at each position are those of the table.
use Rattle.std.proofs.Common.{◌≡◌, ℕ, Bool, true, false, not, cond, List, [], ◌∷◌, ◌++◌, refl, sym, ap, ap₂, ◌∙◌, append-nil, append_assoc}
use Rattle.std.specs.Prelude.{Option, Some, None, ◌&&◌, ◌||◌, codes, length}
use Rattle.std.proofs.lemmas.Bool.{false≢true}
use Rattle.tree.specs.declared.kind.Kind.{Kind}
use Rattle.tree.specs.declared.kind.Kind.TheVariants as kind
use Rattle.tree.specs.declared.kind.Form.{Form}
use Rattle.tree.specs.declared.kind.Form.TheVariants as form
use Rattle.tree.specs.declared.kind.Flags.{Flags}
use Rattle.tree.specs.Tree.{Tree, node, Parts, none, part, gap, kind_of}
use Rattle.tokens.specs.declared.token.TokenClass.TheVariants as class
use Rattle.language.specs.declared.Rank.TheVariants.{Expression, Assignment, Primary}
use Rattle.language.specs.declared.Start.TheVariants.{Any}
use Rattle.language.specs.FirstPart.{lead, others}
use Rattle.tree.specs.Uses.{is_empty}
use Rattle.language.specs.Vocabulary.{is, is_private, is_reserved, literal_class, is_string, is_pattern, is_rest}
use Rattle.language.specs.Pieces as piece
use Rattle.language.specs.Pieces.{Role, Piece, Slot, Spelling, at, only, only_at, put, put_at, sub, tok, may, many, ahead, unbroken, no_operand, ending, absent, never, lay, sign, term, sp, is_none, listed, elements, parameters, pattern_element, open_parameters, close_parameters, bound, with_default}
use Rattle.language.specs.Expressions.{chain_parts, member_link, call_link, arguments, in_brackets, first_has_optional, properties, pattern_properties, keyed, object_pattern_part, shorthand_pattern, assignment, methods, method_words, method_of, value_form}
use Rattle.language.specs.Statements.{prologue, module_prologue, members, class_keyed, static_word, fields, class_members, heads, declarator_ways, cases, handlers, declaration, declarators}
use Rattle.language.specs.Grammar.{spellings, can_run, is_function_at, keys, names, words, private_names, shorthand_keys, bases, directive_strings, tagged_quasis, template_parts, patterns, elements_with_default, rests}
use Rattle.spelling_table.specs.declared.position.Position.{Position}
use Rattle.spelling_table.specs.declared.position.Position.TheVariants as at_place
use Rattle.spelling_table.specs.Outlines.{role_of, parts_after}
use Rattle.printer.specs.declared.site.Site.TheVariants.{Plain, Method}
use Rattle.printer.specs.Sites.{slot_site}
use Rattle.printer.specs.Bits.{Mark, text, line, here, deeper, shallower, piece_marks, token, Bit, Chain, nothing, commas, lines, Shape, fronted}
use Rattle.printer.specs.Shapes.{shape_by_kind, method_shape, head_shape, sign_at, spelled, gapped, after_word, method_key, value_shape, method_form_shape, static_form_shape, field_shape, property_shape, class_member_shape, case_shape, catch_shape, declarator_shape, member_shape, call_shape}
use Rattle.printer.proofs.FragmentsByPosition.{shape_by}
use Rattle.printer.specs.Printed.{mark_of, marks_in, front_marks, shape_marks}
use Rattle.printer.proofs.ListMarks.{Asks, bound_plain, default_plain, elements-marks, listed-marks, lines-marks, items-marks, modules-marks, declarators-marks, object_pattern_standing, element_standing}
use Rattle.printer.proofs.FirstWayFragments.{Means, counts_up, Shaped, nowhere, one, shaped_if}
use Rattle.printer.proofs.TableMarks.{fixed_shape, arguments-marks, parameters_of, template_means, expressions_shaped}
use Rattle.printer.proofs.OtherMarks.{Of, plain_one, block_means, body_means, class_body_means, static_block_means, statements_shaped, items_shaped, openings_shaped}
use Rattle.printer.proofs.ModuleMarks.{module_items_shaped, specifiers_shaped, default_items_shaped}

module _ (w : List ℕ) where
  -- a shape with no parts but its first ones
  shape_one : (s : Shape) (ps : Parts) (qs : List Piece) → s.chain ≡ nothing → s.opener ≡ [] → piece_marks qs ≡ front_marks w s.sites 0 s.front ps (marks_in w s.closer) → (counts_up (piece_marks qs) ps ≡ true → is_none (parts_after (length s.front) ps) ≡ true) →
      Shaped ps (shape_marks w s ps) (only qs)
  shape_one s ps qs e f h c = one (λ r u. fixed_shape w s ps qs e f h (c u))

  names_shaped : (k : Kind) (g : Flags) (ps : Parts) → Shaped ps (Of w k g ps) (names k w)
  names_shaped kind.Identifier g ps = shaped_if (is_reserved w) (λ e. nowhere) (λ e. plain_one w kind.Identifier g ps _ refl refl refl (λ c. c))
  names_shaped _ g ps = nowhere

  words_shaped : (k : Kind) (g : Flags) (ps : Parts) → Shaped ps (Of w k g ps) (words k w)
  words_shaped kind.Identifier g ps = plain_one w kind.Identifier g ps _ refl refl refl (λ c. c)
  words_shaped _ g ps = nowhere

  keys_shaped : (k : Kind) (g : Flags) (ps : Parts) → Shaped ps (Of w k g ps) (keys k w)
  keys_shaped kind.Identifier g ps = plain_one w kind.Identifier g ps _ refl refl refl (λ c. c)
  keys_shaped kind.Literal g ps = shaped_if _ (λ e. nowhere) (λ e. plain_one w kind.Literal g ps _ refl refl refl (λ c. c))
  keys_shaped _ g ps = nowhere

  echoes_shaped : (k : Kind) (ps : Parts) → Shaped ps (shape_marks w (fronted [] []) ps) (shorthand_keys k w)
  echoes_shaped kind.Identifier ps = shape_one (fronted [] []) ps _ refl refl refl (λ c. c)
  echoes_shaped _ ps = nowhere

  bases_shaped : (k : Kind) (g : Flags) (ps : Parts) → Shaped ps (Of w k g ps) (bases k)
  bases_shaped kind.Super g ps = plain_one w kind.Super g ps _ refl refl refl (λ c. c)
  bases_shaped _ g ps = nowhere

  quotes_shaped : (k : Kind) (g : Flags) (ps : Parts) → Shaped ps (Of w k g ps) (directive_strings k w)
  quotes_shaped kind.Literal g ps = shaped_if (is_string (literal_class w)) (λ e. plain_one w kind.Literal g ps _ refl refl refl (λ c. c)) (λ e. nowhere)
  quotes_shaped _ g ps = nowhere

  quasis_shaped : (k : Kind) (g : Flags) (ps : Parts) → Shaped ps (Of w k g ps) (tagged_quasis k ps)
  quasis_shaped kind.TemplateLiteral g ps = one (template_means w g ps)
  quasis_shaped _ g ps = nowhere

  chunks_shaped : (a b : Bool) (k : Kind) (ps : Parts) → Shaped ps (shape_marks w (fronted [] (Rattle.printer.specs.Bits.chunk a b ∷ [])) ps) (template_parts a b k w)
  chunks_shaped a b kind.TemplateElement ps = shape_one (fronted [] (Rattle.printer.specs.Bits.chunk a b ∷ [])) ps _ refl refl refl (λ c. c)
  chunks_shaped a b _ ps = nowhere

  private_names_shaped : (k : Kind) (g : Flags) (ps : Parts) → Shaped ps (Of w k g ps) (private_names k w)
  private_names_shaped kind.PrivateIdentifier g ps = plain_one w kind.PrivateIdentifier g ps _ refl refl refl (λ c. c)
  private_names_shaped _ g ps = nowhere

  -- Properties

  marks_joined : (xs ys : List Bit) → marks_in w (xs ++ ys) ≡ marks_in w xs ++ marks_in w ys
  marks_joined [] ys = refl
  marks_joined (x ∷ xs) ys = ap (λ t. mark_of w x ∷ t) (marks_joined xs ys)

  -- bits are no parts
  bits_count : (xs : List Bit) (ms : List Mark) (ps : Parts) → counts_up (marks_in w xs ++ ms) ps ≡ counts_up ms ps
  bits_count [] ms ps = refl
  bits_count (token v ∷ xs) ms ps = bits_count xs ms ps
  bits_count (_ ∷ xs) ms ps = bits_count xs ms ps

  abbrev WordsOf : List Piece → List Bit → Type 0
  WordsOf front plain = (qs : List Piece) → piece_marks (front ++ qs) ≡ marks_in w plain ++ piece_marks qs

  -- a method's key behind words, and its function
  method_keyed : (ps : Parts) (b : Bool) (k : Kind) (front : List Piece) (plain : List Bit) (x : Form) → WordsOf front plain →
      Shaped ps (shape_marks w (method_key plain (plain ++ spelled "[" ∷ []) b) ps) (class_keyed front b k (put (piece.method x) ∷ []))
  method_keyed ps true k front plain x h = shape_one (method_key plain (plain ++ spelled "[" ∷ []) true) ps _ refl refl
      (h _ ∙ sym (ap (λ t. t ++ here Plain ∷ text (codes "]") ∷ here Method ∷ []) (marks_joined plain (spelled "[" ∷ [])) ∙ append_assoc (marks_in w plain) (text (codes "[") ∷ []) (here Plain ∷ text (codes "]") ∷ here Method ∷ [])))
      (λ c. sym (ap (λ t. counts_up t ps) (h _) ∙ bits_count plain _ ps) ∙ c)
  method_keyed ps false k front plain x h = of (is_private k)
    where
      of : (v : Bool) → Shaped ps (shape_marks w (method_key plain (plain ++ spelled "[" ∷ []) false) ps) (only (front ++ put (cond v piece.private_name piece.key) ∷ put (piece.method x) ∷ []))
      of true = shape_one (method_key plain (plain ++ spelled "[" ∷ []) false) ps _ refl refl (h _) (λ c. sym (ap (λ t. counts_up t ps) (h _) ∙ bits_count plain _ ps) ∙ c)
      of false = shape_one (method_key plain (plain ++ spelled "[" ∷ []) false) ps _ refl refl (h _) (λ c. sym (ap (λ t. counts_up t ps) (h _) ∙ bits_count plain _ ps) ∙ c)

  -- what is never spelled, before a key
  unkeyed : (ps : Parts) (M : List Mark) (b : Bool) (k : Kind) (front after : List Piece) → ((qs : List Piece) → can_run (front ++ qs) ≡ false) → Shaped ps M (class_keyed front b k after)
  unkeyed ps M true k front after h = one (λ r c. absurd (false≢true (sym (h _) ∙ r)))
  unkeyed ps M false k front after h = one (λ r c. absurd (false≢true (sym (h _) ∙ r)))

  -- a method of an object, by the form of its function
  method_properties : (ps : Parts) (b : Bool) (y : Form) → Shaped ps (shape_marks w (method_form_shape y b) ps) (keyed (method_words y) b (put (piece.method (method_of y)) ∷ []))
  method_properties ps b form.Init = method_keyed ps b kind.Identifier [] [] form.Method (λ qs. refl)
  method_properties ps b form.Generator = method_keyed ps b kind.Identifier (method_words form.Generator) (spelled "*" ∷ []) form.Generator (λ qs. refl)
  method_properties ps b form.Async = method_keyed ps b kind.Identifier (method_words form.Async) (after_word "async") form.Async (λ qs. refl)
  method_properties ps b form.AsyncGenerator = method_keyed ps b kind.Identifier (method_words form.AsyncGenerator) (spelled "async" ∷ gapped ∷ spelled "*" ∷ []) form.AsyncGenerator (λ qs. refl)
  method_properties ps b _ = unkeyed ps _ b kind.Identifier (piece.never ∷ []) _ (λ qs. refl)

  -- a key, and a value at a position that may be none
  valued : (ps : Parts) (b : Bool) (o : Option Role) → Asks Plain o → Shaped ps (shape_marks w (value_shape b) ps) (keyed [] b (sign ":" ∷ sp ∷ put_at o ∷ []))
  valued ps true (Some a) e = shape_one (value_shape true) ps _ refl refl (ap (λ x. text (codes "[") ∷ here Plain ∷ text (codes "]") ∷ text (codes ":") ∷ text (codes " ") ∷ here x ∷ []) e) (λ c. c)
  valued ps false (Some a) e = shape_one (value_shape false) ps _ refl refl (ap (λ x. here Plain ∷ text (codes ":") ∷ text (codes " ") ∷ here x ∷ []) e) (λ c. c)
  valued ps true None e = one (λ r c. absurd (false≢true r))
  valued ps false None e = one (λ r c. absurd (false≢true r))

  properties_shaped : (b : Bool) (x y : Form) (ps : Parts) → Shaped ps (shape_marks w (property_shape x y b) ps) (properties b x y)
  properties_shaped b form.Init y ps = valued ps b (Some (piece.expr Assignment true Any)) refl
  properties_shaped b form.Method y ps = method_properties ps b y
  properties_shaped b form.Get y ps = method_keyed ps b kind.Identifier (term "get" ∷ sp ∷ []) (after_word "get") form.Get (λ qs. refl)
  properties_shaped b form.Set y ps = method_keyed ps b kind.Identifier (term "set" ∷ sp ∷ []) (after_word "set") form.Set (λ qs. refl)
  properties_shaped true form.Shorthand y ps = nowhere
  properties_shaped false form.Shorthand y ps = shape_one (property_shape form.Shorthand form.Init false) ps _ refl refl refl (λ c. c)
  properties_shaped b _ y ps = nowhere

  shorthands : (ps : Parts) (k : Kind) → Shaped ps (shape_marks w (property_shape form.Shorthand form.Init false) ps) (shorthand_pattern k)
  shorthands ps kind.Identifier = shape_one (property_shape form.Shorthand form.Init false) ps _ refl refl refl (λ c. c)
  shorthands ps kind.AssignmentPattern = shape_one (property_shape form.Shorthand form.Init false) ps _ refl refl refl (λ c. c)
  shorthands ps _ = nowhere

  pattern_properties_shaped : (b c : Bool) (x y : Form) (k : Kind) (ps : Parts) → Shaped ps (shape_marks w (property_shape x y c) ps) (pattern_properties b c x k)
  pattern_properties_shaped b c form.Init y k ps = valued ps c (with_default b k) (default_plain b k)
  pattern_properties_shaped b true form.Shorthand y k ps = nowhere
  pattern_properties_shaped b false form.Shorthand y k ps = shorthands ps k
  pattern_properties_shaped b c _ y k ps = nowhere

  -- Members

  own_methods : (ps : Parts) (b : Bool) (y : Form) (k : Kind) → Shaped ps (shape_marks w (method_form_shape y b) ps) (members [] b form.Method y k)
  own_methods ps b form.Init k = method_keyed ps b k [] [] form.Method (λ qs. refl)
  own_methods ps b form.Generator k = method_keyed ps b k (method_words form.Generator) (spelled "*" ∷ []) form.Generator (λ qs. refl)
  own_methods ps b form.Async k = method_keyed ps b k (method_words form.Async) (after_word "async") form.Async (λ qs. refl)
  own_methods ps b form.AsyncGenerator k = method_keyed ps b k (method_words form.AsyncGenerator) (spelled "async" ∷ gapped ∷ spelled "*" ∷ []) form.AsyncGenerator (λ qs. refl)
  own_methods ps b _ k = unkeyed ps _ b k (piece.never ∷ []) _ (λ qs. refl)

  static_methods : (ps : Parts) (b : Bool) (y : Form) (k : Kind) → Shaped ps (shape_marks w (static_form_shape y b) ps) (members (static_word true) b form.Method y k)
  static_methods ps b form.Init k = method_keyed ps b k (static_word true) (after_word "static") form.Method (λ qs. refl)
  static_methods ps b form.Generator k = method_keyed ps b k (static_word true ++ method_words form.Generator) (spelled "static" ∷ gapped ∷ spelled "*" ∷ []) form.Generator (λ qs. refl)
  static_methods ps b form.Async k = method_keyed ps b k (static_word true ++ method_words form.Async) (spelled "static" ∷ gapped ∷ after_word "async") form.Async (λ qs. refl)
  static_methods ps b form.AsyncGenerator k = method_keyed ps b k (static_word true ++ method_words form.AsyncGenerator) (spelled "static" ∷ gapped ∷ spelled "async" ∷ gapped ∷ spelled "*" ∷ []) form.AsyncGenerator (λ qs. refl)
  static_methods ps b _ k = unkeyed ps _ b k (static_word true ++ piece.never ∷ []) _ (λ qs. refl)

  members_shaped : (s : Bool) (ps : Parts) (b : Bool) (x y : Form) (k : Kind) → Shaped ps (shape_marks w (class_member_shape s x y b) ps) (members (static_word s) b x y k)
  members_shaped true ps b form.Get y k = method_keyed ps b k (static_word true ++ term "get" ∷ sp ∷ []) (spelled "static" ∷ gapped ∷ after_word "get") form.Get (λ qs. refl)
  members_shaped true ps b form.Set y k = method_keyed ps b k (static_word true ++ term "set" ∷ sp ∷ []) (spelled "static" ∷ gapped ∷ after_word "set") form.Set (λ qs. refl)
  members_shaped true ps b _ y k = static_methods ps b y k
  members_shaped false ps b form.Get y k = method_keyed ps b k (term "get" ∷ sp ∷ []) (after_word "get") form.Get (λ qs. refl)
  members_shaped false ps b form.Set y k = method_keyed ps b k (term "set" ∷ sp ∷ []) (after_word "set") form.Set (λ qs. refl)
  members_shaped false ps b _ y k = own_methods ps b y k

  -- a field, by whether it is static and computed, and whether its key is a private name
  bare_field : (n : Tree) (s c v : Bool) (e : piece.Ending) → Shaped (part n (gap none)) (shape_marks w (field_shape s c false) (part n (gap none)))
      (cond c (only (static_word s ++ sign "[" ∷ assignment ∷ sign "]" ∷ absent ∷ ending e ∷ [])) (only (static_word s ++ put (cond v piece.private_name piece.key) ∷ absent ∷ ending e ∷ [])))
  bare_field n true true v e = one (λ r c. refl)
  bare_field n false true v e = one (λ r c. refl)
  bare_field n true false true e = one (λ r c. refl)
  bare_field n true false false e = one (λ r c. refl)
  bare_field n false false true e = one (λ r c. refl)
  bare_field n false false false e = one (λ r c. refl)

  valued_field : (n m : Tree) (s c v : Bool) (e : piece.Ending) → Shaped (part n (part m none)) (shape_marks w (field_shape s c true) (part n (part m none)))
      (cond c (only (static_word s ++ sign "[" ∷ assignment ∷ sign "]" ∷ sp ∷ sign "=" ∷ sp ∷ assignment ∷ ending e ∷ [])) (only (static_word s ++ put (cond v piece.private_name piece.key) ∷ sp ∷ sign "=" ∷ sp ∷ assignment ∷ ending e ∷ [])))
  valued_field n m true true v e = one (λ r c. refl)
  valued_field n m false true v e = one (λ r c. refl)
  valued_field n m true false true e = one (λ r c. refl)
  valued_field n m true false false e = one (λ r c. refl)
  valued_field n m false false true e = one (λ r c. refl)
  valued_field n m false false false e = one (λ r c. refl)

  fields_shaped : (g : Flags) (ps : Parts) → Shaped ps (Of w kind.PropertyDefinition g ps) (fields g ps)
  fields_shaped g none = nowhere
  fields_shaped g (gap ps) = nowhere
  fields_shaped g (part n none) = nowhere
  fields_shaped g (part n (gap none)) = bare_field n g.is_static g.computed (is_private (kind_of n)) _
  fields_shaped g (part n (gap (gap ps))) = nowhere
  fields_shaped g (part n (gap (part m ps))) = nowhere
  fields_shaped g (part n (part m none)) = valued_field n m g.is_static g.computed (is_private (kind_of n)) _
  fields_shaped g (part n (part m (gap ps))) = nowhere
  fields_shaped g (part n (part m (part l ps))) = nowhere

  class_members_shaped : (k : Kind) (g : Flags) (ps : Parts) → Shaped ps (Of w k g ps) (class_members k g ps)
  class_members_shaped kind.MethodDefinition g ps = shaped_if _ (λ e. members_shaped g.is_static ps g.computed g.form (value_form ps) (lead ps)) (λ e. nowhere)
  class_members_shaped kind.PropertyDefinition g ps = fields_shaped g ps
  class_members_shaped kind.StaticBlock g ps = one (static_block_means w g ps)
  class_members_shaped _ g ps = nowhere

  -- Patterns

  patterns_shaped : (b : Bool) (k : Kind) (g : Flags) (ps : Parts) → Shaped ps (Of w k g ps) (patterns b k ps)
  patterns_shaped b kind.ArrayPattern g ps = one (λ r c. ap (λ t. text (codes "[") ∷ t) (elements-marks w (pattern_element b) (element_standing b) 0 ps (sign "]" ∷ []) r))
  patterns_shaped b kind.ObjectPattern g ps = one (λ r c. ap (λ t. text (codes "{") ∷ t) (listed-marks w (object_pattern_part b) (object_pattern_standing b) 0 ps (sign "}" ∷ []) r))
  patterns_shaped b _ g ps = nowhere

  defaulted : (g : Flags) (ps : Parts) (o : Option Role) → Asks Plain o → Shaped ps (Of w kind.AssignmentPattern g ps) (only_at o (sp ∷ sign "=" ∷ sp ∷ assignment ∷ []))
  defaulted g ps None e = nowhere
  defaulted g ps (Some a) e = plain_one w kind.AssignmentPattern g ps _ refl refl (ap (λ x. here x ∷ text (codes " ") ∷ text (codes "=") ∷ text (codes " ") ∷ here Plain ∷ []) e) (λ c. c)

  elements_shaped : (b : Bool) (k : Kind) (g : Flags) (ps : Parts) → Shaped ps (Of w k g ps) (elements_with_default b k ps)
  elements_shaped b kind.AssignmentPattern g ps = defaulted g ps (bound b (lead ps)) (bound_plain b (lead ps))
  elements_shaped b _ g ps = nowhere

  rested : (g : Flags) (ps : Parts) (o : Option Role) → Asks Plain o → Shaped ps (Of w kind.RestElement g ps) (only (sign "..." ∷ put_at o ∷ []))
  rested g ps None e = one (λ r c. absurd (false≢true r))
  rested g ps (Some a) e = plain_one w kind.RestElement g ps _ refl refl (ap (λ x. text (codes "...") ∷ here x ∷ []) e) (λ c. c)

  rests_shaped : (b o : Bool) (k : Kind) (g : Flags) (ps : Parts) → Shaped ps (Of w k g ps) (rests b o k ps)
  rests_shaped b o kind.RestElement g ps = shaped_if _ (λ e. nowhere) (λ e. rested g ps (bound b (lead ps)) (bound_plain b (lead ps)))
  rests_shaped b o _ g ps = nowhere

  -- Methods

  setter_shaped : (n m : Tree) (o : Option Role) → Asks Plain o → Shaped (gap (part n (part m none))) (shape_marks w method_shape (gap (part n (part m none)))) (only (absent ∷ sign "(" ∷ put_at o ∷ sign ")" ∷ sp ∷ put piece.body ∷ []))
  setter_shaped n m None e = one (λ r c. absurd (false≢true r))
  setter_shaped n m (Some a) e = one (λ r c. ap (λ x. here Plain ∷ text (codes "(") ∷ here x ∷ text (codes ")") ∷ text (codes " ") ∷ here Plain ∷ []) e)

  plain_method : (ps : Parts) → Shaped (gap ps) (shape_marks w method_shape (gap ps)) (only (absent ∷ sign "(" ∷ parameters (sign ")" ∷ sp ∷ put piece.body ∷ []) ps))
  plain_method ps = one (λ r c. ap (λ t. here Plain ∷ text (codes "(") ∷ t) (parameters_of w 1 ps r))

  methods_shaped : (x : Form) (ps : Parts) → Shaped ps (shape_marks w method_shape ps) (methods x ps)
  methods_shaped form.Get (gap (part b none)) = one (λ r c. refl)
  methods_shaped form.Get (gap (part b (part m ps))) = nowhere
  methods_shaped form.Get (gap (part b (gap ps))) = nowhere
  methods_shaped form.Get (gap none) = nowhere
  methods_shaped form.Get (gap (gap ps)) = nowhere
  methods_shaped form.Get none = nowhere
  methods_shaped form.Get (part n ps) = nowhere
  methods_shaped form.Set (gap (part n (part m none))) = shaped_if (is_rest (kind_of n)) (λ e. nowhere) (λ e. setter_shaped n m (with_default true (kind_of n)) (default_plain true (kind_of n)))
  methods_shaped form.Set (gap (part n (part m (part u ps)))) = nowhere
  methods_shaped form.Set (gap (part n (part m (gap ps)))) = nowhere
  methods_shaped form.Set (gap (part n none)) = nowhere
  methods_shaped form.Set (gap (part n (gap ps))) = nowhere
  methods_shaped form.Set (gap none) = nowhere
  methods_shaped form.Set (gap (gap ps)) = nowhere
  methods_shaped form.Set none = nowhere
  methods_shaped form.Set (part n ps) = nowhere
  methods_shaped _ (gap ps) = plain_method ps
  methods_shaped _ none = nowhere
  methods_shaped _ (part n ps) = nowhere

  -- Chains

  abbrev link_by : Bool → Bool → Piece → List Piece
  link_by o k p = cond o (sign "?." ∷ cond k in_brackets (p ∷ [])) (cond k in_brackets (sign "." ∷ p ∷ []))

  -- a private name is laid out as a name
  link_as_word : (o k v : Bool) → piece_marks (link_by o k (put (cond v piece.private_name piece.word))) ≡ piece_marks (link_by o k (put piece.word))
  link_as_word o k false = refl
  link_as_word true true true = refl
  link_as_word true false true = refl
  link_as_word false true true = refl
  link_as_word false false true = refl

  spine_member : (s : Slot) (g : Flags) (ps : Parts) (j : Kind) (b : Bool) → slot_site s ≡ Plain → Rattle.printer.specs.Shapes.after_open_number ps ≡ b → (not g.optional && b) ≡ false → Means ps (Of w kind.MemberExpression g ps) (at Primary (sub s ∷ member_link g j))
  spine_member s g ps j b a e x r c =
      ap₂ (λ y t. here y ∷ t) a (link_as_word g.optional g.computed (is_private j)) ∙ of g.optional g.computed b x (sym (ap (λ t. counts_up t (others ps)) (link_as_word g.optional g.computed (is_private j))) ∙ c)
      ∙ ap (λ v. shape_marks w (member_shape g.optional g.computed v) ps) (sym e)
    where
      of : (o k v : Bool) → (not o && v) ≡ false → counts_up (piece_marks (sub piece.callee ∷ link_by o k (put piece.word))) ps ≡ true → piece_marks (sub piece.callee ∷ link_by o k (put piece.word)) ≡ shape_marks w (member_shape o k v) ps
      of true true v h d = fixed_shape w (member_shape true true v) ps (sub piece.callee ∷ sign "?." ∷ in_brackets) refl refl refl d
      of true false v h d = fixed_shape w (member_shape true false v) ps (sub piece.callee ∷ sign "?." ∷ put piece.word ∷ []) refl refl refl d
      of false true v h d = fixed_shape w (member_shape false true v) ps (sub piece.callee ∷ in_brackets) refl refl refl d
      of false false false h d = fixed_shape w (member_shape false false false) ps (sub piece.callee ∷ sign "." ∷ put piece.word ∷ []) refl refl refl d
      of false false true h d = absurd (cc)

  chained_closed : (ps : Parts) → first_has_optional ps ≡ true → Rattle.printer.specs.Shapes.after_open_number ps ≡ false
  chained_closed none h = refl
  chained_closed (gap ps) h = refl
  chained_closed (part (node kind.Literal v g s e us) ps) h = absurd (cc)
  chained_closed (part (node _ v g s e us) ps) h = refl

  never_false : (o : Bool) → (not o && false) ≡ false
  never_false true = refl
  never_false false = refl

  optional_false : (o b : Bool) → o ≡ true → (not o && b) ≡ false
  optional_false true b h = refl
  optional_false false b h = absurd (cc)

  spine_call : (s : Slot) (g : Flags) (ps : Parts) → slot_site s ≡ Plain → Means ps (Of w kind.CallExpression g ps) (at Primary (sub s ∷ call_link g ps))
  spine_call s g ps e r c = of g.optional r
    where
      of : (o : Bool) → can_run (cond o (sign "?." ∷ []) [] ++ arguments (others ps)) ≡ true → piece_marks (sub s ∷ cond o (sign "?." ∷ []) [] ++ arguments (others ps)) ≡ shape_marks w (call_shape o) ps
      of true u = ap₂ (λ x t. here x ∷ text (codes "?.") ∷ t) e (arguments-marks w 1 (others ps) u)
      of false u = ap₂ (λ x t. here x ∷ t) e (arguments-marks w 1 (others ps) u)

  spines_shaped : (k : Kind) (g : Flags) (ps : Parts) → Shaped ps (Of w k g ps) (chain_parts k g ps)
  spines_shaped kind.MemberExpression g ps = shaped_if (first_has_optional ps)
      (λ e. one (spine_member piece.lead_chain g ps (lead (others ps)) false refl (chained_closed ps e) (never_false g.optional)))
      (λ e. shaped_if g.optional (λ u. one (spine_member (piece.lead Rattle.language.specs.declared.Rank.TheVariants.Call) g ps (lead (others ps)) (Rattle.printer.specs.Shapes.after_open_number ps) refl refl (optional_false g.optional _ u))) (λ u. nowhere))
  spines_shaped kind.CallExpression g ps = shaped_if (first_has_optional ps) (λ e. one (spine_call piece.lead_chain g ps refl))
      (λ e. shaped_if g.optional (λ u. one (spine_call (piece.lead Rattle.language.specs.declared.Rank.TheVariants.Call) g ps refl)) (λ u. nowhere))
  spines_shaped _ g ps = nowhere

  -- Declarations, cases and handlers

  head_means : (b : Bool) (ps : Parts) → Means ps (shape_marks w head_shape ps) (at Primary (declaration w (piece.declarator false b) ps))
  head_means b ps r c = ap (λ t. text w ∷ text (codes " ") ∷ t) (sym (ap piece_marks (append-nil (declarators (piece.declarator false b) ps))) ∙ declarators-marks w (piece.declarator false b) refl 0 ps [] (ap can_run (append-nil (declarators (piece.declarator false b) ps)) ∙ r))

  heads_shaped : (b : Bool) (k : Kind) (ps : Parts) → Shaped ps (shape_marks w head_shape ps) (heads b k w ps)
  heads_shaped b kind.VariableDeclaration ps = shaped_if _ (λ e. one (head_means b ps)) (λ e. nowhere)
  heads_shaped b _ ps = nowhere

  initialised : (ps : Parts) (i : Bool) (o : Option Role) → Asks Plain o → Shaped ps (shape_marks w (declarator_shape true) ps) (only_at o (sp ∷ sign "=" ∷ sp ∷ put (piece.expr Assignment i Any) ∷ []))
  initialised ps i None e = nowhere
  initialised ps i (Some q) e = shape_one (declarator_shape true) ps _ refl refl (ap (λ x. here x ∷ text (codes " ") ∷ text (codes "=") ∷ text (codes " ") ∷ here Plain ∷ []) e) (λ c. c)

  bare_declarator : (ps : Parts) (o : Option Role) → Asks Plain o → Shaped ps (shape_marks w (declarator_shape false) ps) (only_at o (absent ∷ []))
  bare_declarator ps None e = nowhere
  bare_declarator ps (Some q) e = shape_one (declarator_shape false) ps _ refl refl (ap (λ x. here x ∷ here Plain ∷ []) e) (λ c. c)

  declarators_of : (i b : Bool) (g : Flags) (ps : Parts) → Shaped ps (Of w kind.VariableDeclarator g ps) (declarator_ways i b kind.VariableDeclarator ps)
  declarators_of i b g (part n (part e none)) = shaped_if b (λ u. initialised (part n (part e none)) i (bound true (kind_of n)) (bound_plain true (kind_of n))) (λ u. nowhere)
  declarators_of i b g (part n (gap none)) = shaped_if (b && is_pattern (kind_of n)) (λ u. nowhere) (λ u. bare_declarator (part n (gap none)) (bound true (kind_of n)) (bound_plain true (kind_of n)))
  declarators_of i b g none = nowhere
  declarators_of i b g (gap ps) = nowhere
  declarators_of i b g (part n none) = nowhere
  declarators_of i b g (part n (part e (part m ps))) = nowhere
  declarators_of i b g (part n (part e (gap ps))) = nowhere
  declarators_of i b g (part n (gap (part m ps))) = nowhere
  declarators_of i b g (part n (gap (gap ps))) = nowhere

  declarators_shaped : (i b : Bool) (k : Kind) (g : Flags) (ps : Parts) → Shaped ps (Of w k g ps) (declarator_ways i b k ps)
  declarators_shaped i b kind.VariableDeclarator g ps = declarators_of i b g ps
  declarators_shaped i b _ g ps = nowhere

  cases_shaped : (r : Bool) (k : Kind) (g : Flags) (ps : Parts) → Shaped ps (Of w k g ps) (cases r k ps)
  cases_shaped r kind.SwitchCase g none = nowhere
  cases_shaped r kind.SwitchCase g (part t ps) = one (λ u c. ap (λ v. text (codes "case") ∷ text (codes " ") ∷ here Plain ∷ text (codes ":") ∷ deeper ∷ v) (lines-marks w (piece.item r) refl 1 ps (lay piece.shallower ∷ []) u))
  cases_shaped r kind.SwitchCase g (gap ps) = one (λ u c. ap (λ v. here Plain ∷ text (codes "default") ∷ text (codes ":") ∷ deeper ∷ v) (lines-marks w (piece.item r) refl 1 ps (lay piece.shallower ∷ []) u))
  cases_shaped r _ g ps = nowhere

  caught : (p : Tree) (ps : Parts) (r : Bool) (o : Option Role) → Asks Plain o → Shaped (part p ps) (shape_marks w (catch_shape true) (part p ps)) (only (term "catch" ∷ sp ∷ sign "(" ∷ put_at o ∷ sign ")" ∷ sp ∷ put (piece.block r) ∷ []))
  caught p ps r None e = one (λ u c. absurd (false≢true u))
  caught p ps r (Some a) e = shape_one (catch_shape true) (part p ps) _ refl refl (ap (λ x. text (codes "catch") ∷ text (codes " ") ∷ text (codes "(") ∷ here x ∷ text (codes ")") ∷ text (codes " ") ∷ here Plain ∷ []) e) (λ c. c)

  handlers_shaped : (r : Bool) (k : Kind) (g : Flags) (ps : Parts) → Shaped ps (Of w k g ps) (handlers r k ps)
  handlers_shaped r kind.CatchClause g none = nowhere
  handlers_shaped r kind.CatchClause g (part p ps) = caught p ps r (bound true (kind_of p)) (bound_plain true (kind_of p))
  handlers_shaped r kind.CatchClause g (gap ps) = shape_one (catch_shape false) (gap ps) _ refl refl refl (λ c. c)
  handlers_shaped r _ g ps = nowhere

  script_means : (g : Flags) (ps : Parts) → Means ps (Of w kind.Program g ps) (at Primary (prologue false true [] (lay piece.feed ∷ []) ps ++ tok class.End [] ∷ []))
  script_means g ps r c = items-marks w false true 0 ps (tok class.End [] ∷ []) r

  module_means : (g : Flags) (ps : Parts) → Means ps (Of w kind.Program g ps) (at Primary (module_prologue true ps ++ tok class.End [] ∷ []))
  module_means g ps r c = modules-marks w true 0 ps (tok class.End [] ∷ []) r

  -- The table

  pub places_shaped : (p : Position) (k : Kind) (g : Flags) (ps : Parts) → sign_at k w g ≡ None → Shaped ps (shape_marks w (shape_by p k w g ps) ps) (spellings (role_of p) (node k w g 0 0 ps))
  unfolding spellings
  places_shaped (at_place.Expression y i f) k g ps n = expressions_shaped w k g ps n
  places_shaped (at_place.ChainPart f) k g ps n = spines_shaped k g ps
  places_shaped at_place.Name k g ps n = names_shaped k g ps
  places_shaped at_place.IdentifierName k g ps n = words_shaped k g ps
  places_shaped at_place.PropertyName k g ps n = keys_shaped k g ps
  places_shaped at_place.ShorthandKey k g ps n = echoes_shaped k ps
  places_shaped at_place.Super k g ps n = bases_shaped k g ps
  places_shaped at_place.DirectiveString k g ps n = quotes_shaped k g ps
  places_shaped at_place.TaggedQuasi k g ps n = quasis_shaped k g ps
  places_shaped (at_place.TemplateElement a b) k g ps n = chunks_shaped a b k ps
  places_shaped at_place.Spread kind.SpreadElement g ps n = plain_one w kind.SpreadElement g ps _ refl refl refl (λ c. c)
  places_shaped at_place.Spread _ g ps n = nowhere
  places_shaped at_place.Property kind.Property g ps n = properties_shaped g.computed g.form (value_form ps) ps
  places_shaped at_place.Property _ g ps n = nowhere
  places_shaped (at_place.Pattern b f) k g ps n = patterns_shaped b k g ps
  places_shaped (at_place.PatternProperty b) kind.Property g ps n = pattern_properties_shaped b g.computed g.form (value_form ps) (lead (others ps)) ps
  places_shaped (at_place.PatternProperty b) _ g ps n = nowhere
  places_shaped (at_place.Element b) k g ps n = elements_shaped b k g ps
  places_shaped (at_place.Rest b o) k g ps n = rests_shaped b o k g ps
  places_shaped (at_place.Method x) kind.FunctionExpression g ps n = shaped_if (is_function_at x g.form) (λ e. methods_shaped x ps) (λ e. nowhere)
  places_shaped (at_place.Method x) _ g ps n = nowhere
  places_shaped at_place.Body kind.BlockStatement g ps n = one (body_means w g ps)
  places_shaped at_place.Body _ g ps n = nowhere
  places_shaped (at_place.Statement r) k g ps n = statements_shaped w r k g ps
  places_shaped (at_place.StatementListItem r) k g ps n = items_shaped w r k g ps
  places_shaped (at_place.PrologueItem r) k g ps n = openings_shaped w r k g ps
  places_shaped (at_place.Block r) kind.BlockStatement g ps n = one (block_means w g (piece.item r) refl ps)
  places_shaped (at_place.Block r) _ g ps n = nowhere
  places_shaped (at_place.ForDeclaration b) k g ps n = heads_shaped b k ps
  places_shaped (at_place.Declarator i b) k g ps n = declarators_shaped i b k g ps
  places_shaped (at_place.SwitchCase r) k g ps n = cases_shaped r k g ps
  places_shaped (at_place.CatchClause r) k g ps n = handlers_shaped r k g ps
  places_shaped at_place.ClassBody kind.ClassBody g ps n = one (class_body_means w g ps)
  places_shaped at_place.ClassBody _ g ps n = nowhere
  places_shaped at_place.Member k g ps n = class_members_shaped k g ps
  places_shaped at_place.PrivateName k g ps n = private_names_shaped k g ps
  places_shaped at_place.ModuleItem k g ps n = module_items_shaped w k g ps
  places_shaped at_place.Specifier k g ps n = specifiers_shaped w k g ps
  places_shaped at_place.DefaultItem k g ps n = default_items_shaped w k g ps
  places_shaped at_place.Script kind.Program g ps n = shaped_if (is_empty w || is w "2022") (λ e. one (script_means g ps)) (λ e. shaped_if (is w "module") (λ u. one (module_means g ps)) (λ u. nowhere))
  places_shaped at_place.Script _ g ps n = nowhere
