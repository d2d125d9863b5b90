-- The outlines of nodes that are no expressions are those of the table.
use Rattle.std.proofs.Common.{◌≡◌, ◌⊎◌, inl, inr, ℕ, Bool, true, false, cond, List, [], ◌∷◌, ◌++◌, refl, sym, ap, ap₂, ◌∙◌, subst}
use Rattle.std.specs.Prelude.{Option, Some, None, ◌&&◌, ◌||◌, not, codes, nat_eq, nat_le, slice_index_or}
use Rattle.tokens.specs.declared.token.TokenClass.TheVariants as class
use Rattle.tree.specs.declared.kind.Kind.{Kind}
use Rattle.tree.specs.declared.kind.Kind.TheVariants as kind
use Rattle.tree.specs.declared.kind.Form.{Form}
use Rattle.tree.specs.declared.kind.Form.TheVariants as form
use Rattle.tree.specs.declared.kind.Flags.{Flags}
use Rattle.tree.specs.Tree.{node, Parts, none, part, gap, kind_of}
use Rattle.language.specs.declared.Rank.TheVariants.{Call, Primary}
use Rattle.language.specs.FirstPart.{lead as lead_kind, others}
use Rattle.language.specs.Vocabulary.{is_reserved, is_string, literal_class, is_rest, is_identifier, is_private, is_super}
use Rattle.language.specs.Pieces as piece
use Rattle.language.specs.Pieces.{Piece, Slot, Spelling, only, put, put_at, sub, tok, lay, fixed, lead, lead_chain, sign, term, sp, is_none, elements, listed, pattern_element, bound, with_default, many, only_at, parameters, absent}
use Rattle.language.specs.Expressions.{chain_parts, member_link, call_link, arguments, in_brackets, first_has_optional, properties, pattern_properties, keyed, object_pattern_part, shorthand_pattern, assignment, methods, method_words, value_form}
use Rattle.language.specs.Statements.{braced, lines, member_lines, members, class_members, class_keyed, static_word, fields}
use Rattle.language.specs.Grammar.{keys, names, words, private_names, is_function_at, shorthand_keys, bases, directive_strings, tagged_quasis, template_parts, patterns, elements_with_default, rests}
use Rattle.spelling_table.specs.declared.position.Position.{Position}
use Rattle.spelling_table.specs.declared.position.Position.TheVariants as position
use Rattle.spelling_table.specs.declared.position.Slot.TheVariants as own
use Rattle.spelling_table.specs.declared.outline.FixedSlots.TheVariants.{Zero, One, Two}
use Rattle.spelling_table.specs.declared.outline.ListSlots.TheVariants as tails
use Rattle.spelling_table.specs.declared.outline.Outline.{Outline}
use Rattle.spelling_table.specs.Outlines.{role_of, slot_of, before, front_before, tail_slots, outline_slots, assignment_at, whole_at, bound_at, default_at, fronted, lined}
use Rattle.spellings.specs.Entries.{entry_at, around}
use Rattle.spellings.specs.Expressions.{kind_at, only_if, selected}
use Rattle.spellings.specs.Others.{leaf_if, is_key_class, class_key, class_keyed as keyed_as, method_keyed, fits_form, field_outline, private_outline, name_outline, set_at, form_method_outline, is_chunk, key_outline, quoted_outline, quasi_outline, keyed_outline, echo_outline, form_outline, keyed_at, shorthand_outline, pattern_form_outline, pattern_outline, defaulted, element_outline, one_at, rest_outline, spine_outline, member_outline}
use Rattle.spellings.proofs.SlotPositions.{named, named-append, named-closed, joined}
use Rattle.spellings.proofs.Lists.{piece_at, lines-named, parameters-named, patterns-named, pattern-named, chunks-named, members-named, bound_piece, default_piece}
use Rattle.spellings.proofs.OutlineWays.{nothing_slots, Outlined, no_way, one_way, lists}
use Rattle.spellings.proofs.ExpressionTable.{second_kind, arguments_names, lead_entry, brace_opens, bracket_starts}

-- of a position at which a start asks nothing: what the outline says of the only way
pub data Placed (ps : Parts) : List Spelling → Option Outline → Type 0 where
  nowhere : Placed ps [] None
  unnamed : {s : Spelling} → named s.pieces ≡ None → Placed ps (s ∷ []) None
  placed : {s : Spelling} {x : Outline} → named s.pieces ≡ outline_slots x ps → Placed ps (s ∷ []) (Some x)
  -- of two ways the first
  placed_first : {s r : Spelling} {x : Outline} {xs : List Slot} → named s.pieces ≡ Some xs → outline_slots x ps ≡ Some xs → Placed ps (s ∷ r ∷ []) (Some x)

module _ {ps : Parts} where
  pub places : (f : Rattle.spelling_table.specs.declared.outline.FixedSlots.FixedSlots) (qs : List Piece) → named qs ≡ front_before f (Some []) → Placed ps (only qs) (Some (fronted Primary f))
  places f qs e = placed (e ∙ sym (ap (front_before f) (nothing_slots ps)))

  pub when : {xs : List Spelling} {o : Option Outline} (b : Bool) → Placed ps xs o → Placed ps (cond b xs []) (cond b o None)
  when true h = h
  when false h = nowhere

  leaf_of : (b : Bool) (qs : List Piece) → named qs ≡ Some [] → Placed ps (cond b (only qs) []) (leaf_if b)
  leaf_of true qs e = places Zero qs e
  leaf_of false qs e = nowhere

  unless_leaf : (b : Bool) (qs : List Piece) → named qs ≡ Some [] → Placed ps (cond b [] (only qs)) (leaf_if (not b))
  unless_leaf true qs e = nowhere
  unless_leaf false qs e = places Zero qs e

  pub names_placed : (k : Kind) (w : List ℕ) → Placed ps (names k w) (name_outline k w)
  names_placed kind.Identifier w = unless_leaf (is_reserved w) (tok class.IdentifierName w ∷ []) refl
  names_placed _ w = nowhere

  pub words_placed : (k : Kind) (w : List ℕ) → Placed ps (words k w) (leaf_if (is_identifier k))
  words_placed kind.Identifier w = places Zero _ refl
  words_placed _ w = nowhere

  pub echoes_placed : (k : Kind) (w : List ℕ) → Placed ps (shorthand_keys k w) (leaf_if (is_identifier k))
  echoes_placed kind.Identifier w = places Zero _ refl
  echoes_placed _ w = nowhere

  pub private_names_placed : (k : Kind) (w : List ℕ) → Placed ps (private_names k w) (private_outline k)
  private_names_placed kind.PrivateIdentifier w = places Zero _ refl
  private_names_placed _ w = nowhere

  pub bases_placed : (k : Kind) → Placed ps (bases k) (leaf_if (is_super k))
  bases_placed kind.Super = places Zero _ refl
  bases_placed _ = nowhere

  pub chunks_placed : (a b : Bool) (k : Kind) (w : List ℕ) → Placed ps (template_parts a b k w) (leaf_if (is_chunk k))
  chunks_placed a b kind.TemplateElement w = places Zero _ refl
  chunks_placed a b _ w = nowhere

  pub quotes_placed : (k : Kind) (w : List ℕ) → Placed ps (directive_strings k w) (quoted_outline k w)
  quotes_placed kind.Literal w = leaf_of (is_string (literal_class w)) (tok class.StringLiteral w ∷ []) refl
  quotes_placed _ w = nowhere

  pub quasis_placed : (k : Kind) → Placed ps (tagged_quasis k ps) (quasi_outline k)
  quasis_placed kind.TemplateLiteral = placed (chunks-named true ps)
  quasis_placed _ = nowhere

  -- a key and what follows it
  pub keyed_placed : (b : Bool) (front after : List Piece) (a : Position) → named front ≡ Some [] → named after ≡ Some (fixed (role_of a) ∷ []) → Placed ps (keyed front b after) (keyed_outline b a)
  keyed_placed true front after a e h = places (Two (own.Fixed assignment_at) (own.Fixed a)) _ (named-append front _ ∙ ap₂ (λ u v. joined u (before (fixed (role_of assignment_at)) v)) e h)
  keyed_placed false front after a e h = places (Two (own.Fixed position.PropertyName) (own.Fixed a)) _ (named-append front _ ∙ ap₂ (λ u v. joined u (before (fixed piece.key) v)) e h)

  echo_placed : (b : Bool) (a : Position) → Placed ps (cond b [] (only (put piece.shorthand_key ∷ put (role_of a) ∷ []))) (echo_outline b a)
  echo_placed true a = nowhere
  echo_placed false a = places (Two (own.Fixed position.ShorthandKey) (own.Fixed a)) _ refl

  -- a key behind what is never spelled
  unkeyed : (b : Bool) (after : List Piece) → Placed ps (keyed (piece.never ∷ []) b after) None
  unkeyed true after = unnamed refl
  unkeyed false after = unnamed refl

  methods_keyed : (b : Bool) (x : Form) → Placed ps (properties b form.Method x) (form_outline b form.Method x)
  methods_keyed b form.Init = keyed_placed b [] _ (position.Method form.Method) refl refl
  methods_keyed b form.Generator = keyed_placed b (method_words form.Generator) _ (position.Method form.Generator) refl refl
  methods_keyed b form.Async = keyed_placed b (method_words form.Async) _ (position.Method form.Async) refl refl
  methods_keyed b form.AsyncGenerator = keyed_placed b (method_words form.AsyncGenerator) _ (position.Method form.AsyncGenerator) refl refl
  methods_keyed b _ = unkeyed b _

  pub properties_placed : (b : Bool) (x y : Form) → Placed ps (properties b x y) (form_outline b x y)
  properties_placed b form.Init y = keyed_placed b [] _ assignment_at refl refl
  properties_placed b form.Method y = methods_keyed b y
  properties_placed b form.Get y = keyed_placed b (term "get" ∷ sp ∷ []) _ (position.Method form.Get) refl refl
  properties_placed b form.Set y = keyed_placed b (term "set" ∷ sp ∷ []) _ (position.Method form.Set) refl refl
  properties_placed b form.Shorthand y = echo_placed b position.Name
  properties_placed b _ y = nowhere

module _ {ps : Parts} where
  shorthands_placed : (b : Bool) (k : Kind) → Placed ps (cond b [] (shorthand_pattern k)) (shorthand_outline b k)
  shorthands_placed true kind.Identifier = nowhere
  shorthands_placed false kind.Identifier = places (Two (own.Fixed position.ShorthandKey) (own.Fixed position.Name)) _ refl
  shorthands_placed true kind.AssignmentPattern = nowhere
  shorthands_placed false kind.AssignmentPattern = places (Two (own.Fixed position.ShorthandKey) (own.Fixed (position.Element true))) _ refl
  shorthands_placed true _ = nowhere
  shorthands_placed false _ = nowhere

  -- a key, and a value at a position that may be none
  keyed_maybe : (b : Bool) (p : Piece) (a : Option Position) → p ≡ piece_at a → Placed ps (keyed [] b (sign ":" ∷ sp ∷ p ∷ [])) (keyed_at b a)
  keyed_maybe true p None e = unnamed (ap (λ q. before (fixed (role_of assignment_at)) (named (q ∷ []))) e)
  keyed_maybe false p None e = unnamed (ap (λ q. before (fixed piece.key) (named (q ∷ []))) e)
  keyed_maybe b p (Some a) e = keyed_placed b [] (sign ":" ∷ sp ∷ p ∷ []) a refl (ap (λ q. named (q ∷ [])) e)

  pub pattern_properties_placed : (b c : Bool) (x : Form) (k : Kind) → Placed ps (pattern_properties b c x k) (pattern_form_outline b c x k)
  pattern_properties_placed b c form.Init k = keyed_maybe c (put_at (with_default b k)) (default_at b k) (default_piece b k)
  pattern_properties_placed b c form.Shorthand k = shorthands_placed c k
  pattern_properties_placed b c _ k = nowhere

  pub defaults_placed : (p : Option piece.Role) (a : Option Position) (qs : List Piece) → put_at p ≡ piece_at a → named qs ≡ Some (fixed (role_of assignment_at) ∷ []) → Placed ps (only_at p qs) (defaulted a)
  defaults_placed None None qs e h = nowhere
  defaults_placed None (Some a) qs e h = absurd (cc)
  defaults_placed (Some r) None qs e h = absurd (cc)
  defaults_placed (Some r) (Some a) qs e h = places (Two (own.Fixed a) (own.Fixed assignment_at)) _ (ap₂ (λ p y. named_before p y) e h)
    where
      named_before : Piece → Option (List Slot) → Option (List Slot)
      named_before (sub x) y = before x y
      named_before _ y = y

  pub rests_placed : (p : Piece) (a : Option Position) → p ≡ piece_at a → Placed ps (only (sign "..." ∷ p ∷ [])) (one_at a)
  rests_placed p None e = unnamed (ap (λ q. named (q ∷ [])) e)
  rests_placed p (Some a) e = places (One (own.Fixed a)) _ (ap (λ q. named (q ∷ [])) e)

-- of a position that the first part's kind picks
pub elements_placed : (b : Bool) (k : Kind) (ps : Parts) → Placed ps (elements_with_default b k ps) (element_outline b k (kind_at (entry_at ps 0)))
elements_placed b kind.AssignmentPattern ps = subst (λ j. Placed ps (only_at (bound b (lead_kind ps)) (sp ∷ sign "=" ∷ sp ∷ assignment ∷ [])) (defaulted (bound_at b j))) (lead_entry ps)
    (defaults_placed (bound b (lead_kind ps)) (bound_at b (lead_kind ps)) (sp ∷ sign "=" ∷ sp ∷ assignment ∷ []) (bound_piece b (lead_kind ps)) refl)
elements_placed b _ ps = nowhere

pub unless : {ps : Parts} {xs : List Spelling} {o : Option Outline} (b : Bool) → Placed ps xs o → Placed ps (cond b [] xs) (cond b None o)
unless true h = nowhere
unless false h = h

-- braces, and layout inside them
enclosed : (x y qs : List Piece) → named x ≡ Some [] → named y ≡ Some [] → named (sign "{" ∷ x ++ qs ++ y ++ sign "}" ∷ []) ≡ named qs
enclosed x y qs e h = named-closed ((sign "{" ∷ x) ++ qs ++ y) (sign "}" ∷ []) refl ∙ named-closed ((sign "{" ∷ x) ++ qs) y h ∙ named-append (sign "{" ∷ x) qs ∙ ap (λ u. joined u (named qs)) e

free : (b : Bool) (qs : List Piece) → named qs ≡ Some [] → named (cond b [] qs) ≡ Some []
free true qs h = refl
free false qs h = h

pub braced-named : (ps : Parts) (qs : List Piece) → named (braced ps qs) ≡ named qs
braced-named ps qs = enclosed (cond (is_none ps) [] (lay piece.deeper ∷ [])) (cond (is_none ps) [] (lay piece.shallower ∷ lay piece.line ∷ [])) qs
    (free (is_none ps) (lay piece.deeper ∷ []) refl) (free (is_none ps) (lay piece.shallower ∷ lay piece.line ∷ []) refl)

rest_of : {ps : Parts} (b o x : Bool) (j : Kind) → Placed ps (cond (o && x) [] (only (sign "..." ∷ put_at (bound b j) ∷ []))) (cond (o && x) None (one_at (bound_at b j)))
rest_of b o x j = unless (o && x) (rests_placed (put_at (bound b j)) (bound_at b j) (bound_piece b j))

pub rest_placed : (b o : Bool) (k : Kind) (ps : Parts) → Placed ps (rests b o k ps) (rest_outline b o k (kind_at (entry_at ps 0)))
rest_placed b o kind.RestElement none = rest_of b o false kind.Program
rest_placed b o kind.RestElement (gap ps) = rest_of b o false kind.Program
rest_placed b o kind.RestElement (part (node kind.ArrayPattern w g s e us) ps) = rest_of b o true kind.ArrayPattern
rest_placed b o kind.RestElement (part (node kind.ObjectPattern w g s e us) ps) = rest_of b o true kind.ObjectPattern
rest_placed b o kind.RestElement (part (node k w g s e us) ps) = rest_of b o false k
rest_placed b o _ ps = nowhere

pub members_placed : (ps : Parts) → Placed ps (only (braced ps (many (codes ";") ∷ member_lines ps))) (Some (lined Primary Zero (tails.Each (own.Fixed position.Member)) 0))
members_placed ps = placed (braced-named ps (many (codes ";") ∷ member_lines ps) ∙ members-named ps)

link-named : (g : Flags) (p : Kind) → named (member_link g p) ≡ Some (slot_of (selected g p) ∷ [])
link-named g p = of g.optional g.computed (is_private p)
  where
    of : (a b c : Bool) → named (cond a (sign "?." ∷ cond b in_brackets (put (cond c piece.private_name piece.word) ∷ [])) (cond b in_brackets (sign "." ∷ put (cond c piece.private_name piece.word) ∷ []))) ≡
        Some (slot_of (own.Fixed (cond b whole_at (cond c position.PrivateName position.IdentifierName))) ∷ [])
    of true true c = refl
    of false true c = refl
    of true false true = refl
    of true false false = refl
    of false false true = refl
    of false false false = refl

called-named : (g : Flags) (ps : Parts) → named (call_link g ps) ≡ tail_slots (tails.Arguments false) (others ps)
called-named g ps = of g.optional ∙ arguments_names (others ps)
  where
    of : (b : Bool) → named (cond b (sign "?." ∷ []) [] ++ arguments (others ps)) ≡ named (arguments (others ps))
    of true = refl
    of false = refl

-- a further part below, or the base
linked_placed : {ps : Parts} (b o : Bool) (qs : List Piece) (f : Rattle.spelling_table.specs.declared.position.Slot.Slot → Outline) →
    ((x : Slot) (y : Rattle.spelling_table.specs.declared.position.Slot.Slot) → x ≡ slot_of y → named (sub x ∷ qs) ≡ outline_slots (f y) ps) →
    Placed ps (cond b (only (sub lead_chain ∷ qs)) (cond o (only (sub (lead Call) ∷ qs)) [])) (cond b (Some (f own.LeadSpine)) (cond o (Some (f (own.Lead Call))) None))
linked_placed true o qs f h = placed (h lead_chain own.LeadSpine refl)
linked_placed false true qs f h = placed (h (lead Call) (own.Lead Call) refl)
linked_placed false false qs f h = nowhere

pub spines_placed : (k : Kind) (g : Flags) (ps : Parts) → Placed ps (chain_parts k g ps) (spine_outline k g (first_has_optional ps) (kind_at (entry_at ps 1)))
spines_placed kind.MemberExpression g ps = rw (second_kind ps) (linked_placed (first_has_optional ps) g.optional (member_link g (kind_at (entry_at ps 1))) (λ y. fronted Primary (Two y (selected g (kind_at (entry_at ps 1)))))
    (λ x y e. ap₂ (λ u v. before u v) e (link-named g (kind_at (entry_at ps 1))) ∙ sym (ap (λ v. before (slot_of y) (before (slot_of (selected g (kind_at (entry_at ps 1)))) v)) (nothing_slots ps))))
spines_placed kind.CallExpression g ps = linked_placed (first_has_optional ps) g.optional (call_link g ps) (λ y. lined Primary (One y) (tails.Arguments false) 1)
    (λ x y e. ap₂ (λ u v. before u v) e (called-named g ps))
spines_placed _ g ps = nowhere

-- functions of methods
parameters_of : (ps : Parts) → named (parameters (sign ")" ∷ sp ∷ put piece.body ∷ []) ps) ≡ tail_slots (tails.Parameters (own.Fixed position.Body)) ps
parameters_of ps = parameters-named (own.Fixed position.Body) (sign ")" ∷ sp ∷ put piece.body ∷ []) refl ps

set_placed : {ps : Parts} (p : Piece) (a : Option Position) → p ≡ piece_at a → Placed ps (only (absent ∷ sign "(" ∷ p ∷ sign ")" ∷ sp ∷ put piece.body ∷ [])) (set_at a)
set_placed p None e = unnamed (ap (λ q. named (q ∷ sign ")" ∷ sp ∷ put piece.body ∷ [])) e)
set_placed p (Some a) e = places (Two (own.Fixed a) (own.Fixed position.Body)) _ (ap (λ q. named (q ∷ sign ")" ∷ sp ∷ put piece.body ∷ [])) e)

plain_placed : (ps : Parts) → Placed (gap ps) (only (absent ∷ sign "(" ∷ parameters (sign ")" ∷ sp ∷ put piece.body ∷ []) ps)) (Some (lined Primary Zero (tails.Parameters (own.Fixed position.Body)) 1))
plain_placed ps = placed (parameters_of ps)

getters_placed : (ps : Parts) → Placed ps (methods form.Get ps) (form_method_outline form.Get (around ps))
getters_placed none = nowhere
getters_placed (part n ps) = nowhere
getters_placed (gap none) = nowhere
getters_placed (gap (gap ps)) = nowhere
getters_placed (gap (part b none)) = places (One (own.Fixed position.Body)) _ refl
getters_placed (gap (part b (part m ps))) = nowhere
getters_placed (gap (part b (gap ps))) = nowhere

setters_placed : (ps : Parts) → Placed ps (methods form.Set ps) (form_method_outline form.Set (around ps))
setters_placed none = nowhere
setters_placed (part n ps) = nowhere
setters_placed (gap none) = nowhere
setters_placed (gap (gap ps)) = nowhere
setters_placed (gap (part n none)) = nowhere
setters_placed (gap (part n (gap ps))) = nowhere
setters_placed (gap (part n (part b none))) = unless (is_rest (kind_of n)) (set_placed (put_at (with_default true (kind_of n))) (default_at true (kind_of n)) (default_piece true (kind_of n)))
setters_placed (gap (part n (part b (part m ps)))) = nowhere
setters_placed (gap (part n (part b (gap ps)))) = nowhere

pub methods_placed : (x : Form) (ps : Parts) → Placed ps (methods x ps) (form_method_outline x (around ps))
methods_placed form.Get ps = getters_placed ps
methods_placed form.Set ps = setters_placed ps
methods_placed _ none = nowhere
methods_placed _ (part n ps) = nowhere
methods_placed _ (gap ps) = plain_placed ps

-- whether a method's function may stand there
pub functions_at : (x y : Form) (ps : Parts) → Placed ps (cond (is_function_at x y) (methods x ps) []) (only_if (is_function_at x y) (form_method_outline x (around ps)))
functions_at x y ps = when (is_function_at x y) (methods_placed x ps)

-- keys
key_by : {ps : Parts} (b c : Bool) (qs : List Piece) → named qs ≡ Some [] → not b ≡ c → Placed ps (cond b [] (only qs)) (leaf_if c)
key_by {ps} b c qs h e = subst (λ v. Placed ps (cond b [] (only qs)) (leaf_if v)) e (unless_leaf b qs h)

literal_classes : (w : List ℕ) → (literal_class w ≡ class.StringLiteral) ⊎ ((literal_class w ≡ class.RegularExpressionLiteral) ⊎ ((literal_class w ≡ class.NumericLiteral) ⊎ (literal_class w ≡ class.IdentifierName)))
literal_classes w = of (nat_eq (slice_index_or w 0 0) 34 || nat_eq (slice_index_or w 0 0) 39) (nat_eq (slice_index_or w 0 0) 47) (nat_eq (slice_index_or w 0 0) 46 || (nat_le 48 (slice_index_or w 0 0) && nat_le (slice_index_or w 0 0) 57))
  where
    of : (a b c : Bool) → (cond a class.StringLiteral (cond b class.RegularExpressionLiteral (cond c class.NumericLiteral class.IdentifierName)) ≡ class.StringLiteral) ⊎ ((cond a class.StringLiteral (cond b class.RegularExpressionLiteral (cond c class.NumericLiteral class.IdentifierName)) ≡ class.RegularExpressionLiteral) ⊎ ((cond a class.StringLiteral (cond b class.RegularExpressionLiteral (cond c class.NumericLiteral class.IdentifierName)) ≡ class.NumericLiteral) ⊎ (cond a class.StringLiteral (cond b class.RegularExpressionLiteral (cond c class.NumericLiteral class.IdentifierName)) ≡ class.IdentifierName)))
    of true b c = inl refl
    of false true c = inr (inl refl)
    of false false true = inr (inr (inl refl))
    of false false false = inr (inr (inr refl))

literal_key : {ps : Parts} (w : List ℕ) → (literal_class w ≡ class.StringLiteral) ⊎ ((literal_class w ≡ class.RegularExpressionLiteral) ⊎ ((literal_class w ≡ class.NumericLiteral) ⊎ (literal_class w ≡ class.IdentifierName))) → Placed ps (keys kind.Literal w) (leaf_if (is_key_class (literal_class w)))
literal_key w (inl p) = key_by _ _ (tok (literal_class w) w ∷ []) refl (cc)
literal_key w (inr (inl p)) = key_by _ _ (tok (literal_class w) w ∷ []) refl (cc)
literal_key w (inr (inr (inl p))) = key_by _ _ (tok (literal_class w) w ∷ []) refl (cc)
literal_key w (inr (inr (inr p))) = key_by _ _ (tok (literal_class w) w ∷ []) refl (cc)

pub keys_placed : {ps : Parts} (k : Kind) (w : List ℕ) → Placed ps (keys k w) (key_outline k w)
keys_placed kind.Identifier w = places Zero _ refl
keys_placed kind.Literal w = literal_key w (literal_classes w)
keys_placed _ w = nowhere

-- members

-- a key, by its kind, between these
class_keyed_placed : {ps : Parts} (b : Bool) (front after : List Piece) (k : Kind) (a : Position) → named front ≡ Some [] → named after ≡ Some (fixed (role_of a) ∷ []) → Placed ps (class_keyed front b k after) (keyed_as b k a)
class_keyed_placed b front after k a e h = of b (is_private k)
  where
    between : (p : Position) → named (front ++ put (role_of p) ∷ after) ≡ Some (fixed (role_of p) ∷ fixed (role_of a) ∷ [])
    between p = named-append front _ ∙ ap₂ (λ u v. joined u (before (fixed (role_of p)) v)) e h

    of : {ps : Parts} (c d : Bool) → Placed ps (cond c (only (front ++ sign "[" ∷ assignment ∷ sign "]" ∷ after)) (only (front ++ put (cond d piece.private_name piece.key) ∷ after)))
        (Some (fronted Primary (Two (own.Fixed (cond c assignment_at (cond d position.PrivateName position.PropertyName))) (own.Fixed a))))
    of true d = places (Two (own.Fixed assignment_at) (own.Fixed a)) _ (named-append front _ ∙ ap₂ (λ u v. joined u (before (fixed (role_of assignment_at)) v)) e h)
    of false true = places (Two (own.Fixed position.PrivateName) (own.Fixed a)) _ (between position.PrivateName)
    of false false = places (Two (own.Fixed position.PropertyName) (own.Fixed a)) _ (between position.PropertyName)

-- a key alone
class_key_placed : {ps : Parts} (b : Bool) (front after : List Piece) (k : Kind) → named front ≡ Some [] → named after ≡ Some [] → Placed ps (class_keyed front b k after) (Some (fronted Primary (One (own.Fixed (class_key b k)))))
class_key_placed b front after k e h = of b (is_private k)
  where
    between : (p : Position) → named (front ++ put (role_of p) ∷ after) ≡ Some (fixed (role_of p) ∷ [])
    between p = named-append front _ ∙ ap₂ (λ u v. joined u (before (fixed (role_of p)) v)) e h

    of : {ps : Parts} (c d : Bool) → Placed ps (cond c (only (front ++ sign "[" ∷ assignment ∷ sign "]" ∷ after)) (only (front ++ put (cond d piece.private_name piece.key) ∷ after)))
        (Some (fronted Primary (One (own.Fixed (cond c assignment_at (cond d position.PrivateName position.PropertyName))))))
    of true d = places (One (own.Fixed assignment_at)) _ (named-append front _ ∙ ap₂ (λ u v. joined u (before (fixed (role_of assignment_at)) v)) e h)
    of false true = places (One (own.Fixed position.PrivateName)) _ (between position.PrivateName)
    of false false = places (One (own.Fixed position.PropertyName)) _ (between position.PropertyName)

static_named : (s : Bool) → named (static_word s) ≡ Some []
static_named true = refl
static_named false = refl

worded : (s : Bool) (ws : List Piece) → named ws ≡ Some [] → named (static_word s ++ ws) ≡ Some []
worded s ws e = named-append (static_word s) ws ∙ ap₂ (λ u v. joined u v) (static_named s) e

-- a key behind what is never spelled
never_keyed : {ps : Parts} (b s : Bool) (k : Kind) (after : List Piece) → Placed ps (class_keyed (static_word s ++ piece.never ∷ []) b k after) None
never_keyed true true k after = unnamed refl
never_keyed true false k after = unnamed refl
never_keyed false true k after = unnamed refl
never_keyed false false k after = unnamed refl

plain_members : {ps : Parts} (s b : Bool) (y : Form) (k : Kind) → Placed ps (members (static_word s) b form.Method y k) (method_keyed b form.Method y k)
plain_members s b form.Init k = class_keyed_placed b (static_word s ++ []) _ k (position.Method form.Method) (worded s [] refl) refl
plain_members s b form.Generator k = class_keyed_placed b (static_word s ++ method_words form.Generator) _ k (position.Method form.Generator) (worded s (method_words form.Generator) refl) refl
plain_members s b form.Async k = class_keyed_placed b (static_word s ++ method_words form.Async) _ k (position.Method form.Async) (worded s (method_words form.Async) refl) refl
plain_members s b form.AsyncGenerator k = class_keyed_placed b (static_word s ++ method_words form.AsyncGenerator) _ k (position.Method form.AsyncGenerator) (worded s (method_words form.AsyncGenerator) refl) refl
plain_members s b _ k = never_keyed b s k _

members_by_form : {ps : Parts} (s b : Bool) (x y : Form) (k : Kind) → Placed ps (members (static_word s) b x y k) (method_keyed b x y k)
members_by_form s b form.Get y k = class_keyed_placed b (static_word s ++ term "get" ∷ sp ∷ []) _ k (position.Method form.Get) (worded s (term "get" ∷ sp ∷ []) refl) refl
members_by_form s b form.Set y k = class_keyed_placed b (static_word s ++ term "set" ∷ sp ∷ []) _ k (position.Method form.Set) (worded s (term "set" ∷ sp ∷ []) refl) refl
members_by_form s b _ y k = plain_members s b y k

never_constructor : (c s : Bool) → false ≡ ((not c && not s && false) && true)
never_constructor true s = refl
never_constructor false true = refl
never_constructor false false = refl

abbrev with_form : Form → Flags → Flags
with_form x g = record g { form = x }

-- a method whose first part is missing is no constructor
unkeyed_methods : (x : Form) (g : Flags) (ps : Parts) → Placed ps (cond (fits_form false x) (members (static_word g.is_static) g.computed x form.Init kind.Program) [])
    (only_if (fits_form ((not g.computed && not g.is_static && false) && true) x) (method_keyed g.computed x form.Init kind.Program))
unkeyed_methods x g ps = subst (λ b. Placed ps (cond (fits_form false x) (members (static_word g.is_static) g.computed x form.Init kind.Program) []) (only_if (fits_form b x) (method_keyed g.computed x form.Init kind.Program)))
    (never_constructor g.computed g.is_static) (when (fits_form false x) (members_by_form g.is_static g.computed x form.Init kind.Program))

members_with : (x : Form) (g : Flags) (ps : Parts) → Placed ps (class_members kind.MethodDefinition (with_form x g) ps) (member_outline kind.MethodDefinition (with_form x g) (around ps))
members_with form.Get g none = unkeyed_methods form.Get g none
members_with form.Set g none = unkeyed_methods form.Set g none
members_with form.Method g none = unkeyed_methods form.Method g none
members_with form.Constructor g none = unkeyed_methods form.Constructor g none
members_with form.Get g (gap ps) = unkeyed_methods form.Get g (gap ps)
members_with form.Set g (gap ps) = unkeyed_methods form.Set g (gap ps)
members_with form.Method g (gap ps) = unkeyed_methods form.Method g (gap ps)
members_with form.Constructor g (gap ps) = unkeyed_methods form.Constructor g (gap ps)
members_with form.Get g (part n ps) = members_by_form g.is_static g.computed form.Get (value_form (part n ps)) (kind_of n)
members_with form.Set g (part n ps) = members_by_form g.is_static g.computed form.Set (value_form (part n ps)) (kind_of n)
members_with form.Method g (part n ps) = when _ (members_by_form g.is_static g.computed form.Method (value_form (part n ps)) (kind_of n))
members_with form.Constructor g (part n ps) = when _ (members_by_form g.is_static g.computed form.Constructor (value_form (part n ps)) (kind_of n))
members_with _ g ps = nowhere

fields_placed : (g : Flags) (ps : Parts) → Placed ps (fields g ps) (field_outline g.computed (entry_at ps 0) (entry_at ps 1) (entry_at ps 2))
fields_placed g none = nowhere
fields_placed g (gap ps) = nowhere
fields_placed g (part n none) = nowhere
fields_placed g (part n (gap none)) = class_key_placed g.computed (static_word g.is_static) _ (kind_of n) (static_named g.is_static) refl
fields_placed g (part n (gap (gap ps))) = nowhere
fields_placed g (part n (gap (part m ps))) = nowhere
fields_placed g (part n (part v none)) = class_keyed_placed g.computed (static_word g.is_static) _ (kind_of n) assignment_at (static_named g.is_static) refl
fields_placed g (part n (part v (gap ps))) = nowhere
fields_placed g (part n (part v (part m ps))) = nowhere

pub member_placed : (k : Kind) (g : Flags) (ps : Parts) → Placed ps (class_members k g ps) (member_outline k g (around ps))
member_placed kind.MethodDefinition g ps = members_with g.form g ps
member_placed kind.PropertyDefinition g ps = fields_placed g ps
member_placed kind.StaticBlock g ps = placed (braced-named ps (lines (piece.item false) ps) ∙ lines-named (position.StatementListItem false) ps)
member_placed _ g ps = nowhere

-- patterns
pub patterns_outlined : (b : Bool) (k : Kind) (ps : Parts) → Outlined ps (patterns b k ps) (pattern_outline b k)
patterns_outlined b kind.ArrayPattern ps = lists Primary Zero (tails.PatternElements b) 0 _ (named-closed (elements (pattern_element b) ps) (sign "]" ∷ []) refl ∙ patterns-named b ps) (λ f. bracket_starts ps f _)
patterns_outlined b kind.ObjectPattern ps = one_way (record { rank = refl; needs_in = refl; opens = λ f. brace_opens f _; names = named-closed (listed (object_pattern_part b) ps) (sign "}" ∷ []) refl ∙ pattern-named b ps })
patterns_outlined b _ ps = no_way
