-- What may stand in a form, whatever the node: a regular expression over pieces; and that each form's pieces are of its shape. A
-- test of pieces that a shape passes, so passes each node of that form.
use Rattle.std.proofs.Common.{◌≡◌, ℕ, Bool, true, false, cond, List, [], ◌∷◌, ◌++◌, refl, sym, subst, append_assoc}
use Rattle.std.specs.Prelude.{Some, None, ◌&&◌, codes}
use Rattle.std.proofs.lemmas.Bool.{and_parts}
use Rattle.tree.specs.declared.kind.Form.{Form as MethodForm}
use Rattle.tree.specs.declared.kind.Form.TheVariants as method_form
use Rattle.tree.specs.declared.kind.Kind.{Kind}
use Rattle.tree.specs.declared.kind.Kind.TheVariants as kind
use Rattle.tree.specs.declared.kind.Flags.{Flags}
use Rattle.tree.specs.Tree.{Tree, node, Parts, none, part, gap, kind_of}
use Rattle.language.specs.declared.Rank.TheVariants.{Expression, Assignment, LeftHandSide}
use Rattle.language.specs.declared.Start.TheVariants.{Any, NoBrace, Statement}
use Rattle.language.specs.FirstPart.{lead as lead_kind, others, begins_with_brace}
use Rattle.language.specs.Edges.{edge}
use Rattle.language.specs.Vocabulary.{is, is_private, is_rest, is_spread, is_pattern, is_identifier, is_target}
use Rattle.language.specs.Pieces.{Role, expr, name, word, private_name, key, directive_string, module_item, specifier, default_item, spread, property, pattern, pattern_property, element, rest, body, item, opening, head, member, template_element, bound, with_default, apart, loose, line, feed, Ending, of_export, behind_value, behind_key, Piece, may, many, unbroken, ending, close_parameters, sub, tail, absent, never, lay, put, put_at, sign, sp, is_none, separator, listed, listed_before, elements, parameters}
use Rattle.language.specs.Expressions.{assignment, in_brackets, module_name, given, after_number, selector, member_link, template_elements, arrow_end, sequence, arrow_closing}
use Rattle.language.specs.Statements.{lines, prologue, declarators, is_declaration, for_left, member_lines, is_directive, key_word, from_source, imported, exported, named_imports, export_list, exported_declaration, exported_default, is_module_item, module_prologue}
use Rattle.language.specs.Forms as made
use Rattle.language.specs.Forms.{Item, OwnText, own_piece, PartSort, an_argument, a_property, a_pattern_property, a_pattern_element, part_piece, of_first, key_pieces, Production, form, item_pieces, pieces_of, holds, parts_from}

-- a test of all forms that a function may have, for what is shown of a production with one
abbrev pub all_forms : (MethodForm → Bool) → Bool
all_forms test =
    test method_form.Init && (test method_form.Get && (test method_form.Set && (test method_form.Method && (test method_form.Shorthand && (test method_form.Constructor
    && (test method_form.Generator && (test method_form.Async && test method_form.AsyncGenerator)))))))

pub of_form : (test : MethodForm → Bool) → all_forms test ≡ true → (x : MethodForm) → test x ≡ true
of_form test h x =
    let a = and_parts (test method_form.Init) _ h in
    let b = and_parts (test method_form.Get) _ a.1 in
    let c = and_parts (test method_form.Set) _ b.1 in
    let d = and_parts (test method_form.Method) _ c.1 in
    let e = and_parts (test method_form.Shorthand) _ d.1 in
    let i = and_parts (test method_form.Constructor) _ e.1 in
    let j = and_parts (test method_form.Generator) _ i.1 in
    let k = and_parts (test method_form.Async) _ j.1 in
    of x a.0 b.0 c.0 d.0 e.0 i.0 j.0 k.0 k.1
  where
    of : (y : MethodForm) → test method_form.Init ≡ true → test method_form.Get ≡ true → test method_form.Set ≡ true → test method_form.Method ≡ true → test method_form.Shorthand ≡ true →
        test method_form.Constructor ≡ true → test method_form.Generator ≡ true → test method_form.Async ≡ true → test method_form.AsyncGenerator ≡ true → test y ≡ true
    of method_form.Init a b c d e i j k l = a
    of method_form.Get a b c d e i j k l = b
    of method_form.Set a b c d e i j k l = c
    of method_form.Method a b c d e i j k l = d
    of method_form.Shorthand a b c d e i j k l = e
    of method_form.Constructor a b c d e i j k l = i
    of method_form.Generator a b c d e i j k l = j
    of method_form.Async a b c d e i j k l = k
    of method_form.AsyncGenerator a b c d e i j k l = l

pub data Shape : Type 0 where
  empty : Shape
  piece : Piece → Shape
  own : OwnText → Shape
  -- the end of a statement, whatever its edge
  an_ending : Shape
  then or : Shape → Shape → Shape
  many_of : Shape → Shape

-- pieces of this shape, and what follows them
pub data Fits (w : List ℕ) : Shape → List Piece → List Piece → Type 0 where
  nothing : {xs : List Piece} → Fits w empty xs xs
  a_piece : {q : Piece} {xs : List Piece} → Fits w (piece q) (q ∷ xs) xs
  an_own : {o : OwnText} {q : Piece} {xs : List Piece} → q ≡ own_piece o w → Fits w (own o) (q ∷ xs) xs
  ended : {e : Ending} {xs : List Piece} → Fits w an_ending (ending e ∷ xs) xs
  both : {r s : Shape} {xs ys zs : List Piece} → Fits w r xs ys → Fits w s ys zs → Fits w (then r s) xs zs
  at_left : {r s : Shape} {xs ys : List Piece} → Fits w r xs ys → Fits w (or r s) xs ys
  at_right : {r s : Shape} {xs ys : List Piece} → Fits w s xs ys → Fits w (or r s) xs ys
  stop : {r : Shape} {xs : List Piece} → Fits w (many_of r) xs xs
  more : {r : Shape} {xs ys zs : List Piece} → Fits w r xs ys → Fits w (many_of r) ys zs → Fits w (many_of r) xs zs

abbrev pub exactly : List Piece → Shape
exactly [] = empty
exactly (q ∷ qs) = then (piece q) (exactly qs)

-- what is bound or assigned; with a default, or as an element or parameter
abbrev pub bound_shape : Bool → Shape
bound_shape b = or (piece (put (pattern b Any))) (or (piece (put name)) (or (piece (put (expr LeftHandSide true Any))) (piece never)))

abbrev pub default_shape : Bool → Shape
default_shape b = or (piece (put (element b))) (bound_shape b)

abbrev pub part_shape : PartSort → Shape
part_shape an_argument = or (piece (put spread)) (piece assignment)
part_shape a_property = or (piece (put spread)) (or (piece (put property)) (piece never))
part_shape (a_pattern_property b) = or (piece (put (rest b true))) (or (piece (put (pattern_property b))) (piece never))
part_shape (a_pattern_element b) = or (piece (put (rest b false))) (default_shape b)

-- a comma, perhaps none behind the last; or nothing can spell this
abbrev pub separator_shape : Shape
separator_shape = or (or empty (exactly (may (codes ",") ∷ []))) (or (piece never) (exactly (sign "," ∷ sp ∷ [])))

abbrev pub listed_shape : PartSort → Shape
listed_shape s = many_of (or (then (part_shape s) separator_shape) (piece never))

-- the shape of a list with holes
abbrev pub elements_shape : PartSort → Shape
elements_shape s = many_of (or (then (part_shape s) separator_shape) (then (exactly (absent ∷ sign "," ∷ [])) (or empty (piece sp))))

abbrev pub parameter_shape : Shape
parameter_shape = then (part_shape (a_pattern_element true)) separator_shape

-- the parenthesis behind an arrow's parameters, and what follows it
abbrev pub arrow_closing_shape : Shape
arrow_closing_shape = or (piece (sign ")")) (piece close_parameters)

abbrev pub arrow_end_shape : Shape
arrow_end_shape = then arrow_closing_shape (then (exactly (unbroken ∷ sp ∷ sign "=>" ∷ sp ∷ [])) (or (piece (sub (tail Assignment NoBrace))) (piece (put body))))

-- the parts of a template behind the first substitution
abbrev pub later_elements : Shape
later_elements = then (many_of (exactly (put (template_element false false) ∷ put (expr Expression true Any) ∷ []))) (or (piece (put (template_element false true))) (piece never))

-- behind a dot: a private name, or any name
abbrev pub property_shape : Shape
property_shape = or (piece (put private_name)) (piece (put word))

abbrev pub module_name_shape : Shape
module_name_shape = or (piece (put word)) (piece (put directive_string))

abbrev pub specifier_shape : Shape
specifier_shape = or (piece (put specifier)) (piece never)

-- names between braces, up to the last
abbrev pub specifiers_shape : Shape
specifiers_shape = many_of (then specifier_shape separator_shape)

abbrev pub item_shape : Item → Shape
item_shape (made.one q) = piece q
item_shape (made.own o) = own o
item_shape (made.these qs) = exactly qs
item_shape (made.choose t first second) = or (exactly first) (exactly second)
item_shape (made.if_part n qs) = or (exactly qs) (or (piece absent) (piece never))
item_shape made.number_space = or empty (piece (lay loose))
item_shape made.sign_space = or (piece (lay (apart 43))) (or (piece (lay (apart 45))) empty)
item_shape made.link = or (exactly (sign "?." ∷ in_brackets)) (or (then (piece (sign "?.")) property_shape) (or (exactly in_brackets) (then (piece (sign ".")) property_shape)))
item_shape made.edge_ending = an_ending
item_shape (made.bound_part b n) = bound_shape b
item_shape (made.default_part b n) = default_shape b
item_shape made.for_left_part = or (piece (put (head false))) (bound_shape false)
item_shape made.for_first_part = or (or (piece (put (head true))) (piece (put (expr Expression false Any)))) (or (piece absent) (piece never))
item_shape made.selector_part = or (exactly in_brackets) (then (piece (sign ".")) property_shape)
item_shape made.class_key = or (exactly (sign "[" ∷ assignment ∷ sign "]" ∷ [])) (or (piece (put private_name)) (piece (put key)))
item_shape made.value_ending = or an_ending (piece never)
item_shape made.key_ending = or an_ending (piece never)
item_shape (made.module_name_part n) = or module_name_shape (piece never)
item_shape made.exported_part = or (piece (put (item false))) (piece never)
item_shape made.default_export = or (piece (put default_item)) (or (then (or (piece (put (expr Assignment true Any))) (piece (put (expr Assignment true Statement)))) an_ending) (piece never))
item_shape (made.import_list n) = then (piece (sign "{")) (then specifiers_shape (or (exactly (sign "}" ∷ from_source)) (piece never)))
item_shape (made.export_list_from n) = then specifiers_shape (or (exactly (sign "}" ∷ absent ∷ ending of_export ∷ [])) (or (exactly (sign "}" ∷ from_source)) (piece never)))
item_shape (made.list s n) = listed_shape s
item_shape (made.list_with_holes s n) = elements_shape s
item_shape (made.parameter_list after n) = then (many_of parameter_shape) (or (exactly after) (piece never))
item_shape made.arrow_parameters = then (many_of parameter_shape) (or arrow_end_shape (piece never))
item_shape made.template_list = or (piece (put (template_element true true))) (or (piece never) (then (exactly (put (template_element true false) ∷ put (expr Expression true Any) ∷ [])) later_elements))
item_shape made.sequence_list = many_of (or (exactly (sign "," ∷ sp ∷ sub (tail Assignment Any) ∷ [])) (piece never))
item_shape made.member_list = many_of (or (exactly (lay line ∷ put member ∷ many (codes ";") ∷ [])) (piece never))
item_shape (made.line_list a n) = many_of (or (exactly (lay line ∷ put a ∷ [])) (piece never))
item_shape (made.declarator_list a) = then (many_of (exactly (put a ∷ sign "," ∷ sp ∷ []))) (or (piece (put a)) (piece never))
item_shape (made.item_list r b before after) = many_of (or (then (exactly before) (then (or (piece (put (opening r))) (piece (put (item r)))) (exactly after))) (piece never))
item_shape made.module_item_list = many_of (or (then (or (piece (put module_item)) (or (piece (put (opening false))) (piece (put (item false))))) (exactly (lay feed ∷ []))) (piece never))

abbrev pub shape_of : List Item → Shape
shape_of [] = empty
shape_of (x ∷ []) = item_shape x
shape_of (x ∷ y ∷ xs) = then (item_shape x) (shape_of (y ∷ xs))

-- these pieces are of this shape, whatever follows
pub record Spelled (w : List ℕ) (r : Shape) (xs : List Piece) : Type 0 where
  pub fits : (ys : List Piece) → Fits w r (xs ++ ys) ys

module _ {w : List ℕ} where
  behind : {r s : Shape} {xs zs : List Piece} → Spelled w r xs → Spelled w s zs → Spelled w (then r s) (xs ++ zs)
  behind {r = r} {xs = xs} {zs = zs} h k = record { fits = λ ys. both (subst (λ u. Fits w r u (zs ++ ys)) (sym (append_assoc xs zs ys)) (h.fits (zs ++ ys))) (k.fits ys) }

  again : {r : Shape} {xs zs : List Piece} → Spelled w r xs → Spelled w (many_of r) zs → Spelled w (many_of r) (xs ++ zs)
  again {r = r} {xs = xs} {zs = zs} h k = record { fits = λ ys. more (subst (λ u. Fits w r u (zs ++ ys)) (sym (append_assoc xs zs ys)) (h.fits (zs ++ ys))) (k.fits ys) }

  done : {r : Shape} → Spelled w (many_of r) []
  done = record { fits = λ ys. stop }

  single : (q : Piece) → Spelled w (piece q) (q ∷ [])
  single q = record { fits = λ ys. a_piece }

  at_first : {r s : Shape} {xs : List Piece} → Spelled w r xs → Spelled w (or r s) xs
  at_first h = record { fits = λ ys. at_left (h.fits ys) }

  at_second : {r s : Shape} {xs : List Piece} → Spelled w s xs → Spelled w (or r s) xs
  at_second h = record { fits = λ ys. at_right (h.fits ys) }

  by_test : {r s : Shape} {xs zs : List Piece} (c : Bool) → Spelled w r xs → Spelled w s zs → Spelled w (or r s) (cond c xs zs)
  by_test true h k = at_first h
  by_test false h k = at_second k

  just : (qs : List Piece) → Spelled w (exactly qs) qs
  just [] = record { fits = λ ys. nothing }
  just (q ∷ qs) = behind (single q) (just qs)

  -- one of two positions
  of_roles : (c : Bool) (a b : Role) → Spelled w (or (piece (put a)) (piece (put b))) (put (cond c a b) ∷ [])
  of_roles true a b = at_first (single _)
  of_roles false a b = at_second (single _)

  -- nothing spells this
  none_of : {r : Shape} → Spelled w (many_of (or r (piece never))) (never ∷ [])
  none_of = again (at_second (single never)) done

  once_more : {r s : Shape} {xs zs : List Piece} → Spelled w r xs → Spelled w (then (many_of r) s) zs → Spelled w (then (many_of r) s) (xs ++ zs)
  once_more {r} {s} {xs} {zs} h k = record { fits = λ ys. go ys (k.fits ys) }
    where
      go : (ys : List Piece) → Fits w (then (many_of r) s) (zs ++ ys) ys → Fits w (then (many_of r) s) ((xs ++ zs) ++ ys) ys
      go ys (both u v) = both (more (subst (λ x. Fits w r x (zs ++ ys)) (sym (append_assoc xs zs ys)) (h.fits (zs ++ ys))) u) v

  last : {r s : Shape} {xs : List Piece} → Spelled w s xs → Spelled w (then (many_of r) s) xs
  last h = behind done h

  bound_spelled : (b : Bool) (k : Kind) → Spelled w (bound_shape b) (put_at (bound b k) ∷ [])
  bound_spelled true k = of (is_pattern k) (is_identifier k)
    where
      of : (x y : Bool) → Spelled w (bound_shape true) (put_at (cond x (Some (pattern true Any)) (cond y (Some name) None)) ∷ [])
      of true y = at_first (single _)
      of false true = at_second (at_first (single _))
      of false false = at_second (at_second (at_second (single _)))
  bound_spelled false k = of (is_pattern k) (is_target k)
    where
      of : (x y : Bool) → Spelled w (bound_shape false) (put_at (cond x (Some (pattern false Any)) (cond y (Some (expr LeftHandSide true Any)) None)) ∷ [])
      of true y = at_first (single _)
      of false true = at_second (at_second (at_first (single _)))
      of false false = at_second (at_second (at_second (single _)))

  default_spelled : (b : Bool) (k : Kind) → Spelled w (default_shape b) (put_at (with_default b k) ∷ [])
  default_spelled b kind.AssignmentPattern = at_first (single _)
  default_spelled b k = at_second (bound_spelled b k)

  part_spelled : (s : PartSort) (n : Tree) → Spelled w (part_shape s) (part_piece s n ∷ [])
  part_spelled an_argument n = of_roles (is_spread (kind_of n)) spread (expr Assignment true Any)
  part_spelled a_property (node kind.SpreadElement x g st e ps) = at_first (single _)
  part_spelled a_property (node kind.Property x g st e ps) = at_second (at_first (single _))
  part_spelled a_property (node _ x g st e ps) = at_second (at_second (single _))
  part_spelled (a_pattern_property b) (node kind.RestElement x g st e ps) = at_first (single _)
  part_spelled (a_pattern_property b) (node kind.Property x g st e ps) = at_second (at_first (single _))
  part_spelled (a_pattern_property b) (node _ x g st e ps) = at_second (at_second (single _))
  part_spelled (a_pattern_element b) n = of (is_rest (kind_of n))
    where
      of : (c : Bool) → Spelled w (or (piece (put (rest b false))) (default_shape b)) (put_at (cond c (Some (rest b false)) (with_default b (kind_of n))) ∷ [])
      of true = at_first (single _)
      of false = at_second (default_spelled b (kind_of n))

  separator_spelled : (k : Kind) (c : Bool) → Spelled w separator_shape (separator k c)
  separator_spelled k true = at_first (by_test (is_rest k) (just []) (just (may (codes ",") ∷ [])))
  separator_spelled k false = at_second (by_test (is_rest k) (single never) (just (sign "," ∷ sp ∷ [])))

  listed_spelled : (s : PartSort) (ps : Parts) → Spelled w (listed_shape s) (listed (part_piece s) ps)
  listed_spelled s none = done
  listed_spelled s (part n ps) = again (at_first (behind (part_spelled s n) (separator_spelled (kind_of n) (is_none ps)))) (listed_spelled s ps)
  listed_spelled s (gap ps) = none_of

  elements_spelled : (s : PartSort) (ps : Parts) → Spelled w (elements_shape s) (elements (part_piece s) ps)
  elements_spelled s none = done
  elements_spelled s (part n ps) = again (at_first (behind (part_spelled s n) (separator_spelled (kind_of n) (is_none ps)))) (elements_spelled s ps)
  elements_spelled s (gap ps) = again (at_second (behind (just (absent ∷ sign "," ∷ [])) (by_test (is_none ps) (just []) (single sp)))) (elements_spelled s ps)

  parameters_spelled : {r : Shape} {after : List Piece} → Spelled w r after → (ps : Parts) → Spelled w (then (many_of parameter_shape) (or r (piece never))) (parameters after ps)
  parameters_spelled h none = last (at_second (single never))
  parameters_spelled h (part n none) = last (at_first h)
  parameters_spelled h (part n (part m ps)) = once_more (behind (part_spelled (a_pattern_element true) n) (separator_spelled (kind_of n) (is_none ps))) (parameters_spelled h (part m ps))
  parameters_spelled h (part n (gap ps)) = last (at_second (single never))
  parameters_spelled h (gap ps) = last (at_second (single never))

  later_spelled : (ps : Parts) → Spelled w later_elements (template_elements false ps)
  later_spelled none = last (at_second (single never))
  later_spelled (gap ps) = last (at_second (single never))
  later_spelled (part n none) = last (at_first (single _))
  later_spelled (part n (gap ps)) = last (at_second (single never))
  later_spelled (part n (part e ps)) = once_more (just (put (template_element false false) ∷ put (expr Expression true Any) ∷ [])) (later_spelled ps)

  template_spelled : (ps : Parts) → Spelled w (item_shape made.template_list) (template_elements true ps)
  template_spelled none = at_second (at_first (single never))
  template_spelled (gap ps) = at_second (at_first (single never))
  template_spelled (part n none) = at_first (single _)
  template_spelled (part n (gap ps)) = at_second (at_first (single never))
  template_spelled (part n (part e ps)) = at_second (at_second (behind (just (put (template_element true false) ∷ put (expr Expression true Any) ∷ [])) (later_spelled ps)))

  sequence_spelled : (ps : Parts) → Spelled w (item_shape made.sequence_list) (sequence ps)
  sequence_spelled none = done
  sequence_spelled (part n ps) = again (at_first (just (sign "," ∷ sp ∷ sub (tail Assignment Any) ∷ []))) (sequence_spelled ps)
  sequence_spelled (gap ps) = none_of

  members_spelled : (ps : Parts) → Spelled w (item_shape made.member_list) (member_lines ps)
  members_spelled none = done
  members_spelled (part n ps) = again (at_first (just (lay line ∷ put member ∷ many (codes ";") ∷ []))) (members_spelled ps)
  members_spelled (gap ps) = none_of

  lines_spelled : (a : Role) (ps : Parts) → Spelled w (many_of (or (exactly (lay line ∷ put a ∷ [])) (piece never))) (lines a ps)
  lines_spelled a none = done
  lines_spelled a (part n ps) = again (at_first (just (lay line ∷ put a ∷ []))) (lines_spelled a ps)
  lines_spelled a (gap ps) = none_of

  declarators_spelled : (a : Role) (ps : Parts) → Spelled w (item_shape (made.declarator_list a)) (declarators a ps)
  declarators_spelled a none = last (at_second (single never))
  declarators_spelled a (part n none) = last (at_first (single _))
  declarators_spelled a (part n (part m ps)) = once_more (just (put a ∷ sign "," ∷ sp ∷ [])) (declarators_spelled a (part m ps))
  declarators_spelled a (part n (gap ps)) = last (at_second (single never))
  declarators_spelled a (gap ps) = last (at_second (single never))

  prologue_spelled : (r b : Bool) (before after : List Piece) (ps : Parts) → Spelled w (item_shape (made.item_list r b before after)) (prologue r b before after ps)
  prologue_spelled r b before after none = done
  prologue_spelled r b before after (part n ps) = again (at_first (behind (just before) (behind (of_roles b (opening r) (item r)) (just after)))) (prologue_spelled r (b && is_directive n) before after ps)
  prologue_spelled r b before after (gap ps) = none_of

  given_spelled : {r : Shape} {qs : List Piece} → Spelled w r qs → (ps : Parts) → Spelled w (or r (or (piece absent) (piece never))) (given ps qs)
  given_spelled h none = at_second (at_second (single never))
  given_spelled h (part n ps) = at_first h
  given_spelled h (gap ps) = at_second (at_first (single absent))

  link_spelled : (g : Flags) (k : Kind) → Spelled w (item_shape made.link) (member_link g k)
  link_spelled g k = of g.optional g.computed
    where
      of : (x y : Bool) → Spelled w (item_shape made.link) (cond x (sign "?." ∷ cond y in_brackets (put (cond (is_private k) private_name word) ∷ [])) (cond y in_brackets (sign "." ∷ put (cond (is_private k) private_name word) ∷ [])))
      of true true = at_first (just (sign "?." ∷ in_brackets))
      of true false = at_second (at_first (behind (single (sign "?.")) (of_roles (is_private k) private_name word)))
      of false true = at_second (at_second (at_first (just in_brackets)))
      of false false = at_second (at_second (at_second (behind (single (sign ".")) (of_roles (is_private k) private_name word))))

  selector_spelled : (g : Flags) (k : Kind) → Spelled w (item_shape made.selector_part) (selector g k)
  selector_spelled g k = by_test g.computed (just in_brackets) (behind (single (sign ".")) (of_roles (is_private k) private_name word))

  -- the end of a field
  ended_first : (f : Tree → Ending) (ps : Parts) → Spelled w (or an_ending (piece never)) (of_first (λ n. ending (f n)) ps ∷ [])
  ended_first f none = at_second (single never)
  ended_first f (part n ps) = at_first (record { fits = λ ys. ended })
  ended_first f (gap ps) = at_second (single never)

  -- imports and exports
  module_name_spelled : (ps : Parts) → Spelled w (or module_name_shape (piece never)) (of_first module_name ps ∷ [])
  module_name_spelled none = at_second (single never)
  module_name_spelled (part n ps) = at_first (of_roles (is_identifier (kind_of n)) word directive_string)
  module_name_spelled (gap ps) = at_second (single never)

  exported_part_spelled : (k : Kind) → Spelled w (item_shape made.exported_part) (exported_declaration k ∷ [])
  exported_part_spelled kind.FunctionDeclaration = at_first (single _)
  exported_part_spelled kind.ClassDeclaration = at_first (single _)
  exported_part_spelled kind.VariableDeclaration = at_first (single _)
  exported_part_spelled _ = at_second (single _)

  default_export_spelled : (n : Tree) → Spelled w (item_shape made.default_export) (exported_default n)
  default_export_spelled (node kind.FunctionDeclaration x g st e ps) = at_first (single _)
  default_export_spelled (node kind.ClassDeclaration x g st e ps) = at_first (single _)
  default_export_spelled (node k x g st e ps) = at_second (at_first (behind (of (begins_with_brace (node k x g st e ps))) (record { fits = λ ys. ended })))
    where
      of : (c : Bool) → Spelled w (or (piece (put (expr Assignment true Any))) (piece (put (expr Assignment true Statement)))) (put (expr Assignment true (cond c Any Statement)) ∷ [])
      of true = at_first (single _)
      of false = at_second (single _)

  imported_spelled : (n : Tree) → Spelled w specifier_shape (imported n ∷ [])
  imported_spelled (node kind.ImportSpecifier x g st e ps) = at_first (single _)
  imported_spelled (node _ x g st e ps) = at_second (single _)

  exported_spelled : (n : Tree) → Spelled w specifier_shape (exported n ∷ [])
  exported_spelled (node kind.ExportSpecifier x g st e ps) = at_first (single _)
  exported_spelled (node _ x g st e ps) = at_second (single _)

  before_spelled : {r : Shape} {after : List Piece} → Spelled w r after → (ps : Parts) → Spelled w (then specifiers_shape (or r (piece never))) (listed_before imported after ps)
  before_spelled h none = last (at_second (single never))
  before_spelled h (part n none) = last (at_first h)
  before_spelled h (part n (part m ps)) = once_more (behind (imported_spelled n) (separator_spelled (kind_of n) (is_none ps))) (before_spelled h (part m ps))
  before_spelled h (part n (gap ps)) = last (at_second (single never))
  before_spelled h (gap ps) = last (at_second (single never))

  imports_spelled : (n : ℕ) (ps : Parts) → Spelled w (item_shape (made.import_list n)) (named_imports ps)
  imports_spelled n ps = behind (single (sign "{")) (before_spelled (just (sign "}" ∷ from_source)) ps)

  exports_spelled : (n : ℕ) (ps : Parts) → Spelled w (item_shape (made.export_list_from n)) (export_list ps)
  exports_spelled n none = last (at_second (at_second (single never)))
  exports_spelled n (gap none) = last (at_first (just (sign "}" ∷ absent ∷ ending of_export ∷ [])))
  exports_spelled n (gap (part m ps)) = last (at_second (at_second (single never)))
  exports_spelled n (gap (gap ps)) = last (at_second (at_second (single never)))
  exports_spelled n (part m none) = last (at_second (at_first (just (sign "}" ∷ from_source))))
  exports_spelled n (part m (part l none)) = once_more (behind (exported_spelled m) (separator_spelled (kind_of m) true)) (exports_spelled n (part l none))
  exports_spelled n (part m (part l (part k ps))) = once_more (behind (exported_spelled m) (separator_spelled (kind_of m) false)) (exports_spelled n (part l (part k ps)))
  exports_spelled n (part m (part l (gap ps))) = once_more (behind (exported_spelled m) (separator_spelled (kind_of m) false)) (exports_spelled n (part l (gap ps)))
  exports_spelled n (part m (gap none)) = once_more (behind (exported_spelled m) (separator_spelled (kind_of m) true)) (exports_spelled n (gap none))
  exports_spelled n (part m (gap (part k ps))) = once_more (behind (exported_spelled m) (separator_spelled (kind_of m) false)) (exports_spelled n (gap (part k ps)))
  exports_spelled n (part m (gap (gap ps))) = once_more (behind (exported_spelled m) (separator_spelled (kind_of m) false)) (exports_spelled n (gap (gap ps)))

  module_items_spelled : (b : Bool) (ps : Parts) → Spelled w (item_shape made.module_item_list) (module_prologue b ps)
  module_items_spelled b none = done
  module_items_spelled b (part n ps) = again (at_first (behind (of (is_module_item (kind_of n)) b) (just (lay feed ∷ [])))) (module_items_spelled (b && is_directive n) ps)
    where
      of : (c b : Bool) → Spelled w (or (piece (put module_item)) (or (piece (put (opening false))) (piece (put (item false))))) (put (cond c module_item (cond b (opening false) (item false))) ∷ [])
      of true b = at_first (single _)
      of false true = at_second (at_first (single _))
      of false false = at_second (at_second (single _))
  module_items_spelled b (gap ps) = none_of

  arrow_end_spelled : (g : Flags) → Spelled w arrow_end_shape (arrow_closing g.form ∷ arrow_end g)
  arrow_end_spelled g = behind (closing g.form) (behind (just (unbroken ∷ sp ∷ sign "=>" ∷ sp ∷ [])) (of g.expression))
    where
      of : (c : Bool) → Spelled w (or (piece (sub (tail Assignment NoBrace))) (piece (put body))) (cond c (sub (tail Assignment NoBrace)) (put body) ∷ [])
      of true = at_first (single _)
      of false = at_second (single _)

      closing : (x : MethodForm) → Spelled w arrow_closing_shape (arrow_closing x ∷ [])
      closing method_form.Async = at_first (single _)
      closing _ = at_second (single _)

  number_space_spelled : (ps : Parts) (g : Flags) → Spelled w (or empty (piece (lay loose))) (after_number ps g)
  number_space_spelled none g = at_first (just [])
  number_space_spelled (gap ps) g = at_first (just [])
  number_space_spelled (part n ps) g = of _
    where
      of : (c : Bool) → Spelled w (or empty (piece (lay loose))) (cond c (lay loose ∷ []) [])
      of true = at_second (single _)
      of false = at_first (just [])

  sign_space_spelled : (x y : Bool) → Spelled w (or (piece (lay (apart 43))) (or (piece (lay (apart 45))) empty)) (cond x (lay (apart 43) ∷ []) (cond y (lay (apart 45) ∷ []) []))
  sign_space_spelled x y = by_test x (single _) (by_test y (single _) (just []))

  for_left_spelled : (ps : Parts) → Spelled w (item_shape made.for_left_part) (for_left ps ∷ [])
  for_left_spelled ps = of (is_declaration (lead_kind ps))
    where
      of : (c : Bool) → Spelled w (item_shape made.for_left_part) (put_at (cond c (Some (head false)) (bound false (lead_kind ps))) ∷ [])
      of true = at_first (single _)
      of false = at_second (bound_spelled false (lead_kind ps))

  item_spelled : (i : Item) (g : Flags) (ps : Parts) → Spelled w (item_shape i) (item_pieces i w g ps)
  item_spelled (made.one q) g ps = single q
  item_spelled (made.own o) g ps = record { fits = λ ys. an_own refl }
  item_spelled (made.these qs) g ps = just qs
  item_spelled (made.choose t first second) g ps = by_test (holds t w g ps) (just first) (just second)
  item_spelled (made.if_part n qs) g ps = given_spelled (just qs) (parts_from n ps)
  item_spelled made.number_space g ps = number_space_spelled ps g
  item_spelled made.sign_space g ps = sign_space_spelled (is w "+") (is w "-")
  item_spelled made.link g ps = link_spelled g (lead_kind (others ps))
  item_spelled made.edge_ending g ps = record { fits = λ ys. ended }
  item_spelled (made.bound_part b n) g ps = bound_spelled b (lead_kind (parts_from n ps))
  item_spelled (made.default_part b n) g ps = default_spelled b (lead_kind (parts_from n ps))
  item_spelled made.for_left_part g ps = for_left_spelled ps
  item_spelled made.for_first_part g ps = given_spelled (of_roles (is_declaration (lead_kind ps)) (head true) (expr Expression false Any)) ps
  item_spelled made.selector_part g ps = selector_spelled g (lead_kind (others ps))
  item_spelled made.class_key g ps = by_test g.computed (just (sign "[" ∷ assignment ∷ sign "]" ∷ [])) (of_roles (is_private (lead_kind ps)) private_name key)
  item_spelled made.value_ending g ps = ended_first (λ n. behind_value (edge n)) (others ps)
  item_spelled made.key_ending g ps = ended_first (λ n. behind_key (key_word g.computed n) g.is_static) ps
  item_spelled (made.module_name_part n) g ps = module_name_spelled (parts_from n ps)
  item_spelled made.exported_part g ps = exported_part_spelled (lead_kind ps)
  item_spelled made.default_export g none = at_second (at_second (single never))
  item_spelled made.default_export g (part n ps) = default_export_spelled n
  item_spelled made.default_export g (gap ps) = at_second (at_second (single never))
  item_spelled (made.import_list n) g ps = imports_spelled n (parts_from n ps)
  item_spelled (made.export_list_from n) g ps = exports_spelled n (parts_from n ps)
  item_spelled (made.list s n) g ps = listed_spelled s (parts_from n ps)
  item_spelled (made.list_with_holes s n) g ps = elements_spelled s (parts_from n ps)
  item_spelled (made.parameter_list after n) g ps = parameters_spelled (just after) (parts_from n ps)
  item_spelled made.arrow_parameters g ps = parameters_spelled (arrow_end_spelled g) ps
  item_spelled made.template_list g ps = template_spelled ps
  item_spelled made.sequence_list g ps = sequence_spelled (others ps)
  item_spelled made.member_list g ps = members_spelled ps
  item_spelled (made.line_list a n) g ps = lines_spelled a (parts_from n ps)
  item_spelled (made.declarator_list a) g ps = declarators_spelled a ps
  item_spelled (made.item_list r b before after) g ps = prologue_spelled r b before after ps
  item_spelled made.module_item_list g ps = module_items_spelled true ps

  -- what a form makes of a node is of its shape
  pub items_spelled : (xs : List Item) (g : Flags) (ps : Parts) → Spelled w (shape_of xs) (pieces_of xs w g ps)
  items_spelled [] g ps = just []
  items_spelled (x ∷ []) g ps = item_spelled x g ps
  items_spelled (x ∷ y ∷ xs) g ps = behind (item_spelled x g ps) (items_spelled (y ∷ xs) g ps)
