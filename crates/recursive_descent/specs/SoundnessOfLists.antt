-- What is derived of lists: their items so far, one more, and the whole (ECMA-262 12.2, 12.3.8, 12.16, 13.3, 13.12, 14.1, 14.6).
use Rattle.std.specs.Prelude.{◌≡◌, ℕ, Bool, true, false, not, cond, ◌&&◌, ◌||◌, List, [], ◌∷◌, ◌++◌, map, nat_le, Option, Some, None, codes, is_some, IfSome}
use Rattle.tokens.specs.declared.token.TokenClass.TheVariants.{Punctuator}
use Rattle.tokens.specs.Scanned.{token_of}
use Rattle.tree.specs.declared.kind.Kind.{Kind}
use Rattle.tree.specs.declared.kind.Form.{Form}
use Rattle.tree.specs.declared.kind.Form.TheVariants as form
use Rattle.tree.specs.declared.kind.Pair.{Pair}
use Rattle.tree.specs.Tree.{Tree, Parts, none, part, gap, join, kind_of, push_gap, part_count, text_of}
use Rattle.language.specs.declared.Rank.TheVariants.{Expression, Assignment}
use Rattle.language.specs.declared.Start.{Start}
use Rattle.language.specs.declared.Start.TheVariants.{Any}
use Rattle.language.specs.declared.Edge.TheVariants.{Closed}
use Rattle.language.specs.Token.{Token, as_read}
use Rattle.language.specs.Vocabulary.{is, is_identifier, is_private, is_target as is_simple, is_rest}
use Rattle.language.specs.Strings.{literal_units}
use Rattle.language.specs.Pieces.{Role, expr, private_name, key, declarator, switch_case, member, Piece, PieceOf, settle_piece, tail, left, put, put_at, with_default, sub, many, sign, term, listed, elements, argument, pattern_element, nothing, is_none}
use Rattle.language.specs.Edges.{edge, last_edge, edge_as_written}
use Rattle.language.specs.Expressions.{assignment, method_words, template_elements, sequence, object_part, object_pattern_part}
use Rattle.language.specs.Statements.{lines, declarators, defaults, member_lines, is_string_literal}
use Rattle.language.specs.Covers.{Reading, as_expression, as_pattern, element_as, property_as}
use Rattle.covers.specs.declared.shape.TargetForm.{TargetForm}
use Rattle.covers.specs.declared.shape.TargetForm.TheVariants as assigned
use Rattle.covers.specs.declared.shape.CoverShape.{CoverShape}
use Rattle.covers.specs.declared.list.ListKind.{ListKind}
use Rattle.covers.specs.declared.list.ListKind.TheVariants as listed
use Rattle.covers.specs.declared.list.ListItem.{ListItem}
use Rattle.covers.specs.declared.list.ListBuilder.{ListBuilder as ListOf}
use Rattle.covers.specs.Lists.{closing, takes, with_hole}
use Rattle.covers.specs.Shapes.{is_pattern, is_target, value}
use Rattle.recursive_descent.specs.declared.properties.PropertyName.{PropertyName}
use Rattle.recursive_descent.specs.declared.properties.Modifiers.{Modifiers}
use Rattle.recursive_descent.specs.Soundness.{RunsIn, anywhere, Begins, SpelledAs, fits_as, read_as, all_read_as}
use Rattle.recursive_descent.specs.Follows.{ChunkAt}
use Rattle.parser_tables.specs.Items.{with_item, item_from, are_some}
use Rattle.token_cursor.specs.Seen.{ReadsHere, Sees}
use Rattle.parser_tables.specs.StatementNodes.{is_closed}
use Rattle.parser_tables.specs.Tokens.{key_node}
use Rattle.token_cursor.specs.SourceText.{SourceText, SeenNext, unseen}
use Rattle.recursive_descent.specs.Spelled.{SpellsIn}

-- In what is listed; a sequence has that of its position
abbrev pub list_in : ListKind → Bool
list_in (listed.Sequence i) = i
list_in _ = true

abbrev pub stood_in : Start → ListKind → List Piece → List (PieceOf Role)
stood_in f l qs = map (settle_piece Expression (list_in l) f) qs

-- the readings that a list has: arrays and objects as expressions and as patterns of both kinds; what parentheses hold as expressions and as
-- parameters; parameters; declarators with values, and (as a pattern) the one without any that stands before `in` or `of`
abbrev pub has_reading : ListKind → Reading → Bool
has_reading listed.Elements a = true
has_reading listed.Properties a = true
has_reading listed.ParenthesizedItems as_expression = true
has_reading listed.ParenthesizedItems (as_pattern b) = b
has_reading listed.AsyncArguments as_expression = true
has_reading listed.AsyncArguments (as_pattern b) = b
has_reading listed.Parameters as_expression = false
has_reading listed.Parameters (as_pattern b) = b
has_reading listed.NoParameter as_expression = false
has_reading listed.NoParameter (as_pattern b) = b
has_reading listed.OneParameter as_expression = false
has_reading listed.OneParameter (as_pattern b) = b
has_reading (listed.Declarators i) as_expression = true
has_reading (listed.Declarators i) (as_pattern b) = b
has_reading _ as_expression = true
has_reading _ (as_pattern b) = false

-- expressions with commas between them
abbrev pub several : Piece → Parts → List Piece
several q none = nothing
several q (part n ps) = q ∷ sequence ps
several q (gap ps) = nothing

-- of a sequence there are two or more
abbrev pub two_or_more : Piece → Parts → List Piece
two_or_more q (part n (part m ps)) = q ∷ sequence (part m ps)
two_or_more q _ = nothing

-- no parameter; one alone, which is no rest, with no comma behind it (14.3)
abbrev pub no_part : Parts → List Piece
no_part none = []
no_part (part n ps) = nothing
no_part (gap ps) = nothing

abbrev pub part_alone : Parts → List Piece
part_alone none = nothing
part_alone (gap ps) = nothing
part_alone (part n none) = put_at (with_default true (kind_of n)) ∷ []
part_alone (part n (part m ps)) = nothing
part_alone (part n (gap ps)) = nothing

-- the pieces of all items, without the brackets round them
abbrev pub item_pieces : ListKind → Reading → Parts → List Piece
item_pieces listed.Arguments a ps = listed argument ps
item_pieces listed.Elements as_expression ps = elements argument ps
item_pieces listed.Elements (as_pattern b) ps = elements (pattern_element b) ps
item_pieces listed.Properties as_expression ps = listed object_part ps
item_pieces listed.Properties (as_pattern b) ps = listed (object_pattern_part b) ps
item_pieces listed.ParenthesizedItems as_expression ps = several assignment ps
item_pieces listed.ParenthesizedItems (as_pattern b) ps = listed (pattern_element b) ps
item_pieces listed.AsyncArguments as_expression ps = listed argument ps
item_pieces listed.AsyncArguments (as_pattern b) ps = listed (pattern_element true) ps
item_pieces listed.Parameters a ps = listed (pattern_element true) ps
item_pieces listed.NoParameter a ps = no_part ps
item_pieces listed.OneParameter a ps = part_alone ps
item_pieces listed.Template a ps = template_elements true ps
item_pieces (listed.Sequence i) a ps = two_or_more (sub (left Assignment)) ps
item_pieces (listed.Declarators i) as_expression ps = declarators (declarator i true) ps
item_pieces (listed.Declarators i) (as_pattern b) ps = declarators (declarator i false) ps
item_pieces (listed.Cases r) a ps = lines (switch_case r) ps
item_pieces listed.Members a ps = many (codes ";") ∷ member_lines ps

-- those of the items behind a part of a template
abbrev pub after_template_element : Parts → List Piece
after_template_element none = nothing
after_template_element (part n ps) = put (expr Expression true Any) ∷ template_elements false ps
after_template_element (gap ps) = nothing

-- those of the items that are left, where one may stand; behind the last part of a template there are none
abbrev pub left_of : ListKind → Bool → Reading → Parts → List Piece
left_of (listed.Sequence i) m a ps = several (sub (tail Assignment Any)) ps
left_of listed.Template true a ps = []
left_of listed.Template false a ps = after_template_element ps
left_of l m a ps = item_pieces l a ps

abbrev pub left_pieces : ListOf → Reading → Parts → List Piece
left_pieces l a ps = left_of l.listed l.seen.is_flagged a ps

-- what is seen of the items lets a reading; those that are expressions alone, and members and cases, were refused otherwise
abbrev pub seen_fits : ListKind → ListOf → Reading → Bool
seen_fits (listed.Declarators i) l as_expression = not l.seen.is_flagged
seen_fits (listed.Declarators i) l (as_pattern b) = nat_le (part_count l.nodes) 1 && is_closed l.seen.edge
seen_fits listed.Arguments l a = true
seen_fits listed.Template l a = true
seen_fits (listed.Sequence i) l a = true
seen_fits (listed.Cases r) l a = true
seen_fits listed.Members l a = true
seen_fits _ l a = fits_as l.seen.shape a

-- lists without brackets, and what parentheses hold, whose last place is asked for
abbrev pub asks_last : ListKind → Reading → Bool
asks_last listed.ParenthesizedItems as_expression = true
asks_last (listed.Sequence i) a = true
asks_last (listed.Declarators i) a = true
asks_last _ a = false

-- lists without brackets, whose last right edge is asked for
abbrev pub asks_edge : ListKind → Bool
asks_edge (listed.Sequence i) = true
asks_edge (listed.Declarators i) = true
asks_edge _ = false

-- where nothing was read yet, each reading is left
abbrev pub so_far_fits : ListOf → Reading → Bool
so_far_fits l a = has_reading l.listed a && (is_none l.nodes || seen_fits l.listed l a)

-- the whole list has the reading: in parentheses expressions with commas between them are some, and no comma is the last
abbrev pub asks_some : ListKind → Reading → Bool
asks_some listed.ParenthesizedItems as_expression = true
asks_some _ a = false

abbrev pub whole_of : ListKind → ListOf → Reading → Bool
whole_of x l a = (has_reading x a && seen_fits x l a) && cond (asks_some x a) (are_some l.nodes && not l.seen.has_comma) true

abbrev pub is_whole : ListOf → Reading → Bool
is_whole l a = whole_of l.listed l a

-- no item may follow: in parentheses without a comma behind the last expression, and in a setter behind its parameter
abbrev pub stuck_at : ListKind → Reading → Parts → Bool → Bool
stuck_at listed.ParenthesizedItems as_expression ps has_comma = are_some ps && not has_comma
stuck_at listed.OneParameter a ps has_comma = not (is_none ps)
stuck_at _ a ps has_comma = false

abbrev pub is_stuck : ListOf → Reading → Bool
is_stuck l a = stuck_at l.listed a l.nodes l.seen.has_comma

abbrev pub Unless : Bool → Type 0 → Type 0
Unless true X = ⊥
Unless false X = X

-- From s on the items were read up to a place where one may follow: whatever runs over the rest there completes them, in each reading that is left.
abbrev pub SoFarAt : SourceText → Start → ListOf → ℕ → Token → Token → List Pair → Type 0
SoFarAt text f l o s m P =
    (a : Reading) → so_far_fits l a ≡ true → Unless (is_stuck l a) ((ps : Parts) (e : Token) (Q : List Pair) → RunsIn text o (stood_in f l.listed (left_pieces l a ps)) ps m e Q →
    RunsIn text o (stood_in f l.listed (item_pieces l.listed a (join (all_read_as a l.nodes) ps))) (join (all_read_as a l.nodes) ps) s e (P ++ Q))

-- what closes a list, if anything does
abbrev pub ClosedBy : SourceText → Option (List ℕ) → Token → Token → Type 0
ClosedBy text None m e = e ≡ m
ClosedBy text (Some w) m e = ReadsHere text Punctuator w m e

-- at most one case is `default` (13.12)
abbrev pub case_count : ListKind → Parts → ℕ
case_count (listed.Cases r) ps = defaults ps
case_count _ ps = 0

-- A whole list: its items from s to a place, in each reading, and what closes it; the last right edge, and the last places.
pub record ListAt (text : SourceText) (f : Start) (l : ListOf) (o : ℕ) (s e : Token) (P : List Pair) : Type 0 where
  pub mid : Token
  pub closes : ClosedBy text (closing l.listed) mid e
  pub runs : (a : Reading) → is_whole l a ≡ true → RunsIn text o (stood_in f l.listed (item_pieces l.listed a (all_read_as a l.nodes))) (all_read_as a l.nodes) s mid P
  pub edge : asks_edge l.listed ≡ true → l.seen.edge ≡ edge_as_written (last_edge l.nodes) mid
  pub inside : asks_last l.listed as_expression ≡ true → is_whole l as_expression ≡ true → l.inside.end ≡ mid.stop
  pub ends : l.span.end ≡ e.stop

-- what the items of an array or an object are together: a pattern, or nothing that is assigned to
abbrev pub is_list_shape : TargetForm → Bool
is_list_shape assigned.Nothing = true
is_list_shape assigned.Pattern = true
is_list_shape _ = false

-- What is seen of the items is so: of them together, of one alone in parentheses, and of the cases that are `default`.
pub record SeenRight (l : ListOf) : Type 0 where
  pub together : is_list_shape l.seen.shape.assigned ≡ true
  pub target : (n : Tree) → l.listed ≡ listed.ParenthesizedItems → l.nodes ≡ part n none → l.seen.shape.is_expression ≡ true → is_target l.seen.last.assigned ≡ true → is_simple (kind_of n) ≡ true
  pub one_default : nat_le (case_count l.listed l.nodes) (cond l.seen.is_flagged 1 0) ≡ true

-- one more item's position, in a reading
abbrev pub item_role : ListKind → Reading → Kind → Option Role
item_role listed.ParenthesizedItems as_expression k = Some (expr Assignment true Any)
item_role listed.Properties a k = property_as a k
item_role (listed.Sequence i) a k = Some (expr Assignment i Any)
item_role (listed.Declarators i) as_expression k = Some (declarator i true)
item_role (listed.Declarators i) (as_pattern b) k = Some (declarator i false)
item_role (listed.Cases r) a k = Some (switch_case r)
item_role listed.Members a k = Some member
item_role listed.OneParameter (as_pattern b) k = with_default b k
item_role _ a k = element_as a k

-- what it may be: behind `...` no default in a pattern, and in parentheses no expression (12.2.10)
abbrev pub fits_rest : ListKind → CoverShape → Reading → Bool
fits_rest listed.ParenthesizedItems s as_expression = false
fits_rest l s as_expression = s.is_expression
fits_rest l s (as_pattern false) = is_pattern s.assigned
fits_rest l s (as_pattern true) = s.binds && is_pattern s.assigned

abbrev pub item_fits : ListKind → ListItem → Reading → Bool
item_fits (listed.Declarators i) it as_expression = not it.is_flagged
item_fits (listed.Declarators i) it (as_pattern b) = is_closed it.edge
item_fits listed.OneParameter it a = cond it.spreads false (fits_as it.shape a)
item_fits l it a = cond it.spreads (fits_rest l it.shape a) (fits_as it.shape a)

-- a comma may stand behind it in the list, but not behind a rest
abbrev pub may_trail : ListItem → Reading → Bool
may_trail it as_expression = true
may_trail it (as_pattern b) = not it.spreads

-- the item is spelled in each reading that its shape has
pub record ItemReads (text : SourceText) (l : ListKind) (it : ListItem) (o : ℕ) (s e : Token) (P : List Pair) : Type 0 where
  pub reads : (a : Reading) → has_reading l a ≡ true → item_fits l it a ≡ true → SpelledAs (item_role l a) text o (read_as a it.node) s e P
  pub no_rest : (a : Reading) → has_reading l a ≡ true → item_fits l it a ≡ true → may_trail it a ≡ true → is_rest (kind_of (read_as a it.node)) ≡ false
  pub edge : asks_edge l ≡ true → it.edge ≡ edge_as_written (edge it.node) e
  pub is_default : nat_le (case_count l (part it.node none)) (cond it.is_flagged 1 0) ≡ true

-- an expression and the part behind it are read at once
abbrev pub is_chunked : ListKind → Bool
is_chunked listed.Template = true
is_chunked _ = false

-- One more item of a list; a hole of an array, before its comma; an expression in a template, and the part behind it.
pub data ItemAt (text : SourceText) (l k : ListOf) (o : ℕ) (s e : Token) (P : List Pair) : Type 0 where
  an_item : (it : ListItem) → is_chunked l.listed ≡ false → k ≡ with_item l it → takes l.listed l.seen it ≡ true → ItemReads text l.listed it o s e P → (l.listed ≡ listed.ParenthesizedItems → it.spreads ≡ false → is_target it.shape.assigned ≡ true → is_simple (kind_of it.node) ≡ true) → ItemAt text l k o s e P
  a_hole : l.listed ≡ listed.Elements → k ≡ record l { nodes = push_gap l.nodes; seen = with_hole l.seen } → e ≡ s → P ≡ [] → Sees text Punctuator (codes ",") s → ItemAt text l k o s e P
  a_chunk : l.listed ≡ listed.Template → (n : Tree) (c : ListItem) (m : Token) → k ≡ with_item (with_item l (item_from n value false Closed)) c → SpellsIn text o (expr Expression true Any) n s m P → ChunkAt text m e c.node c.is_flagged → ItemAt text l k o s e P

-- members and properties
abbrev pub defined : Bool → ListKind
defined true = listed.Members
defined false = listed.Properties

-- a key that isn't computed has the value `constructor` (14.6)
abbrev pub names_constructor : Bool → Tree → Bool
names_constructor c n = not c && ((is_identifier (kind_of n) && is (text_of n) "constructor") || (is_string_literal (kind_of n) (text_of n) && is (literal_units (text_of n)) "constructor"))

-- the position of a key without brackets, by its kind
abbrev pub key_role : Kind → Role
key_role kind = cond (is_private kind) private_name key

-- A property's name (12.2.6): an expression in brackets, or one token, which is the last.
pub record KeyAt (text : SourceText) (in_class : Bool) (k : PropertyName) (o : ℕ) (s e : Token) (P : List Pair) : Type 0 where
  pub computed : k.computed ≡ true → (k.token ≡ None) × RunsIn text o (anywhere (sign "[" ∷ assignment ∷ sign "]" ∷ [])) (part k.node none) s e P
  pub plain : k.computed ≡ false → SpellsIn text o (key_role (kind_of k.node)) k.node s e P
  pub told : k.computed ≡ false → is_some k.token ≡ true
  pub token : IfSome k.token (λ t. (k.computed ≡ false) × SeenNext text s (as_read (token_of t)) e × (e ≡ unseen (as_read (token_of t))) × (P ≡ []) × (k.node ≡ key_node (token_of t)))
  pub public : in_class ≡ false → k.computed ≡ false → is_private (kind_of k.node) ≡ false
  pub constructor : k.is_constructor ≡ (in_class && names_constructor k.computed k.node)

-- the words before it
abbrev pub form_pieces : Form → List Piece
form_pieces form.Get = term "get" ∷ []
form_pieces form.Set = term "set" ∷ []
form_pieces form.Generator = method_words form.Generator
form_pieces form.Async = method_words form.Async
form_pieces form.AsyncGenerator = method_words form.AsyncGenerator
form_pieces _ = []

abbrev pub modifier_pieces : Bool → Form → List Piece
modifier_pieces is_static f = cond is_static (term "static" ∷ []) [] ++ form_pieces f

-- the forms that words before a name leave
abbrev pub is_called : Form → Bool
is_called form.Get = true
is_called form.Set = true
is_called form.Method = true
is_called form.Generator = true
is_called form.Async = true
is_called form.AsyncGenerator = true
is_called _ = false

pub record NamedSo (text : SourceText) (in_class : Bool) (m : Modifiers) (k : PropertyName) (o : ℕ) (s e : Token) (P : List Pair) : Type 0 where
  pub mid : Token
  pub words : RunsIn text o (anywhere (modifier_pieces m.is_static m.form)) none s mid []
  pub no_static : in_class ≡ false → m.is_static ≡ false
  pub key : KeyAt text in_class k o mid e P
  pub called : is_called m.form ≡ true

-- what follows the key of a property that is no method, from where the key begins
abbrev pub ValueAt : SourceText → PropertyName → ℕ → ListItem → ℕ → Token → Token → List Pair → Type 0
ValueAt text k from it o m e Q = (s : Token) (P : List Pair) → Begins text from s → KeyAt text false k o s m P → ItemReads text listed.Properties it o s e (P ++ Q)
