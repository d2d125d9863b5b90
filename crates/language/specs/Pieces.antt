-- What a spelling is made of, and the positions.
use Rattle.std.specs.Prelude.{ℕ, Bool, true, false, not, cond, List, [], ◌∷◌, ◌++◌, Option, Some, None, codes}
use Prim.Native.String.{String}
use Rattle.language.specs.declared.Rank.{Rank}
use Rattle.language.specs.declared.Rank.TheVariants.{Primary, Assignment, LeftHandSide, Call, Member}
use Rattle.language.specs.declared.Start.{Start}
use Rattle.language.specs.declared.Start.TheVariants.{Any}
use Rattle.language.specs.declared.Edge.{Edge}
use Rattle.tree.specs.declared.kind.Form.{Form}
use Rattle.tokens.specs.declared.token.TokenClass.{TokenClass}
use Rattle.tokens.specs.declared.token.TokenClass.TheVariants.{IdentifierName, Punctuator}
use Rattle.tree.specs.declared.kind.Kind.{Kind}
use Rattle.tree.specs.declared.kind.Kind.TheVariants.{AssignmentPattern}
use Rattle.tree.specs.Tree.{Tree, Parts, none, part, gap, kind_of}
use Rattle.language.specs.Vocabulary.{is_target, is_pattern, is_identifier, is_rest, is_spread, takes}

-- where a node stands
pub data Role : Type 0 where
  -- an expression: symbol, In, start. It may be grouped, and has a row
  expr : Rank → Bool → Start → Role
  -- a part of a chain above its base
  chain_part : Start → Role
  -- a name that binds or labels, or a shorthand value
  name : Role
  -- an identifier's characters, reserved or not
  word : Role
  private_name : Role
  -- a property's key without brackets
  key : Role
  -- a shorthand property's key, which has no token of its own
  shorthand_key : Role
  -- `super`; a directive's string; the template behind a tag
  base : Role
  directive_string : Role
  tagged_quasi : Role
  -- a part of a template: whether it is the first, and the last
  template_element : Bool → Bool → Role
  spread : Role
  property : Role
  -- a pattern; the flag says that it binds names
  pattern : Bool → Start → Role
  pattern_property : Bool → Role
  element : Bool → Role
  rest : Bool → Bool → Role
  -- the function of a method, from its `(`
  method : Form → Role
  body : Role
  -- statements; the flag allows `return`
  statement : Bool → Role
  item : Bool → Role
  opening : Bool → Role
  block : Bool → Role
  -- a declaration in the head of a `for`, with initialisers or with none
  head : Bool → Role
  -- a declarator: its In, and whether it may have an initialiser
  declarator : Bool → Bool → Role
  switch_case : Bool → Role
  handler : Bool → Role
  class_body : Role
  member : Role
  -- an import or export among a module's items; a name with its alias in one of these; what `export default` declares
  module_item : Role
  specifier : Role
  default_item : Role
  script : Role

-- layout alone
pub data Hint : Type 0 where
  space line feed deeper shallower : Hint
  -- a space where what follows begins with this character
  apart : ℕ → Hint
  -- a space behind a node that isn't wrapped
  loose : Hint

-- the end of a statement: of a `do`, of an export's names without source, or behind this right edge; of a field, behind a value with this
-- edge, or behind a key alone: a name of this text, where the flag says that the field is static
pub data Ending : Type 0 where
  of_do : Ending
  of_export : Ending
  behind : Edge → Ending
  behind_value : Edge → Ending
  behind_key : List ℕ → Bool → Ending

-- where a part stands, as the tables write it: left open is what the node's own position decides
pub data Slot : Type 0 where
  fixed : Role → Slot
  -- at this symbol with the node's own In and start; with In and its own start; with its own In and this start
  left : Rank → Slot
  lead : Rank → Slot
  tail : Rank → Start → Slot
  -- the object of a member and the tag of a template, with In and the node's own start: behind `new` at Member, else at Call
  callee : Slot
  -- with its own start
  lead_chain lead_pattern : Slot

-- a piece of a spelling; R says how positions are written
pub data PieceOf (R : Type 0) : Type 0 where
  -- a token of this class and text
  tok : TokenClass → List ℕ → PieceOf R
  -- such a punctuator, or nothing
  may : List ℕ → PieceOf R
  -- such punctuators in any number
  many : List ℕ → PieceOf R
  -- the next token is a name of this text, and stays
  ahead : List ℕ → PieceOf R
  -- no line break before the next token
  unbroken : PieceOf R
  -- the next token begins no operand on the same line
  no_operand : PieceOf R
  -- `;`, or none
  ending : Ending → PieceOf R
  -- the parentheses round the parameters of an arrow that isn't async
  open_parameters close_parameters : PieceOf R
  -- the next part, at this position
  sub : R → PieceOf R
  -- the next part is a gap
  absent : PieceOf R
  -- nothing spells this
  never : PieceOf R
  lay : Hint → PieceOf R

abbrev pub Piece : Type 0
Piece = PieceOf Slot

-- a part at a position that the node's own doesn't change
abbrev pub put : Role → Piece
put role = sub (fixed role)

-- the symbols at which no call may stand
abbrev pub is_tight : Rank → Bool
is_tight own_rank = not (takes own_rank Call)

-- the position that a node's own symbol, In and start leave
abbrev pub settle : Rank → Bool → Start → Slot → Role
settle own_rank i start (fixed a) = a
settle own_rank i start (left y) = expr y i start
settle own_rank i start (lead y) = expr y true start
settle own_rank i start (tail y x) = expr y i x
settle own_rank i start callee = expr (cond (is_tight own_rank) Member Call) true start
settle own_rank i start lead_chain = chain_part start
settle own_rank i start lead_pattern = pattern false start

abbrev pub settle_piece : Rank → Bool → Start → Piece → PieceOf Role
settle_piece own_rank i start (tok c w) = tok c w
settle_piece own_rank i start (may w) = may w
settle_piece own_rank i start (many w) = many w
settle_piece own_rank i start (ahead w) = ahead w
settle_piece own_rank i start unbroken = unbroken
settle_piece own_rank i start no_operand = no_operand
settle_piece own_rank i start (ending e) = ending e
settle_piece own_rank i start open_parameters = open_parameters
settle_piece own_rank i start close_parameters = close_parameters
settle_piece own_rank i start (sub x) = sub (settle own_rank i start x)
settle_piece own_rank i start absent = absent
settle_piece own_rank i start never = never
settle_piece own_rank i start (lay h) = lay h

-- a way to spell a node: the symbol at which it then stands, whether it needs In, and its pieces
pub record Spelling : Type 0 where
  pub rank : Rank
  pub needs_in : Bool
  pub pieces : List Piece

abbrev pub at : Rank → List Piece → Spelling
at own_rank slots = record { rank = own_rank; needs_in = false; pieces = slots }

abbrev pub at_in : Bool → Rank → List Piece → Spelling
at_in b own_rank slots = record { rank = own_rank; needs_in = b; pieces = slots }

-- the one way to spell a node that is no expression
abbrev pub only : List Piece → List Spelling
only slots = at Primary slots ∷ []

abbrev pub sign : String → Piece
sign s = tok Punctuator (codes s)

abbrev pub term : String → Piece
term s = tok IdentifierName (codes s)

-- one space
abbrev pub sp : Piece
sp = lay space

abbrev pub nothing : List Piece
nothing = never ∷ []

-- the next part, at a position that may be none
abbrev pub put_at : Option Role → Piece
put_at (Some a) = put a
put_at None = never

-- the one way to spell a node, which begins with its first part
abbrev pub only_at : Option Role → List Piece → List Spelling
only_at (Some a) slots = only (put a ∷ slots)
only_at None slots = []

-- the position of what is bound, a name or a binding pattern; or of what is assigned, a simple target or an assignment pattern
abbrev pub bound : Bool → Kind → Option Role
bound true kind = cond (is_pattern kind) (Some (pattern true Any)) (cond (is_identifier kind) (Some name) None)
bound false kind = cond (is_pattern kind) (Some (pattern false Any)) (cond (is_target kind) (Some (expr LeftHandSide true Any)) None)

abbrev pub is_none : Parts → Bool
is_none none = true
is_none (part tree others) = false
is_none (gap others) = false

-- behind an element of a list: a comma may trail, but not behind a rest, which is the last
abbrev pub separator : Kind → Bool → List Piece
separator kind true = cond (is_rest kind) [] (may (codes ",") ∷ [])
separator kind false = cond (is_rest kind) nothing (sign "," ∷ sp ∷ [])

-- parts with commas between them, and perhaps one behind the last
abbrev pub listed : (Tree → Piece) → Parts → List Piece
listed f none = []
listed f (part tree others) = (f tree ∷ separator (kind_of tree) (is_none others)) ++ listed f others
listed f (gap others) = nothing

-- parts and holes with commas between them: behind a hole stands a comma of its own
abbrev pub elements : (Tree → Piece) → Parts → List Piece
elements f none = []
elements f (part tree others) = (f tree ∷ separator (kind_of tree) (is_none others)) ++ elements f others
elements f (gap others) = (absent ∷ sign "," ∷ cond (is_none others) [] (sp ∷ [])) ++ elements f others

abbrev pub argument : Tree → Piece
argument tree = put (cond (is_spread (kind_of tree)) spread (expr Assignment true Any))

-- a target, name or pattern, with or without a default
abbrev pub with_default : Bool → Kind → Option Role
with_default b AssignmentPattern = Some (element b)
with_default b kind = bound b kind

-- the element of an array pattern, and a parameter
abbrev pub pattern_element : Bool → Tree → Piece
pattern_element b tree = put_at (cond (is_rest (kind_of tree)) (Some (rest b false)) (with_default b (kind_of tree)))

-- parameters, then what closes them and the body, which is the last part
abbrev pub parameters : List Piece → Parts → List Piece
parameters after none = nothing
parameters after (part tree none) = after
parameters after (part tree (part m ps)) = (pattern_element true tree ∷ separator (kind_of tree) (is_none ps)) ++ parameters after (part m ps)
parameters after (part tree (gap ps)) = nothing
parameters after (gap others) = nothing

-- parts with commas between them, and perhaps one behind the last of these, then what stands at the part behind them, the last
abbrev pub listed_before : (Tree → Piece) → List Piece → Parts → List Piece
listed_before f after none = nothing
listed_before f after (part tree none) = after
listed_before f after (part tree (part m ps)) = (f tree ∷ separator (kind_of tree) (is_none ps)) ++ listed_before f after (part m ps)
listed_before f after (part tree (gap ps)) = nothing
listed_before f after (gap others) = nothing
