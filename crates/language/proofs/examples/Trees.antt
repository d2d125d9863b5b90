-- Short words to write examples with.
use Rattle.std.specs.Prelude.{ℕ, ◌+◌, true, List, [], ◌∷◌, map, length, codes}
use Prim.Native.String.{String}
use Rattle.tree.specs.declared.kind.Kind.{Kind}
use Rattle.tree.specs.declared.kind.Kind.TheVariants.{Program, Identifier, Literal, ExpressionStatement}
use Rattle.tree.specs.declared.kind.Form.{Form}
use Rattle.tree.specs.declared.kind.Pair.{Pair}
use Rattle.tree.specs.Tree.{Tree, node, Parts, none, part, plain, bare}
use Rattle.language.specs.Pieces.{script}
use Rattle.language.specs.Token.{Token}
use Rattle.language.specs.Vocabulary.{is_reserved}
use Rattle.language.specs.Expressions.{expressions}
use Rattle.language.specs.Statements.{statements, items, openings}
use Rattle.language.specs.Grammar.{spellings, ways, ways_bare}
use Rattle.language.specs.RowPositions.{rows, parts_rows}
use Rattle.language.specs.Cost.{least, parts_least, cell, cells, add_cost, lesser, if_any}
use Rattle.language.specs.Search.{spelled, parts_spelled}
use Rattle.language.specs.Layout.{wrapped_rows, parts_wrapped, layout, parts_layout, fixed_text}

-- all that the definitions compute with
unfoldable pub computing : ℕ
unfolding spelled parts_spelled ways ways_bare spellings expressions statements items openings is_reserved rows parts_rows least parts_least cell cells add_cost lesser if_any wrapped_rows parts_wrapped layout parts_layout fixed_text
computing = 0

-- a node with neither text nor flags
abbrev pub n : Kind → ℕ → ℕ → Parts → Tree
n k s e ps = node k [] plain s e ps

-- a node with a text
abbrev pub t : Kind → String → ℕ → ℕ → Parts → Tree
t k w s e ps = node k (codes w) plain s e ps

-- an identifier and a literal at a place
abbrev pub id : String → ℕ → Tree
id w s = node Identifier (codes w) plain s (s + length (codes w)) none

abbrev pub lit : String → ℕ → Tree
lit w s = node Literal (codes w) plain s (s + length (codes w)) none

abbrev pub one : Tree → Parts
one a = part a none

abbrev pub two : Tree → Tree → Parts
two a b = part a (one b)

abbrev pub three : Tree → Tree → Tree → Parts
three a b c = part a (two b c)

-- an expression as a statement, and the whole script up to a place
abbrev pub st : ℕ → ℕ → Tree → Tree
st s e a = node ExpressionStatement [] plain s e (one a)

abbrev pub program : ℕ → Parts → Tree
program e ps = node Program [] plain 0 e ps

abbrev pub formed : Form → Tree → Tree
formed f (node k w g s e ps) = node k w (record g { form = f }) s e ps

abbrev pub computed : Tree → Tree
computed (node k w g s e ps) = node k w (record g { computed = true }) s e ps

-- behind `?.`
abbrev pub optional : Tree → Tree
optional (node k w g s e ps) = node k w (record g { optional = true }) s e ps

abbrev pub static_one : Tree → Tree
static_one (node k w g s e ps) = node k w (record g { is_static = true }) s e ps

-- an operator before its operand
abbrev pub before : Tree → Tree
before (node k w g s e ps) = node k w (record g { prefix = true }) s e ps

abbrev pub directive : Tree → Tree
directive (node k w g s e ps) = node k w (record g { directive = true }) s e ps

-- an arrow with an expression for its body
abbrev pub short : Tree → Tree
short (node k w g s e ps) = node k w (record g { expression = true }) s e ps

abbrev pub pair : ℕ → ℕ → Pair
pair l r = record { left = l; right = r }

-- of each way in which the tokens spell the tree as a script, its pairs
abbrev pub found : List Token → Tree → List (List Pair)
found ts a = map (λ x. x.1) (spelled a script ts)

-- spelled in one way, with these pairs
abbrev pub once : List Pair → List (List Pair)
once P = P ∷ []

abbrev pub without_place : Token → Token
without_place u = record u { start = 0; stop = 0 }

-- of each way in which the tokens spell the tree, all places left out, the number of its pairs
abbrev pub again : List Token → Tree → List ℕ
again ts a = map length (found (map without_place ts) (bare a))
