-- What the program knows of changes as it compares two trees.
use Rattle.std.specs.Prelude.{◌≡◌, ◌<◌, ℕ, Bool, true, ◌&&◌, nat_eq, List, [], ◌∷◌, ◌++◌, Option, Some, None, codes, false}
use Rattle.std.specs.List.{list_any}
use Rattle.std.specs.Str.{bytes_eq}
use Rattle.tree.specs.declared.kind.Kind.TheVariants.{BlockStatement, Identifier}
use Rattle.tree.specs.declared.kind.Span.{Span}
use Rattle.tree.specs.declared.kind.Kind.{Kind}
use Rattle.tree.specs.Tree.{Tree, node, Parts, none, part, part_count, plain, maybe, kind_of, text_of, flags_of, start_of, stop_of, parts_of, parts_drop, node_total}
use Rattle.tree.specs.declared.kind.Pair.{Pair}
use Rattle.unwrapping.specs.declared.comment.CommentRow.{CommentRow}
use Rattle.unwrapping.specs.declared.reading.TokenRow.{TokenRow}
use Rattle.unwrapping.specs.Keeps.{SpacedToken}
use Rattle.unwrapping.specs.Readings.{AreRows, comments_in}
use Rattle.rule_words.specs.Reports.{Report}
use Rattle.mending.specs.declared.change.Change.{Change}
use Rattle.mending.specs.declared.change.MendRule.{MendRule}
use Rattle.mending.specs.declared.label.Label.{Label}
use Rattle.mending.specs.Changes.{called, goes, has_assignment, relabelled}
use Rattle.mending.specs.Words.{nth, inside, has_statements}
use Rattle.mending.specs.KeptComments.{all_comments}
use Rattle.mending.specs.Mends.{is_asked, is_reported, Mends, MendsParts}

-- a change is one of this rule at this place
abbrev pub is_change : MendRule → Span → Change → Bool
is_change rule span c = bytes_eq (called c.rule) (called rule) && (nat_eq c.span.start span.start && nat_eq c.span.end span.end)

-- one of some changes is
abbrev pub is_made : List Change → MendRule → Span → Bool
is_made changes rule span = list_any (is_change rule span) changes

-- what mends the one mends the other
abbrev pub Leads : List Change → Tree → Tree → Type 0
Leads changes n c = (m : Tree) → Mends (is_made changes) c m → Mends (is_made changes) n m

-- the node with a label
abbrev pub labelled : Tree → Label → Tree
labelled n label = relabelled n label.text.now label.flags label.first

-- a part of a node takes its place
pub record TakesPlace (changes : List Change) (n c : Tree) : Type 0 where
  pub leads : Leads changes n c
  pub smaller : node_total c < node_total n

-- a part of a node takes the place of another, or both are missing
abbrev pub MendsPart : List Change → Option Tree → Option Tree → Type 0
MendsPart changes (Some n) (Some m) = Mends (is_made changes) n m
MendsPart changes None None = Unit {0}
MendsPart changes _ _ = ⊥

-- neither is missing
abbrev pub MendsBoth : List Change → Option Tree → Option Tree → Type 0
MendsBoth changes (Some n) (Some m) = Mends (is_made changes) n m
MendsBoth changes _ _ = ⊥

-- a statement of a list goes
pub record Goes (changes : List Change) (kind : Kind) (n : Tree) : Type 0 where
  pub rule : MendRule
  pub listed : has_statements kind ≡ true
  pub goes : goes rule n ≡ true
  pub asked : is_asked (is_made changes) rule n ≡ true

abbrev pub GoesPart : List Change → Kind → Option Tree → Type 0
GoesPart changes kind None = ⊥
GoesPart changes kind (Some n) = Goes changes kind n

-- a node has a kind and a label, its parts aside
pub record HasLabel (m : Tree) (kind : Kind) (label : Label) : Type 0 where
  pub kinds : kind ≡ kind_of m
  pub text : label.text.now ≡ text_of m
  pub flags : label.flags ≡ flags_of m

-- a node is a block with one part
pub record IsOneBlock (m : Tree) : Type 0 where
  pub kinds : BlockStatement ≡ kind_of m
  pub text : [] ≡ text_of m
  pub flags : plain ≡ flags_of m
  pub count : part_count (parts_of m) ≡ 1

-- a node is a block with just this statement
pub record IsBlockOf (inner m : Tree) : Type 0 where
  pub block : IsOneBlock m
  pub at : Some inner ≡ nth 0 m

-- parts that begin with the one and the other mend, if the rest of them does
abbrev pub BeginsParts : List Change → Kind → Option Tree → Option Tree → Type 0
BeginsParts changes kind o p = (ps qs : Parts) → MendsParts (is_made changes) kind ps qs → MendsParts (is_made changes) kind (maybe o ps) (maybe p qs)

-- what is left of two lists of parts, if it mends, makes the whole mend
abbrev pub AreLeft : List Change → Kind → Parts → Parts → ℕ → ℕ → Type 0
AreLeft changes kind ps qs i j = MendsParts (is_made changes) kind (parts_drop i ps) (parts_drop j qs) → MendsParts (is_made changes) kind ps qs

-- rows of the tokens of a text from a place on: these are all comments before them
abbrev pub HasComments : ℕ → List ℕ → List TokenRow → List CommentRow → Type 0
HasComments from text rows comments = (pairs : List Pair) (ss : List SpacedToken) (stop : ℕ) → AreRows text pairs from rows ss stop → comments_in text comments ≡ all_comments ss

-- where the one is asked for, the other is
abbrev pub Covers : (a b : MendRule → Span → Bool) → Type 0
Covers a b = (rule : MendRule) (span : Span) → a rule span ≡ true → b rule span ≡ true

-- each change is at a place that its rule reports
abbrev pub are_reported : List Report → List Change → Bool
are_reported reports [] = true
are_reported reports (c ∷ cs) = is_reported reports c.rule c.span && are_reported reports cs

-- a member becomes one with a dot before the name that its key is
abbrev pub BecomesDotted : List Change → Tree → Tree → Type 0
BecomesDotted changes n key = (object : Tree) → Some object ≡ nth 0 n →
    Leads changes n (node (kind_of n) (text_of n) (record (flags_of n) { computed = false }) (start_of n) (stop_of n) (part object (part (node Identifier (inside (text_of key)) plain (start_of key) (stop_of key) none) none)))

-- a node is the name that a string has between its quotation marks
pub record IsName (n key : Tree) : Type 0 where
  pub kinds : Identifier ≡ kind_of n
  pub text : inside (text_of key) ≡ text_of n
  pub flags : plain ≡ flags_of n
  pub parts : part_count (parts_of n) ≡ 0

pub record HasDot (n key m : Tree) : Type 0 where
  pub kinds : kind_of n ≡ kind_of m
  pub text : text_of n ≡ text_of m
  pub flags : record (flags_of n) { computed = false } ≡ flags_of m
  pub parts : part_count (parts_of m) ≡ 2
  pub name : Tree
  pub at : Some name ≡ nth 1 m
  pub named : IsName name key

-- an assignment becomes one by the operator of its right side
abbrev pub BecomesAssignment : List Change → Tree → Tree → Type 0
BecomesAssignment changes n operation = (target right : Tree) → Some target ≡ nth 0 n → Some right ≡ nth 1 operation → has_assignment (text_of operation) ≡ true →
    Leads changes n (node (kind_of n) (text_of operation ++ codes "=") (flags_of n) (start_of n) (stop_of n) (part target (part right none)))

pub record HasOperator (n operation m : Tree) : Type 0 where
  pub kinds : kind_of n ≡ kind_of m
  pub assigns : has_assignment (text_of operation) ≡ true
  pub text : text_of operation ++ codes "=" ≡ text_of m
  pub flags : flags_of n ≡ flags_of m
  pub parts : part_count (parts_of m) ≡ 2
