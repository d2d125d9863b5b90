-- Nodes of one token.
use Rattle.std.specs.Prelude.{ℕ, cond, nat_eq, List, [], ◌∷◌}
use Rattle.tree.specs.declared.kind.Kind.{Kind}
use Rattle.tree.specs.declared.kind.Kind.TheVariants.{Identifier, PrivateIdentifier, Literal, ThisExpression, Super}
use Rattle.tree.specs.Tree.{Tree, node, none, plain}
use Rattle.tokens.specs.declared.token.TokenClass.{TokenClass}
use Rattle.tokens.specs.declared.token.TokenClass.TheVariants.{IdentifierName, Keyword, PrivateName}
use Rattle.tokens.specs.Tokens.{LexicalToken}

-- without a `#` before it
abbrev pub without_hash : List ℕ → List ℕ
without_hash [] = []
without_hash (c ∷ w) = cond (nat_eq c 35) w (c ∷ w)

-- `this` and `super` have no text, and a private name's has no `#` (12.6 of the 13th edition)
abbrev pub single_text : Kind → List ℕ → List ℕ
single_text ThisExpression w = []
single_text Super w = []
single_text PrivateIdentifier w = without_hash w
single_text k w = w

-- the node of a token
abbrev pub single_node : Kind → LexicalToken → Tree
single_node k t = node k (single_text k t.text) plain t.start t.stop none

-- the node of a key without brackets, and of the name behind a dot
abbrev pub key_node_by : TokenClass → LexicalToken → Tree
key_node_by IdentifierName t = single_node Identifier t
key_node_by Keyword t = single_node Identifier t
key_node_by PrivateName t = single_node PrivateIdentifier t
key_node_by c t = single_node Literal t

abbrev pub key_node : LexicalToken → Tree
key_node t = key_node_by t.class t
