-- What is written down of a tree, places aside: of each node its kind, its flags, its text behind its length, and its parts. Two tests are the same where it is.
use Rattle.std.specs.Prelude.{ℕ, Bool, true, false, ◌||◌, length, List, [], ◌++◌, Option, Some, None, codes}
use Rattle.std.specs.Fmt.{decimal}
use Rattle.tree.specs.declared.kind.Kind.{Kind}
use Rattle.tree.specs.declared.kind.Kind.TheVariants.{ArrowFunctionExpression, ClassDeclaration, ClassExpression, FunctionDeclaration, FunctionExpression}
use Rattle.tree.specs.declared.kind.Flags.{Flags}
use Rattle.tree.specs.declared.kind.Form.{Form}
use Rattle.tree.specs.declared.kind.Form.TheVariants.{Init, Get, Set, Method, Shorthand, Constructor, Generator, Async, AsyncGenerator}
use Rattle.tree.specs.Kinds.{type_name}
use Rattle.tree.specs.Tree.{Tree, node, Parts, none, part, gap}

-- functions and classes: each that is made is a value of its own
abbrev pub holds_code : Kind → Bool
holds_code FunctionExpression = true
holds_code ArrowFunctionExpression = true
holds_code ClassExpression = true
holds_code FunctionDeclaration = true
holds_code ClassDeclaration = true
holds_code _ = false

unfoldable mutual
  -- a node is a function or a class, or one stands in it
  pub has_code : Tree → Bool
  has_code (node kind text flags from to parts) = holds_code kind || have_code parts

  pub have_code : Parts → Bool
  have_code none = false
  have_code (part tree rest) = has_code tree || have_code rest
  have_code (gap rest) = have_code rest

abbrev pub sign : Bool → List ℕ
sign true = codes "+"
sign false = codes "-"

abbrev pub form_name : Form → List ℕ
form_name Init = codes "init"
form_name Get = codes "get"
form_name Set = codes "set"
form_name Method = codes "method"
form_name Shorthand = codes "shorthand"
form_name Constructor = codes "constructor"
form_name Generator = codes "generator"
form_name Async = codes "async"
form_name AsyncGenerator = codes "async generator"

abbrev pub flag_text : Flags → List ℕ
flag_text flags = sign flags.computed ++ (sign flags.optional ++ (sign flags.is_static ++ (sign flags.prefix ++ (sign flags.directive ++ (sign flags.expression ++ form_name flags.form)))))

-- a node alone
abbrev pub head : Kind → Flags → List ℕ → List ℕ
head kind flags text = codes "(" ++ (type_name kind ++ (flag_text flags ++ (decimal (length text) ++ (codes ":" ++ text))))

unfoldable mutual
  pub written : Tree → List ℕ
  written (node kind text flags from to parts) = head kind flags text ++ (written_parts parts ++ codes ")")

  pub written_parts : Parts → List ℕ
  written_parts none = []
  written_parts (part tree rest) = written tree ++ written_parts rest
  written_parts (gap rest) = codes "," ++ written_parts rest

-- of a part, which may be a gap
abbrev pub written_part : Option Tree → List ℕ
written_part None = codes ","
written_part (Some tree) = written tree
