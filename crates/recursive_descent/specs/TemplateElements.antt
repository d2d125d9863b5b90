-- Parts of templates (ECMA-262 12.2.9), by the text of their token.
use Rattle.std.specs.Prelude.{◌≡◌, ℕ, ◌+◌, Bool, cond, List, ◌++◌, length, codes}
use Rattle.tokens.specs.Templates.{raw_value}
use Rattle.tree.specs.Tree.{Tree, node, none, plain}
use Rattle.tree.specs.declared.kind.Kind.TheVariants.{TemplateElement}

-- the delimiter before the first part, or before another; behind the last, or behind another
abbrev pub front : Bool → List ℕ
front first = codes (cond first "`" "}")

abbrev pub back : Bool → List ℕ
back last = codes (cond last "`" "${")

-- what stands between the delimiters is this
abbrev pub Holds : List ℕ → Bool → Bool → List ℕ → Type 0
Holds text first last w = text ≡ front first ++ (w ++ back last)

-- the node of a part with these characters, whose token starts here
abbrev pub part_node : ℕ → List ℕ → Tree
part_node start w = node TemplateElement (raw_value w) plain (start + 1) (start + 1 + length w) none
