-- Whole scripts as JSON: types of nodes that no row of crates/cases/data/trees has, and what isn't so. A new type needs none here: a script of
-- crates/cases/data/worked shows it.
use Rattle.std.specs.Prelude.{◌≡◌, ℕ, ◌+◌, true, false, [], ◌∷◌, length, bytes_eq, codes}
use Rattle.std.proofs.Common.{refl}
use Rattle.std.specs.Fmt.{digits}
use Rattle.std.specs.Str.{chars}
use Rattle.std.specs.Char.Utf16.{utf16_chars}
use Prim.Native.String.{String}
use Rattle.serde_json.proofs.OnLiterals.{serde_json_on_literals}
use Rattle.tree.specs.declared.kind.Kind.{Kind}
use Rattle.tree.specs.declared.kind.Kind.TheVariants as k
use Rattle.tree.specs.declared.kind.Kind.TheVariants.{Identifier}
use Rattle.tree.specs.declared.kind.Form.TheVariants.{Get, Set, Method, Constructor}
use Rattle.tree.specs.Tree.{Tree, node, Parts, none, part, gap, parts_from, plain}
use Rattle.estree_json.specs.Json.{json_text, node_json, parts_json, with_value, with_part, with_list, with_ends, with_turns, with_option}

unfoldable computing : ℕ
unfolding digits serde_json_on_literals chars utf16_chars node_json parts_json with_value with_part with_list with_ends with_turns with_option
computing = 0

-- a node with neither text nor flags
abbrev n : Kind → ℕ → ℕ → Parts → Tree
n k s e ps = node k [] plain s e ps

-- a node with a text
abbrev t : Kind → String → ℕ → ℕ → Parts → Tree
t k w s e ps = node k (codes w) plain s e ps

-- an identifier at a place
abbrev id : String → ℕ → Tree
id w s = node Identifier (codes w) plain s (s + length (codes w)) none

abbrev one : Tree → Parts
one a = part a none

abbrev two : Tree → Tree → Parts
two a b = part a (one b)

abbrev three : Tree → Tree → Tree → Parts
three a b c = part a (two b c)

-- a?.(b)?.[c].d
optional_call : json_text (n k.Program 0 13 (one (n k.ExpressionStatement 0 13 (one (n k.ChainExpression 0 13 (one (n k.MemberExpression 0 13 (two (node k.MemberExpression [] (record plain { computed = true; optional = true }) 0 11 (two (node k.CallExpression [] (record plain { optional = true }) 0 6 (two (id "a" 0) (id "b" 4))) (id "c" 9))) (id "d" 12)))))))))
    ≡ codes "{\"body\":[{\"end\":13,\"expression\":{\"end\":13,\"expression\":{\"computed\":false,\"end\":13,\"object\":{\"computed\":true,\"end\":11,\"object\":{\"arguments\":[{\"end\":5,\"name\":\"b\",\"start\":4,\"type\":\"Identifier\"}],\"callee\":{\"end\":1,\"name\":\"a\",\"start\":0,\"type\":\"Identifier\"},\"end\":6,\"optional\":true,\"start\":0,\"type\":\"CallExpression\"},\"optional\":true,\"property\":{\"end\":10,\"name\":\"c\",\"start\":9,\"type\":\"Identifier\"},\"start\":0,\"type\":\"MemberExpression\"},\"optional\":false,\"property\":{\"end\":13,\"name\":\"d\",\"start\":12,\"type\":\"Identifier\"},\"start\":0,\"type\":\"MemberExpression\"},\"start\":0,\"type\":\"ChainExpression\"},\"start\":0,\"type\":\"ExpressionStatement\"}],\"end\":13,\"sourceType\":\"script\",\"start\":0,\"type\":\"Program\"}"
unfolding computing
optional_call = refl

-- class A extends B { constructor() { super(this) } set [a](b) {} }
derived_class : json_text (n k.Program 0 65 (one (n k.ClassDeclaration 0 65 (three (id "A" 6) (id "B" 16) (n k.ClassBody 18 65 (two (node k.MethodDefinition [] (record plain { form = Constructor }) 20 49 (two (id "constructor" 20) (n k.FunctionExpression 31 49 (gap (one (n k.BlockStatement 34 49 (one (n k.ExpressionStatement 36 47 (one (n k.CallExpression 36 47 (two (n k.Super 36 41 none) (n k.ThisExpression 42 46 none)))))))))))) (node k.MethodDefinition [] (record plain { computed = true; form = Set }) 50 63 (two (id "a" 55) (n k.FunctionExpression 57 63 (gap (two (id "b" 58) (n k.BlockStatement 61 63 none))))))))))))
    ≡ codes "{\"body\":[{\"body\":{\"body\":[{\"computed\":false,\"end\":49,\"key\":{\"end\":31,\"name\":\"constructor\",\"start\":20,\"type\":\"Identifier\"},\"kind\":\"constructor\",\"start\":20,\"static\":false,\"type\":\"MethodDefinition\",\"value\":{\"async\":false,\"body\":{\"body\":[{\"end\":47,\"expression\":{\"arguments\":[{\"end\":46,\"start\":42,\"type\":\"ThisExpression\"}],\"callee\":{\"end\":41,\"start\":36,\"type\":\"Super\"},\"end\":47,\"optional\":false,\"start\":36,\"type\":\"CallExpression\"},\"start\":36,\"type\":\"ExpressionStatement\"}],\"end\":49,\"start\":34,\"type\":\"BlockStatement\"},\"end\":49,\"generator\":false,\"id\":null,\"params\":[],\"start\":31,\"type\":\"FunctionExpression\"}},{\"computed\":true,\"end\":63,\"key\":{\"end\":56,\"name\":\"a\",\"start\":55,\"type\":\"Identifier\"},\"kind\":\"set\",\"start\":50,\"static\":false,\"type\":\"MethodDefinition\",\"value\":{\"async\":false,\"body\":{\"body\":[],\"end\":63,\"start\":61,\"type\":\"BlockStatement\"},\"end\":63,\"generator\":false,\"id\":null,\"params\":[{\"end\":59,\"name\":\"b\",\"start\":58,\"type\":\"Identifier\"}],\"start\":57,\"type\":\"FunctionExpression\"}}],\"end\":65,\"start\":18,\"type\":\"ClassBody\"},\"end\":65,\"id\":{\"end\":7,\"name\":\"A\",\"start\":6,\"type\":\"Identifier\"},\"start\":0,\"superClass\":{\"end\":17,\"name\":\"B\",\"start\":16,\"type\":\"Identifier\"},\"type\":\"ClassDeclaration\"}],\"end\":65,\"sourceType\":\"script\",\"start\":0,\"type\":\"Program\"}"
unfolding computing
derived_class = refl

-- ({a: 1, get [b]() {}, set c(d) {}, e() {}, ...f})
properties : json_text (n k.Program 0 49 (one (n k.ExpressionStatement 0 49 (one (n k.ObjectExpression 1 48 (parts_from ((n k.Property 2 6 (two (id "a" 2) (t k.Literal "1" 5 6 none))) ∷ (node k.Property [] (record plain { computed = true; form = Get }) 8 20 (two (id "b" 13) (n k.FunctionExpression 15 20 (gap (one (n k.BlockStatement 18 20 none)))))) ∷ (node k.Property [] (record plain { form = Set }) 22 33 (two (id "c" 26) (n k.FunctionExpression 27 33 (gap (two (id "d" 28) (n k.BlockStatement 31 33 none)))))) ∷ (node k.Property [] (record plain { form = Method }) 35 41 (two (id "e" 35) (n k.FunctionExpression 36 41 (gap (one (n k.BlockStatement 39 41 none)))))) ∷ (n k.SpreadElement 43 47 (one (id "f" 46))) ∷ [])))))))
    ≡ codes "{\"body\":[{\"end\":49,\"expression\":{\"end\":48,\"properties\":[{\"computed\":false,\"end\":6,\"key\":{\"end\":3,\"name\":\"a\",\"start\":2,\"type\":\"Identifier\"},\"kind\":\"init\",\"method\":false,\"shorthand\":false,\"start\":2,\"type\":\"Property\",\"value\":{\"end\":6,\"raw\":\"1\",\"start\":5,\"type\":\"Literal\"}},{\"computed\":true,\"end\":20,\"key\":{\"end\":14,\"name\":\"b\",\"start\":13,\"type\":\"Identifier\"},\"kind\":\"get\",\"method\":false,\"shorthand\":false,\"start\":8,\"type\":\"Property\",\"value\":{\"async\":false,\"body\":{\"body\":[],\"end\":20,\"start\":18,\"type\":\"BlockStatement\"},\"end\":20,\"generator\":false,\"id\":null,\"params\":[],\"start\":15,\"type\":\"FunctionExpression\"}},{\"computed\":false,\"end\":33,\"key\":{\"end\":27,\"name\":\"c\",\"start\":26,\"type\":\"Identifier\"},\"kind\":\"set\",\"method\":false,\"shorthand\":false,\"start\":22,\"type\":\"Property\",\"value\":{\"async\":false,\"body\":{\"body\":[],\"end\":33,\"start\":31,\"type\":\"BlockStatement\"},\"end\":33,\"generator\":false,\"id\":null,\"params\":[{\"end\":29,\"name\":\"d\",\"start\":28,\"type\":\"Identifier\"}],\"start\":27,\"type\":\"FunctionExpression\"}},{\"computed\":false,\"end\":41,\"key\":{\"end\":36,\"name\":\"e\",\"start\":35,\"type\":\"Identifier\"},\"kind\":\"init\",\"method\":true,\"shorthand\":false,\"start\":35,\"type\":\"Property\",\"value\":{\"async\":false,\"body\":{\"body\":[],\"end\":41,\"start\":39,\"type\":\"BlockStatement\"},\"end\":41,\"generator\":false,\"id\":null,\"params\":[],\"start\":36,\"type\":\"FunctionExpression\"}},{\"argument\":{\"end\":47,\"name\":\"f\",\"start\":46,\"type\":\"Identifier\"},\"end\":47,\"start\":43,\"type\":\"SpreadElement\"}],\"start\":1,\"type\":\"ObjectExpression\"},\"start\":0,\"type\":\"ExpressionStatement\"}],\"end\":49,\"sourceType\":\"script\",\"start\":0,\"type\":\"Program\"}"
unfolding computing
properties = refl

-- `a${b}c`
templates : json_text (n k.Program 0 8 (one (n k.ExpressionStatement 0 8 (one (n k.TemplateLiteral 0 8 (three (t k.TemplateElement "a" 1 2 none) (id "b" 4) (t k.TemplateElement "c" 6 7 none)))))))
    ≡ codes "{\"body\":[{\"end\":8,\"expression\":{\"end\":8,\"expressions\":[{\"end\":5,\"name\":\"b\",\"start\":4,\"type\":\"Identifier\"}],\"quasis\":[{\"end\":2,\"start\":1,\"tail\":false,\"type\":\"TemplateElement\",\"value\":{\"cooked\":\"a\",\"raw\":\"a\"}},{\"end\":7,\"start\":6,\"tail\":true,\"type\":\"TemplateElement\",\"value\":{\"cooked\":\"c\",\"raw\":\"c\"}}],\"start\":0,\"type\":\"TemplateLiteral\"},\"start\":0,\"type\":\"ExpressionStatement\"}],\"end\":8,\"sourceType\":\"script\",\"start\":0,\"type\":\"Program\"}"
unfolding computing
templates = refl

-- a`\1`
bad_escape : json_text (n k.Program 0 5 (one (n k.ExpressionStatement 0 5 (one (n k.TaggedTemplateExpression 0 5 (two (id "a" 0) (n k.TemplateLiteral 1 5 (one (t k.TemplateElement "\\1" 2 4 none)))))))))
    ≡ codes "{\"body\":[{\"end\":5,\"expression\":{\"end\":5,\"quasi\":{\"end\":5,\"expressions\":[],\"quasis\":[{\"end\":4,\"start\":2,\"tail\":true,\"type\":\"TemplateElement\",\"value\":{\"cooked\":null,\"raw\":\"\\\\1\"}}],\"start\":1,\"type\":\"TemplateLiteral\"},\"start\":0,\"tag\":{\"end\":1,\"name\":\"a\",\"start\":0,\"type\":\"Identifier\"},\"type\":\"TaggedTemplateExpression\"},\"start\":0,\"type\":\"ExpressionStatement\"}],\"end\":5,\"sourceType\":\"script\",\"start\":0,\"type\":\"Program\"}"
unfolding computing
bad_escape = refl

-- `\uD800`
lone_cooked : json_text (n k.Program 0 8 (one (n k.ExpressionStatement 0 8 (one (n k.TemplateLiteral 0 8 (one (t k.TemplateElement "\\uD800" 1 7 none)))))))
    ≡ codes "{\"body\":[{\"end\":8,\"expression\":{\"end\":8,\"expressions\":[],\"quasis\":[{\"end\":7,\"start\":1,\"tail\":true,\"type\":\"TemplateElement\",\"value\":{\"raw\":\"\\\\uD800\"}}],\"start\":0,\"type\":\"TemplateLiteral\"},\"start\":0,\"type\":\"ExpressionStatement\"}],\"end\":8,\"sourceType\":\"script\",\"start\":0,\"type\":\"Program\"}"
unfolding computing
lone_cooked = refl

-- function f(a) { 'use strict'; return new.target }
function_declaration : json_text (n k.Program 0 49 (one (n k.FunctionDeclaration 0 49 (three (id "f" 9) (id "a" 11) (n k.BlockStatement 14 49 (two (node k.ExpressionStatement [] (record plain { directive = true }) 16 29 (one (t k.Literal "'use strict'" 16 28 none))) (n k.ReturnStatement 30 47 (one (n k.MetaProperty 37 47 (two (id "new" 37) (id "target" 41)))))))))))
    ≡ codes "{\"body\":[{\"async\":false,\"body\":{\"body\":[{\"directive\":\"use strict\",\"end\":29,\"expression\":{\"end\":28,\"raw\":\"'use strict'\",\"start\":16,\"type\":\"Literal\",\"value\":\"use strict\"},\"start\":16,\"type\":\"ExpressionStatement\"},{\"argument\":{\"end\":47,\"meta\":{\"end\":40,\"name\":\"new\",\"start\":37,\"type\":\"Identifier\"},\"property\":{\"end\":47,\"name\":\"target\",\"start\":41,\"type\":\"Identifier\"},\"start\":37,\"type\":\"MetaProperty\"},\"end\":47,\"start\":30,\"type\":\"ReturnStatement\"}],\"end\":49,\"start\":14,\"type\":\"BlockStatement\"},\"end\":49,\"generator\":false,\"id\":{\"end\":10,\"name\":\"f\",\"start\":9,\"type\":\"Identifier\"},\"params\":[{\"end\":12,\"name\":\"a\",\"start\":11,\"type\":\"Identifier\"}],\"start\":0,\"type\":\"FunctionDeclaration\"}],\"end\":49,\"sourceType\":\"script\",\"start\":0,\"type\":\"Program\"}"
unfolding computing
function_declaration = refl

-- (class {}, function a() { return; }, () => {})
expressions_of_functions : json_text (n k.Program 0 46 (one (n k.ExpressionStatement 0 46 (one (n k.SequenceExpression 1 45 (three (n k.ClassExpression 1 9 (gap (gap (one (n k.ClassBody 7 9 none))))) (n k.FunctionExpression 11 35 (two (id "a" 20) (n k.BlockStatement 24 35 (one (n k.ReturnStatement 26 33 (gap none)))))) (n k.ArrowFunctionExpression 37 45 (one (n k.BlockStatement 43 45 none)))))))))
    ≡ codes "{\"body\":[{\"end\":46,\"expression\":{\"end\":45,\"expressions\":[{\"body\":{\"body\":[],\"end\":9,\"start\":7,\"type\":\"ClassBody\"},\"end\":9,\"id\":null,\"start\":1,\"superClass\":null,\"type\":\"ClassExpression\"},{\"async\":false,\"body\":{\"body\":[{\"argument\":null,\"end\":33,\"start\":26,\"type\":\"ReturnStatement\"}],\"end\":35,\"start\":24,\"type\":\"BlockStatement\"},\"end\":35,\"generator\":false,\"id\":{\"end\":21,\"name\":\"a\",\"start\":20,\"type\":\"Identifier\"},\"params\":[],\"start\":11,\"type\":\"FunctionExpression\"},{\"async\":false,\"body\":{\"body\":[],\"end\":45,\"start\":43,\"type\":\"BlockStatement\"},\"end\":45,\"expression\":false,\"generator\":false,\"id\":null,\"params\":[],\"start\":37,\"type\":\"ArrowFunctionExpression\"}],\"start\":1,\"type\":\"SequenceExpression\"},\"start\":0,\"type\":\"ExpressionStatement\"}],\"end\":46,\"sourceType\":\"script\",\"start\":0,\"type\":\"Program\"}"
unfolding computing
expressions_of_functions = refl

-- a: for (;;) { break a; continue; }
labels : json_text (n k.Program 0 34 (one (n k.LabeledStatement 0 34 (two (id "a" 0) (n k.ForStatement 3 34 (gap (gap (gap (one (n k.BlockStatement 12 34 (two (n k.BreakStatement 14 22 (one (id "a" 20))) (n k.ContinueStatement 23 32 (gap none)))))))))))))
    ≡ codes "{\"body\":[{\"body\":{\"body\":{\"body\":[{\"end\":22,\"label\":{\"end\":21,\"name\":\"a\",\"start\":20,\"type\":\"Identifier\"},\"start\":14,\"type\":\"BreakStatement\"},{\"end\":32,\"label\":null,\"start\":23,\"type\":\"ContinueStatement\"}],\"end\":34,\"start\":12,\"type\":\"BlockStatement\"},\"end\":34,\"init\":null,\"start\":3,\"test\":null,\"type\":\"ForStatement\",\"update\":null},\"end\":34,\"label\":{\"end\":1,\"name\":\"a\",\"start\":0,\"type\":\"Identifier\"},\"start\":0,\"type\":\"LabeledStatement\"}],\"end\":34,\"sourceType\":\"script\",\"start\":0,\"type\":\"Program\"}"
unfolding computing
labels = refl

-- for (let i = 0, j; i < 1; i++) ;
variables : json_text (n k.Program 0 32 (one (n k.ForStatement 0 32 (parts_from ((t k.VariableDeclaration "let" 5 17 (two (n k.VariableDeclarator 9 14 (two (id "i" 9) (t k.Literal "0" 13 14 none))) (n k.VariableDeclarator 16 17 (part (id "j" 16) (gap none))))) ∷ (t k.BinaryExpression "<" 19 24 (two (id "i" 19) (t k.Literal "1" 23 24 none))) ∷ (t k.UpdateExpression "++" 26 29 (one (id "i" 26))) ∷ (n k.EmptyStatement 31 32 none) ∷ [])))))
    ≡ codes "{\"body\":[{\"body\":{\"end\":32,\"start\":31,\"type\":\"EmptyStatement\"},\"end\":32,\"init\":{\"declarations\":[{\"end\":14,\"id\":{\"end\":10,\"name\":\"i\",\"start\":9,\"type\":\"Identifier\"},\"init\":{\"end\":14,\"raw\":\"0\",\"start\":13,\"type\":\"Literal\"},\"start\":9,\"type\":\"VariableDeclarator\"},{\"end\":17,\"id\":{\"end\":17,\"name\":\"j\",\"start\":16,\"type\":\"Identifier\"},\"init\":null,\"start\":16,\"type\":\"VariableDeclarator\"}],\"end\":17,\"kind\":\"let\",\"start\":5,\"type\":\"VariableDeclaration\"},\"start\":0,\"test\":{\"end\":24,\"left\":{\"end\":20,\"name\":\"i\",\"start\":19,\"type\":\"Identifier\"},\"operator\":\"<\",\"right\":{\"end\":24,\"raw\":\"1\",\"start\":23,\"type\":\"Literal\"},\"start\":19,\"type\":\"BinaryExpression\"},\"type\":\"ForStatement\",\"update\":{\"argument\":{\"end\":27,\"name\":\"i\",\"start\":26,\"type\":\"Identifier\"},\"end\":29,\"operator\":\"++\",\"prefix\":false,\"start\":26,\"type\":\"UpdateExpression\"}}],\"end\":32,\"sourceType\":\"script\",\"start\":0,\"type\":\"Program\"}"
unfolding computing
variables = refl

-- switch (a) { case 1: ++b; default: }
cases : json_text (n k.Program 0 36 (one (n k.SwitchStatement 0 36 (three (id "a" 8) (n k.SwitchCase 13 25 (two (t k.Literal "1" 18 19 none) (n k.ExpressionStatement 21 25 (one (node k.UpdateExpression (codes "++") (record plain { prefix = true }) 21 24 (one (id "b" 23))))))) (n k.SwitchCase 26 34 (gap none))))))
    ≡ codes "{\"body\":[{\"cases\":[{\"consequent\":[{\"end\":25,\"expression\":{\"argument\":{\"end\":24,\"name\":\"b\",\"start\":23,\"type\":\"Identifier\"},\"end\":24,\"operator\":\"++\",\"prefix\":true,\"start\":21,\"type\":\"UpdateExpression\"},\"start\":21,\"type\":\"ExpressionStatement\"}],\"end\":25,\"start\":13,\"test\":{\"end\":19,\"raw\":\"1\",\"start\":18,\"type\":\"Literal\"},\"type\":\"SwitchCase\"},{\"consequent\":[],\"end\":34,\"start\":26,\"test\":null,\"type\":\"SwitchCase\"}],\"discriminant\":{\"end\":9,\"name\":\"a\",\"start\":8,\"type\":\"Identifier\"},\"end\":36,\"start\":0,\"type\":\"SwitchStatement\"}],\"end\":36,\"sourceType\":\"script\",\"start\":0,\"type\":\"Program\"}"
unfolding computing
cases = refl

-- try { throw a } catch (b) { try {} catch {} finally {} }
handlers : json_text (n k.Program 0 56 (one (n k.TryStatement 0 56 (part (n k.BlockStatement 4 15 (one (n k.ThrowStatement 6 13 (one (id "a" 12))))) (part (n k.CatchClause 16 56 (two (id "b" 23) (n k.BlockStatement 26 56 (one (n k.TryStatement 28 54 (three (n k.BlockStatement 32 34 none) (n k.CatchClause 35 43 (gap (one (n k.BlockStatement 41 43 none)))) (n k.BlockStatement 52 54 none))))))) (gap none))))))
    ≡ codes "{\"body\":[{\"block\":{\"body\":[{\"argument\":{\"end\":13,\"name\":\"a\",\"start\":12,\"type\":\"Identifier\"},\"end\":13,\"start\":6,\"type\":\"ThrowStatement\"}],\"end\":15,\"start\":4,\"type\":\"BlockStatement\"},\"end\":56,\"finalizer\":null,\"handler\":{\"body\":{\"body\":[{\"block\":{\"body\":[],\"end\":34,\"start\":32,\"type\":\"BlockStatement\"},\"end\":54,\"finalizer\":{\"body\":[],\"end\":54,\"start\":52,\"type\":\"BlockStatement\"},\"handler\":{\"body\":{\"body\":[],\"end\":43,\"start\":41,\"type\":\"BlockStatement\"},\"end\":43,\"param\":null,\"start\":35,\"type\":\"CatchClause\"},\"start\":28,\"type\":\"TryStatement\"}],\"end\":56,\"start\":26,\"type\":\"BlockStatement\"},\"end\":56,\"param\":{\"end\":24,\"name\":\"b\",\"start\":23,\"type\":\"Identifier\"},\"start\":16,\"type\":\"CatchClause\"},\"start\":0,\"type\":\"TryStatement\"}],\"end\":56,\"sourceType\":\"script\",\"start\":0,\"type\":\"Program\"}"
unfolding computing
handlers = refl

-- typeof a && b ? c : new d(e)
operators : json_text (n k.Program 0 28 (one (n k.ExpressionStatement 0 28 (one (n k.ConditionalExpression 0 28 (three (t k.LogicalExpression "&&" 0 13 (two (t k.UnaryExpression "typeof" 0 8 (one (id "a" 7))) (id "b" 12))) (id "c" 16) (n k.NewExpression 20 28 (two (id "d" 24) (id "e" 26)))))))))
    ≡ codes "{\"body\":[{\"end\":28,\"expression\":{\"alternate\":{\"arguments\":[{\"end\":27,\"name\":\"e\",\"start\":26,\"type\":\"Identifier\"}],\"callee\":{\"end\":25,\"name\":\"d\",\"start\":24,\"type\":\"Identifier\"},\"end\":28,\"start\":20,\"type\":\"NewExpression\"},\"consequent\":{\"end\":17,\"name\":\"c\",\"start\":16,\"type\":\"Identifier\"},\"end\":28,\"start\":0,\"test\":{\"end\":13,\"left\":{\"argument\":{\"end\":8,\"name\":\"a\",\"start\":7,\"type\":\"Identifier\"},\"end\":8,\"operator\":\"typeof\",\"prefix\":true,\"start\":0,\"type\":\"UnaryExpression\"},\"operator\":\"&&\",\"right\":{\"end\":13,\"name\":\"b\",\"start\":12,\"type\":\"Identifier\"},\"start\":0,\"type\":\"LogicalExpression\"},\"type\":\"ConditionalExpression\"},\"start\":0,\"type\":\"ExpressionStatement\"}],\"end\":28,\"sourceType\":\"script\",\"start\":0,\"type\":\"Program\"}"
unfolding computing
operators = refl

-- 'a\n'; 1.5; 'b'; null; false; /c\/[/]/
literals : json_text (n k.Program 0 38 (parts_from ((node k.ExpressionStatement [] (record plain { directive = true }) 0 6 (one (t k.Literal "'a\\n'" 0 5 none))) ∷ (n k.ExpressionStatement 7 11 (one (t k.Literal "1.5" 7 10 none))) ∷ (n k.ExpressionStatement 12 16 (one (t k.Literal "'b'" 12 15 none))) ∷ (n k.ExpressionStatement 17 22 (one (t k.Literal "null" 17 21 none))) ∷ (n k.ExpressionStatement 23 29 (one (t k.Literal "false" 23 28 none))) ∷ (n k.ExpressionStatement 30 38 (one (t k.Literal "/c\\/[/]/" 30 38 none))) ∷ [])))
    ≡ codes "{\"body\":[{\"directive\":\"a\\\\n\",\"end\":6,\"expression\":{\"end\":5,\"raw\":\"'a\\\\n'\",\"start\":0,\"type\":\"Literal\",\"value\":\"a\\n\"},\"start\":0,\"type\":\"ExpressionStatement\"},{\"end\":11,\"expression\":{\"end\":10,\"raw\":\"1.5\",\"start\":7,\"type\":\"Literal\"},\"start\":7,\"type\":\"ExpressionStatement\"},{\"end\":16,\"expression\":{\"end\":15,\"raw\":\"'b'\",\"start\":12,\"type\":\"Literal\",\"value\":\"b\"},\"start\":12,\"type\":\"ExpressionStatement\"},{\"end\":22,\"expression\":{\"end\":21,\"raw\":\"null\",\"start\":17,\"type\":\"Literal\",\"value\":null},\"start\":17,\"type\":\"ExpressionStatement\"},{\"end\":29,\"expression\":{\"end\":28,\"raw\":\"false\",\"start\":23,\"type\":\"Literal\",\"value\":false},\"start\":23,\"type\":\"ExpressionStatement\"},{\"end\":38,\"expression\":{\"end\":38,\"raw\":\"/c\\\\/[/]/\",\"regex\":{\"flags\":\"\",\"pattern\":\"c\\\\/[/]\"},\"start\":30,\"type\":\"Literal\"},\"start\":30,\"type\":\"ExpressionStatement\"}],\"end\":38,\"sourceType\":\"script\",\"start\":0,\"type\":\"Program\"}"
unfolding computing
literals = refl

-- not so: keys stand in the order of their bytes
not_in_source_order : bytes_eq (json_text (n k.Program 0 0 none)) (codes "{\"type\":\"Program\",\"start\":0,\"end\":0,\"body\":[],\"sourceType\":\"script\"}") ≡ false
unfolding computing
not_in_source_order = refl

-- [,a] not so: a hole is null
not_without_holes : bytes_eq (json_text (n k.Program 0 4 (one (n k.ExpressionStatement 0 4 (one (n k.ArrayExpression 0 4 (gap (one (id "a" 2))))))))) (codes "{\"body\":[{\"end\":4,\"expression\":{\"elements\":[{\"end\":3,\"name\":\"a\",\"start\":2,\"type\":\"Identifier\"}],\"end\":4,\"start\":0,\"type\":\"ArrayExpression\"},\"start\":0,\"type\":\"ExpressionStatement\"}],\"end\":4,\"sourceType\":\"script\",\"start\":0,\"type\":\"Program\"}") ≡ false
unfolding computing
not_without_holes = refl
