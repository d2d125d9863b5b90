-- Examples: `__proto__` in objects.
use Rattle.std.specs.Prelude.{◌≡◌, ◌+◌, refl, ℕ, true, [], ◌∷◌, codes}
use Prim.Native.String.{String}
use Rattle.tree.specs.declared.kind.Kind.TheVariants.{ArrowFunctionExpression, ExpressionStatement, Literal, ObjectExpression, ObjectPattern, Program, Property, SpreadElement}
use Rattle.tree.specs.declared.kind.Flags.{Flags}
use Rattle.tree.specs.declared.kind.Form.TheVariants.{Shorthand}
use Rattle.tree.specs.Tree.{Tree, Parts, node, none, plain}
use Rattle.early_errors.specs.Early.{errors}
use Rattle.language.proofs.examples.Trees.{id, lit, n, one, t, three, two}
use Rattle.early_errors.proofs.Trees.{computing}

-- `__proto__: a` at a place
abbrev proto : ℕ → Tree
proto s = n Property s (s + 12) (two (id "__proto__" s) (id "a" (s + 11)))

-- an object as the script, by its Program's text
abbrev of_object : String → Parts → Tree
of_object w ps = t Program w 0 50 (one (n ExpressionStatement 0 50 (one (n ObjectExpression 1 49 ps))))

-- `({__proto__: a, __proto__: a})`
pub twice : errors (of_object "2022" (two (proto 2) (proto 16))) ≡ (36, 16) ∷ []
unfolding computing
twice = refl

pub twice_in_the_base : errors (of_object "" (two (proto 2) (proto 16))) ≡ []
unfolding computing
twice_in_the_base = refl

-- each but the first
pub three_times : errors (of_object "2022" (three (proto 2) (proto 16) (proto 30))) ≡ (36, 16) ∷ (36, 30) ∷ []
unfolding computing
three_times = refl

-- `({__proto__: a, "__pro\x74o__": a})`
pub by_a_string : errors (of_object "2022" (two (proto 2) (n Property 16 32 (two (lit "\"__pro\\x74o__\"" 16) (id "a" 31))))) ≡ (36, 16) ∷ []
unfolding computing
by_a_string = refl

-- `({__proto__: a, __proto__})`
pub shorthand : errors (of_object "2022" (two (proto 2) (node Property [] (record plain { form = Shorthand }) 16 25 (two (id "__proto__" 16) (id "__proto__" 16))))) ≡ []
unfolding computing
shorthand = refl

-- `({__proto__: a, [__proto__]: a})`
pub in_brackets : errors (of_object "2022" (two (proto 2) (node Property [] (record plain { computed = true }) 16 30 (two (id "__proto__" 17) (id "a" 29))))) ≡ []
unfolding computing
in_brackets = refl

-- `({...__proto__, ...__proto__})`
pub spreads : errors (of_object "2022" (two (n SpreadElement 2 14 (one (id "__proto__" 5))) (n SpreadElement 16 28 (one (id "__proto__" 19))))) ≡ []
unfolding computing
spreads = refl

-- `({__proto__: a, __proto__: b}) => c`
pub in_a_pattern : errors (t Program "2022" 0 35 (one (n ExpressionStatement 0 35 (one (n ArrowFunctionExpression 0 35 (two (n ObjectPattern 1 29 (two (proto 2) (n Property 16 28 (two (id "__proto__" 16) (id "b" 27))))) (id "c" 34))))))) ≡ []
unfolding computing
in_a_pattern = refl
