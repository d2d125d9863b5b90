-- Examples: `await` as a name of the base language, and as an operator and a key of one of 2022.
use Rattle.std.specs.Prelude.{◌≡◌, refl, List, [], ◌∷◌, map}
use Prim.Native.String.{String}
use Rattle.tree.specs.declared.kind.Kind.TheVariants.{AwaitExpression, CallExpression, MemberExpression}
use Rattle.language.specs.Token.{Token}
use Rattle.language.specs.Languages.{seen_in}
use Rattle.language.proofs.examples.Sources.{tokens}
use Rattle.language.proofs.examples.Trees.{computing, found, id, n, once, one, pair, program, st, two}
use Rattle.language.specs.declared.Language.TheVariants.{Script}
use Rattle.language.specs.Vocabulary.{is_keyword}

abbrev modern : String → List Token
modern s = map (seen_in Script) (tokens s)

pub call_of_await : found (tokens "await(a);") (program 9 (one (st 0 9 (n CallExpression 0 8 (two (id "await" 0) (id "a" 6)))))) ≡ once []
unfolding computing is_keyword
call_of_await = refl

pub await_of_group : found (modern "await(a);") (program 9 (one (st 0 9 (n AwaitExpression 0 8 (one (id "a" 6)))))) ≡ once (pair 5 7 ∷ [])
unfolding computing is_keyword
await_of_group = refl

pub no_call_of_await : found (modern "await(a);") (program 9 (one (st 0 9 (n CallExpression 0 8 (two (id "await" 0) (id "a" 6)))))) ≡ []
unfolding computing is_keyword
no_call_of_await = refl

pub no_await_of_group : found (tokens "await(a);") (program 9 (one (st 0 9 (n AwaitExpression 0 8 (one (id "a" 6)))))) ≡ []
unfolding computing is_keyword
no_await_of_group = refl

pub await_of_name : found (modern "await a;") (program 8 (one (st 0 8 (n AwaitExpression 0 7 (one (id "a" 6)))))) ≡ once []
unfolding computing is_keyword
await_of_name = refl

pub await_behind_dot : found (modern "a.await;") (program 8 (one (st 0 8 (n MemberExpression 0 7 (two (id "a" 0) (id "await" 2)))))) ≡ once []
unfolding computing is_keyword
await_behind_dot = refl

pub no_name_await : found (modern "await;") (program 6 (one (st 0 6 (id "await" 0)))) ≡ []
unfolding computing is_keyword
no_name_await = refl

pub name_await : found (tokens "await;") (program 6 (one (st 0 6 (id "await" 0)))) ≡ once []
unfolding computing is_keyword
name_await = refl
