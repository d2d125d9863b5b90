-- Examples of `yield`: what tokens spell, in one way; and what they do not spell.
use Rattle.std.specs.Prelude.{◌≡◌, refl, [], ◌∷◌}
use Rattle.tree.specs.declared.kind.Kind.TheVariants.{BinaryExpression, ConditionalExpression, SequenceExpression, TemplateElement, TemplateLiteral, UnaryExpression, YieldExpression}
use Rattle.tree.specs.Tree.{Tree, node, gap, none}
use Rattle.language.proofs.examples.Sources.{tokens, tokens_with_regexps}
use Rattle.language.proofs.examples.Trees.{computing, found, id, lit, n, once, one, pair, program, st, t, three, two}
use Rattle.tree.specs.declared.kind.Form.TheVariants.{Generator}

abbrev starred : Tree → Tree
starred (node k w g s e ps) = node k w (record g { form = Generator }) s e ps

pub alone : found (tokens "yield;") (program 6 (one (st 0 6 (n YieldExpression 0 5 (gap none))))) ≡ once []
unfolding computing
alone = refl

pub of_operand : found (tokens "yield a") (program 7 (one (st 0 7 (n YieldExpression 0 7 (one (id "a" 6)))))) ≡ once []
unfolding computing
of_operand = refl

pub delegates : found (tokens "yield * a") (program 9 (one (st 0 9 (starred (n YieldExpression 0 9 (one (id "a" 8))))))) ≡ once []
unfolding computing
delegates = refl

pub of_sign : found (tokens "yield + a") (program 9 (one (st 0 9 (n YieldExpression 0 9 (one (t UnaryExpression "+" 6 9 (one (id "a" 8)))))))) ≡ once []
unfolding computing
of_sign = refl

pub of_yield : found (tokens "yield yield, a") (program 14 (one (st 0 14 (n SequenceExpression 0 14 (two (n YieldExpression 0 11 (one (n YieldExpression 6 11 (gap none)))) (id "a" 13)))))) ≡ once []
unfolding computing
of_yield = refl

pub before_break : found (tokens "yield\na") (program 7 (two (st 0 5 (n YieldExpression 0 5 (gap none))) (st 6 7 (id "a" 6)))) ≡ once []
unfolding computing
before_break = refl

pub over_break : found (tokens "yield\na") (program 7 (one (st 0 7 (n YieldExpression 0 7 (one (id "a" 6)))))) ≡ []
unfolding computing
over_break = refl

pub star_over_break : found (tokens "yield *\na") (program 9 (one (st 0 9 (starred (n YieldExpression 0 9 (one (id "a" 8))))))) ≡ once []
unfolding computing
star_over_break = refl

pub as_operand : found (tokens "a + yield") (program 9 (one (st 0 9 (t BinaryExpression "+" 0 9 (two (id "a" 0) (n YieldExpression 4 9 (gap none))))))) ≡ []
unfolding computing
as_operand = refl

pub grouped_operand : found (tokens "a + (yield)") (program 11 (one (st 0 11 (t BinaryExpression "+" 0 11 (two (id "a" 0) (n YieldExpression 5 10 (gap none))))))) ≡ once (pair 4 10 ∷ [])
unfolding computing
grouped_operand = refl

pub in_conditional : found (tokens "a ? yield : yield b") (program 19 (one (st 0 19 (n ConditionalExpression 0 19 (three (id "a" 0) (n YieldExpression 4 9 (gap none)) (n YieldExpression 12 19 (one (id "b" 18)))))))) ≡ once []
unfolding computing
in_conditional = refl

pub in_template : found (tokens "`${yield}`") (program 10 (one (st 0 10 (n TemplateLiteral 0 10 (three (n TemplateElement 1 1 none) (n YieldExpression 3 8 (gap none)) (n TemplateElement 9 9 none)))))) ≡ once []
unfolding computing
in_template = refl

pub of_regexp : found (tokens_with_regexps "yield /a/") (program 9 (one (st 0 9 (n YieldExpression 0 9 (one (lit "/a/" 6)))))) ≡ once []
unfolding computing
of_regexp = refl
