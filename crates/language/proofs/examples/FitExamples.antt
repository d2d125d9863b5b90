-- Examples: with which nodes wrapped a tree can be laid out.
use Rattle.std.specs.Prelude.{◌≡◌, true, false, refl}
use Rattle.language.specs.Pieces.{script}
use Rattle.language.specs.Layout.{wrapped_rows, has_number}
use Rattle.language.specs.LayoutFits.{fits, parts_fit}
use Rattle.language.proofs.examples.Trees.{computing}
use Rattle.language.proofs.examples.LayoutExamples.{power_of_minus, grouped_chain}

-- `(-a) ** b`
pub power_fits : fits (has_number (wrapped_rows power_of_minus script 1)) power_of_minus script 1 ≡ true
unfolding computing fits parts_fit
power_fits = refl

-- `-a ** b` is no script
pub power_without_pair : fits (λ r. false) power_of_minus script 1 ≡ false
unfolding computing fits parts_fit
power_without_pair = refl

-- `((-(a)) ** (b))`
pub power_with_all_pairs : fits (λ r. true) power_of_minus script 1 ≡ true
unfolding computing fits parts_fit
power_with_all_pairs = refl

-- without the pair, `(a?.b).c` is another tree
pub chain_without_pair : fits (λ r. false) grouped_chain script 1 ≡ false
unfolding computing fits parts_fit
chain_without_pair = refl
