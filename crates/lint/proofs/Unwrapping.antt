-- From a text that is read again and compared to what unwrapping promises.
use Rattle.std.proofs.Common.{◌≡◌, ℕ, List, refl, sym, ap, subst, ◌∙◌, ◌≤◌, length, arith, Some}
use Rattle.tree.specs.Tree.{Tree, node, parts_of, SameTree, bare}
use Rattle.tree.specs.declared.kind.Pair.{Pair}
use Rattle.early_errors.specs.Accepted.{Accepted}
use Rattle.early_errors.proofs.Placeless.{none_either}
use Rattle.language.specs.declared.Language.{Language}
use Rattle.language.specs.Claims.{max_open}
use Rattle.language.specs.Languages.{DerivesIn}
use Rattle.language.specs.Pieces.{script}
use Rattle.language.specs.Cost.{least}
use Rattle.paren_planner.proofs.Totals.{wrapped_count}
use Rattle.language_laws.specs.Laws.{SameItems}
use Rattle.lint.specs.ReadScripts.{FewestInAny, IsOnly}
use Rattle.lint.specs.Unwraps.{Unwraps, IsUnwrapped, SpellsWith, HasMorePairs}
use Rattle.unwrapping.proofs.CompareSteps.{keeps_itself}
use Rattle.lint.proofs.FixAnswers.{fewest}
use Rattle.lint.proofs.OneScript.{only_script}

same_items : (m n : Tree) → SameTree m n → SameItems m n
same_items (node k w g s e ps) (node l v h t u qs) same = ap parts_of same

-- a tree that costs so many pairs is derived with as many, and with no fewer
are_fewest : (language : Language) (n m : Tree) (text out : List ℕ) (P Q : List Pair) → DerivesIn language text n P → SameTree m n → DerivesIn language out m Q → Some (length Q) ≡ least n script → FewestInAny n (length Q)
are_fewest language n m text out P Q own same derived count =
    record {
      attained = (language, out, m, Q, same, derived, refl);
      least = λ any source k R alike d. subst (λ x. x ≤ length R) (wrapped_count n (length Q) (sym count)) (fewest language any text source n k P R own alike d);
    }

-- a text with no more pairs than the fewest is unwrapped to itself
pub unwraps_itself : (language : Language) (text : List ℕ) (n : Tree) (P : List Pair) → Accepted language text n P → IsOnly language text n P → Some (length P) ≡ least n script → Unwraps language text text
unwraps_itself language text n P is only count = record {
  tree = n;
  pairs = P;
  accepted = is;
  only = only;
  again = n;
  pairs_again = P;
  same = refl;
  accepted_again = is;
  only_again = only;
  fewest = are_fewest language n n text text P P (max_open, is.derived.1) refl (max_open, is.derived.1) count;
  kept = keeps_itself text n P;
  untouched = λ _. refl;
}

pub one_number : {x y : ℕ} → Some x ≡ Some y → x ≡ y
one_number e = cc

-- a text with more is unwrapped to one that spells its tree with the fewest
pub unwraps_to : (language : Language) (text out : List ℕ) (n : Tree) (P : List Pair) (k : ℕ) → Accepted language text n P → IsOnly language text n P → Some k ≡ least n script → HasMorePairs n P
    → SpellsWith language text out n P k → Unwraps language text out
unwraps_to language text out n P k is only total more spells =
    let count : Some (length spells.pairs) ≡ least n script = ap (λ m. Some m) spells.counted ∙ total in
    record {
      tree = n;
      pairs = P;
      accepted = is;
      only = only;
      again = spells.again;
      pairs_again = spells.pairs;
      same = spells.same;
      accepted_again = record { source = spells.source; derived = spells.derived; lawful = none_either n spells.again (sym spells.same) is.lawful };
      only_again = only_script language out spells.again spells.pairs spells.derived;
      fewest = are_fewest language n spells.again text out P spells.pairs (max_open, is.derived.1) spells.same (max_open, spells.derived.1) count;
      kept = spells.kept;
      untouched = λ same. absurd (more (ap (λ m. Some m) same ∙ count));
    }

-- unwrapping an unwrapped text gives it again
pub is_unwrapped : (language : Language) (text out : List ℕ) → Unwraps language text out → IsUnwrapped language out
is_unwrapped language text out u again v =
    let is = u.only_again v.tree v.pairs (max_open, v.accepted.derived.1) in
    let pairs : length v.pairs ≡ length u.pairs_again = ap (λ (ps : List Pair). length ps) is.1 in
    let alike : SameTree v.again u.tree = v.same ∙ ap bare is.0 ∙ u.same in
    let low : length u.pairs_again ≤ length v.pairs_again = u.fewest.least language again v.again v.pairs_again (same_items v.again u.tree alike) (max_open, v.accepted_again.derived.1) in
    let high : length v.pairs_again ≤ length v.pairs = v.fewest.least language out v.tree v.pairs refl (max_open, v.accepted.derived.1) in
    v.untouched (omega arith)
