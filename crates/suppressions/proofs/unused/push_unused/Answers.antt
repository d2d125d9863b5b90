use Rattle.std.proofs.Common.{◌≡◌, ℕ, List, [], ◌∷◌, ◌++◌, ap, ◌∙◌}
use Rattle.rule_words.specs.Reports.{Report}
use Rattle.suppressions.specs.Left.{said_of, unused_report, unused_rule}
use Rattle.suppressions.specs.Suppressions.{Suppression}
use Rattle.suppressions.proofs.unused.push_unused.Goals as goal

abbrev with-words : ℕ → ℕ → List ℕ → Report
with-words start stop text = record { start = start; stop = stop; rule = unused_rule; text = text }

same : (s : Suppression) (start stop : ℕ) (text : List ℕ) → start ≡ s.start → stop ≡ s.stop → text ≡ said_of s.rule → with-words start stop text ≡ unused_report s
same s start stop text a b t = ap (λ n. with-words n stop text) a ∙ (ap (λ n. with-words s.start n text) b ∙ ap (λ w. with-words s.start s.stop w) t)

pub returns : goal.returns
returns c =
    c.in_ok-push_report.ensures.found
    ∙ ap (λ r. c.args.out.now.items ++ r ∷ []) (same c.args.suppression.now _ _ _ c.comment-comment.ensures.start c.comment-comment.ensures.end (c.in_ok-said.ensures ∙ ap said_of c.rule.ensures))
