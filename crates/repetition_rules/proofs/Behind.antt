-- What stands again, as a loop goes over what is compared, with the labels of those before in sets.
use Rattle.std.proofs.Common.{◌≡◌, ℕ, suc, ◌+◌, ◌<◌, List, ◌∷◌, ◌++◌, length, drop, get_or, sym, ap, ◌∙◌, add-one, append_assoc}
use Rattle.std.specs.Prelude.{◌&&◌, ◌||◌}
use Rattle.std.specs.Str.{bytes_eq}
use Rattle.std.proofs.Math.Seq.{drop-cons}
use Rattle.name_tables.specs.Sets.{contains}
use Rattle.rule_words.specs.Reports.{Report}
use Rattle.repetition_rules.specs.declared.again.Seen.{Seen}
use Rattle.repetition_rules.specs.declared.repetition_rule.RepetitionRule.{RepetitionRule}
use Rattle.repetition_rules.specs.Entries.{Entry, is_again, reads_among}
use Rattle.repetition_rules.specs.Rows.{report_if, reported}
use Rattle.repetition_rules.specs.Seen.{Holds, IsWith, is_seen}

-- sets with one more label
pub holds-more : (old new : Seen) (e : Entry) (before : List Entry) → Holds old before → IsWith e old new → Holds new (e ∷ before)
holds-more old new e before h i w = (
  (i w).0 ∙ ap (λ b. (e.is_read && bytes_eq w e.label) || b) (h w).0,
  (i w).1 ∙ ap (λ b. (e.is_written && bytes_eq w e.label) || b) (h w).1,
)

-- what the sets say is what those before say
seen-is : (seen : Seen) (before : List Entry) (e : Entry) → Holds seen before → is_seen seen e ≡ is_again before e
seen-is seen before e h =
    ap (λ b. (e.is_read && b) || (e.is_written && contains seen.written e.label)) (h e.label).0 ∙ ap (λ b. (e.is_read && reads_among before e.label) || (e.is_written && b)) (h e.label).1

module _ (rule : RepetitionRule) (before es : List Entry) (i : ℕ) (acc total : List Report) (so : acc ++ reported rule before (drop i es) ≡ total) where
  -- a turn
  pub again-turn : (seen : Seen) (e : Entry) (new : List Report) → i < length es → e ≡ get_or es i e → Holds seen before → new ≡ acc ++ report_if (is_seen seen e) rule e →
      new ++ reported rule (e ∷ before) (drop (i + 1) es) ≡ total
  again-turn seen e new l is h n =
      let at : drop i es ≡ e ∷ drop (suc i) es = drop-cons es i e l ∙ ap (λ x. x ∷ drop (suc i) es) (sym is) in
      rw (add-one i) (ap (λ a. a ++ reported rule (e ∷ before) (drop (suc i) es)) (n ∙ ap (λ b. acc ++ report_if b rule e) (seen-is seen before e h))
      ∙ append_assoc acc (report_if (is_again before e) rule e) (reported rule (e ∷ before) (drop (suc i) es)) ∙ ap (λ ys. acc ++ reported rule before ys) (sym at) ∙ so)
