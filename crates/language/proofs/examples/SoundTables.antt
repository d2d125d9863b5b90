-- Of the tables of the examples: which are sound, and which aren't.
use Rattle.std.specs.Prelude.{refl}
use Rattle.language.specs.Claims.{Sound}
use Rattle.language.proofs.examples.Tables.{high_at, judging, misshapen, none_at, total_high}
use Rattle.language.proofs.lower_bound.TableJudgement.{sound_by, unsound_by}
use Rattle.language.proofs.examples.TableExamples.{head, head_own, head_own_judged, head_total_raised, head_total_raised_judged, member, member_object_first, member_object_first_judged, member_object_lowered, member_object_lowered_judged, member_own, member_own_judged, member_total_lowered, member_total_lowered_judged, member_total_raised, member_total_raised_judged, minus_member, minus_member_foreign, minus_member_foreign_judged, minus_member_own, minus_member_own_judged, new_of_sum, new_of_sum_foreign, new_of_sum_foreign_judged, sequence_member, sequence_member_foreign, sequence_member_foreign_judged, sequence_member_own, sequence_member_own_judged, sum, sum_none, sum_none_judged, sum_number_for_none, sum_number_for_none_judged, sum_other_kind, sum_other_kind_judged, sum_own, sum_own_judged, sum_raised, sum_raised_judged, sum_row_missing, sum_row_missing_judged, sum_row_too_many, sum_row_too_many_judged, sum_total_raised, sum_total_raised_judged}

pub sum_own_sound : Sound sum_own sum
unfolding judging
sum_own_sound = sound_by sum_own sum refl sum_own_judged

pub sum_number_for_none_sound : Sound sum_number_for_none sum
unfolding judging
sum_number_for_none_sound = sound_by sum_number_for_none sum refl sum_number_for_none_judged

pub sum_raised_unsound : Sound sum_raised sum → ⊥
sum_raised_unsound = unsound_by sum_raised sum (high_at 3) sum_raised_judged refl

pub sum_total_raised_unsound : Sound sum_total_raised sum → ⊥
sum_total_raised_unsound = unsound_by sum_total_raised sum total_high sum_total_raised_judged refl

pub sum_row_missing_unsound : Sound sum_row_missing sum → ⊥
sum_row_missing_unsound = unsound_by sum_row_missing sum (misshapen 3) sum_row_missing_judged refl

pub sum_row_too_many_unsound : Sound sum_row_too_many sum → ⊥
sum_row_too_many_unsound = unsound_by sum_row_too_many sum (misshapen 4) sum_row_too_many_judged refl

pub sum_other_kind_unsound : Sound sum_other_kind sum → ⊥
sum_other_kind_unsound = unsound_by sum_other_kind sum (misshapen 2) sum_other_kind_judged refl

pub sum_none_unsound : Sound sum_none sum → ⊥
sum_none_unsound = unsound_by sum_none sum (none_at 2) sum_none_judged refl

pub member_own_sound : Sound member_own member
unfolding judging
member_own_sound = sound_by member_own member refl member_own_judged

pub member_total_lowered_sound : Sound member_total_lowered member
unfolding judging
member_total_lowered_sound = sound_by member_total_lowered member refl member_total_lowered_judged

pub member_total_raised_unsound : Sound member_total_raised member → ⊥
member_total_raised_unsound = unsound_by member_total_raised member total_high member_total_raised_judged refl

pub member_object_first_unsound : Sound member_object_first member → ⊥
member_object_first_unsound = unsound_by member_object_first member (high_at 1) member_object_first_judged refl

pub member_object_lowered_sound : Sound member_object_lowered member
unfolding judging
member_object_lowered_sound = sound_by member_object_lowered member refl member_object_lowered_judged

pub head_own_sound : Sound head_own head
unfolding judging
head_own_sound = sound_by head_own head refl head_own_judged

pub head_total_raised_unsound : Sound head_total_raised head → ⊥
head_total_raised_unsound = unsound_by head_total_raised head total_high head_total_raised_judged refl

pub sequence_member_own_sound : Sound sequence_member_own sequence_member
unfolding judging
sequence_member_own_sound = sound_by sequence_member_own sequence_member refl sequence_member_own_judged

pub sequence_member_foreign_unsound : Sound sequence_member_foreign sequence_member → ⊥
sequence_member_foreign_unsound = unsound_by sequence_member_foreign sequence_member (high_at 1) sequence_member_foreign_judged refl

pub minus_member_own_sound : Sound minus_member_own minus_member
unfolding judging
minus_member_own_sound = sound_by minus_member_own minus_member refl minus_member_own_judged

pub minus_member_foreign_sound : Sound minus_member_foreign minus_member
unfolding judging
minus_member_foreign_sound = sound_by minus_member_foreign minus_member refl minus_member_foreign_judged

pub new_of_sum_foreign_sound : Sound new_of_sum_foreign new_of_sum
unfolding judging
new_of_sum_foreign_sound = sound_by new_of_sum_foreign new_of_sum refl new_of_sum_foreign_judged
