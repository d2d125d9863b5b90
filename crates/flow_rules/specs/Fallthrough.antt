-- What is said between two cases.
use Rattle.std.specs.Prelude.{ℕ, ◌+◌, Bool, true, false, ◌&&◌, ◌||◌, cond, nat_eq, nat_le, List, [], ◌∷◌, drop, Option, Some, None, codes}
use Rattle.std.specs.List.{slice_range}
use Rattle.tree.specs.Tree.{Tree, kind_of, part_at, part_count, parts_of, start_of, stop_of}
use Rattle.tree.specs.Fields.{last_part}
use Rattle.flow_rules.specs.declared.flow.Flow.{Flow}
use Rattle.flow_rules.specs.KindSets.{is_block, is_case}

-- a case with statements, behind which the next one goes on
abbrev pub falls_through : Flow → Tree → Bool
falls_through flow tree = is_case (kind_of tree) && (nat_le 2 (part_count (parts_of tree)) && flow.normal)

-- the end of the last statement of a block; of an empty one its start
abbrev pub inner_end : Tree → Option Tree → ℕ
inner_end block None = start_of block
inner_end block (Some last) = stop_of last

-- where the last statement of a case ends, or the last one in the block that is all of it
abbrev pub quiet_from_only : Tree → Option Tree → ℕ
quiet_from_only tree None = stop_of tree
quiet_from_only tree (Some only) = cond (is_block (kind_of only)) (inner_end only (last_part (parts_of only))) (stop_of tree)

abbrev pub quiet_from : Tree → ℕ
quiet_from tree = cond (nat_eq (part_count (parts_of tree)) 2) (quiet_from_only tree (part_at (parts_of tree) 1)) (stop_of tree)

-- a letter, in lower or upper case
abbrev pub is_letter : ℕ → ℕ → Bool
is_letter lower c = nat_eq c lower || nat_eq (c + 32) lower

-- white space of one byte
abbrev pub is_white : ℕ → Bool
is_white c = nat_eq c 32 || (nat_le 9 c && nat_le c 13)

-- a text begins with a word, in any case of letters
abbrev pub begins : List ℕ → List ℕ → Bool
begins [] text = true
begins (w ∷ ws) [] = false
begins (w ∷ ws) (c ∷ cs) = is_letter w c && begins ws cs

-- `through`, perhaps behind one character of white space
abbrev pub begins_through : List ℕ → Bool
begins_through [] = false
begins_through (c ∷ cs) = begins (codes "through") (c ∷ cs) || (is_white c && begins (codes "through") cs)

-- `fall through`, `falls through`, `fallthrough`, `fallsthrough`
abbrev pub begins_falls : List ℕ → Bool
begins_falls text = (begins (codes "fall") text && begins_through (drop 4 text)) || (begins (codes "falls") text && begins_through (drop 5 text))

-- one stands somewhere in a text
abbrev pub says_falls : List ℕ → Bool
says_falls [] = false
says_falls (c ∷ cs) = begins_falls (c ∷ cs) || says_falls cs

-- between the last statement of a case and the next case, where only white space, comments and the end of a block can stand
abbrev pub is_said : (source : List ℕ) → (from to : ℕ) → Bool
is_said source from to = says_falls (slice_range source from to)
