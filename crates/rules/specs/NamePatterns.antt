-- Texts that stand for names: a name, or its beginning before a `*`, or its end behind one.
use Rattle.std.specs.Prelude.{ℕ, Bool, not, cond, ◌-◌, nat_eq, List, take, drop, length, codes}
use Rattle.std.specs.List.{list_all, starts_with, ends_with}
use Rattle.std.specs.Str.{bytes_eq}

abbrev pub begins_with_star : List ℕ → Bool
begins_with_star text = starts_with nat_eq text (codes "*")

abbrev pub ends_with_star : List ℕ → Bool
ends_with_star text = ends_with nat_eq text (codes "*")

-- all but the last byte
abbrev pub front : List ℕ → List ℕ
front text = take (length text - 1) text

-- a name is one that a text stands for
abbrev pub stands_for : List ℕ → List ℕ → Bool
stands_for text name =
    cond (ends_with_star text) (starts_with nat_eq name (front text)) (cond (begins_with_star text) (ends_with nat_eq name (drop 1 text)) (bytes_eq name text))

-- a text without the `*` at its end, or else at its start
abbrev pub without_star : List ℕ → List ℕ
without_star text = cond (ends_with_star text) (front text) (cond (begins_with_star text) (drop 1 text) text)

abbrev pub is_plain : List ℕ → Bool
is_plain text = list_all (λ c. not (nat_eq c 42)) text

-- a text has no other `*`
abbrev pub is_pattern : List ℕ → Bool
is_pattern text = is_plain (without_star text)
