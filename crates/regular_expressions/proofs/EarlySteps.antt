-- Groups, their names, and what refers to them, piece by piece.
use Rattle.std.proofs.Common.{◌≡◌, ℕ, ◌+◌, ◌<◌, ◌≤◌, Bool, true, false, ◌||◌, List, [], ◌∷◌, ◌++◌, length, Option, Some, None, if◌then◌else◌, refl, sym, ap, ◌∙◌, arith}
use Rattle.std.specs.Str.{chars, bytes_eq}
use Rattle.std.proofs.lemmas.List.Folds.{list_any-append}
use Rattle.source_text.specs.Source.{IsPlace}
use Rattle.tokens.specs.Reading.{behind}
use Rattle.tokens.specs.Scanned.{Passed}
use Rattle.tokens.proofs.PassedCharacters.{passed_ordered}
use Rattle.regular_expressions.specs.Terms.{Piece, bar, closing, assertion, looking, grouping, capturing, naming, repeating, atom, reference, name_reference, piece}
use Rattle.regular_expressions.specs.Patterns.{Placed, pieces_from, pieces_of, group_count, name_of, group_names, has, is_wrong, first_wrong}
use Rattle.regular_expressions.specs.Scanned.{IsRead}
use Rattle.regular_expressions.proofs.PatternSteps.{piece_stands, no_piece, pieces_end}

-- how many groups a piece is
abbrev pub group_of : Piece → ℕ
group_of p = group_count ((0, Some p) ∷ [])

pub count_one : (at : ℕ) (p : Piece) (ps : List Placed) → group_count ((at, Some p) ∷ ps) ≡ group_of p + group_count ps
count_one at bar ps = omega arith
count_one at closing ps = omega arith
count_one at assertion ps = omega arith
count_one at looking ps = omega arith
count_one at grouping ps = omega arith
count_one at capturing ps = omega arith
count_one at (naming name) ps = omega arith
count_one at repeating ps = omega arith
count_one at atom ps = omega arith
count_one at (reference n) ps = omega arith
count_one at (name_reference name) ps = omega arith

small : (p : Piece) → group_of p ≤ 1
small bar = omega arith
small closing = omega arith
small assertion = omega arith
small looking = omega arith
small grouping = omega arith
small capturing = omega arith
small (naming name) = omega arith
small repeating = omega arith
small atom = omega arith
small (reference n) = omega arith
small (name_reference name) = omega arith

or_swap : (a b c : Bool) → (a || (b || c)) ≡ ((b || a) || c)
or_swap true true c = refl
or_swap true false c = refl
or_swap false true c = refl
or_swap false false c = refl

pub has_append : (v w : List (List ℕ)) (name : List ℕ) → has (v ++ w) name ≡ (has v name || has w name)
has_append v w name = list_any-append (bytes_eq name) v w

-- the groups up to a place, and the names that a set has by then, by those that it had
pub record InGroups (u : Bool) (text : List ℕ) (at count : ℕ) (had now : List ℕ → Bool) : Type 0 where
  pub place : IsPlace text at
  pub few : count ≤ at
  pub counted : group_count (pieces_of u (chars text)) ≡ count + group_count (pieces_from u 0 at (behind text at))
  pub named : (w : List ℕ) → (had w || has (group_names (pieces_of u (chars text))) w) ≡ (now w || has (group_names (pieces_from u 0 at (behind text at))) w)

pub groups_begin : (u : Bool) (text : List ℕ) (had : List ℕ → Bool) → IsPlace text 0 → InGroups u text 0 0 had had
groups_begin u text had p = record { place = p; few = omega arith; counted = omega arith; named = λ w. refl }

pub groups_go_on : (u : Bool) (text : List ℕ) (at more stop c count : ℕ) (p : Piece) (had now next : List ℕ → Bool) → InGroups u text at count had now → at + 1 ≤ more → Passed text at more (c ∷ []) →
    IsRead (piece u c (behind text more)) p text more stop → ((w : List ℕ) → next w ≡ (has (name_of (Some p)) w || now w)) → InGroups u text stop (count + group_of p) had next
groups_go_on u text at more stop c count p had now next h fore one r n =
    let rest = pieces_from u 0 stop (behind text stop) in
    let e = piece_stands u text at more stop c p one r in
    let g = h.counted ∙ ap (λ ps. count + group_count ps) e in
    let k = count_one at p rest in
    let o = passed_ordered text more stop r.word r.passed in
    let f = h.few in
    let s = small p in
    record {
      place = r.passed.place;
      few = omega arith;
      counted = omega arith;
      named = λ w. h.named w ∙ ap (λ ps. now w || has (group_names ps) w) e ∙ ap (λ b. now w || b) (has_append (name_of (Some p)) (group_names rest) w)
          ∙ or_swap (now w) (has (name_of (Some p)) w) (has (group_names rest) w) ∙ ap (λ b. b || has (group_names rest) w) (sym (n w));
    }

-- a sum of the two fits as well
pub groups_few : (u : Bool) (text : List ℕ) (at count : ℕ) (p : Piece) (had now : List ℕ → Bool) → InGroups u text at count had now → at < length text → count + group_of p ≤ length text
groups_few u text at count p had now h n = let f = h.few in let s = small p in omega arith

or_false : (a : Bool) → (a || false) ≡ a
or_false true = refl
or_false false = refl

-- where no more pieces stand
pub groups_counted : (u : Bool) (text : List ℕ) (at count : ℕ) (had now : List ℕ → Bool) → InGroups u text at count had now → pieces_from u 0 at (behind text at) ≡ [] →
    count ≡ group_count (pieces_of u (chars text))
groups_counted u text at count had now h e = let g = h.counted ∙ ap (λ ps. count + group_count ps) e in omega arith

pub groups_named : (u : Bool) (text : List ℕ) (at count : ℕ) (had now : List ℕ → Bool) → InGroups u text at count had now → pieces_from u 0 at (behind text at) ≡ [] →
    (w : List ℕ) → now w ≡ (had w || has (group_names (pieces_of u (chars text))) w)
groups_named u text at count had now h e w = sym (h.named w ∙ ap (λ ps. now w || has (group_names ps) w) e ∙ or_false (now w))

pub groups_counted_none : (u : Bool) (text : List ℕ) (at count : ℕ) (had now : List ℕ → Bool) → InGroups u text at count had now → pieces_from u 0 at (behind text at) ≡ (at, None) ∷ [] →
    count ≡ group_count (pieces_of u (chars text))
groups_counted_none u text at count had now h e = let g = h.counted ∙ ap (λ ps. count + group_count ps) e in omega arith

pub groups_named_none : (u : Bool) (text : List ℕ) (at count : ℕ) (had now : List ℕ → Bool) → InGroups u text at count had now → pieces_from u 0 at (behind text at) ≡ (at, None) ∷ [] →
    (w : List ℕ) → now w ≡ (had w || has (group_names (pieces_of u (chars text))) w)
groups_named_none u text at count had now h e w = sym (h.named w ∙ ap (λ ps. now w || has (group_names ps) w) e ∙ or_false (now w))

-- ---- the first early error

pub record InWrong (u : Bool) (text : List ℕ) (at groups : ℕ) (names before : List ℕ → Bool) : Type 0 where
  pub place : IsPlace text at
  pub earlier : List (List ℕ)
  pub known : (w : List ℕ) → before w ≡ has earlier w
  pub same : (all : List (List ℕ)) → ((w : List ℕ) → names w ≡ has all w) →
      first_wrong groups all [] (pieces_of u (chars text)) ≡ first_wrong groups all earlier (pieces_from u 0 at (behind text at))

pub wrong_begins : (u : Bool) (text : List ℕ) (groups : ℕ) (names before : List ℕ → Bool) → IsPlace text 0 → ((w : List ℕ) → before w ≡ false) → InWrong u text 0 groups names before
wrong_begins u text groups names before p e = record { place = p; earlier = []; known = e; same = λ all n. refl }

chosen : (b : Bool) (x y : Option ℕ) → b ≡ true → (if b then x else y) ≡ x
chosen true x y e = refl
chosen false x y e = absurd (false_is_true e) where
  false_is_true : false ≡ true → ⊥
  false_is_true e = cc

not_chosen : (b : Bool) (x y : Option ℕ) → b ≡ false → (if b then x else y) ≡ y
not_chosen false x y e = refl
not_chosen true x y e = absurd (true_is_false e) where
  true_is_false : true ≡ false → ⊥
  true_is_false e = cc

pub wrong_found : (u : Bool) (text : List ℕ) (at more stop c groups : ℕ) (p : Piece) (names before : List ℕ → Bool) (b : Bool) → InWrong u text at groups names before → Passed text at more (c ∷ []) →
    IsRead (piece u c (behind text more)) p text more stop →
    ((all earlier : List (List ℕ)) → ((w : List ℕ) → names w ≡ has all w) → ((w : List ℕ) → before w ≡ has earlier w) → b ≡ is_wrong groups all earlier (Some p)) → b ≡ true →
    (all : List (List ℕ)) → ((w : List ℕ) → names w ≡ has all w) → Some at ≡ first_wrong groups all [] (pieces_of u (chars text))
wrong_found u text at more stop c groups p names before b h one r e t all n =
    let rest = pieces_from u 0 stop (behind text stop) in
    sym (h.same all n ∙ ap (λ ps. first_wrong groups all h.earlier ps) (piece_stands u text at more stop c p one r)
    ∙ chosen (is_wrong groups all h.earlier (Some p)) (Some at) (first_wrong groups all (name_of (Some p) ++ h.earlier) rest) (sym (e all h.earlier n h.known) ∙ t))

pub wrong_goes_on : (u : Bool) (text : List ℕ) (at more stop c groups : ℕ) (p : Piece) (names before after : List ℕ → Bool) (b : Bool) → InWrong u text at groups names before → Passed text at more (c ∷ []) →
    IsRead (piece u c (behind text more)) p text more stop →
    ((all earlier : List (List ℕ)) → ((w : List ℕ) → names w ≡ has all w) → ((w : List ℕ) → before w ≡ has earlier w) → b ≡ is_wrong groups all earlier (Some p)) → b ≡ false →
    ((w : List ℕ) → after w ≡ (has (name_of (Some p)) w || before w)) → InWrong u text stop groups names after
wrong_goes_on u text at more stop c groups p names before after b h one r e f k = record {
  place = r.passed.place;
  earlier = name_of (Some p) ++ h.earlier;
  known = λ w. k w ∙ ap (λ x. has (name_of (Some p)) w || x) (h.known w) ∙ sym (has_append (name_of (Some p)) h.earlier w);
  same = λ all n.
      h.same all n ∙ ap (λ ps. first_wrong groups all h.earlier ps) (piece_stands u text at more stop c p one r)
      ∙ not_chosen (is_wrong groups all h.earlier (Some p)) (Some at) (first_wrong groups all (name_of (Some p) ++ h.earlier) (pieces_from u 0 stop (behind text stop))) (sym (e all h.earlier n h.known) ∙ f);
}

pub wrong_ends : (u : Bool) (text : List ℕ) (at groups : ℕ) (names before : List ℕ → Bool) → InWrong u text at groups names before → behind text at ≡ [] →
    (all : List (List ℕ)) → ((w : List ℕ) → names w ≡ has all w) → None ≡ first_wrong groups all [] (pieces_of u (chars text))
wrong_ends u text at groups names before h e all n = sym (h.same all n ∙ ap (λ ps. first_wrong groups all h.earlier ps) (pieces_end u text at e))

-- a piece that can't be read is none
pub wrong_none : (u : Bool) (text : List ℕ) (at more c groups : ℕ) (names before : List ℕ → Bool) → InWrong u text at groups names before → Passed text at more (c ∷ []) →
    piece u c (behind text more) ≡ None → (all : List (List ℕ)) → ((w : List ℕ) → names w ≡ has all w) → None ≡ first_wrong groups all [] (pieces_of u (chars text))
wrong_none u text at more c groups names before h one e all n = sym (h.same all n ∙ ap (λ ps. first_wrong groups all h.earlier ps) (no_piece u text at more c one e))
