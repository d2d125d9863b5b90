-- One more character is shown behind others.
use Rattle.std.proofs.Common.{◌≡◌, ◌<◌, ◌+◌, ℕ, suc, Bool, List, [], ◌∷◌, ◌++◌, flat_map, length, slice_index_or, take, sym, ap, ◌∙◌, append_assoc, arith}
use Rattle.std.specs.Prelude.{encode_utf8_all}
use Rattle.std.proofs.lemmas.List.{flat_map_more}
use Rattle.std.proofs.lemmas.List.Concat.{flat_map-append}
use Rattle.std.proofs.lemmas.Str.{encodes-append}
use Rattle.std.proofs.Math.Seq.{take-suc}
use Rattle.command_line.specs.Shown.{shown, shown_byte, within_line}

one_more : (f : ℕ → List ℕ) (xs : List ℕ) (c : ℕ) → encode_utf8_all (flat_map f xs) ++ encode_utf8_all (f c) ≡ encode_utf8_all (flat_map f (xs ++ c ∷ []))
one_more f xs c = sym (encodes-append (flat_map f xs) (f c)) ∙ ap encode_utf8_all (flat_map_more f [] xs c)

pub within_line_more : (xs : List ℕ) (c : ℕ) → encode_utf8_all (flat_map within_line xs) ++ encode_utf8_all (within_line c) ≡ encode_utf8_all (flat_map within_line (xs ++ c ∷ []))
within_line_more = one_more within_line

-- behind a text, what one more character shows as
pub shown_more : (has_lines : Bool) (start xs : List ℕ) (c : ℕ)
    → start ++ encode_utf8_all (flat_map (shown has_lines) (xs ++ c ∷ [])) ≡ (start ++ encode_utf8_all (flat_map (shown has_lines) xs)) ++ encode_utf8_all (shown has_lines c)
shown_more has_lines start xs c =
    ap (λ t. start ++ t) (sym (one_more (shown has_lines) xs c)) ∙ sym (append_assoc start (encode_utf8_all (flat_map (shown has_lines) xs)) (encode_utf8_all (shown has_lines c)))

-- the characters so far, and the rest of them
pub shown_rest : (has_lines : Bool) (start all xs ys : List ℕ) → all ≡ xs ++ ys
    → start ++ encode_utf8_all (flat_map (shown has_lines) all) ≡ (start ++ encode_utf8_all (flat_map (shown has_lines) xs)) ++ encode_utf8_all (flat_map (shown has_lines) ys)
shown_rest has_lines start all xs ys e =
    ap (λ cs. start ++ encode_utf8_all (flat_map (shown has_lines) cs)) e
    ∙ ap (λ cs. start ++ encode_utf8_all cs) (flat_map-append (shown has_lines) xs ys)
    ∙ ap (λ t. start ++ t) (encodes-append (flat_map (shown has_lines) xs) (flat_map (shown has_lines) ys))
    ∙ sym (append_assoc start (encode_utf8_all (flat_map (shown has_lines) xs)) (encode_utf8_all (flat_map (shown has_lines) ys)))

-- one more byte is shown
pub byte_more : (name : List ℕ) (i : ℕ) → i < length name → flat_map shown_byte (take i name) ++ shown_byte (slice_index_or name i 0) ≡ flat_map shown_byte (take (i + 1) name)
byte_more name i low =
    let next : suc i ≡ i + 1 = omega arith in
    flat_map_more shown_byte [] (take i name) (slice_index_or name i 0) ∙ ap (flat_map shown_byte) (sym (take-suc name i 0 low)) ∙ ap (λ k. flat_map shown_byte (take k name)) next
