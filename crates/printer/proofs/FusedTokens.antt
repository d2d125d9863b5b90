-- The text of bits, and that of bits whose tokens stand side by side as one.
use Rattle.std.proofs.Common.{◌≡◌, ◌<◌, ℕ, zero, suc, Bool, cond, List, [], ◌∷◌, ◌++◌, length, get_or, map, refl, sym, ap, ◌∙◌, subst, append_assoc, arith}
use Rattle.std.specs.Prelude.{codes}
use Rattle.std.proofs.lemmas.List.{length-map}
use Rattle.language.specs.Layout.{indent}
use Rattle.printer.specs.declared.fragments.Fragment.{Fragment}
use Rattle.printer.specs.declared.fragments.Fragment.TheVariants as own
use Rattle.printer.specs.Bits.{Bit, token, own_text, newline, feeding, loosely, chunk, hashed, bit_of, bits_of, glued, fused}
use Rattle.printer.specs.Sheets.{View, Writes, chunk_text, piece_text, pieces_text}

abbrev pub bit_text : List ℕ → ℕ → Bool → Bit → List ℕ
bit_text w d b (token v) = v
bit_text w d b own_text = w
bit_text w d b newline = 10 ∷ indent d
bit_text w d b feeding = codes "\n"
bit_text w d b loosely = cond b (codes " ") []
bit_text w d b (chunk x y) = chunk_text x y w
bit_text w d b hashed = codes "#" ++ w

abbrev pub bits_text : List ℕ → ℕ → Bool → List Bit → List ℕ
bits_text w d b [] = []
bits_text w d b (x ∷ xs) = bit_text w d b x ++ bits_text w d b xs

module _ (w : List ℕ) (d : ℕ) (b : Bool) where
  piece_bit : (p : Fragment) → piece_text w d b p ≡ bit_text w d b (bit_of p)
  piece_bit (own.Token s) = refl
  piece_bit _ = refl

  pieces_bits : (ps : List Fragment) → pieces_text w d b ps ≡ bits_text w d b (bits_of ps)
  pieces_bits [] = refl
  pieces_bits (p ∷ ps) = λ i. piece_bit p i ++ pieces_bits ps i

  glued_text : (v : List ℕ) (bs : List Bit) → bits_text w d b (glued v bs) ≡ v ++ bits_text w d b bs
  glued_text v [] = refl
  glued_text v (token u ∷ bs) = append_assoc v u (bits_text w d b bs)
  glued_text v (_ ∷ bs) = refl

  fused_text : (bs : List Bit) → bits_text w d b (fused bs) ≡ bits_text w d b bs
  fused_text [] = refl
  fused_text (token v ∷ bs) = glued_text v (fused bs) ∙ ap (λ t. v ++ t) (fused_text bs)
  fused_text (own_text ∷ bs) = ap (λ t. w ++ t) (fused_text bs)
  fused_text (newline ∷ bs) = ap (λ t. (10 ∷ indent d) ++ t) (fused_text bs)
  fused_text (feeding ∷ bs) = ap (λ t. codes "\n" ++ t) (fused_text bs)
  fused_text (loosely ∷ bs) = ap (λ t. cond b (codes " ") [] ++ t) (fused_text bs)
  fused_text (chunk x y ∷ bs) = ap (λ t. chunk_text x y w ++ t) (fused_text bs)
  fused_text (hashed ∷ bs) = ap (λ t. (codes "#" ++ w) ++ t) (fused_text bs)

  -- what was written of pieces, as the text of these bits
  pub written_bits : {u v : View} (ps : List Fragment) (bs : List Bit) → bits_of ps ≡ fused bs → Writes u v (pieces_text w d b ps) → Writes u v (bits_text w d b bs)
  written_bits {u} {v} ps bs e p = subst (Writes u v) (pieces_bits ps ∙ ap (bits_text w d b) e ∙ fused_text bs) p

-- elements of lists that are alike behind two maps

pub map_length : {X Y Z : Type 0} (f : X → Z) (g : Y → Z) (xs : List X) (ys : List Y) → map f xs ≡ map g ys → length xs ≡ length ys
map_length f g xs ys e = sym (length-map xs f) ∙ ap length e ∙ length-map ys g

pub map_at : {X Y Z : Type 0} (f : X → Z) (g : Y → Z) (xs : List X) (ys : List Y) (i : ℕ) (x : X) (y : Y) → map f xs ≡ map g ys → i < length xs → f (get_or xs i x) ≡ g (get_or ys i y)
map_at f g [] ys i x y e h = absurd (omega (arith, h))
map_at f g (a ∷ xs) [] i x y e h = let n = map_length f g (a ∷ xs) [] e in absurd (omega (arith, n))
map_at f g (a ∷ xs) (c ∷ ys) zero x y e h = ap (λ t. get_or t 0 (f a)) e
map_at f g (a ∷ xs) (c ∷ ys) (suc i) x y e h = map_at f g xs ys i x y (ap (Rattle.std.specs.Prelude.drop 1) e) (omega (arith, h))
