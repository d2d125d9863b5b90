-- Words that are put together piece by piece.
use Rattle.std.proofs.Common.{◌≡◌, ◌++◌, ℕ, List, sym, ap, ◌∙◌, append_assoc, refl}

pub one_piece : (start end a words : List ℕ) → end ≡ start ++ a → words ≡ a → end ≡ start ++ words
one_piece start end a words p e = p ∙ ap (λ x. start ++ x) (sym e)

pub two_pieces : (start mid end a b words : List ℕ) → mid ≡ start ++ a → end ≡ mid ++ b → words ≡ a ++ b → end ≡ start ++ words
two_pieces start mid end a b words p q e = one_piece start end (a ++ b) words (q ∙ ap (λ l. l ++ b) p ∙ append_assoc start a b) e

pub three_pieces : (start mid low end a b c words : List ℕ) → mid ≡ start ++ a → low ≡ mid ++ b → end ≡ low ++ c → words ≡ a ++ b ++ c → end ≡ start ++ words
three_pieces start mid low end a b c words p q r e =
    two_pieces start low end (a ++ b) c words (two_pieces start mid low a b (a ++ b) p q refl) r e

pub four_pieces : (start mid low top end a b c d words : List ℕ)
    → mid ≡ start ++ a → low ≡ mid ++ b → top ≡ low ++ c → end ≡ top ++ d → words ≡ a ++ b ++ c ++ d → end ≡ start ++ words
four_pieces start mid low top end a b c d words p q r s e =
    two_pieces start top end (a ++ b ++ c) d words (three_pieces start mid low top a b c (a ++ b ++ c) p q r refl) s e
