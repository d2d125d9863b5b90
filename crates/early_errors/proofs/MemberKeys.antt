-- Keys of members.
use Rattle.std.proofs.Common.{◌≡◌, ℕ, Bool, true, false, not, cond, List, [], Option, None, refl, sym, ap, ◌∙◌}
use Rattle.std.specs.Prelude.{◌&&◌, ◌||◌}
use Rattle.std.specs.Str.{bytes_eq, chars}
use Rattle.tree.specs.Tree.{Tree, Parts, none, part, gap, kind_of, text_of, part_at}
use Rattle.tree.specs.Uses.{is_init}
use Rattle.language.specs.Expressions.{value_form}
use Rattle.language.specs.Vocabulary.{is_private}
use Rattle.language.specs.Statements.{is_string_literal}
use Rattle.tokens.specs.Strings.{string_units}
use Rattle.early_errors.specs.Keys.{key_units, key_value}
use Rattle.early_errors.specs.Classes.{key_places, has_key}
use Rattle.early_errors.specs.Names.{when}
use Rattle.early_errors.specs.Owns.{form_at, key_says, places_at}
use Rattle.early_errors.proofs.Points.{points_are_chars}

pub plain_key : (t : Tree) (w v : List ℕ) (b : Bool) → b ≡ is_string_literal (kind_of t) (text_of t) → b ≡ false → w ≡ text_of t → bytes_eq w v ≡ bytes_eq (key_value t) v
plain_key t w v b e f g = ap (λ x. bytes_eq x v) (g ∙ ap (λ x. cond x (key_units (text_of t)) (text_of t)) (sym f ∙ e))

pub quoted_key : (t : Tree) (u w v : List ℕ) (b : Bool) → b ≡ is_string_literal (kind_of t) (text_of t) → b ≡ true → w ≡ text_of t → u ≡ string_units (chars w) → bytes_eq u v ≡ bytes_eq (key_value t) v
quoted_key t u w v b e f g h =
    ap (λ x. bytes_eq x v) (h ∙ ap string_units (ap chars g ∙ sym (points_are_chars (text_of t))) ∙ ap (λ x. cond x (key_units (text_of t)) (text_of t)) (sym f ∙ e))

pub key-says : (ps : Parts) (p : Tree → Bool) (o : Option Tree) (w : List ℕ) → o ≡ part_at ps 0 → ((t : Tree) → p t ≡ (not (is_private (kind_of t)) && bytes_eq (key_value t) w)) → key_says o w ≡ has_key ps p
key-says none p o w e h = ap (λ x. key_says x w) e
key-says (part t ps) p o w e h = ap (λ x. key_says x w) e ∙ sym (h t)
key-says (gap ps) p o w e h = ap (λ x. key_says x w) e

pub key-places : (ps : Parts) (o : Option Tree) → o ≡ part_at ps 0 → places_at o ≡ key_places ps
key-places none o e = ap places_at e
key-places (part t ps) o e = ap places_at e
key-places (gap ps) o e = ap places_at e

nowhere : (b c : Bool) (k : Option Tree) → k ≡ None → when b (places_at k) ≡ when c []
nowhere true true k e = ap places_at e
nowhere true false k e = ap places_at e
nowhere false true k e = refl
nowhere false false k e = refl

-- of a method with a key, whose function is its second part
pub special-places : (ps : Parts) (k v : Option Tree) (a s c : Bool) → k ≡ part_at ps 0 → v ≡ part_at ps 1 →
    when (((a || form_at v) && s) && c) (places_at k) ≡ when (((a || not (is_init (value_form ps))) && s) && c) (key_places ps)
special-places none k v a s c e h = nowhere (((a || form_at v) && s) && c) (((a || false) && s) && c) k e
special-places (gap ps) k v a s c e h = nowhere (((a || form_at v) && s) && c) (((a || false) && s) && c) k e
special-places (part t none) k v a s c e h = λ i. when (((a || form_at (h i)) && s) && c) (places_at (e i))
special-places (part t (part u ps)) k v a s c e h = λ i. when (((a || form_at (h i)) && s) && c) (places_at (e i))
special-places (part t (gap ps)) k v a s c e h = λ i. when (((a || form_at (h i)) && s) && c) (places_at (e i))
