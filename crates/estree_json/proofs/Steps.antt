-- What the texts of literals, templates and regular expressions come to.
use Rattle.std.proofs.Common.{◌≡◌, ℕ, Bool, true, false, not, List, Option, Some, None, Result, IfOk, option_map, bytes_eq, refl, subst, sym, ap, ◌∙◌, codes}
use Rattle.std.proofs.lemmas.Bool.{false≢true}
use Rattle.std.specs.Prelude.{if◌then◌else◌}
use Rattle.std.specs.Str.{chars}
use Rattle.std.specs.declared.alloc.AllocError.{AllocError}
use Rattle.serde_json.specs.Data.{Data, null, boolean, string, object, Members, member, no_members, put}
use Rattle.tokens.specs.Strings.{string_units}
use Rattle.tokens.specs.Templates.{cooked_value}
use Rattle.estree_json.specs.Texts.{with_cooked, is_quoted, text_of_units, literal_value, before_slash, after_slash, regex_of, cooked_of_units, template_value}
use Rattle.estree_json.specs.Table.{option_put}
use Rattle.estree_json.specs.Primitives.{data_of}
use Rattle.estree_json.specs.declared.texts.Primitive.{Primitive}

pub is_set : (b : Bool) → not b ≡ false → b ≡ true
is_set true e = refl
is_set false e = absurd (false≢true (sym e))

-- the members of a regular expression and of a template's part, one after the other
pub regex_made : (rest pattern flags : List ℕ) (a b c : Members) (d : Data) → a ≡ no_members
    → b ≡ put (codes "flags") (string flags) a → c ≡ put (codes "pattern") (string pattern) b → d ≡ object c
    → pattern ≡ before_slash rest → flags ≡ after_slash rest → d ≡ regex_of rest
regex_made rest pattern flags a b c d e f g h i j = h ∙ rw (g, f, e, i, j)

cooked_first : (cooked : Option Data) (raw : List ℕ) → put (codes "raw") (string raw) (option_put (codes "cooked") cooked no_members) ≡ with_cooked cooked (member (codes "raw") (string raw) no_members)
cooked_first None raw = refl
cooked_first (Some d) raw = refl

pub template_made : (raw : List ℕ) (cooked : Option Data) (a b c : Members) (d : Data) → a ≡ no_members
    → b ≡ option_put (codes "cooked") cooked a → c ≡ put (codes "raw") (string raw) b → d ≡ object c
    → cooked ≡ cooked_of_units (cooked_value (chars raw)) → d ≡ template_value raw
template_made raw cooked a b c d e f g h i =
    let made : c ≡ put (codes "raw") (string raw) (option_put (codes "cooked") cooked no_members) =
    g ∙ ap (put (codes "raw") (string raw)) (f ∙ ap (option_put (codes "cooked") cooked) e) in
    h ∙ ap object (made ∙ cooked_first cooked raw) ∙ ap (λ c. object (with_cooked c (member (codes "raw") (string raw) no_members))) i

-- the value of a literal: of a string, and of a word
pub value_as : (r : Result (Option Primitive) AllocError) (x y : Option Data) → x ≡ y → IfOk r (λ o. option_map data_of o ≡ x) → IfOk r (λ o. option_map data_of o ≡ y)
value_as r x y e h = let P : Option Data → Type 0 = λ d. IfOk r (λ o. option_map data_of o ≡ d) in subst P e h

pub string_meant : (w units bytes : List ℕ) (q : Bool) → q ≡ is_quoted w → q ≡ true → bytes ≡ units → units ≡ string_units (chars w) → text_of_units bytes ≡ literal_value w
string_meant w units bytes q h k e f = let quoted : is_quoted w ≡ true = sym h ∙ k in rw (e, f, quoted)

pub true_meant : (w : List ℕ) (q t : Bool) → q ≡ is_quoted w → q ≡ false → t ≡ bytes_eq w (codes "true") → t ≡ true → Some (boolean true) ≡ literal_value w
true_meant w q t h e i k =
    let bare : is_quoted w ≡ false = sym h ∙ e in
    let first : bytes_eq w (codes "true") ≡ true = sym i ∙ k in
    rw (bare, first)

pub false_meant : (w : List ℕ) (q t f : Bool) → q ≡ is_quoted w → q ≡ false → t ≡ bytes_eq w (codes "true") → t ≡ false → f ≡ bytes_eq w (codes "false") → f ≡ true
    → Some (boolean false) ≡ literal_value w
false_meant w q t f h e i other j k =
    let bare : is_quoted w ≡ false = sym h ∙ e in
    let first : bytes_eq w (codes "true") ≡ false = sym i ∙ other in
    let second : bytes_eq w (codes "false") ≡ true = sym j ∙ k in
    rw (bare, first, second)

-- no string, `true` or `false`
pub others : (w : List ℕ) (q t f : Bool) → q ≡ is_quoted w → q ≡ false → t ≡ bytes_eq w (codes "true") → t ≡ false → f ≡ bytes_eq w (codes "false") → f ≡ false
    → literal_value w ≡ (if bytes_eq w (codes "null") then Some null else None)
others w q t f h e i other j another =
    let bare : is_quoted w ≡ false = sym h ∙ e in
    let first : bytes_eq w (codes "true") ≡ false = sym i ∙ other in
    let second : bytes_eq w (codes "false") ≡ false = sym j ∙ another in
    rw (bare, first, second)

pub null_meant : (w : List ℕ) (n : Bool) → literal_value w ≡ (if bytes_eq w (codes "null") then Some null else None) → n ≡ bytes_eq w (codes "null") → n ≡ true → Some null ≡ literal_value w
null_meant w n e h k = let word : bytes_eq w (codes "null") ≡ true = sym h ∙ k in sym (e ∙ rw word)

pub none_meant : (w : List ℕ) (n : Bool) → literal_value w ≡ (if bytes_eq w (codes "null") then Some null else None) → n ≡ bytes_eq w (codes "null") → n ≡ false → None ≡ literal_value w
none_meant w n e h k = let other : bytes_eq w (codes "null") ≡ false = sym h ∙ k in sym (e ∙ rw other)
