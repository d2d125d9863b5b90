-- Lists of places that are as long as others.
use Rattle.std.proofs.Common.{◌≡◌, ℕ, zero, suc, Bool, true, false, List, [], ◌∷◌, ◌++◌, refl, sym, ap, ◌∙◌, length}
use Rattle.std.specs.Prelude.{◌&&◌, not}
use Rattle.std.specs.Str.{bytes_eq}
use Rattle.tree.specs.Tree.{Tree, node, Parts, none, part, gap, bare, bare_parts, text_of}
use Rattle.language.specs.FirstPart.{lead, others}
use Rattle.name_tables.specs.BoundNames.{each_part}
use Rattle.early_errors.specs.Names.{when}
use Rattle.early_errors.specs.Classes.{has_key}
use Rattle.early_errors.proofs.Words.{others-bare}

-- as many
abbrev pub Even : List ℕ → List ℕ → Type 0
Even xs ys = length xs ≡ length ys

pub one : (b : Bool) (x y : ℕ) → Even (when b (x ∷ [])) (when b (y ∷ []))
one true x y = refl
one false x y = refl

pub once : (b c : Bool) (x y : ℕ) → b ≡ c → Even (when b (x ∷ [])) (when c (y ∷ []))
once b c x y e = ap (λ d. length (when d (x ∷ []))) e ∙ one c x y

pub even-when : (b : Bool) (xs ys : List ℕ) → Even xs ys → Even (when b xs) (when b ys)
even-when true xs ys e = e
even-when false xs ys e = refl

pub even-both : (b c : Bool) (xs ys : List ℕ) → b ≡ c → Even xs ys → Even (when b xs) (when c ys)
even-both b c xs ys e f = ap (λ d. length (when d xs)) e ∙ even-when c xs ys f

abbrev plus : ℕ → ℕ → ℕ
plus zero m = m
plus (suc n) m = suc (plus n m)

sum : (xs ys : List ℕ) → length (xs ++ ys) ≡ plus (length xs) (length ys)
sum [] ys = refl
sum (x ∷ xs) ys = ap suc (sum xs ys)

pub even-append : (xs xs' ys ys' : List ℕ) → Even xs xs' → Even ys ys' → Even (xs ++ ys) (xs' ++ ys')
even-append xs xs' ys ys' e f = sum xs ys ∙ (λ i. plus (e i) (f i)) ∙ sym (sum xs' ys')

pub even-each : (f : Tree → List ℕ) → ((n : Tree) → Even (f (bare n)) (f n)) → (ps : Parts) → Even (each_part f (bare_parts ps)) (each_part f ps)
even-each f h none = refl
even-each f h (part n ps) = even-append (f (bare n)) (f n) (each_part f (bare_parts ps)) (each_part f ps) (h n) (even-each f h ps)
even-each f h (gap ps) = even-each f h ps

pub behind : (ps : Parts) → others (others (bare_parts ps)) ≡ bare_parts (others (others ps))
behind ps = ap others (others-bare ps) ∙ others-bare (others ps)

pub lead-bare : (ps : Parts) → lead (bare_parts ps) ≡ lead ps
lead-bare none = refl
lead-bare (part (node k w g s e qs) ps) = refl
lead-bare (gap ps) = refl

pub text-bare : (n : Tree) → text_of (bare n) ≡ text_of n
text-bare (node k w g s e ps) = refl

pub has_key-bare : (p : Tree → Bool) → ((n : Tree) → p (bare n) ≡ p n) → (ps : Parts) → has_key (bare_parts ps) p ≡ has_key ps p
has_key-bare p h none = refl
has_key-bare p h (part n ps) = h n
has_key-bare p h (gap ps) = refl

-- a first part with a word, where something doesn't hold
pub worded-bare : (v : List ℕ) (b : Bool) (ps : Parts) (s : ℕ) →
    Even (when (has_key (bare_parts ps) (λ n. bytes_eq (text_of n) v) && not b) (0 ∷ [])) (when (has_key ps (λ n. bytes_eq (text_of n) v) && not b) (s ∷ []))
worded-bare v b ps s =
    let p : Tree → Bool = λ n. bytes_eq (text_of n) v in
    once (has_key (bare_parts ps) p && not b) (has_key ps p && not b) 0 s (ap (λ x. x && not b) (has_key-bare p (λ n. ap (λ w. bytes_eq w v) (text-bare n)) ps))
