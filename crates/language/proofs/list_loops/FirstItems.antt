-- Lists by their first item: what spells a list is the closing token, or an item and the rest; and both make a list.
use Rattle.std.proofs.Common.{◌≡◌, ℕ, Bool, true, false, cond, List, [], ◌∷◌, ◌++◌, refl, sym, ap, ◌∙◌, subst, append_assoc}
use Rattle.std.specs.Prelude.{Option, Some, None, codes}
use Rattle.std.proofs.lemmas.List.{append-nil}
use Rattle.tokens.specs.declared.token.TokenClass.TheVariants.{Punctuator}
use Rattle.tree.specs.declared.kind.Kind.{Kind}
use Rattle.tree.specs.declared.kind.Kind.TheVariants.{Property, SpreadElement, RestElement}
use Rattle.language.specs.declared.Rank.{Rank}
use Rattle.language.specs.declared.Start.{Start}
use Rattle.language.specs.declared.Rank.TheVariants.{Expression, Assignment}
use Rattle.language.specs.declared.Start.TheVariants.{Any}
use Rattle.tree.specs.declared.kind.Pair.{Pair}
use Rattle.tree.specs.Tree.{Tree, node, Parts, none, part, gap, kind_of, bare_parts}
use Rattle.language.specs.Vocabulary.{is_rest, is_spread}
use Rattle.language.specs.Pieces.{Role, expr, spread, property, pattern_property, rest, template_element, Piece, PieceOf, tok, may, sp, sign, put_at, nothing, is_none, separator, listed, elements, parameters, with_default, settle_piece}
use Rattle.language.specs.Token.{Token}
use Rattle.language.specs.Expressions.{object_part, object_pattern_part, template_elements}
use Rattle.language.specs.Grammar.{ways}
use Rattle.language.specs.Derivation.{Reads, Spells, Runs, done, step, within, token, with_mark, without_mark, laid}
use Rattle.language.proofs.table.Begins.{goes_to, retell}
use Rattle.language.proofs.list_loops.FirstPieces.{ATrailing, run_none, run_token, run_laid, run_may, with_it, without_it, run_never, run_the_part, run_the_gap}
use Rattle.language.proofs.climbing.Commas.{comma_pieces}

-- the position of an argument, of a part of an object, of a parameter or an element of a pattern, of a part of an object pattern: by its kind
abbrev pub argument_role : Kind → Option Role
argument_role k = Some (cond (is_spread k) spread (expr Assignment true Any))

abbrev pub object_role : Kind → Option Role
object_role SpreadElement = Some spread
object_role Property = Some property
object_role _ = None

abbrev pub element_role : Bool → Kind → Option Role
element_role b k = cond (is_rest k) (Some (rest b false)) (with_default b k)

abbrev pub object_pattern_role : Bool → Kind → Option Role
object_pattern_role b RestElement = Some (rest b true)
object_pattern_role b Property = Some (pattern_property b)
object_pattern_role b _ = None

abbrev pub item_piece : (Kind → Option Role) → Tree → Piece
item_piece r n = put_at (r (kind_of n))

-- items with commas between them, and the closing token
abbrev pub list_pieces : (Kind → Option Role) → List ℕ → Parts → List (PieceOf Role)
list_pieces r w ps = goes_to Expression true Any (listed (item_piece r) (bare_parts ps) ++ tok Punctuator w ∷ [])

-- items and holes with commas between them, and the closing token
abbrev pub element_pieces : (Kind → Option Role) → List ℕ → Parts → List (PieceOf Role)
element_pieces r w ps = goes_to Expression true Any (elements (item_piece r) (bare_parts ps) ++ tok Punctuator w ∷ [])

-- parameters, then what closes them and the body
abbrev pub parameter_pieces : Rank → Bool → Start → List Piece → Parts → List (PieceOf Role)
parameter_pieces y i f after ps = goes_to y i f (parameters after (bare_parts ps))

-- the parts of a template, from the first or from a later one
abbrev pub chunk_pieces : Bool → Parts → List (PieceOf Role)
chunk_pieces b ps = goes_to Expression true Any (template_elements b (bare_parts ps))

object_same : (k : Kind) (n : Tree) → kind_of n ≡ k → object_part n ≡ item_piece object_role n
object_same k (node SpreadElement w g st en ps) h = refl
object_same k (node Property w g st en ps) h = refl
object_same k (node _ w g st en ps) h = refl

pattern_same : (b : Bool) (n : Tree) → object_pattern_part b n ≡ item_piece (object_pattern_role b) n
pattern_same b (node RestElement w g st en ps) = refl
pattern_same b (node Property w g st en ps) = refl
pattern_same b (node _ w g st en ps) = refl

-- the parts of an object, and of an object pattern, are such lists
pub object_pieces : (ps : Parts) → listed object_part ps ≡ listed (item_piece object_role) ps
object_pieces ps = λ i. listed (λ n. object_same (kind_of n) n refl i) ps

-- the parts of an object pattern are such a list
pub object_pattern_pieces : (b : Bool) (ps : Parts) → listed (object_pattern_part b) ps ≡ listed (item_piece (object_pattern_role b)) ps
object_pattern_pieces b ps = λ i. listed (λ n. pattern_same b n i) ps

module _ (S : Type 0) (Next : S → Token → S → Type 0) (behind : S → Token) where
  -- what spells a list, by its first item: the closing token; an item and the closing token, perhaps with a comma between them; or an
  -- item, a comma and a list that isn't empty
  pub data ListForm (o : ℕ) (r : Kind → Option Role) (w : List ℕ) (s e : S) (P : List Pair) : Parts → Type 0 where
    no_item : {t : Token} → Reads S Next behind Punctuator w s t e → P ≡ [] → ListForm o r w s e P none
    last_item : {a : Role} {n : Tree} {m : S} {t : Token} → r (kind_of n) ≡ Some a → Spells ways S Next behind o a n s m P → Reads S Next behind Punctuator w m t e → ListForm o r w s e P (part n none)
    trailing : {a : Role} {n : Tree} {m k : S} {c t : Token} → r (kind_of n) ≡ Some a → is_rest (kind_of n) ≡ false → Spells ways S Next behind o a n s m P → Reads S Next behind Punctuator (codes ",") m c k → Reads S Next behind Punctuator w k t e →
        ListForm o r w s e P (part n none)
    more_items : {a : Role} {n : Tree} {ps : Parts} {m k : S} {c : Token} {Q R : List Pair} → r (kind_of n) ≡ Some a → is_rest (kind_of n) ≡ false → is_none ps ≡ false → Spells ways S Next behind o a n s m Q →
        Reads S Next behind Punctuator (codes ",") m c k → Runs ways S Next behind o (list_pieces r w ps) ps k e R → P ≡ Q ++ R → ListForm o r w s e P (part n ps)

  -- the closing token alone
  record Closes (w : List ℕ) (ps : Parts) (s e : S) (P : List Pair) : Type 0 where
    sign : Token
    reads : Reads S Next behind Punctuator w s sign e
    parts : ps ≡ none
    pairs : P ≡ []

  closes : {o : ℕ} {w : List ℕ} {ps : Parts} {s e : S} {P : List Pair} → Runs ways S Next behind o (tok Punctuator w ∷ []) ps s e P → Closes w ps s e P
  closes {w = w} {s = s} d = let c = run_token S Next behind d in let z = run_none S Next behind c.runs in
      record { sign = c.sign; reads = subst (λ v. Reads S Next behind Punctuator w s c.sign v) z.place c.reads; parts = z.parts; pairs = z.pairs }

  no_pairs : {P Q R : List Pair} → P ≡ Q ++ R → R ≡ [] → P ≡ Q
  no_pairs {Q = Q} h k = h ∙ ap (λ v. Q ++ v) k ∙ append-nil Q

  -- an item at the position of its kind, and what follows it
  record ItemOf (o : ℕ) (r : Kind → Option Role) (qs : List (PieceOf Role)) (n : Tree) (ps : Parts) (s e : S) (P : List Pair) : Type 0 where
    role : Role
    is : r (kind_of n) ≡ Some role
    mid : S
    one : List Pair
    more : List Pair
    pairs : P ≡ one ++ more
    spelled : Spells ways S Next behind o role n s mid one
    runs : Runs ways S Next behind o qs ps mid e more

  -- behind the last item: perhaps a comma, but not behind a rest
  pub data BehindLast (o : ℕ) (b : Bool) (qs : List (PieceOf Role)) (ps : Parts) (s e : S) (P : List Pair) : Type 0 where
    alone : Runs ways S Next behind o qs ps s e P → BehindLast o b qs ps s e P
    and_comma : {c : Token} {m : S} → b ≡ false → Reads S Next behind Punctuator (codes ",") s c m → Runs ways S Next behind o qs ps m e P → BehindLast o b qs ps s e P

  -- behind an item that isn't the last: a comma, but nothing stands behind a rest
  record BehindItem (o : ℕ) (b : Bool) (qs : List (PieceOf Role)) (ps : Parts) (s e : S) (P : List Pair) : Type 0 where
    no_rest : b ≡ false
    sign : Token
    mid : S
    comma : Reads S Next behind Punctuator (codes ",") s sign mid
    runs : Runs ways S Next behind o qs ps mid e P

  module _ (y : Rank) (i : Bool) (f : Start) where
    item_of : {o : ℕ} (r : Kind → Option Role) {qs : List (PieceOf Role)} (n : Tree) {ps : Parts} {s e : S} {P : List Pair} (x : Option Role) → r (kind_of n) ≡ x →
        Runs ways S Next behind o (settle_piece y i f (put_at x) ∷ qs) (part n ps) s e P → ItemOf o r qs n ps s e P
    item_of r n None h d = absurd (run_never S Next behind d)
    item_of r n (Some a) h d = let p = run_the_part S Next behind d in record { role = a; is = h; mid = p.mid; one = p.one; more = p.more; pairs = p.pairs; spelled = p.spelled; runs = p.runs }

    -- an item and what follows it
    item_runs : {o : ℕ} {a : Role} {qs : List (PieceOf Role)} {n : Tree} {ps : Parts} {s m e : S} {P Q : List Pair} (x : Option Role) → x ≡ Some a → Spells ways S Next behind o a n s m P → Runs ways S Next behind o qs ps m e Q →
        Runs ways S Next behind o (settle_piece y i f (put_at x) ∷ qs) (part n ps) s e (P ++ Q)
    item_runs None h p d = cc
    item_runs {o} {a} {n = n} {s = s} {m = m} {P = P} (Some b) h p d = let same : a ≡ b = cc in within (subst (λ v. Spells ways S Next behind o v n s m P) same p) d

    behind_last : {o : ℕ} (b : Bool) (qs : List Piece) {ps : Parts} {s e : S} {P : List Pair} → Runs ways S Next behind o (goes_to y i f (cond b [] (may (codes ",") ∷ []) ++ qs)) ps s e P → BehindLast o b (goes_to y i f qs) ps s e P
    behind_last true qs d = alone d
    behind_last {o} false qs {ps} {s} {e} {P} d = of (run_may S Next behind d)
      where
        of : ATrailing S Next behind o (codes ",") (goes_to y i f qs) ps s e P → BehindLast o false (goes_to y i f qs) ps s e P
        of (with_it x d) = and_comma refl x d
        of (without_it d) = alone d

    last_behind : {o : ℕ} (b : Bool) (qs : List Piece) {ps : Parts} {s e : S} {P : List Pair} → BehindLast o b (goes_to y i f qs) ps s e P → Runs ways S Next behind o (goes_to y i f (cond b [] (may (codes ",") ∷ []) ++ qs)) ps s e P
    last_behind true qs (alone d) = d
    last_behind false qs (alone d) = step without_mark d
    last_behind true qs (and_comma h x d) = cc
    last_behind false qs (and_comma h x d) = step (with_mark x) d

    behind_item : {o : ℕ} (b : Bool) (qs : List Piece) {ps : Parts} {s e : S} {P : List Pair} → Runs ways S Next behind o (goes_to y i f (cond b nothing (sign "," ∷ sp ∷ []) ++ qs)) ps s e P → BehindItem o b (goes_to y i f qs) ps s e P
    behind_item true qs d = absurd (run_never S Next behind d)
    behind_item false qs d = let c = run_token S Next behind d in record { no_rest = refl; sign = c.sign; mid = c.mid; comma = c.reads; runs = run_laid S Next behind c.runs }

    item_behind : {o : ℕ} (b : Bool) (qs : List Piece) {ps : Parts} {s m e : S} {c : Token} {P : List Pair} → b ≡ false → Reads S Next behind Punctuator (codes ",") s c m → Runs ways S Next behind o (goes_to y i f qs) ps m e P →
        Runs ways S Next behind o (goes_to y i f (cond b nothing (sign "," ∷ sp ∷ []) ++ qs)) ps s e P
    item_behind true qs h x d = cc
    item_behind false qs h x d = step (token x) (step laid d)

  joined : {o : ℕ} (xs ys zs : List Piece) {ps : Parts} {s e : S} {P : List Pair} → Runs ways S Next behind o (goes_to Expression true Any ((xs ++ ys) ++ zs)) ps s e P → Runs ways S Next behind o (goes_to Expression true Any (xs ++ (ys ++ zs))) ps s e P
  joined xs ys zs d = retell S Next behind (ap (goes_to Expression true Any) (append_assoc xs ys zs)) d

  unjoined : {o : ℕ} (xs ys zs : List Piece) {ps : Parts} {s e : S} {P : List Pair} → Runs ways S Next behind o (goes_to Expression true Any (xs ++ (ys ++ zs))) ps s e P → Runs ways S Next behind o (goes_to Expression true Any ((xs ++ ys) ++ zs)) ps s e P
  unjoined xs ys zs d = retell S Next behind (ap (goes_to Expression true Any) (sym (append_assoc xs ys zs))) d

  closing : {o : ℕ} {w : List ℕ} {t : Token} {s e : S} → Reads S Next behind Punctuator w s t e → Runs ways S Next behind o (tok Punctuator w ∷ []) none s e []
  closing h = step (token h) done

  module _ {o : ℕ} {r : Kind → Option Role} {w : List ℕ} where
    of_last : {s m e : S} {P Q R : List Pair} {a : Role} (n : Tree) → r (kind_of n) ≡ Some a → Spells ways S Next behind o a n s m Q → P ≡ Q ++ R → BehindLast o (is_rest (kind_of n)) (tok Punctuator w ∷ []) none m e R → ListForm o r w s e P (part n none)
    of_last {s} {m} {a = a} n h p z (alone d) = let c = closes d in last_item h (subst (λ q. Spells ways S Next behind o a n s m q) (sym (no_pairs z c.pairs)) p) c.reads
    of_last {s} {m} {a = a} n h p z (and_comma b x d) = let c = closes d in trailing h b (subst (λ q. Spells ways S Next behind o a n s m q) (sym (no_pairs z c.pairs)) p) x c.reads

  -- what runs over the pieces of a list is one of these
  pub list_form : {o : ℕ} {r : Kind → Option Role} {w : List ℕ} {s e : S} {P : List Pair} (ps : Parts) → Runs ways S Next behind o (list_pieces r w ps) ps s e P → ListForm o r w s e P ps
  list_form none d = let c = closes d in no_item c.reads c.pairs
  list_form (gap ps) d = absurd (run_never S Next behind d)
  list_form {r = r} {w = w} (part (node k v g st en qs) none) d =
      let p = item_of Expression true Any r (node k v g st en qs) (r k) refl d in
      of_last (node k v g st en qs) p.is p.spelled p.pairs (behind_last Expression true Any (is_rest k) (tok Punctuator w ∷ []) (joined (separator k true) [] (tok Punctuator w ∷ []) p.runs))
  list_form {r = r} {w = w} (part (node k v g st en qs) (gap ps)) d =
      let p = item_of Expression true Any r (node k v g st en qs) (r k) refl d in
      let b = behind_item Expression true Any (is_rest k) (listed (item_piece r) (bare_parts (gap ps)) ++ tok Punctuator w ∷ []) (joined (separator k false) (listed (item_piece r) (bare_parts (gap ps))) (tok Punctuator w ∷ []) p.runs) in
      absurd (run_never S Next behind b.runs)
  list_form {r = r} {w = w} (part (node k v g st en qs) (part m ps)) d =
      let p = item_of Expression true Any r (node k v g st en qs) (r k) refl d in
      let b = behind_item Expression true Any (is_rest k) (listed (item_piece r) (bare_parts (part m ps)) ++ tok Punctuator w ∷ []) (joined (separator k false) (listed (item_piece r) (bare_parts (part m ps))) (tok Punctuator w ∷ []) p.runs) in
      more_items p.is b.no_rest refl p.spelled b.comma b.runs p.pairs

  -- and each of them runs
  pub list_runs : {o : ℕ} {r : Kind → Option Role} {w : List ℕ} {s e : S} {P : List Pair} {ps : Parts} → ListForm o r w s e P ps → Runs ways S Next behind o (list_pieces r w ps) ps s e P
  list_runs {o} {r} {w} {s} {e} (no_item x z) = subst (λ v. Runs ways S Next behind o (tok Punctuator w ∷ []) none s e v) (sym z) (closing x)
  list_runs {o} {r} {w} {s} {e} {P} (last_item {n = node k v g st en qs} h p x) =
      subst (λ q. Runs ways S Next behind o (list_pieces r w (part (node k v g st en qs) none)) (part (node k v g st en qs) none) s e q) (append-nil P)
      (item_runs Expression true Any (r k) h p (unjoined (separator k true) [] (tok Punctuator w ∷ []) (last_behind Expression true Any (is_rest k) (tok Punctuator w ∷ []) (alone (closing x)))))
  list_runs {o} {r} {w} {s} {e} {P} (trailing {n = node k v g st en qs} h b p c x) =
      subst (λ q. Runs ways S Next behind o (list_pieces r w (part (node k v g st en qs) none)) (part (node k v g st en qs) none) s e q) (append-nil P)
      (item_runs Expression true Any (r k) h p (unjoined (separator k true) [] (tok Punctuator w ∷ []) (last_behind Expression true Any (is_rest k) (tok Punctuator w ∷ []) (and_comma b c (closing x)))))
  list_runs (more_items {n = node k v g st en qs} {ps = none} h b i p c d z) = cc
  list_runs {o} {r} {w} {s} {e} {P} (more_items {n = node k v g st en qs} {ps = gap ps} h b i p c d z) = absurd (run_never S Next behind d)
  list_runs {o} {r} {w} {s} {e} {P} (more_items {n = node k v g st en qs} {ps = part m ps} h b i p c d z) =
      subst (λ q. Runs ways S Next behind o (list_pieces r w (part (node k v g st en qs) (part m ps))) (part (node k v g st en qs) (part m ps)) s e q) (sym z)
      (item_runs Expression true Any (r k) h p (unjoined (separator k false) (listed (item_piece r) (bare_parts (part m ps))) (tok Punctuator w ∷ []) (item_behind Expression true Any (is_rest k) (listed (item_piece r) (bare_parts (part m ps)) ++ tok Punctuator w ∷ []) b c d)))

  -- What a list with holes begins with: each hole has a comma behind it.
  pub data ElementForm (o : ℕ) (r : Kind → Option Role) (w : List ℕ) (s e : S) (P : List Pair) : Parts → Type 0 where
    no_element : {t : Token} → Reads S Next behind Punctuator w s t e → P ≡ [] → ElementForm o r w s e P none
    a_hole : {ps : Parts} {k : S} {c : Token} → Reads S Next behind Punctuator (codes ",") s c k → Runs ways S Next behind o (element_pieces r w ps) ps k e P → ElementForm o r w s e P (gap ps)
    last_element : {a : Role} {n : Tree} {m : S} {Q R : List Pair} → r (kind_of n) ≡ Some a → Spells ways S Next behind o a n s m Q → BehindLast o (is_rest (kind_of n)) (tok Punctuator w ∷ []) none m e R → P ≡ Q ++ R → ElementForm o r w s e P (part n none)
    more_elements : {a : Role} {n : Tree} {ps : Parts} {m k : S} {c : Token} {Q R : List Pair} → r (kind_of n) ≡ Some a → is_rest (kind_of n) ≡ false → is_none ps ≡ false → Spells ways S Next behind o a n s m Q →
        Reads S Next behind Punctuator (codes ",") m c k → Runs ways S Next behind o (element_pieces r w ps) ps k e R → P ≡ Q ++ R → ElementForm o r w s e P (part n ps)

  hole_laid : {o : ℕ} (b : Bool) (xs ys : List Piece) {ps : Parts} {s e : S} {P : List Pair} → Runs ways S Next behind o (goes_to Expression true Any ((cond b [] (sp ∷ []) ++ xs) ++ ys)) ps s e P → Runs ways S Next behind o (goes_to Expression true Any (xs ++ ys)) ps s e P
  hole_laid true xs ys d = d
  hole_laid false xs ys d = run_laid S Next behind d

  -- what runs over the pieces of a list with holes is one of these
  pub element_form : {o : ℕ} {r : Kind → Option Role} {w : List ℕ} {s e : S} {P : List Pair} (ps : Parts) → Runs ways S Next behind o (element_pieces r w ps) ps s e P → ElementForm o r w s e P ps
  element_form none d = let c = closes d in no_element c.reads c.pairs
  element_form {r = r} {w = w} (gap ps) d =
      let c = run_token S Next behind (run_the_gap S Next behind d) in
      a_hole c.reads (hole_laid (is_none (bare_parts ps)) (elements (item_piece r) (bare_parts ps)) (tok Punctuator w ∷ []) c.runs)
  element_form {r = r} {w = w} (part (node k v g st en qs) none) d =
      let p = item_of Expression true Any r (node k v g st en qs) (r k) refl d in
      last_element p.is p.spelled (behind_last Expression true Any (is_rest k) (tok Punctuator w ∷ []) (joined (separator k true) [] (tok Punctuator w ∷ []) p.runs)) p.pairs
  element_form {r = r} {w = w} (part (node k v g st en qs) (gap ps)) d =
      let p = item_of Expression true Any r (node k v g st en qs) (r k) refl d in
      let b = behind_item Expression true Any (is_rest k) (elements (item_piece r) (bare_parts (gap ps)) ++ tok Punctuator w ∷ []) (joined (separator k false) (elements (item_piece r) (bare_parts (gap ps))) (tok Punctuator w ∷ []) p.runs) in
      more_elements p.is b.no_rest refl p.spelled b.comma b.runs p.pairs
  element_form {r = r} {w = w} (part (node k v g st en qs) (part m ps)) d =
      let p = item_of Expression true Any r (node k v g st en qs) (r k) refl d in
      let b = behind_item Expression true Any (is_rest k) (elements (item_piece r) (bare_parts (part m ps)) ++ tok Punctuator w ∷ []) (joined (separator k false) (elements (item_piece r) (bare_parts (part m ps))) (tok Punctuator w ∷ []) p.runs) in
      more_elements p.is b.no_rest refl p.spelled b.comma b.runs p.pairs

  -- Parameters: what closes them and the body, which is the last part; or a parameter and the rest.
  pub data ParameterForm (o : ℕ) (y : Rank) (i : Bool) (f : Start) (after : List Piece) (s e : S) (P : List Pair) : Parts → Type 0 where
    no_parameter : {b : Tree} → Runs ways S Next behind o (goes_to y i f after) (part b none) s e P → ParameterForm o y i f after s e P (part b none)
    last_parameter : {a : Role} {n b : Tree} {m : S} {Q R : List Pair} → element_role true (kind_of n) ≡ Some a → Spells ways S Next behind o a n s m Q → BehindLast o (is_rest (kind_of n)) (goes_to y i f after) (part b none) m e R → P ≡ Q ++ R →
        ParameterForm o y i f after s e P (part n (part b none))
    more_parameters : {a : Role} {n l : Tree} {ps : Parts} {m k : S} {c : Token} {Q R : List Pair} → element_role true (kind_of n) ≡ Some a → is_rest (kind_of n) ≡ false → is_none ps ≡ false → Spells ways S Next behind o a n s m Q →
        Reads S Next behind Punctuator (codes ",") m c k → Runs ways S Next behind o (parameter_pieces y i f after (part l ps)) (part l ps) k e R → P ≡ Q ++ R → ParameterForm o y i f after s e P (part n (part l ps))

  -- what runs over the pieces of parameters is one of these
  pub parameter_form : {o : ℕ} {y : Rank} {i : Bool} {f : Start} {after : List Piece} {s e : S} {P : List Pair} (ps : Parts) → Runs ways S Next behind o (parameter_pieces y i f after ps) ps s e P → ParameterForm o y i f after s e P ps
  parameter_form none d = absurd (run_never S Next behind d)
  parameter_form (gap ps) d = absurd (run_never S Next behind d)
  parameter_form (part b none) d = no_parameter d
  parameter_form (part n (gap ps)) d = absurd (run_never S Next behind d)
  parameter_form {y = y} {i = i} {f = f} {after = after} (part (node k v g st en qs) (part l none)) d =
      let p = item_of y i f (element_role true) (node k v g st en qs) (element_role true k) refl d in
      last_parameter p.is p.spelled (behind_last y i f (is_rest k) after p.runs) p.pairs
  parameter_form {y = y} {i = i} {f = f} {after = after} (part (node k v g st en qs) (part l (part m ps))) d =
      let p = item_of y i f (element_role true) (node k v g st en qs) (element_role true k) refl d in
      let b = behind_item y i f (is_rest k) (parameters after (bare_parts (part l (part m ps)))) p.runs in
      more_parameters p.is b.no_rest refl p.spelled b.comma b.runs p.pairs
  parameter_form {y = y} {i = i} {f = f} {after = after} (part (node k v g st en qs) (part l (gap ps))) d =
      let p = item_of y i f (element_role true) (node k v g st en qs) (element_role true k) refl d in
      let b = behind_item y i f (is_rest k) (parameters after (bare_parts (part l (gap ps)))) p.runs in
      more_parameters p.is b.no_rest refl p.spelled b.comma b.runs p.pairs

  -- and each of them runs
  pub parameter_runs : {o : ℕ} {y : Rank} {i : Bool} {f : Start} {after : List Piece} {s e : S} {P : List Pair} {ps : Parts} → ParameterForm o y i f after s e P ps → Runs ways S Next behind o (parameter_pieces y i f after ps) ps s e P
  parameter_runs (no_parameter d) = d
  parameter_runs {o} {y} {i} {f} {after} {s} {e} (last_parameter {n = node k v g st en qs} {b = l} h p b z) =
      subst (λ q. Runs ways S Next behind o (parameter_pieces y i f after (part (node k v g st en qs) (part l none))) (part (node k v g st en qs) (part l none)) s e q) (sym z)
      (item_runs y i f (element_role true k) h p (last_behind y i f (is_rest k) after b))
  parameter_runs (more_parameters {n = node k v g st en qs} {ps = none} h b j p c d z) = cc
  parameter_runs {o} {y} {i} {f} {after} {s} {e} (more_parameters {n = node k v g st en qs} {l = l} {ps = part m ps} h b j p c d z) =
      subst (λ q. Runs ways S Next behind o (parameter_pieces y i f after (part (node k v g st en qs) (part l (part m ps)))) (part (node k v g st en qs) (part l (part m ps))) s e q) (sym z)
      (item_runs y i f (element_role true k) h p (item_behind y i f (is_rest k) (parameters after (bare_parts (part l (part m ps)))) b c d))
  parameter_runs {o} {y} {i} {f} {after} {s} {e} (more_parameters {n = node k v g st en qs} {l = l} {ps = gap ps} h b j p c d z) =
      subst (λ q. Runs ways S Next behind o (parameter_pieces y i f after (part (node k v g st en qs) (part l (gap ps)))) (part (node k v g st en qs) (part l (gap ps))) s e q) (sym z)
      (item_runs y i f (element_role true k) h p (item_behind y i f (is_rest k) (parameters after (bare_parts (part l (gap ps)))) b c d))

  -- The parts of a template: the last one; or one, an expression and the rest. The flag says that it is the first.
  pub data ChunkForm (o : ℕ) (b : Bool) (s e : S) (P : List Pair) : Parts → Type 0 where
    last_chunk : {q : Tree} → Spells ways S Next behind o (template_element b true) q s e P → ChunkForm o b s e P (part q none)
    more_chunks : {q n : Tree} {ps : Parts} {m k : S} {A B C : List Pair} → Spells ways S Next behind o (template_element b false) q s m A → Spells ways S Next behind o (expr Expression true Any) n m k B →
        Runs ways S Next behind o (chunk_pieces false ps) ps k e C → P ≡ A ++ (B ++ C) → ChunkForm o b s e P (part q (part n ps))

  -- what runs over the pieces of a template is one of these
  pub chunk_form : {o : ℕ} {b : Bool} {s e : S} {P : List Pair} (ps : Parts) → Runs ways S Next behind o (chunk_pieces b ps) ps s e P → ChunkForm o b s e P ps
  chunk_form none d = absurd (run_never S Next behind d)
  chunk_form (gap ps) d = absurd (run_never S Next behind d)
  chunk_form {o} {b} {s} {e} (part q none) d =
      let p = run_the_part S Next behind d in
      let z = run_none S Next behind p.runs in
      last_chunk (subst (λ v. Spells ways S Next behind o (template_element b true) q s e v) (sym (no_pairs p.pairs z.pairs)) (subst (λ v. Spells ways S Next behind o (template_element b true) q s v p.one) z.place p.spelled))
  chunk_form (part q (gap ps)) d = absurd (run_never S Next behind d)
  chunk_form (part q (part n ps)) d =
      let p = run_the_part S Next behind d in
      let u = run_the_part S Next behind p.runs in
      more_chunks p.spelled u.spelled u.runs (p.pairs ∙ ap (λ v. p.one ++ v) u.pairs)

  -- The parts of a sequence behind its first: nothing; or a comma, an expression and the rest.
  pub data CommaForm (o : ℕ) (i : Bool) (f : Start) (s e : S) (P : List Pair) : Parts → Type 0 where
    no_comma : s ≡ e → P ≡ [] → CommaForm o i f s e P none
    a_comma : {n : Tree} {ps : Parts} {k m : S} {c : Token} {A B : List Pair} → Reads S Next behind Punctuator (codes ",") s c k → Spells ways S Next behind o (expr Assignment i Any) n k m A →
        Runs ways S Next behind o (comma_pieces i f ps) ps m e B → P ≡ A ++ B → CommaForm o i f s e P (part n ps)

  -- what runs over the pieces of a sequence is one of these
  pub comma_form : {o : ℕ} {i : Bool} {f : Start} {s e : S} {P : List Pair} (ps : Parts) → Runs ways S Next behind o (comma_pieces i f ps) ps s e P → CommaForm o i f s e P ps
  comma_form none d = let z = run_none S Next behind d in no_comma z.place z.pairs
  comma_form (gap ps) d = absurd (run_never S Next behind d)
  comma_form (part n ps) d = let c = run_token S Next behind d in let p = run_the_part S Next behind (run_laid S Next behind c.runs) in a_comma c.reads p.spelled p.runs p.pairs
