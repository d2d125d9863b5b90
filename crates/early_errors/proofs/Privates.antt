-- The private names that the elements of a class declare, and how they use them.
use Rattle.std.proofs.Common.{◌≡◌, ℕ, ◌+◌, ◌<◌, ◌≤◌, Bool, true, false, not, cond, List, [], ◌∷◌, ◌++◌, Option, Some, None, is_some, option_map, refl, sym, ap, ◌∙◌, append_assoc, append-nil}
use Rattle.std.specs.Prelude.{◌&&◌, ◌||◌}
use Rattle.std.specs.Str.{bytes_eq}
use Rattle.std.proofs.lemmas.Bool.{false≢true}
use Rattle.std.proofs.lemmas.Slice.Eq.{bytes_eq-Decides}
use Rattle.tree.specs.declared.kind.Form.{Form}
use Rattle.tree.specs.declared.kind.Form.TheVariants.{Get, Set}
use Rattle.tree.specs.declared.kind.Kind.TheVariants.{ClassBody}
use Rattle.tree.specs.Tree.{Tree, node, Parts, none, part, gap, kind_of, text_of, flags_of, start_of, parts_of, part_at, part_count, parts_drop}
use Rattle.language.specs.Vocabulary.{is, is_private}
use Rattle.name_tables.specs.BoundNames.{each_part}
use Rattle.name_tables.specs.PatternParts.{at_part}
use Rattle.name_tables.specs.Tables.{Agree, with_value}
use Rattle.early_errors.specs.declared.EarlyError.TheVariants.{PrivateConstructor, DuplicatePrivateName}
use Rattle.early_errors.specs.declared.private_names.PrivateUse.{PrivateUse}
use Rattle.early_errors.specs.declared.private_names.PrivateUse.TheVariants as by
use Rattle.name_tables.proofs.EachPart.{drop-step, drop-past}
use Rattle.early_errors.specs.declared.own.OwnErrors.TheVariants as own
use Rattle.early_errors.specs.Owns.{Declares, own_of}
use Rattle.early_errors.specs.Around.{private_key, private_keys}
use Rattle.early_errors.specs.Names.{when}
use Rattle.early_errors.specs.PrivateNames.{Declared, declared, is_any, is_get, is_set, is_pair, of_name, second_on, holds_name, named_constructor, private_constructor, duplicate_private_name}
use Rattle.early_errors.specs.PrivateUses.{declared_use, is_pair_use, is_same, joined_use, key_errors, noted, pair_if, private_key_at, use_at, use_of}
use Rattle.early_errors.specs.Early.{Error, each, least}
use Rattle.early_errors.specs.Walk.{after, sooner}
use Rattle.early_errors.proofs.Least.{after-append, least-append, sooner-swaps, sooner-twice, each-append}

pub none_is : {X : Type 0} (o : Option X) (b : Bool) → is_some o ≡ not b → b ≡ not (is_some o)
none_is o true e = sym (ap not e)
none_is o false e = sym (ap not e)

abbrev declared_by_key : Tree → Bool → Form → Declared
declared_by_key k s f = record { name = text_of k; at = start_of k; is_static = s; gets = is_get f; sets = is_set f }

abbrev declared_if : Bool → Tree → Bool → Form → List Declared
declared_if b k s f = cond b (declared_by_key k s f ∷ []) []

-- an element without a private key declares nothing
pub nothing_declared : (o : Option Tree) → None ≡ private_key_at o → at_part declared o ≡ []
nothing_declared None e = refl
nothing_declared (Some (node k w g s e none)) h = refl
nothing_declared (Some (node k w g s e (gap ps))) h = refl
nothing_declared (Some (node k w g s e (part n ps))) h = pick (is_private (kind_of n)) h
  where
    pick : (b : Bool) → None ≡ cond b (Some n) None → declared_if b n g.is_static g.form ≡ []
    pick true h = absurd (cc)
    pick false h = refl

abbrev form_used : Option Tree → Tree → List Declared
form_used None k = []
form_used (Some t) k = declared_by_key k (flags_of t).is_static (flags_of t).form ∷ []

-- one with such a key declares its name
declared_by : (o : Option Tree) (k : Tree) → Some k ≡ private_key_at o → at_part declared o ≡ form_used o k
declared_by None k h = absurd (cc)
declared_by (Some (node j w g s e none)) k h = absurd (cc)
declared_by (Some (node j w g s e (gap ps))) k h = absurd (cc)
declared_by (Some (node j w g s e (part n ps))) k h = pick (is_private (kind_of n)) h
  where
    same : (m : Tree) → Some k ≡ Some m → form_used (Some (node j w g s e (part n ps))) m ≡ form_used (Some (node j w g s e (part n ps))) k
    same m e' = let is : m ≡ k = cc in ap (form_used (Some (node j w g s e (part n ps)))) is

    pick : (b : Bool) → Some k ≡ cond b (Some n) None → declared_if b n g.is_static g.form ≡ form_used (Some (node j w g s e (part n ps))) k
    pick true h = same n h
    pick false h = absurd (cc)

-- how it uses the name
use_declared : (f : Form) (s : Bool) → use_of f s ≡ cond (is_get f) (by.Getter s) (cond (is_set f) (by.Setter s) by.Other)
use_declared Get s = refl
use_declared Set s = refl
use_declared _ s = refl

pub noted_key : (uses : List ℕ → Option PrivateUse) (o : Option Tree) (k : Tree) → Some k ≡ private_key_at o → noted uses (at_part declared o) ≡ with_value uses (text_of k) (Some (joined_use (uses (text_of k)) (use_at o)))
noted_key uses None k h = absurd (cc)
noted_key uses (Some t) k h =
    ap (noted uses) (declared_by (Some t) k h) ∙ ap (λ u. with_value uses (text_of k) (Some (joined_use (uses (text_of k)) u))) (sym (use_declared (flags_of t).form (flags_of t).is_static))

pub none_mapped : {X Y : Type 0} (f : X → Y) (o : Option X) (b : Bool) → b ≡ is_some o → b ≡ false → None ≡ option_map f o
none_mapped f None b e h = refl
none_mapped f (Some x) b e h = absurd (false≢true (sym h ∙ e))

-- ---- one key after the other

module _ (uses : List ℕ → Option PrivateUse) where
  pub errors_agree : (f g : List ℕ → Option (Unit {0})) → Agree f g → (xs : List Declared) → key_errors uses f xs ≡ key_errors uses g xs
  errors_agree f g a [] = refl
  errors_agree f g a (x ∷ xs) = λ i.
      each PrivateConstructor (when (is x.name "constructor") (x.at ∷ []))
      ++ (each DuplicatePrivateName (when (is_some (a x.name i) && not (is_pair_use (uses x.name))) (x.at ∷ []))
      ++ errors_agree (with_value f x.name (Some tt)) (with_value g x.name (Some tt)) (λ w. ap (λ o. cond (bytes_eq x.name w) (Some tt) o) (a w)) xs i)

  -- a key is looked at
  pub key-turn : (seen new : List ℕ → Option (Unit {0})) (o : Option Tree) (k : Tree) (rest : List Declared) (q p total : Option Error) → Some k ≡ private_key_at o →
      Agree new (with_value seen (text_of k) (Some tt)) →
      p ≡ after (after q (each PrivateConstructor (when (is (text_of k) "constructor") (start_of k ∷ [])))) (each DuplicatePrivateName (when (is_some (seen (text_of k)) && not (is_pair_use (uses (text_of k)))) (start_of k ∷ []))) →
      after q (key_errors uses seen (at_part declared o ++ rest)) ≡ total → after p (key_errors uses new rest) ≡ total
  key-turn seen new None k rest q p total h a e so = absurd (cc)
  key-turn seen new (Some t) k rest q p total h a e so =
      let one : List Error = each PrivateConstructor (when (is (text_of k) "constructor") (start_of k ∷ [])) in
      let two : List Error = each DuplicatePrivateName (when (is_some (seen (text_of k)) && not (is_pair_use (uses (text_of k)))) (start_of k ∷ [])) in
      let more : List Error = key_errors uses (with_value seen (text_of k) (Some tt)) rest in
      (λ i. after (e i) (errors_agree new (with_value seen (text_of k) (Some tt)) a rest i))
      ∙ sym (after-append q one (two ++ more) ∙ after-append (after q one) two more)
      ∙ sym (ap (λ l. after q (key_errors uses seen (l ++ rest))) (declared_by (Some t) k h)) ∙ so

pub bytes-turned : (v w : List ℕ) → bytes_eq v w ≡ bytes_eq w v
bytes-turned v w = pick (bytes_eq v w) refl
  where
    pick : (b : Bool) → bytes_eq v w ≡ b → b ≡ bytes_eq w v
    pick true h = sym ((bytes_eq-Decides w v).1 (sym ((bytes_eq-Decides v w).0 h)))
    pick false h = go (bytes_eq w v) refl
      where
        go : (c : Bool) → bytes_eq w v ≡ c → false ≡ bytes_eq w v
        go true k = absurd (false≢true (sym h ∙ (bytes_eq-Decides v w).1 (sym ((bytes_eq-Decides w v).0 k))))
        go false k = sym k

-- ---- as the definitions say it

module _ (w : List ℕ) where
  -- how a name is used with so many of its elements
  abbrev used_by : List Declared → Option PrivateUse
  used_by [] = None
  used_by (x ∷ []) = Some (declared_use x)
  used_by (x ∷ y ∷ []) = Some (joined_use (Some (declared_use x)) (declared_use y))
  used_by (x ∷ y ∷ z ∷ xs) = Some by.Other

  -- a third element of a name makes no pair
  third : (a b c : PrivateUse) → joined_use (Some (joined_use (Some a) b)) c ≡ by.Other
  third (by.Getter a) (by.Setter b) c = pair (is_same a b) c
    where
      pair : (d : Bool) (c : PrivateUse) → joined_use (Some (pair_if d)) c ≡ by.Other
      pair true c = refl
      pair false c = refl
  third (by.Setter a) (by.Getter b) c = pair (is_same a b) c
    where
      pair : (d : Bool) (c : PrivateUse) → joined_use (Some (pair_if d)) c ≡ by.Other
      pair true c = refl
      pair false c = refl
  third (by.Getter a) _ c = refl
  third (by.Setter a) _ c = refl
  third by.Pair b c = refl
  third by.Other b c = refl

  used_more : (ys : List Declared) (x : Declared) → used_by (ys ++ x ∷ []) ≡ Some (joined_use (used_by ys) (declared_use x))
  used_more [] x = refl
  used_more (a ∷ []) x = refl
  used_more (a ∷ b ∷ []) x = ap (λ u. Some u) (sym (third (declared_use a) (declared_use b) (declared_use x)))
  used_more (a ∷ b ∷ c ∷ ys) x = refl

  noted_used : (f : List ℕ → Option PrivateUse) (ys xs : List Declared) → f w ≡ used_by ys → noted f xs w ≡ used_by (ys ++ of_name w xs)
  noted_used f ys [] e = e ∙ ap used_by (sym (append-nil ys))
  noted_used f ys (x ∷ xs) e =
      let u : Option PrivateUse = Some (joined_use (f x.name) (declared_use x)) in
      pick (bytes_eq x.name w) refl (noted_used (with_value f x.name u) (ys ++ x ∷ []) xs) (noted_used (with_value f x.name u) ys xs)
    where
      goes : List Declared → Type 0
      goes zs = with_value f x.name (Some (joined_use (f x.name) (declared_use x))) w ≡ used_by zs → noted (with_value f x.name (Some (joined_use (f x.name) (declared_use x)))) xs w ≡ used_by (zs ++ of_name w xs)

      pick : (b : Bool) → bytes_eq x.name w ≡ b → goes (ys ++ x ∷ []) → goes ys → noted (with_value f x.name (Some (joined_use (f x.name) (declared_use x)))) xs w ≡ used_by (ys ++ (cond (bytes_eq w x.name) (x ∷ []) [] ++ of_name w xs))
      pick true h k l =
          let same : x.name ≡ w = (bytes_eq-Decides x.name w).0 h in
          k (ap (λ b. cond b (Some (joined_use (f x.name) (declared_use x))) (f w)) h ∙ ap (λ o. Some (joined_use o (declared_use x))) (ap f same ∙ e) ∙ sym (used_more ys x))
          ∙ ap used_by (append_assoc ys (x ∷ []) (of_name w xs) ∙ ap (λ b. ys ++ (cond b (x ∷ []) [] ++ of_name w xs)) (sym (bytes-turned w x.name ∙ h)))
      pick false h k l = l (ap (λ b. cond b (Some (joined_use (f x.name) (declared_use x))) (f w)) h ∙ e) ∙ ap (λ b. used_by (ys ++ (cond b (x ∷ []) [] ++ of_name w xs))) (sym (bytes-turned w x.name ∙ h))

-- elements of which each is a getter, a setter or neither
abbrev Each_form : List Declared → Type 0
Each_form [] = Unit {0}
Each_form (x ∷ xs) = ((x.gets && x.sets) ≡ false) × Each_form xs

form_append : (xs ys : List Declared) → Each_form xs → Each_form ys → Each_form (xs ++ ys)
form_append [] ys h k = k
form_append (x ∷ xs) ys h k = (h.0, form_append xs ys h.1 k)

one_form : (f : Form) → (is_get f && is_set f) ≡ false
one_form Get = refl
one_form Set = refl
one_form _ = refl

element_form : (t : Tree) → Each_form (declared t)
element_form (node k w g s e none) = tt
element_form (node k w g s e (gap ps)) = tt
element_form (node k w g s e (part n ps)) = pick (is_private (kind_of n))
  where
    pick : (b : Bool) → Each_form (declared_if b n g.is_static g.form)
    pick true = (one_form g.form, tt)
    pick false = tt

pub elements_form : (ps : Parts) → Each_form (each_part declared ps)
elements_form none = tt
elements_form (part t ps) = form_append (declared t) (each_part declared ps) (element_form t) (elements_form ps)
elements_form (gap ps) = elements_form ps

named_form : (w : List ℕ) (xs : List Declared) → Each_form xs → Each_form (of_name w xs)
named_form w [] h = tt
named_form w (x ∷ xs) h = pick (bytes_eq w x.name) (named_form w xs h.1)
  where
    pick : (b : Bool) → Each_form (of_name w xs) → Each_form (cond b (x ∷ []) [] ++ of_name w xs)
    pick true k = (h.0, k)
    pick false k = k

-- two elements make a pair just as they are used
pair_used : (w : List ℕ) (xs : List Declared) → Each_form xs → is_pair_use (used_by w xs) ≡ is_pair xs
pair_used w [] h = refl
pair_used w (x ∷ []) h = one x.gets x.sets
  where
    one : (a b : Bool) → is_pair_use (Some (cond a (by.Getter x.is_static) (cond b (by.Setter x.is_static) by.Other))) ≡ false
    one true b = refl
    one false true = refl
    one false false = refl
pair_used w (x ∷ y ∷ []) h = two x.gets x.sets y.gets y.sets x.is_static y.is_static h.0 h.1.0
  where
    two : (a b c d s t : Bool) → (a && b) ≡ false → (c && d) ≡ false →
        is_pair_use (Some (joined_use (Some (cond a (by.Getter s) (cond b (by.Setter s) by.Other))) (cond c (by.Getter t) (cond d (by.Setter t) by.Other)))) ≡ (((a && d) || (b && c)) && ((s && t) || not (s || t)))
    two true true c d s t h k = absurd (false≢true (sym h))
    two true false true true s t h k = absurd (false≢true (sym k))
    two false true true true s t h k = absurd (false≢true (sym k))
    two false false true true s t h k = absurd (false≢true (sym k))
    two true false true false s t h k = refl
    two true false false true true true h k = refl
    two true false false true true false h k = refl
    two true false false true false true h k = refl
    two true false false true false false h k = refl
    two true false false false s t h k = refl
    two false true true false true true h k = refl
    two false true true false true false h k = refl
    two false true true false false true h k = refl
    two false true true false false false h k = refl
    two false true false true s t h k = refl
    two false true false false s t h k = refl
    two false false true false s t h k = refl
    two false false false true s t h k = refl
    two false false false false s t h k = refl
pair_used w (x ∷ y ∷ z ∷ xs) h = refl

-- which names were seen, the last first
seen_before : List Declared → List ℕ → Option (Unit {0})
seen_before [] w = None
seen_before (x ∷ xs) w = cond (bytes_eq x.name w) (Some tt) (seen_before xs w)

seen-named : (w : List ℕ) (xs : List Declared) → is_some (seen_before xs w) ≡ is_any (of_name w xs)
unfolding seen_before
seen-named w [] = refl
seen-named w (x ∷ xs) = ap (λ b. is_some (cond b (Some tt) (seen_before xs w))) (bytes-turned x.name w) ∙ pick (bytes_eq w x.name) (seen-named w xs)
  where
    pick : (b : Bool) → is_some (seen_before xs w) ≡ is_any (of_name w xs) → is_some (cond b (Some tt) (seen_before xs w)) ≡ is_any (cond b (x ∷ []) [] ++ of_name w xs)
    pick true h = refl
    pick false h = h

-- the errors of keys are those of the definitions, in another order
module _ (all : List Declared) (h : Each_form all) where
  uses : List ℕ → Option PrivateUse
  uses = noted (λ w. None) all

  pair_is : (w : List ℕ) → is_pair_use (noted (λ w. None) all w) ≡ is_pair (of_name w all)
  pair_is w = ap is_pair_use (noted_used w (λ w. None) [] all refl) ∙ pair_used w (of_name w all) (named_form w all h)

  apart : (before xs : List Declared) →
      least (key_errors (noted (λ w. None) all) (seen_before before) xs) ≡ sooner (least (each PrivateConstructor (named_constructor xs))) (least (each DuplicatePrivateName (second_on all before xs)))
  unfolding seen_before
  apart before [] = refl
  apart before (x ∷ xs) =
      let a : List ℕ = when (is x.name "constructor") (x.at ∷ []) in
      let b : List ℕ = when (is_any (of_name x.name before) && not (is_pair (of_name x.name all))) (x.at ∷ []) in
      let c : List ℕ = named_constructor xs in
      let d : List ℕ = second_on all (x ∷ before) xs in
      let A = least (each PrivateConstructor a) in
      let B = least (each DuplicatePrivateName b) in
      let C = least (each PrivateConstructor c) in
      let D = least (each DuplicatePrivateName d) in
      least-append (each PrivateConstructor a) (each DuplicatePrivateName (when (is_some (seen_before before x.name) && not (is_pair_use (noted (λ w. None) all x.name))) (x.at ∷ [])) ++ key_errors (noted (λ w. None) all) (seen_before (x ∷ before)) xs)
      ∙ ap (sooner A) (least-append (each DuplicatePrivateName (when (is_some (seen_before before x.name) && not (is_pair_use (noted (λ w. None) all x.name))) (x.at ∷ []))) (key_errors (noted (λ w. None) all) (seen_before (x ∷ before)) xs)
      ∙ (λ i. sooner (least (each DuplicatePrivateName (when (seen-named x.name before i && not (pair_is x.name i)) (x.at ∷ [])))) (apart (x ∷ before) xs i)))
      ∙ crossed A B C D
      ∙ sym (λ i. sooner ((ap least (each-append PrivateConstructor a c) ∙ least-append (each PrivateConstructor a) (each PrivateConstructor c)) i) ((ap least (each-append DuplicatePrivateName b d) ∙ least-append (each DuplicatePrivateName b) (each DuplicatePrivateName d)) i))
    where
      crossed : (a b c d : Option Error) → sooner a (sooner b (sooner c d)) ≡ sooner (sooner a c) (sooner b d)
      crossed a b c d = ap (sooner a) (sym (sooner-twice b c d) ∙ ap (λ o. sooner o d) (sooner-swaps b c) ∙ sooner-twice c b d) ∙ sym (sooner-twice a c (sooner b d))

as_defined : (t : Tree) → kind_of t ≡ ClassBody → let ds = each_part declared (parts_of t) in
    least (key_errors (noted (λ w. None) ds) (λ w. None) ds) ≡ sooner (least (each PrivateConstructor (private_constructor t))) (least (each DuplicatePrivateName (duplicate_private_name t)))
unfolding private_constructor duplicate_private_name seen_before
as_defined (node ClassBody w g s e ps) h = apart (each_part declared ps) (elements_form ps) [] (each_part declared ps)
as_defined (node _ w g s e ps) h = absurd (cc)

pub keys_found : (t : Tree) (o q : Option Error) → kind_of t ≡ ClassBody → let ds = each_part declared (parts_of t) in
    q ≡ after o (key_errors (noted (λ w. None) ds) (λ w. None) ds) → q ≡ after (after o (each PrivateConstructor (private_constructor t))) (each DuplicatePrivateName (duplicate_private_name t))
keys_found t o q k e =
    e ∙ ap (sooner o) (as_defined t k) ∙ sym (sooner-twice o (least (each PrivateConstructor (private_constructor t))) (least (each DuplicatePrivateName (duplicate_private_name t))))

-- a class body without private keys
pub no_keys : (t : Tree) → each_part declared (parts_of t) ≡ [] → (each PrivateConstructor (private_constructor t) ≡ []) × (each DuplicatePrivateName (duplicate_private_name t) ≡ [])
unfolding private_constructor duplicate_private_name
no_keys (node ClassBody w g s e ps) h = (ap (λ xs. each PrivateConstructor (named_constructor xs)) h, ap (λ xs. each DuplicatePrivateName (second_on xs [] xs)) h)
no_keys (node _ w g s e ps) h = (refl, refl)

-- what a class body declares
pub class_kind : (t : Tree) → own_of (kind_of t) ≡ own.ClassElements → kind_of t ≡ ClassBody
class_kind (node ClassBody w g s e ps) h = refl
class_kind (node _ w g s e ps) h = absurd (cc)

pub mapped_some : {X Y : Type 0} (f : X → Y) (o : Option X) → is_some (option_map f o) ≡ is_some o
mapped_some f None = refl
mapped_some f (Some x) = refl

pub keys_each : (ps : Parts) → private_keys ps ≡ each_part private_key ps
keys_each none = refl
keys_each (part t ps) = ap (λ x. private_key t ++ x) (keys_each ps)
keys_each (gap ps) = keys_each ps

unkeyed : (o : Option Tree) → None ≡ private_key_at o → at_part private_key o ≡ []
unkeyed None h = refl
unkeyed (Some (node k w g s e none)) h = refl
unkeyed (Some (node k w g s e (gap ps))) h = refl
unkeyed (Some (node k w g s e (part n ps))) h = pick (is_private (kind_of n)) h
  where
    pick : (b : Bool) → None ≡ cond b (Some n) None → cond b (text_of n ∷ []) [] ≡ []
    pick true h = absurd (cc)
    pick false h = refl

keyed : (o : Option Tree) (k : Tree) → Some k ≡ private_key_at o → at_part private_key o ≡ text_of k ∷ []
keyed None k h = absurd (cc)
keyed (Some (node j w g s e none)) k h = absurd (cc)
keyed (Some (node j w g s e (gap ps))) k h = absurd (cc)
keyed (Some (node j w g s e (part n ps))) k h = pick (is_private (kind_of n)) h
  where
    pick : (b : Bool) → Some k ≡ cond b (Some n) None → cond b (text_of n ∷ []) [] ≡ text_of k ∷ []
    pick true h = let same : n ≡ k = cc in ap (λ m. text_of m ∷ []) same
    pick false h = absurd (cc)

pub kept_out : (o : Option Tree) (f : List ℕ → Option (Unit {0})) → None ≡ private_key_at o → (w : List ℕ) → is_some (f w) ≡ (holds_name (at_part private_key o) w || is_some (f w))
kept_out o f h w = ap (λ ws. holds_name ws w || is_some (f w)) (sym (unkeyed o h))

pub let_in : (o : Option Tree) (k : Tree) (n : List ℕ) (f g : List ℕ → Option (Unit {0})) → Some k ≡ private_key_at o → n ≡ text_of k → Agree g (with_value f n (Some tt)) → (w : List ℕ) →
    is_some (g w) ≡ (holds_name (at_part private_key o) w || is_some (f w))
let_in o k n f g h e a w = ap is_some (a w) ∙ pick (bytes_eq n w) ∙ ap (λ v. (bytes_eq v w || false) || is_some (f w)) e ∙ ap (λ ws. holds_name ws w || is_some (f w)) (sym (keyed o k h))
  where
    pick : (b : Bool) → is_some (cond b (Some tt) (f w)) ≡ ((b || false) || is_some (f w))
    pick true = refl
    pick false = refl

holds_append : (vs ws : List (List ℕ)) (w : List ℕ) → holds_name (vs ++ ws) w ≡ (holds_name vs w || holds_name ws w)
holds_append [] ws w = refl
holds_append (v ∷ vs) ws w = ap (λ b. bytes_eq v w || b) (holds_append vs ws w) ∙ or_groups (bytes_eq v w) (holds_name vs w) (holds_name ws w)
  where
    or_groups : (a b c : Bool) → (a || (b || c)) ≡ ((a || b) || c)
    or_groups true b c = refl
    or_groups false b c = refl

-- one element of a class after the other
abbrev pub InClass : (List ℕ → Option (Unit {0})) → ℕ → Parts → List (List ℕ) → Type 0
InClass f i ps ws = (w : List ℕ) → (holds_name (each_part private_key (parts_drop i ps)) w || is_some (f w)) ≡ holds_name (each_part private_key ps ++ ws) w

pub class_begins : (f : List ℕ → Option (Unit {0})) (ps : Parts) (ws : List (List ℕ)) → Declares f ws → InClass f 0 ps ws
class_begins f ps ws d w = ap (λ b. holds_name (each_part private_key ps) w || b) (d w) ∙ sym (holds_append (each_part private_key ps) ws w)

pub class_turn : (f g : List ℕ → Option (Unit {0})) (i : ℕ) (o : Option Tree) (ps : Parts) (ws : List (List ℕ)) → i < part_count ps → o ≡ part_at ps i →
    ((w : List ℕ) → is_some (g w) ≡ (holds_name (at_part private_key o) w || is_some (f w))) → InClass f i ps ws → InClass g (i + 1) ps ws
class_turn f g i o ps ws l e h so w =
    let xs = at_part private_key o in
    let ys = each_part private_key (parts_drop (i + 1) ps) in
    ap (λ b. holds_name ys w || b) (h w) ∙ turned (holds_name ys w) (holds_name xs w) (is_some (f w))
    ∙ ap (λ b. b || is_some (f w)) (sym (holds_append xs ys w)) ∙ ap (λ zs. holds_name zs w || is_some (f w)) (sym (drop-step private_key ps i o l e)) ∙ so w
  where
    turned : (a b c : Bool) → (a || (b || c)) ≡ ((b || a) || c)
    turned true true c = refl
    turned true false c = refl
    turned false true c = refl
    turned false false c = refl

pub class_ends : (f : List ℕ → Option (Unit {0})) (i : ℕ) (ps : Parts) (ws : List (List ℕ)) → part_count ps ≤ i → InClass f i ps ws → Declares f (private_keys ps ++ ws)
class_ends f i ps ws l so w =
    ap (λ zs. holds_name zs w || is_some (f w)) (sym (drop-past private_key ps i l)) ∙ so w ∙ ap (λ vs. holds_name (vs ++ ws) w) (sym (keys_each ps))

-- ---- how the names are used, one element after the other

pub noted_append : (f : List ℕ → Option PrivateUse) (xs ys : List Declared) → noted f (xs ++ ys) ≡ noted (noted f xs) ys
noted_append f [] ys = refl
noted_append f (x ∷ xs) ys = noted_append (with_value f x.name (Some (joined_use (f x.name) (declared_use x)))) xs ys

pub noted_agree : (f g : List ℕ → Option PrivateUse) → Agree f g → (xs : List Declared) → Agree (noted f xs) (noted g xs)
noted_agree f g a xs w = let same : f ≡ g = λ i v. a v i in ap (λ h. noted h xs w) same

pub uses-turn : (f g h : List ℕ → Option PrivateUse) (i : ℕ) (o : Option Tree) (ps : Parts) → i < part_count ps → o ≡ part_at ps i → Agree g (noted f (at_part declared o)) → Agree (noted f (each_part declared (parts_drop i ps))) h →
    Agree (noted g (each_part declared (parts_drop (i + 1) ps))) h
uses-turn f g h i o ps l e a so w =
    noted_agree g (noted f (at_part declared o)) a (each_part declared (parts_drop (i + 1) ps)) w
    ∙ ap (λ q. q w) (sym (noted_append f (at_part declared o) (each_part declared (parts_drop (i + 1) ps)))) ∙ ap (λ xs. noted f xs w) (sym (drop-step declared ps i o l e)) ∙ so w

pub keys_same : (u v : List ℕ → Option PrivateUse) (f g : List ℕ → Option (Unit {0})) (xs : List Declared) → Agree u v → Agree f g → key_errors u f xs ≡ key_errors v g xs
keys_same u v f g xs a b = let first : u ≡ v = λ i w. a w i in ap (λ h. key_errors h f xs) first ∙ errors_agree v f g b xs
