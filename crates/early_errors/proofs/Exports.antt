-- What a module exports, as loops go over it.
use Rattle.std.proofs.Common.{◌≡◌, ℕ, zero, suc, ◌+◌, ◌-◌, ◌<◌, ◌≤◌, Bool, true, false, not, cond, List, [], ◌∷◌, ◌++◌, length, get_or, take, filter, Option, Some, None, is_some, ◌⊎◌, inl, inr, refl, sym, ap, subst, ◌∙◌, arith, add-one, append_assoc}
use Rattle.std.proofs.Math.Utf8.{encode}
use Rattle.std.proofs.lemmas.Str.{encode_ascii}
use Rattle.std.specs.Prelude.{◌&&◌, ◌||◌, codes, map}
use Rattle.std.specs.Str.{bytes_eq, chars}
use Rattle.tokens.specs.Strings.{string_units}
use Rattle.language.specs.Statements.{is_string_literal}
use Rattle.tree.proofs.PartWalk as walk
use Rattle.early_errors.proofs.Points.{points_are_chars}
use Rattle.std.specs.Bool.{beq}
use Rattle.name_tables.specs.Tables.{Agree, with_value}
use Rattle.early_errors.proofs.Privates.{bytes-turned}
use Rattle.std.proofs.lemmas.Bool.{false≢true}
use Rattle.std.proofs.Math.Dec.{leb}
use Rattle.std.proofs.lemmas.Bool.Decides.{leb_tells, nat_tests}
use Rattle.std.proofs.lemmas.List.{map-append, take_more}
use Rattle.tree.specs.declared.kind.Kind.{Kind}
use Rattle.tree.specs.declared.kind.Kind.TheVariants.{Program, VariableDeclaration, ImportDeclaration, ExportNamedDeclaration, ExportDefaultDeclaration, ExportAllDeclaration, ExportSpecifier}
use Rattle.tree.specs.Tree.{Tree, node, Parts, none, part, gap, kind_of, text_of, start_of, parts_of, part_at, part_count, parts_drop}
use Rattle.language.specs.Vocabulary.{is_identifier, is_reserved, is_keyword}
use Rattle.language.specs.Strings.{literal_units}
use Rattle.name_tables.specs.BoundNames.{each_part}
use Rattle.name_tables.specs.PatternParts.{at_part}
use Rattle.name_tables.proofs.EachPart.{drop-step, drop-past}
use Rattle.early_errors.specs.declared.EarlyError.{EarlyError}
use Rattle.early_errors.specs.declared.EarlyError.TheVariants.{DuplicateExport, UndeclaredExport, LoneSurrogate}
use Rattle.early_errors.specs.declared.exported_names.ExportedName.{ExportedName}
use Rattle.early_errors.specs.declared.own.OwnErrors.TheVariants as own
use Rattle.early_errors.specs.Names.{Named, declared_names, has_name, import_name, lexical_names, places, parts_vars, twice, var_names, when}
use Rattle.early_errors.specs.Modules.{declaration_exports, each_tree, exported_names, first_only, first_tree, in_units, is_high, is_low, is_no_name, is_well_formed, last_part, locals, lone_parts, module_name_at, no_source, specifier_name, starts_of, string_of, duplicate_export, undeclared_export}
use Rattle.early_errors.specs.ExportsRead.{all_exported, exported_shown, module_names_at, own_names, units_of_name, exports_own, first_at, first_parts, goes_on_well, is_export_at, is_named_export, own_export, undeclared}
use Rattle.early_errors.specs.Owns.{own_of}
use Rattle.early_errors.specs.Early.{Error, each}
use Rattle.early_errors.specs.Walk as walked
use Rattle.early_errors.specs.Walk.{after, all_named, named, names_at}
use Rattle.early_errors.proofs.Least.{after-append, each-append, sooner-none}
use Rattle.early_errors.proofs.FirstNames.{first_names-at}
use Rattle.early_errors.proofs.NameLoops.{behind, behind-more, has_name-more, one_more, repeated-more}

-- ---- which items export

pub nothing_exported : (o : Option Tree) → is_export_at o ≡ false → (at_part exported_names o ≡ []) × (at_part locals o ≡ [])
nothing_exported None h = (refl, refl)
nothing_exported (Some (node ExportNamedDeclaration w g s e ps)) h = absurd (false≢true (sym h))
nothing_exported (Some (node ExportDefaultDeclaration w g s e ps)) h = absurd (false≢true (sym h))
nothing_exported (Some (node ExportAllDeclaration w g s e ps)) h = absurd (false≢true (sym h))
nothing_exported (Some (node _ w g s e ps)) h = (refl, refl)

pub no_locals : (t : Tree) → exports_own t ≡ false → locals t ≡ []
no_locals (node ExportNamedDeclaration w g s e none) h = refl
no_locals (node ExportNamedDeclaration w g s e (part n ps)) h = refl
no_locals (node ExportNamedDeclaration w g s e (gap ps)) h = ap (λ b. cond b (each_part first_tree ps) []) h
no_locals (node _ w g s e ps) h = refl

-- the locals of an export of the module's own names
pub own_locals : (t : Tree) → exports_own t ≡ true → locals t ≡ each_part first_tree (parts_drop 1 (parts_of t))
own_locals (node ExportNamedDeclaration w g s e none) h = refl
own_locals (node ExportNamedDeclaration w g s e (part n ps)) h = absurd (false≢true h)
own_locals (node ExportNamedDeclaration w g s e (gap ps)) h = ap (λ b. cond b (each_part first_tree ps) []) h
own_locals (node _ w g s e ps) h = absurd (false≢true h)

-- whether a part is missing
abbrev missing : Option Tree → Bool
missing o = not (is_some o)

other_kind : (t : Tree) → is_named_export (kind_of t) ≡ false → exports_own t ≡ false
other_kind (node ExportNamedDeclaration w g s e ps) h = absurd (false≢true (sym h))
other_kind (node _ w g s e ps) h = refl

last_missing : (ps : Parts) (k : ℕ) → part_count ps ≡ suc k → no_source ps ≡ missing (part_at ps k)
last_missing none k e = absurd (omega (arith, e))
last_missing (part n none) zero e = refl
last_missing (part n none) (suc k) e = absurd (omega (arith, e))
last_missing (part n (part m ps)) zero e = absurd (omega (arith, e))
last_missing (part n (part m ps)) (suc k) e = last_missing (part m ps) k (omega (arith, e))
last_missing (part n (gap ps)) zero e = absurd (omega (arith, e))
last_missing (part n (gap ps)) (suc k) e = last_missing (gap ps) k (omega (arith, e))
last_missing (gap none) zero e = refl
last_missing (gap none) (suc k) e = absurd (omega (arith, e))
last_missing (gap (part m ps)) zero e = absurd (omega (arith, e))
last_missing (gap (part m ps)) (suc k) e = last_missing (part m ps) k (omega (arith, e))
last_missing (gap (gap ps)) zero e = absurd (omega (arith, e))
last_missing (gap (gap ps)) (suc k) e = last_missing (gap ps) k (omega (arith, e))

few : (ps : Parts) → part_count ps < 2 → own_export ps ≡ false
few none l = refl
few (part n ps) l = refl
few (gap none) l = refl
few (gap (part n ps)) l = absurd (omega (arith, l))
few (gap (gap ps)) l = absurd (omega (arith, l))

ends_missing : (ps : Parts) → 2 ≤ part_count ps → own_export ps ≡ (missing (part_at ps 0) && missing (part_at ps (part_count ps - 1)))
ends_missing none l = absurd (omega (arith, l))
ends_missing (part n ps) l = refl
ends_missing (gap none) l = absurd (omega (arith, l))
ends_missing (gap (part n ps)) l = go (part_count (gap (part n ps)) - 1) (omega arith)
  where
    go : (k : ℕ) → k ≡ suc (part_count ps) → no_source (part n ps) ≡ missing (part_at (gap (part n ps)) k)
    go zero e = absurd (omega (arith, e))
    go (suc k) e = last_missing (part n ps) k (omega (arith, e))
ends_missing (gap (gap ps)) l = go (part_count (gap (gap ps)) - 1) (omega arith)
  where
    go : (k : ℕ) → k ≡ suc (part_count ps) → no_source (gap ps) ≡ missing (part_at (gap (gap ps)) k)
    go zero e = absurd (omega (arith, e))
    go (suc k) e = last_missing (gap ps) k (omega (arith, e))

named_own : (t : Tree) → is_named_export (kind_of t) ≡ true → exports_own t ≡ own_export (parts_of t)
named_own (node ExportNamedDeclaration w g s e ps) h = refl
named_own (node _ w g s e ps) h = absurd (false≢true h)

pub own_kind : (t : Tree) (k : Kind) (b : Bool) → k ≡ kind_of t → b ≡ is_named_export k → b ≡ false → false ≡ exports_own t
own_kind t k b e f h = sym (other_kind t (ap is_named_export (sym e) ∙ sym f ∙ h))

pub own_few : (t : Tree) (k : Kind) (b : Bool) (n : ℕ) → k ≡ kind_of t → b ≡ is_named_export k → b ≡ true → n ≡ part_count (parts_of t) → n < 2 → false ≡ exports_own t
own_few t k b n e f h c l = sym (named_own t (ap is_named_export (sym e) ∙ sym f ∙ h) ∙ few (parts_of t) (subst (λ m. m < 2) c l))

pub own_given : (t : Tree) (k : Kind) (b x y z : Bool) (n : ℕ) (o p : Option Tree) → k ≡ kind_of t → b ≡ is_named_export k → b ≡ true → n ≡ part_count (parts_of t) → 2 ≤ n → o ≡ part_at (parts_of t) 0 → p ≡ part_at (parts_of t) (n - 1) →
    x ≡ not (is_some o) → y ≡ not (is_some p) → z ≡ (x && y) → z ≡ exports_own t
own_given t k b x y z n o p e f h c l a d u v w =
    w ∙ (λ i. (u ∙ ap missing a) i && (v ∙ ap missing d ∙ ap (λ m. missing (part_at (parts_of t) (m - 1))) c) i)
    ∙ sym (named_own t (ap is_named_export (sym e) ∙ sym f ∙ h) ∙ ends_missing (parts_of t) (subst (λ m. 2 ≤ m) c l))

-- a local that is no name
or_nothing : (b : Bool) → b ≡ (b || false)
or_nothing true = refl
or_nothing false = refl

pub or_none : (b : Bool) → (b || false) ≡ b
or_none b = sym (or_nothing b)

pub other_local : (t : Tree) (b : Bool) → b ≡ is_identifier (kind_of t) → b ≡ false → true ≡ is_no_name t
other_local t b e h = ap (λ x. not x || is_reserved (text_of t) || is_keyword (text_of t)) (sym h ∙ e)

pub word_local : (t : Tree) (b r x z : Bool) (v w : List ℕ) → b ≡ is_identifier (kind_of t) → b ≡ true → v ≡ text_of t → r ≡ is_reserved v → w ≡ text_of t → x ≡ bytes_eq w (codes "await") → z ≡ (r || x) → z ≡ is_no_name t
unfolding is_keyword
word_local t b r x z v w e h a f c g k =
    k ∙ (λ i. (f ∙ ap is_reserved a) i || (g ∙ ap (λ u. bytes_eq u (codes "await")) c ∙ or_nothing (bytes_eq (text_of t) (codes "await"))) i)
    ∙ ap (λ y. not y || is_reserved (text_of t) || is_keyword (text_of t)) (sym h ∙ e)

-- ---- trees that pass a test, one by one

abbrev pub passing : EarlyError → (Tree → Bool) → List Tree → List Error
passing e p xs = each e (starts_of (filter p xs))

starts-append : (xs ys : List Tree) → starts_of (xs ++ ys) ≡ starts_of xs ++ starts_of ys
starts-append [] ys = refl
starts-append (x ∷ xs) ys = ap (λ l. start_of x ∷ l) (starts-append xs ys)

filter-both : (p : Tree → Bool) (xs ys : List Tree) → filter p (xs ++ ys) ≡ filter p xs ++ filter p ys
filter-both p [] ys = refl
filter-both p (x ∷ xs) ys = pick (p x) (filter-both p xs ys)
  where
    pick : (b : Bool) → filter p (xs ++ ys) ≡ filter p xs ++ filter p ys → cond b (x ∷ filter p (xs ++ ys)) (filter p (xs ++ ys)) ≡ cond b (x ∷ filter p xs) (filter p xs) ++ filter p ys
    pick true h = ap (λ l. x ∷ l) h
    pick false h = h

pub passing-append : (e : EarlyError) (p : Tree → Bool) (xs ys : List Tree) → passing e p (xs ++ ys) ≡ passing e p xs ++ passing e p ys
passing-append e p xs ys = ap (λ l. each e (starts_of l)) (filter-both p xs ys) ∙ ap (each e) (starts-append (filter p xs) (filter p ys)) ∙ each-append e (starts_of (filter p xs)) (starts_of (filter p ys))

passing-one : (e : EarlyError) (p : Tree → Bool) (t : Tree) (b : Bool) → b ≡ p t → each e (when b (start_of t ∷ [])) ≡ passing e p (t ∷ [])
passing-one e p t b h = ap (λ c. each e (when c (start_of t ∷ []))) h ∙ pick (p t)
  where
    pick : (b : Bool) → each e (when b (start_of t ∷ [])) ≡ each e (starts_of (cond b (t ∷ []) []))
    pick true = refl
    pick false = refl

-- a loop over parts that give trees
module _ (e : EarlyError) (p : Tree → Bool) (f : Tree → List Tree) (ps : Parts) (i : ℕ) (o : Option Tree) (l : i < part_count ps) (h : o ≡ part_at ps i) (q total : Option Error)
    (so : after q (passing e p (each_part f (parts_drop i ps))) ≡ total) where
  pub passing-turn : (r : Option Error) → r ≡ after q (passing e p (at_part f o)) → after r (passing e p (each_part f (parts_drop (i + 1) ps))) ≡ total
  passing-turn r k =
      let xs = at_part f o in
      let ys = each_part f (parts_drop (i + 1) ps) in
      ap (λ x. after x (passing e p ys)) k ∙ sym (after-append q (passing e p xs) (passing e p ys)) ∙ ap (after q) (sym (passing-append e p xs ys)) ∙ ap (λ zs. after q (passing e p zs)) (sym (drop-step f ps i o l h)) ∙ so

  pub passing-given : (t : Tree) (b : Bool) (s : ℕ) (r : Option Error) → at_part f o ≡ t ∷ [] → b ≡ p t → s ≡ start_of t → r ≡ after q (each e (when b (s ∷ []))) → after r (passing e p (each_part f (parts_drop (i + 1) ps))) ≡ total
  passing-given t b s r k x y z = passing-turn r (z ∙ (λ j. after q (each e (when b (y j ∷ [])))) ∙ ap (after q) (passing-one e p t b x) ∙ ap (λ zs. after q (passing e p zs)) (sym k))

  pub passing-missing : at_part f o ≡ [] → after q (passing e p (each_part f (parts_drop (i + 1) ps))) ≡ total
  passing-missing k = passing-turn q (sym (sooner-none q) ∙ ap (λ zs. after q (passing e p zs)) (sym k))

pub passing-end : (e : EarlyError) (p : Tree → Bool) (f : Tree → List Tree) (ps : Parts) (i : ℕ) (q total : Option Error) → part_count ps ≤ i → after q (passing e p (each_part f (parts_drop i ps))) ≡ total → q ≡ total
passing-end e p f ps i q total l so = sym (sooner-none q) ∙ ap (λ zs. after q (passing e p zs)) (sym (drop-past f ps i l)) ∙ so

-- a local that can be a name, and that a table doesn't know
abbrev pub unknown : (List ℕ → Option (Unit {0})) → Tree → Bool
unknown f x = not (is_no_name x || is_some (f (text_of x)))

pub unknown_given : (f : List ℕ → Option (Unit {0})) (t : Tree) (n x z : Bool) (v : Option (Unit {0})) (w : List ℕ) → n ≡ is_no_name t → v ≡ f w → w ≡ text_of t → x ≡ not (is_some v) → z ≡ (not n && x) → z ≡ unknown f t
unknown_given f t n x z v w e g h k m = m ∙ (λ i. not (e i) && (k ∙ ap (λ o. not (is_some o)) (g ∙ ap f h)) i) ∙ pick (is_no_name t) (is_some (f (text_of t)))
  where
    pick : (a b : Bool) → (not a && not b) ≡ not (a || b)
    pick true b = refl
    pick false b = refl

-- the first part of each
pub first_given : (o : Option Tree) (t : Tree) → Some t ≡ first_at o → at_part first_tree o ≡ t ∷ []
first_given None t h = absurd (cc)
first_given (Some (node k w g s e none)) t h = absurd (cc)
first_given (Some (node k w g s e (part n ps))) t h = let same : n ≡ t = cc in ap (λ x. x ∷ []) same
first_given (Some (node k w g s e (gap ps))) t h = absurd (cc)

pub first_missing : (o : Option Tree) → None ≡ first_at o → at_part first_tree o ≡ []
first_missing None h = refl
first_missing (Some (node k w g s e none)) h = refl
first_missing (Some (node k w g s e (part n ps))) h = absurd (cc)
first_missing (Some (node k w g s e (gap ps))) h = refl

-- ---- halves of surrogate pairs

high_no_low : (c : ℕ) → is_low c ≡ true → is_high c ≡ false
high_no_low c h = grind (arith, nat_tests)

pub halves-differ : (b : Bool) (c : ℕ) (cs : List ℕ) → is_low c ≡ not b → goes_on_well b (c ∷ cs) ≡ false
halves-differ true c cs h = ap (λ x. x && is_well_formed cs) h
halves-differ false c [] h = ap not (ap (λ x. is_high c || x) h ∙ or_true (is_high c))
  where
    or_true : (b : Bool) → (b || true) ≡ true
    or_true true = refl
    or_true false = refl
halves-differ false c (d ∷ cs) h = (λ i. cond (high_no_low c h i) (is_low d && is_well_formed cs) (not (h i) && is_well_formed (d ∷ cs)))

pub halves-go_on : (b : Bool) (c : ℕ) (cs : List ℕ) → is_low c ≡ b → goes_on_well b (c ∷ cs) ≡ goes_on_well (is_high c) cs
halves-go_on true c cs h = ap (λ x. x && is_well_formed cs) h ∙ pick cs ∙ sym (ap (λ x. goes_on_well x cs) (high_no_low c h))
  where
    pick : (cs : List ℕ) → is_well_formed cs ≡ goes_on_well false cs
    pick [] = refl
    pick (d ∷ cs) = refl
halves-go_on false c [] h = ap not (ap (λ x. is_high c || x) h ∙ sym (or_nothing (is_high c)))
halves-go_on false c (d ∷ cs) h = (λ i. cond (is_high c) (is_low d && is_well_formed cs) (not (h i) && is_well_formed (d ∷ cs))) ∙ pick (is_high c)
  where
    pick : (b : Bool) → cond b (is_low d && is_well_formed cs) (is_well_formed (d ∷ cs)) ≡ goes_on_well b (d ∷ cs)
    pick true = refl
    pick false = refl

pub begins_well : (cs : List ℕ) → goes_on_well false cs ≡ is_well_formed cs
begins_well [] = refl
begins_well (c ∷ cs) = refl

pub tests_same : (a b : Bool) → not (beq a b) ≡ false → a ≡ b
tests_same true true h = refl
tests_same false false h = refl
tests_same true false h = absurd (false≢true (sym h))
tests_same false true h = absurd (false≢true (sym h))

pub tests_differ : (a b : Bool) → not (beq a b) ≡ true → a ≡ not b
tests_differ true true h = absurd (false≢true h)
tests_differ false false h = absurd (false≢true h)
tests_differ true false h = refl
tests_differ false true h = refl

-- ---- exported names that stand twice

-- the names that were seen, with one more
pub seen_more : (f g : List ℕ → Option (Unit {0})) (ys : List Named) (x : Named) → Agree g (with_value f x.0 (Some tt)) → ((w : List ℕ) → is_some (f w) ≡ has_name w (behind [] ys)) → (w : List ℕ) →
    is_some (g w) ≡ has_name w (behind [] (ys ++ x ∷ []))
seen_more f g ys x a h w = ap is_some (a w) ∙ ap (λ b. is_some (cond b (Some tt) (f w))) (bytes-turned x.0 w) ∙ pick (bytes_eq w x.0) ∙ sym (ap (has_name w) (behind-more [] ys x))
  where
    pick : (b : Bool) → is_some (cond b (Some tt) (f w)) ≡ (b || has_name w (behind [] ys))
    pick true = refl
    pick false = h w

pub more_exported : (xs : List ExportedName) (i : ℕ) (d : ExportedName) → i < length xs → all_exported (take (i + 1) xs) ≡ all_exported (take i xs) ++ exported_shown (get_or xs i d) ∷ []
more_exported xs i d h = ap all_exported (take_more xs i d h) ∙ map-append exported_shown (take i xs) (get_or xs i d ∷ [])

pub doubled_more : (e : EarlyError) (o q : Option Error) (ys : List Named) (x : Named) (b : Bool) → has_name x.0 (behind [] ys) ≡ b → q ≡ after o (each e (places (twice ys))) →
    after q (each e (when b (x.1 ∷ []))) ≡ after o (each e (places (twice (ys ++ x ∷ []))))
doubled_more e o q ys x b h so =
    let last : places (cond b (x ∷ []) []) ≡ when b (x.1 ∷ []) = pick b in
    ap (λ r. after r (each e (when b (x.1 ∷ [])))) so ∙ sym (after-append o (each e (places (twice ys))) (each e (when b (x.1 ∷ []))))
    ∙ ap (after o) (sym (ap (λ l. each e (places l)) (repeated-more [] ys x ∙ ap (λ c. twice ys ++ cond c (x ∷ []) []) h)
    ∙ ap (each e) (map-append (λ x. x.1) (twice ys) (cond b (x ∷ []) []) ∙ ap (λ l. places (twice ys) ++ l) last) ∙ each-append e (places (twice ys)) (when b (x.1 ∷ []))))
  where
    pick : (b : Bool) → places (cond b (x ∷ []) []) ≡ when b (x.1 ∷ [])
    pick true = refl
    pick false = refl

module _ (xs : List ExportedName) (i : ℕ) (d y : ExportedName) (l : i < length xs) (is : get_or xs i d ≡ y) where
  same_more : all_exported (take (i + 1) xs) ≡ all_exported (take i xs) ++ exported_shown y ∷ []
  same_more = more_exported xs i d l ∙ ap (λ x. all_exported (take i xs) ++ exported_shown x ∷ []) is

  pub exported_turn : (o q : Option Error) (b : Bool) → has_name y.units.items (behind [] (all_exported (take i xs))) ≡ b → q ≡ after o (each DuplicateExport (places (twice (all_exported (take i xs))))) →
      after q (each DuplicateExport (when b (y.start ∷ []))) ≡ after o (each DuplicateExport (places (twice (all_exported (take (i + 1) xs)))))
  exported_turn o q b h so = doubled_more DuplicateExport o q (all_exported (take i xs)) (exported_shown y) b h so ∙ ap (λ ys. after o (each DuplicateExport (places (twice ys)))) (sym same_more)

  pub seen_turn : (f g : List ℕ → Option (Unit {0})) (v : List ℕ) → v ≡ y.units.items → Agree g (with_value f v (Some tt)) → ((w : List ℕ) → is_some (f w) ≡ has_name w (behind [] (all_exported (take i xs)))) → (w : List ℕ) →
      is_some (g w) ≡ has_name w (behind [] (all_exported (take (i + 1) xs)))
  seen_turn f g v e a h w = seen_more f g (all_exported (take i xs)) (exported_shown y) (subst (λ u. Agree g (with_value f u (Some tt))) e a) h w ∙ ap (λ ys. has_name w (behind [] ys)) (sym same_more)

-- ---- the names of a Program's exports

pub twice_exported : (t : Tree) → own_of (kind_of t) ≡ own.Exports → each DuplicateExport (places (twice (each_part exported_names (parts_of t)))) ≡ each DuplicateExport (duplicate_export t)
unfolding duplicate_export
twice_exported (node Program w g s e ps) h = refl
twice_exported (node _ w g s e ps) h = absurd (cc)

pub none_twice : (t : Tree) → each_part exported_names (parts_of t) ≡ [] → each DuplicateExport (duplicate_export t) ≡ []
unfolding duplicate_export
none_twice (node Program w g s e ps) h = ap (λ xs. each DuplicateExport (places (twice xs))) h
none_twice (node _ w g s e ps) h = refl

pub none_undeclared : (t : Tree) → each_part locals (parts_of t) ≡ [] → each UndeclaredExport (undeclared_export t) ≡ []
unfolding undeclared_export
none_undeclared (node Program w g s e ps) h = ap (λ xs. each UndeclaredExport (starts_of (filter (λ x. not (is_no_name x || has_name (text_of x) (each_part (lexical_names true) ps ++ parts_vars ps))) xs))) h
none_undeclared (node _ w g s e ps) h = refl

-- a name that is imported
pub import_given : (t : Tree) → own_of (kind_of t) ≡ own.Import → lexical_names false t ≡ each_part import_name (parts_of t)
import_given (node ImportDeclaration w g s e ps) h = refl
import_given (node _ w g s e ps) h = absurd (cc)

-- ---- strings with a lone surrogate, among the first so many parts

abbrev pub lone_of : List ℕ → List Error
lone_of xs = each LoneSurrogate xs

one_less : (n i : ℕ) → i < n → n - i ≡ suc (n - (i + 1))
one_less n i l = omega arith

pub lone-given : (ps : Parts) (i n : ℕ) (t : Tree) (b : Bool) (s : ℕ) (q r total : Option Error) → i < n → Some t ≡ part_at ps i → b ≡ string_of t → s ≡ start_of t → r ≡ after q (lone_of (when b (s ∷ []))) →
    after q (lone_of (lone_parts (first_parts (n - i) (walk.parts_drop i ps)))) ≡ total → after r (lone_of (lone_parts (first_parts (n - (i + 1)) (walk.parts_drop (i + 1) ps)))) ≡ total
lone-given ps i n t b s q r total l e h k x so =
    let xs = when (string_of t) (start_of t ∷ []) in
    let ys = lone_parts (first_parts (n - (i + 1)) (walk.parts_drop (i + 1) ps)) in
    ap (λ o. after o (lone_of ys)) (x ∙ (λ j. after q (lone_of (when (h j) (k j ∷ []))))) ∙ sym (after-append q (lone_of xs) (lone_of ys)) ∙ ap (after q) (sym (each-append LoneSurrogate xs ys))
    ∙ sym (λ j. after q (lone_of (lone_parts (first_parts (one_less n i l j) (walk.parts_drop-some ps i t e j))))) ∙ so

pub lone-missing : (ps : Parts) (i n : ℕ) (q total : Option Error) → i < n → None ≡ part_at ps i →
    after q (lone_of (lone_parts (first_parts (n - i) (walk.parts_drop i ps)))) ≡ total → after q (lone_of (lone_parts (first_parts (n - (i + 1)) (walk.parts_drop (i + 1) ps)))) ≡ total
lone-missing ps i n q total l e so = pick (leb_tells (part_count ps) i)
  where
    nothing : (k : ℕ) → lone_parts (first_parts k none) ≡ []
    nothing zero = refl
    nothing (suc k) = refl

    pick : ((leb (part_count ps) i ≡ true) × (part_count ps ≤ i)) ⊎ ((leb (part_count ps) i ≡ false) × (i < part_count ps)) →
        after q (lone_of (lone_parts (first_parts (n - (i + 1)) (walk.parts_drop (i + 1) ps)))) ≡ total
    pick (inl h) =
        (λ j. after q (lone_of (lone_parts (first_parts (n - (i + 1)) (walk.parts_drop-past ps (i + 1) (omega (arith, h.1)) j))))) ∙ ap (λ xs. after q (lone_of xs)) (nothing (n - (i + 1)) ∙ sym (nothing (n - i)))
        ∙ sym (λ j. after q (lone_of (lone_parts (first_parts (n - i) (walk.parts_drop-past ps i h.1 j))))) ∙ so
    pick (inr h) = sym (λ j. after q (lone_of (lone_parts (first_parts (one_less n i l j) (walk.parts_drop-gap ps i e h.1 j))))) ∙ so

pub lone-end : (ps : Parts) (i n : ℕ) (q total : Option Error) → n ≤ i → after q (lone_of (lone_parts (first_parts (n - i) (walk.parts_drop i ps)))) ≡ total → q ≡ total
lone-end ps i n q total l so = let none_left : n - i ≡ 0 = omega arith in sym (sooner-none q) ∙ sym (ap (λ k. after q (lone_of (lone_parts (first_parts k (walk.parts_drop i ps))))) none_left) ∙ so

all_first : (ps : Parts) → first_parts (part_count ps) ps ≡ ps
all_first none = refl
all_first (part t ps) = ap (λ k. first_parts k (part t ps)) (add-one (part_count ps)) ∙ ap (part t) (all_first ps)
all_first (gap ps) = ap (λ k. first_parts k (gap ps)) (add-one (part_count ps)) ∙ ap gap (all_first ps)

pub lone_whole : (ps : Parts) (n : ℕ) → n ≡ part_count ps → lone_parts (first_parts n ps) ≡ lone_parts ps
lone_whole ps n e = ap lone_parts (ap (λ k. first_parts k ps) e ∙ all_first ps)

pub lone_first : (ps : Parts) → lone_parts (first_parts 1 ps) ≡ lone_parts (first_only ps)
lone_first none = refl
lone_first (part t ps) = refl
lone_first (gap ps) = refl

pub lone_given : (t : Tree) (q : Bool) (w us : List ℕ) → q ≡ is_string_literal (kind_of t) (text_of t) → q ≡ true → w ≡ text_of t → us ≡ string_units (chars w) → not (is_well_formed us) ≡ string_of t
lone_given t q w us e h k m =
    ap (λ x. not (is_well_formed x)) (m ∙ ap string_units (ap chars k ∙ sym (points_are_chars (text_of t)))) ∙ ap (λ b. b && not (is_well_formed (literal_units (text_of t)))) (sym h ∙ e)

-- ---- names and strings of imports and exports

pub in_units_of : (x : Named) → (units_of_name x.0, x.1) ≡ in_units x
in_units_of x = ap (λ w. (literal_units w, x.1)) (sym (append_assoc (codes "'") x.0 (codes "'")))

pub word_name : (t : Tree) (q : Bool) (w : List ℕ) (s : ℕ) → q ≡ is_string_literal (kind_of t) (text_of t) → q ≡ false → w ≡ text_of t → s ≡ start_of t → (units_of_name w, s) ∷ [] ≡ module_name_at t ∷ []
word_name t q w s e h k m =
    (λ i. (units_of_name (k i), m i) ∷ []) ∙ ap (λ x. x ∷ []) (in_units_of (text_of t, start_of t))
    ∙ ap (λ b. (cond b (literal_units (text_of t)) (literal_units (codes "'" ++ text_of t ++ codes "'")), start_of t) ∷ []) (sym h ∙ e)

pub quoted_name : (t : Tree) (q : Bool) (w us : List ℕ) (s : ℕ) → q ≡ is_string_literal (kind_of t) (text_of t) → q ≡ true → w ≡ text_of t → us ≡ string_units (chars w) → s ≡ start_of t → (us, s) ∷ [] ≡ module_name_at t ∷ []
quoted_name t q w us s e h k n m =
    (λ i. ((n ∙ ap string_units (ap chars k ∙ sym (points_are_chars (text_of t)))) i, m i) ∷ [])
    ∙ ap (λ b. (cond b (literal_units (text_of t)) (literal_units (codes "'" ++ text_of t ++ codes "'")), start_of t) ∷ []) (sym h ∙ e)

pub units_given : (v b name : List ℕ) → v ≡ string_units (chars b) → b ≡ codes "'" ++ (name ++ codes "'") → v ≡ units_of_name name
units_given v b name e h = e ∙ ap (λ w. string_units (chars w)) h ∙ ap string_units (sym (points_are_chars (codes "'" ++ (name ++ codes "'"))))

-- a name between quotes, as it is pushed
pub quoted_bytes : (a b c d w name : List ℕ) → a ≡ [] → b ≡ a ++ encode 39 → c ≡ b ++ name → d ≡ c ++ encode 39 → w ≡ d → w ≡ codes "'" ++ (name ++ codes "'")
quoted_bytes a b c d w name h k m n o =
    let quote : encode 39 ≡ codes "'" = encode_ascii 39 (omega arith) in o ∙ n ∙ (λ i. c ++ quote i) ∙ ap (λ x. x ++ codes "'") (m ∙ ap (λ x. x ++ name) (k ∙ (λ i. h i ++ quote i)))

pub as_exported_more : (xs : List walked.Named) (i : ℕ) (x : walked.Named) (old now new : List Named) → i < length xs → now ≡ old ++ map in_units (all_named (take i xs)) → new ≡ now ++ (units_of_name (get_or xs i x).name.now, (get_or xs i x).start) ∷ [] →
    new ≡ old ++ map in_units (all_named (take (i + 1) xs))
as_exported_more xs i x old now new l h k =
    let y = named (get_or xs i x) in
    k ∙ ap (λ n. n ++ (units_of_name y.0, y.1) ∷ []) h ∙ append_assoc old (map in_units (all_named (take i xs))) ((units_of_name y.0, y.1) ∷ [])
    ∙ ap (λ z. old ++ (map in_units (all_named (take i xs)) ++ z ∷ [])) (in_units_of y) ∙ ap (λ n. old ++ n) (sym (ap (map in_units) (one_more xs i x l) ∙ map-append in_units (all_named (take i xs)) (y ∷ [])))

pub variable_names : (t : Tree) → kind_of t ≡ VariableDeclaration → declared_names (parts_of t) ≡ own_names t
variable_names (node VariableDeclaration w g s e ps) h = refl
variable_names (node _ w g s e ps) h = absurd (cc)

pub other_names : (t : Tree) → (kind_of t ≡ VariableDeclaration → ⊥) → names_at (part_at (parts_of t) 0) ≡ own_names t
other_names (node VariableDeclaration w g s e ps) h = absurd (h refl)
other_names (node _ w g s e ps) h = sym (first_names-at ps)

last_given : (ps : Parts) (k : ℕ) → part_count ps ≡ suc k → module_names_at (part_at ps k) ≡ each_tree (λ x. module_name_at x ∷ []) (last_part ps)
last_given none k e = absurd (omega (arith, e))
last_given (part n none) zero e = refl
last_given (part n none) (suc k) e = absurd (omega (arith, e))
last_given (part n (part m ps)) zero e = absurd (omega (arith, e))
last_given (part n (part m ps)) (suc k) e = last_given (part m ps) k (omega (arith, e))
last_given (part n (gap ps)) zero e = absurd (omega (arith, e))
last_given (part n (gap ps)) (suc k) e = last_given (gap ps) k (omega (arith, e))
last_given (gap none) zero e = refl
last_given (gap none) (suc k) e = absurd (omega (arith, e))
last_given (gap (part m ps)) zero e = absurd (omega (arith, e))
last_given (gap (part m ps)) (suc k) e = last_given (part m ps) k (omega (arith, e))
last_given (gap (gap ps)) zero e = absurd (omega (arith, e))
last_given (gap (gap ps)) (suc k) e = last_given (gap ps) k (omega (arith, e))

last-at : (ps : Parts) → module_names_at (part_at ps (part_count ps - 1)) ≡ each_tree (λ x. module_name_at x ∷ []) (last_part ps)
last-at none = refl
last-at (part t ps) = let k : part_count ps + 1 - 1 ≡ part_count ps = omega arith in ap (λ j. module_names_at (part_at (part t ps) j)) k ∙ last_given (part t ps) (part_count ps) (add-one (part_count ps))
last-at (gap ps) = let k : part_count ps + 1 - 1 ≡ part_count ps = omega arith in ap (λ j. module_names_at (part_at (gap ps) j)) k ∙ last_given (gap ps) (part_count ps) (add-one (part_count ps))

pub specifier_given : (t : Tree) → kind_of t ≡ ExportSpecifier → module_names_at (part_at (parts_of t) (part_count (parts_of t) - 1)) ≡ specifier_name t
specifier_given (node ExportSpecifier w g s e ps) h = last-at ps
specifier_given (node _ w g s e ps) h = absurd (cc)

pub declaration_given : (t : Tree) → map in_units (own_names t) ≡ declaration_exports t
declaration_given (node VariableDeclaration w g s e ps) = refl
declaration_given (node _ w g s e ps) = refl

-- what an item exports, by its kind
pub default_exports : (t : Tree) (s : ℕ) → kind_of t ≡ ExportDefaultDeclaration → s ≡ start_of t → (units_of_name (codes "default"), s) ∷ [] ≡ exported_names t
default_exports (node ExportDefaultDeclaration w g b e ps) s h k = ap (λ x. (codes "default", x) ∷ []) k
default_exports (node _ w g b e ps) s h k = absurd (cc)

pub all_exports : (t : Tree) → kind_of t ≡ ExportAllDeclaration → module_names_at (part_at (parts_of t) 0) ≡ exported_names t
all_exports (node ExportAllDeclaration w g s e none) h = refl
all_exports (node ExportAllDeclaration w g s e (part n ps)) h = refl
all_exports (node ExportAllDeclaration w g s e (gap ps)) h = refl
all_exports (node _ w g s e ps) h = absurd (cc)

-- ---- names that a module doesn't declare

pub known_more : (f g : List ℕ → Option (Unit {0})) (ys : List Named) (x : Named) (h : List ℕ → Option (Unit {0})) → Agree g (with_value f x.0 (Some tt)) → ((w : List ℕ) → is_some (f w) ≡ (has_name w ys || is_some (h w))) → (w : List ℕ) →
    is_some (g w) ≡ (has_name w (ys ++ x ∷ []) || is_some (h w))
known_more f g ys x h a so w =
    ap is_some (a w) ∙ ap (λ b. is_some (cond b (Some tt) (f w))) (bytes-turned x.0 w) ∙ pick (bytes_eq w x.0) ∙ ap (λ b. b || is_some (h w)) (sym (has_name-more w ys x))
  where
    or_groups : (b c d : Bool) → (b || (c || d)) ≡ ((b || c) || d)
    or_groups true c d = refl
    or_groups false c d = refl

    pick : (b : Bool) → is_some (cond b (Some tt) (f w)) ≡ ((b || has_name w ys) || is_some (h w))
    pick true = refl
    pick false = so w

pub undeclared_found : (f : List ℕ → Option (Unit {0})) (t : Tree) (ns : List Named) → own_of (kind_of t) ≡ own.Exports → ((w : List ℕ) → is_some (f w) ≡ has_name w ns) → ns ≡ each_part (lexical_names true) (parts_of t) ++ var_names t →
    each UndeclaredExport (undeclared f (each_part locals (parts_of t))) ≡ each UndeclaredExport (undeclared_export t)
unfolding undeclared_export var_names
undeclared_found f (node Program w g s e ps) ns h k m =
    (λ i. each UndeclaredExport (starts_of (filter (λ x. not (is_no_name x || (k (text_of x) ∙ ap (has_name (text_of x)) m) i)) (each_part locals ps))))
undeclared_found f (node _ w g s e ps) ns h k m = absurd (cc)
