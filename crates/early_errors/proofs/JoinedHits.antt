-- What a walk has found behind one part and behind the next, and behind all parts of a node.
use Rattle.std.proofs.Common.{◌≡◌, ◌≢◌, ℕ, ◌+◌, ◌-◌, ◌<◌, true, false, cond, nat_eq, List, [], ◌∷◌, ◌++◌, Option, Some, None, refl, sym, ap, ◌∙◌, arith}
use Rattle.std.proofs.lemmas.Bool.Decides.{nat_tests}
use Rattle.std.proofs.lemmas.Bool.{false≢true}
use Rattle.tree.specs.declared.kind.Kind.TheVariants.{Program, StaticBlock, BlockStatement, SwitchStatement, CatchClause, ForStatement, ForInStatement, ForOfStatement}
use Rattle.tree.specs.Tree.{Tree, node, Parts, kind_of, flags_of, parts_of, part_at, part_count}
use Rattle.early_errors.specs.declared.around.Context.{Context as Code}
use Rattle.early_errors.specs.declared.EarlyError.{EarlyError}
use Rattle.early_errors.specs.Around.{Around, settled, around_first, around_others}
use Rattle.early_errors.specs.Names.{Named, var_names, parts_vars}
use Rattle.early_errors.specs.Early.{Error, own_errors, errors_within, least}
use Rattle.early_errors.specs.Owns.{Beside, round, makes_scope, plain_errors, vars_of, clash_with}
use Rattle.name_tables.specs.PatternParts.{at_part}
use Rattle.name_tables.specs.Tables.{Agree}
use Rattle.early_errors.specs.Walk.{sooner, after, hits, clashing}
use Rattle.early_errors.specs.Walks.{errors_at, vars_at, range_errors, range_vars}
use Rattle.early_errors.proofs.Least.{sooner-none, sooner-twice, sooner-turns, after-append}
use Rattle.early_errors.proofs.PartRanges.{ranged-step, errors-split, errors-behind, errors_whole, vars-split, vars_whole}
use Rattle.early_errors.proofs.VarConflictSymmetry.{hits-agree, turned}

pub hits-append : (f : List ℕ → Option Error) (us vs : List Named) → hits f (us ++ vs) ≡ sooner (hits f us) (hits f vs)
hits-append f [] vs = refl
hits-append f (u ∷ us) vs = ap (sooner (f u.0)) (hits-append f us vs) ∙ sym (sooner-twice (f u.0) (hits f us) (hits f vs))

pub hits-none : (f : List ℕ → Option Error) → Agree f (λ w. None) → (vs : List Named) → hits f vs ≡ None
hits-none f h [] = refl
hits-none f h (v ∷ vs) = λ i. sooner (h v.0 i) (hits-none f h vs i)

pub joined : (f : List ℕ → Option Error) (o : Option Error) (xs ys : List Error) (us vs : List Named) → sooner (after (sooner (after o xs) (hits f us)) ys) (hits f vs) ≡ sooner (after o (xs ++ ys)) (hits f (us ++ vs))
joined f o xs ys us vs =
    ap (λ p. sooner p (hits f vs)) (sooner-turns (after o xs) (hits f us) (least ys))
    ∙ sooner-twice (after (after o xs) ys) (hits f us) (hits f vs)
    ∙ (λ i. sooner (sym (after-append o xs ys) i) (sym (hits-append f us vs) i))

-- ---- one part

module _ (f : List ℕ → Option Error) (y z : Around) (ps : Parts) (i n : ℕ) (l : i < n) (total : Option Error) where
  pub part-turn : (q r : Option Error) → r ≡ sooner (after q (errors_at y z ps i)) (hits f (vars_at ps i)) → sooner (after q (range_errors y z ps i (n - i))) (hits f (range_vars ps i (n - i))) ≡ total →
      sooner (after r (range_errors y z ps (i + 1) (n - (i + 1)))) (hits f (range_vars ps (i + 1) (n - (i + 1)))) ≡ total
  part-turn q r e so =
      let xs = range_errors y z ps (i + 1) (n - (i + 1)) in
      let vs = range_vars ps (i + 1) (n - (i + 1)) in
      ap (λ p. sooner (after p xs) (hits f vs)) e ∙ joined f q (errors_at y z ps i) xs (vars_at ps i) vs
      ∙ (λ j. sooner (after q (sym (ranged-step (errors_at y z ps) i n l) j)) (hits f (sym (ranged-step (vars_at ps) i n l) j)))
      ∙ so

pub part-given : (f g : List ℕ → Option Error) (x y z : Around) (ps : Parts) (i : ℕ) (u : Tree) (q r : Option Error) → Agree g f → Some u ≡ part_at ps i → x ≡ cond (nat_eq i 0) y z →
    r ≡ sooner (after q (errors_within x u)) (hits g (var_names u)) → r ≡ sooner (after q (errors_at y z ps i)) (hits f (vars_at ps i))
part-given f g x y z ps i u q r a e k h =
    h ∙ (λ j. sooner (after q (errors_within (k j) u)) (hits-agree g f (var_names u) a j))
    ∙ ap (λ o. sooner (after q (at_part (errors_within (cond (nat_eq i 0) y z)) o)) (hits f (at_part var_names o))) e

pub part-missing : (f : List ℕ → Option Error) (y z : Around) (ps : Parts) (i : ℕ) (q r : Option Error) → None ≡ part_at ps i → r ≡ q → r ≡ sooner (after q (errors_at y z ps i)) (hits f (vars_at ps i))
part-missing f y z ps i q r e h =
    h ∙ sym (sooner-none q) ∙ sym (sooner-none (sooner q None))
    ∙ (λ j. sooner (after q (at_part (errors_within (cond (nat_eq i 0) y z)) (e j))) (hits f (at_part var_names (e j))))

-- what holds round the part at a place
pub first-round : (first others around : Code) (i : ℕ) (r : Beside) → i ≡ 0 → around ≡ first → round around r ≡ cond (nat_eq i 0) (round first r) (round others r)
first-round first others around i r e h =
    let b : nat_eq i 0 ≡ true = grind (arith, nat_tests) in
    ap (λ a. round a r) h ∙ sym (ap (λ c. cond c (round first r) (round others r)) b)

pub other-round : (first others around : Code) (i : ℕ) (r : Beside) → i ≢ 0 → around ≡ others → round around r ≡ cond (nat_eq i 0) (round first r) (round others r)
other-round first others around i r e h =
    let b : nat_eq i 0 ≡ false = grind (arith, nat_tests) in
    ap (λ a. round a r) h ∙ sym (ap (λ c. cond c (round first r) (round others r)) b)

pub from_start : (n : ℕ) → n - 0 ≡ n
from_start n = omega arith

-- ---- all parts

module _ (o q : Option Error) (f : List ℕ → Option Error) (z y w : Around) (t : Tree) (n : ℕ) (still : settled z (kind_of t) ≡ z) (count : n ≡ part_count (parts_of t))
    (first : y ≡ around_first z (kind_of t) (flags_of t) (parts_of t)) (others : w ≡ around_others z (kind_of t) (flags_of t) (parts_of t)) where
  whole : own_errors z t ++ range_errors y w (parts_of t) 0 n ≡ errors_within z t
  whole = (λ i. own_errors z t ++ range_errors (first i) (others i) (parts_of t) 0 n) ∙ sym (errors_whole z t n still count)

  -- those of a node that is no function
  pub parts-found : (g : List ℕ → Option Error) (r : Option Error) → plain_errors z t ≡ own_errors z t → var_names t ≡ vars_of t ++ parts_vars (parts_of t) → Agree g f → q ≡ sooner (after o (plain_errors z t)) (hits f (vars_of t)) →
      r ≡ sooner (after q (range_errors y w (parts_of t) 0 n)) (hits g (range_vars (parts_of t) 0 n)) → r ≡ sooner (after o (errors_within z t)) (hits f (var_names t))
  parts-found g r p v a e h =
      let xs = range_errors y w (parts_of t) 0 n in
      let vs = range_vars (parts_of t) 0 n in
      h ∙ (λ i. sooner (after (e i) xs) (hits-agree g f vs a i)) ∙ joined f o (plain_errors z t) xs (vars_of t) vs
      ∙ (λ i. sooner (after o ((ap (λ x. x ++ xs) p ∙ whole) i)) (hits f ((ap (λ x. vars_of t ++ x) (sym (vars_whole (parts_of t) n count)) ∙ sym v) i)))

  -- those of a function
  pub function-found : (g : List ℕ → Option Error) (r : Option Error) → plain_errors z t ≡ own_errors z t → var_names t ≡ [] → vars_of t ≡ [] → Agree g (λ w. None) → q ≡ sooner (after o (plain_errors z t)) (hits f (vars_of t)) →
      r ≡ sooner (after q (range_errors y w (parts_of t) 0 n)) (hits g (range_vars (parts_of t) 0 n)) → r ≡ sooner (after o (errors_within z t)) (hits f (var_names t))
  function-found g r p v u a e h =
      let xs = range_errors y w (parts_of t) 0 n in
      let vs = range_vars (parts_of t) 0 n in
      h ∙ (λ i. sooner (after ((e ∙ ap (λ x. sooner (after o (plain_errors z t)) (hits f x)) u ∙ sooner-none (after o (plain_errors z t))) i) xs) (hits-none g a vs i))
      ∙ ap (λ x. sooner x None) (sym (after-append o (plain_errors z t) xs) ∙ ap (after o) (ap (λ x. x ++ xs) p ∙ whole))
      ∙ ap (λ x. sooner (after o (errors_within z t)) (hits f x)) (sym v)

-- the parts in two goes, with the same table
pub two-goes : (f g h : List ℕ → Option Error) (q r s : Option Error) (v x y z : Around) (ps : Parts) (n : ℕ) → n ≡ part_count ps → Agree g f → Agree h f →
    r ≡ sooner (after q (range_errors y v ps 0 1)) (hits g (range_vars ps 0 1)) → s ≡ sooner (after r (range_errors x z ps 1 (n - 1))) (hits h (range_vars ps 1 (n - 1))) →
    s ≡ sooner (after q (range_errors y z ps 0 n)) (hits f (range_vars ps 0 n))
two-goes f g h q r s v x y z ps n count a b d e =
    e ∙ (λ i. sooner (after (d i) (errors-behind x y z ps 0 (n - 1) i)) (hits-agree h f (range_vars ps 1 (n - 1)) b i))
    ∙ ap (λ p. sooner (after (sooner (after q (range_errors y z ps 0 1)) p) (range_errors y z ps 1 (n - 1))) (hits f (range_vars ps 1 (n - 1)))) (hits-agree g f (range_vars ps 0 1) a)
    ∙ joined f q (range_errors y z ps 0 1) (range_errors y z ps 1 (n - 1)) (range_vars ps 0 1) (range_vars ps 1 (n - 1))
    ∙ (λ i. sooner (after q (errors-split y z ps 1 n count i)) (hits f (vars-split ps 1 n count i)))

-- ---- a scope

-- the `var`s of a scope are those of its parts, but for a static block, which has them alone
pub scope_hits : (f : List ℕ → Option Error) (t : Tree) → makes_scope (kind_of t) ≡ true → (kind_of t ≡ StaticBlock → Agree f (λ w. None)) → hits f (var_names t) ≡ hits f (parts_vars (parts_of t))
unfolding var_names
scope_hits f (node Program w g s e ps) h a = refl
scope_hits f (node StaticBlock w g s e ps) h a = sym (hits-none f (a refl) (parts_vars ps))
scope_hits f (node BlockStatement w g s e ps) h a = refl
scope_hits f (node SwitchStatement w g s e ps) h a = refl
scope_hits f (node CatchClause w g s e ps) h a = refl
scope_hits f (node ForStatement w g s e ps) h a = refl
scope_hits f (node ForInStatement w g s e ps) h a = refl
scope_hits f (node ForOfStatement w g s e ps) h a = refl
scope_hits f (node _ w g s e ps) h a = absurd (false≢true h)

-- the clashes of a scope's names are its own errors
rearranged : (o c p d : Option Error) (e h : Option Error) → sooner (sooner (sooner (sooner (sooner o p) d) e) h) c ≡ sooner (sooner (sooner o (sooner p (sooner d c))) e) h
rearranged o c p d e h =
    sooner-turns (sooner (sooner (sooner o p) d) e) h c
    ∙ ap (λ x. sooner x h) (sooner-turns (sooner (sooner o p) d) e c ∙ ap (λ x. sooner x e) (sooner-twice (sooner o p) d c ∙ sooner-twice o p (sooner d c)))

module _ (o q : Option Error) (f : List ℕ → Option Error) (z y w : Around) (t : Tree) (n m : ℕ) (still : settled z (kind_of t) ≡ z) (count : n ≡ part_count (parts_of t)) (error : EarlyError) (ns : List Named) (ds : List Error)
    (first : y ≡ around_first z (kind_of t) (flags_of t) (parts_of t)) (others : w ≡ around_others z (kind_of t) (flags_of t) (parts_of t)) where
  pub scope-found : (g h k : List ℕ → Option Error) (q' r s : Option Error) →
      least (own_errors z t) ≡ sooner (least (plain_errors z t)) (sooner (least ds) (least (clash_with error ns (range_vars (parts_of t) m (n - m))))) →
      hits f (var_names t) ≡ hits f (parts_vars (parts_of t)) → vars_of t ≡ [] → Agree g f → Agree h f → Agree k (clashing h error ns) →
      q ≡ sooner (after o (plain_errors z t)) (hits f (vars_of t)) → q' ≡ after q ds →
      r ≡ sooner (after q' (range_errors y w (parts_of t) 0 m)) (hits g (range_vars (parts_of t) 0 m)) →
      s ≡ sooner (after r (range_errors y w (parts_of t) m (n - m))) (hits k (range_vars (parts_of t) m (n - m))) →
      s ≡ sooner (after o (errors_within z t)) (hits f (var_names t))
  scope-found g h k q' r s own v u a b c e d i j =
      let xs = range_errors y w (parts_of t) 0 m in
      let ys = range_errors y w (parts_of t) m (n - m) in
      let us = range_vars (parts_of t) 0 m in
      let vs = range_vars (parts_of t) m (n - m) in
      let clashes = least (clash_with error ns vs) in
      let start : q' ≡ sooner (sooner o (least (plain_errors z t))) (least ds) = d ∙ ap (λ x. after x ds) (e ∙ ap (λ x. sooner (after o (plain_errors z t)) (hits f x)) u ∙ sooner-none (after o (plain_errors z t))) in
      let inner : hits k vs ≡ sooner (hits f vs) clashes = hits-agree k (clashing h error ns) vs c ∙ turned h error ns vs ∙ ap (λ x. sooner x clashes) (hits-agree h f vs b) in
      let before : r ≡ sooner (after q' xs) (hits f us) = i ∙ ap (sooner (after q' xs)) (hits-agree g f us a) in
      j ∙ (λ l. sooner (after (before l) ys) (inner l))
      ∙ sym (sooner-twice (after (sooner (after q' xs) (hits f us)) ys) (hits f vs) clashes)
      ∙ ap (λ x. sooner x clashes) (joined f q' xs ys us vs)
      ∙ (λ l. sooner (sooner (after (start l) (errors-split y w (parts_of t) m n count l)) ((ap (hits f) (vars-split (parts_of t) m n count ∙ sym (vars_whole (parts_of t) n count)) ∙ sym v) l)) clashes)
      ∙ rearranged o clashes (least (plain_errors z t)) (least ds) (least (range_errors y w (parts_of t) 0 n)) (hits f (var_names t))
      ∙ ap (λ x. sooner (sooner (sooner o x) (least (range_errors y w (parts_of t) 0 n))) (hits f (var_names t))) (sym own)
      ∙ ap (λ x. sooner x (hits f (var_names t))) (sym (after-append o (own_errors z t) (range_errors y w (parts_of t) 0 n)) ∙ ap (after o) ((λ l. own_errors z t ++ range_errors (first l) (others l) (parts_of t) 0 n) ∙ sym (errors_whole z t n still count)))

-- where no `var` stands behind the place, names that clash change nothing
pub none-clash : (h k : List ℕ → Option Error) (r s : Option Error) (ys : List Error) (vs : List Named) → vs ≡ [] → s ≡ sooner (after r ys) (hits h vs) → s ≡ sooner (after r ys) (hits k vs)
none-clash h k r s ys vs e j = j ∙ ap (λ v. sooner (after r ys) (hits h v)) e ∙ sym (ap (λ v. sooner (after r ys) (hits k v)) e)
