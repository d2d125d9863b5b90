-- How the errors of a node come together from those that its function finds.
use Rattle.std.proofs.Common.{◌≡◌, ℕ, Bool, true, false, not, List, [], ◌∷◌, Option, filter, refl, sym, ap, ◌∙◌}
use Rattle.std.specs.Prelude.{◌||◌, ◌&&◌, codes}
use Rattle.tree.specs.declared.kind.Flags.{Flags}
use Rattle.tree.specs.Tree.{Tree, kind_of, start_of, parts_of, flags_of, part_at}
use Prim.Native.String.{String}
use Rattle.tree.specs.Uses.{is_init}
use Rattle.language.specs.Expressions.{value_form}
use Rattle.early_errors.specs.Classes.{has_key, key_places, named}
use Rattle.early_errors.specs.declared.EarlyError.TheVariants.{MisplacedJump, UndefinedLabel, SpecialConstructor, StaticPrototype, FieldNamedConstructor}
use Rattle.early_errors.specs.declared.own.OwnErrors.TheVariants as own
use Rattle.early_errors.specs.Around.{Around, is_accessor}
use Rattle.early_errors.specs.Names.{Named, places, when, first_names}
use Rattle.early_errors.specs.Labels.{is_bare, labels_statement, labels_a_loop}
use Rattle.early_errors.specs.Early.{Error, each, least, own_errors}
use Rattle.early_errors.specs.Owns.{own_of, misses, form_at, key_says, places_at}
use Rattle.early_errors.specs.Walk.{after}
use Rattle.early_errors.proofs.Least.{after-append, sooner-turns}
use Rattle.early_errors.proofs.OwnErrorsByKind.{small_given}
use Rattle.early_errors.proofs.MemberKeys.{key-says, key-places, special-places}
use Rattle.early_errors.proofs.Jumps.{Answers, misses_any, misses_loop}

pub breaks : (z : Around) (t : Tree) (f : List ℕ → Option Bool) (ns : List Named) (b may : Bool) (s : ℕ) (o p q : Option Error) → own_of (kind_of t) ≡ own.Break → Answers f z.labels → ns ≡ first_names (parts_of t) →
    s ≡ start_of t → may ≡ (z.in_loop || z.in_switch) → b ≡ (is_bare (parts_of t) && not may) → p ≡ after o (each MisplacedJump (when b (s ∷ []))) → q ≡ after p (each UndefinedLabel (places (filter (misses false f) ns))) →
    q ≡ after o (own_errors z t)
breaks z t f ns b may s o p q k h n e m d x y =
    y ∙ (λ i. after (x i) (each UndefinedLabel (places (filter (λ v. misses_any f z.labels h v i) (n i)))))
    ∙ (λ i. after (after o (each MisplacedJump (when ((d ∙ ap (λ v. is_bare (parts_of t) && not v) m) i) (e i ∷ [])))) (each UndefinedLabel (places (filter (λ v. not (labels_statement z.labels v.0)) (first_names (parts_of t))))))
    ∙ sym (ap (after o) (small_given own.Break z t k) ∙ after-append o (each MisplacedJump (when (is_bare (parts_of t) && not (z.in_loop || z.in_switch)) (start_of t ∷ []))) (each UndefinedLabel (places (filter (λ v. not (labels_statement z.labels v.0)) (first_names (parts_of t))))))

pub continues : (z : Around) (t : Tree) (f : List ℕ → Option Bool) (ns : List Named) (b : Bool) (s : ℕ) (o p q : Option Error) → own_of (kind_of t) ≡ own.Continue → Answers f z.labels → ns ≡ first_names (parts_of t) →
    s ≡ start_of t → b ≡ (is_bare (parts_of t) && not z.in_loop) → p ≡ after o (each MisplacedJump (when b (s ∷ []))) → q ≡ after p (each UndefinedLabel (places (filter (misses true f) ns))) →
    q ≡ after o (own_errors z t)
continues z t f ns b s o p q k h n e d x y =
    y ∙ (λ i. after (x i) (each UndefinedLabel (places (filter (λ v. misses_loop f z.labels h v i) (n i)))))
    ∙ (λ i. after (after o (each MisplacedJump (when (d i) (e i ∷ [])))) (each UndefinedLabel (places (filter (λ v. not (labels_a_loop z.labels v.0)) (first_names (parts_of t))))))
    ∙ sym (ap (after o) (small_given own.Continue z t k) ∙ after-append o (each MisplacedJump (when (is_bare (parts_of t) && not z.in_loop) (start_of t ∷ []))) (each UndefinedLabel (places (filter (λ v. not (labels_a_loop z.labels v.0)) (first_names (parts_of t))))))

-- a key's value, neither computed nor private
pub key_is : (g : Flags) (t : Tree) (k : Option Tree) (w : String) (d : Bool) → k ≡ part_at (parts_of t) 0 → g ≡ flags_of t → d ≡ (not g.computed && key_says k (codes w)) →
    d ≡ (not (flags_of t).computed && has_key (parts_of t) (λ m. named m w))
key_is g t k w d x f s = s ∙ ap (λ c. not g.computed && c) (key-says (parts_of t) (λ m. named m w) k (codes w) x (λ m. refl)) ∙ ap (λ c. not c.computed && has_key (parts_of t) (λ m. named m w)) f

pub members : (z : Around) (t : Tree) (g : Flags) (k v : Option Tree) (a y b n d e h i : Bool) (o p q : Option Error) → own_of (kind_of t) ≡ own.Member → g ≡ flags_of t → k ≡ part_at (parts_of t) 0 → v ≡ part_at (parts_of t) 1 →
    a ≡ is_accessor g.form → y ≡ form_at v → b ≡ (a || y) → n ≡ (b && not g.is_static) → d ≡ (not g.computed && key_says k (codes "constructor")) → e ≡ (n && d) → p ≡ after o (each SpecialConstructor (when e (places_at k))) →
    h ≡ (not g.computed && key_says k (codes "prototype")) → i ≡ (g.is_static && h) → q ≡ after p (each StaticPrototype (when i (places_at k))) → q ≡ after o (own_errors z t)
members z t g k v a y b n d e h i o p q m f x l r form either static s both first says all last =
    let ps = parts_of t in
    let c : Bool = not (flags_of t).computed && has_key ps (λ m. named m "constructor") in
    let special_so : List Error = each SpecialConstructor (when (((is_accessor (flags_of t).form || not (is_init (value_form ps))) && not (flags_of t).is_static) && c) (key_places ps)) in
    let static_so : List Error = each StaticPrototype (when ((flags_of t).is_static && (not (flags_of t).computed && has_key ps (λ m. named m "prototype"))) (key_places ps)) in
    let differs : b ≡ (is_accessor (flags_of t).form || form_at v) = either ∙ (λ j. (r ∙ ap (λ c. is_accessor c.form) f) j || form j) in
    let special : e ≡ (((is_accessor (flags_of t).form || form_at v) && not (flags_of t).is_static) && c) = both ∙ (λ j. (static ∙ (λ u. differs u && not (f u).is_static)) j && key_is g t k "constructor" d x f s j) in
    let prototype : i ≡ ((flags_of t).is_static && (not (flags_of t).computed && has_key ps (λ m. named m "prototype"))) = all ∙ (λ j. (f j).is_static && key_is g t k "prototype" h x f says j) in
    last ∙ (λ j. after (first j) (each StaticPrototype (when (prototype j) (key-places ps k x j))))
    ∙ ap (λ l. after (after o (each SpecialConstructor l)) static_so) (ap (λ w. when w (places_at k)) special ∙ special-places ps k v (is_accessor (flags_of t).form) (not (flags_of t).is_static) c x l)
    ∙ sym (ap (after o) (small_given own.Member z t m) ∙ after-append o special_so static_so)

pub fields : (z : Around) (t : Tree) (g : Flags) (k : Option Tree) (d h i : Bool) (o p q : Option Error) → own_of (kind_of t) ≡ own.Field → g ≡ flags_of t → k ≡ part_at (parts_of t) 0 →
    d ≡ (not g.computed && key_says k (codes "constructor")) → p ≡ after o (each FieldNamedConstructor (when d (places_at k))) → h ≡ (not g.computed && key_says k (codes "prototype")) → i ≡ (g.is_static && h) →
    q ≡ after p (each StaticPrototype (when i (places_at k))) → q ≡ after o (own_errors z t)
fields z t g k d h i o p q m f x s first says all last =
    let ps = parts_of t in
    let named_so : List Error = each FieldNamedConstructor (when (not (flags_of t).computed && has_key ps (λ m. named m "constructor")) (key_places ps)) in
    let static_so : List Error = each StaticPrototype (when ((flags_of t).is_static && (not (flags_of t).computed && has_key ps (λ m. named m "prototype"))) (key_places ps)) in
    let prototype : i ≡ ((flags_of t).is_static && (not (flags_of t).computed && has_key ps (λ m. named m "prototype"))) = all ∙ (λ j. (f j).is_static && key_is g t k "prototype" h x f says j) in
    last ∙ (λ j. after (first j) (each StaticPrototype (when (prototype j) (key-places ps k x j))))
    ∙ (λ j. after (after o (each FieldNamedConstructor (when (key_is g t k "constructor" d x f s j) (key-places ps k x j)))) static_so)
    ∙ sooner-turns o (least named_so) (least static_so)
    ∙ sym (ap (after o) (small_given own.Field z t m) ∙ after-append o static_so named_so)
