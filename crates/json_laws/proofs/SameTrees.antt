-- Two trees with one JSON, places aside, are one tree, where each node has the text, the flags and as many parts as its kind asks for.
use Rattle.std.proofs.Common.{◌≡◌, ℕ, Bool, true, false, cond, not, List, [], ◌∷◌, ◌++◌, length, map, drop, refl, sym, ap, subst, ◌∙◌, append_assoc, arith}
use Rattle.std.specs.Prelude.{◌||◌, ◌&&◌}
use Rattle.std.proofs.lemmas.Bool.{false≢true, true≢false, and_parts}
use Rattle.serde_json.specs.Data.{Data, null, object}
use Rattle.tree.specs.declared.kind.Kind.{Kind}
use Rattle.tree.specs.declared.kind.Kind.TheVariants as kind
use Rattle.tree.specs.declared.kind.Flags.{Flags}
use Rattle.tree.specs.declared.kind.Form.{Form}
use Rattle.tree.specs.declared.kind.Form.TheVariants.{Init, Method}
use Rattle.tree.specs.Tree.{Tree, node, Parts, none, part, gap, part_count, bare, bare_parts}
use Rattle.tree.specs.Uses.{has_text, used_flags, within, implies, is_init, is_empty}
use Rattle.estree_json.specs.Json.{ends_parts, node_json, parts_json}
use Rattle.json_laws.specs.Placeless.{is_specifier, specifier_forms, parts_forms}
use Rattle.json_laws.proofs.Told.{field, shown, parts_table, told_parts, told_text, says_text, told_flags, form_fits, type_told, same_kind, text_told, flags_told, told_by_form, parts_told}
use Rattle.json_laws.proofs.Lists.{count_fits, names_all}

-- ---- what a kind doesn't use is empty

-- the flags of which all say something
abbrev full : Flags
full = record { computed = true; optional = true; is_static = true; prefix = true; directive = true; expression = true; form = Method }

abbrev masked : Flags → Flags → Flags
masked m g =
    record {
      computed = m.computed && g.computed;
      optional = m.optional && g.optional;
      is_static = m.is_static && g.is_static;
      prefix = m.prefix && g.prefix;
      directive = m.directive && g.directive;
      expression = m.expression && g.expression;
      form = cond (is_init m.form) Init g.form;
    }

used_masked : (k : Kind) (g : Flags) → used_flags k g ≡ masked (used_flags k full) g
used_masked kind.Property g = refl
used_masked _ g = refl

one_flag : (m b : Bool) → implies b (m && b) ≡ true → b ≡ (m && b)
one_flag true b h = refl
one_flag false false h = refl
one_flag false true h = absurd (false≢true h)

init_only : (x : Form) → is_init x ≡ true → x ≡ Init
init_only Init h = refl
init_only _ h = absurd (false≢true h)

one_form : (c : Bool) (x : Form) → implies (is_init (cond c Init x)) (is_init x) ≡ true → x ≡ cond c Init x
one_form true x h = init_only x h
one_form false x h = refl

within_masked : (m g : Flags) → within g (masked m g) ≡ true → g ≡ masked m g
within_masked m g h =
    let a = and_parts _ _ h in
    let b = and_parts _ _ a.1 in
    let c = and_parts _ _ b.1 in
    let d = and_parts _ _ c.1 in
    let e = and_parts _ _ d.1 in
    let i = and_parts _ _ e.1 in
    let computed = one_flag m.computed g.computed a.0 in
    let optional = one_flag m.optional g.optional b.0 in
    let is_static = one_flag m.is_static g.is_static c.0 in
    let prefix = one_flag m.prefix g.prefix d.0 in
    let directive = one_flag m.directive g.directive e.0 in
    let expression = one_flag m.expression g.expression i.0 in
    let form = one_form (is_init m.form) g.form i.1 in
    (λ j. record { computed = computed j; optional = optional j; is_static = is_static j; prefix = prefix j; directive = directive j; expression = expression j; form = form j })

pub lean_flags : (k : Kind) (g : Flags) → within g (used_flags k g) ≡ true → g ≡ used_flags k g
lean_flags k g h = within_masked (used_flags k full) g (ap (within g) (sym (used_masked k g)) ∙ h) ∙ sym (used_masked k g)

abbrev pub is_program : Kind → Bool
is_program kind.Program = true
is_program _ = false

says_its_text : (k : Kind) → is_program k ≡ false → says_text k ≡ has_text k
says_its_text kind.Program h = absurd (true≢false h)
says_its_text _ h = refl

pub empty_text : (w : List ℕ) → is_empty w ≡ true → [] ≡ w
empty_text [] h = refl
empty_text (c ∷ w) h = absurd (false≢true h)

lean_text : (b : Bool) (w : List ℕ) → (b || is_empty w) ≡ true → cond b w [] ≡ w
lean_text true w h = refl
lean_text false w h = empty_text w h

-- ---- nodes as texts derive them

-- a node of this kind, text and flags, with so many parts
abbrev pub is_fine_node : Kind → List ℕ → Flags → ℕ → Bool
is_fine_node k w g n = not (is_program k) && ((has_text k || is_empty w) && (within g (used_flags k g) && (form_fits k g.form && count_fits (parts_table k) g.form n)))

abbrev mutual
  pub is_fine : Tree → Bool
  is_fine (node k w g s e ps) = is_fine_node k w g (part_count ps) && are_fine ps

  pub are_fine : Parts → Bool
  are_fine none = true
  are_fine (part n ps) = is_fine n && are_fine ps
  are_fine (gap ps) = are_fine ps

record IsFine (k : Kind) (w : List ℕ) (g : Flags) (n : ℕ) : Type 0 where
  text : cond (says_text k) w [] ≡ w
  flags : g ≡ used_flags k g
  form : form_fits k g.form ≡ true
  count : count_fits (parts_table k) g.form n ≡ true

no_not : (b : Bool) → not b ≡ true → b ≡ false
no_not true h = sym h
no_not false h = refl

fine_node : (k : Kind) (w : List ℕ) (g : Flags) (n : ℕ) → is_fine_node k w g n ≡ true → IsFine k w g n
fine_node k w g n h =
    let a = and_parts _ _ h in
    let b = and_parts _ _ a.1 in
    let c = and_parts _ _ b.1 in
    let d = and_parts _ _ c.1 in
    record {
      text = ap (λ t. cond t w []) (says_its_text k (no_not (is_program k) a.0)) ∙ lean_text (has_text k) w b.0;
      flags = lean_flags k g c.0;
      form = d.0;
      count = d.1;
    }

value_count : (ps : Parts) → length (parts_json ps) ≡ part_count ps
unfolding parts_json
value_count none = refl
value_count (part n ps) = let h = value_count ps in omega (arith, h)
value_count (gap ps) = let h = value_count ps in omega (arith, h)

-- ---- two nodes with one JSON

-- whether a node's own form is the same, and those of its parts
abbrev first_form : List Form → Form
first_form [] = Init
first_form (x ∷ xs) = x

split : (b : Bool) (x y : Form) (xs ys us vs : List Form) → cond b (x ∷ xs) xs ++ us ≡ cond b (y ∷ ys) ys ++ vs → (b ≡ true → x ≡ y) × (xs ++ us ≡ ys ++ vs)
split true x y xs ys us vs h = (λ t. ap first_form h, ap (drop 1) h)
split false x y xs ys us vs h = (λ t. absurd (false≢true t), h)

-- the parts' values, from a node's own
parts_back : (b : Bool) (k : Kind) (w : List ℕ) (g : Flags) (s e : ℕ) (ps : Parts) → IsFine k w g (part_count ps) → told_parts (parts_table k) g.form (shown (node_json b (node k w g s e ps))) ≡ map shown (parts_json ps)
parts_back b k w g s e ps h =
    parts_told b k w g s e ps ∙ names_all (parts_table k) g.form (parts_json ps) (ap (count_fits (parts_table k) g.form) (value_count ps) ∙ h.count)

text_back : (b : Bool) (k : Kind) (w : List ℕ) (g : Flags) (s e : ℕ) (ps : Parts) → IsFine k w g (part_count ps) → told_text k (shown (node_json b (node k w g s e ps))) ≡ w
text_back b k w g s e ps h = text_told b k w g s e ps ∙ h.text

flags_back : (b : Bool) (k : Kind) (w : List ℕ) (g : Flags) (s e : ℕ) (ps : Parts) → IsFine k w g (part_count ps) → told_flags k g.form (shown (node_json b (node k w g s e ps))) ≡ g
flags_back b k w g s e ps h = flags_told b k w g s e ps h.form ∙ sym h.flags

-- of one kind
record SameLabels (w v : List ℕ) (g h : Flags) (ps qs : Parts) : Type 0 where
  texts : w ≡ v
  flags : g ≡ h
  parts : map shown (parts_json ps) ≡ map shown (parts_json qs)

labels : (b c : Bool) (k : Kind) (w v : List ℕ) (g h : Flags) (s e t u : ℕ) (ps qs : Parts) → IsFine k w g (part_count ps) → IsFine k v h (part_count qs) → (is_specifier k ≡ true → g.form ≡ h.form) →
    shown (node_json b (node k w g s e ps)) ≡ shown (node_json c (node k v h t u qs)) → SameLabels w v g h ps qs
labels b c k w v g h s e t u ps qs x y o j =
    let flags : g ≡ h =
    sym (flags_back b k w g s e ps x) ∙ told_by_form k g.form h.form (shown (node_json b (node k w g s e ps))) o ∙ ap (told_flags k h.form) j ∙ flags_back c k v h t u qs y in
    record {
      texts = sym (text_back b k w g s e ps x) ∙ ap (told_text k) j ∙ text_back c k v h t u qs y;
      flags = flags;
      parts = sym (parts_back b k w g s e ps x) ∙ (λ i. told_parts (parts_table k) (flags i).form (j i)) ∙ parts_back c k v h t u qs y;
    }

abbrev is_object : Data → Bool
is_object (object ms) = true
is_object _ = false

of_node : (b : Bool) (n : Tree) → is_object (shown (node_json b n)) ≡ true
unfolding node_json
of_node b (node k w g s e ps) = refl

abbrev first_value : List Data → Data
first_value [] = null
first_value (d ∷ ds) = d

abbrev Same : Parts → Parts → List Form → List Form → Type 0
Same ps qs xs ys = (bare_parts ps ≡ bare_parts qs) × (xs ≡ ys)

-- where the parts are the same if their values are
abbrev PartsTold : Parts → Type 0
PartsTold ps = (qs : Parts) → are_fine ps ≡ true → are_fine qs ≡ true → map shown (parts_json ps) ≡ map shown (parts_json qs) → (xs ys : List Form) → parts_forms ps ++ xs ≡ parts_forms qs ++ ys → Same ps qs xs ys

same_node : (b c : Bool) (k : Kind) (w v : List ℕ) (g h : Flags) (s e t u : ℕ) (ps qs : Parts) (xs ys : List Form) → PartsTold ps → is_fine (node k w g s e ps) ≡ true → is_fine (node k v h t u qs) ≡ true →
    shown (node_json b (node k w g s e ps)) ≡ shown (node_json c (node k v h t u qs)) → specifier_forms (node k w g s e ps) ++ xs ≡ specifier_forms (node k v h t u qs) ++ ys →
    (bare (node k w g s e ps) ≡ bare (node k v h t u qs)) × (xs ≡ ys)
same_node b c k w v g h s e t u ps qs xs ys inner x y j o =
    let x' = and_parts _ _ x in
    let y' = and_parts _ _ y in
    let z = split (is_specifier k) g.form h.form (parts_forms ps) (parts_forms qs) xs ys o in
    let l = labels b c k w v g h s e t u ps qs (fine_node k w g (part_count ps) x'.0) (fine_node k v h (part_count qs) y'.0) z.0 j in
    let r = inner qs x'.1 y'.1 l.parts xs ys z.1 in
    (λ i. node k (l.texts i) (l.flags i) 0 0 (r.0 i), r.1)

mutual
  unfolding parts_json

  -- with the forms of what stands behind
  pub same_tree : (b c : Bool) (n m : Tree) → is_fine n ≡ true → is_fine m ≡ true → shown (node_json b n) ≡ shown (node_json c m) → (xs ys : List Form) → specifier_forms n ++ xs ≡ specifier_forms m ++ ys →
      (bare n ≡ bare m) × (xs ≡ ys)
  same_tree b c (node k w g s e ps) (node l v h t u qs) =
      let kinds : shown (node_json b (node k w g s e ps)) ≡ shown (node_json c (node l v h t u qs)) → k ≡ l =
      λ j. same_kind k l (sym (type_told b k w g s e ps) ∙ ap (field "type") j ∙ type_told c l v h t u qs) in
      λ x y j xs ys o.
      subst
      (λ z. is_fine (node z v h t u qs) ≡ true → shown (node_json b (node k w g s e ps)) ≡ shown (node_json c (node z v h t u qs)) → specifier_forms (node k w g s e ps) ++ xs ≡ specifier_forms (node z v h t u qs) ++ ys →
      (bare (node k w g s e ps) ≡ bare (node z v h t u qs)) × (xs ≡ ys))
      (kinds j) (same_node b c k w v g h s e t u ps qs xs ys (λ rs f f' l us vs r. same_parts ps rs f f' l us vs r) x) y j o

  pub same_parts : (ps qs : Parts) → are_fine ps ≡ true → are_fine qs ≡ true → map shown (parts_json ps) ≡ map shown (parts_json qs) → (xs ys : List Form) → parts_forms ps ++ xs ≡ parts_forms qs ++ ys → Same ps qs xs ys
  same_parts none none x y j xs ys o = (refl, o)
  same_parts none (part m qs) x y j xs ys o = absurd (cc j)
  same_parts none (gap qs) x y j xs ys o = absurd (cc j)
  same_parts (part n ps) none x y j xs ys o = absurd (cc j)
  same_parts (gap ps) none x y j xs ys o = absurd (cc j)
  same_parts (part n ps) (gap qs) x y j xs ys o = absurd (false≢true (sym (ap (λ ds. is_object (first_value ds)) j) ∙ of_node (ends_parts ps) n))
  same_parts (gap ps) (part m qs) x y j xs ys o = absurd (false≢true (ap (λ ds. is_object (first_value ds)) j ∙ of_node (ends_parts qs) m))
  same_parts (gap ps) (gap qs) x y j xs ys o = let r = same_parts ps qs x y (ap (drop 1) j) xs ys o in (ap gap r.0, r.1)
  same_parts (part n ps) (part m qs) x y j xs ys o =
      let x' = and_parts _ _ x in
      let y' = and_parts _ _ y in
      let a = same_tree (ends_parts ps) (ends_parts qs) n m x'.0 y'.0 (ap first_value j) (parts_forms ps ++ xs) (parts_forms qs ++ ys) (sym (append_assoc (specifier_forms n) (parts_forms ps) xs) ∙ o ∙ append_assoc (specifier_forms m) (parts_forms qs) ys) in
      let r = same_parts ps qs x'.1 y'.1 (ap (drop 1) j) xs ys a.1 in
      (λ i. part (a.0 i) (r.0 i), r.1)
