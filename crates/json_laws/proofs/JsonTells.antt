-- What two texts derive in one language is one tree, places aside, just where the JSON of both is one, and the forms of their specifiers.
use Rattle.std.proofs.Common.{◌≡◌, ℕ, Bool, true, false, not, List, [], ◌++◌, map, refl, sym, ap, subst, ◌∙◌}
use Rattle.std.specs.Prelude.{◌||◌, codes}
use Rattle.std.proofs.lemmas.Bool.{false≢true}
use Rattle.std.proofs.lemmas.Slice.Eq.{bytes_eq-Decides}
use Rattle.tree.specs.declared.kind.Kind.{Kind}
use Rattle.tree.specs.declared.kind.Kind.TheVariants.{Program}
use Rattle.tree.specs.declared.kind.Flags.{Flags}
use Rattle.tree.specs.declared.kind.Form.TheVariants.{Init}
use Rattle.tree.specs.Tree.{Tree, node, Parts, SameTree}
use Rattle.tree.specs.Uses.{is_empty, within, used_flags}
use Rattle.language.specs.declared.Language.{Language}
use Rattle.language.specs.declared.Language.TheVariants.{Base, Script, Module}
use Rattle.language.specs.Later.{has_later, some_has_later}
use Rattle.language.specs.Languages.{is_tree_of}
use Rattle.estree_json.specs.Json.{json_of, parts_json}
use Rattle.language_laws.proofs.EachLanguage.{derived_lined_in}
use Rattle.json_laws.specs.Laws.{SameJson, OneTreeHasOneJson, OneJsonHasOneTree, JsonTellsTrees}
use Rattle.json_laws.proofs.Told.{a_list, shown, told_parts, parts_told}
use Rattle.json_laws.proofs.Lists.{names_all}
use Rattle.json_laws.proofs.SameTrees.{lean_flags, empty_text, are_fine, same_parts}
use Rattle.json_laws.proofs.PlacesAside.{same_values, same_forms}
use Rattle.json_laws.proofs.DerivedNodes.{IsFineProgram, program_fine}

-- ---- a language has one text of its Programs

no_later : (c b : Bool) → not (not c || b) ≡ true → c ≡ true
no_later true b h = refl
no_later false b h = absurd (false≢true h)

one_text : (language : Language) (w v : List ℕ) (g h : Flags) (s e t u : ℕ) (ps qs : Parts) → is_tree_of language (node Program w g s e ps) ≡ true → is_tree_of language (node Program v h t u qs) ≡ true → w ≡ v
unfolding has_later
one_text Base w v g h s e t u ps qs a b = sym (empty_text w (no_later (is_empty w) (some_has_later ps) a)) ∙ empty_text v (no_later (is_empty v) (some_has_later qs) b)
one_text Script w v g h s e t u ps qs a b = (bytes_eq-Decides w (codes "2022")).0 a ∙ sym ((bytes_eq-Decides v (codes "2022")).0 b)
one_text Module w v g h s e t u ps qs a b = (bytes_eq-Decides w (codes "module")).0 a ∙ sym ((bytes_eq-Decides v (codes "module")).0 b)

-- ---- Programs

items_told : (w : List ℕ) (g : Flags) (s e : ℕ) (ps : Parts) → told_parts (a_list "body") Init (shown (json_of (node Program w g s e ps))) ≡ map shown (parts_json ps)
items_told w g s e ps = parts_told true Program w g s e ps ∙ names_all (a_list "body") g.form (parts_json ps) refl

programs : (language : Language) (w v : List ℕ) (g h : Flags) (s e t u : ℕ) (ps qs : Parts) → is_tree_of language (node Program w g s e ps) ≡ true → is_tree_of language (node Program v h t u qs) ≡ true →
    within g (used_flags Program g) ≡ true → within h (used_flags Program h) ≡ true → are_fine ps ≡ true → are_fine qs ≡ true → SameJson (node Program w g s e ps) (node Program v h t u qs) →
    SameTree (node Program w g s e ps) (node Program v h t u qs)
programs language w v g h s e t u ps qs a b l m x y j =
    let texts = one_text language w v g h s e t u ps qs a b in
    let flags : g ≡ h = lean_flags Program g l ∙ sym (lean_flags Program h m) in
    let values = sym (items_told w g s e ps) ∙ ap (told_parts (a_list "body") Init) j.values ∙ items_told v h t u qs in
    let parts = same_parts ps qs x y values [] [] (ap (λ xs. xs ++ []) j.specifiers) in
    (λ i. node Program (texts i) (flags i) 0 0 (parts.0 i))

told : (language : Language) (m n : Tree) → is_tree_of language m ≡ true → is_tree_of language n ≡ true → IsFineProgram m → IsFineProgram n → SameJson m n → SameTree m n
told language (node k w g s e ps) (node l v h t u qs) a b x y j =
    of_kinds k l (sym x.kind) (sym y.kind) a b x.lean y.lean j
  where
    Told : Kind → Kind → Type 0
    Told i j = is_tree_of language (node i w g s e ps) ≡ true → is_tree_of language (node j v h t u qs) ≡ true → within g (used_flags i g) ≡ true → within h (used_flags j h) ≡ true →
        SameJson (node i w g s e ps) (node j v h t u qs) → SameTree (node i w g s e ps) (node j v h t u qs)

    of_kinds : (k l : Kind) → Program ≡ k → Program ≡ l → Told k l
    of_kinds k l c d = subst (λ i. Told i l) c (subst (λ i. Told Program i) d (λ a b l m z. programs language w v g h s e t u ps qs a b l m x.parts y.parts z))

pub one_json : OneTreeHasOneJson
one_json m n same = record { values = same_values m n same; specifiers = same_forms m n same }

pub one_tree : OneJsonHasOneTree
one_tree language text other m n P Q d e j = told language m n d.1.0 e.1.0 (program_fine m (derived_lined_in language text m P d)) (program_fine n (derived_lined_in language other n Q e)) j

pub json_tells : JsonTellsTrees
json_tells language text other m n P Q d e = (λ same. one_json m n same, λ j. one_tree language text other m n P Q d e j)
