-- What the ways to spell a node have: a token or a part with one, no script within, and a shorthand key just in a shorthand property.
use Rattle.std.proofs.Common.{◌≡◌, ℕ, ◌≤◌, Bool, true, false, cond, List, [], ◌∷◌, ◌++◌, refl, sym, ap, subst, ◌∙◌, arith, ◌⊎◌, inl, inr}
use Rattle.std.specs.Prelude.{◌&&◌, ◌||◌, Some, None}
use Rattle.std.proofs.lemmas.Bool.{and_parts, and_from, false≢true, true≢false}
use Rattle.tokens.specs.declared.token.TokenClass.TheVariants.{IdentifierName, End}
use Rattle.tree.specs.declared.kind.Kind.{Kind}
use Rattle.tree.specs.declared.kind.Kind.TheVariants as kind
use Rattle.tree.specs.declared.kind.Form.{Form}
use Rattle.tree.specs.declared.kind.Form.TheVariants as form
use Rattle.tree.specs.declared.kind.Flags.{Flags}
use Rattle.tree.specs.Uses.{is_empty}
use Rattle.tree.specs.Tree.{Tree, node, Parts, none, part, gap, kind_of, flags_of, parts_of, bare, bare_parts}
use Rattle.language.specs.declared.Rank.TheVariants.{LeftHandSide}
use Rattle.language.specs.declared.Start.TheVariants.{Any}
use Rattle.language.specs.FirstPart.{lead as lead_kind, others}
use Rattle.language.specs.Vocabulary.{is, is_reserved, is_pattern, is_identifier, is_target}
use Rattle.language.specs.Pieces.{Role, expr, chain_part, name, word, key, shorthand_key, template_element, property, pattern, pattern_property, element, item, opening, module_item, script, PieceOf, Piece, tok, may, many, ahead, unbroken, no_operand, ending, open_parameters, close_parameters, sub, absent, never, lay, space, line, feed, deeper, shallower, apart, loose, Spelling, settle, put, put_at, bound, with_default}
use Rattle.language.specs.Expressions.{value_form, expressions, properties, pattern_properties}
use Rattle.language.specs.Statements.{statements, items, openings, prologue, module_prologue, is_module_item, is_directive}
use Rattle.language.specs.Grammar.{ways, spellings, own_rank, own_in, own_start}
use Rattle.language.specs.RowPositions.{roles}
use Rattle.language.specs.Derivation.{Among, first, later}
use Rattle.language.proofs.table.Alike.{standing_at}
use Rattle.language.proofs.lower_bound.Domination.{settled}
use Rattle.language.proofs.table.ViewIsComplete.{way_of, one, unless}
use Rattle.language.proofs.table.ShorthandPieces.{is_echo, has_echo, EchoShape, no_echo, before_name, before_default}
use Rattle.language.proofs.table.ShorthandTable.{echo_shape}
use Rattle.language.proofs.table.NeatPieces.{Touch, fresh, apart_from, broken, solid, closed, signed, sort_of, slot_sort, behind_part, behind_token, echo_followed, neat}
use Rattle.language.proofs.table.NeatExpressions.{Neat, no_spelling, a_spelling, first_is_open}
use Rattle.language.proofs.table.NeatTable.{table_neat, is_plain}
use Rattle.language.proofs.table.WayPieces.{settled_sort, part_position}
use Rattle.unambiguity_laws.proofs.heights.Levels.{level, gain, debt}
use Rattle.unambiguity_laws.proofs.heights.LevelsOfNodes.{way_paid}
use Rattle.location_laws.specs.InOrder.{is_shorthand}

-- a token, or a part that isn't a shorthand key; nothing spells `never`
abbrev pub has_token : List (PieceOf Role) → Bool
has_token [] = false
has_token (tok c w ∷ qs) = true
has_token (sub a ∷ qs) = not_echo a || has_token qs
  where
    not_echo : Role → Bool
    not_echo shorthand_key = false
    not_echo _ = true
has_token (open_parameters ∷ qs) = true
has_token (close_parameters ∷ qs) = true
has_token (never ∷ qs) = true
has_token (q ∷ qs) = has_token qs

-- no part is a script or a shorthand key
abbrev pub plain_parts : List (PieceOf Role) → Bool
plain_parts [] = true
plain_parts (sub a ∷ qs) = is_plain a && plain_parts qs
plain_parts (never ∷ qs) = true
plain_parts (q ∷ qs) = plain_parts qs

-- A token

some_gain : (qs : List (PieceOf Role)) → has_token qs ≡ false → gain level qs ≡ 0
some_gain [] h = refl
some_gain (tok c w ∷ qs) h = absurd (true≢false h)
some_gain (sub shorthand_key ∷ qs) h = let e = some_gain qs h in omega (arith, e)
some_gain (sub _ ∷ qs) h = absurd (true≢false h)
some_gain (open_parameters ∷ qs) h = absurd (true≢false h)
some_gain (close_parameters ∷ qs) h = absurd (true≢false h)
some_gain (never ∷ qs) h = absurd (true≢false h)
some_gain (may w ∷ qs) h = let e = some_gain qs h in omega (arith, e)
some_gain (many w ∷ qs) h = let e = some_gain qs h in omega (arith, e)
some_gain (ahead w ∷ qs) h = let e = some_gain qs h in omega (arith, e)
some_gain (unbroken ∷ qs) h = let e = some_gain qs h in omega (arith, e)
some_gain (no_operand ∷ qs) h = let e = some_gain qs h in omega (arith, e)
some_gain (ending x ∷ qs) h = let e = some_gain qs h in omega (arith, e)
some_gain (absent ∷ qs) h = let e = some_gain qs h in omega (arith, e)
some_gain (lay x ∷ qs) h = let e = some_gain qs h in omega (arith, e)

by_gain : (a : Role) (n : Tree) {qs : List (PieceOf Role)} → Among qs (ways a n) → 1 ≤ level a → has_token qs ≡ true
by_gain a n {qs} h l = of (has_token qs) refl
  where
    of : (b : Bool) → has_token qs ≡ b → has_token qs ≡ true
    of true e = e
    of false e = let p = way_paid a n qs h in let g = some_gain qs e in absurd (omega (arith, l, p, g))

only_has : (a : Role) {x y : Spelling} → has_token (settled a y) ≡ true → Among x (y ∷ []) → has_token (settled a x) ≡ true
only_has a h first = h
only_has a h (later k) = elim k [ ]

property_token : (c : Bool) (f x : Form) {y : Spelling} → Among y (properties c f x) → has_token (settled property y) ≡ true
property_token true form.Init x h = only_has property refl h
property_token false form.Init x h = only_has property refl h
property_token true form.Method form.Init h = only_has property refl h
property_token true form.Method x h = only_has property refl h
property_token false form.Method form.Init h = only_has property refl h
property_token false form.Method x h = only_has property refl h
property_token true form.Get x h = only_has property refl h
property_token false form.Get x h = only_has property refl h
property_token true form.Set x h = only_has property refl h
property_token false form.Set x h = only_has property refl h
property_token false form.Shorthand x h = only_has property refl h
property_token true form.Shorthand x h = elim h [ ]
property_token c _ x h = elim h [ ]

pattern_token : (b c : Bool) (f : Form) (k : Kind) {x : Spelling} → Among x (pattern_properties b c f k) → has_token (settled (pattern_property b) x) ≡ true
pattern_token b true form.Init k h = only_has (pattern_property b) refl h
pattern_token b false form.Init k h = only_has (pattern_property b) refl h
pattern_token b true form.Shorthand k h = elim h [ ]
pattern_token b false form.Shorthand kind.Identifier h = only_has (pattern_property b) refl h
pattern_token b false form.Shorthand kind.AssignmentPattern h = only_has (pattern_property b) refl h
pattern_token b false form.Shorthand _ h = elim h [ ]
pattern_token b c _ k h = elim h [ ]

-- the ways of a Program: those of a script, or those of a module
of_program : (b c : Bool) {x y z : Spelling} {R : Type 0} → Among x (cond b (y ∷ []) (cond c (z ∷ []) [])) → (x ≡ y → R) → (x ≡ z → R) → R
of_program true c h f g = f (one h)
of_program false true h f g = g (one h)
of_program false false h f g = elim h [ ]

script_token : (b : Bool) (ps : Parts) → has_token (standing_at script (prologue false b [] (lay feed ∷ []) ps ++ tok End [] ∷ [])) ≡ true
script_token b none = refl
script_token b (gap ps) = refl
script_token true (part m ps) = refl
script_token false (part m ps) = refl

module_token : (b : Bool) (ps : Parts) → has_token (standing_at script (module_prologue b ps ++ tok End [] ∷ [])) ≡ true
module_token b none = refl
module_token b (gap ps) = refl
module_token b (part m ps) = of (is_module_item (kind_of m)) b
  where
    of : (x y : Bool) → has_token (standing_at script (put (cond x module_item (cond y (opening false) (item false))) ∷ lay feed ∷ module_prologue (b && is_directive m) ps ++ tok End [] ∷ [])) ≡ true
    of true y = refl
    of false true = refl
    of false false = refl

-- each way to spell a node has one, but for that of a shorthand key
pub way_token : (a : Role) (n : Tree) {qs : List (PieceOf Role)} → is_echo a ≡ false → Among qs (ways a n) → has_token qs ≡ true
unfolding spellings
way_token shorthand_key n e h = absurd (true≢false e)
way_token property (node kind.Property w g s t ps) e h = let v = way_of h in subst (λ z. has_token z ≡ true) (sym v.is) (property_token g.computed g.form (value_form (bare_parts ps)) v.listed)
way_token property (node _ w g s t ps) e h = elim ((way_of h).listed) [ ]
way_token (pattern_property b) (node kind.Property w g s t ps) e h = let v = way_of h in subst (λ z. has_token z ≡ true) (sym v.is) (pattern_token b g.computed g.form (lead_kind (others (bare_parts ps))) v.listed)
way_token (pattern_property b) (node _ w g s t ps) e h = elim ((way_of h).listed) [ ]
way_token script (node kind.Program w g s t ps) e h =
    let v = way_of h in
    subst (λ z. has_token z ≡ true) (sym v.is)
    (of_program (is_empty w || is w "2022") (is w "module") v.listed
    (λ i. subst (λ x. has_token (settled script x) ≡ true) (sym i) (script_token true (bare_parts ps)))
    (λ i. subst (λ x. has_token (settled script x) ≡ true) (sym i) (module_token true (bare_parts ps))))
way_token script (node _ w g s t ps) e h = elim ((way_of h).listed) [ ]
way_token (expr y i f) n e h = by_gain (expr y i f) n h (omega arith)
way_token (chain_part f) n e h = by_gain (chain_part f) n h (omega arith)
way_token (template_element b c) n e h = by_gain (template_element b c) n h (omega arith)
way_token (pattern b f) n e h = by_gain (pattern b f) n h (omega arith)
way_token (element b) n e h = by_gain (element b) n h (omega arith)
way_token a n e h = by_gain a n h (omega arith)

-- No script within

neat_plain : (a : Role) (b o : Bool) (s : Touch) (qs : List Piece) → neat b o s qs ≡ true → has_echo (roles (standing_at a qs)) ≡ false → plain_parts (standing_at a qs) ≡ true
neat_plain a b o s [] h k = refl
neat_plain a b o s (tok c w ∷ qs) h k = neat_plain a b o (behind_token c w) qs (and_parts _ _ (and_parts _ _ h).1).1 k
neat_plain a b o s (may w ∷ qs) h k = neat_plain a b o s qs h k
neat_plain a b o s (many w ∷ qs) h k = neat_plain a b o s qs h k
neat_plain a b o s (ahead w ∷ qs) h k = absurd (false≢true h)
neat_plain a b o s (unbroken ∷ qs) h k = neat_plain a b o s qs (and_parts _ _ (and_parts _ _ h).1).1 k
neat_plain a b o s (no_operand ∷ qs) h k = neat_plain a b o s qs (and_parts _ _ h).1 k
neat_plain a b o s (ending e ∷ qs) h k = neat_plain a b o solid qs (and_parts _ _ h).1 k
neat_plain a b o s (open_parameters ∷ qs) h k = neat_plain a b true solid qs (and_parts _ _ (and_parts _ _ h).1).1 k
neat_plain a b o s (close_parameters ∷ qs) h k = neat_plain a b false solid qs (and_parts _ _ (and_parts _ _ h).1).1 k
neat_plain a b o s (absent ∷ qs) h k = neat_plain a true o s qs (and_parts _ _ h).1 k
neat_plain a b o s (never ∷ qs) h k = refl
neat_plain a b o s (lay space ∷ qs) h k = neat_plain a b o apart_from qs (and_parts _ _ h).1 k
neat_plain a b o s (lay line ∷ qs) h k = neat_plain a b o broken qs (and_parts _ _ h).1 k
neat_plain a b o s (lay feed ∷ qs) h k = neat_plain a b o broken qs (and_parts _ _ h).1 k
neat_plain a b o s (lay (apart c) ∷ qs) h k = neat_plain a b o signed qs (and_parts _ _ h).1 k
neat_plain a b o s (lay loose ∷ qs) h k = neat_plain a b o closed qs (and_parts _ _ h).1 k
neat_plain a b o s (lay deeper ∷ qs) h k = neat_plain a b o s qs h k
neat_plain a b o s (lay shallower ∷ qs) h k = neat_plain a b o s qs h k
neat_plain a b o s (sub x ∷ qs) h k =
    let e = settle (own_rank a) (own_in a) (own_start a) x in
    let u = and_parts _ _ (and_parts _ _ h).1 in
    let f : echo_followed (sort_of e) qs ≡ true = subst (λ z. echo_followed z qs ≡ true) (sym (settled_sort (own_rank a) (own_in a) (own_start a) x)) u.0 in
    let v = neither (is_echo e) (has_echo (roles (standing_at a qs))) k in
    and_from _ _ (plain e (part_position e qs f) v.0) (neat_plain a true o (behind_part b (slot_sort x)) qs u.1 v.1)
  where
    neither : (x y : Bool) → (x || y) ≡ false → (x ≡ false) × (y ≡ false)
    neither true y h = absurd (true≢false h)
    neither false y h = (refl, h)

    plain : (e : Role) → (is_plain e ≡ true) ⊎ (e ≡ shorthand_key) → is_echo e ≡ false → is_plain e ≡ true
    plain e (inl p) h = p
    plain e (inr p) h = absurd (true≢false (sym (ap is_echo p) ∙ h))

neat_among : {b : Bool} {x : Spelling} (xs : List Spelling) → Neat b xs → Among x xs → neat b false fresh x.pieces ≡ true
neat_among [] no_spelling h = elim h [ ]
neat_among (x ∷ xs) (a_spelling p s) first = p
neat_among (x ∷ xs) (a_spelling p s) (later h) = neat_among xs s h

script_plain : (b : Bool) (ps : Parts) → plain_parts (standing_at script (prologue false b [] (lay feed ∷ []) ps ++ tok End [] ∷ [])) ≡ true
script_plain b none = refl
script_plain b (gap ps) = refl
script_plain true (part m ps) = script_plain (is_directive m) ps
script_plain false (part m ps) = script_plain false ps

plain_item : (x b : Bool) → is_plain (cond x module_item (cond b (opening false) (item false))) ≡ true
plain_item true b = refl
plain_item false true = refl
plain_item false false = refl

module_plain : (b : Bool) (ps : Parts) → plain_parts (standing_at script (module_prologue b ps ++ tok End [] ∷ [])) ≡ true
module_plain b none = refl
module_plain b (gap ps) = refl
module_plain b (part m ps) = and_from _ _ (plain_item (is_module_item (kind_of m)) b) (module_plain (b && is_directive m) ps)

neat_way : (a : Role) (n : Tree) {qs : List (PieceOf Role)} → is_plain a ≡ true → Among qs (ways a n) → has_echo (roles qs) ≡ false → plain_parts qs ≡ true
neat_way a n p h k =
    let v = way_of h in
    subst (λ z. plain_parts z ≡ true) (sym v.is) (neat_plain a (first_is_open (parts_of (bare n))) false fresh v.spelling.pieces (neat_among (spellings a (bare n)) (table_neat a (bare n) p) v.listed) (ap (λ z. has_echo (roles z)) (sym v.is) ∙ k))

-- without a shorthand key, the parts of a way are at plain positions
way_plain : (a : Role) (n : Tree) {qs : List (PieceOf Role)} → is_echo a ≡ false → Among qs (ways a n) → has_echo (roles qs) ≡ false → plain_parts qs ≡ true
unfolding spellings
way_plain script (node kind.Program w g s t ps) e h k =
    let v = way_of h in
    subst (λ z. plain_parts z ≡ true) (sym v.is)
    (of_program (is_empty w || is w "2022") (is w "module") v.listed
    (λ i. subst (λ x. plain_parts (settled script x) ≡ true) (sym i) (script_plain true (bare_parts ps)))
    (λ i. subst (λ x. plain_parts (settled script x) ≡ true) (sym i) (module_plain true (bare_parts ps))))
way_plain script (node _ w g s t ps) e h k = elim ((way_of h).listed) [ ]
way_plain shorthand_key n e h k = absurd (true≢false e)
way_plain a n e h k = neat_way a n refl h k

-- Shorthand properties

short_form : (g : Flags) → is_shorthand kind.Property g ≡ true → g.form ≡ form.Shorthand
short_form g h = of g.form h
  where
    of : (f : Form) → is_shorthand kind.Property (record g { form = f }) ≡ true → f ≡ form.Shorthand
    of form.Shorthand h = refl
    of _ h = absurd (false≢true h)

form_short : (g : Flags) → g.form ≡ form.Shorthand → is_shorthand kind.Property g ≡ true
form_short g h = ap (λ f. is_shorthand kind.Property (record g { form = f })) h

only_echo : (a : Role) {x y : Spelling} {b : Bool} → has_echo (roles (settled a y)) ≡ b → Among x (y ∷ []) → has_echo (roles (settled a x)) ≡ b
only_echo a h first = h
only_echo a h (later k) = elim k [ ]

short_property : (c : Bool) (x : Form) {y : Spelling} → Among y (properties c form.Shorthand x) → has_echo (roles (settled property y)) ≡ true
short_property true x h = elim h [ ]
short_property false x h = only_echo property refl h

short_pattern : (b c : Bool) (k : Kind) {x : Spelling} → Among x (pattern_properties b c form.Shorthand k) → has_echo (roles (settled (pattern_property b) x)) ≡ true
short_pattern b true k h = elim h [ ]
short_pattern b false kind.Identifier h = only_echo (pattern_property b) refl h
short_pattern b false kind.AssignmentPattern h = only_echo (pattern_property b) refl h
short_pattern b false _ h = elim h [ ]

long_property : (c : Bool) (f x : Form) {y : Spelling} → Among y (properties c f x) → has_echo (roles (settled property y)) ≡ true → f ≡ form.Shorthand
long_property c form.Shorthand x h k = refl
long_property true form.Init x h k = absurd (false≢true (sym (only_echo property refl h) ∙ k))
long_property false form.Init x h k = absurd (false≢true (sym (only_echo property refl h) ∙ k))
long_property true form.Method form.Init h k = absurd (false≢true (sym (only_echo property refl h) ∙ k))
long_property true form.Method x h k = absurd (false≢true (sym (only_echo property refl h) ∙ k))
long_property false form.Method form.Init h k = absurd (false≢true (sym (only_echo property refl h) ∙ k))
long_property false form.Method x h k = absurd (false≢true (sym (only_echo property refl h) ∙ k))
long_property true form.Get x h k = absurd (false≢true (sym (only_echo property refl h) ∙ k))
long_property false form.Get x h k = absurd (false≢true (sym (only_echo property refl h) ∙ k))
long_property true form.Set x h k = absurd (false≢true (sym (only_echo property refl h) ∙ k))
long_property false form.Set x h k = absurd (false≢true (sym (only_echo property refl h) ∙ k))
long_property c _ x h k = elim h [ ]

no_bound_echo : (b : Bool) (k : Kind) → has_echo (roles (standing_at (pattern_property b) (put_at (bound b k) ∷ []))) ≡ false
no_bound_echo true k = of (is_pattern k) (is_identifier k)
  where
    of : (x y : Bool) → has_echo (roles (standing_at (pattern_property true) (put_at (cond x (Some (pattern true Any)) (cond y (Some name) None)) ∷ []))) ≡ false
    of true y = refl
    of false true = refl
    of false false = refl
no_bound_echo false k = of (is_pattern k) (is_target k)
  where
    of : (x y : Bool) → has_echo (roles (standing_at (pattern_property false) (put_at (cond x (Some (pattern false Any)) (cond y (Some (expr LeftHandSide true Any)) None)) ∷ []))) ≡ false
    of true y = refl
    of false true = refl
    of false false = refl

no_default_echo : (b : Bool) (k : Kind) → has_echo (roles (standing_at (pattern_property b) (put_at (with_default b k) ∷ []))) ≡ false
no_default_echo b kind.AssignmentPattern = refl
no_default_echo b k = no_bound_echo b k

long_pattern : (b c : Bool) (f : Form) (k : Kind) {x : Spelling} → Among x (pattern_properties b c f k) → has_echo (roles (settled (pattern_property b) x)) ≡ true → f ≡ form.Shorthand
long_pattern b c form.Shorthand k h j = refl
long_pattern b true form.Init k h j = absurd (false≢true (sym (only_echo (pattern_property b) (no_default_echo b k) h) ∙ j))
long_pattern b false form.Init k h j = absurd (false≢true (sym (only_echo (pattern_property b) (no_default_echo b k) h) ∙ j))
long_pattern b c _ k h j = elim h [ ]

property_open : (c : Bool) (x : Form) {y : Spelling} → Among y (properties c form.Shorthand x) → c ≡ false
property_open true x h = elim h [ ]
property_open false x h = refl

pattern_open : (b c : Bool) (k : Kind) {x : Spelling} → Among x (pattern_properties b c form.Shorthand k) → c ≡ false
pattern_open b true k h = elim h [ ]
pattern_open b false k h = refl

-- a shorthand property's way has a shorthand key
short_has_echo : (a : Role) (n : Tree) {qs : List (PieceOf Role)} → is_shorthand (kind_of n) (flags_of n) ≡ true → Among qs (ways a n) → has_echo (roles qs) ≡ true
unfolding spellings expressions statements items openings
short_has_echo property (node kind.Property w g s t ps) e h =
    let v = way_of h in
    ap (λ z. has_echo (roles z)) v.is ∙ short_property g.computed (value_form (bare_parts ps)) (subst (λ f. Among v.spelling (properties g.computed f (value_form (bare_parts ps)))) (short_form g e) v.listed)
short_has_echo (pattern_property b) (node kind.Property w g s t ps) e h =
    let v = way_of h in
    ap (λ z. has_echo (roles z)) v.is ∙ short_pattern b g.computed (lead_kind (others (bare_parts ps))) (subst (λ f. Among v.spelling (pattern_properties b g.computed f (lead_kind (others (bare_parts ps))))) (short_form g e) v.listed)
short_has_echo a (node kind.Property w g s t ps) e h = elim ((way_of h).listed) [ ]
short_has_echo a (node _ w g s t ps) e h = absurd (false≢true e)

-- a property whose key isn't in brackets
abbrev pub IsShort : Tree → Type 0
IsShort n = (is_shorthand (kind_of n) (flags_of n) ≡ true) × ((flags_of n).computed ≡ false)

script_echo : (b : Bool) (ps : Parts) → has_echo (roles (standing_at script (prologue false b [] (lay feed ∷ []) ps ++ tok End [] ∷ []))) ≡ false
script_echo b none = refl
script_echo b (gap ps) = refl
script_echo true (part m ps) = script_echo (is_directive m) ps
script_echo false (part m ps) = script_echo false ps

module_echo : (b : Bool) (ps : Parts) → has_echo (roles (standing_at script (module_prologue b ps ++ tok End [] ∷ []))) ≡ false
module_echo b none = refl
module_echo b (gap ps) = refl
module_echo b (part m ps) = of (is_module_item (kind_of m)) b (module_echo (b && is_directive m) ps)
  where
    of : (x y : Bool) {r : Bool} → r ≡ false → (is_echo (cond x module_item (cond y (opening false) (item false))) || r) ≡ false
    of true y h = h
    of false true h = h
    of false false h = h

-- and a way that has one is a shorthand property's
echo_is_short : (a : Role) (n : Tree) {qs : List (PieceOf Role)} → is_echo a ≡ false → Among qs (ways a n) → has_echo (roles qs) ≡ true → gain level qs ≤ 1 → 1 ≤ debt level qs → IsShort n
unfolding spellings
echo_is_short property (node kind.Property w g s t ps) e h k x y =
    let v = way_of h in
    let f = long_property g.computed g.form (value_form (bare_parts ps)) v.listed (ap (λ z. has_echo (roles z)) (sym v.is) ∙ k) in
    (form_short g f, property_open g.computed (value_form (bare_parts ps)) (subst (λ f. Among v.spelling (properties g.computed f (value_form (bare_parts ps)))) f v.listed))
echo_is_short property (node _ w g s t ps) e h k x y = elim ((way_of h).listed) [ ]
echo_is_short (pattern_property b) (node kind.Property w g s t ps) e h k x y =
    let v = way_of h in
    let f = long_pattern b g.computed g.form (lead_kind (others (bare_parts ps))) v.listed (ap (λ z. has_echo (roles z)) (sym v.is) ∙ k) in
    (form_short g f, pattern_open b g.computed (lead_kind (others (bare_parts ps))) (subst (λ f. Among v.spelling (pattern_properties b g.computed f (lead_kind (others (bare_parts ps))))) f v.listed))
echo_is_short (pattern_property b) (node _ w g s t ps) e h k x y = elim ((way_of h).listed) [ ]
echo_is_short shorthand_key n e h k x y = absurd (true≢false e)
echo_is_short script (node kind.Program w g s t ps) {qs} e h k x y =
    let v = way_of h in
    of_program (is_empty w || is w "2022") (is w "module") v.listed (λ i. none_there v.is i (script_echo true (bare_parts ps))) (λ i. none_there v.is i (module_echo true (bare_parts ps)))
  where
    none_there : {z z' : Spelling} → qs ≡ settled script z → z ≡ z' → has_echo (roles (settled script z')) ≡ false → IsShort (node kind.Program w g s t ps)
    none_there j i u = absurd (false≢true (sym (ap (λ z. has_echo (roles z)) (j ∙ ap (settled script) i) ∙ u) ∙ k))
echo_is_short script (node _ w g s t ps) e h k x y = elim ((way_of h).listed) [ ]
echo_is_short (expr y i f) n e h k x z = let p = way_paid (expr y i f) n _ h in absurd (omega (arith, p, x, z))
echo_is_short (chain_part f) n e h k x z = let p = way_paid (chain_part f) n _ h in absurd (omega (arith, p, x, z))
echo_is_short (template_element b c) n e h k x z = let p = way_paid (template_element b c) n _ h in absurd (omega (arith, p, x, z))
echo_is_short (pattern b f) n e h k x z = let p = way_paid (pattern b f) n _ h in absurd (omega (arith, p, x, z))
echo_is_short a n e h k x z = let p = way_paid a n _ h in absurd (omega (arith, p, x, z))

-- the parts of a way are all at plain positions; or they are a shorthand property's key and value
pub data Shape (n : Tree) : List (PieceOf Role) → Type 0 where
  regular : {qs : List (PieceOf Role)} → is_shorthand (kind_of n) (flags_of n) ≡ false → plain_parts qs ≡ true → Shape n qs
  short_name : IsShort n → Shape n (sub shorthand_key ∷ sub name ∷ [])
  short_default : IsShort n → Shape n (sub shorthand_key ∷ sub (element true) ∷ [])

pub way_shape : (a : Role) (n : Tree) {qs : List (PieceOf Role)} → is_echo a ≡ false → Among qs (ways a n) → Shape n qs
way_shape a n {qs} e h = of qs (echo_shape a n h) h
  where
    long : (qs : List (PieceOf Role)) (b : Bool) → is_shorthand (kind_of n) (flags_of n) ≡ b → Among qs (ways a n) → has_echo (roles qs) ≡ false → b ≡ false
    long qs true i h k = absurd (false≢true (sym k ∙ short_has_echo a n i h))
    long qs false i h k = refl

    of : (qs : List (PieceOf Role)) → EchoShape qs → Among qs (ways a n) → Shape n qs
    of qs (no_echo k) h = regular (long qs _ refl h k) (way_plain a n e h k)
    of _ before_name h = short_name (echo_is_short a n e h refl (omega arith) (omega arith))
    of _ before_default h = short_default (echo_is_short a n e h refl (omega arith) (omega arith))

-- Identifiers

-- an identifier is spelled by its name
pub name_way : (a : Role) (w : List ℕ) (g : Flags) (s t : ℕ) (ps : Parts) {qs : List (PieceOf Role)} → is_echo a ≡ false → Among qs (ways a (node kind.Identifier w g s t ps)) → qs ≡ tok IdentifierName w ∷ []
unfolding spellings expressions statements items openings
name_way (expr y i f) w g s t ps e h = let v = way_of h in unless (is_reserved w) v.listed (λ c k. v.is ∙ ap (settled (expr y i f)) (one k))
name_way name w g s t ps e h = let v = way_of h in unless (is_reserved w) v.listed (λ c k. v.is ∙ ap (settled name) (one k))
name_way word w g s t ps e h = let v = way_of h in v.is ∙ ap (settled word) (one v.listed)
name_way key w g s t ps e h = let v = way_of h in v.is ∙ ap (settled key) (one v.listed)
name_way shorthand_key w g s t ps e h = absurd (true≢false e)
name_way a w g s t ps e h = elim ((way_of h).listed) [ ]
