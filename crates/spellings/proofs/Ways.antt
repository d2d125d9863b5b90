-- The ways to spell a node, by an outline.
use Rattle.std.proofs.Common.{◌≡◌, ℕ, Bool, true, false, cond, List, [], ◌∷◌, refl, sym, ap, ap₂, ◌∙◌, subst}
use Rattle.std.specs.Prelude.{Option, Some, None, ◌&&◌, map, option_map}
use Rattle.std.proofs.lemmas.Bool.{false≢true}
use Rattle.tree.specs.Tree.{Tree, node, Parts, kind_of, text_of, flags_of, parts_of, bare, bare_parts}
use Rattle.tree.specs.Uses.{is_lean}
use Rattle.language.specs.declared.Rank.{Rank}
use Rattle.language.specs.declared.Start.{Start}
use Rattle.language.specs.Pieces.{Role, expr, pattern, Slot, Spelling}
use Rattle.language.specs.Grammar.{ways, ways_bare, spellings, fits_position, own_rank, own_in, own_start}
use Rattle.language.proofs.lower_bound.Domination.{settled, fits, ways_of}
use Rattle.spelling_table.specs.declared.outline.Outline.{Outline}
use Rattle.spelling_table.specs.Outlines.{role_of, assignment_at, outline_slots}
use Rattle.spellings.specs.Entries.{around}
use Rattle.spellings.specs.Expressions.{expression_outline}
use Rattle.spellings.specs.Others.{pattern_outline, pattern_form_outline}
use Rattle.spellings.specs.Positions.{outline_by, outline_at}
use Rattle.spelling_table.specs.declared.position.Position.{Position}
use Rattle.spelling_table.specs.declared.position.Position.TheVariants as at
use Rattle.spelling_table.specs.declared.position.Slot.TheVariants as own
use Rattle.spelling_table.specs.declared.outline.FixedSlots.TheVariants.{One}
use Rattle.tree.specs.declared.kind.Kind.{Kind}
use Rattle.tree.specs.declared.kind.Kind.TheVariants as kind
use Rattle.tree.specs.declared.kind.Flags.{Flags}
use Rattle.language.specs.FirstPart.{lead, others}
use Rattle.language.specs.Expressions.{value_form}
use Rattle.spelling_table.specs.Requirements.{fits_outline}
use Rattle.spellings.specs.Spelled.{settled_roles, outlined_roles, roles_by, Verdict}
use Rattle.spellings.proofs.SlotPositions.{named, is_some, runs-named, roles-named}
use Rattle.spellings.proofs.OutlineWays.{Describes, Outlined, no_way, never_runs, neither_runs, one_way, two_ways}
use Rattle.spellings.proofs.Bare.{around-bare, outline_slots-bare}
use Rattle.spellings.proofs.ExpressionTable.{second_kind, expressions_outlined}
use Rattle.spellings.proofs.OtherTable.{Placed, nowhere, unnamed, placed, placed_first, places, names_placed, private_names_placed, words_placed, echoes_placed, bases_placed, chunks_placed, quotes_placed, quasis_placed, keys_placed, properties_placed, pattern_properties_placed, elements_placed, rest_placed, members_placed, spines_placed, functions_at, member_placed, patterns_outlined}
use Rattle.spellings.proofs.StatementTable.{items_placed, body_placed, script_placed, statements_placed, item_placed, opening_placed, heads_placed, declarators_placed, cases_placed, handlers_placed}
use Rattle.spellings.proofs.ModuleTable.{module_items_placed, specifiers_placed, default_items_placed}

fits-described : {ps : Parts} {s : Spelling} {x : Outline} (a : Role) → Describes ps s x → fits_position a s ≡ fits_outline a x
fits-described (expr y i f) d = rw (d.rank, d.needs_in, d.opens f) refl
fits-described (pattern b f) d = d.opens f
fits-described _ d = refl

abbrev place : Role → List Slot → List Role
place a xs = settled_roles a xs

-- by whether it fits and what it names
chosen : (a : Role) (s : Spelling) (v : Bool) → fits_position a s ≡ v → (o : Option (List Slot)) → named s.pieces ≡ o →
    Verdict (map (settled a) (cond (v && is_some o) (s ∷ []) [])) (cond v (option_map (place a) o) None)
chosen a s false e o h = refl
chosen a s true e None h = refl
chosen a s true e (Some xs) h = (refl, roles-named (own_rank a) (own_in a) (own_start a) s.pieces xs h)

one_chosen : {ps : Parts} {s : Spelling} {x : Outline} (a : Role) → Describes ps s x → Verdict (ways_of a (s ∷ [])) (outlined_roles a ps (Some x))
one_chosen {ps} {s} {x} a d =
    subst (λ b. Verdict (map (settled a) (cond b (s ∷ []) [])) (cond (fits_outline a x) (option_map (place a) (outline_slots x ps)) None))
    (sym (ap₂ (λ u v. u && v) (fits-described a d) (runs-named s.pieces ∙ ap is_some d.names)))
    (chosen a s (fits_outline a x) (fits-described a d) (outline_slots x ps) d.names)

abbrev first_of_two : Role → Spelling → Spelling → Bool → Bool → List Spelling
first_of_two a s r b c = cond b (s ∷ cond c (r ∷ []) []) (cond c (r ∷ []) [])

same_first : (a : Role) (s r : Spelling) (b c : Bool) → (c ≡ true → b ≡ true) → (o : Option (List Role)) → Verdict (map (settled a) (cond b (s ∷ []) [])) o → Verdict (map (settled a) (first_of_two a s r b c)) o
same_first a s r true c k None h = absurd (cc)
same_first a s r true c k (Some rs) h = h
same_first a s r false true k o h = absurd (false≢true (k refl))
same_first a s r false false k o h = h

-- what is never spelled fits nowhere
unfit : (a : Role) (s : Spelling) → named s.pieces ≡ None → fits a s ≡ false
unfit a s e = ap (λ b. fits_position a s && b) (runs-named s.pieces ∙ ap is_some e) ∙ of (fits_position a s)
  where
    of : (w : Bool) → (w && false) ≡ false
    of true = refl
    of false = refl

chosen_by : {ps : Parts} {xs : List Spelling} {o : Option Outline} (a : Role) → Outlined ps xs o → Verdict (ways_of a xs) (outlined_roles a ps o)
chosen_by a no_way = refl
chosen_by a (never_runs {s = s} e) = ap (λ b. map (settled a) (cond b (s ∷ []) [])) (unfit a s e)
chosen_by a (neither_runs {s = s} {r = r} e h) = ap₂ (λ b c. map (settled a) (first_of_two a s r b c)) (unfit a s e) (unfit a r h)
chosen_by a (one_way d) = one_chosen a d
chosen_by {ps} a (two_ways {s = s} {r = r} {x = x} d c) = same_first a s r (fits a s) (fits a r) (c a) (outlined_roles a ps (Some x)) (one_chosen a d)

lean-bare : (n : Tree) → is_lean (bare n) ≡ is_lean n
lean-bare (node k w g s e ps) = refl

outlined_roles-bare : (a : Role) (n : Tree) (o : Option Outline) → outlined_roles a (parts_of (bare n)) o ≡ outlined_roles a (parts_of n) o
outlined_roles-bare a n None = refl
outlined_roles-bare a (node k w g s e ps) (Some x) = ap (λ u. cond (fits_outline a x) (option_map (place a) u) None) (outline_slots-bare x ps)

-- the ways of the table, by what is said of its spellings
ways_when : (a : Role) (n : Tree) (o : Option Outline) → Verdict (ways_of a (spellings a (bare n))) (outlined_roles a (parts_of (bare n)) o) → Verdict (ways a n) (roles_by a n o)
unfolding ways ways_bare
ways_when a n o h =
    subst (λ u. Verdict (cond (is_lean (bare n)) (ways_of a (spellings a (bare n))) []) u)
    (ap₂ (λ b v. cond b v None) (lean-bare n) (outlined_roles-bare a n o))
    (of (is_lean (bare n)))
  where
    of : (b : Bool) → Verdict (cond b (ways_of a (spellings a (bare n))) []) (cond b (outlined_roles a (parts_of (bare n)) o) None)
    of true = h
    of false = refl

pub ways_by : (a : Role) (n : Tree) (o : Option Outline) → Outlined (parts_of (bare n)) (spellings a (bare n)) o → Verdict (ways a n) (roles_by a n o)
ways_by a n o h = ways_when a n o (chosen_by a h)

-- of a position at which a start asks nothing
pub record Asks (a : Role) : Type 0 where
  pub spelling : (s : Spelling) → fits_position a s ≡ true
  pub outline : (x : Outline) → fits_outline a x ≡ true

sole_placed : (ps : Parts) (s : Spelling) (x : Outline) (a : Role) → Asks a → named s.pieces ≡ outline_slots x ps → Verdict (ways_of a (s ∷ [])) (outlined_roles a ps (Some x))
sole_placed ps s x a f e =
    subst (λ b. Verdict (map (settled a) (cond b (s ∷ []) [])) (cond (fits_outline a x) (option_map (place a) (outline_slots x ps)) None))
    (sym (ap₂ (λ u v. u && v) (f.spelling s ∙ sym (f.outline x)) (runs-named s.pieces ∙ ap is_some e)))
    (chosen a s (fits_outline a x) (f.spelling s ∙ sym (f.outline x)) (outline_slots x ps) e)

placed_by : {ps : Parts} {xs : List Spelling} {o : Option Outline} (a : Role) → Asks a → Placed ps xs o → Verdict (ways_of a xs) (outlined_roles a ps o)
placed_by a f nowhere = refl
placed_by a f (unnamed {s = s} e) = ap (λ b. map (settled a) (cond b (s ∷ []) [])) (unfit a s e)
placed_by {ps} a f (placed {s = s} {x = x} e) = sole_placed ps s x a f e
placed_by {ps} a f (placed_first {s = s} {r = r} {x = x} e h) = same_first a s r (fits a s) (fits a r) (λ c. ap₂ (λ u v. u && v) (f.spelling s) (runs-named s.pieces ∙ ap is_some e)) (outlined_roles a ps (Some x)) (sole_placed ps s x a f (e ∙ sym h))

pub ways_placed : (a : Role) (n : Tree) (o : Option Outline) → Asks a → Placed (parts_of (bare n)) (spellings a (bare n)) o → Verdict (ways a n) (roles_by a n o)
ways_placed a n o f h = ways_when a n o (placed_by a f h)

-- an expression's
pub expression_ways : (y : Rank) (i : Bool) (f : Start) (n : Tree) →
    Verdict (ways (expr y i f) n) (roles_by (expr y i f) n (expression_outline (kind_of n) (text_of n) (flags_of n) (around (parts_of n))))
unfolding spellings
expression_ways y i f (node k w g s e ps) =
    ways_by (expr y i f) (node k w g s e ps) (expression_outline k w g (around ps))
    (subst (λ u. Outlined (bare_parts ps) (Rattle.language.specs.Expressions.expressions k w g (bare_parts ps)) (expression_outline k w g u)) (around-bare ps) (expressions_outlined k w g (bare_parts ps)))

-- Nodes at any position

-- a position at which neither symbol, In nor start asks anything
abbrev is_plain_position : Position → Bool
is_plain_position (at.Expression y i f) = false
is_plain_position (at.Pattern b f) = false
is_plain_position _ = true

plain_asks : (p : Position) → is_plain_position p ≡ true → Asks (role_of p)
plain_asks (at.Expression y i f) h = absurd (cc)
plain_asks (at.Pattern b f) h = absurd (cc)
plain_asks _ h = record { spelling = λ s. refl; outline = λ x. refl }

-- what is said of the table at a position that asks nothing
table_placed : (p : Position) → is_plain_position p ≡ true → (k : Kind) (w : List ℕ) (g : Flags) (ps : Parts) → Placed ps (spellings (role_of p) (node k w g 0 0 ps)) (outline_by p k w g (around ps))
unfolding spellings
table_placed (at.Expression y i f) h k w g ps = absurd (cc)
table_placed (at.Pattern b f) h k w g ps = absurd (cc)
table_placed (at.ChainPart f) h k w g ps = spines_placed k g ps
table_placed at.Name h k w g ps = names_placed k w
table_placed at.PrivateName h k w g ps = private_names_placed k w
table_placed at.IdentifierName h k w g ps = words_placed k w
table_placed at.PropertyName h k w g ps = keys_placed k w
table_placed at.ShorthandKey h k w g ps = echoes_placed k w
table_placed at.Super h k w g ps = bases_placed k
table_placed at.DirectiveString h k w g ps = quotes_placed k w
table_placed at.TaggedQuasi h k w g ps = quasis_placed k
table_placed (at.TemplateElement b c) h k w g ps = chunks_placed b c k w
table_placed at.Spread h kind.SpreadElement w g ps = places (One (own.Fixed assignment_at)) _ refl
table_placed at.Spread h _ w g ps = nowhere
table_placed at.Property h kind.Property w g ps = properties_placed g.computed g.form (value_form ps)
table_placed at.Property h _ w g ps = nowhere
table_placed (at.PatternProperty b) h kind.Property w g ps =
    subst (λ k. Placed ps (Rattle.language.specs.Expressions.pattern_properties b g.computed g.form (lead (others ps))) (pattern_form_outline b g.computed g.form k)) (second_kind ps) (pattern_properties_placed b g.computed g.form (lead (others ps)))
table_placed (at.PatternProperty b) h _ w g ps = nowhere
table_placed (at.Element b) h k w g ps = elements_placed b k ps
table_placed (at.Rest b o) h k w g ps = rest_placed b o k ps
table_placed (at.Method x) h kind.FunctionExpression w g ps = functions_at x g.form ps
table_placed (at.Method x) h _ w g ps = nowhere
table_placed at.Body h kind.BlockStatement w g ps = body_placed ps
table_placed at.Body h _ w g ps = nowhere
table_placed (at.Statement r) h k w g ps = statements_placed r k w g ps
table_placed (at.StatementListItem r) h k w g ps = item_placed r k w g ps
table_placed (at.PrologueItem r) h k w g ps = opening_placed r k w g ps
table_placed (at.Block r) h kind.BlockStatement w g ps = items_placed r ps
table_placed (at.Block r) h _ w g ps = nowhere
table_placed (at.ForDeclaration b) h k w g ps = heads_placed b k w ps
table_placed (at.Declarator i b) h k w g ps = declarators_placed i b k ps
table_placed (at.SwitchCase r) h k w g ps = cases_placed r k ps
table_placed (at.CatchClause r) h k w g ps = handlers_placed r k ps
table_placed at.ClassBody h kind.ClassBody w g ps = members_placed ps
table_placed at.ClassBody h _ w g ps = nowhere
table_placed at.Member h k w g ps = member_placed k g ps
table_placed at.ModuleItem h k w g ps = module_items_placed k ps
table_placed at.Specifier h k w g ps = specifiers_placed k g ps
table_placed at.DefaultItem h k w g ps = default_items_placed k g ps
table_placed at.Script h kind.Program w g ps = script_placed w ps
table_placed at.Script h _ w g ps = nowhere

plain_ways : (p : Position) → is_plain_position p ≡ true → (n : Tree) → Verdict (ways (role_of p) n) (roles_by (role_of p) n (outline_at p n))
plain_ways p h (node k w g s e ps) = ways_placed (role_of p) (node k w g s e ps) (outline_by p k w g (around ps)) (plain_asks p h)
    (subst (λ u. Placed (bare_parts ps) (spellings (role_of p) (node k w g 0 0 (bare_parts ps))) (outline_by p k w g u)) (around-bare ps) (table_placed p h k w g (bare_parts ps)))

pattern_ways : (b : Bool) (f : Start) (n : Tree) → Verdict (ways (pattern b f) n) (roles_by (pattern b f) n (pattern_outline b (kind_of n)))
unfolding spellings
pattern_ways b f (node k w g s e ps) = ways_by (pattern b f) (node k w g s e ps) (pattern_outline b k) (patterns_outlined b k (bare_parts ps))

-- the ways to spell a node at a position, by its outline
pub position_ways : (p : Position) (n : Tree) → Verdict (ways (role_of p) n) (roles_by (role_of p) n (outline_at p n))
position_ways (at.Expression y i f) n = expression_ways y i f n
position_ways (at.Pattern b f) n = pattern_ways b f n
position_ways p n = plain_ways p refl n
