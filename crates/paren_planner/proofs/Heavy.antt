-- How many tokens of its own each way to spell a node has at least: one that has a row has one, and so have a part of a chain and a part of
-- a template. That is a test of single pieces, over forms.
use Rattle.std.proofs.Common.{◌≡◌, ℕ, ◌+◌, ◌≤◌, Bool, true, false, cond, not, List, [], ◌∷◌, refl, sym, ap, ap₂, ◌∙◌, arith}
use Rattle.std.specs.Prelude.{◌&&◌, ◌||◌, map}
use Rattle.std.proofs.lemmas.Bool.{and_parts, false≢true}
use Rattle.tree.specs.declared.kind.Kind.{Kind}
use Rattle.tree.specs.declared.kind.Flags.{Flags}
use Rattle.tree.specs.Tree.{Tree, Parts, none, part, gap, bare}
use Rattle.tokens.specs.declared.token.TokenClass.{TokenClass}
use Rattle.tokens.specs.declared.token.TokenClass.TheVariants.{IdentifierName, Punctuator, NumericLiteral, StringLiteral, RegularExpressionLiteral, End}
use Rattle.language.specs.declared.Rank.{Rank}
use Rattle.language.specs.declared.Rank.TheVariants.{Assignment}
use Rattle.language.specs.declared.Start.{Start}
use Rattle.language.specs.FirstPart.{others}
use Rattle.language.specs.Vocabulary.{is_word_operator}
use Rattle.language.specs.Pieces.{Role, expr, chain_part, tagged_quasi, template_element, Slot, fixed, left, tail, callee, lead_chain, lead_pattern, PieceOf, Piece, tok, may, many, ahead, unbroken, no_operand, ending, open_parameters, close_parameters, sub, absent, never, lay, settle, settle_piece, is_none}
use Rattle.language.specs.Pieces as piece
use Rattle.language.specs.Expressions.{sequence}
use Rattle.language.specs.Grammar.{ways, own_rank, own_in, own_start}
use Rattle.language.specs.RowPositions.{has_row}
use Rattle.language.specs.Derivation.{Among}
use Rattle.language.specs.Forms as made
use Rattle.language.specs.Forms.{Production, form, pieces_of, OwnText, own_piece}
use Rattle.language.specs.Chosen.{Chosen}
use Rattle.language.specs.Chosen as chosen
use Rattle.language.proofs.table.ViewIsComplete.{way_of}
use Rattle.language.proofs.table.EveryWay.{every_way}
use Rattle.language.proofs.table.BeforeIt.{SuffixTest, tells_of, allows_of, form_before}
use Rattle.language.proofs.table.Shapes.{shape_of, of_form}

-- a part at this position has so many tokens beyond its rows
abbrev pub own_tokens : Role → ℕ
own_tokens (chain_part f) = 1
own_tokens tagged_quasi = 1
own_tokens (template_element b c) = 1
own_tokens _ = 0

abbrev slot_tokens : Slot → ℕ
slot_tokens (fixed a) = own_tokens a
slot_tokens lead_chain = 1
slot_tokens _ = 0

abbrev pub is_end : TokenClass → Bool
is_end End = true
is_end _ = false

-- nothing spells `never`
abbrev pub piece_tokens : {R : Type 0} → (R → ℕ) → PieceOf R → ℕ
piece_tokens own (tok c w) = cond (is_end c) 0 1
piece_tokens own (sub x) = own x
piece_tokens own open_parameters = 1
piece_tokens own close_parameters = 1
piece_tokens own never = 1
piece_tokens own _ = 0

abbrev pub tokens : {R : Type 0} → (R → ℕ) → List (PieceOf R) → ℕ
tokens own [] = 0
tokens own (q ∷ qs) = piece_tokens own q + tokens own qs

slot-settled : (z : Rank) (i : Bool) (f : Start) (s : Slot) → own_tokens (settle z i f s) ≡ slot_tokens s
slot-settled z i f (fixed a) = refl
slot-settled z i f (left y) = refl
slot-settled z i f (piece.lead y) = refl
slot-settled z i f (tail y x) = refl
slot-settled z i f callee = refl
slot-settled z i f lead_chain = refl
slot-settled z i f lead_pattern = refl

piece-settled : (z : Rank) (i : Bool) (f : Start) (q : Piece) → piece_tokens own_tokens (settle_piece z i f q) ≡ piece_tokens slot_tokens q
piece-settled z i f (tok c w) = refl
piece-settled z i f (may w) = refl
piece-settled z i f (many w) = refl
piece-settled z i f (ahead w) = refl
piece-settled z i f unbroken = refl
piece-settled z i f no_operand = refl
piece-settled z i f (ending e) = refl
piece-settled z i f open_parameters = refl
piece-settled z i f close_parameters = refl
piece-settled z i f (sub s) = slot-settled z i f s
piece-settled z i f absent = refl
piece-settled z i f never = refl
piece-settled z i f (lay h) = refl

tokens-settled : (z : Rank) (i : Bool) (f : Start) (qs : List Piece) → tokens own_tokens (map (settle_piece z i f) qs) ≡ tokens slot_tokens qs
tokens-settled z i f [] = refl
tokens-settled z i f (q ∷ qs) = ap₂ (λ u v. u + v) (piece-settled z i f q) (tokens-settled z i f qs)

-- some piece has one

abbrev weighing_role : Role → Bool
weighing_role (chain_part f) = true
weighing_role tagged_quasi = true
weighing_role (template_element b c) = true
weighing_role _ = false

abbrev weighing_slot : Slot → Bool
weighing_slot (fixed a) = weighing_role a
weighing_slot lead_chain = true
weighing_slot _ = false

abbrev weighs : Piece → Bool
weighs (tok c w) = not (is_end c)
weighs (sub x) = weighing_slot x
weighs open_parameters = true
weighs close_parameters = true
weighs never = true
weighs _ = false

abbrev some_weighs : List Piece → Bool
some_weighs [] = false
some_weighs (q ∷ qs) = weighs q || some_weighs qs

role_tokens : (a : Role) → weighing_role a ≡ true → 1 ≤ own_tokens a
role_tokens (chain_part f) h = omega arith
role_tokens tagged_quasi h = omega arith
role_tokens (template_element b c) h = omega arith
role_tokens _ h = absurd (false≢true h)

class_tokens : (b : Bool) → not b ≡ true → 1 ≤ cond b 0 1
class_tokens true h = absurd (false≢true h)
class_tokens false h = omega arith

weight : (q : Piece) → weighs q ≡ true → 1 ≤ piece_tokens slot_tokens q
weight (tok c w) h = class_tokens (is_end c) h
weight (sub (fixed a)) h = role_tokens a h
weight (sub lead_chain) h = omega arith
weight (sub _) h = absurd (false≢true h)
weight open_parameters h = omega arith
weight close_parameters h = omega arith
weight never h = omega arith
weight _ h = absurd (false≢true h)

some_weight : (qs : List Piece) → some_weighs qs ≡ true → 1 ≤ tokens slot_tokens qs
some_weight [] h = absurd (false≢true h)
some_weight (q ∷ qs) h = of (λ k. some_weight qs k) (weighs q) refl h
  where
    of : (some_weighs qs ≡ true → 1 ≤ tokens slot_tokens qs) → (b : Bool) → weighs q ≡ b → (b || some_weighs qs) ≡ true → 1 ≤ piece_tokens slot_tokens q + tokens slot_tokens qs
    of others true e k = let x = weight q e in omega (arith, x)
    of others false e k = let x = others k in omega (arith, x)

-- so the forms have one

abbrev weighing_own : OwnText → Bool
weighing_own made.a_name_ahead = false
weighing_own made.a_step_space = false
weighing_own _ = true

own_weighs : (w : List ℕ) (o : OwnText) (b : Bool) → (weighing_own o || b) ≡ true → (weighs (own_piece o w) || b) ≡ true
own_weighs w made.a_literal b h = of _ _ _
  where
    of : (x y z : Bool) → (not (is_end (cond x StringLiteral (cond y RegularExpressionLiteral (cond z NumericLiteral IdentifierName)))) || b) ≡ true
    of true y z = refl
    of false true z = refl
    of false false true = refl
    of false false false = refl
own_weighs w made.an_infix b h = of (is_word_operator w)
  where
    of : (x : Bool) → (not (is_end (cond x IdentifierName Punctuator)) || b) ≡ true
    of true = refl
    of false = refl
own_weighs w made.a_name_ahead b h = h
own_weighs w made.a_step_space b h = h
own_weighs w _ b h = refl

either : (a b c : Bool) → (b ≡ true → c ≡ true) → (a || b) ≡ true → (a || c) ≡ true
either true b c f h = refl
either false b c f h = f h

abbrev anything : List Piece → Bool
anything qs = true

abbrev weight_test : (w : List ℕ) → SuffixTest w
weight_test w = record {
  good = anything;
  known = some_weighs;
  allows = λ q b. true;
  tells = λ q b. weighs q || b;
  own_allows = λ o b. true;
  own_tells = λ o b. weighing_own o || b;
  ending_allows = λ b. true;
  ending_tells = λ b. b;
  none_good = refl;
  piece_so = λ q b qs h f. record { is_good = refl; is_known = λ e. either (weighs q) b (some_weighs qs) f.is_known e };
  own_so = λ o b h. refl;
  own_told = own_weighs w;
  ending_so = λ e b h. refl;
  ending_told = λ e b h. h;
}

-- the form has a token, whatever the node
abbrev has_token : List ℕ → Production → Bool
has_token w p = allows_of (weight_test w) (shape_of (form p).items) false && tells_of (weight_test w) (shape_of (form p).items) false

form_tokens : (w : List ℕ) (g : Flags) (ps : Parts) (p : Production) → has_token w p ≡ true → 1 ≤ tokens slot_tokens (pieces_of (form p).items w g ps)
form_tokens w g ps p h =
    let u = and_parts _ _ h in
    some_weight (pieces_of (form p).items w g ps) ((form_before (weight_test w) (form p).items g ps false u.0 (record { is_good = refl; is_known = λ e. absurd (false≢true e) })).is_known u.1)

-- a node there has one
abbrev is_heavy : Role → Bool
is_heavy (expr y i f) = true
is_heavy (chain_part f) = true
is_heavy tagged_quasi = true
is_heavy (template_element b c) = true
is_heavy _ = false

abbrev is_sequence : Production → Bool
is_sequence made.several = true
is_sequence _ = false

chosen_token : {w : List ℕ} {g : Flags} {ps : Parts} {a : Role} {k : Kind} (p : Production) → Chosen w g ps a k p → is_sequence p ≡ false → is_heavy a ≡ true → has_token w p ≡ true
chosen_token p (chosen.of_statement chosen.at_statement c) l h = cc
chosen_token p (chosen.of_statement chosen.at_item c) l h = cc
chosen_token p (chosen.of_statement chosen.at_opening c) l h = cc
chosen_token p (chosen.of_declaration chosen.at_item c) l h = cc
chosen_token p (chosen.of_declaration chosen.at_opening c) l h = cc
chosen_token {w} {g} p chosen.function l h = of_form (λ z. has_token w (made.function z)) refl g.form
chosen_token {w} {g} p (chosen.short_arrow x y) l h = of_form (λ z. has_token w (made.short_arrow z)) refl g.form
chosen_token {w} {g} p chosen.arrow l h = of_form (λ z. has_token w (made.arrow z)) refl g.form
chosen_token p c l h = cc

sequence_tokens : (ps : Parts) → is_none ps ≡ false → 1 ≤ tokens slot_tokens (sub (left Assignment) ∷ sequence ps)
sequence_tokens none h = absurd (false≢true (sym h))
sequence_tokens (part n ps) h = omega arith
sequence_tokens (gap ps) h = omega arith

chosen_tokens : {w : List ℕ} {g : Flags} {ps : Parts} {a : Role} {k : Kind} (p : Production) → Chosen w g ps a k p → is_heavy a ≡ true → 1 ≤ tokens slot_tokens (pieces_of (form p).items w g ps)
chosen_tokens {ps = ps} made.several (chosen.several e) h = sequence_tokens (others ps) e
chosen_tokens made.several (chosen.of_statement s c) h = elim c [ ]
chosen_tokens made.several (chosen.of_declaration s c) h = elim c [ ]
chosen_tokens {w} {g} {ps} p c h = form_tokens w g ps p (chosen_token p c refl h)

-- Of a way

weight_of : (a : Role) → is_heavy a ≡ false → own_tokens a + has_row a ≡ 0
weight_of (expr y i f) h = absurd (false≢true (sym h))
weight_of (chain_part f) h = absurd (false≢true (sym h))
weight_of tagged_quasi h = absurd (false≢true (sym h))
weight_of (template_element b c) h = absurd (false≢true (sym h))
weight_of _ h = refl

heavy_weight : (a : Role) → own_tokens a + has_row a ≤ 1
heavy_weight (expr y i f) = omega arith
heavy_weight (chain_part f) = omega arith
heavy_weight tagged_quasi = omega arith
heavy_weight (template_element b c) = omega arith
heavy_weight _ = omega arith

pub way_tokens : (a : Role) (n : Tree) (qs : List (PieceOf Role)) → Among qs (ways a n) → own_tokens a + has_row a ≤ tokens own_tokens qs
way_tokens a n qs h = of (is_heavy a) refl
  where
    of : (b : Bool) → is_heavy a ≡ b → own_tokens a + has_row a ≤ tokens own_tokens qs
    of false e = let z = weight_of a e in omega (arith, z)
    of true e =
        let v = way_of h in
        let u = every_way a (bare n) v.listed in
        let same : tokens own_tokens qs ≡ tokens slot_tokens (pieces_of (form u.production).items _ _ _) = ap (tokens own_tokens) v.is ∙ tokens-settled (own_rank a) (own_in a) (own_start a) v.spelling.pieces ∙ ap (λ x. tokens slot_tokens x.pieces) u.is in
        let one = chosen_tokens u.production u.chosen e in
        let most = heavy_weight a in
        omega (arith, same, one, most)
