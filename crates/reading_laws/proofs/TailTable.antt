-- What may stand after an open place and a closed one: no TemplateMiddle or TemplateTail after an open one. The pieces of each way pass.
use Rattle.std.proofs.Common.{◌≡◌, ℕ, Bool, true, false, cond, not, ◌&&◌, ◌||◌, List, [], ◌∷◌, refl, sym, subst}
use Rattle.std.specs.Prelude.{map}
use Rattle.std.proofs.lemmas.Bool.{and_parts, and_from}
use Rattle.tree.specs.declared.kind.Kind.{Kind}
use Rattle.tree.specs.declared.kind.Flags.{Flags}
use Rattle.tree.specs.Tree.{Tree, Parts, bare}
use Rattle.tokens.specs.declared.token.TokenClass.{TokenClass}
use Rattle.tokens.specs.declared.token.TokenClass.TheVariants.{IdentifierName, Punctuator, NumericLiteral, StringLiteral, Template, RegularExpressionLiteral}
use Rattle.tokens.specs.Alphabet.{one_of, begins_with}
use Rattle.tokens.specs.Tokens.{is_end}
use Rattle.language.specs.declared.Rank.{Rank}
use Rattle.language.specs.declared.Start.{Start}
use Rattle.language.specs.Vocabulary.{is_word_operator}
use Rattle.language.specs.Pieces.{Role, expr, chain_part, name, word, private_name, tagged_quasi, template_element, body, class_body, script, Slot, fixed, lead_pattern, PieceOf, Piece, tok, may, many, ahead, unbroken, ending, open_parameters, close_parameters, sub, absent, never, lay, feed, settle_piece, no_operand}
use Rattle.language.specs.Statements.{prologue, module_prologue}
use Rattle.language.specs.Grammar.{ways, own_rank, own_in, own_start}
use Rattle.language.specs.Derivation.{Among}
use Rattle.language.specs.Forms.{Production, form, pieces_of, OwnText, a_name, a_literal, a_template, an_infix, own_piece}
use Rattle.language.specs.Forms as made
use Rattle.language.specs.Chosen.{Chosen, IsStatement, IsItem}
use Rattle.language.specs.Chosen as chosen
use Rattle.language.proofs.table.ViewIsComplete.{way_of}
use Rattle.language.proofs.table.EveryWay.{every_way}
use Rattle.language.proofs.table.BeforeIt.{Before, SuffixTest, allows_of, tells_of, form_before}
use Rattle.language.proofs.table.Shapes.{shape_of, of_form}

-- a TemplateMiddle or TemplateTail
abbrev pub is_template_tail : TokenClass → List ℕ → Bool
is_template_tail Template w = begins_with (one_of "}") w
is_template_tail _ w = false

-- what stands at this position ends with a token of its own
abbrev pub is_closed : Role → Bool
is_closed (expr y i f) = true
is_closed (chain_part f) = true
is_closed name = true
is_closed word = true
is_closed private_name = true
is_closed tagged_quasi = true
is_closed (template_element b c) = true
is_closed body = true
is_closed class_body = true
is_closed _ = false

abbrev pub is_later_part : Role → Bool
is_later_part (template_element b c) = not b
is_later_part _ = false

abbrev pub is_script : Role → Bool
is_script script = true
is_script _ = false

-- what may not stand behind a place; the flag says that the place is closed. A script stands behind none
abbrev pub barred : Bool → Role → Bool
barred t (template_element b c) = not t && not b
barred t script = true
barred t _ = false

abbrev pub barred_slot : Bool → Slot → Bool
barred_slot t (fixed a) = barred t a
barred_slot t _ = false

abbrev pub is_closed_slot : Slot → Bool
is_closed_slot (fixed a) = is_closed a
is_closed_slot lead_pattern = false
is_closed_slot _ = true

-- the pieces may stand there; the first flag says that the place before them is closed, the second that they must end at a closed one
abbrev pub tails_fit_by : {R : Type 0} → (Bool → R → Bool) → (R → Bool) → Bool → Bool → List (PieceOf R) → Bool
tails_fit_by bar closed b c [] = b || not c
tails_fit_by bar closed b c (tok k w ∷ qs) = (b || not (is_template_tail k w)) && (not (is_end k) && tails_fit_by bar closed true c qs)
tails_fit_by bar closed b c (may w ∷ qs) = tails_fit_by bar closed b c qs
tails_fit_by bar closed b c (many w ∷ qs) = tails_fit_by bar closed b c qs
tails_fit_by bar closed b c (ahead w ∷ qs) = tails_fit_by bar closed b c qs
tails_fit_by bar closed b c (unbroken ∷ qs) = tails_fit_by bar closed b c qs
tails_fit_by bar closed b c (no_operand ∷ qs) = tails_fit_by bar closed b c qs
tails_fit_by bar closed b c (ending x ∷ qs) = tails_fit_by bar closed false c qs
tails_fit_by bar closed b c (open_parameters ∷ qs) = tails_fit_by bar closed true c qs
tails_fit_by bar closed b c (close_parameters ∷ qs) = tails_fit_by bar closed true c qs
tails_fit_by bar closed b c (sub a ∷ qs) = not (bar b a) && tails_fit_by bar closed (closed a) c qs
tails_fit_by bar closed b c (absent ∷ qs) = tails_fit_by bar closed b c qs
tails_fit_by bar closed b c (never ∷ qs) = true
tails_fit_by bar closed b c (lay h ∷ qs) = tails_fit_by bar closed b c qs

abbrev pub tails_fit : Bool → Bool → List Piece → Bool
tails_fit b c qs = tails_fit_by barred_slot is_closed_slot b c qs

abbrev pub tails_fit_at : Bool → Bool → List (PieceOf Role) → Bool
tails_fit_at b c qs = tails_fit_by barred is_closed b c qs

pub fit_settled : (y : Rank) (i : Bool) (f : Start) (b c : Bool) (qs : List Piece) → tails_fit b c qs ≡ true → tails_fit_at b c (map (settle_piece y i f) qs) ≡ true
fit_settled y i f b c [] h = h
fit_settled y i f b c (tok k w ∷ qs) h = let u = and_parts _ _ h in let v = and_parts _ _ u.1 in and_from _ _ u.0 (and_from _ _ v.0 (fit_settled y i f true c qs v.1))
fit_settled y i f b c (ending e ∷ qs) h = fit_settled y i f false c qs h
fit_settled y i f b c (open_parameters ∷ qs) h = fit_settled y i f true c qs h
fit_settled y i f b c (close_parameters ∷ qs) h = fit_settled y i f true c qs h
fit_settled y i f b c (sub (fixed a) ∷ qs) h = let u = and_parts _ _ h in and_from _ _ u.0 (fit_settled y i f (is_closed a) c qs u.1)
fit_settled y i f b c (sub lead_pattern ∷ qs) h = fit_settled y i f false c qs h
fit_settled y i f b c (sub _ ∷ qs) h = fit_settled y i f true c qs h
fit_settled y i f b c (never ∷ qs) h = refl
fit_settled y i f b c (_ ∷ qs) h = fit_settled y i f b c qs h

-- the test from the end: whether a piece may stand before pieces that fit behind an open place, or behind a closed one alone
abbrev allows : Piece → Bool → Bool
allows (tok k w) b = not (is_end k)
allows (ending e) b = b
allows (sub x) b = not (barred_slot true x) && (is_closed_slot x || b)
allows _ b = true

abbrev tells : Piece → Bool → Bool
tells (tok k w) b = not (is_template_tail k w)
tells (sub x) b = not (barred_slot false x)
tells open_parameters b = true
tells close_parameters b = true
tells never b = true
tells _ b = b

abbrev own_tells : OwnText → Bool → Bool
own_tells a_name b = true
own_tells a_literal b = true
own_tells made.a_string b = true
own_tells made.a_sign b = true
own_tells an_infix b = true
own_tells made.a_private_name b = true
own_tells (a_template x y) b = x
own_tells _ b = b

module _ (c : Bool) where
  abbrev Fit : Bool → List Piece → Type 0
  Fit b qs = Before (tails_fit true c) (tails_fit false c) b qs

  -- where a closed place fits by itself, or an open one does
  placed : (x b : Bool) (qs : List Piece) → (x || b) ≡ true → Fit b qs → tails_fit x c qs ≡ true
  placed true b qs h k = k.is_good
  placed false b qs h k = k.is_known h

  piece_so : (q : Piece) (b : Bool) (qs : List Piece) → allows q b ≡ true → Fit b qs → Fit (tells q b) (q ∷ qs)
  piece_so (tok k w) b qs h f = record { is_good = and_from _ _ h f.is_good; is_known = λ e. and_from _ _ e (and_from _ _ h f.is_good) }
  piece_so (ending e) b qs h f = record { is_good = f.is_known h; is_known = f.is_known }
  piece_so (sub x) b qs h f = let u = and_parts (not (barred_slot true x)) _ h in
      record { is_good = and_from _ _ u.0 (placed (is_closed_slot x) b qs u.1 f); is_known = λ e. and_from _ _ e (placed (is_closed_slot x) b qs u.1 f) }
  piece_so open_parameters b qs h f = record { is_good = f.is_good; is_known = λ e. f.is_good }
  piece_so close_parameters b qs h f = record { is_good = f.is_good; is_known = λ e. f.is_good }
  piece_so never b qs h f = record { is_good = refl; is_known = λ e. refl }
  piece_so _ b qs h f = record { is_good = f.is_good; is_known = f.is_known }

literal_so : (x y z : Bool) → (not (is_end (cond x StringLiteral (cond y RegularExpressionLiteral (cond z NumericLiteral IdentifierName)))) ≡ true) × ((w : List ℕ) → not (is_template_tail (cond x StringLiteral (cond y RegularExpressionLiteral (cond z NumericLiteral IdentifierName))) w) ≡ true)
literal_so true y z = (refl, λ w. refl)
literal_so false true z = (refl, λ w. refl)
literal_so false false true = (refl, λ w. refl)
literal_so false false false = (refl, λ w. refl)

own_so : (w : List ℕ) (o : OwnText) (b : Bool) → true ≡ true → allows (own_piece o w) b ≡ true
own_so w a_literal b h = (literal_so _ _ _).0
own_so w an_infix b h = of (is_word_operator w)
  where
    of : (t : Bool) → not (is_end (cond t IdentifierName Punctuator)) ≡ true
    of true = refl
    of false = refl
own_so w _ b h = refl

own_told : (w : List ℕ) (o : OwnText) (b : Bool) → own_tells o b ≡ true → tells (own_piece o w) b ≡ true
own_told w a_literal b h = (literal_so _ _ _).1 w
own_told w an_infix b h = of (is_word_operator w)
  where
    of : (t : Bool) → not (is_template_tail (cond t IdentifierName Punctuator) w) ≡ true
    of true = refl
    of false = refl
own_told w (a_template true y) b h = refl
own_told w (a_template false y) b h = cc
own_told w made.a_name_ahead b h = h
own_told w made.a_step_space b h = h
own_told w _ b h = refl

abbrev tail_test : (c : Bool) (w : List ℕ) → SuffixTest w
tail_test c w = record {
  good = tails_fit true c;
  known = tails_fit false c;
  allows = allows;
  tells = tells;
  own_allows = λ o b. true;
  own_tells = own_tells;
  ending_allows = λ b. b;
  ending_tells = λ b. b;
  none_good = refl;
  piece_so = piece_so c;
  own_so = own_so w;
  own_told = own_told w;
  ending_so = λ e b h. h;
  ending_told = λ e b h. h;
}

nothing_fits : (c : Bool) → Before (tails_fit true c) (tails_fit false c) (not c) []
nothing_fits c = record { is_good = refl; is_known = λ e. e }

-- the form passes, where it must end at a closed place and where it needn't
abbrev passes : List ℕ → Bool → Production → Bool
passes w c p = allows_of (tail_test c w) (shape_of (form p).items) (not c) && tells_of (tail_test c w) (shape_of (form p).items) (not c)

abbrev is_plain : Production → Bool
is_plain (made.template_part x y) = false
is_plain made.script = false
is_plain made.module_script = false
is_plain _ = true

open_passes : (w : List ℕ) (p : Production) → is_plain p ≡ true → passes w false p ≡ true
open_passes w (made.template_part x y) h = cc
open_passes w made.script h = cc
open_passes w made.module_script h = cc
open_passes w (made.function x) h = of_form (λ z. passes w false (made.function z)) refl x
open_passes w (made.short_arrow x) h = of_form (λ z. passes w false (made.short_arrow z)) refl x
open_passes w (made.arrow x) h = of_form (λ z. passes w false (made.arrow z)) refl x
open_passes w (made.property_method x) h = of_form (λ z. passes w false (made.property_method z)) refl x
open_passes w (made.member_method x) h = of_form (λ z. passes w false (made.member_method z)) refl x
open_passes w (made.for_of x r) h = of_form (λ z. passes w false (made.for_of z r)) refl x
open_passes w p h = refl

closed_passes : {w : List ℕ} {g : Flags} {ps : Parts} {a : Role} {k : Kind} (p : Production) → Chosen w g ps a k p → is_plain p ≡ true → is_closed a ≡ true → passes w true p ≡ true
closed_passes p (chosen.of_statement chosen.at_statement c) l h = cc
closed_passes p (chosen.of_statement chosen.at_item c) l h = cc
closed_passes p (chosen.of_statement chosen.at_opening c) l h = cc
closed_passes p (chosen.of_declaration chosen.at_item c) l h = cc
closed_passes p (chosen.of_declaration chosen.at_opening c) l h = cc
closed_passes {w} {g} p chosen.function l h = of_form (λ z. passes w true (made.function z)) refl g.form
closed_passes {w} {g} p (chosen.short_arrow x y) l h = of_form (λ z. passes w true (made.short_arrow z)) refl g.form
closed_passes {w} {g} p chosen.arrow l h = of_form (λ z. passes w true (made.arrow z)) refl g.form
closed_passes p c l h = cc

form_fits : (w : List ℕ) (g : Flags) (ps : Parts) (p : Production) (b c : Bool) → passes w c p ≡ true → tails_fit b c (pieces_of (form p).items w g ps) ≡ true
form_fits w g ps p b c h =
    let u = and_parts _ _ h in
    let f = form_before (tail_test c w) (form p).items g ps (not c) u.0 (nothing_fits c) in
    of b f.is_good (f.is_known u.1)
  where
    of : (b : Bool) → tails_fit true c (pieces_of (form p).items w g ps) ≡ true → tails_fit false c (pieces_of (form p).items w g ps) ≡ true → tails_fit b c (pieces_of (form p).items w g ps) ≡ true
    of true x y = x
    of false x y = y

chosen_fits : {w : List ℕ} {g : Flags} {ps : Parts} {a : Role} {k : Kind} (p : Production) → Chosen w g ps a k p → is_script a ≡ false → tails_fit (is_later_part a) (is_closed a) (pieces_of (form p).items w g ps) ≡ true
chosen_fits (made.template_part true y) chosen.template_part s = refl
chosen_fits (made.template_part false y) chosen.template_part s = refl
chosen_fits (made.template_part x y) (chosen.of_statement i c) s = elim c [ ]
chosen_fits (made.template_part x y) (chosen.of_declaration i c) s = elim c [ ]
chosen_fits made.script (chosen.whole_script t) s = cc
chosen_fits made.script (chosen.of_statement i c) s = elim c [ ]
chosen_fits made.script (chosen.of_declaration i c) s = elim c [ ]
chosen_fits made.module_script (chosen.whole_module t) s = cc
chosen_fits made.module_script (chosen.of_statement i c) s = elim c [ ]
chosen_fits made.module_script (chosen.of_declaration i c) s = elim c [ ]
chosen_fits {w} {g} {ps} {a} p c s = form_fits w g ps p (is_later_part a) (is_closed a) (of (is_closed a) refl)
  where
    of : (t : Bool) → is_closed a ≡ t → passes w t p ≡ true
    of true e = closed_passes p c refl e
    of false e = open_passes w p refl

-- the pieces of a script before its end
pub script_fits : (w : List ℕ) (g : Flags) (ps : Parts) → tails_fit false false (prologue false true [] (lay feed ∷ []) ps) ≡ true
script_fits w g ps = (form_before (tail_test false w) (made.item_list false true [] (lay feed ∷ []) ∷ []) g ps true refl (nothing_fits false)).is_known refl

-- and those of a module
pub module_fits : (w : List ℕ) (g : Flags) (ps : Parts) → tails_fit false false (module_prologue true ps) ≡ true
module_fits w g ps = (form_before (tail_test false w) (made.module_item_list ∷ []) g ps true refl (nothing_fits false)).is_known refl

-- so the pieces of each way pass
pub way_fits : (a : Role) (n : Tree) {qs : List (PieceOf Role)} → is_script a ≡ false → Among qs (ways a n) → tails_fit_at (is_later_part a) (is_closed a) qs ≡ true
way_fits a n {qs} s h =
    let v = way_of h in
    let u = every_way a (bare n) v.listed in
    subst (λ z. tails_fit_at (is_later_part a) (is_closed a) z ≡ true) (sym v.is)
    (fit_settled (own_rank a) (own_in a) (own_start a) (is_later_part a) (is_closed a) v.spelling.pieces (subst (λ x. tails_fit (is_later_part a) (is_closed a) x.pieces ≡ true) (sym u.is) (chosen_fits u.production u.chosen s)))
