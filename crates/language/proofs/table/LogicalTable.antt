-- Each way has an operand behind `&&`, `||` and `??`.
use Rattle.std.proofs.Common.{◌≡◌, ℕ, Bool, true, false, cond, not, ◌&&◌, ◌||◌, List, ◌∷◌, refl, sym, ap, ◌∙◌}
use Rattle.std.proofs.lemmas.Bool.{false≢true, and_parts, and_from}
use Rattle.tokens.specs.declared.token.TokenClass.TheVariants as class
use Rattle.tokens.proofs.EarlierWords.{longer_today}
use Rattle.tree.specs.declared.kind.Kind.{Kind}
use Rattle.tree.specs.declared.kind.Flags.{Flags}
use Rattle.tree.specs.Tree.{Tree, Parts, bare}
use Rattle.language.specs.Vocabulary.{among, is_update_operator}
use Rattle.language.specs.Pieces.{Role, PieceOf, Piece, tok, may, many, sub, lay}
use Rattle.language.specs.Grammar.{ways}
use Rattle.language.specs.Derivation.{Among}
use Rattle.language.specs.Forms as made
use Rattle.language.specs.Forms.{Production, postfix, form, pieces_of, OwnText, a_literal, a_sign, an_infix, a_step_space, own_piece}
use Rattle.language.specs.Chosen.{Chosen}
use Rattle.language.specs.Chosen as chosen
use Rattle.language.proofs.table.ViewIsComplete.{way_of, absent_is_false}
use Rattle.language.proofs.table.Begins.{among_by}
use Rattle.language.proofs.table.EveryWay.{every_way}
use Rattle.language.proofs.table.BeforeIt.{Before, SuffixTest, allows_of, good_form}
use Rattle.language.proofs.table.Shapes.{shape_of, of_form}
use Rattle.language.proofs.table.LogicalPieces.{is_mark, is_operand_slot, ready, guarded, guarded_here, guarded_settled}

-- whether a piece may stand where an operand follows, or anything
abbrev allows : Piece → Bool → Bool
allows (tok c w) b = not (is_mark c && among w longer_today) || b
allows (may w) b = not (among w longer_today)
allows (many w) b = not (among w longer_today)
allows _ b = true

abbrev tells : Piece → Bool → Bool
tells (lay h) b = b
tells (sub x) b = is_operand_slot x
tells _ b = false

-- `d` says that the node's text is none of the three
abbrev own_allows : Bool → OwnText → Bool → Bool
own_allows d a_sign b = d || b
own_allows d an_infix b = b
own_allows d _ b = true

abbrev own_tells : OwnText → Bool → Bool
own_tells a_step_space b = b
own_tells _ b = false

piece_so : (q : Piece) (b : Bool) (qs : List Piece) → allows q b ≡ true → Before guarded ready b qs → Before guarded ready (tells q b) (q ∷ qs)
piece_so (tok c w) b qs h k = record { is_good = and_from _ _ (of (not (is_mark c && among w longer_today)) b h k.is_known) k.is_good; is_known = λ e. cc }
  where
    of : (x b : Bool) → (x || b) ≡ true → (b ≡ true → ready qs ≡ true) → (x || ready qs) ≡ true
    of true b h f = refl
    of false b h f = f h
piece_so (may w) b qs h k = record { is_good = and_from _ _ h k.is_good; is_known = λ e. cc }
piece_so (many w) b qs h k = record { is_good = and_from _ _ h k.is_good; is_known = λ e. cc }
piece_so (lay x) b qs h k = record { is_good = k.is_good; is_known = k.is_known }
piece_so (sub x) b qs h k = record { is_good = k.is_good; is_known = λ e. e }
piece_so _ b qs h k = record { is_good = k.is_good; is_known = λ e. cc }

no_mark : (a b c : Bool) → is_mark (cond a class.StringLiteral (cond b class.RegularExpressionLiteral (cond c class.NumericLiteral class.IdentifierName))) ≡ false
no_mark true b c = refl
no_mark false true c = refl
no_mark false false true = refl
no_mark false false false = refl

or_true : (x : Bool) → (x || true) ≡ true
or_true true = refl
or_true false = refl

own_so : (w : List ℕ) (d : Bool) → (d ≡ true → among w longer_today ≡ false) → (o : OwnText) (b : Bool) → own_allows d o b ≡ true → allows (own_piece o w) b ≡ true
own_so w d f a_literal b h = ap (λ x. not (x && among w longer_today) || b) (no_mark _ _ _)
own_so w true f a_sign b h = ap (λ x. not x || b) (f refl)
own_so w false f a_sign true h = or_true _
own_so w false f a_sign false h = cc
own_so w d f an_infix true h = or_true _
own_so w d f an_infix false h = cc
own_so w d f _ b h = refl

own_told : (w : List ℕ) (o : OwnText) (b : Bool) → own_tells o b ≡ true → tells (own_piece o w) b ≡ true
own_told w a_step_space b h = h
own_told w _ b h = cc

abbrev guards : (w : List ℕ) (d : Bool) → (d ≡ true → among w longer_today ≡ false) → SuffixTest w
guards w d f = record {
  good = guarded;
  known = ready;
  allows = allows;
  tells = tells;
  own_allows = own_allows d;
  own_tells = own_tells;
  ending_allows = λ b. true;
  ending_tells = λ b. false;
  none_good = refl;
  piece_so = piece_so;
  own_so = own_so w d f;
  own_told = own_told w;
  ending_so = λ e b h. refl;
  ending_told = λ e b h. h;
}

-- `++` and `--` are none of the three
step_differs : (w : List ℕ) → is_update_operator w ≡ true → among w longer_today ≡ false
step_differs w h = of (among w longer_today) refl
  where
    of : (b : Bool) → among w longer_today ≡ b → among w longer_today ≡ false
    of true e = absurd (false≢true (sym (among_by (λ v. is_update_operator v ≡ false) w longer_today e (refl, (refl, (refl, tt)))) ∙ h))
    of false e = e

form_guarded : {a : Role} {k : Kind} (p : Production) (w : List ℕ) (g : Flags) (ps : Parts) → Chosen w g ps a k p → guarded (pieces_of (form p).items w g ps) ≡ true
form_guarded postfix w g ps (chosen.postfix e d) = good_form (guards w true (λ h. step_differs w ((and_parts _ _ (absent_is_false _ e)).0))) (form postfix).items g ps refl
form_guarded postfix w g ps (chosen.of_statement s c) = elim c [ ]
form_guarded postfix w g ps (chosen.of_declaration s c) = elim c [ ]
form_guarded (made.function x) w g ps c = good_form (guards w false (λ h. cc)) (form (made.function x)).items g ps (of_form (λ z. allows_of (guards w false (λ h. cc)) (shape_of (form (made.function z)).items) false) refl x)
form_guarded (made.short_arrow x) w g ps c = good_form (guards w false (λ h. cc)) (form (made.short_arrow x)).items g ps (of_form (λ z. allows_of (guards w false (λ h. cc)) (shape_of (form (made.short_arrow z)).items) false) refl x)
form_guarded (made.arrow x) w g ps c = good_form (guards w false (λ h. cc)) (form (made.arrow x)).items g ps (of_form (λ z. allows_of (guards w false (λ h. cc)) (shape_of (form (made.arrow z)).items) false) refl x)
form_guarded (made.property_method x) w g ps c = good_form (guards w false (λ h. cc)) (form (made.property_method x)).items g ps (of_form (λ z. allows_of (guards w false (λ h. cc)) (shape_of (form (made.property_method z)).items) false) refl x)
form_guarded (made.member_method x) w g ps c = good_form (guards w false (λ h. cc)) (form (made.member_method x)).items g ps (of_form (λ z. allows_of (guards w false (λ h. cc)) (shape_of (form (made.member_method z)).items) false) refl x)
form_guarded (made.for_of x r) w g ps c = good_form (guards w false (λ h. cc)) (form (made.for_of x r)).items g ps (of_form (λ z. allows_of (guards w false (λ h. cc)) (shape_of (form (made.for_of z r)).items) false) refl x)
form_guarded p w g ps c = good_form (guards w false (λ h. cc)) (form p).items g ps refl

-- so each way is
pub way_guarded : (a : Role) (n : Tree) {qs : List (PieceOf Role)} → Among qs (ways a n) → guarded_here qs ≡ true
way_guarded a n h =
    let v = way_of h in
    let u = every_way a (bare n) v.listed in
    ap guarded_here v.is ∙ guarded_settled a v.spelling.pieces ∙ ap (λ x. guarded x.pieces) u.is ∙ form_guarded u.production _ _ _ u.chosen
