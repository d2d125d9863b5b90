-- Where a way has a shorthand key, a name stands behind it, or a name with a default; nothing else stands there.
use Rattle.std.proofs.Common.{◌≡◌, ℕ, true, List, refl, sym, ap, ◌∙◌, subst}
use Rattle.tree.specs.declared.kind.Flags.{Flags}
use Rattle.tree.specs.Tree.{Tree, Parts, bare}
use Rattle.language.specs.Pieces.{Role, PieceOf}
use Rattle.language.specs.Grammar.{ways}
use Rattle.language.specs.Derivation.{Among}
use Rattle.language.specs.Forms as made
use Rattle.language.specs.Forms.{Production, shorthand, shorthand_default, form, pieces_of, OwnText, a_name, own_piece}
use Rattle.language.proofs.table.ViewIsComplete.{way_of}
use Rattle.language.proofs.table.Alike.{standing_at}
use Rattle.language.proofs.table.EveryWay.{every_way}
use Rattle.language.proofs.table.EachPiece.{PieceTest, passes, each_of}
use Rattle.language.proofs.table.Shapes.{shape_of, of_form}
use Rattle.language.proofs.table.ShorthandPieces.{quiet, EchoShape, no_echo, before_name, before_default, quiet_roles}

own_quiet : (w : List ℕ) (o : OwnText) → quiet (own_piece o w) ≡ true
own_quiet w a_name = refl
own_quiet w _ = refl

abbrev quiet_pieces : PieceTest
quiet_pieces = record { test = quiet; of_own = λ o. true; of_endings = true; own_so = λ w o h. own_quiet w o; endings_so = λ e h. refl }

form_echo : (a : Role) (p : Production) (w : List ℕ) (g : Flags) (ps : Parts) → EchoShape (standing_at a (pieces_of (form p).items w g ps))
form_echo a shorthand w g ps = before_name
form_echo a shorthand_default w g ps = before_default
form_echo a (made.function x) w g ps = no_echo (quiet_roles a (pieces_of (form (made.function x)).items w g ps) (each_of quiet_pieces w (form (made.function x)).items g ps (of_form (λ z. passes quiet (λ o. true) true (shape_of (form (made.function z)).items)) refl x)))
form_echo a (made.short_arrow x) w g ps = no_echo (quiet_roles a (pieces_of (form (made.short_arrow x)).items w g ps) (each_of quiet_pieces w (form (made.short_arrow x)).items g ps (of_form (λ z. passes quiet (λ o. true) true (shape_of (form (made.short_arrow z)).items)) refl x)))
form_echo a (made.arrow x) w g ps = no_echo (quiet_roles a (pieces_of (form (made.arrow x)).items w g ps) (each_of quiet_pieces w (form (made.arrow x)).items g ps (of_form (λ z. passes quiet (λ o. true) true (shape_of (form (made.arrow z)).items)) refl x)))
form_echo a (made.property_method x) w g ps = no_echo (quiet_roles a (pieces_of (form (made.property_method x)).items w g ps) (each_of quiet_pieces w (form (made.property_method x)).items g ps (of_form (λ z. passes quiet (λ o. true) true (shape_of (form (made.property_method z)).items)) refl x)))
form_echo a (made.member_method x) w g ps = no_echo (quiet_roles a (pieces_of (form (made.member_method x)).items w g ps) (each_of quiet_pieces w (form (made.member_method x)).items g ps (of_form (λ z. passes quiet (λ o. true) true (shape_of (form (made.member_method z)).items)) refl x)))
form_echo a (made.for_of x r) w g ps = no_echo (quiet_roles a (pieces_of (form (made.for_of x r)).items w g ps) (each_of quiet_pieces w (form (made.for_of x r)).items g ps (of_form (λ z. passes quiet (λ o. true) true (shape_of (form (made.for_of z r)).items)) refl x)))
form_echo a p w g ps = no_echo (quiet_roles a (pieces_of (form p).items w g ps) (each_of quiet_pieces w (form p).items g ps refl))

-- so of each way
pub echo_shape : (a : Role) (n : Tree) {qs : List (PieceOf Role)} → Among qs (ways a n) → EchoShape qs
echo_shape a n h =
    let v = way_of h in
    let u = every_way a (bare n) v.listed in
    subst (λ z. EchoShape z) (sym (v.is ∙ ap (λ x. standing_at a x.pieces) u.is)) (form_echo a u.production _ _ _)
