-- Of the ways of the table, only those to spell a Literal or a TemplateElement have a token that Div doesn't read: a test of single pieces, over forms.
use Rattle.std.proofs.Common.{◌≡◌, ℕ, Bool, true, false, cond, ◌&&◌, List, [], ◌∷◌, refl, ap, ◌∙◌}
use Rattle.std.specs.Prelude.{map}
use Rattle.tree.specs.declared.kind.Kind.{Kind}
use Rattle.tree.specs.declared.kind.Kind.TheVariants as kind
use Rattle.tree.specs.declared.kind.Flags.{Flags}
use Rattle.tree.specs.Tree.{Tree, node, Parts, bare, kind_of}
use Rattle.tokens.specs.declared.token.TokenClass.{TokenClass}
use Rattle.tokens.specs.declared.token.TokenClass.TheVariants.{Template, RegularExpressionLiteral, IdentifierName, Punctuator}
use Rattle.language.specs.declared.Rank.{Rank}
use Rattle.language.specs.declared.Start.{Start}
use Rattle.language.specs.Vocabulary.{is_word_operator}
use Rattle.language.specs.Pieces.{Role, PieceOf, Piece, tok, settle_piece}
use Rattle.language.specs.Grammar.{ways, own_rank, own_in, own_start}
use Rattle.language.specs.Derivation.{Among}
use Rattle.language.specs.Forms as made
use Rattle.language.specs.Forms.{Production, literal, template_part, form, pieces_of, OwnText, a_literal, a_template, an_infix, own_piece}
use Rattle.language.specs.Chosen.{Chosen}
use Rattle.language.specs.Chosen as chosen
use Rattle.language.proofs.table.ViewIsComplete.{way_of}
use Rattle.language.proofs.table.EveryWay.{every_way}
use Rattle.language.proofs.table.EachPiece.{PieceTest, each, passes, each_of}
use Rattle.language.proofs.table.Shapes.{shape_of, of_form}

abbrev pub is_div_class : TokenClass → Bool
is_div_class RegularExpressionLiteral = false
is_div_class Template = false
is_div_class _ = true

abbrev pub is_div_piece : {R : Type 0} → PieceOf R → Bool
is_div_piece (tok k w) = is_div_class k
is_div_piece _ = true

abbrev pub are_div : {R : Type 0} → List (PieceOf R) → Bool
are_div [] = true
are_div (q ∷ qs) = is_div_piece q && are_div qs

-- a node of this kind may be spelled by a token that Div doesn't read
abbrev pub may_need_goal : Kind → Bool
may_need_goal kind.Literal = true
may_need_goal kind.TemplateElement = true
may_need_goal _ = false

abbrev is_div_own : OwnText → Bool
is_div_own a_literal = false
is_div_own (a_template x y) = false
is_div_own _ = true

own_div : (w : List ℕ) (o : OwnText) → is_div_own o ≡ true → is_div_piece (own_piece o w) ≡ true
own_div w a_literal h = cc
own_div w (a_template x y) h = cc
own_div w an_infix h = of (is_word_operator w)
  where
    of : (b : Bool) → is_div_class (cond b IdentifierName Punctuator) ≡ true
    of true = refl
    of false = refl
own_div w _ h = refl

abbrev div_pieces : PieceTest
div_pieces = record { test = is_div_piece; of_own = is_div_own; of_endings = true; own_so = λ w o h. own_div w o h; endings_so = λ e h. refl }

form_div : {a : Role} {k : Kind} (p : Production) (w : List ℕ) (g : Flags) (ps : Parts) → Chosen w g ps a k p → may_need_goal k ≡ false → each is_div_piece (pieces_of (form p).items w g ps) ≡ true
form_div literal w g ps (chosen.literal h) e = cc
form_div literal w g ps chosen.literal_as_key e = cc
form_div (template_part x y) w g ps chosen.template_part e = cc
form_div literal w g ps (chosen.of_statement s c) e = elim c [ ]
form_div literal w g ps (chosen.of_declaration s c) e = elim c [ ]
form_div (template_part x y) w g ps (chosen.of_statement s c) e = elim c [ ]
form_div (template_part x y) w g ps (chosen.of_declaration s c) e = elim c [ ]
form_div (made.function x) w g ps c e = each_of div_pieces w (form (made.function x)).items g ps (of_form (λ z. passes is_div_piece is_div_own true (shape_of (form (made.function z)).items)) refl x)
form_div (made.short_arrow x) w g ps c e = each_of div_pieces w (form (made.short_arrow x)).items g ps (of_form (λ z. passes is_div_piece is_div_own true (shape_of (form (made.short_arrow z)).items)) refl x)
form_div (made.arrow x) w g ps c e = each_of div_pieces w (form (made.arrow x)).items g ps (of_form (λ z. passes is_div_piece is_div_own true (shape_of (form (made.arrow z)).items)) refl x)
form_div (made.property_method x) w g ps c e = each_of div_pieces w (form (made.property_method x)).items g ps (of_form (λ z. passes is_div_piece is_div_own true (shape_of (form (made.property_method z)).items)) refl x)
form_div (made.member_method x) w g ps c e = each_of div_pieces w (form (made.member_method x)).items g ps (of_form (λ z. passes is_div_piece is_div_own true (shape_of (form (made.member_method z)).items)) refl x)
form_div (made.for_of x r) w g ps c e = each_of div_pieces w (form (made.for_of x r)).items g ps (of_form (λ z. passes is_div_piece is_div_own true (shape_of (form (made.for_of z r)).items)) refl x)
form_div p w g ps c e = each_of div_pieces w (form p).items g ps refl

-- a node's own position changes nothing
div_settled : (y : Rank) (i : Bool) (f : Start) (qs : List Piece) → are_div (map (settle_piece y i f) qs) ≡ each is_div_piece qs
div_settled y i f [] = refl
div_settled y i f (tok k w ∷ qs) = ap (λ b. is_div_class k && b) (div_settled y i f qs)
div_settled y i f (_ ∷ qs) = div_settled y i f qs

bare_kind : (n : Tree) → kind_of (bare n) ≡ kind_of n
bare_kind (node k w g s e ps) = refl

-- so the pieces of each way pass, unless the node is a Literal or a TemplateElement
pub way_div : (a : Role) (n : Tree) {qs : List (PieceOf Role)} → may_need_goal (kind_of n) ≡ false → Among qs (ways a n) → are_div qs ≡ true
way_div a n s h =
    let v = way_of h in
    let u = every_way a (bare n) v.listed in
    ap are_div v.is ∙ div_settled (own_rank a) (own_in a) (own_start a) v.spelling.pieces ∙ ap (λ x. each is_div_piece x.pieces) u.is ∙ form_div u.production _ _ _ u.chosen (ap may_need_goal (bare_kind n) ∙ s)
