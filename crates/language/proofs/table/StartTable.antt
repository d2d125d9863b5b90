-- Of a way of an expression only the first piece depends on the node's own start; and what stands at a line's end behind a first word is `async`.
use Rattle.std.proofs.Common.{◌≡◌, ℕ, Bool, true, false, ◌&&◌, List, [], ◌∷◌, refl}
use Rattle.std.proofs.lemmas.Bool.{and_parts, and_from}
use Rattle.tokens.specs.declared.token.TokenClass.{TokenClass}
use Rattle.tokens.specs.declared.token.TokenClass.TheVariants.{IdentifierName}
use Rattle.tree.specs.declared.kind.Kind.{Kind}
use Rattle.tree.specs.declared.kind.Flags.{Flags}
use Rattle.tree.specs.Tree.{Parts, none, part, gap}
use Rattle.language.specs.Vocabulary.{is, literal_class}
use Rattle.language.specs.Pieces.{fixed, tail, Piece, tok, unbroken, lay, space, sub, expr, pattern}
use Rattle.language.specs.Forms as made
use Rattle.language.specs.Forms.{Production, form, pieces_of, OwnText, a_literal, own_piece}
use Rattle.language.specs.Chosen.{Chosen}
use Rattle.language.specs.Chosen as chosen
use Rattle.language.proofs.table.BeforeIt.{Before, SuffixTest, allows_of, form_before}
use Rattle.language.proofs.table.Shapes.{shape_of, of_form}
use Rattle.language.specs.Expressions.{template_elements}
use Rattle.language.specs.declared.Rank.{Rank}
use Rattle.language.specs.declared.Start.{Start}

-- a piece that a node's own start doesn't change, and pieces
abbrev pub keeps_start : Piece → Bool
keeps_start (sub (fixed a)) = true
keeps_start (sub (tail y x)) = true
keeps_start (sub _) = false
keeps_start _ = true

abbrev pub keep_start : List Piece → Bool
keep_start [] = true
keep_start (q ∷ qs) = keeps_start q && keep_start qs

-- all but the first
abbrev pub others_keep_start : List Piece → Bool
others_keep_start [] = true
others_keep_start (q ∷ qs) = keep_start qs

piece_so : (q : Piece) (b : Bool) (qs : List Piece) → b ≡ true → Before others_keep_start keep_start b qs → Before others_keep_start keep_start (keeps_start q && b) (q ∷ qs)
piece_so q b qs h k = record { is_good = k.is_known h; is_known = λ e. (let u = and_parts (keeps_start q) b e in and_from _ _ u.0 (k.is_known u.1)) }

own_told : (w : List ℕ) (o : OwnText) (b : Bool) → b ≡ true → (keeps_start (own_piece o w) && b) ≡ true
own_told w a_literal b h = h
own_told w _ b h = h

abbrev starting : (w : List ℕ) → SuffixTest w
starting w = record {
  good = others_keep_start;
  known = keep_start;
  allows = λ q b. b;
  tells = λ q b. keeps_start q && b;
  own_allows = λ o b. b;
  own_tells = λ o b. b;
  ending_allows = λ b. b;
  ending_tells = λ b. b;
  none_good = refl;
  piece_so = piece_so;
  own_so = λ o b h. h;
  own_told = own_told w;
  ending_so = λ e b h. h;
  ending_told = λ e b h. h;
}

form_keeps : (p : Production) (w : List ℕ) (g : Flags) (ps : Parts) → allows_of (starting w) (shape_of (form p).items) true ≡ true → others_keep_start (pieces_of (form p).items w g ps) ≡ true
form_keeps p w g ps h = (form_before (starting w) (form p).items g ps true h (record { is_good = refl; is_known = λ e. refl })).is_good

-- so with each production
pub production_keeps : (p : Production) (w : List ℕ) (g : Flags) (ps : Parts) → others_keep_start (pieces_of (form p).items w g ps) ≡ true
production_keeps (made.function x) w g ps = form_keeps (made.function x) w g ps (of_form (λ z. allows_of (starting w) (shape_of (form (made.function z)).items) true) refl x)
production_keeps (made.short_arrow x) w g ps = form_keeps (made.short_arrow x) w g ps (of_form (λ z. allows_of (starting w) (shape_of (form (made.short_arrow z)).items) true) refl x)
production_keeps (made.arrow x) w g ps = form_keeps (made.arrow x) w g ps (of_form (λ z. allows_of (starting w) (shape_of (form (made.arrow z)).items) true) refl x)
production_keeps (made.property_method x) w g ps = form_keeps (made.property_method x) w g ps (of_form (λ z. allows_of (starting w) (shape_of (form (made.property_method z)).items) true) refl x)
production_keeps (made.member_method x) w g ps = form_keeps (made.member_method x) w g ps (of_form (λ z. allows_of (starting w) (shape_of (form (made.member_method z)).items) true) refl x)
production_keeps (made.for_of x r) w g ps = form_keeps (made.for_of x r) w g ps (of_form (λ z. allows_of (starting w) (shape_of (form (made.for_of z r)).items) true) refl x)
production_keeps p w g ps = form_keeps p w g ps refl

-- where a word stands behind a first one on its line, that is `async`
abbrev pub async_first : List Piece → Bool
async_first (tok IdentifierName w ∷ unbroken ∷ lay space ∷ tok IdentifierName v ∷ qs) = is w "async"
async_first _ = true

token_alone : (c : TokenClass) (w : List ℕ) → async_first (tok c w ∷ []) ≡ true
token_alone IdentifierName w = refl
token_alone _ w = refl

template_first : (ps : Parts) → async_first (template_elements true ps) ≡ true
template_first none = refl
template_first (gap ps) = refl
template_first (part n none) = refl
template_first (part n (gap ps)) = refl
template_first (part n (part e ps)) = refl

pub production_async : {y : Rank} {i : Bool} {f : Start} {k : Kind} {p : Production} {w : List ℕ} {g : Flags} {ps : Parts} → Chosen w g ps (expr y i f) k p → async_first (pieces_of (form p).items w g ps) ≡ true
production_async (chosen.of_statement s c) = elim s [ ]
production_async (chosen.of_declaration s c) = elim s [ ]
production_async {w = w} (chosen.literal e) = token_alone (literal_class w) w
production_async {ps = ps} chosen.template = template_first ps
production_async {w = w} {g = g} {ps = ps} chosen.function = of_form (λ z. async_first (pieces_of (form (made.function z)).items w g ps)) refl g.form
production_async {w = w} {g = g} {ps = ps} (chosen.short_arrow e h) = of_form (λ z. async_first (pieces_of (form (made.short_arrow z)).items w g ps)) refl g.form
production_async {w = w} {g = g} {ps = ps} chosen.arrow = of_form (λ z. async_first (pieces_of (form (made.arrow z)).items w g ps)) refl g.form
production_async _ = refl

pub pattern_async : {b : Bool} {f : Start} {k : Kind} {p : Production} {w : List ℕ} {g : Flags} {ps : Parts} → Chosen w g ps (pattern b f) k p → async_first (pieces_of (form p).items w g ps) ≡ true
pattern_async (chosen.of_statement s c) = elim s [ ]
pattern_async (chosen.of_declaration s c) = elim s [ ]
pattern_async _ = refl
