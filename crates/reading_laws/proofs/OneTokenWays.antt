-- A Literal and a TemplateElement are spelled by one token, which begins where the node does, or one place before it.
use Rattle.std.proofs.Common.{◌≡◌, ℕ, ◌+◌, true, List, [], ◌∷◌, refl, sym, ap, ◌∙◌}
use Rattle.std.specs.Prelude.{map}
use Rattle.tokens.specs.declared.token.TokenClass.{TokenClass}
use Rattle.tokens.specs.declared.token.TokenClass.TheVariants.{StringLiteral, Template}
use Rattle.tree.specs.declared.kind.Kind.TheVariants.{Literal, TemplateElement}
use Rattle.tree.specs.declared.kind.Flags.{Flags}
use Rattle.tree.specs.Tree.{node, Parts, bare}
use Rattle.language.specs.Vocabulary.{is_string, literal_class}
use Rattle.language.specs.Token.{Token}
use Rattle.language.specs.Pieces.{Role, PieceOf, Piece, Slot, tok, settle_piece}
use Rattle.language.specs.Grammar.{ways, own_rank, own_in, own_start}
use Rattle.language.specs.Derivation.{Among, place}
use Rattle.language.specs.Forms.{Production, form, pieces_of}
use Rattle.language.specs.Chosen.{Chosen}
use Rattle.language.specs.Chosen as chosen
use Rattle.language.proofs.table.ViewIsComplete.{way_of}
use Rattle.language.proofs.table.EveryWay.{every_way}

-- the pieces are one token of this class; a node of it starts where the function says
pub record OneToken (a : Role) (c : TokenClass) (node_start : ℕ → ℕ) (R : Type 0) (qs : List (PieceOf R)) : Type 0 where
  pub text : List ℕ
  pub is : qs ≡ tok c text ∷ []
  pub start : (first last : Token) → (place a first last).0 ≡ node_start first.start

-- a node's own position changes no token
settled_token : {a : Role} {c : TokenClass} {node_start : ℕ → ℕ} {qs : List Piece} {rs : List (PieceOf Role)} → rs ≡ map (settle_piece (own_rank a) (own_in a) (own_start a)) qs →
    OneToken a c node_start Slot qs → OneToken a c node_start Role rs
settled_token {a} h u = record { text = u.text; is = h ∙ ap (map (settle_piece (own_rank a) (own_in a) (own_start a))) u.is; start = u.start }

abbrev its_own : ℕ → ℕ
its_own x = x

string_class : (c : TokenClass) → is_string c ≡ true → c ≡ StringLiteral
string_class StringLiteral h = refl
string_class _ h = cc

literal_pieces : {a : Role} {w : List ℕ} {g : Flags} {ps : Parts} {p : Production} → Chosen w g ps a Literal p → OneToken a (literal_class w) its_own Slot (pieces_of (form p).items w g ps)
literal_pieces {w = w} (chosen.literal h) = record { text = w; is = refl; start = λ t l. refl }
literal_pieces {w = w} chosen.literal_as_key = record { text = w; is = refl; start = λ t l. refl }
literal_pieces {w = w} (chosen.directive_text h) = record { text = w; is = ap (λ c. tok c w ∷ []) (sym (string_class (literal_class w) h)); start = λ t l. refl }
literal_pieces (chosen.of_statement s c) = elim c [ ]
literal_pieces (chosen.of_declaration s c) = elim c [ ]

pub literal_way : {a : Role} {qs : List (PieceOf Role)} (w : List ℕ) (g : Flags) (s e : ℕ) (ps : Parts) → Among qs (ways a (node Literal w g s e ps)) → OneToken a (literal_class w) its_own Role qs
literal_way {a} w g s e ps h =
    let v = way_of h in
    let u = every_way a (bare (node Literal w g s e ps)) v.listed in
    settled_token (v.is ∙ ap (λ x. map (settle_piece (own_rank a) (own_in a) (own_start a)) x.pieces) u.is) (literal_pieces u.chosen)

abbrev one_later : ℕ → ℕ
one_later x = x + 1

element_pieces : {a : Role} {w : List ℕ} {g : Flags} {ps : Parts} {p : Production} → Chosen w g ps a TemplateElement p → OneToken a Template one_later Slot (pieces_of (form p).items w g ps)
element_pieces chosen.template_part = record { text = _; is = refl; start = λ t l. refl }
element_pieces (chosen.of_statement s c) = elim c [ ]
element_pieces (chosen.of_declaration s c) = elim c [ ]

pub element_way : {a : Role} {qs : List (PieceOf Role)} (w : List ℕ) (g : Flags) (s e : ℕ) (ps : Parts) → Among qs (ways a (node TemplateElement w g s e ps)) → OneToken a Template one_later Role qs
element_way {a} w g s e ps h =
    let v = way_of h in
    let u = every_way a (bare (node TemplateElement w g s e ps)) v.listed in
    settled_token (v.is ∙ ap (λ x. map (settle_piece (own_rank a) (own_in a) (own_start a)) x.pieces) u.is) (element_pieces u.chosen)
