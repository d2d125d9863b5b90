-- What closes a node, by what may stand behind it.
use Rattle.std.proofs.Common.{◌≡◌, ℕ, Bool, true, false, cond, List, [], ◌∷◌, refl, sym, ap, ◌∙◌}
use Rattle.std.specs.Prelude.{nat_le}
use Rattle.std.proofs.lemmas.Bool.{and_parts, false≢true, true≢false}
use Rattle.tokens.specs.declared.token.TokenClass.{TokenClass}
use Rattle.tokens.specs.declared.token.TokenClass.TheVariants.{IdentifierName, Punctuator, NumericLiteral, StringLiteral, Template, RegularExpressionLiteral, PrivateName, Keyword, End}
use Rattle.tree.specs.declared.kind.Kind.{Kind}
use Rattle.tree.specs.declared.kind.Kind.TheVariants as kind
use Rattle.tree.specs.Tree.{Tree, node, parts_of}
use Rattle.language.specs.Vocabulary.{precedence, is_open_number, literal_class}
use Rattle.language.specs.Pieces.{Role, expr, template_element, chain_part, name, word, private_name, base, tagged_quasi, method, pattern, body, class_body, block, shorthand_key, script, Slot, Piece, tok, Spelling}
use Rattle.language.specs.Grammar.{ways, spellings, template_parts}
use Rattle.language.specs.Expressions.{expressions}
use Rattle.language.specs.Derivation.{Among, first}
use Rattle.language.specs.Layout.{first_way}
use Rattle.language.specs.Printed.{Item, items_text}
use Rattle.language.proofs.layout.ReadItems.{Apart}
use Rattle.language.proofs.layout.WordsApart.{Word, closes, closes_word}
use Rattle.language.proofs.layout.LiteralsApart.{template_apart}
use Rattle.language.proofs.layout.BigIntLiterals.{big_number_apart}
use Rattle.language.proofs.table.Alike.{standing_at}
use Rattle.language.proofs.table.NeatPieces.{an_operand, a_tight, fresh, neat, goes_behind, behind_token, is_item_touch, takes_token}
use Rattle.language.proofs.table.NeatExpressions.{first_is_open}
use Rattle.language.proofs.table.TreesOfWords.{PieceWords}
use Rattle.language.proofs.table.WayPieces.{FirstWay}
use Rattle.language.proofs.layout.TextAfter.{last_apart}
use Rattle.language.proofs.table.EndsOf.{EndsOk, ends_closes, shut_closes, shut_class}
use Rattle.language.proofs.table.EndTable.{way_shut, tight_shut, shut_standing, ends_shut_at}
use Rattle.language.proofs.layout.WalkNodes.{NodeEnds, After, is_open_node}

-- a literal that `.` doesn't join
literal_apart : (c : TokenClass) (w t : List ℕ) → Word c w → goes_behind {R = Slot} c w [] ≡ true → is_item_touch (behind_token c w) ≡ true → is_open_number c w ≡ false → closes_word t ≡ true → Apart c w t
literal_apart NumericLiteral w t x g i o h = big_number_apart x o h
literal_apart IdentifierName w t x g i o h = last_apart IdentifierName w t x g i h (λ e. absurd (true≢false (ap shut_class e)))
literal_apart Punctuator w t x g i o h = last_apart Punctuator w t x g i h (λ e. absurd (true≢false (ap shut_class e)))
literal_apart StringLiteral w t x g i o h = last_apart StringLiteral w t x g i h (λ e. absurd (true≢false (ap shut_class e)))
literal_apart Template w t x g i o h = last_apart Template w t x g i h (λ e. absurd (true≢false (ap shut_class e)))
literal_apart RegularExpressionLiteral w t x g i o h = last_apart RegularExpressionLiteral w t x g i h (λ e. absurd (true≢false (ap shut_class e)))
literal_apart PrivateName w t x g i o h = last_apart PrivateName w t x g i h (λ e. absurd (true≢false (ap shut_class e)))
literal_apart Keyword w t x g i o h = last_apart Keyword w t x g i h (λ e. absurd (true≢false (ap shut_class e)))
literal_apart End w t x g i o h = last_apart End w t x g i h (λ e. absurd (true≢false (ap shut_class e)))

one_token : (a : Role) (b : Bool) (c : TokenClass) (w : List ℕ) (is : List Item) → neat b false fresh (tok c w ∷ []) ≡ true → PieceWords (standing_at a (tok c w ∷ [])) → is_open_number c w ≡ false → closes_word (items_text is) ≡ true → EndsOk fresh b (tok c w ∷ []) is
one_token a b c w is h x o k =
    let u = and_parts (takes_token fresh c w) _ h in let g = and_parts (goes_behind {R = Slot} c w []) _ u.1 in
    literal_apart c w (items_text is) x.0 g.0 (and_parts (is_item_touch (behind_token c w)) _ g.1).0 o k

literal_ends : (a : Role) (b : Bool) (w : List ℕ) (s : Spelling) (is : List Item) (t : Bool) → Among s (cond t [] (Rattle.language.specs.Pieces.at Rattle.language.specs.declared.Rank.TheVariants.Primary (tok (literal_class w) w ∷ []) ∷ [])) → neat b false fresh s.pieces ≡ true → PieceWords (standing_at a s.pieces) →
    is_open_number (literal_class w) w ≡ false → closes_word (items_text is) ≡ true → EndsOk fresh b s.pieces is
literal_ends a b w s is false first h x o k = one_token a b (literal_class w) w is h x o k
literal_ends a b w s is false (Rattle.language.specs.Derivation.later m) h x o k = elim m [ ]
literal_ends a b w s is true m h x o k = elim m [ ]

chunk_ends : (a : Role) (b f l : Bool) (k : Kind) (w : List ℕ) (s : Spelling) (is : List Item) → Among s (template_parts f l k w) → PieceWords (standing_at a s.pieces) → EndsOk fresh b s.pieces is
chunk_ends a b f l kind.TemplateElement w s is first x = template_apart (items_text is) x.0
chunk_ends a b f l kind.TemplateElement w s is (Rattle.language.specs.Derivation.later h) x = elim h [ ]
chunk_ends a b f l _ w s is h x = elim h [ ]

shut_way : (a : Role) (n : Tree) (x : FirstWay a n) → ends_shut_at (first_way (ways a n)) ≡ true → PieceWords (standing_at a x.spelling.pieces) → (is : List Item) → closes_word (items_text is) ≡ true → EndsOk fresh (first_is_open (parts_of n)) x.spelling.pieces is
shut_way a n x h w is c = shut_closes a fresh (first_is_open (parts_of n)) false x.spelling.pieces is x.neat x.runs w (sym (shut_standing a x.spelling.pieces) ∙ ap ends_shut_at (sym x.is) ∙ h) c

any_way : (a : Role) (n : Tree) (x : FirstWay a n) → PieceWords (standing_at a x.spelling.pieces) → (is : List Item) → closes (items_text is) ≡ true → EndsOk fresh (first_is_open (parts_of n)) x.spelling.pieces is
any_way a n x w is c = ends_closes a fresh (first_is_open (parts_of n)) false x.spelling.pieces is x.neat x.runs w c

tight_ends : (y : Rattle.language.specs.declared.Rank.Rank) (i : Bool) (f : Rattle.language.specs.declared.Start.Start) (n : Tree) (x : FirstWay (expr y i f) n) → nat_le 18 (precedence y) ≡ true → PieceWords (standing_at (expr y i f) x.spelling.pieces) → (is : List Item) →
    is_open_node n ≡ false → closes_word (items_text is) ≡ true → EndsOk fresh (first_is_open (parts_of n)) x.spelling.pieces is
unfolding spellings expressions
tight_ends y i f (node kind.Literal v g s e ps) x h w is o c = literal_ends (expr y i f) (first_is_open ps) v x.spelling is _ x.among x.neat w o c
tight_ends y i f (node k v g s e ps) x h w is o c = shut_way (expr y i f) (node k v g s e ps) x (tight_shut (expr y i f) (node k v g s e ps) h refl x.some) w is c

pub node_ends : NodeEnds
unfolding spellings
node_ends (template_element b l) (node k v g s e ps) x p w is h = chunk_ends (template_element b l) (first_is_open ps) b l k v x.spelling is x.among w
node_ends (expr y i f) n x p w is h = of (nat_le 18 (precedence y)) (is_open_node n) refl refl h
  where
    of : (t o : Bool) → nat_le 18 (precedence y) ≡ t → is_open_node n ≡ o → After (cond t a_tight an_operand) o (items_text is) ≡ true → EndsOk fresh (first_is_open (parts_of n)) x.spelling.pieces is
    of false o e q h = any_way (expr y i f) n x w is h
    of true true e q h = any_way (expr y i f) n x w is h
    of true false e q h = tight_ends y i f n x e w is q h
node_ends (chain_part f) n x p w is h = shut_way (chain_part f) n x (way_shut (chain_part f) n refl x.some) w is h
node_ends name n x p w is h = shut_way name n x (way_shut name n refl x.some) w is h
node_ends word n x p w is h = shut_way word n x (way_shut word n refl x.some) w is h
node_ends private_name n x p w is h = shut_way private_name n x (way_shut private_name n refl x.some) w is h
node_ends base n x p w is h = shut_way base n x (way_shut base n refl x.some) w is h
node_ends tagged_quasi n x p w is h = shut_way tagged_quasi n x (way_shut tagged_quasi n refl x.some) w is h
node_ends (method f) n x p w is h = shut_way (method f) n x (way_shut (method f) n refl x.some) w is h
node_ends (pattern b f) n x p w is h = shut_way (pattern b f) n x (way_shut (pattern b f) n refl x.some) w is h
node_ends body n x p w is h = shut_way body n x (way_shut body n refl x.some) w is h
node_ends class_body n x p w is h = shut_way class_body n x (way_shut class_body n refl x.some) w is h
node_ends (block b) n x p w is h = shut_way (block b) n x (way_shut (block b) n refl x.some) w is h
node_ends shorthand_key n x p w is h = absurd (false≢true p)
node_ends script n x p w is h = absurd (false≢true p)
node_ends a n x p w is h = any_way a n x w is h
