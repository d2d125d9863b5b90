-- The parts of a template behind the first, from their tokens.
use Rattle.std.proofs.Common.{◌≡◌, ℕ, ◌+◌, ◌-◌, Bool, true, false, List, [], ◌∷◌, ◌++◌, length, Result, Ok, Err, refl, sym, ap, ◌∙◌, subst, arith, length-append}
use Rattle.std.specs.Prelude.{IsTrue, nat_eq, slice_index_or, ◌&&◌}
use Rattle.std.specs.Result.{IfOk}
use Rattle.std.proofs.lemmas.Bool.{false≢true}
use Rattle.source_text.specs.declared.fault.Fault.{Fault}
use Rattle.tokens.specs.Templates.{raw_value}
use Rattle.tokens.specs.Tokens.{LexicalToken}
use Rattle.tokens.specs.declared.token.TokenClass.{TokenClass}
use Rattle.tokens.specs.declared.token.TokenClass.TheVariants.{Template, Keyword}
use Rattle.tokens.specs.declared.token.Goal.TheVariants.{Div, TemplateTail}
use Rattle.tokens.specs.Goals.{allows}
use Rattle.token_cursor.specs.CursorState.{IsAhead}
use Rattle.tree.specs.declared.kind.Kind.TheVariants.{TemplateElement}
use Rattle.tree.specs.Tree.{Tree, node, none, plain}
use Rattle.language.specs.Token.{Token, table_text, as_read, same_class}
use Rattle.covers.specs.declared.list.ListItem.{ListItem}
use Rattle.recursive_descent.specs.TemplateElements.{front, back, Holds, part_node}
use Rattle.recursive_descent.specs.Follows.{ChunkAt, FirstChunkAt}
use Rattle.token_cursor.specs.Seen.{SeesBy}
use Rattle.parser_tables.specs.Tests.{is_later_part, is_template}
use Rattle.recursive_descent.proofs.sound_lists.TemplateDelimiters.{held, raw_held}
use Rattle.token_cursor.proofs.TokensAhead.{ahead_read, class_of, same_ahead, ahead_next}
use Rattle.token_cursor.specs.SourceText.{SourceText, unseen, unseen_class, behind_in}
use Rattle.recursive_descent.proofs.reading.SeenClasses.{as_here, steady_class}

stops : (c start stop : ℕ) (text w : List ℕ) (last : Bool) → text ≡ c ∷ (w ++ back last) → stop ≡ start + length text → start + 1 + length w ≡ stop - length (back last)
stops c start stop text w true h e =
    let k : length text ≡ length (c ∷ (w ++ 96 ∷ [])) = ap length h in
    omega (arith, length-append w (96 ∷ []))
stops c start stop text w false h e =
    let k : length text ≡ length (c ∷ (w ++ 36 ∷ 123 ∷ [])) = ap length h in
    omega (arith, length-append w (36 ∷ 123 ∷ []))

read_text : (u : LexicalToken) (first last : Bool) (w : List ℕ) → u.class ≡ Template → Holds u.text first last w → (as_read u).text ≡ front first ++ (raw_value w ++ back last)
read_text u first last w k h = ap (λ c. table_text c u.text) k ∙ raw_held first last u.text w h

chunk_by : (text : SourceText) (s : Token) (u : LexicalToken) (first last : Bool) (w : List ℕ) → IsAhead TemplateTail text s.stop u → u.class ≡ Template → Holds u.text first last w → nat_eq (slice_index_or (as_read u).text 0 0) 125 ≡ true → u.stop ≡ u.start + length u.text → (n : Tree) (m : Bool) → n ≡ part_node u.start w → m ≡ last → ChunkAt text s (unseen (as_read u)) n m
chunk_by text s u true last w a k h d long n m r q =
    absurd (false≢true (sym (ap (λ (x : List ℕ). nat_eq (slice_index_or x 0 0) 125) (read_text u true last w k h)) ∙ d))
chunk_by text s u false last w a k h d long n m r q = (
  raw_value w,
  as_here text (record { next = ahead_next text TemplateTail s u a; class = k; text = read_text u false last w k h ∙ ap (λ l. front false ++ (raw_value w ++ back l)) (sym q) }),
  r ∙ ap (λ x. node TemplateElement (raw_value w) plain (u.start + 1) x none) (stops 125 u.start u.stop u.text w last h long ∙ ap (λ l. u.stop - length (back l)) (sym q)),
)

seen_template : (c : TokenClass) → unseen_class c ≡ Template → c ≡ Template
seen_template Keyword h = cc
seen_template c h = h

-- a later part that was passed is the token that is its place
pub later_passed : (text : SourceText) (e : Token) (u : LexicalToken) → e ≡ as_read u → is_later_part (behind_in text e) ≡ true → (e ≡ unseen (as_read u)) × (is_later_part e ≡ true)
later_passed text e u is p =
    let seen = class_of text Template (behind_in text e).class (nat_eq (slice_index_or e.text 0 0) 125) p in
    let class : e.class ≡ Template = steady_class text.language e.class Template e.text refl seen.0 in
    let there : u.class ≡ Template = sym (ap (λ (x : Token). x.class) is) ∙ class in
    (is ∙ (λ i. record (as_read u) { class = (there ∙ sym (ap unseen_class there)) i }), (λ i. same_class Template (class i) && nat_eq (slice_index_or e.text 0 0) 125) ∙ seen.1)

-- the item that is made of the token ahead
pub chunk_read : (text : SourceText) (s e : Token) (u : LexicalToken) (answer : Result ListItem Fault) → IsAhead TemplateTail text s.stop u → e ≡ unseen (as_read u) → is_later_part e ≡ true → IfOk answer (λ item. (first last : Bool) (word : List ℕ) → Holds u.text first last word → u.stop ≡ u.start + length u.text → (item.node ≡ part_node u.start word) × (item.is_flagged ≡ last)) → IfOk answer (λ item. ChunkAt text s e item.node item.is_flagged)
chunk_read text s e u (Err fault) a q p made = tt
chunk_read text s e u (Ok item) a q p made =
    let later : is_later_part (unseen (as_read u)) ≡ true = ap is_later_part (sym q) ∙ p in
    let seen = class_of text Template (unseen_class u.class) (nat_eq (slice_index_or (as_read u).text 0 0) 125) later in
    let k : (u.class ≡ Template) × (nat_eq (slice_index_or (as_read u).text 0 0) 125 ≡ true) = (seen_template u.class seen.0, seen.1) in
    let h = held text TemplateTail s.stop u a k.0 in
    let long : u.stop ≡ u.start + length u.text = subst (λ (x : LexicalToken). x.stop ≡ x.start + length x.text) (sym a.seen) (a.read.stop ∙ ap (λ (x : List ℕ). a.scanned.start + length x) (sym a.read.text)) in
    let r = made h.first h.last h.word h.holds long in
    subst (λ x. ChunkAt text s x item.node item.is_flagged) (sym q) (chunk_by text s u h.first h.last h.word a k.0 h.holds k.1 long item.node item.is_flagged r.0 r.1)

-- by the goal behind an operand no part begins with `}`, so that it is the first
first_by : (text : SourceText) (s : Token) (u : LexicalToken) (first last : Bool) (w : List ℕ) → IsAhead Div text s.stop u → u.class ≡ Template → Holds u.text first last w → u.stop ≡ u.start + length u.text → (n : Tree) (m : Bool) → n ≡ part_node u.start w → m ≡ last → FirstChunkAt text s (unseen (as_read u)) n m
first_by text s u false last w a k h long n m r q =
    let allowed : IsTrue (allows Div u.class (front false ++ (raw_value w ++ back last))) = subst (λ x. IsTrue (allows Div u.class x)) (read_text u false last w k h) (ahead_read text Div s u a).allowed in
    absurd (false≢true (subst (λ c. IsTrue (allows Div c (front false ++ (raw_value w ++ back last)))) k allowed))
first_by text s u true last w a k h long n m r q = (
  raw_value w,
  as_here text (record { next = ahead_next text Div s u a; class = k; text = read_text u true last w k h ∙ ap (λ l. front true ++ (raw_value w ++ back l)) (sym q) }),
  r ∙ ap (λ x. node TemplateElement (raw_value w) plain (u.start + 1) x none) (stops 96 u.start u.stop u.text w last h long ∙ ap (λ l. u.stop - length (back l)) (sym q)),
)

template_class : (c : TokenClass) → same_class Template c ≡ true → c ≡ Template
template_class Template h = refl
template_class _ h = absurd (false≢true h)

-- the first part, from the token ahead
pub first_read : (text : SourceText) (s e : Token) (u : LexicalToken) (answer : Result ListItem Fault) → IsAhead Div text s.stop u → e ≡ unseen (as_read u) → IfOk answer (λ item. (first last : Bool) (word : List ℕ) → Holds u.text first last word → u.stop ≡ u.start + length u.text → (item.node ≡ part_node u.start word) × (item.is_flagged ≡ last)) →
    IfOk answer (λ item. SeesBy text Div is_template s → FirstChunkAt text s e item.node item.is_flagged)
first_read text s e u (Err fault) a q made = tt
first_read text s e u (Ok item) a q made = λ sees.
    let same : behind_in text sees.0 ≡ as_read u = same_ahead text Div s u a (behind_in text sees.0) sees.0 sees.1.0 in
    let k = template_class u.class (sym (ap is_template same) ∙ sees.1.1) in
    let h = held text Div s.stop u a k in
    let long : u.stop ≡ u.start + length u.text = subst (λ (x : LexicalToken). x.stop ≡ x.start + length x.text) (sym a.seen) (a.read.stop ∙ ap (λ (x : List ℕ). a.scanned.start + length x) (sym a.read.text)) in
    let r = made h.first h.last h.word h.holds long in
    subst (λ x. FirstChunkAt text s x item.node item.is_flagged) (sym q) (first_by text s u h.first h.last h.word a k h.holds long item.node item.is_flagged r.0 r.1)
