-- What a part begins with that may touch what stands before: a template's part, arguments' parenthesis, a name.
use Rattle.std.proofs.Common.{◌≡◌, ℕ, ◌+◌, Bool, true, false, cond, not, ◌&&◌, ◌||◌, nat_eq, List, [], ◌∷◌, ◌++◌, refl, sym, ap, ◌∙◌, subst, inl, inr, ◌⊎◌, IsTrue, arith, append_assoc}
use Rattle.std.specs.Prelude.{◌==◌, codes, nat_le, slice_index_or}
use Rattle.std.specs.Str.{chars}
use Rattle.std.proofs.lemmas.Str.{chars-append}
use Rattle.std.proofs.lemmas.Bool.Decides.{nat_tests}
use Rattle.std.proofs.lemmas.Bool.{and_parts, false≢true}
use Rattle.tokens.specs.Alphabet.{one_of, is_decimal_digit}
use Rattle.tokens.specs.Lexical.{is_of}
use Rattle.tokens.specs.declared.token.TokenClass.{TokenClass}
use Rattle.tokens.specs.declared.token.TokenClass.TheVariants.{IdentifierName, Punctuator, NumericLiteral, StringLiteral, Template, RegularExpressionLiteral, PrivateName, End}
use Rattle.tokens.proofs.Beginnings.{true_false}
use Rattle.tokens.proofs.Classes.{start_plain, is_special}
use Rattle.tree.specs.declared.kind.Kind.{Kind}
use Rattle.tree.specs.declared.kind.Kind.TheVariants as kind
use Rattle.tree.specs.Tree.{Tree, node, Parts, none, part, gap, kind_of, bare_parts}
use Rattle.language.specs.Pieces.{Role, PieceOf, Piece, tok, absent, name, word, private_name, key, base, tagged_quasi, method, template_element, expr, Spelling, only, put, sign}
use Rattle.language.specs.declared.Rank.TheVariants.{Expression}
use Rattle.language.specs.declared.Start.TheVariants.{Any}
use Rattle.tree.specs.declared.kind.Form.{Form}
use Rattle.tree.specs.declared.kind.Form.TheVariants as form
use Rattle.language.specs.Expressions.{methods, template_elements}
use Rattle.language.proofs.layout.DerivedFits.{first_roles_are}
use Rattle.language.specs.RowPositions.{has_row, rows, roles}
use Rattle.language.specs.Vocabulary.{is_reserved, is_rest, literal_class}
use Rattle.language.specs.Edges.{is_sign_class}
use Rattle.language.specs.Grammar.{ways, spellings, can_run, names, words, private_names, keys, bases, template_parts}
use Rattle.language.specs.Derivation.{Among, first, later}
use Rattle.language.specs.Layout.{first_way, some_way, inside}
use Rattle.language.specs.Printed.{Item, items_text, printed, parts_printed}
use Rattle.language.specs.LayoutFits.{fits, lines_up, parts_fit}
use Rattle.language.proofs.layout.WordsApart.{Word, closes}
use Rattle.language.proofs.table.Alike.{standing_at}
use Rattle.language.proofs.table.NeatPieces.{Sort, a_tight, an_operand, a_name, a_quasi, a_method, a_chunk, a_key, sort_of}
use Rattle.language.proofs.table.TreesOfWords.{PieceWords, Worded}
use Rattle.language.proofs.table.WayPieces.{first_is_neat}
use Rattle.language.specs.Readable.{scanned}
use Rattle.language.proofs.table.FirstWords.{starts_on, no_star_first}
use Rattle.language.proofs.table.FirstWords.{word_front as front_of_word}
use Rattle.language.proofs.table.BeginsNodes.{node_starts}
use Rattle.language.proofs.layout.TextAfter.{Undotted, Unstarred}
use Rattle.language.proofs.layout.WalkNodes.{NodeFronts}

-- the first piece is such a token
data TokenFirst (c : TokenClass) (w : List ℕ) : List Item → Type 0 where
  token_first : {is : List Item} → TokenFirst c w (Item.word c w ∷ is)

module _ (W : ℕ → Bool) where
  first_token : (c : TokenClass) (w : List ℕ) (qs : List (PieceOf Role)) (ps : Parts) (r d : ℕ) (t : Bool) → TokenFirst c w (parts_printed W ps (tok c w ∷ qs) r d t)
  unfolding parts_printed
  first_token c w qs none r d t = token_first
  first_token c w qs (gap ps) r d t = token_first
  first_token c w qs (part n ps) r d t = token_first

name_undotted : (w t : List ℕ) → Word IdentifierName w → Undotted (w ++ t)
name_undotted w t h = go (chars w) refl h.is
  where
    point : (c : ℕ) → is_special c ≡ false → (c == 46) ≡ false
    point c h = grind (arith, nat_tests)

    digit : (c : ℕ) → is_special c ≡ false → is_decimal_digit c ≡ false
    digit c h = grind (arith, nat_tests)

    go : (cs : List ℕ) → chars w ≡ cs → IsTrue (is_of IdentifierName cs) → Undotted (w ++ t)
    go [] e k = absurd (true_false _ k refl)
    go (c ∷ cs) e k = let p = start_plain c (and_parts _ _ k).0 in record { code = c; rest = cs ++ chars t; is = chars-append w t h.utf8 ∙ ap (λ x. x ++ chars t) e; no_point = point c p; no_digit = digit c p }

private_undotted : (w t : List ℕ) → Word PrivateName w → Undotted (w ++ t)
private_undotted w t h = go (chars w) refl h.is
  where
    point : (c : ℕ) → one_of "#" c ≡ true → (c == 46) ≡ false
    point c h = grind (arith, nat_tests)

    digit : (c : ℕ) → one_of "#" c ≡ true → is_decimal_digit c ≡ false
    digit c h = grind (arith, nat_tests)

    go : (cs : List ℕ) → chars w ≡ cs → IsTrue (is_of PrivateName cs) → Undotted (w ++ t)
    go [] e k = absurd (true_false _ k refl)
    go (c ∷ cs) e k = let p = (and_parts _ _ k).0 in record { code = c; rest = cs ++ chars t; is = chars-append w t h.utf8 ∙ ap (λ x. x ++ chars t) e; no_point = point c p; no_digit = digit c p }

abbrev is_end_class : TokenClass → Bool
is_end_class End = true
is_end_class _ = false

scanned_plain : (c : TokenClass) → is_sign_class c ≡ false → is_sign_class (scanned c) ≡ false
scanned_plain TokenClass.Keyword n = refl
scanned_plain _ n = n

-- a word that is no sign
word_unstarred : {c : TokenClass} {w : List ℕ} (t : List ℕ) → Word c w → is_sign_class c ≡ false → is_end_class c ≡ false → Unstarred (w ++ t)
word_unstarred {c} {w} t h n e =
    let f = front_of_word h (λ k. absurd (false≢true (sym e ∙ ap is_end_class k))) (λ k. absurd (false≢true (sym n ∙ ap is_sign_class k))) in
    record { code = f.code; rest = f.rest ++ chars t; is = chars-append w t h.utf8 ∙ ap (λ x. x ++ chars t) f.is; no_star = no_star_first (scanned c) (chars w) h.is (scanned_plain c n) f.code f.rest f.is; no_equal = f.plain }

-- the first token of what begins so
name_text : {w : List ℕ} {is : List Item} (ys : List Item) → TokenFirst IdentifierName w is → Word IdentifierName w → Undotted (items_text (is ++ ys)) × Unstarred (items_text (is ++ ys))
name_text {w} ys (token_first {is = is}) h = (name_undotted w (items_text (is ++ ys)) h, word_unstarred (items_text (is ++ ys)) h refl refl)

private_text : {w : List ℕ} {is : List Item} (ys : List Item) → TokenFirst PrivateName w is → Word PrivateName w → Undotted (items_text (is ++ ys)) × Unstarred (items_text (is ++ ys))
private_text {w} ys (token_first {is = is}) h = (private_undotted w (items_text (is ++ ys)) h, word_unstarred (items_text (is ++ ys)) h refl refl)

key_text : {c : TokenClass} {w : List ℕ} {is : List Item} (ys : List Item) → is_sign_class c ≡ false → is_end_class c ≡ false → TokenFirst c w is → Word c w → Unstarred (items_text (is ++ ys))
key_text ys n e (token_first {is = is}) h = word_unstarred (items_text (is ++ ys)) h n e

sign_text : {is : List Item} (ys : List Item) → TokenFirst Punctuator (codes "(") is → closes (items_text (is ++ ys)) ≡ true
sign_text ys token_first = refl

chunk_text : (b l : Bool) (w : List ℕ) {is : List Item} (ys : List Item) → TokenFirst Template (codes (cond b "`" "}") ++ w ++ codes (cond l "`" "${")) is → closes (items_text (is ++ ys)) ≡ true
chunk_text true l w ys token_first = refl
chunk_text false l w ys token_first = refl

single : {qs : List Piece} (s : Spelling) → Among s (only qs) → s.pieces ≡ qs
single s first = refl
single s (later h) = elim h [ ]

single_unless : {qs : List Piece} (c : Bool) (s : Spelling) → Among s (cond c [] (only qs)) → s.pieces ≡ qs
single_unless true s h = elim h [ ]
single_unless false s h = single s h

within_test : (b : Bool) {s : Spelling} {xs : List Spelling} → Among s (cond b xs []) → Among s xs
within_test true h = h
within_test false h = elim h [ ]

chunk_pieces : (b l : Bool) (k : Kind) (w : List ℕ) (s : Spelling) → Among s (template_parts b l k w) → s.pieces ≡ tok Template (codes (cond b "`" "}") ++ w ++ codes (cond l "`" "${")) ∷ []
chunk_pieces b l kind.TemplateElement w s h = single s h
chunk_pieces b l _ w s h = elim h [ ]

name_pieces : (k : Kind) (w : List ℕ) (s : Spelling) → Among s (names k w) → s.pieces ≡ tok IdentifierName w ∷ []
name_pieces kind.Identifier w s h = single_unless (is_reserved w) s h
name_pieces _ w s h = elim h [ ]

word_pieces : (k : Kind) (w : List ℕ) (s : Spelling) → Among s (words k w) → s.pieces ≡ tok IdentifierName w ∷ []
word_pieces kind.Identifier w s h = single s h
word_pieces _ w s h = elim h [ ]

private_pieces : (k : Kind) (w : List ℕ) (s : Spelling) → Among s (private_names k w) → s.pieces ≡ tok PrivateName (codes "#" ++ w) ∷ []
private_pieces kind.PrivateIdentifier w s h = single s h
private_pieces _ w s h = elim h [ ]

-- the token of a key
record KeyPieces (s : Spelling) (w : List ℕ) : Type 0 where
  class : TokenClass
  is : s.pieces ≡ tok class w ∷ []
  no_sign : is_sign_class class ≡ false
  no_end : is_end_class class ≡ false

literal_class_is : (w : List ℕ) → (is_sign_class (literal_class w) ≡ false) × (is_end_class (literal_class w) ≡ false)
literal_class_is w = let c = slice_index_or w 0 0 in of (nat_eq c 34 || nat_eq c 39) (nat_eq c 47) (nat_eq c 46 || (nat_le 48 c && nat_le c 57))
  where
    of : (x y z : Bool) → (is_sign_class (cond x StringLiteral (cond y RegularExpressionLiteral (cond z NumericLiteral IdentifierName))) ≡ false) × (is_end_class (cond x StringLiteral (cond y RegularExpressionLiteral (cond z NumericLiteral IdentifierName))) ≡ false)
    of true y z = (refl, refl)
    of false true z = (refl, refl)
    of false false true = (refl, refl)
    of false false false = (refl, refl)

key_pieces : (k : Kind) (w : List ℕ) (s : Spelling) → Among s (keys k w) → KeyPieces s w
key_pieces kind.Identifier w s h = record { class = IdentifierName; is = single s h; no_sign = refl; no_end = refl }
key_pieces kind.Literal w s h = let u = literal_class_is w in record { class = literal_class w; is = single_unless _ s h; no_sign = u.0; no_end = u.1 }
key_pieces _ w s h = elim h [ ]

base_pieces : (k : Kind) (s : Spelling) → Among s (bases k) → s.pieces ≡ tok IdentifierName (codes "super") ∷ []
base_pieces kind.Super s h = single s h
base_pieces _ s h = elim h [ ]

module _ (W : ℕ → Bool) where
  some_of : (n : Tree) (e : Role) (r : ℕ) → has_row e ≡ 0 → fits W n e r ≡ true → some_way (ways e n) ≡ true
  unfolding fits
  some_of (node k w g s z ps) e r h f = subst (λ t. some_way (ways (inside t e) (node k w g s z ps)) ≡ true) (ap (λ x. nat_eq x 1 && W r) h) (and_parts _ _ f).0

  chunk_front : (b l : Bool) (n : Tree) (r d : ℕ) (ys : List Item) → fits W n (template_element b l) r ≡ true → closes (items_text (printed W n (template_element b l) r d ++ ys)) ≡ true
  unfolding printed spellings
  chunk_front b l (node k w g s z ps) r d ys f =
      let x = first_is_neat (template_element b l) (node k w g s z ps) refl (some_of (node k w g s z ps) (template_element b l) r refl f) in
      chunk_text b l w ys
      (subst (λ qs. TokenFirst Template (codes (cond b "`" "}") ++ w ++ codes (cond l "`" "${")) (parts_printed W ps qs (0 + r) d false)) (sym (x.is ∙ ap (standing_at (template_element b l)) (chunk_pieces b l k w x.spelling x.among)))
      (first_token W Template (codes (cond b "`" "}") ++ w ++ codes (cond l "`" "${")) [] ps (0 + r) d false))

  name_front : (n : Tree) (r d : ℕ) (ys : List Item) → fits W n name r ≡ true → Worded W n name r → Undotted (items_text (printed W n name r d ++ ys)) × Unstarred (items_text (printed W n name r d ++ ys))
  unfolding printed spellings Worded
  name_front (node k w g s z ps) r d ys f h =
      let x = first_is_neat name (node k w g s z ps) refl (some_of (node k w g s z ps) name r refl f) in
      let q = x.is ∙ ap (standing_at name) (name_pieces k w x.spelling x.among) in
      name_text ys (subst (λ qs. TokenFirst IdentifierName w (parts_printed W ps qs (0 + r) d false)) (sym q) (first_token W IdentifierName w [] ps (0 + r) d false)) (subst PieceWords q h.0).0

  word_front : (n : Tree) (r d : ℕ) (ys : List Item) → fits W n word r ≡ true → Worded W n word r → Undotted (items_text (printed W n word r d ++ ys)) × Unstarred (items_text (printed W n word r d ++ ys))
  unfolding printed spellings Worded
  word_front (node k w g s z ps) r d ys f h =
      let x = first_is_neat word (node k w g s z ps) refl (some_of (node k w g s z ps) word r refl f) in
      let q = x.is ∙ ap (standing_at word) (word_pieces k w x.spelling x.among) in
      name_text ys (subst (λ qs. TokenFirst IdentifierName w (parts_printed W ps qs (0 + r) d false)) (sym q) (first_token W IdentifierName w [] ps (0 + r) d false)) (subst PieceWords q h.0).0

  base_front : (n : Tree) (r d : ℕ) (ys : List Item) → fits W n base r ≡ true → Worded W n base r → Undotted (items_text (printed W n base r d ++ ys)) × Unstarred (items_text (printed W n base r d ++ ys))
  unfolding printed spellings Worded
  base_front (node k w g s z ps) r d ys f h =
      let x = first_is_neat base (node k w g s z ps) refl (some_of (node k w g s z ps) base r refl f) in
      let q = x.is ∙ ap (standing_at base) (base_pieces k x.spelling x.among) in
      name_text ys (subst (λ qs. TokenFirst IdentifierName (codes "super") (parts_printed W ps qs (0 + r) d false)) (sym q) (first_token W IdentifierName (codes "super") [] ps (0 + r) d false)) (subst PieceWords q h.0).0

  private_front : (n : Tree) (r d : ℕ) (ys : List Item) → fits W n private_name r ≡ true → Worded W n private_name r → Undotted (items_text (printed W n private_name r d ++ ys)) × Unstarred (items_text (printed W n private_name r d ++ ys))
  unfolding printed spellings Worded
  private_front (node k w g s z ps) r d ys f h =
      let x = first_is_neat private_name (node k w g s z ps) refl (some_of (node k w g s z ps) private_name r refl f) in
      let q = x.is ∙ ap (standing_at private_name) (private_pieces k w x.spelling x.among) in
      private_text ys (subst (λ qs. TokenFirst PrivateName (codes "#" ++ w) (parts_printed W ps qs (0 + r) d false)) (sym q) (first_token W PrivateName (codes "#" ++ w) [] ps (0 + r) d false)) (subst PieceWords q h.0).0

  key_front : (n : Tree) (r d : ℕ) (ys : List Item) → fits W n key r ≡ true → Worded W n key r → Unstarred (items_text (printed W n key r d ++ ys))
  unfolding printed spellings Worded
  key_front (node k w g s z ps) r d ys f h =
      let x = first_is_neat key (node k w g s z ps) refl (some_of (node k w g s z ps) key r refl f) in
      let y = key_pieces k w x.spelling x.among in
      let q = x.is ∙ ap (standing_at key) y.is in
      key_text ys y.no_sign y.no_end (subst (λ qs. TokenFirst y.class w (parts_printed W ps qs (0 + r) d false)) (sym q) (first_token W y.class w [] ps (0 + r) d false)) (subst PieceWords q h.0).0

abbrev closer_sort : Sort → Bool
closer_sort a_quasi = true
closer_sort a_method = true
closer_sort a_chunk = true
closer_sort _ = false

abbrev name_sort : Sort → Bool
name_sort a_name = true
name_sort _ = false

abbrev key_sort : Sort → Bool
key_sort a_name = true
key_sort a_key = true
key_sort _ = false

-- a method's function begins with its parameters' parenthesis
record MethodFirst (s : Spelling) : Type 0 where
  rest : List Piece
  is : s.pieces ≡ absent ∷ sign "(" ∷ rest

method_pieces : (x : Form) (ps : Parts) (s : Spelling) → Among s (methods x ps) → MethodFirst s
method_pieces form.Get (gap (part m none)) s h = record { rest = _; is = single s h }
method_pieces form.Get _ s h = elim h [ ]
method_pieces form.Set (gap (part n (part m none))) s h = record { rest = _; is = single_unless (is_rest (kind_of n)) s h }
method_pieces form.Set _ s h = elim h [ ]
method_pieces _ (gap ps) s h = record { rest = _; is = single s h }
method_pieces _ _ s h = elim h [ ]

module _ (W : ℕ → Bool) where
  gap_front : (ps : Parts) (qs : List (PieceOf Role)) (r d : ℕ) (ys : List Item) → lines_up (absent ∷ tok Punctuator (codes "(") ∷ qs) ps ≡ true → closes (items_text (parts_printed W ps (absent ∷ tok Punctuator (codes "(") ∷ qs) r d false ++ ys)) ≡ true
  unfolding parts_printed
  gap_front none qs r d ys l = absurd (false≢true l)
  gap_front (part n ps) qs r d ys l = absurd (false≢true l)
  gap_front (gap ps) qs r d ys l = sign_text ys (first_token W Punctuator (codes "(") qs ps r d false)

  method_front : (m : Form) (n : Tree) (r d : ℕ) (ys : List Item) → fits W n (method m) r ≡ true → closes (items_text (printed W n (method m) r d ++ ys)) ≡ true
  unfolding printed spellings fits
  method_front m (node kind.FunctionExpression w g s z ps) r d ys f =
      let x = first_is_neat (method m) (node kind.FunctionExpression w g s z ps) refl (some_of W (node kind.FunctionExpression w g s z ps) (method m) r refl f) in
      let y = method_pieces m (bare_parts ps) x.spelling (within_test _ x.among) in
      let q = x.is ∙ ap (standing_at (method m)) y.is in
      let l = (and_parts (lines_up (first_way (ways (method m) (node kind.FunctionExpression w g s z ps))) ps) _ (and_parts (some_way (ways (method m) (node kind.FunctionExpression w g s z ps))) _ f).1).0 in
      subst (λ qs. closes (items_text (parts_printed W ps qs (0 + r) d false ++ ys)) ≡ true) (sym q) (gap_front ps (standing_at (method m) y.rest) (0 + r) d ys (subst (λ qs. lines_up qs ps ≡ true) q l))
  method_front m (node k w g s z ps) r d ys f =
      let x = first_is_neat (method m) (node k w g s z ps) refl (some_of W (node k w g s z ps) (method m) r refl f) in elim x.among [ ]

  part_front : (l : Bool) (q : Tree) (ps : Parts) (qs : List Piece) (r d : ℕ) (ys : List Item) → parts_fit W (part q ps) (roles (standing_at tagged_quasi (put (template_element true l) ∷ qs))) r ≡ true →
      closes (items_text (parts_printed W (part q ps) (standing_at tagged_quasi (put (template_element true l) ∷ qs)) r d false ++ ys)) ≡ true
  unfolding parts_printed parts_fit
  part_front l q ps qs r d ys f =
      let rest = parts_printed W ps (standing_at tagged_quasi qs) (r + rows q (template_element true l)) d (not (W r)) in
      subst (λ is. closes (items_text is) ≡ true) (sym (append_assoc (printed W q (template_element true l) r d) rest ys)) (chunk_front W true l q r d (rest ++ ys) (and_parts (fits W q (template_element true l) r) _ f).0)

  chunks_front : (ps : Parts) (r d : ℕ) (ys : List Item) → can_run (template_elements true (bare_parts ps)) ≡ true → parts_fit W ps (roles (standing_at tagged_quasi (template_elements true (bare_parts ps)))) r ≡ true →
      closes (items_text (parts_printed W ps (standing_at tagged_quasi (template_elements true (bare_parts ps))) r d false ++ ys)) ≡ true
  chunks_front none r d ys k f = absurd (false≢true k)
  chunks_front (gap ps) r d ys k f = absurd (false≢true k)
  chunks_front (part q none) r d ys k f = part_front true q none [] r d ys f
  chunks_front (part q (gap ps)) r d ys k f = absurd (false≢true k)
  chunks_front (part q (part e ps)) r d ys k f = part_front false q (part e ps) (put (expr Expression true Any) ∷ template_elements false (bare_parts ps)) r d ys f

  quasi_front : (n : Tree) (r d : ℕ) (ys : List Item) → fits W n tagged_quasi r ≡ true → closes (items_text (printed W n tagged_quasi r d ++ ys)) ≡ true
  unfolding printed spellings fits
  quasi_front (node kind.TemplateLiteral w g s z ps) r d ys f =
      let n = node kind.TemplateLiteral w g s z ps in
      let x = first_is_neat tagged_quasi n refl (some_of W n tagged_quasi r refl f) in
      let y = single {qs = template_elements true (bare_parts ps)} x.spelling x.among in
      let q = x.is ∙ ap (standing_at tagged_quasi) y in
      let u = (and_parts (lines_up (first_way (ways tagged_quasi n)) ps) _ (and_parts (some_way (ways tagged_quasi n)) _ f).1).1 in
      subst (λ qs. closes (items_text (parts_printed W ps qs (0 + r) d false ++ ys)) ≡ true) (sym q)
      (chunks_front ps (0 + r) d ys (subst (λ qs. can_run qs ≡ true) y x.runs) (subst (λ xs. parts_fit W ps xs (0 + r) ≡ true) (sym (first_roles_are (ways tagged_quasi n)) ∙ ap roles q) u))
  quasi_front (node k w g s z ps) r d ys f = let x = first_is_neat tagged_quasi (node k w g s z ps) refl (some_of W (node k w g s z ps) tagged_quasi r refl f) in elim x.among [ ]

  closer_of : (e : Role) (n : Tree) (r d : ℕ) (ys : List Item) → fits W n e r ≡ true → closer_sort (sort_of e) ≡ true → closes (items_text (printed W n e r d ++ ys)) ≡ true
  closer_of tagged_quasi n r d ys f h = quasi_front n r d ys f
  closer_of (method m) n r d ys f h = method_front m n r d ys f
  closer_of (template_element b l) n r d ys f h = chunk_front W b l n r d ys f
  closer_of (expr y i z) n r d ys f h = absurd (no_closer (Rattle.std.specs.Prelude.nat_le 18 (Rattle.language.specs.Vocabulary.precedence y)) h)
    where
      no_closer : (t : Bool) → closer_sort (cond t a_tight an_operand) ≡ true → ⊥
      no_closer true h = false≢true h
      no_closer false h = false≢true h
  closer_of _ n r d ys f h = absurd (false≢true h)

  undotted_of : (e : Role) (n : Tree) (r d : ℕ) (ys : List Item) → fits W n e r ≡ true → Worded W n e r → name_sort (sort_of e) ≡ true → Undotted (items_text (printed W n e r d ++ ys))
  undotted_of name n r d ys f w h = (name_front W n r d ys f w).0
  undotted_of word n r d ys f w h = (word_front W n r d ys f w).0
  undotted_of private_name n r d ys f w h = (private_front W n r d ys f w).0
  undotted_of base n r d ys f w h = (base_front W n r d ys f w).0
  undotted_of (expr y i z) n r d ys f w h = absurd (no_name (Rattle.std.specs.Prelude.nat_le 18 (Rattle.language.specs.Vocabulary.precedence y)) h)
    where
      no_name : (t : Bool) → name_sort (cond t a_tight an_operand) ≡ true → ⊥
      no_name true h = false≢true h
      no_name false h = false≢true h
  undotted_of _ n r d ys f w h = absurd (false≢true h)

  unstarred_of : (e : Role) (n : Tree) (r d : ℕ) (ys : List Item) → fits W n e r ≡ true → Worded W n e r → key_sort (sort_of e) ≡ true → Unstarred (items_text (printed W n e r d ++ ys))
  unstarred_of name n r d ys f w h = (name_front W n r d ys f w).1
  unstarred_of word n r d ys f w h = (word_front W n r d ys f w).1
  unstarred_of private_name n r d ys f w h = (private_front W n r d ys f w).1
  unstarred_of key n r d ys f w h = key_front W n r d ys f w
  unstarred_of base n r d ys f w h = (base_front W n r d ys f w).1
  unstarred_of (expr y i z) n r d ys f w h = absurd (no_key (Rattle.std.specs.Prelude.nat_le 18 (Rattle.language.specs.Vocabulary.precedence y)) h)
    where
      no_key : (t : Bool) → key_sort (cond t a_tight an_operand) ≡ true → ⊥
      no_key true h = false≢true h
      no_key false h = false≢true h
  unstarred_of _ n r d ys f w h = absurd (false≢true h)

  one_of_two : (x : Sort) → (x ≡ a_name) ⊎ (x ≡ a_key) → key_sort x ≡ true
  one_of_two x (inl e) = ap key_sort e
  one_of_two x (inr e) = ap key_sort e

  one_of_three : (x : Sort) → (x ≡ a_quasi) ⊎ ((x ≡ a_method) ⊎ (x ≡ a_chunk)) → closer_sort x ≡ true
  one_of_three x (inl e) = ap closer_sort e
  one_of_three x (inr (inl e)) = ap closer_sort e
  one_of_three x (inr (inr e)) = ap closer_sort e

  pub node_fronts : NodeFronts W
  node_fronts n e r d ys p f w = record { starts = starts_on ys (node_starts W n e r d p f w); closer = λ h. closer_of e n r d ys f (one_of_three (sort_of e) h); undotted = λ h. undotted_of e n r d ys f w (ap name_sort h); unstarred = λ h. unstarred_of e n r d ys f w (one_of_two (sort_of e) h) }
