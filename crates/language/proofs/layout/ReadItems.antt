-- Items that stand apart are read, one after the other.
use Rattle.std.proofs.Common.{◌≡◌, ℕ, ◌+◌, ◌≤◌, Bool, true, false, not, ◌&&◌, ◌||◌, List, [], ◌∷◌, ◌++◌, length, drop, refl, sym, ap, ◌∙◌, subst, arith, IsTrue, append_assoc, append-nil, length-append, length-drop}
use Rattle.std.specs.List.{list_any, list_all}
use Rattle.std.specs.Str.{chars, IsUtf8}
use Rattle.std.proofs.lemmas.Str.{chars-append, chars-nil, encodes-chars, IsUtf8-nil, IsUtf8-append}
use Rattle.std.proofs.lemmas.List.{drop_at, drop-drop}
use Rattle.std.proofs.lemmas.Bool.{and_parts, and_from, false≢true}
use Rattle.source_text.specs.Lines.{is_line_terminator}
use Rattle.tokens.specs.Comments.{begins_comment, Separators, nothing, blank as a_blank}
use Rattle.tokens.specs.declared.token.TokenClass.{TokenClass}
use Rattle.tokens.specs.declared.token.TokenClass.TheVariants.{IdentifierName, Keyword, End}
use Rattle.tokens.specs.declared.token.Goal.{Goal}
use Rattle.tokens.specs.declared.token.Goal.TheVariants.{Div}
use Rattle.tokens.specs.Lexical.{is_token}
use Rattle.tokens.specs.Goals.{allows}
use Rattle.tokens.specs.Tokens.{LexicalToken, IsTokenAt, size}
use Rattle.tokens.specs.Reading.{behind, any_goal}
use Rattle.language.specs.Vocabulary.{is_keyword}
use Rattle.language.specs.Edges.{begins_no_operand}
use Rattle.language.specs.Token.{Token, as_read, table_text}
use Rattle.language.specs.Derivation.{Reads}
use Rattle.language.specs.Cursor.{beginning}
use Rattle.language.specs.Places.{NextIn, next_in, itself}
use Rattle.language.proofs.layout.LooseReadings.{Loose, plainly, reserved}
use Rattle.language.specs.Readable.{scanned, is_blank, breaks, on_this_line, joins_none, may_precede, closes_here, closes_next}
use Rattle.language.specs.Printed.{Item, word, blank, name_ahead, joined, items_text, Follows, over, reads, passes, sees, stays, GoesOn, closing, leaves}

-- a text as the table has it; a keyword is one
abbrev pub KeptText : TokenClass → List ℕ → Type 0
KeptText Keyword w = is_keyword w ≡ true
KeptText class w = table_text class w ≡ w

-- a word of a class in front of a rest, with which it makes no longer token
pub record Apart (class : TokenClass) (w rest : List ℕ) : Type 0 where
  pub utf8 : IsUtf8 w
  pub longest : IsTrue (is_token (scanned class) (chars w) (chars rest))
  pub no_comment : IsTrue (not (begins_comment (chars w ++ chars rest)))
  pub goal : Goal
  pub allowed : IsTrue (allows goal (scanned class) (chars w))
  pub kept : KeptText class w

-- what may stand between words
pub record IsGap (gap : List ℕ) : Type 0 where
  pub utf8 : IsUtf8 gap
  pub blank : list_all is_blank (chars gap) ≡ true

separates : (cs rest : List ℕ) → list_all is_blank cs ≡ true → Separators cs rest
separates [] rest h = nothing
separates (c ∷ cs) rest h = let u = and_parts (is_blank c) _ h in a_blank u.0 (separates cs rest u.1)

pub no_gap : IsGap []
no_gap = record { utf8 = IsUtf8-nil; blank = ap (list_all is_blank) chars-nil }

pub gap_join : {xs ys : List ℕ} → IsGap xs → IsGap ys → IsGap (xs ++ ys)
gap_join {xs} {ys} h k = record { utf8 = IsUtf8-append xs ys h.utf8 k.utf8; blank = ap (list_all is_blank) (chars-append xs ys h.utf8) ∙ both (chars xs) h.blank }
  where
    both : (cs : List ℕ) → list_all is_blank cs ≡ true → list_all is_blank (cs ++ chars ys) ≡ true
    both [] h = k.blank
    both (c ∷ cs) h = let u = and_parts (is_blank c) _ h in and_from _ _ u.0 (both cs u.1)

-- each word stands apart from what follows, and what is looked for is there
pub data Readable : List Item → Type 0 where
  ends : Readable []
  a_word : {c : TokenClass} {w : List ℕ} {is : List Item} → Apart c w (items_text is) → Readable is → Readable (word c w ∷ is)
  a_gap : {w : List ℕ} {is : List Item} → IsGap w → may_precede w is ≡ true → Readable is → Readable (blank w ∷ is)
  a_name : {w : List ℕ} {is : List Item} → Readable (word IdentifierName w ∷ is) → Readable (name_ahead w ∷ word IdentifierName w ∷ is)
  a_line : {is : List Item} → on_this_line is ≡ true → Readable is → Readable (joined ∷ is)
  a_close : {is : List Item} → Readable is → Readable (closing ∷ is)

pub readable_utf8 : {is : List Item} → Readable is → IsUtf8 (items_text is)
readable_utf8 ends = IsUtf8-nil
readable_utf8 (a_word h r) = IsUtf8-append _ _ h.utf8 (readable_utf8 r)
readable_utf8 (a_gap h j r) = IsUtf8-append _ _ h.utf8 (readable_utf8 r)
readable_utf8 (a_name r) = readable_utf8 r
readable_utf8 (a_line h r) = readable_utf8 r
readable_utf8 (a_close r) = readable_utf8 r

-- what stands behind a place of a source text
pub record Before (text : List ℕ) (s : Token) (rest : List ℕ) : Type 0 where
  pub within : s.stop ≤ length text
  pub is : drop s.stop text ≡ rest

before_same : {text : List ℕ} {s : Token} {rest other : List ℕ} → rest ≡ other → Before text s rest → Before text s other
before_same {text} {s} e b = subst (λ x. Before text s x) e b

size_chars : (bs : List ℕ) → IsUtf8 bs → size (chars bs) ≡ length bs
size_chars bs h = ap length (encodes-chars bs h)

dropped : (text xs ys : List ℕ) (at : ℕ) → drop at text ≡ xs ++ ys → drop (at + length xs) text ≡ ys
dropped text xs ys at e = sym (drop-drop (length xs) at text) ∙ ap (drop (length xs)) e ∙ drop_at xs ys (length xs) refl

-- what is scanned is read as its class
record AsClass (text : List ℕ) (class : TokenClass) (w : List ℕ) (s e : Token) (break : Bool) : Type 0 where
  token : Token
  reads : Reads Token (Loose Token (NextIn text any_goal)) itself class w s token e
  same : token.after_break ≡ break

as_class : {text : List ℕ} {s e t : Token} (class : TokenClass) (w : List ℕ) → KeptText class w → NextIn text any_goal s t e → t.class ≡ scanned class → t.text ≡ w → AsClass text class w s e t.after_break
as_class {t = t} Keyword w k x p q = record { token = record t { class = Keyword }; reads = record { next = reserved x p (ap is_keyword q ∙ k); class = refl; text = q }; same = refl }
as_class {t = t} _ w k x p q = record { token = t; reads = record { next = plainly x; class = p; text = q }; same = refl }

text_kept : (class : TokenClass) (w : List ℕ) → KeptText class w → table_text (scanned class) w ≡ w
text_kept Keyword w k = refl
text_kept _ w k = k

-- a word is read, and the rest stands behind it
pub record ReadWord (text : List ℕ) (class : TokenClass) (w : List ℕ) (s : Token) (gap rest : List ℕ) : Type 0 where
  pub token : Token
  pub place : Token
  pub reads : Reads Token (Loose Token (NextIn text any_goal)) itself class w s token place
  pub before : Before text place rest
  pub break : token.after_break ≡ breaks gap

pub read_word : (text : List ℕ) (class : TokenClass) (w : List ℕ) (s : Token) (gap rest : List ℕ) → IsGap gap → Apart class w rest → Before text s (gap ++ (w ++ rest)) → ReadWord text class w s gap rest
read_word text class w s gap rest all a b =
    let within = b.within in
    let left = sym (length-drop s.stop text) ∙ ap length b.is in
    let j = length-append gap (w ++ rest) in
    let k = length-append w rest in
    let start = s.stop + length gap in
    let stop = s.stop + length gap + length w in
    let t : LexicalToken = record { class = scanned class; text = w; start = start; stop = stop; after_break = breaks gap } in
    let ahead : behind text s.stop ≡ (chars gap ++ chars w) ++ chars rest =
    ap chars b.is ∙ chars-append gap (w ++ rest) all.utf8 ∙ ap (λ x. chars gap ++ x) (chars-append w rest a.utf8) ∙ sym (append_assoc (chars gap) (chars w) (chars rest)) in
    let rest_is : drop stop text ≡ rest = dropped text w rest start (dropped text gap (w ++ rest) s.stop b.is) in
    let at : IsTokenAt a.goal s.stop (behind text s.stop) t (chars rest) = record {
      gap = chars gap;
      word = chars w;
      split = ahead;
      separated = separates (chars gap) (chars w ++ chars rest) all.blank;
      no_comment = a.no_comment;
      longest = a.longest;
      allowed = a.allowed;
      text = sym (encodes-chars w a.utf8);
      start = ap (λ x. s.stop + x) (sym (size_chars gap all.utf8));
      stop = ap (λ x. start + x) (sym (size_chars w a.utf8));
      after_break = refl;
    } in
    let z = as_class class w a.kept (next_in a.goal refl (subst (λ x. IsTokenAt a.goal s.stop (behind text s.stop) t x) (ap chars (sym rest_is)) at)) refl (text_kept class w a.kept) in
    record {
      token = z.token;
      place = as_read t;
      reads = z.reads;
      before = record { within = omega arith; is = rest_is };
      break = z.same;
    }

pub end_apart : Apart End [] []
end_apart = record {
  utf8 = IsUtf8-nil;
  longest = subst (λ x. IsTrue (is_token End x x)) (sym chars-nil) refl;
  no_comment = subst (λ x. IsTrue (not (begins_comment (x ++ x)))) (sym chars-nil) refl;
  goal = Div;
  allowed = subst (λ x. IsTrue (allows Div End x)) (sym chars-nil) refl;
  kept = refl;
}

-- the next word, where it stands on the same line
record NextWord (text : List ℕ) (s : Token) : Type 0 where
  token : Token
  place : Token
  next : Loose Token (NextIn text any_goal) s token place
  same : token.after_break ≡ false

breaks_join : (xs ys : List ℕ) → IsUtf8 xs → breaks xs ≡ false → breaks ys ≡ false → breaks (xs ++ ys) ≡ false
breaks_join xs ys u h k = ap (list_any is_line_terminator) (chars-append xs ys u) ∙ both (chars xs) h
  where
    both : (cs : List ℕ) → list_any is_line_terminator cs ≡ false → list_any is_line_terminator (cs ++ chars ys) ≡ false
    both [] h = k
    both (c ∷ cs) h = go (is_line_terminator c) h (λ z. both cs z)
      where
        go : (b : Bool) → (b || list_any is_line_terminator cs) ≡ false → (list_any is_line_terminator cs ≡ false → list_any is_line_terminator (cs ++ chars ys) ≡ false) → (b || list_any is_line_terminator (cs ++ chars ys)) ≡ false
        go true h f = h
        go false h f = f h

not_false : (b : Bool) → not b ≡ true → b ≡ false
not_false true h = absurd (false≢true h)
not_false false h = refl

next_word : (text : List ℕ) {is : List Item} (s : Token) (gap : List ℕ) → Readable is → on_this_line is ≡ true → IsGap gap → breaks gap ≡ false → Before text s (gap ++ items_text is) → NextWord text s
next_word text s gap ends h g n b = absurd (false≢true h)
next_word text s gap (a_word {c = c} {w = w} {is = is} a r) h g n b =
    let x = read_word text c w s gap (items_text is) g a b in
    let y = x.reads in
    record { token = x.token; place = x.place; next = y.next; same = x.break ∙ n }
next_word text s gap (a_gap {w = w} {is = is} a j r) h g n b =
    let u = and_parts (not (breaks w)) (on_this_line is) h in
    next_word text s (gap ++ w) r u.1 (gap_join g a) (breaks_join gap w g.utf8 n (not_false _ u.0)) (before_same (sym (append_assoc gap w (items_text is))) b)
next_word text s gap (a_name r) h g n b = next_word text s gap r refl g n b
next_word text s gap (a_line e r) h g n b = next_word text s gap r e g n b
next_word text s gap (a_close r) h g n b = next_word text s gap r h g n b

-- the next word, or the end, where it begins no operand on the same line
record NextClose (text : List ℕ) (s : Token) : Type 0 where
  token : Token
  place : Token
  next : Loose Token (NextIn text any_goal) s token place
  closes : begins_no_operand token ≡ true

-- a word that closes does so behind any gap
closes_word_of : (c : TokenClass) (w : List ℕ) (token : Token) → closes_here c w ≡ true → token.class ≡ c → token.text ≡ w → begins_no_operand token ≡ true
closes_word_of c w token h k l = either token.after_break (ap (λ x. closes_here x token.text) k ∙ ap (closes_here c) l ∙ h)
  where
    either : (b : Bool) {x : Bool} → x ≡ true → (b || x) ≡ true
    either true e = refl
    either false e = e

no_break : (is : List Item) → may_precede [] is ≡ true
no_break is = ap (λ cs. not (list_any is_line_terminator cs) || joins_none is) chars-nil

line_kept : (b : Bool) → (not b || false) ≡ true → b ≡ false
line_kept true h = absurd (false≢true h)
line_kept false h = refl

next_close : (text : List ℕ) {is : List Item} (s : Token) (gap : List ℕ) → Readable is → closes_next is ≡ true → IsGap gap → Before text s (gap ++ items_text is) → NextClose text s
next_close text s gap ends h g b =
    let y = read_word text End [] s gap [] g end_apart b in
    let z = y.reads in
    record { token = y.token; place = y.place; next = z.next; closes = closes_word_of End [] y.token refl z.class z.text }
next_close text s gap (a_word {c = c} {w = w} {is = is} a r) h g b =
    let x = read_word text c w s gap (items_text is) g a b in
    let z = x.reads in
    record { token = x.token; place = x.place; next = z.next; closes = closes_word_of c w x.token h z.class z.text }
next_close text s gap (a_gap {w = w} {is = is} a j r) h g b = next_close text s (gap ++ w) r h (gap_join g a) (before_same (sym (append_assoc gap w (items_text is))) b)
next_close text s gap (a_name r) h g b = next_close text s gap r h g b
next_close text s gap (a_line e r) h g b = next_close text s gap r h g b
next_close text s gap (a_close r) h g b = next_close text s gap r h g b

-- where something must close, it does
abbrev pub closes_all : List Item → Bool
closes_all [] = true
closes_all (closing ∷ is) = closes_next is && closes_all is
closes_all (_ ∷ is) = closes_all is

-- the items are read, up to a place behind which a gap is left
pub record ReadAll (text : List ℕ) (is : List Item) (s : Token) : Type 0 where
  pub place : Token
  pub gap : List ℕ
  pub is_gap : IsGap gap
  pub follows : Follows Token (Loose Token (NextIn text any_goal)) itself is s place
  pub before : Before text place gap

precede_join : (xs ys : List ℕ) (is : List Item) → IsUtf8 xs → may_precede xs is ≡ true → may_precede ys is ≡ true → may_precede (xs ++ ys) is ≡ true
precede_join xs ys is u h k = go (breaks xs) (breaks ys) (breaks (xs ++ ys)) (joins_none is) (λ p q. breaks_join xs ys u p q) refl refl h k
  where
    go : (a b c d : Bool) → (breaks xs ≡ false → breaks ys ≡ false → c ≡ false) → breaks xs ≡ a → breaks ys ≡ b → (not a || d) ≡ true → (not b || d) ≡ true → (not c || d) ≡ true
    go a b c true f p q h k = or_true_right (not c)
      where
        or_true_right : (x : Bool) → (x || true) ≡ true
        or_true_right true = refl
        or_true_right false = refl
    go true b c false f p q h k = absurd (false≢true h)
    go false true c false f p q h k = absurd (false≢true k)
    go false false c false f p q h k = ap (λ x. not x || false) (f p q)

pub read_items : (text : List ℕ) {is : List Item} (s : Token) (gap : List ℕ) → Readable is → closes_all is ≡ true → IsGap gap → may_precede gap is ≡ true → Before text s (gap ++ items_text is) → ReadAll text is s
read_items text s gap ends q g p b = record { place = s; gap = gap; is_gap = g; follows = over; before = before_same (append-nil gap) b }
read_items text s gap (a_word {c = c} {w = w} {is = is} a r) q g p b =
    let x = read_word text c w s gap (items_text is) g a b in
    let y = read_items text x.place [] r q no_gap (no_break is) x.before in
    record { place = y.place; gap = y.gap; is_gap = y.is_gap; follows = reads x.reads y.follows; before = y.before }
read_items text s gap (a_gap {w = w} {is = is} a j r) q g p b =
    let y = read_items text s (gap ++ w) r q (gap_join g a) (precede_join gap w is g.utf8 p j) (before_same (sym (append_assoc gap w (items_text is))) b) in
    record { place = y.place; gap = y.gap; is_gap = y.is_gap; follows = passes y.follows; before = y.before }
read_items text s gap (a_name {w = w} {is = is} (a_word a u)) q g p b =
    let x = read_word text IdentifierName w s gap (items_text is) g a b in
    let y = read_items text x.place [] u q no_gap (no_break is) x.before in
    record { place = y.place; gap = y.gap; is_gap = y.is_gap; follows = sees x.reads (reads x.reads y.follows); before = y.before }
read_items text s gap (a_line {is = is} h r) q g p b =
    let n = next_word text s gap r h g (line_kept (breaks gap) p) b in
    let y = read_items text s gap r q g (ap (λ x. not x || joins_none is) (line_kept (breaks gap) p)) b in
    record { place = y.place; gap = y.gap; is_gap = y.is_gap; follows = stays n.next n.same y.follows; before = y.before }
read_items text s gap (a_close {is = is} r) q g p b =
    let h = and_parts (closes_next is) _ q in
    let n = next_close text s gap r h.0 g b in
    let y = read_items text s gap r h.1 g p b in
    record { place = y.place; gap = y.gap; is_gap = y.is_gap; follows = leaves n.next n.closes y.follows; before = y.before }

-- a text of such items is read as they say, and something is read behind them: the end at least
pub record IsRead (is : List Item) : Type 0 where
  pub last : Token
  pub follows : Follows Token (Loose Token (NextIn (items_text is) any_goal)) itself is beginning last
  pub goes_on : GoesOn Token (Loose Token (NextIn (items_text is) any_goal)) itself last

pub text_is_read : (is : List Item) → Readable is → closes_all is ≡ true → IsRead is
text_is_read is r q =
    let x = read_items (items_text is) beginning [] r q no_gap (no_break is) (record { within = omega arith; is = refl }) in
    let y = read_word (items_text is) End [] x.place x.gap [] x.is_gap end_apart (before_same (sym (append-nil x.gap)) x.before) in
    let z = y.reads in
    record { last = x.place; follows = x.follows; goes_on = record { token = y.token; place = y.place; next = z.next } }

-- What the test says
