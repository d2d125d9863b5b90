-- A list of tokens that is a reading of a text: what it spells, the text spells at its own places.
use Rattle.std.proofs.Common.{◌≡◌, ℕ, ◌+◌, true, List, [], ◌∷◌, ◌++◌, length, drop, refl, sym, ap, ◌∙◌, subst, arith, length-append, length-drop}
use Rattle.std.specs.Prelude.{map, encode_utf8_all}
use Rattle.std.specs.Str.{chars, IsUtf8, IsCharBoundary}
use Rattle.std.proofs.Math.Utf8.{scalars}
use Rattle.std.proofs.Math.Seq.{drop-append_seam}
use Rattle.std.proofs.lemmas.Bool.{and_parts}
use Rattle.std.proofs.lemmas.List.{drop-drop}
use Rattle.std.proofs.lemmas.Str.{encodes-append, encodes-chars, scalars-chars, chars_from_encodes, IsUtf8-drop, IsCharBoundary-from_drop}
use Rattle.tree.specs.declared.kind.Pair.{Pair}
use Rattle.tree.specs.Tree.{Tree}
use Rattle.tokens.specs.declared.token.Goal.{Goal}
use Rattle.tokens.specs.Tokens.{LexicalToken, IsTokenAt, IsReading, last, more, size}
use Rattle.tokens.specs.Reading.{behind, any_goal}
use Rattle.language.specs.Token.{Token, as_read}
use Rattle.language.specs.Pieces.{script}
use Rattle.language.specs.Grammar.{ways}
use Rattle.language.specs.Cursor as Cursor
use Rattle.language.specs.Places.{NextIn, next_in, itself}
use Rattle.language.specs.Derivation.{Spells}
use Rattle.language.specs.Claims.{DerivesOpen}
use Rattle.language.proofs.texts.Frame.{Carries, Spells-to}

scalars_behind : (v w : List ℕ) → scalars (v ++ w) ≡ true → scalars w ≡ true
scalars_behind [] w h = h
scalars_behind (c ∷ v) w h = scalars_behind v w (and_parts _ _ h).1

moved : (at n : ℕ) (text : List ℕ) → drop (at + n) text ≡ drop n (drop at text)
moved at n text = sym (drop-drop n at text)

-- what stands behind the characters that are passed, and its place
pub past : (text w rest : List ℕ) (at : ℕ) → IsUtf8 text → IsCharBoundary text at → behind text at ≡ w ++ rest → (rest ≡ behind text (at + size w)) × IsCharBoundary text (at + size w)
past text w rest at u p h =
    let v = IsUtf8-drop text at u p in
    let bytes : drop at text ≡ encode_utf8_all w ++ encode_utf8_all rest = sym (encodes-chars (drop at text) v) ∙ ap encode_utf8_all h ∙ encodes-append w rest in
    let beyond : drop (at + size w) text ≡ encode_utf8_all rest = moved at (size w) text ∙ ap (drop (size w)) bytes ∙ drop-append_seam (encode_utf8_all w) (encode_utf8_all rest) in
    let known = scalars_behind w rest (ap scalars (sym h) ∙ scalars-chars (drop at text) v) in
    let good : IsUtf8 (drop (at + size w) text) = subst IsUtf8 (sym beyond) (rest, (known, refl)) in
    let n = sym (length-drop at text) ∙ ap length bytes ∙ length-append (encode_utf8_all w) (encode_utf8_all rest) in
    let within = p.0 in
    (chars_from_encodes rest (drop (at + size w) text) good (sym beyond), IsCharBoundary-from_drop text (at + size w) (omega arith) good)

-- behind a token that is read
pub past_token : (text : List ℕ) (goal : Goal) (at : ℕ) (t : LexicalToken) (rest : List ℕ) → IsUtf8 text → IsCharBoundary text at → IsTokenAt goal at (behind text at) t rest →
    (rest ≡ behind text t.stop) × IsCharBoundary text t.stop
past_token text goal at t rest u p r =
    let s = r.start in
    let e = r.stop in
    let n : at + size (r.gap ++ r.word) ≡ t.stop = sizes r.gap r.word s e in
    let q = past text (r.gap ++ r.word) rest at u p r.split in
    (q.0 ∙ ap (behind text) n, subst (IsCharBoundary text) n q.1)
  where
    sizes : (v w : List ℕ) → t.start ≡ at + size v → t.stop ≡ t.start + size w → at + size (v ++ w) ≡ t.stop
    sizes v w s e = let k = ap length (encodes-append v w) ∙ length-append (encode_utf8_all v) (encode_utf8_all w) in omega arith

-- the tokens ahead are a reading of the text
pub data IsRead (text : List ℕ) : List Token → Type 0 where
  over : {t : Token} → IsRead text (t ∷ [])
  ahead : {b : Token} {ts : List LexicalToken} → IsCharBoundary text b.stop → IsReading b.stop (behind text b.stop) ts → IsRead text (b ∷ map as_read ts)

read_at : (text : List ℕ) (goal : Goal) (b : Token) (t : LexicalToken) (rest : List ℕ) → IsUtf8 text → IsCharBoundary text b.stop → IsTokenAt goal b.stop (behind text b.stop) t rest → NextIn text any_goal b (as_read t) (as_read t)
read_at text goal b t rest u p r = next_in goal refl (subst (λ x. IsTokenAt goal b.stop (behind text b.stop) t x) (past_token text goal b.stop t rest u p r).0 r)

next_read : (text : List ℕ) → IsUtf8 text → (s : List Token) (t : Token) (e : List Token) → IsRead text s → Cursor.Next s t e → NextIn text any_goal (Cursor.behind s) t (Cursor.behind e)
next_read text u _ t e over h = elim h [ ]
next_read text u _ t e (ahead {b = b} p (last {token = k} goal r h)) Cursor.next = read_at text goal b k [] u p r
next_read text u _ t e (ahead {b = b} p (more {rest = rest} {token = k} goal r h d)) Cursor.next = read_at text goal b k rest u p r

stays_read : (text : List ℕ) → IsUtf8 text → (s : List Token) (t : Token) (e : List Token) → IsRead text s → Cursor.Next s t e → IsRead text e
stays_read text u _ t e over h = elim h [ ]
stays_read text u _ t e (ahead p (last goal r h)) Cursor.next = over
stays_read text u _ t e (ahead {b = b} p (more {rest = rest} {token = k} {tokens = ts} goal r h d)) Cursor.next =
    let q = past_token text goal b.stop k rest u p r in ahead q.1 (subst (λ x. IsReading k.stop x ts) q.0 d)

carried : (text : List ℕ) → IsUtf8 text → Carries (List Token) Cursor.Next Cursor.behind Token (NextIn text any_goal) itself Cursor.behind (IsRead text)
carried text u = record {
  next = next_read text u;
  stays = stays_read text u;
  before = λ s t e h. refl;
  after = λ s t e h. refl;
}

-- what a reading of a text spells, the text derives
pub derived_by_reading : (o : ℕ) (text : List ℕ) (n : Tree) (P : List Pair) (tokens : List LexicalToken) (final : Token) → IsUtf8 text → IsReading 0 (chars text) tokens →
    Spells ways (List Token) Cursor.Next Cursor.behind o script n (Cursor.beginning ∷ map as_read tokens) (final ∷ []) P → DerivesOpen o text n P
derived_by_reading o text n P tokens final u r d =
    (final, Spells-to ways (List Token) Cursor.Next Cursor.behind Token (NextIn text any_goal) itself Cursor.behind (IsRead text) (carried text u) (ahead (start text u) r) d)
  where
    start : (text : List ℕ) → IsUtf8 text → IsCharBoundary text 0
    start text u = IsCharBoundary-from_drop text 0 (omega arith) u
