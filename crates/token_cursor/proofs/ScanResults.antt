-- What a scan answers, from its contract, and as a language sees it.
use Rattle.std.proofs.Common.{◌≡◌, ◌≢◌, ℕ, ◌≤◌, ◌<◌, Bool, true, false, List, refl, sym, ap, ◌∙◌, subst}
use Rattle.std.specs.Prelude.{cond, codes, ◌&&◌, ◌||◌, Result, Ok, Err, IfOk, IfErr, OnErr, IsTrue}
use Rattle.std.specs.Str.{chars, bytes_eq, IsUtf8}
use Rattle.source_text.specs.Source.{IsPlace}
use Rattle.tokens.specs.declared.token.TokenClass.{TokenClass}
use Rattle.tokens.specs.declared.token.TokenClass.TheVariants.{IdentifierName, StringLiteral, Keyword, End}
use Rattle.tokens.specs.declared.token.Goal.{Goal}
use Rattle.tokens.specs.declared.token.Goal.TheVariants.{Div}
use Rattle.tokens.specs.declared.token.Token.{Token as Scanned}
use Rattle.tokens.specs.declared.scanner.ScanFault.{ScanFault}
use Rattle.tokens.specs.Strings.{is_string}
use Rattle.tokens.specs.Goals.{allows}
use Rattle.tokens.specs.Comments.{hashbang}
use Rattle.tokens.specs.Tokens.{LexicalToken, IsTokenAt, size}
use Rattle.tokens.specs.Reading.{behind, Reads}
use Rattle.tokens.specs.Scanned.{token_of}
use Rattle.tokens.proofs.TokenUniqueness.{determined}
use Rattle.language.specs.declared.Language.{Language}
use Rattle.language.specs.declared.Language.TheVariants.{Base, Script, Module}
use Rattle.language.specs.Cursor.{beginning}
use Rattle.language.specs.Languages.{is_of_2022, class_in, seen_in, beginning_in}
use Rattle.language.specs.Vocabulary.{is, is_keyword}
use Rattle.language.specs.Token.{same_class, is_token, table_text, as_read}
use Rattle.language.proofs.table.Begins.{div_allows}
use Rattle.token_cursor.specs.SourceText.{SourceText}
use Rattle.token_cursor.specs.CursorState.{depends, Ahead, IsAhead, OnlyEnd, IsSeenScan}
use Rattle.token_cursor.proofs.Moves.{moved, div_reads}
use Rattle.token_cursor.proofs.SeenTokens.{seen_base, seen_unnamed}
use Rattle.token_cursor.proofs.TokensAhead.{by_goal}

abbrev base_text : List ℕ → SourceText
base_text text = record { bytes = text; language = Base }

pub scanned : (goal : Goal) (text : List ℕ) (at : ℕ) (r : Result Scanned ScanFault) →
    IfOk r (λ t. Reads text goal at (token_of t)) → IfOk r (λ t. (at ≤ t.start) × (t.start ≤ t.end) × IsPlace text t.start × IsPlace text t.end) →
    IfOk r (λ t. t.class ≢ End → t.start < t.end) → IfOk r (λ t. t.class ≡ StringLiteral → IsTrue (is_string (chars t.text.now))) →
    OnErr r ((t : LexicalToken) (rest : List ℕ) → IsTokenAt goal at (behind text at) t rest → ⊥) → IfErr r (λ f. (at ≤ f.at) × IsPlace text f.at) → Ahead goal (base_text text) at r
scanned goal text at (Ok t) read within goes_on string none place = record {
  scanned = token_of t;
  read = read;
  seen = seen_base (token_of t);
  begins = within.0;
  ordered = within.1;
  goes_on = goes_on;
  start_place = within.2;
  stop_place = within.3;
  string = string;
}
scanned goal text at (Err f) read within goes_on string none place = (λ t h. none t (behind text t.stop) h, place)

end_seen : (l : Language) (c : TokenClass) (w : List ℕ) → class_in l c w ≢ End → c ≢ End
end_seen l c w h e = h (ap (λ d. class_in l d w) e)

string_seen : (l : Language) (c : TokenClass) (w : List ℕ) → class_in l c w ≡ StringLiteral → c ≡ StringLiteral
string_seen l IdentifierName w h = by _ h where
  by : (b : Bool) → cond b Keyword IdentifierName ≡ StringLiteral → IdentifierName ≡ StringLiteral
  by true h = cc
  by false h = cc
string_seen l c w h = h

-- the token of a scan, as the language sees it
as_seen : (goal : Goal) (text : List ℕ) (l : Language) (at : ℕ) (u : LexicalToken) → IsAhead goal (base_text text) at u → (t : LexicalToken) → t ≡ seen_in l u → IsAhead goal (record { bytes = text; language = l }) at t
as_seen goal text l at u a t e = subst (IsAhead goal (record { bytes = text; language = l }) at) (sym e) (record {
  scanned = u;
  read = subst (Reads text goal at) (sym (a.seen ∙ sym (seen_base a.scanned))) a.read;
  seen = refl;
  begins = a.begins;
  ordered = a.ordered;
  goes_on = λ real. a.goes_on (end_seen l u.class u.text real);
  start_place = a.start_place;
  stop_place = a.stop_place;
  string = λ h. a.string (string_seen l u.class u.text h);
})

-- a scan's answer, once names are seen as the language sees them
pub seen_scan : (goal : Goal) (text : List ℕ) (l : Language) (at : ℕ) (r s : Result Scanned ScanFault) → is_of_2022 l ≡ true → IsSeenScan r s → Ahead goal (base_text text) at r → Ahead goal (record { bytes = text; language = l }) at s
seen_scan goal text l at (Ok u) (Ok t) of_2022 h a = as_seen goal text l at (token_of u) a (token_of t) (h l of_2022)
seen_scan goal text l at (Err f) (Err g) of_2022 h a = (a.0, subst (λ (x : ScanFault). (at ≤ x.at) × IsPlace text x.at) (sym h) a.1)
seen_scan goal text l at (Ok u) (Err g) of_2022 h a = absurd h
seen_scan goal text l at (Err f) (Ok t) of_2022 h a = absurd h

-- the base profile sees a scan's answer as it is
pub base_scan : (goal : Goal) (text : List ℕ) (l : Language) (at : ℕ) (r : Result Scanned ScanFault) → is_of_2022 l ≡ false → Ahead goal (base_text text) at r → Ahead goal (record { bytes = text; language = l }) at r
base_scan goal text Base at r h a = a
base_scan goal text Script at r h a = cc
base_scan goal text Module at r h a = cc

-- where the goal reads no name, each language sees a scan's answer so
unnamed_scan : (goal : Goal) (text : List ℕ) (l : Language) (at : ℕ) (r : Result Scanned ScanFault) → ((t : LexicalToken) → Reads text goal at t → t.class ≢ IdentifierName) → Ahead goal (base_text text) at r → Ahead goal (record { bytes = text; language = l }) at r
unnamed_scan goal text l at (Ok t) none a =
    let same = a.seen ∙ sym (seen_base a.scanned) in
    as_seen goal text l at (token_of t) a (token_of t) (seen_unnamed l (token_of t) (none (token_of t) (subst (Reads text goal at) (sym same) a.read)))
unnamed_scan goal text l at (Err f) none a = a

-- what begins with neither `/` nor `}` is read by each goal
pub ahead_by : (text : SourceText) (goal : Goal) (at : ℕ) (t : LexicalToken) → IsUtf8 text.bytes → IsPlace text.bytes at → depends t.text ≡ false → IsAhead Div text at t → IsAhead goal text at t
ahead_by text goal at t utf8 p d a = record {
  scanned = a.scanned;
  read = moved text.bytes Div goal at a.scanned utf8 p (ap (λ (y : LexicalToken). depends y.text) (sym a.seen) ∙ d) a.read;
  seen = a.seen;
  begins = a.begins;
  ordered = a.ordered;
  goes_on = a.goes_on;
  start_place = a.start_place;
  stop_place = a.stop_place;
  string = a.string;
}

-- the word `await`, and all else, as a language of 2022 sees them
pub await_seen : (t : LexicalToken) → is_token IdentifierName (codes "await") (as_read t) ≡ true → (l : Language) → is_of_2022 l ≡ true → record t { class = Keyword } ≡ seen_in l t
unfolding is_keyword
await_seen t h l of_2022 = by t.class t.text h where
  seen : (b c : Bool) (w : List ℕ) → b ≡ true → c ≡ true → record t { class = Keyword; text = w } ≡ record t { class = cond (b && (c || false)) Keyword IdentifierName; text = w }
  seen true true w e f = refl
  seen false c w e f = cc
  seen true false w e f = cc

  by : (c : TokenClass) (w : List ℕ) → (same_class IdentifierName c && bytes_eq (table_text c w) (codes "await")) ≡ true → record t { class = Keyword; text = w } ≡ seen_in l (record t { class = c; text = w })
  by IdentifierName w h = seen (is_of_2022 l) (is w "await") w of_2022 h
  by _ w h = cc

pub seen_otherwise : (t : LexicalToken) → is_token IdentifierName (codes "await") (as_read t) ≡ false → (l : Language) → t ≡ seen_in l t
unfolding is_keyword
seen_otherwise t h l = by t.class t.text h where
  seen : (b c : Bool) (w : List ℕ) → c ≡ false → record t { class = IdentifierName; text = w } ≡ record t { class = cond (b && (c || false)) Keyword IdentifierName; text = w }
  seen true false w f = refl
  seen false false w f = refl
  seen b true w f = cc

  by : (c : TokenClass) (w : List ℕ) → (same_class IdentifierName c && bytes_eq (table_text c w) (codes "await")) ≡ false → record t { class = c; text = w } ≡ seen_in l (record t { class = c; text = w })
  by IdentifierName w h = seen (is_of_2022 l) (is w "await") w h
  by c w h = refl

-- a name is read by the goal Div too
name_by_div : (text : List ℕ) (goal : Goal) (at : ℕ) (t : LexicalToken) → Reads text goal at t → t.class ≡ IdentifierName → Reads text Div at t
name_by_div text goal at t x e = by_goal Div x (subst (λ c. IsTrue (allows Div c x.word)) (sym e) (div_allows true x.word))

-- what begins with `/` or `}` is no name
name_begins : (text : List ℕ) (at : ℕ) (t : LexicalToken) → IsUtf8 text → IsPlace text at → Reads text Div at t → depends t.text ≡ true → t.class ≢ IdentifierName
name_begins text at t u p x d e =
    let m = div_reads text Div at t u p d x in
    let same = (determined Div at (behind text at) m.token t (behind text m.token.stop) (behind text t.stop) m.read x).0 in
    apart (sym m.class ∙ ap (λ (y : LexicalToken). y.class) same ∙ e)
  where
    apart : TokenClass.Punctuator ≡ IdentifierName → ⊥
    apart h = cc

-- where Div reads none, or what begins with `/` or `}`, no goal reads a name
pub scan_again : (goal : Goal) (text : SourceText) (at : ℕ) (r s : Result Scanned ScanFault) → IsUtf8 text.bytes → IsPlace text.bytes at → IfOk r (λ t. depends (token_of t).text ≡ true) →
    Ahead Div text at r → Ahead goal (base_text text.bytes) at s → Ahead goal text at s
scan_again goal text at (Ok u) s utf8 p d a b = unnamed_scan goal text.bytes text.language at s none b where
  none : (t : LexicalToken) → Reads text.bytes goal at t → t.class ≢ IdentifierName
  none t x e =
      let y = name_by_div text.bytes goal at t x e in
      let same = (determined Div at (behind text.bytes at) a.scanned t (behind text.bytes a.scanned.stop) (behind text.bytes t.stop) a.read y).0 in
      name_begins text.bytes at t utf8 p y (ap (λ (z : LexicalToken). depends z.text) (sym same) ∙ ap (λ (z : LexicalToken). depends z.text) (sym a.seen) ∙ d) e
scan_again goal text at (Err f) s utf8 p d a b = unnamed_scan goal text.bytes text.language at s (λ t x e. a.0 t (name_by_div text.bytes goal at t x e)) b

-- where the token ahead is the end, the goal reads no other
pub only_end : (text : SourceText) (goal : Goal) (at : ℕ) (u : LexicalToken) → IsAhead goal text at u → u.class ≡ End → OnlyEnd goal text at
only_end text goal at u a e t h =
    let same = (determined goal at (behind text.bytes at) t a.scanned (behind text.bytes t.stop) (behind text.bytes a.scanned.stop) h a.read).0 in
    ap (λ (x : LexicalToken). x.class) same ∙ end_scanned text.language a.scanned.class a.scanned.text (ap (λ (x : LexicalToken). x.class) (sym a.seen) ∙ e)
  where
    end_scanned : (l : Language) (c : TokenClass) (w : List ℕ) → class_in l c w ≡ End → c ≡ End
    end_scanned l IdentifierName w h = by _ h where
      by : (b : Bool) → cond b Keyword IdentifierName ≡ End → IdentifierName ≡ End
      by true h = cc
      by false h = cc
    end_scanned l c w h = h

-- where a text begins, in a language of 2022 and in the base profile
pub begins_behind : (l : Language) (text : List ℕ) (at : ℕ) → is_of_2022 l ≡ true → at ≡ size (hashbang (chars text)) → record beginning { stop = at } ≡ beginning_in l text
begins_behind Script text at h e = ap (λ n. record beginning { stop = n }) e
begins_behind Module text at h e = ap (λ n. record beginning { stop = n }) e
begins_behind Base text at h e = cc

pub begins_first : (l : Language) (text : List ℕ) (at : ℕ) → is_of_2022 l ≡ false → at ≡ 0 → record beginning { stop = at } ≡ beginning_in l text
begins_first Base text at h e = ap (λ n. record beginning { stop = n }) e
begins_first Script text at h e = cc
begins_first Module text at h e = cc
