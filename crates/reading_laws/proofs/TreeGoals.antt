-- A reading that spells a tree is the reading of the text by the tree: at the place of each of its tokens the tree gives a goal that reads it.
use Rattle.std.proofs.Common.{◌≡◌, ℕ, ◌+◌, ◌<◌, ◌≤◌, suc, Bool, true, false, cond, not, ◌&&◌, ◌||◌, ◌==◌, List, [], ◌∷◌, refl, sym, ap, ◌∙◌, subst, arith}
use Rattle.std.specs.Prelude.{IsTrue, map, if◌then◌else◌, nat_eq, nat_le}
use Rattle.std.specs.Str.{chars}
use Rattle.std.specs.Bool.{beq}
use Rattle.std.specs.List.{list_any}
use Rattle.std.proofs.Math.Bool.{and-false, or-false}
use Rattle.std.proofs.lemmas.Bool.{eq-eqb, ne_eqb, eqb-true, true≢false, false≢true}
use Rattle.std.proofs.lemmas.Str.{len_utf8_bounds}
use Rattle.tokens.specs.declared.token.TokenClass.{TokenClass}
use Rattle.tokens.specs.declared.token.TokenClass.TheVariants.{IdentifierName, Punctuator, NumericLiteral, StringLiteral, Template, RegularExpressionLiteral, PrivateName, Keyword, End}
use Rattle.tokens.specs.declared.token.Goal.{Goal}
use Rattle.tokens.specs.declared.token.Goal.TheVariants as goal
use Rattle.tokens.specs.Alphabet.{one_of, begins_with}
use Rattle.tokens.specs.Comments.{hashbang}
use Rattle.tokens.specs.Lexical.{is_of}
use Rattle.tokens.specs.Reading.{behind}
use Rattle.tokens.specs.Goals.{allows, is_regexp, is_template_part, reads_regexps, reads_template_parts}
use Rattle.tokens.specs.Tokens.{LexicalToken, IsTokenAt, IsReading, is_end, size}
use Rattle.tokens.specs.Tokens as Tokens
use Rattle.tokens.proofs.Classes.{token_is}
use Rattle.tokens.proofs.PassedCharacters.{size_append, size_one}
use Rattle.tree.specs.declared.kind.Kind.{Kind}
use Rattle.tree.specs.declared.kind.Kind.TheVariants.{Program, Literal, TemplateElement}
use Rattle.tree.specs.declared.kind.Flags.{Flags}
use Rattle.tree.specs.declared.kind.Pair.{Pair}
use Rattle.tree.specs.Tree.{Tree, node, Parts, bare, kind_of, text_of}
use Rattle.tree.specs.Flat.{post_order}
use Rattle.language.specs.declared.Language.{Language}
use Rattle.language.specs.declared.Language.TheVariants.{Base, Script, Module}
use Rattle.language.specs.Vocabulary.{is, literal_class}
use Rattle.language.specs.Token.{Token, as_read}
use Rattle.language.specs.Pieces.{script}
use Rattle.language.specs.Grammar.{ways}
use Rattle.language.specs.Forms.{Production}
use Rattle.language.specs.Chosen.{Chosen}
use Rattle.language.specs.Chosen as chosen
use Rattle.language.specs.Derivation.{Spells, direct}
use Rattle.language.specs.Later.{has_later}
use Rattle.language.specs.Languages.{seen_in, beginning_in, is_tree_of}
use Rattle.language.proofs.table.ViewIsComplete.{way_of}
use Rattle.language.proofs.table.EveryWay.{every_way}
use Rattle.reading_laws.specs.TreeReadings.{is_regexp_at, is_element_after, tree_goal, IsTreeReading, last, more, hashbang_line}
use Rattle.reading_laws.specs.Laws.{NextSeen, seen_behind, first_place, SpelledReadingsAreTreeReadings, ReadingsOfOneTreeAreEqual, DerivedTextsHaveOneTreeReading}
use Rattle.reading_laws.proofs.SeenClasses.{same_in}
use Rattle.reading_laws.proofs.DivTable.{is_div_class, may_need_goal}
use Rattle.reading_laws.proofs.TokensOfNodes.{Agrees, spelled}
use Rattle.reading_laws.proofs.TreeReadings.{one_tree_reading}
use Rattle.reading_laws.proofs.ReadingDerivations.{derivations_listed}

-- a token of such a class begins at the place
abbrev begins_at : (TokenClass → Bool) → ℕ → Token → Bool
begins_at test at t = (at == t.start) && test t.class

-- a regular expression

of_slash : (c : ℕ) (cs : List ℕ) → is_regexp (literal_class (c ∷ cs)) ≡ begins_with (one_of "/") (c ∷ cs)
of_slash c cs = by_first (c == 47) refl
  where
    no_regexp : (x z : Bool) → is_regexp (cond x StringLiteral (cond false RegularExpressionLiteral (cond z NumericLiteral IdentifierName))) ≡ false
    no_regexp true z = refl
    no_regexp false true = refl
    no_regexp false false = refl

    by_first : (b : Bool) → (c == 47) ≡ b → is_regexp (literal_class (c ∷ cs)) ≡ (c == 47)
    by_first true h = ap (λ d. is_regexp (literal_class (d ∷ cs))) (eqb-true c 47 h) ∙ sym h
    by_first false h = ap (λ b. is_regexp (cond (nat_eq c 34 || nat_eq c 39) StringLiteral (cond b RegularExpressionLiteral (cond (nat_eq c 46 || (nat_le 48 c && nat_le c 57)) NumericLiteral IdentifierName)))) h ∙ no_regexp _ _ ∙ sym h

slash_class : (w : List ℕ) → is_regexp (literal_class w) ≡ begins_with (one_of "/") w
slash_class [] = refl
slash_class (c ∷ cs) = of_slash c cs

no_template : (w : List ℕ) → is_template_part (literal_class w) ≡ false
no_template w = of _ _ _
  where
    of : (x y z : Bool) → is_template_part (cond x StringLiteral (cond y RegularExpressionLiteral (cond z NumericLiteral IdentifierName))) ≡ false
    of true y z = refl
    of false true z = refl
    of false false true = refl
    of false false false = refl

div_no_regexp : (c : TokenClass) → is_div_class c ≡ true → is_regexp c ≡ false
div_no_regexp RegularExpressionLiteral h = absurd (false≢true h)
div_no_regexp Keyword h = refl
div_no_regexp _ h = refl

div_no_template : (c : TokenClass) → is_div_class c ≡ true → is_template_part c ≡ false
div_no_template Template h = absurd (false≢true h)
div_no_template _ h = refl

none_there : (at : ℕ) (test : TokenClass → Bool) (t : Token) → test t.class ≡ false → begins_at test at t ≡ false
none_there at test t h = ap (λ z. (at == t.start) && z) h ∙ and-false (at == t.start)

regexps_agree : (at : ℕ) → Agrees (is_regexp_at at) (begins_at is_regexp at)
regexps_agree at = record {
  other = other;
  div = λ t h. none_there at is_regexp t (div_no_regexp t.class h);
  literal = λ w g s e ps t k b. (λ i. (at == b i) && (ap is_regexp k ∙ slash_class w) i);
  element = λ w g s e ps t k b. none_there at is_regexp t (ap is_regexp k);
}
  where
    other : (n : Tree) → may_need_goal (kind_of n) ≡ false → is_regexp_at at n ≡ false
    other (node Literal w g s e ps) h = absurd (true≢false h)
    other (node _ w g s e ps) h = refl

-- an element of a template

one_later : (at start : ℕ) → (at == start) ≡ (suc at == start + 1)
one_later at start = of (at == start) refl
  where
    of : (b : Bool) → (at == start) ≡ b → (at == start) ≡ (suc at == start + 1)
    of true h = let e = eqb-true at start h in h ∙ sym (eq-eqb (suc at) (start + 1) (omega arith))
    of false h = h ∙ sym (ne_eqb (suc at) (start + 1) (λ e. false≢true (sym h ∙ eq-eqb at start (omega arith))))

elements_agree : (at : ℕ) → Agrees (is_element_after at) (begins_at is_template_part at)
elements_agree at = record {
  other = other;
  div = λ t h. none_there at is_template_part t (div_no_template t.class h);
  literal = λ w g s e ps t k b. none_there at is_template_part t (ap is_template_part k ∙ no_template w);
  element = λ w g s e ps t k b. ap (λ z. (at == t.start) && is_template_part z) k ∙ same (at == t.start) ∙ one_later at t.start ∙ ap (λ z. suc at == z) b;
}
  where
    other : (n : Tree) → may_need_goal (kind_of n) ≡ false → is_element_after at n ≡ false
    other (node TemplateElement w g s e ps) h = absurd (true≢false h)
    other (node _ w g s e ps) h = refl

    same : (b : Bool) → (b && true) ≡ b
    same true = refl
    same false = refl

-- the places of a reading's tokens ascend

not_end : (c : TokenClass) → IsTrue (not (is_end c)) → IsTrue (is_of c []) → ⊥
not_end End h k = false≢true h
not_end IdentifierName h k = false≢true k
not_end Punctuator h k = false≢true k
not_end NumericLiteral h k = false≢true k
not_end StringLiteral h k = false≢true k
not_end Template h k = false≢true k
not_end RegularExpressionLiteral h k = false≢true k
not_end PrivateName h k = false≢true k
not_end Keyword h k = false≢true k

goes_forward : {g : Goal} {at : ℕ} {cs : List ℕ} {t : LexicalToken} {rest : List ℕ} → IsTokenAt g at cs t rest → IsTrue (not (is_end t.class)) → t.start < t.stop
goes_forward {t = t} {rest = rest} x h = of x.word (token_is t.class x.word rest x.longest) x.stop
  where
    of : (w : List ℕ) → IsTrue (is_of t.class w) → t.stop ≡ t.start + size w → t.start < t.stop
    of [] k e = absurd (not_end t.class h k)
    of (c ∷ cs) k e =
        let s = size_append (c ∷ []) cs in
        let o = size_one c in
        let b = (len_utf8_bounds c).0 in
        omega arith

not_before : {g : Goal} {at : ℕ} {cs : List ℕ} {t : LexicalToken} {rest : List ℕ} → IsTokenAt g at cs t rest → at ≤ t.start
not_before x = let s = x.start in omega arith

elsewhere : (test : TokenClass → Bool) (at : ℕ) (t : Token) → (at ≡ t.start → ⊥) → begins_at test at t ≡ false
elsewhere test at t h = ap (λ z. z && test t.class) (ne_eqb at t.start h)

-- none of them begins before the place from which it is read
none_before : (test : TokenClass → Bool) (place : ℕ) {at : ℕ} {cs : List ℕ} {ts : List LexicalToken} → place < at → IsReading at cs ts → list_any (begins_at test place) (map as_read ts) ≡ false
none_before test place l (Tokens.last {token = t} g x e) = let u = not_before x in ap (λ z. z || false) (elsewhere test place (as_read t) (λ h. omega arith))
none_before test place l (Tokens.more {token = t} g x e r) =
    let u = not_before x in
    let v = goes_forward x e in
    (λ i. elsewhere test place (as_read t) (λ h. omega arith) i || none_before test place (omega arith) r i)

-- so at the first token's place there is that token alone
here : (test : TokenClass → Bool) (t : Token) → begins_at test t.start t ≡ test t.class
here test t = ap (λ z. z && test t.class) (eq-eqb t.start t.start refl)

first_alone : (test : TokenClass → Bool) {at : ℕ} {cs : List ℕ} {t : LexicalToken} {ts : List LexicalToken} → IsReading at cs (t ∷ ts) → list_any (begins_at test t.start) (map as_read (t ∷ ts)) ≡ test t.class
first_alone test (Tokens.last {token = t} g x e) = or-false _ ∙ here test (as_read t)
first_alone test (Tokens.more {token = t} g x e r) = (λ i. here test (as_read t) i || none_before test t.start (goes_forward x e) r i) ∙ or-false (test t.class)

-- the goal that a token's class names allows it
class_allowed : (c : TokenClass) (w : List ℕ) → IsTrue (allows (if is_regexp c then goal.RegExp else if is_template_part c then goal.TemplateTail else goal.Div) c w)
class_allowed c w = of c (begins_with (one_of "/") w) (begins_with (one_of "}") w)
  where
    of : (c : TokenClass) (x y : Bool) →
        let g : Goal = if is_regexp c then goal.RegExp else if is_template_part c then goal.TemplateTail else goal.Div in
        IsTrue (if x then beq (is_regexp c) (reads_regexps g) else if y then beq (is_template_part c) (reads_template_parts g) else true)
    of RegularExpressionLiteral true y = refl
    of Keyword true y = refl
    of RegularExpressionLiteral false true = refl
    of Keyword false true = refl
    of RegularExpressionLiteral false false = refl
    of Keyword false false = refl
    of Template true y = refl
    of Template false true = refl
    of Template false false = refl
    of _ true y = refl
    of _ false true = refl
    of _ false false = refl

by_goal : {g h : Goal} {at : ℕ} {cs : List ℕ} {t : LexicalToken} {rest : List ℕ} (x : IsTokenAt g at cs t rest) → IsTrue (allows h t.class x.word) → IsTokenAt h at cs t rest
by_goal x a = record { gap = x.gap; word = x.word; split = x.split; separated = x.separated; no_comment = x.no_comment; longest = x.longest; allowed = a; text = x.text; start = x.start; stop = x.stop; after_break = x.after_break }

-- at each place the tree's nodes tell which tokens are there
record Told (n : Tree) (all : List Token) : Type 0 where
  regexps : (at : ℕ) → list_any (is_regexp_at at) (post_order n) ≡ list_any (begins_at is_regexp at) all
  elements : (at : ℕ) → list_any (is_element_after at) (post_order n) ≡ list_any (begins_at is_template_part at) all

module _ (n : Tree) (all : List Token) (told : Told n all) where
  -- from a place on all tokens are these
  abbrev AreLast : ℕ → List LexicalToken → Type 0
  AreLast at ts = (test : TokenClass → Bool) (place : ℕ) → at ≤ place → list_any (begins_at test place) all ≡ list_any (begins_at test place) (map as_read ts)

  allowed : {at : ℕ} {cs : List ℕ} {t : LexicalToken} {ts : List LexicalToken} → AreLast at (t ∷ ts) → IsReading at cs (t ∷ ts) → at ≤ t.start → (w : List ℕ) → IsTrue (allows (tree_goal n t.start) t.class w)
  allowed {t = t} k r l w =
      let x = told.regexps t.start ∙ k is_regexp t.start l ∙ first_alone is_regexp r in
      let y = told.elements t.start ∙ k is_template_part t.start l ∙ first_alone is_template_part r in
      ap (λ z. allows z t.class w) (λ i. if x i then goal.RegExp else if y i then goal.TemplateTail else goal.Div) ∙ class_allowed t.class w

  by_tree : {at : ℕ} {cs : List ℕ} {ts : List LexicalToken} → AreLast at ts → IsReading at cs ts → IsTreeReading n at cs ts
  by_tree k (Tokens.last g x e) = last (by_goal x (allowed k (Tokens.last g x e) (not_before x) x.word)) e
  by_tree {at} k (Tokens.more {token = t} {tokens = ts} g x e r) = more (by_goal x (allowed k (Tokens.more g x e r) (not_before x) x.word)) e (by_tree later r)
    where
      later : AreLast t.stop ts
      later test place l =
          let u = not_before x in
          let v = goes_forward x e in
          k test place (omega arith) ∙ ap (λ z. z || list_any (begins_at test place) (map as_read ts)) (elsewhere test place (as_read t) (λ h. omega arith))

-- a language makes no token one of the other classes
seen_there : (language : Language) (test : TokenClass → Bool) (at : ℕ) → test Keyword ≡ test IdentifierName → (ts : List Token) → list_any (λ t. begins_at test at (seen_in language t)) ts ≡ list_any (begins_at test at) ts
seen_there language test at h [] = refl
seen_there language test at h (t ∷ ts) = (λ i. ((at == t.start) && same_in language test h t.class t.text i) || seen_there language test at h ts i)

all_told : (language : Language) (n : Tree) (first final : Token) (ts : List Token) {o : ℕ} {P : List Pair} → Spells ways (List Token) (NextSeen language) (seen_behind language) o script n (first ∷ ts) (final ∷ []) P → Told n ts
all_told language n first final ts d = record {
  regexps = λ at. sym (or-false _) ∙ sym (spelled language (is_regexp_at at) (begins_at is_regexp at) (regexps_agree at) d) ∙ seen_there language is_regexp at refl ts;
  elements = λ at. sym (or-false _) ∙ sym (spelled language (is_element_after at) (begins_at is_template_part at) (elements_agree at) d) ∙ seen_there language is_template_part at refl ts;
}

-- a tree that a language spells says where the language begins to read

is_program : {w : List ℕ} {g : Flags} {ps : Parts} {k : Kind} {p : Production} → Chosen w g ps script k p → k ≡ Program
is_program (chosen.whole_script h) = refl
is_program (chosen.whole_module h) = refl
is_program (chosen.of_statement s c) = elim s [ ]
is_program (chosen.of_declaration s c) = elim s [ ]

program_spelled : (language : Language) (n : Tree) {o : ℕ} {s e : List Token} {P : List Pair} → Spells ways (List Token) (NextSeen language) (seen_behind language) o script n s e P → kind_of n ≡ Program
program_spelled language (node k w g st en ps) (direct qs h p d) = is_program (every_way script (bare (node k w g st en ps)) ((way_of h).listed)).chosen

base_line : (text : List ℕ) (n : Tree) → kind_of n ≡ Program → is_tree_of Base n ≡ true → size (hashbang_line n text) ≡ 0
unfolding has_later
base_line text (node Program [] g st en ps) k h = refl
base_line text (node Program (c ∷ cs) g st en ps) k h = absurd (false≢true h)
base_line text (node _ w g st en ps) k h = absurd (cc)

first_of_tree : (language : Language) (text : List ℕ) (n : Tree) → kind_of n ≡ Program → is_tree_of language n ≡ true → size (hashbang_line n text) ≡ first_place language text
first_of_tree Base text n k h = base_line text n k h
first_of_tree Script text n k h = ap (λ b. size (cond (b || is (text_of n) "module") (hashbang (chars text)) [])) h
first_of_tree Module text n k h = of (is (text_of n) "2022") (is (text_of n) "module") h
  where
    of : (a b : Bool) → b ≡ true → size (cond (a || b) (hashbang (chars text)) []) ≡ size (hashbang (chars text))
    of true b h = refl
    of false b h = ap (λ x. size (cond x (hashbang (chars text)) [])) h

pub spelled_by_tree : SpelledReadingsAreTreeReadings
spelled_by_tree language o text n P r =
    let first = beginning_in language text in
    let told = all_told language n first r.final (map as_read r.tokens) r.spelled in
    subst (λ at. IsTreeReading n at (behind text at) r.tokens) (sym (first_of_tree language text n (program_spelled language n r.spelled) r.of_language)) (by_tree n (map as_read r.tokens) told (λ test place l. refl) r.reading)

-- and the readings of one tree begin at one place
pub readings_of_one_tree : ReadingsOfOneTreeAreEqual
readings_of_one_tree l m o p text n P Q a b =
    let at = size (hashbang_line n text) in
    one_tree_reading n at (behind text at) a.tokens b.tokens (spelled_by_tree l o text n P a) (spelled_by_tree m p text n Q b)

pub one_tree_reading_of_derived : DerivedTextsHaveOneTreeReading
one_tree_reading_of_derived language o text n P d =
    let r = derivations_listed language o text n P d in
    let at = size (hashbang_line n text) in
    record { spelled = r; by_tree = spelled_by_tree language o text n P r; only = λ tokens t. one_tree_reading n at (behind text at) tokens r.tokens t (spelled_by_tree language o text n P r) }
