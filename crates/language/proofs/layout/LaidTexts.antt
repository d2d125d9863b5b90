-- The fixed text of what a text spells in a language spells it in the language.
use Rattle.std.proofs.Common.{◌≡◌, ℕ, ◌≤◌, Bool, true, false, cond, not, ◌&&◌, List, [], length, refl, ap, ◌∙◌, subst}
use Rattle.std.specs.Prelude.{IsTrue}
use Rattle.std.specs.Str.{IsUtf8, chars}
use Rattle.std.proofs.lemmas.Bool.{and_parts, false≢true}
use Rattle.source_text.specs.Source.{IsPlace}
use Rattle.tokens.specs.declared.token.TokenClass.{TokenClass}
use Rattle.tokens.specs.declared.token.TokenClass.TheVariants.{IdentifierName, Keyword}
use Rattle.tokens.specs.Comments.{hashbang}
use Rattle.tokens.specs.Lexical.{is_of}
use Rattle.tokens.specs.Tokens.{size}
use Rattle.tokens.specs.Reading.{any_goal}
use Rattle.tokens.proofs.Classes.{token_is}
use Rattle.tree.specs.declared.kind.Pair.{Pair}
use Rattle.tree.specs.Tree.{Tree, SameTree}
use Rattle.language.specs.declared.Language.{Language}
use Rattle.language.specs.declared.Language.TheVariants.{Base, Script, Module}
use Rattle.language.specs.Languages.{is_of_2022, class_in, seen_in, Seen, seen_next, beginning_in}
use Rattle.language.specs.Vocabulary.{is_keyword}
use Rattle.language.specs.Token.{Token}
use Rattle.language.specs.Pieces.{script}
use Rattle.language.specs.Grammar.{ways}
use Rattle.language.specs.Cursor.{beginning}
use Rattle.language.specs.Places.{NextIn, next_in, itself}
use Rattle.language.specs.Derivation.{Reads, Spells}
use Rattle.language.specs.Layout.{wrapped_rows, has_number, fixed_text}
use Rattle.language.specs.LayoutFits.{fits}
use Rattle.language.specs.Printed.{items_text, printed, open_in}
use Rattle.language.proofs.table.Alike.{same}
use Rattle.language.proofs.table.TreesOfWords.{name_stays}
use Rattle.language.proofs.texts.TextOffsets.{text_determined}
use Rattle.language.proofs.texts.DerivedWords.{seen_worded}
use Rattle.language.proofs.layout.DerivedFits.{derived_fits}
use Rattle.language.proofs.layout.WrappedRows.{wrapped_marks}
use Rattle.language.proofs.layout.LaidItems.{fixed_items}
use Rattle.language.proofs.layout.LayoutPairs.{counted_rows}
use Rattle.language.proofs.layout.PrintedSpells.{printed_spells}
use Rattle.language.proofs.layout.ReadItems.{Readable, text_is_read}
use Rattle.language.proofs.layout.ClosingItems.{script_closes}
use Rattle.language.proofs.layout.ReadableScript.{script_readable}
use Rattle.language.proofs.layout.LooseReadings.{Loose}
use Rattle.language.proofs.layout.KeptNames.{spells_kept, kept_same}
use Rattle.language.proofs.layout.ToldNames.{spells_told}
use Rattle.language.proofs.layout.NoHashbang.{no_hashbang}

-- no text has a keyword that no language sees
pub no_keyword : (text : List ℕ) (s t e : Token) → NextIn text any_goal s t e → t.class ≡ Keyword → ⊥
no_keyword text s t e (next_in goal any h) c = false≢true (subst (λ k. IsTrue (is_of k h.word)) c (token_is _ h.word _ h.longest))

pub told_stays : (m : Language) (c : TokenClass) (w : List ℕ) → (c ≡ Keyword → ⊥) → name_stays (is_of_2022 m) (class_in m c w) w ≡ true
told_stays m IdentifierName w n = of (is_of_2022 m && is_keyword w) refl
  where
    of : (b : Bool) → (is_of_2022 m && is_keyword w) ≡ b → name_stays (is_of_2022 m) (cond b Keyword IdentifierName) w ≡ true
    of true h = (and_parts (is_of_2022 m) _ h).0
    of false h = ap not h
told_stays m Keyword w n = absurd (n refl)
told_stays m _ w n = refl

pub read_stays : (m : Language) (text : List ℕ) (c : TokenClass) (w : List ℕ) (s e : Token) (t : Token) → Reads Token (Seen Token (NextIn text any_goal) m) (seen_in m) c w s t e → name_stays (is_of_2022 m) c w ≡ true
read_stays m text c w s e t r = of r.next r.class r.text
  where
    of : {t : Token} → Seen Token (NextIn text any_goal) m s t e → t.class ≡ c → t.text ≡ w → name_stays (is_of_2022 m) c w ≡ true
    of (seen_next {t = t} x) k q = subst (λ v. name_stays (is_of_2022 m) c v ≡ true) q (subst (λ d. name_stays (is_of_2022 m) d t.text ≡ true) k (told_stays m t.class t.text (λ z. no_keyword text s t e x z)))

-- a fixed text spells the tree, with a pair for each wrapped node
pub record Laid (m : Language) (o : ℕ) (n : Tree) : Type 0 where
  pub tree : Tree
  pub pairs : List Pair
  pub last : Token
  pub same_tree : SameTree tree n
  pub spells : Spells ways Token (Seen Token (NextIn (fixed_text n) any_goal) m) (seen_in m) o script tree beginning last pairs
  pub start : beginning_in m (fixed_text n) ≡ beginning
  pub counted : length pairs ≡ length (wrapped_rows n script 1)

no_line : (m : Language) (text : List ℕ) → hashbang (chars text) ≡ [] → beginning_in m text ≡ beginning
no_line Base text h = refl
no_line Script text h = ap (λ cs. record beginning { stop = size cs }) h
no_line Module text h = ap (λ cs. record beginning { stop = size cs }) h

pub laid : (m : Language) (other : List ℕ) (n : Tree) {P : List Pair} {k : ℕ} {s e : Token} → IsUtf8 other → IsPlace other s.stop → Spells ways Token (Seen Token (NextIn other any_goal) m) (seen_in m) k script n s e P →
    (o : ℕ) → open_in (has_number (wrapped_rows n script 1)) n script 1 ≤ o → Laid m o n
laid m other n u p d o low =
    let W = has_number (wrapped_rows n script 1) in
    let is = printed W n script 1 0 in
    let fit : fits W n script 1 ≡ true = derived_fits Token (Seen Token (NextIn other any_goal) m) (seen_in m) W d 1 (wrapped_marks n script 1) in
    let readable : Readable is = script_readable W n fit (seen_worded other u m W d p script same 1 fit) in
    let r = text_is_read is readable (script_closes W n fit) in
    let x = printed_spells Token (Loose Token (NextIn (items_text is) any_goal)) itself W n script 1 0 o fit low r.follows r.goes_on in
    let kept = spells_kept Token (Seen Token (NextIn other any_goal) m) (seen_in m) (is_of_2022 m) (λ c w s e t z. read_stays m other c w s e t z) d in
    let y = spells_told Token (NextIn (items_text is) any_goal) itself m (λ s a b e f g h. (text_determined (items_text is)).start s a b e f g h) (λ s t e g h. no_keyword (items_text is) s t e g h) x.spells (kept_same (is_of_2022 m) x.tree n script x.same kept) in
    record {
      tree = x.tree;
      pairs = x.pairs;
      last = r.last;
      same_tree = x.same;
      spells = subst (λ t. Spells ways Token (Seen Token (NextIn t any_goal) m) (seen_in m) o script x.tree beginning r.last x.pairs) (fixed_items n) y;
      start = no_line m (fixed_text n) (subst (λ t. hashbang (chars t) ≡ []) (fixed_items n) (no_hashbang readable));
      counted = x.counted ∙ counted_rows W n script 1 (wrapped_marks n script 1);
    }
