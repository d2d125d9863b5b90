-- Classes of tokens that no language changes, and right edges behind seen tokens.
use Rattle.std.proofs.Common.{◌≡◌, ℕ, Bool, true, false, cond, List, refl, ap, sym, ◌∙◌, subst}
use Rattle.std.specs.Prelude.{◌&&◌}
use Rattle.std.proofs.lemmas.Bool.{false≢true}
use Rattle.tokens.specs.declared.token.TokenClass.{TokenClass}
use Rattle.tokens.specs.declared.token.TokenClass.TheVariants.{IdentifierName, Keyword}
use Rattle.language.specs.declared.Language.{Language}
use Rattle.language.specs.Vocabulary.{is_keyword}
use Rattle.language.specs.Languages.{is_of_2022, class_in}
use Rattle.language.specs.declared.Edge.{Edge}
use Rattle.language.specs.declared.Edge.TheVariants.{Arrow, Postfix, Other, Closed}
use Rattle.language.specs.Edges.{edge_as_written}
use Rattle.language.specs.Token.{Token}
use Rattle.token_cursor.specs.SourceText.{SourceText, SeenNext, behind_in}
use Rattle.language.specs.Derivation.{Reads}
use Rattle.token_cursor.specs.Seen.{ReadsHere}
use Rattle.token_cursor.proofs.SeenTokens.{seen_determined}

-- neither a name nor a keyword
abbrev pub is_steady : TokenClass → Bool
is_steady IdentifierName = false
is_steady Keyword = false
is_steady _ = true

either : (b : Bool) (d : TokenClass) → is_steady d ≡ true → cond b Keyword IdentifierName ≡ d → IdentifierName ≡ d
either true d h e = absurd (false≢true (ap is_steady e ∙ h))
either false d h e = e

-- a token that is seen in such a class is of that class
pub steady_class : (l : Language) (c d : TokenClass) (w : List ℕ) → is_steady d ≡ true → class_in l c w ≡ d → c ≡ d
steady_class l IdentifierName d w h e = either (is_of_2022 l && is_keyword w) d h e
steady_class l c d w h e = e

-- what is seen as a name is one
pub seen_name : (l : Language) (c : TokenClass) (w : List ℕ) → class_in l c w ≡ IdentifierName → c ≡ IdentifierName
seen_name l IdentifierName w h = refl
seen_name l c w h = h

-- and so is one whose class is such
pub same_class_in : (l : Language) (c : TokenClass) (w : List ℕ) → is_steady c ≡ true → class_in l c w ≡ c
same_class_in l IdentifierName w h = absurd (false≢true h)
same_class_in l c w h = refl

-- a right edge as it stands is told by the text alone
pub edge_seen : (text : SourceText) (x : Edge) (e : Token) → edge_as_written x (behind_in text e) ≡ edge_as_written x e
edge_seen text Arrow e = refl
edge_seen text Postfix e = refl
edge_seen text Other e = refl
edge_seen text Closed e = refl

-- a token that is read up to a place is the one behind which that place is
pub as_here : (text : SourceText) {c : TokenClass} {w : List ℕ} {s t e : Token} → Reads Token (SeenNext text) (behind_in text) c w s t e → ReadsHere text c w s e
as_here text {c} {w} {s} {t} {e} r = subst (λ x. Reads Token (SeenNext text) (behind_in text) c w s x e) (sym ((seen_determined text).last s t e r.next)) r

-- a place that is seen as a name is the token itself
pub name_place : (text : SourceText) (e : Token) → (behind_in text e).class ≡ IdentifierName → behind_in text e ≡ e
name_place text e h = λ i. record e { class = (h ∙ sym (seen_name text.language e.class e.text h)) i }
