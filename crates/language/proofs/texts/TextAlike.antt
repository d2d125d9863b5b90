-- At a text's own places what one goal reads begins with `}` where what another reads does.
use Rattle.std.proofs.Common.{◌≡◌, inl, inr, ℕ, Bool, true, subst, List, [], ◌∷◌, ◌++◌, refl, sym, ap, ◌∙◌, arith, append_assoc}
use Rattle.std.specs.Prelude.{IsTrue, ◌⊎◌}
use Rattle.std.proofs.lemmas.Bool.{false≢true}
use Rattle.std.proofs.lemmas.Bool.Decides.{nat_tests}
use Rattle.tokens.specs.declared.token.TokenClass.{TokenClass}
use Rattle.tokens.specs.declared.token.TokenClass.TheVariants.{IdentifierName, Punctuator, NumericLiteral, StringLiteral, Template, RegularExpressionLiteral, PrivateName, Keyword, End}
use Rattle.tokens.specs.declared.token.Goal.{Goal}
use Rattle.tokens.specs.Alphabet.{one_of, begins_with}
use Rattle.tokens.specs.Lexical.{is_token}
use Rattle.tokens.specs.Tokens.{LexicalToken, IsTokenAt}
use Rattle.tokens.specs.Reading.{any_goal}
use Rattle.tokens.specs.TokenStarts.{class_of}
use Rattle.tokens.specs.Reading.{behind}
use Rattle.tokens.proofs.Classes.{token_is, token_may, class_fits}
use Rattle.language.specs.Token.{Token, table_text, as_read}
use Rattle.language.specs.Places.{NextIn, next_in, itself}
use Rattle.language.specs.Following.{IsAlike}
use Rattle.language.proofs.texts.TextOffsets.{begins_same, turned_same, same_gap}

pub cancel : (g a b : List ℕ) → g ++ a ≡ g ++ b → a ≡ b
cancel [] a b h = h
cancel (c ∷ g) a b h = cancel g a b (cc)

-- what stands at a token's place begins as the token does
pub word_begins : (test : ℕ → Bool) (class : TokenClass) (word rest : List ℕ) → IsTrue (is_token class word rest) → begins_with test (word ++ rest) ≡ begins_with test word
word_begins test class (c ∷ cs) rest h = refl
word_begins test End [] [] h = refl
word_begins test End [] (c ∷ rest) h = let u = token_may End [] (c ∷ rest) h in cc
word_begins test IdentifierName [] rest h = let u = token_is IdentifierName [] rest h in cc
word_begins test Punctuator [] rest h = let u = token_is Punctuator [] rest h in cc
word_begins test NumericLiteral [] rest h = let u = token_is NumericLiteral [] rest h in cc
word_begins test StringLiteral [] rest h = let u = token_is StringLiteral [] rest h in cc
word_begins test Template [] rest h = let u = token_is Template [] rest h in cc
word_begins test RegularExpressionLiteral [] rest h = let u = token_is RegularExpressionLiteral [] rest h in cc
word_begins test PrivateName [] rest h = let u = token_is PrivateName [] rest h in cc
word_begins test Keyword [] rest h = let u = token_is Keyword [] rest h in cc

-- and as it is read
table_begins : (c : TokenClass) (w : List ℕ) → begins_with (one_of "}") (table_text c w) ≡ begins_with (one_of "}") w
table_begins Template w = turned_same 125 refl refl w
table_begins _ w = refl

read_begins : {g : Goal} {at : ℕ} {cs : List ℕ} {t : LexicalToken} {rest : List ℕ} (x : IsTokenAt g at cs t rest) → begins_with (one_of "}") (as_read t).text ≡ begins_with (one_of "}") (x.word ++ rest)
read_begins {t = t} {rest = rest} x =
    table_begins t.class t.text ∙ ap (begins_with (one_of "}")) x.text ∙ begins_same 125 (omega arith) x.word ∙ sym (word_begins (one_of "}") t.class x.word rest x.longest)

pub same_rest : {g h : Goal} {at : ℕ} {cs : List ℕ} {a b : LexicalToken} {ra rb : List ℕ} (x : IsTokenAt g at cs a ra) (y : IsTokenAt h at cs b rb) → x.word ++ ra ≡ y.word ++ rb
same_rest {ra = ra} {rb = rb} x y = cancel x.gap (x.word ++ ra) (y.word ++ rb) (sym (append_assoc x.gap x.word ra) ∙ sym x.split ∙ y.split ∙ append_assoc y.gap y.word rb ∙ ap (λ g. g ++ (y.word ++ rb)) (sym (same_gap x y)))

same_brace : (text : List ℕ) (s a b e f : Token) → NextIn text any_goal s a e → NextIn text any_goal s b f → begins_with (one_of "}") a.text ≡ begins_with (one_of "}") b.text
same_brace text s a b e f (next_in goal any x) (next_in other any' y) = read_begins x ∙ ap (begins_with (one_of "}")) (same_rest x y) ∙ sym (read_begins y)

is_brace : (c : ℕ) → one_of "}" c ≡ true → c ≡ 125
is_brace c h = grind (arith, nat_tests)

-- the class of what begins with `}`, by a goal
goal_class : (g : Goal) (cs : List ℕ) → (class_of g (125 ∷ cs) ≡ Punctuator) ⊎ (class_of g (125 ∷ cs) ≡ Template)
goal_class Goal.Div cs = inl refl
goal_class Goal.RegExp cs = inl refl
goal_class Goal.TemplateTail cs = inr refl

brace_class : (g : Goal) (cs : List ℕ) → begins_with (one_of "}") cs ≡ true → (class_of g cs ≡ Punctuator) ⊎ (class_of g cs ≡ Template)
brace_class g [] h = absurd (false≢true h)
brace_class g (c ∷ cs) h = subst (λ z. (class_of g (z ∷ cs) ≡ Punctuator) ⊎ (class_of g (z ∷ cs) ≡ Template)) (sym (is_brace c h)) (goal_class g cs)

as_either : {k l : TokenClass} → k ≡ l → (l ≡ Punctuator) ⊎ (l ≡ Template) → (k ≡ Punctuator) ⊎ (k ≡ Template)
as_either e (inl h) = inl (e ∙ h)
as_either e (inr h) = inr (e ∙ h)

brace_sort : (text : List ℕ) (s a e : Token) → NextIn text any_goal s a e → begins_with (one_of "}") a.text ≡ true → (a.class ≡ Punctuator) ⊎ (a.class ≡ Template)
brace_sort text s a e (next_in {t = t} goal any x) h =
    as_either (class_fits goal t.class x.word (behind text t.stop) x.longest x.allowed) (brace_class goal (x.word ++ behind text t.stop) (sym (read_begins x) ∙ h))

-- so they begin alike
pub text_alike : (text : List ℕ) → IsAlike Token (NextIn text any_goal) itself
text_alike text = record { brace = same_brace text; sort = brace_sort text }
