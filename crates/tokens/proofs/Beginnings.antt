-- Where no token begins: a test that computes, for the examples.
use Rattle.std.proofs.Common.{◌≡◌, ℕ, Bool, true, false, not, ◌&&◌, ◌||◌, List, [], ◌∷◌, ◌++◌, IsTrue, IsFalse, refl, sym, ◌∙◌, subst, append_assoc, append-nil, arith}
use Rattle.std.proofs.lemmas.Bool.Decides.{nat_tests}
use Rattle.source_text.specs.Lines.{is_line_terminator}
use Rattle.tokens.specs.Alphabet.{begins_with, is_white_space}
use Rattle.tokens.specs.Comments.{begins_comment, is_comment, Separators, nothing, blank, comment}
use Rattle.tokens.specs.Lexical.{LexicalClass, IdentifierName, Punctuator, NumericLiteral, StringLiteral, Template, RegularExpressionLiteral, PrivateName, Keyword, End, is_token}
use Rattle.tokens.specs.Goals.{Goal, allows}
use Rattle.tokens.specs.Tokens.{LexicalToken, IsTokenAt}

-- some front of the characters, behind `before`, which belongs to it, passes the test beside what follows it
abbrev pub has_front : (List ℕ → List ℕ → Bool) → List ℕ → List ℕ → Bool
has_front test before [] = test before []
has_front test before (c ∷ cs) = test before (c ∷ cs) || has_front test (before ++ c ∷ []) cs

pub or_left : (a b : Bool) → IsTrue a → IsTrue (a || b)
or_left true b h = refl
or_left false b h = cc

pub or_right : (a b : Bool) → IsTrue b → IsTrue (a || b)
or_right true b h = refl
or_right false b h = h

pub true_false : (b : Bool) → IsTrue b → IsFalse b → ⊥
true_false true h k = cc
true_false false h k = cc

pub front_found : (test : List ℕ → List ℕ → Bool) (before word rest : List ℕ) → IsTrue (test (before ++ word) rest) → IsTrue (has_front test before (word ++ rest))
front_found test before [] [] h = let P : List ℕ → Type 0 = λ w. IsTrue (test w []) in subst P (append-nil before) h
front_found test before [] (c ∷ rest) h = let P : List ℕ → Type 0 = λ w. IsTrue (test w (c ∷ rest)) in or_left _ _ (subst P (append-nil before) h)
front_found test before (c ∷ word) rest h =
    let P : List ℕ → Type 0 = λ w. IsTrue (test w rest) in
    or_right _ _ (front_found test (before ++ c ∷ []) word rest (subst P (sym (append_assoc before (c ∷ []) word)) h))

-- neither white space, nor a line terminator, nor a comment stands next
abbrev pub has_separator : List ℕ → Bool
has_separator cs = begins_with (λ c. is_white_space c || is_line_terminator c) cs || has_front is_comment [] cs

pub no_gap : {gap rest : List ℕ} → Separators gap rest → IsFalse (has_separator (gap ++ rest)) → gap ≡ []
no_gap nothing solid = refl
no_gap (blank h s) solid = absurd (true_false _ (or_left _ _ h) solid)
no_gap (comment {gap = gap} {rest = rest} body behind e h s) solid =
    let P : List ℕ → Type 0 = λ cs. IsTrue (has_front is_comment [] cs) in
    let whole : IsTrue (has_front is_comment [] (body ++ behind ++ rest)) = subst P (sym (append_assoc body behind rest)) (front_found is_comment [] body (behind ++ rest) h) in
    let Q : List ℕ → Type 0 = λ cs. IsTrue (has_front is_comment [] (cs ++ rest)) in
    absurd (true_false _ (or_right _ _ (subst Q (sym e) whole)) solid)

-- a token of the class that the goal allows
abbrev pub is_read : Goal → LexicalClass → List ℕ → List ℕ → Bool
is_read goal class word rest = not (begins_comment (word ++ rest)) && is_token class word rest && allows goal class word

-- no class has one
abbrev pub none_fronts : Goal → List ℕ → Bool
none_fronts goal cs =
    let has : LexicalClass → Bool = λ class. has_front (is_read goal class) [] cs in
    not (has IdentifierName) && not (has Punctuator) && not (has NumericLiteral) && not (has StringLiteral) && not (has Template) && not (has RegularExpressionLiteral) && not (has PrivateName) && not (has Keyword) && not (has End)

pub of_each : (goal : Goal) (cs : List ℕ) → IsTrue (none_fronts goal cs) → (class : LexicalClass) → IsFalse (has_front (is_read goal class) [] cs)
of_each goal cs h IdentifierName = grind (arith, nat_tests)
of_each goal cs h Punctuator = grind (arith, nat_tests)
of_each goal cs h NumericLiteral = grind (arith, nat_tests)
of_each goal cs h StringLiteral = grind (arith, nat_tests)
of_each goal cs h Template = grind (arith, nat_tests)
of_each goal cs h RegularExpressionLiteral = grind (arith, nat_tests)
of_each goal cs h PrivateName = grind (arith, nat_tests)
of_each goal cs h Keyword = grind (arith, nat_tests)
of_each goal cs h End = grind (arith, nat_tests)

pub all_three : (a b c : Bool) → IsTrue a → IsTrue b → IsTrue c → IsTrue (a && b && c)
all_three a b c h k l = grind (arith, nat_tests)

-- where nothing separates and no class has a token in front, none begins
pub none_begins : (goal : Goal) (at : ℕ) (cs : List ℕ) (token : LexicalToken) (rest : List ℕ) → IsFalse (has_separator cs) → IsTrue (none_fronts goal cs) →
    IsTokenAt goal at cs token rest → ⊥
none_begins goal at cs token rest solid none t =
    let shape : cs ≡ t.gap ++ (t.word ++ rest) = t.split ∙ append_assoc t.gap t.word rest in
    let B : List ℕ → Type 0 = λ ds. IsFalse (has_separator ds) in
    let D : List ℕ → Type 0 = λ gap. cs ≡ gap ++ (t.word ++ rest) in
    let here : cs ≡ t.word ++ rest = subst D (no_gap t.separated (subst B shape solid)) shape in
    let E : List ℕ → Type 0 = λ ds. IsTrue (has_front (is_read goal token.class) [] ds) in
    true_false _ (subst E (sym here) (front_found (is_read goal token.class) [] t.word rest (all_three _ _ _ t.no_comment t.longest t.allowed))) (of_each goal cs none token.class)
