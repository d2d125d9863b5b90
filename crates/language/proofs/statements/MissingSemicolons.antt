-- Where a `;` stands or may be missing, and what may follow a statement follows, nothing goes on behind the expression before it.
use Rattle.std.proofs.Common.{◌≡◌, ℕ, ◌≤◌, Bool, true, false, cond, List, [], ◌∷◌, refl, sym, ap, ◌∙◌, subst, ◌⊎◌, inl, inr, arith}
use Rattle.std.specs.Prelude.{IsTrue, Some, None, Option, codes, not, ◌&&◌, ◌||◌, nat_eq, slice_index_or}
use Prim.Native.String.{String}
use Rattle.std.proofs.lemmas.Bool.{and_parts, false≢true}
use Rattle.std.proofs.lemmas.Slice.Eq.{bytes_eq-Decides}
use Rattle.tokens.specs.Alphabet.{one_of, begins_with}
use Rattle.tokens.specs.declared.token.TokenClass.{TokenClass}
use Rattle.tokens.specs.declared.token.TokenClass.TheVariants.{IdentifierName, Punctuator, NumericLiteral, StringLiteral, Template, End}
use Rattle.tokens.specs.declared.token.Goal.{Goal}
use Rattle.tokens.specs.declared.token.Goal.TheVariants.{Div}
use Rattle.tokens.specs.Goals.{allows, is_regexp, is_template_part, reads_regexps, reads_template_parts}
use Rattle.std.specs.Bool.{beq}
use Rattle.std.specs.Prelude.{if◌then◌else◌}
use Rattle.std.proofs.lemmas.Bool.Decides.{nat_tests}
use Rattle.language.specs.declared.Rank.{Rank}
use Rattle.language.specs.declared.Edge.{Edge}
use Rattle.language.specs.declared.Edge.TheVariants.{Arrow, Postfix, Other, Closed}
use Rattle.language.specs.Vocabulary.{is, among, takes, precedence, is_reserved, is_word_operator, Operator, op_binary, op_power, op_assign, op_update, op_comma, op_question, op_dot, op_call, op_index, op_optional, op_arrow, op_template, op_none, operator_of}
use Rattle.language.specs.Token.{Token}
use Rattle.language.specs.ExpressionStart.{ExpressionStart, start_punctuators, start_among, no_start}
use Rattle.language.specs.StatementStart.{StatementStart, an_expression, is_own, is_opening, statement_signs, statement_start_among, begins_item}
use Rattle.language.specs.Following.{ends_list, may_follow, IsAlike, Followed}
use Rattle.language.specs.Continuations.{of_class, operation, rank_made_by, holds, stops_at, stops}
use Rattle.language.specs.Edges.{edge_as_written, goes_on, may_omit_semicolon, begins, is_sign, is_end, is_semicolon}
use Rattle.language.specs.Promises.{is_free, IsDetermined, ReadBy}
use Rattle.language.specs.Pieces.{ending}
use Rattle.language.specs.Derivation.{Step, explicit, implicit}
use Rattle.language.proofs.table.Begins.{Each, among_by}
use Rattle.language.proofs.table.OperatorTokens.{op_reads, reads_comma}
use Rattle.language.proofs.table.OperatorFacts.{binding}

-- What a token that may follow a statement makes: nothing; `++` or `--`; a sum or a difference; what an opening bracket or a template makes.
data Makes (c : TokenClass) (w : List ℕ) : Operator → Type 0 where
  makes_nothing : Makes c w op_none
  makes_step : Makes c w op_update
  makes_sum : {z q : Rank} → nat_eq (precedence z) 0 ≡ false → c ≡ Punctuator → among w ("+" ∷ "-" ∷ []) ≡ true → Makes c w (op_binary false z q)
  makes_call : c ≡ Punctuator → among w ("(" ∷ "[" ∷ []) ≡ true → Makes c w op_call
  makes_index : c ≡ Punctuator → among w ("(" ∷ "[" ∷ []) ≡ true → Makes c w op_index
  makes_tag : nat_eq (slice_index_or w 0 0) 96 ≡ true → Makes c w op_template

some_same : {y z : Rank} → Some y ≡ Some z → y ≡ z
some_same e = cc

-- a token of this class and text
abbrev as_token : TokenClass → List ℕ → Token
as_token c w = record { class = c; text = w; start = 0; stop = 0; after_break = false }

pub either : (a b : Bool) → (a || b) ≡ true → (a ≡ true) ⊎ (b ≡ true)
either true b h = inl refl
either false b h = inr h

by_beginning : (R : List ℕ → Type 0) (w : List ℕ) → is_own (statement_start_among w statement_signs) ≡ true → Each R ("{" ∷ ";" ∷ []) → R w
by_beginning R w h all = go (among w ("{" ∷ [])) (among w (";" ∷ [])) refl refl h
  where
    go : (a b : Bool) → among w ("{" ∷ []) ≡ a → among w (";" ∷ []) ≡ b → is_own (cond a StatementStart.a_block (cond b StatementStart.an_empty an_expression)) ≡ true → R w
    go true b e f h = among_by R w ("{" ∷ []) e (all.0, tt)
    go false true e f h = among_by R w (";" ∷ []) f (all.1.0, tt)
    go false false e f h = cc

abbrev EachRow : (List ℕ → Type 0) → List (List String × ExpressionStart) → Type 0
EachRow R [] = Unit {0}
EachRow R (row ∷ rows) = Each R row.0 × EachRow R rows

by_opening : (R : List ℕ → Type 0) (w : List ℕ) (rows : List (List String × ExpressionStart)) → is_opening (start_among w rows no_start) ≡ true → EachRow R rows → R w
by_opening R w [] h all = cc
by_opening R w (row ∷ rows) h all = go (among w row.0) refl h (λ k. by_opening R w rows k all.1)
  where
    go : (b : Bool) → among w row.0 ≡ b → is_opening (cond b row.1 (start_among w rows no_start)) ≡ true → (is_opening (start_among w rows no_start) ≡ true → R w) → R w
    go true e h f = among_by R w row.0 e all.0
    go false e h f = f h

abbrev MakesOf : TokenClass → List ℕ → Type 0
MakesOf c w = Makes c w (of_class c w)

follow_makes : (b : Bool) (c : TokenClass) (w : List ℕ) → may_follow b (as_token c w) ≡ true → MakesOf c w
unfolding is_reserved
follow_makes b IdentifierName w h = go (is_word_operator w) refl
  where
    go : (x : Bool) → is_word_operator w ≡ x → Makes IdentifierName w (cond x (operator_of w) op_none)
    go false e = makes_nothing
    go true e = among_by (λ v. may_follow b (as_token IdentifierName v) ≡ true → Makes IdentifierName v (operator_of v)) w ("delete" ∷ "void" ∷ "typeof" ∷ "in" ∷ "instanceof" ∷ []) e
        ((λ k. makes_nothing), ((λ k. makes_nothing), ((λ k. makes_nothing), ((λ k. absurd (false≢true k)), ((λ k. absurd (false≢true k)), tt))))) h
follow_makes b Punctuator w h = of (either _ _ h)
  where
    of : (begins_item (as_token Punctuator w) ≡ true) ⊎ ((ends_list (as_token Punctuator w) || false) ≡ true) → MakesOf Punctuator w
    of (inl k) = begun (either _ _ k)
      where
        begun : (is_own (statement_start_among w statement_signs) ≡ true) ⊎ (is_opening (start_among w start_punctuators no_start) ≡ true) → MakesOf Punctuator w
        begun (inl k) = by_beginning (MakesOf Punctuator) w k (makes_nothing, (makes_nothing, tt))
        begun (inr k) = by_opening (MakesOf Punctuator) w start_punctuators k
            ((makes_index refl refl, tt), ((makes_nothing, tt), ((makes_call refl refl, tt), ((makes_step, (makes_step, tt)), ((makes_sum refl refl refl, (makes_sum refl refl refl, (makes_nothing, (makes_nothing, tt)))), tt)))))
    of (inr k) = go (among w ("}" ∷ [])) refl k
      where
        go : (x : Bool) → among w ("}" ∷ []) ≡ x → ((x || false) || false) ≡ true → MakesOf Punctuator w
        go true e k = among_by (MakesOf Punctuator) w ("}" ∷ []) e (makes_nothing, tt)
        go false e k = absurd (false≢true k)
follow_makes b NumericLiteral w h = makes_nothing
follow_makes b StringLiteral w h = makes_nothing
follow_makes b TokenClass.RegularExpressionLiteral w h = makes_nothing
follow_makes b TokenClass.PrivateName w h = makes_nothing
follow_makes b TokenClass.Keyword w h = makes_nothing
follow_makes b End w h = makes_nothing
follow_makes b Template w h = go (nat_eq (slice_index_or w 0 0) 96) refl
  where
    go : (x : Bool) → nat_eq (slice_index_or w 0 0) 96 ≡ x → Makes Template w (cond x op_template op_none)
    go true e = makes_tag e
    go false e = makes_nothing

-- the two ways to say what a text begins with
slash_begins : (w : List ℕ) → begins_with (one_of "/") w ≡ true → nat_eq (slice_index_or w 0 0) 47 ≡ true
slash_begins [] h = cc
slash_begins (c ∷ cs) h = grind (arith, nat_tests)

-- the goals for operands and for what stands behind one read the same, but for what begins with `/`
same_allowed : (c : TokenClass) (w : List ℕ) → begins_with (one_of "/") w ≡ false → allows Div c w ≡ allows Goal.RegExp c w
same_allowed c w h =
    ap (λ x. if x then beq (is_regexp c) false else if begins_with (one_of "}") w then beq (is_template_part c) false else true) h
    ∙ sym (ap (λ x. if x then beq (is_regexp c) true else if begins_with (one_of "}") w then beq (is_template_part c) false else true) h)

-- what begins with neither is read by every goal
plain_allowed : (g : Goal) (c : TokenClass) (w : List ℕ) → begins_with (one_of "/") w ≡ false → begins_with (one_of "}") w ≡ false → IsTrue (allows g c w)
plain_allowed g c w h k =
    ap (λ x. if x then beq (is_regexp c) (reads_regexps g) else if begins_with (one_of "}") w then beq (is_template_part c) (reads_template_parts g) else true) h
    ∙ ap (λ x. if x then beq (is_template_part c) (reads_template_parts g) else true) k

pub slash_or_brace : (w : List ℕ) → begins_with (one_of "/") w ≡ true → begins_with (one_of "}") w ≡ true → ⊥
slash_or_brace [] h k = cc
slash_or_brace (c ∷ cs) h k = grind (arith, nat_tests)

sum_begins : (w : List ℕ) → among w ("+" ∷ "-" ∷ []) ≡ true → begins_with (one_of "}") w ≡ false
sum_begins w h = among_by (λ v. begins_with (one_of "}") v ≡ false) w ("+" ∷ "-" ∷ []) h (refl, (refl, tt))

call_begins : (w : List ℕ) → among w ("(" ∷ "[" ∷ []) ≡ true → begins_with (one_of "}") w ≡ false
call_begins w h = among_by (λ v. begins_with (one_of "}") v ≡ false) w ("(" ∷ "[" ∷ []) h (refl, (refl, tt))

tag_begins : (w : List ℕ) → nat_eq (slice_index_or w 0 0) 96 ≡ true → begins_with (one_of "}") w ≡ false
tag_begins [] h = refl
tag_begins (c ∷ cs) h = grind (arith, nat_tests)

-- what begins with `/` goes on, but for an arrow's body; so does a sum
slash_goes : (t : Token) → begins_with (one_of "/") t.text ≡ true → (goes_on Other t ≡ true) × (goes_on Postfix t ≡ true)
slash_goes t h = let u = slash_begins t.text h in (of_other (is_sign t && among t.text ("+" ∷ "-" ∷ "(" ∷ "[" ∷ [])) (begins t 47) (begins t 96) u, of_postfix (is_sign t && among t.text ("+" ∷ "-" ∷ [])) (begins t 47) u)
  where
    of_other : (a b c : Bool) → b ≡ true → (a || (b || c)) ≡ true
    of_other true b c h = refl
    of_other false true c h = refl
    of_other false false c h = cc

    of_postfix : (a b : Bool) → b ≡ true → (a || b) ≡ true
    of_postfix true b h = refl
    of_postfix false true h = refl
    of_postfix false false h = cc

sign_of : (t : Token) → t.class ≡ Punctuator → is_sign t ≡ true
sign_of t h = ap (λ c. is_sign (as_token c [])) h

sum_goes : (t : Token) → t.class ≡ Punctuator → among t.text ("+" ∷ "-" ∷ []) ≡ true → (goes_on Other t ≡ true) × (goes_on Postfix t ≡ true)
sum_goes t c h = (of (is_sign t) (among t.text ("+" ∷ "-" ∷ "(" ∷ "[" ∷ [])) _ (sign_of t c) (among_by (λ v. among v ("+" ∷ "-" ∷ "(" ∷ "[" ∷ []) ≡ true) t.text ("+" ∷ "-" ∷ []) h (refl, (refl, tt))), of (is_sign t) (among t.text ("+" ∷ "-" ∷ [])) _ (sign_of t c) h)
  where
    of : (a b c : Bool) → a ≡ true → b ≡ true → ((a && b) || c) ≡ true
    of true true c h k = refl
    of true false c h k = cc
    of false b c h k = cc

call_goes : (t : Token) → t.class ≡ Punctuator → among t.text ("(" ∷ "[" ∷ []) ≡ true → goes_on Other t ≡ true
call_goes t c h = of (is_sign t) (among t.text ("+" ∷ "-" ∷ "(" ∷ "[" ∷ [])) _ (sign_of t c) (among_by (λ v. among v ("+" ∷ "-" ∷ "(" ∷ "[" ∷ []) ≡ true) t.text ("(" ∷ "[" ∷ []) h (refl, (refl, tt)))
  where
    of : (a b c : Bool) → a ≡ true → b ≡ true → ((a && b) || c) ≡ true
    of true true c h k = refl
    of true false c h k = cc
    of false b c h k = cc

tag_goes : (t : Token) → nat_eq (slice_index_or t.text 0 0) 96 ≡ true → goes_on Other t ≡ true
tag_goes t h = of (is_sign t && among t.text ("+" ∷ "-" ∷ "(" ∷ "[" ∷ [])) (begins t 47) (begins t 96) h
  where
    of : (a b c : Bool) → c ≡ true → (a || (b || c)) ≡ true
    of true b c h = refl
    of false true c h = refl
    of false false true h = refl
    of false false false h = cc

-- an arrow's body goes on with a comma alone
arrow_holds : (t : Token) (x : Operator) {z : Rank} → operation t ≡ x → rank_made_by x t.after_break ≡ Some z → holds Arrow z ≡ true → x ≡ op_comma
arrow_holds t op_comma op e h = refl
arrow_holds t (op_binary l y q) op e h = let r = op_reads t op (λ k. cc) (λ k. cc) in let low = (binding t.text r.1).least in let u : y ≡ _ = some_same e in absurd (high _ (subst (λ v. 4 ≤ precedence v) u low) h)
  where
    high : (n : ℕ) → 4 ≤ n → nat_eq n 0 ≡ true → ⊥
    high n l k = grind (arith, nat_tests)
arrow_holds t op_power op e h = let u = some_same e in absurd (false≢true (ap (holds Arrow) u ∙ h))
arrow_holds t op_assign op e h = let u = some_same e in absurd (false≢true (ap (holds Arrow) u ∙ h))
arrow_holds t op_question op e h = let u = some_same e in absurd (false≢true (ap (holds Arrow) u ∙ h))
arrow_holds t op_dot op e h = let u = some_same e in absurd (false≢true (ap (holds Arrow) u ∙ h))
arrow_holds t op_call op e h = let u = some_same e in absurd (false≢true (ap (holds Arrow) u ∙ h))
arrow_holds t op_index op e h = let u = some_same e in absurd (false≢true (ap (holds Arrow) u ∙ h))
arrow_holds t op_optional op e h = let u = some_same e in absurd (false≢true (ap (holds Arrow) u ∙ h))
arrow_holds t op_template op e h = let u = some_same e in absurd (false≢true (ap (holds Arrow) u ∙ h))
arrow_holds t op_none op e h = cc
arrow_holds t op_update {z} op e h = of t.after_break e
  where
    of : (b : Bool) → rank_made_by op_update b ≡ Some z → op_update ≡ op_comma
    of true k = cc
    of false k = let u = some_same k in absurd (false≢true (ap (holds Arrow) u ∙ h))
arrow_holds t op_arrow {z} op e h = of t.after_break e
  where
    of : (b : Bool) → rank_made_by op_arrow b ≡ Some z → op_arrow ≡ op_comma
    of true k = cc
    of false k = let u = some_same k in absurd (false≢true (ap (holds Arrow) u ∙ h))

-- what a token says that isn't one of the two which may stand where a `;` is missing without a line break
pub ended_class : (t : Token) → is_end t ≡ true → t.class ≡ End
ended_class t h = go t.class h
  where
    go : (c : TokenClass) → is_end (as_token c []) ≡ true → c ≡ End
    go End h = refl
    go _ h = absurd (false≢true h)

pub signed_class : (t : Token) → is_sign t ≡ true → t.class ≡ Punctuator
signed_class t h = go t.class h
  where
    go : (c : TokenClass) → is_sign (as_token c []) ≡ true → c ≡ Punctuator
    go Punctuator h = refl
    go _ h = absurd (false≢true h)

not_true : (b : Bool) → not b ≡ true → b ≡ true → ⊥
not_true true h k = cc
not_true false h k = cc

pub misses : (x : Edge) (last t : Token) → IsTrue (may_omit_semicolon (Rattle.language.specs.Pieces.behind x) last t) → ((is_end t || (is_sign t && is t.text "}")) ≡ true) ⊎ ((t.after_break && not (goes_on (edge_as_written x last) t)) ≡ true)
misses x last t h = either (is_end t || (is_sign t && is t.text "}")) (t.after_break && not (goes_on (edge_as_written x last) t)) (and_parts (not (is_semicolon t)) ((is_end t || (is_sign t && is t.text "}")) || (t.after_break && not (goes_on (edge_as_written x last) t))) h).1

no_symbol : (x : Operator) (b : Bool) {z : Rank} → x ≡ op_none → rank_made_by x b ≡ Some z → ⊥
no_symbol x b e h = let u = sym (ap (λ v. rank_made_by v b) e) ∙ h in cc

module _ (S : Type 0) (Next : S → Token → S → Type 0) (behind : S → Token) (det : IsDetermined S Next behind) (alike : IsAlike S Next behind) where
  module _ {e m k : S} {u t : Token} (read : ReadBy S Next behind Div e u m) (next : Next e t k) where
    -- the token read behind an operand is that which may follow, or begins with `/`
    which : {b : Bool} (f : Followed S Next behind b e) → (u ≡ f.token) ⊎ (begins_with (one_of "/") u.text ≡ true)
    which f = go (begins_with (one_of "/") u.text) refl
      where
        go : (x : Bool) → begins_with (one_of "/") u.text ≡ x → (u ≡ f.token) ⊎ (begins_with (one_of "/") u.text ≡ true)
        go true h = inr h
        go false h = inl ((det.same Goal.RegExp e u f.token m f.mid read.next f.read.next (sym (same_allowed u.class u.text h) ∙ read.allowed) f.read.allowed).0)

    -- the other token at the place is the same, or begins with `/`, or both begin with `}`
    data Beside : Type 0 where
      is_same : t ≡ u → Beside
      is_slash : begins_with (one_of "/") t.text ≡ true → Beside
      is_brace : begins_with (one_of "}") u.text ≡ true → Beside

    beside : Beside
    beside = go (begins_with (one_of "/") t.text) (begins_with (one_of "}") t.text) refl refl
      where
        go : (x y : Bool) → begins_with (one_of "/") t.text ≡ x → begins_with (one_of "}") t.text ≡ y → Beside
        go true y h l = is_slash h
        go false true h l = is_brace (alike.brace e u t m k read.next next ∙ l)
        go false false h l = is_same ((det.same Div e t u k m next read.next (plain_allowed Div t.class t.text h l) read.allowed).0)

    breaks : t.after_break ≡ true → u.after_break ≡ true
    breaks h = det.break e u t m k read.next next ∙ h

    -- behind a line break what makes something goes on where the edge can hold it
    held : {x : Operator} {z : Rank} (y : Edge) → Makes u.class u.text x → operation u ≡ x → t.after_break ≡ true → not (goes_on y t) ≡ true → rank_made_by x u.after_break ≡ Some z → holds y z ≡ true → ⊥
    held Closed mk op br g e h = cc
    held {x} Arrow mk op br g e h = of x mk (arrow_holds u x op e h)
      where
        of : (x : Operator) → Makes u.class u.text x → x ≡ op_comma → ⊥
        of x makes_nothing q = cc
        of x makes_step q = cc
        of x (makes_sum l c a) q = cc
        of x (makes_call c a) q = cc
        of x (makes_index c a) q = cc
        of x (makes_tag a) q = cc
    held Other makes_nothing op br g e h = cc
    held Postfix makes_nothing op br g e h = cc
    held Other makes_step op br g e h = let v = sym (ap (rank_made_by op_update) (breaks br)) ∙ e in cc
    held Postfix makes_step op br g e h = let v = sym (ap (rank_made_by op_update) (breaks br)) ∙ e in cc
    held Other (makes_sum l c a) op br g e h = of beside
      where
        of : Beside → ⊥
        of (is_same q) = not_true _ g (ap (goes_on Other) q ∙ (sum_goes u c a).0)
        of (is_slash q) = not_true _ g (slash_goes t q).0
        of (is_brace q) = false≢true (sym (sum_begins u.text a) ∙ q)
    held Postfix (makes_sum l c a) op br g e h = of beside
      where
        of : Beside → ⊥
        of (is_same q) = not_true _ g (ap (goes_on Postfix) q ∙ (sum_goes u c a).1)
        of (is_slash q) = not_true _ g (slash_goes t q).1
        of (is_brace q) = false≢true (sym (sum_begins u.text a) ∙ q)
    held Other (makes_call c a) op br g e h = of beside
      where
        of : Beside → ⊥
        of (is_same q) = not_true _ g (ap (goes_on Other) q ∙ call_goes u c a)
        of (is_slash q) = not_true _ g (slash_goes t q).0
        of (is_brace q) = false≢true (sym (call_begins u.text a) ∙ q)
    held Other (makes_index c a) op br g e h = of beside
      where
        of : Beside → ⊥
        of (is_same q) = not_true _ g (ap (goes_on Other) q ∙ call_goes u c a)
        of (is_slash q) = not_true _ g (slash_goes t q).0
        of (is_brace q) = false≢true (sym (call_begins u.text a) ∙ q)
    held Other (makes_tag a) op br g e h = of beside
      where
        of : Beside → ⊥
        of (is_same q) = not_true _ g (ap (goes_on Other) q ∙ tag_goes u a)
        of (is_slash q) = not_true _ g (slash_goes t q).0
        of (is_brace q) = false≢true (sym (tag_begins u.text a) ∙ q)
    held Postfix (makes_call c a) op br g e h = let v = some_same e in false≢true (ap (holds Postfix) v ∙ h)
    held Postfix (makes_index c a) op br g e h = let v = some_same e in false≢true (ap (holds Postfix) v ∙ h)
    held Postfix (makes_tag a) op br g e h = let v = some_same e in false≢true (ap (holds Postfix) v ∙ h)

    -- so does what begins with `/`
    held_slash : {z : Rank} (y : Edge) → begins_with (one_of "/") u.text ≡ true → not (goes_on y t) ≡ true → rank_made_by (operation u) u.after_break ≡ Some z → holds y z ≡ true → ⊥
    held_slash Closed q g e h = cc
    held_slash Arrow q g e h = let c = reads_comma S Next behind read.next (arrow_holds u (operation u) refl e h) in false≢true (ap (begins_with (one_of "/")) (sym c.text) ∙ q)
    held_slash Other q g e h = of beside
      where
        of : Beside → ⊥
        of (is_same p) = not_true _ g (slash_goes t (ap (λ (v : Token). begins_with (one_of "/") v.text) p ∙ q)).0
        of (is_slash p) = not_true _ g (slash_goes t p).0
        of (is_brace p) = slash_or_brace u.text q p
    held_slash Postfix q g e h = of beside
      where
        of : Beside → ⊥
        of (is_same p) = not_true _ g (slash_goes t (ap (λ (v : Token). begins_with (one_of "/") v.text) p ∙ q)).1
        of (is_slash p) = not_true _ g (slash_goes t p).1
        of (is_brace p) = slash_or_brace u.text q p

    -- no symbol that the edge can hold follows where the `;` may be missing
    none_held : {b : Bool} {z : Rank} (y : Edge) → Followed S Next behind b e → ((is_end t || (is_sign t && is t.text "}")) ≡ true) ⊎ ((t.after_break && not (goes_on y t)) ≡ true) → rank_made_by (operation u) u.after_break ≡ Some z → holds y z ≡ true → ⊥
    none_held {z = z} y f (inl p) s h = of (either _ _ p)
      where
        of : (is_end t ≡ true) ⊎ ((is_sign t && is t.text "}") ≡ true) → ⊥
        of (inl q) =
            let c = ended_class t q in
            let same = det.same Div e u t m k read.next next read.allowed (det.free Div e t k next (ap is_free c)) in
            no_symbol (operation u) u.after_break (ap operation same.0 ∙ ap (λ v. of_class v t.text) c) s
        of (inr q) =
            let v = and_parts (is_sign t) (is t.text "}") q in
            let c = signed_class t v.0 in
            let w : t.text ≡ codes "}" = (bytes_eq-Decides t.text (codes "}")).0 v.1 in
            let al : IsTrue (allows Div t.class t.text) = subst (λ x. IsTrue (allows Div x t.text)) (sym c) (subst (λ x. IsTrue (allows Div Punctuator x)) (sym w) refl) in
            let same = det.same Div e u t m k read.next next read.allowed al in
            no_symbol (operation u) u.after_break (ap operation same.0 ∙ ap (λ v. of_class v t.text) c ∙ ap (of_class Punctuator) w) s
    none_held {b} {z} y f (inr p) s h = of (which f)
      where
        v : (t.after_break ≡ true) × (not (goes_on y t) ≡ true)
        v = and_parts t.after_break (not (goes_on y t)) p

        of : (u ≡ f.token) ⊎ (begins_with (one_of "/") u.text ≡ true) → ⊥
        of (inl q) = held y (follow_makes b u.class u.text (ap (may_follow b) q ∙ f.follows)) refl v.0 v.1 s h
        of (inr q) = held_slash y q v.1 s h

  -- So behind an expression with this edge, at any symbol, nothing goes on where the `;` stands or may be missing, and what may follow follows.
  pub ended_stops : {b : Bool} {e0 e m : S} {u : Token} (y : Rank) (i : Bool) (x : Edge) → Step S Next behind (ending (Rattle.language.specs.Pieces.behind x)) e0 e → Followed S Next behind b e → ReadBy S Next behind Div e0 u m → IsTrue (stops y i x (behind e0) u)
  ended_stops {e0 = e0} {m = m} {u = u} y i x (explicit {t = t} {e = e} h) f read =
      let al : IsTrue (allows Div t.class t.text) = subst (λ v. IsTrue (allows Div v t.text)) (sym h.class) (subst (λ v. IsTrue (allows Div Punctuator v)) (sym h.text) refl) in
      let same = det.same Div e0 u t m e read.next h.next read.allowed al in
      ap (λ v. stops_at y i (edge_as_written x (behind e0)) u (rank_made_by v u.after_break)) (ap operation same.0 ∙ ap (λ v. of_class v t.text) h.class ∙ ap (of_class Punctuator) h.text)
  ended_stops {b} {e0} {m = m} {u = u} y i x (implicit {t = t} nx h) f read = decide (rank_made_by (operation u) u.after_break) refl
    where
      may : ((is_end t || (is_sign t && is t.text "}")) ≡ true) ⊎ ((t.after_break && not (goes_on (edge_as_written x (behind e0)) t)) ≡ true)
      may = misses x (behind e0) t h

      of : (z : Rank) (c : Bool) → rank_made_by (operation u) u.after_break ≡ Some z → holds (edge_as_written x (behind e0)) z ≡ c → (not (takes y z) || ((is u.text "in" && not i) || not c)) ≡ true
      of z true e k = absurd (none_held read nx (edge_as_written x (behind e0)) f may e k)
      of z false e k = last (takes y z) (is u.text "in" && not i)
        where
          last : (a b : Bool) → (not a || (b || true)) ≡ true
          last false b = refl
          last true true = refl
          last true false = refl

      decide : (s : Option Rank) → rank_made_by (operation u) u.after_break ≡ s → IsTrue (stops_at y i (edge_as_written x (behind e0)) u s)
      decide None e = refl
      decide (Some z) e = of z (holds (edge_as_written x (behind e0)) z) e refl
