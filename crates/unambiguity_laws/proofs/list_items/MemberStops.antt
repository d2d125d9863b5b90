-- The value of a field can't go on where the field ends (15.7 of the 13th edition).
use Rattle.std.proofs.Common.{◌≡◌, ℕ, Bool, true, false, cond, List, [], ◌∷◌, ◌⊎◌, inl, inr, refl, sym, ap, ◌∙◌, subst}
use Rattle.std.specs.Str.{bytes_eq}
use Rattle.std.specs.Prelude.{IsTrue, codes, not, ◌&&◌, ◌||◌}
use Rattle.std.proofs.lemmas.Slice.Eq.{bytes_eq-Decides}
use Rattle.tokens.specs.declared.token.TokenClass.{TokenClass}
use Rattle.tokens.specs.declared.token.TokenClass.TheVariants.{IdentifierName, Punctuator, NumericLiteral, StringLiteral, PrivateName, Keyword}
use Rattle.tokens.specs.declared.token.Goal.{Goal}
use Rattle.tokens.specs.declared.token.Goal.TheVariants.{Div}
use Rattle.tokens.specs.Goals.{allows}
use Rattle.tree.specs.Tree.{Tree}
use Rattle.language.specs.declared.Rank.TheVariants.{Assignment}
use Rattle.language.specs.declared.Edge.{Edge}
use Rattle.language.specs.declared.Edge.TheVariants.{Arrow, Postfix, Other, Closed}
use Rattle.language.specs.Vocabulary.{is, is_word_operator, operator_of, op_none}
use Rattle.language.specs.Edges.{edge, edge_as_written, is_sign, is_end, is_semicolon, value_goes_on}
use Rattle.language.specs.Pieces.{behind_value, ending}
use Rattle.language.specs.Token.{Token}
use Rattle.language.specs.Continuations.{of_class, operation, rank_made_by, stops_at, stops}
use Rattle.language.specs.Promises.{is_free, IsDetermined, ReadBy, Stops}
use Rattle.language.specs.Derivation.{Step, explicit, implicit}
use Rattle.language.proofs.table.Begins.{among_by}
use Rattle.language.proofs.climbing.NamesBehind.{apart_ended}
use Rattle.unambiguity_laws.proofs.list_items.MemberEnds.{token_as, follows_member, MemberEnds, bracket_allowed, star_allowed, and_not, neither}
use Rattle.unambiguity_laws.proofs.statements.StatementFacts.{some_goal}

-- a token that may follow a member and goes on behind an expression
data GoesOn : TokenClass → List ℕ → Type 0 where
  an_in : GoesOn IdentifierName (codes "in")
  an_instanceof : GoesOn IdentifierName (codes "instanceof")
  a_bracket : GoesOn Punctuator (codes "[")
  a_star : GoesOn Punctuator (codes "*")

named : (w : List ℕ) → (of_class IdentifierName w ≡ op_none) ⊎ GoesOn IdentifierName w
named w = of (is_word_operator w) refl
  where
    of : (b : Bool) → is_word_operator w ≡ b → (of_class IdentifierName w ≡ op_none) ⊎ GoesOn IdentifierName w
    of false h = inl (ap (λ b. cond b (operator_of w) op_none) h)
    of true h = among_by (λ v. (of_class IdentifierName v ≡ op_none) ⊎ GoesOn IdentifierName v) w ("delete" ∷ "void" ∷ "typeof" ∷ "in" ∷ "instanceof" ∷ []) h (inl refl, (inl refl, (inl refl, (inr an_in, (inr an_instanceof, tt)))))

by_text : (w v : List ℕ) → bytes_eq w v ≡ true → (of_class Punctuator v ≡ op_none) ⊎ GoesOn Punctuator v → (of_class Punctuator w ≡ op_none) ⊎ GoesOn Punctuator w
by_text w v h k = subst (λ x. (of_class Punctuator x ≡ op_none) ⊎ GoesOn Punctuator x) (sym ((bytes_eq-Decides w v).0 h)) k

signed : (w : List ℕ) → follows_member (token_as Punctuator w) ≡ true → (of_class Punctuator w ≡ op_none) ⊎ GoesOn Punctuator w
signed w h = of (is w "[") (is w "*") (is w ";") (is w "}") refl refl refl refl h
  where
    of : (a b c d : Bool) → is w "[" ≡ a → is w "*" ≡ b → is w ";" ≡ c → is w "}" ≡ d → ((a || b) || (c || (d || false))) ≡ true → (of_class Punctuator w ≡ op_none) ⊎ GoesOn Punctuator w
    of true b c d p q r s h = by_text w (codes "[") p (inr a_bracket)
    of false true c d p q r s h = by_text w (codes "*") q (inr a_star)
    of false false true d p q r s h = by_text w (codes ";") r (inl refl)
    of false false false true p q r s h = by_text w (codes "}") s (inl refl)
    of false false false false p q r s h = cc

made_by : (c : TokenClass) (w : List ℕ) → follows_member (token_as c w) ≡ true → (of_class c w ≡ op_none) ⊎ GoesOn c w
made_by IdentifierName w h = named w
made_by Punctuator w h = signed w h
made_by NumericLiteral w h = inl refl
made_by StringLiteral w h = inl refl
made_by PrivateName w h = inl refl
made_by Keyword w h = inl refl
made_by TokenClass.Template w h = cc
made_by TokenClass.RegularExpressionLiteral w h = cc
made_by TokenClass.End w h = cc

abbrev token_with : TokenClass → List ℕ → Bool → Token
token_with c w b = record { class = c; text = w; start = 0; stop = 0; after_break = b }

abbrev stops_with : Edge → TokenClass → List ℕ → Bool → Bool
stops_with x c w b = stops_at Assignment true x (token_with c w b) (rank_made_by (of_class c w) b)

-- where a field may end before such a token, the right edge of its value doesn't go on with it
holds_not : (x : Edge) {c : TokenClass} {w : List ℕ} (b : Bool) → GoesOn c w → value_goes_on x (token_as c w) ≡ false → stops_with x c w b ≡ true
holds_not Arrow b an_in h = refl
holds_not Arrow b an_instanceof h = refl
holds_not Arrow b a_bracket h = refl
holds_not Arrow b a_star h = refl
holds_not Closed b an_in h = refl
holds_not Closed b an_instanceof h = refl
holds_not Closed b a_bracket h = refl
holds_not Closed b a_star h = refl
holds_not Postfix b a_bracket h = refl
holds_not Postfix b an_in h = cc
holds_not Postfix b an_instanceof h = cc
holds_not Postfix b a_star h = cc
holds_not Other b an_in h = cc
holds_not Other b an_instanceof h = cc
holds_not Other b a_bracket h = cc
holds_not Other b a_star h = cc

-- only class and text of the token decide
by_parts : (x : Edge) (t : Token) → value_goes_on x t ≡ value_goes_on x (token_as t.class t.text)
by_parts Arrow t = refl
by_parts Postfix t = refl
by_parts Other t = refl
by_parts Closed t = refl

-- such a token ends no statement by itself
no_close : {c : TokenClass} {w : List ℕ} → GoesOn c w → (is_end (token_as c w) ≡ false) × ((is_sign (token_as c w) && is w "}") ≡ false)
no_close an_in = (refl, refl)
no_close an_instanceof = (refl, refl)
no_close a_bracket = (refl, refl)
no_close a_star = (refl, refl)

module _ (S : Type 0) (Next : S → Token → S → Type 0) (behind : S → Token) (det : IsDetermined S Next behind) where
  goal_allows : {c : TokenClass} {w : List ℕ} {k m : S} {t : Token} → GoesOn c w → t.class ≡ c → t.text ≡ w → Next k t m → (g : Goal) → IsTrue (allows g t.class t.text)
  goal_allows {k = k} {m} {t} an_in p q nx g = det.free g k t m nx (ap is_free p)
  goal_allows {k = k} {m} {t} an_instanceof p q nx g = det.free g k t m nx (ap is_free p)
  goal_allows {t = t} a_bracket p q nx g = subst (λ c. IsTrue (allows g c t.text)) (sym p) (subst (λ v. IsTrue (allows g Punctuator v)) (sym q) (bracket_allowed g))
  goal_allows {t = t} a_star p q nx g = subst (λ c. IsTrue (allows g c t.text)) (sym p) (subst (λ v. IsTrue (allows g Punctuator v)) (sym q) (star_allowed g))

  none_made : (x : Edge) (t : Token) → operation t ≡ op_none → stops_at Assignment true x t (rank_made_by (operation t) t.after_break) ≡ true
  none_made x t h = ap (λ c. stops_at Assignment true x t (rank_made_by c t.after_break)) h

  missing_stops : {k m j : S} {t v : Token} (x : Edge) → Next k v j → (not (is_semicolon v) && ((is_end v || (is_sign v && is v.text "}")) || (v.after_break && not (value_goes_on x v)))) ≡ true → Next k t m → {c : TokenClass} {w : List ℕ} → GoesOn c w → t.class ≡ c → t.text ≡ w →
      stops_at Assignment true x t (rank_made_by (operation t) t.after_break) ≡ true
  missing_stops {k} {m} {j} {t} {v} x nv may nt {c} {w} goes p q =
      let g = some_goal v.class v.text in
      let same : v ≡ t = (det.same g.0 k v t j m nv nt g.1 (goal_allows goes p q nt g.0)).0 in
      let shut = no_close goes in
      let class : v.class ≡ c = ap (λ (y : Token). y.class) same ∙ p in
      let text : v.text ≡ w = ap (λ (y : Token). y.text) same ∙ q in
      let ends : is_end v ≡ false = ap (λ z. is_end (token_as z v.text)) class ∙ ap (λ z. is_end (token_as c z)) text ∙ shut.0 in
      let brace : (is_sign v && is v.text "}") ≡ false = ap (λ z. is_sign (token_as z v.text) && is v.text "}") class ∙ ap (λ z. is_sign (token_as c z) && is z "}") text ∙ shut.1 in
      let u = and_not v.after_break (value_goes_on x v) (neither (not (is_semicolon v)) (is_end v) (is_sign v && is v.text "}") _ may ends brace) in
      let goes_not : value_goes_on x (token_as c w) ≡ false = sym (by_parts x v ∙ ap (λ z. value_goes_on x (token_as z v.text)) class ∙ ap (λ z. value_goes_on x (token_as c z)) text) ∙ u.1 in
      (λ i. stops_with x (p i) (q i) t.after_break) ∙ holds_not x t.after_break goes goes_not

  pub value_stops : {v : Tree} {k e : S} → Step S Next behind (ending (behind_value (edge v))) k e → MemberEnds S Next behind det e → Stops S Next behind Assignment true v k
  value_stops {v} {k} end ends = record { before = λ t m r. of end ends r; apart = apart_ended S Next behind det refl end }
    where
      of : {e m : S} {t : Token} → Step S Next behind (ending (behind_value (edge v))) k e → MemberEnds S Next behind det e → ReadBy S Next behind Div k t m → IsTrue (stops Assignment true (edge v) (behind k) t)
      of {m = m} {t = t} (explicit {t = t'} {e = e'} h) ends r =
          let al : IsTrue (allows Div t'.class t'.text) = subst (λ c. IsTrue (allows Div c t'.text)) (sym h.class) (subst (λ c. IsTrue (allows Div Punctuator c)) (sym h.text) refl) in
          let same = (det.same Div k t t' m e' r.next h.next r.allowed al).0 in
          none_made (edge_as_written (edge v) (behind k)) t (ap operation same ∙ ap (λ c. of_class c t'.text) h.class ∙ ap (of_class Punctuator) h.text)
      of {m = m} {t = t} (implicit {t = t'} {e = e'} nx may) ends r =
          let same : ends.token ≡ t = (det.same Div k ends.token t ends.mid m ends.read.next r.next ends.read.allowed r.allowed).0 in
          by (made_by t.class t.text (ap follows_member (sym same) ∙ ends.follows))
        where
          by : (of_class t.class t.text ≡ op_none) ⊎ GoesOn t.class t.text → stops_at Assignment true (edge_as_written (edge v) (behind k)) t (rank_made_by (operation t) t.after_break) ≡ true
          by (inl h) = none_made (edge_as_written (edge v) (behind k)) t h
          by (inr h) = missing_stops (edge_as_written (edge v) (behind k)) nx may r.next h refl refl
