-- The parts of a template (ECMA-262 12.2.9), as a loop reads them: the last, or one with an expression behind it.
use Rattle.std.proofs.Common.{◌≡◌, ◌⊎◌, inl, inr, ℕ, ◌+◌, ◌-◌, Bool, true, false, cond, List, [], ◌∷◌, ◌++◌, refl, sym, ap, ◌∙◌, subst}
use Rattle.std.specs.Prelude.{IsTrue, codes, not, ◌&&◌, ◌||◌, nat_eq, slice_index_or, if◌then◌else◌}
use Rattle.std.specs.Bool.{beq}
use Prim.Native.String.{String}
use Rattle.std.proofs.lemmas.Bool.{and_parts, false≢true}
use Rattle.std.proofs.lemmas.List.{append_cancel_right}
use Rattle.std.proofs.lemmas.Slice.Eq.{bytes_eq-Decides}
use Rattle.tokens.specs.Alphabet.{one_of, begins_with}
use Rattle.tokens.specs.declared.token.TokenClass.{TokenClass}
use Rattle.tokens.specs.declared.token.TokenClass.TheVariants.{IdentifierName, Punctuator, Template}
use Rattle.tokens.specs.declared.token.Goal.{Goal}
use Rattle.tokens.specs.declared.token.Goal.TheVariants.{Div, TemplateTail}
use Rattle.tokens.specs.Goals.{allows}
use Rattle.tree.specs.declared.kind.Kind.TheVariants.{TemplateElement}
use Rattle.tree.specs.declared.kind.Pair.{Pair}
use Rattle.tree.specs.Tree.{Tree, node, Parts, none, part, gap, bare, plain}
use Rattle.tree.proofs.Lean.{lean_flags}
use Rattle.language.specs.declared.Rank.TheVariants.{Expression, Primary}
use Rattle.language.specs.Vocabulary.{is, among, is_word_operator, Operator, op_none, operators, operator_of}
use Rattle.language.specs.Edges.{edge, edge_as_written}
use Rattle.language.specs.Continuations.{of_class, operation, rank_made_by, stops_at}
use Rattle.language.specs.Pieces.{template_element, Spelling, tok, at}
use Rattle.language.specs.Token.{Token}
use Rattle.language.specs.Promises.{IsDetermined, Stops, FoundAt, AbsentAt}
use Rattle.language.specs.Following.{IsAlike}
use Rattle.language.specs.Grammar.{ways, spellings}
use Rattle.language.specs.Derivation.{first, Reads, Spells, direct, Runs, done, step, token, placed}
use Rattle.language.proofs.lower_bound.Domination.{settled}
use Rattle.language.proofs.table.ViewIsComplete.{way_of, one}
use Rattle.language.proofs.table.Productions.{way_from}
use Rattle.language.proofs.table.Begins.{retell}
use Rattle.language.proofs.table.OperatorFacts.{texts_of, text_among}
use Rattle.language.proofs.statements.MissingSemicolons.{slash_or_brace}
use Rattle.language.proofs.list_loops.FirstPieces.{run_none, run_token, run_never, run_the_part}
use Rattle.language.proofs.climbing.BinaryTurns.{same_node}
use Rattle.language.proofs.list_loops.FirstItems.{chunk_pieces}

-- the text of a part's token: the first begins with a backtick, the last ends with one
abbrev pub chunk_text : Bool → Bool → List ℕ → List ℕ
chunk_text b l w = codes (cond b "`" "}") ++ w ++ codes (cond l "`" "${")

-- a goal that reads it
abbrev pub chunk_goal : Bool → Goal
chunk_goal b = cond b Div TemplateTail

chunk_allowed : (b l : Bool) (w : List ℕ) → IsTrue (allows (chunk_goal b) Template (chunk_text b l w))
chunk_allowed true l w = refl
chunk_allowed false l w = refl

last_of : List ℕ → ℕ
last_of [] = 0
last_of (x ∷ []) = x
last_of (x ∷ y ∷ xs) = last_of (y ∷ xs)

last_behind : (xs : List ℕ) (y : ℕ) (ys : List ℕ) → last_of (xs ++ y ∷ ys) ≡ last_of (y ∷ ys)
unfolding last_of
last_behind [] y ys = refl
last_behind (x ∷ []) y ys = refl
last_behind (x ∷ z ∷ xs) y ys = last_behind (z ∷ xs) y ys

tail_of : List ℕ → List ℕ
tail_of [] = []
tail_of (x ∷ xs) = xs

-- the text of the part is told by that of its token, and whether it is the last
same_content : (b l : Bool) (v w : List ℕ) → chunk_text b l v ≡ chunk_text b l w → v ≡ w
unfolding tail_of
same_content true true v w h = append_cancel_right v w (codes "`") (ap tail_of h)
same_content true false v w h = append_cancel_right v w (codes "${") (ap tail_of h)
same_content false true v w h = append_cancel_right v w (codes "`") (ap tail_of h)
same_content false false v w h = append_cancel_right v w (codes "${") (ap tail_of h)

chunk_last : (b : Bool) (w : List ℕ) → last_of (chunk_text b true w) ≡ 96
unfolding last_of
chunk_last true w = last_behind (96 ∷ w) 96 []
chunk_last false w = last_behind (125 ∷ w) 96 []

chunk_goes : (b : Bool) (w : List ℕ) → last_of (chunk_text b false w) ≡ 123
unfolding last_of
chunk_goes true w = last_behind (96 ∷ w) 36 (123 ∷ [])
chunk_goes false w = last_behind (125 ∷ w) 36 (123 ∷ [])

not_both : (b : Bool) (v w : List ℕ) → chunk_text b true v ≡ chunk_text b false w → ⊥
not_both b v w h = clash (sym (chunk_last b v) ∙ ap last_of h ∙ chunk_goes b w)
  where
    clash : ◌≡◌ {A = ℕ} 96 123 → ⊥
    clash e = false≢true (sym (ap (λ x. nat_eq x 96) e))

-- no operator begins with `}`
all_false : (List ℕ → Bool) → List String → Bool
all_false f [] = true
all_false f (s ∷ ss) = not (f (codes s)) && all_false f ss

none_among : (f : List ℕ → Bool) (w : List ℕ) (ss : List String) → all_false f ss ≡ true → among w ss ≡ true → f w ≡ false
unfolding all_false
none_among f w [] h k = cc
none_among f w (s ∷ ss) h k = let u = and_parts (not (f (codes s))) (all_false f ss) h in go (is w s) refl k u.0 (λ j. none_among f w ss u.1 j)
  where
    turned : (x : Bool) → not x ≡ true → x ≡ false
    turned true e = cc
    turned false e = refl

    go : (b : Bool) → is w s ≡ b → (b || among w ss) ≡ true → not (f (codes s)) ≡ true → (among w ss ≡ true → f w ≡ false) → f w ≡ false
    go true e k u more = ap f ((bytes_eq-Decides w (codes s)).0 e) ∙ turned (f (codes s)) u
    go false e k u more = more k

abbrev makes_some : Operator → Bool
makes_some op_none = false
makes_some _ = true

none_made : (x : Operator) → makes_some x ≡ false → x ≡ op_none
none_made op_none h = refl
none_made _ h = cc

brace_operator : (w : List ℕ) → begins_with (one_of "}") w ≡ true → operator_of w ≡ op_none
unfolding all_false
brace_operator w h = none_made (operator_of w) (of (makes_some (operator_of w)) refl)
  where
    of : (b : Bool) → makes_some (operator_of w) ≡ b → b ≡ false
    of false e = refl
    of true e = absurd (false≢true (sym (none_among (begins_with (one_of "}")) w (texts_of makes_some operators) refl (text_among makes_some w operators refl e)) ∙ h))

brace_class : (c : TokenClass) (w : List ℕ) → begins_with (one_of "}") w ≡ true → IsTrue (allows Div c w) → of_class c w ≡ op_none
brace_class IdentifierName w h al = of (is_word_operator w)
  where
    of : (b : Bool) → cond b (operator_of w) op_none ≡ op_none
    of true = brace_operator w h
    of false = refl
brace_class Punctuator w h al = of (is_word_operator w)
  where
    of : (b : Bool) → cond b op_none (operator_of w) ≡ op_none
    of true = refl
    of false = brace_operator w h
brace_class Template w h al = of (begins_with (one_of "/") w) (begins_with (one_of "}") w) refl h al
  where
    of : (x y : Bool) → begins_with (one_of "/") w ≡ x → y ≡ true → IsTrue (if x then beq false false else if y then beq true false else true) → cond (nat_eq (slice_index_or w 0 0) 96) Rattle.language.specs.Vocabulary.op_template op_none ≡ op_none
    of true y k e al = absurd (slash_or_brace w k h)
    of false true k e al = cc
    of false false k e al = cc
brace_class _ w h al = refl

module _ (S : Type 0) (Next : S → Token → S → Type 0) (behind : S → Token) (det : IsDetermined S Next behind) where
  -- what spells a part of a template
  pub record ChunkForm (b l : Bool) (o : ℕ) (n : Tree) (s e : S) (P : List Pair) : Type 0 where
    pub text : List ℕ
    pub sign : Token
    pub reads : Reads S Next behind Template (chunk_text b l text) s sign e
    pub tree : n ≡ node TemplateElement text plain (sign.start + 1) ((behind e).stop - cond l 1 2) none
    pub pairs : P ≡ []

  pub chunk_told : {b l : Bool} {o : ℕ} {n : Tree} {s e : S} {P : List Pair} → Spells ways S Next behind o (template_element b l) n s e P → ChunkForm b l o n s e P
  unfolding spellings
  chunk_told {b} {l} {n = node TemplateElement w g st en ps} {s} (direct qs h (placed {t = t} {m = m} nx p) d) =
      let v = way_of h in
      let u = run_token S Next behind (retell S Next behind (v.is ∙ ap (settled (template_element b l)) (one v.listed)) d) in
      let z = run_none S Next behind u.runs in
      record {
        text = w;
        sign = u.sign;
        reads = subst (λ x. Reads S Next behind Template (chunk_text b l w) s u.sign x) z.place u.reads;
        tree = same_node refl refl (lean_flags (bare (node TemplateElement w g st en ps)) v.lean) (sym (ap (λ (x : ℕ × ℕ). x.0) p) ∙ ap (λ x. x + 1) (det.start s t u.sign m u.mid nx u.reads.next)) (sym (ap (λ (x : ℕ × ℕ). x.1) p)) z.parts;
        pairs = z.pairs;
      }
  chunk_told {n = node _ w g st en ps} (direct qs h pl d) = elim ((way_of h).listed) [ ]

  -- two parts that are read at one place
  same_chunk : (b l l' : Bool) (v w : List ℕ) {s e e' : S} {t t' : Token} → Reads S Next behind Template (chunk_text b l v) s t e → Reads S Next behind Template (chunk_text b l' w) s t' e' → (t' ≡ t) × (e' ≡ e) × (chunk_text b l' w ≡ chunk_text b l v)
  same_chunk b l l' v w {s} {e} {e'} {t} {t'} h k =
      let al : IsTrue (allows (chunk_goal b) t.class t.text) = subst (λ c. IsTrue (allows (chunk_goal b) c t.text)) (sym h.class) (subst (λ c. IsTrue (allows (chunk_goal b) Template c)) (sym h.text) (chunk_allowed b l v)) in
      let al' : IsTrue (allows (chunk_goal b) t'.class t'.text) = subst (λ c. IsTrue (allows (chunk_goal b) c t'.text)) (sym k.class) (subst (λ c. IsTrue (allows (chunk_goal b) Template c)) (sym k.text) (chunk_allowed b l' w)) in
      let same = det.same (chunk_goal b) s t' t e' e k.next h.next al' al in
      (same.0, same.1, sym k.text ∙ ap (λ (x : Token). x.text) same.0 ∙ h.text)

  pub chunk_found : {b l : Bool} {o : ℕ} {w : List ℕ} {s e : S} {t : Token} → Reads S Next behind Template (chunk_text b l w) s t e → FoundAt S Next behind o (template_element b l) s e (node TemplateElement w plain (t.start + 1) ((behind e).stop - cond l 1 2) none) []
  unfolding spellings
  chunk_found {b} {l} {o} {w} {s} {e} {t} h =
      let x : Spelling = at Primary (tok Template (chunk_text b l w) ∷ []) in
      record {
        spelled = direct (settled (template_element b l) x) (way_from (template_element b l) (node TemplateElement w plain (t.start + 1) ((behind e).stop - cond l 1 2) none) x refl first refl) (placed h.next refl) (step (token h) done);
        only = λ o' e' n' P' d.
            let u = chunk_told d in
            let same = same_chunk b l l w u.text h u.reads in
            let text = same_content b l u.text w same.2 in
            (same.1, u.tree ∙ (λ i. node TemplateElement (text i) plain ((same.0 i).start + 1) ((behind (same.1 i)).stop - cond l 1 2) none), u.pairs);
      }

  -- a part is the last one, or it isn't
  pub chunk_not_last : {b : Bool} (w : List ℕ) {s e : S} {t : Token} → Reads S Next behind Template (chunk_text b false w) s t e → AbsentAt S Next behind (template_element b true) s
  chunk_not_last {b} w h = record { nothing = λ o' e' n' P' d. (let u = chunk_told d in not_both b u.text w (same_chunk b false true w u.text h u.reads).2) }

  pub chunk_last_one : {b : Bool} (w : List ℕ) {s e : S} {t : Token} → Reads S Next behind Template (chunk_text b true w) s t e → AbsentAt S Next behind (template_element b false) s
  chunk_last_one {b} w h = record { nothing = λ o' e' n' P' d. (let u = chunk_told d in not_both b w u.text (sym (same_chunk b true false w u.text h u.reads).2)) }

  -- a part begins with `}` but for the first
  later_begins : {o : ℕ} (ps : Parts) {s e : S} {P : List Pair} → Runs ways S Next behind o (chunk_pieces false ps) ps s e P → (t : Token) × (m : S) × Next s t m × (begins_with (one_of "}") t.text ≡ true)
  later_begins none d = absurd (run_never S Next behind d)
  later_begins (gap ps) d = absurd (run_never S Next behind d)
  later_begins (part m (gap ps)) d = absurd (run_never S Next behind d)
  later_begins (part m none) d = let u = run_the_part S Next behind d in let v = chunk_told u.spelled in (v.sign, u.mid, v.reads.next, ap (begins_with (one_of "}")) v.reads.text)
  later_begins (part m (part x ps)) d = let u = run_the_part S Next behind d in let v = chunk_told u.spelled in (v.sign, u.mid, v.reads.next, ap (begins_with (one_of "}")) v.reads.text)

  -- an expression between parts can't go on
  module _ (alike : IsAlike S Next behind) where
    pub before_chunk : {o : ℕ} (m : Tree) (ps : Parts) {k e : S} {P : List Pair} → Runs ways S Next behind o (chunk_pieces false ps) ps k e P → Stops S Next behind Expression true m k
    before_chunk m ps {k} d =
        let v = later_begins ps d in
        record {
          before = λ u j r.
              let none_made : operation u ≡ op_none = brace_class u.class u.text (alike.brace k u v.0 j v.1 r.next v.2 ∙ v.3) r.allowed in
              ap (λ x. stops_at Expression true (edge_as_written (edge m) (behind k)) u (rank_made_by x u.after_break)) none_made;
          apart = record { name = λ u j next class line. no_name class (alike.sort k u j next (alike.brace k u v.0 j v.1 next v.2 ∙ v.3)) };
        }
      where
        no_name : {A : Type 0} {c : TokenClass} → c ≡ IdentifierName → (c ≡ Punctuator) ⊎ (c ≡ Template) → A
        no_name class (inl sign) = (let clash : IdentifierName ≡ Punctuator = sym class ∙ sign in cc)
        no_name class (inr chunk) = (let clash : IdentifierName ≡ Template = sym class ∙ chunk in cc)
