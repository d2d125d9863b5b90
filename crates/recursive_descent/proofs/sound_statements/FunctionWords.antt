-- The words of a function behind the first of them, as they are read (ECMA-262, 13th edition, 15.2, 15.5, 15.6, 15.8).
use Rattle.std.proofs.Common.{◌≡◌, inl, inr, Bool, true, false, [], refl, sym, ap, ◌∙◌, subst}
use Rattle.std.specs.Prelude.{codes}
use Rattle.std.proofs.lemmas.Bool.{false≢true}
use Rattle.tokens.specs.declared.token.TokenClass.TheVariants.{IdentifierName, Punctuator}
use Rattle.tokens.specs.declared.token.Goal.TheVariants.{RegExp}
use Rattle.token_cursor.specs.CursorState.{CursorState}
use Rattle.token_cursor.specs.Seen.{ReadsHere, Misses}
use Rattle.token_cursor.specs.SourceText.{SourceText, behind_in}
use Rattle.token_cursor.proofs.SeenTokens.{seen_determined}
use Rattle.tree.specs.declared.kind.Form.{Form}
use Rattle.tree.specs.declared.kind.Form.TheVariants.{Init, Generator, Async, AsyncGenerator}
use Rattle.tree.specs.Tree.{none}
use Rattle.tree.specs.Uses.{is_async}
use Rattle.language.specs.Languages.{is_of_2022}
use Rattle.language.specs.Promises.{is_free}
use Rattle.language.specs.Derivation.{done, step, token, laid, same_line}
use Rattle.recursive_descent.specs.Soundness.{RunsIn}
use Rattle.recursive_descent.specs.Expectations.{IsUnbroken}
use Rattle.recursive_descent.specs.Later.{StarredAt, WordsAt, WordsOf, FirstWord, FirstWordOf, MissesWordOf, FormOfLanguage, is_starred}
use Rattle.tokens.specs.Tokens.{LexicalToken}
use Rattle.token_cursor.specs.CursorState.{IsAhead}
use Rattle.token_cursor.specs.SourceText.{unseen}
use Rattle.token_cursor.proofs.TokensAhead.{ahead_read}
use Rattle.language.specs.StatementStart.{StatementStart}
use Rattle.language.specs.Token.{as_read}
use Rattle.parser_tables.specs.declared.functions_and_classes.FunctionOrClass.{FunctionOrClass}
use Rattle.parser_tables.specs.declared.functions_and_classes.FunctionOrClass.TheVariants as closure
use Rattle.parser_tables.specs.declared.statements.StatementStart.TheVariants as code
use Rattle.parser_tables.specs.StatementStarts.{coded_statement_start, AsyncFunctionAhead, BegunWith}
use Rattle.parser_tables.specs.StatementSymbols.{function_or_class_form}
use Rattle.recursive_descent.proofs.sound_statements.OwnTokenStatements.{coded_closure}

abbrev Told : CursorState → CursorState → Form → Form → Type 0
Told s e x y = WordsAt s e y × (is_async y ≡ is_async x)

-- behind `function` a `*`, or none
pub words_plain : (s e : CursorState) (x y : Form) → is_async x ≡ false → FirstWord s x → StarredAt s e x y → Told s e x y
words_plain s e x y plain (inr first) star = absurd (false≢true (sym plain ∙ ap is_async first.0))
words_plain s e x y plain (inl first) star = of (subst (λ z. StarredAt s e z y) first star)
  where
    same_async : {z : Form} → y ≡ z → is_async z ≡ false → is_async y ≡ is_async x
    same_async is other = ap is_async is ∙ other ∙ sym plain

    of : StarredAt s e Init y → Told s e x y
    of (inl h) = (subst (λ z. WordsAt s e z) (sym h.2) (refl, (λ o. step (token h.1) done), ((λ _. h.0), (λ k. absurd (false≢true (sym k))))), same_async h.2 refl)
    of (inr h) = (subst (λ z. WordsAt s e z) (sym h.1) (refl, (λ o. subst (λ k. RunsIn s.text o [] none s.last k []) (sym h.0) done), ((λ k. absurd (false≢true k)), (λ _ later. subst (λ z. Misses s.text Punctuator (codes "*") z) (sym h.0) (h.2 later)))), same_async h.1 refl)

-- behind `async` the word `function`, on its line, and a `*` or none
pub words_async : (s m e : CursorState) (x y : Form) → is_async x ≡ true → FirstWord s x → m.text ≡ s.text → ReadsHere s.text IdentifierName (codes "function") s.last m.last → StarredAt m e x y → Told s e x y
words_async s m e x y async (inl first) same r star = absurd (false≢true (sym (ap is_async first) ∙ async))
words_async s m e x y async (inr first) same r star = of (subst (λ z. StarredAt m e z y) first.0 star)
  where
    line : (behind_in s.text m.last).after_break ≡ false
    line = first.1 (behind_in s.text m.last) m.last (record { next = r.next; allowed = (seen_determined s.text).free RegExp s.last (behind_in s.text m.last) m.last r.next (ap is_free r.class) })

    same_async : {z : Form} → y ≡ z → is_async z ≡ true → is_async y ≡ is_async x
    same_async is other = ap is_async is ∙ other ∙ sym async

    of : StarredAt m e Async y → Told s e x y
    of (inl h) =
        let star = subst (λ z. ReadsHere z Punctuator (codes "*") m.last e.last) same h.1 in
        let later = subst (λ (z : SourceText). is_of_2022 z.language ≡ true) same h.0 in
        (subst (λ z. WordsAt s e z) (sym h.2) (refl, (λ o. step (same_line r.next line) (step laid (step (token r) (step (token star) done)))), ((λ _. later), (λ k. absurd (false≢true (sym k))))), same_async h.2 refl)
    of (inr h) =
        let missed = subst (λ (z : SourceText). is_of_2022 z.language ≡ true → Misses z Punctuator (codes "*") m.last) same h.2 in
        (subst (λ z. WordsAt s e z) (sym h.1) (refl, (λ o. step (same_line r.next line) (step laid (step (token r) (subst (λ k. RunsIn s.text o [] none m.last k []) (sym h.0) done)))), ((λ k. absurd (false≢true k)), (λ _ later. subst (λ z. Misses s.text Punctuator (codes "*") z) (sym h.0) (missed later)))), same_async h.1 refl)

-- Behind the first word of a declaration: what is required of it, that the other stands there, and that its form is one of the language.
module _ (s m : CursorState) (i : Bool) (begins : StatementStart) (w : FunctionOrClass) (begun : BegunWith s.text s.last i (coded_statement_start begins) (code.FunctionOrClass w)) (text : m.text ≡ s.text) where
  closure_is : {a b : FunctionOrClass} → code.FunctionOrClass a ≡ code.FunctionOrClass b → a ≡ b
  closure_is q = cc

  module _ (t : LexicalToken) (ahead : IsAhead RegExp s.text s.last.stop t) (last : m.last ≡ unseen (as_read t)) where
    word_behind : (h : AsyncFunctionAhead s.text s.last) → ReadsHere m.text IdentifierName (codes "function") m.last h.behind
    word_behind h =
        let read = ahead_read s.text RegExp s.last t ahead in
        let free = (seen_determined s.text).free RegExp s.last (behind_in s.text h.mid) h.mid h.async.next (ap is_free h.async.class) in
        let same = (seen_determined s.text).same RegExp s.last (as_read t) (behind_in s.text h.mid) (unseen (as_read t)) h.mid read.next h.async.next read.allowed free in
        subst (λ z. ReadsHere z IdentifierName (codes "function") m.last h.behind) (sym text) (subst (λ z. ReadsHere s.text IdentifierName (codes "function") z h.behind) (sym (last ∙ same.1)) h.function)

    pub first_word : FirstWordOf m w
    first_word = of begun
      where
        of : BegunWith s.text s.last i (coded_statement_start begins) (code.FunctionOrClass w) → FirstWordOf m w
        of (inl h) =
            let r = word_behind h.4 in
            let line : IsUnbroken m = λ u e read. (seen_determined m.text).break m.last u (behind_in m.text h.4.behind) e h.4.behind read.next r.next ∙ h.4.same_line in
            subst (FirstWordOf m) (sym (closure_is h.0)) (inr (refl, line))
        of (inr h) = elim (coded_closure w begins h.0) [ inl u ↦ subst (FirstWordOf m) (sym u.1) (inl refl) | inr u ↦ subst (FirstWordOf m) (sym u.1) tt ]

    pub words_there : MissesWordOf m w → ⊥
    words_there missed = of begun
      where
        of : BegunWith s.text s.last i (coded_statement_start begins) (code.FunctionOrClass w) → ⊥
        of (inl h) = (subst (MissesWordOf m) (closure_is h.0) missed).1 (behind_in m.text h.4.behind) h.4.behind (word_behind h.4)
        of (inr h) = elim (coded_closure w begins h.0) [ inl u ↦ (let q = (subst (MissesWordOf m) u.1 missed).0 in cc) | inr u ↦ subst (MissesWordOf m) u.1 missed ]

  later_form : (y : Form) → is_async y ≡ false → (is_starred y ≡ true → is_of_2022 s.text.language ≡ true) → FormOfLanguage s.text y
  later_form Generator h star = λ base. absurd (false≢true (sym (ap is_of_2022 base) ∙ star refl))
  later_form Async h star = absurd (false≢true (sym h))
  later_form AsyncGenerator h star = absurd (false≢true (sym h))
  later_form _ h star = λ base. refl

  pub words_form : (k : CursorState) (v : FunctionOrClass) → WordsOf w v m k → FormOfLanguage s.text (function_or_class_form v)
  words_form k v words = of begun
    where
      init : (v : FunctionOrClass) → WordsOf (closure.FunctionDeclaration Init) v m k → FormOfLanguage s.text (function_or_class_form v)
      init (closure.FunctionDeclaration y) words = later_form y words.1 (λ star. subst (λ (z : SourceText). is_of_2022 z.language ≡ true) text (words.0.2.0 star))
      init (closure.Function y) words = (let q = words.0 in cc)
      init (closure.DefaultFunction y) words = (let q = words.0 in cc)
      init (closure.Method y) words = (let q = words.0 in cc)
      init closure.Class words = (let q = words.0 in cc)
      init closure.ClassDeclaration words = (let q = words.0 in cc)
      init closure.DefaultClass words = (let q = words.0 in cc)

      of : BegunWith s.text s.last i (coded_statement_start begins) (code.FunctionOrClass w) → FormOfLanguage s.text (function_or_class_form v)
      of (inl h) = λ base. absurd (false≢true (sym (ap is_of_2022 base) ∙ h.2))
      of (inr h) = elim (coded_closure w begins h.0) [
        | inl u ↦ init v (subst (λ z. WordsOf z v m k) u.1 words)
        | inr u ↦ subst (λ z. FormOfLanguage s.text (function_or_class_form z)) (sym (subst (λ z. WordsOf z v m k) u.1 words).0) (λ base. refl)
      ]
