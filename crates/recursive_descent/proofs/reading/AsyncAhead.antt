-- What `async` begins that was passed, by the tokens behind it (ECMA-262, 13th edition, 15.8, 15.9).
use Rattle.std.proofs.Common.{◌≡◌, Bool, true, false, refl, sym, ap, ◌∙◌, subst}
use Rattle.std.specs.Prelude.{codes, not, ◌&&◌}
use Rattle.std.proofs.lemmas.Bool.{false≢true}
use Rattle.tokens.specs.Tokens.{LexicalToken}
use Rattle.tokens.specs.declared.token.TokenClass.TheVariants.{IdentifierName, Punctuator}
use Rattle.tokens.specs.declared.token.Goal.TheVariants.{Div}
use Rattle.token_cursor.specs.CursorState.{IsAhead, NoneAhead}
use Rattle.token_cursor.specs.SourceText.{SourceText, SeenNext, unseen, behind_in}
use Rattle.token_cursor.specs.Seen.{ReadsHere, NameHere, is_free_name}
use Rattle.token_cursor.proofs.SeenTokens.{seen_determined}
use Rattle.token_cursor.proofs.TokensAhead.{seen, word_missed, word_none, mark_missed, mark_none, name_none, name_seen, name_missed, break_seen, ahead_read}
use Rattle.language.specs.declared.Rank.TheVariants.{Assignment}
use Rattle.language.specs.declared.Start.{Start}
use Rattle.language.specs.declared.Start.TheVariants.{Any, NoBrace, Statement}
use Rattle.language.specs.Token.{Token, as_read, is_token, same_class}
use Rattle.language.specs.Vocabulary.{takes}
use Rattle.language.specs.Promises.{is_free}
use Rattle.parser_tables.specs.ExpressionStarts.{takes_function_or_class}
use Rattle.parser_tables.specs.declared.expression_context.ExpressionContext.{ExpressionContext}
use Rattle.recursive_descent.specs.declared.async_and_yield.AsyncStart.TheVariants as begun
use Rattle.recursive_descent.specs.Later.{AsyncBegun}
use Rattle.recursive_descent.proofs.complete_expressions.Agreement.{not_missed}

-- where a function may stand
pub function_stands : (f : Start) → (f ≡ Statement → ⊥) → takes_function_or_class f ≡ true
function_stands Any h = refl
function_stands NoBrace h = refl
function_stands Statement h = absurd (h refl)

pub first_false : (a b : Bool) → a ≡ false → (a && b) ≡ false
first_false false b h = refl
first_false true b h = absurd (false≢true (sym h))

pub second_false : (a b : Bool) → b ≡ false → (a && b) ≡ false
second_false false b h = refl
second_false true b h = h

module _ (text : SourceText) (p : ExpressionContext) (s : Token) where
  -- nothing is read there
  pub nothing_begun : NoneAhead Div text s.stop → AsyncBegun text p s begun.Name
  nothing_begun none = (
    λ e r line. absurd (not_missed (word_none text (codes "function") s none) r),
    λ m e r line sign on. absurd (name_none text is_free_name s none (behind_in text m) m r.0 r.1),
    λ e r line. absurd (not_missed (mark_none text (codes "(") s none) r),
  )

  module _ (u : LexicalToken) (ahead : IsAhead Div text s.stop u) where
    -- what is read stands on the next line
    pub broken_begun : u.after_break ≡ true → AsyncBegun text p s begun.Name
    broken_begun broken = (
      λ e r line. other (break_seen text Div s u ahead (behind_in text e) e r.next) line,
      λ m e r line sign on. other (break_seen text Div s u ahead (behind_in text m) m r.0.next) line,
      λ e r line. other (break_seen text Div s u ahead (behind_in text e) e r.next) line,
    )
      where
        other : {A : Type 0} {b : Bool} → b ≡ u.after_break → b ≡ false → A
        other same line = absurd (false≢true (sym line ∙ same ∙ broken))

    pub function_begun : u.after_break ≡ false → is_token IdentifierName (codes "function") (as_read u) ≡ true → takes_function_or_class p.start ≡ true → AsyncBegun text p s begun.Function
    function_begun line is stands = (unseen (as_read u), seen text Div IdentifierName (codes "function") s u ahead is, line, stands)

    pub parentheses_begun : u.after_break ≡ false → is_token Punctuator (codes "(") (as_read u) ≡ true → takes p.rank Assignment ≡ true → AsyncBegun text p s begun.Parentheses
    parentheses_begun line is tk = (unseen (as_read u), seen text Div Punctuator (codes "(") s u ahead is, line, tk)

    -- a function stands there, or may stand
    no_function : (is_token IdentifierName (codes "function") (as_read u) ≡ true → takes_function_or_class p.start ≡ false) → (e : Token) → ReadsHere text IdentifierName (codes "function") s e → takes_function_or_class p.start ≡ false
    no_function other e r = of (is_token IdentifierName (codes "function") (as_read u)) refl
      where
        of : (b : Bool) → is_token IdentifierName (codes "function") (as_read u) ≡ b → takes_function_or_class p.start ≡ false
        of true h = other h
        of false h = absurd (not_missed (word_missed text (codes "function") s u ahead h) r)

    -- no arrow may stand there
    pub tight_begun : (is_token IdentifierName (codes "function") (as_read u) ≡ true → takes_function_or_class p.start ≡ false) → takes p.rank Assignment ≡ false → AsyncBegun text p s begun.Name
    tight_begun other tight = (λ e r line. no_function other e r, λ m e r line sign on. tight, λ e r line. tight)

    -- neither parentheses nor a parameter stands there
    pub name_begun : (is_token IdentifierName (codes "function") (as_read u) ≡ true → takes_function_or_class p.start ≡ false) → is_token Punctuator (codes "(") (as_read u) ≡ false → ((m e : Token) → NameHere text is_free_name s m → ReadsHere text Punctuator (codes "=>") m e → e.after_break ≡ false → ⊥) → AsyncBegun text p s begun.Name
    name_begun other no_paren no_name = (λ e r line. no_function other e r, λ m e r line sign on. absurd (no_name m e r sign on), λ e r line. absurd (not_missed (mark_missed text (codes "(") s u ahead no_paren) r))

    -- it is no name
    pub no_parameter : (same_class IdentifierName u.class && is_free_name u.text) ≡ false → (m e : Token) → NameHere text is_free_name s m → ReadsHere text Punctuator (codes "=>") m e → e.after_break ≡ false → ⊥
    no_parameter h m e r sign on = name_missed text is_free_name s u ahead h (behind_in text m) m r.0 r.1

    -- no `=>` stands behind it
    pub no_arrow_there : ((m e : Token) → SeenNext text s (as_read u) m → ReadsHere text Punctuator (codes "=>") m e → e.after_break ≡ false → ⊥) → (m e : Token) → NameHere text is_free_name s m → ReadsHere text Punctuator (codes "=>") m e → e.after_break ≡ false → ⊥
    no_arrow_there f m e r sign on = f m e (next_there r) sign on
      where
        next_there : {m : Token} → NameHere text is_free_name s m → SeenNext text s (as_read u) m
        next_there {m} r =
            let there = ahead_read text Div s u ahead in
            let same = (seen_determined text).same Div s (behind_in text m) (as_read u) m (unseen (as_read u)) r.0.next there.next ((seen_determined text).free Div s (behind_in text m) m r.0.next (ap is_free r.0.class)) there.allowed in
            subst (λ c. SeenNext text s (as_read u) c) (sym same.1) there.next

    pub parameter_begun : {m e : Token} → u.after_break ≡ false → (same_class IdentifierName u.class && is_free_name u.text) ≡ true → SeenNext text s (as_read u) m → ReadsHere text Punctuator (codes "=>") m e → e.after_break ≡ false → takes p.rank Assignment ≡ true → AsyncBegun text p s begun.Parameter
    parameter_begun {m} {e} line is next sign on tk =
        let name = name_seen text is_free_name Div s u ahead is in
        let there = ahead_read text Div s u ahead in
        let place : m ≡ unseen (as_read u) = ((seen_determined text).same Div s (as_read u) (as_read u) m (unseen (as_read u)) next there.next there.allowed there.allowed).1 in
        (unseen (as_read u), e, name, line, subst (λ c. ReadsHere text Punctuator (codes "=>") c e) place sign, on, tk)

-- `=>` behind the token ahead
module _ (text : SourceText) (s : Token) (u : LexicalToken) (ahead : IsAhead Div text s.stop u) where
  ends_there : {m : Token} → SeenNext text s (as_read u) m → m ≡ unseen (as_read u)
  ends_there {m} next = let there = ahead_read text Div s u ahead in ((seen_determined text).same Div s (as_read u) (as_read u) m (unseen (as_read u)) next there.next there.allowed there.allowed).1

  pub arrow_behind : (v : LexicalToken) → IsAhead Div text u.stop v → is_token Punctuator (codes "=>") (as_read v) ≡ true → v.after_break ≡ false → (m : Token) × (e : Token) × SeenNext text s (as_read u) m × ReadsHere text Punctuator (codes "=>") m e × (e.after_break ≡ false)
  arrow_behind v second is line = (unseen (as_read u), unseen (as_read v), (ahead_read text Div s u ahead).next, seen text Div Punctuator (codes "=>") (unseen (as_read u)) v second is, line)

  pub arrow_apart : (v : LexicalToken) → IsAhead Div text u.stop v → (is_token Punctuator (codes "=>") (as_read v) && not v.after_break) ≡ false → (m e : Token) → SeenNext text s (as_read u) m → ReadsHere text Punctuator (codes "=>") m e → e.after_break ≡ false → ⊥
  arrow_apart v second h m e next sign on = of (is_token Punctuator (codes "=>") (as_read v)) refl h
    where
      there : ReadsHere text Punctuator (codes "=>") (unseen (as_read u)) e
      there = subst (λ c. ReadsHere text Punctuator (codes "=>") c e) (ends_there next) sign

      of : (b : Bool) → is_token Punctuator (codes "=>") (as_read v) ≡ b → (b && not v.after_break) ≡ false → ⊥
      of false is h = not_missed (mark_missed text (codes "=>") (unseen (as_read u)) v second is) there
      of true is h = broken v.after_break h (break_seen text Div (unseen (as_read u)) v second (behind_in text e) e there.next)
        where
          broken : (b : Bool) → not b ≡ false → e.after_break ≡ b → ⊥
          broken true k same = false≢true (sym on ∙ same)
          broken false k same = cc

  pub arrow_none : NoneAhead Div text u.stop → (m e : Token) → SeenNext text s (as_read u) m → ReadsHere text Punctuator (codes "=>") m e → e.after_break ≡ false → ⊥
  arrow_none none m e next sign on = not_missed (mark_none text (codes "=>") (unseen (as_read u)) none) (subst (λ c. ReadsHere text Punctuator (codes "=>") c e) (ends_there next) sign)
