-- `import` and `.` ahead, by the two tokens (ECMA-262, 13th edition, 13.3.12).
use Rattle.std.proofs.Common.{◌≡◌, true, false, List, ℕ, sym, ap, ◌∙◌, subst}
use Rattle.std.specs.Prelude.{codes, ◌&&◌}
use Rattle.std.specs.Str.{bytes_eq}
use Rattle.std.proofs.lemmas.Bool.{false≢true}
use Rattle.tokens.specs.Tokens.{LexicalToken}
use Rattle.tokens.specs.declared.token.TokenClass.TheVariants.{IdentifierName, Punctuator}
use Rattle.tokens.specs.declared.token.Goal.TheVariants.{Div, RegExp}
use Rattle.token_cursor.specs.CursorState.{IsAhead, NoneAhead}
use Rattle.token_cursor.specs.SourceText.{SourceText, unseen, behind_in}
use Rattle.token_cursor.specs.Seen.{ReadsHere, Misses}
use Rattle.token_cursor.proofs.SeenTokens.{seen_determined}
use Rattle.token_cursor.proofs.TokensAhead.{seen, sees, mark_missed, mark_none, ahead_read}
use Rattle.language.specs.Token.{Token, as_read, is_token, same_class}
use Rattle.language.specs.Promises.{is_free}
use Rattle.parser_tables.specs.ExpressionStarts.{MetaAhead}
use Rattle.recursive_descent.proofs.complete_expressions.Agreement.{not_missed}

module _ (text : SourceText) (s : Token) (u : LexicalToken) (ahead : IsAhead RegExp text s.stop u) where
  -- a word that is read there is the token ahead
  word_same : {w : List ℕ} {m : Token} → ReadsHere text IdentifierName w s m → (behind_in text m ≡ as_read u) × (m ≡ unseen (as_read u))
  word_same {m = m} r =
      let there = ahead_read text RegExp s u ahead in
      (seen_determined text).same RegExp s (behind_in text m) (as_read u) m (unseen (as_read u)) r.next there.next ((seen_determined text).free RegExp s (behind_in text m) m r.next (ap is_free r.class)) there.allowed

  pub no_import : is_token IdentifierName (codes "import") (as_read u) ≡ false → MetaAhead text s → ⊥
  no_import h d =
      let same = (word_same d.import_word).0 in
      let is : is_token IdentifierName (codes "import") (behind_in text d.mid) ≡ true = (λ i. same_class IdentifierName (d.import_word.class i) && bytes_eq (d.import_word.text i) (codes "import")) in
      false≢true (sym h ∙ ap (is_token IdentifierName (codes "import")) (sym same) ∙ is)

  module _ (v : LexicalToken) (second : IsAhead Div text u.stop v) where
    pub meta_ahead : is_token IdentifierName (codes "import") (as_read u) ≡ true → is_token Punctuator (codes ".") (as_read v) ≡ true → MetaAhead text s
    meta_ahead h k = record {
      mid = unseen (as_read u);
      import_word = seen text RegExp IdentifierName (codes "import") s u ahead h;
      dot = sees text Div Punctuator (codes ".") (unseen (as_read u)) v second k;
    }

    pub no_dot : is_token Punctuator (codes ".") (as_read v) ≡ false → MetaAhead text s → ⊥
    no_dot h d = not_missed (subst (Misses text Punctuator (codes ".")) (sym (word_same d.import_word).1) (mark_missed text (codes ".") (unseen (as_read u)) v second h)) d.dot.1

  pub nothing_behind : NoneAhead Div text u.stop → MetaAhead text s → ⊥
  nothing_behind nothing d = not_missed (subst (Misses text Punctuator (codes ".")) (sym (word_same d.import_word).1) (mark_none text (codes ".") (unseen (as_read u)) nothing)) d.dot.1
