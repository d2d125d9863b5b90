-- `async` and `function` ahead, by the two tokens (ECMA-262, 13th edition, 15.8).
use Rattle.std.proofs.Common.{◌≡◌, Bool, true, false, List, ℕ, refl, sym, ap, ◌∙◌, subst}
use Rattle.std.specs.Prelude.{codes}
use Rattle.std.proofs.lemmas.Bool.{false≢true}
use Rattle.tokens.specs.Tokens.{LexicalToken}
use Rattle.tokens.specs.declared.token.TokenClass.TheVariants.{IdentifierName}
use Rattle.tokens.specs.declared.token.Goal.{Goal}
use Rattle.tokens.specs.declared.token.Goal.TheVariants.{Div}
use Rattle.token_cursor.specs.CursorState.{IsAhead, NoneAhead}
use Rattle.token_cursor.specs.SourceText.{SourceText, unseen, behind_in}
use Rattle.token_cursor.specs.Seen.{ReadsHere, Misses}
use Rattle.token_cursor.proofs.SeenTokens.{seen_determined}
use Rattle.token_cursor.proofs.TokensAhead.{seen, word_missed, word_none, name_by, ahead_read}
use Rattle.language.specs.Token.{Token, as_read, is_token}
use Rattle.parser_tables.specs.StatementStarts.{AsyncFunctionAhead, NoAsyncFunction, coded_statement_start}
use Rattle.parser_tables.specs.declared.statements.StatementStart.TheVariants as code
use Rattle.language.specs.StatementStart.{statement_start, statement_start_by}
use Rattle.language.specs.Promises.{is_free}
use Rattle.recursive_descent.proofs.complete_expressions.Agreement.{not_missed, words_same}

module _ (text : SourceText) (s : Token) (u : LexicalToken) (ahead : IsAhead Div text s.stop u) where
  -- where a word is read, reading goes on behind the token ahead
  word_ends : {w : List ℕ} {m : Token} → ReadsHere text IdentifierName w s m → m ≡ unseen (as_read u)
  word_ends {m = m} r =
      let there = ahead_read text Div s u ahead in
      ((seen_determined text).same Div s (behind_in text m) (as_read u) m (unseen (as_read u)) r.next there.next (name_by text r).allowed there.allowed).1

  module _ (v : LexicalToken) (second : IsAhead Div text u.stop v) where
    word_missed_behind : {w x : List ℕ} → is_token IdentifierName w (as_read v) ≡ false → (m : Token) → ReadsHere text IdentifierName x s m → Misses text IdentifierName w m
    word_missed_behind {w} h m r = subst (Misses text IdentifierName w) (sym (word_ends r)) (word_missed text w (unseen (as_read u)) v second h)

    -- `async` and `function`
    pub async_function : is_token IdentifierName (codes "async") (as_read u) ≡ true → is_token IdentifierName (codes "function") (as_read v) ≡ true → v.after_break ≡ false → AsyncFunctionAhead text s
    async_function is_async is_function line = record {
      mid = unseen (as_read u);
      async = seen text Div IdentifierName (codes "async") s u ahead is_async;
      behind = unseen (as_read v);
      function = seen text Div IdentifierName (codes "function") (unseen (as_read u)) v second is_function;
      same_line = line;
    }

    pub no_function : is_token IdentifierName (codes "function") (as_read v) ≡ false → NoAsyncFunction text s
    no_function h d = not_missed (word_missed_behind h d.mid d.async) d.function

    pub function_apart : is_token IdentifierName (codes "function") (as_read v) ≡ true → v.after_break ≡ true → NoAsyncFunction text s
    function_apart h line d =
        let there = seen text Div IdentifierName (codes "function") (unseen (as_read u)) v second h in
        let given = subst (λ x. ReadsHere text IdentifierName (codes "function") x d.behind) (word_ends d.async) d.function in
        let same = (words_same text given there).1 in
        false≢true (sym d.same_line ∙ ap (λ (x : Token). x.after_break) same ∙ line)

  module _ (nothing : NoneAhead Div text u.stop) where
    word_none_behind : {w x : List ℕ} → (m : Token) → ReadsHere text IdentifierName x s m → Misses text IdentifierName w m
    word_none_behind {w} m r = subst (Misses text IdentifierName w) (sym (word_ends r)) (word_none text w (unseen (as_read u)) nothing)

    pub nothing_behind : NoAsyncFunction text s
    nothing_behind d = not_missed (word_none_behind d.mid d.async) d.function

  -- another token stands ahead
  pub no_async_word : is_token IdentifierName (codes "async") (as_read u) ≡ false → NoAsyncFunction text s
  no_async_word h d = not_missed (word_missed text (codes "async") s u ahead h) d.async

pub no_async : (text : SourceText) (s : Token) → NoneAhead Div text s.stop → NoAsyncFunction text s
no_async text s nothing d = not_missed (word_none text (codes "async") s nothing) d.async

-- by each goal the token ahead is the word `async`
pub async_same : (text : SourceText) (g : Goal) (s : Token) (u : LexicalToken) → IsAhead g text s.stop u → AsyncFunctionAhead text s → (u.class ≡ IdentifierName) × ((as_read u).text ≡ codes "async")
async_same text g s u ahead d =
    let there = ahead_read text g s u ahead in
    let same = (seen_determined text).same g s (behind_in text d.mid) (as_read u) d.mid (unseen (as_read u)) d.async.next there.next ((seen_determined text).free g s (behind_in text d.mid) d.mid d.async.next (ap is_free d.async.class)) there.allowed in
    (ap (λ (x : Token). x.class) (sym same.0) ∙ d.async.class, ap (λ (x : Token). x.text) (sym same.0) ∙ d.async.text)

-- it begins no statement but an expression's
async_begins : (item r : Bool) → coded_statement_start (statement_start_by item r IdentifierName (codes "async")) ≡ code.Expression
async_begins true true = refl
async_begins true false = refl
async_begins false true = refl
async_begins false false = refl

pub async_coded : (text : SourceText) (g : Goal) (s : Token) (u : LexicalToken) (item r : Bool) → IsAhead g text s.stop u → AsyncFunctionAhead text s → coded_statement_start (statement_start item r (as_read u)) ≡ code.Expression
async_coded text g s u item r ahead d =
    let word = async_same text g s u ahead d in
    (λ i. coded_statement_start (statement_start_by item r (word.0 i) (word.1 i))) ∙ async_begins item r
