-- What the token ahead begins, by its class, and whether it stands at a position.
use Rattle.std.proofs.Common.{◌≡◌, ℕ, Bool, true, false, cond, List, [], ◌∷◌, refl, sym, ap, ◌∙◌}
use Rattle.std.specs.Prelude.{IsFalse, ◌&&◌, ◌||◌, Option, Some, None, codes}
use Rattle.std.proofs.lemmas.Bool.{false≢true, and_parts}
use Rattle.std.proofs.lemmas.Slice.Eq.{bytes_eq-Decides}
use Prim.Native.String.{String}
use Rattle.tokens.specs.declared.token.TokenClass.{TokenClass}
use Rattle.tokens.specs.declared.token.TokenClass.TheVariants.{IdentifierName, Punctuator, Keyword}
use Rattle.tokens.specs.declared.token.Goal.TheVariants.{RegExp}
use Rattle.tokens.specs.Tokens.{LexicalToken}
use Rattle.language.specs.declared.Language.{Language}
use Rattle.language.specs.declared.Rank.{Rank}
use Rattle.language.specs.declared.Rank.TheVariants.{Assignment, Relational, Unary}
use Rattle.language.specs.declared.Start.{Start}
use Rattle.tree.specs.declared.kind.Kind.TheVariants.{Identifier}
use Rattle.language.specs.Vocabulary.{is, among, is_reserved, is_keyword, takes}
use Rattle.language.specs.Languages.{is_of_2022}
use Rattle.language.specs.Promises.{is_free}
use Rattle.language.specs.ExpressionStart.{ExpressionStart, start_words, start_among, with_name, with_literal, with_this, with_bracket, with_brace, with_function, with_class, with_template, with_parenthesis, with_super, with_new, with_import, with_yield, with_private_name, with_step, with_word, with_sign, no_start, expression_start_by, expression_start}
use Rattle.language.specs.Token.{Token, table_text, as_read}
use Rattle.token_cursor.specs.SourceText.{SourceText, behind_in}
use Rattle.token_cursor.specs.CursorState.{IsAhead, NoneAhead}
use Rattle.parser_tables.specs.declared.expression_context.ExpressionContext.{ExpressionContext}
use Rattle.parser_tables.specs.declared.expression_starts.ExpressionStart.{ExpressionStart as Coded}
use Rattle.parser_tables.specs.declared.expression_starts.ExpressionStart.TheVariants as code
use Rattle.parser_tables.specs.ExpressionStarts.{coded_start, start_in, with_async, coded_name, coded_word, coded_in, stands_at, stood, opens_at, opens_in, MetaAhead, OpensNothing}
use Rattle.token_cursor.proofs.SeenTokens.{seen_determined}
use Rattle.token_cursor.proofs.TokensAhead.{same_ahead, none_ahead, of_ahead}

-- what a token begins, by its class
pub by_class : (l : Language) (t : LexicalToken) (c : TokenClass) → t.class ≡ c → with_async l (table_text c t.text) (coded_start (start_in l (expression_start_by c (table_text c t.text)))) ≡ coded_in l (as_read t)
by_class l t c e = ap (λ d. with_async l (table_text d t.text) (coded_start (start_in l (expression_start_by d (table_text d t.text))))) (sym e)

stood_if : Rank → Bool → Start → Option Coded → Bool
stood_if y i f None = false
stood_if y i f (Some c) = stood y i f c

-- what the code has for an opening stands where that does
same_if : (l : Language) (w : List ℕ) (y : Rank) (i : Bool) (f : Start) (x : ExpressionStart) (o : Option Coded) → with_async l w (coded_start x) ≡ o → stands_at y i f x ≡ stood_if y i f o
unfolding stood_if
same_if l w y i f x o h = of x ∙ ap (stood_if y i f) h
  where
    named : (b : Bool) → true ≡ stood y i f (cond b code.Async (code.OneToken Identifier))
    named true = refl
    named false = refl

    of : (x : ExpressionStart) → stands_at y i f x ≡ stood_if y i f (with_async l w (coded_start x))
    of with_name = named (is_of_2022 l && is w "async")
    of with_literal = refl
    of with_this = refl
    of with_bracket = refl
    of with_brace = refl
    of with_function = refl
    of with_class = refl
    of with_template = refl
    of with_parenthesis = refl
    of with_super = refl
    of with_new = refl
    of with_import = refl
    of with_yield = refl
    of with_private_name = refl
    of with_step = refl
    of with_word = refl
    of with_sign = refl
    of no_start = refl

stands_in : (l : Language) (p : ExpressionContext) (t : Token) (c : Coded) (b : Bool) → coded_in l t ≡ Some c → stood p.rank p.has_in p.start c ≡ b → opens_in l p t ≡ b
unfolding stood_if
stands_in l p t c b h k = same_if l t.text p.rank p.has_in p.start (start_in l (expression_start t)) (Some c) h ∙ k

stands_nowhere : (l : Language) (p : ExpressionContext) (t : Token) → coded_in l t ≡ None → opens_in l p t ≡ false
unfolding stood_if
stands_nowhere l p t h = same_if l t.text p.rank p.has_in p.start (start_in l (expression_start t)) None h

-- what begins an expression in a language begins one of the table
of_language : (l : Language) (y : Rank) (i : Bool) (f : Start) (x : ExpressionStart) → stands_at y i f (start_in l x) ≡ true → stands_at y i f x ≡ true
of_language l y i f with_yield h = by (is_of_2022 l) h where
  by : (b : Bool) → stands_at y i f (cond b with_yield no_start) ≡ true → takes y Assignment ≡ true
  by true h = h
  by false h = cc
of_language l y i f with_private_name h = by (is_of_2022 l) h where
  by : (b : Bool) → stands_at y i f (cond b with_private_name no_start) ≡ true → (takes y Relational && i) ≡ true
  by true h = h
  by false h = cc
of_language l y i f x h = h

pub stands_same : (l : Language) (p : ExpressionContext) (t : Token) (c : Coded) → coded_in l t ≡ Some c → stood p.rank p.has_in p.start c ≡ true → opens_at p t ≡ true
stands_same l p t c h k = of_language l p.rank p.has_in p.start (expression_start t) (stands_in l p t c true h k)

-- where `import.meta` stands, the token ahead begins what `import` does
pub meta_coded : (text : SourceText) (s : Token) (u : LexicalToken) → IsAhead RegExp text s.stop u → MetaAhead text s → coded_in text.language (as_read u) ≡ Some code.Import
meta_coded text s u a m =
    let r = m.import_word in
    let t = behind_in text m.mid in
    let free : is_free t.class ≡ true = ap is_free r.class in
    let same : t ≡ as_read u = same_ahead text RegExp s u a t m.mid (record { next = r.next; allowed = (seen_determined text).free RegExp s t m.mid r.next free }) in
    ap (coded_in text.language) (sym same) ∙ coded t r.class r.text
  where
    coded : (t : Token) → t.class ≡ IdentifierName → t.text ≡ codes "import" → coded_in text.language t ≡ Some code.Import
    coded t c w = ap (λ d. with_async text.language t.text (coded_start (start_in text.language (expression_start_by d t.text)))) c ∙ ap (coded_word text.language) w

-- where the token ahead begins nothing, nothing does
nothing_ahead : (text : SourceText) (p : ExpressionContext) (s : Token) (u : LexicalToken) → IsAhead RegExp text s.stop u → opens_in text.language p (as_read u) ≡ false →
    (is_of_2022 text.language ≡ true → MetaAhead text s → ⊥) → OpensNothing text p s
nothing_ahead text p s u a h meta t m r = (of_ahead text (λ t. IsFalse (opens_in text.language p t)) RegExp s u a h t m r, meta)

pub nothing_coded : (text : SourceText) (p : ExpressionContext) (s : Token) (u : LexicalToken) → IsAhead RegExp text s.stop u → coded_in text.language (as_read u) ≡ None → OpensNothing text p s
nothing_coded text p s u a h = nothing_ahead text p s u a (stands_nowhere text.language p (as_read u) h) (λ of_2022 meta. apart (coded_in text.language (as_read u)) h (meta_coded text s u a meta))
  where
    apart : (o : Option Coded) → o ≡ None → o ≡ Some code.Import → ⊥
    apart o h k = cc

pub nothing_stands : (text : SourceText) (p : ExpressionContext) (s : Token) (u : LexicalToken) (c : Coded) → IsAhead RegExp text s.stop u → coded_in text.language (as_read u) ≡ Some c → stood p.rank p.has_in p.start c ≡ false →
    (c ≡ code.Import → is_of_2022 text.language ≡ true → MetaAhead text s → ⊥) → OpensNothing text p s
nothing_stands text p s u c a h k none =
    nothing_ahead text p s u a (stands_in text.language p (as_read u) c false h k) (λ of_2022 meta. (let same : Some c ≡ Some code.Import = sym h ∙ meta_coded text s u a meta in none (cc) of_2022 meta))

pub nothing_read : (text : SourceText) (p : ExpressionContext) (s : Token) → NoneAhead RegExp text s.stop → OpensNothing text p s
nothing_read text p s none t m r = absurd (none_ahead text RegExp s none t m r)

-- what a punctuator begins is the same in each language
pub marks_same : (l : Language) (w : List ℕ) → coded_start (expression_start_by Punctuator w) ≡ with_async l w (coded_start (start_in l (expression_start_by Punctuator w)))
marks_same l w = by (among w ("[" ∷ [])) (among w ("{" ∷ [])) (among w ("(" ∷ [])) (among w ("++" ∷ "--" ∷ [])) (among w ("+" ∷ "-" ∷ "~" ∷ "!" ∷ []))
  where
    by : (a b c d e : Bool) →
        coded_start (cond a with_bracket (cond b with_brace (cond c with_parenthesis (cond d with_step (cond e with_sign no_start))))) ≡
        with_async l w (coded_start (start_in l (cond a with_bracket (cond b with_brace (cond c with_parenthesis (cond d with_step (cond e with_sign no_start)))))))
    by true b c d e = refl
    by false true c d e = refl
    by false false true d e = refl
    by false false false true e = refl
    by false false false false true = refl
    by false false false false false = refl

-- a keyword begins an expression just where it is `await`
pub await_begins : (w : List ℕ) → w ≡ codes "await" → Some (code.Prefix Unary Unary) ≡ coded_start (expression_start_by Keyword w)
unfolding is_keyword
await_begins w h = ap (λ v. coded_start (expression_start_by Keyword v)) (sym h)

pub nothing_begins : (w : List ℕ) → (w ≡ codes "await" → ⊥) → None ≡ coded_start (expression_start_by Keyword w)
unfolding is_keyword
nothing_begins w h = by (is w "await") refl
  where
    by : (b : Bool) → is w "await" ≡ b → None ≡ coded_start (cond (b || false) with_word no_start)
    by true e = absurd (h ((bytes_eq-Decides w (codes "await")).0 e))
    by false e = refl

-- what begins with a word of its own begins with a reserved word
abbrev all_reserved : List String → Bool
all_reserved [] = true
all_reserved (s ∷ ss) = is_reserved (codes s) && all_reserved ss

abbrev rows_reserved : List (List String × ExpressionStart) → Bool
rows_reserved [] = true
rows_reserved (row ∷ rows) = all_reserved row.0 && rows_reserved rows

not_among : (w : List ℕ) (ss : List String) → is_reserved w ≡ false → all_reserved ss ≡ true → among w ss ≡ false
not_among w [] h u = refl
not_among w (s ∷ ss) h u =
    let v = and_parts (is_reserved (codes s)) (all_reserved ss) u in
    of (is w s) refl v.0 (not_among w ss h v.1)
  where
    of : (b : Bool) → is w s ≡ b → is_reserved (codes s) ≡ true → among w ss ≡ false → (b || among w ss) ≡ false
    of true e k f = absurd (false≢true (sym h ∙ (ap is_reserved ((bytes_eq-Decides w (codes s)).0 e) ∙ k)))
    of false e k f = f

opening_else : (w : List ℕ) (rows : List (List String × ExpressionStart)) (x : ExpressionStart) → is_reserved w ≡ false → rows_reserved rows ≡ true → start_among w rows x ≡ x
opening_else w [] x h u = refl
opening_else w (row ∷ rows) x h u =
    let v = and_parts (all_reserved row.0) (rows_reserved rows) u in
    ap (λ b. cond b row.1 (start_among w rows x)) (not_among w row.0 h v.0) ∙ opening_else w rows x h v.1

words_reserved : rows_reserved start_words ≡ true
unfolding is_reserved
words_reserved = refl

pub unreserved : (l : Language) (w : List ℕ) → is_reserved w ≡ false → Some (coded_name l w) ≡ coded_word l w
unreserved l w h =
    sym (ap (λ x. with_async l w (coded_start (start_in l x))) (opening_else w start_words (cond (is_reserved w) no_start with_name) h words_reserved ∙ ap (λ b. cond b no_start with_name) h))
