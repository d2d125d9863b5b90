-- What a token begins where a statement may stand, by its class.
use Rattle.std.proofs.Common.{◌≡◌, ℕ, Bool, true, false, cond, List, [], ◌∷◌, ◌++◌, refl, sym, ap, ◌∙◌}
use Rattle.std.specs.Prelude.{slice_index_or, filter, codes}
use Prim.Native.String.{String}
use Rattle.tokens.specs.declared.token.TokenClass.{TokenClass}
use Rattle.tokens.specs.declared.token.TokenClass.TheVariants.{IdentifierName}
use Rattle.tokens.specs.Tokens.{LexicalToken}
use Rattle.language.specs.Vocabulary.{among}
use Rattle.language.specs.StatementStart.{StatementStart, statement_start_among, statement_start_by, statement_start, statement_words, declaration_words}
use Rattle.language.specs.Token.{table_text, as_read}
use Rattle.parser_tables.specs.StatementStarts.{coded_statement_start}
use Rattle.parser_tables.specs.declared.statements.StatementStart.TheVariants as code
use Rattle.grammar.specs.OperatorRows.{only_texts, begins_with}
use Rattle.grammar.proofs.Firsts.{among_only, OneByte, NoByte, begins, begins_else, begins_other}

pub begun_by : (item returns : Bool) (t : LexicalToken) (c : TokenClass) → t.class ≡ c → coded_statement_start (statement_start_by item returns c (table_text c t.text)) ≡ coded_statement_start (statement_start item returns (as_read t))
begun_by item returns t c e = ap (λ d. coded_statement_start (statement_start_by item returns d (table_text d t.text))) (sym e)

-- a word is looked for among those that begin as it does
beginning_only : (p : List ℕ → Bool) (w : List ℕ) (rows : List (List String × StatementStart)) → p w ≡ true → statement_start_among w rows ≡ statement_start_among w (only_texts p rows)
beginning_only p w [] h = refl
beginning_only p w (row ∷ rows) h =
    ap (λ b. cond b row.1 (statement_start_among w rows)) (among_only p w row.0 h)
    ∙ ap (cond (among w (filter (λ s. p (codes s)) row.0)) row.1) (beginning_only p w rows h)

-- no declaration begins with another byte
pub undeclared : (w : List ℕ) (r : Bool) (b : ℕ) → b ≡ slice_index_or w 0 0 → NoByte b (codes "cfl") → coded_statement_start (statement_start_by false r IdentifierName w) ≡ coded_statement_start (statement_start_by true r IdentifierName w)
undeclared w r b e h =
    let p = begins_else (codes "cfl") in
    let k : p w ≡ true = begins_other w b (codes "cfl") e h in
    ap coded_statement_start (beginning_only p w (statement_words r) k ∙ sym (beginning_only p w (declaration_words ++ statement_words r) k))

pub states_first : (bs : List ℕ) (w : List ℕ) (r : Bool) (b : ℕ) → b ≡ slice_index_or w 0 0 → OneByte b bs →
    coded_statement_start (statement_start_among w (only_texts (begins_with bs) (statement_words r))) ≡ coded_statement_start (statement_start_by false r IdentifierName w)
states_first bs w r b e h = sym (ap coded_statement_start (beginning_only (begins_with bs) w (statement_words r) (begins w b bs e h)))

pub states_no_first : (w : List ℕ) (r : Bool) (b : ℕ) → b ≡ slice_index_or w 0 0 → NoByte b (codes "bdicfvrtsw") → code.Expression ≡ coded_statement_start (statement_start_by false r IdentifierName w)
states_no_first w r b e h =
    sym (ap coded_statement_start (beginning_only (begins_else (codes "bdicfvrtsw")) w (statement_words r) (begins_other w b (codes "bdicfvrtsw") e h)))
