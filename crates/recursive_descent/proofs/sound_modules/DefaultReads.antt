-- What is read behind `export default`: a function or a class behind its words, or a value and its end (ECMA-262, 13th edition, 16.2.3).
use Rattle.std.proofs.Common.{◌≡◌, inl, inr, ℕ, true, cond, List, [], refl, sym, ap, ◌∙◌, subst}
use Rattle.std.specs.Prelude.{codes}
use Rattle.tokens.specs.declared.token.TokenClass.TheVariants.{IdentifierName}
use Rattle.tokens.specs.declared.token.Goal.TheVariants.{Div}
use Rattle.tokens.specs.declared.token.Token.{Token as Scanned}
use Rattle.tokens.specs.Scanned.{token_of}
use Rattle.tree.specs.declared.kind.Kind.TheVariants.{FunctionDeclaration, ClassDeclaration, ExportDefaultDeclaration}
use Rattle.tree.specs.declared.kind.Form.{Form}
use Rattle.tree.specs.declared.kind.Form.TheVariants as form
use Rattle.tree.specs.declared.kind.Pair.{Pair}
use Rattle.tree.specs.Tree.{Tree, node, plain, none, part}
use Rattle.tree.specs.Uses.{is_async}
use Rattle.language.specs.declared.Rank.TheVariants.{Assignment}
use Rattle.language.specs.declared.Start.TheVariants.{Any}
use Rattle.language.specs.Expressions.{function_words}
use Rattle.language.specs.Edges.{edge_as_written}
use Rattle.language.specs.Token.{Token, as_read, table_text}
use Rattle.language.proofs.table.BareEdges.{edge_bare}
use Rattle.token_cursor.specs.CursorState.{CursorState, IsAhead}
use Rattle.token_cursor.specs.SourceText.{SourceText, behind_in, unseen}
use Rattle.token_cursor.specs.Seen.{ReadsHere, MissesBy}
use Rattle.token_cursor.specs.StatementEnds.{EndsAt, IsEnd}
use Rattle.token_cursor.specs.declared.semicolon.StatementEnd.TheVariants.{AfterExpression}
use Rattle.token_cursor.proofs.TokensAhead.{ahead_next, ahead_read}
use Rattle.token_cursor.proofs.SeenTokens.{seen_determined}
use Rattle.language.specs.Promises.{is_free}
use Rattle.parser_tables.specs.declared.operand.Operand.{Operand}
use Rattle.parser_tables.specs.declared.functions_and_classes.FunctionOrClass.{FunctionOrClass}
use Rattle.parser_tables.specs.declared.functions_and_classes.FunctionOrClass.TheVariants as closure
use Rattle.parser_tables.specs.StatementStarts.{NoAsyncFunction, AsyncFunctionAhead}
use Rattle.recursive_descent.specs.Soundness.{RunsIn, anywhere, Adds, Begins, ReadAt}
use Rattle.recursive_descent.specs.SoundnessOfStatements.{ClosureAt}
use Rattle.recursive_descent.specs.Later.{behind_first, WordsOf, WordsAt, FirstWordOf, MissesWordOf}
use Rattle.recursive_descent.specs.ModuleItems.{begins_default, DefaultBegun, ExportBehind}
use Rattle.recursive_descent.proofs.reading.AddedPairs.{adds_behind}
use Rattle.recursive_descent.proofs.reading.FirstOfPieces.{adds_before}
use Rattle.recursive_descent.proofs.reading.SeenClasses.{as_here}
use Rattle.recursive_descent.proofs.sound_statements.OwnTokenStatements.{words_from}
use Rattle.recursive_descent.proofs.sound_statements.StatementWays.{end_standing}
use Rattle.recursive_descent.proofs.sound_modules.DefaultExports.{default_function, default_class, exported_item, value_item}

module _ (text : SourceText) (s : Token) (t : Scanned) (ahead : IsAhead Div text s.stop (token_of t)) where
  abbrev pub first_place : Token
  first_place = unseen (as_read (token_of t))

  begun_here : Begins text t.start s
  begun_here = record { token = as_read (token_of t); place = first_place; next = ahead_next text Div s (token_of t) ahead; start = refl }

  pub word_here : (w : List ℕ) → t.class ≡ IdentifierName → t.text.now ≡ w → ReadsHere text IdentifierName w s first_place
  word_here w a b = as_here text (record { next = ahead_next text Div s (token_of t) ahead; class = a; text = ap (λ c. table_text c t.text.now) a ∙ b })

  module _ {o from : ℕ} {n : Tree} {e : Token} {P : List Pair} where
    a_function : (x y : Form) (m k : CursorState) → ReadsHere text IdentifierName (cond (is_async x) (codes "async") (codes "function")) s first_place → m.text ≡ text → m.last ≡ first_place → WordsAt m k y × (is_async y ≡ is_async x) → ClosureAt text (closure.DefaultFunction y) t.start n o k.last e P →
        ExportBehind text IdentifierName (codes "default") from (node ExportDefaultDeclaration [] plain from e.stop (part n none)) o s e P
    a_function x y m k read text_is last words d =
        let first_word : ReadsHere text IdentifierName (cond (is_async y) (codes "async") (codes "function")) s m.last = subst (λ b. ReadsHere text IdentifierName (cond b (codes "async") (codes "function")) s m.last) (sym words.1) (subst (λ z. ReadsHere text IdentifierName (cond (is_async x) (codes "async") (codes "function")) s z) (sym last) read) in
        let all_words : RunsIn text o (anywhere (function_words y)) none s k.last [] = words_from y words.0.0 first_word (subst (λ z. RunsIn z o (anywhere (behind_first (function_words y))) none m.last k.last []) text_is (words.0.1 o)) in
        subst (λ z. ExportBehind text IdentifierName (codes "default") from (node ExportDefaultDeclaration [] plain from e.stop (part z none)) o s e P) (sym d.tree)
        (exported_item text {from = from} FunctionDeclaration [] (record plain { form = y }) t.start e.stop d.parts refl (default_function text y begun_here all_words d.parts d.runs))

    closure_item : (w v : FunctionOrClass) (m k : CursorState) → DefaultBegun text s t w → m.text ≡ text → m.last ≡ first_place → WordsOf w v m k → ClosureAt text v t.start n o k.last e P →
        ExportBehind text IdentifierName (codes "default") from (node ExportDefaultDeclaration [] plain from e.stop (part n none)) o s e P
    closure_item (closure.DefaultFunction form.Init) (closure.DefaultFunction y) m k begun text_is last words d = a_function form.Init y m k (word_here (codes "function") begun.0 begun.1) text_is last words d
    closure_item (closure.DefaultFunction form.Async) (closure.DefaultFunction y) m k begun text_is last words d = a_function form.Async y m k (word_here (codes "async") begun.0 begun.1) text_is last words d
    closure_item (closure.DefaultFunction form.Init) v m k begun text_is last words d = (let q = words.0 in cc)
    closure_item (closure.DefaultFunction form.Async) v m k begun text_is last words d = (let q = words.0 in cc)
    closure_item closure.DefaultClass v m k begun text_is last words d =
        let d' : ClosureAt text closure.DefaultClass t.start n o first_place e P = subst (λ z. ClosureAt text closure.DefaultClass t.start n o z e P) (words.1 ∙ last) (subst (λ z. ClosureAt text z t.start n o k.last e P) words.0 d) in
        subst (λ z. ExportBehind text IdentifierName (codes "default") from (node ExportDefaultDeclaration [] plain from e.stop (part z none)) o s e P) (sym d'.tree)
        (exported_item text {from = from} ClassDeclaration [] plain t.start e.stop d'.parts refl (default_class text begun_here (word_here (codes "class") begun.0 begun.1) d'.parts d'.runs))
    closure_item _ v m k begun text_is last words d = absurd begun

-- Behind the first word: what is required of it, and that the other stands there.
module _ (s m : CursorState) (t : Scanned) (ahead : IsAhead Div s.text s.last.stop (token_of t)) (text : m.text ≡ s.text) (last : m.last ≡ unseen (as_read (token_of t))) where
  word_behind : (h : AsyncFunctionAhead s.text s.last) → ReadsHere m.text IdentifierName (codes "function") m.last h.behind
  word_behind h =
      let read = ahead_read s.text Div s.last (token_of t) ahead in
      let free = (seen_determined s.text).free Div s.last (behind_in s.text h.mid) h.mid h.async.next (ap is_free h.async.class) in
      let same = (seen_determined s.text).same Div s.last (as_read (token_of t)) (behind_in s.text h.mid) (unseen (as_read (token_of t))) h.mid read.next h.async.next read.allowed free in
      subst (λ z. ReadsHere z IdentifierName (codes "function") m.last h.behind) (sym text) (subst (λ z. ReadsHere s.text IdentifierName (codes "function") z h.behind) (sym (last ∙ same.1)) h.function)

  pub default_first : (w : FunctionOrClass) → DefaultBegun s.text s.last t w → FirstWordOf m w
  default_first (closure.DefaultFunction form.Init) begun = inl refl
  default_first (closure.DefaultFunction form.Async) begun =
      let r = word_behind begun.2 in
      inr (refl, λ u e read. (seen_determined m.text).break m.last u (behind_in m.text begun.2.behind) e begun.2.behind read.next r.next ∙ begun.2.same_line)
  default_first closure.DefaultClass begun = tt
  default_first _ begun = absurd begun

  pub default_words_there : (w : FunctionOrClass) → DefaultBegun s.text s.last t w → MissesWordOf m w → ⊥
  default_words_there (closure.DefaultFunction form.Init) begun missed = (let q = missed.0 in cc)
  default_words_there (closure.DefaultFunction form.Async) begun missed = missed.1 (behind_in m.text begun.2.behind) begun.2.behind (word_behind begun.2)
  default_words_there closure.DefaultClass begun missed = missed
  default_words_there _ begun missed = begun

pub closure_exported : (s m k e : CursorState) (old mid new : List Pair) (from : ℕ) (t : Scanned) (w v : FunctionOrClass) (n : Tree) → IsAhead Div s.text s.last.stop (token_of t) → DefaultBegun s.text s.last t w → m.text ≡ s.text → m.last ≡ unseen (as_read (token_of t)) → WordsOf w v m k → k.text ≡ s.text → k.opened ≡ s.opened → mid ≡ old →
    Adds k e mid new (ClosureAt k.text v t.start n) → Adds s e old new (ExportBehind s.text IdentifierName (codes "default") from (node ExportDefaultDeclaration [] plain from e.last.stop (part n none)))
closure_exported s m k e old mid new from t w v n ahead begun text last words text_k open_same same a =
    adds_behind open_same same a (λ o P u. closure_item s.text s.last t ahead w v m k begun text last words (subst (λ x. ClosureAt x v t.start n o k.last e.last P) text_k u))

pub value_exported : (s m e : CursorState) (old mid new : List Pair) (from : ℕ) (p : Operand) (n : Tree) → MissesBy s.text Div begins_default s.last × NoAsyncFunction s.text s.last → Adds s m old mid (ReadAt s.text (record { rank = Assignment; has_in = true; start = Any }) p) → (n ≡ p.cover.node) × (p.cover.shape.is_expression ≡ true) → m.text ≡ s.text → IsEnd m.text (AfterExpression p.edge) m.last e.last → e.opened ≡ m.opened → new ≡ mid →
    Adds s e old new (ExportBehind s.text IdentifierName (codes "default") from (node ExportDefaultDeclaration [] plain from e.last.stop (part n none)))
value_exported s m e old mid new from p n other a made text end open_same same = adds_before a open_same same (λ o P u.
    subst (λ z. ExportBehind s.text IdentifierName (codes "default") from (node ExportDefaultDeclaration [] plain from e.last.stop (part z none)) o s.last e.last P) (sym made.0)
    (value_item s.text {from = from} p.cover.node other.0 other.1 (u.part.stands made.1 Assignment true (u.taken refl) (λ h. refl)) (end_standing s.text (u.part.edge ∙ ap (λ y. edge_as_written y m.last) (sym (edge_bare p.cover.node))) (subst (λ x. EndsAt x (AfterExpression p.edge) m.last e.last) text end.ends))))
