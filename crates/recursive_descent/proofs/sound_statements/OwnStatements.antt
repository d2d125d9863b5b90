-- Statements that are read are of the language, if their parts are.
use Rattle.std.proofs.Common.{◌≡◌, inl, inr, ℕ, Bool, false, List, [], Result, Ok, Err, refl, sym, ◌∙◌, subst}
use Rattle.std.specs.Prelude.{IfOk}
use Rattle.source_text.specs.declared.fault.Fault.{Fault}
use Rattle.token_cursor.specs.SourceText.{SourceText}
use Rattle.tree.specs.Tree.{Tree, node, Parts, none, part, plain}
use Rattle.tree.specs.declared.kind.Kind.TheVariants.{ExpressionStatement, ArrowFunctionExpression, Identifier}
use Rattle.tree.specs.declared.kind.Form.{Form}
use Rattle.productions.specs.Made.{Makes}
use Rattle.language.specs.Later.{is_later, is_later_form}
use Rattle.parser_tables.specs.declared.statements.StatementKind.{StatementKind}
use Rattle.parser_tables.specs.declared.statements.StatementKind.TheVariants as headed
use Rattle.parser_tables.specs.StatementNodes.{statement_node_kind, expression_statement_node}
use Rattle.recursive_descent.specs.Spelled.{OfLanguage, AllOfLanguage}
use Rattle.recursive_descent.specs.Later.{WordsOf, FormOfLanguage}
use Rattle.token_cursor.specs.CursorState.{CursorState}
use Rattle.language.specs.StatementStart.{StatementStart}
use Rattle.parser_tables.specs.declared.functions_and_classes.FunctionOrClass.{FunctionOrClass}
use Rattle.parser_tables.specs.declared.statements.StatementStart.TheVariants as code
use Rattle.parser_tables.specs.StatementStarts.{coded_statement_start, BegunWith}
use Rattle.parser_tables.specs.StatementSymbols.{function_or_class_kind, function_or_class_flags, function_or_class_form}
use Rattle.parser_tables.specs.declared.functions_and_classes.FunctionOrClass.TheVariants as closure
use Rattle.recursive_descent.specs.Follows.{NamedAt}
use Rattle.recursive_descent.proofs.sound_statements.FunctionWords.{words_form}
use Rattle.recursive_descent.proofs.reading.LanguageTrees.{of_node, of_part, of_gap, of_none}

-- none of these kinds is later
never_later : (h : StatementKind) (w : List ℕ) (st en : ℕ) (ps : Parts) → is_later (node (statement_node_kind h) w plain st en ps) ≡ false
never_later headed.Block w st en ps = refl
never_later headed.Empty w st en ps = refl
never_later headed.Variable w st en ps = refl
never_later headed.If w st en ps = refl
never_later headed.Do w st en ps = refl
never_later headed.While w st en ps = refl
never_later headed.For w st en ps = refl
never_later headed.ForLoop w st en ps = refl
never_later headed.ForIn w st en ps = refl
never_later headed.ForOf w st en ps = refl
never_later headed.Continue w st en ps = refl
never_later headed.Break w st en ps = refl
never_later headed.Return w st en ps = refl
never_later headed.Throw w st en ps = refl
never_later headed.Switch w st en ps = refl
never_later headed.Try w st en ps = refl
never_later headed.Debugger w st en ps = refl
never_later headed.Label w st en ps = refl

pub statement_own : {text : SourceText} (h : StatementKind) (w : List ℕ) (st en high : ℕ) (ps : Parts) (result : Result Tree Fault) → AllOfLanguage text ps → Makes (node (statement_node_kind h) w plain st en ps) high result → IfOk result (λ n. OfLanguage text n)
statement_own {text} h w st en high ps (Ok n) own makes = subst (OfLanguage text) (sym makes.0) (of_node {k = statement_node_kind h} {w = w} {g = plain} {st = st} {en = en} {ps = ps} (λ base. never_later h w st en ps) own)
statement_own h w st en high ps (Err fault) own makes = tt

-- what is read behind parts of the language
pub own_on : {text here : SourceText} {ps qs : Parts} → here ≡ text → AllOfLanguage text ps → (AllOfLanguage here ps → AllOfLanguage here qs) → AllOfLanguage text qs
own_on {ps = ps} {qs} same own f = subst (λ t. AllOfLanguage t qs) same (f (subst (λ t. AllOfLanguage t ps) (sym same) own))

-- an expression's
pub evaluated_own : {text : SourceText} (b : Bool) (st en : ℕ) (n : Tree) (result : Result Tree Fault) → OfLanguage text n → IfOk result (λ k. k ≡ expression_statement_node b st en n) → IfOk result (λ k. OfLanguage text k)
evaluated_own {text} b st en n (Ok k) own made = subst (OfLanguage text) (sym made) (of_node {k = ExpressionStatement} {w = []} {g = record plain { directive = b }} {st = st} {en = en} {ps = part n none} (λ base. refl) (of_part own of_none))
evaluated_own b st en n (Err fault) own made = tt

-- a function's or a class's
pub closure_own : (s m k : CursorState) (i : Bool) (begins : StatementStart) (w v : FunctionOrClass) → BegunWith s.text s.last i (coded_statement_start begins) (code.FunctionOrClass w) → m.text ≡ s.text → WordsOf w v m k → k.text ≡ m.text → (result : Result Tree Fault) →
    IfOk result (λ n. FormOfLanguage k.text (function_or_class_form v) → OfLanguage k.text n) → IfOk result (λ n. OfLanguage s.text n)
closure_own s m k i begins w v begun text words text_k (Ok n) own =
    subst (λ t. OfLanguage t n) (text_k ∙ text) (own (subst (λ t. FormOfLanguage t (function_or_class_form v)) (sym (text_k ∙ text)) (words_form s m i begins w begun text k v words)))
closure_own s m k i begins w v begun text words text_k (Err fault) own = tt

-- an arrow function's
pub arrow_own : {text : SourceText} (x : Form) (b : Bool) (st en : ℕ) (ps : Parts) (n : Tree) → n ≡ node ArrowFunctionExpression [] (record plain { expression = b; form = x }) st en ps → AllOfLanguage text ps → FormOfLanguage text x → OfLanguage text n
arrow_own {text} x b st en ps n is own form = subst (OfLanguage text) (sym is) (of_node {k = ArrowFunctionExpression} {w = []} {g = record plain { expression = b; form = x }} {st = st} {en = en} {ps = ps} form own)

-- the name of a function or a class
pub named_own : {text : SourceText} (c : FunctionOrClass) (s e : CursorState) (high : ℕ) (ps : Parts) → NamedAt c s e high ps → AllOfLanguage text ps
named_own {text} c s e high ps (inl h) = subst (AllOfLanguage text) (sym h.2) (of_part (of_node {k = Identifier} {w = e.last.text} {g = plain} {st = e.last.start} {en = e.last.stop} {ps = none} (λ base. refl) of_none) of_none)
named_own {text} c s e high ps (inr h) = subst (AllOfLanguage text) (sym h.2) (of_gap of_none)

-- the node of one
later_kind : (c : FunctionOrClass) (st en : ℕ) (ps : Parts) → is_later_form (function_or_class_form c) ≡ false → is_later (node (function_or_class_kind c) [] (function_or_class_flags c) st en ps) ≡ false
later_kind (closure.Function y) st en ps h = h
later_kind (closure.FunctionDeclaration y) st en ps h = h
later_kind (closure.DefaultFunction y) st en ps h = h
later_kind (closure.Method y) st en ps h = h
later_kind closure.Class st en ps h = refl
later_kind closure.ClassDeclaration st en ps h = refl
later_kind closure.DefaultClass st en ps h = refl

pub made_own : {text : SourceText} (c : FunctionOrClass) (st en high : ℕ) (ps : Parts) (result : Result Tree Fault) → AllOfLanguage text ps → Makes (node (function_or_class_kind c) [] (function_or_class_flags c) st en ps) high result → IfOk result (λ n. FormOfLanguage text (function_or_class_form c) → OfLanguage text n)
made_own {text} c st en high ps (Ok n) own makes = λ form. subst (OfLanguage text) (sym makes.0) (of_node {k = function_or_class_kind c} {w = []} {g = function_or_class_flags c} {st = st} {en = en} {ps = ps} (λ base. later_kind c st en ps (form base)) own)
made_own c st en high ps (Err fault) own makes = tt
