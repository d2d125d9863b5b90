-- What the first token of an expression makes is of the text's language.
use Rattle.std.proofs.Common.{◌≡◌, ℕ, Bool, true, false, List, [], ◌∷◌, refl, sym, ap, ◌∙◌, subst, inl, inr}
use Rattle.std.specs.Prelude.{Some, codes, cond, ◌&&◌, Result, Ok, Err, IfOk}
use Rattle.std.proofs.lemmas.Slice.Eq.{bytes_eq-Decides}
use Rattle.std.proofs.lemmas.Bool.{false≢true}
use Rattle.source_text.specs.declared.fault.Fault.{Fault}
use Rattle.tokens.specs.declared.token.Goal.{Goal}
use Rattle.tokens.specs.declared.token.Goal.TheVariants.{RegExp}
use Rattle.tokens.specs.declared.token.Token.{Token as Scanned}
use Rattle.tokens.specs.declared.token.TokenClass.{TokenClass}
use Rattle.tokens.specs.declared.token.TokenClass.TheVariants.{IdentifierName, Punctuator, Keyword, Template}
use Rattle.tokens.specs.Scanned.{token_of}
use Rattle.tokens.specs.Tokens.{LexicalToken}
use Rattle.token_cursor.specs.CursorState.{CursorState, IsAhead}
use Rattle.tree.specs.declared.kind.Kind.TheVariants.{Identifier, MetaProperty, AwaitExpression, UnaryExpression}
use Rattle.tree.specs.declared.kind.Form.{Form}
use Rattle.tree.specs.declared.kind.Form.TheVariants.{Init}
use Rattle.tree.specs.declared.kind.Pair.{Pair}
use Rattle.tree.specs.Tree.{Tree, node, part, none, plain}
use Rattle.covers.specs.declared.list.ListKind.{ListKind}
use Rattle.covers.specs.declared.list.ListKind.TheVariants as listed
use Rattle.covers.specs.declared.list.ListBuilder.{ListBuilder as ListOf}
use Rattle.language.specs.declared.Language.{Language}
use Rattle.language.specs.declared.Language.TheVariants.{Base}
use Rattle.language.specs.declared.Rank.{Rank}
use Rattle.language.specs.ExpressionStart.{ExpressionStart, with_name, with_yield, with_private_name, no_start, expression_start, expression_start_by}
use Rattle.language.specs.Later.{is_later, is_later_form}
use Rattle.language.specs.Languages.{seen_in, is_of_2022}
use Rattle.language.specs.Token.{Token, as_read, table_text}
use Rattle.language.specs.Vocabulary.{is, is_keyword, is_reserved}
use Rattle.language.proofs.table.Begins.{among_by}
use Rattle.token_cursor.proofs.SeenTokens.{seen_base, no_keyword}
use Rattle.token_cursor.specs.SourceText.{SourceText, SeenNext}
use Rattle.parser_tables.specs.declared.expression_context.ExpressionContext.{ExpressionContext}
use Rattle.parser_tables.specs.declared.expression_starts.ExpressionStart.{ExpressionStart as Coded}
use Rattle.parser_tables.specs.declared.expression_starts.ExpressionStart.TheVariants as code
use Rattle.parser_tables.specs.declared.operand.Operand.{Operand}
use Rattle.parser_tables.specs.ExpressionStarts.{coded_start, coded_in, start_in, with_async}
use Rattle.parser_tables.specs.Items.{listed_kind, listed_node}
use Rattle.recursive_descent.specs.Follows.{target_node}
use Rattle.parser_tables.specs.Tokens.{single_node}
use Rattle.recursive_descent.proofs.sound_expressions.KeywordExpressions.{new_word}
use Rattle.recursive_descent.specs.LeftOperands.{is_prefix_update, prefixed_part}
use Rattle.recursive_descent.specs.Soundness.{Adds, ReadAt, WordedAt, Stands}
use Rattle.recursive_descent.specs.Spelled.{OfLanguage, AllOfLanguage}
use Rattle.recursive_descent.specs.Later.{StarredAt, FormOfLanguage, NamedAsync, AsyncComplete}
use Rattle.recursive_descent.specs.Complete.{KeywordExpressionComplete}
use Rattle.recursive_descent.proofs.reading.SeenClasses.{as_here}
use Rattle.recursive_descent.proofs.sound_expressions.StartsByToken.{name_of}
use Rattle.recursive_descent.proofs.complete_expressions.KeywordExpressionsGiven.{private_coded}
use Rattle.recursive_descent.proofs.reading.AddedPairs.{adds_behind}
use Rattle.recursive_descent.proofs.reading.LanguageTrees.{of_node, of_none, of_part, pattern_of_language}
use Rattle.recursive_descent.proofs.sound_expressions.CodedStarts.{coded_plain, async_name}
use Rattle.recursive_descent.proofs.complete_expressions.PrefixesGiven.{prefix_text}

-- no token of the base profile is a keyword
keyword_later : (g : Goal) (text : SourceText) {at : ℕ} {u : LexicalToken} → IsAhead g text at u → text.language ≡ Base → u.class ≡ Keyword → ⊥
keyword_later g text {at} a base class =
    let same = a.seen ∙ ap (λ l. seen_in l a.scanned) base ∙ sym (seen_base a.scanned) in
    no_keyword text.bytes g at a.scanned a.read (ap (λ (t : LexicalToken). t.class) (sym same) ∙ class)

-- and nothing else is the operator `await`
no_prefix : {own side : Rank} (c : TokenClass) → (c ≡ Keyword → ⊥) → coded_start (expression_start_by c (codes "await")) ≡ Some (code.Prefix own side) → ⊥
unfolding is_reserved
no_prefix Keyword other h = other refl
no_prefix IdentifierName other h = cc
no_prefix Punctuator other h = cc
no_prefix Template other h = cc
no_prefix _ other h = cc

await_alone : (w : List ℕ) → is_keyword w ≡ true → w ≡ codes "await"
unfolding is_keyword
await_alone w h = among_by (λ v. v ≡ codes "await") w ("await" ∷ []) h (refl, tt)

-- a prefix operator with its operand
pub prefix_language : (text : SourceText) {at : ℕ} (u : LexicalToken) (own side : Rank) → IsAhead RegExp text at u → coded_in text.language (as_read u) ≡ Some (code.Prefix own side) → (st en : ℕ) (r : Operand) → OfLanguage text r.cover.node → OfLanguage text (prefixed_part (is_prefix_update u.text) u.text st en r).cover.node
prefix_language text u own side ahead coded st en r h = of (is_prefix_update u.text)
  where
    none_there : text.language ≡ Base → is_keyword u.text ≡ true → ⊥
    none_there base keyword =
        let plainly : (as_read u).text ≡ codes "await" = prefix_text text.language u own side coded ∙ await_alone u.text keyword in
        no_prefix u.class (keyword_later RegExp text ahead base) (ap (λ w. coded_start (expression_start_by u.class w)) (sym plainly) ∙ coded_plain text.language (expression_start (as_read u)) (as_read u).text (code.Prefix own side) coded refl)

    either : (k : Bool) → is_keyword u.text ≡ k → OfLanguage text (cond k (node AwaitExpression [] plain st en (part r.cover.node none)) (node UnaryExpression u.text plain st en (part r.cover.node none)))
    either true is = of_node (λ b. absurd (none_there b is)) (of_part h of_none)
    either false is = of_node (λ b. refl) (of_part h of_none)

    of : (b : Bool) → OfLanguage text (prefixed_part b u.text st en r).cover.node
    of true = of_node (λ b. refl) (of_part (pattern_of_language r.cover.node h) of_none)
    of false = either (is_keyword u.text) refl

-- an array, an object or a template
pub list_language : (text : SourceText) (l : ListOf) → AllOfLanguage text l.nodes → OfLanguage text (listed_node l)
list_language text l h = of l.listed
  where
    of : (w : ListKind) → OfLanguage text (node (listed_kind w) [] plain l.span.start l.span.end l.nodes)
    of listed.Elements = of_node (λ b. refl) h
    of listed.Properties = of_node (λ b. refl) h
    of _ = of_node (λ b. refl) h

-- what a word begins, with that word
pub word_first : {s m e : CursorState} {old mid new : List Pair} (t : Scanned) {p : ExpressionContext} {y : Coded} {r : Operand} → m.text ≡ s.text → m.opened ≡ s.opened → mid ≡ old → SeenNext s.text s.last (as_read (token_of t)) m.last → coded_in s.text.language (as_read (token_of t)) ≡ Some y → Stands s.text p (as_read (token_of t)) y s.last →
    Adds m e mid new (WordedAt m.text p t y r) → Adds s e old new (ReadAt s.text p r)
word_first {s} {m} {e} t {p} {y} {r} text open_same same next coded stands a = adds_behind open_same same a (λ o Q w. subst (λ x. WordedAt x p t y r o m.last e.last Q) text w s.last next coded stands)

-- the form of a function whose `*` was passed, or wasn't there
pub starred_form : (s m : CursorState) {x : Form} → StarredAt s m Init x → m.text ≡ s.text → FormOfLanguage m.text x
starred_form s m (inl h) text = λ base. absurd (false≢true (sym (ap is_of_2022 (sym (ap (λ (x : SourceText). x.language) text) ∙ base)) ∙ h.0))
starred_form s m (inr h) text = λ base. ap is_later_form h.1

-- the language of 2022 has all trees
pub later_tree : (text : SourceText) (n : Tree) → is_of_2022 text.language ≡ true → OfLanguage text n
later_tree text n h = record { none_later = λ base. absurd (false≢true (sym (ap is_of_2022 base) ∙ h)) }

-- what `async` and a private name begin is of that language
pub async_told : (l : Language) (t : Token) → coded_in l t ≡ Some code.Async → (t.class ≡ IdentifierName) × (t.text ≡ codes "async") × (is_of_2022 l ≡ true)
async_told l t coded =
    let u = of (expression_start t) coded in
    let both = async_name (is_of_2022 l) (is t.text "async") u.1 in
    ((name_of t.class t.text u.0).0, (bytes_eq-Decides t.text (codes "async")).0 both.1, both.0)
  where
    later : (b : Bool) (x : ExpressionStart) → with_async l t.text (coded_start x) ≡ coded_start x → (Some code.Async ≡ coded_start x → ⊥) → with_async l t.text (coded_start (cond b x no_start)) ≡ Some code.Async → ⊥
    later true x same other h = other (sym h ∙ same)
    later false x same other h = cc

    of : (x : ExpressionStart) → with_async l t.text (coded_start (start_in l x)) ≡ Some code.Async → (x ≡ with_name) × (Some (cond (is_of_2022 l && is t.text "async") code.Async (code.OneToken Identifier)) ≡ Some code.Async)
    of with_name h = (refl, h)
    of with_yield h = absurd (later (is_of_2022 l) with_yield refl (λ e. cc) h)
    of with_private_name h = absurd (later (is_of_2022 l) with_private_name refl (λ e. cc) h)
    of _ h = cc

pub private_later : (l : Language) (t : Token) → coded_in l t ≡ Some code.PrivateName → is_of_2022 l ≡ true
private_later l t coded = told (is_of_2022 l) (sym (ap (λ x. with_async l t.text (coded_start (start_in l x))) (private_coded l t coded)) ∙ coded)
  where
    told : (b : Bool) → with_async l t.text (coded_start (cond b with_private_name no_start)) ≡ Some code.PrivateName → b ≡ true
    told true h = refl
    told false h = cc

-- what the name `async` begins that was passed, as what a word begins
pub named_worded : {s e : CursorState} {old new : List Pair} (t : Scanned) {p : ExpressionContext} {y : Coded} {r : Operand} → y ≡ code.Async → Adds s e old new (NamedAsync s.text p r) → Adds s e old new (WordedAt s.text p t y r)
named_worded {s} {e} t {p} {y} {r} this a = adds_behind refl refl a (λ o Q w z next coded stands.
    let told = async_told s.text.language (as_read (token_of t)) (coded ∙ ap Some this) in
    w z (as_here s.text (record { next = next; class = told.0; text = told.1 })))

pub named_complete : (s e : CursorState) (old new : List Pair) (high : ℕ) (t : Scanned) {y : Coded} {p : ExpressionContext} (result : Result Operand Fault) → y ≡ code.Async → AsyncComplete s e old new high p result → KeywordExpressionComplete s e old new high t y p result
named_complete s e old new high t result this f a h o n from to P next coded word g own =
    let told = async_told s.text.language (as_read (token_of t)) (coded ∙ ap Some this) in
    f a h o n from to P told.2 (as_here s.text (record { next = next; class = told.0; text = told.1 })) g own

-- what holds of each answer
pub each_ok : {X E : Type 0} (B : X → Type 0) (r : Result X E) → ((x : X) → B x) → IfOk r B
each_ok B (Ok x) f = f x
each_ok B (Err e) f = tt

-- `new.target` is of each language
pub target_language : (text : SourceText) (u : LexicalToken) (last : Token) → coded_in text.language (as_read u) ≡ Some code.New → OfLanguage text (target_node u last)
target_language text u last coded =
    let word = new_word text.language (as_read u) coded in
    let characters : u.text ≡ codes "new" = sym (ap (λ c. table_text c u.text) word.0) ∙ word.1 in
    of_node (λ b. (λ i. is_later (node MetaProperty [] plain u.start last.stop (part (node Identifier (characters i) plain u.start u.stop none) (part (single_node Identifier last) none))))) (of_part (of_node (λ b. refl) of_none) (of_part (of_node (λ b. refl) of_none) of_none))
