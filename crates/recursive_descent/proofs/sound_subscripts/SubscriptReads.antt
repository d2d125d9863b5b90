-- What a function reads behind the object of a member, a callee or a tag, step by step (ECMA-262 12.3.2 to 12.3.11).
use Rattle.std.proofs.Common.{◌≡◌, ℕ, Bool, true, false, cond, List, [], ◌∷◌, ◌++◌, refl, sym, ap, ◌∙◌, subst}
use Rattle.std.specs.Prelude.{IsTrue, Some, None, codes}
use Rattle.std.proofs.lemmas.Bool.{false≢true, true≢false}
use Rattle.tokens.specs.Tokens.{LexicalToken}
use Rattle.tokens.specs.declared.token.TokenClass.{TokenClass}
use Rattle.tokens.specs.declared.token.TokenClass.TheVariants.{IdentifierName, Punctuator, Template, StringLiteral, NumericLiteral, RegularExpressionLiteral, End, PrivateName, Keyword}
use Rattle.tokens.specs.declared.token.Goal.TheVariants.{Div}
use Rattle.token_cursor.specs.CursorState.{CursorState, IsAhead}
use Rattle.tree.specs.declared.kind.Kind.TheVariants.{TemplateLiteral, ChainExpression}
use Rattle.tree.specs.declared.kind.Pair.{Pair}
use Rattle.tree.specs.Tree.{Tree, node, plain, Parts, none, part, gap, bare_parts}
use Rattle.covers.specs.declared.list.ListItem.{ListItem}
use Rattle.covers.specs.declared.list.ListKind.{ListKind}
use Rattle.covers.specs.declared.list.ListKind.TheVariants as listed
use Rattle.covers.specs.declared.list.ListBuilder.{ListBuilder as ListOf}
use Rattle.covers.specs.Lists.{closing}
use Rattle.language.specs.declared.Rank.{Rank}
use Rattle.language.specs.declared.Rank.TheVariants.{Expression, Call, Primary}
use Rattle.language.specs.declared.Start.{Start}
use Rattle.language.specs.declared.Start.TheVariants.{Any}
use Rattle.language.specs.declared.Edge.TheVariants.{Other}
use Rattle.language.specs.Vocabulary.{is, takes}
use Rattle.language.specs.Covers.{Reading, as_expression, as_pattern}
use Rattle.language.specs.Pieces.{expr, tagged_quasi, template_element, put, Spelling, at as at_symbol}
use Rattle.language.specs.Token.{Token, as_read, table_text, same_class}
use Rattle.language.specs.Expressions.{template_elements}
use Rattle.language.specs.Grammar.{spellings}
use Rattle.language.specs.Derivation.{direct, placed, done, step, within, token, first}
use Rattle.language.specs.Promises.{ReadBy}
use Rattle.language.proofs.table.Begins.{goes_to, retell}
use Rattle.language.proofs.lower_bound.Domination.{settled}
use Rattle.language.proofs.table.Productions.{way_from, runs_can}
use Rattle.language.proofs.list_loops.FirstPieces.{run_never}
use Rattle.language.proofs.list_loops.TemplateElements.{chunk_found}
use Rattle.token_cursor.proofs.SeenTokens.{seen_determined}
use Rattle.parser_tables.specs.declared.operand.Operand.{Operand}
use Rattle.parser_tables.specs.declared.expression_context.ExpressionContext.{ExpressionContext}
use Rattle.recursive_descent.specs.declared.subscripts.Subscript.{Subscript}
use Rattle.recursive_descent.specs.declared.subscripts.Subscript.TheVariants as link
use Rattle.recursive_descent.specs.Soundness.{RunsIn, Adds, ReadAt, takes_new, ArgumentsAt, Links}
use Rattle.recursive_descent.specs.SoundnessOfLists.{SoFarAt, ListAt, whole_of, left_of, stood_in, item_pieces, ClosedBy}
use Rattle.recursive_descent.specs.Follows.{LinkedAt, BegunAt, TemplateAt, BegunTemplate, FirstChunkAt}
use Rattle.parser_tables.specs.Items.{list_from, with_item, listed_kind, listed_node}
use Rattle.recursive_descent.specs.Subscripts.{link_kind, link_flags, link_rank, link_by}
use Rattle.parser_tables.specs.Operands.{plain_part}
use Rattle.token_cursor.specs.Seen.{ReadsHere, Sees}
use Rattle.parser_tables.specs.Tests.{is_template}
use Rattle.recursive_descent.proofs.reading.AddedPairs.{adds_behind, adds_none}
use Rattle.token_cursor.proofs.TokensAhead.{ahead_read, seen_by}
use Rattle.recursive_descent.proofs.sound_subscripts.SubscriptNodes.{Behind, a_name, optional_name, an_index, optional_index, some_arguments, optional_arguments, a_template, is_call, rank_of_link, links_behind, MemberNamed, member_named}
use Rattle.token_cursor.specs.SourceText.{SourceText, SeenNext, behind_in, unseen}
use Rattle.recursive_descent.specs.Spelled.{SpellsIn, OfLanguage, AllOfLanguage}
use Rattle.recursive_descent.proofs.reading.LanguageTrees.{of_node, of_part, of_none}
use Rattle.language.specs.Later.{is_later}
use Rattle.recursive_descent.proofs.reading.SeenClasses.{as_here}
use Rattle.recursive_descent.proofs.reading.Forward.{place_token}
use Rattle.recursive_descent.specs.Later.{MemberNameAt}

-- what was added, with nothing behind it
pub adds_then : {s m e : CursorState} {old mid new : List Pair} {A B : ℕ → Token → Token → List Pair → Type 0} → Adds s m old mid A → e.opened ≡ m.opened → new ≡ mid → ((o : ℕ) (P : List Pair) → A o s.last m.last P → B o s.last e.last P) → Adds s e old new B
adds_then {s} a open_same same f = record {
  more = a.more;
  same_open = open_same ∙ a.same_open;
  pairs = same ∙ a.pairs;
  is = f _ _ a.is;
}

-- an expression that was read to its end
pub spelled_at : {text : SourceText} {p : ExpressionContext} {r : Operand} {o : ℕ} {s e : Token} {P : List Pair} → takes_new p.rank ≡ true → r.cover.shape.is_expression ≡ true → ReadAt text p r o s e P → SpellsIn text o (expr p.rank p.has_in p.start) r.cover.node s e P
spelled_at {p = p} loose value read = read.part.stands value p.rank p.has_in (read.taken loose) (λ k. refl)

-- a token that is no template stands in a node as it is read
pub no_template_text : (c : TokenClass) (w : List ℕ) → same_class Template c ≡ false → table_text c w ≡ w
no_template_text IdentifierName w h = refl
no_template_text Punctuator w h = refl
no_template_text NumericLiteral w h = refl
no_template_text StringLiteral w h = refl
no_template_text RegularExpressionLiteral w h = refl
no_template_text End w h = refl
no_template_text PrivateName w h = refl
no_template_text Keyword w h = refl
no_template_text Template w h = absurd (true≢false h)

abbrev pub BehindOn : SourceText → Subscript → Bool → Parts → ℕ → Token → Token → List Pair → Type 0
BehindOn text w b ps o m e Q = Behind text o m e w b ps Q

-- a name
name_behind : (s m e : CursorState) (o : ℕ) (b : Bool) {n : Tree} → m.text ≡ s.text → LinkedAt s m link.Name b → MemberNamed m.text n m.last e.last → Behind s.text o s.last e.last link.Name b (part n none) []
name_behind s m e o false {n} text sign name = a_name sign (subst (λ x. MemberNamed x n m.last e.last) text name)
name_behind s m e o true {n} text sign name = optional_name sign.0 (subst (λ x. MemberNamed x n m.last e.last) text name)

pub name_read : {s m e : CursorState} {old mid new : List Pair} (w : Subscript) (b : Bool) (n : Tree) → m.text ≡ s.text → m.opened ≡ s.opened → mid ≡ old → w ≡ link.Name → LinkedAt s m w b → e.opened ≡ m.opened → new ≡ mid → MemberNameAt m e n → OfLanguage m.text n →
    Adds s e old new (BehindOn s.text w b (part n none))
name_read {s} {m} {e} w b n text open_same same is sign end_open end_same name own =
    adds_none (end_open ∙ open_same) (end_same ∙ same) (λ o.
    subst (λ x. Behind s.text o s.last e.last x b (part n none) []) (sym is) (name_behind s m e o b text (subst (λ x. LinkedAt s m x b) is sign) (member_named m e n name own)))

-- an expression in brackets
index_behind : (s m x z e : CursorState) (o : ℕ) (b : Bool) {n : Tree} {Q : List Pair} → m.text ≡ s.text → LinkedAt s m link.Index b → ReadsHere m.text Punctuator (codes "[") m.last x.last → SpellsIn m.text o (expr Expression true Any) n x.last z.last Q → ReadsHere m.text Punctuator (codes "]") z.last e.last →
    Behind s.text o s.last e.last link.Index b (part n none) Q
index_behind s m x z e o true {n} {Q} text sign left index right =
    optional_index sign.0 (subst (λ v. ReadsHere v Punctuator (codes "[") m.last x.last) text left) (subst (λ v. SpellsIn v o (expr Expression true Any) n x.last z.last Q) text index) (subst (λ v. ReadsHere v Punctuator (codes "]") z.last e.last) text right)
index_behind s m x z e o false {n} {Q} text sign left index right =
    let stays : m.last ≡ s.last = sign.0.0 in
    an_index (subst (λ v. ReadsHere v Punctuator (codes "[") s.last x.last) text (subst (λ v. ReadsHere m.text Punctuator (codes "[") v x.last) stays left)) (subst (λ v. SpellsIn v o (expr Expression true Any) n x.last z.last Q) text index)
    (subst (λ v. ReadsHere v Punctuator (codes "]") z.last e.last) text right)

pub index_read : {s m x z e : CursorState} {old mid b1 b2 new : List Pair} {p : ExpressionContext} {r : Operand} (w : Subscript) (b : Bool) → m.text ≡ s.text → m.opened ≡ s.opened → mid ≡ old → w ≡ link.Index → LinkedAt s m w b →
    x.text ≡ m.text → x.opened ≡ m.opened → b1 ≡ mid → ReadsHere m.text Punctuator (codes "[") m.last x.last → p.rank ≡ Expression → p.has_in ≡ true → p.start ≡ Any → z.text ≡ x.text → Adds x z b1 b2 (ReadAt x.text p r) → r.cover.shape.is_expression ≡ true →
    e.opened ≡ z.opened → new ≡ b2 → ReadsHere z.text Punctuator (codes "]") z.last e.last → Adds s e old new (BehindOn s.text w b (part r.cover.node none))
index_read {s} {m} {x} {z} {e} {p = p} {r = r} w b text open_same same is sign text1 open1 same1 left rank_is in_is start_is text2 index value open2 same2 right =
    adds_then (adds_behind {s = s} {m = x} {e = z} {B = λ o a c Q. SpellsIn m.text o (expr Expression true Any) r.cover.node x.last z.last Q} (open1 ∙ open_same) (same1 ∙ same) index (λ o Q d.
    let loose : takes_new p.rank ≡ true = ap takes_new rank_is in
    subst (λ v. SpellsIn v o (expr Expression true Any) r.cover.node x.last z.last Q) text1 (subst (λ a. SpellsIn x.text o a r.cover.node x.last z.last Q) (λ i. expr (rank_is i) (in_is i) (start_is i)) (spelled_at loose value d)))) open2 same2 (λ o Q d.
    subst (λ v. Behind s.text o s.last e.last v b (part r.cover.node none) Q) (sym is)
    (index_behind s m x z e o b text (subst (λ v. LinkedAt s m v b) is sign) left d (subst (λ v. ReadsHere v Punctuator (codes "]") z.last e.last) (text2 ∙ text1) right)))

-- arguments
arguments_begin : (text : SourceText) {o : ℕ} {ps : Parts} {m e : Token} {Q : List Pair} → ArgumentsAt text ps o m e Q → Sees text Punctuator (codes "(") m
arguments_begin text (step (token {e = x} r) d) = (x, as_here text r)

arguments_behind : (s m e : CursorState) (o : ℕ) (b : Bool) {ps : Parts} {Q : List Pair} → m.text ≡ s.text → LinkedAt s m link.Arguments b → ArgumentsAt m.text ps o m.last e.last Q → Behind s.text o s.last e.last link.Arguments b ps Q
arguments_behind s m e o true {ps} {Q} text sign d = optional_arguments sign.0 (subst (λ v. ArgumentsAt v ps o m.last e.last Q) text d)
arguments_behind s m e o false {ps} {Q} text sign d =
    let stays : m.last ≡ s.last = sign.0.0 in
    let given : ArgumentsAt s.text ps o s.last e.last Q = subst (λ v. ArgumentsAt v ps o s.last e.last Q) text (subst (λ v. ArgumentsAt m.text ps o v e.last Q) stays d) in
    some_arguments (arguments_begin s.text given).1 given

pub arguments_read_behind : {s m e : CursorState} {old mid new : List Pair} {ps : Parts} (w : Subscript) (b : Bool) → m.text ≡ s.text → m.opened ≡ s.opened → mid ≡ old → w ≡ link.Arguments → LinkedAt s m w b → Adds m e mid new (ArgumentsAt m.text ps) → Adds s e old new (BehindOn s.text w b ps)
arguments_read_behind {s} {m} {e} {ps = ps} w b text open_same same is sign a =
    adds_behind open_same same a (λ o Q d. subst (λ v. Behind s.text o s.last e.last v b ps Q) (sym is) (arguments_behind s m e o b text (subst (λ v. LinkedAt s m v b) is sign) d))

-- the pieces of a template don't depend on places
chunks_bare : (b : Bool) (ps : Parts) → template_elements b (bare_parts ps) ≡ template_elements b ps
chunks_bare b none = refl
chunks_bare b (gap ps) = refl
chunks_bare b (part q none) = refl
chunks_bare b (part q (gap ps)) = refl
chunks_bare b (part q (part e ps)) = ap (λ x. put (template_element b false) ∷ put (expr Expression true Any) ∷ x) (chunks_bare false ps)

-- the first part of a template, behind which it goes on
first_spelled : (text : SourceText) (o : ℕ) (last : Bool) (n : Tree) {s e : Token} → FirstChunkAt text s e n last → SpellsIn text o (template_element true last) n s e []
first_spelled text o true n {s} {e} d = subst (λ x. SpellsIn text o (template_element true true) x s e []) (sym d.2) (chunk_found Token (SeenNext text) (behind_in text) (seen_determined text) d.1).spelled
first_spelled text o false n {s} {e} d = subst (λ x. SpellsIn text o (template_element true false) x s e []) (sym d.2) (chunk_found Token (SeenNext text) (behind_in text) (seen_determined text) d.1).spelled

first_runs : (text : SourceText) (o : ℕ) (f : Start) (last : Bool) (n : Tree) {s m e : Token} {Q : List Pair} (a : Reading) (ps : Parts) → SpellsIn text o (template_element true last) n s m [] → RunsIn text o (goes_to Expression true f (left_of listed.Template last a ps)) ps m e Q → RunsIn text o (goes_to Expression true f (template_elements true (part n ps))) (part n ps) s e Q
first_runs text o f true n a none d done = within d done
first_runs text o f true n a (part k ps) d r = elim r [ ]
first_runs text o f true n a (gap ps) d r = elim r [ ]
first_runs text o f false n a none d r = absurd (run_never Token (SeenNext text) (behind_in text) r)
first_runs text o f false n a (gap ps) d r = absurd (run_never Token (SeenNext text) (behind_in text) r)
first_runs text o f false n a (part k ps) d r = within d r

first_so_far : (text : SourceText) (f : Start) (at : ℕ) (c : ListItem) (o : ℕ) {s m : Token} → FirstChunkAt text s m c.node c.is_flagged → SoFarAt text f (with_item (list_from listed.Template at) c) o s m []
first_so_far text f at c o d as_expression fits = λ ps e Q r. first_runs text o f c.is_flagged c.node as_expression ps (first_spelled text o c.is_flagged c.node d) r
first_so_far text f at c o d (as_pattern b) fits = absurd (false≢true fits)

begun_so_far : (s m : CursorState) (l : ListOf) (f : Start) (o : ℕ) → BegunTemplate s m l → SoFarAt s.text f l o s.last m.last []
begun_so_far s m l f o d = subst (λ k. SoFarAt s.text f k o s.last m.last []) (sym d.list) (first_so_far s.text f l.span.start d.chunk o d.read)

-- a template behind a tag
template_spelled : (text : SourceText) (o : ℕ) {n : Tree} {at : ℕ} {ps : Parts} {s e : Token} {Q : List Pair} (u : LexicalToken) → n ≡ node TemplateLiteral [] plain at e.stop ps → IsAhead Div text s.stop u → at ≡ u.start → RunsIn text o (goes_to Expression true Any (template_elements true ps)) ps s e Q → SpellsIn text o tagged_quasi n s e Q
unfolding spellings
template_spelled text o {at = at} {ps = ps} {s = s} {e = e} {Q = Q} u is ahead starts d =
    let x : Spelling = at_symbol Primary (template_elements true (bare_parts ps)) in
    let n : Tree = node TemplateLiteral [] plain at e.stop ps in
    let runs : RunsIn text o (goes_to Expression true Any (template_elements true (bare_parts ps))) ps s e Q = retell Token (SeenNext text) (behind_in text) (ap (goes_to Expression true Any) (sym (chunks_bare true ps))) d in
    subst (λ v. SpellsIn text o tagged_quasi v s e Q) (sym is)
    (direct (settled tagged_quasi x) (way_from tagged_quasi n x refl first (runs_can Token (SeenNext text) (behind_in text) Expression true Any x.pieces runs)) (placed (ahead_read text Div s u ahead).next (ap (λ (x : ℕ). (x, e.stop)) (sym starts))) runs)

class_template : (c : TokenClass) (w : List ℕ) → link_by c w ≡ Some link.Quasi → c ≡ Template
class_template Template w h = refl
class_template Punctuator w h = of (is w "[") (is w "(") h
  where
    of : (a b : Bool) → cond a (Some link.Index) (cond b (Some link.Arguments) None) ≡ Some link.Quasi → Punctuator ≡ Template
    of true b h = cc
    of false true h = cc
    of false false h = cc
class_template _ w h = cc

template_at : (s m x e : CursorState) (l0 l : ListOf) (n : Tree) (o : ℕ) {Q : List Pair} → m.text ≡ s.text → x.text ≡ m.text → LinkedAt s m link.Quasi false → l0.listed ≡ listed.Template → BegunAt m x l0 → TemplateAt m x l0 → l.listed ≡ l0.listed → l.span.start ≡ l0.span.start → n ≡ listed_node l →
    ((f : Start) (z : Token) (P : List Pair) → SoFarAt x.text f l0 o z x.last P → ListAt x.text f l o z e.last (P ++ Q)) → Behind s.text o s.last e.last link.Quasi false (part n none) Q
template_at s m x e l0 l n o {Q} text text1 sign what begun first_part kept start_is node_is d =
    let stays : m.last ≡ s.last = sign.0.0 in
    let u : LexicalToken = sign.2.0 in
    let ahead : IsAhead Div m.text m.last.stop u = sign.2.1 in
    let class : u.class ≡ Template = class_template u.class u.text sign.2.2 in
    let so_far : SoFarAt m.text Any l0 o m.last x.last [] = begun_so_far m x l0 Any o (first_part what (seen_by m.text is_template Div m.last u ahead (ap (same_class Template) class))) in
    let whole : ListAt x.text Any l o m.last e.last ([] ++ Q) = d Any m.last [] (subst (λ v. SoFarAt v Any l0 o m.last x.last []) (sym text1) so_far) in
    let listed_is : l.listed ≡ listed.Template = kept ∙ what in
    let ended : e.last ≡ whole.mid = subst (λ v. ClosedBy x.text (closing v) whole.mid e.last) listed_is whole.closes in
    let items : RunsIn x.text o (goes_to Expression true Any (template_elements true l.nodes)) l.nodes m.last whole.mid Q = subst (λ v. RunsIn x.text o (stood_in Any v (item_pieces v as_expression l.nodes)) l.nodes m.last whole.mid Q) listed_is (whole.runs as_expression (ap (λ v. whole_of v l as_expression) listed_is)) in
    let runs : RunsIn m.text o (goes_to Expression true Any (template_elements true l.nodes)) l.nodes m.last e.last Q = subst (λ v. RunsIn m.text o (goes_to Expression true Any (template_elements true l.nodes)) l.nodes m.last v Q) (sym ended) (subst (λ v. RunsIn v o (goes_to Expression true Any (template_elements true l.nodes)) l.nodes m.last whole.mid Q) text1 items) in
    let tree : n ≡ node TemplateLiteral [] plain l.span.start e.last.stop l.nodes = node_is ∙ (λ i. node (listed_kind (listed_is i)) [] plain l.span.start (whole.ends i) l.nodes) in
    let spelled : SpellsIn m.text o tagged_quasi n m.last e.last Q = template_spelled m.text o u tree ahead (start_is ∙ place_token m begun.0 (ahead_read m.text Div m.last u ahead)) runs in
    let there : ReadBy Token (SeenNext s.text) (behind_in s.text) Div s.last (as_read u) (unseen (as_read u)) = subst (λ v. ReadBy Token (SeenNext v) (behind_in v) Div s.last (as_read u) (unseen (as_read u))) text (subst (λ v. ReadBy Token (SeenNext m.text) (behind_in m.text) Div v (as_read u) (unseen (as_read u))) stays (ahead_read m.text Div m.last u ahead)) in
    a_template there class (subst (λ v. SpellsIn v o tagged_quasi n s.last e.last Q) text (subst (λ v. SpellsIn m.text o tagged_quasi n v e.last Q) stays spelled))

template_behind : (s m x e : CursorState) (l0 l : ListOf) (n : Tree) (o : ℕ) (b : Bool) {Q : List Pair} → m.text ≡ s.text → x.text ≡ m.text → LinkedAt s m link.Quasi b → l0.listed ≡ listed.Template → BegunAt m x l0 → TemplateAt m x l0 → l.listed ≡ l0.listed → l.span.start ≡ l0.span.start → n ≡ listed_node l →
    ((f : Start) (z : Token) (P : List Pair) → SoFarAt x.text f l0 o z x.last P → ListAt x.text f l o z e.last (P ++ Q)) → Behind s.text o s.last e.last link.Quasi b (part n none) Q
template_behind s m x e l0 l n o true text text1 sign what begun first_part kept start_is node_is d = absurd (false≢true (sym sign.1))
template_behind s m x e l0 l n o false text text1 sign what begun first_part kept start_is node_is d = template_at s m x e l0 l n o text text1 sign what begun first_part kept start_is node_is d

pub template_read : {s m x e : CursorState} {old mid b1 new : List Pair} (w : Subscript) (b : Bool) (l0 l : ListOf) (n : Tree) → m.text ≡ s.text → m.opened ≡ s.opened → mid ≡ old → w ≡ link.Quasi → LinkedAt s m w b →
    x.text ≡ m.text → x.opened ≡ m.opened → b1 ≡ mid → l0.listed ≡ listed.Template → BegunAt m x l0 → TemplateAt m x l0 → l.listed ≡ l0.listed → l.span.start ≡ l0.span.start → n ≡ listed_node l →
    Adds x e b1 new (λ o a c Q. (f : Start) (z : Token) (P : List Pair) → SoFarAt x.text f l0 o z a P → ListAt x.text f l o z c (P ++ Q)) → Adds s e old new (BehindOn s.text w b (part n none))
template_read {s} {m} {x} {e} w b l0 l n text open_same same what_is sign text1 open1 same1 what begun first_part kept start_is node_is a =
    adds_behind (open1 ∙ open_same) (same1 ∙ same) a (λ o Q d.
    subst (λ v. Behind s.text o s.last e.last v b (part n none) Q) (sym what_is) (template_behind s m x e l0 l n o b text text1 (subst (λ v. LinkedAt s m v b) what_is sign) what begun first_part kept start_is node_is d))

-- the symbol, by whether it is a call
not_call : (c : Rank) → (c ≡ Call → ⊥) → is_call c ≡ false
not_call Call h = absurd (h refl)
not_call _ h = refl

pub call_is : (c : Rank) → c ≡ Call → true ≡ is_call c
call_is c e = sym (ap is_call e)

pub call_is_not : (c : Rank) → (c ≡ Call → ⊥) → false ≡ is_call c
call_is_not c h = sym (not_call c h)

-- what is made of what was read
pub links_read : {s e : CursorState} {old new : List Pair} {l r : Operand} {ps nodes : Parts} (w : Subscript) (b called : Bool) → l.cover.shape.is_expression ≡ true → IsTrue (takes Call l.rank) → called ≡ is_call l.rank → nodes ≡ part l.cover.node ps →
    r ≡ plain_part (node (link_kind w) [] (link_flags w b) l.start e.last.stop nodes) (link_rank w called) Other → Adds s e old new (BehindOn s.text w b ps) → Adds s e old new (Links s.text l r)
links_read {s} {e} {l = l} {r = r} {ps = ps} w b called value object call nodes_are made a =
    adds_behind refl refl a (λ o Q d.
    let rank_is = ap (link_rank w) call ∙ rank_of_link w l.rank object in
    subst (λ x. Links s.text l x o s.last e.last Q) (sym (made ∙ (λ i. plain_part (node (link_kind w) [] (link_flags w b) l.start e.last.stop (nodes_are i)) (rank_is i) Other))) (links_behind s.text value object d))

-- it is of the language where what stands before it is, and what was read behind it
link_not_later : (w : Subscript) (b : Bool) (st en : ℕ) (ps : Parts) → is_later (node (link_kind w) [] (link_flags w b) st en ps) ≡ false
link_not_later link.Name b st en ps = refl
link_not_later link.Index b st en ps = refl
link_not_later link.Arguments b st en ps = refl
link_not_later link.Quasi b st en ps = refl

pub link_own : {text : SourceText} {n : Tree} {nodes ps : Parts} {st en : ℕ} (w : Subscript) (b : Bool) → nodes ≡ part n ps → AllOfLanguage text ps → OfLanguage text n → OfLanguage text (node (link_kind w) [] (link_flags w b) st en nodes)
link_own {text} {n} {ps = ps} {st = st} {en = en} w b nodes_are own object =
    subst (λ x. OfLanguage text (node (link_kind w) [] (link_flags w b) st en x)) (sym nodes_are) (of_node (λ base. link_not_later w b st en (part n ps)) (of_part object own))

-- a list as an expression, and a chain
pub list_own : {text : SourceText} (l : ListOf) → AllOfLanguage text l.nodes → OfLanguage text (listed_node l)
list_own l own = of_node (λ base. by l.listed) own
  where
    by : (k : ListKind) → is_later (node (listed_kind k) [] plain l.span.start l.span.end l.nodes) ≡ false
    by listed.Elements = refl
    by listed.Properties = refl
    by _ = refl

pub chain_own : {text : SourceText} {n m : Tree} {st en : ℕ} → n ≡ node ChainExpression [] plain st en (part m none) → OfLanguage text m → OfLanguage text n
chain_own {text} is own = subst (OfLanguage text) (sym is) (of_node (λ base. refl) (of_part own of_none))
