-- A word that was passed, and how what the code makes behind it agrees with what is given (ECMA-262 12.3, 14.1, 14.6).
use Rattle.std.proofs.Common.{◌≡◌, ℕ, suc, ◌≤◌, max, Bool, true, false, cond, List, [], Result, refl, sym, ap, ◌∙◌, subst, arith}
use Rattle.std.specs.Prelude.{Some, codes, nat_eq, slice_index_or}
use Rattle.std.proofs.lemmas.Bool.{false≢true}
use Rattle.source_text.specs.declared.fault.Fault.{Fault}
use Rattle.tokens.specs.Tokens.{LexicalToken}
use Rattle.tokens.specs.declared.token.TokenClass.{TokenClass}
use Rattle.tokens.specs.declared.token.TokenClass.TheVariants.{IdentifierName, Punctuator, NumericLiteral, StringLiteral, Template, RegularExpressionLiteral, PrivateName, Keyword, End}
use Rattle.tokens.specs.declared.token.Goal.TheVariants.{Div}
use Rattle.tokens.specs.declared.token.Goal.TheVariants as goal
use Rattle.token_cursor.specs.CursorState.{CursorState}
use Rattle.tree.specs.declared.kind.Kind.{Kind}
use Rattle.tree.specs.declared.kind.Kind.TheVariants.{ImportExpression, Super}
use Rattle.tree.specs.declared.kind.Pair.{Pair}
use Rattle.tree.specs.Tree.{Tree, node, Parts, none, part, height, kind_of, plain}
use Rattle.language.specs.declared.Rank.{Rank}
use Rattle.language.specs.declared.Rank.TheVariants.{Primary, Call}
use Rattle.language.specs.declared.Edge.TheVariants.{Other}
use Rattle.language.specs.Covers.{Reading, as_expression}
use Rattle.language.specs.ExpressionStart.{ExpressionStart, with_function, with_class, with_super, with_new, with_import, with_yield, with_private_name, with_word, with_template, no_start, expression_start, expression_start_by, start_punctuators}
use Rattle.language.specs.Promises.{ReadBy, is_free}
use Rattle.language.specs.Token.{Token, as_read, table_text, same_class}
use Rattle.language.specs.Vocabulary.{is_keyword, is_target as is_simple}
use Rattle.language.specs.declared.Language.{Language}
use Rattle.token_cursor.proofs.SeenTokens.{seen_determined}
use Rattle.parser_tables.specs.declared.expression_starts.ExpressionStart.{ExpressionStart as Coded}
use Rattle.parser_tables.specs.declared.expression_starts.ExpressionStart.TheVariants as code
use Rattle.recursive_descent.specs.declared.subscripts.Subscript.{Subscript}
use Rattle.recursive_descent.specs.declared.subscripts.Subscript.TheVariants as link
use Rattle.covers.specs.declared.list.ListKind.{ListKind}
use Rattle.covers.specs.Shapes.{shape_of, is_target}
use Rattle.recursive_descent.specs.Complete.{SubscriptComplete}
use Rattle.recursive_descent.specs.Subscripts.{link_kind, link_flags, link_rank}
use Rattle.parser_tables.specs.Tokens.{single_node}
use Rattle.recursive_descent.proofs.complete_expressions.StartsGiven.{has_height}
use Rattle.recursive_descent.proofs.complete_subscripts.SuperGiven.{SuperGiven}
use Rattle.parser_tables.specs.declared.functions_and_classes.FunctionOrClass.{FunctionOrClass}
use Rattle.parser_tables.specs.declared.functions_and_classes.FunctionOrClass.TheVariants as closure
use Rattle.parser_tables.specs.declared.operand.Operand.{Operand}
use Rattle.recursive_descent.specs.Completeness.{Agrees, Room, EndsWith, IsFirst}
use Rattle.parser_tables.specs.ExpressionStarts.{coded_start, coded_in, is_by_word}
use Rattle.recursive_descent.proofs.sound_expressions.CodedStarts.{coded_plain}
use Rattle.recursive_descent.proofs.reading.SeenClasses.{name_place}
use Rattle.recursive_descent.proofs.reading.LanguageTrees.{parts_of_language, others_of_language, first_of_language}
use Rattle.parser_tables.specs.StatementSymbols.{function_or_class_kind, function_or_class_flags}
use Rattle.recursive_descent.specs.Spelled.{OfLanguage, AllOfLanguage}
use Rattle.recursive_descent.specs.Soundness.{RunsIn, anywhere}
use Rattle.recursive_descent.specs.SoundnessOfStatements.{closure_pieces}
use Rattle.parser_tables.specs.Operands.{plain_part}
use Rattle.token_cursor.specs.Seen.{ReadsHere, Misses, SeesBy, MissesBy}
use Rattle.parser_tables.specs.Tests.{continues_super}
use Rattle.recursive_descent.proofs.complete_expressions.AgreedNodes.{FirstWith, agrees_more}
use Rattle.recursive_descent.proofs.complete_expressions.Agreement.{marks_same, not_missed}
use Rattle.recursive_descent.proofs.complete_expressions.FunctionsAndClassesGiven.{ClosureGiven, ImportGiven, made_first}
use Rattle.recursive_descent.proofs.sound_expressions.StartsByToken.{by_texts}
use Rattle.token_cursor.specs.SourceText.{SourceText, SeenNext, behind_in}

abbrev pub is_worded : ExpressionStart → Bool
is_worded with_function = true
is_worded with_class = true
is_worded with_super = true
is_worded with_new = true
is_worded with_import = true
is_worded with_yield = true
is_worded _ = false

other_part : {A : Type 0} (b : Bool) → is_worded (cond b with_template no_start) ≡ true → A
other_part true h = absurd (false≢true h)
other_part false h = absurd (false≢true h)

word_class : (c : TokenClass) (w : List ℕ) → is_worded (expression_start_by c w) ≡ true → c ≡ IdentifierName
word_class IdentifierName w h = refl
word_class Punctuator w h = absurd (false≢true (by_texts is_worded w start_punctuators no_start refl h))
word_class NumericLiteral w h = absurd (false≢true h)
word_class StringLiteral w h = absurd (false≢true h)
word_class RegularExpressionLiteral w h = absurd (false≢true h)
word_class Template w h = other_part (nat_eq (slice_index_or w 0 0) 96) h
word_class PrivateName w h = absurd (false≢true h)
word_class Keyword w h = absurd (false≢true (sym (no_operator (is_keyword w)) ∙ h))
  where
    no_operator : (b : Bool) → is_worded (cond b with_word no_start) ≡ false
    no_operator true = refl
    no_operator false = refl
word_class End w h = absurd (false≢true h)

-- what the code has for each word
module _ (l : Language) (t : Token) where
  pub function_coded : coded_in l t ≡ Some code.Function → expression_start t ≡ with_function
  function_coded h = of (expression_start t) (coded_plain l (expression_start t) t.text code.Function h refl)
    where
      of : (x : ExpressionStart) → coded_start x ≡ Some code.Function → x ≡ with_function
      of with_function h = refl
      of _ h = cc

  pub class_coded : coded_in l t ≡ Some code.Class → expression_start t ≡ with_class
  class_coded h = of (expression_start t) (coded_plain l (expression_start t) t.text code.Class h refl)
    where
      of : (x : ExpressionStart) → coded_start x ≡ Some code.Class → x ≡ with_class
      of with_class h = refl
      of _ h = cc

  pub super_coded : coded_in l t ≡ Some code.Super → expression_start t ≡ with_super
  super_coded h = of (expression_start t) (coded_plain l (expression_start t) t.text code.Super h refl)
    where
      of : (x : ExpressionStart) → coded_start x ≡ Some code.Super → x ≡ with_super
      of with_super h = refl
      of _ h = cc

  pub new_coded : coded_in l t ≡ Some code.New → expression_start t ≡ with_new
  new_coded h = of (expression_start t) (coded_plain l (expression_start t) t.text code.New h refl)
    where
      of : (x : ExpressionStart) → coded_start x ≡ Some code.New → x ≡ with_new
      of with_new h = refl
      of _ h = cc

  pub import_coded : coded_in l t ≡ Some code.Import → expression_start t ≡ with_import
  import_coded h = of (expression_start t) (coded_plain l (expression_start t) t.text code.Import h refl)
    where
      of : (x : ExpressionStart) → coded_start x ≡ Some code.Import → x ≡ with_import
      of with_import h = refl
      of _ h = cc

  pub yield_coded : coded_in l t ≡ Some code.Yield → expression_start t ≡ with_yield
  yield_coded h = of (expression_start t) (coded_plain l (expression_start t) t.text code.Yield h refl)
    where
      of : (x : ExpressionStart) → coded_start x ≡ Some code.Yield → x ≡ with_yield
      of with_yield h = refl
      of _ h = cc

  pub private_coded : coded_in l t ≡ Some code.PrivateName → expression_start t ≡ with_private_name
  private_coded h = of (expression_start t) (coded_plain l (expression_start t) t.text code.PrivateName h refl)
    where
      of : (x : ExpressionStart) → coded_start x ≡ Some code.PrivateName → x ≡ with_private_name
      of with_private_name h = refl
      of _ h = cc

-- a word that was passed is read by the goal for operands, as it stands
pub record WordHere (text : SourceText) (from m : Token) (u : LexicalToken) : Type 0 where
  pub read : ReadBy Token (SeenNext text) (behind_in text) goal.RegExp from m m
  pub same : m ≡ u
  pub begins : expression_start m ≡ expression_start (as_read u)

pub word_here : (text : SourceText) {from m : Token} (u : LexicalToken) → SeenNext text from (as_read u) m → is_worded (expression_start (as_read u)) ≡ true → WordHere text from m u
word_here text {from} {m} u next h =
    let class : u.class ≡ IdentifierName = word_class u.class (as_read u).text h in
    let last : behind_in text m ≡ as_read u = (seen_determined text).last from (as_read u) m next in
    let here : as_read u ≡ m = sym last ∙ name_place text m (ap (λ (x : Token). x.class) last ∙ class) in
    let next_here : SeenNext text from m m = subst (λ x. SeenNext text from x m) here next in
    record {
      read = record { next = next_here; allowed = (seen_determined text).free goal.RegExp from m m next_here (ap is_free (sym (ap (λ (x : Token). x.class) here) ∙ class)) };
      same = sym here ∙ (λ i. record u { text = table_text (class i) u.text });
      begins = ap expression_start (sym here);
    }

closure_complex : (c : FunctionOrClass) → is_simple (function_or_class_kind c) ≡ false
closure_complex (closure.Function x) = refl
closure_complex (closure.FunctionDeclaration x) = refl
closure_complex (closure.DefaultFunction x) = refl
closure_complex (closure.Method x) = refl
closure_complex _ = refl

-- a function or a class that was read is what is given
pub closure_first : {text : SourceText} {o : ℕ} {h : Rank} {u : Token} {n : Tree} {mid to : Token} {Q : List Pair} {a : Reading} {c : FunctionOrClass} (v : ClosureGiven text o h u n mid to Q a c) (at : ℕ) (m : Tree) (r : Operand) → at ≡ u.start → m ≡ node (function_or_class_kind c) [] (function_or_class_flags c) at to.stop v.parts → r ≡ plain_part m Primary Other → IsFirst a h r n
closure_first {h = h} {u = u} {n = n} {to = to} {a = a} {c = c} v at m r from is part_is =
    let tree : m ≡ n = is ∙ ap (λ k. node (function_or_class_kind c) [] (function_or_class_flags c) k to.stop v.parts) from ∙ sym v.tree in
    subst (λ x. IsFirst a h x n) (sym part_is) (made_first v.reading tree (λ k. absurd (false≢true (sym (closure_complex c) ∙ sym (ap (λ c. is_simple (kind_of c)) v.tree) ∙ k))) v.taken)

-- its parts, at an equal text
pub closure_runs : {text m_text : SourceText} {o : ℕ} {h : Rank} {u : Token} {n : Tree} {mid to : Token} {Q : List Pair} {a : Reading} {c : FunctionOrClass} (v : ClosureGiven text o h u n mid to Q a c) → m_text ≡ text → RunsIn m_text o (anywhere (closure_pieces c v.parts)) v.parts mid to Q
closure_runs {o = o} {mid = mid} {to = to} {Q = Q} {c = c} v same = subst (λ x. RunsIn x o (anywhere (closure_pieces c v.parts)) v.parts mid to Q) (sym same) v.runs

pub closure_own : {text m_text : SourceText} {o : ℕ} {h : Rank} {u : Token} {n : Tree} {mid to : Token} {Q : List Pair} {a : Reading} {c : FunctionOrClass} (v : ClosureGiven text o h u n mid to Q a c) → m_text ≡ text → OfLanguage text n → AllOfLanguage m_text v.parts
closure_own {text} v same own = subst (λ x. AllOfLanguage x v.parts) (sym same) (parts_of_language (subst (OfLanguage text) v.tree own))

-- the same place, seen from a point
pub misses_not : {text : SourceText} {s x : Token} {w : List ℕ} (e : CursorState) → e.text ≡ text → e.last ≡ s → Misses e.text Punctuator w e.last → ReadsHere text Punctuator w s x → ⊥
misses_not {text} {s} {x} {w} e texts places missed read = not_missed missed (subst (λ c. ReadsHere c Punctuator w e.last x) (sym texts) (subst (λ c. ReadsHere text Punctuator w c x) (sym places) read))

pub same_mark : {text : SourceText} {s k x : Token} {w : List ℕ} (e : CursorState) → e.text ≡ text → e.last ≡ s → ReadsHere e.text Punctuator w e.last k → ReadsHere text Punctuator w s x → k ≡ x
same_mark {text} {s} {k} {x} {w} e texts places a b = (marks_same text (subst (λ c. ReadsHere text Punctuator w c k) places (subst (λ c. ReadsHere c Punctuator w e.last k) texts a)) b).1

-- the call of `import` that was read is what is given
pub import_first : {text : SourceText} {o : ℕ} {h : Rank} {u : Token} {n : Tree} {to : Token} {Q : List Pair} {a : Reading} (v : ImportGiven text o h u n to Q a) (at en : ℕ) (m : Tree) (r : Operand) (x : Tree) → at ≡ u.start → en ≡ to.stop → x ≡ v.source → m ≡ node ImportExpression [] plain at en (part x none) → r ≡ plain_part m Call Other → IsFirst a h r n
import_first {h = h} {u = u} {n = n} {to = to} {a = a} v at en m r x from end same is part_is =
    let tree : m ≡ n = is ∙ (λ i. node ImportExpression [] plain (from i) (end i) (part (same i) none)) ∙ sym v.tree in
    subst (λ x. IsFirst a h x n) (sym part_is) (made_first v.reading tree (λ k. absurd (false≢true (sym (ap (λ c. is_simple (kind_of c)) v.tree) ∙ k))) v.taken)

pub import_low : {text : SourceText} {o : ℕ} {h : Rank} {u : Token} {n : Tree} {to : Token} {Q : List Pair} {a : Reading} (v : ImportGiven text o h u n to Q a) → height n ≡ suc (max (height v.source) 0)
import_low v = ap height v.tree

-- what is no token alone, no list, no parenthesis and no operator
pub by_word : (y : Coded) → ((k : Kind) → y ≡ code.OneToken k → ⊥) → ((w : ListKind) → y ≡ code.List w → ⊥) → (y ≡ code.Parenthesis → ⊥) → ((own side : Rank) → y ≡ code.Prefix own side → ⊥) → is_by_word y ≡ true
by_word code.Function a b c d = refl
by_word code.Class a b c d = refl
by_word code.Super a b c d = refl
by_word code.New a b c d = refl
by_word code.Import a b c d = refl
by_word code.Async a b c d = refl
by_word code.Yield a b c d = refl
by_word code.PrivateName a b c d = refl
by_word (code.OneToken k) a b c d = absurd (a k refl)
by_word (code.List w) a b c d = absurd (b w refl)
by_word code.Parenthesis a b c d = absurd (c refl)
by_word (code.Prefix own side) a b c d = absurd (d own side refl)

-- a link behind `super`
link_simple : (l : Subscript) (st en : ℕ) (ps : Parts) → is_simple (link_kind l) ≡ true → is_target (shape_of (node (link_kind l) [] (link_flags l false) st en ps)).assigned ≡ true
link_simple link.Name st en ps k = refl
link_simple link.Index st en ps k = refl
link_simple link.Arguments st en ps k = absurd (false≢true k)
link_simple link.Quasi st en ps k = absurd (false≢true k)

link_tall : (l : Subscript) (st en : ℕ) (b : Tree) (ps : Parts) → suc (height b) ≤ height (node (link_kind l) [] (link_flags l false) st en (part b ps))
link_tall l st en b ps = omega arith

pub super_low : {text : SourceText} {o : ℕ} {h : Rank} {u : Token} {n : Tree} {to : Token} {Q : List Pair} {k : Bool} (v : SuperGiven text o h u n to Q k) → 2 ≤ height n
super_low {u = u} {n = n} {to = to} v =
    let low = link_tall v.l u.start to.stop (single_node Super u) v.ps in
    let high : height n ≡ height (node (link_kind v.l) [] (link_flags v.l false) u.start to.stop (part (single_node Super u) v.ps)) = ap height v.tree in
    let one : 1 ≤ height (single_node Super u) = has_height (single_node Super u) in
    omega arith

-- what `linked` makes of it
pub super_agrees : (s e : CursorState) (old new : List Pair) (high : ℕ) (u : LexicalToken) (left : Operand) (result : Result Operand Fault) {o : ℕ} {h : Rank} {n : Tree} {to : Token} {Q : List Pair} {a : Reading} {k : Bool} → left ≡ plain_part (single_node Super u) Primary Other → s.last ≡ u → SubscriptComplete s e old new high left result → a ≡ as_expression → SuperGiven s.text o h s.last n to Q k → OfLanguage s.text n →
    Agrees (Room s o (height n) high) (FirstWith s e old new a h n to Q) result
super_agrees s e old new high u left result {o} {h} {n} {to} {Q} {a} left_is same complete reading v own =
    let made : Tree = node (link_kind v.l) [] (link_flags v.l false) u.start to.stop (part (single_node Super u) v.ps) in
    let tree : n ≡ made = v.tree ∙ (λ i. node (link_kind v.l) [] (link_flags v.l false) (same i).start to.stop (part (single_node Super (same i)) v.ps)) in
    let linked : SubscriptComplete s e old new high (plain_part (single_node Super u) Primary Other) result = subst (λ (x : Operand). SubscriptComplete s e old new high x result) left_is complete in
    agrees_more (Room s o (height made) high) (Room s o (height n) high) (λ r. (r ≡ plain_part made (link_rank v.l false) Other) × EndsWith s e old new to Q) (FirstWith s e old new a h n to Q) result (linked v.l false v.ps o to Q v.runs refl refl (others_of_language (parts_of_language (subst (OfLanguage s.text) tree own)))) (λ room. (room.0, subst (λ (x : Tree). height x ≤ high) tree room.1))
    (λ r is_ok found. (subst (λ x. IsFirst a h x n) (sym found.0) (made_first reading (sym tree) (λ c. subst (λ x. is_target (shape_of x).assigned ≡ true) (sym tree) (link_simple v.l u.start to.stop (part (single_node Super u) v.ps) (sym (ap (λ x. is_simple (kind_of x)) tree) ∙ c))) v.taken), found.1))

-- no other word begins so
pub other_word : {A : Type 0} (y : Coded) → is_by_word y ≡ true → (y ≡ code.Function → ⊥) → (y ≡ code.Class → ⊥) → (y ≡ code.Super → ⊥) → (y ≡ code.New → ⊥) → (y ≡ code.Import → ⊥) → (y ≡ code.Async → ⊥) → (y ≡ code.Yield → ⊥) → (y ≡ code.PrivateName → ⊥) → A
other_word code.Function h a b c d e f g k = absurd (a refl)
other_word code.Class h a b c d e f g k = absurd (b refl)
other_word code.Super h a b c d e f g k = absurd (c refl)
other_word code.New h a b c d e f g k = absurd (d refl)
other_word code.Import h a b c d e f g k = absurd (e refl)
other_word code.Async h a b c d e f g k = absurd (f refl)
other_word code.Yield h a b c d e f g k = absurd (g refl)
other_word code.PrivateName h a b c d e f g k = absurd (k refl)
other_word (code.OneToken x) h a b c d e f g k = absurd (false≢true h)
other_word (code.List w) h a b c d e f g k = absurd (false≢true h)
other_word code.Parenthesis h a b c d e f g k = absurd (false≢true h)
other_word (code.Prefix own side) h a b c d e f g k = absurd (false≢true h)

-- a sign that goes on behind `super` is seen
pub super_missed : {text : SourceText} {s : Token} {A : Type 0} (k j : Bool) → k ≡ j → MissesBy text Div (continues_super k) s → SeesBy text Div (continues_super j) s → A
super_missed {text} k j same missed sees = let t = behind_in text sees.0 in absurd (false≢true (sym (missed t sees.0 sees.1.0) ∙ ap (λ b. continues_super b t) same ∙ sees.1.1))

-- the source of a call of `import` is of the language
pub import_own : {text m_text : SourceText} {o : ℕ} {h : Rank} {u : Token} {n : Tree} {to : Token} {Q : List Pair} {a : Reading} (v : ImportGiven text o h u n to Q a) → m_text ≡ text → OfLanguage text n → OfLanguage m_text v.source
import_own {text} v same own = subst (λ x. OfLanguage x v.source) (sym same) (first_of_language (parts_of_language (subst (OfLanguage text) v.tree own)))

-- where a private name was seen behind a `.`, `super` isn't given
pub super_private : {text : SourceText} {A : Type 0} {o : ℕ} {h : Rank} {u : Token} {n : Tree} {to x m e : Token} {Q : List Pair} {k : Bool} → SuperGiven text o h u n to Q k → ReadsHere text Punctuator (codes ".") u m → SeenNext text m x e → x.class ≡ PrivateName → A
super_private {x = x} {m = m} {e = e} v dot next class = absurd (false≢true (sym (v.plainly x m e dot next) ∙ ap (same_class PrivateName) class))
