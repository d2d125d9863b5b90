-- How what the code makes behind `new` agrees with what is given (ECMA-262 12.3.5, 12.3.12).
use Rattle.std.proofs.Common.{◌≡◌, ℕ, suc, ◌≤◌, max, true, false, List, [], ◌++◌, Result, Ok, Err, refl, sym, ap, ◌∙◌, subst, arith}
use Rattle.std.specs.Prelude.{IsTrue, codes}
use Rattle.std.specs.Result.{IfOk, IfErr}
use Rattle.std.proofs.lemmas.Bool.{false≢true}
use Rattle.source_text.specs.declared.fault.Fault.{Fault}
use Rattle.source_text.specs.declared.fault.Fault.TheVariants.{Syntax, TooDeep, OutOfMemory}
use Rattle.tokens.specs.Tokens.{LexicalToken}
use Rattle.tokens.specs.declared.token.TokenClass.TheVariants.{IdentifierName, Punctuator}
use Rattle.token_cursor.specs.CursorState.{CursorState}
use Rattle.tree.specs.declared.kind.Kind.TheVariants.{NewExpression}
use Rattle.tree.specs.declared.kind.Pair.{Pair}
use Rattle.tree.specs.Tree.{Tree, node, Parts, none, part, height, parts_height, kind_of, plain}
use Rattle.language.specs.declared.Rank.{Rank}
use Rattle.language.specs.declared.Rank.TheVariants.{New, Member}
use Rattle.language.specs.declared.Start.TheVariants.{Any}
use Rattle.language.specs.declared.Edge.TheVariants.{Other}
use Rattle.language.specs.Covers.{Reading, as_expression}
use Rattle.language.specs.Expressions.{arguments}
use Rattle.language.specs.ExpressionStart.{expression_start, expression_start_by}
use Rattle.language.specs.Pieces.{expr}
use Rattle.language.specs.Promises.{Callee, at_member, at_new}
use Rattle.language.specs.Token.{Token}
use Rattle.language.specs.Vocabulary.{takes, is_target as is_simple}
use Rattle.tokens.specs.declared.token.Goal.TheVariants.{RegExp}
use Rattle.language.proofs.climbing.Callees.{spells_new}
use Rattle.language.proofs.climbing.LeftmostParts.{core_of}
use Rattle.language.proofs.climbing.FirstTurn.{begins}
use Rattle.token_cursor.proofs.SeenTokens.{seen_determined}
use Rattle.parser_tables.specs.declared.operand.Operand.{Operand}
use Rattle.parser_tables.specs.declared.expression_context.ExpressionContext.{ExpressionContext}
use Rattle.recursive_descent.specs.Soundness.{RunsIn, anywhere}
use Rattle.recursive_descent.specs.Follows.{target_node, NotTarget}
use Rattle.recursive_descent.specs.Completeness.{Agrees, Room, EndsWith, IsFirst, StopsIn, GivenAs, a_callee}
use Rattle.parser_tables.specs.Operands.{plain_part}
use Rattle.token_cursor.specs.Seen.{ReadsHere, Misses, Sees}
use Rattle.recursive_descent.proofs.complete_expressions.AgreedNodes.{FirstWith}
use Rattle.recursive_descent.proofs.complete_expressions.Agreement.{marks_same, words_same, not_missed, ends_none, ends_both, ends_same}
use Rattle.recursive_descent.proofs.complete_expressions.FunctionsAndClassesGiven.{ImportGiven, made_first}
use Rattle.recursive_descent.proofs.complete_subscripts.NewGiven.{NewGiven, new_target, new_given, new_alone, ImportBegun, a_call, a_meta}
use Rattle.language.specs.Languages.{is_of_2022}
use Rattle.recursive_descent.proofs.complete_expressions.StartsGiven.{begins_some, core_begins, sign_read}
use Rattle.token_cursor.specs.SourceText.{SourceText, SeenNext, behind_in}
use Rattle.recursive_descent.specs.Spelled.{SpellsIn, OfLanguage, AllOfLanguage}
use Rattle.recursive_descent.proofs.reading.LanguageTrees.{first_of_language, others_of_language, parts_of_language}

-- a callee doesn't begin with a `.`
no_dot : (text : SourceText) {A : Type 0} {o : ℕ} {n : Tree} {s x to : Token} {Q : List Pair} → SpellsIn text o (expr New true Any) n s to Q → StopsIn text New true n to → ReadsHere text Punctuator (codes ".") s x → A
no_dot text {s = s} {x = x} d stopped dot =
    let b = begins Token (SeenNext text) (behind_in text) (seen_determined text) d stopped in
    let c = core_of Token (SeenNext text) (behind_in text) (seen_determined text) b.begun.core in
    let r = sign_read text dot refl in
    let same = ap expression_start ((seen_determined text).same RegExp s c.begins.token (behind_in text x) c.begins.mid x c.begins.read.next r.next c.begins.read.allowed r.allowed).0 in
    let none : begins_some c.opening ≡ false = ap begins_some (sym c.begins.opens ∙ same ∙ (λ i. expression_start_by (dot.class i) (dot.text i))) in
    absurd (false≢true (sym none ∙ core_begins text c.cored))

-- what is behind a callee
pub data TailGiven (text : SourceText) (o : ℕ) (h : Rank) (u : Token) (n callee : Tree) (mid to : Token) (A Q : List Pair) : Type 0 where
  with_arguments : {ps : Parts} {x : Token} {B : List Pair} → n ≡ node NewExpression [] plain u.start to.stop (part callee ps) → IsTrue (takes h Member) → ReadsHere text Punctuator (codes "(") mid x → RunsIn text o (anywhere (arguments ps)) ps mid to B → Q ≡ A ++ B → TailGiven text o h u n callee mid to A Q
  without : n ≡ node NewExpression [] plain u.start to.stop (part callee none) → IsTrue (takes h New) → Misses text Punctuator (codes "(") mid → mid ≡ to → Q ≡ A → TailGiven text o h u n callee mid to A Q

-- a callee that can't go on, and what is behind it
pub record CalleeGiven (text : SourceText) (o : ℕ) (h : Rank) (u : Token) (n : Tree) (to : Token) (Q : List Pair) : Type 0 where
  pub callee : Tree
  pub mid : Token
  pub A : List Pair
  pub is : Callee Token (SeenNext text) (behind_in text) o callee u mid A
  pub stopped : StopsIn text New true callee mid
  pub low : suc (height callee) ≤ height n
  pub tail : TailGiven text o h u n callee mid to A Q

tall : (n callee : Tree) (st en : ℕ) (ps : Parts) → n ≡ node NewExpression [] plain st en (part callee ps) → suc (height callee) ≤ height n
tall n callee st en ps is = let high : height n ≡ suc (max (height callee) (parts_height ps)) = ap height is in omega arith

-- where no `.` is read
pub callee_given : {text : SourceText} {o : ℕ} {h : Rank} {u : Token} {n : Tree} {to : Token} {Q : List Pair} → NewGiven text o h u n to Q → Misses text Punctuator (codes ".") u → CalleeGiven text o h u n to Q
callee_given (new_target {x = x} dot name is pairs tk) missed = absurd (not_missed missed dot)
callee_given {u = u} {n = n} {to = to} (new_given {callee = callee} {ps = ps} {mid = mid} {A = A} is tk spelled stopped left runs pairs) missed = record { callee = callee; mid = mid; A = A; is = at_member spelled; stopped = stopped; low = tall n callee u.start to.stop ps is; tail = with_arguments is tk left runs pairs }
callee_given {u = u} {n = n} {to = to} {Q = Q} (new_alone {callee = callee} is tk spelled stopped closed) missed = record { callee = callee; mid = to; A = Q; is = at_new spelled closed; stopped = stopped; low = tall n callee u.start to.stop none is; tail = without is tk closed refl refl }

-- a callee at its position
pub callee_at : {text text' : SourceText} {p : ExpressionContext} {o : ℕ} {n : Tree} {s s' e : Token} {P : List Pair} → text' ≡ text → s' ≡ s → p ≡ record { rank = New; has_in = true; start = Any } → Callee Token (SeenNext text) (behind_in text) o n s e P → StopsIn text New true n e → GivenAs text' p o n s' e P as_expression
callee_at {text} {text'} {p} {o} {n} {s} {s'} {e} {P} texts places is d stopped =
    subst (λ x. GivenAs x p o n s' e P as_expression) (sym texts) (subst (λ x. GivenAs text p o n x e P as_expression) (sym places) (subst (λ (x : ExpressionContext). GivenAs text x o n s e P as_expression) (sym is) (a_callee refl d stopped)))

-- the parts behind the callee, where a `(` is read, and where none is
pub record WithGiven (text : SourceText) (o : ℕ) (h : Rank) (u : Token) (n callee : Tree) (mid to : Token) (A Q : List Pair) : Type 0 where
  pub ps : Parts
  pub B : List Pair
  pub tree : n ≡ node NewExpression [] plain u.start to.stop (part callee ps)
  pub taken : IsTrue (takes h Member)
  pub runs : RunsIn text o (anywhere (arguments ps)) ps mid to B
  pub pairs : Q ≡ A ++ B
  pub low : suc (parts_height ps) ≤ height n

pub with_given : {text : SourceText} {o : ℕ} {h : Rank} {u : Token} {n callee : Tree} {mid to x : Token} {A Q : List Pair} → TailGiven text o h u n callee mid to A Q → ReadsHere text Punctuator (codes "(") mid x → WithGiven text o h u n callee mid to A Q
with_given {n = n} {callee = callee} (with_arguments {ps = ps} {B = B} is tk left runs pairs) sign = record { ps = ps; B = B; tree = is; taken = tk; runs = runs; pairs = pairs; low = let high : height n ≡ suc (max (height callee) (parts_height ps)) = ap height is in omega arith }
with_given {x = x} (without is tk missed same pairs) sign = absurd (not_missed missed sign)

pub record AloneGiven (h : Rank) (u : Token) (n callee : Tree) (mid to : Token) (A Q : List Pair) : Type 0 where
  pub tree : n ≡ node NewExpression [] plain u.start to.stop (part callee none)
  pub taken : IsTrue (takes h New)
  pub place : mid ≡ to
  pub pairs : Q ≡ A

pub alone_given : {text : SourceText} {o : ℕ} {h : Rank} {u : Token} {n callee : Tree} {mid to : Token} {A Q : List Pair} → TailGiven text o h u n callee mid to A Q → Misses text Punctuator (codes "(") mid → AloneGiven h u n callee mid to A Q
alone_given (with_arguments {x = x} is tk left runs pairs) missed = absurd (not_missed missed left)
alone_given (without is tk closed same pairs) missed = record { tree = is; taken = tk; place = same; pairs = pairs }

-- a sign that is seen, or missed, from an equal point
pub seen_at : {text : SourceText} {s : Token} {w : List ℕ} (e : CursorState) → e.text ≡ text → e.last ≡ s → Sees e.text Punctuator w e.last → (x : Token) × ReadsHere text Punctuator w s x
seen_at {text} {s} {w} e texts places h = (h.0, subst (λ c. ReadsHere text Punctuator w c h.0) places (subst (λ c. ReadsHere c Punctuator w e.last h.0) texts h.1))

pub missed_at : {text : SourceText} {s : Token} {w : List ℕ} (e : CursorState) → e.text ≡ text → e.last ≡ s → Misses e.text Punctuator w e.last → Misses text Punctuator w s
missed_at {text} {s} {w} e texts places h = subst (λ c. Misses text Punctuator w c) places (subst (λ c. Misses c Punctuator w e.last) texts h)

-- the node that was read is what is given
pub new_first : {h r : Rank} {n : Tree} {a : Reading} (m : Tree) (p : Operand) (at en : ℕ) (qs ps : Parts) {st to : ℕ} → a ≡ as_expression → n ≡ node NewExpression [] plain st to ps → IsTrue (takes h r) → m ≡ node NewExpression [] plain at en qs → at ≡ st → en ≡ to → qs ≡ ps → p ≡ plain_part m r Other → IsFirst a h p n
new_first {h} {r} {n} {a} m p at en qs ps reading tree tk is from end same part_is =
    subst (λ x. IsFirst a h x n) (sym part_is) (made_first reading (is ∙ (λ i. node NewExpression [] plain (from i) (end i) (same i)) ∙ sym tree) (λ k. absurd (false≢true (sym (ap (λ c. is_simple (kind_of c)) tree) ∙ k))) tk)

-- what `new_target` answers
pub target_agrees : (s m e : CursorState) (old new : List Pair) (high : ℕ) (u : LexicalToken) (result : Result Operand Fault) {o : ℕ} {h : Rank} {n : Tree} {to : Token} {Q : List Pair} {a : Reading} → a ≡ as_expression → NewGiven s.text o h s.last n to Q → s.last ≡ u → m.text ≡ s.text → ReadsHere s.text Punctuator (codes ".") s.last m.last → new ≡ old →
    IfOk result (λ p. ReadsHere m.text IdentifierName (codes "target") m.last e.last × (p ≡ plain_part (target_node u e.last) Member Other) × (2 ≤ high)) → IfErr result (NotTarget m (codes "target") high) → Agrees (Room s o (height n) high) (FirstWith s e old new a h n to Q) result
target_agrees s m e old new high u result {o} {h} {n} {to} {Q} {a} reading v same text dot none_more = of v result
  where
    of : NewGiven s.text o h s.last n to Q → (result : Result Operand Fault) → IfOk result (λ p. ReadsHere m.text IdentifierName (codes "target") m.last e.last × (p ≡ plain_part (target_node u e.last) Member Other) × (2 ≤ high)) → IfErr result (NotTarget m (codes "target") high) → Agrees (Room s o (height n) high) (FirstWith s e old new a h n to Q) result
    of (new_given is tk spelled stopped left runs pairs) r ok err = no_dot s.text (spells_new Token (SeenNext s.text) (behind_in s.text) spelled) stopped dot
    of (new_alone is tk spelled stopped closed) r ok err = no_dot s.text spelled stopped dot
    of (new_target {x = x} dot' name is pairs tk) r ok err = go r ok err
      where
        at : m.last ≡ x
        at = (marks_same s.text dot dot').1

        here : ReadsHere s.text IdentifierName (codes "target") m.last to
        here = subst (λ c. ReadsHere s.text IdentifierName (codes "target") c to) (sym at) name

        there : ReadsHere m.text IdentifierName (codes "target") m.last to
        there = subst (λ c. ReadsHere c IdentifierName (codes "target") m.last to) (sym text) here

        go : (r : Result Operand Fault) → IfOk r (λ p. ReadsHere m.text IdentifierName (codes "target") m.last e.last × (p ≡ plain_part (target_node u e.last) Member Other) × (2 ≤ high)) → IfErr r (NotTarget m (codes "target") high) → Agrees (Room s o (height n) high) (FirstWith s e old new a h n to Q) r
        go (Ok p) ok err =
            let end : e.last ≡ to = (words_same m.text ok.0 there).1 in
            let tree : target_node u e.last ≡ n = (λ i. target_node (sym same i) (end i)) ∙ sym is in
            (subst (λ c. IsFirst a h c n) (sym ok.1) (made_first reading tree (λ k. absurd (false≢true (sym (ap (λ c. is_simple (kind_of c)) is) ∙ k))) tk), subst (λ c. EndsWith s e old new to c) (sym pairs) (ends_none end none_more))
        go (Err (Syntax at)) ok err = absurd (not_missed err there)
        go (Err TooDeep) ok err = λ room. (let l = room.1 in let high_is : height n ≡ 2 = ap height is in absurd (omega arith))
        go (Err OutOfMemory) ok err = tt
        go (Err _) ok err = absurd err

-- what was read behind the callee is what is given
pub record TailRead (h : Rank) (u : Token) (n : Tree) (to : Token) (s e : CursorState) (old new : List Pair) (Q : List Pair) (nodes : Parts) (r : Rank) : Type 0 where
  pub ps : Parts
  pub tree : n ≡ node NewExpression [] plain u.start to.stop ps
  pub same : nodes ≡ ps
  pub taken : IsTrue (takes h r)
  pub ends : EndsWith s e old new to Q

pub tail_with : {text : SourceText} {o : ℕ} {h r : Rank} {u : Token} {n callee k : Tree} {mid to : Token} {A Q : List Pair} {s e e2 : CursorState} {old between new : List Pair} {nodes args : Parts} (z : WithGiven text o h u n callee mid to A Q) → nodes ≡ part k args → k ≡ callee → args ≡ z.ps → r ≡ Member →
    EndsWith s e old between mid A → EndsWith e e2 between new to z.B → TailRead h u n to s e2 old new Q nodes r
tail_with {h = h} {callee = callee} z is first rest rank_is a b = record { ps = part callee z.ps; tree = z.tree; same = is ∙ (λ i. part (first i) (rest i)); taken = subst (λ x. IsTrue (takes h x)) (sym rank_is) z.taken; ends = ends_same (sym z.pairs) (ends_both a b) }

pub tail_alone : {h r : Rank} {u : Token} {n callee k : Tree} {mid to : Token} {A Q : List Pair} {s e : CursorState} {old new : List Pair} {nodes : Parts} (z : AloneGiven h u n callee mid to A Q) → nodes ≡ part k none → k ≡ callee → r ≡ New → EndsWith s e old new mid A → TailRead h u n to s e old new Q nodes r
tail_alone {h = h} {callee = callee} {A = A} {s = s} {e} {old} {new} z is first rank_is a =
    record { ps = part callee none; tree = z.tree; same = is ∙ ap (λ x. part x none) first; taken = subst (λ x. IsTrue (takes h x)) (sym rank_is) z.taken; ends = ends_same (sym z.pairs) (subst (λ x. EndsWith s e old new x A) z.place a) }

-- its node is as high as what is given
pub tail_low : {h : Rank} {u : Token} {n : Tree} {to : Token} {s e : CursorState} {old new : List Pair} {Q : List Pair} {nodes : Parts} {r : Rank} {high : ℕ} → TailRead h u n to s e old new Q nodes r →
    height n ≤ high → suc (parts_height nodes) ≤ high
tail_low {n = n} {nodes = nodes} t l =
    let tall : height n ≡ suc (parts_height t.ps) = ap height t.tree in
    let parts : parts_height nodes ≡ parts_height t.ps = ap parts_height t.same in
    omega (arith, tall, parts, l)

-- the callee and the arguments are of the language
pub callee_own : {text m_text : SourceText} {o : ℕ} {h : Rank} {u : Token} {n : Tree} {to : Token} {Q : List Pair} (v : CalleeGiven text o h u n to Q) → m_text ≡ text → OfLanguage text n → OfLanguage m_text v.callee
callee_own {text} {o = o} {h} {u} {n} {to} {Q} v same own = subst (λ x. OfLanguage x v.callee) (sym same) (of v.tail)
  where
    of : TailGiven text o h u n v.callee v.mid to v.A Q → OfLanguage text v.callee
    of (with_arguments tree tk left runs pairs) = first_of_language (parts_of_language (subst (OfLanguage text) tree own))
    of (without tree tk missed place pairs) = first_of_language (parts_of_language (subst (OfLanguage text) tree own))

pub with_own : {text m_text : SourceText} {o : ℕ} {h : Rank} {u : Token} {n callee : Tree} {mid to : Token} {A Q : List Pair} (v : WithGiven text o h u n callee mid to A Q) → m_text ≡ text → OfLanguage text n → AllOfLanguage m_text v.ps
with_own {text} v same own = subst (λ x. AllOfLanguage x v.ps) (sym same) (others_of_language (parts_of_language (subst (OfLanguage text) v.tree own)))

-- where no `.` stands behind `import` in the language of 2022, a call is given
pub import_called : {text : SourceText} {o : ℕ} {h : Rank} {u : Token} {n : Tree} {to : Token} {Q : List Pair} {a : Reading} → ImportBegun text o h u n to Q a → (is_of_2022 text.language ≡ true → Misses text Punctuator (codes ".") u) → ImportGiven text o h u n to Q a
import_called (a_call v) none_there = v
import_called (a_meta later reading tk m) none_there = absurd (not_missed (none_there later) m.dot)

dot_paren : codes "." ≡ codes "(" → ⊥
dot_paren e = cc

-- what `meta_property` answers behind `import`
pub meta_agrees : (s m e : CursorState) (old new : List Pair) (high : ℕ) (u : LexicalToken) (result : Result Operand Fault) {o : ℕ} {h : Rank} {n : Tree} {to : Token} {Q : List Pair} {a : Reading} → ImportBegun s.text o h s.last n to Q a → s.last ≡ u → m.text ≡ s.text → ReadsHere s.text Punctuator (codes ".") s.last m.last → new ≡ old →
    IfOk result (λ p. ReadsHere m.text IdentifierName (codes "meta") m.last e.last × (p ≡ plain_part (target_node u e.last) Member Other) × (2 ≤ high)) → IfErr result (NotTarget m (codes "meta") high) → Agrees (Room s o (height n) high) (FirstWith s e old new a h n to Q) result
meta_agrees s m e old new high u result (a_call v) same text dot none_more ok err = absurd (dot_paren (sym dot.text ∙ ap (λ (t : Token). t.text) (marks_same s.text dot v.left).0 ∙ v.left.text))
meta_agrees s m e old new high u result {o} {h} {n} {to} {Q} {a} (a_meta later reading tk v) same text dot none_more ok err = go result ok err
  where
    at : m.last ≡ v.mid
    at = (marks_same s.text dot v.dot).1

    there : ReadsHere m.text IdentifierName (codes "meta") m.last to
    there = subst (λ c. ReadsHere c IdentifierName (codes "meta") m.last to) (sym text) (subst (λ c. ReadsHere s.text IdentifierName (codes "meta") c to) (sym at) v.name)

    go : (r : Result Operand Fault) → IfOk r (λ p. ReadsHere m.text IdentifierName (codes "meta") m.last e.last × (p ≡ plain_part (target_node u e.last) Member Other) × (2 ≤ high)) → IfErr r (NotTarget m (codes "meta") high) → Agrees (Room s o (height n) high) (FirstWith s e old new a h n to Q) r
    go (Ok p) ok err =
        let end : e.last ≡ to = (words_same m.text ok.0 there).1 in
        let tree : target_node u e.last ≡ n = (λ i. target_node (sym same i) (end i)) ∙ sym v.tree in
        (subst (λ c. IsFirst a h c n) (sym ok.1) (made_first reading tree (λ k. absurd (false≢true (sym (ap (λ c. is_simple (kind_of c)) v.tree) ∙ k))) tk), subst (λ c. EndsWith s e old new to c) (sym v.pairs) (ends_none end none_more))
    go (Err (Syntax at)) ok err = absurd (not_missed err there)
    go (Err TooDeep) ok err = λ room. (let l = room.1 in let high_is : height n ≡ 2 = ap height v.tree in absurd (omega arith))
    go (Err OutOfMemory) ok err = tt
    go (Err _) ok err = absurd err
