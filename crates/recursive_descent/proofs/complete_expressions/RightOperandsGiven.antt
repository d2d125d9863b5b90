-- How the right sides of an operator, as they are read, agree with those that are given (ECMA-262 12.6 to 12.15).
use Rattle.std.proofs.Common.{◌≡◌, ℕ, suc, ◌≤◌, ◌<◌, ◌-◌, Bool, true, false, List, [], ◌++◌, Result, Ok, Err, refl, sym, ap, ◌∙◌, subst, arith}
use Rattle.std.specs.Prelude.{codes, Option, Some}
use Rattle.std.specs.Result.{IsErrAnd}
use Rattle.std.proofs.lemmas.Bool.{false≢true}
use Rattle.source_text.specs.declared.fault.Fault.{Fault}
use Rattle.source_text.specs.declared.fault.Fault.TheVariants.{TooDeep}
use Rattle.tokens.specs.Scanned.{token_of}
use Rattle.tokens.specs.Tokens.{LexicalToken}
use Rattle.tokens.specs.declared.token.TokenClass.TheVariants.{Punctuator}
use Rattle.tokens.specs.declared.token.Token.{Token as Scanned}
use Rattle.token_cursor.specs.CursorState.{CursorState, IsAhead}
use Rattle.tree.specs.declared.kind.Pair.{Pair}
use Rattle.tree.specs.Tree.{Tree, node, plain, Parts, none, part, gap, push, height, parts_height}
use Rattle.language.specs.declared.Rank.{Rank}
use Rattle.language.specs.declared.Rank.TheVariants.{Assignment, Conditional, Exponentiation, New}
use Rattle.language.specs.declared.Start.TheVariants.{Any}
use Rattle.language.specs.Covers.{as_expression}
use Rattle.language.specs.Continuations.{operation}
use Rattle.language.specs.Pieces.{expr}
use Rattle.language.specs.Token.{Token, as_read}
use Rattle.language.specs.Vocabulary.{Operator, precedence, op_binary, op_power}
use Rattle.language.proofs.climbing.Conditionals.{stops_before}
use Rattle.language.proofs.table.OperatorTokens.{op_reads}
use Rattle.token_cursor.proofs.SeenTokens.{seen_determined}
use Rattle.language.proofs.climbing.Turns.{right_position}
use Rattle.language.proofs.climbing.BinaryTurns.{two_binds}
use Rattle.recursive_descent.specs.declared.expressions.LeftOperand.{LeftOperand}
use Rattle.grammar.specs.declared.infix.BinaryOperator.{BinaryOperator}
use Rattle.grammar.specs.declared.infix.InfixOperator.{InfixOperator as Coded}
use Rattle.grammar.specs.declared.infix.InfixOperator.TheVariants as code
use Rattle.parser_tables.specs.declared.operand.Operand.{Operand}
use Rattle.parser_tables.specs.declared.expression_context.ExpressionContext.{ExpressionContext}
use Rattle.recursive_descent.specs.Complete.{ExpressionComplete, BinaryRestComplete}
use Rattle.recursive_descent.specs.Completeness.{Room, EndsWith, StopsIn, GivenAs, an_expression, SidesGiven, one_side, two_sides}
use Rattle.grammar.specs.Infix.{coded_operator}
use Rattle.token_cursor.specs.Seen.{ReadsHere, Misses}
use Rattle.recursive_descent.specs.LeftOperands.{left_of, operator_text_of}
use Rattle.recursive_descent.proofs.reading.FreeRanks.{no_conditional, no_new}
use Rattle.recursive_descent.proofs.complete_expressions.Agreement.{Refuses, refuses_on, agrees_err, refuses_high, room_part, marks_same, not_missed, ends_same, ends_none, ends_both, ends_behind, ends_before}
use Rattle.recursive_descent.proofs.sound_expressions.BinaryNodes.{right_at}
use Rattle.token_cursor.specs.SourceText.{SourceText, SeenNext, behind_in}
use Rattle.recursive_descent.specs.Spelled.{SpellsIn, OfLanguage, AllOfLanguage}
use Rattle.recursive_descent.proofs.reading.LanguageTrees.{first_of_language, others_of_language}
use Rattle.token_cursor.proofs.TokensAhead.{ahead_read}
use Rattle.tokens.specs.declared.token.Goal.TheVariants.{Div}
use Rattle.language.specs.Promises.{ReadBy}

-- what is given, by the operator
record TwoGiven (text : SourceText) (i : Bool) (o : ℕ) (s e : Token) (ps : Parts) (P : List Pair) : Type 0 where
  first : Tree
  second : Tree
  mid : Token
  next : Token
  one : List Pair
  more : List Pair
  parts : ps ≡ part first (part second none)
  pairs : P ≡ one ++ more
  spelled : SpellsIn text o (expr Assignment true Any) first s mid one
  colon : ReadsHere text Punctuator (codes ":") mid next
  further : SpellsIn text o (expr Assignment i Any) second next e more
  stopped : StopsIn text Assignment i second e

two_given : {text : SourceText} {i : Bool} {o : ℕ} {s e : Token} {x : Coded} {q : Rank} {ps : Parts} {P : List Pair} → x ≡ code.Question → SidesGiven text i o s e x q ps P → TwoGiven text i o s e ps P
two_given is (one_side other d st) = absurd (other is)
two_given is (two_sides {t = t} {u = u} {k = k} {x = x} {P = P} {Q = Q} d c d' st) = record { first = t; second = u; mid = k; next = x; one = P; more = Q; parts = refl; pairs = refl; spelled = d; colon = c; further = d'; stopped = st }

record OneGiven (text : SourceText) (i : Bool) (o : ℕ) (s e : Token) (q : Rank) (ps : Parts) (P : List Pair) : Type 0 where
  side : Tree
  parts : ps ≡ part side none
  spelled : SpellsIn text o (expr q i Any) side s e P
  stopped : StopsIn text q i side e

one_given : {text : SourceText} {i : Bool} {o : ℕ} {s e : Token} {x : Coded} {q : Rank} {ps : Parts} {P : List Pair} → (x ≡ code.Question → ⊥) → SidesGiven text i o s e x q ps P → OneGiven text i o s e q ps P
one_given other (one_side {u = u} h d st) = record { side = u; parts = refl; spelled = d; stopped = st }
one_given other (two_sides d c d' st) = absurd (other refl)

-- What is left of them where the last right side begins: it stands there, as a further part.
pub record RightGiven (s b : CursorState) (old mid : List Pair) (nodes : Parts) (q : Rank) (i : Bool) (o : ℕ) (to : Token) (first : Tree) (sides : Parts) (P : List Pair) : Type 0 where
  pub side : Tree
  pub before : List Pair
  pub behind : List Pair
  pub ends : EndsWith s b old mid b.last before
  pub pairs : P ≡ before ++ behind
  pub spelled : SpellsIn s.text o (expr q i Any) side b.last to behind
  pub stopped : StopsIn s.text q i side to
  pub tree : push nodes side ≡ part first sides
  pub own : OfLanguage s.text side

pub record Ready (s b : CursorState) (old mid : List Pair) (t : Scanned) (x : Coded) (i : Bool) (q : Rank) (first : Tree) (nodes : Parts) : Type 0 where
  pub same_text : b.text ≡ s.text
  pub same_open : b.opened ≡ s.opened
  pub gives : (sides : Parts) (o : ℕ) (from to : Token) (P : List Pair) → SeenNext s.text s.last (as_read (token_of t)) from → SidesGiven s.text i o from to x q sides P → AllOfLanguage s.text sides → RightGiven s b old mid nodes q i o to first sides P

-- the operator, which was passed
abbrev pub Passed : CursorState → CursorState → Scanned → Type 0
Passed s m t = ReadBy Token (SeenNext s.text) (behind_in s.text) Div s.last (as_read (token_of t)) m.last

pub passed : (s m : CursorState) (t : Scanned) → IsAhead Div s.text s.last.stop (token_of t) → SeenNext s.text s.last (as_read (token_of t)) m.last → Passed s m t
passed s m t ahead next = record { next = next; allowed = (ahead_read s.text Div s.last (token_of t) ahead).allowed }

-- behind it is one place
passed_to : (s m : CursorState) (t : Scanned) {from : Token} → Passed s m t → SeenNext s.text s.last (as_read (token_of t)) from → from ≡ m.last
passed_to s m t {from} r next = ((seen_determined s.text).same Div s.last (as_read (token_of t)) (as_read (token_of t)) from m.last next r.next r.allowed r.allowed).1

pub ready_one : {s m : CursorState} {old mid : List Pair} {t : Scanned} {x : Coded} {i : Bool} {q : Rank} {first : Tree} {nodes : Parts} → m.text ≡ s.text → m.opened ≡ s.opened → mid ≡ old → Passed s m t → (x ≡ code.Question → ⊥) → nodes ≡ part first none → Ready s m old mid t x i q first nodes
ready_one {s} {m} {t = t} {i = i} {q = q} {first = first} text open_same same last other nodes_are = record {
  same_text = text;
  same_open = open_same;
  gives = λ sides o from to P is d own.
      let v = one_given other d in
      record {
        side = v.side;
        before = [];
        behind = P;
        ends = ends_none refl same;
        pairs = refl;
        spelled = subst (λ z. SpellsIn s.text o (expr q i Any) v.side z to P) (passed_to s m t last is) v.spelled;
        stopped = v.stopped;
        tree = ap (λ ps. push ps v.side) nodes_are ∙ ap (λ ps. part first ps) (sym v.parts);
        own = first_of_language (subst (AllOfLanguage s.text) v.parts own);
      };
}

-- nothing goes on before a `:`
before_colon : (text : SourceText) (n : Tree) {s e : Token} → ReadsHere text Punctuator (codes ":") s e → StopsIn text Assignment true n s
before_colon text n r = stops_before Token (SeenNext text) (behind_in text) (seen_determined text) Assignment true n r refl refl (λ k u. refl)

-- the first of two
module _ (s m b : CursorState) (old mid new : List Pair) (t : Scanned) (x : Coded) (i : Bool) (inner : ℕ) (asks : x ≡ code.Question) (text : m.text ≡ s.text) (open_same : m.opened ≡ s.opened) (same : mid ≡ old) (last : Passed s m t) where
  abbrev FirstComplete : Result Operand Fault → Type 0
  FirstComplete result = ExpressionComplete m b mid new inner (right_at Assignment true) result

  first_given : {q : Rank} {sides : Parts} {o : ℕ} {from to : Token} {P : List Pair} → SeenNext s.text s.last (as_read (token_of t)) from → SidesGiven s.text i o from to x q sides P → (v : TwoGiven s.text i o from to sides P) × GivenAs m.text (right_at Assignment true) o v.first m.last v.mid v.one as_expression
  first_given {o = o} is d =
      let v = two_given asks d in
      let stops : StopsIn m.text Assignment true v.first v.mid = subst (λ z. StopsIn z Assignment true v.first v.mid) (sym text) (before_colon s.text v.first v.colon) in
      let spelled : SpellsIn m.text o (expr Assignment true Any) v.first m.last v.mid v.one = subst (λ z. SpellsIn z o (expr Assignment true Any) v.first m.last v.mid v.one) (sym text) (subst (λ z. SpellsIn s.text o (expr Assignment true Any) v.first z v.mid v.one) (passed_to s m t last is) v.spelled) in
      (v, an_expression (no_conditional refl) (no_new refl) spelled stops)

  -- it is of the language, and so is the second
  first_own : {q : Rank} {sides : Parts} {o : ℕ} {from to : Token} {P : List Pair} (is : SeenNext s.text s.last (as_read (token_of t)) from) (d : SidesGiven s.text i o from to x q sides P) → AllOfLanguage s.text sides → OfLanguage m.text (first_given is d).0.first × OfLanguage s.text (first_given is d).0.second
  first_own is d own =
      let v = (first_given is d).0 in
      let parts = subst (AllOfLanguage s.text) v.parts own in
      (subst (λ z. OfLanguage z v.first) (sym text) (first_of_language parts), first_of_language (others_of_language parts))

  pub ready_two : {e : CursorState} {newer : List Pair} {q : Rank} {first n : Tree} {nodes : Parts} (p : Operand) → FirstComplete (Ok p) → n ≡ p.cover.node → q ≡ Assignment → b.text ≡ m.text → b.opened ≡ m.opened → e.text ≡ b.text → e.opened ≡ b.opened → newer ≡ new → ReadsHere b.text Punctuator (codes ":") b.last e.last →
      nodes ≡ push (part first none) n → Ready s e old newer t x i q first nodes
  ready_two {e} {newer} {q} {first} {n} {nodes} p complete settled rank_is text1 open1 text2 open2 same2 colon nodes_are = record {
    same_text = text2 ∙ text1 ∙ text;
    same_open = open2 ∙ open1 ∙ open_same;
    gives = λ sides o from to P is d own.
        let v = (first_given is d).0 in
        let u = complete as_expression o v.first v.mid v.one (first_given is d).1 (first_own is d own).0 in
        let place : b.last ≡ v.mid = u.1.place in
        let here : ReadsHere s.text Punctuator (codes ":") v.mid e.last = subst (λ z. ReadsHere z Punctuator (codes ":") v.mid e.last) (text1 ∙ text) (subst (λ z. ReadsHere b.text Punctuator (codes ":") z e.last) place colon) in
        let at : v.next ≡ e.last = (marks_same s.text v.colon here).1 in
        let role : expr Assignment i Any ≡ expr q i Any = ap (λ (c : Rank). expr c i Any) (sym rank_is) in
        record {
          side = v.second;
          before = v.one;
          behind = v.more;
          ends = ends_before (ends_behind same u.1) refl same2;
          pairs = v.pairs;
          spelled = subst (λ a. SpellsIn s.text o a v.second e.last to v.more) role (subst (λ z. SpellsIn s.text o (expr Assignment i Any) v.second z to v.more) at v.further);
          stopped = subst (λ (c : Rank). StopsIn s.text c i v.second to) (sym rank_is) v.stopped;
          tree = ap (λ ps. push ps v.second) nodes_are ∙ ap (λ c. part first (part c (part v.second none))) (settled ∙ u.0.tree) ∙ ap (λ ps. part first ps) (sym v.parts);
          own = (first_own is d own).1;
        };
  }

-- the height of what is made
abbrev pub sided_height : Operand → Coded → Parts → ℕ
sided_height left x sides = suc (parts_height (part (left_of x left).node sides))

-- a refusal
module _ (s e : CursorState) (old new : List Pair) (high : ℕ) (left : Operand) (t : Scanned) (x : Coded) (i : Bool) (answer : Result Operand Fault) (fault : Fault) (is : IsErrAnd answer (λ c. c ≡ fault)) where
  abbrev Complete : Type 0
  Complete = BinaryRestComplete s e old new high left t x i answer

  sided_refused : ((sides : Parts) (o : ℕ) (from to : Token) (P : List Pair) → SeenNext s.text s.last (as_read (token_of t)) from → SidesGiven s.text i o from to x (left_of x left).right sides P → AllOfLanguage s.text sides → Refuses (Room s o (sided_height left x sides) high) fault) → Complete
  sided_refused f = λ sides o from to P next d fits own.
      agrees_err (Room s o (sided_height left x sides) high) (λ (r : Operand). (r.cover.node ≡ node (left_of x left).kind (operator_text_of (left_of x left).kind t.text.now) plain left.start to.stop (part (left_of x left).node sides)) × (r.cover.shape ≡ (left_of x left).shape) × EndsWith s e old new to P) answer fault is (f sides o from to P next d own)

  -- of the first of two
  module _ (m b : CursorState) (mid more : List Pair) (inner : ℕ) (asks : x ≡ code.Question) (text : m.text ≡ s.text) (open_same : m.opened ≡ s.opened) (same : mid ≡ old) (last : Passed s m t) (inner_is : inner ≡ high - 1) where
    pub first_refused : ExpressionComplete m b mid more inner (right_at Assignment true) (Err fault) → Complete
    first_refused complete = sided_refused (λ sides o from to P next d own.
        let g = first_given s m b old mid more t x i inner asks text open_same same last next d in
        let own_first = (first_own s m b old mid more t x i inner asks text open_same same last next d own).0 in
        refuses_on (Room m o (height g.0.first) inner) (Room s o (sided_height left x sides) high) fault (complete as_expression o g.0.first g.0.mid g.0.one g.1 own_first) (λ room.
        room_part s m open_same (λ low. (let lower : sided_height left x sides ≡ sided_height left x (part g.0.first (part g.0.second none)) = ap (sided_height left x) g.0.parts in omega arith)) room))

    pub first_unsettled : (r : Operand) → ExpressionComplete m b mid more inner (right_at Assignment true) (Ok r) → r.cover.shape.is_expression ≡ false → Complete
    first_unsettled r complete unfit = sided_refused (λ sides o from to P next d own.
        let g = first_given s m b old mid more t x i inner asks text open_same same last next d in
        let own_first = (first_own s m b old mid more t x i inner asks text open_same same last next d own).0 in
        let u = complete as_expression o g.0.first g.0.mid g.0.one g.1 own_first in
        absurd (false≢true (sym unfit ∙ u.0.fits)))

    pub colon_refused : (r : Operand) → ExpressionComplete m b mid more inner (right_at Assignment true) (Ok r) → b.text ≡ m.text → Misses b.text Punctuator (codes ":") b.last → Complete
    colon_refused r complete text1 unseen = sided_refused (λ sides o from to P next d own.
        let g = first_given s m b old mid more t x i inner asks text open_same same last next d in
        let own_first = (first_own s m b old mid more t x i inner asks text open_same same last next d own).0 in
        let u = complete as_expression o g.0.first g.0.mid g.0.one g.1 own_first in
        absurd (not_missed unseen (subst (λ z. ReadsHere z Punctuator (codes ":") b.last g.0.next) (sym (text1 ∙ text)) (subst (λ z. ReadsHere s.text Punctuator (codes ":") z g.0.next) (sym u.1.place) g.0.colon))))

-- the symbol of a right side
joined : {a b : BinaryOperator} → Some (code.Binary a) ≡ Some (code.Binary b) → b ≡ a
joined h = cc

abbrev is_joining : Option Coded → Bool
is_joining (Some (code.Binary sign)) = true
is_joining _ = false

joined_rank : (z : Operator) (v : LexicalToken) (sign : BinaryOperator) → operation (as_read v) ≡ z → coded_operator z v.text ≡ Some (code.Binary sign) → (sign.right ≡ Conditional → ⊥) × (sign.right ≡ New → ⊥)
joined_rank (op_binary b y q) v sign is op =
    let r = op_reads (as_read v) is (λ e. cc) (λ e. cc) in
    let same : sign.right ≡ q = ap (λ (g : BinaryOperator). g.right) (joined op) in
    let free = right_position (as_read v).text r.1 (two_binds {l = b} {z = y} {q = q}) in
    ((λ h. free.0 (ap precedence (sym same ∙ h))), (λ h. free.1 (sym same ∙ h)))
joined_rank op_power v sign is op = let same : sign.right ≡ Exponentiation = ap (λ (g : BinaryOperator). g.right) (joined op) in ((λ h. no_conditional refl (sym same ∙ h)), (λ h. no_new refl (sym same ∙ h)))
joined_rank _ v sign is op = absurd (false≢true (ap is_joining op))

pub right_rank : (v : LexicalToken) (x : Coded) (l : Operand) → coded_operator (operation (as_read v)) v.text ≡ Some x → ((left_of x l).right ≡ Conditional → ⊥) × ((left_of x l).right ≡ New → ⊥)
right_rank v (code.Binary sign) l op = joined_rank (operation (as_read v)) v sign refl op
right_rank v (code.Assign true) l op = (no_conditional refl, no_new refl)
right_rank v (code.Assign false) l op = (no_conditional refl, no_new refl)
right_rank v _ l op = (no_conditional refl, no_new refl)

push_height : (ps : Parts) (n : Tree) → height n ≤ parts_height (push ps n)
push_height none n = omega arith
push_height (part m ps) n = let low = push_height ps n in omega arith
push_height (gap ps) n = push_height ps n

-- the last right side
module _ (s b z : CursorState) (old mid new : List Pair) (high : ℕ) (left : Operand) (t : Scanned) (x : Coded) (i : Bool) {nodes : Parts} (ready : Ready s b old mid t x i (left_of x left).right (left_of x left).node nodes) (place : ExpressionContext) (inner : ℕ)
    (coded : coded_operator (operation (as_read (token_of t))) (token_of t).text ≡ Some x) (there : place ≡ right_at (left_of x left).right i) (inner_is : inner ≡ high - 1) where
  right_given : {o : ℕ} {to : Token} {sides : Parts} {P : List Pair} → (v : RightGiven s b old mid nodes (left_of x left).right i o to (left_of x left).node sides P) → GivenAs b.text place o v.side b.last to v.behind as_expression
  right_given {o} {to} v =
      let free = right_rank (token_of t) x left coded in
      let same = ready.same_text in
      subst (λ (c : ExpressionContext). GivenAs b.text c o v.side b.last to v.behind as_expression) (sym there)
      (an_expression free.0 free.1 (subst (λ c. SpellsIn c o (expr (left_of x left).right i Any) v.side b.last to v.behind) (sym same) v.spelled) (subst (λ c. StopsIn c (left_of x left).right i v.side to) (sym same) v.stopped))

  right_own : {o : ℕ} {to : Token} {sides : Parts} {P : List Pair} → (v : RightGiven s b old mid nodes (left_of x left).right i o to (left_of x left).node sides P) → OfLanguage b.text v.side
  right_own v = subst (λ c. OfLanguage c v.side) (sym ready.same_text) v.own

  side_low : {o : ℕ} {to : Token} {sides : Parts} {P : List Pair} → (v : RightGiven s b old mid nodes (left_of x left).right i o to (left_of x left).node sides P) → suc (height v.side) ≤ sided_height left x sides
  side_low v =
      let low = push_height nodes v.side in
      let same = ap parts_height v.tree in
      omega arith

  module _ (e : CursorState) (newer : List Pair) (answer : Result Operand Fault) (fault : Fault) (is : IsErrAnd answer (λ c. c ≡ fault)) where
    -- its refusal
    pub right_refused : ExpressionComplete b z mid new inner place (Err fault) → BinaryRestComplete s e old newer high left t x i answer
    right_refused complete = sided_refused s e old newer high left t x i answer fault is (λ sides o from to P next d own.
        let v = ready.gives sides o from to P next d own in
        let lower = side_low v in
        refuses_on (Room b o (height v.side) inner) (Room s o (sided_height left x sides) high) fault (complete as_expression o v.side to v.behind (right_given v) (right_own v)) (λ room. room_part s b ready.same_open (λ low. omega arith) room))

    -- it isn't an expression
    pub right_unsettled : (r : Operand) → ExpressionComplete b z mid new inner place (Ok r) → r.cover.shape.is_expression ≡ false → BinaryRestComplete s e old newer high left t x i answer
    right_unsettled r complete unfit = sided_refused s e old newer high left t x i answer fault is (λ sides o from to P next d own.
        let v = ready.gives sides o from to P next d own in
        let u = complete as_expression o v.side to v.behind (right_given v) (right_own v) in
        absurd (false≢true (sym unfit ∙ u.0.fits)))

    -- the node is too high
    pub sided_high : {n : Tree} {all : Parts} (r : Operand) (levels : ℕ) → ExpressionComplete b z mid new inner place (Ok r) → n ≡ r.cover.node → all ≡ push nodes n → fault ≡ TooDeep → high < levels → levels ≡ suc (parts_height all) → BinaryRestComplete s e old newer high left t x i answer
    sided_high {n} {all} r levels complete settled all_are deep above levels_are = sided_refused s e old newer high left t x i answer fault is (λ sides o from to P next d own.
        let v = ready.gives sides o from to P next d own in
        let u = complete as_expression o v.side to v.behind (right_given v) (right_own v) in
        let tree : all ≡ part (left_of x left).node sides = all_are ∙ ap (push nodes) (settled ∙ u.0.tree) ∙ v.tree in
        let same : suc (parts_height all) ≡ sided_height left x sides = ap (λ ps. suc (parts_height ps)) tree in
        refuses_high (Room s o (sided_height left x sides) high) levels high fault deep above (λ (room : Room s o (sided_height left x sides) high). let low = room.1 in omega arith))

  -- the answer
  pub sided_answered : {n made : Tree} {all : Parts} {own : LeftOperand} (p r : Operand) → ExpressionComplete b z mid new inner place (Ok p) → n ≡ p.cover.node → all ≡ push nodes n → own ≡ left_of x left → made ≡ node own.kind (operator_text_of own.kind t.text.now) plain left.start z.last.stop all → r.cover.node ≡ made → r.cover.shape ≡ own.shape →
      BinaryRestComplete s z old new high left t x i (Ok r)
  sided_answered {own = own} p r complete settled all_are own_is made_is tree_is shape_is = λ sides o from to P next d fits own.
      let v = ready.gives sides o from to P next d own in
      let u = complete as_expression o v.side to v.behind (right_given v) (right_own v) in
      let tree = all_are ∙ ap (push nodes) (settled ∙ u.0.tree) ∙ v.tree in
      (tree_is ∙ made_is ∙ (λ k. node (own_is k).kind (operator_text_of (own_is k).kind t.text.now) plain left.start (u.1.place k).stop (tree k)), shape_is ∙ ap (λ (c : LeftOperand). c.shape) own_is, ends_same (sym v.pairs) (ends_both v.ends u.1))
