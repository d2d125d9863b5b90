-- How an optional chain, link by link, agrees with the one that is given (ECMA-262 12.3.9).
use Rattle.std.proofs.Common.{◌≡◌, ℕ, suc, ◌≤◌, ◌<◌, ◌-◌, Bool, true, false, List, [], ◌++◌, Result, Ok, Err, refl, sym, ap, ◌∙◌, subst, arith, append_assoc}
use Rattle.std.specs.Prelude.{IsTrue, max, if◌then◌else◌}
use Rattle.std.specs.Result.{IsErrAnd}
use Rattle.std.proofs.lemmas.Bool.{false≢true}
use Rattle.std.proofs.lemmas.List.{append-nil}
use Rattle.source_text.specs.declared.fault.Fault.{Fault}
use Rattle.source_text.specs.declared.fault.Fault.TheVariants.{TooDeep}
use Rattle.tokens.specs.declared.token.TokenClass.TheVariants.{Punctuator, Template}
use Rattle.tokens.specs.declared.token.Goal.TheVariants.{Div}
use Rattle.token_cursor.specs.CursorState.{CursorState}
use Rattle.tree.specs.declared.kind.Kind.TheVariants.{ChainExpression}
use Rattle.tree.specs.declared.kind.Flags.{Flags}
use Rattle.tree.specs.declared.kind.Pair.{Pair}
use Rattle.tree.specs.Tree.{Tree, node, plain, Parts, none, part, height, parts_height}
use Rattle.language.specs.declared.Rank.{Rank}
use Rattle.language.specs.declared.Rank.TheVariants.{Call, LeftHandSide}
use Rattle.language.specs.declared.Edge.TheVariants.{Other}
use Rattle.language.specs.Promises.{ReadBy}
use Rattle.language.specs.Token.{Token, same_class}
use Rattle.language.specs.Vocabulary.{takes}
use Rattle.language.specs.Continuations.{of_class}
use Rattle.token_cursor.proofs.SeenTokens.{seen_determined}
use Rattle.covers.specs.Shapes.{shape_of, value, target}
use Rattle.recursive_descent.specs.declared.subscripts.Subscript.{Subscript}
use Rattle.recursive_descent.specs.declared.subscripts.Subscript.TheVariants as link
use Rattle.parser_tables.specs.declared.operand.Operand.{Operand}
use Rattle.recursive_descent.specs.Complete.{SubscriptComplete, ChainComplete}
use Rattle.recursive_descent.specs.Soundness.{RunsIn, anywhere}
use Rattle.recursive_descent.specs.Completeness.{Room, EndsWith, subscript_after, ChainGiven, LinksGiven, no_link, one_link}
use Rattle.recursive_descent.specs.Subscripts.{link_kind, link_flags, link_rank, is_calling}
use Rattle.parser_tables.specs.Operands.{plain_part}
use Rattle.token_cursor.specs.Seen.{ReadsHere, SeesBy, MissesBy}
use Rattle.grammar.specs.Infix.{links}
use Rattle.parser_tables.specs.Tests.{is_link, is_template}
use Rattle.recursive_descent.proofs.reading.LanguageTrees.{first_of_language, others_of_language, parts_of_language}
use Rattle.recursive_descent.proofs.complete_expressions.Agreement.{agrees_err, agrees_on, refuses_high, room_part, ends_same, ends_both, ends_before}
use Rattle.recursive_descent.proofs.complete_subscripts.ArgumentsGiven.{arguments_given}
use Rattle.recursive_descent.proofs.complete_subscripts.SubscriptsGiven.{Further, name_there, index_there, arguments_there, template_there, Front, by_dot, by_mark, by_none, link_given}
use Rattle.token_cursor.proofs.TokensAhead.{mark_by}
use Rattle.token_cursor.specs.SourceText.{SourceText, SeenNext, behind_in}
use Rattle.recursive_descent.specs.Spelled.{OfLanguage, AllOfLanguage}

-- the symbol of a link can be called
link_called : (l : Subscript) (r : Rank) → IsTrue (takes Call (link_rank l (is_calling r)))
link_called l r = of l (is_calling r)
  where
    of : (l : Subscript) (b : Bool) → IsTrue (takes Call (link_rank l b))
    of link.Arguments b = refl
    of link.Name true = refl
    of link.Name false = refl
    of link.Index true = refl
    of link.Index false = refl
    of link.Quasi true = refl
    of link.Quasi false = refl

-- what a link makes is a value
link_value : (l : Subscript) (g : Flags) (st en : ℕ) (ps : Parts) → (shape_of (node (link_kind l) [] g st en ps)).is_expression ≡ true
link_value l g st en ps = of l g.optional refl
  where
    of : (l : Subscript) (b : Bool) → g.optional ≡ b → (shape_of (node (link_kind l) [] g st en ps)).is_expression ≡ true
    of link.Arguments b is = refl
    of link.Quasi b is = refl
    of link.Name true is = ap (λ (x : Bool). (if x then value else target).is_expression) is
    of link.Name false is = ap (λ (x : Bool). (if x then value else target).is_expression) is
    of link.Index true is = ap (λ (x : Bool). (if x then value else target).is_expression) is
    of link.Index false is = ap (λ (x : Bool). (if x then value else target).is_expression) is

-- the sign with which a link begins, which is no template's
record LinkSign (text : SourceText) (s : Token) : Type 0 where
  mid : Token
  reads : ReadBy Token (SeenNext text) (behind_in text) Div s (behind_in text mid) mid
  links_on : is_link (behind_in text mid) ≡ true
  sign : (behind_in text mid).class ≡ Punctuator

module _ (text : SourceText) where
  sign_link : {w : List ℕ} {s t : Token} → ReadsHere text Punctuator w s t → links (of_class Punctuator w) ≡ true → LinkSign text s
  sign_link {t = t} r h = record { mid = t; reads = mark_by text r; links_on = (λ i. links (of_class (r.class i) (r.text i))) ∙ h; sign = r.class }

  bare_sign : {o : ℕ} {s e : Token} {l : Subscript} {ps : Parts} {P : List Pair} → (l ≡ link.Name → ⊥) → (l ≡ link.Quasi → ⊥) → Further text o s e l ps P → LinkSign text s
  bare_sign a b (name_there h parts d) = absurd (a h)
  bare_sign a b (index_there h parts r d c) = sign_link r refl
  bare_sign a b (arguments_there h d) = sign_link (arguments_given d).opens refl
  bare_sign a b (template_there h parts d) = absurd (b h)

  front_sign : {o : ℕ} {s x e : Token} {l : Subscript} {b : Bool} {ps : Parts} {P : List Pair} → (l ≡ link.Quasi → ⊥) → Front text s x l b → Further text o x e l ps P → LinkSign text s
  front_sign other (by_dot h k r) d = sign_link r refl
  front_sign other (by_mark h k r) d = sign_link r refl
  front_sign {o} {e = e} {l = l} {ps = ps} {P = P} other (by_none h k at) d = bare_sign k other (subst (λ v. Further text o v e l ps P) at d)

  link_sign : {o : ℕ} {s e : Token} {ps : Parts} {P : List Pair} (l : Subscript) (b : Bool) → (l ≡ link.Quasi → ⊥) → RunsIn text o (anywhere (subscript_after l b ps)) ps s e P → LinkSign text s
  link_sign l b other d = let g = link_given text l b d in front_sign other g.front g.further

  -- a part of a chain is no higher than the whole
  links_height : {o start : ℕ} {n : Tree} {e : Token} {m : Tree} {s : Token} {P : List Pair} → LinksGiven text o start n e m s P → height m ≤ height n
  links_height (no_link h) = omega arith
  links_height (one_link l b other d rest) = let low = links_height rest in omega arith

  -- and of the language where the whole is
  links_own : {o start : ℕ} {n : Tree} {e : Token} {m : Tree} {s : Token} {P : List Pair} → LinksGiven text o start n e m s P → OfLanguage text n → OfLanguage text m
  links_own (no_link h) own = own
  links_own (one_link l b other d rest) own = first_of_language (parts_of_language (links_own rest own))

  -- where no link follows, the chain ends
  pub record ChainEnds (n m : Tree) (e s : Token) (P : List Pair) : Type 0 where
    pub tree : n ≡ m
    pub place : e ≡ s
    pub pairs : P ≡ []

  pub chain_ends : {o start : ℕ} {n m : Tree} {e s : Token} {P : List Pair} → MissesBy text Div is_link s → LinksGiven text o start n e m s P → ChainEnds n m e s P
  chain_ends unseen (no_link h) = record { tree = refl; place = refl; pairs = refl }
  chain_ends unseen (one_link l b other d rest) = let k = link_sign l b other d in absurd (false≢true (sym (unseen (behind_in text k.mid) k.mid k.reads) ∙ k.links_on))

  -- where one does, another part is given
  pub record OneLink (o start : ℕ) (n : Tree) (e : Token) (m : Tree) (s : Token) (P : List Pair) : Type 0 where
    pub kind : Subscript
    pub optional : Bool
    pub parts : Parts
    pub mid : Token
    pub one : List Pair
    pub more : List Pair
    pub other : kind ≡ link.Quasi → ⊥
    pub runs : RunsIn text o (anywhere (subscript_after kind optional parts)) parts s mid one
    pub rest : LinksGiven text o start n e (node (link_kind kind) [] (link_flags kind optional) start mid.stop (part m parts)) mid more
    pub pairs : P ≡ one ++ more

  pub link_follows : {o start : ℕ} {n m : Tree} {e s : Token} {P : List Pair} → SeesBy text Div is_link s → LinksGiven text o start n e m s P → OneLink o start n e m s P
  link_follows seen (no_link h) = absurd (false≢true (sym (h (behind_in text seen.0) seen.0 seen.1.0) ∙ seen.1.1))
  link_follows seen (one_link {ps = ps} {k = k} {P = P} {Q = Q} l b other d rest) = record { kind = l; optional = b; parts = ps; mid = k; one = P; more = Q; other = other; runs = d; rest = rest; pairs = refl }

  -- it is no template
  template_not : {o start : ℕ} {n m : Tree} {e s : Token} {P : List Pair} → SeesBy text Div is_template s → OneLink o start n e m s P → ⊥
  template_not {s = s} seen v =
      let k = link_sign v.kind v.optional v.other v.runs in
      let same = (seen_determined text).same Div s (behind_in text seen.0) (behind_in text k.mid) seen.0 k.mid seen.1.0.next k.reads.next seen.1.0.allowed k.reads.allowed in
      false≢true (ap (same_class Template) (sym k.sign) ∙ ap (λ (x : Token). is_template x) (sym same.0) ∙ seen.1.1)

-- What is left of a given chain, where it was read up to here.
pub record ChainSoFar (s m : CursorState) (old mid : List Pair) (left p : Operand) (n : Tree) (o : ℕ) (to : Token) (P : List Pair) : Type 0 where
  pub before : List Pair
  pub behind : List Pair
  pub pairs : P ≡ before ++ behind
  pub ends : EndsWith s m old mid m.last before
  pub rest : LinksGiven s.text o left.start n to p.cover.node m.last behind

-- it can go on
abbrev pub ChainAgrees : CursorState → CursorState → List Pair → List Pair → Operand → Operand → Type 0
ChainAgrees s m old mid left p = (n : Tree) (o : ℕ) (to : Token) (P : List Pair) → ChainGiven s.text o left.start left.cover.node n s.last to P → IsTrue (takes Call left.rank) → left.cover.shape.is_expression ≡ true → OfLanguage s.text n →
    (IsTrue (takes Call p.rank)) × (p.cover.shape.is_expression ≡ true) × (p.start ≡ left.start) × ChainSoFar s m old mid left p n o to P

-- the first link
pub first_linked : (s m : CursorState) (old mid : List Pair) (high : ℕ) (left p : Operand) → SubscriptComplete s m old mid high left (Ok p) → ChainAgrees s m old mid left p
first_linked s m old mid high left p complete = λ n o to P d object value own.
    let u = complete d.first true d.parts o d.mid d.one d.runs object value (others_of_language (parts_of_language (links_own s.text d.rest own))) in
    let made = node (link_kind d.first) [] (link_flags d.first true) left.start d.mid.stop (part left.cover.node d.parts) in
    let is : p ≡ plain_part made (link_rank d.first (is_calling left.rank)) Other = u.0 in
    let place : d.mid ≡ m.last = sym u.1.place in (
      subst (λ (c : Operand). IsTrue (takes Call c.rank)) (sym is) (link_called d.first left.rank),
      ap (λ (c : Operand). c.cover.shape.is_expression) is ∙ link_value d.first (link_flags d.first true) left.start d.mid.stop (part left.cover.node d.parts),
      ap (λ (c : Operand). c.start) is,
      record {
        before = d.one;
        behind = d.more;
        pairs = d.pairs;
        ends = ends_before u.1 refl refl;
        rest = subst (λ (x : Token). LinksGiven s.text o left.start n to p.cover.node x d.more) place (subst (λ (c : Tree). LinksGiven s.text o left.start n to c d.mid d.more) (sym (ap (λ (c : Operand). c.cover.node) is)) d.rest);
      },
    )

-- a further one
module _ (s m : CursorState) (old mid : List Pair) (left p : Operand) (so_far : ChainAgrees s m old mid left p) (text : m.text ≡ s.text) (open_same : m.opened ≡ s.opened) (seen : SeesBy m.text Div is_link m.last) where
  follows : {n : Tree} {o : ℕ} {to : Token} {P : List Pair} → (c : ChainSoFar s m old mid left p n o to P) → OneLink s.text o left.start n to p.cover.node m.last c.behind
  follows c = link_follows s.text (subst (λ t. SeesBy t Div is_link m.last) text seen) c.rest

  runs_here : {n : Tree} {o : ℕ} {to : Token} {Q : List Pair} → (v : OneLink s.text o left.start n to p.cover.node m.last Q) → RunsIn m.text o (anywhere (subscript_after v.kind v.optional v.parts)) v.parts m.last v.mid v.one
  runs_here {o = o} v = subst (λ t. RunsIn t o (anywhere (subscript_after v.kind v.optional v.parts)) v.parts m.last v.mid v.one) (sym text) v.runs

  own_here : {n : Tree} {o : ℕ} {to : Token} {Q : List Pair} → (v : OneLink s.text o left.start n to p.cover.node m.last Q) → OfLanguage s.text n → AllOfLanguage m.text v.parts
  own_here v own = subst (λ t. AllOfLanguage t v.parts) (sym text) (others_of_language (parts_of_language (links_own s.text v.rest own)))

  pub next_linked : (e : CursorState) (new : List Pair) (high : ℕ) (q : Operand) → SubscriptComplete m e mid new high p (Ok q) → ChainAgrees s e old new left q
  next_linked e new high q complete = λ n o to P d object value own.
      let c = so_far n o to P d object value own in
      let v = follows c.3 in
      let u = complete v.kind v.optional v.parts o v.mid v.one (runs_here v) c.0 c.1 (own_here v own) in
      let made = node (link_kind v.kind) [] (link_flags v.kind v.optional) p.start v.mid.stop (part p.cover.node v.parts) in
      let is : q ≡ plain_part made (link_rank v.kind (is_calling p.rank)) Other = u.0 in
      let tree : q.cover.node ≡ node (link_kind v.kind) [] (link_flags v.kind v.optional) left.start v.mid.stop (part p.cover.node v.parts) = ap (λ (x : Operand). x.cover.node) is ∙ ap (λ (x : ℕ). node (link_kind v.kind) [] (link_flags v.kind v.optional) x v.mid.stop (part p.cover.node v.parts)) c.2 in
      let place : v.mid ≡ e.last = sym u.1.place in (
        subst (λ (x : Operand). IsTrue (takes Call x.rank)) (sym is) (link_called v.kind p.rank),
        ap (λ (x : Operand). x.cover.shape.is_expression) is ∙ link_value v.kind (link_flags v.kind v.optional) p.start v.mid.stop (part p.cover.node v.parts),
        ap (λ (x : Operand). x.start) is ∙ c.2,
        record {
          before = c.3.before ++ v.one;
          behind = v.more;
          pairs = c.3.pairs ∙ ap (λ x. c.3.before ++ x) v.pairs ∙ sym (append_assoc c.3.before v.one v.more);
          ends = ends_before (ends_both c.3.ends u.1) refl refl;
          rest = subst (λ (x : Token). LinksGiven s.text o left.start n to q.cover.node x v.more) place (subst (λ (x : Tree). LinksGiven s.text o left.start n to x v.mid v.more) (sym tree) v.rest);
        },
      )

  -- a refusal of it, or a template
  module _ (e : CursorState) (new : List Pair) (high inner : ℕ) (answer : Result Operand Fault) (fault : Fault) (is : IsErrAnd answer (λ x. x ≡ fault)) (inner_is : inner ≡ high - 1) where
    pub next_refused : SubscriptComplete m e mid new inner p (Err fault) → ChainComplete s e old new high left answer
    next_refused complete = λ n o to P d object value own.
        let c = so_far n o to P d object value own in
        let v = follows c.3 in
        let low = links_height s.text v.rest in
        agrees_on (Room m o (height (node (link_kind v.kind) [] (link_flags v.kind v.optional) p.start v.mid.stop (part p.cover.node v.parts))) inner) (Room s o (suc (max (height n) 0)) high)
        (λ r. (r ≡ plain_part (node ChainExpression [] plain left.start to.stop (part n none)) LeftHandSide Other) × EndsWith s e old new to P) answer fault is
        (complete v.kind v.optional v.parts o v.mid v.one (runs_here v) c.0 c.1 (own_here v own)) (λ room. room_part s m open_same (λ fits. omega arith) room)

    pub template_refused : SeesBy m.text Div is_template m.last → ChainComplete s e old new high left answer
    template_refused there = λ n o to P d object value own.
        let c = so_far n o to P d object value own in
        absurd (template_not s.text (subst (λ t. SeesBy t Div is_template m.last) text there) (follows c.3))

-- the first is refused
pub first_linked_refused : (s e : CursorState) (old new : List Pair) (high inner : ℕ) (left : Operand) (answer : Result Operand Fault) (fault : Fault) → IsErrAnd answer (λ x. x ≡ fault) → inner ≡ high - 1 → SubscriptComplete s e old new inner left (Err fault) → ChainComplete s e old new high left answer
first_linked_refused s e old new high inner left answer fault is inner_is complete = λ n o to P d object value own.
    let low = links_height s.text d.rest in
    agrees_on (Room s o (height (node (link_kind d.first) [] (link_flags d.first true) left.start d.mid.stop (part left.cover.node d.parts))) inner) (Room s o (suc (max (height n) 0)) high)
    (λ r. (r ≡ plain_part (node ChainExpression [] plain left.start to.stop (part n none)) LeftHandSide Other) × EndsWith s e old new to P) answer fault is
    (complete d.first true d.parts o d.mid d.one d.runs object value (others_of_language (parts_of_language (links_own s.text d.rest own)))) (λ room. room_part s s refl (λ fits. omega arith) room)

-- the end
module _ (s m : CursorState) (old mid : List Pair) (high : ℕ) (left p : Operand) (so_far : ChainAgrees s m old mid left p) (text : m.text ≡ s.text) (unseen : MissesBy m.text Div is_link m.last) where
  ended : {n : Tree} {o : ℕ} {to : Token} {P : List Pair} → (c : ChainSoFar s m old mid left p n o to P) → ChainEnds s.text n p.cover.node to m.last c.behind
  ended c = chain_ends s.text (subst (λ t. MissesBy t Div is_link m.last) text unseen) c.rest

  pub chain_unsettled : (answer : Result Operand Fault) → p.cover.shape.is_expression ≡ false → ChainComplete s m old mid high left answer
  chain_unsettled answer unfit = λ n o to P d object value own. let c = so_far n o to P d object value own in absurd (false≢true (sym unfit ∙ c.1))

  pub chain_high : (answer : Result Operand Fault) (fault : Fault) (levels : ℕ) {nodes : Parts} → IsErrAnd answer (λ x. x ≡ fault) → nodes ≡ part p.cover.node none → levels ≡ suc (parts_height nodes) → fault ≡ TooDeep → high < levels → ChainComplete s m old mid high left answer
  chain_high answer fault levels {nodes} is nodes_are levels_are deep above = λ n o to P d object value own.
      let c = so_far n o to P d object value own in
      let v = ended c.3 in
      let same : suc (parts_height nodes) ≡ suc (parts_height (part n none)) = ap (λ ps. suc (parts_height ps)) (nodes_are ∙ ap (λ x. part x none) (sym v.tree)) in
      agrees_err (Room s o (suc (parts_height (part n none))) high) (λ r. (r ≡ plain_part (node ChainExpression [] plain left.start to.stop (part n none)) LeftHandSide Other) × EndsWith s m old mid to P) answer fault is
      (refuses_high (Room s o (suc (parts_height (part n none))) high) levels high fault deep above (λ (room : Room s o (suc (parts_height (part n none))) high). let fits = room.1 in omega arith))

  pub chain_answered : (r : Operand) {nodes : Parts} → nodes ≡ part p.cover.node none → r ≡ plain_part (node ChainExpression [] plain left.start m.last.stop nodes) LeftHandSide Other → ChainComplete s m old mid high left (Ok r)
  chain_answered r nodes_are made = λ n o to P d object value own.
      let c = so_far n o to P d object value own in
      let v = ended c.3 in (
        made ∙ (λ i. plain_part (node ChainExpression [] plain left.start (sym v.place i).stop ((nodes_are ∙ ap (λ x. part x none) (sym v.tree)) i)) LeftHandSide Other),
        ends_same (sym (c.3.pairs ∙ ap (λ x. c.3.before ++ x) v.pairs ∙ append-nil c.3.before)) (ends_before c.3.ends (sym v.place) refl),
      )
