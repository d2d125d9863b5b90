-- Rules say nothing of plain nodes, and statements go on behind them.
use Rattle.std.proofs.Common.{◌≡◌, ℕ, ◌+◌, ◌<◌, ◌≤◌, Bool, true, false, List, [], ◌∷◌, ◌++◌, Some, None, refl, sym, ap, ◌∙◌, append-nil}
use Rattle.std.specs.Prelude.{not, ◌&&◌, ◌||◌, cond, is_none, is_some}
use Rattle.std.proofs.lemmas.Bool.{false≢true}
use Rattle.tree.specs.declared.kind.Kind.{Kind}
use Rattle.tree.specs.declared.kind.Kind.TheVariants.{ArrowFunctionExpression, BlockStatement, BreakStatement, CatchClause, ContinueStatement, DoWhileStatement, ForStatement, FunctionDeclaration, FunctionExpression, IfStatement, LabeledStatement, Program, PropertyDefinition, ReturnStatement, StaticBlock, Super, SwitchCase, SwitchStatement, ThrowStatement, TryStatement, WhileStatement}
use Rattle.tree.specs.declared.kind.Flags.{Flags}
use Rattle.tree.specs.Kinds.{is_function, is_loop}
use Rattle.tree.specs.Tree.{Tree, node, Parts, none, part, gap, flags_of, kind_of, part_at, part_count, parts_of, start_of}
use Rattle.tree.proofs.PartWalk.{parts_drop, parts_drop-some, parts_drop-gap, parts_drop-past}
use Rattle.rule_words.specs.Reports.{Report}
use Rattle.flow_rules.specs.declared.around.Around.{Around}
use Rattle.flow_rules.specs.declared.around.Home.TheVariants.{Other}
use Rattle.flow_rules.specs.declared.flow.Flow.{Flow}
use Rattle.flow_rules.specs.declared.flow.Sums.{Sums}
use Rattle.flow_rules.specs.declared.flow_rule.FlowRule.{FlowRule}
use Rattle.flow_rules.specs.declared.flow_rule.FlowRule.TheVariants.{ArrayCallbackReturn, ConsistentReturn, ConstructorSuper, GetterReturn, NoElseReturn, NoFallthrough, NoThisBeforeSuper, NoUnreachable, NoUnreachableLoop, NoUselessReturn}
use Rattle.flow_rules.specs.Arounds.{at_tail, behind, behind_gap, chained_inside, function_home, home_inside, inside, is_hoisted, is_second, is_third, returns}
use Rattle.flow_rules.specs.Completion.{Sought, Break, LabelledBreak, BreakOf, Continue, LabelledContinue, ReturnsValue, ReturnsNothing, SuperCall, completes, ends, has, has_text, is_sought, is_super_part, normal, some, sums_of}
use Rattle.flow_rules.specs.Fallthrough.{falls_through, is_said}
use Rattle.flow_rules.specs.Flows.{flow_of, next_place}
use Rattle.flow_rules.specs.KindSets.{has_own_this, is_block, is_break, is_call, is_continue, is_if, is_list, is_own_function, is_return, is_switch}
use Rattle.flow_rules.specs.Over.{over_nodes, over_parts}
use Rattle.flow_rules.specs.Plain.{are_plain, is_calm, is_plain, is_plain_kind, is_silent, is_watched, plain_flow}
use Rattle.flow_rules.specs.Rows.{gives_nothing, holds, is_awaited, is_bare_return, is_body, is_derived, is_getter, is_this_use, of_rules, place, report_at}

-- ---- tests

both-true : (a b : Bool) → (a && b) ≡ true → (a ≡ true) × (b ≡ true)
both-true true b h = (refl, h)
both-true false b h = absurd (false≢true h)

not-true : (a : Bool) → not a ≡ true → a ≡ false
not-true false h = refl
not-true true h = absurd (false≢true h)

last-false : (a b : Bool) → b ≡ false → (a && b) ≡ false
last-false true b h = h
last-false false b h = refl

first-false : (a b : Bool) → a ≡ false → (a && b) ≡ false
first-false a b h = ap (λ x. x && b) h

-- ---- kinds

module _ where
  goes-on : (k : Kind) (ps : Parts) (s : Sums) → is_plain_kind k ≡ true → completes k ps s ≡ true
  goes-on BreakStatement ps s h = absurd (false≢true h)
  goes-on ContinueStatement ps s h = absurd (false≢true h)
  goes-on ReturnStatement ps s h = absurd (false≢true h)
  goes-on ThrowStatement ps s h = absurd (false≢true h)
  goes-on BlockStatement ps s h = absurd (false≢true h)
  goes-on SwitchCase ps s h = absurd (false≢true h)
  goes-on CatchClause ps s h = absurd (false≢true h)
  goes-on IfStatement ps s h = absurd (false≢true h)
  goes-on LabeledStatement ps s h = absurd (false≢true h)
  goes-on WhileStatement ps s h = absurd (false≢true h)
  goes-on ForStatement ps s h = absurd (false≢true h)
  goes-on DoWhileStatement ps s h = absurd (false≢true h)
  goes-on SwitchStatement ps s h = absurd (false≢true h)
  goes-on TryStatement ps s h = absurd (false≢true h)
  goes-on k ps s h = refl

no-break : (k : Kind) → is_plain_kind k ≡ true → is_break k ≡ false
no-break BreakStatement h = absurd (false≢true h)
no-break k h = refl

no-continue : (k : Kind) → is_plain_kind k ≡ true → is_continue k ≡ false
no-continue ContinueStatement h = absurd (false≢true h)
no-continue k h = refl

no-return : (k : Kind) → is_plain_kind k ≡ true → is_return k ≡ false
no-return ReturnStatement h = absurd (false≢true h)
no-return k h = refl

no-block : (k : Kind) → is_plain_kind k ≡ true → is_block k ≡ false
no-block BlockStatement h = absurd (false≢true h)
no-block k h = refl

no-if : (k : Kind) → is_plain_kind k ≡ true → is_if k ≡ false
no-if IfStatement h = absurd (false≢true h)
no-if k h = refl

no-switch : (k : Kind) → is_plain_kind k ≡ true → is_switch k ≡ false
no-switch SwitchStatement h = absurd (false≢true h)
no-switch k h = refl

no-list : (k : Kind) → is_plain_kind k ≡ true → is_list k ≡ false
no-list Program h = absurd (false≢true h)
no-list BlockStatement h = absurd (false≢true h)
no-list StaticBlock h = absurd (false≢true h)
no-list SwitchCase h = absurd (false≢true h)
no-list k h = refl

no-function : (k : Kind) → is_plain_kind k ≡ true → is_function k ≡ false
no-function FunctionDeclaration h = absurd (false≢true h)
no-function FunctionExpression h = absurd (false≢true h)
no-function ArrowFunctionExpression h = absurd (false≢true h)
no-function k h = refl

no-own-function : (k : Kind) → is_plain_kind k ≡ true → is_own_function k ≡ false
no-own-function FunctionDeclaration h = absurd (false≢true h)
no-own-function FunctionExpression h = absurd (false≢true h)
no-own-function k h = refl

no-own-this : (k : Kind) → is_plain_kind k ≡ true → has_own_this k ≡ false
no-own-this PropertyDefinition h = absurd (false≢true h)
no-own-this StaticBlock h = absurd (false≢true h)
no-own-this k h = refl

-- ---- nothing leaves a plain node

module _ where
  no-super : (k : Kind) (w : List ℕ) (g : Flags) (s e : ℕ) (ps : Parts) → is_plain_kind k ≡ true → is_super_part (Some (node k w g s e ps)) ≡ false
  no-super Super w g s e ps h = absurd (false≢true h)
  no-super k w g s e ps h = refl

  no-super-first : (ps : Parts) → are_plain ps ≡ true → is_super_part (part_at ps 0) ≡ false
  unfolding is_plain are_plain
  no-super-first none h = refl
  no-super-first (part (node k w g s e qs) ps) h = no-super k w g s e qs ((both-true _ _ ((both-true _ _ h).0)).0)
  no-super-first (gap ps) h = refl

  not-sought : (x : Sought) (k : Kind) (ps : Parts) → is_plain_kind k ≡ true → are_plain ps ≡ true → is_sought x k (part_at ps 0) ≡ false
  not-sought Break k ps h p = first-false (is_break k) (is_none (part_at ps 0)) (no-break k h)
  not-sought LabelledBreak k ps h p = first-false (is_break k) (is_some (part_at ps 0)) (no-break k h)
  not-sought (BreakOf label) k ps h p = first-false (is_break k) (has_text label (part_at ps 0)) (no-break k h)
  not-sought Continue k ps h p = first-false (is_continue k) (is_none (part_at ps 0)) (no-continue k h)
  not-sought LabelledContinue k ps h p = first-false (is_continue k) (is_some (part_at ps 0)) (no-continue k h)
  not-sought ReturnsValue k ps h p = first-false (is_return k) (is_some (part_at ps 0)) (no-return k h)
  not-sought ReturnsNothing k ps h p = first-false (is_return k) (is_none (part_at ps 0)) (no-return k h)
  not-sought SuperCall k ps h p = last-false (is_call k) (is_super_part (part_at ps 0)) (no-super-first ps p)

mutual
  unfolding has some is_plain are_plain

  has-none : (x : Sought) (t : Tree) → is_plain t ≡ true → has x t ≡ false
  has-none x (node k w g s e ps) h =
      let p = both-true _ _ h in
      ap (λ b. b || (not (ends x k) && some x ps)) (not-sought x k ps p.0 p.1) ∙ last-false (not (ends x k)) (some x ps) (some-none x ps p.1)

  some-none : (x : Sought) (ps : Parts) → are_plain ps ≡ true → some x ps ≡ false
  some-none x none h = refl
  some-none x (part t ps) h = let p = both-true _ _ h in ap (λ b. b || some x ps) (has-none x t p.0) ∙ some-none x ps p.1
  some-none x (gap ps) h = some-none x ps h

plain-normal : (t : Tree) → is_plain t ≡ true → normal t ≡ true
unfolding normal is_plain
plain-normal (node k w g s e ps) h = goes-on k ps (sums_of ps) ((both-true _ _ h).0)

pub plain-flows : (t : Tree) → is_plain t ≡ true → flow_of t ≡ plain_flow
plain-flows t h = λ i. record {
  normal = plain-normal t h i;
  leaving = record {
    breaks = has-none Break t h i;
    labelled_breaks = has-none LabelledBreak t h i;
    continues = has-none Continue t h i;
    labelled_continues = has-none LabelledContinue t h i;
    values = has-none ReturnsValue t h i;
    empties = has-none ReturnsNothing t h i;
    supers = has-none SuperCall t h i;
  };
}

-- ---- rules say nothing of a node

no-body : (z : Around) (t : Tree) → is_plain_kind (kind_of t) ≡ true → is_body z t ≡ false
no-body z t p = last-false (is_function z.round.parent) (is_block (kind_of t)) (no-block (kind_of t) p)

no-bare : (t : Tree) → is_return (kind_of t) ≡ false → is_bare_return t ≡ false
no-bare t r = first-false (is_return (kind_of t)) (is_none (part_at (parts_of t) 0)) r

-- nothing round a node makes a rule look at it
record Calm (z : Around) : Type 0 where
  pub reached : z.stopped ≡ false
  pub entered : z.falls ≡ false
  pub branch : (z.chained && is_third z.place) ≡ false
  pub unwatched : is_watched z ≡ false

third-last : (i d c n : Bool) → (c && d) ≡ false → ((i && d) && (c && n)) ≡ false
third-last i d false n h = last-false (i && d) false refl
third-last i true true n h = absurd (false≢true (sym h))
third-last i false true n h = ap (λ x. x && n) (last-false i false refl)

watched-last : (d s u : Bool) → (d && not s) ≡ false → (d && (not s && u)) ≡ false
watched-last false s u h = refl
watched-last true s u h = ap (λ x. x && u) h

loops-on : (l n o : Bool) → n ≡ true → (l && (not n && o)) ≡ false
loops-on l n o h = last-false l (not n && o) (ap (λ x. not x && o) h)

module _ (source : List ℕ) (z : Around) (flow : Flow) (t : Tree) (c : Calm z) (no-body : is_body z t ≡ false) (no-bare : is_bare_return t ≡ false) (n : flow.normal ≡ true) where
  gives : gives_nothing z flow t ≡ false
  gives = ap (λ b. (b && flow.normal) || is_bare_return t) no-body ∙ no-bare

  none-holds : (rule : FlowRule) → holds source rule z flow t ≡ false
  none-holds ArrayCallbackReturn = last-false (is_awaited z.round.home) (gives_nothing z flow t) gives
  none-holds ConsistentReturn = first-false (is_body z t) (flow.leaving.values && (flow.normal || flow.leaving.empties)) no-body
  none-holds ConstructorSuper =
      last-false (is_derived z.round.home) (is_body z t && (not (z.has_super || flow.leaving.supers) && (flow.normal || flow.leaving.empties)))
      (first-false (is_body z t) (not (z.has_super || flow.leaving.supers) && (flow.normal || flow.leaving.empties)) no-body)
  none-holds GetterReturn = last-false (is_getter z.round.home) (gives_nothing z flow t) gives
  none-holds NoElseReturn = third-last (is_if z.round.parent) (is_third z.place) z.chained (not (is_if (kind_of t))) c.branch
  none-holds NoFallthrough = first-false z.falls (not (is_said source z.falls_from (start_of t))) c.entered
  none-holds NoThisBeforeSuper = watched-last (is_derived z.round.home) z.has_super (is_this_use z t) c.unwatched
  none-holds NoUnreachable = first-false z.stopped (not z.in_run && not (is_hoisted t)) c.reached
  none-holds NoUnreachableLoop = loops-on (is_loop z.round.parent) flow.normal (not (flow.leaving.continues || flow.leaving.labelled_continues)) n
  none-holds NoUselessReturn = first-false (is_bare_return t) (at_tail z) no-bare

  none-said : (rules : List FlowRule) → of_rules source rules z flow t ≡ []
  none-said [] = refl
  none-said (rule ∷ rules) = ap (λ b. cond b (report_at (place rule z t) rule t ∷ []) [] ++ of_rules source rules z flow t) (none-holds rule) ∙ none-said rules

-- ---- from node to node

still-watched : (d e s u : Bool) → u ≡ false → e ≡ d → (d && not s) ≡ false → (e && not (s && not u)) ≡ false
still-watched d e s u h k w = ap (λ x. e && not (s && not x)) h ∙ ap (λ x. x && not (s && true)) k ∙ ap (λ x. d && not x) (and-true s) ∙ w where
  and-true : (a : Bool) → (a && true) ≡ a
  and-true true = refl
  and-true false = refl

same-home : (z : Around) (t : Tree) → is_plain_kind (kind_of t) ≡ true → home_inside z t ≡ z.round.home
same-home z t p =
    ap (λ b. cond b (function_home z (flags_of t)) (cond (has_own_this (kind_of t)) Other z.round.home)) (no-function (kind_of t) p)
    ∙ ap (λ b. cond b Other z.round.home) (no-own-this (kind_of t) p)

not-chained : (z : Around) (k : Kind) → is_plain_kind k ≡ true → chained_inside z k ≡ false
not-chained z k p = ap (λ b. b && (is_list z.round.parent || (is_if z.round.parent && (is_third z.place && z.chained)))) (no-if k p)

calm-inside : (z : Around) (t : Tree) → is_plain_kind (kind_of t) ≡ true → Calm z → Calm (inside z t)
calm-inside z t p c = record {
  reached = refl;
  entered = refl;
  branch = last-false (chained_inside z (kind_of t)) false refl;
  unwatched = still-watched (is_derived z.round.home) (is_derived (home_inside z t)) z.has_super (is_own_function (kind_of t)) (no-own-function (kind_of t) p) (ap is_derived (same-home z t p)) c.unwatched;
}

module _ where
  more-supers : (d s u : Bool) → (d && not s) ≡ false → (d && not (s || u)) ≡ false
  more-supers false s u h = refl
  more-supers true true u h = refl
  more-supers true false u h = absurd (false≢true (sym h))

  or-false : (a b : Bool) → a ≡ false → b ≡ false → (a || b) ≡ false
  or-false false b g h = h
  or-false true b g h = absurd (false≢true (sym g))

  calm-behind : (z : Around) (flow : Flow) (t : Tree) → is_plain_kind z.round.parent ≡ true → z.chained ≡ false → Calm z → Calm (behind z flow t)
  calm-behind z flow t p h c = record {
    reached = or-false z.stopped (is_list z.round.parent && not flow.normal) c.reached (first-false (is_list z.round.parent) (not flow.normal) (no-list z.round.parent p));
    entered = first-false (is_switch z.round.parent) (falls_through flow t) (no-switch z.round.parent p);
    branch = first-false (z.chained && (not (is_second z.place) || returns flow)) (is_third (next_place z.place)) (first-false z.chained (not (is_second z.place) || returns flow) h);
    unwatched = more-supers (is_derived z.round.home) z.has_super flow.leaving.supers c.unwatched;
  }

  calm-gap : (z : Around) → z.chained ≡ false → Calm z → Calm (behind_gap z)
  calm-gap z h c = record {
    reached = c.reached;
    entered = c.entered;
    branch = first-false z.chained (is_third (next_place z.place)) h;
    unwatched = c.unwatched;
  }

mutual
  unfolding over_nodes over_parts is_plain are_plain

  said-of-none : (source : List ℕ) (rules : List FlowRule) (z : Around) (t : Tree) → is_plain t ≡ true → Calm z → over_nodes (of_rules source rules) z t ≡ []
  said-of-none source rules z (node k w g s e ps) h c =
      let p = both-true _ _ h in
      ap (λ l. l ++ of_rules source rules z (flow_of (node k w g s e ps)) (node k w g s e ps))
      (said-of-no-parts source rules (inside z (node k w g s e ps)) ps p.1 p.0 (not-chained z k p.0) (calm-inside z (node k w g s e ps) p.0 c))
      ∙ none-said source z (flow_of (node k w g s e ps)) (node k w g s e ps) c (no-body z (node k w g s e ps) p.0) (no-bare (node k w g s e ps) (no-return k p.0)) (plain-normal (node k w g s e ps) h) rules

  said-of-no-parts : (source : List ℕ) (rules : List FlowRule) (z : Around) (ps : Parts) → are_plain ps ≡ true → is_plain_kind z.round.parent ≡ true → z.chained ≡ false → Calm z →
      over_parts (of_rules source rules) z ps ≡ []
  said-of-no-parts source rules z none h p f c = refl
  said-of-no-parts source rules z (part t ps) h p f c =
      let a = both-true _ _ h in
      ap (λ l. l ++ over_parts (of_rules source rules) (behind z (flow_of t) t) ps) (said-of-none source rules z t a.0 c)
      ∙ said-of-no-parts source rules (behind z (flow_of t) t) ps a.1 p (first-false z.chained (not (is_second z.place) || returns (flow_of t)) f) (calm-behind z (flow_of t) t p f c)
  said-of-no-parts source rules z (gap ps) h p f c = said-of-no-parts source rules (behind_gap z) ps h p f (calm-gap z f c)

calm-is : (z : Around) → is_calm z ≡ true → Calm z
calm-is z h =
    let p = both-true _ _ h in
    let a = both-true _ _ p.0 in
    let b = both-true _ _ p.1 in
    record { reached = not-true _ a.0; entered = not-true _ a.1; branch = not-true _ b.0; unwatched = not-true _ b.1 }

-- what the walk asks before it passes a node by
pub nothing-said : (source : List ℕ) (rules : List FlowRule) (z : Around) (t : Tree) (old : List Report) → (is_calm z && is_plain t) ≡ true → old ≡ old ++ over_nodes (of_rules source rules) z t
nothing-said source rules z t old h = let p = both-true _ _ h in sym (append-nil old) ∙ ap (λ l. old ++ l) (sym (said-of-none source rules z t p.1 (calm-is z p.0)))

-- what it asks before it hands a node to the rules
pub silent-said : (source : List ℕ) (rules : List FlowRule) (z : Around) (flow : Flow) (t : Tree) (old : List Report) → is_silent z flow t ≡ true → old ≡ old ++ of_rules source rules z flow t
silent-said source rules z flow t old h =
    let p = both-true _ _ h in
    let a = both-true _ _ p.0 in
    let b = both-true _ _ p.1 in
    sym (append-nil old) ∙ ap (λ l. old ++ l) (sym (none-said source z flow t (calm-is z a.1) (not-true _ b.1) (no-bare t (not-true _ b.0)) a.0 rules))

pub passed-flows : (z : Around) (t : Tree) → (is_calm z && is_plain t) ≡ true → plain_flow ≡ flow_of t
passed-flows z t h = sym (plain-flows t ((both-true _ _ h).1))

-- ---- the test of a node, part by part

pub wrong-kind : (t : Tree) → is_plain_kind (kind_of t) ≡ false → false ≡ is_plain t
unfolding is_plain
wrong-kind (node k w g s e ps) h = sym (ap (λ b. b && are_plain ps) h)

pub by-parts : (t : Tree) → is_plain_kind (kind_of t) ≡ true → are_plain (parts_of t) ≡ is_plain t
unfolding is_plain
by-parts (node k w g s e ps) h = sym (ap (λ b. b && are_plain ps) h)

module _ (ps : Parts) (i : ℕ) (total : Bool) (so : are_plain (parts_drop i ps) ≡ total) where
  plain-step : (u : Tree) → Some u ≡ part_at ps i → are_plain (parts_drop i ps) ≡ (is_plain u && are_plain (parts_drop (i + 1) ps))
  unfolding are_plain
  plain-step u h = ap are_plain (parts_drop-some ps i u h)

  pub plain-failed : (u : Tree) → Some u ≡ part_at ps i → is_plain u ≡ false → false ≡ total
  plain-failed u e h = sym (ap (λ b. b && are_plain (parts_drop (i + 1) ps)) h) ∙ sym (plain-step u e) ∙ so

  pub plain-turn : (u : Tree) → Some u ≡ part_at ps i → is_plain u ≡ true → are_plain (parts_drop (i + 1) ps) ≡ total
  plain-turn u e h = sym (ap (λ b. b && are_plain (parts_drop (i + 1) ps)) h) ∙ sym (plain-step u e) ∙ so

  pub plain-gap : None ≡ part_at ps i → i < part_count ps → are_plain (parts_drop (i + 1) ps) ≡ total
  unfolding are_plain
  plain-gap e l = sym (ap are_plain (parts_drop-gap ps i e l)) ∙ so

  pub plain-end : part_count ps ≤ i → true ≡ total
  unfolding are_plain
  plain-end l = sym (ap are_plain (parts_drop-past ps i l)) ∙ so
