-- A group and parameters at one place end alike (ECMA-262 12.2.10, 14.2).
use Rattle.std.proofs.Common.{◌≡◌, ℕ, suc, ◌≤◌, Bool, true, false, cond, not, ◌&&◌, ◌||◌, List, [], refl, sym, ap, ◌∙◌, subst, arith, inl}
use Rattle.std.specs.Prelude.{IsTrue, Some, codes}
use Rattle.std.proofs.lemmas.Bool.{false≢true}
use Rattle.tokens.specs.declared.token.TokenClass.TheVariants.{IdentifierName, Punctuator}
use Rattle.tokens.specs.declared.token.Goal.{Goal}
use Rattle.tokens.specs.declared.token.Goal.TheVariants.{Div}
use Rattle.tokens.specs.Goals.{allows}
use Rattle.tree.specs.declared.kind.Kind.{Kind}
use Rattle.tree.specs.declared.kind.Kind.TheVariants.{Identifier, AssignmentExpression, SequenceExpression}
use Rattle.language.specs.declared.Edge.TheVariants.{Other}
use Rattle.tree.specs.declared.kind.Flags.{Flags}
use Rattle.tree.specs.declared.kind.Pair.{Pair}
use Rattle.tree.specs.Tree.{Tree, node, Parts, none, part, kind_of, height, parts_height, plain}
use Rattle.language.specs.declared.Rank.{Rank}
use Rattle.language.specs.declared.Rank.TheVariants.{Expression, Assignment, Primary}
use Rattle.language.specs.declared.Start.{Start}
use Rattle.language.specs.declared.Start.TheVariants.{Any}
use Rattle.language.specs.Vocabulary.{is, is_reserved, is_rest, takes, op_assign}
use Rattle.language.specs.Pieces.{Role, expr, PieceOf, name, rest, with_default}
use Rattle.language.specs.Token.{Token}
use Rattle.language.specs.Edges.{edge, edge_as_written}
use Rattle.language.specs.Continuations.{operation, stops, stops_at, rank_made_by}
use Rattle.language.specs.Covers.{as_expression, as_pattern, element_as}
use Rattle.language.specs.Promises.{is_free, IsDetermined, ReadBy, Stops, Found}
use Rattle.language.specs.Following.{IsAlike}
use Rattle.language.specs.Grammar.{ways}
use Rattle.language.specs.Derivation.{Reads, Spells, Runs}
use Rattle.language.proofs.table.Begins.{retell}
use Rattle.language.proofs.climbing.SpineContinuations.{makes}
use Rattle.language.proofs.table.LeftRecursiveWays.{Led, led_assign, between}
use Rattle.language.proofs.climbing.RightOperands.{right_side}
use Rattle.language.proofs.table.Reaches.{reaches, loose_of}
use Rattle.language.proofs.climbing.NoContinuation.{goes_where_not}
use Rattle.language.proofs.table.Tails.{tails_assign}
use Rattle.language.proofs.climbing.BinaryTurns.{same_node}
use Rattle.language.proofs.climbing.Conditionals.{same_sign}
use Rattle.language.proofs.climbing.OperatorLoop.{Climbing, climb_stop, LedOn, led_on, stops_inside, grows_height, whole_where_stops}
use Rattle.language.proofs.climbing.Leaves.{OneToken, name_form, climb_identifier, AsyncNext, function_next, name_next, parameters_next}
use Rattle.language.proofs.covers.CoverReadings.{name_or_sign}
use Rattle.unambiguity_laws.proofs.statements.FunctionForms.{names_same}
use Rattle.language.proofs.list_loops.CommaLists.{Separated, by_comma, by_closing}
use Rattle.language.proofs.covers.CoverElements.{Simple, a_name, a_target, Defaulted, ElementForm, bare_pattern, bare_simple, pattern_default, simple_default, element_form}
use Rattle.language.proofs.covers.CoverEnds.{a_parenthesis, item_stops}
use Rattle.language.proofs.covers.CoverSpreads.{rest_form, no_plain_expression, two_texts}
use Rattle.language.proofs.table.ForDeclarationWays.{two_signs}
use Rattle.language.proofs.list_loops.ParameterLists.{parameter_list}
use Rattle.language.proofs.climbing.Groups.{GroupEnds}
use Rattle.language.proofs.climbing.Targets.{PartsEndAt}
use Rattle.unambiguity_laws.proofs.Unique.{Unique}
use Rattle.unambiguity_laws.proofs.list_items.ListEnds.{Form, closed, hole, last, more, list_view}
use Rattle.unambiguity_laws.proofs.list_items.Crossings.{no_element_there, list_ends}
use Rattle.unambiguity_laws.proofs.list_items.ElementEnds.{at_pattern, at_default}
use Rattle.language.proofs.climbing.Wholes.{AtExpression, single, sequenced, at_expression}
use Rattle.unambiguity_laws.proofs.list_items.GroupLists.{argument_is, one_argument, several_arguments}

some_same : {a b : Role} → Some a ≡ Some b → a ≡ b
some_same e = cc

-- what the node of an assignment holds
assigned_rest : {y : Rank} {i : Bool} {f : Start} {k : Kind} {w : List ℕ} {g : Flags} {ps : Parts} {b : Role} {rest : List (PieceOf Role)} → Led y i f k w g ps b rest op_assign → (k ≡ AssignmentExpression) × IsTrue (takes y Assignment) × (rest ≡ between w (expr Assignment i Any))
assigned_rest (led_assign k op ta tk b e) = (k, tk, e)

-- `=` goes on behind a name
goes_on_name : (w : List ℕ) (st en : ℕ) (l t : Token) → t.text ≡ codes "=" → operation t ≡ op_assign → stops Assignment true (edge (node Identifier w plain st en none)) l t ≡ false
goes_on_name w st en l t text op = ap (λ c. stops_at Assignment true Other t (rank_made_by c t.after_break)) op ∙ ap (λ v. (is v "in" && not true) || not true) text

module _ (S : Type 0) (Next : S → Token → S → Type 0) (behind : S → Token) (det : IsDetermined S Next behind) where
  -- a name with another sign behind it is no word of an async function or arrow
  sign_behind : {w v : List ℕ} {y : Rank} {x k z : S} {t u : Token} → IsTrue (allows Div Punctuator v) → (v ≡ codes "(" → ⊥) → Reads S Next behind IdentifierName w x t k → Reads S Next behind Punctuator v k u z → AsyncNext S Next behind det y x → ⊥
  sign_behind {v = v} {z = z} {u = u} al other r h (function_next a b line) = name_or_sign S Next behind det al b (subst (λ c. Reads S Next behind Punctuator v c u z) (names_same S Next behind det r a).1 h)
  sign_behind {v = v} {z = z} {u = u} al other r h (name_next a b free line c on tk) = name_or_sign S Next behind det al b (subst (λ c. Reads S Next behind Punctuator v c u z) (names_same S Next behind det r a).1 h)
  sign_behind {v = v} {z = z} {u = u} al other r h (parameters_next a b line d c on tk) = other (two_signs S Next behind det al refl (subst (λ c. Reads S Next behind Punctuator v c u z) (names_same S Next behind det r a).1 h) b).0

module _ (S : Type 0) (Next : S → Token → S → Type 0) (behind : S → Token) (det : IsDetermined S Next behind) (alike : IsAlike S Next behind) {h : ℕ} (u : Unique S Next behind det h) where
  module _ {o : ℕ} {n : Tree} {x e : S} {P : List Pair} (d : Spells ways S Next behind o (expr Assignment true Any) n x e P) (sep : Separated S Next behind det (codes ")") e) where
    -- a name there, behind which no `=>` is read, begins the expression
    name_climbs : {o' : ℕ} {m : Tree} {k : S} {Q : List Pair} (v : OneToken S Next behind det IdentifierName Identifier m x k Q) → is_reserved v.text ≡ false → ((t : Token) (z : S) → Reads S Next behind Punctuator (codes "=>") k t z → ⊥) → (AsyncNext S Next behind det Assignment x → ⊥) → Climbing S Next behind det o' Assignment true Any Primary x (node Identifier v.sign.text plain v.sign.start (behind k).stop none) k []
    name_climbs v free no_arrow no_async = climb_identifier S Next behind det (record { next = v.reads.next; allowed = det.free Goal.RegExp _ v.sign _ v.reads.next (ap is_free v.reads.class) }) refl v.reads.class (ap is_reserved v.reads.text ∙ free) (λ tk t z eq line. no_arrow t z eq) no_async

    -- a name alone
    at_name : {o' : ℕ} {m : Tree} {k : S} {Q : List Pair} → Spells ways S Next behind o' name m x k Q → Separated S Next behind det (codes ")") k → k ≡ e
    at_name {o'} {k = k} p there =
        let v = name_form S Next behind det p in
        let found = climb_stop S Next behind det (name_climbs {o' = o'} v.0 v.1 (no_arrow there) (no_async v.0.reads there)) (item_stops S Next behind det a_parenthesis Assignment (node Identifier v.0.sign.text plain v.0.sign.start (behind k).stop none) k refl there) in
        sym (found.only o e n P d (item_stops S Next behind det a_parenthesis Assignment n e refl sep)).0
      where
        no_arrow : Separated S Next behind det (codes ")") k → (t : Token) (z : S) → Reads S Next behind Punctuator (codes "=>") k t z → ⊥
        no_arrow (by_comma h) t z eq = let clash = two_texts S Next behind det refl refl eq h in false≢true (sym (ap (λ w. is w "=>") clash))
        no_arrow (by_closing h) t z eq = let clash = two_texts S Next behind det refl refl eq h in false≢true (sym (ap (λ w. is w "=>") clash))

        no_async : {w : List ℕ} {t : Token} → Reads S Next behind IdentifierName w x t k → Separated S Next behind det (codes ")") k → AsyncNext S Next behind det Assignment x → ⊥
        no_async r (by_comma h) a = sign_behind S Next behind det refl (λ e. false≢true (ap (λ w. is w "(") e)) r h a
        no_async r (by_closing h) a = sign_behind S Next behind det refl (λ e. false≢true (ap (λ w. is w "(") e)) r h a

    -- `=` goes on with the name, and both right sides end alike
    rights_end : {o' : ℕ} {m left : Tree} {k : S} {Q R : List Pair} {q : Rank} {j : Bool} {f : Start} → height n ≤ suc h → (p : Defaulted S Next behind det (Simple S Next behind det true) o' m x k Q) → Separated S Next behind det (codes ")") k → ReadBy S Next behind Div p.mid p.sign p.x →
        LedOn S Next behind det o x (expr Assignment true Any) n e P q j f left p.mid R op_assign → k ≡ e
    rights_end {o'} {left = left} {k = k} low p there r on =
        let led = assigned_rest on.led in
        let side = right_side S Next behind det on.w (retell S Next behind led.2 on.runs) r in
        of led.0 led.1 side.operand side.parts side.spelled
      where
        of : on.k ≡ AssignmentExpression → IsTrue (takes on.y Assignment) → (w : Tree) → on.ps ≡ part w none → Spells ways S Next behind o (expr Assignment on.i Any) w p.x on.to on.more → k ≡ e
        of kind tk w parts d' =
            let same : node on.k on.w on.g on.st on.en (part left on.ps) ≡ node AssignmentExpression on.w on.g on.st on.en (part left (part w none)) = same_node kind refl refl refl refl (ap (part left) parts) in
            let grown = grows_height S Next behind det on.grows in
            let high : height (node on.k on.w on.g on.st on.en (part left on.ps)) ≡ height (node AssignmentExpression on.w on.g on.st on.en (part left (part w none))) = ap height same in
            let right_low : height w ≤ h = omega arith in
            let inside : on.i ≡ true = ((reaches S Next behind on.grows).same_in (loose_of on.y Assignment tk refl)).1 in
            let right_st = stops_inside S Next behind det Assignment Assignment on.i w tails_assign (λ a b. omega arith) tk (λ a. refl) (ap (λ c. edge_as_written (edge c) (behind on.to)) same) (item_stops S Next behind det a_parenthesis Assignment n e refl sep) on.grows in
            let found = u.expressions.found right_low (λ c. cc) (λ c. cc) (subst (λ j. Spells ways S Next behind o (expr Assignment j Any) w p.x on.to on.more) inside d') (subst (λ j. Stops S Next behind Assignment j w on.to) inside right_st) in
            let ends : k ≡ on.to = (found.only o' k p.right p.more p.value (item_stops S Next behind det a_parenthesis Assignment p.right k refl there)).0 in
            let whole = whole_where_stops S Next behind det on.spelled (item_stops S Next behind det a_parenthesis Assignment (node on.k on.w on.g on.st on.en (part left on.ps)) on.to refl (subst (λ z. Separated S Next behind det (codes ")") z) ends there)) on.grows in
            ends ∙ sym whole.place

    -- a name with a default
    at_named_default : {o' : ℕ} {m : Tree} {k : S} {Q : List Pair} → height n ≤ suc h → Defaulted S Next behind det (Simple S Next behind det true) o' m x k Q → Separated S Next behind det (codes ")") k → k ≡ e
    at_named_default {o'} {m} {k} {Q} low p there = of p.stands
      where
        of : Simple S Next behind det true o' p.left x p.mid p.one → k ≡ e
        of (a_target c t q) = absurd (false≢true (sym c))
        of (a_name c q) =
            let v = name_form S Next behind det q in
            let climb = name_climbs {o' = o'} v.0 v.1 (λ t z eq. (let clash = two_texts S Next behind det refl refl eq p.reads in false≢true (sym (ap (λ w. is w "=>") clash)))) (sign_behind S Next behind det refl (λ e. false≢true (ap (λ w. is w "(") e)) v.0.reads p.reads) in
            let st = item_stops S Next behind det a_parenthesis Assignment n e refl sep in
            let lead = climb.leads o e n P d st in
            let op : operation p.sign ≡ op_assign = makes p.sign p.reads.class p.reads.text refl in
            let al : IsTrue (allows Div p.sign.class p.sign.text) = subst (λ c. IsTrue (allows Div c p.sign.text)) (sym p.reads.class) (subst (λ z. IsTrue (allows Div Punctuator z)) (sym p.reads.text) refl) in
            let r : ReadBy S Next behind Div p.mid p.sign p.x = record { next = p.reads.next; allowed = al } in
            let goes = goes_on_name v.0.sign.text v.0.sign.start (behind p.mid).stop (behind p.mid) p.sign p.reads.text op in
            rights_end low p there r (led_on S Next behind det r op (λ c. cc) (goes_where_not S Next behind det Assignment true {m = node Identifier v.0.sign.text plain v.0.sign.start (behind p.mid).stop none} r st goes) lead.spelled lead.grows)

    -- a parameter
    at_parameter : {o' : ℕ} {a : Role} {m : Tree} {k : S} {Q : List Pair} → height n ≤ suc h → element_as (as_pattern true) (kind_of m) ≡ Some a → Spells ways S Next behind o' a m x k Q → Separated S Next behind det (codes ")") k → k ≡ e
    at_parameter {o'} {a} {m} {k} {Q} low it p there = of (is_rest (kind_of m)) it
      where
        by_form : ElementForm S Next behind det true o' m x k Q → k ≡ e
        by_form (bare_pattern q) = at_pattern S Next behind det alike u a_parenthesis d sep (inl low) q there
        by_form (pattern_default q) = at_default S Next behind det alike u a_parenthesis d sep (inl low) q there
        by_form (bare_simple (a_name c q)) = at_name q there
        by_form (bare_simple (a_target c t q)) = absurd (false≢true (sym c))
        by_form (simple_default q) = at_named_default low q there

        of : (c : Bool) → cond c (Some (rest true false)) (with_default true (kind_of m)) ≡ Some a → k ≡ e
        of true c = let v = rest_form S Next behind det (subst (λ r. Spells ways S Next behind o' r m x k Q) (sym (some_same c)) p) in absurd (no_plain_expression S Next behind det v.dotted.reads d)
        of false c = by_form (element_form S Next behind det true m c p)

    -- parameters, the first of which begins there, where `)` follows the expression
    at_parameters : {o' : ℕ} {ps : Parts} {mid k : S} {t : Token} → height n ≤ suc h → Reads S Next behind Punctuator (codes ")") e t mid → Form S Next behind (parameter_list) (element_as (as_pattern true)) (codes ")") o' x k ps → k ≡ mid
    at_parameters low closes (closed c) = absurd (no_element_there S Next behind det a_parenthesis as_expression (argument_is S Next behind det d) d (by_closing c))
    at_parameters low closes (hole c q) = absurd (no_element_there S Next behind det a_parenthesis as_expression (argument_is S Next behind det d) d (by_comma c))
    at_parameters {k = k} low closes (last {t = t} it q c) =
        let same = at_parameter low it q (by_closing c) in
        (same_sign S Next behind det (subst (λ z. Reads S Next behind Punctuator (codes ")") z t k) same c) closes refl).1
    at_parameters low closes (more {k = z} {c = t} it q c r) =
        let same = at_parameter low it q (by_comma c) in
        let clash = (two_signs S Next behind det refl refl (subst (λ v. Reads S Next behind Punctuator (codes ",") v t z) same c) closes).0 in
        absurd (false≢true (sym (ap (λ w. is w ",") clash)))

  -- what groups, of at most this height, ends where parameters do
  pub group_parameters : {o : ℕ} {x e1 mid : S} {n : Tree} {t : Token} {P : List Pair} → height n ≤ suc h → Found S Next behind o Expression true Any x e1 n P → Reads S Next behind Punctuator (codes ")") e1 t mid → PartsEndAt S Next behind parameter_list x mid
  group_parameters {o} {x} {e1} {mid} {n} {t} {P} low found closes o' e' ps' P' d' = of (at_expression S Next behind det found.spelled)
    where
      of : AtExpression S Next behind det o true Any n x e1 P → e' ≡ mid
      of (single d) = at_parameters d (by_closing closes) low closes (list_view S Next behind (element_as (as_pattern true)) (codes ")") o' ps' x e' P' d')
      of (sequenced {st = st} {en = en} {m = m} {rest = later} tree pl d some r q) =
          let high : height n ≡ height (node SequenceExpression [] plain st en (part m later)) = ap height tree in
          let low' : parts_height (part m later) ≤ h = omega arith in
          list_ends S Next behind det alike u a_parenthesis as_expression (as_pattern true) low' (several_arguments S Next behind det d r closes).runs d'

  -- what groups ends where parameters of at most this height do
  pub parameters_group : {o : ℕ} {ps : Parts} {x mid : S} {P : List Pair} → parts_height ps ≤ h → Runs ways S Next behind o (parameter_list ps) ps x mid P → GroupEnds S Next behind x mid
  parameters_group {o} {ps} {x} {mid} {P} low d o' e' n' P' v k d' closes = of (at_expression S Next behind det d')
    where
      of : AtExpression S Next behind det o' true Any n' x e' P' → k ≡ mid
      of (single q) = list_ends S Next behind det alike u a_parenthesis (as_pattern true) as_expression low d (one_argument S Next behind det q closes).runs
      of (sequenced tree pl q some r z) = list_ends S Next behind det alike u a_parenthesis (as_pattern true) as_expression low d (several_arguments S Next behind det q r closes).runs
