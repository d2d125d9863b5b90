-- Parentheses, against what is given of them: each path (ECMA-262 12.2.10, 14.2).
use Rattle.std.proofs.Common.{◌≡◌, ℕ, suc, ◌+◌, ◌-◌, ◌≤◌, Bool, true, false, cond, List, [], ◌∷◌, ◌++◌, refl, sym, ap, ◌∙◌, subst, arith, append_assoc, Result, Ok, Err}
use Rattle.std.specs.Prelude.{IsTrue, codes, map, not, ◌&&◌, if◌then◌else◌}
use Rattle.std.specs.Result.{IfOk, IsErrAnd}
use Rattle.std.proofs.lemmas.Bool.{false≢true}
use Rattle.source_text.specs.declared.fault.Fault.{Fault}
use Rattle.tokens.specs.declared.token.TokenClass.TheVariants.{Punctuator}
use Rattle.token_cursor.specs.CursorState.{CursorState}
use Rattle.tree.specs.declared.kind.Kind.TheVariants.{ArrowFunctionExpression}
use Rattle.tree.specs.declared.kind.Flags.{Flags}
use Rattle.tree.specs.declared.kind.Pair.{Pair}
use Rattle.tree.specs.Tree.{Tree, node, Parts, none, part, gap, push, join, kind_of, height, parts_height}
use Rattle.tree.proofs.Shapes.{parts_height-push}
use Rattle.covers.specs.declared.shape.TargetForm.TheVariants as assigned
use Rattle.covers.specs.declared.list.ListKind.TheVariants as listed
use Rattle.covers.specs.declared.list.ListBuilder.{ListBuilder as ListOf}
use Rattle.covers.specs.Lists.{opening}
use Rattle.tree.specs.Patterns.{pattern_parts}
use Rattle.covers.specs.Shapes.{is_bound, is_target, Becomes}
use Rattle.language.specs.declared.Rank.{Rank}
use Rattle.language.specs.declared.Rank.TheVariants.{Expression, Assignment, Grouped}
use Rattle.language.specs.declared.Start.TheVariants.{Any, NoBrace}
use Rattle.language.specs.Covers.{Reading, as_expression, as_pattern}
use Rattle.language.specs.Vocabulary.{takes, is_target as is_simple}
use Rattle.language.specs.Pieces.{expr, body, settle_piece}
use Rattle.language.specs.Token.{Token}
use Rattle.language.specs.Expressions.{arrow_end}
use Rattle.language.specs.Derivation.{Reads, grouped, step, token, laid, same_line}
use Rattle.language.specs.Claims.{max_open}
use Rattle.language.proofs.climbing.Arrows.{arrow_flags}
use Rattle.language.proofs.climbing.OperatorNodes.{last_runs}
use Rattle.language.proofs.climbing.Groups.{takes_group}
use Rattle.language.proofs.list_loops.ParameterLists.{parameter_list}
use Rattle.parser_tables.specs.declared.operand.Operand.{Operand}
use Rattle.parser_tables.specs.declared.expression_context.ExpressionContext.{ExpressionContext}
use Rattle.recursive_descent.specs.Complete.{ParenthesizedComplete, ListComplete, ArrowComplete}
use Rattle.recursive_descent.specs.Soundness.{RunsIn, Adds, ReadAt, ArrowAt}
use Rattle.recursive_descent.specs.SoundnessOfLists.{is_whole, whole_of}
use Rattle.recursive_descent.specs.Follows.{BegunAt}
use Rattle.recursive_descent.specs.Completeness.{Agrees, Room, EndsWith, StopsIn, IsFirst}
use Rattle.recursive_descent.specs.CompletenessOfLists.{ListGiven, LoneRead}
use Rattle.parser_tables.specs.Items.{are_some, group_node, group_shape, group_levels, is_grouped, list_from, list_group}
use Rattle.parser_tables.specs.Outcomes.{RefusedUnder, YieldsWhere}
use Rattle.token_cursor.specs.Seen.{ReadsHere}
use Rattle.recursive_descent.proofs.complete_expressions.Agreement.{Refuses, refuses_on, refuses_under, refuses_where, agrees_err, agrees_as}
use Rattle.recursive_descent.proofs.reading.AddedPairs.{grouping_both}
use Rattle.recursive_descent.proofs.reading.OnlyDerivation.{group_once}
use Rattle.recursive_descent.proofs.complete_expressions.GroupsGiven.{ParenGiven, a_group, an_arrow, paren_given}
use Rattle.recursive_descent.proofs.sound_expressions.Parenthesized.{none_groups}
use Rattle.recursive_descent.proofs.complete_expressions.GroupListsGiven.{Several, several_of, group_listed, parameters_listed}
use Rattle.token_cursor.specs.SourceText.{SourceText, SeenNext, behind_in}
use Rattle.recursive_descent.specs.Spelled.{SpellsIn, OfLanguage, AllOfLanguage}
use Rattle.recursive_descent.proofs.reading.LanguageTrees.{parts_of_language, push_of_language}
use Rattle.tree.specs.declared.kind.Form.TheVariants as form

-- what the parentheses hold is nested once less
less_of : {text : SourceText} {p : ExpressionContext} {o : ℕ} {t : Tree} {m e : Token} {P : List Pair} {h : Rank} → ParenGiven text p o t m e P h → (less : ℕ) × (o ≡ suc less)
less_of (a_group {less} more d closes pairs quiet) = (less, more)
less_of (an_arrow {less} more tree tk pk d eq line spelled stops pairs) = (less, more)

-- as many are open as may be
pub paren_unopened : (s e : CursorState) (old new : List Pair) (high : ℕ) (p : ExpressionContext) (result : Result Operand Fault) (fault : Fault) → IsErrAnd result (λ x. x ≡ fault) → RefusedUnder s.opened fault → ParenthesizedComplete s e old new high p result
paren_unopened s e old new high p result fault is under = λ sees a h o t to P first own.
    let g = paren_given s.text sees.1 first in
    let less = less_of g.1 in
    let more = less.1 in
    agrees_err (Room s o (height t) high) (λ (r : Operand). IsFirst a h r t × EndsWith s e old new to P) result fault is
    (refuses_under (Room s o (height t) high) s.opened fault under (λ room. let fits : o ≤ max_open - s.opened = room.0 in omega arith))

true_last : (b : Bool) → (b && true) ≡ true → b ≡ true
true_last true h = refl
true_last false h = absurd (false≢true h)

-- the list has both readings as its shape says
whole_bound : (l : ListOf) → l.listed ≡ listed.ParenthesizedItems → is_whole l (as_pattern true) ≡ true → is_bound l.seen.shape ≡ true
whole_bound l is h = true_last (is_bound l.seen.shape) (sym (ap (λ x. whole_of x l (as_pattern true)) is) ∙ h)

three_and : (a b c : Bool) → (a && (b && c)) ≡ true → (b && (c && a)) ≡ true
three_and true true true h = refl
three_and true true false h = absurd (false≢true h)
three_and true false c h = absurd (false≢true h)
three_and false b c h = absurd (false≢true h)

whole_group : (l : ListOf) → l.listed ≡ listed.ParenthesizedItems → is_whole l as_expression ≡ true → is_grouped l ≡ true
whole_group l is h = three_and l.seen.shape.is_expression (are_some l.nodes) (not l.seen.has_comma) (sym (ap (λ x. whole_of x l as_expression) is) ∙ h)

arrow_runs : (text : SourceText) (i flag : Bool) {o : ℕ} {u : Tree} {s x e : Token} {P : List Pair} → ReadsHere text Punctuator (codes "=>") s x → x.after_break ≡ false → SpellsIn text o (cond flag (expr Assignment i NoBrace) body) u x e P →
    RunsIn text o (map (settle_piece Assignment i Any) (arrow_end (arrow_flags flag))) (part u none) s e P
arrow_runs text i true eq line d = step (same_line eq.next line) (step laid (step (token eq) (step laid (last_runs Token (SeenNext text) (behind_in text) d))))
arrow_runs text i false eq line d = step (same_line eq.next line) (step laid (step (token eq) (step laid (last_runs Token (SeenNext text) (behind_in text) d))))

-- one in parentheses is an expression, and a target where it is simple
group_value : (w : ListOf) → LoneRead w → (ps : Parts) → w.nodes ≡ ps → (group_shape ps w.seen.last).is_expression ≡ true
group_value w lone none e = refl
group_value w lone (gap ps) e = refl
group_value w lone (part n none) e = lone.value n e
group_value w lone (part n (part k ps)) e = refl
group_value w lone (part n (gap ps)) e = refl

group_target : (w : ListOf) → LoneRead w → (ps : Parts) → w.nodes ≡ ps → (st en : ℕ) → is_simple (kind_of (group_node ps st en)) ≡ true → is_target (group_shape ps w.seen.last).assigned ≡ true
group_target w lone none e st en h = absurd (false≢true h)
group_target w lone (gap ps) e st en h = absurd (false≢true h)
group_target w lone (part n none) e st en h = ap (λ b. is_target (if b then assigned.Target else assigned.Nothing)) (lone.target n e h)
group_target w lone (part n (part k ps)) e st en h = absurd (false≢true h)
group_target w lone (part n (gap ps)) e st en h = absurd (false≢true h)

module _ (s m : CursorState) (old mid : List Pair) (high : ℕ) (p : ExpressionContext) (l : ListOf) (text : m.text ≡ s.text) (more_open : m.opened ≡ s.opened + 1) (sign : ReadsHere s.text Punctuator (codes "(") s.last m.last) (begun : l ≡ list_from listed.ParenthesizedItems l.span.start) where
  group_given : {less : ℕ} {t : Tree} {place e : Token} {Q : List Pair} (v : Several s.text less t m.last place Q) → ReadsHere s.text Punctuator (codes ")") place e → ListGiven m.text l as_expression less v.parts m.last e Q
  group_given {less} {t} {place} {e} {Q} v closes = subst (λ x. ListGiven x l as_expression less v.parts m.last e Q) (sym text) (subst (λ x. ListGiven s.text x as_expression less v.parts m.last e Q) (sym begun) (group_listed s.text v closes))

  arrow_given : {less : ℕ} {ps : Parts} {e : Token} {Q : List Pair} → RunsIn s.text less (parameter_list ps) ps m.last e Q → ListGiven m.text l (as_pattern true) less ps m.last e Q
  arrow_given {less} {ps} {e} {Q} d = subst (λ x. ListGiven x l (as_pattern true) less ps m.last e Q) (sym text) (subst (λ x. ListGiven s.text x (as_pattern true) less ps m.last e Q) (sym begun) (parameters_listed s.text d))

  own_group : {less : ℕ} {t : Tree} {place : Token} {Q : List Pair} (v : Several s.text less t m.last place Q) → OfLanguage s.text t → AllOfLanguage m.text v.parts
  own_group v own = subst (λ x. AllOfLanguage x v.parts) (sym text) (v.own own)

  own_arrow : {t : Tree} {flags : Flags} {st en : ℕ} (ps : Parts) (u : Tree) → t ≡ node ArrowFunctionExpression [] flags st en (push ps u) → OfLanguage s.text t → AllOfLanguage s.text ps × OfLanguage s.text u
  own_arrow ps u tree own = push_of_language ps u (parts_of_language (subst (OfLanguage s.text) tree own))

  own_parameters : {t : Tree} {flags : Flags} {st en : ℕ} (ps : Parts) (u : Tree) → t ≡ node ArrowFunctionExpression [] flags st en (push ps u) → OfLanguage s.text t → AllOfLanguage m.text ps
  own_parameters ps u tree own = subst (λ x. AllOfLanguage x ps) (sym text) (own_arrow ps u tree own).0

  inner_room : (o less levels tall : ℕ) → o ≡ suc less → levels ≤ tall → Room s o tall high → Room m less levels high
  inner_room o less levels tall more low room =
      let fits : o ≤ max_open - s.opened = room.0 in
      let below : tall ≤ high = room.1 in
      (omega arith, omega arith)

  arrow_low : (t : Tree) (flags : Flags) (st en : ℕ) (ps : Parts) (u : Tree) → t ≡ node ArrowFunctionExpression [] flags st en (push ps u) → parts_height ps ≤ height t
  arrow_low t flags st en ps u tree =
      let tall : height t ≡ suc (parts_height (push ps u)) = ap height tree in
      let all = parts_height-push ps u in
      omega arith

  -- the list is refused
  list_refuses : (k : CursorState) (newer : List Pair) (fault : Fault) → ListComplete m k mid newer high l (Err fault) → {o : ℕ} {t : Tree} {to : Token} {P : List Pair} {h : Rank} → ParenGiven s.text p o t m.last to P h → OfLanguage s.text t → Refuses (Room s o (height t) high) fault
  list_refuses k newer fault h {o} {t} {to} (a_group {less} {place} {Q} more d closes pairs quiet) own =
      let v = several_of s.text d in
      refuses_on (Room m less (parts_height v.parts) high) (Room s o (height t) high) fault (h as_expression less v.parts to Q (group_given v closes) (own_group v own)) (inner_room o less (parts_height v.parts) (height t) more v.low)
  list_refuses k newer fault h {o} {t} {to} (an_arrow {less} {flag} {ps} {u} {place} {x} {Q} {R} more tree tk pk d eq line spelled stops pairs) own =
      refuses_on (Room m less (parts_height ps) high) (Room s o (height t) high) fault (h (as_pattern true) less ps place Q (arrow_given d) (own_parameters ps u tree own)) (inner_room o less (parts_height ps) (height t) more (arrow_low t (arrow_flags flag) m.last.start to.stop ps u tree))

  pub paren_list_refused : (e k : CursorState) (new newer : List Pair) (result : Result Operand Fault) (fault : Fault) → IsErrAnd result (λ x. x ≡ fault) → ListComplete m k mid newer high l (Err fault) → ParenthesizedComplete s e old new high p result
  paren_list_refused e k new newer result fault is h = λ sees a y o t to P first own.
      agrees_err (Room s o (height t) high) (λ (r : Operand). IsFirst a y r t × EndsWith s e old new to P) result fault is (list_refuses k newer fault h (paren_given s.text sign first).1 own)

  module _ (k : CursorState) (newer : List Pair) (whole : ListOf) (listed_is : whole.listed ≡ listed.ParenthesizedItems) (h : ListComplete m k mid newer high l (Ok whole)) where
    -- the list was read
    pub record WholeList (a : Reading) (ps : Parts) (to : Token) (Q : List Pair) : Type 0 where
      pub fits : is_whole whole a ≡ true
      pub ends : EndsWith m k mid newer to Q
      pub lone : a ≡ as_expression → LoneRead whole

    nothing_lone : LoneRead l
    nothing_lone = let empty : l.nodes ≡ none = ap (λ (x : ListOf). x.nodes) begun in record { value = λ n e. cc; target = λ n e is. cc }

    group_whole : {less : ℕ} {t : Tree} {place e : Token} {Q : List Pair} (v : Several s.text less t m.last place Q) → ReadsHere s.text Punctuator (codes ")") place e → OfLanguage s.text t → WholeList as_expression v.parts e Q × (whole.nodes ≡ v.parts)
    group_whole {less} {t} {place} {e} {Q} v closes own =
        let w = h as_expression less v.parts e Q (group_given v closes) (own_group v own) in
        (record { fits = w.0; ends = w.2; lone = λ is. w.3 (ap (λ (x : ListOf). x.listed) begun) is nothing_lone }, w.1 ∙ ap (λ (x : ListOf). join x.nodes v.parts) begun)

    arrow_whole : {less : ℕ} {ps : Parts} {e : Token} {Q : List Pair} → RunsIn s.text less (parameter_list ps) ps m.last e Q → AllOfLanguage m.text ps → WholeList (as_pattern true) ps e Q × (pattern_parts 0 whole.nodes ≡ ps)
    arrow_whole {less} {ps} {e} {Q} d own =
        let w = h (as_pattern true) less ps e Q (arrow_given d) own in
        (record { fits = w.0; ends = w.2; lone = λ is. cc }, w.1 ∙ ap (λ (x : ListOf). join (pattern_parts 0 x.nodes) ps) begun)

    -- `=>` stands behind it on its line, and the position takes an arrow: it is one
    module _ (j : CursorState) (at_end : j.last ≡ k.last) (texts : j.text ≡ s.text) (arrow : Token) (seen : ReadsHere j.text Punctuator (codes "=>") j.last arrow) (line : arrow.after_break ≡ false) (taken : takes p.rank Assignment ≡ true) where
      no_group : {less : ℕ} {t : Tree} {place e : Token} {Q : List Pair} → SpellsIn s.text less (expr Expression true Any) t m.last place Q → ReadsHere s.text Punctuator (codes ")") place e →
          ((v : Token) → IsTrue (takes p.rank Assignment) → ReadsHere s.text Punctuator (codes "=>") e v → v.after_break ≡ false → ⊥) → OfLanguage s.text t → ⊥
      no_group {e = e} d closes quiet own =
          let v = several_of s.text d in
          let w = (group_whole v closes own).0 in
          let end : j.last ≡ e = at_end ∙ w.ends.place in
          quiet arrow taken (subst (λ x. ReadsHere s.text Punctuator (codes "=>") x arrow) end (subst (λ x. ReadsHere x Punctuator (codes "=>") j.last arrow) texts seen)) line

      -- its parameters are some
      parameters_refuse : (n : Parts) (at : ℕ) (fault : Fault) → Becomes n (is_bound whole.seen.shape) at (Err fault) → {o : ℕ} {t : Tree} {to : Token} {P : List Pair} {y : Rank} → ParenGiven s.text p o t m.last to P y → OfLanguage s.text t → Refuses (Room s o (height t) high) fault
      parameters_refuse n at fault made (a_group more d closes pairs quiet) own = absurd (no_group d closes quiet own)
      parameters_refuse n at fault made (an_arrow {ps = ps} {u = u} more tree tk pk d eq line spelled stops pairs) own = absurd (false≢true (sym made.1 ∙ whole_bound whole listed_is (arrow_whole d (own_parameters ps u tree own)).0.fits))

      pub paren_unbound : (e : CursorState) (new : List Pair) (result : Result Operand Fault) (fault : Fault) (n : Parts) (at : ℕ) → IsErrAnd result (λ x. x ≡ fault) → Becomes n (is_bound whole.seen.shape) at (Err fault) → ParenthesizedComplete s e old new high p result
      paren_unbound e new result fault n at is made = λ sees a y o t to P first own.
          agrees_err (Room s o (height t) high) (λ (r : Operand). IsFirst a y r t × EndsWith s e old new to P) result fault is (parameters_refuse n at fault made (paren_given s.text sign first).1 own)

      -- the arrow agrees
      arrow_agrees : (e : CursorState) (older new : List Pair) (parameters : Parts) (start : ℕ) (result : Result Operand Fault) → mid ≡ old ++ record { left = start; right = start } ∷ [] → older ≡ newer → j.opened ≡ s.opened → start ≡ m.last.start → parameters ≡ pattern_parts 0 whole.nodes →
          IfOk result (λ r. Adds j e older new (ArrowAt j.text form.Init p.has_in parameters start r)) → ArrowComplete j e older new high parameters start form.Init p.has_in result → {o : ℕ} {t : Tree} {to : Token} {P : List Pair} {y : Rank} → ParenGiven s.text p o t m.last to P y → OfLanguage s.text t →
          Agrees (Room s o (height t) high) (λ (r : Operand). IsFirst as_expression y r t × EndsWith s e old new to P) result
      arrow_agrees e older new parameters start result pushed same same_open begin given derived complete (a_group more d closes pairs quiet) own = absurd (no_group d closes quiet own)
      arrow_agrees e older new parameters start result pushed same same_open begin given derived complete {o} {t} {to} {P} {y} (an_arrow {less} {flag} {ps} {u} {place} {x} {Q} {R} more tree tk pk d eq on_line spelled stops pairs) own =
          let w = arrow_whole d (own_parameters ps u tree own) in
          let z = w.0.ends in
          let end : place ≡ j.last = sym (at_end ∙ z.place) in
          let params : parameters ≡ ps = given ∙ w.1 in
          let here : RunsIn s.text (suc less) (map (settle_piece Assignment p.has_in Any) (arrow_end (arrow_flags flag))) (part u none) place to R = arrow_runs s.text p.has_in flag eq on_line spelled in
          let runs : RunsIn j.text (suc less) (map (settle_piece Assignment p.has_in Any) (arrow_end (arrow_flags flag))) (part u none) j.last to R = subst (λ c. RunsIn c (suc less) (map (settle_piece Assignment p.has_in Any) (arrow_end (arrow_flags flag))) (part u none) j.last to R) (sym texts)
          (subst (λ c. RunsIn s.text (suc less) (map (settle_piece Assignment p.has_in Any) (arrow_end (arrow_flags flag))) (part u none) c to R) end here) in
          let made = node ArrowFunctionExpression [] (arrow_flags flag) start to.stop (push parameters u) in
          let answer = complete (arrow_flags flag) u (suc less) to R refl runs (λ c. subst (λ b. StopsIn b Assignment p.has_in u to) (sym texts) (stops c)) (subst (λ b. OfLanguage b u) (sym texts) (own_arrow ps u tree own).1) in
          let alike : made ≡ t = (λ i. node ArrowFunctionExpression [] (arrow_flags flag) (begin i) to.stop (push (params i) u)) ∙ sym tree in
          let levels : height made ≡ height t = ap height alike in
          let first : Pair = record { left = start; right = start } in
          agrees_as (Room j (suc less) (height made) high) (Room s o (height t) high) (λ r. Adds j e older new (ArrowAt j.text form.Init p.has_in parameters start r)) (λ r. (r.cover.node ≡ made) × EndsWith j e older new to R) (λ r. IsFirst as_expression y r t × EndsWith s e old new to P) result derived answer
          (λ room. let fits : o ≤ max_open - s.opened = room.0 in let below : height t ≤ high = room.1 in (omega arith, omega arith))
          (λ r a v. (
            record {
              read = record {
                fits = a.is.simple.0;
                tree = v.0 ∙ alike;
                target = λ c. absurd (false≢true (sym (ap (λ (n : Tree). is_simple (kind_of n)) tree) ∙ c));
                pattern = λ b c k. cc;
              };
              taken = subst (λ c. IsTrue (takes y c)) (sym a.is.rank) tk;
              alone = λ b c. cc;
            },
            record {
              place = v.1.place;
              more = first ∷ (z.more ++ v.1.more);
              added = v.1.added ∙ ap (λ c. c ++ v.1.more) (same ∙ z.added ∙ ap (λ c. c ++ z.more) pushed ∙ append_assoc old (first ∷ []) z.more) ∙ append_assoc old (first ∷ z.more) v.1.more;
              pairs = none_groups start (z.more ++ v.1.more) ∙ grouping_both z.more v.1.more ∙ (λ i. z.pairs i ++ v.1.pairs i) ∙ sym pairs;
            },
          ))

      pub paren_arrow_done : (e : CursorState) (older new : List Pair) (parameters : Parts) (start : ℕ) (result : Result Operand Fault) → mid ≡ old ++ record { left = start; right = start } ∷ [] → older ≡ newer → j.opened ≡ s.opened → start ≡ m.last.start → parameters ≡ pattern_parts 0 whole.nodes →
          IfOk result (λ r. Adds j e older new (ArrowAt j.text form.Init p.has_in parameters start r)) → ArrowComplete j e older new high parameters start form.Init p.has_in result → ParenthesizedComplete s e old new high p result
      paren_arrow_done e older new parameters start result pushed same same_open begin given derived complete = λ sees a y o t to P first own.
          let g = paren_given s.text sign first in
          subst (λ c. Agrees (Room s o (height t) high) (λ (r : Operand). IsFirst c y r t × EndsWith s e old new to P) result) (sym g.0) (arrow_agrees e older new parameters start result pushed same same_open begin given derived complete g.1 own)

    -- Behind it no arrow goes on: it is a group.
    module _ (quiet : (v : Token) → ReadsHere s.text Punctuator (codes "=>") k.last v → v.after_break ≡ false → IsTrue (takes p.rank Assignment) → ⊥) where
      group_agrees : (e : CursorState) (new : List Pair) (At : ℕ → Type 0) (result : Result Operand Fault) → YieldsWhere (list_group whole) At (is_grouped whole) (group_levels whole.nodes) high result → IfOk result (λ r. Adds s e old new (ReadAt s.text p r)) →
          {o : ℕ} {t : Tree} {to : Token} {P : List Pair} {y : Rank} → ParenGiven s.text p o t m.last to P y → OfLanguage s.text t → Agrees (Room s o (height t) high) (λ (r : Operand). IsFirst as_expression y r t × EndsWith s e old new to P) result
      group_agrees e new At result made derived (an_arrow {ps = ps} {u = u} {place = place} {x = x} more tree tk pk d eq line spelled stops pairs) own =
          absurd (quiet x (subst (λ c. ReadsHere s.text Punctuator (codes "=>") c x) (sym (arrow_whole d (own_parameters ps u tree own)).0.ends.place) eq) line pk)
      group_agrees e new At (Err fault) made derived {o} {t} (a_group more d closes pairs no_sign) own =
          let v = several_of s.text d in
          let w = group_whole v closes own in
          let low : group_levels v.parts ≤ height t = v.levels in
          let same : group_levels whole.nodes ≡ group_levels v.parts = ap group_levels w.1 in
          refuses_where (Room s o (height t) high) At (is_grouped whole) (group_levels whole.nodes) high fault made (whole_group whole listed_is w.0.fits) (λ room. let below : height t ≤ high = room.1 in omega arith)
      group_agrees e new At (Ok r) made derived {o} {t} {to} {P} {y} (a_group {less} {place} {Q} more d closes pairs no_sign) own =
          let v = several_of s.text d in
          let w = group_whole v closes own in
          let lone = w.0.lone refl in
          let part_is : r ≡ list_group whole = made.0 in
          let value : r.cover.shape.is_expression ≡ true = ap (λ (x : Operand). x.cover.shape.is_expression) part_is ∙ group_value whole lone whole.nodes refl in
          let rank : r.rank ≡ Grouped = ap (λ (x : Operand). x.rank) part_is in
          let given : SpellsIn s.text o (expr Grouped p.has_in p.start) t s.last to P = subst (λ x. SpellsIn s.text x (expr Grouped p.has_in p.start) t s.last to P) (sym more) (subst (λ x. SpellsIn s.text (suc less) (expr Grouped p.has_in p.start) t s.last to x) (sym pairs) (grouped sign d closes)) in
          let read = derived.is.part.stands value Grouped p.has_in (subst (λ x. IsTrue (takes Grouped x)) (sym rank) refl) (λ c. refl) in
          let same = group_once s.text {i = p.has_in} {i' = p.has_in} {f = p.start} {f' = p.start} given read in (
            record {
              read = record {
                fits = value;
                tree = same.1;
                target = λ c. ap (λ (x : Operand). is_target x.cover.shape.assigned) part_is ∙ group_target whole lone whole.nodes refl whole.inside.start whole.inside.end (ap (λ (x : Operand). is_simple (kind_of x.cover.node)) (sym part_is) ∙ ap (λ x. is_simple (kind_of x)) same.1 ∙ c);
                pattern = λ b c k. cc;
              };
              taken = subst (λ x. IsTrue (takes y x)) (sym rank) (takes_group y);
              alone = λ b c. cc;
            },
            record { place = same.0; more = derived.more; added = derived.pairs; pairs = same.2 },
          )

      pub paren_group_done : (e : CursorState) (new : List Pair) (At : ℕ → Type 0) (result : Result Operand Fault) → YieldsWhere (list_group whole) At (is_grouped whole) (group_levels whole.nodes) high result → IfOk result (λ r. Adds s e old new (ReadAt s.text p r)) → ParenthesizedComplete s e old new high p result
      paren_group_done e new At result made derived = λ sees a y o t to P first own.
          let g = paren_given s.text sign first in
          subst (λ c. Agrees (Room s o (height t) high) (λ (r : Operand). IsFirst c y r t × EndsWith s e old new to P) result) (sym g.0) (group_agrees e new At result made derived g.1 own)

-- what stands at the `(`, and the list that begins behind it
pub opened_here : (s0 s1 s2 : CursorState) (l : ListOf) → s1.text ≡ s0.text → s1.last ≡ s0.last → l.listed ≡ listed.ParenthesizedItems → BegunAt s1 s2 l → ReadsHere s0.text Punctuator (codes "(") s0.last s2.last × (l ≡ list_from listed.ParenthesizedItems l.span.start)
opened_here s0 s1 s2 l text last is begun =
    let here = begun.1 (codes "(") (ap opening is) in
    (subst (λ x. ReadsHere x Punctuator (codes "(") s0.last s2.last) text (subst (λ x. ReadsHere s1.text Punctuator (codes "(") x s2.last) last here.0), here.1 ∙ ap (λ x. list_from x l.span.start) is)

-- no `=>` stands there on its line
pub arrow_missed : (s k j : CursorState) → j.last ≡ k.last → j.text ≡ s.text → ((t e : Token) → Reads Token (SeenNext j.text) (behind_in j.text) Punctuator (codes "=>") j.last t e → t.after_break ≡ true) → (v : Token) → ReadsHere s.text Punctuator (codes "=>") k.last v → v.after_break ≡ false → ⊥
arrow_missed s k j last text missed v eq line =
    let there : ReadsHere j.text Punctuator (codes "=>") j.last v = subst (λ x. ReadsHere x Punctuator (codes "=>") j.last v) (sym text) (subst (λ x. ReadsHere s.text Punctuator (codes "=>") x v) (sym last) eq) in
    false≢true (sym line ∙ missed (behind_in j.text v) v there)
