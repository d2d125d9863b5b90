-- Parentheses, from the one that opens them to what is made of them (ECMA-262 12.2.10, 14.2).
use Rattle.std.proofs.Common.{◌≡◌, ℕ, suc, ◌+◌, ◌-◌, ◌<◌, ◌≤◌, arith, Bool, true, false, cond, List, [], ◌∷◌, ◌++◌, length, refl, sym, ap, ◌∙◌, subst, append_assoc, Result, Ok, Err}
use Rattle.std.specs.Prelude.{IsTrue, Some, None, codes, map, set, not, ◌&&◌, nat_lt}
use Rattle.std.specs.Result.{IfOk}
use Rattle.std.proofs.lemmas.Bool.{false≢true}
use Rattle.std.proofs.lemmas.Bool.Decides.{nat_tests}
use Rattle.std.proofs.lemmas.List.{length-append, set_at}
use Rattle.source_text.specs.declared.fault.Fault.{Fault}
use Rattle.tokens.specs.declared.token.TokenClass.TheVariants.{Punctuator}
use Rattle.tokens.specs.declared.token.Goal.TheVariants.{RegExp}
use Rattle.token_cursor.specs.CursorState.{CursorState}
use Rattle.tree.specs.declared.kind.Kind.TheVariants.{ArrowFunctionExpression}
use Rattle.tree.specs.declared.kind.Pair.{Pair}
use Rattle.tree.specs.Tree.{Tree, node, Parts, none, part, gap, push, join, bare, bare_parts, height, parts_height}
use Rattle.tree.specs.Uses.{is_lean}
use Rattle.covers.specs.declared.list.ListKind.TheVariants as listed
use Rattle.covers.specs.declared.list.ListBuilder.{ListBuilder as ListOf}
use Rattle.covers.specs.Lists.{opening, closing}
use Rattle.tree.specs.Patterns.{pattern_parts}
use Rattle.covers.specs.Shapes.{is_bound, is_element}
use Rattle.language.specs.declared.Rank.{Rank}
use Rattle.language.specs.declared.Rank.TheVariants.{Expression, Assignment, New}
use Rattle.language.specs.declared.Start.{Start}
use Rattle.language.specs.declared.Start.TheVariants.{Any, NoBrace, Statement}
use Rattle.language.specs.Vocabulary.{takes}
use Rattle.language.specs.Covers.{as_expression, as_pattern}
use Rattle.language.specs.Pieces.{Role, expr, Piece, at, settle_piece, sign, listed as listing, open_parameters, close_parameters, parameters, pattern_element}
use Rattle.language.specs.Token.{Token}
use Rattle.language.specs.Expressions.{arrow_end}
use Rattle.language.specs.Grammar.{starts}
use Rattle.language.specs.Promises.{ReadBy}
use Rattle.language.specs.Derivation.{opened, closed, token, pair_of}
use Rattle.language.proofs.table.NodeForms.{arrow}
use Rattle.language.specs.Claims.{max_open}
use Rattle.language.proofs.table.Begins.{goes_to}
use Rattle.language.proofs.climbing.Groups.{takes_group}
use Rattle.language.proofs.list_loops.ParameterLists.{parameter_list, Closer, parameters_join}
use Rattle.language.proofs.table.Productions.{spell}
use Rattle.language.proofs.list_loops.FirstPieces.{run_closed}
use Rattle.token_cursor.proofs.SeenTokens.{seen_determined}
use Rattle.parser_tables.specs.declared.operand.Operand.{Operand}
use Rattle.parser_tables.specs.declared.expression_context.ExpressionContext.{ExpressionContext}
use Rattle.recursive_descent.specs.Soundness.{RunsIn, Adds, Begins, fits_as, bare_role, PartAt, ReadAt, ArrowAt, grouping}
use Rattle.recursive_descent.specs.SoundnessOfLists.{ListAt, SoFarAt, SeenRight, ClosedBy, is_whole, whole_of, stood_in, item_pieces}
use Rattle.recursive_descent.specs.Follows.{BegunAt}
use Rattle.parser_tables.specs.Items.{group_node, group_levels, is_grouped, are_some, list_group, list_from}
use Rattle.parser_tables.specs.Outcomes.{BeginsBy, YieldsWhere}
use Rattle.token_cursor.specs.CursorState.{IsPlaceHere}
use Rattle.token_cursor.specs.Seen.{ReadsHere}
use Rattle.recursive_descent.proofs.sound_expressions.ArrowFunctions.{join_one, flagged}
use Rattle.recursive_descent.proofs.reading.AddedPairs.{runs_on, grouping_both}
use Rattle.recursive_descent.proofs.reading.Forward.{begins_mark, mark_long, next_forward, runs_forward, place_mark}
use Rattle.recursive_descent.proofs.sound_expressions.GroupContents.{group_list, listed_bare, element_bare, goes_on, assignment_minds, and_three}
use Rattle.recursive_descent.proofs.sound_expressions.ExpressionParts.{placed_at}
use Rattle.token_cursor.specs.SourceText.{SourceText, SeenNext, behind_in}
use Rattle.recursive_descent.specs.Spelled.{SpellsIn}
use Rattle.tree.specs.declared.kind.Form.{Form}
use Rattle.tree.specs.declared.kind.Form.TheVariants as form

-- what is made, where it fits
pub yields_ok : {X : Type 0} (x : X) (At : ℕ → Type 0) (fits : Bool) (levels high : ℕ) (B : X → Type 0) (r : Result X Fault) → YieldsWhere x At fits levels high r → (fits ≡ true → levels ≤ high → B x) → IfOk r B
yields_ok x At fits levels high B (Ok made) h f = subst B (sym h.0) (f h.1 h.2)
yields_ok x At fits levels high B (Err fault) h f = tt

pub ok_map : {X E : Type 0} (A B : X → Type 0) (r : Result X E) → IfOk r A → ((x : X) → A x → B x) → IfOk r B
ok_map A B (Ok x) h f = f x h
ok_map A B (Err e) h f = tt

-- nothing of what parentheses hold so far
covers_so_far : (text : SourceText) (from o : ℕ) (m : Token) → SoFarAt text Any (list_from listed.ParenthesizedItems from) o m m []
covers_so_far text from o m as_expression fits = λ ps e Q d. d
covers_so_far text from o m (as_pattern b) fits = λ ps e Q d. d

covers_seen : (from : ℕ) → SeenRight (list_from listed.ParenthesizedItems from)
covers_seen from = record { together = refl; target = λ n is h v t. cc; one_default = refl }

-- What was read from the opening parenthesis to the closing one.
pub record InParens (text : SourceText) (s m e : Token) (less : ℕ) (l : ListOf) (old new : List Pair) : Type 0 where
  pub more : List Pair
  pub pairs : new ≡ old ++ more
  pub left : ReadsHere text Punctuator (codes "(") s m
  pub span : l.span.start ≡ m.start
  pub is : l.listed ≡ listed.ParenthesizedItems
  pub right : SeenRight l
  pub inner : (t k : Token) → ReadBy Token (SeenNext text) (behind_in text) RegExp m t k → l.inside.start ≡ t.start
  pub list : ListAt text Any l less m e (grouping more)

pub in_parens : (s0 s1 s2 s3 : CursorState) {p1 p2 p3 : List Pair} (l0 l : ListOf) → s1.text ≡ s0.text → s1.last ≡ s0.last → s2.text ≡ s1.text → s2.opened ≡ s1.opened → p2 ≡ p1 → l0.listed ≡ listed.ParenthesizedItems → BegunAt s1 s2 l0 →
    Adds s2 s3 p2 p3 (λ o a b Q. (f : Start) (z : Token) (P : List Pair) → SoFarAt s2.text f l0 o z a P → ListAt s2.text f l o z b (P ++ Q)) → (l.listed ≡ l0.listed) × (l.span.start ≡ l0.span.start) → (SeenRight l0 → SeenRight l) → (l0.listed ≡ listed.ParenthesizedItems → BeginsBy s2 l.inside.start) →
    InParens s0.text s0.last s2.last s3.last (max_open - s1.opened) l p1 p3 × (s3.opened ≡ s1.opened)
in_parens s0 s1 s2 s3 l0 l text last text2 opened2 same is begun a kept seen inner =
    let here = begun.1 (codes "(") (ap opening is) in
    let empty : l0 ≡ list_from listed.ParenthesizedItems l0.span.start = here.1 ∙ ap (λ x. list_from x l0.span.start) is in
    let texts : s2.text ≡ s0.text = text2 ∙ text in
    let d : ListAt s2.text Any l (max_open - s2.opened) s2.last s3.last (grouping a.more) = a.is Any s2.last [] (subst (λ k. SoFarAt s2.text Any k (max_open - s2.opened) s2.last s2.last []) (sym empty) (covers_so_far s2.text l0.span.start (max_open - s2.opened) s2.last)) in (
      record {
        more = a.more;
        pairs = a.pairs ∙ ap (λ x. x ++ a.more) same;
        left = subst (λ x. ReadsHere x Punctuator (codes "(") s0.last s2.last) text (subst (λ x. ReadsHere s1.text Punctuator (codes "(") x s2.last) last here.0);
        span = kept.1 ∙ place_mark s1 begun.0 here.0;
        is = kept.0 ∙ is;
        right = seen (subst SeenRight (sym empty) (covers_seen l0.span.start));
        inner = subst (λ x. (t k : Token) → ReadBy Token (SeenNext x) (behind_in x) RegExp s2.last t k → l.inside.start ≡ t.start) texts (inner is);
        list = subst (λ x. ListAt x Any l (max_open - s1.opened) s2.last s3.last (grouping a.more)) texts (subst (λ x. ListAt s2.text Any l (max_open - x) s2.last s3.last (grouping a.more)) opened2 d);
      },
      a.same_open ∙ opened2,
    )

pub none_groups : (x : ℕ) (ps : List Pair) → grouping (record { left = x; right = x } ∷ ps) ≡ grouping ps
none_groups x ps = let h : nat_lt x x ≡ false = grind (arith, nat_tests) in ap (λ b. cond b (record { left = x; right = x } ∷ grouping ps) (grouping ps)) h

-- the place of a pair is one of theirs
pub pair_place : (old more p1 p3 : List Pair) (x : Pair) (place : ℕ) → p3 ≡ p1 ++ more → p1 ≡ old ++ x ∷ [] → place ≡ length old → place < length p3
pair_place old more p1 p3 x place h k e =
    let a : length p3 ≡ length p1 + length more = ap length h ∙ length-append p1 more in
    let b : length p1 ≡ length old + length (x ∷ []) = ap length k ∙ length-append old (x ∷ []) in
    omega arith

some_groups : (p : Pair) (ps : List Pair) → p.left < p.right → grouping (p ∷ ps) ≡ p ∷ grouping ps
some_groups p ps l = let h : nat_lt p.left p.right ≡ true = grind (arith, nat_tests) in ap (λ b. cond b (p ∷ grouping ps) (grouping ps)) h

-- a group
pub group_read : (s0 s1 e : CursorState) {old p1 p3 new : List Pair} {m k : Token} (l : ListOf) (p : ExpressionContext) (place start end : ℕ) → s0.opened < max_open → s1.opened ≡ s0.opened + 1 → IsPlaceHere s0 start → p1 ≡ old ++ record { left = start; right = start } ∷ [] → InParens s0.text s0.last m k (max_open - s1.opened) l p1 p3 →
    e.last ≡ k → e.opened ≡ s0.opened → end ≡ k.stop - 1 → length old ≡ place → new ≡ set p3 place (record { left = start; right = end }) → is_grouped l ≡ true → Adds s0 e old new (ReadAt s0.text p (list_group l))
group_read s0 s1 e {old} {p1} {p3} {new} {m} {k} l p place start end room more_open here pushed w last open_same ends long closed_pair fits =
    let text = s0.text in
    let begin : start ≡ m.start = place_mark s0 here w.left in
    let whole : is_whole l as_expression ≡ true = ap (λ x. whole_of x l as_expression) w.is ∙ and_three (are_some l.nodes) (not l.seen.has_comma) l.seen.shape.is_expression fits in
    let right_sign : ReadsHere text Punctuator (codes ")") w.list.mid k = subst (λ x. ClosedBy text (closing x) w.list.mid k) w.is w.list.closes in
    let one : m.stop ≡ m.start + 1 = mark_long text w.left in
    let two : k.stop ≡ k.start + 1 = mark_long text right_sign in
    let inside : m.stop ≤ w.list.mid.stop = runs_forward text (w.list.runs as_expression whole) in
    let behind = (next_forward text right_sign.next).0 in
    let end_is : end ≡ k.start = omega arith in
    let wide : start < end = omega arith in
    let pair : Pair = record { left = start; right = end } in
    let same_pair : pair ≡ pair_of m k = λ i. record { left = begin i; right = end_is i } in
    let before : p3 ≡ old ++ record { left = start; right = start } ∷ w.more = w.pairs ∙ ap (λ x. x ++ w.more) pushed ∙ append_assoc old (record { left = start; right = start } ∷ []) w.more in
    let levels : max_open - s0.opened ≡ suc (max_open - s1.opened) = omega arith in
    let group : PartAt text p.has_in p.start (list_group l) (suc (max_open - s1.opened)) s0.last k (pair_of m k ∷ grouping w.more) = group_list text l w.is fits w.right w.span w.inner w.left w.list in
    let all : pair_of m k ∷ grouping w.more ≡ grouping (pair ∷ w.more) = ap (λ x. x ∷ grouping w.more) (sym same_pair) ∙ sym (some_groups pair w.more wide) in
    record {
      more = pair ∷ w.more;
      same_open = open_same;
      pairs = closed_pair ∙ ap (λ x. set x place pair) before ∙ set_at old (record { left = start; right = start }) w.more pair place long;
      is = record {
        taken = λ h. takes_group p.rank;
        part = subst (λ x. PartAt text p.has_in p.start (list_group l) (max_open - s0.opened) s0.last x (grouping (pair ∷ w.more))) (sym last)
            (subst (λ x. PartAt text p.has_in p.start (list_group l) x s0.last k (grouping (pair ∷ w.more))) (sym levels)
            (subst (λ x. PartAt text p.has_in p.start (list_group l) (suc (max_open - s1.opened)) s0.last k x) all group));
      };
    }

-- and no higher than its parts
pub group_low : (ps : Parts) (start end high : ℕ) → parts_height ps ≤ high → group_levels ps ≤ high → height (group_node ps start end) ≤ high
group_low none start end high a b = b
group_low (gap ps) start end high a b = b
group_low (part n none) start end high a b = omega arith
group_low (part n (part k ps)) start end high a b = b
group_low (part n (gap ps)) start end high a b = b

-- no items are of no height
pub first_low : (s e : CursorState) (l : ListOf) (high : ℕ) → l.listed ≡ listed.ParenthesizedItems → BegunAt s e l → parts_height l.nodes ≤ high
first_low s e l high is begun =
    let flat : parts_height l.nodes ≡ 0 = ap (λ (x : ListOf). parts_height x.nodes) (begun.1 (codes "(") (ap opening is)).1 in
    omega arith

module _ (text : SourceText) where
  -- an arrow, from what spells it
  pub arrow_part : {x : Form} {i : Bool} {f : Start} {ps : Parts} {from o o' : ℕ} {r : Operand} {s k e : Token} {P Q : List Pair} → ArrowAt text x i ps from r o' k e Q → Begins text from s →
      ((n u : Tree) (b : Bool) (h : Rank) (j : Bool) → n ≡ node ArrowFunctionExpression [] (flagged x b) from e.stop (push ps u) → IsTrue (takes h Assignment) → j ≡ i → RunsIn text o' (map (settle_piece Assignment j Any) (arrow_end (flagged x b))) (part u none) k e Q → SpellsIn text o (expr h j f) n s e P) →
      ((t x : Token) → SeenNext text k t x → t.after_break ≡ false) → PartAt text i f r o s e P
  arrow_part {x} {i} {f} {ps} {from} {o} {r = r} {s} {k} {e} {P} w begins spelled line = record {
    begins = subst (λ at. Begins text at s) (sym w.start) begins;
    edge = w.edge;
    goes_on = w.goes_on;
    stands = λ v h j tk lo. let tk' : IsTrue (takes h Assignment) = subst (λ y. IsTrue (takes h y)) w.rank tk in
        let same : j ≡ i = lo (assignment_minds h tk') in
        spelled r.cover.node w.body w.flags.expression h j (w.tree ∙ ap (λ g. node ArrowFunctionExpression [] g from e.stop (push ps w.body)) w.lean) tk' same (w.runs line j same);
    assigned = λ b fits d. nothing b (r.cover.shape.binds) fits;
    bare = λ a h is. no_name (sym is ∙ ap bare_role w.tree);
    newly = λ h. no_new (sym w.rank ∙ h);
  }
    where
      no_name : {A : Type 0} {a : Role} → Some a ≡ None → A
      no_name h = cc

      no_new : {A : Type 0} → Assignment ≡ New → A
      no_new h = cc

      no_both : (b : Bool) → (b && false) ≡ true → ⊥
      no_both true h = absurd (false≢true h)
      no_both false h = absurd (false≢true h)

      nothing : {A : Type 0} (b c : Bool) → fits_as r.cover.shape (as_pattern b) ≡ true → A
      nothing true c h = absurd (no_both r.cover.shape.binds (ap (λ x. r.cover.shape.binds && is_element x) (sym w.simple.1) ∙ h))
      nothing false c h = absurd (false≢true (ap is_element (sym w.simple.1) ∙ h))

  arrow_closer : (y : Rank) (i : Bool) (f : Start) (o : ℕ) → Closer Token (SeenNext text) (behind_in text) y i f o (suc o) close_parameters
  arrow_closer y i f o = record { opens = λ d. (let u = run_closed Token (SeenNext text) (behind_in text) d in (u.sign, u.mid, u.reads, u.runs)); closes = λ h d. closed h d }

  starts_parameters : (f : Start) (qs : List Piece) → IsTrue (starts f (open_parameters ∷ qs))
  starts_parameters Any qs = refl
  starts_parameters NoBrace qs = refl
  starts_parameters Statement qs = refl

  pub lean_arrow : (x : Form) (b : Bool) (st en : ℕ) (ps : Parts) → is_lean (bare (node ArrowFunctionExpression [] (flagged x b) st en ps)) ≡ true
  lean_arrow x b st en ps = of x b
    where
      of : (x : Form) (b : Bool) → is_lean (bare (node ArrowFunctionExpression [] (flagged x b) st en ps)) ≡ true
      of form.Init true = refl
      of form.Init false = refl
      of _ true = refl
      of _ false = refl

  -- what follows the parameters is the same at each symbol and start
  pub end_same : (h : Rank) (j : Bool) (f : Start) (x : Form) (b : Bool) → map (settle_piece Assignment j Any) (arrow_end (flagged x b)) ≡ goes_to h j f (arrow_end (flagged x b))
  end_same h j f x true = refl
  end_same h j f x false = refl

  -- parameters with their closing parenthesis
  pub parameters_at : {o : ℕ} (ps : Parts) {m k e : Token} {P : List Pair} → RunsIn text o (map (settle_piece Expression true Any) (listing (pattern_element true) ps)) ps m k P → ReadsHere text Punctuator (codes ")") k e → RunsIn text o (parameter_list ps) ps m e P
  parameters_at {o} ps {m} {k} {e} {P} d close =
      let names : listing (pattern_element true) ps ≡ listing (pattern_element true) (bare_parts ps) = sym (listed_bare (pattern_element true) (element_bare true) ps) in
      subst (λ qs. RunsIn text o qs ps m e P) (sym (goes_on Expression true Any (listing (pattern_element true) (bare_parts ps)) (sign ")" ∷ [])))
      (runs_on text (subst (λ qs. RunsIn text o (goes_to Expression true Any qs) ps m k P) names d) (token close))

  -- an arrow with its parameters in parentheses
  paren_arrow : {i : Bool} {f : Start} (ps : Parts) {from o : ℕ} {r : Operand} {s m k e : Token} {P Q : List Pair} → from ≡ m.start → ReadsHere text Punctuator (codes "(") s m → RunsIn text o (parameter_list ps) ps m k P → ArrowAt text form.Init i ps from r (suc o) k e Q →
      ((t x : Token) → SeenNext text k t x → t.after_break ≡ false) → PartAt text i f r (suc o) s e (P ++ Q)
  paren_arrow {i} {f} ps {from} {o} {r} {s} {m} {k} {e} {P} {Q} begin left d w line =
      let begins = begins_mark text begin left in
      arrow_part w begins (λ n u b h j tree tk same runs.
      let g = flagged form.Init b in
      subst (λ x. SpellsIn text (suc o) (expr h j f) x s e (P ++ Q)) (sym (tree ∙ ap (node ArrowFunctionExpression [] g from e.stop) (sym (join_one ps u))))
      (spell Token (SeenNext text) (behind_in text) (at Assignment (open_parameters ∷ parameters (close_parameters ∷ arrow_end g) (bare_parts (join ps (part u none))))) arrow
      (lean_arrow form.Init b from e.stop (join ps (part u none))) tk refl (starts_parameters f (parameters (close_parameters ∷ arrow_end g) (bare_parts (join ps (part u none))))) (placed_at text begins)
      (opened left (parameters_join Token (SeenNext text) (behind_in text) (arrow_end g) (arrow_closer h j f o) ps d (subst (λ qs. RunsIn text (suc o) qs (part u none) k e Q) (end_same h j f form.Init b) runs))))) line

-- an arrow with its parameters in parentheses, whole
pub arrow_read : (s0 s1 k e : CursorState) {old p1 p3 p4 new : List Pair} {m : Token} (l : ListOf) (p : ExpressionContext) (ps : Parts) (start : ℕ) (r : Operand) (t : Token) → s0.opened < max_open → s1.opened ≡ s0.opened + 1 → IsPlaceHere s0 start → p1 ≡ old ++ record { left = start; right = start } ∷ [] →
    InParens s0.text s0.last m k.last (max_open - s1.opened) l p1 p3 → k.text ≡ s0.text → k.opened ≡ s0.opened → p4 ≡ p3 → ps ≡ pattern_parts 0 l.nodes → is_bound l.seen.shape ≡ true → ReadsHere k.text Punctuator (codes "=>") k.last t → t.after_break ≡ false → takes p.rank Assignment ≡ true →
    Adds k e p4 new (ArrowAt k.text form.Init p.has_in ps start r) → Adds s0 e old new (ReadAt s0.text p r)
arrow_read s0 s1 k e {old} {p1} {p3} {p4} {new} {m} l p ps start r t room more_open here pushed w texts open_same same given bound sign line tk a =
    let text = s0.text in
    let begin : start ≡ m.start = place_mark s0 here w.left in
    let levels : max_open - s0.opened ≡ suc (max_open - s1.opened) = omega arith in
    let whole : is_whole l (as_pattern true) ≡ true = ap (λ x. whole_of x l (as_pattern true)) w.is ∙ ap (λ b. (true && b) && true) bound in
    let runs : RunsIn text (max_open - s1.opened) (stood_in Any listed.ParenthesizedItems (item_pieces listed.ParenthesizedItems (as_pattern true) (pattern_parts 0 l.nodes))) (pattern_parts 0 l.nodes) m w.list.mid (grouping w.more) =
    subst (λ x. RunsIn text (max_open - s1.opened) (stood_in Any x (item_pieces x (as_pattern true) (pattern_parts 0 l.nodes))) (pattern_parts 0 l.nodes) m w.list.mid (grouping w.more)) w.is (w.list.runs (as_pattern true) whole) in
    let close : ReadsHere text Punctuator (codes ")") w.list.mid k.last = subst (λ x. ClosedBy text (closing x) w.list.mid k.last) w.is w.list.closes in
    let d : RunsIn text (max_open - s1.opened) (parameter_list ps) ps m k.last (grouping w.more) = subst (λ x. RunsIn text (max_open - s1.opened) (parameter_list x) x m k.last (grouping w.more)) (sym given) (parameters_at text (pattern_parts 0 l.nodes) runs close) in
    let v : ArrowAt text form.Init p.has_in ps start r (suc (max_open - s1.opened)) k.last e.last (grouping a.more) = subst (λ x. ArrowAt x form.Init p.has_in ps start r (suc (max_open - s1.opened)) k.last e.last (grouping a.more)) texts
    (subst (λ x. ArrowAt k.text form.Init p.has_in ps start r x k.last e.last (grouping a.more)) levels (subst (λ x. ArrowAt k.text form.Init p.has_in ps start r (max_open - x) k.last e.last (grouping a.more)) open_same a.is)) in
    let here_sign : ReadsHere text Punctuator (codes "=>") k.last t = subst (λ x. ReadsHere x Punctuator (codes "=>") k.last t) texts sign in
    let on_line : (u x : Token) → SeenNext text k.last u x → u.after_break ≡ false = λ u x n. (seen_determined text).break k.last u (behind_in text t) x t n here_sign.next ∙ line in
    let read : PartAt text p.has_in p.start r (suc (max_open - s1.opened)) s0.last e.last (grouping w.more ++ grouping a.more) = paren_arrow text ps begin w.left d v on_line in
    let first : Pair = record { left = start; right = start } in
    let all : grouping w.more ++ grouping a.more ≡ grouping (first ∷ (w.more ++ a.more)) = sym (none_groups start (w.more ++ a.more) ∙ grouping_both w.more a.more) in
    record {
      more = first ∷ (w.more ++ a.more);
      same_open = a.same_open ∙ open_same;
      pairs = a.pairs ∙ ap (λ x. x ++ a.more) (same ∙ w.pairs ∙ ap (λ x. x ++ w.more) pushed ∙ append_assoc old (first ∷ []) w.more) ∙ append_assoc old (first ∷ w.more) a.more;
      is = record {
        taken = λ h. subst (λ x. IsTrue (takes p.rank x)) (sym v.rank) tk;
        part = subst (λ x. PartAt text p.has_in p.start r x s0.last e.last (grouping (first ∷ (w.more ++ a.more)))) (sym levels) (subst (λ x. PartAt text p.has_in p.start r (suc (max_open - s1.opened)) s0.last e.last x) all read);
      };
    }
