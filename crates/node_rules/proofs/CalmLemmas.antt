-- Where nothing leaves a finalizer and values are used, most nodes change no more of what stands round than the parent.
use Rattle.std.proofs.Common.{◌≡◌, Bool, true, false, refl, sym}
use Rattle.std.specs.Prelude.{◌&&◌, ◌||◌, not, cond, nat_eq}
use Rattle.std.proofs.lemmas.Bool.{and_parts, false≢true, not-true}
use Rattle.tree.specs.declared.kind.Kind.{Kind}
use Rattle.tree.specs.declared.kind.Kind.TheVariants.{ArrowFunctionExpression, BinaryExpression, ClassBody, ClassDeclaration, ClassExpression, FunctionDeclaration, FunctionExpression, ReturnStatement, TryStatement, VariableDeclaration}
use Rattle.tree.specs.declared.kind.Flags.{Flags}
use Rattle.tree.specs.Kinds.{is_loop}
use Rattle.tree.specs.Tree.{Tree, node, kind_of, flags_of}
use Rattle.node_rules.specs.declared.around.Around.{Around}
use Rattle.node_rules.specs.declared.around.Ending.{Ending}
use Rattle.node_rules.specs.declared.around.Ending.TheVariants.{GivenBack, Guarded, Used}
use Rattle.node_rules.specs.declared.around.Jumps.{Jumps}
use Rattle.node_rules.specs.declared.around.Jumps.TheVariants.{Breaks, Continues, NoJumps, Returns}
use Rattle.node_rules.specs.declared.around.Remark.TheVariants.{NoRemark}
use Rattle.node_rules.specs.Arounds.{ending_inside, hands_out, has_returns, in_loop, in_switch, inside, is_finalized_remark, is_given_back, is_guarded, is_returned, remark_inside, setter_inside, used}
use Rattle.node_rules.specs.Calm.{changes_around, is_calm, is_used, keeps_around}
use Rattle.node_rules.specs.KindSets.{ends_jumps, is_labelled, is_switch, is_try}

calm-jumps : (try : Bool) (n : Bool) (jumps : Jumps) (ends loop switch : Bool) (label used : Bool) →
    ((not try && not (has_returns jumps)) && (not label && used)) ≡ true → NoJumps ≡ cond (try && n) Breaks (cond ends NoJumps (cond loop (in_loop jumps) (cond switch (in_switch jumps) jumps)))
calm-jumps true n jumps ends loop switch label used c = absurd (false≢true c)
calm-jumps false n Returns ends loop switch label used c = absurd (false≢true c)
calm-jumps false n Continues ends loop switch label used c = absurd (false≢true c)
calm-jumps false n Breaks ends loop switch label used c = absurd (false≢true c)
calm-jumps false n NoJumps true loop switch label used c = refl
calm-jumps false n NoJumps false true switch label used c = refl
calm-jumps false n NoJumps false false true label used c = refl
calm-jumps false n NoJumps false false false label used c = refl

calm-labels : (try : Bool) (n : Bool) (jumps : Bool) (label used : Bool) (stays : Bool) → ((not try && not jumps) && (not label && used)) ≡ true → false ≡ ((try && n) || (label && stays))
calm-labels true n jumps label used stays c = absurd (false≢true c)
calm-labels false n true label used stays c = absurd (false≢true c)
calm-labels false n false true used stays c = absurd (false≢true c)
calm-labels false n false false used stays c = refl

calm-end : (try : Bool) (n : Bool) (jumps label : Bool) (ending : Ending) (out : Bool) → ((not try && not jumps) && (not label && is_used ending)) ≡ true →
    Used ≡ cond (try && n) Guarded (cond (is_given_back ending && out) GivenBack (used ending))
calm-end true n jumps label ending out c = absurd (false≢true c)
calm-end false n true label ending out c = absurd (false≢true c)
calm-end false n false true ending out c = absurd (false≢true c)
calm-end false n false false Guarded out c = absurd (false≢true c)
calm-end false n false false GivenBack out c = absurd (false≢true c)
calm-end false n false false Used out c = refl

setter-stays : (a : Around) (k : Kind) → changes_around k ≡ false → a.in_setter ≡ setter_inside a k
setter-stays a ArrowFunctionExpression h = absurd (false≢true (sym h))
setter-stays a FunctionDeclaration h = absurd (false≢true (sym h))
setter-stays a FunctionExpression h = absurd (false≢true (sym h))
setter-stays a k h = refl

nothing-said : (a : Around) (t : Tree) → changes_around (kind_of t) ≡ false → NoRemark ≡ remark_inside a t
nothing-said a (node BinaryExpression w g s e ps) h = absurd (false≢true (sym h))
nothing-said a (node ClassBody w g s e ps) h = absurd (false≢true (sym h))
nothing-said a (node ClassDeclaration w g s e ps) h = absurd (false≢true (sym h))
nothing-said a (node ClassExpression w g s e ps) h = absurd (false≢true (sym h))
nothing-said a (node TryStatement w g s e ps) h = absurd (false≢true (sym h))
nothing-said a (node VariableDeclaration w g s e ps) h = absurd (false≢true (sym h))
nothing-said a (node _ w g s e ps) h = refl

used-inside : (a : Around) (k : Kind) → changes_around k ≡ false → Used ≡ cond (is_guarded a) Guarded (cond (is_returned a) GivenBack (used a.ending)) → Used ≡ ending_inside a k
used-inside a ArrowFunctionExpression h u = absurd (false≢true (sym h))
used-inside a FunctionDeclaration h u = absurd (false≢true (sym h))
used-inside a FunctionExpression h u = absurd (false≢true (sym h))
used-inside a ReturnStatement h u = absurd (false≢true (sym h))
used-inside a k h u = u

-- round the first part of such a node
pub kept-inside : (a : Around) (t : Tree) (kind : Kind) (flags : Flags) → kind ≡ kind_of t → flags ≡ flags_of t → keeps_around a (kind_of t) ≡ true →
    record { parent = kind; form = flags.form; grandparent = a.parent; place = 0; in_setter = a.in_setter; remark = NoRemark; leaving = NoJumps; leaving_by_label = false; ending = Used } ≡ inside a t
kept-inside a t kind flags e f h =
    let k = kind_of t in
    let both = and_parts (is_calm a) (not (changes_around k)) h in
    let same = not-true (changes_around k) both.1 in
    let jumps = calm-jumps (is_try a.parent) (nat_eq a.place 2) a.leaving (ends_jumps k) (is_loop k) (is_switch k) a.leaving_by_label (is_used a.ending) both.0 in
    let labels = calm-labels (is_try a.parent) (nat_eq a.place 2) (has_returns a.leaving) a.leaving_by_label (is_used a.ending) (not (ends_jumps k || is_labelled k)) both.0 in
    let ends = used-inside a k same (calm-end (is_try a.parent) (nat_eq a.place 0 || (nat_eq a.place 1 && is_finalized_remark a.remark)) (has_returns a.leaving) a.leaving_by_label a.ending (hands_out a.parent a.place) both.0) in
    λ j. record { parent = e j; form = (f j).form; grandparent = a.parent; place = 0; in_setter = setter-stays a k same j; remark = nothing-said a t same j; leaving = jumps j; leaving_by_label = labels j; ending = ends j }
