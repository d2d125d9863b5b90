-- The leftmost part that begins with `new`, and what is read behind `new` where it begins so.
use Rattle.std.proofs.Common.{◌≡◌, ℕ, suc, ◌≤◌, Bool, true, false, List, [], ◌++◌, refl, sym, ap, ◌∙◌, subst, arith}
use Rattle.std.specs.Prelude.{IsTrue, codes, ◌&&◌}
use Prim.Native.String.{String}
use Rattle.std.proofs.lemmas.Bool.{and_parts}
use Rattle.std.proofs.lemmas.Slice.Eq.{bytes_eq-Decides}
use Rattle.tokens.specs.declared.token.TokenClass.TheVariants.{IdentifierName, Punctuator}
use Rattle.tokens.specs.declared.token.Goal.{Goal}
use Rattle.tokens.specs.declared.token.Goal.TheVariants.{Div}
use Rattle.tokens.specs.Goals.{allows}
use Rattle.tree.specs.declared.kind.Kind.{Kind}
use Rattle.tree.specs.declared.kind.Kind.TheVariants.{NewExpression, MetaProperty}
use Rattle.language.specs.declared.Rank.{Rank}
use Rattle.language.specs.declared.Rank.TheVariants.{New, Member}
use Rattle.language.specs.declared.Start.{Start}
use Rattle.language.specs.declared.Start.TheVariants.{Any}
use Rattle.tree.specs.declared.kind.Flags.{Flags}
use Rattle.tree.specs.declared.kind.Pair.{Pair}
use Rattle.tree.specs.Tree.{Tree, node, Parts, none, part, height, parts_height, text_of, bare, bare_parts, plain}
use Rattle.tree.specs.Uses.{is_lean, used_flags, has_text}
use Rattle.tree.proofs.Lean.{lean_flags, lean_text}
use Rattle.language.specs.FirstPart.{others}
use Rattle.language.specs.Vocabulary.{is_keyword, takes, op_call}
use Rattle.language.specs.Pieces.{expr, word}
use Rattle.language.specs.Token.{Token}
use Rattle.language.specs.Edges.{edge, edge_as_written}
use Rattle.language.specs.Expressions.{arguments, lead_is}
use Rattle.language.specs.Continuations.{operation, rank_made_by, stops_at, stops}
use Rattle.language.specs.ExpressionStart.{with_new, expression_start}
use Rattle.language.specs.Promises.{IsDetermined, ReadBy, Stops, Callee, at_member, at_new, FoundCallee}
use Rattle.language.specs.Following.{IsAlike}
use Rattle.language.specs.Grammar.{ways}
use Rattle.language.specs.Derivation.{Reads, Spells, Runs, Placed}
use Rattle.language.proofs.climbing.Spine.{Core}
use Rattle.language.proofs.table.Begins.{goes_to, retell}
use Rattle.language.proofs.climbing.SpineContinuations.{makes}
use Rattle.language.proofs.table.TokenFirstWays.{head_new_with, head_new_without, head_new_target}
use Rattle.language.proofs.climbing.LeftmostParts.{Cored, in_way, core_by}
use Rattle.language.proofs.list_loops.FirstPieces.{run_token, run_laid, run_part}
use Rattle.language.proofs.climbing.RightOperands.{one_part}
use Rattle.language.proofs.table.RightEdges.{edged}
use Rattle.language.proofs.table.Tails.{tails_new}
use Rattle.language.proofs.climbing.BinaryTurns.{same_node, replaced}
use Rattle.language.proofs.climbing.NoContinuation.{ends_where_stops}
use Rattle.language.proofs.climbing.OperatorLoop.{grows_height, Climbing}
use Rattle.language.proofs.climbing.Conditionals.{stops_before}
use Rattle.language.proofs.climbing.Suffixes.{argument_pieces, arguments_fixed}
use Rattle.language.proofs.climbing.FirstTurn.{Begun, begins, begun_stops, core_spelled}
use Rattle.language.proofs.climbing.Leaves.{by_class, worded_free, named_class, by_name, word_form}
use Rattle.language.proofs.climbing.Callees.{standing_tight, member_stops, ClimbingCallee, Uncalled, uncalled_at, as_callee}
use Rattle.language.proofs.climbing.NewExpressions.{word_node, climb_new_target, climb_new_given, callee_new_given, climb_new_bare, callee_new_bare}
use Rattle.unambiguity_laws.proofs.Unique.{Unique, UniqueParts, Climbed, ClimbedCallee, CoreStep, BegunCallee, NewCallee}

module _ (S : Type 0) (Next : S → Token → S → Type 0) (behind : S → Token) (det : IsDetermined S Next behind) where
  -- at New, in what no `(` follows
  uncalled_new : {o : ℕ} {s0 e : S} {n : Tree} {P : List Pair} {h : Rank} {j : Bool} {m : Tree} {mid : S} {Q : List Pair} → ((t : Token) (k : S) → Reads S Next behind Punctuator (codes "(") e t k → ⊥) → Begun S Next behind det o s0 New true Any n e P h j m mid Q → Uncalled S Next behind det h m mid
  uncalled_new {m = m} {mid = mid} closed b tk at t k reads =
      let al : IsTrue (allows Div t.class t.text) = subst (λ c. IsTrue (allows Div c t.text)) (sym reads.class) (subst (λ c. IsTrue (allows Div Punctuator c)) (sym reads.text) refl) in
      let op : operation t ≡ op_call = Rattle.language.proofs.climbing.SpineContinuations.makes t reads.class reads.text refl in
      let stopped : stops New true (edge m) (behind mid) t ≡ true = ap (λ v. stops_at New true (edge_as_written (edge m) (behind mid)) t (rank_made_by v t.after_break)) op in
      let end = ends_where_stops S Next behind det (core_spelled S Next behind b.core) (record { next = reads.next; allowed = al }) stopped b.grows in
      closed t k (subst (λ v. Reads S Next behind Punctuator (codes "(") v t k) (sym end.place) reads)

  module _ {s0 x : S} {t : Token} (r : ReadBy S Next behind Goal.RegExp s0 t x) (opening : expression_start t ≡ with_new) where
    -- What begins with `new` in a derivation: `new.target`; a callee at Member and arguments; or what stands at New, alone.
    data NewParts (o : ℕ) (h : Rank) (j : Bool) (f : Start) (m : Tree) (mid : S) (Q : List Pair) : Type 0 where
      as_target : {st en : ℕ} {n u : Tree} {x2 : S} {v : Token} {U : List Pair} → t.class ≡ IdentifierName → t.text ≡ codes "new" → m ≡ node MetaProperty [] plain st en (part n (part u none)) → IsTrue (takes h Member) → Placed S Next behind (expr h j f) (node MetaProperty [] plain st en (part n (part u none))) s0 mid →
          Spells ways S Next behind o word n s0 x [] → Reads S Next behind Punctuator (codes ".") x v x2 → Spells ways S Next behind o word u x2 mid U → text_of u ≡ codes "target" → Q ≡ U → NewParts o h j f m mid Q
      as_given : {st en : ℕ} {n : Tree} {ps : Parts} {place x2 : S} {v : Token} {A B : List Pair} → t.class ≡ IdentifierName → t.text ≡ codes "new" → m ≡ node NewExpression [] plain st en (part n ps) → IsTrue (takes h Member) → Placed S Next behind (expr h j f) (node NewExpression [] plain st en (part n ps)) s0 mid →
          Spells ways S Next behind o (expr Member true Any) n x place A → Reads S Next behind Punctuator (codes "(") place v x2 → Runs ways S Next behind o (argument_pieces ps) ps x2 mid B → Q ≡ A ++ B → NewParts o h j f m mid Q
      as_bare : {st en : ℕ} {n : Tree} → t.class ≡ IdentifierName → t.text ≡ codes "new" → m ≡ node NewExpression [] plain st en (part n none) → IsTrue (takes h New) → Placed S Next behind (expr h j f) (node NewExpression [] plain st en (part n none)) s0 mid → Spells ways S Next behind o (expr New true Any) n x mid Q →
          NewParts o h j f m mid Q

    made_node : {k K : Kind} {w : List ℕ} {g : Flags} {st en : ℕ} {ps qs : Parts} {m : Tree} → m ≡ node k w g st en ps → k ≡ K → has_text K ≡ false → used_flags K g ≡ plain → is_lean (bare m) ≡ true → ps ≡ qs → m ≡ node K [] plain st en qs
    made_node {k} {K} {w} {g} {st} {en} {ps} tree kind texts flags lean parts =
        let bares : is_lean (bare (node k w g st en ps)) ≡ true = ap (λ v. is_lean (bare v)) (sym tree) ∙ lean in
        tree ∙ same_node kind (lean_text (bare (node k w g st en ps)) bares (ap has_text kind ∙ texts)) (lean_flags (bare (node k w g st en ps)) bares ∙ ap (λ v. used_flags v g) kind ∙ flags) refl refl parts

    new_parts : {o : ℕ} {h : Rank} {j : Bool} {f : Start} {m : Tree} {mid : S} {Q : List Pair} → Core S Next behind o (expr h j f) m s0 mid Q → NewParts o h j f m mid Q
    unfolding is_keyword
    new_parts {o} {h} {j} {f} {m} {mid} {Q} c = of (core_by S Next behind det r opening c)
      where
        of : Cored S Next behind det o h j f m s0 mid Q with_new → NewParts o h j f m mid Q
        of (in_way tree (head_new_with k tk q) lean pl d) =
            let sign = run_token S Next behind (retell S Next behind q d) in
            let here = by_name S Next behind det r sign.sign sign.mid sign.reads in
            let a = run_part S Next behind (run_laid S Next behind sign.runs) in
            let paren = run_token S Next behind (retell S Next behind (ap (λ v. goes_to h j f (arguments (others (bare_parts v)))) a.parts) a.runs) in
            let same = made_node tree k refl refl lean a.parts in
            as_given (ap (λ (v : Token). v.class) (sym here.0) ∙ sign.reads.class) (ap (λ (v : Token). v.text) (sym here.0) ∙ sign.reads.text) same tk (subst (λ v. Placed S Next behind (expr h j f) v s0 mid) same pl) (subst (λ v. Spells ways S Next behind o (expr Member true Any) a.item v a.mid a.one) here.1 a.spelled) paren.reads
            (retell S Next behind (arguments_fixed h j f (bare_parts a.rest)) paren.runs) a.pairs
        of (in_way tree (head_new_without k n tk q) lean pl d) =
            let sign = run_token S Next behind (retell S Next behind q d) in
            let here = by_name S Next behind det r sign.sign sign.mid sign.reads in
            let a = one_part S Next behind det (run_laid S Next behind sign.runs) in
            let same = made_node tree k refl refl lean a.parts in
            as_bare (ap (λ (v : Token). v.class) (sym here.0) ∙ sign.reads.class) (ap (λ (v : Token). v.text) (sym here.0) ∙ sign.reads.text) same tk (subst (λ v. Placed S Next behind (expr h j f) v s0 mid) same pl) (subst (λ v. Spells ways S Next behind o (expr New true Any) a.operand v mid Q) here.1 a.spelled)
        of (in_way {ps = ps} tree (head_new_target k c tk q) lean pl d) =
            let a = run_part S Next behind (retell S Next behind q d) in
            let w = word_form S Next behind det a.spelled in
            let here = by_class S Next behind det (worded_free w.class w.text w.is_word) r w.sign a.mid w.reads in
            let dot = run_token S Next behind a.runs in
            let u = one_part S Next behind det dot.runs in
            let parts = a.parts ∙ ap (part a.item) u.parts in
            let same = made_node tree k refl refl lean parts in
            let said = and_parts _ _ (ap (λ v. lead_is (bare_parts v) "new" && lead_is (others (bare_parts v)) "target") (sym parts) ∙ c) in
            as_target (ap (λ (v : Token). v.class) (sym here.0) ∙ w.reads.class ∙ named_class w.class w.text w.is_word (ap is_keyword (sym (ap text_of w.tree) ∙ text_is (part u.operand none) "new" a.item said.0))) (ap (λ (v : Token). v.text) (sym here.0) ∙ w.reads.text ∙ sym (ap text_of w.tree) ∙ text_is (part u.operand none) "new" a.item said.0) same tk (subst (λ v. Placed S Next behind (expr h j f) v s0 mid) same pl) (subst (λ v. Spells ways S Next behind o word a.item s0 v []) here.1 (subst (λ v. Spells ways S Next behind o word a.item s0 a.mid v) w.pairs a.spelled))
            (subst (λ v. Reads S Next behind Punctuator (codes ".") v dot.sign dot.mid) here.1 dot.reads) u.spelled (text_is none "target" u.operand said.1) (a.pairs ∙ ap (λ v. v ++ a.more) w.pairs)
          where
            text_is : (rest : Parts) (z : String) (n : Tree) → lead_is (bare_parts (part n rest)) z ≡ true → text_of n ≡ codes z
            text_is rest z (node k w g st en ps) h = (bytes_eq-Decides w (codes z)).0 h

    -- the callee before arguments can't go on, nor can one without
    given_stops : {place x2 : S} {v : Token} (n : Tree) → Reads S Next behind Punctuator (codes "(") place v x2 → Stops S Next behind New true n place
    given_stops n reads = stops_before S Next behind det New true n reads refl refl (λ c u. refl)

    bare_stops : {o st en : ℕ} {y : Rank} {i : Bool} {f : Start} {n : Tree} {e : S} {P : List Pair} {h : Rank} {j : Bool} {m : Tree} {mid : S} {Q : List Pair} (u : Tree) → Begun S Next behind det o s0 y i f n e P h j m mid Q → m ≡ node NewExpression [] plain st en (part u none) → IsTrue (takes h New) →
        Spells ways S Next behind o (expr New true Any) u x mid Q → Stops S Next behind New true u mid
    bare_stops {mid = mid} u b tree tk d = begun_stops S Next behind det New New true u tails_new (λ l. omega arith) tk (λ k. cc)
        (ap (λ v. edge_as_written (edge v) (behind mid)) tree ∙ sym (standing_tight (edged S Next behind det d) (omega arith))) b

module _ (S : Type 0) (Next : S → Token → S → Type 0) (behind : S → Token) (det : IsDetermined S Next behind) (alike : IsAlike S Next behind) {h : ℕ} (u : Unique S Next behind det h) where
  module _ {o : ℕ} {y : Rank} {i : Bool} {f : Start} {n : Tree} {s0 e x : S} {P : List Pair} {q : Rank} {j : Bool} {m : Tree} {mid : S} {Q : List Pair} {t : Token} (called : UniqueParts S Next behind det h argument_pieces) (r : ReadBy S Next behind Goal.RegExp s0 t x) (opening : expression_start t ≡ with_new)
      (low : height n ≤ suc h) (b : Begun S Next behind det o s0 y i f n e P q j m mid Q) (closed : Uncalled S Next behind det q m mid) where
    inside : {st en : ℕ} {c : Tree} {ps : Parts} → m ≡ node NewExpression [] plain st en (part c ps) → (height c ≤ h) × (parts_height ps ≤ h)
    inside {st} {en} {c} {ps} tree =
        let up = grows_height S Next behind det b.grows in
        let high : height m ≡ height (node NewExpression [] plain st en (part c ps)) = ap height tree in
        (omega arith, omega arith)

    -- the callee before arguments, and one without
    given_found : {st en : ℕ} {c : Tree} {ps : Parts} {place x2 : S} {v : Token} {A : List Pair} → m ≡ node NewExpression [] plain st en (part c ps) → Spells ways S Next behind o (expr Member true Any) c x place A → Reads S Next behind Punctuator (codes "(") place v x2 → FoundCallee S Next behind o x place c A
    given_found {c = c} tree d eq = u.expressions.callee (inside tree).0 (at_member d) (given_stops S Next behind det r opening c eq)

    bare_found : {st en : ℕ} {c : Tree} → m ≡ node NewExpression [] plain st en (part c none) → IsTrue (takes q New) → Spells ways S Next behind o (expr New true Any) c x mid Q → FoundCallee S Next behind o x mid c Q
    bare_found {c = c} tree tk d = u.expressions.callee (inside tree).0 (at_new d (closed tk (ap edge tree))) (bare_stops S Next behind det r opening c b tree tk d)

    -- `new.target`, at each position that takes it
    target_climbing : {y' : Rank} {i' : Bool} {f' : Start} {st en : ℕ} {c w : Tree} {x2 : S} {v : Token} {U : List Pair} → IsTrue (takes y' Member) → t.class ≡ IdentifierName → t.text ≡ codes "new" → m ≡ node MetaProperty [] plain st en (part c (part w none)) →
        Placed S Next behind (expr q j f) (node MetaProperty [] plain st en (part c (part w none))) s0 mid → Spells ways S Next behind o word c s0 x [] → Reads S Next behind Punctuator (codes ".") x v x2 → Spells ways S Next behind o word w x2 mid U → text_of w ≡ codes "target" → Q ≡ U →
        Climbing S Next behind det o y' i' f' Member s0 m mid Q
    unfolding is_keyword
    target_climbing {y'} {i'} {f'} {st} {en} {c} {w} {x2} tk class text tree pl d eq p said pairs =
        let one = word_form S Next behind det d in
        let two = word_form S Next behind det p in
        let here = by_class S Next behind det (worded_free one.class one.text one.is_word) r one.sign x one.reads in
        let first_text : one.text ≡ codes "new" = sym one.reads.text ∙ ap (λ (v : Token). v.text) here.0 ∙ text in
        let last_text : two.text ≡ codes "target" = sym (ap text_of two.tree) ∙ said in
        let first_is : c ≡ word_node S Next behind det (codes "new") t x = one.tree ∙ ap (λ k. word_node S Next behind det k one.sign x) first_text ∙ ap (λ k. word_node S Next behind det (codes "new") k x) here.0 in
        let last_is : w ≡ word_node S Next behind det (codes "target") two.sign mid = two.tree ∙ ap (λ k. word_node S Next behind det k two.sign mid) last_text in
        let same : node MetaProperty [] plain st en (part c (part w none)) ≡ node MetaProperty [] plain st en (part (word_node S Next behind det (codes "new") t x) (part (word_node S Next behind det (codes "target") two.sign mid) none)) =
        λ k. node MetaProperty [] plain st en (part (first_is k) (part (last_is k) none)) in
        let reads : Reads S Next behind IdentifierName (codes "target") x2 two.sign mid = subst (λ d. Reads S Next behind d (codes "target") x2 two.sign mid) (named_class two.class two.text two.is_word (ap is_keyword last_text)) (subst (λ k. Reads S Next behind two.class k x2 two.sign mid) last_text two.reads) in
        let climb = climb_new_target S Next behind det r opening eq class text tk reads (replaced S Next behind det (subst (λ k. Placed S Next behind (expr q j f) k s0 mid) same pl)) in
        subst (λ k. Climbing S Next behind det o y' i' f' Member s0 m mid k) (sym (pairs ∙ two.pairs)) (subst (λ k. Climbing S Next behind det o y' i' f' Member s0 k mid []) (sym (tree ∙ same)) climb)

    told : {z : Rank} {k : Tree} {A : List Pair} → m ≡ k → Q ≡ A → Climbing S Next behind det o y i f z s0 k mid A → Climbed S Next behind det o y i f s0 m mid Q
    told {z} {k} {A} tree pairs climb = record { symbol = z; climbing = subst (λ c. Climbing S Next behind det o y i f z s0 m mid c) (sym pairs) (subst (λ c. Climbing S Next behind det o y i f z s0 c mid A) (sym tree) climb) }

    told_callee : {z : Rank} {k : Tree} {A : List Pair} → m ≡ k → Q ≡ A → ClimbingCallee S Next behind det o z s0 k mid A → ClimbedCallee S Next behind det o s0 m mid Q
    told_callee {z} {k} {A} tree pairs climb = record { symbol = z; climbing = subst (λ c. ClimbingCallee S Next behind det o z s0 m mid c) (sym pairs) (subst (λ c. ClimbingCallee S Next behind det o z s0 c mid A) (sym tree) climb) }

    begun_climbed : (y ≡ New → ⊥) → NewParts S Next behind det r opening o q j f m mid Q → Climbed S Next behind det o y i f s0 m mid Q
    begun_climbed other (as_target class text tree tk pl d eq p said pairs) = record { symbol = Member; climbing = target_climbing (b.reached.taken Member tk) class text tree pl d eq p said pairs }
    begun_climbed other (as_given class text tree tk pl d eq p pairs) =
        told tree pairs (climb_new_given S Next behind det r opening (given_found tree d eq) eq other class text (b.reached.taken Member tk) (called.gives (inside tree).1 p) (replaced S Next behind det pl))
    begun_climbed other (as_bare class text tree tk pl d) =
        told tree refl (climb_new_bare S Next behind det r opening (bare_found tree tk d) (closed tk (ap edge tree)) other class text (b.reached.taken New tk) (replaced S Next behind det pl))

    begun_callee : NewParts S Next behind det r opening o q j f m mid Q → ClimbedCallee S Next behind det o s0 m mid Q
    begun_callee (as_target class text tree tk pl d eq p said pairs) = record { symbol = Member; climbing = as_callee S Next behind det (target_climbing refl class text tree pl d eq p said pairs) }
    begun_callee (as_given class text tree tk pl d eq p pairs) = told_callee tree pairs (callee_new_given S Next behind det r opening (given_found tree d eq) eq class text (called.gives (inside tree).1 p) (replaced S Next behind det pl))
    begun_callee (as_bare class text tree tk pl d) = told_callee tree refl (callee_new_bare S Next behind det r opening (bare_found tree tk d) (closed tk (ap edge tree)) class text (replaced S Next behind det pl))

  -- what begins with `new`, where it isn't what stands behind another
  pub new_core : UniqueParts S Next behind det h argument_pieces → CoreStep S Next behind det h with_new
  new_core called = record { gives = λ other inner low b r opening. begun_climbed called r opening low b (uncalled_at S Next behind det (other refl) b) (other refl) (new_parts S Next behind det r opening b.core) }

  -- what stands behind `new` and begins with another
  pub new_callee : UniqueParts S Next behind det h argument_pieces → NewCallee S Next behind det h
  new_callee called = record { gives = λ low d st r opening. of low d st r opening }
    where
      of : {o : ℕ} {n : Tree} {s0 e x : S} {P : List Pair} {t : Token} → height n ≤ suc h → Callee S Next behind o n s0 e P → Stops S Next behind New true n e → ReadBy S Next behind Goal.RegExp s0 t x → expression_start t ≡ with_new → BegunCallee S Next behind det o s0
      of {n = n} low (at_member d) st r opening =
          let b = begins S Next behind det d (member_stops S Next behind n st) in
          record { tree = b.m; place = b.mid; pairs = b.Q; climbed = begun_callee called r opening low b.begun (uncalled_at S Next behind det (λ k. cc) b.begun) (new_parts S Next behind det r opening b.begun.core) }
      of low (at_new d closed) st r opening =
          let b = begins S Next behind det d st in
          record { tree = b.m; place = b.mid; pairs = b.Q; climbed = begun_callee called r opening low b.begun (uncalled_new S Next behind det closed b.begun) (new_parts S Next behind det r opening b.begun.core) }
