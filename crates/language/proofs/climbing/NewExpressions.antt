-- A leftmost part that begins with `new`: with arguments or without, or `new.target`. At the position behind another `new` each has a
-- form of its own, since a `new` without arguments isn't a callee before `(`.
use Rattle.std.proofs.Common.{◌≡◌, ℕ, Bool, true, false, List, [], ◌∷◌, ◌++◌, refl, sym, ap, ◌∙◌, subst, arith}
use Rattle.std.specs.Prelude.{IsTrue, codes, ◌&&◌}
use Rattle.std.proofs.lemmas.Bool.{and_parts}
use Rattle.std.proofs.lemmas.Slice.Eq.{bytes_eq-Decides}
use Rattle.tokens.specs.declared.token.TokenClass.TheVariants.{IdentifierName, Punctuator}
use Rattle.tokens.specs.declared.token.Goal.{Goal}
use Rattle.tokens.specs.Goals.{allows}
use Rattle.tree.specs.declared.kind.Kind.{Kind}
use Rattle.tree.specs.declared.kind.Kind.TheVariants.{Identifier, NewExpression, MetaProperty}
use Rattle.language.specs.declared.Rank.{Rank}
use Rattle.language.specs.declared.Rank.TheVariants.{New, Member}
use Rattle.language.specs.declared.Start.{Start}
use Rattle.language.specs.declared.Start.TheVariants.{Any, NoBrace, Statement}
use Rattle.tree.specs.declared.kind.Flags.{Flags}
use Rattle.tree.specs.declared.kind.Pair.{Pair}
use Rattle.tree.specs.Tree.{Tree, node, Parts, none, part, text_of, bare, bare_parts, plain}
use Rattle.tree.specs.Uses.{is_lean, used_flags, has_text}
use Rattle.tree.proofs.Lean.{lean_flags, lean_text}
use Rattle.language.specs.FirstPart.{others}
use Rattle.language.specs.Vocabulary.{takes}
use Rattle.language.specs.Pieces.{Role, expr, word, PieceOf, Piece, tok, sub, put, sp, sign, term, at}
use Rattle.language.specs.Token.{Token}
use Rattle.language.specs.Edges.{edge, edge_as_written}
use Rattle.language.specs.Expressions.{arguments, lead_is}
use Rattle.language.specs.ExpressionStart.{with_new, expression_start}
use Rattle.language.specs.Promises.{IsDetermined, ReadBy, Stops, FoundParts, Callee, at_member, at_new, FoundCallee}
use Rattle.language.specs.Grammar.{ways, starts}
use Rattle.language.specs.Derivation.{Reads, Spells, Runs, done, step, within, token, laid, Placed}
use Rattle.language.proofs.table.NodeForms.{new_with, new_without, new_target}
use Rattle.language.proofs.climbing.Spine.{Core}
use Rattle.language.proofs.table.Productions.{spell, starts_led}
use Rattle.language.proofs.table.Begins.{goes_to, retell, starts_more, joins_first}
use Rattle.language.proofs.table.TokenFirstWays.{head_new_with, head_new_without, head_new_target, opens}
use Rattle.language.proofs.climbing.LeftmostParts.{Cored, in_way, core_by}
use Rattle.language.proofs.list_loops.FirstPieces.{run_token, run_laid, run_part}
use Rattle.language.proofs.climbing.RightOperands.{one_part}
use Rattle.language.proofs.climbing.OperatorNodes.{last_runs}
use Rattle.language.proofs.table.RightEdges.{edged}
use Rattle.language.proofs.table.Tails.{tails_new}
use Rattle.language.proofs.climbing.BinaryTurns.{same_node, replaced, same_places}
use Rattle.language.proofs.climbing.OperatorLoop.{Climbing}
use Rattle.language.proofs.climbing.Conditionals.{stops_before, same_sign}
use Rattle.language.proofs.climbing.Suffixes.{argument_pieces, arguments_fixed}
use Rattle.language.proofs.climbing.FirstTurn.{Begun, climb_start, begun_stops}
use Rattle.language.proofs.climbing.Leaves.{by_name, word_form, word_found, by_class, worded_free}
use Rattle.language.proofs.climbing.Supers.{none_begins}
use Rattle.language.proofs.climbing.Callees.{callee_new, standing_tight, ClimbingCallee, Uncalled, uncalled_at, callee_start}

starts_new : (f : Start) (qs : List Piece) → joins_first qs ≡ false → IsTrue (starts f (term "new" ∷ qs))
starts_new f qs h = starts_more f (codes "new") qs h (of f)
  where
    of : (f : Start) → IsTrue (starts f (term "new" ∷ []))
    of Any = refl
    of NoBrace = refl
    of Statement = refl

module _ (S : Type 0) (Next : S → Token → S → Type 0) (behind : S → Token) (det : IsDetermined S Next behind) where
  -- the name that a word is, from a token to a place
  abbrev pub word_node : List ℕ → Token → S → Tree
  word_node w t e = node Identifier w plain t.start (behind e).stop none

  module _ {s0 x : S} {t : Token} (r : ReadBy S Next behind Goal.RegExp s0 t x) (opening : expression_start t ≡ with_new) where
    -- What begins with `new` in a derivation: `new.target`; a callee at Member and arguments; or what stands at New, alone.
    data NewCore (o : ℕ) (h : Rank) (j : Bool) (f : Start) (m : Tree) (mid : S) (Q : List Pair) : Type 0 where
      as_target : {st en : ℕ} {n u : Tree} {x2 : S} {v : Token} {U : List Pair} → m ≡ node MetaProperty [] plain st en (part n (part u none)) → IsTrue (takes h Member) → Placed S Next behind (expr h j f) (node MetaProperty [] plain st en (part n (part u none))) s0 mid →
          Spells ways S Next behind o word n s0 x [] → Reads S Next behind Punctuator (codes ".") x v x2 → Spells ways S Next behind o word u x2 mid U → text_of u ≡ codes "target" → Q ≡ U → NewCore o h j f m mid Q
      as_given : {st en : ℕ} {n : Tree} {ps : Parts} {place x2 : S} {v : Token} {A B : List Pair} → m ≡ node NewExpression [] plain st en (part n ps) → IsTrue (takes h Member) → Placed S Next behind (expr h j f) (node NewExpression [] plain st en (part n ps)) s0 mid →
          Spells ways S Next behind o (expr Member true Any) n x place A → Reads S Next behind Punctuator (codes "(") place v x2 → Runs ways S Next behind o (argument_pieces ps) ps x2 mid B → Q ≡ A ++ B → NewCore o h j f m mid Q
      as_bare : {st en : ℕ} {n : Tree} → m ≡ node NewExpression [] plain st en (part n none) → IsTrue (takes h New) → Placed S Next behind (expr h j f) (node NewExpression [] plain st en (part n none)) s0 mid → Spells ways S Next behind o (expr New true Any) n x mid Q →
          NewCore o h j f m mid Q

    made_node : {k K : Kind} {w : List ℕ} {g : Flags} {st en : ℕ} {ps qs : Parts} {m : Tree} → m ≡ node k w g st en ps → k ≡ K → has_text K ≡ false → used_flags K g ≡ plain → is_lean (bare m) ≡ true → ps ≡ qs → m ≡ node K [] plain st en qs
    made_node {k} {K} {w} {g} {st} {en} {ps} tree kind texts flags lean parts =
        let bares : is_lean (bare (node k w g st en ps)) ≡ true = ap (λ v. is_lean (bare v)) (sym tree) ∙ lean in
        tree ∙ same_node kind (lean_text (bare (node k w g st en ps)) bares (ap has_text kind ∙ texts)) (lean_flags (bare (node k w g st en ps)) bares ∙ ap (λ v. used_flags v g) kind ∙ flags) refl refl parts

    new_core : {o : ℕ} {h : Rank} {j : Bool} {f : Start} {m : Tree} {mid : S} {Q : List Pair} → Core S Next behind o (expr h j f) m s0 mid Q → NewCore o h j f m mid Q
    new_core {o} {h} {j} {f} {m} {mid} {Q} c = of (core_by S Next behind det r opening c)
      where
        of : Cored S Next behind det o h j f m s0 mid Q with_new → NewCore o h j f m mid Q
        of (in_way tree (head_new_with k tk q) lean pl d) =
            let sign = run_token S Next behind (retell S Next behind q d) in
            let here = by_name S Next behind det r sign.sign sign.mid sign.reads in
            let a = run_part S Next behind (run_laid S Next behind sign.runs) in
            let paren = run_token S Next behind (retell S Next behind (ap (λ v. goes_to h j f (arguments (others (bare_parts v)))) a.parts) a.runs) in
            let same = made_node tree k refl refl lean a.parts in
            as_given same tk (subst (λ v. Placed S Next behind (expr h j f) v s0 mid) same pl) (subst (λ v. Spells ways S Next behind o (expr Member true Any) a.item v a.mid a.one) here.1 a.spelled) paren.reads
            (retell S Next behind (arguments_fixed h j f (bare_parts a.rest)) paren.runs) a.pairs
        of (in_way tree (head_new_without k n tk q) lean pl d) =
            let sign = run_token S Next behind (retell S Next behind q d) in
            let here = by_name S Next behind det r sign.sign sign.mid sign.reads in
            let a = one_part S Next behind det (run_laid S Next behind sign.runs) in
            let same = made_node tree k refl refl lean a.parts in
            as_bare same tk (subst (λ v. Placed S Next behind (expr h j f) v s0 mid) same pl) (subst (λ v. Spells ways S Next behind o (expr New true Any) a.operand v mid Q) here.1 a.spelled)
        of (in_way {ps = ps} tree (head_new_target k c tk q) lean pl d) =
            let a = run_part S Next behind (retell S Next behind q d) in
            let w = word_form S Next behind det a.spelled in
            let here = by_class S Next behind det (worded_free w.class w.text w.is_word) r w.sign a.mid w.reads in
            let dot = run_token S Next behind a.runs in
            let u = one_part S Next behind det dot.runs in
            let parts = a.parts ∙ ap (part a.item) u.parts in
            let same = made_node tree k refl refl lean parts in
            let told = (and_parts _ _ (ap (λ v. lead_is (bare_parts v) "new" && lead_is (others (bare_parts v)) "target") (sym parts) ∙ c)).1 in
            as_target same tk (subst (λ v. Placed S Next behind (expr h j f) v s0 mid) same pl) (subst (λ v. Spells ways S Next behind o word a.item s0 v []) here.1 (subst (λ v. Spells ways S Next behind o word a.item s0 a.mid v) w.pairs a.spelled))
            (subst (λ v. Reads S Next behind Punctuator (codes ".") v dot.sign dot.mid) here.1 dot.reads) u.spelled (text_is u.operand told) (a.pairs ∙ ap (λ v. v ++ a.more) w.pairs)
          where
            text_is : (n : Tree) → lead_is (bare_parts (part n none)) "target" ≡ true → text_of n ≡ codes "target"
            text_is (node k w g st en ps) h = (bytes_eq-Decides w (codes "target")).0 h

    -- the callee before arguments can't go on, nor can one without
    given_stops : {place x2 : S} {v : Token} (n : Tree) → Reads S Next behind Punctuator (codes "(") place v x2 → Stops S Next behind New true n place
    given_stops n reads = stops_before S Next behind det New true n reads refl refl (λ c u. refl)

    bare_stops : {o st en : ℕ} {y : Rank} {i : Bool} {f : Start} {n : Tree} {e : S} {P : List Pair} {h : Rank} {j : Bool} {m : Tree} {mid : S} {Q : List Pair} (u : Tree) → Begun S Next behind det o s0 y i f n e P h j m mid Q → m ≡ node NewExpression [] plain st en (part u none) → IsTrue (takes h New) →
        Spells ways S Next behind o (expr New true Any) u x mid Q → Stops S Next behind New true u mid
    bare_stops {mid = mid} u b tree tk d = begun_stops S Next behind det New New true u tails_new (λ l. omega arith) tk (λ k. cc)
        (ap (λ v. edge_as_written (edge v) (behind mid)) tree ∙ sym (standing_tight (edged S Next behind det d) (omega arith))) b

    -- no `.` follows where a callee does
    undotted : {o : ℕ} {y : Rank} {i : Bool} {f : Start} {n : Tree} {e x2 : S} {v : Token} {P : List Pair} → Spells ways S Next behind o (expr y i f) n x e P → Reads S Next behind Punctuator (codes ".") x v x2 → ⊥
    undotted {v = v} d reads =
        let al : IsTrue (allows Goal.RegExp v.class v.text) = subst (λ c. IsTrue (allows Goal.RegExp c v.text)) (sym reads.class) (subst (λ c. IsTrue (allows Goal.RegExp Punctuator c)) (sym reads.text) refl) in
        none_begins S Next behind det (record { next = reads.next; allowed = al }) (opens v reads.class reads.text refl) d

    -- the leftmost part is the one that was read
    abbrev Same : ℕ → ℕ → Kind → Parts → S → List Pair → Rank → Rank → Tree → S → List Pair → Type 0
    Same st en K ps to U z h m mid Q = (mid ≡ to) × (m ≡ node K [] plain st en ps) × (Q ≡ U) × IsTrue (takes h z)

    -- `new.target`
    module _ {x2 : S} {dot : Token} (dotted_by : Reads S Next behind Punctuator (codes ".") x dot x2) where
      target_alone : {o' : ℕ} {y : Rank} {i : Bool} {f : Start} {to : S} {h : Rank} {j : Bool} {m : Tree} {mid : S} {Q : List Pair} {st en : ℕ} {v : Token} → t.class ≡ IdentifierName → t.text ≡ codes "new" → Reads S Next behind IdentifierName (codes "target") x2 v to →
          Placed S Next behind (expr y i f) (node MetaProperty [] plain st en (part (word_node (codes "new") t x) (part (word_node (codes "target") v to) none))) s0 to → NewCore o' h j f m mid Q →
          Same st en MetaProperty (part (word_node (codes "new") t x) (part (word_node (codes "target") v to) none)) to [] Member h m mid Q
      target_alone {o'} {mid = mid} class text reads places (as_target {n = n} {u = u} {x2 = x3} {v = v'} {U = U} tree tk pl d eq p said q) =
          let first = (word_found S Next behind det {o = o'} {c = IdentifierName} refl (record { next = r.next; class = class; text = text })).only o' x n [] d in
          let there = same_sign S Next behind det eq dotted_by refl in
          let last = (word_found S Next behind det {o = o'} {c = IdentifierName} refl reads).only o' mid u U (subst (λ c. Spells ways S Next behind o' word u c mid U) there.1 p) in
          let where_is = same_places S Next behind det pl places last.0 in
          (last.0, tree ∙ same_node refl refl refl where_is.0 where_is.1 (λ k. part (first.1 k) (part (last.1 k) none)), q ∙ last.2, tk)
      target_alone class text reads places (as_given tree tk pl d eq p q) = absurd (undotted d dotted_by)
      target_alone class text reads places (as_bare tree tk pl d) = absurd (undotted d dotted_by)

      target_spells : {o : ℕ} {f : Start} {to : S} {st en : ℕ} {v : Token} (h : Rank) (j : Bool) → t.class ≡ IdentifierName → t.text ≡ codes "new" → Reads S Next behind IdentifierName (codes "target") x2 v to → IsTrue (takes h Member) →
          Placed S Next behind (expr h j f) (node MetaProperty [] plain st en (part (word_node (codes "new") t x) (part (word_node (codes "target") v to) none))) s0 to →
          Spells ways S Next behind o (expr h j f) (node MetaProperty [] plain st en (part (word_node (codes "new") t x) (part (word_node (codes "target") v to) none))) s0 to []
      target_spells {o} {f = f} h j class text reads tk pl =
          spell S Next behind (at Member (put word ∷ sign "." ∷ put word ∷ [])) (new_target refl) refl tk refl (starts_led f (Rattle.language.specs.Pieces.fixed word) (sign "." ∷ put word ∷ [])) pl
          (within (word_found S Next behind det {o = o} {c = IdentifierName} refl (record { next = r.next; class = class; text = text })).spelled (step (token dotted_by) (within (word_found S Next behind det {o = o} {c = IdentifierName} refl reads).spelled done)))

      pub climb_new_target : {o : ℕ} {y : Rank} {i : Bool} {f : Start} {to : S} {st en : ℕ} {v : Token} → t.class ≡ IdentifierName → t.text ≡ codes "new" → IsTrue (takes y Member) → Reads S Next behind IdentifierName (codes "target") x2 v to →
          Placed S Next behind (expr y i f) (node MetaProperty [] plain st en (part (word_node (codes "new") t x) (part (word_node (codes "target") v to) none))) s0 to →
          Climbing S Next behind det o y i f Member s0 (node MetaProperty [] plain st en (part (word_node (codes "new") t x) (part (word_node (codes "target") v to) none))) to []
      climb_new_target {o} {y = y} class text low reads places = climb_start S Next behind det low
          (λ h j tk lo. target_spells h j class text reads tk (replaced S Next behind det places))
          (λ o' n e P h j m mid Q b. target_alone class text reads places (new_core b.core))

    -- a callee is found
    module _ {o : ℕ} {u : Tree} {e1 : S} {A : List Pair} (found : FoundCallee S Next behind o x e1 u A) where
      same_given : {o' : ℕ} {n : Tree} {place x2 : S} {v : Token} {B : List Pair} → Spells ways S Next behind o' (expr Member true Any) n x place B → Reads S Next behind Punctuator (codes "(") place v x2 → (place ≡ e1) × (n ≡ u) × (B ≡ A)
      same_given {o'} {n} {place} {B = B} d eq = found.only o' place n B (at_member d) (given_stops n eq)

      same_bare : {o' st en : ℕ} {y : Rank} {i : Bool} {f : Start} {n c : Tree} {e : S} {P : List Pair} {h : Rank} {j : Bool} {m : Tree} {mid : S} {Q : List Pair} → Begun S Next behind det o' s0 y i f n e P h j m mid Q → Uncalled S Next behind det h m mid → m ≡ node NewExpression [] plain st en (part c none) →
          IsTrue (takes h New) → Spells ways S Next behind o' (expr New true Any) c x mid Q → (mid ≡ e1) × (c ≡ u) × (Q ≡ A)
      same_bare {o'} {c = c} {mid = mid} {Q = Q} b closed tree tk d = found.only o' mid c Q (at_new d (closed tk (ap edge tree))) (bare_stops c b tree tk d)

      reads_new : t.class ≡ IdentifierName → t.text ≡ codes "new" → Reads S Next behind IdentifierName (codes "new") s0 t x
      reads_new class text = record { next = r.next; class = class; text = text }

      -- `(` follows
      module _ {x2 : S} {v : Token} (calls_it : Reads S Next behind Punctuator (codes "(") e1 v x2) where
        given_runs : {o' : ℕ} {y : Rank} {i : Bool} {f : Start} {n : Tree} {e : S} {P : List Pair} {h : Rank} {j : Bool} {m : Tree} {mid : S} {Q : List Pair} → Begun S Next behind det o' s0 y i f n e P h j m mid Q → Uncalled S Next behind det h m mid → NewCore o' h j f m mid Q →
            (st : ℕ) × (en : ℕ) × (ps : Parts) × (B : List Pair) × (m ≡ node NewExpression [] plain st en (part u ps)) × Placed S Next behind (expr h j f) (node NewExpression [] plain st en (part u ps)) s0 mid × Runs ways S Next behind o' (argument_pieces ps) ps x2 mid B × (Q ≡ A ++ B) × IsTrue (takes h Member)
        given_runs b closed (as_target tree tk pl d eq p said q) = absurd (undotted (callee_new S Next behind found.callee) eq)
        given_runs {o'} {f = f} {h = h} {j = j} {mid = mid} b closed (as_given {st = st} {en = en} {n = n} {ps = ps} {place = place} {x2 = x3} {v = v'} {A = A'} {B = B} tree tk pl d eq p q) =
            let same = same_given d eq in
            let there = same_sign S Next behind det (subst (λ c. Reads S Next behind Punctuator (codes "(") c v' x3) same.0 eq) calls_it refl in
            let whole : node NewExpression [] plain st en (part n ps) ≡ node NewExpression [] plain st en (part u ps) = ap (λ c. node NewExpression [] plain st en (part c ps)) same.1 in
            (st, en, ps, B, tree ∙ whole, subst (λ c. Placed S Next behind (expr h j f) c s0 mid) whole pl, subst (λ c. Runs ways S Next behind o' (argument_pieces ps) ps c mid B) there.1 p, q ∙ ap (λ c. c ++ B) same.2, tk)
        given_runs b closed (as_bare tree tk pl d) =
            let same = same_bare b closed tree tk d in absurd (closed tk (ap edge tree) v x2 (subst (λ c. Reads S Next behind Punctuator (codes "(") c v x2) (sym same.0) calls_it))

        callee_complete : Spells ways S Next behind o (expr Member true Any) u x e1 A
        callee_complete = of found.callee
          where
            of : Callee S Next behind o u x e1 A → Spells ways S Next behind o (expr Member true Any) u x e1 A
            of (at_member d) = d
            of (at_new d closed) = absurd (closed v x2 calls_it)

        given_spells : {f : Start} {ps : Parts} {to : S} {B : List Pair} {st en : ℕ} (h : Rank) (j : Bool) → t.class ≡ IdentifierName → t.text ≡ codes "new" → IsTrue (takes h Member) → Runs ways S Next behind o (argument_pieces ps) ps x2 to B →
            Placed S Next behind (expr h j f) (node NewExpression [] plain st en (part u ps)) s0 to → Spells ways S Next behind o (expr h j f) (node NewExpression [] plain st en (part u ps)) s0 to (A ++ B)
        given_spells {f} {ps} h j class text tk d pl =
            spell S Next behind (at Member (term "new" ∷ sp ∷ put (expr Member true Any) ∷ arguments (bare_parts ps))) new_with refl tk refl (starts_new f (sp ∷ put (expr Member true Any) ∷ arguments (bare_parts ps)) refl) pl
            (step (token (reads_new class text)) (step laid (within callee_complete (step (token calls_it) (retell S Next behind (sym (arguments_fixed h j f (bare_parts ps))) d)))))

        given_alone : {o' : ℕ} {y y' : Rank} {i i' : Bool} {f : Start} {n : Tree} {e to : S} {P B : List Pair} {h : Rank} {j : Bool} {m : Tree} {mid : S} {Q : List Pair} {ps : Parts} {st en : ℕ} → FoundParts S Next behind o argument_pieces x2 to ps B →
            Placed S Next behind (expr y' i' f) (node NewExpression [] plain st en (part u ps)) s0 to → Begun S Next behind det o' s0 y i f n e P h j m mid Q → Uncalled S Next behind det h m mid → Same st en NewExpression (part u ps) to (A ++ B) Member h m mid Q
        given_alone {o'} {mid = mid} arguments_found places b closed =
            let w = given_runs b closed (new_core b.core) in
            let same = arguments_found.only o' mid w.2 w.3 w.6 in
            let where_is = same_places S Next behind det w.5 places same.0 in
            (same.0, w.4 ∙ same_node refl refl refl where_is.0 where_is.1 (ap (part u) same.1), w.7 ∙ ap (λ c. A ++ c) same.2, w.8)

        -- `new` with arguments
        pub climb_new_given : {y : Rank} {i : Bool} {f : Start} {ps : Parts} {to : S} {B : List Pair} {st en : ℕ} → (y ≡ New → ⊥) → t.class ≡ IdentifierName → t.text ≡ codes "new" → IsTrue (takes y Member) → FoundParts S Next behind o argument_pieces x2 to ps B →
            Placed S Next behind (expr y i f) (node NewExpression [] plain st en (part u ps)) s0 to → Climbing S Next behind det o y i f Member s0 (node NewExpression [] plain st en (part u ps)) to (A ++ B)
        climb_new_given other class text low arguments_found places = climb_start S Next behind det low
            (λ h j tk lo. given_spells h j class text tk arguments_found.runs (replaced S Next behind det places))
            (λ o' n e P h j m mid Q b. given_alone arguments_found places b (uncalled_at S Next behind det other b))

        pub callee_new_given : {ps : Parts} {to : S} {B : List Pair} {st en : ℕ} → t.class ≡ IdentifierName → t.text ≡ codes "new" → FoundParts S Next behind o argument_pieces x2 to ps B →
            Placed S Next behind (expr New true Any) (node NewExpression [] plain st en (part u ps)) s0 to → ClimbingCallee S Next behind det o Member s0 (node NewExpression [] plain st en (part u ps)) to (A ++ B)
        callee_new_given class text arguments_found places = callee_start S Next behind det refl
            (λ h j tk lo. given_spells h j class text tk arguments_found.runs (replaced S Next behind det places))
            (λ o' y n e P h j m mid Q b closed. given_alone arguments_found places b closed)

      -- no `(` follows
      module _ (alone_there : (v : Token) (k : S) → Reads S Next behind Punctuator (codes "(") e1 v k → ⊥) where
        bare_alone : {o' : ℕ} {y y' : Rank} {i i' : Bool} {f : Start} {n : Tree} {e : S} {P : List Pair} {h : Rank} {j : Bool} {m : Tree} {mid : S} {Q : List Pair} {st en : ℕ} → Placed S Next behind (expr y' i' f) (node NewExpression [] plain st en (part u none)) s0 e1 → Begun S Next behind det o' s0 y i f n e P h j m mid Q →
            Uncalled S Next behind det h m mid → NewCore o' h j f m mid Q → Same st en NewExpression (part u none) e1 A New h m mid Q
        bare_alone places b closed (as_target tree tk pl d eq p said q) = absurd (undotted (callee_new S Next behind found.callee) eq)
        bare_alone places b closed (as_given {x2 = x3} {v = v'} tree tk pl d eq p q) = let same = same_given d eq in absurd (alone_there v' x3 (subst (λ c. Reads S Next behind Punctuator (codes "(") c v' x3) same.0 eq))
        bare_alone places b closed (as_bare tree tk pl d) =
            let same = same_bare b closed tree tk d in
            let where_is = same_places S Next behind det pl places same.0 in
            (same.0, tree ∙ same_node refl refl refl where_is.0 where_is.1 (ap (λ c. part c none) same.1), same.2, tk)

        bare_spells : {f : Start} {st en : ℕ} (h : Rank) (j : Bool) → t.class ≡ IdentifierName → t.text ≡ codes "new" → IsTrue (takes h New) → Placed S Next behind (expr h j f) (node NewExpression [] plain st en (part u none)) s0 e1 → Spells ways S Next behind o (expr h j f) (node NewExpression [] plain st en (part u none)) s0 e1 A
        bare_spells {f} h j class text tk pl = spell S Next behind (at New (term "new" ∷ sp ∷ put (expr New true Any) ∷ [])) (new_without refl) refl tk refl (starts_new f (sp ∷ put (expr New true Any) ∷ []) refl) pl
            (step (token (reads_new class text)) (step laid (last_runs S Next behind (callee_new S Next behind found.callee))))

        -- `new` without arguments
        pub climb_new_bare : {y : Rank} {i : Bool} {f : Start} {st en : ℕ} → (y ≡ New → ⊥) → t.class ≡ IdentifierName → t.text ≡ codes "new" → IsTrue (takes y New) → Placed S Next behind (expr y i f) (node NewExpression [] plain st en (part u none)) s0 e1 →
            Climbing S Next behind det o y i f New s0 (node NewExpression [] plain st en (part u none)) e1 A
        climb_new_bare other class text low places = climb_start S Next behind det low
            (λ h j tk lo. bare_spells h j class text tk (replaced S Next behind det places))
            (λ o' n e P h j m mid Q b. bare_alone places b (uncalled_at S Next behind det other b) (new_core b.core))

        pub callee_new_bare : {st en : ℕ} → t.class ≡ IdentifierName → t.text ≡ codes "new" → Placed S Next behind (expr New true Any) (node NewExpression [] plain st en (part u none)) s0 e1 →
            ClimbingCallee S Next behind det o New s0 (node NewExpression [] plain st en (part u none)) e1 A
        callee_new_bare class text places = callee_start S Next behind det refl
            (λ h j tk lo. bare_spells h j class text tk (replaced S Next behind det places))
            (λ o' y n e P h j m mid Q b closed. bare_alone places b closed (new_core b.core))
