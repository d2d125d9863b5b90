-- A turn of the loop at the `?` of a conditional.
use Rattle.std.proofs.Common.{◌≡◌, ℕ, Bool, true, false, List, [], ◌∷◌, ◌++◌, refl, sym, ap, ◌∙◌, subst}
use Rattle.std.specs.Prelude.{IsTrue, Some, codes}
use Rattle.tokens.specs.declared.token.TokenClass.{TokenClass}
use Rattle.tokens.specs.declared.token.TokenClass.TheVariants.{Punctuator}
use Rattle.tokens.specs.declared.token.Goal.TheVariants.{Div}
use Rattle.tokens.specs.Goals.{allows}
use Rattle.tree.specs.declared.kind.Kind.{Kind}
use Rattle.tree.specs.declared.kind.Kind.TheVariants.{ConditionalExpression}
use Rattle.language.specs.declared.Rank.{Rank}
use Rattle.language.specs.declared.Rank.TheVariants.{Assignment, Conditional, ShortCircuit}
use Rattle.language.specs.declared.Start.{Start}
use Rattle.language.specs.declared.Start.TheVariants.{Any}
use Rattle.language.specs.declared.Edge.{Edge}
use Rattle.tree.specs.declared.kind.Flags.{Flags}
use Rattle.tree.specs.declared.kind.Pair.{Pair}
use Rattle.tree.specs.Tree.{Tree, node, Parts, none, part, bare, plain}
use Rattle.tree.specs.Uses.{used_flags, has_text}
use Rattle.tree.proofs.Lean.{lean_flags, lean_text}
use Rattle.language.specs.Vocabulary.{takes, precedence, Operator, op_question}
use Rattle.language.specs.Pieces.{Role, expr, PieceOf, lay, tok, sub, space}
use Rattle.language.specs.Token.{Token}
use Rattle.language.specs.Edges.{edge}
use Rattle.language.specs.Continuations.{of_class, operation, rank_made_by, stops_at, stops}
use Rattle.language.specs.Promises.{IsDetermined, ReadBy, Stops, Found}
use Rattle.language.specs.Grammar.{ways}
use Rattle.language.specs.Derivation.{Reads, Spells, Placed}
use Rattle.language.proofs.climbing.Spine.{Grows}
use Rattle.language.proofs.table.Begins.{retell}
use Rattle.language.proofs.table.LeftRecursiveWays.{Led, led_conditional}
use Rattle.language.proofs.climbing.SpineContinuations.{makes}
use Rattle.language.proofs.climbing.RightOperands.{branches}
use Rattle.language.proofs.table.OperatorTokens.{reads_question}
use Rattle.language.proofs.climbing.OperatorNodes.{conditional_grows}
use Rattle.language.proofs.table.Reaches.{loose_of, reaches}
use Rattle.language.proofs.climbing.NoContinuation.{goes_where_not}
use Rattle.language.proofs.table.Tails.{tails_conditional}
use Rattle.language.proofs.climbing.OperatorLoop.{goes_on, Leads, Climbing, led_on, stops_inside}
use Rattle.language.proofs.climbing.BinaryTurns.{same_node, replaced, same_places, retold, regrown}
use Rattle.language.proofs.climbing.NamesBehind.{apart_sign}

rank_is : {y z : Rank} {i j : Bool} {f g : Start} → expr y i f ≡ expr z j g → y ≡ z
rank_is e = cc

some_same : {b c : Rank} → Some b ≡ Some c → b ≡ c
some_same e = cc

-- the way of a conditional, whose head stands at h
record AskLed (y : Rank) (i : Bool) (k : Kind) (h : Rank) (rest : List (PieceOf Role)) : Type 0 where
  kind : k ≡ ConditionalExpression
  head : h ≡ ShortCircuit
  stands : IsTrue (takes y Conditional)
  rest_is : rest ≡ lay space ∷ tok Punctuator (codes "?") ∷ lay space ∷ sub (expr Assignment true Any) ∷ lay space ∷ tok Punctuator (codes ":") ∷ lay space ∷ sub (expr Assignment i Any) ∷ []

ask_led : {y : Rank} {i : Bool} {f : Start} {k : Kind} {w : List ℕ} {g : Flags} {ps : Parts} {h : Rank} {j : Bool} {f' : Start} {rest : List (PieceOf Role)} → Led y i f k w g ps (expr h j f') rest op_question → AskLed y i k h rest
ask_led (led_conditional k tk b e) = record { kind = k; head = rank_is b; stands = tk; rest_is = e }

module _ (S : Type 0) (Next : S → Token → S → Type 0) (behind : S → Token) (det : IsDetermined S Next behind) where
  -- one sign or word at a place is the token that the goal reads there
  pub read_there : {c : TokenClass} {w : List ℕ} {s e m : S} {t u : Token} → Reads S Next behind c w s t e → IsTrue (allows Div c w) → ReadBy S Next behind Div s u m → (u ≡ t) × (m ≡ e)
  read_there {c} {w} {s} {e} {m} {t} {u} h al r =
      let al' : IsTrue (allows Div t.class t.text) = subst (λ v. IsTrue (allows Div v t.text)) (sym h.class) (subst (λ v. IsTrue (allows Div c v)) (sym h.text) al) in
      det.same Div s u t m e r.next h.next r.allowed al'

  -- two readings of the same sign are one
  pub same_sign : {w : List ℕ} {s e e' : S} {t t' : Token} → Reads S Next behind Punctuator w s t e → Reads S Next behind Punctuator w s t' e' → IsTrue (allows Div Punctuator w) → (t ≡ t') × (e ≡ e')
  same_sign {w} {s} {e} {e'} {t} {t'} h k al =
      let al' : IsTrue (allows Div t.class t.text) = subst (λ v. IsTrue (allows Div v t.text)) (sym h.class) (subst (λ v. IsTrue (allows Div Punctuator v)) (sym h.text) al) in
      read_there k al (record { next = h.next; allowed = al' })

  -- before a sign that makes nothing at the symbol, nothing goes on
  pub stops_before : {w : List ℕ} {s e : S} {t : Token} {x : Operator} (y : Rank) (i : Bool) (n : Tree) → Reads S Next behind Punctuator w s t e → IsTrue (allows Div Punctuator w) → of_class Punctuator w ≡ x →
      ((c : Edge) (u : Token) → stops_at y i c u (rank_made_by x u.after_break) ≡ true) → Stops S Next behind y i n s
  stops_before {w} {s} {e} {t} {x} y i n h al op none_made = record { before = at; apart = apart_sign S Next behind det h al }
    where
      at : (u : Token) (m : S) → ReadBy S Next behind Div s u m → IsTrue (stops y i (edge n) (behind s) u)
      at u m r =
          let same = read_there h al r in
          let op' : operation u ≡ x = ap operation same.0 ∙ makes t h.class h.text op in
          subst (λ v. stops_at y i (Rattle.language.specs.Edges.edge_as_written (edge n) (behind s)) u (rank_made_by v u.after_break) ≡ true) (sym op') (none_made (Rattle.language.specs.Edges.edge_as_written (edge n) (behind s)) u)

  -- the conditional on the spine of a whole that can't go on, with what stands behind `?` and behind `:`
  pub record AskOn (o : ℕ) (s0 : S) (y : Rank) (i : Bool) (f : Start) (n : Tree) (e : S) (P : List Pair) (m : Tree) (x : S) (Q : List Pair) (c : Rank) : Type 0 where
    pub h : Rank
    pub g : Start
    pub st : ℕ
    pub en : ℕ
    pub consequent : Tree
    pub place : S
    pub first_pairs : List Pair
    pub colon : Token
    pub next_place : S
    pub alternate : Tree
    pub to : S
    pub more_pairs : List Pair
    pub fits : IsTrue (takes ShortCircuit c)
    pub stands : IsTrue (takes h Conditional)
    pub one : Spells ways S Next behind o (expr Assignment true Any) consequent x place first_pairs
    pub one_stops : Stops S Next behind Assignment true consequent place
    pub divides : Reads S Next behind Punctuator (codes ":") place colon next_place
    pub other : Spells ways S Next behind o (expr Assignment i Any) alternate next_place to more_pairs
    pub places : Placed S Next behind (expr h i g) (node ConditionalExpression [] plain st en (part m (part consequent (part alternate none)))) s0 to
    pub spelled : Spells ways S Next behind o (expr h i g) (node ConditionalExpression [] plain st en (part m (part consequent (part alternate none)))) s0 to (Q ++ (first_pairs ++ more_pairs))
    pub grows : Grows S Next behind o s0 (expr y i f) n e P (expr h i g) (node ConditionalExpression [] plain st en (part m (part consequent (part alternate none)))) to (Q ++ (first_pairs ++ more_pairs))

  module _ {y : Rank} {i : Bool} {s0 mid x : S} {m : Tree} {t : Token} (r : ReadBy S Next behind Div mid t x) (is_op : operation t ≡ op_question) (goes : stops y i (edge m) (behind mid) t ≡ false) where
    pub ask_on : {o : ℕ} {f : Start} {n : Tree} {e : S} {P Q : List Pair} {c : Rank} → Stops S Next behind y i n e → Leads S Next behind det o s0 y i f n e P c m mid Q → AskOn o s0 y i f n e P m x Q c
    ask_on {o} {f} {n} {e} {P} {Q} {c} st v =
        let on = led_on S Next behind det r is_op (λ q. cc) (goes_where_not S Next behind det y i r st goes) v.spelled v.grows in
        let led = ask_led on.led in
        let inside : on.i ≡ i = ((reaches S Next behind on.grows).same_in (loose_of on.y Conditional led.stands refl)).1 in
        let b = branches S Next behind det (retell S Next behind led.rest_is on.runs) r in
        let flags : on.g ≡ plain = lean_flags (bare (node on.k on.w on.g on.st on.en (part m on.ps))) on.lean ∙ ap (λ v. used_flags v on.g) led.kind in
        let text : on.w ≡ [] = lean_text (bare (node on.k on.w on.g on.st on.en (part m on.ps))) on.lean (ap has_text led.kind) in
        let same : node on.k on.w on.g on.st on.en (part m on.ps) ≡ node ConditionalExpression [] plain on.st on.en (part m (part b.consequent (part b.alternate none))) = same_node led.kind text flags refl refl (ap (part m) b.parts) in
        let pairs : Q ++ on.more ≡ Q ++ (b.first_pairs ++ b.more_pairs) = ap (λ v. Q ++ v) b.pairs_are in
        let grows : Grows S Next behind o s0 (expr y i f) n e P (expr on.y i on.f) (node ConditionalExpression [] plain on.st on.en (part m (part b.consequent (part b.alternate none)))) on.to (Q ++ (b.first_pairs ++ b.more_pairs)) =
        subst (λ j. Grows S Next behind o s0 (expr y i f) n e P (expr on.y j on.f) (node ConditionalExpression [] plain on.st on.en (part m (part b.consequent (part b.alternate none)))) on.to (Q ++ (b.first_pairs ++ b.more_pairs))) inside
        (regrown S Next behind det same refl pairs on.grows) in
        record {
          h = on.y;
          g = on.f;
          st = on.st;
          en = on.en;
          consequent = b.consequent;
          place = b.place;
          first_pairs = b.first_pairs;
          colon = b.colon;
          next_place = b.next_place;
          alternate = b.alternate;
          to = on.to;
          more_pairs = b.more_pairs;
          fits = subst (λ k. IsTrue (takes k c)) led.head v.fits;
          stands = led.stands;
          one = b.spelled;
          one_stops = stops_before Assignment true b.consequent b.divides refl refl (λ k u. refl);
          divides = b.divides;
          other = subst (λ j. Spells ways S Next behind o (expr Assignment j Any) b.alternate b.next_place on.to b.more_pairs) inside b.other;
          places = replaced S Next behind det (subst (λ k. Placed S Next behind (expr on.y on.i on.f) k s0 on.to) same on.placed);
          spelled = subst (λ j. Spells ways S Next behind o (expr on.y j on.f) (node ConditionalExpression [] plain on.st on.en (part m (part b.consequent (part b.alternate none)))) s0 on.to (Q ++ (b.first_pairs ++ b.more_pairs))) inside
              (retold S Next behind det same refl pairs on.spelled);
          grows = grows;
        }

    -- what stands behind `:` can't go on either, at a position other than Conditional
    other_stops : {o : ℕ} {f : Start} {n : Tree} {e : S} {P Q : List Pair} {c : Rank} → (precedence y ≡ 2 → ⊥) → Stops S Next behind y i n e → (w : AskOn o s0 y i f n e P m x Q c) → Stops S Next behind Assignment i w.alternate w.to
    other_stops is_no st w = stops_inside S Next behind det Conditional Assignment i w.alternate tails_conditional (λ k l. is_no k) w.stands (λ k. refl) refl st w.grows

    module _ {o1 : ℕ} {u : Tree} {e1 : S} {U : List Pair} (found : Found S Next behind o1 Assignment true Any x e1 u U) where
      module _ {colon : Token} {x2 : S} (divides : Reads S Next behind Punctuator (codes ":") e1 colon x2) where
        -- what stands behind `:` in a derivation does so behind this one
        pub record Past (o : ℕ) (f : Start) (n : Tree) (e : S) (P : List Pair) (Q : List Pair) (c : Rank) (w : AskOn o s0 y i f n e P m x Q c) : Type 0 where
          pub place : w.place ≡ e1
          pub tree : w.consequent ≡ u
          pub pairs : w.first_pairs ≡ U
          pub other : Spells ways S Next behind o (expr Assignment i Any) w.alternate x2 w.to w.more_pairs

        -- so it does
        pub past : {o : ℕ} {f : Start} {n : Tree} {e : S} {P Q : List Pair} {c : Rank} (w : AskOn o s0 y i f n e P m x Q c) → Past o f n e P Q c w
        past {o} w =
            let same = found.only o w.place w.consequent w.first_pairs w.one w.one_stops in
            let sign = same_sign (subst (λ k. Reads S Next behind Punctuator (codes ":") k w.colon w.next_place) same.0 w.divides) divides refl in
            record { place = same.0; tree = same.1; pairs = same.2; other = subst (λ k. Spells ways S Next behind o (expr Assignment i Any) w.alternate k w.to w.more_pairs) sign.1 w.other }

        -- the conditional
        pub climb_conditional : {f : Start} {c : Rank} {Q : List Pair} {v : Tree} {to : S} {V : List Pair} {st en : ℕ} → (precedence y ≡ 2 → ⊥) → Climbing S Next behind det o1 y i f c s0 m mid Q → IsTrue (takes ShortCircuit c) →
            Found S Next behind o1 Assignment i Any x2 to v V → Placed S Next behind (expr y i f) (node ConditionalExpression [] plain st en (part m (part u (part v none)))) s0 to →
            Climbing S Next behind det o1 y i f Conditional s0 (node ConditionalExpression [] plain st en (part m (part u (part v none)))) to (Q ++ (U ++ V))
        climb_conditional {f} {c} {Q} {v} {to} {V} {st} {en} is_no climb fits other places =
            let on = goes_on y i (edge m) (behind mid) t goes in
            let same_symbol : on.symbol ≡ Conditional = some_same (sym on.makes ∙ ap (λ v. rank_made_by v t.after_break) is_op) in
            record {
              low = subst (λ v. IsTrue (takes y v)) same_symbol on.taken;
              stands = λ h j tk lo.
                  let same_in : j ≡ i = lo (loose_of h Conditional tk refl) in
                  subst (λ b. Spells ways S Next behind o1 (expr h b f) (node ConditionalExpression [] plain st en (part m (part u (part v none)))) s0 to (Q ++ (U ++ V))) (sym same_in)
                  (conditional_grows S Next behind tk (climb.stands ShortCircuit i fits (λ k. refl)) (reads_question S Next behind r.next is_op) found.spelled divides other.spelled (replaced S Next behind det places));
              leads = λ o' e' n' P' d stopped.
                  let w = ask_on stopped (climb.leads o' e' n' P' d stopped) in
                  let p = past w in
                  let same = other.only o' w.to w.alternate w.more_pairs p.other (other_stops is_no stopped w) in
                  let where_is = same_places S Next behind det w.places places same.0 in
                  let tree : node ConditionalExpression [] plain w.st w.en (part m (part w.consequent (part w.alternate none))) ≡ node ConditionalExpression [] plain st en (part m (part u (part v none))) =
                  same_node refl refl refl where_is.0 where_is.1 (λ k. part m (part (p.tree k) (part (same.1 k) none))) in
                  let pairs : Q ++ (w.first_pairs ++ w.more_pairs) ≡ Q ++ (U ++ V) = λ k. Q ++ (p.pairs k ++ same.2 k) in
                  record { h = w.h; j = i; g = w.g; fits = w.stands; spelled = retold S Next behind det tree same.0 pairs w.spelled; grows = regrown S Next behind det tree same.0 pairs w.grows };
            }
