-- Where the symbol or In of a position doesn't take what a token would make, nothing goes on.
use Rattle.std.proofs.Common.{◌≡◌, ℕ, Bool, true, false, List, ◌∷◌, refl, sym, ap, ◌∙◌, subst}
use Rattle.std.specs.Prelude.{IsTrue, Some, codes, not, ◌&&◌, ◌||◌}
use Rattle.std.proofs.lemmas.Bool.{false≢true}
use Rattle.std.proofs.lemmas.Slice.Eq.{bytes_eq-Decides}
use Rattle.tokens.specs.declared.token.TokenClass.{TokenClass}
use Rattle.tokens.specs.declared.token.TokenClass.TheVariants.{IdentifierName, Punctuator, NumericLiteral, StringLiteral, Template, RegularExpressionLiteral, PrivateName, Keyword, End}
use Rattle.tokens.specs.declared.token.Goal.TheVariants.{Div}
use Rattle.tokens.specs.Goals.{allows}
use Rattle.tree.specs.declared.kind.Kind.{Kind}
use Rattle.language.specs.declared.Rank.{Rank}
use Rattle.language.specs.declared.Rank.TheVariants.{Expression, Assignment, Conditional, Exponentiation, Update, LeftHandSide, Call, Member, Relational, Shift}
use Rattle.language.specs.declared.Start.{Start}
use Rattle.tree.specs.declared.kind.Flags.{Flags}
use Rattle.tree.specs.declared.kind.Pair.{Pair}
use Rattle.tree.specs.Tree.{Tree, Parts}
use Rattle.tree.specs.Uses.{implies, has_text}
use Rattle.language.specs.Vocabulary.{is, takes, is_word_operator, Operator, op_binary, op_update, op_none}
use Rattle.language.specs.Pieces.{Role, expr, chain_part, PieceOf, unbroken}
use Rattle.language.specs.Token.{Token}
use Rattle.language.specs.declared.Edge.{Edge}
use Rattle.language.specs.Edges.{edge, edge_as_written}
use Rattle.language.specs.Continuations.{of_class, operation, rank_made_by, holds, stops_at, stops}
use Rattle.language.specs.Promises.{IsDetermined, ReadBy, Stops}
use Rattle.language.specs.Grammar.{ways}
use Rattle.language.specs.Derivation.{Spells, Runs, step, same_line}
use Rattle.language.proofs.climbing.Spine.{Grows}
use Rattle.language.proofs.table.Begins.{first_of, by, retell, taken, div_allows}
use Rattle.language.proofs.table.LeftRecursiveWays.{Led, led_binary, led_power, led_assign, led_postfix, led_sequence, led_conditional, led_dot, led_index, led_call, led_tag, led_chain, Linked, link_dot, link_index, link_call, link_chained_name, link_chained_index, link_chained_call, between}
use Rattle.language.proofs.climbing.SpineContinuations.{Onward, ended, by_led, by_link, by_chain, onward}
use Rattle.language.proofs.table.RightEdges.{Edged, edged, led_holds, linked_holds}
use Rattle.language.proofs.table.Reaches.{Reaches, reaches, led_symbol, linked_symbol, loose_of, binds_loose}

-- a token with the text `in` makes a relational node, or nothing
in_makes : (c : TokenClass) (w : List ℕ) {x : Operator} → w ≡ codes "in" → of_class c w ≡ x → (x ≡ op_binary false Relational Shift → ⊥) → (x ≡ op_none → ⊥) → ⊥
in_makes IdentifierName w e h f g = f (sym h ∙ ap (of_class IdentifierName) e)
in_makes Punctuator w e h f g = g (sym h ∙ ap (of_class Punctuator) e)
in_makes Template w e h f g = g (sym h ∙ ap (of_class Template) e)
in_makes NumericLiteral w e h f g = g (sym h)
in_makes StringLiteral w e h f g = g (sym h)
in_makes RegularExpressionLiteral w e h f g = g (sym h)
in_makes PrivateName w e h f g = g (sym h)
in_makes Keyword w e h f g = g (sym h)
in_makes End w e h f g = g (sym h)

-- an operator that isn't one with two sides asks for no In
pub no_in : (t : Token) (i : Bool) {x : Operator} → operation t ≡ x → (x ≡ op_binary false Relational Shift → ⊥) → (x ≡ op_none → ⊥) → IsTrue (implies (is t.text "in") i)
no_in t i h f g = go (is t.text "in") refl
  where
    go : (b : Bool) → is t.text "in" ≡ b → IsTrue (implies b i)
    go false e = refl
    go true e = absurd (in_makes t.class t.text ((bytes_eq-Decides t.text (codes "in")).0 e) h f g)

no_way : (a b c d : Bool) → a ≡ true → (not b || c) ≡ true → d ≡ true → (not a || ((b && not c) || not d)) ≡ true → ⊥
no_way true true true true h k d l = cc
no_way true true false d h k e l = cc
no_way true false c true h k d l = cc
no_way a b c false h k d l = cc
no_way false b c d h k e l = cc

pub no_spine : {h : Rank} {j : Bool} {f g : Start} → expr h j f ≡ chain_part g → ⊥
no_spine e = cc

module _ (S : Type 0) (Next : S → Token → S → Type 0) (behind : S → Token) (det : IsDetermined S Next behind) where
  pub text_taken : {o : ℕ} {ps : Parts} {s m e : S} {P : List Pair} {c : TokenClass} {w : List ℕ} {t : Token} (qs : List (PieceOf Role)) → first_of qs ≡ by c w → IsTrue (allows Div c w) →
      Runs ways S Next behind o qs ps s e P → ReadBy S Next behind Div s t m → t.text ≡ w
  text_taken qs h al d r = (taken S Next behind det Div qs h al d r).text

  -- the token is the node's text, where the node has one
  pub led_text : {y : Rank} {i : Bool} {f : Start} {k : Kind} {w : List ℕ} {g : Flags} {ps ps' : Parts} {b : Role} {rest : List (PieceOf Role)} {x : Operator} {o : ℕ} {s m e : S} {P : List Pair} {t : Token} →
      Led y i f k w g ps b rest x → has_text k ≡ true → Runs ways S Next behind o rest ps' s e P → ReadBy S Next behind Div s t m → t.text ≡ w
  led_text {w = w} (led_binary k op tk im b e) h d r = text_taken (between w _) refl (div_allows (is_word_operator w) w) (retell S Next behind e d) r
  led_text {w = w} (led_power k op tk b e) h d r = text_taken (between w _) refl (div_allows (is_word_operator w) w) (retell S Next behind e d) r
  led_text {w = w} (led_assign k op ta tk b e) h d r = text_taken (between w _) refl (div_allows (is_word_operator w) w) (retell S Next behind e d) r
  led_text {w = w} {rest = rest} (led_postfix k op ta p tk b e) h d r = text_taken rest (ap first_of e) (div_allows false w) d r
  led_text (led_sequence k c tk b e) h d r = absurd (false≢true (sym (ap has_text k) ∙ h))
  led_text (led_conditional k tk b e) h d r = absurd (false≢true (sym (ap has_text k) ∙ h))
  led_text (led_dot k o c s tk b e) h d r = absurd (false≢true (sym (ap has_text k) ∙ h))
  led_text (led_index k o c s tk b e) h d r = absurd (false≢true (sym (ap has_text k) ∙ h))
  led_text (led_call k o s tk b e) h d r = absurd (false≢true (sym (ap has_text k) ∙ h))
  led_text (led_tag k tk b e) h d r = absurd (false≢true (sym (ap has_text k) ∙ h))
  led_text (led_chain k c tk b e) h d r = absurd (false≢true (sym (ap has_text k) ∙ h))

  pub unbroken_runs : {o : ℕ} {qs : List (PieceOf Role)} {ps : Parts} {s m e : S} {P : List Pair} {t : Token} → Runs ways S Next behind o (unbroken ∷ qs) ps s e P → ReadBy S Next behind Div s t m → t.after_break ≡ false
  unbroken_runs {s = s} {m = m} {t = t} (step (same_line {t = u} {e = e} nx h) d) r = det.break s t u m e r.next nx ∙ h

  -- the symbol of what a token makes
  pub led_makes : {y : Rank} {i : Bool} {f : Start} {k : Kind} {w : List ℕ} {g : Flags} {ps ps' : Parts} {b : Role} {rest : List (PieceOf Role)} {x : Operator} {o : ℕ} {s m e : S} {P : List Pair} {t : Token} →
      Led y i f k w g ps b rest x → (x ≡ op_none → ⊥) → Runs ways S Next behind o rest ps' s e P → ReadBy S Next behind Div s t m → (z : Rank) × (rank_made_by x t.after_break ≡ Some z)
  led_makes (led_binary {z = z} k op tk im b e) h d r = (z, refl)
  led_makes (led_power k op tk b e) h d r = (Exponentiation, refl)
  led_makes (led_assign k op ta tk b e) h d r = (Assignment, refl)
  led_makes (led_postfix k op ta p tk b e) h d r = (Update, ap (rank_made_by op_update) (unbroken_runs (retell S Next behind e d) r))
  led_makes (led_sequence k c tk b e) h d r = (Expression, refl)
  led_makes (led_conditional k tk b e) h d r = (Conditional, refl)
  led_makes (led_dot k o c s tk b e) h d r = (Member, refl)
  led_makes (led_index k o c s tk b e) h d r = (Member, refl)
  led_makes (led_call k o s tk b e) h d r = (Call, refl)
  led_makes (led_tag k tk b e) h d r = (Member, refl)
  led_makes (led_chain k c tk b e) h d r = absurd (h refl)

  pub linked_makes : {f : Start} {k : Kind} {g : Flags} {ps : Parts} {b : Role} {rest : List (PieceOf Role)} {x : Operator} (n : Bool) → Linked f k g ps b rest x → (z : Rank) × (rank_made_by x n ≡ Some z)
  linked_makes n (link_dot k o c fc b e) = (Member, refl)
  linked_makes n (link_index k o c fc b e) = (Member, refl)
  linked_makes n (link_call k o fc b e) = (Call, refl)
  linked_makes n (link_chained_name k o c b e) = (LeftHandSide, refl)
  linked_makes n (link_chained_index k o c b e) = (LeftHandSide, refl)
  linked_makes n (link_chained_call k o b e) = (LeftHandSide, refl)

  -- In is there where the token is `in`
  led_in : {y : Rank} {i : Bool} {f : Start} {k : Kind} {w : List ℕ} {g : Flags} {ps ps' : Parts} {b : Role} {rest : List (PieceOf Role)} {x : Operator} {o : ℕ} {s m e : S} {P : List Pair} {t : Token} (y0 : Rank) (i0 : Bool) →
      Reaches y0 y i0 i → Led y i f k w g ps b rest x → (x ≡ op_none → ⊥) → operation t ≡ x → Runs ways S Next behind o rest ps' s e P → ReadBy S Next behind Div s t m → IsTrue (implies (is t.text "in") i0)
  led_in {y} {w = w} {t = t} y0 i0 u (led_binary {l = l} {z = z} {q = q} k op tk im b e) h op' d r =
      let w' : t.text ≡ w = text_taken (between w _) refl (div_allows (is_word_operator w) w) (retell S Next behind e d) r in
      subst (λ v. IsTrue (implies (is v "in") i0)) (sym w') (subst (λ j. IsTrue (implies (is w "in") j)) (u.same_in (loose_of y z tk (binds_loose w op))).1 im)
  led_in {t = t} y0 i0 u (led_power k op tk b e) h op' d r = no_in t i0 op' (λ c. cc) h
  led_in {t = t} y0 i0 u (led_assign k op ta tk b e) h op' d r = no_in t i0 op' (λ c. cc) h
  led_in {t = t} y0 i0 u (led_postfix k op ta p tk b e) h op' d r = no_in t i0 op' (λ c. cc) h
  led_in {t = t} y0 i0 u (led_sequence k c tk b e) h op' d r = no_in t i0 op' (λ c. cc) h
  led_in {t = t} y0 i0 u (led_conditional k tk b e) h op' d r = no_in t i0 op' (λ c. cc) h
  led_in {t = t} y0 i0 u (led_dot k o c s tk b e) h op' d r = no_in t i0 op' (λ c. cc) h
  led_in {t = t} y0 i0 u (led_index k o c s tk b e) h op' d r = no_in t i0 op' (λ c. cc) h
  led_in {t = t} y0 i0 u (led_call k o s tk b e) h op' d r = no_in t i0 op' (λ c. cc) h
  led_in {t = t} y0 i0 u (led_tag k tk b e) h op' d r = no_in t i0 op' (λ c. cc) h
  led_in y0 i0 u (led_chain k c tk b e) h op' d r = absurd (h refl)

  linked_in : {f : Start} {k : Kind} {g : Flags} {ps : Parts} {b : Role} {rest : List (PieceOf Role)} {x : Operator} (t : Token) (i0 : Bool) → Linked f k g ps b rest x → operation t ≡ x → IsTrue (implies (is t.text "in") i0)
  linked_in t i0 (link_dot k o c fc b e) op = no_in t i0 op (λ c. cc) (λ c. cc)
  linked_in t i0 (link_index k o c fc b e) op = no_in t i0 op (λ c. cc) (λ c. cc)
  linked_in t i0 (link_call k o fc b e) op = no_in t i0 op (λ c. cc) (λ c. cc)
  linked_in t i0 (link_chained_name k o c b e) op = no_in t i0 op (λ c. cc) (λ c. cc)
  linked_in t i0 (link_chained_index k o c b e) op = no_in t i0 op (λ c. cc) (λ c. cc)
  linked_in t i0 (link_chained_call k o b e) op = no_in t i0 op (λ c. cc) (λ c. cc)

  -- the position takes what the token would make, and the edge can be its left part
  pub record Takes (y : Rank) (i : Bool) (x : Edge) (t : Token) : Type 0 where
    pub symbol : Rank
    pub makes : rank_made_by (operation t) t.after_break ≡ Some symbol
    pub taken : IsTrue (takes y symbol)
    pub has_in : IsTrue (implies (is t.text "in") i)
    pub held : IsTrue (holds x symbol)

  -- what stands so far is the whole
  pub record Ended (a : Role) (n : Tree) (e : S) (P : List Pair) (b : Role) (m : Tree) (mid : S) (Q : List Pair) : Type 0 where
    pub role : a ≡ b
    pub tree : n ≡ m
    pub place : e ≡ mid
    pub pairs : P ≡ Q

  -- Where the position doesn't take what the token that is read would make, what stands so far is the whole.
  pub ends : {o o' : ℕ} {s0 e x : S} {y : Rank} {i : Bool} {f : Start} {n : Tree} {P : List Pair} {h : Rank} {j : Bool} {f' : Start} {m : Tree} {mid : S} {Q R : List Pair} {t : Token} →
      Spells ways S Next behind o' (expr h j f') m s0 mid R → ReadBy S Next behind Div mid t x → (Takes y i (edge_as_written (edge m) (behind mid)) t → ⊥) → Grows S Next behind o s0 (expr y i f) n e P (expr h j f') m mid Q →
      Ended (expr y i f) n e P (expr h j f') m mid Q
  ends {o} {s0 = s0} {e = e} {x = x} {y = y} {i = i} {f = f} {n = n} {P = P} {h = h} {j = j} {f' = f'} {m = m} {mid = mid} {Q = Q} {t = t} sp r refused gs = of (onward S Next behind det refl r gs)
    where
      edge_is : Edged h (edge m) (behind mid)
      edge_is = edged S Next behind det sp

      of : Onward S Next behind det o s0 (expr y i f) n e P (expr h j f') m mid Q t → Ended (expr y i f) n e P (expr h j f') m mid Q
      of (ended a b c d) = record { role = a; tree = b; place = c; pairs = d }
      of (by_led {y = y2} {i = i2} {f = f2} led some op lean d pl grown gs') =
          let z = led_makes led some d r in
          let u = reaches S Next behind gs' in
          absurd (refused (record {
            symbol = z.0;
            makes = ap (λ v. rank_made_by v t.after_break) op ∙ z.1;
            taken = u.taken z.0 (led_symbol t.after_break led z.1);
            has_in = led_in y i u led some op d r;
            held = led_holds t.after_break led z.1 edge_is;
          }))
      of (by_link {f = f2} linked op lean d pl grown gs') =
          let z = linked_makes t.after_break linked in
          absurd (refused (record {
            symbol = z.0;
            makes = ap (λ v. rank_made_by v t.after_break) op ∙ z.1;
            taken = linked_symbol y t.after_break (reaches S Next behind gs') linked z.1;
            has_in = linked_in t i linked op;
            held = linked_holds z.0 linked edge_is;
          }))
      of (by_chain b tk lean pl grown gs') = absurd (no_spine b)

  -- the test of what can go on says so
  pub stops_none : (y : Rank) (i : Bool) (t : Token) (x : Edge) → IsTrue (stops_at y i x t (rank_made_by (operation t) t.after_break)) → Takes y i x t → ⊥
  stops_none y i t x h k =
      let u : stops_at y i x t (Some k.symbol) ≡ true = subst (λ v. stops_at y i x t v ≡ true) k.makes h in
      no_way (takes y k.symbol) (is t.text "in") i (holds x k.symbol) k.taken k.has_in k.held u

  -- so what stands so far, spelled at its position, is the whole where the test says that nothing goes on
  pub ends_where_stops : {o o' : ℕ} {s0 e x : S} {y : Rank} {i : Bool} {f : Start} {n : Tree} {P : List Pair} {h : Rank} {j : Bool} {f' : Start} {m : Tree} {mid : S} {Q R : List Pair} {t : Token} →
      Spells ways S Next behind o' (expr h j f') m s0 mid R → ReadBy S Next behind Div mid t x → IsTrue (stops y i (edge m) (behind mid) t) → Grows S Next behind o s0 (expr y i f) n e P (expr h j f') m mid Q →
      Ended (expr y i f) n e P (expr h j f') m mid Q
  ends_where_stops {y = y} {i = i} {m = m} {mid = mid} {t = t} sp r h gs = ends sp r (stops_none y i t (edge_as_written (edge m) (behind mid)) h) gs

  -- where the test says that something goes on, what stands so far isn't the whole of what can't go on
  pub goes_where_not : {e x : S} (y : Rank) (i : Bool) {a : Role} {n : Tree} {P : List Pair} {b : Role} {m : Tree} {mid : S} {Q : List Pair} {t : Token} →
      ReadBy S Next behind Div mid t x → Stops S Next behind y i n e → stops y i (edge m) (behind mid) t ≡ false → Ended a n e P b m mid Q → ⊥
  goes_where_not {e} {x} y i {n = n} {m = m} {mid = mid} {t = t} r st goes u =
      let h : stops y i (edge n) (behind e) t ≡ true = st.before t x (subst (λ z. ReadBy S Next behind Div z t x) (sym u.place) r) in
      let k : stops y i (edge m) (behind mid) t ≡ true = subst (λ z. stops y i (edge m) (behind z) t ≡ true) u.place (subst (λ z. stops y i (edge z) (behind e) t ≡ true) u.tree h) in
      false≢true (sym goes ∙ k)
