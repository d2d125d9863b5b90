-- How a spine goes on, by the token that is read behind what stands so far.
use Rattle.std.proofs.Common.{◌≡◌, ℕ, Bool, true, false, cond, List, [], ◌∷◌, ◌++◌, refl, sym, ap, ◌∙◌, subst}
use Rattle.std.specs.Prelude.{IsTrue}
use Rattle.std.proofs.lemmas.Bool.{false≢true}
use Rattle.std.proofs.lemmas.List.{append-nil}
use Rattle.tokens.specs.declared.token.TokenClass.{TokenClass}
use Rattle.tokens.specs.declared.token.TokenClass.TheVariants.{Punctuator}
use Rattle.tokens.specs.declared.token.Goal.TheVariants.{Div}
use Rattle.tokens.specs.Goals.{allows}
use Rattle.tree.specs.declared.kind.Kind.{Kind}
use Rattle.tree.specs.declared.kind.Kind.TheVariants.{TemplateLiteral, TemplateElement, ChainExpression}
use Rattle.language.specs.declared.Rank.{Rank}
use Rattle.language.specs.declared.Rank.TheVariants.{Primary, Relational, Shift, LeftHandSide}
use Rattle.language.specs.declared.Start.{Start}
use Rattle.tree.specs.declared.kind.Flags.{Flags}
use Rattle.tree.specs.declared.kind.Pair.{Pair}
use Rattle.tree.specs.Tree.{Tree, node, Parts, none, part, gap, parts_of, bare, bare_parts}
use Rattle.language.specs.FirstPart.{lead as lead_kind, others}
use Rattle.language.specs.Vocabulary.{is_word_operator, takes, Operator, op_binary, op_update, op_comma, op_template, op_none, operator_of}
use Rattle.language.specs.Pieces.{Role, expr, chain_part, tagged_quasi, template_element, PieceOf, sub, at, is_none}
use Rattle.language.specs.Token.{Token}
use Rattle.language.specs.Continuations.{of_class, operation}
use Rattle.language.specs.Grammar.{spellings, ways}
use Rattle.language.specs.Expressions.{template_elements, sequence}
use Rattle.language.specs.Derivation.{Among, Spells, direct, Runs, done, step, within, Placed}
use Rattle.tree.specs.Uses.{is_lean}
use Rattle.language.proofs.lower_bound.Domination.{settled}
use Rattle.language.proofs.table.ViewIsComplete.{way_of, made, one}
use Rattle.language.proofs.climbing.Spine.{on_spine, grows_on_spine, Grows, whole, grow}
use Rattle.language.proofs.table.Begins.{by, first_of, goes_to, number_laid, laid_first, among_by, word_or_sign, div_allows, retell, begun}
use Rattle.language.specs.Promises.{IsDetermined, ReadBy}
use Rattle.language.proofs.table.LeftRecursiveWays.{Led, led_binary, led_power, led_assign, led_postfix, led_sequence, led_conditional, led_dot, led_index, led_call, led_tag, led_chain, led_of, Linked, link_dot, link_index, link_call, link_chained_name, link_chained_index, link_chained_call, linked_of, between, bracketed, dotted}

-- what a word operator makes
data OfWord (w : List ℕ) : Type 0 where
  relates : operator_of w ≡ op_binary false Relational Shift → OfWord w
  nothing_made : operator_of w ≡ op_none → OfWord w

of_word : (w : List ℕ) → is_word_operator w ≡ true → OfWord w
of_word w h = among_by OfWord w ("delete" ∷ "void" ∷ "typeof" ∷ "in" ∷ "instanceof" ∷ []) h (nothing_made refl, (nothing_made refl, (nothing_made refl, (relates refl, (relates refl, tt)))))

-- the text of `++` or `--` is no word
pub steps_no_word : (w : List ℕ) → operator_of w ≡ op_update → is_word_operator w ≡ false
steps_no_word w h = go (is_word_operator w) refl
  where
    not_steps : OfWord w → ⊥
    not_steps (relates e) = let u = sym h ∙ e in cc
    not_steps (nothing_made e) = let u = sym h ∙ e in cc

    go : (b : Bool) → is_word_operator w ≡ b → is_word_operator w ≡ false
    go false e = e
    go true e = absurd (not_steps (of_word w e))

pub steps_sign : (w : List ℕ) → operator_of w ≡ op_update → of_class Punctuator w ≡ op_update
steps_sign w h = ap (λ b. cond b op_none (operator_of w)) (steps_no_word w h) ∙ h

-- a token of this class and text makes the operator
pub makes : (t : Token) {c : TokenClass} {w : List ℕ} {x : Operator} → t.class ≡ c → t.text ≡ w → of_class c w ≡ x → operation t ≡ x
makes t {c} c' w' e = ap (λ d. of_class d t.text) c' ∙ ap (of_class c) w' ∙ e

module _ (S : Type 0) (Next : S → Token → S → Type 0) (behind : S → Token) (det : IsDetermined S Next behind) where
  -- the token with which something goes on at a place, by the goal for what stands behind an operand
  pub record Goes (x : Operator) (s : S) : Type 0 where
    pub token : Token
    pub mid : S
    pub read : ReadBy S Next behind Div s token mid
    pub goes : operation token ≡ x

  -- the pieces begin with a token that makes the operator
  by_token : {o : ℕ} {ps : Parts} {s e : S} {P : List Pair} {c : TokenClass} {w : List ℕ} {x : Operator} (qs : List (PieceOf Role)) → first_of qs ≡ by c w → IsTrue (allows Div c w) → of_class c w ≡ x →
      Runs ways S Next behind o qs ps s e P → Goes x s
  by_token {c = c} qs h al e d = let u = begun S Next behind qs h d in
      let al' : IsTrue (allows Div u.token.class u.token.text) = subst (λ x. IsTrue (allows Div x u.token.text)) (sym u.class) (subst (λ x. IsTrue (allows Div c x)) (sym u.text) al) in
      record { token = u.token; mid = u.mid; read = record { next = u.next; allowed = al' }; goes = makes u.token u.class u.text e }

  -- a template begins with one that makes a tag of what stands before it
  chunk_tags : {o : ℕ} {y : Bool} {n : Tree} {s e : S} {P : List Pair} → Spells ways S Next behind o (template_element true y) n s e P → Goes op_template s
  unfolding spellings
  chunk_tags {y = y} {n = node TemplateElement w g a b ps} (direct qs h pl d) =
      let v = way_of h in
      by_token qs (ap first_of v.is ∙ ap (λ x. first_of (settled (template_element true y) x)) (one v.listed)) refl refl d
  chunk_tags {n = node _ w g a b ps} (direct qs h pl d) = elim ((way_of h).listed) [ ]

  pub quasi_tags : {o : ℕ} {n : Tree} {s e : S} {P : List Pair} → Spells ways S Next behind o tagged_quasi n s e P → Goes op_template s
  unfolding spellings
  quasi_tags {n = node TemplateLiteral w g a b ps} (direct qs h pl d) = let v = way_of h in
      of_chunks ps (bare_parts ps) (retell S Next behind (v.is ∙ ap (settled tagged_quasi) (one v.listed)) d)
    where
      of_chunks : {o : ℕ} {s e : S} {P : List Pair} (ps qs : Parts) → Runs ways S Next behind o (settled tagged_quasi (at Primary (template_elements true qs))) ps s e P → Goes op_template s
      of_chunks ps none (step p d) = elim p [ ]
      of_chunks ps (gap qs) (step p d) = elim p [ ]
      of_chunks ps (part q none) (step p d) = elim p [ ]
      of_chunks ps (part q none) (within p d) = chunk_tags p
      of_chunks ps (part q (gap qs)) (step p d) = elim p [ ]
      of_chunks ps (part q (part x qs)) (step p d) = elim p [ ]
      of_chunks ps (part q (part x qs)) (within p d) = chunk_tags p
  quasi_tags {n = node _ w g a b ps} (direct qs h pl d) = elim ((way_of h).listed) [ ]

  tag_runs : {o : ℕ} {ps : Parts} {s e : S} {P : List Pair} → Runs ways S Next behind o (sub tagged_quasi ∷ []) ps s e P → Goes op_template s
  tag_runs (within p d) = quasi_tags p
  tag_runs (step p d) = elim p [ ]

  comma_runs : {o : ℕ} {ps : Parts} {s e : S} {P : List Pair} (y : Rank) (i : Bool) (f : Start) (qs : Parts) → is_none qs ≡ false →
      Runs ways S Next behind o (goes_to y i f (sequence qs)) ps s e P → Goes op_comma s
  comma_runs y i f none h d = cc
  comma_runs y i f (gap qs) h (step p d) = elim p [ ]
  comma_runs y i f (part n qs) h d = by_token (goes_to y i f (sequence (part n qs))) refl refl refl d

  -- the token that is read behind the head of a way makes its operator
  pub led_read : {y : Rank} {i : Bool} {f : Start} {k : Kind} {w : List ℕ} {g : Flags} {ps ps' : Parts} {b : Role} {rest : List (PieceOf Role)} {x : Operator} {o : ℕ} {s e : S} {P : List Pair} →
      Led y i f k w g ps b rest x → (x ≡ op_none → ⊥) → Runs ways S Next behind o rest ps' s e P → Goes x s
  led_read {w = w} (led_binary k op tk im b e) h d = by_token (between w _) refl (div_allows (is_word_operator w) w) (word_or_sign w ∙ op) (retell S Next behind e d)
  led_read {w = w} (led_power k op tk b e) h d = by_token (between w _) refl (div_allows (is_word_operator w) w) (word_or_sign w ∙ op) (retell S Next behind e d)
  led_read {w = w} (led_assign k op ta tk b e) h d = by_token (between w _) refl (div_allows (is_word_operator w) w) (word_or_sign w ∙ op) (retell S Next behind e d)
  led_read {w = w} {rest = rest} (led_postfix k op ta p tk b e) h d = by_token rest (ap first_of e) (div_allows false w) (steps_sign w op) d
  led_read {y} {i} {f} {ps = ps} (led_sequence k c tk b e) h d = comma_runs y i f (others ps) c (retell S Next behind e d)
  led_read {rest = rest} (led_conditional k tk b e) h d = by_token rest (ap first_of e) refl refl d
  led_read {y} {i} {f} {g = g} {ps = ps} {rest = rest} (led_dot k o c s tk b e) h d = by_token rest (ap first_of e ∙ laid_first y i f (dotted (lead_kind (others ps))) (number_laid ps g)) refl refl d
  led_read {y} {i} {f} {g = g} {ps = ps} {rest = rest} (led_index k o c s tk b e) h d = by_token rest (ap first_of e ∙ laid_first y i f bracketed (number_laid ps g)) refl refl d
  led_read {rest = rest} (led_call k o s tk b e) h d = by_token rest (ap first_of e) refl refl d
  led_read (led_tag k tk b e) h d = tag_runs (retell S Next behind e d)
  led_read (led_chain k c tk b e) h d = absurd (h refl)

  pub linked_read : {f : Start} {k : Kind} {g : Flags} {ps ps' : Parts} {b : Role} {rest : List (PieceOf Role)} {x : Operator} {o : ℕ} {s e : S} {P : List Pair} →
      Linked f k g ps b rest x → Runs ways S Next behind o rest ps' s e P → Goes x s
  linked_read {rest = rest} (link_dot k o c fc b e) d = by_token rest (ap first_of e) refl refl d
  linked_read {rest = rest} (link_index k o c fc b e) d = by_token rest (ap first_of e) refl refl d
  linked_read {rest = rest} (link_call k o fc b e) d = by_token rest (ap first_of e) refl refl d
  linked_read {rest = rest} (link_chained_name k o c b e) d = by_token rest (ap first_of e) refl refl d
  linked_read {rest = rest} (link_chained_index k o c b e) d = by_token rest (ap first_of e) refl refl d
  linked_read {rest = rest} (link_chained_call k o b e) d = by_token rest (ap first_of e) refl refl d

  -- so the token that the goal reads is that one
  pub goes_with : {x : Operator} {s m : S} {t : Token} → Goes x s → ReadBy S Next behind Div s t m → operation t ≡ x
  goes_with {s = s} {m = m} {t = t} u r = ap operation (det.same Div s t u.token m u.mid r.next u.read.next r.allowed u.read.allowed).0 ∙ u.goes

  -- What stands so far, m at b up to mid, in what the whole n at a is: it is the whole; or a way goes on with the token that is read
  -- behind it; or a chain ends there. Where it is spelled at b, so is then what it has grown to.
  pub data Onward (o : ℕ) (s0 : S) (a : Role) (n : Tree) (e : S) (P : List Pair) (b : Role) (m : Tree) (mid : S) (Q : List Pair) (t : Token) : Type 0 where
    ended : a ≡ b → n ≡ m → e ≡ mid → P ≡ Q → Onward o s0 a n e P b m mid Q t
    by_led : {y : Rank} {i : Bool} {f : Start} {k : Kind} {w : List ℕ} {g : Flags} {st en : ℕ} {ps : Parts} {rest : List (PieceOf Role)} {to : S} {R : List Pair} {x : Operator} →
        Led y i f k w g (bare_parts (part m ps)) b rest x → (x ≡ op_none → ⊥) → operation t ≡ x → is_lean (bare (node k w g st en (part m ps))) ≡ true →
        Runs ways S Next behind o rest ps mid to R → Placed S Next behind (expr y i f) (node k w g st en (part m ps)) s0 to →
        (Spells ways S Next behind o b m s0 mid Q → Spells ways S Next behind o (expr y i f) (node k w g st en (part m ps)) s0 to (Q ++ R)) →
        Grows S Next behind o s0 a n e P (expr y i f) (node k w g st en (part m ps)) to (Q ++ R) → Onward o s0 a n e P b m mid Q t
    by_link : {f : Start} {k : Kind} {w : List ℕ} {g : Flags} {st en : ℕ} {ps : Parts} {rest : List (PieceOf Role)} {to : S} {R : List Pair} {x : Operator} →
        Linked f k g (bare_parts (part m ps)) b rest x → operation t ≡ x → is_lean (bare (node k w g st en (part m ps))) ≡ true →
        Runs ways S Next behind o rest ps mid to R → Placed S Next behind (chain_part f) (node k w g st en (part m ps)) s0 to →
        (Spells ways S Next behind o b m s0 mid Q → Spells ways S Next behind o (chain_part f) (node k w g st en (part m ps)) s0 to (Q ++ R)) →
        Grows S Next behind o s0 a n e P (chain_part f) (node k w g st en (part m ps)) to (Q ++ R) → Onward o s0 a n e P b m mid Q t
    by_chain : {y : Rank} {i : Bool} {f : Start} {w : List ℕ} {g : Flags} {st en : ℕ} →
        b ≡ chain_part f → IsTrue (takes y LeftHandSide) → is_lean (bare (node ChainExpression w g st en (part m none))) ≡ true →
        Placed S Next behind (expr y i f) (node ChainExpression w g st en (part m none)) s0 mid →
        (Spells ways S Next behind o b m s0 mid Q → Spells ways S Next behind o (expr y i f) (node ChainExpression w g st en (part m none)) s0 mid Q) →
        Grows S Next behind o s0 a n e P (expr y i f) (node ChainExpression w g st en (part m none)) mid Q → Onward o s0 a n e P b m mid Q t

  -- whether it is no operator
  data Nothing (x : Operator) : Type 0 where
    it_is : x ≡ op_none → Nothing x
    it_isnt : (x ≡ op_none → ⊥) → Nothing x

  nothing_or : (x : Operator) → Nothing x
  nothing_or op_none = it_is refl
  nothing_or _ = it_isnt (λ e. cc)

  -- only the end of a chain has no token
  led_ends : {y : Rank} {i : Bool} {f : Start} {k : Kind} {w : List ℕ} {g : Flags} {ps : Parts} {b : Role} {rest : List (PieceOf Role)} {x : Operator} →
      Led y i f k w g ps b rest x → x ≡ op_none → (k ≡ ChainExpression) × IsTrue (takes y LeftHandSide) × (b ≡ chain_part f) × (rest ≡ [])
  led_ends (led_chain k c tk b e) h = (k, tk, b, e)
  led_ends _ h = cc

  chain_done : {o : ℕ} {ps : Parts} {s e : S} {P : List Pair} → Runs ways S Next behind o [] ps s e P → (ps ≡ none) × (s ≡ e) × (P ≡ [])
  chain_done done = (refl, refl, refl)

  -- a way that is led, where its head is spelled
  pub way_spelled : {o : ℕ} {s0 : S} {b c : Role} {m l : Tree} {ps : Parts} {rest : List (PieceOf Role)} {mid to : S} {Q R : List Pair} → Among (sub b ∷ rest) (ways c l) → Placed S Next behind c l s0 to → parts_of l ≡ part m ps →
      Runs ways S Next behind o rest ps mid to R → Spells ways S Next behind o b m s0 mid Q → Spells ways S Next behind o c l s0 to (Q ++ R)
  way_spelled {o} {s0} {b} {rest = rest} {to = to} {Q = Q} {R = R} h pl eq d sp = direct (sub b ∷ rest) h pl (subst (λ qs. Runs ways S Next behind o (sub b ∷ rest) qs s0 to (Q ++ R)) (sym eq) (within sp d))

  pub onward : {o : ℕ} {s0 e x : S} {a : Role} {n : Tree} {P : List Pair} {b : Role} {m : Tree} {mid : S} {Q : List Pair} {t : Token} →
      on_spine a ≡ true → ReadBy S Next behind Div mid t x → Grows S Next behind o s0 a n e P b m mid Q → Onward o s0 a n e P b m mid Q t
  unfolding spellings
  onward sp r whole = ended refl refl refl refl
  onward {o} {s0} {e} {x} {a} {n} {P} {b} {m} {mid} {Q} {t} sp r (grow {c = expr y i f} {l = node k w g st en ps} {ps = ps'} {rest = rest} {to = to} {R = R} h led pl eq d gs) =
      let v = way_of h in
      let u = led_of y i f (made k v.listed) v.fit v.is led in
      go ps eq u.operator u.led (nothing_or u.operator) v.lean pl d (way_spelled h pl eq d) gs
    where
      go : {k : Kind} {w : List ℕ} {g : Flags} {st en : ℕ} (ps : Parts) → ps ≡ part m ps' → (z : Operator) → Led y i f k w g (bare_parts ps) b rest z → Nothing z → is_lean (bare (node k w g st en ps)) ≡ true →
          Placed S Next behind (expr y i f) (node k w g st en ps) s0 to → Runs ways S Next behind o rest ps' mid to R →
          (Spells ways S Next behind o b m s0 mid Q → Spells ways S Next behind o (expr y i f) (node k w g st en ps) s0 to (Q ++ R)) →
          Grows S Next behind o s0 a n e P (expr y i f) (node k w g st en ps) to (Q ++ R) → Onward o s0 a n e P b m mid Q t
      go {k} {w} {g} {st} {en} ps eq z l (it_isnt some) lean pl d sp gs =
          let l' : Led y i f k w g (bare_parts (part m ps')) b rest z = subst (λ qs. Led y i f k w g (bare_parts qs) b rest z) eq l in
          by_led l' some (goes_with (led_read l' some d) r) (subst (λ qs. is_lean (bare (node k w g st en qs)) ≡ true) eq lean) d
          (subst (λ qs. Placed S Next behind (expr y i f) (node k w g st en qs) s0 to) eq pl)
          (λ x. subst (λ qs. Spells ways S Next behind o (expr y i f) (node k w g st en qs) s0 to (Q ++ R)) eq (sp x))
          (subst (λ qs. Grows S Next behind o s0 a n e P (expr y i f) (node k w g st en qs) to (Q ++ R)) eq gs)
      go {k} {w} {g} {st} {en} ps eq z l (it_is h) lean pl d sp gs =
          let u = led_ends l h in
          let v = chain_done (retell S Next behind u.3 d) in
          let same : node k w g st en ps ≡ node ChainExpression w g st en (part m none) = ap (λ c. node c w g st en ps) u.0 ∙ ap (node ChainExpression w g st en) (eq ∙ ap (part m) v.0) in
          let pairs : Q ++ R ≡ Q = ap (λ ys. Q ++ ys) v.2 ∙ append-nil Q in
          by_chain u.2 u.1 (subst (λ c. is_lean (bare c) ≡ true) same lean)
          (subst (λ c. Placed S Next behind (expr y i f) c s0 mid) same (subst (λ z. Placed S Next behind (expr y i f) (node k w g st en ps) s0 z) (sym v.1) pl))
          (λ x. subst (λ c. Spells ways S Next behind o (expr y i f) c s0 mid Q) same
          (subst (λ z. Spells ways S Next behind o (expr y i f) (node k w g st en ps) s0 z Q) (sym v.1)
          (subst (λ ys. Spells ways S Next behind o (expr y i f) (node k w g st en ps) s0 to ys) pairs (sp x))))
          (subst (λ c. Grows S Next behind o s0 a n e P (expr y i f) c mid Q) same
          (subst (λ z. Grows S Next behind o s0 a n e P (expr y i f) (node k w g st en ps) z Q) (sym v.1)
          (subst (λ ys. Grows S Next behind o s0 a n e P (expr y i f) (node k w g st en ps) to ys) pairs gs)))
  onward {o} {s0} {e} {x} {a} {n} {P} {b} {m} {mid} {Q} {t} sp r (grow {c = chain_part f} {l = node k w g st en ps} {ps = ps'} {rest = rest} {to = to} {R = R} h led pl eq d gs) =
      let v = way_of h in
      let u = linked_of f k v.listed v.is in
      let l' : Linked f k g (bare_parts (part m ps')) b rest u.operator = subst (λ qs. Linked f k g (bare_parts qs) b rest u.operator) eq u.linked in
      by_link l' (goes_with (linked_read l' d) r) (subst (λ qs. is_lean (bare (node k w g st en qs)) ≡ true) eq v.lean) d
      (subst (λ qs. Placed S Next behind (chain_part f) (node k w g st en qs) s0 to) eq pl)
      (λ x. subst (λ qs. Spells ways S Next behind o (chain_part f) (node k w g st en qs) s0 to (Q ++ R)) eq (way_spelled h pl eq d x))
      (subst (λ qs. Grows S Next behind o s0 a n e P (chain_part f) (node k w g st en qs) to (Q ++ R)) eq gs)
  onward sp r (grow {c = _} h led pl eq d gs) = absurd (false≢true (grows_on_spine S Next behind sp gs))
