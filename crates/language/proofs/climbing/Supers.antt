-- A leftmost part that begins with `super`: a member or a call; and where no expression begins.
use Rattle.std.proofs.Common.{◌≡◌, ℕ, Bool, true, false, cond, List, [], ◌∷◌, ◌++◌, refl, sym, ap, ◌∙◌, subst}
use Rattle.std.specs.Prelude.{IsTrue, codes}
use Rattle.std.proofs.lemmas.Bool.{false≢true}
use Rattle.tokens.specs.declared.token.TokenClass.TheVariants.{IdentifierName, Punctuator}
use Rattle.tokens.specs.declared.token.Goal.{Goal}
use Rattle.tokens.specs.declared.token.Goal.TheVariants.{Div}
use Rattle.tokens.specs.Goals.{allows}
use Rattle.tree.specs.declared.kind.Kind.{Kind}
use Rattle.tree.specs.declared.kind.Kind.TheVariants.{Super, Identifier}
use Rattle.language.specs.declared.Rank.{Rank}
use Rattle.language.specs.declared.Rank.TheVariants.{Call, Member, Primary}
use Rattle.language.specs.declared.Start.{Start}
use Rattle.tree.specs.declared.kind.Flags.{Flags}
use Rattle.tree.specs.declared.kind.Pair.{Pair}
use Rattle.tree.specs.Tree.{Tree, node, Parts, none, part, bare, bare_parts, plain}
use Rattle.tree.specs.Uses.{is_lean, used_flags, has_text}
use Rattle.tree.proofs.Lean.{lean_flags, lean_text}
use Rattle.language.specs.FirstPart.{others, lead as lead_kind}
use Rattle.language.specs.Vocabulary.{takes, Operator, op_dot, op_index, op_call, is_private}
use Rattle.language.specs.Pieces.{Role, expr, chain_part, base, word, PieceOf, tok, sub, put, sign, at, fixed, Spelling, private_name}
use Rattle.language.specs.Token.{Token}
use Rattle.language.specs.Expressions.{arguments, selector, property_name}
use Rattle.language.specs.Continuations.{of_class, operation}
use Rattle.language.specs.ExpressionStart.{with_super, no_start, expression_start, expression_start_by}
use Rattle.language.specs.Promises.{IsDetermined, ReadBy}
use Rattle.language.specs.Grammar.{ways, spellings}
use Rattle.language.specs.Derivation.{first, Reads, Spells, direct, Runs, done, step, within, token, Placed, placed}
use Rattle.language.proofs.table.NodeForms.{super_member, super_call}
use Rattle.language.proofs.climbing.Spine.{Core, spine_of, on_spine, grows_on_spine}
use Rattle.language.proofs.table.ViewIsComplete.{way_of, one}
use Rattle.language.proofs.table.Productions.{spell, starts_led, way_from}
use Rattle.language.proofs.table.Begins.{goes_to, retell}
use Rattle.language.proofs.climbing.SpineContinuations.{makes}
use Rattle.language.proofs.table.TokenFirstWays.{head_super_member, head_super_call}
use Rattle.language.proofs.climbing.LeftmostParts.{Cored, in_way, core_by, no_spine_core}
use Rattle.language.proofs.list_loops.FirstPieces.{run_token, run_none, run_part}
use Rattle.language.proofs.table.OperatorTokens.{reads_dot, reads_index, reads_call}
use Rattle.language.proofs.climbing.BinaryTurns.{same_node, replaced, same_places}
use Rattle.language.proofs.climbing.OperatorLoop.{Climbing}
use Rattle.language.proofs.climbing.Suffixes.{computed_flags, arguments_fixed, member_flags, call_flags}
use Rattle.language.proofs.climbing.Chains.{Link, on_dot, on_index, on_call, FoundLink, property_pieces}
use Rattle.language.proofs.climbing.FirstTurn.{climb_start}
use Rattle.language.proofs.climbing.Leaves.{by_name, word_form}
use Rattle.language.proofs.climbing.RightOperands.{one_part}

-- behind the point stands no private name
abbrev pub Unprivate : Operator → Parts → Type 0
Unprivate z ps = z ≡ op_dot → is_private (lead_kind (bare_parts ps)) ≡ false

-- what follows `super`, and the symbol of the node
pub data SuperLink : Operator → Rank → Type 0 where
  super_dot : SuperLink op_dot Member
  super_index : SuperLink op_index Member
  super_arguments : SuperLink op_call Call

symbol_same : {z z' : Operator} {c c' : Rank} → SuperLink z c → SuperLink z' c' → z' ≡ z → c' ≡ c
symbol_same super_dot super_dot e = refl
symbol_same super_index super_index e = refl
symbol_same super_arguments super_arguments e = refl
symbol_same super_dot super_index e = cc
symbol_same super_dot super_arguments e = cc
symbol_same super_index super_dot e = cc
symbol_same super_index super_arguments e = cc
symbol_same super_arguments super_dot e = cc
symbol_same super_arguments super_index e = cc

module _ (S : Type 0) (Next : S → Token → S → Type 0) (behind : S → Token) (det : IsDetermined S Next behind) where
  -- the node of `super` from a place to another, whose first token this is
  abbrev pub super_node : Token → S → Tree
  super_node t x = node Super [] plain t.start (behind x).stop none

  record BaseForm (n : Tree) (s e : S) (P : List Pair) : Type 0 where
    sign : Token
    reads : Reads S Next behind IdentifierName (codes "super") s sign e
    tree : n ≡ super_node sign e
    pairs : P ≡ []

  base_form : {o : ℕ} {n : Tree} {s e : S} {P : List Pair} → Spells ways S Next behind o base n s e P → BaseForm n s e P
  unfolding spellings
  base_form {n = node Super w g st en ps} {s = s} {e = e} (direct qs h (placed {t = t} {m = m} nx p) d) =
      let v = way_of h in
      let u = run_token S Next behind (retell S Next behind (v.is ∙ ap (Rattle.language.proofs.lower_bound.Domination.settled base) (one v.listed)) d) in
      let z = run_none S Next behind u.runs in
      record {
        sign = u.sign;
        reads = subst (λ x. Reads S Next behind IdentifierName (codes "super") s u.sign x) z.place u.reads;
        tree = same_node refl (lean_text (bare (node Super w g st en ps)) v.lean refl) (lean_flags (bare (node Super w g st en ps)) v.lean) (sym (ap (λ (x : ℕ × ℕ). x.0) p) ∙ det.start s t u.sign m u.mid nx u.reads.next) (sym (ap (λ (x : ℕ × ℕ). x.1) p)) z.parts;
        pairs = z.pairs;
      }
  base_form {n = node _ w g st en ps} (direct qs h pl d) = elim ((way_of h).listed) [ ]

  base_spelled : {o : ℕ} {s e : S} {t : Token} → Reads S Next behind IdentifierName (codes "super") s t e → Spells ways S Next behind o base (super_node t e) s e []
  unfolding spellings
  base_spelled {e = e} {t = t} h =
      let x : Spelling = at Primary (tok IdentifierName (codes "super") ∷ []) in
      direct (Rattle.language.proofs.lower_bound.Domination.settled base x) (way_from base (super_node t e) x refl first refl) (placed h.next refl) (step (token h) done)

  super_spells : {z : Operator} {c : Rank} {K : Kind} {G : Flags} {pieces : Parts → List (PieceOf Role)} {o : ℕ} {f : Start} {s0 x0 x1 e : S} {t v : Token} {st en : ℕ} {ps : Parts} {P : List Pair} → SuperLink z c → Link z K G pieces → Unprivate z ps → operation v ≡ z → (h : Rank) (j : Bool) →
      Reads S Next behind IdentifierName (codes "super") s0 t x0 → Next x0 v x1 → IsTrue (takes h c) → Runs ways S Next behind o (pieces ps) ps x1 e P → Placed S Next behind (expr h j f) (node K [] G st en (part (super_node t x0) ps)) s0 e →
      Spells ways S Next behind o (expr h j f) (node K [] G st en (part (super_node t x0) ps)) s0 e P
  super_spells {f = f} super_dot on_dot free op h j reads nx tk d pl =
      spell S Next behind (at Member (put base ∷ selector plain Identifier)) (super_member refl refl) refl tk refl (starts_led f (fixed base) (selector plain Identifier)) pl (within (base_spelled reads) (step (token (reads_dot S Next behind nx op)) (retell S Next behind (ap (λ b. sub (cond b private_name word) ∷ []) (free refl)) d)))
  super_spells {f = f} super_index on_index free op h j reads nx tk d pl =
      spell S Next behind (at Member (put base ∷ selector computed_flags Identifier)) (super_member refl refl) refl tk refl (starts_led f (fixed base) (selector computed_flags Identifier)) pl (within (base_spelled reads) (step (token (reads_index S Next behind nx op)) d))
  super_spells {f = f} {ps = ps} super_arguments on_call free op h j reads nx tk d pl =
      spell S Next behind (at Call (put base ∷ arguments (bare_parts ps))) (super_call refl refl) refl tk refl (starts_led f (fixed base) (arguments (bare_parts ps))) pl
      (within (base_spelled reads) (step (token (reads_call S Next behind nx op)) (retell S Next behind (sym (arguments_fixed h j f (bare_parts ps))) d)))

  module _ {s0 x0 : S} {t : Token} (r : ReadBy S Next behind Goal.RegExp s0 t x0) (opening : expression_start t ≡ with_super) where
    -- what begins with `super` in a derivation: behind it a sign, and what that asks for
    record SuperCore (o : ℕ) (h : Rank) (j : Bool) (f : Start) (m : Tree) (mid : S) (Q : List Pair) : Type 0 where
      z : Operator
      c : Rank
      link : SuperLink z c
      K : Kind
      G : Flags
      pieces : Parts → List (PieceOf Role)
      is_link : Link z K G pieces
      stands : IsTrue (takes h c)
      sign : Token
      behind_sign : S
      read : ReadBy S Next behind Div x0 sign behind_sign
      makes_it : operation sign ≡ z
      st : ℕ
      en : ℕ
      ps : Parts
      tree : m ≡ node K [] G st en (part (super_node t x0) ps)
      places : Placed S Next behind (expr h j f) m s0 mid
      runs : Runs ways S Next behind o (pieces ps) ps behind_sign mid Q

    -- with its base, a sign and what follows
    super_made : {o : ℕ} {h : Rank} {j : Bool} {f : Start} {m : Tree} {mid : S} {Q : List Pair} {z : Operator} {c : Rank} {K : Kind} {G : Flags} {pieces : Parts → List (PieceOf Role)} {k : Kind} {w v : List ℕ} {g : Flags} {st en : ℕ} {ps rest : Parts} {b : Tree} {place : S} {one more : List Pair} {qs : List (PieceOf Role)} →
        SuperLink z c → Link z K G pieces → IsTrue (takes h c) → m ≡ node k w g st en ps → is_lean (bare m) ≡ true → k ≡ K → has_text K ≡ false → used_flags K g ≡ G → Placed S Next behind (expr h j f) m s0 mid → ps ≡ part b rest → Q ≡ one ++ more →
        Spells ways S Next behind o base b s0 place one → Runs ways S Next behind o (tok Punctuator v ∷ qs) rest place mid more → IsTrue (allows Div Punctuator v) → of_class Punctuator v ≡ z → qs ≡ pieces rest → SuperCore o h j f m mid Q
    super_made {o} {h} {j} {f} {m} {mid} {Q} {z} {c} {K} {G} {pieces} {k} {w} {v} {g} {st} {en} {ps} {rest} {b} {place} {one} {more} {qs} link is_link tk tree lean kind texts flags pl parts pairs base_is d allowed op same_qs =
        let bares : is_lean (bare (node k w g st en ps)) ≡ true = ap (λ v. is_lean (bare v)) (sym tree) ∙ lean in
        let u = base_form base_is in
        let here = by_name S Next behind det r u.sign place u.reads in
        let there = run_token S Next behind (subst (λ x. Runs ways S Next behind o (tok Punctuator v ∷ qs) rest x mid more) here.1 d) in
        let al : IsTrue (allows Div there.sign.class there.sign.text) = subst (λ c. IsTrue (allows Div c there.sign.text)) (sym there.reads.class) (subst (λ x. IsTrue (allows Div Punctuator x)) (sym there.reads.text) allowed) in
        let first_is : b ≡ super_node t x0 = u.tree ∙ ap (λ c. super_node c place) here.0 ∙ ap (super_node t) here.1 in
        record {
          z = z;
          c = c;
          link = link;
          K = K;
          G = G;
          pieces = pieces;
          is_link = is_link;
          stands = tk;
          sign = there.sign;
          behind_sign = there.mid;
          read = record { next = there.reads.next; allowed = al };
          makes_it = makes there.sign there.reads.class there.reads.text op;
          st = st;
          en = en;
          ps = rest;
          tree = tree ∙ same_node kind (lean_text (bare (node k w g st en ps)) bares (ap has_text kind ∙ texts)) (lean_flags (bare (node k w g st en ps)) bares ∙ ap (λ v. used_flags v g) kind ∙ flags) refl refl (parts ∙ ap (λ n. part n rest) first_is);
          places = pl;
          runs = subst (λ x. Runs ways S Next behind o (pieces rest) rest there.mid mid x) (sym (pairs ∙ ap (λ x. x ++ more) u.pairs)) (retell S Next behind same_qs there.runs);
        }

    -- what stands behind the point is no private name
    by_word : {o : ℕ} {ps : Parts} {s e : S} {P : List Pair} → Runs ways S Next behind o (tok Punctuator (codes ".") ∷ sub word ∷ []) ps s e P → sub word ∷ [] ≡ property_pieces ps
    by_word d =
        let b = one_part S Next behind det (run_token S Next behind d).runs in
        let w = word_form S Next behind det b.spelled in
        sym (ap property_pieces (b.parts ∙ ap (λ n. part n none) w.tree))

    super_core : {o : ℕ} {h : Rank} {j : Bool} {f : Start} {m : Tree} {mid : S} {Q : List Pair} → Cored S Next behind det o h j f m s0 mid Q with_super → SuperCore o h j f m mid Q
    super_core {o} {h} {j} {f} {m} {mid} {Q} (in_way {k = k} {w = w} {g = g} {st = st} {en = en} {ps = ps} tree (head_super_member kind opt sup tk q) lean pl d) = of g.computed refl
      where
        of : (b : Bool) → g.computed ≡ b → SuperCore o h j f m mid Q
        of true comp =
            let a = run_part S Next behind (retell S Next behind (q ∙ ap (λ v. sub base ∷ goes_to h j f (cond v Rattle.language.specs.Expressions.in_brackets (sign "." ∷ property_name Identifier ∷ []))) comp) d) in
            super_made super_index on_index tk tree lean kind refl (member_flags S Next behind det g true opt comp) pl a.parts a.pairs a.spelled a.runs refl refl refl
        of false comp =
            let a = run_part S Next behind (retell S Next behind (q ∙ ap (λ v. sub base ∷ goes_to h j f (cond v Rattle.language.specs.Expressions.in_brackets (sign "." ∷ property_name Identifier ∷ []))) comp) d) in
            super_made super_dot on_dot tk tree lean kind refl (member_flags S Next behind det g false opt comp) pl a.parts a.pairs a.spelled a.runs refl refl (by_word a.runs)
    super_core {o} {h} {j} {f} {m} {mid} {Q} (in_way {k = k} {w = w} {g = g} {st = st} {en = en} {ps = ps} tree (head_super_call kind opt sup tk q) lean pl d) =
        let a = run_part S Next behind (retell S Next behind q d) in
        super_made super_arguments on_call tk tree lean kind refl (call_flags S Next behind det g opt) pl a.parts a.pairs a.spelled (retell S Next behind (ap (λ v. goes_to h j f (arguments (others (bare_parts v)))) a.parts) a.runs) refl refl (arguments_fixed h j f (bare_parts a.rest))

    super_reads : t.class ≡ IdentifierName → t.text ≡ codes "super" → Reads S Next behind IdentifierName (codes "super") s0 t x0
    super_reads class text = record { next = r.next; class = class; text = text }

    module _ {x1 : S} {v : Token} {z : Operator} {c : Rank} (link : SuperLink z c) (read : ReadBy S Next behind Div x0 v x1) (is_op : operation v ≡ z) where
      record SuperOn (o : ℕ) (h : Rank) (j : Bool) (f : Start) (m : Tree) (mid : S) (Q : List Pair) : Type 0 where
        K : Kind
        G : Flags
        pieces : Parts → List (PieceOf Role)
        is_link : Link z K G pieces
        stands : IsTrue (takes h c)
        st : ℕ
        en : ℕ
        ps : Parts
        tree : m ≡ node K [] G st en (part (super_node t x0) ps)
        places : Placed S Next behind (expr h j f) m s0 mid
        runs : Runs ways S Next behind o (pieces ps) ps x1 mid Q

      super_on : {o : ℕ} {h : Rank} {j : Bool} {f : Start} {m : Tree} {mid : S} {Q : List Pair} → Core S Next behind o (expr h j f) m s0 mid Q → SuperOn o h j f m mid Q
      super_on {o} {h} {j} {f} {m} {mid} {Q} core =
          let u = super_core (core_by S Next behind det r opening core) in
          let same = det.same Div x0 u.sign v u.behind_sign x1 u.read.next read.next u.read.allowed read.allowed in
          let op : u.z ≡ z = sym u.makes_it ∙ ap operation same.0 ∙ is_op in
          record {
            K = u.K;
            G = u.G;
            pieces = u.pieces;
            is_link = subst (λ k. Link k u.K u.G u.pieces) op u.is_link;
            stands = subst (λ k. IsTrue (takes h k)) (symbol_same link u.link op) u.stands;
            st = u.st;
            en = u.en;
            ps = u.ps;
            tree = u.tree;
            places = u.places;
            runs = subst (λ k. Runs ways S Next behind o (u.pieces u.ps) u.ps k mid Q) same.1 u.runs;
          }

      -- a member of `super`, or its call
      pub climb_super : {o : ℕ} {y : Rank} {i : Bool} {f : Start} {K : Kind} {G : Flags} {pieces : Parts → List (PieceOf Role)} {ps : Parts} {to : S} {U : List Pair} {st en : ℕ} → t.class ≡ IdentifierName → t.text ≡ codes "super" → IsTrue (takes y c) → Unprivate z ps →
          FoundLink S Next behind det o z x1 to K G pieces ps U → Placed S Next behind (expr y i f) (node K [] G st en (part (super_node t x0) ps)) s0 to → Climbing S Next behind det o y i f c s0 (node K [] G st en (part (super_node t x0) ps)) to U
      climb_super {o} {f = f} {K = K} {G = G} {ps = ps} {to = to} {U = U} {st = st} {en = en} class text low free found places = climb_start S Next behind det low
          (λ h j tk lo. super_spells link found.link free is_op h j (super_reads class text) read.next tk found.runs (replaced S Next behind det places))
          (λ o' n e P h j m mid Q b.
          let u = super_on b.core in
          let same = found.only o' u.K u.G u.pieces u.ps mid Q u.is_link u.runs in
          let where_is = same_places S Next behind det (subst (λ k. Placed S Next behind (expr h j f) k s0 mid) u.tree u.places) places same.0 in
          (same.0, u.tree ∙ same_node same.3 refl same.4 where_is.0 where_is.1 (ap (part (super_node t x0)) same.1), same.2, u.stands))

  -- no expression begins with a token that begins none, nor where the goal for operands reads none
  pub none_begins : {y : Rank} {i : Bool} {f : Start} {o : ℕ} {n : Tree} {s e m : S} {P : List Pair} {t : Token} → ReadBy S Next behind Goal.RegExp s t m → expression_start t ≡ no_start → Spells ways S Next behind o (expr y i f) n s e P → ⊥
  none_begins {s = s} r op d = let u = spine_of S Next behind d in of u.role (grows_on_spine S Next behind refl u.grows) u.core
    where
      unopened : {o : ℕ} {h : Rank} {j : Bool} {g : Start} {m : Tree} {mid : S} {Q : List Pair} → Cored S Next behind det o h j g m s mid Q no_start → ⊥
      unopened (in_way tree headed lean pl d) = elim headed [ ]

      of : {o : ℕ} {m : Tree} {mid : S} {Q : List Pair} (b : Role) → on_spine b ≡ true → Core S Next behind o b m s mid Q → ⊥
      of (expr h j g) on c = unopened (core_by S Next behind det r op c)
      of (chain_part g) on c = no_spine_core S Next behind det c
      of _ on c = false≢true on

  -- nor with `=>`
  pub no_arrow_begins : {y : Rank} {i : Bool} {f : Start} {o : ℕ} {n : Tree} {s e : S} {P : List Pair} → Spells ways S Next behind o (expr y i f) n s e P → (v : Token) (k : S) → Reads S Next behind Punctuator (codes "=>") s v k → ⊥
  no_arrow_begins d v k h =
      let al : IsTrue (allows Goal.RegExp v.class v.text) = subst (λ c. IsTrue (allows Goal.RegExp c v.text)) (sym h.class) (subst (λ c. IsTrue (allows Goal.RegExp Punctuator c)) (sym h.text) refl) in
      none_begins (record { next = h.next; allowed = al }) (ap (λ c. expression_start_by c v.text) h.class ∙ ap (expression_start_by Punctuator) h.text) d
