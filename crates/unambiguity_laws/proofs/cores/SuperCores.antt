-- The leftmost part that begins with `super`.
use Rattle.std.proofs.Common.{◌≡◌, ℕ, Bool, true, false, cond, List, [], ◌∷◌, ◌++◌, refl, sym, ap, ◌∙◌, subst, arith}
use Rattle.std.specs.Prelude.{IsTrue, codes}
use Rattle.tokens.specs.declared.token.TokenClass.TheVariants.{IdentifierName, Punctuator}
use Rattle.tokens.specs.declared.token.Goal.{Goal}
use Rattle.tokens.specs.declared.token.Goal.TheVariants.{Div}
use Rattle.tokens.specs.Goals.{allows}
use Rattle.tree.specs.declared.kind.Kind.{Kind}
use Rattle.tree.specs.declared.kind.Kind.TheVariants.{Super}
use Rattle.language.specs.declared.Rank.{Rank}
use Rattle.language.specs.declared.Start.{Start}
use Rattle.tree.specs.declared.kind.Flags.{Flags}
use Rattle.tree.specs.declared.kind.Pair.{Pair}
use Rattle.tree.specs.Tree.{Tree, node, Parts, none, part, height, bare, bare_parts}
use Rattle.tree.specs.Uses.{is_lean, used_flags, has_text}
use Rattle.tree.proofs.Lean.{lean_flags, lean_text}
use Rattle.language.specs.FirstPart.{lead, others}
use Rattle.language.specs.Vocabulary.{takes, is_private, Operator}
use Rattle.language.specs.Pieces.{Role, expr, base, word, private_name, PieceOf, tok, sub, put, sign}
use Rattle.language.specs.Token.{Token}
use Rattle.language.specs.Expressions.{arguments}
use Rattle.language.specs.Continuations.{of_class, operation}
use Rattle.language.specs.ExpressionStart.{with_super, expression_start}
use Rattle.language.specs.Promises.{IsDetermined, ReadBy}
use Rattle.language.specs.Following.{IsAlike}
use Rattle.language.specs.Grammar.{ways, spellings}
use Rattle.language.specs.Derivation.{Reads, Spells, direct, Runs, Placed, placed}
use Rattle.language.proofs.table.ViewIsComplete.{way_of, one}
use Rattle.language.proofs.table.Begins.{goes_to, retell}
use Rattle.language.proofs.climbing.SpineContinuations.{makes}
use Rattle.language.proofs.table.TokenFirstWays.{head_super_member, head_super_call}
use Rattle.language.proofs.climbing.LeftmostParts.{Cored, in_way, core_by}
use Rattle.language.proofs.list_loops.FirstPieces.{run_token, run_none, run_part}
use Rattle.language.proofs.climbing.BinaryTurns.{same_node, replaced}
use Rattle.language.proofs.climbing.OperatorLoop.{grows_height, Climbing}
use Rattle.language.proofs.climbing.Suffixes.{argument_pieces, arguments_fixed, member_flags, call_flags}
use Rattle.language.proofs.climbing.Chains.{Link, on_dot, on_index, on_call}
use Rattle.language.proofs.climbing.Leaves.{by_name, word_form}
use Rattle.language.proofs.climbing.RightOperands.{one_part}
use Rattle.language.proofs.climbing.Supers.{Unprivate, SuperLink, super_dot, super_index, super_arguments, super_node, climb_super}
use Rattle.unambiguity_laws.proofs.Unique.{Unique, UniqueParts, CoreStep}
use Rattle.unambiguity_laws.proofs.turns.SubscriptParts.{link_found}

module _ (S : Type 0) (Next : S → Token → S → Type 0) (behind : S → Token) (det : IsDetermined S Next behind) where
  record BaseForm (n : Tree) (s e : S) (P : List Pair) : Type 0 where
    sign : Token
    reads : Reads S Next behind IdentifierName (codes "super") s sign e
    tree : n ≡ super_node S Next behind det sign e
    pairs : P ≡ []

  base_form : {o : ℕ} {n : Tree} {s e : S} {P : List Pair} → Spells ways S Next behind o base n s e P → BaseForm n s e P
  unfolding spellings
  base_form {n = node Super w g st en ps} {s = s} {e = e} (direct qs h (placed {t = t} {m = m} nx p) d) =
      let v = way_of h in
      let u = run_token S Next behind (retell S Next behind (v.is ∙ ap (Rattle.language.proofs.lower_bound.Domination.settled base) (one v.listed)) d) in
      let z = run_none S Next behind u.runs in
      record {
        sign = u.sign;
        reads = subst (λ x. Reads S Next behind IdentifierName (codes "super") s u.sign x) z.place u.reads;
        tree = same_node refl (lean_text (bare (node Super w g st en ps)) v.lean refl) (lean_flags (bare (node Super w g st en ps)) v.lean) (sym (ap (λ (x : ℕ × ℕ). x.0) p) ∙ det.start s t u.sign m u.mid nx u.reads.next) (sym (ap (λ (x : ℕ × ℕ). x.1) p)) z.parts;
        pairs = z.pairs;
      }
  base_form {n = node _ w g st en ps} (direct qs h pl d) = elim ((way_of h).listed) [ ]

  -- behind the point a name stands
  word_alone : {o : ℕ} {ps : Parts} {s e : S} {P : List Pair} → Runs ways S Next behind o (sub word ∷ []) ps s e P → is_private (lead (bare_parts ps)) ≡ false
  word_alone d =
      let u = one_part S Next behind det d in
      ap (λ c. is_private (lead (bare_parts c))) (u.parts ∙ ap (λ c. part c none) (word_form S Next behind det u.spelled).tree)

  module _ {s0 x0 : S} {t : Token} (r : ReadBy S Next behind Goal.RegExp s0 t x0) (opening : expression_start t ≡ with_super) where
    -- what begins with `super` in a derivation: behind it a sign, and what that asks for
    record SuperCore (o : ℕ) (h : Rank) (j : Bool) (f : Start) (m : Tree) (mid : S) (Q : List Pair) : Type 0 where
      z : Operator
      c : Rank
      link : SuperLink z c
      K : Kind
      G : Flags
      pieces : Parts → List (PieceOf Role)
      is_link : Link z K G pieces
      stands : IsTrue (takes h c)
      sign : Token
      behind_sign : S
      read : ReadBy S Next behind Div x0 sign behind_sign
      makes_it : operation sign ≡ z
      st : ℕ
      en : ℕ
      ps : Parts
      free : Unprivate z ps
      tree : m ≡ node K [] G st en (part (super_node S Next behind det t x0) ps)
      places : Placed S Next behind (expr h j f) m s0 mid
      runs : Runs ways S Next behind o (pieces ps) ps behind_sign mid Q
      class : t.class ≡ IdentifierName
      text : t.text ≡ codes "super"

    -- with its base, a sign and what follows
    super_made : {o : ℕ} {h : Rank} {j : Bool} {f : Start} {m : Tree} {mid : S} {Q : List Pair} {z : Operator} {c : Rank} {K : Kind} {G : Flags} {pieces : Parts → List (PieceOf Role)} {k : Kind} {w v : List ℕ} {g : Flags} {st en : ℕ} {ps rest : Parts} {b : Tree} {place : S} {one more : List Pair} {qs : List (PieceOf Role)} →
        SuperLink z c → Link z K G pieces → Unprivate z rest → IsTrue (takes h c) → m ≡ node k w g st en ps → is_lean (bare m) ≡ true → k ≡ K → has_text K ≡ false → used_flags K g ≡ G → Placed S Next behind (expr h j f) m s0 mid → ps ≡ part b rest → Q ≡ one ++ more →
        Spells ways S Next behind o base b s0 place one → Runs ways S Next behind o (tok Punctuator v ∷ qs) rest place mid more → IsTrue (allows Div Punctuator v) → of_class Punctuator v ≡ z → qs ≡ pieces rest → SuperCore o h j f m mid Q
    super_made {o} {h} {j} {f} {m} {mid} {Q} {z} {c} {K} {G} {pieces} {k} {w} {v} {g} {st} {en} {ps} {rest} {b} {place} {one} {more} {qs} link is_link free tk tree lean kind texts flags pl parts pairs base_is d allowed op same_qs =
        let bares : is_lean (bare (node k w g st en ps)) ≡ true = ap (λ v. is_lean (bare v)) (sym tree) ∙ lean in
        let u = base_form base_is in
        let here = by_name S Next behind det r u.sign place u.reads in
        let there = run_token S Next behind (subst (λ x. Runs ways S Next behind o (tok Punctuator v ∷ qs) rest x mid more) here.1 d) in
        let al : IsTrue (allows Div there.sign.class there.sign.text) = subst (λ c. IsTrue (allows Div c there.sign.text)) (sym there.reads.class) (subst (λ x. IsTrue (allows Div Punctuator x)) (sym there.reads.text) allowed) in
        let first_is : b ≡ super_node S Next behind det t x0 = u.tree ∙ ap (λ c. super_node S Next behind det c place) here.0 ∙ ap (super_node S Next behind det t) here.1 in
        record {
          z = z;
          c = c;
          link = link;
          K = K;
          G = G;
          pieces = pieces;
          is_link = is_link;
          free = free;
          stands = tk;
          sign = there.sign;
          behind_sign = there.mid;
          read = record { next = there.reads.next; allowed = al };
          makes_it = makes there.sign there.reads.class there.reads.text op;
          st = st;
          en = en;
          ps = rest;
          tree = tree ∙ same_node kind (lean_text (bare (node k w g st en ps)) bares (ap has_text kind ∙ texts)) (lean_flags (bare (node k w g st en ps)) bares ∙ ap (λ v. used_flags v g) kind ∙ flags) refl refl (parts ∙ ap (λ n. part n rest) first_is);
          places = pl;
          runs = subst (λ x. Runs ways S Next behind o (pieces rest) rest there.mid mid x) (sym (pairs ∙ ap (λ x. x ++ more) u.pairs)) (retell S Next behind same_qs there.runs);
          class = ap (λ (v : Token). v.class) (sym here.0) ∙ u.reads.class;
          text = ap (λ (v : Token). v.text) (sym here.0) ∙ u.reads.text;
        }

    super_parts : {o : ℕ} {h : Rank} {j : Bool} {f : Start} {m : Tree} {mid : S} {Q : List Pair} → Cored S Next behind det o h j f m s0 mid Q with_super → SuperCore o h j f m mid Q
    super_parts {o} {h} {j} {f} {m} {mid} {Q} (in_way {k = k} {w = w} {g = g} {st = st} {en = en} {ps = ps} tree (head_super_member kind opt sup tk q) lean pl d) = of g.computed refl
      where
        of : (b : Bool) → g.computed ≡ b → SuperCore o h j f m mid Q
        of true comp =
            let a = run_part S Next behind (retell S Next behind (q ∙ ap (λ v. sub base ∷ goes_to h j f (cond v Rattle.language.specs.Expressions.in_brackets (sign "." ∷ put word ∷ []))) comp) d) in
            super_made super_index on_index (λ e. cc) tk tree lean kind refl (member_flags S Next behind det g true opt comp) pl a.parts a.pairs a.spelled a.runs refl refl refl
        of false comp =
            let a = run_part S Next behind (retell S Next behind (q ∙ ap (λ v. sub base ∷ goes_to h j f (cond v Rattle.language.specs.Expressions.in_brackets (sign "." ∷ put word ∷ []))) comp) d) in
            let free = word_alone (run_token S Next behind a.runs).runs in
            super_made super_dot on_dot (λ e. free) tk tree lean kind refl (member_flags S Next behind det g false opt comp) pl a.parts a.pairs a.spelled a.runs refl refl (ap (λ b. sub (cond b private_name word) ∷ []) (sym free))
    super_parts {o} {h} {j} {f} {m} {mid} {Q} (in_way {k = k} {w = w} {g = g} {st = st} {en = en} {ps = ps} tree (head_super_call kind opt sup tk q) lean pl d) =
        let a = run_part S Next behind (retell S Next behind q d) in
        super_made super_arguments on_call (λ e. cc) tk tree lean kind refl (call_flags S Next behind det g opt) pl a.parts a.pairs a.spelled (retell S Next behind (ap (λ v. goes_to h j f (arguments (others (bare_parts v)))) a.parts) a.runs) refl refl (arguments_fixed h j f (bare_parts a.rest))

module _ (S : Type 0) (Next : S → Token → S → Type 0) (behind : S → Token) (det : IsDetermined S Next behind) (alike : IsAlike S Next behind) {h : ℕ} (u : Unique S Next behind det h) where
  pub super_core : UniqueParts S Next behind det h argument_pieces → CoreStep S Next behind det h with_super
  super_core called = record {
    gives = λ {o} {y} {i} {f} {n} {s0} {e} {P} {q} {j} {m} {mid} {m0 = x0} {Q} {t} other inner low b r opening.
        let v = super_parts S Next behind det r opening (core_by S Next behind det r opening b.core) in
        let up = grows_height S Next behind det b.grows in
        let high : height m ≡ height (node v.K [] v.G v.st v.en (part (super_node S Next behind det t x0) v.ps)) = ap height v.tree in
        let found = link_found S Next behind det alike u called v.is_link (omega arith) v.runs in
        let places : Placed S Next behind (expr y i f) (node v.K [] v.G v.st v.en (part (super_node S Next behind det t x0) v.ps)) s0 mid = replaced S Next behind det (subst (λ c. Placed S Next behind (expr q j f) c s0 mid) v.tree v.places) in
        record {
          symbol = v.c;
          climbing = subst (λ c. Climbing S Next behind det o y i f v.c s0 c mid Q) (sym v.tree) (climb_super S Next behind det r opening v.link v.read v.makes_it v.class v.text (b.reached.taken v.c v.stands) v.free found places);
        };
  }
