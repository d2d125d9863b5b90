-- Keys of a class and the functions of methods: each is the only one at its place.
use Rattle.std.proofs.Common.{◌≡◌, ℕ, suc, ◌≤◌, max, Bool, true, false, cond, List, [], ◌∷◌, ◌++◌, refl, sym, ap, ◌∙◌, subst, arith}
use Rattle.std.specs.Prelude.{Some, codes}
use Rattle.tokens.specs.declared.token.TokenClass.TheVariants.{Punctuator}
use Rattle.tokens.specs.declared.token.Goal.TheVariants.{Div}
use Rattle.tree.specs.declared.kind.Form.{Form}
use Rattle.tree.specs.declared.kind.Form.TheVariants.{Get, Set}
use Rattle.tree.specs.declared.kind.Pair.{Pair}
use Rattle.tree.specs.Tree.{Tree, node, Parts, none, part, gap, height, parts_height, bare_parts, kind_of}
use Rattle.language.specs.declared.Rank.TheVariants.{Expression, Assignment}
use Rattle.language.specs.declared.Start.TheVariants.{Any}
use Rattle.language.specs.Vocabulary.{is_rest}
use Rattle.language.specs.Pieces.{Role, key, rest, body, method, space, tok, absent, sub, lay, sp, sign, put, put_at, nothing, with_default}
use Rattle.language.specs.Token.{Token}
use Rattle.language.specs.Promises.{IsDetermined, is_free, FoundAt}
use Rattle.language.specs.Following.{IsAlike}
use Rattle.language.specs.Covers.{as_pattern, element_as}
use Rattle.language.specs.Grammar.{ways}
use Rattle.language.specs.Derivation.{Reads, Spells, Runs}
use Rattle.language.proofs.table.Begins.{goes_to}
use Rattle.language.proofs.list_loops.FirstPieces.{run_token, run_laid, run_never, run_the_gap}
use Rattle.language.proofs.climbing.RightOperands.{one_part}
use Rattle.language.proofs.climbing.BinaryTurns.{same_node}
use Rattle.language.proofs.climbing.Conditionals.{same_sign, stops_before}
use Rattle.language.proofs.table.SoleWays.{Anyhow, found_where}
use Rattle.language.proofs.table.OneKind.{one_kind}
use Rattle.language.proofs.statements.Blocks.{method_pieces, one_method}
use Rattle.language.proofs.table.PropertyNameWays.{key_kind, key_free, key_form}
use Rattle.language.proofs.covers.CoverProperties.{KeyAt, plain_key, computed_key}
use Rattle.language.proofs.covers.CoverKeys.{KeyFound, plain_key_found, computed_key_found}
use Rattle.language.proofs.list_loops.CommaLists.{by_closing, an_item}
use Rattle.language.proofs.covers.CoverEnds.{a_parenthesis}
use Rattle.language.proofs.list_loops.ParameterLists.{parameter_list}
use Rattle.language.proofs.statements.FunctionParts.{call_and_body}
use Rattle.unambiguity_laws.proofs.Unique.{Unique, UniqueParts}
use Rattle.unambiguity_laws.proofs.list_items.PieceRuns.{turned_unique, nothing_unique, laid_unique, token_unique, gap_unique, part_unique, sole_closed, behind_gap}
use Rattle.unambiguity_laws.proofs.statements.FunctionBodies.{call_unique}

module _ (S : Type 0) (Next : S → Token → S → Type 0) (behind : S → Token) (det : IsDetermined S Next behind) where
  -- a key without brackets is the only one there
  pub key_unique : {o : ℕ} {n : Tree} {s e : S} {P : List Pair} → Spells ways S Next behind o key n s e P → FoundAt S Next behind o key s e n P
  key_unique {o} {n} {s} {e} {P} d =
      let v = key_form S Next behind det d in
      record {
        spelled = d;
        only = λ o' e' n' P' d'. let w = key_form S Next behind det d' in
            let same = det.same Div s w.leaf.sign v.leaf.sign e' e w.leaf.reads.next v.leaf.reads.next (det.free Div s w.leaf.sign e' w.leaf.reads.next (ap is_free w.leaf.reads.class ∙ key_free w.class w.is_key))
            (det.free Div s v.leaf.sign e v.leaf.reads.next (ap is_free v.leaf.reads.class ∙ key_free v.class v.is_key)) in
            let class : w.class ≡ v.class = sym w.leaf.reads.class ∙ ap (λ (t : Token). t.class) same.0 ∙ v.leaf.reads.class in
            let text : w.leaf.text ≡ v.leaf.text = sym w.leaf.reads.text ∙ ap (λ (t : Token). t.text) same.0 ∙ v.leaf.reads.text in
            (same.1, w.leaf.tree ∙ same_node (ap key_kind class) text refl (ap (λ (t : Token). t.start) same.0) (ap (λ x. (behind x).stop) same.1) refl ∙ sym v.leaf.tree, w.leaf.pairs ∙ sym v.leaf.pairs);
      }

  -- a setter's function: its parameter, which is no rest, and its body
  record Setter (o : ℕ) (ps : Parts) (s e : S) (P : List Pair) : Type 0 where
    item : Tree
    last : Tree
    role : Role
    x : S
    mid : S
    place : S
    left : Token
    right : Token
    one : List Pair
    more : List Pair
    it_is : element_as (as_pattern true) (kind_of item) ≡ Some role
    opens : Reads S Next behind Punctuator (codes "(") s left x
    spelled : Spells ways S Next behind o role item x mid one
    closes : Reads S Next behind Punctuator (codes ")") mid right place
    body_spelled : Spells ways S Next behind o body last place e more
    parts : ps ≡ gap (part item (part last none))
    pairs : P ≡ one ++ more

  setter : {o : ℕ} {s e : S} {P : List Pair} (ps : Parts) → Runs ways S Next behind o (goes_to Expression true Any (method_pieces Set (bare_parts ps))) ps s e P → Setter o ps s e P
  setter {o} {s} {e} {P} (gap (part (node k w g st en qs) (part b none))) d = of (is_rest k) refl d
    where
      of : (c : Bool) → is_rest k ≡ c → Runs ways S Next behind o (goes_to Expression true Any (cond c nothing (absent ∷ sign "(" ∷ put_at (with_default true k) ∷ sign ")" ∷ sp ∷ put body ∷ []))) (gap (part (node k w g st en qs) (part b none))) s e P →
          Setter o (gap (part (node k w g st en qs) (part b none))) s e P
      of true e d = absurd (run_never S Next behind d)
      of false e d =
          let a = run_token S Next behind (run_the_gap S Next behind d) in
          let v = an_item S Next behind det (with_default true k) a.runs in
          let z = run_token S Next behind v.runs in
          let l = one_part S Next behind det (run_laid S Next behind z.runs) in
          record {
            item = node k w g st en qs;
            last = l.operand;
            role = v.role;
            x = a.mid;
            mid = v.mid;
            place = z.mid;
            left = a.sign;
            right = z.sign;
            one = v.one;
            more = v.more;
            it_is = ap (λ c. cond c (Some (rest true false)) (with_default true k)) e ∙ v.it_is;
            opens = a.reads;
            spelled = v.spelled;
            closes = z.reads;
            body_spelled = l.spelled;
            parts = ap (λ c. gap (part (node k w g st en qs) c)) l.parts;
            pairs = v.pairs;
          }
  setter _ d = absurd (run_never S Next behind d)

module _ (S : Type 0) (Next : S → Token → S → Type 0) (behind : S → Token) (det : IsDetermined S Next behind) (alike : IsAlike S Next behind) {h : ℕ} (u : Unique S Next behind det h) where
  -- a key is the only one there
  pub key_at_unique : {c : Bool} {o : ℕ} {n : Tree} {s e : S} {P : List Pair} → height n ≤ h → KeyAt S Next behind det o n s e P c → KeyFound S Next behind det c o s e n P
  key_at_unique low (plain_key d) = plain_key_found S Next behind det (key_unique S Next behind det d)
  key_at_unique {n = n} low (computed_key r d q) = computed_key_found S Next behind det r (u.expressions.found low (λ c. cc) (λ c. cc) d (stops_before S Next behind det Assignment true n q refl refl (λ c v. refl))) q

  -- the body of a method behind its parameters
  body_unique : UniqueParts S Next behind det h (λ ps. lay space ∷ sub body ∷ [])
  body_unique = laid_unique S Next behind det (part_unique S Next behind det {after = λ ps. []} Anyhow (λ o s e n P low d fine. found_where S Next behind det (u.closed refl low d)) (λ mid o m ps k e A P d r fine. tt) (λ n. nothing_unique S Next behind det))

  setter_unique : UniqueParts S Next behind det h (λ ps. goes_to Expression true Any (method_pieces Set (bare_parts ps)))
  setter_unique = record {
    gives = λ {o} {s} {e} {ps} {P} low d.
        let v = setter S Next behind det ps d in
        let high : parts_height ps ≡ max (height v.item) (max (height v.last) 0) = ap parts_height v.parts in
        let found = u.element (as_pattern true) a_parenthesis (omega arith) v.it_is v.spelled (by_closing v.closes) in
        let last = u.closed refl (omega arith) v.body_spelled in
        record {
          runs = d;
          only = λ o' e' ps' P' d'. let w = setter S Next behind det ps' d' in
              let first = same_sign S Next behind det w.opens v.opens refl in
              let one = found.only o' w.role w.mid w.item w.one w.it_is (subst (λ c. Spells ways S Next behind o' w.role w.item c w.mid w.one) first.1 w.spelled) (by_closing w.closes) in
              let next = same_sign S Next behind det (subst (λ c. Reads S Next behind Punctuator (codes ")") c w.right w.place) one.0 w.closes) v.closes refl in
              let end = last.only o' e' w.last w.more (subst (λ c. Spells ways S Next behind o' body w.last c e' w.more) next.1 w.body_spelled) in
              (end.0, w.parts ∙ (λ c. gap (part (one.1 c) (part (end.1 c) none))) ∙ sym v.parts, w.pairs ∙ (λ c. one.2 c ++ end.2 c) ∙ sym v.pairs);
        };
  }

  getter_unique : UniqueParts S Next behind det h (λ ps. goes_to Expression true Any (method_pieces Get (bare_parts ps)))
  getter_unique = turned_unique S Next behind det {last = λ ps. absent ∷ tok Punctuator (codes "(") ∷ tok Punctuator (codes ")") ∷ lay space ∷ sub body ∷ []} (λ o ps s e P d. of ps d)
      (gap_unique S Next behind det {left = λ ps. tok Punctuator (codes "(") ∷ tok Punctuator (codes ")") ∷ lay space ∷ sub body ∷ []} (token_unique S Next behind det Div refl (token_unique S Next behind det Div refl body_unique)))
    where
      of : {o : ℕ} {s e : S} {P : List Pair} (ps : Parts) → Runs ways S Next behind o (goes_to Expression true Any (method_pieces Get (bare_parts ps))) ps s e P →
          Runs ways S Next behind o (absent ∷ tok Punctuator (codes "(") ∷ tok Punctuator (codes ")") ∷ lay space ∷ sub body ∷ []) ps s e P
      of (gap (part b none)) d = d
      of _ d = absurd (run_never S Next behind d)

  -- Where the parameters are the only ones.
  module _ (parameters : UniqueParts S Next behind det h parameter_list) where
    called_unique : UniqueParts S Next behind det h (λ ps. absent ∷ call_and_body (behind_gap ps))
    called_unique = gap_unique S Next behind det {left = call_and_body} (call_unique S Next behind det alike u parameters)

    method_unique : (f : Form) → UniqueParts S Next behind det h (λ ps. goes_to Expression true Any (method_pieces f (bare_parts ps)))
    method_unique Get = getter_unique
    method_unique Set = setter_unique
    method_unique f = turned_unique S Next behind det (λ o ps s e P d. of ps d) called_unique
      where
        of : {o : ℕ} {s e : S} {P : List Pair} (ps : Parts) → Runs ways S Next behind o (goes_to Expression true Any (method_pieces f (bare_parts ps))) ps s e P → Runs ways S Next behind o (absent ∷ call_and_body (behind_gap ps)) ps s e P
        of (gap ps) d = d
        of _ d = absurd (run_never S Next behind d)

    -- the function of a method, a getter or a setter
    pub method_closed : {f : Form} {o : ℕ} {n : Tree} {s e : S} {P : List Pair} → height n ≤ suc h → Spells ways S Next behind o (method f) n s e P → FoundAt S Next behind o (method f) s e n P
    method_closed {f} low d = sole_closed S Next behind det (one_kind S Next behind det (one_method f)) (method_unique f) low d
