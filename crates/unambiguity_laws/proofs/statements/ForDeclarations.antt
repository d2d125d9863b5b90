-- The declaration in the head of a `for` is the only one at its place, and one with several declarators ends where one with a single declarator does.
use Rattle.std.proofs.Common.{◌≡◌, ℕ, suc, ◌≤◌, Bool, true, false, List, [], ◌++◌, refl, sym, ap, ◌∙◌, subst, arith, ◌⊎◌, inl, inr}
use Rattle.std.specs.Prelude.{codes}
use Rattle.std.proofs.lemmas.Bool.{false≢true}
use Rattle.std.proofs.lemmas.List.{append-nil}
use Rattle.tokens.specs.declared.token.TokenClass.TheVariants.{IdentifierName, Punctuator}
use Rattle.tree.specs.declared.kind.Kind.TheVariants.{VariableDeclaration, VariableDeclarator}
use Rattle.tree.specs.declared.kind.Pair.{Pair}
use Rattle.tree.specs.Tree.{Tree, node, Parts, none, part, gap, height, parts_height, bare_parts, plain}
use Rattle.language.specs.declared.Rank.TheVariants.{Expression}
use Rattle.language.specs.declared.Start.TheVariants.{Any}
use Rattle.language.specs.Pieces.{head, declarator}
use Rattle.language.specs.Statements.{declarators}
use Rattle.language.specs.Token.{Token}
use Rattle.language.specs.Promises.{IsDetermined, Stops}
use Rattle.language.specs.Following.{IsAlike, Declared, FoundWhere, FoundPartsWhere}
use Rattle.language.specs.Grammar.{ways}
use Rattle.language.specs.Derivation.{Reads, Spells, Runs, Placed}
use Rattle.language.proofs.table.Begins.{goes_to, retell}
use Rattle.language.proofs.list_loops.FirstPieces.{run_none, run_token, run_laid, run_never, run_the_part}
use Rattle.language.proofs.covers.CoverReadings.{name_or_sign}
use Rattle.language.proofs.table.ForDeclarationWays.{is_declaration_word, behind_head, head_form, head_sole, two_signs}
use Rattle.language.proofs.list_loops.ForDeclarationLists.{no_end, in_declared, of_declared, semicolon_declared, head_begins}
use Rattle.language.proofs.statements.ForHeads.{Worded, Parted}
use Rattle.language.proofs.statements.ForParts.{before_in, before_of, before_semicolon}
use Rattle.language.proofs.statements.OptionalParts.{and_found}
use Rattle.language.proofs.list_loops.PiecesSoFar.{and_then, lay_on}
use Rattle.language.proofs.table.SoleWays.{sole_found}
use Rattle.language.proofs.list_loops.DeclaratorLists.{before_declarator}
use Rattle.language.proofs.statements.Declarators.{Target, DeclaratorForm, with_value, alone, declarator_form}
use Rattle.unambiguity_laws.proofs.Unique.{Unique}
use Rattle.unambiguity_laws.proofs.statements.StatementFacts.{found_as}
use Rattle.unambiguity_laws.proofs.statements.Declarations.{target_unique}
use Rattle.unambiguity_laws.proofs.list_items.DeclarationLists.{comma_semicolon, declarators_unique}
use Rattle.unambiguity_laws.proofs.statements.Tries.{two_words}

module _ (S : Type 0) (Next : S → Token → S → Type 0) (behind : S → Token) (det : IsDetermined S Next behind) where
  -- where the first part of a head ends
  pub data HeadEnds (e : S) : Type 0 where
    at_in : Worded S Next behind det (codes "in") e → HeadEnds e
    at_of : Worded S Next behind det (codes "of") e → HeadEnds e
    at_semicolon : Parted S Next behind det e → HeadEnds e

  -- nothing goes on there
  pub head_stops : (n : Tree) (e : S) → HeadEnds e → Stops S Next behind Expression false n e
  head_stops n e (at_in w) = before_in S Next behind det n e w
  head_stops n e (at_of w) = before_of S Next behind det n e w
  head_stops n e (at_semicolon w) = before_semicolon S Next behind det n e w

  pub head_declared : (n : Tree) {e : S} → HeadEnds e → Declared S Next behind false n e
  head_declared n (at_in w) = in_declared S Next behind det w
  head_declared n (at_of w) = of_declared S Next behind det w
  head_declared n (at_semicolon w) = semicolon_declared S Next behind det w

  pub head_comma : {e m : S} {t : Token} → HeadEnds e → Reads S Next behind Punctuator (codes ",") e t m → ⊥
  head_comma (at_in w) r = name_or_sign S Next behind det refl w.reads r
  head_comma (at_of w) r = name_or_sign S Next behind det refl w.reads r
  head_comma (at_semicolon w) r = comma_semicolon (two_signs S Next behind det refl refl r w.reads).0

  pub head_equals : {e m : S} {t : Token} → HeadEnds e → Reads S Next behind Punctuator (codes "=") e t m → ⊥
  head_equals {m = m} {t = t} ends r = (head_declared (node VariableDeclarator [] plain 0 0 none) ends).no_value t m r

  -- one declarator
  record OneDeclared (o : ℕ) (ps : Parts) (s e : S) (P : List Pair) : Type 0 where
    item : Tree
    parts : ps ≡ part item none
    spelled : Spells ways S Next behind o (declarator false false) item s e P

  one_declared_of : {o : ℕ} (ps : Parts) {s e : S} {P : List Pair} → Runs ways S Next behind o (goes_to Expression true Any (behind_head false (bare_parts ps))) ps s e P → OneDeclared o ps s e P
  one_declared_of none d = absurd (run_never S Next behind d)
  one_declared_of (gap ps) d = absurd (run_never S Next behind d)
  one_declared_of (part n (part m ps)) d = absurd (run_never S Next behind d)
  one_declared_of (part n (gap ps)) d = absurd (run_never S Next behind d)
  one_declared_of {o} (part n none) {s} {e} d =
      let v = run_the_part S Next behind (run_laid S Next behind d) in
      let z = run_none S Next behind v.runs in
      record { item = n; parts = refl; spelled = subst (λ c. Spells ways S Next behind o (declarator false false) n s e c) (sym (v.pairs ∙ ap (λ c. v.one ++ c) z.pairs ∙ append-nil v.one)) (subst (λ c. Spells ways S Next behind o (declarator false false) n s c v.one) z.place v.spelled) }

  -- several
  several_runs : {o : ℕ} (ps : Parts) {s e : S} {P : List Pair} → Runs ways S Next behind o (goes_to Expression true Any (behind_head true (bare_parts ps))) ps s e P → Runs ways S Next behind o (before_declarator (declarator false true) no_end ps) ps s e P
  several_runs ps d = retell S Next behind (ap (goes_to Expression true Any) (sym (append-nil (declarators (declarator false true) (bare_parts ps))))) (run_laid S Next behind d)

  -- what stands behind the target of the first declarator
  data BehindTarget (k e : S) : Type 0 where
    at_end : k ≡ e → BehindTarget k e
    at_equals : {t : Token} {m : S} → Reads S Next behind Punctuator (codes "=") k t m → BehindTarget k e
    at_comma : {t : Token} {m : S} → Reads S Next behind Punctuator (codes ",") k t m → BehindTarget k e

  record HeadTarget (b : Bool) (o : ℕ) (n : Tree) (s e : S) : Type 0 where
    text : List ℕ
    word : Token
    mid : S
    reads : Reads S Next behind IdentifierName text s word mid
    item : Tree
    place : S
    pairs : List Pair
    target : Target S Next behind det o mid place item pairs
    lower : height item ≤ height n
    follows : BehindTarget place e
    single : b ≡ false → place ≡ e

  record TargetOf (b : Bool) (o : ℕ) (n : Tree) (s e : S) : Type 0 where
    item : Tree
    place : S
    pairs : List Pair
    target : Target S Next behind det o s place item pairs
    lower : height item ≤ height n
    follows : BehindTarget place e
    single : b ≡ false → place ≡ e

  declarator_target : {b : Bool} {o : ℕ} {n : Tree} {s k : S} {P : List Pair} → Spells ways S Next behind o (declarator false b) n s k P → TargetOf b o n s k
  declarator_target {b} {o} {n} {s} {k} {P} d = of (declarator_form S Next behind det d)
    where
      of : DeclaratorForm S Next behind det false b o n s k P → TargetOf b o n s k
      of (with_value {st} {en} {target} {value} {k = p} {A = A} on tree t equals v z pl) =
          let high : height n ≡ height (node VariableDeclarator [] plain st en (part target (part value none))) = ap height tree in
          record { item = target; place = p; pairs = A; target = t; lower = omega arith; follows = at_equals equals; single = λ off. absurd (false≢true (sym off ∙ on)) }
      of (alone {st} {en} {target} fits tree t pl) =
          let high : height n ≡ height (node VariableDeclarator [] plain st en (part target (gap none))) = ap height tree in
          record { item = target; place = k; pairs = P; target = t; lower = omega arith; follows = at_end refl; single = λ off. refl }

  several_target : {o : ℕ} (ps : Parts) {s e : S} {P : List Pair} {n : Tree} → parts_height ps ≤ height n → Runs ways S Next behind o (before_declarator (declarator false true) no_end ps) ps s e P → TargetOf true o n s e
  several_target none low d = absurd (run_never S Next behind d)
  several_target (gap ps) low d = absurd (run_never S Next behind d)
  several_target (part n (gap ps)) low d = absurd (run_never S Next behind d)
  several_target {o} (part n none) {s} {e} {n = whole} low d =
      let v = run_the_part S Next behind d in
      let z = run_none S Next behind v.runs in
      let t = declarator_target v.spelled in
      let l = t.lower in
      record { item = t.item; place = t.place; pairs = t.pairs; target = t.target; lower = omega arith; follows = subst (λ c. BehindTarget t.place c) z.place t.follows; single = λ off. absurd (false≢true (sym off)) }
  several_target {o} (part n (part m ps)) {s} {e} {n = whole} low d =
      let v = run_the_part S Next behind d in
      let c = run_token S Next behind v.runs in
      let t = declarator_target v.spelled in
      let l = t.lower in
      record { item = t.item; place = t.place; pairs = t.pairs; target = t.target; lower = omega arith; follows = of t.place v.mid t.follows c.reads; single = λ off. absurd (false≢true (sym off)) }
    where
      of : (p k : S) → BehindTarget p k → {t : Token} {x : S} → Reads S Next behind Punctuator (codes ",") k t x → BehindTarget p e
      of p k (at_end h) {t} {x} r = at_comma (subst (λ y. Reads S Next behind Punctuator (codes ",") y t x) (sym h) r)
      of p k (at_equals h) r = at_equals h
      of p k (at_comma h) r = at_comma h

  head_target : (b : Bool) {o : ℕ} {n : Tree} {s e : S} {P : List Pair} → Spells ways S Next behind o (head b) n s e P → HeadTarget b o n s e
  head_target b {o} {n} {s} {e} {P} d =
      let f = head_form S Next behind det d in
      let t = of b f.tree f.runs in
      record { text = f.text; word = f.sign_token; mid = f.mid; reads = f.reads; item = t.item; place = t.place; pairs = t.pairs; target = t.target; lower = t.lower; follows = t.follows; single = t.single }
    where
      of : (b : Bool) {w : List ℕ} {st en : ℕ} {ps : Parts} {m : S} → n ≡ node VariableDeclaration w plain st en ps → Runs ways S Next behind o (goes_to Expression true Any (behind_head b (bare_parts ps))) ps m e P → TargetOf b o n m e
      of true {w} {st} {en} {ps} tree r = let high : height n ≡ height (node VariableDeclaration w plain st en ps) = ap height tree in several_target ps (omega arith) (several_runs ps r)
      of false {w} {st} {en} {ps} tree r =
          let v = one_declared_of ps r in
          let high : height n ≡ height (node VariableDeclaration w plain st en (part v.item none)) = ap height (tree ∙ ap (node VariableDeclaration w plain st en) v.parts) in
          let t = declarator_target v.spelled in
          let l = t.lower in
          record { item = t.item; place = t.place; pairs = t.pairs; target = t.target; lower = omega arith; follows = t.follows; single = t.single }

module _ (S : Type 0) (Next : S → Token → S → Type 0) (behind : S → Token) (det : IsDetermined S Next behind) (alike : IsAlike S Next behind) {h : ℕ} (u : Unique S Next behind det h) where
  -- two targets at a place end alike
  targets_end : {o o' : ℕ} {n n' : Tree} {s k k' : S} {A A' : List Pair} → (height n ≤ h) ⊎ (height n' ≤ h) → Target S Next behind det o s k n A → Target S Next behind det o' s k' n' A' → k' ≡ k
  targets_end {o} {o'} {n} {n'} {k = k} {k'} {A} {A'} (inl low) t t' = ((target_unique S Next behind det alike u low t).only o' t'.role k' n' A' t'.it_is t'.spelled tt).0
  targets_end {o} {o'} {n} {n'} {k = k} {k'} {A} {A'} (inr low) t t' = sym ((target_unique S Next behind det alike u low t').only o t.role k n A t.it_is t.spelled tt).0

  single_end : {b : Bool} {o o' : ℕ} {n n' : Tree} {s e e' : S} → (height n ≤ h) ⊎ (height n' ≤ h) → HeadTarget S Next behind det false o n s e → HeadEnds S Next behind det e → HeadTarget S Next behind det b o' n' s e' → e' ≡ e
  single_end {b} {o} {o'} {n} {n'} {s} {e} {e'} low x ends y =
      let i = (two_words S Next behind det y.reads x.reads).1 in
      let j = targets_end (lower low) x.target (subst (λ c. Target S Next behind det o' c y.place y.item y.pairs) i y.target) in
      of y.place (j ∙ x.single refl) y.follows
    where
      lower : (height n ≤ h) ⊎ (height n' ≤ h) → (height x.item ≤ h) ⊎ (height y.item ≤ h)
      lower (inl l) = let a = x.lower in inl (omega arith)
      lower (inr l) = let a = y.lower in inr (omega arith)

      of : (p : S) → p ≡ e → BehindTarget S Next behind det p e' → e' ≡ e
      of p q (at_end r) = sym r ∙ q
      of p q (at_equals {t} {m} r) = absurd (head_equals S Next behind det ends (subst (λ c. Reads S Next behind Punctuator (codes "=") c t m) q r))
      of p q (at_comma {t} {m} r) = absurd (head_comma S Next behind det ends (subst (λ c. Reads S Next behind Punctuator (codes ",") c t m) q r))

  -- a declaration in a head is the only one with the same flag
  pub head_found : (b : Bool) {o : ℕ} {n : Tree} {s e : S} {P : List Pair} → height n ≤ h → Spells ways S Next behind o (head b) n s e P → HeadEnds S Next behind det e → FoundWhere S Next behind (λ n e. HeadEnds S Next behind det e) o (head b) s e n P
  head_found b {o} {n} {s} {e} {P} low d fine =
      let f = head_form S Next behind det d in
      let reads : Reads S Next behind IdentifierName f.sign_token.text s f.sign_token f.mid = record { next = f.reads.next; class = f.reads.class; text = refl } in
      let sole = head_sole S Next behind det {Fine = λ n e. HeadEnds S Next behind det e} b reads (ap is_declaration_word f.reads.text ∙ f.word) in
      let told = sole.told d fine in
      let high : height n ≡ suc (parts_height told.parts) = ap height told.tree in
      found_as S Next behind det (sole_found S Next behind det sole {FineParts = λ ps e. HeadEnds S Next behind det e} (λ st en ps e f. f) (of b told.parts (omega arith) told.runs) (subst (λ v. Placed S Next behind (head b) v s e) told.tree told.placed)) d fine
    where
      of : (b : Bool) {o : ℕ} (ps : Parts) {m : S} → parts_height ps ≤ h → Runs ways S Next behind o (goes_to Expression true Any (behind_head b (bare_parts ps))) ps m e P → FoundPartsWhere S Next behind (λ ps e. HeadEnds S Next behind det e) o (λ ps. goes_to Expression true Any (behind_head b (bare_parts ps))) m e ps P
      of true ps low r =
          and_found S Next behind det (and_then S Next behind det (head_begins S Next behind det) (lay_on S Next behind det))
          (declarators_unique S Next behind det alike u false true no_end (HeadEnds S Next behind det) (λ o' n' k e' P' run ends. head_declared S Next behind det n' (subst (HeadEnds S Next behind det) (sym (run_none S Next behind run).place) ends))
          (λ o' n' k e' m' t' P' run ends c. head_comma S Next behind det (subst (HeadEnds S Next behind det) (sym (run_none S Next behind run).place) ends) c)
          (λ o1 o2 n' k e1 e2 P1 P2 r1 f1 r2 f2. (let z1 = run_none S Next behind r1 in let z2 = run_none S Next behind r2 in (sym z2.place ∙ z1.place, z2.pairs ∙ sym z1.pairs)))
          ps low (several_runs S Next behind det ps r) fine)
      of false {o} ps {m} low r = record { runs = r; only = λ o' e' ps' P' d' f'. only o' e' ps' P' (one_declared_of S Next behind det ps' d') f' }
        where
          only : (o' : ℕ) (e' : S) (ps' : Parts) (P' : List Pair) → OneDeclared S Next behind det o' ps' m e' P' → HeadEnds S Next behind det e' → (e' ≡ e) × (ps' ≡ ps) × (P' ≡ P)
          only o' e' ps' P' v' f' =
              let v = one_declared_of S Next behind det ps r in
              let high : parts_height ps ≡ parts_height (part v.item none) = ap parts_height v.parts in
              let same = (u.declarator (omega arith) v.spelled (head_declared S Next behind det v.item fine)).only o' e' v'.item P' v'.spelled (head_declared S Next behind det v'.item f') in
              (same.0, v'.parts ∙ ap (λ c. part c none) same.1 ∙ sym v.parts, same.2)

  -- declarations in heads end alike
  pub heads_end : (b c : Bool) {o o' : ℕ} {n n' : Tree} {s e e' : S} {P P' : List Pair} → height n ≤ h → Spells ways S Next behind o (head b) n s e P → HeadEnds S Next behind det e → Spells ways S Next behind o' (head c) n' s e' P' → HeadEnds S Next behind det e' → e' ≡ e
  heads_end true true {o' = o'} {n' = n'} {e' = e'} {P' = P'} low d ends d' ends' = ((head_found true low d ends).only o' e' n' P' d' ends').0
  heads_end false c low d ends d' ends' = single_end (inl low) (head_target S Next behind det false d) ends (head_target S Next behind det c d')
  heads_end true false low d ends d' ends' = sym (single_end (inr low) (head_target S Next behind det false d') ends' (head_target S Next behind det true d))
