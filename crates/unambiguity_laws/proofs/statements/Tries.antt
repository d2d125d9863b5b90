-- The handler of a `try`, and a `try`, are the only ones at their place.
use Rattle.std.proofs.Common.{◌≡◌, ℕ, suc, ◌≤◌, Bool, true, false, List, [], ◌∷◌, ◌++◌, refl, sym, ap, ◌∙◌, subst, arith}
use Rattle.std.specs.Prelude.{codes}
use Rattle.std.proofs.lemmas.Bool.{false≢true}
use Rattle.std.proofs.lemmas.List.{append-nil}
use Rattle.tokens.specs.declared.token.TokenClass.TheVariants.{IdentifierName, Punctuator}
use Rattle.tokens.specs.declared.token.Goal.{Goal}
use Rattle.tokens.specs.declared.token.Goal.TheVariants.{Div}
use Rattle.tree.specs.declared.kind.Pair.{Pair}
use Rattle.tree.specs.Tree.{Tree, node, Parts, none, part, gap, height, parts_height, bare_parts}
use Rattle.language.specs.declared.Rank.TheVariants.{Expression}
use Rattle.language.specs.declared.Start.TheVariants.{Any}
use Rattle.language.specs.Vocabulary.{is, is_reserved}
use Rattle.language.specs.StatementStart.{a_try}
use Rattle.language.specs.Pieces.{Role, block, handler, bound, sub}
use Rattle.language.specs.Token.{Token}
use Rattle.language.specs.Promises.{is_free, IsDetermined, FoundAt}
use Rattle.language.specs.Following.{IsAlike, Followed, Finished, may_follow, FoundPartsWhere}
use Rattle.language.specs.Grammar.{ways}
use Rattle.language.specs.Derivation.{Reads, Spells, Runs, Placed}
use Rattle.language.proofs.table.Begins.{goes_to, retell}
use Rattle.language.proofs.list_loops.FirstPieces.{run_none, run_token, run_laid, run_never, run_the_part, run_the_gap, run_part}
use Rattle.language.proofs.climbing.Conditionals.{same_sign}
use Rattle.language.proofs.table.ForDeclarationWays.{two_signs}
use Rattle.language.proofs.list_loops.CommaLists.{an_item}
use Rattle.language.proofs.statements.Blocks.{one_block, one_handler, handler_pieces}
use Rattle.language.proofs.table.OneKind.{one_kind}
use Rattle.language.proofs.table.OwnTokenWays.{own_sole}
use Rattle.language.proofs.statements.StatementShapes.{behind_tried, try_begins}
use Rattle.language.proofs.list_loops.PiecesSoFar.{and_then, lay_on, part_on}
use Rattle.language.proofs.table.SoleWays.{Anyhow, sole_found, sole_found_at, found_where}
use Rattle.language.proofs.statements.OptionalParts.{and_found}
use Rattle.language.proofs.statements.Declarators.{Target}
use Rattle.unambiguity_laws.proofs.Unique.{Unique, StatementStep}
use Rattle.unambiguity_laws.proofs.statements.StatementFacts.{found_as, found_at_as, parts_as}
use Rattle.unambiguity_laws.proofs.statements.Declarations.{target_unique}

open_brace : codes "(" ≡ codes "{" → ⊥
open_brace e = false≢true (ap (λ w. is w "{") e)

finally_catch : codes "finally" ≡ codes "catch" → ⊥
finally_catch e = false≢true (ap (λ w. is w "catch") e)

module _ (S : Type 0) (Next : S → Token → S → Type 0) (behind : S → Token) (det : IsDetermined S Next behind) where
  -- two words at a place are the same
  pub two_words : {v w : List ℕ} {s m k : S} {t u : Token} → Reads S Next behind IdentifierName v s t m → Reads S Next behind IdentifierName w s u k → (v ≡ w) × (m ≡ k)
  two_words {s = s} {m} {k} {t} {u} a b =
      let same = det.same Div s t u m k a.next b.next (det.free Div s t m a.next (ap is_free a.class)) (det.free Div s u k b.next (ap is_free b.class)) in
      (sym a.text ∙ ap (λ (x : Token). x.text) same.0 ∙ b.text, same.1)

  -- what a block begins with
  pub record ABrace (s : S) : Type 0 where
    pub sign : Token
    pub mid : S
    pub reads : Reads S Next behind Punctuator (codes "{") s sign mid

  pub block_begins : {r : Bool} {o : ℕ} {n : Tree} {s e : S} {P : List Pair} → Spells ways S Next behind o (block r) n s e P → ABrace s
  block_begins {r} d = let v = run_token S Next behind ((one_kind S Next behind det {Fine = Anyhow} (one_block r)).told d tt).runs in record { sign = v.sign; mid = v.mid; reads = v.reads }

  -- a handler, with a parameter or without
  data HandlerForm (r : Bool) (o : ℕ) (ps : Parts) (s e : S) (P : List Pair) : Type 0 where
    with_parameter : {p b : Tree} {t t1 t2 : Token} {m m1 k k1 : S} {A B : List Pair} → ps ≡ part p (part b none) → Reads S Next behind IdentifierName (codes "catch") s t m → Reads S Next behind Punctuator (codes "(") m t1 m1 → Target S Next behind det o m1 k p A →
        Reads S Next behind Punctuator (codes ")") k t2 k1 → Spells ways S Next behind o (block r) b k1 e B → P ≡ A ++ B → HandlerForm r o ps s e P
    no_parameter : {b : Tree} {t : Token} {m : S} → ps ≡ gap (part b none) → Reads S Next behind IdentifierName (codes "catch") s t m → Spells ways S Next behind o (block r) b m e P → HandlerForm r o ps s e P

  -- a part alone
  pub record Last (o : ℕ) (a : Role) (ps : Parts) (s e : S) (P : List Pair) : Type 0 where
    pub item : Tree
    pub parts : ps ≡ part item none
    pub spelled : Spells ways S Next behind o a item s e P

  pub last_part : {o : ℕ} {a : Role} {ps : Parts} {s e : S} {P : List Pair} → Runs ways S Next behind o (sub a ∷ []) ps s e P → Last o a ps s e P
  last_part {o} {a} {ps} {s} {e} {P} d =
      let v = run_part S Next behind d in
      let z = run_none S Next behind v.runs in
      record { item = v.item; parts = v.parts ∙ ap (part v.item) z.parts; spelled = subst (λ c. Spells ways S Next behind o a v.item s e c) (sym (v.pairs ∙ ap (λ c. v.one ++ c) z.pairs ∙ append-nil v.one)) (subst (λ c. Spells ways S Next behind o a v.item s c v.one) z.place v.spelled) }

  handler_form : {r : Bool} {o : ℕ} (ps : Parts) {s e : S} {P : List Pair} → Runs ways S Next behind o (goes_to Expression true Any (handler_pieces r (bare_parts ps))) ps s e P → HandlerForm r o ps s e P
  handler_form none d = absurd (run_never S Next behind d)
  handler_form (gap ps) d =
      let t = run_token S Next behind (run_the_gap S Next behind d) in
      let v = last_part (run_laid S Next behind t.runs) in
      no_parameter (ap gap v.parts) t.reads v.spelled
  handler_form (part (node c w g st en qs) ps) d =
      let t = run_token S Next behind d in
      let t1 = run_token S Next behind (run_laid S Next behind t.runs) in
      let p = an_item S Next behind det (bound true c) t1.runs in
      let t2 = run_token S Next behind p.runs in
      let v = last_part (run_laid S Next behind t2.runs) in
      with_parameter (ap (part (node c w g st en qs)) v.parts) t.reads t1.reads (record { role = p.role; it_is = p.it_is; spelled = p.spelled }) t2.reads v.spelled p.pairs

  -- what it begins with
  record ACatch (s : S) : Type 0 where
    sign : Token
    mid : S
    reads : Reads S Next behind IdentifierName (codes "catch") s sign mid

  handler_begins : {r : Bool} {o : ℕ} {n : Tree} {s e : S} {P : List Pair} → Spells ways S Next behind o (handler r) n s e P → ACatch s
  handler_begins {r} d = let told = (one_kind S Next behind det {Fine = Anyhow} (one_handler r)).told d tt in of (handler_form told.parts told.runs)
    where
      of : {o : ℕ} {ps : Parts} {s e : S} {P : List Pair} → HandlerForm r o ps s e P → ACatch s
      of (with_parameter {t = t} {m = m} p c x y z b q) = record { sign = t; mid = m; reads = c }
      of (no_parameter {t = t} {m = m} p c b) = record { sign = t; mid = m; reads = c }

  -- behind its block: a handler, `finally` with its block, or both
  data TriedForm (r : Bool) (o : ℕ) (ps : Parts) (s e : S) (P : List Pair) : Type 0 where
    caught : {n : Tree} → ps ≡ part n (gap none) → Spells ways S Next behind o (handler r) n s e P → TriedForm r o ps s e P
    both : {n f : Tree} {k m : S} {t : Token} {A B : List Pair} → ps ≡ part n (part f none) → Spells ways S Next behind o (handler r) n s k A → Reads S Next behind IdentifierName (codes "finally") k t m → Spells ways S Next behind o (block r) f m e B → P ≡ A ++ B → TriedForm r o ps s e P
    finally_alone : {f : Tree} {m : S} {t : Token} → ps ≡ gap (part f none) → Reads S Next behind IdentifierName (codes "finally") s t m → Spells ways S Next behind o (block r) f m e P → TriedForm r o ps s e P

  tried_form : {r : Bool} {o : ℕ} (b : Tree) (ps : Parts) {s e : S} {P : List Pair} → Runs ways S Next behind o (goes_to Expression true Any (behind_tried r (bare_parts (part b ps)))) ps s e P → TriedForm r o ps s e P
  tried_form {r} {o} b (part n (gap none)) {s} {e} d =
      let v = run_the_part S Next behind (run_laid S Next behind d) in
      let z = run_none S Next behind (run_the_gap S Next behind v.runs) in
      caught refl (subst (λ c. Spells ways S Next behind o (handler r) n s e c) (sym (v.pairs ∙ ap (λ c. v.one ++ c) z.pairs ∙ append-nil v.one)) (subst (λ c. Spells ways S Next behind o (handler r) n s c v.one) z.place v.spelled))
  tried_form b (part n (part f none)) d =
      let v = run_the_part S Next behind (run_laid S Next behind d) in
      let t = run_token S Next behind (run_laid S Next behind v.runs) in
      let w = last_part (run_laid S Next behind t.runs) in
      both (ap (part n) w.parts) v.spelled t.reads w.spelled v.pairs
  tried_form b (gap (part f none)) d =
      let t = run_token S Next behind (run_laid S Next behind (run_the_gap S Next behind d)) in
      let w = last_part (run_laid S Next behind t.runs) in
      finally_alone (ap gap w.parts) t.reads w.spelled
  tried_form b none d = absurd (run_never S Next behind d)
  tried_form b (part n none) d = absurd (run_never S Next behind d)
  tried_form b (part n (gap (part f ps))) d = absurd (run_never S Next behind d)
  tried_form b (part n (gap (gap ps))) d = absurd (run_never S Next behind d)
  tried_form b (part n (part f (part m ps))) d = absurd (run_never S Next behind d)
  tried_form b (part n (part f (gap ps))) d = absurd (run_never S Next behind d)
  tried_form b (gap none) d = absurd (run_never S Next behind d)
  tried_form b (gap (gap ps)) d = absurd (run_never S Next behind d)
  tried_form b (gap (part f (part m ps))) d = absurd (run_never S Next behind d)
  tried_form b (gap (part f (gap ps))) d = absurd (run_never S Next behind d)

  -- `finally` follows no statement
  finally_follows : {s m : S} {t : Token} → Reads S Next behind IdentifierName (codes "finally") s t m → Followed S Next behind false s → ⊥
  unfolding is_reserved
  finally_follows {s} {m} {t} r fine =
      let same = (det.same Goal.RegExp s fine.token t fine.mid m fine.read.next r.next fine.read.allowed (det.free Goal.RegExp s t m r.next (ap is_free r.class))).0 in
      false≢true (sym (follows t r.class r.text) ∙ ap (may_follow false) (sym same) ∙ fine.follows)
    where
      follows : (t : Token) → t.class ≡ IdentifierName → t.text ≡ codes "finally" → may_follow false t ≡ false
      follows t c w = ap (λ x. may_follow false (record { class = x; text = t.text; start = 0; stop = 0; after_break = false })) c ∙ ap (λ x. may_follow false (record { class = IdentifierName; text = x; start = 0; stop = 0; after_break = false })) w

module _ (S : Type 0) (Next : S → Token → S → Type 0) (behind : S → Token) (det : IsDetermined S Next behind) (alike : IsAlike S Next behind) {h : ℕ} (u : Unique S Next behind det h) where
  handler_parts : {r : Bool} {o o' : ℕ} {ps ps' : Parts} {s e e' : S} {P P' : List Pair} → parts_height ps ≤ h → HandlerForm S Next behind det r o ps s e P → HandlerForm S Next behind det r o' ps' s e' P' → (e' ≡ e) × (ps' ≡ ps) × (P' ≡ P)
  handler_parts {r} {o} {o'} {ps} {ps'} {s} {e} {e'} {P} {P'} low (with_parameter {p} {b} {m1 = m1} {k = k} {k1 = k1} {A = A} {B = B} tree c x y z d q) (with_parameter {p = p'} {b = b'} {t1 = t1'} {t2 = t2'} {m1 = m1'} {k = k'} {k1 = k1'} {A = A'} {B = B'} tree' c' x' y' z' d' q') =
      let high : parts_height ps ≡ parts_height (part p (part b none)) = ap parts_height tree in
      let i1 = (two_words S Next behind det c' c).1 in
      let i2 = (same_sign S Next behind det (subst (λ v. Reads S Next behind Punctuator (codes "(") v t1' m1') i1 x') x refl).1 in
      let first = target_unique S Next behind det alike u (omega arith) y in
      let i3 = first.only o' y'.role k' p' A' y'.it_is (subst (λ v. Spells ways S Next behind o' y'.role p' v k' A') i2 y'.spelled) tt in
      let i4 = (same_sign S Next behind det (subst (λ v. Reads S Next behind Punctuator (codes ")") v t2' k1') i3.0 z') z refl).1 in
      let second = u.closed refl (omega arith) d in
      let i5 = second.only o' e' b' B' (subst (λ v. Spells ways S Next behind o' (block r) b' v e' B') i4 d') in
      (i5.0, tree' ∙ (λ j. part (i3.1 j) (part (i5.1 j) none)) ∙ sym tree, q' ∙ (λ j. i3.2 j ++ i5.2 j) ∙ sym q)
  handler_parts {r} {o} {o'} {ps} {ps'} {s} {e} {e'} {P} {P'} low (no_parameter {b} tree c d) (no_parameter {b = b'} tree' c' d') =
      let high : parts_height ps ≡ parts_height (gap (part b none)) = ap parts_height tree in
      let i1 = (two_words S Next behind det c' c).1 in
      let second = u.closed refl (omega arith) d in
      let i5 = second.only o' e' b' P' (subst (λ v. Spells ways S Next behind o' (block r) b' v e' P') i1 d') in
      (i5.0, tree' ∙ ap (λ v. gap (part v none)) i5.1 ∙ sym tree, i5.2)
  handler_parts low (with_parameter tree c x y z d q) (no_parameter tree' c' d') =
      let i1 = (two_words S Next behind det c' c).1 in
      let v = block_begins S Next behind det d' in
      absurd (open_brace (two_signs S Next behind det refl refl x (subst (λ s. Reads S Next behind Punctuator (codes "{") s v.sign v.mid) i1 v.reads)).0)
  handler_parts low (no_parameter tree' c' d') (with_parameter tree c x y z d q) =
      let i1 = (two_words S Next behind det c' c).1 in
      let v = block_begins S Next behind det d' in
      absurd (open_brace (two_signs S Next behind det refl refl x (subst (λ s. Reads S Next behind Punctuator (codes "{") s v.sign v.mid) i1 v.reads)).0)

  -- a handler
  pub handler_closed : {r : Bool} {o : ℕ} {n : Tree} {s e : S} {P : List Pair} → height n ≤ suc h → Spells ways S Next behind o (handler r) n s e P → FoundAt S Next behind o (handler r) s e n P
  handler_closed {r} {o} {n} {s} {e} {P} low d =
      let sole = one_kind S Next behind det {Fine = Anyhow} {s = s} (one_handler r) in
      let told = sole.told d tt in
      let high : height n ≡ suc (parts_height told.parts) = ap height told.tree in
      let form = handler_form S Next behind det told.parts told.runs in
      found_at_as S Next behind det (sole_found_at S Next behind det sole (record { runs = told.runs; only = λ o' e' ps' P' d'. handler_parts (omega arith) form (handler_form S Next behind det ps' d') })
      (subst (λ v. Placed S Next behind (handler r) v s e) told.tree told.placed)) d

  tried_parts : {r : Bool} {o o' : ℕ} {ps ps' : Parts} {s e e' : S} {P P' : List Pair} → parts_height ps ≤ h → TriedForm S Next behind det r o ps s e P → Followed S Next behind false e → TriedForm S Next behind det r o' ps' s e' P' → Followed S Next behind false e' → (e' ≡ e) × (ps' ≡ ps) × (P' ≡ P)
  tried_parts {r} {o} {o'} {ps} {ps'} {s} {e} {e'} {P} {P'} low (caught {n} tree d) fine (caught {n = n'} tree' d') fine' =
      let high : parts_height ps ≡ parts_height (part n (gap none)) = ap parts_height tree in
      let i = (u.closed refl (omega arith) d).only o' e' n' P' d' in
      (i.0, tree' ∙ ap (λ v. part v (gap none)) i.1 ∙ sym tree, i.2)
  tried_parts {r} {o} {o'} {ps} {ps'} {s} {e} {e'} {P} {P'} low (caught {n} tree d) fine (both {n = n'} {f = f'} {k = k'} {m = m'} {t = t'} {A = A'} tree' d' x' b' q') fine' =
      let high : parts_height ps ≡ parts_height (part n (gap none)) = ap parts_height tree in
      let i = (u.closed refl (omega arith) d).only o' k' n' A' d' in
      absurd (finally_follows S Next behind det (subst (λ v. Reads S Next behind IdentifierName (codes "finally") v t' m') i.0 x') fine)
  tried_parts low (caught tree d) fine (finally_alone tree' x' b') fine' = absurd (finally_catch (two_words S Next behind det x' (handler_begins S Next behind det d).reads).0)
  tried_parts {r} {o} {o'} {ps} {ps'} {s} {e} {e'} {P} {P'} low (both {n} {f} {k} {m} {t} {A} tree d x b q) fine (caught {n = n'} tree' d') fine' =
      let high : parts_height ps ≡ parts_height (part n (part f none)) = ap parts_height tree in
      let i = (u.closed refl (omega arith) d).only o' e' n' P' d' in
      absurd (finally_follows S Next behind det (subst (λ v. Reads S Next behind IdentifierName (codes "finally") v t m) (sym i.0) x) fine')
  tried_parts {r} {o} {o'} {ps} {ps'} {s} {e} {e'} {P} {P'} low (both {n} {f} {k} {m} {t} {A} {B} tree d x b q) fine (both {n = n'} {f = f'} {k = k'} {m = m'} {t = t'} {A = A'} {B = B'} tree' d' x' b' q') fine' =
      let high : parts_height ps ≡ parts_height (part n (part f none)) = ap parts_height tree in
      let i = (u.closed refl (omega arith) d).only o' k' n' A' d' in
      let i1 = (two_words S Next behind det (subst (λ v. Reads S Next behind IdentifierName (codes "finally") v t' m') i.0 x') x).1 in
      let i2 = (u.closed refl (omega arith) b).only o' e' f' B' (subst (λ v. Spells ways S Next behind o' (block r) f' v e' B') i1 b') in
      (i2.0, tree' ∙ (λ j. part (i.1 j) (part (i2.1 j) none)) ∙ sym tree, q' ∙ (λ j. i.2 j ++ i2.2 j) ∙ sym q)
  tried_parts low (both tree d x b q) fine (finally_alone tree' x' b') fine' = absurd (finally_catch (two_words S Next behind det x' (handler_begins S Next behind det d).reads).0)
  tried_parts low (finally_alone tree' x' b') fine (caught tree d) fine' = absurd (finally_catch (two_words S Next behind det x' (handler_begins S Next behind det d).reads).0)
  tried_parts low (finally_alone tree' x' b') fine (both tree d x b q) fine' = absurd (finally_catch (two_words S Next behind det x' (handler_begins S Next behind det d).reads).0)
  tried_parts {r} {o} {o'} {ps} {ps'} {s} {e} {e'} {P} {P'} low (finally_alone {f} {m} {t} tree x b) fine (finally_alone {f = f'} {m = m'} {t = t'} tree' x' b') fine' =
      let high : parts_height ps ≡ parts_height (gap (part f none)) = ap parts_height tree in
      let i1 = (two_words S Next behind det x' x).1 in
      let i2 = (u.closed refl (omega arith) b).only o' e' f' P' (subst (λ v. Spells ways S Next behind o' (block r) f' v e' P') i1 b') in
      (i2.0, tree' ∙ ap (λ v. gap (part v none)) i2.1 ∙ sym tree, i2.2)

  -- a `try`
  pub try_statement : StatementStep S Next behind det h a_try
  try_statement = record {
    gives = λ {a} {p} {d} {r} {o} {n} {s} {m} {e} {P} {t} stands low sp fine read begun.
        let sole = own_sole S Next behind det {Fine = Finished S Next behind} stands read a_try begun refl (λ z. cc) (λ o n e P w. elim w [ ]) in
        let told = sole.told sp fine in
        let high : height n ≡ suc (parts_height told.parts) = ap height told.tree in
        let fine' : Followed S Next behind false e = subst (λ v. Finished S Next behind v e) told.tree fine in
        let w = (try_begins S Next behind det {Fine = λ ps e. Followed S Next behind false e} {o = o} r).leads told.runs fine' in
        let v = run_part S Next behind (run_laid S Next behind w.runs) in
        let high1 : parts_height told.parts ≡ parts_height (part v.item v.rest) = ap parts_height w.parts ∙ ap parts_height v.parts in
        let runs : Runs ways S Next behind o (goes_to Expression true Any (behind_tried r (bare_parts (part v.item v.rest)))) v.rest v.mid e v.more = retell S Next behind (ap (λ c. goes_to Expression true Any (behind_tried r (bare_parts c))) v.parts) v.runs in
        let form = tried_form S Next behind det v.item v.rest runs in
        let rest : FoundPartsWhere S Next behind (λ ps e. Followed S Next behind false e) o (λ ps. goes_to Expression true Any (behind_tried r (bare_parts (part v.item ps)))) v.mid e v.rest v.more =
        record { runs = runs; only = λ o' e' ps' P' d' f. tried_parts (omega arith) form fine' (tried_form S Next behind det v.item ps' d') f } in
        let sofar = and_then S Next behind det (try_begins S Next behind det {Fine = λ ps e. Followed S Next behind false e} {o = o} r) (and_then S Next behind det (lay_on S Next behind det)
        (part_on S Next behind det {FineNode = Anyhow} {after = λ ps. goes_to Expression true Any (behind_tried r (bare_parts ps))} (found_where S Next behind det (u.closed refl (omega arith) v.spelled)) (λ o' m' ps' k' e' A' P' d' r' f. tt))) in
        found_as S Next behind det (sole_found S Next behind det sole {FineParts = λ ps e. Followed S Next behind false e} (λ st en ps e f. f) (parts_as S Next behind det (and_found S Next behind det sofar rest) told.runs fine') (subst (λ v. Placed S Next behind a v s e) told.tree told.placed)) sp fine;
  }
