-- The cases of a `switch`, and a `switch`, are the only ones at their place.
use Rattle.std.proofs.Common.{◌≡◌, ℕ, suc, ◌≤◌, Bool, true, false, cond, List, [], ◌∷◌, ◌++◌, refl, sym, ap, ◌∙◌, subst, arith}
use Rattle.std.specs.Prelude.{IsTrue, codes, nat_le}
use Rattle.std.proofs.lemmas.Bool.{false≢true}
use Rattle.tokens.specs.declared.token.TokenClass.{TokenClass}
use Rattle.tokens.specs.declared.token.TokenClass.TheVariants.{IdentifierName, Punctuator}
use Rattle.tokens.specs.declared.token.Goal.{Goal}
use Rattle.tokens.specs.Goals.{allows}
use Rattle.tree.specs.declared.kind.Pair.{Pair}
use Rattle.tree.specs.Tree.{Tree, Parts, none, part, gap, height, parts_height, bare_parts}
use Rattle.language.specs.declared.Rank.TheVariants.{Expression}
use Rattle.language.specs.declared.Start.TheVariants.{Any}
use Rattle.language.specs.Vocabulary.{is}
use Rattle.language.specs.StatementStart.{a_switch}
use Rattle.language.specs.Pieces.{Role, expr, item, switch_case, lay, shallower, nothing}
use Rattle.language.specs.Statements.{lines, defaults}
use Rattle.language.specs.Token.{Token}
use Rattle.language.specs.Promises.{IsDetermined}
use Rattle.language.specs.Following.{IsAlike, Finished, ListEnds, ends_list, FoundWhere, FoundPartsWhere}
use Rattle.language.specs.Grammar.{ways}
use Rattle.language.specs.Derivation.{Reads, Spells, Runs, within, Placed}
use Rattle.language.proofs.table.Begins.{goes_to, retell}
use Rattle.language.proofs.list_loops.FirstPieces.{run_none, run_token, run_laid, run_never, run_the_part, run_the_gap, run_part}
use Rattle.language.proofs.climbing.Conditionals.{same_sign}
use Rattle.language.proofs.covers.CoverReadings.{name_or_sign}
use Rattle.language.proofs.statements.Blocks.{one_case, case_pieces}
use Rattle.language.proofs.statements.StatementFollow.{idle_stops}
use Rattle.language.proofs.list_loops.StatementLists.{plain_lines, closing_brace, block_begins, case_closes}
use Rattle.language.proofs.table.OneKind.{one_kind}
use Rattle.language.proofs.table.OwnTokenWays.{own_sole}
use Rattle.language.proofs.statements.StatementShapes.{behind_cases, switch_begins}
use Rattle.language.proofs.table.SoleWays.{Anyhow, sole_found}
use Rattle.language.proofs.table.StatementWays.{as_item, behind_brace, behind_switch}
use Rattle.unambiguity_laws.proofs.Unique.{Unique, StatementStep}
use Rattle.unambiguity_laws.proofs.statements.StatementFacts.{found_as}
use Rattle.unambiguity_laws.proofs.list_items.LinesOnce.{Lines, lines_unique, statement_lines}
use Rattle.unambiguity_laws.proofs.statements.Tries.{two_words}

default_case : codes "default" ≡ codes "case" → ⊥
default_case e = false≢true (ap (λ w. is w "case") e)

module _ (S : Type 0) (Next : S → Token → S → Type 0) (behind : S → Token) (det : IsDetermined S Next behind) where
  -- layout aside, the items of a case are these
  case_lines : (a : Role) {o : ℕ} (ps : Parts) {s e : S} {P : List Pair} → Runs ways S Next behind o (goes_to Expression true Any (lines a (bare_parts ps) ++ lay shallower ∷ [])) ps s e P → Runs ways S Next behind o (plain_lines a [] ps) ps s e P
  case_lines a none d = run_laid S Next behind d
  case_lines a (gap ps) d = absurd (run_never S Next behind d)
  case_lines a {o} (part n ps) {s} {e} d =
      let u = run_the_part S Next behind (run_laid S Next behind d) in
      subst (λ v. Runs ways S Next behind o (plain_lines a [] (part n ps)) (part n ps) s e v) (sym u.pairs) (within u.spelled (case_lines a ps u.runs))

  -- a case, with a test or without
  data CaseForm (r : Bool) (o : ℕ) (ps : Parts) (s e : S) (P : List Pair) : Type 0 where
    tested : {x : Tree} {qs : Parts} {t t1 : Token} {m k k1 : S} {A B : List Pair} → ps ≡ part x qs → Reads S Next behind IdentifierName (codes "case") s t m → Spells ways S Next behind o (expr Expression true Any) x m k A → Reads S Next behind Punctuator (codes ":") k t1 k1 →
        Runs ways S Next behind o (plain_lines (item r) [] qs) qs k1 e B → P ≡ A ++ B → CaseForm r o ps s e P
    untested : {qs : Parts} {t t1 : Token} {m k1 : S} → ps ≡ gap qs → Reads S Next behind IdentifierName (codes "default") s t m → Reads S Next behind Punctuator (codes ":") m t1 k1 → Runs ways S Next behind o (plain_lines (item r) [] qs) qs k1 e P → CaseForm r o ps s e P

  case_form : {r : Bool} {o : ℕ} (ps : Parts) {s e : S} {P : List Pair} → Runs ways S Next behind o (goes_to Expression true Any (case_pieces r (bare_parts ps))) ps s e P → CaseForm r o ps s e P
  case_form none d = absurd (run_never S Next behind d)
  case_form (part x ps) d =
      let t = run_token S Next behind d in
      let v = run_the_part S Next behind (run_laid S Next behind t.runs) in
      let t1 = run_token S Next behind v.runs in
      tested refl t.reads v.spelled t1.reads (case_lines _ ps (run_laid S Next behind t1.runs)) v.pairs
  case_form (gap ps) d =
      let t = run_token S Next behind (run_the_gap S Next behind d) in
      let t1 = run_token S Next behind t.runs in
      untested refl t.reads t1.reads (case_lines _ ps (run_laid S Next behind t1.runs))

  -- a list of statements ends before such a token
  list_ends : {c : TokenClass} {w : List ℕ} {s m : S} {t : Token} → IsTrue (allows Goal.RegExp c w) → ends_list (record { class = c; text = w; start = 0; stop = 0; after_break = false }) ≡ true → Reads S Next behind c w s t m → ListEnds S Next behind s
  list_ends {c} {w} {s} {m} {t} al h r = record {
    token = t;
    mid = m;
    read = record { next = r.next; allowed = subst (λ x. IsTrue (allows Goal.RegExp x t.text)) (sym r.class) (subst (λ x. IsTrue (allows Goal.RegExp c x)) (sym r.text) al) };
    ends = ap (λ x. ends_list (record { class = x; text = t.text; start = 0; stop = 0; after_break = false })) r.class ∙ ap (λ x. ends_list (record { class = c; text = x; start = 0; stop = 0; after_break = false })) r.text ∙ h;
  }

  -- a case begins with a word before which such a list ends
  record ACase (s : S) : Type 0 where
    text : List ℕ
    sign_token : Token
    mid : S
    reads : Reads S Next behind IdentifierName text s sign_token mid
    ends : ListEnds S Next behind s

  case_begins : {r : Bool} {o : ℕ} {n : Tree} {s e : S} {P : List Pair} → Spells ways S Next behind o (switch_case r) n s e P → ACase s
  case_begins {r} d = let told = (one_kind S Next behind det {Fine = Anyhow} (one_case r)).told d tt in of (case_form told.parts told.runs)
    where
      of : {o : ℕ} {ps : Parts} {s e : S} {P : List Pair} → CaseForm r o ps s e P → ACase s
      of (tested {t = t} {m = m} p c x y z q) = record { text = codes "case"; sign_token = t; mid = m; reads = c; ends = list_ends refl refl c }
      of (untested {t = t} {m = m} p c y z) = record { text = codes "default"; sign_token = t; mid = m; reads = c; ends = list_ends refl refl c }

  -- behind `switch`: what is tested, and the cases
  record SwitchForm (r : Bool) (o : ℕ) (ps : Parts) (s e : S) (P : List Pair) : Type 0 where
    test : Tree
    cases : Parts
    t : Token
    t1 : Token
    t2 : Token
    m : S
    k : S
    k1 : S
    k2 : S
    one : List Pair
    more : List Pair
    parts : ps ≡ part test cases
    opens : Reads S Next behind Punctuator (codes "(") s t m
    spelled : Spells ways S Next behind o (expr Expression true Any) test m k one
    closes : Reads S Next behind Punctuator (codes ")") k t1 k1
    begins : Reads S Next behind Punctuator (codes "{") k1 t2 k2
    runs : Runs ways S Next behind o (plain_lines (switch_case r) closing_brace cases) cases k2 e more
    pairs : P ≡ one ++ more

  switch_form : {r : Bool} {o : ℕ} {ps : Parts} {s e : S} {P : List Pair} → Runs ways S Next behind o (goes_to Expression true Any (behind_switch r (bare_parts ps))) ps s e P → SwitchForm r o ps s e P
  switch_form {r} {o} {ps} {s} {e} {P} d =
      let w = (switch_begins S Next behind det {Fine = Anyhow} {o = o} {mid = s} r).leads d tt in
      let a = run_token S Next behind (run_laid S Next behind w.runs) in
      let v = run_part S Next behind a.runs in
      let b = run_token S Next behind v.runs in
      let c = run_token S Next behind (run_laid S Next behind b.runs) in
      let x : Runs ways S Next behind o (goes_to Expression true Any (cond (nat_le (defaults (bare_parts v.rest)) 1) (behind_brace (bare_parts v.rest) (lines (switch_case r) (bare_parts v.rest))) nothing)) v.rest c.mid e v.more =
      retell S Next behind (ap (λ c. goes_to Expression true Any (behind_cases r (bare_parts c))) v.parts) c.runs in
      let g = (block_begins S Next behind det {Fine = Anyhow} {o = o} {m = c.mid} (switch_case r)).leads (allowed v.rest (nat_le (defaults (bare_parts v.rest)) 1) x) tt in
      record {
        test = v.item;
        cases = g.rest;
        t = a.sign;
        t1 = b.sign;
        t2 = c.sign;
        m = a.mid;
        k = v.mid;
        k1 = b.mid;
        k2 = c.mid;
        one = v.one;
        more = g.more;
        parts = w.parts ∙ v.parts ∙ ap (part v.item) g.parts;
        opens = a.reads;
        spelled = v.spelled;
        closes = b.reads;
        begins = c.reads;
        runs = g.runs;
        pairs = w.pairs ∙ v.pairs ∙ ap (λ c. v.one ++ c) g.pairs;
      }
    where
      allowed : (qs : Parts) (b : Bool) {k : S} {R : List Pair} → Runs ways S Next behind o (goes_to Expression true Any (cond b (behind_brace (bare_parts qs) (lines (switch_case r) (bare_parts qs))) nothing)) qs k e R →
          Runs ways S Next behind o (goes_to Expression true Any (behind_brace (bare_parts qs) (lines (switch_case r) (bare_parts qs)))) qs k e R
      allowed qs true d = d
      allowed qs false d = absurd (run_never S Next behind d)

module _ (S : Type 0) (Next : S → Token → S → Type 0) (behind : S → Token) (det : IsDetermined S Next behind) (alike : IsAlike S Next behind) {h : ℕ} (u : Unique S Next behind det h) where
  item_lines : {r : Bool} → Lines S Next behind det alike u (item r) [] (Finished S Next behind) (ListEnds S Next behind)
  item_lines = statement_lines S Next behind det alike u as_item (case_closes S Next behind det)
      (λ o o' k e e' P P' d end d' end'. (let z = run_none S Next behind d in let z' = run_none S Next behind d' in (sym z'.place ∙ z.place, z'.pairs ∙ sym z.pairs)))

  case_parts : {r : Bool} {o o' : ℕ} {ps ps' : Parts} {s e e' : S} {P P' : List Pair} → parts_height ps ≤ h → CaseForm S Next behind det r o ps s e P → ListEnds S Next behind e → CaseForm S Next behind det r o' ps' s e' P' → ListEnds S Next behind e' → (e' ≡ e) × (ps' ≡ ps) × (P' ≡ P)
  case_parts {r} {o} {o'} {ps} {ps'} {s} {e} {e'} {P} {P'} low (tested {x} {qs} {t} {t1} {m} {k} {k1} {A} {B} tree c d y z q) fine (tested {x = x'} {qs = qs'} {t = t'} {t1 = t1'} {m = m'} {k = k'} {k1 = k1'} {A = A'} {B = B'} tree' c' d' y' z' q') fine' =
      let high : parts_height ps ≡ parts_height (part x qs) = ap parts_height tree in
      let i1 = (two_words S Next behind det c' c).1 in
      let found = u.expressions.found (omega arith) (λ z. cc) (λ z. cc) d (idle_stops S Next behind det Expression true x refl (λ x b. refl) y) in
      let i2 = found.only o' k' x' A' (subst (λ v. Spells ways S Next behind o' (expr Expression true Any) x' v k' A') i1 d') (idle_stops S Next behind det Expression true x' refl (λ x b. refl) y') in
      let i3 = (same_sign S Next behind det (subst (λ v. Reads S Next behind Punctuator (codes ":") v t1' k1') i2.0 y') y refl).1 in
      let i4 = lines_unique S Next behind det alike u item_lines qs qs' (omega arith) z fine (subst (λ v. Runs ways S Next behind o' (plain_lines (item r) [] qs') qs' v e' B') i3 z') fine' in
      (i4.0, tree' ∙ (λ j. part (i2.1 j) (i4.1 j)) ∙ sym tree, q' ∙ (λ j. i2.2 j ++ i4.2 j) ∙ sym q)
  case_parts {r} {o} {o'} {ps} {ps'} {s} {e} {e'} {P} {P'} low (untested {qs} {t} {t1} {m} {k1} tree c y z) fine (untested {qs = qs'} {t = t'} {t1 = t1'} {m = m'} {k1 = k1'} tree' c' y' z') fine' =
      let high : parts_height ps ≡ parts_height (gap qs) = ap parts_height tree in
      let i1 = (two_words S Next behind det c' c).1 in
      let i3 = (same_sign S Next behind det (subst (λ v. Reads S Next behind Punctuator (codes ":") v t1' k1') i1 y') y refl).1 in
      let i4 = lines_unique S Next behind det alike u item_lines qs qs' (omega arith) z fine (subst (λ v. Runs ways S Next behind o' (plain_lines (item r) [] qs') qs' v e' P') i3 z') fine' in
      (i4.0, tree' ∙ ap gap i4.1 ∙ sym tree, i4.2)
  case_parts low (tested tree c d y z q) fine (untested tree' c' y' z') fine' = absurd (default_case (two_words S Next behind det c' c).0)
  case_parts low (untested tree' c' y' z') fine (tested tree c d y z q) fine' = absurd (default_case (two_words S Next behind det c' c).0)

  -- a case, where its list ends
  case_found : {r : Bool} {o : ℕ} {n : Tree} {s e : S} {P : List Pair} → height n ≤ h → Spells ways S Next behind o (switch_case r) n s e P → ListEnds S Next behind e → FoundWhere S Next behind (λ n e. ListEnds S Next behind e) o (switch_case r) s e n P
  case_found {r} {o} {n} {s} {e} {P} low d fine =
      let sole = one_kind S Next behind det {Fine = λ n e. ListEnds S Next behind e} {s = s} (one_case r) in
      let told = sole.told d fine in
      let high : height n ≡ suc (parts_height told.parts) = ap height told.tree in
      let form = case_form S Next behind det told.parts told.runs in
      let found : FoundPartsWhere S Next behind (λ ps e. ListEnds S Next behind e) o (λ ps. goes_to Expression true Any (case_pieces r (bare_parts ps))) s e told.parts P =
      record { runs = told.runs; only = λ o' e' ps' P' d' fine'. case_parts (omega arith) form fine (case_form S Next behind det ps' d') fine' } in
      found_as S Next behind det (sole_found S Next behind det sole {FineParts = λ ps e. ListEnds S Next behind e} (λ st en ps e f. f) found (subst (λ v. Placed S Next behind (switch_case r) v s e) told.tree told.placed)) d fine

  case_list : {r : Bool} → Lines S Next behind det alike u (switch_case r) closing_brace (λ n e. ListEnds S Next behind e) (λ e. Unit {0})
  case_list {r} = record {
    follow = λ {o} m ps {k} {e} {P} d end. follow ps d;
    no_line = λ {o} {o'} {m} {s} {k} {e} {A} {P} sp d end. name_or_sign S Next behind det refl (case_begins S Next behind det sp).reads (run_token S Next behind d).reads;
    once = λ {o} {o'} {k} {e} {e'} {P} {P'} d end d' end'.
        let c = run_token S Next behind d in
        let c' = run_token S Next behind d' in
        let z = run_none S Next behind c.runs in
        let z' = run_none S Next behind c'.runs in
        (sym z'.place ∙ (same_sign S Next behind det c'.reads c.reads refl).1 ∙ z.place, z'.pairs ∙ sym z.pairs);
    line = λ {o} {n} {s} {k} {A} low sp fine. case_found low sp fine;
  }
    where
      follow : {o : ℕ} (ps : Parts) {k e : S} {P : List Pair} → Runs ways S Next behind o (plain_lines (switch_case r) closing_brace ps) ps k e P → ListEnds S Next behind k
      follow none d = list_ends S Next behind det refl refl (run_token S Next behind d).reads
      follow (gap ps) d = absurd (run_never S Next behind d)
      follow (part n ps) d = (case_begins S Next behind det (run_the_part S Next behind d).spelled).ends

  switch_parts : {r : Bool} {o o' : ℕ} {ps ps' : Parts} {s e e' : S} {P P' : List Pair} → parts_height ps ≤ h → SwitchForm S Next behind det r o ps s e P → SwitchForm S Next behind det r o' ps' s e' P' → (e' ≡ e) × (ps' ≡ ps) × (P' ≡ P)
  switch_parts {r} {o} {o'} {ps} {ps'} {s} {e} {e'} {P} {P'} low a b =
      let high : parts_height ps ≡ parts_height (part a.test a.cases) = ap parts_height a.parts in
      let i1 = (same_sign S Next behind det b.opens a.opens refl).1 in
      let found = u.expressions.found (omega arith) (λ z. cc) (λ z. cc) a.spelled (idle_stops S Next behind det Expression true a.test refl (λ x b. refl) a.closes) in
      let i2 = found.only o' b.k b.test b.one (subst (λ v. Spells ways S Next behind o' (expr Expression true Any) b.test v b.k b.one) i1 b.spelled) (idle_stops S Next behind det Expression true b.test refl (λ x b. refl) b.closes) in
      let i3 = (same_sign S Next behind det (subst (λ v. Reads S Next behind Punctuator (codes ")") v b.t1 b.k1) i2.0 b.closes) a.closes refl).1 in
      let i4 = (same_sign S Next behind det (subst (λ v. Reads S Next behind Punctuator (codes "{") v b.t2 b.k2) i3 b.begins) a.begins refl).1 in
      let i5 = lines_unique S Next behind det alike u case_list a.cases b.cases (omega arith) a.runs tt (subst (λ v. Runs ways S Next behind o' (plain_lines (switch_case r) closing_brace b.cases) b.cases v e' b.more) i4 b.runs) tt in
      (i5.0, b.parts ∙ (λ j. part (i2.1 j) (i5.1 j)) ∙ sym a.parts, b.pairs ∙ (λ j. i2.2 j ++ i5.2 j) ∙ sym a.pairs)

  -- a `switch`
  pub switch_statement : StatementStep S Next behind det h a_switch
  switch_statement = record {
    gives = λ {a} {p} {d} {r} {o} {n} {s} {m} {e} {P} {t} stands low sp fine read begun.
        let sole = own_sole S Next behind det {Fine = Finished S Next behind} stands read a_switch begun refl (λ z. cc) (λ o n e P w. elim w [ ]) in
        let told = sole.told sp fine in
        let high : height n ≡ suc (parts_height told.parts) = ap height told.tree in
        let form = switch_form S Next behind det told.runs in
        let found : FoundPartsWhere S Next behind Anyhow o (λ ps. goes_to Expression true Any (behind_switch r (bare_parts ps))) m e told.parts P =
        record { runs = told.runs; only = λ o' e' ps' P' d' f. switch_parts (omega arith) form (switch_form S Next behind det d') } in
        found_as S Next behind det (sole_found S Next behind det sole {FineParts = Anyhow} (λ st en ps e f. tt) found (subst (λ v. Placed S Next behind a v s e) told.tree told.placed)) sp fine;
  }
