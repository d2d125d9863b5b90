-- The members of a class body, with `;` in any number between them, are the only ones there (ECMA-262 14.6).
use Rattle.std.proofs.Common.{◌≡◌, ℕ, suc, ◌≤◌, true, List, ◌++◌, refl, sym, ap, ◌∙◌, subst, arith}
use Rattle.std.specs.Prelude.{codes}
use Rattle.std.proofs.lemmas.Bool.{false≢true}
use Rattle.tokens.specs.declared.token.TokenClass.TheVariants.{Punctuator}
use Rattle.tokens.specs.declared.token.Goal.TheVariants.{Div}
use Rattle.tree.specs.declared.kind.Pair.{Pair}
use Rattle.tree.specs.Tree.{Tree, Parts, none, part, gap, height, parts_height, bare_parts}
use Rattle.language.specs.declared.Rank.TheVariants.{Expression}
use Rattle.language.specs.declared.Start.TheVariants.{Any}
use Rattle.language.specs.Vocabulary.{is}
use Rattle.language.specs.Pieces.{member, class_body, many}
use Rattle.language.specs.Token.{Token}
use Rattle.language.specs.Promises.{IsDetermined, FoundAt}
use Rattle.language.specs.Following.{IsAlike}
use Rattle.language.specs.Grammar.{ways}
use Rattle.language.specs.Derivation.{Reads, Spells, Runs, Step, one_more, no_more}
use Rattle.language.proofs.table.Begins.{goes_to}
use Rattle.language.proofs.table.ForDeclarationWays.{two_signs}
use Rattle.language.proofs.climbing.Conditionals.{same_sign}
use Rattle.language.proofs.list_loops.FirstPieces.{run_token, run_never, run_none, run_the_part}
use Rattle.language.proofs.list_loops.PiecesSoFar.{run_step}
use Rattle.language.proofs.list_loops.StatementLists.{closing_brace}
use Rattle.language.proofs.list_loops.ClassBodies.{plain_members, members_begin}
use Rattle.language.proofs.statements.Blocks.{class_body_pieces, one_class_body}
use Rattle.language.proofs.table.OneKind.{one_kind}
use Rattle.unambiguity_laws.proofs.Unique.{Unique, UniqueParts}
use Rattle.unambiguity_laws.proofs.list_items.PieceRuns.{further, token_unique, sole_closed}
use Rattle.unambiguity_laws.proofs.list_items.MemberForms.{member_seen}
use Rattle.unambiguity_laws.proofs.list_items.MemberEnds.{MemberEnds, member_ahead, ahead_ends, ahead_sign, sign_ends}

module _ (S : Type 0) (Next : S → Token → S → Type 0) (behind : S → Token) (det : IsDetermined S Next behind) where
  -- behind `;` in any number: the closing brace, or a member and others
  data Front (o : ℕ) (s e : S) : Parts → List Pair → Type 0 where
    at_brace : {P : List Pair} → Runs ways S Next behind o closing_brace none s e P → Front o s e none P
    at_member : {n : Tree} {ps : Parts} {k : S} {A P : List Pair} → Spells ways S Next behind o member n s k A → Runs ways S Next behind o (plain_members closing_brace ps) ps k e P → Front o s e (part n ps) (A ++ P)

  record Stripped (o : ℕ) (ps : Parts) (s e : S) (P : List Pair) : Type 0 where
    mid : S
    semicolons : Step S Next behind (many (codes ";")) s mid
    front : Front o mid e ps P

  strip : {o : ℕ} (ps : Parts) {s e : S} {P : List Pair} → Runs ways S Next behind o (plain_members closing_brace ps) ps s e P → Stripped o ps s e P
  strip none d = let u = run_step S Next behind det no_more d in record { mid = u.mid; semicolons = u.one; front = at_brace u.runs }
  strip (gap ps) d = absurd (run_never S Next behind d)
  strip {o} (part n ps) {s} {e} d =
      let u = run_step S Next behind det no_more d in
      let v = run_the_part S Next behind u.runs in
      record { mid = u.mid; semicolons = u.one; front = subst (λ P. Front o u.mid e (part n ps) P) (sym v.pairs) (at_member v.spelled v.runs) }

  -- no `;` stands there any more
  front_quiet : {A : Type 0} {o : ℕ} {ps : Parts} {s e k : S} {P : List Pair} {t : Token} → Front o s e ps P → Reads S Next behind Punctuator (codes ";") s t k → A
  front_quiet (at_brace d) r = absurd (false≢true (ap (λ w. is w ";") (two_signs S Next behind det refl refl (run_token S Next behind d).reads r).0))
  front_quiet (at_member d ds) r = ahead_sign S Next behind det refl refl (member_ahead S Next behind det (member_seen S Next behind det d)) r

  fronts_meet : {o o' : ℕ} {ps ps' : Parts} {s m m' e e' : S} {P P' : List Pair} → Step S Next behind (many (codes ";")) s m → Front o m e ps P → Step S Next behind (many (codes ";")) s m' → Front o' m' e' ps' P' → m' ≡ m
  fronts_meet no_more f no_more f' = refl
  fronts_meet no_more f (one_more r p) f' = front_quiet f r
  fronts_meet (one_more r p) f no_more f' = front_quiet f' r
  fronts_meet {m' = m'} (one_more r p) f (one_more r' p') f' = fronts_meet p f (subst (λ c. Step S Next behind (many (codes ";")) c m') (same_sign S Next behind det r' r refl).1 p') f'

  -- so a member may end where others follow
  member_follows : {o : ℕ} (ps : Parts) {s e : S} {P : List Pair} → Runs ways S Next behind o (plain_members closing_brace ps) ps s e P → MemberEnds S Next behind det s
  member_follows ps d = let u = strip ps d in of u.semicolons u.front
    where
      front_follows : {o : ℕ} {qs : Parts} {s e : S} {P : List Pair} → Front o s e qs P → MemberEnds S Next behind det s
      front_follows (at_brace d) = sign_ends S Next behind det refl refl (run_token S Next behind d).reads
      front_follows (at_member d ds) = ahead_ends S Next behind det (member_ahead S Next behind det (member_seen S Next behind det d))

      of : {o : ℕ} {qs : Parts} {s m e : S} {P : List Pair} → Step S Next behind (many (codes ";")) s m → Front o m e qs P → MemberEnds S Next behind det s
      of no_more f = front_follows f
      of (one_more r p) f = sign_ends S Next behind det refl refl r

  no_brace : {A : Type 0} {o o' : ℕ} {n : Tree} {s k e : S} {P Q : List Pair} → Runs ways S Next behind o closing_brace none s e P → Spells ways S Next behind o' member n s k Q → A
  no_brace d p = ahead_sign S Next behind det refl refl (member_ahead S Next behind det (member_seen S Next behind det p)) (run_token S Next behind d).reads

module _ (S : Type 0) (Next : S → Token → S → Type 0) (behind : S → Token) (det : IsDetermined S Next behind) (alike : IsAlike S Next behind) {h : ℕ} (u : Unique S Next behind det h) where
  fronts_same : {o o' : ℕ} (ps : Parts) {ps' : Parts} {s e e' : S} {P P' : List Pair} → parts_height ps ≤ h → Front S Next behind det o s e ps P → Front S Next behind det o' s e' ps' P' → (e' ≡ e) × (ps' ≡ ps) × (P' ≡ P)
  fronts_same none low (at_brace d) (at_brace d') =
      let a = run_token S Next behind d in
      let b = run_token S Next behind d' in
      let z = run_none S Next behind a.runs in
      let z' = run_none S Next behind b.runs in
      (sym z'.place ∙ (same_sign S Next behind det b.reads a.reads refl).1 ∙ z.place, refl, z'.pairs ∙ sym z.pairs)
  fronts_same (gap ps) low x y = elim x [ ]
  fronts_same none low (at_brace d) (at_member p d') = no_brace S Next behind det d p
  fronts_same (part n ps) low (at_member p d) (at_brace d') = no_brace S Next behind det d' p
  fronts_same {o' = o'} (part n ps) {e' = e'} low (at_member p d) (at_member {n = m} {ps = qs} {k = k'} {A = B} {P = R} p' d') =
      let found = u.member (omega arith) p (member_follows S Next behind det ps d) in
      let same = found.only o' k' m B p' (member_follows S Next behind det qs d') in
      let v = strip S Next behind det ps d in
      let w = strip S Next behind det qs (subst (λ c. Runs ways S Next behind o' (plain_members closing_brace qs) qs c e' R) same.0 d') in
      let rest = fronts_same ps (omega arith) v.front (subst (λ c. Front S Next behind det o' c e' qs R) (fronts_meet S Next behind det v.semicolons v.front w.semicolons w.front) w.front) in
      (rest.0, (λ i. part (same.1 i) (rest.1 i)), (λ i. same.2 i ++ rest.2 i))

  members_same : {o o' : ℕ} (ps : Parts) {ps' : Parts} {s e e' : S} {P P' : List Pair} → parts_height ps ≤ h → Runs ways S Next behind o (plain_members closing_brace ps) ps s e P → Runs ways S Next behind o' (plain_members closing_brace ps') ps' s e' P' → (e' ≡ e) × (ps' ≡ ps) × (P' ≡ P)
  members_same {o' = o'} ps {ps'} {e' = e'} {P' = P'} low d d' =
      let v = strip S Next behind det ps d in
      let w = strip S Next behind det ps' d' in
      fronts_same ps low v.front (subst (λ c. Front S Next behind det o' c e' ps' P') (fronts_meet S Next behind det v.semicolons v.front w.semicolons w.front) w.front)

  -- the members of a class, with `;` between them
  members_unique : UniqueParts S Next behind det h (plain_members closing_brace)
  members_unique = record { gives = λ {o} {s} {e} {ps} {P} low d. record { runs = d; only = λ o' e' ps' P' d'. members_same ps low d d' } }

  class_body_unique : UniqueParts S Next behind det h (λ ps. goes_to Expression true Any (class_body_pieces (bare_parts ps)))
  class_body_unique = token_unique S Next behind det Div refl (record { gives = λ low d. further S Next behind det (members_begin S Next behind det) members_unique low d })

  -- a class body
  pub class_body_closed : {o : ℕ} {n : Tree} {s e : S} {P : List Pair} → height n ≤ suc h → Spells ways S Next behind o class_body n s e P → FoundAt S Next behind o class_body s e n P
  class_body_closed low d = sole_closed S Next behind det (one_kind S Next behind det one_class_body) class_body_unique low d
