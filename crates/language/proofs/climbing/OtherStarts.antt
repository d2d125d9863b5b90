-- An expression at another start: what spells it where it may begin with anything spells it as a statement, or as an arrow's body, where its
-- first token may stand there (ECMA-262 13.5, 14.2; 16.2.3 of the 13th edition).
use Rattle.std.proofs.Common.{◌≡◌, ℕ, Bool, true, false, cond, List, [], ◌∷◌, ◌++◌, refl, sym, ap, ◌∙◌, subst}
use Rattle.std.specs.Prelude.{IsTrue, not, bytes_eq, codes}
use Rattle.std.proofs.lemmas.Bool.{false≢true, and_parts, and_from}
use Rattle.std.proofs.lemmas.Slice.Eq.{bytes_eq-Decides}
use Rattle.tokens.specs.declared.token.TokenClass.TheVariants.{IdentifierName, Punctuator}
use Rattle.tree.specs.declared.kind.Pair.{Pair}
use Rattle.tree.specs.Tree.{Tree, node, Parts, part, parts_of, bare}
use Rattle.language.specs.declared.Rank.{Rank}
use Rattle.language.specs.declared.Rank.TheVariants.{Expression, Call, Member}
use Rattle.language.specs.declared.Start.{Start}
use Rattle.language.specs.declared.Start.TheVariants.{Any, NoBrace, Statement}
use Rattle.language.specs.Vocabulary.{is, among}
use Rattle.language.specs.Pieces.{Role, expr, chain_part, pattern, fixed, left, lead, tail, callee, lead_chain, lead_pattern, Piece, PieceOf, tok, unbroken, lay, space, sub, settle_piece, is_tight}
use Rattle.language.specs.Token.{Token}
use Rattle.language.specs.Promises.{IsDetermined}
use Rattle.language.specs.Grammar.{ways, spellings, starts}
use Rattle.language.specs.Derivation.{Among, Reads, Spells, direct, grouped, reserved_key, reserved_word, Runs, done, step, opened, closed, within, missing, Step, token, with_mark, without_mark, one_more, no_more, seen, same_line, left_bare, explicit, implicit, laid, Placed, placed}
use Rattle.language.proofs.lower_bound.Domination.{settled}
use Rattle.language.proofs.table.Begins.{goes_to, retell}
use Rattle.language.proofs.table.ViewIsComplete.{way_of}
use Rattle.language.proofs.table.Productions.{way_from}
use Rattle.language.proofs.table.EveryWay.{every_way}
use Rattle.language.proofs.table.StartTable.{keeps_start, keep_start, others_keep_start, production_keeps, async_first, production_async, pattern_async}
use Rattle.language.proofs.list_loops.FirstPieces.{run_token, run_laid, run_unbroken}

-- positions with a start of their own, with this one instead
abbrev pub has_start : Role → Bool
has_start (expr y i f) = true
has_start (chain_part f) = true
has_start (pattern b f) = true
has_start _ = false

abbrev pub starting_at : Start → Role → Role
starting_at g (expr y i f) = expr y i g
starting_at g (chain_part f) = chain_part g
starting_at g (pattern b f) = pattern b g
starting_at g a = a

-- the symbol of an object or a tag
abbrev tight : Rank → Rank
tight y = cond (is_tight y) Member Call

abbrev is_part : PieceOf Role → Bool
is_part (sub a) = true
is_part _ = false

abbrev begins_with_part : List (PieceOf Role) → Bool
begins_with_part (q ∷ qs) = is_part q
begins_with_part [] = false

piece_kept : (y : Rank) (i : Bool) (f g : Start) (q : Piece) → keeps_start q ≡ true → settle_piece y i f q ≡ settle_piece y i g q
piece_kept y i f g (sub (fixed a)) h = refl
piece_kept y i f g (sub (tail z x)) h = refl
piece_kept y i f g (sub _) h = absurd (false≢true h)
piece_kept y i f g _ h = refl

pieces_kept : (y : Rank) (i : Bool) (f g : Start) (qs : List Piece) → keep_start qs ≡ true → goes_to y i f qs ≡ goes_to y i g qs
pieces_kept y i f g [] h = refl
pieces_kept y i f g (q ∷ qs) h = let u = and_parts (keeps_start q) _ h in (λ k. piece_kept y i f g q u.0 k ∷ pieces_kept y i f g qs u.1 k)

not_text : (w v : List ℕ) → (w ≡ v → ⊥) → not (bytes_eq w v) ≡ true
not_text w v h = of (bytes_eq w v) refl
  where
    of : (b : Bool) → bytes_eq w v ≡ b → not b ≡ true
    of false e = refl
    of true e = absurd (h ((bytes_eq-Decides w v).0 e))

module _ (S : Type 0) (Next : S → Token → S → Type 0) (behind : S → Token) (det : IsDetermined S Next behind) where
  -- the tokens that are read at a place may stand at this start
  pub data MayBegin (s : S) : Start → Type 0 where
    anything : MayBegin s Any
    no_brace : ((t : Token) (m : S) → Reads S Next behind Punctuator (codes "{") s t m → ⊥) → MayBegin s NoBrace
    no_declaration : ((t : Token) (m : S) → Reads S Next behind Punctuator (codes "{") s t m → ⊥) →
        ((w : List ℕ) (t : Token) (m : S) → Reads S Next behind IdentifierName w s t m → not (among w ("function" ∷ "class" ∷ [])) ≡ true) →
        ((t v : Token) (m k : S) → Reads S Next behind IdentifierName (codes "async") s t m → Reads S Next behind IdentifierName (codes "function") m v k → v.after_break ≡ false → ⊥) → MayBegin s Statement

  no_brace_read : {s m : S} {t : Token} {w : List ℕ} → ((t : Token) (m : S) → Reads S Next behind Punctuator (codes "{") s t m → ⊥) → Reads S Next behind Punctuator w s t m → not (is w "{") ≡ true
  no_brace_read {s} {m} {t} {w} braceless r = not_text w (codes "{") (λ e. braceless t m (subst (λ v. Reads S Next behind Punctuator v s t m) e r))

  module _ (y : Rank) (i : Bool) (f : Start) where
    statement_word : {o : ℕ} (w : List ℕ) (qs : List Piece) {ps : Parts} {s e : S} {P : List Pair} → MayBegin s Statement → Runs ways S Next behind o (goes_to y i f (tok IdentifierName w ∷ qs)) ps s e P → not (among w ("function" ∷ "class" ∷ [])) ≡ true
    statement_word w qs (no_declaration braceless word async) d = let u = run_token S Next behind d in word w u.sign u.mid u.reads

    -- so may the pieces that run there
    starts_so : {o : ℕ} {ps : Parts} {s e : S} {P : List Pair} (g : Start) (qs : List Piece) → async_first qs ≡ true → MayBegin s g → Runs ways S Next behind o (goes_to y i f qs) ps s e P → IsTrue (starts g qs)
    starts_so Any qs a b d = refl
    starts_so NoBrace (tok Punctuator w ∷ qs) a (no_brace braceless) d = no_brace_read braceless (run_token S Next behind d).reads
    starts_so NoBrace _ a b d = refl
    starts_so Statement (tok Punctuator w ∷ qs) a (no_declaration braceless word async) d = no_brace_read braceless (run_token S Next behind d).reads
    starts_so {s = s} Statement (tok IdentifierName w ∷ unbroken ∷ lay space ∷ tok IdentifierName v ∷ qs) a (no_declaration braceless word async) d =
        let first = run_token S Next behind d in
        let line = run_unbroken S Next behind first.runs in
        let second = run_token S Next behind (run_laid S Next behind line.runs) in
        not_text v (codes "function") (λ e.
        async first.sign second.sign first.mid second.mid (subst (λ x. Reads S Next behind IdentifierName x s first.sign first.mid) ((bytes_eq-Decides w (codes "async")).0 a) first.reads)
        (subst (λ x. Reads S Next behind IdentifierName x first.mid second.sign second.mid) e second.reads)
        (det.break first.mid second.sign line.sign second.mid line.mid second.reads.next line.next ∙ line.unbroken))
    starts_so Statement (tok IdentifierName w ∷ qs) a b d = statement_word w qs b d
    starts_so Statement _ a b d = refl

  step_no_part : {q : PieceOf Role} {s e : S} → Step S Next behind q s e → is_part q ≡ false
  step_no_part (token h) = refl
  step_no_part (with_mark h) = refl
  step_no_part without_mark = refl
  step_no_part (one_more h d) = refl
  step_no_part no_more = refl
  step_no_part (seen h) = refl
  step_no_part (same_line h k) = refl
  step_no_part (left_bare h k) = refl
  step_no_part (explicit h) = refl
  step_no_part (implicit h k) = refl
  step_no_part laid = refl

  -- the first part of what runs, at another start
  data Moved (g : Start) (o : ℕ) (qs : List (PieceOf Role)) (ps : Parts) (s e : S) (P : List Pair) : Type 0 where
    by_part : {a : Role} {rest : List (PieceOf Role)} {n : Tree} {others : Parts} {m : S} {A B : List Pair} → qs ≡ sub a ∷ rest → (has_start a ≡ true → Spells ways S Next behind o (starting_at g a) n s m A) → ps ≡ part n others → Runs ways S Next behind o rest others m e B → P ≡ A ++ B → Moved g o qs ps s e P
    no_part : begins_with_part qs ≡ false → Moved g o qs ps s e P

  -- pieces of which the first alone depends on the start
  first_moved : {g : Start} {o : ℕ} (a b : Role) {qs rest : List (PieceOf Role)} {ps : Parts} {s e : S} {P : List Pair} → has_start a ≡ true → starting_at g a ≡ b → qs ≡ sub a ∷ rest → Moved g o qs ps s e P → Runs ways S Next behind o (sub b ∷ rest) ps s e P
  first_moved {g} {o} a b {qs} {rest} {ps} {s} {e} {P} h same is (by_part {a = a'} {rest = rest'} {n = n} {others = others} {m = m} {A = A} {B = B} is' sp parts d pairs) =
      let role : a' ≡ a = let u = sym is' ∙ is in (let v : a' ≡ a = cc in v) in
      let behind_it : rest' ≡ rest = let u = sym is' ∙ is in (let v : rest' ≡ rest = cc in v) in
      let first = subst (λ x. Spells ways S Next behind o x n s m A) (ap (starting_at g) role ∙ same) (sp (ap has_start role ∙ h)) in
      subst (λ x. Runs ways S Next behind o (sub b ∷ rest) ps s e x) (sym pairs) (subst (λ x. Runs ways S Next behind o (sub b ∷ rest) x s e (A ++ B)) (sym parts) (within first (retell S Next behind behind_it d)))
  first_moved a b h same is (no_part other) = absurd (false≢true (sym other ∙ ap begins_with_part is))

  runs_moved : (g : Start) {o : ℕ} (y : Rank) (i : Bool) (f : Start) (xs : List Piece) {qs : List (PieceOf Role)} {ps : Parts} {s e : S} {P : List Pair} → others_keep_start xs ≡ true → qs ≡ goes_to y i f xs → Runs ways S Next behind o qs ps s e P → Moved g o qs ps s e P →
      Runs ways S Next behind o (goes_to y i g xs) ps s e P
  runs_moved g y i f (sub (left z) ∷ xs) h is d v = retell S Next behind (ap (λ x. sub (expr z i g) ∷ x) (pieces_kept y i f g xs h)) (first_moved (expr z i f) (expr z i g) refl refl is v)
  runs_moved g y i f (sub (lead z) ∷ xs) h is d v = retell S Next behind (ap (λ x. sub (expr z true g) ∷ x) (pieces_kept y i f g xs h)) (first_moved (expr z true f) (expr z true g) refl refl is v)
  runs_moved g y i f (sub callee ∷ xs) h is d v = retell S Next behind (ap (λ x. sub (expr (tight y) true g) ∷ x) (pieces_kept y i f g xs h)) (first_moved (expr (tight y) true f) (expr (tight y) true g) refl refl is v)
  runs_moved g y i f (sub lead_chain ∷ xs) h is d v = retell S Next behind (ap (λ x. sub (chain_part g) ∷ x) (pieces_kept y i f g xs h)) (first_moved (chain_part f) (chain_part g) refl refl is v)
  runs_moved g y i f (sub lead_pattern ∷ xs) h is d v = retell S Next behind (ap (λ x. sub (pattern false g) ∷ x) (pieces_kept y i f g xs h)) (first_moved (pattern false f) (pattern false g) refl refl is v)
  runs_moved g y i f (sub (fixed a) ∷ xs) h is d v = retell S Next behind (is ∙ ap (λ x. sub a ∷ x) (pieces_kept y i f g xs h)) d
  runs_moved g y i f (sub (tail z x) ∷ xs) h is d v = retell S Next behind (is ∙ ap (λ v. sub (expr z i x) ∷ v) (pieces_kept y i f g xs h)) d
  runs_moved g y i f [] h is d v = retell S Next behind is d
  runs_moved g y i f (q ∷ xs) h is d v = retell S Next behind (is ∙ (λ k. settle_piece y i f q ∷ pieces_kept y i f g xs h k)) d

  -- a node at another start, where its first part is
  node_moved : {g : Start} {o : ℕ} (a : Role) {n : Tree} {qs : List (PieceOf Role)} {s e : S} {P : List Pair} → MayBegin s g → has_start a ≡ true → Among qs (ways a n) → Placed S Next behind a n s e → Runs ways S Next behind o qs (parts_of n) s e P → Moved g o qs (parts_of n) s e P →
      Spells ways S Next behind o (starting_at g a) n s e P
  unfolding spellings
  node_moved {g} (expr y i f) {n = node k w fl st en ps} b t h (placed nx p) d v =
      let x = way_of h in
      let u = every_way (expr y i f) (bare (node k w fl st en ps)) x.listed in
      let keeps = ap (λ z. others_keep_start z.pieces) u.is ∙ production_keeps u.production _ _ _ in
      let first = ap (λ z. async_first z.pieces) u.is ∙ production_async u.chosen in
      let fit = and_parts _ _ x.fit in
      let rank = and_parts _ _ fit.0 in
      let needs = and_parts _ _ rank.1 in
      direct (settled (expr y i g) x.spelling) (way_from (expr y i g) (node k w fl st en ps) x.spelling x.lean x.listed
      (and_from _ _ (and_from _ _ rank.0 (and_from _ _ needs.0 (starts_so y i f g x.spelling.pieces first b (retell S Next behind x.is d)))) fit.1)) (placed nx p) (runs_moved g y i f x.spelling.pieces keeps x.is d v)
  node_moved {g} (chain_part f) {n = node k w fl st en ps} b t h (placed nx p) d v =
      let x = way_of h in
      let u = every_way (chain_part f) (bare (node k w fl st en ps)) x.listed in
      let keeps = ap (λ z. others_keep_start z.pieces) u.is ∙ production_keeps u.production _ _ _ in
      direct (settled (chain_part g) x.spelling) (way_from (chain_part g) (node k w fl st en ps) x.spelling x.lean x.listed x.fit) (placed nx p) (runs_moved g Expression true f x.spelling.pieces keeps x.is d v)
  node_moved {g} (pattern c f) {n = node k w fl st en ps} b t h (placed nx p) d v =
      let x = way_of h in
      let u = every_way (pattern c f) (bare (node k w fl st en ps)) x.listed in
      let keeps = ap (λ z. others_keep_start z.pieces) u.is ∙ production_keeps u.production _ _ _ in
      let first = ap (λ z. async_first z.pieces) u.is ∙ pattern_async u.chosen in
      let fit = and_parts _ _ x.fit in
      direct (settled (pattern c g) x.spelling) (way_from (pattern c g) (node k w fl st en ps) x.spelling x.lean x.listed
      (and_from _ _ (starts_so Expression true f g x.spelling.pieces first b (retell S Next behind x.is d)) fit.1)) (placed nx p) (runs_moved g Expression true f x.spelling.pieces keeps x.is d v)
  node_moved _ b t h pl d v = absurd (false≢true t)

  mutual
    -- what spells an expression, a part of a chain or a pattern spells it at each start at which its first tokens may stand
    pub start_moves : {g : Start} {o : ℕ} {a : Role} {n : Tree} {s e : S} {P : List Pair} → MayBegin s g → has_start a ≡ true → Spells ways S Next behind o a n s e P → Spells ways S Next behind o (starting_at g a) n s e P
    start_moves b t (grouped p d q) = grouped p d q
    start_moves b t (reserved_key r k p) = absurd (false≢true t)
    start_moves b t (reserved_word r k p) = absurd (false≢true t)
    start_moves {a = a} b t (direct qs h pl d) = node_moved a b t h pl d (moved b d)

    moved : {g : Start} {o : ℕ} {qs : List (PieceOf Role)} {ps : Parts} {s e : S} {P : List Pair} → MayBegin s g → Runs ways S Next behind o qs ps s e P → Moved g o qs ps s e P
    moved b (within p d) = by_part refl (λ t. start_moves b t p) refl d refl
    moved b (step p d) = no_part (step_no_part p)
    moved b done = no_part refl
    moved b (opened p d) = no_part refl
    moved b (closed p d) = no_part refl
    moved b (missing d) = no_part refl
