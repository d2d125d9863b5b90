-- Where keywords are told apart, a name that a derived node has at a position is no keyword, but for keys and what stands behind a dot;
-- so it is at all positions of its sort, and of the same tree.
use Rattle.std.proofs.Common.{◌≡◌, ℕ, Bool, true, false, List, [], ◌∷◌, refl, sym, ◌∙◌, subst}
use Rattle.std.proofs.lemmas.Bool.{and_from, false≢true, true≢false}
use Rattle.tokens.specs.declared.token.TokenClass.{TokenClass}
use Rattle.tree.specs.declared.kind.Kind.{Kind}
use Rattle.tree.specs.declared.kind.Kind.TheVariants.{Identifier}
use Rattle.tree.specs.declared.kind.Pair.{Pair}
use Rattle.tree.specs.Tree.{Tree, node, Parts, none, part, gap, bare, bare_parts, SameTree}
use Rattle.language.specs.Pieces.{Role, key, word, PieceOf}
use Rattle.language.specs.Grammar.{ways}
use Rattle.language.specs.RowPositions.{roles}
use Rattle.language.specs.Token.{Token}
use Rattle.language.specs.Derivation.{Among, Reads, Spells, direct, grouped, Runs, done, step, opened, closed, within, missing, Step, token, with_mark, without_mark, one_more, no_more, seen, same_line, left_bare, explicit, implicit, laid, reserved_key, reserved_word}
use Rattle.language.proofs.lower_bound.LowerBound.{Step-roles}
use Rattle.language.proofs.lower_bound.LeastPairs.{ways-bare}
use Rattle.language.proofs.layout.DerivedFits.{ways_alike}
use Rattle.language.proofs.table.Alike.{Like, same, at_expressions, at_chains, at_patterns, AllLike, end, next}
use Rattle.language.proofs.table.TreesOfWords.{name_stays, names_stay}

-- a name that may be any word
abbrev pub is_any_word : Role → Kind → Bool
is_any_word key Identifier = true
is_any_word word Identifier = true
is_any_word _ k = false

unfoldable mutual
  -- of a node and all below it, at each position of the sort
  pub Kept : Bool → Tree → Role → Type 0
  Kept told (node k w g s e ps) a = is_any_word a k ≡ false → (b : Role) → Like false a b → (qs : List (PieceOf Role)) → Among qs (ways b (node k w g s e ps)) → (names_stay told qs ≡ true) × PartsKept told ps (roles qs)

  pub PartsKept : Bool → Parts → List Role → Type 0
  PartsKept told none xs = Unit {0}
  PartsKept told (gap ps) xs = PartsKept told ps xs
  PartsKept told (part n ps) [] = Unit {0}
  PartsKept told (part n ps) (a ∷ xs) = Kept told n a × PartsKept told ps xs

like_join : {a b c : Role} → Like false a b → Like false b c → Like false a c
like_join same l = l
like_join l same = l
like_join at_expressions at_expressions = at_expressions
like_join at_chains at_chains = at_chains
like_join at_patterns at_patterns = at_patterns

like_word : {a b : Role} (k : Kind) → Like false a b → is_any_word a k ≡ is_any_word b k
like_word k same = refl
like_word k at_expressions = refl
like_word k at_chains = refl
like_word k at_patterns = refl

pub kept_like : {a b : Role} (told : Bool) (n : Tree) → Like false a b → Kept told n a → Kept told n b
unfolding Kept
kept_like told (node k w g s e ps) l h = λ x c l' qs i. h (like_word k l ∙ x) c (like_join l l') qs i

parts_like : {xs ys : List Role} (told : Bool) (ps : Parts) → AllLike false xs ys → PartsKept told ps xs → PartsKept told ps ys
unfolding PartsKept
parts_like told none l h = tt
parts_like told (gap ps) l h = parts_like told ps l h
parts_like told (part n ps) end h = tt
parts_like told (part n ps) (next l ls) h = (kept_like told n l h.0, parts_like told ps ls h.1)

-- places don't matter
mutual
  unfolding Kept PartsKept

  kept_bare : (told : Bool) (n : Tree) (a : Role) → Kept told (bare n) a ≡ Kept told n a
  kept_bare told (node k w g s e ps) a = λ i. (is_any_word a k ≡ false → (b : Role) → Like false a b → (qs : List (PieceOf Role)) → Among qs (ways-bare b (node k w g s e ps) i) → (names_stay told qs ≡ true) × parts_kept_bare told ps (roles qs) i)

  parts_kept_bare : (told : Bool) (ps : Parts) (xs : List Role) → PartsKept told (bare_parts ps) xs ≡ PartsKept told ps xs
  parts_kept_bare told none xs = refl
  parts_kept_bare told (gap ps) xs = parts_kept_bare told ps xs
  parts_kept_bare told (part n ps) [] = refl
  parts_kept_bare told (part n ps) (a ∷ xs) = λ i. kept_bare told n a i × parts_kept_bare told ps xs i

pub kept_same : (told : Bool) (m n : Tree) (a : Role) → SameTree m n → Kept told n a → Kept told m a
kept_same told m n a h x = subst (λ z. z) (kept_bare told m a) (subst (λ z. Kept told z a) (sym h) (subst (λ z. z) (sym (kept_bare told n a)) x))

module _ (S : Type 0) (Next : S → Token → S → Type 0) (behind : S → Token) (told : Bool) (stays : (c : TokenClass) (w : List ℕ) (s e : S) (t : Token) → Reads S Next behind c w s t e → name_stays told c w ≡ true) where
  step_stays : {q : PieceOf Role} (qs : List (PieceOf Role)) {s e : S} → Step S Next behind q s e → names_stay told qs ≡ true → names_stay told (q ∷ qs) ≡ true
  step_stays qs (token x) h = and_from _ _ (stays _ _ _ _ _ x) h
  step_stays qs (with_mark x) h = h
  step_stays qs without_mark h = h
  step_stays qs (one_more x y) h = h
  step_stays qs no_more h = h
  step_stays qs (seen x) h = and_from _ _ (stays _ _ _ _ _ x) h
  step_stays qs (same_line x y) h = h
  step_stays qs (left_bare x y) h = h
  step_stays qs (explicit x) h = h
  step_stays qs (implicit x y) h = h
  step_stays qs laid h = h

  pub runs_stay : {o : ℕ} {qs : List (PieceOf Role)} {ps : Parts} {s e : S} {P : List Pair} → Runs ways S Next behind o qs ps s e P → names_stay told qs ≡ true
  runs_stay done = refl
  runs_stay (step {qs = qs} q d) = step_stays qs q (runs_stay d)
  runs_stay (opened x d) = runs_stay d
  runs_stay (closed x d) = runs_stay d
  runs_stay (within x d) = runs_stay d
  runs_stay (missing d) = runs_stay d

  mutual
    unfolding Kept PartsKept

    -- what is derived keeps them
    pub spells_kept : {o : ℕ} {a : Role} {n : Tree} {s e : S} {P : List Pair} → Spells ways S Next behind o a n s e P → Kept told n a
    spells_kept {n = node k w g st en ps} (direct qs h pl d) = λ x b l rs i.
        let u = ways_alike (node k w g st en ps) l (λ z. absurd (false≢true z)) h i in
        (sym (u.stay told) ∙ runs_stay d, parts_like told ps u.roles (runs_kept d))
    spells_kept {n = n} (grouped p d q) = kept_like told n at_expressions (spells_kept d)
    spells_kept (reserved_key r k e) = subst (λ z. Kept told z key) (sym e) (λ x b l qs i. absurd (true≢false x))
    spells_kept (reserved_word r k e) = subst (λ z. Kept told z word) (sym e) (λ x b l qs i. absurd (true≢false x))

    pub runs_kept : {o : ℕ} {qs : List (PieceOf Role)} {ps : Parts} {s e : S} {P : List Pair} → Runs ways S Next behind o qs ps s e P → PartsKept told ps (roles qs)
    runs_kept done = tt
    runs_kept (step {qs = qs} {ps = ps} q d) = subst (λ xs. PartsKept told ps xs) (sym (Step-roles S Next behind qs q)) (runs_kept d)
    runs_kept (opened x d) = runs_kept d
    runs_kept (closed x d) = runs_kept d
    runs_kept (within x d) = (spells_kept x, runs_kept d)
    runs_kept (missing d) = runs_kept d
