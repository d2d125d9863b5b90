-- What the tokens of a text spell at a place, and what can't go on, is the only thing there.
use Rattle.std.proofs.Common.{◌≡◌, ℕ, Bool, true, List, ◌∷◌, refl, subst, arith}
use Rattle.std.specs.Prelude.{codes}
use Rattle.std.proofs.lemmas.Bool.{and_parts}
use Rattle.tokens.specs.declared.token.TokenClass.TheVariants.{Punctuator}
use Rattle.tokens.specs.Reading.{any_goal}
use Rattle.tree.specs.declared.kind.Pair.{Pair}
use Rattle.tree.specs.Tree.{Tree, node, height}
use Rattle.language.specs.declared.Rank.{Rank}
use Rattle.language.specs.declared.Rank.TheVariants.{Expression, Grouped, Conditional, New}
use Rattle.language.specs.declared.Start.{Start}
use Rattle.language.specs.declared.Start.TheVariants.{Any}
use Rattle.language.specs.Vocabulary.{precedence}
use Rattle.language.specs.Pieces.{expr}
use Rattle.language.specs.Token.{Token}
use Rattle.language.specs.Places.{NextIn, itself}
use Rattle.language.specs.Following.{IsAlike}
use Rattle.language.specs.Grammar.{spellings}
use Rattle.language.specs.Derivation.{Reads, direct, grouped, pair_of}
use Rattle.language.proofs.table.Beginnings.{made_rank, too_tight}
use Rattle.language.proofs.table.ViewIsComplete.{way_of, made}
use Rattle.language.proofs.climbing.Conditionals.{same_sign, stops_before}
use Rattle.language.proofs.texts.SeenTokens.{seen_alike}
use Rattle.language.proofs.texts.TextAlike.{text_alike}
use Rattle.token_cursor.proofs.SeenTokens.{seen_determined}
use Rattle.unambiguity_laws.proofs.Steps.{steps}
use Rattle.unambiguity_laws.proofs.TiedSteps.{unique}
use Rattle.unambiguity_laws.proofs.Unique.{Unique}
use Rattle.recursive_descent.specs.Completeness.{StopsIn}
use Rattle.token_cursor.specs.SourceText.{SourceText, SeenNext, behind_in}
use Rattle.recursive_descent.specs.Spelled.{SpellsIn}

-- the tokens of a text are alike as its language sees them
pub alike : (text : SourceText) → IsAlike Token (SeenNext text) (behind_in text)
alike text = seen_alike Token (NextIn text.bytes any_goal) itself text.language (text_alike text.bytes)

module _ (text : SourceText) where
  pub once : (h : ℕ) → Unique Token (SeenNext text) (behind_in text) (seen_determined text) h
  once h = unique Token (SeenNext text) (behind_in text) (seen_determined text) (alike text) (steps Token (SeenNext text) (behind_in text) (seen_determined text) (alike text)) h

  -- an expression that can't go on
  pub expression_once : {o o' : ℕ} {y : Rank} {i : Bool} {f : Start} {n n' : Tree} {s e e' : Token} {P P' : List Pair} → (y ≡ Conditional → ⊥) → (y ≡ New → ⊥) → SpellsIn text o (expr y i f) n s e P → StopsIn text y i n e → SpellsIn text o' (expr y i f) n' s e' P' → StopsIn text y i n' e' →
      (e' ≡ e) × (n' ≡ n) × (P' ≡ P)
  expression_once {o' = o'} {n = n} {n' = n'} {e' = e'} {P' = P'} no_test no_new d st d' st' = ((once (height n)).expressions.found (omega arith) no_test no_new d st).only o' e' n' P' d' st'

  -- a group ends with its own `)`
  pub group_once : {o o' : ℕ} {i i' : Bool} {f f' : Start} {n n' : Tree} {s e e' : Token} {P P' : List Pair} → SpellsIn text o (expr Grouped i f) n s e P → SpellsIn text o' (expr Grouped i' f') n' s e' P' → (e' ≡ e) × (n' ≡ n) × (P' ≡ P)
  unfolding spellings
  group_once {n = node k w g st en ps} (direct qs h pl d) d' = let v = way_of h in absurd (too_tight (precedence v.spelling.rank) (made_rank (made k v.listed)) (and_parts _ _ (and_parts _ _ v.fit).0).0)
  group_once {n' = node k w g st en ps} (grouped p d q) (direct qs h pl d') = let v = way_of h in absurd (too_tight (precedence v.spelling.rank) (made_rank (made k v.listed)) (and_parts _ _ (and_parts _ _ v.fit).0).0)
  group_once {e' = e'} (grouped {n = n} {left = left} {right = right} p d q) (grouped {o = less} {n = n'} {left = left'} {right = right'} {l = l'} {P = V} p' d' q') =
      let det = seen_determined text in
      let opens = same_sign Token (SeenNext text) (behind_in text) det p' p refl in
      let inner = expression_once {o' = less} {n' = n'} {e' = l'} {P' = V} (λ k. cc) (λ k. cc) d (stops_before Token (SeenNext text) (behind_in text) det Expression true n q refl refl (λ c u. refl))
      (subst (λ v. SpellsIn text less (expr Expression true Any) n' v l' V) opens.1 d') (stops_before Token (SeenNext text) (behind_in text) det Expression true n' q' refl refl (λ c u. refl)) in
      let closes = same_sign Token (SeenNext text) (behind_in text) det (subst (λ v. Reads Token (SeenNext text) (behind_in text) Punctuator (codes ")") v right' e') inner.0 q') q refl in
      (closes.1, inner.1, (λ j. pair_of (opens.0 j) (closes.0 j) ∷ inner.2 j))
