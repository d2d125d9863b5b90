-- Patterns by their first token, and the template behind a tag, from their parts.
use Rattle.std.proofs.Common.{◌≡◌, ℕ, Bool, true, false, List, [], ◌∷◌, ◌++◌, refl, sym, ap, ◌∙◌, subst}
use Rattle.std.specs.Prelude.{IsTrue, codes}
use Rattle.std.proofs.lemmas.Bool.{and_from, false≢true}
use Rattle.tokens.specs.declared.token.TokenClass.TheVariants.{Punctuator}
use Rattle.tokens.specs.declared.token.Goal.TheVariants.{Div}
use Rattle.tokens.specs.Goals.{allows}
use Rattle.tree.specs.declared.kind.Kind.{Kind}
use Rattle.tree.specs.declared.kind.Kind.TheVariants.{ArrayPattern, ObjectPattern, TemplateLiteral}
use Rattle.language.specs.declared.Rank.TheVariants.{Expression, Primary}
use Rattle.language.specs.declared.Start.{Start}
use Rattle.language.specs.declared.Start.TheVariants.{Any, NoBrace, Statement}
use Rattle.tree.specs.declared.kind.Flags.{Flags}
use Rattle.tree.specs.declared.kind.Pair.{Pair}
use Rattle.tree.specs.Tree.{Tree, node, Parts, kind_of, bare, bare_parts, plain}
use Rattle.tree.specs.Uses.{is_lean, used_flags, has_text}
use Rattle.tree.proofs.Lean.{lean_flags, lean_text}
use Rattle.language.specs.Vocabulary.{is}
use Rattle.language.specs.Pieces.{Role, pattern, tagged_quasi, PieceOf, Piece, tok, sign, at, elements, listed, pattern_element, Spelling}
use Rattle.language.specs.Token.{Token}
use Rattle.language.specs.Expressions.{object_pattern_part, template_elements}
use Rattle.language.specs.Promises.{IsDetermined, FoundAt, AbsentAt, FoundParts}
use Rattle.language.specs.Grammar.{ways, spellings, starts}
use Rattle.language.specs.Derivation.{first, Reads, Spells, direct, Runs, Placed, placed}
use Rattle.language.proofs.lower_bound.Domination.{settled}
use Rattle.language.proofs.table.ViewIsComplete.{way_of, one}
use Rattle.language.proofs.table.Productions.{way_from, runs_can}
use Rattle.language.proofs.table.Begins.{goes_to, retell}
use Rattle.language.proofs.table.FixedPieces.{Fixed, all_done, one_more, same_pieces, fixed_join, fixed_listed, fixed_elements, fixed_put}
use Rattle.language.proofs.list_loops.FirstPieces.{run_token}
use Rattle.language.proofs.list_loops.FirstItems.{element_role, object_pattern_role, item_piece, element_pieces, list_pieces, chunk_pieces, object_pattern_pieces}
use Rattle.language.proofs.climbing.BinaryTurns.{same_node}
use Rattle.language.proofs.climbing.Targets.{object_starts}

-- the pieces of an array pattern and of an object pattern; the flag says that it binds names
abbrev pub array_pattern_parts : Bool → Parts → List (PieceOf Role)
array_pattern_parts b ps = tok Punctuator (codes "[") ∷ element_pieces (element_role b) (codes "]") ps

abbrev pub object_pattern_parts : Bool → Parts → List (PieceOf Role)
object_pattern_parts b ps = tok Punctuator (codes "{") ∷ list_pieces (object_pattern_role b) (codes "}") ps

fixed_array : (b : Bool) (ps : Parts) → Fixed ((sign "[" ∷ elements (pattern_element b) ps) ++ sign "]" ∷ [])
fixed_array b ps = one_more refl (fixed_join (fixed_elements (pattern_element b) (λ n. fixed_put (element_role b (kind_of n))) ps) (one_more refl all_done))

fixed_object : (b : Bool) (ps : Parts) → Fixed ((sign "{" ∷ listed (item_piece (object_pattern_role b)) ps) ++ sign "}" ∷ [])
fixed_object b ps = one_more refl (fixed_join (fixed_listed (item_piece (object_pattern_role b)) (λ n. fixed_put (object_pattern_role b (kind_of n))) ps) (one_more refl all_done))

starts_bracket : (f : Start) (qs : List Piece) → IsTrue (starts f (sign "[" ∷ qs))
starts_bracket Any qs = refl
starts_bracket NoBrace qs = refl
starts_bracket Statement qs = refl

starts_brace : (f : Start) (qs : List Piece) → IsTrue (starts f (sign "{" ∷ [])) → IsTrue (starts f (sign "{" ∷ qs))
starts_brace Any qs h = refl
starts_brace NoBrace qs h = cc
starts_brace Statement qs h = cc

module _ (S : Type 0) (Next : S → Token → S → Type 0) (behind : S → Token) (det : IsDetermined S Next behind) where
  -- nodes at the same position that start and end at the same places have the same span
  same_span : {a : Role} {k k' : Kind} {w w' : List ℕ} {g g' : Flags} {st st' en en' : ℕ} {ps ps' : Parts} {s e e' : S} → ((t l : Token) → Rattle.language.specs.Derivation.place a t l ≡ (t.start, l.stop)) → Placed S Next behind a (node k w g st en ps) s e →
      Placed S Next behind a (node k' w' g' st' en' ps') s e' → e ≡ e' → (st ≡ st') × (en ≡ en')
  same_span {s = s} {e = e} {e' = e'} spans (placed {t = t} {m = m} nx p) (placed {t = t'} {m = m'} nx' p') h =
      let u = sym (spans t (behind e)) ∙ p in
      let v = sym (spans t' (behind e')) ∙ p' in
      (sym (ap (λ (v : ℕ × ℕ). v.0) u) ∙ det.start s t t' m m' nx nx' ∙ ap (λ (v : ℕ × ℕ). v.0) v, sym (ap (λ (v : ℕ × ℕ). v.1) u) ∙ ap (λ v. (behind v).stop) h ∙ ap (λ (v : ℕ × ℕ). v.1) v)

  made_node : {k : Kind} {w : List ℕ} {g : Flags} {st en : ℕ} {ps : Parts} → has_text k ≡ false → used_flags k g ≡ plain → is_lean (bare (node k w g st en ps)) ≡ true → node k w g st en ps ≡ node k [] plain st en ps
  made_node {k} {w} {g} {st} {en} {ps} texts flags lean = same_node refl (lean_text (bare (node k w g st en ps)) lean texts) (lean_flags (bare (node k w g st en ps)) lean ∙ flags) refl refl refl

  -- a pattern as it stands in a derivation
  pub data PatternCore (o : ℕ) (b : Bool) (f : Start) (n : Tree) (s e : S) (P : List Pair) : Type 0 where
    as_array : {st en : ℕ} {ps : Parts} → n ≡ node ArrayPattern [] plain st en ps → Placed S Next behind (pattern b f) (node ArrayPattern [] plain st en ps) s e → Runs ways S Next behind o (array_pattern_parts b ps) ps s e P → PatternCore o b f n s e P
    as_object : {st en : ℕ} {ps : Parts} → n ≡ node ObjectPattern [] plain st en ps → IsTrue (starts f (sign "{" ∷ [])) → Placed S Next behind (pattern b f) (node ObjectPattern [] plain st en ps) s e → Runs ways S Next behind o (object_pattern_parts b ps) ps s e P →
        PatternCore o b f n s e P

  pub pattern_core : {o : ℕ} {b : Bool} {f : Start} {n : Tree} {s e : S} {P : List Pair} → Spells ways S Next behind o (pattern b f) n s e P → PatternCore o b f n s e P
  unfolding spellings
  pattern_core {b = b} {f = f} {n = node ArrayPattern w g st en ps} {s = s} {e = e} (direct qs h pl d) =
      let v = way_of h in
      let same = made_node refl refl v.lean in
      as_array same (subst (λ c. Placed S Next behind (pattern b f) c s e) same pl)
      (retell S Next behind (v.is ∙ ap (settled (pattern b f)) (one v.listed) ∙ same_pieces Expression Expression true true f Any (fixed_array b (bare_parts ps))) d)
  pattern_core {b = b} {f = f} {n = node ObjectPattern w g st en ps} {s = s} {e = e} (direct qs h pl d) =
      let v = way_of h in
      let same = made_node refl refl v.lean in
      as_object same (object_starts S Next behind (direct qs h pl d) refl) (subst (λ c. Placed S Next behind (pattern b f) c s e) same pl)
      (retell S Next behind (v.is ∙ ap (settled (pattern b f)) (one v.listed) ∙ ap (λ c. goes_to Expression true f ((sign "{" ∷ c) ++ sign "}" ∷ [])) (object_pattern_pieces b (bare_parts ps)) ∙ same_pieces Expression Expression true true f Any (fixed_object b (bare_parts ps))) d)
  pattern_core {n = node _ w g st en ps} (direct qs h pl d) = elim ((way_of h).listed) [ ]

  pub array_spells : {o : ℕ} {b : Bool} {f : Start} {st en : ℕ} {ps : Parts} {s e : S} {P : List Pair} → Placed S Next behind (pattern b f) (node ArrayPattern [] plain st en ps) s e → Runs ways S Next behind o (array_pattern_parts b ps) ps s e P → Spells ways S Next behind o (pattern b f) (node ArrayPattern [] plain st en ps) s e P
  unfolding spellings
  array_spells {b = b} {f = f} {st = st} {en = en} {ps = ps} pl d =
      let x : Spelling = at Primary ((sign "[" ∷ elements (pattern_element b) (bare_parts ps)) ++ sign "]" ∷ []) in
      let d' = retell S Next behind (same_pieces Expression Expression true true Any f (fixed_array b (bare_parts ps))) d in
      direct (settled (pattern b f) x) (way_from (pattern b f) (node ArrayPattern [] plain st en ps) x refl first (and_from _ _ (starts_bracket f (elements (pattern_element b) (bare_parts ps) ++ sign "]" ∷ [])) (runs_can S Next behind Expression true f x.pieces d'))) pl d'

  pub object_spells : {o : ℕ} {b : Bool} {f : Start} {st en : ℕ} {ps : Parts} {s e : S} {P : List Pair} → IsTrue (starts f (sign "{" ∷ [])) → Placed S Next behind (pattern b f) (node ObjectPattern [] plain st en ps) s e → Runs ways S Next behind o (object_pattern_parts b ps) ps s e P →
      Spells ways S Next behind o (pattern b f) (node ObjectPattern [] plain st en ps) s e P
  unfolding spellings
  object_spells {b = b} {f = f} {st = st} {en = en} {ps = ps} begins pl d =
      let x : Spelling = at Primary ((sign "{" ∷ listed (object_pattern_part b) (bare_parts ps)) ++ sign "}" ∷ []) in
      let d' = retell S Next behind (same_pieces Expression Expression true true Any f (fixed_object b (bare_parts ps)) ∙ ap (λ c. goes_to Expression true f ((sign "{" ∷ c) ++ sign "}" ∷ [])) (sym (object_pattern_pieces b (bare_parts ps)))) d in
      direct (settled (pattern b f) x) (way_from (pattern b f) (node ObjectPattern [] plain st en ps) x refl first (and_from _ _ (starts_brace f (listed (object_pattern_part b) (bare_parts ps) ++ sign "}" ∷ []) begins) (runs_can S Next behind Expression true f x.pieces d'))) pl d'

  -- `[` and `{` aren't read at one place
  two_marks : {s e e' : S} {t t' : Token} → Reads S Next behind Punctuator (codes "[") s t e → Reads S Next behind Punctuator (codes "{") s t' e' → ⊥
  two_marks {s = s} {e = e} {e' = e'} {t = t} {t' = t'} h k =
      let al : IsTrue (allows Div t.class t.text) = subst (λ v. IsTrue (allows Div v t.text)) (sym h.class) (subst (λ v. IsTrue (allows Div Punctuator v)) (sym h.text) refl) in
      let al' : IsTrue (allows Div t'.class t'.text) = subst (λ v. IsTrue (allows Div v t'.text)) (sym k.class) (subst (λ v. IsTrue (allows Div Punctuator v)) (sym k.text) refl) in
      let same = det.same Div s t t' e e' h.next k.next al al' in
      let clash : true ≡ false = ap (λ w. is w "[") (sym h.text ∙ ap (λ (v : Token). v.text) same.0 ∙ k.text) in
      false≢true (sym clash)

  module _ {b : Bool} {f : Start} {s : S} where
    -- neither sign is read
    pub no_pattern : ((t : Token) (m : S) → Reads S Next behind Punctuator (codes "[") s t m → ⊥) → ((t : Token) (m : S) → Reads S Next behind Punctuator (codes "{") s t m → ⊥) → AbsentAt S Next behind (pattern b f) s
    no_pattern no_bracket no_brace = record { nothing = λ o' e' n' P' d. of (pattern_core d) }
      where
        of : {o' : ℕ} {e' : S} {n' : Tree} {P' : List Pair} → PatternCore o' b f n' s e' P' → ⊥
        of (as_array tree pl d) = let u = run_token S Next behind d in no_bracket u.sign u.mid u.reads
        of (as_object tree begins pl d) = let u = run_token S Next behind d in no_brace u.sign u.mid u.reads

    -- `[` is read
    module _ {t : Token} {m : S} (reads : Reads S Next behind Punctuator (codes "[") s t m) where
      pub array_pattern_found : {o : ℕ} {ps : Parts} {e : S} {P : List Pair} {st en : ℕ} → FoundParts S Next behind o (array_pattern_parts b) s e ps P → Placed S Next behind (pattern b f) (node ArrayPattern [] plain st en ps) s e →
          FoundAt S Next behind o (pattern b f) s e (node ArrayPattern [] plain st en ps) P
      array_pattern_found {o} {ps} {e} {P} {st} {en} found places = record { spelled = array_spells places found.runs; only = λ o' e' n' P' d. of (pattern_core d) }
        where
          of : {o' : ℕ} {e' : S} {n' : Tree} {P' : List Pair} → PatternCore o' b f n' s e' P' → (e' ≡ e) × (n' ≡ node ArrayPattern [] plain st en ps) × (P' ≡ P)
          of {o'} {e'} {P' = P'} (as_array {ps = qs} tree pl d) =
              let same = found.only o' e' qs P' d in
              let span = same_span (λ t l. refl) pl places same.0 in
              (same.0, tree ∙ same_node refl refl refl span.0 span.1 same.1, same.2)
          of (as_object tree begins pl d) = absurd (two_marks reads (run_token S Next behind d).reads)

    -- `{` is read
    module _ {t : Token} {m : S} (reads : Reads S Next behind Punctuator (codes "{") s t m) where
      pub object_pattern_found : {o : ℕ} {ps : Parts} {e : S} {P : List Pair} {st en : ℕ} → IsTrue (starts f (sign "{" ∷ [])) → FoundParts S Next behind o (object_pattern_parts b) s e ps P → Placed S Next behind (pattern b f) (node ObjectPattern [] plain st en ps) s e →
          FoundAt S Next behind o (pattern b f) s e (node ObjectPattern [] plain st en ps) P
      object_pattern_found {o} {ps} {e} {P} {st} {en} begins found places = record { spelled = object_spells begins places found.runs; only = λ o' e' n' P' d. of (pattern_core d) }
        where
          of : {o' : ℕ} {e' : S} {n' : Tree} {P' : List Pair} → PatternCore o' b f n' s e' P' → (e' ≡ e) × (n' ≡ node ObjectPattern [] plain st en ps) × (P' ≡ P)
          of {o'} {e'} {P' = P'} (as_object {ps = qs} tree begins pl d) =
              let same = found.only o' e' qs P' d in
              let span = same_span (λ t l. refl) pl places same.0 in
              (same.0, tree ∙ same_node refl refl refl span.0 span.1 same.1, same.2)
          of (as_array tree pl d) = absurd (two_marks (run_token S Next behind d).reads reads)

  -- The template behind a tag.
  record QuasiCore (o : ℕ) (n : Tree) (s e : S) (P : List Pair) : Type 0 where
    st : ℕ
    en : ℕ
    parts : Parts
    tree : n ≡ node TemplateLiteral [] plain st en parts
    places : Placed S Next behind tagged_quasi (node TemplateLiteral [] plain st en parts) s e
    runs : Runs ways S Next behind o (chunk_pieces true parts) parts s e P

  quasi_core : {o : ℕ} {n : Tree} {s e : S} {P : List Pair} → Spells ways S Next behind o tagged_quasi n s e P → QuasiCore o n s e P
  unfolding spellings
  quasi_core {n = node TemplateLiteral w g st en ps} {s = s} {e = e} (direct qs h pl d) =
      let v = way_of h in
      let same = made_node refl refl v.lean in
      record { st = st; en = en; parts = ps; tree = same; places = subst (λ c. Placed S Next behind tagged_quasi c s e) same pl; runs = retell S Next behind (v.is ∙ ap (settled tagged_quasi) (one v.listed)) d }
  quasi_core {n = node _ w g st en ps} (direct qs h pl d) = elim ((way_of h).listed) [ ]

  quasi_spells : {o : ℕ} {st en : ℕ} {ps : Parts} {s e : S} {P : List Pair} → Placed S Next behind tagged_quasi (node TemplateLiteral [] plain st en ps) s e → Runs ways S Next behind o (chunk_pieces true ps) ps s e P → Spells ways S Next behind o tagged_quasi (node TemplateLiteral [] plain st en ps) s e P
  unfolding spellings
  quasi_spells {st = st} {en = en} {ps = ps} pl d =
      let x : Spelling = at Primary (template_elements true (bare_parts ps)) in
      direct (settled tagged_quasi x) (way_from tagged_quasi (node TemplateLiteral [] plain st en ps) x refl first (runs_can S Next behind Expression true Any x.pieces d)) pl d

  pub quasi_found : {o : ℕ} {ps : Parts} {s e : S} {P : List Pair} {st en : ℕ} → FoundParts S Next behind o (chunk_pieces true) s e ps P → Placed S Next behind tagged_quasi (node TemplateLiteral [] plain st en ps) s e → FoundAt S Next behind o tagged_quasi s e (node TemplateLiteral [] plain st en ps) P
  quasi_found found places = record {
    spelled = quasi_spells places found.runs;
    only = λ o' e' n' P' d. let u = quasi_core d in
        let same = found.only o' e' u.parts P' u.runs in
        let span = same_span (λ t l. refl) u.places places same.0 in
        (same.0, u.tree ∙ same_node refl refl refl span.0 span.1 same.1, same.2);
  }
