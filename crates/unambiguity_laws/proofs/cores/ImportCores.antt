-- Leftmost parts that begin with `import`: a call, and `import.meta`.
use Rattle.std.proofs.Common.{◌≡◌, ℕ, suc, ◌≤◌, Bool, true, false, cond, List, [], ◌∷◌, refl, sym, ap, ◌∙◌, subst}
use Rattle.std.specs.Prelude.{IsTrue, codes, ◌&&◌}
use Rattle.std.proofs.lemmas.Bool.{false≢true}
use Rattle.tokens.specs.declared.token.TokenClass.TheVariants.{IdentifierName, Punctuator}
use Rattle.tokens.specs.declared.token.Goal.{Goal}
use Rattle.tokens.specs.declared.token.Goal.TheVariants.{Div}
use Rattle.tree.specs.declared.kind.Kind.{Kind}
use Rattle.tree.specs.declared.kind.Kind.TheVariants.{MetaProperty}
use Rattle.tree.specs.declared.kind.Flags.{Flags}
use Rattle.tree.specs.declared.kind.Form.TheVariants.{Init}
use Rattle.tree.specs.declared.kind.Pair.{Pair}
use Rattle.tree.specs.Tree.{Tree, node, Parts, height, bare_parts, plain}
use Rattle.language.specs.declared.Rank.{Rank}
use Rattle.language.specs.declared.Rank.TheVariants.{Assignment, Member}
use Rattle.language.specs.declared.Start.{Start}
use Rattle.language.specs.declared.Start.TheVariants.{Any}
use Rattle.language.specs.FirstPart.{others}
use Rattle.language.specs.Vocabulary.{is, takes}
use Rattle.language.specs.Pieces.{Role, expr, fixed, word, PieceOf, tok, sub, never, put, sign, at}
use Rattle.language.specs.Expressions.{lead_is}
use Rattle.language.specs.Token.{Token}
use Rattle.language.specs.ExpressionStart.{with_import, expression_start}
use Rattle.language.specs.Promises.{IsDetermined, ReadBy}
use Rattle.language.specs.Following.{IsAlike}
use Rattle.language.specs.Grammar.{ways}
use Rattle.language.specs.Derivation.{Reads, Spells, Runs, Placed}
use Rattle.language.proofs.table.NodeForms.{import_meta}
use Rattle.language.proofs.table.Productions.{spell, starts_led}
use Rattle.language.proofs.table.Begins.{retell}
use Rattle.language.proofs.table.TokenFirstWays.{Headed, head_import, head_import_meta}
use Rattle.language.proofs.climbing.LeftmostParts.{Cored, in_way, core_by}
use Rattle.language.proofs.climbing.FirstTurn.{Begun}
use Rattle.language.proofs.climbing.Leaves.{by_name, by_class, worded_free, word_form}
use Rattle.language.proofs.climbing.SingleStarts.{Production, one_form, import_production}
use Rattle.language.proofs.list_loops.FirstPieces.{run_token, run_part, run_never}
use Rattle.language.proofs.statements.StatementFollow.{CannotGoOn, found_whole, before_token}
use Rattle.language.proofs.table.ForDeclarationWays.{two_signs}
use Rattle.language.proofs.table.SoleWays.{Anyhow, found_where}
use Rattle.unambiguity_laws.proofs.Unique.{Unique, UniqueParts, CoreStep, Climbed}
use Rattle.unambiguity_laws.proofs.list_items.PieceRuns.{turned_unique, nothing_unique, token_unique, part_unique}
use Rattle.unambiguity_laws.proofs.cores.CoreNodes.{production_climbed}
use Rattle.unambiguity_laws.proofs.list_items.WordsOnce.{word_unique}

-- of `import.meta`, where the parts have these texts
abbrev meta_pieces : Parts → List (PieceOf Role)
meta_pieces ps = cond (lead_is (bare_parts ps) "import" && lead_is (others (bare_parts ps)) "meta") (sub word ∷ tok Punctuator (codes ".") ∷ sub word ∷ []) (never ∷ [])

point_call : codes "." ≡ codes "(" → ⊥
point_call e = false≢true (ap (λ w. is w "(") e)

module _ (S : Type 0) (Next : S → Token → S → Type 0) (behind : S → Token) (det : IsDetermined S Next behind) where
  -- `import.meta`, where a point follows that word
  meta_production : (f : Start) {s0 x x2 : S} {t v : Token} → ReadBy S Next behind Goal.RegExp s0 t x → Reads S Next behind Punctuator (codes ".") x v x2 → Production S Next behind det with_import MetaProperty Member f s0 (λ g. Init) (λ x. meta_pieces)
  meta_production f {s0} {x} {x2} {t} {v} r dotted = record {
    no_text = refl;
    no_flags = λ g. refl;
    no_group = λ e. cc;
    is_way = λ o h j k w g ps qs mid Q headed d tk. of h j ps headed d;
    spells = λ o h j st en g ps e P tk pl d. spelled h j st en ps tk pl (lead_is (bare_parts ps) "import" && lead_is (others (bare_parts ps)) "meta") refl d;
  }
    where
      spelled : {o : ℕ} (h : Rank) (j : Bool) (st en : ℕ) (ps : Parts) {e : S} {P : List Pair} → IsTrue (takes h Member) → Placed S Next behind (expr h j f) (node MetaProperty [] plain st en ps) s0 e → (b : Bool) →
          (lead_is (bare_parts ps) "import" && lead_is (others (bare_parts ps)) "meta") ≡ b → Runs ways S Next behind o (cond b (sub word ∷ tok Punctuator (codes ".") ∷ sub word ∷ []) (never ∷ [])) ps s0 e P →
          Spells ways S Next behind o (expr h j f) (node MetaProperty [] plain st en ps) s0 e P
      spelled h j st en ps tk pl true e d = spell S Next behind (at Member (put word ∷ sign "." ∷ put word ∷ [])) (import_meta e) refl tk refl (starts_led f (fixed word) (sign "." ∷ put word ∷ [])) pl d
      spelled h j st en ps tk pl false e d = absurd (run_never S Next behind d)

      of : {o : ℕ} (h : Rank) (j : Bool) {k : Kind} {w : List ℕ} {g : Flags} (ps : Parts) {qs : List (PieceOf Role)} {mid : S} {Q : List Pair} → Headed h j f k w g (bare_parts ps) qs with_import → Runs ways S Next behind o qs ps s0 mid Q → (k ≡ MetaProperty) × IsTrue (takes h Member) × (qs ≡ meta_pieces ps)
      of h j ps (head_import_meta k c tk q) d = (k, tk, q ∙ ap (λ b. cond b (sub word ∷ tok Punctuator (codes ".") ∷ sub word ∷ []) (never ∷ [])) (sym c))
      of h j ps (head_import k tk q) d =
          let a = run_token S Next behind (retell S Next behind q d) in
          let here = by_name S Next behind det r a.sign a.mid a.reads in
          let call = run_token S Next behind a.runs in
          let called = subst (λ z. Reads S Next behind Punctuator (codes "(") z call.sign call.mid) here.1 call.reads in
          absurd (point_call (two_signs S Next behind det refl refl dotted called).0)

module _ (S : Type 0) (Next : S → Token → S → Type 0) (behind : S → Token) (det : IsDetermined S Next behind) (alike : IsAlike S Next behind) {h : ℕ} (u : Unique S Next behind det h) where
  call_unique : UniqueParts S Next behind det h (λ ps. tok IdentifierName (codes "import") ∷ tok Punctuator (codes "(") ∷ sub (expr Assignment true Any) ∷ tok Punctuator (codes ")") ∷ [])
  call_unique =
      token_unique S Next behind det Div refl (token_unique S Next behind det Div refl
      (part_unique S Next behind det {after = λ ps. tok Punctuator (codes ")") ∷ []} (CannotGoOn S Next behind det Assignment true) (λ o s e n P low d st. found_whole S Next behind det (u.expressions.found low (λ e. cc) (λ e. cc) d st))
      (λ mid. before_token S Next behind det Anyhow Assignment true (λ ps. []) refl (λ x b. refl)) (λ n. token_unique S Next behind det Div refl (nothing_unique S Next behind det))))

  word_part : {left : List (PieceOf Role)} → UniqueParts S Next behind det h (λ ps. left) → UniqueParts S Next behind det h (λ ps. sub word ∷ left)
  word_part {left} rest = part_unique S Next behind det {after = λ ps. left} Anyhow (λ o s e n P low d fine. found_where S Next behind det (word_unique S Next behind det d)) (λ mid o m ps k e A P d r fine. tt) (λ n. rest)

  meta_unique : UniqueParts S Next behind det h meta_pieces
  meta_unique = turned_unique S Next behind det {last = λ ps. sub word ∷ tok Punctuator (codes ".") ∷ sub word ∷ []} (λ o ps s e P d. of (lead_is (bare_parts ps) "import" && lead_is (others (bare_parts ps)) "meta") d) (word_part (token_unique S Next behind det Div refl (word_part (nothing_unique S Next behind det))))
    where
      of : {o : ℕ} {ps : Parts} {s e : S} {P : List Pair} (b : Bool) → Runs ways S Next behind o (cond b (sub word ∷ tok Punctuator (codes ".") ∷ sub word ∷ []) (never ∷ [])) ps s e P → Runs ways S Next behind o (sub word ∷ tok Punctuator (codes ".") ∷ sub word ∷ []) ps s e P
      of true d = d
      of false d = absurd (run_never S Next behind d)

  pub import_core : CoreStep S Next behind det h with_import
  import_core = record { gives = λ {o} {y} {i} {f} {n} {s0} {e} {P} {q} {j} {m} {mid} {m0} {Q} {t} no_new inner low b r op. of low b r op (core_by S Next behind det r op b.core) }
    where
      of : {o : ℕ} {y : Rank} {i : Bool} {f : Start} {n : Tree} {s0 e : S} {P : List Pair} {q : Rank} {j : Bool} {m : Tree} {mid m0 : S} {Q : List Pair} {t : Token} → height n ≤ suc h → Begun S Next behind det o s0 y i f n e P q j m mid Q → ReadBy S Next behind Goal.RegExp s0 t m0 → expression_start t ≡ with_import →
          Cored S Next behind det o q j f m s0 mid Q with_import → Climbed S Next behind det o y i f s0 m mid Q
      of {f = f} low b r op (in_way is (head_import k tk v) lean pl d) =
          let a = run_token S Next behind (retell S Next behind v d) in
          let here = (by_name S Next behind det r a.sign a.mid a.reads).1 in
          let c = run_token S Next behind a.runs in
          production_climbed S Next behind det (import_production S Next behind det f r (subst (λ z. Reads S Next behind Punctuator (codes "(") z c.sign c.mid) here c.reads)) r op (λ o g ps e P low d. one_form S Next behind det (call_unique.gives low d)) low b
      of {f = f} low b r op (in_way is (head_import_meta k c tk v) lean pl d) =
          let a = run_part S Next behind (retell S Next behind v d) in
          let w = word_form S Next behind det a.spelled in
          let here = (by_class S Next behind det (worded_free w.class w.text w.is_word) r w.sign a.mid w.reads).1 in
          let p = run_token S Next behind a.runs in
          production_climbed S Next behind det (meta_production S Next behind det f r (subst (λ z. Reads S Next behind Punctuator (codes ".") z p.sign p.mid) here p.reads)) r op (λ o g ps e P low d. one_form S Next behind det (meta_unique.gives low d)) low b
