-- Blocks, bodies of functions and scripts.
use Rattle.std.proofs.Common.{◌≡◌, ℕ, suc, ◌≤◌, Bool, true, false, List, [], ◌∷◌, refl, sym, ap, ◌∙◌, subst, arith}
use Rattle.std.proofs.lemmas.Bool.{false≢true}
use Rattle.tokens.specs.declared.token.Goal.TheVariants.{Div}
use Rattle.tree.specs.declared.kind.Kind.{Kind}
use Rattle.tree.specs.declared.kind.Flags.{Flags}
use Rattle.tree.specs.declared.kind.Pair.{Pair}
use Rattle.tree.specs.declared.kind.Kind.TheVariants.{Program}
use Rattle.tree.specs.Tree.{Tree, node, Parts, bare_parts, plain, height, parts_height, text_of}
use Rattle.language.specs.declared.Rank.TheVariants.{Expression}
use Rattle.language.specs.declared.Start.TheVariants.{Any}
use Rattle.language.specs.Pieces.{Role, item, block, body, script, Piece, line}
use Rattle.language.specs.Statements.{lines, prologue}
use Rattle.language.specs.Token.{Token}
use Rattle.language.specs.Promises.{IsDetermined, FoundAt}
use Rattle.language.specs.Following.{IsAlike, FoundWhere}
use Rattle.language.specs.Grammar.{ways}
use Rattle.language.specs.Derivation.{Spells, direct, Placed, placed}
use Rattle.language.proofs.table.Begins.{goes_to}
use Rattle.language.proofs.table.StatementWays.{behind_brace, as_item}
use Rattle.language.proofs.table.SoleWays.{Sole, Anyhow, sole_found_at}
use Rattle.language.proofs.table.OneKind.{OneKind, one_kind}
use Rattle.language.proofs.statements.Blocks.{one_block, one_body}
use Rattle.language.proofs.list_loops.ParameterLists.{parameter_list}
use Rattle.language.proofs.list_loops.StatementLists.{block_begins, brace_closes, end_closes}
use Rattle.language.proofs.list_loops.Prologues.{body_begins, script_begins}
use Rattle.language.proofs.statements.ScriptFound.{script_pieces, is_script_text, script_found, ProgramForm, a_script, a_module, program_form}
use Rattle.unambiguity_laws.proofs.Unique.{Unique, UniqueParts}
use Rattle.unambiguity_laws.proofs.modules.ModuleLists.{module_same}
use Rattle.unambiguity_laws.proofs.list_items.UniqueRuns.{UniqueRuns, runs_token, runs_after, anyhow_found}
use Rattle.unambiguity_laws.proofs.list_items.StatementLists.{token_once, lines_unique, prologue_unique}

module _ (S : Type 0) (Next : S → Token → S → Type 0) (behind : S → Token) (det : IsDetermined S Next behind) where
  -- the only kind of node at a position, with its parts
  pub kind_closed : {h : ℕ} {a : Role} {k : Kind} {f : Flags} {pieces : Parts → List Piece} {o : ℕ} {n : Tree} {s e : S} {P : List Pair} → OneKind a k f pieces → UniqueRuns S Next behind det h (λ ps e. Unit {0}) (λ ps. goes_to Expression true Any (pieces (bare_parts ps))) →
      height n ≤ suc h → Spells ways S Next behind o a n s e P → FoundAt S Next behind o a s e n P
  kind_closed {h} {a} {k} {f} {pieces} {o} {n} {s} {e} {P} kind runs low d =
      let sole : Sole S Next behind det Anyhow a k [] f s s (λ ps. goes_to Expression true Any (pieces (bare_parts ps))) = one_kind S Next behind det kind in
      let v = sole.told d tt in
      let tall : height n ≡ suc (parts_height v.parts) = ap height v.tree in
      let low' : parts_height v.parts ≤ h = omega arith in
      subst (λ w. FoundAt S Next behind o a s e w P) (sym v.tree) (sole_found_at S Next behind det sole (anyhow_found S Next behind det runs low' v.runs) (subst (λ w. Placed S Next behind a w s e) v.tree v.placed))

  -- behind a script's beginning a token is read
  record ScriptBegins (s : S) : Type 0 where
    first : Token
    mid : S
    next : Next s first mid

  script_begun : {o : ℕ} {n : Tree} {s e : S} {P : List Pair} → Spells ways S Next behind o script n s e P → ScriptBegins s
  script_begun (direct qs h (placed {t = t} {m = m} nx p) d) = record { first = t; mid = m; next = nx }

module _ (S : Type 0) (Next : S → Token → S → Type 0) (behind : S → Token) (det : IsDetermined S Next behind) (alike : IsAlike S Next behind) {h : ℕ} (u : Unique S Next behind det h) where
  -- items behind the `{` of a block
  pub block_items : (r : Bool) → UniqueRuns S Next behind det h (λ ps e. Unit {0}) (λ ps. goes_to Expression true Any (behind_brace (bare_parts ps) (lines (item r) (bare_parts ps))))
  block_items r = runs_after S Next behind det (λ o s. block_begins S Next behind det (item r))
      (lines_unique S Next behind det alike u (brace_closes S Next behind det) (token_once S Next behind det Div refl) as_item)

  -- of a body
  pub body_items : UniqueRuns S Next behind det h (λ ps e. Unit {0}) (λ ps. goes_to Expression true Any (behind_brace (bare_parts ps) (prologue true true (Rattle.language.specs.Pieces.lay line ∷ []) [] (bare_parts ps))))
  body_items = runs_after S Next behind det (λ o s. body_begins S Next behind det)
      (prologue_unique S Next behind det alike u (brace_closes S Next behind det) (token_once S Next behind det Div refl) true true)

  pub block_closed : {r : Bool} {o : ℕ} {n : Tree} {s e : S} {P : List Pair} → height n ≤ suc h → Spells ways S Next behind o (block r) n s e P → FoundAt S Next behind o (block r) s e n P
  block_closed {r} low d = kind_closed S Next behind det (one_block r) (runs_token S Next behind det Div refl (block_items r)) low d

  pub body_closed : {o : ℕ} {n : Tree} {s e : S} {P : List Pair} → height n ≤ suc h → Spells ways S Next behind o body n s e P → FoundAt S Next behind o body s e n P
  body_closed low d = kind_closed S Next behind det one_body (runs_token S Next behind det Div refl body_items) low d

  -- A script is the only one among those with its text, where the parameters are the only ones.
  pub script_unique : UniqueParts S Next behind det h parameter_list → {o : ℕ} {n : Tree} {s e : S} {P : List Pair} → height n ≤ suc h → Spells ways S Next behind o script n s e P → FoundWhere S Next behind (λ m e. text_of m ≡ text_of n) o script s e n P
  script_unique parameters {o} {n} {s} {e} {P} low d = of (program_form S Next behind d)
    where
      items : UniqueRuns S Next behind det h (λ ps e. Unit {0}) script_pieces
      items = runs_after S Next behind det (λ o s. script_begins S Next behind det) (prologue_unique S Next behind det alike u (end_closes S Next behind det) (token_once S Next behind det Div refl) false true)

      of : ProgramForm S Next behind o n s e P → FoundWhere S Next behind (λ m e. text_of m ≡ text_of n) o script s e n P
      of (a_script {w = w} {ps = ps} b tree runs) =
          let tall : height n ≡ suc (parts_height ps) = ap height tree in
          let low' : parts_height ps ≤ h = omega arith in
          let begun = script_begun S Next behind det d in
          subst (λ m. FoundWhere S Next behind (λ v e. text_of v ≡ text_of m) o script s e m P) (sym tree)
          (script_found S Next behind w b begun.next (anyhow_found S Next behind det items low' runs))
      of (a_module {w = w} {ps = ps} b c tree runs) =
          let tall : height n ≡ suc (parts_height ps) = ap height tree in
          let low' : parts_height ps ≤ h = omega arith in
          record { spelled = d; only = λ o' e' n' P' d' same_text. other low' (program_form S Next behind d') same_text }
        where
          other : {o' : ℕ} {n' : Tree} {e' : S} {P' : List Pair} → parts_height ps ≤ h → ProgramForm S Next behind o' n' s e' P' → text_of n' ≡ text_of n → (e' ≡ e) × (n' ≡ n) × (P' ≡ P)
          other low' (a_script c' tree' runs') text = absurd (false≢true (sym b ∙ ap is_script_text (sym (ap text_of tree) ∙ sym text ∙ ap text_of tree') ∙ c'))
          other low' (a_module {w = v} b' c' tree' runs') text =
              let same = module_same S Next behind det alike u parameters ps low' runs runs' in
              let word : v ≡ w = sym (ap text_of tree') ∙ text ∙ ap text_of tree in
              (same.0, tree' ∙ (λ i. node Program (word i) plain 0 (behind (same.0 i)).stop (same.1 i)) ∙ sym tree, same.2)
