-- A script from its items (ECMA-262 15.1): it spans the text from its start on.
use Rattle.std.proofs.Common.{◌≡◌, ℕ, true, false, List, [], ◌∷◌, ◌++◌, refl, sym, ap, ◌∙◌, Bool}
use Rattle.tokens.specs.declared.token.TokenClass.TheVariants.{End}
use Rattle.tree.specs.declared.kind.Kind.TheVariants.{Program}
use Rattle.tree.specs.declared.kind.Pair.{Pair}
use Rattle.tree.specs.Tree.{Tree, node, Parts, bare, bare_parts, plain, text_of}
use Rattle.tree.proofs.Lean.{lean_flags}
use Rattle.language.specs.declared.Rank.TheVariants.{Expression, Primary}
use Rattle.language.specs.declared.Start.TheVariants.{Any}
use Rattle.language.specs.Pieces.{script, PieceOf, Role, Spelling, tok, lay, feed, at}
use Rattle.language.specs.Statements.{prologue, module_prologue}
use Rattle.language.specs.Token.{Token}
use Rattle.language.specs.Promises.{FoundParts}
use Rattle.language.specs.Grammar.{ways, spellings}
use Rattle.language.specs.Derivation.{first, Spells, direct, Runs, placed}
use Rattle.language.proofs.lower_bound.Domination.{settled}
use Rattle.language.proofs.table.ViewIsComplete.{way_of, one, cases}
use Rattle.language.proofs.table.Productions.{way_from, runs_can, in_true}
use Rattle.language.proofs.table.Begins.{goes_to, retell}
use Rattle.language.proofs.climbing.BinaryTurns.{same_node}
use Rattle.std.specs.Prelude.{◌||◌}
use Rattle.std.proofs.lemmas.Bool.{false≢true}
use Rattle.tree.specs.Uses.{is_empty}
use Rattle.language.specs.Vocabulary.{is}
use Rattle.language.specs.Following.{FoundWhere}

-- the pieces of a script: its items, which may begin with directives, and the end of the text
abbrev pub script_pieces : Parts → List (PieceOf Role)
script_pieces ps = goes_to Expression true Any (prologue false true [] (lay feed ∷ []) (bare_parts ps) ++ tok End [] ∷ [])

-- those of a module, and those of a Program by its text
abbrev pub module_pieces : Parts → List (PieceOf Role)
module_pieces ps = goes_to Expression true Any (module_prologue true (bare_parts ps) ++ tok End [] ∷ [])

abbrev pub is_script_text : List ℕ → Bool
is_script_text w = is_empty w || is w "2022"

module _ (S : Type 0) (Next : S → Token → S → Type 0) (behind : S → Token) where
  -- what spells a Program, by its text
  pub data ProgramForm (o : ℕ) (n : Tree) (s e : S) (P : List Pair) : Type 0 where
    a_script : {w : List ℕ} {ps : Parts} → is_script_text w ≡ true → n ≡ node Program w plain 0 (behind e).stop ps → Runs ways S Next behind o (script_pieces ps) ps s e P → ProgramForm o n s e P
    a_module : {w : List ℕ} {ps : Parts} → is_script_text w ≡ false → is w "module" ≡ true → n ≡ node Program w plain 0 (behind e).stop ps → Runs ways S Next behind o (module_pieces ps) ps s e P → ProgramForm o n s e P

  pub program_form : {o : ℕ} {n : Tree} {s e : S} {P : List Pair} → Spells ways S Next behind o script n s e P → ProgramForm o n s e P
  unfolding spellings
  program_form {o} {n = node Program w g st en ps} {s} {e} {P} (direct qs h (placed nx p) d) =
      let v = way_of h in
      cases (is_script_text w) v.listed
      (λ b k. a_script b tree (retell S Next behind (v.is ∙ ap (settled script) (one k)) d))
      (λ b k. cases {ys = []} (is w "module") k (λ c j. a_module b c tree (retell S Next behind (v.is ∙ ap (settled script) (one j)) d)) (λ c j. elim j [ ]))
    where
      tree : node Program w g st en ps ≡ node Program w plain 0 (behind e).stop ps
      tree = same_node refl refl (lean_flags (bare (node Program w g st en ps)) (way_of h).lean) (sym (ap (λ (c : ℕ × ℕ). c.0) p)) (sym (ap (λ (c : ℕ × ℕ). c.1) p)) refl
  program_form {n = node _ w g st en ps} (direct qs h pl d) = elim ((way_of h).listed) [ ]

  -- from its items a script is found, among the scripts of a text
  pub script_found : {o : ℕ} {s e m : S} {t : Token} {ps : Parts} {P : List Pair} (w : List ℕ) → is_script_text w ≡ true → Next s t m → FoundParts S Next behind o script_pieces s e ps P →
      FoundWhere S Next behind (λ n e. text_of n ≡ w) o script s e (node Program w plain 0 (behind e).stop ps) P
  unfolding spellings
  script_found {s = s} {e = e} {ps = ps} {P = P} w script_text nx found =
      let x : Spelling = at Primary (prologue false true [] (lay feed ∷ []) (bare_parts ps) ++ tok End [] ∷ []) in
      record {
        spelled = direct (settled script x) (way_from script (node Program w plain 0 (behind e).stop ps) x refl (in_true _ (is_script_text w) script_text first) (runs_can S Next behind Expression true Any x.pieces found.runs)) (placed nx refl) found.runs;
        only = λ o' e' n' P' d same_text. of same_text (program_form d);
      }
    where
      of : {o' : ℕ} {n' : Tree} {e' : S} {P' : List Pair} → text_of n' ≡ w → ProgramForm o' n' s e' P' → (e' ≡ e) × (n' ≡ node Program w plain 0 (behind e).stop ps) × (P' ≡ P)
      of {o'} {n'} {e'} {P'} is_w (a_script {w = v} {ps = qs} h tree d) =
          let same = found.only o' e' qs P' d in
          let text : v ≡ w = sym (ap text_of tree) ∙ is_w in
          (same.0, tree ∙ (λ i. node Program (text i) plain 0 (behind (same.0 i)).stop (same.1 i)), same.2)
      of is_w (a_module h c tree d) = absurd (false≢true (sym h ∙ ap is_script_text (sym (ap text_of tree) ∙ is_w) ∙ script_text))
