-- The items of a module are the only ones there (ModuleItemList; 16.2 of the 13th edition).
use Rattle.std.proofs.Common.{◌≡◌, ℕ, ◌≤◌, Bool, true, false, cond, List, [], ◌∷◌, ◌++◌, refl, sym, ap, ◌∙◌, subst, arith}
use Rattle.std.specs.Prelude.{IsTrue, ◌&&◌}
use Rattle.tokens.specs.declared.token.TokenClass.TheVariants.{IdentifierName, End}
use Rattle.tokens.specs.declared.token.Goal.TheVariants.{Div}
use Rattle.tokens.specs.Goals.{allows}
use Rattle.tree.specs.declared.kind.Pair.{Pair}
use Rattle.tree.specs.Tree.{Tree, node, Parts, none, part, gap, height, parts_height, bare_parts}
use Rattle.language.specs.declared.Rank.TheVariants.{Expression}
use Rattle.language.specs.declared.Start.TheVariants.{Any}
use Rattle.language.specs.Edges.{ends_in_if}
use Rattle.language.specs.Pieces.{Role, PieceOf, item, opening, module_item, feed, tok, sub, lay}
use Rattle.language.specs.Statements.{is_directive, is_module_item, module_prologue}
use Rattle.language.specs.Token.{Token}
use Rattle.language.specs.Promises.{IsDetermined, is_free}
use Rattle.language.specs.Following.{IsAlike, Followed}
use Rattle.language.specs.Grammar.{ways}
use Rattle.language.specs.Derivation.{Reads, Spells, Runs}
use Rattle.language.proofs.table.Begins.{goes_to}
use Rattle.language.proofs.table.ItemTokens.{item_starts}
use Rattle.language.proofs.list_loops.FirstPieces.{run_token, run_laid, run_never, run_the_part}
use Rattle.language.proofs.list_loops.ParameterLists.{parameter_list}
use Rattle.language.proofs.list_loops.StatementLists.{started_follows, no_start}
use Rattle.language.proofs.statements.ScriptFound.{module_pieces}
use Rattle.language.proofs.statements.StatementFollow.{token_follows}
use Rattle.unambiguity_laws.proofs.Unique.{Unique, UniqueParts}
use Rattle.unambiguity_laws.proofs.list_items.StatementLists.{stands_first, token_once}
use Rattle.unambiguity_laws.proofs.modules.ModuleItems.{ModuleItem, an_import, an_export, module_item_form, module_item_follows, no_statement, module_items_same}
use Rattle.unambiguity_laws.proofs.modules.ExportsOnce.{Follows}

-- the pieces of items up to the end of the text; the flag says that all items before are directives
abbrev to_end : Bool → Parts → List (PieceOf Role)
to_end b ps = goes_to Expression true Any (module_prologue b (bare_parts ps) ++ tok End [] ∷ [])

module _ (S : Type 0) (Next : S → Token → S → Type 0) (behind : S → Token) (det : IsDetermined S Next behind) where
  -- an import or export, or a statement
  data First (b : Bool) (o : ℕ) (n : Tree) (s e : S) (P : List Pair) : Type 0 where
    in_module : ModuleItem S Next behind det o n s e P → First b o n s e P
    a_statement : Spells ways S Next behind o (cond b (opening false) (item false)) n s e P → First b o n s e P

  -- that, and the items behind it
  record Items (b : Bool) (o : ℕ) (n : Tree) (ps : Parts) (s e : S) (P : List Pair) : Type 0 where
    mid : S
    one : List Pair
    more : List Pair
    first : First b o n s mid one
    runs : Runs ways S Next behind o (to_end (b && is_directive n) ps) ps mid e more
    pairs : P ≡ one ++ more

  items : {o : ℕ} (b : Bool) (n : Tree) {ps : Parts} {s e : S} {P : List Pair} → Runs ways S Next behind o (to_end b (part n ps)) (part n ps) s e P → Items b o n ps s e P
  items {o} b (node k w g st en rs) {ps} {s} {e} {P} d = of (is_module_item k) d
    where
      of : (c : Bool) → Runs ways S Next behind o (sub (cond c module_item (cond b (opening false) (item false))) ∷ lay feed ∷ to_end (b && is_directive (node k w g st en rs)) ps) (part (node k w g st en rs) ps) s e P → Items b o (node k w g st en rs) ps s e P
      of true d = let a = run_the_part S Next behind d in record { mid = a.mid; one = a.one; more = a.more; first = in_module (module_item_form S Next behind det a.spelled); runs = run_laid S Next behind a.runs; pairs = a.pairs }
      of false d = let a = run_the_part S Next behind d in record { mid = a.mid; one = a.one; more = a.more; first = a_statement a.spelled; runs = run_laid S Next behind a.runs; pairs = a.pairs }

  -- so a statement may end before them
  items_follow : {o : ℕ} (b : Bool) (ps : Parts) {s e : S} {P : List Pair} → Runs ways S Next behind o (to_end b ps) ps s e P → Follows S Next behind det s
  items_follow b none d c = token_follows S Next behind det {b = c} refl refl (run_token S Next behind d).reads
  items_follow b (gap ps) d c = absurd (run_never S Next behind d)
  items_follow b (part n ps) d c = of (items b n d).first
    where
      of : {o : ℕ} {s e : S} {P : List Pair} → First b o n s e P → Followed S Next behind c s
      of (in_module i) = module_item_follows S Next behind det i c
      of (a_statement d) = started_follows S Next behind det (item_starts S Next behind det (stands_first false b) d)

  -- none stands at the end of the text
  name_or_end : {A : Type 0} {w : List ℕ} {s k k' : S} {t t' : Token} → Reads S Next behind End [] s t k → Reads S Next behind IdentifierName w s t' k' → A
  name_or_end {s = s} {k} {k'} {t} {t'} r r' =
      let al : IsTrue (allows Div t.class t.text) = subst (λ c. IsTrue (allows Div c t.text)) (sym r.class) (subst (λ c. IsTrue (allows Div End c)) (sym r.text) refl) in
      let same = (det.same Div s t t' k k' r.next r'.next al (det.free Div s t' k' r'.next (ap is_free r'.class))).0 in
      let clash : End ≡ IdentifierName = sym r.class ∙ ap (λ (c : Token). c.class) same ∙ r'.class in
      cc

  no_first : {A : Type 0} {b : Bool} {o : ℕ} {n : Tree} {s e k : S} {P : List Pair} {t : Token} → Reads S Next behind End [] s t k → First b o n s e P → A
  no_first r (in_module (an_import tree pl r' i)) = name_or_end r r'
  no_first r (in_module (an_export tree pl r' i)) = name_or_end r r'
  no_first {b = b} r (a_statement d) = absurd (no_start S Next behind det refl refl r (item_starts S Next behind det (stands_first false b) d))

module _ (S : Type 0) (Next : S → Token → S → Type 0) (behind : S → Token) (det : IsDetermined S Next behind) (alike : IsAlike S Next behind) {h : ℕ} (u : Unique S Next behind det h) (parameters : UniqueParts S Next behind det h parameter_list) where
  firsts_same : {b : Bool} {o o' : ℕ} {n n' : Tree} {s e e' : S} {P P' : List Pair} → height n ≤ h → First S Next behind det b o n s e P → Follows S Next behind det e → First S Next behind det b o' n' s e' P' → Follows S Next behind det e' → (e' ≡ e) × (n' ≡ n) × (P' ≡ P)
  firsts_same low (in_module i) fine (in_module i') fine' = module_items_same S Next behind det alike u parameters low i fine i' fine'
  firsts_same {b = b} low (in_module i) fine (a_statement d) fine' = no_statement S Next behind det i (stands_first false b) d
  firsts_same {b = b} low (a_statement d) fine (in_module i) fine' = no_statement S Next behind det i (stands_first false b) d
  firsts_same {b = b} {o' = o'} {n = n} {n'} {e' = e'} {P' = P'} low (a_statement d) fine (a_statement d') fine' =
      (u.statement (stands_first false b) low d (fine (ends_in_if n))).only o' e' n' P' d' (fine' (ends_in_if n'))

  items_same : {o o' : ℕ} (b : Bool) (ps : Parts) {ps' : Parts} {s e e' : S} {P P' : List Pair} → parts_height ps ≤ h → Runs ways S Next behind o (to_end b ps) ps s e P → Runs ways S Next behind o' (to_end b ps') ps' s e' P' → (e' ≡ e) × (ps' ≡ ps) × (P' ≡ P)
  items_same b (gap ps) low d d' = absurd (run_never S Next behind d)
  items_same b none {ps' = gap ps'} low d d' = absurd (run_never S Next behind d')
  items_same b none {ps' = none} low d d' =
      let once = (token_once S Next behind det Div refl).once d d' in
      (once.0, refl, once.1 ∙ sym ((token_once S Next behind det Div refl).once d d).1)
  items_same b none {ps' = part n' ps'} low d d' = no_first S Next behind det (run_token S Next behind d).reads (items S Next behind det b n' d').first
  items_same b (part n ps) {ps' = gap ps'} low d d' = absurd (run_never S Next behind d')
  items_same b (part n ps) {ps' = none} low d d' = no_first S Next behind det (run_token S Next behind d').reads (items S Next behind det b n d).first
  items_same {o' = o'} b (part n ps) {ps' = part n' ps'} {e' = e'} low d d' =
      let v = items S Next behind det b n d in
      let w = items S Next behind det b n' d' in
      let same = firsts_same (omega arith) v.first (items_follow S Next behind det (b && is_directive n) ps v.runs) w.first (items_follow S Next behind det (b && is_directive n') ps' w.runs) in
      let rest = items_same (b && is_directive n) ps (omega arith) v.runs (subst (λ c. Runs ways S Next behind o' (to_end (b && is_directive c) ps') ps' v.mid e' w.more) same.1 (subst (λ c. Runs ways S Next behind o' (to_end (b && is_directive n') ps') ps' c e' w.more) same.0 w.runs)) in
      (rest.0, (λ i. part (same.1 i) (rest.1 i)), w.pairs ∙ (λ i. same.2 i ++ rest.2 i) ∙ sym v.pairs)

  -- a module's items
  pub module_same : {o o' : ℕ} (ps : Parts) {ps' : Parts} {s e e' : S} {P P' : List Pair} → parts_height ps ≤ h → Runs ways S Next behind o (module_pieces ps) ps s e P → Runs ways S Next behind o' (module_pieces ps') ps' s e' P' → (e' ≡ e) × (ps' ≡ ps) × (P' ≡ P)
  module_same ps low d d' = items_same true ps low d d'
