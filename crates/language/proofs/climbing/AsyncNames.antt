-- The name `async`: where it is an expression, and no word of a function or of an arrow.
use Rattle.std.proofs.Common.{◌≡◌, ℕ, Bool, true, false, List, refl, sym, ap, ◌∙◌, subst}
use Rattle.std.specs.Prelude.{codes}
use Rattle.std.proofs.lemmas.Bool.{false≢true}
use Rattle.tokens.specs.declared.token.TokenClass.TheVariants.{IdentifierName, Punctuator}
use Rattle.tokens.specs.declared.token.Goal.{Goal}
use Rattle.tree.specs.declared.kind.Pair.{Pair}
use Rattle.tree.specs.Tree.{Tree}
use Rattle.language.specs.declared.Rank.{Rank}
use Rattle.language.specs.declared.Start.TheVariants.{Statement}
use Rattle.language.specs.Vocabulary.{is_reserved}
use Rattle.language.specs.Pieces.{Role, expr, chain_part}
use Rattle.language.specs.Token.{Token}
use Rattle.language.specs.ExpressionStart.{with_name, expression_start}
use Rattle.language.specs.Promises.{IsDetermined, ReadBy, is_free, Apart}
use Rattle.language.specs.Grammar.{ways, own_start}
use Rattle.language.specs.Derivation.{Reads, Spells}
use Rattle.language.proofs.table.Begins.{retell}
use Rattle.language.proofs.table.TokenFirstWays.{async_function, async_name, async_parameters, head_identifier, head_short_arrow, head_async, opens, identifier_opens, async_free}
use Rattle.language.proofs.list_loops.FirstPieces.{run_token, run_laid, run_unbroken, run_part}
use Rattle.language.proofs.climbing.Spine.{on_spine, Core, Grows, grows_on_spine, spine_of}
use Rattle.language.proofs.climbing.FirstTurn.{grows_start}
use Rattle.language.proofs.climbing.LeftmostParts.{Cored, in_way, core_by, no_spine_core}
use Rattle.language.proofs.climbing.Leaves.{by_name, name_form}
use Rattle.language.proofs.climbing.NamesBehind.{apart_inside, no_function_behind}
use Rattle.language.proofs.covers.CoverReadings.{name_or_sign}

function_reserved : is_reserved (codes "function") ≡ true
unfolding is_reserved
function_reserved = refl

module _ (S : Type 0) (Next : S → Token → S → Type 0) (behind : S → Token) (det : IsDetermined S Next behind) where
  -- a name, as the goal for operands reads it
  name_read : {w : List ℕ} {s e : S} {t : Token} → Reads S Next behind IdentifierName w s t e → ReadBy S Next behind Goal.RegExp s t e
  name_read {w} {s} {e} {t} h = record { next = h.next; allowed = det.free Goal.RegExp s t e h.next (ap is_free h.class) }

  same_name : {w w' : List ℕ} {s e e' : S} {t t' : Token} → Reads S Next behind IdentifierName w s t e → Reads S Next behind IdentifierName w' s t' e' → (w ≡ w') × (e ≡ e')
  same_name h k = let u = by_name S Next behind det (name_read k) _ _ h in (sym h.text ∙ ap (λ (v : Token). v.text) u.0 ∙ k.text, u.1)

  -- an expression that is a statement doesn't begin with `async` and the word `function` on its line
  pub no_async_function : {o : ℕ} {y : Rank} {i : Bool} {n : Tree} {s e m k : S} {P : List Pair} {t v : Token} → Apart S Next behind e → Spells ways S Next behind o (expr y i Statement) n s e P →
      Reads S Next behind IdentifierName (codes "async") s t m → Reads S Next behind IdentifierName (codes "function") m v k → v.after_break ≡ false → ⊥
  no_async_function {o} {y} {i} {n} {s} {e} {m} {k} {P} {t} {v} apart d a b line = let u = spine_of S Next behind d in of u.role (grows_on_spine S Next behind refl u.grows) (grows_start S Next behind u.grows) u.core u.grows
    where
      begins : expression_start t ≡ with_name
      begins = opens t a.class a.text (identifier_opens (codes "async") async_free)

      cored : {h : Rank} {j : Bool} {q : Tree} {mid : S} {Q : List Pair} → Cored S Next behind det o h j Statement q s mid Q with_name → (mid ≡ m → Apart S Next behind m) → ⊥
      cored (in_way tree (head_identifier kind c q) lean pl d) apart =
          let u = run_token S Next behind (retell S Next behind q d) in
          let end = Rattle.language.proofs.list_loops.FirstPieces.run_none S Next behind u.runs in
          no_function_behind S Next behind det (apart (sym end.place ∙ (same_name u.reads a).1)) b line
      cored (in_way tree (head_short_arrow kind z p c tk q) lean pl d) apart =
          let u = run_part S Next behind (retell S Next behind q d) in
          let w = (name_form S Next behind det u.spelled).0 in
          let x = run_unbroken S Next behind u.runs in
          let sign = run_token S Next behind (run_laid S Next behind x.runs) in
          name_or_sign S Next behind det refl b (subst (λ z. Reads S Next behind Punctuator (codes "=>") z sign.sign sign.mid) (same_name w.reads a).1 sign.reads)
      cored (in_way tree (head_async (async_function z) st q) lean pl d) apart = false≢true st
      cored (in_way tree (head_async (async_name z p c tk) st q) lean pl d) apart =
          let u = run_token S Next behind (retell S Next behind q d) in
          let x = run_unbroken S Next behind u.runs in
          let p = run_part S Next behind (run_laid S Next behind x.runs) in
          let w = name_form S Next behind det p.spelled in
          let same = (same_name (subst (λ z. Reads S Next behind IdentifierName w.0.text z w.0.sign p.mid) (same_name u.reads a).1 w.0.reads) b).0 in
          false≢true (sym w.1 ∙ ap is_reserved same ∙ function_reserved)
      cored (in_way tree (head_async (async_parameters z tk) st q) lean pl d) apart =
          let u = run_token S Next behind (retell S Next behind q d) in
          let x = run_unbroken S Next behind u.runs in
          let sign = run_token S Next behind (run_laid S Next behind x.runs) in
          name_or_sign S Next behind det refl b (subst (λ z. Reads S Next behind Punctuator (codes "(") z sign.sign sign.mid) (same_name u.reads a).1 sign.reads)

      of : {q : Tree} {mid : S} {Q : List Pair} (c : Role) → on_spine c ≡ true → own_start c ≡ Statement → Core S Next behind o c q s mid Q → Grows S Next behind o s (expr y i Statement) n e P c q mid Q → ⊥
      of {q} {mid} {Q} (expr h j g) on st c gs =
          cored (core_by S Next behind det (name_read a) begins (subst (λ z. Core S Next behind o (expr h j z) q s mid Q) st c))
          (λ same. subst (Apart S Next behind) same (apart_inside S Next behind det gs apart))
      of (chain_part g) on st c gs = no_spine_core S Next behind det c
      of _ on st c gs = false≢true on
