-- An expression that is a statement doesn't begin with `async` and `function` on one line.
use Rattle.std.proofs.Common.{◌≡◌, ℕ, Bool, true, false, List, ◌++◌, refl, sym, ap, ◌∙◌, subst}
use Rattle.std.specs.Prelude.{IsTrue, codes}
use Rattle.std.proofs.lemmas.Bool.{false≢true}
use Rattle.tokens.specs.declared.token.TokenClass.TheVariants.{IdentifierName}
use Rattle.tokens.specs.declared.token.Goal.{Goal}
use Rattle.tree.specs.declared.kind.Kind.{Kind}
use Rattle.tree.specs.declared.kind.Flags.{Flags}
use Rattle.tree.specs.declared.kind.Pair.{Pair}
use Rattle.tree.specs.Tree.{Tree, Parts}
use Rattle.language.specs.declared.Rank.{Rank}
use Rattle.language.specs.declared.Rank.TheVariants.{Expression}
use Rattle.language.specs.declared.Start.TheVariants.{Statement}
use Rattle.language.specs.Vocabulary.{is_reserved}
use Rattle.language.specs.Pieces.{expr, Piece}
use Rattle.language.specs.Token.{Token}
use Rattle.language.specs.Expressions.{async_word}
use Rattle.language.specs.ExpressionStart.{with_name}
use Rattle.language.specs.Promises.{IsDetermined, ReadBy, Stops}
use Rattle.language.specs.Grammar.{ways, starts}
use Rattle.language.specs.Derivation.{Reads, Spells, Runs}
use Rattle.language.proofs.table.Begins.{goes_to, retell}
use Rattle.language.proofs.table.TokenFirstWays.{BehindAsync, async_function, async_name, async_parameters, head_identifier, head_short_arrow, head_async, opens, identifier_opens, async_free}
use Rattle.language.proofs.climbing.LeftmostParts.{Cored, in_way, core_by}
use Rattle.language.proofs.climbing.FirstTurn.{Begun, begins}
use Rattle.language.proofs.climbing.NamesBehind.{apart_inside, no_function_behind}
use Rattle.language.proofs.climbing.Leaves.{by_name, name_form}
use Rattle.language.proofs.list_loops.FirstPieces.{run_none, run_token, run_laid, run_unbroken, run_part}
use Rattle.language.proofs.covers.CoverReadings.{name_or_sign}
use Rattle.unambiguity_laws.proofs.statements.FunctionForms.{names_same}

function_reserved : is_reserved (codes "function") ≡ true
unfolding is_reserved
function_reserved = refl

module _ (S : Type 0) (Next : S → Token → S → Type 0) (behind : S → Token) (det : IsDetermined S Next behind) where
  module _ {s m k : S} {t v : Token} (read : ReadBy S Next behind Goal.RegExp s t m) (class : t.class ≡ IdentifierName) (text : t.text ≡ codes "async") (word : Reads S Next behind IdentifierName (codes "function") m v k) (line : v.after_break ≡ false) where
    function_at : {x : S} → x ≡ m → Reads S Next behind IdentifierName (codes "function") x v k
    function_at there = subst (λ c. Reads S Next behind IdentifierName (codes "function") c v k) (sym there) word

    no_async : {o : ℕ} {y : Rank} (q : Rank) (j : Bool) {K : Kind} {g : Flags} {qs ps : Parts} {rest : List Piece} {e : S} {P : List Pair} → BehindAsync y g qs K rest → IsTrue (starts Statement (async_word ++ rest)) → Runs ways S Next behind o (goes_to q j Statement (async_word ++ rest)) ps s e P → ⊥
    no_async q j (async_function z) st d = false≢true st
    no_async q j (async_name z p i tk) st d =
        let a = run_token S Next behind d in
        let b = run_unbroken S Next behind a.runs in
        let c = run_part S Next behind (run_laid S Next behind b.runs) in
        let u = name_form S Next behind det c.spelled in
        let same = names_same S Next behind det u.0.reads (function_at (by_name S Next behind det read a.sign a.mid a.reads).1) in
        false≢true (sym u.1 ∙ ap is_reserved same.0 ∙ function_reserved)
    no_async q j (async_parameters z tk) st d =
        let a = run_token S Next behind d in
        let b = run_unbroken S Next behind a.runs in
        let c = run_token S Next behind (run_laid S Next behind b.runs) in
        name_or_sign S Next behind det refl (function_at (by_name S Next behind det read a.sign a.mid a.reads).1) c.reads

    -- behind an expression that begins there no such word stands
    pub async_apart : {o : ℕ} {x : Tree} {mid : S} {P : List Pair} → Spells ways S Next behind o (expr Expression true Statement) x s mid P → Stops S Next behind Expression true x mid → ⊥
    async_apart {o} {x} {mid} {P} d st = let g = begins S Next behind det d st in of g.begun (core_by S Next behind det read (opens t class text (identifier_opens (codes "async") async_free)) g.begun.core)
      where
        of : {q : Rank} {j : Bool} {m0 : Tree} {mid0 : S} {Q : List Pair} → Begun S Next behind det o s Expression true Statement x mid P q j m0 mid0 Q → Cored S Next behind det o q j Statement m0 s mid0 Q with_name → ⊥
        of b (in_way is (head_identifier k c e) lean pl d) =
            let a = run_token S Next behind (retell S Next behind e d) in
            let z = run_none S Next behind a.runs in
            no_function_behind S Next behind det (apart_inside S Next behind det b.grows b.stopped.apart) (function_at (sym z.place ∙ (by_name S Next behind det read a.sign a.mid a.reads).1)) line
        of {q = q} {j = j} b (in_way is (head_async u st e) lean pl d) = no_async q j u st (retell S Next behind e d)
        of b (in_way is (head_short_arrow k z p n tk e) lean pl d) =
            let a = run_part S Next behind (retell S Next behind e d) in
            let w = (name_form S Next behind det a.spelled).0 in
            let l = run_unbroken S Next behind a.runs in
            name_or_sign S Next behind det refl (function_at (by_name S Next behind det read w.sign a.mid w.reads).1) (run_token S Next behind (run_laid S Next behind l.runs)).reads
