-- From texts that are read again and compared to what mending promises.
use Rattle.std.proofs.Common.{◌≡◌, ℕ, List, Bool, true, Option, Some, None, Result, Ok, Err, sym, subst}
use Rattle.std.specs.Prelude.{IfOk, IfSome, String, string_bytes}
use Rattle.tree.specs.Tree.{Tree}
use Rattle.tree.specs.declared.kind.Pair.{Pair}
use Rattle.early_errors.specs.Accepted.{Accepted}
use Rattle.language.specs.declared.Language.{Language}
use Rattle.rules.specs.Reports.{Report}
use Rattle.rules.specs.Rules.{View}
use Rattle.rules.specs.Settings.{Settings}
use Rattle.mending.specs.Mended.{IsMended}
use Rattle.lint.specs.ReadScripts.{HasReading, IsOnly, IsReading}
use Rattle.lint.specs.Reported.{Reports}
use Rattle.lint.specs.Unwraps.{made_text}
use Rattle.lint.specs.Mendings.{Mended, MendsOnce, MendsTo, stays, goes_on}

-- the bytes of a round, which were read again as this text
pub mends_to : (language : Language) (reports : List Report) (text next bytes : List ℕ) (n m again : Tree) (pairs : List Pair) → next ≡ bytes → m ≡ again → Accepted language next again pairs → IsOnly language next again pairs
    → IsMended reports text n next m → MendsTo language reports text n bytes
mends_to language reports text next bytes n m again pairs is same accepted only mended = record {
  again = again;
  pairs_again = pairs;
  accepted_again = subst (λ (t : List ℕ). Accepted language t again pairs) is accepted;
  only_again = subst (λ (t : List ℕ). IsOnly language t again pairs) is only;
  mended = subst (λ (t : List ℕ). IsMended reports text n t again) is (subst (λ (k : Tree). IsMended reports text n next k) same mended);
}

-- what a call says where it says yes
pub told_yes : {X Y E : Type 0} (result : Result Bool E) → (X → Y) → IfOk result (λ is. is ≡ true → X) → IfOk result (λ is. is ≡ true → Y)
told_yes (Ok is) f told = λ yes. f (told yes)
told_yes (Err error) f told = tt

-- what holds of a text that was made, if one was
abbrev pub IfMade : {X E : Type 0} → Result (Option X) E → (X → Type 0) → Type 0
IfMade result P = IfOk result (λ made. IfSome made P)

module _ (finds : View → List Report) (language : Language) (settings : Settings) where
  -- one round over a text that was read
  once : (text next : List ℕ) (n m : Tree) (P : List Pair) (found reports : List Report) → IsReading language text n P → Reports finds language text n P settings found → m ≡ n → reports ≡ found
      → MendsTo language reports text m next → MendsOnce finds language settings text next
  once text next n m P found reports reading are same all to = record {
    tree = n;
    pairs = P;
    accepted = reading.accepted;
    only = reading.only;
    reports = found;
    are_reports = are;
    next_is = subst (λ (rs : List Report). MendsTo language rs text n next) all (subst (λ (k : Tree). MendsTo language reports text k next) same to);
  }

  pub made_once : {X E : Type 0} (bytes : X → List ℕ) (result : Result (Option X) E) (text : List ℕ) (n m : Tree) (P : List Pair) (found reports : List Report) → IsReading language text n P
      → Reports finds language text n P settings found → m ≡ n → reports ≡ found → IfMade result (λ next. MendsTo language reports text m (bytes next)) → IfMade result (λ next. MendsOnce finds language settings text (bytes next))
  made_once bytes (Ok (Some next)) text n m P found reports reading are same all to = once text (bytes next) n m P found reports reading are same all to
  made_once bytes (Ok None) text n m P found reports reading are same all to = tt
  made_once bytes (Err error) text n m P found reports reading are same all to = tt

  -- the next text is read
  pub next_reading : (text next : List ℕ) → MendsOnce finds language settings text next → HasReading language next
  next_reading text next one = (one.next_is.again, one.next_is.pairs_again, record { accepted = one.next_is.accepted_again; only = one.next_is.only_again })

  -- rounds behind a round
  pub mended_on : (text next last : List ℕ) → MendsOnce finds language settings text next → (HasReading language next → Mended finds language settings next last) → Mended finds language settings text last
  mended_on text next last one rest = goes_on one (rest (next_reading text next one))

  pub mended_itself : (text : List ℕ) (n : Tree) (P : List Pair) → IsReading language text n P → Mended finds language settings text text
  mended_itself text n P reading = stays (n, P, reading)

  -- and in a result
  pub mended_further : {X E : Type 0} (bytes : X → List ℕ) (result : Result X E) (text next : List ℕ) → MendsOnce finds language settings text next
      → IfOk result (λ last. HasReading language next → Mended finds language settings next (bytes last)) → IfOk result (λ last. HasReading language text → Mended finds language settings text (bytes last))
  mended_further bytes (Ok last) text next one rest = λ reading. mended_on text next (bytes last) one rest
  mended_further bytes (Err error) text next one rest = tt

  -- over a text that is the same
  pub made_over : {X E : Type 0} (bytes : X → List ℕ) (result : Result (Option X) E) (text other : List ℕ) → text ≡ other → IfMade result (λ next. MendsOnce finds language settings text (bytes next))
      → IfMade result (λ next. MendsOnce finds language settings other (bytes next))
  made_over bytes result text other same made = subst (λ (t : List ℕ). IfMade result (λ next. MendsOnce finds language settings t (bytes next))) same made

  -- the text that was made
  pub made_some : {X : Type 0} (bytes : X → List ℕ) (made : Option X) (next : X) (text other : List ℕ) → made ≡ Some next → text ≡ other → IfSome made (λ x. MendsOnce finds language settings text (bytes x))
      → MendsOnce finds language settings other (bytes next)
  made_some {X} bytes made next text other is same one =
      subst (λ (t : List ℕ). MendsOnce finds language settings t (bytes next)) same (subst (λ (o : Option X). IfSome o (λ x. MendsOnce finds language settings text (bytes x))) is one)

  -- to a text that is the same
  pub mended_made : (text made same : List ℕ) → made ≡ same → Mended finds language settings text same → Mended finds language settings text made
  mended_made text made same is mended = subst (Mended finds language settings text) (sym is) mended

  pub mended_some : {A : Type 0} (text : List ℕ) (made : Option (String A)) (some : String A) → made ≡ Some some → Mended finds language settings text (made_text text made)
      → Mended finds language settings text (string_bytes some)
  mended_some {A} text made some is mended = subst (λ (o : Option (String A)). Mended finds language settings text (made_text text o)) is mended

  pub mended_none : {A : Type 0} (text own : List ℕ) (made : Option (String A)) → made ≡ None → own ≡ text → Mended finds language settings text (made_text text made)
      → Mended finds language settings text own
  mended_none {A} text own made is same mended = mended_made text own text same (subst (λ (o : Option (String A)). Mended finds language settings text (made_text text o)) is mended)
