-- Functions of each form: the words before a function tell its form, and what stands behind them is the only thing there.
use Rattle.std.proofs.Common.{◌≡◌, ℕ, ◌≤◌, Bool, true, false, List, refl, sym, ap, ◌∙◌, subst}
use Rattle.std.specs.Prelude.{codes}
use Rattle.std.proofs.lemmas.Bool.{false≢true}
use Rattle.tokens.specs.declared.token.TokenClass.TheVariants.{IdentifierName, Punctuator}
use Rattle.tokens.specs.declared.token.Goal.TheVariants.{Div}
use Rattle.tree.specs.declared.kind.Flags.{Flags}
use Rattle.tree.specs.declared.kind.Form.{Form}
use Rattle.tree.specs.declared.kind.Form.TheVariants.{Init, Generator, Async, AsyncGenerator}
use Rattle.tree.specs.declared.kind.Pair.{Pair}
use Rattle.tree.specs.Tree.{Parts, none, part, gap, parts_height}
use Rattle.language.specs.Vocabulary.{is}
use Rattle.language.specs.Token.{Token}
use Rattle.language.specs.Promises.{IsDetermined, is_free}
use Rattle.language.specs.Following.{IsAlike}
use Rattle.language.specs.Grammar.{ways}
use Rattle.language.specs.Derivation.{Reads, Runs}
use Rattle.language.proofs.climbing.Conditionals.{same_sign}
use Rattle.language.proofs.climbing.Leaves.{name_form}
use Rattle.language.proofs.climbing.SingleStarts.{function_parts, FoundFormed}
use Rattle.language.proofs.covers.CoverReadings.{name_or_sign}
use Rattle.language.proofs.table.ForDeclarationWays.{two_signs}
use Rattle.language.proofs.list_loops.FirstPieces.{run_token, run_laid, run_unbroken, run_part, run_never, run_the_gap}
use Rattle.language.proofs.list_loops.ParameterLists.{parameter_list}
use Rattle.language.proofs.statements.FunctionParts.{function_name}
use Rattle.unambiguity_laws.proofs.Unique.{Unique, UniqueParts}
use Rattle.unambiguity_laws.proofs.statements.FunctionBodies.{function_name_unique}

-- a function's form, by its words
abbrev pub form_of : Bool → Bool → Form
form_of false false = Init
form_of false true = Generator
form_of true false = Async
form_of true true = AsyncGenerator

module _ (S : Type 0) (Next : S → Token → S → Type 0) (behind : S → Token) (det : IsDetermined S Next behind) where
  -- two names that are read at one place are one token
  pub names_same : {v w : List ℕ} {s e k : S} {t u : Token} → Reads S Next behind IdentifierName v s t e → Reads S Next behind IdentifierName w s u k → (v ≡ w) × (e ≡ k) × (t ≡ u)
  names_same {s = s} {e} {k} {t} {u} a b =
      let same = det.same Div s t u e k a.next b.next (det.free Div s t e a.next (ap is_free a.class)) (det.free Div s u k b.next (ap is_free b.class)) in
      (sym a.text ∙ ap (λ (x : Token). x.text) same.0 ∙ b.text, same.1, same.0)

  -- `async` stands there, with more on its line, or it doesn't
  pub data AsyncWord : Bool → S → S → Type 0 where
    with_async : {t v : Token} {s m k : S} → Reads S Next behind IdentifierName (codes "async") s t m → Next m v k → v.after_break ≡ false → AsyncWord true s m
    without_async : {s : S} → AsyncWord false s s

  -- so does `*`
  pub data Star : Bool → S → S → Type 0 where
    with_star : {t : Token} {s m : S} → Reads S Next behind Punctuator (codes "*") s t m → Star true s m
    without_star : {s : S} → Star false s s

  -- behind `function`: perhaps `*`, then a name or none, parameters and a body
  pub record FunctionRest (star : Bool) (o : ℕ) (ps : Parts) (s e : S) (P : List Pair) : Type 0 where
    pub place : S
    pub starred : Star star s place
    pub runs : Runs ways S Next behind o (function_name ps) ps place e P

  -- a function, by its words
  pub record FunctionWords (x : Form) (o : ℕ) (ps : Parts) (s e : S) (P : List Pair) : Type 0 where
    pub is_async : Bool
    pub star : Bool
    pub form : x ≡ form_of is_async star
    pub place : S
    pub mid : S
    pub sign : Token
    pub word : AsyncWord is_async s place
    pub reads : Reads S Next behind IdentifierName (codes "function") place sign mid
    pub rest : FunctionRest star o ps mid e P

  pub function_words : (x : Form) {o : ℕ} {ps : Parts} {s e : S} {P : List Pair} → Runs ways S Next behind o (function_parts x ps) ps s e P → FunctionWords x o ps s e P
  function_words Init {s = s} d =
      let a = run_token S Next behind d in
      record { is_async = false; star = false; form = refl; place = s; mid = a.mid; sign = a.sign; word = without_async; reads = a.reads; rest = record { place = a.mid; starred = without_star; runs = run_laid S Next behind a.runs } }
  function_words Generator {s = s} d =
      let a = run_token S Next behind d in
      let b = run_token S Next behind a.runs in
      record { is_async = false; star = true; form = refl; place = s; mid = a.mid; sign = a.sign; word = without_async; reads = a.reads; rest = record { place = b.mid; starred = with_star b.reads; runs = run_laid S Next behind b.runs } }
  function_words Async d =
      let z = run_token S Next behind d in
      let l = run_unbroken S Next behind z.runs in
      let a = run_token S Next behind (run_laid S Next behind l.runs) in
      record { is_async = true; star = false; form = refl; place = z.mid; mid = a.mid; sign = a.sign; word = with_async z.reads l.next l.unbroken; reads = a.reads; rest = record { place = a.mid; starred = without_star; runs = run_laid S Next behind a.runs } }
  function_words AsyncGenerator d =
      let z = run_token S Next behind d in
      let l = run_unbroken S Next behind z.runs in
      let a = run_token S Next behind (run_laid S Next behind l.runs) in
      let b = run_token S Next behind a.runs in
      record { is_async = true; star = true; form = refl; place = z.mid; mid = a.mid; sign = a.sign; word = with_async z.reads l.next l.unbroken; reads = a.reads; rest = record { place = b.mid; starred = with_star b.reads; runs = run_laid S Next behind b.runs } }
  function_words _ d = absurd (run_never S Next behind d)

  function_async : codes "function" ≡ codes "async" → ⊥
  function_async e = false≢true (sym (ap (λ w. is w "function") e))

  -- the words tell whether a function is async
  words_same : {b c : Bool} {s m m' k k' : S} {t t' : Token} → AsyncWord b s m → Reads S Next behind IdentifierName (codes "function") m t k → AsyncWord c s m' → Reads S Next behind IdentifierName (codes "function") m' t' k' → (c ≡ b) × (m' ≡ m)
  words_same (with_async r nx l) h (with_async r' nx' l') h' = (refl, (names_same r' r).1)
  words_same without_async h without_async h' = (refl, refl)
  words_same (with_async r nx l) h without_async h' = absurd (function_async (names_same h' r).0)
  words_same without_async h (with_async r nx l) h' = absurd (function_async (names_same h r).0)

  -- behind them no `*` stands
  no_star : {o : ℕ} {s e k : S} {P : List Pair} {t : Token} (ps : Parts) → Runs ways S Next behind o (function_name ps) ps s e P → Reads S Next behind Punctuator (codes "*") s t k → ⊥
  no_star none d r = run_never S Next behind d
  no_star (part n ps) d r = name_or_sign S Next behind det refl (name_form S Next behind det (run_part S Next behind d).spelled).0.reads r
  no_star (gap ps) d r = false≢true (sym (ap (λ w. is w "*") (two_signs S Next behind det refl refl r (run_token S Next behind (run_the_gap S Next behind d)).reads).0))

  stars_same : {b c : Bool} {o o' : ℕ} {ps ps' : Parts} {s m m' e e' : S} {P P' : List Pair} → Star b s m → Runs ways S Next behind o (function_name ps) ps m e P → Star c s m' → Runs ways S Next behind o' (function_name ps') ps' m' e' P' → (c ≡ b) × (m' ≡ m)
  stars_same (with_star r) d (with_star r') d' = (refl, (same_sign S Next behind det r' r refl).1)
  stars_same without_star d without_star d' = (refl, refl)
  stars_same {ps' = ps'} (with_star r) d without_star d' = absurd (no_star ps' d' r)
  stars_same {ps = ps} without_star d (with_star r) d' = absurd (no_star ps d r)

module _ (S : Type 0) (Next : S → Token → S → Type 0) (behind : S → Token) (det : IsDetermined S Next behind) (alike : IsAlike S Next behind) {h : ℕ} (u : Unique S Next behind det h) (parameters : UniqueParts S Next behind det h parameter_list) where
  -- what stands behind `function` is the only thing there
  pub rests_same : {b c : Bool} {o o' : ℕ} {ps ps' : Parts} {s e e' : S} {P P' : List Pair} → parts_height ps ≤ h → FunctionRest S Next behind det b o ps s e P → FunctionRest S Next behind det c o' ps' s e' P' → (c ≡ b) × (e' ≡ e) × (ps' ≡ ps) × (P' ≡ P)
  rests_same {o' = o'} {ps' = ps'} {e' = e'} {P' = P'} low v w =
      let star = stars_same S Next behind det v.starred v.runs w.starred w.runs in
      let all = function_name_unique S Next behind det alike u parameters in
      let same = (all.gives low v.runs).only o' e' ps' P' (subst (λ k. Runs ways S Next behind o' (function_name ps') ps' k e' P') star.1 w.runs) in
      (star.0, same.0, same.1, same.2)

  -- and so is a function, whatever its form
  pub functions_same : {x y : Form} {o o' : ℕ} {ps ps' : Parts} {s e e' : S} {P P' : List Pair} → parts_height ps ≤ h → FunctionWords S Next behind det x o ps s e P → FunctionWords S Next behind det y o' ps' s e' P' → (y ≡ x) × (e' ≡ e) × (ps' ≡ ps) × (P' ≡ P)
  functions_same {o' = o'} {ps' = ps'} {e' = e'} {P' = P'} low v w =
      let word = words_same S Next behind det v.word v.reads w.word w.reads in
      let there = (names_same S Next behind det (subst (λ k. Reads S Next behind IdentifierName (codes "function") k w.sign w.mid) word.1 w.reads) v.reads).1 in
      let same = rests_same low v.rest (subst (λ k. FunctionRest S Next behind det w.star o' ps' k e' P') there w.rest) in
      (w.form ∙ ap (λ b. form_of b w.star) word.0 ∙ ap (form_of v.is_async) same.0 ∙ sym v.form, same.1, same.2, same.3)

  -- as the parts of an expression
  pub function_found : (o : ℕ) (g : Flags) (ps : Parts) {s : S} (e : S) (P : List Pair) → parts_height ps ≤ h → Runs ways S Next behind o (function_parts g.form ps) ps s e P → FoundFormed S Next behind det o (λ g. g.form) function_parts s e g.form ps P
  function_found o g ps e P low d = record {
    flags = g;
    is = refl;
    runs = d;
    only = λ o' e' g' ps' P' d'. let same = functions_same low (function_words S Next behind det g.form d) (function_words S Next behind det g'.form d') in (same.1, same.2, same.3, same.0);
  }
