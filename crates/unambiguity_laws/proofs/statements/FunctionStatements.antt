-- Declarations of functions, of each form, are the only ones at their place.
use Rattle.std.proofs.Common.{◌≡◌, ℕ, suc, ◌≤◌, Bool, true, false, List, [], refl, sym, ap, ◌∙◌, subst, arith}
use Rattle.std.specs.Prelude.{codes}
use Rattle.tokens.specs.declared.token.TokenClass.TheVariants.{IdentifierName}
use Rattle.tree.specs.declared.kind.Kind.{Kind}
use Rattle.tree.specs.declared.kind.Kind.TheVariants.{FunctionDeclaration}
use Rattle.tree.specs.declared.kind.Form.{Form}
use Rattle.tree.specs.declared.kind.Form.TheVariants.{Async, AsyncGenerator}
use Rattle.tree.specs.declared.kind.Pair.{Pair}
use Rattle.tree.specs.Tree.{Tree, node, Parts, none, part, gap, height, parts_height, bare_parts, plain}
use Rattle.tree.specs.Uses.{is_async}
use Rattle.language.specs.declared.Rank.TheVariants.{Expression}
use Rattle.language.specs.declared.Start.TheVariants.{Any}
use Rattle.language.specs.Pieces.{Role}
use Rattle.language.specs.Token.{Token}
use Rattle.language.specs.StatementStart.{StatementStart, a_function, an_expression}
use Rattle.language.specs.Promises.{IsDetermined}
use Rattle.language.specs.Following.{IsAlike}
use Rattle.language.specs.Grammar.{ways}
use Rattle.language.specs.Derivation.{Reads, Runs, Placed}
use Rattle.language.specs.Expressions.{function_pieces}
use Rattle.language.proofs.table.Begins.{goes_to, retell, behind_first}
use Rattle.language.proofs.climbing.BinaryTurns.{same_node}
use Rattle.language.proofs.list_loops.FirstPieces.{run_token, run_laid, run_unbroken, run_never}
use Rattle.language.proofs.list_loops.ParameterLists.{parameter_list}
use Rattle.language.proofs.table.StatementWays.{Stands, begins_as, behind_own, behind_function}
use Rattle.language.proofs.table.Beginnings.{text_as, form_flags, LaterWay, later_for, later_generator, later_async, Viewed, its_own, another, later, viewed}
use Rattle.language.proofs.table.OwnTokenWays.{statement_spans}
use Rattle.language.proofs.table.SoleWays.{same_span}
use Rattle.unambiguity_laws.proofs.Unique.{Unique, UniqueParts, StatementStep}
use Rattle.unambiguity_laws.proofs.statements.FunctionForms.{form_of, with_star, without_star, FunctionRest, names_same, rests_same}

function_kind : (k : Kind) → begins_as k ≡ a_function → k ≡ FunctionDeclaration
function_kind FunctionDeclaration e = refl
function_kind _ e = cc

module _ (S : Type 0) (Next : S → Token → S → Type 0) (behind : S → Token) (det : IsDetermined S Next behind) where
  -- a declaration, and what stands behind `function`
  pub record Declared (async : Bool) (a : Role) (o : ℕ) (n : Tree) (s m e : S) (P : List Pair) : Type 0 where
    pub star : Bool
    pub st : ℕ
    pub en : ℕ
    pub parts : Parts
    pub tree : n ≡ node FunctionDeclaration [] (form_flags (form_of async star)) st en parts
    pub placed : Placed S Next behind a n s e
    pub rest : FunctionRest S Next behind det star o parts m e P

  -- one without `async`
  plain_function : {p r : Bool} {o : ℕ} {a : Role} {t : Token} {m : S} {n : Tree} {s e : S} {P : List Pair} {b : StatementStart} → Viewed S Next behind det p r o a t m n s e P b → b ≡ a_function → Declared false a o n s m e P
  plain_function {r = r} {o} {a} {t} {m} {n} {s} {e} {P} (its_own own u) is = of u.parts (u.tree ∙ same_node kind (ap (λ b. text_as b t.text) is) refl refl refl refl)
      (retell S Next behind (ap (λ k. goes_to Expression true Any (behind_own r k (bare_parts u.parts))) kind) u.runs)
    where
      kind : u.kind ≡ FunctionDeclaration
      kind = function_kind u.kind (u.begins ∙ is)

      of : (ps : Parts) → n ≡ node FunctionDeclaration [] plain u.st u.en ps → Runs ways S Next behind o (goes_to Expression true Any (behind_function (bare_parts ps))) ps m e P → Declared false a o n s m e P
      of none tree d = absurd (run_never S Next behind d)
      of (gap ps) tree d = absurd (run_never S Next behind d)
      of (part l ps) tree d = record { star = false; st = u.st; en = u.en; parts = part l ps; tree = tree; placed = u.placed; rest = record { place = m; starred = without_star; runs = run_laid S Next behind d } }
  plain_function (another e u) is = cc
  plain_function (later (later_for z tree pl d)) is = cc
  plain_function {m = m} (later (later_generator tree pl d)) is =
      let b = run_token S Next behind d in
      record { star = true; st = _; en = _; parts = _; tree = tree; placed = pl; rest = record { place = b.mid; starred = with_star b.reads; runs = run_laid S Next behind b.runs } }
  plain_function (later (later_async c w z tree pl d)) is = cc

  -- one with `async`, behind that word
  pub record AsyncDeclared (t : Token) (a : Role) (o : ℕ) (n : Tree) (s m e : S) (P : List Pair) : Type 0 where
    pub class : t.class ≡ IdentifierName
    pub text : t.text ≡ codes "async"
    pub sign : Token
    pub mid : S
    pub reads : Reads S Next behind IdentifierName (codes "function") m sign mid
    pub line : sign.after_break ≡ false
    pub declared : Declared true a o n s mid e P

  pub async_function : {r : Bool} {o : ℕ} {a : Role} {t : Token} {m : S} {n : Tree} {s e : S} {P : List Pair} → LaterWay S Next behind det r o a t m n s e P an_expression → AsyncDeclared t a o n s m e P
  async_function {o = o} {a} {t} {m} {n} {s} {e} {P} (later_async {z = z} {st = st} {en = en} {ps = ps} c w h tree pl d) = of z h tree d
    where
      of : (z : Form) → is_async z ≡ true → n ≡ node FunctionDeclaration [] (form_flags z) st en ps → Runs ways S Next behind o (behind_first (goes_to Expression true Any (function_pieces z (bare_parts ps)))) ps m e P → AsyncDeclared t a o n s m e P
      of Async h tree d =
          let l = run_unbroken S Next behind d in
          let f = run_token S Next behind (run_laid S Next behind l.runs) in
          record {
            class = c;
            text = w;
            sign = f.sign;
            mid = f.mid;
            reads = f.reads;
            line = det.break m f.sign l.sign f.mid l.mid f.reads.next l.next ∙ l.unbroken;
            declared = record { star = false; st = st; en = en; parts = ps; tree = tree; placed = pl; rest = record { place = f.mid; starred = without_star; runs = run_laid S Next behind f.runs } };
          }
      of AsyncGenerator h tree d =
          let l = run_unbroken S Next behind d in
          let f = run_token S Next behind (run_laid S Next behind l.runs) in
          let b = run_token S Next behind f.runs in
          record {
            class = c;
            text = w;
            sign = f.sign;
            mid = f.mid;
            reads = f.reads;
            line = det.break m f.sign l.sign f.mid l.mid f.reads.next l.next ∙ l.unbroken;
            declared = record { star = true; st = st; en = en; parts = ps; tree = tree; placed = pl; rest = record { place = b.mid; starred = with_star b.reads; runs = run_laid S Next behind b.runs } };
          }
      of _ h tree d = cc

module _ (S : Type 0) (Next : S → Token → S → Type 0) (behind : S → Token) (det : IsDetermined S Next behind) (alike : IsAlike S Next behind) {h : ℕ} (u : Unique S Next behind det h) (parameters : UniqueParts S Next behind det h parameter_list) where
  declared_same : {p d r async : Bool} {a : Role} {o o' : ℕ} {n n' : Tree} {s m e e' : S} {P P' : List Pair} → Stands a p d r → height n ≤ suc h → Declared S Next behind det async a o n s m e P → Declared S Next behind det async a o' n' s m e' P' → (e' ≡ e) × (n' ≡ n) × (P' ≡ P)
  declared_same {async = async} {a} {n = n} {n'} {s} {e = e} {e'} stands low v w =
      let high : height n ≡ suc (parts_height v.parts) = ap height v.tree in
      let same = rests_same S Next behind det alike u parameters (omega arith) v.rest w.rest in
      let span = same_span S Next behind det (statement_spans stands) (subst (λ c. Placed S Next behind a c s e') w.tree w.placed) (subst (λ c. Placed S Next behind a c s e) v.tree v.placed) same.1 in
      (same.1, w.tree ∙ same_node refl refl (ap (λ b. form_flags (form_of async b)) same.0) span.0 span.1 same.2 ∙ sym v.tree, same.3)

  -- so are two with `async`
  pub async_same : {p d r : Bool} {t : Token} {a : Role} {o o' : ℕ} {n n' : Tree} {s m e e' : S} {P P' : List Pair} → Stands a p d r → height n ≤ suc h → AsyncDeclared S Next behind det t a o n s m e P → AsyncDeclared S Next behind det t a o' n' s m e' P' → (e' ≡ e) × (n' ≡ n) × (P' ≡ P)
  async_same {a = a} {o' = o'} {n' = n'} {s} {e' = e'} {P' = P'} stands low v w =
      let there = (names_same S Next behind det w.reads v.reads).1 in
      declared_same stands low v.declared (subst (λ k. Declared S Next behind det true a o' n' s k e' P') there w.declared)

  -- a function declaration
  pub function_statement : StatementStep S Next behind det h a_function
  function_statement = record {
    gives = λ {a} {p} {d} {r} {o} {n} {s} {m} {e} {P} {t} stands low sp fine read begun.
        record {
          spelled = sp;
          only = λ o' e' n' P' sp' fine'. declared_same stands low (plain_function S Next behind det (viewed S Next behind det stands read sp) begun) (plain_function S Next behind det (viewed S Next behind det stands read sp') begun);
        };
  }
