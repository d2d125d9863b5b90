-- Statements that begin with an expression: labels, expressions, directives, and in a prologue a group with a string alone.
use Rattle.std.proofs.Common.{◌≡◌, ℕ, suc, ◌≤◌, Bool, true, false, List, [], ◌∷◌, ◌++◌, refl, sym, ap, ◌∙◌, subst, arith}
use Rattle.std.specs.Prelude.{IsTrue, codes}
use Rattle.std.proofs.lemmas.Bool.{and_parts, false≢true}
use Rattle.std.proofs.lemmas.List.{append-nil}
use Rattle.tokens.specs.declared.token.TokenClass.{TokenClass}
use Rattle.tokens.specs.declared.token.TokenClass.TheVariants.{IdentifierName, Punctuator, StringLiteral}
use Rattle.tokens.specs.declared.token.Goal.{Goal}
use Rattle.tokens.specs.declared.token.Goal.TheVariants.{Div}
use Rattle.tokens.specs.Goals.{allows}
use Rattle.tree.specs.declared.kind.Kind.TheVariants.{ExpressionStatement, LabeledStatement}
use Rattle.tree.specs.declared.kind.Pair.{Pair}
use Rattle.tree.specs.Tree.{Tree, node, Parts, none, part, kind_of, text_of, bare, bare_parts, plain, height}
use Rattle.language.specs.declared.Rank.TheVariants.{Expression, Grouped}
use Rattle.language.specs.declared.Start.TheVariants.{Any, Statement}
use Rattle.language.specs.declared.Edge.TheVariants.{Other}
use Rattle.language.specs.Vocabulary.{is, precedence}
use Rattle.language.specs.Edges.{edge, last_edge, ends_in_if}
use Rattle.language.specs.Pieces.{Role, expr, name, directive_string, statement, opening, tok, ending, sub, lay, space, Ending}
use Rattle.language.specs.Statements.{first_is_string, is_string_literal}
use Rattle.language.specs.Token.{Token}
use Rattle.language.specs.StatementStart.{StatementStart, an_expression, statement_start, is_own}
use Rattle.language.specs.Promises.{is_free, IsDetermined, ReadBy, Found, FoundAt}
use Rattle.language.specs.Following.{IsAlike, Followed, Finished, may_follow, FoundWhere}
use Rattle.language.specs.Grammar.{ways, spellings}
use Rattle.language.specs.Derivation.{Reads, Spells, direct, grouped, Runs, Step, explicit, implicit, Placed}
use Rattle.language.proofs.table.ViewIsComplete.{way_of, made}
use Rattle.language.proofs.list_loops.FirstPieces.{run_none, run_token, run_laid, run_part}
use Rattle.language.proofs.climbing.Leaves.{by_name, name_form, name_found}
use Rattle.language.proofs.covers.CoverReadings.{name_or_sign}
use Rattle.language.proofs.table.BareEdges.{edge_bare}
use Rattle.language.proofs.table.StatementWays.{Stands, as_statement, as_item, as_opening}
use Rattle.language.proofs.table.Beginnings.{directive_flags, made_rank, too_tight, OtherWay, a_label, evaluated, a_directive, a_group, LaterWay, Viewed, its_own, another, later, viewed}
use Rattle.language.proofs.statements.StatementFollow.{idle_stops, end_stops}
use Rattle.language.proofs.list_loops.PiecesSoFar.{run_end}
use Rattle.language.proofs.climbing.AsExpressions.{name_expression, quoted_form, quoted_expression, group_expression}
use Rattle.language.proofs.statements.ExpressionStatements.{expression_found, directive_found, string_group_found, label_found}
use Rattle.language.proofs.list_loops.ParameterLists.{parameter_list}
use Rattle.unambiguity_laws.proofs.Unique.{Unique, UniqueParts, StatementStep}
use Rattle.unambiguity_laws.proofs.statements.StatementEnds.{end_behind, end_once}
use Rattle.unambiguity_laws.proofs.statements.AsyncStatements.{async_apart}
use Rattle.unambiguity_laws.proofs.statements.FunctionStatements.{AsyncDeclared, async_function, async_same}

-- a token of this class and text
abbrev token_as : TokenClass → List ℕ → Token
token_as c w = record { class = c; text = w; start = 0; stop = 0; after_break = false }

string_bare : (n : Tree) → is_string_literal (kind_of (bare n)) (text_of (bare n)) ≡ is_string_literal (kind_of n) (text_of n)
string_bare (node k w g s e ps) = refl

module _ (S : Type 0) (Next : S → Token → S → Type 0) (behind : S → Token) (det : IsDetermined S Next behind) where
  -- no statement ends before a `:`
  no_end : {b : Bool} {e k e' : S} {v : Token} (y : Ending) → Reads S Next behind Punctuator (codes ":") e v k → Step S Next behind (ending y) e e' → Followed S Next behind b e' → ⊥
  no_end {e = e} {k = k} {v = v} y h (explicit {t = t} {e = m} r) f =
      let al : IsTrue (allows Div v.class v.text) = subst (λ x. IsTrue (allows Div x v.text)) (sym h.class) (subst (λ x. IsTrue (allows Div Punctuator x)) (sym h.text) refl) in
      let al' : IsTrue (allows Div t.class t.text) = subst (λ x. IsTrue (allows Div x t.text)) (sym r.class) (subst (λ x. IsTrue (allows Div Punctuator x)) (sym r.text) refl) in
      let same = det.same Div e v t k m h.next r.next al al' in
      false≢true (ap (λ w. is w ";") (sym h.text ∙ ap (λ (x : Token). x.text) same.0 ∙ r.text))
  no_end {b} {e} {k} {v = v} y h (implicit {t = t} nx may) f =
      let al : IsTrue (allows Goal.RegExp v.class v.text) = subst (λ x. IsTrue (allows Goal.RegExp x v.text)) (sym h.class) (subst (λ x. IsTrue (allows Goal.RegExp Punctuator x)) (sym h.text) refl) in
      let same = det.same Goal.RegExp e v f.token k f.mid h.next f.read.next al f.read.allowed in
      false≢true (sym (ap (λ c. may_follow b (token_as c v.text)) h.class ∙ ap (λ w. may_follow b (token_as Punctuator w)) h.text) ∙ ap (may_follow b) same.0 ∙ f.follows)

  -- an expression, or what is one, and the end behind it
  record Ends (o : ℕ) (a : Role) (y : Ending) (ps : Parts) (s e : S) (P : List Pair) : Type 0 where
    item : Tree
    mid : S
    parts : ps ≡ part item none
    spelled : Spells ways S Next behind o a item s mid P
    ends : Step S Next behind (ending y) mid e

  ends_of : {o : ℕ} {a : Role} {y : Ending} {ps : Parts} {s e : S} {P : List Pair} → Runs ways S Next behind o (sub a ∷ ending y ∷ []) ps s e P → Ends o a y ps s e P
  ends_of {o} {a} {s = s} d =
      let u = run_part S Next behind d in
      let z = run_end S Next behind det u.runs in
      record {
        item = u.item;
        mid = u.mid;
        parts = u.parts ∙ ap (part u.item) z.parts;
        spelled = subst (λ v. Spells ways S Next behind o a u.item s u.mid v) (sym (u.pairs ∙ ap (λ v. u.one ++ v) z.pairs ∙ append-nil u.one)) u.spelled;
        ends = z.ends;
      }

  -- the first token of a string by itself, and of one in a group
  pub string_opens : {o : ℕ} {x : Tree} {s e m : S} {P : List Pair} {t : Token} → Spells ways S Next behind o directive_string x s e P → ReadBy S Next behind Goal.RegExp s t m → t.class ≡ StringLiteral
  string_opens {s = s} {e = e} {m = m} {t = t} d read = let q = quoted_form S Next behind det d in
      ap (λ (v : Token). v.class) (det.same Goal.RegExp s t q.sign m e read.next q.reads.next read.allowed (det.free Goal.RegExp s q.sign e q.reads.next (ap is_free q.reads.class))).0 ∙ q.reads.class

  pub group_opens : {o : ℕ} {x : Tree} {s e m : S} {P : List Pair} {t : Token} → Spells ways S Next behind o (expr Grouped true Any) x s e P → ReadBy S Next behind Goal.RegExp s t m → t.class ≡ Punctuator
  unfolding spellings
  group_opens {s = s} {m = m} {t = t} (grouped {left = u} {m = k} p d q) read =
      let al : IsTrue (allows Goal.RegExp u.class u.text) = subst (λ c. IsTrue (allows Goal.RegExp c u.text)) (sym p.class) (subst (λ z. IsTrue (allows Goal.RegExp Punctuator z)) (sym p.text) refl) in
      ap (λ (v : Token). v.class) (det.same Goal.RegExp s t u m k read.next p.next read.allowed al).0 ∙ p.class
  group_opens {x = node k w g st en ps} (direct qs h pl d) read = let v = way_of h in absurd (too_tight (precedence v.spelling.rank) (made_rank (made k v.listed)) (and_parts _ _ (and_parts _ _ v.fit).0).0)

module _ (S : Type 0) (Next : S → Token → S → Type 0) (behind : S → Token) (det : IsDetermined S Next behind) (alike : IsAlike S Next behind) {h : ℕ} (u : Unique S Next behind det h) where
  -- the expression that ends where the statement does
  ended_found : {b : Bool} {o : ℕ} {x : Tree} {s mid e : S} {P : List Pair} → height x ≤ h → Spells ways S Next behind o (expr Expression true Statement) x s mid P → Step S Next behind (end_behind (edge x)) mid e → Followed S Next behind b e →
      Found S Next behind o Expression true Statement s mid x P
  ended_found {x = x} low d end fine = u.expressions.found low (λ c. cc) (λ c. cc) d (end_stops S Next behind det alike Expression true x end fine)

  -- the edge of the one part
  edge_end : {ps : Parts} {x : Tree} {mid e : S} → ps ≡ part x none → Step S Next behind (end_behind (last_edge (bare_parts ps))) mid e → Step S Next behind (end_behind (edge x)) mid e
  edge_end {x = x} {mid} {e} parts p = subst (λ v. Step S Next behind (end_behind v) mid e) (ap (λ v. last_edge (bare_parts v)) parts ∙ edge_bare x) p

  -- another statement doesn't begin with `async` and `function` on one line
  other_apart : {p r : Bool} {a : Role} {o : ℕ} {n : Tree} {s m k e : S} {P : List Pair} {t v : Token} → OtherWay S Next behind det p r o a n s e P → Finished S Next behind n e → ReadBy S Next behind Goal.RegExp s t m → t.class ≡ IdentifierName → t.text ≡ codes "async" →
      Reads S Next behind IdentifierName (codes "function") m v k → v.after_break ≡ false → ⊥
  other_apart {k = k} {v = v} (a_label tree pl d) fine read class text word line =
      let a = run_part S Next behind d in
      let c = run_token S Next behind a.runs in
      let w = (name_form S Next behind det a.spelled).0 in
      let there = (by_name S Next behind det read w.sign a.mid w.reads).1 in
      name_or_sign S Next behind det refl (subst (λ x. Reads S Next behind IdentifierName (codes "function") x v k) (sym there) word) c.reads
  other_apart (evaluated tree pl plainly d) fine read class text word line =
      let w = ends_of S Next behind det d in
      async_apart S Next behind det read class text word line w.spelled (end_stops S Next behind det alike Expression true w.item (edge_end w.parts w.ends) fine)
  other_apart {t = t} (a_directive first tree pl lit d) fine read class text word line =
      let clash : IdentifierName ≡ StringLiteral = sym class ∙ string_opens S Next behind det (ends_of S Next behind det d).spelled read in
      cc
  other_apart {t = t} (a_group first tree pl lit d) fine read class text word line =
      let clash : IdentifierName ≡ Punctuator = sym class ∙ group_opens S Next behind det (ends_of S Next behind det d).spelled read in
      cc

  first_string : {b : Bool} {ps : Parts} {x : Tree} → ps ≡ part x none → first_is_string (bare_parts ps) ≡ b → is_string_literal (kind_of x) (text_of x) ≡ b
  first_string {x = x} parts q = sym (string_bare x) ∙ sym (ap (λ v. first_is_string (bare_parts v)) parts) ∙ q

  module _ {p d r : Bool} {a : Role} {o : ℕ} {n : Tree} {s m e : S} {P : List Pair} {t : Token} (stands : Stands a p d r) (low : height n ≤ suc h) (fine : Finished S Next behind n e) (read : ReadBy S Next behind Goal.RegExp s t m)
      (begun : statement_start d r t ≡ an_expression) (no_later : (o : ℕ) (n : Tree) (e : S) (P : List Pair) → LaterWay S Next behind det r o a t m n s e P an_expression → ⊥) where
    by_label : {st en : ℕ} {ps : Parts} → n ≡ node LabeledStatement [] plain st en ps → Placed S Next behind a n s e → Runs ways S Next behind o (sub name ∷ tok Punctuator (codes ":") ∷ lay space ∷ sub (statement r) ∷ []) ps s e P →
        FoundWhere S Next behind (Finished S Next behind) o a s e n P
    by_label {st} {en} {ps} tree pl d1 =
        let v = run_part S Next behind d1 in
        let c = run_token S Next behind v.runs in
        let w = run_part S Next behind (run_laid S Next behind c.runs) in
        let z = run_none S Next behind w.runs in
        let l = v.item in
        let parts : ps ≡ part l (part w.item none) = v.parts ∙ ap (part l) (w.parts ∙ ap (part w.item) z.parts) in
        let is : n ≡ node LabeledStatement [] plain st en (part l (part w.item none)) = tree ∙ ap (node LabeledStatement [] plain st en) parts in
        let tall : height n ≡ height (node LabeledStatement [] plain st en (part l (part w.item none))) = ap height is in
        let low1 : height l ≤ h = omega arith in
        let low2 : height w.item ≤ h = omega arith in
        let form = name_form S Next behind det v.spelled in
        let pairs : P ≡ w.one = v.pairs ∙ ap (λ y. y ++ v.more) form.0.pairs ∙ w.pairs ∙ ap (λ y. w.one ++ y) z.pairs ∙ append-nil w.one in
        let label : FoundAt S Next behind o name s v.mid l [] = subst (λ y. FoundAt S Next behind o name s v.mid y []) (sym form.0.tree) (name_found S Next behind det form.0.reads form.1) in
        let found = u.expressions.found low1 (λ q. cc) (λ q. cc) (name_expression S Next behind det v.spelled) (idle_stops S Next behind det Expression true l refl (λ y b. refl) c.reads) in
        let inner_fine : Finished S Next behind w.item e = subst (λ y. Followed S Next behind (ends_in_if y) e) is fine in
        let spelled : Spells ways S Next behind o (statement r) w.item c.mid e w.one = subst (λ y. Spells ways S Next behind o (statement r) w.item c.mid y w.one) z.place w.spelled in
        let inner = u.statement as_statement low2 spelled inner_fine in
        subst (λ y. FoundWhere S Next behind (Finished S Next behind) o a s e y P) (sym is)
        (subst (λ y. FoundWhere S Next behind (Finished S Next behind) o a s e (node LabeledStatement [] plain st en (part l (part w.item none))) y) (sym pairs)
        (label_found S Next behind det alike stands read begun label found c.reads inner (subst (λ y. Placed S Next behind a y s e) is pl)))

    by_expression : {st en : ℕ} {ps : Parts} → n ≡ node ExpressionStatement [] plain st en ps → Placed S Next behind a n s e → (p ≡ true → first_is_string (bare_parts ps) ≡ false) →
        Runs ways S Next behind o (sub (expr Expression true Statement) ∷ end_behind (last_edge (bare_parts ps)) ∷ []) ps s e P → FoundWhere S Next behind (Finished S Next behind) o a s e n P
    by_expression {st} {en} {ps} tree pl plainly d1 =
        let v = ends_of S Next behind det d1 in
        let x = v.item in
        let is : n ≡ node ExpressionStatement [] plain st en (part x none) = tree ∙ ap (node ExpressionStatement [] plain st en) v.parts in
        let tall : height n ≡ height (node ExpressionStatement [] plain st en (part x none)) = ap height is in
        let low1 : height x ≤ h = omega arith in
        let end = edge_end v.parts v.ends in
        subst (λ w. FoundWhere S Next behind (Finished S Next behind) o a s e w P) (sym is)
        (expression_found S Next behind det alike stands read begun no_later (ended_found low1 v.spelled end fine) (λ o' n' P' w k l c. no_end S Next behind det (Rattle.language.specs.Pieces.behind (edge x)) c end fine)
        (λ q. first_string v.parts (plainly q)) end (λ e' p'. end_once S Next behind det end p') (subst (λ w. Placed S Next behind a w s e) is pl))

  module _ {r : Bool} {o : ℕ} {n : Tree} {s m e : S} {P : List Pair} {t : Token} (low : height n ≤ suc h) (fine : Finished S Next behind n e) (read : ReadBy S Next behind Goal.RegExp s t m) (begun : statement_start true r t ≡ an_expression) where
    by_directive : {st en : ℕ} {ps : Parts} → n ≡ node ExpressionStatement [] directive_flags st en ps → Placed S Next behind (opening r) n s e → first_is_string (bare_parts ps) ≡ true → Runs ways S Next behind o (sub directive_string ∷ end_behind Other ∷ []) ps s e P →
        FoundWhere S Next behind (Finished S Next behind) o (opening r) s e n P
    by_directive {st} {en} {ps} tree pl lit d1 =
        let v = ends_of S Next behind det d1 in
        let x = v.item in
        let is : n ≡ node ExpressionStatement [] directive_flags st en (part x none) = tree ∙ ap (node ExpressionStatement [] directive_flags st en) v.parts in
        let tall : height n ≡ height (node ExpressionStatement [] directive_flags st en (part x none)) = ap height is in
        let low1 : height x ≤ h = omega arith in
        let q = quoted_form S Next behind det v.spelled in
        let other : Other ≡ edge x = sym (ap edge q.tree) in
        let end : Step S Next behind (end_behind (edge x)) v.mid e = subst (λ w. Step S Next behind (end_behind w) v.mid e) other v.ends in
        subst (λ w. FoundWhere S Next behind (Finished S Next behind) o (opening r) s e w P) (sym is)
        (directive_found S Next behind det alike read begun (ended_found low1 (quoted_expression S Next behind det v.spelled) end fine) (first_string v.parts lit) (string_opens S Next behind det v.spelled read) v.ends
        (λ e' p'. end_once S Next behind det v.ends p') (subst (λ w. Placed S Next behind (opening r) w s e) is pl))

    by_group : {st en : ℕ} {ps : Parts} → n ≡ node ExpressionStatement [] plain st en ps → Placed S Next behind (opening r) n s e → first_is_string (bare_parts ps) ≡ true →
        Runs ways S Next behind o (sub (expr Grouped true Any) ∷ end_behind (last_edge (bare_parts ps)) ∷ []) ps s e P → FoundWhere S Next behind (Finished S Next behind) o (opening r) s e n P
    by_group {st} {en} {ps} tree pl lit d1 =
        let v = ends_of S Next behind det d1 in
        let x = v.item in
        let is : n ≡ node ExpressionStatement [] plain st en (part x none) = tree ∙ ap (node ExpressionStatement [] plain st en) v.parts in
        let tall : height n ≡ height (node ExpressionStatement [] plain st en (part x none)) = ap height is in
        let low1 : height x ≤ h = omega arith in
        let end = edge_end v.parts v.ends in
        subst (λ w. FoundWhere S Next behind (Finished S Next behind) o (opening r) s e w P) (sym is)
        (string_group_found S Next behind det alike read begun (ended_found low1 (group_expression S Next behind det v.spelled) end fine) (first_string v.parts lit) (group_opens S Next behind det v.spelled read) end
        (λ e' p'. end_once S Next behind det end p') (subst (λ w. Placed S Next behind (opening r) w s e) is pl))

  by_kind : {a : Role} {p d r : Bool} {o : ℕ} {n : Tree} {s m e : S} {P : List Pair} {t : Token} → Stands a p d r → height n ≤ suc h → Finished S Next behind n e → ReadBy S Next behind Goal.RegExp s t m → statement_start d r t ≡ an_expression →
      ((o : ℕ) (n : Tree) (e : S) (P : List Pair) → LaterWay S Next behind det r o a t m n s e P an_expression → ⊥) → OtherWay S Next behind det p r o a n s e P → FoundWhere S Next behind (Finished S Next behind) o a s e n P
  by_kind st low fine read begun no_later (a_label tree pl d1) = by_label st low fine read begun no_later tree pl d1
  by_kind st low fine read begun no_later (evaluated tree pl plainly d1) = by_expression st low fine read begun no_later tree pl plainly d1
  by_kind as_opening low fine read begun no_later (a_directive first tree pl lit d1) = by_directive low fine read begun tree pl lit d1
  by_kind as_statement low fine read begun no_later (a_directive first tree pl lit d1) = absurd (false≢true first)
  by_kind as_item low fine read begun no_later (a_directive first tree pl lit d1) = absurd (false≢true first)
  by_kind as_opening low fine read begun no_later (a_group first tree pl lit d1) = by_group low fine read begun tree pl lit d1
  by_kind as_statement low fine read begun no_later (a_group first tree pl lit d1) = absurd (false≢true first)
  by_kind as_item low fine read begun no_later (a_group first tree pl lit d1) = absurd (false≢true first)

  -- a label, an expression, a directive, or an async function
  pub expression_statement : UniqueParts S Next behind det h parameter_list → StatementStep S Next behind det h an_expression
  expression_statement parameters = record { gives = λ {a} {p} {d} {r} {o} {n} {s} {m} {e} {P} {t} stands low d1 fine read begun. of stands low fine read begun d1 (viewed S Next behind det stands read d1) begun }
    where
      of : {a : Role} {p d r : Bool} {o : ℕ} {n : Tree} {s m e : S} {P : List Pair} {t : Token} {b : StatementStart} → Stands a p d r → height n ≤ suc h → Finished S Next behind n e → ReadBy S Next behind Goal.RegExp s t m → statement_start d r t ≡ an_expression →
          Spells ways S Next behind o a n s e P → Viewed S Next behind det p r o a t m n s e P b → b ≡ an_expression → FoundWhere S Next behind (Finished S Next behind) o a s e n P
      of st low fine read begun d1 (its_own own w) is = absurd (false≢true (sym (ap is_own is) ∙ own))
      of st low fine read begun d1 (another k w) is = by_kind st low fine read begun (λ o n e P l. (let x = async_function S Next behind det l in other_apart w fine read x.class x.text x.reads x.line)) w
      of {a} {p} {d} {r} {o} {n} {s} {m} {e} {P} {t} st low fine read begun d1 (later w) is = record { spelled = d1; only = λ o' e' n' P' d' fine'. same (viewed S Next behind det st read d') begun fine' }
        where
          first : AsyncDeclared S Next behind det t a o n s m e P
          first = async_function S Next behind det (subst (λ c. LaterWay S Next behind det r o a t m n s e P c) is w)

          same : {o' : ℕ} {n' : Tree} {e' : S} {P' : List Pair} {b' : StatementStart} → Viewed S Next behind det p r o' a t m n' s e' P' b' → b' ≡ an_expression → Finished S Next behind n' e' → (e' ≡ e) × (n' ≡ n) × (P' ≡ P)
          same (its_own own w') is' fine' = absurd (false≢true (sym (ap is_own is') ∙ own))
          same (another k w') is' fine' = absurd (other_apart w' fine' read first.class first.text first.reads first.line)
          same {o'} {n'} {e'} {P'} (later w') is' fine' = async_same S Next behind det alike u parameters st low first (async_function S Next behind det (subst (λ c. LaterWay S Next behind det r o' a t m n' s e' P' c) is' w'))
