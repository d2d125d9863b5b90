-- Statements that begin with an expression: from the expression that is found to the statement, where what may follow follows.
use Rattle.std.proofs.Common.{◌≡◌, ℕ, Bool, true, false, List, [], ◌∷◌, ◌++◌, refl, sym, ap, ◌∙◌, subst}
use Rattle.std.specs.Prelude.{IsTrue, codes}
use Rattle.std.proofs.lemmas.Bool.{and_parts, false≢true}
use Rattle.std.proofs.lemmas.List.{append-nil}
use Rattle.tokens.specs.declared.token.TokenClass.{TokenClass}
use Rattle.tokens.specs.declared.token.TokenClass.TheVariants.{Punctuator, StringLiteral, IdentifierName}
use Rattle.tokens.specs.declared.token.Goal.{Goal}
use Rattle.tokens.specs.declared.token.Goal.TheVariants.{Div}
use Rattle.tokens.specs.Goals.{allows}
use Rattle.tree.specs.declared.kind.Kind.TheVariants.{Literal, ExpressionStatement, LabeledStatement}
use Rattle.tree.specs.declared.kind.Flags.{Flags}
use Rattle.tree.specs.declared.kind.Pair.{Pair}
use Rattle.tree.specs.Tree.{Tree, node, Parts, none, part, kind_of, text_of, bare, bare_parts, plain}
use Rattle.tree.specs.Uses.{is_lean}
use Rattle.language.specs.declared.Rank.TheVariants.{Expression, Grouped, Primary}
use Rattle.language.specs.declared.Start.TheVariants.{Any, Statement}
use Rattle.language.specs.declared.Edge.{Edge}
use Rattle.language.specs.declared.Edge.TheVariants.{Other}
use Rattle.language.specs.Vocabulary.{is, precedence, literal_class, is_string}
use Rattle.language.specs.Edges.{edge, last_edge, ends_in_if}
use Rattle.language.specs.Pieces.{Role, expr, name, directive_string, statement, opening, PieceOf, tok, ending, sub, lay, space, at, put, sign, sp, Spelling, Ending}
use Rattle.language.specs.Statements.{first_is_string, is_string_literal, end_of}
use Rattle.language.specs.Token.{Token}
use Rattle.language.specs.StatementStart.{an_expression, statement_start}
use Rattle.language.specs.Promises.{is_free, IsDetermined, ReadBy, Stops, Found, FoundAt}
use Rattle.language.specs.Following.{IsAlike, Followed, Finished, may_follow, FoundWhere}
use Rattle.language.specs.Grammar.{ways, spellings}
use Rattle.language.specs.Derivation.{first, Reads, Spells, direct, grouped, Runs, done, step, within, Step, token, laid, explicit, implicit, Placed, placed}
use Rattle.language.specs.Chosen as chosen
use Rattle.language.specs.Chosen.{Chosen}
use Rattle.language.specs.Forms.{Production, form, spelling_of}
use Rattle.language.proofs.lower_bound.Domination.{settled}
use Rattle.language.proofs.table.ViewIsComplete.{way_of, made}
use Rattle.language.proofs.table.Productions.{way_from, in_true}
use Rattle.language.proofs.table.Begins.{retell}
use Rattle.language.proofs.list_loops.FirstPieces.{run_none, run_token, run_laid, run_part}
use Rattle.language.proofs.climbing.BinaryTurns.{same_node}
use Rattle.language.proofs.climbing.Conditionals.{same_sign, stops_before}
use Rattle.language.proofs.climbing.OperatorNodes.{last_runs}
use Rattle.language.proofs.climbing.Leaves.{name_form}
use Rattle.language.proofs.table.BareEdges.{edge_bare}
use Rattle.language.proofs.table.StatementWays.{Stands, as_opening, label_listed, expression_listed, directive_listed, group_listed}
use Rattle.language.proofs.table.Beginnings.{directive_flags, made_rank, too_tight, settled_at, OtherWay, a_label, evaluated, a_directive, a_group, other_way, LaterWay, later_async, later_next}
use Rattle.language.proofs.table.OwnTokenWays.{statement_spans, statement_fits}
use Rattle.language.proofs.table.SoleWays.{same_span}
use Rattle.language.proofs.list_loops.PiecesSoFar.{run_end}
use Rattle.language.proofs.climbing.AsExpressions.{text_class, name_expression, quoted_form, quoted_expression, group_expression}
use Rattle.language.proofs.statements.StatementFollow.{end_stops}
use Rattle.language.proofs.climbing.AsyncNames.{no_async_function}
use Rattle.language.proofs.covers.CoverReadings.{name_or_sign}

-- a token of this class and text
abbrev colon : TokenClass → List ℕ → Token
colon c w = record { class = c; text = w; start = 0; stop = 0; after_break = false }

-- the end of a statement behind an expression
abbrev end_behind : Edge → PieceOf Role
end_behind x = ending (Rattle.language.specs.Pieces.behind x)

string_bare : (n : Tree) → is_string_literal (kind_of (bare n)) (text_of (bare n)) ≡ is_string_literal (kind_of n) (text_of n)
string_bare (node k w g s e ps) = refl

module _ (S : Type 0) (Next : S → Token → S → Type 0) (behind : S → Token) (det : IsDetermined S Next behind) (alike : IsAlike S Next behind) where
  -- where `:` is read nothing goes on
  colon_stops : {e k : S} {v : Token} (n : Tree) → Reads S Next behind Punctuator (codes ":") e v k → Stops S Next behind Expression true n e
  colon_stops n h = stops_before S Next behind det Expression true n h refl refl (λ c u. refl)

  -- nor does a statement end before one that isn't at the end of a list
  no_end : {b : Bool} {e k e' : S} {v : Token} (y : Ending) → Reads S Next behind Punctuator (codes ":") e v k → Step S Next behind (ending y) e e' → Followed S Next behind b e' → ⊥
  no_end {e = e} {k = k} {v = v} y h (explicit {t = t} {e = m} r) f =
      let al : IsTrue (allows Div v.class v.text) = subst (λ x. IsTrue (allows Div x v.text)) (sym h.class) (subst (λ x. IsTrue (allows Div Punctuator x)) (sym h.text) refl) in
      let al' : IsTrue (allows Div t.class t.text) = subst (λ x. IsTrue (allows Div x t.text)) (sym r.class) (subst (λ x. IsTrue (allows Div Punctuator x)) (sym r.text) refl) in
      let same = det.same Div e v t k m h.next r.next al al' in
      false≢true (ap (λ w. is w ";") (sym h.text ∙ ap (λ (x : Token). x.text) same.0 ∙ r.text))
  no_end {b} {e} {k} {v = v} y h (implicit {t = t} nx may) f =
      let al : IsTrue (allows Goal.RegExp v.class v.text) = subst (λ x. IsTrue (allows Goal.RegExp x v.text)) (sym h.class) (subst (λ x. IsTrue (allows Goal.RegExp Punctuator x)) (sym h.text) refl) in
      let same = det.same Goal.RegExp e v f.token k f.mid h.next f.read.next al f.read.allowed in
      false≢true (sym (ap (λ c. may_follow b (colon c v.text)) h.class ∙ ap (λ w. may_follow b (colon Punctuator w)) h.text) ∙ ap (may_follow b) same.0 ∙ f.follows)

  -- an expression, or what is one, and the end behind it
  record Ends (o : ℕ) (a : Role) (y : Ending) (ps : Parts) (s e : S) (P : List Pair) : Type 0 where
    item : Tree
    mid : S
    parts : ps ≡ part item none
    spelled : Spells ways S Next behind o a item s mid P
    ends : Step S Next behind (ending y) mid e

  ends_of : {o : ℕ} {a : Role} {y : Ending} {ps : Parts} {s e : S} {P : List Pair} → Runs ways S Next behind o (sub a ∷ ending y ∷ []) ps s e P → Ends o a y ps s e P
  ends_of {o} {a} {s = s} d =
      let u = run_part S Next behind d in
      let z = run_end S Next behind det u.runs in
      record {
        item = u.item;
        mid = u.mid;
        parts = u.parts ∙ ap (part u.item) z.parts;
        spelled = subst (λ v. Spells ways S Next behind o a u.item s u.mid v) (sym (u.pairs ∙ ap (λ v. u.one ++ v) z.pairs ∙ append-nil u.one)) u.spelled;
        ends = z.ends;
      }

  -- what runs so, over an expression and its end
  ends_runs : {o : ℕ} {a : Role} {y : Ending} {n : Tree} {s mid e : S} {P : List Pair} → Spells ways S Next behind o a n s mid P → Step S Next behind (ending y) mid e → Runs ways S Next behind o (sub a ∷ ending y ∷ []) (part n none) s e P
  ends_runs {o} {a} {y} {n} {s} {e = e} {P = P} d p = subst (λ v. Runs ways S Next behind o (sub a ∷ ending y ∷ []) (part n none) s e v) (append-nil P) (within d (step p done))

  -- which of the three ways: an expression; in a prologue a directive, or a group with a string alone
  data Sort (p : Bool) (o : ℕ) (x : Tree) (s e : S) (P : List Pair) : Flags → Type 0 where
    as_plain : (p ≡ true → is_string_literal (kind_of x) (text_of x) ≡ false) → Sort p o x s e P plain
    as_directive : p ≡ true → is_string_literal (kind_of x) (text_of x) ≡ true → Spells ways S Next behind o directive_string x s e P → Sort p o x s e P directive_flags
    as_group : p ≡ true → is_string_literal (kind_of x) (text_of x) ≡ true → Spells ways S Next behind o (expr Grouped true Any) x s e P → Sort p o x s e P plain

  -- What spells such a statement, with what may follow: a label, or an expression that can't go on, and its end.
  data Seen (p r : Bool) (o : ℕ) (a : Role) (n : Tree) (s e : S) (P : List Pair) : Type 0 where
    seen_label : {st en : ℕ} {x : Tree} {rest : Parts} {mid next : S} {v : Token} {Q R : List Pair} → n ≡ node LabeledStatement [] plain st en (part x rest) → Placed S Next behind a n s e → Spells ways S Next behind o name x s mid Q →
        Reads S Next behind Punctuator (codes ":") mid v next → Runs ways S Next behind o (sub (statement r) ∷ []) rest next e R → P ≡ Q ++ R → Seen p r o a n s e P
    seen_expression : {st en : ℕ} {g : Flags} {x : Tree} {mid : S} → n ≡ node ExpressionStatement [] g st en (part x none) → Placed S Next behind a n s e → Spells ways S Next behind o (expr Expression true Statement) x s mid P →
        Stops S Next behind Expression true x mid → Step S Next behind (end_behind (edge x)) mid e → Sort p o x s mid P g → Seen p r o a n s e P

  seen : {p r : Bool} {o : ℕ} {a : Role} {n : Tree} {s e : S} {P : List Pair} → Finished S Next behind n e → OtherWay S Next behind det p r o a n s e P → Seen p r o a n s e P
  seen fine (a_label {st = st} {en = en} tree pl d) =
      let u = run_part S Next behind d in
      let c = run_token S Next behind u.runs in
      seen_label (tree ∙ ap (node LabeledStatement [] plain st en) u.parts) pl u.spelled c.reads (run_laid S Next behind c.runs) u.pairs
  seen {o = o} {s = s} {e = e} {P = P} fine (evaluated {st = st} {en = en} {ps = ps} tree pl single d) =
      let u = ends_of d in
      let x : last_edge (bare_parts ps) ≡ edge u.item = ap (λ v. last_edge (bare_parts v)) u.parts ∙ edge_bare u.item in
      let end : Step S Next behind (end_behind (edge u.item)) u.mid e = subst (λ v. Step S Next behind (end_behind v) u.mid e) x u.ends in
      seen_expression (tree ∙ ap (node ExpressionStatement [] plain st en) u.parts) pl u.spelled (end_stops S Next behind det alike Expression true u.item end fine) end
      (as_plain (λ h. sym (string_bare u.item) ∙ sym (ap (λ v. first_is_string (bare_parts v)) u.parts) ∙ single h))
  seen {e = e} fine (a_directive {st = st} {en = en} {ps = ps} here tree pl single d) =
      let u = ends_of d in
      let q = quoted_form S Next behind det u.spelled in
      let x : Other ≡ edge u.item = sym (ap edge q.tree) in
      let end : Step S Next behind (end_behind (edge u.item)) u.mid e = subst (λ v. Step S Next behind (end_behind v) u.mid e) x u.ends in
      seen_expression (tree ∙ ap (node ExpressionStatement [] directive_flags st en) u.parts) pl (quoted_expression S Next behind det u.spelled) (end_stops S Next behind det alike Expression true u.item end fine) end
      (as_directive here (sym (string_bare u.item) ∙ sym (ap (λ v. first_is_string (bare_parts v)) u.parts) ∙ single) u.spelled)
  seen {e = e} fine (a_group {st = st} {en = en} {ps = ps} here tree pl single d) =
      let u = ends_of d in
      let x : last_edge (bare_parts ps) ≡ edge u.item = ap (λ v. last_edge (bare_parts v)) u.parts ∙ edge_bare u.item in
      let end : Step S Next behind (end_behind (edge u.item)) u.mid e = subst (λ v. Step S Next behind (end_behind v) u.mid e) x u.ends in
      seen_expression (tree ∙ ap (node ExpressionStatement [] plain st en) u.parts) pl (group_expression S Next behind det u.spelled) (end_stops S Next behind det alike Expression true u.item end fine) end
      (as_group here (sym (string_bare u.item) ∙ sym (ap (λ v. first_is_string (bare_parts v)) u.parts) ∙ single) u.spelled)

  -- a label or an expression doesn't begin with `async` and the word `function` on its line
  pub other_no_function : {p r : Bool} {o : ℕ} {a : Role} {n : Tree} {s e m k : S} {P : List Pair} {t v : Token} → Finished S Next behind n e → OtherWay S Next behind det p r o a n s e P →
      Reads S Next behind IdentifierName (codes "async") s t m → Reads S Next behind IdentifierName (codes "function") m v k → v.after_break ≡ false → ⊥
  other_no_function {p} {r} {o} {a} {n} {s} {e} {m} {k} {P} {v = v} fine w async word line = of (seen fine w)
    where
      of : Seen p r o a n s e P → ⊥
      of (seen_label {next = next} {v = x} tree pl d sign rest pairs) =
          let same = det.same Div s _ _ _ m (name_form S Next behind det d).0.reads.next async.next (det.free Div s _ _ (name_form S Next behind det d).0.reads.next (ap is_free (name_form S Next behind det d).0.reads.class)) (det.free Div s _ m async.next (ap is_free async.class)) in
          name_or_sign S Next behind det refl word (subst (λ z. Reads S Next behind Punctuator (codes ":") z x next) same.1 sign)
      of (seen_expression tree pl d st end sort) = no_async_function S Next behind det st.apart d async word line

  module _ {p d r : Bool} {a : Role} {s m : S} {t : Token} (stands : Stands a p d r) (read : ReadBy S Next behind Goal.RegExp s t m) (begun : statement_start d r t ≡ an_expression)
      (no_later : (o : ℕ) (n : Tree) (e : S) (P : List Pair) → LaterWay S Next behind det r o a t m n s e P an_expression → ⊥) where
    look : {o : ℕ} {n : Tree} {e : S} {P : List Pair} → Spells ways S Next behind o a n s e P → Finished S Next behind n e → Seen p r o a n s e P
    look d1 fine = seen fine (other_way S Next behind det stands read begun (no_later _ _ _ _) d1)

    module _ {o : ℕ} {x : Tree} {e0 : S} {P : List Pair} (found : Found S Next behind o Expression true Statement s e0 x P)
        (no_label : (o' : ℕ) (n' : Tree) (P' : List Pair) (v : Token) (k : S) → Spells ways S Next behind o' name n' s e0 P' → Reads S Next behind Punctuator (codes ":") e0 v k → ⊥) where
      -- what such a statement is, where its expression is found and no label
      record Known (o' : ℕ) (n : Tree) (e : S) (P' : List Pair) : Type 0 where
        st : ℕ
        en : ℕ
        flags : Flags
        tree : n ≡ node ExpressionStatement [] flags st en (part x none)
        placed : Placed S Next behind a n s e
        ends : Step S Next behind (end_behind (edge x)) e0 e
        sort : Sort p o' x s e0 P' flags
        pairs : P' ≡ P

      known : {o' : ℕ} {n : Tree} {e : S} {P' : List Pair} → Seen p r o' a n s e P' → Known o' n e P'
      known {o'} (seen_label {x = y} {mid = mid} {next = k} {v = v} {Q = Q} tree pl u c d1 all) =
          let same = found.only o' mid y Q (name_expression S Next behind det u) (colon_stops y c) in
          absurd (no_label o' y Q v k (subst (λ w. Spells ways S Next behind o' name y s w Q) same.0 u) (subst (λ w. Reads S Next behind Punctuator (codes ":") w v k) same.0 c))
      known {o'} {n} {e} {P'} (seen_expression {st = st} {en = en} {g = g} {x = y} {mid = mid} tree pl u stop end sort) =
          let same = found.only o' mid y P' u stop in
          record {
            st = st;
            en = en;
            flags = g;
            tree = tree ∙ ap (λ w. node ExpressionStatement [] g st en (part w none)) same.1;
            placed = pl;
            ends = subst (λ w. Step S Next behind (end_behind (edge x)) w e) same.0 (subst (λ w. Step S Next behind (end_behind (edge w)) mid e) same.1 end);
            sort = subst (λ w. Sort p o' x s w P' g) same.0 (subst (λ w. Sort p o' w s mid P' g) same.1 sort);
            pairs = same.2;
          }

      -- with its end, where these are the flags of all such statements
      statement_found : {st en : ℕ} {e : S} (g : Flags) → ((o' : ℕ) (P' : List Pair) (g' : Flags) → Sort p o' x s e0 P' g' → g' ≡ g) → ((e' : S) → Step S Next behind (end_behind (edge x)) e0 e' → e' ≡ e) →
          Spells ways S Next behind o a (node ExpressionStatement [] g st en (part x none)) s e P → Placed S Next behind a (node ExpressionStatement [] g st en (part x none)) s e →
          FoundWhere S Next behind (Finished S Next behind) o a s e (node ExpressionStatement [] g st en (part x none)) P
      statement_found {st} {en} {e} g flags only spelled pl = record {
        spelled = spelled;
        only = λ o' e' n' P' d1 fine.
            let u = known (look d1 fine) in
            let there = only e' u.ends in
            let span = same_span S Next behind det (statement_spans stands) (subst (λ v. Placed S Next behind a v s e') u.tree u.placed) pl there in
            (there, u.tree ∙ same_node refl refl (flags o' P' u.flags u.sort) span.0 span.1 refl, u.pairs);
      }

      expression_spells : {st en : ℕ} {e : S} → (p ≡ true → is_string_literal (kind_of x) (text_of x) ≡ false) → Step S Next behind (end_behind (edge x)) e0 e → Placed S Next behind a (node ExpressionStatement [] plain st en (part x none)) s e →
          Spells ways S Next behind o a (node ExpressionStatement [] plain st en (part x none)) s e P
      expression_spells {st} {en} {e} plainly end pl =
          let w : Spelling = at Primary (put (expr Expression true Statement) ∷ end_of (last_edge (bare_parts (part x none))) ∷ []) in
          direct (settled a w) (way_from a (node ExpressionStatement [] plain st en (part x none)) w refl (expression_listed [] plain 0 0 (bare_parts (part x none)) stands refl (λ h. string_bare x ∙ plainly h)) (statement_fits stands w)) pl
          (retell S Next behind (sym (settled_at stands w)) (ends_runs found.spelled (subst (λ v. Step S Next behind (end_behind v) e0 e) (sym (edge_bare x)) end)))

      -- an expression is found as a statement, but for a string alone in a prologue
      pub expression_found : {st en : ℕ} {e : S} → (p ≡ true → is_string_literal (kind_of x) (text_of x) ≡ false) → Step S Next behind (end_behind (edge x)) e0 e → ((e' : S) → Step S Next behind (end_behind (edge x)) e0 e' → e' ≡ e) →
          Placed S Next behind a (node ExpressionStatement [] plain st en (part x none)) s e → FoundWhere S Next behind (Finished S Next behind) o a s e (node ExpressionStatement [] plain st en (part x none)) P
      expression_found plainly end only pl = statement_found plain of only (expression_spells plainly end pl) pl
        where
          of : (o' : ℕ) (P' : List Pair) (g' : Flags) → Sort p o' x s e0 P' g' → g' ≡ plain
          of o' P' g' (as_plain h) = refl
          of o' P' g' (as_directive h k u) = absurd (false≢true (sym (plainly h) ∙ k))
          of o' P' g' (as_group h k u) = refl

  -- what spells a string that the table takes for one, by its first token: the string itself, or a group
  string_opens : {o : ℕ} {x : Tree} {s e m : S} {P : List Pair} {t : Token} → Spells ways S Next behind o directive_string x s e P → ReadBy S Next behind Goal.RegExp s t m → t.class ≡ StringLiteral
  string_opens {s = s} {e = e} {m = m} {t = t} d read = let q = quoted_form S Next behind det d in
      ap (λ (v : Token). v.class) (det.same Goal.RegExp s t q.sign m e read.next q.reads.next read.allowed (det.free Goal.RegExp s q.sign e q.reads.next (ap is_free q.reads.class))).0 ∙ q.reads.class

  group_opens : {o : ℕ} {x : Tree} {s e m : S} {P : List Pair} {t : Token} → Spells ways S Next behind o (expr Grouped true Any) x s e P → ReadBy S Next behind Goal.RegExp s t m → t.class ≡ Punctuator
  unfolding spellings
  group_opens {s = s} {m = m} {t = t} (grouped {left = u} {m = k} p d q) read =
      let al : IsTrue (allows Goal.RegExp u.class u.text) = subst (λ c. IsTrue (allows Goal.RegExp c u.text)) (sym p.class) (subst (λ z. IsTrue (allows Goal.RegExp Punctuator z)) (sym p.text) refl) in
      ap (λ (v : Token). v.class) (det.same Goal.RegExp s t u m k read.next p.next read.allowed al).0 ∙ p.class
  group_opens {x = node k w g st en ps} (direct qs h pl d) read = let v = way_of h in absurd (too_tight (precedence v.spelling.rank) (made_rank (made k v.listed)) (and_parts _ _ (and_parts _ _ v.fit).0).0)

  -- a string alone is spelled as one, or in a group
  data AsString (o : ℕ) (x : Tree) (s e : S) (P : List Pair) : Type 0 where
    string_itself : Spells ways S Next behind o directive_string x s e P → AsString o x s e P
    string_group : Spells ways S Next behind o (expr Grouped true Any) x s e P → AsString o x s e P

  as_string : {o : ℕ} {x : Tree} {s e : S} {P : List Pair} → Spells ways S Next behind o (expr Expression true Statement) x s e P → is_string_literal (kind_of x) (text_of x) ≡ true → AsString o x s e P
  unfolding spellings
  as_string (grouped p d q) h = string_group (grouped p d q)
  as_string {o} {x = node Literal w g st en ps} {s} {e} {P} (direct qs h pl d) lit = let v = way_of h in string_itself (let m = made Literal v.listed in of m.chosen (v.is ∙ ap (settled (expr Expression true Statement)) m.is) v.lean)
    where
      replaced : {m : Tree} → Placed S Next behind (expr Expression true Statement) m s e → Placed S Next behind directive_string m s e
      replaced (placed nx p) = placed nx p

      of : {p : Production} → Chosen w g (bare_parts ps) (expr Expression true Any) Literal p → qs ≡ settled (expr Expression true Statement) (spelling_of (form p) w g (bare_parts ps)) → is_lean (bare (node Literal w g st en ps)) ≡ true → Spells ways S Next behind o directive_string (node Literal w g st en ps) s e P
      of (chosen.of_statement s c) q lean = elim s [ ]
      of (chosen.of_declaration s c) q lean = elim s [ ]
      of (chosen.literal c) q lean =
          let class : literal_class w ≡ StringLiteral = text_class (literal_class w) lit in
          let z : Spelling = at Primary (tok StringLiteral w ∷ []) in
          direct (settled directive_string z) (way_from directive_string (node Literal w g st en ps) z lean (in_true [] (is_string (literal_class w)) lit first) refl) (replaced pl) (retell S Next behind (q ∙ ap (λ c. tok c w ∷ []) class) d)
  as_string {x = node _ w g st en ps} (direct qs h pl d) lit = cc

  stays : {o : ℕ} {x : Tree} {s e0 : S} {P : List Pair} → Found S Next behind o Expression true Statement s e0 x P → is_string_literal (kind_of x) (text_of x) ≡ true →
      (o' : ℕ) (n' : Tree) (P' : List Pair) (v : Token) (k : S) → Spells ways S Next behind o' name n' s e0 P' → Reads S Next behind Punctuator (codes ":") e0 v k → ⊥
  stays {e0 = e0} found lit o' n' P' v k d c =
      let same = found.only o' e0 n' P' (name_expression S Next behind det d) (colon_stops n' c) in
      let u = (name_form S Next behind det d).0 in
      false≢true (ap (λ z. is_string_literal (kind_of z) (text_of z)) (sym u.tree ∙ same.1) ∙ lit)

  -- an async function begins with a name
  no_name : {r : Bool} {o : ℕ} {a : Role} {t : Token} {m : S} {n : Tree} {s e : S} {P : List Pair} → LaterWay S Next behind det r o a t m n s e P an_expression → (t.class ≡ IdentifierName → ⊥) → ⊥
  no_name (later_async c w h tree pl d) other = other c

  -- In a prologue, where a string alone is found.
  module _ {r : Bool} {s m : S} {t : Token} (read : ReadBy S Next behind Goal.RegExp s t m) (begun : statement_start true r t ≡ an_expression) {o : ℕ} {x : Tree} {e0 : S} {P : List Pair} (found : Found S Next behind o Expression true Statement s e0 x P)
      (lit : is_string_literal (kind_of x) (text_of x) ≡ true) where
    -- itself it is a directive
    pub directive_found : {st en : ℕ} {e : S} → t.class ≡ StringLiteral → Step S Next behind (end_behind Other) e0 e → ((e' : S) → Step S Next behind (end_behind Other) e0 e' → e' ≡ e) →
        Placed S Next behind (opening r) (node ExpressionStatement [] directive_flags st en (part x none)) s e → FoundWhere S Next behind (Finished S Next behind) o (opening r) s e (node ExpressionStatement [] directive_flags st en (part x none)) P
    directive_found {st} {en} {e} text end only pl =
        statement_found as_opening read begun (λ o n e P u. no_name u (λ h. let v : StringLiteral ≡ IdentifierName = sym text ∙ h in cc)) found (stays found lit) directive_flags flags (λ e' h. only e' (subst (λ v. Step S Next behind (end_behind v) e0 e') (sym other) h)) (spells (as_string found.spelled lit)) pl
      where
        not_both : t.class ≡ Punctuator → ⊥
        not_both h = let u : StringLiteral ≡ Punctuator = sym text ∙ h in cc

        flags : (o' : ℕ) (P' : List Pair) (g' : Flags) → Sort true o' x s e0 P' g' → g' ≡ directive_flags
        flags o' P' g' (as_plain h) = absurd (false≢true (sym (h refl) ∙ lit))
        flags o' P' g' (as_directive h k u) = refl
        flags o' P' g' (as_group h k u) = absurd (not_both (group_opens u read))

        itself : AsString o x s e0 P → Spells ways S Next behind o directive_string x s e0 P
        itself (string_itself u) = u
        itself (string_group u) = absurd (not_both (group_opens u read))

        other : Other ≡ edge x
        other = sym (ap edge (quoted_form S Next behind det (itself (as_string found.spelled lit))).tree)

        spells : AsString o x s e0 P → Spells ways S Next behind o (opening r) (node ExpressionStatement [] directive_flags st en (part x none)) s e P
        spells u =
            let w : Spelling = at Primary (put directive_string ∷ end_of Other ∷ []) in
            direct (settled (opening r) w) (way_from (opening r) (node ExpressionStatement [] directive_flags st en (part x none)) w refl (directive_listed [] directive_flags 0 0 (bare_parts (part x none)) r refl (string_bare x ∙ lit)) refl) pl
            (ends_runs (itself u) end)

    -- in parentheses it is none
    pub string_group_found : {st en : ℕ} {e : S} → t.class ≡ Punctuator → Step S Next behind (end_behind (edge x)) e0 e → ((e' : S) → Step S Next behind (end_behind (edge x)) e0 e' → e' ≡ e) →
        Placed S Next behind (opening r) (node ExpressionStatement [] plain st en (part x none)) s e → FoundWhere S Next behind (Finished S Next behind) o (opening r) s e (node ExpressionStatement [] plain st en (part x none)) P
    string_group_found {st} {en} {e} sign end only pl = statement_found as_opening read begun (λ o n e P u. no_name u (λ h. let v : Punctuator ≡ IdentifierName = sym sign ∙ h in cc)) found (stays found lit) plain flags only (spells (as_string found.spelled lit)) pl
      where
        not_both : t.class ≡ StringLiteral → ⊥
        not_both h = let u : Punctuator ≡ StringLiteral = sym sign ∙ h in cc

        flags : (o' : ℕ) (P' : List Pair) (g' : Flags) → Sort true o' x s e0 P' g' → g' ≡ plain
        flags o' P' g' (as_plain h) = refl
        flags o' P' g' (as_directive h k u) = absurd (not_both (string_opens u read))
        flags o' P' g' (as_group h k u) = refl

        grouped_one : AsString o x s e0 P → Spells ways S Next behind o (expr Grouped true Any) x s e0 P
        grouped_one (string_itself u) = absurd (not_both (string_opens u read))
        grouped_one (string_group u) = u

        spells : AsString o x s e0 P → Spells ways S Next behind o (opening r) (node ExpressionStatement [] plain st en (part x none)) s e P
        spells u =
            let w : Spelling = at Primary (put (expr Grouped true Any) ∷ end_of (last_edge (bare_parts (part x none))) ∷ []) in
            direct (settled (opening r) w) (way_from (opening r) (node ExpressionStatement [] plain st en (part x none)) w refl (group_listed [] plain 0 0 (bare_parts (part x none)) r refl (string_bare x ∙ lit)) refl) pl
            (ends_runs (grouped_one u) (subst (λ v. Step S Next behind (end_behind v) e0 e) (sym (edge_bare x)) end))

  -- A name with a `:` behind it, which begins no expression that a statement may be.
  module _ {p d r : Bool} {a : Role} {s m : S} {t : Token} (stands : Stands a p d r) (read : ReadBy S Next behind Goal.RegExp s t m) (begun : statement_start d r t ≡ an_expression)
      {o : ℕ} {l : Tree} {e0 k : S} {v : Token} (label : FoundAt S Next behind o name s e0 l []) {x : Tree} {Q : List Pair} (found : Found S Next behind o Expression true Statement s e0 x Q) (colon_read : Reads S Next behind Punctuator (codes ":") e0 v k) where
    -- behind the name no function's word stands
    unlater : {o' : ℕ} {n : Tree} {e : S} {P : List Pair} → LaterWay S Next behind det r o' a t m n s e P an_expression → ⊥
    unlater w =
        let f = later_next S Next behind det w in
        let u = (name_form S Next behind det label.spelled).0 in
        let here = det.same Goal.RegExp s t u.sign m e0 read.next u.reads.next read.allowed (det.free Goal.RegExp s u.sign e0 u.reads.next (ap is_free u.reads.class)) in
        let word = subst (λ z. Reads S Next behind IdentifierName (codes "function") z f.0 f.1) here.1 f.2 in
        let al : IsTrue (allows Div v.class v.text) = subst (λ c. IsTrue (allows Div c v.text)) (sym colon_read.class) (subst (λ c. IsTrue (allows Div Punctuator c)) (sym colon_read.text) refl) in
        let same = det.same Div e0 f.0 v f.1 k word.next colon_read.next (det.free Div e0 f.0 f.1 word.next (ap is_free word.class)) al in
        let clash : IdentifierName ≡ Punctuator = sym word.class ∙ ap (λ (c : Token). c.class) same.0 ∙ colon_read.class in
        cc

    -- what spells such a statement is a label
    record Labelled (o' : ℕ) (n : Tree) (e : S) (P : List Pair) : Type 0 where
      st : ℕ
      en : ℕ
      inner : Tree
      tree : n ≡ node LabeledStatement [] plain st en (part l (part inner none))
      placed : Placed S Next behind a n s e
      spelled : Spells ways S Next behind o' (statement r) inner k e P
      fine : Finished S Next behind inner e

    labelled : {o' : ℕ} {n : Tree} {e : S} {P : List Pair} → Finished S Next behind n e → Seen p r o' a n s e P → Labelled o' n e P
    labelled {o'} {n} {e} {P} fine (seen_label {st = st} {en = en} {x = y} {rest = rest} {mid = mid} {next = k'} {v = v'} {Q = A} {R = B} tree pl u c d1 all) =
        let same = label.only o' mid y A u in
        let next = same_sign S Next behind det (subst (λ w. Reads S Next behind Punctuator (codes ":") w v' k') same.0 c) colon_read refl in
        let w = run_part S Next behind d1 in
        let z = run_none S Next behind w.runs in
        let is : n ≡ node LabeledStatement [] plain st en (part l (part w.item none)) = tree ∙ ap (λ h. node LabeledStatement [] plain st en h) (ap (λ h. part y h) (w.parts ∙ ap (part w.item) z.parts) ∙ ap (λ h. part h (part w.item none)) same.1) in
        let pairs : P ≡ w.one = all ∙ ap (λ h. h ++ B) same.2 ∙ w.pairs ∙ ap (λ h. w.one ++ h) z.pairs ∙ append-nil w.one in
        record {
          st = st;
          en = en;
          inner = w.item;
          tree = is;
          placed = pl;
          spelled = subst (λ h. Spells ways S Next behind o' (statement r) w.item k e h) (sym pairs) (subst (λ h. Spells ways S Next behind o' (statement r) w.item k h w.one) z.place (subst (λ h. Spells ways S Next behind o' (statement r) w.item h w.mid w.one) next.1 w.spelled));
          fine = subst (λ h. Followed S Next behind (ends_in_if h) e) is fine;
        }
    labelled {o'} {e = e} fine (seen_expression {x = y} {mid = mid} tree pl u stop end sort) =
        let same = found.only o' mid y _ u stop in
        absurd (no_end (Rattle.language.specs.Pieces.behind (edge y)) colon_read (subst (λ w. Step S Next behind (end_behind (edge y)) w e) same.0 end) fine)

    -- with its statement
    pub label_found : {st en : ℕ} {e : S} {n : Tree} {P : List Pair} → FoundWhere S Next behind (Finished S Next behind) o (statement r) k e n P → Placed S Next behind a (node LabeledStatement [] plain st en (part l (part n none))) s e →
        FoundWhere S Next behind (Finished S Next behind) o a s e (node LabeledStatement [] plain st en (part l (part n none))) P
    label_found {st} {en} {e} {n} {P} inner pl = record {
      spelled =
          let w : Spelling = at Primary (put name ∷ sign ":" ∷ sp ∷ put (statement r) ∷ []) in
          let ps : Parts = part l (part n none) in
          direct (settled a w) (way_from a (node LabeledStatement [] plain st en ps) w refl (label_listed [] plain 0 0 (bare_parts ps) stands) (statement_fits stands w)) pl
          (retell S Next behind (sym (settled_at stands w)) (within label.spelled (step (token colon_read) (step laid (last_runs S Next behind inner.spelled)))));
      only = λ o' e' n' P' d1 fine.
          let u = labelled fine (look stands read begun (λ o n e P u. unlater u) d1 fine) in
          let same = inner.only o' e' u.inner P' u.spelled u.fine in
          let span = same_span S Next behind det (statement_spans stands) (subst (λ h. Placed S Next behind a h s e') u.tree u.placed) pl same.0 in
          (same.0, u.tree ∙ same_node refl refl refl span.0 span.1 (ap (λ h. part l (part h none)) same.1), same.2);
    }
