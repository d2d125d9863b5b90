-- The token with which a statement or declaration begins, so that what stands before it has ended.
use Rattle.std.proofs.Common.{◌≡◌, ℕ, Bool, true, false, List, [], ◌∷◌, refl, sym, ap, ◌∙◌, subst, ◌⊎◌, inl, inr}
use Rattle.std.specs.Prelude.{IsTrue, ◌||◌, codes}
use Rattle.tokens.specs.declared.token.TokenClass.TheVariants.{IdentifierName}
use Rattle.tokens.specs.declared.token.Goal.{Goal}
use Rattle.tokens.specs.Goals.{allows}
use Rattle.tree.specs.declared.kind.Kind.{Kind}
use Rattle.tree.specs.declared.kind.Pair.{Pair}
use Rattle.tree.specs.Tree.{Tree, node, Parts, bare_parts}
use Rattle.language.specs.declared.Rank.TheVariants.{Expression}
use Rattle.language.specs.declared.Start.TheVariants.{Any, Statement}
use Rattle.language.specs.Vocabulary.{among}
use Rattle.language.specs.Pieces.{Role, expr, Piece}
use Rattle.language.specs.Token.{Token}
use Rattle.language.specs.ExpressionStart.{ExpressionStart, no_start, with_brace, with_function, with_class, expression_start_by, expression_start}
use Rattle.language.specs.StatementStart.{StatementStart, a_variable, a_return, a_function, a_class, is_own, is_opening, statement_start_by, statement_start, begins_item, a_for}
use Rattle.language.specs.Promises.{is_free, IsDetermined, ReadBy}
use Rattle.language.specs.Grammar.{ways}
use Rattle.language.specs.Derivation.{reserved_key, reserved_word, Spells, direct, grouped, Runs}
use Rattle.language.proofs.table.ViewIsComplete.{way_of}
use Rattle.language.proofs.table.Begins.{among_by, goes_to, retell, begun, first_of, by}
use Rattle.language.proofs.table.TokenFirstWays.{identifier_opens, async_free}
use Rattle.language.proofs.climbing.LeftmostParts.{operand_begins}
use Rattle.language.proofs.climbing.Leaves.{name_form}
use Rattle.language.proofs.list_loops.FirstPieces.{run_part, run_never}
use Rattle.language.proofs.table.StatementWays.{begins_as, own_class, own_text, may_stand, own_pieces, Stands, Stated, by_own, by_for, by_function, for_of_pieces, by_label, by_expression, by_directive, by_group, stated}
use Rattle.language.proofs.table.Beginnings.{own_begins, own_allowed, settled_at, begins_statement, expression_begins}
use Rattle.language.proofs.climbing.AsExpressions.{quoted_expression, group_expression}
use Rattle.tree.specs.declared.kind.Form.{Form}
use Rattle.tree.specs.declared.kind.Form.TheVariants.{Init, Generator, Async, AsyncGenerator}
use Rattle.tree.specs.Uses.{is_init}
use Rattle.language.specs.Expressions.{function_pieces}
use Rattle.std.proofs.lemmas.Bool.{false≢true}

-- what may stand at a position may stand among the items of a function
may_all : (d r : Bool) (b : StatementStart) (w : List ℕ) → may_stand d r b w ≡ true → may_stand true true b w ≡ true
may_all false r a_variable w h = among_by (λ v. among v ("var" ∷ "let" ∷ "const" ∷ []) ≡ true) w ("var" ∷ []) h (refl, tt)
may_all true r a_variable w h = h
may_all d r a_return w h = refl
may_all d r a_function w h = refl
may_all d r a_class w h = refl
may_all d r _ w h = h

statement_opens : (x : ExpressionStart) → begins_statement x ≡ true → is_opening x ≡ true
statement_opens no_start h = cc
statement_opens with_brace h = cc
statement_opens with_function h = cc
statement_opens with_class h = cc
statement_opens _ h = refl

or_left : (a b : Bool) → a ≡ true → (a || b) ≡ true
or_left true b h = refl
or_left false b h = cc

or_right : (a b : Bool) → b ≡ true → (a || b) ≡ true
or_right true b h = refl
or_right false b h = h

-- a token begins an item by its own, or as the opening of an expression
own_item : (t : Token) → is_own (statement_start true true t) ≡ true → begins_item t ≡ true
own_item t h = or_left (is_own (statement_start true true t)) (is_opening (expression_start t)) h

opening_item : (t : Token) → is_opening (expression_start t) ≡ true → begins_item t ≡ true
opening_item t h = or_right (is_own (statement_start true true t)) (is_opening (expression_start t)) h

module _ (S : Type 0) (Next : S → Token → S → Type 0) (behind : S → Token) (det : IsDetermined S Next behind) where
  -- the token with which an item begins
  pub record Started (s : S) : Type 0 where
    pub token : Token
    pub mid : S
    pub read : ReadBy S Next behind Goal.RegExp s token mid
    pub starts : begins_item token ≡ true

  expression_starts : {o : ℕ} {n : Tree} {s e : S} {P : List Pair} → Spells ways S Next behind o (expr Expression true Statement) n s e P → Started s
  expression_starts d =
      let u = operand_begins S Next behind det d in
      let t = u.begins.token in
      record { token = t; mid = u.begins.mid; read = u.begins.read; starts = opening_item t (statement_opens (expression_start t) (expression_begins S Next behind det u.begins.read d)) }

  own_starts : (r : Bool) {o : ℕ} {ps : Parts} {s e : S} {P : List Pair} (d : Bool) (k : Kind) (w : List ℕ) → is_own (begins_as k) ≡ true → may_stand d r (begins_as k) w ≡ true → Runs ways S Next behind o (goes_to Expression true Any (own_pieces r k w (bare_parts ps))) ps s e P → Started s
  own_starts r {o} {ps} {s} {e} {P} d k w own may run =
      let u = begun S Next behind (goes_to Expression true Any (own_pieces r k w (bare_parts ps))) refl run in
      let b = begins_as k in
      record {
        token = u.token;
        mid = u.mid;
        read = record { next = u.next; allowed = allowed u.token u.mid u.next u.class u.text (own_allowed b w own) };
        starts = own_item u.token (ap (λ c. is_own (statement_start_by true true c u.token.text)) u.class ∙ ap (λ v. is_own (statement_start_by true true (own_class b) v)) u.text ∙ ap is_own (own_begins true true b w own (may_all d r b w may)) ∙ own);
      }
    where
      allowed : (t : Token) (m : S) → Next s t m → t.class ≡ own_class (begins_as k) → t.text ≡ own_text (begins_as k) w → (is_free (own_class (begins_as k)) ≡ true) ⊎ IsTrue (allows Goal.RegExp (own_class (begins_as k)) (own_text (begins_as k) w)) → IsTrue (allows Goal.RegExp t.class t.text)
      allowed t m nx c v (inl f) = det.free Goal.RegExp s t m nx (ap is_free c ∙ f)
      allowed t m nx c v (inr al) = subst (λ x. IsTrue (allows Goal.RegExp x t.text)) (sym c) (subst (λ x. IsTrue (allows Goal.RegExp (own_class (begins_as k)) x)) (sym v) al)

  -- each statement and each item has one
  pub item_starts : {p d r : Bool} {o : ℕ} {a : Role} {n : Tree} {s e : S} {P : List Pair} → Stands a p d r → Spells ways S Next behind o a n s e P → Started s
  item_starts st (grouped x y z) = elim st [ ]
  item_starts st (reserved_key x y z) = elim st [ ]
  item_starts st (reserved_word x y z) = elim st [ ]
  item_starts {p} {d} {r} {o} {n = node k w g stt en ps} {s} {e} {P} st (direct qs h pl run) = let v = way_of h in of (retell S Next behind (v.is ∙ settled_at st v.spelling) run) (stated k w g 0 0 (bare_parts ps) st v.listed)
    where
      -- a name with which an item begins
      named_starts : (ql : List Piece) {v : List ℕ} → Runs ways S Next behind o (goes_to Expression true Any ql) ps s e P → first_of (goes_to Expression true Any ql) ≡ by IdentifierName v → ((c : Token) → c.class ≡ IdentifierName → c.text ≡ v → begins_item c ≡ true) → Started s
      named_starts ql run f starts =
          let u = begun S Next behind (goes_to Expression true Any ql) f run in
          record { token = u.token; mid = u.mid; read = record { next = u.next; allowed = det.free Goal.RegExp s u.token u.mid u.next (ap is_free u.class) }; starts = starts u.token u.class u.text }

      own_named : (b : StatementStart) (v : List ℕ) → statement_start_by true true IdentifierName v ≡ b → is_own b ≡ true → (c : Token) → c.class ≡ IdentifierName → c.text ≡ v → begins_item c ≡ true
      own_named b v h own c k x = own_item c (ap (λ z. is_own (statement_start_by true true z c.text)) k ∙ ap (λ z. is_own (statement_start_by true true IdentifierName z)) x ∙ ap is_own h ∙ own)

      async_item : (c : Token) → c.class ≡ IdentifierName → c.text ≡ codes "async" → begins_item c ≡ true
      async_item c k x = opening_item c (ap (λ z. is_opening (expression_start_by z c.text)) k ∙ ap (λ z. is_opening (expression_start_by IdentifierName z)) x ∙ ap is_opening (identifier_opens (codes "async") async_free))

      of_function : (z : Form) → is_init z ≡ false → Runs ways S Next behind o (goes_to Expression true Any (function_pieces z (bare_parts ps))) ps s e P → Started s
      of_function Generator h run = named_starts (function_pieces Generator (bare_parts ps)) run refl (own_named a_function (codes "function") refl refl)
      of_function Async h run = named_starts (function_pieces Async (bare_parts ps)) run refl async_item
      of_function AsyncGenerator h run = named_starts (function_pieces AsyncGenerator (bare_parts ps)) run refl async_item
      of_function Init h run = absurd (false≢true (sym h))
      of_function _ h run = absurd (run_never S Next behind run)

      of : {ql : List Piece} → Runs ways S Next behind o (goes_to Expression true Any ql) ps s e P → Stated p d r k w g (bare_parts ps) ql → Started s
      of run (by_for kind z q) = named_starts (for_of_pieces r g.form (bare_parts ps)) (retell S Next behind (ap (goes_to Expression true Any) q) run) refl (own_named a_for (codes "for") refl refl)
      of run (by_function kind all z q) = of_function g.form z (retell S Next behind (ap (goes_to Expression true Any) q) run)
      of run (by_own own may plainly q) = own_starts r d k w own may (retell S Next behind (ap (goes_to Expression true Any) q) run)
      of run (by_label kind q) =
          let x = run_part S Next behind (retell S Next behind (ap (goes_to Expression true Any) q) run) in
          let u = name_form S Next behind det x.spelled in
          let t = u.0.sign in
          record {
            token = t;
            mid = x.mid;
            read = record { next = u.0.reads.next; allowed = det.free Goal.RegExp s t x.mid u.0.reads.next (ap is_free u.0.reads.class) };
            starts = opening_item t (ap (λ c. is_opening (expression_start_by c t.text)) u.0.reads.class ∙ ap (λ v. is_opening (expression_start_by IdentifierName v)) u.0.reads.text ∙ ap is_opening (identifier_opens u.0.text u.1));
          }
      of run (by_expression kind plainly single q) = expression_starts (run_part S Next behind (retell S Next behind (ap (goes_to Expression true Any) q) run)).spelled
      of run (by_directive kind here flag single q) =
          let x = run_part S Next behind (retell S Next behind (ap (goes_to Expression true Any) q) run) in
          expression_starts (quoted_expression S Next behind det x.spelled)
      of run (by_group kind here flag single q) =
          let x = run_part S Next behind (retell S Next behind (ap (goes_to Expression true Any) q) run) in
          expression_starts (group_expression S Next behind det x.spelled)
