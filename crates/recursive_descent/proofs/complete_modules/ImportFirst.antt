-- What begins with `import` among a module's items: where it is no import, a parenthesis or a point stands behind it (ECMA-262, 13th edition, 13.3.10, 16.2).
use Rattle.std.proofs.Common.{◌≡◌, ℕ, Bool, true, false, List, refl, sym, ap, ◌∙◌, subst}
use Rattle.std.specs.Prelude.{codes}
use Rattle.std.proofs.lemmas.Bool.{false≢true}
use Rattle.tokens.specs.declared.token.TokenClass.TheVariants.{IdentifierName, Punctuator, StringLiteral}
use Rattle.tokens.specs.declared.token.Goal.TheVariants.{RegExp}
use Rattle.tree.specs.declared.kind.Pair.{Pair}
use Rattle.tree.specs.Tree.{Tree}
use Rattle.token_cursor.specs.Seen.{Misses}
use Rattle.token_cursor.specs.SourceText.{SourceText, SeenNext, behind_in}
use Rattle.token_cursor.proofs.SeenTokens.{seen_determined}
use Rattle.language.specs.declared.Rank.{Rank}
use Rattle.language.specs.declared.Rank.TheVariants.{Expression}
use Rattle.language.specs.declared.Start.{Start}
use Rattle.language.specs.declared.Start.TheVariants.{Statement}
use Rattle.language.specs.Vocabulary.{is, is_reserved}
use Rattle.language.specs.Pieces.{Role, expr, chain_part}
use Rattle.language.specs.Token.{Token}
use Rattle.language.specs.ExpressionStart.{with_import, expression_start, expression_start_by}
use Rattle.language.specs.StatementStart.{StatementStart, an_expression, statement_start_by, is_own}
use Rattle.language.specs.Promises.{ReadBy, is_free}
use Rattle.language.specs.Derivation.{Reads}
use Rattle.language.proofs.table.Begins.{retell}
use Rattle.language.proofs.table.Beginnings.{OtherWay, a_label, evaluated, a_directive, a_group, Viewed, its_own, another, later, later_for, later_generator, later_async, viewed}
use Rattle.language.proofs.table.StatementWays.{Stands}
use Rattle.language.proofs.table.TokenFirstWays.{head_import, head_import_meta}
use Rattle.language.proofs.climbing.Leaves.{by_name, by_class, worded_free, word_form, name_form}
use Rattle.language.proofs.climbing.LeftmostParts.{Cored, in_way, core_by, no_spine_core}
use Rattle.language.proofs.climbing.Spine.{Core, on_spine, spine_of, grows_on_spine}
use Rattle.language.proofs.list_loops.FirstPieces.{run_token, run_part}
use Rattle.unambiguity_laws.proofs.statements.ExpressionStatements.{string_opens, group_opens}
use Rattle.unambiguity_laws.proofs.statements.FunctionForms.{names_same}
use Rattle.recursive_descent.specs.Spelled.{SpellsIn}

module _ (text : SourceText) where
  abbrev NoSign : Token → Type 0
  NoSign x = Misses text Punctuator (codes "(") x × Misses text Punctuator (codes ".") x

  import_or_core : {o : ℕ} {q : Rank} {j : Bool} {f : Start} {m : Tree} {s x mid : Token} {Q : List Pair} {t : Token} → ReadBy Token (SeenNext text) (behind_in text) RegExp s t x → NoSign x → Cored Token (SeenNext text) (behind_in text) (seen_determined text) o q j f m s mid Q with_import → ⊥
  import_or_core {x = x} r none (in_way is (head_import k tk v) lean pl d) =
      let a = run_token Token (SeenNext text) (behind_in text) (retell Token (SeenNext text) (behind_in text) v d) in
      let c = run_token Token (SeenNext text) (behind_in text) a.runs in
      none.0 c.sign c.mid (subst (λ z. Reads Token (SeenNext text) (behind_in text) Punctuator (codes "(") z c.sign c.mid) (by_name Token (SeenNext text) (behind_in text) (seen_determined text) r a.sign a.mid a.reads).1 c.reads)
  import_or_core {x = x} r none (in_way is (head_import_meta k c tk v) lean pl d) =
      let a = run_part Token (SeenNext text) (behind_in text) (retell Token (SeenNext text) (behind_in text) v d) in
      let w = word_form Token (SeenNext text) (behind_in text) (seen_determined text) a.spelled in
      let p = run_token Token (SeenNext text) (behind_in text) a.runs in
      none.1 p.sign p.mid (subst (λ z. Reads Token (SeenNext text) (behind_in text) Punctuator (codes ".") z p.sign p.mid) (by_class Token (SeenNext text) (behind_in text) (seen_determined text) (worded_free w.class w.text w.is_word) r w.sign a.mid w.reads).1 p.reads)

  import_or_expression : {o : ℕ} {n : Tree} {s x e : Token} {P : List Pair} {t : Token} → Reads Token (SeenNext text) (behind_in text) IdentifierName (codes "import") s t x → NoSign x → SpellsIn text o (expr Expression true Statement) n s e P → ⊥
  unfolding is_reserved
  import_or_expression {o} {s = s} {x} {t = t} r none d = let u = spine_of Token (SeenNext text) (behind_in text) d in of u.role (grows_on_spine Token (SeenNext text) (behind_in text) refl u.grows) u.core
    where
      read : ReadBy Token (SeenNext text) (behind_in text) RegExp s t x
      read = record { next = r.next; allowed = (seen_determined text).free RegExp s t x r.next (ap is_free r.class) }

      op : expression_start t ≡ with_import
      op = ap (λ c. expression_start_by c t.text) r.class ∙ ap (expression_start_by IdentifierName) r.text

      of : {m : Tree} {e : Token} {Q : List Pair} (a : Role) → on_spine a ≡ true → Core Token (SeenNext text) (behind_in text) o a m s e Q → ⊥
      of (expr y j g) on c = import_or_core read none (core_by Token (SeenNext text) (behind_in text) (seen_determined text) read op c)
      of (chain_part g) on c = absurd (no_spine_core Token (SeenNext text) (behind_in text) (seen_determined text) c)
      of _ on c = absurd (false≢true on)

  import_or_other : {p r : Bool} {a : Role} {o : ℕ} {n : Tree} {s x e : Token} {P : List Pair} {t : Token} → Reads Token (SeenNext text) (behind_in text) IdentifierName (codes "import") s t x → NoSign x → OtherWay Token (SeenNext text) (behind_in text) (seen_determined text) p r o a n s e P → ⊥
  unfolding is_reserved
  import_or_other r none (a_label tree pl d) =
      let u = name_form Token (SeenNext text) (behind_in text) (seen_determined text) (run_part Token (SeenNext text) (behind_in text) d).spelled in
      absurd (false≢true (sym u.1 ∙ ap is_reserved (names_same Token (SeenNext text) (behind_in text) (seen_determined text) u.0.reads r).0))
  import_or_other r none (evaluated tree pl plainly d) = import_or_expression r none (run_part Token (SeenNext text) (behind_in text) d).spelled
  import_or_other {s = s} {x} {t = t} r none (a_directive first tree pl lit d) =
      let clash : IdentifierName ≡ StringLiteral = sym r.class ∙ string_opens Token (SeenNext text) (behind_in text) (seen_determined text) (run_part Token (SeenNext text) (behind_in text) d).spelled (record { next = r.next; allowed = (seen_determined text).free RegExp s t x r.next (ap is_free r.class) }) in
      cc
  import_or_other {s = s} {x} {t = t} r none (a_group first tree pl lit d) =
      let clash : IdentifierName ≡ Punctuator = sym r.class ∙ group_opens Token (SeenNext text) (behind_in text) (seen_determined text) (run_part Token (SeenNext text) (behind_in text) d).spelled (record { next = r.next; allowed = (seen_determined text).free RegExp s t x r.next (ap is_free r.class) }) in
      cc

  -- with neither behind it no statement begins so
  pub no_import : {p : Bool} {a : Role} {o : ℕ} {n : Tree} {s x e : Token} {P : List Pair} {t : Token} → Stands a p true false → SpellsIn text o a n s e P → Reads Token (SeenNext text) (behind_in text) IdentifierName (codes "import") s t x → Misses text Punctuator (codes "(") x → Misses text Punctuator (codes ".") x → ⊥
  unfolding is_reserved
  no_import {p} {a} {o} {n} {s} {x} {e} {P = P} {t = t} st d r group point =
      of (viewed Token (SeenNext text) (behind_in text) (seen_determined text) st (record { next = r.next; allowed = (seen_determined text).free RegExp s t x r.next (ap is_free r.class) }) d) (ap (λ c. statement_start_by true false c t.text) r.class ∙ ap (statement_start_by true false IdentifierName) r.text)
    where
      of : {b : StatementStart} → Viewed Token (SeenNext text) (behind_in text) (seen_determined text) p false o a t x n s e P b → b ≡ an_expression → ⊥
      of (its_own own u) h = absurd (false≢true (sym (ap is_own h) ∙ own))
      of (another h w) q = import_or_other r (group, point) w
      of (later (later_for z tree pl d)) h = cc
      of (later (later_generator tree pl d)) h = cc
      of (later (later_async c w z tree pl d)) h = absurd (false≢true (ap (λ w. is w "async") (sym r.text ∙ w)))
