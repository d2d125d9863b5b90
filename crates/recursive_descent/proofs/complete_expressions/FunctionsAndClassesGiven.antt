-- A function, a class or the call of `import`, as it is given behind its word (ECMA-262 12.3.10, 14.1, 14.6).
use Rattle.std.proofs.Common.{◌≡◌, ℕ, Bool, true, false, List, [], ◌∷◌, ◌++◌, refl, sym, ap, ◌∙◌, subst, inl, inr}
use Rattle.std.specs.Prelude.{IsTrue, codes, if◌then◌else◌}
use Rattle.std.proofs.lemmas.List.{append-nil}
use Rattle.std.proofs.lemmas.Bool.{false≢true}
use Rattle.tokens.specs.declared.token.TokenClass.TheVariants.{IdentifierName, Punctuator}
use Rattle.tokens.specs.declared.token.Goal.TheVariants.{Div, RegExp}
use Rattle.token_cursor.specs.CursorState.{CursorState}
use Rattle.tree.specs.declared.kind.Kind.{Kind}
use Rattle.tree.specs.declared.kind.Kind.TheVariants.{Identifier, MemberExpression, FunctionExpression, ImportExpression}
use Rattle.tree.specs.declared.kind.Pair.{Pair}
use Rattle.tree.specs.declared.kind.Flags.{Flags}
use Rattle.tree.specs.declared.kind.Form.{Form}
use Rattle.tree.specs.declared.kind.Form.TheVariants.{Init, Generator}
use Rattle.tree.specs.Tree.{Tree, node, Parts, none, part, gap, bare, bare_parts, kind_of, plain}
use Rattle.tree.specs.Uses.{is_lean, used_flags, has_text}
use Rattle.tree.proofs.Lean.{lean_flags, lean_text}
use Rattle.covers.specs.Shapes.{shape_of, is_target, value, target}
use Rattle.language.specs.declared.Rank.{Rank}
use Rattle.language.specs.declared.Rank.TheVariants.{Expression, Assignment, Primary, Call}
use Rattle.language.specs.declared.Start.{Start}
use Rattle.language.specs.declared.Start.TheVariants.{Any}
use Rattle.language.specs.declared.Edge.{Edge}
use Rattle.language.specs.declared.Edge.TheVariants.{Other}
use Rattle.language.specs.Covers.{Reading, as_expression}
use Rattle.language.specs.Expressions.{class_pieces}
use Rattle.language.specs.Languages.{is_of_2022}
use Rattle.language.specs.Later.{has_later}
use Rattle.language.specs.ExpressionStart.{ExpressionStart, with_function, with_class, with_import, expression_start}
use Rattle.language.specs.Pieces.{Role, expr, PieceOf, term}
use Rattle.language.specs.Promises.{ReadBy}
use Rattle.language.specs.Token.{Token}
use Rattle.language.specs.Vocabulary.{takes, is_target as is_simple}
use Rattle.language.specs.Derivation.{Reads, Placed}
use Rattle.language.proofs.table.Begins.{goes_to, retell}
use Rattle.language.proofs.table.FixedPieces.{same_pieces}
use Rattle.language.proofs.languages.BaseTrees.{IsBase}
use Rattle.language.proofs.languages.BaseHeads.{base_function}
use Rattle.language.proofs.climbing.Conditionals.{stops_before}
use Rattle.language.proofs.climbing.LeftmostParts.{Cored, in_group, in_way, core_by}
use Rattle.language.proofs.table.TokenFirstWays.{Headed, head_function, head_class, function_rest, is_plain_form}
use Rattle.language.proofs.climbing.Leaves.{by_name, name_form, core_primary}
use Rattle.language.proofs.climbing.SingleStarts.{form_flags, Production, class_production, import_production, fixed_function}
use Rattle.language.proofs.list_loops.FirstPieces.{run_token, run_laid, run_part, run_none, run_never, run_the_gap, run_the_part}
use Rattle.language.proofs.climbing.Spine.{Core}
use Rattle.token_cursor.proofs.SeenTokens.{seen_determined}
use Rattle.language.proofs.climbing.BinaryTurns.{same_node}
use Rattle.parser_tables.specs.declared.functions_and_classes.FunctionOrClass.{FunctionOrClass}
use Rattle.parser_tables.specs.declared.functions_and_classes.FunctionOrClass.TheVariants as closure
use Rattle.parser_tables.specs.declared.expression_context.ExpressionContext.{ExpressionContext}
use Rattle.recursive_descent.specs.Soundness.{RunsIn, anywhere}
use Rattle.recursive_descent.specs.SoundnessOfStatements.{closure_pieces, after_word, behind_words}
use Rattle.recursive_descent.specs.Later.{StarredAt}
use Rattle.parser_tables.specs.StatementSymbols.{function_or_class_kind, function_or_class_flags}
use Rattle.recursive_descent.specs.Completeness.{FirstAs, IsFirst, StopsIn}
use Rattle.parser_tables.specs.Operands.{plain_part}
use Rattle.token_cursor.specs.Seen.{ReadsHere, Misses}
use Rattle.token_cursor.proofs.TokensAhead.{mark_by, name_by}
use Rattle.recursive_descent.proofs.complete_expressions.Agreement.{read_here, not_missed, marks_same}
use Rattle.recursive_descent.proofs.complete_expressions.StartsGiven.{CoreGiven, given_core, is_bracket, is_named, later_language}
use Rattle.recursive_descent.proofs.complete_expressions.PrefixesGiven.{placed_ends}
use Rattle.recursive_descent.proofs.sound_expressions.KeywordExpressions.{function_bare, class_bare}
use Rattle.token_cursor.specs.SourceText.{SourceText, SeenNext, behind_in}
use Rattle.recursive_descent.specs.Spelled.{SpellsIn, OfLanguage}

value_tree : (n : Tree) → (shape_of n).is_expression ≡ true
value_tree (node Identifier w g s e ps) = refl
value_tree (node MemberExpression w g s e ps) = of g.optional
  where
    of : (b : Bool) → (if b then value else target).is_expression ≡ true
    of true = refl
    of false = refl
value_tree (node _ w g s e ps) = refl

-- a node that is no array, no object and no assignment is read as an expression
pub edged_first : {a : Reading} {h r : Rank} {m n : Tree} (x : Edge) → a ≡ as_expression → m ≡ n → (is_simple (kind_of n) ≡ true → is_target (shape_of n).assigned ≡ true) → IsTrue (takes h r) → IsFirst a h (plain_part m r x) n
edged_first {a} {h} {r} {m} {n} x reading is simple tk = subst (λ c. IsFirst c h (plain_part m r x) n) (sym reading) (subst (λ c. IsFirst as_expression h (plain_part c r x) n) (sym is) (record {
  read = record { fits = value_tree n; tree = refl; target = simple; pattern = λ b e k. cc };
  taken = tk;
  alone = λ b e. cc;
}))

pub made_first : {a : Reading} {h r : Rank} {m n : Tree} → a ≡ as_expression → m ≡ n → (is_simple (kind_of n) ≡ true → is_target (shape_of n).assigned ≡ true) → IsTrue (takes h r) → IsFirst a h (plain_part m r Other) n
made_first reading is simple tk = edged_first Other reading is simple tk

-- a node by its one production
pub record SoleGiven (text : SourceText) (o : ℕ) (h : Rank) (u : Token) (n : Tree) (s to : Token) (Q : List Pair) (K : Kind) (z : Rank) (formed : Flags → Form) (pieces : Form → Parts → List (PieceOf Role)) : Type 0 where
  pub flags : Flags
  pub parts : Parts
  pub tree : n ≡ node K [] (form_flags (formed flags)) u.start to.stop parts
  pub taken : IsTrue (takes h z)
  pub runs : RunsIn text o (pieces (formed flags) parts) parts s to Q

-- a function or a class behind its words, of which the first is this token and the last ends here
pub record ClosureGiven (text : SourceText) (o : ℕ) (h : Rank) (u : Token) (n : Tree) (mid to : Token) (Q : List Pair) (a : Reading) (c : FunctionOrClass) : Type 0 where
  pub reading : a ≡ as_expression
  pub parts : Parts
  pub tree : n ≡ node (function_or_class_kind c) [] (function_or_class_flags c) u.start to.stop parts
  pub taken : IsTrue (takes h Primary)
  pub runs : RunsIn text o (anywhere (closure_pieces c parts)) parts mid to Q

-- a function behind `function`: with a `*`, or none stands there
pub data FunctionGiven (text : SourceText) (o : ℕ) (h : Rank) (u : Token) (n : Tree) (to : Token) (Q : List Pair) (a : Reading) : Type 0 where
  unstarred : Misses text Punctuator (codes "*") u → ClosureGiven text o h u n u to Q a (closure.Function Init) → FunctionGiven text o h u n to Q a
  starred : {mid : Token} → is_of_2022 text.language ≡ true → ReadsHere text Punctuator (codes "*") u mid → ClosureGiven text o h u n mid to Q a (closure.Function Generator) → FunctionGiven text o h u n to Q a

-- which the code went past, if it stands there
pub function_starred : (s m : CursorState) {o : ℕ} {h : Rank} {n : Tree} {x : Form} {to : Token} {Q : List Pair} {a : Reading} → FunctionGiven s.text o h s.last n to Q a → StarredAt s m Init x → ClosureGiven s.text o h s.last n m.last to Q a (closure.Function x)
function_starred s m (unstarred missed v) (inl star) = absurd (not_missed missed star.1)
function_starred s m {o} {h} {n} {x} {to} {Q} {a} (unstarred missed v) (inr none_there) =
    subst (λ y. ClosureGiven s.text o h s.last n m.last to Q a (closure.Function y)) (sym none_there.1) (subst (λ y. ClosureGiven s.text o h s.last n y to Q a (closure.Function Init)) (sym none_there.0) v)
function_starred s m {o} {h} {n} {x} {to} {Q} {a} (starred later sign v) (inl star) =
    subst (λ y. ClosureGiven s.text o h s.last n m.last to Q a (closure.Function y)) (sym star.2) (subst (λ y. ClosureGiven s.text o h s.last n y to Q a (closure.Function Generator)) (marks_same s.text sign star.1).1 v)
function_starred s m (starred later sign v) (inr none_there) = absurd (not_missed (none_there.2 later) sign)

-- the call of `import` behind its word
pub record ImportGiven (text : SourceText) (o : ℕ) (h : Rank) (u : Token) (n : Tree) (to : Token) (Q : List Pair) (a : Reading) : Type 0 where
  pub reading : a ≡ as_expression
  pub source : Tree
  pub tree : n ≡ node ImportExpression [] plain u.start to.stop (part source none)
  pub taken : IsTrue (takes h Call)
  pub first : Token
  pub mid : Token
  pub left : ReadsHere text Punctuator (codes "(") u first
  pub spelled : SpellsIn text o (expr Assignment true Any) source first mid Q
  pub stopped : StopsIn text Assignment true source mid
  pub right : ReadsHere text Punctuator (codes ")") mid to

-- a generator is none of the base profile
no_generator : {A : Type 0} {st en : ℕ} {ps : Parts} → IsBase (node FunctionExpression [] (form_flags Generator) st en ps) → A
no_generator {ps = ps} b = let e : Generator ≡ Init = base_function {w = []} {g = form_flags Generator} {ps = ps} FunctionExpression refl refl b in cc

module _ (text : SourceText) where
  pub sole_given : {x : ExpressionStart} {K : Kind} {z : Rank} {f : Start} {formed : Flags → Form} {pieces : Form → Parts → List (PieceOf Role)} {s u there : Token} → Production Token (SeenNext text) (behind_in text) (seen_determined text) x K z f s formed pieces → ReadBy Token (SeenNext text) (behind_in text) RegExp s u there → expression_start u ≡ x →
      {o : ℕ} {h : Rank} {j : Bool} {m : Tree} {mid : Token} {Q : List Pair} → Core Token (SeenNext text) (behind_in text) o (expr h j f) m s mid Q → SoleGiven text o h u m s mid Q K z formed pieces
  sole_given {x} {K} {z} {f} {formed} {pieces} {s} {u} production r opening {o} {h} {j} {m} {mid} {Q} c = of x refl (core_by Token (SeenNext text) (behind_in text) (seen_determined text) r opening c)
    where
      stands : IsTrue (takes h Primary)
      stands = core_primary Token (SeenNext text) (behind_in text) (seen_determined text) c r (λ e. production.no_group (sym opening ∙ e))

      of : (a : ExpressionStart) → a ≡ x → Cored Token (SeenNext text) (behind_in text) (seen_determined text) o h j f m s mid Q a → SoleGiven text o h u m s mid Q K z formed pieces
      of a e (in_group l p d q v) = absurd (production.no_group (sym e))
      of a e (in_way {k = k} {w = w} {g = g} {st = st} {en = en} {ps = ps} {qs = qs} is headed lean pl d) =
          let way = production.is_way o h j k w g ps qs mid Q (subst (λ v. Headed h j f k w g (bare_parts ps) qs v) e headed) d stands in
          let bares : is_lean (bare (node k w g st en ps)) ≡ true = ap (λ v. is_lean (bare v)) (sym is) ∙ lean in
          let ends = placed_ends text r (subst (λ c. Placed Token (SeenNext text) (behind_in text) (expr h j f) c s mid) is pl) in
          let same : node k w g st en ps ≡ node K [] (form_flags (formed g)) u.start mid.stop ps =
          same_node way.0 (lean_text (bare (node k w g st en ps)) bares (ap has_text way.0 ∙ production.no_text)) (lean_flags (bare (node k w g st en ps)) bares ∙ ap (λ v. used_flags v g) way.0 ∙ production.no_flags g) ends.0 ends.1 refl in
          record { flags = g; parts = ps; tree = is ∙ same; taken = way.1; runs = retell Token (SeenNext text) (behind_in text) way.2 d }

  -- where `(` or a name is read, `*` isn't
  star_sign : {s t e u k : Token} → Reads Token (SeenNext text) (behind_in text) Punctuator (codes "(") s u k → Reads Token (SeenNext text) (behind_in text) Punctuator (codes "*") s t e → ⊥
  star_sign left r = other (sym r.text ∙ ap (λ (z : Token). z.text) (marks_same text r left).0 ∙ left.text)
    where
      other : codes "*" ≡ codes "(" → ⊥
      other e = cc

  star_name : {w : List ℕ} {s t e u k : Token} → Reads Token (SeenNext text) (behind_in text) IdentifierName w s u k → Reads Token (SeenNext text) (behind_in text) Punctuator (codes "*") s t e → ⊥
  star_name {s = s} {t = t} {e = e} {u = u} {k = k} named r = other (sym r.class ∙ ap (λ (z : Token). z.class) ((seen_determined text).same Div s t u e k r.next named.next (mark_by text r).allowed (name_by text named).allowed).0 ∙ named.class)
    where
      other : Punctuator ≡ IdentifierName → ⊥
      other e = cc

  -- no `*` stands behind the words of a function
  pub no_star_behind : {o : ℕ} (ps : Parts) {s to : Token} {Q : List Pair} → RunsIn text o (anywhere (behind_words ps)) ps s to Q → {t e : Token} → Reads Token (SeenNext text) (behind_in text) Punctuator (codes "*") s t e → ⊥
  no_star_behind none d r = run_never Token (SeenNext text) (behind_in text) (run_laid Token (SeenNext text) (behind_in text) d)
  no_star_behind (gap ps) d r = star_sign (run_token Token (SeenNext text) (behind_in text) (run_the_gap Token (SeenNext text) (behind_in text) (run_laid Token (SeenNext text) (behind_in text) d))).reads r
  no_star_behind (part n ps) d r = star_name (name_form Token (SeenNext text) (behind_in text) (seen_determined text) (run_the_part Token (SeenNext text) (behind_in text) (run_laid Token (SeenNext text) (behind_in text) d)).spelled).0.reads r

  pub function_given : {p : ExpressionContext} {o : ℕ} {n : Tree} {s u to : Token} {Q : List Pair} {a : Reading} {h : Rank} → ReadBy Token (SeenNext text) (behind_in text) RegExp s u u → expression_start u ≡ with_function → FirstAs text p o n s to Q a h → OfLanguage text n → FunctionGiven text o h u n to Q a
  function_given {p} {o} {n} {s} {u} {to} {Q} {a} {h} r opens g own = let v = given_core text r (ap is_bracket opens) (ap is_named opens) g in of v (core_by Token (SeenNext text) (behind_in text) (seen_determined text) r opens v.begun.core)
    where
      by : (x : Form) (j : Bool) (f : Start) {ps : Parts} → is_plain_form x ≡ true → a ≡ as_expression → IsTrue (takes h Primary) → n ≡ node FunctionExpression [] (form_flags x) u.start to.stop ps → RunsIn text o (goes_to h j f (term "function" ∷ function_rest x (bare_parts ps))) ps s to Q → FunctionGiven text o h u n to Q a
      by Init j f {ps} plain_form reading tk tree d =
          let word = run_token Token (SeenNext text) (behind_in text) (retell Token (SeenNext text) (behind_in text) (same_pieces h Expression j true f Any (fixed_function Init (bare_parts ps)) ∙ ap anywhere (sym (function_bare Init ps))) d) in
          let here = by_name Token (SeenNext text) (behind_in text) (seen_determined text) r word.sign word.mid word.reads in
          let runs : RunsIn text o (anywhere (behind_words ps)) ps u to Q = subst (λ c. RunsIn text o (anywhere (behind_words ps)) ps c to Q) here.1 word.runs in
          unstarred (λ t e z. no_star_behind ps runs z) (record { reading = reading; parts = ps; tree = tree; taken = tk; runs = runs })
      by Generator j f {ps} plain_form reading tk tree d =
          let word = run_token Token (SeenNext text) (behind_in text) (retell Token (SeenNext text) (behind_in text) (same_pieces h Expression j true f Any (fixed_function Generator (bare_parts ps)) ∙ ap anywhere (sym (function_bare Generator ps))) d) in
          let here = by_name Token (SeenNext text) (behind_in text) (seen_determined text) r word.sign word.mid word.reads in
          let star = run_token Token (SeenNext text) (behind_in text) word.runs in
          starred (later_language text.language (λ b. no_generator {ps = ps} (record { none_later = ap has_later (sym tree) ∙ own.none_later b }))) (read_here text (subst (λ c. Reads Token (SeenNext text) (behind_in text) Punctuator (codes "*") c star.sign star.mid) here.1 star.reads))
          (record { reading = reading; parts = ps; tree = tree; taken = tk; runs = star.runs })
      by _ j f plain_form reading tk tree d = absurd (false≢true plain_form)

      of : (v : CoreGiven text p o n s to Q a h) → Cored Token (SeenNext text) (behind_in text) (seen_determined text) o h v.j p.start n s to Q with_function → FunctionGiven text o h u n to Q a
      of v (in_way {k = k} {w = w} {g = g} {st = st} {en = en} {ps = ps} is (head_function kind plain_form begins q) lean pl d) =
          let bares : is_lean (bare (node k w g st en ps)) ≡ true = ap (λ v. is_lean (bare v)) (sym is) ∙ lean in
          let ends = placed_ends text r (subst (λ c. Placed Token (SeenNext text) (behind_in text) (expr h v.j p.start) c s to) is pl) in
          let same : node k w g st en ps ≡ node FunctionExpression [] (form_flags g.form) u.start to.stop ps = same_node kind (lean_text (bare (node k w g st en ps)) bares (ap has_text kind)) (lean_flags (bare (node k w g st en ps)) bares ∙ ap (λ v. used_flags v g) kind) ends.0 ends.1 refl in
          by g.form v.j p.start plain_form v.reading (core_primary Token (SeenNext text) (behind_in text) (seen_determined text) v.begun.core r (λ e. (let z = sym opens ∙ e in cc))) (is ∙ same) (retell Token (SeenNext text) (behind_in text) q d)

  pub class_given : {p : ExpressionContext} {o : ℕ} {n : Tree} {s u to : Token} {Q : List Pair} {a : Reading} {h : Rank} → ReadBy Token (SeenNext text) (behind_in text) RegExp s u u → expression_start u ≡ with_class → FirstAs text p o n s to Q a h → ClosureGiven text o h u n u to Q a closure.Class
  class_given {p} {o} {n} {s} {u} {to} {Q} {a} {h} r opens g = let v = given_core text r (ap is_bracket opens) (ap is_named opens) g in of v (core_by Token (SeenNext text) (behind_in text) (seen_determined text) r opens v.begun.core)
    where
      of : (v : CoreGiven text p o n s to Q a h) → Cored Token (SeenNext text) (behind_in text) (seen_determined text) o h v.j p.start n s to Q with_class → ClosureGiven text o h u n u to Q a closure.Class
      of v (in_way is (head_class k begins q) lean pl d) =
          let w = sole_given (class_production Token (SeenNext text) (behind_in text) (seen_determined text) p.start _ begins) r opens v.begun.core in
          let sign = run_token Token (SeenNext text) (behind_in text) w.runs in
          let here = by_name Token (SeenNext text) (behind_in text) (seen_determined text) r sign.sign sign.mid sign.reads in
          record {
            reading = v.reading;
            parts = w.parts;
            tree = w.tree;
            taken = w.taken;
            runs = retell Token (SeenNext text) (behind_in text) (ap anywhere (sym (class_bare w.parts))) (subst (λ c. RunsIn text o (anywhere (after_word (class_pieces (bare_parts w.parts)))) w.parts c to Q) here.1 (run_laid Token (SeenNext text) (behind_in text) sign.runs));
          }

  pub import_given : {p : ExpressionContext} {o : ℕ} {n : Tree} {s u to paren : Token} {Q : List Pair} {a : Reading} {h : Rank} → ReadBy Token (SeenNext text) (behind_in text) RegExp s u u → expression_start u ≡ with_import → ReadsHere text Punctuator (codes "(") u paren → FirstAs text p o n s to Q a h → ImportGiven text o h u n to Q a
  import_given {p} {o} {n} {s} {u} {to} {paren} {Q} {a} {h} r opens opened g =
      let v = given_core text r (ap is_bracket opens) (ap is_named opens) g in
      let w = sole_given (import_production Token (SeenNext text) (behind_in text) (seen_determined text) p.start r opened) r opens v.begun.core in
      let sign = run_token Token (SeenNext text) (behind_in text) w.runs in
      let here = by_name Token (SeenNext text) (behind_in text) (seen_determined text) r sign.sign sign.mid sign.reads in
      let left = run_token Token (SeenNext text) (behind_in text) sign.runs in
      let x = run_part Token (SeenNext text) (behind_in text) left.runs in
      let right = run_token Token (SeenNext text) (behind_in text) x.runs in
      let end = run_none Token (SeenNext text) (behind_in text) right.runs in
      record {
        reading = v.reading;
        source = x.item;
        tree = w.tree ∙ ap (node ImportExpression [] plain u.start to.stop) (x.parts ∙ ap (part x.item) end.parts);
        taken = w.taken;
        first = left.mid;
        mid = x.mid;
        left = read_here text (subst (λ c. Reads Token (SeenNext text) (behind_in text) Punctuator (codes "(") c left.sign left.mid) here.1 left.reads);
        spelled = subst (λ c. SpellsIn text o (expr Assignment true Any) x.item left.mid x.mid c) (sym (x.pairs ∙ ap (λ c. x.one ++ c) end.pairs ∙ append-nil x.one)) x.spelled;
        stopped = stops_before Token (SeenNext text) (behind_in text) (seen_determined text) Assignment true x.item right.reads refl refl (λ c b. refl);
        right = subst (λ c. ReadsHere text Punctuator (codes ")") x.mid c) end.place (read_here text right.reads);
      }
