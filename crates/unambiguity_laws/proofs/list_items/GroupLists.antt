-- What stands in parentheses that group, as a list: an expression, or those of a sequence.
use Rattle.std.proofs.Common.{◌≡◌, ℕ, Bool, true, false, cond, List, ◌++◌, refl, sym, ap, subst}
use Rattle.std.specs.Prelude.{Some}
use Rattle.tokens.specs.declared.token.TokenClass.TheVariants.{Punctuator}
use Rattle.tree.specs.declared.kind.Kind.TheVariants.{RestElement}
use Rattle.tree.specs.declared.kind.Pair.{Pair}
use Rattle.tree.specs.Tree.{Tree, node, Parts, none, part, gap, kind_of}
use Rattle.language.specs.declared.Rank.{Rank}
use Rattle.language.specs.declared.Rank.TheVariants.{Assignment}
use Rattle.language.specs.declared.Start.{Start}
use Rattle.language.specs.declared.Start.TheVariants.{Any}
use Rattle.language.specs.Vocabulary.{is_rest}
use Rattle.language.specs.Pieces.{expr, spread}
use Rattle.language.specs.Token.{Token}
use Rattle.language.specs.Expressions.{expressions}
use Rattle.language.specs.Covers.{as_expression, element_as}
use Rattle.language.specs.Promises.{IsDetermined}
use Rattle.language.specs.Grammar.{ways, spellings}
use Rattle.language.specs.Derivation.{Reads, Spells, direct, grouped, Runs}
use Rattle.language.proofs.table.ViewIsComplete.{way_of}
use Rattle.language.proofs.climbing.Commas.{comma_pieces}
use Rattle.language.proofs.covers.CoverSpreads.{expression_kind}
use Rattle.language.proofs.list_loops.FirstItems.{list_pieces, list_runs, last_item, more_items, CommaForm, no_comma, a_comma, comma_form}

module _ (S : Type 0) (Next : S → Token → S → Type 0) (behind : S → Token) (det : IsDetermined S Next behind) where
  -- an expression is an argument
  pub argument_is : {o : ℕ} {n : Tree} {s e : S} {P : List Pair} → Spells ways S Next behind o (expr Assignment true Any) n s e P → element_as as_expression (kind_of n) ≡ Some (expr Assignment true Any)
  argument_is d = ap (λ b. Some (cond b spread (expr Assignment true Any))) (expression_kind S Next behind det d)

  expression_no_rest : {o : ℕ} {y : Rank} {i : Bool} {f : Start} {n : Tree} {s e : S} {P : List Pair} → Spells ways S Next behind o (expr y i f) n s e P → is_rest (kind_of n) ≡ false
  unfolding spellings expressions
  expression_no_rest (grouped p d q) = expression_no_rest d
  expression_no_rest {n = node RestElement w g st en ps} (direct qs h pl d) = elim ((way_of h).listed) [ ]
  expression_no_rest {n = node _ w g st en ps} (direct qs h pl d) = refl

  -- what runs over such a list, up to the closing sign
  pub record Arguments (o : ℕ) (w : List ℕ) (ps : Parts) (s e : S) : Type 0 where
    pub pairs : List Pair
    pub runs : Runs ways S Next behind o (list_pieces (element_as as_expression) w ps) ps s e pairs

  -- one argument
  pub one_argument : {o : ℕ} {w : List ℕ} {n : Tree} {s e k : S} {t : Token} {P : List Pair} → Spells ways S Next behind o (expr Assignment true Any) n s e P → Reads S Next behind Punctuator w e t k → Arguments o w (part n none) s k
  one_argument {P = P} d closes = record { pairs = P; runs = list_runs S Next behind {r = element_as as_expression} (last_item (argument_is d) d closes) }

  sequence_arguments : (rest : Parts) {o : ℕ} {w : List ℕ} {n : Tree} {s m e k : S} {t : Token} {P Q : List Pair} → Spells ways S Next behind o (expr Assignment true Any) n s m P → Runs ways S Next behind o (comma_pieces true Any rest) rest m e Q → Reads S Next behind Punctuator w e t k → Arguments o w (part n rest) s k
  sequence_arguments none {o} {w} {n} {s} {m} {e} {k} {t} {P} {Q} d r closes = of (comma_form S Next behind none r)
    where
      of : CommaForm S Next behind o true Any m e Q none → Arguments o w (part n none) s k
      of (no_comma same z) = one_argument d (subst (λ v. Reads S Next behind Punctuator w v t k) (sym same) closes)
  sequence_arguments (gap ps) {o} {w} {n} {s} {m} {e} {k} {t} {P} {Q} d r closes = of (comma_form S Next behind (gap ps) r)
    where
      of : CommaForm S Next behind o true Any m e Q (gap ps) → Arguments o w (part n (gap ps)) s k
      of c = elim c [ ]
  sequence_arguments (part l ps) {o} {w} {n} {s} {m} {e} {k} {t} {P} {Q} d r closes = of (λ a m' A B p d'. sequence_arguments ps p d' closes) (comma_form S Next behind (part l ps) r)
    where
      of : ((a m' : S) (A B : List Pair) → Spells ways S Next behind o (expr Assignment true Any) l a m' A → Runs ways S Next behind o (comma_pieces true Any ps) ps m' e B → Arguments o w (part l ps) a k) → CommaForm S Next behind o true Any m e Q (part l ps) → Arguments o w (part n (part l ps)) s k
      of further (a_comma {k = a} {m = m'} {A = A} {B = B} c p d' z) =
          let u = further a m' A B p d' in
          record { pairs = P ++ u.pairs; runs = list_runs S Next behind {r = element_as as_expression} (more_items (argument_is d) (expression_no_rest d) refl d c u.runs refl) }

  -- a sequence
  pub several_arguments : {o : ℕ} {w : List ℕ} {m : Tree} {rest : Parts} {s k e z : S} {t : Token} {Q R : List Pair} → Spells ways S Next behind o (expr Assignment true Any) m s k Q → Runs ways S Next behind o (comma_pieces true Any rest) rest k e R → Reads S Next behind Punctuator w e t z → Arguments o w (part m rest) s z
  several_arguments {rest = rest} d r closes = sequence_arguments rest d r closes
