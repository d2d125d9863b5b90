-- What stands in parentheses: what they group, and arrow functions with their parameters in them (ECMA-262 12.2.10, 14.2).
use Rattle.std.proofs.Common.{◌≡◌, ℕ, suc, arith, Bool, true, false, cond, List, [], ◌∷◌, ◌++◌, refl, sym, ap, ◌∙◌, subst}
use Rattle.std.specs.Prelude.{IsTrue, Some, None, codes, not, ◌&&◌, if◌then◌else◌, nat_le}
use Rattle.std.proofs.lemmas.Bool.{false≢true}
use Rattle.std.proofs.lemmas.List.{append-nil}
use Rattle.std.proofs.lemmas.Bool.Decides.{nat_tests}
use Rattle.tokens.specs.declared.token.TokenClass.TheVariants.{Punctuator}
use Rattle.tokens.specs.declared.token.Goal.TheVariants.{RegExp}
use Rattle.tree.specs.declared.kind.Kind.TheVariants.{Identifier, MemberExpression, SequenceExpression}
use Rattle.tree.specs.declared.kind.Pair.{Pair}
use Rattle.tree.specs.Tree.{Tree, node, plain, Parts, none, part, gap, kind_of, bare, bare_parts}
use Rattle.covers.specs.declared.shape.TargetForm.TheVariants as assigned
use Rattle.covers.specs.declared.list.ListKind.TheVariants as listed
use Rattle.covers.specs.declared.list.ListBuilder.{ListBuilder as ListOf}
use Rattle.covers.specs.Lists.{closing}
use Rattle.tree.specs.Patterns.{pattern_tree}
use Rattle.covers.specs.Shapes.{is_target}
use Rattle.language.specs.declared.Rank.{Rank}
use Rattle.language.specs.declared.Rank.TheVariants.{Expression, Assignment, LeftHandSide}
use Rattle.language.specs.declared.Start.{Start}
use Rattle.language.specs.declared.Start.TheVariants.{Any}
use Rattle.language.specs.declared.Edge.{Edge}
use Rattle.language.specs.declared.Edge.TheVariants.{Arrow, Postfix, Other, Closed}
use Rattle.language.specs.Vocabulary.{is, takes, takes_number, precedence}
use Rattle.language.specs.Vocabulary as words
use Rattle.language.specs.Covers.{as_expression, as_pattern}
use Rattle.language.specs.Pieces.{Role, expr, Piece, PieceOf, at, tok, sub, settle_piece, sign, is_none, separator, elements, open_parameters, close_parameters, parameters, argument, pattern_element}
use Rattle.language.specs.Pieces as pieces
use Rattle.language.specs.Token.{Token}
use Rattle.language.specs.Edges.{edge, edge_as_written}
use Rattle.language.specs.Expressions.{arguments, sequence, assignment}
use Rattle.language.specs.Derivation.{Placed, placed, pair_of, grouped}
use Rattle.language.proofs.table.Begins.{goes_to}
use Rattle.language.proofs.climbing.LeftmostParts.{operand_begins}
use Rattle.language.proofs.climbing.OperatorNodes.{sequence_grows, kind_bare, none_bare}
use Rattle.language.proofs.climbing.Suffixes.{arguments_fixed}
use Rattle.language.proofs.table.RightEdges.{edged}
use Rattle.language.proofs.list_loops.FirstPieces.{run_never, run_the_part, run_none}
use Rattle.token_cursor.proofs.SeenTokens.{seen_determined}
use Rattle.language.proofs.climbing.Wholes.{spells_expression}
use Rattle.recursive_descent.specs.Soundness.{RunsIn, anywhere, SpelledAs, assigned_at, target_at, fits_as, minds_in, PartAt}
use Rattle.recursive_descent.specs.SoundnessOfLists.{ListAt, SeenRight, ClosedBy, is_whole, whole_of, stood_in, item_pieces, several, asks_last}
use Rattle.parser_tables.specs.Items.{group_node, group_shape, is_grouped, are_some, list_group}
use Rattle.parser_tables.specs.Operands.{group_part}
use Rattle.token_cursor.specs.Seen.{ReadsHere}
use Rattle.recursive_descent.proofs.reading.Forward.{begins_mark}
use Rattle.language.specs.Promises.{ReadBy}
use Rattle.token_cursor.specs.SourceText.{SourceText, SeenNext, behind_in}
use Rattle.recursive_descent.specs.Spelled.{SpellsIn}

minds_number : (h z : ℕ) → IsTrue (takes_number h z) → nat_le z 14 ≡ true → nat_le h 14 ≡ true
minds_number h z t l = grind (arith, nat_tests)

-- where an assignment may stand In matters
pub assignment_minds : (h : Rank) → IsTrue (takes h Assignment) → minds_in h ≡ true
assignment_minds h t = minds_number (precedence h) 1 t refl

-- pieces don't depend on where the parts stand
pub sequence_bare : (ps : Parts) → sequence (bare_parts ps) ≡ sequence ps
sequence_bare none = refl
sequence_bare (part n ps) = ap (λ x. sign "," ∷ pieces.sp ∷ sub (pieces.tail Assignment Any) ∷ x) (sequence_bare ps)
sequence_bare (gap ps) = refl

pub listed_bare : (f : Tree → Piece) → ((n : Tree) → f (bare n) ≡ f n) → (ps : Parts) → pieces.listed f (bare_parts ps) ≡ pieces.listed f ps
listed_bare f h none = refl
listed_bare f h (part n ps) = λ i. (h n i ∷ separator (kind_bare n i) (none_bare ps i)) ++ listed_bare f h ps i
listed_bare f h (gap ps) = refl

pub elements_bare : (f : Tree → Piece) → ((n : Tree) → f (bare n) ≡ f n) → (ps : Parts) → elements f (bare_parts ps) ≡ elements f ps
elements_bare f h none = refl
elements_bare f h (part n ps) = λ i. (h n i ∷ separator (kind_bare n i) (none_bare ps i)) ++ elements_bare f h ps i
elements_bare f h (gap ps) = λ i. (pieces.absent ∷ sign "," ∷ cond (none_bare ps i) [] (pieces.sp ∷ [])) ++ elements_bare f h ps i

pub element_bare : (b : Bool) (n : Tree) → pattern_element b (bare n) ≡ pattern_element b n
element_bare b (node k w g s e ps) = refl

pub argument_bare : (n : Tree) → argument (bare n) ≡ argument n
argument_bare (node k w g s e ps) = refl

pub arguments_bare : (ps : Parts) → arguments (bare_parts ps) ≡ arguments ps
arguments_bare ps = λ i. (sign "(" ∷ listed_bare argument argument_bare ps i) ++ sign ")" ∷ []

-- arguments are the same wherever their node stands
pub same_arguments : (y : Rank) (i : Bool) (f : Start) (ps : Parts) → goes_to y i f (arguments (bare_parts ps)) ≡ anywhere (arguments ps)
same_arguments y i f ps = ap (λ qs. tok Punctuator (codes "(") ∷ qs) (arguments_fixed y i f (bare_parts ps)) ∙ ap (λ qs. goes_to Expression true Any (sign "(" ∷ (qs ++ sign ")" ∷ []))) (listed_bare argument argument_bare ps)

pub goes_on : (y : Rank) (i : Bool) (f : Start) (qs rs : List Piece) → goes_to y i f (qs ++ rs) ≡ goes_to y i f qs ++ goes_to y i f rs
goes_on y i f [] rs = refl
goes_on y i f (q ∷ qs) rs = ap (λ x. settle_piece y i f q ∷ x) (goes_on y i f qs rs)

-- a simple target is its own pattern
pub simple_pattern : (n : Tree) → words.is_target (kind_of n) ≡ true → pattern_tree n ≡ n
simple_pattern (node Identifier w g s e ps) h = refl
simple_pattern (node MemberExpression w g s e ps) h = refl
simple_pattern (node k w g s e ps) h = absurd (false≢true h)

pub and_three : (a b c : Bool) → (a && (b && c)) ≡ true → ((true && c) && (a && b)) ≡ true
and_three true true true h = refl
and_three true true false h = absurd (false≢true h)
and_three true false c h = absurd (false≢true h)
and_three false b c h = absurd (false≢true h)

last_true : (a b c : Bool) → (a && (b && c)) ≡ true → c ≡ true
last_true true true true h = refl
last_true true true false h = absurd (false≢true h)
last_true true false c h = absurd (false≢true h)
last_true false b c h = absurd (false≢true h)

first_true : (a b : Bool) → (a && b) ≡ true → a ≡ true
first_true true b h = refl
first_true false b h = absurd (false≢true h)

module _ (text : SourceText) where
  -- the right edge of a group
  pub group_edge : {o : ℕ} {n : Tree} {s m e : Token} {P : List Pair} → SpellsIn text o (expr Expression true Any) n s m P → ReadsHere text Punctuator (codes ")") m e → Other ≡ edge_as_written (edge n) e
  group_edge {n = n} {e = e} d sign = of (edge n) (edged Token (SeenNext text) (behind_in text) (seen_determined text) d).ends (ap (λ w. is w ")") sign.text)
    where
      of : (x : Edge) → (x ≡ Closed → ⊥) → is e.text ")" ≡ true → Other ≡ edge_as_written x e
      of Arrow h k = sym (ap (λ b. cond b Other Arrow) k)
      of Postfix h k = sym (ap (λ b. cond b Other Postfix) k)
      of Other h k = refl
      of Closed h k = absurd (h refl)

  -- a group of a shape that is at most a target
  group_at : {i : Bool} {f : Start} {n : Tree} {o from : ℕ} {s m k e : Token} {P : List Pair} (b c : Bool) → (b ≡ true → words.is_target (kind_of n) ≡ true) → from ≡ m.start → ReadsHere text Punctuator (codes "(") s m → SpellsIn text o (expr Expression true Any) n m k P → ReadsHere text Punctuator (codes ")") k e →
      PartAt text i f (group_part n (record { is_expression = c; assigned = if b then assigned.Target else assigned.Nothing; binds = false }) from) (suc o) s e (pair_of m e ∷ P)
  group_at {i} {f} {n} {o} {from} {s} {m} {k} {e} {P} b c simple begin left d right = record {
    begins = begins_mark text begin left;
    edge = group_edge d right;
    goes_on = refl;
    stands = λ v h j tk lo. grouped left d right;
    assigned = as_target b simple;
    bare = λ a h is. absurd (false≢true (sym h));
    newly = λ h. cc;
  }
    where
      at_target : words.is_target (kind_of n) ≡ true → SpelledAs (target_at f false) text (suc o) (pattern_tree n) s e (pair_of m e ∷ P)
      at_target h = subst (λ x. SpelledAs (target_at f false) text (suc o) x s e (pair_of m e ∷ P)) (sym (simple_pattern n h)) (record { role = expr LeftHandSide true f; it_is = ap (λ x. cond x (Some (expr LeftHandSide true f)) None) h; spelled = grouped left d right })

      as_target : (b : Bool) → (b ≡ true → words.is_target (kind_of n) ≡ true) → (a : Bool) → fits_as (record { is_expression = c; assigned = if b then assigned.Target else assigned.Nothing; binds = false }) (as_pattern a) ≡ true → ((if b then assigned.Target else assigned.Nothing) ≡ assigned.Defaulted → (f ≡ Any) × (i ≡ true)) →
          SpelledAs (assigned_at (if b then assigned.Target else assigned.Nothing) f a) text (suc o) (pattern_tree n) s e (pair_of m e ∷ P)
      as_target b simple true h w = absurd (false≢true h)
      as_target true simple false h w = at_target (simple refl)
      as_target false simple false h w = absurd (false≢true h)

  -- the expression in parentheses
  inner_at : {o : ℕ} {m k : Token} {P : List Pair} (start end : ℕ) (ps : Parts) → are_some ps ≡ true → end ≡ k.stop → ((t e : Token) → ReadBy Token (SeenNext text) (behind_in text) RegExp m t e → start ≡ t.start) → RunsIn text o (stood_in Any listed.ParenthesizedItems (several assignment ps)) ps m k P →
      SpellsIn text o (expr Expression true Any) (group_node ps start end) m k P
  inner_at start end none some ends begins d = absurd (false≢true some)
  inner_at start end (gap ps) some ends begins d = absurd (run_never Token (SeenNext text) (behind_in text) d)
  inner_at {o} {m} {k} {P} start end (part n none) some ends begins d =
      let a = run_the_part Token (SeenNext text) (behind_in text) d in
      let z = run_none Token (SeenNext text) (behind_in text) a.runs in
      let pairs : P ≡ a.one = a.pairs ∙ ap (λ x. a.one ++ x) z.pairs ∙ append-nil a.one in
      spells_expression Token (SeenNext text) (behind_in text) (seen_determined text) (subst (λ x. SpellsIn text o (expr Assignment true Any) n m k x) (sym pairs) (subst (λ x. SpellsIn text o (expr Assignment true Any) n m x a.one) z.place a.spelled))
  inner_at start end (part n (gap ps)) some ends begins d =
      let a = run_the_part Token (SeenNext text) (behind_in text) d in
      absurd (run_never Token (SeenNext text) (behind_in text) a.runs)
  inner_at {o} {m} {k} {P} start end (part n (part l ps)) some ends begins d =
      let a = run_the_part Token (SeenNext text) (behind_in text) d in
      let first = (operand_begins Token (SeenNext text) (behind_in text) (seen_determined text) a.spelled).begins in
      let whole : Placed Token (SeenNext text) (behind_in text) (expr Expression true Any) (node SequenceExpression [] plain start end (part n (part l ps))) m k = placed first.read.next (λ i. (sym (begins first.token first.mid first.read) i, sym ends i)) in
      subst (λ x. SpellsIn text o (expr Expression true Any) (node SequenceExpression [] plain start end (part n (part l ps))) m k x) (sym a.pairs)
      (sequence_grows Token (SeenNext text) (behind_in text) refl refl a.spelled (subst (λ x. RunsIn text o (goes_to Expression true Any x) (part l ps) a.mid k a.more) (sym (sequence_bare (part l ps))) a.runs) whole)

  -- what is said of parentheses that hold a list
  pub group_list : {i : Bool} {f : Start} (l : ListOf) {o : ℕ} {s m e : Token} {P : List Pair} → l.listed ≡ listed.ParenthesizedItems → is_grouped l ≡ true → SeenRight l → l.span.start ≡ m.start → ((t k : Token) → ReadBy Token (SeenNext text) (behind_in text) RegExp m t k → l.inside.start ≡ t.start) →
      ReadsHere text Punctuator (codes "(") s m → (w : ListAt text Any l o m e P) → PartAt text i f (list_group l) (suc o) s e (pair_of m e ∷ P)
  group_list {i} {f} l {o} {s} {m} {e} {P} is fits right begin inner left w =
      let value : l.seen.shape.is_expression ≡ true = last_true (are_some l.nodes) (not l.seen.has_comma) l.seen.shape.is_expression fits in
      let whole : is_whole l as_expression ≡ true = ap (λ x. whole_of x l as_expression) is ∙ and_three (are_some l.nodes) (not l.seen.has_comma) l.seen.shape.is_expression fits in
      let end : l.inside.end ≡ w.mid.stop = w.inside (ap (λ x. asks_last x as_expression) is) whole in
      let runs : RunsIn text o (stood_in Any listed.ParenthesizedItems (several assignment l.nodes)) l.nodes m w.mid P = subst (λ x. RunsIn text o (stood_in Any x (item_pieces x as_expression l.nodes)) l.nodes m w.mid P) is (w.runs as_expression whole) in
      let close : ReadsHere text Punctuator (codes ")") w.mid e = subst (λ x. ClosedBy text (closing x) w.mid e) is w.closes in
      let d = inner_at l.inside.start l.inside.end l.nodes (first_true (are_some l.nodes) (not l.seen.has_comma && l.seen.shape.is_expression) fits) end inner runs in
      of l.nodes (λ n h b. right.target n is h value b) d close
    where
      of : {k : Token} (ps : Parts) → ((n : Tree) → ps ≡ part n none → is_target l.seen.last.assigned ≡ true → words.is_target (kind_of n) ≡ true) → SpellsIn text o (expr Expression true Any) (group_node ps l.inside.start l.inside.end) m k P → ReadsHere text Punctuator (codes ")") k e →
          PartAt text i f (group_part (group_node ps l.inside.start l.inside.end) (group_shape ps l.seen.last) l.span.start) (suc o) s e (pair_of m e ∷ P)
      of (part n none) target d close = group_at (is_target l.seen.last.assigned) l.seen.last.is_expression (λ h. target n refl h) begin left d close
      of none target d close = group_at false true (λ h. cc) begin left d close
      of (gap ps) target d close = group_at false true (λ h. cc) begin left d close
      of (part n (part k ps)) target d close = group_at false true (λ h. cc) begin left d close
      of (part n (gap ps)) target d close = group_at false true (λ h. cc) begin left d close
