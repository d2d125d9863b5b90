-- The symbol of an expression is that of its first spelling.
use Rattle.std.proofs.Common.{◌≡◌, ◌≢◌, ℕ, Bool, true, false, List, [], ◌∷◌, refl, sym, ap, ◌∙◌, arith}
use Rattle.std.specs.Prelude.{Option, Some, None, not, cond, ◌&&◌, ◌||◌, nat_lt, ◌+◌}
use Rattle.std.proofs.lemmas.Bool.Decides.{nat_tests}
use Rattle.tree.specs.declared.kind.Kind.{Kind}
use Rattle.tree.specs.declared.kind.Kind.TheVariants as kind
use Rattle.tree.specs.declared.kind.Flags.{Flags}
use Rattle.tree.specs.declared.kind.Form.{Form}
use Rattle.tree.specs.declared.kind.Form.TheVariants.{Init, Generator}
use Rattle.tree.specs.Tree.{Tree, node, Parts, none, part, gap, kind_of, text_of, flags_of, parts_of, part_count}
use Rattle.language.specs.declared.Rank.{Rank}
use Rattle.language.specs.declared.Rank.TheVariants.{Expression, Assignment, Relational, Unary, Update, LeftHandSide, Call, Member, Primary}
use Rattle.language.specs.FirstPart.{lead, others}
use Rattle.language.specs.Vocabulary.{is, among, Operator, op_binary, op_power, operator_of, is_assignment, is_word_operator, is_update_operator, is_prefix, is_reserved, literal_class, is_name, is_private, is_target, is_pattern, is_super}
use Rattle.language.specs.Pieces.{Spelling, is_none}
use Rattle.language.specs.Expressions.{expressions, first_has_optional, lead_is, op_arrow, binary_ways, private_in, yields, logical_ways}
use Rattle.language.specs.Grammar.{rank_of, spellings, production_rank}
use Rattle.grammar.specs.Ranks.{rank_by, rank_if, is_yield_of, plain_rank, binary_symbol, logical_symbol}

-- the symbol of the first spelling
abbrev first : List Spelling → Option Rank
first [] = None
first (x ∷ xs) = Some (production_rank x.rank)

of_spellings : (k : Kind) (w : List ℕ) (g : Flags) (s e : ℕ) (ps : Parts) (xs : List Spelling) → expressions k w g ps ≡ xs → first xs ≡ rank_of (node k w g s e ps)
unfolding spellings
of_spellings k w g s e ps [] h = rw h refl
of_spellings k w g s e ps (x ∷ xs) h = rw h refl

-- these spellings have this symbol
record Ranks (xs : List Spelling) (o : Option Rank) : Type 0 where
  pub found : o ≡ first xs

-- spellings under a condition

unless : {xs : List Spelling} (b : Bool) (z : Rank) → Ranks xs (Some z) → Ranks (cond b [] xs) (rank_if (not b) z)
unless true z h = record { found = refl }
unless false z h = h

where_not_refused : {xs : List Spelling} (b : Bool) (z : Rank) → Ranks xs (Some z) → Ranks (cond (not b) [] xs) (rank_if b z)
where_not_refused true z h = h
where_not_refused false z h = record { found = refl }

where_it_holds : {xs : List Spelling} (b : Bool) (z : Rank) → Ranks xs (Some z) → Ranks (cond b xs []) (rank_if b z)
where_it_holds true z h = h
where_it_holds false z h = record { found = refl }

either : {xs ys : List Spelling} (b : Bool) (z : Rank) → Ranks xs (Some z) → Ranks ys (Some z) → Ranks (cond b xs ys) (Some z)
either true z h k = h
either false z h k = k

assigned : {xs ys : List Spelling} (a t p : Bool) → Ranks xs (Some Assignment) → Ranks ys (Some Assignment) →
    Ranks (cond (not a) [] (cond t xs (cond p ys []))) (rank_if (a && (t || p)) Assignment)
assigned false t p h k = record { found = refl }
assigned true true p h k = h
assigned true false true h k = k
assigned true false false h k = record { found = refl }

-- by kind

binaries : (w : List ℕ) (o : Operator) → binary_symbol o ≡ first (binary_ways w o)
binaries w (op_binary false z q) = refl
binaries w (op_binary true z q) = refl
binaries w op_power = refl
binaries w _ = refl

logicals : (w : List ℕ) (o : Operator) → logical_symbol o ≡ first (logical_ways w o)
logicals w (op_binary true z q) = refl
logicals w (op_binary false z q) = refl
logicals w _ = refl

arrow : (g : Flags) (ps : Parts) → Some Assignment ≡ first (op_arrow g ps)
arrow g none = refl
arrow g (gap ps) = refl
arrow g (part n none) = refl
arrow g (part n (gap ps)) = refl
arrow g (part n (part b (part m ps))) = refl
arrow g (part n (part b (gap ps))) = refl
arrow g (part (node kind.Identifier w h s e qs) (part b none)) = refl
arrow g (part (node k w h s e qs) (part b none)) = refl

-- with a private name on the left only `in` makes a node
private_first : (xs : List Spelling) (p i : Bool) (o : Option Rank) (z : Rank) → o ≡ first xs → (x : Spelling) → production_rank x.rank ≡ z →
    Ranks (cond p (cond i (x ∷ []) []) xs) (cond p (rank_if i z) o)
private_first xs true true o z h x e = record { found = ap Some (sym e) }
private_first xs true false o z h x e = record { found = refl }
private_first xs false i o z h x e = record { found = h }

meta : (a b : Bool) (x y : Spelling) → production_rank x.rank ≡ Member → production_rank y.rank ≡ Member → Ranks (cond a (x ∷ []) (cond b (y ∷ []) [])) (rank_if (a || b) Member)
meta true b x y e f = record { found = ap Some (sym e) }
meta false true x y e f = record { found = ap Some (sym f) }
meta false false x y e f = record { found = refl }

yielded : (x : Form) (ps : Parts) → Ranks (yields x ps) (rank_if (is_yield_of x ps) Assignment)
yielded Init none = record { found = refl }
yielded Init (gap none) = record { found = refl }
yielded Init (gap (part m ps)) = record { found = refl }
yielded Init (gap (gap ps)) = record { found = refl }
yielded Init (part n none) = record { found = refl }
yielded Init (part n (part m ps)) = record { found = refl }
yielded Init (part n (gap ps)) = record { found = refl }
yielded Generator none = record { found = refl }
yielded Generator (gap ps) = record { found = refl }
yielded Generator (part n none) = record { found = refl }
yielded Generator (part n (part m ps)) = record { found = refl }
yielded Generator (part n (gap ps)) = record { found = refl }
yielded _ ps = record { found = refl }

spelled : (k : Kind) (w : List ℕ) (g : Flags) (ps : Parts) → Ranks (expressions k w g ps) (rank_by k w g ps)
unfolding expressions
spelled kind.Identifier w g ps = unless (is_reserved w) Primary (record { found = refl })
spelled kind.Literal w g ps = unless (is_name (literal_class w) && not (among w ("true" ∷ "false" ∷ "null" ∷ []))) Primary (record { found = refl })
spelled kind.MemberExpression w g ps = unless g.optional Member (either (is_super (lead ps)) Member (record { found = refl }) (record { found = refl }))
spelled kind.MetaProperty w g ps = meta (lead_is ps "new" && lead_is (others ps) "target") (lead_is ps "import" && lead_is (others ps) "meta") _ _ refl refl
spelled kind.CallExpression w g ps = unless g.optional Call (either (is_super (lead ps)) Call (record { found = refl }) (record { found = refl }))
spelled kind.ChainExpression w g ps = where_it_holds (first_has_optional ps) LeftHandSide (record { found = refl })
spelled kind.UpdateExpression w g ps = where_not_refused (is_update_operator w && is_target (lead ps)) Update (either g.prefix Update (record { found = refl }) (record { found = refl }))
spelled kind.UnaryExpression w g ps = where_not_refused (is_prefix w) Unary (either (is_word_operator w) Unary (record { found = refl }) (record { found = refl }))
spelled kind.BinaryExpression w g ps = private_first (binary_ways w (operator_of w)) (is_private (lead ps)) (is w "in") (binary_symbol (operator_of w)) Relational (binaries w (operator_of w)) private_in refl
spelled kind.YieldExpression w g ps = yielded g.form ps
spelled kind.LogicalExpression w g ps = record { found = logicals w (operator_of w) }
spelled kind.ArrowFunctionExpression w g ps = record { found = arrow g ps }
spelled kind.AssignmentExpression w g ps = assigned (is_assignment w) (is_target (lead ps)) (is w "=" && is_pattern (lead ps)) (record { found = refl }) (record { found = refl })
spelled kind.SequenceExpression w g ps = unless (is_none (others ps)) Expression (record { found = refl })
spelled _ w g ps = record { found = refl }

pub stands : (k : Kind) (n : Tree) → k ≡ kind_of n → rank_by k (text_of n) (flags_of n) (parts_of n) ≡ rank_of n
stands k (node l w g s e ps) h = ap (λ x. rank_by x w g ps) h ∙ ((spelled l w g ps).found ∙ of_spellings l w g s e ps (expressions l w g ps) refl)

many : (k : ℕ) → nat_lt 1 (k + 1 + 1) ≡ true
many k = grind (arith, nat_tests)

-- two parts and more
pub has_others : (ps : Parts) → nat_lt 1 (part_count ps) ≡ not (is_none (others ps))
has_others none = refl
has_others (part n none) = refl
has_others (gap none) = refl
has_others (part n (part m ps)) = many (part_count ps)
has_others (part n (gap ps)) = many (part_count ps)
has_others (gap (part m ps)) = many (part_count ps)
has_others (gap (gap ps)) = many (part_count ps)

-- a kind that is none of these

abbrev pub IsNone : Kind → List Kind → Type 0
IsNone k [] = Unit {0}
IsNone k (l ∷ ls) = (k ≢ l) × IsNone k ls

-- the kinds whose symbol depends on their text, flags or parts
abbrev pub conditional : List Kind
conditional = kind.Identifier ∷ kind.Literal ∷ kind.MemberExpression ∷ kind.MetaProperty ∷ kind.CallExpression ∷ kind.ChainExpression ∷ kind.UpdateExpression ∷ kind.UnaryExpression ∷ kind.BinaryExpression ∷ kind.LogicalExpression ∷ kind.AssignmentExpression ∷ kind.SequenceExpression ∷ kind.YieldExpression ∷ []

pub as_plain : (k : Kind) (w : List ℕ) (g : Flags) (ps : Parts) → IsNone k conditional → plain_rank k ≡ rank_by k w g ps
as_plain kind.Identifier w g ps h = absurd (h.0 refl)
as_plain kind.Literal w g ps h = absurd (h.1.0 refl)
as_plain kind.MemberExpression w g ps h = absurd (h.1.1.0 refl)
as_plain kind.MetaProperty w g ps h = absurd (h.1.1.1.0 refl)
as_plain kind.CallExpression w g ps h = absurd (h.1.1.1.1.0 refl)
as_plain kind.ChainExpression w g ps h = absurd (h.1.1.1.1.1.0 refl)
as_plain kind.UpdateExpression w g ps h = absurd (h.1.1.1.1.1.1.0 refl)
as_plain kind.UnaryExpression w g ps h = absurd (h.1.1.1.1.1.1.1.0 refl)
as_plain kind.BinaryExpression w g ps h = absurd (h.1.1.1.1.1.1.1.1.0 refl)
as_plain kind.LogicalExpression w g ps h = absurd (h.1.1.1.1.1.1.1.1.1.0 refl)
as_plain kind.AssignmentExpression w g ps h = absurd (h.1.1.1.1.1.1.1.1.1.1.0 refl)
as_plain kind.SequenceExpression w g ps h = absurd (h.1.1.1.1.1.1.1.1.1.1.1.0 refl)
as_plain kind.YieldExpression w g ps h = absurd (h.1.1.1.1.1.1.1.1.1.1.1.1.0 refl)
as_plain _ w g ps h = refl
