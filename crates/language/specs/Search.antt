-- A plain program for the relation: from a cursor, every cursor up to which the tokens spell a node, with the pairs.
use Rattle.std.specs.Prelude.{ℕ, Bool, true, false, not, cond, ◌&&◌, List, [], ◌∷◌, ◌++◌, nat_eq, codes, map, filter}
use Rattle.tokens.specs.declared.token.TokenClass.TheVariants.{IdentifierName, Keyword}
use Rattle.tree.specs.declared.kind.Kind.TheVariants.{Identifier}
use Rattle.tree.specs.Uses.{is_lean}
use Rattle.language.specs.declared.Rank.TheVariants.{Expression}
use Rattle.language.specs.declared.Start.TheVariants.{Any}
use Rattle.tree.specs.declared.kind.Pair.{Pair}
use Rattle.tree.specs.Tree.{Tree, node, Parts, none, part, gap, start_of, stop_of}
use Rattle.language.specs.Pieces.{Role, expr, word, key, PieceOf, tok, may, many, ahead, unbroken, no_operand, ending, open_parameters, close_parameters, sub, absent, lay}
use Rattle.language.specs.Token.{Token, is_token, is_mark}
use Rattle.language.specs.Vocabulary.{is_keyword}
use Rattle.language.specs.Edges.{may_omit_semicolon, begins_no_operand, is_semicolon}
use Rattle.language.specs.Grammar.{ways}
use Rattle.language.specs.Derivation.{place, pair_of}

abbrev pub Result : Type 0
Result = List Token × List Pair

abbrev pub each {ℓ} : {A : Type 0} {B : Type ℓ} → (A → List B) → List A → List B
each f [] = []
each f (x ∷ xs) = f x ++ each f xs

abbrev pub over : (Token → Bool) → List Token → List (List Token)
over p [] = []
over p (b ∷ []) = []
over p (b ∷ t ∷ ts) = cond (p t) ((t ∷ ts) ∷ []) []

abbrev pub if_next : (Token → Token → Bool) → List Token → List (List Token)
if_next p [] = []
if_next p (b ∷ []) = []
if_next p (b ∷ t ∷ ts) = cond (p b t) ((b ∷ t ∷ ts) ∷ []) []

abbrev pub over_many : List ℕ → List Token → List (List Token)
over_many text [] = [] ∷ []
over_many text (b ∷ []) = (b ∷ []) ∷ []
over_many text (b ∷ t ∷ ts) = cond (is_mark text t) (over_many text (t ∷ ts)) [] ++ (b ∷ t ∷ ts) ∷ []

abbrev pub steps_of : PieceOf Role → List Token → List (List Token)
steps_of (tok c w) tokens = over (is_token c w) tokens
steps_of (may w) tokens = over (is_mark w) tokens ++ tokens ∷ []
steps_of (many w) tokens = over_many w tokens
steps_of (ahead w) tokens = if_next (λ b t. is_token IdentifierName w t) tokens
steps_of unbroken tokens = if_next (λ b t. not t.after_break) tokens
steps_of no_operand tokens = if_next (λ b t. begins_no_operand t) tokens
steps_of (ending e) tokens = over is_semicolon tokens ++ if_next (may_omit_semicolon e) tokens
steps_of open_parameters tokens = over (is_mark (codes "(")) tokens
steps_of close_parameters tokens = over (is_mark (codes ")")) tokens
steps_of (lay h) tokens = tokens ∷ []
steps_of _ tokens = []

-- over the pieces before the next part
abbrev pub lead_steps : List (PieceOf Role) → List Token → List (List Token)
lead_steps [] tokens = tokens ∷ []
lead_steps (sub a ∷ qs) tokens = tokens ∷ []
lead_steps (absent ∷ qs) tokens = tokens ∷ []
lead_steps (q ∷ qs) tokens = each (lead_steps qs) (steps_of q tokens)

-- the pieces from the next part on
abbrev pub tail_pieces : List (PieceOf Role) → List (PieceOf Role)
tail_pieces [] = []
tail_pieces (sub a ∷ qs) = sub a ∷ qs
tail_pieces (absent ∷ qs) = absent ∷ qs
tail_pieces (q ∷ qs) = tail_pieces qs

abbrev pub same_place : ℕ × ℕ → ℕ → ℕ → Bool
same_place p s e = nat_eq p.0 s && nat_eq p.1 e

abbrev pub in_place : Role → Tree → List Token → List Token → Bool
in_place role tree (b ∷ t ∷ ts) (l ∷ us) = same_place (place role t l) (start_of tree) (stop_of tree)
in_place role tree _ _ = false

-- the group is closed by the `)` that stands ahead
abbrev pub close : Token → List Token → List Pair → List Result
close token [] P = []
close token (c ∷ []) P = []
close token (c ∷ right ∷ us) P = cond (is_mark (codes ")") right) ((right ∷ us, pair_of token right ∷ P) ∷ []) []

-- each number of pairs round the node, by the `(` that stand ahead
abbrev pub groups : (List Token → List Result) → List Token → List Result
groups inner [] = []
groups inner (b ∷ []) = []
groups inner (b ∷ left ∷ ts) =
    cond (is_mark (codes "(") left) (each (λ x. close left x.0 x.1) (inner (left ∷ ts) ++ groups inner (left ∷ ts))) []

-- the node spelled directly, and in groups, once its parts are
abbrev pub directly : (List (PieceOf Role) → List Token → List Result) → Tree → Role → List Token → List Result
directly inner tree role tokens =
    filter (λ x. in_place role tree tokens x.0) (each (λ qs. inner qs tokens) (ways role tree))

-- a word that the language reserves, where any word is a name
abbrev pub reserved : Tree → List Token → List Result
reserved (node Identifier text flags from to none) (b ∷ t ∷ ts) =
    cond ((is_token Keyword text t && is_keyword text) && (same_place (t.start, t.stop) from to && is_lean (node Identifier text flags 0 0 none))) ((t ∷ ts, []) ∷ []) []
reserved _ _ = []

abbrev pub everywhere : (List (PieceOf Role) → List Token → List Result) → Tree → Role → List Token → List Result
everywhere inner tree (expr rank has_in start) tokens = directly inner tree (expr rank has_in start) tokens ++ groups (directly inner tree (expr Expression true Any)) tokens
everywhere inner tree key tokens = directly inner tree key tokens ++ reserved tree tokens
everywhere inner tree word tokens = directly inner tree word tokens ++ reserved tree tokens
everywhere inner tree role tokens = directly inner tree role tokens

-- the pieces from the next part on: none left, a gap, or a part
abbrev pub at_end : List (PieceOf Role) → List Result → List Result
at_end [] xs = xs
at_end (q ∷ qs) xs = []

abbrev pub at_gap : List (PieceOf Role) → (List (PieceOf Role) → List Result) → List Result
at_gap (absent ∷ qs) f = f qs
at_gap _ f = []

abbrev pub at_part : List (PieceOf Role) → (Role → List (PieceOf Role) → List Result) → List Result
at_part (sub a ∷ qs) f = f a qs
at_part _ f = []

unfoldable mutual
  pub spelled : Tree → Role → List Token → List Result
  spelled (node kind text flags from to parts) role tokens = everywhere (λ qs us. parts_spelled parts qs us) (node kind text flags from to parts) role tokens

  pub parts_spelled : Parts → List (PieceOf Role) → List Token → List Result
  parts_spelled none qs tokens = at_end (tail_pieces qs) (map (λ us. (us, [])) (lead_steps qs tokens))
  parts_spelled (gap others) qs tokens = at_gap (tail_pieces qs) (λ rest. each (λ us. parts_spelled others rest us) (lead_steps qs tokens))
  parts_spelled (part tree others) qs tokens =
      at_part (tail_pieces qs) (λ a rest.
      each (λ us. each (λ x. map (λ y. (y.0, x.1 ++ y.1)) (parts_spelled others rest x.0)) (spelled tree a us)) (lead_steps qs tokens))
