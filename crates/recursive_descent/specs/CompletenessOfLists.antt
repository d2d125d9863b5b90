-- What is given of lists, and of their items (ECMA-262 12.2, 12.3.8, 12.16, 13.3, 13.12, 14.1, 14.6).
use Rattle.std.specs.Prelude.{◌≡◌, ◌⊎◌, ℕ, ◌+◌, Bool, true, false, cond, ◌&&◌, ◌||◌, List, [], ◌∷◌, nat_le, Some, codes}
use Rattle.tokens.specs.declared.token.TokenClass.TheVariants.{Punctuator}
use Rattle.tree.specs.declared.kind.Pair.{Pair}
use Rattle.tree.specs.Tree.{Tree, Parts, none, part, gap, join, kind_of, part_count}
use Rattle.language.specs.declared.Rank.TheVariants.{Expression, Assignment}
use Rattle.language.specs.declared.Start.TheVariants.{Any}
use Rattle.language.specs.Token.{Token}
use Rattle.language.specs.Edges.{is_sign, begins_key}
use Rattle.language.specs.Vocabulary.{is, among, is_rest, is_target as is_simple}
use Rattle.language.specs.Pieces.{Role, expr, declarator}
use Rattle.language.specs.Promises.{LaterStop}
use Rattle.language.specs.Covers.{Reading, as_expression, as_pattern}
use Rattle.covers.specs.declared.list.ListKind.{ListKind}
use Rattle.covers.specs.declared.list.ListKind.TheVariants as listed
use Rattle.covers.specs.declared.list.ListBuilder.{ListBuilder as ListOf}
use Rattle.covers.specs.declared.list.ListSummary.{ListSummary}
use Rattle.covers.specs.Lists.{closing, reads}
use Rattle.covers.specs.Shapes.{is_target}
use Rattle.tokens.specs.declared.token.Goal.TheVariants.{Div}
use Rattle.parser_tables.specs.declared.statements.StatementListEnd.TheVariants as until
use Rattle.recursive_descent.specs.Soundness.{RunsIn, all_read_as}
use Rattle.recursive_descent.specs.SoundnessOfLists.{has_reading, seen_fits, is_stuck, stood_in, left_pieces, is_chunked, item_role, ClosedBy, case_count}
use Rattle.recursive_descent.specs.Follows.{ChunkAt}
use Rattle.recursive_descent.specs.Completeness.{StopsIn, DeclaredIn}
use Rattle.token_cursor.specs.Seen.{Sees, SeesBy, Misses}
use Rattle.parser_tables.specs.Tests.{ends}
use Rattle.token_cursor.specs.SourceText.{SourceText, SeenNext, behind_in}
use Rattle.recursive_descent.specs.Spelled.{SpellsIn}

-- the last part can't go on
abbrev pub LastDeclared : SourceText → Bool → Parts → Token → Type 0
LastDeclared text i none e = Unit {0}
LastDeclared text i (part n none) e = DeclaredIn text i n e
LastDeclared text i (part n (part m ps)) e = LastDeclared text i (part m ps) e
LastDeclared text i (part n (gap ps)) e = LastDeclared text i ps e
LastDeclared text i (gap ps) e = LastDeclared text i ps e

-- a list without brackets can't go on: with its last item neither, nor with a comma
abbrev pub LastGiven : SourceText → ListKind → Parts → Token → Type 0
LastGiven text (listed.Sequence i) ps e = LaterStop Token (SeenNext text) (behind_in text) i ps e
LastGiven text (listed.Declarators i) ps e = LastDeclared text i ps e × Misses text Punctuator (codes ",") e
LastGiven text _ ps e = Unit {0}

-- the rest of the items, in a reading that is left; none where none may follow
abbrev pub RestGiven : SourceText → Bool → ListOf → Reading → ℕ → Parts → Token → Token → List Pair → Type 0
RestGiven text true l a o ps s e P = (ps ≡ none) × (e ≡ s) × (P ≡ [])
RestGiven text false l a o ps s e P = RunsIn text o (stood_in Any l.listed (left_pieces l a ps)) ps s e P

-- the list has this reading as far as it is read
abbrev pub is_left : ListOf → Reading → Bool
is_left l a = (has_reading l.listed a && seen_fits l.listed l a) && reads l.listed l.seen.shape

-- behind a rest nothing may stand in parentheses
abbrev pub is_full : ListKind → ListSummary → Bool
is_full listed.ParenthesizedItems s = s.is_rest
is_full listed.Parameters s = s.is_rest
is_full _ s = false

-- before `in` and `of` stands one declarator
abbrev pub is_lone : ListKind → Reading → ℕ → Bool
is_lone (listed.Declarators i) (as_pattern b) count = nat_le count 1
is_lone l a count = true

-- a case that is `default` was seen
abbrev pub default_seen : ListKind → Bool → ℕ
default_seen (listed.Cases r) b = cond b 1 0
default_seen _ b = 0

-- What is given of a list that was begun: the rest of its items, in a reading that is left, and what closes it; at most one case is `default`.
pub record ListGiven (text : SourceText) (l : ListOf) (a : Reading) (o : ℕ) (ps : Parts) (s e : Token) (P : List Pair) : Type 0 where
  pub left : is_left l a ≡ true
  pub mid : Token
  pub runs : RestGiven text (is_stuck l a) l a o ps s mid P
  pub closes : ClosedBy text (closing l.listed) mid e
  pub last : LastGiven text l.listed ps mid
  pub no_rest : is_full l.listed l.seen ≡ false
  pub lone : is_lone l.listed a (part_count l.nodes + part_count ps) ≡ true
  pub one_default : nat_le (case_count l.listed ps + default_seen l.listed l.seen.is_flagged) 1 ≡ true

-- an expression alone in parentheses is one, and a name or a member is a target
pub record LoneRead (l : ListOf) : Type 0 where
  pub value : (n : Tree) → l.nodes ≡ part n none → l.seen.last.is_expression ≡ true
  pub target : (n : Tree) → l.nodes ≡ part n none → is_simple (kind_of n) ≡ true → is_target l.seen.last.assigned ≡ true

-- the position of a declarator: with its value, or alone before `in` or `of`
abbrev pub declarator_as : Bool → Reading → Role
declarator_as i as_expression = declarator i true
declarator_as i (as_pattern b) = declarator i false

-- a comma, or the sign that closes the list, stands there
abbrev pub CommaOr : SourceText → List ℕ → Token → Type 0
CommaOr text w e = Sees text Punctuator (codes ",") e ⊎ Sees text Punctuator w e

-- what may follow a member of a class: what begins another, a `;`, or the brace that closes the body
abbrev pub follows_member : Token → Bool
follows_member t = (begins_key t || (is_sign t && is t.text "*")) || (is_sign t && among t.text (";" ∷ "}" ∷ []))

-- where a property ends; a member, for a field ends where the next token says so
abbrev pub DefinitionEnds : SourceText → Bool → Token → Type 0
DefinitionEnds text true e = SeesBy text Div follows_member e
DefinitionEnds text false e = CommaOr text (codes "}") e

-- where an item ends
abbrev pub ItemEnds : SourceText → ListKind → Tree → Token → Type 0
ItemEnds text listed.Elements n e = CommaOr text (codes "]") e
ItemEnds text listed.Properties n e = DefinitionEnds text false e
ItemEnds text listed.Members n e = DefinitionEnds text true e
ItemEnds text (listed.Declarators i) n e = DeclaredIn text i n e
ItemEnds text (listed.Sequence i) n e = StopsIn text Assignment i n e
ItemEnds text (listed.Cases r) n e = SeesBy text Div (ends until.NextCase) e
ItemEnds text _ n e = CommaOr text (codes ")") e

-- What is given of one item of a list: a node at its position; a hole of an array, before its comma; an expression in a template, and the part behind it,
-- which may be the last.
pub data ItemGiven (text : SourceText) (l : ListKind) (a : Reading) (o : ℕ) (s e : Token) (P : List Pair) : Bool → Parts → Type 0 where
  an_item : {r : Role} {n : Tree} → is_chunked l ≡ false → item_role l a (kind_of n) ≡ Some r → SpellsIn text o r n s e P → ItemEnds text l n e → ItemGiven text l a o s e P false (part n none)
  a_hole : l ≡ listed.Elements → Sees text Punctuator (codes ",") s → e ≡ s → P ≡ [] → ItemGiven text l a o s e P false (gap none)
  a_chunk : {n c : Tree} {m : Token} {last : Bool} → l ≡ listed.Template → SpellsIn text o (expr Expression true Any) n s m P → StopsIn text Expression true n m → ChunkAt text m e c last → ItemGiven text l a o s e P last (part n (part c none))

-- it is a rest
abbrev pub is_last_rest : ListKind → Reading → Parts → Bool
is_last_rest listed.ParenthesizedItems as_expression ps = false
is_last_rest (listed.Sequence i) a ps = false
is_last_rest (listed.Declarators i) a ps = false
is_last_rest l a (part n none) = is_rest (kind_of n)
is_last_rest l a ps = false

-- where a comma behind a rest counts
abbrev pub minds_rest : ListKind → Reading → Bool
minds_rest listed.ParenthesizedItems a = true
minds_rest (listed.Declarators i) a = false
minds_rest l as_expression = false
minds_rest l (as_pattern b) = true

-- the list k is l with this item, in this reading
pub record ItemRead (a : Reading) (l k : ListOf) (last : Bool) (one : Parts) : Type 0 where
  pub left : is_left k a ≡ true
  pub nodes : all_read_as a k.nodes ≡ join (all_read_as a l.nodes) one
  pub no_rest : is_last_rest l.listed a one ≡ false → minds_rest l.listed a ≡ true → k.seen.is_rest ≡ false
  pub marked : is_chunked l.listed ≡ true → k.seen.is_flagged ≡ last
  pub counted : nat_le (default_seen l.listed k.seen.is_flagged) (case_count l.listed one + default_seen l.listed l.seen.is_flagged) ≡ true
  pub lone : l.listed ≡ listed.ParenthesizedItems → a ≡ as_expression → LoneRead k
  pub no_comma : l.listed ≡ listed.ParenthesizedItems → k.seen.has_comma ≡ false
