-- Where a pattern or a name ends, and before `in`, `of` and `=`, nothing goes on.
use Rattle.std.proofs.Common.{◌≡◌, ◌⊎◌, ℕ, ◌<◌, Bool, true, false, List, [], ◌∷◌, ◌++◌, refl, sym, ap, ◌∙◌, subst, inl, inr, arith}
use Rattle.std.specs.Prelude.{IsTrue, codes, Option, Some, None, not, ◌&&◌, ◌||◌}
use Rattle.std.proofs.lemmas.Bool.{and_parts, false≢true}
use Rattle.std.proofs.lemmas.Slice.Eq.{bytes_eq-Decides}
use Rattle.std.proofs.lemmas.Bool.Decides.{nat_tests}
use Rattle.tokens.specs.declared.token.TokenClass.{TokenClass}
use Rattle.tokens.specs.declared.token.TokenClass.TheVariants.{IdentifierName, Punctuator}
use Rattle.tokens.specs.declared.token.Goal.TheVariants.{Div}
use Rattle.tree.specs.declared.kind.Kind.{Kind}
use Rattle.tree.specs.declared.kind.Kind.TheVariants.{AssignmentExpression, Identifier, MemberExpression}
use Rattle.tree.specs.declared.kind.Pair.{Pair}
use Rattle.tree.specs.Tree.{Tree, node, plain, part, none, kind_of, height}
use Rattle.language.specs.declared.Rank.{Rank}
use Rattle.language.specs.declared.Rank.TheVariants.{Expression, Assignment, LeftHandSide, Relational, Shift}
use Rattle.language.specs.declared.Start.TheVariants.{Any}
use Rattle.language.specs.declared.Edge.{Edge}
use Rattle.language.specs.Vocabulary.{takes, takes_number, is_target as is_simple, is_pattern, is_identifier, op_arrow, op_assign, op_call, among, is, op_binary, op_none}
use Rattle.language.specs.Token.{Token, same_class}
use Rattle.language.specs.Edges.{edge, edge_as_written}
use Rattle.language.specs.Pieces.{Role, expr, sub, at, lead, tail}
use Rattle.language.specs.Continuations.{operation, rank_made_by, holds, stops_at}
use Rattle.language.specs.Promises.{ReadBy}
use Rattle.language.specs.Derivation.{Among}
use Rattle.token_cursor.proofs.SeenTokens.{seen_determined}
use Rattle.language.proofs.climbing.SpineContinuations.{makes}
use Rattle.language.proofs.climbing.Spine.{Grows, whole, grow}
use Rattle.language.proofs.climbing.Conditionals.{read_there}
use Rattle.language.proofs.climbing.NamesBehind.{apart_sign}
use Rattle.language.proofs.table.ForDeclarationWays.{two_signs}
use Rattle.tokens.specs.Goals.{allows}
use Rattle.parser_tables.specs.declared.expression_context.ExpressionContext.{ExpressionContext}
use Rattle.language.proofs.climbing.OperatorLoop.{grows_height, part_low}
use Rattle.language.proofs.table.Productions.{way_from, listed}
use Rattle.language.proofs.climbing.OperatorNodes.{kind_bare}
use Rattle.language.proofs.table.LeftRecursiveWays.{between}
use Rattle.language.proofs.table.NodeForms.{assign}
use Rattle.language.specs.Expressions.{infix_pieces}
use Rattle.language.specs.Grammar.{ways, spellings}
use Rattle.tree.specs.Patterns.{pattern_tree}
use Rattle.covers.specs.Shapes.{is_element, is_target, is_pattern as is_listed}
use Rattle.covers.specs.declared.shape.TargetForm.{TargetForm}
use Rattle.covers.specs.declared.shape.TargetForm.TheVariants as assigned
use Rattle.recursive_descent.specs.Completeness.{StopsIn, Over, is_over, Unarrowed, Unparenthesized, NameEnds}
use Rattle.token_cursor.specs.Seen.{ReadsHere, SeesBy}
use Rattle.parser_tables.specs.Tests.{is_each}
use Rattle.token_cursor.specs.SourceText.{SourceText, SeenNext, behind_in}

-- what stands at Primary stands left of `=`
pub primary_number : (z : ℕ) → IsTrue (takes_number 22 z) → IsTrue (takes_number 18 z)
primary_number z h = grind (arith, nat_tests)

pub target_listed : (a : TargetForm) → is_target a ≡ true → is_listed a ≡ true
target_listed assigned.Target h = refl
target_listed _ h = absurd (false≢true h)

pub target_element : (a : TargetForm) → is_target a ≡ true → is_element a ≡ true
target_element assigned.Target h = refl
target_element _ h = absurd (false≢true h)

pub simple_no_pattern : (k : Kind) → is_simple k ≡ true → is_pattern k ≡ false
simple_no_pattern Identifier h = refl
simple_no_pattern MemberExpression h = refl
simple_no_pattern _ h = absurd (false≢true h)

-- a simple target is its own pattern
pub simple_itself : (n : Tree) → is_simple (kind_of n) ≡ true → pattern_tree n ≡ n
simple_itself (node Identifier w g s e ps) h = refl
simple_itself (node MemberExpression w g s e ps) h = refl
simple_itself (node _ w g s e ps) h = absurd (false≢true h)

pub identifier_simple : (k : Kind) → is_identifier k ≡ true → is_simple k ≡ true
identifier_simple Identifier h = refl
identifier_simple _ h = absurd (false≢true h)

pub over_arrow : (b : Bool) → is_over (rank_made_by op_arrow b) ≡ true → b ≡ true
over_arrow true h = refl
over_arrow false h = absurd (false≢true h)

-- the position doesn't take it either, if it takes no sequence
pub over_stops_at : (y : Rank) (i : Bool) (x : Edge) (t : Token) (z : Option Rank) → takes y Expression ≡ false → is_over z ≡ true → stops_at y i x t z ≡ true
over_stops_at y i x t None other h = refl
over_stops_at y i x t (Some Expression) other h = ap (λ c. not c || ((is t.text "in" && not i) || not (holds x Expression))) other
over_stops_at y i x t (Some _) other h = cc

pub or_true : (a b : Bool) → b ≡ true → (a || b) ≡ true
or_true true b h = refl
or_true false b h = h

-- `in` or `of`
pub data IsEach (t : Token) : Type 0 where
  is_in : t.class ≡ IdentifierName → t.text ≡ codes "in" → IsEach t
  is_of : t.class ≡ IdentifierName → t.text ≡ codes "of" → IsEach t

pub name_class : (c : TokenClass) → same_class IdentifierName c ≡ true → c ≡ IdentifierName
name_class IdentifierName h = refl
name_class _ h = absurd (false≢true h)

pub or_parts : (a b : Bool) → (a || (b || false)) ≡ true → (a ≡ true) ⊎ (b ≡ true)
or_parts true b h = inl refl
or_parts false true h = inr refl
or_parts false false h = absurd (false≢true h)

pub each_of : (t : Token) → is_each t ≡ true → IsEach t
each_of t h = let both = and_parts (same_class IdentifierName t.class) (among t.text ("in" ∷ "of" ∷ [])) h in of (or_parts (is t.text "in") (is t.text "of") both.1)
  where
    of : (is t.text "in" ≡ true) ⊎ (is t.text "of" ≡ true) → IsEach t
    of (inl k) = is_in (name_class t.class (and_parts (same_class IdentifierName t.class) (among t.text ("in" ∷ "of" ∷ [])) h).0) ((bytes_eq-Decides t.text (codes "in")).0 k)
    of (inr k) = is_of (name_class t.class (and_parts (same_class IdentifierName t.class) (among t.text ("in" ∷ "of" ∷ [])) h).0) ((bytes_eq-Decides t.text (codes "of")).0 k)

-- behind `in` and `of` nothing goes on without In, and nothing at a symbol that takes no relation
pub each_stops : (x : Edge) (t : Token) → IsEach t → stops_at Expression false x t (rank_made_by (operation t) t.after_break) ≡ true
each_stops x t (is_in c w) =
    let op : operation t ≡ op_binary false Relational Shift = makes t c w refl in
    ap (λ v. stops_at Expression false x t (rank_made_by v t.after_break)) op ∙ ap (λ v. not (takes Expression Relational) || ((is v "in" && not false) || not (holds x Relational))) w
each_stops x t (is_of c w) = let op : operation t ≡ op_none = makes t c w refl in ap (λ v. stops_at Expression false x t (rank_made_by v t.after_break)) op

pub each_left_stops : (i : Bool) (x : Edge) (t : Token) → IsEach t → stops_at LeftHandSide i x t (rank_made_by (operation t) t.after_break) ≡ true
each_left_stops i x t (is_in c w) = let op : operation t ≡ op_binary false Relational Shift = makes t c w refl in ap (λ v. stops_at LeftHandSide i x t (rank_made_by v t.after_break)) op
each_left_stops i x t (is_of c w) = let op : operation t ≡ op_none = makes t c w refl in ap (λ v. stops_at LeftHandSide i x t (rank_made_by v t.after_break)) op

-- an assignment to a simple target is a way
pub assign_way : (st en : ℕ) (left right : Tree) → is_simple (kind_of left) ≡ true → Among (sub (expr LeftHandSide true Any) ∷ between (codes "=") (expr Assignment true Any)) (ways (expr Assignment true Any) (node AssignmentExpression (codes "=") plain st en (part left (part right none))))
unfolding spellings
assign_way st en left right t =
    way_from (expr Assignment true Any) (node AssignmentExpression (codes "=") plain st en (part left (part right none))) (at Assignment (sub (lead LeftHandSide) ∷ infix_pieces (codes "=") ++ sub (tail Assignment Any) ∷ [])) refl
    (listed (assign refl (ap is_simple (kind_bare left) ∙ t))) refl

module _ (text : SourceText) where
  -- where nothing goes on but a comma
  pub over_stopped : (y : Rank) (i : Bool) (n : Tree) {e : Token} → takes y Expression ≡ false → Over text e → StopsIn text y i n e
  over_stopped y i n {e} other over = record { before = λ t m r. over_stops_at y i (edge_as_written (edge n) (behind_in text e)) t (rank_made_by (operation t) t.after_break) other (over.before t m r); apart = over.apart }

  pub over_unarrowed : {e : Token} → Over text e → Unarrowed text e
  over_unarrowed over t m r op = over_arrow t.after_break (subst (λ v. is_over (rank_made_by v t.after_break) ≡ true) op (over.before t m r))

  pub sign_unarrowed : {m x : Token} → ReadsHere text Punctuator (codes "=") m x → Unarrowed text m
  sign_unarrowed {x = x} sign t k r op =
      let same = read_there Token (SeenNext text) (behind_in text) (seen_determined text) sign refl r in
      let assigned : operation t ≡ op_assign = ap operation same.0 ∙ makes (behind_in text x) sign.class sign.text refl in
      let clash : op_assign ≡ op_arrow = sym assigned ∙ op in
      cc

  -- nor does a `(` go on there
  over_parenthesis : {e : Token} → Over text e → Unparenthesized text e
  over_parenthesis {e} over x h =
      let op : operation (behind_in text x) ≡ op_call = makes (behind_in text x) h.class h.text refl in
      let al : IsTrue (allows Div (behind_in text x).class (behind_in text x).text) = subst (λ c. IsTrue (allows Div c (behind_in text x).text)) (sym h.class) (subst (λ c. IsTrue (allows Div Punctuator c)) (sym h.text) refl) in
      absurd (false≢true (subst (λ v. is_over (rank_made_by v (behind_in text x).after_break) ≡ true) op (over.before (behind_in text x) x (record { next = h.next; allowed = al }))))

  sign_parenthesis : {m x : Token} → ReadsHere text Punctuator (codes "=") m x → Unparenthesized text m
  sign_parenthesis sign x h = let two = two_signs Token (SeenNext text) (behind_in text) (seen_determined text) refl refl sign h in absurd (false≢true (ap (λ w. is w "(") two.0))

  -- so a name ends there
  pub over_name : {p : ExpressionContext} {e : Token} → Over text e → NameEnds text p e
  over_name over = record { arrow = λ k. over_unarrowed over; parenthesis = λ k. over_parenthesis over; apart = over.apart }

  pub sign_name : {p : ExpressionContext} {m x : Token} → ReadsHere text Punctuator (codes "=") m x → NameEnds text p m
  sign_name sign = record { arrow = λ k. sign_unarrowed sign; parenthesis = λ k. sign_parenthesis sign; apart = apart_sign Token (SeenNext text) (behind_in text) (seen_determined text) sign refl }

  pub each_there : {e t m : Token} → SeesBy text Div is_each e → ReadBy Token (SeenNext text) (behind_in text) Div e t m → IsEach t
  each_there {e} {t} {m} each r = each_of t (subst (λ v. is_each v ≡ true) (sym (((seen_determined text).same Div e t (behind_in text each.0) m each.0 r.next each.1.0.next r.allowed each.1.0.allowed).0)) each.1.1)

  -- a tree has grown, or it is the whole
  pub grows_or : {o : ℕ} {s0 e : Token} {a : Role} {n : Tree} {P : List Pair} {b : Role} {m : Tree} {mid : Token} {Q : List Pair} → Grows Token (SeenNext text) (behind_in text) o s0 a n e P b m mid Q → (m ≡ n) ⊎ (height m < height n)
  grows_or whole = inl refl
  grows_or {n = n} {m = m} (grow {l = node k w g st en ps} {ps = qs} h led pl eq d gs) = inr (let u = grows_height Token (SeenNext text) (behind_in text) (seen_determined text) gs in let v = part_low ps m qs eq in omega arith)
