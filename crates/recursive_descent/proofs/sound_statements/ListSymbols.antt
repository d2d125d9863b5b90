-- A piece that is a list, and the declaration in the head of a `for` (ECMA-262 13.3, 13.7, 13.12, 14.1, 14.6).
use Rattle.std.proofs.Common.{◌≡◌, ℕ, ◌-◌, ◌≤◌, Bool, true, false, cond, List, [], ◌∷◌, ◌++◌, refl, sym, ap, ◌∙◌, subst, inl, arith}
use Rattle.std.specs.Prelude.{codes, not, ◌&&◌, ◌||◌, nat_le, nat_eq, Option, Some, None}
use Rattle.std.specs.Bool.{OnTrue, OnFalse}
use Rattle.std.proofs.lemmas.Bool.Decides.{nat_tests}
use Rattle.std.proofs.lemmas.Bool.{false≢true}
use Rattle.tokens.specs.declared.token.TokenClass.TheVariants.{IdentifierName, Punctuator}
use Rattle.tokens.specs.declared.token.Goal.TheVariants.{Div}
use Rattle.tokens.specs.declared.token.Token.{Token as Scanned}
use Rattle.tokens.specs.Scanned.{token_of}
use Rattle.token_cursor.specs.CursorState.{CursorState}
use Rattle.tree.specs.declared.kind.Kind.{Kind}
use Rattle.tree.specs.declared.kind.Kind.TheVariants as kind
use Rattle.tree.specs.declared.kind.Pair.{Pair}
use Rattle.tree.specs.declared.kind.Span.{Span}
use Rattle.tree.specs.Tree.{Tree, node, plain, Parts, none, part, gap, join, part_count, kind_of, height, parts_height, bare_parts}
use Rattle.tree.proofs.Shapes.{push-join}
use Rattle.covers.specs.declared.list.ListKind.{ListKind}
use Rattle.covers.specs.declared.list.ListKind.TheVariants as listed
use Rattle.covers.specs.declared.list.ListBuilder.{ListBuilder as ListOf}
use Rattle.covers.specs.Lists.{opening, closing}
use Rattle.tree.specs.Patterns.{pattern_tree, pattern_parts, pattern_kind}
use Rattle.productions.proofs.PatternSummaries.{same_parts_height}
use Rattle.language.specs.declared.Rank.TheVariants.{Expression}
use Rattle.language.specs.declared.Start.{Start}
use Rattle.language.specs.declared.Start.TheVariants.{Any}
use Rattle.language.specs.Covers.{Reading, as_expression, as_pattern}
use Rattle.language.specs.Edges.{last_edge, edge_as_written}
use Rattle.language.specs.Pieces.{class_body, declarator, head, switch_case, Piece, PieceOf, many, sign, pattern_element, sp, nothing, listed as listed_pieces}
use Rattle.language.specs.Statements.{declarators, defaults, lines, is_one}
use Rattle.language.specs.Token.{Token, as_read, table_text}
use Rattle.language.specs.Derivation.{step, token, laid, placed}
use Rattle.language.proofs.list_loops.FirstPieces.{run_never, run_the_part}
use Rattle.token_cursor.proofs.SeenTokens.{seen_determined}
use Rattle.language.proofs.table.ForDeclarationWays.{head_sole}
use Rattle.language.proofs.statements.Blocks.{one_declarator}
use Rattle.language.proofs.table.OneKind.{one_kind}
use Rattle.parser_tables.specs.declared.symbol_lists.PartialStatement.{PartialStatement}
use Rattle.parser_tables.specs.declared.symbol_lists.Symbol.{Symbol as Coded}
use Rattle.recursive_descent.specs.declared.statement_symbols.Expected.TheVariants as wanted
use Rattle.recursive_descent.specs.Soundness.{RunsIn, anywhere, Adds, all_read_as}
use Rattle.recursive_descent.specs.SoundnessOfLists.{SoFarAt, ListAt, SeenRight, whole_of, stood_in, item_pieces, ClosedBy, part_alone, no_part, case_count, asks_edge}
use Rattle.recursive_descent.specs.SoundnessOfStatements.{PieceAt, PutAt, ListPut, HeadPut, a_declaration, EachAt}
use Rattle.recursive_descent.specs.Follows.{BegunAt}
use Rattle.parser_tables.specs.Items.{list_from, is_unseparated}
use Rattle.parser_tables.specs.StatementSymbols.{piece_of}
use Rattle.token_cursor.specs.Seen.{ReadsHere, NameHere, SeesBy, MissesBy, declares}
use Rattle.parser_tables.specs.StatementNodes.{with_list, list_parts, takes_list, takes_listed, list_levels, listed_levels, listed_depth, head_node, fits_head, is_closed}
use Rattle.parser_tables.specs.Tests.{is_each}
use Rattle.recursive_descent.specs.Expectations.{ExpectedAt, HeadAt}
use Rattle.recursive_descent.proofs.reading.AddedPairs.{runs_on}
use Rattle.recursive_descent.proofs.sound_statements.Blocks.{class_body_spelled}
use Rattle.recursive_descent.proofs.sound_statements.BlockSymbols.{adds_within}
use Rattle.recursive_descent.proofs.sound_statements.OneMoreSymbol.{OnePiece}
use Rattle.recursive_descent.proofs.complete_statements.SymbolViews.{something, ListPiece, list_of_list, list_of_head, wants_list}
use Rattle.recursive_descent.proofs.sound_statements.PartSymbols.{wanted_nodes, each_at}
use Rattle.token_cursor.specs.SourceText.{SourceText, SeenNext, behind_in}
use Rattle.recursive_descent.specs.Spelled.{SpellsIn}
use Rattle.recursive_descent.proofs.reading.Forward.{place_mark}
use Rattle.recursive_descent.proofs.reading.SeenClasses.{seen_name}

-- the lists that are pieces
abbrev pub is_put : ListKind → Bool
is_put (listed.Declarators i) = true
is_put (listed.Cases r) = true
is_put listed.Members = true
is_put listed.NoParameter = true
is_put listed.OneParameter = true
is_put listed.Parameters = true
is_put _ = false

-- nothing of such a list so far
pub empty_list : (text : SourceText) (at o : ℕ) (m : Token) (l : ListKind) → is_put l ≡ true → SoFarAt text Any (list_from l at) o m m []
empty_list text at o m (listed.Declarators i) is as_expression = λ fits ps e Q d. d
empty_list text at o m (listed.Declarators i) is (as_pattern b) = λ fits ps e Q d. d
empty_list text at o m (listed.Cases r) is as_expression = λ fits ps e Q d. d
empty_list text at o m (listed.Cases r) is (as_pattern b) = λ fits ps e Q d. d
empty_list text at o m listed.Members is as_expression = λ fits ps e Q d. d
empty_list text at o m listed.Members is (as_pattern b) = λ fits ps e Q d. d
empty_list text at o m listed.NoParameter is as_expression = λ fits ps e Q d. d
empty_list text at o m listed.NoParameter is (as_pattern b) = λ fits ps e Q d. d
empty_list text at o m listed.OneParameter is as_expression = λ fits ps e Q d. d
empty_list text at o m listed.OneParameter is (as_pattern b) = λ fits ps e Q d. d
empty_list text at o m listed.Parameters is as_expression = λ fits ps e Q d. d
empty_list text at o m listed.Parameters is (as_pattern b) = λ fits ps e Q d. d
empty_list text at o m listed.Arguments is a = absurd (false≢true is)
empty_list text at o m listed.AsyncArguments is a = absurd (false≢true is)
empty_list text at o m listed.Elements is a = absurd (false≢true is)
empty_list text at o m listed.Properties is a = absurd (false≢true is)
empty_list text at o m listed.ParenthesizedItems is a = absurd (false≢true is)
empty_list text at o m listed.Template is a = absurd (false≢true is)
empty_list text at o m (listed.Sequence i) is a = absurd (false≢true is)

-- what such a list adds to the parts before it
abbrev pub list_added : ListKind → Option Scanned → ℕ → Span → Parts → Parts
list_added (listed.Declarators false) word e span ps = part (head_node word e ps) none
list_added listed.Parameters word e span ps = pattern_parts 0 ps
list_added listed.NoParameter word e span ps = pattern_parts 0 ps
list_added listed.OneParameter word e span ps = pattern_parts 0 ps
list_added listed.Members word e span ps = part (node kind.ClassBody [] plain span.start span.end ps) none
list_added _ word e span ps = ps

pub list_joined : (l : ListKind) (word : Option Scanned) (e : ℕ) (span : Span) (qs ps : Parts) → list_parts l word e span qs ps ≡ join qs (list_added l word e span ps)
list_joined (listed.Declarators false) word e span qs ps = push-join qs (head_node word e ps)
list_joined (listed.Declarators true) word e span qs ps = refl
list_joined listed.Members word e span qs ps = push-join qs (node kind.ClassBody [] plain span.start span.end ps)
list_joined _ word e span qs ps = refl

head_height : (word : Option Scanned) (e : ℕ) (ps : Parts) → height (head_node word e ps) ≡ height (head_node None 0 ps)
head_height None e ps = refl
head_height (Some t) e ps = refl

list_low : (l : ListKind) (word : Option Scanned) (e : ℕ) (span : Span) (ps : Parts) (high : ℕ) → parts_height ps ≤ high - listed_depth l → listed_levels l ps ≤ high → parts_height (list_added l word e span ps) ≤ high
list_low (listed.Declarators false) word e span ps high a b = let same = head_height word e ps in omega arith
list_low (listed.Declarators true) word e span ps high a b = omega arith
list_low listed.Parameters word e span ps high a b = let same = same_parts_height 0 ps in omega arith
list_low listed.NoParameter word e span ps high a b = let same = same_parts_height 0 ps in omega arith
list_low listed.OneParameter word e span ps high a b = let same = same_parts_height 0 ps in omega arith
list_low listed.Members word e span ps high a b = omega arith
list_low _ word e span ps high a b = omega arith

one_most : (n : ℕ) (b : Bool) → nat_le n (cond b 1 0) ≡ true → nat_le n 1 ≡ true
one_most n true h = h
one_most n false h = grind (arith, nat_tests)

and_parts : (a b : Bool) → (a && b) ≡ true → (a ≡ true) × (b ≡ true)
and_parts true true h = (refl, refl)
and_parts true false h = absurd (false≢true h)
and_parts false b h = absurd (false≢true h)

and_true : (a : Bool) → (a && true) ≡ a
and_true true = refl
and_true false = refl

pub both_mapped : (qs : List Piece) (q : Piece) → anywhere (qs ++ q ∷ []) ≡ anywhere qs ++ Rattle.language.specs.Pieces.settle_piece Expression true Any q ∷ []
both_mapped [] q = refl
both_mapped (r ∷ qs) q = ap (λ x. Rattle.language.specs.Pieces.settle_piece Expression true Any r ∷ x) (both_mapped qs q)

module _ (text : SourceText) (l : ListOf) (o : ℕ) (s x e : Token) (P : List Pair) (w : ListAt text Any l o x e P) where
  -- a list with brackets round it
  in_brackets : (m : ListKind) (a : Reading) (u v : List ℕ) → l.listed ≡ m → whole_of m l a ≡ true → closing m ≡ Some v → ReadsHere text Punctuator u s x → RunsIn text o (stood_in Any m (item_pieces m a (all_read_as a l.nodes))) (all_read_as a l.nodes) x w.mid P × ReadsHere text Punctuator v w.mid e
  in_brackets m a u v is whole close left =
      let runs = subst (λ z. RunsIn text o (stood_in Any z (item_pieces z a (all_read_as a l.nodes))) (all_read_as a l.nodes) x w.mid P) is (w.runs a (ap (λ z. whole_of z l a) is ∙ whole)) in
      let right = subst (λ z. ClosedBy text z w.mid e) close (subst (λ z. ClosedBy text (closing z) w.mid e) is w.closes) in
      (runs, right)

  -- with its brackets
  between : (qs : List Piece) (ps : Parts) → ReadsHere text Punctuator (codes "(") s x → RunsIn text o (anywhere qs) ps x w.mid P → ReadsHere text Punctuator (codes ")") w.mid e → RunsIn text o (anywhere (sign "(" ∷ qs ++ sign ")" ∷ [])) ps s e P
  between qs ps left d right = step (token left) (subst (λ zs. RunsIn text o zs ps x e P) (sym (both_mapped qs (sign ")"))) (runs_on text d (token right)))

  no_parameters : (ps : Parts) → RunsIn text o (anywhere (no_part ps)) ps x w.mid P → (ps ≡ none) × RunsIn text o [] none x w.mid P
  no_parameters none d = (refl, d)
  no_parameters (part n ps) d = absurd (run_never Token (SeenNext text) (behind_in text) d)
  no_parameters (gap ps) d = absurd (run_never Token (SeenNext text) (behind_in text) d)

  -- what such a list puts
  put_listed : (m : ListKind) (word : Option Scanned) (each : Bool) → l.listed ≡ m → takes_listed m word each l ≡ true → SeenRight l → ((v : List ℕ) → opening m ≡ Some v → ReadsHere text Punctuator v s x) → (opening m ≡ None → x ≡ s) → ((v : List ℕ) → opening m ≡ Some v → x.start ≡ l.span.start) →
      ListPut text o m s e l.seen.edge (list_added m word e.stop l.span l.nodes) P
  put_listed (listed.Declarators true) word each is fits seen open_sign stays start =
      let runs = subst (λ z. RunsIn text o (stood_in Any z (item_pieces z as_expression l.nodes)) l.nodes x w.mid P) is (w.runs as_expression (ap (λ z. whole_of z l as_expression) is ∙ and_true (not l.seen.is_flagged) ∙ fits)) in
      let ended : e ≡ w.mid = subst (λ z. ClosedBy text (closing z) w.mid e) is w.closes in
      let there = subst (λ z. RunsIn text o (anywhere (declarators (declarator true true) l.nodes)) l.nodes z w.mid P) (stays refl) runs in
      (subst (λ z. RunsIn text o (anywhere (declarators (declarator true true) l.nodes)) l.nodes s z P) (sym ended) there, w.edge (ap asks_edge is) ∙ ap (λ z. edge_as_written (last_edge l.nodes) z) (sym ended))
  put_listed (listed.Declarators false) word each is fits seen open_sign stays start = tt
  put_listed (listed.Cases r) word each is fits seen open_sign stays start =
      let b = in_brackets (listed.Cases r) as_expression (codes "{") (codes "}") is refl refl (open_sign (codes "{") refl) in (
        step (token (open_sign (codes "{") refl)) (subst (λ zs. RunsIn text o zs l.nodes x e P) (sym (both_mapped (lines (switch_case r) l.nodes) (sign "}"))) (runs_on text b.0 (token b.1))),
        one_most (defaults l.nodes) l.seen.is_flagged (subst (λ z. nat_le (case_count z l.nodes) (cond l.seen.is_flagged 1 0) ≡ true) is seen.one_default),
      )
  put_listed listed.Members word each is fits seen open_sign stays start =
      let b = in_brackets listed.Members as_expression (codes "{") (codes "}") is refl refl (open_sign (codes "{") refl) in
      let whole = class_body_spelled text l.nodes (open_sign (codes "{") refl) (start (codes "{") refl) b.0 b.1 in
      record { put = node kind.ClassBody [] plain l.span.start l.span.end l.nodes; parts = refl; spelled = subst (λ z. SpellsIn text o class_body (node kind.ClassBody [] plain l.span.start z l.nodes) s e P) (sym w.ends) whole }
  put_listed listed.NoParameter word each is fits seen open_sign stays start =
      let b = in_brackets listed.NoParameter (as_pattern true) (codes "(") (codes ")") is (and_true _ ∙ fits) refl (open_sign (codes "(") refl) in
      let gone = no_parameters (pattern_parts 0 l.nodes) b.0 in
      (between [] none (open_sign (codes "(") refl) gone.1 b.1, gone.0)
  put_listed listed.OneParameter word each is fits seen open_sign stays start =
      let b = in_brackets listed.OneParameter (as_pattern true) (codes "(") (codes ")") is (and_true _ ∙ fits) refl (open_sign (codes "(") refl) in
      between (part_alone (pattern_parts 0 l.nodes)) (pattern_parts 0 l.nodes) (open_sign (codes "(") refl) b.0 b.1
  put_listed listed.Parameters word each is fits seen open_sign stays start =
      let b = in_brackets listed.Parameters (as_pattern true) (codes "(") (codes ")") is (and_true _ ∙ fits) refl (open_sign (codes "(") refl) in
      between (listed_pieces (pattern_element true) (pattern_parts 0 l.nodes)) (pattern_parts 0 l.nodes) (open_sign (codes "(") refl) b.0 b.1
  put_listed listed.Arguments word each is fits seen open_sign stays start = tt
  put_listed listed.AsyncArguments word each is fits seen open_sign stays start = tt
  put_listed listed.Elements word each is fits seen open_sign stays start = tt
  put_listed listed.Properties word each is fits seen open_sign stays start = tt
  put_listed listed.ParenthesizedItems word each is fits seen open_sign stays start = tt
  put_listed listed.Template word each is fits seen open_sign stays start = tt
  put_listed (listed.Sequence i) word each is fits seen open_sign stays start = tt

more_than_one : (n : ℕ) → 2 ≤ n → nat_eq n 1 ≡ true → ⊥
more_than_one n h k = grind (arith, nat_tests)

module _ (text : SourceText) (o : ℕ) where
  -- a declarator is one as a pattern too
  pub same_kind : (k : Kind) → pattern_kind k ≡ kind.VariableDeclarator → k ≡ kind.VariableDeclarator
  same_kind kind.ArrayExpression h = cc
  same_kind kind.ObjectExpression h = cc
  same_kind kind.AssignmentExpression h = cc
  same_kind kind.SpreadElement h = cc
  same_kind _ h = h

  pub kind_same : (n : Tree) → kind_of n ≡ kind.VariableDeclarator → pattern_tree n ≡ n
  kind_same (node k w g s e ps) h = (λ i. pattern_tree (node (h i) w g s e ps)) ∙ (λ i. node (sym h i) w g s e ps)

  pub pattern_kind_of : (n : Tree) → kind_of (pattern_tree n) ≡ pattern_kind (kind_of n)
  pattern_kind_of (node k w g s e ps) = refl

  pub declarator_kind : {i b : Bool} (n : Tree) {s e : Token} {P : List Pair} → SpellsIn text o (declarator i b) n s e P → kind_of n ≡ kind.VariableDeclarator
  declarator_kind {i} {b} n d = ap kind_of ((one_kind Token (SeenNext text) (behind_in text) (seen_determined text) {Fine = λ n v. Unit {0}} (one_declarator i b)).told d tt).tree

  declarator_same : {i b : Bool} (n : Tree) {s e : Token} {P : List Pair} → SpellsIn text o (declarator i b) (pattern_tree n) s e P → pattern_tree n ≡ n
  declarator_same n d = kind_same n (same_kind (kind_of n) (sym (pattern_kind_of n) ∙ declarator_kind (pattern_tree n) d))

  -- one declarator
  record OneDeclarator (a : Bool) (ps : Parts) (s e : Token) (P : List Pair) : Type 0 where
    one : is_one (bare_parts ps) ≡ true
    runs : RunsIn text o (anywhere (declarators (declarator false a) (bare_parts ps))) ps s e P

  one_there : (ps : Parts) {s e : Token} {P : List Pair} → nat_eq (part_count ps) 1 ≡ true → RunsIn text o (anywhere (declarators (declarator false false) (pattern_parts 0 ps))) (pattern_parts 0 ps) s e P → OneDeclarator false ps s e P
  one_there none h d = absurd (run_never Token (SeenNext text) (behind_in text) d)
  one_there (gap ps) h d = absurd (run_never Token (SeenNext text) (behind_in text) d)
  one_there (part n none) {s} {e} {P} h d =
      let one = run_the_part Token (SeenNext text) (behind_in text) d in
      record { one = refl; runs = subst (λ y. RunsIn text o (anywhere (declarators (declarator false false) (part y none))) (part y none) s e P) (declarator_same n one.spelled) d }
  one_there (part n (gap ps)) h d = absurd (run_never Token (SeenNext text) (behind_in text) d)
  one_there (part n (part m ps)) h d = absurd (more_than_one (part_count (part n (part m ps))) (omega arith) h)

  pub declarators_bare : (a : Rattle.language.specs.Pieces.Role) (ps : Parts) → declarators a (bare_parts ps) ≡ declarators a ps
  declarators_bare a none = refl
  declarators_bare a (part n none) = refl
  declarators_bare a (part n (part m ps)) = ap (λ qs. Rattle.language.specs.Pieces.put a ∷ sign "," ∷ sp ∷ qs) (declarators_bare a (part m ps))
  declarators_bare a (part n (gap ps)) = refl
  declarators_bare a (gap ps) = refl

  -- the declaration, behind its word
  head_spelled : (b : Bool) (ps : Parts) {s m e : Token} {P : List Pair} → ReadsHere text IdentifierName m.text s m → declares m.text ≡ true → (b || is_one (bare_parts ps)) ≡ true → RunsIn text o (anywhere (declarators (declarator false b) (bare_parts ps))) ps m e P →
      SpellsIn text o (head b) (node kind.VariableDeclaration m.text plain m.start e.stop ps) s e P
  head_spelled b ps {s} {m} {e} {P} read word some d =
      (head_sole Token (SeenNext text) (behind_in text) (seen_determined text) {Fine = λ n v. Unit {0}} b read word).spells (placed read.next refl)
      (subst (λ c. RunsIn text o (anywhere (cond c (sp ∷ declarators (declarator false b) (bare_parts ps)) nothing)) ps m e P) (sym some) (step laid d))

taken_put : (m : ListKind) (word : Option Scanned) (each : Bool) (l : ListOf) → takes_listed m word each l ≡ true → is_put m ≡ true
taken_put (listed.Declarators i) word each l h = refl
taken_put (listed.Cases r) word each l h = refl
taken_put listed.Members word each l h = refl
taken_put listed.NoParameter word each l h = refl
taken_put listed.OneParameter word each l h = refl
taken_put listed.Parameters word each l h = refl
taken_put _ word each l h = absurd (false≢true h)

-- such a list begins without items
pub begun_list : (m : ListKind) (s x : CursorState) {l : ListOf} → is_put m ≡ true → l.listed ≡ m → BegunAt s x l → l ≡ list_from m l.span.start
begun_list (listed.Declarators i) s x {l = l} h is begun = (begun.2 (ap opening is) (ap is_unseparated is)).1 ∙ ap (λ z. list_from z l.span.start) is
begun_list (listed.Cases r) s x {l = l} h is begun = (begun.1 (codes "{") (ap opening is)).1 ∙ ap (λ z. list_from z l.span.start) is
begun_list listed.Members s x {l = l} h is begun = (begun.1 (codes "{") (ap opening is)).1 ∙ ap (λ z. list_from z l.span.start) is
begun_list listed.NoParameter s x {l = l} h is begun = (begun.1 (codes "(") (ap opening is)).1 ∙ ap (λ z. list_from z l.span.start) is
begun_list listed.OneParameter s x {l = l} h is begun = (begun.1 (codes "(") (ap opening is)).1 ∙ ap (λ z. list_from z l.span.start) is
begun_list listed.Parameters s x {l = l} h is begun = (begun.1 (codes "(") (ap opening is)).1 ∙ ap (λ z. list_from z l.span.start) is
begun_list listed.Arguments s x h is begun = absurd (false≢true h)
begun_list listed.AsyncArguments s x h is begun = absurd (false≢true h)
begun_list listed.Elements s x h is begun = absurd (false≢true h)
begun_list listed.Properties s x h is begun = absurd (false≢true h)
begun_list listed.ParenthesizedItems s x h is begun = absurd (false≢true h)
begun_list listed.Template s x h is begun = absurd (false≢true h)
begun_list (listed.Sequence i) s x h is begun = absurd (false≢true h)

pub stays_before : (m : ListKind) (s x : CursorState) {l : ListOf} → is_put m ≡ true → l.listed ≡ m → BegunAt s x l → opening m ≡ None → x.last ≡ s.last
stays_before (listed.Declarators i) s x h is begun sign_missing = (begun.2 (ap opening is) (ap is_unseparated is)).0
stays_before (listed.Cases r) s x h is begun sign_missing = cc
stays_before listed.Members s x h is begun sign_missing = cc
stays_before listed.NoParameter s x h is begun sign_missing = cc
stays_before listed.OneParameter s x h is begun sign_missing = cc
stays_before listed.Parameters s x h is begun sign_missing = cc
stays_before listed.Arguments s x h is begun sign_missing = cc
stays_before listed.AsyncArguments s x h is begun sign_missing = cc
stays_before listed.Elements s x h is begun sign_missing = cc
stays_before listed.Properties s x h is begun sign_missing = cc
stays_before listed.ParenthesizedItems s x h is begun sign_missing = cc
stays_before listed.Template s x h is begun sign_missing = cc
stays_before (listed.Sequence i) s x h is begun sign_missing = cc

seen_first : (m : ListKind) (at : ℕ) → SeenRight (list_from m at)
seen_first m at = record { together = refl; target = λ n a b c d. cc; one_default = of m }
  where
    of : (m : ListKind) → nat_le (case_count m none) 0 ≡ true
    of (listed.Cases r) = refl
    of _ = refl

pub list_of : {a b : ListKind} → Some (wanted.List a) ≡ Some (wanted.List b) → b ≡ a
list_of h = cc

one_at_most : (n : ℕ) → nat_eq n 1 ≡ true → nat_le n 1 ≡ true
one_at_most n h = grind (arith, nat_tests)

-- the declaration in the head of a `for`
module _ (text : SourceText) (l : ListOf) (o : ℕ) (s x e : Token) (P : List Pair) (t : Scanned) (w : ListAt text Any l o x e P) (is : l.listed ≡ listed.Declarators false) (word : NameHere text declares s x) (same : x ≡ as_read (token_of t)) where
  head_is : node kind.VariableDeclaration x.text plain x.start e.stop l.nodes ≡ head_node (Some t) e.stop l.nodes
  head_is =
      let class : t.class ≡ IdentifierName = sym (ap (λ (z : Token). z.class) same) ∙ seen_name text.language x.class x.text word.0.class in
      let spelling : x.text ≡ t.text.now = ap (λ (z : Token). z.text) same ∙ ap (λ c. table_text c t.text.now) class in
      let start : x.start ≡ t.start = ap (λ (z : Token). z.start) same in
      λ i. node kind.VariableDeclaration (spelling i) plain (start i) e.stop l.nodes

  ended : e ≡ w.mid
  ended = subst (λ z. ClosedBy text (closing z) w.mid e) is w.closes

  head_runs : (a : Reading) → whole_of (listed.Declarators false) l a ≡ true → RunsIn text o (anywhere (item_pieces (listed.Declarators false) a (all_read_as a l.nodes))) (all_read_as a l.nodes) x e P
  head_runs a whole =
      let runs = subst (λ z. RunsIn text o (stood_in Any z (item_pieces z a (all_read_as a l.nodes))) (all_read_as a l.nodes) x w.mid P) is (w.runs a (ap (λ z. whole_of z l a) is ∙ whole)) in
      subst (λ z. RunsIn text o (anywhere (item_pieces (listed.Declarators false) a (all_read_as a l.nodes))) (all_read_as a l.nodes) x z P) (sym ended) runs

  head_put_at : (b : Bool) → SpellsIn text o (head b) (node kind.VariableDeclaration x.text plain x.start e.stop l.nodes) s e P → PutAt text o (head b) s e (part (head_node (Some t) e.stop l.nodes) none) P
  head_put_at b d = record { put = head_node (Some t) e.stop l.nodes; parts = refl; spelled = subst (λ z. SpellsIn text o (head b) z s e P) head_is d }

  declared_head : (each : Bool) → fits_head each l ≡ true → EachAt text each e → HeadPut text o s e (part (head_node (Some t) e.stop l.nodes) none) P
  declared_head false fits at =
      let runs = head_runs as_expression (and_true (not l.seen.is_flagged) ∙ fits) in
      let runs' = subst (λ qs. RunsIn text o (anywhere qs) l.nodes x e P) (sym (declarators_bare text o (declarator false true) l.nodes)) runs in
      a_declaration false at (head_put_at true (head_spelled text o true l.nodes word.0 word.1 refl runs'))
  declared_head true fits at =
      let both = and_parts (nat_eq (part_count l.nodes) 1) (is_closed l.seen.edge) fits in
      let runs = head_runs (as_pattern true) (and_true _ ∙ (λ i. one_at_most (part_count l.nodes) both.0 i && both.1 i)) in
      let one = one_there text o l.nodes both.0 runs in
      a_declaration true at (head_put_at false (head_spelled text o false l.nodes word.0 word.1 one.one one.runs))

module _ (text : SourceText) (r : Bool) (s m x : CursorState) (b c : PartialStatement) (high o : ℕ) (e : Token) (P : List Pair) (l0 l : ListOf) (which : ListKind) (each : Bool) (same : text ≡ s.text) (here : m.text ≡ text)
    (is : l0.listed ≡ which) (begun : BegunAt m x l0) (kept : l.listed ≡ l0.listed) (from : l.span.start ≡ l0.span.start) (seen : SeenRight l0 → SeenRight l) (at : EachAt text each e) (fits : takes_list c.word each l ≡ true)
    (whole : SoFarAt text Any l0 o x.last x.last [] → ListAt text Any l o x.last e P)
  where
    taken : takes_listed which c.word each l ≡ true
    taken = ap (λ z. takes_listed z c.word each l) (sym (kept ∙ is)) ∙ fits

    is_first : l0 ≡ list_from which l0.span.start
    is_first = begun_list which m x {l = l0} (taken_put which c.word each l taken) is begun

    whole_list : ListAt text Any l o x.last e P
    whole_list = whole (subst (λ z. SoFarAt text Any z o x.last x.last []) (sym is_first) (empty_list text l0.span.start o x.last which (taken_put which c.word each l taken)))

    seen_whole : SeenRight l
    seen_whole = seen (subst SeenRight (sym is_first) (seen_first which l0.span.start))

    sign_there : (v : List ℕ) → opening which ≡ Some v → ReadsHere text Punctuator v m.last x.last
    sign_there v h = subst (λ z. ReadsHere z Punctuator v m.last x.last) here (begun.1 v (ap opening is ∙ h)).0

    start_there : (v : List ℕ) → opening which ≡ Some v → x.last.start ≡ l.span.start
    start_there v h = sym (from ∙ place_mark m begun.0 (begun.1 v (ap opening is ∙ h)).0)

    head_list : (word : Option Scanned) (which' : ListKind) → which ≡ which' → word ≡ c.word → HeadAt s m (wanted.List which') word → HeadPut text o s.last e (list_added which' word e.stop l.span l.nodes) P
    head_list (Some t) (listed.Declarators false) is' there h =
        let head_fits : fits_head each l ≡ true = (λ i. takes_listed (sym is' i) (there i) each l) ∙ taken in
        let word = subst (λ z. NameHere z declares s.last m.last) (sym same) h.0 in
        let stays : x.last ≡ m.last = stays_before which m x {l = l0} (taken_put which c.word each l taken) is begun (ap opening is') in
        declared_head text l o s.last x.last e P t whole_list (kept ∙ is ∙ is') (subst (λ z. NameHere text declares s.last z) (sym stays) word) (stays ∙ h.1) each head_fits at
    head_list None (listed.Declarators false) is' there h = absurd h
    head_list None (listed.Declarators true) is' there h = absurd h
    head_list (Some t) (listed.Declarators true) is' there h = absurd h
    head_list None _ is' there h = absurd h
    head_list (Some t) _ is' there h = absurd h

    put_by : {p : Coded} → ListPiece p → ExpectedAt p r s m b c high (wanted.List which) → PieceAt text r o (piece_of p) s.last e b.edge l.seen.edge (list_added which c.word e.stop l.span l.nodes) P
    put_by (list_of_list {k}) h =
        let put = put_listed text l o m.last x.last e P whole_list which c.word each (kept ∙ is) taken seen_whole sign_there (stays_before which m x {l = l0} (taken_put which c.word each l taken) is begun) start_there in
        subst (λ z. ListPut text o z s.last e l.seen.edge (list_added which c.word e.stop l.span l.nodes) P) (list_of h.0) (subst (λ z. ListPut text o which z e l.seen.edge (list_added which c.word e.stop l.span l.nodes) P) h.1.0 put)
    put_by list_of_head h = inl (head_list c.word which refl refl h.0)

    list_put : (p : Coded) → ExpectedAt p r s m b c high (wanted.List which) → PieceAt text r o (piece_of p) s.last e b.edge l.seen.edge (list_added which c.word e.stop l.span l.nodes) P
    list_put p h = put_by (wants_list p r s m b c high which h) h

pub list_piece : {s m x e : CursorState} {old q0 q1 new : List Pair} {r : Bool} (p : Coded) {b : PartialStatement} (c : PartialStatement) {d : PartialStatement} {high : ℕ} (l0 l : ListOf) (which : ListKind) (each : Bool) (limit : ℕ) → m.text ≡ s.text → x.text ≡ m.text → e.text ≡ x.text → m.opened ≡ s.opened → q0 ≡ old → x.opened ≡ m.opened → q1 ≡ q0 →
    ExpectedAt p r s m b c high (wanted.List which) → l0.listed ≡ which → BegunAt m x l0 → (l.listed ≡ l0.listed) × (l.span.start ≡ l0.span.start) → (SeenRight l0 → SeenRight l) →
    Adds x e q1 new (λ o a z Q. (f : Start) (k : Token) (P : List Pair) → SoFarAt x.text f l0 o k a P → ListAt x.text f l o k z (P ++ Q)) → OnTrue each (SeesBy e.text Div is_each e.last) → OnFalse each (MissesBy e.text Div is_each e.last) →
    d ≡ with_list c l e.last.stop → (takes_list c.word each l ≡ true) × (list_levels l ≤ high) → (parts_height l0.nodes ≤ limit → parts_height l.nodes ≤ limit) → limit ≡ high - listed_depth which → OnePiece s e old new r (piece_of p) b d high
list_piece {s} {m} {x} {e} {r = r} p {b} c {d} {high} l0 l which each limit t0 t1 t2 o0 p0 o1 p1 h is begun kept seen a sees misses put fits low room =
    let at : EachAt s.text each e.last = subst (λ z. EachAt z each e.last) (t2 ∙ t1 ∙ t0) (each_at e.text e.last each sees misses) in
    let taken_here : takes_listed which c.word each l ≡ true = ap (λ z. takes_listed z c.word each l) (sym (kept.0 ∙ is)) ∙ fits.0 in
    let first = begun_list which m x {l = l0} (taken_put which c.word each l taken_here) is begun in
    let none_high : parts_height l0.nodes ≡ 0 = ap (λ (z : ListOf). parts_height z.nodes) first in
    let parts_low = low (omega arith) in
    let levels : listed_levels which l.nodes ≤ high = subst (λ z. listed_levels z l.nodes ≤ high) (kept.0 ∙ is) fits.1 in
    let parts : d.nodes ≡ join b.nodes (list_added which c.word e.last.stop l.span l.nodes) = ap (λ (z : PartialStatement). z.nodes) put ∙ ap (λ z. list_parts z c.word e.last.stop l.span c.nodes l.nodes) (kept.0 ∙ is) ∙ list_joined which c.word e.last.stop l.span c.nodes l.nodes ∙ ap (λ z. join z (list_added which c.word e.last.stop l.span l.nodes)) (wanted_nodes p r s m b c high (wanted.List which) (something (wanted.List which) refl) h) in
    record {
      put = list_added which c.word e.last.stop l.span l.nodes;
      nodes = parts;
      low = list_low which c.word e.last.stop l.span l.nodes high (omega arith) levels;
      adds = adds_within (o1 ∙ o0) (p1 ∙ p0) a refl refl (λ o Q v.
          let right : d.edge ≡ l.seen.edge = ap (λ (z : PartialStatement). z.edge) put in
          subst (λ z. PieceAt s.text r o (piece_of p) s.last e.last b.edge z (list_added which c.word e.last.stop l.span l.nodes) Q) (sym right)
          (list_put s.text r s m x b c high o e.last Q l0 l which each refl t0 is begun kept.0 kept.1 seen at fits.0
          (λ so_far. subst (λ z. ListAt z Any l o x.last e.last Q) (t1 ∙ t0) (v Any x.last [] (subst (λ z. SoFarAt z Any l0 o x.last x.last []) (sym (t1 ∙ t0)) so_far))) p h));
    }
