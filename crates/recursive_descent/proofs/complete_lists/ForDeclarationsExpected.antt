-- What the declaration in the head of a `for` wants of what is given: its declarators behind the word (ECMA-262 13.7.4, 13.7.5).
use Rattle.std.proofs.Common.{◌≡◌, ℕ, Bool, true, false, not, List, [], ◌∷◌, refl, sym, ap, ◌∙◌, subst, arith}
use Rattle.std.specs.Prelude.{codes, cond, nat_le, nat_eq, ◌&&◌, ◌||◌, Option, Some, None}
use Rattle.std.proofs.lemmas.Bool.{and_parts, false≢true}
use Rattle.tokens.specs.Scanned.{token_of}
use Rattle.tokens.specs.declared.token.TokenClass.{TokenClass}
use Rattle.tokens.specs.declared.token.TokenClass.TheVariants.{IdentifierName, Punctuator}
use Rattle.tokens.specs.declared.token.Goal.TheVariants.{Div, RegExp}
use Rattle.tokens.specs.declared.token.Token.{Token as Scanned}
use Rattle.token_cursor.specs.CursorState.{CursorState}
use Rattle.tree.specs.declared.kind.Kind.TheVariants.{VariableDeclaration, VariableDeclarator}
use Rattle.tree.specs.declared.kind.Pair.{Pair}
use Rattle.tree.specs.Tree.{Tree, node, plain, Parts, none, part, gap, kind_of, part_count, parts_height, bare_parts}
use Rattle.covers.specs.declared.list.ListKind.{ListKind}
use Rattle.covers.specs.declared.list.ListKind.TheVariants as listed
use Rattle.tree.specs.Patterns.{pattern_tree, pattern_parts}
use Rattle.language.specs.declared.Edge.{Edge}
use Rattle.language.specs.declared.Rank.TheVariants.{Expression, LeftHandSide}
use Rattle.language.specs.declared.Start.TheVariants.{Any}
use Rattle.language.specs.Covers.{as_expression, as_pattern}
use Rattle.language.specs.Derivation.{Placed}
use Rattle.language.specs.ExpressionStart.{no_start, expression_start_by}
use Rattle.language.specs.Pieces.{declarator, expr, head, nothing, sp}
use Rattle.language.specs.Promises.{is_free, Apart}
use Rattle.language.specs.Statements.{declarators, is_one}
use Rattle.language.specs.Token.{Token, as_read, same_class, table_text}
use Rattle.language.specs.Vocabulary.{among, is_reserved}
use Rattle.language.proofs.table.Begins.{among_by}
use Rattle.language.proofs.covers.CoverElements.{BoundForm, bound_form, target_moves}
use Rattle.language.proofs.covers.CoverElements as form
use Rattle.language.proofs.covers.CoverReadings.{named_unbracketed}
use Rattle.language.proofs.table.TokenFirstWays.{opens}
use Rattle.language.proofs.table.ForDeclarationWays.{is_declaration_word, head_sole}
use Rattle.language.proofs.list_loops.FirstPieces.{run_laid, run_never, run_the_part}
use Rattle.language.proofs.table.SoleWays.{same_span, place_node}
use Rattle.language.proofs.climbing.Supers.{none_begins}
use Rattle.token_cursor.proofs.SeenTokens.{seen_determined}
use Rattle.unambiguity_laws.proofs.statements.ForDeclarations.{HeadEnds, at_in, at_of, at_semicolon, head_declared, head_comma}
use Rattle.parser_tables.specs.declared.symbol_lists.Symbol.TheVariants as code
use Rattle.recursive_descent.specs.declared.statement_symbols.Expected.TheVariants as wanted
use Rattle.recursive_descent.specs.Soundness.{RunsIn, anywhere}
use Rattle.recursive_descent.specs.SoundnessOfStatements.{PutAt, EachAt}
use Rattle.recursive_descent.specs.CompletenessOfLists.{LastDeclared}
use Rattle.recursive_descent.specs.CompletenessOfStatements.{HeadGiven, a_declaration, an_expression, a_target}
use Rattle.token_cursor.specs.Seen.{NameHere, Sees, SeesBy, declares}
use Rattle.parser_tables.specs.StatementNodes.{head_node, fits_head, is_closed}
use Rattle.parser_tables.specs.Tests.{is_each}
use Rattle.recursive_descent.specs.Expectations.{HeadAt}
use Rattle.recursive_descent.proofs.complete_lists.ListsExpected.{ListWanted}
use Rattle.recursive_descent.proofs.sound_statements.ListSymbols.{declarators_bare, declarator_kind, kind_same, same_kind, pattern_kind_of}
use Rattle.token_cursor.proofs.TokensAhead.{mark_by, name_by}
use Rattle.token_cursor.specs.SourceText.{SourceText, SeenNext, behind_in}
use Rattle.recursive_descent.specs.Spelled.{SpellsIn, AllOfLanguage}
use Rattle.recursive_descent.proofs.reading.LanguageTrees.{first_of_language, parts_of_language}
use Rattle.recursive_descent.proofs.reading.SeenClasses.{seen_name}

-- no expression begins with the word of a declaration
word_opens : (w : List ℕ) → is_declaration_word w ≡ true → expression_start_by IdentifierName w ≡ no_start
unfolding is_reserved
word_opens w h = among_by (λ v. expression_start_by IdentifierName v ≡ no_start) w ("var" ∷ "let" ∷ "const" ∷ []) h (refl, (refl, (refl, tt)))

is_name : (c : TokenClass) → same_class IdentifierName c ≡ true → c ≡ IdentifierName
is_name IdentifierName h = refl
is_name _ h = absurd (false≢true h)

-- the node is the one that is made, behind the word
head_is : {x : Token} (t : Scanned) (k : ℕ) (ps : Parts) → x.class ≡ IdentifierName → x ≡ as_read (token_of t) → head_node (Some t) k ps ≡ node VariableDeclaration x.text plain x.start k ps
head_is {x} t k ps named same =
    let class : t.class ≡ IdentifierName = sym (ap (λ (z : Token). z.class) same) ∙ named in
    let spelling : x.text ≡ t.text.now = ap (λ (z : Token). z.text) same ∙ ap (λ c. table_text c t.text.now) class in
    let start : x.start ≡ t.start = ap (λ (z : Token). z.start) same in
    λ i. node VariableDeclaration (sym spelling i) plain (sym start i) k ps

-- one declarator that is a pattern's reading is itself
one_read : (text : SourceText) (qs : Parts) (n : Tree) → kind_of n ≡ VariableDeclarator → pattern_parts 0 qs ≡ part n none → qs ≡ part n none
one_read text none n k h = cc
one_read text (gap qs) n k h = cc
one_read text (part m none) n k h =
    let tree : pattern_tree m ≡ n = cc in
    let own : kind_of m ≡ VariableDeclarator = same_kind text 0 (kind_of m) (sym (pattern_kind_of text 0 m) ∙ ap kind_of tree ∙ k) in
    ap (λ z. part z none) (sym (kind_same text 0 m own) ∙ tree)
one_read text (part m (part q qs)) n k h = cc
one_read text (part m (gap qs)) n k h = cc

module _ (text : SourceText) (o : ℕ) where
  -- neither an expression nor a pattern begins with such a word, nor a `;`
  no_expression : {n : Tree} {s m e : Token} {P : List Pair} → NameHere text declares s m → SpellsIn text o (expr Expression false Any) n s e P → ⊥
  no_expression {s = s} {m = m} word d =
      none_begins Token (SeenNext text) (behind_in text) (seen_determined text) (record { next = word.0.next; allowed = (seen_determined text).free RegExp s (behind_in text m) m word.0.next (ap is_free word.0.class) }) (opens (behind_in text m) word.0.class refl (word_opens m.text word.1)) d

  no_target : {n : Tree} {s m e : Token} {P : List Pair} → NameHere text declares s m → BoundForm Token (SeenNext text) (behind_in text) (seen_determined text) false o n s e P → ⊥
  no_target {n = n} {e = e} {P = P} word (form.a_pattern d) = (named_unbracketed Token (SeenNext text) (behind_in text) (seen_determined text) word.0).nothing o e n P d
  no_target word (form.a_simple (form.a_name b d)) = cc
  no_target word (form.a_simple (form.a_target b t d)) = no_expression word (target_moves Token (SeenNext text) (behind_in text) (seen_determined text) LeftHandSide Expression refl refl refl t d)

  no_semicolon : {s m : Token} → NameHere text declares s m → Sees text Punctuator (codes ";") s → ⊥
  no_semicolon {s = s} {m = m} word sees =
      let same = (seen_determined text).same Div s (behind_in text m) (behind_in text sees.0) m sees.0 word.0.next sees.1.next (name_by text word.0).allowed (mark_by text sees.1).allowed in
      let no : IdentifierName ≡ Punctuator = sym word.0.class ∙ ap (λ (z : Token). z.class) same.0 ∙ sees.1.class in
      cc

  -- where the declarators end
  each_ends : {e : Token} → SeesBy text Div is_each e → Apart Token (SeenNext text) (behind_in text) e → HeadEnds Token (SeenNext text) (behind_in text) (seen_determined text) e
  each_ends {e} each apart =
      let t = each.0 in
      let u : Token = behind_in text t in
      let both = and_parts (same_class IdentifierName u.class) (among t.text ("in" ∷ "of" ∷ [])) each.1.1 in
      let class = is_name u.class both.0 in
      among_by (λ w. t.text ≡ w → HeadEnds Token (SeenNext text) (behind_in text) (seen_determined text) e) t.text ("in" ∷ "of" ∷ []) both.1
      ((λ k. at_in (record { sign = u; mid = t; reads = record { next = each.1.0.next; class = class; text = k }; apart = apart })), ((λ k. at_of (record { sign = u; mid = t; reads = record { next = each.1.0.next; class = class; text = k }; apart = apart })), tt)) refl

  head_ends : (each : Bool) {e : Token} → EachAt text each e → (each ≡ false → Sees text Punctuator (codes ";") e) → (each ≡ true → Apart Token (SeenNext text) (behind_in text) e) → HeadEnds Token (SeenNext text) (behind_in text) (seen_determined text) e
  head_ends true seen ends before = each_ends seen (before refl)
  head_ends false seen ends before = let r = ends refl in at_semicolon (record { sign = behind_in text r.0; mid = r.0; reads = r.1 })

  last_declared : (ps : Parts) {e : Token} → HeadEnds Token (SeenNext text) (behind_in text) (seen_determined text) e → LastDeclared text false ps e
  last_declared none ends = tt
  last_declared (part n none) ends = head_declared Token (SeenNext text) (behind_in text) (seen_determined text) n ends
  last_declared (part n (part m ps)) ends = last_declared (part m ps) ends
  last_declared (part n (gap ps)) ends = last_declared ps ends
  last_declared (gap ps) ends = last_declared ps ends

  -- one declarator
  record OneHead (ps : Parts) (s e : Token) (P : List Pair) : Type 0 where
    tree : Tree
    parts : ps ≡ part tree none
    kind : kind_of tree ≡ VariableDeclarator
    runs : RunsIn text o (anywhere (declarators (declarator false false) (part tree none))) (part tree none) s e P

  one_head : (ps : Parts) {s e : Token} {P : List Pair} → RunsIn text o (anywhere (cond (is_one (bare_parts ps)) (sp ∷ declarators (declarator false false) (bare_parts ps)) nothing)) ps s e P → OneHead ps s e P
  one_head none d = absurd (run_never Token (SeenNext text) (behind_in text) d)
  one_head (gap ps) d = absurd (run_never Token (SeenNext text) (behind_in text) d)
  one_head (part n (part m ps)) d = absurd (run_never Token (SeenNext text) (behind_in text) d)
  one_head (part n (gap ps)) d = absurd (run_never Token (SeenNext text) (behind_in text) d)
  one_head (part n none) d =
      let runs = run_laid Token (SeenNext text) (behind_in text) d in
      let v = run_the_part Token (SeenNext text) (behind_in text) runs in
      record { tree = n; parts = refl; kind = declarator_kind text o {i = false} {b = false} n v.spelled; runs = runs }

  -- in the head stands what the test says
  same_each : (a b : Bool) (e : Token) → EachAt text a e → EachAt text b e → a ≡ b
  same_each true true e x y = refl
  same_each false false e x y = refl
  same_each true false e x y = absurd (false≢true (sym (y (behind_in text x.0) x.0 x.1.0) ∙ x.1.1))
  same_each false true e x y = absurd (false≢true (sym (x (behind_in text y.0) y.0 y.1.0) ∙ y.1.1))

  -- the declaration, as its declarators
  record HeadForm (b : Bool) (t : Scanned) (m e : Token) (put : Parts) (P : List Pair) : Type 0 where
    parts : Parts
    tree : put ≡ part (head_node (Some t) e.stop parts) none
    runs : RunsIn text o (anywhere (cond (b || is_one (bare_parts parts)) (sp ∷ declarators (declarator false b) (bare_parts parts)) nothing)) parts m e P

  head_form : (b : Bool) (t : Scanned) {s m e : Token} {put : Parts} {P : List Pair} → NameHere text declares s m → m ≡ as_read (token_of t) → PutAt text o (head b) s e put P → HeadForm b t m e put P
  head_form b t {s} {m} {e} {put} {P} word same g =
      let sole = head_sole Token (SeenNext text) (behind_in text) (seen_determined text) {Fine = λ n v. Unit {0}} b word.0 word.1 in
      let told = sole.told g.spelled tt in
      let span = same_span Token (SeenNext text) (behind_in text) (seen_determined text) sole.spans (subst (λ z. Placed Token (SeenNext text) (behind_in text) (head b) z s e) told.tree told.placed)
      (place_node Token (SeenNext text) (behind_in text) (seen_determined text) {k = VariableDeclaration} {w = m.text} {g = plain} {ps = told.parts} {e = e} sole.spans word.0.next) refl in
      record {
        parts = told.parts;
        tree = g.parts ∙ ap (λ n. part n none) (told.tree ∙ (λ i. node VariableDeclaration m.text plain (span.0 i) (span.1 i) told.parts) ∙ sym (head_is t e.stop told.parts (seen_name text.language m.class m.text word.0.class) same));
        runs = told.runs;
      }

  -- what it wants
  declaration_wanted : (each : Bool) (t : Scanned) (s m e : Token) (y : Edge) (put : Parts) (P : List Pair) → NameHere text declares s m → m ≡ as_read (token_of t) → EachAt text each e → (each ≡ false → Sees text Punctuator (codes ";") e) → (each ≡ true → Apart Token (SeenNext text) (behind_in text) e) → PutAt text o (head (not each)) s e put P →
      ListWanted text code.ForHead (listed.Declarators false) (Some t) o m e y put P
  declaration_wanted false t s m e y put P word same at ends before g =
      let v = head_form true t word same g in
      let there = head_ends false at ends before in
      let tall : parts_height put ≡ parts_height (part (head_node (Some t) e.stop v.parts) none) = ap parts_height v.tree in
      record {
        reading = as_expression;
        items = v.parts;
        first = m;
        is_piece = refl;
        signed = λ w h. cc;
        unsigned = λ h. refl;
        given = λ from. record {
          left = refl;
          mid = e;
          runs = subst (λ qs. RunsIn text o (anywhere qs) v.parts m e P) (declarators_bare text o (declarator false true) v.parts) (run_laid Token (SeenNext text) (behind_in text) v.runs);
          closes = refl;
          last = (last_declared v.parts there, λ u k r. head_comma Token (SeenNext text) (behind_in text) (seen_determined text) there r);
          no_rest = refl;
          lone = refl;
          one_default = refl;
        };
        low = omega arith;
        own = λ whole. parts_of_language {text = text} {k = VariableDeclaration} {w = t.text.now} {g = plain} (first_of_language {text = text} {n = head_node (Some t) e.stop v.parts} {ps = none} (subst (λ qs. AllOfLanguage text qs) v.tree whole));
        puts = λ l each seen whole nodes from end right. record {
          added = ap (λ z. part (head_node (Some t) e.stop z) none) nodes ∙ sym v.tree;
          takes = subst (λ z. fits_head z l ≡ true) (same_each false each e at seen) (and_parts (not l.seen.is_flagged) true whole).0;
          edge = λ known. cc;
        };
      }
  declaration_wanted true t s m e y put P word same at ends before g =
      let v = head_form false t word same g in
      let there = head_ends true at ends before in
      let one = one_head v.parts v.runs in
      let tall : parts_height put ≡ parts_height (part (head_node (Some t) e.stop v.parts) none) = ap parts_height v.tree in
      let items : parts_height v.parts ≡ parts_height (part one.tree none) = ap parts_height one.parts in
      record {
        reading = as_pattern true;
        items = part one.tree none;
        first = m;
        is_piece = refl;
        signed = λ w h. cc;
        unsigned = λ h. refl;
        given = λ from. record {
          left = refl;
          mid = e;
          runs = one.runs;
          closes = refl;
          last = (last_declared (part one.tree none) there, λ u k r. head_comma Token (SeenNext text) (behind_in text) (seen_determined text) there r);
          no_rest = refl;
          lone = refl;
          one_default = refl;
        };
        low = omega arith;
        own = λ whole. subst (λ qs. AllOfLanguage text qs) one.parts (parts_of_language {text = text} {k = VariableDeclaration} {w = t.text.now} {g = plain} (first_of_language {text = text} {n = head_node (Some t) e.stop v.parts} {ps = none} (subst (λ qs. AllOfLanguage text qs) v.tree whole)));
        puts = λ l each seen whole nodes from end right.
            let own = one_read text l.nodes one.tree one.kind nodes in
            let fits = (and_parts (nat_le (part_count l.nodes) 1 && is_closed l.seen.edge) true whole).0 in
            record {
              added = ap (λ z. part (head_node (Some t) e.stop z) none) (own ∙ sym one.parts) ∙ sym v.tree;
              takes = subst (λ z. fits_head z l ≡ true) (same_each true each e at seen) (λ i. nat_eq (part_count (own i)) 1 && (and_parts (nat_le (part_count l.nodes) 1) (is_closed l.seen.edge) fits).1 i);
              edge = λ known. cc;
            };
      }

  -- whatever is given in the head, where the word of a declaration stands
  pub head_wanted : (word : Option Scanned) (which : ListKind) (p m : CursorState) (e : Token) (y : Edge) (put : Parts) (P : List Pair) → p.text ≡ text → HeadAt p m (wanted.List which) word → HeadGiven text o p.last e put P → ListWanted text code.ForHead which word o m.last e y put P
  head_wanted (Some t) (listed.Declarators false) p m e y put P same h g = of g
    where
      word : NameHere text declares p.last m.last
      word = subst (λ z. NameHere z declares p.last m.last) same h.0

      of : HeadGiven text o p.last e put P → ListWanted text code.ForHead (listed.Declarators false) (Some t) o m.last e y put P
      of (a_declaration each at ends before d) = declaration_wanted each t p.last m.last e y put P word h.1 at ends before d
      of (an_expression ends d) = absurd (no_expression word d.spelled)
      of (a_target seen before d) = absurd (no_target word (bound_form Token (SeenNext text) (behind_in text) (seen_determined text) false d.put d.target.it_is d.target.spelled))
  head_wanted None (listed.Declarators false) p m e y put P same h g = absurd h
  head_wanted None (listed.Declarators true) p m e y put P same h g = absurd h
  head_wanted (Some t) (listed.Declarators true) p m e y put P same h g = absurd h
  head_wanted None _ p m e y put P same h g = absurd h
  head_wanted (Some t) _ p m e y put P same h g = absurd h

  -- something is given there
  pub head_some : (word : Option Scanned) (which : ListKind) (p m : CursorState) → p.text ≡ text → HeadAt p m (wanted.List which) word → Sees text Punctuator (codes ";") p.last → ⊥
  head_some (Some t) (listed.Declarators false) p m same h sees = no_semicolon (subst (λ z. NameHere z declares p.last m.last) same h.0) sees
  head_some None (listed.Declarators false) p m same h sees = absurd h
  head_some None (listed.Declarators true) p m same h sees = absurd h
  head_some (Some t) (listed.Declarators true) p m same h sees = absurd h
  head_some None _ p m same h sees = absurd h
  head_some (Some t) _ p m same h sees = absurd h
