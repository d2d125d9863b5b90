-- What a piece that is a list wants of what is given: the items behind its sign, in one reading, and what is put of them (ECMA-262 13.3, 13.12, 14.1, 14.6).
use Rattle.std.proofs.Common.{◌≡◌, ℕ, suc, ◌+◌, ◌≤◌, Bool, true, false, List, [], ◌∷◌, ◌++◌, refl, sym, ap, ◌∙◌, subst, arith}
use Rattle.std.specs.Prelude.{codes, nat_le, not, Option, Some, None}
use Rattle.std.proofs.lemmas.Bool.{and_parts}
use Rattle.tokens.specs.declared.token.TokenClass.TheVariants.{Punctuator}
use Rattle.tokens.specs.declared.token.Token.{Token as Scanned}
use Rattle.tree.specs.declared.kind.Kind.TheVariants.{ClassBody}
use Rattle.tree.specs.declared.kind.Pair.{Pair}
use Rattle.tree.specs.Tree.{node, plain, Parts, none, part, height, parts_height}
use Rattle.covers.specs.declared.list.ListKind.{ListKind}
use Rattle.covers.specs.declared.list.ListKind.TheVariants as listed
use Rattle.covers.specs.declared.list.ListBuilder.{ListBuilder as ListOf}
use Rattle.covers.specs.Lists.{opening}
use Rattle.covers.specs.Shapes.{is_bound}
use Rattle.language.specs.declared.Edge.{Edge}
use Rattle.language.specs.Covers.{Reading, as_expression, as_pattern}
use Rattle.language.specs.Edges.{last_edge, edge_as_written}
use Rattle.language.specs.Pieces.{Piece, tok, pattern_element, switch_case, listed as listed_pieces}
use Rattle.language.specs.Statements.{defaults, lines}
use Rattle.language.specs.Token.{Token}
use Rattle.language.proofs.list_loops.FirstPieces.{run_token}
use Rattle.parser_tables.specs.declared.symbol_lists.Symbol.{Symbol as Coded}
use Rattle.parser_tables.specs.declared.symbol_lists.Symbol.TheVariants as code
use Rattle.recursive_descent.specs.Soundness.{RunsIn, anywhere, all_read_as}
use Rattle.recursive_descent.specs.SoundnessOfLists.{whole_of, asks_edge, part_alone}
use Rattle.recursive_descent.specs.SoundnessOfStatements.{EachAt}
use Rattle.recursive_descent.specs.CompletenessOfLists.{ListGiven}
use Rattle.recursive_descent.specs.CompletenessOfStatements.{ListPieceGiven, knows_edge}
use Rattle.parser_tables.specs.Items.{list_from}
use Rattle.parser_tables.specs.StatementSymbols.{piece_of}
use Rattle.token_cursor.specs.Seen.{ReadsHere}
use Rattle.parser_tables.specs.StatementNodes.{takes_listed, listed_depth, listed_levels}
use Rattle.recursive_descent.proofs.complete_expressions.Agreement.{read_here}
use Rattle.recursive_descent.proofs.complete_statements.BlocksGiven.{class_body_given}
use Rattle.recursive_descent.proofs.sound_statements.ListSymbols.{is_put, list_added, both_mapped}
use Rattle.token_cursor.specs.SourceText.{SourceText, SeenNext, behind_in}
use Rattle.recursive_descent.specs.Spelled.{OfLanguage, AllOfLanguage}
use Rattle.recursive_descent.proofs.reading.LanguageTrees.{of_none, first_of_language, parts_of_language}
use Rattle.recursive_descent.proofs.reading.PiecesBeforeToken.{run_before}

-- the list that was read puts what is given
pub record ListSame (p : Coded) (which : ListKind) (word : Option Scanned) (each : Bool) (put : Parts) (y : Edge) (e : Token) (l : ListOf) : Type 0 where
  pub added : list_added which word e.stop l.span l.nodes ≡ put
  pub takes : takes_listed which word each l ≡ true
  pub edge : knows_edge (piece_of p) ≡ true → y ≡ l.seen.edge

-- the items from behind the sign on, and what is put of the list with these items
pub record ListWanted (text : SourceText) (p : Coded) (which : ListKind) (word : Option Scanned) (o : ℕ) (m e : Token) (y : Edge) (put : Parts) (P : List Pair) : Type 0 where
  pub reading : Reading
  pub items : Parts
  pub first : Token
  pub is_piece : is_put which ≡ true
  pub signed : (v : List ℕ) → opening which ≡ Some v → ReadsHere text Punctuator v m first
  pub unsigned : opening which ≡ None → first ≡ m
  pub given : (at : ℕ) → ListGiven text (list_from which at) reading o items first e P
  pub low : parts_height items + listed_depth which ≤ parts_height put
  pub own : AllOfLanguage text put → AllOfLanguage text items
  pub puts : (l : ListOf) (each : Bool) → EachAt text each e → whole_of which l reading ≡ true → all_read_as reading l.nodes ≡ items → ((v : List ℕ) → opening which ≡ Some v → first.start ≡ l.span.start) → l.span.end ≡ e.stop → (asks_edge which ≡ true → l.seen.edge ≡ edge_as_written (last_edge l.nodes) e) →
      ListSame p which word each put y e l

-- what is made of its items is no higher than what it adds
pub levels_low : (k : ListKind) (word : Option Scanned) (e : ℕ) (l : ListOf) → listed_levels k l.nodes ≤ parts_height (list_added k word e l.span l.nodes)
levels_low (listed.Declarators false) None e l = omega arith
levels_low (listed.Declarators false) (Some t) e l = omega arith
levels_low (listed.Declarators true) word e l = omega arith
levels_low listed.Members word e l = omega arith
levels_low listed.Parameters word e l = omega arith
levels_low listed.NoParameter word e l = omega arith
levels_low listed.OneParameter word e l = omega arith
levels_low (listed.Cases r) word e l = omega arith
levels_low listed.Arguments word e l = omega arith
levels_low listed.Elements word e l = omega arith
levels_low listed.Properties word e l = omega arith
levels_low listed.ParenthesizedItems word e l = omega arith
levels_low listed.AsyncArguments word e l = omega arith
levels_low listed.Template word e l = omega arith
levels_low (listed.Sequence i) word e l = omega arith

some_is : {u v : List ℕ} → ◌≡◌ {A = Option (List ℕ)} (Some u) (Some v) → u ≡ v
some_is h = cc

none_more : (n : ℕ) → n ≡ n + 0
none_more n = omega arith

module _ (text : SourceText) (o : ℕ) where
  -- what stands between two signs
  record Between (u v : List ℕ) (qs : List Piece) (ps : Parts) (s e : Token) (P : List Pair) : Type 0 where
    left : Token
    mid : Token
    opens : ReadsHere text Punctuator u s left
    runs : RunsIn text o (anywhere qs) ps left mid P
    closes : ReadsHere text Punctuator v mid e

  between : (u v : List ℕ) (qs : List Piece) {ps : Parts} {s e : Token} {P : List Pair} → RunsIn text o (anywhere (tok Punctuator u ∷ qs ++ tok Punctuator v ∷ [])) ps s e P → Between u v qs ps s e P
  between u v qs {ps} {s} {e} {P} d =
      let t = run_token Token (SeenNext text) (behind_in text) d in
      let w = run_before text (anywhere qs) (subst (λ zs. RunsIn text o zs ps t.mid e P) (both_mapped qs (tok Punctuator v)) t.runs) in
      record { left = t.mid; mid = w.mid; opens = read_here text t.reads; runs = w.runs; closes = w.sign }

  signed_by : {u : List ℕ} {s first : Token} → ReadsHere text Punctuator u s first → (v : List ℕ) → ◌≡◌ {A = Option (List ℕ)} (Some u) (Some v) → ReadsHere text Punctuator v s first
  signed_by {s = s} {first = first} r v h = subst (λ w. ReadsHere text Punctuator w s first) (some_is h) r

  -- each list that is a piece
  pub list_wanted : (k : ListKind) (word : Option Scanned) (s e : Token) (x y : Edge) (put : Parts) (P : List Pair) → ListPieceGiven text o k s e x y put P → ListWanted text (code.List k) k word o s e y put P
  list_wanted (listed.Declarators true) word s e x y put P g = record {
    reading = as_expression;
    items = put;
    first = s;
    is_piece = refl;
    signed = λ v h. cc;
    unsigned = λ h. refl;
    given = λ at. record { left = refl; mid = e; runs = g.0; closes = refl; last = (g.1, g.2); no_rest = refl; lone = refl; one_default = refl };
    low = omega arith;
    own = λ whole. whole;
    puts = λ l each at whole nodes from end right. record { added = nodes; takes = (and_parts (not l.seen.is_flagged) true whole).0; edge = λ known. g.3 ∙ ap (λ z. edge_as_written (last_edge z) e) (sym nodes) ∙ sym (right refl) };
  }
  list_wanted (listed.Cases r) word s e x y put P g =
      let b = between (codes "{") (codes "}") (lines (switch_case r) put) g.0 in
      record {
        reading = as_expression;
        items = put;
        first = b.left;
        is_piece = refl;
        signed = signed_by b.opens;
        unsigned = λ h. cc;
        given = λ at. record { left = refl; mid = b.mid; runs = b.runs; closes = b.closes; last = tt; no_rest = refl; lone = refl; one_default = subst (λ n. nat_le n 1 ≡ true) (none_more (defaults put)) g.1 };
        low = omega arith;
        own = λ whole. whole;
        puts = λ l each at whole nodes from end right. record { added = nodes; takes = refl; edge = λ known. cc };
      }
  list_wanted listed.Members word s e x y put P g =
      let v = class_body_given text g.spelled in
      let whole : parts_height put ≡ parts_height (part g.put none) = ap parts_height g.parts in
      let tall : height g.put ≡ suc (parts_height v.parts) = ap height v.tree in
      record {
        reading = as_expression;
        items = v.parts;
        first = v.left;
        is_piece = refl;
        signed = signed_by v.opens;
        unsigned = λ h. cc;
        given = λ at. record { left = refl; mid = v.mid; runs = v.runs; closes = v.closes; last = tt; no_rest = refl; lone = refl; one_default = refl };
        low = omega arith;
        own = λ whole. parts_of_language {text = text} {k = ClassBody} {w = []} {g = plain} (subst (λ n. OfLanguage text n) v.tree (first_of_language {text = text} {n = g.put} {ps = none} (subst (λ qs. AllOfLanguage text qs) g.parts whole)));
        puts = λ l each at whole nodes from end right. record { added = (λ i. part (node ClassBody [] plain (sym (from (codes "{") refl) i) (end i) (nodes i)) none) ∙ ap (λ n. part n none) (sym v.tree) ∙ sym g.parts; takes = refl; edge = λ known. cc };
      }
  list_wanted listed.NoParameter word s e x y put P g =
      let b = between (codes "(") (codes ")") [] g.0 in
      record {
        reading = as_pattern true;
        items = none;
        first = b.left;
        is_piece = refl;
        signed = signed_by b.opens;
        unsigned = λ h. cc;
        given = λ at. record { left = refl; mid = b.mid; runs = b.runs; closes = b.closes; last = tt; no_rest = refl; lone = refl; one_default = refl };
        low = omega arith;
        own = λ whole. of_none;
        puts = λ l each at whole nodes from end right. record { added = nodes ∙ sym g.1; takes = (and_parts (is_bound l.seen.shape) true whole).0; edge = λ known. cc };
      }
  list_wanted listed.OneParameter word s e x y put P g =
      let b = between (codes "(") (codes ")") (part_alone put) g in
      record {
        reading = as_pattern true;
        items = put;
        first = b.left;
        is_piece = refl;
        signed = signed_by b.opens;
        unsigned = λ h. cc;
        given = λ at. record { left = refl; mid = b.mid; runs = b.runs; closes = b.closes; last = tt; no_rest = refl; lone = refl; one_default = refl };
        low = omega arith;
        own = λ whole. whole;
        puts = λ l each at whole nodes from end right. record { added = nodes; takes = (and_parts (is_bound l.seen.shape) true whole).0; edge = λ known. cc };
      }
  list_wanted listed.Parameters word s e x y put P g =
      let b = between (codes "(") (codes ")") (listed_pieces (pattern_element true) put) g in
      record {
        reading = as_pattern true;
        items = put;
        first = b.left;
        is_piece = refl;
        signed = signed_by b.opens;
        unsigned = λ h. cc;
        given = λ at. record { left = refl; mid = b.mid; runs = b.runs; closes = b.closes; last = tt; no_rest = refl; lone = refl; one_default = refl };
        low = omega arith;
        own = λ whole. whole;
        puts = λ l each at whole nodes from end right. record { added = nodes; takes = (and_parts (is_bound l.seen.shape) true whole).0; edge = λ known. cc };
      }
  list_wanted (listed.Declarators false) word s e x y put P g = absurd g
  list_wanted listed.Arguments word s e x y put P g = absurd g
  list_wanted listed.Elements word s e x y put P g = absurd g
  list_wanted listed.Properties word s e x y put P g = absurd g
  list_wanted listed.ParenthesizedItems word s e x y put P g = absurd g
  list_wanted listed.AsyncArguments word s e x y put P g = absurd g
  list_wanted listed.Template word s e x y put P g = absurd g
  list_wanted (listed.Sequence i) word s e x y put P g = absurd g
