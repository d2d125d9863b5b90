-- The three kinds of `for`, from the pieces in their two parts (ECMA-262 13.7).
use Rattle.std.proofs.Common.{◌≡◌, ◌⊎◌, inl, inr, ℕ, Bool, true, false, cond, List, [], ◌∷◌, ◌++◌, Some, refl, sym, ap, ◌∙◌, subst}
use Rattle.std.specs.Prelude.{codes, ◌&&◌}
use Rattle.std.proofs.lemmas.Bool.{false≢true, true≢false}
use Rattle.std.proofs.lemmas.List.{append-nil}
use Rattle.std.proofs.lemmas.Option.{none-some}
use Rattle.tokens.specs.declared.token.TokenClass.TheVariants.{IdentifierName, Punctuator}
use Rattle.tokens.specs.declared.token.Goal.TheVariants.{Div}
use Rattle.tree.specs.declared.kind.Kind.{Kind}
use Rattle.tree.specs.declared.kind.Kind.TheVariants as kind
use Rattle.tree.specs.declared.kind.Pair.{Pair}
use Rattle.tree.specs.Tree.{Tree, Parts, none, part, gap, join, bare, bare_parts, kind_of}
use Rattle.language.specs.declared.Edge.{Edge}
use Rattle.language.specs.declared.Edge.TheVariants.{Closed}
use Rattle.language.specs.declared.Rank.{Rank}
use Rattle.language.specs.declared.Rank.TheVariants.{Expression, Assignment}
use Rattle.language.specs.declared.Start.TheVariants.{Any}
use Rattle.language.specs.Edges.{last_ends_in_if}
use Rattle.language.specs.Expressions.{given}
use Rattle.language.specs.FirstPart.{lead, others}
use Rattle.language.specs.Vocabulary.{among}
use Rattle.language.specs.Pieces.{Role, expr, statement, head, bound, Piece, tok, sign, sp, put, put_at, is_none}
use Rattle.language.specs.Statements.{is_declaration, for_left, whole}
use Rattle.language.specs.Token.{Token, same_class}
use Rattle.language.specs.Promises.{ReadBy}
use Rattle.language.specs.Derivation.{step, within, missing, token, laid, done}
use Rattle.language.proofs.table.Begins.{retell}
use Rattle.language.proofs.statements.ForHeads.{left_role}
use Rattle.language.proofs.statements.ForParts.{undeclared}
use Rattle.language.proofs.climbing.OperatorNodes.{kind_bare}
use Rattle.language.proofs.table.ForDeclarationWays.{head_form}
use Rattle.language.proofs.table.StatementWays.{behind_own, behind_for}
use Rattle.token_cursor.proofs.SeenTokens.{seen_determined}
use Rattle.parser_tables.specs.declared.statements.StatementKind.{StatementKind}
use Rattle.parser_tables.specs.declared.statements.StatementKind.TheVariants as headed
use Rattle.parser_tables.specs.StatementStarts.{KindFollowed}
use Rattle.recursive_descent.specs.Soundness.{RunsIn, anywhere}
use Rattle.recursive_descent.specs.SoundnessOfStatements.{OneMore, PiecesAt, ExpressionPut, StatementPut, IsGap, HeadPut, a_declaration, an_expression, a_target}
use Rattle.parser_tables.specs.StatementSymbols.{statement_parts}
use Rattle.token_cursor.specs.Seen.{ReadsHere, Sees}
use Rattle.parser_tables.specs.StatementNodes.{statement_node_kind}
use Rattle.parser_tables.specs.Tests.{is_each}
use Rattle.recursive_descent.proofs.reading.FirstOfPieces.{last_one, part_runs}
use Rattle.recursive_descent.proofs.sound_statements.StatementWays.{StatedBy, read_then, expression_then}
use Rattle.token_cursor.specs.SourceText.{SourceText, SeenNext, behind_in}
use Rattle.recursive_descent.specs.Spelled.{SpellsIn}
use Rattle.token_cursor.proofs.TokensAhead.{name_by, mark_by}

-- what is assigned to is no declaration
bound_undeclared : (k : Kind) {a : Role} → bound false k ≡ Some a → is_declaration k ≡ false
bound_undeclared kind.VariableDeclaration h = absurd (none-some _ h)
bound_undeclared _ h = refl

bare_others : (ps : Parts) → others (bare_parts ps) ≡ bare_parts (others ps)
bare_others none = refl
bare_others (part n ps) = refl
bare_others (gap ps) = refl

-- the first part of a `for` with `;`, and each other
abbrev initial : Parts → List Piece
initial ps = put (cond (is_declaration (lead ps)) (head true) (expr Expression false Any)) ∷ []

abbrev later : List Piece
later = sp ∷ whole ∷ []

abbrev last_piece : Bool → List Piece
last_piece r = sign ")" ∷ sp ∷ put (statement r) ∷ []

-- the pieces of such a `for`, each behind the other
abbrev second_pieces : Bool → Parts → List Piece
second_pieces r ps = sign ";" ∷ (given ps later ++ (sign ";" ∷ (given (others ps) later ++ last_piece r)))

loop_told : (r : Bool) (ps : Parts) → sp ∷ sign "(" ∷ (given ps (initial ps) ++ second_pieces r (others ps)) ≡ behind_for r ps
loop_told r none = refl
loop_told r (part n none) = refl
loop_told r (gap none) = refl
loop_told r (part n (part a none)) = refl
loop_told r (part n (gap none)) = refl
loop_told r (gap (part a none)) = refl
loop_told r (gap (gap none)) = refl
loop_told r (part n (part a (part b ps))) = refl
loop_told r (part n (part a (gap ps))) = refl
loop_told r (part n (gap (part b ps))) = refl
loop_told r (part n (gap (gap ps))) = refl
loop_told r (gap (part a (part b ps))) = refl
loop_told r (gap (part a (gap ps))) = refl
loop_told r (gap (gap (part b ps))) = refl
loop_told r (gap (gap (gap ps))) = refl

-- what is behind a part or a gap ends as the whole does
part_skipped : (n : Tree) (ps : Parts) → is_none ps ≡ false → last_ends_in_if (part n ps) ≡ last_ends_in_if ps
part_skipped n none h = absurd (true≢false h)
part_skipped n (part m ps) h = refl
part_skipped n (gap ps) h = refl

module _ (text : SourceText) where
  -- what the goal behind an operand reads where a name or a `;` stands
  by_name : {w : List ℕ} {s u : Token} → ReadsHere text IdentifierName w s u → ReadBy Token (SeenNext text) (behind_in text) Div s (behind_in text u) u
  by_name h = name_by text h

  by_mark : {w : List ℕ} {s u : Token} → ReadsHere text Punctuator w s u → ReadBy Token (SeenNext text) (behind_in text) Div s (behind_in text u) u
  by_mark h = mark_by text h

  same_there : {s t m u x : Token} → ReadBy Token (SeenNext text) (behind_in text) Div s t m → ReadBy Token (SeenNext text) (behind_in text) Div s u x → t ≡ u
  same_there {s} {t} {m} {u} {x} a b = ((seen_determined text).same Div s t u m x a.next b.next a.allowed b.allowed).0

  each_name : {w : List ℕ} {s u : Token} → among w ("in" ∷ "of" ∷ []) ≡ true → ReadsHere text IdentifierName w s u → is_each (behind_in text u) ≡ true
  each_name {u = u} h d = ap (λ c. same_class IdentifierName c && among u.text ("in" ∷ "of" ∷ [])) d.class ∙ ap (λ v. among v ("in" ∷ "of" ∷ [])) d.text ∙ h

  no_each : {w : List ℕ} {s u : Token} → ReadsHere text Punctuator w s u → is_each (behind_in text u) ≡ false
  no_each {u = u} d = ap (λ c. same_class IdentifierName c && among u.text ("in" ∷ "of" ∷ [])) d.class

  no_gap : {A : Type 0} {v w : List ℕ} {s : Token} → Sees text Punctuator v s → Sees text IdentifierName w s → A
  no_gap a b = (let q : Punctuator ≡ IdentifierName = sym a.1.class ∙ ap (λ (t : Token). t.class) (same_there (by_mark a.1) (by_name b.1)) ∙ b.1.class in cc)

  head_kind : {o : ℕ} {b : Bool} {n : Tree} {s e : Token} {P : List Pair} → SpellsIn text o (head b) n s e P → kind_of n ≡ kind.VariableDeclaration
  head_kind d = ap kind_of (head_form Token (SeenNext text) (behind_in text) (seen_determined text) d).tree

  -- what stands first before `in` or `of`
  record LeftPut (o : ℕ) (s e : Token) (ps : Parts) (P : List Pair) : Type 0 where
    put_there : Tree
    parts : ps ≡ part put_there none
    role : Role
    it_is : left_role (kind_of put_there) ≡ Some role
    spelled : SpellsIn text o role put_there s e P

  left_put : {o : ℕ} {w : List ℕ} {s e : Token} {ps : Parts} {P : List Pair} → among w ("in" ∷ "of" ∷ []) ≡ true → Sees text IdentifierName w e → HeadPut text o s e ps P → LeftPut o s e ps P
  left_put h see (a_declaration true at p) = record { put_there = p.put; parts = p.parts; role = head false; it_is = ap left_role (head_kind p.spelled); spelled = p.spelled }
  left_put h see (a_declaration false at p) = absurd (false≢true (sym (at (behind_in text see.0) see.0 (by_name see.1)) ∙ each_name h see.1))
  left_put h see (an_expression at p) = absurd (false≢true (sym (at (behind_in text see.0) see.0 (by_name see.1)) ∙ each_name h see.1))
  left_put h see (a_target at p) = record {
    put_there = p.put;
    parts = p.parts;
    role = p.target.role;
    it_is = ap (λ b. cond b (Some (head false)) (bound false (kind_of p.put))) (bound_undeclared (kind_of p.put) p.target.it_is) ∙ p.target.it_is;
    spelled = p.target.spelled;
  }

  -- before `;`
  record FirstPut (o : ℕ) (s e : Token) (ps : Parts) (P : List Pair) : Type 0 where
    put_there : Tree
    parts : ps ≡ part put_there none
    spelled : SpellsIn text o (cond (is_declaration (kind_of put_there)) (head true) (expr Expression false Any)) put_there s e P

  first_put : {o : ℕ} {w : List ℕ} {s e : Token} {ps : Parts} {P : List Pair} → Sees text Punctuator w e → HeadPut text o s e ps P → FirstPut o s e ps P
  first_put {o} {s = s} {e = e} {P = P} see (a_declaration false at p) = record {
    put_there = p.put;
    parts = p.parts;
    spelled = subst (λ k. SpellsIn text o (cond (is_declaration k) (head true) (expr Expression false Any)) p.put s e P) (sym (head_kind p.spelled)) p.spelled;
  }
  first_put see (a_declaration true at p) = absurd (false≢true (sym (no_each see.1) ∙ ap is_each (sym (same_there at.1.0 (by_mark see.1))) ∙ at.1.1))
  first_put {o} {s = s} {e = e} {P = P} see (an_expression at p) = record {
    put_there = p.put;
    parts = p.parts;
    spelled = subst (λ b. SpellsIn text o (cond b (head true) (expr Expression false Any)) p.put s e P) (sym (undeclared Token (SeenNext text) (behind_in text) (seen_determined text) p.spelled)) p.spelled;
  }
  first_put see (a_target at p) = absurd (false≢true (sym (no_each see.1) ∙ ap is_each (sym (same_there at.1.0 (by_mark see.1))) ∙ at.1.1))

  each_left : {o : ℕ} {w v : List ℕ} {s m : Token} {x y : Edge} {ps : Parts} {P : List Pair} → among w ("in" ∷ "of" ∷ []) ≡ true → Sees text IdentifierName w m → HeadPut text o s m ps P ⊎ (IsGap s m x y ps P × Sees text Punctuator v s) → LeftPut o s m ps P
  each_left h see (inl p) = left_put h see p
  each_left {w = w} h see (inr g) = no_gap g.1 (subst (Sees text IdentifierName w) g.0.0 see)

  -- a `for` with `in` or `of`
  each_stated : {o : ℕ} (r : Bool) (k : Kind) (w : List ℕ) (q : Rank) {s a m b c d e : Token} {first rest behind : Parts} {item : Tree} {P Q one more : List Pair} →
      ((ps : Parts) → behind_own r k ps ≡ sp ∷ sign "(" ∷ for_left ps ∷ sp ∷ tok IdentifierName w ∷ sp ∷ put (expr q true Any) ∷ sign ")" ∷ sp ∷ put (statement r) ∷ []) → ((ps : Parts) → Rattle.language.specs.Edges.ends_in_if (Rattle.tree.specs.Tree.node k [] Rattle.tree.specs.Tree.plain 0 0 ps) ≡ last_ends_in_if ps) →
      ReadsHere text Punctuator (codes "(") s a → LeftPut o a m first P → ReadsHere text IdentifierName w m b → SpellsIn text o (expr q true Any) item b c one → ReadsHere text Punctuator (codes ")") c d → StatementPut text r o d e rest more → behind ≡ part item rest → Q ≡ one ++ more →
      StatedBy text r k (join first behind) o s e (P ++ Q)
  each_stated {o} r k w q {s} {a} {m} {b} {c} {d} {e} {first} {rest} {behind} {item} {P} {Q} {one} {more} told ends left_sign l word spelled right_sign st parts pairs =
      let whole_parts : join first behind ≡ part l.put_there (part item (part st.put none)) = (λ i. join (l.parts i) (parts i)) ∙ ap (λ x. part l.put_there (part item x)) st.parts in
      let all = part l.put_there (part item (part st.put none)) in
      let role : left_role (kind_of (bare l.put_there)) ≡ Some l.role = ap left_role (kind_bare l.put_there) ∙ l.it_is in
      let run : RunsIn text o (anywhere (sp ∷ sign "(" ∷ put l.role ∷ sp ∷ tok IdentifierName w ∷ sp ∷ put (expr q true Any) ∷ sign ")" ∷ sp ∷ put (statement r) ∷ [])) all s e (P ++ Q) =
      step laid (step (token left_sign) (within l.spelled (step laid (step (token word) (step laid (part_runs text refl refl pairs spelled (step (token right_sign) (step laid (part_runs text refl refl (sym (append-nil more)) st.statement.spelled done))))))))) in
      let run' : RunsIn text o (anywhere (behind_own r k (bare_parts all))) all s e (P ++ Q) =
      retell Token (SeenNext text) (behind_in text) (ap anywhere ((λ i. sp ∷ sign "(" ∷ put_at (sym role i) ∷ sp ∷ tok IdentifierName w ∷ sp ∷ put (expr q true Any) ∷ sign ")" ∷ sp ∷ put (statement r) ∷ []) ∙ sym (told (bare_parts all)))) run in
      record {
        runs = subst (λ x. RunsIn text o (anywhere (behind_own r k (bare_parts x))) x s e (P ++ Q)) (sym whole_parts) run';
        dangles = λ h. st.statement.dangles (sym (ends (join first behind) ∙ ap last_ends_in_if whole_parts) ∙ h);
      }

  -- an expression that may be missing, and the others behind it
  record Optional (o : ℕ) (s : Token) (Others : Token → Edge → Parts → List Pair → Type 0) (ps : Parts) (P : List Pair) : Type 0 where
    mid : Token
    right : Edge
    rest : Parts
    more : List Pair
    others_there : Others mid right rest more
    runs : (L : List Piece) (e : Token) → RunsIn text o (anywhere L) rest mid e more → RunsIn text o (anywhere (given (bare_parts ps) later ++ L)) ps s e P
    rests : others ps ≡ rest
    skips : is_none rest ≡ false → last_ends_in_if ps ≡ last_ends_in_if rest

  optional_then : {o : ℕ} {s : Token} {x : Edge} {Others : Token → Edge → Parts → List Pair → Type 0} {ps : Parts} {P : List Pair} → OneMore (λ m y put Q. ExpressionPut text o Expression true s m y put Q ⊎ IsGap s m x y put Q) Others ps P → Optional o s Others ps P
  optional_then {o} {s} {x} {Others} {ps} {P} u = elim u.first [
    | inl h ↦ (let parts : ps ≡ part h.put u.rest = u.parts ∙ ap (λ k. join k u.rest) h.parts in
        record {
          mid = u.mid;
          right = u.right;
          rest = u.rest;
          more = u.more_pairs;
          others_there = u.others;
          runs = λ L e d. subst (λ k. RunsIn text o (anywhere (given (bare_parts k) later ++ L)) k s e P) (sym parts) (step laid (part_runs text refl refl u.pairs h.spelled d));
          rests = ap others parts;
          skips = λ q. ap last_ends_in_if parts ∙ part_skipped h.put u.rest q;
        })
    | inr h ↦ (let parts : ps ≡ gap u.rest = u.parts ∙ ap (λ k. join k u.rest) h.2 in
        let pairs : P ≡ u.more_pairs = u.pairs ∙ ap (λ Q. Q ++ u.more_pairs) h.3 in
        record {
          mid = u.mid;
          right = u.right;
          rest = u.rest;
          more = u.more_pairs;
          others_there = u.others;
          runs = λ L e d. subst (λ k. RunsIn text o (anywhere (given (bare_parts k) later ++ L)) k s e P) (sym parts) (missing (subst (λ Q. RunsIn text o (anywhere L) u.rest s e Q) (sym pairs) (subst (λ v. RunsIn text o (anywhere L) u.rest v e u.more_pairs) h.0 d)));
          rests = ap others parts;
          skips = λ q. ap last_ends_in_if parts;
        })
  ]

  -- the first part, or none, and all that is behind it
  record Initial (o : ℕ) (s m : Token) (ps : Parts) (P : List Pair) : Type 0 where
    runs : (L : List Piece) (e : Token) (rest : Parts) (Q : List Pair) → RunsIn text o (anywhere L) rest m e Q → RunsIn text o (anywhere (given (bare_parts (join ps rest)) (initial (bare_parts (join ps rest))) ++ L)) (join ps rest) s e (P ++ Q)
    rests : (rest : Parts) → others (join ps rest) ≡ rest
    skips : (rest : Parts) → is_none rest ≡ false → last_ends_in_if (join ps rest) ≡ last_ends_in_if rest

  initial_of : {o : ℕ} {w v : List ℕ} {s m : Token} {x y : Edge} {ps : Parts} {P : List Pair} → Sees text Punctuator w m → HeadPut text o s m ps P ⊎ (IsGap s m x y ps P × Sees text Punctuator v s) → Initial o s m ps P
  initial_of {o} {s = s} {m = m} {ps = ps} {P = P} see (inl h) =
      let f = first_put see h in
      record {
        runs = λ L e rest Q d. subst (λ k. RunsIn text o (anywhere (given (bare_parts (join k rest)) (initial (bare_parts (join k rest))) ++ L)) (join k rest) s e (P ++ Q)) (sym f.parts)
            (within (subst (λ k. SpellsIn text o (cond (is_declaration k) (head true) (expr Expression false Any)) f.put_there s m P) (sym (kind_bare f.put_there)) f.spelled) d);
        rests = λ rest. ap (λ k. others (join k rest)) f.parts;
        skips = λ rest q. ap (λ k. last_ends_in_if (join k rest)) f.parts ∙ part_skipped f.put_there rest q;
      }
  initial_of {o} {s = s} {m = m} {ps = ps} {P = P} see (inr h) = record {
    runs = λ L e rest Q d. subst (λ k. RunsIn text o (anywhere (given (bare_parts (join k rest)) (initial (bare_parts (join k rest))) ++ L)) (join k rest) s e (P ++ Q)) (sym h.0.2)
        (missing (subst (λ R. RunsIn text o (anywhere L) rest s e (R ++ Q)) (sym h.0.3) (subst (λ v. RunsIn text o (anywhere L) rest v e Q) h.0.0 d)));
    rests = λ rest. ap (λ k. others (join k rest)) h.0.2;
    skips = λ rest q. ap (λ k. last_ends_in_if (join k rest)) h.0.2;
  }

  -- a `for` with `;`
  loop_stated : {o : ℕ} (r : Bool) (y z : Edge) {s a m e : Token} {first : Parts} (behind : Parts) {P : List Pair} (Q : List Pair) → ReadsHere text Punctuator (codes "(") s a → Initial o a m first P → PiecesAt text r o (statement_parts headed.ForLoop r) m e y z behind Q → StatedBy text r kind.ForStatement (join first behind) o s e (P ++ Q)
  loop_stated {o} r y z {s} {a} {m} {e} {first} behind {P} Q left_sign f u =
      let b = read_then text u in
      let t = optional_then b.others in
      let c = read_then text t.others_there in
      let w = optional_then c.others in
      let d = read_then text w.others_there in
      let st = last_one d.others in
      let last : RunsIn text o (anywhere (last_piece r)) w.rest w.mid e w.more = step (token d.first) (step laid (part_runs text refl st.parts (sym (append-nil w.more)) st.statement.spelled done)) in
      let third : RunsIn text o (anywhere (given (others (bare_parts behind)) later ++ last_piece r)) t.rest c.mid e t.more =
      retell Token (SeenNext text) (behind_in text) (ap (λ x. anywhere (given x later ++ last_piece r)) (sym (bare_others behind ∙ ap bare_parts t.rests))) (w.runs (last_piece r) e last) in
      let second : RunsIn text o (anywhere (second_pieces r (bare_parts behind))) behind m e Q = step (token b.first) (t.runs (sign ";" ∷ (given (others (bare_parts behind)) later ++ last_piece r)) e (step (token c.first) third)) in
      let all = join first behind in
      let at_first = f.runs (second_pieces r (bare_parts behind)) e behind Q second in
      let told : second_pieces r (bare_parts behind) ≡ second_pieces r (others (bare_parts all)) = ap (second_pieces r) (sym (bare_others all ∙ ap bare_parts (f.rests behind))) in
      let run : RunsIn text o (anywhere (sp ∷ sign "(" ∷ (given (bare_parts all) (initial (bare_parts all)) ++ second_pieces r (bare_parts behind)))) all s e (P ++ Q) = step laid (step (token left_sign) at_first) in
      let some : is_none w.rest ≡ false = ap is_none st.parts in
      let some_more : is_none t.rest ≡ false = left_over t.rest (ap is_none w.rests ∙ some) in
      let some_most : is_none behind ≡ false = left_over behind (ap is_none t.rests ∙ some_more) in
      record {
        runs = retell Token (SeenNext text) (behind_in text) (ap (λ x. anywhere (sp ∷ sign "(" ∷ (given (bare_parts all) (initial (bare_parts all)) ++ x))) told ∙ ap anywhere (loop_told r (bare_parts all))) run;
        dangles = λ h. st.statement.dangles (sym (f.skips behind some_most ∙ t.skips some_more ∙ w.skips some ∙ ap last_ends_in_if st.parts) ∙ h);
      }
    where
      left_over : (ps : Parts) → is_none (others ps) ≡ false → is_none ps ≡ false
      left_over none h = absurd (true≢false h)
      left_over (part n ps) h = refl
      left_over (gap ps) h = refl

-- of each kind
pub for_stated : (text : SourceText) {o : ℕ} (r : Bool) (what : StatementKind) (y z : Edge) {s m e : Token} {first : Parts} (behind : Parts) {P : List Pair} (Q : List Pair) → PiecesAt text r o (statement_parts headed.For r) s m Closed y first P → KindFollowed text m what → PiecesAt text r o (statement_parts what r) m e y z behind Q →
    StatedBy text r (statement_node_kind what) (join first behind) o s e (P ++ Q)
for_stated text r headed.ForLoop y z behind Q u followed v =
    let a = read_then text u in
    loop_stated text r y z behind Q a.first (initial_of text followed (last_one a.others)) v
for_stated text r headed.ForIn y z behind Q u followed v =
    let a = read_then text u in
    let b = read_then text v in
    let c = expression_then text b.others in
    let d = read_then text c.others in
    each_stated text r kind.ForInStatement (codes "in") Expression (λ ps. refl) (λ ps. refl) a.first (each_left text {v = codes ";"} {x = Closed} {y = y} refl followed (last_one a.others)) b.first c.first.1 d.first (last_one d.others) c.parts c.pairs
for_stated text r headed.ForOf y z behind Q u followed v =
    let a = read_then text u in
    let b = read_then text v in
    let c = expression_then text b.others in
    let d = read_then text c.others in
    each_stated text r kind.ForOfStatement (codes "of") Assignment (λ ps. refl) (λ ps. refl) a.first (each_left text {v = codes ";"} {x = Closed} {y = y} refl followed (last_one a.others)) b.first c.first.1 d.first (last_one d.others) c.parts c.pairs
for_stated text r _ y z behind Q u followed v = absurd followed
