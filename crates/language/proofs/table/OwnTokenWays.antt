-- A statement or declaration whose first token is its own: from what stands behind that token to the statement.
use Rattle.std.proofs.Common.{◌≡◌, ℕ, Bool, true, false, cond, List, [], ◌∷◌, ◌++◌, refl, sym, ap, ◌∙◌, subst, ◌⊎◌, inl, inr}
use Prim.Native.String.{String}
use Rattle.tokens.specs.declared.token.TokenClass.{TokenClass}
use Rattle.tokens.specs.declared.token.TokenClass.TheVariants.{IdentifierName, Punctuator}
use Rattle.tokens.specs.declared.token.Goal.{Goal}
use Rattle.tree.specs.declared.kind.Kind.{Kind}
use Rattle.tree.specs.declared.kind.Kind.TheVariants.{BlockStatement, ForInStatement, ForOfStatement}
use Rattle.tree.specs.declared.kind.Pair.{Pair}
use Rattle.tree.specs.Tree.{Tree, node, Parts, bare, bare_parts, plain}
use Rattle.tree.specs.Uses.{is_lean}
use Rattle.language.specs.declared.Rank.TheVariants.{Expression, Primary}
use Rattle.language.specs.declared.Start.TheVariants.{Any}
use Rattle.language.specs.Vocabulary.{among}
use Rattle.language.specs.Pieces.{Role, at, Spelling}
use Rattle.language.specs.Token.{Token}
use Rattle.language.specs.StatementStart.{StatementStart, a_for, an_expression, is_own, statement_words, declaration_words, statement_signs, statement_start_among, statement_start_by, statement_start}
use Rattle.language.specs.Promises.{IsDetermined, ReadBy}
use Rattle.language.specs.Following.{AbsentPartsWhere}
use Rattle.language.specs.Grammar.{ways, can_run}
use Rattle.language.specs.Derivation.{Spells, direct, Runs, step, token, Placed, place}
use Rattle.language.proofs.lower_bound.Domination.{settled, fits}
use Rattle.language.proofs.table.Begins.{Each, among_by, goes_to, retell}
use Rattle.language.proofs.table.Productions.{way_from, runs_can}
use Rattle.language.proofs.table.StatementWays.{begins_as, kind_as, own_class, own_text, may_stand, behind_own, own_pieces, Stands, as_statement, as_item, as_opening, own_listed, plain_is_plainly}
use Rattle.language.proofs.table.LoopKinds.{LoopKind, a_loop, a_loop_in, a_loop_of, loop_kind}
use Rattle.language.proofs.table.Beginnings.{text_as, settled_at, OwnWay, own_way, LaterWay}
use Rattle.language.proofs.table.SoleWays.{Sole}

only_kind : (k : Kind) → is_own (begins_as k) ≡ true → (begins_as k ≡ a_for → ⊥) → k ≡ kind_as (begins_as k)
only_kind ForInStatement h f = absurd (f refl)
only_kind ForOfStatement h f = absurd (f refl)
only_kind _ h f = cc

kind_again : (b : StatementStart) → is_own b ≡ true → begins_as (kind_as b) ≡ b
kind_again an_expression h = cc
kind_again _ h = refl

-- of a statement that the token begins: its token's class and text, and that it may stand there
record Begun (d r : Bool) (c : TokenClass) (w : List ℕ) (b : StatementStart) : Type 0 where
  class : c ≡ own_class b
  text : w ≡ own_text b (text_as b w)
  stands : may_stand d r b (text_as b w) ≡ true

abbrev EachRow : (List ℕ → StatementStart → Type 0) → List (List String × StatementStart) → Type 0
EachRow R [] = Unit {0}
EachRow R (row ∷ rows) = Each (λ v. R v row.1) row.0 × EachRow R rows

by_row : (R : List ℕ → StatementStart → Type 0) (w : List ℕ) (rows : List (List String × StatementStart)) → R w an_expression → EachRow R rows → R w (statement_start_among w rows)
by_row R w [] other all = other
by_row R w (row ∷ rows) other all = go (among w row.0) refl (by_row R w rows other all.1)
  where
    go : (b : Bool) → among w row.0 ≡ b → R w (statement_start_among w rows) → R w (cond b row.1 (statement_start_among w rows))
    go true e u = among_by (λ v. R v row.1) w row.0 e all.0
    go false e u = u

module _ (d r : Bool) (c : TokenClass) where
  abbrev Row : List ℕ → StatementStart → Type 0
  Row w b = is_own b ≡ true → Begun d r c w b

none_begun : {d r : Bool} {c : TokenClass} {w : List ℕ} → Row d r c w an_expression
none_begun h = cc

row : {d r : Bool} {c : TokenClass} {w : List ℕ} {b : StatementStart} → c ≡ own_class b → w ≡ own_text b (text_as b w) → may_stand d r b (text_as b w) ≡ true → Row d r c w b
row p q s h = record { class = p; text = q; stands = s }

token_begun : (d r : Bool) (c : TokenClass) (w : List ℕ) → Row d r c w (statement_start_by d r c w)
token_begun true true IdentifierName w = by_row (Row true true IdentifierName) w (declaration_words ++ statement_words true) none_begun (
  (row refl refl refl, tt),
  (
    (row refl refl refl, tt),
    (
      (row refl refl refl, (row refl refl refl, tt)),
      (
        (row refl refl refl, tt),
        (
          (row refl refl refl, tt),
          (
            (row refl refl refl, tt),
            (
              (row refl refl refl, tt),
              (
                (row refl refl refl, tt),
                (
                  (row refl refl refl, tt),
                  ((row refl refl refl, tt), ((row refl refl refl, tt), ((row refl refl refl, tt), ((row refl refl refl, tt), ((row refl refl refl, tt), ((row refl refl refl, tt), tt)))))),
                ),
              ),
            ),
          ),
        ),
      ),
    ),
  ),
)
token_begun true false IdentifierName w = by_row (Row true false IdentifierName) w (declaration_words ++ statement_words false) none_begun (
  (row refl refl refl, tt),
  (
    (row refl refl refl, tt),
    (
      (row refl refl refl, (row refl refl refl, tt)),
      (
        (row refl refl refl, tt),
        (
          (row refl refl refl, tt),
          (
            (row refl refl refl, tt),
            (
              (row refl refl refl, tt),
              (
                (row refl refl refl, tt),
                (
                  (row refl refl refl, tt),
                  ((row refl refl refl, tt), ((none_begun, tt), ((row refl refl refl, tt), ((row refl refl refl, tt), ((row refl refl refl, tt), ((row refl refl refl, tt), tt)))))),
                ),
              ),
            ),
          ),
        ),
      ),
    ),
  ),
)
token_begun false true IdentifierName w = by_row (Row false true IdentifierName) w (statement_words true) none_begun (
  (row refl refl refl, tt),
  (
    (row refl refl refl, tt),
    (
      (row refl refl refl, tt),
      (
        (row refl refl refl, tt),
        (
          (row refl refl refl, tt),
          (
            (row refl refl refl, tt),
            (
              (row refl refl refl, tt),
              ((row refl refl refl, tt), ((row refl refl refl, tt), ((row refl refl refl, tt), ((row refl refl refl, tt), ((row refl refl refl, tt), tt))))),
            ),
          ),
        ),
      ),
    ),
  ),
)
token_begun false false IdentifierName w = by_row (Row false false IdentifierName) w (statement_words false) none_begun (
  (row refl refl refl, tt),
  (
    (row refl refl refl, tt),
    (
      (row refl refl refl, tt),
      (
        (row refl refl refl, tt),
        (
          (row refl refl refl, tt),
          (
            (row refl refl refl, tt),
            (
              (row refl refl refl, tt),
              ((none_begun, tt), ((row refl refl refl, tt), ((row refl refl refl, tt), ((row refl refl refl, tt), ((row refl refl refl, tt), tt))))),
            ),
          ),
        ),
      ),
    ),
  ),
)
token_begun d r Punctuator w = by_row (Row d r Punctuator) w statement_signs none_begun ((row refl refl refl, tt), ((row refl refl refl, tt), tt))
token_begun d r _ w = none_begun

same_loop : (j k : Kind) → begins_as j ≡ a_for → begins_as k ≡ a_for → (j ≡ k) ⊎ (j ≡ k → ⊥)
same_loop j k h i = of (loop_kind j h) (loop_kind k i)
  where
    of : {j k : Kind} → LoopKind j → LoopKind k → (j ≡ k) ⊎ (j ≡ k → ⊥)
    of a_loop a_loop = inl refl
    of a_loop a_loop_in = inr (λ e. cc)
    of a_loop a_loop_of = inr (λ e. cc)
    of a_loop_in a_loop = inr (λ e. cc)
    of a_loop_in a_loop_in = inl refl
    of a_loop_in a_loop_of = inr (λ e. cc)
    of a_loop_of a_loop = inr (λ e. cc)
    of a_loop_of a_loop_in = inr (λ e. cc)
    of a_loop_of a_loop_of = inl refl

own_lean : (k : Kind) (w : List ℕ) (st en : ℕ) (ps : Parts) → is_own (begins_as k) ≡ true → is_lean (bare (node k (text_as (begins_as k) w) plain st en ps)) ≡ true
own_lean BlockStatement w st en ps h = refl
own_lean _ w st en ps h = cc

-- a statement has the span of its tokens
pub statement_spans : {a : Role} {p d r : Bool} → Stands a p d r → (t l : Token) → place a t l ≡ (t.start, l.stop)
statement_spans as_statement t l = refl
statement_spans as_item t l = refl
statement_spans as_opening t l = refl

-- and stands at no symbol
pub statement_fits : {a : Role} {p d r : Bool} → Stands a p d r → (x : Spelling) → fits a x ≡ can_run x.pieces
statement_fits as_statement x = refl
statement_fits as_item x = refl
statement_fits as_opening x = refl

module _ (S : Type 0) (Next : S → Token → S → Type 0) (behind : S → Token) (det : IsDetermined S Next behind) where
  -- where its pieces run behind its first token, a statement is spelled
  pub own_spells : {p d r : Bool} {a : Role} {s m e : S} {t : Token} {o st en : ℕ} {ps : Parts} {P : List Pair} (k : Kind) → Stands a p d r → ReadBy S Next behind Goal.RegExp s t m → statement_start d r t ≡ begins_as k → is_own (begins_as k) ≡ true →
      Placed S Next behind a (node k (text_as (begins_as k) t.text) plain st en ps) s e → Runs ways S Next behind o (goes_to Expression true Any (behind_own r k (bare_parts ps))) ps m e P →
      Spells ways S Next behind o a (node k (text_as (begins_as k) t.text) plain st en ps) s e P
  own_spells {p} {d} {r} {a} {s} {m} {e} {t} {o} {st} {en} {ps} {P} k stands read begun own pl d1 =
      let u = subst (λ b. Row d r t.class t.text b) begun (token_begun d r t.class t.text) own in
      let w = text_as (begins_as k) t.text in
      let x : Spelling = at Primary (own_pieces r k w (bare_parts ps)) in
      let run : Runs ways S Next behind o (goes_to Expression true Any x.pieces) ps s e P = step (token (record { next = read.next; class = u.class; text = u.text })) d1 in
      let can = runs_can S Next behind Expression true Any x.pieces run in
      direct (settled a x) (way_from a (node k w plain st en ps) x (own_lean k t.text st en ps own) (own_listed k w plain 0 0 (bare_parts ps) stands own (plain_is_plainly k) u.stands can) (statement_fits stands x ∙ can)) pl
      (retell S Next behind (sym (settled_at stands x)) run)

  module _ {p d r : Bool} {a : Role} {s m : S} {t : Token} {Fine : Tree → S → Type 0} (stands : Stands a p d r) (read : ReadBy S Next behind Goal.RegExp s t m) where
    -- the only way whose first token this is, but for `for`
    pub own_sole : (b : StatementStart) → statement_start d r t ≡ b → is_own b ≡ true → (b ≡ a_for → ⊥) → ((o : ℕ) (n : Tree) (e : S) (P : List Pair) → LaterWay S Next behind det r o a t m n s e P b → ⊥) →
        Sole S Next behind det Fine a (kind_as b) (text_as b t.text) plain s m (λ ps. goes_to Expression true Any (behind_own r (kind_as b) (bare_parts ps)))
    own_sole b begun own no_loop no_later =
        let again = kind_again b own in
        record {
          spans = statement_spans stands;
          told = λ d1 fine.
              let u = own_way S Next behind det stands read begun own (no_later _ _ _ _) d1 in
              let kind : u.kind ≡ kind_as b = only_kind u.kind (ap is_own u.begins ∙ own) (λ h. no_loop (sym u.begins ∙ h)) ∙ ap kind_as u.begins in
              record {
                st = u.st;
                en = u.en;
                parts = u.parts;
                tree = u.tree ∙ ap (λ k. node k (text_as b t.text) plain u.st u.en u.parts) kind;
                placed = u.placed;
                runs = retell S Next behind (ap (λ k. goes_to Expression true Any (behind_own r k (bare_parts u.parts))) kind) u.runs;
              };
          spells = λ {o} {st} {en} {ps} {e} {P} pl d1.
              subst (λ v. Spells ways S Next behind o a (node (kind_as b) (text_as v t.text) plain st en ps) s e P) again
              (own_spells (kind_as b) stands read (begun ∙ sym again) (ap is_own again ∙ own) (subst (λ v. Placed S Next behind a (node (kind_as b) (text_as v t.text) plain st en ps) s e) (sym again) pl) d1);
        }

    -- of a `for`, where the parts of the other two kinds are absent
    pub for_sole : (k : Kind) → statement_start d r t ≡ a_for → begins_as k ≡ a_for → ((o : ℕ) (n : Tree) (e : S) (P : List Pair) → LaterWay S Next behind det r o a t m n s e P a_for → ⊥) →
        ((k' : Kind) → begins_as k' ≡ a_for → (k' ≡ k → ⊥) → AbsentPartsWhere S Next behind (λ ps e. Fine (node k' [] plain 0 0 ps) e) (λ ps. goes_to Expression true Any (behind_own r k' (bare_parts ps))) m) →
        ((k' : Kind) (st en : ℕ) (ps : Parts) (e : S) → Fine (node k' [] plain st en ps) e → Fine (node k' [] plain 0 0 ps) e) →
        Sole S Next behind det Fine a k [] plain s m (λ ps. goes_to Expression true Any (behind_own r k (bare_parts ps)))
    for_sole k begun loop no_later others placeless = record {
      spans = statement_spans stands;
      told = λ {o} {n} {e} {P} d1 fine.
          let u = own_way S Next behind det stands read begun refl (no_later _ _ _ _) d1 in
          let this : u.kind ≡ k = of u (same_loop u.kind k u.begins loop) fine in
          record {
            st = u.st;
            en = u.en;
            parts = u.parts;
            tree = u.tree ∙ ap (λ v. node v [] plain u.st u.en u.parts) this;
            placed = u.placed;
            runs = retell S Next behind (ap (λ v. goes_to Expression true Any (behind_own r v (bare_parts u.parts))) this) u.runs;
          };
      spells = λ {o} {st} {en} {ps} {e} {P} pl d1.
          subst (λ v. Spells ways S Next behind o a (node k (text_as v t.text) plain st en ps) s e P) loop
          (own_spells k stands read (begun ∙ sym loop) (ap is_own loop) (subst (λ v. Placed S Next behind a (node k (text_as v t.text) plain st en ps) s e) (sym loop) pl) d1);
    }
      where
        of : {o : ℕ} {n : Tree} {e : S} {P : List Pair} (u : OwnWay S Next behind det r o a a_for t.text m n s e P) → (u.kind ≡ k) ⊎ (u.kind ≡ k → ⊥) → Fine n e → u.kind ≡ k
        of u (inl h) fine = h
        of {o} {e = e} {P = P} u (inr h) fine = absurd ((others u.kind u.begins h).nothing o e u.parts P u.runs (placeless u.kind u.st u.en u.parts e (subst (λ v. Fine v e) u.tree fine)))
