-- What is an expression too: a name, the string of a directive, a group.
use Rattle.std.proofs.Common.{◌≡◌, ℕ, Bool, true, false, List, [], ◌∷◌, refl, sym, ap, ◌∙◌, subst}
use Rattle.std.specs.Prelude.{not, ◌&&◌}
use Rattle.std.proofs.lemmas.Bool.{and_parts, false≢true}
use Rattle.tokens.specs.declared.token.TokenClass.{TokenClass}
use Rattle.tokens.specs.declared.token.TokenClass.TheVariants.{IdentifierName, StringLiteral}
use Rattle.tree.specs.declared.kind.Kind.TheVariants.{Literal}
use Rattle.tree.specs.declared.kind.Pair.{Pair}
use Rattle.tree.specs.Tree.{Tree, node, none, bare, plain}
use Rattle.tree.proofs.Lean.{lean_flags}
use Rattle.language.specs.declared.Rank.TheVariants.{Expression, Grouped, Primary}
use Rattle.language.specs.declared.Start.TheVariants.{Any, Statement}
use Rattle.language.specs.Vocabulary.{among, precedence, is_reserved, literal_class, is_string, is_name}
use Rattle.language.specs.Pieces.{expr, name, directive_string, tok, at}
use Rattle.language.specs.Token.{Token}
use Rattle.language.specs.Promises.{IsDetermined}
use Rattle.language.specs.Grammar.{ways, spellings, starts}
use Rattle.language.specs.Derivation.{Reads, Spells, direct, grouped, done, step, token, Placed, placed}
use Rattle.language.proofs.table.NodeForms.{identifier, literal}
use Rattle.language.proofs.lower_bound.Domination.{settled}
use Rattle.language.proofs.table.ViewIsComplete.{way_of, made, one, cases}
use Rattle.language.proofs.table.Productions.{spell}
use Rattle.language.proofs.table.Begins.{among_by, retell}
use Rattle.language.proofs.list_loops.FirstPieces.{run_none, run_token}
use Rattle.language.proofs.climbing.BinaryTurns.{same_node}
use Rattle.language.proofs.climbing.Leaves.{name_form}
use Rattle.language.proofs.table.Beginnings.{made_rank, too_tight}

-- a name that isn't reserved may begin a statement
starts_free : (w : List ℕ) → is_reserved w ≡ false → starts Statement (tok IdentifierName w ∷ []) ≡ true
unfolding is_reserved
starts_free w h = of (among w ("function" ∷ "class" ∷ [])) refl
  where
    of : (b : Bool) → among w ("function" ∷ "class" ∷ []) ≡ b → not b ≡ true
    of false e = refl
    of true e = absurd (false≢true (sym h ∙ among_by (λ v. is_reserved v ≡ true) w ("function" ∷ "class" ∷ []) e (refl, (refl, tt))))

-- the class of a string
pub text_class : (c : TokenClass) → is_string c ≡ true → c ≡ StringLiteral
text_class StringLiteral h = refl
text_class _ h = cc

module _ (S : Type 0) (Next : S → Token → S → Type 0) (behind : S → Token) (det : IsDetermined S Next behind) where
  -- a name is an expression
  pub name_expression : {o : ℕ} {n : Tree} {s e : S} {P : List Pair} → Spells ways S Next behind o name n s e P → Spells ways S Next behind o (expr Expression true Statement) n s e P
  name_expression {o} {n} {s} {e} {P} d =
      let u = name_form S Next behind det d in
      let v = u.0 in
      subst (λ x. Spells ways S Next behind o (expr Expression true Statement) n s e x) (sym v.pairs)
      (subst (λ x. Spells ways S Next behind o (expr Expression true Statement) x s e []) (sym v.tree)
      (spell S Next behind (at Primary (tok IdentifierName v.text ∷ [])) (identifier u.1) refl refl refl (starts_free v.text u.1) (placed v.reads.next refl) (step (token v.reads) done)))

  -- the string of a directive, which its token tells
  pub record Quoted (o : ℕ) (n : Tree) (s e : S) (P : List Pair) : Type 0 where
    pub text : List ℕ
    pub sign : Token
    pub st : ℕ
    pub en : ℕ
    pub class : literal_class text ≡ StringLiteral
    pub reads : Reads S Next behind StringLiteral text s sign e
    pub tree : n ≡ node Literal text plain st en none
    pub placed : Placed S Next behind directive_string n s e
    pub pairs : P ≡ []

  -- so it is told
  pub quoted_form : {o : ℕ} {n : Tree} {s e : S} {P : List Pair} → Spells ways S Next behind o directive_string n s e P → Quoted o n s e P
  unfolding spellings
  quoted_form {o} {n = node Literal w g st en ps} {s} {e} {P} (direct qs h pl d) = let v = way_of h in
      cases {ys = []} (is_string (literal_class w)) v.listed (λ b k.
      let u = run_token S Next behind (retell S Next behind (v.is ∙ ap (settled directive_string) (one k)) d) in
      let z = run_none S Next behind u.runs in
      record {
        text = w;
        sign = u.sign;
        st = st;
        en = en;
        class = text_class (literal_class w) b;
        reads = subst (λ x. Reads S Next behind StringLiteral w s u.sign x) z.place u.reads;
        tree = same_node refl refl (lean_flags (bare (node Literal w g st en ps)) v.lean) refl refl z.parts;
        placed = pl;
        pairs = z.pairs;
      }) (λ b k. elim k [ ])
  quoted_form {n = node _ w g st en ps} (direct qs h pl d) = elim ((way_of h).listed) [ ]

  -- a directive's string is one
  pub quoted_expression : {o : ℕ} {n : Tree} {s e : S} {P : List Pair} → Spells ways S Next behind o directive_string n s e P → Spells ways S Next behind o (expr Expression true Statement) n s e P
  quoted_expression {o} {n} {s} {e} {P} d =
      let v = quoted_form d in
      subst (λ x. Spells ways S Next behind o (expr Expression true Statement) n s e x) (sym v.pairs)
      (subst (λ x. Spells ways S Next behind o (expr Expression true Statement) x s e []) (sym v.tree)
      (spell S Next behind (at Primary (tok (literal_class v.text) v.text ∷ [])) (literal (ap (λ c. is_name c && not (among v.text ("true" ∷ "false" ∷ "null" ∷ []))) v.class)) refl refl refl (ap (λ c. starts Statement (tok c v.text ∷ [])) v.class)
      (replaced (subst (λ x. Placed S Next behind directive_string x s e) v.tree v.placed)) (step (token (record { next = v.reads.next; class = v.reads.class ∙ sym v.class; text = v.reads.text })) done)))
    where
      replaced : {m : Tree} → Placed S Next behind directive_string m s e → Placed S Next behind (expr Expression true Statement) m s e
      replaced (placed nx p) = placed nx p

  -- a group is one at any position
  pub group_expression : {o : ℕ} {n : Tree} {s e : S} {P : List Pair} → Spells ways S Next behind o (expr Grouped true Any) n s e P → Spells ways S Next behind o (expr Expression true Statement) n s e P
  unfolding spellings
  group_expression (grouped p d q) = grouped p d q
  group_expression {n = node k w g st en ps} (direct qs h pl d) = let v = way_of h in absurd (too_tight (precedence v.spelling.rank) (made_rank (made k v.listed)) (and_parts _ _ (and_parts _ _ v.fit).0).0)
