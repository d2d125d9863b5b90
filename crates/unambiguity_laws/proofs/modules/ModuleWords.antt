-- Names, words and strings in imports and exports, and the source with which these end (16.2 of the 13th edition).
use Rattle.std.proofs.Common.{◌≡◌, ℕ, Bool, true, false, cond, List, [], ◌++◌, refl, sym, ap, ◌∙◌, subst}
use Rattle.std.specs.Prelude.{IsTrue, codes}
use Rattle.tokens.specs.declared.token.TokenClass.{TokenClass}
use Rattle.tokens.specs.declared.token.TokenClass.TheVariants.{IdentifierName, Punctuator, StringLiteral}
use Rattle.tokens.specs.declared.token.Goal.TheVariants.{Div}
use Rattle.tokens.specs.Goals.{allows}
use Rattle.tree.specs.declared.kind.Kind.{Kind}
use Rattle.tree.specs.declared.kind.Kind.TheVariants.{Identifier, Literal}
use Rattle.tree.specs.declared.kind.Pair.{Pair}
use Rattle.tree.specs.Tree.{Tree, node, Parts, none, part, plain}
use Rattle.language.specs.declared.Rank.TheVariants.{Expression}
use Rattle.language.specs.declared.Start.TheVariants.{Any}
use Rattle.language.specs.declared.Edge.TheVariants.{Closed}
use Rattle.language.specs.Pieces.{name, word, directive_string}
use Rattle.language.specs.Statements.{from_source}
use Rattle.language.specs.Token.{Token}
use Rattle.language.specs.Promises.{is_free, IsDetermined}
use Rattle.language.specs.Grammar.{ways}
use Rattle.language.specs.Derivation.{Reads, Spells, Runs, Step, Placed, placed}
use Rattle.language.proofs.table.Begins.{goes_to}
use Rattle.language.proofs.climbing.BinaryTurns.{same_node}
use Rattle.language.proofs.climbing.Leaves.{is_worded, worded_free, worded_no_sign, name_form, word_form}
use Rattle.language.proofs.climbing.AsExpressions.{quoted_form}
use Rattle.language.proofs.list_loops.FirstPieces.{run_token, run_laid, run_part}
use Rattle.language.proofs.list_loops.PiecesSoFar.{run_end}
use Rattle.unambiguity_laws.proofs.statements.FunctionForms.{names_same}
use Rattle.unambiguity_laws.proofs.statements.StatementEnds.{end_behind, end_once}

-- the node of a token that is a name, a word or a string
abbrev pub leaf_kind : TokenClass → Kind
leaf_kind StringLiteral = Literal
leaf_kind _ = Identifier

worded_kind : (c : TokenClass) (w : List ℕ) → is_worded c w ≡ true → leaf_kind c ≡ Identifier
worded_kind IdentifierName w h = refl
worded_kind TokenClass.Keyword w h = refl
worded_kind StringLiteral w h = cc
worded_kind _ w h = cc

module _ (S : Type 0) (Next : S → Token → S → Type 0) (behind : S → Token) (det : IsDetermined S Next behind) where
  -- a node of one such token
  pub record Leaf (n : Tree) (s e : S) (P : List Pair) : Type 0 where
    pub class : TokenClass
    pub text : List ℕ
    pub sign : Token
    pub reads : Reads S Next behind class text s sign e
    pub free : is_free class ≡ true
    pub no_sign : class ≡ Punctuator → ⊥
    pub tree : n ≡ node (leaf_kind class) text plain sign.start (behind e).stop none
    pub pairs : P ≡ []

  pub name_leaf : {o : ℕ} {n : Tree} {s e : S} {P : List Pair} → Spells ways S Next behind o name n s e P → Leaf n s e P
  name_leaf d = let u = (name_form S Next behind det d).0 in record { class = IdentifierName; text = u.text; sign = u.sign; reads = u.reads; free = refl; no_sign = λ e. cc; tree = u.tree; pairs = u.pairs }

  pub word_leaf : {o : ℕ} {n : Tree} {s e : S} {P : List Pair} → Spells ways S Next behind o word n s e P → Leaf n s e P
  word_leaf {e = e} d =
      let u = word_form S Next behind det d in
      record {
        class = u.class;
        text = u.text;
        sign = u.sign;
        reads = u.reads;
        free = worded_free u.class u.text u.is_word;
        no_sign = worded_no_sign u.class u.text u.is_word;
        tree = u.tree ∙ ap (λ k. node k u.text plain u.sign.start (behind e).stop none) (sym (worded_kind u.class u.text u.is_word));
        pairs = u.pairs;
      }

  pub string_leaf : {o : ℕ} {n : Tree} {s e : S} {P : List Pair} → Spells ways S Next behind o directive_string n s e P → Leaf n s e P
  string_leaf {s = s} {e = e} d =
      let q = quoted_form S Next behind det d in
      let span = of q.reads (subst (λ v. Placed S Next behind directive_string v s e) q.tree q.placed) in
      record { class = StringLiteral; text = q.text; sign = q.sign; reads = q.reads; free = refl; no_sign = λ e. cc; tree = q.tree ∙ same_node refl refl refl span.0 span.1 refl; pairs = q.pairs }
    where
      of : {w v : List ℕ} {c : TokenClass} {t : Token} {st en : ℕ} → Reads S Next behind c v s t e → Placed S Next behind directive_string (node Literal w plain st en none) s e → (st ≡ t.start) × (en ≡ (behind e).stop)
      of {t = t} r (placed {t = u} {m = m} nx p) = (sym (ap (λ (x : ℕ × ℕ). x.0) p) ∙ det.start s u t m e nx r.next, sym (ap (λ (x : ℕ × ℕ). x.1) p))

  pub module_leaf : {o : ℕ} (b : Bool) {n : Tree} {s e : S} {P : List Pair} → Spells ways S Next behind o (cond b word directive_string) n s e P → Leaf n s e P
  module_leaf true d = word_leaf d
  module_leaf false d = string_leaf d

  -- one alone stands at a place
  pub leaf_same : {n n' : Tree} {s e e' : S} {P P' : List Pair} → Leaf n s e P → Leaf n' s e' P' → (e' ≡ e) × (n' ≡ n) × (P' ≡ P)
  leaf_same {s = s} {e} {e'} u v =
      let same = det.same Div s v.sign u.sign e' e v.reads.next u.reads.next (det.free Div s v.sign e' v.reads.next (ap is_free v.reads.class ∙ v.free)) (det.free Div s u.sign e u.reads.next (ap is_free u.reads.class ∙ u.free)) in
      let class : v.class ≡ u.class = sym v.reads.class ∙ ap (λ (t : Token). t.class) same.0 ∙ u.reads.class in
      let text : v.text ≡ u.text = sym v.reads.text ∙ ap (λ (t : Token). t.text) same.0 ∙ u.reads.text in
      (same.1, v.tree ∙ same_node (ap leaf_kind class) text refl (ap (λ (t : Token). t.start) same.0) (ap (λ x. (behind x).stop) same.1) refl ∙ sym u.tree, v.pairs ∙ sym u.pairs)

  -- and no sign
  pub leaf_no_sign : {A : Type 0} {n : Tree} {s e k : S} {P : List Pair} {w : List ℕ} {t : Token} → IsTrue (allows Div Punctuator w) → Leaf n s e P → Reads S Next behind Punctuator w s t k → A
  leaf_no_sign {s = s} {e} {k} {t = t} al u r =
      let al' : IsTrue (allows Div t.class t.text) = subst (λ c. IsTrue (allows Div c t.text)) (sym r.class) (subst (λ c. IsTrue (allows Div Punctuator c)) (sym r.text) al) in
      let same = det.same Div s u.sign t e k u.reads.next r.next (det.free Div s u.sign e u.reads.next (ap is_free u.reads.class ∙ u.free)) al' in
      absurd (u.no_sign (sym u.reads.class ∙ ap (λ (x : Token). x.class) same.0 ∙ r.class))

  -- the source of an import or export: `from`, a string and the end
  pub record From (s e : S) (ps : Parts) (P : List Pair) : Type 0 where
    pub sign : Token
    pub mid : S
    pub place : S
    pub left : Tree
    pub reads : Reads S Next behind IdentifierName (codes "from") s sign mid
    pub leaf : Leaf left mid place []
    pub ends : Step S Next behind (end_behind Closed) place e
    pub parts : ps ≡ part left none
    pub pairs : P ≡ []

  pub from_form : {o : ℕ} {ps : Parts} {s e : S} {P : List Pair} → Runs ways S Next behind o (goes_to Expression true Any from_source) ps s e P → From s e ps P
  from_form d =
      let a = run_token S Next behind (run_laid S Next behind d) in
      let b = run_part S Next behind (run_laid S Next behind a.runs) in
      let z = run_end S Next behind det b.runs in
      let l = string_leaf b.spelled in
      record {
        sign = a.sign;
        mid = a.mid;
        place = b.mid;
        left = b.item;
        reads = a.reads;
        leaf = subst (λ v. Leaf b.item a.mid b.mid v) l.pairs l;
        ends = z.ends;
        parts = b.parts ∙ ap (part b.item) z.parts;
        pairs = b.pairs ∙ ap (λ v. v ++ b.more) l.pairs ∙ z.pairs;
      }

  pub from_same : {s e e' : S} {ps ps' : Parts} {P P' : List Pair} → From s e ps P → From s e' ps' P' → (e' ≡ e) × (ps' ≡ ps) × (P' ≡ P)
  from_same {e' = e'} u v =
      let word = (names_same S Next behind det v.reads u.reads).1 in
      let same = leaf_same u.leaf (subst (λ c. Leaf v.left c v.place []) word v.leaf) in
      (end_once S Next behind det u.ends (subst (λ c. Step S Next behind (end_behind Closed) c e') same.0 v.ends), v.parts ∙ ap (λ (c : Tree). part c none) same.1 ∙ sym u.parts, v.pairs ∙ sym u.pairs)
