-- The declaration in the head of a `for`, and patterns, by their first token.
use Rattle.std.proofs.Common.{◌≡◌, ℕ, Bool, true, false, cond, List, [], ◌∷◌, refl, sym, ap, ◌∙◌, subst}
use Rattle.std.specs.Prelude.{IsTrue, ◌&&◌, ◌||◌}
use Rattle.std.proofs.lemmas.Bool.{and_parts, and_from}
use Rattle.tokens.specs.declared.token.TokenClass.TheVariants.{IdentifierName, Punctuator}
use Rattle.tokens.specs.declared.token.Goal.TheVariants.{Div}
use Rattle.tokens.specs.Goals.{allows}
use Rattle.tree.specs.declared.kind.Kind.TheVariants.{VariableDeclaration}
use Rattle.tree.specs.declared.kind.Pair.{Pair}
use Rattle.tree.specs.Tree.{Tree, node, Parts, bare, bare_parts, plain}
use Rattle.tree.proofs.Lean.{lean_flags}
use Rattle.language.specs.declared.Rank.TheVariants.{Expression, Primary}
use Rattle.language.specs.declared.Start.TheVariants.{Any}
use Rattle.language.specs.Vocabulary.{among}
use Rattle.language.specs.Pieces.{head, declarator, Piece, tok, Spelling, at, sp, nothing}
use Rattle.language.specs.Statements.{declarators, is_one}
use Rattle.language.specs.Token.{Token}
use Rattle.language.specs.Promises.{is_free, IsDetermined}
use Rattle.language.specs.Grammar.{ways, spellings, can_run}
use Rattle.language.specs.Derivation.{first, Reads, Spells, direct, Runs, step, token, Placed}
use Rattle.language.proofs.lower_bound.Domination.{settled}
use Rattle.language.proofs.table.ViewIsComplete.{way_of, cases}
use Rattle.language.proofs.table.Productions.{way_from, runs_can, in_true}
use Rattle.language.proofs.table.Begins.{goes_to, retell}
use Rattle.language.proofs.list_loops.FirstPieces.{run_token}
use Rattle.language.proofs.climbing.BinaryTurns.{same_node}
use Rattle.language.proofs.table.StatementWays.{pieces_of_one}
use Rattle.language.proofs.table.SoleWays.{Sole}

-- the words of declarations
abbrev pub is_declaration_word : List ℕ → Bool
is_declaration_word w = among w ("var" ∷ "let" ∷ "const" ∷ [])

-- behind such a word
abbrev pub behind_head : Bool → Parts → List Piece
behind_head b ps = cond (b || is_one ps) (sp ∷ declarators (declarator false b) ps) nothing

cond_true : (c : Bool) (qs : List Piece) → c ≡ true → qs ≡ cond c qs nothing
cond_true true qs h = refl
cond_true false qs h = cc

can_true : (c : Bool) (qs : List Piece) → can_run (cond c qs nothing) ≡ true → c ≡ true
can_true true qs h = refl
can_true false qs h = cc

module _ (S : Type 0) (Next : S → Token → S → Type 0) (behind : S → Token) (det : IsDetermined S Next behind) where
  -- what a declaration in a head is
  pub record HeadForm (o : ℕ) (b : Bool) (n : Tree) (s e : S) (P : List Pair) : Type 0 where
    pub text : List ℕ
    pub word : is_declaration_word text ≡ true
    pub sign_token : Token
    pub mid : S
    pub reads : Reads S Next behind IdentifierName text s sign_token mid
    pub st : ℕ
    pub en : ℕ
    pub parts : Parts
    pub tree : n ≡ node VariableDeclaration text plain st en parts
    pub placed : Placed S Next behind (head b) n s e
    pub runs : Runs ways S Next behind o (goes_to Expression true Any (behind_head b (bare_parts parts))) parts mid e P

  pub head_form : {o : ℕ} {b : Bool} {n : Tree} {s e : S} {P : List Pair} → Spells ways S Next behind o (head b) n s e P → HeadForm o b n s e P
  unfolding spellings
  head_form {b = b} {n = node VariableDeclaration w g st en ps} (direct qs h pl d) = let v = way_of h in
      cases {ys = []} (is_declaration_word w && (b || is_one (bare_parts ps))) v.listed (λ c k.
      let both = and_parts (is_declaration_word w) (b || is_one (bare_parts ps)) c in
      let t = run_token S Next behind (retell S Next behind (v.is ∙ ap (goes_to Expression true Any) (pieces_of_one k)) d) in
      record {
        text = w;
        word = both.0;
        sign_token = t.sign;
        mid = t.mid;
        reads = t.reads;
        st = st;
        en = en;
        parts = ps;
        tree = same_node refl refl (lean_flags (bare (node VariableDeclaration w g st en ps)) v.lean) refl refl refl;
        placed = pl;
        runs = retell S Next behind (ap (goes_to Expression true Any) (cond_true (b || is_one (bare_parts ps)) (sp ∷ declarators (declarator false b) (bare_parts ps)) both.1)) t.runs;
      }) (λ c k. elim k [ ])
  head_form {n = node _ w g st en ps} (direct qs h pl d) = elim ((way_of h).listed) [ ]

  -- the only way where such a word is read
  pub head_sole : {Fine : Tree → S → Type 0} {s m : S} {t : Token} (b : Bool) → Reads S Next behind IdentifierName t.text s t m → is_declaration_word t.text ≡ true →
      Sole S Next behind det Fine (head b) VariableDeclaration t.text plain s m (λ ps. goes_to Expression true Any (behind_head b (bare_parts ps)))
  unfolding spellings
  head_sole {s = s} {m = m} {t = t} b read word = record {
    spans = λ t l. refl;
    told = λ {o} {n} {e} {P} d fine.
        let u = head_form d in
        let same = det.same Div s u.sign_token t u.mid m u.reads.next read.next (det.free Div s u.sign_token u.mid u.reads.next (ap is_free u.reads.class)) (det.free Div s t m read.next (ap is_free read.class)) in
        let text : u.text ≡ t.text = sym u.reads.text ∙ ap (λ (x : Token). x.text) same.0 in
        record {
          st = u.st;
          en = u.en;
          parts = u.parts;
          tree = u.tree ∙ ap (λ w. node VariableDeclaration w plain u.st u.en u.parts) text;
          placed = u.placed;
          runs = subst (λ x. Runs ways S Next behind o (goes_to Expression true Any (behind_head b (bare_parts u.parts))) u.parts x e P) same.1 u.runs;
        };
    spells = λ {o} {st} {en} {ps} {e} {P} pl d.
        let can = can_true (b || is_one (bare_parts ps)) (sp ∷ declarators (declarator false b) (bare_parts ps)) (runs_can S Next behind Expression true Any (behind_head b (bare_parts ps)) d) in
        let x : Spelling = at Primary (tok IdentifierName t.text ∷ sp ∷ declarators (declarator false b) (bare_parts ps)) in
        let run : Runs ways S Next behind o (goes_to Expression true Any x.pieces) ps s e P = step (token read) (retell S Next behind (ap (goes_to Expression true Any) (sym (cond_true (b || is_one (bare_parts ps)) (sp ∷ declarators (declarator false b) (bare_parts ps)) can))) d) in
        direct (settled (head b) x) (way_from (head b) (node VariableDeclaration t.text plain st en ps) x refl (in_true [] (is_declaration_word t.text && (b || is_one (bare_parts ps))) (and_from _ _ word can) first) (runs_can S Next behind Expression true Any x.pieces run)) pl run;
  }

  -- two signs at a place are the same
  pub two_signs : {v w : List ℕ} {s m k : S} {t u : Token} → IsTrue (allows Div Punctuator v) → IsTrue (allows Div Punctuator w) → Reads S Next behind Punctuator v s t m → Reads S Next behind Punctuator w s u k → (v ≡ w) × (m ≡ k)
  two_signs {v} {w} {s} {m} {k} {t} {u} al al' a b =
      let same = det.same Div s t u m k a.next b.next (subst (λ x. IsTrue (allows Div x t.text)) (sym a.class) (subst (λ x. IsTrue (allows Div Punctuator x)) (sym a.text) al)) (subst (λ x. IsTrue (allows Div x u.text)) (sym b.class) (subst (λ x. IsTrue (allows Div Punctuator x)) (sym b.text) al')) in
      (sym a.text ∙ ap (λ (x : Token). x.text) same.0 ∙ b.text, same.1)
