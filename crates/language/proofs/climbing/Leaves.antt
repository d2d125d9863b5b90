-- Leftmost parts of one token: names, `this`, literals; and names of properties.
use Rattle.std.proofs.Common.{◌≡◌, ℕ, ◌≤◌, Bool, true, false, cond, List, [], ◌∷◌, ◌++◌, refl, sym, ap, ◌∙◌, subst, arith}
use Rattle.std.specs.Prelude.{IsTrue, codes, not, ◌&&◌}
use Rattle.std.proofs.lemmas.Bool.{and_parts, false≢true}
use Rattle.std.proofs.lemmas.Bool.Decides.{nat_tests}
use Rattle.tokens.specs.declared.token.TokenClass.{TokenClass}
use Rattle.tokens.specs.declared.token.TokenClass.TheVariants.{IdentifierName, Punctuator, NumericLiteral, StringLiteral, PrivateName}
use Rattle.tokens.specs.declared.token.Goal.{Goal}
use Rattle.tokens.specs.declared.token.Goal.TheVariants.{Div}
use Rattle.tokens.specs.Goals.{allows}
use Rattle.tokens.specs.Alphabet.{one_of, begins_with}
use Rattle.tree.specs.declared.kind.Kind.{Kind}
use Rattle.tree.specs.declared.kind.Kind.TheVariants.{Identifier, PrivateIdentifier, Literal}
use Rattle.language.specs.declared.Rank.{Rank}
use Rattle.language.specs.declared.Rank.TheVariants.{Assignment, Primary}
use Rattle.language.specs.declared.Start.{Start}
use Rattle.language.specs.declared.Start.TheVariants.{Any, NoBrace, Statement}
use Rattle.tree.specs.declared.kind.Flags.{Flags}
use Rattle.tree.specs.declared.kind.Pair.{Pair}
use Rattle.tree.specs.Tree.{Tree, node, Parts, none, kind_of, bare, plain, bare_parts}
use Rattle.tree.specs.Uses.{is_lean, used_flags}
use Rattle.tree.proofs.Lean.{lean_flags}
use Rattle.language.specs.Vocabulary.{is, among, takes, takes_number, precedence, is_reserved, is_name, literal_class, is_keyword, is_private}
use Rattle.language.specs.Pieces.{expr, name, word, private_name, Piece, tok, at, Spelling}
use Rattle.language.specs.Expressions.{async_word, arrow_end}
use Rattle.language.specs.Token.{Token}
use Rattle.language.specs.ExpressionStart.{with_name, with_literal, with_parenthesis, expression_start}
use Rattle.language.specs.Promises.{is_free, IsDetermined, ReadBy, FoundAt}
use Rattle.language.specs.Grammar.{ways, spellings, starts}
use Rattle.language.specs.Derivation.{first, Reads, Spells, direct, Runs, done, step, token, Placed, placed, reserved_word}
use Rattle.language.specs.Chosen as chosen
use Rattle.language.specs.Chosen.{Chosen}
use Rattle.language.specs.Forms.{Production, form}
use Rattle.language.proofs.table.NodeForms.{Made, literal, identifier}
use Rattle.language.proofs.table.ViewIsComplete.{way_of, made, one, unless}
use Rattle.language.proofs.table.OperatorFacts.{binding}
use Rattle.language.proofs.climbing.Spine.{Core, group, plain as plain_core}
use Rattle.language.proofs.table.Productions.{spell, way_from, in_false}
use Rattle.language.proofs.table.Begins.{among_by, goes_to, retell}
use Rattle.language.proofs.table.LeftRecursiveWays.{property_role}
use Rattle.language.proofs.climbing.RightOperands.{PropertyFound}
use Rattle.language.proofs.table.TokenFirstWays.{BehindAsync, async_function, async_name, async_parameters, head_identifier, head_literal, head_short_arrow, head_async, either_class, opens, identifier_opens}
use Rattle.language.proofs.climbing.LeftmostParts.{Cored, in_way, core_by}
use Rattle.language.proofs.list_loops.FirstPieces.{run_none, run_token, run_laid, run_unbroken, run_part}
use Rattle.language.proofs.climbing.OperatorLoop.{Climbing}
use Rattle.language.proofs.climbing.FirstTurn.{climb_start}
use Rattle.language.proofs.climbing.BinaryTurns.{same_node}
use Rattle.language.proofs.list_loops.ParameterLists.{parameter_list, parameters_split, function_closer}

-- no form is of a symbol tighter than Primary
form_rank : {k : Kind} {w : List ℕ} {g : Flags} {ps : Parts} {p : Production} {y : Rank} {i : Bool} {f : Start} → Chosen w g ps (expr y i f) k p → precedence (form p).rank ≤ 22
form_rank {w = w} (chosen.binary p op) = let v = binding w op in let up = v.rises.0 in let most = v.most in omega arith
form_rank {w = w} (chosen.logical op) = let v = binding w op in let up = v.rises.0 in let most = v.most in omega arith
form_rank (chosen.of_statement s c) = elim s [ ]
form_rank (chosen.of_declaration s c) = elim s [ ]
form_rank _ = omega arith

-- so no way stands at one
pub made_rank : {k : Kind} {w : List ℕ} {g : Flags} {ps : Parts} {x : Spelling} → Made k w g ps x → precedence x.rank ≤ 22
made_rank m = subst (λ (x : Spelling). precedence x.rank ≤ 22) (sym m.is) (form_rank m.chosen)

below : (h z : ℕ) → IsTrue (takes_number h z) → z ≤ 22 → IsTrue (takes_number h 22)
below h z t l = grind (arith, nat_tests)

-- a name, or a word that some languages reserve
abbrev pub is_worded : TokenClass → List ℕ → Bool
is_worded IdentifierName w = true
is_worded TokenClass.Keyword w = is_keyword w
is_worded _ w = false

pub worded_free : (c : TokenClass) (w : List ℕ) → is_worded c w ≡ true → is_free c ≡ true
worded_free IdentifierName w h = refl
worded_free TokenClass.Keyword w h = refl
worded_free _ w h = cc

pub worded_no_sign : (c : TokenClass) (w : List ℕ) → is_worded c w ≡ true → c ≡ Punctuator → ⊥
worded_no_sign Punctuator w h e = cc
worded_no_sign _ w h e = cc

-- what no language reserves is a name
pub named_class : (c : TokenClass) (w : List ℕ) → is_worded c w ≡ true → is_keyword w ≡ false → c ≡ IdentifierName
named_class IdentifierName w h k = refl
named_class TokenClass.Keyword w h k = absurd (false≢true (sym k ∙ h))
named_class _ w h k = cc

module _ (S : Type 0) (Next : S → Token → S → Type 0) (behind : S → Token) (det : IsDetermined S Next behind) where
  -- a node of one token, and what is read there
  pub record OneToken (c : TokenClass) (k : Kind) (n : Tree) (s e : S) (P : List Pair) : Type 0 where
    pub text : List ℕ
    pub sign : Token
    pub reads : Reads S Next behind c text s sign e
    pub tree : n ≡ node k text plain sign.start (behind e).stop none
    pub pairs : P ≡ []

  -- by the pieces that run and the place
  one_token : {o : ℕ} {c : TokenClass} {k : Kind} {w : List ℕ} {g : Flags} {st en : ℕ} {ps : Parts} {s e : S} {P : List Pair} {t : Token} {m : S} → Runs ways S Next behind o (tok c w ∷ []) ps s e P → g ≡ plain → Next s t m → t.start ≡ st → (behind e).stop ≡ en →
      OneToken c k (node k w g st en ps) s e P
  one_token {c = c} {w = w} {s = s} {e = e} {t = t} {m = m} d flags nx p q =
      let v = run_token S Next behind d in
      let z = run_none S Next behind v.runs in
      record {
        text = w;
        sign = v.sign;
        reads = subst (λ x. Reads S Next behind c w s v.sign x) z.place v.reads;
        tree = same_node refl refl flags (sym p ∙ det.start s t v.sign m v.mid nx v.reads.next) (sym q) z.parts;
        pairs = z.pairs;
      }

  -- what spells a property's name is a name token
  -- a name token, or one that the language reserves
  pub record AnyName (n : Tree) (s e : S) (P : List Pair) : Type 0 where
    pub class : TokenClass
    pub text : List ℕ
    pub sign : Token
    pub is_word : is_worded class text ≡ true
    pub reads : Reads S Next behind class text s sign e
    pub tree : n ≡ node Identifier text plain sign.start (behind e).stop none
    pub pairs : P ≡ []

  any_name : {n : Tree} {s e : S} {P : List Pair} → OneToken IdentifierName Identifier n s e P → AnyName n s e P
  any_name u = record { class = IdentifierName; text = u.text; sign = u.sign; is_word = refl; reads = u.reads; tree = u.tree; pairs = u.pairs }

  pub word_form : {o : ℕ} {n : Tree} {s e : S} {P : List Pair} → Spells ways S Next behind o word n s e P → AnyName n s e P
  unfolding spellings
  word_form {n = node Identifier w g st en ps} (direct qs h (placed nx p) d) = let v = way_of h in
      any_name (one_token (retell S Next behind (v.is ∙ ap (Rattle.language.proofs.lower_bound.Domination.settled word) (one v.listed)) d) (lean_flags (bare (node Identifier w g st en ps)) v.lean) nx (ap (λ (x : ℕ × ℕ). x.0) p) (ap (λ (x : ℕ × ℕ). x.1) p))
  word_form (reserved_word r k e) = record { class = TokenClass.Keyword; text = _; sign = _; is_word = k; reads = r; tree = e; pairs = refl }
  word_form {n = node _ w g st en ps} (direct qs h pl d) = elim ((way_of h).listed) [ ]

  -- what spells a name that binds is a name token that isn't reserved
  pub name_form : {o : ℕ} {n : Tree} {s e : S} {P : List Pair} → Spells ways S Next behind o name n s e P → (u : OneToken IdentifierName Identifier n s e P) × (is_reserved u.text ≡ false)
  unfolding spellings one_token
  name_form {n = node Identifier w g st en ps} (direct qs h (placed nx p) d) = let v = way_of h in
      unless (is_reserved w) v.listed (λ c k. (one_token (retell S Next behind (v.is ∙ ap (Rattle.language.proofs.lower_bound.Domination.settled name) (one k)) d) (lean_flags (bare (node Identifier w g st en ps)) v.lean) nx (ap (λ (x : ℕ × ℕ). x.0) p) (ap (λ (x : ℕ × ℕ). x.1) p), c))
  name_form {n = node _ w g st en ps} (direct qs h pl d) = elim ((way_of h).listed) [ ]

  -- what spells a private name
  pub record PrivateToken (n : Tree) (s e : S) (P : List Pair) : Type 0 where
    pub text : List ℕ
    pub sign : Token
    pub reads : Reads S Next behind PrivateName (codes "#" ++ text) s sign e
    pub tree : n ≡ node PrivateIdentifier text plain sign.start (behind e).stop none
    pub pairs : P ≡ []

  pub private_form : {o : ℕ} {n : Tree} {s e : S} {P : List Pair} → Spells ways S Next behind o private_name n s e P → PrivateToken n s e P
  unfolding spellings
  private_form {n = node PrivateIdentifier w g st en ps} {s = s} (direct qs h (placed {t = t} {m = m} nx p) d) =
      let v = way_of h in
      let u = run_token S Next behind (retell S Next behind (v.is ∙ ap (Rattle.language.proofs.lower_bound.Domination.settled private_name) (one v.listed)) d) in
      let z = run_none S Next behind u.runs in
      record {
        text = w;
        sign = u.sign;
        reads = subst (λ x. Reads S Next behind PrivateName (codes "#" ++ w) s u.sign x) z.place u.reads;
        tree = same_node refl refl (lean_flags (bare (node PrivateIdentifier w g st en ps)) v.lean) (sym (ap (λ (x : ℕ × ℕ). x.0) p) ∙ det.start s t u.sign m u.mid nx u.reads.next) (sym (ap (λ (x : ℕ × ℕ). x.1) p)) z.parts;
        pairs = z.pairs;
      }
  private_form {n = node _ w g st en ps} (direct qs h pl d) = elim ((way_of h).listed) [ ]

  -- the token of a property's name, which every goal reads and which is no sign
  pub record PropertyToken (s e : S) : Type 0 where
    pub class : TokenClass
    pub text : List ℕ
    pub sign : Token
    pub reads : Reads S Next behind class text s sign e
    pub free : is_free class ≡ true
    pub no_sign : class ≡ Punctuator → ⊥

  pub property_token : {o : ℕ} (k : Kind) {n : Tree} {s e : S} {P : List Pair} → Spells ways S Next behind o (property_role k) n s e P → PropertyToken s e
  property_token {o} k {n} {s} {e} {P} d = of (is_private k) d
    where
      of : (b : Bool) → Spells ways S Next behind o (cond b private_name word) n s e P → PropertyToken s e
      of true d = let u = private_form d in record { class = PrivateName; text = _; sign = u.sign; reads = u.reads; free = refl; no_sign = λ e. cc }
      of false d = let u = word_form d in record { class = u.class; text = u.text; sign = u.sign; reads = u.reads; free = worded_free u.class u.text u.is_word; no_sign = worded_no_sign u.class u.text u.is_word }

  -- two readings of a name are one
  same_name : {s e e' : S} {w w' : List ℕ} {t t' : Token} → Reads S Next behind IdentifierName w s t e → Reads S Next behind IdentifierName w' s t' e' → (t ≡ t') × (e ≡ e')
  same_name {s} {e} {e'} {t = t} {t' = t'} h k = det.same Div s t t' e e' h.next k.next (det.free Div s t e h.next (ap is_free h.class)) (det.free Div s t' e' k.next (ap is_free k.class))

  same_leaf : {c : TokenClass} {k : Kind} {n n' : Tree} {s e e' : S} {P P' : List Pair} (u : OneToken c k n s e P) (v : OneToken c k n' s e' P') → (u.sign ≡ v.sign) × (e ≡ e') → (e ≡ e') × (n ≡ n') × (P ≡ P')
  same_leaf {k = k} u v h =
      let text : u.text ≡ v.text = sym u.reads.text ∙ ap (λ (t : Token). t.text) h.0 ∙ v.reads.text in
      (h.1, u.tree ∙ same_node {k = k} refl text refl (ap (λ (t : Token). t.start) h.0) (ap (λ x. (behind x).stop) h.1) refl ∙ sym v.tree, u.pairs ∙ sym v.pairs)

  same_word : {n : Tree} {s e e' : S} {c : TokenClass} {w : List ℕ} {t : Token} {P : List Pair} → is_worded c w ≡ true → Reads S Next behind c w s t e → AnyName n s e' P → (e' ≡ e) × (n ≡ node Identifier w plain t.start (behind e).stop none) × (P ≡ [])
  same_word {s = s} {e = e} {e' = e'} {c = c} {w = w} {t = t} k h u =
      let same = det.same Div s u.sign t e' e u.reads.next h.next (det.free Div s u.sign e' u.reads.next (ap is_free u.reads.class ∙ worded_free u.class u.text u.is_word)) (det.free Div s t e h.next (ap is_free h.class ∙ worded_free c w k)) in
      (same.1, u.tree ∙ same_node refl (sym u.reads.text ∙ ap (λ (x : Token). x.text) same.0 ∙ h.text) refl (ap (λ (x : Token). x.start) same.0) (ap (λ x. (behind x).stop) same.1) refl, u.pairs)

  word_spells : {o : ℕ} {s e : S} {t : Token} {w : List ℕ} (c : TokenClass) → is_worded c w ≡ true → Reads S Next behind c w s t e → Spells ways S Next behind o word (node Identifier w plain t.start (behind e).stop none) s e []
  unfolding spellings
  word_spells {e = e} {t = t} {w = w} IdentifierName k h =
      let x : Spelling = at Primary (tok IdentifierName w ∷ []) in
      direct (Rattle.language.proofs.lower_bound.Domination.settled word x) (way_from word (node Identifier w plain t.start (behind e).stop none) x refl first refl) (placed h.next refl) (step (token h) done)
  word_spells TokenClass.Keyword k h = reserved_word h k refl
  word_spells _ k h = cc

  -- so a name that is read is the only property's name there
  pub word_found : {o : ℕ} {s e : S} {t : Token} {c : TokenClass} {w : List ℕ} → is_worded c w ≡ true → Reads S Next behind c w s t e → FoundAt S Next behind o word s e (node Identifier w plain t.start (behind e).stop none) []
  word_found {c = c} k h = record { spelled = word_spells c k h; only = λ o' e' n' P' d. same_word k h (word_form d) }

  -- a name that is read is the only property's name where a private name may stand
  pub property_found : {o : ℕ} {s e : S} {t : Token} {c : TokenClass} {w : List ℕ} → is_worded c w ≡ true → Reads S Next behind c w s t e → PropertyFound S Next behind det o s e (node Identifier w plain t.start (behind e).stop none) []
  property_found {s = s} {e = e} {t = t} {c = c} {w = w} k h = record { spelled = word_spells c k h; only = λ o' e' n' P' d. of n' (is_private (kind_of n')) d }
    where
      of : {o' : ℕ} {e' : S} {P' : List Pair} (n' : Tree) (b : Bool) → Spells ways S Next behind o' (cond b private_name word) n' s e' P' → (e' ≡ e) × (n' ≡ node Identifier w plain t.start (behind e).stop none) × (P' ≡ [])
      of n' false d = same_word k h (word_form d)
      of {e' = e'} n' true d =
          let u = private_form d in
          let same = det.same Div s u.sign t e' e u.reads.next h.next (det.free Div s u.sign e' u.reads.next (ap is_free u.reads.class)) (det.free Div s t e h.next (ap is_free h.class ∙ worded_free c w k)) in
          let clash : PrivateName ≡ c = sym u.reads.class ∙ ap (λ (x : Token). x.class) same.0 ∙ h.class in
          absurd (false≢true (ap (λ x. is_worded x w) clash ∙ k))

  private_spells : {o : ℕ} {s e : S} {t : Token} {w : List ℕ} → Reads S Next behind PrivateName (codes "#" ++ w) s t e → Spells ways S Next behind o private_name (node PrivateIdentifier w plain t.start (behind e).stop none) s e []
  unfolding spellings
  private_spells {e = e} {t = t} {w = w} h =
      let x : Spelling = at Primary (tok PrivateName (codes "#" ++ w) ∷ []) in
      direct (Rattle.language.proofs.lower_bound.Domination.settled private_name x) (way_from private_name (node PrivateIdentifier w plain t.start (behind e).stop none) x refl first refl) (placed h.next refl) (step (token h) done)

  -- a private name that is read is the only property there
  pub private_found : {o : ℕ} {s e : S} {t : Token} {w : List ℕ} → Reads S Next behind PrivateName (codes "#" ++ w) s t e → PropertyFound S Next behind det o s e (node PrivateIdentifier w plain t.start (behind e).stop none) []
  private_found {s = s} {e = e} {t = t} {w = w} h = record { spelled = private_spells h; only = λ o' e' n' P' d. of n' (is_private (kind_of n')) d }
    where
      of : {o' : ℕ} {e' : S} {P' : List Pair} (n' : Tree) (b : Bool) → Spells ways S Next behind o' (cond b private_name word) n' s e' P' → (e' ≡ e) × (n' ≡ node PrivateIdentifier w plain t.start (behind e).stop none) × (P' ≡ [])
      of {e' = e'} n' false d =
          let u = word_form d in
          let same = det.same Div s u.sign t e' e u.reads.next h.next (det.free Div s u.sign e' u.reads.next (ap is_free u.reads.class ∙ worded_free u.class u.text u.is_word)) (det.free Div s t e h.next (ap is_free h.class)) in
          let clash : u.class ≡ PrivateName = sym u.reads.class ∙ ap (λ (x : Token). x.class) same.0 ∙ h.class in
          absurd (false≢true (sym (ap (λ x. is_worded x u.text) clash) ∙ u.is_word))
      of {e' = e'} n' true d =
          let u = private_form d in
          let same = det.same Div s u.sign t e' e u.reads.next h.next (det.free Div s u.sign e' u.reads.next (ap is_free u.reads.class)) (det.free Div s t e h.next (ap is_free h.class)) in
          let whole : codes "#" ++ u.text ≡ codes "#" ++ w = sym u.reads.text ∙ ap (λ (x : Token). x.text) same.0 ∙ h.text in
          let text : u.text ≡ w = cc in
          (same.1, u.tree ∙ same_node refl text refl (ap (λ (x : Token). x.start) same.0) (ap (λ x. (behind x).stop) same.1) refl, u.pairs)

  -- what stands behind `async` on its line: the word of a function; and where the position takes an arrow, a name or parameters and `=>`
  pub data AsyncNext (y : Rank) (s : S) : Type 0 where
    function_next : {t v : Token} {m e : S} → Reads S Next behind IdentifierName (codes "async") s t m → Reads S Next behind IdentifierName (codes "function") m v e → v.after_break ≡ false → AsyncNext y s
    name_next : {w : List ℕ} {t v u : Token} {m x e : S} → Reads S Next behind IdentifierName (codes "async") s t m → Reads S Next behind IdentifierName w m v x → is_reserved w ≡ false → v.after_break ≡ false → Reads S Next behind Punctuator (codes "=>") x u e → u.after_break ≡ false →
        IsTrue (takes y Assignment) → AsyncNext y s
    parameters_next : {t v u : Token} {o : ℕ} {ps : Parts} {m x z e : S} {R : List Pair} → Reads S Next behind IdentifierName (codes "async") s t m → Reads S Next behind Punctuator (codes "(") m v x → v.after_break ≡ false → Runs ways S Next behind o (parameter_list ps) ps x z R →
        Reads S Next behind Punctuator (codes "=>") z u e → u.after_break ≡ false → IsTrue (takes y Assignment) → AsyncNext y s

  -- where another position takes an arrow if this one does
  pub async_at : {h y : Rank} {s : S} → (IsTrue (takes h Assignment) → IsTrue (takes y Assignment)) → AsyncNext h s → AsyncNext y s
  async_at taken (function_next a b line) = function_next a b line
  async_at taken (name_next a b free line c on tk) = name_next a b free line c on (taken tk)
  async_at taken (parameters_next a b line d c on tk) = parameters_next a b line d c on (taken tk)

  pub async_next : {o : ℕ} {y : Rank} (h : Rank) (j : Bool) (f : Start) {k : Kind} {g : Flags} {ps : Parts} {rest : List Piece} {s e : S} {P : List Pair} → BehindAsync y g (bare_parts ps) k rest → Runs ways S Next behind o (goes_to h j f (async_word ++ rest)) ps s e P → AsyncNext y s
  async_next h j f (async_function z) d =
      let a = run_token S Next behind d in
      let b = run_unbroken S Next behind a.runs in
      let c = run_token S Next behind (run_laid S Next behind b.runs) in
      function_next a.reads c.reads (det.break a.mid c.sign b.sign c.mid b.mid c.reads.next b.next ∙ b.unbroken)
  async_next h j f (async_name z p i tk) d =
      let a = run_token S Next behind d in
      let b = run_unbroken S Next behind a.runs in
      let c = run_part S Next behind (run_laid S Next behind b.runs) in
      let u = name_form c.spelled in
      let l = run_unbroken S Next behind c.runs in
      let q = run_token S Next behind (run_laid S Next behind l.runs) in
      name_next a.reads u.0.reads u.1 (det.break a.mid u.0.sign b.sign c.mid b.mid u.0.reads.next b.next ∙ b.unbroken) q.reads (det.break c.mid q.sign l.sign q.mid l.mid q.reads.next l.next ∙ l.unbroken) tk
  async_next {o} h j f {g = g} {ps = ps} (async_parameters z tk) d =
      let a = run_token S Next behind d in
      let b = run_unbroken S Next behind a.runs in
      let c = run_token S Next behind (run_laid S Next behind b.runs) in
      let u = parameters_split S Next behind (arrow_end g) (function_closer S Next behind h j f o) ps c.runs in
      let l = run_unbroken S Next behind u.runs in
      let q = run_token S Next behind (run_laid S Next behind l.runs) in
      parameters_next a.reads c.reads (det.break a.mid c.sign b.sign c.mid b.mid c.reads.next b.next ∙ b.unbroken) u.list q.reads (det.break u.mid q.sign l.sign q.mid l.mid q.reads.next l.next ∙ l.unbroken) tk

  -- so a name that isn't reserved is the only one that binds there
  pub name_found : {o : ℕ} {s e : S} {t : Token} {w : List ℕ} → Reads S Next behind IdentifierName w s t e → is_reserved w ≡ false → FoundAt S Next behind o name s e (node Identifier w plain t.start (behind e).stop none) []
  unfolding spellings
  name_found {o} {s} {e} {t} {w} h free =
      let n : Tree = node Identifier w plain t.start (behind e).stop none in
      let x : Spelling = at Primary (tok IdentifierName w ∷ []) in
      let here : OneToken IdentifierName Identifier n s e [] = record { text = w; sign = t; reads = h; tree = refl; pairs = refl } in
      record {
        spelled = direct (Rattle.language.proofs.lower_bound.Domination.settled name x) (way_from name n x refl (in_false _ _ free first) refl) (placed h.next refl) (step (token h) done);
        only = λ o' e' n' P' d. let u = (name_form d).0 in same_leaf u here (same_name u.reads h);
      }

  -- a leftmost part of one token is the node of the token that is read
  leaf_same : {o : ℕ} {h : Rank} {j : Bool} {f : Start} {k K : Kind} {c : TokenClass} {v w W : List ℕ} {g : Flags} {st en : ℕ} {ps : Parts} {m : Tree} {s x mid : S} {Q : List Pair} {t : Token} → m ≡ node k w g st en ps → k ≡ K → w ≡ W → g ≡ plain →
      Placed S Next behind (expr h j f) m s mid → Runs ways S Next behind o (tok c v ∷ []) ps s mid Q → ((t1 : Token) (m1 : S) → Reads S Next behind c v s t1 m1 → (t1 ≡ t) × (m1 ≡ x)) →
      (mid ≡ x) × (m ≡ node K W plain t.start (behind x).stop none) × (Q ≡ [])
  leaf_same {h = h} {j = j} {f = f} {k = k} {K = K} {w = w} {W = W} {g = g} {st = st} {en = en} {ps = ps} {m = m} {s = s} {x = x} {mid = mid} {Q = Q} {t = t} is kind text flags pl d same = of (subst (λ c. Placed S Next behind (expr h j f) c s mid) is pl)
    where
      of : Placed S Next behind (expr h j f) (node k w g st en ps) s mid → (mid ≡ x) × (m ≡ node K W plain t.start (behind x).stop none) × (Q ≡ [])
      of (placed {t = t0} {m = m0} nx p) =
          let v = run_token S Next behind d in
          let z = run_none S Next behind v.runs in
          let u = same v.sign v.mid v.reads in
          let there : mid ≡ x = sym z.place ∙ u.1 in
          (there, is ∙ same_node kind text flags (sym (ap (λ (x : ℕ × ℕ). x.0) p) ∙ det.start s t0 v.sign m0 v.mid nx v.reads.next ∙ ap (λ (t : Token). t.start) u.0) (sym (ap (λ (x : ℕ × ℕ). x.1) p) ∙ ap (λ x. (behind x).stop) there) z.parts, z.pairs)

  -- by the goal for operands, what a literal's text is read as
  literal_allowed : {s m : S} {t : Token} (w : List ℕ) → (is_name (literal_class w) && not (among w ("true" ∷ "false" ∷ "null" ∷ []))) ≡ false → Reads S Next behind (literal_class w) w s t m → IsTrue (allows Goal.RegExp t.class t.text)
  literal_allowed {s} {m} {t} w h d = go _ _ _ h d
    where
      go : (a b c : Bool) → (is_name (cond a StringLiteral (cond b TokenClass.RegularExpressionLiteral (cond c NumericLiteral IdentifierName))) && not (among w ("true" ∷ "false" ∷ "null" ∷ []))) ≡ false → Reads S Next behind (cond a StringLiteral (cond b TokenClass.RegularExpressionLiteral (cond c NumericLiteral IdentifierName))) w s t m → IsTrue (allows Goal.RegExp t.class t.text)
      go true b c h d = det.free Goal.RegExp s t m d.next (ap is_free d.class)
      go false true c h d = subst (λ v. IsTrue (allows Goal.RegExp v t.text)) (sym d.class) (either_class (begins_with (one_of "/") t.text) (begins_with (one_of "}") t.text))
      go false false true h d = det.free Goal.RegExp s t m d.next (ap is_free d.class)
      go false false false h d = det.free Goal.RegExp s t m d.next (ap is_free d.class)

  starts_literal : (f : Start) (w : List ℕ) → (is_name (literal_class w) && not (among w ("true" ∷ "false" ∷ "null" ∷ []))) ≡ false → starts f (tok (literal_class w) w ∷ []) ≡ true
  starts_literal f w h = go f _ _ _ h
    where
      not_or : (b : Bool) → not b ≡ false → b ≡ true
      not_or true e = refl
      not_or false e = cc

      go : (f : Start) (a b c : Bool) → (is_name (cond a StringLiteral (cond b TokenClass.RegularExpressionLiteral (cond c NumericLiteral IdentifierName))) && not (among w ("true" ∷ "false" ∷ "null" ∷ []))) ≡ false → starts f (tok (cond a StringLiteral (cond b TokenClass.RegularExpressionLiteral (cond c NumericLiteral IdentifierName))) w ∷ []) ≡ true
      go Any a b c h = refl
      go NoBrace true b c h = refl
      go NoBrace false true c h = refl
      go NoBrace false false true h = refl
      go NoBrace false false false h = refl
      go Statement true b c h = refl
      go Statement false true c h = refl
      go Statement false false true h = refl
      go Statement false false false h = among_by (λ v. not (among v ("function" ∷ "class" ∷ [])) ≡ true) w ("true" ∷ "false" ∷ "null" ∷ []) (not_or _ h) (refl, (refl, (refl, tt)))

  starts_name : (f : Start) (w : List ℕ) → is_reserved w ≡ false → starts f (tok IdentifierName w ∷ []) ≡ true
  unfolding is_reserved
  starts_name Any w h = refl
  starts_name NoBrace w h = refl
  starts_name Statement w h = of (among w ("function" ∷ "class" ∷ [])) refl
    where
      of : (b : Bool) → among w ("function" ∷ "class" ∷ []) ≡ b → not b ≡ true
      of false e = refl
      of true e = absurd (false≢true (sym h ∙ among_by (λ v. is_reserved v ≡ true) w ("function" ∷ "class" ∷ []) e (refl, (refl, tt))))

  -- a name that is read there is the token that the goal reads
  pub by_name : {s0 x : S} {t : Token} {w : List ℕ} → ReadBy S Next behind Goal.RegExp s0 t x → (t1 : Token) (m1 : S) → Reads S Next behind IdentifierName w s0 t1 m1 → (t1 ≡ t) × (m1 ≡ x)
  by_name {s0} {x} {t} r t1 m1 h = det.same Goal.RegExp s0 t1 t m1 x h.next r.next (det.free Goal.RegExp s0 t1 m1 h.next (ap is_free h.class)) r.allowed

  pub by_class : {s0 x : S} {t : Token} {c : TokenClass} {w : List ℕ} → is_free c ≡ true → ReadBy S Next behind Goal.RegExp s0 t x → (t1 : Token) (m1 : S) → Reads S Next behind c w s0 t1 m1 → (t1 ≡ t) × (m1 ≡ x)
  by_class {s0} {x} {t} f r t1 m1 h = det.same Goal.RegExp s0 t1 t m1 x h.next r.next (det.free Goal.RegExp s0 t1 m1 h.next (ap is_free h.class ∙ f)) r.allowed

  -- a leftmost part that isn't a group stands at a symbol that takes a Primary
  pub core_primary : {o : ℕ} {h : Rank} {j : Bool} {f : Start} {m : Tree} {s mid x : S} {Q : List Pair} {t : Token} → Core S Next behind o (expr h j f) m s mid Q → ReadBy S Next behind Goal.RegExp s t x → (expression_start t ≡ with_parenthesis → ⊥) → IsTrue (takes h Primary)
  unfolding spellings
  core_primary {s = s} {x = x} {t = t} (group {left = u} {m = k} p d q) r other =
      let al : IsTrue (allows Goal.RegExp u.class u.text) = subst (λ c. IsTrue (allows Goal.RegExp c u.text)) (sym p.class) (subst (λ z. IsTrue (allows Goal.RegExp Punctuator z)) (sym p.text) refl) in
      absurd (other (ap expression_start (det.same Goal.RegExp s t u x k r.next p.next r.allowed al).0 ∙ opens u p.class p.text refl))
  core_primary {h = h} {j = j} {f = f} (plain_core {n = node k w g st en ps} qs way un pl eq d) r other =
      let v = way_of way in
      below (precedence h) (precedence v.spelling.rank) (and_parts _ _ (and_parts _ _ v.fit).0).0 (made_rank (made k v.listed))

  module _ {y : Rank} {i : Bool} {f : Start} {s0 x : S} {t : Token} (r : ReadBy S Next behind Goal.RegExp s0 t x) (low : IsTrue (takes y Primary)) where
    -- a literal
    pub climb_literal : {o : ℕ} → t.class ≡ literal_class t.text → (is_name (literal_class t.text) && not (among t.text ("true" ∷ "false" ∷ "null" ∷ []))) ≡ false → expression_start t ≡ with_literal →
        Climbing S Next behind det o y i f Primary s0 (node Literal t.text plain t.start (behind x).stop none) x []
    climb_literal class is_literal op = climb_start S Next behind det low
        (λ h j tk lo. spell S Next behind (at Primary (tok (literal_class t.text) t.text ∷ [])) (literal is_literal) refl tk refl (starts_literal f t.text is_literal) (placed r.next refl) (step (token (record { next = r.next; class = class; text = refl })) done))
        (λ o' n e P h j m mid Q b. only (core_by S Next behind det r op b.core) (core_primary b.core r (λ q. (let z = sym q ∙ op in cc))))
      where
        only : {o' : ℕ} {h : Rank} {j : Bool} {m : Tree} {mid : S} {Q : List Pair} → Cored S Next behind det o' h j f m s0 mid Q with_literal → IsTrue (takes h Primary) →
            (mid ≡ x) × (m ≡ node Literal t.text plain t.start (behind x).stop none) × (Q ≡ []) × IsTrue (takes h Primary)
        only {mid = mid} (in_way {w = w} {g = g} {st = st} {en = en} {ps = ps} is (head_literal k c q) lean pl d) tk =
            let bares : is_lean (bare (node _ w g st en ps)) ≡ true = ap (λ v. is_lean (bare v)) (sym is) ∙ lean in
            let same : (t1 : Token) (m1 : S) → Reads S Next behind (literal_class w) w s0 t1 m1 → (t1 ≡ t) × (m1 ≡ x) = λ t1 m1 b. det.same Goal.RegExp s0 t1 t m1 x b.next r.next (literal_allowed w c b) r.allowed in
            let v = run_token S Next behind (retell S Next behind q d) in
            let text : w ≡ t.text = sym v.reads.text ∙ ap (λ (t : Token). t.text) (same v.sign v.mid v.reads).0 in
            let u = leaf_same is k text (lean_flags (bare (node _ w g st en ps)) bares ∙ ap (λ v. used_flags v g) k) pl (retell S Next behind q d) same in
            (u.0, u.1, u.2, tk)

    -- an identifier, where no `=>` makes it the parameter of an arrow that the position takes
    pub climb_identifier : {o : ℕ} → t.class ≡ IdentifierName → is_reserved t.text ≡ false → (IsTrue (takes y Assignment) → (v : Token) (k : S) → Reads S Next behind Punctuator (codes "=>") x v k → v.after_break ≡ false → ⊥) → (AsyncNext y s0 → ⊥) →
        Climbing S Next behind det o y i f Primary s0 (node Identifier t.text plain t.start (behind x).stop none) x []
    climb_identifier class free no_arrow no_async = climb_start S Next behind det low
        (λ h j tk lo. spell S Next behind (at Primary (tok IdentifierName t.text ∷ [])) (identifier free) refl tk refl (starts_name f t.text free) (placed r.next refl) (step (token (record { next = r.next; class = class; text = refl })) done))
        (λ o' n e P h j m mid Q b. let op = opens t class refl (identifier_opens t.text free) in only (b.reached.taken Assignment) (core_by S Next behind det r op b.core) (core_primary b.core r (λ q. (let z = sym q ∙ op in cc))))
      where
        only : {o' : ℕ} {h : Rank} {j : Bool} {m : Tree} {mid : S} {Q : List Pair} → (IsTrue (takes h Assignment) → IsTrue (takes y Assignment)) → Cored S Next behind det o' h j f m s0 mid Q with_name → IsTrue (takes h Primary) →
            (mid ≡ x) × (m ≡ node Identifier t.text plain t.start (behind x).stop none) × (Q ≡ []) × IsTrue (takes h Primary)
        only taken (in_way {w = w} {g = g} {st = st} {en = en} {ps = ps} is (head_identifier k c q) lean pl d) tk =
            let bares : is_lean (bare (node _ w g st en ps)) ≡ true = ap (λ v. is_lean (bare v)) (sym is) ∙ lean in
            let v = run_token S Next behind (retell S Next behind q d) in
            let text : w ≡ t.text = sym v.reads.text ∙ ap (λ (t : Token). t.text) (by_name r v.sign v.mid v.reads).0 in
            let u = leaf_same is k text (lean_flags (bare (node _ w g st en ps)) bares ∙ ap (λ v. used_flags v g) k) pl (retell S Next behind q d) (by_name r) in
            (u.0, u.1, u.2, tk)
        only {h = h} {j = j} taken (in_way is (head_async u st q) lean pl d) tk = absurd (no_async (async_at taken (async_next h j f u (retell S Next behind q d))))
        only taken (in_way {g = g} is (head_short_arrow k z p n tk' q) lean pl d) tk =
            let a = run_part S Next behind (retell S Next behind q d) in
            let w = name_form a.spelled in
            let here = by_name r w.0.sign a.mid w.0.reads in
            let line = run_unbroken S Next behind a.runs in
            let v = run_token S Next behind (run_laid S Next behind line.runs) in
            let reads : Reads S Next behind Punctuator (codes "=>") x v.sign v.mid = subst (λ c. Reads S Next behind Punctuator (codes "=>") c v.sign v.mid) here.1 v.reads in
            absurd (no_arrow (taken tk') v.sign v.mid reads (det.break a.mid v.sign line.sign v.mid line.mid v.reads.next line.next ∙ line.unbroken))
