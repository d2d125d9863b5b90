-- Keys, and properties and members by their first token.
use Rattle.std.proofs.Common.{◌≡◌, ℕ, Bool, true, false, cond, List, [], ◌∷◌, refl, sym, ap, ◌∙◌, subst, ◌⊎◌, inl, inr, arith}
use Rattle.std.specs.Prelude.{IsTrue, codes, ◌&&◌, ◌||◌, nat_eq, nat_le, slice_index_or}
use Rattle.std.proofs.lemmas.Bool.{false≢true}
use Rattle.std.proofs.lemmas.Bool.Decides.{nat_tests}
use Rattle.tokens.specs.declared.token.TokenClass.{TokenClass}
use Rattle.tokens.specs.declared.token.TokenClass.TheVariants.{IdentifierName, Punctuator, NumericLiteral, StringLiteral}
use Rattle.tokens.specs.declared.token.Goal.TheVariants.{Div}
use Rattle.tree.specs.declared.kind.Kind.{Kind}
use Rattle.tree.specs.declared.kind.Kind.TheVariants.{Identifier, Literal}
use Rattle.tree.specs.declared.kind.Form.{Form}
use Rattle.tree.specs.declared.kind.Form.TheVariants.{Get, Set}
use Rattle.tree.specs.declared.kind.Flags.{Flags}
use Rattle.tree.specs.declared.kind.Pair.{Pair}
use Rattle.tree.specs.Tree.{Tree, node, Parts, none, bare, plain}
use Rattle.tree.proofs.Lean.{lean_flags}
use Rattle.language.specs.declared.Rank.TheVariants.{Expression, Primary}
use Rattle.language.specs.declared.Start.TheVariants.{Any}
use Rattle.language.specs.Vocabulary.{literal_class, is_name}
use Rattle.language.specs.Pieces.{Role, key, PieceOf, tok, sub, Spelling, at, term, sp}
use Rattle.language.specs.Token.{Token}
use Rattle.language.specs.Promises.{is_free, IsDetermined, ReadBy, FoundAt}
use Rattle.language.specs.Grammar.{ways, spellings, keys}
use Rattle.language.specs.Derivation.{Among, first, Reads, Spells, direct, Runs, done, step, token, Placed, placed, reserved_key}
use Rattle.language.proofs.lower_bound.Domination.{settled}
use Rattle.language.proofs.table.ViewIsComplete.{way_of, one, unless}
use Rattle.language.proofs.table.Productions.{way_from, in_false}
use Rattle.language.proofs.table.Begins.{goes_to, retell}
use Rattle.language.proofs.list_loops.FirstPieces.{run_none, run_token, run_part}
use Rattle.language.proofs.climbing.BinaryTurns.{same_node}
use Rattle.language.proofs.climbing.Leaves.{OneToken}
use Rattle.language.proofs.table.StatementWays.{pieces_of_one}
use Rattle.language.proofs.table.PropertyWays.{form_pieces, MemberForm}
use Rattle.language.proofs.climbing.Conditionals.{read_there}
use Rattle.tokens.specs.Goals.{allows}

-- the classes of keys
abbrev pub is_key_class : TokenClass → Bool
is_key_class IdentifierName = true
is_key_class NumericLiteral = true
is_key_class StringLiteral = true
is_key_class TokenClass.Keyword = true
is_key_class _ = false

-- a getter or a setter
abbrev pub is_accessor : Form → Bool
is_accessor Get = true
is_accessor Set = true
is_accessor _ = false

-- what the key of such a token is
abbrev pub key_kind : TokenClass → Kind
key_kind IdentifierName = Identifier
key_kind TokenClass.Keyword = Identifier
key_kind _ = Literal

or_left : (a b : Bool) → (a || b) ≡ false → a ≡ false
or_left false b h = refl
or_left true b h = cc

-- the class of a literal's text
literal_classes : (w : List ℕ) → (literal_class w ≡ StringLiteral) ⊎ ((literal_class w ≡ TokenClass.RegularExpressionLiteral) ⊎ ((literal_class w ≡ NumericLiteral) ⊎ (literal_class w ≡ IdentifierName)))
literal_classes w = of (nat_eq (slice_index_or w 0 0) 34 || nat_eq (slice_index_or w 0 0) 39) (nat_eq (slice_index_or w 0 0) 47) (nat_eq (slice_index_or w 0 0) 46 || (nat_le 48 (slice_index_or w 0 0) && nat_le (slice_index_or w 0 0) 57))
  where
    of : (a b c : Bool) → (cond a StringLiteral (cond b TokenClass.RegularExpressionLiteral (cond c NumericLiteral IdentifierName)) ≡ StringLiteral) ⊎ ((cond a StringLiteral (cond b TokenClass.RegularExpressionLiteral (cond c NumericLiteral IdentifierName)) ≡ TokenClass.RegularExpressionLiteral) ⊎ ((cond a StringLiteral (cond b TokenClass.RegularExpressionLiteral (cond c NumericLiteral IdentifierName)) ≡ NumericLiteral) ⊎ (cond a StringLiteral (cond b TokenClass.RegularExpressionLiteral (cond c NumericLiteral IdentifierName)) ≡ IdentifierName)))
    of true b c = inl refl
    of false true c = inr (inl refl)
    of false false true = inr (inr (inl refl))
    of false false false = inr (inr (inr refl))

-- a regular expression begins with `/`
slash_first : (c : ℕ) (cs : List ℕ) → literal_class (c ∷ cs) ≡ TokenClass.RegularExpressionLiteral → c ≡ 47
slash_first c cs h = of (nat_eq c 34 || nat_eq c 39) (nat_eq c 47) (nat_eq c 46 || (nat_le 48 c && nat_le c 57)) refl h
  where
    of : (a b d : Bool) → nat_eq c 47 ≡ b → cond a StringLiteral (cond b TokenClass.RegularExpressionLiteral (cond d NumericLiteral IdentifierName)) ≡ TokenClass.RegularExpressionLiteral → c ≡ 47
    of true b d e h = cc
    of false true d e h = grind (arith, nat_tests)
    of false false true e h = cc
    of false false false e h = cc

no_regexp : (w : List ℕ) {x : Spelling} → Among x (keys Literal w) → literal_class w ≡ TokenClass.RegularExpressionLiteral → ⊥
no_regexp [] h e = cc
no_regexp (c ∷ cs) {x} h e = of (subst (λ d. Among x (keys Literal (d ∷ cs))) (slash_first c cs e) h)
  where
    of : Among x (keys Literal (47 ∷ cs)) → ⊥
    of h = elim h [ ]

-- what a literal's text is that is a key: a number or a string
literal_key : (w : List ℕ) {x : Spelling} → Among x (keys Literal w) → (is_key_class (literal_class w) ≡ true) × (key_kind (literal_class w) ≡ Literal) × (x.pieces ≡ tok (literal_class w) w ∷ [])
literal_key w h = unless _ h (λ e k. let u = of (literal_classes w) (or_left _ _ e) (no_regexp w h) in (u.0, u.1, pieces_of_one k))
  where
    of : (literal_class w ≡ StringLiteral) ⊎ ((literal_class w ≡ TokenClass.RegularExpressionLiteral) ⊎ ((literal_class w ≡ NumericLiteral) ⊎ (literal_class w ≡ IdentifierName))) → is_name (literal_class w) ≡ false → (literal_class w ≡ TokenClass.RegularExpressionLiteral → ⊥) → (is_key_class (literal_class w) ≡ true) × (key_kind (literal_class w) ≡ Literal)
    of (inl p) named other = (ap is_key_class p, ap key_kind p)
    of (inr (inl p)) named other = absurd (other p)
    of (inr (inr (inl p))) named other = (ap is_key_class p, ap key_kind p)
    of (inr (inr (inr p))) named other = absurd (false≢true (sym named ∙ ap is_name p))

pub key_free : (c : TokenClass) → is_key_class c ≡ true → is_free c ≡ true
key_free IdentifierName h = refl
key_free NumericLiteral h = refl
key_free StringLiteral h = refl
key_free TokenClass.Keyword h = refl
key_free _ h = cc

-- no literal has the class of a keyword
no_keyword : (w : List ℕ) → literal_class w ≡ TokenClass.Keyword → ⊥
no_keyword w p = of (literal_classes w)
  where
    of : (literal_class w ≡ StringLiteral) ⊎ ((literal_class w ≡ TokenClass.RegularExpressionLiteral) ⊎ ((literal_class w ≡ NumericLiteral) ⊎ (literal_class w ≡ IdentifierName))) → ⊥
    of (inl q) = string (sym q ∙ p)
      where
        string : StringLiteral ≡ TokenClass.Keyword → ⊥
        string e = cc
    of (inr (inl q)) = regexp (sym q ∙ p)
      where
        regexp : TokenClass.RegularExpressionLiteral ≡ TokenClass.Keyword → ⊥
        regexp e = cc
    of (inr (inr (inl q))) = number (sym q ∙ p)
      where
        number : NumericLiteral ≡ TokenClass.Keyword → ⊥
        number e = cc
    of (inr (inr (inr q))) = name (sym q ∙ p)
      where
        name : IdentifierName ≡ TokenClass.Keyword → ⊥
        name e = cc

literal_kind : (w : List ℕ) (c : TokenClass) → literal_class w ≡ c → is_key_class c ≡ true → is_name c ≡ false → key_kind c ≡ Literal
literal_kind w NumericLiteral p h k = refl
literal_kind w StringLiteral p h k = refl
literal_kind w TokenClass.Keyword p h k = absurd (no_keyword w p)
literal_kind w IdentifierName p h k = cc
literal_kind w _ p h k = cc

literal_there : (w : List ℕ) (c : TokenClass) → is_key_class c ≡ true → is_name c ≡ false → literal_class w ≡ c → Among (at Primary (tok (literal_class w) w ∷ [])) (keys Literal w)
literal_there w NumericLiteral h k p = in_false [] _ (cc) first
literal_there w StringLiteral h k p = in_false [] _ (cc) first
literal_there w IdentifierName h k p = cc
literal_there w TokenClass.Keyword h k p = absurd (no_keyword w p)
literal_there w _ h k p = cc

-- a word is a key
module _ (S : Type 0) (Next : S → Token → S → Type 0) (behind : S → Token) where
  pub word_key : {o : ℕ} {w : List ℕ} {s e : S} {t : Token} → Reads S Next behind IdentifierName w s t e → Spells ways S Next behind o key (node Identifier w plain t.start (behind e).stop none) s e []
  unfolding spellings
  word_key {w = w} {e = e} {t = t} h =
      let x : Spelling = at Primary (tok IdentifierName w ∷ []) in
      direct (settled key x) (way_from key (node Identifier w plain t.start (behind e).stop none) x refl first refl) (placed h.next refl) (step (token h) done)

module _ (S : Type 0) (Next : S → Token → S → Type 0) (behind : S → Token) (det : IsDetermined S Next behind) where
  key_token : {o : ℕ} {c : TokenClass} {k : Kind} {w : List ℕ} {g : Flags} {st en : ℕ} {ps : Parts} {s e : S} {P : List Pair} → Runs ways S Next behind o (tok c w ∷ []) ps s e P → g ≡ plain → Placed S Next behind key (node k w g st en ps) s e → OneToken S Next behind det c k (node k w g st en ps) s e P
  key_token {c = c} {w = w} {s = s} {e = e} d flags (placed {t = t} {m = m} nx p) =
      let v = run_token S Next behind d in
      let z = run_none S Next behind v.runs in
      record {
        text = w;
        sign = v.sign;
        reads = subst (λ x. Reads S Next behind c w s v.sign x) z.place v.reads;
        tree = same_node refl refl flags (sym (ap (λ (x : ℕ × ℕ). x.0) p) ∙ det.start s t v.sign m v.mid nx v.reads.next) (sym (ap (λ (x : ℕ × ℕ). x.1) p)) z.parts;
        pairs = z.pairs;
      }

  -- what spells a key: a name, a number or a string
  pub record KeyForm (o : ℕ) (n : Tree) (s e : S) (P : List Pair) : Type 0 where
    pub class : TokenClass
    pub is_key : is_key_class class ≡ true
    pub leaf : OneToken S Next behind det class (key_kind class) n s e P

  pub key_form : {o : ℕ} {n : Tree} {s e : S} {P : List Pair} → Spells ways S Next behind o key n s e P → KeyForm o n s e P
  unfolding spellings
  key_form {n = node Identifier w g st en ps} (direct qs h pl d) = let v = way_of h in
      record { class = IdentifierName; is_key = refl; leaf = key_token (retell S Next behind (v.is ∙ ap (settled key) (one v.listed)) d) (lean_flags (bare (node Identifier w g st en ps)) v.lean) pl }
  key_form (reserved_key r k e) = record { class = TokenClass.Keyword; is_key = refl; leaf = record { text = _; sign = _; reads = r; tree = e; pairs = refl } }
  key_form {o} {n = node Literal w g st en ps} {s} {e} {P} (direct qs h pl d) =
      let v = way_of h in
      let u = literal_key w v.listed in
      record {
        class = literal_class w;
        is_key = u.0;
        leaf = subst (λ k. OneToken S Next behind det (literal_class w) k (node Literal w g st en ps) s e P) (sym u.1) (key_token (retell S Next behind (v.is ∙ ap (goes_to Expression true Any) u.2) d) (lean_flags (bare (node Literal w g st en ps)) v.lean) pl);
      }
  key_form {n = node _ w g st en ps} (direct qs h pl d) = elim ((way_of h).listed) [ ]

  -- two readings of a key are one
  key_same : {o : ℕ} {s e e' : S} {n : Tree} {P : List Pair} {t : Token} (c : TokenClass) → is_key_class c ≡ true → Reads S Next behind c t.text s t e → KeyForm o n s e' P → (e' ≡ e) × (n ≡ node (key_kind c) t.text plain t.start (behind e).stop none) × (P ≡ [])
  key_same {s = s} {e = e} {e' = e'} {t = t} c is_key read u =
      let v = u.leaf in
      let same = det.same Div s v.sign t e' e v.reads.next read.next (det.free Div s v.sign e' v.reads.next (ap is_free v.reads.class ∙ key_free u.class u.is_key)) (det.free Div s t e read.next (ap is_free read.class ∙ key_free c is_key)) in
      let class : u.class ≡ c = sym v.reads.class ∙ ap (λ (x : Token). x.class) same.0 ∙ read.class in
      (same.1, v.tree ∙ same_node (ap key_kind class) (sym v.reads.text ∙ ap (λ (x : Token). x.text) same.0) refl (ap (λ (x : Token). x.start) same.0) (ap (λ x. (behind x).stop) same.1) refl, v.pairs)

  -- so a name is the only key there
  pub name_key_found : {o : ℕ} {s e : S} {t : Token} → Reads S Next behind IdentifierName t.text s t e → FoundAt S Next behind o key s e (node Identifier t.text plain t.start (behind e).stop none) []
  name_key_found read = record { spelled = word_key S Next behind read; only = λ o' e' n' P' d. key_same IdentifierName refl read (key_form d) }

  -- and a number or a string
  pub literal_key_found : {o : ℕ} {s e : S} {t : Token} (c : TokenClass) → is_key_class c ≡ true → is_name c ≡ false → literal_class t.text ≡ c → Reads S Next behind c t.text s t e →
      FoundAt S Next behind o key s e (node Literal t.text plain t.start (behind e).stop none) []
  unfolding spellings
  literal_key_found {o} {s} {e} {t} c is_key no_name class read =
      let n : Tree = node Literal t.text plain t.start (behind e).stop none in
      let x : Spelling = at Primary (tok (literal_class t.text) t.text ∷ []) in
      record {
        spelled = direct (settled key x) (way_from key n x refl (literal_there t.text c is_key no_name class) refl) (placed read.next refl) (step (token (record { next = read.next; class = read.class ∙ sym class; text = refl })) done);
        only = λ o' e' n' P' d. let u = key_same c is_key read (key_form d) in (u.0, u.1 ∙ ap (λ k. node k t.text plain t.start (behind e).stop none) (literal_kind t.text c class is_key no_name), u.2);
      }

-- What a property or a member that isn't static begins with, by its flags.
pub data FirstOf (t : Token) : Bool → Form → Type 0 where
  first_bracket : {f : Form} → is_accessor f ≡ false → t.class ≡ Punctuator → t.text ≡ codes "[" → FirstOf t true f
  first_get : {c : Bool} → t.class ≡ IdentifierName → t.text ≡ codes "get" → FirstOf t c Get
  first_set : {c : Bool} → t.class ≡ IdentifierName → t.text ≡ codes "set" → FirstOf t c Set
  first_key : {f : Form} → is_accessor f ≡ false → is_key_class t.class ≡ true → FirstOf t false f

module _ (S : Type 0) (Next : S → Token → S → Type 0) (behind : S → Token) (det : IsDetermined S Next behind) {s m : S} {t : Token} (read : ReadBy S Next behind Div s t m) where
  pub sign_read : {o : ℕ} {w : List ℕ} {qs : List (PieceOf Role)} {ps : Parts} {e : S} {P : List Pair} → IsTrue (allows Div Punctuator w) → Runs ways S Next behind o (tok Punctuator w ∷ qs) ps s e P → (t.class ≡ Punctuator) × (t.text ≡ w)
  sign_read al d = let u = run_token S Next behind d in let same = (read_there S Next behind det u.reads al read).0 in (ap (λ (x : Token). x.class) same ∙ u.reads.class, ap (λ (x : Token). x.text) same ∙ u.reads.text)

  pub word_read : {o : ℕ} {w : List ℕ} {qs : List (PieceOf Role)} {ps : Parts} {e : S} {P : List Pair} → IsTrue (allows Div IdentifierName w) → Runs ways S Next behind o (tok IdentifierName w ∷ qs) ps s e P → (t.class ≡ IdentifierName) × (t.text ≡ w)
  word_read al d = let u = run_token S Next behind d in let same = (read_there S Next behind det u.reads al read).0 in (ap (λ (x : Token). x.class) same ∙ u.reads.class, ap (λ (x : Token). x.text) same ∙ u.reads.text)

  pub key_read : {o : ℕ} {qs : List (PieceOf Role)} {ps : Parts} {e : S} {P : List Pair} → Runs ways S Next behind o (sub key ∷ qs) ps s e P → is_key_class t.class ≡ true
  key_read d =
      let p = run_part S Next behind d in
      let u = key_form S Next behind det p.spelled in
      let v = u.leaf in
      let same = (det.same Div s t v.sign m p.mid read.next v.reads.next read.allowed (det.free Div s v.sign p.mid v.reads.next (ap is_free v.reads.class ∙ key_free u.class u.is_key))).0 in
      ap is_key_class (ap (λ (x : Token). x.class) same ∙ v.reads.class) ∙ u.is_key

  form_first : {o : ℕ} {ps : Parts} {e : S} {P : List Pair} (c : Bool) (f : Form) → Runs ways S Next behind o (goes_to Expression true Any (form_pieces [] c f)) ps s e P → FirstOf t c f
  form_first true Get d = let u = word_read refl d in first_get u.0 u.1
  form_first false Get d = let u = word_read refl d in first_get u.0 u.1
  form_first true Set d = let u = word_read refl d in first_set u.0 u.1
  form_first false Set d = let u = word_read refl d in first_set u.0 u.1
  form_first true _ d = let u = sign_read refl d in first_bracket refl u.0 u.1
  form_first false _ d = first_key refl (key_read d)

  -- a member begins with `static`, or it isn't static
  pub member_first : {o : ℕ} {n : Tree} {e : S} {P : List Pair} (u : MemberForm S Next behind det o n s e P) → ((u.is_static ≡ true) × (t.class ≡ IdentifierName) × (t.text ≡ codes "static")) ⊎ ((u.is_static ≡ false) × FirstOf t u.computed u.form)
  member_first {o} {e = e} {P = P} u = of u.is_static refl u.runs
    where
      of : (b : Bool) → u.is_static ≡ b → Runs ways S Next behind o (goes_to Expression true Any (cond b (form_pieces (term "static" ∷ sp ∷ []) u.computed u.form) (form_pieces [] u.computed u.form))) u.parts s e P →
          ((u.is_static ≡ true) × (t.class ≡ IdentifierName) × (t.text ≡ codes "static")) ⊎ ((u.is_static ≡ false) × FirstOf t u.computed u.form)
      of true b d = let v = static_read u.computed u.form d in inl (b, v.0, v.1)
        where
          static_read : (c : Bool) (f : Form) → Runs ways S Next behind o (goes_to Expression true Any (form_pieces (term "static" ∷ sp ∷ []) c f)) u.parts s e P → (t.class ≡ IdentifierName) × (t.text ≡ codes "static")
          static_read true Get d = word_read refl d
          static_read false Get d = word_read refl d
          static_read true Set d = word_read refl d
          static_read false Set d = word_read refl d
          static_read true _ d = word_read refl d
          static_read false _ d = word_read refl d
      of false b d = inr (b, form_first u.computed u.form d)
