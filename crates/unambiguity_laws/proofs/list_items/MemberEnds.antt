-- What may follow a member of a class, and that a field ends before nothing else.
use Rattle.std.proofs.Common.{◌≡◌, ℕ, Bool, true, false, List, [], ◌∷◌, ◌⊎◌, inl, inr, refl, sym, ap, ◌∙◌, subst}
use Rattle.std.specs.Prelude.{IsTrue, codes, not, ◌&&◌, ◌||◌}
use Rattle.std.proofs.lemmas.Bool.{false≢true}
use Rattle.std.proofs.lemmas.Slice.Eq.{bytes_eq-Decides}
use Rattle.tokens.specs.declared.token.TokenClass.{TokenClass}
use Rattle.tokens.specs.declared.token.TokenClass.TheVariants.{IdentifierName, Punctuator, NumericLiteral, StringLiteral, PrivateName, Keyword}
use Rattle.tokens.specs.declared.token.Goal.{Goal}
use Rattle.tokens.specs.declared.token.Goal.TheVariants.{Div}
use Rattle.tokens.specs.Goals.{allows}
use Rattle.tree.specs.declared.kind.Form.{Form}
use Rattle.tree.specs.declared.kind.Pair.{Pair}
use Rattle.tree.specs.Tree.{Tree}
use Rattle.language.specs.Vocabulary.{is, among}
use Rattle.language.specs.Edges.{is_sign, is_end, is_semicolon, begins_key, key_goes_on}
use Rattle.language.specs.Pieces.{behind_key, ending}
use Rattle.language.specs.Token.{Token}
use Rattle.language.specs.Promises.{is_free, IsDetermined, ReadBy}
use Rattle.language.specs.Derivation.{Reads, Step, explicit, implicit}
use Rattle.language.proofs.table.ForDeclarationWays.{two_signs}
use Rattle.language.proofs.table.PropertyNameWays.{is_key_class, key_free, key_form}
use Rattle.language.proofs.climbing.Leaves.{private_form}
use Rattle.language.proofs.covers.CoverProperties.{plain_key, computed_key}
use Rattle.language.proofs.statements.MissingSemicolons.{either}
use Rattle.unambiguity_laws.proofs.list_items.PropertyForms.{starred, asynchronous, both_modify}
use Rattle.unambiguity_laws.proofs.list_items.MemberForms.{MethodWords, no_words, accessing, modifying, AnyKey, a_key, a_private, StaticWord, with_static, without_static, MemberSeen, with_key, static_block}
use Rattle.unambiguity_laws.proofs.statements.StatementFacts.{some_goal}

-- a token of this class and text
abbrev pub token_as : TokenClass → List ℕ → Token
token_as c w = record { class = c; text = w; start = 0; stop = 0; after_break = false }

-- a member begins with the token
abbrev pub begins_member : Token → Bool
begins_member t = begins_key t || (is_sign t && is t.text "*")

-- the token may follow a member: it begins another, or stands between them, or closes the body
abbrev pub follows_member : Token → Bool
follows_member t = begins_member t || (is_sign t && among t.text (";" ∷ "}" ∷ []))

-- the token ends a field, or goes on behind its key
abbrev pub ends_key : Token → Bool
ends_key t = is_end t || (is_sign t && among t.text ("(" ∷ "=" ∷ ";" ∷ "}" ∷ []))

sign_ends_none : (w : List ℕ) → (is w "[" ≡ true) ⊎ (is w "*" ≡ true) → among w ("(" ∷ "=" ∷ ";" ∷ "}" ∷ []) ≡ false
sign_ends_none w (inl h) = ap (λ v. among v ("(" ∷ "=" ∷ ";" ∷ "}" ∷ [])) ((bytes_eq-Decides w (codes "[")).0 h)
sign_ends_none w (inr h) = ap (λ v. among v ("(" ∷ "=" ∷ ";" ∷ "}" ∷ [])) ((bytes_eq-Decides w (codes "*")).0 h)

-- what begins a member ends none
member_ends_none : (c : TokenClass) (w : List ℕ) → begins_member (token_as c w) ≡ true → ends_key (token_as c w) ≡ false
member_ends_none IdentifierName w h = refl
member_ends_none NumericLiteral w h = refl
member_ends_none StringLiteral w h = refl
member_ends_none PrivateName w h = refl
member_ends_none Keyword w h = refl
member_ends_none Punctuator w h = sign_ends_none w (either (is w "[") (is w "*") h)
member_ends_none TokenClass.Template w h = cc
member_ends_none TokenClass.RegularExpressionLiteral w h = cc
member_ends_none TokenClass.End w h = cc

key_class_begins : (c : TokenClass) (w : List ℕ) → is_key_class c ≡ true → begins_key (token_as c w) ≡ true
key_class_begins IdentifierName w h = refl
key_class_begins NumericLiteral w h = refl
key_class_begins StringLiteral w h = refl
key_class_begins Keyword w h = refl
key_class_begins _ w h = cc

pub bracket_allowed : (g : Goal) → IsTrue (allows g Punctuator (codes "["))
bracket_allowed Goal.RegExp = refl
bracket_allowed Goal.Div = refl
bracket_allowed Goal.TemplateTail = refl

pub star_allowed : (g : Goal) → IsTrue (allows g Punctuator (codes "*"))
star_allowed Goal.RegExp = refl
star_allowed Goal.Div = refl
star_allowed Goal.TemplateTail = refl

left_true : (b c : Bool) → b ≡ true → (b || c) ≡ true
left_true true c h = refl
left_true false c h = cc

pub neither : (a b c d : Bool) → (a && ((b || c) || d)) ≡ true → b ≡ false → c ≡ false → d ≡ true
neither true b c true h p q = refl
neither true true c false h p q = cc
neither true false true false h p q = cc
neither true false false false h p q = cc
neither false b c d h p q = cc

pub and_not : (b c : Bool) → (b && not c) ≡ true → (b ≡ true) × (c ≡ false)
and_not true false h = (refl, refl)
and_not true true h = cc
and_not false c h = cc

module _ (S : Type 0) (Next : S → Token → S → Type 0) (behind : S → Token) (det : IsDetermined S Next behind) where
  -- what is read behind a member of a class
  pub record MemberEnds (e : S) : Type 0 where
    pub token : Token
    pub mid : S
    pub read : ReadBy S Next behind Div e token mid
    pub follows : follows_member token ≡ true

  -- the token that each goal reads there begins a member
  pub record Ahead (e : S) : Type 0 where
    pub token : Token
    pub mid : S
    pub next : Next e token mid
    pub allowed : (g : Goal) → IsTrue (allows g token.class token.text)
    pub begins : begins_member token ≡ true

  free_ahead : {c : TokenClass} {w : List ℕ} {s e : S} {t : Token} → is_free c ≡ true → Reads S Next behind c w s t e → begins_member (token_as c t.text) ≡ true → Ahead s
  free_ahead {s = s} {e} {t} free r h = record { token = t; mid = e; next = r.next; allowed = λ g. det.free g s t e r.next (ap is_free r.class ∙ free); begins = ap (λ c. begins_member (token_as c t.text)) r.class ∙ h }

  sign_ahead : {w : List ℕ} {s e : S} {t : Token} → ((g : Goal) → IsTrue (allows g Punctuator w)) → Reads S Next behind Punctuator w s t e → begins_member (token_as Punctuator w) ≡ true → Ahead s
  sign_ahead {w} {s} {e} {t} al r h = record {
    token = t;
    mid = e;
    next = r.next;
    allowed = λ g. subst (λ c. IsTrue (allows g c t.text)) (sym r.class) (subst (λ v. IsTrue (allows g Punctuator v)) (sym r.text) (al g));
    begins = ap (λ c. begins_member (token_as c t.text)) r.class ∙ ap (λ v. begins_member (token_as Punctuator v)) r.text ∙ h;
  }

  pub word_ahead : {w : List ℕ} {s e : S} {t : Token} → Reads S Next behind IdentifierName w s t e → Ahead s
  word_ahead r = free_ahead refl r refl

  -- a key begins a member, and no `*` is its first token
  pub key_ahead : {o : ℕ} {n : Tree} {s e : S} {P : List Pair} {c : Bool} → AnyKey S Next behind det o n s e P c → (a : Ahead s) × (begins_key a.token ≡ true)
  unfolding free_ahead sign_ahead
  key_ahead (a_key (plain_key d)) =
      let u = key_form S Next behind det d in
      let h = key_class_begins u.class u.leaf.sign.text u.is_key in
      (free_ahead (key_free u.class u.is_key) u.leaf.reads (left_true _ _ h), ap (λ c. begins_key (token_as c u.leaf.sign.text)) u.leaf.reads.class ∙ h)
  key_ahead (a_key (computed_key {t = t} r d l)) = (sign_ahead bracket_allowed r refl, ap (λ c. begins_key (token_as c t.text)) r.class ∙ ap (λ v. begins_key (token_as Punctuator v)) r.text)
  key_ahead (a_private d) = let u = private_form S Next behind det d in (free_ahead refl u.reads refl, ap (λ c. begins_key (token_as c u.sign.text)) u.reads.class)

  pub words_ahead : {o : ℕ} {y : Form} {n : Tree} {s z e : S} {P : List Pair} {c : Bool} → MethodWords S Next behind det s y z → AnyKey S Next behind det o n z e P c → Ahead s
  words_ahead no_words k = (key_ahead k).0
  words_ahead (accessing f acc r) k = word_ahead r
  words_ahead (modifying (starred r)) k = sign_ahead star_allowed r refl
  words_ahead (modifying (asynchronous r nx line)) k = word_ahead r
  words_ahead (modifying (both_modify r star line)) k = word_ahead r

  -- so another member may follow a member
  pub ahead_ends : {s : S} → Ahead s → MemberEnds s
  ahead_ends a = record { token = a.token; mid = a.mid; read = record { next = a.next; allowed = a.allowed Div }; follows = left_true _ _ a.begins }

  pub sign_ends : {w : List ℕ} {s e : S} {t : Token} → IsTrue (allows Div Punctuator w) → follows_member (token_as Punctuator w) ≡ true → Reads S Next behind Punctuator w s t e → MemberEnds s
  sign_ends {w} {s} {e} {t} al h r = record {
    token = t;
    mid = e;
    read = record { next = r.next; allowed = subst (λ c. IsTrue (allows Div c t.text)) (sym r.class) (subst (λ v. IsTrue (allows Div Punctuator v)) (sym r.text) al) };
    follows = ap (λ c. follows_member (token_as c t.text)) r.class ∙ ap (λ v. follows_member (token_as Punctuator v)) r.text ∙ h;
  }

  pub member_ahead : {o : ℕ} {n : Tree} {s e : S} {P : List Pair} → MemberSeen S Next behind det o n s e P → Ahead s
  member_ahead (static_block v) = word_ahead v.word
  member_ahead {s = s} (with_key v) = of v.static_is v.words
    where
      of : {b : Bool} {x : S} → StaticWord S Next behind det s b x → MethodWords S Next behind det x v.position v.z → Ahead s
      of (with_static r) w = word_ahead r
      of without_static w = words_ahead w v.keyed

  -- a sign that goes on behind a key begins no member
  pub ahead_sign : {A : Type 0} {w : List ℕ} {s e : S} {t : Token} → IsTrue (allows Div Punctuator w) → ends_key (token_as Punctuator w) ≡ true → Ahead s → Reads S Next behind Punctuator w s t e → A
  ahead_sign {w = w} {s} {e} {t} al h a r =
      let al' : IsTrue (allows Div t.class t.text) = subst (λ c. IsTrue (allows Div c t.text)) (sym r.class) (subst (λ v. IsTrue (allows Div Punctuator v)) (sym r.text) al) in
      let same = (det.same Div s a.token t a.mid e a.next r.next (a.allowed Div) al').0 in
      absurd (false≢true (sym (member_ends_none a.token.class a.token.text a.begins) ∙ ap ends_key same ∙ ap (λ c. ends_key (token_as c t.text)) r.class ∙ ap (λ v. ends_key (token_as Punctuator v)) r.text ∙ h))

  -- what may not follow a member doesn't
  pub ends_sign : {A : Type 0} {w : List ℕ} {s e : S} {t : Token} → IsTrue (allows Div Punctuator w) → follows_member (token_as Punctuator w) ≡ false → MemberEnds s → Reads S Next behind Punctuator w s t e → A
  ends_sign {w = w} {s} {e} {t} al h a r =
      let al' : IsTrue (allows Div t.class t.text) = subst (λ c. IsTrue (allows Div c t.text)) (sym r.class) (subst (λ v. IsTrue (allows Div Punctuator v)) (sym r.text) al) in
      let same = (det.same Div s a.token t a.mid e a.read.next r.next a.read.allowed al').0 in
      absurd (false≢true (sym (ap follows_member same ∙ ap (λ c. follows_member (token_as c t.text)) r.class ∙ ap (λ v. follows_member (token_as Punctuator v)) r.text ∙ h) ∙ a.follows))

  -- What stands behind a word that is no key, but stands before one, or before a static block's items.
  pub data Behind (w : List ℕ) (b : Bool) (s : S) : Type 0 where
    goes_on : (a : Ahead s) → key_goes_on w b a.token ≡ true → Behind w b s
    on_line : {t : Token} {k : S} → Ahead s → Next s t k → t.after_break ≡ false → Behind w b s
    a_brace : {t : Token} {k : S} → Reads S Next behind Punctuator (codes "{") s t k → Behind w b s

  missing_parts : (w : List ℕ) (b : Bool) (t : Token) → (not (is_semicolon t) && ((is_end t || (is_sign t && is t.text "}")) || (t.after_break && not (key_goes_on w b t)))) ≡ true → ends_key t ≡ false → (t.after_break ≡ true) × (key_goes_on w b t ≡ false)
  missing_parts w b t h none = let u = no_end t none in and_not t.after_break (key_goes_on w b t) (neither (not (is_semicolon t)) (is_end t) (is_sign t && is t.text "}") _ h u.0 u.1)
    where
      no_end : (t : Token) → ends_key t ≡ false → (is_end t ≡ false) × ((is_sign t && is t.text "}") ≡ false)
      no_end t h = of (is_end t) (is_sign t) (is t.text "(") (is t.text "=") (is t.text ";") (is t.text "}") h
        where
          of : (a s p q r c : Bool) → (a || (s && (p || (q || (r || (c || false)))))) ≡ false → (a ≡ false) × ((s && c) ≡ false)
          of true s p q r c h = cc
          of false false p q r c h = (refl, refl)
          of false true p q r false h = (refl, refl)
          of false true true q r true h = cc
          of false true false true r true h = cc
          of false true false false true true h = cc
          of false true false false false true h = cc

  -- so that word, as the key of a field, doesn't end one there
  pub no_field_ends : {A : Type 0} {w : List ℕ} {b : Bool} {s e : S} → Behind w b s → Step S Next behind (ending (behind_key w b)) s e → MemberEnds e → A
  no_field_ends (goes_on a h) (explicit r) ends = ahead_sign refl refl a r
  no_field_ends (on_line a nx line) (explicit r) ends = ahead_sign refl refl a r
  no_field_ends (a_brace h) (explicit r) ends = absurd (false≢true (ap (λ v. is v ";") (two_signs S Next behind det refl refl h r).0))
  no_field_ends {w = w} {b} {s} (goes_on a h) (implicit {t = t} {e = k} nx may) ends =
      let g = some_goal t.class t.text in
      let same = (det.same g.0 s t a.token k a.mid nx a.next g.1 (a.allowed g.0)).0 in
      let u = missing_parts w b t may (ap ends_key same ∙ member_ends_none a.token.class a.token.text a.begins) in
      absurd (false≢true (sym u.1 ∙ ap (key_goes_on w b) same ∙ h))
  no_field_ends {w = w} {b} {s} (on_line {t = v} {k = j} a mx line) (implicit {t = t} {e = k} nx may) ends =
      let g = some_goal t.class t.text in
      let same = (det.same g.0 s t a.token k a.mid nx a.next g.1 (a.allowed g.0)).0 in
      let u = missing_parts w b t may (ap ends_key same ∙ member_ends_none a.token.class a.token.text a.begins) in
      absurd (false≢true (sym line ∙ det.break s v t j k mx nx ∙ u.0))
  no_field_ends (a_brace h) (implicit nx may) ends = ends_sign refl refl ends h

  -- nor does such a word have a value or a function behind it
  pub no_call : {A : Type 0} {w : List ℕ} {b : Bool} {s e : S} {t : Token} → Behind w b s → Reads S Next behind Punctuator (codes "(") s t e → A
  no_call (goes_on a h) r = ahead_sign refl refl a r
  no_call (on_line a nx line) r = ahead_sign refl refl a r
  no_call (a_brace h) r = absurd (false≢true (ap (λ v. is v "(") (two_signs S Next behind det refl refl h r).0))

  pub no_value : {A : Type 0} {w : List ℕ} {b : Bool} {s e : S} {t : Token} → Behind w b s → Reads S Next behind Punctuator (codes "=") s t e → A
  no_value (goes_on a h) r = ahead_sign refl refl a r
  no_value (on_line a nx line) r = ahead_sign refl refl a r
  no_value (a_brace h) r = absurd (false≢true (ap (λ v. is v "=") (two_signs S Next behind det refl refl h r).0))

  -- `static` stands before what begins a member
  pub static_goes_on : {s : S} → Ahead s → Behind (codes "static") false s
  static_goes_on a = goes_on a a.begins

  -- `get` and `set` before a key
  pub accessor_goes_on : {o : ℕ} {n : Tree} {s e : S} {P : List Pair} {c : Bool} (w : List ℕ) (b : Bool) → among w ("get" ∷ "set" ∷ []) ≡ true → AnyKey S Next behind det o n s e P c → Behind w b s
  accessor_goes_on w b h k = let u = key_ahead k in goes_on u.0 (left_true _ _ (ap (λ x. x && begins_key u.0.token) h ∙ u.1))
