-- A member, arguments or a template that is given, against the token that was passed and the one that stands ahead (ECMA-262 12.3.2 to 12.3.11).
use Rattle.std.proofs.Common.{◌≡◌, ℕ, Bool, true, false, List, [], ◌∷◌, ◌⊎◌, inl, inr, refl, sym, ap, ◌∙◌, subst}
use Rattle.std.specs.Prelude.{cond, codes, Some, None}
use Rattle.std.proofs.lemmas.Bool.{false≢true}
use Rattle.source_text.specs.declared.fault.Fault.{Fault}
use Rattle.source_text.specs.declared.fault.Fault.TheVariants.{Syntax}
use Rattle.tokens.specs.Tokens.{LexicalToken}
use Rattle.tokens.specs.declared.token.TokenClass.{TokenClass}
use Rattle.tokens.specs.declared.token.TokenClass.TheVariants.{IdentifierName, Punctuator, NumericLiteral, StringLiteral, Template, RegularExpressionLiteral, PrivateName, Keyword, End}
use Rattle.tokens.specs.declared.token.Goal.TheVariants.{Div}
use Rattle.token_cursor.specs.CursorState.{CursorState, IsAhead}
use Rattle.tree.specs.declared.kind.Kind.TheVariants.{PrivateIdentifier}
use Rattle.tree.specs.declared.kind.Pair.{Pair}
use Rattle.tree.specs.Tree.{Tree, node, Parts, none, part, kind_of}
use Rattle.language.specs.declared.Rank.TheVariants.{Expression}
use Rattle.language.specs.declared.Start.TheVariants.{Any}
use Rattle.language.specs.Expressions.{in_brackets}
use Rattle.language.specs.declared.Language.{Language}
use Rattle.language.specs.declared.Language.TheVariants.{Base, Script, Module}
use Rattle.language.specs.Languages.{is_of_2022}
use Rattle.language.specs.Later.{has_later}
use Rattle.language.specs.Derivation.{Reads}
use Rattle.language.specs.FirstPart.{lead}
use Rattle.language.specs.Pieces.{expr, tagged_quasi, word, private_name, sub}
use Rattle.language.specs.Promises.{ReadBy, is_free}
use Rattle.language.specs.Token.{Token, as_read, table_text}
use Rattle.language.specs.Places.{NextIn, itself}
use Rattle.language.specs.Following.{IsAlike}
use Rattle.language.specs.Vocabulary.{is_private}
use Rattle.tokens.specs.Reading.{any_goal}
use Rattle.language.proofs.table.LeftRecursiveWays.{property_role}
use Rattle.language.proofs.climbing.Leaves.{is_worded, worded_free, word_form, private_form, property_found, private_found}
use Rattle.language.proofs.list_loops.FirstPieces.{run_token, run_never}
use Rattle.language.proofs.climbing.RightOperands.{one_part, in_bracket, PropertyFound}
use Rattle.language.proofs.texts.TextAlike.{text_alike}
use Rattle.language.proofs.texts.SeenTokens.{seen_alike}
use Rattle.token_cursor.proofs.SeenTokens.{seen_determined}
use Rattle.unambiguity_laws.proofs.Steps.{steps}
use Rattle.unambiguity_laws.proofs.TiedSteps.{unique}
use Rattle.unambiguity_laws.proofs.Unique.{Unique}
use Rattle.recursive_descent.specs.declared.subscripts.Subscript.{Subscript}
use Rattle.recursive_descent.specs.declared.subscripts.Subscript.TheVariants as link
use Rattle.recursive_descent.specs.Soundness.{RunsIn, anywhere, ArgumentsAt}
use Rattle.recursive_descent.specs.Follows.{LinkedAt, NotLinked, Unlinked, unlinks}
use Rattle.recursive_descent.specs.Completeness.{subscript_after}
use Rattle.recursive_descent.specs.Subscripts.{link_by}
use Rattle.token_cursor.specs.CursorState.{IsSyntaxHere}
use Rattle.token_cursor.specs.Seen.{ReadsHere, Misses, is_word_class}
use Rattle.recursive_descent.specs.Later.{is_member_name}
use Rattle.recursive_descent.proofs.complete_expressions.Agreement.{marks_same, read_here, not_missed}
use Rattle.recursive_descent.proofs.complete_subscripts.ArgumentsGiven.{arguments_given}
use Rattle.recursive_descent.proofs.complete_subscripts.TemplatesGiven.{quasi_begins}
use Rattle.recursive_descent.proofs.sound_subscripts.SubscriptNodes.{Behind, a_name, optional_name, an_index, optional_index, some_arguments, optional_arguments, a_template}
use Rattle.token_cursor.proofs.TokensAhead.{mark_by, same_ahead, none_ahead}
use Rattle.token_cursor.specs.SourceText.{SourceText, SeenNext, behind_in}
use Rattle.recursive_descent.specs.Spelled.{SpellsIn, OfLanguage}

-- the tokens of a text that one goal or another reads at a place begin alike
pub alike : (text : SourceText) → IsAlike Token (SeenNext text) (behind_in text)
alike text = seen_alike Token (NextIn text.bytes any_goal) itself text.language (text_alike text.bytes)

-- what each position spells at a place of a text is the only thing there
pub once : (text : SourceText) (h : ℕ) → Unique Token (SeenNext text) (behind_in text) (seen_determined text) h
once text h = unique Token (SeenNext text) (behind_in text) (seen_determined text) (alike text) (steps Token (SeenNext text) (behind_in text) (seen_determined text) (alike text)) h

-- a member's name, by its token: it is the only one there
pub record PropertyGiven (text : SourceText) (o : ℕ) (n : Tree) (s e : Token) (P : List Pair) : Type 0 where
  pub token : Token
  pub read : ReadBy Token (SeenNext text) (behind_in text) Div s token e
  pub says : link_by token.class token.text ≡ Some link.Name
  pub class : ((is_private (kind_of n) ≡ true) × (token.class ≡ PrivateName)) ⊎ (is_word_class token.class ≡ true)
  pub found : PropertyFound Token (SeenNext text) (behind_in text) (seen_determined text) o s e n P

worded_class : (c : TokenClass) (w : List ℕ) → is_worded c w ≡ true → is_word_class c ≡ true
worded_class IdentifierName w h = refl
worded_class Keyword w h = refl
worded_class _ w h = cc

worded_links : (c : TokenClass) (w : List ℕ) → is_worded c w ≡ true → link_by c w ≡ Some link.Name
worded_links IdentifierName w h = refl
worded_links Keyword w h = refl
worded_links _ w h = cc

module _ {text : SourceText} {o : ℕ} {n : Tree} {s e : Token} {P : List Pair} where
  same_found : {m : Tree} → n ≡ m → P ≡ [] → PropertyFound Token (SeenNext text) (behind_in text) (seen_determined text) o s e m [] → PropertyFound Token (SeenNext text) (behind_in text) (seen_determined text) o s e n P
  same_found {m} tree pairs f = subst (λ x. PropertyFound Token (SeenNext text) (behind_in text) (seen_determined text) o s e x P) (sym tree) (subst (λ x. PropertyFound Token (SeenNext text) (behind_in text) (seen_determined text) o s e m x) (sym pairs) f)

  pub property_given : SpellsIn text o (property_role (kind_of n)) n s e P → PropertyGiven text o n s e P
  property_given d = of (is_private (kind_of n)) refl d
    where
      read_by : {c : TokenClass} {w : List ℕ} {t : Token} → is_free c ≡ true → Reads Token (SeenNext text) (behind_in text) c w s t e → ReadBy Token (SeenNext text) (behind_in text) Div s t e
      read_by {t = t} h r = record { next = r.next; allowed = (seen_determined text).free Div s t e r.next (ap is_free r.class ∙ h) }

      of : (b : Bool) → is_private (kind_of n) ≡ b → SpellsIn text o (cond b private_name word) n s e P → PropertyGiven text o n s e P
      of false is d =
          let u = word_form Token (SeenNext text) (behind_in text) (seen_determined text) d in
          record {
            token = u.sign;
            read = read_by (worded_free u.class u.text u.is_word) u.reads;
            says = (λ i. link_by (u.reads.class i) (u.reads.text i)) ∙ worded_links u.class u.text u.is_word;
            class = inr (ap is_word_class u.reads.class ∙ worded_class u.class u.text u.is_word);
            found = same_found u.tree u.pairs (property_found Token (SeenNext text) (behind_in text) (seen_determined text) u.is_word u.reads);
          }
      of true is d =
          let u = private_form Token (SeenNext text) (behind_in text) (seen_determined text) d in
          record {
            token = u.sign;
            read = read_by refl u.reads;
            says = ap (λ c. link_by c u.sign.text) u.reads.class;
            class = inl (is, u.reads.class);
            found = same_found u.tree u.pairs (private_found Token (SeenNext text) (behind_in text) (seen_determined text) u.reads);
          }

no_private : (n : Tree) → has_later n ≡ false → is_private (kind_of n) ≡ false
unfolding has_later
no_private (node PrivateIdentifier w g st en ps) h = cc
no_private (node _ w g st en ps) h = refl

-- its token is one that a member's name may be in the language
pub member_class : {text : SourceText} {o : ℕ} {n : Tree} {s e : Token} {P : List Pair} → (u : PropertyGiven text o n s e P) → OfLanguage text n → is_member_name text u.token.class ≡ true
member_class {text} {n = n} u own = of u.class
  where
    later : (l : Language) → (l ≡ Base → ⊥) → is_of_2022 l ≡ true
    later Base h = absurd (h refl)
    later Script h = refl
    later Module h = refl

    named : (c : TokenClass) → is_word_class c ≡ true → is_member_name text c ≡ true
    named IdentifierName h = refl
    named Keyword h = refl
    named _ h = cc

    of : ((is_private (kind_of n) ≡ true) × (u.token.class ≡ PrivateName)) ⊎ (is_word_class u.token.class ≡ true) → is_member_name text u.token.class ≡ true
    of (inl x) = ap (is_member_name text) x.1 ∙ later text.language (λ b. false≢true (sym (no_private n (own.none_later b)) ∙ x.0))
    of (inr h) = named u.token.class h

-- what stands behind the sign, or where it would stand
pub data Further (text : SourceText) (o : ℕ) (m e : Token) (l : Subscript) (ps : Parts) (P : List Pair) : Type 0 where
  name_there : {n : Tree} → l ≡ link.Name → ps ≡ part n none → SpellsIn text o (property_role (kind_of n)) n m e P → Further text o m e l ps P
  index_there : {u : Tree} {x z : Token} → l ≡ link.Index → ps ≡ part u none → ReadsHere text Punctuator (codes "[") m x → SpellsIn text o (expr Expression true Any) u x z P → ReadsHere text Punctuator (codes "]") z e → Further text o m e l ps P
  arguments_there : l ≡ link.Arguments → ArgumentsAt text ps o m e P → Further text o m e l ps P
  template_there : {u : Tree} → l ≡ link.Quasi → ps ≡ part u none → SpellsIn text o tagged_quasi u m e P → Further text o m e l ps P

-- the sign before it
pub data Front (text : SourceText) (s x : Token) (l : Subscript) (optional : Bool) : Type 0 where
  by_dot : l ≡ link.Name → optional ≡ false → ReadsHere text Punctuator (codes ".") s x → Front text s x l optional
  by_mark : optional ≡ true → (l ≡ link.Quasi → ⊥) → ReadsHere text Punctuator (codes "?.") s x → Front text s x l optional
  by_none : optional ≡ false → (l ≡ link.Name → ⊥) → x ≡ s → Front text s x l optional

pub record Given (text : SourceText) (o : ℕ) (s e : Token) (l : Subscript) (optional : Bool) (ps : Parts) (P : List Pair) : Type 0 where
  pub mid : Token
  pub front : Front text s mid l optional
  pub further : Further text o mid e l ps P

lead_one : (n : Tree) → lead (part n none) ≡ kind_of n
lead_one (node k w g st en ps) = refl

module _ (text : SourceText) where
  name_part : {o : ℕ} {ps : Parts} {s e : Token} {P : List Pair} → RunsIn text o (sub (property_role (lead ps)) ∷ []) ps s e P → Further text o s e link.Name ps P
  name_part {o} {ps} {s} {e} {P} d =
      let one = one_part Token (SeenNext text) (behind_in text) (seen_determined text) d in
      name_there refl one.parts (subst (λ k. SpellsIn text o (property_role k) one.operand s e P) (ap lead one.parts ∙ lead_one one.operand) one.spelled)

  index_part : {o : ℕ} {ps : Parts} {s e : Token} {P : List Pair} → RunsIn text o (anywhere in_brackets) ps s e P → Further text o s e link.Index ps P
  index_part {o} {P = P} d =
      let v = run_token Token (SeenNext text) (behind_in text) d in
      let b = in_bracket Token (SeenNext text) (behind_in text) (seen_determined text) v.runs in
      index_there refl b.parts (read_here text v.reads) (subst (λ c. SpellsIn text o (expr Expression true Any) b.inner v.mid b.place c) (sym b.pairs_are) b.spelled) (read_here text b.closes)

  -- what is given, by its tokens and parts
  pub link_given : (l : Subscript) (b : Bool) {o : ℕ} {ps : Parts} {s e : Token} {P : List Pair} → RunsIn text o (anywhere (subscript_after l b ps)) ps s e P → Given text o s e l b ps P
  link_given link.Name true d = let v = run_token Token (SeenNext text) (behind_in text) d in record { mid = v.mid; front = by_mark refl (λ h. cc) (read_here text v.reads); further = name_part v.runs }
  link_given link.Name false d = let v = run_token Token (SeenNext text) (behind_in text) d in record { mid = v.mid; front = by_dot refl refl (read_here text v.reads); further = name_part v.runs }
  link_given link.Index true d = let v = run_token Token (SeenNext text) (behind_in text) d in record { mid = v.mid; front = by_mark refl (λ h. cc) (read_here text v.reads); further = index_part v.runs }
  link_given link.Index false {s = s} d = record { mid = s; front = by_none refl (λ h. cc) refl; further = index_part d }
  link_given link.Arguments true d = let v = run_token Token (SeenNext text) (behind_in text) d in record { mid = v.mid; front = by_mark refl (λ h. cc) (read_here text v.reads); further = arguments_there refl v.runs }
  link_given link.Arguments false {s = s} d = record { mid = s; front = by_none refl (λ h. cc) refl; further = arguments_there refl d }
  link_given link.Quasi true d = absurd (run_never Token (SeenNext text) (behind_in text) d)
  link_given link.Quasi false {s = s} d =
      let one = one_part Token (SeenNext text) (behind_in text) (seen_determined text) d in
      record { mid = s; front = by_none refl (λ h. cc) refl; further = template_there refl one.parts one.spelled }

  -- what was read behind an operand is given
  pub behind_given : {o : ℕ} {s e : Token} {l : Subscript} {b : Bool} {ps : Parts} {P : List Pair} → Behind text o s e l b ps P → Given text o s e l b ps P
  behind_given (a_name r n) = record { mid = _; front = by_dot refl refl r; further = name_there refl refl (n.spelled _) }
  behind_given (optional_name q n) = record { mid = _; front = by_mark refl (λ h. cc) q; further = name_there refl refl (n.spelled _) }
  behind_given (an_index r d k) = record { mid = _; front = by_none refl (λ h. cc) refl; further = index_there refl refl r d k }
  behind_given (optional_index q r d k) = record { mid = _; front = by_mark refl (λ h. cc) q; further = index_there refl refl r d k }
  behind_given (some_arguments r d) = record { mid = _; front = by_none refl (λ h. cc) refl; further = arguments_there refl d }
  behind_given (optional_arguments q d) = record { mid = _; front = by_mark refl (λ h. cc) q; further = arguments_there refl d }
  behind_given (a_template r is d) = record { mid = _; front = by_none refl (λ h. cc) refl; further = template_there refl refl d }

  -- two signs at one place have one text
  pub other_sign : {v w : List ℕ} {s t u : Token} → ReadsHere text Punctuator v s t → ReadsHere text Punctuator w s u → (v ≡ w → ⊥) → ⊥
  other_sign a b f = f (sym a.text ∙ ap (λ (x : Token). x.text) (marks_same text a b).0 ∙ b.text)

  -- the first token says what it is
  record FirstToken (m : Token) (l : Subscript) : Type 0 where
    token : Token
    mid : Token
    reads : ReadBy Token (SeenNext text) (behind_in text) Div m token mid
    says : link_by token.class token.text ≡ Some l

  sign_first : {m t : Token} {w : List ℕ} {l : Subscript} → ReadsHere text Punctuator w m t → link_by Punctuator w ≡ Some l → FirstToken m l
  sign_first {t = t} r h = record { token = behind_in text t; mid = t; reads = mark_by text r; says = (λ i. link_by (r.class i) (r.text i)) ∙ h }

  first_token : {o : ℕ} {m e : Token} {l : Subscript} {ps : Parts} {P : List Pair} → Further text o m e l ps P → FirstToken m l
  first_token {e = e} (name_there is parts d) = let u = property_given d in record { token = u.token; mid = e; reads = u.read; says = u.says ∙ ap Some (sym is) }
  first_token (index_there is parts r d k) = sign_first r (ap Some (sym is))
  first_token (arguments_there is d) = sign_first (arguments_given d).opens (ap Some (sym is))
  first_token (template_there is parts d) = let t = quasi_begins text d in record { token = behind_in text t.mid; mid = t.mid; reads = t.read; says = ap (λ c. link_by c (behind_in text t.mid).text) t.class ∙ ap Some (sym is) }

  -- it is no `.`, and no `?.`
  no_sign : {m t : Token} {w : List ℕ} {l : Subscript} → FirstToken m l → ReadsHere text Punctuator w m t → link_by Punctuator w ≡ None → ⊥
  no_sign {m} {t} {w} {l} f r h =
      let same = (seen_determined text).same Div m f.token (behind_in text t) f.mid t f.reads.next r.next f.reads.allowed (mark_by text r).allowed in
      let clash : Some l ≡ None = sym f.says ∙ ap (λ (x : Token). link_by x.class x.text) same.0 ∙ (λ i. link_by (r.class i) (r.text i)) ∙ h in
      cc

-- which of them it is, as it was seen
pub record LinkSame (text : SourceText) (o : ℕ) (m e : Token) (found : Subscript) (b : Bool) (l : Subscript) (optional : Bool) (ps : Parts) (P : List Pair) : Type 0 where
  pub link_is : l ≡ found
  pub optional_is : optional ≡ b
  pub further : Further text o m e l ps P

-- what was passed, and what stands ahead
data Sign (s m : CursorState) : Subscript → Bool → Type 0 where
  dotted : ReadsHere s.text Punctuator (codes ".") s.last m.last → Sign s m link.Name false
  marked : {l : Subscript} → ReadsHere s.text Punctuator (codes "?.") s.last m.last → (t : LexicalToken) → IsAhead Div m.text m.last.stop t → link_by t.class t.text ≡ Some l → Sign s m l true
  unmarked : {l : Subscript} → m.last ≡ s.last → Misses s.text Punctuator (codes "?.") s.last → Misses s.text Punctuator (codes ".") s.last → (t : LexicalToken) → IsAhead Div m.text m.last.stop t → link_by t.class t.text ≡ Some l → Sign s m l false

sign_of : (s m : CursorState) (l : Subscript) (b : Bool) → LinkedAt s m l b → Sign s m l b
sign_of s m link.Name true h = marked h.0 h.2.0 h.2.1 h.2.2
sign_of s m link.Name false h = dotted h
sign_of s m link.Index true h = marked h.0 h.2.0 h.2.1 h.2.2
sign_of s m link.Index false h = unmarked h.0.0 h.0.1 h.0.2 h.2.0 h.2.1 h.2.2
sign_of s m link.Arguments true h = marked h.0 h.2.0 h.2.1 h.2.2
sign_of s m link.Arguments false h = unmarked h.0.0 h.0.1 h.0.2 h.2.0 h.2.1 h.2.2
sign_of s m link.Quasi true h = marked h.0 h.2.0 h.2.1 h.2.2
sign_of s m link.Quasi false h = unmarked h.0.0 h.0.1 h.0.2 h.2.0 h.2.1 h.2.2

-- what follows is told by the token as it is read
read_link : (c : TokenClass) (w : List ℕ) → link_by c (table_text c w) ≡ link_by c w
read_link IdentifierName w = refl
read_link Punctuator w = refl
read_link NumericLiteral w = refl
read_link StringLiteral w = refl
read_link Template w = refl
read_link RegularExpressionLiteral w = refl
read_link PrivateName w = refl
read_link Keyword w = refl
read_link End w = refl

module _ (text : SourceText) {m : Token} where
  told_link : (t : LexicalToken) → IsAhead Div text m.stop t → {c : TokenClass} {w : List ℕ} {e k : Token} → ReadBy Token (SeenNext text) (behind_in text) Div m e k → e.class ≡ c → e.text ≡ w → link_by t.class t.text ≡ link_by c w
  told_link t a {c} {w} {e} {k} r class spelled =
      let same : e ≡ as_read t = same_ahead text Div m t a e k r in
      sym (read_link t.class t.text) ∙ ap (λ (x : Token). link_by x.class x.text) (sym same) ∙ (λ i. link_by (class i) (spelled i))

  -- the token ahead is the first of what is given
  token_says : {l v : Subscript} (t : LexicalToken) → IsAhead Div text m.stop t → link_by t.class t.text ≡ Some v → FirstToken text m l → l ≡ v
  token_says {l} {v} t a is f = let both : Some l ≡ Some v = sym f.says ∙ sym (told_link t a f.reads refl refl) ∙ is in cc

further_at : {text text2 : SourceText} {o : ℕ} {m m2 e : Token} {l : Subscript} {ps : Parts} {P : List Pair} → text ≡ text2 → m ≡ m2 → Further text o m e l ps P → Further text2 o m2 e l ps P
further_at {text} {text2} {o} {m} {m2} {e} {l} {ps} {P} a b d = subst (λ t. Further t o m2 e l ps P) a (subst (λ x. Further text o x e l ps P) b d)

-- one token at one place
same_link : (s m : CursorState) {found : Subscript} {b : Bool} {o : ℕ} {x e : Token} {l : Subscript} {optional : Bool} {ps : Parts} {P : List Pair} → m.text ≡ s.text → Sign s m found b → Front s.text s.last x l optional → Further s.text o x e l ps P → LinkSame m.text o m.last e found b l optional ps P
same_link s m text (dotted r) (by_dot is no_mark r') d = record { link_is = is; optional_is = no_mark; further = further_at (sym text) (marks_same s.text r' r).1 d }
same_link s m text (dotted r) (by_mark mark other q) d = absurd (other_sign s.text q r (λ h. cc))
same_link s m text (dotted r) (by_none no_mark other at) d = absurd (no_sign s.text (first_token s.text (further_at refl at d)) r refl)
same_link s m text (marked r t a by) (by_dot is no_mark r') d = absurd (other_sign s.text r' r (λ h. cc))
same_link s m text (marked r t a by) (by_mark mark other q) d = let there = further_at (sym text) (marks_same s.text q r).1 d in record { link_is = token_says m.text t a by (first_token m.text there); optional_is = mark; further = there }
same_link s m text (marked r t a by) (by_none no_mark other at) d = absurd (no_sign s.text (first_token s.text (further_at refl at d)) r refl)
same_link s m text (unmarked at q r t a by) (by_dot is no_mark r') d = absurd (not_missed r r')
same_link s m text (unmarked at q r t a by) (by_mark mark other q') d = absurd (not_missed q q')
same_link s m text (unmarked at q r t a by) (by_none no_mark other here) d = let there = further_at (sym text) (here ∙ sym at) d in record { link_is = token_says m.text t a by (first_token m.text there); optional_is = no_mark; further = there }

-- behind what was passed stands what is given, and what was read
pub given_link : (s m : CursorState) (found : Subscript) (b : Bool) {o : ℕ} {e : Token} {l : Subscript} {optional : Bool} {ps : Parts} {P : List Pair} → m.text ≡ s.text → LinkedAt s m found b → Given s.text o s.last e l optional ps P → LinkSame m.text o m.last e found b l optional ps P
given_link s m found b text h d = same_link s m text (sign_of s m found b h) d.front d.further

unlinks_true : (l : Subscript) → (l ≡ link.Quasi → ⊥) → unlinks true (Some l) ≡ false
unlinks_true link.Name h = refl
unlinks_true link.Index h = refl
unlinks_true link.Arguments h = refl
unlinks_true link.Quasi h = absurd (h refl)

unlinks_false : (l : Subscript) → (l ≡ link.Name → ⊥) → unlinks false (Some l) ≡ false
unlinks_false link.Name h = absurd (h refl)
unlinks_false link.Index h = refl
unlinks_false link.Arguments h = refl
unlinks_false link.Quasi h = refl

pub not_linked_by : (s m : CursorState) (fault : Fault) → IsSyntaxHere m fault →
    (ReadsHere s.text Punctuator (codes "?.") s.last m.last × Unlinked true m) ⊎ ((m.last ≡ s.last) × Misses s.text Punctuator (codes "?.") s.last × Misses s.text Punctuator (codes ".") s.last × Unlinked false m) → NotLinked s m fault
not_linked_by s m (Syntax at) h x = x
not_linked_by s m _ h x = absurd h

module _ (s m : CursorState) (text : m.text ≡ s.text) where
  -- no other token stands there
  none_linked : (b : Bool) {l : Subscript} → Unlinked b m → FirstToken m.text m.last l → unlinks b (Some l) ≡ false → ⊥
  none_linked b (inl unseen) f is = none_ahead m.text Div m.last unseen f.token f.mid f.reads
  none_linked b (inr (t, a, h)) f is = false≢true (sym is ∙ ap (unlinks b) (sym f.says ∙ sym (told_link m.text t a f.reads refl refl)) ∙ h)

  marked_none : {o : ℕ} {x e : Token} {l : Subscript} {optional : Bool} {ps : Parts} {P : List Pair} → ReadsHere s.text Punctuator (codes "?.") s.last m.last → Unlinked true m → Front s.text s.last x l optional → Further s.text o x e l ps P → ⊥
  marked_none r unseen (by_dot is no_mark r') d = other_sign s.text r' r (λ h. cc)
  marked_none {l = l} r unseen (by_mark mark other q) d = none_linked true unseen (first_token m.text (further_at (sym text) (marks_same s.text q r).1 d)) (unlinks_true l other)
  marked_none r unseen (by_none no_mark other at) d = no_sign s.text (first_token s.text (further_at refl at d)) r refl

  bare_none : {o : ℕ} {x e : Token} {l : Subscript} {optional : Bool} {ps : Parts} {P : List Pair} → m.last ≡ s.last → Misses s.text Punctuator (codes "?.") s.last → Misses s.text Punctuator (codes ".") s.last → Unlinked false m → Front s.text s.last x l optional → Further s.text o x e l ps P → ⊥
  bare_none same q r unseen (by_dot is no_mark r') d = not_missed r r'
  bare_none same q r unseen (by_mark mark other q') d = not_missed q q'
  bare_none {l = l} same q r unseen (by_none no_mark other here) d = none_linked false unseen (first_token m.text (further_at (sym text) (here ∙ sym same) d)) (unlinks_false l other)

  -- where nothing follows, nothing is given
  pub not_linked : (fault : Fault) {o : ℕ} {e : Token} {l : Subscript} {optional : Bool} {ps : Parts} {P : List Pair} → NotLinked s m fault → Given s.text o s.last e l optional ps P → ⊥
  not_linked (Syntax at) (inl h) d = marked_none h.0 h.1 d.front d.further
  not_linked (Syntax at) (inr h) d = bare_none h.0 h.1 h.2 h.3 d.front d.further
  not_linked _ h d = absurd h
