-- Members, calls and tagged templates, from what stands before them and what was read behind it (ECMA-262 12.3.2 to 12.3.11).
use Rattle.std.proofs.Common.{◌≡◌, ℕ, Bool, true, false, cond, List, [], ◌∷◌, ◌++◌, refl, sym, ap, ◌∙◌, subst, arith}
use Rattle.std.specs.Prelude.{IsTrue, Some, codes, ◌&&◌, ◌||◌, nat_eq, slice_index_or, cond}
use Rattle.std.specs.Str.{bytes_eq}
use Rattle.std.proofs.lemmas.Bool.{false≢true, true≢false}
use Rattle.std.proofs.lemmas.Bool.Decides.{nat_tests}
use Rattle.std.proofs.lemmas.List.{append-nil}
use Rattle.std.proofs.lemmas.Slice.Eq.{bytes_eq-Decides}
use Rattle.std.proofs.lemmas.Option.{none-some}
use Rattle.tokens.specs.Goals.{allows}
use Rattle.tokens.specs.declared.token.TokenClass.{TokenClass}
use Rattle.tokens.specs.declared.token.TokenClass.TheVariants.{Punctuator, Template, PrivateName}
use Rattle.tokens.specs.declared.token.Goal.TheVariants.{Div}
use Rattle.tree.specs.declared.kind.Kind.{Kind}
use Rattle.tree.specs.declared.kind.Kind.TheVariants.{Identifier, MemberExpression, CallExpression, TaggedTemplateExpression, PrivateIdentifier}
use Rattle.tree.specs.declared.kind.Flags.{Flags}
use Rattle.tree.specs.declared.kind.Pair.{Pair}
use Rattle.tree.specs.Uses.{is_lean}
use Rattle.tree.specs.Tree.{Tree, node, plain, Parts, none, part, kind_of, bare, bare_parts}
use Rattle.covers.specs.Shapes.{value}
use Rattle.language.specs.declared.Rank.{Rank}
use Rattle.language.specs.declared.Rank.TheVariants as rank
use Rattle.language.specs.declared.Rank.TheVariants.{Expression, LeftHandSide, New, Call, Member}
use Rattle.language.specs.declared.Start.{Start}
use Rattle.language.specs.declared.Start.TheVariants.{Any}
use Rattle.language.specs.declared.Edge.TheVariants.{Other}
use Rattle.language.specs.Vocabulary.{takes, takes_number, precedence, is_super, op_template, op_none, is_private}
use Rattle.language.specs.Pieces.{expr, chain_part, base, word, tagged_quasi, tok, sub, put, fixed, sign, at, is_tight, argument, private_name}
use Rattle.language.specs.Token.{Token, same_class}
use Rattle.language.specs.Expressions.{arguments, selector, has_optional}
use Rattle.language.specs.Continuations.{of_class, operation, rank_made_by}
use Rattle.language.specs.Promises.{ReadBy}
use Rattle.language.specs.Derivation.{Reads, Placed, placed, done, step, within, token}
use Rattle.language.proofs.table.NodeForms.{super_member, super_call}
use Rattle.language.proofs.table.Begins.{div_allows, goes_to, retell}
use Rattle.language.proofs.table.FixedPieces.{all_done, one_more, same_pieces, fixed_join, fixed_listed}
use Rattle.language.proofs.climbing.OperatorNodes.{kind_bare, last_runs, call_grows, tag_grows, link_grows, link_call_grows, base_grows, base_call_grows}
use Rattle.language.proofs.climbing.Leaves.{private_form}
use Rattle.language.proofs.table.LeftRecursiveWays.{callee_rank, property_role}
use Rattle.language.proofs.climbing.ChainElements.{no_part}
use Rattle.language.proofs.table.Productions.{spell, starts_led}
use Rattle.language.proofs.climbing.Suffixes.{suffix_rank, suffix_stands, no_super}
use Rattle.token_cursor.proofs.SeenTokens.{seen_determined}
use Rattle.parser_tables.specs.declared.operand.Operand.{Operand}
use Rattle.recursive_descent.specs.declared.subscripts.Subscript.{Subscript}
use Rattle.recursive_descent.specs.declared.subscripts.Subscript.TheVariants as link
use Rattle.recursive_descent.specs.Soundness.{RunsIn, anywhere, minds_in, Begins, PartAt, LinkAt, SuperAt, Links, ArgumentsAt, UnprivateBehind}
use Rattle.recursive_descent.specs.Subscripts.{link_kind, link_flags, link_rank}
use Rattle.parser_tables.specs.Operands.{plain_part}
use Rattle.token_cursor.specs.Seen.{ReadsHere, Sees, Misses, SeesBy, MissesBy}
use Rattle.parser_tables.specs.Tests.{is_template, continues_super}
use Rattle.recursive_descent.proofs.sound_subscripts.OptionalChains.{chained_bare}
use Rattle.recursive_descent.proofs.sound_expressions.ExpressionParts.{placed_at, value_part, member_part, dot_part, index_part}
use Rattle.token_cursor.specs.SourceText.{SourceText, SeenNext, behind_in}
use Rattle.recursive_descent.specs.Spelled.{SpellsIn, OfLanguage}
use Rattle.recursive_descent.specs.Later.{MemberNameAt}
use Rattle.language.specs.declared.Language.{Language}
use Rattle.language.specs.declared.Language.TheVariants.{Base, Script, Module}
use Rattle.language.specs.Languages.{is_of_2022}
use Rattle.language.specs.Later.{has_later}
use Rattle.language.proofs.list_loops.FirstPieces.{ThePart, run_the_part, run_none}
use Rattle.token_cursor.specs.CursorState.{CursorState}
use Rattle.recursive_descent.proofs.sound_expressions.GroupContents.{arguments_bare}

-- arguments are the same wherever their node stands
pub arguments_at : (y : Rank) (i : Bool) (f : Start) (ps : Parts) → anywhere (arguments ps) ≡ goes_to y i f (arguments (bare_parts ps))
arguments_at y i f ps =
    let fixed = fixed_join (one_more {p = sign "("} refl (fixed_listed argument (λ n. refl) ps)) (one_more {p = sign ")"} refl all_done) in
    same_pieces Expression y true i Any f fixed ∙ ap (goes_to y i f) (sym (arguments_bare ps))

-- the name behind a dot, as it is spelled there; it is private in the language of 2022 alone
pub record MemberNamed (text : SourceText) (n : Tree) (s e : Token) : Type 0 where
  pub spelled : (o : ℕ) → SpellsIn text o (property_role (kind_of n)) n s e []
  pub in_base : text.language ≡ Base → is_private (kind_of n) ≡ false

named_part : {text : SourceText} {o : ℕ} (k : Kind) {n : Tree} {s e : Token} {P : List Pair} → ThePart Token (SeenNext text) (behind_in text) o (property_role k) [] n none s e P → P ≡ [] → SpellsIn text o (property_role k) n s e []
named_part {text} {o} k {n} {s} {e} {P} u none_given =
    let ends = run_none Token (SeenNext text) (behind_in text) u.runs in
    let pairs : u.one ≡ [] = sym (append-nil u.one) ∙ ap (λ x. u.one ++ x) (sym ends.pairs) ∙ sym u.pairs ∙ none_given in
    subst (λ x. SpellsIn text o (property_role k) n s x []) ends.place (subst (λ x. SpellsIn text o (property_role k) n s u.mid x) pairs u.spelled)

no_private_there : (n : Tree) → has_later n ≡ false → is_private (kind_of n) ≡ false
unfolding has_later
no_private_there (node PrivateIdentifier w g st en ps) h = absurd (true≢false h)
no_private_there (node _ w g st en ps) h = refl

pub member_named : (s e : CursorState) (n : Tree) → MemberNameAt s e n → OfLanguage s.text n → MemberNamed s.text n s.last e.last
member_named s e n there own = record {
  spelled = λ o. named_part (kind_of n) (run_the_part Token (SeenNext s.text) (behind_in s.text) (there o)) refl;
  in_base = λ b. no_private_there n (own.none_later b);
}

-- What was read behind the object of a member, a callee or a tag: with a `?.` or without.
pub data Behind (text : SourceText) (o : ℕ) (m e : Token) : Subscript → Bool → Parts → List Pair → Type 0 where
  a_name : {n : Tree} {x : Token} → ReadsHere text Punctuator (codes ".") m x → MemberNamed text n x e → Behind text o m e link.Name false (part n none) []
  optional_name : {n : Tree} {x : Token} → ReadsHere text Punctuator (codes "?.") m x → MemberNamed text n x e → Behind text o m e link.Name true (part n none) []
  an_index : {u : Tree} {x z : Token} {Q : List Pair} → ReadsHere text Punctuator (codes "[") m x → SpellsIn text o (expr Expression true Any) u x z Q → ReadsHere text Punctuator (codes "]") z e → Behind text o m e link.Index false (part u none) Q
  optional_index : {u : Tree} {y x z : Token} {Q : List Pair} → ReadsHere text Punctuator (codes "?.") m y → ReadsHere text Punctuator (codes "[") y x → SpellsIn text o (expr Expression true Any) u x z Q → ReadsHere text Punctuator (codes "]") z e →
      Behind text o m e link.Index true (part u none) Q
  some_arguments : {x : Token} {ps : Parts} {Q : List Pair} → ReadsHere text Punctuator (codes "(") m x → ArgumentsAt text ps o m e Q → Behind text o m e link.Arguments false ps Q
  optional_arguments : {y : Token} {ps : Parts} {Q : List Pair} → ReadsHere text Punctuator (codes "?.") m y → ArgumentsAt text ps o y e Q → Behind text o m e link.Arguments true ps Q
  a_template : {t x : Token} {u : Tree} {Q : List Pair} → ReadBy Token (SeenNext text) (behind_in text) Div m t x → t.class ≡ Template → SpellsIn text o tagged_quasi u m e Q → Behind text o m e link.Quasi false (part u none) Q

-- the node that it makes
abbrev pub link_node : Subscript → Bool → Operand → Token → Parts → Tree
link_node w b l e ps = node (link_kind w) [] (link_flags w b) l.start e.stop (part l.cover.node ps)

-- what a call may be: the symbols tighter than Call
abbrev pub is_call : Rank → Bool
is_call rank.Call = true
is_call _ = false

-- its symbol, where what stands before it can be called
link_suffix : (c : Rank) → IsTrue (takes Call c) → cond (is_call c) Call Member ≡ suffix_rank c
link_suffix rank.Call h = refl
link_suffix rank.Member h = refl
link_suffix rank.Primary h = refl
link_suffix rank.Grouped h = refl
link_suffix rank.Expression h = absurd (false≢true h)
link_suffix rank.Assignment h = absurd (false≢true h)
link_suffix rank.Conditional h = absurd (false≢true h)
link_suffix rank.ShortCircuit h = absurd (false≢true h)
link_suffix rank.Coalesce h = absurd (false≢true h)
link_suffix rank.LogicalOr h = absurd (false≢true h)
link_suffix rank.LogicalAnd h = absurd (false≢true h)
link_suffix rank.BitwiseOr h = absurd (false≢true h)
link_suffix rank.BitwiseXor h = absurd (false≢true h)
link_suffix rank.BitwiseAnd h = absurd (false≢true h)
link_suffix rank.Equality h = absurd (false≢true h)
link_suffix rank.Relational h = absurd (false≢true h)
link_suffix rank.Shift h = absurd (false≢true h)
link_suffix rank.Additive h = absurd (false≢true h)
link_suffix rank.Multiplicative h = absurd (false≢true h)
link_suffix rank.Exponentiation h = absurd (false≢true h)
link_suffix rank.Unary h = absurd (false≢true h)
link_suffix rank.Update h = absurd (false≢true h)
link_suffix rank.LeftHandSide h = absurd (false≢true h)
link_suffix rank.New h = absurd (false≢true h)

-- the symbol of what is no call
abbrev pub rank_behind : Subscript → Rank → Rank
rank_behind link.Arguments c = Call
rank_behind link.Name c = suffix_rank c
rank_behind link.Index c = suffix_rank c
rank_behind link.Quasi c = suffix_rank c

link_by_call : (w : Subscript) (b : Bool) → (link.Arguments ≡ w → ⊥) → link_rank w b ≡ cond b Call Member
link_by_call link.Arguments b h = absurd (h refl)
link_by_call link.Name true h = refl
link_by_call link.Name false h = refl
link_by_call link.Index true h = refl
link_by_call link.Index false h = refl
link_by_call link.Quasi true h = refl
link_by_call link.Quasi false h = refl

pub rank_of_link : (w : Subscript) (c : Rank) → IsTrue (takes Call c) → link_rank w (is_call c) ≡ rank_behind w c
rank_of_link link.Arguments c h = refl
rank_of_link link.Name c h = link_by_call link.Name (is_call c) (λ e. cc) ∙ link_suffix c h
rank_of_link link.Index c h = link_by_call link.Index (is_call c) (λ e. cc) ∙ link_suffix c h
rank_of_link link.Quasi c h = link_by_call link.Quasi (is_call c) (λ e. cc) ∙ link_suffix c h

call_number : (y c : ℕ) → IsTrue (takes_number y c) → IsTrue (takes_number 20 c) → takes_number 21 c ≡ false → IsTrue (takes_number y 20)
call_number y c t k n = grind (arith, nat_tests)

-- what takes the object, and a member, takes the node
suffix_taken : (y c : Rank) → IsTrue (takes Call c) → IsTrue (takes y c) → IsTrue (takes y Member) → IsTrue (takes y (suffix_rank c))
suffix_taken y c k t h = of (takes Member c) refl
  where
    of : (b : Bool) → takes Member c ≡ b → takes y (cond b Member Call) ≡ true
    of true e = h
    of false e = call_number (precedence y) (precedence c) t k e

-- the symbol that the token of a link makes
abbrev own_symbol : Subscript → Rank
own_symbol link.Arguments = Call
own_symbol link.Name = Member
own_symbol link.Index = Member
own_symbol link.Quasi = Member

link_taken : (w : Subscript) (y z c : Rank) → z ≡ own_symbol w → IsTrue (takes Call c) → IsTrue (takes y c) → IsTrue (takes y z) → IsTrue (takes y (rank_behind w c))
link_taken link.Arguments y z c e k t h = subst (λ x. IsTrue (takes y x)) e h
link_taken link.Name y z c e k t h = suffix_taken y c k t (subst (λ x. IsTrue (takes y x)) e h)
link_taken link.Index y z c e k t h = suffix_taken y c k t (subst (λ x. IsTrue (takes y x)) e h)
link_taken link.Quasi y z c e k t h = suffix_taken y c k t (subst (λ x. IsTrue (takes y x)) e h)

some_is : {y z : Rank} → Some y ≡ Some z → z ≡ y
some_is e = cc

tag_symbol : (b n : Bool) {z : Rank} → rank_made_by (cond b op_template op_none) n ≡ Some z → z ≡ Member
tag_symbol true n e = some_is e
tag_symbol false n e = absurd (none-some _ e)

not_loose : (b : Bool) → minds_in (cond b Member Call) ≡ true → ⊥
not_loose true h = absurd (false≢true h)
not_loose false h = absurd (false≢true h)

suffix_target : (c : Rank) → IsTrue (takes LeftHandSide (suffix_rank c))
suffix_target c = of (takes Member c)
  where
    of : (b : Bool) → IsTrue (takes LeftHandSide (cond b Member Call))
    of true = refl
    of false = refl

suffix_not_new : {A : Type 0} (c : Rank) → suffix_rank c ≡ New → A
suffix_not_new {A} c h = of (takes Member c) h
  where
    of : (b : Bool) → cond b Member Call ≡ New → A
    of true h = cc
    of false h = cc

behind_super : (c : TokenClass) (x y z b : Bool) → ((same_class Punctuator c && x) || ((same_class Punctuator c && y) || (b && (same_class Punctuator c && z)))) ≡ true → same_class Template c ≡ false
behind_super Template x y z true h = absurd (false≢true h)
behind_super Template x y z false h = absurd (false≢true h)
behind_super _ x y z b h = refl

base_alone : (l : Language) → is_of_2022 l ≡ false → l ≡ Base
base_alone Base h = refl
base_alone Script h = absurd (true≢false h)
base_alone Module h = absurd (true≢false h)

module _ (text : SourceText) where
  abbrev By : Token → Token → Token → Type 0
  By = ReadBy Token (SeenNext text) (behind_in text) Div

  by_mark : {w : List ℕ} {s t e : Token} → Reads Token (SeenNext text) (behind_in text) Punctuator w s t e → By s t e
  by_mark {t = t} r = record { next = r.next; allowed = subst (λ c. IsTrue (allows Div c t.text)) (sym r.class) (div_allows false t.text) }

  one_token : {s t m u e : Token} → By s t m → By s u e → t ≡ u
  one_token {s} {t} {m} {u} {e} a b = ((seen_determined text).same Div s t u m e a.next b.next a.allowed b.allowed).0

  -- what the sign makes that is read there
  sign_makes : {v : List ℕ} {m t x y : Token} → ReadsHere text Punctuator v m x → By m t y → operation t ≡ of_class Punctuator v
  sign_makes r b = ap operation (one_token b (by_mark r)) ∙ (λ i. of_class (r.class i) (r.text i))

  -- where one sign is read no other is, and where a template is none is
  other_sign : {v w : List ℕ} {m x : Token} → bytes_eq v w ≡ false → ReadsHere text Punctuator v m x → Misses text Punctuator w m
  other_sign {v} {w} no_same r t e k =
      let same : v ≡ w = sym r.text ∙ ap (λ (u : Token). u.text) (one_token (by_mark r) (by_mark k)) ∙ k.text in
      false≢true (sym no_same ∙ (bytes_eq-Decides v w).1 same)

  no_sign : {w : List ℕ} {m t x : Token} → By m t x → t.class ≡ Template → Misses text Punctuator w m
  no_sign b template u e k =
      let clash : Template ≡ Punctuator = sym template ∙ ap (λ (u : Token). u.class) (one_token b (by_mark k)) ∙ k.class in
      cc

  template_seen : {A : Type 0} {m t x : Token} → By m t x → t.class ≡ Template → MissesBy text Div is_template m → A
  template_seen {t = t} {x = x} b template untagged = absurd (false≢true (sym (untagged t x b) ∙ ap (same_class Template) template))

  -- no template follows where what goes on with `super` does
  pub no_template_behind_super : (b : Bool) (m : Token) → SeesBy text Div (continues_super b) m → MissesBy text Div is_template m
  no_template_behind_super b m h t e r =
      let u = behind_in text h.0 in
      let same : t ≡ u = one_token r h.1.0 in
      ap is_template same ∙ behind_super u.class (bytes_eq u.text (codes ".")) (bytes_eq u.text (codes "[")) (bytes_eq u.text (codes "(")) b h.1.1

  placed_link : {f : Start} {k : Kind} {w : List ℕ} {g : Flags} {at : ℕ} {ps : Parts} {s e : Token} → Begins text at s → Placed Token (SeenNext text) (behind_in text) (chain_part f) (node k w g at e.stop ps) s e
  placed_link {e = e} b = placed b.next (ap (λ (x : ℕ). (x, e.stop)) b.start)

  -- a name, and an expression in brackets
  name_runs : {o : ℕ} {n : Tree} {x e : Token} → MemberNamed text n x e → RunsIn text o (sub (property_role (kind_of (bare n))) ∷ []) (part n none) x e []
  name_runs {o} {n} {x} {e} r = last_runs Token (SeenNext text) (behind_in text) (subst (λ k. SpellsIn text o (property_role k) n x e []) (sym (kind_bare n)) (r.spelled o))

  brackets_run : {o : ℕ} {u : Tree} {m x z e : Token} {Q : List Pair} → ReadsHere text Punctuator (codes "[") m x → SpellsIn text o (expr Expression true Any) u x z Q → ReadsHere text Punctuator (codes "]") z e →
      RunsIn text o (tok Punctuator (codes "[") ∷ sub (expr Expression true Any) ∷ tok Punctuator (codes "]") ∷ []) (part u none) m e Q
  brackets_run {o} {u} {m} {e = e} {Q = Q} left index right =
      subst (λ x. RunsIn text o (tok Punctuator (codes "[") ∷ sub (expr Expression true Any) ∷ tok Punctuator (codes "]") ∷ []) (part u none) m e x) (append-nil Q) (step (token left) (within index (step (token right) done)))

  arguments_run : {o : ℕ} {ps : Parts} {m e : Token} {Q : List Pair} (y : Rank) (i : Bool) (f : Start) → ArgumentsAt text ps o m e Q → RunsIn text o (goes_to y i f (arguments (bare_parts ps))) ps m e Q
  arguments_run {ps = ps} y i f d = retell Token (SeenNext text) (behind_in text) (arguments_at y i f ps) d

  -- With a `?.` or without: it is seen there.
  optional_seen : {o : ℕ} {m e : Token} {w : Subscript} {b : Bool} {ps : Parts} {Q : List Pair} → Behind text o m e w b ps Q → cond b (Sees text Punctuator (codes "?.") m) (Misses text Punctuator (codes "?.") m)
  optional_seen (a_name r n) = other_sign refl r
  optional_seen (optional_name {x = x} r n) = (x, r)
  optional_seen (an_index r d k) = other_sign refl r
  optional_seen (optional_index {y = y} q r d k) = (y, q)
  optional_seen (some_arguments r d) = other_sign refl r
  optional_seen (optional_arguments {y = y} q d) = (y, q)
  optional_seen (a_template r c d) = no_sign r c

  -- the symbol of what the token makes
  symbol_behind : {o : ℕ} {m e : Token} {w : Subscript} {b : Bool} {ps : Parts} {Q : List Pair} → Behind text o m e w b ps Q → b ≡ false → (t y : Token) (z : Rank) → By m t y → rank_made_by (operation t) t.after_break ≡ Some z → z ≡ own_symbol w
  symbol_behind (a_name r n) no_mark t y z b h = some_is (sym (ap (λ x. rank_made_by x t.after_break) (sign_makes r b)) ∙ h)
  symbol_behind (an_index r d k) no_mark t y z b h = some_is (sym (ap (λ x. rank_made_by x t.after_break) (sign_makes r b)) ∙ h)
  symbol_behind (some_arguments r d) no_mark t y z b h = some_is (sym (ap (λ x. rank_made_by x t.after_break) (sign_makes r b)) ∙ h)
  symbol_behind (a_template {t = u} r c d) no_mark t y z b h =
      let class : t.class ≡ Template = ap (λ (x : Token). x.class) (one_token b r) ∙ c in
      tag_symbol (nat_eq (slice_index_or t.text 0 0) 96) t.after_break (sym (ap (λ x. rank_made_by (of_class x t.text) t.after_break) class) ∙ h)
  symbol_behind (optional_name r n) no_mark t y z b h = absurd (false≢true (sym no_mark))
  symbol_behind (optional_index q r d k) no_mark t y z b h = absurd (false≢true (sym no_mark))
  symbol_behind (optional_arguments q d) no_mark t y z b h = absurd (false≢true (sym no_mark))

  module _ {i : Bool} {f : Start} {l : Operand} {o : ℕ} {s m : Token} {P : List Pair} (left : PartAt text i f l o s m P) (value : l.cover.shape.is_expression ≡ true) (object : IsTrue (takes Call l.rank)) where
    -- what stands where a call may stand
    called : SpellsIn text o (expr Call true f) l.cover.node s m P
    called = left.stands value Call true object (λ k. cc)

    -- a call
    pub call_part : {e : Token} {ps : Parts} {Q : List Pair} → ArgumentsAt text ps o m e Q → PartAt text i f (plain_part (node CallExpression [] plain l.start e.stop (part l.cover.node ps)) Call Other) o s e (P ++ Q)
    call_part d =
        value_part text refl left.begins refl refl (λ h. cc)
        (λ h j tk lo. call_grows Token (SeenNext text) (behind_in text) (no_super Token (SeenNext text) (behind_in text) called) tk called (arguments_run h j f d) (placed_at text left.begins))

    -- a template behind a tag
    pub tag_part : {e : Token} {u : Tree} {Q : List Pair} → SpellsIn text o tagged_quasi u m e Q → PartAt text i f (plain_part (node TaggedTemplateExpression [] plain l.start e.stop (part l.cover.node (part u none))) (suffix_rank l.rank) Other) o s e (P ++ Q)
    tag_part d =
        value_part text refl left.begins refl refl (suffix_not_new l.rank)
        (λ h j tk lo. let fits = suffix_stands h l.rank tk object in
        tag_grows Token (SeenNext text) (behind_in text) fits.0 (left.stands value (callee_rank h) true fits.1 (λ k. absurd (not_loose (is_tight h) k))) d (placed_at text left.begins))

    -- an expression behind an expression
    goes_onward : {e : Token} {w : Subscript} {b : Bool} {ps : Parts} {Q : List Pair} → Behind text o m e w b ps Q → b ≡ false → PartAt text i f (plain_part (link_node w b l e ps) (rank_behind w l.rank) Other) o s e (P ++ Q)
    goes_onward (a_name r n) no_mark = dot_part text left value object r (n.spelled o)
    goes_onward (an_index r d k) no_mark = index_part text left value object r d k
    goes_onward (some_arguments r d) no_mark = call_part d
    goes_onward (a_template r c d) no_mark = tag_part d
    goes_onward (optional_name r n) no_mark = absurd (false≢true (sym no_mark))
    goes_onward (optional_index q r d k) no_mark = absurd (false≢true (sym no_mark))
    goes_onward (optional_arguments q d) no_mark = absurd (false≢true (sym no_mark))

    -- the first part of a chain
    begins_chain : {e : Token} {w : Subscript} {b : Bool} {ps : Parts} {Q : List Pair} → Behind text o m e w b ps Q → b ≡ true → LinkAt text f (plain_part (link_node w b l e ps) (rank_behind w l.rank) Other) o s e (P ++ Q)
    begins_chain (optional_name r n) mark = record {
      begins = left.begins;
      chained = refl;
      spelled = base_grows Token (SeenNext text) (behind_in text) (no_part Token (SeenNext text) (behind_in text) called) refl refl called (step (token r) (name_runs n)) (placed_link left.begins);
    }
    begins_chain (optional_index q r d k) mark = record {
      begins = left.begins;
      chained = refl;
      spelled = base_grows Token (SeenNext text) (behind_in text) (no_part Token (SeenNext text) (behind_in text) called) refl refl called (step (token q) (brackets_run r d k)) (placed_link left.begins);
    }
    begins_chain (optional_arguments q d) mark = record {
      begins = left.begins;
      chained = refl;
      spelled = base_call_grows Token (SeenNext text) (behind_in text) (no_part Token (SeenNext text) (behind_in text) called) refl refl called (step (token q) (arguments_run Expression true f d)) (placed_link left.begins);
    }
    begins_chain (a_name r n) mark = absurd (false≢true mark)
    begins_chain (an_index r d k) mark = absurd (false≢true mark)
    begins_chain (some_arguments r d) mark = absurd (false≢true mark)
    begins_chain (a_template r c d) mark = absurd (false≢true mark)

  module _ {f : Start} {l : Operand} {o : ℕ} {s m : Token} {P : List Pair} (links : LinkAt text f l o s m P) where
    abbrev below : ◌≡◌ (has_optional (bare l.cover.node)) true
    below = chained_bare l.cover.node ∙ links.chained

    -- a further part of a chain
    goes_further : {e : Token} {w : Subscript} {b : Bool} {ps : Parts} {Q : List Pair} → MissesBy text Div is_template m → Behind text o m e w b ps Q → LinkAt text f (plain_part (link_node w b l e ps) (rank_behind w l.rank) Other) o s e (P ++ Q)
    goes_further untagged (a_name r n) = record { begins = links.begins; chained = links.chained; spelled = link_grows Token (SeenNext text) (behind_in text) below refl links.spelled (step (token r) (name_runs n)) (placed_link links.begins) }
    goes_further untagged (optional_name r n) = record { begins = links.begins; chained = refl; spelled = link_grows Token (SeenNext text) (behind_in text) below refl links.spelled (step (token r) (name_runs n)) (placed_link links.begins) }
    goes_further untagged (an_index r d k) = record { begins = links.begins; chained = links.chained; spelled = link_grows Token (SeenNext text) (behind_in text) below refl links.spelled (brackets_run r d k) (placed_link links.begins) }
    goes_further untagged (optional_index q r d k) = record { begins = links.begins; chained = refl; spelled = link_grows Token (SeenNext text) (behind_in text) below refl links.spelled (step (token q) (brackets_run r d k)) (placed_link links.begins) }
    goes_further untagged (some_arguments r d) = record { begins = links.begins; chained = links.chained; spelled = link_call_grows Token (SeenNext text) (behind_in text) below refl links.spelled (arguments_run Expression true f d) (placed_link links.begins) }
    goes_further untagged (optional_arguments q d) =
        record { begins = links.begins; chained = refl; spelled = link_call_grows Token (SeenNext text) (behind_in text) below refl links.spelled (step (token q) (arguments_run Expression true f d)) (placed_link links.begins) }
    goes_further untagged (a_template r c d) = template_seen r c untagged

  module _ {l : Operand} {o : ℕ} {s m : Token} {P : List Pair} (object_is : SuperAt text l o s m P) (object : IsTrue (takes Call l.rank)) where
    abbrev is_base : is_super (kind_of (bare l.cover.node)) ≡ true
    is_base = ap is_super (kind_bare l.cover.node ∙ object_is.kind)

    super_member_at : {f : Start} {e : Token} {u : Tree} {g : Flags} {Q : List Pair} → g.optional ≡ false → is_lean (bare (node MemberExpression [] g l.start e.stop (part l.cover.node (part u none)))) ≡ true → (h : Rank) (j : Bool) → IsTrue (takes h (suffix_rank l.rank)) →
        RunsIn text o (goes_to h j f (selector g Identifier)) (part u none) m e Q → SpellsIn text o (expr h j f) (node MemberExpression [] g l.start e.stop (part l.cover.node (part u none))) s e (P ++ Q)
    super_member_at {f = f} {g = g} no_mark lean h j tk runs =
        spell Token (SeenNext text) (behind_in text) (at Member (put base ∷ selector g Identifier)) (super_member no_mark is_base) lean (suffix_stands h l.rank tk object).0 refl (starts_led f (fixed base) (selector g Identifier)) (placed_at text object_is.begins) (within object_is.spelled runs)

    -- behind `super` an expression
    unprivate : {n : Tree} {x e : Token} → UnprivateBehind text m → ReadsHere text Punctuator (codes ".") m x → MemberNamed text n x e → is_private (kind_of n) ≡ false
    unprivate {n} {x} {e} no_private r named = of (is_private (kind_of n)) refl (is_of_2022 text.language) refl
      where
        private_there : {e : Token} → SpellsIn text 0 private_name n x e [] → is_of_2022 text.language ≡ true → ⊥
        private_there d later = let u = private_form Token (SeenNext text) (behind_in text) (seen_determined text) d in false≢true (sym (no_private later u.sign x _ r u.reads.next) ∙ ap (same_class PrivateName) u.reads.class)

        of : (b : Bool) → is_private (kind_of n) ≡ b → (l : Bool) → is_of_2022 text.language ≡ l → is_private (kind_of n) ≡ false
        of false h l k = h
        of true h true k = absurd (private_there (subst (λ c. SpellsIn text 0 (cond c private_name word) n x e []) h (named.spelled 0)) k)
        of true h false k = named.in_base (base_alone text.language k)

    named_word : {n : Tree} {x e : Token} → is_private (kind_of n) ≡ false → MemberNamed text n x e → RunsIn text o (sub word ∷ []) (part n none) x e []
    named_word {n} {x} {e} plain named = last_runs Token (SeenNext text) (behind_in text) (subst (λ c. SpellsIn text o (cond c private_name word) n x e []) plain (named.spelled o))

    goes_super : {i : Bool} {f : Start} {e : Token} {w : Subscript} {b : Bool} {ps : Parts} {Q : List Pair} → MissesBy text Div is_template m → UnprivateBehind text m → Behind text o m e w b ps Q → b ≡ false → PartAt text i f (plain_part (link_node w b l e ps) (rank_behind w l.rank) Other) o s e (P ++ Q)
    goes_super untagged unseen (a_name r n) no_mark = member_part text refl (suffix_target l.rank) (suffix_not_new l.rank) object_is.begins
        (λ h j tk. super_member_at refl refl h j tk (step (token r) (named_word (unprivate unseen r n) n)))
    goes_super untagged unseen (an_index r d k) no_mark = member_part text refl (suffix_target l.rank) (suffix_not_new l.rank) object_is.begins
        (λ h j tk. super_member_at refl refl h j tk (brackets_run r d k))
    goes_super {f = f} untagged unseen (some_arguments {ps = ps} r d) no_mark =
        value_part text refl object_is.begins refl refl (λ h. cc)
        (λ h j tk lo. spell Token (SeenNext text) (behind_in text) (at Call (put base ∷ arguments (bare_parts ps))) (super_call refl is_base) refl tk refl (starts_led f (fixed base) (arguments (bare_parts ps))) (placed_at text object_is.begins) (within object_is.spelled (arguments_run h j f d)))
    goes_super untagged unseen (a_template r c d) no_mark = template_seen r c untagged
    goes_super untagged unseen (optional_name r n) no_mark = absurd (false≢true (sym no_mark))
    goes_super untagged unseen (optional_index q r d k) no_mark = absurd (false≢true (sym no_mark))
    goes_super untagged unseen (optional_arguments q d) no_mark = absurd (false≢true (sym no_mark))

  -- All that it makes of what stands before it.
  pub links_behind : {o : ℕ} {l : Operand} {m e : Token} {w : Subscript} {b : Bool} {ps : Parts} {Q : List Pair} → l.cover.shape.is_expression ≡ true → IsTrue (takes Call l.rank) → Behind text o m e w b ps Q → Links text l (plain_part (link_node w b l e ps) (rank_behind w l.rank) Other) o m e Q
  links_behind {l = l} {w = w} value object d = record {
    optional = optional_seen d;
    onward = λ no_mark i f s P left. goes_onward left value object d no_mark;
    taken = λ no_mark t x y z r makes low fits. link_taken w y z l.rank (symbol_behind d no_mark t x z r makes) object low fits;
    begun = λ mark i f s P left. begins_chain left value object d mark;
    further = λ untagged f s P links. goes_further links untagged d;
    super = λ untagged unprivate no_mark i f s P base_is. goes_super base_is object untagged unprivate d no_mark;
  }
