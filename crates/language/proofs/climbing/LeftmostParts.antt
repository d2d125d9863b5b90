-- What an expression begins with, by its first token: a group, or one of the ways that begin with a token.
use Rattle.std.proofs.Common.{◌≡◌, ℕ, suc, Bool, true, List, ◌∷◌, refl, sym, ap, ◌∙◌, subst}
use Rattle.std.specs.Prelude.{IsTrue, codes}
use Rattle.tokens.specs.declared.token.TokenClass.TheVariants.{Punctuator}
use Rattle.tokens.specs.declared.token.Goal.{Goal}
use Rattle.tokens.specs.Goals.{allows}
use Rattle.tree.specs.declared.kind.Kind.{Kind}
use Rattle.tree.specs.declared.kind.Kind.TheVariants.{MemberExpression, CallExpression}
use Rattle.std.proofs.lemmas.Bool.{false≢true}
use Rattle.language.specs.declared.Rank.{Rank}
use Rattle.language.specs.declared.Rank.TheVariants.{Expression}
use Rattle.language.specs.declared.Start.{Start}
use Rattle.language.specs.declared.Start.TheVariants.{Any}
use Rattle.tree.specs.declared.kind.Flags.{Flags}
use Rattle.tree.specs.declared.kind.Pair.{Pair}
use Rattle.tree.specs.Tree.{Tree, node, Parts, bare, bare_parts}
use Rattle.tree.specs.Uses.{is_lean}
use Rattle.language.specs.Pieces.{Role, expr, chain_part, Piece, PieceOf, Spelling}
use Rattle.language.specs.FirstPart.{lead as lead_kind, others}
use Rattle.language.specs.Expressions.{chain_parts, chain_element, member_link, call_link, first_has_optional}
use Rattle.language.proofs.lower_bound.Domination.{settled}
use Rattle.language.specs.Token.{Token}
use Rattle.language.specs.ExpressionStart.{ExpressionStart, with_parenthesis, expression_start}
use Rattle.language.specs.Grammar.{spellings, ways}
use Rattle.language.specs.Derivation.{Among, pair_of, Reads, Spells, Runs, Placed}
use Rattle.language.proofs.table.ViewIsComplete.{way_of, made, one, cases}
use Rattle.language.proofs.climbing.Spine.{is_led, on_spine, grows_on_spine, Core, group, plain, spine_of}
use Rattle.language.specs.Promises.{IsDetermined, ReadBy}
use Rattle.language.proofs.table.TokenFirstWays.{Headed, headed_of, headed_read, Opens, opens_with, opens}

linked_led : (f : Start) (o : Bool) (ps : Parts) (qs : List Piece) {x : Spelling} → Among x (chain_element o ps qs) → is_led (settled (chain_part f) x) ≡ true
linked_led f o ps qs h = cases (first_has_optional ps) h (λ b k. ap (λ z. is_led (settled (chain_part f) z)) (one k)) (λ b k. cases o k (λ c j. ap (λ z. is_led (settled (chain_part f) z)) (one j)) (λ c j. elim j [ ]))

module _ (S : Type 0) (Next : S → Token → S → Type 0) (behind : S → Token) (det : IsDetermined S Next behind) where
  -- a core of an expression: its first token, and what it is
  pub data Cored (o : ℕ) (y : Rank) (i : Bool) (f : Start) (n : Tree) (s e : S) (P : List Pair) : ExpressionStart → Type 0 where
    in_group : {less : ℕ} {left right : Token} {m l : S} {Q : List Pair} → o ≡ suc less →
        Reads S Next behind Punctuator (codes "(") s left m → Spells ways S Next behind less (expr Expression true Any) n m l Q → Reads S Next behind Punctuator (codes ")") l right e →
        P ≡ pair_of left right ∷ Q → Cored o y i f n s e P with_parenthesis
    in_way : {k : Kind} {w : List ℕ} {g : Flags} {st en : ℕ} {ps : Parts} {qs : List (PieceOf Role)} {x : ExpressionStart} → n ≡ node k w g st en ps → Headed y i f k w g (bare_parts ps) qs x → is_lean (bare n) ≡ true →
        Placed S Next behind (expr y i f) n s e → Runs ways S Next behind o qs ps s e P → Cored o y i f n s e P x

  -- the core with its opening, and the token that is read there
  pub record Cores (o : ℕ) (y : Rank) (i : Bool) (f : Start) (n : Tree) (s e : S) (P : List Pair) : Type 0 where
    pub opening : ExpressionStart
    pub cored : Cored o y i f n s e P opening
    pub begins : Opens S Next behind det opening s

  pub core_of : {o : ℕ} {y : Rank} {i : Bool} {f : Start} {n : Tree} {s e : S} {P : List Pair} → Core S Next behind o (expr y i f) n s e P → Cores o y i f n s e P
  unfolding spellings
  core_of (group {left = left} {m = m} p d q) =
      let al : IsTrue (allows Goal.RegExp left.class left.text) = subst (λ c. IsTrue (allows Goal.RegExp c left.text)) (sym p.class) (subst (λ z. IsTrue (allows Goal.RegExp Punctuator z)) (sym p.text) refl) in
      record { opening = with_parenthesis; cored = in_group refl p d q refl; begins = record { token = left; mid = m; read = record { next = p.next; allowed = al }; opens = opens left p.class p.text refl } }
  core_of {o} {y} {i} {f} {s = s} {e = e} {P = P} (plain {n = node k w g st en ps} qs h un pl eq d) =
      let v = way_of h in
      let u = headed_of y i f (made k v.listed) v.fit v.is un in
      let d' : Runs ways S Next behind o qs ps s e P = subst (λ z. Runs ways S Next behind o qs z s e P) (sym eq) d in
      record { opening = u.opening; cored = in_way refl u.headed v.lean pl d'; begins = headed_read S Next behind det u.headed d' }

  -- so, of a token that is read: which cores are possible
  pub core_by : {o : ℕ} {y : Rank} {i : Bool} {f : Start} {n : Tree} {s e m : S} {P : List Pair} {t : Token} {x : ExpressionStart} →
      ReadBy S Next behind Goal.RegExp s t m → expression_start t ≡ x → Core S Next behind o (expr y i f) n s e P → Cored o y i f n s e P x
  core_by {o} {y} {i} {f} {n} {s} {e} {P = P} r h c = let u = core_of c in
      subst (λ z. Cored o y i f n s e P z) (sym (opens_with S Next behind det u.begins r) ∙ h) u.cored

  -- the token with which an expression begins, read by the goal for operands
  pub record Begins (s : S) : Type 0 where
    pub opening : ExpressionStart
    pub begins : Opens S Next behind det opening s

  -- each way of a part of a chain is led
  spines_led : (f : Start) (k : Kind) (g : Flags) (ps : Parts) {x : Spelling} → Among x (chain_parts k g ps) → is_led (settled (chain_part f) x) ≡ true
  spines_led f MemberExpression g ps h = linked_led f g.optional ps (member_link g (lead_kind (others ps))) h
  spines_led f CallExpression g ps h = linked_led f g.optional ps (call_link g ps) h
  spines_led f _ g ps h = elim h [ ]

  -- so none is a core
  pub no_spine_core : {o : ℕ} {f : Start} {n : Tree} {s e : S} {P : List Pair} → Core S Next behind o (chain_part f) n s e P → ⊥
  unfolding spellings
  no_spine_core {f = f} (plain {n = node k w g st en ps} qs way un pl eq d) = let v = way_of way in false≢true (sym un ∙ ap is_led v.is ∙ spines_led f k g (bare_parts ps) v.listed)

  core_begins : {o : ℕ} {n : Tree} {s e : S} {P : List Pair} (a : Role) → on_spine a ≡ true → Core S Next behind o a n s e P → Begins s
  unfolding spellings
  core_begins (expr y i f) h c = let u = core_of c in record { opening = u.opening; begins = u.begins }
  core_begins (chain_part f) h c = absurd (no_spine_core c)
  core_begins _ h c = absurd (false≢true h)

  -- So where an expression begins, the goal for operands reads a token: never the punctuator `/` or `/=`, which that goal doesn't read.
  pub operand_begins : {o : ℕ} {y : Rank} {i : Bool} {f : Start} {n : Tree} {s e : S} {P : List Pair} → Spells ways S Next behind o (expr y i f) n s e P → Begins s
  operand_begins d = let u = spine_of S Next behind d in core_begins u.role (grows_on_spine S Next behind refl u.grows) u.core
