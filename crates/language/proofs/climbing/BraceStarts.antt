-- Which expressions begin with a brace, and the positions that this decides: what `export default` exports (16.2.3 of the 13th edition).
use Rattle.std.proofs.Common.{◌≡◌, ◌⊎◌, inl, inr, ℕ, Bool, true, false, cond, List, [], ◌∷◌, refl, sym, ap, ◌∙◌, subst}
use Rattle.std.specs.Prelude.{IsTrue, not, ◌&&◌, codes}
use Prim.Native.String.{String}
use Rattle.std.proofs.lemmas.Bool.{false≢true, and_parts}
use Rattle.tokens.specs.declared.token.TokenClass.TheVariants.{IdentifierName, Punctuator}
use Rattle.tokens.specs.declared.token.Goal.{Goal}
use Rattle.tree.specs.declared.kind.Kind.{Kind}
use Rattle.tree.specs.declared.kind.Kind.TheVariants.{ArrayPattern, ObjectPattern, Super, PrivateIdentifier}
use Rattle.tree.specs.declared.kind.Flags.{Flags}
use Rattle.tree.specs.declared.kind.Pair.{Pair}
use Rattle.tree.specs.Tree.{Tree, node, Parts, none, part, gap, bare_parts}
use Rattle.language.specs.declared.Rank.{Rank}
use Rattle.language.specs.declared.Start.{Start}
use Rattle.language.specs.declared.Start.TheVariants.{Any, Statement}
use Rattle.language.specs.FirstPart.{lead as lead_kind, goes_left, is_braced, begins_with_brace, first_begins_with_brace}
use Rattle.language.specs.Vocabulary.{among, is_reserved, is_super, is_private, Operator}
use Rattle.language.specs.Pieces.{Role, expr, chain_part, PieceOf}
use Rattle.language.specs.Token.{Token}
use Rattle.language.specs.ExpressionStart.{ExpressionStart, with_name, with_brace, with_parenthesis, no_start, start_words, start_among, expression_start, expression_start_by}
use Rattle.language.specs.Promises.{IsDetermined, ReadBy, Apart, is_free}
use Rattle.language.specs.Grammar.{ways, spellings}
use Rattle.language.specs.Derivation.{Reads, Spells}
use Rattle.language.proofs.table.ViewIsComplete.{way_of, made}
use Rattle.language.proofs.table.LeftRecursiveWays.{Led, led_binary, led_power, led_assign, led_postfix, led_sequence, led_conditional, led_dot, led_index, led_call, led_tag, led_chain, led_of, Linked, link_dot, link_index, link_call, link_chained_name, link_chained_index, link_chained_call, linked_of}
use Rattle.language.proofs.table.TokenFirstWays.{Headed, head_identifier, head_literal, head_this, head_array, head_object, head_function, head_class, head_template, head_short_arrow, head_arrow, head_async, async_function, async_name, async_parameters, head_super_member, head_super_call, head_new_with, head_new_without, head_new_target, head_import_meta, head_import, head_yield, head_step, head_await, head_private, head_word, head_sign, head_array_pattern, head_object_pattern, opens, identifier_opens, async_free}
use Rattle.language.proofs.table.Begins.{among_by}
use Rattle.language.proofs.table.Beginnings.{begins_statement, expression_begins}
use Rattle.language.proofs.climbing.OtherStarts.{start_moves, no_declaration}
use Rattle.language.proofs.climbing.AsyncNames.{no_async_function}
use Rattle.tokens.specs.Goals.{allows}
use Rattle.language.proofs.climbing.Spine.{Core, Grows, whole, grow, on_spine, grows_on_spine, spine_of}
use Rattle.language.proofs.climbing.LeftmostParts.{Cored, in_group, in_way, core_by, no_spine_core}

either_kind : (l : Bool) (g : Flags) → goes_left (cond l Rattle.tree.specs.declared.kind.Kind.TheVariants.LogicalExpression Rattle.tree.specs.declared.kind.Kind.TheVariants.BinaryExpression) g ≡ true
either_kind true g = refl
either_kind false g = refl

-- what is led begins with its first part
led_left : {y : Rank} {i : Bool} {f : Start} {k : Kind} {w : List ℕ} {g : Flags} {ps : Parts} {b : Role} {rest : List (PieceOf Role)} {x : Operator} → Led y i f k w g ps b rest x → goes_left k g ≡ true
led_left {g = g} (led_binary {l = l} k op tk im b e) = ap (λ v. goes_left v g) k ∙ either_kind l g
led_left {g = g} (led_power k op tk b e) = ap (λ v. goes_left v g) k
led_left {g = g} (led_assign k op ta tk b e) = ap (λ v. goes_left v g) k
led_left {g = g} (led_postfix k op ta p tk b e) = ap (λ v. goes_left v g) k ∙ ap not p
led_left {g = g} (led_sequence k c tk b e) = ap (λ v. goes_left v g) k
led_left {g = g} (led_conditional k tk b e) = ap (λ v. goes_left v g) k
led_left {g = g} (led_dot k o c s tk b e) = ap (λ v. goes_left v g) k
led_left {g = g} (led_index k o c s tk b e) = ap (λ v. goes_left v g) k
led_left {g = g} (led_call k o s tk b e) = ap (λ v. goes_left v g) k
led_left {g = g} (led_tag k tk b e) = ap (λ v. goes_left v g) k
led_left {g = g} (led_chain k c tk b e) = ap (λ v. goes_left v g) k

linked_left : {f : Start} {k : Kind} {g : Flags} {ps : Parts} {b : Role} {rest : List (PieceOf Role)} {x : Operator} → Linked f k g ps b rest x → goes_left k g ≡ true
linked_left {g = g} (link_dot k o c fc b e) = ap (λ v. goes_left v g) k
linked_left {g = g} (link_index k o c fc b e) = ap (λ v. goes_left v g) k
linked_left {g = g} (link_call k o fc b e) = ap (λ v. goes_left v g) k
linked_left {g = g} (link_chained_name k o c b e) = ap (λ v. goes_left v g) k
linked_left {g = g} (link_chained_index k o c b e) = ap (λ v. goes_left v g) k
linked_left {g = g} (link_chained_call k o b e) = ap (λ v. goes_left v g) k

first_is : (k : Kind) (w : List ℕ) (g : Flags) (st en : ℕ) (qs : Parts) (m : Tree) (ps : Parts) → goes_left k g ≡ true → qs ≡ part m ps → begins_with_brace (node k w g st en qs) ≡ begins_with_brace m
first_is k w g st en qs m ps left parts = ap (λ b. cond b (first_begins_with_brace qs) (is_braced k)) left ∙ ap first_begins_with_brace parts

-- a node by its kind
abbrev is_brace_start : ExpressionStart → Bool
is_brace_start with_brace = true
is_brace_start _ = false

by_kind : (k c : Kind) (w : List ℕ) (g : Flags) (st en : ℕ) (ps : Parts) → k ≡ c → goes_left c g ≡ false → begins_with_brace (node k w g st en ps) ≡ is_braced c
by_kind k c w g st en ps is left = ap (λ v. begins_with_brace (node v w g st en ps)) is ∙ ap (λ b. cond b (first_begins_with_brace ps) (is_braced c)) left

by_first : (k c : Kind) (w : List ℕ) (g : Flags) (st en : ℕ) (ps : Parts) {b : Bool} → k ≡ c → goes_left c g ≡ true → first_begins_with_brace ps ≡ b → begins_with_brace (node k w g st en ps) ≡ b
by_first k c w g st en ps is left first = ap (λ v. begins_with_brace (node v w g st en ps)) is ∙ ap (λ b. cond b (first_begins_with_brace ps) (is_braced c)) left ∙ first

-- a first part of this kind, which isn't led
first_kind : (ps : Parts) (c : Kind) → lead_kind (bare_parts ps) ≡ c → ((g : Flags) → goes_left c g ≡ false) → first_begins_with_brace ps ≡ is_braced c
first_kind none c h left = ap is_braced h
first_kind (gap ps) c h left = ap is_braced h
first_kind (part (node k w g st en qs) ps) c h left = by_kind k c w g st en qs h (left g)

super_is : (k : Kind) → is_super k ≡ true → k ≡ Super
super_is Super h = refl
super_is _ h = absurd (false≢true h)

private_is : (k : Kind) → is_private k ≡ true → k ≡ PrivateIdentifier
private_is PrivateIdentifier h = refl
private_is _ h = absurd (false≢true h)

headed_brace : {y : Rank} {i : Bool} {f : Start} {k : Kind} {w : List ℕ} {g : Flags} (st en : ℕ) (ps : Parts) {qs : List (PieceOf Role)} {x : ExpressionStart} → Headed y i f k w g (bare_parts ps) qs x → begins_with_brace (node k w g st en ps) ≡ is_brace_start x
headed_brace {k = kind} {w = w} {g = g} st en ps (head_super_member k o s tk q) = by_first kind _ w g st en ps k refl (first_kind ps Super (super_is _ s) (λ g. refl))
headed_brace {k = kind} {w = w} {g = g} st en ps (head_super_call k o s tk q) = by_first kind _ w g st en ps k refl (first_kind ps Super (super_is _ s) (λ g. refl))
headed_brace {k = kind} {w = w} {g = g} st en ps (head_private k p t tk in_is q) = by_first kind _ w g st en ps k refl (first_kind ps PrivateIdentifier (private_is _ p) (λ g. refl))
headed_brace {k = kind} {w = w} {g = g} st en ps (head_array_pattern k op e l tk q) = by_first kind _ w g st en ps k refl (first_kind ps ArrayPattern l (λ g. refl))
headed_brace {k = kind} {w = w} {g = g} st en ps (head_object_pattern k op e l tk q) = by_first kind _ w g st en ps k refl (first_kind ps ObjectPattern l (λ g. refl))
headed_brace {k = kind} {w = w} {g = g} st en ps (head_step k op ta p tk q) = by_kind kind _ w g st en ps k (ap not p)
headed_brace {k = kind} {w = w} {g = g} st en ps (head_async (async_function z) s q) = refl
headed_brace {k = kind} {w = w} {g = g} st en ps (head_async (async_name z p c tk) s q) = refl
headed_brace {k = kind} {w = w} {g = g} st en ps (head_async (async_parameters z tk) s q) = refl
headed_brace {k = kind} {w = w} {g = g} st en ps (head_identifier k c q) = by_kind kind _ w g st en ps k refl
headed_brace {k = kind} {w = w} {g = g} st en ps (head_literal k c q) = by_kind kind _ w g st en ps k refl
headed_brace {k = kind} {w = w} {g = g} st en ps (head_this k q) = by_kind kind _ w g st en ps k refl
headed_brace {k = kind} {w = w} {g = g} st en ps (head_array k q) = by_kind kind _ w g st en ps k refl
headed_brace {k = kind} {w = w} {g = g} st en ps (head_object k b q) = by_kind kind _ w g st en ps k refl
headed_brace {k = kind} {w = w} {g = g} st en ps (head_function k z b q) = by_kind kind _ w g st en ps k refl
headed_brace {k = kind} {w = w} {g = g} st en ps (head_class k b q) = by_kind kind _ w g st en ps k refl
headed_brace {k = kind} {w = w} {g = g} st en ps (head_template k q) = by_kind kind _ w g st en ps k refl
headed_brace {k = kind} {w = w} {g = g} st en ps (head_short_arrow k z p n tk q) = by_kind kind _ w g st en ps k refl
headed_brace {k = kind} {w = w} {g = g} st en ps (head_arrow k z tk q) = by_kind kind _ w g st en ps k refl
headed_brace {k = kind} {w = w} {g = g} st en ps (head_new_with k tk q) = by_kind kind _ w g st en ps k refl
headed_brace {k = kind} {w = w} {g = g} st en ps (head_new_without k n tk q) = by_kind kind _ w g st en ps k refl
headed_brace {k = kind} {w = w} {g = g} st en ps (head_new_target k c tk q) = by_kind kind _ w g st en ps k refl
headed_brace {k = kind} {w = w} {g = g} st en ps (head_import_meta k c tk q) = by_kind kind _ w g st en ps k refl
headed_brace {k = kind} {w = w} {g = g} st en ps (head_import k tk q) = by_kind kind _ w g st en ps k refl
headed_brace {k = kind} {w = w} {g = g} st en ps (head_yield k tk q) = by_kind kind _ w g st en ps k refl
headed_brace {k = kind} {w = w} {g = g} st en ps (head_await k tk q) = by_kind kind _ w g st en ps k refl
headed_brace {k = kind} {w = w} {g = g} st en ps (head_word k p c tk q) = by_kind kind _ w g st en ps k refl
headed_brace {k = kind} {w = w} {g = g} st en ps (head_sign k p c tk q) = by_kind kind _ w g st en ps k refl

-- a name opens neither a group nor a brace
abbrev is_word_start : ExpressionStart → Bool
is_word_start with_brace = false
is_word_start with_parenthesis = false
is_word_start _ = true

abbrev are_word_starts : List (List String × ExpressionStart) → Bool
are_word_starts [] = true
are_word_starts (row ∷ rows) = is_word_start row.1 && are_word_starts rows

either_start : (b : Bool) (x y : ExpressionStart) → is_word_start x ≡ true → is_word_start y ≡ true → is_word_start (cond b x y) ≡ true
either_start true x y h k = h
either_start false x y h k = k

rows_start : (w : List ℕ) (rows : List (List String × ExpressionStart)) (other : ExpressionStart) → are_word_starts rows ≡ true → is_word_start other ≡ true → is_word_start (start_among w rows other) ≡ true
rows_start w [] other h k = k
rows_start w (row ∷ rows) other h k = either_start (among w row.0) row.1 (start_among w rows other) (and_parts _ _ h).0 (rows_start w rows other (and_parts _ _ h).1 k)

word_starts : (w : List ℕ) → is_word_start (expression_start_by IdentifierName w) ≡ true
word_starts w = rows_start w start_words (cond (is_reserved w) no_start with_name) refl (of (is_reserved w))
  where
    of : (b : Bool) → is_word_start (cond b no_start with_name) ≡ true
    of true = refl
    of false = refl

module _ (S : Type 0) (Next : S → Token → S → Type 0) (behind : S → Token) where
  -- along a spine all begin with a brace, or none
  grows_brace : {o : ℕ} {s0 e : S} {a : Role} {n : Tree} {P : List Pair} {b : Role} {m : Tree} {mid : S} {Q : List Pair} → on_spine a ≡ true → Grows S Next behind o s0 a n e P b m mid Q → begins_with_brace n ≡ begins_with_brace m
  unfolding spellings
  grows_brace on whole = refl
  grows_brace on (grow {c = expr y i f} {m = m} {l = node k w g st en qs} {ps = ps} h led pl parts d gs) =
      let v = way_of h in
      grows_brace on gs ∙ first_is k w g st en qs m ps (led_left (led_of y i f (made k v.listed) v.fit v.is led).led) parts
  grows_brace on (grow {c = chain_part f} {m = m} {l = node k w g st en qs} {ps = ps} h led pl parts d gs) =
      let v = way_of h in
      grows_brace on gs ∙ first_is k w g st en qs m ps (linked_left (linked_of f k v.listed v.is).linked) parts
  grows_brace on (grow {c = _} h led pl parts d gs) = absurd (false≢true (grows_on_spine S Next behind on gs))

module _ (S : Type 0) (Next : S → Token → S → Type 0) (behind : S → Token) (det : IsDetermined S Next behind) where
  cored_brace : {o : ℕ} {y : Rank} {i : Bool} {f : Start} {n : Tree} {s e : S} {P : List Pair} {x : ExpressionStart} → Cored S Next behind det o y i f n s e P x → (x ≡ with_parenthesis) ⊎ (begins_with_brace n ≡ is_brace_start x)
  cored_brace (in_group less p d q all) = inl refl
  cored_brace (in_way {st = st} {en = en} {ps = ps} tree headed lean pl d) = inr (ap begins_with_brace tree ∙ headed_brace st en ps headed)

  -- an expression begins with a brace just where its first token is one, but for a group
  pub begins_brace : {o : ℕ} {y : Rank} {i : Bool} {f : Start} {n : Tree} {s e m : S} {P : List Pair} {t : Token} → ReadBy S Next behind Goal.RegExp s t m → Spells ways S Next behind o (expr y i f) n s e P →
      (expression_start t ≡ with_parenthesis) ⊎ (begins_with_brace n ≡ is_brace_start (expression_start t))
  begins_brace {o} {y} {i} {f} {n} {s} {t = t} r d = let u = spine_of S Next behind d in of u.role (grows_on_spine S Next behind refl u.grows) u.core (grows_brace S Next behind refl u.grows)
    where
      of : {m : Tree} {e : S} {P : List Pair} (a : Role) → on_spine a ≡ true → Core S Next behind o a m s e P → begins_with_brace n ≡ begins_with_brace m → (expression_start t ≡ with_parenthesis) ⊎ (begins_with_brace n ≡ is_brace_start (expression_start t))
      of {m} (expr h j g) on c same = both (cored_brace (core_by S Next behind det r refl c))
        where
          both : (expression_start t ≡ with_parenthesis) ⊎ (begins_with_brace m ≡ is_brace_start (expression_start t)) → (expression_start t ≡ with_parenthesis) ⊎ (begins_with_brace n ≡ is_brace_start (expression_start t))
          both (inl group) = inl group
          both (inr brace) = inr (same ∙ brace)
      of (chain_part g) on c same = absurd (no_spine_core S Next behind det c)
      of _ on c same = absurd (false≢true on)

  -- what may be exported by default where no declaration is read
  pub default_spelled : {o : ℕ} {y : Rank} {i : Bool} {n : Tree} {s e : S} {P : List Pair} → ((w : List ℕ) (t : Token) (m : S) → Reads S Next behind IdentifierName w s t m → not (among w ("function" ∷ "class" ∷ [])) ≡ true) →
      ((t v : Token) (m k : S) → Reads S Next behind IdentifierName (codes "async") s t m → Reads S Next behind IdentifierName (codes "function") m v k → v.after_break ≡ false → ⊥) →
      Spells ways S Next behind o (expr y i Any) n s e P → Spells ways S Next behind o (expr y i (cond (begins_with_brace n) Any Statement)) n s e P
  default_spelled {o} {y} {i} {n} {s} {e} {P} word async d = of (begins_with_brace n) refl
    where
      of : (b : Bool) → begins_with_brace n ≡ b → Spells ways S Next behind o (expr y i (cond b Any Statement)) n s e P
      of true h = d
      of false h = start_moves S Next behind det (no_declaration (λ t m r. braceless t m r) word async) refl d
        where
          braceless : (t : Token) (m : S) → Reads S Next behind Punctuator (codes "{") s t m → ⊥
          braceless t m r =
              let al : IsTrue (allows Goal.RegExp t.class t.text) = subst (λ c. IsTrue (allows Goal.RegExp c t.text)) (sym r.class) (subst (λ c. IsTrue (allows Goal.RegExp Punctuator c)) (sym r.text) refl) in
              let op : expression_start t ≡ with_brace = opens t r.class r.text refl in
              told op (begins_brace (record { next = r.next; allowed = al }) d)
            where
              told : expression_start t ≡ with_brace → (expression_start t ≡ with_parenthesis) ⊎ (begins_with_brace n ≡ is_brace_start (expression_start t)) → ⊥
              told op (inl group) = let clash : with_brace ≡ with_parenthesis = sym op ∙ group in cc
              told op (inr brace) = false≢true (sym h ∙ brace ∙ ap is_brace_start op)

  -- and its first token is the word of none
  pub default_begins : {o : ℕ} {y : Rank} {i : Bool} {n : Tree} {s e m : S} {P : List Pair} {w : List ℕ} {t : Token} → Spells ways S Next behind o (expr y i (cond (begins_with_brace n) Any Statement)) n s e P → Reads S Next behind IdentifierName w s t m → not (among w ("function" ∷ "class" ∷ [])) ≡ true
  default_begins {o} {y} {i} {n} {s} {e} {m} {P} {w} {t} d r = of (begins_with_brace n) refl d
    where
      read : ReadBy S Next behind Goal.RegExp s t m
      read = record { next = r.next; allowed = det.free Goal.RegExp s t m r.next (ap is_free r.class) }

      named : expression_start t ≡ expression_start_by IdentifierName w
      named = ap (λ c. expression_start_by c t.text) r.class ∙ ap (expression_start_by IdentifierName) r.text

      no_brace_named : (expression_start t ≡ with_parenthesis) ⊎ (begins_with_brace n ≡ is_brace_start (expression_start t)) → begins_with_brace n ≡ true → ⊥
      no_brace_named (inl group) h = false≢true (sym (ap is_word_start (sym named ∙ group)) ∙ word_starts w)
      no_brace_named (inr brace) h = of_start (expression_start_by IdentifierName w) (word_starts w) (ap is_brace_start (sym named) ∙ sym brace ∙ h)
        where
          of_start : (x : ExpressionStart) → is_word_start x ≡ true → is_brace_start x ≡ true → ⊥
          of_start with_brace a b = false≢true a
          of_start _ a b = false≢true b

      of : (b : Bool) → begins_with_brace n ≡ b → Spells ways S Next behind o (expr y i (cond b Any Statement)) n s e P → not (among w ("function" ∷ "class" ∷ [])) ≡ true
      of true h d = absurd (no_brace_named (begins_brace read d) h)
      of false h d = none_among (among w ("function" ∷ "class" ∷ [])) refl
        where
          none_among : (b : Bool) → among w ("function" ∷ "class" ∷ []) ≡ b → not (among w ("function" ∷ "class" ∷ [])) ≡ true
          none_among false k = ap not k
          none_among true k = absurd (among_by (λ v. begins_statement (expression_start_by IdentifierName v) ≡ true → ⊥) w ("function" ∷ "class" ∷ []) k (λ e. false≢true e, (λ e. false≢true e, tt)) (ap begins_statement (sym named) ∙ expression_begins S Next behind det read d))

  -- nor are its first two
  pub default_no_async : {o : ℕ} {y : Rank} {i : Bool} {n : Tree} {s e m k : S} {P : List Pair} {t v : Token} → Apart S Next behind e → Spells ways S Next behind o (expr y i (cond (begins_with_brace n) Any Statement)) n s e P →
      Reads S Next behind IdentifierName (codes "async") s t m → Reads S Next behind IdentifierName (codes "function") m v k → v.after_break ≡ false → ⊥
  default_no_async {o} {y} {i} {n} {s} {e} {m} {k} {P} {t} {v} apart d a b line = of (begins_with_brace n) refl d
    where
      read : ReadBy S Next behind Goal.RegExp s t m
      read = record { next = a.next; allowed = det.free Goal.RegExp s t m a.next (ap is_free a.class) }

      named : expression_start t ≡ with_name
      named = opens t a.class a.text (identifier_opens (codes "async") async_free)

      told : (expression_start t ≡ with_parenthesis) ⊎ (begins_with_brace n ≡ is_brace_start (expression_start t)) → begins_with_brace n ≡ true → ⊥
      told (inl group) h = let clash : with_name ≡ with_parenthesis = sym named ∙ group in cc
      told (inr brace) h = false≢true (ap is_brace_start (sym named) ∙ sym brace ∙ h)

      of : (c : Bool) → begins_with_brace n ≡ c → Spells ways S Next behind o (expr y i (cond c Any Statement)) n s e P → ⊥
      of true h d = told (begins_brace read d) h
      of false h d = no_async_function S Next behind det apart d a b line
