-- The token with which what is given begins, and that its position takes it (ECMA-262 12.2 to 12.5, 14.1, 14.2, 14.6).
use Rattle.std.proofs.Common.{◌≡◌, ◌⊎◌, ℕ, ◌≤◌, Bool, true, false, List, ◌∷◌, [], refl, sym, ap, ◌∙◌, subst, arith, inl, inr}
use Prim.Native.String.{String}
use Rattle.std.specs.Prelude.{IsTrue, codes, cond, ◌&&◌}
use Rattle.std.proofs.lemmas.Bool.{false≢true, and_parts}
use Rattle.std.proofs.lemmas.Slice.Eq.{bytes_eq-Decides}
use Rattle.tokens.specs.declared.token.TokenClass.TheVariants.{IdentifierName, Punctuator}
use Rattle.tokens.specs.declared.token.Goal.TheVariants.{RegExp}
use Rattle.tokens.specs.Goals.{allows}
use Rattle.tree.specs.declared.kind.Kind.{Kind}
use Rattle.tree.specs.declared.kind.Kind.TheVariants.{AssignmentExpression, MetaProperty}
use Rattle.tree.specs.declared.kind.Flags.{Flags}
use Rattle.tree.specs.declared.kind.Pair.{Pair}
use Rattle.tree.specs.Tree.{Tree, node, Parts, part, bare_parts, kind_of, text_of, height}
use Rattle.language.specs.declared.Rank.{Rank}
use Rattle.language.specs.declared.Rank.TheVariants.{Assignment, Relational, Primary, Unary, Update, Call}
use Rattle.language.specs.declared.Start.{Start}
use Rattle.language.specs.declared.Start.TheVariants.{Any, NoBrace, Statement}
use Rattle.language.specs.declared.Language.{Language}
use Rattle.language.specs.declared.Language.TheVariants.{Base, Script, Module}
use Rattle.language.specs.Languages.{is_of_2022}
use Rattle.language.specs.Later.{has_later}
use Rattle.language.specs.FirstPart.{lead as lead_kind, others}
use Rattle.language.specs.Expressions.{lead_is}
use Rattle.language.specs.Vocabulary.{takes, is_keyword}
use Rattle.language.specs.Covers.{Reading, as_expression, as_pattern}
use Rattle.language.specs.Pieces.{Role, PieceOf, Piece, sign, term, tok, sub, word, pattern, name}
use Rattle.language.specs.Token.{Token}
use Rattle.language.specs.ExpressionStart.{ExpressionStart, with_bracket, with_brace, with_name, with_yield, with_private_name, no_start, expression_start}
use Rattle.language.specs.Promises.{ReadBy, is_free}
use Rattle.language.specs.Grammar.{ways, starts}
use Rattle.language.specs.Derivation.{Reads, Runs}
use Rattle.language.proofs.table.Begins.{retell}
use Rattle.language.proofs.climbing.OperatorNodes.{kind_bare}
use Rattle.language.proofs.list_loops.FirstPieces.{run_token, run_part}
use Rattle.language.proofs.table.TokenFirstWays.{Headed, head_identifier, head_literal, head_this, head_array, head_object, head_function, head_class, head_template, head_short_arrow, head_arrow, head_async, head_super_member, head_super_call, head_new_with, head_new_without, head_new_target, head_import_meta, head_import, head_yield, head_step, head_await, head_private, head_word, head_sign, head_array_pattern, head_object_pattern, opens, identifier_opens, async_free}
use Rattle.language.proofs.climbing.LeftmostParts.{Cored, in_group, in_way, core_of}
use Rattle.language.proofs.climbing.Leaves.{name_form, word_form, named_class}
use Rattle.language.proofs.table.Reaches.{is_loose, loose_of}
use Rattle.language.proofs.languages.BaseHeads.{begins_later, base_meta, cored_base}
use Rattle.language.proofs.climbing.FirstTurn.{Begun}
use Rattle.language.proofs.climbing.Callees.{Uncalled, member_new}
use Rattle.language.proofs.covers.PatternsByToken.{PatternCore, as_array, as_object, pattern_core}
use Rattle.language.proofs.climbing.Targets.{object_starts}
use Rattle.token_cursor.proofs.SeenTokens.{seen_determined}
use Rattle.parser_tables.specs.declared.expression_context.ExpressionContext.{ExpressionContext}
use Rattle.recursive_descent.specs.Completeness.{Wholly, NameEnds, AsyncCalled, Unasync, FirstAs, a_core, a_pattern, a_name, an_async_call}
use Rattle.parser_tables.specs.ExpressionStarts.{OpensNothing, start_in, stands_at, takes_brace, takes_function_or_class, MetaAhead}
use Rattle.recursive_descent.proofs.complete_expressions.Agreement.{read_here}
use Rattle.token_cursor.specs.Seen.{Sees}
use Rattle.token_cursor.specs.SourceText.{SourceText, SeenNext, behind_in}
use Rattle.recursive_descent.specs.Spelled.{SpellsIn, OfLanguage}

starts_open : (f : Start) (qs : List Piece) → IsTrue (starts f (sign "{" ∷ qs)) → takes_brace f ≡ true
starts_open Any qs h = refl
starts_open NoBrace qs h = cc
starts_open Statement qs h = cc

function_open : (f : Start) → IsTrue (starts f (term "function" ∷ [])) → takes_function_or_class f ≡ true
function_open Any h = refl
function_open NoBrace h = refl
function_open Statement h = absurd (false≢true h)

class_open : (f : Start) → IsTrue (starts f (term "class" ∷ [])) → takes_function_or_class f ≡ true
class_open Any h = refl
class_open NoBrace h = refl
class_open Statement h = absurd (false≢true h)

-- what begins so stands at the position in the language, or `import.meta` stands there
abbrev pub Stands : SourceText → Rank → Bool → Start → Token → ExpressionStart → Type 0
Stands text y i f s x = (stands_at y i f (start_in text.language x) ≡ true) ⊎ ((is_of_2022 text.language ≡ true) × MetaAhead text s)

-- the token with which something begins at a position, which takes it
pub record OpensHere (text : SourceText) (y : Rank) (i : Bool) (f : Start) (s : Token) : Type 0 where
  pub token : Token
  pub mid : Token
  pub read : ReadBy Token (SeenNext text) (behind_in text) RegExp s token mid
  pub stands : Stands text y i f s (expression_start token)

abbrev pub begins_some : ExpressionStart → Bool
begins_some no_start = false
begins_some _ = true

-- of a language of 2022, if it isn't the base profile
pub later_language : (l : Language) → (l ≡ Base → ⊥) → is_of_2022 l ≡ true
later_language Base h = absurd (h refl)
later_language Script h = refl
later_language Module h = refl

-- what the base profile doesn't have doesn't begin a node of it
start_same : (l : Language) (x : ExpressionStart) → (l ≡ Base → begins_later x ≡ false) → start_in l x ≡ x
start_same l with_yield h = by (is_of_2022 l) (later_language l (λ e. false≢true (sym (h e)))) where
  by : (b : Bool) → b ≡ true → cond b with_yield no_start ≡ with_yield
  by true e = refl
  by false e = cc
start_same l with_private_name h = by (is_of_2022 l) (later_language l (λ e. false≢true (sym (h e)))) where
  by : (b : Bool) → b ≡ true → cond b with_private_name no_start ≡ with_private_name
  by true e = refl
  by false e = cc
start_same l x h = refl

-- a word that a list of parts begins with
pub text_is : (rest : Parts) (z : String) (n : Tree) → lead_is (bare_parts (part n rest)) z ≡ true → text_of n ≡ codes z
text_is rest z (node k w g st en ps) h = (bytes_eq-Decides w (codes z)).0 h

no_keyword : (w : List ℕ) → w ≡ codes "import" → is_keyword w ≡ false
unfolding is_keyword
no_keyword w h = ap is_keyword h

-- what the whole takes its position does
pub wholly_takes : {y r : Rank} → Wholly y r → (z : Rank) → IsTrue (takes y z) → IsTrue (takes r z)
wholly_takes (inl e) z h = subst (λ k. IsTrue (takes k z)) e h
wholly_takes (inr e) z h = subst (λ k. IsTrue (takes k z)) (sym e.1) (member_new z (subst (λ k. IsTrue (takes k z)) e.0 h))

-- what begins with a bracket or a brace, and with a name
abbrev pub is_bracket : ExpressionStart → Bool
is_bracket with_bracket = true
is_bracket with_brace = true
is_bracket _ = false

abbrev pub is_named : ExpressionStart → Bool
is_named with_name = true
is_named _ = false

-- the leftmost part of an expression, as it is given
pub record CoreGiven (text : SourceText) (p : ExpressionContext) (o : ℕ) (t : Tree) (s m : Token) (Q : List Pair) (a : Reading) (h : Rank) : Type 0 where
  pub reading : a ≡ as_expression
  pub y : Rank
  pub n : Tree
  pub e : Token
  pub P : List Pair
  pub j : Bool
  pub whole : Wholly y p.rank
  pub begun : Begun Token (SeenNext text) (behind_in text) (seen_determined text) o s y p.has_in p.start n e P h j t m Q
  pub uncalled : Uncalled Token (SeenNext text) (behind_in text) (seen_determined text) h t m
  pub lone : kind_of t ≡ AssignmentExpression → Sees text Punctuator (codes "(") s
  pub unasync : Unasync text p t s m

module _ (text : SourceText) where
  -- the first two tokens of `import.meta`
  meta_ahead : {o : ℕ} {ps : Parts} {qs : List (PieceOf Role)} {s e : Token} {Q : List Pair} → (lead_is (bare_parts ps) "import" && lead_is (others (bare_parts ps)) "meta") ≡ true → qs ≡ sub word ∷ tok Punctuator (codes ".") ∷ sub word ∷ [] →
      Runs ways Token (SeenNext text) (behind_in text) o qs ps s e Q → MetaAhead text s
  meta_ahead {o} {s = s} c q d =
      let b = run_part Token (SeenNext text) (behind_in text) (retell Token (SeenNext text) (behind_in text) q d) in
      let one = word_form Token (SeenNext text) (behind_in text) (seen_determined text) b.spelled in
      let said = and_parts _ _ (ap (λ v. lead_is (bare_parts v) "import" && lead_is (others (bare_parts v)) "meta") (sym b.parts) ∙ c) in
      let word_is : one.text ≡ codes "import" = sym (ap text_of one.tree) ∙ text_is b.rest "import" b.item said.0 in
      let class_is : one.class ≡ IdentifierName = named_class one.class one.text one.is_word (no_keyword one.text word_is) in
      let dot = run_token Token (SeenNext text) (behind_in text) b.runs in
      record {
        mid = b.mid;
        import_word = read_here text (record { next = one.reads.next; class = one.reads.class ∙ class_is; text = one.reads.text ∙ word_is });
        dot = (dot.mid, read_here text dot.reads);
      }

  -- a node that begins with `import` as a meta property does is none of the base profile
  pub meta_later : {k : Kind} {w : List ℕ} {g : Flags} {st en : ℕ} {ps : Parts} {m : Tree} → OfLanguage text m → m ≡ node k w g st en ps → k ≡ MetaProperty → lead_is (bare_parts ps) "import" ≡ true → is_of_2022 text.language ≡ true
  meta_later {k} {w} {g} {st} {en} {ps} own tree kind lead =
      later_language text.language (λ b. base_meta {w = w} {g = g} {st = st} {en = en} {ps = ps} lead (record { none_later = ap has_later (sym (tree ∙ ap (λ k. node k w g st en ps) kind)) ∙ own.none_later b }))

  core_table : (y : Rank) (i : Bool) {o : ℕ} {h : Rank} {j : Bool} {f : Start} {m : Tree} {s e : Token} {Q : List Pair} {x : ExpressionStart} → ((z : Rank) → IsTrue (takes h z) → IsTrue (takes y z)) → (is_loose h ≡ true → j ≡ i) → OfLanguage text m →
      Cored Token (SeenNext text) (behind_in text) (seen_determined text) o h j f m s e Q x → (stands_at y i f x ≡ true) ⊎ ((is_of_2022 text.language ≡ true) × MetaAhead text s)
  core_table y i v inside own (in_group l p d q k) = inl refl
  core_table y i v inside own (in_way is (head_identifier k c q) lean pl d) = inl refl
  core_table y i v inside own (in_way is (head_literal k c q) lean pl d) = inl refl
  core_table y i v inside own (in_way is (head_this k q) lean pl d) = inl refl
  core_table y i v inside own (in_way is (head_array k q) lean pl d) = inl refl
  core_table y i v inside own (in_way is (head_template k q) lean pl d) = inl refl
  core_table y i v inside own (in_way is (head_short_arrow k z p n tk q) lean pl d) = inl refl
  core_table y i v inside own (in_way is (head_arrow k z tk q) lean pl d) = inl refl
  core_table y i v inside own (in_way is (head_async z b q) lean pl d) = inl refl
  core_table y i v inside own (in_way is (head_super_member k o sup tk q) lean pl d) = inl refl
  core_table y i v inside own (in_way is (head_super_call k o sup tk q) lean pl d) = inl refl
  core_table y i v inside own (in_way is (head_new_with k tk q) lean pl d) = inl refl
  core_table y i v inside own (in_way is (head_new_without k n tk q) lean pl d) = inl refl
  core_table y i v inside own (in_way is (head_new_target k c tk q) lean pl d) = inl refl
  core_table y i v inside own (in_way is (head_array_pattern k op e l tk q) lean pl d) = inl refl
  core_table y i {f = f} v inside own (in_way is (head_object k b q) lean pl d) = inl (starts_open f [] b)
  core_table y i {f = f} v inside own (in_way is (head_function k plain b q) lean pl d) = inl (function_open f b)
  core_table y i {f = f} v inside own (in_way is (head_class k b q) lean pl d) = inl (class_open f b)
  core_table y i v inside own (in_way is (head_import k tk q) lean pl d) = inl (v Call tk)
  core_table y i v inside own (in_way is (head_yield k tk q) lean pl d) = inl (v Assignment tk)
  core_table y i v inside own (in_way is (head_step k op ta fl tk q) lean pl d) = inl (v Update tk)
  core_table y i v inside own (in_way is (head_await k tk q) lean pl d) = inl (v Unary tk)
  core_table y i v inside own (in_way is (head_word k p w tk q) lean pl d) = inl (v Unary tk)
  core_table y i v inside own (in_way is (head_sign k p w tk q) lean pl d) = inl (v Unary tk)
  core_table y i {h = h} v inside own (in_way is (head_private k p w tk has_in q) lean pl d) = inl (both (takes y Relational) i (v Relational tk) (sym (inside (loose_of h Relational tk refl)) ∙ has_in))
    where
      both : (a b : Bool) → a ≡ true → b ≡ true → (a && b) ≡ true
      both true true e f = refl
      both true false e f = cc
      both false b e f = cc
  core_table y i {f = f} v inside own (in_way is (head_object_pattern k op e l tk q) lean pl d) =
      let a = run_part Token (SeenNext text) (behind_in text) (retell Token (SeenNext text) (behind_in text) q d) in
      inl (starts_open f [] (object_starts Token (SeenNext text) (behind_in text) a.spelled (sym (kind_bare a.item) ∙ sym (ap (λ v. lead_kind (bare_parts v)) a.parts) ∙ l)))
  core_table y i v inside own (in_way {ps = ps} is (head_import_meta k c tk q) lean pl d) = inr (meta_later own is k (and_parts (lead_is (bare_parts ps) "import") _ c).0, meta_ahead c q d)

  pub core_stands : (y : Rank) (i : Bool) {o : ℕ} {h : Rank} {j : Bool} {f : Start} {m : Tree} {s e : Token} {Q : List Pair} {x : ExpressionStart} → ((z : Rank) → IsTrue (takes h z) → IsTrue (takes y z)) → (is_loose h ≡ true → j ≡ i) → OfLanguage text m →
      Cored Token (SeenNext text) (behind_in text) (seen_determined text) o h j f m s e Q x → Stands text y i f s x
  core_stands y i {f = f} {s = s} {x = x} v inside own c = of (core_table y i v inside own c)
    where
      same : start_in text.language x ≡ x
      same = start_same text.language x (λ b. cored_base Token (SeenNext text) (behind_in text) (seen_determined text) c (record { none_later = own.none_later b }))

      of : (stands_at y i f x ≡ true) ⊎ ((is_of_2022 text.language ≡ true) × MetaAhead text s) → Stands text y i f s x
      of (inl h) = inl (ap (stands_at y i f) same ∙ h)
      of (inr h) = inr h

  headed_begins : {y : Rank} {i : Bool} {f : Start} {k : Kind} {w : List ℕ} {g : Flags} {ps : Parts} {qs : List (PieceOf Role)} {x : ExpressionStart} → Headed y i f k w g ps qs x → begins_some x ≡ true
  headed_begins (head_this k q) = refl
  headed_begins _ = refl

  pub core_begins : {o : ℕ} {h : Rank} {j : Bool} {f : Start} {m : Tree} {s e : Token} {Q : List Pair} {x : ExpressionStart} → Cored Token (SeenNext text) (behind_in text) (seen_determined text) o h j f m s e Q x → begins_some x ≡ true
  core_begins (in_group l p d q k) = refl
  core_begins (in_way is h lean pl d) = headed_begins h

  -- a sign that is read is what the goal for operands reads
  pub sign_read : {s t e : Token} {w : List ℕ} → Reads Token (SeenNext text) (behind_in text) Punctuator w s t e → IsTrue (allows RegExp Punctuator w) → ReadBy Token (SeenNext text) (behind_in text) RegExp s t e
  sign_read {t = t} h al = record { next = h.next; allowed = subst (λ c. IsTrue (allows RegExp c t.text)) (sym h.class) (subst (λ c. IsTrue (allows RegExp Punctuator c)) (sym h.text) al) }

  pattern_opens : {o : ℕ} {b : Bool} {y : Rank} {i : Bool} {f : Start} {n : Tree} {s e : Token} {P : List Pair} → SpellsIn text o (pattern b f) n s e P → (u : OpensHere text y i f s) × (is_bracket (expression_start u.token) ≡ true)
  pattern_opens {o} {b} {y} {i} {f} {n} {s} {e} {P} d = of (pattern_core Token (SeenNext text) (behind_in text) (seen_determined text) d)
    where
      of : PatternCore Token (SeenNext text) (behind_in text) (seen_determined text) o b f n s e P → (u : OpensHere text y i f s) × (is_bracket (expression_start u.token) ≡ true)
      of (as_array tree pl r) =
          let a = run_token Token (SeenNext text) (behind_in text) r in
          let op = opens a.sign a.reads.class a.reads.text refl in
          (record { token = a.sign; mid = a.mid; read = sign_read a.reads refl; stands = inl (ap (λ x. stands_at y i f (start_in text.language x)) op) }, ap is_bracket op)
      of (as_object tree begins pl r) =
          let a = run_token Token (SeenNext text) (behind_in text) r in
          let op = opens a.sign a.reads.class a.reads.text refl in
          (record { token = a.sign; mid = a.mid; read = sign_read a.reads refl; stands = inl (ap (λ x. stands_at y i f (start_in text.language x)) op ∙ starts_open f [] begins) }, ap is_bracket op)

  name_opens : {o : ℕ} {y : Rank} {i : Bool} {f : Start} {n : Tree} {s e : Token} {P : List Pair} → SpellsIn text o name n s e P → (u : OpensHere text y i f s) × (expression_start u.token ≡ with_name)
  name_opens {y = y} {i} {f} {s = s} {e = e} d =
      let a = name_form Token (SeenNext text) (behind_in text) (seen_determined text) d in
      let r = a.0.reads in
      let op = opens a.0.sign r.class r.text (identifier_opens a.0.text a.1) in
      (record { token = a.0.sign; mid = e; read = record { next = r.next; allowed = (seen_determined text).free RegExp s a.0.sign e r.next (ap is_free r.class) }; stands = inl (ap (λ x. stands_at y i f (start_in text.language x)) op) }, op)

  async_opens : {o : ℕ} {y : Rank} {i : Bool} {f : Start} {n : Tree} {s e : Token} {P : List Pair} → AsyncCalled text o n s e P → (u : OpensHere text y i f s) × (expression_start u.token ≡ with_name)
  async_opens {y = y} {i} {f} {s = s} c =
      let r = c.name in
      let op = opens (behind_in text c.word) r.class r.text (identifier_opens (codes "async") async_free) in
      (record { token = behind_in text c.word; mid = c.word; read = record { next = r.next; allowed = (seen_determined text).free RegExp s (behind_in text c.word) c.word r.next (ap is_free r.class) }; stands = inl (ap (λ x. stands_at y i f (start_in text.language x)) op) }, op)

  -- what is given begins so
  pub opens_here : {p : ExpressionContext} {o : ℕ} {t : Tree} {s m : Token} {Q : List Pair} {a : Reading} {h : Rank} → FirstAs text p o t s m Q a h → OfLanguage text t → OpensHere text p.rank p.has_in p.start s
  opens_here {p = p} {s = s} (a_core other same b closed plain unasync) own =
      let c = core_of Token (SeenNext text) (behind_in text) (seen_determined text) b.core in
      record {
        token = c.begins.token;
        mid = c.begins.mid;
        read = c.begins.read;
        stands = subst (Stands text p.rank p.has_in p.start s) (sym c.begins.opens) (core_stands p.rank p.has_in (λ z tk. wholly_takes same z (b.reached.taken z tk)) (λ h. (b.reached.same_in h).1) own c.cored);
      }
  opens_here (a_pattern d) own = (pattern_opens d).0
  opens_here (a_name d ends) own = (name_opens d).0
  opens_here {p = p} (an_async_call tk called fits d st gs) own = (async_opens called).0

  -- a token that the goal for operands reads is the one with which it begins
  pub same_opening : {y : Rank} {i : Bool} {f : Start} {s t x : Token} (u : OpensHere text y i f s) → ReadBy Token (SeenNext text) (behind_in text) RegExp s t x → expression_start u.token ≡ expression_start t
  same_opening {s = s} {t} {x} u r = ap expression_start ((seen_determined text).same RegExp s u.token t u.mid x u.read.next r.next u.read.allowed r.allowed).0

  -- where neither a bracket, a brace nor a name begins it, it is the leftmost part of an expression
  pub given_core : {p : ExpressionContext} {o : ℕ} {n : Tree} {s m t x : Token} {Q : List Pair} {a : Reading} {h : Rank} → ReadBy Token (SeenNext text) (behind_in text) RegExp s t x → is_bracket (expression_start t) ≡ false → is_named (expression_start t) ≡ false → FirstAs text p o n s m Q a h → CoreGiven text p o n s m Q a h
  given_core r no_bracket no_name (a_core other same b closed plain unasync) = record { reading = refl; y = _; n = _; e = _; P = _; j = _; whole = same; begun = b; uncalled = closed; lone = plain; unasync = unasync }
  given_core {p = p} {s = s} {t = t} {x = x} r no_bracket no_name (a_pattern d) = let u = pattern_opens {y = p.rank} {i = p.has_in} {f = p.start} d in absurd (false≢true (sym no_bracket ∙ ap is_bracket (sym (same_opening u.0 r)) ∙ u.1))
  given_core {p = p} r no_bracket no_name (a_name d ends) = let u = name_opens {y = p.rank} {i = p.has_in} {f = p.start} d in absurd (false≢true (sym no_name ∙ ap is_named (sym (same_opening u.0 r) ∙ u.1)))
  given_core {p = p} r no_bracket no_name (an_async_call tk called fits d st gs) = let u = async_opens {y = p.rank} {i = p.has_in} {f = p.start} called in absurd (false≢true (sym no_name ∙ ap is_named (sym (same_opening u.0 r) ∙ u.1)))

-- a tree has a height
pub has_height : (n : Tree) → 1 ≤ height n
has_height (node k w g s e ps) = omega arith

-- a name that is an element of a pattern, as it is given
pub record NameGiven (text : SourceText) (p : ExpressionContext) (o : ℕ) (t : Tree) (s m : Token) (Q : List Pair) (a : Reading) (h : Rank) : Type 0 where
  pub reading : a ≡ as_pattern true
  pub rank : h ≡ Primary
  pub spelled : SpellsIn text o name t s m Q
  pub ends : NameEnds text p m

-- where neither a bracket nor a brace begins it, and no call of `async` is read at once
pub given_named : (text : SourceText) {p : ExpressionContext} {o : ℕ} {n : Tree} {s m t x : Token} {Q : List Pair} {a : Reading} {h : Rank} → ReadBy Token (SeenNext text) (behind_in text) RegExp s t x → is_bracket (expression_start t) ≡ false → (AsyncCalled text o n s m Q → ⊥) → FirstAs text p o n s m Q a h → CoreGiven text p o n s m Q a h ⊎ NameGiven text p o n s m Q a h
given_named text r no_bracket uncalled (a_core other same b closed plain unasync) = inl (record { reading = refl; y = _; n = _; e = _; P = _; j = _; whole = same; begun = b; uncalled = closed; lone = plain; unasync = unasync })
given_named text {p = p} r no_bracket uncalled (a_pattern d) = let u = pattern_opens text {y = p.rank} {i = p.has_in} {f = p.start} d in absurd (false≢true (sym no_bracket ∙ ap is_bracket (sym (same_opening text u.0 r)) ∙ u.1))
given_named text r no_bracket uncalled (a_name d ends) = inr (record { reading = refl; rank = refl; spelled = d; ends = ends })
given_named text r no_bracket uncalled (an_async_call tk called fits d st gs) = absurd (uncalled called)

-- what is first in a text is first in an equal one
pub first_in : {text other : SourceText} {p : ExpressionContext} {o : ℕ} {n : Tree} {s m : Token} {Q : List Pair} {a : Reading} {h : Rank} → text ≡ other → FirstAs text p o n s m Q a h → FirstAs other p o n s m Q a h
first_in {p = p} {o} {n} {s} {m} {Q} {a} {h} e g = subst (λ x. FirstAs x p o n s m Q a h) e g

-- where something else begins it, no name does
pub no_name : (text : SourceText) {A : Type 0} {o : ℕ} {n : Tree} {s m t x : Token} {Q : List Pair} → ReadBy Token (SeenNext text) (behind_in text) RegExp s t x → is_named (expression_start t) ≡ false → SpellsIn text o name n s m Q → A
no_name text r other d = let u = name_opens text {y = Primary} {i = true} {f = Any} d in absurd (false≢true (sym other ∙ ap is_named (sym (same_opening text u.0 r) ∙ u.1)))

-- nor is `async` called
pub no_async_name : (text : SourceText) {A : Type 0} {o : ℕ} {n : Tree} {s m t x : Token} {Q : List Pair} → ReadBy Token (SeenNext text) (behind_in text) RegExp s t x → is_named (expression_start t) ≡ false → AsyncCalled text o n s m Q → A
no_async_name text r other c = let u = async_opens text {y = Primary} {i = true} {f = Any} c in absurd (false≢true (sym other ∙ ap is_named (sym (same_opening text u.0 r)) ∙ ap is_named u.1))

-- where the position begins with nothing, nothing is given
pub begins_nothing : (text : SourceText) {A : Type 0} {p : ExpressionContext} {s : Token} → OpensNothing text p s → OpensHere text p.rank p.has_in p.start s → A
begins_nothing text {A} {p} {s} none u = of u.stands
  where
    of : Stands text p.rank p.has_in p.start s (expression_start u.token) → A
    of (inl h) = absurd (false≢true (sym (none u.token u.mid u.read).0 ∙ h))
    of (inr h) = absurd ((none u.token u.mid u.read).1 h.0 h.1)
