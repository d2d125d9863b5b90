-- The members of a class, as a loop reads them, with `;` in any number between them (ECMA-262 14.6).
use Rattle.language.proofs.climbing.Leaves.{private_form}
use Rattle.language.proofs.table.ViewIsComplete.{cases}
use Rattle.language.specs.Expressions.{assignment, async_word, method_words, method_of, value_form}
use Rattle.language.specs.FirstPart.{lead}
use Rattle.tree.specs.declared.kind.Form.TheVariants.{Init, Get, Set, Method, Generator, Async, AsyncGenerator}
use Rattle.tree.specs.declared.kind.Form.{Form}
use Rattle.tree.specs.declared.kind.Flags.{Flags}
use Rattle.tree.specs.declared.kind.Kind.TheVariants.{MethodDefinition, PropertyDefinition, StaticBlock}
use Rattle.tree.specs.declared.kind.Kind.{Kind}
use Rattle.std.proofs.Common.{◌≡◌, ℕ, Bool, true, false, List, [], ◌∷◌, ◌++◌, refl, sym, ap, ◌∙◌, subst, append_assoc, ◌⊎◌, inl, inr, cond}
use Rattle.std.specs.Prelude.{IsTrue, codes}
use Rattle.std.proofs.lemmas.Bool.{false≢true}
use Rattle.tokens.specs.declared.token.TokenClass.TheVariants.{IdentifierName, Punctuator, PrivateName}
use Rattle.tokens.specs.declared.token.Goal.TheVariants.{Div}
use Rattle.tokens.specs.Goals.{allows}
use Rattle.tree.specs.declared.kind.Pair.{Pair}
use Rattle.tree.specs.Tree.{Tree, Parts, none, part, gap, bare_parts, kind_of}
use Rattle.language.specs.declared.Rank.TheVariants.{Expression}
use Rattle.language.specs.declared.Start.TheVariants.{Any}
use Rattle.language.specs.Vocabulary.{is_private}
use Rattle.language.specs.Pieces.{Role, member, Piece, PieceOf, many, lay, line, shallower, sub, sign, never, tok, put, key, private_name, method, term, sp, nothing, Spelling}
use Rattle.language.specs.Statements.{member_lines, class_keyed, static_word, members, class_members}
use Rattle.language.specs.Token.{Token}
use Rattle.language.specs.Promises.{IsDetermined, is_free}
use Rattle.language.specs.Grammar.{ways}
use Rattle.language.specs.Derivation.{Reads, Spells, Runs, step, within, no_more, laid, Among}
use Rattle.language.proofs.table.Begins.{goes_to, retell, div_allows}
use Rattle.language.proofs.list_loops.FirstPieces.{run_laid, run_never, run_the_part, run_part}
use Rattle.language.proofs.table.StatementWays.{behind_brace, pieces_of_one}
use Rattle.language.proofs.table.PropertyWays.{MemberForm, LaterMember, member_view}
use Rattle.language.proofs.table.PropertyNameWays.{is_key_class, FirstOf, first_bracket, first_get, first_set, first_key, member_first, word_read, sign_read, key_read}
use Rattle.language.proofs.list_loops.StatementLists.{closing_brace}
use Rattle.language.proofs.list_loops.PiecesSoFar.{Sofar, turned, run_step}

-- members with `;` before each and behind the last, and what closes the list
abbrev pub plain_members : List (PieceOf Role) → Parts → List (PieceOf Role)
plain_members zs none = many (codes ";") ∷ zs
plain_members zs (part n ps) = many (codes ";") ∷ sub member ∷ plain_members zs ps
plain_members zs (gap ps) = never ∷ []

no_name : {c : Rattle.tokens.specs.declared.token.TokenClass.TokenClass} → c ≡ Punctuator → c ≡ IdentifierName → ⊥
no_name {c} p q = clash (sym p ∙ q)
  where
    clash : Punctuator ≡ IdentifierName → ⊥
    clash e = cc

-- what the pieces of a member may begin with
data BeginsMember : List Piece → Type 0 where
  by_word : {w : List ℕ} {qs : List Piece} → BeginsMember (tok IdentifierName w ∷ qs)
  by_bracket : {qs : List Piece} → BeginsMember (sign "[" ∷ qs)
  by_star : {qs : List Piece} → BeginsMember (sign "*" ∷ qs)
  by_key : {qs : List Piece} → BeginsMember (put key ∷ qs)
  by_private : {qs : List Piece} → BeginsMember (put private_name ∷ qs)
  by_nothing : {qs : List Piece} → BeginsMember (never ∷ qs)

-- with a key, or with these pieces before it
keyed_begins : (before : List Piece) (c : Bool) (k : Kind) (after : List Piece) → BeginsMember (before ++ sign "[" ∷ assignment ∷ sign "]" ∷ after) → ((p : Bool) → BeginsMember (before ++ put (cond p private_name key) ∷ after)) → {x : Spelling} → Among x (class_keyed before c k after) → BeginsMember x.pieces
keyed_begins before true k after a b h = subst BeginsMember (sym (pieces_of_one h)) a
keyed_begins before false k after a b h = subst BeginsMember (sym (pieces_of_one h)) (b (is_private k))

alone_begins : (c : Bool) (k : Kind) (after : List Piece) {x : Spelling} → Among x (class_keyed [] c k after) → BeginsMember x.pieces
alone_begins c k after h = keyed_begins [] c k after by_bracket of h
  where
    of : (p : Bool) → BeginsMember (put (cond p private_name key) ∷ after)
    of true = by_private
    of false = by_key

static_begins : (ws : List Piece) (c : Bool) (k : Kind) (after : List Piece) {x : Spelling} → Among x (class_keyed ((term "static" ∷ sp ∷ []) ++ ws) c k after) → BeginsMember x.pieces
static_begins ws c k after h = keyed_begins ((term "static" ∷ sp ∷ []) ++ ws) c k after by_word (λ p. by_word) h

method_begins : (s c : Bool) (f y : Form) (k : Kind) {x : Spelling} → Among x (members (static_word s) c f y k) → BeginsMember x.pieces
method_begins true c Get y k h = static_begins (term "get" ∷ sp ∷ []) c k (put (method Get) ∷ []) h
method_begins true c Set y k h = static_begins (term "set" ∷ sp ∷ []) c k (put (method Set) ∷ []) h
method_begins true c _ y k h = static_begins (method_words y) c k (put (method (method_of y)) ∷ []) h
method_begins false c Get y k h = keyed_begins (term "get" ∷ sp ∷ []) c k (put (method Get) ∷ []) by_word (λ p. by_word) h
method_begins false c Set y k h = keyed_begins (term "set" ∷ sp ∷ []) c k (put (method Set) ∷ []) by_word (λ p. by_word) h
method_begins false c _ y k h = of y h
  where
    of : (y : Form) {x : Spelling} → Among x (class_keyed (method_words y) c k (put (method (method_of y)) ∷ [])) → BeginsMember x.pieces
    of Init h = alone_begins c k (put (method Method) ∷ []) h
    of Generator h = keyed_begins (sign "*" ∷ []) c k (put (method Generator) ∷ []) by_star (λ p. by_star) h
    of Async h = keyed_begins async_word c k (put (method Async) ∷ []) by_word (λ p. by_word) h
    of AsyncGenerator h = keyed_begins (async_word ++ sign "*" ∷ []) c k (put (method AsyncGenerator) ∷ []) by_word (λ p. by_word) h
    of z h = keyed_begins nothing c k (put (method (method_of z)) ∷ []) by_nothing (λ p. by_nothing) h

field_begins : (s c : Bool) (k : Kind) (after : List Piece) {x : Spelling} → Among x (class_keyed (static_word s) c k after) → BeginsMember x.pieces
field_begins true c k after h = static_begins [] c k after h
field_begins false c k after h = alone_begins c k after h

member_begins : (k : Kind) (g : Flags) (ps : Parts) {x : Spelling} → Among x (class_members k g ps) → BeginsMember x.pieces
member_begins MethodDefinition g ps h = cases {ys = []} _ h (λ e l. method_begins g.is_static g.computed g.form (value_form ps) (lead ps) l) (λ e l. elim l [ ])
member_begins PropertyDefinition g (part n (gap none)) h = field_begins g.is_static g.computed (kind_of n) _ h
member_begins PropertyDefinition g (part n (part v none)) h = field_begins g.is_static g.computed (kind_of n) _ h
member_begins PropertyDefinition g _ h = elim h [ ]
member_begins StaticBlock g ps h = subst BeginsMember (sym (pieces_of_one h)) by_word
member_begins _ g ps h = elim h [ ]

no_private : Punctuator ≡ PrivateName → ⊥
no_private e = cc

module _ (S : Type 0) (Next : S → Token → S → Type 0) (behind : S → Token) (det : IsDetermined S Next behind) where
  -- a member begins with no sign but `[` and `*`
  pub no_member_begins : {w : List ℕ} {s k : S} {t : Token} → IsTrue (allows Div Punctuator w) → (w ≡ codes "[" → ⊥) → (w ≡ codes "*" → ⊥) → Reads S Next behind Punctuator w s t k → {o : ℕ} {n : Tree} {e : S} {P : List Pair} → Spells ways S Next behind o member n s e P → ⊥
  no_member_begins {w} {s} {k} {t} al other star h {o} {n} {e} {P} d = of_view (member_view S Next behind det d)
    where
      read : IsTrue (allows Div t.class t.text)
      read = subst (λ c. IsTrue (allows Div c t.text)) (sym h.class) (subst (λ v. IsTrue (allows Div Punctuator v)) (sym h.text) al)

      by_first : {c : Bool} {f : Rattle.tree.specs.declared.kind.Form.Form} → FirstOf t c f → ⊥
      by_first (first_bracket a p q) = other (sym h.text ∙ q)
      by_first (first_get p q) = no_name h.class p
      by_first (first_set p q) = no_name h.class p
      by_first (first_key a p) = false≢true (sym (ap is_key_class h.class) ∙ p)

      of : {c : Bool} {f : Rattle.tree.specs.declared.kind.Form.Form} {b : Bool} → ((b ≡ true) × (t.class ≡ IdentifierName) × (t.text ≡ codes "static")) ⊎ ((b ≡ false) × FirstOf t c f) → ⊥
      of (inl u) = no_name h.class u.1
      of (inr u) = by_first u.1

      by_pieces : {qs : List Piece} {ps : Parts} → BeginsMember qs → Runs ways S Next behind o (goes_to Expression true Any qs) ps s e P → ⊥
      by_pieces (by_word {w = v}) r = no_name h.class (word_read S Next behind det (record { next = h.next; allowed = read }) (div_allows true v) r).0
      by_pieces by_bracket r = other (sym h.text ∙ (sign_read S Next behind det (record { next = h.next; allowed = read }) refl r).1)
      by_pieces by_star r = star (sym h.text ∙ (sign_read S Next behind det (record { next = h.next; allowed = read }) refl r).1)
      by_pieces by_key r = false≢true (sym (ap is_key_class h.class) ∙ key_read S Next behind det (record { next = h.next; allowed = read }) r)
      by_pieces by_private r =
          let p = run_part S Next behind r in
          let u = private_form S Next behind det p.spelled in
          no_private (sym h.class ∙ ap (λ (x : Token). x.class) (det.same Div s t u.sign k _ h.next u.reads.next read (det.free Div s u.sign _ u.reads.next (ap is_free u.reads.class))).0 ∙ u.reads.class)
      by_pieces by_nothing r = absurd (run_never S Next behind r)

      of_view : MemberForm S Next behind det o n s e P ⊎ LaterMember S Next behind det o n s e P → ⊥
      of_view (inl u) = of (member_first S Next behind det (record { next = h.next; allowed = read }) u)
      of_view (inr u) = by_pieces (member_begins u.kind u.flags (bare_parts u.parts) u.listed) u.runs

  -- layout aside, the lines of the table are these
  from_members : {o : ℕ} (zs : List Piece) (ps : Parts) {s e : S} {P : List Pair} → Runs ways S Next behind o (goes_to Expression true Any (many (codes ";") ∷ member_lines (bare_parts ps) ++ zs)) ps s e P → Runs ways S Next behind o (plain_members (goes_to Expression true Any zs) ps) ps s e P
  from_members zs none d = d
  from_members zs (gap ps) d = let u = run_step S Next behind det no_more d in absurd (run_never S Next behind u.runs)
  from_members {o} zs (part n ps) {s} {e} d =
      let u = run_step S Next behind det no_more d in
      let v = run_the_part S Next behind (run_laid S Next behind u.runs) in
      subst (λ x. Runs ways S Next behind o (plain_members (goes_to Expression true Any zs) (part n ps)) (part n ps) s e x) (sym v.pairs) (step u.one (within v.spelled (from_members zs ps v.runs)))

  to_members : {o : ℕ} (zs : List Piece) (ps : Parts) {s e : S} {P : List Pair} → Runs ways S Next behind o (plain_members (goes_to Expression true Any zs) ps) ps s e P → Runs ways S Next behind o (goes_to Expression true Any (many (codes ";") ∷ member_lines (bare_parts ps) ++ zs)) ps s e P
  to_members zs none d = d
  to_members zs (gap ps) d = absurd (run_never S Next behind d)
  to_members {o} zs (part n ps) {s} {e} d =
      let u = run_step S Next behind det no_more d in
      let v = run_the_part S Next behind u.runs in
      subst (λ x. Runs ways S Next behind o (goes_to Expression true Any (many (codes ";") ∷ member_lines (bare_parts (part n ps)) ++ zs)) (part n ps) s e x) (sym v.pairs) (step u.one (step laid (within v.spelled (to_members zs ps v.runs))))

  -- another end over which the same runs
  other_end : {o : ℕ} (xs ys : List (PieceOf Role)) → ((s e : S) (P : List Pair) → Runs ways S Next behind o xs none s e P → Runs ways S Next behind o ys none s e P) → (ps : Parts) {s e : S} {P : List Pair} →
      Runs ways S Next behind o (plain_members xs ps) ps s e P → Runs ways S Next behind o (plain_members ys ps) ps s e P
  other_end xs ys f none {s} {e} {P} d = let u = run_step S Next behind det no_more d in step u.one (f u.mid e P u.runs)
  other_end xs ys f (gap ps) d = absurd (run_never S Next behind d)
  other_end {o} xs ys f (part n ps) {s} {e} d =
      let u = run_step S Next behind det no_more d in
      let v = run_the_part S Next behind u.runs in
      subst (λ x. Runs ways S Next behind o (plain_members ys (part n ps)) (part n ps) s e x) (sym v.pairs) (step u.one (within v.spelled (other_end xs ys f ps v.runs)))

  abbrev spaced : List Piece
  spaced = lay shallower ∷ lay line ∷ sign "}" ∷ []

  from_body : {o : ℕ} (ps : Parts) {s e : S} {P : List Pair} → Runs ways S Next behind o (goes_to Expression true Any (behind_brace (bare_parts ps) (many (codes ";") ∷ member_lines (bare_parts ps)))) ps s e P → Runs ways S Next behind o (plain_members closing_brace ps) ps s e P
  from_body none d = d
  from_body (gap ps) d = let u = run_step S Next behind det no_more (run_laid S Next behind d) in absurd (run_never S Next behind u.runs)
  from_body (part n ps) d =
      let u = retell S Next behind (ap (λ x. goes_to Expression true Any (many (codes ";") ∷ x)) (append_assoc (member_lines (bare_parts (part n ps))) (lay shallower ∷ lay line ∷ []) (sign "}" ∷ []))) (run_laid S Next behind d) in
      other_end (goes_to Expression true Any spaced) closing_brace (λ s e P r. run_laid S Next behind (run_laid S Next behind r)) (part n ps) (from_members spaced (part n ps) u)

  to_body : {o : ℕ} (ps : Parts) {s e : S} {P : List Pair} → Runs ways S Next behind o (plain_members closing_brace ps) ps s e P → Runs ways S Next behind o (goes_to Expression true Any (behind_brace (bare_parts ps) (many (codes ";") ∷ member_lines (bare_parts ps)))) ps s e P
  to_body none d = d
  to_body (gap ps) d = absurd (run_never S Next behind d)
  to_body (part n ps) d =
      let v = to_members spaced (part n ps) (other_end closing_brace (goes_to Expression true Any spaced) (λ s e P r. step laid (step laid r)) (part n ps) d) in
      step laid (retell S Next behind (sym (ap (λ x. goes_to Expression true Any (many (codes ";") ∷ x)) (append_assoc (member_lines (bare_parts (part n ps))) (lay shallower ∷ lay line ∷ []) (sign "}" ∷ [])))) v)

  module _ {Fine : Parts → S → Type 0} {o : ℕ} {mid : S} where
    -- behind `{`
    pub members_begin : Sofar S Next behind det Fine o (λ ps. goes_to Expression true Any (behind_brace (bare_parts ps) (many (codes ";") ∷ member_lines (bare_parts ps)))) mid (plain_members closing_brace) mid (λ ps. ps) []
    members_begin = turned S Next behind det (λ o' ps e P d. from_body ps d) (λ o' ps e P d. to_body ps d)
