-- A derivation at a text's own places is one of a reading of the text.
use Rattle.std.proofs.Common.{◌≡◌, ℕ, true, false, not, List, [], ◌∷◌, ◌++◌, refl, sym, ap, ◌∙◌, subst}
use Rattle.std.specs.Prelude.{IsTrue, map}
use Rattle.std.specs.Str.{IsUtf8, IsCharBoundary}
use Rattle.std.proofs.lemmas.Bool.{false≢true}
use Rattle.tokens.specs.declared.token.TokenClass.{TokenClass}
use Rattle.tokens.specs.declared.token.TokenClass.TheVariants.{IdentifierName, Punctuator, NumericLiteral, StringLiteral, Template, RegularExpressionLiteral, PrivateName, Keyword, End}
use Rattle.tokens.specs.Alphabet.{is_empty}
use Rattle.tokens.specs.Lexical.{is_token}
use Rattle.tokens.specs.Tokens.{LexicalToken, IsTokenAt, IsReading, last, more, is_end}
use Rattle.tokens.specs.Reading.{behind, any_goal}
use Rattle.tokens.specs.Reading as Reading
use Rattle.tokens.specs.declared.token.Goal.{Goal}
use Rattle.tokens.proofs.Classes.{token_may}
use Rattle.tree.specs.declared.kind.Kind.{Kind}
use Rattle.tree.specs.declared.kind.Flags.{Flags}
use Rattle.tree.specs.declared.kind.Pair.{Pair}
use Rattle.tree.specs.Tree.{Tree, Parts, bare}
use Rattle.language.specs.declared.Language.{Language}
use Rattle.language.specs.declared.Rank.TheVariants.{Expression}
use Rattle.language.specs.declared.Start.TheVariants.{Any}
use Rattle.language.specs.Pieces.{Role, script, Piece, PieceOf, Spelling, tok, lay, feed, open_parameters, close_parameters, sub, absent, settle_piece}
use Rattle.language.specs.Statements.{prologue, module_prologue}
use Rattle.language.specs.Token.{Token, as_read}
use Rattle.language.specs.Grammar.{ways}
use Rattle.language.specs.Forms.{Production, form, pieces_of}
use Rattle.language.specs.Chosen.{Chosen}
use Rattle.language.specs.Chosen as chosen
use Rattle.language.specs.Places.{NextIn, next_in}
use Rattle.language.specs.Cursor as Cursor
use Rattle.language.specs.Languages.{seen_in, seen_next, beginning_in}
use Rattle.language.specs.Derivation.{Among, Reads, Spells, direct, Runs, done, step, opened, closed, within, missing, token}
use Rattle.language.specs.Claims.{max_open}
use Rattle.language.proofs.table.ViewIsComplete.{way_of}
use Rattle.language.proofs.table.EveryWay.{every_way}
use Rattle.language.proofs.table.Begins.{retell, goes_to}
use Rattle.language.proofs.texts.Frame.{Carries, Spells-to}
use Rattle.language.proofs.texts.Readings.{past_token, IsRead, over, ahead}
use Rattle.reading_laws.specs.Laws.{NextSeen, seen_behind, DerivationsAreReadings, DerivesByReadings, AcceptsByReadings}
use Rattle.reading_laws.proofs.HashbangLines.{first_is_place}
use Rattle.reading_laws.proofs.SeenClasses.{same_in}
use Rattle.reading_laws.proofs.Peeks.{NextAny}
use Rattle.reading_laws.proofs.TailTable.{is_template_tail, tails_fit, fit_settled, script_fits, module_fits}
use Rattle.reading_laws.proofs.Walk.{no_tail_first, ReadOn, at_last, and_more, reads_on, placed_on, ran_on}

-- the end of the text is behind everything
nothing_behind : (class : TokenClass) (word rest : List ℕ) → is_end class ≡ true → IsTrue (is_token class word rest) → rest ≡ []
nothing_behind End word rest e h = empty rest (token_may End word rest h)
  where
    empty : (rest : List ℕ) → IsTrue (is_empty rest) → rest ≡ []
    empty [] h = refl
    empty (c ∷ cs) h = absurd (false≢true h)
nothing_behind IdentifierName word rest e h = absurd (false≢true e)
nothing_behind Punctuator word rest e h = absurd (false≢true e)
nothing_behind NumericLiteral word rest e h = absurd (false≢true e)
nothing_behind StringLiteral word rest e h = absurd (false≢true e)
nothing_behind Template word rest e h = absurd (false≢true e)
nothing_behind RegularExpressionLiteral word rest e h = absurd (false≢true e)
nothing_behind PrivateName word rest e h = absurd (false≢true e)
nothing_behind Keyword word rest e h = absurd (false≢true e)

-- places that are read one behind the other are a reading
record ReadingFrom (text : List ℕ) (s : Token) (ts : List Token) : Type 0 where
  tokens : List LexicalToken
  reading : IsReading s.stop (behind text s.stop) tokens
  is : ts ≡ map as_read tokens

record Lexed (text : List ℕ) (s t : Token) : Type 0 where
  lexical : LexicalToken
  is : t ≡ as_read lexical
  goal : Goal
  read : Reading.Reads text goal s.stop lexical

lexed : (text : List ℕ) {s t e : Token} → NextIn text any_goal s t e → Lexed text s t
lexed text (next_in {t = k} goal any x) = record { lexical = k; is = refl; goal = goal; read = x }

reading_from : (text : List ℕ) (language : Language) {s : Token} {ts : List Token} → ReadOn text language s ts → ReadingFrom text s ts
reading_from text language {s} (at_last n e) =
    let u = lexed text n in
    let ends : is_end u.lexical.class ≡ true = sym (ap (λ z. is_end z.class) u.is) ∙ e in
    record {
      tokens = u.lexical ∷ [];
      reading = last u.goal (subst (λ z. IsTokenAt u.goal s.stop (behind text s.stop) u.lexical z) (nothing_behind u.lexical.class u.read.word (behind text u.lexical.stop) ends u.read.longest) u.read) ends;
      is = ap (λ z. z ∷ []) u.is;
    }
reading_from text language {s} (and_more n e d) =
    let u = lexed text n in
    let v = reading_from text language d in
    record {
      tokens = u.lexical ∷ v.tokens;
      reading = more u.goal u.read (ap not (sym (ap (λ z. is_end z.class) u.is) ∙ e)) (subst (λ z. IsReading z.stop (behind text z.stop) v.tokens) u.is v.reading);
      is = (λ i. u.is i ∷ v.is i);
    }

-- pieces that end in a token
module _ (S : Type 0) (Next : S → Token → S → Type 0) (behind : S → Token) where
  record Parted (o : ℕ) (xs : List (PieceOf Role)) (c : TokenClass) (w : List ℕ) (ps : Parts) (s e : S) (P : List Pair) : Type 0 where
    mid : S
    sign : Token
    runs : Runs ways S Next behind o xs ps s mid P
    reads : Reads S Next behind c w mid sign e

  parted : (xs : List (PieceOf Role)) {o : ℕ} {c : TokenClass} {w : List ℕ} {ps : Parts} {s e : S} {P : List Pair} → Runs ways S Next behind o (xs ++ tok c w ∷ []) ps s e P → Parted o xs c w ps s e P
  parted [] (step (token r) done) = record { mid = _; sign = _; runs = done; reads = r }
  parted (q ∷ xs) (step p d) = let u = parted xs d in record { mid = u.mid; sign = u.sign; runs = step p u.runs; reads = u.reads }
  parted (open_parameters ∷ xs) (opened r d) = let u = parted xs d in record { mid = u.mid; sign = u.sign; runs = opened r u.runs; reads = u.reads }
  parted (close_parameters ∷ xs) (closed r d) = let u = parted xs d in record { mid = u.mid; sign = u.sign; runs = closed r u.runs; reads = u.reads }
  parted (sub a ∷ xs) (within p d) = let u = parted xs d in record { mid = u.mid; sign = u.sign; runs = within p u.runs; reads = u.reads }
  parted (absent ∷ xs) (missing d) = let u = parted xs d in record { mid = u.mid; sign = u.sign; runs = missing u.runs; reads = u.reads }

  joined : {o : ℕ} {xs : List (PieceOf Role)} {c : TokenClass} {w : List ℕ} {ps : Parts} {s m e : S} {t : Token} {P : List Pair} → Runs ways S Next behind o xs ps s m P → Reads S Next behind c w m t e → Runs ways S Next behind o (xs ++ tok c w ∷ []) ps s e P
  joined done r = step (token r) done
  joined (step p d) r = step p (joined d r)
  joined (opened p d) r = opened p (joined d r)
  joined (closed p d) r = closed p (joined d r)
  joined (within p d) r = within p (joined d r)
  joined (missing d) r = missing (joined d r)

split_end : (xs : List Piece) → goes_to Expression true Any (xs ++ tok End [] ∷ []) ≡ goes_to Expression true Any xs ++ tok End [] ∷ []
split_end [] = refl
split_end (q ∷ xs) = ap (λ z. settle_piece Expression true Any q ∷ z) (split_end xs)

-- the pieces of a Program: items, then the end of the text
record IsItems (qs : List (PieceOf Role)) : Type 0 where
  items : List Piece
  fits : tails_fit false false items ≡ true
  is : qs ≡ goes_to Expression true Any items ++ tok End [] ∷ []

program_items : {w : List ℕ} {g : Flags} {ps : Parts} {k : Kind} {p : Production} (qs : List (PieceOf Role)) → Chosen w g ps script k p → qs ≡ goes_to Expression true Any (pieces_of (form p).items w g ps) → IsItems qs
program_items {w} {g} {ps} qs (chosen.whole_script h) e = record { items = prologue false true [] (lay feed ∷ []) ps; fits = script_fits w g ps; is = e ∙ split_end (prologue false true [] (lay feed ∷ []) ps) }
program_items {w} {g} {ps} qs (chosen.whole_module h) e = record { items = module_prologue true ps; fits = module_fits w g ps; is = e ∙ split_end (module_prologue true ps) }
program_items qs (chosen.of_statement s c) e = elim s [ ]
program_items qs (chosen.of_declaration s c) e = elim s [ ]

items_of : (n : Tree) {qs : List (PieceOf Role)} → Among qs (ways script n) → IsItems qs
items_of n {qs} h =
    let v = way_of h in
    let u = every_way script (bare n) v.listed in
    program_items qs u.chosen (v.is ∙ ap (λ (x : Spelling). goes_to Expression true Any x.pieces) u.is)

module _ (text : List ℕ) (language : Language) where
  abbrev After : Token → Token → Token → Type 0
  After = NextAny text language

  ended : {s t e : Token} → Reads Token After (seen_in language) End [] s t e → ReadOn text language s (e ∷ [])
  ended r = of r.next (ap is_end r.class)
    where
      of : {s t e : Token} → After s t e → is_end t.class ≡ true → ReadOn text language s (e ∷ [])
      of (seen_next (next_in {t = k} goal any x)) e = at_last (next_in goal any x) (sym (same_in language is_end refl k.class (as_read k).text) ∙ e)

  end_no_tail : {s t e : Token} → Reads Token After (seen_in language) End [] s t e → no_tail_first (e ∷ []) ≡ true
  end_no_tail r = of r.next (λ i. is_template_tail (r.class i) (r.text i))
    where
      of : {s t e : Token} → After s t e → is_template_tail t.class t.text ≡ false → no_tail_first (e ∷ []) ≡ true
      of (seen_next (next_in {t = k} goal any x)) h = ap not (sym (same_in language (λ c. is_template_tail c (as_read k).text) refl k.class (as_read k).text) ∙ h)

  listed : (o : ℕ) (n : Tree) (P : List Pair) (first final : Token) → Spells ways Token After (seen_in language) o script n first final P → (ts : List Token) × ReadOn text language first ts × Spells ways (List Token) (NextSeen language) (seen_behind language) o script n (first ∷ ts) (final ∷ []) P
  listed o n P first final (direct qs h p d) =
      let k = items_of n h in
      let u = parted Token After (seen_in language) (goes_to Expression true Any k.items) (retell Token After (seen_in language) k.is d) in
      let r = ran_on text language false false (final ∷ []) (fit_settled Expression true Any false false k.items k.fits) (ended u.reads) (λ e. end_no_tail u.reads) u.runs in
      let all = joined (List Token) (NextSeen language) (seen_behind language) r.runs (reads_on text language [] u.reads) in
      (r.tokens, r.read, direct qs h (placed_on text language r.tokens [] r.read (λ t m a f x y e. absurd (false≢true e)) p) (retell (List Token) (NextSeen language) (seen_behind language) (sym k.is) all))

pub derivations_listed : DerivationsAreReadings
derivations_listed language o text n P d =
    let first = beginning_in language text in
    let v = listed text language o n P first d.1 d.2 in
    let k = reading_from text language v.1 in
    record {
      of_language = d.0;
      tokens = k.tokens;
      final = d.1;
      reading = k.reading;
      spelled = subst (λ z. Spells ways (List Token) (NextSeen language) (seen_behind language) o script n (first ∷ z) (d.1 ∷ []) P) k.is v.2;
    }

-- where the tokens ahead are a reading of the text, the next of them is read there, as the language sees it
module _ (text : List ℕ) (u : IsUtf8 text) (language : Language) where
  read_at : (goal : Goal) (b : Token) (t : LexicalToken) (rest : List ℕ) → IsCharBoundary text b.stop → IsTokenAt goal b.stop (behind text b.stop) t rest → NextAny text language b (seen_in language (as_read t)) (as_read t)
  read_at goal b t rest p r = seen_next (next_in goal refl (subst (λ x. IsTokenAt goal b.stop (behind text b.stop) t x) (past_token text goal b.stop t rest u p r).0 r))

  next_read : {s e : List Token} {t : Token} → IsRead text s → NextSeen language s t e → NextAny text language (Cursor.behind s) t (Cursor.behind e)
  next_read over (seen_next h) = elim h [ ]
  next_read (ahead {b = b} p (last {token = k} goal r h)) (seen_next Cursor.next) = read_at goal b k [] p r
  next_read (ahead {b = b} p (more {rest = rest} {token = k} goal r h d)) (seen_next Cursor.next) = read_at goal b k rest p r

  stays_read : {s e : List Token} {t : Token} → IsRead text s → NextSeen language s t e → IsRead text e
  stays_read over (seen_next h) = elim h [ ]
  stays_read (ahead p (last goal r h)) (seen_next Cursor.next) = over
  stays_read (ahead {b = b} p (more {rest = rest} {token = k} {tokens = ts} goal r h d)) (seen_next Cursor.next) =
      let q = past_token text goal b.stop k rest u p r in ahead q.1 (subst (λ x. IsReading k.stop x ts) q.0 d)

  carried : Carries (List Token) (NextSeen language) (seen_behind language) Token (NextAny text language) (seen_in language) Cursor.behind (IsRead text)
  carried = record {
    next = λ s t e g n. next_read g n;
    stays = λ s t e g n. stays_read g n;
    before = λ s t e n. refl;
    after = λ s t e n. refl;
  }

pub same_derivations : DerivesByReadings
same_derivations language o text n P u = (
  λ d. derivations_listed language o text n P d,
  λ r. (r.of_language, r.final, Spells-to ways (List Token) (NextSeen language) (seen_behind language) Token (NextAny text language) (seen_in language) Cursor.behind (IsRead text) (carried text u language) (ahead (first_is_place language text u) r.reading) r.spelled),
)

pub same_accepted : AcceptsByReadings
same_accepted language text n P u = (
  λ a. record { low = a.derived.0; reading = (same_derivations language max_open text n P u).0 a.derived.1; lawful = a.lawful },
  λ a. record { source = u; derived = (a.low, (same_derivations language max_open text n P u).1 a.reading); lawful = a.lawful },
)
