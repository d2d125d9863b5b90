-- Each tree that a text derives is in order, and its identifiers stand at their names.
use Rattle.std.proofs.Common.{◌≡◌, ℕ, ◌+◌, ◌-◌, ◌≤◌, ◌<◌, Bool, true, false, cond, List, [], ◌∷◌, length, length-append, refl, sym, ap, subst, ◌∙◌, arith}
use Rattle.std.specs.Prelude.{if◌then◌else◌, ◌&&◌, ◌==◌, codes, encode_utf8_all, slice_range}
use Rattle.std.specs.Str.{IsUtf8}
use Rattle.std.proofs.lemmas.Bool.{and_parts, false≢true, true≢false}
use Rattle.source_text.specs.Source.{IsPlace}
use Rattle.tokens.specs.declared.token.TokenClass.{TokenClass}
use Rattle.tokens.specs.declared.token.TokenClass.TheVariants.{IdentifierName, Template, Keyword, End}
use Rattle.tokens.specs.Alphabet.{carriage_return, line_feed}
use Rattle.tokens.specs.Templates.{raw_value, raw_after, line_end_turned}
use Rattle.tokens.proofs.Bounds.{token_slice, token_goes_on}
use Rattle.tree.specs.declared.kind.Kind.TheVariants.{Identifier, Program}
use Rattle.tree.specs.declared.kind.Pair.{Pair}
use Rattle.tree.specs.Tree.{Tree, node, plain, Parts, none, part, kind_of, flags_of, text_of, start_of, stop_of, parts_of}
use Rattle.language.specs.Pieces.{Role, shorthand_key, template_element, script, PieceOf, tok}
use Rattle.language.specs.Token.{Token, table_text}
use Rattle.language.specs.declared.Language.{Language}
use Rattle.language.specs.Places.{next_in}
use Rattle.language.specs.Vocabulary.{is_keyword}
use Rattle.language.specs.Languages.{is_of_2022, class_in, seen_next, DerivesIn}
use Rattle.language.specs.Grammar.{ways, spellings}
use Rattle.language.specs.Derivation.{Among, Reads, Step, token, with_mark, without_mark, one_more, no_more, seen, same_line, left_bare, explicit, implicit, laid, Placed, placed, direct, grouped, reserved_key, reserved_word, done, step, opened, closed, within, missing}
use Rattle.language.proofs.table.Begins.{retell}
use Rattle.language.proofs.covers.CoverKeys.{echo_form}
use Rattle.language.proofs.table.ShorthandPieces.{is_echo}
use Rattle.language.proofs.table.NeatTable.{is_plain}
use Rattle.language.proofs.list_loops.FirstPieces.{run_none, run_token}
use Rattle.language.proofs.list_loops.TemplateElements.{chunk_text, chunk_told}
use Rattle.language.proofs.texts.StartPlaces.{starting_place}
use Rattle.language.proofs.table.TokenWords.{read_place}
use Rattle.language.proofs.table.ViewIsComplete.{way_of}
use Rattle.location_laws.specs.InOrder.{is_shorthand, is_name}
use Rattle.location_laws.proofs.Ways.{plain_parts, Shape, regular, short_name, short_default, way_token, way_shape, name_way}
use Rattle.location_laws.proofs.OrderLemmas.{Ordered, PartsOrdered, KeyInValue}
use Rattle.location_laws.proofs.Forward.{NextSeen, seen_as, SpellsSeen, RunsSeen, determined, next_on, same_start, only_name, runs_on, EndsFrom, spelled_ends, run_ends}

-- a raw value is no longer than what it is that of
raw_short : (r : Bool) (cs : List ℕ) → length (raw_after r cs) ≤ length cs
raw_short r [] = omega arith
raw_short r (c ∷ cs) =
    let a = length-append (line_end_turned r c) (raw_after (c == carriage_return) cs) in
    let b = raw_short (c == carriage_return) cs in
    let d = turned (r && (c == line_feed)) (c == carriage_return) in
    omega (arith, a, b, d)
  where
    turned : (x y : Bool) → length (if x then [] else if y then line_feed ∷ [] else c ∷ []) ≤ 1
    turned true y = omega arith
    turned false true = omega arith
    turned false false = omega arith

-- a node at its position stands from its first token's start to its last one's stop
abbrev is_chunk : Role → Bool
is_chunk (template_element b l) = true
is_chunk _ = false

-- an identifier's text is what stands in its span
abbrev pub AtName : List ℕ → List ℕ → ℕ → ℕ → Type 0
AtName text w s e = (s < e) × (slice_range text s e ≡ w)

pub name_wide : (text w : List ℕ) (s e : ℕ) → AtName text w s e → s < e
name_wide text w s e h = h.0

-- a name, or a word that the language reserves
abbrev is_word : TokenClass → Bool
is_word IdentifierName = true
is_word Keyword = true
is_word _ = false

-- a token that is seen as one has its own text in the table, and isn't the end
word_text : (language : Language) (c : TokenClass) (v w : List ℕ) → is_word (class_in language c v) ≡ true → (c ≡ End → ⊥) × (table_text c w ≡ w)
word_text language IdentifierName v w h = ((λ e. cc), refl)
word_text language Keyword v w h = ((λ e. cc), refl)
word_text language _ v w h = absurd (false≢true h)

seen_template : (language : Language) (c : TokenClass) (w : List ℕ) → class_in language c w ≡ Template → c ≡ Template
seen_template language IdentifierName w h = of (is_of_2022 language && is_keyword w) h
  where
    of : (b : Bool) → cond b Keyword IdentifierName ≡ Template → IdentifierName ≡ Template
    of true h = cc
    of false h = cc
seen_template language Template w h = refl
seen_template language _ w h = h

module _ (language : Language) (text : List ℕ) (u : IsUtf8 text) where
  abbrev Next : Token → Token → Token → Type 0
  Next = NextSeen language text

  abbrev behind : Token → Token
  behind = seen_as language text

  -- each token that is read at the place starts there or behind it
  abbrev StartsFrom : ℕ → Token → Type 0
  StartsFrom f s = (t m : Token) → Next s t m → f ≤ t.start

  -- a token of these two classes stands at its text
  word_span : {w : List ℕ} {s t e : Token} (c : TokenClass) → is_word c ≡ true → Reads Token Next behind c w s t e → IsPlace text s.stop → AtName text w t.start t.stop
  word_span {w} {s} c k r p = of r.next r.class r.text
    where
      of : {t e : Token} → Next s t e → t.class ≡ c → t.text ≡ w → AtName text w t.start t.stop
      of (seen_next (next_in {t = t} goal any h)) class is =
          let v = word_text language t.class (table_text t.class t.text) t.text (ap is_word class ∙ k) in (
            token_goes_on text goal s.stop t u p h v.0,
            sym (token_slice text goal s.stop t u p h) ∙ sym v.1 ∙ is,
          )

  name_span : {w : List ℕ} {s t e : Token} → Reads Token Next behind IdentifierName w s t e → IsPlace text s.stop → AtName text w t.start t.stop
  name_span r p = word_span IdentifierName refl r p

  -- a template's token is no shorter than its text in the table
  template_long : {w : List ℕ} {s t e : Token} → Reads Token Next behind Template w s t e → t.start + length w ≤ t.stop
  template_long {w} {s} r = of r.next r.class r.text
    where
      of : {t e : Token} → Next s t e → t.class ≡ Template → t.text ≡ w → t.start + length w ≤ t.stop
      of (seen_next (next_in {t = t} goal any h)) class is =
          let same : raw_value t.text ≡ w = sym (ap (λ c. table_text c t.text) (seen_template language t.class (table_text t.class t.text) class)) ∙ is in
          let long : length w ≡ length (raw_value t.text) = ap length (sym same) in
          let short : length (raw_value t.text) ≤ length t.text = raw_short false t.text in
          let word : length t.text ≡ length (encode_utf8_all h.word) = ap length h.text in
          let stop = h.stop in
          omega (arith, long, short, word, stop)

  goes_to : {s t e : Token} → IsPlace text s.stop → Next s t e → IsPlace text e.stop
  goes_to p (seen_next n) = read_place u p n

  read_starts : {f : ℕ} {s t e : Token} → Next s t e → StartsFrom f s → StartsFrom f e
  read_starts {s = s} {t = t} {e = e} n h t' m' n' =
      let a = h t e n in
      let b = next_on language text n in
      let c = next_on language text n' in
      omega (arith, a, b, c)

  -- behind a stop
  stop_starts : {f : ℕ} (e : Token) → f ≤ e.stop → StartsFrom f e
  stop_starts e h t m n = let a = next_on language text n in omega (arith, a, h)

  record Passed (f : ℕ) (e : Token) : Type 0 where
    ok : IsPlace text e.stop
    starts : StartsFrom f e

  step_passed : {f : ℕ} {q : PieceOf Role} {s e : Token} → Step Token Next behind q s e → IsPlace text s.stop → StartsFrom f s → Passed f e
  step_passed (token r) p h = record { ok = goes_to p r.next; starts = read_starts r.next h }
  step_passed (with_mark r) p h = record { ok = goes_to p r.next; starts = read_starts r.next h }
  step_passed without_mark p h = record { ok = p; starts = h }
  step_passed (one_more r d) p h = step_passed d (goes_to p r.next) (read_starts r.next h)
  step_passed no_more p h = record { ok = p; starts = h }
  step_passed (seen r) p h = record { ok = p; starts = h }
  step_passed (same_line n k) p h = record { ok = p; starts = h }
  step_passed (left_bare n k) p h = record { ok = p; starts = h }
  step_passed (explicit r) p h = record { ok = goes_to p r.next; starts = read_starts r.next h }
  step_passed (implicit n k) p h = record { ok = p; starts = h }
  step_passed laid p h = record { ok = p; starts = h }

  step_plain : {q : PieceOf Role} {s m : Token} (qs : List (PieceOf Role)) → Step Token Next behind q s m → plain_parts (q ∷ qs) ≡ plain_parts qs
  step_plain qs (token r) = refl
  step_plain qs (with_mark r) = refl
  step_plain qs without_mark = refl
  step_plain qs (one_more r d) = refl
  step_plain qs no_more = refl
  step_plain qs (seen r) = refl
  step_plain qs (same_line n k) = refl
  step_plain qs (left_bare n k) = refl
  step_plain qs (explicit r) = refl
  step_plain qs (implicit n k) = refl
  step_plain qs laid = refl

  -- the node stands from the first place on, at its start or behind it, to the last place
  record Told (f : ℕ) (n : Tree) (e : Token) : Type 0 where
    ok : IsPlace text e.stop
    from : f ≤ start_of n
    upto : stop_of n ≤ e.stop
    ordered : Ordered (AtName text) n

  -- a plain node's place
  record Spanned (n : Tree) (s e : Token) : Type 0 where
    sign : Token
    mid : Token
    next : Next s sign mid
    start : sign.start ≡ start_of n
    stop : e.stop ≡ stop_of n

  spanned : (a : Role) {n : Tree} {s e : Token} → is_plain a ≡ true → is_chunk a ≡ false → Placed Token Next behind a n s e → Spanned n s e
  spanned script p c pl = absurd (false≢true p)
  spanned shorthand_key p c pl = absurd (false≢true p)
  spanned (template_element b l) p c pl = absurd (true≢false c)
  spanned _ p c (placed {t = t} {m = m} nx h) = record { sign = t; mid = m; next = nx; start = ap (λ (x : ℕ × ℕ). x.0) h; stop = ap (λ (x : ℕ × ℕ). x.1) h }

  -- what stands in a node, with these parts
  record Inside (n : Tree) (ps : Parts) (e : Token) : Type 0 where
    ok : IsPlace text e.stop
    long : is_shorthand (kind_of n) (flags_of n) ≡ false → PartsOrdered (AtName text) (start_of n) (stop_of n) ps
    short : is_shorthand (kind_of n) (flags_of n) ≡ true → ((flags_of n).computed ≡ false) × KeyInValue (AtName text) (start_of n) (stop_of n) ps

  node_ordered : (n : Tree) {e : Token} → (kind_of n ≡ Identifier → AtName text (text_of n) (start_of n) (stop_of n) × (parts_of n ≡ none)) → start_of n ≤ stop_of n → Inside n (parts_of n) e → Ordered (AtName text) n
  node_ordered (node k w g s t ps) i h x = (i, h, x.short, x.long)

  -- an identifier stands at its name
  ident_at : (a : Role) (n : Tree) {o : ℕ} {qs : List (PieceOf Role)} {s e : Token} {P : List Pair} → is_echo a ≡ false → Among qs (ways a n) → Spanned n s e → RunsSeen language text o qs (parts_of n) s e P → IsPlace text s.stop →
      kind_of n ≡ Identifier → AtName text (text_of n) (start_of n) (stop_of n) × (parts_of n ≡ none)
  ident_at a (node k w g st en ps) {qs = qs} {s = s} {e = e} ne h sp d p i =
      let is : qs ≡ tok IdentifierName w ∷ [] = name_way a w g st en ps ne (subst (λ z. Among qs (ways a (node z w g st en ps))) i h) in
      let r = run_token Token Next behind (retell Token Next behind is d) in
      let z = run_none Token Next behind r.runs in
      let start : r.sign.start ≡ st = same_start language text r.reads.next sp.next ∙ sp.start in
      let stop : r.sign.stop ≡ en = sym (next_on language text r.reads.next).2 ∙ ap (λ (x : Token). x.stop) z.place ∙ sp.stop in
      (subst (λ y. AtName text w st y) stop (subst (λ x. AtName text w x r.sign.stop) start (name_span r.reads p)), z.parts)

  -- a template's part
  chunk_in_order : {b l : Bool} {o : ℕ} {n : Tree} {f : ℕ} {s e : Token} {P : List Pair} → SpellsSeen language text o (template_element b l) n s e P → IsPlace text s.stop → StartsFrom f s → Told f n e
  chunk_in_order {b} {l} {f = f} {s = s} {e = e} d p k =
      let c = chunk_told Token Next behind (determined language text) d in
      let long = template_long c.reads in
      let size = delimited b l c.text in
      let last = (next_on language text c.reads.next).2 in
      let from = k c.sign e c.reads.next in
      let upto = least l e.stop in
      let inner = spread l c.sign.start e.stop (length (chunk_text b l c.text)) (omega (arith, long, last)) size in
      record {
        ok = goes_to p c.reads.next;
        from = subst (λ m. f ≤ start_of m) (sym c.tree) (omega (arith, from));
        upto = subst (λ m. stop_of m ≤ e.stop) (sym c.tree) upto;
        ordered = subst (Ordered (AtName text)) (sym c.tree) ((λ i. absurd (cc)), inner, (λ i. absurd (false≢true i)), (λ i. inner));
      }
    where
      least : (l : Bool) (m : ℕ) → m - cond l 1 2 ≤ m
      least true m = omega arith
      least false m = omega arith

      delimited : (b l : Bool) (w : List ℕ) → 1 + cond l 1 2 ≤ length (chunk_text b l w)
      delimited true true w = let a = length-append w (codes "`") in omega (arith, a)
      delimited true false w = let a = length-append w (codes "${") in omega (arith, a)
      delimited false true w = let a = length-append w (codes "`") in omega (arith, a)
      delimited false false w = let a = length-append w (codes "${") in omega (arith, a)

      spread : (l : Bool) (a m k : ℕ) → a + k ≤ m → 1 + cond l 1 2 ≤ k → a + 1 ≤ m - cond l 1 2
      spread true a m k x y = omega (arith, x, y)
      spread false a m k x y = omega (arith, x, y)

  plain_no_echo : (a : Role) → is_plain a ≡ true → is_echo a ≡ false
  plain_no_echo shorthand_key h = absurd (false≢true h)
  plain_no_echo _ h = refl

  name_spanned : {o : ℕ} {n : Tree} {s e : Token} {P : List Pair} → SpellsSeen language text o Role.name n s e P → Spanned n s e
  name_spanned (direct qs h pl d) = spanned Role.name refl refl pl

  default_spanned : {o : ℕ} {n : Tree} {s e : Token} {P : List Pair} → SpellsSeen language text o (Role.element true) n s e P → Spanned n s e
  default_spanned (direct qs h pl d) = spanned (Role.element true) refl refl pl

  -- a shorthand property's key, and its value from the same place on
  key_and_value : (n : Tree) {o o' : ℕ} {a : Role} {k v : Tree} {s m e : Token} {P Q : List Pair} → is_echo a ≡ false → IsPlace text s.stop → ((t x : Token) → Next s t x → t.start ≡ start_of n) → e.stop ≡ stop_of n →
      SpellsSeen language text o shorthand_key k s m P → SpellsSeen language text o' a v m e Q → Spanned v m e → Ordered (AtName text) v → KeyInValue (AtName text) (start_of n) (stop_of n) (part k (part v none))
  key_and_value n {k = k} {v = v} {s = s} {m = m} {e = e} ne p first last pk pv sp ov =
      let x = echo_form Token Next behind (determined language text) pk in
      let span = name_span x.reads p in
      let start = first x.sign x.mid x.reads.next in
      let ends : x.sign.stop ≤ e.stop = spelled_ends language text pv ne x.sign.stop (subst (EndsFrom language text x.sign.stop) x.place (λ t y nx. (let q = ap (λ (z : Token). z.stop) (only_name language text x.reads nx) in omega (arith, q)))) in
      let wide = (next_on language text x.reads.next).1 in
      let value : sp.sign.start ≡ start_of n = first sp.sign sp.mid (subst (λ z. Next z sp.sign sp.mid) (sym x.place) sp.next) in (
        subst (λ z. is_name z ≡ true) (sym x.tree) refl,
        subst (Ordered (AtName text)) (sym x.tree) ((λ i. (span, refl)), wide, (λ i. absurd (false≢true i)), (λ i. wide)),
        ap start_of x.tree ∙ start,
        subst (λ z. z ≤ stop_of n) (sym (ap stop_of x.tree)) (omega (arith, ends, last)),
        ov,
        sym sp.start ∙ value,
        sym sp.stop ∙ last,
      )

  -- a shorthand key reads nothing
  key_place : {o : ℕ} {k : Tree} {s m : Token} {P : List Pair} → SpellsSeen language text o shorthand_key k s m P → IsPlace text s.stop → IsPlace text m.stop
  key_place pk p = subst (λ z. IsPlace text z.stop) (echo_form Token Next behind (determined language text) pk).place p

  key_starts : {o c : ℕ} {k : Tree} {s m : Token} {P : List Pair} → SpellsSeen language text o shorthand_key k s m P → ((t x : Token) → Next s t x → t.start ≡ c) → StartsFrom c m
  key_starts {c = c} pk first = subst (StartsFrom c) (echo_form Token Next behind (determined language text) pk).place (λ t x nx. (let q = first t x nx in omega (arith, q)))

  -- a word that the language reserves, as a name
  word_told : {n : Tree} {w : List ℕ} {f : ℕ} {s t e : Token} → Reads Token Next behind Keyword w s t e → n ≡ node Identifier w plain t.start e.stop none → IsPlace text s.stop → StartsFrom f s → Told f n e
  word_told {n} {w} {f} {s} {t} {e} r q p k =
      let on = next_on language text r.next in
      let wide : t.start ≤ e.stop = omega (arith, on) in
      let span : AtName text w t.start e.stop = subst (AtName text w t.start) (sym on.2) (word_span Keyword refl r p) in
      record {
        ok = goes_to p r.next;
        from = subst (λ m. f ≤ start_of m) (sym q) (k t e r.next);
        upto = subst (λ m. stop_of m ≤ e.stop) (sym q) (omega arith);
        ordered = subst (Ordered (AtName text)) (sym q) ((λ i. (span, refl)), wide, (λ i. absurd (false≢true i)), (λ i. wide));
      }

  -- plain parts stand in order between places round them
  abbrev RunsTold : List (PieceOf Role) → Parts → Token → Token → Type 0
  RunsTold qs ps s e = plain_parts qs ≡ true → IsPlace text s.stop → (f b : ℕ) → f ≤ b → e.stop ≤ b → StartsFrom f s → IsPlace text e.stop × PartsOrdered (AtName text) f b ps

  mutual
    spelled_told : {o : ℕ} {a : Role} {n : Tree} {s e : Token} {P : List Pair} → SpellsSeen language text o a n s e P → is_plain a ≡ true → IsPlace text s.stop → (f : ℕ) → StartsFrom f s → Told f n e
    spelled_told {a = template_element b l} (direct qs h pl d) pp p f k = chunk_in_order (direct qs h pl d) p k
    spelled_told {a = a} {n = n} {s = s} {e = e} (direct qs h pl d) pp p f k =
        let sp = spanned a pp refl pl in
        let ne = plain_no_echo a pp in
        let first : (t x : Token) → Next s t x → t.start ≡ start_of n = λ t x nx. same_start language text nx sp.next ∙ sp.start in
        let wide : sp.sign.start ≤ e.stop = run_ends language text d (way_token a n ne h) sp.sign.start (λ t x nx. (let q = same_start language text nx sp.next in let r = (next_on language text nx).1 in omega (arith, q, r))) in
        let start = sp.start in
        let stop = sp.stop in
        let from = k sp.sign sp.mid sp.next in
        let inner = in_shape (way_shape a n ne h) d p first (omega (arith, wide, start, stop)) stop (λ c r f b x y z. runs_told d c r f b x y z) in
        record { ok = inner.ok; from = omega (arith, from, start); upto = omega (arith, stop); ordered = node_ordered n (ident_at a n ne h sp d p) (omega (arith, wide, start, stop)) inner }
    spelled_told (reserved_key r b q) pp p f k = word_told r q p k
    spelled_told (reserved_word r b q) pp p f k = word_told r q p k
    spelled_told {n = n} (grouped x d y) pp p f k =
        let v = spelled_told d refl (goes_to p x.next) f (read_starts x.next k) in
        let z = next_on language text y.next in
        let upto = v.upto in
        record { ok = goes_to v.ok y.next; from = v.from; upto = omega (arith, upto, z); ordered = v.ordered }

    in_shape : {o : ℕ} {n : Tree} {qs : List (PieceOf Role)} {ps : Parts} {s e : Token} {P : List Pair} → Shape n qs → RunsSeen language text o qs ps s e P → IsPlace text s.stop → ((t x : Token) → Next s t x → t.start ≡ start_of n) → start_of n ≤ stop_of n → e.stop ≡ stop_of n → RunsTold qs ps s e →
        Inside n ps e
    in_shape {n = n} (regular i pp) d p first wide last told =
        let v = told pp p (start_of n) (stop_of n) wide (omega (arith, last)) (λ t x nx. (let q = first t x nx in omega (arith, q))) in
        record { ok = v.0; long = λ j. v.1; short = λ j. absurd (false≢true (sym i ∙ j)) }
    in_shape {n = n} (short_name i) (within pk (within pv done)) p first wide last told =
        let v = spelled_told pv refl (key_place pk p) (start_of n) (key_starts pk first) in
        record { ok = v.ok; long = λ j. absurd (true≢false (sym i.0 ∙ j)); short = λ j. (i.1, key_and_value n refl p first last pk pv (name_spanned pv) v.ordered) }
    in_shape (short_name i) (step q d) p first wide last told = elim q [ ]
    in_shape (short_name i) (within pk (step q d)) p first wide last told = elim q [ ]
    in_shape {n = n} (short_default i) (within pk (within pv done)) p first wide last told =
        let v = spelled_told pv refl (key_place pk p) (start_of n) (key_starts pk first) in
        record { ok = v.ok; long = λ j. absurd (true≢false (sym i.0 ∙ j)); short = λ j. (i.1, key_and_value n refl p first last pk pv (default_spanned pv) v.ordered) }
    in_shape (short_default i) (step q d) p first wide last told = elim q [ ]
    in_shape (short_default i) (within pk (step q d)) p first wide last told = elim q [ ]

    runs_told : {o : ℕ} {qs : List (PieceOf Role)} {ps : Parts} {s e : Token} {P : List Pair} → RunsSeen language text o qs ps s e P → RunsTold qs ps s e
    runs_told done pp p f b x y k = (p, x)
    runs_told (step {qs = qs} q d) pp p f b x y k = let v = step_passed q p k in runs_told d (sym (step_plain qs q) ∙ pp) v.ok f b x y v.starts
    runs_told (opened q d) pp p f b x y k = runs_told d pp (goes_to p q.next) f b x y (read_starts q.next k)
    runs_told (closed q d) pp p f b x y k = runs_told d pp (goes_to p q.next) f b x y (read_starts q.next k)
    runs_told (within {n = n} {m = m} q d) pp p f b x y k =
        let c = and_parts _ _ pp in
        let v = spelled_told q c.0 p f k in
        let upto = v.upto in
        let on = runs_on language text d in
        let w = runs_told d c.1 v.ok (stop_of n) b (omega (arith, upto, on, y)) y (stop_starts m upto) in
        (w.0, (v.from, v.ordered, w.1))
    runs_told (missing d) pp p f b x y k = runs_told d pp p f b x y k

  script_ordered : {o : ℕ} {n : Tree} {s e : Token} {P : List Pair} → SpellsSeen language text o script n s e P → IsPlace text s.stop → Ordered (AtName text) n
  unfolding spellings
  script_ordered {n = node Program w g st en ps} {e = e} (direct qs h (placed nx i) d) p =
      let start : 0 ≡ st = ap (λ (x : ℕ × ℕ). x.0) i in
      let stop : e.stop ≡ en = ap (λ (x : ℕ × ℕ). x.1) i in
      let v = runs_told d (plain_script (way_shape script (node Program w g st en ps) refl h)) p st en (omega (arith, start)) (omega (arith, stop)) (λ t x n. omega (arith, start)) in
      ((λ k. absurd (cc)), omega (arith, start), (λ k. absurd (false≢true k)), (λ k. v.1))
    where
      plain_script : {qs : List (PieceOf Role)} → Shape (node Program w g st en ps) qs → plain_parts qs ≡ true
      plain_script (regular k pp) = pp
      plain_script (short_name k) = absurd (false≢true k.0)
      plain_script (short_default k) = absurd (false≢true k.0)
  script_ordered {n = node _ w g st en ps} (direct qs h pl d) p = elim ((way_of h).listed) [ ]

-- a script that a UTF-8 text derives in a language
pub derived_ordered : (language : Language) (text : List ℕ) (n : Tree) (P : List Pair) → IsUtf8 text → DerivesIn language text n P → Ordered (AtName text) n
derived_ordered language text n P u d = script_ordered language text u d.1.2 (starting_place language text u)

-- and a script is a Program
pub derived_program : (language : Language) (text : List ℕ) (n : Tree) (P : List Pair) → DerivesIn language text n P → kind_of n ≡ Program
unfolding spellings
derived_program language text n P d = of d.1.2
  where
    of : {o : ℕ} {n : Tree} {s e : Token} {P : List Pair} → SpellsSeen language text o script n s e P → kind_of n ≡ Program
    of {n = node Program w g st en ps} d = refl
    of {n = node _ w g st en ps} (direct qs h pl d) = elim ((way_of h).listed) [ ]
