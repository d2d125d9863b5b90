-- A derivation at a text's own places passes tokens. The walk goes over it from its end, and makes the list of these tokens and the derivation
-- over that list, before any list that goes on from there, as the language sees the tokens of both. Where the derivation ends at an open place,
-- that list begins with no TemplateMiddle or TemplateTail.
use Rattle.std.proofs.Common.{◌≡◌, ℕ, ◌+◌, ◌-◌, Bool, true, false, cond, not, ◌||◌, List, [], ◌∷◌, refl, sym, ap, ◌∙◌}
use Rattle.std.specs.Prelude.{IsTrue}
use Rattle.std.proofs.lemmas.Bool.{and_parts, true≢false, false≢true}
use Rattle.tokens.specs.declared.token.TokenClass.{TokenClass}
use Rattle.tokens.specs.declared.token.TokenClass.TheVariants.{IdentifierName}
use Rattle.tokens.specs.Tokens.{is_end}
use Rattle.tokens.specs.Reading.{any_goal}
use Rattle.tree.specs.declared.kind.Kind.TheVariants.{Identifier}
use Rattle.tree.specs.declared.kind.Pair.{Pair}
use Rattle.tree.specs.Tree.{Tree, node, Parts}
use Rattle.language.specs.Pieces.{Role, template_element, shorthand_key, script, Ending, PieceOf, many, ahead, unbroken, no_operand, ending}
use Rattle.language.specs.Edges.{begins_no_operand, may_omit_semicolon}
use Rattle.language.specs.Token.{Token, as_read}
use Rattle.language.specs.Grammar.{ways, spellings}
use Rattle.language.specs.declared.Language.{Language}
use Rattle.language.specs.Languages.{class_in, seen_in, seen_next}
use Rattle.language.specs.Places.{NextIn, next_in}
use Rattle.language.specs.Cursor as Cursor
use Rattle.language.specs.Derivation.{Among, Reads, Spells, direct, grouped, Runs, done, step, opened, closed, within, missing, Step, token, with_mark, without_mark, one_more, no_more, seen, same_line, left_bare, explicit, implicit, laid, Placed, placed, place, reserved_key, reserved_word}
use Rattle.language.proofs.lower_bound.Domination.{settled}
use Rattle.language.proofs.table.ViewIsComplete.{way_of, one}
use Rattle.language.proofs.table.Begins.{retell}
use Rattle.reading_laws.proofs.TailTable.{is_template_tail, is_closed, is_later_part, is_script, barred, tails_fit_at, way_fits}
use Rattle.reading_laws.specs.Laws.{NextSeen, seen_behind}
use Rattle.reading_laws.proofs.SeenClasses.{same_in}
use Rattle.reading_laws.proofs.Peeks.{NextAny, same_break, same_start, name_same, may_keep, bare_keep}

-- the list begins with no TemplateMiddle or TemplateTail
abbrev pub no_tail_first : List Token → Bool
no_tail_first [] = true
no_tail_first (t ∷ ts) = not (is_template_tail t.class t.text)

is_not : (b : Bool) → not b ≡ true → b ≡ false
is_not true h = absurd (false≢true h)
is_not false h = refl

not_is : (b : Bool) → b ≡ false → not b ≡ true
not_is b h = ap not h

-- where pieces must end at a closed place and are none, the place before them is closed
open_end : (b c : Bool) → (b || not c) ≡ true → b ≡ false → c ≡ false
open_end true c h e = absurd (true≢false e)
open_end false c h e = is_not c h

first_is : (b x : Bool) → (b || x) ≡ true → b ≡ false → x ≡ true
first_is true x h e = absurd (true≢false e)
first_is false x h e = h

-- what isn't barred is no script, and behind an open place no later part of a template
no_script : (b : Bool) (a : Role) → not (barred b a) ≡ true → is_script a ≡ false
no_script b script h = absurd (false≢true h)
no_script b _ h = refl

no_later : (b : Bool) (a : Role) → not (barred b a) ≡ true → b ≡ false → is_later_part a ≡ false
no_later true a h e = absurd (true≢false e)
no_later false (template_element x y) h e = is_not (not x) h
no_later false _ h e = refl

abbrev pub is_echo : Role → Bool
is_echo shorthand_key = true
is_echo _ = false

place_same : (a : Role) (t u l : Token) → t.start ≡ u.start → (is_echo a ≡ true → t ≡ u) → place a t l ≡ place a u l
place_same shorthand_key t u l s h = ap (λ z. (z.start, z.stop)) (h refl)
place_same (template_element b c) t u l s h = ap (λ z. (z + 1, l.stop - cond c 1 2)) s
place_same script t u l s h = refl
place_same _ t u l s h = ap (λ z. (z, l.stop)) s

module _ (text : List ℕ) (language : Language) where
  abbrev After : Token → Token → Token → Type 0
  After = NextAny text language

  abbrev see : Token → Token
  see = seen_in language

  abbrev Tokens : Type 0
  Tokens = List Token

  abbrev Goes : Tokens → Token → Tokens → Type 0
  Goes = NextSeen language

  abbrev last_seen : Tokens → Token
  last_seen = seen_behind language

  -- a list of tokens, each read behind the one before; the last is the end of the text
  pub data ReadOn : Token → Tokens → Type 0 where
    at_last : {s t : Token} → NextIn text any_goal s t t → is_end t.class ≡ true → ReadOn s (t ∷ [])
    and_more : {s t : Token} {ts : Tokens} → NextIn text any_goal s t t → is_end t.class ≡ false → ReadOn t ts → ReadOn s (t ∷ ts)

  end_in : (c : TokenClass) (w : List ℕ) → is_end (class_in language c w) ≡ is_end c
  end_in c w = same_in language is_end refl c w

  tail_in : (c : TokenClass) (w : List ℕ) → is_template_tail (class_in language c w) w ≡ is_template_tail c w
  tail_in c w = same_in language (λ k. is_template_tail k w) refl c w

  prepend : {s t m : Token} {vs : Tokens} → After s t m → is_end t.class ≡ false → ReadOn m vs → ReadOn s (m ∷ vs)
  prepend (seen_next (next_in {t = k} goal any x)) h r = and_more (next_in goal any x) (sym (end_in k.class (as_read k).text) ∙ h) r

  next_on : {s t m : Token} (vs : Tokens) → After s t m → Goes (s ∷ m ∷ vs) t (m ∷ vs)
  next_on vs (seen_next (next_in goal any x)) = seen_next Cursor.next

  pub reads_on : {k : TokenClass} {w : List ℕ} {s t m : Token} (vs : Tokens) → Reads Token After see k w s t m → Reads Tokens Goes last_seen k w (s ∷ m ∷ vs) t (m ∷ vs)
  reads_on vs r = record { next = next_on vs r.next; class = r.class; text = r.text }

  -- a token of such a class
  prepend_read : {k : TokenClass} {w : List ℕ} {s t m : Token} {vs : Tokens} → Reads Token After see k w s t m → is_end k ≡ false → ReadOn m vs → ReadOn s (m ∷ vs)
  prepend_read r h on = prepend r.next (ap is_end r.class ∙ h) on

  next_no_tail : {s t m : Token} → After s t m → is_template_tail t.class t.text ≡ false → not (is_template_tail m.class m.text) ≡ true
  next_no_tail (seen_next (next_in {t = k} goal any x)) h = not_is _ (sym (tail_in k.class (as_read k).text) ∙ h)

  read_no_tail : {k : TokenClass} {w : List ℕ} {s t m : Token} → Reads Token After see k w s t m → is_template_tail k w ≡ false → not (is_template_tail m.class m.text) ≡ true
  read_no_tail r h = next_no_tail r.next ((λ i. is_template_tail (r.class i) (r.text i)) ∙ h)

  -- the first of such a list, as it is seen
  head : {s u : Token} {us : Tokens} → ReadOn s (u ∷ us) → After s (see u) u
  head (at_last n e) = seen_next n
  head (and_more n e more) = seen_next n

  seen_tail : (u : Token) (us : Tokens) → no_tail_first (u ∷ us) ≡ true → is_template_tail (see u).class (see u).text ≡ false
  seen_tail u us h = tail_in u.class u.text ∙ is_not _ h

  -- looks at the next token
  seen_on : {w : List ℕ} {s t m : Token} (vs : Tokens) → ReadOn s vs → Reads Token After see IdentifierName w s t m → Step Tokens Goes last_seen (ahead w) (s ∷ vs) (s ∷ vs)
  seen_on (u ∷ us) on r = let same = name_same text language r.next (head on) r.class in
      seen (record { next = seen_next Cursor.next; class = sym (ap (λ z. z.class) same) ∙ r.class; text = sym (ap (λ z. z.text) same) ∙ r.text })
  seen_on [] on r = elim on [ ]

  line_on : {s t m : Token} (vs : Tokens) → ReadOn s vs → After s t m → t.after_break ≡ false → Step Tokens Goes last_seen unbroken (s ∷ vs) (s ∷ vs)
  line_on (u ∷ us) on n h = same_line (seen_next Cursor.next) (same_break text language (head on) n ∙ h)
  line_on [] on n h = elim on [ ]

  bare_on : {s t m : Token} (vs : Tokens) → ReadOn s vs → After s t m → IsTrue (begins_no_operand t) → Step Tokens Goes last_seen no_operand (s ∷ vs) (s ∷ vs)
  bare_on (u ∷ us) on n h = left_bare (seen_next Cursor.next) (bare_keep text language n (head on) h)
  bare_on [] on n h = elim on [ ]

  miss_on : {x : Ending} {s t m : Token} (vs : Tokens) → ReadOn s vs → no_tail_first vs ≡ true → After s t m → IsTrue (may_omit_semicolon x (see s) t) → Step Tokens Goes last_seen (ending x) (s ∷ vs) (s ∷ vs)
  miss_on {x} {s} (u ∷ us) on c n h = implicit (seen_next Cursor.next) (may_keep text language x (see s) n (head on) (seen_tail u us c) h)
  miss_on [] on c n h = elim on [ ]

  -- marks in any number
  record Marks (w : List ℕ) (s m : Token) (vs : Tokens) : Type 0 where
    tokens : Tokens
    read : ReadOn s tokens
    no_tail : no_tail_first vs ≡ true → no_tail_first tokens ≡ true
    marks : Step Tokens Goes last_seen (many w) (s ∷ tokens) (m ∷ vs)

  marked : {w : List ℕ} {s m : Token} {vs : Tokens} → Step Token After see (many w) s m → ReadOn m vs → Marks w s m vs
  marked (one_more {m = m} r p) on = let x = marked p on in
      record { tokens = m ∷ x.tokens; read = prepend_read r refl x.read; no_tail = λ h. read_no_tail r refl; marks = one_more (reads_on x.tokens r) x.marks }
  marked {vs = vs} no_more on = record { tokens = vs; read = on; no_tail = λ h. h; marks = no_more }

  -- a shorthand key is the name that follows
  record NameAhead (s : Token) : Type 0 where
    word : List ℕ
    token : Token
    mid : Token
    reads : Reads Token After see IdentifierName word s token mid

  echo_name : {qs : List (PieceOf Role)} (n : Tree) {o : ℕ} {ps : Parts} {s e : Token} {P : List Pair} → Among qs (ways shorthand_key n) → Runs ways Token After see o qs ps s e P → NameAhead s
  unfolding spellings
  echo_name (node Identifier w g st en ps) h d = let v = way_of h in of (retell Token After see (v.is ∙ ap (settled shorthand_key) (one v.listed)) d)
    where
      of : {o : ℕ} {w : List ℕ} {ps : Parts} {s e : Token} {P : List Pair} → Runs ways Token After see o (ahead w ∷ []) ps s e P → NameAhead s
      of (step (seen {w = w} {t = t} {e = m} r) d) = record { word = w; token = t; mid = m; reads = r }
  echo_name (node _ w g st en ps) h d = elim ((way_of h).listed) [ ]

  echo_same : (a : Role) {qs : List (PieceOf Role)} (n : Tree) {o : ℕ} {ps : Parts} {s e t m u f : Token} {P : List Pair} → Among qs (ways a n) → Runs ways Token After see o qs ps s e P → After s t m → After s u f → is_echo a ≡ true → t ≡ u
  echo_same shorthand_key n h d x y e = let v = echo_name n h d in sym (name_same text language v.reads.next x v.reads.class) ∙ name_same text language v.reads.next y v.reads.class
  echo_same _ n h d x y e = absurd (false≢true e)

  pub placed_on : {a : Role} {n : Tree} {s e : Token} (vs us : Tokens) → ReadOn s vs → ((t m u f : Token) → After s t m → After s u f → is_echo a ≡ true → t ≡ u) → Placed Token After see a n s e →
      Placed Tokens Goes last_seen a n (s ∷ vs) (e ∷ us)
  placed_on {a} {e = e} (u ∷ rest) us on alone (placed {t = t} {m = m} x h) = placed (seen_next Cursor.next) (sym (place_same a t (see u) (see e) (same_start text language x (head on)) (alone t m (see u) u x (head on))) ∙ h)
  placed_on [] us on alone p = elim on [ ]

  record Spelled (o : ℕ) (a : Role) (n : Tree) (s e : Token) (us : Tokens) (P : List Pair) : Type 0 where
    tokens : Tokens
    read : ReadOn s tokens
    no_tail : is_later_part a ≡ false → no_tail_first tokens ≡ true
    spells : Spells ways Tokens Goes last_seen o a n (s ∷ tokens) (e ∷ us) P

  pub record Ran (b : Bool) (o : ℕ) (qs : List (PieceOf Role)) (ps : Parts) (s e : Token) (us : Tokens) (P : List Pair) : Type 0 where
    pub tokens : Tokens
    pub read : ReadOn s tokens
    pub no_tail : b ≡ false → no_tail_first tokens ≡ true
    pub runs : Runs ways Tokens Goes last_seen o qs ps (s ∷ tokens) (e ∷ us) P

  mutual
    spelled_on : {o : ℕ} {a : Role} {n : Tree} {s e : Token} {P : List Pair} (us : Tokens) → is_script a ≡ false → ReadOn e us → (is_closed a ≡ false → no_tail_first us ≡ true) → Spells ways Token After see o a n s e P → Spelled o a n s e us P
    spelled_on {a = a} {n = n} us k on c (direct qs h p d) =
        let v = ran_on (is_later_part a) (is_closed a) us (way_fits a n k h) on c d in
        record { tokens = v.tokens; read = v.read; no_tail = v.no_tail; spells = direct qs h (placed_on v.tokens us v.read (λ t m u f x y e. echo_same a n h d x y e) p) v.runs }
    spelled_on {e = e} us k on c (grouped {m = m} p d q) =
        let v = spelled_on (e ∷ us) refl (prepend_read q refl on) (λ e. absurd (true≢false e)) d in
        record { tokens = m ∷ v.tokens; read = prepend_read p refl v.read; no_tail = λ e. read_no_tail p refl; spells = grouped (reads_on v.tokens p) v.spells (reads_on us q) }
    spelled_on {e = e} us k on c (reserved_key r h p) = record { tokens = e ∷ us; read = prepend_read r refl on; no_tail = λ e. read_no_tail r refl; spells = reserved_key (reads_on us r) h p }
    spelled_on {e = e} us k on c (reserved_word r h p) = record { tokens = e ∷ us; read = prepend_read r refl on; no_tail = λ e. read_no_tail r refl; spells = reserved_word (reads_on us r) h p }

    pub ran_on : {o : ℕ} {qs : List (PieceOf Role)} {ps : Parts} {s e : Token} {P : List Pair} (b c : Bool) (us : Tokens) → tails_fit_at b c qs ≡ true → ReadOn e us → (c ≡ false → no_tail_first us ≡ true) → Runs ways Token After see o qs ps s e P → Ran b o qs ps s e us P
    ran_on b c us h on k done = record { tokens = us; read = on; no_tail = λ e. k (open_end b c h e); runs = done }
    ran_on b c us h on k (step {m = m} (token {c = class} {w = w} r) d) =
        let u = and_parts _ _ h in
        let x = and_parts _ _ u.1 in
        let v = ran_on true c us x.1 on k d in
        record { tokens = m ∷ v.tokens; read = prepend_read r (is_not _ x.0) v.read; no_tail = λ e. read_no_tail r (is_not _ (first_is b _ u.0 e)); runs = step (token (reads_on v.tokens r)) v.runs }
    ran_on b c us h on k (step {m = m} (with_mark r) d) =
        let v = ran_on b c us h on k d in
        record { tokens = m ∷ v.tokens; read = prepend_read r refl v.read; no_tail = λ e. read_no_tail r refl; runs = step (with_mark (reads_on v.tokens r)) v.runs }
    ran_on b c us h on k (step without_mark d) = let v = ran_on b c us h on k d in record { tokens = v.tokens; read = v.read; no_tail = v.no_tail; runs = step without_mark v.runs }
    ran_on b c us h on k (step (one_more r p) d) =
        let v = ran_on b c us h on k d in
        let x = marked (one_more r p) v.read in
        record { tokens = x.tokens; read = x.read; no_tail = λ e. x.no_tail (v.no_tail e); runs = step x.marks v.runs }
    ran_on b c us h on k (step no_more d) = let v = ran_on b c us h on k d in record { tokens = v.tokens; read = v.read; no_tail = v.no_tail; runs = step no_more v.runs }
    ran_on b c us h on k (step (seen r) d) = let v = ran_on b c us h on k d in record { tokens = v.tokens; read = v.read; no_tail = v.no_tail; runs = step (seen_on v.tokens v.read r) v.runs }
    ran_on b c us h on k (step (same_line n l) d) = let v = ran_on b c us h on k d in record { tokens = v.tokens; read = v.read; no_tail = v.no_tail; runs = step (line_on v.tokens v.read n l) v.runs }
    ran_on b c us h on k (step (left_bare n l) d) = let v = ran_on b c us h on k d in record { tokens = v.tokens; read = v.read; no_tail = v.no_tail; runs = step (bare_on v.tokens v.read n l) v.runs }
    ran_on b c us h on k (step {m = m} (explicit r) d) =
        let v = ran_on false c us h on k d in
        record { tokens = m ∷ v.tokens; read = prepend_read r refl v.read; no_tail = λ e. read_no_tail r refl; runs = step (explicit (reads_on v.tokens r)) v.runs }
    ran_on b c us h on k (step (implicit n m) d) =
        let v = ran_on false c us h on k d in
        record { tokens = v.tokens; read = v.read; no_tail = λ e. v.no_tail refl; runs = step (miss_on v.tokens v.read (v.no_tail refl) n m) v.runs }
    ran_on b c us h on k (step laid d) = let v = ran_on b c us h on k d in record { tokens = v.tokens; read = v.read; no_tail = v.no_tail; runs = step laid v.runs }
    ran_on b c us h on k (opened {m = m} r d) =
        let v = ran_on true c us h on k d in
        record { tokens = m ∷ v.tokens; read = prepend_read r refl v.read; no_tail = λ e. read_no_tail r refl; runs = opened (reads_on v.tokens r) v.runs }
    ran_on b c us h on k (closed {m = m} r d) =
        let v = ran_on true c us h on k d in
        record { tokens = m ∷ v.tokens; read = prepend_read r refl v.read; no_tail = λ e. read_no_tail r refl; runs = closed (reads_on v.tokens r) v.runs }
    ran_on b c us h on k (within {a = a} p d) =
        let u = and_parts _ _ h in
        let v = ran_on (is_closed a) c us u.1 on k d in
        let x = spelled_on v.tokens (no_script b a u.0) v.read v.no_tail p in
        record { tokens = x.tokens; read = x.read; no_tail = λ e. x.no_tail (no_later b a u.0 e); runs = within x.spells v.runs }
    ran_on b c us h on k (missing d) = let v = ran_on b c us h on k d in record { tokens = v.tokens; read = v.read; no_tail = v.no_tail; runs = missing v.runs }
