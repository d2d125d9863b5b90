-- The nodes of a tree that a text derives start at places of the text: at its first character, where a token starts, or behind a
-- template token's first character.
use Rattle.std.proofs.Common.{◌≡◌, ℕ, ◌+◌, ◌<◌, Bool, true, false, cond, refl, List, [], ◌∷◌, ◌++◌, sym, ap, ◌∙◌, subst, arith, append_assoc}
use Rattle.std.specs.Prelude.{IsTrue, ◌&&◌}
use Rattle.std.specs.Str.{chars, IsUtf8}
use Rattle.std.proofs.lemmas.Bool.Decides.{nat_tests}
use Rattle.std.proofs.lemmas.Str.{IsCharBoundary-start, len_utf8_ascii}
use Rattle.source_text.specs.Source.{IsPlace}
use Rattle.tokens.specs.declared.token.TokenClass.{TokenClass}
use Rattle.tokens.specs.declared.token.TokenClass.TheVariants.{IdentifierName, Keyword, Template}
use Rattle.tokens.specs.Comments.{first_line, hashbang}
use Rattle.source_text.specs.Lines.{is_line_terminator}
use Rattle.tokens.specs.Alphabet.{one_of}
use Rattle.tokens.specs.Lexical.{is_of}
use Rattle.tokens.specs.Templates.{is_template, closes_template}
use Rattle.tokens.specs.Tokens.{size}
use Rattle.tokens.specs.Reading.{behind, any_goal}
use Rattle.tokens.proofs.Bounds.{pass_word, rest_of_word, token_places}
use Rattle.tokens.proofs.Classes.{token_is}
use Rattle.tokens.proofs.PassedCharacters.{size_one}
use Rattle.tree.specs.declared.kind.Pair.{Pair}
use Rattle.tree.specs.declared.kind.Kind.TheVariants.{TemplateElement}
use Rattle.tree.specs.Tree.{Tree, node, Parts, start_of}
use Rattle.language.specs.declared.Language.{Language}
use Rattle.language.specs.Languages.{DerivesIn, Seen, seen_next, seen_in, class_in, is_of_2022, beginning_in}
use Rattle.language.specs.Vocabulary.{is_keyword}
use Rattle.language.specs.Cursor.{beginning}
use Rattle.language.specs.Pieces.{Role, template_element, script, PieceOf}
use Rattle.language.specs.Token.{Token}
use Rattle.language.specs.Places.{NextIn, next_in}
use Rattle.language.specs.Grammar.{ways, spellings}
use Rattle.language.specs.Derivation.{Among, Spells, Reads, Step, token, with_mark, without_mark, one_more, no_more, seen, same_line, left_bare, explicit, implicit, laid, Placed, placed, direct, grouped, Runs, done, step, opened, closed, within, missing, reserved_key, reserved_word}
use Rattle.language.proofs.lower_bound.Domination.{settled}
use Rattle.language.proofs.table.ViewIsComplete.{way_of, one}
use Rattle.language.proofs.table.Begins.{retell}
use Rattle.language.proofs.list_loops.FirstPieces.{run_token}
use Rattle.language.proofs.list_loops.TemplateElements.{chunk_text}
use Rattle.language.proofs.texts.TextOffsets.{text_determined}
use Rattle.language.proofs.table.TokenWords.{read_place}
use Rattle.early_errors.specs.Early.{Error, errors}
use Rattle.early_errors.specs.Starts.{starts}
use Rattle.early_errors.proofs.NodeStarts.{Starting, AllStarting, of_each, starting_each}
use Rattle.early_errors.proofs.ErrorStarts.{error_start}

-- a template token begins with an ASCII character
begins_ascii : (c : ℕ) (cs : List ℕ) → IsTrue (is_template (c ∷ cs)) → c < 128
begins_ascii c cs h = of c (closes_template false cs) h
  where
    of : (c : ℕ) (b : Bool) → IsTrue (one_of "`}" c && b) → c < 128
    of c b h = grind (arith, nat_tests)

-- a token that is seen as a template's is one
template_seen : (l : Language) (c : TokenClass) (w : List ℕ) → class_in l c w ≡ Template → c ≡ Template
template_seen l IdentifierName w h = pick (is_of_2022 l && is_keyword w) h
  where
    pick : (b : Bool) → cond b Keyword IdentifierName ≡ Template → IdentifierName ≡ Template
    pick true h = absurd (cc)
    pick false h = h
template_seen l Template w h = refl
template_seen l _ w h = h

-- a text goes on behind the line of `#!`
behind_hashbang : (cs : List ℕ) → (rest : List ℕ) × (cs ≡ hashbang cs ++ rest)
behind_hashbang [] = ([], refl)
behind_hashbang (c ∷ []) = (c ∷ [], refl)
behind_hashbang (c ∷ d ∷ cs) = pick (one_of "#" c && one_of "!" d)
  where
    line : (cs : List ℕ) → (rest : List ℕ) × (cs ≡ first_line cs ++ rest)
    line [] = ([], refl)
    line (c ∷ cs) = go (is_line_terminator c) (line cs)
      where
        go : (b : Bool) → (rest : List ℕ) × (cs ≡ first_line cs ++ rest) → (rest : List ℕ) × (c ∷ cs ≡ cond b [] (c ∷ first_line cs) ++ rest)
        go true h = (c ∷ cs, refl)
        go false h = (h.0, ap (λ x. c ∷ x) h.1)

    pick : (b : Bool) → (rest : List ℕ) × (c ∷ d ∷ cs ≡ cond b (c ∷ d ∷ first_line cs) [] ++ rest)
    pick true = let h = line cs in (h.0, ap (λ x. c ∷ d ∷ x) h.1)
    pick false = (c ∷ d ∷ cs, refl)

module _ (language : Language) (text : List ℕ) (u : IsUtf8 text) where
  abbrev ThereNext : Token → Token → Token → Type 0
  ThereNext = Seen Token (NextIn text any_goal) language

  seen_place : {s t e : Token} → ThereNext s t e → IsPlace text s.stop → IsPlace text e.stop
  seen_place (seen_next x) p = read_place u p x

  token_start : {s t e : Token} → ThereNext s t e → IsPlace text s.stop → IsPlace text t.start
  token_start (seen_next {s = s} x) p = of x p
    where
      of : {s t e : Token} → NextIn text any_goal s t e → IsPlace text s.stop → IsPlace text t.start
      of (next_in {s = s} {t = t} goal any h) p = (token_places text goal s.stop t u p h).0

  -- behind the first character of a template token
  behind_mark : {w : List ℕ} {s t e : Token} → Reads Token ThereNext (seen_in language) Template w s t e → IsPlace text s.stop → IsPlace text (t.start + 1)
  behind_mark r p = seen r.next r.class p
    where
      past : (word rest : List ℕ) (at : ℕ) → IsPlace text at → behind text at ≡ word ++ rest → IsTrue (is_of Template word) → IsPlace text (at + 1)
      past [] rest at q e k = cc
      past (c ∷ cs) rest at q e k =
          let one : size (c ∷ []) ≡ 1 = size_one c ∙ len_utf8_ascii c (begins_ascii c cs k) in
          subst (λ n. IsPlace text (at + n)) one (pass_word text at (c ∷ []) (cs ++ rest) u q e).place

      of : {s t e : Token} → NextIn text any_goal s t e → t.class ≡ Template → IsPlace text s.stop → IsPlace text (t.start + 1)
      of (next_in {s = s} {t = t} goal any h) k p =
          let rest = behind text t.stop in
          let e : behind text (s.stop + size h.gap) ≡ h.word ++ rest = rest_of_word text s.stop h.gap (h.word ++ rest) u p (h.split ∙ append_assoc h.gap h.word rest) in
          past h.word rest t.start (token_places text goal s.stop t u p h).0 (ap (behind text) h.start ∙ e)
          (subst (λ c. IsTrue (is_of c h.word)) k (token_is t.class h.word rest h.longest))

      seen : {s t e : Token} → ThereNext s t e → t.class ≡ Template → IsPlace text s.stop → IsPlace text (t.start + 1)
      seen (seen_next {t = t} x) k p = of x (template_seen language t.class t.text k) p

  -- two tokens that can be read at one place start at one
  one_start : {s t u e f : Token} → ThereNext s t e → ThereNext s u f → t.start ≡ u.start
  one_start (seen_next {s = s} {t = t} {e = e} x) (seen_next {t = u} {e = f} y) = (text_determined text).start s t u e f x y

  -- the token of a template's part
  chunk_read : {o : ℕ} {b l : Bool} {n : Tree} {s e : Token} {P : List Pair} → Spells ways Token ThereNext (seen_in language) o (template_element b l) n s e P →
      (w : List ℕ) × (t : Token) × (m : Token) × Reads Token ThereNext (seen_in language) Template w s t m × (start_of n ≡ t.start + 1)
  unfolding spellings
  chunk_read {b = b} {l} {n = node TemplateElement w g st en ps} (direct qs h (placed nx p) d) =
      let v = way_of h in
      let k = run_token Token ThereNext (seen_in language) (retell Token ThereNext (seen_in language) (v.is ∙ ap (settled (template_element b l)) (one v.listed)) d) in
      (chunk_text b l w, k.sign, k.mid, k.reads, sym (ap (λ (x : ℕ × ℕ). x.0) p) ∙ ap (λ x. x + 1) (one_start nx k.reads.next))
  chunk_read {n = node _ w g st en ps} (direct qs h pl d) = elim ((way_of h).listed) [ ]

  node_start : (a : Role) {o : ℕ} {n : Tree} {s e : Token} {P : List Pair} → Spells ways Token ThereNext (seen_in language) o a n s e P → Placed Token ThereNext (seen_in language) a n s e → IsPlace text s.stop → IsPlace text (start_of n)
  node_start (template_element b l) d pl p = let c = chunk_read d in subst (IsPlace text) (sym c.4) (behind_mark c.3 p)
  node_start script d (placed nx e) p = subst (IsPlace text) (ap (λ (x : ℕ × ℕ). x.0) e) (IsCharBoundary-start text u)
  node_start _ d (placed nx e) p = subst (IsPlace text) (ap (λ (x : ℕ × ℕ). x.0) e) (token_start nx p)

  step_place : {q : PieceOf Role} {s e : Token} → Step Token ThereNext (seen_in language) q s e → IsPlace text s.stop → IsPlace text e.stop
  step_place (token x) p = seen_place x.next p
  step_place (with_mark x) p = seen_place x.next p
  step_place without_mark p = p
  step_place (one_more x y) p = step_place y (seen_place x.next p)
  step_place no_more p = p
  step_place (seen x) p = p
  step_place (same_line x y) p = p
  step_place (left_bare x y) p = p
  step_place (explicit x) p = seen_place x.next p
  step_place (implicit x y) p = p
  step_place laid p = p

  mutual
    -- what is spelled from a place starts at places, and ends at one
    spelled_places : {o : ℕ} {a : Role} {n : Tree} {s e : Token} {P : List Pair} → Spells ways Token ThereNext (seen_in language) o a n s e P → IsPlace text s.stop → Starting (IsPlace text) n × IsPlace text e.stop
    spelled_places {a = a} {n = node k w g st en ps} (direct qs h pl d) p =
        let v = run_places d p in
        ((node_start a (direct qs h pl d) pl p, v.0), v.1)
    spelled_places (grouped x d y) p =
        let v = spelled_places d (seen_place x.next p) in
        (v.0, seen_place y.next v.1)
    spelled_places (reserved_key r h e) p = (subst (Starting (IsPlace text)) (sym e) (token_start r.next p, tt), seen_place r.next p)
    spelled_places (reserved_word r h e) p = (subst (Starting (IsPlace text)) (sym e) (token_start r.next p, tt), seen_place r.next p)

    run_places : {o : ℕ} {qs : List (PieceOf Role)} {ps : Parts} {s e : Token} {P : List Pair} → Runs ways Token ThereNext (seen_in language) o qs ps s e P → IsPlace text s.stop →
        AllStarting (IsPlace text) ps × IsPlace text e.stop
    run_places done p = (tt, p)
    run_places (step q d) p = run_places d (step_place q p)
    run_places (opened x d) p = run_places d (seen_place x.next p)
    run_places (closed x d) p = run_places d (seen_place x.next p)
    run_places (within d e) p =
        let v = spelled_places d p in
        let w = run_places e v.1 in
        ((v.0, w.0), w.1)
    run_places (missing d) p = run_places d p

  -- the first token is read from a place on
  beginning_place : IsPlace text (beginning_in language text).stop
  beginning_place = pick (is_of_2022 language)
    where
      pick : (b : Bool) → IsPlace text (cond b (record beginning { stop = size (hashbang (chars text)) }) beginning).stop
      pick true = (let h = behind_hashbang (chars text) in let none : 0 + size (hashbang (chars text)) ≡ size (hashbang (chars text)) = omega arith in subst (IsPlace text) none (pass_word text 0 (hashbang (chars text)) h.0 u (IsCharBoundary-start text u) h.1).place)
      pick false = IsCharBoundary-start text u

derived_starts : (language : Language) (text : List ℕ) (n : Tree) (P : List Pair) → IsUtf8 text → DerivesIn language text n P → Starting (IsPlace text) n
derived_starts language text n P u d = (spelled_places language text u d.1.2 (beginning_place language text u)).0

-- each node starts at a place of the text
pub node_place : (language : Language) (text : List ℕ) (n : Tree) (P : List Pair) → IsUtf8 text → DerivesIn language text n P → (at : ℕ) → Among at (starts n) → IsPlace text at
node_place language text n P u d at a = of_each (IsPlace text) (starting_each (IsPlace text) n (derived_starts language text n P u d)) a

-- and so each early error stands at one
pub error_place : (language : Language) (text : List ℕ) (n : Tree) (P : List Pair) → IsUtf8 text → DerivesIn language text n P → (x : Error) → Among x (errors n) → IsPlace text x.1
error_place language text n P u d x a = error_start (IsPlace text) n x (derived_starts language text n P u d) a
