-- What a text derives is spelled by words at the first ways of its nodes, each shorthand key before a name of its text.
use Rattle.language.proofs.layout.WordsApart.{Word, keyword_named}
use Rattle.std.proofs.Common.{◌≡◌, ℕ, ◌+◌, Bool, true, false, cond, List, [], ◌∷◌, refl, sym, ap, ap₂, ◌∙◌, subst}
use Rattle.std.specs.Prelude.{◌&&◌, ◌||◌, nat_eq}
use Rattle.std.specs.Str.{IsUtf8}
use Rattle.std.proofs.lemmas.Bool.{and_parts, false≢true, true≢false}
use Rattle.source_text.specs.Source.{IsPlace}
use Rattle.tokens.specs.Reading.{any_goal}
use Rattle.tree.specs.declared.kind.Pair.{Pair}
use Rattle.tree.specs.Tree.{Tree, node, Parts, none, part, gap, parts_of, text_of, plain}
use Rattle.language.specs.declared.Rank.TheVariants.{Expression}
use Rattle.language.specs.declared.Start.TheVariants.{Any}
use Rattle.language.specs.Pieces.{Role, expr, key, word, name, shorthand_key, element, PieceOf}
use Rattle.language.specs.Token.{Token}
use Rattle.language.specs.Places.{NextIn, itself}
use Rattle.language.specs.Grammar.{ways, ways_bare, spellings}
use Rattle.language.specs.RowPositions.{has_row, rows, roles, first_roles}
use Rattle.language.specs.Layout.{inside, some_way}
use Rattle.language.specs.LayoutFits.{fits, parts_fit}
use Rattle.language.specs.Printed.{printed}
use Rattle.language.specs.Derivation.{Among, Reads, Spells, direct, grouped, Runs, done, step, opened, closed, within, missing, Step, token, with_mark, without_mark, one_more, no_more, seen, same_line, left_bare, explicit, implicit, laid, reserved_key, reserved_word}
use Rattle.language.proofs.lower_bound.LowerBound.{Step-roles}
use Rattle.language.proofs.table.Alike.{Like, same, at_expressions, at_chains, at_patterns, AllLike, end, next}
use Rattle.language.proofs.layout.DerivedFits.{ways_alike, first_among, first_roles_are}
use Rattle.language.proofs.texts.TextOffsets.{text_determined}
use Rattle.language.proofs.texts.SeenTokens.{seen_determined}
use Rattle.language.specs.Promises.{IsDetermined}
use Rattle.language.specs.declared.Language.{Language}
use Rattle.language.specs.Languages.{is_of_2022, class_in, seen_in, Seen, seen_next}
use Rattle.language.specs.Vocabulary.{is_keyword}
use Rattle.tree.specs.declared.kind.Kind.TheVariants.{Identifier}
use Rattle.tokens.specs.declared.token.TokenClass.{TokenClass}
use Rattle.language.proofs.list_loops.FirstPieces.{run_part, run_none}
use Rattle.language.proofs.table.FirstTokens.{two_names}
use Rattle.tokens.specs.declared.token.TokenClass.TheVariants.{IdentifierName, Keyword}
use Rattle.language.proofs.covers.CoverKeys.{echo_form}
use Rattle.language.proofs.table.Shorthands.{Named, name_named, default_named}
use Rattle.language.proofs.table.TokenWords.{token_word, read_place}
use Rattle.language.proofs.table.ShorthandPieces.{is_echo, has_echo, EchoShape, no_echo, before_name, before_default}
use Rattle.language.proofs.table.ShorthandTable.{echo_shape}
use Rattle.language.proofs.table.TreesOfWords.{PieceWords, NameFirst, Worded, PartsWorded, Echoed}

-- of all shorthand keys among the parts
unfoldable pub AllEchoed : (ℕ → Bool) → Parts → List Role → ℕ → Type 0
AllEchoed W none xs r = Unit {0}
AllEchoed W (gap ps) xs r = AllEchoed W ps xs r
AllEchoed W (part n ps) [] r = Unit {0}
AllEchoed W (part n ps) (a ∷ xs) r = Echoed W a n ps xs (r + rows n a) × AllEchoed W ps xs (r + rows n a)

none_echoed : (W : ℕ → Bool) (a : Role) (n : Tree) (ps : Parts) (xs : List Role) (r : ℕ) → is_echo a ≡ false → Echoed W a n ps xs r
unfolding Echoed
none_echoed W shorthand_key n ps xs r h = absurd (true≢false h)
none_echoed W _ n ps xs r h = tt

none_all : (W : ℕ → Bool) (ps : Parts) (xs : List Role) (r : ℕ) → has_echo xs ≡ false → AllEchoed W ps xs r
unfolding AllEchoed
none_all W none xs r h = tt
none_all W (gap ps) xs r h = none_all W ps xs r h
none_all W (part n ps) [] r h = tt
none_all W (part n ps) (a ∷ xs) r h = let u = neither (is_echo a) (has_echo xs) h in (none_echoed W a n ps xs (r + rows n a) u.0, none_all W ps xs (r + rows n a) u.1)
  where
    neither : (x y : Bool) → (x || y) ≡ false → (x ≡ false) × (y ≡ false)
    neither true y h = absurd (true≢false h)
    neither false y h = (refl, h)

-- the same test at positions of one sort
like_echo : {b : Bool} {x y : Role} → Like b x y → is_echo x ≡ is_echo y
like_echo same = refl
like_echo at_expressions = refl
like_echo at_chains = refl
like_echo at_patterns = refl

all_like_echo : {b : Bool} {xs ys : List Role} → AllLike b xs ys → has_echo xs ≡ has_echo ys
all_like_echo end = refl
all_like_echo (next {y = y} {xs = xs} l h) = ap (λ t. t || has_echo xs) (like_echo l) ∙ ap (λ t. is_echo y || t) (all_like_echo h)

like_name : {b : Bool} {y : Role} → Like b name y → y ≡ name
like_name same = refl

like_element : {b c : Bool} {y : Role} → Like b (element c) y → y ≡ element c
like_element same = refl

like_key : {b : Bool} {y : Role} → Like b shorthand_key y → y ≡ shorthand_key
like_key same = refl

key_list : {a : Role} {xs : List Role} → ((y : Role) → Like false a y → y ≡ a) → AllLike false (shorthand_key ∷ a ∷ []) xs → xs ≡ shorthand_key ∷ a ∷ []
key_list f (next l (next l' end)) = ap₂ (λ x y. x ∷ y ∷ []) (like_key l) (f _ l')

pair_echoed : (W : ℕ → Bool) (k v : Tree) (a : Role) (r : ℕ) → is_echo a ≡ false → ((q d : ℕ) → NameFirst (text_of k) (printed W v a q d)) → AllEchoed W (part k (part v none)) (shorthand_key ∷ a ∷ []) r
unfolding AllEchoed Echoed
pair_echoed W k v a r h f = (λ d. f (r + rows k shorthand_key) d, (none_echoed W a v none [] ((r + rows k shorthand_key) + rows v a) h, tt))

-- where it is wrapped it stands at an expression's position
inside_like : {a : Role} (t : Bool) (b : Role) → Like false a b → (nat_eq (has_row b) 1 && t) ≡ true → Like false a (expr Expression true Any)
inside_like t (expr y i f) same h = at_expressions
inside_like t (expr y i f) at_expressions h = at_expressions
inside_like t _ l h = absurd (false≢true h)

wrapped_like : {a : Role} (t : Bool) (b : Role) → Like false a b → (x : Bool) → (nat_eq (has_row b) 1 && t) ≡ x → Like false a (inside x b)
wrapped_like t b l true h = inside_like t b l h
wrapped_like t b l false h = l

module _ (W : ℕ → Bool) where
  -- of a node by its own way, where its parts are so
  node_worded : {a : Role} (n : Tree) {qs : List (PieceOf Role)} → Among qs (ways a n) → PieceWords qs →
      ((xs : List Role) (q : ℕ) → AllLike false (roles qs) xs → parts_fit W (parts_of n) xs q ≡ true → PartsWorded W (parts_of n) xs q) →
      (b : Role) → Like false a b → (r : ℕ) → fits W n b r ≡ true → Worded W n b r
  unfolding fits Worded
  node_worded {a} (node k w g s e ps) {qs} among words parts b l r f =
      let x = nat_eq (has_row b) 1 && W r in
      let some = (and_parts (some_way (ways (inside x b) (node k w g s e ps))) _ f).0 in
      let others = (and_parts _ _ (and_parts (some_way (ways (inside x b) (node k w g s e ps))) _ f).1).1 in
      let u = ways_alike {b = false} (node k w g s e ps) (wrapped_like (W r) b l x refl) (λ z. absurd (false≢true z)) among (first_among (ways (inside x b) (node k w g s e ps)) some) in
      (u.words words, parts (first_roles (ways (inside x b) (node k w g s e ps))) (has_row b + r) (subst (λ xs. AllLike false (roles qs) xs) (first_roles_are (ways (inside x b) (node k w g s e ps))) u.roles) others)

-- a name that may be any word
key_worded : (W : ℕ → Bool) (w : List ℕ) (a b r : ℕ) → Word IdentifierName w → Worded W (node Identifier w plain a b none) key r
unfolding Worded PartsWorded ways ways_bare spellings
key_worded W w a b r x = ((x, tt), tt)

word_worded : (W : ℕ → Bool) (w : List ℕ) (a b r : ℕ) → Word IdentifierName w → Worded W (node Identifier w plain a b none) word r
unfolding Worded PartsWorded ways ways_bare spellings
word_worded W w a b r x = ((x, tt), tt)

module _ (text : List ℕ) (Next : Token → Token → Token → Type 0) (behind : Token → Token) (det : IsDetermined Token Next behind)
    (goes : (s t e : Token) → IsPlace text s.stop → Next s t e → IsPlace text e.stop)
    (read : (c : TokenClass) (w : List ℕ) (s t e : Token) → IsPlace text s.stop → Reads Token Next behind c w s t e → Word c w) where
  step_place : {q : PieceOf Role} {s e : Token} → Step Token Next behind q s e → IsPlace text s.stop → IsPlace text e.stop
  step_place (token x) p = goes _ _ _ p x.next
  step_place (with_mark x) p = goes _ _ _ p x.next
  step_place without_mark p = p
  step_place (one_more x y) p = step_place y (goes _ _ _ p x.next)
  step_place no_more p = p
  step_place (seen x) p = p
  step_place (same_line x y) p = p
  step_place (left_bare x y) p = p
  step_place (explicit x) p = goes _ _ _ p x.next
  step_place (implicit x y) p = p
  step_place laid p = p

  mutual
    -- a node ends at a place of the text
    place_behind : {o : ℕ} {a : Role} {n : Tree} {s e : Token} {P : List Pair} → Spells ways Token Next behind o a n s e P → IsPlace text s.stop → IsPlace text e.stop
    place_behind (direct qs h pl d) p = runs_place d p
    place_behind (grouped x d y) p = goes _ _ _ (place_behind d (goes _ _ _ p x.next)) y.next
    place_behind (reserved_key x k e) p = goes _ _ _ p x.next
    place_behind (reserved_word x k e) p = goes _ _ _ p x.next

    runs_place : {o : ℕ} {qs : List (PieceOf Role)} {ps : Parts} {s e : Token} {P : List Pair} → Runs ways Token Next behind o qs ps s e P → IsPlace text s.stop → IsPlace text e.stop
    runs_place done p = p
    runs_place (step q d) p = runs_place d (step_place q p)
    runs_place (opened x d) p = runs_place d (goes _ _ _ p x.next)
    runs_place (closed x d) p = runs_place d (goes _ _ _ p x.next)
    runs_place (within d e) p = runs_place e (place_behind d p)
    runs_place (missing d) p = runs_place d p

  step_words : {q : PieceOf Role} (qs : List (PieceOf Role)) {s m : Token} → Step Token Next behind q s m → IsPlace text s.stop → PieceWords qs → PieceWords (q ∷ qs)
  step_words qs (token x) p h = (read _ _ _ _ _ p x, h)
  step_words qs (with_mark x) p h = h
  step_words qs without_mark p h = h
  step_words qs (one_more x y) p h = h
  step_words qs no_more p h = h
  step_words qs (seen x) p h = h
  step_words qs (same_line x y) p h = h
  step_words qs (left_bare x y) p h = h
  step_words qs (explicit x) p h = h
  step_words qs (implicit x y) p h = h
  step_words qs laid p h = h

  -- the tokens of the way that is run are words
  runs_words : {o : ℕ} {qs : List (PieceOf Role)} {ps : Parts} {s e : Token} {P : List Pair} → Runs ways Token Next behind o qs ps s e P → IsPlace text s.stop → PieceWords qs
  runs_words done p = tt
  runs_words (step {qs = qs} q d) p = step_words qs q p (runs_words d (step_place q p))
  runs_words (opened x d) p = runs_words d (goes _ _ _ p x.next)
  runs_words (closed x d) p = runs_words d (goes _ _ _ p x.next)
  runs_words (within d e) p = runs_words e (place_behind d p)
  runs_words (missing d) p = runs_words d p

  module _ (W : ℕ → Bool) where
    -- behind the key stands a node whose first token is a name: that which the key looks for
    short_echoed : {o : ℕ} {k v : Tree} {a : Role} {s m : Token} {P : List Pair} → Spells ways Token Next behind o shorthand_key k s m P → Named Token Next behind det a v m →
        (r d : ℕ) → NameFirst (text_of k) (printed W v a r d)
    short_echoed {v = v} {a = a} {s = s} {m = m} x y r d =
        let e = echo_form Token Next behind det x in
        let z = subst (λ c. Reads Token Next behind IdentifierName y.text c y.token y.place) (sym e.place) y.reads in
        subst (λ w. NameFirst w (printed W v a r d)) (sym (two_names Token Next behind det e.reads z) ∙ ap text_of (sym e.tree)) (y.prints W r d)

    -- the keys of a node that is spelled by such a way
    all_echoed : {o : ℕ} {qs : List (PieceOf Role)} {ps : Parts} {s e : Token} {P : List Pair} → EchoShape qs → Runs ways Token Next behind o qs ps s e P →
        (xs : List Role) (r : ℕ) → AllLike false (roles qs) xs → AllEchoed W ps xs r
    unfolding AllEchoed Echoed
    all_echoed {ps = ps} (no_echo h) d xs r l = none_all W ps xs r (sym (all_like_echo l) ∙ h)
    all_echoed {ps = ps} before_name d xs r l =
        let f = run_part Token Next behind d in
        let g = run_part Token Next behind f.runs in
        let z = run_none Token Next behind g.runs in
        subst (λ zs. AllEchoed W ps zs r) (sym (key_list (λ y k. like_name k) l)) (subst (λ c. AllEchoed W c (shorthand_key ∷ name ∷ []) r) (sym (f.parts ∙ ap (part f.item) (g.parts ∙ ap (part g.item) z.parts)))
        (pair_echoed W f.item g.item name r refl (λ q k. short_echoed f.spelled (name_named Token Next behind det g.spelled) q k)))
    all_echoed {ps = ps} before_default d xs r l =
        let f = run_part Token Next behind d in
        let g = run_part Token Next behind f.runs in
        let z = run_none Token Next behind g.runs in
        let e = echo_form Token Next behind det f.spelled in
        subst (λ zs. AllEchoed W ps zs r) (sym (key_list (λ y k. like_element k) l)) (subst (λ c. AllEchoed W c (shorthand_key ∷ element true ∷ []) r) (sym (f.parts ∙ ap (part f.item) (g.parts ∙ ap (part g.item) z.parts)))
        (pair_echoed W f.item g.item (element true) r refl (λ q k. short_echoed f.spelled (default_named Token Next behind det
        (subst (λ c. Reads Token Next behind IdentifierName e.text c e.sign e.mid) e.place e.reads) g.spelled) q k)))

    mutual
      unfolding PartsWorded parts_fit AllEchoed

      pub spells_worded : {o : ℕ} {a : Role} {n : Tree} {s e : Token} {P : List Pair} → Spells ways Token Next behind o a n s e P → IsPlace text s.stop →
          (b : Role) → Like false a b → (r : ℕ) → fits W n b r ≡ true → Worded W n b r
      spells_worded {a = a} {n = n} (direct qs h pl d) p b l r f =
          node_worded W n h (runs_words d p) (λ xs q v k. runs_worded d p xs q v k (all_echoed (echo_shape a n h) d xs q v)) b l r f
      spells_worded (grouped x d y) p b same r f = spells_worded d (goes _ _ _ p x.next) b at_expressions r f
      spells_worded (grouped x d y) p b at_expressions r f = spells_worded d (goes _ _ _ p x.next) b at_expressions r f
      spells_worded (reserved_key {w = w} x k e) p b same r f = subst (λ z. Worded W z key r) (sym e) (key_worded W w _ _ r (keyword_named (read _ _ _ _ _ p x)))
      spells_worded (reserved_word {w = w} x k e) p b same r f = subst (λ z. Worded W z word r) (sym e) (word_worded W w _ _ r (keyword_named (read _ _ _ _ _ p x)))

      pub runs_worded : {o : ℕ} {qs : List (PieceOf Role)} {ps : Parts} {s e : Token} {P : List Pair} → Runs ways Token Next behind o qs ps s e P → IsPlace text s.stop →
          (xs : List Role) (r : ℕ) → AllLike false (roles qs) xs → parts_fit W ps xs r ≡ true → AllEchoed W ps xs r → PartsWorded W ps xs r
      runs_worded done p xs r l f m = tt
      runs_worded (step {qs = qs} q d) p xs r l f m = runs_worded d (step_place q p) xs r (subst (λ zs. AllLike false zs xs) (Step-roles Token Next behind qs q) l) f m
      runs_worded (opened x d) p xs r l f m = runs_worded d (goes _ _ _ p x.next) xs r l f m
      runs_worded (closed x d) p xs r l f m = runs_worded d (goes _ _ _ p x.next) xs r l f m
      runs_worded (within {n = n} d e) p (x ∷ xs) r (next l ls) f m =
          let k = and_parts (fits W n x r) _ f in (spells_worded d p x l r k.0, (m.0, runs_worded e (place_behind d p) xs (r + rows n x) ls k.1 m.1))
      runs_worded (within d e) p [] r l f m = elim l [ ]
      runs_worded (missing d) p xs r l f m = runs_worded d p xs r l f m

module _ (text : List ℕ) (u : IsUtf8 text) where
  -- as a language sees it
  module _ (m : Language) where
    seen_word : (c : TokenClass) (w : List ℕ) → Word c w → Word (class_in m c w) w
    seen_word IdentifierName w x = of (is_of_2022 m && is_keyword w) refl
      where
        of : (b : Bool) → (is_of_2022 m && is_keyword w) ≡ b → Word (cond b Keyword IdentifierName) w
        of true h = record { utf8 = x.utf8; is = x.is; kept = (and_parts (is_of_2022 m) _ h).1 }
        of false h = x
    seen_word _ w x = x

    goes_on_seen : (s t e : Token) → IsPlace text s.stop → Seen Token (NextIn text any_goal) m s t e → IsPlace text e.stop
    goes_on_seen s t e p (seen_next x) = read_place u p x

    read_seen : (c : TokenClass) (w : List ℕ) (s t e : Token) → IsPlace text s.stop → Reads Token (Seen Token (NextIn text any_goal) m) (seen_in m) c w s t e → Word c w
    read_seen c w s t e p x = of x.next x.class x.text
      where
        of : {t : Token} → Seen Token (NextIn text any_goal) m s t e → t.class ≡ c → t.text ≡ w → Word c w
        of (seen_next {t = t} y) k q = subst (λ v. Word c v) q (subst (λ d. Word d t.text) k (seen_word t.class t.text (token_word u p (record { next = y; class = refl; text = refl }))))

    pub seen_worded : {o : ℕ} {a : Role} {n : Tree} {s e : Token} {P : List Pair} (W : ℕ → Bool) → Spells ways Token (Seen Token (NextIn text any_goal) m) (seen_in m) o a n s e P → IsPlace text s.stop →
        (b : Role) → Like false a b → (r : ℕ) → fits W n b r ≡ true → Worded W n b r
    seen_worded W d p b l r f = spells_worded text (Seen Token (NextIn text any_goal) m) (seen_in m) (seen_determined Token (NextIn text any_goal) itself m (text_determined text)) goes_on_seen read_seen W d p b l r f
