-- A cell is the least number of pairs over all direct spellings, and the node's own layout attains it.
use Rattle.std.proofs.Common.{◌≡◌, ℕ, ◌≤◌, Bool, true, false, cond, nat_le, List, [], ◌∷◌, ◌++◌, length, Option, Some, None, refl, sym, ap, ◌∙◌, subst, arith, is_some}
use Rattle.std.specs.Prelude.{◌&&◌, codes}
use Rattle.std.specs.Str.{IsUtf8}
use Rattle.std.proofs.lemmas.Bool.{and_from, false≢true}
use Rattle.tokens.specs.Reading.{any_goal}
use Rattle.tree.specs.declared.kind.Pair.{Pair}
use Rattle.tree.specs.Tree.{Tree, node, Parts, parts_of, bare_parts, SameTree}
use Rattle.language.specs.declared.Rank.{Rank}
use Rattle.language.specs.declared.Rank.TheVariants.{Expression}
use Rattle.language.specs.declared.Start.{Start}
use Rattle.language.specs.declared.Start.TheVariants.{Any}
use Rattle.language.specs.Vocabulary.{precedence}
use Rattle.language.specs.Pieces.{Role, expr, PieceOf}
use Rattle.language.specs.Token.{Token}
use Rattle.language.specs.Cursor.{beginning, Next, next, behind}
use Rattle.language.specs.declared.Language.{Language}
use Rattle.language.specs.Languages.{is_of_2022, Seen, seen_in}
use Rattle.language.specs.Places.{NextIn, itself}
use Rattle.language.specs.Grammar.{ways}
use Rattle.language.specs.RowPositions.{roles, first_roles}
use Rattle.language.specs.Derivation.{Among, direct, Runs}
use Rattle.language.specs.Cost.{AtMost, at_most, if_any, cell, parts_least}
use Rattle.language.specs.Layout.{some_way, inside, has_number, first_way}
use Rattle.language.specs.LayoutFits.{lines_up, fits, parts_fit, PartsMark}
use Rattle.language.specs.Printed.{Item, word, blank, name_ahead, joined, items_text, printed, parts_printed, parts_open, parts_pair_count, Follows, over, reads, passes, sees, stays, leaves, GoesOn}
use Rattle.language.specs.Printed as item
use Rattle.language.specs.Claims.{SpellsDirectly}
use Rattle.language.proofs.table.LooserPositions.{same}
use Rattle.language.proofs.lower_bound.LowerBound.{parts_lower_bound}
use Rattle.language.proofs.layout.SameLayouts.{cell-bare}
use Rattle.language.proofs.table.Alike.{at_expressions}
use Rattle.language.proofs.layout.DerivedFits.{first_alike, first_among, first_roles_are, runs_fit, runs_line_up}
use Rattle.language.proofs.layout.WrappedRows.{parts_mark, parts_between}
use Rattle.language.proofs.layout.LayoutPairs.{parts_counted}
use Rattle.language.proofs.layout.PrintedSpells.{parts_run, way_runs, same_ways}
use Rattle.language.proofs.layout.ReadItems.{Readable, ends, a_word, closes_all, text_is_read}
use Rattle.language.proofs.layout.ClosingItems.{node_closes}
use Rattle.language.proofs.layout.LooseReadings.{Loose}
use Rattle.language.proofs.layout.KeptNames.{Kept, PartsKept, spells_kept, kept_like, kept_same}
use Rattle.language.proofs.layout.ToldNames.{runs_told}
use Rattle.language.proofs.layout.LaidTexts.{no_keyword, read_stays}
use Rattle.language.proofs.texts.TextOffsets.{text_determined}
use Rattle.language.proofs.layout.LaidItems.{text_join, parts_printed_text}
use Rattle.language.proofs.layout.PunctuatorsApart.{closed_sign_apart}
use Rattle.language.proofs.table.NeatPieces.{sort_of, a_tight, an_operand}
use Rattle.language.proofs.table.TreesOfWords.{Worded, names_stay}
use Rattle.language.proofs.texts.DerivedWords.{seen_worded}
use Rattle.language.proofs.layout.WalkNodes.{node_walk, After, is_open_node}
use Rattle.language.proofs.table.NodeEnds.{node_ends}
use Rattle.language.proofs.table.NodeFronts.{node_fronts}
use Rattle.spellings.proofs.Slots.{parts_plain}
use Rattle.paren_planner.proofs.Totals.{parts_count}
use Rattle.language.specs.ExactCells.{inner_wrapped, laid_directly, laid_tokens, laid_text, closing, SpelledAsLaid}
use Rattle.language.specs.ExactIn.{SpelledInTextIn, IsLeastIn}
use Rattle.cost_table.proofs.Tighter.{dominated_at}
use Rattle.paren_planner.proofs.Somewhere.{Somewhere}
use Rattle.paren_planner.proofs.LaidTokens.{closing_items, in_front}

-- No direct spelling has fewer pairs than the cell

same_cell : (n m : Tree) (a : Role) → SameTree m n → cell m a ≡ cell n a
same_cell n m a h = sym (cell-bare m a) ∙ ap (λ x. cell x a) h ∙ cell-bare n a

pub direct_at_least : (n : Tree) (a : Role) (ts us : List Token) (P : List Pair) → SpellsDirectly a n ts us P → AtMost (cell n a) (length P)
unfolding cell
direct_at_least n a ts us P (m, o, qs, h, k, d) =
    subst (λ x. AtMost x (length P)) (same_cell n m a h)
    (dominated_at m a a a qs (parts_least (parts_of m)) (length P) same same k (λ xs u. parts_lower_bound (List Token) Next behind d xs u))

none_directly : (x : Option ℕ) (m : ℕ) → x ≡ None → AtMost x m → ⊥
none_directly None m h k = elim k [ ]
none_directly (Some c) m h k = absurd (cc)

low : (x : Option ℕ) (c m : ℕ) → x ≡ Some c → AtMost x m → c ≤ m
low None c m h k = elim k [ ]
low (Some b) c m h (at_most k) = let e : b ≡ c = cc in omega (arith, e, k)

-- The layout attains it

way_given : (xs : List (List (PieceOf Role))) (x : Option ℕ) (c : ℕ) → if_any xs x ≡ Some c → (some_way xs ≡ true) × (x ≡ Some c)
unfolding if_any
way_given [] x c h = absurd (cc)
way_given (y ∷ ys) x c h = (refl, h)

cell_given : (n : Tree) (a : Role) (c : ℕ) → cell n a ≡ Some c → (some_way (ways a n) ≡ true) × (parts_least (parts_of n) (first_roles (ways a n)) ≡ Some c)
unfolding cell
cell_given n a c h = way_given (ways a n) _ c h

not_true : (x : Bool) → (x ≡ true → ⊥) → x ≡ false
not_true true h = absurd (h refl)
not_true false h = refl

-- a node whose own row isn't wrapped can be laid out where its parts can
fits_unwrapped : (W : ℕ → Bool) (n : Tree) (y : Rank) (i : Bool) (f : Start) → W 1 ≡ false → some_way (ways (expr y i f) n) ≡ true → lines_up (first_way (ways (expr y i f) n)) (parts_of n) ≡ true →
    parts_fit W (parts_of n) (first_roles (ways (expr y i f) n)) 2 ≡ true → fits W n (expr y i f) 1 ≡ true
unfolding fits
fits_unwrapped W (node k w g s e ps) y i f own some lines fit =
    let n = node k w g s e ps in
    subst (λ t. (some_way (ways (inside t (expr y i f)) n) && (lines_up (first_way (ways (inside t (expr y i f)) n)) ps && parts_fit W ps (first_roles (ways (inside t (expr y i f)) n)) 2)) ≡ true) (sym own)
    (and_from _ _ some (and_from _ _ lines fit))

printed_unwrapped : (W : ℕ → Bool) (n : Tree) (y : Rank) (i : Bool) (f : Start) → W 1 ≡ false → printed W n (expr y i f) 1 0 ≡ parts_printed W (parts_of n) (first_way (ways (expr y i f) n)) 2 0 false
unfolding printed
printed_unwrapped W (node k w g s e ps) y i f own =
    let n = node k w g s e ps in
    ap (λ t. cond t (Rattle.language.specs.Printed.sign_item (codes "(") ∷ parts_printed W ps (first_way (ways (expr Expression true Any) n)) 2 0 false ++ Rattle.language.specs.Printed.sign_item (codes ")") ∷ []) (parts_printed W ps (first_way (ways (expr y i f) n)) 2 0 false)) own

after_closing : (y : Rank) (i : Bool) (f : Start) (o : Bool) → After (sort_of (expr y i f)) o (items_text closing_items) ≡ true
after_closing y i f o = of (nat_le 18 (precedence y)) o
  where
    of : (b o : Bool) → After (cond b a_tight an_operand) o (items_text closing_items) ≡ true
    of true true = refl
    of true false = refl
    of false true = refl
    of false false = refl

closing_readable : Readable closing_items
closing_readable = a_word (closed_sign_apart (codes ")") [] refl) ends

-- names are kept in each way of a node that keeps them
kept_way : (told : Bool) (n : Tree) (y : Rank) (i : Bool) (f : Start) → Kept told n (expr y i f) → (qs : List (PieceOf Role)) → Among qs (ways (expr y i f) n) → (names_stay told qs ≡ true) × PartsKept told (parts_of n) (roles qs)
unfolding Kept
kept_way told (node k w g s e ps) y i f h qs x = h refl (expr y i f) at_expressions qs x

-- What the items of the layout spell, at any kind of places

record Laid (S : Type 0) (Next : S → Token → S → Type 0) (behind : S → Token) (a : Role) (n : Tree) (s e : S) (c : ℕ) : Type 0 where
  pairs : List Pair
  tree : Tree
  most : ℕ
  way : List (PieceOf Role)
  alike : SameTree tree n
  among : Among way (ways a tree)
  runs : Runs ways S Next behind most way (parts_of tree) s e pairs
  counted : length pairs ≡ c

module _ (S : Type 0) (Next : S → Token → S → Type 0) (behind : S → Token) where
  -- the tree with other parts, at no place
  laid_at : (n : Tree) (a : Role) (s e : S) (P : List Pair) (o c : ℕ) (qs : List (PieceOf Role)) (parts : Parts) → Among qs (ways a n) → bare_parts parts ≡ bare_parts (parts_of n) →
      Runs ways S Next behind o qs parts s e P → length P ≡ c → Laid S Next behind a n s e c
  laid_at (node k w g x y ps) a s e P o c qs parts h alike d l =
      let whole : SameTree (node k w g 0 0 parts) (node k w g x y ps) = ap (λ z. node k w g 0 0 z) alike in
      record { pairs = P; tree = node k w g 0 0 parts; most = o; way = qs; alike = whole; among = subst (λ z. Among qs z) (sym (same_ways a (node k w g 0 0 parts) (node k w g x y ps) whole)) h; runs = d; counted = l }

  -- items before others are read before them
  record Fronted (xs : List Item) (s e : S) : Type 0 where
    mid : S
    follows : Follows S Next behind xs s mid
    others : Follows S Next behind closing_items mid e

  fronted : (xs : List Item) {s e : S} → Follows S Next behind (xs ++ closing_items) s e → Fronted xs s e
  fronted [] {s = s} f = record { mid = s; follows = over; others = f }
  fronted (word c w ∷ xs) (reads r f) = let h = fronted xs f in record { mid = h.mid; follows = reads r h.follows; others = h.others }
  fronted (blank w ∷ xs) (passes f) = let h = fronted xs f in record { mid = h.mid; follows = passes h.follows; others = h.others }
  fronted (name_ahead w ∷ xs) (sees r f) = let h = fronted xs f in record { mid = h.mid; follows = sees r h.follows; others = h.others }
  fronted (joined ∷ xs) (stays n b f) = let h = fronted xs f in record { mid = h.mid; follows = stays n b h.follows; others = h.others }
  fronted (item.closing ∷ xs) (leaves n b f) = let h = fronted xs f in record { mid = h.mid; follows = leaves n b h.follows; others = h.others }

  closing_goes_on : {s e : S} → Follows S Next behind closing_items s e → GoesOn S Next behind s
  closing_goes_on (reads {t = t} {m = m} r f) = record { token = t; place = m; next = r.next }

module _ (language : Language) (text : List ℕ) (u : IsUtf8 text) where
  -- what is known of a node that has a cell
  record Placeable (n : Tree) (a : Role) (c : ℕ) : Type 0 where
    readable : Readable (laid_directly n a ++ closing_items)
    closes : closes_all (laid_directly n a ++ closing_items) ≡ true
    kept : Kept (is_of_2022 language) n a
    among : Among (first_way (ways a n)) (ways a n)
    lines : lines_up (first_way (ways a n)) (parts_of n) ≡ true
    fit : parts_fit (has_number (inner_wrapped n a)) (parts_of n) (roles (first_way (ways a n))) 2 ≡ true
    counted : parts_pair_count (has_number (inner_wrapped n a)) (parts_of n) (roles (first_way (ways a n))) 2 ≡ c

  placeable : (n : Tree) (y : Rank) (i : Bool) (f : Start) (c : ℕ) → Somewhere language text n → cell n (expr y i f) ≡ Some c → Placeable n (expr y i f) c
  unfolding inner_wrapped laid_directly
  placeable n y i f c x h =
      let a = expr y i f in
      let W = has_number (inner_wrapped n a) in
      let given = cell_given n a c h in
      let xs = first_roles (ways a n) in
      let alike = first_alike {b = false} {c = a} n at_expressions (λ e. absurd (false≢true e)) x.among given.0 in
      let marks : PartsMark W (parts_of n) xs 2 = parts_mark W (parts_of n) xs 2 (λ k from to. refl) in
      let fit : parts_fit W (parts_of n) xs 2 ≡ true = runs_fit Token (Seen Token (NextIn text any_goal) language) (seen_in language) W x.runs xs 2 alike.0 (ap is_some given.1) marks in
      let lines : lines_up (first_way (ways a n)) (parts_of n) ≡ true = sym (alike.1 (parts_of n)) ∙ runs_line_up Token (Seen Token (NextIn text any_goal) language) (seen_in language) x.runs in
      let own : W 1 ≡ false = not_true (W 1) (λ e. let z = (parts_between (parts_of n) xs 2 1 e).from in absurd (omega (arith, z))) in
      let whole : fits W n a 1 ≡ true = fits_unwrapped W n y i f own given.0 lines fit in
      let worded : Worded W n a 1 = seen_worded text u language W (direct x.way x.among x.stands x.runs) x.place a at_expressions 1 whole in
      let readable : Readable (printed W n a 1 0 ++ closing_items) = node_walk W node_ends (node_fronts W) n a 1 0 closing_items refl whole worded closing_readable (λ e. after_closing y i f (is_open_node n)) in
      let same_items = printed_unwrapped W n y i f own in
      let kept = spells_kept Token (Seen Token (NextIn text any_goal) language) (seen_in language) (is_of_2022 language) (λ c w s e t z. read_stays language text c w s e t z) (direct x.way x.among x.stands x.runs) in
      record {
        readable = subst (λ is. Readable (is ++ closing_items)) same_items readable;
        closes = subst (λ is. closes_all (is ++ closing_items) ≡ true) same_items (node_closes W n a 1 0 closing_items whole (λ e. refl) refl);
        kept = kept_like (is_of_2022 language) n at_expressions kept;
        among = first_among (ways a n) given.0;
        lines = lines;
        fit = subst (λ zs. parts_fit W (parts_of n) zs 2 ≡ true) (sym (first_roles_are (ways a n))) fit;
        counted = subst (λ zs. parts_pair_count W (parts_of n) zs 2 ≡ c) (sym (first_roles_are (ways a n))) (parts_counted W (parts_of n) xs 2 marks ∙ parts_count (parts_of n) xs 2 c (parts_plain a n) given.1);
      }

  -- what follows its items is spelled there
  laid_spells : (S : Type 0) (Next : S → Token → S → Type 0) (behind : S → Token) (n : Tree) (a : Role) (c : ℕ) (s e : S) → Placeable n a c → Follows S Next behind (laid_directly n a) s e → GoesOn S Next behind e → Laid S Next behind a n s e c
  unfolding laid_directly
  laid_spells S Next behind n a c s e x f g =
      let W = has_number (inner_wrapped n a) in
      let qs = first_way (ways a n) in
      let ran = parts_run S Next behind W (parts_of n) qs 2 0 false (parts_open W (parts_of n) qs 2) s e x.lines (way_runs a n x.among) x.fit (omega arith) f g in
      laid_at S Next behind n a s e ran.pairs _ c qs ran.parts x.among ran.same ran.runs (ran.counted ∙ x.counted)

  as_laid : (n : Tree) (a : Role) (c : ℕ) → Placeable n a c → SpelledAsLaid a n c
  as_laid n a c x =
      let front = in_front (laid_directly n a) beginning x.readable x.closes in
      let l = laid_spells (List Token) Next behind n a c (laid_tokens n a) (front.last ∷ closing ∷ []) x front.follows (record { token = closing; place = closing ∷ []; next = next }) in
      (front.last, l.pairs, (l.tree, l.most, l.way, l.alike, l.among, l.runs), l.counted)

  items_are : (n : Tree) (a : Role) → items_text (laid_directly n a ++ closing_items) ≡ laid_text n a
  unfolding laid_directly
  items_are n a = text_join (laid_directly n a) closing_items ∙ ap (λ z. z ++ codes ")") (parts_printed_text (has_number (inner_wrapped n a)) (parts_of n) (first_way (ways a n)) 2 0 false)

  in_text : (n : Tree) (y : Rank) (i : Bool) (f : Start) (c : ℕ) → Placeable n (expr y i f) c → SpelledInTextIn language (expr y i f) n c
  in_text n y i f c x =
      let a = expr y i f in
      let is = laid_directly n a ++ closing_items in
      let r = text_is_read is x.readable x.closes in
      let front = fronted Token (Loose Token (NextIn (items_text is) any_goal)) itself (laid_directly n a) r.follows in
      let l = laid_spells Token (Loose Token (NextIn (items_text is) any_goal)) itself n a c beginning front.mid x front.follows (closing_goes_on Token (Loose Token (NextIn (items_text is) any_goal)) itself front.others) in
      let kept = kept_way (is_of_2022 language) l.tree y i f (kept_same (is_of_2022 language) l.tree n a l.alike x.kept) l.way l.among in
      let told = runs_told Token (NextIn (items_text is) any_goal) itself language (λ s a b e f g h. (text_determined (items_text is)).start s a b e f g h) (λ s t e g h. no_keyword (items_text is) s t e g h) l.runs kept.0 kept.1 in (
        front.mid,
        l.pairs,
        l.tree,
        l.most,
        l.way,
        l.alike,
        l.among,
        subst (λ t. Runs ways Token (Seen Token (NextIn t any_goal) language) (seen_in language) l.most l.way (parts_of l.tree) beginning front.mid l.pairs) (items_are n a) told,
        l.counted,
      )

  pub least_cell : (n : Tree) (y : Rank) (i : Bool) (f : Start) (x : Option ℕ) → Somewhere language text n → cell n (expr y i f) ≡ x → IsLeastIn language (expr y i f) n x
  least_cell n y i f None s h = λ ts us P d. none_directly _ _ h (direct_at_least n (expr y i f) ts us P d)
  least_cell n y i f (Some c) s h = (λ ts us P d. low _ c _ h (direct_at_least n (expr y i f) ts us P d), (let x = placeable n y i f c s h in as_laid n (expr y i f) c x), (let x = placeable n y i f c s h in in_text n y i f c x))
