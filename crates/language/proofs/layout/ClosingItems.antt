-- In the fixed text something closes behind each `yield` without operand.
use Rattle.std.proofs.Common.{◌≡◌, ℕ, zero, suc, ◌+◌, Bool, true, false, cond, not, ◌&&◌, ◌||◌, nat_eq, List, [], ◌∷◌, ◌++◌, refl, sym, ap, ◌∙◌, subst, append_assoc, append-nil}
use Rattle.std.specs.Prelude.{codes, slice_index_or}
use Rattle.std.proofs.lemmas.Bool.{and_parts, and_from, false≢true}
use Rattle.tokens.specs.declared.token.TokenClass.TheVariants.{Template}
use Rattle.std.proofs.Common.{arith}
use Rattle.std.proofs.lemmas.Bool.Decides.{nat_tests}
use Rattle.tree.specs.declared.kind.Kind.{Kind}
use Rattle.tree.specs.declared.kind.Kind.TheVariants as kind
use Rattle.language.specs.Grammar.{template_parts}
use Rattle.tree.specs.Tree.{Tree, node, Parts, none, part, gap, bare}
use Rattle.language.specs.declared.Rank.TheVariants.{Expression}
use Rattle.language.specs.declared.Start.TheVariants.{Any}
use Rattle.language.specs.Pieces.{Role, expr, template_element, PieceOf, tok, may, many, ahead, unbroken, no_operand, ending, open_parameters, close_parameters, sub, absent, never, lay, space, line, feed, deeper, shallower, apart, loose, Spelling}
use Rattle.language.specs.Pieces as piece
use Rattle.language.specs.Grammar.{ways, spellings, fits_position}
use Rattle.language.specs.Derivation.{Among}
use Rattle.language.specs.RowPositions.{has_row, rows, roles, first_roles}
use Rattle.language.specs.Layout.{some_way, inside, indent, first_way}
use Rattle.language.specs.LayoutFits.{lines_up, fits, parts_fit}
use Rattle.language.specs.Readable.{closes_here, closes_next}
use Rattle.language.proofs.layout.ReadItems.{closes_all}
use Rattle.language.specs.Printed.{Item, word, blank, name_ahead, joined, closing, items_text, sign_item, printed, parts_printed}
use Rattle.language.proofs.layout.DerivedFits.{first_roles_are}
use Rattle.language.proofs.table.Alike.{standing_at}
use Rattle.language.proofs.table.ViewIsComplete.{way_of}
use Rattle.language.proofs.table.ClosingPieces.{is_loose, role_closes, closed_at, shuts_at, shuts_settled}
use Rattle.language.proofs.table.ClosingTable.{spelling_shuts}

first_among : (xss : List (List (PieceOf Role))) → some_way xss ≡ true → Among (first_way xss) xss
first_among [] h = absurd (false≢true h)
first_among (qs ∷ xss) h = Rattle.language.specs.Derivation.first

-- each way passes the test
way_shuts : (a : Role) (n : Tree) {qs : List (PieceOf Role)} → Among qs (ways a n) → shuts_at (is_loose a) qs ≡ true
way_shuts a n h =
    let v = way_of h in
    let u = and_parts (fits_position a v.spelling) _ v.fit in
    ap (shuts_at (is_loose a)) v.is ∙ shuts_settled a (is_loose a) v.spelling.pieces u.1 ∙ spelling_shuts a (bare n) v.spelling v.listed u.0

row_on : (x : ℕ) (b : Bool) (r : ℕ) → (nat_eq x 1 && b) ≡ true → x + r ≡ suc r
row_on x b r h = let e : x ≡ 1 = one x (and_parts (nat_eq x 1) _ h).0 in omega (arith, e)
  where
    one : (x : ℕ) → nat_eq x 1 ≡ true → x ≡ 1
    one x h = grind (arith, nat_tests)

one_chunk : (b : Bool) (k : Kind) (w : List ℕ) (s : Spelling) → Among s (template_parts false b k w) → (v : List ℕ) × (s.pieces ≡ tok Template (125 ∷ v) ∷ [])
one_chunk b kind.TemplateElement w s Rattle.language.specs.Derivation.first = (w ++ codes (cond b "`" "${"), refl)
one_chunk b kind.TemplateElement w s (Rattle.language.specs.Derivation.later h) = elim h [ ]
one_chunk b _ w s h = elim h [ ]

-- one step of what is printed for pieces before the next part
module _ (W : ℕ → Bool) where
  of_token : (c : Rattle.tokens.specs.declared.token.TokenClass.TokenClass) (w : List ℕ) (ps : Parts) (qs : List (PieceOf Role)) (r d : ℕ) (t : Bool) → parts_printed W ps (tok c w ∷ qs) r d t ≡ word c w ∷ parts_printed W ps qs r d t
  unfolding parts_printed
  of_token c w none qs r d t = refl
  of_token c w (part n ps) qs r d t = refl
  of_token c w (gap ps) qs r d t = refl

  of_may : (w : List ℕ) (ps : Parts) (qs : List (PieceOf Role)) (r d : ℕ) (t : Bool) → parts_printed W ps (may w ∷ qs) r d t ≡ parts_printed W ps qs r d t
  unfolding parts_printed
  of_may w none qs r d t = refl
  of_may w (part n ps) qs r d t = refl
  of_may w (gap ps) qs r d t = refl

  of_many : (w : List ℕ) (ps : Parts) (qs : List (PieceOf Role)) (r d : ℕ) (t : Bool) → parts_printed W ps (many w ∷ qs) r d t ≡ parts_printed W ps qs r d t
  unfolding parts_printed
  of_many w none qs r d t = refl
  of_many w (part n ps) qs r d t = refl
  of_many w (gap ps) qs r d t = refl

  of_ahead : (w : List ℕ) (ps : Parts) (qs : List (PieceOf Role)) (r d : ℕ) (t : Bool) → parts_printed W ps (ahead w ∷ qs) r d t ≡ name_ahead w ∷ parts_printed W ps qs r d t
  unfolding parts_printed
  of_ahead w none qs r d t = refl
  of_ahead w (part n ps) qs r d t = refl
  of_ahead w (gap ps) qs r d t = refl

  of_line : (ps : Parts) (qs : List (PieceOf Role)) (r d : ℕ) (t : Bool) → parts_printed W ps (unbroken ∷ qs) r d t ≡ joined ∷ parts_printed W ps qs r d t
  unfolding parts_printed
  of_line none qs r d t = refl
  of_line (part n ps) qs r d t = refl
  of_line (gap ps) qs r d t = refl

  of_bare : (ps : Parts) (qs : List (PieceOf Role)) (r d : ℕ) (t : Bool) → parts_printed W ps (no_operand ∷ qs) r d t ≡ closing ∷ parts_printed W ps qs r d t
  unfolding parts_printed
  of_bare none qs r d t = refl
  of_bare (part n ps) qs r d t = refl
  of_bare (gap ps) qs r d t = refl

  of_ending : (e : piece.Ending) (ps : Parts) (qs : List (PieceOf Role)) (r d : ℕ) (t : Bool) → parts_printed W ps (ending e ∷ qs) r d t ≡ sign_item (codes ";") ∷ parts_printed W ps qs r d t
  unfolding parts_printed
  of_ending e none qs r d t = refl
  of_ending e (part n ps) qs r d t = refl
  of_ending e (gap ps) qs r d t = refl

  of_open : (ps : Parts) (qs : List (PieceOf Role)) (r d : ℕ) (t : Bool) → parts_printed W ps (open_parameters ∷ qs) r d t ≡ sign_item (codes "(") ∷ parts_printed W ps qs r d t
  unfolding parts_printed
  of_open none qs r d t = refl
  of_open (part n ps) qs r d t = refl
  of_open (gap ps) qs r d t = refl

  of_close : (ps : Parts) (qs : List (PieceOf Role)) (r d : ℕ) (t : Bool) → parts_printed W ps (close_parameters ∷ qs) r d t ≡ sign_item (codes ")") ∷ parts_printed W ps qs r d t
  unfolding parts_printed
  of_close none qs r d t = refl
  of_close (part n ps) qs r d t = refl
  of_close (gap ps) qs r d t = refl

  of_space : (ps : Parts) (qs : List (PieceOf Role)) (r d : ℕ) (t : Bool) → parts_printed W ps (lay space ∷ qs) r d t ≡ blank (32 ∷ []) ∷ parts_printed W ps qs r d t
  unfolding parts_printed
  of_space none qs r d t = refl
  of_space (part n ps) qs r d t = refl
  of_space (gap ps) qs r d t = refl

  of_row : (ps : Parts) (qs : List (PieceOf Role)) (r d : ℕ) (t : Bool) → parts_printed W ps (lay line ∷ qs) r d t ≡ blank (10 ∷ indent d) ∷ parts_printed W ps qs r d t
  unfolding parts_printed
  of_row none qs r d t = refl
  of_row (part n ps) qs r d t = refl
  of_row (gap ps) qs r d t = refl

  of_feed : (ps : Parts) (qs : List (PieceOf Role)) (r d : ℕ) (t : Bool) → parts_printed W ps (lay feed ∷ qs) r d t ≡ blank (10 ∷ []) ∷ parts_printed W ps qs r d t
  unfolding parts_printed
  of_feed none qs r d t = refl
  of_feed (part n ps) qs r d t = refl
  of_feed (gap ps) qs r d t = refl

  of_deeper : (ps : Parts) (qs : List (PieceOf Role)) (r d : ℕ) (t : Bool) → parts_printed W ps (lay deeper ∷ qs) r d t ≡ parts_printed W ps qs r (suc d) t
  unfolding parts_printed
  of_deeper none qs r d t = refl
  of_deeper (part n ps) qs r d t = refl
  of_deeper (gap ps) qs r d t = refl

  of_shallower : (ps : Parts) (qs : List (PieceOf Role)) (r d : ℕ) (t : Bool) → (e : ℕ) × (parts_printed W ps (lay shallower ∷ qs) r d t ≡ parts_printed W ps qs r e t)
  unfolding parts_printed
  of_shallower none qs r zero t = (zero, refl)
  of_shallower none qs r (suc d) t = (d, refl)
  of_shallower (part n ps) qs r zero t = (zero, refl)
  of_shallower (part n ps) qs r (suc d) t = (d, refl)
  of_shallower (gap ps) qs r zero t = (zero, refl)
  of_shallower (gap ps) qs r (suc d) t = (d, refl)

  of_apart : (c : ℕ) (ps : Parts) (qs : List (PieceOf Role)) (r d : ℕ) (t : Bool) → parts_printed W ps (lay (apart c) ∷ qs) r d t ≡ cond (nat_eq (slice_index_or (items_text (parts_printed W ps qs r d t)) 0 0) c) (blank (32 ∷ []) ∷ parts_printed W ps qs r d t) (parts_printed W ps qs r d t)
  unfolding parts_printed
  of_apart c none qs r d t = refl
  of_apart c (part n ps) qs r d t = refl
  of_apart c (gap ps) qs r d t = refl

  of_loose : (ps : Parts) (qs : List (PieceOf Role)) (r d : ℕ) (t : Bool) → parts_printed W ps (lay loose ∷ qs) r d t ≡ cond t (blank (32 ∷ []) ∷ parts_printed W ps qs r d t) (parts_printed W ps qs r d t)
  unfolding parts_printed
  of_loose none qs r d t = refl
  of_loose (part n ps) qs r d t = refl
  of_loose (gap ps) qs r d t = refl

  on_blank : (w : List ℕ) (c : Bool) (is : List Item) → (closes_all is ≡ true) × (c ≡ true → closes_next is ≡ true) → (closes_all (blank w ∷ is) ≡ true) × (c ≡ true → closes_next (blank w ∷ is) ≡ true)
  on_blank w c is h = h

  on_cond : (b : Bool) (w : List ℕ) (c : Bool) (is xs : List Item) → (closes_all (is ++ xs) ≡ true) × (c ≡ true → closes_next (is ++ xs) ≡ true) → (closes_all (cond b (blank w ∷ is) is ++ xs) ≡ true) × (c ≡ true → closes_next (cond b (blank w ∷ is) is ++ xs) ≡ true)
  on_cond true w c is xs h = on_blank w c (is ++ xs) h
  on_cond false w c is xs h = h

  loose_part : (b c : Bool) → (not b || c) ≡ true → b ≡ true → c ≡ true
  loose_part true c h e = h
  loose_part false c h e = absurd (false≢true e)

  -- a later part of a template begins with `}`
  chunk_items : (ps : Parts) (qs : List (PieceOf Role)) (v : List ℕ) (r d : ℕ) (xs : List Item) → qs ≡ tok Template (125 ∷ v) ∷ [] → closes_next (parts_printed W ps qs r d false ++ xs) ≡ true
  chunk_items ps qs v r d xs e = subst (λ z. closes_next (parts_printed W ps z r d false ++ xs) ≡ true) (sym e) (subst (λ is. closes_next (is ++ xs) ≡ true) (sym (of_token Template (125 ∷ v) ps [] r d false)) refl)

  chunk_closes : (a : Role) (n : Tree) (r d : ℕ) (xs : List Item) → role_closes a ≡ true → fits W n a r ≡ true → closes_next (printed W n a r d ++ xs) ≡ true
  unfolding fits printed spellings
  chunk_closes (template_element false b) (node k w g x y ps) r d xs c f =
      let u = and_parts (some_way (ways (template_element false b) (node k w g x y ps))) _ f in
      let v = way_of (first_among (ways (template_element false b) (node k w g x y ps)) u.0) in
      let one = one_chunk b k w v.spelling v.listed in
      chunk_items ps (first_way (ways (template_element false b) (node k w g x y ps))) one.0 (0 + r) d xs (v.is ∙ ap (standing_at (template_element false b)) one.1)
  chunk_closes _ n r d xs c f = absurd (false≢true c)

  abbrev Close : Parts → Type 0
  Close ps = (l : Bool) (qs : List (PieceOf Role)) (r d : ℕ) (t : Bool) (xs : List Item) → shuts_at l qs ≡ true → lines_up qs ps ≡ true → parts_fit W ps (roles qs) r ≡ true → (l ≡ true → closes_next xs ≡ true) → closes_all xs ≡ true →
      (closes_all (parts_printed W ps qs r d t ++ xs) ≡ true) × (closed_at l qs ≡ true → closes_next (parts_printed W ps qs r d t ++ xs) ≡ true)

  a_node : (n : Tree) (ps : Parts) (a : Role) (r d : ℕ) (xs : List Item) → Close ps → (t : Bool) → (nat_eq (has_row a) 1 && W r) ≡ t →
      (some_way (ways (inside t a) n) && (lines_up (first_way (ways (inside t a) n)) ps && parts_fit W ps (first_roles (ways (inside t a) n)) (has_row a + r))) ≡ true → (is_loose a ≡ true → closes_next xs ≡ true) → closes_all xs ≡ true →
      closes_all (cond t (sign_item (codes "(") ∷ parts_printed W ps (first_way (ways (expr Expression true Any) n)) (suc r) d false ++ sign_item (codes ")") ∷ []) (parts_printed W ps (first_way (ways a n)) (has_row a + r) d false) ++ xs) ≡ true
  a_node n ps a r d xs go false e f after all =
      let u = and_parts (some_way (ways a n)) _ f in
      let v = and_parts (lines_up (first_way (ways a n)) ps) _ u.1 in
      (go (is_loose a) (first_way (ways a n)) (has_row a + r) d false xs (way_shuts a n (first_among (ways a n) u.0)) v.0 (subst (λ zs. parts_fit W ps zs (has_row a + r) ≡ true) (sym (first_roles_are (ways a n))) v.1) after all).0
  a_node n ps a r d xs go true e f after all =
      let E = expr Expression true Any in
      let u = and_parts (some_way (ways E n)) _ f in
      let v = and_parts (lines_up (first_way (ways E n)) ps) _ u.1 in
      let X = parts_printed W ps (first_way (ways E n)) (suc r) d false in
      let z : has_row a + r ≡ suc r = row_on (has_row a) (W r) r e in
      ap closes_all (append_assoc X (sign_item (codes ")") ∷ []) xs)
      ∙ (go true (first_way (ways E n)) (suc r) d false (sign_item (codes ")") ∷ xs) (way_shuts E n (first_among (ways E n) u.0)) v.0
      (subst (λ q. parts_fit W ps (roles (first_way (ways E n))) q ≡ true) z (subst (λ zs. parts_fit W ps zs (has_row a + r) ≡ true) (sym (first_roles_are (ways E n))) v.1)) (λ e. refl) all).0

  mutual
    unfolding fits parts_fit printed parts_printed

    pub node_closes : (n : Tree) (a : Role) (r d : ℕ) (xs : List Item) → fits W n a r ≡ true → (is_loose a ≡ true → closes_next xs ≡ true) → closes_all xs ≡ true → closes_all (printed W n a r d ++ xs) ≡ true
    node_closes (node k w g x y ps) a r d xs f after all = a_node (node k w g x y ps) ps a r d xs (λ l qs q e t ys h i j m c. parts_close ps l qs q e t ys h i j m c) (nat_eq (has_row a) 1 && W r) refl f after all

    parts_close : (ps : Parts) (l : Bool) (qs : List (PieceOf Role)) (r d : ℕ) (t : Bool) (xs : List Item) → shuts_at l qs ≡ true → lines_up qs ps ≡ true → parts_fit W ps (roles qs) r ≡ true → (l ≡ true → closes_next xs ≡ true) → closes_all xs ≡ true →
        (closes_all (parts_printed W ps qs r d t ++ xs) ≡ true) × (closed_at l qs ≡ true → closes_next (parts_printed W ps qs r d t ++ xs) ≡ true)
    parts_close none l [] r d t xs s k f after all = (all, after)
    parts_close (part n ps) l [] r d t xs s k f after all = absurd (false≢true k)
    parts_close (gap ps) l [] r d t xs s k f after all = absurd (false≢true k)
    parts_close none l (sub a ∷ qs) r d t xs s k f after all = absurd (false≢true k)
    parts_close (gap ps) l (sub a ∷ qs) r d t xs s k f after all = absurd (false≢true k)
    parts_close (part n ps) l (sub a ∷ qs) r d t xs s k f after all =
        let u = and_parts (not (is_loose a) || closed_at l qs) _ s in
        let v = and_parts (fits W n a r) _ f in
        let rest = parts_printed W ps qs (r + rows n a) d (not (W r)) in
        let later = parts_close ps l qs (r + rows n a) d (not (W r)) xs u.1 k v.1 after all in
        let same : (printed W n a r d ++ rest) ++ xs ≡ printed W n a r d ++ (rest ++ xs) = append_assoc (printed W n a r d) rest xs in
        (ap closes_all same ∙ node_closes n a r d (rest ++ xs) v.0 (λ e. later.1 (loose_part (is_loose a) (closed_at l qs) u.0 e)) later.0, λ c. ap closes_next same ∙ chunk_closes a n r d (rest ++ xs) c v.0)
    parts_close none l (absent ∷ qs) r d t xs s k f after all = absurd (false≢true k)
    parts_close (part n ps) l (absent ∷ qs) r d t xs s k f after all = absurd (false≢true k)
    parts_close (gap ps) l (absent ∷ qs) r d t xs s k f after all = parts_close ps l qs r d false xs s k f after all
    parts_close ps l (never ∷ qs) r d t xs s k f after all = absurd (false≢true s)
    parts_close ps l (tok c w ∷ qs) r d t xs s k f after all =
        let u = parts_close ps l qs r d t xs s k f after all in
        subst (λ is. (closes_all (is ++ xs) ≡ true) × (closes_here c w ≡ true → closes_next (is ++ xs) ≡ true)) (sym (of_token c w ps qs r d t)) ((u.0, λ h. h))
    parts_close ps l (may w ∷ qs) r d t xs s k f after all =
        let u = parts_close ps l qs r d t xs s k f after all in
        subst (λ is. (closes_all (is ++ xs) ≡ true) × (closed_at l qs ≡ true → closes_next (is ++ xs) ≡ true)) (sym (of_may w ps qs r d t)) (u)
    parts_close ps l (many w ∷ qs) r d t xs s k f after all =
        let u = parts_close ps l qs r d t xs s k f after all in
        subst (λ is. (closes_all (is ++ xs) ≡ true) × (closed_at l qs ≡ true → closes_next (is ++ xs) ≡ true)) (sym (of_many w ps qs r d t)) (u)
    parts_close ps l (ahead w ∷ qs) r d t xs s k f after all =
        let u = parts_close ps l qs r d t xs s k f after all in
        subst (λ is. (closes_all (is ++ xs) ≡ true) × (false ≡ true → closes_next (is ++ xs) ≡ true)) (sym (of_ahead w ps qs r d t)) ((u.0, λ h. absurd (false≢true h)))
    parts_close ps l (unbroken ∷ qs) r d t xs s k f after all =
        let u = parts_close ps l qs r d t xs s k f after all in
        subst (λ is. (closes_all (is ++ xs) ≡ true) × (closed_at l qs ≡ true → closes_next (is ++ xs) ≡ true)) (sym (of_line ps qs r d t)) (u)
    parts_close ps l (no_operand ∷ qs) r d t xs s k f after all =
        let u = parts_close ps l qs r d t xs (and_parts (closed_at l qs) _ s).1 k f after all in
        subst (λ is. (closes_all (is ++ xs) ≡ true) × (closed_at l qs ≡ true → closes_next (is ++ xs) ≡ true)) (sym (of_bare ps qs r d t)) ((and_from _ _ (u.1 (and_parts (closed_at l qs) _ s).0) u.0, u.1))
    parts_close ps l (ending e ∷ qs) r d t xs s k f after all =
        let u = parts_close ps l qs r d t xs s k f after all in
        subst (λ is. (closes_all (is ++ xs) ≡ true) × (true ≡ true → closes_next (is ++ xs) ≡ true)) (sym (of_ending e ps qs r d t)) ((u.0, λ h. refl))
    parts_close ps l (open_parameters ∷ qs) r d t xs s k f after all =
        let u = parts_close ps l qs r d t xs s k f after all in
        subst (λ is. (closes_all (is ++ xs) ≡ true) × (false ≡ true → closes_next (is ++ xs) ≡ true)) (sym (of_open ps qs r d t)) ((u.0, λ h. absurd (false≢true h)))
    parts_close ps l (close_parameters ∷ qs) r d t xs s k f after all =
        let u = parts_close ps l qs r d t xs s k f after all in
        subst (λ is. (closes_all (is ++ xs) ≡ true) × (true ≡ true → closes_next (is ++ xs) ≡ true)) (sym (of_close ps qs r d t)) ((u.0, λ h. refl))
    parts_close ps l (lay space ∷ qs) r d t xs s k f after all =
        let u = parts_close ps l qs r d t xs s k f after all in
        subst (λ is. (closes_all (is ++ xs) ≡ true) × (closed_at l qs ≡ true → closes_next (is ++ xs) ≡ true)) (sym (of_space ps qs r d t)) (on_blank (32 ∷ []) (closed_at l qs) (parts_printed W ps qs r d t ++ xs) u)
    parts_close ps l (lay line ∷ qs) r d t xs s k f after all =
        let u = parts_close ps l qs r d t xs s k f after all in
        subst (λ is. (closes_all (is ++ xs) ≡ true) × (closed_at l qs ≡ true → closes_next (is ++ xs) ≡ true)) (sym (of_row ps qs r d t)) (on_blank (10 ∷ indent d) (closed_at l qs) (parts_printed W ps qs r d t ++ xs) u)
    parts_close ps l (lay feed ∷ qs) r d t xs s k f after all =
        let u = parts_close ps l qs r d t xs s k f after all in
        subst (λ is. (closes_all (is ++ xs) ≡ true) × (closed_at l qs ≡ true → closes_next (is ++ xs) ≡ true)) (sym (of_feed ps qs r d t)) (on_blank (10 ∷ []) (closed_at l qs) (parts_printed W ps qs r d t ++ xs) u)
    parts_close ps l (lay deeper ∷ qs) r d t xs s k f after all =
        let u = parts_close ps l qs r (suc d) t xs s k f after all in
        subst (λ is. (closes_all (is ++ xs) ≡ true) × (closed_at l qs ≡ true → closes_next (is ++ xs) ≡ true)) (sym (of_deeper ps qs r d t)) (u)
    parts_close ps l (lay shallower ∷ qs) r d t xs s k f after all =
        let e = of_shallower ps qs r d t in
        subst (λ is. (closes_all (is ++ xs) ≡ true) × (closed_at l qs ≡ true → closes_next (is ++ xs) ≡ true)) (sym e.1) (parts_close ps l qs r e.0 t xs s k f after all)
    parts_close ps l (lay (apart c) ∷ qs) r d t xs s k f after all =
        let u = parts_close ps l qs r d t xs s k f after all in
        subst (λ is. (closes_all (is ++ xs) ≡ true) × (closed_at l qs ≡ true → closes_next (is ++ xs) ≡ true)) (sym (of_apart c ps qs r d t)) (on_cond (nat_eq (slice_index_or (items_text (parts_printed W ps qs r d t)) 0 0) c) (32 ∷ []) (closed_at l qs) (parts_printed W ps qs r d t) xs u)
    parts_close ps l (lay loose ∷ qs) r d t xs s k f after all =
        let u = parts_close ps l qs r d t xs s k f after all in
        subst (λ is. (closes_all (is ++ xs) ≡ true) × (closed_at l qs ≡ true → closes_next (is ++ xs) ≡ true)) (sym (of_loose ps qs r d t)) (on_cond t (32 ∷ []) (closed_at l qs) (parts_printed W ps qs r d t) xs u)

-- so it is in the fixed text
pub script_closes : (W : ℕ → Bool) (n : Tree) → fits W n piece.script 1 ≡ true → closes_all (printed W n piece.script 1 0) ≡ true
script_closes W n f = ap closes_all (sym (append-nil (printed W n piece.script 1 0))) ∙ node_closes W n piece.script 1 0 [] f (λ e. refl) refl
