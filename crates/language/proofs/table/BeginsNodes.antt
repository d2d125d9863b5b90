-- The layout of a node begins with a word.
use Rattle.std.proofs.Common.{◌≡◌, ℕ, zero, suc, ◌+◌, Bool, true, false, cond, not, ◌&&◌, nat_eq, List, [], ◌∷◌, ◌++◌, refl, sym, ap, ◌∙◌, subst, inl, inr, ◌⊎◌}
use Rattle.std.specs.Prelude.{codes}
use Rattle.std.proofs.lemmas.Bool.{and_parts, false≢true}
use Rattle.tokens.specs.declared.token.TokenClass.{TokenClass}
use Rattle.tokens.specs.declared.token.TokenClass.TheVariants.{Punctuator, End}
use Rattle.tree.specs.Tree.{Tree, node, Parts, none, part, gap, parts_of, text_of, bare}
use Rattle.tree.specs.Uses.{is_lean}
use Rattle.tree.specs.declared.kind.Kind.TheVariants as kind
use Rattle.language.specs.declared.Rank.TheVariants.{Expression}
use Rattle.language.specs.declared.Start.TheVariants.{Any}
use Rattle.language.specs.Pieces.{Role, expr, shorthand_key, script, PieceOf, Piece, tok, may, many, ahead, unbroken, no_operand, ending, open_parameters, close_parameters, sub, absent, never, lay, space, line, feed, deeper, shallower, apart, loose}
use Rattle.language.specs.Grammar.{ways, ways_bare, spellings, can_run, own_rank, own_in, own_start}
use Rattle.language.specs.RowPositions.{has_row, rows, roles, first_roles}
use Rattle.language.specs.Layout.{some_way, inside, lead_depth, after_part, first_way, next_role}
use Rattle.language.specs.LayoutFits.{lines_up, fits, parts_fit}
use Rattle.language.specs.Printed.{Item, word, name_ahead, sign_item, lead_items, printed, parts_printed}
use Rattle.language.proofs.layout.DerivedFits.{first_roles_are}
use Rattle.language.proofs.table.Alike.{standing_at}
use Rattle.language.proofs.table.NeatPieces.{fresh, echoed, neat, first_code, takes_token, takes_part, goes_behind, echo_followed, leads_part, loose_first, slot_sort, sort_of}
use Rattle.language.proofs.table.NeatPieces.{behind_part as touch_behind}
use Rattle.language.proofs.table.NeatExpressions.{first_is_open}
use Rattle.language.proofs.table.NeatTable.{is_plain}
use Rattle.language.proofs.table.TreesOfWords.{PieceWords, NameFirst, name_first, Worded, PartsWorded, Echoed}
use Rattle.language.proofs.table.FirstWords.{Starts, a_word_first, a_name_seen, starts_on, word_front, sign_starts, not_end}
use Rattle.language.proofs.layout.WordsApart.{Word}
use Rattle.language.proofs.table.WayPieces.{settled_sort, placed, part_position, first_is_neat, TailOf, whole_tail, is_tail}

not_true : (b : Bool) → not b ≡ true → b ≡ false
not_true true h = absurd (false≢true h)
not_true false h = refl

-- a first token
token_starts : (c : TokenClass) (w : List ℕ) (qs : List Piece) (is : List Item) → takes_token fresh c w ≡ true → goes_behind c w qs ≡ true → Word c w → Starts (word c w ∷ is)
token_starts End w qs is h g x = absurd (false≢true g)
token_starts Punctuator w qs is h g x = a_word_first x (word_front x not_end (λ e. not_true _ h))
token_starts c w qs is h g x = a_word_first x (word_front x (λ e. other c w g e) (λ e. sign c w h e))
  where
    other : (c : TokenClass) (w : List ℕ) → goes_behind c w qs ≡ true → c ≡ End → ⊥
    other c w g e = false≢true (subst (λ z. goes_behind z w qs ≡ true) e g)

    sign : (c : TokenClass) (w : List ℕ) → takes_token fresh c w ≡ true → c ≡ Punctuator → nat_eq (first_code w) 61 ≡ false
    sign c w h e = not_true _ (subst (λ z. takes_token fresh z w ≡ true) e h)

-- pieces up to the next part, where nothing stands before
lead_starts : (a : Role) (qs : List Piece) (d : ℕ) (t b o : Bool) (is : List Item) → neat b o fresh qs ≡ true → can_run qs ≡ true → PieceWords (standing_at a qs) →
    ((rs : List Piece) → TailOf a qs rs → neat b o fresh rs ≡ true → can_run rs ≡ true → PieceWords (standing_at a rs) → is_tail rs ≡ true → Starts is) → Starts (lead_items d t (standing_at a qs) is)
lead_starts a [] d t b o is h k w go = absurd (false≢true h)
lead_starts a (sub x ∷ qs) d t b o is h k w go = go (sub x ∷ qs) (whole_tail a (sub x ∷ qs)) h k w refl
lead_starts a (absent ∷ qs) d t b o is h k w go = go (absent ∷ qs) (whole_tail a (absent ∷ qs)) h k w refl
lead_starts a (tok c v ∷ qs) d t b o is h k w go = let u = and_parts (takes_token fresh c v) _ h in token_starts c v qs _ u.0 (and_parts (goes_behind c v qs) _ u.1).0 w.0
lead_starts a (may v ∷ qs) d t b o is h k w go = lead_starts a qs d t b o is h k w (λ rs u x y z v. go rs (record { roles = u.roles; behind = u.behind; lines = u.lines }) x y z v)
lead_starts a (many v ∷ qs) d t b o is h k w go = lead_starts a qs d t b o is h k w (λ rs u x y z v. go rs (record { roles = u.roles; behind = u.behind; lines = u.lines }) x y z v)
lead_starts a (ahead v ∷ qs) d t b o is h k w go = absurd (false≢true h)
lead_starts a (unbroken ∷ qs) d t b o is h k w go = absurd (false≢true h)
lead_starts a (no_operand ∷ []) d t b o is h k w go = absurd (false≢true h)
lead_starts a (no_operand ∷ q ∷ qs) d t b o is h k w go = absurd (false≢true h)
lead_starts a (ending e ∷ qs) d t b o is h k w go = sign_starts (codes ";") _ refl refl
lead_starts a (open_parameters ∷ qs) d t b o is h k w go = sign_starts (codes "(") _ refl refl
lead_starts a (close_parameters ∷ qs) d t b o is h k w go = sign_starts (codes ")") _ refl refl
lead_starts a (never ∷ qs) d t b o is h k w go = absurd (false≢true k)
lead_starts a (lay space ∷ qs) d t b o is h k w go = absurd (false≢true h)
lead_starts a (lay line ∷ qs) d t b o is h k w go = absurd (false≢true h)
lead_starts a (lay feed ∷ qs) d t b o is h k w go = absurd (false≢true h)
lead_starts a (lay (apart c) ∷ qs) d t b o is h k w go = absurd (false≢true h)
lead_starts a (lay loose ∷ qs) d t b o is h k w go = absurd (false≢true h)
lead_starts a (lay deeper ∷ qs) d t b o is h k w go = lead_starts a qs (suc d) t b o is h k w (λ rs u x y z v. go rs (record { roles = u.roles; behind = u.behind; lines = u.lines }) x y z v)
lead_starts a (lay shallower ∷ qs) zero t b o is h k w go = lead_starts a qs zero t b o is h k w (λ rs u x y z v. go rs (record { roles = u.roles; behind = u.behind; lines = u.lines }) x y z v)
lead_starts a (lay shallower ∷ qs) (suc d) t b o is h k w go = lead_starts a qs d t b o is h k w (λ rs u x y z v. go rs (record { roles = u.roles; behind = u.behind; lines = u.lines }) x y z v)

nothing : (t x : Bool) → (some_way (cond {A = List (List (PieceOf Role))} t [] []) && x) ≡ true → ⊥
nothing true x h = false≢true h
nothing false x h = false≢true h

-- a name of this text, before all else
echo_starts : {w : List ℕ} {is : List Item} → NameFirst w is → Starts is → Starts (name_ahead w ∷ is)
echo_starts name_first (a_word_first h f) = a_name_seen h f

-- behind a shorthand key stands a plain position
pub echo_value : (e : Role) (qs : List Piece) → takes_part echoed (sort_of e) ≡ true → echo_followed (sort_of e) qs ≡ true → is_plain e ≡ true
echo_value shorthand_key qs h k = absurd (false≢true h)
echo_value script qs h k = absurd (false≢true h)
echo_value _ qs h k = refl

abbrev is_part : Parts → Bool
is_part (part n ps) = true
is_part _ = false

abbrev first_part : Tree → Parts → Tree
first_part d (part n ps) = n
first_part d _ = d

no_part : {ps : Parts} {v : Tree} {qs : Parts} → ps ≡ part v qs → is_part ps ≡ false → ⊥
no_part e h = false≢true (sym h ∙ ap is_part e)

head_part : {n v : Tree} {ps qs : Parts} → part n ps ≡ part v qs → n ≡ v
head_part {n} e = ap (first_part n) e

pub none_left : (a : Role) (b o : Bool) (rs : List Piece) → is_tail rs ≡ true → neat b o fresh rs ≡ true → lines_up (standing_at a rs) none ≡ true → ⊥
none_left a b o [] t h l = false≢true h
none_left a b o (sub x ∷ qs) t h l = false≢true l
none_left a b o (absent ∷ qs) t h l = false≢true l
none_left a b o (tok c w ∷ qs) t h l = false≢true t
none_left a b o (may w ∷ qs) t h l = false≢true t
none_left a b o (many w ∷ qs) t h l = false≢true t
none_left a b o (ahead w ∷ qs) t h l = false≢true t
none_left a b o (unbroken ∷ qs) t h l = false≢true t
none_left a b o (no_operand ∷ qs) t h l = false≢true t
none_left a b o (ending w ∷ qs) t h l = false≢true t
none_left a b o (open_parameters ∷ qs) t h l = false≢true t
none_left a b o (close_parameters ∷ qs) t h l = false≢true t
none_left a b o (never ∷ qs) t h l = false≢true t
none_left a b o (lay w ∷ qs) t h l = false≢true t

module _ (W : ℕ → Bool) where
  -- a shorthand key has no token
  pub echo_items : (n : Tree) (r d : ℕ) → fits W n shorthand_key r ≡ true → printed W n shorthand_key r d ≡ name_ahead (text_of n) ∷ []
  unfolding fits printed parts_printed ways ways_bare spellings
  echo_items (node kind.Identifier w g s e ps) r d h = go (is_lean (bare (node kind.Identifier w g s e ps))) ps h
    where
      go : (t : Bool) (qs : Parts) → (some_way (cond t ((ahead w ∷ []) ∷ []) []) && (lines_up (first_way (cond t ((ahead w ∷ []) ∷ []) [])) qs && parts_fit W qs (first_roles (cond t ((ahead w ∷ []) ∷ []) [])) (0 + r))) ≡ true →
          parts_printed W qs (first_way (cond t ((ahead w ∷ []) ∷ []) [])) (0 + r) d false ≡ name_ahead w ∷ []
      go false qs h = absurd (false≢true h)
      go true none h = refl
      go true (gap qs) h = absurd (false≢true h)
      go true (part m qs) h = absurd (false≢true h)
  echo_items (node _ w g s e ps) r d h = absurd (nothing _ _ h)

  -- what a node's parts do, at neat pieces
  abbrev PartsStart : Parts → Type 0
  PartsStart ps = (a : Role) (qs : List Piece) (r d : ℕ) (t b o : Bool) → neat b o fresh qs ≡ true → can_run qs ≡ true → lines_up (standing_at a qs) ps ≡ true → PieceWords (standing_at a qs) →
      parts_fit W ps (roles (standing_at a qs)) r ≡ true → PartsWorded W ps (roles (standing_at a qs)) r → Starts (parts_printed W ps (standing_at a qs) r d t)

  a_node : (n : Tree) (a : Role) (r d : ℕ) (t : Bool) → is_plain a ≡ true → PartsStart (parts_of n) → some_way (ways (inside t a) n) ≡ true → lines_up (first_way (ways (inside t a) n)) (parts_of n) ≡ true →
      parts_fit W (parts_of n) (first_roles (ways (inside t a) n)) (has_row a + r) ≡ true → PieceWords (first_way (ways (inside t a) n)) → PartsWorded W (parts_of n) (first_roles (ways (inside t a) n)) (has_row a + r) →
      Starts (cond t (sign_item (codes "(") ∷ parts_printed W (parts_of n) (first_way (ways (expr Expression true Any) n)) (suc r) d false ++ sign_item (codes ")") ∷ []) (parts_printed W (parts_of n) (first_way (ways a n)) (has_row a + r) d false))
  a_node n a r d true p go some lines fit words parts = sign_starts (codes "(") _ refl refl
  a_node n a r d false p go some lines fit words parts =
      let x = first_is_neat a n p some in
      let e = sym (first_roles_are (ways a n)) ∙ ap roles x.is in
      subst (λ qs. Starts (parts_printed W (parts_of n) qs (has_row a + r) d false)) (sym x.is)
      (go a x.spelling.pieces (has_row a + r) d false (first_is_open (parts_of n)) false x.neat x.runs
      (subst (λ qs. lines_up qs (parts_of n) ≡ true) x.is lines) (subst PieceWords x.is words)
      (subst (λ xs. parts_fit W (parts_of n) xs (has_row a + r) ≡ true) e fit) (subst (λ xs. PartsWorded W (parts_of n) xs (has_row a + r)) e parts))

  -- a part that is no shorthand key, and what stands behind it
  abbrev NodeStarts : Tree → Type 0
  NodeStarts n = (a : Role) (r d : ℕ) → is_plain a ≡ true → fits W n a r ≡ true → Worded W n a r → Starts (printed W n a r d)

  -- a shorthand key, with the part behind it
  after_echo : (n : Tree) (ps : Parts) (a : Role) (qs : List Piece) (r d : ℕ) (t o : Bool) →
      ((v : Tree) (qs' : Parts) → ps ≡ part v qs' → NodeStarts v) →
      leads_part qs ≡ true → neat true o echoed qs ≡ true → lines_up (standing_at a qs) ps ≡ true → fits W n shorthand_key r ≡ true →
      parts_fit W ps (roles (standing_at a qs)) (r + rows n shorthand_key) ≡ true → Echoed W shorthand_key n ps (roles (standing_at a qs)) (r + rows n shorthand_key) → PartsWorded W ps (roles (standing_at a qs)) (r + rows n shorthand_key) →
      Starts (printed W n shorthand_key r d ++ parts_printed W ps (standing_at a qs) (r + rows n shorthand_key) d t)
  unfolding parts_printed parts_fit PartsWorded Echoed
  after_echo n none a (sub y ∷ qs) r d t o go lead ok lines fit others named words = absurd (false≢true lines)
  after_echo n (gap ps) a (sub y ∷ qs) r d t o go lead ok lines fit others named words = absurd (false≢true lines)
  after_echo n (part v ps) a (sub y ∷ qs) r d t o go lead ok lines fit others named words =
      let e = placed a y in
      let sort = settled_sort (own_rank a) (own_in a) (own_start a) y in
      let u = and_parts (takes_part echoed (slot_sort y)) _ ok in
      let z = and_parts (echo_followed (slot_sort y) qs) _ u.1 in
      let plain = echo_value e qs (subst (λ x. takes_part echoed x ≡ true) (sym sort) u.0) (subst (λ x. echo_followed x qs ≡ true) (sym sort) z.0) in
      let f = and_parts (fits W v e (r + rows n shorthand_key)) _ others in
      let first = go v ps refl e (r + rows n shorthand_key) d plain f.0 words.0 in
      subst (λ xs. Starts (xs ++ (printed W v e (r + rows n shorthand_key) d ++ parts_printed W ps (standing_at a qs) ((r + rows n shorthand_key) + rows v e) d (not (W (r + rows n shorthand_key)))))) (sym (echo_items n r d fit))
      (starts_on (parts_printed W ps (standing_at a qs) ((r + rows n shorthand_key) + rows v e) d (not (W (r + rows n shorthand_key)))) (echo_starts (named d) first))
  after_echo n ps a [] r d t o go lead ok lines fit others named words = absurd (false≢true lead)
  after_echo n ps a (tok c w ∷ qs) r d t o go lead ok lines fit others named words = absurd (false≢true lead)
  after_echo n ps a (may w ∷ qs) r d t o go lead ok lines fit others named words = absurd (false≢true lead)
  after_echo n ps a (many w ∷ qs) r d t o go lead ok lines fit others named words = absurd (false≢true lead)
  after_echo n ps a (ahead w ∷ qs) r d t o go lead ok lines fit others named words = absurd (false≢true lead)
  after_echo n ps a (unbroken ∷ qs) r d t o go lead ok lines fit others named words = absurd (false≢true lead)
  after_echo n ps a (no_operand ∷ qs) r d t o go lead ok lines fit others named words = absurd (false≢true lead)
  after_echo n ps a (ending w ∷ qs) r d t o go lead ok lines fit others named words = absurd (false≢true lead)
  after_echo n ps a (open_parameters ∷ qs) r d t o go lead ok lines fit others named words = absurd (false≢true lead)
  after_echo n ps a (close_parameters ∷ qs) r d t o go lead ok lines fit others named words = absurd (false≢true lead)
  after_echo n ps a (absent ∷ qs) r d t o go lead ok lines fit others named words = absurd (false≢true lead)
  after_echo n ps a (never ∷ qs) r d t o go lead ok lines fit others named words = absurd (false≢true lead)
  after_echo n ps a (lay w ∷ qs) r d t o go lead ok lines fit others named words = absurd (false≢true lead)

  -- a first part, by its position
  at_position : (n : Tree) (ps : Parts) (a : Role) (qs : List Piece) (e : Role) (r d : ℕ) (t b o : Bool) → NodeStarts n → ((v : Tree) (qs' : Parts) → ps ≡ part v qs' → NodeStarts v) → (is_plain e ≡ true) ⊎ (e ≡ shorthand_key) →
      echo_followed (sort_of e) qs ≡ true → neat true o (touch_behind b (sort_of e)) qs ≡ true → lines_up (standing_at a qs) ps ≡ true → fits W n e r ≡ true → parts_fit W ps (roles (standing_at a qs)) (r + rows n e) ≡ true →
      Worded W n e r × (Echoed W e n ps (roles (standing_at a qs)) (r + rows n e) × PartsWorded W ps (roles (standing_at a qs)) (r + rows n e)) →
      Starts (printed W n e r d ++ parts_printed W ps (standing_at a qs) (r + rows n e) d t)
  at_position n ps a qs e r d t b o node_start next (inl p) followed ok lines fit others words = starts_on (parts_printed W ps (standing_at a qs) (r + rows n e) d t) (node_start e r d p fit words.0)
  at_position n ps a qs e r d t b o node_start next (inr p) followed ok lines fit others words =
      subst (λ e. echo_followed (sort_of e) qs ≡ true → neat true o (touch_behind b (sort_of e)) qs ≡ true → fits W n e r ≡ true → parts_fit W ps (roles (standing_at a qs)) (r + rows n e) ≡ true →
      Echoed W e n ps (roles (standing_at a qs)) (r + rows n e) → PartsWorded W ps (roles (standing_at a qs)) (r + rows n e) → Starts (printed W n e r d ++ parts_printed W ps (standing_at a qs) (r + rows n e) d t)) (sym p)
      (λ f k x y z u. after_echo n ps a qs r d t o next f k lines x y z u) followed ok fit others words.1.0 words.1.1

  -- a first part
  pub part_starts : (n : Tree) (ps : Parts) (a : Role) (rs : List Piece) (r d : ℕ) (t b o : Bool) → NodeStarts n → ((v : Tree) (qs' : Parts) → ps ≡ part v qs' → NodeStarts v) → is_tail rs ≡ true →
      neat b o fresh rs ≡ true → lines_up (standing_at a rs) (part n ps) ≡ true → parts_fit W (part n ps) (roles (standing_at a rs)) r ≡ true → PartsWorded W (part n ps) (roles (standing_at a rs)) r →
      Starts (printed W n (next_role (roles (standing_at a rs))) r d ++ parts_printed W ps (after_part (standing_at a rs)) (r + rows n (next_role (roles (standing_at a rs)))) d t)
  unfolding parts_fit PartsWorded
  part_starts n ps a (sub x ∷ qs) r d t b o node_start next tail ok lines fit words =
      let e = placed a x in
      let sort = sym (settled_sort (own_rank a) (own_in a) (own_start a) x) in
      let u = and_parts (echo_followed (slot_sort x) qs) _ ok in
      let f = and_parts (fits W n e r) _ fit in
      let followed = subst (λ y. echo_followed y qs ≡ true) sort u.0 in
      at_position n ps a qs e r d t b o node_start next (part_position e qs followed) followed (subst (λ y. neat true o (touch_behind b y) qs ≡ true) sort u.1) lines f.0 f.1 words
  part_starts n ps a [] r d t b o node_start next tail ok lines fit words = absurd (false≢true ok)
  part_starts n ps a (absent ∷ qs) r d t b o node_start next tail ok lines fit words = absurd (false≢true lines)
  part_starts n ps a (tok c w ∷ qs) r d t b o node_start next tail ok lines fit words = absurd (false≢true tail)
  part_starts n ps a (may w ∷ qs) r d t b o node_start next tail ok lines fit words = absurd (false≢true tail)
  part_starts n ps a (many w ∷ qs) r d t b o node_start next tail ok lines fit words = absurd (false≢true tail)
  part_starts n ps a (ahead w ∷ qs) r d t b o node_start next tail ok lines fit words = absurd (false≢true tail)
  part_starts n ps a (unbroken ∷ qs) r d t b o node_start next tail ok lines fit words = absurd (false≢true tail)
  part_starts n ps a (no_operand ∷ qs) r d t b o node_start next tail ok lines fit words = absurd (false≢true tail)
  part_starts n ps a (ending w ∷ qs) r d t b o node_start next tail ok lines fit words = absurd (false≢true tail)
  part_starts n ps a (open_parameters ∷ qs) r d t b o node_start next tail ok lines fit words = absurd (false≢true tail)
  part_starts n ps a (close_parameters ∷ qs) r d t b o node_start next tail ok lines fit words = absurd (false≢true tail)
  part_starts n ps a (never ∷ qs) r d t b o node_start next tail ok lines fit words = absurd (false≢true tail)
  part_starts n ps a (lay w ∷ qs) r d t b o node_start next tail ok lines fit words = absurd (false≢true tail)

  -- behind a gap, nothing stands before either
  gap_starts : (ps : Parts) (a : Role) (rs : List Piece) (r d : ℕ) (b o : Bool) → PartsStart ps → is_tail rs ≡ true → neat b o fresh rs ≡ true → can_run rs ≡ true → lines_up (standing_at a rs) (gap ps) ≡ true → PieceWords (standing_at a rs) →
      parts_fit W ps (roles (standing_at a rs)) r ≡ true → PartsWorded W ps (roles (standing_at a rs)) r → Starts (parts_printed W ps (after_part (standing_at a rs)) r d false)
  gap_starts ps a (absent ∷ qs) r d b o go tail ok runs lines words fit parts = go a qs r d false true o (and_parts (not (loose_first qs)) _ ok).1 runs lines words fit parts
  gap_starts ps a [] r d b o go tail ok runs lines words fit parts = absurd (false≢true ok)
  gap_starts ps a (sub x ∷ qs) r d b o go tail ok runs lines words fit parts = absurd (false≢true lines)
  gap_starts ps a (tok c w ∷ qs) r d b o go tail ok runs lines words fit parts = absurd (false≢true tail)
  gap_starts ps a (may w ∷ qs) r d b o go tail ok runs lines words fit parts = absurd (false≢true tail)
  gap_starts ps a (many w ∷ qs) r d b o go tail ok runs lines words fit parts = absurd (false≢true tail)
  gap_starts ps a (ahead w ∷ qs) r d b o go tail ok runs lines words fit parts = absurd (false≢true tail)
  gap_starts ps a (unbroken ∷ qs) r d b o go tail ok runs lines words fit parts = absurd (false≢true tail)
  gap_starts ps a (no_operand ∷ qs) r d b o go tail ok runs lines words fit parts = absurd (false≢true tail)
  gap_starts ps a (ending w ∷ qs) r d b o go tail ok runs lines words fit parts = absurd (false≢true tail)
  gap_starts ps a (open_parameters ∷ qs) r d b o go tail ok runs lines words fit parts = absurd (false≢true tail)
  gap_starts ps a (close_parameters ∷ qs) r d b o go tail ok runs lines words fit parts = absurd (false≢true tail)
  gap_starts ps a (never ∷ qs) r d b o go tail ok runs lines words fit parts = absurd (false≢true tail)
  gap_starts ps a (lay w ∷ qs) r d b o go tail ok runs lines words fit parts = absurd (false≢true tail)

  mutual
    unfolding fits parts_fit printed parts_printed Worded PartsWorded Echoed

    -- a node begins with a word
    pub node_starts : (n : Tree) → NodeStarts n
    node_starts (node k w g x y ps) a r d p fit words =
        let n = node k w g x y ps in
        let t = nat_eq (has_row a) 1 && W r in
        let u = and_parts (some_way (ways (inside t a) n)) _ fit in
        let v = and_parts (lines_up (first_way (ways (inside t a) n)) ps) _ u.1 in
        a_node n a r d t p (λ c qs q e s b o i j l m z f. parts_start ps c qs q e s b o i j l m z f) u.0 v.0 v.1 words.0 words.1

    parts_start : (ps : Parts) → PartsStart ps
    parts_start none a qs r d t b o ok runs lines words fit parts =
        lead_starts a qs d t b o [] ok runs words (λ rs u k j z tail. absurd (none_left a b o rs tail k (sym (u.lines none) ∙ lines)))
    parts_start (gap ps) a qs r d t b o ok runs lines words fit parts =
        lead_starts a qs d t b o (parts_printed W ps (after_part (standing_at a qs)) r (lead_depth d (standing_at a qs)) false) ok runs words
        (λ rs u k j z tail.
        subst (λ xs. Starts (parts_printed W ps xs r (lead_depth d (standing_at a qs)) false)) (sym u.behind)
        (gap_starts ps a rs r (lead_depth d (standing_at a qs)) b o (λ c qs q e s b o i j l m z f. parts_start ps c qs q e s b o i j l m z f) tail k j (sym (u.lines (gap ps)) ∙ lines) z
        (subst (λ xs. parts_fit W ps xs r ≡ true) u.roles fit) (subst (λ xs. PartsWorded W ps xs r) u.roles parts)))
    parts_start (part n ps) a qs r d t b o ok runs lines words fit parts =
        lead_starts a qs d t b o (printed W n (next_role (roles (standing_at a qs))) r (lead_depth d (standing_at a qs)) ++ parts_printed W ps (after_part (standing_at a qs)) (r + rows n (next_role (roles (standing_at a qs)))) (lead_depth d (standing_at a qs)) (not (W r))) ok runs words
        (λ rs u k j z tail.
        subst (λ xs. Starts (printed W n (next_role xs) r (lead_depth d (standing_at a qs)) ++ parts_printed W ps (after_part (standing_at a qs)) (r + rows n (next_role xs)) (lead_depth d (standing_at a qs)) (not (W r)))) (sym u.roles)
        (subst (λ xs. Starts (printed W n (next_role (roles (standing_at a rs))) r (lead_depth d (standing_at a qs)) ++ parts_printed W ps xs (r + rows n (next_role (roles (standing_at a rs)))) (lead_depth d (standing_at a qs)) (not (W r)))) (sym u.behind)
        (part_starts n ps a rs r (lead_depth d (standing_at a qs)) (not (W r)) b o (λ c q e i j l. node_starts n c q e i j l) (λ v qs' e. next_start ps v qs' e) tail k (sym (u.lines (part n ps)) ∙ lines)
        (subst (λ xs. parts_fit W (part n ps) xs r ≡ true) u.roles fit) (subst (λ xs. PartsWorded W (part n ps) xs r) u.roles parts))))

    pub next_start : (ps : Parts) (v : Tree) (qs : Parts) → ps ≡ part v qs → NodeStarts v
    next_start none v qs e = absurd (no_part e refl)
    next_start (gap ps) v qs e = absurd (no_part e refl)
    next_start (part n ps) v qs e = subst NodeStarts (head_part e) (λ c q d i j l. node_starts n c q d i j l)
