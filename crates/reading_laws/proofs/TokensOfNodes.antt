-- A test of tokens and a test of nodes that say the same of a token and of the node that it spells: then they say the same of all tokens that spell
-- a tree, as a language sees them, and of all its nodes.
use Rattle.std.proofs.Common.{subst, ◌≡◌, ℕ, ◌+◌, Bool, true, false, ◌||◌, List, [], ◌∷◌, ◌++◌, drop, refl, sym, ap, ◌∙◌}
use Rattle.std.specs.List.{list_any}
use Rattle.std.proofs.Math.Bool.{or_assoc, or-false}
use Rattle.std.proofs.lemmas.Bool.{and_parts}
use Rattle.std.proofs.lemmas.List.Folds.{list_any-append}
use Rattle.tokens.specs.declared.token.TokenClass.{TokenClass}
use Rattle.tokens.specs.declared.token.TokenClass.TheVariants.{Template}
use Rattle.tree.specs.declared.kind.Kind.TheVariants.{Identifier, Literal, TemplateElement}
use Rattle.tree.specs.declared.kind.Flags.{Flags}
use Rattle.tree.specs.declared.kind.Pair.{Pair}
use Rattle.tree.specs.Tree.{plain, none, Tree, node, Parts, kind_of, start_of, parts_of}
use Rattle.tree.specs.Flat.{post_order, parts_post_order}
use Rattle.language.specs.Vocabulary.{literal_class}
use Rattle.language.specs.Token.{Token}
use Rattle.language.specs.Pieces.{Role, PieceOf, tok}
use Rattle.language.specs.Grammar.{ways}
use Rattle.language.specs.Cursor as Cursor
use Rattle.language.specs.declared.Language.{Language}
use Rattle.language.specs.Languages.{seen_in, seen_next}
use Rattle.language.specs.Derivation.{Among, Reads, Spells, direct, grouped, Runs, done, step, opened, closed, within, missing, Step, token, with_mark, without_mark, one_more, no_more, seen, same_line, left_bare, explicit, implicit, laid, Placed, placed, reserved_key, reserved_word}
use Rattle.language.proofs.table.Begins.{retell}
use Rattle.reading_laws.specs.Laws.{NextSeen, seen_behind}
use Rattle.reading_laws.proofs.DivTable.{is_div_class, is_div_piece, are_div, may_need_goal, way_div}
use Rattle.reading_laws.proofs.OneTokenWays.{OneToken, literal_way, element_way}

-- The two tests say the same of a token and of the Literal or the TemplateElement that it spells. No node of another kind passes, and no token of
-- another class.
pub record Agrees (of_node : Tree → Bool) (of_token : Token → Bool) : Type 0 where
  pub other : (n : Tree) → may_need_goal (kind_of n) ≡ false → of_node n ≡ false
  pub div : (t : Token) → is_div_class t.class ≡ true → of_token t ≡ false
  pub literal : (w : List ℕ) (g : Flags) (s e : ℕ) (ps : Parts) (t : Token) → t.class ≡ literal_class w → t.start ≡ s → of_token t ≡ of_node (node Literal w g s e ps)
  pub element : (w : List ℕ) (g : Flags) (s e : ℕ) (ps : Parts) (t : Token) → t.class ≡ Template → t.start + 1 ≡ s → of_token t ≡ of_node (node TemplateElement w g s e ps)

module _ (language : Language) (of_node : Tree → Bool) (of_token : Token → Bool) (agrees : Agrees of_node of_token) where
  abbrev Tokens : Type 0
  Tokens = List Token

  abbrev Goes : Tokens → Token → Tokens → Type 0
  Goes = NextSeen language

  abbrev last_seen : Tokens → Token
  last_seen = seen_behind language

  -- a token after a place passes, as it is seen
  abbrev pub ahead_of : Tokens → Bool
  ahead_of s = list_any (λ t. of_token (seen_in language t)) (drop 1 s)

  -- from one place to the other a token passes just if one of the nodes does
  abbrev pub Same : Tokens → Tokens → List Tree → Type 0
  Same s e ns = ahead_of s ≡ (list_any of_node ns || ahead_of e)

  taken : {s e : Tokens} {t : Token} → Goes s t e → ahead_of s ≡ (of_token t || ahead_of e)
  taken (seen_next Cursor.next) = refl

  passed : {c : TokenClass} {w : List ℕ} {s e : Tokens} {t : Token} → is_div_class c ≡ true → Reads Tokens Goes last_seen c w s t e → ahead_of s ≡ ahead_of e
  passed {e = e} {t = t} h r = taken r.next ∙ ap (λ z. z || ahead_of e) (agrees.div t (ap is_div_class r.class ∙ h))

  step_same : {q : PieceOf Role} {s e : Tokens} → is_div_piece q ≡ true → Step Tokens Goes last_seen q s e → ahead_of s ≡ ahead_of e
  step_same h (token r) = passed h r
  step_same h (with_mark r) = passed refl r
  step_same h without_mark = refl
  step_same h (one_more r p) = passed refl r ∙ step_same refl p
  step_same h no_more = refl
  step_same h (seen r) = refl
  step_same h (same_line n l) = refl
  step_same h (left_bare n l) = refl
  step_same h (explicit r) = passed refl r
  step_same h (implicit n m) = refl
  step_same h laid = refl

  next_same : {s m e : Tokens} {t u : Token} → Goes s t m → Goes s u e → t ≡ u
  next_same (seen_next Cursor.next) (seen_next Cursor.next) = refl

  -- the token of pieces that are one token, of a node without parts
  record Sole (c : TokenClass) (ps : Parts) (s e : Tokens) : Type 0 where
    token : Token
    next : Goes s token e
    class : token.class ≡ c
    leaf : parts_post_order ps ≡ []

  sole : {o : ℕ} {c : TokenClass} {w : List ℕ} {ps : Parts} {s e : Tokens} {P : List Pair} → Runs ways Tokens Goes last_seen o (tok c w ∷ []) ps s e P → Sole c ps s e
  sole (step (token {t = t} r) done) = record { token = t; next = r.next; class = r.class; leaf = refl }

  sole_start : {a : Role} {c : TokenClass} {node_start : ℕ → ℕ} {qs : List (PieceOf Role)} {n : Tree} {s m e : Tokens} {t : Token} → OneToken a c node_start Role qs → Placed Tokens Goes last_seen a n s e → Goes s t m → node_start t.start ≡ start_of n
  sole_start {node_start = node_start} {e = e} z (placed {t = first} x h) y = ap (λ k. node_start k.start) (next_same y x) ∙ sym (z.start first (last_seen e)) ∙ ap (λ k. k.0) h

  -- a node that is one token
  by_token : {o : ℕ} {a : Role} {c : TokenClass} {node_start : ℕ → ℕ} {qs : List (PieceOf Role)} {n : Tree} {ps : Parts} {s e : Tokens} {P : List Pair} → OneToken a c node_start Role qs → Placed Tokens Goes last_seen a n s e →
      Runs ways Tokens Goes last_seen o qs ps s e P → ((t : Token) → t.class ≡ c → node_start t.start ≡ start_of n → of_token t ≡ of_node n) → Same s e (parts_post_order ps ++ n ∷ [])
  by_token {n = n} {e = e} z p d agree =
      let u = sole (retell Tokens Goes last_seen z.is d) in
      taken u.next ∙ ap (λ b. b || ahead_of e) (agree u.token u.class (sole_start z p u.next) ∙ sym (or-false (of_node n)) ∙ ap (λ ns. list_any of_node (ns ++ n ∷ [])) (sym u.leaf))

  -- a node of another kind, of which its parts say all
  by_parts : (s e : Tokens) (n : Tree) (ns : List Tree) → of_node n ≡ false → Same s e ns → Same s e (ns ++ n ∷ [])
  by_parts s e n ns h k = k ∙ ap (λ z. z || ahead_of e) (sym (list_any-append of_node ns (n ∷ []) ∙ ap (λ z. list_any of_node ns || (z || false)) h ∙ or-false (list_any of_node ns)))

  by_way : {o : ℕ} {a : Role} {qs : List (PieceOf Role)} {s e : Tokens} {P : List Pair} (n : Tree) → Among qs (ways a n) → Placed Tokens Goes last_seen a n s e → Runs ways Tokens Goes last_seen o qs (parts_of n) s e P →
      (are_div qs ≡ true → Same s e (parts_post_order (parts_of n))) → Same s e (post_order n)
  by_way (node Literal w g from to ps) h p d k = by_token (literal_way w g from to ps h) p d (agrees.literal w g from to ps)
  by_way (node TemplateElement w g from to ps) h p d k = by_token (element_way w g from to ps h) p d (agrees.element w g from to ps)
  by_way {a = a} {s = s} {e = e} (node kind w g from to ps) h p d k = by_parts s e (node kind w g from to ps) (parts_post_order ps) (agrees.other (node kind w g from to ps) refl) (k (way_div a (node kind w g from to ps) refl h))

  both_parts : (s m e : Tokens) (ns ms : List Tree) → Same s m ns → Same m e ms → Same s e (ns ++ ms)
  both_parts s m e ns ms h k = h ∙ ap (λ z. list_any of_node ns || z) k ∙ sym (or_assoc (list_any of_node ns) (list_any of_node ms) (ahead_of e)) ∙ ap (λ z. z || ahead_of e) (sym (list_any-append of_node ns ms))

  mutual
    pub spelled : {o : ℕ} {a : Role} {n : Tree} {s e : Tokens} {P : List Pair} → Spells ways Tokens Goes last_seen o a n s e P → Same s e (post_order n)
    spelled {n = n} (direct qs h p d) = by_way n h p d (λ k. ran k d)
    spelled {n = n} (grouped p d q) = passed refl p ∙ spelled d ∙ ap (λ z. list_any of_node (post_order n) || z) (passed refl q)
    spelled {s = s} {e = e} (reserved_key {w = w} {t = t} r k p) = subst (λ v. Same s e (post_order v)) (sym p) (by_parts s e (node Identifier w plain t.start (last_seen e).stop none) [] (agrees.other (node Identifier w plain t.start (last_seen e).stop none) refl) (passed refl r))
    spelled {s = s} {e = e} (reserved_word {w = w} {t = t} r k p) = subst (λ v. Same s e (post_order v)) (sym p) (by_parts s e (node Identifier w plain t.start (last_seen e).stop none) [] (agrees.other (node Identifier w plain t.start (last_seen e).stop none) refl) (passed refl r))

    ran : {o : ℕ} {qs : List (PieceOf Role)} {ps : Parts} {s e : Tokens} {P : List Pair} → are_div qs ≡ true → Runs ways Tokens Goes last_seen o qs ps s e P → Same s e (parts_post_order ps)
    ran h done = refl
    ran h (step p d) = let u = and_parts _ _ h in step_same u.0 p ∙ ran u.1 d
    ran h (opened r d) = passed refl r ∙ ran h d
    ran h (closed r d) = passed refl r ∙ ran h d
    ran {s = s} {e = e} h (within {n = n} {ps = ps} {m = m} p d) = both_parts s m e (post_order n) (parts_post_order ps) (spelled p) (ran h d)
    ran h (missing d) = ran h d
