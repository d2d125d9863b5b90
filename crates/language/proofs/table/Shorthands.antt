-- Behind a shorthand key stands a name of its text: as the layout prints it too.
use Rattle.std.proofs.Common.{◌≡◌, ℕ, ◌+◌, Bool, true, false, cond, List, [], ◌∷◌, ◌++◌, refl, sym, ap, ◌∙◌, subst}
use Rattle.language.specs.Laws.{has_two_ways}
use Rattle.std.specs.Prelude.{Option, Some, None, nat_eq, ◌&&◌}
use Rattle.std.proofs.lemmas.Bool.{true≢false}
use Rattle.tokens.specs.declared.token.TokenClass.TheVariants.{IdentifierName}
use Rattle.tree.specs.declared.kind.Kind.TheVariants.{Identifier, AssignmentPattern}
use Rattle.tree.specs.declared.kind.Pair.{Pair}
use Rattle.tree.specs.Tree.{Tree, node, Parts, none, part, gap, kind_of, bare, bare_parts, parts_of}
use Rattle.language.specs.FirstPart.{lead as lead_kind}
use Rattle.language.specs.Vocabulary.{is_reserved, is_pattern, is_identifier}
use Rattle.language.specs.declared.Rank.TheVariants.{Primary}
use Rattle.language.specs.declared.Start.TheVariants.{Any}
use Rattle.language.specs.Pieces.{Role, name, element, pattern, PieceOf, tok, sub, sp, sign, only_at, bound, at, put}
use Rattle.language.specs.Expressions.{assignment}
use Rattle.language.specs.Token.{Token}
use Rattle.language.specs.Promises.{IsDetermined}
use Rattle.language.specs.Grammar.{ways, spellings}
use Rattle.language.specs.RowPositions.{has_row}
use Rattle.language.specs.Layout.{some_way, first_way}
use Rattle.language.specs.Printed.{Item, printed, parts_printed}
use Rattle.language.specs.Derivation.{Among, first, later, Reads, Spells, direct}
use Rattle.language.proofs.lower_bound.Domination.{settled}
use Rattle.language.proofs.layout.DerivedFits.{first_among}
use Rattle.language.proofs.table.OneWay.{at_most_one_way}
use Rattle.language.proofs.table.ViewIsComplete.{way_of, one, unless}
use Rattle.language.proofs.table.Begins.{retell}
use Rattle.language.proofs.list_loops.FirstPieces.{run_part, run_token}
use Rattle.language.proofs.covers.CoverReadings.{named_unbracketed}
use Rattle.language.proofs.table.TreesOfWords.{NameFirst, name_first}

among_some : {qs : List (PieceOf Role)} {qss : List (List (PieceOf Role))} → Among qs qss → some_way qss ≡ true
among_some first = refl
among_some (later h) = refl

first_is : (a : Role) (n : Tree) {qs : List (PieceOf Role)} → has_two_ways n ≡ false → Among qs (ways a n) → qs ≡ first_way (ways a n)
first_is a n {qs} f h = at_most_one_way a n qs (first_way (ways a n)) f h (first_among (ways a n) (among_some h))

token_first : (W : ℕ → Bool) (ps : Parts) (w : List ℕ) (qs : List (PieceOf Role)) (r d : ℕ) (b : Bool) → NameFirst w (parts_printed W ps (tok IdentifierName w ∷ qs) r d b)
unfolding parts_printed
token_first W none w qs r d b = name_first
token_first W (gap ps) w qs r d b = name_first
token_first W (part n ps) w qs r d b = name_first

before_more : {w : List ℕ} (xs ys : List Item) → NameFirst w xs → NameFirst w (xs ++ ys)
before_more xs ys name_first = name_first

part_first : (W : ℕ → Bool) (n : Tree) (ps : Parts) (w : List ℕ) (a : Role) (qs : List (PieceOf Role)) (r d : ℕ) (b : Bool) → ((d : ℕ) → NameFirst w (printed W n a r d)) → NameFirst w (parts_printed W (part n ps) (sub a ∷ qs) r d b)
unfolding parts_printed
part_first W n ps w a qs r d b h = before_more (printed W n a r d) _ (h d)

unwrapped : {w : List ℕ} (b c : Bool) (xs ys : List Item) → b ≡ false → NameFirst w ys → NameFirst w (cond (b && c) xs ys)
unwrapped true c xs ys h f = absurd (true≢false h)
unwrapped false c xs ys h f = f

printed_at : (W : ℕ → Bool) (n : Tree) (a : Role) (r d : ℕ) (w : List ℕ) → nat_eq (has_row a) 1 ≡ false → ((q : ℕ) → NameFirst w (parts_printed W (parts_of n) (first_way (ways a n)) q d false)) → NameFirst w (printed W n a r d)
unfolding printed
printed_at W (node k x g s e ps) a r d w h f = unwrapped (nat_eq (has_row a) 1) (W r) _ _ h (f (has_row a + r))

-- what stands at this position, with a default
abbrev with_value : Role → List (PieceOf Role)
with_value a = settled (element true) (at Primary (put a ∷ sp ∷ sign "=" ∷ sp ∷ assignment ∷ []))

module _ (S : Type 0) (Next : S → Token → S → Type 0) (behind : S → Token) (det : IsDetermined S Next behind) where
  -- the first token of a node is a name, and so is the first item of its layout
  pub record Named (a : Role) (n : Tree) (s : S) : Type 0 where
    pub text : List ℕ
    pub token : Token
    pub place : S
    pub reads : Reads S Next behind IdentifierName text s token place
    pub prints : (W : ℕ → Bool) (r d : ℕ) → NameFirst text (printed W n a r d)

  pub name_named : {o : ℕ} {n : Tree} {s e : S} {P : List Pair} → Spells ways S Next behind o name n s e P → Named name n s
  unfolding spellings
  name_named {n = node Identifier w g st en ps} (direct qs h pl d) =
      let v = way_of h in
      unless (is_reserved w) v.listed (λ c k. (
      let is : qs ≡ tok IdentifierName w ∷ [] = v.is ∙ ap (settled name) (one k) in
      let u = run_token S Next behind (retell S Next behind is d) in
      record {
        text = w;
        token = u.sign;
        place = u.mid;
        reads = u.reads;
        prints = λ W r d'. printed_at W (node Identifier w g st en ps) name r d' w refl
            (λ q. subst (λ x. NameFirst w (parts_printed W ps x q d' false)) (sym is ∙ first_is name (node Identifier w g st en ps) refl h) (token_first W ps w [] q d' false));
      }))
  name_named {n = node _ w g st en ps} (direct qs h pl d) = elim ((way_of h).listed) [ ]

  -- an element with a default, where a name stands
  pub default_named : {o : ℕ} {n : Tree} {w : List ℕ} {s e x : S} {t : Token} {P : List Pair} → Reads S Next behind IdentifierName w s t x → Spells ways S Next behind o (element true) n s e P → Named (element true) n s
  unfolding spellings
  default_named {o} {n = node AssignmentPattern w g st en ps} {s = s} {e = e} {P = P} reads (direct qs h pl d) = of (bound true (lead_kind (bare_parts ps))) refl (way_of h).listed
    where
      some_is : {a b : Role} → Some a ≡ Some b → a ≡ b
      some_is h = cc

      kind_bare : (m : Tree) → kind_of (bare m) ≡ kind_of m
      kind_bare (node k w g s e qs) = refl

      -- a name at the first part
      named : {m : Tree} {rest : Parts} {mid : S} {one' : List Pair} → ps ≡ part m rest → Spells ways S Next behind o name m s mid one' → qs ≡ with_value name → Named (element true) (node AssignmentPattern w g st en ps) s
      named {m} {rest} parts p is =
          let u = name_named p in
          record {
            text = u.text;
            token = u.token;
            place = u.place;
            reads = u.reads;
            prints = λ W r d'. printed_at W (node AssignmentPattern w g st en ps) (element true) r d' u.text refl
                (λ q. subst (λ z. NameFirst u.text (parts_printed W ps z q d' false)) (sym is ∙ first_is (element true) (node AssignmentPattern w g st en ps) refl h)
                (subst (λ z. NameFirst u.text (parts_printed W z (with_value name) q d' false)) (sym parts)
                (part_first W m rest u.text name _ q d' false (λ d''. u.prints W q d''))));
          }

      at_role : (a : Role) {m : Tree} {rest : Parts} {mid : S} {one' : List Pair} (y z : Bool) → cond y (Some (pattern true Any)) (cond z (Some name) None) ≡ Some a → ps ≡ part m rest → Spells ways S Next behind o a m s mid one' →
          qs ≡ with_value a → Named (element true) (node AssignmentPattern w g st en ps) s
      at_role a {m} {rest} {mid} {one'} true z k parts p is =
          absurd ((named_unbracketed S Next behind det reads).nothing o mid m one' (subst (λ c. Spells ways S Next behind o c m s mid one') (sym (some_is k)) p))
      at_role a {m} {rest} {mid} {one'} false true k parts p is =
          named parts (subst (λ c. Spells ways S Next behind o c m s mid one') (sym (some_is k)) p)
          (is ∙ ap (λ c. with_value c) (sym (some_is k)))
      at_role a false false k parts p is = cc

      of : (c : Option Role) → bound true (lead_kind (bare_parts ps)) ≡ c → Among (way_of h).spelling (only_at c (sp ∷ sign "=" ∷ sp ∷ assignment ∷ [])) → Named (element true) (node AssignmentPattern w g st en ps) s
      of None k l = elim l [ ]
      of (Some a) k l =
          let is = (way_of h).is ∙ ap (settled (element true)) (one l) in
          let f = run_part S Next behind (retell S Next behind is d) in
          at_role a (is_pattern (kind_of f.item)) (is_identifier (kind_of f.item)) (ap (bound true) (sym (kind_bare f.item) ∙ sym (ap (λ c. lead_kind (bare_parts c)) f.parts)) ∙ k) f.parts f.spelled is
  default_named {n = node _ w g st en ps} reads (direct qs h pl d) = elim ((way_of h).listed) [ ]
