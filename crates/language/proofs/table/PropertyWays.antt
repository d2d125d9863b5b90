-- Properties, members of classes and their keys: what spells them, by their flags.
use Rattle.language.specs.FirstPart.{lead}
use Rattle.tree.specs.Uses.{is_init}
use Rattle.tree.specs.declared.kind.Kind.{Kind}
use Rattle.std.proofs.lemmas.Bool.{and_parts}
use Rattle.std.proofs.Common.{◌≡◌, ℕ, Bool, true, false, cond, List, [], ◌∷◌, ◌++◌, refl, ap, ◌∙◌, subst, ◌⊎◌, inl, inr}
use Rattle.std.specs.Prelude.{not, ◌&&◌, ◌||◌}
use Rattle.tree.specs.declared.kind.Kind.TheVariants.{MethodDefinition}
use Rattle.tree.specs.declared.kind.Flags.{Flags}
use Rattle.tree.specs.declared.kind.Form.{Form}
use Rattle.tree.specs.declared.kind.Form.TheVariants.{Init, Get, Set, Method, Constructor}
use Rattle.tree.specs.declared.kind.Pair.{Pair}
use Rattle.tree.specs.Tree.{Tree, node, Parts, none, part, gap, kind_of, text_of, bare, bare_parts, plain}
use Rattle.tree.proofs.Lean.{lean_flags, lean_text}
use Rattle.language.specs.declared.Rank.TheVariants.{Expression}
use Rattle.language.specs.declared.Start.TheVariants.{Any}
use Rattle.language.specs.Vocabulary.{is, is_identifier, is_private}
use Rattle.language.specs.Pieces.{key, method, member, Piece, Spelling, put, sign, term, sp, private_name}
use Rattle.language.specs.Statements.{is_string_literal, members, class_members, class_keyed, static_word}
use Rattle.language.specs.Strings.{literal_units}
use Rattle.language.specs.Expressions.{assignment, value_form}
use Rattle.language.specs.Token.{Token}
use Rattle.language.specs.Promises.{IsDetermined}
use Rattle.language.specs.Grammar.{ways, spellings}
use Rattle.language.specs.Derivation.{Among, Spells, direct, Runs, Placed}
use Rattle.language.proofs.table.ViewIsComplete.{way_of}
use Rattle.language.proofs.table.Begins.{goes_to, retell}
use Rattle.language.proofs.climbing.BinaryTurns.{same_node}
use Rattle.language.proofs.table.StatementWays.{pieces_of_one}

-- a key between these pieces, in brackets or not
abbrev pub keyed_pieces : List Piece → Bool → List Piece → List Piece
keyed_pieces before computed after = cond computed (before ++ sign "[" ∷ assignment ∷ sign "]" ∷ after) (before ++ put key ∷ after)

-- the pieces of a member behind these
abbrev pub form_pieces : List Piece → Bool → Form → List Piece
form_pieces before c Get = keyed_pieces (before ++ term "get" ∷ sp ∷ []) c (put (method Get) ∷ [])
form_pieces before c Set = keyed_pieces (before ++ term "set" ∷ sp ∷ []) c (put (method Set) ∷ [])
form_pieces before c _ = keyed_pieces before c (put (method Method) ∷ [])

-- its key, without brackets, is `constructor`, and it isn't static
abbrev pub is_constructor : Bool → Bool → Parts → Bool
is_constructor c s none = false
is_constructor c s (gap ps) = false
is_constructor c s (part n ps) = not c && not s && ((is_identifier (kind_of n) && is (text_of n) "constructor") || (is_string_literal (kind_of n) (text_of n) && is (literal_units (text_of n)) "constructor"))

-- such a member may have the form
abbrev pub form_fits : Bool → Bool → Form → Parts → Bool
form_fits c s Constructor ps = is_constructor c s ps
form_fits c s Method ps = not (is_constructor c s ps)
form_fits c s Get ps = true
form_fits c s Set ps = true
form_fits c s _ ps = false

abbrev pub member_pieces : Bool → Bool → Form → List Piece
member_pieces c s f = cond s (form_pieces (term "static" ∷ sp ∷ []) c f) (form_pieces [] c f)

keyed_way : (before : List Piece) (c : Bool) (k : Kind) (after : List Piece) {x : Spelling} → is_private k ≡ false → Among x (class_keyed before c k after) → x.pieces ≡ keyed_pieces before c after
keyed_way before true k after e h = pieces_of_one h
keyed_way before false k after e h = pieces_of_one h ∙ ap (λ p. before ++ put (cond p private_name key) ∷ after) e

form_way : (s c : Bool) (f : Form) (k : Kind) {x : Spelling} → is_private k ≡ false → Among x (members (static_word s) c f Init k) → x.pieces ≡ member_pieces c s f
form_way true c Get k e h = keyed_way (term "static" ∷ sp ∷ term "get" ∷ sp ∷ []) c k (put (method Get) ∷ []) e h
form_way true c Set k e h = keyed_way (term "static" ∷ sp ∷ term "set" ∷ sp ∷ []) c k (put (method Set) ∷ []) e h
form_way true c _ k e h = keyed_way (term "static" ∷ sp ∷ []) c k (put (method Method) ∷ []) e h
form_way false c Get k e h = keyed_way (term "get" ∷ sp ∷ []) c k (put (method Get) ∷ []) e h
form_way false c Set k e h = keyed_way (term "set" ∷ sp ∷ []) c k (put (method Set) ∷ []) e h
form_way false c _ k e h = keyed_way [] c k (put (method Method) ∷ []) e h

abbrev pub member_flags : Bool → Bool → Form → Flags
member_flags c s f = record plain { computed = c; is_static = s; form = f }

-- a member that the base profile doesn't have: a field, a static block, a method whose function is async or a generator, or with a private name
abbrev pub is_later_member : Kind → Parts → Bool
is_later_member MethodDefinition ps = not (is_init (value_form ps)) || is_private (lead ps)
is_later_member _ ps = true

pub init_is : (z : Form) → is_init z ≡ true → z ≡ Init
init_is Init e = refl
init_is _ e = cc

with_init : (b d : Bool) → d ≡ true → not (b && d) ≡ true → not b ≡ true
with_init true true e h = h
with_init false d e h = refl
with_init true false e h = cc

-- where the function's form is plain, and the key no private name
fitting_way : (t c s : Bool) (f y : Form) (k : Kind) {x : Spelling} → is_init y ≡ true → is_private k ≡ false → Among x (cond t (members (static_word s) c f y k) []) → (t ≡ true) × (x.pieces ≡ member_pieces c s f)
fitting_way true c s f y k {x} i p h = (refl, form_way s c f k p (subst (λ z. Among x (members (static_word s) c f z k)) (init_is y i) h))
fitting_way false c s f y k i p h = elim h [ ]

member_way : (c s : Bool) (f : Form) (ps : Parts) {x : Spelling} → is_init (value_form ps) ≡ true → is_private (lead ps) ≡ false → Among x (class_members MethodDefinition (member_flags c s f) ps) → (form_fits c s f ps ≡ true) × (x.pieces ≡ member_pieces c s f)
member_way c s Get ps i p h = fitting_way true c s Get (value_form ps) (lead ps) i p h
member_way c s Set ps i p h = fitting_way true c s Set (value_form ps) (lead ps) i p h
member_way c s Method none i p h = fitting_way true c s Method (value_form none) (lead none) i p h
member_way c s Method (gap ps) i p h = fitting_way true c s Method (value_form (gap ps)) (lead (gap ps)) i p h
member_way c s Method (part n ps) i p h =
    let u = fitting_way (not (is_constructor c s (part n ps) && is_init (value_form (part n ps)))) c s Method (value_form (part n ps)) (kind_of n) i p h in
    (with_init (is_constructor c s (part n ps)) (is_init (value_form (part n ps))) i u.0, u.1)
member_way c s Constructor none i p h = elim h [ ]
member_way c s Constructor (gap ps) i p h = elim h [ ]
member_way c s Constructor (part n ps) i p h =
    let u = fitting_way (is_constructor c s (part n ps) && is_init (value_form (part n ps))) c s Constructor (value_form (part n ps)) (kind_of n) i p h in
    ((and_parts (is_constructor c s (part n ps)) _ u.0).0, u.1)
member_way c s _ ps i p h = elim h [ ]

module _ (S : Type 0) (Next : S → Token → S → Type 0) (behind : S → Token) (det : IsDetermined S Next behind) where
  -- what spells a member of a class
  pub record MemberForm (o : ℕ) (n : Tree) (s e : S) (P : List Pair) : Type 0 where
    pub computed : Bool
    pub is_static : Bool
    pub form : Form
    pub st : ℕ
    pub en : ℕ
    pub parts : Parts
    pub fits : form_fits computed is_static form (bare_parts parts) ≡ true
    pub tree : n ≡ node MethodDefinition [] (member_flags computed is_static form) st en parts
    pub placed : Placed S Next behind member n s e
    pub runs : Runs ways S Next behind o (goes_to Expression true Any (member_pieces computed is_static form)) parts s e P

  -- and one of a later language, as the table has it
  pub record LaterMember (o : ℕ) (n : Tree) (s e : S) (P : List Pair) : Type 0 where
    pub kind : Kind
    pub text : List ℕ
    pub flags : Flags
    pub st : ℕ
    pub en : ℕ
    pub parts : Parts
    pub spelling : Spelling
    pub is_later : is_later_member kind (bare_parts parts) ≡ true
    pub tree : n ≡ node kind text flags st en parts
    pub listed : Among spelling (class_members kind flags (bare_parts parts))
    pub placed : Placed S Next behind member n s e
    pub runs : Runs ways S Next behind o (goes_to Expression true Any spelling.pieces) parts s e P

  pub member_view : {o : ℕ} {n : Tree} {s e : S} {P : List Pair} → Spells ways S Next behind o member n s e P → MemberForm o n s e P ⊎ LaterMember o n s e P
  unfolding spellings
  member_view {o} {n = node MethodDefinition w g st en ps} {s} {e} {P} (direct qs h pl d) = of (is_init (value_form (bare_parts ps))) (is_private (lead (bare_parts ps))) refl refl
    where
      flags : g ≡ member_flags g.computed g.is_static g.form
      flags = lean_flags (bare (node MethodDefinition w g st en ps)) (way_of h).lean

      later : is_later_member MethodDefinition (bare_parts ps) ≡ true → LaterMember o (node MethodDefinition w g st en ps) s e P
      later k = record { kind = MethodDefinition; text = w; flags = g; st = st; en = en; parts = ps; spelling = (way_of h).spelling; is_later = k; tree = refl; listed = (way_of h).listed; placed = pl; runs = retell S Next behind (way_of h).is d }

      of : (i p : Bool) → is_init (value_form (bare_parts ps)) ≡ i → is_private (lead (bare_parts ps)) ≡ p → MemberForm o (node MethodDefinition w g st en ps) s e P ⊎ LaterMember o (node MethodDefinition w g st en ps) s e P
      of false p i k = inr (later (ap (λ b. not b || is_private (lead (bare_parts ps))) i))
      of true true i k = inr (later (ap (λ b. not b || is_private (lead (bare_parts ps))) i ∙ k))
      of true false i k =
          let x = member_way g.computed g.is_static g.form (bare_parts ps) i k (subst (λ f. Among (way_of h).spelling (class_members MethodDefinition f (bare_parts ps))) flags (way_of h).listed) in
          inl (record {
            computed = g.computed;
            is_static = g.is_static;
            form = g.form;
            st = st;
            en = en;
            parts = ps;
            fits = x.0;
            tree = same_node refl (lean_text (bare (node MethodDefinition w g st en ps)) (way_of h).lean refl) flags refl refl refl;
            placed = pl;
            runs = retell S Next behind ((way_of h).is ∙ ap (goes_to Expression true Any) x.1) d;
          })
  member_view {n = node k w g st en ps} (direct qs h pl d) =
      let v = way_of h in
      inr (record { kind = k; text = w; flags = g; st = st; en = en; parts = ps; spelling = v.spelling; is_later = refl; tree = refl; listed = v.listed; placed = pl; runs = retell S Next behind v.is d })
