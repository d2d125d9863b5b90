-- Members of a class: the words before a key, the key, and what stands behind it; and static blocks (ECMA-262 14.6; 15.7 of the 13th edition).
use Rattle.std.proofs.Common.{◌≡◌, ℕ, Bool, true, false, cond, List, [], ◌∷◌, ◌++◌, refl, sym, ap, ◌∙◌, subst}
use Rattle.std.specs.Prelude.{codes, not, ◌&&◌}
use Rattle.std.proofs.lemmas.List.{append-nil}
use Rattle.tokens.specs.declared.token.TokenClass.TheVariants.{IdentifierName, Punctuator}
use Rattle.tree.specs.declared.kind.Kind.{Kind}
use Rattle.tree.specs.declared.kind.Kind.TheVariants.{MethodDefinition, PropertyDefinition, StaticBlock}
use Rattle.tree.specs.declared.kind.Flags.{Flags}
use Rattle.tree.specs.declared.kind.Form.{Form}
use Rattle.tree.specs.declared.kind.Form.TheVariants.{Init, Get, Set, Method, Constructor, Generator, Async, AsyncGenerator}
use Rattle.tree.specs.declared.kind.Pair.{Pair}
use Rattle.tree.specs.Tree.{Tree, node, Parts, none, part, gap, bare, bare_parts, kind_of, plain}
use Rattle.tree.specs.Uses.{is_init, is_lean}
use Rattle.tree.proofs.Lean.{lean_flags, lean_text}
use Rattle.language.specs.declared.Rank.TheVariants.{Expression, Assignment}
use Rattle.language.specs.declared.Start.TheVariants.{Any}
use Rattle.language.specs.FirstPart.{lead}
use Rattle.language.specs.Vocabulary.{is_private}
use Rattle.language.specs.Edges.{edge}
use Rattle.language.specs.Pieces.{expr, private_name, key, method, member, item, behind_value, behind_key, Piece, Spelling, tok, sub, ending, absent, unbroken, never, sign, term, sp, put}
use Rattle.language.specs.Statements.{lines, class_keyed, members, static_word, key_word, class_members}
use Rattle.language.specs.Expressions.{assignment, method_words, method_of, value_form}
use Rattle.language.specs.Token.{Token}
use Rattle.language.specs.Promises.{IsDetermined}
use Rattle.language.specs.Grammar.{ways, spellings}
use Rattle.language.specs.Derivation.{Among, Reads, Spells, direct, Runs, Step, Placed}
use Rattle.language.proofs.table.ViewIsComplete.{way_of}
use Rattle.language.proofs.table.Begins.{goes_to, retell}
use Rattle.language.proofs.table.StatementWays.{pieces_of_one, behind_brace}
use Rattle.language.proofs.table.BareEdges.{edge_bare}
use Rattle.language.proofs.table.PropertyWays.{is_constructor, member_flags}
use Rattle.language.proofs.table.PropertyNameWays.{is_accessor}
use Rattle.language.proofs.climbing.BinaryTurns.{same_node}
use Rattle.language.proofs.climbing.RightOperands.{one_part}
use Rattle.language.proofs.list_loops.FirstPieces.{run_token, run_laid, run_unbroken, run_never, run_part, run_absent}
use Rattle.language.proofs.list_loops.PiecesSoFar.{run_end}
use Rattle.language.proofs.covers.CoverProperties.{accessor_word, KeyAt, plain_key, run_key, method_begins}
use Rattle.unambiguity_laws.proofs.list_items.PropertyForms.{Modifies, starred, asynchronous, both_modify}

-- the form of a member by the position of its function; the flag says that its key makes it a constructor
abbrev pub by_form : Form → Bool → Form
by_form Get b = Get
by_form Set b = Set
by_form _ b = cond b Constructor Method

-- its key makes it a constructor
abbrev pub constructs : Bool → Bool → Parts → Bool
constructs c s ps = is_constructor c s ps && is_init (value_form ps)

abbrev pub field_flags : Bool → Bool → Flags
field_flags c s = record plain { computed = c; is_static = s }

-- a key, private or not, between these pieces
abbrev class_key_pieces : List Piece → Bool → Kind → List Piece → List Piece
class_key_pieces before c k after = cond c (before ++ sign "[" ∷ assignment ∷ sign "]" ∷ after) (before ++ put (cond (is_private k) private_name key) ∷ after)

class_key_way : (before : List Piece) (c : Bool) (k : Kind) (after : List Piece) {x : Spelling} → Among x (class_keyed before c k after) → x.pieces ≡ class_key_pieces before c k after
class_key_way before true k after h = pieces_of_one h
class_key_way before false k after h = pieces_of_one h

next_piece : (q : Piece) (ws : List Piece) (c : Bool) (k : Kind) (after : List Piece) → goes_to Expression true Any (class_key_pieces (q ∷ ws) c k after) ≡ goes_to Expression true Any (q ∷ class_key_pieces ws c k after)
next_piece q ws true k after = refl
next_piece q ws false k after = refl

-- the word of a getter or setter
abbrev term_of : Form → List Piece
term_of f = tok IdentifierName (accessor_word f) ∷ sp ∷ []

-- the ways of a method, a getter or a setter
data Fitted (c s : Bool) (f : Form) (ps : Parts) (x : Spelling) : Type 0 where
  an_accessor : is_accessor f ≡ true → Among x (class_keyed (static_word s ++ term_of f) c (lead ps) (put (method f) ∷ [])) → Fitted c s f ps x
  a_method : f ≡ cond (constructs c s ps) Constructor Method → Among x (class_keyed (static_word s ++ method_words (value_form ps)) c (lead ps) (put (method (method_of (value_form ps))) ∷ [])) → Fitted c s f ps x

fitted : (c s : Bool) (f : Form) (ps : Parts) {x : Spelling} → Among x (class_members MethodDefinition (member_flags c s f) ps) → Fitted c s f ps x
fitted c s Get ps h = an_accessor refl h
fitted c s Set ps h = an_accessor refl h
fitted c s Method none h = a_method refl h
fitted c s Method (gap ps) h = a_method refl h
fitted c s Method (part n ps) {x} h = of (constructs c s (part n ps)) refl h
  where
    of : (b : Bool) → constructs c s (part n ps) ≡ b → Among x (cond (not b) (members (static_word s) c Method (value_form (part n ps)) (kind_of n)) []) → Fitted c s Method (part n ps) x
    of true e h = elim h [ ]
    of false e h = a_method (ap (λ b. cond b Constructor Method) (sym e)) h
fitted c s Constructor none h = elim h [ ]
fitted c s Constructor (gap ps) h = elim h [ ]
fitted c s Constructor (part n ps) {x} h = of (constructs c s (part n ps)) refl h
  where
    of : (b : Bool) → constructs c s (part n ps) ≡ b → Among x (cond b (members (static_word s) c Constructor (value_form (part n ps)) (kind_of n)) []) → Fitted c s Constructor (part n ps) x
    of true e h = a_method (ap (λ b. cond b Constructor Method) (sym e)) h
    of false e h = elim h [ ]
fitted c s _ ps h = elim h [ ]

first_part : {n m : Tree} {ps qs : Parts} → part n ps ≡ part m qs → n ≡ m
first_part e = cc

second_part : {n m i j : Tree} {ps qs : Parts} → part n (part i ps) ≡ part m (part j qs) → i ≡ j
second_part e = cc

field_tree : (w : List ℕ) (g : Flags) (st en : ℕ) (ps : Parts) → is_lean (bare (node PropertyDefinition w g st en ps)) ≡ true → node PropertyDefinition w g st en ps ≡ node PropertyDefinition [] (field_flags g.computed g.is_static) st en ps
field_tree w g st en ps l = same_node refl (lean_text (bare (node PropertyDefinition w g st en ps)) l refl) (lean_flags (bare (node PropertyDefinition w g st en ps)) l) refl refl refl

module _ (S : Type 0) (Next : S → Token → S → Type 0) (behind : S → Token) (det : IsDetermined S Next behind) where
  -- the word `static`, or none
  pub data StaticWord (s : S) : Bool → S → Type 0 where
    with_static : {z : S} {t : Token} → Reads S Next behind IdentifierName (codes "static") s t z → StaticWord s true z
    without_static : StaticWord s false s

  -- the words that tell a member's function
  pub data MethodWords (s : S) : Form → S → Type 0 where
    no_words : MethodWords s Method s
    accessing : (f : Form) {z : S} {t : Token} → is_accessor f ≡ true → Reads S Next behind IdentifierName (accessor_word f) s t z → MethodWords s f z
    modifying : {y : Form} {z : S} → Modifies S Next behind det s y z → MethodWords s y z

  -- a key, or a private name
  pub data AnyKey (o : ℕ) (n : Tree) (s e : S) (P : List Pair) : Bool → Type 0 where
    a_key : {c : Bool} → KeyAt S Next behind det o n s e P c → AnyKey o n s e P c
    a_private : Spells ways S Next behind o private_name n s e P → AnyKey o n s e P false

  -- what stands behind a key: the function of a method; or the end of a field, perhaps behind a value
  pub data Tail (y : Form) (s c : Bool) (n : Tree) (o : ℕ) (mid e : S) : Kind → Flags → Parts → List Pair → Type 0 where
    called : {v : Tree} {x : S} {t : Token} {P : List Pair} → Reads S Next behind Punctuator (codes "(") mid t x → Spells ways S Next behind o (method y) v mid e P →
        Tail y s c n o mid e MethodDefinition (member_flags c s (by_form y (constructs c s (bare_parts (part n (part v none)))))) (part v none) P
    alone : y ≡ Method → Step S Next behind (ending (behind_key (key_word c (bare n)) s)) mid e → Tail y s c n o mid e PropertyDefinition (field_flags c s) (gap none) []
    valued : {v : Tree} {x k : S} {t : Token} {P : List Pair} → y ≡ Method → Reads S Next behind Punctuator (codes "=") mid t x → Spells ways S Next behind o (expr Assignment true Any) v x k P → Step S Next behind (ending (behind_value (edge v))) k e →
        Tail y s c n o mid e PropertyDefinition (field_flags c s) (part v none) P

  -- a member with a key
  pub record Keyed (o : ℕ) (n : Tree) (s e : S) (P : List Pair) : Type 0 where
    pub is_static : Bool
    pub computed : Bool
    pub position : Form
    pub kind : Kind
    pub flags : Flags
    pub st : ℕ
    pub en : ℕ
    pub left : Tree
    pub others : Parts
    pub x : S
    pub z : S
    pub mid : S
    pub one : List Pair
    pub more : List Pair
    pub static_is : StaticWord s is_static x
    pub words : MethodWords x position z
    pub keyed : AnyKey o left z mid one computed
    pub tail : Tail position is_static computed left o mid e kind flags others more
    pub tree : n ≡ node kind [] flags st en (part left others)
    pub placed : Placed S Next behind member n s e
    pub pairs : P ≡ one ++ more

  -- a static block
  pub record StaticItems (o : ℕ) (n : Tree) (s e : S) (P : List Pair) : Type 0 where
    pub st : ℕ
    pub en : ℕ
    pub parts : Parts
    pub x : S
    pub mid : S
    pub sign : Token
    pub opening : Token
    pub word : Reads S Next behind IdentifierName (codes "static") s sign x
    pub opens : Reads S Next behind Punctuator (codes "{") x opening mid
    pub runs : Runs ways S Next behind o (goes_to Expression true Any (behind_brace (bare_parts parts) (lines (item false) (bare_parts parts)))) parts mid e P
    pub tree : n ≡ node StaticBlock [] plain st en parts
    pub placed : Placed S Next behind member n s e

  pub data MemberSeen (o : ℕ) (n : Tree) (s e : S) (P : List Pair) : Type 0 where
    with_key : Keyed o n s e P → MemberSeen o n s e P
    static_block : StaticItems o n s e P → MemberSeen o n s e P

  -- what stands behind `static`, or where it would stand
  record BehindStatic (s : Bool) (o : ℕ) (qs : List Piece) (ps : Parts) (from e : S) (P : List Pair) : Type 0 where
    place : S
    word : StaticWord from s place
    runs : Runs ways S Next behind o (goes_to Expression true Any qs) ps place e P

  behind_static : {o : ℕ} (s c : Bool) (ws : List Piece) (k : Kind) (after : List Piece) {ps : Parts} {from e : S} {P : List Pair} → Runs ways S Next behind o (goes_to Expression true Any (class_key_pieces (static_word s ++ ws) c k after)) ps from e P → BehindStatic s o (class_key_pieces ws c k after) ps from e P
  behind_static true c ws k after d =
      let u = run_token S Next behind (retell S Next behind (next_piece (term "static") (sp ∷ ws) c k after) d) in
      record { place = u.mid; word = with_static u.reads; runs = run_laid S Next behind (retell S Next behind (next_piece sp ws c k after) u.runs) }
  behind_static false c ws k after {from = from} d = record { place = from; word = without_static; runs = d }

  -- behind the words of a function
  record BehindWords (y : Form) (o : ℕ) (qs : List Piece) (ps : Parts) (from e : S) (P : List Pair) : Type 0 where
    place : S
    words : MethodWords from y place
    runs : Runs ways S Next behind o (goes_to Expression true Any qs) ps place e P

  behind_accessor : {o : ℕ} (f : Form) (c : Bool) (k : Kind) (after : List Piece) {ps : Parts} {from e : S} {P : List Pair} → is_accessor f ≡ true → Runs ways S Next behind o (goes_to Expression true Any (class_key_pieces (term_of f) c k after)) ps from e P → BehindWords f o (class_key_pieces [] c k after) ps from e P
  behind_accessor f c k after h d =
      let u = run_token S Next behind (retell S Next behind (next_piece (tok IdentifierName (accessor_word f)) (sp ∷ []) c k after) d) in
      record { place = u.mid; words = accessing f h u.reads; runs = run_laid S Next behind (retell S Next behind (next_piece sp [] c k after) u.runs) }

  behind_words : {o : ℕ} (x : Form) (c : Bool) (k : Kind) (after : List Piece) {ps : Parts} {from e : S} {P : List Pair} → Runs ways S Next behind o (goes_to Expression true Any (class_key_pieces (method_words x) c k after)) ps from e P → BehindWords (method_of x) o (class_key_pieces [] c k after) ps from e P
  behind_words Init c k after {from = from} d = record { place = from; words = no_words; runs = d }
  behind_words Generator c k after d =
      let u = run_token S Next behind (retell S Next behind (next_piece (sign "*") [] c k after) d) in
      record { place = u.mid; words = modifying (starred u.reads); runs = u.runs }
  behind_words Async c k after d =
      let a = run_token S Next behind (retell S Next behind (next_piece (term "async") (unbroken ∷ sp ∷ []) c k after) d) in
      let b = run_unbroken S Next behind (retell S Next behind (next_piece unbroken (sp ∷ []) c k after) a.runs) in
      record { place = a.mid; words = modifying (asynchronous a.reads b.next b.unbroken); runs = run_laid S Next behind (retell S Next behind (next_piece sp [] c k after) b.runs) }
  behind_words AsyncGenerator c k after d =
      let a = run_token S Next behind (retell S Next behind (next_piece (term "async") (unbroken ∷ sp ∷ sign "*" ∷ []) c k after) d) in
      let b = run_unbroken S Next behind (retell S Next behind (next_piece unbroken (sp ∷ sign "*" ∷ []) c k after) a.runs) in
      let l = run_laid S Next behind (retell S Next behind (next_piece sp (sign "*" ∷ []) c k after) b.runs) in
      let u = run_token S Next behind (retell S Next behind (next_piece (sign "*") [] c k after) l) in
      record { place = u.mid; words = modifying (both_modify a.reads u.reads (det.break a.mid u.sign b.sign u.mid b.mid u.reads.next b.next ∙ b.unbroken)); runs = u.runs }
  behind_words x c k after d = absurd (run_never S Next behind (retell S Next behind (next_piece never [] c k after) d))

  -- the key, and what stands behind it
  record BehindAnyKey (c : Bool) (o : ℕ) (qs : List Piece) (ps : Parts) (from e : S) (P : List Pair) : Type 0 where
    left : Tree
    others : Parts
    mid : S
    one : List Pair
    more : List Pair
    parts : ps ≡ part left others
    keyed : AnyKey o left from mid one c
    runs : Runs ways S Next behind o (goes_to Expression true Any qs) others mid e more
    pairs : P ≡ one ++ more

  behind_any_key : {o : ℕ} (c : Bool) (k : Kind) (after : List Piece) {ps : Parts} {from e : S} {P : List Pair} → Runs ways S Next behind o (goes_to Expression true Any (class_key_pieces [] c k after)) ps from e P → BehindAnyKey c o after ps from e P
  behind_any_key true k after d = let u = run_key S Next behind det true after d in record { left = u.item; others = u.rest; mid = u.mid; one = u.one; more = u.more; parts = u.parts; keyed = a_key u.key; runs = u.runs; pairs = u.pairs }
  behind_any_key {o} false k after {ps} {from} {e} {P} d = of (is_private k) d
    where
      of : (b : Bool) → Runs ways S Next behind o (sub (cond b private_name key) ∷ goes_to Expression true Any after) ps from e P → BehindAnyKey false o after ps from e P
      of true d = let p = run_part S Next behind d in record { left = p.item; others = p.rest; mid = p.mid; one = p.one; more = p.more; parts = p.parts; keyed = a_private p.spelled; runs = p.runs; pairs = p.pairs }
      of false d = let p = run_part S Next behind d in record { left = p.item; others = p.rest; mid = p.mid; one = p.one; more = p.more; parts = p.parts; keyed = a_key (plain_key p.spelled); runs = p.runs; pairs = p.pairs }

  -- a method from its words on
  method_seen : {o : ℕ} {n : Tree} {s : Bool} (c : Bool) (f y : Form) (k : Kind) {st en : ℕ} {ps : Parts} {from x e : S} {P : List Pair} → n ≡ node MethodDefinition [] (member_flags c s f) st en ps → f ≡ by_form y (constructs c s (bare_parts ps)) → Placed S Next behind member n from e →
      StaticWord from s x → BehindWords y o (class_key_pieces [] c k (put (method y) ∷ [])) ps x e P → MemberSeen o n from e P
  method_seen {n = n} {s} c f y k {st} {en} {ps} tree form pl static_is w =
      let u = behind_any_key c k (put (method y) ∷ []) w.runs in
      let v = one_part S Next behind det u.runs in
      let b = method_begins S Next behind det y v.spelled in
      let parts : ps ≡ part u.left (part v.operand none) = u.parts ∙ ap (part u.left) v.parts in
      with_key (record {
        is_static = s;
        computed = c;
        position = y;
        kind = MethodDefinition;
        flags = member_flags c s (by_form y (constructs c s (bare_parts (part u.left (part v.operand none)))));
        st = st;
        en = en;
        left = u.left;
        others = part v.operand none;
        x = _;
        z = w.place;
        mid = u.mid;
        one = u.one;
        more = u.more;
        static_is = static_is;
        words = w.words;
        keyed = u.keyed;
        tail = called b.reads v.spelled;
        tree = tree ∙ same_node refl refl (ap (member_flags c s) (form ∙ ap (λ q. by_form y (constructs c s (bare_parts q))) parts)) refl refl parts;
        placed = pl;
        pairs = u.pairs;
      })

  -- a field from its key on
  field_seen : {o : ℕ} {n : Tree} {s : Bool} (c : Bool) (k : Kind) {after : List Piece} {st en : ℕ} {ps : Parts} {from x e : S} {P : List Pair} → n ≡ node PropertyDefinition [] (field_flags c s) st en ps → Placed S Next behind member n from e → StaticWord from s x →
      (u : BehindAnyKey c o after ps x e P) → Tail Method s c u.left o u.mid e PropertyDefinition (field_flags c s) u.others u.more → MemberSeen o n from e P
  field_seen {s = s} c k {st = st} {en} {x = x} tree pl static_is u tail =
      with_key (record { is_static = s; computed = c; position = Method; kind = PropertyDefinition; flags = field_flags c s; st = st; en = en; left = u.left; others = u.others; x = x; z = x; mid = u.mid; one = u.one; more = u.more; static_is = static_is; words = no_words; keyed = u.keyed; tail = tail; tree = tree ∙ ap (node PropertyDefinition [] (field_flags c s) st en) u.parts; placed = pl; pairs = u.pairs })

  behind_field : {o : ℕ} (s c : Bool) (k : Kind) (after : List Piece) {x : Spelling} {ps : Parts} {from e : S} {P : List Pair} → Among x (class_keyed (static_word s) c k after) → Runs ways S Next behind o (goes_to Expression true Any x.pieces) ps from e P → BehindStatic s o (class_key_pieces [] c k after) ps from e P
  behind_field s c k after l r =
      behind_static s c [] k after
      (retell S Next behind (ap (goes_to Expression true Any) (class_key_way (static_word s) c k after l) ∙ ap (λ ws. goes_to Expression true Any (class_key_pieces ws c k after)) (sym (append-nil (static_word s)))) r)

  -- what stands at a member's position is one of these
  pub member_seen : {o : ℕ} {n : Tree} {s e : S} {P : List Pair} → Spells ways S Next behind o member n s e P → MemberSeen o n s e P
  unfolding spellings
  member_seen {o} {n = node MethodDefinition w g st en ps} {s} {e} {P} (direct qs h pl d) = of (fitted g.computed g.is_static g.form (bare_parts ps) (subst (λ f. Among (way_of h).spelling (class_members MethodDefinition f (bare_parts ps))) flags (way_of h).listed))
    where
      flags : g ≡ member_flags g.computed g.is_static g.form
      flags = lean_flags (bare (node MethodDefinition w g st en ps)) (way_of h).lean

      tree : node MethodDefinition w g st en ps ≡ node MethodDefinition [] (member_flags g.computed g.is_static g.form) st en ps
      tree = same_node refl (lean_text (bare (node MethodDefinition w g st en ps)) (way_of h).lean refl) flags refl refl refl

      run : {rs : List Piece} → (way_of h).spelling.pieces ≡ rs → Runs ways S Next behind o (goes_to Expression true Any rs) ps s e P
      run k = retell S Next behind ((way_of h).is ∙ ap (goes_to Expression true Any) k) d

      methodical : (x : Form) → value_form (bare_parts ps) ≡ x → g.form ≡ cond (constructs g.computed g.is_static (bare_parts ps)) Constructor Method → Runs ways S Next behind o (goes_to Expression true Any (class_key_pieces (static_word g.is_static ++ method_words x) g.computed (lead (bare_parts ps)) (put (method (method_of x)) ∷ []))) ps s e P →
          MemberSeen o (node MethodDefinition w g st en ps) s e P
      methodical Init v form r = let u = behind_static g.is_static g.computed (method_words Init) (lead (bare_parts ps)) (put (method Method) ∷ []) r in method_seen g.computed g.form Method (lead (bare_parts ps)) tree form pl u.word (behind_words Init g.computed (lead (bare_parts ps)) (put (method Method) ∷ []) u.runs)
      methodical Generator v form r = let u = behind_static g.is_static g.computed (method_words Generator) (lead (bare_parts ps)) (put (method Generator) ∷ []) r in method_seen g.computed g.form Generator (lead (bare_parts ps)) tree form pl u.word (behind_words Generator g.computed (lead (bare_parts ps)) (put (method Generator) ∷ []) u.runs)
      methodical Async v form r = let u = behind_static g.is_static g.computed (method_words Async) (lead (bare_parts ps)) (put (method Async) ∷ []) r in method_seen g.computed g.form Async (lead (bare_parts ps)) tree form pl u.word (behind_words Async g.computed (lead (bare_parts ps)) (put (method Async) ∷ []) u.runs)
      methodical AsyncGenerator v form r = let u = behind_static g.is_static g.computed (method_words AsyncGenerator) (lead (bare_parts ps)) (put (method AsyncGenerator) ∷ []) r in
          method_seen g.computed g.form AsyncGenerator (lead (bare_parts ps)) tree form pl u.word (behind_words AsyncGenerator g.computed (lead (bare_parts ps)) (put (method AsyncGenerator) ∷ []) u.runs)
      methodical x v form r = let u = behind_static g.is_static g.computed (never ∷ []) (lead (bare_parts ps)) (put (method (method_of x)) ∷ []) r in absurd (run_never S Next behind (retell S Next behind (next_piece never [] g.computed (lead (bare_parts ps)) (put (method (method_of x)) ∷ [])) u.runs))

      accessed : (f : Form) → g.form ≡ f → is_accessor f ≡ true → f ≡ by_form f (constructs g.computed g.is_static (bare_parts ps)) → Runs ways S Next behind o (goes_to Expression true Any (class_key_pieces (static_word g.is_static ++ term_of f) g.computed (lead (bare_parts ps)) (put (method f) ∷ []))) ps s e P →
          MemberSeen o (node MethodDefinition w g st en ps) s e P
      accessed f same acc form r = let u = behind_static g.is_static g.computed (term_of f) (lead (bare_parts ps)) (put (method f) ∷ []) r in method_seen g.computed g.form f (lead (bare_parts ps)) tree (same ∙ form) pl u.word (behind_accessor f g.computed (lead (bare_parts ps)) (put (method f) ∷ []) acc u.runs)

      by_accessor : (f : Form) → g.form ≡ f → is_accessor f ≡ true → Runs ways S Next behind o (goes_to Expression true Any (class_key_pieces (static_word g.is_static ++ term_of f) g.computed (lead (bare_parts ps)) (put (method f) ∷ []))) ps s e P → MemberSeen o (node MethodDefinition w g st en ps) s e P
      by_accessor Get same acc r = accessed Get same acc refl r
      by_accessor Set same acc r = accessed Set same acc refl r
      by_accessor _ same acc r = cc

      of : Fitted g.computed g.is_static g.form (bare_parts ps) (way_of h).spelling → MemberSeen o (node MethodDefinition w g st en ps) s e P
      of (an_accessor acc l) = by_accessor g.form refl acc (run (class_key_way _ g.computed _ _ l))
      of (a_method form l) = methodical (value_form (bare_parts ps)) refl form (run (class_key_way _ g.computed _ _ l))
  member_seen {o} {n = node PropertyDefinition w g st en (part n (gap none))} {s} {e} {P} (direct qs h pl d) =
      let v = way_of h in
      let after : List Piece = absent ∷ ending (behind_key (key_word g.computed (bare n)) g.is_static) ∷ [] in
      let u = behind_field g.is_static g.computed (kind_of (bare n)) after v.listed (retell S Next behind v.is d) in
      let k = behind_any_key g.computed (kind_of (bare n)) after u.runs in
      let a = run_absent S Next behind k.runs in
      let z = run_end S Next behind det a.runs in
      let left : n ≡ k.left = first_part k.parts in
      let end : Step S Next behind (ending (behind_key (key_word g.computed (bare k.left)) g.is_static)) k.mid e = subst (λ c. Step S Next behind (ending (behind_key (key_word g.computed (bare c)) g.is_static)) k.mid e) left z.ends in
      let others : k.others ≡ gap none = a.parts ∙ ap gap z.parts in
      field_seen g.computed (kind_of (bare n)) (field_tree w g st en (part n (gap none)) v.lean) pl u.word k
      (subst (λ c. Tail Method g.is_static g.computed k.left o k.mid e PropertyDefinition (field_flags g.computed g.is_static) k.others c) (sym z.pairs) (subst (λ c. Tail Method g.is_static g.computed k.left o k.mid e PropertyDefinition (field_flags g.computed g.is_static) c []) (sym others) (alone refl end)))
  member_seen {o} {n = node PropertyDefinition w g st en (part n (part i none))} {s} {e} {P} (direct qs h pl d) =
      let v = way_of h in
      let after : List Piece = sp ∷ sign "=" ∷ sp ∷ assignment ∷ ending (behind_value (edge (bare i))) ∷ [] in
      let u = behind_field g.is_static g.computed (kind_of (bare n)) after v.listed (retell S Next behind v.is d) in
      let k = behind_any_key g.computed (kind_of (bare n)) after u.runs in
      let q = run_token S Next behind (run_laid S Next behind k.runs) in
      let p = run_part S Next behind (run_laid S Next behind q.runs) in
      let z = run_end S Next behind det p.runs in
      let others : k.others ≡ part p.item none = p.parts ∙ ap (part p.item) z.parts in
      let value : i ≡ p.item = second_part (k.parts ∙ ap (part k.left) others) in
      let end : Step S Next behind (ending (behind_value (edge p.item))) p.mid e = subst (λ c. Step S Next behind (ending (behind_value c)) p.mid e) (edge_bare i ∙ ap edge value) z.ends in
      let pairs : k.more ≡ p.one = p.pairs ∙ ap (λ c. p.one ++ c) z.pairs ∙ append-nil p.one in
      field_seen g.computed (kind_of (bare n)) (field_tree w g st en (part n (part i none)) v.lean) pl u.word k
      (subst (λ c. Tail Method g.is_static g.computed k.left o k.mid e PropertyDefinition (field_flags g.computed g.is_static) k.others c) (sym pairs)
      (subst (λ c. Tail Method g.is_static g.computed k.left o k.mid e PropertyDefinition (field_flags g.computed g.is_static) c p.one) (sym others) (valued refl q.reads p.spelled end)))
  member_seen {n = node PropertyDefinition w g st en _} (direct qs h pl d) = elim ((way_of h).listed) [ ]
  member_seen {n = node StaticBlock w g st en ps} (direct qs h pl d) =
      let v = way_of h in
      let a = run_token S Next behind (retell S Next behind (v.is ∙ ap (goes_to Expression true Any) (pieces_of_one v.listed)) d) in
      let b = run_token S Next behind (run_laid S Next behind a.runs) in
      static_block (record {
        st = st;
        en = en;
        parts = ps;
        x = a.mid;
        mid = b.mid;
        sign = a.sign;
        opening = b.sign;
        word = a.reads;
        opens = b.reads;
        runs = b.runs;
        tree = same_node refl (lean_text (bare (node StaticBlock w g st en ps)) v.lean refl) (lean_flags (bare (node StaticBlock w g st en ps)) v.lean) refl refl refl;
        placed = pl;
      })
  member_seen {n = node _ w g st en ps} (direct qs h pl d) = elim ((way_of h).listed) [ ]
