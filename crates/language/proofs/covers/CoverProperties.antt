-- Properties of an object and of its pattern, by what stands behind their key (ECMA-262 12.2.6, 12.15.5, 13.3.3).
use Rattle.std.proofs.Common.{◌≡◌, ℕ, Bool, true, false, cond, List, [], ◌∷◌, ◌++◌, refl, sym, ap, ◌∙◌}
use Rattle.std.specs.Prelude.{Option, Some, None, codes}
use Rattle.tokens.specs.declared.token.TokenClass.TheVariants.{IdentifierName, Punctuator}
use Rattle.tree.specs.declared.kind.Kind.{Kind}
use Rattle.tree.specs.declared.kind.Kind.TheVariants.{Identifier, Property, FunctionExpression, AssignmentPattern}
use Rattle.tree.specs.declared.kind.Flags.{Flags}
use Rattle.tree.specs.declared.kind.Form.{Form}
use Rattle.tree.specs.declared.kind.Form.TheVariants.{Init, Get, Set, Method, Shorthand, Generator, Async, AsyncGenerator}
use Rattle.tree.specs.declared.kind.Pair.{Pair}
use Rattle.tree.specs.Tree.{Tree, node, Parts, none, part, gap, kind_of, bare, bare_parts, plain}
use Rattle.tree.proofs.Lean.{lean_flags, lean_text}
use Rattle.language.specs.declared.Rank.TheVariants.{Expression, Assignment}
use Rattle.language.specs.declared.Start.TheVariants.{Any}
use Rattle.language.specs.FirstPart.{lead, others}
use Rattle.language.specs.Vocabulary.{is_reserved, literal_class, is_name}
use Rattle.language.specs.Pieces.{Role, expr, name, key, shorthand_key, element, method, property, pattern_property, Piece, PieceOf, Spelling, tok, ahead, sub, sign, term, sp, at, only, put, put_at, with_default}
use Rattle.language.specs.Token.{Token}
use Rattle.language.specs.Expressions.{assignment, keyed, properties, pattern_properties, shorthand_pattern, methods, method_words, method_of, value_form}
use Rattle.language.specs.Promises.{IsDetermined}
use Rattle.language.specs.Grammar.{ways, spellings, is_function_at}
use Rattle.language.specs.Derivation.{Among, Reads, Spells, direct, Runs, step, within, token, placed}
use Rattle.language.proofs.lower_bound.Domination.{settled}
use Rattle.language.proofs.table.ViewIsComplete.{way_of, one, unless, cases}
use Rattle.language.proofs.table.Begins.{goes_to, retell}
use Rattle.language.proofs.list_loops.FirstPieces.{run_none, run_token, run_laid, run_part, run_absent, run_unbroken, run_never}
use Rattle.language.proofs.climbing.RightOperands.{one_part}
use Rattle.language.proofs.climbing.BinaryTurns.{same_node}
use Rattle.language.proofs.table.PropertyNameWays.{is_accessor}

-- the flags of a property
abbrev pub flags_as : Bool → Form → Flags
flags_as c f = record plain { computed = c; form = f }

-- the word before the key of a getter or a setter
abbrev pub accessor_word : Form → List ℕ
accessor_word Set = codes "set"
accessor_word _ = codes "get"

-- the position of a property's value in an expression
abbrev pub to_expression : Kind → Option Role
to_expression k = Some (expr Assignment true Any)

-- a key, in brackets or not, and what stands behind it
abbrev pub key_pieces : Bool → List Piece → List Piece
key_pieces c after = cond c (sign "[" ∷ assignment ∷ sign "]" ∷ after) (put key ∷ after)

key_way : (c : Bool) (after : List Piece) {x : Spelling} → Among x (keyed [] c after) → x.pieces ≡ key_pieces c after
key_way true after h = ap (λ (y : Spelling). y.pieces) (one h)
key_way false after h = ap (λ (y : Spelling). y.pieces) (one h)

before_way : (before : List Piece) (c : Bool) (after : List Piece) {x : Spelling} → Among x (keyed before c after) → x.pieces ≡ before ++ key_pieces c after
before_way before true after h = ap (λ (y : Spelling). y.pieces) (one h)
before_way before false after h = ap (λ (y : Spelling). y.pieces) (one h)

word_way : (w : List ℕ) (c : Bool) (after : List Piece) {x : Spelling} → Among x (keyed (tok IdentifierName w ∷ sp ∷ []) c after) → x.pieces ≡ tok IdentifierName w ∷ sp ∷ key_pieces c after
word_way w true after h = ap (λ (y : Spelling). y.pieces) (one h)
word_way w false after h = ap (λ (y : Spelling). y.pieces) (one h)

module _ (S : Type 0) (Next : S → Token → S → Type 0) (behind : S → Token) (det : IsDetermined S Next behind) where
  -- a key as the tokens have it
  pub data KeyAt (o : ℕ) (n : Tree) (s e : S) (P : List Pair) : Bool → Type 0 where
    plain_key : Spells ways S Next behind o key n s e P → KeyAt o n s e P false
    computed_key : {x m : S} {t u : Token} → Reads S Next behind Punctuator (codes "[") s t x → Spells ways S Next behind o (expr Assignment true Any) n x m P → Reads S Next behind Punctuator (codes "]") m u e → KeyAt o n s e P true

  -- a key, and what runs behind it
  pub record Keyed (o : ℕ) (c : Bool) (after : List Piece) (ps : Parts) (s e : S) (P : List Pair) : Type 0 where
    pub item : Tree
    pub rest : Parts
    pub mid : S
    pub one : List Pair
    pub more : List Pair
    pub parts : ps ≡ part item rest
    pub key : KeyAt o item s mid one c
    pub runs : Runs ways S Next behind o (goes_to Expression true Any after) rest mid e more
    pub pairs : P ≡ one ++ more

  pub run_key : {o : ℕ} (c : Bool) (after : List Piece) {ps : Parts} {s e : S} {P : List Pair} → Runs ways S Next behind o (goes_to Expression true Any (key_pieces c after)) ps s e P → Keyed o c after ps s e P
  run_key true after d =
      let a = run_token S Next behind d in
      let p = run_part S Next behind a.runs in
      let b = run_token S Next behind p.runs in
      record { item = p.item; rest = p.rest; mid = b.mid; one = p.one; more = p.more; parts = p.parts; key = computed_key a.reads p.spelled b.reads; runs = b.runs; pairs = p.pairs }
  run_key false after d = let p = run_part S Next behind d in record { item = p.item; rest = p.rest; mid = p.mid; one = p.one; more = p.more; parts = p.parts; key = plain_key p.spelled; runs = p.runs; pairs = p.pairs }

  -- and back
  pub key_runs : {o : ℕ} (c : Bool) (after : List Piece) {n : Tree} {ps : Parts} {s m e : S} {P Q : List Pair} → KeyAt o n s m P c → Runs ways S Next behind o (goes_to Expression true Any after) ps m e Q → Runs ways S Next behind o (goes_to Expression true Any (key_pieces c after)) (part n ps) s e (P ++ Q)
  key_runs true after (computed_key h d k) r = step (token h) (within d (step (token k) r))
  key_runs false after (plain_key d) r = within d r

  -- the first token of the function of a method
  pub record Begins (w : List ℕ) (s : S) : Type 0 where
    pub sign : Token
    pub mid : S
    pub reads : Reads S Next behind Punctuator w s sign mid

  method_way : (a : Role) {o : ℕ} {x : Spelling} {qs : List Piece} {ps : Parts} {s e : S} {P : List Pair} → Among x (only (Rattle.language.specs.Pieces.absent ∷ sign "(" ∷ qs)) → Runs ways S Next behind o (settled a x) ps s e P → Begins (codes "(") s
  method_way a h d = let u = run_token S Next behind (run_absent S Next behind (retell S Next behind (ap (settled a) (one h)) d)).runs in record { sign = u.sign; mid = u.mid; reads = u.reads }

  pub method_begins : {o : ℕ} (f : Form) {n : Tree} {s e : S} {P : List Pair} → Spells ways S Next behind o (method f) n s e P → Begins (codes "(") s
  unfolding spellings
  method_begins {o} f {n = node FunctionExpression w g st en ps} {s} {e} {P} (direct qs h pl d) = cases {ys = []} (is_function_at f g.form) ((way_of h).listed) (λ b l. of f (bare_parts ps) l) (λ b l. elim l [ ])
    where
      run : Runs ways S Next behind o (settled (method f) (way_of h).spelling) ps s e P
      run = retell S Next behind (way_of h).is d

      of : (f' : Form) (ps' : Parts) → Among (way_of h).spelling (methods f' ps') → Begins (codes "(") s
      of Get (gap (part b none)) l = method_way (method f) l run
      of Get none l = elim l [ ]
      of Get (part n ps') l = elim l [ ]
      of Get (gap none) l = elim l [ ]
      of Get (gap (gap ps')) l = elim l [ ]
      of Get (gap (part b (part c ps'))) l = elim l [ ]
      of Get (gap (part b (gap ps'))) l = elim l [ ]
      of Set (gap (part n (part b none))) l = unless (Rattle.language.specs.Vocabulary.is_rest (kind_of n)) l (λ k i. method_way (method f) i run)
      of Set none l = elim l [ ]
      of Set (part n ps') l = elim l [ ]
      of Set (gap none) l = elim l [ ]
      of Set (gap (gap ps')) l = elim l [ ]
      of Set (gap (part b none)) l = elim l [ ]
      of Set (gap (part b (gap ps'))) l = elim l [ ]
      of Set (gap (part b (part c (part d' ps')))) l = elim l [ ]
      of Set (gap (part b (part c (gap ps')))) l = elim l [ ]
      of _ (gap ps') l = method_way (method f) l run
      of _ none l = elim l [ ]
      of _ (part n ps') l = elim l [ ]
  method_begins f {n = node _ w g st en ps} (direct qs h pl d) = elim ((way_of h).listed) [ ]

  -- A property with a value behind `:`, at the position that its kind has.
  pub record Valued (r : Kind → Option Role) (o : ℕ) (n : Tree) (s e : S) (P : List Pair) : Type 0 where
    pub computed : Bool
    pub st : ℕ
    pub en : ℕ
    pub name : Tree
    pub value : Tree
    pub role : Role
    pub mid : S
    pub x : S
    pub sign : Token
    pub one : List Pair
    pub more : List Pair
    pub tree : n ≡ node Property [] (flags_as computed Init) st en (part name (part value none))
    pub start : Token
    pub behind_start : S
    pub next : Next s start behind_start
    pub starts : start.start ≡ st
    pub stops : (behind e).stop ≡ en
    pub key : KeyAt o name s mid one computed
    pub reads : Reads S Next behind Punctuator (codes ":") mid sign x
    pub it_is : r (kind_of value) ≡ Some role
    pub spelled : Spells ways S Next behind o role value x e more
    pub pairs : P ≡ one ++ more

  -- A shorthand: a name, perhaps with a default, before which its key stands in thought.
  pub record Short (a : Role) (o : ℕ) (n : Tree) (s e : S) (P : List Pair) : Type 0 where
    pub st : ℕ
    pub en : ℕ
    pub key : Tree
    pub value : Tree
    pub one : List Pair
    pub more : List Pair
    pub mid : S
    pub tree : n ≡ node Property [] (flags_as false Shorthand) st en (part key (part value none))
    pub start : Token
    pub behind_start : S
    pub next : Next s start behind_start
    pub starts : start.start ≡ st
    pub stops : (behind e).stop ≡ en
    pub echoes : Spells ways S Next behind o shorthand_key key s mid one
    pub spelled : Spells ways S Next behind o a value mid e more
    pub pairs : P ≡ one ++ more

  -- A function behind its key, at a method's position of its form: of a method, or of a getter or setter, whose key stands behind a word.
  pub record Called (f y : Form) (o : ℕ) (n : Tree) (s z e : S) (P : List Pair) : Type 0 where
    pub computed : Bool
    pub st : ℕ
    pub en : ℕ
    pub name : Tree
    pub function : Tree
    pub mid : S
    pub x : S
    pub sign : Token
    pub one : List Pair
    pub more : List Pair
    pub tree : n ≡ node Property [] (flags_as computed f) st en (part name (part function none))
    pub start : Token
    pub behind_start : S
    pub next : Next s start behind_start
    pub starts : start.start ≡ st
    pub stops : (behind e).stop ≡ en
    pub key : KeyAt o name z mid one computed
    pub reads : Reads S Next behind Punctuator (codes "(") mid sign x
    pub spelled : Spells ways S Next behind o (method y) function mid e more
    pub pairs : P ≡ one ++ more

  -- a property of an object: a value, a shorthand, a method, or a getter or setter
  pub data PropertyAt (o : ℕ) (n : Tree) (s e : S) (P : List Pair) : Type 0 where
    by_value : Valued to_expression o n s e P → PropertyAt o n s e P
    by_name : Short name o n s e P → PropertyAt o n s e P
    by_method : Called Method Method o n s s e P → PropertyAt o n s e P
    by_star : {x : S} {t : Token} → Reads S Next behind Punctuator (codes "*") s t x → Called Method Generator o n s x e P → PropertyAt o n s e P
    by_async : {x k : S} {t v : Token} → Reads S Next behind IdentifierName (codes "async") s t x → Next x v k → v.after_break ≡ false → Called Method Async o n s x e P → PropertyAt o n s e P
    by_async_star : {x k : S} {t v : Token} → Reads S Next behind IdentifierName (codes "async") s t x → Reads S Next behind Punctuator (codes "*") x v k → v.after_break ≡ false → Called Method AsyncGenerator o n s k e P → PropertyAt o n s e P
    by_accessor : {x : S} {t : Token} (f : Form) → is_accessor f ≡ true → Reads S Next behind IdentifierName (accessor_word f) s t x → Called f f o n s x e P → PropertyAt o n s e P

  -- of an object pattern: a value, a shorthand, or one with a default
  pub data PatternPropertyAt (b : Bool) (o : ℕ) (n : Tree) (s e : S) (P : List Pair) : Type 0 where
    with_value : Valued (with_default b) o n s e P → PatternPropertyAt b o n s e P
    with_name : Short name o n s e P → PatternPropertyAt b o n s e P
    with_element : Short (element true) o n s e P → PatternPropertyAt b o n s e P

  value_at : {o : ℕ} {a : Role} (r : Kind → Option Role) {n : Tree} (c : Bool) {g : Flags} {w : List ℕ} {st en : ℕ} {ps : Parts} {s e m : S} {t : Token} {P : List Pair} → n ≡ node Property w g st en ps → w ≡ [] → g ≡ flags_as c Init → Next s t m → t.start ≡ st → (behind e).stop ≡ en →
      ((u : Tree) (rest : Parts) → ps ≡ part u rest → (v : Tree) → rest ≡ part v none → r (kind_of v) ≡ Some a) →
      Runs ways S Next behind o (goes_to Expression true Any (key_pieces c (sign ":" ∷ sp ∷ put a ∷ []))) ps s e P → Valued r o n s e P
  value_at {a = a} r c {st = st} {en = en} {m = m} {t = t} is text flags nx p q kind d =
      let k = run_key c (sign ":" ∷ sp ∷ put a ∷ []) d in
      let v = run_token S Next behind k.runs in
      let u = one_part S Next behind det (run_laid S Next behind v.runs) in
      record {
        computed = c;
        st = st;
        en = en;
        name = k.item;
        value = u.operand;
        role = a;
        mid = k.mid;
        x = v.mid;
        sign = v.sign;
        one = k.one;
        more = k.more;
        tree = is ∙ same_node refl text flags refl refl (k.parts ∙ ap (part k.item) u.parts);
        start = t;
        behind_start = m;
        next = nx;
        starts = p;
        stops = q;
        key = k.key;
        reads = v.reads;
        it_is = kind k.item k.rest k.parts u.operand u.parts;
        spelled = u.spelled;
        pairs = k.pairs;
      }

  called_at : {o : ℕ} (f y : Form) {n : Tree} (c : Bool) {g : Flags} {w : List ℕ} {st en : ℕ} {ps : Parts} {s z e m : S} {t : Token} {P : List Pair} → n ≡ node Property w g st en ps → w ≡ [] → g ≡ flags_as c f → Next s t m → t.start ≡ st → (behind e).stop ≡ en →
      Runs ways S Next behind o (goes_to Expression true Any (key_pieces c (put (method y) ∷ []))) ps z e P → Called f y o n s z e P
  called_at f y c {st = st} {en = en} {m = m} {t = t} is text flags nx p q d =
      let k = run_key c (put (method y) ∷ []) d in
      let u = one_part S Next behind det k.runs in
      let b = method_begins y u.spelled in
      record {
        computed = c;
        st = st;
        en = en;
        name = k.item;
        function = u.operand;
        mid = k.mid;
        x = b.mid;
        sign = b.sign;
        one = k.one;
        more = k.more;
        tree = is ∙ same_node refl text flags refl refl (k.parts ∙ ap (part k.item) u.parts);
        start = t;
        behind_start = m;
        next = nx;
        starts = p;
        stops = q;
        key = k.key;
        reads = b.reads;
        spelled = u.spelled;
        pairs = k.pairs;
      }

  short_at : {o : ℕ} (a : Role) {n : Tree} {g : Flags} {w : List ℕ} {st en : ℕ} {ps : Parts} {s e m : S} {t : Token} {P : List Pair} → n ≡ node Property w g st en ps → w ≡ [] → g ≡ flags_as false Shorthand → Next s t m → t.start ≡ st → (behind e).stop ≡ en →
      Runs ways S Next behind o (goes_to Expression true Any (put shorthand_key ∷ put a ∷ [])) ps s e P → Short a o n s e P
  short_at a {st = st} {en = en} {m = m} {t = t} is text flags nx p q d =
      let k = run_part S Next behind d in
      let u = one_part S Next behind det k.runs in
      record {
        st = st;
        en = en;
        key = k.item;
        value = u.operand;
        one = k.one;
        more = k.more;
        mid = k.mid;
        tree = is ∙ same_node refl text flags refl refl (k.parts ∙ ap (part k.item) u.parts);
        start = t;
        behind_start = m;
        next = nx;
        starts = p;
        stops = q;
        echoes = k.spelled;
        spelled = u.spelled;
        pairs = k.pairs;
      }

  -- what spells a property of an object
  pub property_at : {o : ℕ} {n : Tree} {s e : S} {P : List Pair} → Spells ways S Next behind o property n s e P → PropertyAt o n s e P
  unfolding spellings
  property_at {o} {n = node Property w g st en ps} {s} {e} {P} (direct qs h (placed {t = t} {m = m} nx p) d) = of g.form refl (way_of h).listed
    where
      text : w ≡ []
      text = lean_text (bare (node Property w g st en ps)) (way_of h).lean refl

      flags : {f : Form} {c : Bool} → g.computed ≡ c → g.form ≡ f → g ≡ flags_as c f
      flags k l = lean_flags (bare (node Property w g st en ps)) (way_of h).lean ∙ (λ i. flags_as (k i) (l i))

      run : {rs : List Piece} → (way_of h).spelling.pieces ≡ rs → Runs ways S Next behind o (goes_to Expression true Any rs) ps s e P
      run k = retell S Next behind ((way_of h).is ∙ ap (goes_to Expression true Any) k) d

      called : {z : S} (f y : Form) → g.form ≡ f → Runs ways S Next behind o (goes_to Expression true Any (key_pieces g.computed (put (method y) ∷ []))) ps z e P → Called f y o (node Property w g st en ps) s z e P
      called f y k r = called_at f y g.computed refl text (flags refl k) nx (ap (λ (c : ℕ × ℕ). c.0) p) (ap (λ (c : ℕ × ℕ). c.1) p) r

      accessed : (f : Form) → is_accessor f ≡ true → g.form ≡ f → Runs ways S Next behind o (goes_to Expression true Any (tok IdentifierName (accessor_word f) ∷ sp ∷ key_pieces g.computed (put (method f) ∷ []))) ps s e P → PropertyAt o (node Property w g st en ps) s e P
      accessed f is k r = let v = run_token S Next behind r in by_accessor f is v.reads (called f f k (run_laid S Next behind v.runs))

      shortened : (c : Bool) → g.computed ≡ c → g.form ≡ Shorthand → Among (way_of h).spelling (cond c [] (only (put shorthand_key ∷ put name ∷ []))) → PropertyAt o (node Property w g st en ps) s e P
      shortened true k f l = elim l [ ]
      shortened false k f l = by_name (short_at name refl text (flags k f) nx (ap (λ (c : ℕ × ℕ). c.0) p) (ap (λ (c : ℕ × ℕ). c.1) p) (run (ap (λ (y : Spelling). y.pieces) (one l))))

      methodical : (x : Form) → g.form ≡ Method → Among (way_of h).spelling (properties g.computed Method x) → PropertyAt o (node Property w g st en ps) s e P
      methodical Init f l = by_method (called Method Method f (run (key_way g.computed (put (method Method) ∷ []) l)))
      methodical Generator f l = let v = run_token S Next behind (run (before_way (method_words Generator) g.computed (put (method Generator) ∷ []) l)) in by_star v.reads (called Method Generator f v.runs)
      methodical Async f l =
          let a = run_token S Next behind (run (before_way (method_words Async) g.computed (put (method Async) ∷ []) l)) in
          let b = run_unbroken S Next behind a.runs in
          by_async a.reads b.next b.unbroken (called Method Async f (run_laid S Next behind b.runs))
      methodical AsyncGenerator f l =
          let a = run_token S Next behind (run (before_way (method_words AsyncGenerator) g.computed (put (method AsyncGenerator) ∷ []) l)) in
          let b = run_unbroken S Next behind a.runs in
          let c = run_token S Next behind (run_laid S Next behind b.runs) in
          by_async_star a.reads c.reads (det.break a.mid c.sign b.sign c.mid b.mid c.reads.next b.next ∙ b.unbroken) (called Method AsyncGenerator f c.runs)
      methodical x f l = absurd (run_never S Next behind (run (before_way (method_words x) g.computed (put (method (method_of x)) ∷ []) l)))

      of : (f : Form) → g.form ≡ f → Among (way_of h).spelling (properties g.computed f (value_form (bare_parts ps))) → PropertyAt o (node Property w g st en ps) s e P
      of Init f l = by_value (value_at to_expression g.computed refl text (flags refl f) nx (ap (λ (c : ℕ × ℕ). c.0) p) (ap (λ (c : ℕ × ℕ). c.1) p) (λ u rest i v j. refl) (run (key_way g.computed (sign ":" ∷ sp ∷ assignment ∷ []) l)))
      of Method f l = methodical (value_form (bare_parts ps)) f l
      of Get f l = accessed Get refl f (run (word_way (codes "get") g.computed (put (method Get) ∷ []) l))
      of Set f l = accessed Set refl f (run (word_way (codes "set") g.computed (put (method Set) ∷ []) l))
      of Shorthand f l = shortened g.computed refl f l
      of _ f l = elim l [ ]
  property_at {n = node _ w g st en ps} (direct qs h pl d) = elim ((way_of h).listed) [ ]

  -- what spells a property of an object pattern
  pub pattern_property_at : (b : Bool) {o : ℕ} {n : Tree} {s e : S} {P : List Pair} → Spells ways S Next behind o (pattern_property b) n s e P → PatternPropertyAt b o n s e P
  unfolding spellings
  pattern_property_at b {o} {n = node Property w g st en ps} {s} {e} {P} (direct qs h (placed {t = t} {m = m} nx p) d) = of g.form refl (way_of h).listed
    where
      text : w ≡ []
      text = lean_text (bare (node Property w g st en ps)) (way_of h).lean refl

      flags : {f : Form} {c : Bool} → g.computed ≡ c → g.form ≡ f → g ≡ flags_as c f
      flags k l = lean_flags (bare (node Property w g st en ps)) (way_of h).lean ∙ (λ i. flags_as (k i) (l i))

      run : {rs : List Piece} → (way_of h).spelling.pieces ≡ rs → Runs ways S Next behind o (goes_to Expression true Any rs) ps s e P
      run k = retell S Next behind ((way_of h).is ∙ ap (goes_to Expression true Any) k) d

      second : (u : Tree) (rest : Parts) → ps ≡ part u rest → (v : Tree) → rest ≡ part v none → kind_of v ≡ lead (others (bare_parts ps))
      second u rest i v j = sym (ap (λ c. lead (others (bare_parts c))) (i ∙ ap (part u) j) ∙ Rattle.language.proofs.climbing.OperatorNodes.kind_bare v)

      valued : (x : Option Role) → with_default b (lead (others (bare_parts ps))) ≡ x → Runs ways S Next behind o (goes_to Expression true Any (key_pieces g.computed (sign ":" ∷ sp ∷ put_at x ∷ []))) ps s e P → g.form ≡ Init → PatternPropertyAt b o (node Property w g st en ps) s e P
      valued None k r f =
          let a = run_key g.computed (sign ":" ∷ sp ∷ put_at None ∷ []) r in
          absurd (Rattle.language.proofs.list_loops.FirstPieces.run_never S Next behind (run_laid S Next behind (run_token S Next behind a.runs).runs))
      valued (Some a) k r f = with_value (value_at (with_default b) g.computed refl text (flags refl f) nx (ap (λ (c : ℕ × ℕ). c.0) p) (ap (λ (c : ℕ × ℕ). c.1) p) (λ u rest i v j. ap (with_default b) (second u rest i v j) ∙ k) r)

      short : (k : Kind) → g.computed ≡ false → g.form ≡ Shorthand → Among (way_of h).spelling (shorthand_pattern k) → PatternPropertyAt b o (node Property w g st en ps) s e P
      short Identifier c f l = with_name (short_at name refl text (flags c f) nx (ap (λ (c : ℕ × ℕ). c.0) p) (ap (λ (c : ℕ × ℕ). c.1) p) (run (ap (λ (y : Spelling). y.pieces) (one l))))
      short AssignmentPattern c f l = with_element (short_at (element true) refl text (flags c f) nx (ap (λ (c : ℕ × ℕ). c.0) p) (ap (λ (c : ℕ × ℕ). c.1) p) (run (ap (λ (y : Spelling). y.pieces) (one l))))
      short _ c f l = elim l [ ]

      shortened : (c : Bool) → g.computed ≡ c → g.form ≡ Shorthand → Among (way_of h).spelling (cond c [] (shorthand_pattern (lead (others (bare_parts ps))))) → PatternPropertyAt b o (node Property w g st en ps) s e P
      shortened true k f l = elim l [ ]
      shortened false k f l = short (lead (others (bare_parts ps))) k f l

      of : (f : Form) → g.form ≡ f → Among (way_of h).spelling (pattern_properties b g.computed f (lead (others (bare_parts ps)))) → PatternPropertyAt b o (node Property w g st en ps) s e P
      of Init f l = valued (with_default b (lead (others (bare_parts ps)))) refl (run (key_way g.computed (sign ":" ∷ sp ∷ put_at (with_default b (lead (others (bare_parts ps)))) ∷ []) l)) f
      of Shorthand f l = shortened g.computed refl f l
      of _ f l = elim l [ ]
  pattern_property_at b {n = node _ w g st en ps} (direct qs h pl d) = elim ((way_of h).listed) [ ]
