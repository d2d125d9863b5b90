-- An element of a pattern, with a default or without: what spells it, and what of it is an expression too (ECMA-262 12.15.5, 13.3.3).
use Rattle.std.proofs.Common.{◌≡◌, ℕ, Bool, true, false, cond, List, [], ◌∷◌, ◌++◌, refl, sym, ap, ◌∙◌, subst}
use Rattle.std.specs.Prelude.{IsTrue, Option, Some, None, codes}
use Rattle.std.proofs.lemmas.Bool.{false≢true}
use Rattle.tokens.specs.declared.token.TokenClass.TheVariants.{IdentifierName, Punctuator}
use Rattle.tree.specs.declared.kind.Kind.{Kind}
use Rattle.tree.specs.declared.kind.Kind.TheVariants.{Identifier, MemberExpression, AssignmentExpression, AssignmentPattern}
use Rattle.tree.specs.declared.kind.Flags.{Flags}
use Rattle.tree.specs.declared.kind.Pair.{Pair}
use Rattle.tree.specs.Tree.{Tree, node, Parts, none, part, kind_of, bare, bare_parts, plain}
use Rattle.tree.specs.Uses.{is_lean}
use Rattle.tree.proofs.Lean.{lean_flags, lean_text}
use Rattle.language.specs.declared.Rank.{Rank}
use Rattle.language.specs.declared.Rank.TheVariants.{Expression, Assignment, LeftHandSide, Member, Primary}
use Rattle.language.specs.declared.Start.TheVariants.{Any}
use Rattle.language.specs.FirstPart.{lead as lead_kind, others}
use Rattle.language.specs.Vocabulary.{takes, is_target, is_pattern, is_identifier}
use Rattle.language.specs.Pieces.{Role, expr, name, pattern, element, PieceOf, Piece, Spelling, tok, sub, callee, sp, sign, at, bound, only_at, with_default, is_tight}
use Rattle.language.specs.Token.{Token}
use Rattle.language.specs.Expressions.{assignment, selector, after_number, property_name}
use Rattle.language.specs.Promises.{IsDetermined}
use Rattle.language.specs.Grammar.{ways, spellings}
use Rattle.language.specs.Derivation.{Among, first, Reads, Spells, direct, grouped, Runs, step, done, within, token, laid, Placed, placed}
use Rattle.language.specs.Chosen as chosen
use Rattle.language.specs.Chosen.{Chosen}
use Rattle.language.specs.Forms.{Production, form, spelling_of}
use Rattle.language.proofs.table.NodeForms.{identifier, super_member, member}
use Rattle.language.proofs.lower_bound.Domination.{settled}
use Rattle.language.proofs.table.ViewIsComplete.{way_of, one}
use Rattle.language.proofs.table.Productions.{spell, way_from}
use Rattle.language.proofs.table.Begins.{retell, number_laid, AllLaid, no_piece, one_laid}
use Rattle.language.proofs.table.FixedPieces.{Fixed, all_done, one_more, same_pieces, fixed_join}
use Rattle.language.proofs.list_loops.FirstPieces.{run_token, run_laid, run_part}
use Rattle.language.proofs.climbing.RightOperands.{one_part}
use Rattle.language.proofs.climbing.OperatorNodes.{kind_bare, assign_grows, last_runs}
use Rattle.language.proofs.table.RightEdges.{view_of}
use Rattle.language.proofs.climbing.BinaryTurns.{same_node, replaced}
use Rattle.language.proofs.climbing.Leaves.{name_form}
use Rattle.language.proofs.climbing.Targets.{pattern_is}

-- what an expression is whose left side, or which itself, is a simple target; where names are bound, a name
abbrev pub is_simple : Bool → Kind → Bool
is_simple true k = is_identifier k
is_simple false k = is_target k

some_is : {a b : Role} → Some a ≡ Some b → a ≡ b
some_is e = cc

pub simple_target : (b : Bool) (k : Kind) → is_simple b k ≡ true → is_target k ≡ true
simple_target true Identifier h = refl
simple_target true _ h = absurd (false≢true h)
simple_target false k h = h

target_no_pattern : (k : Kind) → is_target k ≡ true → is_pattern k ≡ false
target_no_pattern Identifier h = refl
target_no_pattern MemberExpression h = refl
target_no_pattern _ h = absurd (false≢true h)

-- the position of a pattern, of a name and of a simple target
pattern_bound : (b : Bool) (k : Kind) → is_pattern k ≡ true → bound b k ≡ Some (pattern b Any)
pattern_bound true k h = ap (λ x. cond x (Some (pattern true Any)) (cond (is_identifier k) (Some name) None)) h
pattern_bound false k h = ap (λ x. cond x (Some (pattern false Any)) (cond (is_target k) (Some (expr LeftHandSide true Any)) None)) h

name_bound : (k : Kind) → k ≡ Identifier → bound true k ≡ Some name
name_bound k h = ap (bound true) h

target_bound : (k : Kind) → is_target k ≡ true → bound false k ≡ Some (expr LeftHandSide true Any)
target_bound k h = ap (λ x. cond x (Some (pattern false Any)) (cond (is_target k) (Some (expr LeftHandSide true Any)) None)) (target_no_pattern k h) ∙ ap (λ x. cond x (Some (expr LeftHandSide true Any)) None) h

-- what is bound has no default
pub bound_defaults : (b : Bool) (k : Kind) {a : Role} → bound b k ≡ Some a → with_default b k ≡ Some a
bound_defaults true AssignmentPattern h = cc
bound_defaults false AssignmentPattern h = cc
bound_defaults b _ h = h

fixed_selector : (g : Flags) (k : Kind) → Fixed (selector g k)
fixed_selector g k = of g.computed
  where
    of : (c : Bool) → Fixed (cond c (Rattle.language.specs.Expressions.in_brackets) (sign "." ∷ property_name k ∷ []))
    of true = one_more refl (one_more refl (one_more refl all_done))
    of false = one_more refl (one_more refl all_done)

fixed_laid : {qs : List Piece} → AllLaid qs → Fixed qs
fixed_laid no_piece = all_done
fixed_laid one_laid = one_more refl all_done

module _ (S : Type 0) (Next : S → Token → S → Type 0) (behind : S → Token) (det : IsDetermined S Next behind) where
  -- a name or a member stands at a symbol for left sides as at that of an assignment
  member_moves : {o : ℕ} {w : List ℕ} {g : Flags} {st en : ℕ} {ps : Parts} {s e : S} {P : List Pair} {p : Production} {i i' : Bool} (y y' : Rank) → IsTrue (takes y' Member) → is_tight y ≡ is_tight y' → Chosen w g (bare_parts ps) (expr Expression true Any) MemberExpression p →
      is_lean (bare (node MemberExpression w g st en ps)) ≡ true → Placed S Next behind (expr y i Any) (node MemberExpression w g st en ps) s e → Runs ways S Next behind o (settled (expr y i Any) (spelling_of (form p) w g (bare_parts ps))) ps s e P →
      Spells ways S Next behind o (expr y' i' Any) (node MemberExpression w g st en ps) s e P
  member_moves {g = g} {i = i} {i' = i'} y y' tk tight (chosen.super_member op s) lean pl d =
      spell S Next behind (at Member (Rattle.language.specs.Pieces.put Rattle.language.specs.Pieces.base ∷ selector g Identifier)) (super_member op s) lean tk refl refl (replaced S Next behind det pl)
      (retell S Next behind (same_pieces y y' i i' Any Any (one_more {p = Rattle.language.specs.Pieces.put Rattle.language.specs.Pieces.base} refl (fixed_selector g Identifier))) d)
  member_moves {g = g} {ps = ps} {i = i} {i' = i'} y y' tk tight (chosen.member_access op s) lean pl d =
      spell S Next behind (at Member (sub callee ∷ after_number (bare_parts ps) g ++ selector g (lead_kind (others (bare_parts ps))))) (member op s) lean tk refl refl (replaced S Next behind det pl)
      (retell S Next behind (λ k. sub (expr (cond (tight k) Member Rattle.language.specs.declared.Rank.TheVariants.Call) true Any) ∷ same_pieces y y' i i' Any Any (fixed_join (fixed_laid (number_laid (bare_parts ps) g)) (fixed_selector g (lead_kind (others (bare_parts ps))))) k) d)
  member_moves y y' tk tight (chosen.of_statement s c) lean pl d = elim s [ ]
  member_moves y y' tk tight (chosen.of_declaration s c) lean pl d = elim s [ ]

  identifier_moves : {o : ℕ} {w : List ℕ} {g : Flags} {st en : ℕ} {ps : Parts} {s e : S} {P : List Pair} {p : Production} {i i' : Bool} (y y' : Rank) → IsTrue (takes y' Primary) → Chosen w g (bare_parts ps) (expr Expression true Any) Identifier p →
      is_lean (bare (node Identifier w g st en ps)) ≡ true → Placed S Next behind (expr y i Any) (node Identifier w g st en ps) s e → Runs ways S Next behind o (settled (expr y i Any) (spelling_of (form p) w g (bare_parts ps))) ps s e P →
      Spells ways S Next behind o (expr y' i' Any) (node Identifier w g st en ps) s e P
  identifier_moves {w = w} y y' tk (chosen.identifier h) lean pl d = spell S Next behind (at Primary (tok IdentifierName w ∷ [])) (identifier h) lean tk refl refl (replaced S Next behind det pl) d
  identifier_moves y y' tk (chosen.of_statement s c) lean pl d = elim s [ ]
  identifier_moves y y' tk (chosen.of_declaration s c) lean pl d = elim s [ ]

  pub target_moves : {o : ℕ} {n : Tree} {s e : S} {P : List Pair} {i i' : Bool} (y y' : Rank) → IsTrue (takes y' Primary) → IsTrue (takes y' Member) → is_tight y ≡ is_tight y' → is_target (kind_of n) ≡ true →
      Spells ways S Next behind o (expr y i Any) n s e P → Spells ways S Next behind o (expr y' i' Any) n s e P
  target_moves y y' tk tm tight h (grouped p d q) = grouped p d q
  target_moves {n = node Identifier w g st en ps} {i = i} y y' tk tm tight h (direct qs way pl d) =
      let v = view_of st en way in identifier_moves y y' tk v.made.chosen (way_of way).lean pl (retell S Next behind (v.is ∙ ap (settled (expr y i Any)) v.made.is) d)
  target_moves {n = node MemberExpression w g st en ps} {i = i} y y' tk tm tight h (direct qs way pl d) =
      let v = view_of st en way in member_moves y y' tm tight v.made.chosen (way_of way).lean pl (retell S Next behind (v.is ∙ ap (settled (expr y i Any)) v.made.is) d)
  target_moves {n = node _ w g st en ps} y y' tk tm tight h (direct qs way pl d) = absurd (false≢true h)

  -- a name, where names are bound; else a simple target
  pub data Simple (b : Bool) (o : ℕ) (l : Tree) (s e : S) (P : List Pair) : Type 0 where
    a_name : b ≡ true → Spells ways S Next behind o name l s e P → Simple b o l s e P
    a_target : b ≡ false → is_target (kind_of l) ≡ true → Spells ways S Next behind o (expr LeftHandSide true Any) l s e P → Simple b o l s e P

  -- a pattern, or one of these
  pub data BoundForm (b : Bool) (o : ℕ) (l : Tree) (s e : S) (P : List Pair) : Type 0 where
    a_pattern : Spells ways S Next behind o (pattern b Any) l s e P → BoundForm b o l s e P
    a_simple : Simple b o l s e P → BoundForm b o l s e P

  pub bound_form : (b : Bool) {o : ℕ} {a : Role} (l : Tree) {s e : S} {P : List Pair} → bound b (kind_of l) ≡ Some a → Spells ways S Next behind o a l s e P → BoundForm b o l s e P
  bound_form true {o} {a} l {s} {e} {P} h d = of (is_pattern (kind_of l)) (is_identifier (kind_of l)) h
    where
      of : (x y : Bool) → cond x (Some (pattern true Any)) (cond y (Some name) None) ≡ Some a → BoundForm true o l s e P
      of true y k = a_pattern (subst (λ c. Spells ways S Next behind o c l s e P) (sym (some_is k)) d)
      of false true k = a_simple (a_name refl (subst (λ c. Spells ways S Next behind o c l s e P) (sym (some_is k)) d))
      of false false k = cc
  bound_form false {o} {a} l {s} {e} {P} h d = of (is_pattern (kind_of l)) (is_target (kind_of l)) refl h
    where
      of : (x y : Bool) → is_target (kind_of l) ≡ y → cond x (Some (pattern false Any)) (cond y (Some (expr LeftHandSide true Any)) None) ≡ Some a → BoundForm false o l s e P
      of true y t k = a_pattern (subst (λ c. Spells ways S Next behind o c l s e P) (sym (some_is k)) d)
      of false true t k = a_simple (a_target refl t (subst (λ c. Spells ways S Next behind o c l s e P) (sym (some_is k)) d))
      of false false t k = cc

  -- the position of what is bound or assigned to
  pub record AtRole (x : Option Role) (o : ℕ) (l : Tree) (s e : S) (P : List Pair) : Type 0 where
    pub role : Role
    pub it_is : x ≡ Some role
    pub spelled : Spells ways S Next behind o role l s e P

  pub simple_role : {b : Bool} {o : ℕ} {l : Tree} {s e : S} {P : List Pair} → Simple b o l s e P → AtRole (bound b (kind_of l)) o l s e P
  simple_role {l = l} (a_name h d) = record { role = name; it_is = ap (λ c. bound c (kind_of l)) h ∙ name_bound (kind_of l) (ap kind_of (name_form S Next behind det d).0.tree); spelled = d }
  simple_role {l = l} (a_target h t d) = record { role = expr LeftHandSide true Any; it_is = ap (λ c. bound c (kind_of l)) h ∙ target_bound (kind_of l) t; spelled = d }

  pub pattern_role : {b : Bool} {o : ℕ} {l : Tree} {s e : S} {P : List Pair} → Spells ways S Next behind o (pattern b Any) l s e P → AtRole (bound b (kind_of l)) o l s e P
  pattern_role {b = b} {l = l} d = record { role = pattern b Any; it_is = pattern_bound b (kind_of l) (pattern_is S Next behind d); spelled = d }

  -- a name is a simple target
  pub name_target : {o : ℕ} {l : Tree} {s e : S} {P : List Pair} → Spells ways S Next behind o name l s e P → (is_identifier (kind_of l) ≡ true) × Spells ways S Next behind o (expr LeftHandSide true Any) l s e P
  name_target {o} {l} {s} {e} {P} d =
      let u = name_form S Next behind det d in (
        ap (λ c. is_identifier (kind_of c)) u.0.tree,
        subst (λ c. Spells ways S Next behind o (expr LeftHandSide true Any) c s e P) (sym u.0.tree) (subst (λ c. Spells ways S Next behind o (expr LeftHandSide true Any) (node Identifier u.0.text plain u.0.sign.start (behind e).stop none) s e c) (sym u.0.pairs)
            (spell S Next behind (at Primary (tok IdentifierName u.0.text ∷ [])) (identifier u.1) refl refl refl refl (placed u.0.reads.next refl) (step (token u.0.reads) done))),
      )

  pub simple_left : (b : Bool) {o : ℕ} {l : Tree} {s e : S} {P : List Pair} → Simple b o l s e P → (is_simple b (kind_of l) ≡ true) × Spells ways S Next behind o (expr LeftHandSide true Any) l s e P
  simple_left b {l = l} (a_name h d) = let u = name_target d in (ap (λ c. is_simple c (kind_of l)) h ∙ u.0, u.1)
  simple_left b {l = l} (a_target h t d) = (ap (λ c. is_simple c (kind_of l)) h ∙ t, d)

  -- so it is an expression
  pub simple_expression : (b : Bool) {o : ℕ} {l : Tree} {s e : S} {P : List Pair} → Simple b o l s e P → Spells ways S Next behind o (expr Assignment true Any) l s e P
  simple_expression b {l = l} u = let v = simple_left b u in target_moves LeftHandSide Assignment refl refl refl (simple_target b (kind_of l) v.0) v.1

  -- a default behind `=`, of what stands so
  pub record Defaulted (L : ℕ → Tree → S → S → List Pair → Type 0) (o : ℕ) (n : Tree) (s e : S) (P : List Pair) : Type 0 where
    pub st : ℕ
    pub en : ℕ
    pub left : Tree
    pub right : Tree
    pub mid : S
    pub x : S
    pub sign : Token
    pub one : List Pair
    pub more : List Pair
    pub tree : n ≡ node AssignmentPattern [] plain st en (part left (part right none))
    pub start : Token
    pub behind_start : S
    pub next : Next s start behind_start
    pub starts : start.start ≡ st
    pub stops : (behind e).stop ≡ en
    pub stands : L o left s mid one
    pub reads : Reads S Next behind Punctuator (codes "=") mid sign x
    pub value : Spells ways S Next behind o (expr Assignment true Any) right x e more
    pub pairs : P ≡ one ++ more

  -- what spells an element
  pub data ElementForm (b : Bool) (o : ℕ) (n : Tree) (s e : S) (P : List Pair) : Type 0 where
    bare_pattern : Spells ways S Next behind o (pattern b Any) n s e P → ElementForm b o n s e P
    bare_simple : Simple b o n s e P → ElementForm b o n s e P
    pattern_default : Defaulted (λ o' l s' e' P'. Spells ways S Next behind o' (pattern b Any) l s' e' P') o n s e P → ElementForm b o n s e P
    simple_default : Defaulted (Simple b) o n s e P → ElementForm b o n s e P

  pub default_core : (b : Bool) {o : ℕ} {n : Tree} {s e : S} {P : List Pair} → Spells ways S Next behind o (element b) n s e P → Defaulted (BoundForm b) o n s e P
  unfolding spellings
  default_core b {o} {n = node AssignmentPattern w g st en ps} {s} {e} {P} (direct qs h (placed {t = t} {m = m} nx p) d) = of (bound b (lead_kind (bare_parts ps))) refl (way_of h).listed
    where
      of : (x : Option Role) → bound b (lead_kind (bare_parts ps)) ≡ x → Among (way_of h).spelling (only_at x (sp ∷ sign "=" ∷ sp ∷ assignment ∷ [])) → Defaulted (BoundForm b) o (node AssignmentPattern w g st en ps) s e P
      of None k l = elim l [ ]
      of (Some a) k l =
          let v = way_of h in
          let f = run_part S Next behind (retell S Next behind (v.is ∙ ap (settled (element b)) (one l)) d) in
          let q = run_token S Next behind (run_laid S Next behind f.runs) in
          let r = one_part S Next behind det (run_laid S Next behind q.runs) in
          let kind : bound b (kind_of f.item) ≡ Some a = ap (bound b) (sym (kind_bare f.item) ∙ sym (ap (λ c. lead_kind (bare_parts c)) f.parts)) ∙ k in
          record {
            st = st;
            en = en;
            left = f.item;
            right = r.operand;
            mid = f.mid;
            x = q.mid;
            sign = q.sign;
            one = f.one;
            more = f.more;
            tree = same_node refl (lean_text (bare (node AssignmentPattern w g st en ps)) v.lean refl) (lean_flags (bare (node AssignmentPattern w g st en ps)) v.lean) refl refl (f.parts ∙ ap (part f.item) r.parts);
            start = t;
            behind_start = m;
            next = nx;
            starts = ap (λ (c : ℕ × ℕ). c.0) p;
            stops = ap (λ (c : ℕ × ℕ). c.1) p;
            stands = bound_form b f.item kind f.spelled;
            reads = q.reads;
            value = r.spelled;
            pairs = f.pairs;
          }
  default_core b {n = node _ w g st en ps} (direct qs h pl d) = elim ((way_of h).listed) [ ]

  default_parts : {b : Bool} {o : ℕ} {n : Tree} {s e : S} {P : List Pair} → Defaulted (BoundForm b) o n s e P → ElementForm b o n s e P
  default_parts {b} {o} {n} {s} {e} {P} u = of u.stands
    where
      of : BoundForm b o u.left s u.mid u.one → ElementForm b o n s e P
      of (a_pattern d) = pattern_default (record {
        st = u.st;
        en = u.en;
        left = u.left;
        right = u.right;
        mid = u.mid;
        x = u.x;
        sign = u.sign;
        one = u.one;
        more = u.more;
        tree = u.tree;
        start = u.start;
        behind_start = u.behind_start;
        next = u.next;
        starts = u.starts;
        stops = u.stops;
        stands = d;
        reads = u.reads;
        value = u.value;
        pairs = u.pairs;
      })
      of (a_simple d) = simple_default (record {
        st = u.st;
        en = u.en;
        left = u.left;
        right = u.right;
        mid = u.mid;
        x = u.x;
        sign = u.sign;
        one = u.one;
        more = u.more;
        tree = u.tree;
        start = u.start;
        behind_start = u.behind_start;
        next = u.next;
        starts = u.starts;
        stops = u.stops;
        stands = d;
        reads = u.reads;
        value = u.value;
        pairs = u.pairs;
      })

  bound_element : {b : Bool} {o : ℕ} {n : Tree} {s e : S} {P : List Pair} → BoundForm b o n s e P → ElementForm b o n s e P
  bound_element (a_pattern d) = bare_pattern d
  bound_element (a_simple d) = bare_simple d

  -- what stands at an element's position is one of these
  pub element_form : (b : Bool) {o : ℕ} {a : Role} (n : Tree) {s e : S} {P : List Pair} → with_default b (kind_of n) ≡ Some a → Spells ways S Next behind o a n s e P → ElementForm b o n s e P
  element_form b {o} (node AssignmentPattern w g st en ps) {s} {e} {P} h d =
      default_parts (default_core b (subst (λ c. Spells ways S Next behind o c (node AssignmentPattern w g st en ps) s e P) (sym (some_is h)) d))
  element_form b (node _ w g st en ps) h d = bound_element (bound_form b (node _ w g st en ps) h d)

  -- a default from its parts
  pub default_spells : (b : Bool) {o : ℕ} {a : Role} {l u : Tree} {st en : ℕ} {s mid x e : S} {v : Token} {P Q : List Pair} → bound b (kind_of l) ≡ Some a → Spells ways S Next behind o a l s mid P → Reads S Next behind Punctuator (codes "=") mid v x →
      Spells ways S Next behind o (expr Assignment true Any) u x e Q → Placed S Next behind (element b) (node AssignmentPattern [] plain st en (part l (part u none))) s e →
      Spells ways S Next behind o (element b) (node AssignmentPattern [] plain st en (part l (part u none))) s e (P ++ Q)
  unfolding spellings
  default_spells b {o} {a} {l} {u} {st} {en} h d eq r pl =
      let x : Spelling = at Primary (Rattle.language.specs.Pieces.put a ∷ sp ∷ sign "=" ∷ sp ∷ assignment ∷ []) in
      direct (settled (element b) x) (way_from (element b) (node AssignmentPattern [] plain st en (part l (part u none))) x refl (there (bound b (kind_of (bare l))) (ap (bound b) (kind_bare l) ∙ h)) refl) pl
      (within d (step laid (step (token eq) (step laid (last_runs S Next behind r)))))
    where
      there : (c : Option Role) → c ≡ Some a → Among (at Primary (Rattle.language.specs.Pieces.put a ∷ sp ∷ sign "=" ∷ sp ∷ assignment ∷ [])) (only_at c (sp ∷ sign "=" ∷ sp ∷ assignment ∷ []))
      there None k = cc
      there (Some a') k = subst (λ c. Among (at Primary (Rattle.language.specs.Pieces.put a ∷ sp ∷ sign "=" ∷ sp ∷ assignment ∷ [])) (only_at (Some c) (sp ∷ sign "=" ∷ sp ∷ assignment ∷ []))) (sym (some_is k)) first

  -- a default of a name or a simple target is an assignment
  pub default_expression : (b : Bool) {o : ℕ} {n : Tree} {s e : S} {P : List Pair} (u : Defaulted (Simple b) o n s e P) → Spells ways S Next behind o (expr Assignment true Any) (node AssignmentExpression (codes "=") plain u.st u.en (part u.left (part u.right none))) s e P
  default_expression b {o} {n} {s} {e} u =
      let l = simple_left b u.stands in
      subst (λ c. Spells ways S Next behind o (expr Assignment true Any) (node AssignmentExpression (codes "=") plain u.st u.en (part u.left (part u.right none))) s e c) (sym u.pairs)
      (assign_grows S Next behind {w = codes "="} refl (simple_target b (kind_of u.left) l.0) refl l.1 u.reads u.value (placed u.next (λ k. (u.starts k, u.stops k))))
