-- The parts of a chain that are found, from what stands in them; and what is no part of a chain.
use Rattle.std.proofs.Common.{◌≡◌, ℕ, Bool, true, false, List, [], ◌∷◌, refl, sym, ap, ◌∙◌, subst}
use Rattle.std.specs.Prelude.{codes, IsTrue, ◌&&◌, ◌||◌}
use Rattle.std.proofs.lemmas.Bool.{false≢true}
use Rattle.std.proofs.lemmas.List.{append-nil}
use Rattle.tokens.specs.declared.token.TokenClass.TheVariants.{Punctuator}
use Rattle.tokens.specs.declared.token.Goal.TheVariants.{Div}
use Rattle.tokens.specs.Goals.{allows}
use Rattle.tree.specs.declared.kind.Kind.{Kind}
use Rattle.tree.specs.declared.kind.Kind.TheVariants.{Super, MemberExpression, CallExpression}
use Rattle.language.specs.declared.Rank.{Rank}
use Rattle.language.specs.declared.Rank.TheVariants.{Expression}
use Rattle.language.specs.declared.Start.{Start}
use Rattle.language.specs.declared.Start.TheVariants.{Any}
use Rattle.tree.specs.declared.kind.Flags.{Flags}
use Rattle.tree.specs.declared.kind.Pair.{Pair}
use Rattle.tree.specs.Tree.{Tree, node, Parts, none, part, gap, kind_of, bare, bare_parts, plain}
use Rattle.language.specs.FirstPart.{lead as lead_kind}
use Rattle.language.specs.Vocabulary.{is, is_super, op_dot, op_index, op_call, op_optional}
use Rattle.language.specs.Pieces.{Role, expr, PieceOf, Spelling, tok, sub}
use Rattle.language.specs.Token.{Token}
use Rattle.language.specs.Expressions.{first_has_optional, has_optional, is_chain_part}
use Rattle.language.specs.Promises.{IsDetermined, Stops, Found, FoundAt, FoundParts}
use Rattle.language.specs.Grammar.{ways}
use Rattle.language.specs.Derivation.{Reads, Spells, direct, grouped, Runs, done, step, opened, closed, within, missing, token, reserved_key, reserved_word}
use Rattle.language.specs.Chosen as chosen
use Rattle.language.specs.Chosen.{Chosen}
use Rattle.language.specs.Forms.{Production, form, spelling_of}
use Rattle.language.proofs.table.NodeForms.{Made}
use Rattle.language.proofs.lower_bound.Domination.{settled}
use Rattle.language.proofs.table.RightEdges.{view_of}
use Rattle.language.proofs.table.LeftRecursiveWays.{bracketed, property_role}
use Rattle.language.proofs.climbing.RightOperands.{one_part, as_property, PropertyFound, Bracketed, in_bracket}
use Rattle.language.proofs.list_loops.FirstPieces.{run_token}
use Rattle.language.proofs.climbing.OperatorNodes.{kind_bare, last_runs}
use Rattle.language.proofs.climbing.Suffixes.{computed_flags, argument_pieces}
use Rattle.language.proofs.climbing.Conditionals.{same_sign, stops_before}
use Rattle.language.proofs.climbing.Leaves.{property_token}
use Rattle.language.proofs.climbing.Chains.{optional_flags, property_pieces, Link, on_dot, on_index, on_call, on_name, on_brackets, on_arguments, FoundLink}

-- what stands at the position of an expression is no part of a chain
abbrev pub NoPart : Role → Tree → Type 0
NoPart (expr y i f) n = has_optional (bare n) ≡ false
NoPart _ n = Unit {0}

-- the pieces begin with an expression
data BeginsPlain : List (PieceOf Role) → Type 0 where
  plain_first : {y : Rank} {i : Bool} {f : Start} {qs : List (PieceOf Role)} → BeginsPlain (sub (expr y i f) ∷ qs)

super_first : (ps : Parts) → is_super (lead_kind ps) ≡ true → first_has_optional ps ≡ false
super_first none h = cc
super_first (gap ps) h = cc
super_first (part (node Super w g st en qs) ps) h = refl
super_first (part (node _ w g st en qs) ps) h = cc

neither : (a b : Bool) → a ≡ false → b ≡ false → (a || b) ≡ false
neither false false h k = refl
neither true b h k = cc
neither false true h k = cc

form_no_part : (y : Rank) (i : Bool) (f : Start) {k : Kind} {w : List ℕ} {g : Flags} {ps : Parts} {p : Production} → Chosen w g ps (expr Expression true Any) k p → (BeginsPlain (settled (expr y i f) (spelling_of (form p) w g ps)) → first_has_optional ps ≡ false) → (is_chain_part k && (g.optional || first_has_optional ps)) ≡ false
form_no_part y i f {g = g} {ps = ps} (chosen.super_member o s) u = neither g.optional (first_has_optional ps) o (super_first ps s)
form_no_part y i f {g = g} {ps = ps} (chosen.super_call o s) u = neither g.optional (first_has_optional ps) o (super_first ps s)
form_no_part y i f {g = g} {ps = ps} (chosen.member_access o s) u = neither g.optional (first_has_optional ps) o (u plain_first)
form_no_part y i f {g = g} {ps = ps} (chosen.call o s) u = neither g.optional (first_has_optional ps) o (u plain_first)
form_no_part y i f (chosen.of_statement s c) u = elim s [ ]
form_no_part y i f (chosen.of_declaration s c) u = elim s [ ]
form_no_part y i f _ u = refl

made_no_part : (y : Rank) (i : Bool) (f : Start) {k : Kind} {w : List ℕ} {g : Flags} {ps : Parts} {x : Spelling} → Made k w g ps x → (BeginsPlain (settled (expr y i f) x) → first_has_optional ps ≡ false) → (is_chain_part k && (g.optional || first_has_optional ps)) ≡ false
made_no_part y i f m u = form_no_part y i f m.chosen (λ b. u (subst (λ x. BeginsPlain (settled (expr y i f) x)) (sym m.is) b))

module _ (S : Type 0) (Next : S → Token → S → Type 0) (behind : S → Token) where
  mutual
    -- by the position and the first part
    pub no_part : {o : ℕ} {a : Role} {n : Tree} {s e : S} {P : List Pair} → Spells ways S Next behind o a n s e P → NoPart a n
    no_part (grouped p d q) = no_part d
    no_part (reserved_key r k p) = tt
    no_part (reserved_word r k p) = tt
    no_part {a = expr y i f} {n = node k w g st en ps} (direct qs h pl d) = let v = view_of st en h in made_no_part y i f v.made (λ u. first_no_part (subst BeginsPlain (sym v.is) u) d)
    no_part {a = _} (direct qs h pl d) = tt

    first_no_part : {o : ℕ} {qs : List (PieceOf Role)} {ps : Parts} {s e : S} {P : List Pair} → BeginsPlain qs → Runs ways S Next behind o qs ps s e P → first_has_optional (bare_parts ps) ≡ false
    first_no_part plain_first (within p d) = no_part p
    first_no_part plain_first (step p d) = elim p [ ]
    first_no_part u done = elim u [ ]
    first_no_part u (opened k d) = elim u [ ]
    first_no_part u (closed k d) = elim u [ ]
    first_no_part u (missing d) = elim u [ ]

module _ (S : Type 0) (Next : S → Token → S → Type 0) (behind : S → Token) (det : IsDetermined S Next behind) where
  -- a name and a sign aren't read at one place
  pub not_both : {A : Type 0} {o : ℕ} {n : Tree} {w : List ℕ} {s e e' : S} {P : List Pair} {t : Token} (k : Kind) → Spells ways S Next behind o (property_role k) n s e' P → Reads S Next behind Punctuator w s t e → IsTrue (allows Div Punctuator w) → A
  not_both {w = w} {s = s} {e = e} {t = t} k p h al =
      let u = property_token S Next behind det k p in
      let al' : IsTrue (allows Div t.class t.text) = subst (λ v. IsTrue (allows Div v t.text)) (sym h.class) (subst (λ v. IsTrue (allows Div Punctuator v)) (sym h.text) al) in
      let same = det.same Div s u.sign t _ e u.reads.next h.next (det.free Div s u.sign _ u.reads.next (ap Rattle.language.specs.Promises.is_free u.reads.class ∙ u.free)) al' in
      let clash : u.class ≡ Punctuator = sym u.reads.class ∙ ap (λ (v : Token). v.class) same.0 ∙ h.class in
      absurd (u.no_sign clash)

  -- `[` and `(` aren't read at one place
  pub other_sign : {A : Type 0} {s e e' : S} {t t' : Token} → Reads S Next behind Punctuator (codes "[") s t e → Reads S Next behind Punctuator (codes "(") s t' e' → A
  other_sign {s = s} {e = e} {e' = e'} {t = t} {t' = t'} h k =
      let al : IsTrue (allows Div t.class t.text) = subst (λ v. IsTrue (allows Div v t.text)) (sym h.class) (subst (λ v. IsTrue (allows Div Punctuator v)) (sym h.text) refl) in
      let al' : IsTrue (allows Div t'.class t'.text) = subst (λ v. IsTrue (allows Div v t'.text)) (sym k.class) (subst (λ v. IsTrue (allows Div Punctuator v)) (sym k.text) refl) in
      let same = det.same Div s t t' e e' h.next k.next al al' in
      let clash : true ≡ false = ap (λ w. is w "[") (sym h.text ∙ ap (λ (v : Token). v.text) same.0 ∙ k.text) in
      absurd (false≢true (sym clash))

  -- an expression in brackets, the only one there
  same_brackets : {o o' : ℕ} {x e1 to e' : S} {u : Tree} {U P' : List Pair} {close : Token} {ps' : Parts} → Found S Next behind o Expression true Any x e1 u U → Reads S Next behind Punctuator (codes "]") e1 close to → Bracketed S Next behind det o' ps' x e' P' →
      (e' ≡ to) × (ps' ≡ part u none) × (P' ≡ U)
  same_brackets {o' = o'} {e' = e'} found closes b =
      let same = found.only o' b.place b.inner b.pairs b.spelled (stops_before S Next behind det Expression true b.inner b.closes refl refl (λ k u. refl)) in
      let end = same_sign S Next behind det (subst (λ k. Reads S Next behind Punctuator (codes "]") k b.closing e') same.0 b.closes) closes refl in
      (end.1, b.parts ∙ ap (λ k. part k none) same.1, b.pairs_are ∙ same.2)

  brackets_run : {o : ℕ} {x e1 to : S} {u : Tree} {U : List Pair} {close : Token} → Spells ways S Next behind o (expr Expression true Any) u x e1 U → Reads S Next behind Punctuator (codes "]") e1 close to →
      Runs ways S Next behind o (sub (expr Expression true Any) ∷ tok Punctuator (codes "]") ∷ []) (part u none) x to U
  brackets_run {o} {x} {e1} {to} {u} {U} d closes = subst (λ v. Runs ways S Next behind o (sub (expr Expression true Any) ∷ tok Punctuator (codes "]") ∷ []) (part u none) x to v) (append-nil U) (within d (step (token closes) done))

  -- a property alone
  property_runs : {o : ℕ} {u : Tree} {s e : S} {P : List Pair} → Spells ways S Next behind o (property_role (kind_of u)) u s e P → Runs ways S Next behind o (property_pieces (part u none)) (part u none) s e P
  property_runs {o} {u} {s} {e} {P} d = last_runs S Next behind (subst (λ v. Spells ways S Next behind o (property_role v) u s e P) (sym (kind_bare u)) d)

  -- `.` and a name
  pub found_dot : {o : ℕ} {x to : S} {u : Tree} {U : List Pair} → PropertyFound S Next behind det o x to u U → FoundLink S Next behind det o op_dot x to MemberExpression plain property_pieces (part u none) U
  found_dot {o} {x} {to} {u} {U} found = record { link = on_dot; runs = property_runs found.spelled; only = λ o' K' G' pieces' ps' e' P' l d. of l d }
    where
      of : {o' : ℕ} {K' : Kind} {G' : Flags} {pieces' : Parts → List (PieceOf Role)} {ps' : Parts} {e' : S} {P' : List Pair} → Link op_dot K' G' pieces' → Runs ways S Next behind o' (pieces' ps') ps' x e' P' → (e' ≡ to) × (ps' ≡ part u none) × (P' ≡ U) × (K' ≡ MemberExpression) × (G' ≡ plain)
      of {o' = o'} {e' = e'} {P' = P'} on_dot d = let p = one_part S Next behind det d in let same = found.only o' e' p.operand P' (as_property S Next behind det p) in (same.0, p.parts ∙ ap (λ k. part k none) same.1, same.2, refl, refl)

  -- `[`, an expression and `]`
  pub found_index : {o : ℕ} {x e1 to : S} {u : Tree} {U : List Pair} {close : Token} → Found S Next behind o Expression true Any x e1 u U → Reads S Next behind Punctuator (codes "]") e1 close to →
      FoundLink S Next behind det o op_index x to MemberExpression computed_flags (λ ps. sub (expr Expression true Any) ∷ tok Punctuator (codes "]") ∷ []) (part u none) U
  found_index {o} {x} {e1} {to} {u} {U} {close} found closes = record { link = on_index; runs = brackets_run found.spelled closes; only = λ o' K' G' pieces' ps' e' P' l d. of l d }
    where
      of : {o' : ℕ} {K' : Kind} {G' : Flags} {pieces' : Parts → List (PieceOf Role)} {ps' : Parts} {e' : S} {P' : List Pair} → Link op_index K' G' pieces' → Runs ways S Next behind o' (pieces' ps') ps' x e' P' →
          (e' ≡ to) × (ps' ≡ part u none) × (P' ≡ U) × (K' ≡ MemberExpression) × (G' ≡ computed_flags)
      of on_index d = let same = same_brackets found closes (in_bracket S Next behind det d) in (same.0, same.1, same.2, refl, refl)

  -- arguments
  pub found_call : {o : ℕ} {x to : S} {ps : Parts} {U : List Pair} → FoundParts S Next behind o argument_pieces x to ps U → FoundLink S Next behind det o op_call x to CallExpression plain argument_pieces ps U
  found_call {o} {x} {to} {ps} {U} found = record { link = on_call; runs = found.runs; only = λ o' K' G' pieces' ps' e' P' l d. of l d }
    where
      of : {o' : ℕ} {K' : Kind} {G' : Flags} {pieces' : Parts → List (PieceOf Role)} {ps' : Parts} {e' : S} {P' : List Pair} → Link op_call K' G' pieces' → Runs ways S Next behind o' (pieces' ps') ps' x e' P' → (e' ≡ to) × (ps' ≡ ps) × (P' ≡ U) × (K' ≡ CallExpression) × (G' ≡ plain)
      of {o' = o'} {ps' = ps'} {e' = e'} {P' = P'} on_call d = let same = found.only o' e' ps' P' d in (same.0, same.1, same.2, refl, refl)

  -- `?.` and a name
  pub found_name : {o : ℕ} {x to : S} {u : Tree} {U : List Pair} → PropertyFound S Next behind det o x to u U → FoundLink S Next behind det o op_optional x to MemberExpression (optional_flags false) property_pieces (part u none) U
  found_name {o} {x} {to} {u} {U} found = record { link = on_name; runs = property_runs found.spelled; only = λ o' K' G' pieces' ps' e' P' l d. of l d }
    where
      of : {o' : ℕ} {K' : Kind} {G' : Flags} {pieces' : Parts → List (PieceOf Role)} {ps' : Parts} {e' : S} {P' : List Pair} → Link op_optional K' G' pieces' → Runs ways S Next behind o' (pieces' ps') ps' x e' P' →
          (e' ≡ to) × (ps' ≡ part u none) × (P' ≡ U) × (K' ≡ MemberExpression) × (G' ≡ optional_flags false)
      of {o' = o'} {e' = e'} {P' = P'} on_name d = let p = one_part S Next behind det d in let same = found.only o' e' p.operand P' (as_property S Next behind det p) in (same.0, p.parts ∙ ap (λ k. part k none) same.1, same.2, refl, refl)
      of on_brackets d = not_both _ found.spelled (run_token S Next behind d).reads refl
      of on_arguments d = not_both _ found.spelled (run_token S Next behind d).reads refl

  -- `?.`, `[`, an expression and `]`
  pub found_brackets : {o : ℕ} {x x1 e1 to : S} {u : Tree} {U : List Pair} {open_sign close : Token} → Reads S Next behind Punctuator (codes "[") x open_sign x1 → Found S Next behind o Expression true Any x1 e1 u U → Reads S Next behind Punctuator (codes "]") e1 close to →
      FoundLink S Next behind det o op_optional x to MemberExpression (optional_flags true) (λ ps. bracketed) (part u none) U
  found_brackets {o} {x} {x1} {e1} {to} {u} {U} {open_sign} {close} opens found closes = record { link = on_brackets; runs = step (token opens) (brackets_run found.spelled closes); only = λ o' K' G' pieces' ps' e' P' l d. of l d }
    where
      of : {o' : ℕ} {K' : Kind} {G' : Flags} {pieces' : Parts → List (PieceOf Role)} {ps' : Parts} {e' : S} {P' : List Pair} → Link op_optional K' G' pieces' → Runs ways S Next behind o' (pieces' ps') ps' x e' P' →
          (e' ≡ to) × (ps' ≡ part u none) × (P' ≡ U) × (K' ≡ MemberExpression) × (G' ≡ optional_flags true)
      of on_name d = not_both _ (one_part S Next behind det d).spelled opens refl
      of {o' = o'} {ps' = ps'} {e' = e'} {P' = P'} on_brackets d =
          let v = run_token S Next behind d in
          let there = same_sign S Next behind det v.reads opens refl in
          let same = same_brackets found closes (in_bracket S Next behind det (subst (λ k. Runs ways S Next behind o' (sub (expr Expression true Any) ∷ tok Punctuator (codes "]") ∷ []) ps' k e' P') there.1 v.runs)) in (same.0, same.1, same.2, refl, refl)
      of on_arguments d = other_sign opens (run_token S Next behind d).reads

  -- `?.` and arguments
  pub found_arguments : {o : ℕ} {x x1 to : S} {ps : Parts} {U : List Pair} {open_sign : Token} → Reads S Next behind Punctuator (codes "(") x open_sign x1 → FoundParts S Next behind o argument_pieces x1 to ps U →
      FoundLink S Next behind det o op_optional x to CallExpression (optional_flags false) (λ ps. tok Punctuator (codes "(") ∷ argument_pieces ps) ps U
  found_arguments {o} {x} {x1} {to} {ps} {U} {open_sign} opens found = record { link = on_arguments; runs = step (token opens) found.runs; only = λ o' K' G' pieces' ps' e' P' l d. of l d }
    where
      of : {o' : ℕ} {K' : Kind} {G' : Flags} {pieces' : Parts → List (PieceOf Role)} {ps' : Parts} {e' : S} {P' : List Pair} → Link op_optional K' G' pieces' → Runs ways S Next behind o' (pieces' ps') ps' x e' P' →
          (e' ≡ to) × (ps' ≡ ps) × (P' ≡ U) × (K' ≡ CallExpression) × (G' ≡ optional_flags false)
      of on_name d = not_both _ (one_part S Next behind det d).spelled opens refl
      of on_brackets d = other_sign (run_token S Next behind d).reads opens
      of {o' = o'} {ps' = ps'} {e' = e'} {P' = P'} on_arguments d =
          let v = run_token S Next behind d in
          let there = same_sign S Next behind det v.reads opens refl in
          let same = found.only o' e' ps' P' (subst (λ k. Runs ways S Next behind o' (argument_pieces ps') ps' k e' P') there.1 v.runs) in (same.0, same.1, same.2, refl, refl)
