-- At `**` In doesn't matter: its sides have it.
use Rattle.std.proofs.Common.{◌≡◌, ℕ, ◌≤◌, ◌<◌, Bool, true, false, cond, List, [], ◌∷◌, ◌++◌, refl, sym, subst, ◌∙◌, arith}
use Rattle.std.specs.Prelude.{IsTrue, ◌&&◌}
use Rattle.std.proofs.lemmas.Bool.{and_parts, false≢true, true≢false}
use Rattle.std.proofs.lemmas.Bool.Decides.{nat_tests}
use Rattle.tree.specs.declared.kind.Kind.{Kind}
use Rattle.tree.specs.declared.kind.Kind.TheVariants.{SpreadElement, Property, Identifier}
use Rattle.tree.specs.declared.kind.Flags.{Flags}
use Rattle.tree.specs.declared.kind.Pair.{Pair}
use Rattle.tree.specs.Tree.{Tree, node, Parts}
use Rattle.language.specs.declared.Rank.{Rank}
use Rattle.language.specs.declared.Rank.TheVariants.{Expression, Exponentiation}
use Rattle.language.specs.declared.Start.{Start}
use Rattle.language.specs.declared.Start.TheVariants.{Any}
use Rattle.language.specs.FirstPart.{lead as lead_kind, others}
use Rattle.language.specs.Vocabulary.{is, takes, takes_number, precedence, op_binary, operator_of}
use Rattle.language.specs.Pieces.{Role, expr, PieceOf, Piece, Slot, fixed, left, lead, tail, callee, lead_chain, lead_pattern, sub, settle_piece, Spelling, argument, sign}
use Rattle.language.specs.Token.{Token}
use Rattle.language.specs.Expressions.{object_part, selector, property_name, in_brackets, arguments}
use Rattle.language.specs.Promises.{IsDetermined}
use Rattle.language.specs.Grammar.{ways}
use Rattle.language.specs.Derivation.{Spells, direct, grouped}
use Rattle.language.specs.Chosen as chosen
use Rattle.language.specs.Chosen.{Chosen}
use Rattle.language.specs.Forms.{Production, form, spelling_of, pieces_of}
use Rattle.language.proofs.table.EveryWay.{formed_class, formed_function}
use Rattle.language.proofs.table.NodeForms.{Made}
use Rattle.language.proofs.table.Begins.{retell, goes_to, number_laid, AllLaid, no_piece, one_laid}
use Rattle.language.proofs.table.FixedPieces.{Fixed, all_done, one_more, is_fixed, fixed_join, fixed_listed, fixed_elements}
use Rattle.language.proofs.climbing.SingleStarts.{fixed_function, fixed_class, fixed_chunks}
use Rattle.language.proofs.table.OperatorFacts.{binding}
use Rattle.language.proofs.table.Productions.{spell}
use Rattle.language.proofs.table.RightEdges.{view_of}
use Rattle.language.proofs.climbing.BinaryTurns.{replaced}
use Rattle.language.proofs.table.ViewIsComplete.{way_of}

-- pieces of which none has the own In of the node
abbrev is_held_slot : Slot → Bool
is_held_slot (left k) = false
is_held_slot (tail k x) = false
is_held_slot _ = true

abbrev is_held : Piece → Bool
is_held (sub x) = is_held_slot x
is_held _ = true

data Held : List Piece → Type 0 where
  held_none : Held []
  held_more : {p : Piece} {qs : List Piece} → is_held p ≡ true → Held qs → Held (p ∷ qs)

piece_same : (y : Rank) (i j : Bool) (f : Start) (p : Piece) → is_held p ≡ true → settle_piece y i f p ≡ settle_piece y j f p
piece_same y i j f (sub (fixed a)) h = refl
piece_same y i j f (sub (left z)) h = absurd (false≢true h)
piece_same y i j f (sub (lead z)) h = refl
piece_same y i j f (sub (tail z x)) h = absurd (false≢true h)
piece_same y i j f (sub callee) h = refl
piece_same y i j f (sub lead_chain) h = refl
piece_same y i j f (sub lead_pattern) h = refl
piece_same y i j f _ h = refl

held_same : {qs : List Piece} (y : Rank) (i j : Bool) (f : Start) → Held qs → goes_to y i f qs ≡ goes_to y j f qs
held_same y i j f held_none = refl
held_same y i j f (held_more {p = p} h u) = λ k. piece_same y i j f p h k ∷ held_same y i j f u k

fixed_held : (p : Piece) → is_fixed p ≡ true → is_held p ≡ true
fixed_held (sub (fixed a)) h = refl
fixed_held (sub (left z)) h = absurd (false≢true h)
fixed_held (sub (lead z)) h = refl
fixed_held (sub (tail z x)) h = absurd (false≢true h)
fixed_held (sub callee) h = refl
fixed_held (sub lead_chain) h = refl
fixed_held (sub lead_pattern) h = refl
fixed_held _ h = refl

held : {qs : List Piece} → Fixed qs → Held qs
held all_done = held_none
held (one_more {p = p} h u) = held_more (fixed_held p h) (held u)

fixed_laid : {qs : List Piece} → AllLaid qs → Fixed qs
fixed_laid no_piece = all_done
fixed_laid one_laid = one_more refl all_done

fixed_selector : (g : Flags) (k : Kind) → Fixed (selector g k)
fixed_selector g k = of g.computed
  where
    of : (c : Bool) → Fixed (cond c in_brackets (sign "." ∷ property_name k ∷ []))
    of true = one_more refl (one_more refl (one_more refl all_done))
    of false = one_more refl (one_more refl all_done)

fixed_arguments : (ps : Parts) → Fixed (arguments ps)
fixed_arguments ps = one_more refl (fixed_join (fixed_listed argument (λ n. refl) ps) (one_more refl all_done))

object_fixed : (n : Tree) → is_fixed (object_part n) ≡ true
object_fixed (node SpreadElement w g st en ps) = refl
object_fixed (node Property w g st en ps) = refl
object_fixed (node _ w g st en ps) = refl

sign_fixed : (b c : Bool) (rest : List Piece) → Fixed rest → Fixed (cond b (Rattle.language.specs.Pieces.lay (Rattle.language.specs.Pieces.apart 43) ∷ []) (cond c (Rattle.language.specs.Pieces.lay (Rattle.language.specs.Pieces.apart 45) ∷ []) []) ++ rest)
sign_fixed true c rest u = one_more refl u
sign_fixed false true rest u = one_more refl u
sign_fixed false false rest u = u

-- no operator that joins two sides stands there
below_power : (z q : ℕ) → z < q → q ≤ 15 → takes_number 15 z ≡ true → ⊥
below_power z q h k l = grind (arith, nat_tests)

no_join : (w : List ℕ) {l : Bool} {z q : Rank} → operator_of w ≡ op_binary l z q → takes Exponentiation z ≡ true → ⊥
no_join w {z = z} {q = q} op tk = let v = binding w op in below_power (precedence z) (precedence q) v.rises.0 v.most tk

record Stays (x : Spelling) : Type 0 where
  needs : x.needs_in ≡ false
  pieces : Held x.pieces

abbrev all_held : List Piece → Bool
all_held [] = true
all_held (p ∷ qs) = is_held p && all_held qs

each_held : (qs : List Piece) → all_held qs ≡ true → Held qs
each_held [] h = held_none
each_held (p ∷ qs) h = let u = and_parts (is_held p) _ h in held_more u.0 (each_held qs u.1)

form_stays : {k : Kind} {w : List ℕ} {g : Flags} {ps : Parts} {p : Production} → Chosen w g ps (expr Expression true Any) k p → takes Exponentiation (form p).rank ≡ true → Stays (spelling_of (form p) w g ps)
form_stays {ps = ps} chosen.array tk = record { needs = refl; pieces = held (one_more refl (fixed_join (fixed_elements argument (λ n. refl) ps) (one_more refl all_done))) }
form_stays {ps = ps} chosen.object tk = record { needs = refl; pieces = held (one_more refl (fixed_join (fixed_listed object_part object_fixed ps) (one_more refl all_done))) }
form_stays {w = w} {g = g} {ps = ps} chosen.function tk = record { needs = refl; pieces = subst (λ (x : Spelling). Held x.pieces) (formed_function g.form w g ps) (held (fixed_function g.form ps)) }
form_stays {w = w} {g = g} {ps = ps} chosen.class tk = record { needs = refl; pieces = subst (λ (x : Spelling). Held x.pieces) (formed_class w g ps) (held (fixed_class ps)) }
form_stays {ps = ps} chosen.template tk = record { needs = refl; pieces = held (fixed_chunks true ps) }
form_stays (chosen.short_arrow e h) tk = absurd (false≢true tk)
form_stays chosen.arrow tk = absurd (false≢true tk)
form_stays {g = g} (chosen.super_member h k) tk = record { needs = refl; pieces = held (one_more refl (fixed_selector g Identifier)) }
form_stays {g = g} {ps = ps} (chosen.member_access h k) tk = record { needs = refl; pieces = held_more refl (held (fixed_join (fixed_laid (number_laid ps g)) (fixed_selector g (lead_kind (others ps))))) }
form_stays {ps = ps} (chosen.super_call h k) tk = record { needs = refl; pieces = held (one_more refl (fixed_arguments (others ps))) }
form_stays {ps = ps} (chosen.call h k) tk = record { needs = refl; pieces = held_more refl (held (fixed_arguments (others ps))) }
form_stays {ps = ps} chosen.new_with tk = record { needs = refl; pieces = held (one_more refl (one_more refl (one_more refl (fixed_arguments (others ps))))) }
form_stays {w = w} (chosen.unary_sign h v) tk = record { needs = refl; pieces = held (one_more refl (sign_fixed (is w "+") (is w "-") _ (one_more refl all_done))) }
form_stays {w = w} (chosen.binary p h) tk = absurd (no_join w h tk)
form_stays {w = w} (chosen.logical h) tk = absurd (no_join w h tk)
form_stays (chosen.private_left p h) tk = absurd (false≢true tk)
form_stays chosen.conditional tk = absurd (false≢true tk)
form_stays (chosen.assign h t) tk = absurd (false≢true tk)
form_stays (chosen.assign_pattern h t e) tk = absurd (false≢true tk)
form_stays (chosen.yield_alone e h) tk = absurd (false≢true tk)
form_stays (chosen.yield_operand e h) tk = absurd (false≢true tk)
form_stays (chosen.yield_from e h) tk = absurd (false≢true tk)
form_stays (chosen.several h) tk = absurd (false≢true tk)
form_stays (chosen.of_statement s c) tk = elim s [ ]
form_stays (chosen.of_declaration s c) tk = elim s [ ]
form_stays {w = w} {g = g} {ps = ps} {p = p} c tk = record { needs = refl; pieces = each_held (pieces_of (form p).items w g ps) refl }

stays : {k : Kind} {w : List ℕ} {g : Flags} {ps : Parts} {x : Spelling} → Made k w g ps x → takes Exponentiation x.rank ≡ true → Stays x
stays m tk = subst Stays (sym m.is) (form_stays m.chosen (subst (λ (x : Spelling). takes Exponentiation x.rank ≡ true) m.is tk))

needs_none : (b i : Bool) → b ≡ false → IsTrue (Rattle.tree.specs.Uses.implies b i)
needs_none false i h = refl
needs_none true i h = absurd (true≢false h)

module _ (S : Type 0) (Next : S → Token → S → Type 0) (behind : S → Token) (det : IsDetermined S Next behind) where
  pub power_in : {o : ℕ} {f : Start} {n : Tree} {s e : S} {P : List Pair} (i j : Bool) → Spells ways S Next behind o (expr Exponentiation i f) n s e P → Spells ways S Next behind o (expr Exponentiation j f) n s e P
  power_in i j (grouped p d q) = grouped p d q
  power_in {f = f} {n = node k w g st en ps} i j (direct qs way pl d) =
      let v = view_of st en way in
      let fit = and_parts _ _ (and_parts _ _ v.fit).0 in
      let u = stays v.made fit.0 in
      spell S Next behind v.spelling v.made (way_of way).lean fit.0 (needs_none v.spelling.needs_in j u.needs) (and_parts _ _ fit.1).1 (replaced S Next behind det pl) (retell S Next behind (v.is ∙ held_same Exponentiation i j f u.pieces) d)
