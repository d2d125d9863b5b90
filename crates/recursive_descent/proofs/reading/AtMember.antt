-- What stands at Member stands at New: a growth to a whole there.
use Rattle.std.proofs.Common.{◌≡◌, ℕ, Bool, true, List, ◌∷◌, ◌++◌, refl, sym, ◌∙◌, subst}
use Rattle.std.specs.Prelude.{IsTrue}
use Rattle.std.proofs.lemmas.Bool.{and_parts, and_from}
use Rattle.language.specs.declared.Rank.{Rank}
use Rattle.language.specs.declared.Rank.TheVariants.{New, Member}
use Rattle.language.specs.declared.Start.{Start}
use Rattle.language.specs.declared.Start.TheVariants.{Any}
use Rattle.tree.specs.declared.kind.Pair.{Pair}
use Rattle.tree.specs.Tree.{Tree, node, Parts, part, parts_of}
use Rattle.language.specs.Vocabulary.{takes}
use Rattle.language.specs.Pieces.{Role, expr, PieceOf, sub}
use Rattle.language.specs.Token.{Token}
use Rattle.language.specs.Promises.{IsDetermined}
use Rattle.language.specs.Grammar.{ways, spellings}
use Rattle.language.specs.Derivation.{Among, Spells, Runs, Placed}
use Rattle.language.proofs.climbing.Spine.{is_led, Grows, whole, grow}
use Rattle.language.proofs.table.ViewIsComplete.{way_of}
use Rattle.language.proofs.table.Productions.{way_from}
use Rattle.language.proofs.climbing.Suffixes.{rank_is}
use Rattle.language.proofs.climbing.BinaryTurns.{replaced, regrown}
use Rattle.language.proofs.climbing.OperatorLoop.{Leads}
use Rattle.language.proofs.climbing.Callees.{member_new, tight_pieces, spells_new}

way_new : (i : Bool) (f : Start) {qs : List (PieceOf Role)} (n : Tree) → Among qs (ways (expr Member i f) n) → Among qs (ways (expr New i f) n)
unfolding spellings
way_new i f (node k w g st en ps) h =
    let v = way_of h in
    let fit = and_parts _ _ v.fit in
    let fits = and_parts _ _ fit.0 in
    subst (λ c. Among c (ways (expr New i f) (node k w g st en ps))) (sym (v.is ∙ tight_pieces Member New i f refl v.spelling.pieces))
    (way_from (expr New i f) (node k w g st en ps) v.spelling v.lean v.listed (and_from _ _ (and_from _ _ (member_new v.spelling.rank fits.0) fits.1) fit.1))

module _ (S : Type 0) (Next : S → Token → S → Type 0) (behind : S → Token) (det : IsDetermined S Next behind) where
  data AtNew (o : ℕ) (s0 : S) (n : Tree) (e : S) (P : List Pair) (b : Role) (m : Tree) (mid : S) (Q : List Pair) : Type 0 where
    the_whole : expr Member true Any ≡ b → n ≡ m → e ≡ mid → P ≡ Q → AtNew o s0 n e P b m mid Q
    grown : Grows S Next behind o s0 (expr New true Any) n e P b m mid Q → AtNew o s0 n e P b m mid Q

  last_step : {o : ℕ} {s0 e : S} {n : Tree} {P : List Pair} {b c : Role} {m l : Tree} {ps : Parts} {rest : List (PieceOf Role)} {mid to : S} {Q R : List Pair} → expr Member true Any ≡ c → n ≡ l → e ≡ to → P ≡ Q ++ R →
      Among (sub b ∷ rest) (ways c l) → is_led (sub b ∷ rest) ≡ true → Placed S Next behind c l s0 to → parts_of l ≡ part m ps → Runs ways S Next behind o rest ps mid to R → Grows S Next behind o s0 (expr New true Any) n e P b m mid Q
  last_step {s0 = s0} {b = b} {l = l} {rest = rest} {to = to} a t p q h led pl eq d =
      let way = way_new true Any l (subst (λ v. Among (sub b ∷ rest) (ways v l)) (sym a) h) in
      let places : Placed S Next behind (expr New true Any) l s0 to = replaced S Next behind det (subst (λ v. Placed S Next behind v l s0 to) (sym a) pl) in
      grow way led places eq d (regrown S Next behind det t p q whole)

  grows_new : {o : ℕ} {s0 e : S} {n : Tree} {P : List Pair} {b : Role} {m : Tree} {mid : S} {Q : List Pair} → Grows S Next behind o s0 (expr Member true Any) n e P b m mid Q → AtNew o s0 n e P b m mid Q
  grows_new whole = the_whole refl refl refl refl
  grows_new {o} {s0} {e} {n} {P} {b} {m} {mid} {Q} (grow {c = c} {l = l} {ps = ps} {rest = rest} {to = to} {R = R} h led pl eq d gs) = of (grows_new gs)
    where
      of : AtNew o s0 n e P c l to (Q ++ R) → AtNew o s0 n e P b m mid Q
      of (the_whole a t p q) = grown (last_step a t p q h led pl eq d)
      of (grown gs') = grown (grow h led pl eq d gs')

  -- so what leads to a whole at Member leads to it at New
  pub leads_new : {o : ℕ} {s0 e : S} {n : Tree} {P : List Pair} {r : Rank} {m : Tree} {mid : S} {Q : List Pair} → Leads S Next behind det o s0 Member true Any n e P r m mid Q → Leads S Next behind det o s0 New true Any n e P r m mid Q
  leads_new {o} {s0} {e} {n} {P} {r} {m} {mid} {Q} v = of (grows_new v.grows)
    where
      of : AtNew o s0 n e P (expr v.h v.j v.g) m mid Q → Leads S Next behind det o s0 New true Any n e P r m mid Q
      of (grown gs) = record { h = v.h; j = v.j; g = v.g; fits = v.fits; spelled = v.spelled; grows = gs }
      of (the_whole a t p q) = record {
        h = New;
        j = true;
        g = Any;
        fits = member_new r (subst (λ k. IsTrue (takes k r)) (sym (rank_is a)) v.fits);
        spelled = spells_new S Next behind (subst (λ k. Spells ways S Next behind o k m s0 mid Q) (sym a) v.spelled);
        grows = regrown S Next behind det t p q whole;
      }
