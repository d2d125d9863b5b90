-- Expressions of the base profile: along their spine, and what they begin with.
use Rattle.std.proofs.Common.{◌≡◌, ℕ, Bool, true, false, ◌||◌, List, refl, sym, ap, ◌∙◌, subst}
use Rattle.std.proofs.lemmas.Bool.{false≢true}
use Rattle.tree.specs.declared.kind.Form.{Form}
use Rattle.tree.specs.declared.kind.Form.TheVariants.{Init, Generator, Async, AsyncGenerator}
use Rattle.tree.specs.declared.kind.Kind.{Kind}
use Rattle.tree.specs.declared.kind.Kind.TheVariants.{Program, MetaProperty, PrivateIdentifier}
use Rattle.tree.specs.declared.kind.Flags.{Flags}
use Rattle.tree.specs.declared.kind.Pair.{Pair}
use Rattle.tree.specs.Tree.{Tree, node, Parts, none, part, gap, bare_parts}
use Rattle.language.specs.declared.Rank.{Rank}
use Rattle.language.specs.declared.Start.{Start}
use Rattle.language.specs.FirstPart.{lead as lead_kind}
use Rattle.language.specs.Vocabulary.{is_private}
use Rattle.language.specs.Pieces.{Role, PieceOf, Piece}
use Rattle.language.specs.Expressions.{lead_is}
use Rattle.language.specs.Token.{Token}
use Rattle.language.specs.ExpressionStart.{ExpressionStart, with_yield, with_private_name}
use Rattle.language.specs.Later.{is_later, is_later_kind, is_later_form}
use Rattle.language.specs.Promises.{IsDetermined}
use Rattle.language.proofs.languages.BaseTrees.{IsBase, AreBase, base_kind, base_parts, base_first}
use Rattle.language.proofs.table.TokenFirstWays.{BehindAsync, async_function, async_name, async_parameters, Headed, head_identifier, head_yield, head_private, is_plain_form}
use Rattle.tree.specs.Uses.{is_async}
use Rattle.language.proofs.climbing.Spine.{Grows, whole, grow}
use Rattle.language.proofs.climbing.LeftmostParts.{Cored, in_group, in_way}

-- a node of such a kind, or of such a form, is later
later_kind : (k : Kind) (w : List ℕ) (g : Flags) (st en : ℕ) (ps : Parts) → is_later_kind k ≡ true → is_later (node k w g st en ps) ≡ true
later_kind Program w g st en ps h = absurd (false≢true h)
later_kind MetaProperty w g st en ps h = absurd (false≢true h)
later_kind _ w g st en ps h = ap (λ b. b || is_later_form g.form) h

-- it is none of the base profile
no_base : {A : Type 0} {k : Kind} {w : List ℕ} {g : Flags} {st en : ℕ} {ps : Parts} → is_later (node k w g st en ps) ≡ true → IsBase (node k w g st en ps) → A
no_base h b = absurd (false≢true (sym (base_kind b) ∙ h))

pub base_of_kind : {A : Type 0} {k : Kind} {w : List ℕ} {g : Flags} {st en : ℕ} {ps : Parts} → is_later_kind k ≡ true → IsBase (node k w g st en ps) → A
base_of_kind {k = k} {w} {g} {st} {en} {ps} h b = no_base (later_kind k w g st en ps h) b

later_async : (x : Form) → is_async x ≡ true → is_later_form x ≡ true
later_async Async h = refl
later_async AsyncGenerator h = refl
later_async _ h = absurd (false≢true h)

-- an async function or arrow
pub base_async : {A : Type 0} {y : Rank} {k : Kind} {w : List ℕ} {g : Flags} {st en : ℕ} {ps qs : Parts} {rest : List Piece} → BehindAsync y g qs k rest → IsBase (node k w g st en ps) → A
base_async {g = g} (async_function z) b = no_base (later_async g.form z) b
base_async (async_name z p i tk) b = no_base (ap is_later_form z) b
base_async (async_parameters z tk) b = no_base (ap is_later_form z) b

-- `#x in a`, and `import.meta`
pub base_private : {A : Type 0} {ps : Parts} → is_private (lead_kind (bare_parts ps)) ≡ true → AreBase ps → A
base_private {ps = none} h b = absurd (false≢true h)
base_private {ps = gap ps} h b = absurd (false≢true h)
base_private {ps = part (node PrivateIdentifier w g st en qs) ps} h b = base_of_kind {k = PrivateIdentifier} refl (base_first b)
base_private {ps = part (node _ w g st en qs) ps} h b = absurd (false≢true h)

pub base_meta : {A : Type 0} {w : List ℕ} {g : Flags} {st en : ℕ} {ps : Parts} → lead_is (bare_parts ps) "import" ≡ true → IsBase (node MetaProperty w g st en ps) → A
base_meta {ps = none} h b = absurd (false≢true h)
base_meta {ps = gap ps} h b = absurd (false≢true h)
base_meta {ps = part (node k v f x y qs) ps} h b = no_base h b

-- a function behind its own word has no `*`
pub base_function : {w : List ℕ} {g : Flags} {st en : ℕ} {ps : Parts} (k : Kind) → is_later (node k w g st en ps) ≡ is_later_form g.form → is_plain_form g.form ≡ true → IsBase (node k w g st en ps) → g.form ≡ Init
base_function {g = g} k by_form plain b = of g.form plain (sym by_form ∙ base_kind b)
  where
    of : (x : Form) → is_plain_form x ≡ true → is_later_form x ≡ false → x ≡ Init
    of Init p h = refl
    of Generator p h = absurd (false≢true (sym h))
    of _ p h = absurd (false≢true p)

-- what an expression of the base profile doesn't begin with
abbrev pub begins_later : ExpressionStart → Bool
begins_later with_yield = true
begins_later with_private_name = true
begins_later _ = false

headed_base : {y : Rank} {i : Bool} {f : Start} {k : Kind} {w : List ℕ} {g : Flags} {st en : ℕ} {ps : Parts} {qs : List (PieceOf Role)} {x : ExpressionStart} → Headed y i f k w g (bare_parts ps) qs x → IsBase (node k w g st en ps) → begins_later x ≡ false
headed_base {k = k} (head_yield kind tk q) b = base_of_kind (ap is_later_kind kind) b
headed_base (head_private kind p t tk in_is q) b = base_private p (base_parts b)
headed_base (head_identifier kind c q) b = refl
headed_base _ b = refl

module _ (S : Type 0) (Next : S → Token → S → Type 0) (behind : S → Token) where
  -- from the whole down to what stands so far on its spine
  pub grows_base : {o : ℕ} {s0 e : S} {a : Role} {n : Tree} {P : List Pair} {b : Role} {m : Tree} {mid : S} {Q : List Pair} → Grows S Next behind o s0 a n e P b m mid Q → IsBase n → IsBase m
  grows_base whole h = h
  grows_base (grow {m = m} {l = node k w g st en qs} {ps = ps} way led pl eq d gs) h = base_first (subst AreBase eq (base_parts (grows_base gs h)))

module _ (S : Type 0) (Next : S → Token → S → Type 0) (behind : S → Token) (det : IsDetermined S Next behind) where
  pub cored_base : {o : ℕ} {y : Rank} {i : Bool} {f : Start} {n : Tree} {s e : S} {P : List Pair} {x : ExpressionStart} → Cored S Next behind det o y i f n s e P x → IsBase n → begins_later x ≡ false
  cored_base (in_group less p d q all) h = refl
  cored_base (in_way tree headed lean pl d) h = headed_base headed (subst IsBase tree h)
