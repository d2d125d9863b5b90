-- Functions, classes and the call of `import` from what stands behind their word; and the body of an arrow by its first token.
use Rattle.std.proofs.Common.{◌≡◌, ℕ, Bool, true, false, List, [], refl, sym, ap, ◌∙◌, subst}
use Rattle.std.specs.Prelude.{IsTrue, codes}
use Rattle.tokens.specs.declared.token.TokenClass.TheVariants.{Punctuator}
use Rattle.tokens.specs.declared.token.Goal.{Goal}
use Rattle.tokens.specs.Goals.{allows}
use Rattle.tree.specs.declared.kind.Kind.TheVariants.{TemplateLiteral, BlockStatement}
use Rattle.language.specs.declared.Rank.{Rank}
use Rattle.language.specs.declared.Rank.TheVariants.{Assignment, Primary}
use Rattle.language.specs.declared.Start.{Start}
use Rattle.language.specs.declared.Start.TheVariants.{NoBrace}
use Rattle.tree.specs.declared.kind.Pair.{Pair}
use Rattle.tree.specs.Tree.{Tree, node, Parts, plain}
use Rattle.language.specs.Vocabulary.{takes}
use Rattle.language.specs.Pieces.{Role, expr, body, PieceOf}
use Rattle.language.specs.Token.{Token}
use Rattle.language.specs.ExpressionStart.{with_template, expression_start}
use Rattle.language.specs.Promises.{IsDetermined, ReadBy, Found, Absent, FoundAt, AbsentAt, FoundParts}
use Rattle.language.specs.Grammar.{ways, spellings}
use Rattle.language.specs.Derivation.{Reads, Spells, direct, Placed}
use Rattle.language.proofs.table.Begins.{behind_first, first_of, begun}
use Rattle.language.proofs.table.ViewIsComplete.{way_of, one}
use Rattle.language.proofs.lower_bound.Domination.{settled}
use Rattle.language.proofs.table.TokenFirstWays.{opens}
use Rattle.language.proofs.climbing.OperatorLoop.{Climbing}
use Rattle.language.proofs.climbing.Arrows.{ArrowBody, as_expression, as_block}
use Rattle.language.proofs.climbing.Targets.{start_brace_unfit}
use Rattle.language.proofs.climbing.SingleStarts.{class_parts, climb_sole, template_production, one_form}
use Rattle.language.proofs.list_loops.FirstItems.{chunk_pieces}

abbrev pub class_behind : Parts → List (PieceOf Role)
class_behind ps = behind_first (class_parts ps)

module _ (S : Type 0) (Next : S → Token → S → Type 0) (behind : S → Token) (det : IsDetermined S Next behind) where
  -- a template
  module _ {f : Start} {s0 m : S} {t : Token} (r : ReadBy S Next behind Goal.RegExp s0 t m) (opening : expression_start t ≡ with_template) where
    pub climb_template : {o : ℕ} {y : Rank} {i : Bool} {ps : Parts} {to : S} {U : List Pair} {st en : ℕ} → IsTrue (takes y Primary) → FoundParts S Next behind o (chunk_pieces true) s0 to ps U → Placed S Next behind (expr y i f) (node TemplateLiteral [] plain st en ps) s0 to →
        Climbing S Next behind det o y i f Primary s0 (node TemplateLiteral [] plain st en ps) to U
    climb_template low found places = climb_sole S Next behind det (template_production S Next behind det f s0) r opening low (one_form S Next behind det found) places

  -- A body begins with `{`.
  pub body_begins : {o : ℕ} {n : Tree} {s e : S} {P : List Pair} → Spells ways S Next behind o body n s e P → (t : Token) × (m : S) × Reads S Next behind Punctuator (codes "{") s t m
  unfolding spellings
  body_begins {n = node BlockStatement w g st en ps} (direct qs h pl d) =
      let v = way_of h in
      let u = begun S Next behind qs (ap first_of (v.is ∙ ap (settled body) (one v.listed))) d in
      (u.token, u.mid, record { next = u.next; class = u.class; text = u.text })
  body_begins {n = node _ w g st en ps} (direct qs h pl d) = elim ((way_of h).listed) [ ]

  pub body_absent : {s : S} → ((t : Token) (m : S) → Reads S Next behind Punctuator (codes "{") s t m → ⊥) → AbsentAt S Next behind body s
  body_absent missing = record { nothing = λ o' e' n' P' d. (let u = body_begins d in missing u.0 u.1 u.2) }

  -- and no expression that may be an arrow's body does
  pub braced_absent : {y : Rank} {i : Bool} {s m : S} {t : Token} → Reads S Next behind Punctuator (codes "{") s t m → Absent S Next behind y i NoBrace s
  braced_absent {t = t} h =
      let al : IsTrue (allows Goal.RegExp t.class t.text) = subst (λ c. IsTrue (allows Goal.RegExp c t.text)) (sym h.class) (subst (λ c. IsTrue (allows Goal.RegExp Punctuator c)) (sym h.text) refl) in
      start_brace_unfit S Next behind det (record { next = h.next; allowed = al }) (opens t h.class h.text refl) refl

  -- so the body of an arrow is decided by its first token
  pub block_body : {o : ℕ} {i : Bool} {s m e : S} {t : Token} {u : Tree} {U : List Pair} → Reads S Next behind Punctuator (codes "{") s t m → FoundAt S Next behind o body s e u U → ArrowBody S Next behind det o i s e u U false
  block_body h found = as_block found (braced_absent h)

  pub concise_body : {o : ℕ} {i : Bool} {s e : S} {u : Tree} {U : List Pair} → ((t : Token) (m : S) → Reads S Next behind Punctuator (codes "{") s t m → ⊥) → Found S Next behind o Assignment i NoBrace s e u U → ArrowBody S Next behind det o i s e u U true
  concise_body missing found = as_expression found (body_absent missing)
