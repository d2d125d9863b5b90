-- What follows a part of a statement says that the part can't go on, or that what may follow a statement does.
use Rattle.std.proofs.Common.{◌≡◌, ◌⊎◌, inl, inr, ℕ, Bool, true, false, List, [], ◌∷◌, refl, sym, ap, ◌∙◌, subst}
use Rattle.std.specs.Prelude.{IsTrue, ◌&&◌, codes}
use Rattle.std.proofs.lemmas.Bool.{and_parts}
use Rattle.tokens.specs.declared.token.TokenClass.{TokenClass}
use Rattle.tokens.specs.declared.token.TokenClass.TheVariants.{IdentifierName}
use Rattle.tokens.specs.declared.token.Goal.{Goal}
use Rattle.tokens.specs.declared.token.Goal.TheVariants.{Div}
use Rattle.tokens.specs.Goals.{allows}
use Rattle.tree.specs.declared.kind.Pair.{Pair}
use Rattle.tree.specs.Tree.{Tree, Parts, none, part, bare_parts}
use Rattle.language.specs.declared.Rank.{Rank}
use Rattle.language.specs.declared.Start.{Start}
use Rattle.language.specs.declared.Edge.{Edge}
use Rattle.language.specs.Vocabulary.{among, op_none, is_reserved}
use Rattle.language.specs.Edges.{edge, last_edge, ends_in_if, edge_as_written}
use Rattle.language.specs.Pieces.{Role, expr, statement, PieceOf, tok, ending, sub, lay, space}
use Rattle.language.specs.Token.{Token}
use Rattle.language.specs.Continuations.{of_class, rank_made_by, stops_at, stops}
use Rattle.language.specs.Promises.{IsDetermined, ReadBy, Stops, Apart, Found}
use Rattle.language.specs.Following.{IsAlike, Followed, Finished, may_follow, FoundWhere}
use Rattle.language.specs.Grammar.{ways}
use Rattle.language.specs.Derivation.{Reads, Runs, Step}
use Rattle.language.proofs.list_loops.FirstPieces.{run_none, run_token, run_laid}
use Rattle.language.proofs.table.BareEdges.{edge_bare}
use Rattle.language.proofs.table.Begins.{among_by}
use Rattle.language.proofs.climbing.NamesBehind.{apart_read, apart_operator, apart_ended}
use Rattle.language.proofs.statements.MissingSemicolons.{ended_stops}
use Rattle.language.proofs.list_loops.PiecesSoFar.{Fits, run_end}

-- it is no name but an operator
abbrev pub is_no_name : TokenClass → List ℕ → Bool
is_no_name IdentifierName w = among w ("in" ∷ "instanceof" ∷ [])
is_no_name _ w = true

-- a token of this class and text makes nothing at the symbol
abbrev pub Unmade : Rank → Bool → TokenClass → List ℕ → Type 0
Unmade y i c w = (x : Edge) (b : Bool) → stops_at y i x (record { class = c; text = w; start = 0; stop = 0; after_break = b }) (rank_made_by (of_class c w) b) ≡ true

-- and is no name
abbrev pub Idle : Rank → Bool → TokenClass → List ℕ → Type 0
Idle y i c w = (x : Edge) (b : Bool) → (stops_at y i x (record { class = c; text = w; start = 0; stop = 0; after_break = b }) (rank_made_by (of_class c w) b) && is_no_name c w) ≡ true

no_name_apart : (c : TokenClass) (w : List ℕ) → is_no_name c w ≡ true → (c ≡ IdentifierName → ⊥) ⊎ (of_class c w ≡ op_none → ⊥)
no_name_apart IdentifierName w h = inr (among_by (λ w. of_class IdentifierName w ≡ op_none → ⊥) w ("in" ∷ "instanceof" ∷ []) h (λ e. cc, (λ e. cc, tt)))
no_name_apart _ w h = inl (λ e. cc)

module _ (S : Type 0) (Next : S → Token → S → Type 0) (behind : S → Token) (det : IsDetermined S Next behind) where
  -- the expression can't go on
  abbrev pub CannotGoOn : Rank → Bool → Tree → S → Type 0
  CannotGoOn y i n e = Stops S Next behind y i n e

  -- an expression that is found is found where it can't go on; so with its absence
  pub found_whole : {o : ℕ} {y : Rank} {i : Bool} {f : Start} {s e : S} {n : Tree} {P : List Pair} → Found S Next behind o y i f s e n P → FoundWhere S Next behind (CannotGoOn y i) o (expr y i f) s e n P
  found_whole u = record { spelled = u.spelled; only = u.only }

  pub unmade_before : (y : Rank) (i : Bool) (n : Tree) {c : TokenClass} {w : List ℕ} {e k : S} {t : Token} → IsTrue (allows Div c w) → Unmade y i c w → Reads S Next behind c w e t k → (u : Token) (m : S) → ReadBy S Next behind Div e u m → IsTrue (stops y i (edge n) (behind e) u)
  unmade_before y i n {c} {w} {e} {k} {t} al unmade h u m r =
      let al' : IsTrue (allows Div t.class t.text) = subst (λ x. IsTrue (allows Div x t.text)) (sym h.class) (subst (λ x. IsTrue (allows Div c x)) (sym h.text) al) in
      let same = (det.same Div e u t m k r.next h.next r.allowed al').0 in
      let class : u.class ≡ c = ap (λ (v : Token). v.class) same ∙ h.class in
      let text : u.text ≡ w = ap (λ (v : Token). v.text) same ∙ h.text in
      subst (λ v. IsTrue (stops_at y i (edge_as_written (edge n) (behind e)) (record { class = u.class; text = v; start = u.start; stop = u.stop; after_break = u.after_break }) (rank_made_by (of_class u.class v) u.after_break))) (sym text)
      (subst (λ v. IsTrue (stops_at y i (edge_as_written (edge n) (behind e)) (record { class = v; text = w; start = u.start; stop = u.stop; after_break = u.after_break }) (rank_made_by (of_class v w) u.after_break))) (sym class)
      (unmade (edge_as_written (edge n) (behind e)) u.after_break))

  -- before such a token nothing goes on
  pub idle_stops : (y : Rank) (i : Bool) (n : Tree) {c : TokenClass} {w : List ℕ} {e k : S} {t : Token} → IsTrue (allows Div c w) → Idle y i c w → Reads S Next behind c w e t k → Stops S Next behind y i n e
  idle_stops y i n {c} {w} {e} {k} {t} al idle h = record { before = unmade_before y i n al (λ x b. (and_parts _ _ (idle x b)).0) h; apart = beside (no_name_apart c w (and_parts _ _ (idle (edge_as_written (edge n) (behind e)) false)).1) }
    where
      al' : IsTrue (allows Div t.class t.text)
      al' = subst (λ x. IsTrue (allows Div x t.text)) (sym h.class) (subst (λ x. IsTrue (allows Div c x)) (sym h.text) al)

      beside : (c ≡ IdentifierName → ⊥) ⊎ (of_class c w ≡ op_none → ⊥) → Apart S Next behind e
      beside (inl other) = apart_read S Next behind det {g = Div} (record { next = h.next; allowed = al' }) (λ k. other (sym h.class ∙ k))
      beside (inr some) = apart_operator S Next behind det {g = Div} (record { next = h.next; allowed = al' }) (λ none. some (sym (ap (λ x. of_class x t.text) h.class ∙ ap (of_class c) h.text) ∙ none))

  -- so an expression fits before it
  pub before_token : (Fine : Parts → S → Type 0) {a : Role} (y : Rank) (i : Bool) {c : TokenClass} {w : List ℕ} (after : Parts → List (PieceOf Role)) {mid : S} → IsTrue (allows Div c w) → Idle y i c w → Fits S Next behind det Fine (CannotGoOn y i) a (λ ps. tok c w ∷ after ps) mid
  before_token Fine y i after al idle o m ps k e A P d runs fine = idle_stops y i m al idle (run_token S Next behind runs).reads

  -- a token that may follow a statement whatever it ends in, but for an `if` without `else` where it is that word
  pub token_follows : {b : Bool} {c : TokenClass} {w : List ℕ} {e k : S} {t : Token} → IsTrue (allows Goal.RegExp c w) → may_follow b (record { class = c; text = w; start = 0; stop = 0; after_break = false }) ≡ true → Reads S Next behind c w e t k → Followed S Next behind b e
  token_follows {b} {c} {w} {e} {k} {t} al may h = record {
    token = t;
    mid = k;
    read = record { next = h.next; allowed = subst (λ x. IsTrue (allows Goal.RegExp x t.text)) (sym h.class) (subst (λ x. IsTrue (allows Goal.RegExp c x)) (sym h.text) al) };
    follows = ap (λ x. may_follow b (record { class = x; text = t.text; start = 0; stop = 0; after_break = false })) h.class ∙ ap (λ x. may_follow b (record { class = c; text = x; start = 0; stop = 0; after_break = false })) h.text ∙ may;
  }

module _ (S : Type 0) (Next : S → Token → S → Type 0) (behind : S → Token) (det : IsDetermined S Next behind) (alike : IsAlike S Next behind) where
  -- where the `;` stands or may be missing, and what may follow follows, nothing goes on
  pub end_stops : {b : Bool} {k e : S} (y : Rank) (i : Bool) (n : Tree) → Step S Next behind (ending (Rattle.language.specs.Pieces.behind (edge n))) k e → Followed S Next behind b e → Stops S Next behind y i n k
  end_stops y i n end fine = record { before = λ t q r. ended_stops S Next behind det alike y i (edge n) end fine r; apart = apart_ended S Next behind det refl end }

  -- an expression fits before the end of its statement
  pub before_end : (b : Parts → Bool) {a : Role} (y : Rank) (i : Bool) {mid : S} →
      Fits S Next behind det (λ ps e. Followed S Next behind (b ps) e) (CannotGoOn S Next behind det y i) a (λ ps. ending (Rattle.language.specs.Pieces.behind (last_edge (bare_parts ps))) ∷ []) mid
  before_end b y i o m ps k e A P d runs fine =
      let z = run_end S Next behind det runs in
      let x : last_edge (bare_parts (part m ps)) ≡ edge m = ap (λ v. last_edge (bare_parts (part m v))) z.parts ∙ edge_bare m in
      let end : Step S Next behind (ending (Rattle.language.specs.Pieces.behind (edge m))) k e = subst (λ v. Step S Next behind (ending (Rattle.language.specs.Pieces.behind v)) k e) x z.ends in
      end_stops y i m end fine

  -- a statement fits at the end of another
  pub at_last : (b : Parts → Bool) {a : Role} {mid : S} → ((m : Tree) → b (part m none) ≡ ends_in_if m) → Fits S Next behind det (λ ps e. Followed S Next behind (b ps) e) (Finished S Next behind) a (λ ps. []) mid
  at_last b its o m ps k e A P d runs fine =
      let z = run_none S Next behind runs in
      subst (λ v. Followed S Next behind (ends_in_if m) v) (sym z.place) (subst (λ v. Followed S Next behind v e) (ap (λ v. b (part m v)) z.parts ∙ its m) fine)

  -- a statement fits before `while`, and before `else` where it doesn't end in an `if` without `else`
  pub before_while : (Fine : Parts → S → Type 0) {a : Role} (after : Parts → List (PieceOf Role)) {mid : S} → Fits S Next behind det Fine (Finished S Next behind) a (λ ps. lay space ∷ tok IdentifierName (codes "while") ∷ after ps) mid
  before_while Fine after o m ps k e A P d runs fine = token_follows S Next behind det {b = ends_in_if m} refl refl (run_token S Next behind (run_laid S Next behind runs)).reads

  pub before_else : (m : Tree) {o : ℕ} {qs : List (PieceOf Role)} {ps : Parts} {k e : S} {P : List Pair} → ends_in_if m ≡ false → Runs ways S Next behind o (lay space ∷ tok IdentifierName (codes "else") ∷ qs) ps k e P → Finished S Next behind m k
  unfolding is_reserved
  before_else m no_if runs =
      token_follows S Next behind det {b = ends_in_if m} refl (ap (λ b. may_follow b (record { class = IdentifierName; text = codes "else"; start = 0; stop = 0; after_break = false })) no_if) (run_token S Next behind (run_laid S Next behind runs)).reads
