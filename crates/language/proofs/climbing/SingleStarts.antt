-- Leftmost parts that one production alone makes of their first token: functions, classes, templates, and the call of `import`.
use Rattle.std.proofs.Common.{◌≡◌, ℕ, Bool, true, false, List, [], ◌∷◌, refl, sym, ap, ◌∙◌, subst}
use Rattle.std.specs.Prelude.{IsTrue, codes}
use Rattle.tokens.specs.declared.token.TokenClass.TheVariants.{IdentifierName, Punctuator}
use Rattle.tokens.specs.declared.token.Goal.{Goal}
use Rattle.tree.specs.declared.kind.Kind.{Kind}
use Rattle.tree.specs.declared.kind.Kind.TheVariants.{FunctionExpression, ClassExpression, TemplateLiteral, ImportExpression}
use Rattle.language.specs.declared.Rank.{Rank}
use Rattle.language.specs.declared.Rank.TheVariants.{Expression, Assignment, Call, Primary}
use Rattle.language.specs.declared.Start.{Start}
use Rattle.language.specs.declared.Start.TheVariants.{Any, NoBrace, Statement}
use Rattle.tree.specs.declared.kind.Flags.{Flags}
use Rattle.tree.specs.declared.kind.Pair.{Pair}
use Rattle.tree.specs.Tree.{Tree, node, Parts, none, part, gap, bare, bare_parts, plain}
use Rattle.tree.specs.Uses.{is_lean, used_flags, has_text}
use Rattle.tree.proofs.Lean.{lean_flags, lean_text}
use Rattle.language.specs.FirstPart.{others}
use Rattle.language.specs.Vocabulary.{takes, is}
use Rattle.language.specs.Pieces.{Role, expr, body, PieceOf, Piece, tok, sub, put, sp, sign, term, at, parameters}
use Rattle.language.specs.Token.{Token}
use Rattle.language.specs.Expressions.{function_pieces, class_pieces, template_elements, function_words, named}
use Rattle.language.specs.ExpressionStart.{ExpressionStart, with_function, with_class, with_template, with_import, with_parenthesis, expression_start}
use Rattle.language.specs.Promises.{IsDetermined, ReadBy, FoundParts}
use Rattle.language.specs.Grammar.{ways, starts}
use Rattle.language.specs.Derivation.{Spells, Runs, Placed, Reads}
use Rattle.language.specs.Chosen as chosen
use Rattle.language.proofs.table.NodeForms.{by_form, function, class, template}
use Rattle.language.proofs.climbing.Spine.{Core}
use Rattle.language.proofs.table.Productions.{spell}
use Rattle.language.proofs.table.Begins.{goes_to, retell, joins_first, starts_more}
use Rattle.language.proofs.table.FixedPieces.{Fixed, all_done, one_more, same_pieces, fixed_parameters, fixed_join}
use Rattle.language.proofs.table.TokenFirstWays.{Headed, head_function, head_class, head_template, head_import, is_plain_form, function_rest, head_import_meta}
use Rattle.language.proofs.climbing.LeftmostParts.{Cored, in_group, in_way, core_by}
use Rattle.language.proofs.list_loops.FirstItems.{chunk_pieces}
use Rattle.language.proofs.climbing.BinaryTurns.{same_node, replaced, same_places}
use Rattle.language.proofs.climbing.OperatorLoop.{Climbing}
use Rattle.language.proofs.climbing.FirstTurn.{climb_start}
use Rattle.language.proofs.climbing.Leaves.{core_primary, word_form, by_class, worded_free}
use Rattle.tree.specs.declared.kind.Form.{Form}
use Rattle.tree.specs.declared.kind.Form.TheVariants.{Init, Generator, Async, AsyncGenerator}
use Rattle.language.proofs.list_loops.FirstPieces.{run_part, run_token}
use Rattle.tokens.specs.Goals.{allows}
use Rattle.std.proofs.lemmas.Bool.{false≢true}

-- the pieces of a function and of a class, at any position
abbrev pub function_parts : Form → Parts → List (PieceOf Role)
function_parts x ps = goes_to Expression true Any (function_pieces x (bare_parts ps))

abbrev pub class_parts : Parts → List (PieceOf Role)
class_parts ps = goes_to Expression true Any (class_pieces (bare_parts ps))

abbrev pub import_parts : Parts → List (PieceOf Role)
import_parts ps = tok IdentifierName (codes "import") ∷ tok Punctuator (codes "(") ∷ sub (expr Assignment true Any) ∷ tok Punctuator (codes ")") ∷ []

fixed_body : (ps : Parts) → Fixed (sign "(" ∷ parameters (sign ")" ∷ sp ∷ put body ∷ []) ps)
fixed_body ps = one_more refl (fixed_parameters (sign ")" ∷ sp ∷ put body ∷ []) (one_more refl (one_more refl (one_more refl all_done))) ps)

fixed_words : (x : Form) → Fixed (function_words x)
fixed_words Init = one_more refl all_done
fixed_words Generator = one_more refl (one_more refl all_done)
fixed_words Async = one_more refl (one_more refl (one_more refl (one_more refl all_done)))
fixed_words AsyncGenerator = one_more refl (one_more refl (one_more refl (one_more refl (one_more refl all_done))))
fixed_words _ = one_more refl all_done

fixed_named : (ps : Parts) → Fixed (named ps)
fixed_named none = one_more refl all_done
fixed_named (part n ps) = one_more refl all_done
fixed_named (gap ps) = one_more refl all_done

pub fixed_function : (x : Form) (ps : Parts) → Fixed (function_pieces x ps)
fixed_function x ps = fixed_join (fixed_join (fixed_words x) (one_more refl (fixed_named ps))) (fixed_body (others ps))

-- the forms that begin with `function`
plain_words : (x : Form) → is_plain_form x ≡ true → (ps : Parts) → term "function" ∷ function_rest x ps ≡ function_pieces x ps
plain_words Init h ps = refl
plain_words Generator h ps = refl
plain_words _ h ps = cc

pub fixed_class : (ps : Parts) → Fixed (class_pieces ps)
fixed_class none = one_more refl (one_more refl (one_more refl (one_more refl (one_more refl all_done))))
fixed_class (part n none) = one_more refl (one_more refl (one_more refl (one_more refl (one_more refl (one_more refl all_done)))))
fixed_class (part n (part m ps)) = one_more refl (one_more refl (one_more refl (one_more refl (one_more refl (one_more refl (one_more refl (one_more refl (one_more refl all_done))))))))
fixed_class (part n (gap ps)) = one_more refl (one_more refl (one_more refl (one_more refl (one_more refl (one_more refl all_done)))))
fixed_class (gap none) = one_more refl (one_more refl (one_more refl (one_more refl (one_more refl all_done))))
fixed_class (gap (part m ps)) = one_more refl (one_more refl (one_more refl (one_more refl (one_more refl (one_more refl (one_more refl (one_more refl all_done)))))))
fixed_class (gap (gap ps)) = one_more refl (one_more refl (one_more refl (one_more refl (one_more refl all_done))))

pub fixed_chunks : (b : Bool) (ps : Parts) → Fixed (template_elements b ps)
fixed_chunks b none = one_more refl all_done
fixed_chunks b (gap ps) = one_more refl all_done
fixed_chunks b (part q none) = one_more refl all_done
fixed_chunks b (part q (gap ps)) = one_more refl all_done
fixed_chunks b (part q (part e ps)) = one_more refl (one_more refl (fixed_chunks false ps))

starts_chunks : (f : Start) (b : Bool) (ps : Parts) → IsTrue (starts f (template_elements b ps))
starts_chunks Any b ps = refl
starts_chunks NoBrace b none = refl
starts_chunks NoBrace b (gap ps) = refl
starts_chunks NoBrace b (part q none) = refl
starts_chunks NoBrace b (part q (gap ps)) = refl
starts_chunks NoBrace b (part q (part e ps)) = refl
starts_chunks Statement b none = refl
starts_chunks Statement b (gap ps) = refl
starts_chunks Statement b (part q none) = refl
starts_chunks Statement b (part q (gap ps)) = refl
starts_chunks Statement b (part q (part e ps)) = refl

import_starts : (f : Start) (qs : List Piece) → joins_first qs ≡ false → IsTrue (starts f (term "import" ∷ qs))
import_starts f qs h = starts_more f (codes "import") qs h (of f)
  where
    of : (f : Start) → IsTrue (starts f (term "import" ∷ []))
    of Any = refl
    of NoBrace = refl
    of Statement = refl

function_starts : (f : Start) (x : Form) (ps : Parts) → IsTrue (starts f (term "function" ∷ [])) → IsTrue (starts f (function_pieces x ps))
function_starts Any x ps h = refl
function_starts NoBrace Init ps h = refl
function_starts NoBrace Generator ps h = refl
function_starts NoBrace Async ps h = refl
function_starts NoBrace AsyncGenerator ps h = refl
function_starts NoBrace _ ps h = refl
function_starts Statement x ps h = cc

class_starts : (f : Start) (ps : Parts) → IsTrue (starts f (term "class" ∷ [])) → IsTrue (starts f (class_pieces ps))
class_starts Any ps h = refl
class_starts NoBrace ps h = refl
class_starts Statement ps h = cc

-- the flags of a node that has a form alone
abbrev pub form_flags : Form → Flags
form_flags x = record plain { form = x }

function_lean : (x : Form) (st en : ℕ) (ps : Parts) → is_lean (bare (node FunctionExpression [] (form_flags x) st en ps)) ≡ true
function_lean Init st en ps = refl
function_lean _ st en ps = refl

module _ (S : Type 0) (Next : S → Token → S → Type 0) (behind : S → Token) (det : IsDetermined S Next behind) where
  -- the only parts of a node of one kind, with its form
  pub record FoundFormed (o : ℕ) (formed : Flags → Form) (pieces : Form → Parts → List (PieceOf Role)) (s e : S) (x : Form) (ps : Parts) (P : List Pair) : Type 0 where
    pub flags : Flags
    pub is : x ≡ formed flags
    pub runs : Runs ways S Next behind o (pieces x ps) ps s e P
    pub only : (o' : ℕ) (e' : S) (g' : Flags) (ps' : Parts) (P' : List Pair) → Runs ways S Next behind o' (pieces (formed g') ps') ps' s e' P' → (e' ≡ e) × (ps' ≡ ps) × (P' ≡ P) × (formed g' ≡ x)

  -- where there is one form
  pub one_form : {o : ℕ} {pieces : Parts → List (PieceOf Role)} {s e : S} {ps : Parts} {P : List Pair} → FoundParts S Next behind o pieces s e ps P → FoundFormed o (λ g. Init) (λ x. pieces) s e Init ps P
  one_form found = record { flags = plain; is = refl; runs = found.runs; only = λ o' e' g' ps' P' d. let u = found.only o' e' ps' P' d in (u.0, u.1, u.2, refl) }

  -- A production that is the only one with its opening: the node's kind and symbol, at a start, and its pieces at any position.
  pub record Production (x : ExpressionStart) (K : Kind) (z : Rank) (f : Start) (s0 : S) (formed : Flags → Form) (pieces : Form → Parts → List (PieceOf Role)) : Type 0 where
    pub no_text : has_text K ≡ false
    pub no_flags : (g : Flags) → used_flags K g ≡ form_flags (formed g)
    pub no_group : x ≡ with_parenthesis → ⊥
    pub is_way : (o : ℕ) (h : Rank) (j : Bool) (k : Kind) (w : List ℕ) (g : Flags) (ps : Parts) (qs : List (PieceOf Role)) (mid : S) (Q : List Pair) → Headed h j f k w g (bare_parts ps) qs x → Runs ways S Next behind o qs ps s0 mid Q → IsTrue (takes h Primary) →
        (k ≡ K) × IsTrue (takes h z) × (qs ≡ pieces (formed g) ps)
    pub spells : (o : ℕ) (h : Rank) (j : Bool) (st en : ℕ) (g : Flags) (ps : Parts) (e : S) (P : List Pair) → IsTrue (takes h z) → Placed S Next behind (expr h j f) (node K [] (form_flags (formed g)) st en ps) s0 e → Runs ways S Next behind o (pieces (formed g) ps) ps s0 e P →
        Spells ways S Next behind o (expr h j f) (node K [] (form_flags (formed g)) st en ps) s0 e P

  -- such a node as it stands in a derivation
  record SoleCore (o : ℕ) (h : Rank) (j : Bool) (f : Start) (m : Tree) (s0 mid : S) (Q : List Pair) (K : Kind) (z : Rank) (formed : Flags → Form) (pieces : Form → Parts → List (PieceOf Role)) : Type 0 where
    st : ℕ
    en : ℕ
    flags : Flags
    parts : Parts
    tree : m ≡ node K [] (form_flags (formed flags)) st en parts
    stands : IsTrue (takes h z)
    places : Placed S Next behind (expr h j f) (node K [] (form_flags (formed flags)) st en parts) s0 mid
    runs : Runs ways S Next behind o (pieces (formed flags) parts) parts s0 mid Q

  module _ {x : ExpressionStart} {K : Kind} {z : Rank} {f : Start} {s0 : S} {formed : Flags → Form} {pieces : Form → Parts → List (PieceOf Role)} (production : Production x K z f s0 formed pieces) {m0 : S} {t : Token} (r : ReadBy S Next behind Goal.RegExp s0 t m0) (opening : expression_start t ≡ x) where
    sole_core : {o : ℕ} {h : Rank} {j : Bool} {m : Tree} {mid : S} {Q : List Pair} → Core S Next behind o (expr h j f) m s0 mid Q → SoleCore o h j f m s0 mid Q K z formed pieces
    sole_core {o} {h} {j} {m} {mid} {Q} c = of x refl (core_by S Next behind det r opening c)
      where
        stands : IsTrue (takes h Primary)
        stands = core_primary S Next behind det c r (λ e. production.no_group (sym opening ∙ e))

        of : (a : ExpressionStart) → a ≡ x → Cored S Next behind det o h j f m s0 mid Q a → SoleCore o h j f m s0 mid Q K z formed pieces
        of a e (in_group u p d q v) = absurd (production.no_group (sym e))
        of a e (in_way {k = k} {w = w} {g = g} {st = st} {en = en} {ps = ps} {qs = qs} is headed lean pl d) =
            let way = production.is_way o h j k w g ps qs mid Q (subst (λ v. Headed h j f k w g (bare_parts ps) qs v) e headed) d stands in
            let bares : is_lean (bare (node k w g st en ps)) ≡ true = ap (λ v. is_lean (bare v)) (sym is) ∙ lean in
            let same : node k w g st en ps ≡ node K [] (form_flags (formed g)) st en ps =
            same_node way.0 (lean_text (bare (node k w g st en ps)) bares (ap has_text way.0 ∙ production.no_text)) (lean_flags (bare (node k w g st en ps)) bares ∙ ap (λ v. used_flags v g) way.0 ∙ production.no_flags g) refl refl refl in
            record {
              st = st;
              en = en;
              flags = g;
              parts = ps;
              tree = is ∙ same;
              stands = way.1;
              places = subst (λ v. Placed S Next behind (expr h j f) v s0 mid) (is ∙ same) pl;
              runs = retell S Next behind way.2 d;
            }

    -- its parts are found
    pub climb_sole : {o : ℕ} {y : Rank} {i : Bool} {v : Form} {ps : Parts} {to : S} {U : List Pair} {st en : ℕ} → IsTrue (takes y z) → FoundFormed o formed pieces s0 to v ps U → Placed S Next behind (expr y i f) (node K [] (form_flags v) st en ps) s0 to →
        Climbing S Next behind det o y i f z s0 (node K [] (form_flags v) st en ps) to U
    climb_sole {o} {v = v} {ps = ps} {to = to} {U = U} {st = st} {en = en} low found places = climb_start S Next behind det low
        (λ h j tk lo.
        let back = ap (λ b. node K [] (form_flags b) st en ps) (sym found.is) in
        subst (λ n. Spells ways S Next behind o (expr h j f) n s0 to U) back
        (production.spells o h j st en found.flags ps to U tk (subst (λ n. Placed S Next behind (expr h j f) n s0 to) (sym back) (replaced S Next behind det places)) (subst (λ b. Runs ways S Next behind o (pieces b ps) ps s0 to U) found.is found.runs)))
        (λ o' n e P h j m mid Q b.
        let c = sole_core b.core in
        let same = found.only o' mid c.flags c.parts Q c.runs in
        let where_is = same_places S Next behind det c.places places same.0 in
        (same.0, c.tree ∙ same_node refl refl (ap form_flags same.3) where_is.0 where_is.1 same.1, same.2, c.stands))

  -- a function
  pub function_production : (f : Start) (s0 : S) → IsTrue (starts f (term "function" ∷ [])) → Production with_function FunctionExpression Primary f s0 (λ g. g.form) function_parts
  function_production f s0 begins = record {
    no_text = refl;
    no_flags = λ g. refl;
    no_group = λ e. cc;
    is_way = λ o h j k w g ps qs mid Q headed d tk. of h j ps headed tk;
    spells = λ o h j st en g ps e P tk pl d. spell S Next behind (at Primary (function_pieces g.form (bare_parts ps))) function (function_lean g.form st en ps) tk refl (function_starts f g.form (bare_parts ps) begins) pl (retell S Next behind (same_pieces Expression h true j Any f (fixed_function g.form (bare_parts ps))) d);
  }
    where
      of : (h : Rank) (j : Bool) {k : Kind} {w : List ℕ} {g : Flags} (ps : Parts) {qs : List (PieceOf Role)} → Headed h j f k w g (bare_parts ps) qs with_function → IsTrue (takes h Primary) → (k ≡ FunctionExpression) × IsTrue (takes h Primary) × (qs ≡ function_parts g.form ps)
      of h j {g = g} ps (head_function k z b q) tk = (k, tk, q ∙ ap (goes_to h j f) (plain_words g.form z (bare_parts ps)) ∙ same_pieces h Expression j true f Any (fixed_function g.form (bare_parts ps)))

  -- a class
  pub class_production : (f : Start) (s0 : S) → IsTrue (starts f (term "class" ∷ [])) → Production with_class ClassExpression Primary f s0 (λ g. Init) (λ x. class_parts)
  class_production f s0 begins = record {
    no_text = refl;
    no_flags = λ g. refl;
    no_group = λ e. cc;
    is_way = λ o h j k w g ps qs mid Q headed d tk. of h j ps headed tk;
    spells = λ o h j st en g ps e P tk pl d. spell S Next behind (at Primary (class_pieces (bare_parts ps))) class refl tk refl (class_starts f (bare_parts ps) begins) pl (retell S Next behind (same_pieces Expression h true j Any f (fixed_class (bare_parts ps))) d);
  }
    where
      of : (h : Rank) (j : Bool) {k : Kind} {w : List ℕ} {g : Flags} (ps : Parts) {qs : List (PieceOf Role)} → Headed h j f k w g (bare_parts ps) qs with_class → IsTrue (takes h Primary) → (k ≡ ClassExpression) × IsTrue (takes h Primary) × (qs ≡ class_parts ps)
      of h j ps (head_class k b q) tk = (k, tk, q ∙ same_pieces h Expression j true f Any (fixed_class (bare_parts ps)))

  -- a template
  pub template_production : (f : Start) (s0 : S) → Production with_template TemplateLiteral Primary f s0 (λ g. Init) (λ x. chunk_pieces true)
  template_production f s0 = record {
    no_text = refl;
    no_flags = λ g. refl;
    no_group = λ e. cc;
    is_way = λ o h j k w g ps qs mid Q headed d tk. of h j ps headed tk;
    spells = λ o h j st en g ps e P tk pl d. spell S Next behind (at Primary (template_elements true (bare_parts ps))) template refl tk refl (starts_chunks f true (bare_parts ps)) pl (retell S Next behind (same_pieces Expression h true j Any f (fixed_chunks true (bare_parts ps))) d);
  }
    where
      of : (h : Rank) (j : Bool) {k : Kind} {w : List ℕ} {g : Flags} (ps : Parts) {qs : List (PieceOf Role)} → Headed h j f k w g (bare_parts ps) qs with_template → IsTrue (takes h Primary) → (k ≡ TemplateLiteral) × IsTrue (takes h Primary) × (qs ≡ chunk_pieces true ps)
      of h j ps (head_template k q) tk = (k, tk, q ∙ same_pieces h Expression j true f Any (fixed_chunks true (bare_parts ps)))

  -- the call of `import`, where `(` follows that word
  pub import_production : (f : Start) {s0 x x2 : S} {t v : Token} → ReadBy S Next behind Goal.RegExp s0 t x → Reads S Next behind Punctuator (codes "(") x v x2 → Production with_import ImportExpression Call f s0 (λ g. Init) (λ x. import_parts)
  import_production f {s0} {x} {x2} {t} {v} r opened = record {
    no_text = refl;
    no_flags = λ g. refl;
    no_group = λ e. cc;
    is_way = λ o h j k w g ps qs mid Q headed d tk. of h j ps headed d;
    spells = λ o h j st en g ps e P tk pl d. spell S Next behind (at Call (term "import" ∷ sign "(" ∷ put (expr Assignment true Any) ∷ sign ")" ∷ [])) (by_form chosen.import_call) refl tk refl (import_starts f (sign "(" ∷ put (expr Assignment true Any) ∷ sign ")" ∷ []) refl) pl d;
  }
    where
      of : {o : ℕ} (h : Rank) (j : Bool) {k : Kind} {w : List ℕ} {g : Flags} (ps : Parts) {qs : List (PieceOf Role)} {mid : S} {Q : List Pair} → Headed h j f k w g (bare_parts ps) qs with_import → Runs ways S Next behind o qs ps s0 mid Q → (k ≡ ImportExpression) × IsTrue (takes h Call) × (qs ≡ import_parts ps)
      of h j ps (head_import k tk q) d = (k, tk, q)
      of h j ps (head_import_meta k c tk q) d =
          let a = run_part S Next behind (retell S Next behind q d) in
          let w = word_form S Next behind det a.spelled in
          let here = by_class S Next behind det (worded_free w.class w.text w.is_word) r w.sign a.mid w.reads in
          let dot = run_token S Next behind a.runs in
          let dotted = subst (λ z. Reads S Next behind Punctuator (codes ".") z dot.sign dot.mid) here.1 dot.reads in
          let al : IsTrue (allows Goal.Div dot.sign.class dot.sign.text) = subst (λ c. IsTrue (allows Goal.Div c dot.sign.text)) (sym dotted.class) (subst (λ c. IsTrue (allows Goal.Div Punctuator c)) (sym dotted.text) refl) in
          let al' : IsTrue (allows Goal.Div v.class v.text) = subst (λ c. IsTrue (allows Goal.Div c v.text)) (sym opened.class) (subst (λ c. IsTrue (allows Goal.Div Punctuator c)) (sym opened.text) refl) in
          let same = det.same Goal.Div x dot.sign v dot.mid x2 dotted.next opened.next al al' in
          absurd (false≢true (ap (λ w. is w "(") (sym dotted.text ∙ ap (λ (c : Token). c.text) same.0 ∙ opened.text)))
