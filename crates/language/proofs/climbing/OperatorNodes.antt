-- Which node an operator makes of what stands before it: where the parts spell, the node does.
use Rattle.std.proofs.Common.{◌≡◌, ℕ, Bool, true, false, cond, List, [], ◌∷◌, ◌++◌, refl, ap, ◌∙◌, subst, sym}
use Rattle.std.specs.Prelude.{IsTrue, codes}
use Rattle.std.proofs.lemmas.List.{append-nil}
use Rattle.tokens.specs.declared.token.TokenClass.TheVariants.{IdentifierName, Punctuator}
use Rattle.tree.specs.declared.kind.Kind.{Kind}
use Rattle.tree.specs.declared.kind.Kind.TheVariants.{PrivateIdentifier, TaggedTemplateExpression, MemberExpression, CallExpression, ChainExpression, UpdateExpression, BinaryExpression, LogicalExpression, ConditionalExpression, AssignmentExpression, SequenceExpression}
use Rattle.language.specs.declared.Rank.{Rank}
use Rattle.language.specs.declared.Rank.TheVariants.{Expression, Assignment, Conditional, ShortCircuit, Exponentiation, Update, LeftHandSide, Call, Member}
use Rattle.language.specs.declared.Start.{Start}
use Rattle.language.specs.declared.Start.TheVariants.{Any}
use Rattle.tree.specs.declared.kind.Flags.{Flags}
use Rattle.tree.specs.declared.kind.Pair.{Pair}
use Rattle.tree.specs.Tree.{Tree, node, plain, Parts, none, part, gap, kind_of, bare, bare_parts}
use Rattle.tree.specs.Uses.{is_lean, implies}
use Rattle.language.specs.Vocabulary.{is, takes, is_target, is_super, is_private, is_word_operator, op_binary, op_power, op_assign, op_update, operator_of}
use Rattle.language.specs.Pieces.{Role, expr, chain_part, tagged_quasi, Piece, tok, sub, unbroken, left, lead, tail, callee, lead_chain, put, sp, sign, at, is_none, Spelling}
use Rattle.language.specs.Token.{Token}
use Rattle.language.specs.Grammar.{spellings, ways}
use Rattle.language.specs.Expressions.{expressions, assignment, arguments, after_number, selector, first_has_optional, chain_parts, member_link, call_link, sequence, joined, infix_pieces}
use Rattle.language.specs.FirstPart.{lead as lead_kind}
use Rattle.language.proofs.table.ViewIsComplete.{way_of}
use Rattle.language.specs.Derivation.{Among, first, Reads, Spells, grouped, direct, Runs, done, step, within, token, laid, same_line, Placed}
use Rattle.language.proofs.table.NodeForms.{tagged, member, call, chain, postfix, power, binary, logical, conditional, assign, several}
use Rattle.language.proofs.lower_bound.Domination.{settled}
use Rattle.language.proofs.table.Begins.{goes_to, AllLaid, no_piece, one_laid, number_laid}
use Rattle.language.proofs.table.LeftRecursiveWays.{callee_rank, property_role}
use Rattle.language.proofs.table.Productions.{spell, starts_led, way_from, runs_can, in_true, in_false}

pub kind_bare : (n : Tree) → kind_of (bare n) ≡ kind_of n
kind_bare (node k w g s e ps) = refl

-- whether parts are none, places aside
pub none_bare : (ps : Parts) → is_none (bare_parts ps) ≡ is_none ps
none_bare none = refl
none_bare (part n ps) = refl
none_bare (gap ps) = refl

module _ (S : Type 0) (Next : S → Token → S → Type 0) (behind : S → Token) where
  -- pieces that only lay out run over nothing
  pub lay_runs : {o : ℕ} {ps : Parts} {s e : S} {P : List Pair} (y : Rank) (i : Bool) (f : Start) {qs : List Piece} (rs : List Piece) → AllLaid qs → Runs ways S Next behind o (goes_to y i f rs) ps s e P → Runs ways S Next behind o (goes_to y i f (qs ++ rs)) ps s e P
  lay_runs y i f rs no_piece d = d
  lay_runs y i f rs one_laid d = step laid d

  -- the last part of a node
  pub last_runs : {o : ℕ} {a : Role} {n : Tree} {s e : S} {P : List Pair} → Spells ways S Next behind o a n s e P → Runs ways S Next behind o (sub a ∷ []) (part n none) s e P
  last_runs {o} {a} {n} {s} {e} {P} d = subst (λ z. Runs ways S Next behind o (sub a ∷ []) (part n none) s e z) (append-nil P) (within d done)

  -- no expression is a private name
  no_private : {o : ℕ} {y : Rank} {i : Bool} {f : Start} {n : Tree} {s e : S} {P : List Pair} → Spells ways S Next behind o (expr y i f) n s e P → is_private (kind_of n) ≡ false
  unfolding spellings expressions
  no_private (grouped p d q) = no_private d
  no_private {n = node PrivateIdentifier w g st en ps} (direct qs h pl d) = elim ((way_of h).listed) [ ]
  no_private {n = node _ w g st en ps} (direct qs h pl d) = refl

  abbrev pub Whole : ℕ → Rank → Bool → Start → ℕ → ℕ → Tree → S → S → List Pair → Kind → List ℕ → Flags → Parts → List Pair → Type 0
  Whole o y i f st en m s e P k w g ps Q = Spells ways S Next behind o (expr y i f) (node k w g st en (part m ps)) s e (P ++ Q)

  abbrev pub Here : Rank → Bool → Start → ℕ → ℕ → Tree → S → S → Kind → List ℕ → Flags → Parts → Type 0
  Here y i f st en m s e k w g ps = Placed S Next behind (expr y i f) (node k w g st en (part m ps)) s e

  module _ {o : ℕ} {y : Rank} {i : Bool} {f : Start} {st en : ℕ} {m : Tree} {s mid e : S} {P : List Pair} where
    -- a binary or a logical node
    pub binary_grows : {w : List ℕ} {l : Bool} {z q : Rank} {t : Token} {x : S} {u : Tree} {Q : List Pair} → operator_of w ≡ op_binary l z q → IsTrue (takes y z) → IsTrue (implies (is w "in") i) →
        Spells ways S Next behind o (expr z i f) m s mid P → Reads S Next behind (cond (is_word_operator w) IdentifierName Punctuator) w mid t x → Spells ways S Next behind o (expr q i Any) u x e Q →
        Here y i f st en m s e (cond l LogicalExpression BinaryExpression) w plain (part u none) → Whole o y i f st en m s e P (cond l LogicalExpression BinaryExpression) w plain (part u none) Q
    binary_grows {w = w} {l = false} {z = z} {q = q} op tk im d r k pl = spell S Next behind (joined w z q) (binary (ap is_private (kind_bare m) ∙ no_private d) op) refl tk im (starts_led f (left z) _) pl (within d (step laid (step (token r) (step laid (last_runs k)))))
    binary_grows {w = w} {l = true} {z = z} {q = q} op tk im d r k pl = spell S Next behind (joined w z q) (logical op) refl tk im (starts_led f (left z) _) pl (within d (step laid (step (token r) (step laid (last_runs k)))))

    -- `**`
    pub power_grows : {w : List ℕ} {t : Token} {x : S} {u : Tree} {Q : List Pair} → operator_of w ≡ op_power → IsTrue (takes y Exponentiation) →
        Spells ways S Next behind o (expr Update true f) m s mid P → Reads S Next behind (cond (is_word_operator w) IdentifierName Punctuator) w mid t x → Spells ways S Next behind o (expr Exponentiation true Any) u x e Q →
        Here y i f st en m s e BinaryExpression w plain (part u none) → Whole o y i f st en m s e P BinaryExpression w plain (part u none) Q
    power_grows {w = w} op tk d r k pl =
        spell S Next behind (at Exponentiation (sub (lead Update) ∷ infix_pieces w ++ put (expr Exponentiation true Any) ∷ [])) (power (ap is_private (kind_bare m) ∙ no_private d) op) refl tk refl (starts_led f (lead Update) _) pl
        (within d (step laid (step (token r) (step laid (last_runs k)))))

    -- an assignment to a simple target
    pub assign_grows : {w : List ℕ} {t : Token} {x : S} {u : Tree} {Q : List Pair} → operator_of w ≡ op_assign → is_target (kind_of m) ≡ true → IsTrue (takes y Assignment) →
        Spells ways S Next behind o (expr LeftHandSide true f) m s mid P → Reads S Next behind (cond (is_word_operator w) IdentifierName Punctuator) w mid t x → Spells ways S Next behind o (expr Assignment i Any) u x e Q →
        Here y i f st en m s e AssignmentExpression w plain (part u none) → Whole o y i f st en m s e P AssignmentExpression w plain (part u none) Q
    assign_grows {w = w} op ta tk d r k pl =
        spell S Next behind (at Assignment (sub (lead LeftHandSide) ∷ infix_pieces w ++ sub (tail Assignment Any) ∷ [])) (assign op (ap is_target (kind_bare m) ∙ ta)) refl tk refl (starts_led f (lead LeftHandSide) _) pl
        (within d (step laid (step (token r) (step laid (last_runs k)))))

    -- `++` or `--` behind a simple target, on the same line
    pub postfix_grows : {w : List ℕ} {t : Token} → operator_of w ≡ op_update → is_target (kind_of m) ≡ true → IsTrue (takes y Update) → t.after_break ≡ false →
        Spells ways S Next behind o (expr LeftHandSide true f) m s mid P → Reads S Next behind Punctuator w mid t e → Here y i f st en m s e UpdateExpression w plain none → Whole o y i f st en m s e P UpdateExpression w plain none []
    postfix_grows {w = w} op ta tk nb d r pl =
        spell S Next behind (at Update (sub (lead LeftHandSide) ∷ unbroken ∷ tok Punctuator w ∷ [])) (postfix op (ap is_target (kind_bare m) ∙ ta) refl) refl tk refl (starts_led f (lead LeftHandSide) _) pl
        (within d (step (same_line r.next nb) (step (token r) done)))

    -- two or more expressions with commas between them
    pub sequence_grows : {ps : Parts} {Q : List Pair} → is_none ps ≡ false → IsTrue (takes y Expression) →
        Spells ways S Next behind o (expr Assignment i f) m s mid P → Runs ways S Next behind o (goes_to y i f (sequence (bare_parts ps))) ps mid e Q →
        Here y i f st en m s e SequenceExpression [] plain ps → Whole o y i f st en m s e P SequenceExpression [] plain ps Q
    sequence_grows {ps = ps} h tk d k pl =
        spell S Next behind (at Expression (sub (left Assignment) ∷ sequence (bare_parts ps))) (several (none_bare ps ∙ h)) refl tk refl (starts_led f (left Assignment) _) pl (within d k)

    -- a conditional
    pub conditional_grows : {t v : Token} {a b c : S} {u n : Tree} {Q R : List Pair} → IsTrue (takes y Conditional) → Spells ways S Next behind o (expr ShortCircuit i f) m s mid P →
        Reads S Next behind Punctuator (codes "?") mid t a → Spells ways S Next behind o (expr Assignment true Any) u a b Q →
        Reads S Next behind Punctuator (codes ":") b v c → Spells ways S Next behind o (expr Assignment i Any) n c e R →
        Here y i f st en m s e ConditionalExpression [] plain (part u (part n none)) → Whole o y i f st en m s e P ConditionalExpression [] plain (part u (part n none)) (Q ++ R)
    conditional_grows tk d r k r' k' pl =
        spell S Next behind (at Conditional (sub (left ShortCircuit) ∷ sp ∷ sign "?" ∷ sp ∷ assignment ∷ sp ∷ sign ":" ∷ sp ∷ sub (tail Assignment Any) ∷ [])) conditional refl tk refl (starts_led f (left ShortCircuit) _) pl
        (within d (step laid (step (token r) (step laid (within k (step laid (step (token r') (step laid (last_runs k')))))))))

    -- `.` and a name
    pub dot_grows : {t : Token} {x : S} {u : Tree} {Q : List Pair} → is_super (kind_of m) ≡ false → IsTrue (takes y Member) → Spells ways S Next behind o (expr (callee_rank y) true f) m s mid P →
        Reads S Next behind Punctuator (codes ".") mid t x → Spells ways S Next behind o (property_role (kind_of u)) u x e Q → Here y i f st en m s e MemberExpression [] plain (part u none) → Whole o y i f st en m s e P MemberExpression [] plain (part u none) Q
    dot_grows {x = x} {u = u} {Q = Q} h tk d r k pl =
        spell S Next behind (at Member (sub callee ∷ after_number (bare_parts (part m (part u none))) plain ++ selector plain (kind_of (bare u)))) (member refl (ap is_super (kind_bare m) ∙ h)) refl tk refl (starts_led f callee _) pl
        (within d (lay_runs y i f (selector plain (kind_of (bare u))) (number_laid (bare_parts (part m (part u none))) plain) (step (token r) (last_runs (subst (λ v. Spells ways S Next behind o (property_role v) u x e Q) (sym (kind_bare u)) k)))))

    -- `[` and an expression
    pub index_grows : {t v : Token} {x z : S} {u : Tree} {Q : List Pair} → is_super (kind_of m) ≡ false → IsTrue (takes y Member) → Spells ways S Next behind o (expr (callee_rank y) true f) m s mid P →
        Reads S Next behind Punctuator (codes "[") mid t x → Spells ways S Next behind o (expr Expression true Any) u x z Q → Reads S Next behind Punctuator (codes "]") z v e →
        Here y i f st en m s e MemberExpression [] (record plain { computed = true }) (part u none) → Whole o y i f st en m s e P MemberExpression [] (record plain { computed = true }) (part u none) (Q ++ [])
    index_grows {u = u} h tk d r k r' pl = let g : Flags = record plain { computed = true } in
        spell S Next behind (at Member (sub callee ∷ after_number (bare_parts (part m (part u none))) g ++ selector g (kind_of (bare u)))) (member refl (ap is_super (kind_bare m) ∙ h)) refl tk refl (starts_led f callee _) pl
        (within d (lay_runs y i f (selector g (kind_of (bare u))) (number_laid (bare_parts (part m (part u none))) g) (step (token r) (within k (step (token r') done)))))

    -- arguments
    pub call_grows : {ps : Parts} {Q : List Pair} → is_super (kind_of m) ≡ false → IsTrue (takes y Call) → Spells ways S Next behind o (expr Call true f) m s mid P →
        Runs ways S Next behind o (goes_to y i f (arguments (bare_parts ps))) ps mid e Q → Here y i f st en m s e CallExpression [] plain ps → Whole o y i f st en m s e P CallExpression [] plain ps Q
    call_grows {ps = ps} h tk d k pl =
        spell S Next behind (at Call (sub (lead Call) ∷ arguments (bare_parts ps))) (call refl (ap is_super (kind_bare m) ∙ h)) refl tk refl (starts_led f (lead Call) _) pl (within d k)

    -- a template behind a tag
    pub tag_grows : {u : Tree} {Q : List Pair} → IsTrue (takes y Member) → Spells ways S Next behind o (expr (callee_rank y) true f) m s mid P → Spells ways S Next behind o tagged_quasi u mid e Q →
        Here y i f st en m s e TaggedTemplateExpression [] plain (part u none) → Whole o y i f st en m s e P TaggedTemplateExpression [] plain (part u none) Q
    tag_grows tk d k pl = spell S Next behind (at Member (sub callee ∷ put tagged_quasi ∷ [])) tagged refl tk refl (starts_led f callee _) pl (within d (last_runs k))

  -- a chain, whole
  pub chain_grows : {o : ℕ} {y : Rank} {i : Bool} {f : Start} {st en : ℕ} {m : Tree} {s e : S} {P : List Pair} → first_has_optional (bare_parts (part m none)) ≡ true → IsTrue (takes y LeftHandSide) → Spells ways S Next behind o (chain_part f) m s e P →
      Here y i f st en m s e ChainExpression [] plain none → Whole o y i f st en m s e P ChainExpression [] plain none []
  chain_grows {f = f} h tk d pl = spell S Next behind (at LeftHandSide (sub lead_chain ∷ [])) (chain h) refl tk refl (starts_led f lead_chain _) pl (within d done)

  -- a part of a chain at the position `spine f`: a way of the table that runs
  spell_link : {o : ℕ} {f : Start} {k : Kind} {w : List ℕ} {g : Flags} {st en : ℕ} {ps : Parts} {s e : S} {P : List Pair} (x : Spelling) → Among x (chain_parts k g (bare_parts ps)) → is_lean (bare (node k w g st en ps)) ≡ true →
      Placed S Next behind (chain_part f) (node k w g st en ps) s e → Runs ways S Next behind o (settled (chain_part f) x) ps s e P → Spells ways S Next behind o (chain_part f) (node k w g st en ps) s e P
  unfolding spellings
  spell_link {f = f} {k = k} {w = w} {g = g} {st = st} {en = en} {ps = ps} x h lean pl d =
      direct (settled (chain_part f) x) (way_from (chain_part f) (node k w g st en ps) x lean h (runs_can S Next behind Expression true f x.pieces d)) pl d

  -- what follows in a chain, behind a part of it
  pub link_grows : {o : ℕ} {f : Start} {g : Flags} {st en : ℕ} {m : Tree} {ps : Parts} {s mid e : S} {P Q : List Pair} → first_has_optional (bare_parts (part m ps)) ≡ true → is_lean (bare (node MemberExpression [] g st en (part m ps))) ≡ true →
      Spells ways S Next behind o (chain_part f) m s mid P → Runs ways S Next behind o (goes_to Expression true f (member_link g (lead_kind (bare_parts ps)))) ps mid e Q →
      Placed S Next behind (chain_part f) (node MemberExpression [] g st en (part m ps)) s e → Spells ways S Next behind o (chain_part f) (node MemberExpression [] g st en (part m ps)) s e (P ++ Q)
  link_grows {g = g} {ps = ps} h lean d k pl = spell_link (at Rattle.language.specs.declared.Rank.TheVariants.Primary (sub lead_chain ∷ member_link g (lead_kind (bare_parts ps)))) (in_true _ _ h first) lean pl (within d k)

  pub link_call_grows : {o : ℕ} {f : Start} {g : Flags} {st en : ℕ} {m : Tree} {ps : Parts} {s mid e : S} {P Q : List Pair} → first_has_optional (bare_parts (part m ps)) ≡ true → is_lean (bare (node CallExpression [] g st en (part m ps))) ≡ true →
      Spells ways S Next behind o (chain_part f) m s mid P → Runs ways S Next behind o (goes_to Expression true f (call_link g (bare_parts (part m ps)))) ps mid e Q →
      Placed S Next behind (chain_part f) (node CallExpression [] g st en (part m ps)) s e → Spells ways S Next behind o (chain_part f) (node CallExpression [] g st en (part m ps)) s e (P ++ Q)
  link_call_grows {g = g} {m = m} {ps = ps} h lean d k pl = spell_link (at Rattle.language.specs.declared.Rank.TheVariants.Primary (sub lead_chain ∷ call_link g (bare_parts (part m ps)))) (in_true _ _ h first) lean pl (within d k)

  -- the first link of a chain, behind its base
  pub base_grows : {o : ℕ} {f : Start} {g : Flags} {st en : ℕ} {m : Tree} {ps : Parts} {s mid e : S} {P Q : List Pair} → first_has_optional (bare_parts (part m ps)) ≡ false → g.optional ≡ true → is_lean (bare (node MemberExpression [] g st en (part m ps))) ≡ true →
      Spells ways S Next behind o (expr Call true f) m s mid P → Runs ways S Next behind o (goes_to Expression true f (member_link g (lead_kind (bare_parts ps)))) ps mid e Q →
      Placed S Next behind (chain_part f) (node MemberExpression [] g st en (part m ps)) s e → Spells ways S Next behind o (chain_part f) (node MemberExpression [] g st en (part m ps)) s e (P ++ Q)
  base_grows {g = g} {ps = ps} h o lean d k pl = spell_link (at Rattle.language.specs.declared.Rank.TheVariants.Primary (sub (lead Call) ∷ member_link g (lead_kind (bare_parts ps)))) (in_false _ _ h (in_true _ _ o first)) lean pl (within d k)

  pub base_call_grows : {o : ℕ} {f : Start} {g : Flags} {st en : ℕ} {m : Tree} {ps : Parts} {s mid e : S} {P Q : List Pair} → first_has_optional (bare_parts (part m ps)) ≡ false → g.optional ≡ true → is_lean (bare (node CallExpression [] g st en (part m ps))) ≡ true →
      Spells ways S Next behind o (expr Call true f) m s mid P → Runs ways S Next behind o (goes_to Expression true f (call_link g (bare_parts (part m ps)))) ps mid e Q →
      Placed S Next behind (chain_part f) (node CallExpression [] g st en (part m ps)) s e → Spells ways S Next behind o (chain_part f) (node CallExpression [] g st en (part m ps)) s e (P ++ Q)
  base_call_grows {g = g} {m = m} {ps = ps} h o lean d k pl = spell_link (at Rattle.language.specs.declared.Rank.TheVariants.Primary (sub (lead Call) ∷ call_link g (bare_parts (part m ps)))) (in_false _ _ h (in_true _ _ o first)) lean pl (within d k)
