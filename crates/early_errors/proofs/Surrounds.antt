-- What holds round the parts of a node that is nothing special.
use Rattle.std.proofs.Common.{◌≡◌, is_some, ◌⊎◌, inl, inr, Bool, true, false, refl, sym, ap, ◌∙◌}
use Rattle.std.specs.Prelude.{◌||◌}
use Rattle.std.proofs.lemmas.Bool.{false≢true}
use Rattle.tree.specs.declared.kind.Kind.{Kind}
use Rattle.tree.specs.declared.kind.Kind.TheVariants.{Property, PropertyDefinition, StaticBlock, MemberExpression, BreakStatement, ContinueStatement, FunctionExpression, ArrowFunctionExpression, ClassExpression, ClassBody, MethodDefinition, TaggedTemplateExpression, LabeledStatement, SwitchStatement, ForInStatement, ForOfStatement, FunctionDeclaration, ClassDeclaration}
use Rattle.tree.specs.declared.kind.Flags.{Flags}
use Rattle.tree.specs.Tree.{Parts, none, part, gap, part_at}
use Rattle.early_errors.specs.declared.around.Context.{Context as Code}
use Rattle.early_errors.specs.Around.{is_loop, around_first, around_others, as_word, has_heritage, in_init, key_of, within}
use Rattle.language.specs.FirstPart.{others}
use Rattle.early_errors.specs.Owns.{Beside, round, unlabelled, inner_beside, first_beside, first_part}
use Rattle.early_errors.specs.declared.around.FirstPart.{FirstPart}
use Rattle.early_errors.specs.declared.around.FirstPart.TheVariants as first

or_false : (b : Bool) → (b || false) ≡ b
or_false true = refl
or_false false = refl

-- what holds round a part that is nothing special, by the program's own record
abbrev pub HandsDown : Code → Code → Type 0
HandsDown a w = (r : Beside) → round w r ≡ within (round a r)

pub plain_surrounds : (a w : Code) (k : Kind) (b : Bool) (r : Beside) (g : Flags) (ps : Parts) → HandsDown a w → b ≡ (a.in_loop || is_loop k) →
    (k ≡ FunctionDeclaration → ⊥) → (k ≡ FunctionExpression → ⊥) → (k ≡ ArrowFunctionExpression → ⊥) → (k ≡ MethodDefinition → ⊥) → (k ≡ PropertyDefinition → ⊥) → (k ≡ StaticBlock → ⊥) → (k ≡ Property → ⊥) → (k ≡ MemberExpression → ⊥) → (k ≡ ClassExpression → ⊥) → (k ≡ ClassDeclaration → ⊥) → (k ≡ ClassBody → ⊥) → (k ≡ SwitchStatement → ⊥) → (k ≡ TaggedTemplateExpression → ⊥) → record (round w (inner_beside k g ps r)) { in_loop = b } ≡ around_others (round a r) k g ps
plain_surrounds a w FunctionDeclaration b r g ps h e n1 n2 n3 n4 n5 n6 n7 n8 n9 n10 n11 n12 n13 = absurd (n1 refl)
plain_surrounds a w FunctionExpression b r g ps h e n1 n2 n3 n4 n5 n6 n7 n8 n9 n10 n11 n12 n13 = absurd (n2 refl)
plain_surrounds a w ArrowFunctionExpression b r g ps h e n1 n2 n3 n4 n5 n6 n7 n8 n9 n10 n11 n12 n13 = absurd (n3 refl)
plain_surrounds a w MethodDefinition b r g ps h e n1 n2 n3 n4 n5 n6 n7 n8 n9 n10 n11 n12 n13 = absurd (n4 refl)
plain_surrounds a w PropertyDefinition b r g ps h e n1 n2 n3 n4 n5 n6 n7 n8 n9 n10 n11 n12 n13 = absurd (n5 refl)
plain_surrounds a w StaticBlock b r g ps h e n1 n2 n3 n4 n5 n6 n7 n8 n9 n10 n11 n12 n13 = absurd (n6 refl)
plain_surrounds a w Property b r g ps h e n1 n2 n3 n4 n5 n6 n7 n8 n9 n10 n11 n12 n13 = absurd (n7 refl)
plain_surrounds a w MemberExpression b r g ps h e n1 n2 n3 n4 n5 n6 n7 n8 n9 n10 n11 n12 n13 = absurd (n8 refl)
plain_surrounds a w ClassExpression b r g ps h e n1 n2 n3 n4 n5 n6 n7 n8 n9 n10 n11 n12 n13 = absurd (n9 refl)
plain_surrounds a w ClassDeclaration b r g ps h e n1 n2 n3 n4 n5 n6 n7 n8 n9 n10 n11 n12 n13 = absurd (n10 refl)
plain_surrounds a w ClassBody b r g ps h e n1 n2 n3 n4 n5 n6 n7 n8 n9 n10 n11 n12 n13 = absurd (n11 refl)
plain_surrounds a w SwitchStatement b r g ps h e n1 n2 n3 n4 n5 n6 n7 n8 n9 n10 n11 n12 n13 = absurd (n12 refl)
plain_surrounds a w TaggedTemplateExpression b r g ps h e n1 n2 n3 n4 n5 n6 n7 n8 n9 n10 n11 n12 n13 = absurd (n13 refl)
plain_surrounds a w LabeledStatement b r g ps h e n1 n2 n3 n4 n5 n6 n7 n8 n9 n10 n11 n12 n13 =
    λ i. record (h (inner_beside LabeledStatement g ps r) i) { in_loop = (e ∙ or_false a.in_loop) i }
plain_surrounds a w k b r g ps h e n1 n2 n3 n4 n5 n6 n7 n8 n9 n10 n11 n12 n13 = λ i. record (h r i) { in_loop = e i }

-- of the parts of a class
pub class_surrounds : (a w : Code) (k : Kind) (b : Bool) (r : Beside) (g : Flags) (ps : Parts) → HandsDown a w → has_heritage (others ps) ≡ b →
    (k ≡ ClassExpression) ⊎ (k ≡ ClassDeclaration) → record (round w (inner_beside k g ps r)) { derived = b } ≡ around_others (round a r) k g ps
class_surrounds a w k b r g ps h e (inl x) =
    (λ i. record (round w (inner_beside (x i) g ps r)) { derived = b }) ∙ (λ i. record (h r i) { derived = sym e i }) ∙ sym (λ i. around_others (round a r) (x i) g ps)
class_surrounds a w k b r g ps h e (inr x) =
    (λ i. record (round w (inner_beside (x i) g ps r)) { derived = b }) ∙ (λ i. record (h r i) { derived = sym e i }) ∙ sym (λ i. around_others (round a r) (x i) g ps)

-- of the value of a field, or the items of a static block
pub init_surrounds : (a w : Code) (k : Kind) (r : Beside) (g : Flags) (ps : Parts) → round w (unlabelled r) ≡ in_init (round a r) → (k ≡ PropertyDefinition) ⊎ (k ≡ StaticBlock) →
    round w (inner_beside k g ps r) ≡ around_others (round a r) k g ps
init_surrounds a w k r g ps h (inl x) = (λ i. round w (inner_beside (x i) g ps r)) ∙ h ∙ sym (λ i. around_others (round a r) (x i) g ps)
init_surrounds a w k r g ps h (inr x) = (λ i. round w (inner_beside (x i) g ps r)) ∙ h ∙ sym (λ i. around_others (round a r) (x i) g ps)

-- of the first part
abbrev is_plain : FirstPart → Bool
is_plain first.Plain = true
is_plain _ = false

abbrev is_a_word : FirstPart → Bool
is_a_word first.Word = true
is_a_word _ = false

abbrev is_key : FirstPart → Bool
is_key first.Key = true
is_key _ = false

abbrev is_head : FirstPart → Bool
is_head first.Head = true
is_head _ = false

abbrev is_like : FirstPart → Bool
is_like first.LikeOthers = true
is_like _ = false

pub first_surrounds : (a w : Code) (k : Kind) (r : Beside) (g : Flags) (ps : Parts) → HandsDown a w → first_part k ≡ first.Plain → round w (first_beside k g ps r) ≡ around_first (round a r) k g ps
first_surrounds a w MemberExpression r g ps h e = h r
first_surrounds a w TaggedTemplateExpression r g ps h e = h r
first_surrounds a w k r g ps h e = absurd (false≢true (ap is_plain e))

pub word_surrounds : (a w : Code) (k : Kind) (r : Beside) (g : Flags) (ps : Parts) → ((r : Beside) → round w r ≡ as_word (round a r)) → first_part k ≡ first.Word →
    round w (first_beside k g ps r) ≡ around_first (round a r) k g ps
word_surrounds a w LabeledStatement r g ps h e = h r
word_surrounds a w BreakStatement r g ps h e = h r
word_surrounds a w ContinueStatement r g ps h e = h r
word_surrounds a w k r g ps h e = absurd (false≢true (ap is_a_word e))

pub key_surrounds : (a w : Code) (k : Kind) (c : Bool) (r : Beside) (g : Flags) (ps : Parts) → ((r : Beside) → round w r ≡ key_of (round a r) c) → first_part k ≡ first.Key → g.computed ≡ c →
    round w (first_beside k g ps r) ≡ around_first (round a r) k g ps
key_surrounds a w MethodDefinition c r g ps h e d = h r ∙ ap (key_of (round a r)) (sym d)
key_surrounds a w PropertyDefinition c r g ps h e d = h r ∙ ap (key_of (round a r)) (sym d)
key_surrounds a w Property c r g ps h e d = h r ∙ ap (key_of (round a r)) (sym d)
key_surrounds a w k c r g ps h e d = absurd (false≢true (ap is_key e))

pub head_surrounds : (a w : Code) (k : Kind) (r : Beside) (g : Flags) (ps : Parts) → HandsDown a w → first_part k ≡ first.Head →
    record (round w (first_beside k g ps r)) { in_head = true } ≡ around_first (round a r) k g ps
head_surrounds a w ForInStatement r g ps h e = λ i. record (h r i) { in_head = true }
head_surrounds a w ForOfStatement r g ps h e = λ i. record (h r i) { in_head = true }
head_surrounds a w k r g ps h e = absurd (false≢true (ap is_head e))

pub like_surrounds : (a o : Code) (k : Kind) (r : Beside) (g : Flags) (ps : Parts) → first_part k ≡ first.LikeOthers → round o (inner_beside k g ps r) ≡ around_others (round a r) k g ps →
    round o (first_beside k g ps r) ≡ around_first (round a r) k g ps
like_surrounds a o MethodDefinition r g ps e h = absurd (false≢true (ap is_like e))
like_surrounds a o PropertyDefinition r g ps e h = absurd (false≢true (ap is_like e))
like_surrounds a o Property r g ps e h = absurd (false≢true (ap is_like e))
like_surrounds a o MemberExpression r g ps e h = absurd (false≢true (ap is_like e))
like_surrounds a o LabeledStatement r g ps e h = absurd (false≢true (ap is_like e))
like_surrounds a o BreakStatement r g ps e h = absurd (false≢true (ap is_like e))
like_surrounds a o ContinueStatement r g ps e h = absurd (false≢true (ap is_like e))
like_surrounds a o TaggedTemplateExpression r g ps e h = absurd (false≢true (ap is_like e))
like_surrounds a o ForInStatement r g ps e h = absurd (false≢true (ap is_like e))
like_surrounds a o ForOfStatement r g ps e h = absurd (false≢true (ap is_like e))
like_surrounds a o k r g ps e h = h

pub second-stands : (ps : Parts) → has_heritage (others ps) ≡ is_some (part_at ps 1)
second-stands none = refl
second-stands (part t none) = refl
second-stands (part t (part u ps)) = refl
second-stands (part t (gap ps)) = refl
second-stands (gap none) = refl
second-stands (gap (part u ps)) = refl
second-stands (gap (gap ps)) = refl
