-- The ways at each symbol, In and start, by the outline, which they don't change.
use Rattle.std.proofs.Common.{◌≡◌, Bool, true, false, cond, List, Option, Some, None, refl, sym, ap, ◌∙◌, subst}
use Rattle.std.specs.Prelude.{option_map}
use Rattle.std.proofs.lemmas.Bool.{false≢true}
use Rattle.tree.specs.Tree.{Tree, node, Parts, kind_of, parts_of}
use Rattle.tree.specs.Uses.{is_lean}
use Rattle.tree.specs.declared.kind.Kind.TheVariants as kind
use Rattle.language.specs.declared.Rank.{Rank}
use Rattle.language.specs.declared.Start.{Start}
use Rattle.language.specs.Pieces.{Role, Slot}
use Rattle.language.specs.Pieces as role
use Rattle.language.specs.Grammar.{ways}
use Rattle.language.specs.Expressions.{first_has_optional}
use Rattle.spelling_table.specs.declared.position.Position.{Position}
use Rattle.spelling_table.specs.declared.position.Position.TheVariants as at
use Rattle.spelling_table.specs.declared.outline.Outline.{Outline}
use Rattle.spelling_table.specs.Outlines.{role_of, tail_slots, parts_after, outline_slots}
use Rattle.spellings.specs.Entries.{entry_at}
use Rattle.spellings.specs.Expressions.{kind_at, chain_outline}
use Rattle.spellings.specs.Others.{member_link}
use Rattle.spelling_table.specs.Productions.{call_link}
use Rattle.spelling_table.specs.declared.position.Slot.TheVariants.{Lead, LeadSpine}
use Rattle.language.specs.declared.Rank.TheVariants.{Call}
use Rattle.spellings.specs.Positions.{outline_at}
use Rattle.spelling_table.specs.Requirements.{fits_outline}
use Rattle.spellings.specs.Spelled.{settled_roles, outlined_roles, roles_by, Verdict}
use Rattle.spellings.specs.Remaining.{left, slots_left, front_left, goes_over}
use Rattle.spellings.specs.Wherever.{NodeSpelling, with_own, spelled_roles, IsSpelledWherever, spine_first, chain_above}
use Rattle.spellings.proofs.Given.{not_lean, no_fit, no_run, all_given}
use Rattle.spellings.proofs.Ways.{position_ways}

abbrev own_at : Rank → Bool → Start → Position → Position
own_at y i f (at.Expression z j x) = at.Expression y i f
own_at y i f (at.ChainPart x) = at.ChainPart f
own_at y i f (at.Pattern b x) = at.Pattern b f
own_at y i f p = p

role-own : (y : Rank) (i : Bool) (f : Start) (p : Position) → role_of (own_at y i f p) ≡ with_own y i f (role_of p)
role-own y i f (at.Expression z j x) = refl
role-own y i f (at.ChainPart x) = refl
role-own y i f (at.Pattern b x) = refl
role-own y i f _ = refl

outline-own : (y : Rank) (i : Bool) (f : Start) (p : Position) (n : Tree) → outline_at (own_at y i f p) n ≡ outline_at p n
outline-own y i f (at.Expression z j x) n = refl
outline-own y i f (at.ChainPart x) n = refl
outline-own y i f (at.Pattern b x) n = refl
outline-own y i f _ n = refl

wherever_by : (p : Position) (n : Tree) (F : Role → Option (List Role)) → ((b : Role) → roles_by b n (outline_at p n) ≡ F b) → (y : Rank) (i : Bool) (f : Start) →
    Verdict (ways (with_own y i f (role_of p)) n) (F (with_own y i f (role_of p)))
wherever_by p n F h y i f =
    let q = own_at y i f p in
    let v : Verdict (ways (role_of q) n) (roles_by (role_of q) n (outline_at q n)) = position_ways q n in
    let e : roles_by (role_of q) n (outline_at q n) ≡ F (role_of q) = ap (roles_by (role_of q) n) (outline-own y i f p n) ∙ h (role_of q) in
    let w : Verdict (ways (role_of q) n) (F (role_of q)) = subst (Verdict (ways (role_of q) n)) e v in
    let P : Role → Type 0 = λ b. Verdict (ways b n) (F b) in
    subst P (role-own y i f p) w

wherever : (p : Position) (n : Tree) (r : Option NodeSpelling) → ((b : Role) → roles_by b n (outline_at p n) ≡ spelled_roles b r) → IsSpelledWherever (role_of p) n r
wherever p n r h = wherever_by p n (λ b. spelled_roles b r) h

pub nowhere_without_outline : (p : Position) (n : Tree) → outline_at p n ≡ None → IsSpelledWherever (role_of p) n None
nowhere_without_outline p n e = wherever p n None (λ b. ap (roles_by b n) e ∙ of (is_lean n))
  where
    of : (v : Bool) → cond v (outlined_roles (role_of p) (parts_of n) None) None ≡ None
    of true = refl
    of false = refl

pub nowhere_unless_lean : (p : Position) (n : Tree) → is_lean n ≡ false → IsSpelledWherever (role_of p) n None
nowhere_unless_lean p n h = wherever p n None (λ b. not_lean b n (outline_at p n) h)

pub nowhere_unless_over : (p : Position) (n : Tree) (x : Outline) → outline_at p n ≡ Some x → goes_over (tail_slots x.tail (parts_after x.from (parts_of n))) ≡ false → IsSpelledWherever (role_of p) n None
nowhere_unless_over p n x e h = wherever p n None (λ b. ap (roles_by b n) e ∙ no_run b n x h)

abbrev slots_of : Outline → Tree → List Slot
slots_of x n = front_left x.front (slots_left x.tail (parts_after x.from (parts_of n)))

known : (n : Tree) (x : Outline) → is_lean n ≡ true → goes_over (tail_slots x.tail (parts_after x.from (parts_of n))) ≡ true →
    (b : Role) (v : Bool) → fits_outline b x ≡ v → roles_by b n (Some x) ≡ cond v (Some (settled_roles b (slots_of x n))) None
known n x l h b true f = all_given b n x l f h
known n x l h b false f = no_fit b n x f

pub spelled_wherever : (p : Position) (n : Tree) (x : NodeSpelling) → outline_at p n ≡ Some x.outline → is_lean n ≡ true →
    goes_over (tail_slots x.outline.tail (parts_after x.outline.from (parts_of n))) ≡ true → left x.slots ≡ slots_of x.outline n → IsSpelledWherever (role_of p) n (Some x)
spelled_wherever p n x e l h s = wherever p n (Some x) (λ b.
    ap (roles_by b n) e ∙ known n x.outline l h b (fits_outline b x.outline) refl ∙ ap (λ u. cond (fits_outline b x.outline) (Some (settled_roles b u)) None) (sym s))

abbrev first_of : Option Outline → Bool
first_of None = false
first_of (Some x) = spine_first x.front

spine_known : (o b : Bool) (y z : Outline) (x : Outline) → first_of (Some z) ≡ false → cond b (Some y) (cond o (Some z) None) ≡ Some x → first_of (Some x) ≡ true → b ≡ true
spine_known o true y z x f h k = refl
spine_known true false y z x f h k = absurd (false≢true (sym f ∙ ap first_of h ∙ k))
spine_known false false y z x f h k = absurd (cc)

chain_is : (b : Bool) (x : Outline) → chain_outline b ≡ Some x → b ≡ true
chain_is true x h = refl
chain_is false x h = absurd (cc)

none_is_some : (x : Outline) → None ≡ Some x → ⊥
none_is_some x h = cc

-- what is above parts of a chain
pub chain_known : (p : Position) (n : Tree) (x : Outline) → outline_at p n ≡ Some x → chain_above p (kind_of n) x.front ≡ true → first_has_optional (parts_of n) ≡ true
chain_known (at.Expression y i f) (node kind.ChainExpression w g s e ps) x h k = chain_is (first_has_optional ps) x h
chain_known (at.Expression y i f) (node _ w g s e ps) x h k = absurd (false≢true k)
chain_known (at.ChainPart f) (node kind.MemberExpression w g s e ps) x h k = spine_known g.optional (first_has_optional ps) (member_link LeadSpine g (kind_at (entry_at ps 1))) (member_link (Lead Call) g (kind_at (entry_at ps 1))) x refl h k
chain_known (at.ChainPart f) (node kind.CallExpression w g s e ps) x h k = spine_known g.optional (first_has_optional ps) (call_link LeadSpine) (call_link (Lead Call)) x refl h k
chain_known (at.ChainPart f) (node _ w g s e ps) x h k = absurd (none_is_some x h)
chain_known _ n x h k = absurd (false≢true k)

-- Any node at any position

abbrev pub found_roles : Role → Option (Outline × List Slot) → Option (List Role)
found_roles a None = None
found_roles a (Some x) = cond (fits_outline a x.0) (Some (settled_roles a x.1)) None

-- the outline and the slots of a node, and what they say of its ways
pub record AnySpelling (a : Role) (n : Tree) : Type 0 where
  pub found : Option (Outline × List Slot)
  pub known : (y : Rank) (i : Bool) (f : Start) → Verdict (ways (with_own y i f a) n) (found_roles (with_own y i f a) found)

abbrev found_at : Bool → Option Outline → Parts → Option (Outline × List Slot)
found_at false o ps = None
found_at true None ps = None
found_at true (Some x) ps = option_map (λ xs. (x, xs)) (outline_slots x ps)

cond_none : (v : Bool) (o : Option (List Role)) → o ≡ None → cond v o None ≡ None
cond_none true o h = h
cond_none false o h = refl

roles-found : (b : Role) (l : Bool) (o : Option Outline) (ps : Parts) → cond l (outlined_roles b ps o) None ≡ found_roles b (found_at l o ps)
roles-found b false o ps = refl
roles-found b true None ps = refl
roles-found b true (Some x) ps = of (outline_slots x ps)
  where
    of : (v : Option (List Slot)) → cond (fits_outline b x) (option_map (settled_roles b) v) None ≡ found_roles b (option_map (λ xs. (x, xs)) v)
    of None = cond_none (fits_outline b x) None refl
    of (Some xs) = refl

abbrev pub position_of : Role → Position
position_of (role.expr y i f) = at.Expression y i f
position_of (role.chain_part f) = at.ChainPart f
position_of role.name = at.Name
position_of role.word = at.IdentifierName
position_of role.key = at.PropertyName
position_of role.shorthand_key = at.ShorthandKey
position_of role.base = at.Super
position_of role.directive_string = at.DirectiveString
position_of role.tagged_quasi = at.TaggedQuasi
position_of (role.template_element a b) = at.TemplateElement a b
position_of role.spread = at.Spread
position_of role.property = at.Property
position_of (role.pattern b f) = at.Pattern b f
position_of (role.pattern_property b) = at.PatternProperty b
position_of (role.element b) = at.Element b
position_of (role.rest b o) = at.Rest b o
position_of (role.method x) = at.Method x
position_of role.body = at.Body
position_of (role.statement r) = at.Statement r
position_of (role.item r) = at.StatementListItem r
position_of (role.opening r) = at.PrologueItem r
position_of (role.block r) = at.Block r
position_of (role.head b) = at.ForDeclaration b
position_of (role.declarator i b) = at.Declarator i b
position_of (role.switch_case r) = at.SwitchCase r
position_of (role.handler r) = at.CatchClause r
position_of role.class_body = at.ClassBody
position_of role.member = at.Member
position_of role.private_name = at.PrivateName
position_of role.module_item = at.ModuleItem
position_of role.specifier = at.Specifier
position_of role.default_item = at.DefaultItem
position_of role.script = at.Script

pub role-position : (a : Role) → role_of (position_of a) ≡ a
role-position (role.expr y i f) = refl
role-position (role.chain_part f) = refl
role-position (role.pattern b f) = refl
role-position _ = refl

pub any_spelling : (a : Role) (n : Tree) → AnySpelling a n
any_spelling a n =
    let p = position_of a in
    let x = found_at (is_lean n) (outline_at p n) (parts_of n) in
    let P : Role → Type 0 = λ u. (y : Rank) (i : Bool) (f : Start) → Verdict (ways (with_own y i f u) n) (found_roles (with_own y i f u) x) in
    record {
      found = x;
      known = subst P (role-position a) (wherever_by p n (λ b. found_roles b x) (λ b. roles-found b (is_lean n) (outline_at p n) (parts_of n)));
    }
