-- What asks for no In and opens with no brace and no word: where its symbol may stand and it has no pairs inside, it costs nothing.
use Rattle.std.proofs.Common.{◌≡◌, Bool, true, false, cond, nat_le, ◌&&◌, Some, None, refl, sym, ap, ◌∙◌}
use Rattle.std.specs.Prelude.{not}
use Rattle.std.proofs.lemmas.Bool.{false≢true}
use Rattle.tree.specs.Uses.{implies}
use Rattle.language.specs.declared.Rank.{Rank}
use Rattle.language.specs.declared.Rank.TheVariants as rank
use Rattle.language.specs.declared.Start.{Start}
use Rattle.language.specs.declared.Start.TheVariants as start
use Rattle.language.specs.Vocabulary.{takes, precedence}
use Rattle.language.specs.Cost.{lesser}
use Rattle.language.specs.Grammar.{own_rank}
use Rattle.language.specs.Pieces.{Role, Slot, is_tight}
use Rattle.language.specs.Pieces as role
use Rattle.spelling_table.specs.declared.outline.FirstToken.{FirstToken}
use Rattle.spelling_table.specs.declared.outline.FirstToken.TheVariants as opens
use Rattle.spelling_table.specs.declared.outline.Outline.{Outline}
use Rattle.spelling_table.specs.Outlines.{opens_at}
use Rattle.spelling_table.specs.Requirements.{fits_outline}
use Rattle.spellings.specs.Wherever.{with_own}
use Rattle.cost_table.specs.declared.costs.Costs as own
use Rattle.cost_table.specs.declared.costs.StartCosts.{StartCosts}
use Rattle.cost_table.specs.Costs.{each, each_start, started_at, cost_at, capped_sum, no_pairs}
use Rattle.cost_table.specs.Weighed.{least_of, settled_at, uses, fitting, is_otherwise, is_plain_outline, role_free, slot_free}
use Rattle.cost_table.specs.declared.packed_row.FilledStarts.TheVariants.{Each, Nowhere}
use Rattle.cost_table.specs.declared.node_costs.NodeCosts.{NodeCosts}
use Rattle.cost_table.specs.Packed.{shaped, free_shape}
use Rattle.cost_table.proofs.Known.{takes_all, takes_tight}
use Rattle.cost_table.proofs.Free.{zero_at, zero_or_one}

plain_opens : (n : Bool) (o : FirstToken) → (not n && is_otherwise o) ≡ true → (i : Bool) (f : Start) → (implies n i && opens_at f o) ≡ true
plain_opens false opens.Other h i start.Any = refl
plain_opens false opens.Other h i start.NoBrace = refl
plain_opens false opens.Other h i start.Statement = refl
plain_opens false opens.Brace h i f = absurd (false≢true h)
plain_opens false opens.FunctionOrClass h i f = absurd (false≢true h)
plain_opens true o h i f = absurd (false≢true h)

plain_start : (n : Bool) (o : FirstToken) → (not n && is_otherwise o) ≡ true → (f : Start) → opens_at f o ≡ true
plain_start false opens.Other h start.Any = refl
plain_start false opens.Other h start.NoBrace = refl
plain_start false opens.Other h start.Statement = refl
plain_start false opens.Brace h f = absurd (false≢true h)
plain_start false opens.FunctionOrClass h f = absurd (false≢true h)
plain_start true o h f = absurd (false≢true h)

pub plain_fits : (x : Outline) → is_plain_outline x ≡ true → (r : Role) → role_free r x.rank ≡ true → fits_outline r x ≡ true
plain_fits x p (role.expr y i f) t = ap (λ b. b && (implies x.needs_in i && opens_at f x.opens)) t ∙ plain_opens x.needs_in x.opens p i f
plain_fits x p (role.pattern b f) t = plain_start x.needs_in x.opens p f
plain_fits x p r t = refl

fits_own : (x : Outline) → is_plain_outline x ≡ true → (a : Role) (y : Rank) (i : Bool) (f : Start) → takes y x.rank ≡ true → fits_outline (with_own y i f a) x ≡ true
fits_own x p (role.expr z j g) y i f t = plain_fits x p (role.expr y i f) t
fits_own x p (role.chain_part g) y i f t = refl
fits_own x p (role.pattern b g) y i f t = plain_fits x p (role.pattern b f) refl
fits_own x p a y i f t = refl

started_free : (x : Outline) → is_plain_outline x ≡ true → (a : Role) (y : Rank) (i : Bool) → takes y x.rank ≡ true → (f : Start) → started_at (each_start (λ g. cond (fits_outline (with_own y i g a) x) (cost_at no_pairs y i g) None)) f ≡ Some 0
started_free x p a y i t start.Any = ap (λ b. cond b (cost_at no_pairs y i start.Any) None) (fits_own x p a y i start.Any t) ∙ zero_at y i start.Any
started_free x p a y i t start.NoBrace = ap (λ b. cond b (cost_at no_pairs y i start.NoBrace) None) (fits_own x p a y i start.NoBrace t) ∙ zero_at y i start.NoBrace
started_free x p a y i t start.Statement = ap (λ b. cond b (cost_at no_pairs y i start.Statement) None) (fits_own x p a y i start.Statement t) ∙ zero_at y i start.Statement

pub cost_free : (x : Outline) → is_plain_outline x ≡ true → (a : Role) (y : Rank) (i : Bool) (f : Start) → takes y x.rank ≡ true → cost_at (fitting a x no_pairs) y i f ≡ Some 0
cost_free x p a y i f t = of (nat_le 21 (precedence y)) refl i
  where
    of : (b : Bool) → nat_le 21 (precedence y) ≡ b → (j : Bool) → cond b (started_at (fitting a x no_pairs).at_member f) (cond j (started_at (fitting a x no_pairs).has_in f) (started_at (fitting a x no_pairs).without_in f)) ≡ Some 0
    of true e j = started_free x p a rank.Member true (takes_tight y x.rank e t) f
    of false e true = started_free x p a rank.Expression true (takes_all x.rank) f
    of false e false = started_free x p a rank.Expression false (takes_all x.rank) f

plain_least : (x : Outline) → is_plain_outline x ≡ true → (a r : Role) → role_free r x.rank ≡ true → least_of (record { outline = Some x; costs = fitting a x no_pairs }) r ≡ Some 0
plain_least x p a (role.expr y i f) t =
    ap (λ b. lesser (cond b (cost_at (fitting a x no_pairs) y i f) None) (capped_sum (Some 1) (fitting a x no_pairs).has_in.any)) (plain_fits x p (role.expr y i f) t)
    ∙ ap (λ c. lesser c (capped_sum (Some 1) (fitting a x no_pairs).has_in.any)) (cost_free x p a y i f t)
    ∙ ap (λ c. lesser (Some 0) (capped_sum (Some 1) c)) (started_free x p a rank.Expression true (takes_all x.rank) start.Any) ∙ zero_or_one
plain_least x p a (role.chain_part f) t = started_free x p a rank.Expression true (takes_all x.rank) f
plain_least x p a (role.pattern b f) t =
    ap (λ u. cond u (started_at (fitting a x no_pairs).has_in f) None) (plain_fits x p (role.pattern b f) t) ∙ started_free x p a rank.Expression true (takes_all x.rank) f
plain_least x p a r t = started_free x p a rank.Expression true (takes_all x.rank) start.Any

call_takes : (z : Rank) → takes rank.Member z ≡ true → takes rank.Call z ≡ true
call_takes rank.Member h = refl
call_takes rank.Primary h = refl
call_takes rank.Grouped h = refl
call_takes rank.Call h = refl
call_takes _ h = absurd (false≢true h)

pub settled_free : (s : Slot) (z : Rank) → slot_free s z ≡ true → (b : Role) → role_free (settled_at b s) z ≡ true
settled_free (role.fixed a) z t b = t
settled_free (role.left y) z t b = t
settled_free (role.lead y) z t b = t
settled_free (role.tail y x) z t b = t
settled_free role.callee z t b = of (is_tight (own_rank b))
  where
    of : (c : Bool) → takes (cond c rank.Member rank.Call) z ≡ true
    of true = t
    of false = call_takes z t
settled_free role.lead_chain z t b = refl
settled_free role.lead_pattern z t b = refl

-- it costs nothing at such a slot, wherever the node above stands
pub plain_uses : (s : Slot) (x : Outline) (a : Role) → is_plain_outline x ≡ true → slot_free s x.rank ≡ true → (b : Role) → uses b s (record { outline = Some x; costs = fitting a x no_pairs }) ≡ no_pairs
plain_uses s x a p t b = λ j. each (λ y i f. plain_least x p a (settled_at (with_own y i f b) s) (settled_free s x.rank t (with_own y i f b)) j)

-- What its numbers are

starts_fit : (s : StartCosts) (g : Start → Bool) (b : Bool) → ((f : Start) → g f ≡ b) → each_start (λ f. cond (g f) (started_at s f) None) ≡ cond b s (each_start (λ f. None))
starts_fit s g true h = λ j. each_start (λ f. cond (h f j) (started_at s f) None)
starts_fit s g false h = λ j. each_start (λ f. cond (h f j) (started_at s f) None)

member_fits : (x : Outline) → is_plain_outline x ≡ true → (a : Role) (f : Start) → fits_outline (with_own rank.Member true f a) x ≡ fits_outline (with_own rank.Member true start.Any a) x
member_fits x p (role.expr z j g) f = ap (λ b. takes rank.Member x.rank && b) (plain_opens x.needs_in x.opens p true f ∙ sym (plain_opens x.needs_in x.opens p true start.Any))
member_fits x p (role.pattern b g) f = plain_start x.needs_in x.opens p f
member_fits x p a f = refl

pub plain_fitting : (x : Outline) (a : Role) (c : own.Costs) (b : Bool) → is_plain_outline x ≡ true → fits_outline (with_own rank.Member true start.Any a) x ≡ b →
    fitting a x c ≡ record { has_in = c.has_in; without_in = c.without_in; at_member = cond b c.at_member (each_start (λ f. None)) }
plain_fitting x a c b p h = λ j. record {
  has_in = starts_fit c.has_in (λ f. fits_outline (with_own rank.Expression true f a) x) true (λ f. fits_own x p a rank.Expression true f (takes_all x.rank)) j;
  without_in = starts_fit c.without_in (λ f. fits_outline (with_own rank.Expression false f a) x) true (λ f. fits_own x p a rank.Expression false f (takes_all x.rank)) j;
  at_member = starts_fit c.at_member (λ f. fits_outline (with_own rank.Member true f a) x) b (λ f. member_fits x p a f ∙ h) j;
}

-- Its row, where its parts cost nothing

free_shaped : (z : Rank) → record { has_in = no_pairs.has_in; without_in = no_pairs.without_in; at_member = cond (takes rank.Member z) no_pairs.at_member (each_start (λ f. None)) } ≡ shaped (free_shape z) 0
free_shaped z = of (takes rank.Member z)
  where
    of : (b : Bool) → record { has_in = no_pairs.has_in; without_in = no_pairs.without_in; at_member = cond b no_pairs.at_member (each_start (λ f. None)) } ≡ shaped (record { has_in = Each; without_in = Each; at_member = cond b Each Nowhere }) 0
    of true = refl
    of false = refl

and_all : (b c : Bool) → c ≡ true → (b && c) ≡ b
and_all true c h = h
and_all false c h = refl

pub free_costs : (x : Outline) → is_plain_outline x ≡ true → fitting (role.expr rank.Expression true start.Any) x no_pairs ≡ shaped (free_shape x.rank) 0
free_costs x p =
    plain_fitting x (role.expr rank.Expression true start.Any) no_pairs (takes rank.Member x.rank) p (and_all (takes rank.Member x.rank) (implies x.needs_in true && opens_at start.Any x.opens) (plain_opens x.needs_in x.opens p true start.Any))
    ∙ free_shaped x.rank

-- A part with such costs, whatever is known of it

pub free_uses : (s : Slot) (w : NodeCosts) (x : Outline) → w.outline ≡ Some x → is_plain_outline x ≡ true → slot_free s x.rank ≡ true → w.costs ≡ shaped (free_shape x.rank) 0 → (b : Role) → uses b s w ≡ no_pairs
free_uses s w x o p t h b =
    let known : w ≡ record { outline = Some x; costs = fitting (role.expr rank.Expression true start.Any) x no_pairs } = λ j. record { outline = o j; costs = (h ∙ sym (free_costs x p)) j } in
    ap (uses b s) known ∙ plain_uses s x (role.expr rank.Expression true start.Any) p t b
