-- Sets of private names, as loops fill them, and what is told by them.
use Rattle.std.proofs.Common.{◌≡◌, ℕ, ◌+◌, ◌<◌, ◌≤◌, List, [], ◌∷◌, ◌++◌, Bool, true, false, Option, Some, None, length, drop, refl, sym, ap, ◌∙◌}
use Rattle.std.specs.Prelude.{◌||◌, cond}
use Rattle.std.specs.List.{list_any}
use Rattle.std.specs.Str.{bytes_eq}
use Rattle.std.proofs.lemmas.List.{drop_all}
use Rattle.std.proofs.lemmas.List.Folds.{list_any-append}
use Rattle.name_tables.specs.BoundNames.{each_part}
use Rattle.name_tables.specs.PatternParts.{at_part}
use Rattle.name_tables.specs.Sets.{contains}
use Rattle.name_tables.proofs.EachPart.{drop-step, drop-past}
use Rattle.tree.specs.declared.kind.Form.{Form}
use Rattle.tree.specs.Tree.{Tree, Parts, none, part, gap, flags_of, text_of, part_at, part_count, parts_drop}
use Rattle.private_members.specs.Found.{is_named, is_used, is_accessor, of_key, of_member, report_unless}
use Rattle.private_members.specs.Sets.{Knows, is_known, key_at}
use Rattle.private_members.specs.declared.members.UsedNames.{UsedNames}
use Rattle.private_members.specs.Uses.{Use, declared_names, free, has_name, name_of, private_key}

pub or-nothing : (b : Bool) → (b || false) ≡ b
or-nothing true = refl
or-nothing false = refl

-- the end of a loop that puts in what passes a test
pub any-end : {X : Type 0} (p : X → Bool) (xs : List X) (i : ℕ) (old total : Bool) → length xs ≤ i → (old || list_any p (drop i xs)) ≡ total → old ≡ total
any-end p xs i old total l so = sym (or-nothing old) ∙ ap (λ ys. old || list_any p ys) (sym (drop_all i xs l)) ∙ so

-- what the sets tell is what the uses tell
pub known-is : (x : UsedNames) (us : List Use) → Knows x us → (form : Form) (name : List ℕ) → is_known x form name ≡ is_used us form name
known-is x us k form name = ap (λ b. cond (is_accessor form) b (contains x.read name)) (k name).0 ∙ ap (λ b. cond (is_accessor form) (is_named us name) b) (k name).1

key-same : (f g : Form → List ℕ → Bool) → ((form : Form) (name : List ℕ) → f form name ≡ g form name) → (form : Form) (key : Option Tree) → of_key f form key ≡ of_key g form key
key-same f g same form None = refl
key-same f g same form (Some key) = ap (λ b. report_unless b key) (same form (text_of key))

pub members-same : (f g : Form → List ℕ → Bool) → ((form : Form) (name : List ℕ) → f form name ≡ g form name) → (ps : Parts) → each_part (of_member f) ps ≡ each_part (of_member g) ps
members-same f g same none = refl
members-same f g same (part t ps) =
    ap (λ l. l ++ each_part (of_member f) ps) (key-same f g same (flags_of t).form (private_key t)) ∙ ap (λ l. of_member g t ++ l) (members-same f g same ps)
members-same f g same (gap ps) = members-same f g same ps

pub free-same : (f g : List ℕ → Bool) → ((w : List ℕ) → f w ≡ g w) → (us : List Use) → free f us ≡ free g us
free-same f g same [] = refl
free-same f g same (u ∷ us) = ap (λ b. cond b (free f us) (u ∷ free f us)) (same u.name) ∙ ap (λ l. cond (g u.name) l (u ∷ l)) (free-same f g same us)

-- a member that is reported
pub key-reported : (f : Form → List ℕ → Bool) (member key : Tree) → Some key ≡ private_key member → f (flags_of member).form (text_of key) ≡ false → of_member f member ≡ report_unless false key
key-reported f member key e h = ap (of_key f (flags_of member).form) (sym e) ∙ ap (λ b. report_unless b key) h

-- The names that members declare, part by part

declared-step : (ps : Parts) (i : ℕ) (o : Option Tree) (w : List ℕ) → i < part_count ps → o ≡ part_at ps i → has_name (declared_names (parts_drop i ps)) w ≡ (has_name (name_of (key_at o)) w || has_name (declared_names (parts_drop (i + 1) ps)) w)
declared-step ps i o w l e =
    ap (λ names. has_name names w) (drop-step (λ member. name_of (private_key member)) ps i o l e ∙ ap (λ names. names ++ declared_names (parts_drop (i + 1) ps)) (at-key o))
    ∙ list_any-append (λ other. bytes_eq w other) (name_of (key_at o)) (declared_names (parts_drop (i + 1) ps))
  where
    at-key : (o : Option Tree) → at_part (λ member. name_of (private_key member)) o ≡ name_of (key_at o)
    at-key None = refl
    at-key (Some t) = refl

pub declared-turn : (ps : Parts) (i : ℕ) (o : Option Tree) (w : List ℕ) (old new total : Bool) → i < part_count ps → o ≡ part_at ps i → new ≡ (old || has_name (name_of (key_at o)) w)
    → (old || has_name (declared_names (parts_drop i ps)) w) ≡ total → (new || has_name (declared_names (parts_drop (i + 1) ps)) w) ≡ total
declared-turn ps i o w old new total l e n so =
    ap (λ b. b || has_name (declared_names (parts_drop (i + 1) ps)) w) n ∙ together old (has_name (name_of (key_at o)) w) (has_name (declared_names (parts_drop (i + 1) ps)) w)
    ∙ ap (λ b. old || b) (sym (declared-step ps i o w l e)) ∙ so
  where
    together : (a b c : Bool) → ((a || b) || c) ≡ (a || (b || c))
    together true b c = refl
    together false b c = refl

pub declared-end : (ps : Parts) (i : ℕ) (w : List ℕ) (old total : Bool) → part_count ps ≤ i → (old || has_name (declared_names (parts_drop i ps)) w) ≡ total → old ≡ total
declared-end ps i w old total l so =
    sym (or-nothing old) ∙ ap (λ names. old || has_name names w) (sym (drop-past (λ member. name_of (private_key member)) ps i l)) ∙ so
