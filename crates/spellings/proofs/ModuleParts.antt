-- The parts of imports and exports, place by place.
use Rattle.std.proofs.Common.{◌≡◌, ℕ, zero, suc, ◌-◌, ◌<◌, ◌≤◌, nat_eq, Bool, true, false, Option, Some, None, refl, sym, ap, ◌∙◌, arith}
use Rattle.std.proofs.lemmas.Bool.{false≢true}
use Rattle.std.proofs.lemmas.Bool.Decides.{nat_tests}
use Rattle.tree.specs.Tree.{Tree, node, Parts, none, part, gap, kind_of, flags_of, parts_of, part_at, part_count}
use Rattle.language.specs.FirstPart.{goes_left, is_braced, begins_with_brace, first_begins_with_brace}
use Rattle.language.specs.Pieces.{is_none}
use Rattle.language.specs.Statements.{is_one}
use Rattle.spelling_table.specs.Outlines.{parts_after}
use Rattle.spellings.specs.Entries.{entry_at, is_import_specifier, is_export_specifier, specifiers_fit, export_fits, part_begins_with_brace}
use Rattle.spellings.specs.Expressions.{kind_at}
use Rattle.spellings.proofs.PartsAfter.{some-suc, behind-past}

-- What begins with `{`, from the first part

at_first : (ps : Parts) → part_begins_with_brace (part_at ps 0) ≡ first_begins_with_brace ps
at_first none = refl
at_first (part n ps) = refl
at_first (gap ps) = refl

pub braced_first : (ps : Parts) (o : Option Tree) → o ≡ part_at ps 0 → part_begins_with_brace o ≡ first_begins_with_brace ps
braced_first ps o h = ap part_begins_with_brace h ∙ at_first ps

pub braced_below : (n : Tree) (o : Option Tree) → goes_left (kind_of n) (flags_of n) ≡ true → o ≡ part_at (parts_of n) 0 → part_begins_with_brace o ≡ begins_with_brace n
braced_below (node k w g s e ps) o h p = rw h (braced_first ps o p)

pub braced_itself : (n : Tree) → goes_left (kind_of n) (flags_of n) ≡ false → is_braced (kind_of n) ≡ begins_with_brace n
braced_itself (node k w g s e ps) h = rw h refl

-- The last part

pub last_there : (ps : Parts) (i : ℕ) (u : Tree) (b : Bool) → Some u ≡ part_at ps i → b ≡ is_none (parts_after (suc i) ps) → b ≡ is_one (parts_after i ps)
last_there ps i u b h e = e ∙ sym (ap is_one (some-suc ps i u h))

pub last_missing : (ps : Parts) (i : ℕ) → None ≡ part_at ps i → false ≡ is_one (parts_after i ps)
last_missing none zero h = refl
last_missing none (suc i) h = last_missing none i refl
last_missing (part t ps) zero h = absurd (cc)
last_missing (part t ps) (suc i) h = last_missing ps i h
last_missing (gap ps) zero h = refl
last_missing (gap ps) (suc i) h = last_missing ps i h

pub counts_one : (n i : ℕ) → i < n → nat_eq (n - i) 1 ≡ nat_eq ((n - i) - 1) 0
counts_one n i l = grind (arith, nat_tests)

-- Specifiers, from a place on

pub imported-on : (ps : Parts) (i : ℕ) → suc i < part_count ps → is_import_specifier (kind_at (entry_at ps i)) ≡ true → specifiers_fit (parts_after (suc i) ps) ≡ specifiers_fit (parts_after i ps)
imported-on none i l h = absurd (omega (arith, l))
imported-on (part n none) zero l h = absurd (omega (arith, l))
imported-on (part n (gap ps)) zero l h = refl
imported-on (part n (part m ps)) zero l h = rw h refl
imported-on (part n ps) (suc i) l h = imported-on ps i (omega (arith, l)) h
imported-on (gap ps) zero l h = absurd (false≢true h)
imported-on (gap ps) (suc i) l h = imported-on ps i (omega (arith, l)) h

pub imported-stop : (ps : Parts) (i : ℕ) → suc i < part_count ps → is_import_specifier (kind_at (entry_at ps i)) ≡ false → false ≡ specifiers_fit (parts_after i ps)
imported-stop none i l h = absurd (omega (arith, l))
imported-stop (part n none) zero l h = absurd (omega (arith, l))
imported-stop (part n (gap ps)) zero l h = refl
imported-stop (part n (part m ps)) zero l h = rw h refl
imported-stop (part n ps) (suc i) l h = imported-stop ps i (omega (arith, l)) h
imported-stop (gap ps) zero l h = refl
imported-stop (gap ps) (suc i) l h = imported-stop ps i (omega (arith, l)) h

pub imported-past : (ps : Parts) (i : ℕ) → part_count ps ≤ i → false ≡ specifiers_fit (parts_after i ps)
imported-past ps i l = sym (ap specifiers_fit (behind-past ps i l))

pub imported-end : (ps : Parts) (i : ℕ) (u : Tree) → part_count ps ≡ suc i → Some u ≡ part_at ps i → true ≡ specifiers_fit (parts_after i ps)
imported-end ps i u c h = sym (ap specifiers_fit (some-suc ps i u h ∙ ap (part u) (behind-past ps (suc i) (omega (arith, c)))))

pub imported-gap : (ps : Parts) (i : ℕ) → None ≡ part_at ps i → false ≡ specifiers_fit (parts_after i ps)
imported-gap none zero h = refl
imported-gap none (suc i) h = imported-gap none i refl
imported-gap (part t ps) zero h = absurd (cc)
imported-gap (part t ps) (suc i) h = imported-gap ps i h
imported-gap (gap ps) zero h = refl
imported-gap (gap ps) (suc i) h = imported-gap ps i h

pub exported-on : (ps : Parts) (i : ℕ) → suc i < part_count ps → is_export_specifier (kind_at (entry_at ps i)) ≡ true → export_fits (parts_after (suc i) ps) ≡ export_fits (parts_after i ps)
exported-on none i l h = absurd (omega (arith, l))
exported-on (part n none) zero l h = absurd (omega (arith, l))
exported-on (part n (gap ps)) zero l h = rw h refl
exported-on (part n (part m ps)) zero l h = rw h refl
exported-on (part n ps) (suc i) l h = exported-on ps i (omega (arith, l)) h
exported-on (gap ps) zero l h = absurd (false≢true h)
exported-on (gap ps) (suc i) l h = exported-on ps i (omega (arith, l)) h

pub exported-stop : (ps : Parts) (i : ℕ) → suc i < part_count ps → is_export_specifier (kind_at (entry_at ps i)) ≡ false → false ≡ export_fits (parts_after i ps)
exported-stop none i l h = absurd (omega (arith, l))
exported-stop (part n none) zero l h = absurd (omega (arith, l))
exported-stop (part n (gap ps)) zero l h = rw h refl
exported-stop (part n (part m ps)) zero l h = rw h refl
exported-stop (part n ps) (suc i) l h = exported-stop ps i (omega (arith, l)) h
exported-stop (gap none) zero l h = absurd (omega (arith, l))
exported-stop (gap (gap ps)) zero l h = refl
exported-stop (gap (part m ps)) zero l h = refl
exported-stop (gap ps) (suc i) l h = exported-stop ps i (omega (arith, l)) h

pub exported-past : (ps : Parts) (i : ℕ) → part_count ps ≤ i → false ≡ export_fits (parts_after i ps)
exported-past ps i l = sym (ap export_fits (behind-past ps i l))

pub exported-end : (ps : Parts) (i : ℕ) → part_count ps ≡ suc i → true ≡ export_fits (parts_after i ps)
exported-end none i c = absurd (omega (arith, c))
exported-end (part n none) zero c = refl
exported-end (part n (part m ps)) zero c = absurd (omega (arith, c))
exported-end (part n (gap ps)) zero c = absurd (omega (arith, c))
exported-end (part n ps) (suc i) c = exported-end ps i (omega (arith, c))
exported-end (gap none) zero c = refl
exported-end (gap (part m ps)) zero c = absurd (omega (arith, c))
exported-end (gap (gap ps)) zero c = absurd (omega (arith, c))
exported-end (gap ps) (suc i) c = exported-end ps i (omega (arith, c))
