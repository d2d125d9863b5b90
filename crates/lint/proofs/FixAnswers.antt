-- From the planner's flags to the printer's, and to what `fix` promises.
use Rattle.std.proofs.Common.{◌≡◌, ℕ, zero, suc, Bool, true, List, [], refl, sym, ap, subst, ◌∙◌, ◌≤◌, length, Option, Some, None, Ok, Err, arith}
use Rattle.tree.specs.Tree.{Tree, SameTree, height}
use Rattle.tree.specs.declared.kind.Pair.{Pair}
use Rattle.std.specs.Str.{IsUtf8}
use Rattle.early_errors.specs.Accepted.{Accepted}
use Rattle.early_errors.proofs.Placeless.{none_either}
use Rattle.language.specs.declared.Language.{Language}
use Rattle.language.specs.Claims.{max_height, max_open}
use Rattle.language.specs.Languages.{DerivesIn, DerivesOpenIn}
use Rattle.recursive_descent.specs.Limits.{WithinLimitsIn}
use Rattle.language.proofs.layout.SameLayouts.{same_layout}
use Rattle.language.proofs.layout.FixedReads.{within_always_in}
use Rattle.language.proofs.layout.ReadableScript.{script_readable}
use Rattle.language.specs.Cost.{AtMost, at_most, least}
use Rattle.language_laws.specs.Laws.{SameItems}
use Rattle.language_laws.proofs.OtherLanguages.{no_fewer_across}
use Rattle.paren_planner.proofs.Totals.{wrapped_count}
use Rattle.language.specs.Pieces.{script}
use Rattle.language.specs.Layout.{fixed_text, has_number, wrapped_rows}
use Rattle.wrap_flags.specs.Flags.{is_flagged}
use Rattle.wrap_flags.specs.declared.wraps.Wraps.{Wraps}
use Rattle.printer.proofs.WrapFlags.{flag_is}
use Rattle.printer.specs.Fits.{wrapped_by, IsPlanned}
use Rattle.lint.specs.ReadScripts.{IsOnly, IsReading}
use Rattle.lint.proofs.OneScript.{only_script}
use Rattle.printer.specs.Texts.{IsWritten}
use Rattle.source_text.specs.Writing.{AppendsBeginning}
use Rattle.source_text.specs.declared.fault.Fault.{Fault}
use Rattle.source_text.specs.declared.fault.Fault.TheVariants.{WriteFailed}
use Rattle.commands.specs.declared.command.Command.TheVariants.{Fix}
use Rattle.language.proofs.layout.LaidItems.{fixed_items}
use Rattle.language.proofs.layout.WrappedRows.{text_fits_in}
use Rattle.language.proofs.layout.ReadItems.{readable_utf8}
use Rattle.language.proofs.table.Alike.{same as alike}
use Rattle.language.proofs.texts.DerivedWords.{seen_worded}
use Rattle.language.proofs.texts.StartPlaces.{starting_place}
use Rattle.parser.specs.declared.script.Parsed.{Parsed}
use Rattle.lint.specs.declared.answer.Answer.TheVariants.{Fixed}
use Rattle.lint.specs.Fixes.{Fixes, IsStable}
use Rattle.lint.specs.Steps.{AnswersAlone}

-- ---- flags

wrapped_is : (bs : List Bool) (r : ℕ) → wrapped_by bs r ≡ is_flagged bs r
wrapped_is bs zero = refl
wrapped_is bs (suc r) = flag_is bs r

-- the planner's flags are a plan for the printer
pub is_planned : (n : Tree) (bs : List Bool) → ((x : ℕ) → is_flagged bs x ≡ has_number (wrapped_rows n script 1) x) → IsPlanned bs n
is_planned n bs same r = wrapped_is bs r ∙ same r

-- ---- costs

counted : (n : Tree) (l : Option ℕ) (k : ℕ) → l ≡ least n script → AtMost l k → length (wrapped_rows n script 1) ≤ k
counted n None k is h = elim h [ ]
counted n (Some m) k is (at_most h) = let count : length (wrapped_rows n script 1) ≡ m = wrapped_count n m (sym is) in omega (arith, count, h)

-- no derivation of a tree with the same items has fewer pairs than nodes are wrapped in one that is derived
pub fewest : (own language : Language) (text source : List ℕ) (n m : Tree) (P Q : List Pair) → DerivesIn own text n P → SameItems m n → DerivesIn language source m Q → length (wrapped_rows n script 1) ≤ length Q
fewest own language text source n m P Q derived same other = counted n (least n script) (length Q) refl (no_fewer_across own language text source n m P Q derived same other)

-- ---- the fixed text

-- the fixed text of an accepted tree
pub fixes : (language : Language) (text fixed : List ℕ) (n : Tree) (P : List Pair) → IsUtf8 fixed → Accepted language text n P → fixed ≡ fixed_text n → Fixes language text fixed
fixes language text fixed n P utf8 is laid = from (within_always_in language text n P is.source is.derived.0 is.derived.1)
  where
    only_again : (m : Tree) (Q : List Pair) → WithinLimitsIn language (fixed_text n) m Q → IsOnly language fixed m Q
    only_again m Q within = only_script language fixed m Q (subst (λ t. WithinLimitsIn language t m Q) (sym laid) within)

    from : (m : Tree) × (Q : List Pair) × SameTree m n × (height m ≤ max_height) × DerivesOpenIn language max_open (fixed_text n) m Q × (length Q ≡ length (wrapped_rows n script 1)) → Fixes language text fixed
    from (m, Q, same, low, derived, count) = let within : WithinLimitsIn language (fixed_text n) m Q = (low, derived) in record {
      tree = n;
      pairs = P;
      accepted = is;
      only = only_script language text n P is.derived;
      is_fixed = laid;
      again = m;
      pairs_again = Q;
      same = same;
      only_again = only_again m Q within;
      accepted_again = record { source = utf8; derived = subst (λ t. WithinLimitsIn language t m Q) (sym laid) within; lawful = none_either n m (sym same) is.lawful };
      fewest = record {
        attained = (language, fixed_text n, m, Q, same, (max_open, within.1), refl);
        least = λ any source k R alike d. subst (λ x. x ≤ length R) (sym count) (fewest language any text source n k P R (max_open, is.derived.1) alike d);
      };
      stable = λ k R d. ap fixed_text (only_again m Q within k R d).0 ∙ same_layout m n same ∙ sym laid;
    }

-- the fixed text of a script is UTF-8
fixed_utf8 : (language : Language) (text : List ℕ) (n : Tree) (P : List Pair) → IsUtf8 text → DerivesIn language text n P → IsUtf8 (fixed_text n)
fixed_utf8 language text n P utf8 derived =
    let fit = text_fits_in language text n P derived in
    let worded = seen_worded text utf8 language (has_number (wrapped_rows n script 1)) derived.1.2 (starting_place language text utf8) script alike 1 fit in
    subst IsUtf8 (fixed_items n) (readable_utf8 (script_readable (has_number (wrapped_rows n script 1)) n fit worded))

-- what `fix` answers: the text that the tree and its wrapped nodes make
pub fixed_answer : (language : Language) (text : List ℕ) (parsed : Parsed) (wraps : Wraps) → IsReading language text parsed.program parsed.pairs.items → AnswersAlone language Fix text parsed.program parsed.pairs.items (Ok (Fixed parsed wraps))
fixed_answer language text parsed wraps reading = λ finds given.
    let n = parsed.program in
    let accepted = reading.accepted in
    let utf8 : IsUtf8 (fixed_text n) = fixed_utf8 language text n parsed.pairs.items accepted.source (_, accepted.derived.1) in
    let is : Fixes language text (fixed_text n) = fixes language text (fixed_text n) n parsed.pairs.items utf8 accepted refl in
    (refl, ([], refl, (is, refl)))

-- a beginning was written, and the writer failed
pub begun : (text : List ℕ) (fault : Fault) (before after : Option (List ℕ)) (failed : Bool) → IsWritten text (Err fault) before after failed → AppendsBeginning before after text × (failed ≡ true)
begun text WriteFailed before after failed h = h
begun text other before after failed h = absurd h

-- ---- fixing again

pub stable : (language : Language) (text fixed : List ℕ) → Fixes language text fixed → IsStable language fixed
stable language text fixed is again of = of.is_fixed ∙ is.stable of.tree of.pairs (max_open, of.accepted.derived.1)
