-- The marks of the table's lists.
use Rattle.std.proofs.Common.{◌≡◌, ℕ, Bool, true, false, cond, List, [], ◌∷◌, ◌++◌, suc, nat_eq, refl, sym, ap, ap₂, ◌∙◌, append_assoc, arith}
use Rattle.std.specs.Prelude.{Option, Some, None, ◌&&◌, map, codes}
use Rattle.std.proofs.lemmas.Bool.{false≢true}
use Rattle.std.proofs.lemmas.Bool.Decides.{nat_tests}
use Rattle.tree.specs.declared.kind.Kind.{Kind}
use Rattle.tree.specs.declared.kind.Kind.TheVariants as kind
use Rattle.tree.specs.Tree.{Tree, node, Parts, none, part, gap, kind_of}
use Rattle.language.specs.declared.Rank.{Rank}
use Rattle.language.specs.declared.Rank.TheVariants.{Assignment, LeftHandSide}
use Rattle.language.specs.declared.Start.{Start}
use Rattle.language.specs.declared.Start.TheVariants.{Any}
use Rattle.language.specs.Vocabulary.{is_rest, is_spread, is_pattern, is_identifier, is_target}
use Rattle.language.specs.Pieces as piece
use Rattle.language.specs.Pieces.{Role, Slot, PieceOf, Piece, tok, may, many, ahead, unbroken, no_operand, ending, open_parameters, close_parameters, sub, absent, never, lay, settle, settle_piece, put, put_at, sign, sp, is_none, separator, listed, elements, argument, pattern_element, parameters, listed_before, bound, with_default}
use Rattle.language.specs.Expressions.{template_elements, object_part, object_pattern_part, sequence}
use Rattle.language.specs.Statements.{lines as table_lines, prologue, declarators, member_lines, is_directive, imported, exported, from_source, export_list, is_module_item, module_prologue}
use Rattle.language.specs.Grammar.{can_run}
use Rattle.printer.specs.Bits.{Mark, text, line, feed, here, marks_of, piece_marks, Bit, Chain, nothing, joined, commas, lines, feeds, parameters as parameter_chain}
use Rattle.printer.specs.declared.site.Site.{Site}
use Rattle.printer.specs.declared.site.Site.TheVariants.{Plain}
use Rattle.printer.specs.declared.part_sites.PartSites.TheVariants.{AllPlain, TemplateParts}
use Rattle.printer.specs.Sites.{site_of, slot_site, chunk_site, is_even}
use Rattle.printer.specs.Printed.{marks_in, chain_marks}

-- what is asked of a position is asked wherever the node stands
settled_site : (z : Rank) (i : Bool) (f : Start) (s : Slot) → site_of (settle z i f s) ≡ slot_site s
settled_site z i f (piece.fixed a) = refl
settled_site z i f (piece.left y) = refl
settled_site z i f (piece.lead y) = refl
settled_site z i f (piece.tail y g) = refl
settled_site z i f piece.callee = refl
settled_site z i f piece.lead_chain = refl
settled_site z i f piece.lead_pattern = refl

pub marks-settled : (z : Rank) (i : Bool) (f : Start) (qs : List Piece) → marks_of (map (settle_piece z i f) qs) ≡ piece_marks qs
marks-settled z i f [] = refl
marks-settled z i f (sub s ∷ qs) = ap₂ (λ x ms. here x ∷ ms) (settled_site z i f s) (marks-settled z i f qs)
marks-settled z i f (absent ∷ qs) = ap (λ ms. here Plain ∷ ms) (marks-settled z i f qs)
marks-settled z i f (never ∷ qs) = marks-settled z i f qs
marks-settled z i f (tok c w ∷ qs) = ap (λ ms. text w ∷ ms) (marks-settled z i f qs)
marks-settled z i f (may w ∷ qs) = marks-settled z i f qs
marks-settled z i f (many w ∷ qs) = marks-settled z i f qs
marks-settled z i f (ahead w ∷ qs) = marks-settled z i f qs
marks-settled z i f (unbroken ∷ qs) = marks-settled z i f qs
marks-settled z i f (no_operand ∷ qs) = marks-settled z i f qs
marks-settled z i f (ending e ∷ qs) = ap (λ ms. text (codes ";") ∷ ms) (marks-settled z i f qs)
marks-settled z i f (open_parameters ∷ qs) = ap (λ ms. text (codes "(") ∷ ms) (marks-settled z i f qs)
marks-settled z i f (close_parameters ∷ qs) = ap (λ ms. text (codes ")") ∷ ms) (marks-settled z i f qs)
marks-settled z i f (lay piece.space ∷ qs) = ap (λ ms. text (codes " ") ∷ ms) (marks-settled z i f qs)
marks-settled z i f (lay piece.line ∷ qs) = ap (λ ms. line ∷ ms) (marks-settled z i f qs)
marks-settled z i f (lay piece.feed ∷ qs) = ap (λ ms. feed ∷ ms) (marks-settled z i f qs)
marks-settled z i f (lay piece.deeper ∷ qs) = ap (λ ms. Rattle.printer.specs.Bits.deeper ∷ ms) (marks-settled z i f qs)
marks-settled z i f (lay piece.shallower ∷ qs) = ap (λ ms. Rattle.printer.specs.Bits.shallower ∷ ms) (marks-settled z i f qs)
marks-settled z i f (lay (piece.apart c) ∷ qs) = ap (λ ms. Rattle.printer.specs.Bits.apart c ∷ ms) (marks-settled z i f qs)
marks-settled z i f (lay piece.loose ∷ qs) = ap (λ ms. Rattle.printer.specs.Bits.loose ∷ ms) (marks-settled z i f qs)

-- a part of which this is asked, or what is never spelled
pub data Standing (x : Site) : Piece → Type 0 where
  stands : {s : Slot} → slot_site s ≡ x → Standing x (sub s)
  refused : Standing x never

-- at a position of which this is asked, if it is some
abbrev pub Asks : Site → Option Role → Type 0
Asks x None = Unit {0}
Asks x (Some a) = site_of a ≡ x

pub put_standing : (x : Site) (o : Option Role) → Asks x o → Standing x (put_at o)
put_standing x None h = refused
put_standing x (Some a) h = stands h

pub bound_plain : (b : Bool) (k : Kind) → Asks Plain (bound b k)
bound_plain true k = of (is_pattern k) (is_identifier k)
  where
    of : (u v : Bool) → Asks Plain (cond u (Some (piece.pattern true Any)) (cond v (Some piece.name) None))
    of true v = refl
    of false true = refl
    of false false = tt
bound_plain false k = of (is_pattern k) (is_target k)
  where
    of : (u v : Bool) → Asks Plain (cond u (Some (piece.pattern false Any)) (cond v (Some (piece.expr LeftHandSide true Any)) None))
    of true v = refl
    of false true = refl
    of false false = tt

pub default_plain : (b : Bool) (k : Kind) → Asks Plain (with_default b k)
default_plain b kind.AssignmentPattern = refl
default_plain b k = bound_plain b k

pub argument_standing : (n : Tree) → Standing Plain (argument n)
argument_standing n = stands (of (is_spread (kind_of n)))
  where
    of : (b : Bool) → site_of (cond b piece.spread (piece.expr Assignment true Any)) ≡ Plain
    of true = refl
    of false = refl

pub object_standing : (n : Tree) → Standing Plain (object_part n)
object_standing (node kind.SpreadElement w g s e ps) = stands refl
object_standing (node kind.Property w g s e ps) = stands refl
object_standing (node _ w g s e ps) = refused

pub object_pattern_standing : (b : Bool) (n : Tree) → Standing Plain (object_pattern_part b n)
object_pattern_standing b (node kind.RestElement w g s e ps) = stands refl
object_pattern_standing b (node kind.Property w g s e ps) = stands refl
object_pattern_standing b (node _ w g s e ps) = refused

pub element_standing : (b : Bool) (n : Tree) → Standing Plain (pattern_element b n)
element_standing b n = put_standing Plain (cond (is_rest (kind_of n)) (Some (piece.rest b false)) (with_default b (kind_of n))) (of (is_rest (kind_of n)) (with_default b (kind_of n)) (default_plain b (kind_of n)))
  where
    of : (u : Bool) (o : Option Role) → Asks Plain o → Asks Plain (cond u (Some (piece.rest b false)) o)
    of true o h = refl
    of false o h = h

-- the last of these parts is a source, and no gap
abbrev pub has_source : Parts → Bool
has_source none = false
has_source (gap ps) = has_source ps
has_source (part n none) = true
has_source (part n (gap ps)) = has_source (gap ps)
has_source (part n (part m ps)) = has_source (part m ps)

imported_standing : (n : Tree) → Standing Plain (imported n)
imported_standing (node kind.ImportSpecifier w g s e ps) = stands refl
imported_standing (node _ w g s e ps) = refused

exported_standing : (n : Tree) → Standing Plain (exported n)
exported_standing (node kind.ExportSpecifier w g s e ps) = stands refl
exported_standing (node _ w g s e ps) = refused

module _ (w : List ℕ) where
  abbrev Runs : List Piece → Type 0
  Runs qs = can_run qs ≡ true

  -- an element and its separator, before others
  one_element : (p : Piece) → Standing Plain p → (k : Kind) (l b : Bool) (qs : List Piece) (ms : List Mark) → (Runs qs → piece_marks qs ≡ ms) → Runs ((p ∷ separator k l) ++ qs) →
      piece_marks ((p ∷ separator k l) ++ qs) ≡ here Plain ∷ (marks_in w (Rattle.printer.specs.Bits.after_bits commas false l b) ++ ms)
  one_element (tok _ _) x k l b qs ms h r = elim x [ ]
  one_element (may _) x k l b qs ms h r = elim x [ ]
  one_element (many _) x k l b qs ms h r = elim x [ ]
  one_element (ahead _) x k l b qs ms h r = elim x [ ]
  one_element unbroken x k l b qs ms h r = elim x [ ]
  one_element no_operand x k l b qs ms h r = elim x [ ]
  one_element (ending _) x k l b qs ms h r = elim x [ ]
  one_element open_parameters x k l b qs ms h r = elim x [ ]
  one_element close_parameters x k l b qs ms h r = elim x [ ]
  one_element absent x k l b qs ms h r = elim x [ ]
  one_element (lay _) x k l b qs ms h r = elim x [ ]
  one_element never refused k l b qs ms h r = absurd (false≢true r)
  one_element (sub s) (stands e) k true b qs ms h r = of (is_rest k) r
    where
      of : (v : Bool) → can_run (cond v [] (may (codes ",") ∷ []) ++ qs) ≡ true → here (slot_site s) ∷ piece_marks (cond v [] (may (codes ",") ∷ []) ++ qs) ≡ here Plain ∷ ms
      of true u = ap₂ (λ x t. here x ∷ t) e (h u)
      of false u = ap₂ (λ x t. here x ∷ t) e (h u)
  one_element (sub s) (stands e) k false b qs ms h r = of (is_rest k) r
    where
      of : (v : Bool) → can_run (cond v (never ∷ []) (sign "," ∷ sp ∷ []) ++ qs) ≡ true → here (slot_site s) ∷ piece_marks (cond v (never ∷ []) (sign "," ∷ sp ∷ []) ++ qs) ≡ here Plain ∷ text (codes ",") ∷ text (codes " ") ∷ ms
      of true u = absurd (false≢true u)
      of false u = ap₂ (λ x t. here x ∷ text (codes ",") ∷ text (codes " ") ∷ t) e (h u)

  one_append : (xs ys zs : List Piece) (ms : List Mark) → piece_marks (xs ++ (ys ++ zs)) ≡ ms → piece_marks ((xs ++ ys) ++ zs) ≡ ms
  one_append xs ys zs ms h = ap piece_marks (append_assoc xs ys zs) ∙ h

  run_append : (xs ys zs : List Piece) → Runs ((xs ++ ys) ++ zs) → Runs (xs ++ (ys ++ zs))
  run_append xs ys zs h = sym (ap can_run (append_assoc xs ys zs)) ∙ h

  marks_append : (x : Mark) (xs ys : List Mark) (zs : List Mark) → x ∷ (xs ++ (ys ++ zs)) ≡ x ∷ ((xs ++ ys) ++ zs)
  marks_append x xs ys zs = ap (λ t. x ∷ t) (sym (append_assoc xs ys zs))

  pub listed-marks : (f : Tree → Piece) → ((n : Tree) → Standing Plain (f n)) → (i : ℕ) (ps : Parts) (qs : List Piece) → Runs (listed f ps ++ qs) → piece_marks (listed f ps ++ qs) ≡ chain_marks w AllPlain commas i ps ++ piece_marks qs
  listed-marks f h i none qs r = refl
  listed-marks f h i (gap ps) qs r = absurd (false≢true r)
  listed-marks f h i (part n ps) qs r =
      one_append (f n ∷ separator (kind_of n) (is_none ps)) (listed f ps) qs _ (
      one_element (f n) (h n) (kind_of n) (is_none ps) (Rattle.spelling_table.specs.Outlines.is_before_last ps) (listed f ps ++ qs) (chain_marks w AllPlain commas (suc i) ps ++ piece_marks qs) (λ v. listed-marks f h (suc i) ps qs v)
      (run_append (f n ∷ separator (kind_of n) (is_none ps)) (listed f ps) qs r)
      ∙ marks_append (here Plain) (marks_in w (Rattle.printer.specs.Bits.after_bits commas false (is_none ps) (Rattle.spelling_table.specs.Outlines.is_before_last ps))) (chain_marks w AllPlain commas (suc i) ps) (piece_marks qs))

  one_hole : (v b : Bool) (us qs : List Piece) (ms : List Mark) → (Runs (us ++ qs) → piece_marks (us ++ qs) ≡ ms ++ piece_marks qs) → Runs (((absent ∷ sign "," ∷ cond v [] (sp ∷ [])) ++ us) ++ qs) →
      piece_marks (((absent ∷ sign "," ∷ cond v [] (sp ∷ [])) ++ us) ++ qs) ≡ (here Plain ∷ (marks_in w (Rattle.printer.specs.Bits.after_bits commas true v b) ++ ms)) ++ piece_marks qs
  one_hole true b us qs ms h r = ap (λ t. here Plain ∷ text (codes ",") ∷ t) (h r)
  one_hole false b us qs ms h r = ap (λ t. here Plain ∷ text (codes ",") ∷ text (codes " ") ∷ t) (h r)

  pub elements-marks : (f : Tree → Piece) → ((n : Tree) → Standing Plain (f n)) → (i : ℕ) (ps : Parts) (qs : List Piece) → Runs (elements f ps ++ qs) → piece_marks (elements f ps ++ qs) ≡ chain_marks w AllPlain commas i ps ++ piece_marks qs
  elements-marks f h i none qs r = refl
  elements-marks f h i (gap ps) qs r = one_hole (is_none ps) (Rattle.spelling_table.specs.Outlines.is_before_last ps) (elements f ps) qs (chain_marks w AllPlain commas (suc i) ps) (λ v. elements-marks f h (suc i) ps qs v) r
  elements-marks f h i (part n ps) qs r =
      one_append (f n ∷ separator (kind_of n) (is_none ps)) (elements f ps) qs _ (
      one_element (f n) (h n) (kind_of n) (is_none ps) (Rattle.spelling_table.specs.Outlines.is_before_last ps) (elements f ps ++ qs) (chain_marks w AllPlain commas (suc i) ps ++ piece_marks qs) (λ v. elements-marks f h (suc i) ps qs v)
      (run_append (f n ∷ separator (kind_of n) (is_none ps)) (elements f ps) qs r)
      ∙ marks_append (here Plain) (marks_in w (Rattle.printer.specs.Bits.after_bits commas false (is_none ps) (Rattle.spelling_table.specs.Outlines.is_before_last ps))) (chain_marks w AllPlain commas (suc i) ps) (piece_marks qs))

  -- parameters, and what stands behind them
  pub parameters-marks : (xs : List Bit) (after : List Piece) → piece_marks after ≡ marks_in w xs ++ here Plain ∷ [] → (i : ℕ) (ps : Parts) → Runs (parameters after ps) → piece_marks (parameters after ps) ≡ chain_marks w AllPlain (parameter_chain xs) i ps
  parameters-marks xs after e i none r = absurd (false≢true r)
  parameters-marks xs after e i (gap ps) r = absurd (false≢true r)
  parameters-marks xs after e i (part n none) r = e
  parameters-marks xs after e i (part n (gap ps)) r = absurd (false≢true r)
  parameters-marks xs after e i (part n (part m ps)) r =
      one_element (pattern_element true n) (element_standing true n) (kind_of n) (is_none ps) false (parameters after (part m ps)) (chain_marks w AllPlain (parameter_chain xs) (suc i) (part m ps)) (λ v. parameters-marks xs after e (suc i) (part m ps) v) r
      ∙ of (is_none ps)
    where
      of : (v : Bool) → here Plain ∷ (marks_in w (Rattle.printer.specs.Bits.after_bits commas false v false) ++ chain_marks w AllPlain (parameter_chain xs) (suc i) (part m ps))
          ≡ here Plain ∷ (marks_in w (Rattle.printer.specs.Bits.after_bits (parameter_chain xs) false false v) ++ chain_marks w AllPlain (parameter_chain xs) (suc i) (part m ps))
      of true = refl
      of false = refl

  -- an element before the last but one is followed as in a list with commas
  one_before : (n : Tree) (p : Piece) → Standing Plain p → (l : Bool) (xs : List Bit) (qs : List Piece) (ms : List Mark) → (Runs qs → piece_marks qs ≡ ms) → Runs ((p ∷ separator (kind_of n) l) ++ qs) →
      piece_marks ((p ∷ separator (kind_of n) l) ++ qs) ≡ here Plain ∷ (marks_in w (Rattle.printer.specs.Bits.after_bits (parameter_chain xs) false false l) ++ ms)
  one_before n p x true xs qs ms h r = one_element p x (kind_of n) true false qs ms h r
  one_before n p x false xs qs ms h r = one_element p x (kind_of n) false false qs ms h r

  -- names between braces, then the source
  pub imports-marks : (xs : List Bit) (after : List Piece) (ends : List Mark) → piece_marks after ≡ marks_in w xs ++ here Plain ∷ ends → (i : ℕ) (ps : Parts) → Runs (listed_before imported after ps) → piece_marks (listed_before imported after ps) ≡ chain_marks w AllPlain (parameter_chain xs) i ps ++ ends
  imports-marks xs after ends e i none r = absurd (false≢true r)
  imports-marks xs after ends e i (gap ps) r = absurd (false≢true r)
  imports-marks xs after ends e i (part n none) r = e ∙ sym (append_assoc (marks_in w xs) (here Plain ∷ []) ends)
  imports-marks xs after ends e i (part n (gap ps)) r = absurd (false≢true r)
  imports-marks xs after ends e i (part n (part m ps)) r =
      one_before n (imported n) (imported_standing n) (is_none ps) xs (listed_before imported after (part m ps)) (chain_marks w AllPlain (parameter_chain xs) (suc i) (part m ps) ++ ends) (λ v. imports-marks xs after ends e (suc i) (part m ps) v) r
      ∙ marks_append (here Plain) (marks_in w (Rattle.printer.specs.Bits.after_bits (parameter_chain xs) false false (is_none ps))) (chain_marks w AllPlain (parameter_chain xs) (suc i) (part m ps)) ends

  -- the names of an export, then its source or a gap, which this stands before
  abbrev pub export_chain : List Bit → List Bit → Bool → Chain
  export_chain xs ys b = parameter_chain (cond b xs ys)

  module _ (xs ys : List Bit) (b : Bool) where
    one_named : (n : Tree) (l : Bool) (i : ℕ) (ps : Parts) (ends : List Mark) → l ≡ Rattle.spelling_table.specs.Outlines.is_before_last ps → is_none ps ≡ false → (Runs (export_list ps) → piece_marks (export_list ps) ≡ chain_marks w AllPlain (export_chain xs ys b) (suc i) ps ++ ends) →
        Runs ((exported n ∷ separator (kind_of n) l) ++ export_list ps) → piece_marks ((exported n ∷ separator (kind_of n) l) ++ export_list ps) ≡ chain_marks w AllPlain (export_chain xs ys b) i (part n ps) ++ ends
    one_named n l i none ends e f h r = absurd (cc)
    one_named n l i (gap ps) ends e f h r =
        one_before n (exported n) (exported_standing n) l (cond b xs ys) (export_list (gap ps)) (chain_marks w AllPlain (export_chain xs ys b) (suc i) (gap ps) ++ ends) h r
        ∙ ap (λ v. here Plain ∷ (marks_in w (Rattle.printer.specs.Bits.after_bits (export_chain xs ys b) false false v) ++ (chain_marks w AllPlain (export_chain xs ys b) (suc i) (gap ps) ++ ends))) e
        ∙ marks_append (here Plain) (marks_in w (Rattle.printer.specs.Bits.after_bits (export_chain xs ys b) false false (Rattle.spelling_table.specs.Outlines.is_before_last (gap ps)))) (chain_marks w AllPlain (export_chain xs ys b) (suc i) (gap ps)) ends
    one_named n l i (part m ps) ends e f h r =
        one_before n (exported n) (exported_standing n) l (cond b xs ys) (export_list (part m ps)) (chain_marks w AllPlain (export_chain xs ys b) (suc i) (part m ps) ++ ends) h r
        ∙ ap (λ v. here Plain ∷ (marks_in w (Rattle.printer.specs.Bits.after_bits (export_chain xs ys b) false false v) ++ (chain_marks w AllPlain (export_chain xs ys b) (suc i) (part m ps) ++ ends))) e
        ∙ marks_append (here Plain) (marks_in w (Rattle.printer.specs.Bits.after_bits (export_chain xs ys b) false false (Rattle.spelling_table.specs.Outlines.is_before_last (part m ps)))) (chain_marks w AllPlain (export_chain xs ys b) (suc i) (part m ps)) ends

  pub exports-marks : (xs ys : List Bit) (ends : List Mark) → piece_marks (sign "}" ∷ from_source) ≡ marks_in w xs ++ here Plain ∷ ends → piece_marks (sign "}" ∷ absent ∷ ending piece.of_export ∷ []) ≡ marks_in w ys ++ here Plain ∷ ends →
      (i : ℕ) (ps : Parts) → Runs (export_list ps) → piece_marks (export_list ps) ≡ chain_marks w AllPlain (export_chain xs ys (has_source ps)) i ps ++ ends
  exports-marks xs ys ends e h i none r = absurd (false≢true r)
  exports-marks xs ys ends e h i (gap none) r = h ∙ sym (append_assoc (marks_in w ys) (here Plain ∷ []) ends)
  exports-marks xs ys ends e h i (gap (gap ps)) r = absurd (false≢true r)
  exports-marks xs ys ends e h i (gap (part n ps)) r = absurd (false≢true r)
  exports-marks xs ys ends e h i (part n none) r = e ∙ sym (append_assoc (marks_in w xs) (here Plain ∷ []) ends)
  exports-marks xs ys ends e h i (part n (gap none)) r = one_named xs ys false n true i (gap none) ends refl refl (λ u. exports-marks xs ys ends e h (suc i) (gap none) u) r
  exports-marks xs ys ends e h i (part n (gap (gap ps))) r = one_named xs ys (has_source (gap (gap ps))) n false i (gap (gap ps)) ends refl refl (λ u. exports-marks xs ys ends e h (suc i) (gap (gap ps)) u) r
  exports-marks xs ys ends e h i (part n (gap (part m ps))) r = one_named xs ys (has_source (gap (part m ps))) n false i (gap (part m ps)) ends refl refl (λ u. exports-marks xs ys ends e h (suc i) (gap (part m ps)) u) r
  exports-marks xs ys ends e h i (part n (part m none)) r = one_named xs ys true n true i (part m none) ends refl refl (λ u. exports-marks xs ys ends e h (suc i) (part m none) u) r
  exports-marks xs ys ends e h i (part n (part m (gap ps))) r = one_named xs ys (has_source (part m (gap ps))) n false i (part m (gap ps)) ends refl refl (λ u. exports-marks xs ys ends e h (suc i) (part m (gap ps)) u) r
  exports-marks xs ys ends e h i (part n (part m (part l ps))) r = one_named xs ys (has_source (part m (part l ps))) n false i (part m (part l ps)) ends refl refl (λ u. exports-marks xs ys ends e h (suc i) (part m (part l ps)) u) r

  pub declarators-marks : (a : Role) → site_of a ≡ Plain → (i : ℕ) (ps : Parts) (qs : List Piece) → Runs (declarators a ps ++ qs) → piece_marks (declarators a ps ++ qs) ≡ chain_marks w AllPlain commas i ps ++ piece_marks qs
  declarators-marks a e i none qs r = absurd (false≢true r)
  declarators-marks a e i (gap ps) qs r = absurd (false≢true r)
  declarators-marks a e i (part n none) qs r = ap (λ x. here x ∷ piece_marks qs) e
  declarators-marks a e i (part n (gap ps)) qs r = absurd (false≢true r)
  declarators-marks a e i (part n (part m ps)) qs r = ap₂ (λ x t. here x ∷ text (codes ",") ∷ text (codes " ") ∷ t) e (declarators-marks a e (suc i) (part m ps) qs r)

  pub sequence-marks : (i : ℕ) (ps : Parts) (n : Tree) → Runs (sequence ps) → here Plain ∷ piece_marks (sequence ps) ≡ chain_marks w AllPlain commas i (part n ps)
  sequence-marks i none n r = refl
  sequence-marks i (gap ps) n r = absurd (false≢true r)
  sequence-marks i (part m ps) n r = ap (λ t. here Plain ∷ text (codes ",") ∷ text (codes " ") ∷ t) (sequence-marks (suc i) ps m r)

  -- what is asked of an element at an even place, and of an expression behind it
  element_at : (b : Bool) (i : ℕ) (l : Bool) → is_even i ≡ true → nat_eq i 0 ≡ b → chunk_site b l ≡ cond (is_even i) (chunk_site (nat_eq i 0) l) Plain
  element_at b i l e f = ap (λ c. chunk_site c l) (sym f) ∙ sym (ap (λ c. cond c (chunk_site (nat_eq i 0) l) Plain) e)

  odd_next : (i : ℕ) → is_even i ≡ true → is_even (suc i) ≡ false
  odd_next i e = grind (arith, nat_tests)

  even_next : (i : ℕ) → is_even i ≡ true → is_even (suc (suc i)) ≡ true
  even_next i e = grind (arith, nat_tests)

  not_first : (i : ℕ) → nat_eq (suc (suc i)) 0 ≡ false
  not_first i = grind (arith, nat_tests)

  pub chunks-marks : (b : Bool) (i : ℕ) (ps : Parts) → is_even i ≡ true → nat_eq i 0 ≡ b → Runs (template_elements b ps) → piece_marks (template_elements b ps) ≡ chain_marks w TemplateParts joined i ps
  chunks-marks b i none e f r = absurd (false≢true r)
  chunks-marks b i (gap ps) e f r = absurd (false≢true r)
  chunks-marks b i (part q none) e f r = ap (λ x. here x ∷ []) (element_at b i true e f)
  chunks-marks b i (part q (gap ps)) e f r = absurd (false≢true r)
  chunks-marks b i (part q (part m ps)) e f r =
      ap₂ (λ x t. here x ∷ t) (element_at b i false e f)
      (ap₂ (λ x t. here x ∷ t) (sym (ap (λ c. cond c (chunk_site (nat_eq (suc i) 0) (is_none ps)) Plain) (odd_next i e))) (chunks-marks false (suc (suc i)) ps (even_next i e) (not_first i) r))

  pub lines-marks : (a : Role) → site_of a ≡ Plain → (i : ℕ) (ps : Parts) (qs : List Piece) → Runs (table_lines a ps ++ qs) → piece_marks (table_lines a ps ++ qs) ≡ chain_marks w AllPlain lines i ps ++ piece_marks qs
  lines-marks a e i none qs r = refl
  lines-marks a e i (gap ps) qs r = absurd (false≢true r)
  lines-marks a e i (part n ps) qs r = ap₂ (λ x t. line ∷ here x ∷ t) e (lines-marks a e (suc i) ps qs r)

  pub members-marks : (i : ℕ) (ps : Parts) (qs : List Piece) → Runs (member_lines ps ++ qs) → piece_marks (member_lines ps ++ qs) ≡ chain_marks w AllPlain lines i ps ++ piece_marks qs
  members-marks i none qs r = refl
  members-marks i (gap ps) qs r = absurd (false≢true r)
  members-marks i (part n ps) qs r = ap (λ t. line ∷ here Plain ∷ t) (members-marks (suc i) ps qs r)

  item_plain : (r b : Bool) → site_of (cond b (piece.opening r) (piece.item r)) ≡ Plain
  item_plain r true = refl
  item_plain r false = refl

  pub body-marks : (r b : Bool) (i : ℕ) (ps : Parts) (qs : List Piece) → Runs (prologue r b (lay piece.line ∷ []) [] ps ++ qs) → piece_marks (prologue r b (lay piece.line ∷ []) [] ps ++ qs) ≡ chain_marks w AllPlain lines i ps ++ piece_marks qs
  body-marks r b i none qs u = refl
  body-marks r b i (gap ps) qs u = absurd (false≢true u)
  body-marks r b i (part n ps) qs u = ap₂ (λ x t. line ∷ here x ∷ t) (item_plain r b) (body-marks r (b && is_directive n) (suc i) ps qs u)

  pub items-marks : (r b : Bool) (i : ℕ) (ps : Parts) (qs : List Piece) → Runs (prologue r b [] (lay piece.feed ∷ []) ps ++ qs) → piece_marks (prologue r b [] (lay piece.feed ∷ []) ps ++ qs) ≡ chain_marks w AllPlain feeds i ps ++ piece_marks qs
  items-marks r b i none qs u = refl
  items-marks r b i (gap ps) qs u = absurd (false≢true u)
  items-marks r b i (part n ps) qs u = ap₂ (λ x t. here x ∷ feed ∷ t) (item_plain r b) (items-marks r (b && is_directive n) (suc i) ps qs u)

  module_item_plain : (m b : Bool) → site_of (cond m piece.module_item (cond b (piece.opening false) (piece.item false))) ≡ Plain
  module_item_plain true b = refl
  module_item_plain false true = refl
  module_item_plain false false = refl

  pub modules-marks : (b : Bool) (i : ℕ) (ps : Parts) (qs : List Piece) → Runs (module_prologue b ps ++ qs) → piece_marks (module_prologue b ps ++ qs) ≡ chain_marks w AllPlain feeds i ps ++ piece_marks qs
  modules-marks b i none qs u = refl
  modules-marks b i (gap ps) qs u = absurd (false≢true u)
  modules-marks b i (part n ps) qs u = ap₂ (λ x t. here x ∷ feed ∷ t) (module_item_plain (is_module_item (kind_of n)) b) (modules-marks (b && is_directive n) (suc i) ps qs u)
