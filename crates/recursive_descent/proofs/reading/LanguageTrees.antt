-- Trees of a text's language: a node and its parts, lists of parts.
use Rattle.std.proofs.Common.{◌≡◌, ℕ, false, List, ◌∙◌, ap}
use Rattle.tree.specs.declared.kind.Pair.{Pair}
use Rattle.tree.specs.declared.kind.Kind.{Kind}
use Rattle.tree.specs.declared.kind.Flags.{Flags}
use Rattle.tree.specs.Tree.{Tree, node, Parts, none, part, gap, push, push_gap, join}
use Rattle.tree.specs.Patterns.{pattern_tree}
use Rattle.covers.proofs.BasePatterns.{pattern_later}
use Rattle.language.specs.declared.Language.TheVariants.{Base}
use Rattle.language.specs.Later.{is_later, some_has_later}
use Rattle.language.specs.Pieces.{Role}
use Rattle.language.specs.Token.{Token}
use Rattle.language.proofs.climbing.Spine.{Grows}
use Rattle.language.proofs.languages.BaseHeads.{grows_base}
use Rattle.language.proofs.languages.BaseTrees as base
use Rattle.token_cursor.specs.SourceText.{SourceText, SeenNext, behind_in}
use Rattle.recursive_descent.specs.Spelled.{OfLanguage, AllOfLanguage}

module _ {text : SourceText} where
  pub of_node : {k : Kind} {w : List ℕ} {g : Flags} {st en : ℕ} {ps : Parts} → (text.language ≡ Base → is_later (node k w g st en ps) ≡ false) → AllOfLanguage text ps → OfLanguage text (node k w g st en ps)
  of_node {k} {w} {g} {st} {en} {ps} h l = record { none_later = λ b. (base.base_node {k = k} {w = w} {g = g} {st = st} {en = en} {ps = ps} (h b) (record { none_later = l.none_later b })).none_later }

  pub kind_of_language : {k : Kind} {w : List ℕ} {g : Flags} {st en : ℕ} {ps : Parts} → OfLanguage text (node k w g st en ps) → text.language ≡ Base → is_later (node k w g st en ps) ≡ false
  kind_of_language {k} {w} {g} {st} {en} {ps} h b = base.base_kind {k = k} {w = w} {g = g} {st = st} {en = en} {ps = ps} (record { none_later = h.none_later b })

  pub parts_of_language : {k : Kind} {w : List ℕ} {g : Flags} {st en : ℕ} {ps : Parts} → OfLanguage text (node k w g st en ps) → AllOfLanguage text ps
  parts_of_language {k} {w} {g} {st} {en} {ps} h = record { none_later = λ b. (base.base_parts {k = k} {w = w} {g = g} {st = st} {en = en} {ps = ps} (record { none_later = h.none_later b })).none_later }

  pub of_none : AllOfLanguage text none
  of_none = record { none_later = λ b. base.base_none.none_later }

  pub of_empty : {ps : Parts} → ps ≡ none → AllOfLanguage text ps
  of_empty is = record { none_later = λ b. ap some_has_later is ∙ of_none.none_later b }

  pub of_part : {n : Tree} {ps : Parts} → OfLanguage text n → AllOfLanguage text ps → AllOfLanguage text (part n ps)
  of_part {n} {ps} h l = record { none_later = λ b. (base.base_part {n = n} {ps = ps} (record { none_later = h.none_later b }) (record { none_later = l.none_later b })).none_later }

  pub of_gap : {ps : Parts} → AllOfLanguage text ps → AllOfLanguage text (gap ps)
  of_gap {ps} h = record { none_later = λ b. (base.base_gap {ps = ps} (record { none_later = h.none_later b })).none_later }

  pub first_of_language : {n : Tree} {ps : Parts} → AllOfLanguage text (part n ps) → OfLanguage text n
  first_of_language {n} {ps} h = record { none_later = λ b. (base.base_first {n = n} {ps = ps} (record { none_later = h.none_later b })).none_later }

  pub others_of_language : {n : Tree} {ps : Parts} → AllOfLanguage text (part n ps) → AllOfLanguage text ps
  others_of_language {n} {ps} h = record { none_later = λ b. (base.base_others {n = n} {ps = ps} (record { none_later = h.none_later b })).none_later }

  pub behind_gap_of_language : {ps : Parts} → AllOfLanguage text (gap ps) → AllOfLanguage text ps
  behind_gap_of_language {ps} h = record { none_later = λ b. (base.base_behind_gap {ps = ps} (record { none_later = h.none_later b })).none_later }

  pub of_join : (ps qs : Parts) → AllOfLanguage text ps → AllOfLanguage text qs → AllOfLanguage text (join ps qs)
  of_join ps qs h l = record { none_later = λ b. (base.base_join ps qs (record { none_later = h.none_later b }) (record { none_later = l.none_later b })).none_later }

  pub join_of_language : (ps qs : Parts) → AllOfLanguage text (join ps qs) → AllOfLanguage text ps × AllOfLanguage text qs
  join_of_language ps qs h = (record { none_later = λ b. (base.join_base ps qs (record { none_later = h.none_later b })).0.none_later }, record { none_later = λ b. (base.join_base ps qs (record { none_later = h.none_later b })).1.none_later })

  pub of_push : (ps : Parts) (n : Tree) → AllOfLanguage text ps → OfLanguage text n → AllOfLanguage text (push ps n)
  of_push ps n h l = record { none_later = λ b. (base.base_push ps n (record { none_later = h.none_later b }) (record { none_later = l.none_later b })).none_later }

  pub push_of_language : (ps : Parts) (n : Tree) → AllOfLanguage text (push ps n) → AllOfLanguage text ps × OfLanguage text n
  push_of_language ps n h = (record { none_later = λ b. (base.push_base ps n (record { none_later = h.none_later b })).0.none_later }, record { none_later = λ b. (base.push_base ps n (record { none_later = h.none_later b })).1.none_later })

  -- what stands on the spine of a tree
  pub grown_language : {o : ℕ} {s e : Token} {P : List Pair} {n k : Tree} {b c : Role} {to : Token} {R : List Pair} → Grows Token (SeenNext text) (behind_in text) o s b n e P c k to R → OfLanguage text n → OfLanguage text k
  grown_language gs own = record { none_later = λ b. (grows_base Token (SeenNext text) (behind_in text) gs (record { none_later = own.none_later b })).none_later }

  pub of_push_gap : (ps : Parts) → AllOfLanguage text ps → AllOfLanguage text (push_gap ps)
  of_push_gap none h = of_gap of_none
  of_push_gap (part n ps) h = of_part {n = n} {ps = push_gap ps} (first_of_language {n = n} {ps = ps} h) (of_push_gap ps (others_of_language {n = n} {ps = ps} h))
  of_push_gap (gap ps) h = of_gap {ps = push_gap ps} (of_push_gap ps (behind_gap_of_language {ps = ps} h))

  -- what is assigned to, or bound, is of the language with what it was read as
  pub pattern_of_language : (n : Tree) → OfLanguage text n → OfLanguage text (pattern_tree n)
  pattern_of_language n h = record { none_later = λ b. pattern_later n ∙ h.none_later b }
