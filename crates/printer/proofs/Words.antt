-- A name or a literal, which is written as its own text.
use Rattle.std.proofs.Common.{◌≡◌, ℕ, Bool, true, false, List, [], ◌∷◌, refl, sym, ap, ◌∙◌, append-nil}
use Rattle.std.proofs.lemmas.Bool.{false≢true}
use Rattle.std.specs.Prelude.{None, ◌&&◌}
use Rattle.tree.specs.declared.kind.Kind.{Kind}
use Rattle.tree.specs.declared.kind.Kind.TheVariants as kind
use Rattle.tree.specs.declared.kind.Flags.{Flags}
use Rattle.tree.specs.Tree.{Tree, node, Parts, none, part, gap, kind_of, text_of, parts_of}
use Rattle.language.specs.Pieces.{Role, is_none}
use Rattle.language.specs.Grammar.{ways}
use Rattle.language.specs.LayoutFits.{parts_fit}
use Rattle.spelling_table.specs.declared.position.Position.{Position}
use Rattle.spelling_table.specs.declared.position.Position.TheVariants as at
use Rattle.spelling_table.specs.Outlines.{role_of}
use Rattle.printer.specs.Bits.{text, own_text, fronted}
use Rattle.printer.specs.Shapes.{shape_by_kind, sign_at}
use Rattle.printer.proofs.FragmentsByPosition.{shape_by, is_plain_at, is_word_at}
use Rattle.printer.specs.Sheets.{View, Writes}
use Rattle.printer.specs.Printed.{shape_marks, Reads, Direct, Written, spelled_so}
use Rattle.printer.proofs.WrittenTexts.{writes_as}
use Rattle.printer.proofs.NodeFragments.{passed_bits, passed_all}
use Rattle.printer.proofs.Whole.{spelled_parts, marks_framed, direct_by}

both : (u v : Bool) → (u && v) ≡ true → (u ≡ true) × (v ≡ true)
both true v h = (refl, h)
both false v h = absurd (false≢true h)

plain_shape : (p : Position) (k : Kind) (w : List ℕ) (g : Flags) (ps : Parts) → is_plain_at p ≡ true → shape_by p k w g ps ≡ shape_by_kind k w g ps
plain_shape at.ShorthandKey k w g ps h = absurd (false≢true h)
plain_shape (at.TemplateElement a b) k w g ps h = absurd (false≢true h)
plain_shape (at.Method x) k w g ps h = absurd (false≢true h)
plain_shape (at.ForDeclaration b) k w g ps h = absurd (false≢true h)
plain_shape _ k w g ps h = refl

-- what is known of a word: no sign, its shape, and no parts
abbrev IsWord : Position → Kind → List ℕ → Flags → Parts → Type 0
IsWord p k w g ps = (None ≡ sign_at k w g) × (shape_by p k w g ps ≡ fronted [] (own_text ∷ [])) × (is_none ps ≡ true)

word : (p : Position) (k : Kind) (w : List ℕ) (g : Flags) (ps : Parts) → is_word_at p k ps ≡ true → IsWord p k w g ps
word p kind.Identifier w g ps h = let u = both (is_none ps) (is_plain_at p) h in (refl, plain_shape p kind.Identifier w g ps u.1, u.0)
word p kind.Literal w g ps h = let u = both (is_none ps) (is_plain_at p) h in (refl, plain_shape p kind.Literal w g ps u.1, u.0)
word p _ w g ps h = absurd (false≢true h)

word_marks : (w : List ℕ) (ps : Parts) → is_none ps ≡ true → shape_marks w (fronted [] (own_text ∷ [])) ps ≡ text w ∷ []
word_marks w none h = refl
word_marks w (part n ps) h = absurd (false≢true h)
word_marks w (gap ps) h = absurd (false≢true h)

module _ (W : ℕ → Bool) where
  written : {a b : View} (w : List ℕ) (ps : Parts) (xs : List Role) (r d : ℕ) → is_none ps ≡ true → Reads W r a.flags → parts_fit W ps xs r ≡ true → Writes a b w → Written W a b (text w ∷ []) ps xs false d r
  written {a} {b} w none xs r d h u f x = passed_all W {ys = xs} {y = false} (passed_bits W w (own_text ∷ []) {ms = []} r u f (writes_as a b _ _ (sym (append-nil w)) x))
  written w (part n ps) xs r d h u f x = absurd (false≢true h)
  written w (gap ps) xs r d h u f x = absurd (false≢true h)

  -- a word by its text
  pub word_direct : {a b : View} (p : Position) (n : Tree) (r d : ℕ) → is_word_at p (kind_of n) (parts_of n) ≡ true → Reads W r a.flags → spelled_so W (parts_of n) (ways (role_of p) n) r ≡ true → Writes a b (text_of n) →
      Direct W a b (parts_of n) (ways (role_of p) n) r d
  word_direct {a} {b} p (node k w g s e ps) r d h u f x =
      let z = word p k w g ps h in
      let q = spelled_parts W ps (ways (role_of p) (node k w g s e ps)) r f in
      direct_by W (text w ∷ []) (marks_framed W p (node k w g s e ps) r z.0 q.0 q.1 ∙ ap (λ y. shape_marks w y ps) z.1 ∙ word_marks w ps z.2) refl q.1 (written w ps _ r d z.2 u q.2 x)
