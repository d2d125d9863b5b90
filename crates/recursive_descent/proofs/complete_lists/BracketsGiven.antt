-- An array, an object or the pattern of one, as a list that is given between its brackets (ECMA-262 12.2.5, 12.2.6, 12.15.5, 13.3.3).
use Rattle.std.proofs.Common.{◌≡◌, ℕ, Bool, true, false, List, [], ◌∷◌, ◌++◌, refl, sym, ap, ◌∙◌, subst}
use Rattle.std.specs.Prelude.{IsTrue, codes}
use Rattle.std.proofs.lemmas.Bool.{true≢false}
use Rattle.tokens.specs.Goals.{allows}
use Rattle.tokens.specs.declared.token.TokenClass.TheVariants.{Punctuator}
use Rattle.tokens.specs.declared.token.Goal.TheVariants.{RegExp}
use Rattle.tree.specs.declared.kind.Kind.{Kind}
use Rattle.tree.specs.declared.kind.Kind.TheVariants.{ArrayExpression, ArrayPattern, ObjectExpression, ObjectPattern, TemplateLiteral, AssignmentExpression}
use Rattle.tree.specs.declared.kind.Flags.{Flags}
use Rattle.tree.specs.declared.kind.Pair.{Pair}
use Rattle.tree.specs.Tree.{Tree, node, Parts, bare, bare_parts, kind_of, plain}
use Rattle.tree.specs.Uses.{is_lean, used_flags, has_text}
use Rattle.tree.proofs.Lean.{lean_flags, lean_text}
use Rattle.covers.specs.declared.list.ListKind.{ListKind}
use Rattle.covers.specs.declared.list.ListKind.TheVariants as listed
use Rattle.language.specs.declared.Rank.{Rank}
use Rattle.language.specs.declared.Rank.TheVariants.{Expression, Primary}
use Rattle.language.specs.declared.Start.{Start}
use Rattle.language.specs.declared.Start.TheVariants.{Any}
use Rattle.language.specs.Covers.{Reading, as_expression, as_pattern}
use Rattle.language.specs.Expressions.{object_part, object_pattern_part}
use Rattle.language.specs.ExpressionStart.{ExpressionStart, with_bracket, with_brace, expression_start, expression_start_by}
use Rattle.language.specs.Pieces.{Role, Piece, tok, sign, expr, pattern, elements, argument, pattern_element}
use Rattle.language.specs.Pieces.{listed as listing}
use Rattle.language.specs.Promises.{ReadBy}
use Rattle.language.specs.Token.{Token}
use Rattle.language.specs.Vocabulary.{takes}
use Rattle.language.specs.Derivation.{Reads, Placed, placed, place}
use Rattle.language.proofs.table.Begins.{goes_to, retell}
use Rattle.language.proofs.climbing.LeftmostParts.{Cored, in_way, core_by}
use Rattle.language.proofs.table.FixedPieces.{Fixed, all_done, one_more, same_pieces, fixed_join, fixed_listed, fixed_elements, fixed_put}
use Rattle.language.proofs.table.TokenFirstWays.{head_array, head_object, head_array_pattern, head_object_pattern}
use Rattle.language.proofs.climbing.Leaves.{core_primary}
use Rattle.language.proofs.list_loops.FirstItems.{object_role, item_piece, object_pieces, object_pattern_role, object_pattern_pieces}
use Rattle.language.proofs.covers.PatternsByToken.{PatternCore, as_array, as_object, pattern_core}
use Rattle.language.proofs.list_loops.FirstPieces.{run_token}
use Rattle.token_cursor.proofs.SeenTokens.{seen_determined}
use Rattle.language.proofs.climbing.BinaryTurns.{same_node}
use Rattle.parser_tables.specs.declared.expression_context.ExpressionContext.{ExpressionContext}
use Rattle.recursive_descent.specs.Soundness.{RunsIn, anywhere}
use Rattle.recursive_descent.specs.SoundnessOfLists.{item_pieces}
use Rattle.recursive_descent.specs.Completeness.{FirstAs, a_core, a_pattern, a_name, an_async_call}
use Rattle.token_cursor.specs.Seen.{ReadsHere, Sees}
use Rattle.recursive_descent.proofs.complete_expressions.Agreement.{read_here}
use Rattle.recursive_descent.proofs.sound_expressions.GroupContents.{listed_bare, elements_bare, element_bare, argument_bare, goes_on}
use Rattle.recursive_descent.proofs.complete_expressions.StartsGiven.{is_named, no_name, no_async_name}
use Rattle.token_cursor.specs.SourceText.{SourceText, SeenNext, behind_in}
use Rattle.recursive_descent.proofs.reading.PiecesBeforeToken.{run_before}

object_bare : (n : Tree) → item_piece object_role (bare n) ≡ item_piece object_role n
object_bare (node k w g s e ps) = refl

property_bare : (b : Bool) (n : Tree) → item_piece (object_pattern_role b) (bare n) ≡ item_piece (object_pattern_role b) n
property_bare b (node k w g s e ps) = refl

fixed_array : (ps : Parts) → Fixed ((sign "[" ∷ elements argument ps) ++ sign "]" ∷ [])
fixed_array ps = one_more refl (fixed_join (fixed_elements argument (λ n. refl) ps) (one_more refl all_done))

fixed_object : (ps : Parts) → Fixed ((sign "{" ∷ listing (item_piece object_role) ps) ++ sign "}" ∷ [])
fixed_object ps = one_more refl (fixed_join (fixed_listed (item_piece object_role) (λ n. fixed_put (object_role (kind_of n))) ps) (one_more refl all_done))

-- the kind of the node, in each reading, and its signs
abbrev pub bracket_kind : ListKind → Reading → Kind
bracket_kind listed.Elements as_expression = ArrayExpression
bracket_kind listed.Elements (as_pattern b) = ArrayPattern
bracket_kind listed.Properties as_expression = ObjectExpression
bracket_kind listed.Properties (as_pattern b) = ObjectPattern
bracket_kind _ a = TemplateLiteral

abbrev pub left_sign : ListKind → List ℕ
left_sign listed.Properties = codes "{"
left_sign _ = codes "["

abbrev pub right_sign : ListKind → List ℕ
right_sign listed.Properties = codes "}"
right_sign _ = codes "]"

-- A list between brackets.
pub record BracketsGiven (text : SourceText) (o : ℕ) (what : ListKind) (a : Reading) (h : Rank) (n : Tree) (s to : Token) (Q : List Pair) : Type 0 where
  pub first : Token
  pub parts : Parts
  pub tree : n ≡ node (bracket_kind what a) [] plain first.start to.stop parts
  pub taken : IsTrue (takes h Primary)
  pub left : ReadsHere text Punctuator (left_sign what) s first
  pub mid : Token
  pub runs : RunsIn text o (anywhere (item_pieces what a parts)) parts first mid Q
  pub right : ReadsHere text Punctuator (right_sign what) mid to

-- what begins with a bracket, and with a brace
abbrev begins_square : ExpressionStart → Bool
begins_square with_bracket = true
begins_square _ = false

abbrev begins_curly : ExpressionStart → Bool
begins_curly with_brace = true
begins_curly _ = false

module _ (text : SourceText) where
  -- what runs between two signs
  record Between (o : ℕ) (v w : List ℕ) (qs : List Piece) (ps : Parts) (s to : Token) (Q : List Pair) : Type 0 where
    first : Token
    left : ReadsHere text Punctuator v s first
    mid : Token
    runs : RunsIn text o (anywhere qs) ps first mid Q
    right : ReadsHere text Punctuator w mid to

  split : {o : ℕ} (v w : List ℕ) (qs : List Piece) {ps : Parts} {s to : Token} {Q : List Pair} → RunsIn text o (goes_to Expression true Any ((tok Punctuator v ∷ qs) ++ tok Punctuator w ∷ [])) ps s to Q → Between o v w qs ps s to Q
  split {o} v w qs {ps} {s} {to} {Q} d =
      let a = run_token Token (SeenNext text) (behind_in text) d in
      let z = run_before text (anywhere qs) (subst (λ x. RunsIn text o x ps a.mid to Q) (goes_on Expression true Any qs (tok Punctuator w ∷ [])) a.runs) in
      record { first = a.mid; left = read_here text a.reads; mid = z.mid; runs = z.runs; right = z.sign }

  -- from the sign to the last token
  brackets : {o : ℕ} {what : ListKind} {a : Reading} {h : Rank} {n : Tree} {s to : Token} {Q : List Pair} {st en : ℕ} {ps : Parts} → n ≡ node (bracket_kind what a) [] plain st en ps → ((t x : Token) → SeenNext text s t x → (st ≡ t.start) × (en ≡ to.stop)) → IsTrue (takes h Primary) →
      Between o (left_sign what) (right_sign what) (item_pieces what a ps) ps s to Q → BracketsGiven text o what a h n s to Q
  brackets {what = what} {a = a} {ps = ps} is ends tk b =
      let at = ends (behind_in text b.first) b.first b.left.next in
      record { first = b.first; parts = ps; tree = is ∙ (λ i. node (bracket_kind what a) [] plain (at.0 i) (at.1 i) ps); taken = tk; left = b.left; mid = b.mid; runs = b.runs; right = b.right }

  spans : {r : Role} {k : Kind} {w : List ℕ} {g : Flags} {st en : ℕ} {ps : Parts} {s m : Token} → ((t l : Token) → place r t l ≡ (t.start, l.stop)) → Placed Token (SeenNext text) (behind_in text) r (node k w g st en ps) s m → (t x : Token) → SeenNext text s t x → (st ≡ t.start) × (en ≡ m.stop)
  spans {s = s} {m = m} at (placed {t = v} {m = k} nx p) t x next =
      let u = sym (at v (behind_in text m)) ∙ p in
      (sym (ap (λ (x : ℕ × ℕ). x.0) u) ∙ (seen_determined text).start s v t k x nx next, sym (ap (λ (x : ℕ × ℕ). x.1) u))

  -- what a sign opens that is read there
  sign_opening : {s t e u m : Token} {w : List ℕ} {x y : ExpressionStart} → ReadBy Token (SeenNext text) (behind_in text) RegExp s u m → expression_start u ≡ x → Reads Token (SeenNext text) (behind_in text) Punctuator w s t e → IsTrue (allows RegExp Punctuator w) → expression_start_by Punctuator w ≡ y → x ≡ y
  sign_opening {s} {t} {e} {u} {m} {w} r opens h al is =
      let allowed : IsTrue (allows RegExp t.class t.text) = subst (λ c. IsTrue (allows RegExp c t.text)) (sym h.class) (subst (λ c. IsTrue (allows RegExp Punctuator c)) (sym h.text) al) in
      sym opens ∙ ap expression_start ((seen_determined text).same RegExp s u t m e r.next h.next r.allowed allowed).0 ∙ (λ i. expression_start_by (h.class i) (h.text i)) ∙ is

  array_cored : {o : ℕ} {h : Rank} {j : Bool} {f : Start} {n : Tree} {s to u x : Token} {Q : List Pair} → IsTrue (takes h Primary) → ReadBy Token (SeenNext text) (behind_in text) RegExp s u x → expression_start u ≡ with_bracket → (kind_of n ≡ AssignmentExpression → Sees text Punctuator (codes "(") s) → Cored Token (SeenNext text) (behind_in text) (seen_determined text) o h j f n s to Q with_bracket →
      BracketsGiven text o listed.Elements as_expression h n s to Q
  array_cored {o} {h} {j} {f} {n} {s} {to} {u} {x} {Q} tk r opens lone (in_way {k = k0} {w = w} {g = g} {st = st} {en = en} {ps = ps} tree (head_array kind q) lean pl d) =
      let bares : is_lean (bare (node k0 w g st en ps)) ≡ true = ap (λ v. is_lean (bare v)) (sym tree) ∙ lean in
      let same : n ≡ node ArrayExpression [] plain st en ps = tree ∙ same_node kind (lean_text (bare (node k0 w g st en ps)) bares (ap has_text kind)) (lean_flags (bare (node k0 w g st en ps)) bares ∙ ap (λ v. used_flags v g) kind) refl refl refl in
      brackets same (spans {r = expr h j f} (λ t l. refl) (subst (λ c. Placed Token (SeenNext text) (behind_in text) (expr h j f) c s to) tree pl)) tk
      (split (codes "[") (codes "]") (elements argument ps) (retell Token (SeenNext text) (behind_in text) (q ∙ same_pieces h Expression j true f Any (fixed_array (bare_parts ps)) ∙ ap (λ x. goes_to Expression true Any ((sign "[" ∷ x) ++ sign "]" ∷ [])) (elements_bare argument argument_bare ps)) d))
  array_cored tk r opens lone (in_way tree (head_array_pattern kind op e l tk2 q) lean pl d) = let u = lone (ap kind_of tree ∙ kind) in absurd (true≢false (ap begins_square (sign_opening r opens u.1 refl refl)))

  object_cored : {o : ℕ} {h : Rank} {j : Bool} {f : Start} {n : Tree} {s to u x : Token} {Q : List Pair} → IsTrue (takes h Primary) → ReadBy Token (SeenNext text) (behind_in text) RegExp s u x → expression_start u ≡ with_brace → (kind_of n ≡ AssignmentExpression → Sees text Punctuator (codes "(") s) → Cored Token (SeenNext text) (behind_in text) (seen_determined text) o h j f n s to Q with_brace →
      BracketsGiven text o listed.Properties as_expression h n s to Q
  object_cored {o} {h} {j} {f} {n} {s} {to} {u} {x} {Q} tk r opens lone (in_way {k = k0} {w = w} {g = g} {st = st} {en = en} {ps = ps} tree (head_object kind b q) lean pl d) =
      let bares : is_lean (bare (node k0 w g st en ps)) ≡ true = ap (λ v. is_lean (bare v)) (sym tree) ∙ lean in
      let same : n ≡ node ObjectExpression [] plain st en ps = tree ∙ same_node kind (lean_text (bare (node k0 w g st en ps)) bares (ap has_text kind)) (lean_flags (bare (node k0 w g st en ps)) bares ∙ ap (λ v. used_flags v g) kind) refl refl refl in
      let names : listing (item_piece object_role) (bare_parts ps) ≡ listing object_part ps = listed_bare (item_piece object_role) object_bare ps ∙ sym (object_pieces ps) in
      brackets same (spans {r = expr h j f} (λ t l. refl) (subst (λ c. Placed Token (SeenNext text) (behind_in text) (expr h j f) c s to) tree pl)) tk
      (split (codes "{") (codes "}") (listing object_part ps) (retell Token (SeenNext text) (behind_in text) (q ∙ ap (λ v. goes_to h j f ((sign "{" ∷ v) ++ sign "}" ∷ [])) (object_pieces (bare_parts ps)) ∙ same_pieces h Expression j true f Any (fixed_object (bare_parts ps)) ∙ ap (λ x. goes_to Expression true Any ((sign "{" ∷ x) ++ sign "}" ∷ [])) names) d))
  object_cored tk r opens lone (in_way tree (head_object_pattern kind op e l tk2 q) lean pl d) = let u = lone (ap kind_of tree ∙ kind) in absurd (true≢false (ap begins_curly (sign_opening r opens u.1 refl refl)))

  pattern_array : {o : ℕ} {b : Bool} {f : Start} {n : Tree} {s to u x : Token} {Q : List Pair} → ReadBy Token (SeenNext text) (behind_in text) RegExp s u x → expression_start u ≡ with_bracket → PatternCore Token (SeenNext text) (behind_in text) (seen_determined text) o b f n s to Q → BracketsGiven text o listed.Elements (as_pattern b) Primary n s to Q
  pattern_array {o} {b} {f} {n} {s} {to} {u} {x} {Q} r opens (as_array {ps = ps} tree pl d) = brackets tree (spans {r = pattern b f} (λ t l. refl) pl) refl
      (split (codes "[") (codes "]") (elements (pattern_element b) ps) (retell Token (SeenNext text) (behind_in text) (ap (λ x. goes_to Expression true Any ((sign "[" ∷ x) ++ sign "]" ∷ [])) (elements_bare (pattern_element b) (element_bare b) ps)) d))
  pattern_array r opens (as_object tree begins pl d) = let a = run_token Token (SeenNext text) (behind_in text) d in absurd (true≢false (ap begins_square (sign_opening r opens a.reads refl refl)))

  pattern_object : {o : ℕ} {b : Bool} {f : Start} {n : Tree} {s to u x : Token} {Q : List Pair} → ReadBy Token (SeenNext text) (behind_in text) RegExp s u x → expression_start u ≡ with_brace → PatternCore Token (SeenNext text) (behind_in text) (seen_determined text) o b f n s to Q → BracketsGiven text o listed.Properties (as_pattern b) Primary n s to Q
  pattern_object {o} {b} {f} {n} {s} {to} {u} {x} {Q} r opens (as_object {ps = ps} tree begins pl d) =
      let names : listing (item_piece (object_pattern_role b)) (bare_parts ps) ≡ listing (object_pattern_part b) ps = listed_bare (item_piece (object_pattern_role b)) (property_bare b) ps ∙ sym (object_pattern_pieces b ps) in
      brackets tree (spans {r = pattern b f} (λ t l. refl) pl) refl
      (split (codes "{") (codes "}") (listing (object_pattern_part b) ps) (retell Token (SeenNext text) (behind_in text) (ap (λ x. goes_to Expression true Any ((sign "{" ∷ x) ++ sign "}" ∷ [])) names) d))
  pattern_object r opens (as_array tree pl d) = let a = run_token Token (SeenNext text) (behind_in text) d in absurd (true≢false (ap begins_curly (sign_opening r opens a.reads refl refl)))

  -- what begins with a bracket or a brace, that is read
  pub array_given : {p : ExpressionContext} {o : ℕ} {n : Tree} {s u x to : Token} {Q : List Pair} {a : Reading} {h : Rank} → ReadBy Token (SeenNext text) (behind_in text) RegExp s u x → expression_start u ≡ with_bracket → FirstAs text p o n s to Q a h → BracketsGiven text o listed.Elements a h n s to Q
  array_given r opens (a_core other same b called lone unasync) = array_cored (core_primary Token (SeenNext text) (behind_in text) (seen_determined text) b.core r (λ e. true≢false (ap begins_square (sym opens ∙ e)))) r opens lone (core_by Token (SeenNext text) (behind_in text) (seen_determined text) r opens b.core)
  array_given r opens (a_pattern d) = pattern_array r opens (pattern_core Token (SeenNext text) (behind_in text) (seen_determined text) d)
  array_given r opens (a_name d ends) = no_name text r (ap is_named opens) d
  array_given r opens (an_async_call tk call fits d st gs) = no_async_name text r (ap is_named opens) call

  pub object_given : {p : ExpressionContext} {o : ℕ} {n : Tree} {s u x to : Token} {Q : List Pair} {a : Reading} {h : Rank} → ReadBy Token (SeenNext text) (behind_in text) RegExp s u x → expression_start u ≡ with_brace → FirstAs text p o n s to Q a h → BracketsGiven text o listed.Properties a h n s to Q
  object_given r opens (a_core other same b called lone unasync) = object_cored (core_primary Token (SeenNext text) (behind_in text) (seen_determined text) b.core r (λ e. true≢false (ap begins_curly (sym opens ∙ e)))) r opens lone (core_by Token (SeenNext text) (behind_in text) (seen_determined text) r opens b.core)
  object_given r opens (a_pattern d) = pattern_object r opens (pattern_core Token (SeenNext text) (behind_in text) (seen_determined text) d)
  object_given r opens (a_name d ends) = no_name text r (ap is_named opens) d
  object_given r opens (an_async_call tk call fits d st gs) = no_async_name text r (ap is_named opens) call
