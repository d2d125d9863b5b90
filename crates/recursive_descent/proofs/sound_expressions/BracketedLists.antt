-- Arrays, objects and templates as leftmost parts, and the patterns that they cover (ECMA-262 12.2.5, 12.2.6, 12.2.9, 12.15.5).
use Rattle.std.proofs.Common.{◌≡◌, ℕ, ◌≤◌, Bool, true, false, List, [], ◌∷◌, ◌++◌, refl, sym, ap, ◌∙◌, subst, Result, Ok, Err}
use Rattle.std.specs.Prelude.{IsTrue, Some, None, codes, ◌&&◌}
use Rattle.std.specs.Result.{IfOk}
use Rattle.std.proofs.lemmas.Bool.{false≢true}
use Rattle.source_text.specs.declared.fault.Fault.{Fault}
use Rattle.tokens.specs.declared.token.TokenClass.TheVariants.{Punctuator}
use Rattle.token_cursor.specs.CursorState.{CursorState}
use Rattle.tree.specs.declared.kind.Kind.{Kind}
use Rattle.tree.specs.declared.kind.Kind.TheVariants.{ArrayExpression, ObjectExpression, ArrayPattern, ObjectPattern, TemplateLiteral}
use Rattle.tree.specs.declared.kind.Pair.{Pair}
use Rattle.tree.specs.Tree.{Tree, node, plain, Parts, none, part, gap, bare, bare_parts, kind_of}
use Rattle.covers.specs.declared.shape.CoverShape.{CoverShape}
use Rattle.covers.specs.declared.shape.TargetForm.{TargetForm}
use Rattle.covers.specs.declared.shape.TargetForm.TheVariants as assigned
use Rattle.covers.specs.declared.list.ListItem.{ListItem}
use Rattle.covers.specs.declared.list.ListKind.TheVariants as listed
use Rattle.covers.specs.declared.list.ListBuilder.{ListBuilder as ListOf}
use Rattle.tree.specs.Patterns.{pattern_tree, pattern_parts}
use Rattle.covers.specs.Shapes.{value, is_element}
use Rattle.language.specs.declared.Rank.{Rank}
use Rattle.language.specs.declared.Rank.TheVariants.{Expression, Primary}
use Rattle.language.specs.declared.Start.{Start}
use Rattle.language.specs.declared.Start.TheVariants.{Any, NoBrace, Statement}
use Rattle.language.specs.declared.Edge.TheVariants.{Other}
use Rattle.language.specs.Vocabulary.{takes}
use Rattle.language.specs.Covers.{Reading, as_expression, as_pattern}
use Rattle.language.specs.Pieces.{Role, expr, pattern, template_element, Piece, at, tok, put, sign, listed as listing, elements, argument, pattern_element}
use Rattle.language.specs.Token.{Token}
use Rattle.language.specs.Expressions.{object_part, object_pattern_part, template_elements}
use Rattle.language.specs.Grammar.{starts}
use Rattle.language.specs.Derivation.{Placed, placed, step, token, within, done}
use Rattle.language.proofs.table.NodeForms.{array, object, template}
use Rattle.language.proofs.table.Begins.{goes_to}
use Rattle.language.proofs.table.FixedPieces.{Fixed, all_done, one_more, same_pieces, fixed_join, fixed_listed, fixed_elements, fixed_put}
use Rattle.language.proofs.list_loops.FirstItems.{item_piece, object_role, object_pattern_role, object_pieces, object_pattern_pieces}
use Rattle.language.proofs.climbing.SingleStarts.{fixed_chunks}
use Rattle.language.proofs.covers.PatternsByToken.{array_spells, object_spells}
use Rattle.language.proofs.table.Productions.{spell}
use Rattle.language.proofs.list_loops.FirstPieces.{run_never}
use Rattle.language.proofs.list_loops.TemplateElements.{chunk_found}
use Rattle.token_cursor.proofs.SeenTokens.{seen_determined}
use Rattle.recursive_descent.specs.Soundness.{RunsIn, Begins, SpelledAs, assigned_at, fits_as, PartAt, bare_role}
use Rattle.recursive_descent.specs.SoundnessOfLists.{ListAt, SoFarAt, is_list_shape, left_of}
use Rattle.recursive_descent.specs.Follows.{BegunTemplate, FirstChunkAt}
use Rattle.parser_tables.specs.Items.{list_from, with_item, listed_node, listed_part, listed_shape}
use Rattle.parser_tables.specs.Outcomes.{MakesAs}
use Rattle.token_cursor.specs.Seen.{ReadsHere}
use Rattle.recursive_descent.proofs.reading.AddedPairs.{runs_on}
use Rattle.recursive_descent.proofs.reading.Forward.{begins_mark}
use Rattle.recursive_descent.proofs.sound_expressions.ExpressionParts.{placed_at}
use Rattle.recursive_descent.proofs.sound_expressions.GroupContents.{listed_bare, elements_bare, element_bare, goes_on, argument_bare}
use Rattle.language.specs.Edges.{edge, edge_as_written}
use Rattle.token_cursor.specs.SourceText.{SourceText, SeenNext, behind_in}
use Rattle.recursive_descent.specs.Spelled.{SpellsIn}

-- what is made, where there is room
pub makes_ok : {X : Type 0} (x : X) (levels high : ℕ) (B : X → Type 0) (r : Result X Fault) → MakesAs x levels high r → (levels ≤ high → B x) → IfOk r B
makes_ok x levels high B (Ok made) h f = subst B (sym h.0) (f h.1)
makes_ok x levels high B (Err fault) h f = tt

object_bare : (n : Tree) → item_piece object_role (bare n) ≡ item_piece object_role n
object_bare (node k w g s e ps) = refl

property_bare : (b : Bool) (n : Tree) → item_piece (object_pattern_role b) (bare n) ≡ item_piece (object_pattern_role b) n
property_bare b (node k w g s e ps) = refl

chunks_bare : (b : Bool) (ps : Parts) → template_elements b (bare_parts ps) ≡ template_elements b ps
chunks_bare b none = refl
chunks_bare b (gap ps) = refl
chunks_bare b (part q none) = refl
chunks_bare b (part q (gap ps)) = refl
chunks_bare b (part q (part e ps)) = ap (λ x. put (template_element b false) ∷ put (expr Expression true Any) ∷ x) (chunks_bare false ps)

fixed_array : (ps : Parts) → Fixed ((sign "[" ∷ elements argument ps) ++ sign "]" ∷ [])
fixed_array ps = one_more refl (fixed_join (fixed_elements argument (λ n. refl) ps) (one_more refl all_done))

fixed_object : (ps : Parts) → Fixed ((sign "{" ∷ listing (item_piece object_role) ps) ++ sign "}" ∷ [])
fixed_object ps = one_more refl (fixed_join (fixed_listed (item_piece object_role) (λ n. fixed_put (object_role (kind_of n))) ps) (one_more refl all_done))

starts_bracket : (f : Start) (qs : List Piece) → IsTrue (starts f (sign "[" ∷ qs))
starts_bracket Any qs = refl
starts_bracket NoBrace qs = refl
starts_bracket Statement qs = refl

starts_chunks : (f : Start) (b : Bool) (ps : Parts) → IsTrue (starts f (template_elements b ps))
starts_chunks Any b ps = refl
starts_chunks NoBrace b none = refl
starts_chunks NoBrace b (gap ps) = refl
starts_chunks NoBrace b (part q none) = refl
starts_chunks NoBrace b (part q (gap ps)) = refl
starts_chunks NoBrace b (part q (part e ps)) = refl
starts_chunks Statement b none = refl
starts_chunks Statement b (gap ps) = refl
starts_chunks Statement b (part q none) = refl
starts_chunks Statement b (part q (gap ps)) = refl
starts_chunks Statement b (part q (part e ps)) = refl

module _ (text : SourceText) where
  -- pieces between two signs
  between : {o : ℕ} (v w : List ℕ) (qs : List Piece) {ps : Parts} {s m k e : Token} {P : List Pair} → ReadsHere text Punctuator v s m → RunsIn text o (goes_to Expression true Any qs) ps m k P → ReadsHere text Punctuator w k e →
      RunsIn text o (goes_to Expression true Any ((tok Punctuator v ∷ qs) ++ tok Punctuator w ∷ [])) ps s e P
  between {o} v w qs {ps} {s} {m} {k} {e} {P} left d right =
      step (token left) (subst (λ x. RunsIn text o x ps m e P) (sym (goes_on Expression true Any qs (tok Punctuator w ∷ []))) (runs_on text d (token right)))

  -- an array
  array_at : {o : ℕ} {h : Rank} {j : Bool} {f : Start} {ps : Parts} {st : ℕ} {s e : Token} {P : List Pair} → IsTrue (takes h Primary) → Placed Token (SeenNext text) (behind_in text) (expr h j f) (node ArrayExpression [] plain st e.stop ps) s e →
      RunsIn text o (goes_to Expression true Any ((sign "[" ∷ elements argument ps) ++ sign "]" ∷ [])) ps s e P → SpellsIn text o (expr h j f) (node ArrayExpression [] plain st e.stop ps) s e P
  array_at {o} {h} {j} {f} {ps} {st} {s} {e} {P} tk pl d =
      spell Token (SeenNext text) (behind_in text) (at Primary ((sign "[" ∷ elements argument (bare_parts ps)) ++ sign "]" ∷ [])) array refl tk refl (starts_bracket f (elements argument (bare_parts ps) ++ sign "]" ∷ [])) pl
      (subst (λ x. RunsIn text o x ps s e P) (ap (λ x. goes_to Expression true Any ((sign "[" ∷ x) ++ sign "]" ∷ [])) (sym (elements_bare argument argument_bare ps)) ∙ same_pieces Expression h true j Any f (fixed_array (bare_parts ps))) d)

  -- an object
  object_at : {o : ℕ} {h : Rank} {j : Bool} {ps : Parts} {st : ℕ} {s e : Token} {P : List Pair} → IsTrue (takes h Primary) → Placed Token (SeenNext text) (behind_in text) (expr h j Any) (node ObjectExpression [] plain st e.stop ps) s e →
      RunsIn text o (goes_to Expression true Any ((sign "{" ∷ listing object_part ps) ++ sign "}" ∷ [])) ps s e P → SpellsIn text o (expr h j Any) (node ObjectExpression [] plain st e.stop ps) s e P
  object_at {o} {h} {j} {ps} {st} {s} {e} {P} tk pl d =
      let names : listing object_part ps ≡ listing (item_piece object_role) (bare_parts ps) = object_pieces ps ∙ sym (listed_bare (item_piece object_role) object_bare ps) in
      spell Token (SeenNext text) (behind_in text) (at Primary ((sign "{" ∷ listing object_part (bare_parts ps)) ++ sign "}" ∷ [])) object refl tk refl refl pl
      (subst (λ x. RunsIn text o x ps s e P) (ap (λ x. goes_to Expression true Any ((sign "{" ∷ x) ++ sign "}" ∷ [])) names ∙ same_pieces Expression h true j Any Any (fixed_object (bare_parts ps)) ∙ ap (λ x. goes_to h j Any ((sign "{" ∷ x) ++ sign "}" ∷ [])) (sym (object_pieces (bare_parts ps)))) d)

  -- a template
  template_at : {o : ℕ} {h : Rank} {j : Bool} {f : Start} {ps : Parts} {st : ℕ} {s e : Token} {P : List Pair} → IsTrue (takes h Primary) → Placed Token (SeenNext text) (behind_in text) (expr h j f) (node TemplateLiteral [] plain st e.stop ps) s e →
      RunsIn text o (goes_to Expression true Any (template_elements true ps)) ps s e P → SpellsIn text o (expr h j f) (node TemplateLiteral [] plain st e.stop ps) s e P
  template_at {o} {h} {j} {f} {ps} {st} {s} {e} {P} tk pl d =
      spell Token (SeenNext text) (behind_in text) (at Primary (template_elements true (bare_parts ps))) template refl tk refl (starts_chunks f true (bare_parts ps)) pl
      (subst (λ x. RunsIn text o x ps s e P) (ap (goes_to Expression true Any) (sym (chunks_bare true ps)) ∙ same_pieces Expression h true j Any f (fixed_chunks true (bare_parts ps))) d)

  -- the pattern that an array covers, and an object
  array_pattern_at : {o : ℕ} {b : Bool} {f : Start} {ps : Parts} {st : ℕ} {s e : Token} {P : List Pair} → Placed Token (SeenNext text) (behind_in text) (pattern b f) (node ArrayPattern [] plain st e.stop ps) s e →
      RunsIn text o (goes_to Expression true Any ((sign "[" ∷ elements (pattern_element b) ps) ++ sign "]" ∷ [])) ps s e P → SpellsIn text o (pattern b f) (node ArrayPattern [] plain st e.stop ps) s e P
  array_pattern_at {o} {b} {f} {ps} {st} {s} {e} {P} pl d =
      array_spells Token (SeenNext text) (behind_in text) (seen_determined text) pl (subst (λ x. RunsIn text o x ps s e P) (ap (λ x. goes_to Expression true Any ((sign "[" ∷ x) ++ sign "]" ∷ [])) (sym (elements_bare (pattern_element b) (element_bare b) ps))) d)

  object_pattern_at : {o : ℕ} {b : Bool} {ps : Parts} {st : ℕ} {s e : Token} {P : List Pair} → Placed Token (SeenNext text) (behind_in text) (pattern b Any) (node ObjectPattern [] plain st e.stop ps) s e →
      RunsIn text o (goes_to Expression true Any ((sign "{" ∷ listing (object_pattern_part b) ps) ++ sign "}" ∷ [])) ps s e P → SpellsIn text o (pattern b Any) (node ObjectPattern [] plain st e.stop ps) s e P
  object_pattern_at {o} {b} {ps} {st} {s} {e} {P} pl d =
      let names : listing (object_pattern_part b) ps ≡ listing (item_piece (object_pattern_role b)) (bare_parts ps) = object_pattern_pieces b ps ∙ sym (listed_bare (item_piece (object_pattern_role b)) (property_bare b) ps) in
      object_spells Token (SeenNext text) (behind_in text) (seen_determined text) refl pl (subst (λ x. RunsIn text o x ps s e P) (ap (λ x. goes_to Expression true Any ((sign "{" ∷ x) ++ sign "}" ∷ [])) names) d)

  -- from the first token to the last
  pattern_placed : {b : Bool} {f : Start} {k : Kind} {from : ℕ} {ps : Parts} {s e : Token} → Begins text from s → Placed Token (SeenNext text) (behind_in text) (pattern b f) (node k [] plain from e.stop ps) s e
  pattern_placed {e = e} b = placed b.next (ap (λ (x : ℕ). (x, e.stop)) b.start)

  -- the part, from how it is spelled in each reading
  bracket_part : {i : Bool} {f : Start} (l : ListOf) {o : ℕ} {s e : Token} {P : List Pair} → Begins text l.span.start s → edge (listed_node l) ≡ Other → ((b : Bool) → fits_as (listed_shape l.listed l.seen.shape) (as_pattern b) ≡ true → SpelledAs (assigned_at (listed_shape l.listed l.seen.shape).assigned f b) text o (pattern_tree (listed_node l)) s e P) →
      ((a : Role) → bare_role (listed_node l) ≡ Some a → ⊥) → ((listed_shape l.listed l.seen.shape).is_expression ≡ true → (h : Rank) (j : Bool) → IsTrue (takes h Primary) → SpellsIn text o (expr h j f) (listed_node l) s e P) → PartAt text i f (listed_part l) o s e P
  bracket_part l {e = e} begins right pattern_is no_name st = record {
    begins = begins;
    edge = sym (ap (λ x. edge_as_written x e) right);
    goes_on = refl;
    stands = λ v h j tk lo. st v h j tk;
    assigned = λ b fits d. pattern_is b fits;
    bare = λ a h is. absurd (no_name a is);
    newly = λ h. cc;
  }

  -- a list's shape is a pattern, or none
  list_pattern : (A : TargetForm → Type 0) (a : TargetForm) → is_list_shape a ≡ true → is_element a ≡ true → A assigned.Pattern → A a
  list_pattern A assigned.Nothing h k p = cc
  list_pattern A assigned.Pattern h k p = p
  list_pattern A assigned.Target h k p = cc
  list_pattern A assigned.Defaulted h k p = cc

  fits_element : (x : CoverShape) (b : Bool) → fits_as x (as_pattern b) ≡ true → is_element x.assigned ≡ true
  fits_element x false h = h
  fits_element x true h = second x.binds h
    where
      second : (a : Bool) → (a && is_element x.assigned) ≡ true → is_element x.assigned ≡ true
      second true k = k
      second false k = absurd (false≢true k)

  no_bare : {A : Type 0} {a : Role} → None ≡ Some a → A
  no_bare h = cc

  -- the array
  pub array_part : {i : Bool} {f : Start} (l : ListOf) {o : ℕ} {s m e : Token} {P : List Pair} → is_list_shape l.seen.shape.assigned ≡ true → l.span.start ≡ m.start → l.span.end ≡ e.stop → ReadsHere text Punctuator (codes "[") s m → ListAt text Any (record l { listed = listed.Elements }) o m e P → PartAt text i f (listed_part (record l { listed = listed.Elements })) o s e P
  array_part {i} {f} l {o} {s} {m} {e} {P} right begin end left w =
      let begins : Begins text l.span.start s = begins_mark text begin left in
      bracket_part (record l { listed = listed.Elements }) begins refl
      (λ b fits. list_pattern (λ a. SpelledAs (assigned_at a f b) text o (node ArrayPattern [] plain l.span.start l.span.end (pattern_parts 0 l.nodes)) s e P) l.seen.shape.assigned right (fits_element l.seen.shape b fits) (record {
        role = pattern b f;
        it_is = refl;
        spelled = subst (λ x. SpellsIn text o (pattern b f) (node ArrayPattern [] plain l.span.start x (pattern_parts 0 l.nodes)) s e P) (sym end)
            (array_pattern_at (pattern_placed begins) (between (codes "[") (codes "]") (elements (pattern_element b) (pattern_parts 0 l.nodes)) left (w.runs (as_pattern b) (ap (λ c. (true && c) && true) fits)) w.closes));
      }))
      (λ a h. no_bare h)
      (λ v h j tk. subst (λ x. SpellsIn text o (expr h j f) (node ArrayExpression [] plain l.span.start x l.nodes) s e P) (sym end)
      (array_at tk (placed_at text begins) (between (codes "[") (codes "]") (elements argument l.nodes) left (w.runs as_expression (ap (λ c. (true && c) && true) v)) w.closes)))

  -- the object
  pub object_read : {i : Bool} (l : ListOf) {o : ℕ} {s m e : Token} {P : List Pair} → is_list_shape l.seen.shape.assigned ≡ true → l.span.start ≡ m.start → l.span.end ≡ e.stop → ReadsHere text Punctuator (codes "{") s m → ListAt text Any (record l { listed = listed.Properties }) o m e P → PartAt text i Any (listed_part (record l { listed = listed.Properties })) o s e P
  object_read {i} l {o} {s} {m} {e} {P} right begin end left w =
      let begins : Begins text l.span.start s = begins_mark text begin left in
      bracket_part (record l { listed = listed.Properties }) begins refl
      (λ b fits. list_pattern (λ a. SpelledAs (assigned_at a Any b) text o (node ObjectPattern [] plain l.span.start l.span.end (pattern_parts 0 l.nodes)) s e P) l.seen.shape.assigned right (fits_element l.seen.shape b fits) (record {
        role = pattern b Any;
        it_is = refl;
        spelled = subst (λ x. SpellsIn text o (pattern b Any) (node ObjectPattern [] plain l.span.start x (pattern_parts 0 l.nodes)) s e P) (sym end)
            (object_pattern_at (pattern_placed begins) (between (codes "{") (codes "}") (listing (object_pattern_part b) (pattern_parts 0 l.nodes)) left (w.runs (as_pattern b) (ap (λ c. (true && c) && true) fits)) w.closes));
      }))
      (λ a h. no_bare h)
      (λ v h j tk. subst (λ x. SpellsIn text o (expr h j Any) (node ObjectExpression [] plain l.span.start x l.nodes) s e P) (sym end)
      (object_at tk (placed_at text begins) (between (codes "{") (codes "}") (listing object_part l.nodes) left (w.runs as_expression (ap (λ c. (true && c) && true) v)) w.closes)))

  -- the template
  pub template_part : {i : Bool} {f : Start} (l : ListOf) {o : ℕ} {s e : Token} {P : List Pair} → Begins text l.span.start s → l.span.end ≡ e.stop → ListAt text Any (record l { listed = listed.Template }) o s e P → PartAt text i f (listed_part (record l { listed = listed.Template })) o s e P
  template_part {i} {f} l {o} {s} {e} {P} begins end w =
      bracket_part (record l { listed = listed.Template }) begins refl (λ b fits. absurd (no_pattern b fits)) (λ a h. no_bare h)
      (λ v h j tk. subst (λ x. SpellsIn text o (expr h j f) (node TemplateLiteral [] plain l.span.start x l.nodes) s e P) (sym end)
      (template_at tk (placed_at text begins) (subst (λ x. RunsIn text o (goes_to Expression true Any (template_elements true l.nodes)) l.nodes s x P) (sym w.closes) (w.runs as_expression refl))))
    where
      no_pattern : (b : Bool) → fits_as value (as_pattern b) ≡ true → ⊥
      no_pattern true h = absurd (false≢true h)
      no_pattern false h = absurd (false≢true h)

  -- the first part of a template, behind which it goes on
  first_spelled : (o : ℕ) (last : Bool) (n : Tree) {s e : Token} → FirstChunkAt text s e n last → SpellsIn text o (template_element true last) n s e []
  first_spelled o true n {s} {e} d = subst (λ x. SpellsIn text o (template_element true true) x s e []) (sym d.2) (chunk_found Token (SeenNext text) (behind_in text) (seen_determined text) d.1).spelled
  first_spelled o false n {s} {e} d = subst (λ x. SpellsIn text o (template_element true false) x s e []) (sym d.2) (chunk_found Token (SeenNext text) (behind_in text) (seen_determined text) d.1).spelled

  first_runs : (o : ℕ) (f : Start) (last : Bool) (n : Tree) {s m e : Token} {Q : List Pair} (a : Reading) (ps : Parts) → SpellsIn text o (template_element true last) n s m [] → RunsIn text o (goes_to Expression true f (left_of listed.Template last a ps)) ps m e Q → RunsIn text o (goes_to Expression true f (template_elements true (part n ps))) (part n ps) s e Q
  first_runs o f true n a none d done = within d done
  first_runs o f true n a (part k ps) d r = elim r [ ]
  first_runs o f true n a (gap ps) d r = elim r [ ]
  first_runs o f false n a none d r = absurd (run_never Token (SeenNext text) (behind_in text) r)
  first_runs o f false n a (gap ps) d r = absurd (run_never Token (SeenNext text) (behind_in text) r)
  first_runs o f false n a (part k ps) d r = within d r

  first_so_far : (f : Start) (from : ℕ) (c : ListItem) (o : ℕ) {s m : Token} → FirstChunkAt text s m c.node c.is_flagged → SoFarAt text f (with_item (list_from listed.Template from) c) o s m []
  first_so_far f from c o d as_expression fits = λ ps e Q r. first_runs o f c.is_flagged c.node as_expression ps (first_spelled o c.is_flagged c.node d) r
  first_so_far f from c o d (as_pattern b) fits = absurd (false≢true fits)

pub begun_so_far : (s m : CursorState) (l : ListOf) (f : Start) (o : ℕ) → BegunTemplate s m l → SoFarAt s.text f l o s.last m.last []
begun_so_far s m l f o d = subst (λ k. SoFarAt s.text f k o s.last m.last []) (sym d.list) (first_so_far s.text f l.span.start d.chunk o d.read)
