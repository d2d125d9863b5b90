-- A template that is given: its first part, which begins it, and the rest as a list that was begun so (ECMA-262 12.2.9).
use Rattle.std.proofs.Common.{◌≡◌, ℕ, Bool, true, false, List, [], ◌∷◌, ◌++◌, refl, sym, ap, ◌∙◌, subst}
use Rattle.std.specs.Prelude.{IsTrue}
use Rattle.source_text.specs.declared.fault.Fault.{Fault}
use Rattle.source_text.specs.declared.fault.Fault.TheVariants.{Syntax}
use Rattle.tokens.specs.Goals.{allows}
use Rattle.tokens.specs.declared.token.TokenClass.TheVariants.{Template, End}
use Rattle.tokens.specs.declared.token.Goal.TheVariants.{Div}
use Rattle.token_cursor.specs.CursorState.{CursorState, OnlyEnd}
use Rattle.tree.specs.declared.kind.Kind.TheVariants.{TemplateLiteral}
use Rattle.tree.specs.declared.kind.Pair.{Pair}
use Rattle.tree.specs.Tree.{Tree, node, plain, Parts, none, part, gap, bare, bare_parts, join}
use Rattle.tree.specs.Uses.{is_lean}
use Rattle.tree.proofs.Lean.{lean_flags, lean_text}
use Rattle.covers.specs.declared.list.ListItem.{ListItem}
use Rattle.covers.specs.declared.list.ListKind.TheVariants as listed
use Rattle.covers.specs.declared.list.ListBuilder.{ListBuilder as ListOf}
use Rattle.covers.specs.Lists.{shape_with}
use Rattle.covers.specs.Shapes.{empty}
use Rattle.language.specs.declared.Rank.TheVariants.{Expression}
use Rattle.language.specs.declared.Start.TheVariants.{Any}
use Rattle.language.specs.Covers.{as_expression}
use Rattle.language.specs.Derivation.{direct, Runs, done, within}
use Rattle.language.specs.Expressions.{template_elements}
use Rattle.language.specs.Grammar.{ways, spellings}
use Rattle.language.specs.Pieces.{expr, tagged_quasi, template_element, put}
use Rattle.tokens.specs.Reading.{any_goal}
use Rattle.language.specs.Places.{NextIn, next_in}
use Rattle.language.specs.Languages.{class_in, seen_next}
use Rattle.language.specs.Promises.{ReadBy}
use Rattle.language.specs.Token.{Token, same_class}
use Rattle.language.proofs.table.Begins.{goes_to, retell}
use Rattle.language.proofs.lower_bound.Domination.{settled}
use Rattle.language.proofs.list_loops.FirstItems.{chunk_pieces, ChunkForm, last_chunk, more_chunks, chunk_form}
use Rattle.language.proofs.list_loops.TemplateElements.{chunk_text, chunk_told, chunk_found, chunk_not_last, chunk_last_one}
use Rattle.token_cursor.proofs.SeenTokens.{seen_determined, allows_seen}
use Rattle.language.proofs.climbing.BinaryTurns.{same_node}
use Rattle.language.proofs.table.ViewIsComplete.{way_of, one}
use Rattle.recursive_descent.specs.Soundness.{RunsIn}
use Rattle.recursive_descent.specs.SoundnessOfLists.{left_of}
use Rattle.recursive_descent.specs.Follows.{FirstChunkAt, BegunTemplate, NoTemplate}
use Rattle.recursive_descent.specs.CompletenessOfLists.{ListGiven, is_left}
use Rattle.parser_tables.specs.Items.{list_from, with_item}
use Rattle.token_cursor.proofs.TokensAhead.{by_goal, read_allows}
use Rattle.token_cursor.specs.SourceText.{SourceText, SeenNext, behind_in}
use Rattle.recursive_descent.specs.Spelled.{SpellsIn}

-- the goal reads nothing but the end, and so no template
pub only_ended : (text : SourceText) (s t m : Token) → OnlyEnd Div text s.stop → ReadBy Token (SeenNext text) (behind_in text) Div s t m → t.class ≡ End
only_ended text s t m only r = of t m r.next r.allowed
  where
    by : (v m : Token) → NextIn text.bytes any_goal s v m → IsTrue (allows Div v.class v.text) → v.class ≡ End
    by v m (next_in {t = w} other any x) al = only w (by_goal Div x (sym (read_allows Div w x.word x.text) ∙ al))

    of : (t m : Token) → SeenNext text s t m → IsTrue (allows Div t.class t.text) → t.class ≡ End
    of t m (seen_next {t = v} x) al = ap (λ c. class_in text.language c v.text) (by v m x (sym (allows_seen Div text.language v.class v.text) ∙ al))

pub no_template : (s : CursorState) (fault : Fault) → OnlyEnd Div s.text s.last.stop → NoTemplate listed.Template s fault
no_template s (Syntax at) only = λ is t m r. ap (λ c. same_class Template c) (only_ended s.text s.last t m only r)
no_template s _ only = tt

-- a template by its node and its parts
pub record TemplateGiven (text : SourceText) (o : ℕ) (n : Tree) (s e : Token) (P : List Pair) : Type 0 where
  pub st : ℕ
  pub en : ℕ
  pub parts : Parts
  pub tree : n ≡ node TemplateLiteral [] plain st en parts
  pub runs : Runs ways Token (SeenNext text) (behind_in text) o (chunk_pieces true parts) parts s e P

pub template_given : {text : SourceText} {o : ℕ} {n : Tree} {s e : Token} {P : List Pair} → SpellsIn text o tagged_quasi n s e P → TemplateGiven text o n s e P
unfolding spellings
template_given {text} {n = node TemplateLiteral w g st en ps} (direct qs way pl d) =
    let v = way_of way in
    let lean : is_lean (bare (node TemplateLiteral w g st en ps)) ≡ true = v.lean in
    record {
      st = st;
      en = en;
      parts = ps;
      tree = same_node refl (lean_text (bare (node TemplateLiteral w g st en ps)) lean refl) (lean_flags (bare (node TemplateLiteral w g st en ps)) lean) refl refl refl;
      runs = retell Token (SeenNext text) (behind_in text) (v.is ∙ ap (settled tagged_quasi) (one v.listed)) d;
    }
template_given {n = node _ w g st en ps} (direct qs way pl d) = elim ((way_of way).listed) [ ]

-- the token ahead is a template's
pub record TemplateAhead (text : SourceText) (s : Token) : Type 0 where
  pub mid : Token
  pub read : ReadBy Token (SeenNext text) (behind_in text) Div s (behind_in text mid) mid
  pub class : (behind_in text mid).class ≡ Template

-- the first token of a template is one
pub first_template : {text : SourceText} {b l : Bool} {o : ℕ} {n : Tree} {s e : Token} {P : List Pair} → b ≡ true → SpellsIn text o (template_element b l) n s e P → TemplateAhead text s
first_template {text} {b} {l} {s = s} {e = e} is d =
    let u = chunk_told Token (SeenNext text) (behind_in text) (seen_determined text) d in
    let at : behind_in text e ≡ u.sign = (seen_determined text).last s u.sign e u.reads.next in
    let allowed : IsTrue (allows Div u.sign.class u.sign.text) = subst (λ c. IsTrue (allows Div c u.sign.text)) (sym u.reads.class) (subst (λ c. IsTrue (allows Div Template c)) (sym u.reads.text) (subst (λ x. IsTrue (allows Div Template (chunk_text x l u.text))) (sym is) refl)) in
    record {
      mid = e;
      read = subst (λ x. ReadBy Token (SeenNext text) (behind_in text) Div s x e) (sym at) (record { next = u.reads.next; allowed = allowed });
      class = ap (λ (x : Token). x.class) at ∙ u.reads.class;
    }

form_begins : {text : SourceText} {o : ℕ} {ps : Parts} {s e : Token} {P : List Pair} → ChunkForm Token (SeenNext text) (behind_in text) o true s e P ps → TemplateAhead text s
form_begins (last_chunk p) = first_template refl p
form_begins (more_chunks p u r z) = first_template refl p

pub quasi_begins : (text : SourceText) {o : ℕ} {n : Tree} {s e : Token} {P : List Pair} → SpellsIn text o tagged_quasi n s e P → TemplateAhead text s
quasi_begins text d = let v = template_given d in form_begins (chunk_form Token (SeenNext text) (behind_in text) v.parts v.runs)

-- the pieces of a template don't depend on places
chunks_bare : (b : Bool) (ps : Parts) → template_elements b (bare_parts ps) ≡ template_elements b ps
chunks_bare b none = refl
chunks_bare b (gap ps) = refl
chunks_bare b (part q none) = refl
chunks_bare b (part q (gap ps)) = refl
chunks_bare b (part q (part e ps)) = ap (λ x. put (template_element b false) ∷ put (expr Expression true Any) ∷ x) (chunks_bare false ps)

-- What is left of a given template behind its first part, as that was read.
pub record RestRuns (text : SourceText) (o : ℕ) (last : Bool) (n : Tree) (ps : Parts) (m e : Token) (P : List Pair) : Type 0 where
  pub rest : Parts
  pub parts : ps ≡ part n rest
  pub runs : RunsIn text o (goes_to Expression true Any (left_of listed.Template last as_expression rest)) rest m e P

pub rest_runs : {text : SourceText} {o : ℕ} (last : Bool) {n : Tree} {ps : Parts} {s m e : Token} {P : List Pair} → FirstChunkAt text s m n last → ChunkForm Token (SeenNext text) (behind_in text) o true s e P ps → RestRuns text o last n ps m e P
rest_runs {text} {o} true {n} {m = m} {e = e} {P = P} f (last_chunk {q = q} p) =
    let same = (chunk_found Token (SeenNext text) (behind_in text) (seen_determined text) {b = true} {l = true} {o = o} f.1).only o e q P p in
    record { rest = none; parts = ap (λ c. part c none) (same.1 ∙ sym f.2); runs = subst (λ c. RunsIn text o [] none m e c) (sym same.2) (subst (λ c. RunsIn text o [] none m c []) (sym same.0) done) }
rest_runs {text} {o} true f (more_chunks {q = q} {m = k} {A = A} p u r z) = absurd ((chunk_last_one Token (SeenNext text) (behind_in text) (seen_determined text) f.0 f.1).nothing o k q A p)
rest_runs {text} {o} false {e = e} {P = P} f (last_chunk {q = q} p) = absurd ((chunk_not_last Token (SeenNext text) (behind_in text) (seen_determined text) f.0 f.1).nothing o e q P p)
rest_runs {text} {o} false {n} {m = m} {e = e} {P = P} f (more_chunks {q = q} {n = n'} {ps = ps} {m = k} {k = v} {A = A} {B = B} {C = C} p u r z) =
    let same = (chunk_found Token (SeenNext text) (behind_in text) (seen_determined text) {b = true} {l = false} {o = o} f.1).only o k q A p in
    let later : RunsIn text o (goes_to Expression true Any (template_elements false ps)) ps v e C = retell Token (SeenNext text) (behind_in text) (ap (goes_to Expression true Any) (chunks_bare false ps)) r in
    let all : RunsIn text o (goes_to Expression true Any (left_of listed.Template false as_expression (part n' ps))) (part n' ps) m e (B ++ C) = within (subst (λ c. SpellsIn text o (expr Expression true Any) n' c v B) same.0 u) later in
    let pairs : P ≡ B ++ C = z ∙ ap (λ c. c ++ (B ++ C)) same.2 in
    record { rest = part n' ps; parts = ap (λ c. part c (part n' ps)) (same.1 ∙ sym f.2); runs = subst (λ c. RunsIn text o (goes_to Expression true Any (left_of listed.Template false as_expression (part n' ps))) (part n' ps) m e c) (sym pairs) all }

-- the rest is given as that of a list which was begun by its first part
pub record TemplateRest (text : SourceText) (o : ℕ) (l : ListOf) (ps : Parts) (m e : Token) (P : List Pair) : Type 0 where
  pub rest : Parts
  pub parts : ps ≡ join l.nodes rest
  pub given : ListGiven text l as_expression o rest m e P

rest_list : (text : SourceText) (o at : ℕ) (c : ListItem) (ps : Parts) (m e : Token) (P : List Pair) → (c.shape.is_expression ≡ true) × (c.spreads ≡ false) → RestRuns text o c.is_flagged c.node ps m e P → TemplateRest text o (with_item (list_from listed.Template at) c) ps m e P
rest_list text o at c ps m e P plain r =
    let value : is_left (with_item (list_from listed.Template at) c) as_expression ≡ true = ap (λ b. (shape_with b listed.Template empty c.shape).is_expression) plain.1 ∙ plain.0 in
    record { rest = r.rest; parts = r.parts; given = record { left = value; mid = e; runs = r.runs; closes = refl; last = tt; no_rest = refl; lone = refl; one_default = refl } }

pub template_rest : {s m : CursorState} {l : ListOf} {o : ℕ} {n : Tree} {e : Token} {P : List Pair} → BegunTemplate s m l → SpellsIn s.text o tagged_quasi n s.last e P → (v : TemplateGiven s.text o n s.last e P) × TemplateRest s.text o l v.parts m.last e P
template_rest {s} {m} {l} {o} {n} {e} {P} b d =
    let v = template_given d in
    let r = rest_runs b.chunk.is_flagged b.read (chunk_form Token (SeenNext s.text) (behind_in s.text) v.parts v.runs) in
    (v, subst (λ k. TemplateRest s.text o k v.parts m.last e P) (sym b.list) (rest_list s.text o l.span.start b.chunk v.parts m.last e P b.plain r))
