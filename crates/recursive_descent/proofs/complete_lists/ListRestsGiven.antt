-- A list that is given, from behind what begins it on (ECMA-262 12.2.5, 12.2.6, 12.2.9).
use Rattle.std.proofs.Common.{◌≡◌, ℕ, suc, ◌≤◌, ◌-◌, max, true, false, List, [], refl, sym, ap, ◌∙◌, subst, arith}
use Rattle.std.specs.Prelude.{IsTrue, Some}
use Rattle.source_text.specs.declared.fault.Fault.{Fault}
use Rattle.std.proofs.lemmas.Bool.{false≢true}
use Rattle.source_text.specs.declared.fault.Fault.TheVariants.{Syntax, TooDeep, OutOfMemory}
use Rattle.tokens.specs.Goals.{allows}
use Rattle.tokens.specs.declared.token.TokenClass.TheVariants.{Template}
use Rattle.tokens.specs.declared.token.Goal.TheVariants.{Div}
use Rattle.tree.specs.declared.kind.Kind.TheVariants.{TemplateLiteral}
use Rattle.covers.specs.declared.list.ListItem.{ListItem}
use Rattle.covers.specs.Lists.{shape_with}
use Rattle.covers.specs.Shapes.{empty}
use Rattle.language.specs.declared.Rank.TheVariants.{Expression, Primary}
use Rattle.language.specs.declared.Start.TheVariants.{Any}
use Rattle.language.specs.Promises.{ReadBy}
use Rattle.language.specs.Vocabulary.{takes, is_target as is_simple}
use Rattle.language.proofs.table.Begins.{goes_to}
use Rattle.language.proofs.list_loops.FirstItems.{ChunkForm, last_chunk, more_chunks, chunk_form}
use Rattle.language.proofs.climbing.SingleStarts.{template_production}
use Rattle.token_cursor.proofs.SeenTokens.{seen_determined}
use Rattle.recursive_descent.specs.Soundness.{RunsIn, all_read_as}
use Rattle.recursive_descent.specs.SoundnessOfLists.{left_of, SoFarAt}
use Rattle.recursive_descent.specs.CompletenessOfLists.{ListGiven}
use Rattle.parser_tables.specs.Items.{list_from, with_item, listed_kind, listed_shape, listed_part}
use Rattle.token_cursor.specs.Seen.{SeesBy}
use Rattle.parser_tables.specs.Tests.{is_template}
use Rattle.recursive_descent.proofs.sound_expressions.BracketedLists.{begun_so_far}
use Rattle.recursive_descent.proofs.reading.Forward.{place_token}
use Rattle.recursive_descent.proofs.complete_expressions.FunctionsAndClassesGiven.{sole_given}
use Rattle.recursive_descent.proofs.complete_expressions.StartsGiven.{given_core, has_height, is_bracket, is_named}
use Rattle.recursive_descent.proofs.sound_expressions.StartsByToken.{template_of}
use Rattle.recursive_descent.proofs.complete_subscripts.TemplatesGiven.{rest_runs}
use Rattle.token_cursor.proofs.TokensAhead.{ahead_read, place_seen}
use Rattle.tokens.specs.Tokens.{LexicalToken}
use Rattle.tokens.specs.declared.token.Goal.TheVariants.{RegExp}
use Rattle.token_cursor.specs.CursorState.{CursorState, IsAhead}
use Rattle.tree.specs.declared.kind.Pair.{Pair}
use Rattle.tree.specs.Tree.{Tree, node, Parts, join, height, parts_height, kind_of, plain}
use Rattle.covers.specs.declared.list.ListKind.{ListKind}
use Rattle.covers.specs.declared.list.ListKind.TheVariants as listed
use Rattle.covers.specs.declared.list.ListBuilder.{ListBuilder as ListOf}
use Rattle.language.specs.declared.Rank.{Rank}
use Rattle.language.specs.Covers.{Reading, as_expression}
use Rattle.language.specs.ExpressionStart.{ExpressionStart, with_template, expression_start}
use Rattle.language.specs.Token.{Token, as_read, same_class}
use Rattle.language.specs.Claims.{max_open}
use Rattle.parser_tables.specs.declared.expression_context.ExpressionContext.{ExpressionContext}
use Rattle.parser_tables.specs.declared.expression_starts.ExpressionStart.TheVariants as code
use Rattle.recursive_descent.specs.Follows.{BegunAt, BegunTemplate, NotBegun, NoTemplate, TemplateAt}
use Rattle.recursive_descent.specs.Completeness.{FirstAs, IsFirst, Room}
use Rattle.parser_tables.specs.ExpressionStarts.{coded_start}
use Rattle.recursive_descent.proofs.complete_expressions.Agreement.{Refuses}
use Rattle.recursive_descent.proofs.complete_lists.BracketedListsGiven.{ListRest, ListCase, in_brackets, in_quotes, list_case, brackets_given, brackets_rest, begun_refuses}
use Rattle.token_cursor.specs.SourceText.{SourceText, SeenNext, behind_in, unseen}
use Rattle.recursive_descent.specs.Spelled.{OfLanguage, AllOfLanguage}
use Rattle.recursive_descent.proofs.reading.LanguageTrees.{others_of_language, parts_of_language}

-- a template has a part
some_chunk : {text : SourceText} {o : ℕ} {s e : Token} {P : List Pair} {ps : Parts} → ChunkForm Token (SeenNext text) (behind_in text) o true s e P ps → 1 ≤ parts_height ps
some_chunk (last_chunk {q = q} p) = let one = has_height q in omega arith
some_chunk (more_chunks {q = q} p u r z) = let one = has_height q in omega arith

-- the template that was read is what is given
template_first : {a : Reading} {h : Rank} {n : Tree} (l : ListOf) → l.listed ≡ listed.Template → a ≡ as_expression → n ≡ node TemplateLiteral [] plain l.span.start l.span.end l.nodes → IsTrue (takes h Primary) → IsFirst a h (listed_part l) n
template_first {a} {h} {n} l is reading tree tk = subst (λ x. IsFirst x h (listed_part l) n) (sym reading) (record {
  read = record {
    fits = ap (λ x. (listed_shape x l.seen.shape).is_expression) is;
    tree = ap (λ x. node (listed_kind x) [] plain l.span.start l.span.end l.nodes) is ∙ sym tree;
    target = λ k. absurd (false≢true (sym (ap (λ c. is_simple (kind_of c)) tree) ∙ k));
    pattern = λ b e k. cc;
  };
  taken = tk;
  alone = λ b e. refl;
})

-- the list that was begun by its first part is an expression so far
first_shape : (c : ListItem) → c.shape.is_expression ≡ true → c.spreads ≡ false → (shape_with c.spreads listed.Template empty c.shape).is_expression ≡ true
first_shape c h k = subst (λ b. (shape_with b listed.Template empty c.shape).is_expression ≡ true) (sym k) h

rest_list : (text : SourceText) (o at : ℕ) (c : ListItem) (rest : Parts) (m e : Token) (P : List Pair) → c.shape.is_expression ≡ true → c.spreads ≡ false → RunsIn text o (goes_to Expression true Any (left_of listed.Template c.is_flagged as_expression rest)) rest m e P → ListGiven text (with_item (list_from listed.Template at) c) as_expression o rest m e P
rest_list text o at c rest m e P h k runs = record { left = first_shape c h k; mid = e; runs = runs; closes = refl; last = tt; no_rest = refl; lone = refl; one_default = refl }

-- a template that is given begins with its first part
template_ahead : {text : SourceText} {s : Token} (u : LexicalToken) → IsAhead RegExp text s.stop u → expression_start (as_read u) ≡ with_template → (as_read u).class ≡ Template → ReadBy Token (SeenNext text) (behind_in text) Div s (as_read u) (unseen (as_read u))
template_ahead {text} {s} u ahead opens class = let begins = template_of u.class (as_read u).text opens in record { next = (ahead_read text RegExp s u ahead).next; allowed = subst (λ c. IsTrue (allows Div c (as_read u).text)) (sym begins.0) begins.1 }

template_seen : {text : SourceText} {s : Token} (u : LexicalToken) → IsAhead RegExp text s.stop u → expression_start (as_read u) ≡ with_template → SeesBy text Div is_template s
template_seen {text} {s} u ahead opens =
    let begins = template_of u.class (as_read u).text opens in
    (unseen (as_read u), subst (λ t. ReadBy Token (SeenNext text) (behind_in text) Div s t (unseen (as_read u)) × (is_template t ≡ true)) (sym (place_seen text {g = RegExp} ahead)) (template_ahead u ahead opens begins.0, ap (same_class Template) begins.0))

template_rest : (s m : CursorState) (l : ListOf) (u : LexicalToken) → m.text ≡ s.text → IsAhead RegExp s.text s.last.stop u → expression_start (as_read u) ≡ with_template → l.listed ≡ listed.Template → BegunAt s m l → BegunTemplate s m l → {p : ExpressionContext} {o : ℕ} {n : Tree} {to : Token} {Q : List Pair} {a : Reading} {h : Rank} → FirstAs s.text p o n s.last to Q a h → ListRest s m l a o h n to Q
template_rest s m l u text ahead opens is begun b {p} {o} {n} {to} {Q} {a} {h} g =
    let r = ahead_read s.text RegExp s.last u ahead in
    let v = given_core s.text r (ap is_bracket opens) (ap is_named opens) g in
    let w = sole_given s.text (template_production Token (SeenNext s.text) (behind_in s.text) (seen_determined s.text) p.start s.last) r opens v.begun.core in
    let x = rest_runs b.chunk.is_flagged b.read (chunk_form Token (SeenNext s.text) (behind_in s.text) w.parts w.runs) in
    let here : ListGiven m.text l as_expression o x.rest m.last to Q = subst (λ k. ListGiven m.text k as_expression o x.rest m.last to Q) (sym b.list) (subst (λ k. ListGiven k (with_item (list_from listed.Template l.span.start) b.chunk) as_expression o x.rest m.last to Q) (sym text) (rest_list s.text o l.span.start b.chunk x.rest m.last to Q b.plain.0 b.plain.1 x.runs)) in
    let high : height n ≡ suc (parts_height w.parts) = ap height w.tree in
    let parts : parts_height w.parts ≡ max (height b.chunk.node) (parts_height x.rest) = ap parts_height x.parts in
    let begins : parts_height l.nodes ≡ max (height b.chunk.node) 0 = ap (λ (k : ListOf). parts_height k.nodes) b.list in
    record {
      ps = x.rest;
      given = subst (λ k. ListGiven m.text l k o x.rest m.last to Q) (sym v.reading) here;
      own = λ whole. subst (λ k. AllOfLanguage k x.rest) (sym text) (others_of_language {text = s.text} {n = b.chunk.node} {ps = x.rest} (subst (λ k. AllOfLanguage s.text k) x.parts (parts_of_language {text = s.text} {k = TemplateLiteral} {w = []} {g = plain} (subst (λ k. OfLanguage s.text k) w.tree whole))));
      low = omega arith;
      start_low = omega arith;
      first = λ e old new whole d seen same whole_is nodes place.
          let from : whole.span.start ≡ u.start = same.1 ∙ place_token s begun.0 (template_ahead u ahead opens (template_of u.class (as_read u).text opens).0) in
          let end : whole.span.end ≡ to.stop = (d.is Any s.last [] (subst (λ k. SoFarAt k Any l (max_open - m.opened) s.last m.last []) (sym text) (begun_so_far s m l Any (max_open - m.opened) b))).ends ∙ ap (λ (k : Token). k.stop) place in
          let whole_nodes : whole.nodes ≡ w.parts = subst (λ k. all_read_as k whole.nodes ≡ join (all_read_as k l.nodes) x.rest) v.reading nodes ∙ ap (λ (k : ListOf). join k.nodes x.rest) b.list ∙ sym x.parts in
          template_first whole (same.0 ∙ is) v.reading (w.tree ∙ (λ i. node TemplateLiteral [] plain (sym from i) (sym end i) (sym whole_nodes i))) w.taken;
    }

pub list_rest : (s m : CursorState) (l : ListOf) (u : LexicalToken) (what : ListKind) → m.text ≡ s.text → IsAhead RegExp s.text s.last.stop u → coded_start (expression_start (as_read u)) ≡ Some (code.List what) → l.listed ≡ what → BegunAt s m l → TemplateAt s m l →
    {p : ExpressionContext} {o : ℕ} {n : Tree} {to : Token} {Q : List Pair} {a : Reading} {h : Rank} → FirstAs s.text p o n s.last to Q a h → ListRest s m l a o h n to Q
list_rest s m l u what text ahead coded is begun template {p} {o} {n} {to} {Q} {a} {h} g = of (list_case (expression_start (as_read u)) what coded) refl is
  where
    of : {w : ListKind} {z : ExpressionStart} → ListCase w z → expression_start (as_read u) ≡ z → l.listed ≡ w → ListRest s m l a o h n to Q
    of (in_brackets by) opens is = brackets_rest s m l text by is begun (brackets_given u by ahead opens g)
    of in_quotes opens is = template_rest s m l u text ahead opens is begun (template is (template_seen u ahead opens)) g

-- what begins it is there
pub list_refuses : (s : CursorState) (u : LexicalToken) (what : ListKind) (inner high : ℕ) (fault : Fault) → IsAhead RegExp s.text s.last.stop u → coded_start (expression_start (as_read u)) ≡ Some (code.List what) → NotBegun what s inner fault → NoTemplate what s fault → inner ≡ high - 1 →
    {p : ExpressionContext} {o : ℕ} {n : Tree} {to : Token} {Q : List Pair} {a : Reading} {h : Rank} → FirstAs s.text p o n s.last to Q a h → Refuses (Room s o (height n) high) fault
list_refuses s u what inner high fault ahead coded missed untemplated less {p} {o} {n} {to} {Q} {a} {h} g = of (list_case (expression_start (as_read u)) what coded) refl missed untemplated
  where
    of : {w : ListKind} {z : ExpressionStart} → ListCase w z → expression_start (as_read u) ≡ z → NotBegun w s inner fault → NoTemplate w s fault → Refuses (Room s o (height n) high) fault
    of (in_brackets by) opens missed none_there = begun_refuses (Room s o (height n) high) s inner fault by missed (brackets_given u by ahead opens g).left
    of in_quotes opens missed none_there = in_template fault missed none_there
      where
        two_high : 2 ≤ height n
        two_high =
            let r = ahead_read s.text RegExp s.last u ahead in
            let v = given_core s.text r (ap is_bracket opens) (ap is_named opens) g in
            let w = sole_given s.text (template_production Token (SeenNext s.text) (behind_in s.text) (seen_determined s.text) p.start s.last) r opens v.begun.core in
            let some = some_chunk (chunk_form Token (SeenNext s.text) (behind_in s.text) w.parts w.runs) in
            let high : height n ≡ suc (parts_height w.parts) = ap height w.tree in
            omega arith

        in_template : (fault : Fault) → NotBegun listed.Template s inner fault → NoTemplate listed.Template s fault → Refuses (Room s o (height n) high) fault
        in_template (Syntax at) missed none_there = let t = template_seen u ahead opens in absurd (false≢true (sym (none_there refl (behind_in s.text t.0) t.0 t.1.0) ∙ t.1.1))
        in_template TooDeep missed none_there = λ room. (let l = room.1 in let low = missed.1 in let tall = two_high in absurd (omega arith))
        in_template OutOfMemory missed none_there = tt
        in_template _ missed none_there = absurd missed
