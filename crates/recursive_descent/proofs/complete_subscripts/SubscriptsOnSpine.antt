-- What a member, arguments, a template, `++` or `--` makes of an expression on the spine of what is given.
use Rattle.std.proofs.Common.{◌≡◌, ℕ, ◌≤◌, Bool, true, false, List, [], ◌∷◌, ◌++◌, refl, sym, ap, ◌∙◌, subst, arith}
use Rattle.std.specs.Prelude.{IsTrue}
use Rattle.std.proofs.lemmas.List.{append-nil}
use Rattle.std.proofs.lemmas.Bool.{false≢true}
use Rattle.tokens.specs.declared.token.TokenClass.TheVariants.{Punctuator}
use Rattle.tokens.specs.declared.token.Goal.TheVariants.{Div}
use Rattle.tree.specs.declared.kind.Kind.{Kind}
use Rattle.tree.specs.declared.kind.Kind.TheVariants.{AssignmentExpression, UpdateExpression, MemberExpression, CallExpression, TaggedTemplateExpression}
use Rattle.tree.specs.declared.kind.Flags.{Flags}
use Rattle.tree.specs.declared.kind.Pair.{Pair}
use Rattle.tree.specs.Tree.{Tree, node, plain, Parts, part, none, kind_of, height, bare}
use Rattle.tree.specs.Uses.{has_text, used_flags}
use Rattle.tree.proofs.Lean.{lean_flags, lean_text}
use Rattle.language.specs.declared.Rank.{Rank}
use Rattle.language.specs.declared.Rank.TheVariants.{LeftHandSide, Update, Call, Member, Primary, Grouped}
use Rattle.language.specs.declared.Start.{Start}
use Rattle.language.specs.declared.Edge.TheVariants.{Other}
use Rattle.language.specs.FirstPart.{lead as lead_kind, others}
use Rattle.language.specs.Vocabulary.{takes, is_target as is_simple, op_update, op_dot, op_index, op_call, op_template}
use Rattle.language.specs.Token.{Token}
use Rattle.language.specs.Edges.{edge}
use Rattle.language.specs.Pieces.{Role, expr, PieceOf, unbroken, tok}
use Rattle.language.specs.Expressions.{arguments}
use Rattle.language.specs.Continuations.{operation, stops}
use Rattle.language.specs.Promises.{ReadBy}
use Rattle.language.specs.Covers.{Reading}
use Rattle.language.specs.Derivation.{step, token, within, done}
use Rattle.token_cursor.proofs.SeenTokens.{seen_determined}
use Rattle.language.proofs.table.Begins.{retell, goes_to}
use Rattle.language.proofs.table.LeftRecursiveWays.{Led, led_postfix, led_call}
use Rattle.language.proofs.climbing.OperatorNodes.{kind_bare}
use Rattle.language.proofs.climbing.RightOperands.{nothing_more}
use Rattle.language.proofs.table.OperatorTokens.{reads_dot, reads_index}
use Rattle.language.proofs.climbing.NoContinuation.{goes_where_not, led_text}
use Rattle.language.proofs.climbing.OperatorLoop.{Leads, led_on, grows_height}
use Rattle.language.proofs.climbing.Suffixes.{rank_is, suffix_rank, computed_flags, leads_on, call_flags, dot_on}
use Rattle.language.proofs.climbing.Calls.{index_on, tag_on}
use Rattle.covers.specs.Shapes.{is_target, shape_of}
use Rattle.parser_tables.specs.declared.operand.Operand.{Operand}
use Rattle.parser_tables.specs.declared.expression_context.ExpressionContext.{ExpressionContext}
use Rattle.recursive_descent.specs.declared.subscripts.Subscript.{Subscript}
use Rattle.recursive_descent.specs.declared.subscripts.Subscript.TheVariants as link
use Rattle.recursive_descent.specs.Soundness.{Begins, RunsIn, anywhere}
use Rattle.recursive_descent.specs.Completeness.{subscript_after}
use Rattle.recursive_descent.specs.Subscripts.{link_kind, link_flags, link_rank, is_calling}
use Rattle.parser_tables.specs.Operands.{plain_part}
use Rattle.recursive_descent.specs.Stages.{SpineAs, Serves, StageAs}
use Rattle.recursive_descent.proofs.sound_expressions.ExpressionParts.{placed_at}
use Rattle.recursive_descent.proofs.complete_expressions.SpineTurns.{on_further, on_language}
use Rattle.recursive_descent.proofs.reading.LanguageTrees.{parts_of_language, others_of_language}
use Rattle.token_cursor.specs.SourceText.{SourceText, SeenNext, behind_in}
use Rattle.recursive_descent.specs.Spelled.{OfLanguage, AllOfLanguage}
use Rattle.recursive_descent.proofs.sound_expressions.GroupContents.{same_arguments}

-- what begins with a call is a call's too
calling : (c : Rank) → IsTrue (takes Call c) → suffix_rank c ≡ link_rank link.Name (is_calling c)
calling Call h = refl
calling Member h = refl
calling Primary h = refl
calling Grouped h = refl
calling _ h = absurd (false≢true h)

index_rank : (b : Bool) → link_rank link.Index b ≡ link_rank link.Name b
index_rank true = refl
index_rank false = refl

quasi_rank : (b : Bool) → link_rank link.Quasi b ≡ link_rank link.Name b
quasi_rank true = refl
quasi_rank false = refl

arguments_rank : (b : Bool) → link_rank link.Arguments b ≡ Call
arguments_rank true = refl
arguments_rank false = refl

record StepLed (y : Rank) (k : Kind) (g : Flags) (w : List ℕ) (ps : Parts) (h : Rank) (rest : List (PieceOf Role)) : Type 0 where
  kind : k ≡ UpdateExpression
  head : h ≡ LeftHandSide
  target : is_simple (lead_kind ps) ≡ true
  prefix : g.prefix ≡ false
  stands : IsTrue (takes y Update)
  rest_is : rest ≡ unbroken ∷ tok Punctuator w ∷ []

step_led : {y : Rank} {i : Bool} {f : Start} {k : Kind} {w : List ℕ} {g : Flags} {ps : Parts} {h : Rank} {j : Bool} {f' : Start} {rest : List (PieceOf Role)} → Led y i f k w g ps (expr h j f') rest op_update → StepLed y k g w ps h rest
step_led (led_postfix k op ta p tk b e) = record { kind = k; head = rank_is b; target = ta; prefix = p; stands = tk; rest_is = e }

record CallLed (y : Rank) (i : Bool) (f : Start) (k : Kind) (g : Flags) (ps : Parts) (h : Rank) (rest : List (PieceOf Role)) : Type 0 where
  kind : k ≡ CallExpression
  optional : g.optional ≡ false
  head : h ≡ Call
  stands : IsTrue (takes y Call)
  rest_is : rest ≡ goes_to y i f (arguments (others ps))

call_led : {y : Rank} {i : Bool} {f : Start} {k : Kind} {w : List ℕ} {g : Flags} {ps : Parts} {h : Rank} {j : Bool} {f' : Start} {rest : List (PieceOf Role)} → Led y i f k w g ps (expr h j f') rest op_call → CallLed y i f k g ps h rest
call_led (led_call k o s tk b e) = record { kind = k; optional = o; head = rank_is b; stands = tk; rest_is = e }

module _ (text : SourceText) (p : ExpressionContext) (o : ℕ) (s e : Token) (P : List Pair) (l : Operand) (m : Token) (Q : List Pair) (a : Reading) (n : Tree) where
  -- what is read behind it, and the next stage
  pub record LinkOn : Type 0 where
    pub linked : Subscript
    pub parts : Parts
    pub to : Token
    pub more : List Pair
    pub runs : RunsIn text o (anywhere (subscript_after linked false parts)) parts m to more
    pub fits : IsTrue (takes Call l.rank)
    pub value : l.cover.shape.is_expression ≡ true
    pub of_language : OfLanguage text n → AllOfLanguage text parts
    pub low : height (node (link_kind linked) [] (link_flags linked false) l.start to.stop (part l.cover.node parts)) ≤ height n
    pub next : (r : Operand) → r ≡ plain_part (node (link_kind linked) [] (link_flags linked false) l.start to.stop (part l.cover.node parts)) (link_rank linked (is_calling l.rank)) Other → StageAs text p o s e P r to (Q ++ more) a n

  module _ {k : Tree} (serves : Serves text p o s e P l m Q a n k) (high : height k ≡ height n) (u : SpineAs text p o s e P l m Q k) (begins : Begins text l.start s) {t x : Token} (r : ReadBy Token (SeenNext text) (behind_in text) Div m t x) (goes : stops p.rank p.has_in (edge l.cover.node) (behind_in text m) t ≡ false) where
    -- a plain node further on the spine, which is no assignment
    pub plain_next : {K : Kind} {G : Flags} {ps : Parts} {c : Rank} {to : Token} {R : List Pair} → ((K ≡ AssignmentExpression) → ⊥) → (shape_of (node K [] G l.start to.stop ps)).is_expression ≡ true → (is_simple K ≡ true → is_target (shape_of (node K [] G l.start to.stop ps)).assigned ≡ true) →
        Leads Token (SeenNext text) (behind_in text) (seen_determined text) o s p.rank p.has_in p.start k e P c (node K [] G l.start to.stop ps) to R → (r : Operand) → r ≡ plain_part (node K [] G l.start to.stop ps) c Other → StageAs text p o s e P r to R a n
    plain_next {K} {G} {ps} {c} {to} {R} other value target leads q is =
        subst (λ v. StageAs text p o s e P v to R a n) (sym is) (on_further text {r = plain_part (node K [] G l.start to.stop ps) c Other} serves high u leads value target (λ h w. absurd (other h)))

    pub dot_link : operation t ≡ op_dot → LinkOn
    dot_link is_op =
        let w = dot_on Token (SeenNext text) (behind_in text) (seen_determined text) r is_op goes u.stopped u.leads in
        let leads = w.leads l.start w.to.stop w.name w.to w.pairs refl refl refl (placed_at text begins) in
        let below = grows_height Token (SeenNext text) (behind_in text) (seen_determined text) leads.grows in
        let c = ap (λ v. plain_part (node MemberExpression [] plain l.start w.to.stop (part l.cover.node (part w.name none))) v Other) (calling l.rank w.fits) in
        record {
          linked = link.Name;
          parts = part w.name none;
          to = w.to;
          more = w.pairs;
          runs = subst (λ v. RunsIn text o (anywhere (subscript_after link.Name false (part w.name none))) (part w.name none) m w.to v) (append-nil w.pairs) (step (token (reads_dot Token (SeenNext text) (behind_in text) r.next is_op)) (within w.spelled done));
          fits = w.fits;
          value = u.value;
          of_language = λ own. others_of_language (parts_of_language (on_language text serves leads.grows own));
          low = omega arith;
          next = λ q is. plain_next (λ h. cc) refl (λ h. refl) leads q (is ∙ sym c);
        }

    pub index_link : operation t ≡ op_index → LinkOn
    index_link is_op =
        let w = index_on Token (SeenNext text) (behind_in text) (seen_determined text) r is_op goes u.stopped u.leads in
        let leads = w.leads l.start w.to.stop w.inner w.to w.pairs refl refl refl (placed_at text begins) in
        let below = grows_height Token (SeenNext text) (behind_in text) (seen_determined text) leads.grows in
        let c = ap (λ v. plain_part (node MemberExpression [] computed_flags l.start w.to.stop (part l.cover.node (part w.inner none))) v Other) (calling l.rank w.fits ∙ sym (index_rank (is_calling l.rank))) in
        record {
          linked = link.Index;
          parts = part w.inner none;
          to = w.to;
          more = w.pairs;
          runs = subst (λ v. RunsIn text o (anywhere (subscript_after link.Index false (part w.inner none))) (part w.inner none) m w.to v) (append-nil w.pairs)
              (step (token (reads_index Token (SeenNext text) (behind_in text) r.next is_op)) (within w.spelled (step (token w.closes) done)));
          fits = w.fits;
          value = u.value;
          of_language = λ own. others_of_language (parts_of_language (on_language text serves leads.grows own));
          low = omega arith;
          next = λ q is. plain_next (λ h. cc) refl (λ h. refl) leads q (is ∙ sym c);
        }

    pub tag_link : operation t ≡ op_template → LinkOn
    tag_link is_op =
        let w = tag_on Token (SeenNext text) (behind_in text) (seen_determined text) r is_op goes u.stopped u.leads in
        let leads = w.leads l.start w.to.stop w.template w.to w.pairs refl refl refl (placed_at text begins) in
        let below = grows_height Token (SeenNext text) (behind_in text) (seen_determined text) leads.grows in
        let c = ap (λ v. plain_part (node TaggedTemplateExpression [] plain l.start w.to.stop (part l.cover.node (part w.template none))) v Other) (calling l.rank w.fits ∙ sym (quasi_rank (is_calling l.rank))) in
        record {
          linked = link.Quasi;
          parts = part w.template none;
          to = w.to;
          more = w.pairs;
          runs = subst (λ v. RunsIn text o (anywhere (subscript_after link.Quasi false (part w.template none))) (part w.template none) m w.to v) (append-nil w.pairs) (within w.spelled done);
          fits = w.fits;
          value = u.value;
          of_language = λ own. others_of_language (parts_of_language (on_language text serves leads.grows own));
          low = omega arith;
          next = λ q is. plain_next (λ h. cc) refl (λ h. cc) leads q (is ∙ sym c);
        }

    pub call_link : operation t ≡ op_call → LinkOn
    call_link is_op =
        let v = u.leads in
        let on = led_on Token (SeenNext text) (behind_in text) (seen_determined text) r is_op (λ q. cc) (goes_where_not Token (SeenNext text) (behind_in text) (seen_determined text) p.rank p.has_in r u.stopped goes) v.spelled v.grows in
        let led = call_led on.led in
        let flags : on.g ≡ plain = lean_flags (bare (node on.k on.w on.g on.st on.en (part l.cover.node on.ps))) on.lean ∙ ap (λ c. used_flags c on.g) led.kind ∙ call_flags Token (SeenNext text) (behind_in text) (seen_determined text) on.g led.optional in
        let texts : on.w ≡ [] = lean_text (bare (node on.k on.w on.g on.st on.en (part l.cover.node on.ps))) on.lean (ap has_text led.kind) in
        let leads = leads_on Token (SeenNext text) (behind_in text) (seen_determined text) Call on led.kind texts flags refl refl refl (placed_at text begins) led.stands in
        let below = grows_height Token (SeenNext text) (behind_in text) (seen_determined text) leads.grows in
        let c = ap (λ d. plain_part (node CallExpression [] plain l.start on.to.stop (part l.cover.node on.ps)) d Other) (arguments_rank (is_calling l.rank)) in
        record {
          linked = link.Arguments;
          parts = on.ps;
          to = on.to;
          more = on.more;
          runs = retell Token (SeenNext text) (behind_in text) (led.rest_is ∙ same_arguments on.y on.i on.f on.ps) on.runs;
          fits = subst (λ d. IsTrue (takes d l.rank)) led.head v.fits;
          value = u.value;
          of_language = λ own. others_of_language (parts_of_language (on_language text serves leads.grows own));
          low = omega arith;
          next = λ q is. plain_next (λ h. cc) refl (λ h. cc) leads q (is ∙ c);
        }

    -- `++` and `--`
    pub record StepOn : Type 0 where
      pub target : is_simple (kind_of l.cover.node) ≡ true
      pub leads : Leads Token (SeenNext text) (behind_in text) (seen_determined text) o s p.rank p.has_in p.start k e P Update (node UpdateExpression t.text plain l.start x.stop (part l.cover.node none)) x (Q ++ [])

    pub step_on : operation t ≡ op_update → StepOn
    step_on is_op =
        let v = u.leads in
        let on = led_on Token (SeenNext text) (behind_in text) (seen_determined text) r is_op (λ q. cc) (goes_where_not Token (SeenNext text) (behind_in text) (seen_determined text) p.rank p.has_in r u.stopped goes) v.spelled v.grows in
        let led = step_led on.led in
        let end = nothing_more Token (SeenNext text) (behind_in text) (seen_determined text) (retell Token (SeenNext text) (behind_in text) led.rest_is on.runs) r in
        let flags : on.g ≡ plain = lean_flags (bare (node on.k on.w on.g on.st on.en (part l.cover.node on.ps))) on.lean ∙ ap (λ c. used_flags c on.g) led.kind ∙ (λ i. record plain { prefix = led.prefix i }) in
        let texts : on.w ≡ t.text = sym (led_text Token (SeenNext text) (behind_in text) (seen_determined text) on.led (ap has_text led.kind) on.runs r) in
        record {
          target = ap is_simple (sym (kind_bare l.cover.node)) ∙ led.target;
          leads = leads_on Token (SeenNext text) (behind_in text) (seen_determined text) Update on led.kind texts flags end.parts (sym end.place) end.pairs (placed_at text begins) led.stands;
        }
