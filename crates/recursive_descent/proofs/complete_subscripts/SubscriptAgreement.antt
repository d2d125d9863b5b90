-- How what is read behind an object agrees with a member, arguments or a template that is given there (ECMA-262 12.3.2 to 12.3.11).
use Rattle.std.proofs.Common.{◌≡◌, ℕ, suc, ◌≤◌, ◌<◌, ◌-◌, Bool, true, false, List, [], Result, Ok, Err, refl, sym, ap, ◌∙◌, subst, arith}
use Rattle.std.specs.Prelude.{codes, max}
use Rattle.std.specs.Result.{IsErrAnd}
use Rattle.std.proofs.lemmas.Bool.{false≢true}
use Rattle.source_text.specs.declared.fault.Fault.{Fault}
use Rattle.source_text.specs.declared.fault.Fault.TheVariants.{Syntax, TooDeep, OutOfMemory}
use Rattle.tokens.specs.declared.token.TokenClass.TheVariants.{Punctuator, Template}
use Rattle.token_cursor.specs.CursorState.{CursorState}
use Rattle.tree.specs.declared.kind.Pair.{Pair}
use Rattle.tree.specs.Tree.{Tree, node, Parts, none, part, gap, join, kind_of, height, parts_height}
use Rattle.covers.specs.declared.list.ListKind.{ListKind}
use Rattle.covers.specs.declared.list.ListKind.TheVariants as listed
use Rattle.covers.specs.declared.list.ListBuilder.{ListBuilder as ListOf}
use Rattle.language.specs.declared.Rank.{Rank}
use Rattle.language.specs.declared.Rank.TheVariants as rank
use Rattle.language.specs.declared.Rank.TheVariants.{Expression, Call}
use Rattle.language.specs.declared.Start.TheVariants.{Any}
use Rattle.language.specs.declared.Edge.TheVariants.{Other}
use Rattle.language.specs.Covers.{as_expression}
use Rattle.language.specs.Derivation.{Runs}
use Rattle.language.specs.Grammar.{ways}
use Rattle.language.specs.Pieces.{expr, tagged_quasi}
use Rattle.language.proofs.table.LeftRecursiveWays.{property_role}
use Rattle.language.specs.Token.{Token, same_class}
use Rattle.language.proofs.table.Begins.{retell}
use Rattle.language.proofs.climbing.Conditionals.{stops_before}
use Rattle.language.proofs.list_loops.FirstItems.{ChunkForm, last_chunk, more_chunks, chunk_form}
use Rattle.language.proofs.list_loops.FirstPieces.{run_token}
use Rattle.language.proofs.climbing.Suffixes.{argument_pieces}
use Rattle.token_cursor.proofs.SeenTokens.{seen_determined}
use Rattle.unambiguity_laws.proofs.list_items.PatternLists.{argument_pieces_unique}
use Rattle.recursive_descent.specs.declared.subscripts.Subscript.{Subscript}
use Rattle.recursive_descent.specs.declared.subscripts.Subscript.TheVariants as link
use Rattle.parser_tables.specs.declared.operand.Operand.{Operand}
use Rattle.parser_tables.specs.declared.expression_context.ExpressionContext.{ExpressionContext}
use Rattle.recursive_descent.specs.Complete.{SubscriptComplete, ExpressionComplete, ArgumentsComplete, ListComplete}
use Rattle.recursive_descent.specs.Soundness.{RunsIn, anywhere, Adds, ArgumentsAt}
use Rattle.recursive_descent.specs.Follows.{LinkedAt, NotLinked, NotBegun, NoTemplate, TemplateAt}
use Rattle.recursive_descent.specs.Completeness.{Room, EndsWith, subscript_after, StopsIn, GivenAs, an_expression}
use Rattle.recursive_descent.specs.CompletenessOfLists.{ListGiven}
use Rattle.parser_tables.specs.Items.{listed_node, listed_part}
use Rattle.recursive_descent.specs.Subscripts.{link_kind, link_flags, link_rank, is_calling}
use Rattle.parser_tables.specs.Outcomes.{MakesAs}
use Rattle.parser_tables.specs.Operands.{plain_part}
use Rattle.token_cursor.specs.Seen.{ReadsHere, Misses}
use Rattle.recursive_descent.specs.Later.{NoMemberName}
use Rattle.recursive_descent.proofs.reading.FreeRanks.{no_conditional, no_new}
use Rattle.recursive_descent.proofs.reading.LanguageTrees.{first_of_language, parts_of_language, join_of_language}
use Rattle.recursive_descent.proofs.complete_expressions.Agreement.{Refuses, refuses_on, agrees_err, refuses_high, room_part, marks_same, not_missed}
use Rattle.recursive_descent.proofs.complete_subscripts.SubscriptsGiven.{alike, once, property_given, member_class, Further, name_there, index_there, arguments_there, template_there, given_link, behind_given, link_given, not_linked}
use Rattle.recursive_descent.proofs.complete_subscripts.TemplatesGiven.{TemplateAhead, quasi_begins, template_given, TemplateGiven, TemplateRest, template_rest}
use Rattle.recursive_descent.proofs.sound_subscripts.SubscriptNodes.{is_call}
use Rattle.recursive_descent.proofs.sound_subscripts.SubscriptReads.{BehindOn}
use Rattle.token_cursor.specs.SourceText.{SourceText, SeenNext, behind_in}
use Rattle.recursive_descent.specs.Spelled.{SpellsIn, OfLanguage, AllOfLanguage}
use Rattle.recursive_descent.proofs.sound_expressions.GroupContents.{arguments_bare}

-- nothing goes on before a `]`
before_bracket : (text : SourceText) (n : Tree) {s e : Token} → ReadsHere text Punctuator (codes "]") s e → StopsIn text Expression true n s
before_bracket text n r = stops_before Token (SeenNext text) (behind_in text) (seen_determined text) Expression true n r refl refl (λ k u. refl)

-- what is given, by its kind
record NameGiven (text : SourceText) (o : ℕ) (m e : Token) (ps : Parts) (P : List Pair) : Type 0 where
  inner : Tree
  parts : ps ≡ part inner none
  spelled : SpellsIn text o (property_role (kind_of inner)) inner m e P

record IndexGiven (text : SourceText) (o : ℕ) (m e : Token) (ps : Parts) (P : List Pair) : Type 0 where
  inner : Tree
  from : Token
  to : Token
  parts : ps ≡ part inner none
  opens : ReadsHere text Punctuator (codes "[") m from
  spelled : SpellsIn text o (expr Expression true Any) inner from to P
  closes : ReadsHere text Punctuator (codes "]") to e

record QuasiGiven (text : SourceText) (o : ℕ) (m e : Token) (ps : Parts) (P : List Pair) : Type 0 where
  template : Tree
  parts : ps ≡ part template none
  spelled : SpellsIn text o tagged_quasi template m e P

other_kind : {X : Type 0} {l v w : Subscript} → l ≡ v → l ≡ w → (v ≡ w → ⊥) → X
other_kind a b f = absurd (f (sym a ∙ b))

module _ {text : SourceText} {o : ℕ} {m e : Token} {l : Subscript} {ps : Parts} {P : List Pair} where
  name_of : l ≡ link.Name → Further text o m e l ps P → NameGiven text o m e ps P
  name_of is (name_there {n = n} h parts d) = record { inner = n; parts = parts; spelled = d }
  name_of is (index_there h parts r d c) = other_kind is h (λ k. cc)
  name_of is (arguments_there h d) = other_kind is h (λ k. cc)
  name_of is (template_there h parts d) = other_kind is h (λ k. cc)

  index_of : l ≡ link.Index → Further text o m e l ps P → IndexGiven text o m e ps P
  index_of is (index_there {u = u} {x = x} {z = z} h parts r d c) = record { inner = u; from = x; to = z; parts = parts; opens = r; spelled = d; closes = c }
  index_of is (name_there h parts d) = other_kind is h (λ k. cc)
  index_of is (arguments_there h d) = other_kind is h (λ k. cc)
  index_of is (template_there h parts d) = other_kind is h (λ k. cc)

  arguments_of : l ≡ link.Arguments → Further text o m e l ps P → ArgumentsAt text ps o m e P
  arguments_of is (arguments_there h d) = d
  arguments_of is (name_there h parts d) = other_kind is h (λ k. cc)
  arguments_of is (index_there h parts r d c) = other_kind is h (λ k. cc)
  arguments_of is (template_there h parts d) = other_kind is h (λ k. cc)

  template_of : l ≡ link.Quasi → Further text o m e l ps P → QuasiGiven text o m e ps P
  template_of is (template_there {u = u} h parts d) = record { template = u; parts = parts; spelled = d }
  template_of is (name_there h parts d) = other_kind is h (λ k. cc)
  template_of is (index_there h parts r d c) = other_kind is h (λ k. cc)
  template_of is (arguments_there h d) = other_kind is h (λ k. cc)

-- what stands there is the only thing there
further_once : {text : SourceText} {o o' : ℕ} {m e k : Token} {l l' : Subscript} {ps qs : Parts} {P Q : List Pair} → l' ≡ l → Further text o m e l ps P → Further text o' m k l' qs Q → (k ≡ e) × (qs ≡ ps) × (Q ≡ P)
further_once {text} {o} {o'} {m} {e} {k} {P = P} {Q = Q} kind (name_there h parts d) d' =
    let v = name_of (kind ∙ h) d' in
    let same = (property_given d).found.only o' k v.inner Q v.spelled in
    (same.0, v.parts ∙ ap (λ n. part n none) same.1 ∙ sym parts, same.2)
further_once {text} {o} {o'} {m} {e} {k} {P = P} {Q = Q} kind (index_there {u = u} {x = x} {z = z} h parts r d c) d' =
    let v = index_of (kind ∙ h) d' in
    let at : v.from ≡ x = (marks_same text v.opens r).1 in
    let found = (once text (height u)).expressions.found (omega arith) (λ h. cc) (λ h. cc) d (before_bracket text u c) in
    let same = found.only o' v.to v.inner Q (subst (λ t. SpellsIn text o' (expr Expression true Any) v.inner t v.to Q) at v.spelled) (before_bracket text v.inner v.closes) in
    ((marks_same text (subst (λ t. ReadsHere text Punctuator (codes "]") t k) same.0 v.closes) c).1, v.parts ∙ ap (λ n. part n none) same.1 ∙ sym parts, same.2)
further_once {text} {o} {o'} {m} {e} {k} {ps = ps} {qs = qs} {P = P} {Q = Q} kind (arguments_there h d) d' =
    let a = run_token Token (SeenNext text) (behind_in text) (retell Token (SeenNext text) (behind_in text) (ap anywhere (sym (arguments_bare ps))) d) in
    let b = run_token Token (SeenNext text) (behind_in text) (retell Token (SeenNext text) (behind_in text) (ap anywhere (sym (arguments_bare qs))) (arguments_of (kind ∙ h) d')) in
    let at : b.mid ≡ a.mid = (marks_same text b.reads a.reads).1 in
    let found = (argument_pieces_unique Token (SeenNext text) (behind_in text) (seen_determined text) (alike text) (once text (parts_height ps))).gives (omega arith) a.runs in
    found.only o' k qs Q (subst (λ t. Runs ways Token (SeenNext text) (behind_in text) o' (argument_pieces qs) qs t k Q) at b.runs)
further_once {text} {o} {o'} {m} {e} {k} {P = P} {Q = Q} kind (template_there {u = u} h parts d) d' =
    let v = template_of (kind ∙ h) d' in
    let same = ((once text (height u)).closed refl (omega arith) d).only o' k v.template Q v.spelled in
    (same.0, v.parts ∙ ap (λ n. part n none) same.1 ∙ sym parts, same.2)

-- what was read is what is given
pub record LinkOnce (s e : CursorState) (old new : List Pair) (found : Subscript) (b : Bool) (qs : Parts) : Type 0 where
  pub gives : (l : Subscript) (optional : Bool) (ps : Parts) (o : ℕ) (to : Token) (P : List Pair) → RunsIn s.text o (anywhere (subscript_after l optional ps)) ps s.last to P → (l ≡ found) × (optional ≡ b) × (ps ≡ qs) × EndsWith s e old new to P

pub link_once : (s m : CursorState) {e : CursorState} {old new : List Pair} {found : Subscript} {b : Bool} {qs : Parts} → m.text ≡ s.text → LinkedAt s m found b → Adds s e old new (BehindOn s.text found b qs) → LinkOnce s e old new found b qs
link_once s m {e} {found = found} {b = b} text passed a = record {
  gives = λ l optional ps o to P d.
      let own = given_link s m found b text passed (behind_given s.text a.is) in
      let given = given_link s m found b text passed (link_given s.text l optional d) in
      let same = further_once (given.link_is ∙ sym own.link_is) own.further given.further in
      (given.link_is, given.optional_is, same.1, record { place = sym same.0; more = a.more; added = a.pairs; pairs = sym same.2 });
}

-- the height of what is made
abbrev pub link_height : Operand → Parts → ℕ
link_height left ps = suc (max (height left.cover.node) (parts_height ps))

calling : (r : Rank) → is_call r ≡ is_calling r
calling rank.Call = refl
calling _ = refl

-- the answer
pub linked_answered : {s e : CursorState} {old new : List Pair} {found : Subscript} {b called : Bool} {qs nodes : Parts} (high : ℕ) (left r : Operand) → LinkOnce s e old new found b qs → called ≡ is_call left.rank → nodes ≡ part left.cover.node qs →
    r ≡ plain_part (node (link_kind found) [] (link_flags found b) left.start e.last.stop nodes) (link_rank found called) Other → SubscriptComplete s e old new high left (Ok r)
linked_answered {s} {e} {found = found} {b = b} {called = called} {qs = qs} high left r once_there call nodes_are made = λ l optional ps o to P d object value own.
    let same = once_there.gives l optional ps o to P d in
    let is_called : called ≡ is_calling left.rank = call ∙ calling left.rank in
    (made ∙ (λ i. plain_part (node (link_kind (sym same.0 i)) [] (link_flags (sym same.0 i) (sym same.1 i)) left.start (same.3.place i).stop ((nodes_are ∙ ap (λ x. part left.cover.node x) (sym same.2)) i)) (link_rank (sym same.0 i) (is_called i)) Other), same.3)

-- a refusal
pub linked_refused : (s e : CursorState) (old new : List Pair) (high : ℕ) (left : Operand) (answer : Result Operand Fault) (fault : Fault) → IsErrAnd answer (λ x. x ≡ fault) →
    ((l : Subscript) (b : Bool) (ps : Parts) (o : ℕ) (to : Token) (P : List Pair) → RunsIn s.text o (anywhere (subscript_after l b ps)) ps s.last to P → AllOfLanguage s.text ps → Refuses (Room s o (link_height left ps) high) fault) → SubscriptComplete s e old new high left answer
linked_refused s e old new high left answer fault is f = λ l b ps o to P d object value own.
    agrees_err (Room s o (link_height left ps) high) (λ r. (r ≡ plain_part (node (link_kind l) [] (link_flags l b) left.start to.stop (part left.cover.node ps)) (link_rank l (is_calling left.rank)) Other) × EndsWith s e old new to P) answer fault is (f l b ps o to P d own)

-- nothing stands there that goes on so
pub unlinked_refused : (s m e : CursorState) (old new : List Pair) (high : ℕ) (left : Operand) (answer : Result Operand Fault) (fault : Fault) → IsErrAnd answer (λ x. x ≡ fault) → m.text ≡ s.text → NotLinked s m fault → SubscriptComplete s e old new high left answer
unlinked_refused s m e old new high left answer fault is text h = linked_refused s e old new high left answer fault is (λ l b ps o to P d own. absurd (not_linked s m text fault h (link_given s.text l b d)))

-- the node is too high
pub linked_high : {s e : CursorState} {old new : List Pair} {found : Subscript} {b : Bool} {qs : Parts} (high levels : ℕ) (left : Operand) (answer : Result Operand Fault) (fault : Fault) → IsErrAnd answer (λ x. x ≡ fault) → LinkOnce s e old new found b qs → fault ≡ TooDeep → high < levels →
    levels ≡ link_height left qs → SubscriptComplete s e old new high left answer
linked_high {s} {e} {old = old} {new = new} {qs = qs} high levels left answer fault is once_there deep above levels_are = linked_refused s e old new high left answer fault is (λ l b ps o to P d own.
    let same : link_height left ps ≡ link_height left qs = ap (link_height left) (once_there.gives l b ps o to P d).2 in
    refuses_high (Room s o (link_height left ps) high) levels high fault deep above (λ (room : Room s o (link_height left ps) high). let low = room.1 in omega arith))

-- the position of an index
abbrev pub whole : ExpressionContext
whole = record { rank = Expression; has_in = true; start = Any }

-- a template has a first part
some_height : (n : Tree) → 1 ≤ height n
some_height (node k w g st en ps) = omega arith

form_height : {text : SourceText} {o : ℕ} {ps : Parts} {s e : Token} {P : List Pair} → ChunkForm Token (SeenNext text) (behind_in text) o true s e P ps → 1 ≤ parts_height ps
form_height (last_chunk {q = q} p) = let some = some_height q in omega arith
form_height (more_chunks {q = q} p u r z) = let some = some_height q in omega arith

quasi_height : {text : SourceText} {o : ℕ} {n : Tree} {s e : Token} {P : List Pair} → SpellsIn text o tagged_quasi n s e P → 2 ≤ height n
quasi_height {text} {n = n} d =
    let v = template_given d in
    let some : 1 ≤ parts_height v.parts = form_height (chunk_form Token (SeenNext text) (behind_in text) v.parts v.runs) in
    let shape : height n ≡ suc (parts_height v.parts) = ap height v.tree in
    omega arith

-- there is no room for the node of a name
pub name_high : (s e : CursorState) (old new : List Pair) (high inner : ℕ) (left : Operand) (answer : Result Operand Fault) (fault : Fault) → IsErrAnd answer (λ x. x ≡ fault) → inner ≡ high - 1 → fault ≡ TooDeep → inner < 1 → SubscriptComplete s e old new high left answer
name_high s e old new high inner left answer fault is inner_is deep above = linked_refused s e old new high left answer fault is (λ l b ps o to P d own.
    let some = some_height left.cover.node in
    refuses_high (Room s o (link_height left ps) high) (link_height left ps) high fault deep (omega arith) (λ (room : Room s o (link_height left ps) high). room.1))

join_low : (ps qs : Parts) → parts_height qs ≤ parts_height (join ps qs)
join_low none qs = omega arith
join_low (part n ps) qs = let low = join_low ps qs in omega arith
join_low (gap ps) qs = join_low ps qs

-- What is refused behind the sign.
module _ (s m e : CursorState) (old new : List Pair) (high : ℕ) (left : Operand) (found : Subscript) (b : Bool) (answer : Result Operand Fault) (fault : Fault) (is : IsErrAnd answer (λ x. x ≡ fault)) (text : m.text ≡ s.text) (open_same : m.opened ≡ s.opened) (passed : LinkedAt s m found b) where
  abbrev Complete : Type 0
  Complete = SubscriptComplete s e old new high left answer

  at_further : {w : Subscript} → found ≡ w → ((l : Subscript) → l ≡ w → (ps : Parts) (o : ℕ) (to : Token) (P : List Pair) → Further m.text o m.last to l ps P → AllOfLanguage m.text ps → Refuses (Room s o (link_height left ps) high) fault) → SubscriptComplete s e old new high left answer
  at_further found_is f = linked_refused s e old new high left answer fault is (λ l c ps o to P d own.
      (let v = given_link s m found b text passed (link_given s.text l c d) in f l (v.link_is ∙ found_is) ps o to P v.further (subst (λ x. AllOfLanguage x ps) (sym text) own)))

  -- no name
  pub word_refused : found ≡ link.Name → NoMemberName m → Complete
  word_refused found_is unseen = at_further found_is (λ l kind ps o to P d own.
      let v = name_of kind d in
      let u = property_given v.spelled in
      absurd (false≢true (sym (unseen u.token to u.read.next) ∙ member_class u (first_of_language (subst (AllOfLanguage m.text) v.parts own)))))

  -- no bracket
  pub bracket_refused : found ≡ link.Index → Misses m.text Punctuator (codes "[") m.last → Complete
  bracket_refused found_is unseen = at_further found_is (λ l kind ps o to P d own. absurd (not_missed unseen (index_of kind d).opens))

  module _ (x z : CursorState) (mid more : List Pair) (inner : ℕ) (found_is : found ≡ link.Index) (text2 : x.text ≡ m.text) (open2 : x.opened ≡ m.opened) (read : ReadsHere m.text Punctuator (codes "[") m.last x.last) (inner_is : inner ≡ high - 1) where
    given_index : {o : ℕ} {to : Token} {ps : Parts} {P : List Pair} → (v : IndexGiven m.text o m.last to ps P) → GivenAs x.text whole o v.inner x.last v.to P as_expression
    given_index {o} {to} {ps} {P} v =
        let at : v.from ≡ x.last = (marks_same m.text v.opens read).1 in
        let spelled : SpellsIn m.text o (expr Expression true Any) v.inner x.last v.to P = subst (λ t. SpellsIn m.text o (expr Expression true Any) v.inner t v.to P) at v.spelled in
        let stops : StopsIn m.text Expression true v.inner v.to = before_bracket m.text v.inner v.closes in
        an_expression (no_conditional refl) (no_new refl) (subst (λ t. SpellsIn t o (expr Expression true Any) v.inner x.last v.to P) (sym text2) spelled) (subst (λ t. StopsIn t Expression true v.inner v.to) (sym text2) stops)

    inner_own : {o : ℕ} {to : Token} {ps : Parts} {P : List Pair} → (v : IndexGiven m.text o m.last to ps P) → AllOfLanguage m.text ps → OfLanguage x.text v.inner
    inner_own v own = subst (λ t. OfLanguage t v.inner) (sym text2) (first_of_language (subst (AllOfLanguage m.text) v.parts own))

    -- a refusal of the index
    pub index_refused : ExpressionComplete x z mid more inner whole (Err fault) → Complete
    index_refused complete = at_further found_is (λ l kind ps o to P d own.
        let v = index_of kind d in
        refuses_on (Room x o (height v.inner) inner) (Room s o (link_height left ps) high) fault (complete as_expression o v.inner v.to P (given_index v) (inner_own v own)) (λ room.
        room_part s x (open2 ∙ open_same) (λ low. (let lower : link_height left ps ≡ link_height left (part v.inner none) = ap (link_height left) v.parts in omega arith)) room))

    -- it isn't an expression
    pub index_unsettled : (r : Operand) → ExpressionComplete x z mid more inner whole (Ok r) → r.cover.shape.is_expression ≡ false → Complete
    index_unsettled r complete unfit = at_further found_is (λ l kind ps o to P d own.
        let v = index_of kind d in
        let u = complete as_expression o v.inner v.to P (given_index v) (inner_own v own) in
        absurd (false≢true (sym unfit ∙ u.0.fits)))

    -- no bracket behind it
    pub unclosed_refused : (r : Operand) → ExpressionComplete x z mid more inner whole (Ok r) → z.text ≡ x.text → Misses z.text Punctuator (codes "]") z.last → Complete
    unclosed_refused r complete text3 unseen = at_further found_is (λ l kind ps o to P d own.
        let v = index_of kind d in
        let u = complete as_expression o v.inner v.to P (given_index v) (inner_own v own) in
        absurd (not_missed unseen (subst (λ t. ReadsHere t Punctuator (codes "]") z.last to) (sym (text3 ∙ text2)) (subst (λ t. ReadsHere m.text Punctuator (codes "]") t to) (sym u.1.place) v.closes))))

  -- a refusal of the arguments
  pub called_refused : (x : CursorState) (mid more : List Pair) (inner : ℕ) → found ≡ link.Arguments → inner ≡ high - 1 → ArgumentsComplete m x mid more inner (Err fault) → Complete
  called_refused x mid more inner found_is inner_is complete = at_further found_is (λ l kind ps o to P d own.
      refuses_on (Room m o (parts_height ps) inner) (Room s o (link_height left ps) high) fault (complete ps o to P (arguments_of kind d) own) (λ room. room_part s m open_same (λ low. omega arith) room))

  -- no template
  pub unopened_refused : (l : ListKind) (inner : ℕ) → found ≡ link.Quasi → l ≡ listed.Template → NotBegun l m inner fault → NoTemplate l m fault → inner ≡ high - 1 - 1 → Complete
  unopened_refused l inner found_is what begun seen inner_is = at_further found_is (λ k kind ps o to P d own. let v = template_of kind d in unopened fault o ps v.parts (link_height left ps) refl (quasi_begins m.text v.spelled) (quasi_height v.spelled) begun seen)
    where
      unopened : (fault : Fault) (o : ℕ) (ps : Parts) {n : Tree} → ps ≡ part n none → (levels : ℕ) → levels ≡ link_height left ps → TemplateAhead m.text m.last → 2 ≤ height n → NotBegun l m inner fault → NoTemplate l m fault →
          Refuses (Room s o levels high) fault
      unopened (Syntax at) o ps parts levels levels_are first low begun seen = absurd (false≢true (sym (seen what (behind_in m.text first.mid) first.mid first.read) ∙ ap (same_class Template) first.class))
      unopened TooDeep o ps {n} parts levels levels_are first low begun seen = λ (room : Room s o levels high).
          let high_enough = room.1 in
          let lower : link_height left ps ≡ link_height left (part n none) = ap (link_height left) parts in
          let none_left = begun.1 in
          omega arith
      unopened OutOfMemory o ps parts levels levels_are first low begun seen = tt
      unopened _ o ps parts levels levels_are first low begun seen = absurd begun

  module _ (x z : CursorState) (mid more : List Pair) (inner low : ℕ) (l : ListOf) (found_is : found ≡ link.Quasi) (text2 : x.text ≡ m.text) (open2 : x.opened ≡ m.opened) (what : l.listed ≡ listed.Template) (first_part : TemplateAt m x l) (inner_is : inner ≡ high - 1) where
    rest_of : {o : ℕ} {n : Tree} {e : Token} {P : List Pair} → SpellsIn m.text o tagged_quasi n m.last e P → (v : TemplateGiven m.text o n m.last e P) × TemplateRest m.text o l v.parts x.last e P
    rest_of d = let t = quasi_begins m.text d in template_rest (first_part what (t.mid, (t.read, ap (same_class Template) t.class))) d

    rest_own : {o : ℕ} {n : Tree} {ps : Parts} {e : Token} {P : List Pair} → ps ≡ part n none → AllOfLanguage m.text ps → (r : (v : TemplateGiven m.text o n m.last e P) × TemplateRest m.text o l v.parts x.last e P) → AllOfLanguage x.text r.1.rest
    rest_own parts own r =
        let whole = parts_of_language (subst (OfLanguage m.text) r.0.tree (first_of_language (subst (AllOfLanguage m.text) parts own))) in
        subst (λ t. AllOfLanguage t r.1.rest) (sym text2) (join_of_language l.nodes r.1.rest (subst (AllOfLanguage m.text) r.1.parts whole)).1

    -- a refusal of its list
    pub unlisted_refused : ListComplete x z mid more low l (Err fault) → low ≡ inner - 1 → Complete
    unlisted_refused complete low_is = at_further found_is (λ kk kind ps o to P d own.
        let v = template_of kind d in
        let r = rest_of v.spelled in
        let shape : height v.template ≡ suc (parts_height (join l.nodes r.1.rest)) = ap height r.0.tree ∙ ap (λ q. suc (parts_height q)) r.1.parts in
        let rest_low = join_low l.nodes r.1.rest in
        refuses_on (Room x o (parts_height r.1.rest) low) (Room s o (link_height left ps) high) fault (complete as_expression o r.1.rest to P (subst (λ t. ListGiven t l as_expression o r.1.rest x.last to P) (sym text2) r.1.given) (rest_own v.parts own r)) (λ room.
        room_part s x (open2 ∙ open_same) (λ fits. (let lower : link_height left ps ≡ link_height left (part v.template none) = ap (link_height left) v.parts in omega arith)) room))

    -- the template is too high
    pub unmade_refused : (k : ListOf) → ListComplete x z mid more low l (Ok k) → MakesAs (listed_part k) (height (listed_node k)) inner (Err fault) → Complete
    unmade_refused k complete made = at_further found_is (λ kk kind ps o to P d own.
        let v = template_of kind d in
        let r = rest_of v.spelled in
        let u = complete as_expression o r.1.rest to P (subst (λ t. ListGiven t l as_expression o r.1.rest x.last to P) (sym text2) r.1.given) (rest_own v.parts own r) in
        let shape : height v.template ≡ height (listed_node k) = ap height r.0.tree ∙ ap (λ q. suc (parts_height q)) (r.1.parts ∙ sym u.1) in
        let lower : link_height left ps ≡ link_height left (part v.template none) = ap (link_height left) v.parts in
        refuses_high (Room s o (link_height left ps) high) (height (listed_node k)) inner fault made.0 made.1 (λ (room : Room s o (link_height left ps) high). let fits = room.1 in omega arith))
