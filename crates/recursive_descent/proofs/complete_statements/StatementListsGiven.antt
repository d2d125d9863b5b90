-- Lists of statements that are given: what is left of them behind those that were read, up to where they end (ECMA-262 13.2, 14.1.1).
use Rattle.std.proofs.Common.{◌≡◌, ◌⊎◌, inl, inr, ℕ, ◌-◌, ◌≤◌, arith, Bool, true, false, cond, List, [], ◌∷◌, ◌++◌, Result, Ok, Err, refl, sym, ap, ◌∙◌, subst, append_assoc}
use Rattle.std.specs.Prelude.{◌&&◌, ◌||◌, IsTrue}
use Rattle.std.specs.Result.{IsErrAnd}
use Rattle.std.proofs.lemmas.Bool.{false≢true}
use Rattle.source_text.specs.declared.fault.Fault.{Fault}
use Rattle.tokens.specs.declared.token.TokenClass.{TokenClass}
use Rattle.tokens.specs.declared.token.TokenClass.TheVariants.{IdentifierName, Punctuator, End}
use Rattle.tokens.specs.declared.token.Goal.TheVariants as goal
use Rattle.tokens.specs.Goals.{allows}
use Rattle.token_cursor.specs.CursorState.{CursorState}
use Rattle.tree.specs.declared.kind.Pair.{Pair}
use Rattle.tree.specs.Tree.{Tree, Parts, none, part, gap, join, push, height, parts_height}
use Rattle.language.specs.Vocabulary.{among}
use Rattle.language.specs.Pieces.{opening, item, statement}
use Rattle.language.specs.Token.{Token}
use Rattle.language.specs.Edges.{ends_in_if}
use Rattle.language.specs.Promises.{is_free}
use Rattle.language.specs.Statements.{prologue, is_directive}
use Rattle.language.specs.Following.{Followed, ListEnds, ends_list}
use Rattle.language.specs.Derivation.{done}
use Rattle.language.specs.Claims.{max_open}
use Rattle.language.proofs.table.Begins.{among_by}
use Rattle.language.proofs.table.ItemTokens.{item_starts}
use Rattle.language.proofs.list_loops.StatementLists.{case_closes, started_follows}
use Rattle.language.proofs.list_loops.FirstPieces.{run_never, run_none, run_the_part}
use Rattle.language.proofs.table.StatementWays.{Stands, as_item, as_opening}
use Rattle.token_cursor.proofs.SeenTokens.{seen_determined}
use Rattle.parser_tables.specs.declared.statements.StatementContext.{StatementContext}
use Rattle.parser_tables.specs.declared.statements.StatementListEnd.{StatementListEnd}
use Rattle.parser_tables.specs.declared.statements.StatementListEnd.TheVariants as until
use Rattle.recursive_descent.specs.Complete.{StatementComplete, StatementsComplete}
use Rattle.recursive_descent.specs.Soundness.{RunsIn, anywhere}
use Rattle.recursive_descent.specs.SoundnessOfStatements.{context_role}
use Rattle.recursive_descent.specs.Completeness.{Room, EndsWith, FinishedIn}
use Rattle.token_cursor.specs.Seen.{SeesBy, MissesBy}
use Rattle.parser_tables.specs.Tests.{ends}
use Rattle.recursive_descent.proofs.complete_expressions.Agreement.{agrees_err, agrees_on, ends_none, ends_both, ends_same, refuses_memory}
use Rattle.recursive_descent.proofs.sound_lists.OneMoreItem.{join_none}
use Rattle.token_cursor.specs.SourceText.{SourceText, SeenNext, behind_in}
use Rattle.recursive_descent.specs.Spelled.{SpellsIn, OfLanguage, AllOfLanguage}
use Rattle.recursive_descent.proofs.reading.LanguageTrees.{first_of_language, join_of_language}

-- an item of a prologue stands before other items, or behind directives alone
pub first_stands : (r d : Bool) → Stands (cond d (opening r) (item r)) d true r
first_stands r true = as_opening
first_stands r false = as_item

-- what a list of statements ends before is read by each goal, and begins none
record EndsSo (c : TokenClass) (w : List ℕ) : Type 0 where
  ends : ends_list (record { class = c; text = w; start = 0; stop = 0; after_break = false }) ≡ true
  allowed : (is_free c ≡ true) ⊎ IsTrue (allows goal.RegExp c w)

brace_so : (w : List ℕ) → among w ("}" ∷ []) ≡ true → EndsSo Punctuator w
brace_so w h = among_by (λ v. EndsSo Punctuator v) w ("}" ∷ []) h (record { ends = refl; allowed = inr refl }, tt)

one_of : (b : Bool) → b ≡ true → (b || false) ≡ true
one_of true h = refl
one_of false h = absurd (false≢true h)

either_one : (a b : Bool) → (a || b) ≡ true → (a ≡ true) ⊎ (b ≡ true)
either_one true b h = inl refl
either_one false b h = inr h

ends_so : (u : StatementListEnd) (c : TokenClass) (w : List ℕ) → ends u (record { class = c; text = w; start = 0; stop = 0; after_break = false }) ≡ true → EndsSo c w
ends_so until.ClosingBrace Punctuator w h = brace_so w (one_of _ h)
ends_so until.ClosingBrace _ w h = absurd (false≢true h)
ends_so until.NextCase Punctuator w h = elim (either_one _ false h) [ inl k ↦ brace_so w (one_of _ k) | inr k ↦ absurd (false≢true k) ]
ends_so until.NextCase IdentifierName w h = among_by (λ v. EndsSo IdentifierName v) w ("case" ∷ "default" ∷ []) h (record { ends = refl; allowed = inl refl }, (record { ends = refl; allowed = inl refl }, tt))
ends_so until.NextCase _ w h = absurd (false≢true h)
ends_so until.EndOfText End w h = record { ends = refl; allowed = inl refl }
ends_so until.EndOfText _ w h = absurd (false≢true h)

ends_token : (u : StatementListEnd) (t : Token) → ends u t ≡ true → ends u (record { class = t.class; text = t.text; start = 0; stop = 0; after_break = false }) ≡ true
ends_token until.ClosingBrace t h = h
ends_token until.NextCase t h = h
ends_token until.EndOfText t h = h

module _ (text : SourceText) where
  -- so it is read by the goal for operands too
  ended_by : (u : StatementListEnd) (e : Token) → SeesBy text goal.Div (ends u) e → ListEnds Token (SeenNext text) (behind_in text) e
  ended_by u e sees =
      let t = behind_in text sees.0 in
      let so = ends_so u t.class t.text (ends_token u t sees.1.1) in
      let allowed : IsTrue (allows goal.RegExp t.class t.text) = elim so.allowed [ inl h ↦ (seen_determined text).free goal.RegExp e t sees.0 sees.1.0.next h | inr h ↦ h ] in
      record { token = t; mid = sees.0; read = record { next = sees.1.0.next; allowed = allowed }; ends = so.ends }

  -- what follows the last statement
  pub end_finishes : (u : StatementListEnd) (e : Token) (b : Bool) → SeesBy text goal.Div (ends u) e → Followed Token (SeenNext text) (behind_in text) b e
  end_finishes u e b sees = (case_closes Token (SeenNext text) (behind_in text) (seen_determined text)).closes {o = 0} {b = b} {k = e} {e = e} {P = []} done (ended_by u e sees)

  -- no item begins there
  pub no_item_ends : (u : StatementListEnd) (r d : Bool) {o : ℕ} {n : Tree} {s e : Token} {P : List Pair} → SeesBy text goal.Div (ends u) s → SpellsIn text o (cond d (opening r) (item r)) n s e P → ⊥
  no_item_ends u r d {s = s} sees spelled =
      (case_closes Token (SeenNext text) (behind_in text) (seen_determined text)).no_item {o = 0} {k = s} {e = s} {P = []} done (ended_by u s sees) (item_starts Token (SeenNext text) (behind_in text) (seen_determined text) (first_stands r d) spelled)

  -- the next item, and the others
  pub record OneItem (r d : Bool) (o : ℕ) (rest : Parts) (s to : Token) (P : List Pair) : Type 0 where
    pub item_is : Tree
    pub others : Parts
    pub mid : Token
    pub one : List Pair
    pub more : List Pair
    pub parts : rest ≡ part item_is others
    pub pairs : P ≡ one ++ more
    pub spelled : SpellsIn text o (cond d (opening r) (item r)) item_is s mid one
    pub finished : FinishedIn text item_is mid
    pub runs : RunsIn text o (anywhere (prologue r (d && is_directive item_is) [] [] others)) others mid to more

  items_follow : (u : StatementListEnd) (r d b : Bool) {o : ℕ} (rest : Parts) {s to : Token} {P : List Pair} → SeesBy text goal.Div (ends u) to → RunsIn text o (anywhere (prologue r d [] [] rest)) rest s to P → Followed Token (SeenNext text) (behind_in text) b s
  items_follow u r d b none {to = to} sees run = subst (λ x. Followed Token (SeenNext text) (behind_in text) b x) (sym (run_none Token (SeenNext text) (behind_in text) run).place) (end_finishes u to b sees)
  items_follow u r d b (gap ps) sees run = absurd (run_never Token (SeenNext text) (behind_in text) run)
  items_follow u r d b (part n ps) sees run =
      started_follows Token (SeenNext text) (behind_in text) (seen_determined text) (item_starts Token (SeenNext text) (behind_in text) (seen_determined text) (first_stands r d) (run_the_part Token (SeenNext text) (behind_in text) run).spelled)

  pub one_item : (u : StatementListEnd) (r d : Bool) {o : ℕ} (rest : Parts) {s to : Token} {P : List Pair} → SeesBy text goal.Div (ends u) to → MissesBy text goal.Div (ends u) s → RunsIn text o (anywhere (prologue r d [] [] rest)) rest s to P → OneItem r d o rest s to P
  one_item u r d none {s} {to} sees misses run =
      let same = (run_none Token (SeenNext text) (behind_in text) run).place in
      let here : SeesBy text goal.Div (ends u) s = subst (λ x. SeesBy text goal.Div (ends u) x) (sym same) sees in
      absurd (false≢true (sym (misses (behind_in text here.0) here.0 here.1.0) ∙ here.1.1))
  one_item u r d (gap ps) sees misses run = absurd (run_never Token (SeenNext text) (behind_in text) run)
  one_item u r d (part n ps) sees misses run =
      let v = run_the_part Token (SeenNext text) (behind_in text) run in
      record { item_is = n; others = ps; mid = v.mid; one = v.one; more = v.more; parts = refl; pairs = v.pairs; spelled = v.spelled; finished = items_follow u r (d && is_directive n) (ends_in_if n) ps sees v.runs; runs = v.runs }

  -- no more items
  pub no_items : (u : StatementListEnd) (r d : Bool) {o : ℕ} (rest : Parts) {s to : Token} {P : List Pair} → SeesBy text goal.Div (ends u) s → RunsIn text o (anywhere (prologue r d [] [] rest)) rest s to P → (rest ≡ none) × (s ≡ to) × (P ≡ [])
  no_items u r d none sees run = let v = run_none Token (SeenNext text) (behind_in text) run in (refl, v.place, v.pairs)
  no_items u r d (gap ps) sees run = absurd (run_never Token (SeenNext text) (behind_in text) run)
  no_items u r d (part n ps) sees run = absurd (no_item_ends u r d sees (run_the_part Token (SeenNext text) (behind_in text) run).spelled)

-- what is left of the given items behind those that were read
pub record ItemsLeft (r d : Bool) (o : ℕ) (nodes ps : Parts) (s m : CursorState) (old mid : List Pair) (to : Token) (P : List Pair) : Type 0 where
  pub rest : Parts
  pub one : List Pair
  pub more : List Pair
  pub parts : ps ≡ join nodes rest
  pub pairs : P ≡ one ++ more
  pub runs : RunsIn s.text o (anywhere (prologue r d [] [] rest)) rest m.last to more
  pub ends : EndsWith s m old mid m.last one

abbrev pub AllLeft : CursorState → CursorState → List Pair → List Pair → StatementListEnd → StatementContext → StatementContext → Parts → Type 0
AllLeft s m old mid until c d nodes = (ps : Parts) (o : ℕ) (to : Token) (P : List Pair) → c.is_item ≡ true → RunsIn s.text o (anywhere (prologue c.returns c.is_prologue [] [] ps)) ps s.last to P → SeesBy s.text goal.Div (ends until) to → AllOfLanguage s.text ps → ItemsLeft c.returns d.is_prologue o nodes ps s m old mid to P

pub all_first : (s : CursorState) (old : List Pair) (until : StatementListEnd) (c : StatementContext) (nodes : Parts) → nodes ≡ none → AllLeft s s old old until c c nodes
all_first s old until c nodes empty ps o to P items run sees own = record { rest = ps; one = []; more = P; parts = sym (ap (λ x. join x ps) empty); pairs = refl; runs = run; ends = ends_none refl refl }

pub push_join : (qs : Parts) (n : Tree) (ps : Parts) → join qs (part n ps) ≡ join (push qs n) ps
push_join none n ps = refl
push_join (part k qs) n ps = ap (part k) (push_join qs n ps)
push_join (gap qs) n ps = ap gap (push_join qs n ps)

pub join_high : (qs : Parts) (n : Tree) (ps : Parts) (high : ℕ) → parts_height (join qs (part n ps)) ≤ high → height n ≤ high
join_high none n ps high h = omega arith
join_high (part k qs) n ps high h = let low : parts_height (join qs (part n ps)) ≤ high = omega arith in join_high qs n ps high low
join_high (gap qs) n ps high h = join_high qs n ps high h

-- an item among others is of the language, and has room, where they all are and have
pub item_own : {a b : SourceText} (qs : Parts) (n : Tree) (rest : Parts) {ps : Parts} → a ≡ b → ps ≡ join qs (part n rest) → AllOfLanguage b ps → OfLanguage a n
item_own {b = b} qs n rest same all own = subst (λ t. OfLanguage t n) (sym same) (first_of_language (join_of_language qs (part n rest) (subst (AllOfLanguage b) all own)).1)

pub item_room : (s m : CursorState) {o high : ℕ} (qs : Parts) (n : Tree) (rest : Parts) {ps : Parts} → m.opened ≡ s.opened → ps ≡ join qs (part n rest) → Room s o (parts_height ps) high → Room m o (height n) high
item_room s m {o} {high} qs n rest same_open all room = (subst (λ k. o ≤ max_open - k) (sym same_open) room.0, join_high qs n rest high (subst (λ x. parts_height x ≤ high) all room.1))

module _ (s m e : CursorState) (old mid new : List Pair) (high : ℕ) (u : StatementListEnd) (c d : StatementContext) (nodes : Parts) (same : m.text ≡ s.text) (items : d.is_item ≡ c.is_item) (returns : d.returns ≡ c.returns) (missed : MissesBy m.text goal.Div (ends u) m.last) (left : AllLeft s m old mid u c d nodes) where
  module _ (ps : Parts) (o : ℕ) (to : Token) (P : List Pair) (is_item : c.is_item ≡ true) (run : RunsIn s.text o (anywhere (prologue c.returns c.is_prologue [] [] ps)) ps s.last to P) (sees : SeesBy s.text goal.Div (ends u) to) (own : AllOfLanguage s.text ps) where
    here : ItemsLeft c.returns d.is_prologue o nodes ps s m old mid to P
    here = left ps o to P is_item run sees own

    next_item : OneItem s.text c.returns d.is_prologue o here.rest m.last to here.more
    next_item = one_item s.text u c.returns d.is_prologue here.rest sees (subst (λ t. MissesBy t goal.Div (ends u) m.last) same missed) here.runs

    role : cond d.is_prologue (opening c.returns) (item c.returns) ≡ context_role d
    role = sym (λ i. cond ((items ∙ is_item) i) (cond d.is_prologue (opening (returns i)) (item (returns i))) (statement (returns i)))

    spelled_here : SpellsIn m.text o (context_role d) next_item.item_is m.last next_item.mid next_item.one
    spelled_here = subst (λ t. SpellsIn t o (context_role d) next_item.item_is m.last next_item.mid next_item.one) (sym same) (subst (λ a. SpellsIn s.text o a next_item.item_is m.last next_item.mid next_item.one) role next_item.spelled)

    finished_here : FinishedIn m.text next_item.item_is next_item.mid
    finished_here = subst (λ t. FinishedIn t next_item.item_is next_item.mid) (sym same) next_item.finished

    all_here : ps ≡ join nodes (part next_item.item_is next_item.others)
    all_here = here.parts ∙ ap (join nodes) next_item.parts

  -- one more item was read
  pub all_on : (d' : StatementContext) (n : Tree) → d'.is_prologue ≡ (d.is_prologue && is_directive n) → StatementComplete m e mid new high d (Ok n) → AllLeft s e old new u c d' (push nodes n)
  all_on d' n before complete ps o to P is_item run sees own =
      let l = here ps o to P is_item run sees own in
      let v = next_item ps o to P is_item run sees own in
      let agrees = complete o v.item_is v.mid v.one (spelled_here ps o to P is_item run sees own) (finished_here ps o to P is_item run sees own) (item_own nodes v.item_is v.others same (all_here ps o to P is_item run sees own) own) in
      let flag : d.is_prologue && is_directive v.item_is ≡ d'.is_prologue = sym (before ∙ ap (λ x. d.is_prologue && is_directive x) agrees.0) in
      record {
        rest = v.others;
        one = l.one ++ v.one;
        more = v.more;
        parts = all_here ps o to P is_item run sees own ∙ push_join nodes v.item_is v.others ∙ ap (λ x. join (push nodes x) v.others) (sym agrees.0);
        pairs = l.pairs ∙ ap (λ x. l.one ++ x) v.pairs ∙ sym (append_assoc l.one v.one v.more);
        runs = subst (λ x. RunsIn s.text o (anywhere (prologue c.returns d'.is_prologue [] [] v.others)) v.others x to v.more) (sym agrees.1.place) (subst (λ b. RunsIn s.text o (anywhere (prologue c.returns b [] [] v.others)) v.others v.mid to v.more) flag v.runs);
        ends = subst (λ x. EndsWith s e old new x (l.one ++ v.one)) (sym agrees.1.place) (ends_both l.ends agrees.1);
      }

  -- the next is refused
  pub item_refused : (z : CursorState) (last : List Pair) (result : Result Parts Fault) (fault : Fault) → IsErrAnd result (λ x. x ≡ fault) → m.opened ≡ s.opened → StatementComplete m e mid new high d (Err fault) → StatementsComplete s z old last high u c result
  item_refused z last result fault is same_open complete ps o to P is_item run sees own =
      let v = next_item ps o to P is_item run sees own in
      agrees_on (Room m o (height v.item_is) high) (Room s o (parts_height ps) high) _ result fault is (complete o v.item_is v.mid v.one (spelled_here ps o to P is_item run sees own) (finished_here ps o to P is_item run sees own) (item_own nodes v.item_is v.others same (all_here ps o to P is_item run sees own) own)) (item_room s m nodes v.item_is v.others same_open (all_here ps o to P is_item run sees own))

-- memory is refused
pub items_unheld : (s z : CursorState) (old last : List Pair) (high : ℕ) (u : StatementListEnd) (c : StatementContext) (result : Result Parts Fault) (fault : Fault) → IsErrAnd result (λ x. x ≡ fault) → fault ≡ Rattle.source_text.specs.declared.fault.Fault.TheVariants.OutOfMemory → StatementsComplete s z old last high u c result
items_unheld s z old last high u c result fault is memory ps o to P is_item run sees own = agrees_err (Room s o (parts_height ps) high) _ result fault is (refuses_memory (Room s o (parts_height ps) high) fault memory)

-- all of them
pub all_read : (s e : CursorState) (old new : List Pair) (high : ℕ) (u : StatementListEnd) (c d : StatementContext) (nodes : Parts) → e.text ≡ s.text → SeesBy e.text goal.Div (ends u) e.last → AllLeft s e old new u c d nodes → StatementsComplete s e old new high u c (Ok nodes)
all_read s e old new high u c d nodes same ended left ps o to P is_item run sees own =
    let l = left ps o to P is_item run sees own in
    let v = no_items s.text u c.returns d.is_prologue l.rest (subst (λ t. SeesBy t goal.Div (ends u) e.last) same ended) l.runs in
    (sym (l.parts ∙ ap (join nodes) v.0 ∙ join_none nodes), subst (λ x. EndsWith s e old new x P) v.1 (ends_same (sym (l.pairs ∙ ap (λ x. l.one ++ x) v.2 ∙ Rattle.std.proofs.lemmas.List.append-nil l.one)) l.ends))
