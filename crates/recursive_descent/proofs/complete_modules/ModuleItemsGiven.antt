-- The items of a module that are given: what is left of them behind those that were read, up to the end of the text (ECMA-262, 13th edition, 16.2).
use Rattle.std.proofs.Common.{◌≡◌, ℕ, Bool, true, false, cond, List, [], ◌++◌, Result, Ok, Err, refl, sym, ap, ◌∙◌, subst, append_assoc}
use Rattle.std.specs.Prelude.{◌&&◌}
use Rattle.std.specs.Result.{IsErrAnd}
use Rattle.std.proofs.lemmas.Bool.{false≢true}
use Rattle.std.proofs.lemmas.List.{append-nil}
use Rattle.source_text.specs.declared.fault.Fault.{Fault}
use Rattle.tokens.specs.declared.token.TokenClass.TheVariants.{IdentifierName}
use Rattle.tokens.specs.declared.token.Goal.TheVariants.{Div}
use Rattle.token_cursor.specs.CursorState.{CursorState}
use Rattle.token_cursor.specs.Seen.{SeesBy, MissesBy}
use Rattle.token_cursor.specs.SourceText.{SourceText, SeenNext, behind_in}
use Rattle.token_cursor.proofs.SeenTokens.{seen_determined}
use Rattle.tree.specs.declared.kind.Pair.{Pair}
use Rattle.tree.specs.Tree.{Tree, Parts, none, part, gap, join, push, height, parts_height, kind_of}
use Rattle.language.specs.Edges.{ends_in_if}
use Rattle.language.specs.Pieces.{opening, item, statement, module_item}
use Rattle.language.specs.Token.{Token}
use Rattle.language.specs.Promises.{is_free}
use Rattle.language.specs.Following.{Followed}
use Rattle.language.specs.Derivation.{Reads}
use Rattle.language.specs.Statements.{is_directive, is_module_item, module_prologue}
use Rattle.language.proofs.table.ItemTokens.{item_starts}
use Rattle.language.proofs.list_loops.StatementLists.{started_follows}
use Rattle.language.proofs.list_loops.FirstPieces.{run_never, run_none, run_laid, run_the_part}
use Rattle.unambiguity_laws.proofs.modules.ModuleItems.{an_import, an_export, module_item_form, module_item_follows}
use Rattle.parser_tables.specs.Tests.{ends}
use Rattle.parser_tables.specs.declared.statements.StatementContext.{StatementContext}
use Rattle.parser_tables.specs.declared.statements.StatementListEnd.TheVariants.{EndOfText}
use Rattle.recursive_descent.specs.Completeness.{Room, EndsWith, FinishedIn}
use Rattle.recursive_descent.specs.Later.{ModuleComplete, item_of_module}
use Rattle.recursive_descent.specs.ModuleItems.{ModuleItemComplete}
use Rattle.recursive_descent.specs.Soundness.{RunsIn, anywhere}
use Rattle.recursive_descent.specs.SoundnessOfStatements.{context_role}
use Rattle.recursive_descent.specs.Spelled.{SpellsIn, AllOfLanguage}
use Rattle.recursive_descent.proofs.complete_expressions.Agreement.{agrees_on, ends_none, ends_both, ends_same}
use Rattle.recursive_descent.proofs.complete_statements.StatementListsGiven.{first_stands, end_finishes, push_join, no_item_ends, item_own, item_room}
use Rattle.recursive_descent.proofs.sound_lists.OneMoreItem.{join_none}

module _ (text : SourceText) where
  -- what follows what stands before an item
  item_follows : (c d b : Bool) {o : ℕ} {n : Tree} {s e : Token} {P : List Pair} → SpellsIn text o (cond c module_item (cond d (opening false) (item false))) n s e P → Followed Token (SeenNext text) (behind_in text) b s
  item_follows true d b spelled = module_item_follows Token (SeenNext text) (behind_in text) (seen_determined text) (module_item_form Token (SeenNext text) (behind_in text) (seen_determined text) spelled) b
  item_follows false d b spelled = started_follows Token (SeenNext text) (behind_in text) (seen_determined text) (item_starts Token (SeenNext text) (behind_in text) (seen_determined text) (first_stands false d) spelled)

  items_follow : (d b : Bool) {o : ℕ} (rest : Parts) {s to : Token} {P : List Pair} → SeesBy text Div (ends EndOfText) to → RunsIn text o (anywhere (module_prologue d rest)) rest s to P → Followed Token (SeenNext text) (behind_in text) b s
  items_follow d b none {to = to} sees run = subst (λ x. Followed Token (SeenNext text) (behind_in text) b x) (sym (run_none Token (SeenNext text) (behind_in text) run).place) (end_finishes text EndOfText to b sees)
  items_follow d b (gap ps) sees run = absurd (run_never Token (SeenNext text) (behind_in text) run)
  items_follow d b (part n ps) sees run = item_follows (is_module_item (kind_of n)) d b (run_the_part Token (SeenNext text) (behind_in text) run).spelled

  -- no item begins at the end
  no_word : {w : List ℕ} {s x : Token} {t : Token} → SeesBy text Div (ends EndOfText) s → Reads Token (SeenNext text) (behind_in text) IdentifierName w s t x → ⊥
  no_word {s = s} {x} {t} sees r =
      let e = behind_in text sees.0 in
      let same = ((seen_determined text).same Div s e t sees.0 x sees.1.0.next r.next sees.1.0.allowed ((seen_determined text).free Div s t x r.next (ap is_free r.class))).0 in
      let at_end : ends EndOfText t ≡ true = subst (λ v. ends EndOfText v ≡ true) same sees.1.1 in
      absurd (false≢true (sym (ap (λ c. ends EndOfText (record t { class = c })) r.class) ∙ at_end))

  no_item : (c d : Bool) {o : ℕ} {n : Tree} {s e : Token} {P : List Pair} → SeesBy text Div (ends EndOfText) s → SpellsIn text o (cond c module_item (cond d (opening false) (item false))) n s e P → ⊥
  no_item true d sees spelled = elim (module_item_form Token (SeenNext text) (behind_in text) (seen_determined text) spelled) [
    | an_import tree pl r i ↦ no_word sees r
    | an_export tree pl r i ↦ no_word sees r
  ]
  no_item false d sees spelled = no_item_ends text EndOfText false d sees spelled

  -- the next item, and the others
  pub record OneItem (d : Bool) (o : ℕ) (rest : Parts) (s to : Token) (P : List Pair) : Type 0 where
    pub item_is : Tree
    pub others : Parts
    pub mid : Token
    pub one : List Pair
    pub more : List Pair
    pub parts : rest ≡ part item_is others
    pub pairs : P ≡ one ++ more
    pub spelled : SpellsIn text o (cond (is_module_item (kind_of item_is)) module_item (cond d (opening false) (item false))) item_is s mid one
    pub finished : FinishedIn text item_is mid
    pub runs : RunsIn text o (anywhere (module_prologue (d && is_directive item_is) others)) others mid to more

  one_item : (d : Bool) {o : ℕ} (rest : Parts) {s to : Token} {P : List Pair} → SeesBy text Div (ends EndOfText) to → MissesBy text Div (ends EndOfText) s → RunsIn text o (anywhere (module_prologue d rest)) rest s to P → OneItem d o rest s to P
  one_item d none {s} {to} sees misses run =
      let same = (run_none Token (SeenNext text) (behind_in text) run).place in
      let here : SeesBy text Div (ends EndOfText) s = subst (λ x. SeesBy text Div (ends EndOfText) x) (sym same) sees in
      absurd (false≢true (sym (misses (behind_in text here.0) here.0 here.1.0) ∙ here.1.1))
  one_item d (gap ps) sees misses run = absurd (run_never Token (SeenNext text) (behind_in text) run)
  one_item d (part n ps) sees misses run =
      let v = run_the_part Token (SeenNext text) (behind_in text) run in
      let behind = run_laid Token (SeenNext text) (behind_in text) v.runs in
      record { item_is = n; others = ps; mid = v.mid; one = v.one; more = v.more; parts = refl; pairs = v.pairs; spelled = v.spelled; finished = items_follow (d && is_directive n) (ends_in_if n) ps sees behind; runs = behind }

  -- no more items
  no_items : (d : Bool) {o : ℕ} (rest : Parts) {s to : Token} {P : List Pair} → SeesBy text Div (ends EndOfText) s → RunsIn text o (anywhere (module_prologue d rest)) rest s to P → (rest ≡ none) × (s ≡ to) × (P ≡ [])
  no_items d none sees run = let v = run_none Token (SeenNext text) (behind_in text) run in (refl, v.place, v.pairs)
  no_items d (gap ps) sees run = absurd (run_never Token (SeenNext text) (behind_in text) run)
  no_items d (part n ps) sees run = absurd (no_item (is_module_item (kind_of n)) d sees (run_the_part Token (SeenNext text) (behind_in text) run).spelled)

-- what is left of the given items behind those that were read
pub record ItemsLeft (d : Bool) (o : ℕ) (nodes ps : Parts) (s m : CursorState) (old mid : List Pair) (to : Token) (P : List Pair) : Type 0 where
  pub rest : Parts
  pub one : List Pair
  pub more : List Pair
  pub parts : ps ≡ join nodes rest
  pub pairs : P ≡ one ++ more
  pub runs : RunsIn s.text o (anywhere (module_prologue d rest)) rest m.last to more
  pub ends : EndsWith s m old mid m.last one

abbrev pub ModuleLeft : CursorState → CursorState → List Pair → List Pair → Bool → Parts → Type 0
ModuleLeft s m old mid d nodes = (ps : Parts) (o : ℕ) (to : Token) (P : List Pair) → RunsIn s.text o (anywhere (module_prologue true ps)) ps s.last to P → SeesBy s.text Div (ends EndOfText) to → AllOfLanguage s.text ps → ItemsLeft d o nodes ps s m old mid to P

pub module_all : (s : CursorState) (old : List Pair) (d : Bool) (nodes : Parts) → d ≡ true → nodes ≡ none → ModuleLeft s s old old d nodes
module_all s old d nodes first empty ps o to P run sees own =
    record { rest = ps; one = []; more = P; parts = sym (ap (λ x. join x ps) empty); pairs = refl; runs = subst (λ b. RunsIn s.text o (anywhere (module_prologue b ps)) ps s.last to P) (sym first) run; ends = ends_none refl refl }

module _ (s m e : CursorState) (old mid new : List Pair) (high : ℕ) (d : StatementContext) (nodes : Parts) (same : m.text ≡ s.text) (items : d.is_item ≡ true) (returns : d.returns ≡ false) (missed : MissesBy m.text Div (ends EndOfText) m.last) (left : ModuleLeft s m old mid d.is_prologue nodes) where
  module _ (ps : Parts) (o : ℕ) (to : Token) (P : List Pair) (run : RunsIn s.text o (anywhere (module_prologue true ps)) ps s.last to P) (sees : SeesBy s.text Div (ends EndOfText) to) (own : AllOfLanguage s.text ps) where
    here : ItemsLeft d.is_prologue o nodes ps s m old mid to P
    here = left ps o to P run sees own

    next_item : OneItem s.text d.is_prologue o here.rest m.last to here.more
    next_item = one_item s.text d.is_prologue here.rest sees (subst (λ t. MissesBy t Div (ends EndOfText) m.last) same missed) here.runs

    role : cond d.is_prologue (opening false) (item false) ≡ context_role d
    role = sym (λ i. cond (items i) (cond d.is_prologue (opening (returns i)) (item (returns i))) (statement (returns i)))

    spelled_here : SpellsIn m.text o (item_of_module d next_item.item_is) next_item.item_is m.last next_item.mid next_item.one
    spelled_here =
        subst (λ t. SpellsIn t o (item_of_module d next_item.item_is) next_item.item_is m.last next_item.mid next_item.one) (sym same)
        (subst (λ a. SpellsIn s.text o (cond (is_module_item (kind_of next_item.item_is)) module_item a) next_item.item_is m.last next_item.mid next_item.one) role next_item.spelled)

    finished_here : FinishedIn m.text next_item.item_is next_item.mid
    finished_here = subst (λ t. FinishedIn t next_item.item_is next_item.mid) (sym same) next_item.finished

    all_here : ps ≡ join nodes (part next_item.item_is next_item.others)
    all_here = here.parts ∙ ap (join nodes) next_item.parts

  -- one more item was read
  pub module_further : (b : Bool) (n : Tree) → b ≡ (d.is_prologue && is_directive n) → ModuleItemComplete m e mid new high d (Ok n) → ModuleLeft s e old new b (push nodes n)
  module_further b n before complete ps o to P run sees own =
      let l = here ps o to P run sees own in
      let v = next_item ps o to P run sees own in
      let agrees = complete o v.item_is v.mid v.one items returns (spelled_here ps o to P run sees own) (finished_here ps o to P run sees own) (item_own nodes v.item_is v.others same (all_here ps o to P run sees own) own) in
      let flag : (d.is_prologue && is_directive v.item_is) ≡ b = sym (before ∙ ap (λ x. d.is_prologue && is_directive x) agrees.0) in
      record {
        rest = v.others;
        one = l.one ++ v.one;
        more = v.more;
        parts = all_here ps o to P run sees own ∙ push_join nodes v.item_is v.others ∙ ap (λ x. join (push nodes x) v.others) (sym agrees.0);
        pairs = l.pairs ∙ ap (λ x. l.one ++ x) v.pairs ∙ sym (append_assoc l.one v.one v.more);
        runs = subst (λ x. RunsIn s.text o (anywhere (module_prologue b v.others)) v.others x to v.more) (sym agrees.1.place) (subst (λ c. RunsIn s.text o (anywhere (module_prologue c v.others)) v.others v.mid to v.more) flag v.runs);
        ends = subst (λ x. EndsWith s e old new x (l.one ++ v.one)) (sym agrees.1.place) (ends_both l.ends agrees.1);
      }

  -- the next is refused
  pub module_item_refused : (z : CursorState) (last : List Pair) (result : Result Parts Fault) (fault : Fault) → IsErrAnd result (λ x. x ≡ fault) → m.opened ≡ s.opened → ModuleItemComplete m e mid new high d (Err fault) → ModuleComplete s z old last high result
  module_item_refused z last result fault is same_open complete ps o to P run sees own =
      let v = next_item ps o to P run sees own in
      agrees_on (Room m o (height v.item_is) high) (Room s o (parts_height ps) high) _ result fault is (complete o v.item_is v.mid v.one items returns (spelled_here ps o to P run sees own) (finished_here ps o to P run sees own) (item_own nodes v.item_is v.others same (all_here ps o to P run sees own) own)) (item_room s m nodes v.item_is v.others same_open (all_here ps o to P run sees own))

-- all of them
pub module_read : (s e : CursorState) (old new : List Pair) (high : ℕ) (d : Bool) (nodes : Parts) → e.text ≡ s.text → SeesBy e.text Div (ends EndOfText) e.last → ModuleLeft s e old new d nodes → ModuleComplete s e old new high (Ok nodes)
module_read s e old new high d nodes same ended left ps o to P run sees own =
    let l = left ps o to P run sees own in
    let v = no_items s.text d l.rest (subst (λ t. SeesBy t Div (ends EndOfText) e.last) same ended) l.runs in
    (sym (l.parts ∙ ap (join nodes) v.0 ∙ join_none nodes), subst (λ x. EndsWith s e old new x P) v.1 (ends_same (sym (l.pairs ∙ ap (λ x. l.one ++ x) v.2 ∙ append-nil l.one)) l.ends))
