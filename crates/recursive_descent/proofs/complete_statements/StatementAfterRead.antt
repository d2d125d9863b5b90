-- A statement that is given, behind what was read of it before its pieces: its pieces, those of a `for` in two runs, and its node (ECMA-262 13).
use Rattle.std.proofs.Common.{◌≡◌, ◌⊎◌, inl, inr, ℕ, suc, ◌-◌, ◌≤◌, arith, Bool, true, List, [], ◌++◌, Result, Ok, Err, refl, sym, ap, ◌∙◌, subst, append_assoc}
use Rattle.std.specs.Prelude.{codes}
use Rattle.std.specs.Result.{IsErrAnd}
use Rattle.source_text.specs.declared.fault.Fault.{Fault}
use Rattle.tokens.specs.declared.token.TokenClass.TheVariants.{Keyword}
use Rattle.tokens.specs.declared.token.Goal.{Goal}
use Rattle.tokens.specs.declared.token.Token.{Token as Scanned}
use Rattle.tokens.specs.Scanned.{token_of}
use Rattle.token_cursor.specs.CursorState.{CursorState, IsAhead}
use Rattle.tree.specs.declared.kind.Pair.{Pair}
use Rattle.tree.specs.Tree.{Tree, node, Parts, none, part, gap, join, plain, height, parts_height}
use Rattle.productions.specs.Made.{Makes}
use Rattle.language.specs.declared.Edge.{Edge}
use Rattle.language.specs.declared.Edge.TheVariants.{Closed}
use Rattle.language.specs.Token.{Token, as_read}
use Rattle.language.specs.StatementStart.{statement_start}
use Rattle.language.specs.Claims.{max_open}
use Rattle.parser_tables.specs.declared.symbol_lists.PartialStatement.{PartialStatement}
use Rattle.parser_tables.specs.declared.statements.StatementStart.TheVariants as code
use Rattle.parser_tables.specs.declared.statements.StatementContext.{StatementContext}
use Rattle.parser_tables.specs.declared.statements.StatementKind.{StatementKind}
use Rattle.parser_tables.specs.declared.statements.StatementKind.TheVariants as headed
use Rattle.parser_tables.specs.StatementStarts.{coded_statement_start, KindFollowed}
use Rattle.recursive_descent.specs.Complete.{SymbolsComplete, StatementComplete}
use Rattle.recursive_descent.specs.SoundnessOfStatements.{context_role}
use Rattle.recursive_descent.specs.Completeness.{Agrees, Room, EndsWith, FinishedIn}
use Rattle.recursive_descent.specs.CompletenessOfStatements.{PiecesGiven, has_edges}
use Rattle.parser_tables.specs.StatementSymbols.{Piece, statement_parts}
use Rattle.parser_tables.specs.StatementNodes.{statement_node_kind}
use Rattle.recursive_descent.proofs.complete_expressions.Agreement.{agrees_on, refuses_made, ends_none, ends_both, ends_same}
use Rattle.recursive_descent.proofs.sound_statements.WholeStatements.{headed_text, headed_begins}
use Rattle.recursive_descent.proofs.complete_statements.StatementGiven.{own_told, for_told}
use Rattle.recursive_descent.proofs.complete_statements.ForStatements.{ForGiven}
use Rattle.recursive_descent.proofs.complete_statements.SymbolSteps.{PiecesFrom}
use Rattle.token_cursor.specs.SourceText.{SourceText, unseen}
use Rattle.token_cursor.specs.Seen.{Misses}
use Rattle.recursive_descent.specs.Spelled.{SpellsIn, OfLanguage, AllOfLanguage}
use Rattle.recursive_descent.proofs.reading.LanguageTrees.{parts_of_language, join_of_language}

-- each list of pieces knows the right edges for which its ends ask
pub edges_known : (h : StatementKind) (r : Bool) → has_edges (statement_parts h r) ≡ true
edges_known headed.Block r = refl
edges_known headed.Empty r = refl
edges_known headed.Variable r = refl
edges_known headed.If r = refl
edges_known headed.Do r = refl
edges_known headed.While r = refl
edges_known headed.For r = refl
edges_known headed.ForLoop r = refl
edges_known headed.ForIn r = refl
edges_known headed.ForOf r = refl
edges_known headed.Continue r = refl
edges_known headed.Break r = refl
edges_known headed.Return r = refl
edges_known headed.Throw r = refl
edges_known headed.Switch r = refl
edges_known headed.Try r = refl
edges_known headed.Debugger r = refl
edges_known headed.Label r = refl

pub for_or_not : (h : StatementKind) → (h ≡ headed.For) ⊎ (h ≡ headed.For → ⊥)
for_or_not headed.For = inl refl
for_or_not _ = inr (λ e. cc)

pub join_low : (ps qs : Parts) (high : ℕ) → parts_height (join ps qs) ≤ high → (parts_height ps ≤ high) × (parts_height qs ≤ high)
join_low none qs high h = (omega arith, h)
join_low (part n ps) qs high h =
    let one : height n ≤ high = omega arith in
    let rest : parts_height (join ps qs) ≤ high = omega arith in
    let u = join_low ps qs high rest in
    let left = u.0 in
    (omega arith, u.1)
join_low (gap ps) qs high h = join_low ps qs high h

joined_thrice : (ps qs rs : Parts) → join ps (join qs rs) ≡ join (join ps qs) rs
joined_thrice none qs rs = refl
joined_thrice (part n ps) qs rs = ap (part n) (joined_thrice ps qs rs)
joined_thrice (gap ps) qs rs = ap gap (joined_thrice ps qs rs)

-- what is given behind what was read: the pieces, or those of a `for`
pub data MainGiven (s m : CursorState) (old mid : List Pair) (c : StatementContext) (t : Scanned) (h : StatementKind) (nodes : Parts) (o : ℕ) (n : Tree) (to : Token) (P : List Pair) : Type 0 where
  once : (h ≡ headed.For → ⊥) → (added : Parts) (one more : List Pair) → n ≡ node (statement_node_kind h) (headed_text h t.text.now) plain t.start to.stop (join nodes added) → PiecesFrom s.text c.returns o (statement_parts h c.returns) m.last to Closed added more → P ≡ one ++ more →
      EndsWith s m old mid m.last one → MainGiven s m old mid c t h nodes o n to P
  twice : h ≡ headed.For → (what : StatementKind) (added : Parts) (one more : List Pair) → n ≡ node (statement_node_kind what) (headed_text what t.text.now) plain t.start to.stop (join nodes added) → ForGiven s.text c.returns o what Closed added m.last to more → P ≡ one ++ more →
      EndsWith s m old mid m.last one → MainGiven s m old mid c t h nodes o n to P

abbrev pub MainFor : CursorState → CursorState → List Pair → List Pair → StatementContext → Scanned → StatementKind → Parts → Type 0
MainFor s m old mid c t h nodes = (o : ℕ) (n : Tree) (to : Token) (P : List Pair) → SpellsIn s.text o (context_role c) n s.last to P → FinishedIn s.text n to → OfLanguage s.text n → MainGiven s m old mid c t h nodes o n to P

-- behind a first token that is the statement's own
pub own_main : (s m : CursorState) (old mid : List Pair) (c : StatementContext) (t : Scanned) (h : StatementKind) (nodes : Parts) → IsAhead Goal.RegExp s.text s.last.stop (token_of t) → code.OfKind h ≡ coded_statement_start (statement_start c.is_item c.returns (as_read (token_of t))) → (h ≡ headed.For → Misses s.text Keyword (codes "await") m.last) → m.last ≡ unseen (as_read (token_of t)) → mid ≡ old → nodes ≡ none →
    MainFor s m old mid c t h nodes
own_main s m old mid c t h nodes ahead coded missed last same empty o n to P spelled fine own = elim (for_or_not h) [
  | inl loop ↦ (let v = for_told s.text c t s.last ahead (subst (Misses s.text Keyword (codes "await")) last (missed loop)) (headed_begins (statement_start c.is_item c.returns (as_read (token_of t))) headed.For (ap code.OfKind (sym loop) ∙ coded)) spelled fine in
      twice loop v.what v.parts [] P (v.tree ∙ ap (λ k. node (statement_node_kind v.what) (headed_text v.what t.text.now) plain t.start to.stop (join k v.parts)) (sym empty)) (subst (λ k. ForGiven s.text c.returns o v.what Closed v.parts k to P) (sym last) v.pieces) refl (ends_none refl same))
  | inr other ↦ (let v = own_told s.text c t s.last ahead h coded other spelled fine in
      once other v.parts [] P (v.tree ∙ ap (λ k. node (statement_node_kind h) (headed_text h t.text.now) plain t.start to.stop (join k v.parts)) (sym empty)) (subst (λ k. PiecesFrom s.text c.returns o (statement_parts h c.returns) k to Closed v.parts P) (sym last) v.pieces) refl (ends_none refl same))
]

-- the pieces that are read at a point
pub pieces_there : {text : SourceText} {pieces : List Piece} {r : Bool} {o : ℕ} (h : StatementKind) {e : Token} {x : Edge} {ps : Parts} {P : List Pair} (m : CursorState) (b : PartialStatement) → m.text ≡ text → pieces ≡ statement_parts h r → b.edge ≡ x → (u : PiecesFrom text r o (statement_parts h r) m.last e x ps P) → PiecesGiven m.text r o pieces m.last e b.edge u.right ps P
pieces_there {text} {pieces} {r} {o} h {e} {x} {ps} {P} m b same its edge u =
    subst (λ k. PiecesGiven k r o pieces m.last e b.edge u.right ps P) (sym same) (subst (λ qs. PiecesGiven text r o qs m.last e b.edge u.right ps P) (sym its) (subst (λ y. PiecesGiven text r o (statement_parts h r) m.last e y u.right ps P) (sym edge) u.given))

-- what is known behind what was read of a statement before its pieces
pub record MainThere (s m : CursorState) (old mid : List Pair) (c : StatementContext) (t : Scanned) (h : StatementKind) (b : PartialStatement) : Type 0 where
  pub main : MainFor s m old mid c t h b.nodes
  pub same : m.text ≡ s.text
  pub same_open : m.opened ≡ s.opened
  pub edge : b.edge ≡ Closed

-- of a `for`: what stands first in its head; what follows, and the pieces behind it
pub record ForOn (s e : CursorState) (old new : List Pair) (c : StatementContext) (t : Scanned) (d : PartialStatement) (o : ℕ) (n : Tree) (to : Token) (P : List Pair) : Type 0 where
  pub what : StatementKind
  pub added : Parts
  pub one : List Pair
  pub more : List Pair
  pub tree : n ≡ node (statement_node_kind what) (headed_text what t.text.now) plain t.start to.stop (join d.nodes added)
  pub followed : KindFollowed s.text e.last what
  pub behind : (y : Edge) → PiecesFrom s.text c.returns o (statement_parts what c.returns) e.last to y added more
  pub pairs : P ≡ one ++ more
  pub ends : EndsWith s e old new e.last one

module _ (s m : CursorState) (old mid : List Pair) (c : StatementContext) (t : Scanned) (h : StatementKind) (b : PartialStatement) (there : MainThere s m old mid c t h b) (high inner : ℕ) (pieces : List Piece) (less : inner ≡ high - 1) (its : pieces ≡ statement_parts h c.returns) where
  known : has_edges pieces ≡ true
  known = ap has_edges its ∙ edges_known h c.returns

  room_of : (o : ℕ) (n : Tree) (less_high : ℕ) → (parts_height none ≤ less_high) → Room s o (height n) high → (suc less_high ≤ height n) → Room m o less_high inner
  room_of o n low any room tall =
      let most = room.1 in
      (subst (λ k. o ≤ max_open - k) (sym there.same_open) room.0, subst (λ k. low ≤ k) (sym less) (omega arith))

  tall_once : (n : Tree) (k : Rattle.tree.specs.declared.kind.Kind.Kind) (w : List ℕ) (st en : ℕ) (added : Parts) → n ≡ node k w plain st en (join b.nodes added) → suc (parts_height added) ≤ height n
  tall_once n k w st en added tree =
      let tall : height n ≡ suc (parts_height (join b.nodes added)) = ap height tree in
      let u = (join_low b.nodes added (parts_height (join b.nodes added)) (omega arith)).1 in
      omega arith

  own_added : (n : Tree) {k : Rattle.tree.specs.declared.kind.Kind.Kind} {w : List ℕ} {st en : ℕ} (added : Parts) → n ≡ node k w plain st en (join b.nodes added) → OfLanguage s.text n → AllOfLanguage m.text added
  own_added n added tree own = subst (λ z. AllOfLanguage z added) (sym there.same) (join_of_language b.nodes added (parts_of_language (subst (OfLanguage s.text) tree own))).1

  own_lead : (lead others : Parts) {added : Parts} → added ≡ join lead others → AllOfLanguage m.text added → AllOfLanguage m.text lead
  own_lead lead others is own = (join_of_language lead others (subst (AllOfLanguage m.text) is own)).0

  -- the pieces are refused
  pub main_refused : (e z : CursorState) (new last : List Pair) (d : PartialStatement) (result : Result Tree Fault) (fault : Fault) → IsErrAnd result (λ x. x ≡ fault) → SymbolsComplete m e mid new inner pieces c.returns b d (Err fault) → StatementComplete s z old last high c result
  main_refused e z new last d result fault is complete o n to P spelled fine own = of (there.main o n to P spelled fine own)
    where
      of : MainGiven s m old mid c t h b.nodes o n to P → Agrees (Room s o (height n) high) (λ k. (k ≡ n) × EndsWith s z old last to P) result
      of (once other added one more tree u pairs ends) =
          agrees_on (Room m o (parts_height added) inner) (Room s o (height n) high) (λ k. (k ≡ n) × EndsWith s z old last to P) result fault is (complete o u.right added to more known (pieces_there h m b there.same its there.edge u) (own_added n added tree own))
          (λ room. room_of o n (parts_height added) (omega arith) room (tall_once n _ _ _ _ added tree))
      of (twice loop what added one more tree u pairs ends) =
          let head : PiecesFrom s.text c.returns o (statement_parts h c.returns) m.last u.mid Closed u.lead u.one = subst (λ k. PiecesFrom s.text c.returns o (statement_parts k c.returns) m.last u.mid Closed u.lead u.one) (sym loop) u.head in
          let low = (join_low u.lead u.others (parts_height added) (subst (λ k. parts_height k ≤ parts_height added) u.parts (omega arith))).0 in
          let tall = tall_once n _ _ _ _ added tree in
          agrees_on (Room m o (parts_height u.lead) inner) (Room s o (height n) high) (λ k. (k ≡ n) × EndsWith s z old last to P) result fault is (complete o head.right u.lead u.mid u.one known (pieces_there h m b there.same its there.edge head) (own_lead u.lead u.others u.parts (own_added n added tree own)))
          (λ room. room_of o n (parts_height u.lead) (omega arith) room (omega arith))

  -- they were read, of another statement than a `for`
  pub main_read : (e : CursorState) (new : List Pair) (d : PartialStatement) → (h ≡ headed.For → ⊥) → SymbolsComplete m e mid new inner pieces c.returns b d (Ok tt) →
      (o : ℕ) (n : Tree) (to : Token) (P : List Pair) → SpellsIn s.text o (context_role c) n s.last to P → FinishedIn s.text n to → OfLanguage s.text n → (n ≡ node (statement_node_kind h) (headed_text h t.text.now) plain t.start to.stop d.nodes) × EndsWith s e old new to P
  main_read e new d other complete o n to P spelled fine own = of (there.main o n to P spelled fine own)
    where
      of : MainGiven s m old mid c t h b.nodes o n to P → (n ≡ node (statement_node_kind h) (headed_text h t.text.now) plain t.start to.stop d.nodes) × EndsWith s e old new to P
      of (once not_loop added one more tree u pairs ends) =
          let agrees = complete o u.right added to more known (pieces_there h m b there.same its there.edge u) (own_added n added tree own) in
          (tree ∙ ap (λ k. node (statement_node_kind h) (headed_text h t.text.now) plain t.start to.stop k) (sym agrees.0), ends_same (sym pairs) (ends_both ends agrees.1))
      of (twice loop what added one more tree u pairs ends) = absurd (other loop)

  -- of a `for`, what stands first in its head
  pub for_on : (e : CursorState) (new : List Pair) (d : PartialStatement) → h ≡ headed.For → SymbolsComplete m e mid new inner pieces c.returns b d (Ok tt) →
      (o : ℕ) (n : Tree) (to : Token) (P : List Pair) → SpellsIn s.text o (context_role c) n s.last to P → FinishedIn s.text n to → OfLanguage s.text n → ForOn s e old new c t d o n to P
  for_on e new d is_loop complete o n to P spelled fine own = of (there.main o n to P spelled fine own)
    where
      of : MainGiven s m old mid c t h b.nodes o n to P → ForOn s e old new c t d o n to P
      of (once other added one more tree u pairs ends) = absurd (other is_loop)
      of (twice loop what added one more tree u pairs ends) =
          let head : PiecesFrom s.text c.returns o (statement_parts h c.returns) m.last u.mid Closed u.lead u.one = subst (λ k. PiecesFrom s.text c.returns o (statement_parts k c.returns) m.last u.mid Closed u.lead u.one) (sym loop) u.head in
          let agrees = complete o head.right u.lead u.mid u.one known (pieces_there h m b there.same its there.edge head) (own_lead u.lead u.others u.parts (own_added n added tree own)) in
          record {
            what = what;
            added = u.others;
            one = one ++ u.one;
            more = u.more;
            tree = tree ∙ ap (λ k. node (statement_node_kind what) (headed_text what t.text.now) plain t.start to.stop k) (ap (join b.nodes) u.parts ∙ joined_thrice b.nodes u.lead u.others ∙ ap (λ k. join k u.others) (sym agrees.0));
            followed = subst (λ k. KindFollowed s.text k what) (sym agrees.1.place) u.followed;
            behind = λ y. subst (λ k. PiecesFrom s.text c.returns o (statement_parts what c.returns) k to y u.others u.more) (sym agrees.1.place) (u.behind y);
            pairs = pairs ∙ ap (λ k. one ++ k) u.pairs ∙ sym (append_assoc one u.one u.more);
            ends = subst (λ k. EndsWith s e old new k (one ++ u.one)) (sym agrees.1.place) (ends_both ends agrees.1);
          }

-- the node, from what was read of it
pub statement_whole : (s e : CursorState) (old new : List Pair) (high : ℕ) (c : StatementContext) (k : Rattle.tree.specs.declared.kind.Kind.Kind) (w : List ℕ) (start : ℕ) (nodes : Parts) (result : Result Tree Fault) → Makes (node k w plain start e.last.stop nodes) high result →
    ((o : ℕ) (n : Tree) (to : Token) (P : List Pair) → SpellsIn s.text o (context_role c) n s.last to P → FinishedIn s.text n to → OfLanguage s.text n → (n ≡ node k w plain start to.stop nodes) × EndsWith s e old new to P) → StatementComplete s e old new high c result
statement_whole s e old new high c k w start nodes (Ok made) makes told o n to P spelled fine own =
    let v = told o n to P spelled fine own in
    (makes.0 ∙ ap (λ (x : Token). node k w plain start x.stop nodes) v.1.place ∙ sym v.0, v.1)
statement_whole s e old new high c k w start nodes (Err fault) makes told o n to P spelled fine own =
    let v = told o n to P spelled fine own in
    let tree : n ≡ node k w plain start e.last.stop nodes = v.0 ∙ ap (λ (x : Token). node k w plain start x.stop nodes) (sym v.1.place) in
    refuses_made (Room s o (height n) high) (node k w plain start e.last.stop nodes) high fault makes (λ room. subst (λ x. height x ≤ high) tree room.1)
