-- A given export of names as it is read behind its word (ExportDeclaration; ECMA-262, 13th edition, 16.2.3).
use Rattle.std.proofs.Common.{◌≡◌, ℕ, suc, max, ◌-◌, ◌≤◌, arith, Bool, true, false, List, [], ◌∷◌, Result, Ok, Err, refl, sym, ap, ◌∙◌, subst}
use Rattle.std.specs.Prelude.{codes}
use Rattle.std.specs.Result.{IsErrAnd}
use Rattle.std.proofs.lemmas.Bool.{false≢true}
use Rattle.source_text.specs.declared.fault.Fault.{Fault}
use Rattle.tokens.specs.declared.token.TokenClass.TheVariants.{IdentifierName, Punctuator}
use Rattle.token_cursor.specs.CursorState.{CursorState}
use Rattle.token_cursor.specs.StatementEnds.{EndsAt, IsEnd}
use Rattle.token_cursor.specs.declared.semicolon.StatementEnd.{StatementEnd}
use Rattle.token_cursor.specs.declared.semicolon.StatementEnd.TheVariants.{AfterExpression, AfterExport}
use Rattle.tree.specs.declared.kind.Kind.{Kind}
use Rattle.tree.specs.declared.kind.Kind.TheVariants.{ExportNamedDeclaration, ExportAllDeclaration, ExportSpecifier}
use Rattle.tree.specs.declared.kind.Pair.{Pair}
use Rattle.tree.specs.Tree.{Tree, node, plain, Parts, none, part, gap, push, push_gap, join, height, parts_height}
use Rattle.tree.proofs.Shapes.{push-join, parts_height-join, parts_height-push}
use Rattle.productions.specs.Made.{Makes}
use Rattle.language.specs.declared.Edge.TheVariants.{Closed}
use Rattle.language.specs.Edges.{may_omit_semicolon}
use Rattle.language.specs.Pieces.{module_item, directive_string, ending, of_export, item}
use Rattle.language.specs.Expressions.{module_name}
use Rattle.language.specs.Vocabulary.{is}
use Rattle.language.specs.Token.{Token}
use Rattle.language.specs.Promises.{is_free}
use Rattle.language.specs.Derivation.{Step, explicit, implicit}
use Rattle.language.proofs.table.ItemTokens.{item_starts}
use Rattle.language.proofs.table.StatementWays.{as_item}
use Rattle.language.proofs.list_loops.StatementLists.{no_start}
use Rattle.language.proofs.covers.CoverReadings.{name_or_sign}
use Rattle.token_cursor.specs.SourceText.{SourceText, SeenNext, behind_in}
use Rattle.token_cursor.specs.Seen.{ReadsHere, Sees, Misses}
use Rattle.token_cursor.proofs.SeenTokens.{seen_determined}
use Rattle.unambiguity_laws.proofs.statements.StatementEnds.{some_goal}
use Rattle.recursive_descent.specs.Soundness.{RunsIn, anywhere}
use Rattle.recursive_descent.specs.Spelled.{SpellsIn}
use Rattle.recursive_descent.specs.Completeness.{Agrees, Room, EndsWith}
use Rattle.recursive_descent.specs.ModuleItems.{NamesGiven, SourceComplete, SpecifiersComplete, ModuleNameComplete, ItemComplete, BehindComplete}
use Rattle.recursive_descent.proofs.complete_expressions.Agreement.{agrees_on, ends_none, ends_same, marks_same, not_missed, words_same}
use Rattle.recursive_descent.proofs.complete_modules.ImportsGiven.{FromGiven}
use Rattle.recursive_descent.proofs.complete_modules.ImportNodes.{node_agrees}
use Rattle.recursive_descent.proofs.complete_modules.ExportsGiven.{TailGiven, a_source, no_source, AllGiven, unnamed, named, ExportForm, of_names, of_all, of_declared, of_default, export_node, no_brace_declared}

pub gap_pushed : (ps : Parts) → push_gap ps ≡ join ps (gap none)
gap_pushed none = refl
gap_pushed (part n ps) = ap (part n) (gap_pushed ps)
gap_pushed (gap ps) = ap gap (gap_pushed ps)

-- before `from` no `;` may be missing
cut : (l : Token) (st en : ℕ) (b : Bool) → may_omit_semicolon of_export l (record { class = IdentifierName; text = codes "from"; start = st; stop = en; after_break = b }) ≡ true → ⊥
cut l st en true h = false≢true h
cut l st en false h = false≢true h

module _ (text : SourceText) where
  no_from : {A : Type 0} {s k e : Token} → ReadsHere text IdentifierName (codes "from") s k → Step Token (SeenNext text) (behind_in text) (ending of_export) s e → A
  no_from r (explicit z) = absurd (name_or_sign Token (SeenNext text) (behind_in text) (seen_determined text) refl r z)
  no_from {s = s} {k} r (implicit {t = u} {e = m} nx may_end) =
      let det = seen_determined text in
      let t = behind_in text k in
      let g = some_goal u.class u.text in
      let same : u ≡ t = (det.same g.0 s u t m k nx r.next g.1 (det.free g.0 s t k r.next (ap is_free r.class))).0 in
      let first = ap (λ c. may_omit_semicolon of_export (behind_in text s) (record { class = c; text = t.text; start = t.start; stop = t.stop; after_break = t.after_break })) r.class in
      let second = ap (λ w. may_omit_semicolon of_export (behind_in text s) (record { class = IdentifierName; text = w; start = t.start; stop = t.stop; after_break = t.after_break })) r.text in
      absurd (cut (behind_in text s) t.start t.stop t.after_break (sym second ∙ sym first ∙ ap (may_omit_semicolon of_export (behind_in text s)) (sym same) ∙ may_end))

  brace_star : {A : Type 0} {s k k' : Token} → ReadsHere text Punctuator (codes "{") s k → ReadsHere text Punctuator (codes "*") s k' → A
  brace_star r r' = absurd (false≢true (sym (ap (λ w. is w "{") (sym r.text ∙ ap (λ (t : Token). t.text) (marks_same text r r').0 ∙ r'.text))))

  pub no_star_declared : {A : Type 0} {o : ℕ} {n : Tree} {s k e : Token} {P : List Pair} → ReadsHere text Punctuator (codes "*") s k → SpellsIn text o (item false) n s e P → A
  no_star_declared r d = absurd (no_start Token (SeenNext text) (behind_in text) (seen_determined text) refl refl r (item_starts Token (SeenNext text) (behind_in text) (seen_determined text) as_item d))

  -- what is left of a given node: a source and the end, or the end
  pub record SourceLeft (K : Kind) (n : Tree) (from : ℕ) (nodes : Parts) (m to : Token) (P : List Pair) : Type 0 where
    pub source : Tree
    pub x : Token
    pub o : ℕ
    pub Q : List Pair
    pub spelled : SpellsIn text o directive_string source m x Q
    pub ends : EndsAt text (AfterExpression Closed) x to
    pub tree : n ≡ node K [] plain from to.stop (push nodes source)
    pub pairs : P ≡ []

  pub record EndLeft (K : Kind) (x : StatementEnd) (n : Tree) (from : ℕ) (nodes : Parts) (m to : Token) (P : List Pair) : Type 0 where
    pub ends : EndsAt text x m to
    pub tree : n ≡ node K [] plain from to.stop nodes
    pub pairs : P ≡ []

module _ (s m e : CursorState) (same : m.text ≡ s.text) {K : Kind} {n : Tree} {from : ℕ} {nodes : Parts} {to : Token} {P : List Pair} (u : SourceLeft s.text K n from nodes m.last to P) where
  here : SpellsIn m.text u.o directive_string u.source m.last u.x u.Q
  here = subst (λ v. SpellsIn v u.o directive_string u.source m.last u.x u.Q) (sym same) u.spelled

  pub source_refused : (o high inner : ℕ) (Same : Tree → Type 0) (result : Result Tree Fault) (fault : Fault) → inner ≡ high - 1 → SourceComplete m e inner (Err fault) → IsErrAnd result (λ x. x ≡ fault) → Agrees (Room s o (height n) high) Same result
  source_refused o high inner Same result fault less complete told =
      let tall : height n ≡ suc (parts_height (push nodes u.source)) = ap height u.tree in
      let both = parts_height-push nodes u.source in
      agrees_on (height u.source ≤ inner) (Room s o (height n) high) Same result fault told (complete u.o u.source u.x u.Q here) (λ room. let low = room.1 in subst (λ k. height u.source ≤ k) (sym less) (omega arith))

  pub source_read : (inner : ℕ) (k : Tree) (after : Parts) → SourceComplete m e inner (Ok k) → after ≡ push nodes k → EndLeft s.text K (AfterExpression Closed) n from after e.last to P
  source_read inner k after complete added =
      let same = complete u.o u.source u.x u.Q here in
      record { ends = subst (λ v. EndsAt s.text (AfterExpression Closed) v to) (sym same.1) u.ends; tree = u.tree ∙ ap (node K [] plain from to.stop) (sym (added ∙ ap (push nodes) same.0)); pairs = u.pairs }

-- the end
pub end_answered : (s e z : CursorState) (old new : List Pair) (o high : ℕ) (K : Kind) (x : StatementEnd) (n : Tree) (from : ℕ) (nodes : Parts) (to : Token) (P : List Pair) (result : Result Tree Fault) → EndLeft s.text K x n from nodes e.last to P → IsEnd s.text x e.last z.last → new ≡ old → Makes (node K [] plain from z.last.stop nodes) high result →
    Agrees (Room s o (height n) high) (λ m. (m ≡ n) × EndsWith s z old new to P) result
end_answered s e z old new o high K x n from nodes to P result u end none_added made =
    let at : z.last ≡ to = sym (end.only to u.ends) in
    node_agrees s z old new o to P (node K [] plain from z.last.stop nodes) n high result (ap (λ (v : Token). node K [] plain from v.stop nodes) at ∙ sym u.tree) (ends_same (sym u.pairs) (ends_none at none_added)) made

-- All names of a module: what is said of each whose `*` was passed

abbrev pub OfAll : CursorState → ℕ → (Tree → Token → List Pair → Type 0) → Type 0
OfAll s from Is = (o : ℕ) (n : Tree) (b k to : Token) (P : List Pair) → ReadsHere s.text IdentifierName (codes "export") b k → k.start ≡ from → ReadsHere s.text Punctuator (codes "*") k s.last → SpellsIn s.text o module_item n b to P → Is n to P

module _ (s : CursorState) (from : ℕ) where
  pub record AllNode (n : Tree) (to : Token) (P : List Pair) : Type 0 where
    pub parts : Parts
    pub given : AllGiven s.text parts s.last to
    pub tree : n ≡ node ExportAllDeclaration [] plain from to.stop parts
    pub pairs : P ≡ []

  pub all_node : OfAll s from AllNode
  all_node o n b k to P word stands star d = of (export_node s.text word d)
    where
      of : ExportForm s.text o n k to P → AllNode n to P
      of (of_names brace l tree p) = brace_star s.text brace star
      of (of_declared e h tree) = no_star_declared s.text star e
      of (of_default w e tree) = absurd (name_or_sign Token (SeenNext s.text) (behind_in s.text) (seen_determined s.text) refl w star)
      of (of_all {ps = ps} sign a tree p) = record { parts = ps; given = subst (λ v. AllGiven s.text ps v to) (marks_same s.text sign star).1 a; tree = tree ∙ ap (λ v. node ExportAllDeclaration [] plain v to.stop ps) stands; pairs = p }

  source_left : {n : Tree} {to : Token} {P : List Pair} {k m : Token} {source : Tree} (nodes : Parts) → FromGiven s.text source k to → ReadsHere s.text IdentifierName (codes "from") k m → n ≡ node ExportAllDeclaration [] plain from to.stop (push nodes source) → P ≡ [] → SourceLeft s.text ExportAllDeclaration n from nodes m to P
  source_left {source = source} nodes f word tree p = record { source = source; x = f.m; o = f.o; Q = f.Q; spelled = subst (λ v. SpellsIn s.text f.o directive_string source v f.m f.Q) (words_same s.text f.word word).1 f.spelled; ends = f.ends; tree = tree; pairs = p }

  as_from : {A : Type 0} {k k' k'' : Token} → ReadsHere s.text IdentifierName (codes "as") k k' → ReadsHere s.text IdentifierName (codes "from") k k'' → A
  as_from r r' = absurd (false≢true (sym (ap (λ w. is w "as") (sym r.text ∙ ap (λ (t : Token). t.text) (words_same s.text r r').0 ∙ r'.text))))

  -- without a name
  module _ (missed : Misses s.text IdentifierName (codes "as") s.last) where
    pub unnamed_left : (nodes : Parts) (m : Token) → nodes ≡ gap none → ReadsHere s.text IdentifierName (codes "from") s.last m → OfAll s from (λ n to P. SourceLeft s.text ExportAllDeclaration n from nodes m to P)
    unnamed_left nodes m is word o n b k to P w stands star d = let u = all_node o n b k to P w stands star d in of u.given u.tree u.pairs
      where
        of : {ps : Parts} → AllGiven s.text ps s.last to → n ≡ node ExportAllDeclaration [] plain from to.stop ps → P ≡ [] → SourceLeft s.text ExportAllDeclaration n from nodes m to P
        of (named r e f p) tree q = absurd (not_missed missed r)
        of (unnamed {source = source} f p) tree q = source_left nodes f word (tree ∙ ap (node ExportAllDeclaration [] plain from to.stop) (p ∙ ap (λ v. push v source) (sym is))) q

    pub unnamed_missed : Misses s.text IdentifierName (codes "from") s.last → OfAll s from (λ n to P. ⊥)
    unnamed_missed none_there o n b k to P w stands star d = let u = all_node o n b k to P w stands star d in of u.given
      where
        of : {ps : Parts} → AllGiven s.text ps s.last to → ⊥
        of (named r e f p) = not_missed missed r
        of (unnamed f p) = not_missed none_there f.word

  -- with a name
  module _ (a e : CursorState) (word : ReadsHere s.text IdentifierName (codes "as") s.last a.last) (same : a.text ≡ s.text) (inner : ℕ) where
    record Named (n : Tree) (to : Token) (P : List Pair) : Type 0 where
      l : Tree
      source : Tree
      k : Token
      o : ℕ
      Q : List Pair
      runs : RunsIn a.text o (anywhere (module_name l ∷ [])) (part l none) a.last k Q
      further : FromGiven s.text source k to
      tree : n ≡ node ExportAllDeclaration [] plain from to.stop (part l (part source none))
      pairs : P ≡ []

    with_its_name : OfAll s from Named
    with_its_name o n b k to P w stands star d = let u = all_node o n b k to P w stands star d in of u.given u.tree u.pairs
      where
        of : {ps : Parts} → AllGiven s.text ps s.last to → n ≡ node ExportAllDeclaration [] plain from to.stop ps → P ≡ [] → Named n to P
        of (unnamed f p) tree q = as_from word f.word
        of (named {o = o} {n = l} {source = source} {y = y} {k = k} {Q = Q} r e f p) tree q = record {
          l = l;
          source = source;
          k = k;
          o = o;
          Q = Q;
          runs = subst (λ v. RunsIn v o (anywhere (module_name l ∷ [])) (part l none) a.last k Q) (sym same) (subst (λ v. RunsIn s.text o (anywhere (module_name l ∷ [])) (part l none) v k Q) (words_same s.text r word).1 e);
          further = f;
          tree = tree ∙ ap (node ExportAllDeclaration [] plain from to.stop) p;
          pairs = q;
        }

    pub name_refused : (z : CursorState) (old new : List Pair) (high : ℕ) (result : Result Tree Fault) (fault : Fault) → inner ≡ high - 1 → ModuleNameComplete a e inner (Err fault) → IsErrAnd result (λ x. x ≡ fault) → BehindComplete s z old new high Punctuator (codes "*") from result
    name_refused z old new high result fault less complete told o n b k to P w stands star d own =
        let u = with_its_name o n b k to P w stands star d in
        let tall : height n ≡ suc (max (height u.l) (max (height u.source) 0)) = ap height u.tree in
        agrees_on (height u.l ≤ inner) (Room s o (height n) high) _ result fault told (complete u.o u.l u.k u.Q u.runs) (λ room. let low = room.1 in subst (λ k. height u.l ≤ k) (sym less) (omega arith))

    module _ (l : Tree) (complete : ModuleNameComplete a e inner (Ok l)) where
      pub named_left : (nodes : Parts) (m : Token) → nodes ≡ part l none → ReadsHere s.text IdentifierName (codes "from") e.last m → OfAll s from (λ n to P. SourceLeft s.text ExportAllDeclaration n from nodes m to P)
      named_left nodes m is there o n b k to P w stands star d =
          let u = with_its_name o n b k to P w stands star d in
          let same = complete u.o u.l u.k u.Q u.runs in
          source_left nodes u.further (subst (λ v. ReadsHere s.text IdentifierName (codes "from") v m) same.1 there) (u.tree ∙ ap (node ExportAllDeclaration [] plain from to.stop) (ap (λ v. part v (part u.source none)) (sym same.0) ∙ ap (λ v. push v u.source) (sym is))) u.pairs

      pub named_missed : Misses s.text IdentifierName (codes "from") e.last → OfAll s from (λ n to P. ⊥)
      named_missed none_there o n b k to P w stands star d =
          let u = with_its_name o n b k to P w stands star d in
          let same = complete u.o u.l u.k u.Q u.runs in
          not_missed none_there (subst (λ v. ReadsHere s.text IdentifierName (codes "from") v u.further.x) (sym same.1) u.further.word)

-- Names in braces: what is said of each export whose word was passed, where a brace stands behind it

abbrev pub OfLists : CursorState → ℕ → (Tree → Token → List Pair → Type 0) → Type 0
OfLists s from Is = (o : ℕ) (n : Tree) (b to : Token) (P : List Pair) → ReadsHere s.text IdentifierName (codes "export") b s.last → s.last.start ≡ from → SpellsIn s.text o module_item n b to P → Is n to P

module _ (s : CursorState) (from : ℕ) (sees : Sees s.text Punctuator (codes "{") s.last) where
  record Listed (n : Tree) (to : Token) (P : List Pair) : Type 0 where
    x : Token
    names : Parts
    tail : Parts
    k : Token
    brace : ReadsHere s.text Punctuator (codes "{") s.last x
    given : NamesGiven s.text ExportSpecifier names x k
    behind : TailGiven s.text tail k to
    tree : n ≡ node ExportNamedDeclaration [] plain from to.stop (gap (join names tail))
    pairs : P ≡ []

  listed_node : OfLists s from Listed
  listed_node o n b to P word stands d = of (export_node s.text word d)
    where
      of : ExportForm s.text o n s.last to P → Listed n to P
      of (of_declared e h tree) = no_brace_declared s.text sees.1 e h
      of (of_default w e tree) = absurd (name_or_sign Token (SeenNext s.text) (behind_in s.text) (seen_determined s.text) refl w sees.1)
      of (of_all star a tree p) = brace_star s.text sees.1 star
      of (of_names {qs = qs} {x = x} brace l tree p) = record { x = x; names = l.names; tail = l.tail; k = l.k; brace = brace; given = l.given; behind = l.behind; tree = tree ∙ (λ i. node ExportNamedDeclaration [] plain (stands i) to.stop (gap (l.parts i))); pairs = p }

  module _ (e : CursorState) (inner : ℕ) (nodes : Parts) where
    pub names_refused : (z : CursorState) (old new : List Pair) (high : ℕ) (result : Result Tree Fault) (fault : Fault) → inner ≡ high - 1 → SpecifiersComplete s e inner ExportSpecifier (gap none) nodes (Err fault) → IsErrAnd result (λ x. x ≡ fault) → ItemComplete s z old new high (codes "export") from result
    names_refused z old new high result fault less complete told o n b to P word stands d own =
        let u = listed_node o n b to P word stands d in
        let tall : height n ≡ suc (parts_height (join u.names u.tail)) = ap height u.tree in
        let both = parts_height-join u.names u.tail in
        agrees_on (parts_height u.names ≤ inner) (Room s o (height n) high) _ result fault told (complete u.names u.x u.k refl u.brace u.given) (λ room. let low = room.1 in subst (λ k. parts_height u.names ≤ k) (sym less) (omega arith))

    module _ (complete : SpecifiersComplete s e inner ExportSpecifier (gap none) nodes (Ok tt)) where
      -- before a source
      pub list_left : (m : Token) → ReadsHere s.text IdentifierName (codes "from") e.last m → OfLists s from (λ n to P. SourceLeft s.text ExportNamedDeclaration n from nodes m to P)
      list_left m there o n b to P word stands d =
          let u = listed_node o n b to P word stands d in
          let same = complete u.names u.x u.k refl u.brace u.given in
          of u.names u.behind u.tree u.pairs same.0 (subst (λ v. ReadsHere s.text IdentifierName (codes "from") v m) same.1 there)
        where
          of : {k : Token} {tail : Parts} (names : Parts) → TailGiven s.text tail k to → n ≡ node ExportNamedDeclaration [] plain from to.stop (gap (join names tail)) → P ≡ [] → nodes ≡ gap names → ReadsHere s.text IdentifierName (codes "from") k m → SourceLeft s.text ExportNamedDeclaration n from nodes m to P
          of names (no_source z p) tree q is here = no_from s.text here z
          of names (a_source {source = source} f p) tree q is here = record {
            source = source;
            x = f.m;
            o = f.o;
            Q = f.Q;
            spelled = subst (λ v. SpellsIn s.text f.o directive_string source v f.m f.Q) (words_same s.text f.word here).1 f.spelled;
            ends = f.ends;
            tree = tree ∙ ap (node ExportNamedDeclaration [] plain from to.stop) (ap gap (ap (join names) p ∙ sym (push-join names source)) ∙ ap (λ v. push v source) (sym is));
            pairs = q;
          }

      -- without one
      pub list_ends : (after : Parts) → after ≡ push_gap nodes → Misses s.text IdentifierName (codes "from") e.last → OfLists s from (λ n to P. EndLeft s.text ExportNamedDeclaration AfterExport n from after e.last to P)
      list_ends after added missed o n b to P word stands d =
          let u = listed_node o n b to P word stands d in
          let same = complete u.names u.x u.k refl u.brace u.given in
          of u.names u.behind u.tree u.pairs same.0 same.1
        where
          of : {k : Token} {tail : Parts} (names : Parts) → TailGiven s.text tail k to → n ≡ node ExportNamedDeclaration [] plain from to.stop (gap (join names tail)) → P ≡ [] → nodes ≡ gap names → e.last ≡ k → EndLeft s.text ExportNamedDeclaration AfterExport n from after e.last to P
          of names (a_source f p) tree q is place = absurd (not_missed missed (subst (λ v. ReadsHere s.text IdentifierName (codes "from") v f.x) (sym place) f.word))
          of names (no_source z p) tree q is place = record {
            ends = subst (λ v. EndsAt s.text AfterExport v to) (sym place) z;
            tree = tree ∙ ap (node ExportNamedDeclaration [] plain from to.stop) (ap gap (ap (join names) p ∙ sym (gap_pushed names)) ∙ ap push_gap (sym is) ∙ sym added);
            pairs = q;
          }
