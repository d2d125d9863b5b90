-- A given import as it is read behind its word (ImportDeclaration; ECMA-262, 13th edition, 16.2.2).
use Rattle.std.proofs.Common.{◌≡◌, ℕ, suc, ◌-◌, ◌≤◌, arith, true, List, [], Result, Ok, Err, refl, sym, ap, ◌∙◌, subst}
use Rattle.std.specs.Prelude.{codes}
use Rattle.std.specs.Result.{IsErrAnd}
use Rattle.std.proofs.lemmas.Bool.{false≢true, and_parts}
use Rattle.source_text.specs.declared.fault.Fault.{Fault}
use Rattle.tokens.specs.declared.token.TokenClass.{TokenClass}
use Rattle.tokens.specs.declared.token.TokenClass.TheVariants.{IdentifierName, Punctuator, StringLiteral}
use Rattle.tokens.specs.declared.token.Goal.TheVariants.{Div}
use Rattle.token_cursor.specs.CursorState.{CursorState}
use Rattle.token_cursor.specs.StatementEnds.{EndsAt, IsEnd}
use Rattle.token_cursor.specs.declared.semicolon.StatementEnd.TheVariants.{AfterExpression}
use Rattle.tree.specs.declared.kind.Kind.{Kind}
use Rattle.tree.specs.declared.kind.Kind.TheVariants.{ImportDeclaration}
use Rattle.tree.specs.declared.kind.Pair.{Pair}
use Rattle.tree.specs.Tree.{Tree, node, plain, Parts, none, push, height, parts_height}
use Rattle.tree.proofs.Shapes.{parts_height-push}
use Rattle.productions.specs.Made.{Makes}
use Rattle.language.specs.declared.Edge.TheVariants.{Closed}
use Rattle.language.specs.Pieces.{name, module_item, directive_string, ending, behind}
use Rattle.language.specs.Vocabulary.{is}
use Rattle.language.specs.Token.{Token, same_class}
use Rattle.language.specs.Grammar.{spellings}
use Rattle.language.specs.Derivation.{Placed, placed, direct, Step}
use Rattle.language.proofs.table.Begins.{retell}
use Rattle.language.proofs.table.ViewIsComplete.{way_of}
use Rattle.language.proofs.climbing.BinaryTurns.{same_node}
use Rattle.token_cursor.specs.SourceText.{SourceText, SeenNext, behind_in}
use Rattle.token_cursor.specs.Seen.{ReadsHere, SeesBy, MissesBy, Misses}
use Rattle.token_cursor.proofs.SeenTokens.{seen_determined}
use Rattle.token_cursor.proofs.TokensAhead.{mark_by}
use Rattle.unambiguity_laws.proofs.modules.ModuleWords.{From}
use Rattle.unambiguity_laws.proofs.modules.SpecifierLists.{Listed, close, item_more, item_last}
use Rattle.unambiguity_laws.proofs.modules.Imports as laws
use Rattle.unambiguity_laws.proofs.modules.Imports.{Clause, between_braces, BehindName, nothing_else, and_clause, Import, source_alone, with_default_name}
use Rattle.unambiguity_laws.proofs.modules.ModuleItems.{ModuleItem, an_import, an_export, module_item_form}
use Rattle.recursive_descent.specs.Spelled.{SpellsIn}
use Rattle.recursive_descent.specs.Completeness.{Agrees, Room, EndsWith}
use Rattle.recursive_descent.specs.ModuleItems.{names_module, is_quoted, ClauseComplete, SourceComplete, ItemComplete, FurtherGiven, in_braces, ClauseGiven, default_name, default_and}
use Rattle.recursive_descent.specs.ModuleItems as given
use Rattle.recursive_descent.proofs.complete_expressions.Agreement.{agrees_on, ends_none, ends_same, not_missed, refuses_made, words_same}
use Rattle.recursive_descent.proofs.complete_modules.NamesGiven.{string_given, binding_free, token_missed, named_free}
use Rattle.recursive_descent.proofs.complete_modules.ClausesGiven.{default_form, namespace_form}
use Rattle.recursive_descent.proofs.complete_modules.ImportsGiven.{FromGiven, ImportGiven, sourced, claused, ImportAt, import_parts}

not_both : (c : TokenClass) → same_class StringLiteral c ≡ true → same_class IdentifierName c ≡ true → ⊥
not_both IdentifierName h k = false≢true h
not_both StringLiteral h k = false≢true k
not_both _ h k = false≢true k

module _ (S : Type 0) (Next : S → Token → S → Type 0) (behind : S → Token) (det : Rattle.language.specs.Promises.IsDetermined S Next behind) where
  -- no parentheses group in an import
  pub listed_pairs : {K : Kind} {End : S → S → Parts → List Pair → Type 0} {s e : S} {ps : Parts} {P : List Pair} → ((x e : S) (ps : Parts) (P : List Pair) → End x e ps P → P ≡ []) → Listed S Next behind det K End s e ps P → P ≡ []
  listed_pairs {e = e} f (close {x = x} {ps = ps} {P = P} r z) = f x e ps P z
  listed_pairs f (item_more i r l) = listed_pairs f l
  listed_pairs {e = e} f (item_last {x = x} {ps = ps} {P = P} i r z) = f x e ps P z

  clause_pairs : {s e : S} {ps : Parts} {P : List Pair} → Clause S Next behind det s e ps P → P ≡ []
  clause_pairs (laws.namespace u f p) = f.pairs
  clause_pairs (between_braces r l) = listed_pairs (λ x e ps P (f : From S Next behind det x e ps P). f.pairs) l

  import_pairs : {s e : S} {ps : Parts} {P : List Pair} → Import S Next behind det s e ps P → P ≡ []
  import_pairs (source_alone l h z p q) = q
  import_pairs (laws.no_default c) = clause_pairs c
  import_pairs (with_default_name u (nothing_else f) p) = f.pairs
  import_pairs (with_default_name u (and_clause r c) p) = clause_pairs c

module _ (text : SourceText) where
  -- an import by its parts
  pub record ImportNode (n : Tree) (m to : Token) (P : List Pair) : Type 0 where
    pub parts : Parts
    pub tree : n ≡ node ImportDeclaration [] plain m.start to.stop parts
    pub given : ImportGiven text parts m to
    pub pairs : P ≡ []

  item_parts : {o : ℕ} {st en : ℕ} {ps : Parts} {s e : Token} {P : List Pair} → SpellsIn text o module_item (node ImportDeclaration [] plain st en ps) s e P → ImportAt text ps s e × Placed Token (SeenNext text) (behind_in text) module_item (node ImportDeclaration [] plain st en ps) s e
  unfolding spellings
  item_parts {ps = ps} (direct qs h pl d) = let v = way_of h in (import_parts text ps v.listed (retell Token (SeenNext text) (behind_in text) v.is d), pl)

  import_or_export : {A : Type 0} {s k k' : Token} {t : Token} → ReadsHere text IdentifierName (codes "import") s k → Rattle.language.specs.Derivation.Reads Token (SeenNext text) (behind_in text) IdentifierName (codes "export") s t k' → A
  import_or_export r r' = absurd (false≢true (ap (λ w. is w "import") (sym r'.text ∙ ap (λ (x : Token). x.text) (words_same text r' r).0 ∙ r.text)))

  pub import_node : {o : ℕ} {n : Tree} {b m to : Token} {P : List Pair} → ReadsHere text IdentifierName (codes "import") b m → SpellsIn text o module_item n b to P → ImportNode n m to P
  import_node {o} {n} {b} {m} {to} {P} word d = of (module_item_form Token (SeenNext text) (behind_in text) (seen_determined text) d)
    where
      of : ModuleItem Token (SeenNext text) (behind_in text) (seen_determined text) o n b to P → ImportNode n m to P
      of (an_export tree pl r i) = import_or_export word r
      of (an_import {st = st} {en = en} {ps = ps} tree pl r i) =
          let u = item_parts (subst (λ v. SpellsIn text o module_item v b to P) tree d) in
          let span = spans u.1 in
          let there : u.0.x ≡ m = (words_same text u.0.word word).1 in
          record { parts = ps; tree = tree ∙ same_node refl refl refl span.0 span.1 refl; given = subst (λ x. ImportGiven text ps x to) there u.0.given; pairs = import_pairs Token (SeenNext text) (behind_in text) (seen_determined text) i }
        where
          spans : Placed Token (SeenNext text) (behind_in text) module_item (node ImportDeclaration [] plain st en ps) b to → (st ≡ m.start) × (en ≡ to.stop)
          spans (placed {t = u} {m = k} nx p) = (sym (ap (λ (x : ℕ × ℕ). x.0) p) ∙ (seen_determined text).start b u (behind_in text m) k m nx word.next, sym (ap (λ (x : ℕ × ℕ). x.1) p))

  -- no sign is a string
  sign_string : {A : Type 0} {w : List ℕ} {s k : Token} → SeesBy text Div is_quoted s → ReadsHere text Punctuator w s k → A
  sign_string {s = s} {k} (e, here) r =
      let same = ((seen_determined text).same Div s (behind_in text e) (behind_in text k) e k here.0.next r.next here.0.allowed (mark_by text r).allowed).0 in
      absurd (false≢true (sym (ap (same_class StringLiteral) (ap (λ (t : Token). t.class) same ∙ r.class)) ∙ here.1))

  name_string : {A : Type 0} {o : ℕ} {n : Tree} {s k : Token} {P : List Pair} → SeesBy text Div is_quoted s → SpellsIn text o name n s k P → A
  name_string {s = s} {k} (e, here) d =
      let f = binding_free text d in
      let det = seen_determined text in
      let same = (det.same Div s (behind_in text e) f.0.token e k here.0.next f.0.next here.0.allowed (det.free Div s f.0.token k f.0.next (named_free f.0.token.class f.0.names))).0 in
      absurd (not_both f.0.token.class (ap (λ (t : Token). same_class StringLiteral t.class) (sym same) ∙ here.1) (and_parts (same_class IdentifierName f.0.token.class) _ f.1).0)

  further_string : {A : Type 0} {ps : Parts} {s e : Token} → SeesBy text Div is_quoted s → FurtherGiven text ps s e → A
  further_string sees (given.namespace {n = n} its d) = sign_string sees (namespace_form text n its d).star
  further_string sees (in_braces r names) = sign_string sees r

  -- no clause begins with a string
  no_clause : {A : Type 0} {ps : Parts} {s e : Token} → SeesBy text Div is_quoted s → ClauseGiven text ps s e → A
  no_clause sees (default_name {n = n} its d alone) = name_string sees (default_form text n its d).spelled
  no_clause sees (default_and {n = n} its d r g) = name_string sees (default_form text n its d).spelled
  no_clause sees (given.no_default g) = further_string sees g

  -- a source that is left behind a clause, or first; the end that is left
  pub record SourceLeft (n : Tree) (from : ℕ) (nodes : Parts) (m to : Token) (P : List Pair) : Type 0 where
    pub source : Tree
    pub x : Token
    pub o : ℕ
    pub Q : List Pair
    pub spelled : SpellsIn text o directive_string source m x Q
    pub ends : Step Token (SeenNext text) (behind_in text) (ending (behind Closed)) x to
    pub tree : n ≡ node ImportDeclaration [] plain from to.stop (push nodes source)
    pub pairs : P ≡ []

  pub record EndLeft (n : Tree) (from : ℕ) (nodes : Parts) (m to : Token) (P : List Pair) : Type 0 where
    pub ends : Step Token (SeenNext text) (behind_in text) (ending (behind Closed)) m to
    pub tree : n ≡ node ImportDeclaration [] plain from to.stop nodes
    pub pairs : P ≡ []

-- a node that is made is what is given
pub node_agrees : (s z : CursorState) (old new : List Pair) (o : ℕ) (to : Token) (P : List Pair) (t n : Tree) (high : ℕ) (result : Result Tree Fault) → t ≡ n → EndsWith s z old new to P → Makes t high result → Agrees (Room s o (height n) high) (λ m. (m ≡ n) × EndsWith s z old new to P) result
node_agrees s z old new o to P t n high (Ok m) same ends made = (made.0 ∙ same, ends)
node_agrees s z old new o to P t n high (Err fault) same ends made = refuses_made (Room s o (height n) high) t high fault made (λ w. subst (λ k. height k ≤ high) (sym same) w.1)

-- what is said of each import whose word was passed
abbrev pub OfImports : CursorState → ℕ → (Tree → Token → List Pair → Type 0) → Type 0
OfImports s from Is = (o : ℕ) (n : Tree) (b to : Token) (P : List Pair) → ReadsHere s.text IdentifierName (codes "import") b s.last → s.last.start ≡ from → SpellsIn s.text o module_item n b to P → Is n to P

module _ (s : CursorState) (from : ℕ) where
  begun : {n : Tree} {to : Token} {P : List Pair} → s.last.start ≡ from → (u : ImportNode s.text n s.last to P) → n ≡ node ImportDeclaration [] plain from to.stop u.parts
  begun {to = to} stands u = u.tree ∙ ap (λ b. node ImportDeclaration [] plain b to.stop u.parts) stands

  -- a string stands there
  pub string_first : SeesBy s.text Div is_quoted s.last → OfImports s from (λ n to P. SourceLeft s.text n from none s.last to P)
  string_first sees o n b to P word stands d = of (import_node s.text word d)
    where
      of : ImportNode s.text n s.last to P → SourceLeft s.text n from none s.last to P
      of u = by u.given
        where
          by : ImportGiven s.text u.parts s.last to → SourceLeft s.text n from none s.last to P
          by (claused c f p) = no_clause s.text sees c
          by (sourced {o = o} {source = source} {k = k} {Q = Q} d z p) = record { source = source; x = k; o = o; Q = Q; spelled = d; ends = z; tree = begun stands u ∙ ap (node ImportDeclaration [] plain from to.stop) p; pairs = u.pairs }

  module _ (missed : MissesBy s.text Div is_quoted s.last) where
    record Claused (n : Tree) (to : Token) (P : List Pair) : Type 0 where
      names : Parts
      source : Tree
      k : Token
      clause : ClauseGiven s.text names s.last k
      further : FromGiven s.text source k to
      tree : n ≡ node ImportDeclaration [] plain from to.stop (push names source)
      pairs : P ≡ []

    with_clause : OfImports s from Claused
    with_clause o n b to P word stands d = of (import_node s.text word d)
      where
        of : ImportNode s.text n s.last to P → Claused n to P
        of u = by u.given
          where
            by : ImportGiven s.text u.parts s.last to → Claused n to P
            by (sourced d z p) = absurd (token_missed s.text missed (string_given s.text d))
            by (claused {names = names} {source = source} {k = k} c f p) = record { names = names; source = source; k = k; clause = c; further = f; tree = begun stands u ∙ ap (node ImportDeclaration [] plain from to.stop) p; pairs = u.pairs }

    pub clause_refused : (e z : CursorState) (old new : List Pair) (high inner : ℕ) (after : Parts) (result : Result Tree Fault) (fault : Fault) → inner ≡ high - 1 → ClauseComplete s e inner none after (Err fault) → IsErrAnd result (λ x. x ≡ fault) → ItemComplete s z old new high (codes "import") from result
    clause_refused e z old new high inner after result fault less complete told o n b to P word stands d own =
        let u = with_clause o n b to P word stands d in
        let tall : height n ≡ suc (parts_height (push u.names u.source)) = ap height u.tree in
        let both = parts_height-push u.names u.source in
        agrees_on (parts_height u.names ≤ inner) (Room s o (height n) high) _ result fault told (complete u.names u.k u.clause) (λ room. let low = room.1 in subst (λ k. parts_height u.names ≤ k) (sym less) (omega arith))

    module _ (e : CursorState) (inner : ℕ) (nodes : Parts) (complete : ClauseComplete s e inner none nodes (Ok tt)) where
      pub from_missed : (z : CursorState) (old new : List Pair) (high : ℕ) (result : Result Tree Fault) → Misses s.text IdentifierName (codes "from") e.last → ItemComplete s z old new high (codes "import") from result
      from_missed z old new high result none_there o n b to P word stands d own =
          let u = with_clause o n b to P word stands d in
          let same = complete u.names u.k u.clause in
          absurd (not_missed none_there (subst (λ v. ReadsHere s.text IdentifierName (codes "from") v u.further.x) (sym same.1) u.further.word))

      pub from_read : (m : Token) → ReadsHere s.text IdentifierName (codes "from") e.last m → OfImports s from (λ n to P. SourceLeft s.text n from nodes m to P)
      from_read m here o n b to P word stands d =
          let u = with_clause o n b to P word stands d in
          let same = complete u.names u.k u.clause in
          let there : u.further.x ≡ m = sym (words_same s.text here (subst (λ v. ReadsHere s.text IdentifierName (codes "from") v u.further.x) (sym same.1) u.further.word)).1 in
          record {
            source = u.source;
            x = u.further.m;
            o = u.further.o;
            Q = u.further.Q;
            spelled = subst (λ v. SpellsIn s.text u.further.o directive_string u.source v u.further.m u.further.Q) there u.further.spelled;
            ends = u.further.ends;
            tree = u.tree ∙ ap (λ v. node ImportDeclaration [] plain from to.stop (push v u.source)) (sym same.0);
            pairs = u.pairs;
          }

  -- the source
  module _ (m e : CursorState) (nodes : Parts) (same : m.text ≡ s.text) (left : OfImports s from (λ n to P. SourceLeft s.text n from nodes m.last to P)) where
    here : {n : Tree} {to : Token} {P : List Pair} (u : SourceLeft s.text n from nodes m.last to P) → SpellsIn m.text u.o directive_string u.source m.last u.x u.Q
    here u = subst (λ v. SpellsIn v u.o directive_string u.source m.last u.x u.Q) (sym same) u.spelled

    pub source_refused : (z : CursorState) (old new : List Pair) (high inner : ℕ) (result : Result Tree Fault) (fault : Fault) → inner ≡ high - 1 → SourceComplete m e inner (Err fault) → IsErrAnd result (λ x. x ≡ fault) → ItemComplete s z old new high (codes "import") from result
    source_refused z old new high inner result fault less complete told o n b to P word stands d own =
        let u = left o n b to P word stands d in
        let tall : height n ≡ suc (parts_height (push nodes u.source)) = ap height u.tree in
        let both = parts_height-push nodes u.source in
        agrees_on (height u.source ≤ inner) (Room s o (height n) high) _ result fault told (complete u.o u.source u.x u.Q (here u)) (λ room. let low = room.1 in subst (λ k. height u.source ≤ k) (sym less) (omega arith))

    pub source_read : (inner : ℕ) (k : Tree) (after : Parts) → SourceComplete m e inner (Ok k) → after ≡ push nodes k → OfImports s from (λ n to P. EndLeft s.text n from after e.last to P)
    source_read inner k after complete added o n b to P word stands d =
        let u = left o n b to P word stands d in
        let same = complete u.o u.source u.x u.Q (here u) in
        record { ends = subst (λ v. Step Token (SeenNext s.text) (behind_in s.text) (ending (behind Closed)) v to) (sym same.1) u.ends; tree = u.tree ∙ ap (node ImportDeclaration [] plain from to.stop) (sym (added ∙ ap (push nodes) same.0)); pairs = u.pairs }

  -- the end
  module _ (e z : CursorState) (old new : List Pair) (high : ℕ) (nodes : Parts) (left : OfImports s from (λ n to P. EndLeft s.text n from nodes e.last to P)) (result : Result Tree Fault) where
    pub end_missed : ((k : Token) → EndsAt s.text (AfterExpression Closed) e.last k → ⊥) → ItemComplete s z old new high (codes "import") from result
    end_missed missed o n b to P word stands d own = absurd (missed to (left o n b to P word stands d).ends)

    pub import_answered : IsEnd s.text (AfterExpression Closed) e.last z.last → new ≡ old → Makes (node ImportDeclaration [] plain from z.last.stop nodes) high result → ItemComplete s z old new high (codes "import") from result
    import_answered end none_added made o n b to P word stands d own =
        let u = left o n b to P word stands d in
        let at : z.last ≡ to = sym (end.only to u.ends) in
        node_agrees s z old new o to P (node ImportDeclaration [] plain from z.last.stop nodes) n high result (ap (λ (v : Token). node ImportDeclaration [] plain from v.stop nodes) at ∙ sym u.tree) (ends_same (sym u.pairs) (ends_none at none_added)) made
