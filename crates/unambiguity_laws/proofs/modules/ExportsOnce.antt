-- What stands behind `export` in a module is the only thing there (ExportDeclaration; 16.2.3 of the 13th edition).
use Rattle.std.proofs.Common.{◌≡◌, ℕ, suc, ◌≤◌, max, Bool, true, false, cond, List, [], refl, sym, ap, ◌∙◌, subst, arith}
use Rattle.std.specs.Prelude.{IsTrue, codes}
use Rattle.std.proofs.lemmas.Bool.{false≢true}
use Rattle.tokens.specs.declared.token.TokenClass.TheVariants.{IdentifierName, Punctuator}
use Rattle.tokens.specs.declared.token.Goal.{Goal}
use Rattle.tokens.specs.Goals.{allows}
use Rattle.tree.specs.declared.kind.Kind.{Kind}
use Rattle.tree.specs.declared.kind.Kind.TheVariants.{BlockStatement, ExportSpecifier}
use Rattle.tree.specs.declared.kind.Pair.{Pair}
use Rattle.tree.specs.Tree.{Tree, Parts, none, part, gap, height, parts_height, kind_of}
use Rattle.language.specs.declared.Rank.TheVariants.{Assignment}
use Rattle.language.specs.declared.Start.TheVariants.{Any, Statement}
use Rattle.language.specs.FirstPart.{begins_with_brace}
use Rattle.language.specs.Vocabulary.{is, is_reserved}
use Rattle.language.specs.Edges.{edge, ends_in_if}
use Rattle.language.specs.Pieces.{expr, item, default_item}
use Rattle.language.specs.Token.{Token}
use Rattle.language.specs.StatementStart.{StatementStart, a_block, statement_start_by}
use Rattle.language.specs.Promises.{IsDetermined}
use Rattle.language.specs.Following.{IsAlike, Followed}
use Rattle.language.specs.Grammar.{ways}
use Rattle.language.specs.Derivation.{Reads, Spells, Runs, Step, Placed}
use Rattle.language.proofs.table.Beginnings.{form_flags, Viewed, its_own, another, later, later_for, later_generator, later_async, viewed}
use Rattle.language.proofs.table.ForDeclarationWays.{two_signs}
use Rattle.language.proofs.table.StatementWays.{begins_as, as_item}
use Rattle.language.proofs.table.ItemTokens.{item_starts}
use Rattle.language.proofs.table.SoleWays.{same_span}
use Rattle.language.proofs.climbing.BinaryTurns.{same_node}
use Rattle.language.proofs.climbing.BraceStarts.{default_begins, default_no_async}
use Rattle.language.proofs.climbing.Conditionals.{same_sign}
use Rattle.language.proofs.climbing.FunctionsAndClasses.{class_behind}
use Rattle.language.proofs.climbing.OtherStarts.{anything, start_moves}
use Rattle.language.proofs.covers.CoverReadings.{name_or_sign}
use Rattle.language.proofs.list_loops.ParameterLists.{parameter_list}
use Rattle.language.proofs.list_loops.StatementLists.{no_start}
use Rattle.language.proofs.statements.StatementFollow.{end_stops}
use Rattle.unambiguity_laws.proofs.Unique.{Unique, UniqueParts}
use Rattle.unambiguity_laws.proofs.statements.FunctionBodies.{class_unique}
use Rattle.unambiguity_laws.proofs.statements.FunctionForms.{names_same, AsyncWord, with_async, without_async, functions_same}
use Rattle.unambiguity_laws.proofs.statements.StatementEnds.{end_behind, end_once}
use Rattle.unambiguity_laws.proofs.modules.ModuleWords.{Leaf, leaf_same, From, from_same}
use Rattle.unambiguity_laws.proofs.modules.SpecifierLists.{Listed, Exports, listed_same, exports_same}
use Rattle.unambiguity_laws.proofs.modules.Exports.{is_exported, DefaultItem, a_function, a_class, Default, an_item, a_value, All, without_name, with_name, Export, names, declared, by_default, all}

block_kind : (k : Kind) → begins_as k ≡ a_block → k ≡ BlockStatement
block_kind BlockStatement e = refl
block_kind _ e = cc

module _ (S : Type 0) (Next : S → Token → S → Type 0) (behind : S → Token) (det : IsDetermined S Next behind) where
  -- whatever statement ends here, what follows may
  abbrev pub Follows : S → Type 0
  Follows e = (b : Bool) → Followed S Next behind b e

  -- no exported declaration is a block
  no_block : {o : ℕ} {n : Tree} {s m e : S} {P : List Pair} {t : Token} {b : StatementStart} → Viewed S Next behind det false false o (item false) t m n s e P b → b ≡ a_block → is_exported (kind_of n) ≡ true → ⊥
  no_block (its_own own u) h x = false≢true (ap is_exported (sym (block_kind u.kind (u.begins ∙ h)) ∙ sym (ap kind_of u.tree)) ∙ x)
  no_block (another e u) h x = cc
  no_block (later (later_for z tree pl d)) h x = cc
  no_block (later (later_generator tree pl d)) h x = cc
  no_block (later (later_async c w z tree pl d)) h x = cc

  no_brace_declared : {A : Type 0} {o : ℕ} {n : Tree} {s k e : S} {P : List Pair} {t : Token} → Reads S Next behind Punctuator (codes "{") s t k → Spells ways S Next behind o (item false) n s e P → is_exported (kind_of n) ≡ true → A
  no_brace_declared {t = t} r d x =
      let al : IsTrue (allows Goal.RegExp t.class t.text) = subst (λ c. IsTrue (allows Goal.RegExp c t.text)) (sym r.class) (subst (λ c. IsTrue (allows Goal.RegExp Punctuator c)) (sym r.text) refl) in
      absurd (no_block (viewed S Next behind det as_item (record { next = r.next; allowed = al }) d) (ap (λ c. statement_start_by true false c t.text) r.class ∙ ap (statement_start_by true false Punctuator) r.text) x)

  no_star_declared : {A : Type 0} {o : ℕ} {n : Tree} {s k e : S} {P : List Pair} {t : Token} → Reads S Next behind Punctuator (codes "*") s t k → Spells ways S Next behind o (item false) n s e P → A
  no_star_declared r d = absurd (no_start S Next behind det refl refl r (item_starts S Next behind det as_item d))

  no_default_declared : {A : Type 0} {o : ℕ} {n : Tree} {s k e : S} {P : List Pair} {t : Token} → Reads S Next behind IdentifierName (codes "default") s t k → Spells ways S Next behind o (item false) n s e P → A
  unfolding is_reserved
  no_default_declared r d = absurd (no_start S Next behind det refl refl r (item_starts S Next behind det as_item d))

  brace_star : {A : Type 0} {s k k' : S} {t t' : Token} → Reads S Next behind Punctuator (codes "{") s t k → Reads S Next behind Punctuator (codes "*") s t' k' → A
  brace_star r r' = absurd (false≢true (ap (λ w. is w "{") (two_signs S Next behind det refl refl r' r).0))

  all_same : {s e e' : S} {ps ps' : Parts} {P P' : List Pair} → All S Next behind det s e ps P → All S Next behind det s e' ps' P' → (e' ≡ e) × (ps' ≡ ps) × (P' ≡ P)
  all_same (without_name f p) (without_name f' p') = let same = from_same S Next behind det f f' in (same.0, p' ∙ ap gap same.1 ∙ sym p, same.2)
  all_same (without_name f p) (with_name r l f' p') = absurd (false≢true (ap (λ w. is w "from") (names_same S Next behind det r f.reads).0))
  all_same (with_name r l f p) (without_name f' p') = absurd (false≢true (ap (λ w. is w "from") (names_same S Next behind det r f'.reads).0))
  all_same {e' = e'} {P' = P'} (with_name r l f p) (with_name {n = n'} {k = k'} {qs = qs'} r' l' f' p') =
      let word = (names_same S Next behind det r' r).1 in
      let leaf = leaf_same S Next behind det l (subst (λ c. Leaf S Next behind det n' c k' []) word l') in
      let same = from_same S Next behind det f (subst (λ c. From S Next behind det c e' qs' P') leaf.0 f') in
      (same.0, p' ∙ (λ i. part (leaf.1 i) (same.1 i)) ∙ sym p, same.2)

  -- a function begins with no `class`
  class_or_function : {A : Type 0} {b : Bool} {s m k k' : S} {t t' : Token} → Reads S Next behind IdentifierName (codes "class") s t k → AsyncWord S Next behind det b s m → Reads S Next behind IdentifierName (codes "function") m t' k' → A
  class_or_function r (with_async a nx line) h = absurd (false≢true (ap (λ w. is w "async") (names_same S Next behind det r a).0))
  class_or_function r without_async h = absurd (false≢true (ap (λ w. is w "function") (names_same S Next behind det r h).0))

module _ (S : Type 0) (Next : S → Token → S → Type 0) (behind : S → Token) (det : IsDetermined S Next behind) (alike : IsAlike S Next behind) {h : ℕ} (u : Unique S Next behind det h) (parameters : UniqueParts S Next behind det h parameter_list) where
  items_same : {o o' : ℕ} {n n' : Tree} {s e e' : S} {P P' : List Pair} → height n ≤ h → DefaultItem S Next behind det o n s e P → DefaultItem S Next behind det o' n' s e' P' → (e' ≡ e) × (n' ≡ n) × (P' ≡ P)
  items_same {n = n} {s = s} {e} {e'} low (a_function {qs = qs} tree pl f) (a_function tree' pl' f') =
      let tall : height n ≡ suc (parts_height qs) = ap height tree in
      let same = functions_same S Next behind det alike u parameters (omega arith) f f' in
      let span = same_span S Next behind det {a = default_item} (λ t l. refl) (subst (λ v. Placed S Next behind default_item v s e') tree' pl') (subst (λ v. Placed S Next behind default_item v s e) tree pl) same.1 in
      (same.1, tree' ∙ same_node refl refl (ap form_flags same.0) span.0 span.1 same.2 ∙ sym tree, same.3)
  items_same low (a_function tree pl f) (a_class tree' pl' r d) = class_or_function S Next behind det r f.word f.reads
  items_same low (a_class tree pl r d) (a_function tree' pl' f) = class_or_function S Next behind det r f.word f.reads
  items_same {o' = o'} {n = n} {s = s} {e} {e'} {P' = P'} low (a_class {qs = qs} tree pl r d) (a_class {qs = qs'} tree' pl' r' d') =
      let tall : height n ≡ suc (parts_height qs) = ap height tree in
      let same = ((class_unique S Next behind det alike u).gives (omega arith) d).only o' e' qs' P' (subst (λ c. Runs ways S Next behind o' (class_behind qs') qs' c e' P') (names_same S Next behind det r' r).1 d') in
      let span = same_span S Next behind det {a = default_item} (λ t l. refl) (subst (λ v. Placed S Next behind default_item v s e') tree' pl') (subst (λ v. Placed S Next behind default_item v s e) tree pl) same.0 in
      (same.0, tree' ∙ same_node refl refl refl span.0 span.1 same.1 ∙ sym tree, same.2)

  -- a value begins with no function or class
  item_or_value : {A : Type 0} {o o' : ℕ} {n n' : Tree} {s k e e' : S} {P P' : List Pair} → DefaultItem S Next behind det o n s e P → Spells ways S Next behind o' (expr Assignment true (cond (begins_with_brace n') Any Statement)) n' s k P' → Step S Next behind (end_behind (edge n')) k e' → Follows S Next behind det e' → A
  item_or_value (a_class tree pl r d) v end fine = absurd (false≢true (default_begins S Next behind det v r))
  item_or_value {n' = n'} {s = s} {k} (a_function tree pl f) v end fine = of f.word f.reads
    where
      of : {b : Bool} {x z : S} {t : Token} {A : Type 0} → AsyncWord S Next behind det b s x → Reads S Next behind IdentifierName (codes "function") x t z → A
      of without_async r = absurd (false≢true (default_begins S Next behind det v r))
      of {x = x} {z} {t} (with_async {v = w} {k = q} a nx line) r = absurd (default_no_async S Next behind det (end_stops S Next behind det alike Assignment true n' end (fine true)).apart v a r (det.break x t w z q r.next nx ∙ line))

  values_same : {o o' : ℕ} {n n' : Tree} {s k k' e e' : S} {P P' : List Pair} → height n ≤ h → Spells ways S Next behind o (expr Assignment true (cond (begins_with_brace n) Any Statement)) n s k P → Step S Next behind (end_behind (edge n)) k e → Follows S Next behind det e →
      Spells ways S Next behind o' (expr Assignment true (cond (begins_with_brace n') Any Statement)) n' s k' P' → Step S Next behind (end_behind (edge n')) k' e' → Follows S Next behind det e' → (e' ≡ e) × (n' ≡ n) × (P' ≡ P)
  values_same {o' = o'} {n = n} {n'} {k = k} {k'} {e} {e'} {P' = P'} low d end fine d' end' fine' =
      let found = u.expressions.found low (λ c. cc) (λ c. cc) (start_moves S Next behind det anything refl d) (end_stops S Next behind det alike Assignment true n end (fine true)) in
      let same = found.only o' k' n' P' (start_moves S Next behind det anything refl d') (end_stops S Next behind det alike Assignment true n' end' (fine' true)) in
      let end'' : Step S Next behind (end_behind (edge n)) k e' = subst (λ c. Step S Next behind (end_behind (edge c)) k e') same.1 (subst (λ c. Step S Next behind (end_behind (edge n')) c e') same.0 end') in
      (end_once S Next behind det end end'', same.1, same.2)

  defaults_same : {o o' : ℕ} {s e e' : S} {ps ps' : Parts} {P P' : List Pair} → parts_height ps ≤ h → Default S Next behind det o s e ps P → Follows S Next behind det e → Default S Next behind det o' s e' ps' P' → Follows S Next behind det e' → (e' ≡ e) × (ps' ≡ ps) × (P' ≡ P)
  defaults_same {ps = ps} low (an_item {n = n} i p) fine (an_item i' p') fine' =
      let tall : parts_height ps ≡ max (height n) 0 = ap parts_height p in
      let same = items_same (omega arith) i i' in
      (same.0, p' ∙ ap (λ (c : Tree). part c none) same.1 ∙ sym p, same.2)
  defaults_same low (an_item i p) fine (a_value d end p') fine' = item_or_value i d end fine'
  defaults_same low (a_value d end p) fine (an_item i p') fine' = item_or_value i d end fine
  defaults_same {ps = ps} low (a_value {n = n} d end p) fine (a_value d' end' p') fine' =
      let tall : parts_height ps ≡ max (height n) 0 = ap parts_height p in
      let same = values_same (omega arith) d end fine d' end' fine' in
      (same.0, p' ∙ ap (λ (c : Tree). part c none) same.1 ∙ sym p, same.2)

  -- what stands behind the word
  pub record Same (e e' : S) (K K' : Kind) (ps ps' : Parts) (P P' : List Pair) : Type 0 where
    pub place : e' ≡ e
    pub kind : K' ≡ K
    pub parts : ps' ≡ ps
    pub pairs : P' ≡ P

  pub export_same : {o o' : ℕ} {s e e' : S} {K K' : Kind} {ps ps' : Parts} {P P' : List Pair} → parts_height ps ≤ h → Export S Next behind det o s e ps P K → Follows S Next behind det e → Export S Next behind det o' s e' ps' P' K' → Follows S Next behind det e' → Same e e' K K' ps ps' P P'
  export_same {e' = e'} {P' = P'} low (names r l p) fine (names {qs = qs'} r' l' p') fine' =
      let same = listed_same S Next behind det (exports_same S Next behind det) l (subst (λ c. Listed S Next behind det ExportSpecifier (Exports S Next behind det) c e' qs' P') (same_sign S Next behind det r' r refl).1 l') in
      record { place = same.0; kind = refl; parts = p' ∙ ap gap same.1 ∙ sym p; pairs = same.2 }
  export_same low (names r l p) fine (declared d x p') fine' = no_brace_declared S Next behind det r d x
  export_same low (names r l p) fine (by_default r' d) fine' = absurd (name_or_sign S Next behind det refl r' r)
  export_same low (names r l p) fine (all r' a) fine' = brace_star S Next behind det r r'
  export_same low (declared d x p) fine (names r l p') fine' = no_brace_declared S Next behind det r d x
  export_same {o' = o'} {e' = e'} {ps = ps} {P' = P'} low (declared {n = n} d x p) fine (declared {n = n'} d' x' p') fine' =
      let tall : parts_height ps ≡ max (height n) 0 = ap parts_height p in
      let same = (u.statement as_item (omega arith) d (fine (ends_in_if n))).only o' e' n' P' d' (fine' (ends_in_if n')) in
      record { place = same.0; kind = refl; parts = p' ∙ ap (λ (c : Tree). part c (gap none)) same.1 ∙ sym p; pairs = same.2 }
  export_same low (declared d x p) fine (by_default r d') fine' = no_default_declared S Next behind det r d
  export_same low (declared d x p) fine (all r a) fine' = no_star_declared S Next behind det r d
  export_same low (by_default r' d) fine (names r l p) fine' = absurd (name_or_sign S Next behind det refl r' r)
  export_same low (by_default r d') fine (declared d x p) fine' = no_default_declared S Next behind det r d
  export_same {o' = o'} {e' = e'} {ps' = ps'} {P' = P'} low (by_default r d) fine (by_default r' d') fine' =
      let same = defaults_same low d fine (subst (λ c. Default S Next behind det o' c e' ps' P') (names_same S Next behind det r' r).1 d') fine' in
      record { place = same.0; kind = refl; parts = same.1; pairs = same.2 }
  export_same low (by_default r d) fine (all r' a) fine' = absurd (name_or_sign S Next behind det refl r r')
  export_same low (all r' a) fine (names r l p) fine' = brace_star S Next behind det r r'
  export_same low (all r a) fine (declared d x p) fine' = no_star_declared S Next behind det r d
  export_same low (all r' a) fine (by_default r d) fine' = absurd (name_or_sign S Next behind det refl r r')
  export_same {e' = e'} {ps' = ps'} {P' = P'} low (all r a) fine (all r' a') fine' =
      let same = all_same S Next behind det a (subst (λ c. All S Next behind det c e' ps' P') (same_sign S Next behind det r' r refl).1 a') in
      record { place = same.0; kind = refl; parts = same.1; pairs = same.2 }
