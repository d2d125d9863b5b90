-- Imports and exports among a module's items: each is the only one at its place, and no statement (ModuleItem; 16.2 of the 13th edition).
use Rattle.std.proofs.Common.{◌≡◌, ℕ, suc, ◌≤◌, Bool, true, false, List, [], refl, sym, ap, ◌∙◌, subst, arith}
use Rattle.std.specs.Prelude.{codes}
use Rattle.std.proofs.lemmas.Bool.{false≢true}
use Rattle.tokens.specs.declared.token.TokenClass.TheVariants.{IdentifierName, Punctuator, StringLiteral}
use Rattle.tokens.specs.declared.token.Goal.{Goal}
use Rattle.tree.specs.declared.kind.Kind.{Kind}
use Rattle.tree.specs.declared.kind.Kind.TheVariants.{ImportDeclaration, ExportNamedDeclaration, ExportDefaultDeclaration, ExportAllDeclaration}
use Rattle.tree.specs.declared.kind.Pair.{Pair}
use Rattle.tree.specs.Tree.{Tree, node, Parts, plain, height, parts_height}
use Rattle.language.specs.declared.Rank.{Rank}
use Rattle.language.specs.declared.Rank.TheVariants.{Expression}
use Rattle.language.specs.declared.Start.{Start}
use Rattle.language.specs.declared.Start.TheVariants.{Statement}
use Rattle.language.specs.Vocabulary.{is, is_reserved}
use Rattle.language.specs.Pieces.{Role, expr, chain_part, module_item}
use Rattle.language.specs.Token.{Token}
use Rattle.language.specs.ExpressionStart.{with_import, expression_start, expression_start_by}
use Rattle.language.specs.StatementStart.{StatementStart, an_expression, statement_start_by, is_own}
use Rattle.language.specs.Promises.{IsDetermined, ReadBy, is_free}
use Rattle.language.specs.Following.{IsAlike}
use Rattle.language.specs.Grammar.{ways, spellings}
use Rattle.language.specs.Derivation.{Reads, Spells, direct, Placed}
use Rattle.language.proofs.table.Begins.{retell}
use Rattle.language.proofs.table.Beginnings.{OtherWay, a_label, evaluated, a_directive, a_group, Viewed, its_own, another, later, later_for, later_generator, later_async, viewed}
use Rattle.language.proofs.table.StatementWays.{Stands}
use Rattle.language.proofs.table.ItemTokens.{item_starts}
use Rattle.language.proofs.table.SoleWays.{same_span}
use Rattle.language.proofs.table.TokenFirstWays.{head_import, head_import_meta}
use Rattle.language.proofs.table.ViewIsComplete.{way_of}
use Rattle.language.proofs.climbing.BinaryTurns.{same_node}
use Rattle.language.proofs.climbing.Leaves.{by_name, by_class, worded_free, word_form, name_form}
use Rattle.language.proofs.climbing.LeftmostParts.{Cored, in_way, core_by, no_spine_core}
use Rattle.language.proofs.climbing.Spine.{Core, on_spine, spine_of, grows_on_spine}
use Rattle.language.proofs.list_loops.FirstPieces.{run_token, run_part}
use Rattle.language.proofs.list_loops.ParameterLists.{parameter_list}
use Rattle.language.proofs.list_loops.StatementLists.{no_start}
use Rattle.language.proofs.statements.StatementFollow.{token_follows}
use Rattle.unambiguity_laws.proofs.Unique.{Unique, UniqueParts}
use Rattle.unambiguity_laws.proofs.statements.ExpressionStatements.{string_opens, group_opens}
use Rattle.unambiguity_laws.proofs.statements.FunctionForms.{names_same}
use Rattle.unambiguity_laws.proofs.modules.Specifiers.{lean_node}
use Rattle.unambiguity_laws.proofs.modules.Imports.{Import, import_at, import_parts, import_same, import_no_sign, ImportAt}
use Rattle.unambiguity_laws.proofs.modules.Exports.{Export, export_at, export_parts, ExportAt}
use Rattle.unambiguity_laws.proofs.modules.ExportsOnce.{Follows, export_same}

module _ (S : Type 0) (Next : S → Token → S → Type 0) (behind : S → Token) (det : IsDetermined S Next behind) where
  -- by its first word
  pub data ModuleItem (o : ℕ) (n : Tree) (s e : S) (P : List Pair) : Type 0 where
    an_import : {st en : ℕ} {ps : Parts} {x : S} {t : Token} → n ≡ node ImportDeclaration [] plain st en ps → Placed S Next behind module_item n s e → Reads S Next behind IdentifierName (codes "import") s t x → Import S Next behind det x e ps P → ModuleItem o n s e P
    an_export : {K : Kind} {st en : ℕ} {ps : Parts} {x : S} {t : Token} → n ≡ node K [] plain st en ps → Placed S Next behind module_item n s e → Reads S Next behind IdentifierName (codes "export") s t x → Export S Next behind det o x e ps P K → ModuleItem o n s e P

  exported : {o : ℕ} {n : Tree} {s e : S} {P : List Pair} (K : Kind) {st en : ℕ} {ps : Parts} → n ≡ node K [] plain st en ps → Placed S Next behind module_item n s e → ExportAt S Next behind det o s e ps P K → ModuleItem o n s e P
  exported K tree pl (export_at r d) = an_export tree pl r d

  pub module_item_form : {o : ℕ} {n : Tree} {s e : S} {P : List Pair} → Spells ways S Next behind o module_item n s e P → ModuleItem o n s e P
  unfolding spellings
  module_item_form {n = node ImportDeclaration w g st en ps} (direct qs h pl d) =
      let v = way_of h in
      of (lean_node ImportDeclaration w g st en ps refl v.lean) pl (import_parts S Next behind det ps v.listed (retell S Next behind v.is d))
    where
      of : {o : ℕ} {n : Tree} {s e : S} {P : List Pair} {st en : ℕ} {ps : Parts} → n ≡ node ImportDeclaration [] plain st en ps → Placed S Next behind module_item n s e → ImportAt S Next behind det s e ps P → ModuleItem o n s e P
      of tree pl (import_at r d) = an_import tree pl r d
  module_item_form {n = node ExportNamedDeclaration w g st en ps} (direct qs h pl d) = let v = way_of h in exported ExportNamedDeclaration (lean_node ExportNamedDeclaration w g st en ps refl v.lean) pl (export_parts S Next behind det ExportNamedDeclaration ps refl (λ e. cc) v.listed (retell S Next behind v.is d))
  module_item_form {n = node ExportDefaultDeclaration w g st en ps} (direct qs h pl d) = let v = way_of h in exported ExportDefaultDeclaration (lean_node ExportDefaultDeclaration w g st en ps refl v.lean) pl (export_parts S Next behind det ExportDefaultDeclaration ps refl (λ e. cc) v.listed (retell S Next behind v.is d))
  module_item_form {n = node ExportAllDeclaration w g st en ps} (direct qs h pl d) = let v = way_of h in exported ExportAllDeclaration (lean_node ExportAllDeclaration w g st en ps refl v.lean) pl (export_parts S Next behind det ExportAllDeclaration ps refl (λ e. cc) v.listed (retell S Next behind v.is d))
  module_item_form {n = node _ w g st en ps} (direct qs h pl d) = elim ((way_of h).listed) [ ]

  -- it may follow a statement
  pub module_item_follows : {o : ℕ} {n : Tree} {s e : S} {P : List Pair} → ModuleItem o n s e P → Follows S Next behind det s
  unfolding is_reserved
  module_item_follows (an_import tree pl r d) b = token_follows S Next behind det {b = b} refl refl r
  module_item_follows (an_export tree pl r d) b = token_follows S Next behind det {b = b} refl refl r

  -- no statement begins with `export`
  no_export : {A : Type 0} {p d r : Bool} {a : Role} {o : ℕ} {n : Tree} {s x e : S} {P : List Pair} {t : Token} → Stands a p d r → Spells ways S Next behind o a n s e P → Reads S Next behind IdentifierName (codes "export") s t x → A
  unfolding is_reserved
  no_export st d r = absurd (no_start S Next behind det refl refl r (item_starts S Next behind det st d))

  -- in an expression that begins with `import` a parenthesis or a point stands behind it
  import_or_core : {A : Type 0} {o : ℕ} {q : Rank} {j : Bool} {f : Start} {m : Tree} {s x mid e' : S} {Q P' : List Pair} {ps : Parts} {t : Token} → ReadBy S Next behind Goal.RegExp s t x → Import S Next behind det x e' ps P' → Cored S Next behind det o q j f m s mid Q with_import → A
  import_or_core {x = x} r i (in_way is (head_import k tk v) lean pl d) =
      let a = run_token S Next behind (retell S Next behind v d) in
      let c = run_token S Next behind a.runs in
      import_no_sign S Next behind det refl refl refl (subst (λ z. Reads S Next behind Punctuator (codes "(") z c.sign c.mid) (by_name S Next behind det r a.sign a.mid a.reads).1 c.reads) i
  import_or_core {x = x} r i (in_way is (head_import_meta k c tk v) lean pl d) =
      let a = run_part S Next behind (retell S Next behind v d) in
      let w = word_form S Next behind det a.spelled in
      let p = run_token S Next behind a.runs in
      import_no_sign S Next behind det refl refl refl (subst (λ z. Reads S Next behind Punctuator (codes ".") z p.sign p.mid) (by_class S Next behind det (worded_free w.class w.text w.is_word) r w.sign a.mid w.reads).1 p.reads) i

  import_or_expression : {A : Type 0} {o : ℕ} {n : Tree} {s x e e' : S} {P P' : List Pair} {ps : Parts} {t : Token} → Reads S Next behind IdentifierName (codes "import") s t x → Import S Next behind det x e' ps P' → Spells ways S Next behind o (expr Expression true Statement) n s e P → A
  unfolding is_reserved
  import_or_expression {A} {o} {s = s} {x} {t = t} r i d = let u = spine_of S Next behind d in of u.role (grows_on_spine S Next behind refl u.grows) u.core
    where
      read : ReadBy S Next behind Goal.RegExp s t x
      read = record { next = r.next; allowed = det.free Goal.RegExp s t x r.next (ap is_free r.class) }

      op : expression_start t ≡ with_import
      op = ap (λ c. expression_start_by c t.text) r.class ∙ ap (expression_start_by IdentifierName) r.text

      of : {m : Tree} {e : S} {Q : List Pair} (a : Role) → on_spine a ≡ true → Core S Next behind o a m s e Q → A
      of (expr y j g) on c = import_or_core read i (core_by S Next behind det read op c)
      of (chain_part g) on c = absurd (no_spine_core S Next behind det c)
      of _ on c = absurd (false≢true on)

  import_or_other : {A : Type 0} {p r : Bool} {a : Role} {o : ℕ} {n : Tree} {s x e e' : S} {P P' : List Pair} {ps : Parts} {t : Token} → Reads S Next behind IdentifierName (codes "import") s t x → Import S Next behind det x e' ps P' → OtherWay S Next behind det p r o a n s e P → A
  unfolding is_reserved
  import_or_other r i (a_label tree pl d) =
      let u = name_form S Next behind det (run_part S Next behind d).spelled in
      absurd (false≢true (sym u.1 ∙ ap is_reserved (names_same S Next behind det u.0.reads r).0))
  import_or_other r i (evaluated tree pl plainly d) = import_or_expression r i (run_part S Next behind d).spelled
  import_or_other {s = s} {x} {t = t} r i (a_directive first tree pl lit d) =
      let clash : IdentifierName ≡ StringLiteral = sym r.class ∙ string_opens S Next behind det (run_part S Next behind d).spelled (record { next = r.next; allowed = det.free Goal.RegExp s t x r.next (ap is_free r.class) }) in
      cc
  import_or_other {s = s} {x} {t = t} r i (a_group first tree pl lit d) =
      let clash : IdentifierName ≡ Punctuator = sym r.class ∙ group_opens S Next behind det (run_part S Next behind d).spelled (record { next = r.next; allowed = det.free Goal.RegExp s t x r.next (ap is_free r.class) }) in
      cc

  -- so no item that is no import begins as one
  no_import : {A : Type 0} {p : Bool} {a : Role} {o : ℕ} {n : Tree} {s x e e' : S} {P P' : List Pair} {ps : Parts} {t : Token} → Stands a p true false → Spells ways S Next behind o a n s e P → Reads S Next behind IdentifierName (codes "import") s t x → Import S Next behind det x e' ps P' → A
  unfolding is_reserved
  no_import {A} {p} {a} {o} {n} {s} {x} {e} {P = P} {t = t} st d r i =
      of (viewed S Next behind det st (record { next = r.next; allowed = det.free Goal.RegExp s t x r.next (ap is_free r.class) }) d) (ap (λ c. statement_start_by true false c t.text) r.class ∙ ap (statement_start_by true false IdentifierName) r.text)
    where
      of : {b : StatementStart} → Viewed S Next behind det p false o a t x n s e P b → b ≡ an_expression → A
      of (its_own own u) h = absurd (false≢true (sym (ap is_own h) ∙ own))
      of (another h w) q = import_or_other r i w
      of (later (later_for z tree pl d)) h = cc
      of (later (later_generator tree pl d)) h = cc
      of (later (later_async c w z tree pl d)) h = absurd (false≢true (ap (λ w. is w "async") (sym r.text ∙ w)))

  pub no_statement : {A : Type 0} {p : Bool} {a : Role} {o o' : ℕ} {n n' : Tree} {s e e' : S} {P P' : List Pair} → ModuleItem o n s e P → Stands a p true false → Spells ways S Next behind o' a n' s e' P' → A
  no_statement (an_import tree pl r i) st d = no_import st d r i
  no_statement (an_export tree pl r i) st d = no_export st d r

module _ (S : Type 0) (Next : S → Token → S → Type 0) (behind : S → Token) (det : IsDetermined S Next behind) (alike : IsAlike S Next behind) {h : ℕ} (u : Unique S Next behind det h) (parameters : UniqueParts S Next behind det h parameter_list) where
  -- an import or export is the only one there
  pub module_items_same : {o o' : ℕ} {n n' : Tree} {s e e' : S} {P P' : List Pair} → height n ≤ h → ModuleItem S Next behind det o n s e P → Follows S Next behind det e → ModuleItem S Next behind det o' n' s e' P' → Follows S Next behind det e' → (e' ≡ e) × (n' ≡ n) × (P' ≡ P)
  module_items_same {s = s} {e} {e'} {P' = P'} low (an_import tree pl r i) fine (an_import {ps = ps'} tree' pl' r' i') fine' =
      let same = import_same S Next behind det i (subst (λ c. Import S Next behind det c e' ps' P') (names_same S Next behind det r' r).1 i') in
      let span = same_span S Next behind det {a = module_item} (λ t l. refl) (subst (λ v. Placed S Next behind module_item v s e') tree' pl') (subst (λ v. Placed S Next behind module_item v s e) tree pl) same.0 in
      (same.0, tree' ∙ same_node refl refl refl span.0 span.1 same.1 ∙ sym tree, same.2)
  module_items_same low (an_import tree pl r i) fine (an_export tree' pl' r' i') fine' = absurd (false≢true (ap (λ w. is w "import") (names_same S Next behind det r' r).0))
  module_items_same low (an_export tree pl r i) fine (an_import tree' pl' r' i') fine' = absurd (false≢true (ap (λ w. is w "export") (names_same S Next behind det r' r).0))
  module_items_same {o' = o'} {n = n} {s = s} {e} {e'} {P' = P'} low (an_export {ps = ps} tree pl r i) fine (an_export {K = K'} {ps = ps'} tree' pl' r' i') fine' =
      let tall : height n ≡ suc (parts_height ps) = ap height tree in
      let same = export_same S Next behind det alike u parameters (omega arith) i fine (subst (λ c. Export S Next behind det o' c e' ps' P' K') (names_same S Next behind det r' r).1 i') fine' in
      let span = same_span S Next behind det {a = module_item} (λ t l. refl) (subst (λ v. Placed S Next behind module_item v s e') tree' pl') (subst (λ v. Placed S Next behind module_item v s e) tree pl) same.place in
      (same.place, tree' ∙ same_node same.kind refl refl span.0 span.1 same.parts ∙ sym tree, same.pairs)
