-- A given export by what stands behind its word: names in braces, all names of a module (ExportDeclaration; ECMA-262, 13th edition, 16.2.3).
use Rattle.std.proofs.Common.{◌≡◌, ℕ, true, false, List, [], ◌∷◌, refl, sym, ap, ◌∙◌, subst}
use Rattle.std.specs.Prelude.{codes, IsTrue}
use Rattle.std.proofs.lemmas.Bool.{false≢true}
use Rattle.tokens.specs.declared.token.TokenClass.TheVariants.{IdentifierName, Punctuator}
use Rattle.tokens.specs.declared.token.Goal.{Goal}
use Rattle.tokens.specs.Goals.{allows}
use Rattle.tree.specs.declared.kind.Kind.{Kind}
use Rattle.tree.specs.declared.kind.Kind.TheVariants.{BlockStatement, ExportNamedDeclaration, ExportAllDeclaration, ExportDefaultDeclaration, ExportSpecifier}
use Rattle.tree.specs.declared.kind.Flags.{Flags}
use Rattle.tree.specs.declared.kind.Pair.{Pair}
use Rattle.tree.specs.Tree.{Tree, node, plain, Parts, none, part, gap, join, bare, bare_parts, kind_of}
use Rattle.language.specs.declared.Rank.TheVariants.{Expression}
use Rattle.language.specs.declared.Start.TheVariants.{Any}
use Rattle.language.specs.Vocabulary.{is, is_identifier}
use Rattle.language.specs.Pieces.{absent, specifier, module_item, item, of_export, ending, may}
use Rattle.language.specs.Expressions.{module_name}
use Rattle.language.specs.Statements.{export_list, from_source}
use Rattle.language.specs.Token.{Token}
use Rattle.language.specs.StatementStart.{StatementStart, a_block, statement_start_by}
use Rattle.language.specs.Grammar.{spellings}
use Rattle.language.specs.Derivation.{Reads, Placed, placed, direct, Step, without_mark, with_mark}
use Rattle.language.proofs.table.Begins.{goes_to, retell}
use Rattle.language.proofs.table.Beginnings.{Viewed, its_own, another, later, later_for, later_generator, later_async, viewed}
use Rattle.language.proofs.table.StatementWays.{begins_as, as_item, pieces_of_one}
use Rattle.language.proofs.table.ViewIsComplete.{way_of}
use Rattle.language.proofs.list_loops.FirstPieces.{run_token, run_laid, run_never, run_the_part, run_the_gap}
use Rattle.language.proofs.list_loops.PiecesSoFar.{run_end, run_step}
use Rattle.language.proofs.climbing.BinaryTurns.{same_node}
use Rattle.token_cursor.specs.SourceText.{SourceText, SeenNext, behind_in}
use Rattle.token_cursor.specs.Seen.{ReadsHere}
use Rattle.token_cursor.proofs.SeenTokens.{seen_determined}
use Rattle.unambiguity_laws.proofs.modules.Specifiers.{export_form}
use Rattle.unambiguity_laws.proofs.modules.SpecifierLists.{Exports, with_source, own_names}
use Rattle.unambiguity_laws.proofs.modules.Exports.{is_exported, Default, All, without_name, with_name, Export, names, declared, by_default, all}
use Rattle.unambiguity_laws.proofs.modules.ModuleItems.{ModuleItem, an_import, an_export, module_item_form}
use Rattle.recursive_descent.specs.Soundness.{RunsIn, anywhere}
use Rattle.recursive_descent.specs.Spelled.{SpellsIn}
use Rattle.recursive_descent.specs.ModuleItems.{NamesGiven, closing, one_more, last_one}
use Rattle.recursive_descent.proofs.complete_expressions.Agreement.{read_here, words_same}
use Rattle.recursive_descent.proofs.complete_modules.NamesGiven.{either_runs}
use Rattle.recursive_descent.proofs.complete_modules.ImportsGiven.{FromGiven, from_given}
use Rattle.recursive_descent.proofs.complete_modules.ImportNodes.{listed_pairs}

block_kind : (k : Kind) → begins_as k ≡ a_block → k ≡ BlockStatement
block_kind BlockStatement e = refl
block_kind _ e = cc

module _ (text : SourceText) where
  -- behind the braces a source, or the end
  pub data TailGiven (tail : Parts) (s to : Token) : Type 0 where
    a_source : {source : Tree} → FromGiven text source s to → tail ≡ part source none → TailGiven tail s to
    no_source : Step Token (SeenNext text) (behind_in text) (ending of_export) s to → tail ≡ gap none → TailGiven tail s to

  -- names between braces and what stands behind these
  pub record ListGiven (ps : Parts) (s to : Token) : Type 0 where
    pub names : Parts
    pub tail : Parts
    pub k : Token
    pub parts : ps ≡ join names tail
    pub given : NamesGiven text ExportSpecifier names s k
    pub behind : TailGiven tail k to

  no_specifiers : {ps : Parts} {s e k : Token} {t : Token} → Reads Token (SeenNext text) (behind_in text) Punctuator (codes "}") s t k → TailGiven ps k e → ListGiven ps s e
  no_specifiers {ps} {k = k} r u = record { names = none; tail = ps; k = k; parts = refl; given = closing (read_here text r); behind = u }

  last_specifier : {o : ℕ} {w : List ℕ} {g : Flags} {st en : ℕ} {rs ps : Parts} {s m x e k : Token} {t : Token} → SpellsIn text o specifier (node ExportSpecifier w g st en rs) s m [] → Step Token (SeenNext text) (behind_in text) (may (codes ",")) m x → Reads Token (SeenNext text) (behind_in text) Punctuator (codes "}") x t k → TailGiven ps k e → ListGiven (part (node ExportSpecifier w g st en rs) ps) s e
  last_specifier {w = w} {g} {st} {en} {rs} {ps} {k = k} its without_mark r u = record { names = part (node ExportSpecifier w g st en rs) none; tail = ps; k = k; parts = refl; given = last_one refl its (read_here text r); behind = u }
  last_specifier {w = w} {g} {st} {en} {rs} {ps} {k = k} its (with_mark c) r u = record { names = part (node ExportSpecifier w g st en rs) none; tail = ps; k = k; parts = refl; given = one_more refl its (read_here text c) (closing (read_here text r)); behind = u }

  further : {o : ℕ} {w : List ℕ} {g : Flags} {st en : ℕ} {rs ps : Parts} {s m x e : Token} {t : Token} → SpellsIn text o specifier (node ExportSpecifier w g st en rs) s m [] → Reads Token (SeenNext text) (behind_in text) Punctuator (codes ",") m t x → ListGiven ps x e → ListGiven (part (node ExportSpecifier w g st en rs) ps) s e
  further {w = w} {g} {st} {en} {rs} its c u = record { names = part (node ExportSpecifier w g st en rs) u.names; tail = u.tail; k = u.k; parts = ap (part (node ExportSpecifier w g st en rs)) u.parts; given = one_more refl its (read_here text c) u.given; behind = u.behind }

  sourced : {o : ℕ} {ps : Parts} {s e : Token} {P : List Pair} → RunsIn text o (goes_to Expression true Any from_source) ps s e P → TailGiven ps s e
  sourced d = let f = from_given text d in a_source f.given f.parts

  ended : {o : ℕ} {s e : Token} {P : List Pair} → RunsIn text o (goes_to Expression true Any (absent ∷ ending of_export ∷ [])) (gap none) s e P → TailGiven (gap none) s e
  ended d = let z = run_end Token (SeenNext text) (behind_in text) (seen_determined text) (run_the_gap Token (SeenNext text) (behind_in text) d) in no_source z.ends refl

  empty : {o : ℕ} {w : List ℕ} {g : Flags} {st en : ℕ} (rs : Parts) {s e : Token} {P : List Pair} → SpellsIn text o specifier (node ExportSpecifier w g st en rs) s e P → SpellsIn text o specifier (node ExportSpecifier w g st en rs) s e []
  empty {o} {w} {g} {st} {en} rs {s} {e} d = subst (λ v. SpellsIn text o specifier (node ExportSpecifier w g st en rs) s e v) (export_form Token (SeenNext text) (behind_in text) (seen_determined text) rs d).pairs d

  pub list_given : {o : ℕ} (ps : Parts) {s e : Token} {P : List Pair} → RunsIn text o (goes_to Expression true Any (export_list (bare_parts ps))) ps s e P → ListGiven ps s e
  list_given none d = absurd (run_never Token (SeenNext text) (behind_in text) d)
  list_given (gap none) d = let a = run_token Token (SeenNext text) (behind_in text) d in no_specifiers a.reads (ended a.runs)
  list_given (gap (part n ps)) d = absurd (run_never Token (SeenNext text) (behind_in text) d)
  list_given (gap (gap ps)) d = absurd (run_never Token (SeenNext text) (behind_in text) d)
  list_given (part n none) d = let a = run_token Token (SeenNext text) (behind_in text) d in no_specifiers a.reads (sourced a.runs)
  list_given (part (node ExportSpecifier w g st en rs) (gap none)) d =
      let i = run_the_part Token (SeenNext text) (behind_in text) d in
      let c = run_step Token (SeenNext text) (behind_in text) (seen_determined text) without_mark i.runs in
      let a = run_token Token (SeenNext text) (behind_in text) c.runs in
      last_specifier (empty rs i.spelled) c.one a.reads (ended a.runs)
  list_given (part (node ExportSpecifier w g st en rs) (part m none)) d =
      let i = run_the_part Token (SeenNext text) (behind_in text) d in
      let c = run_step Token (SeenNext text) (behind_in text) (seen_determined text) without_mark i.runs in
      let a = run_token Token (SeenNext text) (behind_in text) c.runs in
      last_specifier (empty rs i.spelled) c.one a.reads (sourced a.runs)
  list_given (part (node ExportSpecifier w g st en rs) (gap (part m ps))) d =
      let i = run_the_part Token (SeenNext text) (behind_in text) d in
      let c = run_token Token (SeenNext text) (behind_in text) i.runs in
      absurd (run_never Token (SeenNext text) (behind_in text) (run_laid Token (SeenNext text) (behind_in text) c.runs))
  list_given (part (node ExportSpecifier w g st en rs) (gap (gap ps))) d =
      let i = run_the_part Token (SeenNext text) (behind_in text) d in
      let c = run_token Token (SeenNext text) (behind_in text) i.runs in
      absurd (run_never Token (SeenNext text) (behind_in text) (run_laid Token (SeenNext text) (behind_in text) c.runs))
  list_given (part (node ExportSpecifier w g st en rs) (part m (part l ps))) d =
      let i = run_the_part Token (SeenNext text) (behind_in text) d in
      let c = run_token Token (SeenNext text) (behind_in text) i.runs in
      further (empty rs i.spelled) c.reads (list_given (part m (part l ps)) (run_laid Token (SeenNext text) (behind_in text) c.runs))
  list_given (part (node ExportSpecifier w g st en rs) (part m (gap ps))) d =
      let i = run_the_part Token (SeenNext text) (behind_in text) d in
      let c = run_token Token (SeenNext text) (behind_in text) i.runs in
      further (empty rs i.spelled) c.reads (list_given (part m (gap ps)) (run_laid Token (SeenNext text) (behind_in text) c.runs))
  list_given (part (node _ w g st en rs) (part m ps)) d = absurd (run_never Token (SeenNext text) (behind_in text) d)
  list_given (part (node _ w g st en rs) (gap ps)) d = absurd (run_never Token (SeenNext text) (behind_in text) d)

  -- behind `export`: braces, a star
  pub record NamesAt (qs : Parts) (s to : Token) : Type 0 where
    pub m : Token
    pub x : Token
    pub word : ReadsHere text IdentifierName (codes "export") s m
    pub brace : ReadsHere text Punctuator (codes "{") m x
    pub list : ListGiven qs x to

  names_at : {o : ℕ} {st en : ℕ} (qs : Parts) {s e : Token} {P : List Pair} → SpellsIn text o module_item (node ExportNamedDeclaration [] plain st en (gap qs)) s e P → NamesAt qs s e
  unfolding spellings
  names_at qs (direct xs h pl d) =
      let v = way_of h in
      let a = run_token Token (SeenNext text) (behind_in text) (retell Token (SeenNext text) (behind_in text) (v.is ∙ ap (goes_to Expression true Any) (pieces_of_one v.listed)) d) in
      let b = run_token Token (SeenNext text) (behind_in text) (run_the_gap Token (SeenNext text) (behind_in text) (run_laid Token (SeenNext text) (behind_in text) a.runs)) in
      record { m = a.mid; x = b.mid; word = read_here text a.reads; brace = read_here text b.reads; list = list_given qs b.runs }

  pub data AllGiven (ps : Parts) (x to : Token) : Type 0 where
    unnamed : {source : Tree} → FromGiven text source x to → ps ≡ gap (part source none) → AllGiven ps x to
    named : {o : ℕ} {n source : Tree} {y k : Token} {Q : List Pair} → ReadsHere text IdentifierName (codes "as") x y → RunsIn text o (anywhere (module_name n ∷ [])) (part n none) y k Q → FromGiven text source k to → ps ≡ part n (part source none) → AllGiven ps x to

  pub record AllAt (ps : Parts) (s to : Token) : Type 0 where
    pub m : Token
    pub x : Token
    pub word : ReadsHere text IdentifierName (codes "export") s m
    pub star : ReadsHere text Punctuator (codes "*") m x
    pub all : AllGiven ps x to

  all_at : {o : ℕ} {st en : ℕ} (ps : Parts) {s e : Token} {P : List Pair} → SpellsIn text o module_item (node ExportAllDeclaration [] plain st en ps) s e P → AllAt ps s e
  unfolding spellings
  all_at (gap (part l none)) (direct xs h pl d) =
      let v = way_of h in
      let a = run_token Token (SeenNext text) (behind_in text) (retell Token (SeenNext text) (behind_in text) (v.is ∙ ap (goes_to Expression true Any) (pieces_of_one v.listed)) d) in
      let b = run_token Token (SeenNext text) (behind_in text) (run_the_gap Token (SeenNext text) (behind_in text) (run_laid Token (SeenNext text) (behind_in text) a.runs)) in
      let f = from_given text b.runs in
      record { m = a.mid; x = b.mid; word = read_here text a.reads; star = read_here text b.reads; all = unnamed f.given (ap gap f.parts) }
  all_at (part n (part l none)) (direct xs h pl d) =
      let v = way_of h in
      let a = run_token Token (SeenNext text) (behind_in text) (retell Token (SeenNext text) (behind_in text) (v.is ∙ ap (goes_to Expression true Any) (pieces_of_one v.listed)) d) in
      let b = run_token Token (SeenNext text) (behind_in text) (run_laid Token (SeenNext text) (behind_in text) a.runs) in
      let c = run_token Token (SeenNext text) (behind_in text) (run_laid Token (SeenNext text) (behind_in text) b.runs) in
      let i = run_the_part Token (SeenNext text) (behind_in text) (run_laid Token (SeenNext text) (behind_in text) c.runs) in
      let f = from_given text i.runs in
      record { m = a.mid; x = b.mid; word = read_here text a.reads; star = read_here text b.reads; all = named (read_here text c.reads) (either_runs text (is_identifier (kind_of (bare n))) i.spelled) f.given (ap (part n) f.parts) }
  all_at none (direct xs h pl d) = elim ((way_of h).listed) [ ]
  all_at (gap none) (direct xs h pl d) = elim ((way_of h).listed) [ ]
  all_at (gap (gap ps)) (direct xs h pl d) = elim ((way_of h).listed) [ ]
  all_at (gap (part l (part n ps))) (direct xs h pl d) = elim ((way_of h).listed) [ ]
  all_at (gap (part l (gap ps))) (direct xs h pl d) = elim ((way_of h).listed) [ ]
  all_at (part n none) (direct xs h pl d) = elim ((way_of h).listed) [ ]
  all_at (part n (gap ps)) (direct xs h pl d) = elim ((way_of h).listed) [ ]
  all_at (part n (part l (part m ps))) (direct xs h pl d) = elim ((way_of h).listed) [ ]
  all_at (part n (part l (gap ps))) (direct xs h pl d) = elim ((way_of h).listed) [ ]

  -- A given export by its form
  pub data ExportForm (o : ℕ) (n : Tree) (m to : Token) (P : List Pair) : Type 0 where
    of_names : {qs : Parts} {x : Token} → ReadsHere text Punctuator (codes "{") m x → ListGiven qs x to → n ≡ node ExportNamedDeclaration [] plain m.start to.stop (gap qs) → P ≡ [] → ExportForm o n m to P
    of_all : {ps : Parts} {x : Token} → ReadsHere text Punctuator (codes "*") m x → AllGiven ps x to → n ≡ node ExportAllDeclaration [] plain m.start to.stop ps → P ≡ [] → ExportForm o n m to P
    of_declared : {d : Tree} → SpellsIn text o (item false) d m to P → is_exported (kind_of d) ≡ true → n ≡ node ExportNamedDeclaration [] plain m.start to.stop (part d (gap none)) → ExportForm o n m to P
    of_default : {ps : Parts} {x : Token} → ReadsHere text IdentifierName (codes "default") m x → Default Token (SeenNext text) (behind_in text) (seen_determined text) o x to ps P → n ≡ node ExportDefaultDeclaration [] plain m.start to.stop ps → ExportForm o n m to P

  all_pairs : {s e : Token} {ps : Parts} {P : List Pair} → All Token (SeenNext text) (behind_in text) (seen_determined text) s e ps P → P ≡ []
  all_pairs (without_name f p) = f.pairs
  all_pairs (with_name r l f p) = f.pairs

  names_pairs : {s e : Token} {ps : Parts} {P : List Pair} → Exports Token (SeenNext text) (behind_in text) (seen_determined text) s e ps P → P ≡ []
  names_pairs (with_source f) = f.pairs
  names_pairs (own_names z) = refl

  import_or_export : {A : Type 0} {s k k' : Token} {t : Token} → ReadsHere text IdentifierName (codes "export") s k → Reads Token (SeenNext text) (behind_in text) IdentifierName (codes "import") s t k' → A
  import_or_export r r' = absurd (false≢true (ap (λ w. is w "export") (sym r'.text ∙ ap (λ (x : Token). x.text) (words_same text r' r).0 ∙ r.text)))

  spans : {K : Kind} {st en : ℕ} {ps : Parts} {n : Tree} {b m to : Token} → n ≡ node K [] plain st en ps → Placed Token (SeenNext text) (behind_in text) module_item n b to → ReadsHere text IdentifierName (codes "export") b m → n ≡ node K [] plain m.start to.stop ps
  spans {K = K} {st} {en} {ps} {n} {b} {m} {to} tree pl word = tree ∙ (let u = of (subst (λ v. Placed Token (SeenNext text) (behind_in text) module_item v b to) tree pl) in same_node refl refl refl u.0 u.1 refl)
    where
      of : Placed Token (SeenNext text) (behind_in text) module_item (node K [] plain st en ps) b to → (st ≡ m.start) × (en ≡ to.stop)
      of (placed {t = u} {m = k} nx p) = (sym (ap (λ (x : ℕ × ℕ). x.0) p) ∙ (seen_determined text).start b u (behind_in text m) k m nx word.next, sym (ap (λ (x : ℕ × ℕ). x.1) p))

  pub export_node : {o : ℕ} {n : Tree} {b m to : Token} {P : List Pair} → ReadsHere text IdentifierName (codes "export") b m → SpellsIn text o module_item n b to P → ExportForm o n m to P
  export_node {o} {n} {b} {m} {to} {P} word d = of (module_item_form Token (SeenNext text) (behind_in text) (seen_determined text) d)
    where
      by : {K : Kind} {st en : ℕ} {ps : Parts} {x : Token} {t : Token} → n ≡ node K [] plain st en ps → Placed Token (SeenNext text) (behind_in text) module_item n b to → Reads Token (SeenNext text) (behind_in text) IdentifierName (codes "export") b t x → Export Token (SeenNext text) (behind_in text) (seen_determined text) o x to ps P K → ExportForm o n m to P
      by {st = st} {en} tree pl r (names {qs = qs} brace l p) =
          let u = names_at qs (subst (λ v. SpellsIn text o module_item v b to P) (tree ∙ ap (node ExportNamedDeclaration [] plain st en) p) d) in
          let there : u.m ≡ m = (words_same text u.word word).1 in
          of_names (subst (λ v. ReadsHere text Punctuator (codes "{") v u.x) there u.brace) u.list (spans (tree ∙ ap (node ExportNamedDeclaration [] plain st en) p) pl word) (listed_pairs Token (SeenNext text) (behind_in text) (seen_determined text) (λ x e ps P z. names_pairs z) l)
      by {st = st} {en} {ps} tree pl r (all star a) =
          let u = all_at ps (subst (λ v. SpellsIn text o module_item v b to P) tree d) in
          let there : u.m ≡ m = (words_same text u.word word).1 in
          of_all (subst (λ v. ReadsHere text Punctuator (codes "*") v u.x) there u.star) u.all (spans tree pl word) (all_pairs a)
      by {st = st} {en} {x = x} tree pl r (declared {n = k} e h p) =
          of_declared (subst (λ v. SpellsIn text o (item false) k v to P) (words_same text r word).1 e) h (spans (tree ∙ ap (node ExportNamedDeclaration [] plain st en) p) pl word)
      by {st = st} {en} {ps} tree pl r (by_default {x = y} w e) =
          of_default (subst (λ v. ReadsHere text IdentifierName (codes "default") v y) (words_same text r word).1 (read_here text w)) e (spans tree pl word)

      of : ModuleItem Token (SeenNext text) (behind_in text) (seen_determined text) o n b to P → ExportForm o n m to P
      of (an_import tree pl r i) = import_or_export word r
      of (an_export tree pl r i) = by tree pl r i

  -- no exported declaration begins with a brace
  no_block : {o : ℕ} {n : Tree} {s m e : Token} {P : List Pair} {t : Token} {b : StatementStart} → Viewed Token (SeenNext text) (behind_in text) (seen_determined text) false false o (item false) t m n s e P b → b ≡ a_block → is_exported (kind_of n) ≡ true → ⊥
  no_block (its_own own u) h x = false≢true (ap is_exported (sym (block_kind u.kind (u.begins ∙ h)) ∙ sym (ap kind_of u.tree)) ∙ x)
  no_block (another e u) h x = cc
  no_block (later (later_for z tree pl d)) h x = cc
  no_block (later (later_generator tree pl d)) h x = cc
  no_block (later (later_async c w z tree pl d)) h x = cc

  pub no_brace_declared : {A : Type 0} {o : ℕ} {n : Tree} {s k e : Token} {P : List Pair} → ReadsHere text Punctuator (codes "{") s k → SpellsIn text o (item false) n s e P → is_exported (kind_of n) ≡ true → A
  no_brace_declared {k = k} r d x =
      let t = behind_in text k in
      let al : IsTrue (allows Goal.RegExp t.class t.text) = subst (λ c. IsTrue (allows Goal.RegExp c t.text)) (sym r.class) (subst (λ c. IsTrue (allows Goal.RegExp Punctuator c)) (sym r.text) refl) in
      absurd (no_block (viewed Token (SeenNext text) (behind_in text) (seen_determined text) as_item (record { next = r.next; allowed = al }) d) (ap (λ c. statement_start_by true false c t.text) r.class ∙ ap (statement_start_by true false Punctuator) r.text) x)
