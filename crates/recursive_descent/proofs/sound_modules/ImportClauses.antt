-- An ImportClause as it is read: a default name, all names as one, names in braces (ECMA-262, 13th edition, 16.2.2).
use Rattle.std.proofs.Common.{◌≡◌, ℕ, [], sym, ap, ◌∙◌, subst}
use Rattle.std.specs.Prelude.{codes}
use Rattle.tokens.specs.declared.token.TokenClass.TheVariants.{IdentifierName, Punctuator}
use Rattle.tokens.specs.declared.token.Goal.TheVariants.{Div}
use Rattle.token_cursor.specs.CursorState.{CursorState, IsPlaceHere}
use Rattle.tree.specs.declared.kind.Kind.TheVariants.{ImportDeclaration, ImportSpecifier, ImportDefaultSpecifier, ImportNamespaceSpecifier}
use Rattle.tree.specs.Tree.{Tree, node, plain, Parts, none, part, push, join}
use Rattle.tree.proofs.Shapes.{push-join, join-push}
use Rattle.language.specs.Pieces.{specifier, name}
use Rattle.language.specs.Statements.{from_source, named_imports}
use Rattle.language.specs.Token.{Token}
use Rattle.language.specs.Promises.{ReadBy}
use Rattle.token_cursor.specs.SourceText.{SourceText, SeenNext, behind_in}
use Rattle.token_cursor.specs.Seen.{ReadsHere}
use Rattle.token_cursor.proofs.SeenTokens.{seen_determined}
use Rattle.recursive_descent.specs.Soundness.{RunsIn, anywhere}
use Rattle.recursive_descent.specs.Spelled.{SpellsIn}
use Rattle.recursive_descent.specs.ModuleItems.{ItemAt, binding, BindingAt, ClauseAt}
use Rattle.recursive_descent.proofs.reading.Forward.{place_mark, place_token}
use Rattle.recursive_descent.proofs.complete_modules.NamesGiven.{binding_given, named_free}
use Rattle.recursive_descent.proofs.sound_modules.ModuleNames.{default_specified, namespace_specified}
use Rattle.recursive_descent.proofs.sound_modules.ImportItems.{import_all, import_default, import_default_all, import_named, import_default_named}
use Rattle.recursive_descent.proofs.sound_modules.SpecifierLoop.{SpecifiersDone}

-- a default name is a specifier, and all names as one
pub default_bound : (s e : CursorState) (start : ℕ) {left : Tree} → IsPlaceHere s start → ((o : ℕ) → SpellsIn s.text o name left s.last e.last []) → (o : ℕ) → SpellsIn s.text o specifier (binding ImportDefaultSpecifier start e.last left) s.last e.last []
default_bound s e start {left} here d o =
    let g = binding_given s.text (d o) in
    let read : ReadBy Token (SeenNext s.text) (behind_in s.text) Div s.last g.token e.last = record { next = g.next; allowed = (seen_determined s.text).free Div s.last g.token e.last g.next (named_free g.token.class g.names) } in
    subst (λ b. SpellsIn s.text o specifier (binding ImportDefaultSpecifier b e.last left) s.last e.last []) (sym (place_token s here read)) (default_specified s.text g.next (d o))

pub namespace_bound : (text : SourceText) (a : CursorState) (start : ℕ) {left : Tree} {x b e : Token} → a.text ≡ text → IsPlaceHere a start → ReadsHere text Punctuator (codes "*") a.last x → ReadsHere text IdentifierName (codes "as") x b → ((o : ℕ) → SpellsIn text o name left b e []) → (o : ℕ) →
    SpellsIn text o specifier (binding ImportNamespaceSpecifier start e left) a.last e []
namespace_bound text a start {left} {x} {b} {e} same here star word d o =
    let begins : start ≡ x.start = place_mark a here (subst (λ v. ReadsHere v Punctuator (codes "*") a.last x) (sym same) star) in
    subst (λ b. SpellsIn text o specifier (binding ImportNamespaceSpecifier b e left) a.last e []) (sym begins) (namespace_specified text star word (d o))

-- what was read before: nothing, or a default name and a comma
pub data ClauseBefore (text : SourceText) (before nodes : Parts) (s a : Token) : Type 0 where
  at_first : nodes ≡ before → a ≡ s → ClauseBefore text before nodes s a
  behind_name : {start : ℕ} {left : Tree} {c : Token} → ((o : ℕ) → SpellsIn text o specifier (binding ImportDefaultSpecifier start c left) s c []) → ReadsHere text Punctuator (codes ",") c a → nodes ≡ push before (binding ImportDefaultSpecifier start c left) → ClauseBefore text before nodes s a

-- the whole
abbrev pub ClauseDone : CursorState → CursorState → Parts → Parts → Type 0
ClauseDone s e before nodes = (ps : Parts) × (nodes ≡ join before ps) × ClauseAt s e ps

pub before_default : (s m : CursorState) (start : ℕ) (n : Tree) (before nodes : Parts) {c : Token} → IsPlaceHere s start → BindingAt ImportDefaultSpecifier start s m n → ReadsHere s.text Punctuator (codes ",") m.last c → nodes ≡ push before n → ClauseBefore s.text before nodes s.last c
before_default s m start n before nodes here (left, tree, d) comma added = behind_name (default_bound s m start here d) comma (added ∙ ap (push before) tree)

module _ (s e : CursorState) (before : Parts) where
  -- an import with this before its source
  abbrev Sourced : Parts → Type 0
  Sourced ps = ClauseAt s e ps

  pub clause_default : (start : ℕ) (n : Tree) (m : CursorState) (nodes : Parts) → IsPlaceHere s start → BindingAt ImportDefaultSpecifier start s m n → e.last ≡ m.last → nodes ≡ push before n → ClauseDone s e before nodes
  clause_default start n m nodes here (left, tree, d) place added =
      let sourced : Sourced (part n none) = λ source o from to rest.
      subst (λ k. ItemAt s.text (codes "import") from (node ImportDeclaration [] plain from to.stop (part k (part source none))) o s.last to []) (sym tree)
      (import_default s.text start left source (default_bound s m start here d o) (subst (λ c. RunsIn s.text o (anywhere from_source) (part source none) c to []) place rest)) in
      (part n none, added ∙ push-join before n, sourced)

  module _ (a : CursorState) (nodes : Parts) (same : a.text ≡ s.text) where
    pub clause_all : (start : ℕ) (n : Tree) (b : CursorState) (x : Token) (after : Parts) → ClauseBefore s.text before nodes s.last a.last → IsPlaceHere a start → ReadsHere s.text Punctuator (codes "*") a.last x → ReadsHere s.text IdentifierName (codes "as") x b.last → b.text ≡ s.text → BindingAt ImportNamespaceSpecifier start b e n → after ≡ push nodes n → ClauseDone s e before after
    clause_all start n b x after was here star word text (left, tree, d) added = of was
      where
        whole : (o : ℕ) → SpellsIn s.text o specifier (binding ImportNamespaceSpecifier start e.last left) a.last e.last []
        whole = namespace_bound s.text a start same here star word (λ o. subst (λ v. SpellsIn v o name left b.last e.last []) text (d o))

        of : ClauseBefore s.text before nodes s.last a.last → ClauseDone s e before after
        of (at_first is place) =
            let sourced : Sourced (part n none) = λ source o from to rest.
            subst (λ k. ItemAt s.text (codes "import") from (node ImportDeclaration [] plain from to.stop (part k (part source none))) o s.last to []) (sym tree)
            (import_all s.text start left source (subst (λ c. SpellsIn s.text o specifier (binding ImportNamespaceSpecifier start e.last left) c e.last []) place (whole o)) rest) in
            (part n none, added ∙ ap (λ ps. push ps n) is ∙ push-join before n, sourced)
        of (behind_name {start = st} {left = l} {c = c} first comma is) =
            let sourced : Sourced (part (binding ImportDefaultSpecifier st c l) (part n none)) = λ source o from to rest.
            subst (λ k. ItemAt s.text (codes "import") from (node ImportDeclaration [] plain from to.stop (part (binding ImportDefaultSpecifier st c l) (part k (part source none)))) o s.last to []) (sym tree)
            (import_default_all s.text st start l left source (first o) comma (whole o) rest) in
            (part (binding ImportDefaultSpecifier st c l) (part n none), added ∙ ap (λ ps. push ps n) is ∙ push-join (push before (binding ImportDefaultSpecifier st c l)) n ∙ join-push before (part n none) (binding ImportDefaultSpecifier st c l), sourced)

    pub clause_named : (after : Parts) → ClauseBefore s.text before nodes s.last a.last → SpecifiersDone ImportSpecifier a e nodes after → ClauseDone s e before after
    clause_named after was (ps, added, d) = of was
      where
        names : (source : Tree) (o : ℕ) (to : Token) → RunsIn s.text o (anywhere from_source) (part source none) e.last to [] → RunsIn s.text o (anywhere (named_imports (push ps source))) (push ps source) a.last to []
        names source o to rest = subst (λ v. RunsIn v o (anywhere (named_imports (push ps source))) (push ps source) a.last to []) same (d source o to (subst (λ v. RunsIn v o (anywhere from_source) (part source none) e.last to []) (sym same) rest))

        of : ClauseBefore s.text before nodes s.last a.last → ClauseDone s e before after
        of (at_first is place) =
            let sourced : Sourced ps = λ source o from to rest. import_named s.text ps source (subst (λ c. RunsIn s.text o (anywhere (named_imports (push ps source))) (push ps source) c to []) place (names source o to rest)) in
            (ps, added ∙ ap (λ v. join v ps) is, sourced)
        of (behind_name {start = st} {left = l} {c = c} first comma is) =
            let sourced : Sourced (part (binding ImportDefaultSpecifier st c l) ps) = λ source o from to rest. import_default_named s.text st l ps source (first o) comma (names source o to rest) in
            (part (binding ImportDefaultSpecifier st c l) ps, added ∙ ap (λ v. join v ps) is ∙ join-push before ps (binding ImportDefaultSpecifier st c l), sourced)
