-- What an item declares, by its kind.
use Rattle.std.proofs.Common.{◌≡◌, ℕ, Bool, true, false, cond, List, [], ◌++◌, map, is_some, refl, sym, ap, ◌∙◌, append-nil}
use Rattle.tree.specs.declared.kind.Kind.TheVariants.{VariableDeclaration, ClassDeclaration, FunctionDeclaration, ImportDeclaration}
use Rattle.tree.specs.Tree.{Tree, Parts, none, part, gap, node, kind_of, text_of, parts_of, part_at}
use Rattle.language.specs.FirstPart.{others}
use Rattle.language.specs.Vocabulary.{is}
use Rattle.scopes.specs.declared.names.DeclaredIn.{DeclaredIn}
use Rattle.scopes.specs.declared.names.DeclaredIn.TheVariants.{Statement, Export, ForHead, ForInOfHead}
use Rattle.scopes.specs.declared.names.VarNames.{VarNames}
use Rattle.scopes.specs.declared.names.VarNames.TheVariants as var
use Rattle.name_tables.specs.BoundNames.{each_part}
use Rattle.name_tables.specs.DeclaredNames as declared
use Rattle.name_tables.specs.DeclaredNames.{declaration_of, declarator_names, own_lexical_names}
use Rattle.name_tables.specs.DeclaratorParts as parts
use Rattle.name_tables.specs.DeclaratorParts.{how_of}
use Rattle.name_tables.specs.PatternParts.{bound_as}
use Rattle.name_tables.proofs.Retold.{lexically, at-case}
use Rattle.scopes.specs.declared.kind.BindingKind.{BindingKind}
use Rattle.scopes.specs.declared.kind.BindingKind.TheVariants.{Var, Let, Const, Function, Class, Import}
use Rattle.scopes.specs.Shown.{made_of}
use Rattle.scopes.specs.Bindings.{Binding, binding_at, lexical, vars_in, parts_vars, holds_statements, is_exported, is_initialised, settles, word_kind}
use Rattle.scopes.specs.Gathered.{declarator_as, declared_by_var, lexical_as, var_names_of}
use Rattle.scopes.specs.Openings.{case_names}

vars-each : (h : DeclaredIn) (ps : Parts) → parts_vars h ps ≡ each_part (vars_in h) ps
unfolding parts_vars
vars-each h none = refl
vars-each h (part t ps) = ap (λ l. vars_in h t ++ l) (vars-each h ps)
vars-each h (gap ps) = vars-each h ps

abbrev pub vars_by : DeclaredIn → VarNames → Tree → List Binding
vars_by h var.Declarators t = declared_by_var h (parts_of t)
vars_by h var.Parts t = each_part (vars_in h) (parts_of t)
vars_by h var.Nothing t = []

held : (h : DeclaredIn) (b : Bool) (t : Tree) → cond b (parts_vars h (parts_of t)) [] ≡ vars_by h (cond b var.Parts var.Nothing) t
held h true t = vars-each h (parts_of t)
held h false t = refl

vars_by_kind : (h : DeclaredIn) (t : Tree) → vars_in h t ≡ vars_by h (var_names_of (kind_of t) (text_of t)) t
unfolding vars_in
vars_by_kind h (node VariableDeclaration w g s e ps) = pick (is w "var")
  where
    pick : (v : Bool) → cond v (declarator_names (λ qs. binding_at (cond v Var (cond (is w "let") Let Const)) (settles h qs) (is_exported h)) ps) [] ++ [] ≡ vars_by h (cond v var.Declarators var.Nothing) (node VariableDeclaration w g s e ps)
    pick true = append-nil (declared_by_var h ps)
    pick false = refl
vars_by_kind h (node k w g s e ps) = held h (holds_statements k) (node k w g s e ps)

pub vars_given : (h : DeclaredIn) (t : Tree) (i : VarNames) → i ≡ var_names_of (kind_of t) (text_of t) → vars_in h t ≡ vars_by h i t
vars_given h t i e = vars_by_kind h t ∙ ap (λ x. vars_by h x t) (sym e)

-- a second part stands there
second : (ps : Parts) → is_some (part_at ps 1) ≡ is_initialised (others ps)
second none = refl
second (part t none) = refl
second (part t (part u ps)) = refl
second (part t (gap ps)) = refl
second (gap none) = refl
second (gap (part u ps)) = refl
second (gap (gap ps)) = refl

bound_so : (h : DeclaredIn) (k : BindingKind) (ps : Parts) (u : Tree) → made_of (bound_as (how_of (declarator_as h k) ps) u) ≡ binding_at k (settles h ps) (is_exported h) u
bound_so Statement k ps u = pick (is_some (part_at ps 1)) (second ps)
  where
    pick : (b : Bool) → b ≡ is_initialised (others ps) → made_of (bound_as (cond b (record { kind = k; settled = true; exported = false }) (record { kind = k; settled = false; exported = false })) u) ≡ binding_at k (is_initialised (others ps)) false u
    pick true e = ap (λ x. binding_at k x false u) e
    pick false e = ap (λ x. binding_at k x false u) e
bound_so Export k ps u = pick (is_some (part_at ps 1)) (second ps)
  where
    pick : (b : Bool) → b ≡ is_initialised (others ps) → made_of (bound_as (cond b (record { kind = k; settled = true; exported = true }) (record { kind = k; settled = false; exported = true })) u) ≡ binding_at k (is_initialised (others ps)) true u
    pick true e = ap (λ x. binding_at k x true u) e
    pick false e = ap (λ x. binding_at k x true u) e
bound_so ForHead k ps u = pick (is_some (part_at ps 1))
  where
    pick : (b : Bool) → made_of (bound_as (cond b (record { kind = k; settled = false; exported = false }) (record { kind = k; settled = false; exported = false })) u) ≡ binding_at k false false u
    pick true = refl
    pick false = refl
bound_so ForInOfHead k ps u = pick (is_some (part_at ps 1))
  where
    pick : (b : Bool) → made_of (bound_as (cond b (record { kind = k; settled = true; exported = false }) (record { kind = k; settled = true; exported = false })) u) ≡ binding_at k true false u
    pick true = refl
    pick false = refl

-- an item's lexical names are those that are bound so
pub lexically_declared : (h : DeclaredIn) (t : Tree) → map made_of (parts.lexical_as (lexical_as h) t) ≡ lexical h t
lexically_declared h t = lexically made_of (lexical_as h) t ∙ so (declaration_of t)
  where
    by_word : (w : List ℕ) (ps : Parts) (v : Bool) → declarator_names (λ qs u. made_of (bound_as (how_of (cond v (declarator_as h Let) (declarator_as h Const)) qs) u)) ps ≡ declarator_names (λ qs. binding_at (cond v Let Const) (settles h qs) (is_exported h)) ps
    by_word w ps true = λ i. declarator_names (λ qs u. bound_so h Let qs u i) ps
    by_word w ps false = λ i. declarator_names (λ qs u. bound_so h Const qs u i) ps

    so : (t : Tree) → own_lexical_names true (λ text qs u. made_of (parts.declarator_as (parts.declarators_as (lexical_as h) text) qs u)) (binding_at Function false (is_exported h)) (binding_at Class false (is_exported h)) (binding_at Import false false) t
        ≡ own_lexical_names true (λ text qs. binding_at (word_kind text) (settles h qs) (is_exported h)) (binding_at Function false (is_exported h)) (binding_at Class false (is_exported h)) (binding_at Import false false) t
    so (node VariableDeclaration w g s e ps) = pick (is w "var")
      where
        pick : (v : Bool) → cond v [] (declarator_names (λ qs u. made_of (bound_as (how_of (cond (is w "let") (declarator_as h Let) (declarator_as h Const)) qs) u)) ps)
            ≡ cond v [] (declarator_names (λ qs. binding_at (cond v Var (cond (is w "let") Let Const)) (settles h qs) (is_exported h)) ps)
        pick true = refl
        pick false = by_word w ps (is w "let")
    so (node FunctionDeclaration w g s e ps) = refl
    so (node ClassDeclaration w g s e ps) = refl
    so (node ImportDeclaration w g s e ps) = refl
    so (node _ w g s e ps) = refl

pub case_declared : (t : Tree) → map made_of (declared.case_names (parts.lexical_as (lexical_as Statement)) t) ≡ case_names t
case_declared t = at-case made_of (parts.lexical_as (lexical_as Statement)) (lexical Statement) (lexically_declared Statement) t

pub declared_var : (h : DeclaredIn) (ps : Parts) → declarator_names (λ qs u. made_of (bound_as (how_of (declarator_as h Var) qs) u)) ps ≡ declared_by_var h ps
declared_var h ps = λ i. declarator_names (λ qs u. bound_so h Var qs u i) ps
