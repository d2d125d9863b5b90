-- The scopes and references of a tree, in the order of the tree. What stands round a node comes down from the Program, so the
-- meaning of a reference is looked up along its path, from the nearest scope outwards (GetIdentifierReference, 8.1.2.1).
use Rattle.std.specs.Prelude.{ℕ, suc, Bool, true, false, not, cond, ◌+◌, ◌-◌, ◌&&◌, ◌||◌, List, [], ◌∷◌, ◌++◌, length, Option, Some, None, option_map, is_some, unwrap_or}
use Rattle.std.specs.Str.{bytes_eq}
use Rattle.tree.specs.declared.kind.Kind.{Kind}
use Rattle.tree.specs.declared.kind.Kind.TheVariants.{Identifier}
use Rattle.tree.specs.declared.kind.Flags.{Flags}
use Rattle.tree.specs.Tree.{Tree, node, Parts, none, part, gap, part_at, part_count}
use Rattle.language.specs.Vocabulary.{is}
use Rattle.scopes.specs.declared.identifier_use.IdentifierUse.{IdentifierUse}
use Rattle.scopes.specs.declared.identifier_use.IdentifierUse.TheVariants.{Read}
use Rattle.scopes.specs.Roles.{part_role, is_reference, does_read, does_write, is_called, is_constructed, is_typeof_operand}
use Rattle.scopes.specs.Bindings.{Binding, has_name}
use Rattle.scopes.specs.Openings.{scope_round_all, scope_round_others, has_arguments}

-- a scope round a node: its number, and what it declares
pub record Frame : Type 0 where
  pub number : ℕ
  pub bindings : List Binding

-- what stands round a node: the scopes, the nearest first; whether it stands in a function that isn't an arrow, which has an
-- `arguments` of its own; what the node is to its parent
pub record Around : Type 0 where
  pub frames : List Frame
  pub in_function : Bool
  pub role : IdentifierUse

-- the place of a name among bindings
abbrev pub index_of : List ℕ → List Binding → Option ℕ
index_of word [] = None
index_of word (b ∷ bs) = cond (bytes_eq word b.name) (Some 0) (option_map suc (index_of word bs))

-- the place in this scope, or what the name means further out
abbrev pub here_or_outer : ℕ → Option ℕ → Option (ℕ × ℕ) → Option (ℕ × ℕ)
here_or_outer n None o = o
here_or_outer n (Some i) o = Some (n, i)

-- the binding of a name in the nearest scope that declares it: the scope's number, and the place among its bindings
abbrev pub nearest : List ℕ → List Frame → Option (ℕ × ℕ)
nearest word [] = None
nearest word (f ∷ fs) = here_or_outer f.number (index_of word f.bindings) (nearest word fs)

-- the binding of this name is exported
abbrev pub exported_first : List ℕ → List Binding → List Binding
exported_first word [] = []
exported_first word (b ∷ bs) = cond (bytes_eq word b.name) (record b { exported = true } ∷ bs) (b ∷ exported_first word bs)

-- one more name is declared: where the name stands already, its first identifier counts; an export of it counts too
abbrev pub added : List Frame → List Binding → Binding → List Binding
added fs bs b = cond (has_name b.name bs) (cond b.exported (exported_first b.name bs) bs) (bs ++ record b { shadows = is_some (nearest b.name fs) } ∷ [])

-- the bindings of the names that a scope declares: one for each name, that of its first identifier
abbrev pub collected : List Frame → List Binding → List Binding → List Binding
collected fs bs [] = bs
collected fs bs (x ∷ xs) = collected fs (added fs bs x) xs

-- the declaration of a name that stands already
abbrev pub again : List Binding → Binding → List Binding
again bs x = cond (has_name x.name bs) (x ∷ []) []

-- those of a scope, in the order of the tree
abbrev pub redeclarations : List Frame → List Binding → List Binding → List Binding
redeclarations fs bs [] = []
redeclarations fs bs (x ∷ xs) = again bs x ++ redeclarations fs (added fs bs x) xs

-- `meaning`: the number of the scope that declares the name, and the place among its bindings; none where no scope does
pub record Reference : Type 0 where
  pub name : List ℕ
  pub scope : ℕ
  pub reads : Bool
  pub writes : Bool
  pub start : ℕ
  pub stop : ℕ
  pub typeof_operand : Bool
  pub called : Bool
  pub constructed : Bool
  pub meaning : Option (ℕ × ℕ)

-- a scope: the number of the one round it, what it declares, and the further declarations of these names
pub record Scope : Type 0 where
  pub parent : Option ℕ
  pub bindings : List Binding
  pub redeclared : List Binding

pub record Found : Type 0 where
  pub scopes : List Scope
  pub references : List Reference

abbrev pub nothing : Found
nothing = record { scopes = []; references = [] }

abbrev pub joined : Found → Found → Found
joined a b = record { scopes = a.scopes ++ b.scopes; references = a.references ++ b.references }

-- the number of the nearest scope
abbrev pub scope_of : List Frame → Option ℕ
scope_of [] = None
scope_of (f ∷ fs) = Some f.number

-- the reference that a node is, if it is one
abbrev pub own_reference : Around → Tree → List Reference
own_reference z (node Identifier word node_flags from to parts) =
    cond (is_reference z.role && not (z.in_function && is word "arguments"))
    (record { name = word; scope = unwrap_or (scope_of z.frames) 0; reads = does_read z.role; writes = does_write z.role; start = from; stop = to; typeof_operand = is_typeof_operand z.role; called = is_called z.role; constructed = is_constructed z.role; meaning = nearest word z.frames } ∷ []) []
own_reference z (node _ word node_flags from to parts) = []

-- the scope that declares these names
abbrev pub opened : Around → List Binding → Found
opened z xs = record { scopes = record { parent = scope_of z.frames; bindings = collected z.frames [] xs; redeclared = redeclarations z.frames [] xs } ∷ []; references = [] }

-- what stands round the nodes in it
abbrev pub enter : Around → ℕ → List Binding → Around
enter z n xs = record z { frames = record { number = n; bindings = collected z.frames [] xs } ∷ z.frames }

-- the scope of these names, if there is one, and what is found in it; the number is the next scope's
abbrev pub in_scope : Option (List Binding) → Around → ℕ → (Around → ℕ → Found) → Found
in_scope None z n f = f z n
in_scope (Some xs) z n f = joined (opened z xs) (f (enter z n xs) (n + 1))

-- what is found in one part, and then behind it
abbrev pub one_part : Found → ℕ → (ℕ → Found) → Found
one_part a n f = joined a (f (n + length a.scopes))

-- what the roles of a node's parts depend on: its own role, kind, text and flags, the place of its last part, and whether that is there
pub record Inside : Type 0 where
  pub role : IdentifierUse
  pub kind : Kind
  pub text : List ℕ
  pub flags : Flags
  pub last : ℕ
  pub has_last : Bool

abbrev pub at_place : Inside → Around → ℕ → Around
at_place y z i = record z { role = part_role y.role y.kind y.text y.flags y.has_last y.last i }

abbrev pub round_others : Inside → Around → Around
round_others y z = record z { in_function = z.in_function || has_arguments y.kind }

unfoldable mutual
  -- what is found in a node and below it
  pub found_in : Around → ℕ → Tree → Found
  found_in z n (node node_kind word node_flags from to parts) =
      let y : Inside = record { role = z.role; kind = node_kind; text = word; flags = node_flags; last = part_count parts - 1; has_last = is_some (part_at parts (part_count parts - 1)) } in
      joined (record { scopes = []; references = own_reference z (node node_kind word node_flags from to parts) })
      (in_scope (scope_round_all z.role node_kind parts) z n (λ x m. all_parts y x m (scope_round_others node_kind parts) parts))

  -- in all parts: in the first, and in the others within their scope
  pub all_parts : Inside → Around → ℕ → Option (List Binding) → Parts → Found
  all_parts y z n b none = in_scope b (round_others y z) n (λ x m. nothing)
  all_parts y z n b (gap rest) = in_scope b (round_others y z) n (λ x m. parts_from y x 1 m rest)
  all_parts y z n b (part tree rest) =
      one_part (found_in (at_place y z 0) n tree) n (λ m. in_scope b (round_others y z) m (λ x o. parts_from y x 1 o rest))

  -- in parts, the first of which stands at this place
  pub parts_from : Inside → Around → ℕ → ℕ → Parts → Found
  parts_from y z i n none = nothing
  parts_from y z i n (gap rest) = parts_from y z (i + 1) n rest
  parts_from y z i n (part tree rest) = one_part (found_in (at_place y z i) n tree) n (λ m. parts_from y z (i + 1) m rest)

-- what stands round the Program
abbrev pub outside : Around
outside = record { frames = []; in_function = false; role = Read }

-- all scopes and references of a script, numbered as they are listed: 0 is the script's own scope
abbrev pub found : Tree → Found
found tree = found_in outside 0 tree
