use Rattle.std.proofs.Common.{◌≡◌, [], ◌∷◌, ◌++◌, List, drop}
use Rattle.scopes.specs.Found.{Frame, collected, redeclarations}
use Rattle.scopes.specs.Shown.{Below, Meant, all_declared, all_shown, frame}
use Rattle.name_tables.specs.Tables.{Agree, value_at, undone}
use Rattle.scopes.proofs.meanings.open_scope.Given as goal

abbrev pub invariant-loop-name : goal.invariant-loop-name
invariant-loop-name l = record {
  redeclared : (fs : List Frame) → Meant (value_at l.fn.meanings) fs → Below l.number fs → all_shown l.redeclared.items ++ redeclarations fs (all_shown l.bindings.items) (all_declared (drop l.name-index l.names)) ≡ redeclarations fs [] (all_declared l.names);
  bindings : (fs : List Frame) → Meant (value_at l.fn.meanings) fs → Below l.number fs → collected fs (all_shown l.bindings.items) (all_declared (drop l.name-index l.names)) ≡ collected fs [] (all_declared l.names);
  meanings : (fs : List Frame) → Meant (value_at l.fn.meanings) fs → Below l.number fs → Meant (value_at l.meanings) (frame l.number (all_shown l.bindings.items) ∷ fs);
  kept : Agree (undone (value_at l.meanings) l.saved.items) (undone (value_at l.fn.meanings) l.fn.saved.items);
}
