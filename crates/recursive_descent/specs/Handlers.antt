-- What is wanted behind `catch`.
use Rattle.recursive_descent.specs.declared.statement_symbols.Expected.{Expected}
use Rattle.recursive_descent.specs.declared.statement_symbols.Expected.TheVariants as wanted

-- where a handler is wanted
abbrev pub IfHandler : Expected → Type 0 → Type 0
IfHandler (wanted.Handler _) P = P
IfHandler _ P = Unit {0}
